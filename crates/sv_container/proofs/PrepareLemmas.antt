-- Applications that are made ready for their objects, one by one.
use Rattle.sv_container.proofs.Prelude.{◌≡◌, ℕ, ◌+◌, List, [], ◌∷◌, ◌++◌, length, map, sym, ◌∙◌, ap, subst, All, append_assoc, append-nil, All-append, All-cons}
use Rattle.sv_container.proofs.Prelude.{Context, frame_of, Application}
use Rattle.std.proofs.lemmas.List.{length_push, map_push, nil_from_length}
use Rattle.std.proofs.lemmas.List.Elements.{All-nil}
use Rattle.sv_container.specs.Deployment.{Frame, IsEmpty, frame_of_context, frames_from}

module _ {S F : Type 0} where
  -- one more application has the frame of its context
  pub one_more_frame : (apps next : List (Application S F)) (a : Application S F) (c : Context) (left rest : List Context) (place : ℕ) (all : List Frame)
      → next ≡ apps ++ a ∷ [] → left ≡ c ∷ rest → place ≡ length apps → frame_of a ≡ frame_of_context place c
      → map frame_of apps ++ frames_from (length apps) left ≡ all
      → map frame_of next ++ frames_from (length next) rest ≡ all
  unfolding frames_from
  one_more_frame apps next a c left rest place all pushed first at same before =
      let n = length apps in
      let done = map (λ (x : Application S F). frame_of x) apps in
      let frames : map (λ (x : Application S F). frame_of x) next ≡ done ++ frame_of a ∷ [] = ap (map (λ (x : Application S F). frame_of x)) pushed ∙ map_push (λ (x : Application S F). frame_of x) apps a in
      let long : length next ≡ n + 1 = ap length pushed ∙ length_push apps a in
      let its : frame_of a ≡ frame_of_context n c = same ∙ ap (λ (k : ℕ). frame_of_context k c) at in
      ap (λ (l : List Frame). l ++ frames_from (length next) rest) frames
      ∙ (ap (λ (k : ℕ). (done ++ frame_of a ∷ []) ++ frames_from k rest) long
      ∙ (append_assoc done (frame_of a ∷ []) (frames_from (n + 1) rest)
      ∙ (ap (λ (f : Frame). done ++ f ∷ frames_from (n + 1) rest) its
      ∙ (ap (λ (cs : List Context). done ++ frames_from n cs) (sym first) ∙ before))))

  pub all_frames : (apps : List (Application S F)) (left : List Context) (all : List Frame) → length left ≡ 0
      → map frame_of apps ++ frames_from (length apps) left ≡ all → map frame_of apps ≡ all
  unfolding frames_from
  all_frames apps left all none before =
      let frames = map (λ (x : Application S F). frame_of x) apps in
      sym (append-nil frames) ∙ (ap (λ (cs : List Context). frames ++ frames_from (length apps) cs) (sym (nil_from_length left none)) ∙ before)

  pub one_more_empty : (apps next : List (Application S F)) (a : Application S F) → next ≡ apps ++ a ∷ [] → IsEmpty a → All IsEmpty apps → All IsEmpty next
  one_more_empty apps next a pushed empty all =
      subst (λ (l : List (Application S F)). All IsEmpty l) (sym pushed) (All-append IsEmpty apps (a ∷ []) all (All-cons IsEmpty a [] empty (All-nil IsEmpty)))
