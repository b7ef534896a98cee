-- One more segment of a path, one that stops it, and a path that has no first slash.
use Rattle.sv_target.proofs.Prelude.{refl, sym, ◌∙◌, ap, inl, inr, ◌≡◌, ◌≢◌, ℕ, ◌+◌, ◌<◌, List, [], ◌∷◌, length, take, get_or, Option, Some, None, true, false}
use Rattle.sv_target.proofs.Prelude.{◌++◌, map, fold, bytes_eq, codes, Bor, slice_split, percent_decode, cases_Bool, append-nil, bytes_eq-Decides, cut, is_dots}
use Rattle.sv_target.proofs.Prelude.{segments, resolved, ends_in_dots, is_slash, step, canonical_path}
use Rattle.std.proofs.lemmas.List.Sums.{fold_more}
use Rattle.std.proofs.lemmas.List.Folds.{fold_stuck}
use Rattle.sv_target.proofs.CookieLemmas.{map-map}
use Rattle.sv_target.proofs.SegmentLemmas.{good_empty}

pub fold_next : (ss : List (List ℕ)) (i : ℕ) (s : List ℕ) (kept new : List (List ℕ)) → i < length ss → s ≡ get_or ss i []
    → fold step (Some []) (take i ss) ≡ Some kept → step (Some kept) s ≡ Some new
    → fold step (Some []) (take (i + 1) ss) ≡ Some new
fold_next ss i s kept new inside here before after =
    fold_more step (Some []) ss i [] inside ∙ rw (before, ← here) after

pub stopped : (ss : List (List ℕ)) (i : ℕ) (s : List ℕ) (kept : List (List ℕ)) → i < length ss → s ≡ get_or ss i []
    → fold step (Some []) (take i ss) ≡ Some kept → step (Some kept) s ≡ None
    → fold step (Some []) ss ≡ None
stopped ss i s kept inside here before stops =
    sym (fold_stuck step None (λ _. refl) (Some []) ss i [] inside (rw (before, ← here) stops))

-- a fold over one more item at the end
fold_last : (f : Option (List (List ℕ)) → List ℕ → Option (List (List ℕ))) (a : Option (List (List ℕ))) (ss : List (List ℕ)) (s : List ℕ)
    → fold f a (ss ++ s ∷ []) ≡ f (fold f a ss) s
fold_last f a [] s = refl
fold_last f a (t ∷ ss) s = fold_last f (f a t) ss s

step_empty : (kept : List (List ℕ)) → step (Some kept) [] ≡ Some (kept ++ [] ∷ [])
unfolding is_dots percent_decode
step_empty kept = rw good_empty

pub resolved_closed : (ss kept : List (List ℕ)) → ends_in_dots ss ≡ true → fold step (Some []) ss ≡ Some kept
    → resolved ss ≡ Some (kept ++ [] ∷ [])
resolved_closed ss kept closed h = rw closed (fold_last step (Some []) ss [] ∙ rw h (step_empty kept))

pub resolved_open : (ss kept : List (List ℕ)) → ends_in_dots ss ≡ false → fold step (Some []) ss ≡ Some kept → resolved ss ≡ Some kept
resolved_open ss kept stays h = rw (stays, append-nil ss) h

-- the segments of a path, from its parts
pub segments_of : (parts : List (Bor (List ℕ))) (rest : List ℕ) → map (λ part. part.now) parts ≡ slice_split is_slash rest
    → map (λ part. cut part.now) parts ≡ segments rest
unfolding segments
segments_of parts rest h = sym (map-map cut (λ part. part.now) parts) ∙ ap (map cut) h

pub unrooted : (path : List ℕ) → ((rest : List ℕ) → path ≢ 47 ∷ rest) → canonical_path path ≡ None
unfolding canonical_path
unrooted [] never = refl
unrooted (b ∷ path) never =
    elim (cases_Bool (bytes_eq (b ∷ []) (codes "/"))) [
      | inl same ↦ absurd (never path (ap (λ (t : List ℕ). t ++ path) ((bytes_eq-Decides (b ∷ []) (codes "/")).0 same)))
      | inr other ↦ rw other
    ]
