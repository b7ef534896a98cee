-- Labels of rows, and what a chain of a sound table is.
use Rattle.sv_dispatch.proofs.Prelude.{◌≡◌, ℕ, List, [], ◌∷◌, ap, sym, ◌∙◌, refl, true, false, cond, Option, ◌<◌, ◌≤◌, length, get_or, Some, None, slice_get}
use Rattle.sv_dispatch.proofs.Prelude.{option_map, slice_get-map, slice_get-get_or, Phase, rows, Label, labels_of_rows, ready_at, ready_by, name_at, Hosted}
use Rattle.std.proofs.lemmas.Option.{slice_get_past}
use Rattle.sv_dispatch.specs.Rows.{label, labels, name_by}

-- the rows of objects have the objects' labels
pub labels_rows : {O M : Type 0} (f : O → M) (p : O → Phase) (hs : List (Hosted O)) → labels_of_rows (rows f p hs) ≡ labels hs
unfolding labels_of_rows rows labels
labels_rows f p [] = refl
labels_rows f p (h ∷ hs) = ap (λ (ls : List Label). label h ∷ ls) (labels_rows f p hs)

pub ready_none : {O : Type 0} (hs : List (Hosted O)) → ready_at (labels hs) None ≡ None
unfolding ready_at
ready_none hs = refl

pub ready_some : {O : Type 0} (hs : List (Hosted O)) (at : ℕ) → ready_at (labels hs) (Some at) ≡ ready_by at (option_map label (slice_get hs at))
unfolding ready_at labels
ready_some hs at = ap (ready_by at) (slice_get-map label hs at)

pub name_none : {O : Type 0} (hs : List (Hosted O)) → name_at (labels hs) None ≡ []
unfolding name_at
name_none hs = refl

pub name_some : {O : Type 0} (hs : List (Hosted O)) (at : ℕ) → name_at (labels hs) (Some at) ≡ name_by (option_map label (slice_get hs at))
unfolding name_at labels
name_some hs at = ap name_by (slice_get-map label hs at)

-- what a look-up of the code found
module _ {O : Type 0} (hs shown : List (Hosted O)) (servlet : Option ℕ) (at : ℕ) where
  pub ready_yes : (h : Hosted O) → servlet ≡ Some at → at < length shown → h ≡ get_or shown at h → shown ≡ hs → h.is_ready ≡ true → Some at ≡ ready_at (labels hs) servlet
  ready_yes h s w f e r =
      let found : slice_get hs at ≡ Some h = ap (λ (l : List (Hosted O)). slice_get l at) (sym e) ∙ (slice_get-get_or shown at h w ∙ ap Some (sym f)) in
      sym (ap (ready_at (labels hs)) s ∙ ready_some hs at ∙ ap (λ (x : Option (Hosted O)). ready_by at (option_map label x)) found ∙ ap (λ b. cond b (Some at) None) r)

  pub ready_not : (h : Hosted O) → servlet ≡ Some at → at < length shown → h ≡ get_or shown at h → shown ≡ hs → h.is_ready ≡ false → None ≡ ready_at (labels hs) servlet
  ready_not h s w f e r =
      let found : slice_get hs at ≡ Some h = ap (λ (l : List (Hosted O)). slice_get l at) (sym e) ∙ (slice_get-get_or shown at h w ∙ ap Some (sym f)) in
      sym (ap (ready_at (labels hs)) s ∙ ready_some hs at ∙ ap (λ (x : Option (Hosted O)). ready_by at (option_map label x)) found ∙ ap (λ b. cond b (Some at) None) r)

  pub ready_past : servlet ≡ Some at → length shown ≤ at → shown ≡ hs → None ≡ ready_at (labels hs) servlet
  ready_past s f e =
      let found : slice_get hs at ≡ None = ap (λ (l : List (Hosted O)). slice_get l at) (sym e) ∙ slice_get_past shown at f in
      sym (ap (ready_at (labels hs)) s ∙ ready_some hs at ∙ ap (λ (x : Option (Hosted O)). ready_by at (option_map label x)) found)

  pub name_there : (h : Hosted O) → servlet ≡ Some at → at < length shown → h ≡ get_or shown at h → shown ≡ hs → h.name ≡ name_at (labels hs) servlet
  name_there h s w f e =
      let found : slice_get hs at ≡ Some h = ap (λ (l : List (Hosted O)). slice_get l at) (sym e) ∙ (slice_get-get_or shown at h w ∙ ap Some (sym f)) in
      sym (ap (name_at (labels hs)) s ∙ name_some hs at ∙ ap (λ (x : Option (Hosted O)). name_by (option_map label x)) found)

  pub name_past : servlet ≡ Some at → length shown ≤ at → shown ≡ hs → [] ≡ name_at (labels hs) servlet
  name_past s f e =
      let found : slice_get hs at ≡ None = ap (λ (l : List (Hosted O)). slice_get l at) (sym e) ∙ slice_get_past shown at f in
      sym (ap (name_at (labels hs)) s ∙ name_some hs at ∙ ap (λ (x : Option (Hosted O)). name_by (option_map label x)) found)
