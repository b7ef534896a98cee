use Rattle.sv_dispatch.proofs.Prelude.{◌≡◌, ℕ, ◌<◌, List, length, get_or, Some, slice_get, option_map, sym, ◌∙◌, ap, slice_get-get_or, slice_get-map, Phase}
use Rattle.sv_dispatch.proofs.Prelude.{Ready, Hosted, Serves, Filters, rows, IsReadyAt, served, served_by, before_at, before_by, after_at, after_by}
use Rattle.std.proofs.Common.{slice_set}
use Rattle.std.proofs.Math.Seq.{map-set_same}
use Rattle.std.proofs.lemmas.List.{length-map}
use Rattle.sv_dispatch.specs.Rows.{row}

-- a ready place is within the list
pub ready_within : {O M : Type 0} (f : O → M) (p : O → Phase) (ns : List (Hosted O)) (k : ℕ) → IsReadyAt (rows f p ns) k → k < length ns
unfolding rows
ready_within f p ns k h = rw length-map at h.within

-- what the rows have at a place
row_there : {O M : Type 0} (f : O → M) (p : O → Phase) (ns : List (Hosted O)) (k : ℕ) (n : Hosted O) → k < length ns → n ≡ get_or ns k n → slice_get (rows f p ns) k ≡ Some (row f p n)
unfolding rows
row_there f p ns k n h e = slice_get-map (row f p) ns k ∙ ap (option_map (row f p)) (slice_get-get_or ns k n h ∙ ap Some (sym e))

-- the object there is ready
pub ready_there : {O M : Type 0} (f : O → M) (p : O → Phase) (ns : List (Hosted O)) (k : ℕ) (n : Hosted O) → IsReadyAt (rows f p ns) k → n ≡ get_or ns k n → p n.object ≡ Ready
ready_there f p ns k n h e = rw (row_there f p ns k n (ready_within f p ns k h) e) at h.ready

-- an object is replaced by one of the same row
pub rows_same : {O M : Type 0} (f : O → M) (p : O → Phase) (ns : List (Hosted O)) (k : ℕ) (m n : Hosted O) → row f p m ≡ row f p n → n ≡ get_or ns k n → rows f p (slice_set ns k m) ≡ rows f p ns
unfolding rows
rows_same f p ns k m n s e = map-set_same (row f p) ns k m n (s ∙ ap (row f p) e)

-- what is served at a place is the object's meaning
pub served_there : {O : Type 0} (f : O → Serves) (p : O → Phase) (ns : List (Hosted O)) (k : ℕ) (n : Hosted O) → k < length ns → n ≡ get_or ns k n → served (rows f p ns) k ≡ f n.object
unfolding served
served_there f p ns k n h e = ap served_by (row_there f p ns k n h e)

pub before_there : {O : Type 0} (f : O → Filters) (p : O → Phase) (ns : List (Hosted O)) (k : ℕ) (n : Hosted O) → k < length ns → n ≡ get_or ns k n → before_at (rows f p ns) k ≡ (f n.object).before
unfolding before_at
before_there f p ns k n h e = ap before_by (row_there f p ns k n h e)

pub after_there : {O : Type 0} (f : O → Filters) (p : O → Phase) (ns : List (Hosted O)) (k : ℕ) (n : Hosted O) → k < length ns → n ≡ get_or ns k n → after_at (rows f p ns) k ≡ (f n.object).after
unfolding after_at
after_there f p ns k n h e = ap after_by (row_there f p ns k n h e)
