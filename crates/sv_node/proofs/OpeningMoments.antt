-- What a stop at any moment of an opening leaves.
use Rattle.std.proofs.Common.{◌≡◌, ◌⊎◌, inl, inr, ⊎_elim, ℕ, Bool, true, false, cond, List, refl, sym, subst}
use Rattle.sv_node.proofs.Prelude.{Only, LeavesOnly, OpensAlike, JournalView, OpensWithoutLoss, disk_a, disk_b, Setting, Durable, Restores, RestoresEither}
use Rattle.sv_journal.proofs.Quiet.{leaves_weaker, leaves_then}
use Rattle.sv_node.specs.Opened.{GivesStart, WritesOne, StartsWithoutLoss, restarted}
use Rattle.sv_node.proofs.OpenLemmas.{alike}

gives_first : (set : Setting) (image other : List ℕ) (d : Durable) → RestoresEither set other d (restarted set d) image → GivesStart set d image other
gives_first set image other d (inl r) = inl (record { entries = r.entries; opens = inl r.opens; replays = r.replays })
gives_first set image other d (inr r) = inr (record { entries = r.entries; opens = inl r.opens; replays = r.replays })

gives_second : (set : Setting) (image other : List ℕ) (d : Durable) → RestoresEither set other d (restarted set d) image → GivesStart set d other image
gives_second set image other d (inl r) = inl (record { entries = r.entries; opens = inr (inl r.opens); replays = r.replays })
gives_second set image other d (inr r) = inr (record { entries = r.entries; opens = inr (inl r.opens); replays = r.replays })

module _ {D : Type 0} (tells : D → Type 0) (seen : D → List ℕ) (may_leave : D → List ℕ → Type 0) (moment : D → ℕ) (left_since : D → ℕ → List ℕ → Type 0)
    (reads_now : (disk : D) → tells disk → may_leave disk (seen disk))
    (set : Setting) (a b : D) (d : Durable) (r : Restores set (seen a) (seen b) d) where
  abbrev First : D → D → Type 0
  First a' b' = WritesOne seen may_leave moment left_since (λ image other. GivesStart set d image other) a b a' b'

  abbrev Second : D → D → Type 0
  Second a' b' = WritesOne seen may_leave moment left_since (λ image other. GivesStart set d other image) b a b' a'

  -- the journal is found or made
  found : (a' b' : D) → tells b' → OpensWithoutLoss seen may_leave moment left_since a b a' b' → First a' b'
  found a' b' told w =
      let P : List ℕ → Type 0 = λ image. may_leave a image ⊎ GivesStart set d image (seen b') in
      ⊎_elim
      (λ (only : Only (seen b) (may_leave b')).
      let same : seen b' ≡ seen b = only (seen b') (reads_now b' told) in
      record {
        of_written = leaves_weaker moment left_since a a' (λ image. may_leave a image ⊎ OpensAlike (seen a) (seen b) image) P (λ image. ⊎_elim (λ old. inl old) (λ o. inr (inl (alike set (seen a) (seen b) image (seen b') d r same o)))) w.of_a;
        of_kept = w.of_b;
        apart = inl (subst (λ (l : List ℕ). Only l (may_leave b')) (sym same) only);
      })
      (λ (still : LeavesOnly moment left_since a a' (may_leave a)).
      record { of_written = leaves_weaker moment left_since a a' (may_leave a) P (λ image old. inl old) still; of_kept = w.of_b; apart = inr still })
      w.apart

  -- no more than that was done
  pub refused_moments : (a' b' : D) → tells b' → OpensWithoutLoss seen may_leave moment left_since a b a' b' → StartsWithoutLoss seen may_leave moment left_since set d a b a' b'
  refused_moments a' b' told w = inl (found a' b' told w)

  -- the start is written after it
  going_on : (on_a : Bool) (current other final : D) → tells (cond on_a other current) → OpensWithoutLoss seen may_leave moment left_since a b (cond on_a current other) (cond on_a other current)
      → (on_a ≡ false → LeavesOnly moment left_since a (cond on_a current other) (may_leave a)) → Only (seen other) (may_leave other)
      → LeavesOnly moment left_since current final (RestoresEither set (seen other) d (restarted set d)) → StartsWithoutLoss seen may_leave moment left_since set d a b (cond on_a final other) (cond on_a other final)
  going_on true current other final told w kept only moments =
      let f = found current other told w in
      let P : List ℕ → Type 0 = λ image. may_leave a image ⊎ GivesStart set d image (seen other) in
      inl (record {
        of_written = leaves_then moment left_since a current final P (RestoresEither set (seen other) d (restarted set d)) P (λ image p. p) (λ image q. inr (gives_first set image (seen other) d q)) f.of_written moments;
        of_kept = f.of_kept;
        apart = inl only;
      })
  going_on false current other final told w kept only moments =
      let P : List ℕ → Type 0 = λ image. may_leave b image ⊎ GivesStart set d (seen other) image in
      inr (record {
        of_written = leaves_then moment left_since b current final (may_leave b) (RestoresEither set (seen other) d (restarted set d)) P (λ image old. inl old) (λ image q. inr (gives_second set image (seen other) d q)) w.of_b moments;
        of_kept = kept refl;
        apart = inl only;
      })

  pub started_moments : (first last : JournalView D) → tells (disk_b first) → last.other ≡ first.other → last.on_a ≡ first.on_a
      → OpensWithoutLoss seen may_leave moment left_since a b (disk_a first) (disk_b first) → (first.on_a ≡ false → LeavesOnly moment left_since a (disk_a first) (may_leave a))
      → Only (seen first.other) (may_leave first.other) → LeavesOnly moment left_since first.current last.current (RestoresEither set (seen first.other) d (restarted set d))
      → StartsWithoutLoss seen may_leave moment left_since set d a b (disk_a last) (disk_b last)
  started_moments first last told other on_a w kept only moments =
      subst (λ (o : Bool). StartsWithoutLoss seen may_leave moment left_since set d a b (cond o last.current last.other) (cond o last.other last.current)) (sym on_a)
      (subst (λ (x : D). StartsWithoutLoss seen may_leave moment left_since set d a b (cond first.on_a last.current x) (cond first.on_a x last.current)) (sym other)
      (going_on first.on_a first.current first.other last.current told w kept only moments))

-- what is read, and then what is written
pub read_then : {D : Type 0} (moment : D → ℕ) (left_since : D → ℕ → List ℕ → Type 0) (set : Setting) (other : List ℕ) (d : Durable) (first mid last : D)
    → LeavesOnly moment left_since first mid (RestoresEither set other d (restarted set d)) → LeavesOnly moment left_since mid last (RestoresEither set other d (restarted set d))
    → LeavesOnly moment left_since first last (RestoresEither set other d (restarted set d))
read_then moment left_since set other d first mid last =
    leaves_then moment left_since first mid last (RestoresEither set other d (restarted set d)) (RestoresEither set other d (restarted set d)) (RestoresEither set other d (restarted set d)) (λ c p. p) (λ c q. q)
