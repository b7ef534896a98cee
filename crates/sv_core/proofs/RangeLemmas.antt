-- Records within the ranges of the formats leave a node within them.
use Rattle.sv_core.proofs.Prelude.{◌≡◌, ℕ, ◌<◌, ◌≤◌, Option, Some, None, List, [], ◌∷◌, arith, refl, sym, ◌∙◌, empty, get, get-empty, Key, KeyState, Active}
use Rattle.sv_core.proofs.Prelude.{Sent, Gone, Change, Record, idle, Keys, Durable, Node, last_number, blank, with_named, with_born, next_by, keys_behind}
use Rattle.sv_core.proofs.Prelude.{next_behind, home_behind, applied, replayed, Setting, IsJournaled, starts, Boot, Commit, Expired, Taken, State, Counters}
use Rattle.sv_core.proofs.Prelude.{Forgets, Counted, key_cmp, cond_both, IsSetting, IsRangedStep, IsRanged}
use Rattle.std.specs.List.{AllByRecursion}
use Rattle.sv_model.specs.declared.record.Change.TheVariants.{Absent as Unchanged, Alive as ChangeAlive, Ended as ChangeEnded}
use Rattle.sv_model.specs.declared.record.Record.TheVariants.{Sent as SentRecord, Gone as GoneRecord}
use Rattle.sv_model.specs.Keys.{IsKey, IsNode}
use Rattle.std.specs.Prelude.{◌+◌, IfSome}
use Rattle.sv_model.specs.Ranges.{IsChange, IsState, IsRecord}
use Rattle.sv_core.proofs.KeptLemmas.{AreAll, all_with, all_kept, all_over, all_ended}

abbrev pub IsEntry : Key → KeyState → Type 0
IsEntry k st = IsKey k × IsState st

ended : (home : Option ℕ) (k : Key) (keys : Keys) → AreAll IsEntry keys → AreAll IsEntry (with_named home (ChangeEnded k) keys)
ended home k keys h = all_ended IsEntry home keys k (get keys k) h refl (λ e old is. (is.0, is.1.0))

named : (home : Option ℕ) (c : Change) (keys : Keys) → IsChange c → AreAll IsEntry keys → AreAll IsEntry (with_named home c keys)
named home Unchanged keys is h = h
named home (ChangeAlive k s) keys is h = all_kept IsEntry keys k s (get keys k) h refl (λ e old was. (was.0, (was.1.0, is.1)))
named home (ChangeEnded k) keys is h = ended home k keys h

born : (home : Option ℕ) (c : Change) (keys : Keys) → IsChange c → AreAll IsEntry keys → AreAll IsEntry (with_born home c keys)
born home Unchanged keys is h = h
born home (ChangeAlive k s) keys is h = all_with IsEntry keys k (Active 1 s) h (is.0, (omega arith, is.1))
born home (ChangeEnded k) keys is h = all_over IsEntry home keys k 1 h (is, omega arith)

pub entries_behind : (home : Option ℕ) (r : Record) (keys : Keys) → IsRecord r → AreAll IsEntry keys → AreAll IsEntry (keys_behind home r keys)
entries_behind home (Boot boot) keys is h = h
entries_behind home (Commit c b) keys is h = born home b (with_named home c keys) is.1 (named home c keys is.0 h)
entries_behind home (Expired k) keys is h = ended home k keys h
entries_behind home (SentRecord k e to s) keys is h = all_with IsEntry keys k (Sent e s to) h (is.0, (is.1, is.3, is.2))
entries_behind home (Taken k e from s) keys is h = all_with IsEntry keys k (Active e s) h (is.0, (is.1, is.3))
entries_behind home (GoneRecord k e) keys is h = all_with IsEntry keys k (Gone e) h is
entries_behind home (State k st) keys is h = all_with IsEntry keys k st h is
entries_behind home (Counters boot next) keys is h = h
entries_behind home (Forgets n boot) keys is h = h
entries_behind home (Counted n boot next) keys is h = h

-- whose keys are forgotten is a node
home_ranged : (r : Record) (home : Option ℕ) → IsRecord r → IfSome home IsNode → IfSome (home_behind r home) IsNode
home_ranged (Boot boot) home is own = own
home_ranged (Commit c b) home is own = own
home_ranged (Expired k) home is own = own
home_ranged (SentRecord k e to s) home is own = own
home_ranged (Taken k e from s) home is own = own
home_ranged (GoneRecord k e) home is own = own
home_ranged (State k st) home is own = own
home_ranged (Counters boot next) home is own = own
home_ranged (Forgets n boot) home is own = is.0
home_ranged (Counted n boot next) home is own = is.0

next_made : (c : Change) (next : ℕ) → 0 < next → 0 < next_by c next
next_made Unchanged next is = is
next_made (ChangeAlive k s) next is = omega arith
next_made (ChangeEnded k) next is = omega arith

pub counting_behind : (r : Record) (next : ℕ) → IsRecord r → 0 < next → 0 < next_behind r next
counting_behind (Boot boot) next is counts = counts
counting_behind (Commit c b) next is counts = next_made b next counts
counting_behind (Expired k) next is counts = counts
counting_behind (SentRecord k e to s) next is counts = counts
counting_behind (Taken k e from s) next is counts = counts
counting_behind (GoneRecord k e) next is counts = counts
counting_behind (State k st) next is counts = counts
counting_behind (Counters boot n) next is counts = is
counting_behind (Forgets home boot) next is counts = counts
counting_behind (Counted home boot n) next is counts = is.1

entries_replayed : (d : Durable) (rs : List Record) → AllByRecursion IsRecord rs → AreAll IsEntry d.keys → AreAll IsEntry (replayed d rs).keys
entries_replayed d [] are h = h
entries_replayed d (r ∷ rs) are h = entries_replayed (applied r d) rs are.1 (entries_behind d.home r d.keys are.0 h)

counting_replayed : (d : Durable) (rs : List Record) → AllByRecursion IsRecord rs → 0 < d.next → 0 < (replayed d rs).next
counting_replayed d [] are counts = counts
counting_replayed d (r ∷ rs) are counts = counting_replayed (applied r d) rs are.1 (counting_behind r d.next are.0 counts)

home_replayed : (d : Durable) (rs : List Record) → AllByRecursion IsRecord rs → IfSome d.home IsNode → IfSome (replayed d rs).home IsNode
home_replayed d [] are own = own
home_replayed d (r ∷ rs) are own = home_replayed (applied r d) rs are.1 (home_ranged r d.home are.0 own)

none_known : AreAll IsEntry empty
none_known k st there = absurd (let no : None ≡ Some st = sym (get-empty key_cmp k) ∙ there in cc)

-- a node that keeps what records give, and in which nothing waits
pub ranged_recovered : (rs : List Record) → AllByRecursion IsRecord rs → (replayed blank rs).next ≤ last_number → IsRanged (record { durable = replayed blank rs; parked = []; next_want = 1 })
ranged_recovered rs are within = record {
  known = entries_replayed blank rs are none_known;
  next = counting_replayed blank rs are (omega arith);
  waiting = tt;
  home = home_replayed blank rs are tt;
  next_within = within;
  want_within = omega arith;
}

-- ---- a start

pub starts_journaled : (set : Setting) (n : Node) → IsJournaled set n (starts set n)
starts_journaled set n = cond_both set.forget (Forgets set.node (n.durable.boot + 1)) (Boot (n.durable.boot + 1)) (λ r. IsJournaled set n (record (idle n []) { entry = Some r; durable = applied r n.durable }))
    (λ _. record { fits = λ stage. (refl, refl); gives = refl; marks = refl })
    (λ _. record { fits = λ stage. refl; gives = refl; marks = refl })

pub starts_ranged : (set : Setting) (n : Node) → IsSetting set → IsRanged n → IsRangedStep (starts set n)
starts_ranged set n inside is = cond_both set.forget (Forgets set.node (n.durable.boot + 1)) (Boot (n.durable.boot + 1)) (λ r. IsRangedStep (record (idle n []) { entry = Some r; durable = applied r n.durable }))
    (λ _. record {
      entry = (omega (arith, inside.few, inside.inside), omega arith);
      packets = tt;
      left_is = record { known = is.known; next = is.next; waiting = is.waiting; home = omega (arith, inside.few, inside.inside); next_within = is.next_within; want_within = is.want_within };
    })
    (λ _. record {
      entry = omega arith;
      packets = tt;
      left_is = record { known = is.known; next = is.next; waiting = is.waiting; home = is.home; next_within = is.next_within; want_within = is.want_within };
    })
