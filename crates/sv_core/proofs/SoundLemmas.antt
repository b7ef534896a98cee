-- What records leave is sound.
use Rattle.sv_core.proofs.Prelude.{◌≡◌, ℕ, ◌+◌, ◌<◌, ◌≤◌, Bool, true, false, Option, Some, None, List, [], ◌∷◌, arith, refl, sym, ap, ◌∙◌, subst, ⊎_elim, not}
use Rattle.sv_core.proofs.Prelude.{◌==◌, ◌&&◌, ◌||◌, is_none, nat_le, nat_lt, empty, get, insert, len, get-empty, len-empty, same_Some, over_at, Key, Session}
use Rattle.sv_core.proofs.Prelude.{KeyState, Active, Sent, Gone, Ended, Setting, Stage, Change, Record, key_cmp, blank, with_named, with_born, next_by, applied}
use Rattle.sv_core.proofs.Prelude.{replayed, staged, leb_tells, Blank, Snapshot, Boot, Commit, Expired, Taken, State, Counters, Forgets, Counted, Keys, Durable}
use Rattle.sv_core.proofs.Prelude.{last_number, epoch_in, is_unmade, bound, has_space, stage_behind, fits_named, is_next, fits_born, Fits, AllFit}
use Rattle.std.proofs.lemmas.Bool.{eqb-true, leb-false}
use Rattle.sv_model.specs.declared.node.Stage.TheVariants.{Past}
use Rattle.sv_model.specs.declared.record.Change.TheVariants.{Absent as Unchanged, Alive as ChangeAlive, Ended as ChangeEnded}
use Rattle.sv_model.specs.declared.record.Record.TheVariants.{Sent as SentRecord, Gone as GoneRecord}
use Rattle.sv_model.specs.NodeState.{known_by, was_given}
use Rattle.sv_model.specs.Fitting.{FitsSent, fits_gone, fits_state}
use Rattle.sv_core.proofs.KeptLemmas.{left, right, is_lower, AreAll, all_with, all_kept, all_over, all_ended, as_many, one_more, kept_many, over_more, ended_few}

-- no more keys than records may make known, none of its own that it has yet to hand out, and none at all before the first record
pub record IsSound (set : Setting) (stage : Stage) (d : Durable) : Type 0 where
  pub few : len d.keys ≤ bound set
  pub made : (k : Key) (st : KeyState) → get d.keys k ≡ Some st → is_unmade set d k ≡ false
  pub first : stage ≡ Blank → d.keys ≡ empty
  -- the keys that are forgotten are its own
  pub own : (h : ℕ) → d.home ≡ Some h → h ≡ set.node

module _ (set : Setting) where
  abbrev IsMade : ℕ → Key → Type 0
  IsMade next k = ((k.home == set.node) && nat_le next k.serial) ≡ false

  later : (a : Bool) (n s : ℕ) → (a && nat_le n s) ≡ false → (a && nat_le (n + 1) s) ≡ false
  later false n s is = refl
  later true n s is = ⊎_elim
      (λ (t : (nat_le (n + 1) s ≡ true) × (n + 1 ≤ s)). absurd (let low : s < n = leb-false n s is in omega (arith, t.1, low)))
      (λ (t : (nat_le (n + 1) s ≡ false) × (s < n + 1)). t.0)
      (leb_tells (n + 1) s)

  spent : (a : Bool) (n s : ℕ) → s ≡ n → (a && nat_le (n + 1) s) ≡ false
  spent false n s is = refl
  spent true n s is = ⊎_elim
      (λ (t : (nat_le (n + 1) s ≡ true) × (n + 1 ≤ s)). absurd (omega (arith, t.1, is)))
      (λ (t : (nat_le (n + 1) s ≡ false) × (s < n + 1)). t.0)
      (leb_tells (n + 1) s)

  not_true : (b : Bool) → not b ≡ true → b ≡ false
  not_true true is = absurd cc
  not_true false is = refl

  -- the keys and the next serial
  record AreSound (next : ℕ) (keys : Keys) : Type 0 where
    few : len keys ≤ bound set
    made : AreAll (λ k st. IsMade next k) keys

  known : (next : ℕ) (keys : Keys) (k : Key) (st old : KeyState) → AreSound next keys → get keys k ≡ Some old → AreSound next (insert keys k st)
  known next keys k st old s there = record { few = subst (λ n. n ≤ bound set) (sym (as_many keys k st old there)) s.few; made = all_with (λ q u. IsMade next q) keys k st s.made (s.made k old there) }

  new : (next : ℕ) (keys : Keys) (k : Key) (st : KeyState) → AreSound next keys → IsMade next k → len keys < bound set → AreSound next (insert keys k st)
  new next keys k st s made room = record { few = one_more (bound set) keys k st room; made = all_with (λ q u. IsMade next q) keys k st s.made made }

  over : (next : ℕ) (home : Option ℕ) (keys : Keys) (k : Key) (e : ℕ) → AreSound next keys → IsMade next k → len keys < bound set → AreSound next (over_at home k e keys)
  over next home keys k e s made room = record { few = over_more (bound set) home keys k e room; made = all_over (λ q u. IsMade next q) home keys k e s.made made }

  ended : (next : ℕ) (home : Option ℕ) (keys : Keys) (k : Key) → AreSound next keys → AreSound next (with_named home (ChangeEnded k) keys)
  ended next home keys k s = record {
    few = omega (arith, s.few, ended_few home keys k (get keys k) refl);
    made = all_ended (λ q u. IsMade next q) home keys k (get keys k) s.made refl (λ e old m. m);
  }

  named_few : (c : Change) (home : Option ℕ) (keys : Keys) → len (with_named home c keys) ≤ len keys
  named_few Unchanged home keys = omega arith
  named_few (ChangeAlive k u) home keys = omega (arith, kept_many keys k u (get keys k) refl)
  named_few (ChangeEnded k) home keys = ended_few home keys k (get keys k) refl

  named : (c : Change) (next : ℕ) (home : Option ℕ) (keys : Keys) → AreSound next keys → AreSound next (with_named home c keys)
  named Unchanged next home keys s = s
  named (ChangeAlive k u) next home keys s = record { few = subst (λ n. n ≤ bound set) (sym (kept_many keys k u (get keys k) refl)) s.few; made = all_kept (λ q v. IsMade next q) keys k u (get keys k) s.made refl (λ e old m. m) }
  named (ChangeEnded k) next home keys s = ended next home keys k s

  -- a birth has its serial and its room
  born_facts : (d : Durable) (keys : Keys) (k : Key) → is_next set d k ≡ true → len keys ≤ len d.keys → AreSound d.next keys → AreSound (d.next + 1) keys × IsMade (d.next + 1) k × (len keys < bound set)
  born_facts d keys k is many s =
      let rest : ((k.serial == d.next) && (not (d.next == last_number) && has_space set d)) ≡ true = right (k.home == set.node) _ is in
      let serial : k.serial ≡ d.next = eqb-true k.serial d.next (left (k.serial == d.next) _ rest) in
      let room : len d.keys < bound set = is_lower (len d.keys) (bound set) (right (not (d.next == last_number)) _ (right (k.serial == d.next) _ rest)) in
      (record { few = s.few; made = λ q u there. later (q.home == set.node) d.next q.serial (s.made q u there) }, spent (k.home == set.node) d.next k.serial serial, omega (arith, room, many))

  born : (c : Change) (d : Durable) (keys : Keys) → fits_born set d c ≡ true → len keys ≤ len d.keys → AreSound d.next keys → AreSound (next_by c d.next) (with_born d.home c keys)
  born Unchanged d keys is many s = s
  born (ChangeAlive k u) d keys is many s = let f = born_facts d keys k is many s in new (d.next + 1) keys k (Active 1 u) f.0 f.1 f.2
  born (ChangeEnded k) d keys is many s = let f = born_facts d keys k is many s in over (d.next + 1) d.home keys k 1 f.0 f.1 f.2

  abbrev IsOwn : Option ℕ → Type 0
  IsOwn home = (h : ℕ) → home ≡ Some h → h ≡ set.node

  past : (boot next : ℕ) (home : Option ℕ) (keys : Keys) → AreSound next keys → IsOwn home → IsSound set Past (record { keys = keys; boot = boot; next = next; home = home })
  past boot next home keys s own = record { few = s.few; made = s.made; first = λ is. absurd cc; own = own }

  own_by : (n : ℕ) → n ≡ set.node → (h : ℕ) → Some n ≡ Some h → h ≡ set.node
  own_by n is h same = sym (same_Some n h same) ∙ is

  sent : (d : Durable) (k : Key) (e : ℕ) (s : Session) (to : ℕ) (st : Option KeyState) → AreSound d.next d.keys → get d.keys k ≡ st → FitsSent e s st → AreSound d.next (insert d.keys k (Sent e s to))
  sent d k e s to None h there fits = absurd fits
  sent d k e s to (Some (Active f u)) h there fits = known d.next d.keys k (Sent e s to) (Active f u) h there
  sent d k e s to (Some (Sent f u there_to)) h there fits = absurd fits
  sent d k e s to (Some (Gone f)) h there fits = absurd fits
  sent d k e s to (Some (Ended f)) h there fits = absurd fits

  gone : (d : Durable) (k : Key) (e : ℕ) (st : Option KeyState) → AreSound d.next d.keys → get d.keys k ≡ st → fits_gone e st ≡ true → AreSound d.next (insert d.keys k (Gone e))
  gone d k e None h there fits = absurd cc
  gone d k e (Some (Active f u)) h there fits = absurd cc
  gone d k e (Some (Sent f u to)) h there fits = known d.next d.keys k (Gone e) (Sent f u to) h there
  gone d k e (Some (Gone f)) h there fits = absurd cc
  gone d k e (Some (Ended f)) h there fits = absurd cc

  taken : (d : Durable) (k : Key) (e : ℕ) (s : Session) (st : Option KeyState) → AreSound d.next d.keys → get d.keys k ≡ st → (not (is_unmade set d k) && (not (is_none st) || has_space set d)) ≡ true → AreSound d.next (insert d.keys k (Active e s))
  taken d k e s None h there fits =
      new d.next d.keys k (Active e s) h (not_true (is_unmade set d k) (left (not (is_unmade set d k)) _ fits)) (is_lower (len d.keys) (bound set) (right (not (is_unmade set d k)) _ fits))
  taken d k e s (Some old) h there fits = known d.next d.keys k (Active e s) old h there

  stated : (d : Durable) (k : Key) (st : KeyState) (stage : Stage) → AreSound d.next d.keys → IsOwn d.home → fits_state set d k stage ≡ true → IsSound set stage (record d { keys = insert d.keys k st })
  stated d k st Blank h own fits = absurd cc
  stated d k st Snapshot h own fits =
      let rest : (not (is_unmade set d k) && has_space set d) ≡ true = right (is_none (get d.keys k)) _ fits in
      let s = new d.next d.keys k st h (not_true (is_unmade set d k) (left (not (is_unmade set d k)) _ rest)) (is_lower (len d.keys) (bound set) (right (not (is_unmade set d k)) _ rest)) in
      record { few = s.few; made = s.made; first = λ is. absurd cc; own = own }
  stated d k st Past h own fits = absurd cc

  counted : (d : Durable) (boot next : ℕ) (home : Option ℕ) (stage : Stage) → IsSound set stage d → stage ≡ Blank → IsOwn home → IsSound set Snapshot (record { keys = d.keys; boot = boot; next = next; home = home })
  counted d boot next home stage s is own = record {
    few = s.few;
    made = λ k st there. absurd (let no : None ≡ Some st = sym (get-empty key_cmp k) ∙ ap (λ (m : Keys). get m k) (sym (s.first is)) ∙ there in cc);
    first = λ is. absurd cc;
    own = own;
  }

  is_blank : (stage : Stage) → Fits set stage blank (Counters 0 0) → stage ≡ Blank
  is_blank Blank fits = refl
  is_blank Snapshot fits = absurd cc
  is_blank Past fits = absurd cc

  pub sound_blank : IsSound set Blank blank
  sound_blank = record {
    few = subst (λ n. n ≤ bound set) (sym (len-empty key_cmp KeyState)) (omega arith);
    made = λ k st there. absurd (let no : None ≡ Some st = sym (get-empty key_cmp k) ∙ there in cc);
    first = λ is. refl;
    own = λ h is. absurd (let no : None ≡ Some h = is in cc);
  }

  pub sound_behind : (stage : Stage) (d : Durable) → IsSound set stage d → (r : Record) → Fits set stage d r → IsSound set (stage_behind r stage) (applied r d)
  sound_behind stage d s (Boot boot) fits = past boot d.next d.home d.keys (record { few = s.few; made = s.made }) s.own
  sound_behind stage d s (Commit c b) fits = past d.boot (next_by b d.next) d.home (with_born d.home b (with_named d.home c d.keys))
      (born b d (with_named d.home c d.keys) (right (fits_named d.keys c) _ fits) (named_few c d.home d.keys) (named c d.next d.home d.keys (record { few = s.few; made = s.made }))) s.own
  sound_behind stage d s (Expired k) fits = past d.boot d.next d.home _ (ended d.next d.home d.keys k (record { few = s.few; made = s.made })) s.own
  sound_behind stage d s (SentRecord k e to u) fits = past d.boot d.next d.home _ (sent d k e u to (get d.keys k) (record { few = s.few; made = s.made }) refl fits) s.own
  sound_behind stage d s (Taken k e from u) fits = past d.boot d.next d.home _ (taken d k e u (get d.keys k) (record { few = s.few; made = s.made }) refl (right (nat_lt (epoch_in (known_by (was_given d k) (get d.keys k))) e) _ fits)) s.own
  sound_behind stage d s (GoneRecord k e) fits = past d.boot d.next d.home _ (gone d k e (get d.keys k) (record { few = s.few; made = s.made }) refl fits) s.own
  sound_behind stage d s (State k st) fits = stated d k st stage (record { few = s.few; made = s.made }) s.own fits
  sound_behind stage d s (Counters boot next) fits = counted d boot next d.home stage s (is_blank stage fits) s.own
  sound_behind stage d s (Forgets home boot) fits = past boot d.next (Some home) d.keys (record { few = s.few; made = s.made }) (own_by home fits.0)
  sound_behind stage d s (Counted home boot next) fits = counted d boot next (Some home) stage s (is_blank stage fits.1) (own_by home fits.0)

  pub sound_replayed : (stage : Stage) (d : Durable) → IsSound set stage d → (rs : List Record) → AllFit set stage d rs → IsSound set (staged stage rs) (replayed d rs)
  sound_replayed stage d s [] fits = s
  sound_replayed stage d s (r ∷ rs) fits = sound_replayed (stage_behind r stage) (applied r d) (sound_behind stage d s r fits.0) rs fits.1
