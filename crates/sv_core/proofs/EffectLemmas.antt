-- A record that may stand after others has its serial.
use Rattle.sv_core.proofs.Prelude.{◌≡◌, ◌≢◌, ℕ, ◌+◌, ◌≤◌, Bool, true, false, arith, refl, not, ◌==◌, ◌&&◌, eqb-false, Key, Setting, Stage, Change, Record}
use Rattle.sv_core.proofs.Prelude.{Durable, last_number, has_space, applied, fits_named, fits_born, is_next, Fits, Boot, Commit, Expired, Taken, State}
use Rattle.sv_core.proofs.Prelude.{Counters, Forgets, Counted, HasSerial}
use Rattle.sv_model.specs.declared.record.Change.TheVariants.{Absent as Unchanged, Alive as ChangeAlive, Ended as ChangeEnded}
use Rattle.sv_model.specs.declared.record.Record.TheVariants.{Sent, Gone}
use Rattle.sv_core.specs.Effect.{LeavesSerial}

third : (a b c d : Bool) → (a && (b && (not c && d))) ≡ true → c ≡ false
third true true false d is = refl
third true true true d is = absurd cc
third true false c d is = absurd cc
third false b c d is = absurd cc

right : (a b : Bool) → (a && b) ≡ true → b ≡ true
right true b is = is
right false b is = absurd cc

not_last : (set : Setting) (d : Durable) (k : Key) → is_next set d k ≡ true → d.next ≢ last_number
not_last set d k is same =
    let apart : (d.next == last_number) ≡ false = third (k.home == set.node) (k.serial == d.next) (d.next == last_number) (has_space set d) is in
    eqb-false d.next last_number apart same

born_left : (set : Setting) (d : Durable) (b : Change) → fits_born set d b ≡ true → LeavesSerial b d.next
born_left set d Unchanged is = tt
born_left set d (ChangeAlive k s) is = not_last set d k is
born_left set d (ChangeEnded k) is = not_last set d k is

pub fits_left : (set : Setting) (stage : Stage) (d : Durable) (r : Record) → Fits set stage d r → HasSerial r d.next
fits_left set stage d (Boot boot) is = tt
fits_left set stage d (Commit named b) is = born_left set d b (right (fits_named d.keys named) (fits_born set d b) is)
fits_left set stage d (Expired k) is = tt
fits_left set stage d (Sent k e to s) is = tt
fits_left set stage d (Taken k e from s) is = tt
fits_left set stage d (Gone k e) is = tt
fits_left set stage d (State k st) is = tt
fits_left set stage d (Counters boot next) is = tt
fits_left set stage d (Forgets home boot) is = tt
fits_left set stage d (Counted home boot next) is = tt

behind_left : (next : ℕ) → next + 1 ≤ last_number → next ≢ last_number
behind_left next less same = omega (arith, less, same)

pub within_left : (d : Durable) (r : Record) → (applied r d).next ≤ last_number → HasSerial r d.next
within_left d (Boot boot) is = tt
within_left d (Commit named Unchanged) is = tt
within_left d (Commit named (ChangeAlive k s)) is = behind_left d.next is
within_left d (Commit named (ChangeEnded k)) is = behind_left d.next is
within_left d (Expired k) is = tt
within_left d (Sent k e to s) is = tt
within_left d (Taken k e from s) is = tt
within_left d (Gone k e) is = tt
within_left d (State k st) is = tt
within_left d (Counters boot next) is = tt
within_left d (Forgets home boot) is = tt
within_left d (Counted home boot next) is = tt
