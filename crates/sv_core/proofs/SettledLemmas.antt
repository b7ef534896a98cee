-- The requests that can be served, after a record.
use Rattle.sv_core.proofs.Prelude.{◌≡◌, ◌≢◌, ℕ, Bool, true, false, cond, Option, Some, None, List, refl, sym, ap, ◌∙◌, ⊎_elim, get, insert, get-insert, Key}
use Rattle.sv_core.proofs.Prelude.{Session, KeyState, Active, Sent, Gone, Ended, Parked, Change, Record, same_key, Keys, is_settled, kept_at, ended_at}
use Rattle.sv_core.proofs.Prelude.{durable_by, Boot, Commit, Expired, Taken, State, Counters, Forgets, Counted, with_named, with_born, keys_behind, next_behind}
use Rattle.sv_core.proofs.Prelude.{home_behind, applied, keys_total, keys_tell, is_here, wants_where, wants_here, settles, settled_by}
use Rattle.sv_model.specs.declared.record.Change.TheVariants.{Absent as Unchanged, Alive as ChangeAlive, Ended as ChangeEnded}
use Rattle.sv_model.specs.declared.record.Record.TheVariants.{Sent as SentRecord, Gone as GoneRecord}
use Rattle.sv_model.specs.Replay.{boot_behind}
use Rattle.sv_model.proofs.KnownLemmas.{plainly_known}
use Rattle.sv_core.specs.Wants.{settles_born}
use Rattle.sv_core.proofs.WantLemmas.{same_where}

-- it can be served by what is kept
abbrev here : Keys → Parked → Bool
here keys = λ p. is_settled (get keys p.key)

settled_if : (b : Bool) (st : KeyState) (o : Option KeyState) → is_settled (cond b (Some st) o) ≡ cond b (is_settled (Some st)) (is_settled o)
settled_if true st o = refl
settled_if false st o = refl

put : (keys : Keys) (k : Key) (st : KeyState) (q : Key) → is_settled (get (insert keys k st) q) ≡ cond (same_key q k) (is_settled (Some st)) (is_settled (get keys q))
put keys k st q = ap is_settled (get-insert keys_total keys k st q) ∙ settled_if (same_key q k) st (get keys q)

-- one that was settled is settled again
again : (keys : Keys) (k : Key) (st : KeyState) (q : Key) → is_settled (get keys k) ≡ true → is_settled (Some st) ≡ true → is_settled (get (insert keys k st) q) ≡ is_settled (get keys q)
again keys k st q was is = put keys k st q ∙ ⊎_elim
    (λ (t : (q ≡ k) × (same_key q k ≡ true)). ap (λ b. cond b (is_settled (Some st)) (is_settled (get keys q))) t.1 ∙ is ∙ sym was ∙ ap (λ (p : Key). is_settled (get keys p)) (sym t.0))
    (λ (t : (q ≢ k) × (same_key q k ≡ false)). ap (λ b. cond b (is_settled (Some st)) (is_settled (get keys q))) t.1)
    (keys_tell q k)

kept : (keys : Keys) (k : Key) (s : Session) (st : Option KeyState) (q : Key) → get keys k ≡ st → is_settled (get (kept_at k s st keys) q) ≡ is_settled (get keys q)
kept keys k s None q there = refl
kept keys k s (Some (Active e old)) q there = again keys k (Active e s) q (ap is_settled there) refl
kept keys k s (Some (Sent e old to)) q there = refl
kept keys k s (Some (Gone e)) q there = refl
kept keys k s (Some (Ended e)) q there = refl

ended : (keys : Keys) (k : Key) (st : Option KeyState) (q : Key) → get keys k ≡ st → is_settled (get (ended_at None k st keys) q) ≡ is_settled (get keys q)
ended keys k None q there = refl
ended keys k (Some (Active e old)) q there = again keys k (Ended e) q (ap is_settled there) refl
ended keys k (Some (Sent e old to)) q there = refl
ended keys k (Some (Gone e)) q there = refl
ended keys k (Some (Ended e)) q there = refl

named : (keys : Keys) (c : Change) (q : Key) → is_settled (get (with_named None c keys) q) ≡ is_settled (get keys q)
named keys Unchanged q = refl
named keys (ChangeAlive k s) q = kept keys k s (get keys k) q refl
named keys (ChangeEnded k) q = ended keys k (get keys k) q refl

born : (keys : Keys) (c : Change) (p : Parked) → here (with_born None c keys) p ≡ settled_by (settles_born c) (here keys) p
born keys Unchanged p = refl
born keys (ChangeAlive k s) p = put keys k _ p.key
born keys (ChangeEnded k) p = put keys k _ p.key

by_named : (o : Option (Key × Bool)) (one other : Parked → Bool) (p : Parked) → one p ≡ other p → settled_by o one p ≡ settled_by o other p
by_named None one other p same = same
by_named (Some change) one other p same = ap (λ b. cond (same_key p.key change.0) change.1 b) same

-- those that can be served after a record
here_behind : (keys : Keys) (r : Record) (p : Parked) → here (keys_behind None r keys) p ≡ settled_by (settles r) (here keys) p
here_behind keys (Boot boot) p = refl
here_behind keys (Commit c d) p = born (with_named None c keys) d p ∙ by_named (settles_born d) (here (with_named None c keys)) (here keys) p (named keys c p.key)
here_behind keys (Expired k) p = ended keys k (get keys k) p.key refl
here_behind keys (SentRecord k e to s) p = put keys k (Sent e s to) p.key
here_behind keys (Taken k e from s) p = put keys k (Active e s) p.key
here_behind keys (GoneRecord k e) p = put keys k (Gone e) p.key
here_behind keys (State k st) p = put keys k st p.key
here_behind keys (Counters boot next) p = refl
here_behind keys (Forgets home boot) p = refl
here_behind keys (Counted home boot next) p = refl

-- at a node that forgets none only what is kept counts
here_plain : (keys : Keys) (boot next : ℕ) → is_here (durable_by keys boot next None) ≡ here keys
here_plain keys boot next = λ i p. is_settled (plainly_known (durable_by keys boot next None) p.key refl i)

pub settled_behind : (keys : Keys) (boot next : ℕ) (home : Option ℕ) (r : Record) (ps : List Parked) → home ≡ None → home_behind r home ≡ None
    → wants_where (settled_by (settles r) (is_here (durable_by keys boot next home))) ps ≡ wants_here (applied r (durable_by keys boot next home)) ps
settled_behind keys boot next home r ps none stays =
    (λ i. wants_where (settled_by (settles r) (is_here (durable_by keys boot next (none i)))) ps)
    ∙ ap (λ f. wants_where (settled_by (settles r) f) ps) (here_plain keys boot next)
    ∙ same_where (settled_by (settles r) (here keys)) (here (keys_behind None r keys)) ps (λ p. sym (here_behind keys r p))
    ∙ ap (λ f. wants_where f ps) (sym (here_plain (keys_behind None r keys) (boot_behind r boot) (next_behind r next)))
    ∙ (λ i. wants_here (durable_by (keys_behind (sym none i) r keys) (boot_behind r boot) (next_behind r next) (sym stays i)) ps)
