-- The container's map and a node's keys go side by side.
use Rattle.std.proofs.Common.{◌≡◌, ◌≢◌, ℕ, Bool, true, false, cond, Option, Some, None, refl, sym, ap, ◌∙◌, ⊎_elim}
use Rattle.std.specs.Prelude.{is_some}
use Rattle.std.specs.Option.{option_map}
use Rattle.std.proofs.lemmas.Bool.{cond_both}
use Rattle.std.specs.FinMap.{get, insert, remove, get-insert, get-remove}
use Rattle.sv_model.proofs.Prelude.{Key, Secret, Session, KeyState, Active, Sent, Gone, Ended, Fate, Birth, same_key, set_key, Keys, session_in, is_own}
use Rattle.sv_model.proofs.Prelude.{held_in, kept_at, over_at, ended_at, fated_keys, born_keys}
use Rattle.sv_model.specs.declared.outcome.Fate.TheVariants.{Untouched, Kept, Ended as FateEnded}
use Rattle.sv_model.specs.declared.outcome.Birth.TheVariants.{Absent, Alive, Ended as BirthEnded}
use Rattle.sv_model.specs.Container.{held_by, handed_if, fated, born}
use Rattle.sv_model.proofs.KeyLemmas.{keys_total, keys_tell}

-- the container has the sessions that are active here
abbrev pub Agree : (Key → Option Session) → Keys → Type 0
Agree map keys = (k : Key) → map k ≡ session_in (get keys k)

session_cond : (b : Bool) (st : KeyState) (old : Option KeyState) → session_in (cond b (Some st) old) ≡ cond b (session_in (Some st)) (session_in old)
session_cond true st old = refl
session_cond false st old = refl

-- one key changes on both sides
pub set_agrees : (map : Key → Option Session) (keys : Keys) (k : Key) (st : KeyState) → Agree map keys → Agree (set_key map k (session_in (Some st))) (insert keys k st)
set_agrees map keys k st agree q =
    ap (cond (same_key q k) (session_in (Some st))) (agree q)
    ∙ sym (session_cond (same_key q k) st (get keys q))
    ∙ ap session_in (sym (get-insert keys_total keys k st q))

none_cond : (b : Bool) (old : Option KeyState) → session_in (cond b None old) ≡ cond b None (session_in old)
none_cond true old = refl
none_cond false old = refl

-- one key leaves both sides
unset_agrees : (map : Key → Option Session) (keys : Keys) (k : Key) → Agree map keys → Agree (set_key map k None) (remove keys k)
unset_agrees map keys k agree q = ap (cond (same_key q k) None) (agree q) ∙ sym (none_cond (same_key q k) (get keys q)) ∙ ap session_in (sym (get-remove keys_total keys k q))

over_agrees : (home : Option ℕ) (map : Key → Option Session) (keys : Keys) (k : Key) (e : ℕ) → Agree map keys → Agree (set_key map k None) (over_at home k e keys)
over_agrees home map keys k e agree = cond_both (is_own home k) (remove keys k) (insert keys k (Ended e)) (Agree (set_key map k None)) (λ _. unset_agrees map keys k agree) (λ _. set_agrees map keys k (Ended e) agree)

-- what is held is what the container has
pub held_agrees : (map : Key → Option Session) (keys : Keys) (named : Option (Key × Secret)) → Agree map keys → held_by map named ≡ held_in keys named
held_agrees map keys None agree = refl
held_agrees map keys (Some named) agree = ap (option_map {U = Key × Session} (λ s. (named.0, s))) (agree named.0)

pub handed_held : (held : Option (Key × Session)) → handed_if (is_some held) held ≡ held
handed_held None = refl
handed_held (Some h) = refl

-- where nobody holds the session that is named, its fate is Untouched
abbrev pub IsTouchedHeld : Keys → Option (Key × Secret) → Fate → Type 0
IsTouchedHeld keys named fate = held_in keys named ≡ None → fate ≡ Untouched

kept_agrees : (map : Key → Option Session) (keys : Keys) (k : Key) (s : Session) (st : Option KeyState) → Agree map keys
    → (option_map {U = Key × Session} (λ u. (k, u)) (session_in st) ≡ None → Kept s ≡ Untouched) → Agree (set_key map k (Some s)) (kept_at k s st keys)
kept_agrees map keys k s None agree touched = absurd (let never : Kept s ≡ Untouched = touched refl in cc)
kept_agrees map keys k s (Some (Active e old)) agree touched = set_agrees map keys k (Active e s) agree
kept_agrees map keys k s (Some (Sent e old to)) agree touched = absurd (let never : Kept s ≡ Untouched = touched refl in cc)
kept_agrees map keys k s (Some (Gone e)) agree touched = absurd (let never : Kept s ≡ Untouched = touched refl in cc)
kept_agrees map keys k s (Some (Ended e)) agree touched = absurd (let never : Kept s ≡ Untouched = touched refl in cc)

ended_agrees : (home : Option ℕ) (map : Key → Option Session) (keys : Keys) (k : Key) (st : Option KeyState) → Agree map keys
    → (option_map {U = Key × Session} (λ u. (k, u)) (session_in st) ≡ None → FateEnded ≡ Untouched) → Agree (set_key map k None) (ended_at home k st keys)
ended_agrees home map keys k None agree touched = absurd (let never : FateEnded ≡ Untouched = touched refl in cc)
ended_agrees home map keys k (Some (Active e old)) agree touched = over_agrees home map keys k e agree
ended_agrees home map keys k (Some (Sent e old to)) agree touched = absurd (let never : FateEnded ≡ Untouched = touched refl in cc)
ended_agrees home map keys k (Some (Gone e)) agree touched = absurd (let never : FateEnded ≡ Untouched = touched refl in cc)
ended_agrees home map keys k (Some (Ended e)) agree touched = absurd (let never : FateEnded ≡ Untouched = touched refl in cc)

-- after what became of the session that is named
pub fated_agrees : (home : Option ℕ) (map : Key → Option Session) (keys : Keys) (named : Option (Key × Secret)) (fate : Fate) → Agree map keys → IsTouchedHeld keys named fate
    → Agree (fated named fate map) (fated_keys home named fate keys)
fated_agrees home map keys None fate agree touched = agree
fated_agrees home map keys (Some named) Untouched agree touched = agree
fated_agrees home map keys (Some named) (Kept s) agree touched = kept_agrees map keys named.0 s (get keys named.0) agree touched
fated_agrees home map keys (Some named) FateEnded agree touched = ended_agrees home map keys named.0 (get keys named.0) agree touched

-- a key without a session gets none
none_agrees : (home : Option ℕ) (map : Key → Option Session) (keys : Keys) (k : Key) (e : ℕ) → Agree map keys → get keys k ≡ None → Agree map (over_at home k e keys)
none_agrees home map keys k e agree unknown q =
    ⊎_elim
    (λ (t : (q ≡ k) × (same_key q k ≡ true)). agree q ∙ ap (λ (p : Key). session_in (get keys p)) t.0 ∙ ap session_in unknown ∙ ap (λ b. cond b None (map q)) (sym t.1))
    (λ (t : (q ≢ k) × (same_key q k ≡ false)). ap (λ b. cond b None (map q)) (sym t.1))
    (keys_tell q k)
    ∙ over_agrees home map keys k e agree q

-- after what became of the session that was made
pub born_agrees : (home : Option ℕ) (map : Key → Option Session) (keys : Keys) (k : Key) (b : Birth) → Agree map keys → get keys k ≡ None → Agree (born k b map) (born_keys home k b keys)
born_agrees home map keys k Absent agree unknown = agree
born_agrees home map keys k (Alive s) agree unknown = set_agrees map keys k (Active 1 s) agree
born_agrees home map keys k BirthEnded agree unknown = none_agrees home map keys k 1 agree unknown
