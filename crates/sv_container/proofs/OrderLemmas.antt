-- The requests of one session, in the order of all commits.
use Rattle.sv_container.proofs.Prelude.{◌≡◌, ◌≢◌, ◌⊎◌, inl, inr, refl, sym, ap, ◌∙◌, ℕ, Bool, true, false, cond, ◌&&◌, List, [], ◌∷◌, Option, Some, None}
use Rattle.sv_container.proofs.Prelude.{option_map, slice_get, Key, Secret, Birth, Fate, Untouched, Kept, Ended, Outcome, Request, Session, is_expired}
use Rattle.sv_container.proofs.Prelude.{context_at, path_in_context, joined, session_cookie, is_turned_away, App, Ask, after, kept_in, left_by, outcome_at}
use Rattle.sv_container.proofs.Prelude.{Deployed, IsSound, container_meaning, place_for, served}
use Rattle.std.proofs.Common.{true≢false}
use Rattle.sv_model.specs.declared.commit.Commit.{Commit}
use Rattle.sv_model.specs.declared.commit.Commit.TheVariants.{Served, Expired}
use Rattle.sv_model.specs.declared.outcome.Birth.TheVariants.{Absent, Alive, Ended as BirthEnded}
use Rattle.sv_model.specs.Container.{Store, AreLawful, IsLawful, IsNewKey, always, born, committed, fated, handed_if, held_by, made_with, after as run}
use Rattle.sv_model.specs.Keys.{same_key}
use Rattle.sv_model.proofs.KeyLemmas.{keys_tell}
use Rattle.sv_session.specs.Edit.{IsFateOf}
use Rattle.sv_container.specs.Laws.{joined_stays, sound_there, touches_only_handed}
use Rattle.sv_container.specs.Once.{AreJoined, IsAnsweredInOrder, IsInOrder, IsJoinedAt, ask_by, ask_if, asks_in, is_for, with_ask}
use Rattle.sv_container.proofs.OnceLemmas.{is_joined}

cond_true : (b x : Bool) → x ≡ true → cond b true x ≡ true
cond_true true x is = refl
cond_true false x is = is

untouched_map : (named : Option (Key × Secret)) (map : Key → Option Session) (fate : Fate) → fate ≡ Untouched → fated named fate map ≡ map
untouched_map None map fate is = refl
untouched_map (Some named) map Untouched is = refl
untouched_map (Some named) map (Kept s) is = absurd cc
untouched_map (Some named) map Ended is = absurd cc

module _ (key : Key) where
  -- ---- what a request does to the session of a key

  fate_here : (named : Key × Secret) → same_key key named.0 ≡ true → (map : Key → Option Session) (fate : Fate) → IsFateOf (Some key) fate
      → fated (Some named) fate map key ≡ kept_in fate
  fate_here named same map Untouched is = absurd is
  fate_here named same map (Kept s) is = ap (λ (b : Bool). cond b (Some s) (map key)) same
  fate_here named same map Ended is = ap (λ (b : Bool). cond b None (map key)) same

  fate_elsewhere : (named : Key × Secret) → same_key key named.0 ≡ false → (map : Key → Option Session) (fate : Fate) → fated (Some named) fate map key ≡ map key
  fate_elsewhere named other map Untouched = refl
  fate_elsewhere named other map (Kept s) = ap (λ (b : Bool). cond b (Some s) (map key)) other
  fate_elsewhere named other map Ended = ap (λ (b : Bool). cond b None (map key)) other

  module _ (store : Store) (made : store.made key ≡ true) where
    -- a key that is new is another one
    other_by : (fresh : Key) → store.made fresh ≡ false → ((key ≡ fresh) × (same_key key fresh ≡ true)) ⊎ ((key ≢ fresh) × (same_key key fresh ≡ false))
        → same_key key fresh ≡ false
    other_by fresh new (inl t) = absurd (true≢false (sym made ∙ ap store.made t.0 ∙ new))
    other_by fresh new (inr t) = t.1

    other : (fresh : Key) → store.made fresh ≡ false → same_key key fresh ≡ false
    other fresh new = other_by fresh new (keys_tell key fresh)

    birth_elsewhere : (fresh : Key) (birth : Birth) → IsNewKey store fresh birth → (map : Key → Option Session) → born fresh birth map key ≡ map key
    birth_elsewhere fresh Absent new map = refl
    birth_elsewhere fresh (Alive s) new map = ap (λ (b : Bool). cond b (Some s) (map key)) (other fresh new)
    birth_elsewhere fresh BirthEnded new map = refl

    made_on : (fresh : Key) (birth : Birth) → made_with fresh birth store.made key ≡ true
    made_on fresh Absent = made
    made_on fresh (Alive s) = cond_true (same_key key fresh) (store.made key) made
    made_on fresh BirthEnded = cond_true (same_key key fresh) (store.made key) made

-- the key that a request names is the one that is looked for
key_is : (key : Key) (named : Key × Secret) → same_key key named.0 ≡ true
    → ((key ≡ named.0) × (same_key key named.0 ≡ true)) ⊎ ((key ≢ named.0) × (same_key key named.0 ≡ false)) → key ≡ named.0
key_is key named same (inl t) = t.0
key_is key named same (inr t) = absurd (true≢false (sym same ∙ t.1))

module _ (d : Deployed) (place : ℕ) (a : App) (key : Key) (there : slice_get d.apps place ≡ Some a) (store : Store) (r : Request) (now : ℕ) (fresh : Key × Secret) where
  abbrev q : Ask
  q = record { request = r; path = path_in_context (context_at d.paths place) r.path; now = now; fresh = fresh }

  abbrev Joins : Session → Type 0
  Joins s = (place_for d r.path ≡ Some place) × ((is_turned_away a.number (session_cookie a.cookie.name r.cookies a.number) s ≡ false) × (is_expired s now ≡ false))

  -- what comes of a request that is handed the session
  served_it : (named : Key × Secret) (s : Session) → key ≡ named.0 → store.map key ≡ Some s → Joins s
      → served d r (option_map (λ t. (named.0, t)) (store.map named.0)) now fresh ≡ outcome_at a key s q
  served_it named s is has joins =
      ap (λ (k : Key). served d r (option_map (λ t. (k, t)) (store.map k)) now fresh) (sym is)
      ∙ ap (λ (x : Option Session). served d r (option_map (λ t. (key, t)) x) now fresh) has
      ∙ is_joined d r place a key s now fresh joins.0 there joins.1.0 joins.1.1

  answered_by_name : (named : Option (Key × Secret)) (s : Session) → is_for key named ≡ true → store.map key ≡ Some s → Joins s
      → served d r (held_by store.map named) now fresh ≡ outcome_at a key s q
  answered_by_name None s is has joins = absurd cc
  answered_by_name (Some named) s is has joins = served_it named s (key_is key named is (keys_tell key named.0)) has joins

  module _ (sound : IsSound d) (made : store.made key ≡ true) where
    abbrev outcome : Bool → Option (Key × Secret) → Outcome
    outcome handed named = served d r (handed_if handed (held_by store.map named)) now fresh

    abbrev behind : Bool → Option (Key × Secret) → Option Session
    behind handed named = born fresh.0 (outcome handed named).birth (fated named (outcome handed named).fate store.map) key

    abbrev next_by : Option Session → Option Ask → Option Session
    next_by s None = s
    next_by s (Some p) = left_by a key s p

    without_birth : (handed : Bool) (named : Option (Key × Secret)) → IsNewKey store fresh.0 (outcome handed named).birth
        → behind handed named ≡ fated named (outcome handed named).fate store.map key
    without_birth handed named new = birth_elsewhere key store made fresh.0 (outcome handed named).birth new (fated named (outcome handed named).fate store.map)

    -- it is handed the session, if that is there
    handed_it : (named : Key × Secret) → key ≡ named.0 → same_key key named.0 ≡ true → (s : Option Session) → store.map key ≡ s → ((t : Session) → s ≡ Some t → Joins t)
        → fated (Some named) (outcome true (Some named)).fate store.map key ≡ left_by a key s q
    handed_it named is same None has joins =
        let nobody : served d r (option_map (λ t. (named.0, t)) (store.map named.0)) now fresh ≡ served d r None now fresh =
        ap (λ (k : Key). served d r (option_map (λ t. (k, t)) (store.map k)) now fresh) (sym is)
        ∙ ap (λ (x : Option Session). served d r (option_map (λ t. (key, t)) x) now fresh) has in
        ap (λ (m : Key → Option Session). m key) (untouched_map (Some named) store.map (outcome true (Some named)).fate (ap (λ (o : Outcome). o.fate) nobody ∙ touches_only_handed d sound r now fresh))
        ∙ has
    handed_it named is same (Some t) has joins =
        ap (λ (o : Outcome). fated (Some named) o.fate store.map key) (served_it named t is has (joins t refl))
        ∙ fate_here key named same store.map (outcome_at a key t q).fate (joined_stays a (sound_there d sound place a there) r q.path key (joined t now) now fresh)

    -- it names a session
    named_it : (named : Key × Secret) → ((key ≡ named.0) × (same_key key named.0 ≡ true)) ⊎ ((key ≢ named.0) × (same_key key named.0 ≡ false))
        → (same_key key named.0 ≡ true → (s : Session) → store.map key ≡ Some s → Joins s)
        → fated (Some named) (outcome true (Some named)).fate store.map key ≡ next_by (store.map key) (ask_if (same_key key named.0) q)
    named_it named (inl t) joins =
        handed_it named t.0 t.1 (store.map key) refl (λ s has. joins t.1 s has)
        ∙ ap (λ (b : Bool). next_by (store.map key) (ask_if b q)) (sym t.1)
    named_it named (inr t) joins =
        fate_elsewhere key named t.1 store.map (outcome true (Some named)).fate
        ∙ ap (λ (b : Bool). next_by (store.map key) (ask_if b q)) (sym t.1)

    by_name : (handed : Bool) (named : Option (Key × Secret))
        → (handed ≡ true → is_for key named ≡ true → (s : Session) → store.map key ≡ Some s → Joins s)
        → fated named (outcome handed named).fate store.map key ≡ next_by (store.map key) (ask_if (handed && is_for key named) q)
    by_name false None joins = refl
    by_name true None joins = refl
    by_name false (Some named) joins =
        ap (λ (m : Key → Option Session). m key) (untouched_map (Some named) store.map (outcome false (Some named)).fate (touches_only_handed d sound r now fresh))
    by_name true (Some named) joins = named_it named (keys_tell key named.0) (joins refl)

    pub served_step : (handed : Bool) (named : Option (Key × Secret)) → IsNewKey store fresh.0 (outcome handed named).birth
        → (handed ≡ true → is_for key named ≡ true → (s : Session) → store.map key ≡ Some s → Joins s)
        → behind handed named ≡ next_by (store.map key) (ask_if (handed && is_for key named) q)
    served_step handed named new joins = without_birth handed named new ∙ by_name handed named joins

module _ (d : Deployed) (sound : IsSound d) (place : ℕ) (a : App) (key : Key) (there : slice_get d.apps place ≡ Some a) where
  abbrev next : Option Session → Option Ask → Option Session
  next s None = s
  next s (Some p) = left_by a key s p

  with_it : (s : Option Session) (p : Option Ask) (qs : List Ask) → after a key s (with_ask p qs) ≡ after a key (next s p) qs
  with_it s None qs = refl
  with_it s (Some p) qs = refl

  next_is : (store : Store) (r : Request) (now : ℕ) (fresh : Key × Secret) (made : store.made key ≡ true) (s : Option Session) (p : Option Ask)
      → next_by d place a key there store r now fresh sound made s p ≡ next s p
  next_is store r now fresh made s None = refl
  next_is store r now fresh made s (Some p) = refl

  step : (store : Store) (c : Commit) → store.made key ≡ true → IsLawful (always (container_meaning d)) store c → IsJoinedAt d place a key store c
      → (committed (always (container_meaning d)) store c).map key ≡ next (store.map key) (ask_by d place key c)
  step store (Served token r now handed fresh) made lawful joins =
      served_step d place a key there store r now fresh sound made handed ((container_meaning d).names r) lawful joins
      ∙ next_is store r now fresh made (store.map key) (ask_by d place key (Served token r now handed fresh))
  step store (Expired k now) made lawful other = ap (λ (b : Bool). cond b None (store.map key)) other

  stays_made : (store : Store) (c : Commit) → store.made key ≡ true → (committed (always (container_meaning d)) store c).made key ≡ true
  stays_made store (Served token r now handed fresh) made =
      made_on key store made fresh.0 (served d r (handed_if handed (held_by store.map ((container_meaning d).names r))) now fresh).birth
  stays_made store (Expired k now) made = made

  in_order_of : (store : Store) (commits : List Commit) → store.made key ≡ true → AreLawful (always (container_meaning d)) store commits
      → AreJoined d place a key store commits
      → (run (always (container_meaning d)) store commits).map key ≡ after a key (store.map key) (asks_in d place key commits)
  in_order_of store [] made lawful joins = refl
  in_order_of store (c ∷ cs) made lawful joins =
      in_order_of (committed (always (container_meaning d)) store c) cs (stays_made store c made) lawful.1 joins.1
      ∙ ap (λ (s : Option Session). after a key s (asks_in d place key cs)) (step store c made lawful.0 joins.0)
      ∙ sym (with_it (store.map key) (ask_by d place key c) (asks_in d place key cs))

pub is_in_order : IsInOrder
is_in_order d sound place a key store commits there made lawful joins = in_order_of d sound place a key there store commits made lawful joins

pub is_answered_in_order : IsAnsweredInOrder
is_answered_in_order d place a key store token r now fresh s there named has joins =
    ap (λ (o : Outcome). Some (token, o.response))
    (answered_by_name d place a key there store r now fresh ((container_meaning d).names r) s named has (joins refl named s has))
