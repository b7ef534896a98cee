-- The wants of the requests that wait: in which order they stand, and which of them can be answered here.
use Rattle.std.specs.Prelude.{◌≡◌, ℕ, ◌+◌, ◌<◌, ◌&&◌, Bool, true, false, cond, nat_le, T}
use Rattle.std.specs.Prelude.{Option, Some, None, List, [], ◌∷◌, ◌++◌, map, length, position, slice_index_or}
use Rattle.sv_model.specs.declared.key.Key.{Key}
use Rattle.sv_model.specs.declared.record.Change.{Change}
use Rattle.sv_model.specs.declared.record.Change.TheVariants.{Absent as Unchanged, Alive as ChangeAlive, Ended as ChangeEnded}
use Rattle.sv_model.specs.declared.record.Record.{Record}
use Rattle.sv_model.specs.declared.record.Record.TheVariants.{Boot, Commit, Expired, Sent, Taken, Gone, State, Counters, Forgets, Counted}
use Rattle.sv_model.specs.declared.node.Parked.{Parked}
use Rattle.sv_model.specs.Keys.{same_key}
use Rattle.sv_model.specs.NodeState.{Durable, known, is_settled}

-- each number is above those before it
abbrev pub rise_from : ℕ → List ℕ → Bool
rise_from low [] = true
rise_from low (n ∷ ns) = nat_le low n && rise_from (n + 1) ns

abbrev pub Rise : List ℕ → Type 0
Rise ns = T (rise_from 0 ns)

abbrev pub wants_in : List Parked → List ℕ
wants_in parked = map (λ p. p.want) parked

-- the keys of the sessions that they wait for
abbrev pub keys_in : List Parked → List Key
keys_in parked = map (λ p. p.key) parked

-- the wants of those that wait rise, and the next one is above them
abbrev pub IsLine : ℕ → List Parked → Type 0
IsLine next_want parked = Rise (wants_in parked ++ next_want ∷ [])

-- ---- the wants of those that pass

abbrev pub wants_where : (Parked → Bool) → List Parked → List ℕ
wants_where test [] = []
wants_where test (p ∷ ps) = cond (test p) (p.want ∷ wants_where test ps) (wants_where test ps)

-- it can be served here at once
abbrev pub is_here : Durable → Parked → Bool
is_here d = λ p. is_settled (known d p.key)

-- a walk over those that wait gives the wants of those that can be served
abbrev pub wants_here : Durable → List Parked → List ℕ
wants_here d parked = wants_where (is_here d) parked

-- the key whose requests can be served after a record, or can't, at a node that forgets none
abbrev pub settles_born : Change → Option (Key × Bool)
settles_born Unchanged = None
settles_born (ChangeAlive k s) = Some (k, true)
settles_born (ChangeEnded k) = Some (k, true)

abbrev pub settles : Record → Option (Key × Bool)
settles (Boot boot) = None
settles (Commit named born) = settles_born born
settles (Expired k) = None
settles (Sent k e to s) = Some (k, false)
settles (Taken k e from s) = Some (k, true)
settles (Gone k e) = Some (k, false)
settles (State k st) = Some (k, is_settled (Some st))
settles (Counters boot next) = None
settles (Forgets home boot) = None
settles (Counted home boot next) = None

-- those that pass, where requests for a key do from now on, or don't
abbrev pub with_key : Key → Bool → (Parked → Bool) → Parked → Bool
with_key k is test = λ p. cond (same_key p.key k) is (test p)

abbrev pub settled_by : Option (Key × Bool) → (Parked → Bool) → Parked → Bool
settled_by None test = test
settled_by (Some change) test = with_key change.0 change.1 test

-- ---- where a want stands

-- the request that has the want stands here: it is the only one that a test for the want can pass, and the first of those that
-- pass where its want is
pub record Stands (want : ℕ) (ps : List Parked) (at : ℕ) : Type 0 where
  pub within : at < length ps
  pub is : (p : Parked) → (slice_index_or ps at p).want ≡ want
  pub only : (test : Parked → Bool) → ((p : Parked) → test p ≡ true → p.want ≡ want) → (p : Parked)
      → position test ps ≡ cond (test (slice_index_or ps at p)) (Some at) None
  pub first : (test : Parked → Bool) (rest : List ℕ) → wants_where test ps ≡ want ∷ rest → position test ps ≡ Some at

-- no request has the want
pub record Lacks (want : ℕ) (ps : List Parked) : Type 0 where
  pub only : (test : Parked → Bool) → ((p : Parked) → test p ≡ true → p.want ≡ want) → position test ps ≡ None
  pub first : (test : Parked → Bool) (rest : List ℕ) → wants_where test ps ≡ want ∷ rest → ⊥

-- a want among others, or the place where it would stand
abbrev pub around : List ℕ → ℕ → Bool → List ℕ → List ℕ
around before want is behind = before ++ cond is (want ∷ behind) behind

pub record IsAround (before : List ℕ) (want : ℕ) (was : Bool) (behind : List ℕ) (wants : List ℕ) : Type 0 where
  pub rise : Rise (before ++ want ∷ behind)
  pub are : wants ≡ around before want was behind
