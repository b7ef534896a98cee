-- Keys in their order, each with the place of what is known of it.
use Rattle.std.specs.Prelude.{◌≡◌, ◌⊎◌, ◌++◌, ℕ, ◌<◌, ◌≤◌, ◌==◌, ◌&&◌, Bool, true, false, not, nat_lt}
use Rattle.std.specs.Prelude.{nat_le, cond, T, Some, None, List, [], ◌∷◌, length, slice_index_or, slice_set, remove}
use Rattle.std.specs.List as list
use Rattle.std.specs.FinMap.{find, put, is_sorted}
use Rattle.sv_model.specs.declared.key.Key.{Key}
use Rattle.sv_model.specs.declared.state.KeyState.{KeyState}
use Rattle.sv_model.specs.declared.state.KeyState.TheVariants.{Active, Sent, Gone, Ended}
use Rattle.sv_model.specs.Keys.{key_cmp, same_key}
use Rattle.sv_core.specs.Order.{Entry}

abbrev pub Place : Type 0
Place = Key × ℕ

-- each key is above those before it
abbrev pub Rises : {V : Type 0} → List (Key × V) → Type 0
Rises ps = T (is_sorted key_cmp ps)

-- each place is below the number of states
abbrev pub are_within : ℕ → List Place → Bool
are_within n [] = true
are_within n (p ∷ ps) = nat_lt p.1 n && are_within n ps

abbrev pub AreWithin : ℕ → List Place → Type 0
AreWithin n ps = T (are_within n ps)

-- nothing stands at the place
abbrev pub is_free : ℕ → List Place → Bool
is_free at [] = true
is_free at (p ∷ ps) = not (p.1 == at) && is_free at ps

-- no place is that of two keys
abbrev pub are_apart : List Place → Bool
are_apart [] = true
are_apart (p ∷ ps) = is_free p.1 ps && are_apart ps

abbrev pub AreApart : List Place → Type 0
AreApart ps = T (are_apart ps)

-- each of these places is below the number of states
abbrev pub are_below : ℕ → List ℕ → Bool
are_below n [] = true
are_below n (at ∷ free) = nat_lt at n && are_below n free

abbrev pub AreBelow : ℕ → List ℕ → Type 0
AreBelow n free = T (are_below n free)

-- the place isn't one of these
abbrev pub is_other : ℕ → List ℕ → Bool
is_other at [] = true
is_other at (b ∷ free) = not (b == at) && is_other at free

-- the place is that of a state, no key's, and not one of these
abbrev pub is_spare : ℕ → List Place → ℕ → List ℕ → Bool
is_spare n ps at free = nat_lt at n && (is_free at ps && is_other at free)

-- these places are those of states, no key's, and none of them stands there twice
abbrev pub are_spare : ℕ → List Place → List ℕ → Bool
are_spare n ps [] = true
are_spare n ps (at ∷ free) = is_spare n ps at free && are_spare n ps free

abbrev pub AreSpare : ℕ → List Place → List ℕ → Type 0
AreSpare n ps free = T (are_spare n ps free)

-- each key is of a home up to this one
abbrev pub are_low : ℕ → List Place → Bool
are_low home [] = true
are_low home (p ∷ ps) = nat_le p.0.home home && are_low home ps

abbrev pub AreLow : ℕ → List Place → Type 0
AreLow home ps = T (are_low home ps)

-- each key is of a home above this one
abbrev pub are_high : ℕ → List Place → Bool
are_high home [] = true
are_high home (p ∷ ps) = nat_lt home p.0.home && are_high home ps

abbrev pub AreHigh : ℕ → List Place → Type 0
AreHigh home ps = T (are_high home ps)

-- the state at a place
abbrev pub state_at : List KeyState → ℕ → KeyState
state_at states at = slice_index_or states at (Gone 0)

-- a state was put down at the last of the free places, or after all others where there is none
abbrev pub IsPutDown : List KeyState → List ℕ → List KeyState → List ℕ → ℕ → KeyState → Type 0
IsPutDown old free new left at st =
    ((free ≡ left ++ at ∷ []) × (new ≡ slice_set old at st)) ⊎ ((free ≡ []) × (left ≡ []) × (at ≡ length old) × (new ≡ old ++ st ∷ []))

-- the keys, each with what is known of it
abbrev pub seen : List KeyState → List Place → List Entry
seen states [] = []
seen states (p ∷ ps) = (p.0, state_at states p.1) ∷ seen states ps

-- without a key
abbrev pub erase : {V : Type 0} → Key → List (Key × V) → List (Key × V)
erase k [] = []
erase k (p ∷ ps) = cond (same_key k p.0) ps (p ∷ erase k ps)

-- the places with the key or without it
abbrev pub marked : Key → ℕ → Bool → List Place → List Place
marked k at true ps = put key_cmp k at ps
marked k at false ps = erase k ps

-- the session was handed over, and not yet acknowledged
abbrev pub is_handed_over : KeyState → Bool
is_handed_over (Active e s) = false
is_handed_over (Sent e s to) = true
is_handed_over (Gone e) = false
is_handed_over (Ended e) = false

-- a walk over the places gives those whose session was handed over
abbrev pub sent_among : List KeyState → List Place → List Place
sent_among states [] = []
sent_among states (p ∷ ps) = cond (is_handed_over (state_at states p.1)) (p ∷ sent_among states ps) (sent_among states ps)

-- the key stands at this index
pub record IsFound (k : Key) (ps : List Place) (at : ℕ) : Type 0 where
  pub within : at < length ps
  pub value : find key_cmp k ps ≡ Some (slice_index_or ps at (k, 0)).1
  pub puts : (place : ℕ) → put key_cmp k place ps ≡ slice_set ps at (k, place)
  pub erased : erase k ps ≡ remove ps at

-- the key isn't there, and would stand at this index
pub record IsGap (k : Key) (ps : List Place) (at : ℕ) : Type 0 where
  pub within : at ≤ length ps
  pub unknown : find key_cmp k ps ≡ None
  pub puts : (place : ℕ) → put key_cmp k place ps ≡ list.insert ps at (k, place)
  pub erased : erase k ps ≡ ps
