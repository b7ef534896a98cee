-- The records of a snapshot may stand after one another, and give what the node keeps.
use Rattle.sv_core.proofs.Prelude.{◌≡◌, ℕ, suc, ◌+◌, ◌<◌, ◌≤◌, false, cond, Option, Some, None, List, [], ◌∷◌, ◌++◌, map, length, get_or, take, arith, refl}
use Rattle.sv_core.proofs.Prelude.{sym, ap, ◌∙◌, subst, inl, inr, T, not, ◌&&◌, is_none, is_eq, Less, empty, insert, len, entries, find, put, same_entries_map}
use Rattle.sv_core.proofs.Prelude.{get-entries, len-entries, entries-insert, entries_sorted, below_all, by_order, append-nil, append_assoc, map-append, Key}
use Rattle.sv_core.proofs.Prelude.{KeyState, Setting, Stage, Blank, Snapshot, key_cmp, Keys, Durable, is_unmade, bound, has_space, blank, applied, replayed}
use Rattle.sv_core.proofs.Prelude.{stage_behind, Fits, AllFit, Entry, Place, Rises, state_at, seen, Record, keys_total, staged, state_record}
use Rattle.std.proofs.lemmas.List.{length-append}
use Rattle.sv_model.specs.Membership.{In}
use Rattle.sv_model.proofs.EntryLemmas.{no_entries, entry_kept}
use Rattle.sv_core.specs.Snapshot.{head_by, snapshot_of}
use Rattle.sv_core.proofs.SoundLemmas.{IsSound}
use Rattle.sv_core.proofs.PlaceLemmas.{seen_more}
use Rattle.sv_core.proofs.DirectoryLemmas.{seen_append}
use Rattle.sv_core.proofs.OrderLemmas.{first, second, less, reversed}
use Rattle.sv_core.proofs.KeptLemmas.{lower_is}

-- ---- an entry above all others

below_in : (x : Key) (ds : List Entry) (e : Entry) (rest : List Entry) → T (below_all key_cmp x (ds ++ e ∷ rest)) → key_cmp x e.0 ≡ Less
below_in x [] e rest above = less _ (first _ _ above)
below_in x (d ∷ ds) e rest above = below_in x ds e rest (second _ _ above)

put_last : (e : Entry) (done rest : List Entry) → Rises (done ++ e ∷ rest) → put key_cmp e.0 e.1 done ≡ done ++ e ∷ []
put_last e [] rest rises = refl
put_last e (d ∷ ds) rest rises =
    ap (λ o. by_order o ((e.0, e.1) ∷ d ∷ ds) ((d.0, e.1) ∷ ds) (d ∷ put key_cmp e.0 e.1 ds)) (reversed d.0 e.0 Less (below_in d.0 ds e rest (first _ _ rises)))
    ∙ ap (λ l. d ∷ l) (put_last e ds rest (second _ _ rises))

find_last : (e : Entry) (done rest : List Entry) → Rises (done ++ e ∷ rest) → find key_cmp e.0 done ≡ None
find_last e [] rest rises = refl
find_last e (d ∷ ds) rest rises =
    ap (λ o. cond (is_eq o) (Some d.1) (find key_cmp e.0 ds)) (reversed d.0 e.0 Less (below_in d.0 ds e rest (first _ _ rises)))
    ∙ find_last e ds rest (second _ _ rises)

with_last : (keys : Keys) (e : Entry) (es : List Entry) → Rises (entries keys ++ e ∷ es) → entries (insert keys e.0 e.1) ≡ entries keys ++ e ∷ []
with_last keys e es rises = entries-insert keys_total keys e.0 e.1 ∙ put_last e (entries keys) es rises

with_rest : (keys : Keys) (e : Entry) (es : List Entry) → Rises (entries keys ++ e ∷ es) → entries (insert keys e.0 e.1) ++ es ≡ entries keys ++ e ∷ es
with_rest keys e es rises = ap (λ l. l ++ es) (with_last keys e es rises) ∙ append_assoc (entries keys) (e ∷ []) es

-- ---- all entries, one after the other

abbrev added : List Entry → Keys → Keys
added [] keys = keys
added (e ∷ es) keys = added es (insert keys e.0 e.1)

added_entries : (es : List Entry) (keys : Keys) → Rises (entries keys ++ es) → entries (added es keys) ≡ entries keys ++ es
added_entries [] keys rises = sym (append-nil (entries keys))
added_entries (e ∷ es) keys rises = added_entries es (insert keys e.0 e.1) (subst Rises (sym (with_rest keys e es rises)) rises) ∙ with_rest keys e es rises

module _ (boot next : ℕ) (home : Option ℕ) where
  abbrev at : Keys → Durable
  at keys = record { keys = keys; boot = boot; next = next; home = home }

  replays : (es : List Entry) (keys : Keys) → replayed (at keys) (map state_record es) ≡ at (added es keys)
  replays [] keys = refl
  replays (e ∷ es) keys = replays es (insert keys e.0 e.1)

  module _ (set : Setting) where
    fit : (es : List Entry) (keys : Keys) → Rises (entries keys ++ es) → length (entries keys ++ es) ≤ bound set → ((e : Entry) → In e es → is_unmade set (at keys) e.0 ≡ false)
        → AllFit set Snapshot (at keys) (map state_record es)
    fit [] keys rises few made = tt
    fit (e ∷ es) keys rises few made =
        let room : len keys < bound set = let many : length (entries keys ++ e ∷ es) ≡ length (entries keys) + suc (length es) = length-append (entries keys) (e ∷ es) in let these : len keys ≡ length (entries keys) = len-entries keys in omega (arith, few, many, these) in (
          ap (λ o. is_none o && (not (is_unmade set (at keys) e.0) && has_space set (at keys))) (get-entries keys e.0 ∙ find_last e (entries keys) es rises)
              ∙ ap (λ b. not b && has_space set (at keys)) (made e (inl refl))
              ∙ lower_is (len keys) (bound set) room,
          fit es (insert keys e.0 e.1) (subst Rises (sym (with_rest keys e es rises)) rises) (subst (λ l. length l ≤ bound set) (sym (with_rest keys e es rises)) few) (λ f i. made f (inr i)),
        )

stays : (es : List Entry) → staged Snapshot (map state_record es) ≡ Snapshot
stays [] = refl
stays (e ∷ es) = stays es

nothing_before : (d : Durable) → entries (empty {X = KeyState} {R = key_cmp}) ++ entries d.keys ≡ entries d.keys
nothing_before d = ap (λ l. l ++ entries d.keys) no_entries

-- ---- the head

head_gives : (home : Option ℕ) (boot next : ℕ) → applied (head_by home boot next) blank ≡ at boot next home empty
head_gives None boot next = refl
head_gives (Some h) boot next = refl

head_stage : (home : Option ℕ) (boot next : ℕ) → stage_behind (head_by home boot next) Blank ≡ Snapshot
head_stage None boot next = refl
head_stage (Some h) boot next = refl

head_fits : (set : Setting) (home : Option ℕ) (boot next : ℕ) → ((h : ℕ) → home ≡ Some h → h ≡ set.node) → Fits set Blank blank (head_by home boot next)
head_fits set None boot next own = refl
head_fits set (Some h) boot next own = (own h refl, refl)

pub snapshot_gives : (d : Durable) → replayed blank (snapshot_of d) ≡ d
snapshot_gives d =
    ap (λ b. replayed b (map state_record (entries d.keys))) (head_gives d.home d.boot d.next)
    ∙ replays d.boot d.next d.home (entries d.keys) empty
    ∙ ap (at d.boot d.next d.home) (same_entries_map _ _ (added_entries (entries d.keys) empty (subst Rises (sym (nothing_before d)) (entries_sorted d.keys)) ∙ nothing_before d))

pub snapshot_fits : (set : Setting) (stage : Stage) (d : Durable) → IsSound set stage d → AllFit set Blank blank (snapshot_of d)
snapshot_fits set stage d s = (
  head_fits set d.home d.boot d.next s.own,
  subst (λ b. AllFit set (stage_behind (head_by d.home d.boot d.next) Blank) b (map state_record (entries d.keys))) (sym (head_gives d.home d.boot d.next))
      (subst (λ g. AllFit set g (at d.boot d.next d.home empty) (map state_record (entries d.keys))) (sym (head_stage d.home d.boot d.next))
      (fit d.boot d.next d.home set (entries d.keys) empty (subst Rises (sym (nothing_before d)) (entries_sorted d.keys))
      (subst (λ l. length l ≤ bound set) (sym (nothing_before d)) (subst (λ n. n ≤ bound set) (len-entries d.keys) s.few))
      (λ e i. s.made e.0 e.1 (entry_kept d.keys e i)))),
)

pub snapshot_stage : (d : Durable) → staged Blank (snapshot_of d) ≡ Snapshot
snapshot_stage d = ap (λ g. staged g (map state_record (entries d.keys))) (head_stage d.home d.boot d.next) ∙ stays (entries d.keys)

-- a record of one key more
pub recorded_more : (states : List KeyState) (ps qs : List Place) (i : ℕ) (d : Place) (st : KeyState) (before outs new : List Record) → qs ≡ ps → i < length qs → st ≡ state_at states (get_or qs i d).1
    → outs ≡ before ++ map state_record (seen states (take i ps)) → new ≡ outs ++ state_record ((get_or qs i d).0, st) ∷ [] → new ≡ before ++ map state_record (seen states (take (i + 1) ps))
recorded_more states ps qs i d st before outs new same is there so more =
    more ∙ ap (λ l. l ++ state_record ((get_or qs i d).0, st) ∷ []) so ∙ append_assoc before (map state_record (seen states (take i ps))) (state_record ((get_or qs i d).0, st) ∷ [])
    ∙ ap (λ l. before ++ l) (sym (ap (map state_record) (seen_more states ps qs i d st same is there) ∙ map-append state_record (seen states (take i ps)) (((get_or qs i d).0, st) ∷ [])))

-- the head, and the states of both parts
pub states_joined : (states : List KeyState) (low high : List Place) (head : Record) (begun one two : List Record) → begun ≡ head ∷ [] → one ≡ begun ++ map state_record (seen states low) → two ≡ one ++ map state_record (seen states high)
    → two ≡ head ∷ map state_record (seen states (low ++ high))
states_joined states low high head begun one two is low_is high_is =
    high_is ∙ ap (λ l. l ++ map state_record (seen states high)) (low_is ∙ ap (λ l. l ++ map state_record (seen states low)) is)
    ∙ ap (λ l. head ∷ l) (sym (ap (map state_record) (seen_append states low high) ∙ map-append state_record (seen states low) (seen states high)))
