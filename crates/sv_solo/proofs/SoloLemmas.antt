-- A step of a node alone, put together.
use Rattle.std.specs.Option.{option_to_list}
use Rattle.std.proofs.Common.{◌≡◌, ℕ, zero, suc, ◌+◌, ◌<◌, ◌≤◌, Bool, true, false, cond, Option, Some, None, List, [], ◌∷◌, ◌++◌, length, refl, sym, ap, ◌∙◌, subst, ⊎_elim}
use Rattle.std.specs.Prelude.{slice_get, slice_set, not, nat_lt, nat_le, ◌==◌, ◌&&◌, ◌||◌, IfSome, position}
use Rattle.std.proofs.lemmas.List.{length-set}
use Rattle.std.proofs.lemmas.Option.{slice_get_within}
use Rattle.std.specs.FinMap.{insert, entries}
use Rattle.std.specs.List.{filter_map, position_from}
use Rattle.std.proofs.lemmas.Iterator.Adapters.{position_from-zero}
use Rattle.sv_solo.proofs.Prelude.{Key, Secret, Moment, Request, Session, KeyState, Active, Sent, Gone, Ended, Outcome, Fate, Birth, Told, Packet, Output}
use Rattle.sv_solo.proofs.Prelude.{Cause, EngineMeaning, heard_all, held_in, no_birth, answer_of, answered_unless, kept_with, on_ask, on_tick, expire}
use Rattle.sv_solo.proofs.Prelude.{first_over, grant_again, idle, Decision, last_number, Node}
use Rattle.sv_model.specs.declared.output.Output.TheVariants.{Answer, Refuse, Moved, MoveRefused}
use Rattle.sv_model.specs.declared.output.MoveRefusal.TheVariants.{BadPeer, EpochsSpent}
use Rattle.sv_model.specs.Migration.{on_move, on_packet, on_ours, sender, addressee, move_refused, hands_over}
use Rattle.sv_model.specs.Step.{IsStep, told}
use Rattle.sv_solo.specs.Table.{own_key, numbered, told_end, keys_of, IsPlace, fated_at, born_behind, is_past, without_at, end_at, alone, node_of, refusal_for}
use Rattle.sv_solo.specs.Solo.{view_at}
use Rattle.std.proofs.Common.{arith}
use Rattle.sv_solo.proofs.TableLemmas.{kept, asks, fresh_is, over, no_grants, put_own, entries_are}
use Rattle.std.proofs.lemmas.Bool.{le-leb, and_right, or_right}
use Rattle.std.proofs.lemmas.Bool.Decides.{leb_tells}

-- the request is served by this outcome
module _ (m : EngineMeaning) (xs : List (Option Session)) (moment : Moment) (token : ℕ) (r : Request) (out : Outcome) (few : length xs ≤ 65_536)
    (can : IfSome (m.names r) (λ n. (n.0.home < 8) × (0 < n.0.serial)))
    (is : out ≡ m.serve r (held_in (keys_of xs) (m.names r)) moment.now (own_key (length xs + 1), moment.secret)) where
  answer_is : answer_of m alone (node_of xs).durable moment r ≡ out
  answer_is = ap (m.serve r (held_in (keys_of xs) (m.names r)) moment.now) (fresh_is xs moment few) ∙ sym is

  served_by : (cause : Option Cause) → cause ≡ no_birth alone (node_of xs).durable out.birth
      → on_ask m alone (node_of xs) moment token r (m.names r) ≡ answered_unless cause m alone (node_of xs) moment token r out []
  served_by cause room =
      asks m xs moment token r (m.names r) can
      ∙ ap (λ (o : Outcome). answered_unless (no_birth alone (node_of xs).durable o.birth) m alone (node_of xs) moment token r o []) answer_is
      ∙ ap (λ c. answered_unless c m alone (node_of xs) moment token r out []) (sym room)

  pub refuses : (heard : List (List ℕ)) (cause : Cause) (ys : List (Option Session)) (new : EngineMeaning) (noted : List (List ℕ)) (outputs : List Output)
      → Some cause ≡ no_birth alone (node_of xs).durable out.birth → ys ≡ xs → new ≡ m → noted ≡ heard → outputs ≡ Refuse token cause ∷ []
      → IsStep (view_at m xs heard) (on_ask m alone (node_of xs) moment token r (m.names r)) outputs (view_at new ys noted)
  refuses heard cause ys new noted outputs room same meaning quiet put =
      subst (λ d. IsStep (view_at m xs heard) d outputs (view_at new ys noted)) (sym (served_by (Some cause) room))
      (record { meaning = meaning; node = ap node_of same; heard = quiet; outputs_are = put })

  pub answers : (heard : List (List ℕ)) (place : Option ℕ) (ys : List (Option Session)) (new : EngineMeaning) (noted : List (List ℕ)) (outputs : List Output)
      → None ≡ no_birth alone (node_of xs).durable out.birth → IsPlace xs (m.names r) place → ys ≡ born_behind out.birth (fated_at place out.fate xs) → new ≡ m
      → noted ≡ heard_all m heard out.events → outputs ≡ Answer token out.response ∷ []
      → IsStep (view_at m xs heard) (on_ask m alone (node_of xs) moment token r (m.names r)) outputs (view_at new ys noted)
  answers heard place ys new noted outputs room at behind meaning tells put =
      subst (λ d. IsStep (view_at m xs heard) d outputs (view_at new ys noted)) (sym (served_by None room))
      (record {
        meaning = meaning;
        node =
            ap node_of behind
            ∙ ap (λ d. record { durable = d; parked = []; next_want = 1 })
            (kept xs (m.names r) place out at ∙ ap (λ (k : Key × Secret). kept_with (m.names r) k.0 out (node_of xs).durable) (sym (fresh_is xs moment few)));
        heard = tells;
        outputs_are = put;
      })

-- ---- time

abbrev pub IsTick : EngineMeaning → List (Option Session) → List (List ℕ) → (now steady : ℕ) → Option ℕ → Type 0
IsTick m xs heard now steady place =
    IsStep (view_at m xs heard) (on_tick alone (node_of xs) now steady) [] (view_at m (without_at place xs) (heard_all m heard (end_at place xs)))

pub ended_node : (xs : List (Option Session)) (place : ℕ) → place < length xs
    → ◌≡◌ {A = Node} (record { durable = record { keys = insert (keys_of xs) (own_key (place + 1)) (Ended 1); boot = 1; next = length xs + 1; home = None }; parked = []; next_want = 1 }) (node_of (slice_set xs place None))
ended_node xs place less = λ i. record { durable = record { keys = sym (put_own xs place None less) i; boot = 1; next = sym (length-set xs place None) i + 1; home = None }; parked = []; next_want = 1 }

-- what a tick leaves of a decision, if no request waits
abbrev pub tick_node : Decision → Node
tick_node d = record { durable = d.durable; parked = []; next_want = d.next_want }

-- by the least key that has expired
ticks_by : (m : EngineMeaning) (xs : List (Option Session)) (heard : List (List ℕ)) (now steady : ℕ) (found : Option (Key × KeyState)) → first_over now (entries (keys_of xs)) ≡ found
    → (place : Option ℕ) → tick_node (expire (node_of xs) now found []) ≡ node_of (without_at place xs) → told (expire (node_of xs) now found []) ≡ end_at place xs
    → IsTick m xs heard now steady place
ticks_by m xs heard now steady found is place keeps said =
    record {
      meaning = refl;
      node = sym (ap (λ f. tick_node (expire (node_of xs) now f [])) is ∙ keeps);
      heard = ap (heard_all m heard) (sym (ap (λ f. told (expire (node_of xs) now f [])) is ∙ said));
      outputs_are = sym (ap (λ f. filter_map (grant_again alone) (entries (expire (node_of xs) now f []).durable.keys)) is
          ∙ ap (λ (n : Node). filter_map (grant_again alone) (entries n.durable.keys)) keeps ∙ no_grants (without_at place xs));
    }

found_over : (m : EngineMeaning) (xs : List (Option Session)) (heard : List (List ℕ)) (now steady at place : ℕ) (s : Session) → at ≡ place → slice_get xs place ≡ Some (Some s)
    → position (is_past now) xs ≡ Some at → first_over now (numbered 1 xs) ≡ Some (own_key (at + 1), Active 1 s) → IsTick m xs heard now steady (position (is_past now) xs)
found_over m xs heard now steady at place s same there found first =
    subst (IsTick m xs heard now steady) (sym (found ∙ ap Some same))
    (ticks_by m xs heard now steady (Some (own_key (at + 1), Active 1 s)) (ap (first_over now) (entries_are xs) ∙ first) (Some place)
    (ap (λ n. tick_node (expire (node_of xs) now (Some (own_key (n + 1), Active 1 s)) [])) same ∙ ended_node xs place (slice_get_within xs place (Some s) there))
    (ap (λ n. told (expire (node_of xs) now (Some (own_key (n + 1), Active 1 s)) [])) same ∙ ap (told_end place) (sym there)))

pub ticks : (m : EngineMeaning) (xs : List (Option Session)) (heard : List (List ℕ)) (now steady : ℕ) → IsTick m xs heard now steady (position (is_past now) xs)
ticks m xs heard now steady = ⊎_elim
    (λ (n : (first_over now (numbered (0 + 1) xs) ≡ None) × (position_from (is_past now) 0 xs ≡ None)).
    subst (IsTick m xs heard now steady) (sym (position_from-zero (is_past now) xs ∙ n.1)) (ticks_by m xs heard now steady None (ap (first_over now) (entries_are xs) ∙ n.0) None refl refl))
    (λ (o : (j : ℕ) × (s : Session) × (slice_get xs j ≡ Some (Some s)) × (position_from (is_past now) 0 xs ≡ Some (0 + j))
    × (first_over now (numbered (0 + 1) xs) ≡ Some (own_key ((0 + j) + 1), Active 1 s))).
    found_over m xs heard now steady (0 + o.0) o.0 o.1 (omega arith) o.2 (position_from-zero (is_past now) xs ∙ o.3) o.4)
    (over now 0 xs)

-- what the code has done at a tick
pub ticked : (m : EngineMeaning) (xs zs ys : List (Option Session)) (heard noted : List (List ℕ)) (now steady : ℕ) (new : EngineMeaning) (ended : Option Told) (tells : List Told) (outputs : List Output)
    → zs ≡ xs → ys ≡ without_at (position (is_past now) zs) zs → option_to_list ended ≡ end_at (position (is_past now) zs) zs → tells ≡ option_to_list ended → new ≡ m
    → noted ≡ heard_all m heard tells → outputs ≡ [] → IsStep (view_at m xs heard) (on_tick alone (node_of xs) now steady) outputs (view_at new ys noted)
ticked m xs zs ys heard noted now steady new ended tells outputs same behind ends listed meaning notes none =
    let done : IsTick m xs heard now steady (position (is_past now) xs) = ticks m xs heard now steady in
    record {
      meaning = meaning;
      node = ap node_of (behind ∙ ap (λ l. without_at (position (is_past now) l) l) same) ∙ done.node;
      heard = notes ∙ ap (heard_all m heard) (listed ∙ ends ∙ ap (λ l. end_at (position (is_past now) l) l) same) ∙ done.heard;
      outputs_are = none ∙ done.outputs_are;
    }

pub notes_all : (m new : EngineMeaning) (heard noted : List (List ℕ)) (ts all : List Told) → new ≡ m → noted ≡ heard → ts ≡ all → heard_all new noted ts ≡ heard_all m heard all
notes_all m new heard noted ts all a b c = λ i. heard_all (a i) (b i) (c i)

-- ---- there is no other node

not_ours : (a : Bool) (s : ℕ) → (a && (not (s == 0) && nat_lt s 1)) ≡ false
not_ours false s = refl
not_ours true zero = refl
not_ours true (suc s) = ⊎_elim
    (λ (h : (nat_le (suc (suc s)) 1 ≡ true) × (suc (suc s) ≤ 1)). absurd (omega (arith, h.1)))
    (λ (h : (nat_le (suc (suc s)) 1 ≡ false) × (1 < suc (suc s))). and_right (not (suc s == 0)) (nat_lt (suc s) 1) h.0)
    (leb_tells (suc (suc s)) 1)

pub packets : (m : EngineMeaning) (xs : List (Option Session)) (moment : Moment) (p : Packet) → on_packet m alone (node_of xs) moment p ≡ idle (node_of xs) []
packets m xs moment p = ap (λ b. cond b (on_ours m alone (node_of xs) moment p) (idle (node_of xs) [])) (not_ours (addressee p == 0) (sender p))

nobody : (to : ℕ) → ((to == 0) || nat_le 1 to) ≡ true
nobody zero = refl
nobody (suc to) = or_right (suc to == 0) (nat_le 1 (suc to)) (le-leb 1 (suc to) (omega arith))

pub moves : (xs : List (Option Session)) (k : Key) (to : ℕ) (st : Option KeyState) → on_move alone (node_of xs) k to st ≡ idle (node_of xs) (MoveRefused (refusal_for st) ∷ [])
moves xs k to None = refl
moves xs k to (Some (Active e s)) = ap (λ b. cond b (idle (node_of xs) (MoveRefused BadPeer ∷ [])) (cond (e == last_number) (move_refused (node_of xs) EpochsSpent) (hands_over alone (node_of xs) k e s to (Moved ∷ [])))) (nobody to)
moves xs k to (Some (Sent e s there)) = refl
moves xs k to (Some (Gone e)) = refl
moves xs k to (Some (Ended e)) = refl

-- ---- what the code has in hand

module _ (m : EngineMeaning) (xs : List (Option Session)) (moment : Moment) (r : Request) where
  pub serves : (zs us : List (Option Session)) (named : Option (Key × Secret)) (fresh : Key × Secret) (held : Option (Key × Session)) (out : Outcome) → zs ≡ xs → us ≡ xs → named ≡ m.names r
      → fresh ≡ (own_key (length us + 1), moment.secret) → held ≡ held_in (keys_of zs) named → out ≡ m.serve r held moment.now fresh
      → out ≡ m.serve r (held_in (keys_of xs) (m.names r)) moment.now (own_key (length xs + 1), moment.secret)
  serves zs us named fresh held out same also names is holds said =
      said ∙ ap (λ h. m.serve r h moment.now fresh) (holds ∙ ap (λ ys. held_in (keys_of ys) named) same ∙ ap (held_in (keys_of xs)) names)
      ∙ ap (m.serve r (held_in (keys_of xs) (m.names r)) moment.now) (is ∙ ap (λ (l : List (Option Session)). (own_key (length l + 1), moment.secret)) also)

  pub stands_at : (zs : List (Option Session)) (named : Option (Key × Secret)) (place : Option ℕ) → zs ≡ xs → named ≡ m.names r → IsPlace zs named place → IsPlace xs (m.names r) place
  stands_at zs named place same names at = subst (λ n. IsPlace xs n place) names (subst (λ ys. IsPlace ys named place) same at)

-- the sessions after an outcome, as the code has made them
pub made_of : (xs us ys : List (Option Session)) (place : Option ℕ) (fate : Fate) (b : Birth) → us ≡ xs → ys ≡ born_behind b (fated_at place fate us)
    → ys ≡ born_behind b (fated_at place fate xs)
made_of xs us ys place fate b same kept = kept ∙ ap (λ (zs : List (Option Session)). born_behind b (fated_at place fate zs)) same

-- one output, put into an empty list
pub put_one : (os ps : List Output) (o : Output) → os ≡ [] → ps ≡ os ++ o ∷ [] → ps ≡ o ∷ []
put_one os ps o none put = put ∙ ap (λ (l : List Output). l ++ o ∷ []) none
