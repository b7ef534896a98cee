-- What a node puts out can be sent.
use Rattle.sv_host.proofs.Prelude.{ℕ, List, [], ◌∷◌, map, Vec, vec_items, Result, Ok, Err, sym, subst, AllByRecursion, Moment, Input, Output, Answer, Refuse}
use Rattle.sv_host.proofs.Prelude.{Send, Moved, MoveRefused, Setting, StepFault, EngineMeaning, decided, IsInput, with_list, left, Answered, GroupEnds}
use Rattle.sv_host.proofs.Prelude.{engine_of, setting_of, state_of, journal_of, Node, AreSendable, IsHandedOn}
use Rattle.std.proofs.Common.{Global}
use Rattle.sv_model.specs.declared.site.StepFault.TheVariants.{Failed, Full, Device, Memory}
use Rattle.sv_model.specs.Limits.{KeepsLimits, NamesKeys}
use Rattle.sv_model.specs.NodeState.{Node as State}
use Rattle.sv_model.specs.Ranges.{IsRanged, IsSetting}
use Rattle.sv_model.proofs.RangeLemmas.{ranged}
use Rattle.sv_host.specs.Outputs.{AreHandedOn, IsSendable}

-- one by one
pub first_of : (o : Output) (os : List Output) → AreSendable (o ∷ os) → IsSendable o
first_of (Answer token response) os all = tt
first_of (Refuse token cause) os all = tt
first_of (Send packet) os all = all.0
first_of Moved os all = tt
first_of (MoveRefused why) os all = tt

pub others_of : (o : Output) (os : List Output) → AreSendable (o ∷ os) → AreSendable os
others_of (Answer token response) os all = all
others_of (Refuse token cause) os all = all
others_of (Send packet) os all = all.1
others_of Moved os all = all
others_of (MoveRefused why) os all = all

-- of a group, whose steps are taken one after the other
module _ (m : EngineMeaning) (limits : KeepsLimits m) (names : NamesKeys m) (set : Setting) (inside : IsSetting set) (len : ℕ) where
  pub of_group : (n : State) (end : ℕ) (is : List (Moment × Input)) (answers : List (Result (Vec Output Global) StepFault)) → IsRanged n → AllByRecursion (λ i. IsInput i.1) is
      → Answered m set len end n is (map (with_list vec_items) answers) → AllByRecursion (λ a. IsHandedOn a) answers
  of_group n end [] [] r all h = tt
  of_group n end [] (a ∷ answers) r all h = absurd h
  of_group n end (i ∷ is) [] r all h = absurd h
  of_group n end (i ∷ is) (Ok outputs ∷ answers) r all h =
      let step = ranged set inside n r m limits names i.0 i.1 all.0 in
      (subst AreSendable (sym h.0) step.packets, of_group (left (decided m set n i.0 i.1)) _ is answers step.left_is all.1 h.1)
  of_group n end (i ∷ is) (Err Failed ∷ answers) r all h = absurd h.0
  of_group n end (i ∷ is) (Err Full ∷ answers) r all h = (tt, of_group n _ is answers r all.1 h.1)
  of_group n end (i ∷ is) (Err Device ∷ answers) r all h = absurd h.0
  of_group n end (i ∷ is) (Err Memory ∷ answers) r all h = (tt, of_group n _ is answers r all.1 h.1)

-- of a group that a node was given
module _ {E D : Type 0} (meaning : E → EngineMeaning) (heard : E → List (List ℕ)) (failed : D → ℕ) (old new : Node E D) (limits : KeepsLimits (meaning (engine_of old))) (names : NamesKeys (meaning (engine_of old))) where
  pub of_answers : (is : List (Moment × Input)) (answers : Result (Vec (Result (Vec Output Global) StepFault) Global) StepFault) → IsSetting (setting_of old) → IsRanged (state_of old) → AllByRecursion (λ i. IsInput i.1) is
      → GroupEnds meaning heard failed old is (with_list (λ a. map (with_list vec_items) a.items) answers) new → AreHandedOn answers
  of_answers is (Ok answers) inside r all ends =
      of_group (meaning (engine_of old)) limits names (setting_of old) inside (journal_of old).len (state_of old) (journal_of old).end is answers.items r all ends.0
  of_answers is (Err fault) inside r all ends = tt
