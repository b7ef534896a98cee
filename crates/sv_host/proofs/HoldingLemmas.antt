-- Wants of a group that are held, and those that are added.
use Rattle.sv_host.proofs.Prelude.{◌≡◌, ℕ, zero, suc, ◌+◌, Bool, true, false, not, cond, List, [], ◌∷◌, ◌++◌, Option, Some, None, ap}
use Rattle.sv_host.proofs.Prelude.{sym, ◌∙◌, refl, append_assoc, remove, slice_get, Input, Moment, Group}
use Rattle.sv_host.proofs.Prelude.{inputs_of, others_in, HasMoreWants}
use Rattle.sv_host.specs.declared.want.Want.{Want}
use Rattle.sv_host.specs.Held.{is_other, is_want, is_want_at, IsWantAt}
use Rattle.sv_host.proofs.GatherLemmas.{all_both}

-- one that is a want is none of the others
first_out : (i : Moment × Input) (is : List (Moment × Input)) (b : Bool) → b ≡ is_other i → b ≡ false → others_in is ≡ others_in (i ∷ is)
first_out i is b is_b out = ap (λ (x : Bool). cond x (i ∷ others_in is) (others_in is)) (sym (sym is_b ∙ out))

pub others_stay : (is : List (Moment × Input)) (at : ℕ) → is_want_at (slice_get is at) ≡ true → others_in (remove is at) ≡ others_in is
others_stay [] zero want = refl
others_stay [] (suc at) want = refl
others_stay (i ∷ is) zero want = first_out i is (is_other i) refl (ap not want)
others_stay (i ∷ is) (suc at) want = ap (λ rest. cond (is_other i) (i ∷ rest) rest) (others_stay is at want)

-- where a want stands
pub want_there : (i : Option (Moment × Input)) (w : Want) → IsWantAt i (Some w) → is_want_at i ≡ true
want_there None w is = absurd is
want_there (Some i) w is = ap is_want is

-- wants were added, and then more of them
pub more_wants_on : {group mid next : Group} → HasMoreWants group mid → HasMoreWants mid next → HasMoreWants group next
more_wants_on {group = group} first rest = record {
  more = first.more ++ rest.more;
  inputs = rest.inputs ∙ ap (λ (is : List (Moment × Input)). is ++ rest.more) first.inputs ∙ append_assoc (inputs_of group) first.more rest.more;
  wants = all_both (λ (i : Moment × Input). is_want i.1 ≡ true) first.more rest.more first.wants rest.wants;
}
