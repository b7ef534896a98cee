-- What is gathered stands after what was gathered before.
use Rattle.sv_host.proofs.Prelude.{ℕ, List, [], ◌∷◌, ◌++◌, Option, Some, None, Err, ap, sym, subst, ◌∙◌, append_assoc, AllByRecursion, append-nil, Group, Way}
use Rattle.sv_host.proofs.Prelude.{HasMore, HasOneMore, IsSame, inputs_of, LacksSecrets, Stop, Input, Moment}
use Rattle.sv_host.specs.Heard.{IsHeardOf}
use Rattle.sv_host.specs.Secrets.{Draws}

-- one more, which was heard on a connection
pub one_more : {one : Moment × Input} {way : Way} {group next : Group} (number : ℕ) → HasOneMore one way group next → IsHeardOf number one.1 → HasMore group next
one_more {one = one} number added heard = record { more = one ∷ []; inputs = added.inputs; heard = ((number, heard), tt) }

-- none
pub none_more : {group next : Group} → IsSame group next → HasMore group next
none_more {group = group} same = record { more = []; inputs = same.inputs ∙ sym (append-nil (inputs_of group)); heard = tt }

-- of both lists each
pub all_both : {A : Type 0} (P : A → Type 0) (xs ys : List A) → AllByRecursion P xs → AllByRecursion P ys → AllByRecursion P (xs ++ ys)
all_both P [] ys first rest = rest
all_both P (x ∷ xs) ys first rest = (first.0, all_both P xs ys first.1 rest)

-- and then more
pub more_on : {group mid next : Group} → HasMore group mid → HasMore mid next → HasMore group next
more_on {group = group} first rest = record {
  more = first.more ++ rest.more;
  inputs = rest.inputs ∙ ap (λ (is : List (Moment × Input)). is ++ rest.more) first.inputs ∙ append_assoc (inputs_of group) first.more rest.more;
  heard = all_both (λ (i : Moment × Input). (number : ℕ) × IsHeardOf number i.1) first.more rest.more first.heard rest.heard;
}

-- no secret is left, or none can be read
pub lacks : (old new : Option ℕ) (stop : Stop) → Draws old (Err stop) new → LacksSecrets new stop
lacks None new stop drawn = subst (λ n. LacksSecrets n stop) (sym drawn.1) drawn.0
lacks (Some last) new stop drawn = subst (λ n. LacksSecrets n stop) (sym drawn.2) (record { is_last = drawn.1; stop_is = drawn.0 })
