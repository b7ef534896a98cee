use Rattle.sv_message.proofs.Prelude.{arith, ap, min, length, take, ◌∙◌, Missing}
use Rattle.sv_message.proofs.PartialLemmas.{after_declared, whole_declared}
use Rattle.sv_message.proofs.body.read_declared.Goals as goal

pub returns-else-count-missing-clause-steps : goal.returns-else-count-missing-clause-steps
returns-else-count-missing-clause-steps c =
    let u = c.tail-unread.ensures in
    let m = c.args.missing in
    let k = c.min-count.result in
    let next = after_declared c.args.rest.now _ c.args.partial.now c.take_data.new.partial m k c.requires.partial c.requires.part
    (c.min-count.ensures ∙ ap (λ t. min m (length t)) u) (ap (take k) u) c.in_ok-take_data.ensures.ok in
    whole_declared c.args.rest.now _ next (ap Missing (omega arith))
