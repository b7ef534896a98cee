use Rattle.sv_message.proofs.Prelude.{arith, ap, inr, length, subst, Part, Line, InBody}
use Rattle.sv_message.proofs.PartialLemmas.{unread, moved, goes_end, short_end, bad_end}
use Rattle.sv_message.proofs.body.read_end.Goals as goal

pub returns-in-Whole-clause-steps : goal.returns-in-Whole-clause-steps
returns-in-Whole-clause-steps c =
    let rest = c.args.rest.now in
    let p = c.args.partial.now in
    let end = rw c.tail.ensures at c.in-Whole.ensures in (
      moved rest p.request.body p Line 2 c.requires.partial (omega (arith, ap length end.1))
          (λ framing text y. goes_end p.request.body (unread rest p) end.0 end.1 framing text (subst (λ (part : Part). InBody framing part p.request.body text (unread rest p)) c.requires.part y)),
      omega arith,
    )

pub returns-in-Short-clause-steps : goal.returns-in-Short-clause-steps
returns-in-Short-clause-steps c =
    let few = rw c.tail.ensures at c.in-Short.ensures in
    (c.requires.partial, short_end c.args.rest.now c.args.partial.now c.requires.partial c.requires.part few)

pub returns-in-Broken-clause-steps : goal.returns-in-Broken-clause-steps
returns-in-Broken-clause-steps c =
    (c.requires.partial, inr (bad_end c.args.rest.now c.args.partial.now c.requires.partial c.requires.part (rw c.tail.ensures at c.in-Broken.ensures)))
