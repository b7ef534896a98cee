use Rattle.std.proofs.Common.{inl, inr}
use Rattle.sv_servlet.proofs.reply.Reply.header.Goals as goal

pub returns-clause-answer : goal.returns-clause-answer
returns-clause-answer c = inl (
  inr (c.in_ok-name.ensures.ok.1, c.in_ok-value.ensures.ok.1),
  rw (c.in_ok-name.ensures.ok.0, c.in_ok-value.ensures.ok.0) at c.set.ensures.answer,
)
