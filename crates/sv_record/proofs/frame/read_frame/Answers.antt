use Rattle.std.proofs.Common.{subst, arith}
use Rattle.sv_record.specs.Reading.{Gives}
use Rattle.sv_record.proofs.FrameLaws.{frame_gives, frame_found, frame_sized, frame_none, frame_within, front_is_none}
use Rattle.sv_record.proofs.frame.read_frame.Goals as goal

pub returns-clause-found : goal.returns-clause-found
returns-clause-found c = frame_found c.args.bytes.now c.read_first.result (λ i. omega (arith, c.type_inv.bytes i)) c.read_first.ensures.exact

pub returns-clause-size : goal.returns-clause-size
returns-clause-size c = frame_sized c.args.bytes.now c.read_first.result (λ i. omega (arith, c.type_inv.bytes i)) c.read_first.ensures.exact

pub returns-clause-only : goal.returns-clause-only
returns-clause-only c = λ f text rest spells e. subst (λ r. Gives (λ x. x) c.read_first.result r) (frame_gives f c.args.bytes.now text rest spells e) c.read_first.ensures.exact

pub returns-clause-none : goal.returns-clause-none
returns-clause-none c = frame_none c.args.bytes.now c.read_first.result (λ i. omega (arith, c.type_inv.bytes i)) c.read_first.ensures.exact

pub returns-clause-front : goal.returns-clause-front
returns-clause-front c = λ is. c.read_first.ensures.front (front_is_none c.args.bytes.now is)

pub returns-clause-within : goal.returns-clause-within
returns-clause-within c = frame_within c.args.bytes.now c.read_first.result (λ i. omega (arith, c.type_inv.bytes i)) c.read_first.ensures.exact
