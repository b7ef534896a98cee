use Rattle.sv_world.proofs.Prelude.{◌∙◌}
use Rattle.std.proofs.Common.{slice_get}
use Rattle.sv_model.specs.declared.input.Input.TheVariants as input
use Rattle.sv_world.proofs.FindingLemmas.{steps, delivers, stops}
use Rattle.sv_world.proofs.finding.fault_of.Goals as goal

pub returns-in-Ask : goal.returns-in-Ask
returns-in-Ask g c = λ set. rw c.in-Ask.is (c.step_fault.ensures ∙ steps c.args.slots.now c.args.packets.now c.args.trace.now set c.in-Ask.node c.in-Ask.moment (input.Ask c.in-Ask.token c.in-Ask.request))

pub returns-in-Deliver : goal.returns-in-Deliver
returns-in-Deliver g c = λ set. rw c.in-Deliver.is (c.delivery_fault.ensures ∙ delivers c.args.slots.now c.args.packets.now c.args.trace.now set (slice_get c.args.packets.now c.in-Deliver.place) c.in-Deliver.moment)

pub returns-in-Torn : goal.returns-in-Torn
returns-in-Torn g c = λ set. rw c.in-Torn.is (c.given_fault.ensures ∙ steps c.args.slots.now c.args.packets.now c.args.trace.now set c.in-Torn.node c.in-Torn.moment c.in-Torn.input)

pub returns-in-Silent : goal.returns-in-Silent
returns-in-Silent g c = λ set. rw c.in-Silent.is (c.given_fault-in-Silent.ensures ∙ steps c.args.slots.now c.args.packets.now c.args.trace.now set c.in-Silent.node c.in-Silent.moment c.in-Silent.input)

pub returns-in-Crash : goal.returns-in-Crash
returns-in-Crash g c = λ set. rw c.in-Crash.is (c.stop_fault.ensures ∙ stops c.args.slots.now c.args.packets.now c.args.trace.now set c.in-Crash.node)
