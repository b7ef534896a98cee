use Rattle.sv_core.proofs.Prelude.{length, refl, sym, ◌∙◌}
use Rattle.sv_core.proofs.PlaceLemmas.{place_within, none_is, over_is, over_next}
use Rattle.sv_core.proofs.table.Table.first_among.Goals as goal

pub state-state-requires : goal.state-state-requires
state-state-requires c = place_within (length c.args.self.now.states.items) c.args.places.now _ c.loop-key.key-index _ refl c.requires c.loop-key-test.true

pub returns-then-is_over : goal.returns-then-is_over
returns-then-is_over c =
    over_is c.args.now c.args.self.now.states.items c.args.places.now _ c.loop-key.key-index _ c.state-state.result.now refl c.loop-key-test.true c.state-state.ensures (sym c.is_over.ensures ∙ c.if-is_over.true) c.loop-key.invariant

pub loop-key-preserved : goal.loop-key-preserved
loop-key-preserved c =
    over_next c.args.now c.args.self.now.states.items c.args.places.now _ c.loop-key.key-index _ c.state-state.result.now refl c.loop-key-test.true c.state-state.ensures (sym c.is_over.ensures ∙ c.if-is_over.false) c.loop-key.invariant

pub returns : goal.returns
returns c = none_is c.args.now c.args.self.now.states.items c.args.places.now c.loop-key.key-index c.loop-key-test.false c.loop-key.invariant
