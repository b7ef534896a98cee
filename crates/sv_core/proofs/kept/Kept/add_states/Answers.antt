use Rattle.sv_core.proofs.Prelude.{length, map, refl, ap, ◌∙◌, ◌++◌, seen, state_record}
use Rattle.sv_core.proofs.PlaceLemmas.{place_within, take_all}
use Rattle.sv_core.proofs.SnapshotLemmas.{recorded_more}
use Rattle.sv_core.proofs.kept.Kept.add_states.Goals as goal

pub state-requires : goal.state-requires
state-requires c = place_within (length c.args.self.now.keys.states.items) c.args.places.now _ c.loop-key.key-index _ refl c.requires c.loop-key-test.true

pub loop-key-preserved : goal.loop-key-preserved
loop-key-preserved c =
    recorded_more c.args.self.now.keys.states.items c.args.places.now _ c.loop-key.key-index _ c.state.result.now _ _ _ refl c.loop-key-test.true c.state.ensures c.loop-key.invariant c.in_ok-add_state.ensures

pub returns : goal.returns
returns c =
    c.loop-key.invariant
    ∙ ap (λ l. c.args.records.now.items ++ map state_record (seen c.args.self.now.keys.states.items l)) (take_all c.args.places.now c.loop-key.key-index c.loop-key-test.false)
