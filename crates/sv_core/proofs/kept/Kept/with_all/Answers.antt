use Rattle.sv_core.proofs.Prelude.{length, refl, ap, ◌∙◌, last_number, seen, with_all}
use Rattle.sv_core.proofs.PlaceLemmas.{place_within, take_all}
use Rattle.sv_core.proofs.CensusLemmas.{counted_more, room_left}
use Rattle.sv_core.proofs.kept.Kept.with_all.Goals as goal

pub state-requires : goal.state-requires
state-requires c = place_within (length c.args.self.now.keys.states.items) c.args.places.now _ c.loop-key.key-index _ refl c.requires.within c.loop-key-test.true

pub with_one-census-requires : goal.with_one-census-requires
with_one-census-requires c = room_left c.args.self.now.keys.states.items c.args.places.now c.loop-key.key-index last_number c.args.census c.loop-key.census c.loop-key.invariant c.loop-key-test.true c.requires.room

pub loop-key-preserved : goal.loop-key-preserved
loop-key-preserved c =
    counted_more c.args.self.now.keys.states.items c.args.places.now _ c.loop-key.key-index _ _ c.state.result.now c.args.census c.loop-key.census _ refl c.loop-key-test.true refl c.state.ensures c.loop-key.invariant c.with_one-census.ensures

pub returns : goal.returns
returns c =
    c.loop-key.invariant
    ∙ ap (λ l. with_all (seen c.args.self.now.keys.states.items l) c.args.census) (take_all c.args.places.now c.loop-key.key-index c.loop-key-test.false)
