use Rattle.sv_world.proofs.Prelude.{refl, rules}
use Rattle.sv_world.proofs.SlotLemmas.{left_slot, left_member}
use Rattle.sv_world.proofs.slot.Slot.leave.Goals as goal

pub returns-clause-slot : goal.returns-clause-slot
returns-clause-slot g c =
    left_slot c.args.self.now (record { setting = c.args.self.now.setting; journal = c.keep.new.journal; core = c.args.self.now.core; idle = c.args.self.now.idle })
    c.args.rest.kept c.requires.down refl c.keep.ensures g.E.Engine.valid c.requires.slot refl refl c.requires.follows

pub returns-clause-member : goal.returns-clause-member
returns-clause-member g c =
    left_member c.args.self.now (record { setting = c.args.self.now.setting; journal = c.keep.new.journal; core = c.args.self.now.core; idle = c.args.self.now.idle })
    c.args.rest.kept c.requires.down refl c.keep.ensures

pub returns-clause-effect : goal.returns-clause-effect
returns-clause-effect g c = search rules
