use Rattle.sv_world.proofs.Prelude.{sym, ap, ◌∙◌, subst, MayFollow, Member, member_of}
use Rattle.sv_world.proofs.slot.Slot.torn_step.Goals as goal

pub leave-requires-clause-follows : goal.leave-requires-clause-follows
leave-requires-clause-follows g c =
    let old = c.args.self.now in
    subst (λ s. MayFollow s (member_of c.stop.new.self).node.durable c.in_ok-rest.rest.kept) (sym (c.stop.ensures.setting ∙ c.torn_rest.ensures.setting))
    (subst (λ d. MayFollow old.setting d c.in_ok-rest.rest.kept) (sym (ap (λ (p : Member). p.node.durable) c.stop.ensures.member ∙ ap (λ (p : Member). p.node.durable) c.torn_rest.ensures.member))
    c.in_ok-rest.ensures.follows)
