use Rattle.sv_net.proofs.Prelude.{inl, inr, refl, ap, FollowsOn, Listen}
use Rattle.sv_net.proofs.PlaceLemmas.{keep_holds, put_holds, stood_holds}
use Rattle.sv_net.proofs.SayingLemmas.{follows_at, follows_kept}
use Rattle.sv_net.proofs.connections.Connections.listen.Goals as goal

-- it rests
pub returns-then-is_empty-clause-listened : goal.returns-then-is_empty-clause-listened
returns-then-is_empty-clause-listened c = λ none.
    keep_holds (FollowsOn (Listen c.args.client) c.args.socket) c.args.place c.at.result _ c.keep.new.self c.keep.ensures.kept none
    (λ held kept. follows_kept (Listen c.args.client) c.args.socket c.at.result held kept
    (follows_at (Listen c.args.client) c.args.socket c.at.result (ap (λ o. o.socket) c.at.ensures) (inr (c.at_rest.result, ap (λ o. o.state) c.at.ensures, c.at_rest.ensures.rests))))

-- it is gone on with
pub returns-else-is_drained-clause-listened : goal.returns-else-is_drained-clause-listened
returns-else-is_drained-clause-listened c = λ none.
    stood_holds (FollowsOn (Listen c.args.client) c.args.socket) c.args.place c.begin.new.self c.put_down.new.self
    (λ was held kept. follows_kept (Listen c.args.client) c.args.socket was held kept) c.put_down.ensures.stood
    (put_holds (FollowsOn (Listen c.args.client) c.args.socket) c.args.place _ c.args.self.now c.begin.new.self c.begin.ensures.places
    (follows_at (Listen c.args.client) c.args.socket _ refl (inl refl)))
