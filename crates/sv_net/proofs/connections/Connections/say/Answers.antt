use Rattle.sv_net.proofs.Prelude.{ap, sym, subst, Leaves, came_of, went_of, FollowsOn, Says}
use Rattle.sv_net.proofs.PlaceLemmas.{holds_more, keep_holds}
use Rattle.sv_net.proofs.SayingLemmas.{follows_says, waits_says}
use Rattle.sv_net.proofs.connections.Connections.say.Goals as goal

-- all was taken
pub returns-in-All-clause-said : goal.returns-in-All-clause-said
returns-in-All-clause-said c = λ none.
    let socket = c.args.socket in
    let text = c.args.text.now.items in
    let next = c.args.next in
    holds_more (FollowsOn next c.write.new.self) (Says text next (went_of socket) (came_of socket))
    (λ held f. follows_says socket c.write.new.self text c.write.new.text.items next held c.write.ensures.left (c.write.ensures.all c.in-All.is) f) _ (c.follow.ensures.followed none)

-- what isn't taken is kept
pub returns-in-Part-clause-said : goal.returns-in-Part-clause-said
returns-in-Part-clause-said c = λ none.
    let socket = c.args.socket in
    let text = c.args.text.now.items in
    let next = c.args.next in
    let was = c.at-open.result in
    let left = subst (λ v. Leaves socket c.write.new.self text v.items) (sym c.replace-text.ensures.value) c.write.ensures.left in
    keep_holds (Says text next (went_of socket) (came_of socket)) c.args.place was _ c.keep.new.self c.keep.ensures.kept none
    (λ held kept. waits_says socket c.write.new.self text c.replace-text.result next was held left (ap (λ o. o.socket) c.at-open.ensures) (ap (λ o. o.state) c.at-open.ensures) kept)
