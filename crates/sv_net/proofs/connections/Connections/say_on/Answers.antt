use Rattle.sv_net.proofs.Prelude.{ap, sym, ◌∙◌, subst, Leaves, Continues, parts, unread, unsent, FollowsOn}
use Rattle.sv_net.proofs.ContinueLemmas.{all_places, continues_following, with_all, with_put}
use Rattle.sv_net.proofs.PlaceLemmas.{holds_more}
use Rattle.sv_net.proofs.connections.Connections.say_on.Goals as goal

pub returns-in_default : goal.returns-in_default
returns-in_default c = λ none. with_all c.args.place c.args.open c.args.self.now c.leave.new.self (all_places c.args.self.now c.leave.new.self c.leave.ensures.places)

-- all of it has left
pub returns-in-All : goal.returns-in-All
returns-in-All c = λ none.
    let place = c.args.place in
    let one = c.args.open in
    let mid = c.write.new.self in
    let text = c.in-Saying.text.items in
    let left = c.write.new.text.items in
    let next = c.in-Saying.next in
    let state = sym c.into_parts-socket.ensures.state ∙ c.in-Saying.is in
    let leaves = subst (λ s. Leaves s mid text left) c.into_parts-socket.ensures.socket c.write.ensures.left in
    with_put place one c.args.self.now c.follow.new.self
    (holds_more (FollowsOn next mid) (Continues one)
    (λ held f. continues_following one held mid text left next (ap unsent state) (ap unread state) (ap parts state) leaves (c.write.ensures.all c.in-All.is) f) _ (c.follow.ensures.followed none)) c.follow.ensures.others

-- its connection has broken
pub returns-in-Broken : goal.returns-in-Broken
returns-in-Broken c = λ none. with_all c.args.place c.args.open c.args.self.now c.leave-in-Broken.new.self (all_places c.args.self.now c.leave-in-Broken.new.self c.leave-in-Broken.ensures.places)
