use Rattle.sv_container.proofs.FollowingLemmas.{all_follow}
use Rattle.sv_container.proofs.laws.answers_follow_their_requests.Goals as goal

pub returns : goal.returns
returns c = all_follow
