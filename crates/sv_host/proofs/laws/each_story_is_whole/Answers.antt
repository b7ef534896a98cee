use Rattle.sv_host.proofs.WholeLemmas.{stories_are_whole}
use Rattle.sv_host.proofs.laws.each_story_is_whole.Goals as goal

pub returns : goal.returns
returns c = stories_are_whole
