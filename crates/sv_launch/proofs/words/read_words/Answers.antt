use Rattle.std.proofs.Common.{Global, ◌∙◌}
use Rattle.std.specs.Prelude.{string_bytes}
use Rattle.sv_launch.proofs.WordLemmas.{four_and_more}
use Rattle.sv_launch.proofs.words.read_words.Goals as goal

-- src/words.rt:186:1
pub returns-in-len4-up : goal.returns-in-len4-up
returns-in-len4-up c = c.read_more.ensures ∙ four_and_more (string_bytes {Z = Global}) c.args.words.now c.in-len4-up.len_at_least
