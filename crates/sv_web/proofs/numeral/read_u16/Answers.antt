use Rattle.std.proofs.Common.{sym, ◌∙◌}
use Rattle.sv_web.proofs.NumeralLemmas.{signed_word, parsed_word}
use Rattle.sv_web.proofs.numeral.read_u16.Goals as goal

pub returns-then-starts_with_plus : goal.returns-then-starts_with_plus
returns-then-starts_with_plus c = signed_word 16 c.args.word.now c.if-starts_with_plus.ensures

pub returns : goal.returns
returns c = c.ok.ensures.value ∙ parsed_word 16 c.args.word.now c.parse.result (sym c.if-starts_with_plus.ensures) c.parse.ensures.value.0
