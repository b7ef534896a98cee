use Rattle.std.proofs.Common.{◌<◌, ◌∙◌, arith, length, sym}
use Rattle.sv_once.specs.declared.answer.TheConstants.{ANSWER_LIMIT}
use Rattle.sv_once.proofs.AnswerLemmas.{long_body}
use Rattle.sv_once.proofs.answer.kept_answer.Goals as goal

pub returns-then-len-gt-ANSWER_LIMIT : goal.returns-then-len-gt-ANSWER_LIMIT
returns-then-len-gt-ANSWER_LIMIT c =
    let less : ANSWER_LIMIT < length c.args.response.now.body = omega arith in
    c.new-then-len-gt-ANSWER_LIMIT.ensures ∙ sym (long_body c.args.response.now less)
