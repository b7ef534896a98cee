use Rattle.sv_target.proofs.Prelude.{rules, ◌≡◌, true, false, IsUtf8, percent_decode, has_good_escapes, hides_dots}
use Rattle.sv_target.proofs.SegmentLemmas.{good, no_text}
use Rattle.sv_target.proofs.segment.decoded.Goals as goal

pub returns-in-Err-Utf8-clause-bad : goal.returns-in-Err-Utf8-clause-bad
returns-in-Err-Utf8-clause-bad c = λ is_bad. no_text c.args.segment.now (search rules)

pub returns-clause-good : goal.returns-clause-good
returns-clause-good c =
    let escapes : has_good_escapes c.args.segment.now ≡ true = search rules in
    let text : IsUtf8 (percent_decode c.args.segment.now) = search rules in
    let shown : hides_dots (percent_decode c.args.segment.now) c.args.segment.now ≡ false = search rules in
    good c.args.segment.now escapes text shown
