use Rattle.sv_mapping.proofs.Prelude.{◌≡◌, ◌&&◌, true, leb, length, sym, ap, ◌∙◌, arith, rules, nat_tests, list_all, is_pattern}
use Rattle.std.proofs.Common.{tests}
use Rattle.std.proofs.lemmas.Iterator.Search.{all_from_yields_List}
use Rattle.std.proofs.lemmas.Iterator.Adapters.{YieldsList-from_bytes}
use Rattle.sv_mapping.specs.Pattern.{is_printed}
use Rattle.sv_mapping.proofs.pattern.is_pattern.Goals as goal

pub returns-then-text-le-MAX_PATTERN_BYTES : goal.returns-then-text-le-MAX_PATTERN_BYTES
unfolding is_pattern
returns-then-text-le-MAX_PATTERN_BYTES c =
    let all = all_from_yields_List is_printed _ _ c.all.result c.all.ensures.ran (YieldsList-from_bytes c.args.text.now cc) (λ x b q k. search (rules, tests)) in
    let short : leb (length c.args.text.now) 256 ≡ true = grind (arith, nat_tests) in
    all ∙ ap (λ b. b && list_all is_printed c.args.text.now) (sym short)
