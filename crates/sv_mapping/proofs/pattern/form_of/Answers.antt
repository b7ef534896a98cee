use Rattle.sv_mapping.proofs.Prelude.{◌≡◌, ◌&&◌, false, eqb, sym, ◌∙◌, codes, arith, starts_with, ends_with, nat_tests}
use Rattle.std.proofs.lemmas.Bool.{and_right, and_left}
use Rattle.std.proofs.lemmas.Str.Pattern.{starts_text, ends_text}
use Rattle.sv_mapping.proofs.PatternLemmas.{exact_form}
use Rattle.sv_mapping.proofs.pattern.form_of.Goals as goal
use Rattle.sv_mapping.proofs.pattern.form_of.Goals.{else-starts_with-via-then-starts_with+else-ends_with, else-starts_with-via-else-starts_with}

pub returns-else-starts_with-2 : goal.returns-else-starts_with-2
returns-else-starts_with-2 c =
    let text = c.args.text.now in
    let begins = starts_text c.starts_with.result (codes "/") text c.starts_with.ensures.cases in
    let dotted = starts_text _ (codes "*.") text c.starts_with-else-starts_with.ensures.cases in
    let slashed : (starts_with eqb text (codes "/") && ends_with eqb text (codes "/*")) ≡ false = elim c.else-starts_with.branch [
      | else-starts_with-via-then-starts_with+else-ends_with w ↦ let ends = ends_text _ (codes "/*") text w.ends_with.ensures.cases in and_right _ _ (sym ends ∙ w.if-ends_with.false)
      | else-starts_with-via-else-starts_with w ↦ and_left _ _ (sym begins ∙ w.if-starts_with.false)
    ] in
    sym (exact_form text (grind (arith, nat_tests)) (sym c.eq.ensures ∙ c.if-eq.false) slashed (sym dotted ∙ c.if-starts_with-2.false))
