use Rattle.sv_container.proofs.Prelude.{ap, arith, subst, sym, ◌∙◌, IsFieldValue}
use Rattle.std.proofs.Common.{Err, rules}
use Rattle.sv_container.proofs.CookieLemmas.{cookie_fits}
use Rattle.sv_container.proofs.set_cookie.cookie_field.Goals as goal

pub unreachable-requires : goal.unreachable-requires
unreachable-requires c =
    let fits = cookie_fits c.args.cookie.now c.args.context c.args.path.now c.args.named (omega arith) c.requires.name c.requires.path (omega arith) (λ k. search rules) in
    c.from_bytes.ensures.invalid.0 (c.in-Err-Invalid.is ∙ ap Err c.in-Err-Invalid.field-0-is) (subst IsFieldValue (sym (c.as_slice.ensures.value ∙ c.in_ok-value.ensures)) fits)
