use Rattle.sv_target.proofs.Prelude.{◌≡◌, ◌∷◌, lit<, true, sym, ◌∙◌, ap, list_all, slice_split, strip_prefix_char, canonical_path, is_plain_segment, is_slash}
use Rattle.std.specs.Prelude.{Some}
use Rattle.sv_target.proofs.PathLemmas.{unrooted}
use Rattle.sv_target.proofs.PlainLemmas.{canonical_plain}
use Rattle.sv_target.proofs.path.canonical_path.Goals as goal

pub returns-in_default-clause-bad : goal.returns-in_default-clause-bad
returns-in_default-clause-bad c = λ is_bad.
    unrooted c.args.path.now (rw c.in_default.is at (strip_prefix_char 47 c.args.path.now c.strip_prefix.result c.strip_prefix.ensures.cases (lit< tt)))

pub returns-then-is_plain-clause-ok : goal.returns-then-is_plain-clause-ok
returns-then-is_plain-clause-ok c =
    let rest = c.in-Some.rest.now in
    let path : c.args.path.now ≡ 47 ∷ rest = rw c.in-Some.is at (strip_prefix_char 47 c.args.path.now c.strip_prefix.result c.strip_prefix.ensures.cases (lit< tt)) in
    let plain : list_all is_plain_segment (slice_split is_slash rest) ≡ true = sym c.is_plain.ensures ∙ c.if-is_plain.true in
    ap canonical_path path ∙ canonical_plain rest plain ∙ ap Some (sym path ∙ sym c.in_ok-from_str.ensures.ok)
