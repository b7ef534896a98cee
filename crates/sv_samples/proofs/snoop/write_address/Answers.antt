use Rattle.std.proofs.Common.{◌++◌, List, ℕ, ap, ◌∙◌, append_assoc}
use Rattle.std.specs.Prelude.{codes}
use Rattle.std.proofs.lemmas.Result.{on_ok_weaker}
use Rattle.sv_samples.specs.Snoop.{address_lines, line}
use Rattle.sv_samples.proofs.snoop.write_address.Goals as goal

pub returns : goal.returns
unfolding address_lines
returns c =
    let uri = line (codes "request_uri") c.args.uri.now in
    let context = line (codes "context_path") c.args.context_path.now in
    on_ok_weaker c.write_line-2.result
    (λ behind. behind ∙ ap (λ (l : List ℕ). l ++ context) c.in_ok-write_line.ensures ∙ append_assoc c.args.out.now.items uri context)
    c.write_line-2.ensures
