use Rattle.std.proofs.Common.{ℕ, List, subst, ◌∙◌}
use Rattle.sv_web.specs.Exchange.{CompletesPart}
use Rattle.sv_web.specs.Json.{error_text, refused, written_by}
use Rattle.sv_web.proofs.json_body.send_json_error.Goals as goal

pub returns : goal.returns
unfolding refused
returns c =
    subst (λ (text : List ℕ). CompletesPart (written_by c.args.code text) c.args.web.now c.write_by.new.web c.write_by.result) (c.as_slice.ensures.value ∙ c.in_ok-text.ensures) c.write_by.ensures
