use Rattle.sv_message.proofs.Prelude.{◌≡◌, sym, ◌∙◌}
use Rattle.sv_message.proofs.response.write_status.Goals as goal

pub returns-then-as_u16-eq200-clause-ok : goal.returns-then-as_u16-eq200-clause-ok
returns-then-as_u16-eq200-clause-ok c =
    let ok : c.args.status ≡ 200 = sym c.as_u16.ensures.value ∙ c.if-as_u16-eq200.true in
    rw ok c.write_ok.ensures.ok
