use Rattle.std.proofs.Common.{List, ◌∙◌, ap}
use Rattle.sv_model.specs.declared.field.Field.{Field}
use Rattle.sv_model.specs.Page.{plain_page}
use Rattle.std.specs.Prelude.{true}
use Rattle.sv_connection.proofs.SaidLemmas.{said_same}
use Rattle.sv_connection.proofs.speak.say_page.Goals as goal

pub returns-in-Ok : goal.returns-in-Ok
returns-in-Ok g c =
    said_same c.in-Ok.page _ c.args.now c.args.done _ _ c.say.result.closed c.say.result.outcome
    (c.in-Ok.ensures ∙ ap (λ (fields : List Field). plain_page c.args.status fields c.args.head_only true) c.new.ensures) c.say.ensures
