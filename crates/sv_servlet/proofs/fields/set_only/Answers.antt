use Rattle.sv_servlet.proofs.FieldsLemmas.{with_only_at}
use Rattle.sv_servlet.proofs.fields.set_only.Goals as goal

pub returns-in-Some-clause-ok : goal.returns-in-Some-clause-ok
returns-in-Some-clause-ok c =
    with_only_at c.args.fields.now.items c.as_slice.result.now c.clear_behind.new.fields.items c.in-Some.at c.args.field c.as_bytes.result.now c.as_slice.ensures.value c.as_bytes.ensures.value
    c.in-Some.ensures.place c.in-Some.ensures.within c.clear_behind.ensures
