use Rattle.sv_message.proofs.Prelude.{List, ◌++◌, ap, ◌∙◌, flat_map, Field, field_line}
use Rattle.std.proofs.lemmas.Result.{on_ok_weaker, on_err_weaker}
use Rattle.sv_message.proofs.ResponseLemmas.{head_kept, head_text}
use Rattle.sv_message.proofs.response.write_head.Goals as goal

pub returns-clause-ok : goal.returns-clause-ok
returns-clause-ok c =
    let date = c.in_ok-write_date.ensures.ok in
    let fields = c.in_ok-write_fields.ensures.ok ∙ ap (λ (fs : List Field). c.write_date.new.out.items ++ flat_map field_line fs) c.as_slice.ensures in
    on_ok_weaker c.write_empty_line.result
    (λ ended. (date.0, date.1, head_text c.args.response.now date.0 c.args.out.now.items _ _ _ _ _ _ c.in_ok-write_status.ensures.ok date.2 fields c.in_ok-write_length.ensures.ok c.in_ok-write_close.ensures.ok ended))
    c.write_empty_line.ensures.ok

pub returns-clause-err : goal.returns-clause-err
returns-clause-err c =
    let date = c.in_ok-write_date.ensures.ok in
    let fields = c.in_ok-write_fields.ensures.ok ∙ ap (λ (fs : List Field). c.write_date.new.out.items ++ flat_map field_line fs) c.as_slice.ensures in
    on_err_weaker c.write_empty_line.result
    (head_kept c.args.response.now date.0 c.args.out.now.items _ _ _ _ _ _ c.in_ok-write_status.ensures.ok date.2 fields c.in_ok-write_length.ensures.ok c.in_ok-write_close.ensures.ok)
    c.write_empty_line.ensures.err
