use Rattle.sv_message.proofs.ResponseLemmas.{kept_in, on_err}
use Rattle.sv_message.proofs.response.write_fields.Goals as goal

pub returns-in_err-write_two-clause-err : goal.returns-in_err-write_two-clause-err
returns-in_err-write_two-clause-err c =
    on_err _ _ (kept_in _ _ _ _ c.loop-field.invariant (kept_in _ _ _ _ c.in_ok-extend_from_slice.ensures.items c.in_err-write_two.ensures.err))

pub returns-in_err-write_two-2-clause-err : goal.returns-in_err-write_two-2-clause-err
returns-in_err-write_two-2-clause-err c =
    on_err _ _ (kept_in _ _ _ _ c.loop-field.invariant (
    kept_in _ _ _ _ c.in_ok-extend_from_slice.ensures.items (
    kept_in _ _ _ _ c.in_ok-write_two.ensures.ok (
    kept_in _ _ _ _ c.in_ok-extend_from_slice-2.ensures.items c.in_err-write_two-2.ensures.err))))
