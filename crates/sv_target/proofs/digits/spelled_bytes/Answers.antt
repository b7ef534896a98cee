use Rattle.sv_target.proofs.Prelude.{arith, refl, sym, ◌∙◌, spelled_bytes}
use Rattle.std.proofs.lemmas.List.{length-set}
use Rattle.sv_target.proofs.DigitLemmas.{bytes_of-all_read, bytes_of-read, bytes_of-refused, rest_less}
use Rattle.sv_target.proofs.digits.spelled_bytes.Goals as goal

pub returns-in_err-bytes : goal.returns-in_err-bytes
unfolding spelled_bytes
returns-in_err-bytes c =
    let none = bytes_of-refused c.args.text.now c.bytes.bytes c.bytes.left.now c.bytes.place (omega (arith, c.in-len2-up.len_at_least)) (sym c.byte_of.ensures ∙ c.in_err-bytes.was) c.bytes.invariant.2 in
    rw (c.from_residual.ensures, c.if-text.false, none) refl

pub bytes-preserved : goal.bytes-preserved
bytes-preserved c = (
  length-set _ _ _ ∙ c.bytes.invariant.0,
  rest_less c.bytes.left.now c.bytes.place (omega (arith, c.in-len2-up.len_at_least)) c.bytes.invariant.1,
  bytes_of-read c.args.text.now c.bytes.bytes c.bytes.left.now c.bytes.place c.in_ok-bytes.field-0 (omega (arith, c.in-len2-up.len_at_least)) (omega (arith, c.bytes.invariant.0, c.bytes-test.true)) (sym c.byte_of.ensures ∙ c.in_ok-bytes.was) c.bytes.invariant.2,
)

pub returns : goal.returns
unfolding spelled_bytes
returns c = rw (c.if-text.false, bytes_of-all_read c.args.text.now c.bytes.bytes c.bytes.left.now c.bytes.place (omega (arith, c.bytes.invariant.0, c.bytes-test.false)) (omega (arith, c.bytes.invariant.1, c.bytes-test.false)) c.bytes.invariant.2) refl
