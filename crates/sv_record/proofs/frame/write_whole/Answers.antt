use Rattle.std.proofs.Common.{◌≡◌, ◌+◌, List, ℕ, length, ap, ◌∙◌, arith, rules, length-append}
use Rattle.sv_record.specs.declared.version.Version.TheVariants.{Two}
use Rattle.sv_record.specs.Frame.{payload_of}
use Rattle.sv_record.proofs.FrameLaws.{payload_small}
use Rattle.sv_record.proofs.WrittenLemmas.{front_kept, on_err}
use Rattle.sv_record.proofs.frame.write_whole.Goals as goal

pub returns-in_err-write_payload-clause-err : goal.returns-in_err-write_payload-clause-err
returns-in_err-write_payload-clause-err c =
    let old = c.args.out.now.items in
    let first = c.write_byte.new.out.items in
    let placed = c.extend_from_slice.new.self.items in
    let kept = c.in_err-write_payload.ensures.err in
    on_err c.from_residual-in_err-write_payload.result (front_kept old first c.write_payload.new.out.items _ c.in_ok-write_byte.ensures.ok (front_kept first placed c.write_payload.new.out.items _ c.in_ok-extend_from_slice.ensures.items kept))

pub overflow_cast-count : goal.overflow_cast-count
overflow_cast-count c =
    let start : c.len-start.result ≡ length c.extend_from_slice.new.self.items = search rules in
    let end : c.len.result ≡ length c.write_payload.new.out.items = search rules in
    let sum : length c.write_payload.new.out.items ≡ length c.extend_from_slice.new.self.items + length (payload_of c.args.frame.now) =
    ap (λ (l : List ℕ). length l) c.in_ok-write_payload.ensures.ok ∙ length-append c.extend_from_slice.new.self.items (payload_of c.args.frame.now) in
    let small = payload_small Two c.args.frame.now c.in_ok-write_payload.ensures.fits in
    record { fits = omega (arith, start, end, sum, small) }
