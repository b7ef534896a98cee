use Rattle.sv_message.proofs.Prelude.{subst, List, ℕ, Err, err_from_is_err_and, FindsLine}
use Rattle.sv_message.proofs.PartialLemmas.{line_fault}
use Rattle.sv_message.proofs.body.read_line.Goals as goal

pub returns-in_err-read_chunk_line-clause-steps : goal.returns-in_err-read_chunk_line-clause-steps
returns-in_err-read_chunk_line-clause-steps c =
    let p = err_from_is_err_and c.from_residual.result c.from_residual.ensures.1 in
    let fault = c.in_err-read_chunk_line.field-0.0 in
    let why = subst (λ (s : List ℕ). FindsLine s (Err fault)) c.tail.ensures c.in_err-read_chunk_line.ensures in
    rw (p.1, p.2) (line_fault c.args.rest.now c.args.partial.now fault c.requires.partial c.requires.part why)
