use Rattle.sv_message.proofs.Prelude.{subst, List, ℕ, Err, FindsTrailer, err_from_is_err_and}
use Rattle.sv_message.proofs.PartialLemmas.{open_trailer, whole_chunked, trailer_fault}
use Rattle.sv_message.proofs.body.read_last.Goals as goal

pub returns-in_err-read_trailer-clause-steps : goal.returns-in_err-read_trailer-clause-steps
returns-in_err-read_trailer-clause-steps c =
    let p = err_from_is_err_and c.from_residual.result c.from_residual.ensures.1 in
    let fault = c.in_err-read_trailer.field-0.0 in
    let why = subst (λ (s : List ℕ). FindsTrailer s (Err fault)) c.tail.ensures c.in_err-read_trailer.ensures in
    rw (p.1, p.2) (trailer_fault c.args.rest.now c.args.partial.now fault c.requires.partial c.requires.part why)

pub returns-in-None-clause-steps : goal.returns-in-None-clause-steps
returns-in-None-clause-steps c =
    let unread = rw (c.in-None.is, c.tail.ensures) at c.in_ok-read_trailer.ensures in
    (c.requires.partial, open_trailer c.args.rest.now c.args.partial.now c.requires.partial c.requires.part unread)

pub returns-in-Some-clause-steps : goal.returns-in-Some-clause-steps
returns-in-Some-clause-steps c =
    let whole = rw (c.in-Some.is, c.tail.ensures) at c.in_ok-read_trailer.ensures in
    whole_chunked c.args.rest.now c.args.partial.now c.in-Some.len c.requires.partial c.requires.part whole
