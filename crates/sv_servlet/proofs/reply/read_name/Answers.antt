use Rattle.std.proofs.Common.{inl, refl}
use Rattle.sv_servlet.proofs.reply.read_name.Goals as goal

pub returns-in-Err-OutOfMemory-clause-fault : goal.returns-in-Err-OutOfMemory-clause-fault
returns-in-Err-OutOfMemory-clause-fault c = inl (refl, λ none. cc (c.in-Err-OutOfMemory.ensures.invalid.1 (rw c.as_bytes.ensures.value none)))
