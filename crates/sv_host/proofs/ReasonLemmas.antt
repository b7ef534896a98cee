-- Why a node ends.
use Rattle.sv_host.proofs.Prelude.{ℕ, Option, Some, None, Result, Ok, Err, inl, inr, IfErr, last_of, LacksSecrets, Stop, Group, Server}
use Rattle.sv_host.specs.Stops.{HasReason, IsEnding}

secrets_reason : (last : Option ℕ) (stop : Stop) → LacksSecrets last stop → HasReason stop
secrets_reason None stop is = inr (inr (_, is))
secrets_reason (Some last) stop is = inr (inl (last, is))

ending_reason : (server : Server) (group : Group) (stop : Stop) → IsEnding server group stop → HasReason stop
ending_reason server group stop (inl told) = inl told
ending_reason server group stop (inr (inl is)) = inr (inl (_, is))
ending_reason server group stop (inr (inr is)) = secrets_reason (last_of server.secrets) stop is

pub ending_reasons : {T : Type 0} (server : Server) (group : Group) (answer : Result T Stop) → IfErr answer (IsEnding server group) → IfErr answer HasReason
ending_reasons server group (Ok value) is = tt
ending_reasons server group (Err stop) is = ending_reason server group stop is
