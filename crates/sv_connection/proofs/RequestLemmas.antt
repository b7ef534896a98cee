-- The fault of a target, as a request's.
use Rattle.std.proofs.Common.{◌≡◌, ℕ, List, Result, Ok, Err, refl, subst}
use Rattle.std.specs.Prelude.{◌↔◌, codes, IfErr}
use Rattle.sv_message.specs.declared.request.RawRequest.{RawRequest}
use Rattle.sv_target.specs.declared.target.Target.{Target}
use Rattle.sv_target.specs.declared.fault.TargetFault.{TargetFault}
use Rattle.sv_target.specs.declared.fault.TargetFault.TheVariants.{Connect, BadTarget, Memory}
use Rattle.sv_target.specs.Target.{IsBadTarget}
use Rattle.sv_connection.specs.Request.{HasTargetFault}

pub has_fault : (raw : RawRequest) (text : List ℕ) (r : Result Target TargetFault) → text ≡ raw.target → ((r ≡ Err Connect) ↔ (raw.method ≡ codes "CONNECT")) → (r ≡ Err BadTarget → IsBadTarget text) → IfErr r (HasTargetFault raw)
has_fault raw text (Ok target) same connect bad = tt
has_fault raw text (Err Connect) same connect bad = connect.0 refl
has_fault raw text (Err BadTarget) same connect bad = subst IsBadTarget same (bad refl)
has_fault raw text (Err Memory) same connect bad = tt
