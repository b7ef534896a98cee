-- What a caller sees of the life of a process.
use Rattle.sv_host.proofs.Prelude.{IfOk, EngineMeaning, IsLife}
use Rattle.std.specs.Prelude.{ℕ, List, Result, Ok, Err}
use Rattle.sv_net.specs.declared.persistence.Persistence.{Persistence}
use Rattle.sv_host.specs.Host.{IsAt, setting_of}
use Rattle.sv_host.specs.Running.{HasRun}
use Rattle.sv_host.specs.declared.host.Host.{Host}
use Rattle.sv_host.specs.declared.place.Place.{Place}

pub has_run : {E D : Type 0} (meaning : E → EngineMeaning) (heard : E → List (List ℕ)) (tells : D → Type 0) (seen : D → List ℕ) (may_leave : D → List ℕ → Type 0)
    (place : Place) (persistence : Persistence) (host : Host) (engine engine' : E) (a b a' b' : D) → IsAt place persistence host
    → IsLife meaning heard tells seen may_leave (setting_of host) engine a b engine' a' b'
    → HasRun tells seen may_leave (meaning engine) (heard engine) place persistence
has_run meaning heard tells seen may_leave place persistence host engine engine' a b a' b' at life = record {
  host = host;
  stands = at;
  a = a;
  b = b;
  ended = (meaning engine', heard engine');
  a' = a';
  b' = b';
  life = record { told = life.told; high = life.high; meaning_is = life.meaning_is; heard_is = life.heard_is; leads = life.leads };
}

-- the same, whether it has ended well or not
pub has_run_if : {E D T F : Type 0} (meaning : E → EngineMeaning) (heard : E → List (List ℕ)) (tells : D → Type 0) (seen : D → List ℕ) (may_leave : D → List ℕ → Type 0)
    (place : Place) (persistence : Persistence) (host : Host) (engine engine' : E) (a b a' b' : D) → IsAt place persistence host
    → IsLife meaning heard tells seen may_leave (setting_of host) engine a b engine' a' b' → (result : Result T F)
    → IfOk result (λ _. HasRun tells seen may_leave (meaning engine) (heard engine) place persistence)
has_run_if meaning heard tells seen may_leave place persistence host engine engine' a b a' b' at life (Ok x) =
    has_run meaning heard tells seen may_leave place persistence host engine engine' a b a' b' at life
has_run_if meaning heard tells seen may_leave place persistence host engine engine' a b a' b' at life (Err fault) = tt
