-- Where a node's secrets come from.
use Rattle.std.specs.Prelude.{ℕ, ◌++◌, ◌≡◌, ◌+◌, Option, Some, None, Result, Ok, Err}
use Rattle.std.specs.Prelude.{replicate}
use Rattle.std.specs.Int.{w64, to_be_bytes}
use Rattle.sv_model.specs.declared.key.Moment.{Moment}
use Rattle.sv_model.specs.declared.key.Secret.{Secret}
use Rattle.sv_model.specs.NodeState.{last_number}
use Rattle.sv_host.specs.declared.fault.Stop.{Stop}
use Rattle.sv_host.specs.declared.fault.HostFault.TheVariants as host
use Rattle.sv_host.specs.declared.fault.Stop.TheVariants.{Spent, Fault}
use Rattle.sv_host.specs.declared.secrets.Secrets.{Secrets}
use Rattle.sv_host.specs.declared.secrets.Source.{Source}
use Rattle.sv_host.specs.declared.secrets.Source.TheVariants.{Read, Counted}

-- the number in 16 big-endian bytes
abbrev pub secret_of : ℕ → Secret
secret_of number = record { 0 = replicate 8 0 ++ to_be_bytes w64 number }

-- the number of the last one where they are counted; none where they are read
abbrev pub last_in : Source → Option ℕ
last_in (Read file) = None
last_in (Counted last) = Some last

abbrev pub last_of : Secrets → Option ℕ
last_of s = last_in s.source

-- they are counted, from 1 on, exactly where no file is named
abbrev pub first_by : {T : Type 0} → Option T → Option ℕ
first_by None = Some 0
first_by (Some path) = None

-- one more is drawn: of those that are counted the next, until the numbers are spent; else one that can be read
abbrev pub Draws : Option ℕ → Result Secret Stop → Option ℕ → Type 0
Draws None (Ok secret) new = new ≡ None
Draws None (Err stop) new = (stop ≡ Fault host.Secrets) × (new ≡ None)
Draws (Some last) (Ok secret) new = (secret ≡ secret_of (last + 1)) × (new ≡ Some (last + 1))
Draws (Some last) (Err stop) new = (stop ≡ Spent last) × (last ≡ last_number) × (new ≡ Some last)

-- the secret of a moment
abbrev pub secret_in : Result Moment Stop → Result Secret Stop
secret_in (Ok m) = Ok m.secret
secret_in (Err stop) = Err stop
