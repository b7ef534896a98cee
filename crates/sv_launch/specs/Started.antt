-- What was started, and what it was started for.
use Rattle.std.specs.Prelude.{◌≡◌, ℕ, List, Option, Some, None, Result, Ok}
use Rattle.toml.specs.Parse.{parse_document}
use Rattle.toml.specs.Data.{Members}
use Rattle.sv_config.specs.Fault.{fault_of}
use Rattle.sv_config.specs.Values.{deployment_data, deployment_of}
use Rattle.sv_config.specs.declared.deployment.Deployment.{Deployment}
use Rattle.sv_host.specs.Place.{setting_in}
use Rattle.sv_host.specs.declared.place.Place.{Place}
use Rattle.sv_model.specs.Engine.{EngineMeaning}
use Rattle.sv_launch.specs.Once.{HasServed}
use Rattle.sv_launch.specs.declared.fault.Fault.{Fault}
use Rattle.sv_launch.specs.declared.served.ServedFiles.{ServedFiles}

-- the deployment is what this text says
pub record IsDescriptor (text : List ℕ) (deployment : Deployment) : Type 0 where
  pub document : Members
  pub is_toml : parse_document text ≡ Some document
  pub no_fault : fault_of document ≡ None
  pub says : deployment_data deployment ≡ deployment_of document

-- an engine that means what it should served a purpose
pub record IsStarted (means : EngineMeaning → Type 0) (serves : EngineMeaning → List (List ℕ) → Result (Unit {0}) Fault → Type 0)
    (result : Result (Unit {0}) Fault) : Type 0 where
  pub meaning : EngineMeaning
  pub heard : List (List ℕ)
  pub is : means meaning
  pub served : serves meaning heard result

-- an engine that means what it should served a stream to its end, from the bytes to come and those written before to those after it
pub record HasStreamed {E : Type 0} (meaning : E → EngineMeaning) (heard : E → List (List ℕ)) (means : EngineMeaning → Type 0) (now : ℕ)
    (to_come written left writes : Option (List ℕ)) : Type 0 where
  pub engine : E
  pub is : means (meaning engine)
  pub served : HasServed meaning heard engine now to_come written left writes (Ok tt)

-- A node ran by a descriptor that was read: by an engine that means what the descriptor and the program's names say, at the place of
-- the descriptor's cluster that has this number.
pub record RunsAsRead (means : Deployment → List ServedFiles → EngineMeaning → Type 0) (runs : EngineMeaning → List (List ℕ) → Place → Type 0)
    (number : ℕ) : Type 0 where
  pub text : List ℕ
  pub deployment : Deployment
  pub read : IsDescriptor text deployment
  pub files : List ServedFiles
  pub place : Place
  pub stands : place.setting ≡ setting_in deployment.cluster number
  pub started : IsStarted (means deployment files) (λ m heard _. runs m heard place) (Ok tt)
