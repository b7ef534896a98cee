-- What was started is what was read.
use Rattle.std.proofs.Common.{◌≡◌, ℕ, List, Option, Result, Ok, Err, IfOk, refl}
use Rattle.sv_config.specs.declared.deployment.Context.{Context}
use Rattle.sv_config.specs.declared.deployment.Deployment.{Deployment}
use Rattle.sv_container.specs.Serving.{Deployed, container_meaning}
use Rattle.sv_host.specs.Place.{setting_in}
use Rattle.sv_host.specs.declared.place.Place.{Place}
use Rattle.sv_model.specs.Engine.{EngineMeaning}
use Rattle.sv_servlet.specs.Filter.{Filters}
use Rattle.sv_servlet.specs.Servlet.{Serves}
use Rattle.sv_launch.specs.Launched.{IsLaunched, IsMeant}
use Rattle.sv_launch.specs.Objects.{Hears}
use Rattle.sv_launch.specs.Started.{IsDescriptor, IsStarted, RunsAsRead}
use Rattle.sv_launch.specs.declared.fault.Fault.{Fault}
use Rattle.sv_launch.specs.declared.served.ServedFiles.{ServedFiles}

module _ {S F L : Type 0} (serves : S → Serves) (filtering : F → Filters) (hears : L → Hears)
    (servlet_of : ℕ → List ℕ → Option Serves) (filter_of : ℕ → List ℕ → Option Filters) (listener_of : ℕ → List ℕ → Option Hears)
    (contexts : List Context) (d : Deployed) (launched : IsLaunched serves filtering hears servlet_of filter_of listener_of contexts d) where
  -- a container that is launched means what it should
  pub meant : IsMeant serves filtering hears servlet_of filter_of listener_of contexts (container_meaning d)
  meant = record { deployed = d; launched = launched; meaning_is = refl }

  -- what served by it is started
  pub started_by : (P : EngineMeaning → List (List ℕ) → Result (Unit {0}) Fault → Type 0) (heard : List (List ℕ)) (result : Result (Unit {0}) Fault)
      → P (container_meaning d) heard result → IfOk result (λ _. IsStarted (IsMeant serves filtering hears servlet_of filter_of listener_of contexts) P result)
  started_by P heard (Ok x) served = record { meaning = container_meaning d; heard = heard; is = meant; served = served }
  started_by P heard (Err fault) served = tt

-- what was started by a descriptor that was read ran as read
pub runs_as_read : (means : Deployment → List ServedFiles → EngineMeaning → Type 0) (runs : EngineMeaning → List (List ℕ) → Place → Type 0) (number : ℕ)
    (deployment : Deployment) (files : List ServedFiles) (place : Place) (result : Result (Unit {0}) Fault)
    → IfOk result (λ _. IsStarted (means deployment files) (λ m heard r. IfOk r (λ _. runs m heard place)) result)
    → (text : List ℕ) × IsDescriptor text deployment → place.setting ≡ setting_in deployment.cluster number
    → IfOk result (λ _. RunsAsRead means runs number)
runs_as_read means runs number deployment files place (Ok x) s read stands = record {
  text = read.0;
  deployment = deployment;
  read = read.1;
  files = files;
  place = place;
  stands = stands;
  started = record { meaning = s.meaning; heard = s.heard; is = s.is; served = s.served };
}
runs_as_read means runs number deployment files place (Err fault) s read stands = tt
