-- A container that is started by a descriptor and an application's tables of names.
use Rattle.std.specs.Prelude.{◌≡◌, ℕ, List, map, Option}
use Rattle.sv_config.specs.Values.{ContextData, context_data}
use Rattle.sv_config.specs.declared.deployment.Context.{Context}
use Rattle.sv_container.specs.Deployment.{IsDeployed, path_of}
use Rattle.sv_container.specs.Serving.{Deployed, container_meaning}
use Rattle.sv_container.specs.declared.named.Named.{Named}
use Rattle.sv_model.specs.Engine.{EngineMeaning}
use Rattle.sv_servlet.specs.Filter.{Filters}
use Rattle.sv_servlet.specs.Servlet.{Serves}
use Rattle.sv_launch.specs.Objects.{Hears, Lookup, lookups, object_data}

-- the names of contexts in turn, and what they stand for
abbrev pub declared : {M : Type 0} → (ℕ → List ℕ → Option M) → (ContextData → List (List ℕ)) → List Context → List (Lookup M)
declared named names contexts = lookups named names 0 (map context_data contexts)

-- there is an object for each name that contexts declare, in order, and it means what the name stands for
abbrev pub AreDeclared : {O M : Type 0} → (O → M) → (ℕ → List ℕ → Option M) → (ContextData → List (List ℕ)) → List Context → List (Named O) → Type 0
AreDeclared meant named names contexts objects = map (object_data meant) objects ≡ declared named names contexts

-- It is deployed as its contexts say, each at its path, and has under each name that they declare an object that means what the name
-- stands for.
pub record IsLaunched {S F L : Type 0} (serves : S → Serves) (filtering : F → Filters) (hears : L → Hears)
    (servlet_of : ℕ → List ℕ → Option Serves) (filter_of : ℕ → List ℕ → Option Filters) (listener_of : ℕ → List ℕ → Option Hears)
    (contexts : List Context) (deployed : Deployed) : Type 0 where
  pub servlets : List (Named S)
  pub servlets_are : AreDeclared serves servlet_of (λ c. c.servlets) contexts servlets
  pub filters : List (Named F)
  pub filters_are : AreDeclared filtering filter_of (λ c. c.filters) contexts filters
  pub listeners : List (Named L)
  pub listeners_are : AreDeclared hears listener_of (λ c. c.listeners) contexts listeners
  pub paths : deployed.paths ≡ map path_of contexts
  pub objects : IsDeployed serves filtering contexts servlets filters listeners hears deployed.apps deployed.ears

-- It is what such a container means.
pub record IsMeant {S F L : Type 0} (serves : S → Serves) (filtering : F → Filters) (hears : L → Hears)
    (servlet_of : ℕ → List ℕ → Option Serves) (filter_of : ℕ → List ℕ → Option Filters) (listener_of : ℕ → List ℕ → Option Hears)
    (contexts : List Context) (meaning : EngineMeaning) : Type 0 where
  pub deployed : Deployed
  pub launched : IsLaunched serves filtering hears servlet_of filter_of listener_of contexts deployed
  pub meaning_is : meaning ≡ container_meaning deployed
