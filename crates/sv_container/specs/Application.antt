-- A web application as contracts know it (Jakarta Servlet 6.0, chapter "Servlet Context").
use Rattle.std.specs.Prelude.{◌≡◌, ℕ, ℤ, ◌<◌, ◌&&◌, Bool, true, false, List, All, IsTrue, length, map, nat_lt, Option}
use Rattle.std.specs.List.{list_all}
use Rattle.sv_mapping.specs.Mappings as mappings
use Rattle.sv_mapping.specs.declared.filter.FilterMapping.{FilterMapping}
use Rattle.sv_servlet.specs.Filter.{Filters}
use Rattle.sv_servlet.specs.Servlet.{Serves}
use Rattle.sv_servlet.specs.declared.servlet.Phase.{Phase}
use Rattle.sv_servlet.specs.declared.setting.Setting.{Setting}
use Rattle.sv_servlet.specs.declared.servlet.Phase.TheVariants.{Ready, Failed}
use Rattle.sv_dispatch.specs.Dispatching.{Table}
use Rattle.sv_dispatch.specs.Keeping.{TableKeeps}
use Rattle.sv_dispatch.specs.Rows.{Row, IsReadyAt}
use Rattle.sv_dispatch.specs.Stages.{table_of}
use Rattle.sv_dispatch.specs.declared.page.ErrorPage.{ErrorPage}
use Rattle.sv_once.specs.declared.choice.Choice.{Choice}
use Rattle.sv_container.specs.SetCookie.{is_sendable}
use Rattle.sv_container.specs.declared.application.Application.{Application}
use Rattle.sv_container.specs.declared.set_cookie.SessionCookie.{SessionCookie}
use Rattle.sv_servlet.specs.declared.servlet.Servlet as servlet_trait
use Rattle.sv_servlet.specs.declared.filter.Filter as filter_trait

pub record App : Type 0 where
  -- the number of its context in sessions, their cookies and events
  pub number : ℕ
  -- the context path
  pub path : List ℕ
  -- the cookie that names its sessions
  pub cookie : SessionCookie
  -- the seconds after which a session that is made expires
  pub interval : ℤ
  pub is_in_service : Bool
  -- what its sessions remember of requests that may be sent again
  pub once : Option Choice
  -- the initialization parameters of its context
  pub settings : List Setting
  -- its objects, and what leads to them
  pub table : Table

-- an application, by the members of the two traits
abbrev pub app_of : {S F : Type 0} → servlet_trait.Ghosts S → filter_trait.Ghosts F → Application S F → App
app_of servlet filter a = record {
  number = a.number;
  path = a.path;
  cookie = a.cookie;
  interval = a.interval;
  is_in_service = a.is_in_service;
  once = a.once;
  settings = a.settings;
  table = table_of servlet filter a.stage;
}

unfoldable pub apps_of : {S F : Type 0} → servlet_trait.Ghosts S → filter_trait.Ghosts F → List (Application S F) → List App
apps_of servlet filter apps = map (app_of servlet filter) apps

-- ---- which applications are sound

-- the phase of an object that was initialised, by its mark (sections "Servlet Life Cycle" and "Filter Lifecycle")
abbrev pub phase_of_mark : Bool → Phase
phase_of_mark true = Ready
phase_of_mark false = Failed

-- an object is ready or failed, and its mark tells which
abbrev pub IsLaunched : {M : Type 0} → Row M → Type 0
IsLaunched r = r.phase ≡ phase_of_mark r.is_ready

-- a mapping names a filter of the context
abbrev pub names_filter : ℕ → FilterMapping → Bool
names_filter count m = nat_lt m.filter count

-- Requests can be served: a session can have the context's number, the path and the name can stand in a cookie, no filter has
-- failed, and each mapping names one.
unfoldable pub can_serve : ℕ → List ℕ → List ℕ → Bool → ℕ → List FilterMapping → Bool
can_serve number path name are_ready count chains =
    nat_lt number 16 && (is_sendable path && (is_sendable name && (are_ready && list_all (names_filter count) chains)))

-- whether an application is in service
abbrev pub is_able : App → Bool
is_able a = can_serve a.number a.path a.cookie.name (list_all (λ r. r.is_ready) a.table.filters) (length a.table.filters) a.table.chains

pub record IsServing (a : App) : Type 0 where
  pub number : a.number < 16
  pub path : IsTrue (is_sendable a.path)
  pub name : IsTrue (is_sendable a.cookie.name)
  pub filters : All (λ m. IsReadyAt a.table.filters m.filter) a.table.chains

-- all objects have been initialised, each goes on with what it is lent, and what is in service can serve
pub record IsSoundApp (a : App) : Type 0 where
  pub servlets : All IsLaunched a.table.servlets
  pub filters : All IsLaunched a.table.filters
  pub keeps : TableKeeps a.table
  pub serving : a.is_in_service ≡ true → IsServing a

-- ---- what no call changes of an application

-- an object: its name, and its meaning
pub record Identity (M : Type 0) : Type 0 where
  pub name : List ℕ
  pub meaning : M

abbrev pub identity_of : {M : Type 0} → Row M → Identity M
identity_of r = record { name = r.name; meaning = r.meaning }

pub record Plan : Type 0 where
  pub number : ℕ
  pub path : List ℕ
  pub cookie : SessionCookie
  pub interval : ℤ
  pub once : Option Choice
  pub settings : List Setting
  pub servlets : List (Identity Serves)
  pub filters : List (Identity Filters)
  pub patterns : mappings.Table
  pub chains : List FilterMapping
  pub pages : List ErrorPage

abbrev pub plan_of : App → Plan
plan_of a = record {
  number = a.number;
  path = a.path;
  cookie = a.cookie;
  interval = a.interval;
  once = a.once;
  settings = a.settings;
  servlets = map identity_of a.table.servlets;
  filters = map identity_of a.table.filters;
  patterns = a.table.patterns;
  chains = a.table.chains;
  pages = a.table.pages;
}
