-- What a deployment declares, and what is made of it.
use Rattle.std.specs.Prelude.{◌≡◌, ℕ, ◌+◌, ◌<◌, ◌≤◌, slice_index_or, ℤ, List, [], ◌∷◌, ◌++◌, map, length, take, drop, string_bytes, min, Option, Some, None, option_map}
use Rattle.std.specs.List.Sorted.{IsPermutation}
use Rattle.std.specs.Vec.{vec_capacity}
use Rattle.sv_config.specs.declared.deployment.Context.{Context}
use Rattle.sv_config.specs.declared.cookie.CookieConfig.{CookieConfig}
use Rattle.sv_config.specs.declared.settings.Setting.{Setting as DeclaredSetting}
use Rattle.sv_config.specs.declared.deployment.ErrorPage.{ErrorPage as DeclaredPage}
use Rattle.sv_config.specs.declared.deployment.Once.{Once}
use Rattle.sv_config.specs.declared.deployment.PageFor.{PageFor as DeclaredFor}
use Rattle.sv_config.specs.declared.deployment.PageFor.TheVariants.{Status as OfStatus, Fault as OfFault, Default as OfAll}
use Rattle.sv_mapping.specs.Mappings as mappings
use Rattle.sv_mapping.specs.declared.filter.FilterMapping.{FilterMapping}
use Rattle.sv_model.specs.declared.event.Told.{Told}
use Rattle.sv_once.specs.declared.choice.Choice.{Choice}
use Rattle.sv_servlet.specs.Filter.{Filters}
use Rattle.sv_servlet.specs.Servlet.{Serves}
use Rattle.sv_servlet.specs.declared.setting.Setting.{Setting}
use Rattle.sv_dispatch.specs.declared.page.ErrorPage.{ErrorPage}
use Rattle.sv_dispatch.specs.declared.page.PageFor.{PageFor}
use Rattle.sv_dispatch.specs.declared.page.PageFor.TheVariants.{Status, Fault, Default}
use Rattle.sv_target.specs.SessionCookie.{default_name}
use Rattle.sv_container.specs.Application.{App, Identity, Plan, plan_of}
use Rattle.sv_container.specs.Listening.{Ear, ears_of}
use Rattle.sv_container.specs.declared.application.Application.{Application}
use Rattle.sv_container.specs.declared.arrange.Kind.{Kind}
use Rattle.sv_container.specs.declared.arrange.Kind.TheVariants.{Servlet, Filter, Listener}
use Rattle.sv_container.specs.declared.named.Named.{Named}
use Rattle.sv_container.specs.declared.set_cookie.SessionCookie.{SessionCookie}

-- ---- names

-- the names of a kind that a context declares
abbrev pub names_of : Kind → Context → List (List ℕ)
names_of Servlet c = map string_bytes c.servlets.items
names_of Filter c = map string_bytes c.filters.items
names_of Listener c = map string_bytes c.listeners.items

-- a name, with the number of its context
abbrev pub label : ℕ → List ℕ → ℕ × List ℕ
label context name = (context, name)

-- the names of contexts, by the contexts' numbers
unfoldable pub declared_from : ℕ → List (List (List ℕ)) → List (ℕ × List ℕ)
declared_from context [] = []
declared_from context (names ∷ more) = map (label context) names ++ declared_from (context + 1) more

-- the names of a kind that contexts declare
abbrev pub declared : Kind → List Context → List (ℕ × List ℕ)
declared kind contexts = declared_from 0 (map (names_of kind) contexts)

abbrev pub label_of : {O : Type 0} → Named O → ℕ × List ℕ
label_of n = label n.context (string_bytes n.name)

unfoldable pub labels_of : {O : Type 0} → List (Named O) → List (ℕ × List ℕ)
labels_of ns = map label_of ns

-- an object of a label stands at a place, which is no less than another
pub record IsFoundAt {O : Type 0} (ns : List (Named O)) (from : ℕ) (its : ℕ × List ℕ) (at : ℕ) : Type 0 where
  pub behind : from ≤ at
  pub within : at < length ns
  pub named : (d : Named O) → label_of (slice_index_or ns at d) ≡ its

-- an object that was handed in: its name, and its meaning
abbrev pub identity_of_named : {O M : Type 0} → (O → M) → Named O → Identity M
identity_of_named meaning n = record { name = string_bytes n.name; meaning = meaning n.object }

unfoldable pub identities_of : {O M : Type 0} → (O → M) → List (Named O) → List (Identity M)
identities_of meaning ns = map (identity_of_named meaning) ns

-- ---- applications without their objects

abbrev pub page_for : DeclaredFor → PageFor
page_for (OfStatus status) = Status status
page_for (OfFault name) = Fault (string_bytes name)
page_for OfAll = Default

unfoldable pub page_of : DeclaredPage → ErrorPage
page_of p = record { page_for = page_for p.choice; path = string_bytes p.path }

-- what sessions remember
abbrev pub choice_of : Once → Choice
choice_of o = record { answers = o.answers; parameter = option_map string_bytes o.parameter }

-- what its servlets and filters are given
unfoldable pub setting_of : DeclaredSetting → Setting
setting_of s = record { name = string_bytes s.name; value = string_bytes s.value }

-- the cookie of its sessions
abbrev pub cookie_name : Option (List ℕ) → List ℕ
cookie_name None = default_name
cookie_name (Some name) = name

abbrev pub cookie_of : CookieConfig → SessionCookie
cookie_of c = record { name = cookie_name (option_map string_bytes c.name); secure = c.secure; same_site = c.same_site }

-- the context path
unfoldable pub path_of : Context → List ℕ
path_of c = string_bytes c.path

pub record Frame : Type 0 where
  pub number : ℕ
  pub path : List ℕ
  pub cookie : SessionCookie
  pub interval : ℤ
  pub once : Option Choice
  pub settings : List Setting
  pub patterns : mappings.Table
  pub chains : List FilterMapping
  pub pages : List ErrorPage
  -- how many servlets and filters there are to be
  pub servlets : ℕ
  pub filters : ℕ

-- a context of a number, as the deployment declares it
abbrev pub frame_of_context : ℕ → Context → Frame
frame_of_context number c = record {
  number = min number 255;
  path = string_bytes c.path;
  cookie = cookie_of c.cookie;
  interval = c.interval;
  once = option_map choice_of c.once;
  settings = map setting_of c.settings.items;
  patterns = c.mappings;
  chains = c.filter_mappings.items;
  pages = map page_of c.error_pages.items;
  servlets = length c.servlets.items;
  filters = length c.filters.items;
}

unfoldable pub frames_from : ℕ → List Context → List Frame
frames_from number [] = []
frames_from number (c ∷ cs) = frame_of_context number c ∷ frames_from (number + 1) cs

-- an application that has room for its objects
abbrev pub frame_of : {S F : Type 0} → Application S F → Frame
frame_of a = record {
  number = a.number;
  path = a.path;
  cookie = a.cookie;
  interval = a.interval;
  once = a.once;
  settings = a.settings;
  patterns = a.stage.patterns;
  chains = a.stage.chains.items;
  pages = a.stage.pages.items;
  servlets = vec_capacity a.stage.servlets;
  filters = vec_capacity a.stage.filters;
}

-- it has no objects yet
pub record IsEmpty {S F : Type 0} (a : Application S F) : Type 0 where
  pub servlets : a.stage.servlets.items ≡ []
  pub filters : a.stage.filters.items ≡ []

-- ---- applications with their objects

abbrev pub plan_with : Frame → List (Identity Serves) → List (Identity Filters) → Plan
plan_with f servlets filters = record {
  number = f.number;
  path = f.path;
  cookie = f.cookie;
  interval = f.interval;
  once = f.once;
  settings = f.settings;
  servlets = servlets;
  filters = filters;
  patterns = f.patterns;
  chains = f.chains;
  pages = f.pages;
}

-- each application gets as many of the objects as it declares, in order
unfoldable pub plans_for : List Frame → List (Identity Serves) → List (Identity Filters) → List Plan
plans_for [] servlets filters = []
plans_for (f ∷ fs) servlets filters =
    plan_with f (take f.servlets servlets) (take f.filters filters) ∷ plans_for fs (drop f.servlets servlets) (drop f.filters filters)

-- the objects of a kind that were handed in, in the order in which they are declared
pub record IsArranged {O : Type 0} (kind : Kind) (contexts : List Context) (handed arranged : List (Named O)) : Type 0 where
  pub same : IsPermutation handed arranged
  pub named : labels_of arranged ≡ declared kind contexts

-- What a container has is what its deployment declares: each application has its context's number, path, interval, choice
-- of what sessions remember, patterns, filter mappings and error pages, and under its servlets' and filters' names the objects that were handed in
-- under these names; and so have the listeners.
pub record IsDeployed {S F L : Type 0} (serves : S → Serves) (filtering : F → Filters) (contexts : List Context)
    (servlets : List (Named S)) (filters : List (Named F)) (listeners : List (Named L)) (hears : L → Told → List ℕ
    → List ℕ) (apps : List App) (ears : List Ear) : Type 0 where
  pub its_servlets : List (Named S)
  pub servlets_are : IsArranged Servlet contexts servlets its_servlets
  pub its_filters : List (Named F)
  pub filters_are : IsArranged Filter contexts filters its_filters
  pub its_listeners : List (Named L)
  pub listeners_are : IsArranged Listener contexts listeners its_listeners
  pub plans : map plan_of apps ≡ plans_for (frames_from 0 contexts) (identities_of serves its_servlets) (identities_of filtering its_filters)
  pub hearing : ears ≡ ears_of hears its_listeners
