-- What a document says: its deployment, with the defaults filled in. Total: where a document has a fault, something
-- stands for what is not there, and no deployment is made of it.
use Rattle.std.specs.Prelude.{ℕ, ◌+◌, ℤ, pos, negsuc, Bool, false, ◌&&◌, not, List, [], ◌∷◌, ◌++◌, map, length}
use Rattle.std.specs.Prelude.{filter, fold, codes, bytes_eq, string_bytes, Option, Some, None, option_map, unwrap_or, is_none, option_and_then, if◌then◌else◌}
use Rattle.std.specs.Option.{option_map_or}
use Rattle.std.specs.List.{position_or_len}
use Rattle.std.specs.FinMap as finite
use Rattle.toml.specs.Data.{Data, Members, no_members, member, as_str}
use Rattle.sv_mapping.specs.Path.{Text}
use Rattle.sv_mapping.specs.Pattern.{is_pattern}
use Rattle.sv_mapping.specs.Dispatcher.{dispatchers_of}
use Rattle.sv_mapping.specs.Mappings.{Table, refusal}
use Rattle.sv_mapping.specs.declared.filter.FilterMapping.{FilterMapping}
use Rattle.sv_mapping.specs.declared.dispatcher.Dispatchers.{Dispatchers}
use Rattle.sv_mapping.specs.declared.filter.FilterTarget.{FilterTarget}
use Rattle.sv_mapping.specs.declared.filter.FilterTarget.TheVariants.{Pattern, Servlet}
use Rattle.sv_config.specs.Cookie.{is_secure, same_site_of}
use Rattle.sv_config.specs.Document.{text_at, text_or_empty, integer_at, boolean_at, table_at, tables_at, texts_at, integers_at, column}
use Rattle.sv_config.specs.Keys.{is_outside}
use Rattle.sv_config.specs.declared.cookie.CookieConfig.{CookieConfig}
use Rattle.sv_config.specs.declared.cookie.SameSite.{SameSite}
use Rattle.sv_config.specs.declared.deployment.Cluster.{Cluster}
use Rattle.sv_config.specs.declared.deployment.Context.{Context}
use Rattle.sv_config.specs.declared.deployment.Deployment.{Deployment}
use Rattle.sv_config.specs.declared.deployment.ErrorPage.{ErrorPage}
use Rattle.sv_config.specs.declared.deployment.Once.{Once}
use Rattle.sv_config.specs.declared.deployment.PageFor.{PageFor}
use Rattle.sv_config.specs.declared.deployment.PageFor.TheVariants.{Status, Fault, Default}
use Rattle.sv_config.specs.declared.files.FileMapping.{FileMapping}
use Rattle.sv_config.specs.declared.files.FileSource.{FileSource}
use Rattle.sv_config.specs.declared.files.FileSource.TheVariants.{File, Folder}
use Rattle.sv_config.specs.declared.settings.Setting.{Setting}

-- ---- a deployment as plain data

pub record ClusterData : Type 0 where
  pub ports : List ℤ
  pub deadline : ℤ
  pub secrets : Option Text
  pub keys : ℤ
  pub forget : Bool

-- what an error page is for
pub data Choice : Type 0 where
  of_status : ℤ → Choice
  of_fault : Text → Choice
  of_all : Choice

pub record PageData : Type 0 where
  pub path : Text
  pub choice : Choice

-- what sessions of a context remember of requests that may be sent again
pub record OnceData : Type 0 where
  pub answers : ℤ
  pub parameter : Option Text

-- the session cookie of a context
pub record CookieData : Type 0 where
  pub name : Option Text
  pub secure : Bool
  pub same_site : Option SameSite

-- what of the descriptor's folder a file mapping serves
pub data Source : Type 0 where
  of_file : Text → Source
  of_folder : Text → Source

pub record FileData : Type 0 where
  pub path : Text
  pub source : Source
  pub cache : Option Text

pub record SettingData : Type 0 where
  pub name : Text
  pub value : Text

pub record ContextData : Type 0 where
  pub path : Text
  pub interval : ℤ
  pub servlets : List Text
  pub mappings : Table
  pub filters : List Text
  pub filter_mappings : List FilterMapping
  pub listeners : List Text
  pub error_pages : List PageData
  pub once : Option OnceData
  pub cookie : CookieData
  pub settings : List SettingData
  pub files : List FileData

pub record DeploymentData : Type 0 where
  pub cluster : ClusterData
  pub contexts : List ContextData

-- ---- what a document says

-- the integer at a key, where it is there and within the range
abbrev pub integer_within : ℤ → ℤ → ℤ → Text → Members → ℤ
integer_within least most default key t =
    option_map_or (λ z. if is_outside least most z then default else z) (integer_at key t) default

abbrev pub is_port : ℤ → Bool
is_port z = not (is_outside (pos 1) (pos 65535) z)

abbrev pub ports_of : Members → List ℤ
ports_of t = filter is_port (integers_at (codes "ports") t)

-- 30 seconds
abbrev pub deadline_of : Members → ℤ
deadline_of t = integer_within (pos 1) (pos 86400) (pos 30) (codes "deadline") t

-- 65,536 keys
abbrev pub keys_of : Members → ℤ
keys_of t = integer_within (pos 1) (pos 1048576) (pos 65536) (codes "keys") t

abbrev pub forget_of : Members → Bool
forget_of t = unwrap_or (boolean_at (codes "forget") t) false

unfoldable pub cluster_of : Members → ClusterData
cluster_of t = record {
  ports = ports_of t;
  deadline = deadline_of t;
  secrets = text_at (codes "secrets") t;
  keys = keys_of t;
  forget = forget_of t;
}

-- the first place of a name
abbrev pub place_of : Text → List Text → ℕ
place_of name names = position_or_len (λ its. bytes_eq its name) names

-- the place of the name at a key
abbrev pub place_at : List Text → Text → Members → ℕ
place_at names key t = place_of (text_or_empty key t) names

-- a pattern is mapped to a servlet where it is one and the table takes it
abbrev pub with_pattern : ℕ → Table → Text → Table
with_pattern servlet table pattern =
    if is_pattern pattern && is_none (refusal table pattern) then finite.insert table pattern servlet else table

-- the patterns of servlets, each mapped to its servlet by the servlet's place
abbrev pub mapped_from : ℕ → List Members → Table → Table
mapped_from place [] table = table
mapped_from place (s ∷ ss) table = mapped_from (place + 1) ss (fold (with_pattern place) table (texts_at (codes "patterns") s))

-- the paths of files, each mapped to a place of its own
abbrev pub with_files : ℕ → List Members → Table → Table
with_files place [] table = table
with_files place (f ∷ fs) table = with_files (place + 1) fs (with_pattern place table (text_or_empty (codes "path") f))

-- the servlets that serve files stand after those that are declared
unfoldable pub mappings_of : Members → Table
mappings_of t =
    let servlets = tables_at (codes "servlet") t in
    with_files (length servlets) (tables_at (codes "file") t) (mapped_from 0 servlets finite.empty)

-- a text as a pattern, where it is one
abbrev pub pattern_of : Text → Option Text
pattern_of text = if is_pattern text then Some text else None

-- a filter mapping is for its pattern, or else for the servlet that it names
abbrev pub target_by : ℕ → Option Text → FilterTarget
target_by servlet None = Servlet servlet
target_by servlet (Some pattern) = Pattern pattern

abbrev pub target_of : List Text → Members → FilterTarget
target_of servlets t = target_by (place_at servlets (codes "servlet") t) (option_and_then pattern_of (text_at (codes "pattern") t))

-- with no word in `dispatch` it is for REQUEST
abbrev pub dispatchers_at : Members → Dispatchers
dispatchers_at t = dispatchers_of (texts_at (codes "dispatch") t)

unfoldable pub filter_mapping_of : List Text → List Text → Members → FilterMapping
filter_mapping_of filters servlets t = record {
  filter = place_at filters (codes "filter") t;
  target = target_of servlets t;
  dispatchers = dispatchers_at t;
}

-- an error page is for its status, or else for its fault, or else for all that no other page is for
abbrev pub choice_by_fault : Option Text → Choice
choice_by_fault None = of_all
choice_by_fault (Some fault) = of_fault fault

abbrev pub choice_of : Option ℤ → Option Text → Choice
choice_of None fault = choice_by_fault fault
choice_of (Some status) fault = if is_outside (pos 400) (pos 599) status then choice_by_fault fault else of_status status

abbrev pub choice_of_table : Members → Choice
choice_of_table t = choice_of (integer_at (codes "status") t) (text_at (codes "fault") t)

unfoldable pub page_of : Members → PageData
page_of t = record { path = text_or_empty (codes "path") t; choice = choice_of_table t }

-- 1800 seconds
abbrev pub interval_of : Members → ℤ
interval_of t = integer_within (negsuc 2147483647) (pos 2147483647) (pos 1800) (codes "interval") t

abbrev pub answers_of : Members → ℤ
answers_of o = integer_within (pos 1) (pos 16) (pos 1) (codes "answers") o

abbrev pub once_of_table : Members → OnceData
once_of_table o = record { answers = answers_of o; parameter = text_at (codes "parameter") o }

abbrev pub once_of : Members → Option OnceData
once_of t = option_map once_of_table (table_at (codes "once") t)

abbrev pub cookie_of_table : Members → CookieData
cookie_of_table c = record {
  name = text_at (codes "name") c;
  secure = is_secure c;
  same_site = option_and_then same_site_of (text_at (codes "same-site") c);
}

unfoldable pub cookie_of : Members → CookieData
cookie_of t = cookie_of_table (unwrap_or (table_at (codes "cookie") t) no_members)

-- a member of a table, where it is a text
abbrev pub setting_in : Text → Data → List SettingData
setting_in name d = option_map_or (λ value. record { name = name; value = value } ∷ []) (as_str d) []

abbrev pub settings_in : Members → List SettingData
settings_in no_members = []
settings_in (member name d t) = setting_in name d ++ settings_in t

unfoldable pub settings_of : Members → List SettingData
settings_of t = settings_in (unwrap_or (table_at (codes "settings") t) no_members)

-- a file mapping serves its file, or else what is in its folder
abbrev pub source_by : Option Text → Members → Source
source_by None f = of_folder (text_or_empty (codes "folder") f)
source_by (Some file) f = of_file file

unfoldable pub file_of : Members → FileData
file_of f = record {
  path = text_or_empty (codes "path") f;
  source = source_by (text_at (codes "file") f) f;
  cache = text_at (codes "cache") f;
}

-- the names of servlets: those that are declared, and the path of each file
abbrev pub servlet_names : Members → List Text
servlet_names t = column (codes "servlet") (codes "name") t ++ column (codes "file") (codes "path") t

unfoldable pub context_of : Members → ContextData
context_of t =
    let servlets = column (codes "servlet") (codes "name") t in
    let filters = column (codes "filter") (codes "name") t in
    record {
      path = text_or_empty (codes "path") t;
      interval = interval_of t;
      servlets = servlet_names t;
      mappings = mappings_of t;
      filters = filters;
      filter_mappings = map (filter_mapping_of filters servlets) (tables_at (codes "filter-mapping") t);
      listeners = column (codes "listener") (codes "name") t;
      error_pages = map page_of (tables_at (codes "error-page") t);
      once = once_of t;
      cookie = cookie_of t;
      settings = settings_of t;
      files = map file_of (tables_at (codes "file") t);
    }

unfoldable pub deployment_of : Members → DeploymentData
deployment_of t = record {
  cluster = cluster_of (unwrap_or (table_at (codes "cluster") t) no_members);
  contexts = map context_of (tables_at (codes "context") t);
}

-- ---- a deployment of the code

abbrev pub cluster_data : Cluster → ClusterData
cluster_data c =
    record { ports = map pos c.ports.items; deadline = pos c.deadline; secrets = option_map string_bytes c.secrets; keys = pos c.keys; forget = c.forget }

abbrev pub choice_data : PageFor → Choice
choice_data (Status status) = of_status (pos status)
choice_data (Fault fault) = of_fault (string_bytes fault)
choice_data Default = of_all

abbrev pub page_data : ErrorPage → PageData
page_data p = record { path = string_bytes p.path; choice = choice_data p.choice }

abbrev pub once_data : Once → OnceData
once_data o = record { answers = pos o.answers; parameter = option_map string_bytes o.parameter }

abbrev pub cookie_data : CookieConfig → CookieData
cookie_data c = record { name = option_map string_bytes c.name; secure = c.secure; same_site = c.same_site }

abbrev pub setting_data : Setting → SettingData
setting_data s = record { name = string_bytes s.name; value = string_bytes s.value }

abbrev pub source_data : FileSource → Source
source_data (File path) = of_file (string_bytes path)
source_data (Folder path) = of_folder (string_bytes path)

abbrev pub file_data : FileMapping → FileData
file_data f = record { path = string_bytes f.path; source = source_data f.source; cache = option_map string_bytes f.cache }

abbrev pub context_data : Context → ContextData
context_data c = record {
  path = string_bytes c.path;
  interval = c.interval;
  servlets = map string_bytes c.servlets.items;
  mappings = c.mappings;
  filters = map string_bytes c.filters.items;
  filter_mappings = c.filter_mappings.items;
  listeners = map string_bytes c.listeners.items;
  error_pages = map page_data c.error_pages.items;
  once = option_map once_data c.once;
  cookie = cookie_data c.cookie;
  settings = map setting_data c.settings.items;
  files = map file_data c.files.items;
}

unfoldable pub deployment_data : Deployment → DeploymentData
deployment_data d = record { cluster = cluster_data d.cluster; contexts = map context_data d.contexts.items }
