-- What a dispatch shows of the request (Jakarta Servlet 6.0, chapter "Dispatching Requests").
use Rattle.std.specs.Prelude.{ℕ, Bool, true, false, List, ◌++◌, Option, Some, None, is_some, if◌then◌else◌}
use Rattle.sv_model.specs.Attributes.{Attribute, value_of, with_attribute}
use Rattle.sv_model.specs.declared.request.Param.{Param}
use Rattle.sv_servlet.specs.Call.{Asked}
use Rattle.sv_dispatch.specs.Attributes.{attribute_name, with_values, with_error}
use Rattle.sv_dispatch.specs.Values.{DispatchValues}
use Rattle.sv_dispatch.specs.declared.attributes.Group.TheVariants.{Forward, Include}
use Rattle.sv_dispatch.specs.declared.attributes.Part.TheVariants.{RequestUri}
use Rattle.sv_dispatch.specs.declared.destination.Destination.{Destination}
use Rattle.sv_dispatch.specs.declared.view.Shown.{Shown}

-- the request as it came, and what the dispatch shows in the place of its parts
pub record Sight : Type 0 where
  pub request : Asked
  pub shown : Shown
  pub query : Option (List ℕ)
  pub params : List Param
  pub attributes : List Attribute
  -- the dispatch lies below an include
  pub is_included : Bool

-- what a servlet or a filter of the dispatch is asked
abbrev pub call_of : Sight → ℕ → Asked
call_of s resume = record {
  method = s.request.method;
  request_uri = s.shown.request_uri;
  context_path = s.request.context_path;
  servlet_path = s.shown.servlet_path;
  path_info = s.shown.path_info;
  query = s.query;
  params = s.params;
  fields = s.request.fields;
  cookies = s.request.cookies;
  body = s.request.body;
  settings = s.request.settings;
  attributes = s.attributes;
  resume = resume;
}

abbrev pub shown_of : Asked → Shown
shown_of r = record { request_uri = r.request_uri; servlet_path = r.servlet_path; path_info = r.path_info }

-- the request as it came
abbrev pub first_sight : Asked → Sight
first_sight r = record { request = r; shown = shown_of r; query = r.query; params = r.params; attributes = r.attributes; is_included = false }

-- with an attribute more, or with another value of it
abbrev pub attributed : Sight → List ℕ → List ℕ → Sight
attributed s name value = record s { attributes = with_attribute s.attributes name value }

-- parameters that stand before others
abbrev pub joined : List Param → List Param → List Param
joined front others = front ++ others

-- the parameters of a target stand before the others
abbrev pub with_params : Sight → List Param → Sight
with_params s params = record s { params = joined params s.params }

-- the query of a target, or the old one where it has none
abbrev pub query_over : Option (List ℕ) → Option (List ℕ) → Option (List ℕ)
query_over (Some query) old = Some query
query_over None old = old

abbrev pub values_of_request : Asked → DispatchValues
values_of_request r =
    record { request_uri = r.request_uri; context_path = r.context_path; servlet_path = r.servlet_path; path_info = r.path_info; query = r.query }

abbrev pub is_forwarded : Sight → Bool
is_forwarded s = is_some (value_of s.attributes (attribute_name Forward RequestUri))

-- the values of the request as it came, unless an earlier forward has set them
abbrev pub with_forward_values : Sight → Sight
with_forward_values s = if is_forwarded s then s else record s { attributes = with_values Forward (values_of_request s.request) s.attributes }

-- A forward shows the target's URI and paths, its query if it has one, and its parameters before the others.
abbrev pub forwarded : Sight → Destination → List ℕ → Option (List ℕ) → Sight
forwarded s target servlet_path path_info =
    record (with_forward_values (with_params s target.params)) {
      query = query_over target.query s.query;
      shown = record { request_uri = target.request_uri; servlet_path = servlet_path; path_info = path_info };
    }

abbrev pub values_of_target : Sight → Destination → List ℕ → Option (List ℕ) → DispatchValues
values_of_target s target servlet_path path_info =
    record { request_uri = target.request_uri; context_path = s.request.context_path; servlet_path = servlet_path; path_info = path_info; query = target.query }

-- An include keeps URI, paths and query; five attributes show the target's, those of the innermost include.
abbrev pub included : Sight → Destination → List ℕ → Option (List ℕ) → Sight
included s target servlet_path path_info =
    record (with_params s target.params) {
      attributes = with_values Include (values_of_target s target servlet_path path_info) s.attributes;
      is_included = true;
    }

-- what an error dispatch shows beside a forward from the request as it came
abbrev pub errored : Sight → ℕ → List ℕ → List ℕ → Sight
errored s status message servlet_name = record s { attributes = with_error status message s.request.request_uri servlet_name s.attributes }
