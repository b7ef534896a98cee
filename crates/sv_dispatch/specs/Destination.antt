-- What a dispatch path names (Jakarta Servlet 6.0, section 9.1): it is read as the target of a request is, within the
-- context.
use Rattle.std.specs.Prelude.{ℕ, List, [], ◌++◌, Option, Some, None, option_map}
use Rattle.sv_model.specs.declared.request.Param.{Param}
use Rattle.sv_target.specs.Params.{params_of}
use Rattle.sv_target.specs.Target.{target_within}
use Rattle.sv_target.specs.declared.target.Target.{Target}
use Rattle.sv_dispatch.specs.declared.destination.Destination.{Destination}

-- the parameters of a query, if there is one
abbrev pub query_params : Option (List ℕ) → List Param
query_params None = []
query_params (Some query) = params_of query []

-- the context path, and the path as it was written
abbrev pub uri_of : List ℕ → List ℕ → List ℕ
uri_of context_path raw_path = context_path ++ raw_path

-- what a target within a context shows
abbrev pub shown_target : List ℕ → Target → Destination
shown_target context_path t =
    record { request_uri = uri_of context_path t.raw_path; path = t.path; query = t.query; params = query_params t.query }

-- what a dispatch path of a context names, or none where it is refused
unfoldable pub destination_of : List ℕ → List ℕ → Option Destination
destination_of context_path text = option_map (shown_target context_path) (target_within text)
