-- The request that the site is asked, as it is read out of a message: its target (RFC 9112, section 3.2), the cookies of
-- its fields (RFC 6265), and its parameters, those of the query before those of a form (Jakarta Servlet 6.0, section 3.1).
use Rattle.std.specs.Prelude.{◌≡◌, ℕ, ◌||◌, Bool, List, [], codes, Option, Some, None, ⊤}
use Rattle.sv_model.specs.declared.request.Param.{Param}
use Rattle.sv_model.specs.declared.request.Request.{Request}
use Rattle.sv_message.specs.declared.request.RawRequest.{RawRequest}
use Rattle.sv_target.specs.declared.fault.TargetFault.{TargetFault}
use Rattle.sv_target.specs.declared.fault.TargetFault.TheVariants.{Connect, BadTarget, Memory}
use Rattle.sv_target.specs.declared.target.Target.{Target}
use Rattle.sv_target.specs.Cookies.{cookies_of}
use Rattle.sv_target.specs.Params.{params_of, form_of}
use Rattle.sv_target.specs.Target.{IsBadTarget}

-- why a request's target isn't served; want of memory stands nowhere
abbrev pub HasTargetFault : RawRequest → TargetFault → Type 0
HasTargetFault raw Connect = raw.method ≡ codes "CONNECT"
HasTargetFault raw BadTarget = IsBadTarget raw.target
HasTargetFault raw Memory = ⊤

-- the bytes of a query; none where there is none
abbrev pub query_bytes : Option (List ℕ) → List ℕ
query_bytes None = []
query_bytes (Some query) = query

-- those of the query, and then those of the form that the body is
abbrev pub params_in : RawRequest → Target → List Param
params_in raw target = params_of (query_bytes target.query) (form_of raw.method raw.fields raw.body)

abbrev pub request_of : Bool → RawRequest → Target → Request
request_of single raw target =
    record {
      method = raw.method;
      raw_path = target.raw_path;
      path = target.path;
      query = target.query;
      fields = raw.fields;
      cookies = cookies_of raw.fields;
      params = params_in raw target;
      body = raw.body;
      close = raw.close || single;
    }
