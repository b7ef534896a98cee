-- A request as one servlet sees it (Jakarta Servlet 6.0, chapter "The Request").
use Rattle.std.specs.Prelude.{ℕ, List, Option}
use Rattle.sv_model.specs.declared.field.Field.{Field}
use Rattle.sv_model.specs.declared.request.Cookie.{Cookie}
use Rattle.sv_model.specs.declared.request.Param.{Param}
use Rattle.sv_servlet.specs.declared.setting.Setting.{Setting}

pub record Asked : Type 0 where
  pub method : List ℕ
  pub request_uri : List ℕ
  pub context_path : List ℕ
  pub servlet_path : List ℕ
  pub path_info : Option (List ℕ)
  pub query : Option (List ℕ)
  pub params : List Param
  pub fields : List Field
  -- the pairs of the Cookie fields (RFC 6265, section 4.2.1)
  pub cookies : List Cookie
  pub body : List ℕ
  -- the initialization parameters of the context (section 4.3)
  pub settings : List Setting
  pub attributes : List (List ℕ × List ℕ)
  pub resume : ℕ
