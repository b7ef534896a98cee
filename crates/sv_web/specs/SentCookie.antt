-- A cookie that a server sets, as its parts.
use Rattle.std.specs.Prelude.{ℕ, Bool, List, Option}
use Rattle.sv_web.specs.declared.same_site.SameSite.{SameSite}

pub record SentCookie : Type 0 where
  pub name : List ℕ
  pub value : List ℕ
  pub path : Option (List ℕ)
  -- in seconds
  pub max_age : Option ℕ
  pub is_secure : Bool
  pub is_http_only : Bool
  pub same_site : Option SameSite
