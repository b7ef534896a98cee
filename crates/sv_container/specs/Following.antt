-- How a response follows its request.
use Rattle.std.specs.Prelude.{◌≡◌, ℕ, Option}
use Rattle.sv_model.specs.declared.key.Key.{Key}
use Rattle.sv_model.specs.declared.key.Secret.{Secret}
use Rattle.sv_model.specs.declared.request.Request.{Request}
use Rattle.sv_model.specs.declared.response.Response.{Response}
use Rattle.sv_model.specs.declared.session.Session.{Session}
use Rattle.sv_model.specs.Method.{is_head}
use Rattle.sv_container.specs.Serving.{Deployed, served}

-- the connection closes after it exactly where the request asks for that (RFC 9112, section 9.6), and its body is left
-- out exactly where the method is HEAD (RFC 9110, section 9.3.2)
pub record IsFollowed (r : Request) (response : Response) : Type 0 where
  pub close : response.close ≡ r.close
  pub head_only : response.head_only ≡ is_head r.method

-- each response of the container function follows its request
abbrev pub answers_follow : Type 0
answers_follow =
    (d : Deployed) (r : Request) (handed : Option (Key × Session)) (now : ℕ) (fresh : Key × Secret) → IsFollowed r (served d r handed now fresh).response
