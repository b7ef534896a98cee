use Rattle.sv_container.proofs.Prelude.{◌∙◌, ap, List, ℕ, session_cookie}
use Rattle.sv_container.proofs.EngineLemmas.{app_within, named_one}
use Rattle.sv_container.proofs.engine.ContainerEngine.names.Goals as goal

pub index-application-requires : goal.index-application-requires
index-application-requires g c = rw c.args.self.now.applications.ok.0 (app_within g.S.Servlet g.F.Filter g.L.Listener.hears c.args.self.now _ _ c.in_ok-place.ensures)

pub returns : goal.returns
returns g c =
    c.session_cookie.ensures
    ∙ ap (λ (name : List ℕ). session_cookie name c.as_slice.result.now c.index-application.result.now.number) c.name_bytes.ensures
    ∙ named_one g.S.Servlet g.F.Filter g.L.Listener.hears c.args.self.now _ _ _ _ _ c.in_ok-place.ensures c.as_str.ensures c.index-application.ensures c.as_slice.ensures
