use Rattle.sv_container.proofs.Prelude.{◌∙◌, sym, IfOk-weaker}
use Rattle.std.specs.Prelude.{string_bytes}
use Rattle.sv_container.proofs.EngineLemmas.{app_within, below_there, context_there, meaning_kept, path_within, served_one, serving_one, sound_kept, sound_one}
use Rattle.sv_container.proofs.engine.ContainerEngine.serve.Goals as goal

pub index-requires : goal.index-requires
index-requires g c = rw c.args.self.now.paths.ok.0 (path_within g.S.Servlet g.F.Filter g.L.Listener.hears c.args.self.now _ _ c.in-Some.ensures)

pub path_in_context-path-requires : goal.path_in_context-path-requires
path_in_context-path-requires g c =
    let within = path_within g.S.Servlet g.F.Filter g.L.Listener.hears c.args.self.now _ _ c.in-Some.ensures in
    below_there _ _ _ _ _ c.in-Some.ensures (c.as_str-3.ensures ∙ sym c.as_str.ensures)
    (c.as_str-2.ensures.value ∙ context_there string_bytes c.args.self.now.paths.items _ _ within c.index.ensures)

pub index_mut-application-requires : goal.index_mut-application-requires
index_mut-application-requires g c = rw c.args.self.now.applications.ok.0 (app_within g.S.Servlet g.F.Filter g.L.Listener.hears c.args.self.now _ _ c.in-Some.ensures)

pub serve_once-requires-clause-sound : goal.serve_once-requires-clause-sound
serve_once-requires-clause-sound g c = sound_one g.S.Servlet g.F.Filter g.L.Listener.hears c.args.self.now _ _ _ c.requires c.in-Some.ensures c.index_mut-application.ensures.value

pub serve_once-requires-clause-serving : goal.serve_once-requires-clause-serving
serve_once-requires-clause-serving g c = serving_one g.S.Servlet g.F.Filter g.L.Listener.hears c.args.self.now _ _ _ c.in-Some.ensures c.index_mut-application.ensures.value

pub returns-then-is_some-clause-valid : goal.returns-then-is_some-clause-valid
returns-then-is_some-clause-valid g c = sound_kept g.S.Servlet g.F.Filter g.L.Listener.hears c.args.self.now _ _ _ c.requires c.serve_once.ensures.same c.index_mut-application.ensures.value

pub returns-then-is_some-clause-meaning : goal.returns-then-is_some-clause-meaning
returns-then-is_some-clause-meaning g c = meaning_kept g.S.Servlet g.F.Filter g.L.Listener.hears c.args.self.now _ _ _ c.serve_once.ensures.same c.index_mut-application.ensures.value

pub returns-then-is_some-clause-outcome : goal.returns-then-is_some-clause-outcome
returns-then-is_some-clause-outcome g c =
    let within = path_within g.S.Servlet g.F.Filter g.L.Listener.hears c.args.self.now _ _ c.in-Some.ensures in
    let context = c.as_str-2.ensures.value ∙ context_there string_bytes c.args.self.now.paths.items _ _ within c.index.ensures in
    IfOk-weaker c.serve_once.result _ _
    (λ o is. served_one g.S.Servlet g.F.Filter g.L.Listener.hears c.args.self.now _ _ _ _ _ _ _ _ _ _ o
    c.in-Some.ensures c.as_str.ensures c.index_mut-application.ensures.value context c.as_str-3.ensures c.path_in_context-path.ensures is)
    c.serve_once.ensures.outcome

pub serve-requires-clause-sound : goal.serve-requires-clause-sound
serve-requires-clause-sound g c = sound_one g.S.Servlet g.F.Filter g.L.Listener.hears c.args.self.now _ _ _ c.requires c.in-Some.ensures c.index_mut-application.ensures.value

pub serve-requires-clause-serving : goal.serve-requires-clause-serving
serve-requires-clause-serving g c = serving_one g.S.Servlet g.F.Filter g.L.Listener.hears c.args.self.now _ _ _ c.in-Some.ensures c.index_mut-application.ensures.value

pub returns-clause-valid : goal.returns-clause-valid
returns-clause-valid g c = sound_kept g.S.Servlet g.F.Filter g.L.Listener.hears c.args.self.now _ _ _ c.requires c.serve.ensures.same c.index_mut-application.ensures.value

pub returns-clause-meaning : goal.returns-clause-meaning
returns-clause-meaning g c = meaning_kept g.S.Servlet g.F.Filter g.L.Listener.hears c.args.self.now _ _ _ c.serve.ensures.same c.index_mut-application.ensures.value

pub returns-in_err-serve-clause-valid : goal.returns-in_err-serve-clause-valid
returns-in_err-serve-clause-valid g c = sound_kept g.S.Servlet g.F.Filter g.L.Listener.hears c.args.self.now _ _ _ c.requires c.serve.ensures.same c.index_mut-application.ensures.value

pub returns-in_err-serve-clause-meaning : goal.returns-in_err-serve-clause-meaning
returns-in_err-serve-clause-meaning g c = meaning_kept g.S.Servlet g.F.Filter g.L.Listener.hears c.args.self.now _ _ _ c.serve.ensures.same c.index_mut-application.ensures.value

pub returns-clause-outcome : goal.returns-clause-outcome
returns-clause-outcome g c =
    let within = path_within g.S.Servlet g.F.Filter g.L.Listener.hears c.args.self.now _ _ c.in-Some.ensures in
    let context = c.as_str-2.ensures.value ∙ context_there string_bytes c.args.self.now.paths.items _ _ within c.index.ensures in
    served_one g.S.Servlet g.F.Filter g.L.Listener.hears c.args.self.now _ _ _ _ _ _ _ _ _ _ _
    c.in-Some.ensures c.as_str.ensures c.index_mut-application.ensures.value context c.as_str-3.ensures c.path_in_context-path.ensures c.in_ok-serve.ensures.outcome
