use Rattle.std.proofs.Common.{◌≡◌, length, [], ◌∷◌, refl, sym, ap, ◌∙◌, arith}
use Rattle.sv_solo.proofs.Prelude.{Answer, no_birth, fated_at, born_behind, alone, node_of}
use Rattle.sv_solo.proofs.TableLemmas.{few_born, length_fated}
use Rattle.sv_solo.proofs.SoloLemmas.{refuses, answers, serves, stands_at, notes_all, made_of}
use Rattle.sv_solo.proofs.solo.Solo.serve.Goals as goal

pub returns-in-Some-clause-step : goal.returns-in-Some-clause-step
returns-in-Some-clause-step g c =
    let m = g.E.Engine.meaning c.args.self.now.engine in
    let xs = c.args.self.now.sessions.items in
    refuses m xs c.args.moment c.args.token c.args.request.now c.in_ok-outcome.outcome c.args.self.now.few (g.met.E.Engine.names_keys c.args.self.now.engine c.requires c.args.request.now)
    (serves m xs c.args.moment c.args.request.now c.as_slice-3.result.now c.as_slice-2.result.now c.names-named.result c.fresh_of-fresh.result _ c.in_ok-outcome.outcome
    c.as_slice-3.ensures.value c.as_slice-2.ensures.value c.names-named.ensures c.fresh_of-fresh.ensures c.session_at-held.ensures c.in_ok-outcome.ensures.outcome)
    (g.E.Engine.heard c.args.self.now.engine) c.in-Some.cause _ _ _ _
    (sym c.in-Some.is ∙ c.no_birth.ensures ∙ ap (λ l. no_birth alone (node_of l).durable c.in_ok-outcome.outcome.birth) c.as_slice-4.ensures.value)
    refl c.in_ok-outcome.ensures.meaning c.in_ok-outcome.ensures.heard
    refl

pub invariant_of-self-2 : goal.invariant_of-self-2
invariant_of-self-2 g c =
    let xs = c.args.self.now.sessions.items in
    let out = c.in_ok-outcome.outcome in
    let place = c.named_place-place.result in
    let behind : c.keep-response.new.sessions.items ≡ born_behind out.birth (fated_at place out.fate xs) =
    made_of xs c.make_room.new.sessions.items c.keep-response.new.sessions.items place out.fate out.birth c.in_ok-make_room.ensures.items c.keep-response.ensures.items in
    let room = sym c.in_default.is ∙ c.no_birth.ensures ∙ ap (λ l. no_birth alone (node_of l).durable out.birth) c.as_slice-4.ensures.value in
    record { few = omega (arith, ap length behind, few_born xs (fated_at place out.fate xs) out.birth c.args.self.now.few room (length_fated xs place out.fate)) }

pub returns-clause-step : goal.returns-clause-step
returns-clause-step g c =
    let m = g.E.Engine.meaning c.args.self.now.engine in
    let xs = c.args.self.now.sessions.items in
    let out = c.in_ok-outcome.outcome in
    let place = c.named_place-place.result in
    answers m xs c.args.moment c.args.token c.args.request.now out c.args.self.now.few (g.met.E.Engine.names_keys c.args.self.now.engine c.requires c.args.request.now)
    (serves m xs c.args.moment c.args.request.now c.as_slice-3.result.now c.as_slice-2.result.now c.names-named.result c.fresh_of-fresh.result _ out
    c.as_slice-3.ensures.value c.as_slice-2.ensures.value c.names-named.ensures c.fresh_of-fresh.ensures c.session_at-held.ensures c.in_ok-outcome.ensures.outcome)
    (g.E.Engine.heard c.args.self.now.engine) place _ _ _ _
    (sym c.in_default.is ∙ c.no_birth.ensures ∙ ap (λ l. no_birth alone (node_of l).durable out.birth) c.as_slice-4.ensures.value)
    (stands_at m xs c.args.moment c.args.request.now c.as_slice.result.now c.names-named.result place c.as_slice.ensures.value c.names-named.ensures c.named_place-place.ensures)
    (made_of xs c.make_room.new.sessions.items c.keep-response.new.sessions.items place out.fate out.birth c.in_ok-make_room.ensures.items c.keep-response.ensures.items)
    (c.tell.ensures.meaning ∙ c.in_ok-outcome.ensures.meaning)
    (c.tell.ensures.heard ∙ notes_all _ _ _ _ _ _ c.in_ok-outcome.ensures.meaning c.in_ok-outcome.ensures.heard (c.as_slice-5.ensures ∙ c.keep-response.ensures.events))
    (ap (λ r. Answer c.args.token r ∷ []) c.keep-response.ensures.response)
