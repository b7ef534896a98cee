use Rattle.sv_host.proofs.Prelude.{◌≡◌, ◌∙◌, None, ap, refl, slice_set, subst, put_holds, same_held, Heard, IsLeftBy, HearsAt}
use Rattle.sv_net.proofs.PlaceLemmas.{nobody_holds}
use Rattle.sv_net.specs.declared.hearing.Heard.TheVariants as heard
use Rattle.sv_host.proofs.HaltLemmas.{halts}
use Rattle.sv_host.proofs.TakeLemmas.{asked, brings, framed, gives_asked, gives_framed, left_as, stays}
use Rattle.sv_host.proofs.serve.take.Goals as goal

pub returns-in-Ok-clause-brings : goal.returns-in-Ok-clause-brings
returns-in-Ok-clause-brings c =
    brings c.args.place c.args.token c.in-Ok.came c.progress_of-in-Ok.result c.progress_of-in-Ok.ensures.same (c.in-Ok.ensures.comes c.args.token)

pub returns-in-Request-clause-brings : goal.returns-in-Request-clause-brings
returns-in-Request-clause-brings c =
    brings c.args.place c.args.token c.ask.result c.progress_of.result c.progress_of.ensures.same c.ask.ensures.comes

-- the request that stands at the front of what has come
pub returns-in-Request-clause-takes : goal.returns-in-Request-clause-takes
returns-in-Request-clause-takes c =
    asked c.args.server.now.peers c.args.server.now.connections.greets c.args.open.state c.begun-socket.result.1 c.args.piece.now c.args.token c.hear.result
    c.in-Request.request c.in-Request.client c.ask.result _ c.progress_of.result
    c.in-Request.is c.progress_of.ensures.same c.begun-socket.ensures.state c.hear.ensures.at refl c.ask.ensures.came

-- what the first frame has
pub returns-in-Ok-clause-takes : goal.returns-in-Ok-clause-takes
returns-in-Ok-clause-takes c =
    framed c.args.server.now.peers c.args.server.now.connections.greets c.args.open.state c.begun-socket.result.1 c.args.piece.now c.args.token c.hear.result
    c.in-Frame.frame c.in-Frame.rest c.in-Ok.came c.progress_of-in-Ok.result
    c.in-Frame.is c.progress_of-in-Ok.ensures.same c.begun-socket.ensures.state c.hear.ensures.at c.in-Ok.ensures.input

-- what isn't whole stands at its place
pub returns-in-More-clause-stays : goal.returns-in-More-clause-stays
returns-in-More-clause-stays c = (
  c.begun-socket.result.1,
  c.in-More.state,
  c.begun-socket.ensures.state,
  subst (λ (h : Heard). HearsAt c.begun-socket.result.1 c.args.piece.now h) c.in-More.is c.hear.ensures.at,
  put_holds (λ held. held.state ≡ c.in-More.state) c.args.place _ c.args.server.now.connections c.put.new.self c.put.ensures.places refl,
)

pub returns-in-Request-clause-stays : goal.returns-in-Request-clause-stays
returns-in-Request-clause-stays c =
    stays c.args.server.now.connections.greets c.args.open.state c.args.piece.now c.args.place c.ask.new.server c.progress_of.result c.progress_of.ensures.ends

pub returns-in-Ok-clause-stays : goal.returns-in-Ok-clause-stays
returns-in-Ok-clause-stays c =
    stays c.args.server.now.connections.greets c.args.open.state c.args.piece.now c.args.place c.take_frame.new.server c.progress_of-in-Ok.result c.progress_of-in-Ok.ensures.ends

-- what is still to be heard
pub returns-in-More-clause-hears : goal.returns-in-More-clause-hears
returns-in-More-clause-hears c = record {
  begun = c.begun-socket.result.1;
  found = c.begun-socket.ensures.state;
  came = c.hear.result;
  hears = c.hear.ensures.at;
  gives = tt;
  left = λ none.
      left_as c.hear.result (heard.More c.in-More.state) c.begun-socket.result.0 c.args.open.socket _ c.in-More.is c.begun-socket.ensures.socket
      (put_holds (λ held. IsLeftBy (heard.More c.in-More.state) c.begun-socket.result.0 held) c.args.place _ c.args.server.now.connections c.put.new.self c.put.ensures.places
      (record { came = refl; went = refl }, refl));
  others = c.put.ensures.others;
}

pub returns-in-Request-clause-hears : goal.returns-in-Request-clause-hears
returns-in-Request-clause-hears c = record {
  begun = c.begun-socket.result.1;
  found = c.begun-socket.ensures.state;
  came = c.hear.result;
  hears = c.hear.ensures.at;
  gives =
      gives_asked c.args.server.now.peers c.args.token c.hear.result c.in-Request.request c.in-Request.client c.ask.result _ c.progress_of.result c.in-Request.is c.progress_of.ensures.same refl
      c.ask.ensures.came;
  left = λ none.
      left_as c.hear.result (heard.Request c.in-Request.client c.in-Request.request) c.begun-socket.result.0 c.args.open.socket _ c.in-Request.is c.begun-socket.ensures.socket (c.ask.ensures.left none);
  others = c.ask.ensures.others;
}

pub returns-in-Refused-clause-hears : goal.returns-in-Refused-clause-hears
returns-in-Refused-clause-hears c = record {
  begun = c.begun-socket.result.1;
  found = c.begun-socket.ensures.state;
  came = c.hear.result;
  hears = c.hear.ensures.at;
  gives = tt;
  left = λ none.
      left_as c.hear.result (heard.Refused c.in-Refused.client c.in-Refused.fault c.in-Refused.head_only) c.begun-socket.result.0 c.args.open.socket _ c.in-Refused.is c.begun-socket.ensures.socket
      (c.refuse.ensures.socket none);
  others = c.refuse.ensures.others;
}

pub returns-in-Ok-clause-hears : goal.returns-in-Ok-clause-hears
returns-in-Ok-clause-hears c = record {
  begun = c.begun-socket.result.1;
  found = c.begun-socket.ensures.state;
  came = c.hear.result;
  hears = c.hear.ensures.at;
  gives =
      gives_framed c.args.server.now.peers c.args.token c.hear.result c.in-Frame.frame c.in-Frame.rest c.in-Ok.came c.progress_of-in-Ok.result c.in-Frame.is c.progress_of-in-Ok.ensures.same
      c.in-Ok.ensures.input;
  left = λ none.
      left_as c.hear.result (heard.Frame c.in-Frame.frame c.in-Frame.rest) c.begun-socket.result.0 c.args.open.socket _ c.in-Frame.is c.begun-socket.ensures.socket (c.in-Ok.ensures.left none);
  others = c.in-Ok.ensures.others;
}

pub returns-in-Greeting-clause-hears : goal.returns-in-Greeting-clause-hears
returns-in-Greeting-clause-hears c = record {
  begun = c.begun-socket.result.1;
  found = c.begun-socket.ensures.state;
  came = c.hear.result;
  hears = c.hear.ensures.at;
  gives = tt;
  left = λ none.
      nobody_holds (λ held. IsLeftBy c.hear.result c.args.open.socket held) (c.greeted.ensures.vacant none);
  others = c.greeted.ensures.others;
}

pub returns-in-Nothing-clause-hears : goal.returns-in-Nothing-clause-hears
returns-in-Nothing-clause-hears c = record {
  begun = c.begun-socket.result.1;
  found = c.begun-socket.ensures.state;
  came = c.hear.result;
  hears = c.hear.ensures.at;
  gives = tt;
  left = λ none. nobody_holds (λ held. IsLeftBy c.hear.result c.args.open.socket held) (same_held c.args.place c.args.server.now.connections c.leave.new.self c.leave.ensures.places ∙ none);
  others = ap (λ xs. slice_set xs c.args.place None) c.leave.ensures.places;
}

-- the command to stop
pub returns-in-Err-clause-told : goal.returns-in-Err-clause-told
returns-in-Err-clause-told c =
    halts c.args.server.now.connections.greets c.args.open c.begun-socket.result.1 c.args.piece.now c.hear.result c.in-Frame.rest c.begun-socket.result.0 c.in-Err.stop c.begun-socket.ensures.state c.hear.ensures.at
    (c.in-Frame.is ∙ ap (λ f. heard.Frame f c.in-Frame.rest) c.in-Err.ensures.told.0) c.begun-socket.ensures.socket c.in-Err.ensures.told.1
