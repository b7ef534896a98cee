use Rattle.std.proofs.Common.{◌≡◌, Some, Ok, None, [], append-nil, ap, ◌∙◌}
use Rattle.std.specs.Io.KnownBytes.{prepend_known}
use Rattle.sv_message.specs.Stream.{Stream}
use Rattle.sv_message.specs.Reader.{Gives}
use Rattle.sv_message.specs.declared.request.RawRequest.{RawRequest}
use Rattle.sv_connection.specs.Arrive.{Brings}
use Rattle.sv_connection.specs.Connection.{is_closed, is_leaving, is_single, stand_of}
use Rattle.sv_connection.specs.Receive.{IsDirected}
use Rattle.sv_connection.proofs.DirectLemmas.{received, found, not_found}
use Rattle.sv_connection.proofs.connection.Connection.look.Goals as goal

pub returns-in-Ok-Some-clause-received : goal.returns-in-Ok-Some-clause-received
returns-in-Ok-Some-clause-received c =
    let b : Brings c.args.self.now.requests c.args.piece.now (Ok (Some c.in-Ok-Some.raw)) c.take_in.new.requests = rw c.in-Ok-Some.field-0-is at c.in-Ok-Some.ensures.brings in
    let d : IsDirected (is_single c.args.self.now) c.in-Ok-Some.raw (is_closed c.direct.new.self) c.direct.result = rw c.in-Ok-Some.raw-is at c.direct.ensures.directed in
    received (is_single c.args.self.now) (stand_of c.args.self.now (Some c.args.piece.now)) (stand_of c.direct.new.self (Some [])) c.take_in.new.requests.rest c.in-Ok-Some.raw b.0 c.direct.result
    c.if-self.false b.1 b.2 (ap (λ (s : Stream). prepend_known s.rest (Some [])) c.direct.ensures.requests ∙ ap Some (append-nil c.take_in.new.requests.rest)) d

pub returns-in-Ok-None-clause-found : goal.returns-in-Ok-None-clause-found
returns-in-Ok-None-clause-found c = λ raw text rest was_open message is.
    let given : Gives raw (Ok None) = rw c.in-Ok-None.field-0-is at c.in-Ok-None.ensures.found raw text rest message is in
    absurd given

pub returns-in-Ok-Some-clause-found : goal.returns-in-Ok-Some-clause-found
returns-in-Ok-Some-clause-found c = λ raw text rest was_open message is.
    let d : IsDirected (is_single c.args.self.now) c.in-Ok-Some.raw (is_closed c.direct.new.self) c.direct.result = rw c.in-Ok-Some.raw-is at c.direct.ensures.directed in
    let given : Gives raw (Ok (Some c.in-Ok-Some.raw)) = rw c.in-Ok-Some.field-0-is at c.in-Ok-Some.ensures.found raw text rest message is in
    found (is_single c.args.self.now) raw c.in-Ok-Some.raw (is_closed c.direct.new.self) c.direct.result given d

pub returns-in-Err-clause-found : goal.returns-in-Err-clause-found
returns-in-Err-clause-found c = λ raw text rest was_open message is.
    not_found (is_single c.args.self.now) raw c.in-Err.fault _ (c.in-Err.ensures.found raw text rest message is)

pub returns-in-Ok-Some-clause-asked : goal.returns-in-Ok-Some-clause-asked
returns-in-Ok-Some-clause-asked c = λ raw text rest was_open message is taken.
    let given : Gives raw (Ok (Some c.in-Ok-Some.raw)) = rw c.in-Ok-Some.field-0-is at c.in-Ok-Some.ensures.found raw text rest message is in
    let asked : is_leaving c.direct.new.self ≡ c.in-Ok-Some.raw.close = rw c.in-Ok-Some.raw-is at c.direct.ensures.asked in
    asked ∙ ap (λ (m : RawRequest). m.close) given
