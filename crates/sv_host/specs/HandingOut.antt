-- What is told of what a node puts out, and to whom.
use Rattle.std.specs.Prelude.{◌≡◌, ℕ, ◌+◌, Bool, List, [], ◌∷◌, Vec, Option, Some, None, IfSome, Result, Ok, Err, map, slice_get, vec_items}
use Rattle.std.specs.declared.alloc.Global.{Global}
use Rattle.sv_host.specs.Group.{inputs_of, ways_of}
use Rattle.sv_host.specs.Outcome.{group_taken}
use Rattle.sv_model.specs.Cause.{cause_of}
use Rattle.sv_host.specs.Parked.{clients_of, place_under, without}
use Rattle.sv_host.specs.Time.{seconds_of}
use Rattle.sv_host.specs.declared.group.Asker.{Asker}
use Rattle.sv_host.specs.declared.group.Asker.TheVariants.{Client, Command, Nobody}
use Rattle.sv_host.specs.declared.group.Group.{Group}
use Rattle.sv_host.specs.declared.group.Way.{Way}
use Rattle.sv_host.specs.declared.packets.Packets.TheVariants.{All}
use Rattle.sv_host.specs.declared.fault.Stop.{Stop}
use Rattle.sv_host.specs.declared.outcome.Taken.{Taken}
use Rattle.sv_host.specs.declared.server.Server.{Server}
use Rattle.sv_model.specs.Engine.{EngineMeaning}
use Rattle.sv_model.specs.Migration.{addressee}
use Rattle.sv_model.specs.Site.{with_list}
use Rattle.sv_model.specs.declared.output.Output.{Output}
use Rattle.sv_model.specs.declared.output.Output.TheVariants.{Answer, Refuse, Send, Moved, MoveRefused}
use Rattle.sv_model.specs.declared.site.StepFault.{StepFault}
use Rattle.sv_node.specs.Group.{GroupEnds}
use Rattle.sv_node.specs.declared.node.Node.{Node}
use Rattle.sv_net.specs.declared.connections.Connections.{Connections}
use Rattle.sv_net.specs.declared.open.Open.{Open}
use Rattle.sv_net.specs.Exchange.{GoOnBut, ObeysThere}
use Rattle.sv_net.specs.Places.{HasStood, Spares, SparesClients, TellsAt, elsewhere, held_at, naming_of, places_of}
use Rattle.sv_net.specs.Saying.{Answers, Tells, refused_as}
use Rattle.sv_net.specs.Sending.{Sends}
use Rattle.sv_record.specs.Frame.{spelling}
use Rattle.sv_record.specs.declared.frame.Frame.TheVariants.{Peer}

-- nothing has changed at any place but this one
abbrev pub SameElsewhere : Option ℕ → Connections → Connections → Type 0
SameElsewhere None old new = places_of new ≡ places_of old
SameElsewhere (Some place) old new = elsewhere place new ≡ elsewhere place old

-- whoever waits under a number at this place was told something, by how it wants a refusal, or its connection is closed
abbrev pub IsToldAt : Option ℕ → ℕ → (Bool × Bool → Open → Open → Type 0) → Connections → Connections → Type 0
IsToldAt at number told old new = IfSome at (λ place. TellsAt place number told old new)

-- the same of the client that waits under it, which waits no more; nobody else is told anything
abbrev pub TellsOne : ℕ → (Bool × Bool → Open → Open → Type 0) → Server → Server → Type 0
TellsOne number told old new =
    (clients_of new.parked ≡ without number (clients_of old.parked))
    × IsToldAt (place_under number (clients_of old.parked)) number told old.connections new.connections
    × SameElsewhere (place_under number (clients_of old.parked)) old.connections new.connections

-- nobody is told anything
abbrev pub TellsNobody : Server → Server → Type 0
TellsNobody old new = (clients_of new.parked ≡ clients_of old.parked) × (places_of new.connections ≡ places_of old.connections)

-- what is handed on of one output: an answer and a refusal to the client that waits for it, a packet to its node
abbrev pub HandsOn : Output → ℕ → Server → Server → Type 0
HandsOn (Answer number response) now old new = TellsOne number (λ _ was held. Tells response now was held) old new
HandsOn (Refuse number cause) now old new = TellsOne number (λ manner was held. Answers (refused_as (naming_of old.connections) cause manner) now was held) old new
HandsOn (Send packet) now old new =
    (clients_of new.parked ≡ clients_of old.parked) × Spares old.connections new.connections
    × Sends (addressee packet) (spelling (Peer packet)) old.connections new.connections
HandsOn Moved now old new = TellsNobody old new
HandsOn (MoveRefused why) now old new = TellsNobody old new

-- the same of each of them, in order
abbrev pub HandsOnAll : List Output → ℕ → Server → Server → Type 0
HandsOnAll [] now old new = TellsNobody old new
HandsOnAll (output ∷ outputs) now old new = (mid : Server) × HandsOn output now old mid × HandsOnAll outputs now mid new

-- whoever gave a command at this place is told a byte, once, or its connection is closed; nobody else is told anything
abbrev pub Commands : ℕ → Server → Server → Type 0
Commands place old new =
    (clients_of new.parked ≡ clients_of old.parked) × SparesClients old.connections new.connections
    × ((byte : ℕ) × GoOnBut place (ObeysThere byte (held_at old.connections place)) old.connections new.connections)

-- after the outputs of a step: whoever gave a command is told, and a client that waits is watched from now on, or its connection is
-- closed
abbrev pub Concludes : Asker → Server → Server → Type 0
Concludes (Client place number) old new =
    (clients_of new.parked ≡ clients_of old.parked) × HasStood place old.connections new.connections
    × (elsewhere place new.connections ≡ elsewhere place old.connections)
Concludes (Command place) old new = Commands place old new
Concludes Nobody old new = TellsNobody old new

-- of a step that was refused: the client that has asked is refused by the fault's cause
abbrev pub ConcludesRefused : Asker → StepFault → ℕ → Server → Server → Type 0
ConcludesRefused (Client place number) fault now old new =
    TellsOne number (λ manner was held. Answers (refused_as (naming_of old.connections) (cause_of fault) manner) now was held) old new
ConcludesRefused (Command place) fault now old new = Commands place old new
ConcludesRefused Nobody fault now old new = TellsNobody old new

-- what came of one input
abbrev pub HandsOut : Asker → Result (Vec Output Global) StepFault → ℕ → Server → Server → Type 0
HandsOut asker (Ok outputs) now old new =
    (start mid : Server) × TellsNobody old start × HandsOnAll outputs.items now start mid × Concludes asker mid new
HandsOut asker (Err fault) now old new = ConcludesRefused asker fault now old new

-- of the inputs of a group, from the one at a place on: each goes to whoever asked for it
abbrev pub way_in : Option Way → Way
way_in None = record { asker = Nobody; packets = All }
way_in (Some way) = way

abbrev pub way_at : List Way → ℕ → Way
way_at ways at = way_in (slice_get ways at)

abbrev pub HandsOutFrom : ℕ → List Way → List (Result (Vec Output Global) StepFault) → ℕ → Server → Server → Type 0
HandsOutFrom at ways [] now old new = TellsNobody old new
HandsOutFrom at ways (answer ∷ answers) now old new =
    (mid : Server) × HandsOut (way_at ways at).asker answer now old mid × HandsOutFrom (at + 1) ways answers now mid new

-- of a group of which no step was taken
abbrev pub RefusesAll : List Way → StepFault → ℕ → Server → Server → Type 0
RefusesAll [] fault now old new = TellsNobody old new
RefusesAll (way ∷ ways) fault now old new = (mid : Server) × ConcludesRefused way.asker fault now old mid × RefusesAll ways fault now mid new

-- of a group; where its disk has failed nobody is told anything, since its records may be there
abbrev pub HandsOutGroup : {T F : Type 0} → List Way → Result (Vec (Result (Vec Output Global) StepFault) Global) StepFault → Result T F → ℕ → Server → Server → Type 0
HandsOutGroup ways (Ok answers) result now old new = HandsOutFrom 0 ways answers.items now old new
HandsOutGroup ways (Err fault) (Ok taken) now old new = RefusesAll ways fault now old new
HandsOutGroup ways (Err fault) (Err stop) now old new = TellsNobody old new

-- a group was given to the node, and what came of it was told
pub record IsHandedOut {E D : Type 0} (meaning : E → EngineMeaning) (heard : E → List (List ℕ)) (failed : D → ℕ) (old new : Node E D) (group : Group)
    (server next : Server) (result : Result Taken Stop) : Type 0 where
  pub answers : Result (Vec (Result (Vec Output Global) StepFault) Global) StepFault
  pub ends : GroupEnds meaning heard failed old (inputs_of group) (with_list (λ a. map (with_list vec_items) a.items) answers) new
  pub start : Server
  pub clients : clients_of start.parked ≡ clients_of server.parked
  pub told : HandsOutGroup (ways_of group) answers result (seconds_of start.time) start next
  pub taken : result ≡ group_taken answers
