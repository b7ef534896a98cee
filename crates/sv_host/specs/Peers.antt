-- What a node knows of the others, what it says to them, and whose packets are taken.
use Rattle.std.specs.Prelude.{ℕ, ◌+◌, Bool, true, false, cond, not, ◌&&◌, ◌||◌, ◌==◌, min, max, if◌then◌else◌, List, Option, Some, None, is_some, option_map, slice_get, slice_set}
use Rattle.std.specs.List.{fold}
use Rattle.sv_model.specs.Migration.{sender}
use Rattle.sv_model.specs.declared.input.Input.TheVariants as input
use Rattle.sv_model.specs.declared.packet.Packet.{Packet}
use Rattle.sv_record.specs.declared.greeting.Errand.{Errand}
use Rattle.sv_record.specs.declared.greeting.Errand.TheVariants.{Opening, Serving, Answer, Look}
use Rattle.sv_record.specs.declared.greeting.Greeting.{Greeting}
use Rattle.sv_host.specs.Judging.{doubted, fault_of, heard, is_trusted, knew, with_homes}
use Rattle.sv_host.specs.Time.{seconds_of, steady_of}
use Rattle.sv_host.specs.declared.fault.HostFault.{HostFault}
use Rattle.sv_host.specs.declared.group.Asker.TheVariants.{Nobody}
use Rattle.sv_host.specs.declared.group.Came.{Came}
use Rattle.sv_host.specs.declared.judging.Known.{Known}
use Rattle.sv_host.specs.declared.judging.Own.{Own}
use Rattle.sv_host.specs.declared.packets.Packets.TheVariants.{All}
use Rattle.sv_host.specs.declared.peers.Peers.{Peers}
use Rattle.sv_host.specs.declared.time.Time.{Time}

abbrev pub takes_of : Option Known → Bool
takes_of None = true
takes_of (Some known) = is_trusted known.doubt

-- packets of the node of this number are taken
abbrev pub takes : Peers → ℕ → Bool
takes peers node = takes_of (slice_get peers.known node)

-- what comes of a packet
abbrev pub came_of : Peers → Packet → Option Came
came_of peers p = cond (takes peers (sender p)) (Some (record { input = input.Packet p; asker = Nobody; packets = All })) None

abbrev pub or_else : Option HostFault → Option HostFault → Option HostFault
or_else (Some fault) old = Some fault
or_else None old = old

-- why a node may not go on to which this is said, or why it may not anyway
abbrev pub judged : Peers → Own → Greeting → Option HostFault
judged peers own said = or_else (fault_of peers.node own said) peers.fault

-- it greets the node of this number, which is another
abbrev pub greets : Peers → ℕ → Bool
greets peers to = is_some peers.own && not (peers.node == to)

-- what is known of all, with that of one changed
abbrev pub with_one : (Known → Known) → ℕ → List Known → Option Known → List Known
with_one change node all None = all
with_one change node all (Some known) = slice_set all node (change known)

abbrev pub changed : (Known → Known) → ℕ → List Known → List Known
changed change node all = with_one change node all (slice_get all node)

abbrev pub is_look : Errand → Bool
is_look Opening = false
is_look Serving = false
is_look Answer = false
is_look Look = true

-- it is said to this node by another one
abbrev pub is_told : Peers → Greeting → Bool
is_told peers said = (said.to == peers.node) && not (is_look said.errand || (said.from == peers.node))

abbrev pub fault_by : Peers → Greeting → Option Own → Option HostFault
fault_by peers said None = peers.fault
fault_by peers said (Some own) = if is_told peers said then judged peers own said else peers.fault

-- why the node may not go on that has heard this
abbrev pub fault_after : Peers → Greeting → Option HostFault
fault_after peers said = fault_by peers said peers.own

abbrev pub known_by : Peers → Greeting → ℕ → ℕ → Option Own → List Known
known_by peers said clock steady None = peers.known
known_by peers said clock steady (Some own) =
    if is_told peers said then changed (knew said clock steady) said.from (changed (doubted own said steady) said.from peers.known) else peers.known

-- what is known of the others by a node that has heard this
abbrev pub known_after : Peers → Greeting → Time → List Known
known_after peers said time = known_by peers said (seconds_of time) (steady_of time) peers.own

-- below which number the nodes are of whose sessions it has some, or those that have said so of late
abbrev pub all_homes : List Known → ℕ → ℕ → ℕ
all_homes known homes steady = fold (with_homes steady) homes known

abbrev pub heard_of : Option Known → ℕ
heard_of None = 0
heard_of (Some known) = heard known

abbrev pub greeting_by : Peers → ℕ → Time → Own → Greeting
greeting_by peers to time own = record {
  errand = own.errand;
  from = peers.node;
  to = to;
  nodes = own.nodes;
  homes = own.homes;
  all_homes = all_homes peers.known own.homes (steady_of time);
  start = own.start;
  heard = heard_of (slice_get peers.known to);
  clock = seconds_of time;
  contexts = own.contexts;
}

-- what it says to a node
abbrev pub greeting : Peers → ℕ → Time → Option Greeting
greeting peers to time = option_map (greeting_by peers to time) peers.own

abbrev pub as_answer : Greeting → Greeting
as_answer g = record g { errand = Answer }

abbrev pub answer_by : Peers → ℕ → Time → Errand → Option Greeting
answer_by peers to time Opening = option_map as_answer (greeting peers to time)
answer_by peers to time Serving = None
answer_by peers to time Answer = None
answer_by peers to time Look = option_map as_answer (greeting peers to time)

-- what it answers to who has asked
abbrev pub answer : Peers → Greeting → Time → Option Greeting
answer peers said time = answer_by peers said.from time said.errand

abbrev pub opened_by : ℕ → ℕ → Own → Own
opened_by start homes own = record own { start = start; homes = homes }

abbrev pub serving_by : ℕ → ℕ → Own → Own
serving_by node homes own = record own { homes = max homes (min (node + 1) 255); errand = Serving }
