-- All nodes, all packets that were ever sent, and all that has happened; and what an event makes of them.
--
-- A world is a value, and no code stands in it. A node's own step is the table of sv_model's `Node.antt`; here stands what a
-- stop leaves of a step, what a step does of which nothing leaves its node, what a start does, and that a packet is one that
-- was sent. Each clause is a sentence or two:
--     a whole step     its record is durable, listeners are told, its packets are sent        `whole`
--     a torn step      cut after its record, or before it; the node stops                    `torn`, `halt`
--     a silent step    its record is durable, nobody is told, nothing is sent; it runs on     `silent`
--     a stop           what isn't durable is gone                                             `halt`
--     a start          one record, under the next boot number                                 `boots`
-- Read this file with care: what isn't true of real nodes here, no law makes true.
use Rattle.std.specs.Option.{option_map, option_to_list}
use Rattle.std.specs.Prelude.{◌≡◌, ◌≤◌, ⊤, ℕ, ◌+◌, ◌==◌, ◌&&◌, nat_lt, not, is_some, Bool, true, false, cond, Option, Some, None, List, [], ◌∷◌, ◌++◌, map, slice_get}
use Rattle.std.specs.List.{filter_map, flat_map}
use Rattle.sv_model.specs.declared.key.Key.{Key}
use Rattle.sv_model.specs.declared.key.Token.{Token}
use Rattle.sv_model.specs.declared.node.Setting.{Setting}
use Rattle.sv_model.specs.declared.packet.Packet.{Packet}
use Rattle.sv_model.specs.declared.input.Input.TheVariants as input
use Rattle.sv_model.specs.declared.record.Record.{Record}
use Rattle.sv_model.specs.declared.commit.Commit.{Commit}
use Rattle.sv_model.specs.Container.{nothing_stored, Meanings, after}
use Rattle.sv_model.specs.NodeState.{Durable, Node, last_number}
use Rattle.sv_model.specs.Decision.{Decision, left}
use Rattle.sv_model.specs.Serving.{token_of}
use Rattle.sv_model.specs.Migration.{addressee}
use Rattle.sv_model.specs.Node.{decided}
use Rattle.sv_model.specs.Replay.{blank, boot_record, applied}
use Rattle.sv_model.specs.Opening.{Opening, opening_of}
use Rattle.sv_model.specs.Outputs.{sends_in}
use Rattle.sv_model.specs.Trace.{Item, asked_by, reply_in, refusal_in, commits_of, asked_of, times}
use Rattle.sv_world.specs.declared.event.WorldEvent.{WorldEvent}
use Rattle.sv_world.specs.declared.event.WorldEvent.TheVariants.{Ask, Deliver, Poke, Tick, Move, Crash, Torn, Silent, Restart, TornRestart}
use Rattle.sv_world.specs.declared.line.Line.{Line}
use Rattle.sv_world.specs.declared.rules.Rules.{Rules}
use Rattle.sv_world.specs.Rules.{setting_by}
use Rattle.sv_world.specs.declared.call.Call.{Call}
use Rattle.sv_world.specs.Sent.{may_come}

-- what each node is started with, by the node and the number of its start: how many nodes it is told that there are, and its rules
pub record Cluster : Type 0 where
  pub nodes : ℕ → ℕ → ℕ
  pub rules : ℕ → ℕ → Rules

-- the same at all nodes, from start to start
abbrev pub steady : ℕ → Rules → Cluster
steady nodes rules = record { nodes = λ n boot. nodes; rules = λ n boot. rules }

-- the setting of a node, by the number of its start
abbrev pub setting_of : Cluster → ℕ → ℕ → Setting
setting_of c n boot = setting_by (c.rules n boot) n (c.nodes n boot)

-- ---- the world

-- a member: a node, and whether it runs; of one that doesn't run only what is durable is left
pub record Member : Type 0 where
  pub up : Bool
  pub node : Node

-- every node, every packet that was ever sent, in order, and a line for each event, in order
pub record World : Type 0 where
  pub members : ℕ → Member
  pub packets : List Packet
  pub trace : List Line

abbrev pub set_member : (ℕ → Member) → ℕ → Member → ℕ → Member
set_member members n p x = cond (x == n) p (members x)

abbrev pub durable_at : World → ℕ → Durable
durable_at w n = (w.members n).node.durable

-- it doesn't run
abbrev pub stopped : Durable → Member
stopped d = record { up = false; node = record { durable = d; parked = []; next_want = 1 } }

-- it runs, and nothing is parked
abbrev pub started : Durable → Member
started d = record { up = true; node = record { durable = d; parked = []; next_want = 1 } }

-- no journal has a record, and no node runs
abbrev pub nothing_happened : World
nothing_happened = record { members = λ _. stopped blank; packets = []; trace = [] }

-- ---- read off a trace

-- the token of a number at a line's node
abbrev pub token_at : Line → ℕ → Token
token_at l number = record { number = number; node = l.node; boot = l.boot }

-- a line, as what a step of a node has done
abbrev pub item_at : Line → Item
item_at l =
    record {
      asked = l.asked;
      commit = l.commit;
      events = l.events;
      replies = filter_map (reply_in (token_at l)) l.outputs;
      refused = filter_map (refusal_in (token_at l)) l.outputs;
    }

abbrev pub items : List Line → List Item
items trace = map item_at trace

-- the commits of all nodes, in the order in which they became durable
abbrev pub commits_in : World → List Commit
commits_in w = commits_of (items w.trace)

-- a node's journal
abbrev pub records_at : ℕ → List Line → List Record
records_at n trace = flat_map (λ l. cond (l.node == n) (option_to_list l.entry) []) trace

-- the sessions with which records opened an epoch of their key
abbrev pub openings_of : List Line → List Opening
openings_of trace = flat_map (λ l. option_to_list (opening_of l.entry)) trace

-- ---- a step of a node

-- the step that an event asks for; none where it asks for none, or delivers a packet that was never sent
abbrev pub call_of : List Packet → WorldEvent → Option Call
call_of sent (Ask n moment token r) = Some (record { node = n; moment = moment; input = input.Ask token r })
call_of sent (Deliver moment place) =
    option_map (λ p. record { node = addressee p; moment = moment; input = input.Packet p }) (slice_get sent place)
call_of sent (Poke n moment) = Some (record { node = n; moment = moment; input = input.Poke })
call_of sent (Tick n moment) = Some (record { node = n; moment = moment; input = input.Tick })
call_of sent (Move n moment k to) = Some (record { node = n; moment = moment; input = input.Move k to })
call_of sent (Torn n moment given kept) = Some (record { node = n; moment = moment; input = given })
call_of sent (Silent n moment given) = Some (record { node = n; moment = moment; input = given })
call_of sent (Crash n) = None
call_of sent (Restart n) = None
call_of sent (TornRestart n kept) = None

abbrev pub decision : Meanings → Cluster → World → Call → Decision
decision m c w call =
    let boot = (durable_at w call.node).boot in
    decided (m call.node boot) (setting_of c call.node boot) (w.members call.node).node call.moment call.input

-- the token of a request that comes with a step
abbrev pub token_of_call : Cluster → World → Call → Option Token
token_of_call c w call = asked_by (token_of (setting_of c call.node (durable_at w call.node).boot) (durable_at w call.node)) call.input

-- a token is used once
abbrev pub is_unused : List Token → Option Token → Bool
is_unused used None = true
is_unused used (Some t) = times t used == 0

-- a start is told of its own node
abbrev pub is_there : Cluster → ℕ → ℕ → Bool
is_there c n boot = nat_lt n (c.nodes n boot)

-- the node is there and runs, a packet was sent, and a request comes under a token of its own
abbrev pub is_ready : Cluster → World → Call → Bool
is_ready c w call =
    is_there c call.node (durable_at w call.node).boot && ((w.members call.node).up
    && (may_come w.packets call.input && is_unused (asked_of (items w.trace)) (token_of_call c w call)))

-- ---- what an event does

-- the line of an event at a node that puts nothing out and tells nothing
abbrev pub quiet_line : World → WorldEvent → ℕ → Option Token → Option Record → Option Commit → Line
quiet_line w e n asked entry commit =
    record {
      event = e;
      node = n;
      boot = (durable_at w n).boot;
      whole = false;
      asked = asked;
      entry = entry;
      commit = commit;
      events = [];
      mark = None;
      outputs = [];
    }

-- the line of a whole step
abbrev pub whole_line : Cluster → World → WorldEvent → Call → Decision → Line
whole_line c w e call d =
    record {
      event = e;
      node = call.node;
      boot = (durable_at w call.node).boot;
      whole = true;
      asked = token_of_call c w call;
      entry = d.entry;
      commit = d.commit;
      events = d.events;
      mark = d.mark;
      outputs = d.outputs;
    }

-- a whole step
abbrev pub whole : Cluster → World → WorldEvent → Call → Decision → World
whole c w e call d =
    record {
      members = set_member w.members call.node (record { up = true; node = left d });
      packets = w.packets ++ sends_in d.outputs;
      trace = w.trace ++ whole_line c w e call d ∷ [];
    }

-- a torn step whose record is kept
abbrev pub torn : Cluster → World → WorldEvent → Call → Decision → World
torn c w e call d =
    record {
      members = set_member w.members call.node (stopped d.durable);
      packets = w.packets;
      trace = w.trace ++ quiet_line w e call.node (token_of_call c w call) d.entry d.commit ∷ [];
    }

-- a commit that is kept with its record alone: what a step does without one leaves nothing where its answer doesn't leave
abbrev pub commit_with : Option Record → Option Commit → Option Commit
commit_with None commit = None
commit_with (Some entry) commit = commit

-- a silent step
abbrev pub silent : Cluster → World → WorldEvent → Call → Decision → World
silent c w e call d =
    record {
      members = set_member w.members call.node (record { up = true; node = left d });
      packets = w.packets;
      trace = w.trace ++ quiet_line w e call.node (token_of_call c w call) d.entry (commit_with d.entry d.commit) ∷ [];
    }

-- a node becomes another, by a record that isn't of a step or by none
abbrev pub becomes : World → WorldEvent → ℕ → Member → Option Record → Option Token → World
becomes w e n p entry asked =
    record {
      members = set_member w.members n p;
      packets = w.packets;
      trace = w.trace ++ quiet_line w e n asked entry None ∷ [];
    }

-- a node stops, or stays stopped
abbrev pub halt : World → WorldEvent → ℕ → Option Token → World
halt w e n asked = becomes w e n (stopped (durable_at w n)) None asked

-- a node's record of its start
abbrev pub record_of_start : Cluster → World → ℕ → Record
record_of_start c w n = boot_record (setting_of c n ((durable_at w n).boot + 1)) (durable_at w n)

abbrev pub boots : Cluster → World → WorldEvent → ℕ → (Durable → Member) → World
boots c w e n member =
    becomes w e n (member (applied (record_of_start c w n) (durable_at w n))) (Some (record_of_start c w n)) None

-- the boot numbers of a node are used up
abbrev pub is_spent : World → ℕ → Bool
is_spent w n = (durable_at w n).boot == last_number

abbrev pub steps : Meanings → Cluster → World → WorldEvent → Option Call → World
steps m c w e None = w
steps m c w e (Some call) = cond (is_ready c w call) (whole c w e call (decision m c w call)) w

-- a commit is kept only with its record: what a step does without one leaves nothing where it is cut
abbrev pub tears : Meanings → Cluster → World → WorldEvent → Bool → Option Call → World
tears m c w e kept None = w
tears m c w e kept (Some call) =
    let d = decision m c w call in
    cond (is_ready c w call) (cond (kept && is_some d.entry) (torn c w e call d) (halt w e call.node (token_of_call c w call))) w

-- a silent step; the node runs on. So several steps that are made durable at once, after which a
-- stop falls before anything of them has left, are as many silent steps and a stop.
abbrev pub silences : Meanings → Cluster → World → WorldEvent → Option Call → World
silences m c w e None = w
silences m c w e (Some call) = cond (is_ready c w call) (silent c w e call (decision m c w call)) w

-- a start, that leaves the node running (`started`) or stopped, with its record or without
abbrev pub starts : Cluster → World → WorldEvent → ℕ → Bool → (Durable → Member) → World
starts c w e n kept member =
    cond (is_there c n ((durable_at w n).boot + 1) && not (w.members n).up)
    (cond (kept && not (is_spent w n)) (boots c w e n member) (halt w e n None)) w

-- an event that can't happen changes nothing
abbrev pub happens : Meanings → Cluster → World → WorldEvent → World
happens m c w (Ask n moment token r) = steps m c w (Ask n moment token r) (call_of w.packets (Ask n moment token r))
happens m c w (Deliver moment place) = steps m c w (Deliver moment place) (call_of w.packets (Deliver moment place))
happens m c w (Poke n moment) = steps m c w (Poke n moment) (call_of w.packets (Poke n moment))
happens m c w (Tick n moment) = steps m c w (Tick n moment) (call_of w.packets (Tick n moment))
happens m c w (Move n moment k to) = steps m c w (Move n moment k to) (call_of w.packets (Move n moment k to))
happens m c w (Torn n moment given kept) = tears m c w (Torn n moment given kept) kept (call_of w.packets (Torn n moment given kept))
happens m c w (Silent n moment given) = silences m c w (Silent n moment given) (call_of w.packets (Silent n moment given))
happens m c w (Crash n) = cond (is_there c n (durable_at w n).boot && (w.members n).up) (halt w (Crash n) n None) w
happens m c w (Restart n) = starts c w (Restart n) n true started
happens m c w (TornRestart n kept) = starts c w (TornRestart n kept) n kept stopped

-- all of them, one after the other
abbrev pub run : Meanings → Cluster → World → List WorldEvent → World
run m c w [] = w
run m c w (e ∷ es) = run m c (happens m c w e) es

-- ---- nodes that are added, or taken away at the end

-- no session lives that was made at a node of which a node that runs wasn't told; such a node takes its key for one that never was
abbrev pub KnowsAll : Meanings → Cluster → World → Type 0
KnowsAll m c w =
    (x : ℕ) (k : Key) → (w.members x).up ≡ true → c.nodes x (durable_at w x).boot ≤ k.home
    → (after m nothing_stored (commits_in w)).map k ≡ None

-- that holds before each of these events
abbrev pub AlwaysKnows : Meanings → Cluster → World → List WorldEvent → Type 0
AlwaysKnows m c w [] = ⊤
AlwaysKnows m c w (e ∷ es) = KnowsAll m c w × AlwaysKnows m c (happens m c w e) es
