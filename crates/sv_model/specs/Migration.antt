-- A session that goes from node to node: the packets between them, and the order to move one.
use Rattle.std.specs.Prelude.{ℕ, ◌+◌, ◌==◌, ◌&&◌, ◌||◌, Bool, not, cond, nat_lt, nat_le, Option, Some, None, List, [], ◌∷◌}
use Rattle.sv_model.specs.declared.key.Key.{Key}
use Rattle.sv_model.specs.declared.key.Moment.{Moment}
use Rattle.sv_model.specs.declared.session.Session.{Session}
use Rattle.sv_model.specs.declared.state.KeyState.{KeyState}
use Rattle.sv_model.specs.declared.state.KeyState.TheVariants.{Active, Sent, Gone, Ended}
use Rattle.sv_model.specs.declared.record.Record.TheVariants.{Sent as SentRecord, Taken as TakenRecord, Gone as GoneRecord}
use Rattle.sv_model.specs.declared.event.Event.TheVariants.{Passivate, Activate}
use Rattle.sv_model.specs.declared.packet.Packet.{Packet}
use Rattle.sv_model.specs.declared.packet.Packet.TheVariants.{Want, Grant, Ack, No}
use Rattle.sv_model.specs.declared.output.Output.{Output}
use Rattle.sv_model.specs.declared.output.Output.TheVariants.{Send, Moved, MoveRefused}
use Rattle.sv_model.specs.declared.output.MoveRefusal.{MoveRefusal}
use Rattle.sv_model.specs.declared.output.MoveRefusal.TheVariants.{UnknownKey, NotActive, BadPeer, EpochsSpent}
use Rattle.sv_model.specs.Engine.{EngineMeaning}
use Rattle.sv_model.specs.Keys.{same_key}
use Rattle.sv_model.specs.NodeState.{Setting, Parked, Node, last_number, epoch_in, known, is_unmade, lacks_room}
use Rattle.sv_model.specs.Decision.{Decision, idle, with_record}
use Rattle.sv_model.specs.Waiting.{serve_parked}

-- the session is handed to another node
abbrev pub hands_over : Setting → Node → Key → ℕ → Session → ℕ → List Output → Decision
hands_over set n k e s to more =
    with_record n (SentRecord k (e + 1) to s) k (Sent (e + 1) s to) (Some (record { context = s.context; event = Passivate k }))
    (Send (Grant set.node to k (e + 1) s) ∷ more)

-- there is no such session, as far as this node can tell
abbrev pub says_no : Setting → Node → ℕ → Key → ℕ → ℕ → Decision
says_no set n from k boot want = idle n (Send (No set.node from k boot want) ∷ [])

abbrev pub no_if_unmade : Setting → Node → ℕ → Key → ℕ → ℕ → Decision
no_if_unmade set n from k boot want = cond (is_unmade set n.durable k) (says_no set n from k boot want) (idle n [])

abbrev pub on_want : Setting → Node → ℕ → Key → ℕ → ℕ → Option KeyState → Decision
on_want set n from k boot want None = no_if_unmade set n from k boot want
on_want set n from k boot want (Some (Active e s)) = cond (e == last_number) (idle n []) (hands_over set n k e s from [])
on_want set n from k boot want (Some (Sent e s to)) = cond (to == from) (idle n (Send (Grant set.node from k e s) ∷ [])) (no_if_unmade set n from k boot want)
on_want set n from k boot want (Some (Gone e)) = no_if_unmade set n from k boot want
on_want set n from k boot want (Some (Ended e)) = says_no set n from k boot want

-- the session is taken over
abbrev pub takes_over : Setting → Node → ℕ → Key → ℕ → Session → Decision
takes_over set n from k e s =
    with_record n (TakenRecord k e from s) k (Active e s) (Some (record { context = s.context; event = Activate k })) (Send (Ack set.node from k e) ∷ [])

abbrev pub on_grant : Setting → Node → ℕ → Key → ℕ → Session → Option KeyState → Decision
on_grant set n from k e s st =
    cond (is_unmade set n.durable k) (idle n [])
    (cond (nat_le e (epoch_in st)) (idle n (Send (Ack set.node from k e) ∷ []))
    (cond (lacks_room set n.durable k) (idle n []) (takes_over set n from k e s)))

abbrev pub on_ack : Node → Key → ℕ → Option KeyState → Decision
on_ack n k e None = idle n []
on_ack n k e (Some (Active f s)) = idle n []
on_ack n k e (Some (Sent f s to)) = cond (f == e) (with_record n (GoneRecord k e) k (Gone e) None []) (idle n [])
on_ack n k e (Some (Gone f)) = idle n []
on_ack n k e (Some (Ended f)) = idle n []

abbrev pub is_wanted : Key → ℕ → Parked → Bool
is_wanted k want p = (p.want == want) && same_key p.key k

abbrev pub on_no : EngineMeaning → Setting → Node → Moment → Key → ℕ → ℕ → Decision
on_no m set n moment k boot want = cond (boot == n.durable.boot) (serve_parked m set n moment (is_wanted k want)) (idle n [])

abbrev pub sender : Packet → ℕ
sender (Want from to k boot want) = from
sender (Grant from to k e s) = from
sender (Ack from to k e) = from
sender (No from to k boot want) = from

abbrev pub addressee : Packet → ℕ
addressee (Want from to k boot want) = to
addressee (Grant from to k e s) = to
addressee (Ack from to k e) = to
addressee (No from to k boot want) = to

-- the packet is from another node of the cluster to this one
abbrev pub is_ours : Setting → Packet → Bool
is_ours set p = (addressee p == set.node) && (not (sender p == set.node) && nat_lt (sender p) set.nodes)

abbrev pub on_ours : EngineMeaning → Setting → Node → Moment → Packet → Decision
on_ours m set n moment (Want from to k boot want) = on_want set n from k boot want (known n.durable k)
on_ours m set n moment (Grant from to k e s) = on_grant set n from k e s (known n.durable k)
on_ours m set n moment (Ack from to k e) = on_ack n k e (known n.durable k)
on_ours m set n moment (No from to k boot want) = on_no m set n moment k boot want

abbrev pub on_packet : EngineMeaning → Setting → Node → Moment → Packet → Decision
on_packet m set n moment p = cond (is_ours set p) (on_ours m set n moment p) (idle n [])

-- ---- orders

abbrev pub move_refused : Node → MoveRefusal → Decision
move_refused n why = idle n (MoveRefused why ∷ [])

abbrev pub on_move : Setting → Node → Key → ℕ → Option KeyState → Decision
on_move set n k to None = move_refused n UnknownKey
on_move set n k to (Some (Active e s)) =
    cond ((to == set.node) || nat_le set.nodes to) (move_refused n BadPeer)
    (cond (e == last_number) (move_refused n EpochsSpent) (hands_over set n k e s to (Moved ∷ [])))
on_move set n k to (Some (Sent e s there)) = move_refused n NotActive
on_move set n k to (Some (Gone e)) = move_refused n NotActive
on_move set n k to (Some (Ended e)) = move_refused n NotActive
