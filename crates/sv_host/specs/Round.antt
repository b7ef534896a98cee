-- Which packets of a tick are sent: of the wants in the order in which their requests came, and of the sessions by their keys, those
-- after the last one of theirs that was sent before, and then those from the first one on.
use Rattle.std.specs.Prelude.{◌≡◌, ℕ, ◌+◌, ◌-◌, ◌&&◌, ◌||◌, ◌==◌, Bool, true, false, not, cond, nat_lt, min, List, [], ◌∷◌, ◌++◌, Option, Some, None}
use Rattle.std.specs.List.{sum_by}
use Rattle.sv_model.specs.declared.output.Output.{Output}
use Rattle.sv_model.specs.Outputs.{packet_in}
use Rattle.sv_host.specs.declared.round.Line.{Line}
use Rattle.sv_host.specs.declared.round.Part.{Part}
use Rattle.sv_host.specs.declared.round.Round.{Round}
use Rattle.sv_host.specs.declared.round.TheConstants.{OTHERS, ROUND_LIMIT}
use Rattle.sv_model.specs.declared.packet.Packet.{Packet}
use Rattle.sv_model.specs.declared.packet.Packet.TheVariants.{Want, Grant, Ack, No}
use Rattle.sv_host.specs.declared.round.Rank.{Rank}
use Rattle.sv_host.specs.declared.round.Share.{Share}

abbrev pub left_of : Part → ℕ
left_of p = p.behind + p.front

abbrev pub left_in : Share → ℕ
left_in s = left_of s.wants + left_of s.others

-- it asks for a session
abbrev pub is_want : Packet → Bool
is_want (Want from to k boot want) = true
is_want (Grant from to k e s) = false
is_want (Ack from to k e) = false
is_want (No from to k boot want) = false

-- its place in that order; a tick puts out no others
abbrev pub rank_of : Packet → Rank
rank_of (Want from to k boot want) = record { kind = 0; number = want; node = to }
rank_of (Grant from to k e s) = record { kind = min (k.home + 1) 255; number = k.serial; node = to }
rank_of (Ack from to k e) = record { kind = 255; number = 0; node = 0 }
rank_of (No from to k boot want) = record { kind = 255; number = 0; node = 0 }

abbrev pub is_behind : Rank → Rank → Bool
is_behind a b = nat_lt b.kind a.kind || ((a.kind == b.kind) && (nat_lt b.number a.number || ((a.number == b.number) && nat_lt b.node a.node)))

-- after the last one, if any was sent
abbrev pub is_next : Option Rank → Rank → Bool
is_next None rank = true
is_next (Some last) rank = is_behind rank last

-- one packet, counted in the line of the wants, or in that of the others, where it comes after the last one there, and where it doesn't
abbrev pub is_in : Bool → Packet → Bool
is_in true p = is_want p
is_in false p = not (is_want p)

abbrev pub behind_one : Bool → Option Rank → Packet → ℕ
behind_one wants last p = cond (is_in wants p) (cond (is_next last (rank_of p)) 1 0) 0

abbrev pub front_one : Bool → Option Rank → Packet → ℕ
front_one wants last p = cond (is_in wants p) (cond (is_next last (rank_of p)) 0 1) 0

-- the same of an output
abbrev pub behind_by : Bool → Option Rank → Option Packet → ℕ
behind_by wants last None = 0
behind_by wants last (Some p) = behind_one wants last p

abbrev pub front_by : Bool → Option Rank → Option Packet → ℕ
front_by wants last None = 0
front_by wants last (Some p) = front_one wants last p

-- how many of these packets come after it, and how many don't
abbrev pub behind_in : Bool → Option Rank → List Output → ℕ
behind_in wants last outputs = sum_by (λ o. behind_by wants last (packet_in o)) outputs

abbrev pub front_in : Bool → Option Rank → List Output → ℕ
front_in wants last outputs = sum_by (λ o. front_by wants last (packet_in o)) outputs

-- some places are kept for so many others
abbrev pub most_wants : ℕ → ℕ
most_wants others = ROUND_LIMIT - min others OTHERS

-- the part of a line of which so many come after the last one, and so many don't: those after it, and as many of the others as are then
-- let pass
pub record IsPartOf (line : Line) (after ahead most : ℕ) (part : Part) : Type 0 where
  pub before : part.before ≡ line
  pub last : part.last ≡ line.last
  pub behind : part.behind ≡ min after most
  pub front : part.front ≡ min ahead (most - part.behind)
  pub wraps : part.wraps ≡ nat_lt 0 part.front

-- the share of a tick that puts out these: of the wants all that the others leave places for, and of the others all for which the wants
-- leave some
pub record IsShareOf (round : Round) (outputs : List Output) (share : Share) : Type 0 where
  pub wants : IsPartOf round.wants (behind_in true round.wants.last outputs) (front_in true round.wants.last outputs)
      (most_wants (behind_in false round.others.last outputs + front_in false round.others.last outputs)) share.wants
  pub others : IsPartOf round.others (behind_in false round.others.last outputs) (front_in false round.others.last outputs)
      (ROUND_LIMIT - left_of share.wants) share.others

-- the same of the wants alone
pub record IsShareOfWants (round : Round) (outputs : List Output) (share : Share) : Type 0 where
  pub wants : IsPartOf round.wants (behind_in true round.wants.last outputs) (front_in true round.wants.last outputs) ROUND_LIMIT share.wants
  pub others : IsPartOf round.others 0 0 0 share.others

abbrev pub part_of : Share → Bool → Part
part_of s true = s.wants
part_of s false = s.others

-- a part has some left for a packet: of those after the last one, or of those from the first one on
abbrev pub has_left : Part → Bool → Bool
has_left p true = nat_lt 0 p.behind
has_left p false = nat_lt 0 p.front

-- an output that is no packet is handed on
abbrev pub lets : Share → Option Packet → Bool
lets s None = true
lets s (Some p) = has_left (part_of s (is_want p)) (is_next (part_of s (is_want p)).before.last (rank_of p))

-- a part after a packet that it was asked for: one fewer, if it has some left, and that one is the last, but for those after the
-- last one sent before where some from the first one on are sent too
abbrev pub behind_after : Part → Rank → Part
behind_after p rank = cond (nat_lt 0 p.behind) (record p { behind = p.behind - 1; last = cond p.wraps p.last (Some rank) }) p

abbrev pub front_after : Part → Rank → Part
front_after p rank = cond (nat_lt 0 p.front) (record p { front = p.front - 1; last = Some rank }) p

abbrev pub part_after : Part → Rank → Part
part_after p rank = cond (is_next p.before.last rank) (behind_after p rank) (front_after p rank)

abbrev pub share_after_packet : Bool → Share → Rank → Share
share_after_packet true s rank = record s { wants = part_after s.wants rank }
share_after_packet false s rank = record s { others = part_after s.others rank }

-- a share after an output
abbrev pub share_after : Share → Option Packet → Share
share_after s None = s
share_after s (Some p) = share_after_packet (is_want p) s (rank_of p)

-- where the next tick's packets begin: each line after the last one of its part
abbrev pub round_at : Share → Round
round_at s = record { wants = record { last = s.wants.last }; others = record { last = s.others.last } }

-- a share after all that a tick puts out; what is handed on of it; and the round then
abbrev pub share_end : Share → List Output → Share
share_end s [] = s
share_end s (o ∷ os) = share_end (share_after s (packet_in o)) os

abbrev pub sent_of : Share → List Output → List Output
sent_of s [] = []
sent_of s (o ∷ os) = cond (lets s (packet_in o)) (o ∷ []) [] ++ sent_of (share_after s (packet_in o)) os

abbrev pub round_after : Share → List Output → Round
round_after s outputs = round_at (share_end s outputs)
