-- When the turn comes to a packet: steps one after the other, what their ticks put out of a line, and what is sent of it.
use Rattle.std.specs.Prelude.{◌≡◌, ℕ, ◌*◌, ◌-◌, ◌≤◌, ◌&&◌, ◌||◌, ◌==◌, Bool, true, false, not, cond, min, length, List, [], ◌∷◌, ◌++◌, Option, Some, None, IsTrue, sum_by, count_by}
use Rattle.std.specs.List.{AllByRecursion}
use Rattle.sv_model.specs.declared.output.Output.{Output}
use Rattle.sv_model.specs.declared.packet.Packet.{Packet}
use Rattle.sv_model.specs.Outputs.{packet_in}
use Rattle.sv_host.specs.declared.packets.Packets.{Packets}
use Rattle.sv_host.specs.declared.packets.Packets.TheVariants.{All, InTurn, Wants, Nothing}
use Rattle.sv_host.specs.declared.packets.Sending.{Sending}
use Rattle.sv_host.specs.declared.round.Rank.{Rank}
use Rattle.sv_host.specs.declared.round.Round.{Round}
use Rattle.sv_host.specs.declared.round.TheConstants.{OTHERS, ROUND_LIMIT}
use Rattle.sv_host.specs.Packets.{IsSending, round_left, sending_end, sent_by}
use Rattle.sv_host.specs.Round.{is_behind, is_in, rank_of}

-- the places in the order of the wants that are put out, or of the others
abbrev pub ranks_by : Bool → Option Packet → List Rank
ranks_by wants None = []
ranks_by wants (Some p) = cond (is_in wants p) (rank_of p ∷ []) []

abbrev pub ranks_in : Bool → List Output → List Rank
ranks_in wants [] = []
ranks_in wants (o ∷ os) = ranks_by wants (packet_in o) ++ ranks_in wants os

-- each is after those in front of it, so that none is there twice
abbrev pub IsRising : List Rank → Type 0
IsRising [] = Unit {0}
IsRising (r ∷ rs) = AllByRecursion (λ s. IsTrue (is_behind s r)) rs × IsRising rs

abbrev pub is_same : Rank → Rank → Bool
is_same a b = (a.kind == b.kind) && ((a.number == b.number) && (a.node == b.node))

abbrev pub stands_in : Rank → List Rank → Bool
stands_in rank [] = false
stands_in rank (r ∷ rs) = is_same rank r || stands_in rank rs

-- a step: what it puts out, which of its packets are sent, and how many are to be sent
pub record Step : Type 0 where
  pub outputs : List Output
  pub packets : Packets
  pub sending : Sending

-- each of them sends of the round that those in front of it have left
abbrev pub AreInTurn : Round → List Step → Type 0
AreInTurn round [] = Unit {0}
AreInTurn round (s ∷ ss) = IsSending s.packets round s.outputs s.sending × AreInTurn (round_left round (sending_end s.sending s.outputs)) ss

-- a tick of a line: one of which its packets are sent in turn
abbrev pub is_tick : Bool → Packets → Bool
is_tick true All = false
is_tick true InTurn = true
is_tick true Wants = true
is_tick true Nothing = false
is_tick false All = false
is_tick false InTurn = true
is_tick false Wants = false
is_tick false Nothing = false

-- so many places of a tick are its line's at least: all but those that are kept for the other line, as far as that has packets for them
abbrev pub places_in : Bool → Packets → List Output → ℕ
places_in true All outputs = 0
places_in true InTurn outputs = ROUND_LIMIT - min (length (ranks_in false outputs)) OTHERS
places_in true Wants outputs = ROUND_LIMIT
places_in true Nothing outputs = 0
places_in false All outputs = 0
places_in false InTurn outputs = ROUND_LIMIT - min (length (ranks_in true outputs)) (ROUND_LIMIT - OTHERS)
places_in false Wants outputs = 0
places_in false Nothing outputs = 0

abbrev pub places_of : Bool → Step → ℕ
places_of wants s = places_in wants s.packets s.outputs

-- a line is put out in order, of which one is the packet at this place, and each is one of these
pub record PutsOut (wants : Bool) (ranks : List Rank) (rank : Rank) (outputs : List Output) : Type 0 where
  pub rising : IsRising (ranks_in wants outputs)
  pub among : AllByRecursion (λ r. IsTrue (stands_in r ranks)) (ranks_in wants outputs)
  pub it : IsTrue (stands_in rank (ranks_in wants outputs))

-- each tick of the line does so
abbrev pub TicksPutOut : Bool → List Rank → Rank → List Step → Type 0
TicksPutOut wants ranks rank steps = AllByRecursion (λ s. IsTrue (is_tick wants s.packets) → PutsOut wants ranks rank s.outputs) steps

-- one of the steps sends the packet at this place
abbrev pub is_sent_of : Bool → Rank → List Step → Bool
is_sent_of wants rank [] = false
is_sent_of wants rank (s ∷ ss) = stands_in rank (ranks_in wants (sent_by s.sending s.outputs)) || is_sent_of wants rank ss

-- if the ticks of a line among steps have together as many places for it as it has packets, each counted once however many of them put
-- it out, each that all of them put out is sent; what packets come or go between them is all the same
abbrev pub SendsEachInTurn : Type 0
SendsEachInTurn = (wants : Bool) (ranks : List Rank) (rank : Rank) (round : Round) (steps : List Step) → AreInTurn round steps
    → TicksPutOut wants ranks rank steps → IsTrue (stands_in rank ranks) → length ranks ≤ sum_by (λ s. places_of wants s) steps
    → IsTrue (is_sent_of wants rank steps)

-- so it is by as many ticks as the line's packets by the places that each of them has for it at least, rounded up
abbrev pub SendsEachInTime : Type 0
SendsEachInTime = (wants : Bool) (most : ℕ) (ranks : List Rank) (rank : Rank) (round : Round) (steps : List Step) → AreInTurn round steps
    → TicksPutOut wants ranks rank steps → IsTrue (stands_in rank ranks)
    → AllByRecursion (λ s. IsTrue (is_tick wants s.packets) → most ≤ places_of wants s) steps
    → length ranks ≤ count_by (λ s. is_tick wants s.packets) steps * most → IsTrue (is_sent_of wants rank steps)

-- those are 96 of wants, and 32 of others; and all for a line beside which nothing is put out
abbrev pub kept_for : Bool → ℕ
kept_for true = ROUND_LIMIT - OTHERS
kept_for false = OTHERS

pub record KeepsPlaces : Type 0 where
  pub some : (wants : Bool) (s : Step) → IsTrue (is_tick wants s.packets) → kept_for wants ≤ places_of wants s
  pub all : (wants : Bool) (s : Step) → IsTrue (is_tick wants s.packets) → ranks_in (not wants) s.outputs ≡ [] → places_of wants s ≡ ROUND_LIMIT
