-- Which of the packets that a step puts out are sent.
use Rattle.std.specs.Prelude.{◌≡◌, Bool, true, cond, is_none, List, [], ◌∷◌, ◌++◌}
use Rattle.sv_model.specs.declared.output.Output.{Output}
use Rattle.sv_model.specs.Outputs.{packet_in}
use Rattle.sv_host.specs.declared.packets.Packets.{Packets}
use Rattle.sv_host.specs.declared.packets.Packets.TheVariants as packets
use Rattle.sv_host.specs.declared.packets.Sending.{Sending}
use Rattle.sv_host.specs.declared.packets.Sending.TheVariants.{All, Share, Nothing}
use Rattle.sv_host.specs.declared.round.Round.{Round}
use Rattle.sv_host.specs.Round.{lets, round_at, share_after, IsShareOf, IsShareOfWants}

-- how many of these are still to be sent: all, those of the share that begins after this round, its wants alone, or none
abbrev pub IsSending : Packets → Round → List Output → Sending → Type 0
IsSending packets.All round outputs sending = sending ≡ All
IsSending packets.InTurn round outputs All = ⊥
IsSending packets.InTurn round outputs (Share share) = IsShareOf round outputs share
IsSending packets.InTurn round outputs Nothing = ⊥
IsSending packets.Wants round outputs All = ⊥
IsSending packets.Wants round outputs (Share share) = IsShareOfWants round outputs share
IsSending packets.Wants round outputs Nothing = ⊥
IsSending packets.Nothing round outputs sending = sending ≡ Nothing

-- whether an output is handed on: always, if the share lets it pass, or if it is no packet
abbrev pub passes : Sending → Output → Bool
passes All output = true
passes (Share share) output = lets share (packet_in output)
passes Nothing output = is_none (packet_in output)

abbrev pub Passes : Sending → Output → Bool → Type 0
Passes sending output taken = taken ≡ passes sending output

-- what is still to be sent after an output, and after all of them; and what is handed on of these
abbrev pub sending_after : Sending → Output → Sending
sending_after All output = All
sending_after (Share share) output = Share (share_after share (packet_in output))
sending_after Nothing output = Nothing

abbrev pub sending_end : Sending → List Output → Sending
sending_end sending [] = sending
sending_end sending (o ∷ os) = sending_end (sending_after sending o) os

abbrev pub sent_by : Sending → List Output → List Output
sent_by sending [] = []
sent_by sending (o ∷ os) = cond (passes sending o) (o ∷ []) [] ++ sent_by (sending_after sending o) os

-- where the next tick's packets begin then: where they would have, but after packets that are sent in turn
abbrev pub round_left : Round → Sending → Round
round_left round All = round
round_left round (Share share) = round_at share
round_left round Nothing = round

-- the round after all outputs of a step
abbrev pub LeavesRound : Packets → Round → List Output → Round → Type 0
LeavesRound packets old outputs new = (sending : Sending) × IsSending packets old outputs sending × (new ≡ round_left old (sending_end sending outputs))
