use Rattle.sv_world.proofs.Prelude.{◌≡◌, drop, list_any, same_packet}
use Rattle.sv_world.proofs.sent.was_sent.Given as goal

abbrev pub invariant-loop-sent : goal.invariant-loop-sent
invariant-loop-sent l = list_any (same_packet l.packet) (drop l.sent-index l.packets) ≡ list_any (same_packet l.packet) l.packets
