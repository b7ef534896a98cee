use Rattle.sv_host.proofs.TurnLemmas.{keeps_places, sends_each, sends_in_time}
use Rattle.sv_host.proofs.laws.each_packet_has_its_turn.Goals as goal

pub returns : goal.returns
returns c = record { turn = sends_each; time = sends_in_time; kept = keeps_places }
