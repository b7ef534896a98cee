-- The step that a node takes, by the whole table: from what it keeps, a moment and an input to at most one record, at most one
-- commit, what listeners are told, and what is put out.
use Rattle.sv_model.specs.declared.key.Moment.{Moment}
use Rattle.sv_model.specs.declared.input.Input.{Input}
use Rattle.sv_model.specs.declared.input.Input.TheVariants.{Ask, Packet as Incoming, Poke, Tick, Move}
use Rattle.sv_model.specs.Engine.{EngineMeaning}
use Rattle.sv_model.specs.NodeState.{Setting, Node, known}
use Rattle.sv_model.specs.Decision.{Decision}
use Rattle.sv_model.specs.Waiting.{on_ask, on_poke}
use Rattle.sv_model.specs.Migration.{on_packet, on_move}
use Rattle.sv_model.specs.Time.{on_tick}

abbrev pub decided : EngineMeaning → Setting → Node → Moment → Input → Decision
decided m set n moment (Ask token r) = on_ask m set n moment token r (m.names r)
decided m set n moment (Incoming p) = on_packet m set n moment p
decided m set n moment Poke = on_poke m set n moment
decided m set n moment Tick = on_tick set n moment.now moment.steady
decided m set n moment (Move k to) = on_move set n k to (known n.durable k)
