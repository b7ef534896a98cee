use Rattle.std.proofs.Common.{◌≡◌}
use Rattle.std.specs.Prelude.{false}
use Rattle.sv_connection.specs.Connection.{is_single, is_waiting}
use Rattle.sv_solo.specs.Serve.{sight_of}
use Rattle.sv_launch.specs.Once.{IsUnderway}
use Rattle.sv_launch.proofs.stream.once.Given as goal

-- the engine may be called, and so many requests have been served in turn
abbrev pub invariant-loop-count : goal.invariant-loop-count
invariant-loop-count g l = record {
  valid : g.E.Engine.valid l.site.engine;
  single : is_single l.connection ≡ false;
  waiting : is_waiting l.connection ≡ false;
  underway : IsUnderway g.E.Engine.meaning g.E.Engine.heard l.fn.engine l.fn.now (g.R.Read.remaining l.fn.reader) (g.W.Write.contents l.fn.writer) l.count
      (sight_of l.connection (g.R.Read.remaining l.reader) (g.W.Write.contents l.writer) l.site);
}
