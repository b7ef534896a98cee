use Rattle.sv_dispatch.proofs.Prelude.{refl}
use Rattle.std.proofs.Common.{rules}
use Rattle.sv_dispatch.proofs.StepLemmas.{starts, starts_running, ends, no_frames}
use Rattle.sv_dispatch.proofs.stack.run_from.Goals as goal

pub loop-mode-init : goal.loop-mode-init
loop-mode-init g c = record {
  same = refl;
  running = starts_running _ _ _ c.new-frames.ensures.items c.requires.mode c.requires.need;
  whole = starts _ _ _ _ _ c.new-frames.ensures.items;
}

pub returns-in-Leave-clause-outcome : goal.returns-in-Leave-clause-outcome
returns-in-Leave-clause-outcome g c = ends _ _ _ _ _ _ _ (no_frames _ _ c.loop-mode.frames.ok.0 (search rules)) c.in-Leave.is c.loop-mode.invariant.whole
