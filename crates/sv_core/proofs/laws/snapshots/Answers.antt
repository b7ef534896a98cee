use Rattle.sv_core.proofs.Prelude.{Blank, blank, replayed, staged}
use Rattle.sv_core.proofs.SoundLemmas.{sound_blank, sound_replayed}
use Rattle.sv_core.proofs.SnapshotLemmas.{snapshot_fits, snapshot_gives, snapshot_stage}
use Rattle.sv_core.proofs.laws.snapshots.Goals as goal

pub returns : goal.returns
returns c = λ set records fit. let d = replayed blank records in
    record {
      fits = snapshot_fits set (staged Blank records) d (sound_replayed set Blank blank (sound_blank set) records fit);
      gives = snapshot_gives d;
      stage = snapshot_stage d;
    }
