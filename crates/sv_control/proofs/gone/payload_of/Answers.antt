use Rattle.std.proofs.Common.{◌∙◌, ap, ℕ, List, ◌++◌, ◌≤◌, length, subst, sym}
use Rattle.sv_record.specs.declared.version.Version.TheVariants.{Two}
use Rattle.sv_record.specs.Record.{spelling}
use Rattle.sv_record.proofs.SizeLemmas.{record_size}
use Rattle.sv_control.proofs.gone.payload_of.Goals as goal

pub returns-clause-size : goal.returns-clause-size
returns-clause-size c =
    subst (λ (l : List ℕ). length l ≤ 524288) (sym (c.in_ok-write_record.ensures.ok ∙ ap (λ (l : List ℕ). l ++ spelling c.args.entry.now) c.new-bytes.ensures.items)) (record_size Two c.args.entry.now c.in_ok-write_record.ensures.fits)
