use Rattle.std.proofs.Common.{◌≤◌, List, ℕ, length, sym, subst}
use Rattle.sv_record.proofs.SizeLemmas.{record_size}
use Rattle.sv_record.proofs.laws.a_record_is_an_entry.Goals as goal

pub returns : goal.returns
returns c = λ bytes r spells. subst (λ (l : List ℕ). length l ≤ 524288) (sym spells.is) (record_size spells.version r spells.has)
