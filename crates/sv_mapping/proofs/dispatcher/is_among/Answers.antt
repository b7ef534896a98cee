use Rattle.sv_mapping.proofs.Prelude.{◌∙◌, List, ℕ}
use Rattle.std.proofs.Common.{bytes_eq, Bor}
use Rattle.sv_mapping.proofs.TestLemmas.{list_any_map}
use Rattle.sv_mapping.proofs.dispatcher.is_among.Goals as goal

pub returns : goal.returns
returns c =
    let shown : Bor (List ℕ) → List ℕ = λ its. its.now in
    c.has_equal.ensures ∙ list_any_map (λ its. bytes_eq its c.args.word.now) shown c.args.words.now
