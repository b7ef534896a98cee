use Rattle.sv_config.proofs.Prelude.{◌∙◌, ap, map, List, ℕ, Bor}
use Rattle.sv_mapping.specs.Dispatcher.{dispatchers_of}
use Rattle.sv_config.proofs.mappings.dispatchers_of.Goals as goal

pub returns : goal.returns
returns c =
    let shown : Bor (List ℕ) → List ℕ = λ word. word.now in
    c.of_words.ensures ∙ ap dispatchers_of (ap (map shown) c.deref.ensures.value ∙ c.in_ok-words.ensures)
