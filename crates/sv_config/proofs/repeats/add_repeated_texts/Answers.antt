use Rattle.sv_config.proofs.Prelude.{◌++◌, ◌∙◌, ap, map, spot}
use Rattle.sv_config.proofs.AgainLemmas.{texts_again}
use Rattle.sv_config.proofs.repeats.add_repeated_texts.Goals as goal

pub returns : goal.returns
returns c = c.in_ok-add_again.ensures ∙ ap (λ all. map spot c.args.places.now.items ++ all) (texts_again c.args.items.now)
