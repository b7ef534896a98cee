use Rattle.sv_config.proofs.Prelude.{◌∙◌, rule_of}
use Rattle.std.specs.Prelude.{bytes_eq}
use Rattle.sv_config.proofs.DocumentLemmas.{list_any_map}
use Rattle.sv_config.proofs.keys.has_rule.Goals as goal

pub returns : goal.returns
returns c = c.has_key.ensures ∙ list_any_map (λ rule. bytes_eq rule.key c.args.key.now) rule_of c.args.rules.now
