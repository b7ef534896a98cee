use Rattle.sv_mapping.proofs.Prelude.{◌≡◌, map, string_bytes, rules, chosen_context}
use Rattle.sv_mapping.proofs.ContextLemmas.{chosen_facts}
use Rattle.sv_mapping.proofs.context.choose_context.Goals as goal

pub returns-clause-chosen : goal.returns-clause-chosen
returns-clause-chosen c =
    let value : c.loop-place.chosen ≡ chosen_context (map string_bytes c.args.contexts.now) c.args.path.now = search rules in
    (chosen_facts c.args.path.now (map string_bytes c.args.contexts.now) c.loop-place.chosen value).0

pub returns-clause-none : goal.returns-clause-none
returns-clause-none c =
    let value : c.loop-place.chosen ≡ chosen_context (map string_bytes c.args.contexts.now) c.args.path.now = search rules in
    (chosen_facts c.args.path.now (map string_bytes c.args.contexts.now) c.loop-place.chosen value).1
