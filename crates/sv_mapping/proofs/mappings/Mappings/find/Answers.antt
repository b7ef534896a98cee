use Rattle.sv_mapping.proofs.Prelude.{rules}
use Rattle.sv_mapping.proofs.BestLemmas.{answers_all, best_answer, no_match, no_answer, mapped_answer}
use Rattle.sv_mapping.proofs.mappings.Mappings.find.Goals as goal

pub returns-clause-best : goal.returns-clause-best
returns-clause-best c =
    best_answer c.args.self.now c.args.path.now c.or_else-3.result
    (answers_all c.args.self.now c.args.path.now c.by_exact.result c.or_else.result c.or_else-2.result c.or_else-3.result c.by_exact.ensures (search rules) (search rules) (search rules))

pub returns-clause-none : goal.returns-clause-none
returns-clause-none c =
    let all = answers_all c.args.self.now c.args.path.now c.by_exact.result c.or_else.result c.or_else-2.result c.or_else-3.result c.by_exact.ensures (search rules) (search rules) (search rules) in
    (no_match c.args.self.now c.args.path.now c.or_else-3.result all, no_answer c.args.self.now c.args.path.now c.or_else-3.result all)

pub returns-clause-mapped : goal.returns-clause-mapped
returns-clause-mapped c =
    mapped_answer c.args.self.now c.args.path.now c.or_else-3.result
    (answers_all c.args.self.now c.args.path.now c.by_exact.result c.or_else.result c.or_else-2.result c.or_else-3.result c.by_exact.ensures (search rules) (search rules) (search rules))
