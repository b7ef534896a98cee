use Rattle.sv_world.proofs.Prelude.{◌≡◌, true, false, arith, ap, Stand}
use Rattle.sv_node.specs.History.{halted}
use Rattle.sv_world.proofs.LivesLemmas.{turns_by}
use Rattle.sv_world.proofs.laws.process.Goals as goal

pub returns : goal.returns
returns k m set ms sets from to turns means has ends are =
    turns_by m set ms sets from.boot to.boot means has (halted from) turns (λ is. absurd (let no : false ≡ true = is in cc)) (omega arith) (omega (arith, ap (λ (s : Stand). s.node.durable.boot) ends)) are
