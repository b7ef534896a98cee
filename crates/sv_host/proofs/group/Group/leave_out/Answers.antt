use Rattle.sv_host.proofs.Prelude.{◌≤◌, List, sym, subst, arith, AllByRecursion, IsInput, Input, Moment, all_given, RiseIn, numbers_in}
use Rattle.sv_host.proofs.GroupLemmas.{within_less, rises_less, number_less}
use Rattle.sv_host.proofs.group.Group.leave_out.Goals as goal

pub returns-clause-rising : goal.returns-clause-rising
returns-clause-rising c =
    let old = c.args.self.now in
    let is = old.inputs.items in
    let items = sym c.cut_out.ensures in
    let less = number_less old.before is c.args.at c.requires.rising.rises in
    record {
      within = subst (λ (xs : List (Moment × Input)). AllByRecursion (λ x. IsInput x.1) xs) items (within_less is c.args.at c.requires.rising.within);
      rises = subst (λ (xs : List (Moment × Input)). RiseIn old.before (all_given xs)) items (rises_less old.before is c.args.at c.requires.rising.rises);
      number = subst (λ (xs : List (Moment × Input)). numbers_in old.before (all_given xs) ≤ old.number) items (omega (arith, less, c.requires.rising.number));
    }
