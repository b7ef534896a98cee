use Rattle.sv_host.proofs.Prelude.{List, subst, sym, AllByRecursion, Input, Moment, IsInput}
use Rattle.sv_host.proofs.GroupLemmas.{within_at}
use Rattle.sv_host.proofs.group.Group.want.Goals as goal

pub of-requires : goal.of-requires
of-requires c =
    let there = c.in-Some.ensures.lookup in
    let all : AllByRecursion (λ x. IsInput x.1) c.deref.result.now =
    subst (λ (is : List (Moment × Input)). AllByRecursion (λ x. IsInput x.1) is) (sym c.deref.ensures.value) c.requires.within in
    within_at c.deref.result.now c.args.at c.in-Some.field-0.now all there.3.0 there.1
