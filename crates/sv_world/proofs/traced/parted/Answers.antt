use Rattle.sv_world.proofs.Prelude.{ap, sym, ◌∙◌, ◌≡◌, arith, parted}
use Rattle.std.proofs.Common.{length}
use Rattle.sv_world.proofs.TracedLemmas.{parted_is}
use Rattle.sv_world.proofs.traced.parted.Goals as goal

pub returns : goal.returns
returns c =
    let told = c.args.told.items in
    let len : length told ≡ c.args.told.len = omega (arith, c.args.told.ok) in
    (λ i. (c.from_vec-2.ensures i, c.pop-mark.result)) ∙ parted_is told c.pop-mark.new.self.items c.pop-mark.result c.args.told.len _ _ c.pop-mark.ensures.items len c.pop-mark.ensures.cases
    ∙ ap (λ b. parted b told) (sym c.if-is_commit.false)
