use Rattle.sv_core.proofs.Prelude.{sym, subst, ◌∙◌, IsFound, IsGap}
use Rattle.std.specs.List as list
use Rattle.sv_core.proofs.PlaceLemmas.{not_refused}
use Rattle.sv_core.proofs.places.add.Goals as goal

pub returns-in-Ok-clause-items : goal.returns-in-Ok-clause-items
returns-in-Ok-clause-items c =
    let found : IsFound c.args.key c.args.places.now.items c.in-Ok.at = subst (λ l. IsFound c.args.key l c.in-Ok.at) c.deref.ensures.value c.in-Ok.ensures.found in
    sym (found.puts c.args.place)

pub returns-in-Err-clause-items : goal.returns-in-Err-clause-items
returns-in-Err-clause-items c =
    let gap : IsGap c.args.key c.args.places.now.items c.in-Err.at = subst (λ l. IsGap c.args.key l c.in-Err.at) c.deref.ensures.value c.in-Err.ensures.absent in
    not_refused c.insert.result (list.insert c.args.places.now.items c.in-Err.at (c.args.key, c.args.place)) c.args.places.now.items c.insert.new.self.items c.insert.ensures.items (c.insert.ensures.succeeds c.requires.room)
    ∙ sym (gap.puts c.args.place)
