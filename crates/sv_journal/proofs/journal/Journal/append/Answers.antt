use Rattle.std.proofs.Common.{◌∷◌, []}
use Rattle.std.proofs.lemmas.Result.{on_ok_weaker}
use Rattle.sv_journal.proofs.journal.Journal.append.Goals as goal

pub append_all-requires : goal.append_all-requires
append_all-requires g c = (c.args.payload.now ∷ [], c.in_ok-add.ensures.added [] c.in_ok-batch.ensures.none)

pub returns-clause-added : goal.returns-clause-added
returns-clause-added g c =
    on_ok_weaker c.append_all.result (λ added entries told holds. added entries (c.args.payload.now ∷ []) told holds (c.in_ok-add.ensures.added [] c.in_ok-batch.ensures.none)) c.append_all.ensures.added

pub returns-clause-any_moment : goal.returns-clause-any_moment
returns-clause-any_moment g c = λ entries told holds. c.append_all.ensures.any_moment entries (c.args.payload.now ∷ []) told holds (c.in_ok-add.ensures.added [] c.in_ok-batch.ensures.none)
