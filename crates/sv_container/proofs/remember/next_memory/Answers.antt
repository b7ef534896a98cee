use Rattle.sv_container.proofs.Prelude.{subst, sym, ◌∙◌, IsSmall}
use Rattle.sv_container.proofs.OnceLemmas.{entry_small}
use Rattle.sv_container.proofs.remember.next_memory.Goals as goal

pub with_answer-requires : goal.with_answer-requires
with_answer-requires c =
    subst IsSmall (sym c.in_ok-entry-in-Some.ensures)
    (entry_small c.args.choice.now c.args.request.now c.args.old.now c.args.memory c.args.response.now c.requires c.in-Some.key.now (sym c.is_key.ensures ∙ c.if-is_key.true))
