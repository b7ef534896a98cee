use Rattle.sv_mapping.proofs.Prelude.{◌++◌, rules, text_cmp}
use Rattle.std.proofs.lemmas.Fn.{always_returns_same}
use Rattle.sv_mapping.proofs.EntryLemmas.{searched}
use Rattle.sv_mapping.proofs.search.search.Goals as goal

pub returns : goal.returns
returns c =
    let text = c.args.front.now ++ c.args.back.now in
    let facts = c.binary_search_by.ensures in
    let by_text = facts.position (λ e. text_cmp e.0 text) (always_returns_same _ _ _ (λ a r f called. search rules)) in
    let found = searched c.args.entries.now c.requires text _ facts.bound by_text in
    record { found = found.0; absent = found.1 }
