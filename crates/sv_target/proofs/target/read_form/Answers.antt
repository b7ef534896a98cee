use Rattle.sv_target.proofs.Prelude.{inr, subst, List, ℕ, IfOk-weaker, Spells}
use Rattle.sv_target.proofs.target.read_form.Goals as goal

pub returns-in-Ok-clause-ok : goal.returns-in-Ok-clause-ok
returns-in-Ok-clause-ok c =
    let spells = subst (λ (s : List ℕ). Spells s c.in-Ok.uri) c.as_bytes.ensures.value c.in-Ok.ensures.ok in
    IfOk-weaker c.read_uri.result _ _ (λ target names. (c.in-Ok.uri, spells, names)) c.read_uri.ensures.ok

pub returns-in-Ok-clause-bad : goal.returns-in-Ok-clause-bad
returns-in-Ok-clause-bad c =
    let spells = subst (λ (s : List ℕ). Spells s c.in-Ok.uri) c.as_bytes.ensures.value c.in-Ok.ensures.ok in
    λ is_bad. inr (c.in-Ok.uri, spells, c.read_uri.ensures.bad is_bad)
