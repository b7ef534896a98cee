use Rattle.sv_target.proofs.Prelude.{List, ℕ, lit<, subst, IsUtf8, IfOk-weaker, strip_prefix_char, IsTarget, IsBadTarget}
use Rattle.sv_target.proofs.OriginLemmas.{within_ok, within_bad, unrooted_within}
use Rattle.sv_target.proofs.target.Target.read_within.Goals as goal

pub returns-in-Some-clause-ok : goal.returns-in-Some-clause-ok
returns-in-Some-clause-ok c =
    let rooted = rw c.in-Some.is at (strip_prefix_char 47 c.args.text.now c.strip_prefix.result c.strip_prefix.ensures.cases (lit< tt)) in
    IfOk-weaker c.read_target.result _ _
    (λ target is. rw rooted (within_ok c.in-Some._rest.now target (subst (λ (s : List ℕ). IsTarget s target) rooted is)))
    c.read_target.ensures.ok

pub returns-in-Some-clause-bad : goal.returns-in-Some-clause-bad
returns-in-Some-clause-bad c = λ is_bad.
    let rooted = rw c.in-Some.is at (strip_prefix_char 47 c.args.text.now c.strip_prefix.result c.strip_prefix.ensures.cases (lit< tt)) in
    rw rooted (within_bad c.in-Some._rest.now (subst IsUtf8 rooted c.utf8.text) (subst IsBadTarget rooted (c.read_target.ensures.bad is_bad)))

pub returns-in-None-clause-bad : goal.returns-in-None-clause-bad
returns-in-None-clause-bad c = λ is_bad.
    unrooted_within c.args.text.now (rw c.in-None.is at (strip_prefix_char 47 c.args.text.now c.strip_prefix.result c.strip_prefix.ensures.cases (lit< tt)))
