use Rattle.sv_container.proofs.Prelude.{◌<◌, ◌≤◌, length, arith, IsPermutation-trans, names_of}
use Rattle.std.proofs.lemmas.List.Sorted.{IsPermutation-refl}
use Rattle.sv_container.proofs.ArrangeLemmas.{no_more_contexts, none_labelled, one_more_context}
use Rattle.sv_container.proofs.StartingLemmas.{has_all, lacks_context, lacks_last}
use Rattle.sv_container.proofs.arrange.arrange_kind.Goals as goal

pub loop-number-init : goal.loop-number-init
loop-number-init g c = record { same = IsPermutation-refl _; within = omega arith; named = none_labelled _ _ }

pub returns-in_err-at-clause-same : goal.returns-in_err-at-clause-same
returns-in_err-at-clause-same g c = IsPermutation-trans _ _ _ c.loop-number.invariant.same c.arrange_context.ensures.same

pub loop-number-preserved : goal.loop-number-preserved
loop-number-preserved g c =
    let within : c.loop-number.number < length c.args.contexts.now = omega arith in
    record {
      same = IsPermutation-trans _ _ _ c.loop-number.invariant.same c.arrange_context.ensures.same;
      within = c.in_ok-at.ensures.within;
      named = one_more_context (names_of c.args.kind) c.args.contexts.now c.loop-number.number c.index-contexts-number.result _ _ _ _ within c.index-contexts-number.is c.names_of.ensures
          c.in_ok-at.ensures.named c.loop-number.invariant.named;
    }

pub returns-clause-named : goal.returns-clause-named
returns-clause-named g c =
    let past : length c.args.contexts.now ≤ c.loop-number.number = omega arith in
    no_more_contexts (names_of c.args.kind) c.args.contexts.now c.loop-number.number _ _ past c.loop-number.invariant.named

pub returns-in_err-at-clause-missing : goal.returns-in_err-at-clause-missing
returns-in_err-at-clause-missing g c =
    let within : c.loop-number.number < length c.args.contexts.now = omega arith in
    rw c.from_residual.ensures (lacks_context (names_of c.args.kind) c.args.contexts.now c.loop-number.number c.index-contexts-number.result _ _ _ _ _ within c.index-contexts-number.is c.names_of.ensures
    c.loop-number.invariant.named c.loop-number.invariant.same c.in_err-at.ensures.missing)

pub returns-clause-complete : goal.returns-clause-complete
returns-clause-complete g c =
    let past : length c.args.contexts.now ≤ c.loop-number.number = omega arith in
    has_all _ _ _ _ c.loop-number.invariant.same (no_more_contexts (names_of c.args.kind) c.args.contexts.now c.loop-number.number _ _ past c.loop-number.invariant.named)

pub returns-clause-extra : goal.returns-clause-extra
returns-clause-extra g c within =
    let past : length c.args.contexts.now ≤ c.loop-number.number = omega arith in
    lacks_last _ _ _ _ within c.loop-number.invariant.same (no_more_contexts (names_of c.args.kind) c.args.contexts.now c.loop-number.number _ _ past c.loop-number.invariant.named)
