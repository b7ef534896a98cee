use Rattle.sv_container.proofs.Prelude.{◌≡◌, ◌+◌, ◌<◌, length, take, arith, refl, subst, string_bytes, IsPermutation-trans, IsPermutation, IsFoundAt, label}
use Rattle.sv_container.proofs.Prelude.{labels_of, times}
use Rattle.std.proofs.lemmas.List.Sorted.{IsPermutation-swap, length_permutation}
use Rattle.sv_container.proofs.ArrangeLemmas.{one_more_named}
use Rattle.sv_container.proofs.StartingLemmas.{lacks_next}
use Rattle.sv_container.proofs.arrange.arrange_context.Goals as goal

pub loop-count-preserved : goal.loop-count-preserved
loop-count-preserved g c =
    let xs = c.loop-count.objects.items in
    let at = c.args.from + c.loop-count.count in
    let place = c.in_ok-place.place in
    let found : IsFoundAt c.as_slice.result.now at (label c.args.context c.as_str.result.now) place = c.in_ok-place.ensures.found in
    let seen : length c.as_slice.result.now ≡ length xs = rw c.as_slice.ensures.value refl in
    let there : place < length xs = omega (arith, found.within, seen) in
    let here : at < length xs = omega (arith, there, found.behind) in
    let swapped : IsPermutation xs c.swap.new.self.items = IsPermutation-swap _ _ at place here there c.swap.ensures.items in
    let within : c.loop-count.count < length c.args.names.now = omega arith in
    record {
      same = IsPermutation-trans _ _ _ c.loop-count.invariant.same swapped;
      within = omega (arith, length_permutation _ _ swapped, here);
      named = one_more_named string_bytes c.args.names.now xs c.as_slice.result.now c.swap.new.self.items c.args.from c.loop-count.count place c.args.context
          c.index-names-count.result c.as_str.result.now _ within c.index-names-count.is c.as_str.ensures.value c.as_slice.ensures.value found c.swap.ensures.by_index c.loop-count.invariant.named;
    }

pub returns-in_err-place-clause-missing : goal.returns-in_err-place-clause-missing
returns-in_err-place-clause-missing g c =
    let within : c.loop-count.count < length c.args.names.now = omega arith in
    rw c.from_residual.ensures (lacks_next string_bytes c.args.names.now c.args.context c.loop-count.count (c.args.from + c.loop-count.count) c.index-names-count.result c.as_str.result.now _ _ c.loop-count.objects.items within
    c.index-names-count.is c.as_str.ensures.value c.loop-count.invariant.same c.loop-count.invariant.named
    (subst (λ ns. times (label c.args.context c.as_str.result.now) (labels_of ns) ≡ times (label c.args.context c.as_str.result.now) (labels_of (take (c.args.from + c.loop-count.count) ns))) c.as_slice.ensures.value c.in_err-place.ensures.missing))
