use Rattle.std.proofs.Common.{ap, ◌∙◌, ◌<◌, arith, length, map, string_bytes}
use Rattle.std.proofs.lemmas.Result.{err_from_is_err_and}
use Rattle.sv_config.specs.Values.{context_data}
use Rattle.sv_launch.proofs.ObjectLemmas.{goes_on, misses, ends}
use Rattle.sv_launch.proofs.objects.objects_of.Goals as goal

pub returns-in_err-add_objects-clause-missing : goal.returns-in_err-add_objects-clause-missing
returns-in_err-add_objects-clause-missing g c =
    let p = err_from_is_err_and c.from_residual.result c.from_residual.ensures.1 in
    let is = c.names.ensures ∙ ap (λ context. g.K.NamedObjects.names_in (context_data context)) c.index-contexts-number.is in
    let within : c.loop-number.number < length c.args.contexts.now = omega (arith, c.loop-number-test.true, c.loop-number.auto.number-end) in
    rw (p.1, p.2)
    (λ other.
    let missing = c.in_err-add_objects.ensures.missing other in (
      missing.0,
      misses (g.K.NamedObjects.named c.args.kind.now) g.K.NamedObjects.names_in context_data c.args.contexts.now c.loop-number.number c.index-contexts-number.result _ _ (map string_bytes c.names.result.now)
          within is missing.1 c.loop-number.invariant.objects,
    ))

pub loop-number-preserved : goal.loop-number-preserved
loop-number-preserved g c = record {
  new = c.add_objects.ensures.new;
  objects =
      goes_on (g.K.NamedObjects.named c.args.kind.now) g.K.NamedObjects.names_in context_data c.args.contexts.now c.loop-number.number c.index-contexts-number.result _ _ _ (map string_bytes c.names.result.now)
      (omega (arith, c.loop-number-test.true, c.loop-number.auto.number-end))
      (c.names.ensures ∙ ap (λ context. g.K.NamedObjects.names_in (context_data context)) c.index-contexts-number.is)
      c.in_ok-add_objects.ensures.objects c.loop-number.invariant.objects;
}

pub returns-clause-objects : goal.returns-clause-objects
returns-clause-objects g c =
    ends (g.K.NamedObjects.named c.args.kind.now) g.K.NamedObjects.names_in context_data c.args.contexts.now c.loop-number.number _ _ (omega (arith, c.loop-number-test.false, c.loop-number.auto.number-end)) c.loop-number.invariant.objects
