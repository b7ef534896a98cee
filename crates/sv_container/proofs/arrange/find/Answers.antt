use Rattle.sv_container.proofs.Prelude.{◌≡◌, ◌∙◌, false, sym, label, label_of, is_label}
use Rattle.sv_container.proofs.StartingLemmas.{other_context, other_name, times_past}
use Rattle.sv_container.proofs.arrange.find.Goals as goal
use Rattle.sv_container.proofs.arrange.find.Goals.{else-object-context-via-then-object-context+else-eq, else-object-context-via-else-object-context}

pub loop-at-preserved : goal.loop-at-preserved
loop-at-preserved g c =
    let its = label c.args.context c.args.name.now in
    let object = c.index-objects-at.result in
    let other : is_label its (label_of object) ≡ false = elim c.else-object-context.branch [
      | else-object-context-via-then-object-context+else-eq w ↦ other_name its (label_of object) w.as_str.result.now w.as_str.ensures.value (sym w.eq.ensures ∙ w.if-eq.false)
      | else-object-context-via-else-object-context w ↦ other_context its (label_of object) w.if-object-context.false
    ] in
    times_past its c.args.objects.now c.loop-at.at object _ c.loop-at-test.true (rw (sym c.index-objects-at.is) other) c.loop-at.invariant
