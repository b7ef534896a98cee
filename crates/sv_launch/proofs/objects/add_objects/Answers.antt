use Rattle.std.proofs.Common.{refl, arith, string_bytes}
use Rattle.sv_launch.proofs.ObjectLemmas.{found}
use Rattle.sv_launch.proofs.objects.add_objects.Goals as goal

pub returns-in_default-clause-missing : goal.returns-in_default-clause-missing
returns-in_default-clause-missing g c = λ _. (
  refl,
  found (g.K.NamedObjects.named c.args.kind.now) c.args.context string_bytes c.args.names.now c.loop-name.name-index c.name-item.result (omega arith)
      (let asked = rw c.in_default.is at c.in_ok-object.ensures.meaning in let text = c.as_str.ensures.value in let item = c.name-item.is in cc),
)
