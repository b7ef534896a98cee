use Rattle.std.proofs.Common.{◌≡◌, All}
use Rattle.sv_servlet.specs.declared.servlet.Phase.TheVariants.{New}
use Rattle.test_requests.proofs.container.boxed.boxed_life.OwnLists.{own-1}
use Rattle.test_requests.proofs.container.boxed.boxed_life.Given as goal

-- all servlets are as they were made
abbrev pub invariant-loop-part : goal.invariant-loop-part
invariant-loop-part g l = All (λ n. (own-1.entry n.object.vtable).1.servlet_phase n.object.value ≡ New) l.servlets.items
