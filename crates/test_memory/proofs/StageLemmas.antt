-- One object that may be called is all that a stage needs.
use Rattle.std.proofs.Common.{◌≡◌, ◌∙◌, List, [], All, arith, ap, sym, subst}
use Rattle.std.proofs.lemmas.List.Elements.{All-nil, All-cons}
use Rattle.sv_servlet.specs.declared.servlet.Phase.{Phase}
use Rattle.sv_servlet.specs.declared.servlet.Phase.TheVariants.{Ready}
use Rattle.sv_dispatch.specs.Rows.{IsReadyAt, row, rows}
use Rattle.sv_dispatch.specs.Stages.{IsMarked}
use Rattle.sv_dispatch.specs.declared.hosted.Hosted.{Hosted}
use Rattle.test_memory.specs.Stages.{IsOne}

pub one_is_marked : {O M : Type 0} (meaning : O → M) (phase : O → Phase) (o : O) (all : List (Hosted O)) → IsOne o all → phase o ≡ Ready → All IsMarked (rows meaning phase all)
unfolding rows
one_is_marked meaning phase o all (h, is, same) ready =
    subst (λ l. All IsMarked (rows meaning phase l)) (sym is) (All-cons IsMarked (row meaning phase h) [] (λ _. ap phase same ∙ ready) (All-nil IsMarked))

pub one_is_ready : {O M : Type 0} (meaning : O → M) (phase : O → Phase) (o : O) (all : List (Hosted O)) → IsOne o all → phase o ≡ Ready → IsReadyAt (rows meaning phase all) 0
unfolding rows
one_is_ready meaning phase o all (h, is, same) ready =
    subst (λ l. IsReadyAt (rows meaning phase l) 0) (sym is) (record { within = omega arith; ready = ap phase same ∙ ready })
