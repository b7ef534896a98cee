use Rattle.std.proofs.Common.{◌≡◌, ◌∙◌, refl, inl}
use Rattle.std.proofs.lemmas.List.Elements.{All-push}
use denote.Param.Object.{Made, read_made}
use Rattle.sv_servlet.specs.declared.servlet.Phase.{Phase}
use Rattle.sv_servlet.specs.declared.servlet.Phase.TheVariants.{New}
use Rattle.test_requests.proofs.container.boxed.boxed_life.OwnLists.{own-1}
use Rattle.test_requests.proofs.container.boxed.boxed_life.Goals as goal

-- a box of an object has the object's phase
boxed : (at i : own-1.I) (y : (own-1.entry i).0.Denot) (x : (own-1.entry at).0.Denot) → Made (λ j. (own-1.entry j).0.coded.code) (own-1.entry at).0.coded.code at i y x
    → (own-1.entry i).1.servlet_phase y ≡ (own-1.entry at).1.servlet_phase x
boxed at i y x made = read_made own-1 (own-1.entry at) at refl Phase (λ e v. e.1.servlet_phase v) i y x made

pub loop-part-preserved : goal.loop-part-preserved
loop-part-preserved g c =
    let fresh : (own-1.entry c.into_dyn_box-object.result.vtable).1.servlet_phase c.into_dyn_box-object.result.value ≡ New =
    boxed (inl tt) c.into_dyn_box-object.result.vtable c.into_dyn_box-object.result.value c.boxed.result.value c.into_dyn_box-object.ensures.1 ∙ (rw c.boxed.ensures c.servlet_of.ensures)
    in
    rw c.push.ensures (All-push (λ n. (own-1.entry n.object.vtable).1.servlet_phase n.object.value ≡ New) _ _ c.loop-part.invariant (rw c.named.ensures fresh))
