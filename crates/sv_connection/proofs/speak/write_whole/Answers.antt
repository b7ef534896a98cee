use Rattle.std.proofs.Common.{◌++◌, [], length, refl, sym, ap, ◌∙◌, subst, append_assoc, append-nil, arith}
use Rattle.std.specs.Io.KnownBytes.{Appends}
use Rattle.std.proofs.lemmas.Bool.{eqb-true}
use Rattle.std.proofs.lemmas.List.{nil_from_length}
use Rattle.std.proofs.KnownBytes.{Appends-nil, Appends-trans}
use Rattle.sv_connection.proofs.speak.write_whole.Goals as goal

pub loop-init : goal.loop-init
loop-init g c = ([], refl, Appends-nil _)

pub returns-then-is_empty-clause-whole : goal.returns-then-is_empty-clause-whole
returns-then-is_empty-clause-whole g c =
    let (done, split, written) = c.loop.invariant in
    let none = nil_from_length c.loop.rest.now (eqb-true (length c.loop.rest.now) 0 (sym c.is_empty.ensures ∙ c.if-is_empty.true)) in
    let whole = split ∙ ap (λ l. done ++ l) none ∙ append-nil done in
    λ _. subst (λ l. Appends (g.W.Write.contents c.args.writer.now) (g.W.Write.contents c.loop.writer) l) (sym whole) written

pub returns-then-is_empty-clause-part : goal.returns-then-is_empty-clause-part
returns-then-is_empty-clause-part g c = λ is. absurd cc

pub returns-in-None-clause-whole : goal.returns-in-None-clause-whole
returns-in-None-clause-whole g c = λ is. absurd cc

pub returns-in-None-clause-part : goal.returns-in-None-clause-part
returns-in-None-clause-part g c =
    let (done, split, written) = c.loop.invariant in
    let (front, cut, more) = c.in-None.ensures.stuck in
    λ _. (c.loop.rest.now, (done ++ front, split ∙ ap (λ l. done ++ l) cut ∙ sym (append_assoc done front _), Appends-trans _ _ _ _ _ written more))

pub loop-smaller : goal.loop-smaller
loop-smaller g c = omega (arith, c.loop-test.true)

pub loop-preserved : goal.loop-preserved
loop-preserved g c =
    let (done, split, written) = c.loop.invariant in
    let (front, cut, more) = c.in-Some.ensures.left in
    (done ++ front, split ∙ ap (λ l. done ++ l) cut ∙ sym (append_assoc done front _), Appends-trans _ _ _ _ _ written more)

pub returns-clause-whole : goal.returns-clause-whole
returns-clause-whole g c = λ is. absurd cc

pub returns-clause-part : goal.returns-clause-part
returns-clause-part g c = λ _. (c.loop.rest.now, c.loop.invariant)
