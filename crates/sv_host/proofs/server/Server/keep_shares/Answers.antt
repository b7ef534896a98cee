use Rattle.sv_host.proofs.Prelude.{◌≡◌, ◌<◌, Bool, cond, suc, length, ap, sym, ◌∙◌, arith, remove, durable_of, engine_of, setting_of, inputs_of, awaited_by}
use Rattle.sv_host.proofs.AskedLemmas.{gathers_on}
use Rattle.sv_host.proofs.RoomLemmas.{kept_on, one_less}
use Rattle.sv_host.proofs.server.Server.keep_shares.Goals.{then-keep_one, else-keep_one}
use Rattle.sv_host.proofs.server.Server.keep_shares.Goals as goal

-- one more has been looked at
pub loop-done-preserved : goal.loop-done-preserved
loop-done-preserved g c =
    let waits = awaited_by (g.E.Engine.meaning (engine_of c.args.node.now)) (setting_of c.args.node.now) (durable_of c.args.node.now) in
    let before = c.loop-done.invariant in
    let one = c.keep_one.ensures.kept in
    let more = c.keep_one.ensures.gathered in
    let clients = gathers_on _ _ _ _ _ _ before.gathered.before before.clients c.keep_one.ensures.clients in
    let is = inputs_of c.loop-done.group in
    let new = inputs_of c.keep_one.new.group in
    let at = c.loop-done.at in
    let next = c.if-keep_one.at in
    let b = c.keep_one.result in
    let within : at < length is = omega (arith, before.long, c.loop-done-test.true, c.len-done-end.ensures) in
    let on = λ (to : next ≡ cond b (suc at) at). kept_on waits c.loop-done.room c.keep_one.new.room is new at next b within one.may one.room one.inputs to ∙ before.kept in
    elim c.if-keep_one.branch [
      | then-keep_one w ↦
          (let is_b = w.if-keep_one.true in
          let to : next ≡ suc at = omega (arith, w.at-is, w.saturating_add-at.ensures, before.at, c.loop-done-test.true, c.len-done-end.type_inv) in
          let same = ap (λ xs. length xs) (one.inputs ∙ ap (λ (b : Bool). cond b is (remove is at)) is_b) in
          record {
            gathered = record { rising = more.rising; before = more.before ∙ before.gathered.before };
            clients = clients;
            kept = on (to ∙ ap (λ (b : Bool). cond b (suc at) at) (sym is_b));
            long = omega (arith, same, to, before.long);
            at = omega (arith, to, before.at);
            carried = λ first so_far. c.keep_one.ensures.carried first (before.carried first so_far);
          })
      | else-keep_one w ↦
          (let is_b = w.if-keep_one.false in
          let to : next ≡ at = w.at-is in
          let less = ap (λ xs. length xs) (one.inputs ∙ ap (λ (b : Bool). cond b is (remove is at)) is_b) in
          record {
            gathered = record { rising = more.rising; before = more.before ∙ before.gathered.before };
            clients = clients;
            kept = on (to ∙ ap (λ (b : Bool). cond b (suc at) at) (sym is_b));
            long = omega (arith, less, one_less is at within, to, before.long);
            at = omega (arith, to, before.at);
            carried = λ first so_far. c.keep_one.ensures.carried first (before.carried first so_far);
          })
    ]
