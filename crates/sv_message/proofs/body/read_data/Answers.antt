use Rattle.sv_message.proofs.Prelude.{arith, ap, min, length, take, ◌∙◌, inl, ◌≡◌, nil_from_length}
use Rattle.sv_message.proofs.PartialLemmas.{unread, after_data, open_data}
use Rattle.sv_message.proofs.body.read_data.Goals as goal

pub returns-then-count-eq0-clause-steps : goal.returns-then-count-eq0-clause-steps
returns-then-count-eq0-clause-steps c =
    let rest = c.args.rest.now in
    let left = unread rest c.args.partial.now in
    let none : length left ≡ 0 = omega (arith, c.min-count.ensures, ap length c.tail-unread.ensures) in
    (c.requires.partial, open_data rest c.args.partial.now c.args.left c.requires.partial c.requires.part (inl (nil_from_length left none)))

pub returns-clause-steps : goal.returns-clause-steps
returns-clause-steps c =
    let u = c.tail-unread.ensures in
    let m = c.args.left in
    let k = c.min-count.result in
    let next = after_data c.args.rest.now _ c.args.partial.now c.take_data.new.partial m k c.requires.partial c.requires.part
    (c.min-count.ensures ∙ ap (λ t. min m (length t)) u) (ap (take k) u) c.in_ok-take_data.ensures.ok in
    (next.0, omega (arith, next.1))
