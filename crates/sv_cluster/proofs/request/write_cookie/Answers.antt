use Rattle.std.proofs.Common.{ap, ◌∙◌, List, ℕ, ◌++◌}
use Rattle.sv_cluster.proofs.RequestLemmas.{three}
use Rattle.sv_cluster.proofs.request.write_cookie.Goals as goal

pub returns : goal.returns
returns c =
    three c.args.out.now.items _ _ _ _ _ _ c.in_ok-extend_from_slice.ensures.items
    (c.in_ok-extend_from_slice-2.ensures.items ∙ ap (λ (t : List ℕ). c.extend_from_slice.new.self.items ++ t) c.cookie_text.ensures)
    c.in_ok-extend_from_slice-3.ensures.items
