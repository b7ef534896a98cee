use Rattle.std.proofs.Common.{ap, ◌∙◌, List, ℕ, ◌++◌}
use Rattle.sv_cluster.specs.Request.{request_text}
use Rattle.sv_cluster.proofs.RequestLemmas.{five}
use Rattle.sv_cluster.proofs.request.write_request.Goals as goal

pub returns : goal.returns
unfolding request_text
returns c =
    five c.args.out.now.items _ _ _ _ _ _ _ _ _ _ c.in_ok-extend_from_slice.ensures.items
    (c.in_ok-extend_from_slice-2.ensures.items ∙ ap (λ (t : List ℕ). c.extend_from_slice.new.self.items ++ t) c.as_bytes.ensures.value)
    c.in_ok-extend_from_slice-3.ensures.items c.in_ok-write_cookies.ensures c.in_ok-extend_from_slice-4.ensures.items
