use Rattle.sv_net.proofs.Prelude.{ap, ◌++◌, take, ◌∙◌, went_of}
use Rattle.sv_net.proofs.WritingLemmas.{leaves_some}
use Rattle.sv_net.proofs.socket.Socket.write_once.Goals as goal

pub returns-else-count-len : goal.returns-else-count-len
returns-else-count-len c =
    leaves_some c.args.self.now c.put.new.self c.args.text.now.items c.cut.new.text.items c.in_ok-count.count c.cut.ensures c.in_ok-count.ensures.came (c.in_ok-count.ensures.went ∙ ap (λ xs. went_of c.args.self.now ++ take c.in_ok-count.count xs) c.as_slice.ensures.value)
