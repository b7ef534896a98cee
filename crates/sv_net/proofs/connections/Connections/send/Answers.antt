use Rattle.sv_net.proofs.Prelude.{[], inl, inr, refl}
use Rattle.sv_net.proofs.SendingLemmas.{same_among}
use Rattle.sv_net.proofs.connections.Connections.send.Goals as goal

-- there is no memory for it
pub returns-in-None-clause-sends : goal.returns-in-None-clause-sends
returns-in-None-clause-sends c = ([], inl refl, inr (inr (record { links = same_among _ _ refl; people = λ q. refl })))
