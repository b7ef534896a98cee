use Rattle.sv_model.proofs.JournalLemmas.{journaled}
use Rattle.sv_model.proofs.laws.journaled.Goals as goal

pub returns : goal.returns
returns c m touches set n moment input = journaled set n m touches moment input
