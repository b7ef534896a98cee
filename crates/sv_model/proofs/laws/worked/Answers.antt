use Rattle.sv_model.proofs.RowLemmas.{handed_over, late, never_made, ticks, orders, forgotten, full, forgetting}
use Rattle.sv_model.proofs.laws.worked.Goals as goal

pub returns-clause-handed_over : goal.returns-clause-handed_over
returns-clause-handed_over c = handed_over

pub returns-clause-late : goal.returns-clause-late
returns-clause-late c = late

pub returns-clause-never_made : goal.returns-clause-never_made
returns-clause-never_made c = never_made

pub returns-clause-ticks : goal.returns-clause-ticks
returns-clause-ticks c = ticks

pub returns-clause-orders : goal.returns-clause-orders
returns-clause-orders c = orders

pub returns-clause-forgotten : goal.returns-clause-forgotten
returns-clause-forgotten c = forgotten

pub returns-clause-full : goal.returns-clause-full
returns-clause-full c = full

pub returns-clause-forgetting : goal.returns-clause-forgetting
returns-clause-forgetting c = forgetting
