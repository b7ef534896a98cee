use Rattle.std.proofs.Common.{rules}
use Rattle.sv_journal.proofs.entries.payload_len.Goals as goal

pub returns-then-left-lt-ENTRY_HEAD-clause-damaged : goal.returns-then-left-lt-ENTRY_HEAD-clause-damaged
returns-then-left-lt-ENTRY_HEAD-clause-damaged c = search rules

pub returns-then-count-gt-PAYLOAD_LIMIT-clause-damaged : goal.returns-then-count-gt-PAYLOAD_LIMIT-clause-damaged
returns-then-count-gt-PAYLOAD_LIMIT-clause-damaged c = search rules

pub returns-clause-entry : goal.returns-clause-entry
returns-clause-entry c = search rules
