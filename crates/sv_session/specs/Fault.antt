-- The faults of an edit.
use Rattle.std.specs.Prelude.{ℕ, List, codes}
use Rattle.sv_session.specs.declared.fault.SessionFault.{SessionFault}
use Rattle.sv_session.specs.declared.fault.SessionFault.TheVariants.{NoSession, BadName, ValueTooLong, SessionTooLarge, SecondCreation, Memory, SecretUsed}

-- the name of a fault
abbrev pub fault_name : SessionFault → List ℕ
fault_name NoSession = codes "NoSession"
fault_name BadName = codes "BadName"
fault_name ValueTooLong = codes "ValueTooLong"
fault_name SessionTooLarge = codes "SessionTooLarge"
fault_name SecondCreation = codes "SecondCreation"
fault_name Memory = codes "Memory"
fault_name SecretUsed = codes "SecretUsed"
