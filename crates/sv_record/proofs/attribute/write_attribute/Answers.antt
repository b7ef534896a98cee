use Rattle.std.proofs.lemmas.Str.{is_utf8-from_IsUtf8}
use Rattle.sv_record.proofs.attribute.write_attribute.Goals as goal

pub returns-in_err-write_name-clause-text : goal.returns-in_err-write_name-clause-text
returns-in_err-write_name-clause-text c = is_utf8-from_IsUtf8 _ c.utf8.name

pub returns-clause-text : goal.returns-clause-text
returns-clause-text c = is_utf8-from_IsUtf8 _ c.utf8.name
