-- A refusal, with its cause (RFC 9110, section 15.6.4).
use Rattle.std.specs.Prelude.{Bool, List, [], ◌∷◌, ◌++◌, codes}
use Rattle.http_header.specs.FieldValue.{plain_value}
use Rattle.sv_model.specs.declared.field.Field.{Field}
use Rattle.sv_model.specs.declared.response.Response.{Response}
use Rattle.sv_model.specs.declared.output.Cause.{Cause}
use Rattle.sv_model.specs.Cause.{cause_name}
use Rattle.sv_model.specs.Field.{plain_type}
use Rattle.sv_connection.specs.declared.reply.Naming.{Naming}
use Rattle.sv_connection.specs.declared.reply.Naming.TheVariants.{InBody, InField}

-- `kegbramble-cause`, by which a front server knows the cause
abbrev pub cause_field : Cause → Field
cause_field cause = record { name = codes "kegbramble-cause"; value = plain_value (cause_name cause) }

abbrev pub refusal_fields : Naming → Cause → List Field
refusal_fields InBody cause = plain_type ∷ []
refusal_fields InField cause = plain_type ∷ cause_field cause ∷ []

-- status 503, with the cause's name in a line
abbrev pub refusal_by : Naming → Cause → Bool → Bool → Response
refusal_by naming cause head_only close =
    record { status = 503; fields = refusal_fields naming cause; body = codes "503 " ++ cause_name cause ++ codes "\n"; head_only = head_only; close = close }
