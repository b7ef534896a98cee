use Rattle.sv_target.proofs.Prelude.{◌≡◌, take}
use Rattle.sv_target.specs.Cookies.{cookies_of}
use Rattle.sv_target.proofs.cookie_fields.cookies.Given as goal

abbrev pub invariant-loop-field : goal.invariant-loop-field
invariant-loop-field l = l.cookies ≡ cookies_of (take l.field-index l.fields)
