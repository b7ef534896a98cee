-- How the response to a request is to be.
use Rattle.std.specs.Prelude.{ℕ}
use Rattle.sv_model.specs.declared.request.Request.{Request}
use Rattle.sv_solo.specs.declared.answer.Manner.{Manner}
use Rattle.sv_model.specs.Method.{is_head}

abbrev pub manner_of : Request → ℕ → Manner
manner_of request now = record { head_only = is_head request.method; close = request.close; now = now }
