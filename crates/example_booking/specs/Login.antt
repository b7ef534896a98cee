-- Logging in.
use Rattle.std.specs.Prelude.{codes}
use Rattle.sv_servlet.specs.Call.{Asked}
use Rattle.sv_servlet.specs.declared.servlet.Next.{Next}
use Rattle.sv_servlet.specs.declared.servlet.Next.TheVariants.{Done}
use Rattle.sv_web.specs.Request.{parameter_or}
use Rattle.sv_web.specs.Steps.{create, html, redirect, set_attribute, written}
use Rattle.sv_web.specs.Work.{Ends, Work}

-- the form
abbrev pub shown : Asked → Work Next
shown call =
    html (written (codes "<!DOCTYPE html><title>Booking</title><form method=post><label>Name <input name=name></label> <button>Log in</button></form>") Done)

-- the name is kept, and the client goes on to the seats
abbrev pub taken : Asked → Work Next
taken call = create (set_attribute (codes "name") (parameter_or call.params (codes "name") (codes "somebody")) (redirect (codes "seats") (Ends Done)))
