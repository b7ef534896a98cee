-- What the servlet does that counts a session's requests (Jakarta Servlet 6.0, chapter "Sessions").
use Rattle.std.specs.Prelude.{ℕ, ◌+◌, ◌^◌, ◌-◌, min, ◌++◌, codes, decimal, Option, unwrap_or}
use Rattle.sv_servlet.specs.Call.{Asked}
use Rattle.sv_servlet.specs.declared.servlet.Next.{Next}
use Rattle.sv_servlet.specs.declared.servlet.Next.TheVariants.{Done}
use Rattle.sv_web.specs.Attributes.{set_number, get_number}
use Rattle.sv_web.specs.Steps.{create, plain_text, written}
use Rattle.sv_web.specs.Work.{Work}

-- 1 more than the number that there is, or than 0; the last number of 64 bits stays
abbrev pub counted : Option ℕ → ℕ
counted n = min (unwrap_or n 0 + 1) (2 ^ 64 - 1)

-- the number is kept in the session, and written with a line feed
abbrev pub kept : ℕ → Work Next
kept n = set_number (codes "count") n (written (decimal n ++ codes "\n") Done)

-- the number that the session has is followed by the next, whatever is asked
abbrev pub count : Asked → Work Next
count call = plain_text (create (get_number (codes "count") (λ n. kept (counted n))))
