-- What a sample of one of several kinds does: what those of its kind do; and which word each has.
use Rattle.std.specs.Prelude.{ℕ, List, bytes_eq, codes, Option, Some, None, if◌then◌else◌}
use Rattle.sv_samples.specs.Count.{count}
use Rattle.sv_samples.specs.Faulty.{faulty}
use Rattle.sv_samples.specs.Forwarder.{forwarder}
use Rattle.sv_samples.specs.Hello.{hello}
use Rattle.sv_samples.specs.Includer.{includer}
use Rattle.sv_samples.specs.Login.{login}
use Rattle.sv_samples.specs.Renew.{renew}
use Rattle.sv_samples.specs.Snoop.{snoop}
use Rattle.sv_samples.specs.declared.sample.Sample.{Sample}
use Rattle.sv_samples.specs.declared.sample.Sample.TheVariants.{Hello, Count, Snoop, Login, Renew, Includer, Forwarder, Faulty}
use Rattle.sv_servlet.specs.Call.{Asked}
use Rattle.sv_servlet.specs.declared.servlet.Next.{Next}
use Rattle.sv_web.specs.Work.{Work}

abbrev pub work_of : Sample → Asked → Work Next
work_of (Hello s) = hello
work_of (Count s) = count
work_of (Snoop s) = snoop
work_of (Login s) = login
work_of (Renew s) = renew
work_of (Includer s) = includer
work_of (Forwarder s) = forwarder
work_of (Faulty s) = faulty

-- the work of the sample servlet of a word
abbrev pub work_named : List ℕ → Option (Asked → Work Next)
work_named word =
    if bytes_eq word (codes "hello") then Some hello
    else if bytes_eq word (codes "count") then Some count
    else if bytes_eq word (codes "snoop") then Some snoop
    else if bytes_eq word (codes "login") then Some login
    else if bytes_eq word (codes "renew") then Some renew
    else if bytes_eq word (codes "includer") then Some includer
    else if bytes_eq word (codes "forwarder") then Some forwarder
    else if bytes_eq word (codes "faulty") then Some faulty
    else None
