-- What the names of the samples stand for.
use Rattle.std.specs.Prelude.{ℕ, List, bytes_eq, codes, Option, Some, None, option_map, if◌then◌else◌}
use Rattle.std.specs.List.{before_first}
use Rattle.sv_launch.specs.Objects.{Hears}
use Rattle.sv_samples.specs.Gate.{gate}
use Rattle.sv_samples.specs.Sample.{work_named}
use Rattle.sv_samples.specs.Stamp.{is_dash, mark_of, stamp}
use Rattle.sv_samples.specs.Tally.{tallied}
use Rattle.sv_servlet.specs.Filter.{Filters}
use Rattle.sv_servlet.specs.Servlet.{Serves}
use Rattle.sv_web.specs.Work.{serving, surrounding}

-- the part of a name that says what it is: what stands before its first `-`, or all of it
abbrev pub word_of : List ℕ → List ℕ
word_of name = before_first is_dash name

abbrev pub servlets : List ℕ → Option Serves
servlets name = option_map serving (work_named (word_of name))

-- a stamp's mark is what stands after the `-` of its name
abbrev pub filters : List ℕ → Option Filters
filters name =
    if bytes_eq (word_of name) (codes "stamp") then Some (surrounding (stamp (mark_of name)))
    else if bytes_eq (word_of name) (codes "gate") then Some (surrounding gate)
    else None

abbrev pub listeners : List ℕ → Option Hears
listeners name = if bytes_eq (word_of name) (codes "tally") then Some tallied else None
