-- What the filter does that puts a mark round a reply's text (Jakarta Servlet 6.0, section 6.2.1).
use Rattle.std.specs.Prelude.{ℕ, Bool, ◌==◌, nat_lt, List, ◌++◌, length, codes, if◌then◌else◌}
use Rattle.std.specs.List.{after_first, position_or_len}
use Rattle.sv_servlet.specs.declared.filter.Before.TheVariants.{Pass}
use Rattle.sv_web.specs.Steps.{written_after, written_before}
use Rattle.sv_web.specs.Work.{FilterWork}

abbrev pub is_dash : ℕ → Bool
is_dash c = c == 45

-- the mark of a filter of this name: what stands after its first `-`; `s` where there is none
abbrev pub mark_of : List ℕ → List ℕ
mark_of name = if nat_lt (position_or_len is_dash name) (length name) then after_first is_dash name else codes "s"

-- `<` and the mark before a servlet; the mark and `>` after it, where they fit
abbrev pub stamp : List ℕ → FilterWork
stamp mark = record { before = λ call. written_before (codes "<" ++ mark) Pass; after = λ call. written_after (mark ++ codes ">") }
