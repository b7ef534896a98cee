-- The attributes of a request as contracts see them: names and values, in order of the names' bytes.
use Rattle.std.specs.Prelude.{ℕ, List, map, string_bytes}
use Rattle.std.specs.declared.alloc.Global.{Global}
use Rattle.std.specs.declared.string.String.{String}

-- the bytes of the name, and those of the value
abbrev pub entry_of : String Global × String Global → List ℕ × List ℕ
entry_of e = (string_bytes e.0, string_bytes e.1)

-- a map's entries as attributes
abbrev pub entries_of : List (String Global × String Global) → List (List ℕ × List ℕ)
entries_of es = map entry_of es
