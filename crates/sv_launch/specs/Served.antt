-- The servlets that serve the files of a descriptor.
use Rattle.std.specs.Prelude.{ℕ, ◌&&◌, ◌==◌, Bool, List, bytes_eq, string_bytes, Option, Some, None}
use Rattle.std.specs.List.{find}
use Rattle.sv_launch.specs.declared.served.ServedFiles.{ServedFiles}
use Rattle.sv_servlet.specs.Servlet.{Serves}
use Rattle.sv_web.specs.Files.{file_work}
use Rattle.sv_web.specs.Work.{serving}

-- they are those of a path of a context
abbrev pub is_at : ℕ → List ℕ → ServedFiles → Bool
is_at context path s = (s.context == context) && bytes_eq (string_bytes s.path) path

abbrev pub served_at : List ServedFiles → ℕ → List ℕ → Option ServedFiles
served_at all context path = find (is_at context path) all

-- what the servlet of files answers
abbrev pub answers_of : ServedFiles → Serves
answers_of s = serving (file_work s.choice s.files.items s.cache)

abbrev pub found_or : Option ServedFiles → Option Serves → Option Serves
found_or None other = other
found_or (Some s) other = Some (answers_of s)

-- a name that is the path of files stands for their servlet, and any other for what it is given
abbrev pub files_or : List ServedFiles → ℕ → List ℕ → Option Serves → Option Serves
files_or all context name other = found_or (served_at all context name) other
