-- What a servlet is shown of a path within its context (Jakarta Servlet 6.0, section 3.5).
use Rattle.std.specs.Prelude.{ℕ, [], ◌∷◌, length, take, drop, codes, if◌then◌else◌, Option, Some, None}
use Rattle.sv_mapping.specs.Path.{Text}
use Rattle.sv_mapping.specs.Pattern.{form_of, prefix_of}
use Rattle.sv_mapping.specs.declared.pattern.PatternForm.{PatternForm}
use Rattle.sv_mapping.specs.declared.pattern.PatternForm.TheVariants.{Exact, ContextRoot, Prefix, Extension, Default}
use Rattle.sv_mapping.specs.declared.servlet_match.Match.{Match}

-- a servlet, and what it is shown of the path
pub record Mapped : Type 0 where
  pub servlet : ℕ
  pub servlet_path : Text
  pub path_info : Option Text

-- an empty text counts as none
abbrev pub nonempty_text : Text → Option Text
nonempty_text [] = None
nonempty_text (c ∷ cs) = Some (c ∷ cs)

-- A prefix pattern `q/*` shows q and what follows it, the empty pattern nothing and `/`. Every other pattern shows
-- the whole path, without path info.
abbrev pub servlet_path_by : PatternForm → Text → Text → Text
servlet_path_by Exact pattern path = path
servlet_path_by ContextRoot pattern path = []
servlet_path_by Prefix pattern path = prefix_of pattern
servlet_path_by Extension pattern path = path
servlet_path_by Default pattern path = path

abbrev pub path_info_by : PatternForm → Text → Text → Option Text
path_info_by Exact pattern path = None
path_info_by ContextRoot pattern path = Some (codes "/")
path_info_by Prefix pattern path = nonempty_text (drop (length (prefix_of pattern)) path)
path_info_by Extension pattern path = None
path_info_by Default pattern path = None

-- a path that the pattern matches, mapped to the pattern's servlet
unfoldable pub mapped_by : Text → ℕ → Text → Mapped
mapped_by pattern servlet path = record {
  servlet = servlet;
  servlet_path = servlet_path_by (form_of pattern) pattern path;
  path_info = path_info_by (form_of pattern) pattern path;
}

-- what a match shows of the path that was mapped
unfoldable pub shown : Text → Match → Mapped
shown path found = record {
  servlet = found.servlet;
  servlet_path = take found.split path;
  path_info = if found.info then Some (drop found.split path) else None;
}
