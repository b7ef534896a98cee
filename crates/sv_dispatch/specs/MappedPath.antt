-- Where a path leads within a context.
use Rattle.std.specs.Prelude.{ℕ, List, Option, Some, None}
use Rattle.sv_mapping.specs.Mappings as mappings
use Rattle.sv_mapping.specs.ServletMatch.{Mapped}
use Rattle.sv_dispatch.specs.declared.mapped_path.MappedPath.{MappedPath}

abbrev pub mapped_path_by : List ℕ → Option Mapped → MappedPath
mapped_path_by path None = record { servlet = None; servlet_path = path; path_info = None }
mapped_path_by path (Some to) = record { servlet = Some to.servlet; servlet_path = to.servlet_path; path_info = to.path_info }

-- the servlet of a path, and how the path is shown to it; without a servlet, as the default one sees it
unfoldable pub mapped_path_of : mappings.Table → List ℕ → MappedPath
mapped_path_of patterns path = mapped_path_by path (mappings.mapped patterns path)
