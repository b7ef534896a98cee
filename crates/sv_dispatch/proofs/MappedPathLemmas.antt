-- Where a path leads, by what the mapping found.
use Rattle.sv_dispatch.proofs.Prelude.{◌≡◌, ℕ, List, ap, Option, Some, None, drop, mapped_path_of}
use Rattle.std.proofs.Common.{take, if◌then◌else◌}
use Rattle.sv_mapping.specs.Mappings as mappings
use Rattle.sv_mapping.specs.ServletMatch.{shown}
use Rattle.sv_mapping.specs.declared.servlet_match.Match.{Match}
use Rattle.sv_dispatch.specs.MappedPath.{mapped_path_by}

pub mapped_path_found : (patterns : mappings.Table) (path : List ℕ) (found : Match) (servlet_path : List ℕ) (path_info : Option (List ℕ)) → Some (shown path found) ≡ mappings.mapped patterns path →
    servlet_path ≡ take found.split path → path_info ≡ (if found.info then Some (drop found.split path) else None) →
    record { servlet = Some found.servlet; servlet_path = servlet_path; path_info = path_info } ≡ mapped_path_of patterns path
unfolding mapped_path_of shown
mapped_path_found patterns path found servlet_path path_info m s i = rw (s, i) (ap (mapped_path_by path) m)
