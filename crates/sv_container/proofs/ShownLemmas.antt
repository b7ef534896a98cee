-- How a path within a context is shown.
use Rattle.sv_container.proofs.Prelude.{◌≡◌, ℕ, List, [], ◌∷◌, ◌++◌, ◌∙◌, ap, refl, sym, true, Some, None, take, drop, length, append-nil, bytes_eq-Decides}
use Rattle.std.proofs.Common.{codes, if◌then◌else◌}
use Rattle.std.proofs.lemmas.List.{take-append-drop}
use Rattle.sv_mapping.proofs.PathLemmas.{IsFront-from_test}
use Rattle.sv_mapping.specs.Mappings as mappings
use Rattle.sv_mapping.specs.Pattern.{form_of, matches, matches_by, prefix_of}
use Rattle.sv_mapping.specs.ServletMatch.{Mapped, mapped_by, nonempty_text, path_info_by, servlet_path_by, shown}
use Rattle.sv_mapping.specs.declared.pattern.PatternForm.{PatternForm}
use Rattle.sv_mapping.specs.declared.pattern.PatternForm.TheVariants.{ContextRoot, Default, Exact, Extension, Prefix}
use Rattle.sv_mapping.specs.declared.servlet_match.Match.{Match}
use Rattle.sv_dispatch.specs.MappedPath.{mapped_path_of, mapped_path_by}
use Rattle.sv_dispatch.specs.Pages.{joined_path}

pub servlet_found : (patterns : mappings.Table) (path : List ℕ) (found : Match) → Some (shown path found) ≡ mappings.mapped patterns path
    → Some found.servlet ≡ (mapped_path_of patterns path).servlet
unfolding mapped_path_of shown
servlet_found patterns path found m = ap (λ o. (mapped_path_by path o).servlet) m

pub servlet_missing : (patterns : mappings.Table) (path : List ℕ) → None ≡ mappings.mapped patterns path → None ≡ (mapped_path_of patterns path).servlet
unfolding mapped_path_of
servlet_missing patterns path m = ap (λ o. (mapped_path_by path o).servlet) m

pub path_found : (patterns : mappings.Table) (path : List ℕ) (found : Match) → Some (shown path found) ≡ mappings.mapped patterns path
    → take found.split path ≡ (mapped_path_of patterns path).servlet_path
unfolding mapped_path_of shown
path_found patterns path found m = ap (λ o. (mapped_path_by path o).servlet_path) m

pub info_found : (patterns : mappings.Table) (path : List ℕ) (found : Match) → Some (shown path found) ≡ mappings.mapped patterns path
    → (if found.info then Some (drop found.split path) else None) ≡ (mapped_path_of patterns path).path_info
unfolding mapped_path_of shown
info_found patterns path found m = ap (λ o. (mapped_path_by path o).path_info) m

pub path_missing : (patterns : mappings.Table) (path : List ℕ) → None ≡ mappings.mapped patterns path → path ≡ (mapped_path_of patterns path).servlet_path
unfolding mapped_path_of
path_missing patterns path m = ap (λ o. (mapped_path_by path o).servlet_path) m

pub info_missing : (patterns : mappings.Table) (path : List ℕ) → None ≡ mappings.mapped patterns path → None ≡ (mapped_path_of patterns path).path_info
unfolding mapped_path_of
info_missing patterns path m = ap (λ o. (mapped_path_by path o).path_info) m

-- ---- the servlet path and the path info together are the path

behind : (front rest : List ℕ) → joined_path front (nonempty_text rest) ≡ front ++ rest
behind front [] = sym (append-nil front)
behind front (c ∷ cs) = refl

whole_by : (form : PatternForm) (pattern path : List ℕ) → matches_by form pattern path ≡ true → joined_path (servlet_path_by form pattern path) (path_info_by form pattern path) ≡ path
whole_by Exact pattern path matching = refl
whole_by ContextRoot pattern path matching = sym ((bytes_eq-Decides path (codes "/")).0 matching)
whole_by Prefix pattern path matching =
    let front : List ℕ = prefix_of pattern in
    let rest : List ℕ = drop (length front) path in
    behind front rest ∙ ap (λ (t : List ℕ). t ++ rest) (sym (IsFront-from_test front path matching).is) ∙ take-append-drop (length front) path
whole_by Extension pattern path matching = refl
whole_by Default pattern path matching = refl

pub whole_found : (patterns : mappings.Table) (path : List ℕ) (found : Match) → mappings.IsBestMatch patterns path found
    → joined_path (take found.split path) (if found.info then Some (drop found.split path) else None) ≡ path
unfolding matches mapped_by shown
whole_found patterns path found (pattern, best, its) = ap (λ (m : Mapped). joined_path m.servlet_path m.path_info) its.parts ∙ whole_by (form_of pattern) pattern path best.matching
