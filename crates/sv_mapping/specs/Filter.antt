-- The filters of a dispatch, in the order in which they are called (Jakarta Servlet 6.0, section 6.2.4).
use Rattle.std.specs.Prelude.{ℕ, Bool, false, ◌==◌, not, List, [], ◌∷◌, ◌++◌, map, filter, Option}
use Rattle.std.specs.Option.{option_map_or}
use Rattle.sv_mapping.specs.Path.{Text}
use Rattle.sv_mapping.specs.Pattern.{matches}
use Rattle.sv_mapping.specs.Dispatcher.{carries}
use Rattle.sv_mapping.specs.declared.dispatcher.Dispatcher.{Dispatcher}
use Rattle.sv_mapping.specs.declared.filter.FilterTarget.{FilterTarget}
use Rattle.sv_mapping.specs.declared.filter.FilterTarget.TheVariants.{Pattern, Servlet}
use Rattle.sv_mapping.specs.declared.filter.FilterMapping.{FilterMapping}

-- a target is a pattern that matches the path
abbrev pub matches_path : Text → FilterTarget → Bool
matches_path path (Pattern pattern) = matches pattern path
matches_path path (Servlet servlet) = false

-- a target names the servlet
abbrev pub names_servlet : Option ℕ → FilterTarget → Bool
names_servlet servlet (Pattern pattern) = false
names_servlet servlet (Servlet named) = option_map_or (λ its. its == named) servlet false

-- the filters of the mappings that pass, in their order
abbrev pub filters_where : (FilterMapping → Bool) → List FilterMapping → List ℕ
filters_where passes mappings = map (λ mapping. mapping.filter) (filter passes mappings)

-- each number at its first place
abbrev pub without_repeats : List ℕ → List ℕ
without_repeats [] = []
without_repeats (first ∷ others) = first ∷ filter (λ other. not (other == first)) (without_repeats others)

-- Of the mappings for the dispatcher: the filters whose patterns match the path, then those that name the servlet,
-- without later repeats.
abbrev pub chain : List FilterMapping → Text → Option ℕ → Dispatcher → List ℕ
chain mappings path servlet dispatcher =
    let its = filter (λ mapping. carries mapping.dispatchers dispatcher) mappings in
    without_repeats (filters_where (λ mapping. matches_path path mapping.target) its ++ filters_where (λ mapping. names_servlet servlet mapping.target) its)
