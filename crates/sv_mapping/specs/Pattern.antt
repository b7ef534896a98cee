-- The forms of a pattern, and the paths that it matches (Jakarta Servlet 6.0, sections 12.1 and 12.2).
use Rattle.std.specs.Prelude.{ℕ, Bool, true, false, ◌&&◌, ◌||◌, ◌==◌, ◌-◌, nat_lt, nat_le, nat_eq, not, [], length, take, drop, codes, bytes_eq, if◌then◌else◌}
use Rattle.std.specs.List.{starts_with, ends_with, list_all}
use Rattle.std.specs.Option.{option_map_or}
use Rattle.sv_mapping.specs.Path.{Text, is_at_or_below, extension_of}
use Rattle.sv_mapping.specs.declared.pattern.PatternForm.{PatternForm}
use Rattle.sv_mapping.specs.declared.pattern.PatternForm.TheVariants.{Exact, ContextRoot, Prefix, Extension, Default}

-- neither below the space nor DEL
abbrev pub is_printed : ℕ → Bool
is_printed c = nat_le 32 c && not (c == 127)

-- at most 256 bytes, and no control character among them
unfoldable pub is_pattern : Text → Bool
is_pattern text = nat_le (length text) 256 && list_all is_printed text

-- Section 12.2: `/` and then `/*` at the end is a prefix, `*.` at the front an extension, the empty text the
-- context root and `/` alone the default. Every other text is exact.
unfoldable pub form_of : Text → PatternForm
form_of pattern =
    if bytes_eq pattern [] then ContextRoot
    else if bytes_eq pattern (codes "/") then Default
    else if starts_with nat_eq pattern (codes "/") && ends_with nat_eq pattern (codes "/*") then Prefix
    else if starts_with nat_eq pattern (codes "*.") then Extension
    else Exact

-- what a prefix pattern has before its `/*`
abbrev pub prefix_of : Text → Text
prefix_of pattern = take (length pattern - 2) pattern

-- what an extension pattern has after its `*.`
abbrev pub suffix_of : Text → Text
suffix_of pattern = drop 2 pattern

-- the path's last segment has this extension
abbrev pub has_extension : Text → Text → Bool
has_extension extension path = option_map_or (bytes_eq extension) (extension_of path) false

-- Section 12.1: a pattern of each form and the paths that it matches.
abbrev pub matches_by : PatternForm → Text → Text → Bool
matches_by Exact pattern path = bytes_eq path pattern
matches_by ContextRoot pattern path = bytes_eq path (codes "/")
matches_by Prefix pattern path = is_at_or_below (prefix_of pattern) path
matches_by Extension pattern path = has_extension (suffix_of pattern) path
matches_by Default pattern path = true

unfoldable pub matches : Text → Text → Bool
matches pattern path = matches_by (form_of pattern) pattern path

-- the number of the rule of section 12.1 that a form goes by; the rules are tried in this order
abbrev pub rule_of_form : PatternForm → ℕ
rule_of_form Exact = 1
rule_of_form ContextRoot = 1
rule_of_form Prefix = 2
rule_of_form Extension = 3
rule_of_form Default = 4

unfoldable pub rule_of : Text → ℕ
rule_of pattern = rule_of_form (form_of pattern)

-- a's rule is tried before b's, or both go by one rule and a is the longer
unfoldable pub precedes : Text → Text → Bool
precedes a b = nat_lt (rule_of a) (rule_of b) || (rule_of a == rule_of b && nat_lt (length b) (length a))
