-- BadPattern: each pattern that cannot be read as one; each context path, name, path of an error page or of a file, and
-- value of Cache-Control that is badly spelled; the name of a cookie that its context cannot have.
use Rattle.std.specs.Prelude.{ℕ, Bool, true, false, ◌&&◌, ◌||◌, ◌++◌, not, nat_le, nat_eq, ◌==◌, List, [], length, drop, codes, bytes_eq, if◌then◌else◌}
use Rattle.std.specs.Option.{option_map_or}
use Rattle.std.specs.List.{list_any, list_all, starts_with, ends_with, slice_split}
use Rattle.toml.specs.Data.{Members}
use Rattle.sv_mapping.specs.Path.{Text}
use Rattle.sv_mapping.specs.Pattern.{is_pattern, form_of}
use Rattle.sv_mapping.specs.declared.pattern.PatternForm.{PatternForm}
use Rattle.sv_mapping.specs.declared.pattern.PatternForm.TheVariants.{Exact, ContextRoot, Prefix, Extension, Default}
use Rattle.sv_config.specs.Cookie.{fits_context, is_root}
use Rattle.sv_config.specs.Document.{has, text_at, table_at}
use Rattle.sv_config.specs.Keys.{is_unfit}
use Rattle.sv_config.specs.Place.{Spot, PlacedTable, number_of, field_where, members_where}
use Rattle.sv_config.specs.declared.members.Unfit.TheVariants.{NoPattern}
use Rattle.sv_config.specs.declared.place.TablePlace.TheVariants.{Single}
use Rattle.sv_config.specs.declared.rules.TableKind.{TableKind}
use Rattle.sv_config.specs.declared.rules.TableKind.TheVariants.{Context, Servlet, Filter, Mapping, Listener, Page, File, Cookie}

-- an ASCII letter or digit
abbrev pub is_alphanumeric : ℕ → Bool
is_alphanumeric c = (nat_le 65 c && nat_le c 90) || (nat_le 97 c && nat_le c 122) || (nat_le 48 c && nat_le c 57)

-- a letter, a digit, `-` or `_`
abbrev pub is_name_char : ℕ → Bool
is_name_char c = is_alphanumeric c || (c == 45 || c == 95)

-- letters, digits, `-` and `_`
abbrev pub is_name : Text → Bool
is_name text = list_all is_name_char text

-- a letter, a digit, `-`, `.`, `_` or `~`
abbrev pub is_path_char : ℕ → Bool
is_path_char c = is_alphanumeric c || (c == 45 || (c == 46 || (c == 95 || c == 126)))

-- something of such characters, but neither `.` nor `..`
abbrev pub is_segment : Text → Bool
is_segment text = not (length text == 0) && (list_all is_path_char text && not (bytes_eq text (codes ".") || bytes_eq text (codes "..")))

-- nothing, or `/` with a segment, once or more
unfoldable pub is_context_path : Text → Bool
is_context_path text =
    length text == 0
    || (starts_with nat_eq text (codes "/") && list_all is_segment (slice_split (λ c. c == 47) (drop 1 text)))

-- it begins with `/` and has at most 256 bytes
abbrev pub is_page_path : Text → Bool
is_page_path text = starts_with nat_eq text (codes "/") && nat_le (length text) 256

-- RFC 9110, section 5.6.2: a character of a token
abbrev pub is_token_char : ℕ → Bool
is_token_char c = is_alphanumeric c || list_any (λ mark. mark == c) (codes "!#$%&'*+-.^_`|~")

-- RFC 6265, section 4.1.1: the name of a cookie is a token
abbrev pub is_token : Text → Bool
is_token text = list_all is_token_char text

-- a segment that does not begin with a dot
abbrev pub is_file_segment : Text → Bool
is_file_segment text = is_segment text && not (starts_with nat_eq text (codes "."))

-- at most 256 bytes: segments that do not begin with a dot, with `/` between them
unfoldable pub is_file_path : Text → Bool
is_file_path text = nat_le (length text) 256 && list_all is_file_segment (slice_split (λ c. c == 47) text)

-- it ends in `/*` and begins with `/`
abbrev pub is_prefix_form : PatternForm → Bool
is_prefix_form Prefix = true
is_prefix_form Exact = false
is_prefix_form ContextRoot = false
is_prefix_form Extension = false
is_prefix_form Default = false

-- nothing, or it begins with `/` or `*.`, as no name does
abbrev pub is_path_pattern : Text → Bool
is_path_pattern text = length text == 0 || (starts_with nat_eq text (codes "/") || starts_with nat_eq text (codes "*."))

abbrev pub has_file_form : Bool → Text → Bool
has_file_form for_folder text = if for_folder then is_prefix_form (form_of text) else is_path_pattern text

-- a pattern that a path can match; for a folder one of all that is below a path
abbrev pub is_file_pattern : Bool → Text → Bool
is_file_pattern for_folder text = is_pattern text && has_file_form for_folder text

-- RFC 9110, section 5.5: visible characters of ASCII, and spaces that stand neither first nor last; 1 to 256 bytes
abbrev pub is_field_char : ℕ → Bool
is_field_char c = nat_le 32 c && nat_le c 126

abbrev pub has_outer_space : Text → Bool
has_outer_space text = starts_with nat_eq text (codes " ") || ends_with nat_eq text (codes " ")

abbrev pub has_field_length : Text → Bool
has_field_length text = not (length text == 0) && nat_le (length text) 256

abbrev pub is_cache_control : Text → Bool
is_cache_control text = has_field_length text && (list_all is_field_char text && not (has_outer_space text))

-- the text at a key is there and does not pass
abbrev pub fails_at : (Text → Bool) → Text → Members → Bool
fails_at test key t = option_map_or (λ text. not (test text)) (text_at key t) false

abbrev pub misspelled_at : (Text → Bool) → PlacedTable → Text → List Spot
misspelled_at test p key = field_where (fails_at test key p.1) p key

-- the name of a context's cookie that is for a context at the root, where this one is not
abbrev pub stray_cookie : PlacedTable → List Spot
stray_cookie p =
    option_map_or (λ cookie. misspelled_at (fits_context (is_root p.1)) (Single (number_of p.0) Cookie, cookie) (codes "name"))
    (table_at (codes "cookie") p.1) []

unfoldable pub misspelled_file : PlacedTable → List Spot
misspelled_file p =
    misspelled_at (is_file_pattern (has (codes "folder") p.1)) p (codes "path") ++ misspelled_at is_file_path p (codes "file")
    ++ misspelled_at is_file_path p (codes "folder") ++ misspelled_at is_cache_control p (codes "cache")

abbrev pub misspelled_in : TableKind → PlacedTable → List Spot
misspelled_in Context p = misspelled_at is_context_path p (codes "path") ++ stray_cookie p
misspelled_in Servlet p = misspelled_at is_name p (codes "name") ++ members_where (is_unfit NoPattern) p (codes "patterns")
misspelled_in Filter p = misspelled_at is_name p (codes "name")
misspelled_in Mapping p = misspelled_at is_pattern p (codes "pattern")
misspelled_in Listener p = misspelled_at is_name p (codes "name")
misspelled_in Page p = misspelled_at is_page_path p (codes "path")
misspelled_in File p = misspelled_file p
misspelled_in Cookie p = misspelled_at is_token p (codes "name")
misspelled_in _ p = []
