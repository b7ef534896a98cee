-- The session cookie of a context: how its name is spelled, and what it wants (RFC 6265, and the draft 6265bis).
use Rattle.std.specs.Prelude.{Bool, false, ◌&&◌, ◌||◌, not, ◌==◌, map, take, length, unwrap_or, codes, bytes_eq, is_none, Option, Some, None, if◌then◌else◌}
use Rattle.std.specs.Option.{option_map_or}
use Rattle.std.specs.Char.{to_ascii_lowercase}
use Rattle.toml.specs.Data.{Members}
use Rattle.sv_mapping.specs.Path.{Text}
use Rattle.sv_config.specs.Document.{text_at, text_or_empty, boolean_at}
use Rattle.sv_config.specs.declared.cookie.SameSite.{SameSite}
use Rattle.sv_config.specs.declared.cookie.SameSite.TheVariants.{Strict, Lax, None as Neither}

-- RFC 6265bis, section 4.1.2.7: the word of each value of the attribute SameSite
abbrev pub word_of : SameSite → Text
word_of Strict = codes "Strict"
word_of Lax = codes "Lax"
word_of Neither = codes "None"

abbrev pub same_site_of : Text → Option SameSite
same_site_of word =
    if bytes_eq word (codes "Strict") then Some Strict
    else if bytes_eq word (codes "Lax") then Some Lax
    else if bytes_eq word (codes "None") then Some Neither
    else None

abbrev pub is_same_site : Text → Bool
is_same_site word = not (is_none (same_site_of word))

-- RFC 6265bis, section 4.1.3: it begins as the prefix does, whatever the case of its letters
abbrev pub has_prefix : Text → Text → Bool
has_prefix prefix name = bytes_eq (map to_ascii_lowercase (take (length prefix) name)) (map to_ascii_lowercase prefix)

-- sections 4.1.3.1 and 4.1.3.2: such a cookie is taken with `Secure` alone
abbrev pub has_secure_prefix : Text → Bool
has_secure_prefix name = has_prefix (codes "__Secure-") name || has_prefix (codes "__Host-") name

abbrev pub is_secure : Members → Bool
is_secure cookie = unwrap_or (boolean_at (codes "secure") cookie) false

-- the cookie is for requests of all sites
abbrev pub is_cross_site : Members → Bool
is_cross_site cookie = option_map_or (λ word. bytes_eq word (codes "None")) (text_at (codes "same-site") cookie) false

abbrev pub has_secure_name : Members → Bool
has_secure_name cookie = option_map_or has_secure_prefix (text_at (codes "name") cookie) false

-- what a browser drops without `Secure`: a cookie for all sites, and one with a prefix
abbrev pub wants_secure : Members → Bool
wants_secure cookie = is_cross_site cookie || has_secure_name cookie

abbrev pub lacks_secure : Members → Bool
lacks_secure cookie = wants_secure cookie && not (is_secure cookie)

-- section 4.1.3.2: with the prefix `__Host-` its path is `/`, so its context is at the root
abbrev pub fits_context : Bool → Text → Bool
fits_context is_root name = is_root || not (has_prefix (codes "__Host-") name)

-- the context is at the root
abbrev pub is_root : Members → Bool
is_root context = length (text_or_empty (codes "path") context) == 0
