-- A text that begins with `/`: what it spells, and that it is read as a path within a context is.
use Rattle.sv_target.proofs.Prelude.{◌≡◌, ◌≢◌, ℕ, suc, ◌≤◌, ◌==◌, Bool, true, false, List, [], ◌∷◌, length, get_or, Option, Some, None, refl, sym, ap, ◌∙◌}
use Rattle.sv_target.proofs.Prelude.{subst, inl, inr, take, ◌++◌, arith, IsUtf8, nat_le, bytes_eq, codes, list_any, list_all, cases_Bool, and_parts}
use Rattle.sv_target.proofs.Prelude.{bytes_eq-Decides, is_path_byte, index_of, query_of, Spells, is_some, if◌then◌else◌, Target, is_refused_byte}
use Rattle.sv_target.proofs.Prelude.{is_origin_form, target_at, target_within, IsTarget, IsBadTarget}
use Rattle.std.proofs.Common.{◌||◌, ◌&&◌, not, IfSome, one-add, take_all, le-leb, leb-true, ne_eqb}
use Rattle.std.proofs.lemmas.List.Sums.{AllPass-from_list_all, list_all-from_AllPass}
use Rattle.http_uri.specs.declared.uri.Uri.{Uri}
use Rattle.http_uri.specs.ByteClasses.{is_query_byte, split_once_front}
use Rattle.http_uri.specs.Grammar.{AllPass, IsForm, IsPathAndQuery, path_of, without_fragment}
use Rattle.http_uri.specs.Uri.{uri_scheme, uri_authority, uri_data}
use Rattle.http_uri.proofs.UriLemmas.{IsAuthority_first, cut_first}
use Rattle.http_uri.proofs.Theorems.{Spells_unique}
use Rattle.sv_target.specs.Target.{has_query_bytes, is_served_form, target_of, IsOneTarget, IsReadWithin}

-- a text without a `#` is kept whole
no_hash : (text : List ℕ) → list_any is_refused_byte text ≡ false → index_of 35 text ≡ length text
no_hash [] clean = refl
no_hash (b ∷ text) clean =
    elim (cases_Bool (b == 35)) [
      | inl hash ↦ let never = rw hash at clean in cc
      | inr other ↦ elim (cases_Bool (b == 92)) [
        | inl backslash ↦ let never = rw (other, backslash) at clean in cc
        | inr plain ↦ rw (other, one-add) (ap suc (no_hash text (rw (other, plain) at clean)))
      ]
    ]

whole : (text : List ℕ) → list_any is_refused_byte text ≡ false → without_fragment text ≡ text
whole text clean = take_all (index_of 35 text) text (omega (arith, no_hash text clean))

-- what a text that begins with `/` spells
record Origin (text : List ℕ) (scheme authority : Option (List ℕ)) (kept : List ℕ) : Type 0 where
  no_scheme : scheme ≡ None
  no_authority : authority ≡ None
  all : kept ≡ text
  path : IsPathAndQuery text

origin : (text : List ℕ) (scheme authority : Option (List ℕ)) (kept : List ℕ) → get_or text 0 0 ≡ 47
    → list_any is_refused_byte text ≡ false → IsForm text scheme authority kept → Origin text scheme authority kept
origin text None None kept first clean h =
    let is = whole text clean in
    record { no_scheme = refl; no_authority = refl; all = h.1 ∙ is; path = subst IsPathAndQuery is h.0.1.kept }
origin text None (Some a) kept first clean h = absurd (IsAuthority_first text h.0 first)
origin text (Some s) None kept first clean h = absurd h
origin text (Some s) (Some a) kept first clean h = absurd (cut_first text s a kept h first)

-- ---- from the form to the test

query_passes : (query : Option (List ℕ)) → IfSome query (AllPass is_query_byte) → has_query_bytes query ≡ true
query_passes None h = refl
query_passes (Some q) h = list_all-from_AllPass is_query_byte q h

query_bytes : (query : Option (List ℕ)) → has_query_bytes query ≡ true → IfSome query (AllPass is_query_byte)
query_bytes None h = tt
query_bytes (Some q) h = AllPass-from_list_all is_query_byte q h

passes : (rest : List ℕ) → IsPathAndQuery (47 ∷ rest) → is_origin_form (47 ∷ rest) ≡ true
unfolding is_origin_form
passes rest h =
    rw (
      list_all-from_AllPass is_path_byte (split_once_front 63 (47 ∷ rest)) h.path,
      query_passes (query_of (47 ∷ rest)) h.query,
      le-leb (length (47 ∷ rest)) 65534 h.short,
    )

-- ---- and back

path_and_query : (rest : List ℕ) → IsUtf8 (47 ∷ rest) → list_all is_path_byte (split_once_front 63 (47 ∷ rest)) ≡ true
    → has_query_bytes (query_of (47 ∷ rest)) ≡ true → length (47 ∷ rest) ≤ 65534 → IsPathAndQuery (47 ∷ rest)
path_and_query rest text path query short = record {
  start = inr (inr (inl refl));
  path = AllPass-from_list_all is_path_byte (split_once_front 63 (47 ∷ rest)) path;
  query = query_bytes (query_of (47 ∷ rest)) query;
  utf8 = text;
  short = short;
}

spelled : (rest : List ℕ) → list_any is_refused_byte (47 ∷ rest) ≡ false → IsPathAndQuery (47 ∷ rest)
    → (length (47 ∷ rest) ≤ 65534) × IsForm (47 ∷ rest) None None (47 ∷ rest)
spelled rest clean h =
    let is = whole (47 ∷ rest) clean in
    (h.short, ((inr refl, record { start = inr refl; short = h.short; kept = subst IsPathAndQuery (sym is) h }), sym is))

-- what the test says of a text
form_of : (rest : List ℕ) → IsUtf8 (47 ∷ rest) → is_origin_form (47 ∷ rest) ≡ true → IsPathAndQuery (47 ∷ rest)
unfolding is_origin_form
form_of rest text is =
    let path = list_all is_path_byte (split_once_front 63 (47 ∷ rest)) in
    let query = has_query_bytes (query_of (47 ∷ rest)) in
    let short = nat_le (length (47 ∷ rest)) 65534 in
    let all : (path && query && short) ≡ true = is in
    let last = and_parts (path && query) short all in
    let more = and_parts path query last.0 in
    path_and_query rest text more.0 more.1 (leb-true (length (47 ∷ rest)) 65534 last.1)

-- ---- the target

-- the target of the parts of a URI
abbrev by_parts : Option (List ℕ) → Option (List ℕ) → List ℕ → Option Target
by_parts scheme authority kept =
    if is_served_form scheme authority
    then target_at (if not (length kept == 0) || is_some scheme then path_of kept else []) (query_of kept) else None

parts_alike : (s s₂ a a₂ : Option (List ℕ)) (k k₂ : List ℕ) → s ≡ s₂ → a ≡ a₂ → k ≡ k₂ → by_parts s a k ≡ by_parts s₂ a₂ k₂
parts_alike s s₂ a a₂ k k₂ scheme authority kept = rw (scheme, authority, kept)

of_parts : (uri : Uri) → target_of uri ≡ by_parts (uri_scheme uri) (uri_authority uri) (uri_data uri)
unfolding target_of
of_parts uri = refl

rooted : (rest : List ℕ) → by_parts None None (47 ∷ rest) ≡ target_at (path_of (47 ∷ rest)) (query_of (47 ∷ rest))
rooted rest = rw (ne_eqb (length (47 ∷ rest)) 0 (omega arith))

of_origin : (rest : List ℕ) (uri : Uri) → uri_scheme uri ≡ None → uri_authority uri ≡ None → uri_data uri ≡ 47 ∷ rest
    → target_of uri ≡ target_at (path_of (47 ∷ rest)) (query_of (47 ∷ rest))
of_origin rest uri scheme authority all = of_parts uri ∙ parts_alike _ _ _ _ _ _ scheme authority all ∙ rooted rest

within : (rest : List ℕ) (uri : Uri) → list_any is_refused_byte (47 ∷ rest) ≡ false → Spells (47 ∷ rest) uri
    → target_within (47 ∷ rest) ≡ target_of uri
unfolding target_within
within rest uri clean spells =
    let o = origin (47 ∷ rest) (uri_scheme uri) (uri_authority uri) (uri_data uri) refl clean spells.1 in
    rw (clean, passes rest o.path) (sym (of_origin rest uri o.no_scheme o.no_authority o.all))

pub within_ok : (rest : List ℕ) (target : Target) → IsTarget (47 ∷ rest) target → target_within (47 ∷ rest) ≡ Some target
within_ok rest target (clean, (uri, spells, is)) = within rest uri clean spells ∙ is

refused : (rest : List ℕ) → list_any is_refused_byte (47 ∷ rest) ≡ true → target_within (47 ∷ rest) ≡ None
unfolding target_within
refused rest bad = rw bad

not_origin : (rest : List ℕ) → list_any is_refused_byte (47 ∷ rest) ≡ false → is_origin_form (47 ∷ rest) ≡ false → target_within (47 ∷ rest) ≡ None
unfolding target_within
not_origin rest clean other = rw (clean, other)

clean_bad : (rest : List ℕ) → IsUtf8 (47 ∷ rest) → list_any is_refused_byte (47 ∷ rest) ≡ false → IsBadTarget (47 ∷ rest) → target_within (47 ∷ rest) ≡ None
clean_bad rest text clean (inl found) = let never = rw clean at found in cc
clean_bad rest text clean (inr (inl none)) =
    elim (cases_Bool (is_origin_form (47 ∷ rest))) [
      | inl is ↦ absurd (none None None (47 ∷ rest) (spelled rest clean (form_of rest text is)))
      | inr other ↦ not_origin rest clean other
    ]
clean_bad rest text clean (inr (inr (uri, spells, is))) = within rest uri clean spells ∙ is

pub within_bad : (rest : List ℕ) → IsUtf8 (47 ∷ rest) → IsBadTarget (47 ∷ rest) → target_within (47 ∷ rest) ≡ None
within_bad rest text bad =
    elim (cases_Bool (list_any is_refused_byte (47 ∷ rest))) [
      | inl found ↦ refused rest found
      | inr clean ↦ clean_bad rest text clean bad
    ]

unrooted_bytes : (text : List ℕ) → ((rest : List ℕ) → text ≢ 47 ∷ rest) → bytes_eq (take 1 text) (codes "/") ≡ false
unrooted_bytes [] never = refl
unrooted_bytes (b ∷ text) never =
    elim (cases_Bool (bytes_eq (b ∷ []) (codes "/"))) [
      | inl same ↦ absurd (never text (ap (λ (t : List ℕ). t ++ text) ((bytes_eq-Decides (b ∷ []) (codes "/")).0 same)))
      | inr other ↦ other
    ]

pub unrooted_within : (text : List ℕ) → ((rest : List ℕ) → text ≢ 47 ∷ rest) → target_within text ≡ None
unfolding target_within is_origin_form
unrooted_within text never =
    elim (cases_Bool (list_any is_refused_byte text)) [
      | inl found ↦ rw found
      | inr clean ↦ rw (clean, unrooted_bytes text never)
    ]

-- ---- one target

one : (raw : List ℕ) (uri other : Uri) → Spells raw uri → Spells raw other → target_of uri ≡ target_of other
one raw uri other spells too =
    let same = Spells_unique raw uri other spells too in
    of_parts uri ∙ parts_alike _ _ _ _ _ _ same.0 same.1 same.2 ∙ sym (of_parts other)

is_one : (raw : List ℕ) (target other : Target) → IsTarget raw target → IsTarget raw other → other ≡ target
is_one raw target other (clean, (uri, spells, is)) (_, (uri₂, spells₂, is₂)) =
    let same : Some other ≡ Some target = sym is₂ ∙ one raw uri₂ uri spells₂ spells ∙ is in cc

is_none_else : (raw : List ℕ) (target : Target) → IsTarget raw target → IsBadTarget raw → ⊥
is_none_else raw target (clean, h) (inl bad) = let never = rw clean at bad in cc
is_none_else raw target (clean, (uri, spells, is)) (inr (inl none)) = none (uri_scheme uri) (uri_authority uri) (uri_data uri) spells
is_none_else raw target (clean, (uri, spells, is)) (inr (inr (other, too, not_one))) =
    let never : Some target ≡ None = sym is ∙ one raw uri other spells too ∙ not_one in cc

pub one_target : IsOneTarget
one_target raw target is = (λ other too. is_one raw target other is too, is_none_else raw target is)

-- ---- within a context

-- the URI of a text in origin-form
uri_of : List ℕ → Uri
uri_of rest = record { scheme = None; authority = None; path_and_query = 47 ∷ rest; absolute = λ x none. cc; authority_alone = λ alone x none. cc }

back : (rest : List ℕ) → IsUtf8 (47 ∷ rest) → (target : Target) → target_within (47 ∷ rest) ≡ Some target → IsTarget (47 ∷ rest) target
unfolding uri_of
back rest text target found =
    elim (cases_Bool (list_any is_refused_byte (47 ∷ rest))) [
      | inl hit ↦ let never : Some target ≡ None = sym found ∙ refused rest hit in cc
      | inr clean ↦ elim (cases_Bool (is_origin_form (47 ∷ rest))) [
        | inl is ↦
            let spells = spelled rest clean (form_of rest text is) in
            (clean, (uri_of rest, spells, sym (within rest (uri_of rest) clean spells) ∙ found))
        | inr other ↦ let never : Some target ≡ None = sym found ∙ not_origin rest clean other in cc
      ]
    ]

pub read_within : IsReadWithin
read_within rest text = (λ target is. within_ok rest target is, λ bad. within_bad rest text bad, λ target found. back rest text target found)
