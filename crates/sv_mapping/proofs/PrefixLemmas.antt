-- The search for the longest prefix, from the whole path back to its first slash.
use Rattle.sv_mapping.proofs.Prelude.{◌≡◌, ◌≢◌, ℕ, suc, ◌+◌, ◌<◌, ◌≤◌, ◌⊎◌, Bool, true, cond, [], ◌∷◌, ◌++◌, length, take, drop, get_or, Some, None, sym, ap}
use Rattle.sv_mapping.proofs.Prelude.{◌∙◌, inl, inr, codes, arith, length-append, get, contains_key, cases_lt, false_from_ne_true, nat_tests, Text}
use Rattle.sv_mapping.proofs.Prelude.{is_at_or_below, form_of, prefix_of, matches, rule_of, servlet_path_by, path_info_by, mapped_by, shown, Table}
use Rattle.sv_mapping.proofs.Prelude.{IsBestByRule, AnswersByRule, Prefix}
use Rattle.std.proofs.Common.{ltb, length-drop}
use Rattle.std.proofs.lemmas.List.{take-take, get_or-take, get_or_append_left, length-take-le}
use Rattle.sv_mapping.specs.ServletMatch.{nonempty_text}
use Rattle.sv_mapping.proofs.PathLemmas.{IsFront, IsFront-boundary, IsFront-from_test, IsFront-unique, is_at_or_below-self, is_at_or_below-take}
use Rattle.sv_mapping.proofs.PatternLemmas.{prefix_text, prefix_slash, prefix_of-append, form_of-prefix, form_of-any, rule_of-form, prefix_by_rule, matches-form}
use Rattle.sv_mapping.proofs.MatchLemmas.{absent}

-- the path is empty or begins with a slash
abbrev pub IsRooted : Text → Type 0
IsRooted path = 0 < length path → get_or path 0 0 ≡ 47

-- the path lies below the front, and the table has no prefix pattern of a longer front
pub record SearchedDownTo (table : Table) (path front : Text) : Type 0 where
  pub below : is_at_or_below front path ≡ true
  pub longer : (other : Text) → is_at_or_below other path ≡ true → length front < length other → get table (other ++ codes "/*") ≡ None

-- the table has no prefix pattern of any front
abbrev pub HasNoPrefix : Table → Text → Type 0
HasNoPrefix table path = (front : Text) → is_at_or_below front path ≡ true → get table (front ++ codes "/*") ≡ None

module _ (table : Table) (path : Text) where
  pub searched-start : SearchedDownTo table path path
  searched-start = record {
    below = is_at_or_below-self path;
    longer = λ other below long. let front = IsFront-from_test other path below in absurd (omega (arith, front.fits));
  }

  module _ (front : Text) (searched : SearchedDownTo table path front) (none : get table (front ++ codes "/*") ≡ None) where
    -- from the front down to where its last slash stands
    no_prefix_from : (n : ℕ) → ((i : ℕ) → n ≤ i → i < length front → get_or front i 0 ≢ 47) → (other : Text) → is_at_or_below other path ≡ true → n ≤ length other → get table (other ++ codes "/*") ≡ None
    no_prefix_from n no_slash other below low =
        let this = IsFront-from_test front path searched.below in
        let that = IsFront-from_test other path below in
        elim (cases_lt (length front) (length other)) [
          | inl longer ↦ searched.longer other below longer
          | inr upto ↦ elim (cases_lt (length other) (length front)) [
            | inl shorter ↦
                let same : get_or front (length other) 0 ≡ get_or path (length other) 0 = ap (λ (t : Text). get_or t (length other) 0) (sym this.is) ∙ get_or-take (length front) path (length other) 0 shorter in
                absurd (no_slash (length other) low shorter (same ∙ that.next (omega (arith, this.fits))))
            | inr least ↦
                let equal : length other ≡ length front = omega arith in
                ap (λ t. get table (t ++ codes "/*")) (IsFront-unique other front path that this equal) ∙ none
          ]
        ]

    pub searched-more : (slash : ℕ) → slash < length front → get_or front slash 0 ≡ 47 → ((i : ℕ) → slash < i → i < length front → get_or front i 0 ≢ 47) → SearchedDownTo table path (take slash front)
    searched-more slash within is none_behind =
        let this = IsFront-from_test front path searched.below in
        let at_path : get_or path slash 0 ≡ 47 = sym (get_or-take (length front) path slash 0 within) ∙ ap (λ (t : Text). get_or t slash 0) this.is ∙ is in
        let shorter : take slash front ≡ take slash path = ap (take slash) (sym this.is) ∙ take-take slash (length front) path (omega arith) in
        let long : length (take slash front) ≡ slash = length-take-le slash front (omega arith) in
        record {
          below = ap (λ t. is_at_or_below t path) shorter ∙ is_at_or_below-take path slash (omega (arith, this.fits)) at_path;
          longer = λ other below longer. no_prefix_from (slash + 1) (λ i low high. none_behind i (omega arith) high) other below (omega arith);
        }

    pub searched-all : ((i : ℕ) → i < length front → get_or front i 0 ≢ 47) → HasNoPrefix table path
    searched-all no_slash other below = no_prefix_from 0 (λ i _ high. no_slash i high) other below (omega arith)

-- no pattern of the second rule matches
pub no_prefix : (table : Table) (path : Text) → HasNoPrefix table path → AnswersByRule table path 2 None
no_prefix table path none pattern listed rule = false_from_ne_true _ (λ matching.
    let form = prefix_by_rule pattern rule in
    let below = sym (matches-form pattern path Prefix form) ∙ matching in
    absent table pattern (ap (get table) (prefix_text pattern form) ∙ none (prefix_of pattern) below) listed)

-- a path that is neither empty nor begins with a slash lies below no prefix
pub unrooted_none : (table : Table) (path : Text) → 0 < length path → get_or path 0 0 ≢ 47 → AnswersByRule table path 2 None
unrooted_none table path some no_slash pattern listed rule = false_from_ne_true _ (λ matching.
    let form = prefix_by_rule pattern rule in
    let front = prefix_of pattern in
    let this = IsFront-from_test front path (sym (matches-form pattern path Prefix form) ∙ matching) in
    elim (cases_lt 0 (length front)) [
      | inl long ↦
          let of_front : get_or pattern 0 0 ≡ get_or front 0 0 = ap (λ (t : Text). get_or t 0 0) (prefix_text pattern form) ∙ get_or_append_left front (codes "/*") 0 0 long in
          let of_path : get_or front 0 0 ≡ get_or path 0 0 = ap (λ (t : Text). get_or t 0 0) (sym this.is) ∙ get_or-take (length front) path 0 0 long in
          no_slash (sym of_path ∙ sym of_front ∙ ap (λ (t : Text). get_or t 0 0) (prefix_slash pattern form))
      | inr empty ↦
          let none : length front ≡ 0 = omega arith in
          no_slash (ap (λ n. get_or path n 0) (sym none) ∙ this.next (omega arith))
    ])

form_of-rooted : (front : Text) → IsRooted front → form_of (front ++ codes "/*") ≡ Prefix
form_of-rooted [] rooted = form_of-any
form_of-rooted (c ∷ cs) rooted = ap (λ b. form_of (b ∷ (cs ++ codes "/*"))) (rooted (omega arith)) ∙ form_of-prefix cs

rest_or_none : (rest : Text) (b : Bool) → b ≡ ltb 0 (length rest) → cond b (Some rest) None ≡ nonempty_text rest
rest_or_none [] b e = ap (λ x. cond x (Some []) None) e
rest_or_none (c ∷ cs) b e = let long : ltb 0 (suc (length cs)) ≡ true = grind (arith, nat_tests) in ap (λ x. cond x (Some (c ∷ cs)) None) (e ∙ long)

-- the path info behind a front
info_behind : (n : ℕ) (path : Text) → cond (ltb n (length path)) (Some (drop n path)) None ≡ nonempty_text (drop n path)
info_behind n path =
    let left = length-drop n path in
    let more : ltb n (length path) ≡ ltb 0 (length (drop n path)) = grind (arith, nat_tests, left) in
    rest_or_none (drop n path) _ more

module _ (table : Table) (path front : Text) (rooted : IsRooted path) (searched : SearchedDownTo table path front) where
  this : IsFront front path
  this = IsFront-from_test front path searched.below

  front_form : form_of (front ++ codes "/*") ≡ Prefix
  front_form = form_of-rooted front (λ long.
      let of_path : get_or front 0 0 ≡ get_or path 0 0 = ap (λ (t : Text). get_or t 0 0) (sym this.is) ∙ get_or-take (length front) path 0 0 long in
      of_path ∙ rooted (omega (arith, this.fits)))

  front_parts : (servlet : ℕ) → shown path (record { servlet = servlet; split = length front; info = ltb (length front) (length path) }) ≡ mapped_by (front ++ codes "/*") servlet path
  unfolding shown mapped_by
  front_parts servlet =
      let pattern = front ++ codes "/*" in
      let path_shown : take (length front) path ≡ servlet_path_by (form_of pattern) pattern path = this.is ∙ sym (ap (λ g. servlet_path_by g pattern path) front_form ∙ prefix_of-append front) in
      let info_shown : cond (ltb (length front) (length path)) (Some (drop (length front) path)) None ≡ path_info_by (form_of pattern) pattern path =
      info_behind (length front) path ∙ ap (λ (t : Text). nonempty_text (drop (length t) path)) (sym (prefix_of-append front)) ∙ sym (ap (λ g. path_info_by g pattern path) front_form) in
      λ i. record { servlet = servlet; servlet_path = path_shown i; path_info = info_shown i }

  longer_last : (other : Text) → contains_key table other ≡ true → rule_of other ≡ 2 → matches other path ≡ true → (other ≡ front ++ codes "/*") ⊎ (length other < length (front ++ codes "/*"))
  longer_last other listed rule matching =
      let form = prefix_by_rule other rule in
      let its = prefix_of other in
      let text : other ≡ its ++ codes "/*" = prefix_text other form in
      let below : is_at_or_below its path ≡ true = sym (matches-form other path Prefix form) ∙ matching in
      elim (cases_lt (length front) (length its)) [
        | inl longer ↦ absurd (absent table other (ap (get table) text ∙ searched.longer its below longer) listed)
        | inr upto ↦ elim (cases_lt (length its) (length front)) [
          | inl shorter ↦ inr (omega (arith, ap length text, length-append its (codes "/*"), length-append front (codes "/*")))
          | inr least ↦
              let equal : length its ≡ length front = omega arith in
              inl (text ∙ ap (λ t. t ++ codes "/*") (IsFront-unique its front path (IsFront-from_test its path below) this equal))
        ]
      ]

  pub longest_prefix : (servlet : ℕ) → get table (front ++ codes "/*") ≡ Some servlet → IsBestByRule table path 2 (record { servlet = servlet; split = length front; info = ltb (length front) (length path) })
  longest_prefix servlet listed =
      let pattern = front ++ codes "/*" in
      record {
        pattern = pattern;
        goes_by = rule_of-form pattern Prefix front_form;
        matching = matches-form pattern path Prefix front_form ∙ ap (λ q. is_at_or_below q path) (prefix_of-append front) ∙ searched.below;
        longest = longer_last;
        match_of = record { servlet = listed; parts = front_parts servlet; boundary = IsFront-boundary front path this };
      }
