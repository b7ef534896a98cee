-- The best pattern: from the answers of the four rules, and among a list of patterns.
use Rattle.sv_mapping.proofs.Prelude.{◌≡◌, ℕ, ◌+◌, ◌<◌, ◌≤◌, ◌⊎◌, ◌||◌, Bool, true, false, cond, List, [], ◌∷◌, ◌++◌, length, Option, Some, None, IsTrue}
use Rattle.sv_mapping.proofs.Prelude.{IsNone, IfSome, MatchOption, codes, length-append, refl, sym, ap, ◌∙◌, subst, inl, inr, arith, is_some, option_map}
use Rattle.sv_mapping.proofs.Prelude.{list_any, is_eq, tied_itself, nat_list_cmp_total, get, contains_key, Ordering, Less, Equal, Greater, none-some, same_Some}
use Rattle.sv_mapping.proofs.Prelude.{false≢true, cases_lt, nat_tests, Text, prefix_of, matches, rule_of, text_cmp, mapped_by, shown, Table, IsBestByRule}
use Rattle.sv_mapping.proofs.Prelude.{AnswersByRule, Match, Prefix}
use Rattle.std.specs.Option.{option_and_then}
use Rattle.std.specs.Ordering.{eq_by_cmp}
use Rattle.std.specs.FinMap.{keys, contains_key-keys}
use Rattle.std.proofs.lemmas.Bool.{or_right, or_cases}
use Rattle.sv_mapping.specs.Pattern.{precedes}
use Rattle.sv_mapping.specs.Mappings.{IsBest, HasNoMatch, better, best_pattern, mapped, IsBestMatch, IsMappedByBest}
use Rattle.sv_mapping.proofs.EntryLemmas.{same_text}
use Rattle.sv_mapping.proofs.PathLemmas.{IsFront-from_test, IsFront-unique}
use Rattle.sv_mapping.proofs.PatternLemmas.{prefix_text, extension_text, default_text, rule_of-bounds, prefix_by_rule, extension_by_rule, default_by_rule, matches-form}
use Rattle.sv_mapping.proofs.MatchLemmas.{exact_text, extension_is, not_exact}

module _ (a b : Text) where
  pub precedes-rule : rule_of a < rule_of b → precedes a b ≡ true
  unfolding precedes
  precedes-rule h = grind (arith, nat_tests)

  pub precedes-longer : rule_of a ≡ rule_of b → length b < length a → precedes a b ≡ true
  unfolding precedes
  precedes-longer e h = grind (arith, nat_tests)

  precedes-back : precedes a b ≡ true → precedes b a ≡ false
  unfolding precedes
  precedes-back h = grind (arith, nat_tests)

-- the answers of the rules up to the n-th
abbrev pub AnswersUpTo : Table → Text → ℕ → Option Match → Type 0
AnswersUpTo table path n answer =
    MatchOption answer
    ((pattern : Text) → IsTrue (contains_key table pattern) → rule_of pattern ≤ n → matches pattern path ≡ false)
    (IsBestMatch table path)

module _ (table : Table) (path : Text) where
  -- the best by a rule is the best, where no pattern matches by an earlier rule
  best_by_rule : (n : ℕ) (found : Match) → ((pattern : Text) → IsTrue (contains_key table pattern) → rule_of pattern ≤ n → matches pattern path ≡ false) → IsBestByRule table path (n + 1) found → IsBestMatch table path found
  best_by_rule n found none best =
      let first : (other : Text) → IsTrue (contains_key table other) → IsTrue (matches other path) → (other ≡ best.pattern) ⊎ IsTrue (precedes best.pattern other) =
      λ other listed matching. elim (cases_lt n (rule_of other)) [
        | inr earlier ↦ absurd (false≢true (sym (none other listed earlier) ∙ matching))
        | inl later ↦ elim (cases_lt (n + 1) (rule_of other)) [
          | inl last ↦ inr (precedes-rule best.pattern other (omega (arith, best.goes_by)))
          | inr same ↦ elim (best.longest other listed (omega arith) matching) [
            | inl equal ↦ inl equal
            | inr shorter ↦ inr (precedes-longer best.pattern other (omega (arith, best.goes_by)) shorter)
          ]
        ]
      ] in
      (best.pattern, record { listed = ap is_some best.match_of.servlet; matching = best.matching; first = first }, best.match_of)

  pub answers_first : (answer : Option Match) → AnswersByRule table path 1 answer → AnswersUpTo table path 1 answer
  answers_first None none = λ pattern listed upto. none pattern listed (omega (arith, rule_of-bounds pattern))
  answers_first (Some found) best = best_by_rule 0 found (λ pattern listed upto. absurd (omega (arith, rule_of-bounds pattern))) best

  pub answers_more : (n : ℕ) (before after : Option Match) → AnswersUpTo table path n before → MatchOption before (AnswersByRule table path (n + 1) after) (λ x. after ≡ Some x) → AnswersUpTo table path (n + 1) after
  answers_more n (Some found) after best same = subst (AnswersUpTo table path (n + 1)) (sym same) best
  answers_more n None None none here = λ pattern listed upto. elim (cases_lt n (rule_of pattern)) [
    | inl later ↦ here pattern listed (omega arith)
    | inr earlier ↦ none pattern listed earlier
  ]
  answers_more n None (Some found) none best = best_by_rule n found none best

  pub no_match : (answer : Option Match) → AnswersUpTo table path 4 answer → IsNone answer → HasNoMatch table path
  no_match None none h = λ pattern listed. none pattern listed (omega (arith, rule_of-bounds pattern))
  no_match (Some found) best h = absurd (false≢true (sym h))

  pub no_answer : (answer : Option Match) → AnswersUpTo table path 4 answer → HasNoMatch table path → IsNone answer
  no_answer None none h = refl
  no_answer (Some found) best h = absurd (false≢true (sym (h best.0 best.1.listed) ∙ best.1.matching))

  pub best_answer : (answer : Option Match) → AnswersUpTo table path 4 answer → IfSome answer (IsBestMatch table path)
  best_answer None none = tt
  best_answer (Some found) best = best

-- whether a text stands in a list
abbrev has : Text → List Text → Bool
has text = list_any (eq_by_cmp text_cmp text)

equal_test : (r : Ordering) → is_eq r ≡ true → r ≡ Equal
equal_test Less e = cc
equal_test Equal e = refl
equal_test Greater e = cc

has_itself : (text : Text) (texts : List Text) → has text (text ∷ texts) ≡ true
has_itself text texts = ap (λ r. is_eq r || has text texts) (tied_itself nat_list_cmp_total text)

has_cases : (text first : Text) (texts : List Text) → has text (first ∷ texts) ≡ true → (text ≡ first) ⊎ (has text texts ≡ true)
has_cases text first texts h = elim (or_cases _ _ h) [
  | inl tied ↦ inl (same_text text first (equal_test _ tied))
  | inr later ↦ inr later
]

module _ (path : Text) where
  pub best_pattern-none : (texts : List Text) → ((text : Text) → has text texts ≡ true → matches text path ≡ false) → best_pattern texts path ≡ None
  best_pattern-none [] none = refl
  best_pattern-none (first ∷ texts) none =
      ap (λ b. cond b (Some (better first (best_pattern texts path))) (best_pattern texts path)) (none first (has_itself first texts))
      ∙ best_pattern-none texts (λ text h. none text (or_right _ _ h))

  better_some : (first : Text) (texts : List Text) → matches first path ≡ true → best_pattern (first ∷ texts) path ≡ Some (better first (best_pattern texts path))
  better_some first texts matching = ap (λ b. cond b (Some (better first (best_pattern texts path))) (best_pattern texts path)) matching

  -- the best pattern is one of the list, and matches
  pub best_pattern-listed : (texts : List Text) (best : Text) → best_pattern texts path ≡ Some best → (has best texts ≡ true) × (matches best path ≡ true)
  best_pattern-listed [] best e = absurd (none-some best e)
  best_pattern-listed (first ∷ texts) best e =
      elim (matches first path) as (λ b. matches first path ≡ b → (has best (first ∷ texts) ≡ true) × (matches best path ≡ true)) [
        | false ↦ λ no.
            let later = best_pattern-listed texts best (sym (ap (λ b. cond b (Some (better first (best_pattern texts path))) (best_pattern texts path)) no) ∙ e) in
            (or_right _ _ later.0, later.1)
        | true ↦ λ yes.
            let chosen = same_Some _ _ (sym (better_some first texts yes) ∙ e) in
            let by_first : first ≡ best → (has best (first ∷ texts) ≡ true) × (matches best path ≡ true) =
            λ is. (subst (λ t. has t (first ∷ texts) ≡ true) is (has_itself first texts), ap (λ t. matches t path) (sym is) ∙ yes) in
            elim (best_pattern texts path) as (λ o. best_pattern texts path ≡ o → better first o ≡ best → (has best (first ∷ texts) ≡ true) × (matches best path ≡ true)) [
              | None ↦ λ _ is. by_first is
              | Some other ↦ λ found is.
                  let later = best_pattern-listed texts other found in
                  elim (precedes other first) as (λ b. cond b other first ≡ best → (has best (first ∷ texts) ≡ true) × (matches best path ≡ true)) [
                    | true ↦ λ same. (or_right _ _ (subst (λ t. has t texts ≡ true) same later.0), ap (λ t. matches t path) (sym same) ∙ later.1)
                    | false ↦ λ same. by_first same
                  ] is
            ] refl chosen
      ] refl

  -- what precedes every other pattern of the list that matches is the best
  pub best_pattern-is : (texts : List Text) (best : Text) → has best texts ≡ true → matches best path ≡ true → ((text : Text) → has text texts ≡ true → matches text path ≡ true → (text ≡ best) ⊎ (precedes best text ≡ true)) → best_pattern texts path ≡ Some best
  best_pattern-is [] best h matching first = absurd (false≢true h)
  best_pattern-is (one ∷ texts) best h matching first =
      let rest_first : (text : Text) → has text texts ≡ true → matches text path ≡ true → (text ≡ best) ⊎ (precedes best text ≡ true) = λ text listed. first text (or_right _ _ listed) in
      elim (matches one path) as (λ b. matches one path ≡ b → best_pattern (one ∷ texts) path ≡ Some best) [
        | false ↦ λ no.
            let skipped : best_pattern (one ∷ texts) path ≡ best_pattern texts path = ap (λ b. cond b (Some (better one (best_pattern texts path))) (best_pattern texts path)) no in
            elim (has_cases best one texts h) [
              | inl same ↦ absurd (false≢true (sym no ∙ ap (λ t. matches t path) (sym same) ∙ matching))
              | inr later ↦ skipped ∙ best_pattern-is texts best later matching rest_first
            ]
        | true ↦ λ yes. better_some one texts yes ∙ ap Some (elim (best_pattern texts path) as (λ o. best_pattern texts path ≡ o → better one o ≡ best) [
          | None ↦ λ none. elim (has_cases best one texts h) [
            | inl same ↦ sym same
            | inr later ↦ absurd (none-some best (sym none ∙ best_pattern-is texts best later matching rest_first))
          ]
          | Some other ↦ λ found.
              let both_best : other ≡ best → one ≡ best → cond (precedes other one) other one ≡ best =
              λ is_other is_one. elim (precedes other one) as (λ b. cond b other one ≡ best) [ true ↦ is_other | false ↦ is_one ] in
              elim (has_cases best one texts h) [
                | inl same ↦
                    let its = best_pattern-listed texts other found in
                    elim (rest_first other its.0 its.1) [
                      | inl equal ↦ both_best equal (sym same)
                      | inr before ↦ ap (λ b. cond b other one) (ap (precedes other) (sym same) ∙ precedes-back best other before) ∙ sym same
                    ]
                | inr later ↦
                    let equal : other ≡ best = same_Some _ _ (sym found ∙ best_pattern-is texts best later matching rest_first) in
                    elim (first one (has_itself one texts) yes) [
                      | inl same ↦ both_best equal same
                      | inr before ↦ ap (λ b. cond b other one) (ap (λ t. precedes t one) equal ∙ before) ∙ equal
                    ]
              ]
        ] refl)
      ] refl

-- a table has a pattern where it stands among its keys
keys_has : (table : Table) (text : Text) → has text (keys table) ≡ contains_key table text
keys_has table text = sym (contains_key-keys table text)

module _ (table : Table) (path : Text) where
  mapped-none : HasNoMatch table path → mapped table path ≡ None
  unfolding mapped
  mapped-none none =
      let nothing : best_pattern (keys table) path ≡ None = best_pattern-none path (keys table) (λ text listed. none text (sym (keys_has table text) ∙ listed)) in
      rw nothing refl

  pub mapped-best : (pattern : Text) (servlet : ℕ) → IsBest table path pattern → get table pattern ≡ Some servlet → mapped table path ≡ Some (mapped_by pattern servlet path)
  unfolding mapped
  mapped-best pattern servlet best listed =
      let chosen : best_pattern (keys table) path ≡ Some pattern = best_pattern-is path (keys table) pattern (keys_has table pattern ∙ best.listed) best.matching (λ text its. best.first text (sym (keys_has table text) ∙ its)) in
      rw (chosen, listed) refl

  pub mapped_answer : (answer : Option Match) → AnswersUpTo table path 4 answer → option_map (shown path) answer ≡ mapped table path
  mapped_answer None none = sym (mapped-none (λ pattern listed. none pattern listed (omega (arith, rule_of-bounds pattern))))
  mapped_answer (Some found) best = ap Some best.2.parts ∙ sym (mapped-best best.0 found.servlet best.1 best.2.servlet)

  -- the four answers, one after another
  pub answers_all : (first second third fourth : Option Match) → AnswersByRule table path 1 first
      → MatchOption first (AnswersByRule table path 2 second) (λ x. second ≡ Some x)
      → MatchOption second (AnswersByRule table path 3 third) (λ x. third ≡ Some x)
      → MatchOption third (AnswersByRule table path 4 fourth) (λ x. fourth ≡ Some x)
      → AnswersUpTo table path 4 fourth
  answers_all first second third fourth a b c d =
      answers_more table path 3 third fourth (answers_more table path 2 second third (answers_more table path 1 first second (answers_first table path first a) b) c) d

module _ (path a b : Text) (matches_a : matches a path ≡ true) (matches_b : matches b path ≡ true) where
  equal_exact : rule_of a ≡ 1 → rule_of b ≡ 1 → a ≡ b
  equal_exact rule_a rule_b = elim (exact_text a path matches_a rule_a) [
    | inl (form, same) ↦ elim (exact_text b path matches_b rule_b) [
      | inl (_, its) ↦ same ∙ sym its
      | inr (_, root) ↦ absurd (not_exact a (same ∙ root) form)
    ]
    | inr (empty, root) ↦ elim (exact_text b path matches_b rule_b) [
      | inl (form, its) ↦ absurd (not_exact b (its ∙ root) form)
      | inr (its, _) ↦ empty ∙ sym its
    ]
  ]

  equal_prefix : rule_of a ≡ 2 → rule_of b ≡ 2 → length a ≡ length b → a ≡ b
  equal_prefix rule_a rule_b long =
      let form_a = prefix_by_rule a rule_a in
      let form_b = prefix_by_rule b rule_b in
      let front_a = IsFront-from_test (prefix_of a) path (sym (matches-form a path Prefix form_a) ∙ matches_a) in
      let front_b = IsFront-from_test (prefix_of b) path (sym (matches-form b path Prefix form_b) ∙ matches_b) in
      let text_a : a ≡ prefix_of a ++ codes "/*" = prefix_text a form_a in
      let text_b : b ≡ prefix_of b ++ codes "/*" = prefix_text b form_b in
      let as_long : length (prefix_of a) ≡ length (prefix_of b) = omega (arith, ap length text_a, ap length text_b, length-append (prefix_of a) (codes "/*"), length-append (prefix_of b) (codes "/*")) in
      text_a ∙ ap (λ t. t ++ codes "/*") (IsFront-unique (prefix_of a) (prefix_of b) path front_a front_b as_long) ∙ sym text_b

  equal_extension : rule_of a ≡ 3 → rule_of b ≡ 3 → a ≡ b
  equal_extension rule_a rule_b =
      extension_text a (extension_by_rule a rule_a)
      ∙ ap (λ t. codes "*." ++ t) (same_Some _ _ (sym (extension_is a path matches_a rule_a) ∙ extension_is b path matches_b rule_b))
      ∙ sym (extension_text b (extension_by_rule b rule_b))

  equal_default : rule_of a ≡ 4 → rule_of b ≡ 4 → a ≡ b
  equal_default rule_a rule_b = default_text a (default_by_rule a rule_a) ∙ sym (default_text b (default_by_rule b rule_b))

  -- two patterns of one rule and one length that match a path are one
  equal_rule : rule_of a ≡ rule_of b → length a ≡ length b → a ≡ b
  equal_rule same long =
      let bounds = rule_of-bounds a in
      elim (cases_lt (rule_of a) 2) [
        | inl one ↦ equal_exact (omega arith) (omega arith)
        | inr two ↦ elim (cases_lt (rule_of a) 3) [
          | inl only ↦ equal_prefix (omega arith) (omega arith) long
          | inr three ↦ elim (cases_lt (rule_of a) 4) [
            | inl only ↦ equal_extension (omega arith) (omega arith)
            | inr four ↦ equal_default (omega arith) (omega arith)
          ]
        ]
      ]

  -- of two patterns that match a path one precedes the other, unless they are one
  comparable : (a ≡ b) ⊎ ((precedes a b ≡ true) ⊎ (precedes b a ≡ true))
  comparable = elim (cases_lt (rule_of a) (rule_of b)) [
    | inl earlier ↦ inr (inl (precedes-rule a b earlier))
    | inr no_earlier ↦ elim (cases_lt (rule_of b) (rule_of a)) [
      | inl later ↦ inr (inr (precedes-rule b a later))
      | inr no_later ↦
          let same : rule_of a ≡ rule_of b = omega arith in
          elim (cases_lt (length b) (length a)) [
            | inl longer ↦ inr (inl (precedes-longer a b same longer))
            | inr no_longer ↦ elim (cases_lt (length a) (length b)) [
              | inl shorter ↦ inr (inr (precedes-longer b a (sym same) shorter))
              | inr no_shorter ↦ inl (equal_rule same (omega arith))
            ]
          ]
    ]
  ]

precedes-trans : (a b c : Text) → precedes a b ≡ true → precedes b c ≡ true → precedes a c ≡ true
unfolding precedes
precedes-trans a b c h g = grind (arith, nat_tests)

-- a text of the list that matches, and precedes every other that does
record IsBestOf (texts : List Text) (path best : Text) : Type 0 where
  listed : has best texts ≡ true
  matching : matches best path ≡ true
  first : (other : Text) → has other texts ≡ true → matches other path ≡ true → (other ≡ best) ⊎ (precedes best other ≡ true)

-- the best of a list
abbrev BestOf : List Text → Text → Option Text → Type 0
BestOf texts path answer = MatchOption answer ((text : Text) → has text texts ≡ true → matches text path ≡ false) (IsBestOf texts path)

module _ (path one : Text) (texts : List Text) where
  skip : matches one path ≡ false → (answer : Option Text) → BestOf texts path answer → BestOf (one ∷ texts) path answer
  skip no_match None none = λ text h. elim (has_cases text one texts h) [
    | inl same ↦ ap (λ t. matches t path) same ∙ no_match
    | inr later ↦ none text later
  ]
  skip no_match (Some best) is = record {
    listed = or_right _ _ is.listed;
    matching = is.matching;
    first = λ other h matching. elim (has_cases other one texts h) [
      | inl same ↦ absurd (false≢true (sym no_match ∙ ap (λ t. matches t path) (sym same) ∙ matching))
      | inr later ↦ is.first other later matching
    ];
  }

  take_one : matches one path ≡ true → ((other : Text) → has other texts ≡ true → matches other path ≡ true → (other ≡ one) ⊎ (precedes one other ≡ true)) → IsBestOf (one ∷ texts) path one
  take_one hit first = record {
    listed = has_itself one texts;
    matching = hit;
    first = λ other h matching. elim (has_cases other one texts h) [
      | inl same ↦ inl same
      | inr later ↦ first other later matching
    ];
  }

  before_all : matches one path ≡ true → (best : Text) → IsBestOf texts path best → precedes best one ≡ false → (other : Text) → has other texts ≡ true → matches other path ≡ true → (other ≡ one) ⊎ (precedes one other ≡ true)
  before_all hit best is no_before other h matching = elim (comparable path one best hit is.matching) [
    | inl same ↦ elim (is.first other h matching) [
      | inl its ↦ inl (its ∙ sym same)
      | inr after ↦ inr (ap (λ t. precedes t other) same ∙ after)
    ]
    | inr either_way ↦ elim either_way [
      | inl before ↦ elim (is.first other h matching) [
        | inl its ↦ inr (ap (precedes one) its ∙ before)
        | inr after ↦ inr (precedes-trans one best other before after)
      ]
      | inr behind ↦ absurd (false≢true (sym no_before ∙ behind))
    ]
  ]

  choose : matches one path ≡ true → (answer : Option Text) → BestOf texts path answer → IsBestOf (one ∷ texts) path (better one answer)
  choose hit None none = take_one hit (λ other h matching. absurd (false≢true (sym (none other h) ∙ matching)))
  choose hit (Some best) is = elim (precedes best one) as (λ b. precedes best one ≡ b → IsBestOf (one ∷ texts) path (cond b best one)) [
    | true ↦ λ before. record {
      listed = or_right _ _ is.listed;
      matching = is.matching;
      first = λ other h matching. elim (has_cases other one texts h) [
        | inl same ↦ inr (ap (precedes best) same ∙ before)
        | inr later ↦ is.first other later matching
      ];
    }
    | false ↦ λ no_before. take_one hit (before_all hit best is no_before)
  ] refl

best_pattern-best : (path : Text) (texts : List Text) → BestOf texts path (best_pattern texts path)
best_pattern-best path [] = λ text h. absurd (false≢true h)
best_pattern-best path (one ∷ texts) =
    elim (matches one path) as (λ b. matches one path ≡ b → BestOf (one ∷ texts) path (cond b (Some (better one (best_pattern texts path))) (best_pattern texts path))) [
      | true ↦ λ hit. choose path one texts hit (best_pattern texts path) (best_pattern-best path texts)
      | false ↦ λ no_match. skip path one texts no_match (best_pattern texts path) (best_pattern-best path texts)
    ] refl

module _ (table : Table) (path : Text) where
  mapped_of : (answer : Option Text) → BestOf (keys table) path answer → MatchOption (option_and_then (λ pattern. option_map (λ servlet. mapped_by pattern servlet path) (get table pattern)) answer) (HasNoMatch table path) (IsMappedByBest table path)
  mapped_of None none = λ pattern listed. none pattern (keys_has table pattern ∙ listed)
  mapped_of (Some pattern) is =
      let listed : is_some (get table pattern) ≡ true = sym (keys_has table pattern) ∙ is.listed in
      let best : IsBest table path pattern = record { listed = listed; matching = is.matching; first = λ other h matching. is.first other (keys_has table other ∙ h) matching } in
      elim (get table pattern) as (λ o. get table pattern ≡ o → MatchOption (option_map (λ servlet. mapped_by pattern servlet path) o) (HasNoMatch table path) (IsMappedByBest table path)) [
        | None ↦ λ none. absurd (false≢true (ap is_some (sym none) ∙ listed))
        | Some servlet ↦ λ some. (pattern, best, servlet, some, refl)
      ] refl

  -- what a path is mapped to is the match of the best pattern
  pub mapped_to_best : MatchOption (mapped table path) (HasNoMatch table path) (IsMappedByBest table path)
  unfolding mapped
  mapped_to_best = mapped_of (best_pattern (keys table) path) (best_pattern-best path (keys table))
