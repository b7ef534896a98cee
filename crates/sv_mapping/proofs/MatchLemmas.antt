-- The match of the best pattern by each rule but the prefixes', from what the table has at a text.
use Rattle.sv_mapping.proofs.Prelude.{◌≡◌, ◌≢◌, ℕ, ◌⊎◌, true, false, [], ◌++◌, length, take, get_or, Option, Some, None, refl, sym, ap, ◌∙◌, inl, inr, codes}
use Rattle.sv_mapping.proofs.Prelude.{arith, is_some, none-some, same_Some, bytes_eq, get, contains_key, take_all, false≢true, false_from_ne_true}
use Rattle.sv_mapping.proofs.Prelude.{IsCharBoundary-end, IsCharBoundary-before_ascii, bytes_eq-Decides, Text, extension_of, form_of, matches, rule_of}
use Rattle.sv_mapping.proofs.Prelude.{suffix_of, servlet_path_by, path_info_by, mapped_by, shown, Table, IsBestByRule, AnswersByRule, Match, PatternForm, Exact}
use Rattle.sv_mapping.proofs.Prelude.{ContextRoot, Extension, Default}
use Rattle.std.specs.Option.{option_map_or}
use Rattle.sv_mapping.specs.Mappings.{IsMatchOf}
use Rattle.sv_mapping.proofs.PatternLemmas.{root_text, default_text, extension_text, form_of-root, form_of-default, form_of-extension, rule_of-form, exact_or_root, extension_by_rule, default_by_rule, matches-form}

-- a servlet with the whole path
abbrev pub whole : ℕ → Text → Match
whole servlet path = record { servlet = servlet; split = length path; info = false }

-- an extension that is found is the pattern's
same_extension : (suffix : Text) (extension : Option Text) → option_map_or (bytes_eq suffix) extension false ≡ true → extension ≡ Some suffix
same_extension suffix None e = absurd (false≢true e)
same_extension suffix (Some x) e = ap Some (sym ((bytes_eq-Decides suffix x).0 e))

module _ (pattern path : Text) (matching : matches pattern path ≡ true) where
  -- the patterns of the first rule
  pub exact_text : rule_of pattern ≡ 1 → ((form_of pattern ≡ Exact) × (pattern ≡ path)) ⊎ ((pattern ≡ []) × (path ≡ codes "/"))
  exact_text rule = elim (exact_or_root pattern rule) [
    | inl form ↦ inl (form, sym ((bytes_eq-Decides path pattern).0 (sym (matches-form pattern path Exact form) ∙ matching)))
    | inr form ↦ inr (root_text pattern form, (bytes_eq-Decides path (codes "/")).0 (sym (matches-form pattern path ContextRoot form) ∙ matching))
  ]

  -- the one pattern of the third rule
  pub extension_is : rule_of pattern ≡ 3 → extension_of path ≡ Some (suffix_of pattern)
  extension_is rule =
      same_extension (suffix_of pattern) (extension_of path) (sym (matches-form pattern path Extension (extension_by_rule pattern rule)) ∙ matching)

-- the pattern `/` is not exact
pub not_exact : (pattern : Text) → pattern ≡ codes "/" → form_of pattern ≡ Exact → ⊥
not_exact pattern slash form = let e : Exact ≡ Default = sym form ∙ ap form_of slash ∙ form_of-default in cc

module _ (table : Table) where
  -- a pattern that the table lacks is not among its patterns
  pub absent : (pattern : Text) → get table pattern ≡ None → contains_key table pattern ≡ true → ⊥
  absent pattern none listed = false≢true (ap is_some (sym none) ∙ listed)

  module _ (path : Text) where
    -- the whole path is shown under a pattern of three of the forms
    whole_match : (pattern : Text) (servlet : ℕ) (f : PatternForm) → form_of pattern ≡ f → servlet_path_by f pattern path ≡ path → path_info_by f pattern path ≡ None → get table pattern ≡ Some servlet → IsMatchOf table path pattern (whole servlet path)
    unfolding mapped_by shown
    whole_match pattern servlet f e path_is info_is listed = record {
      servlet = listed;
      parts =
          let path_shown : take (length path) path ≡ servlet_path_by (form_of pattern) pattern path = take_all (length path) path (omega arith) ∙ sym (ap (λ g. servlet_path_by g pattern path) e ∙ path_is) in
          let info_shown : None ≡ path_info_by (form_of pattern) pattern path = sym (ap (λ g. path_info_by g pattern path) e ∙ info_is) in
          λ i. record { servlet = servlet; servlet_path = path_shown i; path_info = info_shown i };
      boundary = IsCharBoundary-end path;
    }

    pub exact_none : form_of path ≢ Exact → path ≢ codes "/" → AnswersByRule table path 1 None
    exact_none other no_root pattern listed rule = false_from_ne_true _ (λ matching. elim (exact_text pattern path matching rule) [
      | inl (form, same) ↦ other (ap form_of (sym same) ∙ form)
      | inr (empty, root) ↦ no_root root
    ])

    pub exact_missing : path ≢ codes "/" → get table path ≡ None → AnswersByRule table path 1 None
    exact_missing no_root none pattern listed rule = false_from_ne_true _ (λ matching. elim (exact_text pattern path matching rule) [
      | inl (form, same) ↦ absent path none (ap (contains_key table) (sym same) ∙ listed)
      | inr (empty, root) ↦ no_root root
    ])

    pub root_missing : path ≡ codes "/" → get table [] ≡ None → AnswersByRule table path 1 None
    root_missing root none pattern listed rule = false_from_ne_true _ (λ matching. elim (exact_text pattern path matching rule) [
      | inl (form, same) ↦ not_exact pattern (same ∙ root) form
      | inr (empty, _) ↦ absent [] none (ap (contains_key table) (sym empty) ∙ listed)
    ])

    pub exact_found : (servlet : ℕ) → form_of path ≡ Exact → get table path ≡ Some servlet → IsBestByRule table path 1 (whole servlet path)
    exact_found servlet form listed = record {
      pattern = path;
      goes_by = rule_of-form path Exact form;
      matching = matches-form path path Exact form ∙ (bytes_eq-Decides path path).1 refl;
      longest = λ other _ rule matching. elim (exact_text other path matching rule) [
        | inl (_, same) ↦ inl same
        | inr (_, root) ↦ absurd (not_exact path root form)
      ];
      match_of = whole_match path servlet Exact form refl refl listed;
    }

    root_parts : (servlet : ℕ) → path ≡ codes "/" → shown path (record { servlet = servlet; split = 0; info = true }) ≡ mapped_by [] servlet path
    unfolding shown mapped_by form_of
    root_parts servlet root = λ i. record { servlet = servlet; servlet_path = []; path_info = Some (root i) }

    pub root_found : (servlet : ℕ) → path ≡ codes "/" → get table [] ≡ Some servlet → IsBestByRule table path 1 (record { servlet = servlet; split = 0; info = true })
    root_found servlet root listed = record {
      pattern = [];
      goes_by = rule_of-form [] ContextRoot form_of-root;
      matching = matches-form [] path ContextRoot form_of-root ∙ (bytes_eq-Decides path (codes "/")).1 root;
      longest = λ other _ rule matching. elim (exact_text other path matching rule) [
        | inl (form, same) ↦ absurd (not_exact other (same ∙ root) form)
        | inr (empty, _) ↦ inl empty
      ];
      match_of = record {
        servlet = listed;
        parts = root_parts servlet root;
        boundary = IsCharBoundary-before_ascii path 0 (omega (arith, ap length root)) (omega (arith, ap (λ (t : Text). get_or t 0 0) root));
      };
    }

    -- a pattern of the third rule, by the path's extension
    extension_pattern : (x : Text) → extension_of path ≡ Some x → (pattern : Text) → rule_of pattern ≡ 3 → matches pattern path ≡ true → pattern ≡ codes "*." ++ x
    extension_pattern x some pattern rule matching =
        extension_text pattern (extension_by_rule pattern rule) ∙ ap (λ t. codes "*." ++ t) (same_Some _ _ (sym (extension_is pattern path matching rule) ∙ some))

    pub extension_none : extension_of path ≡ None → AnswersByRule table path 3 None
    extension_none none pattern listed rule = false_from_ne_true _ (λ matching. none-some (suffix_of pattern) (sym none ∙ extension_is pattern path matching rule))

    pub extension_missing : (x : Text) → extension_of path ≡ Some x → get table (codes "*." ++ x) ≡ None → AnswersByRule table path 3 None
    extension_missing x some none pattern listed rule = false_from_ne_true _ (λ matching.
        absent (codes "*." ++ x) none (ap (contains_key table) (sym (extension_pattern x some pattern rule matching)) ∙ listed))

    pub extension_found : (x : Text) (servlet : ℕ) → extension_of path ≡ Some x → get table (codes "*." ++ x) ≡ Some servlet → IsBestByRule table path 3 (whole servlet path)
    extension_found x servlet some listed =
        let form = form_of-extension x in
        record {
          pattern = codes "*." ++ x;
          goes_by = rule_of-form (codes "*." ++ x) Extension form;
          matching = matches-form (codes "*." ++ x) path Extension form ∙ ap (λ o. option_map_or (bytes_eq x) o false) some ∙ (bytes_eq-Decides x x).1 refl;
          longest = λ other _ rule matching. inl (extension_pattern x some other rule matching);
          match_of = whole_match (codes "*." ++ x) servlet Extension form refl refl listed;
        }

    pub default_missing : get table (codes "/") ≡ None → AnswersByRule table path 4 None
    default_missing none pattern listed rule =
        absurd (absent (codes "/") none (ap (contains_key table) (sym (default_text pattern (default_by_rule pattern rule))) ∙ listed))

    pub default_found : (servlet : ℕ) → get table (codes "/") ≡ Some servlet → IsBestByRule table path 4 (whole servlet path)
    default_found servlet listed = record {
      pattern = codes "/";
      goes_by = rule_of-form (codes "/") Default form_of-default;
      matching = matches-form (codes "/") path Default form_of-default;
      longest = λ other _ rule _. inl (default_text other (default_by_rule other rule));
      match_of = whole_match (codes "/") servlet Default form_of-default refl refl listed;
    }
