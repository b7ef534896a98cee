-- What a sound table says of a servlet that is found and of a chain.
use Rattle.sv_dispatch.proofs.Prelude.{◌≡◌, ℕ, ◌<◌, suc, List, [], ◌∷◌, length, cond, Bool, true, false, Option, Some, None, slice_get, option_map, All, arith}
use Rattle.sv_dispatch.proofs.Prelude.{refl, sym, ap, ◌∙◌, subst, IfSome, All-cons, get_or_from_slice_get, slice_get-map, slice_get_within, Dispatcher, Serves}
use Rattle.sv_dispatch.proofs.Prelude.{Ready, IsReadyAt, Row, labels_of_rows, ready_at, ready_by}
use Rattle.std.specs.Prelude.{◌==◌, filter, map, not}
use Rattle.std.proofs.lemmas.List.Elements.{All-append, All-filter, All-map}
use Rattle.std.proofs.lemmas.Option.{same_Some}
use Rattle.sv_mapping.specs.Dispatcher.{carries}
use Rattle.sv_mapping.specs.Filter.{chain, matches_path, names_servlet, without_repeats}
use Rattle.sv_mapping.specs.declared.filter.FilterMapping.{FilterMapping}
use Rattle.sv_dispatch.specs.Rows.{label_of_row}
use Rattle.sv_dispatch.specs.Stages.{IsMarked}

-- ---- servlets

module _ (rs : List (Row Serves)) (marked : All IsMarked rs) (at k : ℕ) where
  ready_marked : (r : Row Serves) (b : Bool) → slice_get rs at ≡ Some r → r.is_ready ≡ b → cond b (Some at) None ≡ Some k → IsReadyAt rs k
  ready_marked r false is mark h = absurd cc
  ready_marked r true is mark h =
      let within : at < length rs = slice_get_within rs at r is in
      let here : IsMarked r = subst IsMarked (get_or_from_slice_get rs at r r is) (marked at r within) in
      subst (IsReadyAt rs) (same_Some at k h) (record { within = within; ready = subst (λ (o : Option (Row Serves)). IfSome o (λ r. r.phase ≡ Ready)) (sym is) (here mark) })

  ready_found : (found : Option (Row Serves)) → slice_get rs at ≡ found → ready_by at (option_map label_of_row found) ≡ Some k → IsReadyAt rs k
  ready_found None is h = absurd cc
  ready_found (Some r) is h = ready_marked r r.is_ready is refl h

-- a servlet that a look-up finds is ready
pub servlet_ready : (rs : List (Row Serves)) (servlet : Option ℕ) (k : ℕ) → All IsMarked rs → ready_at (labels_of_rows rs) servlet ≡ Some k → IsReadyAt rs k
unfolding ready_at labels_of_rows
servlet_ready rs None k marked h = absurd cc
servlet_ready rs (Some at) k marked h = ready_found rs marked at k (slice_get rs at) refl (ap (ready_by at) (sym (slice_get-map label_of_row rs at)) ∙ h)

-- ---- chains

module _ (P : ℕ → Type 0) where
  without_repeats_all : (ks : List ℕ) → All P ks → All P (without_repeats ks)
  without_repeats_all [] a = a
  without_repeats_all (k ∷ ks) a =
      All-cons P k (filter (λ other. not (other == k)) (without_repeats ks)) (a 0 k (omega arith))
      (All-filter (λ other. not (other == k)) P (without_repeats ks) (without_repeats_all ks (λ i d h. a (suc i) d (omega (arith, h)))))

  where_all : (passes : FilterMapping → Bool) (ms : List FilterMapping) → All (λ m. P m.filter) ms → All P (map (λ mapping. mapping.filter) (filter passes ms))
  where_all passes ms a = All-map P (λ mapping. mapping.filter) (filter passes ms) (All-filter passes (λ m. P m.filter) ms a)

  -- what holds of the filter of each mapping holds of a chain
  pub chain_all : (ms : List FilterMapping) (path : List ℕ) (servlet : Option ℕ) (dispatcher : Dispatcher) → All (λ m. P m.filter) ms → All P (chain ms path servlet dispatcher)
  chain_all ms path servlet dispatcher a =
      let its : List FilterMapping = filter (λ mapping. carries mapping.dispatchers dispatcher) ms in
      let b : All (λ m. P m.filter) its = All-filter (λ mapping. carries mapping.dispatchers dispatcher) (λ m. P m.filter) ms a in
      without_repeats_all _ (All-append P _ _ (where_all (λ mapping. matches_path path mapping.target) its b) (where_all (λ mapping. names_servlet servlet mapping.target) its b))
