-- Applications that are taken out of service one by one.
use Rattle.sv_container.proofs.Prelude.{◌≡◌, ◌≢◌, ℕ, ◌<◌, ◌≤◌, ◌+◌, ◌-◌, ◌∙◌, zero, suc, List, [], ◌∷◌, length, get_or, set, take, min, arith, sym, ap, refl}
use Rattle.sv_container.proofs.Prelude.{All, subst, get_or-map, get_or-set_other, get_or-set_same, length-map, take_all, Phase, row, rows, Hosted, App}
use Rattle.sv_container.proofs.Prelude.{IsLaunched, IsSoundApp, app_of, apps_of, IsLive, ready_count, ready_filters, ready_servlets, Application}
use Rattle.sv_servlet.specs.declared.servlet.Servlet as servlet_trait
use Rattle.sv_servlet.specs.declared.filter.Filter as filter_trait

-- ---- sums that stop at the top

saturated : (s r t top : ℕ) → min (min (s + r) top + t) top ≡ min (s + (r + t)) top
saturated s r t top = omega arith

module _ (one : App → ℕ) (total : List App → ℕ) (none : total [] ≡ 0) (more : (a : App) (others : List App) → total (a ∷ others) ≡ one a + total others) (top : ℕ) where
  total_more : (apps : List App) (k : ℕ) (d : App) → k < length apps → total (take (suc k) apps) ≡ one (get_or apps k d) + total (take k apps)
  total_more [] k d h = absurd (omega (arith, h))
  total_more (a ∷ others) zero d h = more a []
  total_more (a ∷ others) (suc k) d h =
      let u : total (take (suc k) others) ≡ one (get_or others k d) + total (take k others) = total_more others k d (omega (arith, h)) in
      let v : total (a ∷ take (suc k) others) ≡ one a + total (take (suc k) others) = more a (take (suc k) others) in
      let w : total (a ∷ take k others) ≡ one a + total (take k others) = more a (take k others) in
      omega (arith, u, v, w)

  all_to_come : (apps : List App) (at : ℕ) → at ≡ length apps → min (0 + total (take at apps)) top ≡ min (total apps) top
  all_to_come apps at all =
      let h : length apps ≤ at = omega (arith, all) in
      let zero_first : 0 + total (take at apps) ≡ total (take at apps) = omega arith in
      ap (λ n. min n top) (zero_first ∙ ap total (take_all at apps h))

  one_more_total : (apps : List App) (at k s r : ℕ) (d : App) → at ≡ suc k → k < length apps → r ≡ one (get_or apps k d)
      → min (s + total (take at apps)) top ≡ min (total apps) top → min (min (s + r) top + total (take k apps)) top ≡ min (total apps) top
  one_more_total apps at k s r d next h e c =
      let u : total (take at apps) ≡ r + total (take k apps) = ap (λ n. total (take n apps)) next ∙ (total_more apps k d h ∙ ap (λ n. n + total (take k apps)) (sym e)) in
      saturated s r (total (take k apps)) top ∙ (ap (λ n. min (s + n) top) (sym u) ∙ c)

  none_to_come : (apps : List App) (at s : ℕ) → at ≡ 0 → s ≤ top → min (s + total (take at apps)) top ≡ min (total apps) top → s ≡ min (total apps) top
  none_to_come apps at s done low c =
      let u : total (take at apps) ≡ 0 = ap (λ n. total (take n apps)) done ∙ none in
      let v : s ≡ min (s + total (take at apps)) top = omega (arith, u, low) in
      v ∙ c

-- ---- the servlets and the filters of applications

no_servlets : ready_servlets [] ≡ 0
unfolding ready_servlets
no_servlets = refl

more_servlets : (a : App) (others : List App) → ready_servlets (a ∷ others) ≡ ready_count a.table.servlets + ready_servlets others
unfolding ready_servlets
more_servlets a others = refl

no_filters : ready_filters [] ≡ 0
unfolding ready_filters
no_filters = refl

more_filters : (a : App) (others : List App) → ready_filters (a ∷ others) ≡ ready_count a.table.filters + ready_filters others
unfolding ready_filters
more_filters a others = refl

module _ {O M : Type 0} (meaning : O → M) (phase : O → Phase) where
  live : (hs : List (Hosted O)) → All IsLaunched (rows meaning phase hs) → All (IsLive phase) hs
  unfolding rows
  live hs launched k d h =
      subst IsLaunched (get_or-map (row meaning phase) hs k d (row meaning phase d) h) (launched k (row meaning phase d) (rw (length-map hs (row meaning phase)) h))

module _ {S F : Type 0} (servlet : servlet_trait.Ghosts S) (filter : filter_trait.Ghosts F) (old : List (Application S F)) where
  pub all_long : length (apps_of servlet filter old) ≡ length old
  unfolding apps_of
  all_long = length-map old (app_of servlet filter)

  app_there : (at : ℕ) (n : Application S F) → at < length old → n ≡ get_or old at n
      → get_or (apps_of servlet filter old) at (app_of servlet filter n) ≡ app_of servlet filter n
  unfolding apps_of
  app_there at n h e = get_or-map (app_of servlet filter) old at n (app_of servlet filter n) h ∙ ap (app_of servlet filter) (sym e)

  sound_there : (at : ℕ) (n : Application S F) → at < length old → n ≡ get_or old at n → All IsSoundApp (apps_of servlet filter old)
      → IsSoundApp (app_of servlet filter n)
  sound_there at n h e sound =
      let within : at < length (apps_of servlet filter old) = rw all_long h in
      subst IsSoundApp (app_there at n h e) (sound at (app_of servlet filter n) within)

  pub live_servlets : (at : ℕ) (n : Application S F) → at < length old → n ≡ get_or old at n → All IsSoundApp (apps_of servlet filter old)
      → All (IsLive servlet.servlet_phase) n.stage.servlets.items
  live_servlets at n h e sound = live servlet.serves servlet.servlet_phase n.stage.servlets.items (sound_there at n h e sound).servlets

  pub live_filters : (at : ℕ) (n : Application S F) (hs : List (Hosted F)) → at < length old → n ≡ get_or old at n → hs ≡ n.stage.filters.items
      → All IsSoundApp (apps_of servlet filter old) → All (IsLive filter.filter_phase) hs
  live_filters at n hs h e same sound =
      subst (All (IsLive filter.filter_phase)) (sym same) (live filter.filtering filter.filter_phase n.stage.filters.items (sound_there at n h e sound).filters)

  -- the counts after a turn
  module _ (at count one sum top : ℕ) (n : Application S F) (some : 0 < at) (within : at ≤ length old) (e : n ≡ get_or old (at - 1) n) (adds : sum ≡ min (count + one) top) where
    place : at - 1 < length (apps_of servlet filter old)
    place = rw all_long (omega (arith, some, within))

    its_app : get_or (apps_of servlet filter old) (at - 1) (app_of servlet filter n) ≡ app_of servlet filter n
    its_app = let h : at - 1 < length old = omega (arith, some, within) in app_there (at - 1) n h e

    pub servlets_turned : one ≡ ready_count (rows servlet.serves servlet.servlet_phase n.stage.servlets.items)
        → min (count + ready_servlets (take at (apps_of servlet filter old))) top ≡ min (ready_servlets (apps_of servlet filter old)) top
        → min (sum + ready_servlets (take (at - 1) (apps_of servlet filter old))) top ≡ min (ready_servlets (apps_of servlet filter old)) top
    servlets_turned counts c =
        let next : at ≡ suc (at - 1) = omega (arith, some) in
        rw adds
        (one_more_total (λ a. ready_count a.table.servlets) ready_servlets no_servlets more_servlets top (apps_of servlet filter old) at (at - 1) count one
        (app_of servlet filter n) next place (counts ∙ ap (λ (a : App). ready_count a.table.servlets) (sym its_app)) c)

    pub filters_turned : one ≡ ready_count (rows filter.filtering filter.filter_phase n.stage.filters.items)
        → min (count + ready_filters (take at (apps_of servlet filter old))) top ≡ min (ready_filters (apps_of servlet filter old)) top
        → min (sum + ready_filters (take (at - 1) (apps_of servlet filter old))) top ≡ min (ready_filters (apps_of servlet filter old)) top
    filters_turned counts c =
        let next : at ≡ suc (at - 1) = omega (arith, some) in
        rw adds
        (one_more_total (λ a. ready_count a.table.filters) ready_filters no_filters more_filters top (apps_of servlet filter old) at (at - 1) count one
        (app_of servlet filter n) next place (counts ∙ ap (λ (a : App). ready_count a.table.filters) (sym its_app)) c)

  pub servlets_to_come : (at top : ℕ) → at ≡ length old
      → min (0 + ready_servlets (take at (apps_of servlet filter old))) top ≡ min (ready_servlets (apps_of servlet filter old)) top
  servlets_to_come at top all =
      all_to_come (λ a. ready_count a.table.servlets) ready_servlets no_servlets more_servlets top (apps_of servlet filter old) at (all ∙ sym all_long)

  pub filters_to_come : (at top : ℕ) → at ≡ length old
      → min (0 + ready_filters (take at (apps_of servlet filter old))) top ≡ min (ready_filters (apps_of servlet filter old)) top
  filters_to_come at top all =
      all_to_come (λ a. ready_count a.table.filters) ready_filters no_filters more_filters top (apps_of servlet filter old) at (all ∙ sym all_long)

pub servlets_counted : (apps : List App) (at count top : ℕ) → at ≡ 0 → count ≤ top → min (count + ready_servlets (take at apps)) top ≡ min (ready_servlets apps) top → count ≡ min (ready_servlets apps) top
servlets_counted apps at count top = none_to_come (λ a. ready_count a.table.servlets) ready_servlets no_servlets more_servlets top apps at count

pub filters_counted : (apps : List App) (at count top : ℕ) → at ≡ 0 → count ≤ top → min (count + ready_filters (take at apps)) top ≡ min (ready_filters apps) top → count ≡ min (ready_filters apps) top
filters_counted apps at count top = none_to_come (λ a. ready_count a.table.filters) ready_filters no_filters more_filters top apps at count

-- ---- the application at a place

module _ {S F : Type 0} (old new : List (Application S F)) (at : ℕ) (n : Application S F) where
  pub as_it_was : 0 < at → ((k : ℕ) (d : Application S F) → k < at → get_or new k d ≡ get_or old k d) → n ≡ get_or new (at - 1) n → n ≡ get_or old (at - 1) n
  as_it_was some rest e = let l : at - 1 < at = omega (arith, some) in e ∙ rest (at - 1) n l

  pub same_filters : (m o : Application S F) → at < length new → o ≡ get_or (set new at m) at o → m.stage.filters.items ≡ n.stage.filters.items → o.stage.filters.items ≡ n.stage.filters.items
  same_filters m o h e q = ap (λ (a : Application S F). a.stage.filters.items) (e ∙ get_or-set_same new at m o h) ∙ q

  pub others_stay : (m o : Application S F) → 0 < at → ((k : ℕ) (d : Application S F) → k < at → get_or new k d ≡ get_or old k d)
      → (k : ℕ) (d : Application S F) → k < at - 1 → get_or (set (set new (at - 1) m) (at - 1) o) k d ≡ get_or old k d
  others_stay m o some rest k d l =
      let other : k ≢ at - 1 = λ q. omega (arith, q, l) in
      let before : k < at = omega (arith, l) in
      get_or-set_other (set new (at - 1) m) (at - 1) k o d other ∙ (get_or-set_other new (at - 1) k m d other ∙ rest k d before)
