-- Stages stay sound as objects that are ready are added.
use Rattle.std.proofs.Common.{◌≡◌, ℕ, zero, suc, ◌<◌, ◌+◌, List, [], ◌∷◌, ◌++◌, length, Some, slice_get, All, arith, refl, sym, ap, ◌∙◌, subst}
use Rattle.std.specs.Prelude.{IfSome, map, true}
use Rattle.std.proofs.lemmas.List.{length-append, length-map, map-append}
use Rattle.std.proofs.lemmas.List.Elements.{All-append, All-cons, All-nil}
use Rattle.sv_mapping.specs.Mappings as mappings
use Rattle.sv_mapping.specs.declared.filter.FilterMapping.{FilterMapping}
use Rattle.sv_servlet.specs.Filter.{Filters}
use Rattle.sv_servlet.specs.Servlet.{Serves}
use Rattle.sv_servlet.specs.declared.servlet.Phase.{Phase}
use Rattle.sv_servlet.specs.declared.servlet.Phase.TheVariants.{Ready}
use Rattle.sv_dispatch.specs.Rows.{IsReadyAt, Row, row, rows}
use Rattle.sv_dispatch.specs.Stages.{IsMarked, IsSound}
use Rattle.sv_dispatch.specs.Dispatching.{Table}
use Rattle.sv_dispatch.specs.declared.hosted.Hosted.{Hosted}
use Rattle.sv_dispatch.specs.declared.page.ErrorPage.{ErrorPage}

slice_front : {X : Type 0} (xs ys : List X) (k : ℕ) → k < length xs → slice_get (xs ++ ys) k ≡ slice_get xs k
slice_front [] ys k h = absurd (omega (arith, h))
slice_front (x ∷ xs) ys zero h = refl
slice_front (x ∷ xs) ys (suc k) h = slice_front xs ys k (omega (arith, h))

slice_last : {X : Type 0} (xs : List X) (x : X) → slice_get (xs ++ x ∷ []) (length xs) ≡ Some x
slice_last [] x = refl
slice_last (y ∷ xs) x = slice_last xs x

-- a ready place stays ready as more objects come
ready_front : {M : Type 0} (rs more : List (Row M)) (k : ℕ) → IsReadyAt rs k → IsReadyAt (rs ++ more) k
ready_front rs more k h =
    record {
      within = omega (arith, length-append rs more, h.within);
      ready = subst (λ (o : _). IfSome o (λ r. r.phase ≡ Ready)) (sym (slice_front rs more k h.within)) h.ready;
    }

-- and the last one is, where its object is
ready_last : {M : Type 0} (rs : List (Row M)) (r : Row M) → r.phase ≡ Ready → IsReadyAt (rs ++ r ∷ []) (length rs)
ready_last rs r h =
    record {
      within = omega (arith, length-append rs (r ∷ []));
      ready = subst (λ (o : _). IfSome o (λ r. r.phase ≡ Ready)) (sym (slice_last rs r)) h;
    }

module _ {S F : Type 0} (serves : S → Serves) (servlet_phase : S → Phase) (filtering : F → Filters) (filter_phase : F → Phase) where
  abbrev table : List (Hosted S) → List (Hosted F) → mappings.Table → List FilterMapping → List ErrorPage → Table
  table ss fs patterns cs pages =
      record { servlets = rows serves servlet_phase ss; filters = rows filtering filter_phase fs; patterns = patterns; chains = cs; pages = pages }

  pub empty_sound : (ss : List (Hosted S)) (fs : List (Hosted F)) (p : mappings.Table) (cs : List FilterMapping) (ps : List ErrorPage) → ss ≡ [] → cs ≡ [] → IsSound (table ss fs p cs ps)
  unfolding rows
  empty_sound ss fs p cs ps servlets chains = record { servlets = rw servlets (All-nil IsMarked); filters = rw chains (All-nil _) }

  pub servlet_added : (ss ts : List (Hosted S)) (fs : List (Hosted F)) (p q : mappings.Table) (cs : List FilterMapping) (ps : List ErrorPage) (n : Hosted S) → ts ≡ ss ++ n ∷ [] → servlet_phase n.object ≡ Ready
      → IsSound (table ss fs p cs ps) → IsSound (table ts fs q cs ps)
  unfolding rows
  servlet_added ss ts fs p q cs ps n servlets ready sound =
      let more : All IsMarked (row serves servlet_phase n ∷ []) = All-cons IsMarked (row serves servlet_phase n) [] (λ h. ready) (All-nil IsMarked) in
      record {
        servlets = rw (servlets, map-append) (All-append IsMarked (map (row serves servlet_phase) ss) (row serves servlet_phase n ∷ []) sound.servlets more);
        filters = sound.filters;
      }

  pub filter_added : (ss : List (Hosted S)) (fs gs : List (Hosted F)) (p : mappings.Table) (cs ds : List FilterMapping) (ps : List ErrorPage) (n : Hosted F) → gs ≡ fs ++ n ∷ [] → ds ≡ cs
      → IsSound (table ss fs p cs ps) → IsSound (table ss gs p ds ps)
  unfolding rows
  filter_added ss fs gs p cs ds ps n filters chains sound =
      record {
        servlets = sound.servlets;
        filters = rw (chains, filters, map-append) (λ i d h. ready_front (map (row filtering filter_phase) fs) (row filtering filter_phase n ∷ []) _ (sound.filters i d h));
      }

  pub filter_mapped : (ss : List (Hosted S)) (fs gs : List (Hosted F)) (p : mappings.Table) (cs ds : List FilterMapping) (ps : List ErrorPage) (n : Hosted F) (m : FilterMapping) → gs ≡ fs ++ n ∷ [] → ds ≡ cs ++ m ∷ []
      → m.filter ≡ length fs → filter_phase n.object ≡ Ready → IsSound (table ss fs p cs ps) → IsSound (table ss gs p ds ps)
  unfolding rows
  filter_mapped ss fs gs p cs ds ps n m filters chains at ready sound =
      let old : List (Row Filters) = map (row filtering filter_phase) fs in
      let new : List (Row Filters) = old ++ row filtering filter_phase n ∷ [] in
      let last : IsReadyAt new m.filter = subst (IsReadyAt new) (length-map fs (row filtering filter_phase) ∙ sym at) (ready_last old (row filtering filter_phase n) ready) in
      record {
        servlets = sound.servlets;
        filters = rw (chains, filters, map-append)
            (All-append (λ (x : FilterMapping). IsReadyAt new x.filter) cs (m ∷ []) (λ i d h. ready_front old (row filtering filter_phase n ∷ []) _ (sound.filters i d h))
            (All-cons (λ (x : FilterMapping). IsReadyAt new x.filter) m [] last (All-nil _)));
      }
