-- The application that serves a path.
use Rattle.sv_container.proofs.Prelude.{◌≡◌, ℕ, ◌<◌, true, Option, Some, List, [], ◌∷◌, length, get_or, set, map, refl, sym, ap, ◌∙◌, subst, string_bytes, All}
use Rattle.sv_container.proofs.Prelude.{IfSome, slice_get, get_or_from_slice_get, slice_get-get_or, get_or-map, context_at, path_in_context, Told, Key, Secret}
use Rattle.sv_container.proofs.Prelude.{Outcome, Request, Session, session_cookie, admission, length-map, Application, App, IsSoundApp, app_of, apps_of}
use Rattle.sv_container.proofs.Prelude.{heard_by_all, heard_of, Deployed, IsSound, container_meaning, deployed, place_for, served, served_by, served_in}
use Rattle.std.specs.Prelude.{IsTrue}
use Rattle.std.proofs.Math.Seq.{map-set_same}
use Rattle.std.proofs.lemmas.Option.{slice_get-map, slice_get_within}
use Rattle.sv_mapping.specs.Context.{IsChosen, chosen_context}
use Rattle.sv_mapping.specs.Path.{is_at_or_below}
use Rattle.sv_mapping.proofs.ContextLemmas.{chosen_facts}
use Rattle.sv_model.specs.Engine.{heard_all}
use Rattle.sv_model.specs.declared.request.Cookie.{Cookie}
use Rattle.sv_container.specs.declared.container.Container.{Container}
use Rattle.sv_container.specs.Laws.{place_is}
use Rattle.sv_container.specs.Serving.{named_by}
use Rattle.sv_servlet.specs.declared.servlet.Servlet as servlet_trait
use Rattle.sv_servlet.specs.declared.filter.Filter as filter_trait

-- the context has the path, and there is an application, which is in service
pub record IsPlace (d : Deployed) (path : List ℕ) (place : ℕ) (a : App) : Type 0 where
  pub chosen : IsChosen d.paths path place
  pub there : slice_get d.apps place ≡ Some a
  pub serving : a.is_in_service ≡ true

chosen_is : (contexts : List (List ℕ)) (path : List ℕ) (place : ℕ) → chosen_context contexts path ≡ Some place → IsChosen contexts path place
chosen_is contexts path place h = (chosen_facts path contexts (Some place) (sym h)).0

-- the application that is there is the one of the place
pub is_place : (d : Deployed) (path : List ℕ) (place : ℕ) (a : App) → place_for d path ≡ Some place → slice_get d.apps place ≡ Some a → IsPlace d path place a
is_place d path place a h is =
    let s = place_is d path place h in
    record {
      chosen = chosen_is d.paths path place s.0;
      there = is;
      serving = subst (λ (o : Option App). IfSome o (λ x. x.is_in_service ≡ true)) is s.1.1;
    }

pub place_within : (d : Deployed) (path : List ℕ) (place : ℕ) → place_for d path ≡ Some place → place < length d.apps
place_within d path place h = (place_is d path place h).1.0

-- the element of a list, as its image in the list of images
pub image_there : {X Y : Type 0} (f : X → Y) (xs : List X) (i : ℕ) (x : X) → i < length xs → x ≡ get_or xs i x → slice_get (map f xs) i ≡ Some (f x)
image_there f xs i x h e = slice_get-map f xs i ∙ (rw (slice_get-get_or xs i x h, ← e) refl)

pub named_is : (d : Deployed) (r : Request) (place : ℕ) (a : App) → place_for d r.path ≡ Some place → slice_get d.apps place ≡ Some a
    → named_by d r ≡ session_cookie a.cookie.name r.cookies a.number
named_is d r place a h is = rw (h, is) refl

pub served_is : (d : Deployed) (r : Request) (place : ℕ) (a : App) (handed : Option (Key × Session)) (now : ℕ) (fresh : Key × Secret)
    → place_for d r.path ≡ Some place → slice_get d.apps place ≡ Some a
    → served d r handed now fresh ≡ served_in a r (path_in_context (context_at d.paths place) r.path)
    (admission a.once a.number r (session_cookie a.cookie.name r.cookies a.number) handed now) now fresh
served_is d r place a handed now fresh h is = rw (h, is) refl

pub sound_at : (apps : List App) (place : ℕ) (a : App) → All IsSoundApp apps → slice_get apps place ≡ Some a → IsSoundApp a
sound_at apps place a sound is = subst IsSoundApp (get_or_from_slice_get apps place a a is) (sound place a (slice_get_within apps place a is))

-- ---- the applications of the code

module _ {S F : Type 0} (servlet : servlet_trait.Ghosts S) (filter : filter_trait.Ghosts F) where
  pub app_there : (apps : List (Application S F)) (i : ℕ) (a : Application S F) → i < length apps → a ≡ get_or apps i a
      → slice_get (apps_of servlet filter apps) i ≡ Some (app_of servlet filter a)
  unfolding apps_of
  app_there apps i a h e = image_there (app_of servlet filter) apps i a h e

  pub apps_length : (apps : List (Application S F)) → length (apps_of servlet filter apps) ≡ length apps
  unfolding apps_of
  apps_length apps = length-map apps (app_of servlet filter)

  -- an application that is changed into an equal one leaves all as they were
  pub apps_same : (apps : List (Application S F)) (i : ℕ) (m n : Application S F)
      → app_of servlet filter m ≡ app_of servlet filter n → n ≡ get_or apps i n
      → apps_of servlet filter (set apps i m) ≡ apps_of servlet filter apps
  unfolding apps_of
  apps_same apps i m n s e = map-set_same (app_of servlet filter) apps i m n (s ∙ ap (app_of servlet filter) e)

-- ---- the container of the code

pub context_there : {X : Type 0} (f : X → List ℕ) (xs : List X) (i : ℕ) (x : X) → i < length xs → x ≡ get_or xs i x → f x ≡ context_at (map f xs) i
context_there f xs i x h e = ap f e ∙ sym (get_or-map f xs i x [] h)

-- a path that has a place lies at or below the context path there
pub below_there : (d : Deployed) (path whole context : List ℕ) (place : ℕ) → Some place ≡ place_for d path → whole ≡ path → context ≡ context_at d.paths place
    → IsTrue (is_at_or_below context whole)
below_there d path whole context place h same is =
    let chosen = chosen_is d.paths path place (place_is d path place (sym h)).0 in
    rw (same, is) chosen.below

module _ {S F L : Type 0} (servlet : servlet_trait.Ghosts S) (filter : filter_trait.Ghosts F)
    (hears : L → Told → List ℕ → List ℕ) (c : Container S F L) where
  abbrev D : Deployed
  D = deployed servlet filter hears c

  abbrev A : Application S F → App
  A = app_of servlet filter

  pub app_within : (path : List ℕ) (place : ℕ) → Some place ≡ place_for D path → place < length c.applications.items
  app_within path place h = rw (apps_length servlet filter c.applications.items) at (place_within D path place (sym h))

  pub path_within : (path : List ℕ) (place : ℕ) → Some place ≡ place_for D path → place < length c.paths.items
  path_within path place h = rw (length-map c.paths.items string_bytes) at (chosen_is D.paths path place (place_is D path place (sym h)).0).within

  there_is : (path : List ℕ) (place : ℕ) (a : Application S F) → Some place ≡ place_for D path → a ≡ get_or c.applications.items place a
      → slice_get D.apps place ≡ Some (A a)
  there_is path place a h e = app_there servlet filter c.applications.items place a (app_within path place h) e

  pub sound_one : (path : List ℕ) (place : ℕ) (a : Application S F) → IsSound D → Some place ≡ place_for D path → a ≡ get_or c.applications.items place a
      → IsSoundApp (A a)
  sound_one path place a sound h e = sound_at D.apps place (A a) sound (there_is path place a h e)

  pub serving_one : (path : List ℕ) (place : ℕ) (a : Application S F) → Some place ≡ place_for D path → a ≡ get_or c.applications.items place a
      → a.is_in_service ≡ true
  serving_one path place a h e = (is_place D path place (A a) (sym h) (there_is path place a h e)).serving

  -- what the cookies name is what the container names
  pub named_one : (r : Request) (path : List ℕ) (place : ℕ) (a : Application S F) (cookies : List Cookie)
      → Some place ≡ place_for D path → path ≡ r.path → a ≡ get_or c.applications.items place a → cookies ≡ r.cookies
      → session_cookie a.cookie.name cookies a.number ≡ named_by D r
  named_one r path place a cookies h is e same =
      let at_path : place_for D r.path ≡ Some place = sym (h ∙ ap (place_for D) is) in
      ap (λ ks. session_cookie a.cookie.name ks a.number) same ∙ sym (named_is D r place (A a) at_path (there_is path place a h e))

  -- what the application at a place answers is what the container answers
  pub served_one : (r : Request) (handed : Option (Key × Session)) (now : ℕ) (fresh : Key × Secret) (path whole context inner : List ℕ) (place : ℕ) (a : Application S F) (o : Outcome)
      → Some place ≡ place_for D path → path ≡ r.path → a ≡ get_or c.applications.items place a
      → context ≡ context_at D.paths place → whole ≡ r.path → inner ≡ path_in_context context whole
      → o ≡ served_by (Some (A a)) r inner handed now fresh → o ≡ served D r handed now fresh
  served_one r handed now fresh path whole context inner place a o h is e context_is whole_is inner_is answers =
      let at_path : place_for D r.path ≡ Some place = sym (h ∙ ap (place_for D) is) in
      let p : inner ≡ path_in_context (context_at D.paths place) r.path = inner_is ∙ (ap (λ k. path_in_context k whole) context_is ∙ ap (path_in_context (context_at D.paths place)) whole_is) in
      answers ∙ (ap (λ x. served_by (Some (A a)) r x handed now fresh) p ∙ sym (served_is D r place (A a) handed now fresh at_path (there_is path place a h e)))

  -- an application that is changed into an equal one leaves the container sound, and its meaning as it was
  pub sound_kept : (place : ℕ) (m n : Application S F) → IsSound D → A m ≡ A n → n ≡ get_or c.applications.items place n
      → All IsSoundApp (apps_of servlet filter (set c.applications.items place m))
  sound_kept place m n sound s e = subst (All IsSoundApp) (sym (apps_same servlet filter c.applications.items place m n s e)) sound

  pub meaning_kept : (place : ℕ) (m n : Application S F) → A m ≡ A n → n ≡ get_or c.applications.items place n
      → container_meaning (record { paths = D.paths; apps = apps_of servlet filter (set c.applications.items place m); ears = D.ears }) ≡ container_meaning D
  meaning_kept place m n s e =
      ap (λ (apps : List App). container_meaning (record { paths = D.paths; apps = apps; ears = D.ears }))
      (apps_same servlet filter c.applications.items place m n s e)

-- ---- events

-- the events in order, as an engine means them
pub heard_same : (d : Deployed) (ts : List Told) (h : List (List ℕ)) → heard_of d.ears h ts ≡ heard_all (container_meaning d) h ts
unfolding heard_of
heard_same d [] h = refl
heard_same d (t ∷ ts) h = heard_same d ts (heard_by_all d.ears h t)
