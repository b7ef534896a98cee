-- What has happened in a world in code, one after the other, and the theorem of it.
use Rattle.sv_world.proofs.Prelude.{◌≡◌, ℕ, ◌<◌, ◌≤◌, Option, Some, None, List, [], ◌∷◌, ◌++◌, arith, refl, sym, ap, ◌∙◌, subst, ⊎_elim, append-nil}
use Rattle.sv_world.proofs.Prelude.{append_assoc, slice_get, Result, Ok, Err, IfErr, option_map, cases_lt, map-append, flat_map-append, same_Some, Told}
use Rattle.sv_world.proofs.Prelude.{Setting, Meanings, always, EngineMeaning, heard_all, WorldEvent, WorldFault, Line, Rules, fault_of, IsHeadline, AreWithin}
use Rattle.sv_world.proofs.Prelude.{HaveFitted, IsProgress, Cluster, World, steady, setting_of, run, nothing_happened, AlwaysKnows, settings_by, world_of}
use Rattle.sv_world.proofs.Prelude.{size_of, cluster_of, meanings_of, heard_of, AllMean, by_node, events_in, HaveHappened, IsStill, IsRefused, refusal, told_at}
use Rattle.sv_world.proofs.Prelude.{since, IsPlanned, Ran}
use Rattle.std.proofs.Common.{◌+◌, map, take, length}
use Rattle.std.specs.Prelude.{OnOk}
use Rattle.sv_world.specs.declared.running.RunFault.{RunFault}
use Rattle.sv_world.specs.declared.world.World.{World as Nodes}
use Rattle.sv_world.specs.Happened.{HaveStopped, told_in}
use Rattle.sv_world.proofs.Events.{run_more}
use Rattle.sv_world.proofs.HappenedLemmas.{told_there}
use Rattle.sv_world.proofs.HeadlineLemmas.{headline, same, kept}
use Rattle.sv_world.proofs.PlanLemmas.{AreThere, FromNowOn, there_by, run_on, run_later}
use Rattle.sv_world.proofs.PromiseLemmas.{progress}

heard_more : (m : EngineMeaning) (h : List (List ℕ)) (a b : List Told) → heard_all m (heard_all m h a) b ≡ heard_all m h (a ++ b)
heard_more m h [] b = refl
heard_more m h (t ∷ ts) b = heard_more m (m.hear h t) ts b

option_twice : {A : Type 0} (f g k : A → A) (o : Option A) → ((x : A) → f (g x) ≡ k x) → option_map f (option_map g o) ≡ option_map k o
option_twice f g k None h = refl
option_twice f g k (Some x) h = ap Some (h x)

option_still : {A : Type 0} (f : A → A) (o : Option A) → ((x : A) → f x ≡ x) → o ≡ option_map f o
option_still f None h = refl
option_still f (Some x) h = ap Some (sym (h x))

module _ {E : Type 0} (meaning : E → EngineMeaning) (noted : E → List (List ℕ)) where
  pub mean_still : (m : ℕ → EngineMeaning) (old new : Nodes E) → size_of new ≡ size_of old → meanings_of meaning new ≡ meanings_of meaning old → AllMean meaning m old → AllMean meaning m new
  mean_still m old new size same all n less = (λ i. same i n) ∙ all n (omega (arith, size, less))

  -- nothing is no events
  pub none_happened : (old new : Nodes E) → IsStill meaning noted old new → HaveHappened meaning noted old new []
  none_happened old new h = record {
    size = h.size;
    cluster = h.cluster;
    world = λ m all. h.world;
    lines = [];
    trace = ap (λ (w : World). w.trace) h.world ∙ sym (append-nil (world_of old).trace);
    each = refl;
    meanings = h.meanings;
    heard = λ n m is. (λ i. h.heard i n) ∙ option_still (λ (x : List (List ℕ)). x) (heard_of noted old n) (λ x. refl);
  }

  pub still_self : (w : Nodes E) → IsStill meaning noted w w
  still_self w = record { size = refl; cluster = refl; world = refl; meanings = refl; heard = refl }

  module _ (old mid new : Nodes E) (es fs : List WorldEvent) where
    pub joined : HaveHappened meaning noted old mid es → HaveHappened meaning noted mid new fs → HaveHappened meaning noted old new (es ++ fs)
    joined h g = record {
      size = g.size ∙ h.size;
      cluster = g.cluster ∙ h.cluster;
      world = λ m all. g.world m (mean_still m old mid h.size h.meanings all) ∙ (λ i. run (by_node m) (h.cluster i) (h.world m all i) fs) ∙ run_more (by_node m) (cluster_of old) (world_of old) es fs;
      lines = h.lines ++ g.lines;
      trace = g.trace ∙ ap (λ ls. ls ++ g.lines) h.trace ∙ append_assoc (world_of old).trace h.lines g.lines;
      each = map-append (λ (l : Line). l.event) h.lines g.lines ∙ (λ i. h.each i ++ g.each i);
      meanings = g.meanings ∙ h.meanings;
      heard = λ n m is.
          let listen : List Line → List (List ℕ) → List (List ℕ) = λ ls x. heard_all m x (told_at n ls) in
          g.heard n m ((λ i. h.meanings i n) ∙ is) ∙ ap (option_map (listen g.lines)) (h.heard n m is)
          ∙ option_twice (listen g.lines) (listen h.lines) (listen (h.lines ++ g.lines)) (heard_of noted old n)
          (λ x. heard_more m x (told_at n h.lines) (told_at n g.lines) ∙ ap (heard_all m x) (sym (flat_map-append (told_in n) h.lines g.lines)));
    }

  -- ---- by a plan

  -- the plan tells the nodes that are there of themselves, as what they have does
  pub planned_there : (m : Meanings) (c : Cluster) (w : Nodes E) → IsPlanned meaning m c w → AreThere (cluster_of w) c
  planned_there m c w plan n boot =
      let now = since (world_of w) n in
      let here : n < c.nodes n boot → n < size_of w = λ told. ⊎_elim (λ (less : n < size_of w). less) (λ (past : size_of w ≤ n). let none = plan.beyond n boot past in absurd (omega (arith, told, none))) (cases_lt n (size_of w)) in
      there_by n (settings_by w.slots.items n).nodes (c.nodes n boot)
      (λ told. plan.inside n boot (told_there w.slots.items n told))
      (λ told. let less = here told in subst (λ (s : Setting). n < s.nodes) (sym (plan.settings n now less (omega arith))) (plan.inside n now less))

  module _ (m : Meanings) (c : Cluster) (old new : Nodes E) (es : List WorldEvent) (h : HaveHappened meaning noted old new es) (r : Ran meaning m c old) where
    -- what each node has now
    abbrev now : ℕ → EngineMeaning
    now n = m n (since (world_of old) n)

    same_from : FromNowOn (by_node now) m (cluster_of old) c (planned_there m c old r.plan) (world_of old)
    same_from n boot told le =
        let less = told_there old.slots.items n told in
        record {
          meaning = same_Some (now n) (m n boot) (sym (r.plan.meanings n (since (world_of old) n) less (omega arith)) ∙ r.plan.meanings n boot less le);
          setting = r.plan.settings n boot less le;
        }

    world_on : world_of new ≡ run m c (world_of old) es
    world_on = h.world now (λ n less. r.plan.meanings n (since (world_of old) n) less (omega arith)) ∙ run_on (by_node now) m (cluster_of old) c (planned_there m c old r.plan) es (world_of old) same_from

    events_on : events_in (world_of new) ≡ events_in (world_of old) ++ es
    events_on = ap (map (λ (l : Line). l.event)) h.trace ∙ map-append (λ (l : Line). l.event) (world_of old).trace h.lines ∙ ap (λ fs. events_in (world_of old) ++ fs) h.each

    since_on : (n : ℕ) → since (world_of old) n ≤ since (world_of new) n
    since_on n = subst (λ (w : World). since (world_of old) n ≤ since w n) (sym world_on) ((run_later m c es (world_of old)).from n)

    pub ran_more : Ran meaning m c new
    ran_more = record {
      touches = r.touches;
      plan = record {
        inside = λ n boot less. r.plan.inside n boot (omega (arith, h.size, less));
        beyond = λ n boot past. r.plan.beyond n boot (omega (arith, h.size, past));
        meanings = λ n boot less le. (λ i. h.meanings i n) ∙ r.plan.meanings n boot (omega (arith, h.size, less)) (omega (arith, le, since_on n));
        settings = λ n boot less le. ap (λ (k : Cluster). setting_of k n boot) h.cluster ∙ r.plan.settings n boot (omega (arith, h.size, less)) (omega (arith, le, since_on n));
      };
      world = world_on ∙ ap (λ w. run m c w es) r.world ∙ run_more m c nothing_happened (events_in (world_of old)) es ∙ ap (run m c nothing_happened) (sym events_on);
    }

  -- ---- the theorem

  module _ (m : Meanings) (c : Cluster) (w : Nodes E) (r : Ran meaning m c w) where
    pub ran_headline : AlwaysKnows m c nothing_happened (events_in (world_of w)) → IsHeadline m (world_of w)
    ran_headline knows = subst (IsHeadline m) (sym r.world) (headline m r.touches c (events_in (world_of w)) knows)

    pub ran_fit : (wide : Rules) → AreWithin wide c → HaveFitted wide (world_of w)
    ran_fit wide within = subst (HaveFitted wide) (sym r.world) (kept m r.touches c wide within (events_in (world_of w))).fits

    pub ran_progress : IsProgress m c (world_of w)
    ran_progress = subst (IsProgress m c) (sym r.world) (progress m r.touches c (events_in (world_of w)))

  pub ran_steady : (m : EngineMeaning) (nodes : ℕ) (rules : Rules) (w : Nodes E) → Ran meaning (always m) (steady nodes rules) w → IsHeadline (always m) (world_of w)
  ran_steady m nodes rules w r = subst (IsHeadline (always m)) (sym r.world) (same m (r.touches 0 0) nodes rules (events_in (world_of w)))

  -- ---- by the answer of a call

  -- some events have happened
  abbrev pub SomeHappened : Nodes E → Nodes E → Type 0
  SomeHappened old new = (es : List WorldEvent) × HaveHappened meaning noted old new es

  pub step_some : {T : Type 0} (r : Result T WorldFault) (old new : Nodes E) (e : WorldEvent) → OnOk r (HaveHappened meaning noted old new (e ∷ [])) → IfErr r (λ f. IsRefused meaning noted old new e f) → SomeHappened old new
  step_some (Ok x) old new e happened refused = (e ∷ [], happened)
  step_some (Err f) old new e happened refused = ([], none_happened old new refused.still)

  pub run_some : {T : Type 0} (r : Result T RunFault) (old new : Nodes E) (es : List WorldEvent) → OnOk r (HaveHappened meaning noted old new es) → IfErr r (λ f. HaveStopped meaning noted old new es f) → SomeHappened old new
  run_some (Ok x) old new es happened stopped = (es, happened)
  run_some (Err f) old new es happened stopped = (take f.place es, stopped.before)

  pub some_ran : (old new : Nodes E) → SomeHappened old new → (m : Meanings) (c : Cluster) → Ran meaning m c old → Ran meaning m c new
  some_ran old new some m c r = ran_more m c old new some.0 some.1 r

  -- ---- up to a place

  module _ (old mid new : Nodes E) (events : List WorldEvent) (place : ℕ) (e : WorldEvent) where
    pub one_more : take (place + 1) events ≡ take place events ++ e ∷ [] → HaveHappened meaning noted old mid (take place events) → HaveHappened meaning noted mid new (e ∷ []) → HaveHappened meaning noted old new (take (place + 1) events)
    one_more is h g = subst (HaveHappened meaning noted old new) (sym is) (joined old mid new (take place events) (e ∷ []) h g)

    pub stopped_at : (fault : WorldFault) → place < length events → slice_get events place ≡ Some e → HaveHappened meaning noted old mid (take place events) → IsRefused meaning noted mid new e fault
        → HaveStopped meaning noted old new events (record { place = place; fault = fault })
    stopped_at fault less there h refused = record {
      within = less;
      before = subst (HaveHappened meaning noted old new) (append-nil (take place events)) (joined old mid new (take place events) [] h (none_happened mid new refused.still));
      fault = λ x at. refused.fault ∙ (λ i. refusal (fault_of (h.cluster i) (sym refused.still.world i) (same_Some e x (sym there ∙ at) i)));
    }
