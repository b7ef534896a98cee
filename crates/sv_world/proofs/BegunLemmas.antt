-- A world whose nodes have just started, and its engines.
use Rattle.sv_world.proofs.Prelude.{◌≡◌, ℕ, ◌<◌, ◌≤◌, true, Option, Some, None, List, [], ◌∷◌, ◌++◌, arith, refl, sym, ap, ◌∙◌, subst, is_some, is_none, IfSome}
use Rattle.sv_world.proofs.Prelude.{slice_get, Result, Ok, Err, IfOk, All, option_map, Core, Setting, Record, Blank, always, EngineMeaning, TouchesOnlyHanded}
use Rattle.sv_world.proofs.Prelude.{blank, replayed, AllFit, WorldEvent, Line, Rules, setting_by, Slot, IsHeadline, HaveFitted, IsSlot, RunsOver, durable_of}
use Rattle.sv_world.proofs.Prelude.{engine_in, engine_by, member_of, member_by, Cluster, steady, setting_of, stopped, nothing_happened, run, rules_in}
use Rattle.sv_world.proofs.Prelude.{member_in, meant_in, noted_in, world_of, size_of, cluster_of, meanings_of, heard_of, IsWorld, restarts, IsIdle, AreFilled}
use Rattle.sv_world.proofs.Prelude.{IsPlanned, Ran}
use Rattle.std.proofs.Common.{zero, suc, map, length}
use Rattle.std.proofs.lemmas.List.{length-map}
use Rattle.std.proofs.lemmas.Option.{slice_get-get_or}
use Rattle.sv_world.specs.declared.world.World.{World as Nodes}
use Rattle.sv_world.specs.Happened.{AllAlike, AreMade, AreBack}
use Rattle.sv_world.specs.Making.{IsUntouched, HaveBegun, AreEnginesOf}
use Rattle.sv_world.proofs.HappenedLemmas.{told_there}
use Rattle.sv_world.proofs.MakingLemmas.{all_some}
use Rattle.sv_world.proofs.PlanLemmas.{run_on}
use Rattle.sv_world.proofs.RanLemmas.{planned_there, ran_steady, ran_fit}

all_by : {X : Type 0} (P : X → Type 0) (xs : List X) → ((k : ℕ) → IfSome (slice_get xs k) P) → All P xs
all_by P xs h k d less = subst (λ o. IfSome o P) (slice_get-get_or xs k d less) (h k)

pub ok_both : {T F : Type 0} (r : Result T F) (P Q R : T → Type 0) → ((x : T) → P x → Q x → R x) → IfOk r P → IfOk r Q → IfOk r R
ok_both (Ok x) P Q R f p q = f x p q
ok_both (Err e) P Q R f p q = tt

module _ {E : Type 0} where
  abbrev pub engine_seen : Option (Slot E) → Option E
  engine_seen None = None
  engine_seen (Some s) = engine_in s

  pub at_place : (slots : List (Slot E)) (engines : List E) → map engine_in slots ≡ map Some engines → (n : ℕ) → engine_seen (slice_get slots n) ≡ slice_get engines n
  at_place [] [] h n = refl
  at_place [] (e ∷ es) h n = absurd (let no : [] ≡ Some e ∷ map Some es = h in cc)
  at_place (s ∷ ss) [] h n = absurd (let no : engine_in s ∷ map engine_in ss ≡ [] = h in cc)
  at_place (s ∷ ss) (e ∷ es) h zero = let both : engine_in s ∷ map engine_in ss ≡ Some e ∷ map Some es = h in cc
  at_place (s ∷ ss) (e ∷ es) h (suc n) = at_place ss es (let both : engine_in s ∷ map engine_in ss ≡ Some e ∷ map Some es = h in cc) n

  meant_is : (meaning : E → EngineMeaning) (o : Option (Slot E)) → meant_in meaning o ≡ option_map meaning (engine_seen o)
  meant_is meaning None = refl
  meant_is meaning (Some s) = refl

  noted_is : (noted : E → List (List ℕ)) (o : Option (Slot E)) → noted_in noted o ≡ option_map noted (engine_seen o)
  noted_is noted None = refl
  noted_is noted (Some s) = refl

  number_is : (slots : List (Slot E)) (engines : List E) → map engine_in slots ≡ map Some engines → length slots ≡ length engines
  number_is slots engines h = sym (length-map slots engine_in) ∙ ap length h ∙ length-map engines Some

  alike_at : (meaning : E → EngineMeaning) (m : EngineMeaning) (engines : List E) → AllAlike meaning m engines → (n : ℕ) → n < length engines → option_map meaning (slice_get engines n) ≡ Some m
  alike_at meaning m engines all n less = subst (λ (o : Option E). IfSome o (λ e. meaning e ≡ m) → option_map meaning o ≡ Some m) (sym (slice_get-get_or engines n (head engines less) less)) (λ h. ap Some h) (all_some (λ e. meaning e ≡ m) engines all n)
    where
      head : (xs : List E) → n < length xs → E
      head [] less = absurd (omega arith)
      head (x ∷ xs) less = x

  module _ (fit : E → Type 0) where
    slot_engine : (s : Slot E) → IsSlot fit s → is_some (engine_in s) ≡ true
    slot_engine s h = by_core s.core s.idle h.either
      where
        by_core : (core : Option (Core E)) (idle : Option E) → is_some idle ≡ is_none core → is_some (engine_by core idle) ≡ true
        by_core None idle is = is
        by_core (Some c) idle is = refl

    pub all_engines : (slots : List (Slot E)) → All (λ s. IsSlot fit s) slots → All (λ s. is_some (engine_in s) ≡ true) slots
    all_engines slots all k d less = slot_engine _ (all k d less)

    seen_fit : (o : Option (Slot E)) → IfSome o (λ s. IsSlot fit s) → IfSome (engine_seen o) fit
    seen_fit None h = tt
    seen_fit (Some s) h = h.engine

    idle_slot : (s : Slot E) → IsIdle s → IfSome (engine_in s) fit → IsSlot fit s
    idle_slot s h engine = record {
      engine = engine;
      fit = subst (λ (rs : List Record). AllFit s.setting Blank blank rs) (sym h.journal) tt;
      runs = subst (λ (core : Option (Core E)). IfSome core (λ c. RunsOver s.setting (durable_of s) c)) (sym h.core) tt;
      either = h.idle ∙ sym (ap is_none h.core);
    }

    idle_fit : (o : Option (Slot E)) → IfSome o IsIdle → IfSome (engine_seen o) fit → IfSome o (λ s. IsSlot fit s)
    idle_fit None h e = tt
    idle_fit (Some s) h e = idle_slot s h e

    -- engines in their slots are a world
    pub filled_world : (w : Nodes E) (rules : Rules) (engines : List E) → AreFilled (length engines) rules engines w.slots.items → All fit engines → 0 < length engines → length engines ≤ 8 → IsWorld fit w
    filled_world w rules engines h all some few =
        let number = number_is w.slots.items engines h.engines_in in
        record {
          slots = all_by (λ s. IsSlot fit s) w.slots.items (λ k. idle_fit (slice_get w.slots.items k) (all_some IsIdle w.slots.items h.idle k) (subst (λ o. IfSome o fit) (sym (at_place w.slots.items engines h.engines_in k)) (all_some fit engines all k)));
          settings = λ n less. record { own = ap (λ (s : Setting). s.node) (h.settings n less); told = subst (λ (s : Setting). n < s.nodes) (sym (h.settings n less)) (omega (arith, number, less)) };
          some = omega (arith, number);
          few = omega (arith, number);
        }

  idle_member : (s : Slot E) → IsIdle s → member_of s ≡ stopped blank
  idle_member s h = ap (λ (core : Option (Core E)). member_by core (durable_of s)) h.core ∙ ap (λ (rs : List Record). stopped (replayed blank rs)) h.journal

  member_is : (o : Option (Slot E)) → IfSome o IsIdle → member_in o ≡ stopped blank
  member_is None h = refl
  member_is (Some s) h = idle_member s h

  module _ (meaning : E → EngineMeaning) (noted : E → List (List ℕ)) where
    meanings_are : (w : Nodes E) (engines : List E) → map engine_in w.slots.items ≡ map Some engines → (n : ℕ) → meanings_of meaning w n ≡ option_map meaning (slice_get engines n)
    meanings_are w engines h n = meant_is meaning (slice_get w.slots.items n) ∙ ap (option_map meaning) (at_place w.slots.items engines h n)

    heard_are : (w : Nodes E) (engines : List E) → map engine_in w.slots.items ≡ map Some engines → (n : ℕ) → heard_of noted w n ≡ option_map noted (slice_get engines n)
    heard_are w engines h n = noted_is noted (slice_get w.slots.items n) ∙ ap (option_map noted) (at_place w.slots.items engines h n)

    -- the engines of a world's nodes are those of a world before it
    pub are_of : (fit : E → Type 0) (old new : Nodes E) (engines : List E) → size_of new ≡ size_of old → meanings_of meaning new ≡ meanings_of meaning old → heard_of noted new ≡ heard_of noted old
        → All (λ s. IsSlot fit s) new.slots.items → map Some engines ≡ map engine_in new.slots.items → AreEnginesOf meaning noted fit old engines
    are_of fit old new engines size meanings heard all is = record {
      valid = all_by fit engines (λ k. subst (λ o. IfSome o fit) (at_place new.slots.items engines (sym is) k) (seen_fit fit (slice_get new.slots.items k) (all_some (λ s. IsSlot fit s) new.slots.items all k)));
      number = sym (number_is new.slots.items engines (sym is)) ∙ size;
      meanings = λ n. sym (meanings_are new engines (sym is) n) ∙ (λ i. meanings i n);
      heard = λ n. sym (heard_are new engines (sym is) n) ∙ (λ i. heard i n);
    }

    module _ (w : Nodes E) (rules : Rules) (engines : List E) (h : AreFilled (length engines) rules engines w.slots.items) where
      size_is : size_of w ≡ length engines
      size_is = number_is w.slots.items engines h.engines_in

      settings_are : (n boot : ℕ) → n < length engines → setting_of (cluster_of w) n boot ≡ setting_by rules n (length engines)
      settings_are n boot less = ap (λ (s : Setting). setting_by (rules_in s) n s.nodes) (h.settings n (omega (arith, size_is, less)))

      nothing : IsUntouched w → world_of w ≡ nothing_happened
      nothing u = λ i. record { members = λ n. member_is (slice_get w.slots.items n) (all_some IsIdle w.slots.items h.idle n) i; packets = u.packets i; trace = u.trace i }

      -- nothing has happened to them
      pub at_rest : IsUntouched w → AreMade meaning noted engines rules [] w
      at_rest u = record {
        size = size_is;
        settings = settings_are;
        world = λ m alike. nothing u;
        each = ap (λ (ls : List Line). map (λ (l : Line). l.event) ls) u.trace;
        meanings = meanings_are w engines h.engines_in;
        heard = heard_are w engines h.engines_in;
      }

      pub started : IsUntouched w → (new : Nodes E) → HaveBegun meaning noted w new → AreMade meaning noted engines rules (restarts (length engines)) new
      started u new b = record {
        size = b.happened.size ∙ size_is;
        settings = λ n boot less. ap (λ (k : Cluster). setting_of k n boot) b.happened.cluster ∙ settings_are n boot less;
        world = λ m alike.
            b.happened.world (λ n. m) (λ n less. meanings_are w engines h.engines_in n ∙ alike_at meaning m engines alike n (omega (arith, size_is, less)))
            ∙ (λ i. run (always m) (sym b.happened.cluster i) (nothing u i) (restarts (size_is i)));
        each = ap (map (λ (l : Line). l.event)) (b.happened.trace ∙ ap (λ (ls : List Line). ls ++ b.happened.lines) u.trace) ∙ b.happened.each ∙ ap restarts size_is;
        meanings = λ n. (λ i. b.happened.meanings i n) ∙ meanings_are w engines h.engines_in n;
        heard = λ n. (λ i. b.heard i n) ∙ heard_are w engines h.engines_in n;
      }

      pub back : (fit : E → Type 0) (engines' : List E) → AreEnginesOf meaning noted fit w engines' → AreBack meaning noted fit engines engines'
      back fit engines' a = record {
        valid = a.valid;
        number = a.number ∙ number_is w.slots.items engines h.engines_in;
        meanings = λ n. a.meanings n ∙ meanings_are w engines h.engines_in n;
        heard = λ n. a.heard n ∙ heard_are w engines h.engines_in n;
      }

    -- the law of one engine is that of all
    touches_by : (valid : E → Type 0) → ((e : E) → valid e → TouchesOnlyHanded (meaning e)) → (m : EngineMeaning) (engines : List E) → 0 < length engines → All valid engines → AllAlike meaning m engines → TouchesOnlyHanded m
    touches_by valid law m [] some all alike = absurd (omega (arith, some))
    touches_by valid law m (e ∷ es) some all alike = subst TouchesOnlyHanded (alike 0 e some) (law e (all 0 e some))

    -- what was made by engines of one meaning is by a plan of the same for each start
    module _ (valid : E → Type 0) (law : (e : E) → valid e → TouchesOnlyHanded (meaning e)) (m : EngineMeaning) (engines : List E) (rules : Rules) (events : List WorldEvent) (w : Nodes E)
        (some : 0 < length engines) (all : All valid engines) (a : AreMade meaning noted engines rules events w) (alike : AllAlike meaning m engines) where
      made_plan : IsPlanned meaning (always m) (steady (length engines) rules) w
      made_plan = record {
        inside = λ n boot less. omega (arith, a.size, less);
        beyond = λ n boot past. omega (arith, a.size, past);
        meanings = λ n boot less le. a.meanings n ∙ alike_at meaning m engines alike n (omega (arith, a.size, less));
        settings = λ n boot less le. a.settings n boot (omega (arith, a.size, less));
      }

      pub made_ran : Ran meaning (always m) (steady (length engines) rules) w
      made_ran = record {
        touches = λ n boot. touches_by valid law m engines some all alike;
        plan = made_plan;
        world = a.world m alike
            ∙ run_on (always m) (always m) (cluster_of w) (steady (length engines) rules) (planned_there meaning noted (always m) (steady (length engines) rules) w made_plan) events nothing_happened
            (λ n boot told le. record { meaning = refl; setting = a.settings n boot (let less = told_there w.slots.items n told in omega (arith, a.size, less)) })
            ∙ ap (run (always m) (steady (length engines) rules) nothing_happened) (sym a.each);
      }

      pub made_headline : IsHeadline (always m) (world_of w)
      made_headline = ran_steady meaning noted m (length engines) rules w made_ran

      pub made_fit : HaveFitted rules (world_of w)
      made_fit = ran_fit meaning noted (always m) (steady (length engines) rules) w made_ran rules (λ n boot. omega arith)
