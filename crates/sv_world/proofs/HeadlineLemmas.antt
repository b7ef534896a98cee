-- The theorem that the project is for, of every list of events.
use Rattle.sv_world.proofs.Prelude.{ℕ, false, List, [], ◌∷◌, arith, refl, AreLines, IsAnswered, IsToldLine, KEY_LIMIT, EngineMeaning, TouchesOnlyHanded}
use Rattle.sv_world.proofs.Prelude.{Meanings, always, AllTouchOnlyHanded, nothing_stored, WorldEvent, Rules, AtMostOne, IsTold, IsReplay, IsHeadline, AreWithin}
use Rattle.sv_world.proofs.Prelude.{HaveFitted, Cluster, steady, World, happens, run, nothing_happened, commits_in, AlwaysKnows}
use Rattle.std.proofs.Common.{◌+◌}
use Rattle.sv_world.proofs.Added.{as_many}
use Rattle.sv_world.proofs.Answered.{are_answers}
use Rattle.sv_world.proofs.Orders.{Waiting, happens_waits, first_waits, all_come}
use Rattle.sv_world.proofs.Records.{Kept, happens_kept, first_kept}
use Rattle.sv_world.proofs.Runs.{Inv, happens_keeps, at_first, actives, copies, agree, map_has, map_only}
use Rattle.sv_world.proofs.Tokens.{Spent, happens_spent, first_spent, served_once}
use Rattle.sv_world.proofs.Told.{happens_answers, answered, fewer, happens_tells, told}
use Rattle.sv_world.proofs.Wider.{all_wider, widest}

-- rules that have room for as many keys as any have
abbrev roomiest : Rules
roomiest = record { deadline = 0; keys = KEY_LIMIT + 1; forget = false }

-- what the invariant says of a world, whatever its nodes were told of one another
pub record Parts (m : Meanings) (c : Cluster) (w : World) : Type 0 where
  pub inv : Inv m c w
  pub answering : AreLines (IsAnswered m) m nothing_stored w.trace
  pub spent : Spent w
  pub telling : AreLines (IsToldLine m) m nothing_stored w.trace

first_parts : (m : Meanings) (c : Cluster) → Parts m c nothing_happened
first_parts m c = record { inv = at_first m c; answering = tt; spent = first_spent m c; telling = tt }

pub at_most_one : (m : Meanings) (c : Cluster) (w : World) → Inv m c w → AtMostOne w
at_most_one m c w inv = record { active = actives m c w inv; live = copies m c w inv }

pub is_told : (m : Meanings) (c : Cluster) (w : World) → Parts m c w → IsTold m w
is_told m c w p = record { lines = p.telling; told = told m nothing_stored w.trace p.telling }

module _ (m : Meanings) (touches : AllTouchOnlyHanded m) (c : Cluster) where
  happens_parts : (w : World) (e : WorldEvent) → Parts m c w → Parts m c (happens m c w e)
  happens_parts w e p = record {
    inv = happens_keeps m touches c w e p.inv;
    answering = happens_answers m touches c w e p.inv p.answering;
    spent = happens_spent m c w e p.spent;
    telling = happens_tells m touches c w e p.inv p.telling;
  }

  run_parts : (w : World) (es : List WorldEvent) → Parts m c w → Parts m c (run m c w es)
  run_parts w [] p = p
  run_parts w (e ∷ es) p = run_parts (happens m c w e) es (happens_parts w e p)

  pub parts : (es : List WorldEvent) → Parts m c (run m c nothing_happened es)
  parts es = run_parts nothing_happened es (first_parts m c)

  -- ---- journals

  module _ (wide : Rules) (within : AreWithin wide c) where
    run_kept : (w : World) (es : List WorldEvent) → Inv m c w → Kept wide w → Kept wide (run m c w es)
    run_kept w [] inv k = k
    run_kept w (e ∷ es) inv k = run_kept (happens m c w e) es (happens_keeps m touches c w e inv) (happens_kept m touches c wide (all_wider c wide within) w e inv k)

    pub kept : (es : List WorldEvent) → Kept wide (run m c nothing_happened es)
    kept es = run_kept nothing_happened es (at_first m c) (first_kept wide)

  -- ---- where each node that runs was told of each node whose sessions live

  run_waits : (w : World) (es : List WorldEvent) → AlwaysKnows m c w es → Inv m c w → Waiting m w → Waiting m (run m c w es)
  run_waits w [] knows inv p = p
  run_waits w (e ∷ es) knows inv p = run_waits (happens m c w e) es knows.1 (happens_keeps m touches c w e inv) (happens_waits m c w e knows.0 inv p)

  pub waiting : (es : List WorldEvent) → AlwaysKnows m c nothing_happened es → Waiting m (run m c nothing_happened es)
  waiting es knows = run_waits nothing_happened es knows (at_first m c) (first_waits m c)

  -- ---- all of it

  -- each journal has room for as many keys as any has
  pub replays : (es : List WorldEvent) → IsReplay (run m c nothing_happened es)
  replays es = (kept roomiest (λ n boot. widest roomiest (c.rules n boot) (omega arith)) es).replay

  pub headline : (es : List WorldEvent) → AlwaysKnows m c nothing_happened es → IsHeadline m (run m c nothing_happened es)
  headline es knows =
      let w = run m c nothing_happened es in
      let p = parts es in
      let waits = (waiting es knows).waits in
      record {
        one = at_most_one m c w p.inv;
        agree = agree m c w p.inv;
        container = record { lawful = p.inv.sane.lawful; stands = waits.excused; has = map_has m c w p.inv; only = map_only m c w p.inv };
        acknowledged = record {
          lines = p.answering;
          answers = are_answers m w p.answering waits.excused (λ t. omega (arith, served_once m c w p.spent t));
          own = all_come w.trace (commits_in w) waits.served;
          distinct = p.spent.once;
          answered = λ t. answered m nothing_stored t w.trace p.answering;
          served = λ t. omega (arith, answered m nothing_stored t w.trace p.answering, fewer t w.trace);
          once = served_once m c w p.spent;
        };
        told = is_told m c w p;
        replay = replays es;
      }

-- ---- the same application, rules and number of nodes throughout

pub steady_knows : (m : EngineMeaning) → TouchesOnlyHanded m → (nodes : ℕ) (rules : Rules) (es : List WorldEvent) → AlwaysKnows (always m) (steady nodes rules) nothing_happened es
steady_knows m touches nodes rules es = as_many (always m) (steady nodes rules) nodes (λ n b. refl) (λ n b. touches) es

pub same : (m : EngineMeaning) → TouchesOnlyHanded m → (nodes : ℕ) (rules : Rules) (es : List WorldEvent) → IsHeadline (always m) (run (always m) (steady nodes rules) nothing_happened es)
same m touches nodes rules es = headline (always m) (λ n b. touches) (steady nodes rules) es (steady_knows m touches nodes rules es)

pub same_fit : (m : EngineMeaning) → TouchesOnlyHanded m → (nodes : ℕ) (rules : Rules) (es : List WorldEvent) → HaveFitted rules (run (always m) (steady nodes rules) nothing_happened es)
same_fit m touches nodes rules es = (kept (always m) (λ n b. touches) (steady nodes rules) rules (λ n b. omega arith) es).fits
