-- Every list of events serves or refuses each token once at most.
use Rattle.sv_world.proofs.Prelude.{◌≡◌, ◌≢◌, ℕ, ◌≤◌, Bool, true, false, cond, Option, Some, None, List, [], ◌∷◌, ◌++◌, arith, refl, ap, ◌∙◌, option_to_list}
use Rattle.sv_world.proofs.Prelude.{filter_map, eqb-true, flat_map-append, Token, Input, Incoming, Move, Packet, Record, Commit, Meanings, left, Item}
use Rattle.sv_world.proofs.Prelude.{commits_of, asked_of, refused_of, served_of, served_by, asked_by, refusal_in, same_token, times, is_of, with_last}
use Rattle.sv_world.proofs.Prelude.{WorldEvent, Line, Call, Cluster, Member, World, set_member, durable_at, stopped, nothing_happened, items, commits_in, whole}
use Rattle.sv_world.proofs.Prelude.{torn, silent, becomes, commit_with, is_unused, decision, happens, item_at, token_of_call, record_of_start, setting_of}
use Rattle.sv_world.proofs.Prelude.{boot_of, waiting, Durable, token_of}
use Rattle.std.proofs.Common.{◌+◌}
use Rattle.sv_model.specs.declared.input.Input.TheVariants.{Ask, Poke, Tick}
use Rattle.sv_world.proofs.Arrivals.{one_if, token_same, times_more, times_one, asked_snoc, items_snoc}
use Rattle.sv_world.proofs.Waiting.{by_node}
use Rattle.sv_world.proofs.Thrift.{apart, waiting_none, Thrifty, decide_thrifty}
use Rattle.sv_world.proofs.Events.{behind}
use Rattle.sv_world.proofs.Runs.{commits_snoc}

pub served_snoc : (t : Token) (cs : List Commit) (o : Option Commit) → times t (served_of (with_last cs o)) ≡ times t (served_of cs) + times t (served_of (option_to_list o))
served_snoc t cs None = omega arith
served_snoc t cs (Some c) = omega (arith, ap (times t) (flat_map-append served_by cs (c ∷ [])), times_more t (served_of cs) (served_of (c ∷ [])))

pub refused_snoc : (t : Token) (is : List Item) (i : Item) → times t (refused_of (is ++ i ∷ [])) ≡ times t (refused_of is) + times t i.refused
refused_snoc t is i = omega (arith, ap (times t) (flat_map-append (λ (x : Item). x.refused) is (i ∷ [])), times_more t (refused_of is) (i.refused ++ []), times_more t i.refused [])

-- what was served and refused, and what waits, is of what was asked
pub record Spent (w : World) : Type 0 where
  pub count : (t : Token) → times t (served_of (commits_in w)) + times t (refused_of (items w.trace)) + waiting t t.node (boot_of (w.members t.node)) (w.members t.node).node.parked ≤ times t (asked_of (items w.trace))
  pub once : (t : Token) → times t (asked_of (items w.trace)) ≤ 1

-- a commit that is kept with its record alone serves no more
fewer_with : (t : Token) (o : Option Record) (c : Option Commit) → times t (served_of (option_to_list (commit_with o c))) ≤ times t (served_of (option_to_list c))
fewer_with t None c = omega arith
fewer_with t (Some r) c = omega arith

-- a token that is new
once_more : (t : Token) (asked : List Token) (o : Option Token) → is_unused asked o ≡ true → times t asked ≤ 1 → times t asked + one_if (is_of t o) ≤ 1
once_more t asked None unused le = omega (arith, le)
once_more t asked (Some u) unused le = split (same_token t u) refl
  where
    split : (b : Bool) → same_token t u ≡ b → times t asked + cond b 1 0 ≤ 1
    split true is = omega (arith, eqb-true _ _ unused, ap (λ (v : Token). times v asked) (token_same t u is))
    split false is = omega (arith, le)

-- a step, whole or torn, counts what it serves and refuses and what it leaves
grows : (w : World) (n : ℕ) (p : Member) (l : Line) → is_unused (asked_of (items w.trace)) l.asked ≡ true
    → ((t : Token) → t.node ≡ n → times t (served_of (option_to_list l.commit)) + times t (item_at l).refused + waiting t n (boot_of p) p.node.parked ≤ waiting t n (boot_of (w.members n)) (w.members n).node.parked + one_if (is_of t l.asked))
    → ((t : Token) → t.node ≢ n → times t (served_of (option_to_list l.commit)) + times t (item_at l).refused ≤ 0)
    → (packets : List Packet) → Spent w → Spent (record { members = set_member w.members n p; packets = packets; trace = w.trace ++ l ∷ [] })
grows w n p l unused here there packets j =
    let served : (t : Token) → times t (served_of (commits_of (items (w.trace ++ l ∷ [])))) ≡ times t (served_of (commits_in w)) + times t (served_of (option_to_list l.commit)) = λ t. ap (λ cs. times t (served_of cs)) (commits_snoc w.trace l) ∙ served_snoc t (commits_in w) l.commit in
    let refused : (t : Token) → times t (refused_of (items (w.trace ++ l ∷ []))) ≡ times t (refused_of (items w.trace)) + times t (item_at l).refused = λ t. ap (λ is. times t (refused_of is)) (items_snoc w.trace l) ∙ refused_snoc t (items w.trace) (item_at l) in
    let asked : (t : Token) → times t (asked_of (items (w.trace ++ l ∷ []))) ≡ times t (asked_of (items w.trace)) + one_if (is_of t l.asked) = λ t. ap (λ is. times t (asked_of is)) (items_snoc w.trace l) ∙ asked_snoc t (items w.trace) (item_at l) in
    record {
      count = λ t. by_node (λ y z. t.node ≡ y → times t (served_of (commits_of (items (w.trace ++ l ∷ [])))) + times t (refused_of (items (w.trace ++ l ∷ []))) + waiting t y (boot_of z) z.node.parked ≤ times t (asked_of (items (w.trace ++ l ∷ [])))) w.members n p t.node
          (λ e _. omega (arith, served t, refused t, asked t, here t e, j.count t, ap (λ y. waiting t y (boot_of p) p.node.parked) e, ap (λ y. waiting t y (boot_of (w.members y)) (w.members y).node.parked) e))
          (λ e _. omega (arith, served t, refused t, asked t, there t e, j.count t)) refl;
      once = λ t. omega (arith, asked t, once_more t (asked_of (items w.trace)) l.asked unused (j.once t));
    }

module _ (m : Meanings) (c : Cluster) where
  -- the token of an input is of its node
  pub elsewhere : (d : Durable) (n : ℕ) (i : Input) (t : Token) → t.node ≢ n → is_of t (asked_by (token_of (setting_of c n d.boot) d) i) ≡ false
  elsewhere d n (Ask number r) t ne = apart t n d.boot number ne
  elsewhere d n (Incoming p) t ne = refl
  elsewhere d n Poke t ne = refl
  elsewhere d n Tick t ne = refl
  elsewhere d n (Move k to) t ne = refl

  pub thrifty_at : (w : World) (call : Call) → Thrifty c call.node (w.members call.node).node (option_to_list (token_of_call c w call)) (decision m c w call)
  thrifty_at w call = decide_thrifty m c call.node (w.members call.node).node call.moment call.input

  outside : (w : World) (call : Call) (t : Token) → t.node ≢ call.node
      → times t (served_of (option_to_list (decision m c w call).commit)) + times t (filter_map (refusal_in (token_of (setting_of c call.node (durable_at w call.node).boot) (durable_at w call.node))) (decision m c w call).outputs) ≤ 0
  outside w call t ne =
      let h = thrifty_at w call in
      omega (arith, h.count t, waiting_none t call.node (durable_at w call.node).boot (w.members call.node).node.parked ne, times_one t (token_of_call c w call), ap one_if (elsewhere (durable_at w call.node) call.node call.input t ne))

  whole_spent : (w : World) (e : WorldEvent) (call : Call) → is_unused (asked_of (items w.trace)) (token_of_call c w call) ≡ true → Spent w → Spent (whole c w e call (decision m c w call))
  whole_spent w e call unused j =
      let d = decision m c w call in
      let n = call.node in
      let h = thrifty_at w call in
      grows w n (record { up = true; node = left d }) _ unused
      (λ t here. omega (arith, h.count t, ap (λ b. waiting t n b d.parked) h.boot, times_one t (token_of_call c w call)))
      (λ t ne. outside w call t ne) _ j

  torn_spent : (w : World) (e : WorldEvent) (call : Call) → is_unused (asked_of (items w.trace)) (token_of_call c w call) ≡ true → Spent w → Spent (torn c w e call (decision m c w call))
  torn_spent w e call unused j =
      let d = decision m c w call in
      let h = thrifty_at w call in
      grows w call.node (stopped d.durable) _ unused
      (λ t here. omega (arith, h.count t, times_one t (token_of_call c w call)))
      (λ t ne. omega (arith, outside w call t ne)) _ j

  silent_spent : (w : World) (e : WorldEvent) (call : Call) → is_unused (asked_of (items w.trace)) (token_of_call c w call) ≡ true → Spent w → Spent (silent c w e call (decision m c w call))
  silent_spent w e call unused j =
      let d = decision m c w call in
      let n = call.node in
      let h = thrifty_at w call in
      grows w n (record { up = true; node = left d }) _ unused
      (λ t here. omega (arith, h.count t, fewer_with t d.entry d.commit, ap (λ b. waiting t n b d.parked) h.boot, times_one t (token_of_call c w call)))
      (λ t ne. omega (arith, outside w call t ne, fewer_with t d.entry d.commit)) _ j

  becomes_spent : (w : World) (e : WorldEvent) (n : ℕ) (p : Member) (entry : Option Record) (asked : Option Token) → p.node.parked ≡ [] → is_unused (asked_of (items w.trace)) asked ≡ true → Spent w → Spent (becomes w e n p entry asked)
  becomes_spent w e n p entry asked none unused j = grows w n p _ unused (λ t here. omega (arith, ap (waiting t n (boot_of p)) none)) (λ t ne. omega arith) _ j

  pub happens_spent : (w : World) (e : WorldEvent) → Spent w → Spent (happens m c w e)
  happens_spent w e j = behind m c w Spent e (record {
    still = j;
    whole_by = λ call is r. whole_spent w e call r.unused j;
    torn_by = λ call is r. torn_spent w e call r.unused j;
    silent_by = λ call is r. silent_spent w e call r.unused j;
    halt_by = λ n asked unused. becomes_spent w e n (stopped (durable_at w n)) None asked refl unused j;
    boots_by = λ n p may none same. becomes_spent w e n p (Some (record_of_start c w n)) None none refl j;
  })

  pub first_spent : Spent nothing_happened
  first_spent = record { count = λ t. omega arith; once = λ t. omega arith }

  pub served_once : (w : World) → Spent w → (t : Token) → times t (served_of (commits_in w)) + times t (refused_of (items w.trace)) ≤ 1
  served_once w j t = omega (arith, j.count t, j.once t)
