-- What each process does by itself, and a network that makes no packet up, are calls of nodes over their disks.
use Rattle.sv_world.proofs.Prelude.{◌≡◌, ⊎_elim, ℕ, ◌<◌, ◌≤◌, ◌==◌, Bool, true, false, cond, List, [], ◌∷◌, refl, subst, eq-eqb, arith, AllByRecursion}
use Rattle.sv_world.proofs.Prelude.{eqb-true, cond-true, Input, Setting, Packet, Meanings, EngineMeaning, In, Open, Step, Unsaid, Compact, Stop, Given, Refused}
use Rattle.sv_world.proofs.Prelude.{Cut, runs_behind, Turn, Stand, IsAbove, number_in, RiseIn, numbers_in, RisesAt, lowest_behind, Rise, NodeCall, Seen}
use Rattle.sv_world.proofs.Prelude.{start_at, IsNew, AllMayCome, MayCome, IsCall, AreCalls, with_number, numbers_behind, all_numbers, nothing_called, turn_of}
use Rattle.sv_world.proofs.Prelude.{turns_at, BringAll, BringsSent, BringSent, AreOfProcesses, AreTurnsBy, Cluster, Member, setting_of}
use Rattle.sv_model.specs.declared.input.Input.TheVariants as input
use Rattle.sv_node.specs.Call.{Call, Done}
use Rattle.sv_world.specs.Disks.{behind}

-- ---- numbers

-- none of these is greater
abbrev UpTo : ℕ → List ℕ → Type 0
UpTo low numbers = (x : ℕ) → In x numbers → x ≤ low

no_number : UpTo 0 []
no_number x i = absurd i

is_new : (low : ℕ) (numbers : List ℕ) (i : Input) → UpTo low numbers → IsAbove low i → IsNew numbers i
is_new low numbers (input.Ask number r) upto above = λ there. let le = upto number there in omega (arith, le, above)
is_new low numbers (input.Packet p) upto above = tt
is_new low numbers input.Poke upto above = tt
is_new low numbers input.Tick upto above = tt
is_new low numbers (input.Move k to) upto above = tt

upto_input : (low : ℕ) (numbers : List ℕ) (i : Input) → UpTo low numbers → IsAbove low i → UpTo (number_in low i) numbers
upto_input low numbers (input.Ask number r) upto above = λ x there. let le = upto x there in omega (arith, le, above)
upto_input low numbers (input.Packet p) upto above = upto
upto_input low numbers input.Poke upto above = upto
upto_input low numbers input.Tick upto above = upto
upto_input low numbers (input.Move k to) upto above = upto

upto_with : (low : ℕ) (numbers : List ℕ) (i : Input) → UpTo low numbers → IsAbove low i → UpTo (number_in low i) (with_number i numbers)
upto_with low numbers (input.Ask number r) upto above = λ x there. ⊎_elim
    (λ (is : number ≡ x). omega (arith, is))
    (λ (more : In x numbers). let le = upto x more in omega (arith, le, above))
    there
upto_with low numbers (input.Packet p) upto above = upto
upto_with low numbers input.Poke upto above = upto
upto_with low numbers input.Tick upto above = upto
upto_with low numbers (input.Move k to) upto above = upto

upto_all : (low : ℕ) (numbers : List ℕ) (gs : List Given) → UpTo low numbers → RiseIn low gs → UpTo (numbers_in low gs) numbers
upto_all low numbers [] upto rises = upto
upto_all low numbers (g ∷ gs) upto rises = upto_all (number_in low g.input) numbers gs (upto_input low numbers g.input upto rises.0) rises.1

upto_behind : (low : ℕ) (numbers : List ℕ) (c : Call) → UpTo low numbers → RisesAt low c → UpTo (lowest_behind low c) (numbers_behind c numbers)
upto_behind low numbers (Open Done) upto rises = no_number
upto_behind low numbers (Open (Refused fault)) upto rises = upto
upto_behind low numbers (Open Cut) upto rises = upto
upto_behind low numbers (Step at i Done) upto rises = upto_with low numbers i upto rises
upto_behind low numbers (Step at i (Refused fault)) upto rises = upto_input low numbers i upto rises
upto_behind low numbers (Step at i Cut) upto rises = upto_input low numbers i upto rises
upto_behind low numbers (Unsaid gs) upto rises = upto_all low numbers gs upto rises
upto_behind low numbers (Compact ending) upto rises = upto
upto_behind low numbers Stop upto rises = upto

all_come : (packets : List Packet) (low : ℕ) (numbers : List ℕ) (gs : List Given) → UpTo low numbers → RiseIn low gs → BringAll packets gs → AllMayCome packets numbers gs
all_come packets low numbers [] upto rises sent = tt
all_come packets low numbers (g ∷ gs) upto rises sent =
    ((sent.0, is_new low numbers g.input upto rises.0), all_come packets (number_in low g.input) (with_number g.input numbers) gs (upto_with low numbers g.input upto rises.0) rises.1 sent.1)

may_come : (packets : List Packet) (low : ℕ) (numbers : List ℕ) (c : Call) → UpTo low numbers → RisesAt low c → BringsSent packets c → MayCome packets numbers c
may_come packets low numbers (Open ending) upto rises sent = tt
may_come packets low numbers (Step at i ending) upto rises sent = (sent, is_new low numbers i upto rises)
may_come packets low numbers (Unsaid gs) upto rises sent = all_come packets low numbers gs upto rises sent
may_come packets low numbers (Compact ending) upto rises sent = tt
may_come packets low numbers Stop upto rises sent = tt

-- ---- one node, where the call is its own or another's

abbrev stand_in : Member → Stand
stand_in p = record { up = p.up; node = p.node }

abbrev member_behind : Member → Turn → Member
member_behind p t = record { up = runs_behind p.up t.call; node = t.after.node }

turns_on : (b : Bool) (m : ℕ → EngineMeaning) (set : ℕ → Setting) (p q : Member) (t : Turn) (ts : List Turn) → (b ≡ true → p ≡ q)
    → AreTurnsBy m set (stand_in p) (cond b (t ∷ ts) ts) → AreTurnsBy m set (stand_in (cond b (member_behind q t) p)) ts
turns_on true m set p q t ts same are = subst (λ (x : Member). AreTurnsBy m set (stand_in (member_behind x t)) ts) (same refl) are.1
turns_on false m set p q t ts same are = are

rise_on : (b : Bool) (low high : ℕ) (t : Turn) (ts : List Turn) → Rise low high (cond b (t ∷ ts) ts) → Rise (cond b (lowest_behind low t.call) low) high ts
rise_on true low high t ts rise = rise.1
rise_on false low high t ts rise = rise

upto_on : (b : Bool) (low high : ℕ) (numbers : List ℕ) (t : Turn) (ts : List Turn) → UpTo low numbers → Rise low high (cond b (t ∷ ts) ts)
    → UpTo (cond b (lowest_behind low t.call) low) (cond b (numbers_behind t.call numbers) numbers)
upto_on true low high numbers t ts upto rise = upto_behind low numbers t.call upto rise.0
upto_on false low high numbers t ts upto rise = upto

-- ---- all of them

module _ (m : Meanings) (c : Cluster) where
  -- what is known of the calls that are left
  record AreLeft (s : Seen) (numbers : ℕ → List ℕ) (low : ℕ → ℕ) (calls : List NodeCall) : Type 0 where
    inside : AllByRecursion (λ (l : NodeCall). (boot : ℕ) → l.node < c.nodes l.node boot) calls
    turns : (n : ℕ) → AreTurnsBy (m n) (setting_of c n) (stand_in (s.members n)) (turns_at n calls)
    rise : (n : ℕ) → (high : ℕ) × Rise (low n) high (turns_at n calls)
    upto : (n : ℕ) → UpTo (low n) (numbers n)
    sent : BringSent s.packets calls

  module _ (s : Seen) (numbers : ℕ → List ℕ) (low : ℕ → ℕ) (l : NodeCall) (ls : List NodeCall) (left : AreLeft s numbers low (l ∷ ls)) where
    abbrev low_behind : ℕ → ℕ
    low_behind n = cond (n == l.node) (lowest_behind (low n) l.call) (low n)

    own : turns_at l.node (l ∷ ls) ≡ turn_of l ∷ turns_at l.node ls
    own = cond-true (l.node == l.node) (turn_of l ∷ turns_at l.node ls) (turns_at l.node ls) (eq-eqb l.node l.node refl)

    is_call : IsCall m c s numbers l
    is_call =
        let turns : AreTurnsBy (m l.node) (setting_of c l.node) (stand_in (s.members l.node)) (turn_of l ∷ turns_at l.node ls) =
        subst (λ (ts : List Turn). AreTurnsBy (m l.node) (setting_of c l.node) (stand_in (s.members l.node)) ts) own (left.turns l.node) in
        let r = left.rise l.node in
        let rise : Rise (low l.node) r.0 (turn_of l ∷ turns_at l.node ls) = subst (λ (ts : List Turn). Rise (low l.node) r.0 ts) own r.1 in
        record {
          inside = left.inside.0 (start_at s l);
          comes = may_come s.packets (low l.node) (numbers l.node) l.call (left.upto l.node) rise.0 left.sent.0;
          does = turns.0;
        }

    left_behind : AreLeft (behind s l) (all_numbers numbers l) low_behind ls
    left_behind = record {
      inside = left.inside.1;
      turns = λ n.
          turns_on (n == l.node) (m n) (setting_of c n) (s.members n) (s.members l.node) (turn_of l) (turns_at n ls) (λ is i. s.members (eqb-true n l.node is i)) (left.turns n);
      rise = λ n. let r = left.rise n in (r.0, rise_on (n == l.node) (low n) r.0 (turn_of l) (turns_at n ls) r.1);
      upto = λ n. let r = left.rise n in upto_on (n == l.node) (low n) r.0 (numbers n) (turn_of l) (turns_at n ls) (left.upto n) r.1;
      sent = left.sent.1;
    }

  are_calls : (s : Seen) (numbers : ℕ → List ℕ) (low : ℕ → ℕ) (calls : List NodeCall) → AreLeft s numbers low calls → AreCalls m c s numbers calls
  are_calls s numbers low [] left = tt
  are_calls s numbers low (l ∷ ls) left = (is_call s numbers low l ls left, are_calls (behind s l) (all_numbers numbers l) (low_behind s numbers low l ls left) ls (left_behind s numbers low l ls left))

  pub of_processes : (calls : List NodeCall) → AreOfProcesses m c calls → AreCalls m c nothing_called (λ _. []) calls
  of_processes calls are = are_calls nothing_called (λ _. []) (λ _. 0) calls (record {
    inside = are.inside;
    turns = are.turns;
    rise = are.rise;
    upto = λ n. no_number;
    sent = are.sent;
  })
