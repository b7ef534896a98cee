-- What holds between the calls of nodes over their disks: what a node that doesn't run keeps, and that a request that is new
-- to a node comes under a token that none had.
use Rattle.sv_world.proofs.Prelude.{◌≡◌, ◌≢◌, inl, inr, ⊎_elim, ℕ, ◌<◌, ◌≤◌, ◌==◌, Bool, true, false, cond, Some, None, List, [], ◌∷◌, ◌++◌, arith, refl, sym}
use Rattle.sv_world.proofs.Prelude.{ap, ◌∙◌, subst, eq-eqb, flat_map, option_to_list, cases_eq, ne_eqb, Input, Moment, Token, Setting, always, EngineMeaning}
use Rattle.sv_world.proofs.Prelude.{In, decided, Durable, Node, left, asked_by, same_token, times, Open, Step, Unsaid, Compact, Stop, Refused, Cut, Given}
use Rattle.sv_world.proofs.Prelude.{After, quiet, kept, node_behind, Does, step_ends, runs_behind, restarted, IsNew, with_number, numbers_behind, tok, boot_of}
use Rattle.sv_world.proofs.Prelude.{Rules, setting_by, Member, steady, set_member}
use Rattle.std.proofs.Common.{◌+◌, ◌&&◌}
use Rattle.sv_journal.specs.declared.journal_fault.JournalFault.TheVariants as journal
use Rattle.sv_model.specs.declared.input.Input.TheVariants as input
use Rattle.sv_model.specs.declared.site.StepFault.TheVariants as step
use Rattle.sv_node.specs.declared.fault.OpenFault.TheVariants as opening
use Rattle.sv_node.specs.Call.{Call, Done}
use Rattle.sv_world.proofs.Arrivals.{one_if, times_more}
use Rattle.sv_world.proofs.Events.{start_boot}
use Rattle.sv_world.proofs.Thrift.{apart, decide_thrifty}

-- the tokens of the requests that came with several steps
abbrev pub asked_in : ℕ → ℕ → List Given → List Token
asked_in n boot gs = flat_map (λ g. option_to_list (asked_by (tok n boot) g.input)) gs

-- the tokens of the request that came with a call, where a world hears of it
abbrev pub asked_at : ℕ → Durable → Call → List Token
asked_at n d (Open ending) = []
asked_at n d (Step at i Done) = option_to_list (asked_by (tok n d.boot) i)
asked_at n d (Step at i (Refused fault)) = cond (step_ends fault) (option_to_list (asked_by (tok n d.boot) i)) []
asked_at n d (Step at i Cut) = option_to_list (asked_by (tok n d.boot) i)
asked_at n d (Unsaid gs) = asked_in n d.boot gs
asked_at n d (Compact ending) = []
asked_at n d Stop = []

-- a node that doesn't run keeps what is durable, and nothing else
abbrev pub IsDown : Bool → Node → Type 0
IsDown up n = up ≡ false → n ≡ kept n.durable

-- a number that none of these was makes a token that none had
abbrev pub IsFresh : List Token → ℕ → Member → List ℕ → Type 0
IsFresh asked n p numbers = p.up ≡ true → (number : ℕ) → (¬ In number numbers) → times (tok n (boot_of p) number) asked ≡ 0

-- no token is of a start to come
abbrev pub IsPastOf : List Token → ℕ → Member → Type 0
IsPastOf asked n p = (boot number : ℕ) → boot_of p < boot → times (tok n boot number) asked ≡ 0

pub record Orderly (members : ℕ → Member) (asked : List Token) (numbers : ℕ → List ℕ) : Type 0 where
  pub down : (n : ℕ) → IsDown (members n).up (members n).node
  pub fresh : (n : ℕ) → IsFresh asked n (members n) (numbers n)
  pub past : (n : ℕ) → IsPastOf asked n (members n)

-- ---- tokens

and_no_right : (a b : Bool) → b ≡ false → (a && b) ≡ false
and_no_right true b h = h
and_no_right false b h = refl

other_boot : (n boot number b k : ℕ) → boot ≢ b → same_token (tok n boot number) (tok n b k) ≡ false
other_boot n boot number b k ne = and_no_right (number == k) _ (and_no_right (n == n) _ (ne_eqb boot b ne))

other_number : (n boot number b k : ℕ) → number ≢ k → same_token (tok n boot number) (tok n b k) ≡ false
other_number n boot number b k ne = ap (λ x. x && ((n == n) && (boot == b))) (ne_eqb number k ne)

-- a token differs from the one that came
abbrev Differs : Token → ℕ → ℕ → Input → Type 0
Differs t n boot (input.Ask number r) = same_token t (tok n boot number) ≡ false
Differs t n boot (input.Packet p) = Unit {0}
Differs t n boot input.Poke = Unit {0}
Differs t n boot input.Tick = Unit {0}
Differs t n boot (input.Move k to) = Unit {0}

each_differs : (t : Token) (n boot : ℕ) → ((number : ℕ) → same_token t (tok n boot number) ≡ false) → (i : Input) → Differs t n boot i
each_differs t n boot h (input.Ask number r) = h number
each_differs t n boot h (input.Packet p) = tt
each_differs t n boot h input.Poke = tt
each_differs t n boot h input.Tick = tt
each_differs t n boot h (input.Move k to) = tt

module _ (t : Token) (n : ℕ) (d : Durable) where
  none_came : (i : Input) → Differs t n d.boot i → times t (option_to_list (asked_by (tok n d.boot) i)) ≡ 0
  none_came (input.Ask number r) h = omega (arith, ap one_if h)
  none_came (input.Packet p) h = refl
  none_came input.Poke h = refl
  none_came input.Tick h = refl
  none_came (input.Move k to) h = refl

  none_in : ((i : Input) → Differs t n d.boot i) → (gs : List Given) → times t (asked_in n d.boot gs) ≡ 0
  none_in h [] = refl
  none_in h (g ∷ gs) = omega (arith, times_more t (option_to_list (asked_by (tok n d.boot) g.input)) (asked_in n d.boot gs), none_came g.input (h g.input), none_in h gs)

  none_asked : ((i : Input) → Differs t n d.boot i) → (call : Call) → times t (asked_at n d call) ≡ 0
  none_asked h (Open ending) = refl
  none_asked h (Step at i Done) = none_came i (h i)
  none_asked h (Step at i (Refused step.Failed)) = refl
  none_asked h (Step at i (Refused step.Full)) = refl
  none_asked h (Step at i (Refused step.Memory)) = refl
  none_asked h (Step at i (Refused step.Device)) = none_came i (h i)
  none_asked h (Step at i Cut) = none_came i (h i)
  none_asked h (Unsaid gs) = none_in h gs
  none_asked h (Compact ending) = refl
  none_asked h Stop = refl

still_none : (t : Token) (us vs : List Token) → times t us ≡ 0 → times t vs ≡ 0 → times t (us ++ vs) ≡ 0
still_none t us vs f g = omega (arith, times_more t us vs, f, g)

-- ---- a call

module _ (m : EngineMeaning) (nodes : ℕ) (rules : Rules) (n : ℕ) (p : Member) (a : After) where
  abbrev set : Setting
  set = setting_by rules n nodes

  abbrev Did : Call → Type 0
  Did call = Does m set p.up p.node call a

  abbrev boot : ℕ
  boot = p.node.durable.boot

  abbrev new_boot : ℕ
  new_boot = a.node.durable.boot

  -- what is durable after it
  durable_is : (x : Node) → a ≡ quiet x → a.node.durable ≡ x.durable
  durable_is x is = ap (λ (b : After). b.node.durable) is

  boot_is : (x : Node) → a ≡ quiet x → new_boot ≡ x.durable.boot
  boot_is x is = ap (λ (d : Durable). d.boot) (durable_is x is)

  -- a step keeps the number of the start
  step_boot : (call : Call) (at : _) (i : Input) → (decided m set p.node at i).durable.boot ≡ boot
  step_boot call at i = (decide_thrifty (always m) (steady nodes rules) n p.node at i).boot

  -- so do several
  pub behind_boot : (node : Node) (gs : List Given) → (node_behind m set node gs).durable.boot ≡ node.durable.boot
  behind_boot node [] = refl
  behind_boot node (g ∷ gs) = behind_boot (left (decided m set node g.at g.input)) gs ∙ (decide_thrifty (always m) (steady nodes rules) n node g.at g.input).boot

  kept_down : (d : Durable) → a ≡ quiet (kept d) → a.node ≡ kept a.node.durable
  kept_down d l = ap (λ (b : After). b.node) l ∙ ap kept (sym (durable_is (kept d) l))

  same_down : IsDown p.up p.node → a ≡ quiet p.node → p.up ≡ false → a.node ≡ kept a.node.durable
  same_down was l off = ap (λ (b : After). b.node) l ∙ was off ∙ ap kept (sym (durable_is p.node l))

  pub stays_down : (call : Call) → Did call → IsDown p.up p.node → IsDown (runs_behind p.up call) a.node
  stays_down (Open Done) d was off = kept_down (restarted set p.node.durable) d.2
  stays_down (Open (Refused opening.Damaged)) d was off = same_down was d.2 d.0
  stays_down (Open (Refused opening.Full)) d was off = same_down was d.1 d.0
  stays_down (Open (Refused opening.Memory)) d was off = same_down was d.1 d.0
  stays_down (Open (Refused opening.Device)) d was off = ⊎_elim (kept_down p.node.durable) (λ x. kept_down (restarted set p.node.durable) x.1) d.1
  stays_down (Open Cut) d was off = ⊎_elim (kept_down p.node.durable) (λ x. kept_down (restarted set p.node.durable) x.1) d.1
  stays_down (Step at i Done) d was off = absurd (let clash : true ≡ false = sym d.0 ∙ off in cc)
  stays_down (Step at i (Refused step.Failed)) d was off = same_down was d.1 off
  stays_down (Step at i (Refused step.Full)) d was off = same_down was d off
  stays_down (Step at i (Refused step.Memory)) d was off = same_down was d off
  stays_down (Step at i (Refused step.Device)) d was off = ⊎_elim (kept_down p.node.durable) (kept_down (decided m set p.node at i).durable) d.1
  stays_down (Step at i Cut) d was off = ⊎_elim (kept_down p.node.durable) (kept_down (decided m set p.node at i).durable) d.1
  stays_down (Unsaid gs) d was off = kept_down (node_behind m set p.node gs).durable d.1
  stays_down (Compact Done) d was off = same_down was d off
  stays_down (Compact (Refused journal.Damaged)) d was off = absurd d
  stays_down (Compact (Refused journal.Failed)) d was off = same_down was d off
  stays_down (Compact (Refused journal.Full)) d was off = same_down was d off
  stays_down (Compact (Refused journal.Memory)) d was off = same_down was d off
  stays_down (Compact (Refused journal.Device)) d was off = kept_down p.node.durable d
  stays_down (Compact Cut) d was off = kept_down p.node.durable d
  stays_down Stop d was off = kept_down p.node.durable d

  -- starts are numbered upwards
  same_boot : a ≡ quiet p.node → boot ≤ new_boot
  same_boot l = omega (arith, boot_is p.node l)

  kept_boot : a ≡ quiet (kept p.node.durable) → boot ≤ new_boot
  kept_boot l = omega (arith, boot_is (kept p.node.durable) l)

  next_boot : a ≡ quiet (kept (restarted set p.node.durable)) → boot ≤ new_boot
  next_boot l = let more : new_boot ≡ boot + 1 = boot_is (kept (restarted set p.node.durable)) l ∙ start_boot set p.node.durable in omega (arith, more)

  decided_boot : (at : _) (i : Input) → a ≡ quiet (kept (decided m set p.node at i).durable) → boot ≤ new_boot
  decided_boot at i l = omega (arith, boot_is (kept (decided m set p.node at i).durable) l, step_boot Stop at i)

  rises : (call : Call) → Did call → boot ≤ new_boot
  rises (Open Done) d = next_boot d.2
  rises (Open (Refused opening.Damaged)) d = same_boot d.2
  rises (Open (Refused opening.Full)) d = same_boot d.1
  rises (Open (Refused opening.Memory)) d = same_boot d.1
  rises (Open (Refused opening.Device)) d = ⊎_elim kept_boot (λ x. next_boot x.1) d.1
  rises (Open Cut) d = ⊎_elim kept_boot (λ x. next_boot x.1) d.1
  rises (Step at i Done) d = omega (arith, ap (λ (b : After). b.node.durable.boot) d.1, step_boot Stop at i)
  rises (Step at i (Refused step.Failed)) d = same_boot d.1
  rises (Step at i (Refused step.Full)) d = same_boot d
  rises (Step at i (Refused step.Memory)) d = same_boot d
  rises (Step at i (Refused step.Device)) d = ⊎_elim kept_boot (decided_boot at i) d.1
  rises (Step at i Cut) d = ⊎_elim kept_boot (decided_boot at i) d.1
  rises (Unsaid gs) d = omega (arith, boot_is (kept (node_behind m set p.node gs).durable) d.1, behind_boot p.node gs)
  rises (Compact Done) d = same_boot d
  rises (Compact (Refused journal.Damaged)) d = absurd d
  rises (Compact (Refused journal.Failed)) d = same_boot d
  rises (Compact (Refused journal.Full)) d = same_boot d
  rises (Compact (Refused journal.Memory)) d = same_boot d
  rises (Compact (Refused journal.Device)) d = kept_boot d
  rises (Compact Cut) d = kept_boot d
  rises Stop d = kept_boot d

  module _ (asked : List Token) (numbers : List ℕ) where
    abbrev member : Call → Member
    member call = record { up = runs_behind p.up call; node = a.node }

    pub stays_past : (call : Call) → Did call → IsPastOf asked n p → IsPastOf (asked ++ asked_at n p.node.durable call) n (member call)
    stays_past call d past later number less =
        let le = rises call d in
        still_none (tok n later number) asked (asked_at n p.node.durable call) (past later number (omega (arith, le, less)))
        (none_asked (tok n later number) n p.node.durable (each_differs (tok n later number) n boot (λ k. other_boot n later number boot k (λ e. absurd (omega (arith, e, le, less))))) call)

    -- the node runs on, and nothing came
    runs_on : a ≡ quiet p.node → IsFresh asked n p numbers → p.up ≡ true → (number : ℕ) → (¬ In number numbers) → times (tok n new_boot number) (asked ++ []) ≡ 0
    runs_on l fresh up number new =
        still_none (tok n new_boot number) asked [] (subst (λ b. times (tok n b number) asked ≡ 0) (sym (boot_is p.node l)) (fresh up number new)) refl

    -- of the one that came, and of those before it
    not_that : (i : Input) (number : ℕ) → (¬ In number (with_number i numbers)) → Differs (tok n new_boot number) n boot i
    not_that (input.Ask k r) number new = other_number n new_boot number boot k (λ e. new (inl (sym e)))
    not_that (input.Packet q) number new = tt
    not_that input.Poke number new = tt
    not_that input.Tick number new = tt
    not_that (input.Move k to) number new = tt

    not_before : (i : Input) (number : ℕ) → (¬ In number (with_number i numbers)) → ¬ In number numbers
    not_before (input.Ask k r) number new = λ there. new (inr there)
    not_before (input.Packet q) number new = new
    not_before input.Poke number new = new
    not_before input.Tick number new = new
    not_before (input.Move k to) number new = new

    abbrev Stays : Call → Type 0
    Stays call = IsFresh (asked ++ asked_at n p.node.durable call) n (member call) (numbers_behind call numbers)

    -- after a whole step
    pub step_fresh : (at : Moment) (i : Input) → Did (Step at i Done) → IsFresh asked n p numbers → (number : ℕ) → (¬ In number (with_number i numbers)) → times (tok n new_boot number) (asked ++ option_to_list (asked_by (tok n boot) i)) ≡ 0
    step_fresh at i d fresh number new =
        let same : new_boot ≡ boot = ap (λ (b : After). b.node.durable.boot) d.1 ∙ step_boot Stop at i in
        still_none (tok n new_boot number) asked (option_to_list (asked_by (tok n boot) i))
        (subst (λ b. times (tok n b number) asked ≡ 0) (sym same) (fresh d.0 number (not_before i number new)))
        (none_came (tok n new_boot number) n p.node.durable i (not_that i number new))

    pub stays_fresh : (call : Call) → Did call → IsFresh asked n p numbers → IsPastOf asked n p → Stays call
    stays_fresh (Open Done) d fresh past up number new =
        let more : new_boot ≡ boot + 1 = boot_is (kept (restarted set p.node.durable)) d.2 ∙ start_boot set p.node.durable in
        still_none (tok n new_boot number) asked [] (past new_boot number (omega (arith, more))) refl
    stays_fresh (Open (Refused fault)) d fresh past up number new = absurd (cc)
    stays_fresh (Open Cut) d fresh past up number new = absurd (cc)
    stays_fresh (Step at i Done) d fresh past up number new = step_fresh at i d fresh number new
    stays_fresh (Step at i (Refused step.Failed)) d fresh past up number new = runs_on d.1 fresh up number new
    stays_fresh (Step at i (Refused step.Full)) d fresh past up number new = runs_on d fresh up number new
    stays_fresh (Step at i (Refused step.Memory)) d fresh past up number new = runs_on d fresh up number new
    stays_fresh (Step at i (Refused step.Device)) d fresh past up number new = absurd (cc)
    stays_fresh (Step at i Cut) d fresh past up number new = absurd (cc)
    stays_fresh (Unsaid gs) d fresh past up number new = absurd (cc)
    stays_fresh (Compact Done) d fresh past up number new = runs_on d fresh up number new
    stays_fresh (Compact (Refused journal.Damaged)) d fresh past up number new = absurd d
    stays_fresh (Compact (Refused journal.Failed)) d fresh past up number new = runs_on d fresh up number new
    stays_fresh (Compact (Refused journal.Full)) d fresh past up number new = runs_on d fresh up number new
    stays_fresh (Compact (Refused journal.Memory)) d fresh past up number new = runs_on d fresh up number new
    stays_fresh (Compact (Refused journal.Device)) d fresh past up number new = absurd (cc)
    stays_fresh (Compact Cut) d fresh past up number new = absurd (cc)
    stays_fresh Stop d fresh past up number new = absurd (cc)

-- ---- at all nodes

module _ (m : EngineMeaning) (nodes : ℕ) (rules : Rules) (members : ℕ → Member) (asked : List Token) (numbers : ℕ → List ℕ) (n : ℕ) (call : Call) (a : After) where
  abbrev here : Member
  here = members n

  abbrev behind : Member
  behind = record { up = runs_behind here.up call; node = a.node }

  abbrev more : List Token
  more = asked ++ asked_at n here.node.durable call

  -- a fact of the node after the call, and of each other node as it was, is one of all nodes
  at_all : (P : ℕ → Member → List ℕ → Type 0) → P n behind (numbers_behind call (numbers n)) → ((x : ℕ) → x ≢ n → P x (members x) (numbers x))
      → (x : ℕ) → P x (set_member members n behind x) (cond (x == n) (numbers_behind call (numbers x)) (numbers x))
  at_all P mine others x = ⊎_elim
      (λ (e : x ≡ n). subst (λ z. P z (set_member members n behind z) (cond (z == n) (numbers_behind call (numbers z)) (numbers z))) (sym e)
      (subst (λ b. P n (cond b behind (members n)) (cond b (numbers_behind call (numbers n)) (numbers n))) (sym (eq-eqb n n refl)) mine))
      (λ (e : x ≢ n). subst (λ b. P x (cond b behind (members x)) (cond b (numbers_behind call (numbers x)) (numbers x))) (sym (ne_eqb x n e)) (others x e))
      (cases_eq x n)

  none_here : (x boot number : ℕ) → x ≢ n → times (tok x boot number) (asked_at n here.node.durable call) ≡ 0
  none_here x boot number e = none_asked (tok x boot number) n here.node.durable (each_differs (tok x boot number) n here.node.durable.boot (λ k. apart (tok x boot number) n here.node.durable.boot k e)) call

  pub stays_orderly : Does m (setting_by rules n nodes) here.up here.node call a → Orderly members asked numbers
      → Orderly (set_member members n behind) more (λ x. cond (x == n) (numbers_behind call (numbers x)) (numbers x))
  stays_orderly d o = record {
    down = at_all (λ x p used. IsDown p.up p.node) (stays_down m nodes rules n here a call d (o.down n)) (λ x e. o.down x);
    fresh = at_all (λ x p used. IsFresh more x p used) (stays_fresh m nodes rules n here a asked (numbers n) call d (o.fresh n) (o.past n))
        (λ x e up number new. still_none (tok x (boot_of (members x)) number) asked (asked_at n here.node.durable call) (o.fresh x up number new) (none_here x (boot_of (members x)) number e));
    past = at_all (λ x p used. IsPastOf more x p) (stays_past m nodes rules n here a asked (numbers n) call d (o.past n))
        (λ x e boot number less. still_none (tok x boot number) asked (asked_at n here.node.durable call) (o.past x boot number less) (none_here x boot number e));
  }

-- ---- a request that may come has a token of its own

pub comes_new : (asked : List Token) (n : ℕ) (p : Member) (numbers : List ℕ) → IsFresh asked n p numbers → p.up ≡ true → (i : Input) → IsNew numbers i
    → (t : Token) → asked_by (tok n (boot_of p)) i ≡ Some t → times t asked ≡ 0
comes_new asked n p numbers fresh up (input.Ask number r) new t is = subst (λ (u : Token). times u asked ≡ 0) (let same : Some (tok n (boot_of p) number) ≡ Some t = is in cc) (fresh up number new)
comes_new asked n p numbers fresh up (input.Packet q) new t is = absurd (let no : None ≡ Some t = is in cc)
comes_new asked n p numbers fresh up input.Poke new t is = absurd (let no : None ≡ Some t = is in cc)
comes_new asked n p numbers fresh up input.Tick new t is = absurd (let no : None ≡ Some t = is in cc)
comes_new asked n p numbers fresh up (input.Move k to) new t is = absurd (let no : None ≡ Some t = is in cc)
