-- What is gathered has its clients: as one more comes, as one is left out, and one after the other.
use Rattle.sv_host.proofs.Prelude.{◌≡◌, ℕ, zero, suc, ◌<◌, ◌≤◌, Bool, true, false, List, [], ◌∷◌, ◌++◌, Option, Some, None, arith, refl, sym, ap, subst, ◌∙◌}
use Rattle.sv_host.proofs.Prelude.{IsTrue, remove, slice_get, Asker, Client, Command, Nobody, Came, Group, Way, Packets, ParkedClient, AskedFor, GathersFor}
use Rattle.sv_host.proofs.Prelude.{Has, HasAsked, HaveWays, KeepsAll, MayAsk, refused_of, Comes, HasOneMore, IsRising, IsSame, before_of, inputs_of, number_of}
use Rattle.sv_host.proofs.Prelude.{ways_of, without, Input, Moment, Request, all_given, IsAbove, RiseIn, number_in, numbers_in}
use Rattle.sv_host.proofs.GroupLemmas.{not_lower}
use Rattle.std.specs.Prelude.{IsFalse}
use Rattle.sv_host.specs.Group.{IsAskedBy, request_in, request_of}
use Rattle.sv_host.proofs.ClientLemmas.{others_kept}
use Rattle.sv_model.specs.declared.input.Input.TheVariants as input

-- ---- numbers that rise

pub not_lower_all : (low : ℕ) (is : List (Moment × Input)) → RiseIn low (all_given is) → low ≤ numbers_in low (all_given is)
not_lower_all low [] rise = omega arith
not_lower_all low (i ∷ is) rise = omega (arith, not_lower low i.1 rise.0, not_lower_all (number_in low i.1) is rise.1)

-- ---- those who asked

asked_one : (low high : ℕ) (old new : List ParkedClient) (i : Input) → IsAbove low i → number_in low i ≤ high → ((token : ℕ) → low < token → token ≤ high → Has token old → Has token new) → HasAsked old i → HasAsked new i
asked_one low high old new (input.Ask number r) above le keeps asked = keeps number above le asked
asked_one low high old new (input.Packet p) above le keeps asked = tt
asked_one low high old new input.Poke above le keeps asked = tt
asked_one low high old new input.Tick above le keeps asked = tt
asked_one low high old new (input.Move k to) above le keeps asked = tt

-- whoever came in between is kept
pub asked_between : (low high : ℕ) (old new : List ParkedClient) (is : List (Moment × Input)) → RiseIn low (all_given is) → numbers_in low (all_given is) ≤ high
    → ((token : ℕ) → low < token → token ≤ high → Has token old → Has token new) → AskedFor old is → AskedFor new is
asked_between low high old new [] rise le keeps asked = tt
asked_between low high old new (i ∷ is) rise le keeps asked = (
  asked_one low high old new i.1 rise.0 (omega (arith, le, not_lower_all (number_in low i.1) is rise.1)) keeps asked.0,
  asked_between (number_in low i.1) high old new is rise.1 le (λ token above below. keeps token (omega (arith, above, not_lower low i.1 rise.0)) below) asked.1,
)

pub asked_more : (cs : List ParkedClient) (is : List (Moment × Input)) (i : Moment × Input) → AskedFor cs is → HasAsked cs i.1 → AskedFor cs (is ++ i ∷ [])
asked_more cs [] i asked one = (one, tt)
asked_more cs (x ∷ is) i asked one = (asked.0, asked_more cs is i asked.1 one)

pub ways_more : (is : List (Moment × Input)) (ws : List Way) (i : Moment × Input) (w : Way) → HaveWays is ws → MayAsk w.asker i.1 → HaveWays (is ++ i ∷ []) (ws ++ w ∷ [])
ways_more [] [] i w have may = (may, tt)
ways_more [] (y ∷ ws) i w have may = absurd have
ways_more (x ∷ is) [] i w have may = absurd have
ways_more (x ∷ is) (y ∷ ws) i w have may = (have.0, ways_more is ws i w have.1 may)

ways_less : (is : List (Moment × Input)) (ws : List Way) (at : ℕ) → HaveWays is ws → HaveWays (remove is at) (remove ws at)
ways_less [] [] zero have = tt
ways_less [] [] (suc at) have = tt
ways_less [] (y ∷ ws) at have = absurd have
ways_less (x ∷ is) [] at have = absurd have
ways_less (x ∷ is) (y ∷ ws) zero have = have.1
ways_less (x ∷ is) (y ∷ ws) (suc at) have = (have.0, ways_less is ws at have.1)

pub asked_less : (cs : List ParkedClient) (is : List (Moment × Input)) (at : ℕ) → AskedFor cs is → AskedFor cs (remove is at)
asked_less cs [] zero asked = tt
asked_less cs [] (suc at) asked = tt
asked_less cs (x ∷ is) zero asked = asked.1
asked_less cs (x ∷ is) (suc at) asked = (asked.0, asked_less cs is at asked.1)

-- ---- what comes on a connection

-- whoever is kept for it may have asked for it
pub may_ask : (place number : ℕ) (i : Input) (asker : Asker) (sent : Packets) → IsAskedBy place number i asker sent → MayAsk asker i
may_ask place number (input.Ask own r) asker sent by = subst (λ a. MayAsk a (input.Ask own r)) (sym by.1) by.0
may_ask place number (input.Packet p) asker sent by = subst (λ a. MayAsk a (input.Packet p)) (sym by.0) tt
may_ask place number input.Poke asker sent by = absurd by
may_ask place number input.Tick asker sent by = subst (λ a. MayAsk a input.Tick) (sym by.0) tt
may_ask place number (input.Move k to) asker sent by = subst (λ a. MayAsk a (input.Move k to)) (sym by.0) tt

-- ---- what is gathered

pub gathers_on : (group mid next : Group) (a b c : List ParkedClient) → before_of mid ≡ before_of group → GathersFor group mid a b → GathersFor mid next b c → GathersFor group next a c
gathers_on group mid next a b c before x y = record {
  kept = λ token low has. y.kept token (omega (arith, low, before)) (x.kept token low has);
  asked = λ asked. y.asked (x.asked asked);
  ways = λ ways. y.ways (x.ways ways);
}

-- nothing is gathered
pub gathers_none : (group next : Group) (old new : List ParkedClient) → IsRising group → inputs_of next ≡ inputs_of group → ways_of next ≡ ways_of group
    → ((token : ℕ) → token ≤ number_of group → Has token old → Has token new) → GathersFor group next old new
gathers_none group next old new rising inputs ways keeps =
    let le = not_lower_all (before_of group) (inputs_of group) rising.rises in
    record {
      kept = λ token low has. keeps token (omega (arith, low, le, rising.number)) has;
      asked = λ asked. subst (λ (is : List (Moment × Input)). AskedFor new is) (sym inputs) (asked_between (before_of group) (number_of group) old new (inputs_of group) rising.rises rising.number (λ token _ below has. keeps token below has) asked);
      ways = λ have. subst (λ (is : List (Moment × Input)). HaveWays is (ways_of next)) (sym inputs) (subst (λ (ws : List Way). HaveWays (inputs_of group) ws) (sym ways) have);
    }

pub gathers_nothing : (group : Group) (old new : List ParkedClient) → IsRising group → KeepsAll old new → GathersFor group group old new
gathers_nothing group old new rising keeps = gathers_none group group old new rising refl refl (λ token _ has. keeps token has)

-- one more
pub gathers_one : (one : Moment × Input) (way : Way) (group next : Group) (old new : List ParkedClient) → HasOneMore one way group next → KeepsAll old new → HasAsked new one.1 → MayAsk way.asker one.1
    → IsRising group → GathersFor group next old new
gathers_one one way group next old new added keeps asked may rising =
    let none = gathers_nothing group old new rising keeps in
    record {
      kept = none.kept;
      asked = λ all. subst (λ (is : List (Moment × Input)). AskedFor new is) (sym added.inputs) (asked_more new (inputs_of group) one (none.asked all) asked);
      ways = λ have. subst (λ (is : List (Moment × Input)). HaveWays is (ways_of next)) (sym added.inputs)
          (subst (λ (ws : List Way). HaveWays (inputs_of group ++ one ∷ []) ws) (sym added.ways) (ways_more (inputs_of group) (ways_of group) one way have may));
    }

-- who has asked under a greater number is refused
pub refused_keeps : (asker : Asker) (i : Input) (number token : ℕ) (cs : List ParkedClient) → MayAsk asker i → IsAbove number i → token ≤ number → Has token cs → Has token (refused_of asker cs)
refused_keeps (Client place own) (input.Ask other r) number token cs may above le has = others_kept token own cs (λ same. omega (arith, same, may, above, le)) has
refused_keeps (Client place own) (input.Packet p) number token cs may above le has = absurd may
refused_keeps (Client place own) input.Poke number token cs may above le has = absurd may
refused_keeps (Client place own) input.Tick number token cs may above le has = absurd may
refused_keeps (Client place own) (input.Move k to) number token cs may above le has = absurd may
refused_keeps (Command place) i number token cs may above le has = has
refused_keeps Nobody i number token cs may above le has = has

pub gathers_turned_away : (i : Input) (asker : Asker) (group next : Group) (old : List ParkedClient) → IsSame group next → MayAsk asker i → IsAbove (number_of group) i → IsRising group
    → GathersFor group next old (refused_of asker old)
gathers_turned_away i asker group next old same may above rising =
    gathers_none group next old (refused_of asker old) rising same.inputs same.ways (λ token le has. refused_keeps asker i (number_of group) token old may above le has)

-- one is left out
pub gathers_less : (group next : Group) (at : ℕ) (old : List ParkedClient) → inputs_of next ≡ remove (inputs_of group) at → ways_of next ≡ remove (ways_of group) at → GathersFor group next old old
gathers_less group next at old inputs ways = record {
  kept = λ token _ has. has;
  asked = λ asked. subst (λ (is : List (Moment × Input)). AskedFor old is) (sym inputs) (asked_less old (inputs_of group) at asked);
  ways = λ have. subst (λ (is : List (Moment × Input)). HaveWays is (ways_of next)) (sym inputs)
      (subst (λ (ws : List Way). HaveWays (remove (inputs_of group) at) ws) (sym ways) (ways_less (inputs_of group) (ways_of group) at have));
}

-- a request at a place is left out, and its client is refused: the others came under other numbers
other_asked : (low : ℕ) (cs : List ParkedClient) (is : List (Moment × Input)) (number : ℕ) → number ≤ low → RiseIn low (all_given is) → AskedFor cs is → AskedFor (without number cs) is
other_asked low cs is number le rise asked =
    asked_between low (numbers_in low (all_given is)) cs (without number cs) is rise (omega arith) (λ token above _ has. others_kept token number cs (λ same. omega (arith, same, le, above)) has) asked

before_asked : (low : ℕ) (cs : List ParkedClient) (i : Input) (number : ℕ) → IsAbove low i → number_in low i < number → HasAsked cs i → HasAsked (without number cs) i
before_asked low cs i number above less asked =
    asked_one low (number_in low i) cs (without number cs) i above (omega arith) (λ token _ below has. others_kept token number cs (λ same. omega (arith, same, less, below)) has) asked

number_of_ask : (i : Input) (number : ℕ) (r : Request) (low : ℕ) → i ≡ input.Ask number r → IsAbove low i → (low < number) × (number ≡ number_in low i)
number_of_ask i number r low is above =
    let at : IsAbove low (input.Ask number r) = subst (λ (x : Input). IsAbove low x) is above in
    (at, sym (ap (λ (x : Input). number_in low x) is))

abbrev ask_of : Option (ℕ × Request) → Input
ask_of None = input.Poke
ask_of (Some asked) = input.Ask asked.0 asked.1

request_is : (i : Input) (number : ℕ) (r : Request) → request_of i ≡ Some (number, r) → i ≡ input.Ask number r
request_is (input.Ask own other) number r is = ap ask_of is
request_is (input.Packet p) number r is = absurd (let h = is in cc)
request_is input.Poke number r is = absurd (let h = is in cc)
request_is input.Tick number r is = absurd (let h = is in cc)
request_is (input.Move k to) number r is = absurd (let h = is in cc)

-- it is above all before it
there_above : (low : ℕ) (is : List (Moment × Input)) (at number : ℕ) (r : Request) → request_in (slice_get is at) ≡ Some (number, r) → RiseIn low (all_given is) → low < number
there_above low [] at number r there rise = absurd (let h = there in cc)
there_above low (i ∷ is) zero number r there rise = (number_of_ask i.1 number r low (request_is i.1 number r there) rise.0).0
there_above low (i ∷ is) (suc at) number r there rise = omega (arith, not_lower low i.1 rise.0, there_above (number_in low i.1) is at number r there rise.1)

asked_without : (low : ℕ) (cs : List ParkedClient) (is : List (Moment × Input)) (at number : ℕ) (r : Request) → request_in (slice_get is at) ≡ Some (number, r) → RiseIn low (all_given is) → AskedFor cs is
    → AskedFor (without number cs) (remove is at)
asked_without low cs [] at number r there rise asked = absurd (let h = there in cc)
asked_without low cs (i ∷ is) zero number r there rise asked =
    other_asked (number_in low i.1) cs is number (omega (arith, (number_of_ask i.1 number r low (request_is i.1 number r there) rise.0).1)) rise.1 asked.1
asked_without low cs (i ∷ is) (suc at) number r there rise asked =
    (before_asked low cs i.1 number rise.0 (there_above (number_in low i.1) is at number r there rise.1) asked.0, asked_without (number_in low i.1) cs is at number r there rise.1 asked.1)

pub gathers_refused : (group next : Group) (at number : ℕ) (r : Request) (old new : List ParkedClient) → IsRising group → request_in (slice_get (inputs_of group) at) ≡ Some (number, r)
    → inputs_of next ≡ remove (inputs_of group) at → ways_of next ≡ remove (ways_of group) at → new ≡ without number old → GathersFor group next old new
gathers_refused group next at number r old new rising there inputs ways clients =
    let above = there_above (before_of group) (inputs_of group) at number r there rising.rises in
    subst (λ (cs : List ParkedClient). GathersFor group next old cs) (sym clients) (record {
      kept = λ token le has. others_kept token number old (λ same. omega (arith, same, le, above)) has;
      asked = λ asked. subst (λ (is : List (Moment × Input)). AskedFor (without number old) is) (sym inputs) (asked_without (before_of group) old (inputs_of group) at number r there rising.rises asked);
      ways = (gathers_less group next at old inputs ways).ways;
    })

-- ---- what a function of the turn does

-- what has come is added
pub gathers_came : (place number : ℕ) (came : Came) (moment : Moment) (group next : Group) (old new : List ParkedClient) → new ≡ old
    → HasOneMore (moment, came.input) (record { asker = came.asker; packets = came.packets }) group next → HasAsked old came.input → Comes place number came → IsRising group → GathersFor group next old new
gathers_came place number came moment group next old new same added asked comes rising =
    subst (λ (cs : List ParkedClient). GathersFor group next old cs) (sym same)
    (gathers_one (moment, came.input) (record { asker = came.asker; packets = came.packets }) group next old old added (λ token has. has) asked (may_ask place number came.input came.asker came.packets comes.asked) rising)

-- there is no memory for it: whoever asked is told
pub gathers_away : (place number : ℕ) (came : Came) (group next : Group) (old mid new : List ParkedClient) → mid ≡ old → new ≡ refused_of came.asker mid → IsSame group next → Comes place number came → number_of group < number
    → IsRising group → GathersFor group next old new
gathers_away place number came group next old mid new same refused none comes above rising =
    subst (λ (cs : List ParkedClient). GathersFor group next old cs) (sym (refused ∙ ap (λ (cs : List ParkedClient). refused_of came.asker cs) same))
    (gathers_turned_away came.input came.asker group next old none (may_ask place number came.input came.asker came.packets comes.asked) (comes.above (number_of group) above) rising)

-- the clients are the same
pub gathers_same : (group : Group) (old new : List ParkedClient) → new ≡ old → IsRising group → GathersFor group group old new
gathers_same group old new same rising = gathers_nothing group old new rising (λ token has. subst (λ (cs : List ParkedClient). Has token cs) (sym same) has)

-- whoever waits was kept before
pub gathers_behind : (group next : Group) (old mid new : List ParkedClient) → IsRising group → KeepsAll old mid → GathersFor group next mid new → GathersFor group next old new
gathers_behind group next old mid new rising keeps gathers = gathers_on group group next old mid new refl (gathers_nothing group old mid rising keeps) gathers

-- something is added that nobody asked for as a client
pub gathers_nobody : (b : Bool) (one : Moment × Input) (way : Way) (group next : Group) (old new : List ParkedClient) → new ≡ old → (IsTrue b → HasOneMore one way group next) → (IsFalse b → IsSame group next)
    → HasAsked old one.1 → MayAsk way.asker one.1 → IsRising group → GathersFor group next old new
gathers_nobody true one way group next old new same added none asked may rising =
    subst (λ (cs : List ParkedClient). GathersFor group next old cs) (sym same) (gathers_one one way group next old old (added refl) (λ token has. has) asked may rising)
gathers_nobody false one way group next old new same added none asked may rising =
    gathers_none group next old new rising (none refl).inputs (none refl).ways (λ token _ has. subst (λ (cs : List ParkedClient). Has token cs) (sym same) has)

-- whoever waits is the same in between
pub gathers_through : (group mid next : Group) (a b other c : List ParkedClient) → before_of mid ≡ before_of group → other ≡ b → GathersFor group mid a b → GathersFor mid next other c → GathersFor group next a c
gathers_through group mid next a b other c before same x y =
    gathers_on group mid next a b c before x (subst (λ (cs : List ParkedClient). GathersFor mid next cs c) same y)

-- both are the same
pub gathers_is : (group next other : Group) (old new kept : List ParkedClient) → other ≡ next → kept ≡ new → GathersFor group next old new → GathersFor group other old kept
gathers_is group next other old new kept same clients x =
    subst (λ (g : Group). GathersFor group g old kept) (sym same) (subst (λ (cs : List ParkedClient). GathersFor group next old cs) (sym clients) x)
