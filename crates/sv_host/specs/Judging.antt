-- What is found by what another node says of itself: an older copy of a journal, a node that was told of too few, and applications that
-- don't have the same contexts.
use Rattle.std.specs.Prelude.{ℕ, ◌+◌, ◌-◌, ◌^◌, Bool, true, false, not, ◌&&◌, ◌||◌, ◌==◌, nat_lt, nat_le, min, max, if◌then◌else◌, List, zip, Option, Some, None}
use Rattle.std.specs.List.{list_any}
use Rattle.sv_record.specs.declared.greeting.Errand.TheVariants.{Opening, Serving, Answer, Look}
use Rattle.sv_record.specs.declared.greeting.Errand.{Errand}
use Rattle.sv_record.specs.declared.greeting.Greeting.{Greeting}
use Rattle.sv_host.specs.declared.fault.HostFault.TheVariants.{OlderCopy, Untold, Unannounced}
use Rattle.sv_host.specs.declared.fault.HostFault.{HostFault}
use Rattle.sv_host.specs.declared.judging.Doubt.TheVariants as doubt
use Rattle.sv_host.specs.declared.judging.Doubt.{Doubt}
use Rattle.sv_host.specs.declared.judging.Known.{Known}
use Rattle.sv_host.specs.declared.judging.Own.{Own}

abbrev pub is_trusted : Doubt → Bool
is_trusted doubt.None = true
is_trusted doubt.Contexts = false
is_trusted doubt.OlderStart = false

-- at one place there is a context here and another one there
abbrev pub clash : ℕ → ℕ → Bool
clash one other = not (one == other) && (not (one == 0) && not (other == 0))

abbrev pub differ : List ℕ → List ℕ → Bool
differ here there = list_any (λ p. clash p.0 p.1) (zip here there)

-- the next start, as far as can be counted
abbrev pub next_start : ℕ → ℕ
next_start start = min (start + 1) (2 ^ 64 - 1)

-- its latest start may ask yet, though it was heard of by what it has said since
abbrev pub may_ask : Known → ℕ → Bool
may_ask known steady = not known.has_asked && nat_lt steady (min (known.since + 30) (2 ^ 64 - 1))

-- a start that asks before it serves was heard of before, or a later one was
abbrev pub has_begun : Known → ℕ → ℕ → Bool
has_begun known start steady = nat_lt start known.start || ((start == known.start) && not (may_ask known steady))

abbrev pub is_before : Known → Errand → ℕ → ℕ → Bool
is_before known Opening start steady = has_begun known start steady
is_before known Serving start steady = nat_lt start known.start
is_before known Answer start steady = nat_lt start known.start
is_before known Look start steady = nat_lt start known.start

-- the next start of a copy that was refused
abbrev pub is_next_copy : Known → ℕ → Bool
is_next_copy known start = not (known.refused == 0) && (nat_lt known.start start && (start == next_start known.refused))

-- who says that runs over an older copy
abbrev pub is_older : Known → Greeting → ℕ → Bool
is_older known said steady = is_before known said.errand said.start steady || is_next_copy known said.start

abbrev pub heard_by : Doubt → ℕ → ℕ → ℕ
heard_by doubt.None start refused = start
heard_by doubt.Contexts start refused = start
heard_by doubt.OlderStart start refused = max start (next_start refused)

-- the latest start that was heard of, as a node is told
abbrev pub heard : Known → ℕ
heard known = heard_by known.doubt known.start known.refused

-- why packets of a node aren't taken that says this
abbrev pub doubt_of : Own → Greeting → Known → ℕ → Doubt
doubt_of own said known steady = if is_older known said steady then doubt.OlderStart else if differ own.contexts said.contexts then doubt.Contexts else doubt.None

-- a later start of this node was heard of than is running; while it isn't ready nobody can have heard of this one
abbrev pub is_behind : Errand → ℕ → ℕ → Bool
is_behind Answer start latest = nat_le start latest
is_behind Opening start latest = nat_lt start latest
is_behind Serving start latest = nat_lt start latest
is_behind Look start latest = nat_lt start latest

abbrev pub own_is_older : Own → Greeting → Bool
own_is_older own said = is_behind said.errand own.start said.heard

abbrev pub is_answer : Errand → Bool
is_answer Opening = false
is_answer Serving = false
is_answer Answer = true
is_answer Look = false

-- why the node of this number may not go on to which this is said
abbrev pub fault_of : ℕ → Own → Greeting → Option HostFault
fault_of node own said =
    if own_is_older own said then Some OlderCopy
    else if nat_lt own.nodes said.homes || nat_lt own.nodes said.all_homes then Some Untold
    else if is_answer said.errand && nat_le said.nodes node then Some Unannounced
    else None

-- what is known of a node that says this: whether its packets are taken
abbrev pub refused_by : Doubt → ℕ → ℕ → ℕ
refused_by doubt.None start refused = refused
refused_by doubt.Contexts start refused = refused
refused_by doubt.OlderStart start refused = start

abbrev pub with_doubt : Doubt → Greeting → Known → Known
with_doubt d said known = record known { doubt = d; refused = refused_by d said.start known.refused }

abbrev pub doubted : Own → Greeting → ℕ → Known → Known
doubted own said steady known = with_doubt (doubt_of own said known steady) said known

abbrev pub is_opening : Errand → Bool
is_opening Opening = true
is_opening Serving = false
is_opening Answer = false
is_opening Look = false

-- what is known of its latest start
abbrev pub begun : Greeting → ℕ → Known → Known
begun said steady known =
    if nat_lt known.start said.start then (record known { start = said.start; since = steady; has_asked = is_opening said.errand; refused = 0 })
    else (record known { has_asked = known.has_asked || (is_opening said.errand && (said.start == known.start)) })

abbrev pub started_by : Doubt → Greeting → ℕ → Known → Known
started_by doubt.None said steady known = begun said steady known
started_by doubt.Contexts said steady known = begun said steady known
started_by doubt.OlderStart said steady known = known

-- the same, unless it is an older copy
abbrev pub started : Greeting → ℕ → Known → Known
started said steady known = started_by known.doubt said steady known

-- what two clocks differ by
abbrev pub apart : ℕ → ℕ → ℕ
apart a b = if nat_lt a b then b - a else a - b

abbrev pub knew : Greeting → ℕ → ℕ → Known → Known
knew said clock steady known = record (started said steady known) { is_apart = nat_lt 5 (apart clock said.clock); homes = said.homes; at = steady }

-- the highest of a number and of the homes that it has said of late
abbrev pub with_homes : ℕ → ℕ → Known → ℕ
with_homes steady all known = if nat_lt steady (min (known.at + 30) (2 ^ 64 - 1)) then max all known.homes else all
