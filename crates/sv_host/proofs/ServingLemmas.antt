-- Calls that serve, one after the other.
use Rattle.sv_host.proofs.Prelude.{◌≡◌, refl, ℕ, List, Result, Ok, Err, sym, subst, arith, OnOk, Group, GathersFor, HaveClients, before_of, HasServed}
use Rattle.sv_host.proofs.Prelude.{HasGathered, ParkedClient, GoesOn, HasGone, RunsWithoutLoss, Node, goes_nowhere, gone_join, gone_on, runs_join, runs_nowhere}
use Rattle.std.specs.Prelude.{IsErr}
use Rattle.sv_host.specs.Serving.{IsServing}
use Rattle.sv_host.proofs.HavingLemmas.{have_on}
use Rattle.sv_model.specs.declared.engine.Engine as engine_trait
use Rattle.sv_journal.specs.declared.disk.Disk as disk_trait
use Rattle.sv_node.proofs.HistoryLemmas.{gone_in, gone_out}

on_ok : {T F : Type 0} (answer : Result T F) (value : T) (P : Type 0) → answer ≡ Ok value → OnOk answer P → P
on_ok (Ok x) value P is holds = holds
on_ok (Err fault) value P is holds = absurd (let h = is in cc)

pub on_any : {T F : Type 0} (answer : Result T F) (P : Type 0) → P → OnOk answer P
on_any (Ok x) P holds = holds
on_any (Err fault) P holds = tt

on_err : {T F : Type 0} (answer : Result T F) (P : Type 0) → IsErr answer → OnOk answer P
on_err (Ok x) P err = absurd (let no = err in cc)
on_err (Err fault) P err = tt

module _ {E D : Type 0} {engine : engine_trait.Ghosts E} {disk : disk_trait.Ghosts D} where
  -- a node may be given what was gathered
  pub serves_gathered : {node : Node E D} {group next : Group} {waiters others : List ParkedClient} → IsServing engine disk waiters node group → HasGathered group next → GathersFor group next waiters others
      → IsServing engine disk others node next
  serves_gathered {node = node} {group = group} {next = next} {waiters = waiters} {others = others} serving gathered clients =
      record { valid = serving.valid; live = serving.live; rising = gathered.rising; clients = have_on waiters others node group next gathered clients serving.clients }

  -- the clients are the same
  pub serves_same : {node : Node E D} {group : Group} {waiters others : List ParkedClient} → others ≡ waiters → IsServing engine disk waiters node group → IsServing engine disk others node group
  serves_same {node = node} {group = group} same serving = subst (λ (cs : List ParkedClient). IsServing engine disk cs node group) (sym same) serving

  -- the node goes on
  pub goes_by : {T F : Type 0} {old new : Node E D} {group next : Group} {waiters : List ParkedClient} {answer : Result T F} {value : T} → answer ≡ Ok value → HasServed engine disk old group waiters new next answer
      → GoesOn engine.meaning engine.heard disk.tells (before_of group) (before_of next) old new
  goes_by {old = old} {new = new} {group = group} {next = next} {answer = answer} {value = value} is served =
      gone_in engine.meaning engine.heard disk.tells disk.may_leave disk.moment disk.left_since (before_of group) (before_of next) old new answer value is served.gone

  -- and may be given more
  pub serves_on : {T F : Type 0} {old new : Node E D} {group next : Group} {waiters : List ParkedClient} {answer : Result T F} {value : T} → answer ≡ Ok value → HasServed engine disk old group waiters new next answer → IsServing engine disk waiters new next
  serves_on {new = new} {next = next} {waiters = waiters} {answer = answer} {value = value} is served = record {
    valid = served.valid;
    live = (goes_by is served).live;
    rising = served.rising;
    clients = on_ok answer value (HaveClients waiters new next) is served.clients;
  }

  -- nothing was given to it
  pub served_nothing : {T F : Type 0} {node : Node E D} {group next : Group} {waiters others : List ParkedClient} (answer : Result T F) → IsServing engine disk waiters node group → HasGathered group next → GathersFor group next waiters others → HasServed engine disk node group others node next answer
  served_nothing {node = node} {group = group} {next = next} {waiters = waiters} {others = others} answer serving gathered clients = record {
    valid = serving.valid;
    rising = gathered.rising;
    gone = gone_on engine.meaning engine.heard disk.tells disk.may_leave disk.moment disk.left_since (before_of group) (before_of next) node node answer
        (goes_nowhere engine.meaning engine.heard disk.tells disk.may_leave disk.moment disk.left_since (before_of group) (before_of next) node (omega (arith, gathered.before)) serving.live);
    runs = runs_nowhere engine.meaning engine.heard disk.tells disk.seen disk.may_leave disk.moment disk.left_since (before_of group) node;
    clients = on_any answer (HaveClients others node next) (have_on waiters others node group next gathered clients serving.clients);
  }

  pub served_none : {T F : Type 0} {node : Node E D} {group : Group} {waiters : List ParkedClient} (answer : Result T F) → IsServing engine disk waiters node group → HasServed engine disk node group waiters node group answer
  served_none answer serving =
      served_nothing answer serving (record { rising = serving.rising; before = refl }) (record { kept = λ token low has. has; asked = λ asked. asked; ways = λ ways. ways })

  -- it was done, whatever is answered
  pub served_well : {T F U G : Type 0} {old new : Node E D} {group next : Group} {waiters : List ParkedClient} {answer : Result T F} {value : T} (given : Result U G) → answer ≡ Ok value → HasServed engine disk old group waiters new next answer → HasServed engine disk old group waiters new next given
  served_well {old = old} {new = new} {group = group} {next = next} {waiters = waiters} given is served = record {
    valid = served.valid;
    rising = served.rising;
    gone = gone_on engine.meaning engine.heard disk.tells disk.may_leave disk.moment disk.left_since (before_of group) (before_of next) old new given (goes_by is served);
    runs = served.runs;
    clients = on_any given (HaveClients waiters new next) (serves_on is served).clients;
  }

  -- a fault is handed on
  pub served_out : {T F U G : Type 0} {old new : Node E D} {group next : Group} {waiters : List ParkedClient} {answer : Result T F} {fault : F} (given : Result U G) → answer ≡ Err fault → IsErr given
      → HasServed engine disk old group waiters new next answer → HasServed engine disk old group waiters new next given
  served_out {old = old} {new = new} {group = group} {next = next} {waiters = waiters} {answer = answer} {fault = fault} given is err served = record {
    valid = served.valid;
    rising = served.rising;
    gone = gone_out engine.meaning engine.heard disk.tells disk.may_leave disk.moment disk.left_since (before_of group) (before_of next) old new answer fault given is err served.gone;
    runs = served.runs;
    clients = on_err given (HaveClients waiters new next) err;
  }

  -- one call after another
  pub served_then : {T F U G : Type 0} {old mid new : Node E D} {group between next : Group} {mid_waiters waiters : List ParkedClient} {answer : Result T F} {value : T} {given : Result U G} → answer ≡ Ok value
      → HasServed engine disk old group mid_waiters mid between answer → HasServed engine disk mid between waiters new next given → HasServed engine disk old group waiters new next given
  served_then {old = old} {mid = mid} {new = new} {group = group} {between = between} {next = next} {given = given} is first served = record {
    valid = served.valid;
    rising = served.rising;
    gone = gone_join engine.meaning engine.heard disk.tells disk.may_leave disk.moment disk.left_since (before_of group) (before_of between) (before_of next) old mid new (goes_by is first) given served.gone;
    runs = runs_join engine.meaning engine.heard disk.tells disk.seen disk.may_leave disk.moment disk.left_since (before_of group) (before_of between) (before_of next) old mid new (goes_by is first) first.runs served.runs;
    clients = served.clients;
  }

  -- after what was gathered
  pub gathered_then : {T F : Type 0} {old new : Node E D} {group between next : Group} {waiters : List ParkedClient} {answer : Result T F} → HasGathered group between → HasServed engine disk old between waiters new next answer → HasServed engine disk old group waiters new next answer
  gathered_then {T = T} {F = F} {old = old} {new = new} {group = group} {between = between} {next = next} {answer = answer} gathered served = record {
    valid = served.valid;
    rising = served.rising;
    gone = subst (λ (low : ℕ). HasGone {T = T} {F = F} engine.meaning engine.heard disk.tells disk.may_leave low (before_of next) old new answer) gathered.before served.gone;
    runs = subst (λ (low : ℕ). RunsWithoutLoss engine.meaning disk.tells disk.seen disk.may_leave disk.moment disk.left_since low old new) gathered.before served.runs;
    clients = served.clients;
  }
