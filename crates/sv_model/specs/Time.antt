-- What time does: a session expires, a request has waited long enough, and what may have been lost is sent again.
use Rattle.std.specs.Prelude.{ℕ, ◌+◌, ◌||◌, Bool, false, not, cond, nat_le, Option, Some, None, List, [], ◌∷◌, ◌++◌, map}
use Rattle.std.specs.List.{filter, filter_map, flat_map}
use Rattle.std.specs.FinMap.{entries}
use Rattle.sv_model.specs.declared.key.Key.{Key}
use Rattle.sv_model.specs.declared.state.KeyState.{KeyState}
use Rattle.sv_model.specs.declared.state.KeyState.TheVariants.{Active, Sent, Gone, Ended}
use Rattle.sv_model.specs.declared.record.Record.TheVariants.{Expired as ExpiredRecord}
use Rattle.sv_model.specs.declared.commit.Commit.TheVariants.{Expired}
use Rattle.sv_model.specs.declared.event.Event.TheVariants.{Destroyed}
use Rattle.sv_model.specs.declared.packet.Packet.TheVariants.{Grant}
use Rattle.sv_model.specs.declared.output.Output.{Output}
use Rattle.sv_model.specs.declared.output.Output.TheVariants.{Refuse, Send}
use Rattle.sv_model.specs.declared.output.Cause.TheVariants.{Deadline}
use Rattle.sv_model.specs.Session.{is_expired}
use Rattle.sv_model.specs.NodeState.{Setting, Durable, Parked, Node, known, is_settled, is_crowded}
use Rattle.sv_model.specs.Decision.{Decision, idle}
use Rattle.sv_model.specs.Serving.{over_at}
use Rattle.sv_model.specs.Waiting.{wants}

-- the session is active, and has expired
abbrev pub is_over : ℕ → KeyState → Bool
is_over now (Active e s) = is_expired s now
is_over now (Sent e s to) = false
is_over now (Gone e) = false
is_over now (Ended e) = false

-- the least key whose session has expired
abbrev pub first_over : ℕ → List (Key × KeyState) → Option (Key × KeyState)
first_over now [] = None
first_over now (e ∷ es) = cond (is_over now e.1) (Some e) (first_over now es)

-- its session is ended
abbrev pub expire : Node → ℕ → Option (Key × KeyState) → List Output → Decision
expire n now None outputs = idle n outputs
expire n now (Some (k, Active e s)) outputs =
    record (idle n outputs) {
      entry = Some (ExpiredRecord k);
      commit = Some (Expired k now);
      events = record { context = s.context; event = Destroyed k } ∷ [];
      durable = record (n.durable) { keys = over_at n.durable.home k e n.durable.keys };
    }
expire n now (Some (k, Sent e s to)) outputs = idle n outputs
expire n now (Some (k, Gone e)) outputs = idle n outputs
expire n now (Some (k, Ended e)) outputs = idle n outputs

-- the request has waited for as long as requests do
abbrev pub is_late : Setting → ℕ → Parked → Bool
is_late set steady p = nat_le (p.since + set.deadline) steady

abbrev pub deadlines : Setting → ℕ → List Parked → List Output
deadlines set steady parked = map (λ p. Refuse p.token Deadline) (filter (is_late set steady) parked)

-- the session may not be asked for again: the request can be served, or there is no room for what it waits for
abbrev pub is_quiet : Setting → Durable → Parked → Bool
is_quiet set d p = is_settled (known d p.key) || is_crowded set d p.key

-- the requests that go on waiting ask for their sessions again
abbrev pub wants_again : Setting → Durable → List Parked → List Output
wants_again set d parked = flat_map (λ p. wants set d p.key p.want) (filter (λ p. not (is_quiet set d p)) parked)

-- a session that was handed over is handed over again
abbrev pub grant_again : Setting → Key × KeyState → Option Output
grant_again set (k, Active e s) = None
grant_again set (k, Sent e s to) = Some (Send (Grant set.node to k e s))
grant_again set (k, Gone e) = None
grant_again set (k, Ended e) = None

-- sessions expire by the clock as it is set, requests are late by the one that nobody sets
abbrev pub on_tick : Setting → Node → (now steady : ℕ) → Decision
on_tick set n now steady =
    let d = expire n now (first_over now (entries n.durable.keys)) [] in
    let waiting = filter (λ p. not (is_late set steady p)) n.parked in
    record d {
      outputs = deadlines set steady n.parked ++ wants_again set n.durable waiting ++ filter_map (grant_again set) (entries d.durable.keys);
      parked = waiting;
    }
