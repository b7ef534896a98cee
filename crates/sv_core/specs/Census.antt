-- How many keys a node knows, by what it knows of them.
use Rattle.std.specs.Prelude.{ℕ, ◌+◌, List, [], ◌∷◌, max}
use Rattle.std.specs.FinMap.{entries}
use Rattle.sv_model.specs.declared.state.KeyState.TheVariants.{Active, Sent, Gone, Ended}
use Rattle.sv_model.specs.NodeState.{Durable}
use Rattle.sv_core.specs.Order.{Entry}
use Rattle.sv_core.specs.declared.census.Census.{Census}

abbrev pub nobody : Census
nobody = record { active = 0; sent = 0; gone = 0; ended = 0; homes = 0 }

-- one more key, of which this is known; the home of a session that is here is below the number of homes
abbrev pub with_one : Entry → Census → Census
with_one (k, Active e s) c = record c { active = c.active + 1; homes = max c.homes (k.home + 1) }
with_one (k, Sent e s to) c = record c { sent = c.sent + 1; homes = max c.homes (k.home + 1) }
with_one (k, Gone e) c = record c { gone = c.gone + 1 }
with_one (k, Ended e) c = record c { ended = c.ended + 1 }

abbrev pub with_all : List Entry → Census → Census
with_all [] c = c
with_all (e ∷ es) c = with_all es (with_one e c)

-- all of them
abbrev pub total : Census → ℕ
total c = c.active + c.sent + c.gone + c.ended

abbrev pub census_of : Durable → Census
census_of d = with_all (entries d.keys) nobody
