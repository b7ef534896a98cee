-- the worlds of cases.
use Rattle.std.specs.Prelude.{⊤}
use Rattle.sv_world.specs.declared.world.World.{World}
use Rattle.sv_world.specs.Worlds.{IsWorld}
use Rattle.test_engine.specs.declared.counter.Counter.{Counter}

-- a world that may be called
abbrev pub IsStaged : World Counter → Type 0
IsStaged w = IsWorld (λ _. ⊤) w
