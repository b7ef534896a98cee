-- Where the state of each key stands.
use Rattle.std.specs.Prelude.{ℕ, ◌+◌, ◌≤◌, List, ◌++◌, vec_len, vec_capacity}
use Rattle.sv_core.specs.Places.{Place}
use Rattle.sv_core.specs.declared.directory.Directory.{Directory}

-- the keys in their order
abbrev pub places_in : Directory → List Place
places_in d = d.low.items ++ d.high.items

-- so many keys can be added without taking memory
pub record HasSpaceFor (n : ℕ) (d : Directory) : Type 0 where
  pub low : vec_len d.low + n ≤ vec_capacity d.low
  pub high : vec_len d.high + n ≤ vec_capacity d.high
