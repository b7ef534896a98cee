-- Two lists whose elements stand to one another, place by place.
use Rattle.std.specs.Prelude.{◌≡◌, ℕ, ◌<◌, List, length, slice_index_or}

pub record Pairwise {X : Type 0} (R : X → X → Type 0) (xs ys : List X) : Type 0 where
  pub long : length ys ≡ length xs
  pub each : (k : ℕ) (d : X) → k < length xs → R (slice_index_or xs k d) (slice_index_or ys k d)
