use Rattle.std.proofs.Common.{◌≡◌, ◌++◌, ◌*◌, ◌-◌, drop}
use Rattle.example_cart.specs.Kept.{posts_in}
use Rattle.example_cart.proofs.kept.read_posts.Given as goal

-- the forms so far, before those of the rest
abbrev pub invariant-loop-at : goal.invariant-loop-at
invariant-loop-at l = l.posts.items ++ posts_in (l.count - l.at) (drop (l.at * 15) l.bytes) ≡ posts_in l.count l.bytes
