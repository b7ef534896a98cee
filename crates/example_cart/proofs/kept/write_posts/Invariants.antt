use Rattle.std.proofs.Common.{◌≡◌, ◌++◌, take}
use Rattle.std.specs.List.{flat_map}
use Rattle.example_cart.specs.Kept.{post_bytes}
use Rattle.example_cart.proofs.kept.write_posts.Given as goal

-- the bytes of the forms so far
abbrev pub invariant-loop-post : goal.invariant-loop-post
invariant-loop-post l = l.bytes.items ≡ l.fn.bytes.items ++ flat_map post_bytes (take l.post-index l.posts)
