use Rattle.std.proofs.Common.{◌≡◌, ◌++◌, take}
use Rattle.std.specs.List.{flat_map}
use Rattle.example_cart.specs.Shape.{shape_html}
use Rattle.example_cart.proofs.shape.write_shapes.Given as goal

-- the shapes so far
abbrev pub invariant-loop-shape : goal.invariant-loop-shape
invariant-loop-shape l = l.page ≡ l.fn.page ++ flat_map shape_html (take l.shape-index l.shapes)
