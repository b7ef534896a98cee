use Rattle.std.proofs.Common.{◌≡◌, ◌++◌, take}
use Rattle.std.specs.List.{flat_map}
use Rattle.sv_web.specs.Page.{piece_html}
use Rattle.sv_web.proofs.page.Page.write.Given as goal

-- the pieces so far
abbrev pub invariant-loop-piece : goal.invariant-loop-piece
invariant-loop-piece l = l.self-inside.bytes.items ≡ l.fn.self ++ flat_map piece_html (take l.piece-index l.pieces)
