use Rattle.std.proofs.Common.{◌≡◌, ◌++◌, take}
use Rattle.std.specs.List.{flat_map}
use Rattle.club_site.specs.Upload.{byte_html}
use Rattle.club_site.proofs.upload.write_cells.Given as goal

-- the bytes so far
abbrev pub invariant-loop-byte : goal.invariant-loop-byte
invariant-loop-byte l = l.page ≡ l.fn.page ++ flat_map byte_html (take l.byte-index l.list)
