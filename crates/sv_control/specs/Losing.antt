-- Which sessions a changed descriptor loses. A session is known by its context's number, which is the context's place among those of
-- the descriptor, and lies at a node, which is a place among the ports.
use Rattle.std.specs.Prelude.{ℕ, ◌+◌, ◌-◌, ◌==◌, List, [], ◌∷◌, ◌++◌, Option, Some, None, bytes_eq, position, string_bytes, if◌then◌else◌, length}
use Rattle.sv_config.specs.declared.deployment.Context.{Context}
use Rattle.sv_control.specs.declared.losing.Moved.{Moved}

-- the place of the context with this path, among those of a descriptor
abbrev pub place_of : List ℕ → List Context → Option ℕ
place_of path contexts = position (λ (c : Context). bytes_eq (string_bytes c.path) path) contexts

-- a context that had this number, which stands at this place now or nowhere: its sessions are lost unless it is where it was
abbrev pub if_elsewhere : ℕ → Option ℕ → List Moved
if_elsewhere number None = record { number = number; now = None } ∷ []
if_elsewhere number (Some place) = if place == number then [] else record { number = number; now = Some place } ∷ []

-- what is lost of contexts that had the numbers from this one on
abbrev pub moved_from : ℕ → List Context → List Context → List Moved
moved_from number [] news = []
moved_from number (c ∷ cs) news = if_elsewhere number (place_of (string_bytes c.path) news) ++ moved_from (1 + number) cs news
