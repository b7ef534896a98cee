-- A script: lines between line feeds, of words between single spaces. An empty line says nothing.
use Rattle.std.specs.Prelude.{ℕ, ◌-◌, ◌==◌, ◌&&◌, Bool, true, false, not, nat_lt, List, []}
use Rattle.std.specs.Prelude.{◌∷◌, map, filter, codes, bytes_eq, Option, Some, None, is_none, if◌then◌else◌}
use Rattle.std.specs.List.{slice_split}
use Rattle.sv_client.specs.declared.number.NodeNumber.{NodeNumber}
use Rattle.sv_cluster.specs.declared.script.Act.{Act}
use Rattle.sv_cluster.specs.declared.script.Act.TheVariants.{Start, Ask, Move, Tick, Halt, Kill}
use Rattle.sv_cluster.specs.declared.script.Line.{Line}

-- what a line asks for
pub data Order : Type 0 where
  StartNode : (node : ℕ) → Order
  AskNode : (node : ℕ) (path : List ℕ) → Order
  MoveSession : (node to : ℕ) → Order
  TickNode : (node : ℕ) → Order
  HaltNode : (node : ℕ) → Order
  KillNode : (node : ℕ) → Order

-- the number of a node in decimal: one digit, of 0 to 7
abbrev pub number_at : List ℕ → Option ℕ
number_at [] = None
number_at (d ∷ []) = if nat_lt 47 d && nat_lt d 56 then Some (d - 48) else None
number_at (d ∷ e ∷ ds) = None

-- `start N`, `tick N`, `halt N`, `kill N`
abbrev pub of_two : List ℕ → Option ℕ → Option Order
of_two verb None = None
of_two verb (Some node) =
    if bytes_eq verb (codes "start") then Some (StartNode node)
    else if bytes_eq verb (codes "tick") then Some (TickNode node)
    else if bytes_eq verb (codes "halt") then Some (HaltNode node)
    else if bytes_eq verb (codes "kill") then Some (KillNode node)
    else None

-- `ask N PATH`, whose PATH has a character at least
abbrev pub ask_of : Option ℕ → List ℕ → Option Order
ask_of None path = None
ask_of (Some node) [] = None
ask_of (Some node) (c ∷ cs) = Some (AskNode node (c ∷ cs))

-- `move N TO`
abbrev pub move_of : Option ℕ → Option ℕ → Option Order
move_of None to = None
move_of (Some node) None = None
move_of (Some node) (Some to) = Some (MoveSession node to)

abbrev pub of_three : List ℕ → List ℕ → List ℕ → Option Order
of_three verb node last =
    if bytes_eq verb (codes "ask") then ask_of (number_at node) last
    else if bytes_eq verb (codes "move") then move_of (number_at node) (number_at last)
    else None

-- what the words of a line ask for; none where they ask for nothing
abbrev pub order_in : List (List ℕ) → Option Order
order_in [] = None
order_in (verb ∷ []) = None
order_in (verb ∷ node ∷ []) = of_two verb (number_at node)
order_in (verb ∷ node ∷ last ∷ []) = of_three verb node last
order_in (verb ∷ node ∷ last ∷ word ∷ words) = None

abbrev pub is_space : ℕ → Bool
is_space c = c == 32

abbrev pub is_line_feed : ℕ → Bool
is_line_feed c = c == 10

-- the words of a line
abbrev pub words_of : List ℕ → List (List ℕ)
words_of line = slice_split is_space line

-- a line of a script, and what it asks for
pub record Reading : Type 0 where
  pub text : List ℕ
  pub order : Option Order

unfoldable pub reading : List ℕ → Reading
reading line = record { text = line; order = order_in (words_of line) }

abbrev pub is_written : List ℕ → Bool
is_written [] = false
is_written (c ∷ cs) = true

-- what lines ask for, but for the empty ones
abbrev pub readings : List (List ℕ) → List Reading
readings lines = map reading (filter is_written lines)

-- what a script asks for, line by line
unfoldable pub script_in : List ℕ → List Reading
script_in text = readings (slice_split is_line_feed text)

-- a line that asks for nothing
abbrev pub is_fault : Reading → Bool
is_fault r = is_none r.order

-- ---- what was read

abbrev pub number_of : Option NodeNumber → Option ℕ
number_of None = None
number_of (Some n) = Some n.value

abbrev pub order_of : Act → Order
order_of (Start node) = StartNode node.value
order_of (Ask node path) = AskNode node.value path.now
order_of (Move node to) = MoveSession node.value to.value
order_of (Tick node) = TickNode node.value
order_of (Halt node) = HaltNode node.value
order_of (Kill node) = KillNode node.value

abbrev pub orders_of : Option Act → Option Order
orders_of None = None
orders_of (Some act) = Some (order_of act)

abbrev pub line_data : Line → Reading
line_data line = record { text = line.text.now; order = Some (order_of line.act) }
