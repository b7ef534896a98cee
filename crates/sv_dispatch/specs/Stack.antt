-- The explicit stack: what the dispatches that wait make of a result.
use Rattle.std.specs.Prelude.{ℕ, zero, suc, ◌+◌, ◌-◌, ◌*◌, ◌≤◌, List, [], ◌∷◌, All, Err, Ok, Option, Result, length, reverse}
use Rattle.sv_mapping.specs.declared.dispatcher.Dispatcher.{Dispatcher}
use Rattle.sv_servlet.specs.Servlet.{Lent}
use Rattle.sv_servlet.specs.declared.servlet.Next.{Next}
use Rattle.sv_dispatch.specs.Dispatching.{Begun, Table, Outcome, outcome, answered, dispatched, serving, closed, resumed, to_serve}
use Rattle.sv_dispatch.specs.Rows.{IsReadyAt}
use Rattle.sv_dispatch.specs.Sight.{Sight, call_of}
use Rattle.sv_dispatch.specs.declared.mode.Ending.{Ending}
use Rattle.sv_dispatch.specs.declared.mode.Ending.TheVariants.{Abandoned}
use Rattle.sv_dispatch.specs.declared.mode.Frame.{Frame}
use Rattle.sv_dispatch.specs.declared.mode.Mode.{Mode}
use Rattle.sv_dispatch.specs.declared.mode.Mode.TheVariants.{Enter, Serve, Nest, Leave}
use Rattle.sv_dispatch.specs.declared.mode.Open.{Open}
use Rattle.sv_dispatch.specs.declared.mode.Then.{Then}
use Rattle.sv_dispatch.specs.declared.mode.Then.TheVariants.{Return, Resume}

-- the end of an open dispatch
abbrev pub closed_open : Table → Open → Outcome → Outcome
closed_open t o r = closed t.filters o.passed.items (call_of o.view 0) r

-- the calls of its servlet, from one on
abbrev pub serving_open : Table → ℕ → Open → ℕ → ℕ → ℕ → Lent → Outcome
serving_open t e o turns r left l = serving (dispatched t e) t.servlets turns o.servlet o.view r left l

-- what an open dispatch gives from a call of its servlet on, with e dispatches below it
unfoldable pub opened : Table → ℕ → Open → ℕ → Lent → Outcome
opened t e o left l = closed_open t o (serving_open t e o left o.resume left l)

abbrev pub awaited : Table → ℕ → Open → Then → Outcome → Outcome
awaited t e o Return r = r
awaited t e o (Resume n) r = resumed (λ n' left l. serving_open t e o left n' left l) o.view.is_included n r

-- what a waiting dispatch makes of the result that it waited for
unfoldable pub reentered : Table → ℕ → Frame → Outcome → Outcome
reentered t e f r = closed_open t f.held (awaited t e f.held f.then r)

-- with e dispatches that may be nested, itself among them, or too deep
abbrev pub at_depth : ℕ → ℕ → Lent → (ℕ → Outcome) → Outcome
at_depth zero left l go = outcome Abandoned left l
at_depth (suc e) left l go = go e

-- what a dispatch gives from its servlet on, or where it ends without one
abbrev pub continued : Table → ℕ → Sight → ℕ → Lent → Result ℕ Ending → Outcome
continued t e s left l (Ok k) = serving (dispatched t e) t.servlets left k s 0 left l
continued t e s left l (Err ended) = outcome ended left l

-- and from the end of its filters' `before` on
abbrev pub behind_filters : Table → ℕ → Option ℕ → ℕ → Begun → Outcome
behind_filters t e servlet left b = closed t.filters b.passed (call_of b.view 0) (continued t e b.view left b.lent (to_serve t.servlets b.view servlet b.before))

-- what is to come of a mode
abbrev pub current : Table → ℕ → Mode → ℕ → Lent → Outcome
current t e (Enter a) left l = dispatched t e a left l
current t e (Serve o) left l = at_depth e left l (λ e'. opened t e' o left l)
current t e (Nest f a) left l = at_depth e left l (λ e'. reentered t e' f (dispatched t e' a left l))
current t e (Leave ended) left l = outcome ended left l

-- what the servlet's answer makes of its dispatch
abbrev pub followed : Table → ℕ → Open → ℕ → Lent → Next → Outcome
followed t e o left l next = closed_open t o (answered (dispatched t e) (λ r left' l'. serving_open t e o left r left' l') o.view left l next)

-- a dispatch waits for the one that its servlet asks for
abbrev pub nesting : Open → Then → Dispatcher → List ℕ → Mode
nesting o then dispatcher path = Nest (record { held = o; then = then }) (record { dispatcher = dispatcher; view = o.view; path = path })

-- what the waiting dispatches, the innermost first, make of a result
unfoldable pub plugged : Table → ℕ → List Frame → Outcome → Outcome
plugged t e [] o = o
plugged t e (f ∷ fs) o = plugged t (suc e) fs (reentered t e f o)

-- what all of it gives, where n dispatches may be nested
unfoldable pub whole : Table → ℕ → List Frame → Mode → ℕ → Lent → Outcome
whole t n frames mode left l = plugged t (n - length frames) (reverse frames) (current t (n - length frames) mode left l)

-- the objects that an open dispatch names are ready
pub record IsOpen (t : Table) (o : Open) : Type 0 where
  pub servlet : IsReadyAt t.servlets o.servlet
  pub passed : All (IsReadyAt t.filters) o.passed.items

abbrev pub IsModeOf : Table → Mode → Type 0
IsModeOf t (Enter a) = Unit {0}
IsModeOf t (Serve o) = IsOpen t o
IsModeOf t (Nest f a) = IsOpen t f.held
IsModeOf t (Leave ended) = Unit {0}

-- how far a mode is from a return
abbrev pub weight : Mode → ℕ
weight (Leave ended) = 0
weight (Serve o) = 1
weight (Enter a) = 3
weight (Nest f a) = 6

-- the levels that a mode has yet to take
abbrev pub need : Mode → ℕ
need (Leave ended) = 0
need (Serve o) = 1
need (Enter a) = 0
need (Nest f a) = 1

-- a stack and a mode that a run may have
pub record IsRunning (t : Table) (fs : List Frame) (m : Mode) : Type 0 where
  pub mode : IsModeOf t m
  pub frames : All (λ f. IsOpen t f.held) fs
  pub room : length fs + need m ≤ 16

-- there is something to be done
abbrev pub IsOn : List Frame → Mode → Type 0
IsOn [] (Leave ended) = ⊥
IsOn [] (Enter a) = Unit {0}
IsOn [] (Serve o) = Unit {0}
IsOn [] (Nest f a) = Unit {0}
IsOn (f ∷ fs) m = Unit {0}

-- what is still to be done, at most
abbrev pub work : List Frame → Mode → ℕ → ℕ
work fs m left = 7 * left + 2 * length fs + weight m
