-- What the listener notes that counts events (Jakarta Servlet 6.0, chapter "Application Lifecycle Events").
use Rattle.std.specs.Prelude.{ℕ, ◌+◌, ◌-◌, ◌^◌, min, List, slice_index, slice_set}
use Rattle.sv_model.specs.declared.event.Event.{Event}
use Rattle.sv_model.specs.declared.event.Event.TheVariants.{ContextUp, ContextDown, RequestIn, RequestOut, Created, Destroyed}
use Rattle.sv_model.specs.declared.event.Event.TheVariants.{Added, Removed, Replaced, Passivate, Activate, IdChanged}
use Rattle.sv_model.specs.declared.event.Told.{Told}

-- the place of an event's number among the kinds of events
abbrev pub place_of : Event → ℕ
place_of ContextUp = 0
place_of ContextDown = 1
place_of RequestIn = 2
place_of RequestOut = 3
place_of (Created key) = 4
place_of (Destroyed key) = 5
place_of (Added key name value) = 6
place_of (Removed key name old) = 7
place_of (Replaced key name old) = 8
place_of (Passivate key) = 9
place_of (Activate key) = 10
place_of (IdChanged key old) = 11

-- one more; the greatest number of 64 bits stays
abbrev pub one_more : ℕ → ℕ
one_more count = min (count + 1) (2 ^ 64 - 1)

-- the number of the event's kind is one more, and all others stay
abbrev pub tallied : Told → List ℕ → List ℕ
tallied told counts = slice_set counts (place_of told.event) (one_more (slice_index counts (place_of told.event)))
