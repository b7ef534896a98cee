-- The bookings as JSON.
use Rattle.std.specs.Prelude.{ℕ, List, codes, map, Option, Some, None, option_and_then, unwrap_or, if◌then◌else◌}
use Rattle.serde_json.specs.Data.{Data, array, member, no_members, number, object, unsigned}
use Rattle.serde_json.specs.Find.{as_number, as_u64, get}
use Rattle.serde_json.specs.View.{items_of}
use Rattle.serde_json.specs.Written.{compact_text}
use Rattle.sv_servlet.specs.Call.{Asked}
use Rattle.sv_servlet.specs.declared.servlet.Next.{Next}
use Rattle.sv_servlet.specs.declared.servlet.Next.TheVariants.{Done}
use Rattle.sv_web.specs.Json.{json, refused, written}
use Rattle.sv_web.specs.Steps.{set_status}
use Rattle.sv_web.specs.Work.{Ends, Looking, Work}
use Rattle.club_site.specs.Kept.{is_member, seen}
use Rattle.club_site.specs.Slots.{booking, place_of}

-- `{"court":1,"hour":8}`
abbrev pub slot_data : ℕ → Data
slot_data slot =
    object (member (codes "court") (number (unsigned (place_of slot).0)) (member (codes "hour") (number (unsigned (place_of slot).1)) no_members))

abbrev pub list_data : List ℕ → Data
list_data slots = array (items_of (map slot_data slots))

-- a value is sent
unfoldable pub sent : Data → Work Next → Work Next
sent d more = written (compact_text d) more

-- what is booked is answered
unfoldable pub listed : Work Next
listed = Looking (λ e. sent (list_data (seen e (codes "slots"))) (Ends Done))

-- 401 where nobody has logged in
unfoldable pub admitted : Work Next → Work Next
admitted more = Looking (λ e. if is_member e then more else refused 401 (codes "log in first") (Ends Done))

abbrev pub asked : Asked → Work Next
asked call = admitted listed

-- a number of an object, or 0
abbrev pub number_of : Data → List ℕ → ℕ
number_of d name = unwrap_or (option_and_then as_u64 (option_and_then as_number (get name d))) 0

abbrev pub answered : Option (List ℕ) → Work Next
answered None = set_status 201 listed
answered (Some fault) = refused 422 fault (Ends Done)

abbrev pub taken : Asked → Work Next
taken call = admitted (json call (λ d. booking call (number_of d (codes "court")) (number_of d (codes "hour")) answered))
