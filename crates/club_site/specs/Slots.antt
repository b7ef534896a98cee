-- The slots that members book: an hour of a court each.
use Rattle.std.specs.Prelude.{ℕ, ◌+◌, ◌-◌, ◌*◌, ◌/◌, ◌%◌, ◌==◌, ◌||◌, Bool, List, [], ◌∷◌, ◌++◌, codes, nat_lt}
use Rattle.std.specs.Prelude.{Option, Some, None, option_copied, Result, Ok, Err, if◌then◌else◌}
use Rattle.std.specs.Borrow.{Bor}
use Rattle.std.specs.List.{list_any}
use Rattle.sv_servlet.specs.Call.{Asked}
use Rattle.sv_servlet.specs.declared.servlet.Next.{Next}
use Rattle.sv_web.specs.Steps.{set_attribute}
use Rattle.sv_web.specs.Work.{Looking, Work}
use Rattle.sv_web.specs.declared.refusal.Refusal.{Refusal}
use Rattle.club_site.specs.Kept.{seen}
use Rattle.club_site.specs.Language.{say}

-- the court and the hour of a slot
abbrev pub place_of : ℕ → ℕ × ℕ
place_of slot = (slot / 14 + 1, slot % 14 + 8)

-- the slot of a court, 1 to 4, and an hour, 8 to 21
abbrev pub slot_of : ℕ → ℕ → Option ℕ
slot_of court hour =
    if nat_lt court 1 || nat_lt 4 court || nat_lt hour 8 || nat_lt 21 hour then None else Some ((court - 1) * 14 + (hour - 8))

-- a slot is among those that are booked
unfoldable pub is_booked : List ℕ → ℕ → Bool
is_booked slots slot = list_any (λ other. other == slot) slots

-- the slot is booked after the others, and what follows is told nothing; or it is told why not
abbrev pub asked_for : Asked → List ℕ → (Option (List ℕ) → Work Next) → Option ℕ → Work Next
asked_for call slots more None = more (Some (say call (codes "There is no such court.") (codes "Kein solcher Platz.")))
asked_for call slots more (Some slot) =
    if is_booked slots slot then more (Some (say call (codes "You have that court.") (codes "Den haben Sie schon.")))
    else set_attribute (codes "slots") (slots ++ slot ∷ []) (more None)

-- a slot of a court and an hour is booked
unfoldable pub booking : Asked → ℕ → ℕ → (Option (List ℕ) → Work Next) → Work Next
booking call court hour more = Looking (λ e. asked_for call (seen e (codes "slots")) more (slot_of court hour))

-- a text, as its bytes
abbrev pub told : Result (Option (Bor (List ℕ))) Refusal → Result (Option (List ℕ)) Refusal
told (Ok text) = Ok (option_copied text)
told (Err refusal) = Err refusal
