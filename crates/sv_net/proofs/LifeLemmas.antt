-- What came of a client is what was given and what is kept.
use Rattle.sv_net.proofs.Prelude.{◌≡◌, ℕ, List, [], ◌∷◌, ◌++◌, ap, sym, ◌∙◌, subst, append-nil, append_assoc, held_by}
use Rattle.sv_connection.specs.declared.received.Received.TheVariants.{Request, Refused, More, Closed}
use Rattle.sv_net.specs.Life.{Came, KeepsBytes, Splits, asked_in, came_in}

-- a piece after what was held, and what comes after it
joined : (first was piece kept rest : List ℕ) → was ≡ first → was ++ piece ≡ kept → first ++ (piece ++ rest) ≡ kept ++ rest
joined first was piece kept rest same is =
    ap (λ xs. xs ++ (piece ++ rest)) (sym same) ∙ sym (append_assoc was piece rest) ∙ ap (λ xs. xs ++ rest) is

pub keeps_bytes : KeepsBytes
keeps_bytes first last [] heard = append-nil (held_by first.connection) ∙ sym heard
keeps_bytes first last (Came was next piece (Request request) ∷ heeds) (same, hears, goes_on, later) =
    let g = hears.received.2 in
    let kept = held_by next.connection in
    let rest = came_in heeds in (
      g.text,
      kept ++ rest,
      g.raw,
      _,
      g.message,
      (record { target = g.target; read = g.read; says = g.says }),
      joined (held_by first.connection) (held_by was.connection) piece (g.text ++ kept) rest same (g.taken ∙ ap (λ xs. g.text ++ xs) (append-nil kept)) ∙ append_assoc g.text kept rest,
      keeps_bytes next last heeds later,
    )
keeps_bytes first last (Came was next piece (Refused fault head_only) ∷ heeds) (same, hears, goes_on, later) = absurd goes_on
keeps_bytes first last (Came was next piece More ∷ heeds) (same, hears, goes_on, later) =
    let kept = held_by next.connection in
    subst (λ (xs : List ℕ). Splits xs (asked_in heeds) (held_by last.connection))
    (sym (joined (held_by first.connection) (held_by was.connection) piece kept (came_in heeds) same (sym hears.received.3 ∙ append-nil kept)))
    (keeps_bytes next last heeds later)
keeps_bytes first last (Came was next piece Closed ∷ heeds) (same, hears, goes_on, later) = absurd goes_on
