-- Pages in HTML, of pieces.
use Rattle.std.specs.Prelude.{ℕ, ◌+◌, ◌/◌, ◌%◌, List, [], ◌∷◌, ◌++◌, decimal}
use Rattle.sv_servlet.specs.declared.servlet.Next.{Next}
use Rattle.sv_servlet.specs.declared.servlet.Next.TheVariants.{Done}
use Rattle.sv_web.specs.Html.{escaped}
use Rattle.sv_web.specs.Steps.{html, written}
use Rattle.sv_web.specs.Work.{Work}
use Rattle.sv_web.specs.declared.page.Piece.{Piece}
use Rattle.sv_web.specs.declared.page.Piece.TheVariants.{Markup, Shown, Number, Price}

-- the hundredths of an amount in cents, after a point
abbrev pub price_digits : ℕ → List ℕ
price_digits cents = 46 ∷ (48 + cents / 10 % 10) ∷ (48 + cents % 10) ∷ []

-- an amount in cents
abbrev pub price : ℕ → List ℕ
price cents = decimal (cents / 100) ++ price_digits cents

-- what stands on the page for a piece
abbrev pub piece_html : Piece → List ℕ
piece_html (Markup text) = text.now
piece_html (Shown text) = escaped text.now
piece_html (Number number) = decimal number
piece_html (Price cents) = price cents

-- a page is sent
unfoldable pub sent : List ℕ → Work Next
sent page = html (written page Done)
