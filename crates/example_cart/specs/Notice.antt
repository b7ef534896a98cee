-- What a shopper is told of the last form.
use Rattle.std.specs.Prelude.{ℕ, ◌+◌, ◌==◌, Bool, false, List, [], ◌∷◌, length, nat_lt, Option, Some, None, slice_index, if◌then◌else◌}
use Rattle.example_cart.specs.declared.forms.Standing.{Standing}
use Rattle.example_cart.specs.declared.forms.Standing.TheVariants.{Counts, Repeated, TooOld}
use Rattle.example_cart.specs.declared.notice.Notice.{Notice}
use Rattle.example_cart.specs.declared.notice.Said.{Said}
use Rattle.example_cart.specs.declared.notice.Said.TheVariants.{Added, Full, Changed, Again, Outdated, NotOrdered}
use Rattle.example_cart.specs.declared.post.Change.{Change}
use Rattle.example_cart.specs.declared.post.Change.TheVariants.{Add, Put, Remove}
use Rattle.example_cart.specs.declared.post.Post.{Post}
use Rattle.example_cart.specs.Forms.{amount}

-- of a change that is made, from so many before
abbrev pub said_of : ℕ → Change → Said
said_of before (Add more) = if nat_lt 99 (before + more) then Full else Added
said_of before (Put all) = Changed
said_of before Remove = Changed

-- of a form, by how it stands
abbrev pub said : Standing → ℕ → Change → Said
said Counts before change = said_of before change
said Repeated before change = Again
said TooOld before change = Outdated

abbrev pub noticed : Standing → ℕ → Post → Bool → Notice
noticed standing before p is_new =
    record { said = said standing before p.change; article = p.article; quantity = amount p.change; is_new = is_new }

-- of an order's form that orders nothing; it is of no article
abbrev pub not_ordered : Notice
not_ordered = record { said = NotOrdered; article = 255; quantity = 0; is_new = false }

abbrev pub code : Said → ℕ
code Added = 0
code Full = 1
code Changed = 2
code Again = 3
code Outdated = 4
code NotOrdered = 5

abbrev pub said_in : ℕ → Said
said_in n = if n == 0 then Added else if n == 1 then Full else if n == 2 then Changed else if n == 3 then Again else if n == 4 then Outdated else NotOrdered

abbrev pub flag : Bool → ℕ
flag is = if is then 1 else 0

-- four bytes
abbrev pub kept_notice : Notice → List ℕ
kept_notice n = code n.said ∷ n.article ∷ n.quantity ∷ flag n.is_new ∷ []

-- the notice of four bytes; none where there are none
abbrev pub notice_in : Option (List ℕ) → Option Notice
notice_in None = None
notice_in (Some bytes) =
    if length bytes == 4
    then Some (record {
      said = said_in (slice_index bytes 0);
      article = slice_index bytes 1;
      quantity = slice_index bytes 2;
      is_new = slice_index bytes 3 == 1;
    })
    else None
