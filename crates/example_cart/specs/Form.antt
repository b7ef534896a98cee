-- Forms by the texts of their fields.
use Rattle.std.specs.Prelude.{ℕ, ◌&&◌, List, bytes_eq, codes, nat_le, Option, Some, None, option_and_then, if◌then◌else◌}
use Rattle.sv_web.specs.Numeral.{number_in}
use Rattle.example_cart.specs.declared.form.Sent.{Sent}
use Rattle.example_cart.specs.declared.form.Sent.TheVariants.{Asks, Wrong, NotOurs}
use Rattle.example_cart.specs.declared.post.Change.{Change}
use Rattle.example_cart.specs.declared.post.Change.TheVariants.{Add, Put, Remove}
use Rattle.example_cart.specs.declared.post.Mark.{Mark}
use Rattle.example_cart.specs.declared.rows.Listing.TheVariants.{Offers, Lines}

abbrev pub between : ℕ → ℕ → ℕ → Option ℕ
between least most n = if nat_le least n && nat_le n most then Some n else None

-- the number, where it is one from the least to the most
abbrev pub number_between : ℕ → ℕ → List ℕ → Option ℕ
number_between least most text = option_and_then (between least most) (number_in 64 text)

abbrev pub post : Mark → ℕ → Change → Sent
post mark article change = Asks (record { mark = mark; article = article; change = change })

-- from 1 to 99 more, by the form of the catalogue
abbrev pub sent_add : Mark → ℕ → Option ℕ → Sent
sent_add mark article None = Wrong Offers article
sent_add mark article (Some more) = post mark article (Add more)

-- from 0 to 99 in all, by the form of the cart
abbrev pub sent_put : Mark → ℕ → Option ℕ → Sent
sent_put mark article None = Wrong Lines article
sent_put mark article (Some all) = post mark article (Put all)

-- a word, and how many
abbrev pub sent_of : Mark → ℕ → List ℕ → List ℕ → Sent
sent_of mark article word quantity =
    if bytes_eq word (codes "add") then sent_add mark article (number_between 1 99 quantity)
    else if bytes_eq word (codes "change") then sent_put mark article (number_between 0 99 quantity)
    else if bytes_eq word (codes "remove") then post mark article Remove
    else NotOurs

abbrev pub sent_by : Option ℕ → Option ℕ → Option ℕ → List ℕ → List ℕ → Sent
sent_by (Some article) (Some visit) (Some page) word quantity = sent_of (record { visit = visit; page = page }) article word quantity
sent_by (Some article) (Some visit) None word quantity = NotOurs
sent_by (Some article) None page word quantity = NotOurs
sent_by None visit page word quantity = NotOurs

-- the article's number, those of the page, what is asked for, and how many
abbrev pub sent_in : List ℕ → List ℕ → List ℕ → List ℕ → List ℕ → Sent
sent_in article visit page word quantity =
    sent_by (number_between 0 9 article) (number_in 64 visit) (number_between 0 4294967295 page) word quantity
