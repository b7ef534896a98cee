-- Which forms count. Each page that is shown has a number of its own, and a session remembers the last forms of such pages that
-- have counted.
use Rattle.std.specs.Prelude.{ℕ, ◌+◌, ◌&&◌, ◌==◌, Bool, true, false, List, [], ◌∷◌, ◌++◌, length, max, nat_lt, if◌then◌else◌}
use Rattle.std.specs.List.{fold, list_any}
use Rattle.example_cart.specs.declared.forms.Standing.{Standing}
use Rattle.example_cart.specs.declared.forms.Standing.TheVariants.{Counts, Repeated, TooOld}
use Rattle.example_cart.specs.declared.post.Change.{Change}
use Rattle.example_cart.specs.declared.post.Change.TheVariants.{Add, Put, Remove}
use Rattle.example_cart.specs.declared.post.Post.{Post}
use Rattle.example_cart.specs.Cart.{made}

-- the last forms that have counted, the oldest first, and below which age a form is too old
pub record Remembered : Type 0 where
  pub floor : ℕ
  pub posts : List Post

-- no form has counted
abbrev pub none_yet : Remembered
none_yet = record { floor = 0; posts = [] }

-- which kind of a change it is
abbrev pub kind : Change → ℕ
kind (Add more) = 0
kind (Put all) = 1
kind Remove = 2

-- how many it speaks of
abbrev pub amount : Change → ℕ
amount (Add more) = more
amount (Put all) = all
amount Remove = 0

-- two forms of one page ask for one change of one article
abbrev pub is_same : Post → Post → Bool
is_same p q =
    (p.mark.visit == q.mark.visit) && (p.mark.page == q.mark.page) && (p.article == q.article) && (kind p.change == kind q.change) &&
    (amount p.change == amount q.change)

-- the pages of a session are as old as their numbers tell, and a page of another session is older than all of them
abbrev pub age : ℕ → Post → ℕ
age visit p = if p.mark.visit == visit then p.mark.page + 1 else 0

abbrev pub has_counted : Remembered → Post → Bool
has_counted r p = list_any (is_same p) r.posts

abbrev pub standing_by : Bool → Bool → Standing
standing_by true counted = TooOld
standing_by false true = Repeated
standing_by false false = Counts

-- a form below the age that is remembered is too old; one that has counted is repeated; any other counts
abbrev pub standing : ℕ → Remembered → Post → Standing
standing visit r p = standing_by (nat_lt (age visit p) r.floor) (has_counted r p)

abbrev pub is_counting : Standing → Bool
is_counting Counts = true
is_counting Repeated = false
is_counting TooOld = false

-- one form less, and what is no newer than it is too old from then on
abbrev pub let_go : ℕ → ℕ → List Post → Remembered
let_go visit floor [] = record { floor = floor; posts = [] }
let_go visit floor (q ∷ qs) = record { floor = max floor (age visit q + 1); posts = qs }

-- 48 forms are remembered: the oldest gives way to one more
abbrev pub with_room : ℕ → Remembered → Remembered
with_room visit r = if nat_lt (length r.posts) 48 then r else let_go visit r.floor r.posts

abbrev pub with_post : Remembered → Post → Remembered
with_post r p = record { floor = r.floor; posts = r.posts ++ p ∷ [] }

abbrev pub remembered : ℕ → Remembered → Post → Remembered
remembered visit r p = with_post (with_room visit r) p

-- a cart, and the forms that have counted
pub record Basket : Type 0 where
  pub cart : List ℕ
  pub forms : Remembered

abbrev pub counts : ℕ → Basket → Post → Bool
counts visit b p = is_counting (standing visit b.forms p)

-- the change of a form is made, and it is remembered
abbrev pub counted : ℕ → Basket → Post → Basket
counted visit b p = record { cart = made b.cart p; forms = remembered visit b.forms p }

-- a form that counts does so; any other changes nothing
abbrev pub posted : ℕ → Basket → Post → Basket
posted visit b p = if counts visit b p then counted visit b p else b

-- the cart and its forms after a list of forms
abbrev pub after : ℕ → Basket → List Post → Basket
after visit b posts = fold (posted visit) b posts

-- those of the forms that count, one after the other
abbrev pub counting : ℕ → Basket → List Post → List Post
counting visit b [] = []
counting visit b (p ∷ ps) = if counts visit b p then p ∷ counting visit (counted visit b p) ps else counting visit b ps
