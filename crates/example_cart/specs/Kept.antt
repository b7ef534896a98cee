-- A cart, its forms and a visit as the bytes of attributes. All numbers are big-endian.
use Rattle.std.specs.Prelude.{ℕ, zero, suc, ◌-◌, ◌/◌, ◌^◌, ◌<◌, ◌==◌, List, [], ◌∷◌, ◌++◌, drop, length, nat_le, Option, Some, None, slice_index, if◌then◌else◌}
use Rattle.std.specs.Int.{w32, w64, from_be_bytes, to_be_bytes}
use Rattle.std.specs.List.{flat_map}
use Rattle.example_cart.specs.declared.post.Change.{Change}
use Rattle.example_cart.specs.declared.post.Change.TheVariants.{Add, Put, Remove}
use Rattle.example_cart.specs.declared.post.Post.{Post}
use Rattle.example_cart.specs.declared.visit.Visit.{Visit}
use Rattle.example_cart.specs.Cart.{new_cart}
use Rattle.example_cart.specs.Forms.{Remembered, amount, kind, none_yet}

-- the cart of ten bytes, a quantity each; nothing is in it where there are none
abbrev pub cart_in : Option (List ℕ) → List ℕ
cart_in None = new_cart
cart_in (Some bytes) = if length bytes == 10 then bytes else new_cart

-- fifteen bytes: the two numbers of the page, the article, and the change as its kind and how many it speaks of
abbrev pub post_bytes : Post → List ℕ
post_bytes p = to_be_bytes w64 p.mark.visit ++ to_be_bytes w32 p.mark.page ++ p.article ∷ kind p.change ∷ amount p.change ∷ []

-- eight bytes of the age, and those of each form in turn
unfoldable pub kept_forms : Remembered → List ℕ
kept_forms r = to_be_bytes w64 r.floor ++ flat_map post_bytes r.posts

abbrev pub change_of : ℕ → ℕ → Change
change_of kind amount = if kind == 0 then Add amount else if kind == 1 then Put amount else Remove

-- a form whose numbers have the widths of those of a page
pub record IsSmall (p : Post) : Type 0 where
  pub visit : p.mark.visit < 2 ^ 64
  pub page : p.mark.page < 2 ^ 32

-- the form that these bytes begin with
abbrev pub post_at : List ℕ → Post
post_at bytes =
    record {
      mark = record { visit = from_be_bytes w64 bytes; page = from_be_bytes w32 (drop 8 bytes) };
      article = slice_index bytes 12;
      change = change_of (slice_index bytes 13) (slice_index bytes 14);
    }

-- so many forms, one after the other
unfoldable pub posts_in : ℕ → List ℕ → List Post
posts_in zero bytes = []
posts_in (suc more) bytes = post_at bytes ∷ posts_in more (drop 15 bytes)

-- the forms of these bytes; none where they are none of forms
abbrev pub forms_in : Option (List ℕ) → Remembered
forms_in None = none_yet
forms_in (Some bytes) =
    if nat_le 8 (length bytes) then record { floor = from_be_bytes w64 bytes; posts = posts_in ((length bytes - 8) / 15) (drop 8 bytes) } else none_yet

-- nine bytes: the number of the page, the node, and the moves
abbrev pub kept_visit : Visit → List ℕ
kept_visit v = to_be_bytes w32 v.page ++ v.node ∷ to_be_bytes w32 v.moves

-- a visit that begins at a node
abbrev pub new_visit : ℕ → Visit
new_visit node = record { page = 0; node = node; moves = 0 }

-- the visit of nine bytes; one that begins at this node where there are none
abbrev pub visit_in : ℕ → Option (List ℕ) → Visit
visit_in node None = new_visit node
visit_in node (Some bytes) =
    if length bytes == 9
    then record { page = from_be_bytes w32 bytes; node = slice_index bytes 4; moves = from_be_bytes w32 (drop 5 bytes) }
    else new_visit node
