-- A cart, and what a change makes of it.
use Rattle.std.specs.Prelude.{ℕ, ◌+◌, ◌*◌, ◌==◌, Bool, List, min, replicate, slice_get, slice_set, Option, Some, None, sum, unwrap_or}
use Rattle.std.specs.List.{list_all, sum_by, zip}
use Rattle.example_cart.specs.declared.article.Article.{Article}
use Rattle.example_cart.specs.declared.post.Change.{Change}
use Rattle.example_cart.specs.declared.post.Change.TheVariants.{Add, Put, Remove}
use Rattle.example_cart.specs.declared.post.Post.{Post}

-- nothing of ten articles
abbrev pub new_cart : List ℕ
new_cart = replicate 10 0

-- so many more, so many, or none; never more than 99
abbrev pub changed_quantity : ℕ → Change → ℕ
changed_quantity quantity (Add more) = min (quantity + more) 99
changed_quantity quantity (Put all) = min all 99
changed_quantity quantity Remove = 0

-- how many of an article are in it
abbrev pub quantity : List ℕ → ℕ → ℕ
quantity cart article = unwrap_or (slice_get cart article) 0

-- the cart with the change made of an article's quantity, if the shop has the article
abbrev pub changed_at : Option ℕ → List ℕ → Post → List ℕ
changed_at None cart p = cart
changed_at (Some quantity) cart p = slice_set cart p.article (changed_quantity quantity p.change)

-- the cart with the change of a form made
abbrev pub made : List ℕ → Post → List ℕ
made cart p = changed_at (slice_get cart p.article) cart p

-- what so many of an article cost
abbrev pub cost : Article × ℕ → ℕ
cost p = p.0.price * p.1

-- the sum over the articles, in cents
abbrev pub total : List Article → List ℕ → ℕ
total articles cart = sum_by cost (zip articles cart)

-- how many articles are in it
abbrev pub count : List ℕ → ℕ
count cart = sum cart

-- nothing is in it
abbrev pub is_empty : List ℕ → Bool
is_empty cart = list_all (λ quantity. quantity == 0) cart
