-- Carts, orders, forms and visits that are kept as bytes.
use Rattle.std.proofs.Common.{◌≡◌, refl, sym, ap, ◌∙◌, true, ℕ, suc, ◌+◌, ◌-◌, ◌*◌, ◌/◌, ◌%◌, ◌^◌, ◌<◌, ◌≤◌, List, [], ◌∷◌, ◌++◌, length, drop, Some, All, arith, append_assoc}
use Rattle.std.specs.Prelude.{◌==◌, nat_le}
use Rattle.std.specs.Int.{w32, w64, from_be_bytes, to_be_bytes}
use Rattle.std.specs.List.{flat_map}
use Rattle.std.proofs.lemmas.Bool.{cond-true, eq-eqb, le-leb}
use Rattle.std.proofs.lemmas.List.{append-nil, drop-drop, length-append}
use Rattle.std.proofs.lemmas.List.Elements.{All-head, All-tail}
use Rattle.std.proofs.lemmas.Nat.{from_be_bytes-to_be_bytes_4, from_be_bytes-to_be_bytes_8}
use Rattle.example_cart.specs.declared.order.Order.{Order}
use Rattle.example_cart.specs.declared.post.Change.{Change}
use Rattle.example_cart.specs.declared.post.Change.TheVariants.{Add, Put, Remove}
use Rattle.example_cart.specs.declared.post.Post.{Post}
use Rattle.example_cart.specs.declared.visit.Visit.{Visit}
use Rattle.example_cart.specs.Cart.{new_cart}
use Rattle.example_cart.specs.Forms.{Remembered, amount, kind, none_yet}
use Rattle.example_cart.specs.Kept.{IsSmall, cart_in, change_of, forms_in, kept_forms, kept_visit, post_at, post_bytes, posts_in, visit_in}
use Rattle.example_cart.specs.Order.{kept_order, order_in}

-- ---- one form after the other

next_post : (bs : List ℕ) (count at : ℕ) → at < count → posts_in (count - at) (drop (at * 15) bs) ≡ post_at (drop (at * 15) bs) ∷ posts_in (count - (at + 1)) (drop ((at + 1) * 15) bs)
unfolding posts_in
next_post bs count at within =
    let left : count - at ≡ suc (count - (at + 1)) = omega arith in
    let place : at * 15 + 15 ≡ (at + 1) * 15 = omega arith in
    ap (λ n. posts_in n (drop (at * 15) bs)) left
    ∙ ap (λ r. post_at (drop (at * 15) bs) ∷ posts_in (count - (at + 1)) r) (drop-drop 15 (at * 15) bs ∙ ap (λ n. drop n bs) place)

pub one_more : (posts new : List Post) (p : Post) (bs : List ℕ) (count at : ℕ) (all : List Post) → new ≡ posts ++ p ∷ [] → p ≡ post_at (drop (at * 15) bs) → at < count
    → posts ++ posts_in (count - at) (drop (at * 15) bs) ≡ all → new ++ posts_in (count - (at + 1)) (drop ((at + 1) * 15) bs) ≡ all
one_more posts new p bs count at all is post_is within so_far =
    let rest = posts_in (count - (at + 1)) (drop ((at + 1) * 15) bs) in
    ap (λ n. n ++ rest) is
    ∙ append_assoc posts (p ∷ []) rest
    ∙ ap (λ q. posts ++ q ∷ rest) post_is
    ∙ ap (λ r. posts ++ r) (sym (next_post bs count at within))
    ∙ so_far

pub all_posts : (posts : List Post) (bs : List ℕ) (count at : ℕ) (all : List Post) → count ≤ at → posts ++ posts_in (count - at) (drop (at * 15) bs) ≡ all → posts ≡ all
unfolding posts_in
all_posts posts bs count at all over so_far =
    let none : count - at ≡ 0 = omega arith in
    sym (append-nil posts) ∙ ap (λ n. posts ++ posts_in n (drop (at * 15) bs)) (sym none) ∙ so_far

-- ---- reading what was kept

-- a cart of ten quantities
pub cart_read : (cart : List ℕ) → length cart ≡ 10 → cart_in (Some cart) ≡ cart
cart_read cart ten = cond-true (length cart == 10) cart new_cart (eq-eqb (length cart) 10 ten)

two_bytes : (n : ℕ) → n / 256 * 256 + n % 256 ≡ n
two_bytes n = omega arith

-- an order of ten quantities
pub order_read : (order : Order) → length order.cart ≡ 10 → order_in (Some (kept_order order)) ≡ order
order_read order ten =
    ap (λ (n : ℕ). let o : Order = record { number = n; cart = cart_in (Some order.cart) } in o) (two_bytes order.number)
    ∙ ap (λ (c : List ℕ). let o : Order = record { number = order.number; cart = c } in o) (cart_read order.cart ten)

change_read : (c : Change) → change_of (kind c) (amount c) ≡ c
change_read (Add more) = refl
change_read (Put all) = refl
change_read Remove = refl

post_read : (p : Post) (rest : List ℕ) → IsSmall p → post_at (post_bytes p ++ rest) ≡ p
post_read p rest small =
    ap (λ (n : ℕ). let q : Post = record { mark = record { visit = n; page = from_be_bytes w32 (to_be_bytes w32 p.mark.page) }; article = p.article; change = change_of (kind p.change) (amount p.change) } in q) (from_be_bytes-to_be_bytes_8 p.mark.visit small.visit)
    ∙ ap (λ (n : ℕ). let q : Post = record { mark = record { visit = p.mark.visit; page = n }; article = p.article; change = change_of (kind p.change) (amount p.change) } in q) (from_be_bytes-to_be_bytes_4 p.mark.page small.page)
    ∙ ap (λ (c : Change). let q : Post = record { mark = p.mark; article = p.article; change = c } in q) (change_read p.change)

posts_read : (ps : List Post) → All IsSmall ps → posts_in (length ps) (flat_map post_bytes ps) ≡ ps
unfolding posts_in
posts_read [] small = refl
posts_read (p ∷ ps) small =
    ap (λ (q : Post). q ∷ posts_in (length ps) (flat_map post_bytes ps)) (post_read p (flat_map post_bytes ps) (All-head IsSmall p ps small))
    ∙ ap (λ r. p ∷ r) (posts_read ps (All-tail IsSmall p ps small))

posts_length : (ps : List Post) → length (flat_map post_bytes ps) ≡ 15 * length ps
posts_length [] = refl
posts_length (p ∷ ps) = let more = posts_length ps in omega (arith, more)

-- forms with numbers of their widths
pub forms_read : (r : Remembered) → r.floor < 2 ^ 64 → All IsSmall r.posts → forms_in (Some (kept_forms r)) ≡ r
unfolding kept_forms
forms_read r low small =
    let bytes = to_be_bytes w64 r.floor ++ flat_map post_bytes r.posts in
    let eight : length (to_be_bytes w64 r.floor) ≡ 8 = refl in
    let long : length bytes ≡ length (to_be_bytes w64 r.floor) + length (flat_map post_bytes r.posts) = length-append (to_be_bytes w64 r.floor) (flat_map post_bytes r.posts) in
    let many : (length bytes - 8) / 15 ≡ length r.posts = let each = posts_length r.posts in omega (arith, long, eight, each) in
    let enough : nat_le 8 (length bytes) ≡ true = le-leb 8 (length bytes) (omega (arith, long, eight)) in
    cond-true (nat_le 8 (length bytes)) (record { floor = from_be_bytes w64 bytes; posts = posts_in ((length bytes - 8) / 15) (drop 8 bytes) }) none_yet enough
    ∙ ap (λ (n : ℕ). let s : Remembered = record { floor = n; posts = posts_in ((length bytes - 8) / 15) (flat_map post_bytes r.posts) } in s) (from_be_bytes-to_be_bytes_8 r.floor low)
    ∙ ap (λ (n : ℕ). let s : Remembered = record { floor = r.floor; posts = posts_in n (flat_map post_bytes r.posts) } in s) many
    ∙ ap (λ (ps : List Post). let s : Remembered = record { floor = r.floor; posts = ps } in s) (posts_read r.posts small)

-- a visit with numbers of their widths
pub visit_read : (v : Visit) (node : ℕ) → v.page < 2 ^ 32 → v.moves < 2 ^ 32 → visit_in node (Some (kept_visit v)) ≡ v
visit_read v node page moves =
    ap (λ (n : ℕ). let w : Visit = record { page = n; node = v.node; moves = from_be_bytes w32 (to_be_bytes w32 v.moves) } in w) (from_be_bytes-to_be_bytes_4 v.page page)
    ∙ ap (λ (n : ℕ). let w : Visit = record { page = v.page; node = v.node; moves = n } in w) (from_be_bytes-to_be_bytes_4 v.moves moves)
