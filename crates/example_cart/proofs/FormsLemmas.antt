-- Which forms count.
use Rattle.std.proofs.Common.{◌≡◌, ◌⊎◌, refl, sym, ap, ◌∙◌, subst, inl, inr, ℕ, suc, ◌+◌, ◌<◌, ◌≤◌, Bool, true, false, cond, List, [], ◌∷◌, ◌++◌, length, All, arith}
use Rattle.std.specs.Prelude.{⊤, ◌||◌, ◌==◌, nat_lt}
use Rattle.std.specs.List.{fold, list_any}
use Rattle.std.proofs.lemmas.Bool.{and_from, and_parts, cond-true, eq-eqb, eqb-true, le-ltb, lt-ltb, or_from, or_left}
use Rattle.std.proofs.lemmas.List.Elements.{All-head, All-tail}
use Rattle.std.proofs.lemmas.List.Folds.{list_any-append}
use Rattle.example_cart.specs.declared.post.Post.{Post}
use Rattle.example_cart.specs.Forms.{Basket, Remembered, after, age, amount, counted, counting, counts, has_counted, is_counting, is_same, kind, let_go, none_yet, posted, remembered, standing_by, with_post, with_room}

-- ---- a form is the same as itself, and the same forms are of one age

same_self : (p : Post) → is_same p p ≡ true
same_self p =
    and_from _ _ (and_from _ _ (and_from _ _ (and_from _ _ (eq-eqb p.mark.visit p.mark.visit refl) (eq-eqb p.mark.page p.mark.page refl)) (eq-eqb p.article p.article refl)) (eq-eqb (kind p.change) (kind p.change) refl)) (eq-eqb (amount p.change) (amount p.change) refl)

same_age : (visit : ℕ) (p q : Post) → is_same p q ≡ true → age visit p ≡ age visit q
same_age visit p q same =
    let numbers = (and_parts _ _ (and_parts _ _ (and_parts _ _ (and_parts _ _ same).0).0).0) in
    let visits : p.mark.visit ≡ q.mark.visit = eqb-true p.mark.visit q.mark.visit numbers.0 in
    let pages : p.mark.page ≡ q.mark.page = eqb-true p.mark.page q.mark.page numbers.1 in
    ap (λ (v : ℕ). cond (v == visit) (p.mark.page + 1) 0) visits ∙ ap (λ (n : ℕ). cond (q.mark.visit == visit) (n + 1) 0) pages

-- ---- a form that has counted

module _ (visit : ℕ) (p : Post) where
  -- it is remembered, or too old
  abbrev IsPast : Remembered → Type 0
  IsPast r = (list_any (is_same p) r.posts ≡ true) ⊎ (age visit p < r.floor)

  not_by : (old has : Bool) → (has ≡ true) ⊎ (old ≡ true) → is_counting (standing_by old has) ≡ false
  not_by true has past = refl
  not_by false true past = refl
  not_by false false (inl past) = absurd (cc)
  not_by false false (inr past) = absurd (cc)

  past_not : (b : Basket) → IsPast b.forms → counts visit b p ≡ false
  past_not b (inl among) = not_by (nat_lt (age visit p) b.forms.floor) (has_counted b.forms p) (inl among)
  past_not b (inr below) = not_by (nat_lt (age visit p) b.forms.floor) (has_counted b.forms p) (inr (lt-ltb (age visit p) b.forms.floor below))

  go_by : (floor : ℕ) (q : Post) (qs : List Post) (same : Bool) → is_same p q ≡ same → (same || list_any (is_same p) qs) ≡ true → IsPast (let_go visit floor (q ∷ qs))
  go_by floor q qs true is among =
      let ages : age visit p ≡ age visit q = same_age visit p q is in
      inr (omega (arith, ages))
  go_by floor q qs false is among = inl among

  go_keeps : (floor : ℕ) (posts : List Post) → (list_any (is_same p) posts ≡ true) ⊎ (age visit p < floor) → IsPast (let_go visit floor posts)
  go_keeps floor [] (inl among) = absurd (cc)
  go_keeps floor [] (inr below) = inr below
  go_keeps floor (q ∷ qs) (inl among) = go_by floor q qs (is_same p q) refl among
  go_keeps floor (q ∷ qs) (inr below) = inr (omega (arith, below))

  room_by : (b : Bool) (r : Remembered) → IsPast r → IsPast (cond b r (let_go visit r.floor r.posts))
  room_by true r past = past
  room_by false r past = go_keeps r.floor r.posts past

  room_keeps : (r : Remembered) → IsPast r → IsPast (with_room visit r)
  room_keeps r past = room_by (nat_lt (length r.posts) 48) r past

  one_keeps : (r : Remembered) (q : Post) → IsPast r → IsPast (with_post r q)
  one_keeps r q (inl among) = inl (list_any-append (is_same p) r.posts (q ∷ []) ∙ or_left _ _ among)
  one_keeps r q (inr below) = inr below

  keeps : (r : Remembered) (q : Post) → IsPast r → IsPast (remembered visit r q)
  keeps r q past = one_keeps (with_room visit r) q (room_keeps r past)

  or_last : (x y : Bool) → y ≡ true → (x || y) ≡ true
  or_last true y is = refl
  or_last false y is = is

  begins : (r : Remembered) → IsPast (remembered visit r p)
  begins r =
      let posts = (with_room visit r).posts in
      inl (list_any-append (is_same p) posts (p ∷ []) ∙ or_last (list_any (is_same p) posts) _ (or_left _ _ (same_self p)))

  either : (test : Bool) (x y : Basket) → IsPast x.forms → IsPast y.forms → IsPast (cond test x y).forms
  either true x y px py = px
  either false x y px py = py

  stays : (b : Basket) (q : Post) → IsPast b.forms → IsPast (posted visit b q).forms
  stays b q past = either (counts visit b q) (counted visit b q) b (keeps b.forms q past) past

  stays_after : (between : List Post) (b : Basket) → IsPast b.forms → IsPast (after visit b between).forms
  stays_after [] b past = past
  stays_after (q ∷ qs) b past = stays_after qs (posted visit b q) (stays b q past)

  begun : (test : Bool) (b : Basket) → test ≡ true → IsPast (cond test (counted visit b p) b).forms
  begun true b is = begins b.forms
  begun false b is = absurd (cc)

  -- it never counts again
  pub counts_once : (b : Basket) (between : List Post) → counts visit b p ≡ true → counts visit (after visit (posted visit b p) between) p ≡ false
  counts_once b between is =
      past_not (after visit (posted visit b p) between) (stays_after between (posted visit b p) (begun (counts visit b p) b is))

  -- ---- a form that was never sent

  counts_by : (old has : Bool) → old ≡ false → has ≡ false → is_counting (standing_by old has) ≡ true
  counts_by false false a b = refl
  counts_by true has a b = absurd (cc)
  counts_by false true a b = absurd (cc)

  -- forms of pages that are older
  abbrev IsOlder : Post → Type 0
  IsOlder q = age visit q < age visit p

  abbrev AllOlder : List Post → Type 0
  AllOlder [] = ⊤
  AllOlder (q ∷ qs) = IsOlder q × AllOlder qs

  older_all : (qs : List Post) → All IsOlder qs → AllOlder qs
  older_all [] all = tt
  older_all (q ∷ qs) all = (All-head IsOlder q qs all, older_all qs (All-tail IsOlder q qs all))

  older_push : (qs : List Post) (q : Post) → AllOlder qs → IsOlder q → AllOlder (qs ++ q ∷ [])
  older_push [] q all one = (one, tt)
  older_push (x ∷ xs) q all one = (all.0, older_push xs q all.1 one)

  other_by : (q : Post) (same : Bool) → is_same p q ≡ same → IsOlder q → same ≡ false
  other_by q true is older = let ages : age visit p ≡ age visit q = same_age visit p q is in absurd (omega (arith, ages, older))
  other_by q false is older = refl

  none_same : (qs : List Post) → AllOlder qs → list_any (is_same p) qs ≡ false
  none_same [] all = refl
  none_same (q ∷ qs) all = or_from _ _ (other_by q (is_same p q) refl all.0) (none_same qs all.1)

  abbrev IsAfter : Remembered → Type 0
  IsAfter r = (r.floor ≤ age visit p) × AllOlder r.posts

  after_go : (floor : ℕ) (posts : List Post) → floor ≤ age visit p → AllOlder posts → IsAfter (let_go visit floor posts)
  after_go floor [] low all = (low, tt)
  after_go floor (q ∷ qs) low all = let older : age visit q < age visit p = all.0 in (omega (arith, low, older), all.1)

  after_room : (b : Bool) (r : Remembered) → IsAfter r → IsAfter (cond b r (let_go visit r.floor r.posts))
  after_room true r is = is
  after_room false r is = after_go r.floor r.posts is.0 is.1

  after_one : (r : Remembered) (q : Post) → IsAfter r → IsOlder q → IsAfter (remembered visit r q)
  after_one r q is older =
      let room : IsAfter (with_room visit r) = after_room (nat_lt (length r.posts) 48) r is in
      (room.0, older_push (with_room visit r).posts q room.1 older)

  after_either : (test : Bool) (x y : Basket) → IsAfter x.forms → IsAfter y.forms → IsAfter (cond test x y).forms
  after_either true x y px py = px
  after_either false x y px py = py

  after_all : (qs : List Post) (b : Basket) → IsAfter b.forms → AllOlder qs → IsAfter (after visit b qs).forms
  after_all [] b is all = is
  after_all (q ∷ qs) b is all = after_all qs (posted visit b q) (after_either (counts visit b q) (counted visit b q) b (after_one b.forms q is all.0) is) all.1

  -- a form of a page that is newer than those of all forms so far counts
  pub newer_counts : (cart : List ℕ) (qs : List Post) → All IsOlder qs → counts visit (after visit (record { cart = cart; forms = none_yet }) qs) p ≡ true
  newer_counts cart qs all =
      let start : Basket = record { cart = cart; forms = none_yet } in
      let ends = after_all qs start (omega arith, tt) (older_all qs all) in
      let forms = (after visit start qs).forms in
      counts_by (nat_lt (age visit p) forms.floor) (has_counted forms p) (le-ltb (age visit p) forms.floor ends.0) (none_same forms.posts ends.1)

  -- no form is the same, and there is room for so many more
  abbrev HasRoom : ℕ → Remembered → Type 0
  HasRoom more r = (r.floor ≡ 0) × ((length r.posts + more ≤ 48) × (list_any (is_same p) r.posts ≡ false))

  room_left : (more : ℕ) (r : Remembered) → HasRoom (suc more) r → with_room visit r ≡ r
  room_left more r is =
      let small : length r.posts + suc more ≤ 48 = is.1.0 in
      cond-true (nat_lt (length r.posts) 48) r (let_go visit r.floor r.posts) (lt-ltb (length r.posts) 48 (omega (arith, small)))

  length_push : (qs : List Post) (q : Post) → length (qs ++ q ∷ []) ≡ length qs + 1
  length_push [] q = refl
  length_push (x ∷ xs) q = let more = length_push xs q in omega (arith, more)

  room_one : (more : ℕ) (r : Remembered) (q : Post) → HasRoom (suc more) r → is_same p q ≡ false → HasRoom more (remembered visit r q)
  room_one more r q is other =
      let small : length r.posts + suc more ≤ 48 = is.1.0 in
      let longer : length (r.posts ++ q ∷ []) ≡ length r.posts + 1 = length_push r.posts q in
      subst (λ (s : Remembered). HasRoom more (with_post s q)) (sym (room_left more r is))
      (is.0, (omega (arith, small, longer), list_any-append (is_same p) r.posts (q ∷ []) ∙ or_from _ _ is.1.1 (or_from _ _ other refl)))

  room_fewer : (more : ℕ) (r : Remembered) → HasRoom (suc more) r → HasRoom more r
  room_fewer more r is = let small : length r.posts + suc more ≤ 48 = is.1.0 in (is.0, (omega (arith, small), is.1.1))

  room_either : (more : ℕ) (test : Bool) (x y : Basket) → HasRoom more x.forms → HasRoom more y.forms → HasRoom more (cond test x y).forms
  room_either more true x y px py = px
  room_either more false x y px py = py

  or_parts : (x y : Bool) → (x || y) ≡ false → (x ≡ false) × (y ≡ false)
  or_parts true y is = absurd (cc)
  or_parts false y is = (refl, is)

  room_after : (qs : List Post) (b : Basket) → HasRoom (length qs) b.forms → list_any (is_same p) qs ≡ false → HasRoom 0 (after visit b qs).forms
  room_after [] b is none = is
  room_after (q ∷ qs) b is none =
      let others = or_parts (is_same p q) (list_any (is_same p) qs) none in
      room_after qs (posted visit b q)
      (room_either (length qs) (counts visit b q) (counted visit b q) b (room_one (length qs) b.forms q is others.0) (room_fewer (length qs) b.forms is)) others.1

  -- a form that is none of 48 forms counts
  pub unseen_counts : (cart : List ℕ) (qs : List Post) → length qs ≤ 48 → list_any (is_same p) qs ≡ false → counts visit (after visit (record { cart = cart; forms = none_yet }) qs) p ≡ true
  unseen_counts cart qs few none =
      let start : Basket = record { cart = cart; forms = none_yet } in
      let ends = room_after qs start (refl, (omega (arith, few), refl)) none in
      let forms = (after visit start qs).forms in
      let low : forms.floor ≤ age visit p = let zero : forms.floor ≡ 0 = ends.0 in omega (arith, zero) in
      counts_by (nat_lt (age visit p) forms.floor) (has_counted forms p) (le-ltb (age visit p) forms.floor low) ends.1.1

-- ---- the forms that count

module _ (visit : ℕ) where
  with_test : (test : Bool) (b : Basket) (p : Post) (ps : List Post)
      → ((c : Basket) → after visit c ps ≡ fold (counted visit) c (counting visit c ps))
      → after visit (cond test (counted visit b p) b) ps ≡ fold (counted visit) b (cond test (p ∷ counting visit (counted visit b p) ps) (counting visit b ps))
  with_test true b p ps so = so (counted visit b p)
  with_test false b p ps so = so b

  -- the others make nothing of a cart
  pub those_that_count : (posts : List Post) (b : Basket) → after visit b posts ≡ fold (counted visit) b (counting visit b posts)
  those_that_count [] b = refl
  those_that_count (p ∷ ps) b = with_test (counts visit b p) b p ps (those_that_count ps)
