-- Loops that change the elements of a list one by one.
use Rattle.sv_container.proofs.Prelude.{◌≡◌, ◌≢◌, ℕ, ◌<◌, ◌≤◌, ◌+◌, ◌-◌, suc, List, [], ◌∷◌, length, length-set, get_or, set, map, arith, ◌∙◌, refl, ⊎_elim}
use Rattle.sv_container.proofs.Prelude.{subst, get_or-set_same, get_or-set_other, cases_eq, slice_get-get_or, Pairwise}

-- an element that is there doesn't hang on the default
there : {X : Type 0} (xs : List X) (i : ℕ) (c d : X) → i < length xs → get_or xs i c ≡ get_or xs i d
there xs i c d h =
    let a = slice_get-get_or xs i c h in
    let b = slice_get-get_or xs i d h in
    cc

-- where a loop from the front stands: the elements below a place are changed, the others are as they were
pub record Changed {X : Type 0} (R : X → X → Type 0) (xs ys : List X) (i : ℕ) : Type 0 where
  pub long : length ys ≡ length xs
  pub done : (k : ℕ) (d : X) → k < i → R (get_or xs k d) (get_or ys k d)
  pub rest : (k : ℕ) (d : X) → i ≤ k → k < length xs → get_or ys k d ≡ get_or xs k d

-- and one from the back: those from a place on are changed
pub record ChangedBehind {X : Type 0} (R : X → X → Type 0) (xs ys : List X) (i : ℕ) : Type 0 where
  pub within : i ≤ length xs
  pub long : length ys ≡ length xs
  pub done : (k : ℕ) (d : X) → i ≤ k → k < length xs → R (get_or xs k d) (get_or ys k d)
  pub rest : (k : ℕ) (d : X) → k < i → get_or ys k d ≡ get_or xs k d

module _ {X : Type 0} (R : X → X → Type 0) (xs ys : List X) where
  -- the element at a place is as it was
  pub old_there : (i : ℕ) (n d : X) → i < length xs → n ≡ get_or ys i n → Changed R xs ys i → n ≡ get_or xs i d
  old_there i n d h e c =
      let m : i < length ys = rw c.long h in
      e ∙ (there ys i n d m ∙ c.rest i d (omega arith) h)

  pub old_there_behind : (i : ℕ) (n d : X) → i < length xs → n ≡ get_or ys i n → ChangedBehind R xs ys (i + 1) → n ≡ get_or xs i d
  old_there_behind i n d h e c =
      let m : i < length ys = rw c.long h in
      e ∙ (there ys i n d m ∙ c.rest i d (omega arith))

  pub one_more : (i : ℕ) (m n : X) → i < length xs → n ≡ get_or ys i n → R n m → Changed R xs ys i → Changed R xs (set ys i m) (i + 1)
  one_more i m n h e r c =
      let within : i < length ys = rw c.long h in
      record {
        long = length-set _ _ _ ∙ c.long;
        done = λ k d l. ⊎_elim
            (λ (q : k ≡ i). rw (q, get_or-set_same ys i m d within) (subst (λ (o : X). R o m) (old_there i n d h e c) r))
            (λ (q : k ≢ i). rw (get_or-set_other ys i k m d q) (let b : k < i = omega (arith, q, l) in c.done k d b))
            (cases_eq k i);
        rest = λ k d a b. let other : k ≢ i = λ q. omega (arith, q, a) in get_or-set_other ys i k m d other ∙ c.rest k d (omega (arith, a)) b;
      }

  pub one_more_behind : (i : ℕ) (m n : X) → i < length xs → n ≡ get_or ys i n → R n m → ChangedBehind R xs ys (i + 1) → ChangedBehind R xs (set ys i m) i
  one_more_behind i m n h e r c =
      let within : i < length ys = rw c.long h in
      record {
        within = omega (arith, h);
        long = length-set _ _ _ ∙ c.long;
        done = λ k d a b. ⊎_elim
            (λ (q : k ≡ i). rw (q, get_or-set_same ys i m d within) (subst (λ (o : X). R o m) (old_there_behind i n d h e c) r))
            (λ (q : k ≢ i). rw (get_or-set_other ys i k m d q) (let l : i + 1 ≤ k = omega (arith, q, a) in c.done k d l b))
            (cases_eq k i);
        rest = λ k d l. let other : k ≢ i = λ q. omega (arith, q, l) in get_or-set_other ys i k m d other ∙ c.rest k d (omega (arith, l));
      }

  -- a turn of a loop that goes down
  pub one_more_before : (i : ℕ) (m n : X) → 0 < i → n ≡ get_or ys (i - 1) n → R n m → ChangedBehind R xs ys i → ChangedBehind R xs (set ys (i - 1) m) (i - 1)
  one_more_before i m n p e r c =
      let next : i ≡ (i - 1) + 1 = omega (arith, p) in
      let h : i - 1 < length xs = omega (arith, p, c.within) in
      one_more_behind (i - 1) m n h e r (subst (ChangedBehind R xs ys) next c)

  pub all_changed : (i : ℕ) → length xs ≤ i → Changed R xs ys i → Pairwise R xs ys
  all_changed i h c = record { long = c.long; each = λ k d l. c.done k d (omega (arith, h, l)) }

  pub all_changed_behind : ChangedBehind R xs ys 0 → Pairwise R xs ys
  all_changed_behind c = record { long = c.long; each = λ k d l. c.done k d (omega arith) l }

-- the pairs after the first
pub tail_pairs : {X : Type 0} (R : X → X → Type 0) (x y : X) (xs ys : List X) → Pairwise R (x ∷ xs) (y ∷ ys) → Pairwise R xs ys
tail_pairs R x y xs ys p = record { long = tail_long p.long; each = λ k d h. p.each (suc k) d (omega (arith, h)) }
  where
    tail_long : suc (length ys) ≡ suc (length xs) → length ys ≡ length xs
    tail_long e = omega (arith, e)

pub head_pair : {X : Type 0} (R : X → X → Type 0) (x y : X) (xs ys : List X) → Pairwise R (x ∷ xs) (y ∷ ys) → R x y
head_pair R x y xs ys p = p.each 0 x (omega arith)

-- what each pair has in common the lists have
pub same_map : {X Y : Type 0} (R : X → X → Type 0) (f : X → Y) → ((x y : X) → R x y → f y ≡ f x) → (xs ys : List X) → Pairwise R xs ys → map f ys ≡ map f xs
same_map R f s [] [] p = refl
same_map R f s [] (y ∷ ys) p = absurd (omega (arith, p.long))
same_map R f s (x ∷ xs) [] p = absurd (omega (arith, p.long))
same_map R f s (x ∷ xs) (y ∷ ys) p =
    let h = s x y (head_pair R x y xs ys p) in
    let t = same_map R f s xs ys (tail_pairs R x y xs ys p) in
    rw (h, t) refl
