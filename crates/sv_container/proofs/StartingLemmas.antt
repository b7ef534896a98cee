-- Labels of which there are fewer than are wanted, or more.
use Rattle.sv_container.proofs.Prelude.{◌≡◌, ℕ, ◌<◌, ◌≤◌, ◌+◌, Bool, true, false, cond, List, [], ◌∷◌, ◌++◌, length, get_or, take, drop, map, arith, sym, ◌∙◌}
use Rattle.sv_container.proofs.Prelude.{ap, refl, IsPermutation, get_or-map, length-map, map_more, bytes_eq-Decides, Context, declared_from, label, label_of}
use Rattle.sv_container.proofs.Prelude.{labels_of, is_label, times, Named}
use Rattle.std.specs.Prelude.{◌==◌, bytes_eq, count_by, sum_by}
use Rattle.std.proofs.lemmas.Bool.{false≢true, and_from, and_parts, eq-eqb, eqb-true, false_from_ne_true}
use Rattle.std.proofs.lemmas.List.Sums.{count_by_more_no, count_by_more_yes, sum_by-append, sum_by-cons, sum_by-take-le}
use Rattle.std.proofs.lemmas.List.Sorted.{sum_by-IsPermutation}
use Rattle.sv_container.specs.declared.arrange.Kind.{Kind}
use Rattle.sv_container.specs.Deployment.{declared}
use Rattle.sv_container.specs.Starting.{HasAll, Lacks}
use Rattle.sv_container.proofs.ArrangeLemmas.{an_element, one_more_context}

sum_by_map : {X Y : Type 0} (f : Y → ℕ) (g : X → Y) (xs : List X) → sum_by f (map g xs) ≡ sum_by (λ x. f (g x)) xs
sum_by_map f g [] = refl
sum_by_map f g (x ∷ xs) = sum_by-cons f (g x) (map g xs) ∙ (ap (λ n. f (g x) + n) (sum_by_map f g xs) ∙ sym (sum_by-cons (λ y. f (g y)) x xs))

-- a label is itself
is_label_itself : (its : ℕ × List ℕ) → is_label its its ≡ true
is_label_itself its = and_from (its.0 == its.0) (bytes_eq its.1 its.1) (eq-eqb its.0 its.0 refl) ((bytes_eq-Decides its.1 its.1).1 refl)

clash : (b : Bool) → b ≡ false → b ≡ true → ⊥
clash true p q = false≢true (sym p)
clash false p q = false≢true q

-- a label of another context, and one of another name
pub other_context : (its other : ℕ × List ℕ) → (other.0 ≡ its.0 → ⊥) → is_label its other ≡ false
other_context its other differs = false_from_ne_true (is_label its other) (λ yes.
    let parts = and_parts (its.0 == other.0) (bytes_eq its.1 other.1) yes in
    differs (sym (eqb-true its.0 other.0 parts.0)))

pub other_name : (its other : ℕ × List ℕ) (text : List ℕ) → text ≡ other.1 → bytes_eq text its.1 ≡ false → is_label its other ≡ false
other_name its other text is differs = false_from_ne_true (is_label its other) (λ yes.
    let parts = and_parts (its.0 == other.0) (bytes_eq its.1 other.1) yes in
    clash (bytes_eq text its.1) differs ((bytes_eq-Decides text its.1).1 (is ∙ sym ((bytes_eq-Decides its.1 other.1).0 parts.1))))

times_joined : (its : ℕ × List ℕ) (xs ys : List (ℕ × List ℕ)) → times its (xs ++ ys) ≡ times its xs + times its ys
unfolding times
times_joined its xs ys = sum_by-append (λ l. cond (is_label its l) 1 0) xs ys

-- how often a label stands among those that are made of things
times_map : {X : Type 0} (its : ℕ × List ℕ) (g : X → ℕ × List ℕ) (xs : List X) → times its (map g xs) ≡ count_by (λ x. is_label its (g x)) xs
unfolding times
times_map its g xs = sum_by_map (λ l. cond (is_label its l) 1 0) g xs

times_alone : (its : ℕ × List ℕ) → times its (its ∷ []) ≡ 1
unfolding times
times_alone its = sum_by-cons (λ l. cond (is_label its l) 1 0) its [] ∙ ap (λ b. cond b 1 0 + 0) (is_label_itself its)

-- there are no more among the first than among all
times_front : {X : Type 0} (its : ℕ × List ℕ) (g : X → ℕ × List ℕ) (xs : List X) (n : ℕ) → times its (map g (take n xs)) ≤ times its (map g xs)
times_front its g xs n =
    let first = times_map its g (take n xs) in
    let all = times_map its g xs in
    let fewer = sum_by-take-le (λ x. cond (is_label its (g x)) 1 0) xs n in
    omega (arith, first, all, fewer)

module _ {O : Type 0} where
  times_of : (its : ℕ × List ℕ) (ns : List (Named O)) → times its (labels_of ns) ≡ count_by (λ n. is_label its (label_of n)) ns
  unfolding labels_of
  times_of its ns = times_map its label_of ns

  -- objects in another order have their labels as often
  pub times_shuffled : (its : ℕ × List ℕ) (xs ys : List (Named O)) → IsPermutation xs ys → times its (labels_of ys) ≡ times its (labels_of xs)
  times_shuffled its xs ys same = times_of its ys ∙ (sum_by-IsPermutation (λ n. cond (is_label its (label_of n)) 1 0) xs ys same ∙ sym (times_of its xs))

  times_first : (its : ℕ × List ℕ) (ns : List (Named O)) (n : ℕ) → times its (labels_of (take n ns)) ≤ times its (labels_of ns)
  unfolding labels_of
  times_first its ns n = times_front its label_of ns n

  -- an object of another label
  pub times_past : (its : ℕ × List ℕ) (ns : List (Named O)) (at : ℕ) (d : Named O) (was : ℕ) → at < length ns → is_label its (label_of (get_or ns at d)) ≡ false
      → times its (labels_of (take at ns)) ≡ was → times its (labels_of (take (at + 1) ns)) ≡ was
  times_past its ns at d was within other before =
      times_of its (take (at + 1) ns)
      ∙ (count_by_more_no (λ n. is_label its (label_of n)) ns at d within other
      ∙ (sym (times_of its (take at ns)) ∙ before))

  -- where those declared stand in front none is missing
  pub has_all : (xs ys : List (Named O)) (at : ℕ) (all : List (ℕ × List ℕ)) → IsPermutation xs ys → labels_of (take at ys) ≡ all → HasAll (labels_of xs) all
  has_all xs ys at all same named its =
      let first = times_first its ys at in
      let shuffled = times_shuffled its xs ys same in
      let declared = ap (times its) named in
      omega (arith, first, shuffled, declared)

  -- one that stands after them is too many
  pub lacks_last : (xs ys : List (Named O)) (at : ℕ) (all : List (ℕ × List ℕ)) → at < length ys → IsPermutation xs ys → labels_of (take at ys) ≡ all → Lacks all (labels_of xs)
  lacks_last xs ys at all within same named =
      let d = an_element ys at within in
      let its = label_of (get_or ys at d) in
      let shuffled = times_shuffled its xs ys same in
      let declared = ap (times its) named in
      let first = times_of its (take at ys) in
      let more = count_by_more_yes (λ n. is_label its (label_of n)) ys at d within (is_label_itself its) in
      let next = times_of its (take (at + 1) ys) in
      let all_of = times_first its ys (at + 1) in
      record { its = its; fewer = omega (arith, shuffled, declared, first, more, next, all_of) }

  -- where all of them are declared, none is too many
  pub none_extra : (xs ys : List (Named O)) (all : List (ℕ × List ℕ)) → IsPermutation xs ys → labels_of ys ≡ all → HasAll all (labels_of xs)
  none_extra xs ys all same named its =
      let shuffled = times_shuffled its xs ys same in
      let declared = ap (times its) named in
      omega (arith, shuffled, declared)

  pub none_missing : (xs ys : List (Named O)) (all : List (ℕ × List ℕ)) → IsPermutation xs ys → labels_of ys ≡ all → HasAll (labels_of xs) all
  none_missing xs ys all same named its =
      let shuffled = times_shuffled its xs ys same in
      let declared = ap (times its) named in
      omega (arith, shuffled, declared)

  -- a name of a context that no object has that isn't taken yet
  pub lacks_next : {N : Type 0} (f : N → List ℕ) (names : List N) (context count at : ℕ) (name : N) (text : List ℕ) (was : List (ℕ × List ℕ)) (xs ys : List (Named O))
      → count < length names → name ≡ get_or names count name → text ≡ f name → IsPermutation xs ys
      → labels_of (take at ys) ≡ was ++ map (label context) (take count (map f names))
      → times (label context text) (labels_of ys) ≡ times (label context text) (labels_of (take at ys))
      → Lacks (labels_of xs) (was ++ map (label context) (map f names))
  lacks_next f names context count at name text was xs ys within is spelt same named gone =
      let texts = map f names in
      let its = label context text in
      let before = map (label context) (take count texts) in
      let long : count < length texts = rw (length-map names f) within in
      let here : get_or texts count text ≡ text = get_or-map f names count name text within ∙ (ap f (sym is) ∙ sym spelt) in
      let more : map (label context) (take (count + 1) texts) ≡ before ++ its ∷ []
      = map_more (label context) texts count text long ∙ ap (λ (t : List ℕ). before ++ label context t ∷ []) here in
      let shuffled = times_shuffled its xs ys same in
      let taken = ap (times its) named ∙ times_joined its was before in
      let whole = times_joined its was (map (label context) texts) in
      let front = times_front its (label context) texts (count + 1) in
      let next = ap (times its) more ∙ (times_joined its before (its ∷ []) ∙ ap (λ n. times its before + n) (times_alone its)) in
      record { its = its; fewer = omega (arith, shuffled, gone, taken, whole, front, next) }

  -- what one more context lacks is lacking
  pub lacks_context : {C : Type 0} (f : C → List (List ℕ)) (cs : List C) (n : ℕ) (c : C) (its : List (List ℕ)) (was all : List (ℕ × List ℕ)) (xs ys : List (Named O))
      → n < length cs → c ≡ get_or cs n c → its ≡ f c → was ++ declared_from n (drop n (map f cs)) ≡ all
      → IsPermutation xs ys → Lacks (labels_of ys) (was ++ map (label n) its) → Lacks (labels_of xs) all
  lacks_context f cs n c its was all xs ys within is names before same lacks =
      let step = was ++ map (label n) its in
      let rest = declared_from (n + 1) (drop (n + 1) (map f cs)) in
      let whole = one_more_context f cs n c its was step all within is names refl before in
      let joined = ap (times lacks.its) (sym whole) ∙ times_joined lacks.its step rest in
      let shuffled = times_shuffled lacks.its xs ys same in
      let fewer = lacks.fewer in
      record { its = lacks.its; fewer = omega (arith, joined, shuffled, fewer) }

  -- objects that are handed in as they are declared
  pub exact : (kind : Kind) (seen contexts : List Context) (xs ys : List (Named O)) → seen ≡ contexts → IsPermutation xs ys → labels_of ys ≡ declared kind seen
      → HasAll (labels_of xs) (declared kind contexts) × HasAll (declared kind contexts) (labels_of xs)
  exact kind seen contexts xs ys is same named =
      let all : labels_of ys ≡ declared kind contexts = named ∙ ap (λ (cs : List Context). declared kind cs) is in
      (none_missing xs ys (declared kind contexts) same all, none_extra xs ys (declared kind contexts) same all)
