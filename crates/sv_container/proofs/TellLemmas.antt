-- What listeners note that are told one by one.
use Rattle.sv_container.proofs.Prelude.{◌≡◌, ◌∙◌, ◌+◌, ◌<◌, ◌≤◌, List, [], ◌∷◌, ap, arith, drop, get_or, length, ℕ, refl, sym, drop_all, drop_more, Told}
use Rattle.sv_container.proofs.Prelude.{ears_of, heard_by_all, heard_of, noted_of, Pairwise, Named}
use Rattle.sv_container.specs.Listening.{Ear, ear_of, heard_by}
use Rattle.sv_container.proofs.LoopLemmas.{head_pair, same_map, tail_pairs}

-- a listener after an event
pub record IsTold {L : Type 0} (hears : L → Told → List ℕ → List ℕ) (noted : L → List ℕ) (t : Told) (old new : Named L) : Type 0 where
  pub ear : ear_of hears new ≡ ear_of hears old
  pub notes : noted new.object ≡ heard_by (ear_of hears old) t (noted old.object)

module _ {L : Type 0} (hears : L → Told → List ℕ → List ℕ) (noted : L → List ℕ) (t : Told) where
  pub same_ears : (xs ys : List (Named L)) → Pairwise (IsTold hears noted t) xs ys → ears_of hears ys ≡ ears_of hears xs
  unfolding ears_of
  same_ears xs ys p = same_map (IsTold hears noted t) (ear_of hears) (λ x y r. r.ear) xs ys p

  pub all_noted : (xs ys : List (Named L)) → Pairwise (IsTold hears noted t) xs ys
      → noted_of noted ys ≡ heard_by_all (ears_of hears xs) (noted_of noted xs) t
  unfolding ears_of noted_of heard_by_all
  all_noted [] [] p = refl
  all_noted [] (y ∷ ys) p = absurd (omega (arith, p.long))
  all_noted (x ∷ xs) [] p = absurd (omega (arith, p.long))
  all_noted (x ∷ xs) (y ∷ ys) p =
      let h = (head_pair (IsTold hears noted t) x y xs ys p).notes in
      let u = all_noted xs ys (tail_pairs (IsTold hears noted t) x y xs ys p) in
      rw (h, u) refl

-- ---- events in order

-- the next of the events that are left
heard_next : (es : List Ear) (h : List (List ℕ)) (t : Told) (ts us : List Told) → us ≡ t ∷ ts → heard_of es (heard_by_all es h t) ts ≡ heard_of es h us
unfolding heard_of
heard_next es h t ts us e = sym (ap (heard_of es h) e)

-- one more is told, and what comes of all is as it was
pub one_heard : (es now : List Ear) (first h next : List (List ℕ)) (all : List Told) (i : ℕ) (t : Told)
    → now ≡ es → next ≡ heard_by_all now h t → i < length all → t ≡ get_or all i t
    → heard_of es h (drop i all) ≡ heard_of es first all → heard_of es next (drop (i + 1) all) ≡ heard_of es first all
one_heard es now first h next all i t same step within is before =
    let here : drop i all ≡ t ∷ drop (i + 1) all = drop_more all i t within ∙ ap (λ x. x ∷ drop (i + 1) all) (sym is) in
    let told : next ≡ heard_by_all es h t = step ∙ ap (λ e. heard_by_all e h t) same in
    ap (λ n. heard_of es n (drop (i + 1) all)) told ∙ (heard_next es h t (drop (i + 1) all) (drop i all) here ∙ before)

pub all_heard : (es : List Ear) (first h : List (List ℕ)) (all : List Told) (i : ℕ) → length all ≤ i
    → heard_of es h (drop i all) ≡ heard_of es first all → h ≡ heard_of es first all
unfolding heard_of
all_heard es first h all i end before = sym (ap (heard_of es h) (drop_all i all end)) ∙ before
