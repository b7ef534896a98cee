-- What is read is spelled so, and what is spelled so is read: for each way of making a format.
use Rattle.std.proofs.Common.{◌≡◌, ◌⊎◌, ℕ, zero, suc, ◌+◌, ◌*◌, ◌%◌, ◌^◌, ◌<◌, ◌≤◌, Bool, true, false, cond, ltb, eqb, List, [], ◌∷◌, ◌++◌, length, get_or, take, drop, Result, Ok, Err, refl, sym, ap, subst, ◌∙◌, append_assoc, arith, inl, inr}
use Rattle.std.specs.Int.{Width, w8, w16, w32, w64, byte_len, from_be_bytes, to_be_bytes}
use Rattle.std.proofs.lemmas.Bool.{cases_lt, ltb-false, le-ltb, eqb-true}
use Rattle.std.proofs.lemmas.List.{take_at, drop_at, take-append-drop, length-append, length-take, get_or-drop, get_or-take, get_or_past}
use Rattle.std.proofs.lemmas.List.Elements.{All-get_or}
use Rattle.std.proofs.lemmas.Nat.{be_bytes_2, be_bytes_4, be_bytes_8, from_be_bytes-to_be_bytes_2, from_be_bytes-to_be_bytes_4, from_be_bytes-to_be_bytes_8}
use Rattle.sv_record.proofs.Prelude.{RecordFault, Truncated, BadField}
use Rattle.sv_record.specs.Reading.{◌>>=◌, IsBytes, Reading, number_at, bytes_at}
use Rattle.sv_record.specs.Format.{Format, ByKind, number, raw, nothing, chain, pair, such_that, seen_as, sized, texts, FitAll, reads, counted, kind_at, no_kind, tagged}

-- each number is one of a byte, whatever stands after the list
abbrev pub AreBytes : List ℕ → Type 0
AreBytes bytes = (i : ℕ) → get_or bytes i 0 < 256

pub are_bytes : (bytes : List ℕ) → IsBytes bytes → AreBytes bytes
are_bytes bytes all i =
    elim (cases_lt i (length bytes)) [
      | inl lt ↦ All-get_or (λ (b : ℕ). b < 2 ^ 8) bytes i 0 lt all
      | inr le ↦ rw (get_or_past bytes i 0 le) (omega arith)
    ]

pub AreBytes-drop : (n : ℕ) (bytes : List ℕ) → AreBytes bytes → AreBytes (drop n bytes)
AreBytes-drop n bytes h i = rw get_or-drop (h (n + i))

pub AreBytes-take : (n : ℕ) (bytes : List ℕ) → AreBytes bytes → AreBytes (take n bytes)
AreBytes-take n bytes h i =
    elim (cases_lt i n) [
      | inl lt ↦ rw (get_or-take n bytes i 0 lt) (h i)
      | inr le ↦ rw (get_or_past (take n bytes) i 0 (omega (arith, length-take n bytes))) (omega arith)
    ]

pub bind_ok : {A B : Type 0} (r : Result A RecordFault) (f : A → Result B RecordFault) (y : B) → (r >>= f) ≡ Ok y → (x : A) × (r ≡ Ok x) × (f x ≡ Ok y)
bind_ok (Ok x) f y e = (x, refl, e)
bind_ok (Err d) f y e = absurd cc

-- a test that has to fail, one that has to hold, and one that chooses
pub guard_ok : {A : Type 0} (b : Bool) (d : RecordFault) (r : Result A RecordFault) (y : A) → cond b (Err d) r ≡ Ok y → (b ≡ false) × (r ≡ Ok y)
guard_ok true d r y e = absurd cc
guard_ok false d r y e = (refl, e)

pub held_ok : {A : Type 0} (b : Bool) (d : RecordFault) (r : Result A RecordFault) (y : A) → cond b r (Err d) ≡ Ok y → (b ≡ true) × (r ≡ Ok y)
held_ok true d r y e = (refl, e)
held_ok false d r y e = absurd cc

pub chosen : {A : Type 0} (b : Bool) (x y z : A) → cond b x y ≡ z → ((b ≡ true) × (x ≡ z)) ⊎ ((b ≡ false) × (y ≡ z))
chosen true x y z e = inl (refl, e)
chosen false x y z e = inr (refl, e)

abbrev done : {A : Type 0} → A → Result A RecordFault
done x = Ok x

pub ok_is : {A : Type 0} (x y : A) → done x ≡ done y → x ≡ y
ok_is x y e = cc

-- what was read from the front
pub record Takes (bytes text rest : List ℕ) : Type 0 where
  pub parts : bytes ≡ text ++ rest
  pub rest_fits : AreBytes rest

pub Takes-then : (a x b y c : List ℕ) → Takes a x b → Takes b y c → Takes a (x ++ y) c
Takes-then a x b y c p q = record { parts = p.parts ∙ ap (λ (t : List ℕ). x ++ t) q.parts ∙ sym (append_assoc x y c); rest_fits = q.rest_fits }

pub record Lawful {A : Type 0} (f : Format A) : Type 0 where
  pub takes : (bytes : List ℕ) (x : A × List ℕ) → AreBytes bytes → f.read bytes ≡ Ok x → Takes bytes (f.text x.0) x.1 × f.Fits x.0
  pub again : (a : A) (rest : List ℕ) → f.Fits a → f.read (f.text a ++ rest) ≡ Ok (a, rest)

-- ---- numbers and bytes

pub record IsWide (w : Width) : Type 0 where
  pub len : (n : ℕ) → length (to_be_bytes w n) ≡ byte_len w
  pub back : (bytes : List ℕ) → length bytes ≡ byte_len w → AreBytes bytes → to_be_bytes w (from_be_bytes w bytes) ≡ bytes
  pub again : (n : ℕ) → n < 2 ^ (8 * byte_len w) → from_be_bytes w (to_be_bytes w n) ≡ n
  pub below : (bytes : List ℕ) → AreBytes bytes → from_be_bytes w bytes < 2 ^ (8 * byte_len w)

small_byte : (n : ℕ) → n < 256 → n % 256 ≡ n
small_byte n lt = omega arith

one_byte : (bytes : List ℕ) → length bytes ≡ 1 → AreBytes bytes → (get_or bytes 0 0 % 256) ∷ [] ≡ bytes
one_byte [] len fits = absurd (omega arith)
one_byte (b ∷ []) len fits = ap (λ (x : ℕ). x ∷ []) (small_byte b (fits 0))
one_byte (b ∷ c ∷ rest) len fits = absurd (omega arith)

pub wide8 : IsWide w8
wide8 = record { len = λ n. refl; back = one_byte; again = small_byte; below = λ bytes fits. omega (arith, fits 0) }

pub wide16 : IsWide w16
wide16 = record { len = λ n. refl; back = λ bytes len fits. be_bytes_2 bytes _ len fits refl; again = λ n lt. from_be_bytes-to_be_bytes_2 n lt; below = λ bytes fits. omega (arith, fits 0, fits 1) }

pub wide32 : IsWide w32
wide32 = record { len = λ n. refl; back = λ bytes len fits. be_bytes_4 bytes _ len fits refl; again = λ n lt. from_be_bytes-to_be_bytes_4 n lt; below = λ bytes fits. omega (arith, fits 0, fits 1, fits 2, fits 3) }

pub wide64 : IsWide w64
wide64 = record { len = λ n. refl; back = λ bytes len fits. be_bytes_8 bytes _ len fits refl; again = λ n lt. from_be_bytes-to_be_bytes_8 n lt; below = λ bytes fits. omega (arith, fits 0, fits 1, fits 2, fits 3, fits 4, fits 5, fits 6, fits 7) }

pub number_lawful : (w : Width) → IsWide w → Lawful (number w)
number_lawful w wide = record {
  takes = λ all x fits e.
      let k = byte_len w in
      let g = guard_ok (ltb (length all) k) Truncated (done (from_be_bytes w (take k all), drop k all)) x e in
      let long : k ≤ length all = ltb-false _ _ g.0 in
      let front : to_be_bytes w (from_be_bytes w (take k all)) ≡ take k all = wide.back (take k all) (omega (arith, length-take k all)) (AreBytes-take k all fits) in
      subst (λ (y : ℕ × List ℕ). Takes all (to_be_bytes w y.0) y.1 × (y.0 < 2 ^ (8 * byte_len w))) (ok_is (from_be_bytes w (take k all), drop k all) x g.1)
      (record { parts = rw front (sym (take-append-drop k all)); rest_fits = AreBytes-drop k all fits }, wide.below (take k all) (AreBytes-take k all fits));
  again = λ n rest lt.
      let len = wide.len n in
      let long : ltb (length (to_be_bytes w n ++ rest)) (byte_len w) ≡ false = le-ltb _ _ (omega (arith, length-append (to_be_bytes w n) rest)) in
      rw (long, take_at (to_be_bytes w n) rest (byte_len w) len, drop_at (to_be_bytes w n) rest (byte_len w) len, wide.again n lt) refl;
}

pub raw_lawful : (n : ℕ) → Lawful (raw n)
raw_lawful n = record {
  takes = λ all x fits e.
      let g = guard_ok (ltb (length all) n) Truncated (done (take n all, drop n all)) x e in
      let long : n ≤ length all = ltb-false _ _ g.0 in
      subst (λ (y : List ℕ × List ℕ). Takes all y.0 y.1 × (length y.0 ≡ n)) (ok_is (take n all, drop n all) x g.1)
      (record { parts = sym (take-append-drop n all); rest_fits = AreBytes-drop n all fits }, omega (arith, length-take n all));
  again = λ b rest len.
      let long : ltb (length (b ++ rest)) n ≡ false = le-ltb _ _ (omega (arith, len, length-append b rest)) in
      rw (long, take_at b rest n len, drop_at b rest n len) refl;
}

pub nothing_lawful : Lawful nothing
nothing_lawful = record {
  takes = λ all x fits e. subst (λ (y : Unit {0} × List ℕ). Takes all [] y.1 × Unit {0}) (ok_is (tt, all) x e) (record { parts = refl; rest_fits = fits }, tt);
  again = λ a rest fits. refl;
}

-- ---- made of others

module _ {A B : Type 0} where
  pub chain_lawful : (f : Format A) (g : A → Format B) → Lawful f → ((a : A) → Lawful (g a)) → Lawful (chain f g)
  chain_lawful f g p q = record {
    takes = λ all x fits e.
        let a = bind_ok (f.read all) (λ a. (g a.0).read a.1 >>= λ b. Ok ((a.0, b.0), b.1)) x e in
        let b = bind_ok ((g a.0.0).read a.0.1) (λ b. Ok ((a.0.0, b.0), b.1)) x a.2 in
        let t = p.takes all a.0 fits a.1 in
        let u = (q a.0.0).takes a.0.1 b.0 t.0.rest_fits b.1 in
        let made : (A × B) × List ℕ = ((a.0.0, b.0.0), b.0.1) in
        subst (λ (y : (A × B) × List ℕ). Takes all (f.text y.0.0 ++ (g y.0.0).text y.0.1) y.1 × (f.Fits y.0.0 × (g y.0.0).Fits y.0.1)) (ok_is made x b.2)
        (Takes-then all (f.text a.0.0) a.0.1 ((g a.0.0).text b.0.0) b.0.1 t.0 u.0, (t.1, u.1));
    again = λ x rest fits.
        let first : f.read (f.text x.0 ++ ((g x.0).text x.1 ++ rest)) ≡ Ok (x.0, (g x.0).text x.1 ++ rest) = p.again x.0 ((g x.0).text x.1 ++ rest) fits.0 in
        let second : (g x.0).read ((g x.0).text x.1 ++ rest) ≡ Ok (x.1, rest) = (q x.0).again x.1 rest fits.1 in
        rw (append_assoc (f.text x.0) ((g x.0).text x.1) rest, first, second) refl;
  }

  pub pair_lawful : (f : Format A) (g : Format B) → Lawful f → Lawful g → Lawful (pair f g)
  pair_lawful f g p q = chain_lawful f (λ _. g) p (λ _. q)

  pub seen_as_lawful : (f : Format A) (to : A → B) (from : B → A) → Lawful f → ((a : A) → f.Fits a → from (to a) ≡ a) → ((b : B) → to (from b) ≡ b) → Lawful (seen_as f to from)
  seen_as_lawful f to from p there back = record {
    takes = λ all x fits e.
        let a = bind_ok (f.read all) (λ a. Ok (to a.0, a.1)) x e in
        let t = p.takes all a.0 fits a.1 in
        let same : from (to a.0.0) ≡ a.0.0 = there a.0.0 t.1 in
        subst (λ (y : B × List ℕ). Takes all (f.text (from y.0)) y.1 × f.Fits (from y.0)) (ok_is (to a.0.0, a.0.1) x a.2)
        (subst (λ (z : A). Takes all (f.text z) a.0.1 × f.Fits z) (sym same) t);
    again = λ b rest fits. rw (p.again (from b) rest fits, back b) refl;
  }

pub such_that_lawful : {A : Type 0} (f : Format A) (test : A → Bool) → Lawful f → Lawful (such_that f test)
such_that_lawful {A} f test p = record {
  takes = λ all x fits e.
      let a = bind_ok (f.read all) (λ a. cond (test a.0) (Ok a) (Err BadField)) x e in
      let g = held_ok (test a.0.0) BadField (done a.0) x a.2 in
      let t = p.takes all a.0 fits a.1 in
      subst (λ (y : A × List ℕ). Takes all (f.text y.0) y.1 × (f.Fits y.0 × (test y.0 ≡ true))) (ok_is a.0 x g.1) (t.0, (t.1, g.0));
  again = λ a rest fits. rw (p.again a rest fits.0, fits.1) refl;
}

pub sized_lawful : (w : Width) (test : ℕ → Bool) → IsWide w → Lawful (sized w test)
sized_lawful w test wide = record {
  takes = λ all x fits e.
      let a = bind_ok (number_at w all) (λ n. cond (test n.0) (bytes_at n.0 n.1) (Err BadField)) x e in
      let g = held_ok (test a.0.0) BadField (bytes_at a.0.0 a.0.1) x a.2 in
      let t = (number_lawful w wide).takes all a.0 fits a.1 in
      let u = (raw_lawful a.0.0).takes a.0.1 x t.0.rest_fits g.1 in
      subst (λ (k : ℕ). Takes all (to_be_bytes w k ++ x.0) x.1 × ((k < 2 ^ (8 * byte_len w)) × (test k ≡ true))) (sym u.1) (Takes-then all (to_be_bytes w a.0.0) a.0.1 x.0 x.1 t.0 u.0, (t.1, g.0));
  again = λ b rest fits.
      let first : number_at w (to_be_bytes w (length b) ++ (b ++ rest)) ≡ Ok (length b, b ++ rest) = (number_lawful w wide).again (length b) (b ++ rest) fits.0 in
      let second : bytes_at (length b) (b ++ rest) ≡ Ok (b, rest) = (raw_lawful (length b)).again b rest refl in
      rw (append_assoc (to_be_bytes w (length b)) b rest, first, fits.1, second) refl;
}

module _ {S A : Type 0} (item : S → Format A) (next : S → A → S) (each : (s : S) → Lawful (item s)) where
  reads_take : (n : ℕ) (s : S) (all : List ℕ) (x : List A × List ℕ) → AreBytes all → reads item next n s all ≡ Ok x → Takes all (texts item next s x.0) x.1 × (length x.0 ≡ n) × FitAll item next s x.0
  reads_take zero s all x fits e =
      subst (λ (y : List A × List ℕ). Takes all (texts item next s y.0) y.1 × (length y.0 ≡ 0) × FitAll item next s y.0) (ok_is ([], all) x e) (record { parts = refl; rest_fits = fits }, refl, tt)
  reads_take (suc n) s all x fits e =
      let a = bind_ok ((item s).read all) (λ a. reads item next n (next s a.0) a.1 >>= λ b. Ok (a.0 ∷ b.0, b.1)) x e in
      let b = bind_ok (reads item next n (next s a.0.0) a.0.1) (λ b. Ok (a.0.0 ∷ b.0, b.1)) x a.2 in
      let t = (each s).takes all a.0 fits a.1 in
      let u = reads_take n (next s a.0.0) a.0.1 b.0 t.0.rest_fits b.1 in
      let made : List A × List ℕ = (a.0.0 ∷ b.0.0, b.0.1) in
      subst (λ (y : List A × List ℕ). Takes all (texts item next s y.0) y.1 × (length y.0 ≡ suc n) × FitAll item next s y.0) (ok_is made x b.2)
      (Takes-then all ((item s).text a.0.0) a.0.1 (texts item next (next s a.0.0) b.0.0) b.0.1 t.0 u.0, ap suc u.1, (t.1, u.2))

  reads_again : (s : S) (xs : List A) (rest : List ℕ) → FitAll item next s xs → reads item next (length xs) s (texts item next s xs ++ rest) ≡ Ok (xs, rest)
  reads_again s [] rest fits = refl
  reads_again s (x ∷ xs) rest fits =
      let tail = texts item next (next s x) xs in
      rw (append_assoc ((item s).text x) tail rest, (each s).again x (tail ++ rest) fits.0, reads_again (next s x) xs rest fits.1) refl

  pub counted_lawful : (w : Width) (most : ℕ) (s : S) → IsWide w → Lawful (counted w most s item next)
  counted_lawful w most s wide = record {
    takes = λ all x fits e.
        let a = bind_ok (number_at w all) (λ n. cond (ltb most n.0) (Err BadField) (reads item next n.0 s n.1)) x e in
        let g = guard_ok (ltb most a.0.0) BadField (reads item next a.0.0 s a.0.1) x a.2 in
        let t = (number_lawful w wide).takes all a.0 fits a.1 in
        let u = reads_take a.0.0 s a.0.1 x t.0.rest_fits g.1 in
        let whole = Takes-then all (to_be_bytes w a.0.0) a.0.1 (texts item next s x.0) x.1 t.0 u.0 in
        let first : Takes all (to_be_bytes w a.0.0 ++ texts item next s x.0) x.1 × ((a.0.0 < 2 ^ (8 * byte_len w)) × (ltb most a.0.0 ≡ false)) = (whole, (t.1, g.0)) in
        let moved = subst (λ (k : ℕ). Takes all (to_be_bytes w k ++ texts item next s x.0) x.1 × ((k < 2 ^ (8 * byte_len w)) × (ltb most k ≡ false))) (sym u.1) first in
        (moved.0, (moved.1.0, moved.1.1, u.2));
    again = λ xs rest fits.
        let tail = texts item next s xs in
        let first : number_at w (to_be_bytes w (length xs) ++ (tail ++ rest)) ≡ Ok (length xs, tail ++ rest) = (number_lawful w wide).again (length xs) (tail ++ rest) fits.0 in
        rw (append_assoc (to_be_bytes w (length xs)) tail rest, first, fits.1, reads_again s xs rest fits.2) refl;
  }

-- ---- kinds

module _ {A : Type 0} (kind_of : A → ℕ) (fields : A → List ℕ) (Fits : A → Type 0) where
  -- what was read after a kind
  abbrev pub Took : ℕ → List ℕ → A × List ℕ → Type 0
  Took kind bytes x = Takes bytes (fields x.0) x.1 × (kind_of x.0 ≡ kind) × Fits x.0

  abbrev pub TakesByKind : ByKind A → Type 0
  TakesByKind by_kind = (kind : ℕ) (bytes : List ℕ) (x : A × List ℕ) → AreBytes bytes → by_kind kind bytes ≡ Ok x → Took kind bytes x

  pub no_kind_takes : (fault : RecordFault) → TakesByKind (no_kind fault)
  no_kind_takes fault kind bytes x fits e = absurd cc

  -- the last fact says that fields, kind and fit of what `to` makes are those of the format
  pub kind_takes : {B : Type 0} (k : ℕ) (f : Format B) (to : B → A) (others : ByKind A) → Lawful f → ((b : B) → (fields (to b) ≡ f.text b) × (kind_of (to b) ≡ k) × (f.Fits b → Fits (to b))) → TakesByKind others → TakesByKind (kind_at k f to others)
  kind_takes k f to others p is more kind bytes x fits e =
      elim (chosen (eqb kind k) (f.read bytes >>= λ b. Ok (to b.0, b.1)) (others kind bytes) (Ok x) e) [
        | inl here ↦
            let b = bind_ok (f.read bytes) (λ b. Ok (to b.0, b.1)) x here.1 in
            let t = p.takes bytes b.0 fits b.1 in
            let facts = is b.0.0 in
            let text : Takes bytes (fields (to b.0.0)) b.0.1 = subst (λ (l : List ℕ). Takes bytes l b.0.1) (sym facts.0) t.0 in
            let took : Took kind bytes (to b.0.0, b.0.1) = (text, facts.1 ∙ sym (eqb-true kind k here.0), facts.2 t.1) in
            subst (Took kind bytes) (ok_is (to b.0.0, b.0.1) x b.2) took
        | inr further ↦ more kind bytes x fits further.1
      ]

  pub tagged_lawful : (by_kind : ByKind A) → ((a : A) → kind_of a < 256) → TakesByKind by_kind → ((a : A) (rest : List ℕ) → Fits a → by_kind (kind_of a) (fields a ++ rest) ≡ Ok (a, rest)) → Lawful (tagged kind_of fields Fits by_kind)
  tagged_lawful by_kind small p back = record {
    takes = λ all x fits e.
        let k = bind_ok (number_at w8 all) (λ kind. by_kind kind.0 kind.1) x e in
        let t = (number_lawful w8 wide8).takes all k.0 fits k.1 in
        let u = p k.0.0 k.0.1 x t.0.rest_fits k.2 in
        let byte : to_be_bytes w8 k.0.0 ≡ kind_of x.0 ∷ [] = ap (λ (n : ℕ). n ∷ []) (small_byte k.0.0 t.1 ∙ sym u.1) in
        (subst (λ (l : List ℕ). Takes all (l ++ fields x.0) x.1) byte (Takes-then all (to_be_bytes w8 k.0.0) k.0.1 (fields x.0) x.1 t.0 u.0), u.2);
    again = λ a rest fits.
        let byte : to_be_bytes w8 (kind_of a) ≡ kind_of a ∷ [] = ap (λ (n : ℕ). n ∷ []) (small_byte (kind_of a) (small a)) in
        let first : number_at w8 (kind_of a ∷ (fields a ++ rest)) ≡ Ok (kind_of a, fields a ++ rest) = subst (λ (l : List ℕ). number_at w8 (l ++ (fields a ++ rest)) ≡ Ok (kind_of a, fields a ++ rest)) byte ((number_lawful w8 wide8).again (kind_of a) (fields a ++ rest) (small a)) in
        ap (λ (r : Reading ℕ). r >>= λ kind. by_kind kind.0 kind.1) first ∙ back a rest fits;
  }
