-- A tick's share of a line, packet by packet: which are sent, and which is the last in turn.
use Rattle.sv_host.proofs.Prelude.{◌≡◌, ℕ, ◌+◌, ◌-◌, Bool, true, false, cond, not, ◌&&◌, ◌||◌, List, [], ◌∷◌, ◌++◌, Option, Some, None, inl, inr, refl, ap, ◌∙◌}
use Rattle.sv_host.proofs.Prelude.{arith, length, or_parts, sum_by-cons, nat_lt, packet_in, Output, Packet, Line, Part, Rank, behind_by, behind_in, front_by}
use Rattle.sv_host.proofs.Prelude.{front_in, is_next, lets, part_of, sent_of, share_after, share_end, is_same, ranks_in, stands_in}
use Rattle.std.proofs.lemmas.Bool.{or_from}
use Rattle.sv_host.specs.declared.round.Share.{Share}
use Rattle.sv_host.specs.Round.{has_left, is_in, is_want, part_after, rank_of, share_after_packet}
use Rattle.sv_host.specs.Turns.{ranks_by}
use Rattle.sv_host.proofs.RankLemmas.{count, settled}
use Rattle.sv_host.proofs.RunLemmas.{last_of, taken}

-- a part after packets, and those of them that are sent
abbrev pub part_end : Part → List Rank → Part
part_end p [] = p
part_end p (r ∷ rs) = part_end (part_after p r) rs

abbrev pub part_sent : Part → List Rank → List Rank
part_sent p [] = []
part_sent p (r ∷ rs) = cond (has_left p (is_next p.before.last r)) (r ∷ []) [] ++ part_sent (part_after p r) rs

one_behind : {A B : Type 0} (f : A → B) (x y : Bool) (p q : A) (u v : B) → f p ≡ u → f q ≡ v → f (cond x (cond y p q) q) ≡ cond (x && y) u v
one_behind f true true p q u v left right = left
one_behind f true false p q u v left right = right
one_behind f false y p q u v left right = right

-- where none from the first one on are sent, the last one is the last of those after
pub last_behind : (l : Line) (b : ℕ) (last : Option Rank) (rs : List Rank)
    → (part_end (record { before = l; behind = b; front = 0; wraps = false; last = last }) rs).last ≡ last_of (λ r. is_next l.last r) b last rs
last_behind l b last [] = refl
last_behind l b last (r ∷ rs) =
    one_behind (λ (p : Part). (part_end p rs).last) (is_next l.last r) (nat_lt 0 b) _ _ _ _ (last_behind l (b - 1) (Some r) rs) (last_behind l b last rs)

one_front : {A B : Type 0} (f : A → B) (x y z : Bool) (p q s : A) (u v : B) → f p ≡ v → f q ≡ v → f s ≡ u
    → f (cond x (cond y p q) (cond z s q)) ≡ cond (not x && z) u v
one_front f true true z p q s u v first same moved = first
one_front f true false z p q s u v first same moved = same
one_front f false y true p q s u v first same moved = moved
one_front f false y false p q s u v first same moved = same

-- where some are, it is the last of those
pub last_front : (l : Line) (b f : ℕ) (last : Option Rank) (rs : List Rank)
    → (part_end (record { before = l; behind = b; front = f; wraps = true; last = last }) rs).last ≡ last_of (λ r. not (is_next l.last r)) f last rs
last_front l b f last [] = refl
last_front l b f last (r ∷ rs) =
    one_front (λ (p : Part). (part_end p rs).last) (is_next l.last r) (nat_lt 0 b) (nat_lt 0 f) _ _ _ _ _
    (last_front l (b - 1) f last rs) (last_front l b f last rs) (last_front l b (f - 1) (Some r) rs)

-- one that a part doesn't send is not of those after that are sent, nor of those from the first one on
pub unsent_behind : (q : Rank) (l : Line) (b f : ℕ) (w : Bool) (last : Option Rank) (rs : List Rank)
    → stands_in q (part_sent (record { before = l; behind = b; front = f; wraps = w; last = last }) rs) ≡ false
    → stands_in q (taken (λ r. is_next l.last r) b rs) ≡ false
unsent_behind q l b f w last [] unsent = refl
unsent_behind q l b f w last (r ∷ rs) unsent = elim (settled (is_next l.last r)) [
  | inl next ↦ elim (settled (nat_lt 0 b)) [
    | inl some ↦
        let apart = or_parts (is_same q r) _ (rw (next, some) at unsent) in
        let rest = unsent_behind q l (b - 1) f w (cond w last (Some r)) rs apart.1 in
        rw (next, some) (or_from (is_same q r) (stands_in q (taken (λ s. is_next l.last s) (b - 1) rs)) apart.0 rest)
    | inr none ↦ rw (next, none) (unsent_behind q l b f w last rs (rw (next, none) at unsent))
  ]
  | inr next ↦ elim (settled (nat_lt 0 f)) [
    | inl some ↦
        let apart = or_parts (is_same q r) _ (rw (next, some) at unsent) in
        rw next (unsent_behind q l b (f - 1) w (Some r) rs apart.1)
    | inr none ↦ rw next (unsent_behind q l b f w last rs (rw (next, none) at unsent))
  ]
]

pub unsent_front : (q : Rank) (l : Line) (b f : ℕ) (w : Bool) (last : Option Rank) (rs : List Rank)
    → stands_in q (part_sent (record { before = l; behind = b; front = f; wraps = w; last = last }) rs) ≡ false
    → stands_in q (taken (λ r. not (is_next l.last r)) f rs) ≡ false
unsent_front q l b f w last [] unsent = refl
unsent_front q l b f w last (r ∷ rs) unsent = elim (settled (is_next l.last r)) [
  | inl next ↦ elim (settled (nat_lt 0 b)) [
    | inl some ↦
        let apart = or_parts (is_same q r) _ (rw (next, some) at unsent) in
        rw next (unsent_front q l (b - 1) f w (cond w last (Some r)) rs apart.1)
    | inr none ↦ rw next (unsent_front q l b f w last rs (rw (next, none) at unsent))
  ]
  | inr next ↦ elim (settled (nat_lt 0 f)) [
    | inl some ↦
        let apart = or_parts (is_same q r) _ (rw (next, some) at unsent) in
        let rest = unsent_front q l b (f - 1) w (Some r) rs apart.1 in
        rw (next, some) (or_from (is_same q r) (stands_in q (taken (λ s. not (is_next l.last s)) (f - 1) rs)) apart.0 rest)
    | inr none ↦ rw (next, none) (unsent_front q l b f w last rs (rw (next, none) at unsent))
  ]
]

-- a line's part of a share after a tick's outputs is that part after the line's packets among them
after_packet : (s : Share) (wants : Bool) (b : Bool) (p : Packet) (rs : List Rank) → is_want p ≡ b
    → part_end (part_of (share_after_packet b s (rank_of p)) wants) rs ≡ part_end (part_of s wants) (cond (is_in wants p) (rank_of p ∷ []) [] ++ rs)
after_packet s true true p rs e = rw e refl
after_packet s true false p rs e = rw e refl
after_packet s false true p rs e = rw e refl
after_packet s false false p rs e = rw e refl

after_one : (s : Share) (wants : Bool) (x : Option Packet) (rs : List Rank)
    → part_end (part_of (share_after s x) wants) rs ≡ part_end (part_of s wants) (ranks_by wants x ++ rs)
after_one s wants None rs = refl
after_one s wants (Some p) rs = after_packet s wants (is_want p) p rs refl

pub part_of_end : (s : Share) (wants : Bool) (os : List Output) → part_of (share_end s os) wants ≡ part_end (part_of s wants) (ranks_in wants os)
part_of_end s wants [] = refl
part_of_end s wants (o ∷ os) = part_of_end (share_after s (packet_in o)) wants os ∙ after_one s wants (packet_in o) (ranks_in wants os)

sent_one : (wants b : Bool) (o : Output) (os : List Output) → ranks_in wants (cond b (o ∷ []) [] ++ os) ≡ cond b (ranks_by wants (packet_in o)) [] ++ ranks_in wants os
sent_one wants true o os = refl
sent_one wants false o os = refl

nothing : {X : Type 0} (b : Bool) (xs : List X) → cond b [] [] ++ xs ≡ xs
nothing true xs = refl
nothing false xs = refl

-- what is sent of a share is what is sent of its parts
sent_packet : (s : Share) (wants : Bool) (b : Bool) (p : Packet) (rs : List Rank) → is_want p ≡ b
    → cond (has_left (part_of s b) (is_next (part_of s b).before.last (rank_of p))) (ranks_by wants (Some p)) []
    ++ part_sent (part_of (share_after_packet b s (rank_of p)) wants) rs ≡ part_sent (part_of s wants) (ranks_by wants (Some p) ++ rs)
sent_packet s true true p rs e = rw e refl
sent_packet s true false p rs e = rw e (nothing (has_left s.others (is_next s.others.before.last (rank_of p))) (part_sent s.wants rs))
sent_packet s false true p rs e = rw e (nothing (has_left s.wants (is_next s.wants.before.last (rank_of p))) (part_sent s.others rs))
sent_packet s false false p rs e = rw e refl

sent_step : (s : Share) (wants : Bool) (x : Option Packet) (rs : List Rank)
    → cond (lets s x) (ranks_by wants x) [] ++ part_sent (part_of (share_after s x) wants) rs ≡ part_sent (part_of s wants) (ranks_by wants x ++ rs)
sent_step s wants None rs = refl
sent_step s wants (Some p) rs = sent_packet s wants (is_want p) p rs refl

pub sent_by_parts : (s : Share) (wants : Bool) (os : List Output) → ranks_in wants (sent_of s os) ≡ part_sent (part_of s wants) (ranks_in wants os)
sent_by_parts s wants [] = refl
sent_by_parts s wants (o ∷ os) =
    let x = packet_in o in
    let later = sent_by_parts (share_after s x) wants os in
    sent_one wants (lets s x) o (sent_of (share_after s x) os) ∙ ap (λ rs. cond (lets s x) (ranks_by wants x) [] ++ rs) later
    ∙ sent_step s wants x (ranks_in wants os)

-- packets that are counted output by output are counted in their line
count_both : (f : Rank → Bool) (xs ys : List Rank) → count f (xs ++ ys) ≡ count f xs + count f ys
count_both f [] ys = omega arith
count_both f (x ∷ xs) ys = omega (arith, count_both f xs ys)

one_in : (b x : Bool) (f : Rank → Bool) (r : Rank) → f r ≡ x → cond b (cond x 1 0) 0 ≡ count f (cond b (r ∷ []) [])
one_in true x f r e = rw e (omega arith)
one_in false x f r e = refl

one_not_in : (b x : Bool) (f : Rank → Bool) (r : Rank) → f r ≡ not x → cond b (cond x 0 1) 0 ≡ count f (cond b (r ∷ []) [])
one_not_in true true f r e = rw e (omega arith)
one_not_in true false f r e = rw e (omega arith)
one_not_in false x f r e = refl

behind_one_by : (wants : Bool) (last : Option Rank) (x : Option Packet) → behind_by wants last x ≡ count (λ r. is_next last r) (ranks_by wants x)
behind_one_by wants last None = refl
behind_one_by wants last (Some p) = one_in (is_in wants p) (is_next last (rank_of p)) (λ r. is_next last r) (rank_of p) refl

front_one_by : (wants : Bool) (last : Option Rank) (x : Option Packet) → front_by wants last x ≡ count (λ r. not (is_next last r)) (ranks_by wants x)
front_one_by wants last None = refl
front_one_by wants last (Some p) = one_not_in (is_in wants p) (is_next last (rank_of p)) (λ r. not (is_next last r)) (rank_of p) refl

pub behind_counted : (wants : Bool) (last : Option Rank) (os : List Output) → behind_in wants last os ≡ count (λ r. is_next last r) (ranks_in wants os)
behind_counted wants last [] = refl
behind_counted wants last (o ∷ os) =
    let x = packet_in o in
    let f = λ (r : Rank). is_next last r in
    omega (
      arith,
      sum_by-cons (λ y. behind_by wants last (packet_in y)) o os,
      behind_one_by wants last x,
      count_both f (ranks_by wants x) (ranks_in wants os),
      behind_counted wants last os,
    )

pub front_counted : (wants : Bool) (last : Option Rank) (os : List Output) → front_in wants last os ≡ count (λ r. not (is_next last r)) (ranks_in wants os)
front_counted wants last [] = refl
front_counted wants last (o ∷ os) =
    let x = packet_in o in
    let f = λ (r : Rank). not (is_next last r) in
    omega (
      arith,
      sum_by-cons (λ y. front_by wants last (packet_in y)) o os,
      front_one_by wants last x,
      count_both f (ranks_by wants x) (ranks_in wants os),
      front_counted wants last os,
    )

one_way : (b : Bool) → cond b 1 0 + cond (not b) 1 0 ≡ 1
one_way true = omega arith
one_way false = omega arith

pub both_sides : (f : Rank → Bool) (rs : List Rank) → count f rs + count (λ r. not (f r)) rs ≡ length rs
both_sides f [] = omega arith
both_sides f (r ∷ rs) = omega (arith, one_way (f r), both_sides f rs)
