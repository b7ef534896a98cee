-- What a tick that doesn't send a packet of a line has sent instead.
use Rattle.sv_host.proofs.Prelude.{◌≡◌, ◌≤◌, ◌<◌, ℕ, ◌+◌, ◌-◌, Bool, true, false, cond, not, min, List, [], ◌∷◌, Option, Some, None, inl, inr, refl, ap, sym}
use Rattle.sv_host.proofs.Prelude.{◌∙◌, subst, arith, length, nat_tests, nat_lt, Line, Part, Rank, is_next, IsPartOf, stands_in}
use Rattle.sv_host.specs.Turns.{IsRising}
use Rattle.sv_host.proofs.RankLemmas.{behind, behind_all, behind_before, behind_next, count, settled}
use Rattle.sv_host.proofs.RunLemmas.{AreAmong, AreNext, last_moves, last_of, last_stays, taken, unsent_many, unsent_next}
use Rattle.sv_host.proofs.PartLemmas.{both_sides, last_behind, last_front, part_end, part_sent, unsent_behind, unsent_front}

-- how many may be sent of these before a packet is and those after it: those after the last one, and all if it is not one of those
abbrev pub ahead : List Rank → Rank → Option Rank → ℕ
ahead ranks q last = behind ranks last + cond (is_next last q) 0 (length ranks)

pub ahead_least : (ranks : List Rank) (q : Rank) (last : Option Rank) → stands_in q ranks ≡ true → behind ranks (Some q) + 1 ≤ ahead ranks q last
ahead_least ranks q last at = elim (settled (is_next last q)) [
  | inl next ↦ rw next (omega (arith, behind_next ranks last q next at))
  | inr next ↦ rw next (omega (arith, behind_next ranks None q refl at, behind_all ranks None))
]

pub ahead_most : (ranks : List Rank) (q : Rank) (last : Option Rank) → ahead ranks q last ≤ behind ranks (Some q) + length ranks
ahead_most ranks q last = elim (settled (is_next last q)) [
  | inl next ↦ rw next (omega (arith, behind_all ranks last))
  | inr next ↦ rw next (omega (arith, behind_before ranks last q next))
]

next_itself : (last : Option Rank) (rs : List Rank) → AreNext (λ r. is_next last r) last rs
next_itself last [] = tt
next_itself last (r ∷ rs) = ((λ p. p), next_itself last rs)

next_first : (f : Rank → Bool) (rs : List Rank) → AreNext f None rs
next_first f [] = tt
next_first f (r ∷ rs) = ((λ p. refl), next_first f rs)

ahead_within : (ranks : List Rank) (q : Rank) (last : Option Rank) → ahead ranks q last ≤ behind ranks last + length ranks
ahead_within ranks q last = elim (settled (is_next last q)) [
  | inl next ↦ rw next (omega arith)
  | inr next ↦ rw next (omega arith)
]

-- a part that has sent none yet
abbrev part_at : Line → ℕ → ℕ → Bool → Part
part_at l b f w = record { before = l; behind = b; front = f; wraps = w; last = l.last }

part_is : (l : Line) (after ahead most : ℕ) (part : Part) → IsPartOf l after ahead most part → part ≡ part_at l part.behind part.front part.wraps
part_is l after ahead most part h = λ i. record { before = h.before i; behind = part.behind; front = part.front; wraps = part.wraps; last = h.last i }

-- those after the last one are more than are let pass, and one of these is the packet
moves_behind : (ranks : List Rank) (q : Rank) (l : Line) (rs : List Rank) (b : ℕ) → IsRising rs → AreAmong ranks rs → stands_in q rs ≡ true
    → is_next l.last q ≡ true → stands_in q (taken (λ r. is_next l.last r) b rs) ≡ false → b ≤ count (λ r. is_next l.last r) rs
    → ahead ranks q (last_of (λ r. is_next l.last r) b l.last rs) + b ≤ ahead ranks q l.last
moves_behind ranks q l rs b rising among at next unsent few =
    let f = λ (r : Rank). is_next l.last r in
    let moved = last_moves ranks f rs b l.last l.last rising among (next_itself l.last rs) few (λ z. refl) in
    let still = unsent_next f q rs b l.last l.last rising next at unsent next (λ z. refl) in
    rw (next, still) (omega (arith, moved))

-- the same where the packet is not one of these
moves_round : (ranks : List Rank) (q : Rank) (l : Line) (rs : List Rank) (b : ℕ) → IsRising rs → AreAmong ranks rs
    → is_next l.last q ≡ false → b ≤ count (λ r. is_next l.last r) rs
    → ahead ranks q (last_of (λ r. is_next l.last r) b l.last rs) + b ≤ ahead ranks q l.last
moves_round ranks q l rs b rising among next few =
    let f = λ (r : Rank). is_next l.last r in
    let moved = last_moves ranks f rs b l.last l.last rising among (next_itself l.last rs) few (λ z. refl) in
    rw next (omega (arith, moved, ahead_within ranks q (last_of f b l.last rs)))

-- all those after the last one are sent, and some from the first one on, but not the packet
moves_front : (ranks : List Rank) (q : Rank) (l : Line) (rs : List Rank) (b n : ℕ) → IsRising rs → AreAmong ranks rs → stands_in q rs ≡ true
    → is_next l.last q ≡ false → stands_in q (taken (λ r. not (is_next l.last r)) n rs) ≡ false → b ≤ count (λ r. is_next l.last r) rs
    → n ≤ count (λ r. not (is_next l.last r)) rs → 0 < n
    → ahead ranks q (last_of (λ r. not (is_next l.last r)) n l.last rs) + (b + n) ≤ ahead ranks q l.last
moves_front ranks q l rs b n rising among at next unsent few fits some =
    let f = λ (r : Rank). is_next l.last r in
    let g = λ (r : Rank). not (is_next l.last r) in
    let passes : g q ≡ true = ap not next in
    let never : n ≡ 0 → l.last ≡ None = λ z. absurd (omega arith) in
    let those = last_moves ranks f rs b l.last l.last rising among (next_itself l.last rs) few (λ z. refl) in
    let moved = last_moves ranks g rs n l.last None rising among (next_first g rs) fits never in
    let still = unsent_next g q rs n l.last None rising passes at unsent refl never in
    rw (next, still) (omega (arith, moved, those, behind_all ranks None))

-- a tick that puts out a packet and doesn't send it lets through fewer of the line than it puts out, and sends as many before it as it
-- lets through
abbrev pub HasMoved : List Rank → Rank → Line → List Rank → ℕ → Part → Type 0
HasMoved ranks q l rs most part = (most < length rs) × (ahead ranks q (part_end part rs).last + most ≤ ahead ranks q l.last)

unwrapped : (f : ℕ) (w : Bool) → w ≡ nat_lt 0 f → f ≡ 0 → w ≡ false
unwrapped f w is none = grind (arith, nat_tests)

-- none is let pass from the first one on
moved_behind : (ranks : List Rank) (q : Rank) (l : Line) (rs : List Rank) (most b f : ℕ) (w : Bool) → f ≡ 0 → w ≡ false → b ≡ most → most < length rs
    → ahead ranks q (last_of (λ r. is_next l.last r) b l.last rs) + b ≤ ahead ranks q l.last → HasMoved ranks q l rs most (part_at l b f w)
moved_behind ranks q l rs most b f w none flat all many moved =
    let same : part_at l b f w ≡ part_at l b 0 false = λ i. part_at l b (none i) (flat i) in
    let last : (part_end (part_at l b f w) rs).last ≡ last_of (λ r. is_next l.last r) b l.last rs = ap (λ (p : Part). (part_end p rs).last) same ∙ last_behind l b l.last rs in
    (many, omega (arith, ap (λ x. ahead ranks q x) last))

-- some are
moved_front : (ranks : List Rank) (q : Rank) (l : Line) (rs : List Rank) (most b f : ℕ) (w : Bool) → w ≡ true → b + f ≡ most → most < length rs
    → ahead ranks q (last_of (λ r. not (is_next l.last r)) f l.last rs) + (b + f) ≤ ahead ranks q l.last → HasMoved ranks q l rs most (part_at l b f w)
moved_front ranks q l rs most b f w wraps all many moved =
    let same : part_at l b f w ≡ part_at l b f true = λ i. part_at l b f (wraps i) in
    let last : (part_end (part_at l b f w) rs).last ≡ last_of (λ r. not (is_next l.last r)) f l.last rs = ap (λ (p : Part). (part_end p rs).last) same ∙ last_front l b f l.last rs in
    (many, omega (arith, ap (λ x. ahead ranks q x) last))

moved : (ranks : List Rank) (q : Rank) (l : Line) (rs : List Rank) (most b f : ℕ) (w : Bool) → IsRising rs → AreAmong ranks rs
    → stands_in q rs ≡ true → stands_in q (part_sent (part_at l b f w) rs) ≡ false → b ≡ min (count (λ r. is_next l.last r) rs) most
    → f ≡ min (count (λ r. not (is_next l.last r)) rs) (most - b) → w ≡ nat_lt 0 f → HasMoved ranks q l rs most (part_at l b f w)
moved ranks q l rs most b f w rising among at unsent behind_is front_is wraps =
    let next = λ (r : Rank). is_next l.last r in
    let front = λ (r : Rank). not (is_next l.last r) in
    let both = both_sides next rs in
    let few : b ≤ count next rs = omega arith in
    let apart = unsent_behind q l b f w l.last rs unsent in
    let aside = unsent_front q l b f w l.last rs unsent in
    elim (settled (is_next l.last q)) [
      | inl is ↦
          let many = unsent_many next q rs b is at apart in
          let all : b ≡ most = omega arith in
          let none : f ≡ 0 = omega arith in
          moved_behind ranks q l rs most b f w none (unwrapped f w wraps none) all (omega arith) (moves_behind ranks q l rs b rising among at is apart few)
      | inr is ↦
          let many = unsent_many front q rs f (ap not is) at aside in
          elim (settled (nat_lt 0 f)) [
            | inl some ↦
                let all : b + f ≡ most = grind (arith, nat_tests) in
                let fits : f ≤ count front rs = omega arith in
                moved_front ranks q l rs most b f w (wraps ∙ some) all (omega arith)
                (moves_front ranks q l rs b f rising among at is aside few fits (grind (arith, nat_tests, some)))
            | inr no_more ↦
                let none : f ≡ 0 = grind (arith, nat_tests, no_more) in
                let all : b ≡ most = omega arith in
                moved_behind ranks q l rs most b f w none (wraps ∙ no_more) all (omega arith) (moves_round ranks q l rs b rising among is few)
          ]
    ]

pub line_moves : (ranks : List Rank) (q : Rank) (l : Line) (rs : List Rank) (after ahead most : ℕ) (part : Part) → IsPartOf l after ahead most part
    → after ≡ count (λ r. is_next l.last r) rs → ahead ≡ count (λ r. not (is_next l.last r)) rs → IsRising rs → AreAmong ranks rs
    → stands_in q rs ≡ true → stands_in q (part_sent part rs) ≡ false → HasMoved ranks q l rs most part
line_moves ranks q l rs after ahead most part h behind_is front_is rising among at unsent =
    let same = part_is l after ahead most part h in
    subst (λ (p : Part). HasMoved ranks q l rs most p) (sym same)
    (moved ranks q l rs most part.behind part.front part.wraps rising among at (ap (λ (p : Part). stands_in q (part_sent p rs)) (sym same) ∙ unsent)
    (h.behind ∙ ap (λ n. min n most) behind_is) (h.front ∙ ap (λ n. min n (most - part.behind)) front_is) h.wraps)

-- a line that a tick lets none through of stays as it is
pub line_stays : (l : Line) (part : Part) (rs : List Rank) → IsPartOf l 0 0 0 part → (part_end part rs).last ≡ l.last
line_stays l part rs h =
    let none : part.behind ≡ 0 = omega (arith, h.behind) in
    let none_front : part.front ≡ 0 = omega (arith, h.front) in
    let flat = unwrapped part.front part.wraps h.wraps none_front in
    let same : part ≡ part_at l 0 0 false = part_is l 0 0 0 part h ∙ (λ i. part_at l (none i) (none_front i) (flat i)) in
    ap (λ (p : Part). (part_end p rs).last) same ∙ last_behind l 0 l.last rs ∙ last_stays (λ r. is_next l.last r) 0 l.last rs refl
