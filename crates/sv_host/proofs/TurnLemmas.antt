-- Steps one after the other: the turn comes to each packet that all their ticks put out.
use Rattle.sv_host.proofs.Prelude.{◌≡◌, ◌≤◌, ◌<◌, ℕ, ◌+◌, ◌-◌, Bool, true, false, not, cond, min, List, [], ◌∷◌, ◌++◌, Option, Some, inl, inr, refl, ap, sym}
use Rattle.sv_host.proofs.Prelude.{◌∙◌, subst, arith, length, or_parts, sum_by-cons, AllByRecursion, sum_by, packet_in, Output, Packets, Sending, All, Share}
use Rattle.sv_host.proofs.Prelude.{Nothing, Line, Part, Rank, sending_end, IsPartOf, behind_in, front_in, is_next, lets, part_of, sent_of, share_after}
use Rattle.sv_host.proofs.Prelude.{share_end, ranks_in, stands_in}
use Rattle.std.proofs.Common.{◌*◌}
use Rattle.std.specs.List.{count_by}
use Rattle.sv_host.specs.declared.packets.Packets.TheVariants as packets
use Rattle.sv_host.specs.declared.round.Round.{Round}
use Rattle.sv_host.specs.declared.round.Share as share
use Rattle.sv_host.specs.declared.round.TheConstants.{OTHERS, ROUND_LIMIT}
use Rattle.sv_host.specs.Packets.{IsSending, round_left, sent_by}
use Rattle.sv_host.specs.Round.{IsShareOf, IsShareOfWants, left_of, most_wants, round_after}
use Rattle.sv_host.specs.Turns.{AreInTurn, KeepsPlaces, PutsOut, SendsEachInTime, SendsEachInTurn, Step, TicksPutOut, is_sent_of, is_tick, kept_for, places_in, places_of}
use Rattle.sv_host.proofs.RankLemmas.{behind, settled}
use Rattle.sv_host.proofs.PartLemmas.{behind_counted, both_sides, front_counted, part_end, part_of_end, sent_by_parts}
use Rattle.sv_host.proofs.LineLemmas.{HasMoved, ahead, ahead_least, ahead_most, line_moves, line_stays}

abbrev line_of : Bool → Round → Line
line_of true round = round.wants
line_of false round = round.others

line_after : (wants : Bool) (s : share.Share) (os : List Output) → (line_of wants (round_after s os)).last ≡ (part_end (part_of s wants) (ranks_in wants os)).last
line_after true s os = ap (λ (p : Part). p.last) (part_of_end s true os)
line_after false s os = ap (λ (p : Part). p.last) (part_of_end s false os)

-- all packets of a line, counted on both sides of its last one
all_counted : (wants : Bool) (last : Option Rank) (os : List Output) → behind_in wants last os + front_in wants last os ≡ length (ranks_in wants os)
all_counted wants last os =
    omega (arith, behind_counted wants last os, front_counted wants last os, both_sides (λ r. is_next last r) (ranks_in wants os))

-- a part of the line that doesn't send a packet which is put out
part_moves : (wants : Bool) (ranks : List Rank) (q : Rank) (l : Line) (most : ℕ) (os : List Output) (s : share.Share)
    → IsPartOf l (behind_in wants l.last os) (front_in wants l.last os) most (part_of s wants) → PutsOut wants ranks q os
    → stands_in q (ranks_in wants (sent_of s os)) ≡ false → HasMoved ranks q l (ranks_in wants os) most (part_of s wants)
part_moves wants ranks q l most os s h puts unsent =
    line_moves ranks q l (ranks_in wants os) _ _ most (part_of s wants) h (behind_counted wants l.last os) (front_counted wants l.last os) puts.rising
    puts.among puts.it (ap (λ rs. stands_in q rs) (sym (sent_by_parts s wants os)) ∙ unsent)

-- the wants leave places for as many others as are kept for them
enough : (after before most behind front count others left : ℕ) → after + before ≡ count → most ≡ ROUND_LIMIT - min others OTHERS
    → behind ≡ min after most → front ≡ min before (most - behind) → left ≡ behind + front → ROUND_LIMIT - left < others
    → ROUND_LIMIT - min count (ROUND_LIMIT - OTHERS) ≤ ROUND_LIMIT - left
enough after before most behind front count others left all is behind_is front_is left_is many = omega arith

-- a share that doesn't send it moves its line by the places that are its
abbrev Moves : Bool → Packets → List Rank → Rank → Round → List Output → Round → Type 0
Moves wants packets ranks q round os next =
    ahead ranks q (line_of wants next).last + places_in wants packets os ≤ ahead ranks q (line_of wants round).last

wants_move : (ranks : List Rank) (q : Rank) (round : Round) (os : List Output) (s : share.Share) → IsShareOfWants round os s → PutsOut true ranks q os
    → stands_in q (ranks_in true (sent_of s os)) ≡ false → Moves true packets.Wants ranks q round os (round_after s os)
wants_move ranks q round os s h puts unsent =
    let moved = part_moves true ranks q round.wants ROUND_LIMIT os s h.wants puts unsent in
    omega (arith, moved.1, ap (λ x. ahead ranks q x) (line_after true s os))

some_wants_move : (ranks : List Rank) (q : Rank) (round : Round) (os : List Output) (s : share.Share) → IsShareOf round os s → PutsOut true ranks q os
    → stands_in q (ranks_in true (sent_of s os)) ≡ false → Moves true packets.InTurn ranks q round os (round_after s os)
some_wants_move ranks q round os s h puts unsent =
    let moved = part_moves true ranks q round.wants _ os s h.wants puts unsent in
    omega (arith, moved.1, ap (λ x. ahead ranks q x) (line_after true s os), all_counted false round.others.last os)

others_stay : (ranks : List Rank) (q : Rank) (round : Round) (os : List Output) (s : share.Share) → IsShareOfWants round os s
    → Moves false packets.Wants ranks q round os (round_after s os)
others_stay ranks q round os s h =
    omega (arith, ap (λ x. ahead ranks q x) (line_after false s os ∙ line_stays round.others s.others (ranks_in false os) h.others))

others_move : (ranks : List Rank) (q : Rank) (round : Round) (os : List Output) (s : share.Share) → IsShareOf round os s → PutsOut false ranks q os
    → stands_in q (ranks_in false (sent_of s os)) ≡ false → Moves false packets.InTurn ranks q round os (round_after s os)
others_move ranks q round os s h puts unsent =
    let moved = part_moves false ranks q round.others (ROUND_LIMIT - left_of s.wants) os s h.others puts unsent in
    let places = enough _ _ _ s.wants.behind s.wants.front (length (ranks_in true os)) (length (ranks_in false os)) (left_of s.wants)
    (all_counted true round.wants.last os) (ap most_wants (all_counted false round.others.last os)) h.wants.behind h.wants.front refl moved.0 in
    omega (arith, moved.1, places, ap (λ x. ahead ranks q x) (line_after false s os))

-- a step that sends of a share leaves that share's round, and sends what is sent of it
end_of_share : (s : share.Share) (os : List Output) → sending_end (Share s) os ≡ Share (share_end s os)
end_of_share s [] = refl
end_of_share s (o ∷ os) = end_of_share (share_after s (packet_in o)) os

sent_of_share : (s : share.Share) (os : List Output) → sent_by (Share s) os ≡ sent_of s os
sent_of_share s [] = refl
sent_of_share s (o ∷ os) = ap (λ rest. cond (lets s (packet_in o)) (o ∷ []) [] ++ rest) (sent_of_share (share_after s (packet_in o)) os)

end_of_all : (os : List Output) → sending_end All os ≡ All
end_of_all [] = refl
end_of_all (o ∷ os) = end_of_all os

end_of_nothing : (os : List Output) → sending_end Nothing os ≡ Nothing
end_of_nothing [] = refl
end_of_nothing (o ∷ os) = end_of_nothing os

-- one that sends all, or nothing, leaves the round as it is
stays : (wants : Bool) (ranks : List Rank) (q : Rank) (round next : Round) → next ≡ round
    → ahead ranks q (line_of wants next).last + 0 ≤ ahead ranks q (line_of wants round).last
stays wants ranks q round next same = omega (arith, ap (λ x. ahead ranks q (line_of wants x).last) same)

left_by_all : (round : Round) (sending : Sending) (os : List Output) → sending ≡ All → round_left round (sending_end sending os) ≡ round
left_by_all round sending os e = ap (λ x. round_left round (sending_end x os)) e ∙ ap (λ x. round_left round x) (end_of_all os)

left_by_nothing : (round : Round) (sending : Sending) (os : List Output) → sending ≡ Nothing → round_left round (sending_end sending os) ≡ round
left_by_nothing round sending os e = ap (λ x. round_left round (sending_end x os)) e ∙ ap (λ x. round_left round x) (end_of_nothing os)

left_by_share : (wants : Bool) (packets : Packets) (ranks : List Rank) (q : Rank) (round : Round) (os : List Output) (s : share.Share)
    → Moves wants packets ranks q round os (round_after s os) → Moves wants packets ranks q round os (round_left round (sending_end (Share s) os))
left_by_share wants packets ranks q round os s moved =
    subst (λ (x : Sending). Moves wants packets ranks q round os (round_left round x)) (sym (end_of_share s os)) moved

unsent_of : (wants : Bool) (q : Rank) (os : List Output) (s : share.Share) → stands_in q (ranks_in wants (sent_by (Share s) os)) ≡ false
    → stands_in q (ranks_in wants (sent_of s os)) ≡ false
unsent_of wants q os s unsent = ap (λ xs. stands_in q (ranks_in wants xs)) (sym (sent_of_share s os)) ∙ unsent

step_moves : (wants : Bool) (packets : Packets) (sending : Sending) (ranks : List Rank) (q : Rank) (round : Round) (os : List Output)
    → IsSending packets round os sending → (is_tick wants packets ≡ true → PutsOut wants ranks q os)
    → stands_in q (ranks_in wants (sent_by sending os)) ≡ false → Moves wants packets ranks q round os (round_left round (sending_end sending os))
step_moves true packets.All sending ranks q round os h puts unsent = stays true ranks q round _ (left_by_all round sending os h)
step_moves false packets.All sending ranks q round os h puts unsent = stays false ranks q round _ (left_by_all round sending os h)
step_moves true packets.Nothing sending ranks q round os h puts unsent = stays true ranks q round _ (left_by_nothing round sending os h)
step_moves false packets.Nothing sending ranks q round os h puts unsent = stays false ranks q round _ (left_by_nothing round sending os h)
step_moves wants packets.InTurn All ranks q round os h puts unsent = absurd h
step_moves wants packets.InTurn Nothing ranks q round os h puts unsent = absurd h
step_moves wants packets.Wants All ranks q round os h puts unsent = absurd h
step_moves wants packets.Wants Nothing ranks q round os h puts unsent = absurd h
step_moves true packets.InTurn (Share s) ranks q round os h puts unsent =
    left_by_share true packets.InTurn ranks q round os s (some_wants_move ranks q round os s h (puts refl) (unsent_of true q os s unsent))
step_moves false packets.InTurn (Share s) ranks q round os h puts unsent =
    left_by_share false packets.InTurn ranks q round os s (others_move ranks q round os s h (puts refl) (unsent_of false q os s unsent))
step_moves true packets.Wants (Share s) ranks q round os h puts unsent =
    left_by_share true packets.Wants ranks q round os s (wants_move ranks q round os s h (puts refl) (unsent_of true q os s unsent))
step_moves false packets.Wants (Share s) ranks q round os h puts unsent =
    left_by_share false packets.Wants ranks q round os s (others_stay ranks q round os s h)

-- while a packet isn't sent, so many stand before it as places were given
unsent_far : (wants : Bool) (ranks : List Rank) (q : Rank) (round : Round) (ss : List Step) → AreInTurn round ss → TicksPutOut wants ranks q ss
    → stands_in q ranks ≡ true → is_sent_of wants q ss ≡ false
    → behind ranks (Some q) + 1 + sum_by (λ s. places_of wants s) ss ≤ ahead ranks q (line_of wants round).last
unsent_far wants ranks q round [] turns puts at unsent = omega (arith, ahead_least ranks q (line_of wants round).last at)
unsent_far wants ranks q round (s ∷ ss) (turn, turns) (put, puts) at unsent =
    let apart = or_parts (stands_in q (ranks_in wants (sent_by s.sending s.outputs))) (is_sent_of wants q ss) unsent in
    let now = step_moves wants s.packets s.sending ranks q round s.outputs turn put apart.0 in
    let later = unsent_far wants ranks q (round_left round (sending_end s.sending s.outputs)) ss turns puts at apart.1 in
    omega (arith, now, later, sum_by-cons (λ (x : Step). places_of wants x) s ss)

pub sends_each : SendsEachInTurn
sends_each wants ranks q round ss turns puts at few = elim (settled (is_sent_of wants q ss)) [
  | inl sent ↦ sent
  | inr unsent ↦
      let far = unsent_far wants ranks q round ss turns puts at unsent in
      absurd (omega (arith, far, ahead_most ranks q (line_of wants round).last))
]

one_place : (tick : Bool) (most places : ℕ) → (tick ≡ true → most ≤ places) → cond tick 1 0 * most ≤ places
one_place true most places fits = omega (arith, fits refl)
one_place false most places fits = omega arith

sum_of_all : (wants : Bool) (most : ℕ) (ss : List Step) → AllByRecursion (λ s. is_tick wants s.packets ≡ true → most ≤ places_of wants s) ss
    → count_by (λ s. is_tick wants s.packets) ss * most ≤ sum_by (λ s. places_of wants s) ss
sum_of_all wants most [] fits = omega arith
sum_of_all wants most (s ∷ ss) (fit, fits) =
    let n = count_by (λ (x : Step). is_tick wants x.packets) ss in
    let more : count_by (λ (x : Step). is_tick wants x.packets) (s ∷ ss) ≡ cond (is_tick wants s.packets) 1 0 + n
    = sum_by-cons (λ (x : Step). cond (is_tick wants x.packets) 1 0) s ss in
    rw more (omega (
      arith,
      one_place (is_tick wants s.packets) most (places_of wants s) fit,
      sum_of_all wants most ss fits,
      sum_by-cons (λ (x : Step). places_of wants x) s ss,
    ))

pub sends_in_time : SendsEachInTime
sends_in_time wants most ranks q round ss turns puts at fits few =
    sends_each wants ranks q round ss turns puts at (omega (arith, few, sum_of_all wants most ss fits))

keeps_some : (wants : Bool) (packets : Packets) (os : List Output) → is_tick wants packets ≡ true → kept_for wants ≤ places_in wants packets os
keeps_some true packets.InTurn os tick = omega arith
keeps_some true packets.Wants os tick = omega arith
keeps_some false packets.InTurn os tick = omega arith
keeps_some true packets.All os tick = grind (arith, tick)
keeps_some true packets.Nothing os tick = grind (arith, tick)
keeps_some false packets.All os tick = grind (arith, tick)
keeps_some false packets.Wants os tick = grind (arith, tick)
keeps_some false packets.Nothing os tick = grind (arith, tick)

keeps_all : (wants : Bool) (packets : Packets) (os : List Output) → is_tick wants packets ≡ true → ranks_in (not wants) os ≡ []
    → places_in wants packets os ≡ ROUND_LIMIT
keeps_all true packets.InTurn os tick none = rw none refl
keeps_all true packets.Wants os tick none = refl
keeps_all false packets.InTurn os tick none = rw none refl
keeps_all true packets.All os tick none = grind (arith, tick)
keeps_all true packets.Nothing os tick none = grind (arith, tick)
keeps_all false packets.All os tick none = grind (arith, tick)
keeps_all false packets.Wants os tick none = grind (arith, tick)
keeps_all false packets.Nothing os tick none = grind (arith, tick)

pub keeps_places : KeepsPlaces
keeps_places = record {
  some = λ wants s. keeps_some wants s.packets s.outputs;
  all = λ wants s. keeps_all wants s.packets s.outputs;
}
