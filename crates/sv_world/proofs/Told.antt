-- What is told and answered is what the commits say, in the list's order.
use Rattle.sv_world.proofs.Prelude.{◌≡◌, ℕ, ◌≤◌, Bool, true, false, cond, Option, Some, None, List, [], ◌∷◌, ◌++◌, arith, refl, sym, ap, ◌∙◌, subst}
use Rattle.sv_world.proofs.Prelude.{option_to_list, filter, map-append, Token, Response, Record, Commit, Served, Expired, Meanings, AllTouchOnlyHanded, after}
use Rattle.sv_world.proofs.Prelude.{store_with, events_with, replies_with, Store, nothing_stored, tokens_in, commits_of, told_of, replies_of, served_of, times}
use Rattle.sv_world.proofs.Prelude.{WorldEvent, Line, Call, Cluster, World, items, commits_in, whole, decision, happens, item_at, quiet_line, whole_line}
use Rattle.sv_world.proofs.Prelude.{store_of, AreLines, IsUnanswered, IsAnswered, IsUnheard, IsHeard, IsToldLine, wholes, whole_events}
use Rattle.std.proofs.Common.{◌+◌}
use Rattle.sv_world.proofs.Arrivals.{times_more}
use Rattle.sv_world.proofs.Events.{behind}
use Rattle.sv_world.proofs.Runs.{Inv, SoundAt, sound_at}

-- the store after a trace
stores : Meanings → Store → List Line → Store
stores m st [] = st
stores m st (l ∷ ls) = stores m (store_with m st l.commit) ls

pub after_one : (m : Meanings) (st : Store) (o : Option Commit) (cs : List Commit) → after m (store_with m st o) cs ≡ after m st (option_to_list o ++ cs)
after_one m st None cs = refl
after_one m st (Some x) cs = refl

stores_are : (m : Meanings) (st : Store) (ls : List Line) → stores m st ls ≡ after m st (commits_of (items ls))
unfolding stores
stores_are m st [] = refl
stores_are m st (l ∷ ls) = stores_are m (store_with m st l.commit) ls ∙ after_one m st l.commit (commits_of (items ls))

lines_snoc : (P : Store → Line → Type 0) (m : Meanings) (st : Store) (ls : List Line) (l : Line) → AreLines P m st ls → P (stores m st ls) l → AreLines P m st (ls ++ l ∷ [])
unfolding stores
lines_snoc P m st [] l h p = (p, tt)
lines_snoc P m st (x ∷ ls) l h p = (h.0, lines_snoc P m (store_with m st x.commit) ls l h.1 p)

more : (P : Store → Line → Type 0) (m : Meanings) (w : World) (l : Line) → AreLines P m nothing_stored w.trace → P (store_of m (commits_in w)) l → AreLines P m nothing_stored (w.trace ++ l ∷ [])
more P m w l h p = lines_snoc P m nothing_stored w.trace l h (subst (λ st. P st l) (sym (stores_are m nothing_stored w.trace)) p)

-- a fact of the line of a whole step, and of any line that tells nothing and puts nothing out
module _ (m : Meanings) (touches : AllTouchOnlyHanded m) (c : Cluster) (P : Store → Line → Type 0)
    (wholes : (w : World) (e : WorldEvent) (call : Call) → SoundAt m c w call.node (decision m c w call)
    → P (store_of m (commits_in w)) (whole_line c w e call (decision m c w call)))
    (quiets : (st : Store) (w : World) (e : WorldEvent) (n : ℕ) (asked : Option Token) (entry : Option Record) (o : Option Commit)
    → P st (quiet_line w e n asked entry o)) where
  happens_lines : (w : World) (e : WorldEvent) → Inv m c w → AreLines P m nothing_stored w.trace → AreLines P m nothing_stored (happens m c w e).trace
  happens_lines w e inv h = behind m c w (λ (v : World). AreLines P m nothing_stored v.trace) e (record {
    still = h;
    whole_by = λ call is r. more P m w _ h (wholes w e call (sound_at m touches c w call inv r));
    torn_by = λ call is r. more P m w _ h (quiets _ w e call.node _ _ _);
    silent_by = λ call is r. more P m w _ h (quiets _ w e call.node _ _ _);
    halt_by = λ n asked _. more P m w _ h (quiets _ w e n _ _ _);
    boots_by = λ n p may none same. more P m w _ h (quiets _ w e n _ _ _);
  })

module _ (m : Meanings) (touches : AllTouchOnlyHanded m) (c : Cluster) where
  -- each line answers what its commit replies, and refuses nobody where it isn't of a whole step
  pub happens_answers : (w : World) (e : WorldEvent) → Inv m c w → AreLines (IsAnswered m) m nothing_stored w.trace
      → AreLines (IsAnswered m) m nothing_stored (happens m c w e).trace
  happens_answers = happens_lines m touches c (IsAnswered m) (λ w e call s. s.replies) (λ st w e n asked entry o. record { replies = refl; refused = refl })

  -- each line tells what its commit and its record say
  pub happens_tells : (w : World) (e : WorldEvent) → Inv m c w → AreLines (IsToldLine m) m nothing_stored w.trace
      → AreLines (IsToldLine m) m nothing_stored (happens m c w e).trace
  happens_tells = happens_lines m touches c (IsToldLine m)
      (λ w e call s. record { events = s.events; mark = s.mark }) (λ st w e n asked entry o. record { events = refl; mark = refl })

-- ---- what the lines say of the whole trace

replied : (m : Meanings) (st : Store) (o : Option Commit) → tokens_in (replies_with m st o) ≡ served_of (option_to_list o)
replied m st None = refl
replied m st (Some (Served token r now handed fresh)) = refl
replied m st (Some (Expired k now)) = refl

tokens_more : (t : Token) (xs ys : List (Token × Response)) → times t (tokens_in (xs ++ ys)) ≡ times t (tokens_in xs) + times t (tokens_in ys)
tokens_more t xs ys = ap (times t) (map-append (λ (a : Token × Response). a.0) xs ys) ∙ times_more t (tokens_in xs) (tokens_in ys)

served_more : (t : Token) (o : Option Commit) (cs : List Commit) → times t (served_of (option_to_list o ++ cs)) ≡ times t (served_of (option_to_list o)) + times t (served_of cs)
served_more t None cs = omega arith
served_more t (Some (Served token r now handed fresh)) cs = omega arith
served_more t (Some (Expired k now)) cs = omega arith

-- each answer is of a request that was served in a whole step
answered_by : (m : Meanings) (st : Store) (t : Token) (l : Line) (ls rest : List Line) (b : Bool) → cond b ((item_at l).replies ≡ replies_with m st l.commit) (IsUnanswered l) → times t (tokens_in (replies_of (items ls))) ≡ times t (served_of (commits_of (items rest)))
    → times t (tokens_in (replies_of (items (l ∷ ls)))) ≡ times t (served_of (commits_of (items (cond b (l ∷ rest) rest))))
answered_by m st t l ls rest true h same = omega (arith, same, tokens_more t (item_at l).replies (replies_of (items ls)), served_more t l.commit (commits_of (items rest)), ap (λ rs. times t (tokens_in rs)) h, ap (times t) (replied m st l.commit))
answered_by m st t l ls rest false h same = omega (arith, same, tokens_more t (item_at l).replies (replies_of (items ls)), ap (λ rs. times t (tokens_in rs)) h.replies)

pub answered : (m : Meanings) (st : Store) (t : Token) (ls : List Line) → AreLines (IsAnswered m) m st ls → times t (tokens_in (replies_of (items ls))) ≡ times t (served_of (commits_of (wholes ls)))
answered m st t [] h = refl
answered m st t (l ∷ ls) h = answered_by m st t l ls (filter (λ x. x.whole) ls) l.whole h.0 (answered m (store_with m st l.commit) t ls h.1)

fewer_by : (t : Token) (l : Line) (ls rest : List Line) (b : Bool) → times t (served_of (commits_of (items rest))) ≤ times t (served_of (commits_of (items ls))) → times t (served_of (commits_of (items (cond b (l ∷ rest) rest)))) ≤ times t (served_of (commits_of (items (l ∷ ls))))
fewer_by t l ls rest true h = omega (arith, h, served_more t l.commit (commits_of (items rest)), served_more t l.commit (commits_of (items ls)))
fewer_by t l ls rest false h = omega (arith, h, served_more t l.commit (commits_of (items ls)))

pub fewer : (t : Token) (ls : List Line) → times t (served_of (commits_of (wholes ls))) ≤ times t (served_of (commits_of (items ls)))
fewer t [] = omega arith
fewer t (l ∷ ls) = fewer_by t l ls (filter (λ x. x.whole) ls) l.whole (fewer t ls)

told_by : (m : Meanings) (st : Store) (l : Line) (b : Bool) → cond b (IsHeard m st l) (IsUnheard l) → l.events ≡ cond b (events_with m st l.commit) []
told_by m st l true h = h.events
told_by m st l false h = h.events

pub told : (m : Meanings) (st : Store) (ls : List Line) → AreLines (IsToldLine m) m st ls → told_of (items ls) ≡ whole_events m st ls
told m st [] h = refl
told m st (l ∷ ls) h = λ i. told_by m st l l.whole h.0 i ++ told m (store_with m st l.commit) ls h.1 i
