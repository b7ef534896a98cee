-- One step of a run: what all of it gives stays.
use Rattle.sv_dispatch.proofs.Prelude.{◌≡◌, ℕ, zero, suc, ◌<◌, ◌≤◌, ◌+◌, ◌-◌, List, [], ◌∷◌, ◌++◌, length, arith, sym, ◌∙◌, ap, refl, subst, All, Some, Result}
use Rattle.sv_dispatch.proofs.Prelude.{Ok, Err, IfOk, OnOk, All-nil, All-pop, Lent, Table, Outcome, outcome, dispatched, current, reentered, whole, work}
use Rattle.sv_dispatch.proofs.Prelude.{weight, IsRunning, IsOpen, IsModeOf, need, Ask, Frame, Mode, Enter, Leave, Ending, Abandoned}
use Rattle.std.proofs.Common.{length-append, reverse}
use Rattle.std.proofs.lemmas.List.{reverse-append}
use Rattle.std.proofs.lemmas.List.Elements.{All-push}
use Rattle.sv_dispatch.specs.Stack.{plugged}
use Rattle.sv_dispatch.specs.declared.mode.Mode.TheVariants.{Nest}

-- a step within the dispatch at hand
pub keeps : (t : Table) (fs : List Frame) (m n m' : Mode) (left left' : ℕ) (l l' : Lent) → length fs < 16 → m ≡ n →
    ((e : ℕ) → current t (suc e) m' left' l' ≡ current t (suc e) n left l) → whole t 16 fs m' left' l' ≡ whole t 16 fs m left l
unfolding whole
keeps t fs m n m' left left' l l' h i f =
    let room : 16 - length fs ≡ suc (15 - length fs) = omega arith in
    rw (i, room) (ap (plugged t (suc (15 - length fs)) (reverse fs)) (f (15 - length fs)))

-- a dispatch that would be too deep
pub too_deep : (t : Table) (fs : List Frame) (m : Mode) (a : Ask) (left : ℕ) (l : Lent) → m ≡ Enter a → 16 ≤ length fs → whole t 16 fs (Leave Abandoned) left l ≡ whole t 16 fs m left l
unfolding whole dispatched
too_deep t fs m a left l i h =
    let room : 16 - length fs ≡ zero = omega arith in
    rw (i, room)

-- a dispatch is put on the stack
pushes : (t : Table) (fs gs : List Frame) (f : Frame) (m : Mode) (a : Ask) (left : ℕ) (l : Lent) → m ≡ Nest f a → gs ≡ fs ++ f ∷ [] → length fs < 16 →
    whole t 16 gs (Enter a) left l ≡ whole t 16 fs m left l
unfolding whole plugged
pushes t fs gs f m a left l i p h =
    let below : 16 - length gs ≡ 15 - length fs = omega (arith, ap length p, length-append fs (f ∷ [])) in
    let room : 16 - length fs ≡ suc (15 - length fs) = omega arith in
    let turned : reverse gs ≡ f ∷ reverse fs = ap reverse p ∙ reverse-append fs (f ∷ []) in
    rw (i, below, room, turned)

-- and so it is where memory is given for it
pub pushes_over : {E : Type 0} (r : Result Mode E) (t : Table) (fs gs : List Frame) (f : Frame) (m : Mode) (a : Ask) (left : ℕ) (l : Lent) → m ≡ Nest f a → OnOk r (gs ≡ fs ++ f ∷ []) → IfOk r (λ next. next ≡ Enter a) → length fs < 16 →
    IfOk r (λ next. whole t 16 gs next left l ≡ whole t 16 fs m left l)
pushes_over (Ok next) t fs gs f m a left l i p n h = ap (λ (x : Mode). whole t 16 gs x left l) n ∙ pushes t fs gs f m a left l i p h
pushes_over (Err x) t fs gs f m a left l i p n h = tt

-- a dispatch is taken from the stack
pub pops : (t : Table) (fs gs : List Frame) (f : Frame) (m m' : Mode) (ended : Ending) (left : ℕ) (l l' : Lent) → m ≡ Leave ended → fs ≡ gs ++ f ∷ [] → length fs ≤ 16 →
    ((e left : ℕ) → current t (suc e) m' left l' ≡ reentered t e f (outcome ended left l)) → whole t 16 gs m' left l' ≡ whole t 16 fs m left l
unfolding whole plugged
pops t fs gs f m m' ended left l l' i p h k =
    let below : 16 - length fs ≡ 15 - length gs = omega (arith, ap length p, length-append gs (f ∷ [])) in
    let room : 16 - length gs ≡ suc (15 - length gs) = omega (arith, h, ap length p, length-append gs (f ∷ [])) in
    let turned : reverse fs ≡ f ∷ reverse gs = ap reverse p ∙ reverse-append gs (f ∷ []) in
    rw (i, below, room, turned) (ap (plugged t (suc (15 - length gs)) (reverse gs)) (k (15 - length gs) left))

pushes_running : (t : Table) (fs gs : List Frame) (f : Frame) (m : Mode) (a : Ask) → m ≡ Nest f a → gs ≡ fs ++ f ∷ [] → IsRunning t fs m → IsRunning t gs (Enter a)
pushes_running t fs gs f m a i p h =
    let there : IsOpen t f.held = subst (IsModeOf t) i h.mode in
    let room : length fs + 1 ≤ 16 = omega (arith, h.room, ap need i) in
    record {
      mode = tt;
      frames = subst (All (λ (x : Frame). IsOpen t x.held)) (sym p) (All-push (λ (x : Frame). IsOpen t x.held) fs f h.frames there);
      room = omega (arith, room, ap length p, length-append fs (f ∷ []));
    }

pub pushes_running_over : {E : Type 0} (r : Result Mode E) (t : Table) (fs gs : List Frame) (f : Frame) (m : Mode) (a : Ask) → m ≡ Nest f a → OnOk r (gs ≡ fs ++ f ∷ []) → IfOk r (λ next. next ≡ Enter a) → IsRunning t fs m → IfOk r (IsRunning t gs)
pushes_running_over (Ok next) t fs gs f m a i p n h = subst (IsRunning t gs) (sym n) (pushes_running t fs gs f m a i p h)
pushes_running_over (Err x) t fs gs f m a i p n h = tt

-- a dispatch that waits takes less than the one that asked for it
pub pushes_less : {E : Type 0} (r : Result Mode E) (fs gs : List Frame) (f : Frame) (m : Mode) (a : Ask) (left : ℕ) → m ≡ Nest f a → OnOk r (gs ≡ fs ++ f ∷ []) → IfOk r (λ next. next ≡ Enter a) →
    IfOk r (λ next. work gs next left < work fs m left)
pushes_less (Ok next) fs gs f m a left i p n = omega (arith, ap weight i, ap weight n, ap length p, length-append fs (f ∷ []))
pushes_less (Err x) fs gs f m a left i p n = tt

pub pops_running : {E : Type 0} (r : Result Mode E) (t : Table) (fs gs : List Frame) (f : Frame) (m : Mode) → fs ≡ gs ++ f ∷ [] → IsRunning t fs m → IfOk r (IsModeOf t) → IfOk r (λ mode. need mode ≤ 1) → IfOk r (IsRunning t gs)
pops_running (Ok mode) t fs gs f m p h held small = record {
  mode = held;
  frames = (All-pop (λ (x : Frame). IsOpen t x.held) fs gs (Some f) p h.frames).0;
  room = omega (arith, small, h.room, ap length p, length-append gs (f ∷ []));
}
pops_running (Err x) t fs gs f m p h held small = tt

-- at the start the stack is empty
pub starts : (t : Table) (fs : List Frame) (m : Mode) (left : ℕ) (l : Lent) → fs ≡ [] → whole t 16 fs m left l ≡ current t 16 m left l
unfolding whole plugged
starts t fs m left l e = rw e

pub starts_running : (t : Table) (fs : List Frame) (m : Mode) → fs ≡ [] → IsModeOf t m → need m ≤ 1 → IsRunning t fs m
starts_running t fs m e h n = rw e (record { mode = h; frames = All-nil (λ (f : Frame). IsOpen t f.held); room = omega (arith, n) })

-- at the end too
pub ends : (t : Table) (fs : List Frame) (m : Mode) (ended : Ending) (left : ℕ) (l : Lent) (o : Outcome) → fs ≡ [] → m ≡ Leave ended → whole t 16 fs m left l ≡ o → outcome ended left l ≡ o
unfolding whole plugged
ends t fs m ended left l o e i h = rw (e, i) at h

pub no_frames : (fs : List Frame) (n : ℕ) → n ≡ length fs → n ≡ 0 → fs ≡ []
no_frames [] n l z = refl
no_frames (f ∷ fs) n l z = absurd (omega arith)
