-- Objects that are put into their applications.
use Rattle.sv_container.proofs.Prelude.{◌≡◌, ◌≢◌, ℕ, ◌<◌, ◌≤◌, ◌+◌, zero, suc, List, [], ◌∷◌, ◌++◌, length, get_or, set, take, drop, map, arith, sym, ◌∙◌, ap}
use Rattle.sv_container.proofs.Prelude.{refl, All, subst, append-nil, append_assoc, get_or-set_other, map-append, take_more_set, drop_all, take_all, All-append}
use Rattle.sv_container.proofs.Prelude.{All-cons, All-map, Phase, New, rows, Hosted, App, IsSoundApp, identity_of, frame_of, identities_of, plan_with}
use Rattle.sv_container.proofs.Prelude.{AreNamedNew, hosted_of, Application, Named}
use Rattle.std.proofs.lemmas.List.{drop-map, length-set, take-map}
use Rattle.std.proofs.Math.Seq.{drop-cons}
use Rattle.std.proofs.lemmas.List.Elements.{All-drop, All-take}
use Rattle.sv_servlet.specs.Filter.{Filters}
use Rattle.sv_servlet.specs.Servlet.{Serves}
use Rattle.sv_container.specs.Application.{Identity, Plan, is_able, plan_of}
use Rattle.sv_container.specs.Deployment.{identity_of_named, plans_for}
use Rattle.sv_container.specs.Life.{AreAble, AreNew}

-- ---- the next object

pub record Next {X : Type 0} (xs : List X) (n : ℕ) (x : X) (rest : List X) : Type 0 where
  pub taken : take (suc n) xs ≡ take n xs ++ x ∷ []
  pub dropped : drop (suc n) xs ≡ rest
  pub within : n < length xs

head_of : {X : Type 0} → X → List X → X
head_of d [] = d
head_of d (z ∷ zs) = z

tail_of : {X : Type 0} → List X → List X
tail_of [] = []
tail_of (z ∷ zs) = zs

next_is : {X : Type 0} (xs : List X) (n : ℕ) (x : X) (rest : List X) → drop n xs ≡ x ∷ rest → Next xs n x rest
unfolding head_of tail_of
next_is [] zero x rest h = absurd cc
next_is [] (suc n) x rest h = absurd cc
next_is (y ∷ ys) zero x rest h = record { taken = ap (λ l. head_of y l ∷ []) h; dropped = ap tail_of h; within = omega arith }
next_is (y ∷ ys) (suc n) x rest h =
    let t = next_is ys n x rest h in
    record { taken = ap (λ l. y ∷ l) t.taken; dropped = t.dropped; within = omega (arith, t.within) }

pub more_dropped : {X : Type 0} (xs : List X) (n : ℕ) (x : X) (rest : List X) → drop n xs ≡ x ∷ rest → rest ≡ drop (n + 1) xs
more_dropped xs n x rest h =
    let on : n + 1 ≡ suc n = omega arith in
    sym (ap (λ m. drop m xs) on ∙ (next_is xs n x rest h).dropped)

pub one_more_hosted : {O : Type 0} (xs : List (Named O)) (n : ℕ) (x : Named O) (rest : List (Named O)) → drop n xs ≡ x ∷ rest
    → map hosted_of (take n xs) ++ hosted_of x ∷ [] ≡ map hosted_of (take (n + 1) xs)
one_more_hosted xs n x rest h =
    let on : n + 1 ≡ suc n = omega arith in
    sym (map-append hosted_of (take n xs) (x ∷ [])) ∙ ap (map hosted_of) (sym (ap (λ m. take m xs) on ∙ (next_is xs n x rest h).taken))

pub one_more_filled : {O : Type 0} (xs : List (Named O)) (n : ℕ) (x : Named O) (rest : List (Named O)) (old new : List (Hosted O)) (h : Hosted O) → drop n xs ≡ x ∷ rest
    → old ≡ map hosted_of (take n xs) → h ≡ hosted_of x → new ≡ old ++ h ∷ [] → new ≡ map hosted_of (take (n + 1) xs)
one_more_filled xs n x rest old new h here filled its pushed =
    pushed ∙ (ap (λ l. l ++ h ∷ []) filled ∙ (ap (λ o. map hosted_of (take n xs) ++ o ∷ []) its ∙ one_more_hosted xs n x rest here))

-- ---- the objects of an application

module _ {O M : Type 0} (meaning : O → M) (phase : O → Phase) where
  pub identities_hosted : (ns : List (Named O)) → map identity_of (rows meaning phase (map hosted_of ns)) ≡ identities_of meaning ns
  unfolding rows identities_of
  identities_hosted [] = refl
  identities_hosted (n ∷ ns) = ap (λ l. identity_of_named meaning n ∷ l) (identities_hosted ns)

  pub identities_taken : (k : ℕ) (ns : List (Named O)) → map identity_of (rows meaning phase (map hosted_of (take k ns))) ≡ take k (identities_of meaning ns)
  unfolding identities_of
  identities_taken k ns = identities_hosted (take k ns) ∙ sym (take-map (identity_of_named meaning) k ns)

  pub identities_filled : (k : ℕ) (ns : List (Named O)) (hs : List (Hosted O)) → hs ≡ map hosted_of (take k ns)
      → map identity_of (rows meaning phase hs) ≡ take k (identities_of meaning ns)
  identities_filled k ns hs e = ap (λ l. map identity_of (rows meaning phase l)) e ∙ identities_taken k ns

  pub identities_dropped : (k : ℕ) (ns : List (Named O)) → identities_of meaning (drop k ns) ≡ drop k (identities_of meaning ns)
  unfolding identities_of
  identities_dropped k ns = sym (drop-map (identity_of_named meaning) k ns)

  pub new_taken : (k : ℕ) (ns : List (Named O)) (hs : List (Hosted O)) → hs ≡ map hosted_of (take k ns) → AreNamedNew phase ns → AreNew phase hs
  new_taken k ns hs e fresh =
      subst (AreNew phase) (sym e) (All-map (λ h. phase h.object ≡ New) hosted_of (take k ns) (All-take (λ n. phase n.object ≡ New) k ns fresh))

  pub new_dropped : (k : ℕ) (ns ns' : List (Named O)) → ns' ≡ drop k ns → AreNamedNew phase ns → AreNamedNew phase ns'
  new_dropped k ns ns' e fresh = subst (AreNamedNew phase) (sym e) (All-drop (λ n. phase n.object ≡ New) k ns fresh)

  pub identities_left : (k : ℕ) (ns ns' : List (Named O)) → ns' ≡ drop k ns → identities_of meaning ns' ≡ drop k (identities_of meaning ns)
  identities_left k ns ns' e = ap (identities_of meaning) e ∙ identities_dropped k ns

-- ---- one more application

drop_next : {X : Type 0} (xs : List X) (at : ℕ) (d : X) → at < length xs → drop at xs ≡ get_or xs at d ∷ drop (at + 1) xs
drop_next xs at d h =
    let on : suc at ≡ at + 1 = omega arith in
    drop-cons xs at d h ∙ ap (λ m. get_or xs at d ∷ drop m xs) on

-- where the loop over the applications stands
pub record Assembled {S F : Type 0} (app : Application S F → App) (old new : List (Application S F)) (at : ℕ)
    (servlets all_servlets : List (Identity Serves)) (filters all_filters : List (Identity Filters)) : Type 0 where
  pub long : length new ≡ length old
  pub rest : (k : ℕ) (d : Application S F) → at ≤ k → k < length old → get_or new k d ≡ get_or old k d
  pub plans : map plan_of (map app (take at new)) ++ plans_for (map frame_of (drop at old)) servlets filters ≡ plans_for (map frame_of old) all_servlets all_filters
  pub sound : All IsSoundApp (map app (take at new))
  pub service : All (λ a. a.is_in_service ≡ is_able a) (map app (take at new))

module _ {S F : Type 0} (app : Application S F → App) (old new : List (Application S F)) (at : ℕ)
    (ss all_ss ss' : List (Identity Serves)) (fs all_fs fs' : List (Identity Filters)) (n m : Application S F) where
  more_taken : at < length new → map app (take (at + 1) (set new at m)) ≡ map app (take at new) ++ app m ∷ []
  more_taken h = ap (map app) (take_more_set new at m h) ∙ map-append app (take at new) (m ∷ [])

  one_plan : List Plan → List (Application S F) → Type 0
  one_plan front behind = front ++ plans_for (map frame_of behind) ss fs ≡ plans_for (map frame_of old) all_ss all_fs

  unfold_plan : (behind : List (Application S F)) → plans_for (map frame_of (n ∷ behind)) ss fs
      ≡ plan_with (frame_of n) (take (frame_of n).servlets ss) (take (frame_of n).filters fs) ∷ plans_for (map frame_of behind) (drop (frame_of n).servlets ss) (drop (frame_of n).filters fs)
  unfolding plans_for
  unfold_plan behind = refl

  pub one_more_assembled : Assembled app old new at ss all_ss fs all_fs → at < length old → n ≡ get_or new at n
      → IsSoundApp (app m) → (app m).is_in_service ≡ is_able (app m)
      → plan_of (app m) ≡ plan_with (frame_of n) (take (frame_of n).servlets ss) (take (frame_of n).filters fs)
      → ss' ≡ drop (frame_of n).servlets ss → fs' ≡ drop (frame_of n).filters fs
      → Assembled app old (set new at m) (at + 1) ss' all_ss fs' all_fs
  unfolding one_plan
  one_more_assembled c h e sound service plan s f =
      let within : at < length new = rw c.long h in
      let here : n ≡ get_or old at n = e ∙ c.rest at n (omega arith) h in
      let dropped : drop at old ≡ n ∷ drop (at + 1) old = drop_next old at n h ∙ ap (λ x. x ∷ drop (at + 1) old) (sym here) in
      let old_plans : one_plan (map plan_of (map app (take at new))) (n ∷ drop (at + 1) old) = subst (one_plan (map plan_of (map app (take at new)))) dropped c.plans in
      record {
        long = length-set new at m ∙ c.long;
        rest = λ k d a b. let other : k ≢ at = λ q. omega (arith, q, a) in get_or-set_other new at k m d other ∙ c.rest k d (omega (arith, a)) b;
        plans =
            rw (s, f, more_taken within, map-append plan_of (map app (take at new)) (app m ∷ []), append_assoc (map plan_of (map app (take at new))) (plan_of (app m) ∷ []) (plans_for (map frame_of (drop (at + 1) old)) (drop (frame_of n).servlets ss) (drop (frame_of n).filters fs)), plan, ← unfold_plan (drop (at + 1) old))
            old_plans;
        sound = subst (All IsSoundApp) (sym (more_taken within)) (All-append IsSoundApp (map app (take at new)) (app m ∷ []) c.sound (All-cons IsSoundApp (app m) [] sound (λ k d l. absurd (omega (arith, l)))));
        service = subst (All (λ a. a.is_in_service ≡ is_able a)) (sym (more_taken within))
            (All-append (λ a. a.is_in_service ≡ is_able a) (map app (take at new)) (app m ∷ []) c.service (All-cons (λ a. a.is_in_service ≡ is_able a) (app m) [] service (λ k d l. absurd (omega (arith, l)))));
      }

-- and where it ends
module _ {S F : Type 0} (app : Application S F → App) (old new : List (Application S F)) (at : ℕ)
    (ss all_ss : List (Identity Serves)) (fs all_fs : List (Identity Filters)) (c : Assembled app old new at ss all_ss fs all_fs) (end : length old ≤ at) where
  taken_all : take at new ≡ new
  taken_all = take_all at new (omega (arith, c.long, end))

  pub all_sound : All IsSoundApp (map app new)
  all_sound = subst (λ (l : List (Application S F)). All IsSoundApp (map app l)) taken_all c.sound

  pub all_able : AreAble (map app new)
  all_able = subst (λ (l : List (Application S F)). AreAble (map app l)) taken_all c.service

  no_plans : (behind : List (Application S F)) → behind ≡ [] → plans_for (map frame_of behind) ss fs ≡ []
  unfolding plans_for
  no_plans behind none = ap (λ l. plans_for (map frame_of l) ss fs) none

  pub all_planned : map plan_of (map app new) ≡ plans_for (map frame_of old) all_ss all_fs
  all_planned =
      sym (ap (λ l. map plan_of (map app l)) taken_all)
      ∙ (sym (append-nil (map plan_of (map app (take at new))))
      ∙ (ap (λ l. map plan_of (map app (take at new)) ++ l) (sym (no_plans (drop at old) (drop_all at old end)))
      ∙ c.plans))
