-- Each answer is of one commit, that of its own line.
use Rattle.sv_world.proofs.Prelude.{◌≡◌, ℕ, ◌≤◌, Bool, true, false, cond, Option, Some, None, List, [], ◌∷◌, ◌++◌, arith, refl, sym, ap, ◌∙◌, subst, ⊎_elim}
use Rattle.sv_world.proofs.Prelude.{append_assoc, append-nil, option_to_list, map-append, flat_map-append, Key, Secret, Token, Request, Response, Commit}
use Rattle.sv_world.proofs.Prelude.{Served, Expired, Meanings, after, reply_of, MayStand, AllMayStand, store_with, replies_with, Store, nothing_stored, Item}
use Rattle.sv_world.proofs.Prelude.{commits_of, served_of, served_by, same_token, times, arrival_behind, In, Line, World, items, commits_in, item_at, AreLines}
use Rattle.sv_world.proofs.Prelude.{IsUnanswered, IsAnswered, IsAnswer, AreAnswers}
use Rattle.std.proofs.Common.{length}
use Rattle.sv_world.proofs.Arrivals.{one_if, token_self, times_more}
use Rattle.sv_world.proofs.Told.{after_one}

-- a line of a trace
line_at : (m : Meanings) (st : Store) (before behind : List Line) (l : Line) → AreLines (IsAnswered m) m st (before ++ l ∷ behind) → IsAnswered m (after m st (commits_of (items before))) l
line_at m st [] behind l h = h.0
line_at m st (x ∷ before) behind l h = subst (λ s. IsAnswered m s l) (after_one m st x.commit (commits_of (items before))) (line_at m (store_with m st x.commit) before behind l h.1)

-- a commit of a list
commit_at : (m : Meanings) (arr : Token → ℕ) (first before behind : List Commit) (c : Commit) → AllMayStand m arr first (before ++ c ∷ behind) → MayStand m arr (first ++ before) c
commit_at m arr first [] behind c h = subst (λ cs. MayStand m arr cs c) (sym (append-nil first)) h.0
commit_at m arr first (x ∷ before) behind c h = subst (λ cs. MayStand m arr cs c) (append_assoc first (x ∷ []) before) (commit_at m arr (first ++ x ∷ []) before behind c h.1)

commits_at : (before behind : List Line) (l : Line) (c : Commit) → l.commit ≡ Some c → commits_of (items (before ++ l ∷ behind)) ≡ commits_of (items before) ++ c ∷ commits_of (items behind)
commits_at before behind l c is =
    ap commits_of (map-append item_at before (l ∷ behind)) ∙ flat_map-append (λ (i : Item). option_to_list i.commit) (items before) (item_at l ∷ items behind)
    ∙ ap (λ o. commits_of (items before) ++ (option_to_list o ++ commits_of (items behind))) is

abbrev token_or : Token → Option (Token × Response) → Token
token_or u None = u
token_or u (Some p) = p.0

module _ (m : Meanings) (w : World) (stands : AllMayStand m (arrival_behind 0 (items w.trace)) [] (commits_in w)) (once : (t : Token) → times t (served_of (commits_in w)) ≤ 1) (before behind : List Line) (l : Line) (here : w.trace ≡ before ++ l ∷ behind) (t : Token) (response : Response) where
  served_answer : (token : Token) (r : Request) (now : ℕ) (handed : Bool) (fresh : Key × Secret) → l.commit ≡ Some (Served token r now handed fresh)
      → reply_of m (after m nothing_stored (commits_of (items before))) (Served token r now handed fresh) ≡ Some (t, response) → IsAnswer m w before l t response
  served_answer token r now handed fresh is same =
      let c = Served token r now handed fresh in
      let at : commits_in w ≡ commits_of (items before) ++ c ∷ commits_of (items behind) = ap (λ ls. commits_of (items ls)) here ∙ commits_at before behind l c is in
      let may : MayStand m (arrival_behind 0 (items w.trace)) (commits_of (items before)) c = commit_at m (arrival_behind 0 (items w.trace)) [] (commits_of (items before)) (commits_of (items behind)) c (subst (AllMayStand m (arrival_behind 0 (items w.trace)) []) at stands) in
      let mine : token ≡ t = ap (token_or token) same in
      record {
        commit = c;
        stands = is;
        reply = same;
        arrived = subst (λ z. arrival_behind 0 (items w.trace) z ≤ length (commits_of (items before))) mine may.0;
        once = omega (arith, once t, ap (λ cs. times t (served_of cs)) at, ap (times t) (flat_map-append served_by (commits_of (items before)) (c ∷ commits_of (items behind))), times_more t (served_of (commits_of (items before))) (token ∷ served_of (commits_of (items behind))), ap one_if (ap (same_token t) mine ∙ token_self t));
      }

  by_commit : (o : Option Commit) → l.commit ≡ o → In (t, response) (replies_with m (after m nothing_stored (commits_of (items before))) o) → IsAnswer m w before l t response
  by_commit None is i = absurd i
  by_commit (Some (Served token r now handed fresh)) is i = ⊎_elim (λ e. served_answer token r now handed fresh is (ap (λ (p : Token × Response). Some p) e)) (λ (x : ⊥). absurd x) i
  by_commit (Some (Expired k now)) is i = absurd i

  by_line : (b : Bool) → cond b ((item_at l).replies ≡ replies_with m (after m nothing_stored (commits_of (items before))) l.commit) (IsUnanswered l) → In (t, response) (item_at l).replies → IsAnswer m w before l t response
  by_line true h i = by_commit l.commit refl (subst (In (t, response)) h i)
  by_line false h i = absurd (subst (In (t, response)) h.replies i)

pub are_answers : (m : Meanings) (w : World) → AreLines (IsAnswered m) m nothing_stored w.trace → AllMayStand m (arrival_behind 0 (items w.trace)) [] (commits_in w) → ((t : Token) → times t (served_of (commits_in w)) ≤ 1) → AreAnswers m w
are_answers m w fit stands once before l behind t response here i = by_line m w stands once before behind l here t response l.whole (line_at m nothing_stored before behind l (subst (AreLines (IsAnswered m) m nothing_stored) here fit)) i
