-- The processes of a node, one after the other, are calls of its starts.
use Rattle.sv_world.proofs.Prelude.{◌≡◌, ℕ, ◌<◌, ◌≤◌, Bool, true, false, cond, Option, Some, None, List, [], ◌∷◌, ◌++◌, arith, sym, ap, ◌∙◌, subst, nat_le}
use Rattle.sv_world.proofs.Prelude.{AllByRecursion, cond-true, cond-false, le-leb, lt-leb, Setting, AllTouchOnlyHanded, EngineMeaning, TouchesOnlyHanded}
use Rattle.sv_world.proofs.Prelude.{Durable, blank, Turn, Stand, behind_all}
use Rattle.sv_world.proofs.Prelude.{Rise, NodeCall, AreOfProcesses, AreOfLives, setting_by, AreTurnsBy, Process, FollowOn}
use Rattle.sv_world.proofs.Prelude.{turns_of, process_of, meaning_in, nodes_in, setting_of}
use Rattle.sv_node.specs.History.{halted, behind}
use Rattle.sv_node.proofs.HistoryLemmas.{rise_join}
use Rattle.sv_world.specs.Starts.{rules_in, meanings_of, cluster_of}
use Rattle.sv_world.proofs.LivesLemmas.{rise_all, turns_by}

-- ---- two lists of calls, one after the other

turns_join : (ms : ℕ → EngineMeaning) (sets : ℕ → Setting) (s : Stand) (ts us : List Turn) → AreTurnsBy ms sets s ts → AreTurnsBy ms sets (behind_all s ts) us → AreTurnsBy ms sets s (ts ++ us)
turns_join ms sets s [] us a b = b
turns_join ms sets s (t ∷ ts) us a b = (a.0, turns_join ms sets (behind s t) ts us a.1 b)

-- ---- the processes of a node

module _ {n : ℕ} where
  abbrev set_of : Process n → Setting
  set_of p = setting_by p.rules n p.nodes

  -- its starts are those of a plan
  abbrev IsStartedWith : (ℕ → EngineMeaning) → (ℕ → Setting) → Process n → Type 0
  IsStartedWith ms sets p = (boot : ℕ) → p.from.boot < boot → boot ≤ p.to.boot → (p.meaning ≡ ms boot) × (set_of p ≡ sets boot)

  rises : (p : Process n) → p.from.boot ≤ p.to.boot
  rises p = omega (arith, rise_all p.meaning (set_of p) (halted p.from) p.leads.turns p.leads.are, ap (λ (s : Stand). s.node.durable.boot) p.leads.to_is)

  all_turns : (ms : ℕ → EngineMeaning) (sets : ℕ → Setting) (d : Durable) (low : ℕ) (ps : List (Process n)) → FollowOn d low ps → AllByRecursion (IsStartedWith ms sets) ps → AreTurnsBy ms sets (halted d) (turns_of ps)
  all_turns ms sets d low [] follow with_ = tt
  all_turns ms sets d low (p ∷ ps) follow with_ =
      let ends : behind_all (halted p.from) p.leads.turns ≡ halted p.to = p.leads.to_is in
      let own = turns_by p.meaning (set_of p) ms sets p.from.boot p.to.boot (λ b more most. (with_.0 b more most).0) (λ b more most. (with_.0 b more most).1)
      (halted p.from) p.leads.turns (λ is. absurd (let no : false ≡ true = is in cc)) (omega arith) (omega (arith, ap (λ (s : Stand). s.node.durable.boot) ends)) p.leads.are in
      let rest = all_turns ms sets p.to p.high ps follow.2 with_.1 in
      subst (λ x. AreTurnsBy ms sets (halted x) (turns_of (p ∷ ps))) follow.0
      (turns_join ms sets (halted p.from) p.leads.turns (turns_of ps) own (subst (λ s. AreTurnsBy ms sets s (turns_of ps)) (sym ends) rest))

  all_rise : (d : Durable) (low : ℕ) (ps : List (Process n)) → FollowOn d low ps → (high : ℕ) × Rise low high (turns_of ps)
  all_rise d low [] follow = (low, omega arith)
  all_rise d low (p ∷ ps) follow =
      let rest = all_rise p.to p.high ps follow.2 in
      (rest.0, subst (λ x. Rise x rest.0 (turns_of (p ∷ ps))) follow.1 (rise_join p.low p.high rest.0 p.leads.turns (turns_of ps) p.leads.rise rest.1))

  -- ---- the plan of the processes

  abbrev Spans : List (Process n) → Process n → Type 0
  Spans ps p = (boot : ℕ) → p.from.boot < boot → boot ≤ p.to.boot → process_of ps boot ≡ Some p

  -- each begins where those before it have ended, or later
  later : (d : Durable) (low bound : ℕ) (ps : List (Process n)) → bound ≤ d.boot → FollowOn d low ps → AllByRecursion (λ p. bound ≤ p.from.boot) ps
  later d low bound [] le follow = tt
  later d low bound (p ∷ ps) le follow =
      let first : bound ≤ p.from.boot = omega (arith, le, ap (λ (x : Durable). x.boot) follow.0) in
      (first, later p.to p.high bound ps (omega (arith, first, rises p)) follow.2)

  skip : (p : Process n) (all qs : List (Process n)) → AllByRecursion (λ q. p.to.boot ≤ q.from.boot) qs → AllByRecursion (Spans all) qs → AllByRecursion (Spans (p ∷ all)) qs
  skip p all [] after spans = tt
  skip p all (q ∷ qs) after spans =
      ((λ boot more most. cond-false (nat_le boot p.to.boot) (Some p) (process_of all boot) (lt-leb boot p.to.boot (omega (arith, after.0, more))) ∙ spans.0 boot more most), skip p all qs after.1 spans.1)

  spans : (d : Durable) (low : ℕ) (ps : List (Process n)) → FollowOn d low ps → AllByRecursion (Spans ps) ps
  spans d low [] follow = tt
  spans d low (p ∷ ps) follow = (
    (λ boot more most. cond-true (nat_le boot p.to.boot) (Some p) (process_of ps boot) (le-leb boot p.to.boot most)),
    skip p ps ps (later p.to p.high p.to.boot ps (omega arith) follow.2) (spans p.to p.high ps follow.2),
  )

  started_with : (other : EngineMeaning) (all ps : List (Process n)) → AllByRecursion (Spans all) ps
      → AllByRecursion (IsStartedWith (λ boot. meaning_in other (process_of all boot)) (λ boot. setting_by (rules_in (process_of all boot)) n (nodes_in (process_of all boot)))) ps
  started_with other all [] s = tt
  started_with other all (p ∷ ps) s = (
    (λ boot more most.
        let is : process_of all boot ≡ Some p = s.0 boot more most in
        (ap (meaning_in other) (sym is), ap (λ o. setting_by (rules_in o) n (nodes_in o)) (sym is))),
    started_with other all ps s.1,
  )

  -- what holds of each process holds of the one of a start
  of_start : (P : Option (Process n) → Type 0) (ps : List (Process n)) → P None → AllByRecursion (λ p. P (Some p)) ps → (boot : ℕ) → P (process_of ps boot)
  of_start P [] none all boot = none
  of_start P (p ∷ ps) none all boot = by_test (nat_le boot p.to.boot) (Some p) (process_of ps boot) all.0 (of_start P ps none all.1 boot)
    where
      by_test : (b : Bool) (x y : Option (Process n)) → P x → P y → P (cond b x y)
      by_test true x y f g = f
      by_test false x y f g = g

-- ---- all nodes

module _ (other : EngineMeaning) (ps : (n : ℕ) → List (Process n)) (calls : List NodeCall) (are : AreOfLives ps calls) where
  pub all_touch : TouchesOnlyHanded other → AllTouchOnlyHanded (meanings_of other ps)
  all_touch touches n boot = of_start (λ o. TouchesOnlyHanded (meaning_in other o)) (ps n) touches (are.touch n) boot

  told_of_itself : (n boot : ℕ) → n < (cluster_of ps).nodes n boot
  told_of_itself n boot = of_start (λ o. n < nodes_in o) (ps n) (omega arith) (are.inside n) boot

  everywhere : (ls : List NodeCall) → AllByRecursion (λ (l : NodeCall). (boot : ℕ) → l.node < (cluster_of ps).nodes l.node boot) ls
  everywhere [] = tt
  everywhere (l ∷ ls) = (told_of_itself l.node, everywhere ls)

  pub of_lives : AreOfProcesses (meanings_of other ps) (cluster_of ps) calls
  of_lives = record {
    inside = everywhere calls;
    turns = λ n. subst (AreTurnsBy (meanings_of other ps n) (setting_of (cluster_of ps) n) (halted blank)) (sym (are.turns n))
        (all_turns (meanings_of other ps n) (setting_of (cluster_of ps) n) blank 0 (ps n) (are.follow n) (started_with other (ps n) (ps n) (spans blank 0 (ps n) (are.follow n))));
    rise = λ n. subst (λ ts. (high : ℕ) × Rise 0 high ts) (sym (are.turns n)) (all_rise blank 0 (ps n) (are.follow n));
    sent = are.sent;
  }
