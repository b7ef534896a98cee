-- A request that is answered.
use Rattle.sv_core.proofs.Prelude.{◌≡◌, ℕ, Bool, Option, Some, None, List, [], ◌∷◌, refl, ap, ◌∙◌, is_some, Key, Secret, Moment, Setting, Parked, Request}
use Rattle.sv_core.proofs.Prelude.{Served, Outcome, Birth, Answer, EngineMeaning, Durable, Node, Absent, Alive, named_change, born_change, entry_of, next_with}
use Rattle.sv_core.proofs.Prelude.{decision_of}
use Rattle.sv_model.specs.declared.outcome.Fate.{Fate}
use Rattle.sv_model.specs.declared.outcome.Fate.TheVariants.{Untouched, Kept, Ended as FateEnded}
use Rattle.sv_model.specs.declared.outcome.Birth.TheVariants.{Ended as BirthEnded}
use Rattle.sv_model.specs.Replay.{applied_if}
use Rattle.sv_model.specs.Serving.{fresh_of, held_in, token_of, fated_keys, born_keys, answered}
use Rattle.sv_core.specs.declared.decision.Decision.{Decision}
use Rattle.sv_core.specs.Decision.{parked_by, want_by}
use Rattle.sv_core.specs.Waiting.{waiting_without, parked_without}

abbrev pub behind : Option (Key × Secret) → Key → Fate → Birth → Durable → Durable
behind named k fate birth d = record d { keys = born_keys d.home k birth (fated_keys d.home named fate d.keys); next = next_with birth d.next }

-- what a record of a request makes of what a node keeps
pub entry_applies : (named : Option (Key × Secret)) (k : Key) (fate : Fate) (birth : Birth) (d : Durable) → applied_if (entry_of (named_change named fate) (born_change k birth)) d ≡ behind named k fate birth d
entry_applies None k fate Absent d = refl
entry_applies None k fate (Alive s) d = refl
entry_applies None k fate BirthEnded d = refl
entry_applies (Some named) k Untouched Absent d = refl
entry_applies (Some named) k Untouched (Alive s) d = refl
entry_applies (Some named) k Untouched BirthEnded d = refl
entry_applies (Some named) k (Kept u) Absent d = refl
entry_applies (Some named) k (Kept u) (Alive s) d = refl
entry_applies (Some named) k (Kept u) BirthEnded d = refl
entry_applies (Some named) k FateEnded Absent d = refl
entry_applies (Some named) k FateEnded (Alive s) d = refl
entry_applies (Some named) k FateEnded BirthEnded d = refl

parks : (set : Setting) (want : ℕ) (leaving : Option ℕ) (parked : List Parked) → parked_by set want (waiting_without leaving) parked ≡ parked_without leaving parked
parks set want None parked = refl
parks set want (Some place) parked = refl

wants : (leaving : Option ℕ) (want : ℕ) → want_by (waiting_without leaving) want ≡ want
wants None want = refl
wants (Some place) want = refl

module _ (m : EngineMeaning) (set : Setting) (n : Node) (moment : Moment) (token : ℕ) (r : Request) (out : Outcome) (leaving : Option ℕ) where
  -- the decision as it is made
  abbrev pub made : Option (Key × Secret) → Bool → Decision
  made named handed = record {
    entry = entry_of (named_change named out.fate) (born_change (fresh_of set n.durable moment).0 out.birth);
    commit = Some (Served (token_of set n.durable token) r moment.now handed (fresh_of set n.durable moment));
    told = out.events;
    outputs = Answer token out.response ∷ [];
    waiting = waiting_without leaving;
  }

  made_answers : decision_of set n (made (m.names r) (is_some (held_in n.durable.keys (m.names r)))) ≡ answered m set n moment token r out (parked_without leaving n.parked)
  made_answers = λ i. record (answered m set n moment token r out (parked_without leaving n.parked)) {
    durable = entry_applies (m.names r) (fresh_of set n.durable moment).0 out.fate out.birth n.durable i;
    parked = parks set n.next_want leaving n.parked i;
    next_want = wants leaving n.next_want i;
  }

  pub answers : (named : Option (Key × Secret)) (handed : Bool) (d : Decision) → d ≡ made named handed → named ≡ m.names r → handed ≡ is_some (held_in n.durable.keys named)
      → decision_of set n d ≡ answered m set n moment token r out (parked_without leaving n.parked)
  answers named handed d is names held =
      ap (decision_of set n) is
      ∙ ap (λ h. decision_of set n (made named h)) held
      ∙ ap (λ w. decision_of set n (made w (is_some (held_in n.durable.keys w)))) names
      ∙ made_answers
