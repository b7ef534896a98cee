-- What stops leave of a journal of records.
use Rattle.std.proofs.Common.{◌≡◌, ◌⊎◌, inl, inr, ⊎_elim, ℕ, ◌≤◌, Bool, true, false, cond, List, [], ◌∷◌, ◌++◌, map, sym, subst, arith}
use Rattle.std.specs.Prelude.{Some}
use Rattle.sv_node.proofs.Prelude.{Only, LeavesOnly, OpensOn, OpensEither, JournalView, Holds, disk_a, disk_b, Setting, Record, Durable, applied, spelling}
use Rattle.sv_node.proofs.Prelude.{HasSpelling, Replays, CanFollow, Stores, RestoresOn, Restores, RestoresEither, LeavesEither, LeavesAdded}
use Rattle.sv_node.proofs.RecordLemmas.{replays_more}

-- either side, with its records
pub restored : (set : Setting) (other : List ℕ) (entries more : List (List ℕ)) (d e : Durable) → Replays set entries d → Replays set more e
    → (c : List ℕ) → OpensEither other entries more c → RestoresEither set other d e c
restored set other entries more d e before after c (inl opens) = inl (record { entries = entries; opens = opens; replays = before })
restored set other entries more d e before after c (inr opens) = inr (record { entries = more; opens = opens; replays = after })

oriented : (on_a : Bool) (set : Setting) (a b other : List ℕ) (d : Durable) → RestoresOn set (cond on_a a b) other d → cond on_a b a ≡ other → Restores set a b d
oriented true set a b other d r is = record { entries = r.entries; opens = inl (subst (λ (l : List ℕ). OpensOn a l r.entries) (sym is) r.opens); replays = r.replays }
oriented false set a b other d r is = record { entries = r.entries; opens = inr (inl (subst (λ (l : List ℕ). OpensOn b l r.entries) (sym is) r.opens)); replays = r.replays }

oriented_either : (on_a : Bool) (set : Setting) (a b other : List ℕ) (d e : Durable) → RestoresEither set other d e (cond on_a a b) → cond on_a b a ≡ other → Restores set a b d ⊎ Restores set a b e
oriented_either on_a set a b other d e (inl r) is = inl (oriented on_a set a b other d r is)
oriented_either on_a set a b other d e (inr r) is = inr (oriented on_a set a b other e r is)

pick : {D : Type 0} (may_leave : D → List ℕ → Type 0) (on_a : Bool) (x y : D) (a b : List ℕ) → may_leave (cond on_a x y) a → may_leave (cond on_a y x) b → may_leave x (cond on_a a b) × may_leave y (cond on_a b a)
pick may_leave true x y a b p q = (p, q)
pick may_leave false x y a b p q = (q, p)

module _ {D : Type 0} (tells : D → Type 0) (seen : D → List ℕ) (may_leave : D → List ℕ → Type 0) (moment : D → ℕ) (left_since : D → ℕ → List ℕ → Type 0) where
  pub weaker : (old new : D) (P Q : List ℕ → Type 0) → ((c : List ℕ) → P c → Q c) → LeavesOnly moment left_since old new P → LeavesOnly moment left_since old new Q
  weaker old new P Q f l = record { later = l.later; each = λ c left. f c (l.each c left); before = λ t c le left. ⊎_elim (λ past. inl past) (λ here. inr (f c here)) (l.before t c le left) }

  pub opens_on : (journal : JournalView D) (entries : List (List ℕ)) → Holds seen may_leave journal entries → OpensOn (seen journal.current) (seen journal.other) entries
  opens_on journal entries h = record { generation = journal.generation; journal = h.keeps.image; older = h.older }

  restores_on : (journal : JournalView D) (set : Setting) (d : Durable) → Stores seen may_leave journal set d → RestoresOn set (seen journal.current) (seen journal.other) d
  restores_on journal set d s = record { entries = s.entries; opens = opens_on journal s.entries s.holds; replays = s.replays }

  -- what is left while nothing is called
  pub stores_left : (journal : JournalView D) (set : Setting) (d : Durable) → Stores seen may_leave journal set d
      → (a b : List ℕ) → may_leave (disk_a journal) a → may_leave (disk_b journal) b → Restores set a b d
  stores_left journal set d s a b left_a left_b =
      let p = pick may_leave journal.on_a journal.current journal.other a b left_a left_b in
      oriented journal.on_a set a b (seen journal.other) d
      (subst (λ (c : List ℕ). RestoresOn set c (seen journal.other) d) (sym (s.holds.keeps.durable (cond journal.on_a a b) p.0)) (restores_on journal set d s))
      (s.holds.other_durable (cond journal.on_a b a) p.1)

  -- nothing is called
  pub still : ((disk : D) (c : List ℕ) → tells disk → left_since disk (moment disk) c → may_leave disk c)
      → (journal : JournalView D) (set : Setting) (d e : Durable) → tells journal.current → Stores seen may_leave journal set d
      → LeavesOnly moment left_since journal.current journal.current (RestoresEither set (seen journal.other) d e)
  still only_now journal set d e told s =
      let here : RestoresEither set (seen journal.other) d e (seen journal.current) = inl (restores_on journal set d s) in
      record {
        later = omega arith;
        each = λ c left. subst (RestoresEither set (seen journal.other) d e) (sym (s.holds.keeps.durable c (only_now journal.current c told left))) here;
        before = λ t c le left. inl left;
      }

  pub still_entries : ((disk : D) (c : List ℕ) → tells disk → left_since disk (moment disk) c → may_leave disk c)
      → (journal : JournalView D) (records : List Record) → tells journal.current → LeavesAdded seen may_leave moment left_since journal journal records
  still_entries only_now journal records told entries h =
      let here : OpensEither (seen journal.other) entries (entries ++ map spelling records) (seen journal.current) = inl (opens_on journal entries h) in
      record {
        later = omega arith;
        each = λ c left. subst (OpensEither (seen journal.other) entries (entries ++ map spelling records)) (sym (h.keeps.durable c (only_now journal.current c told left))) here;
        before = λ t c le left. inl left;
      }

  -- a record is added
  pub adding : (journal : JournalView D) (set : Setting) (d : Durable) (r : Record) (new : D) → (s : Stores seen may_leave journal set d) → HasSpelling r → CanFollow set d (Some r)
      → LeavesOnly moment left_since journal.current new (OpensEither (seen journal.other) s.entries (s.entries ++ spelling r ∷ []))
      → LeavesOnly moment left_since journal.current new (RestoresEither set (seen journal.other) d (applied r d))
  adding journal set d r new s has fits l =
      weaker journal.current new (OpensEither (seen journal.other) s.entries (s.entries ++ spelling r ∷ [])) (RestoresEither set (seen journal.other) d (applied r d))
      (restored set (seen journal.other) s.entries (s.entries ++ spelling r ∷ []) d (applied r d) s.replays (replays_more set s.entries d r s.replays has fits)) l

  -- a record has been added
  pub added : (old new : JournalView D) (set : Setting) (d : Durable) (r : Record) → (s : Stores seen may_leave old set d) → HasSpelling r → CanFollow set d (Some r)
      → Holds seen may_leave new (s.entries ++ spelling r ∷ []) → Stores seen may_leave new set (applied r d)
  added old new set d r s has fits holds = record { entries = s.entries ++ spelling r ∷ []; holds = holds; replays = replays_more set s.entries d r s.replays has fits }

  -- what is left behind a call
  pub left_behind : ((disk : D) (t : ℕ) (c : List ℕ) → tells disk → t ≤ moment disk → may_leave disk c → left_since disk t c)
      → (old new : JournalView D) (set : Setting) (d e : Durable) → tells new.current → new.other ≡ old.other → Only (seen old.other) (may_leave old.other)
      → LeavesOnly moment left_since old.current new.current (RestoresEither set (seen old.other) d e) → LeavesEither may_leave new set d e
  left_behind counts_now old new set d e told same only l = λ a b left_a left_b.
      let p = pick may_leave new.on_a new.current new.other a b left_a left_b in
      oriented_either new.on_a set a b (seen old.other) d e
      (l.each (cond new.on_a a b) (counts_now new.current (moment old.current) (cond new.on_a a b) told l.later p.0))
      (only (cond new.on_a b a) (subst (λ (x : D). may_leave x (cond new.on_a b a)) same p.1))

  -- a journal is read, and no more
  pub reading : (journal : JournalView D) (new : D) (set : Setting) (entries : List (List ℕ)) (d e : Durable) → Holds seen may_leave journal entries → Replays set entries d
      → LeavesOnly moment left_since journal.current new (may_leave journal.current) → LeavesOnly moment left_since journal.current new (RestoresEither set (seen journal.other) d e)
  reading journal new set entries d e h replays l =
      let here : RestoresEither set (seen journal.other) d e (seen journal.current) = inl (record { entries = entries; opens = opens_on journal entries h; replays = replays }) in
      weaker journal.current new (may_leave journal.current) (RestoresEither set (seen journal.other) d e) (λ c left. subst (RestoresEither set (seen journal.other) d e) (sym (h.keeps.durable c left)) here) l
