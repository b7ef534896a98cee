-- The two calls that lay zeros out after all that a disk has, and the journal there.
use Rattle.std.proofs.Common.{◌≡◌, inl, inr, ℕ, ◌+◌, ◌-◌, ◌≤◌, List, [], ◌∷◌, ◌++◌, length, take, drop, refl, sym, ◌∙◌, ap, subst, arith, length-append, take-append-drop}
use Rattle.std.proofs.lemmas.List.{append-nil, append_assoc, take_at, length-take-le}
use Rattle.sv_journal.specs.Ahead.{IsLengthened, IsReady}
use Rattle.sv_journal.specs.Commit.{IsSettled}
use Rattle.sv_journal.specs.Disk.{Torn, Stays, Only, Passes, LeavesOnly}
use Rattle.sv_journal.specs.Format.{front, IsJournal, IsOlder, OpensEither}
use Rattle.sv_journal.specs.Journal.{JournalView, Keeps}
use Rattle.sv_journal.proofs.Moments.{Reached, begun, goes_on, stays}

module _ {D : Type 0} (tells : D → Type 0) (seen : D → List ℕ) (may_leave : D → List ℕ → Type 0) (moment : D → ℕ) (left_since : D → ℕ → List ℕ → Type 0)
    (only_now : (disk : D) (c : List ℕ) → tells disk → left_since disk (moment disk) c → may_leave disk c)
    (old : D) (told : tells old) where
  abbrev P : List ℕ → Type 0
  P = IsLengthened (seen old)

  abbrev Goes : (List ℕ → List ℕ → Type 0) → D → D → Type 0
  Goes = Passes tells may_leave moment left_since

  abbrev At : D → Type 0
  At new = Reached tells may_leave moment left_since old new P P

  pub reached0 : Only (seen old) (may_leave old) → At old
  reached0 only = begun tells may_leave moment left_since old P P told (λ c left. only_now old c told left) (λ c may. ([], only c may ∙ sym (append-nil (seen old)))) (λ c p. p)

  module _ (end : ℕ) (size : end ≡ length (seen old)) where
    behind : (n : ℕ) (rest c : List ℕ) → Torn end n (seen old ++ rest) c → P c
    behind n rest c torn = (drop end c, sym (take-append-drop end c) ∙ ap (λ (l : List ℕ). l ++ drop end c) (torn.before ∙ take_at (seen old) rest end (sym size)))

    pub reached1 : (n : ℕ) (d1 : D) → Only (seen old) (may_leave old) → Goes (Torn end n) old d1 → At d1
    reached1 n d1 only p1 =
        goes_on tells may_leave moment left_since old old d1 P P P (Torn end n) (reached0 only) p1
        (λ d c p torn. behind n p.0 c (subst (λ (l : List ℕ). Torn end n l c) p.1 torn)) (λ c p. p)

    pub reached2 : (n : ℕ) (d1 d2 : D) → Only (seen old) (may_leave old) → Goes (Torn end n) old d1 → Goes Stays d1 d2 → At d2
    reached2 n d1 d2 only p1 p2 = stays tells may_leave moment left_since old d1 d2 P P (reached1 n d1 only p1) p2 (λ c p. p)

    -- zeros as far as there was room for them, and a sync
    pub laid : (zeros : List ℕ) (n : ℕ) (d1 d2 : D) → end ≤ n → n ≤ end + length zeros → seen d1 ≡ seen old ++ take (n - end) zeros → seen d2 ≡ seen d1 → Only (seen d1) (may_leave d2)
        → IsReady (seen old) n (seen d2) (may_leave d2)
    laid zeros n d1 d2 from to put same only =
        (take (n - end) zeros, record { reads = same ∙ put; durable = λ c left. only c left ∙ sym same }, omega (arith, size, length-take-le (n - end) zeros (omega (arith, to))))

module _ {D : Type 0} (seen : D → List ℕ) (may_leave : D → List ℕ → Type 0) (journal : JournalView D) (entries : List (List ℕ)) (keeps : Keeps seen may_leave journal entries) where
  -- an image with anything more after it is a journal of the same entries
  pub journal_lengthened : (image : List ℕ) → IsLengthened (seen journal.current) image → IsJournal image journal.generation entries
  journal_lengthened image l =
      let i = keeps.image in
      record {
        small = i.small;
        payloads = i.payloads;
        gate = i.gate;
        rest = i.rest ++ l.0;
        shut = i.shut;
        whole = l.1 ∙ ap (λ (x : List ℕ). x ++ l.0) i.whole ∙ append_assoc (front journal.generation entries) (i.gate ∷ i.rest) l.0;
      }

  -- the journal on the disk that was made ready
  pub ready_keeps : (next : JournalView D) → IsReady (seen journal.current) next.len (seen next.current) (may_leave next.current)
      → next.generation ≡ journal.generation → next.end ≡ journal.end → Keeps seen may_leave next entries
  ready_keeps next ready generation_is end_is =
      let rest = ready.0 in
      let settled = ready.1 in
      record {
        image = subst (λ (n : ℕ). IsJournal (seen next.current) n entries) (sym generation_is) (journal_lengthened (seen next.current) (rest, settled.reads));
        end_is = end_is ∙ keeps.end_is ∙ ap (λ (n : ℕ). length (front n entries)) (sym generation_is);
        len_is = omega (arith, ready.2, ap length settled.reads, length-append (seen journal.current) rest);
        durable = settled.durable;
      }

  -- each image that is left meanwhile opens with the same entries
  pub either : (b : List ℕ) (after : List (List ℕ)) (image : List ℕ) → IsOlder b journal.generation → IsLengthened (seen journal.current) image → OpensEither b entries after image
  either b after image older l = inl (record { generation = journal.generation; journal = journal_lengthened image l; older = older })
