-- Entries that are added after the others.
use Rattle.std.proofs.Common.{◌≡◌, ◌≢◌, inl, inr, ℕ, ◌^◌, ◌+◌, ◌-◌, ◌<◌, max, List, [], ◌∷◌, ◌++◌, length, drop, set, refl, sym, ◌∙◌, ap, subst, arith, length-append, length-drop}
use Rattle.std.proofs.lemmas.Bool.{cases_eq}
use Rattle.std.proofs.lemmas.Grind.{flat_map-append}
use Rattle.std.proofs.lemmas.List.{append_assoc, append-nil, set_at}
use Rattle.std.specs.Int.{w32, to_be_bytes}
use Rattle.std.specs.List.{flat_map, AllByRecursion}
use Rattle.sv_journal.specs.Batch.{Stages, bytes_in}
use Rattle.sv_journal.specs.declared.batch.Batch.{Batch}
use Rattle.sv_journal.specs.Disk.{LeavesOnly}
use Rattle.sv_journal.specs.Format.{entry, header, front, IsPayload, IsJournal, IsOlder, OpensEither, HasEntries}
use Rattle.sv_journal.specs.Commit.{Rests, IsSettled, IsCommitting}
use Rattle.sv_journal.specs.Journal.{JournalView, Keeps}
use Rattle.sv_journal.proofs.EntryLemmas.{all_append, ends}
use Rattle.sv_journal.proofs.Quiet.{leaves_weaker}

regroup : (h f e z : List ℕ) → (h ++ (f ++ e)) ++ z ≡ (h ++ f) ++ (e ++ z)
regroup h f e z = simp append_assoc

module _ (news : List (List ℕ)) where
  -- what is written after the closed gate: the new entries but for the first one's gate, and the next closed gate
  abbrev pub IsStaged : List ℕ → Type 0
  IsStaged bytes = 165 ∷ bytes ≡ flat_map entry news ++ 0 ∷ []

  pub length_staged : (bytes : List ℕ) → IsStaged bytes → length bytes ≡ length (flat_map entry news)
  length_staged bytes staged = omega (arith, ap length staged, length-append (flat_map entry news) (0 ∷ []))

  pub grown : (bytes : List ℕ) (before after : ℕ) → IsStaged bytes → after ≡ before + length bytes → after ≡ before + length (flat_map entry news)
  grown bytes before after staged is = omega (arith, is, length_staged bytes staged)

  module _ (generation : ℕ) (entries : List (List ℕ)) where
    pub length_front : length (front generation (entries ++ news)) ≡ length (front generation entries) + length (flat_map entry news)
    length_front =
        let f = flat_map entry entries in
        let h = header generation in
        ap (λ (l : List ℕ). length (h ++ l)) (flat_map-append entry entries news)
        ∙ omega (arith, length-append h (f ++ flat_map entry news), length-append f (flat_map entry news), length-append h f)

    pub pushed : (bytes junk : List ℕ) → IsStaged bytes → front generation entries ++ 165 ∷ (bytes ++ junk) ≡ front generation (entries ++ news) ++ 0 ∷ junk
    pushed bytes junk staged =
        let e = flat_map entry news in
        let tail : 165 ∷ (bytes ++ junk) ≡ e ++ 0 ∷ junk = ap (λ (l : List ℕ). l ++ junk) staged ∙ append_assoc e (0 ∷ []) junk in
        ap (λ (l : List ℕ). front generation entries ++ l) tail
        ∙ sym (regroup (header generation) (flat_map entry entries) e (0 ∷ junk))
        ∙ ap (λ (l : List ℕ). (header generation ++ l) ++ 0 ∷ junk) (sym (flat_map-append entry entries news))

    module _ (small : generation < 2 ^ 64) (payloads : AllByRecursion IsPayload entries) (fits : AllByRecursion IsPayload news) (bytes : List ℕ) (staged : IsStaged bytes) where
      pub journal_pushed : (junk image : List ℕ) → image ≡ front generation entries ++ 165 ∷ (bytes ++ junk) → IsJournal image generation (entries ++ news)
      journal_pushed junk image is = record {
        small = small;
        payloads = all_append IsPayload entries news payloads fits;
        gate = 0;
        rest = junk;
        shut = λ e. cc;
        whole = is ∙ pushed bytes junk staged;
      }

      pub either : (b : List ℕ) (gate most : ℕ) (junk image : List ℕ) → IsOlder b generation → gate ≢ 165 → IsCommitting (front generation entries) gate most (bytes ++ junk) image → OpensEither b entries (entries ++ news) image
      either b gate most junk image older shut (inl kept) =
          inl (record { generation = generation; journal = record { small = small; payloads = payloads; gate = gate; rest = kept.0; shut = shut; whole = kept.2 }; older = older })
      either b gate most junk image older shut (inr any) =
          elim (cases_eq any.0 165) [
            | inl is ↦ inr (record { generation = generation; journal = journal_pushed junk image (any.1 ∙ ap (λ (g : ℕ). front generation entries ++ g ∷ (bytes ++ junk)) is); older = older })
            | inr not ↦ inl (record { generation = generation; journal = record { small = small; payloads = payloads; gate = any.0; rest = bytes ++ junk; shut = not; whole = any.1 }; older = older })
          ]

-- one entry more in a batch, whose gate is opened last
pub added : (entries : List (List ℕ)) (payload bytes put : List ℕ) (gate_at : ℕ) → bytes ≡ flat_map entry entries ++ 0 ∷ [] → gate_at ≡ length bytes - 1 → put ≡ bytes ++ (to_be_bytes w32 (length payload) ++ payload ++ 0 ∷ [])
    → set put gate_at 165 ≡ flat_map entry (entries ++ payload ∷ []) ++ 0 ∷ []
added entries payload bytes put gate_at is size put_is =
    let f = flat_map entry entries in
    let tail = to_be_bytes w32 (length payload) ++ payload ++ 0 ∷ [] in
    let place : length f ≡ gate_at = omega (arith, size, ap length is, length-append f (0 ∷ [])) in
    ap (λ (l : List ℕ). set l gate_at 165) (put_is ∙ ap (λ (l : List ℕ). l ++ tail) is ∙ append_assoc f (0 ∷ []) tail)
    ∙ set_at f 0 tail 165 gate_at place
    ∙ sym (append_assoc f (entry payload) (0 ∷ []))
    ∙ ap (λ (l : List ℕ). l ++ 0 ∷ []) (sym (flat_map-append entry entries (payload ∷ []) ∙ ap (λ (l : List ℕ). f ++ l) (append-nil (entry payload))))

-- a batch of no more than a gate has no entries
pub none_staged : (batch : Batch) (entries : List (List ℕ)) → Stages batch entries → length (drop 1 (bytes_in batch)) ≡ 0 → entries ≡ []
none_staged batch [] s few = refl
none_staged batch (p ∷ es) s few =
    absurd (omega (arith, few, ap length s.bytes, length-drop 1 (bytes_in batch), length-append (flat_map entry (p ∷ es)) (0 ∷ [])))

-- a batch that has entries, without its first gate
pub behind_gate : (batch : Batch) (entries : List (List ℕ)) (bytes : List ℕ) → Stages batch entries → bytes ≡ drop 1 (bytes_in batch) → 0 < length bytes → IsStaged entries bytes
behind_gate batch [] bytes stages is some = let none : bytes ≡ [] = is ∙ ap (λ (l : List ℕ). drop 1 l) stages.bytes in absurd (omega (arith, some, ap length none))
behind_gate batch (payload ∷ entries) bytes stages is some = ap (λ (l : List ℕ). 165 ∷ l) (is ∙ ap (λ (l : List ℕ). drop 1 l) stages.bytes)

module _ {D : Type 0} (seen : D → List ℕ) (may_leave : D → List ℕ → Type 0) (journal : JournalView D) (entries : List (List ℕ)) (keeps : Keeps seen may_leave journal entries) where
  pub rests : Rests seen may_leave journal.current (front journal.generation entries) keeps.image.gate keeps.image.rest
  rests = record { image = keeps.image.whole; shut = keeps.image.shut; durable = keeps.durable }

  pub size : length (seen journal.current) ≡ length (front journal.generation entries) + 1 + length keeps.image.rest
  size = ap length keeps.image.whole ∙ omega (arith, length-append (front journal.generation entries) (keeps.image.gate ∷ keeps.image.rest))

  pub gate_within : journal.end < length (seen journal.current)
  gate_within = omega (arith, keeps.end_is, size)

  module _ (news : List (List ℕ)) (fits : AllByRecursion IsPayload news) (bytes : List ℕ) (staged : IsStaged news bytes) where
    -- the journal with the new entries
    pub kept : (next : JournalView D) → IsSettled (front journal.generation entries ++ 165 ∷ (bytes ++ drop (length bytes) keeps.image.rest)) (seen next.current) (may_leave next.current)
        → next.generation ≡ journal.generation → next.end ≡ journal.end + length (flat_map entry news) → next.len ≡ max journal.len (next.end + 1) → Keeps seen may_leave next (entries ++ news)
    kept next settled generation_is end_is len_is =
        let junk = drop (length bytes) keeps.image.rest in
        let grown = length_front news journal.generation entries in
        let whole : length (seen next.current) ≡ length (front journal.generation (entries ++ news)) + 1 + length junk =
        ap length (settled.reads ∙ pushed news journal.generation entries bytes junk staged) ∙ omega (arith, length-append (front journal.generation (entries ++ news)) (0 ∷ junk)) in
        let grew : next.end ≡ length (front journal.generation (entries ++ news)) = omega (arith, end_is, keeps.end_is, grown) in
        record {
          image = subst (λ (n : ℕ). IsJournal (seen next.current) n (entries ++ news)) (sym generation_is) (journal_pushed news journal.generation entries keeps.image.small keeps.image.payloads fits bytes staged junk (seen next.current) settled.reads);
          end_is = grew ∙ ap (λ (n : ℕ). length (front n (entries ++ news))) (sym generation_is);
          len_is = omega (arith, len_is, end_is, whole, size, grown, keeps.end_is, keeps.len_is, length_staged news bytes staged, length-drop (length bytes) keeps.image.rest);
          durable = settled.durable;
        }

    -- each image that is left opens with the old entries or with all of the new ones after them
    pub moments : (moment : D → ℕ) (left_since : D → ℕ → List ℕ → Type 0) (b : List ℕ) (new : D) → IsOlder b journal.generation
        → LeavesOnly moment left_since journal.current new (IsCommitting (front journal.generation entries) keeps.image.gate (max (length keeps.image.rest) (length bytes)) (bytes ++ drop (length bytes) keeps.image.rest))
        → LeavesOnly moment left_since journal.current new (OpensEither b entries (entries ++ news))
    moments moment left_since b new older left =
        let f = front journal.generation entries in
        let junk = drop (length bytes) keeps.image.rest in
        let most = max (length keeps.image.rest) (length bytes) in
        leaves_weaker moment left_since journal.current new (IsCommitting f keeps.image.gate most (bytes ++ junk)) (OpensEither b entries (entries ++ news))
        (λ image c. either news journal.generation entries keeps.image.small keeps.image.payloads fits bytes staged b keeps.image.gate most junk image older keeps.image.shut c)
        left

  -- what stands after the header
  pub live_part : HasEntries (drop 16 (seen journal.current)) entries
  live_part =
      let i = keeps.image in
      ends (drop 16 (seen journal.current)) entries (i.gate ∷ i.rest) (record { payloads = i.payloads; whole = ap (λ (l : List ℕ). drop 16 l) i.whole }) (i.gate, i.rest, i.shut, refl)

  -- the journal after it was read
  pub kept_quiet : (next : JournalView D) → seen next.current ≡ seen journal.current → ((c : List ℕ) → may_leave next.current c → may_leave journal.current c)
      → next.generation ≡ journal.generation → next.end ≡ journal.end → next.len ≡ journal.len → Keeps seen may_leave next entries
  kept_quiet next same stop generation_is end_is len_is = record {
    image = subst (λ (n : ℕ). IsJournal (seen next.current) n entries) (sym generation_is) (subst (λ (l : List ℕ). IsJournal l journal.generation entries) (sym same) keeps.image);
    end_is = end_is ∙ keeps.end_is ∙ ap (λ (n : ℕ). length (front n entries)) (sym generation_is);
    len_is = len_is ∙ keeps.len_is ∙ sym (ap length same);
    durable = λ c left. keeps.durable c (stop c left) ∙ sym same;
  }
