-- The records that entries spell.
use Rattle.std.proofs.Common.{◌≡◌, ℕ, zero, suc, List, [], ◌∷◌, ◌++◌, length, drop, refl, sym, ap, ◌∙◌, subst}
use Rattle.std.specs.Prelude.{map, Some, Ok, Err}
use Rattle.std.specs.List.{AllByRecursion}
use Rattle.sv_node.proofs.Prelude.{Setting, Blank, Record, Durable, blank, applied, replayed, Two, spelling, HasSpelling, IsSpelling, staged, OpenFault}
use Rattle.sv_node.proofs.Prelude.{Damaged, Spell, Replays, CanFollow}
use Rattle.sv_model.specs.declared.node.Stage.{Stage}
use Rattle.sv_model.specs.Fitting.{Fits, AllFit, stage_behind}
use Rattle.sv_record.specs.declared.fault.RecordFault.{RecordFault}
use Rattle.sv_record.specs.declared.fault.RecordFault.TheVariants.{Truncated, BadVersion, Foreign, BadField, Memory}
use Rattle.sv_record.specs.Reading.{Gives}
use Rattle.sv_node.specs.Fault.{read_fault}

pub spell_length : (entries : List (List ℕ)) (rs : List Record) → Spell entries rs → length rs ≡ length entries
spell_length [] [] s = refl
spell_length [] (r ∷ rs) s = absurd s
spell_length (p ∷ ps) [] s = absurd s
spell_length (p ∷ ps) (r ∷ rs) s = ap suc (spell_length ps rs s.1)

-- ---- one record more

replayed_more : (d : Durable) (rs : List Record) (r : Record) → replayed d (rs ++ r ∷ []) ≡ applied r (replayed d rs)
replayed_more d [] r = refl
replayed_more d (x ∷ xs) r = replayed_more (applied x d) xs r

fit_more : (set : Setting) (stage : Stage) (d : Durable) (rs : List Record) (r : Record) → AllFit set stage d rs → Fits set (staged stage rs) (replayed d rs) r → AllFit set stage d (rs ++ r ∷ [])
fit_more set stage d [] r fit last = (last, tt)
fit_more set stage d (x ∷ xs) r fit last = (fit.0, fit_more set (stage_behind x stage) (applied x d) xs r fit.1 last)

pub all_more : (P : Record → Type 0) (rs : List Record) (r : Record) → AllByRecursion P rs → P r → AllByRecursion P (rs ++ r ∷ [])
all_more P [] r all last = (last, tt)
all_more P (x ∷ xs) r all last = (all.0, all_more P xs r all.1 last)

pub spell_more : (entries : List (List ℕ)) (rs : List Record) (p : List ℕ) (r : Record) → Spell entries rs → IsSpelling p r → Spell (entries ++ p ∷ []) (rs ++ r ∷ [])
spell_more [] [] p r s is = (is, tt)
spell_more [] (x ∷ rs) p r s is = absurd s
spell_more (q ∷ ps) [] p r s is = absurd s
spell_more (q ∷ ps) (x ∷ rs) p r s is = (s.0, spell_more ps rs p r s.1 is)

-- what is written is a spelling
pub written : (p : List ℕ) (r : Record) → HasSpelling r → p ≡ spelling r → IsSpelling p r
written p r has is = record { version = Two; has = has; is = is }

pub map_more : (rs : List Record) (r : Record) → map spelling (rs ++ r ∷ []) ≡ map spelling rs ++ spelling r ∷ []
map_more [] r = refl
map_more (x ∷ xs) r = ap (λ (l : List (List ℕ)). spelling x ∷ l) (map_more xs r)

pub replays_more : (set : Setting) (entries : List (List ℕ)) (d : Durable) (r : Record) → Replays set entries d → HasSpelling r → CanFollow set d (Some r)
    → Replays set (entries ++ spelling r ∷ []) (applied r d)
replays_more set entries d r old has fits =
    record {
      records = old.records ++ r ∷ [];
      spelled = spell_more entries old.records (spelling r) r old.spelled (written (spelling r) r has refl);
      fit = fit_more set Blank blank old.records r old.fit (subst (λ (e : Durable). Fits set (staged Blank old.records) e r) (sym old.gives) (fits (staged Blank old.records)));
      gives = replayed_more blank old.records r ∙ ap (applied r) old.gives;
    }

-- ---- no record

first_is : (q p : List ℕ) (qs ps : List (List ℕ)) → q ∷ qs ≡ p ∷ ps → q ≡ p
first_is q p qs ps e = cc

-- of entries one of which is a spelling of no record, there are no records
pub nowhere : (i : ℕ) (all : List (List ℕ)) (p : List ℕ) (ps : List (List ℕ)) → drop i all ≡ p ∷ ps → ((r : Record) → IsSpelling p r → ⊥) → (rs : List Record) → Spell all rs → ⊥
nowhere zero [] p ps here bad rs s = absurd cc
nowhere (suc i) [] p ps here bad rs s = absurd cc
nowhere i (q ∷ qs) p ps here bad [] s = s
nowhere zero (q ∷ qs) p ps here bad (r ∷ rs) s = bad r (subst (λ (x : List ℕ). IsSpelling x r) (first_is q p qs ps here) s.0)
nowhere (suc i) (q ∷ qs) p ps here bad (r ∷ rs) s = nowhere i qs p ps here bad rs s.1

-- ---- one list of records

module _ (one : (bytes : List ℕ) (a b : Record) → IsSpelling bytes a → IsSpelling bytes b → a ≡ b) where
  pub one_list : (entries : List (List ℕ)) (rs ss : List Record) → Spell entries rs → Spell entries ss → rs ≡ ss
  one_list [] [] [] a b = refl
  one_list [] [] (s ∷ ss) a b = absurd b
  one_list [] (r ∷ rs) ss a b = absurd a
  one_list (p ∷ ps) [] ss a b = absurd a
  one_list (p ∷ ps) (r ∷ rs) [] a b = absurd b
  one_list (p ∷ ps) (r ∷ rs) (s ∷ ss) a b = ap (λ (x : Record). x ∷ rs) (one p r s a.0 b.0) ∙ ap (λ (xs : List Record). s ∷ xs) (one_list ps rs ss a.1 b.1)

-- ---- what can't be read

-- bytes that a record has are not damaged
pub not_damaged : (f : RecordFault) (o : OpenFault) (r : Record) → o ≡ read_fault f → o ≡ Damaged → Gives (λ (x : Record). x) (Err f) (Ok r) → ⊥
not_damaged Truncated o r is damaged gives = cc
not_damaged BadVersion o r is damaged gives = cc
not_damaged Foreign o r is damaged gives = cc
not_damaged BadField o r is damaged gives = cc
not_damaged Memory o r is damaged gives = cc
