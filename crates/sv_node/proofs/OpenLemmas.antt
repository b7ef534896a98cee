-- What an opening finds, and what a stop leaves of disks that it has handed back.
use Rattle.std.proofs.Common.{◌≡◌, ◌⊎◌, inl, inr, ⊎_elim, ℕ, ◌≤◌, Bool, true, false, cond, List, sym, ap, ◌∙◌, subst}
use Rattle.std.proofs.Common.{◌+◌, Some, arith, refl}
use Rattle.sv_node.proofs.Prelude.{Only, LeavesOnly, TellsOn, HasRisen, OpensWithoutLoss, JournalFault, Setting, Blank, Record, Durable, Node as State}
use Rattle.sv_node.proofs.Prelude.{IsSetting, IsRecord, IsRanged, Boot, Forgets, blank, boot_record, replayed, AllFit, record_format, IsSpelling, Damaged}
use Rattle.sv_node.proofs.Prelude.{Device, Full, Spell, Replays, CanFollow, Restores}
use Rattle.sv_journal.specs.Format.{Opens, OpensAlike}
use Rattle.sv_journal.proofs.JournalLemmas.{one_opening}
use Rattle.sv_journal.specs.declared.journal_fault.JournalFault.TheVariants as journal
use Rattle.sv_core.specs.declared.fault.ApplyFault.{ApplyFault}
use Rattle.sv_core.specs.declared.fault.ApplyFault.TheVariants as apply
use Rattle.std.proofs.lemmas.Bool.{cond_both}
use Rattle.sv_core.proofs.RangeLemmas.{starts_journaled, starts_ranged}
use Rattle.sv_record.proofs.KindLaws.{record_lawful}
use Rattle.sv_record.proofs.WholeLaws.{one_value}
use Rattle.sv_node.specs.Fault.{open_fault, apply_fault}
use Rattle.sv_node.specs.Opened.{LeavesStart, LeavesUnstarted, restarted}
use Rattle.sv_node.proofs.RecordLemmas.{one_list}

pub was_damaged : (f : JournalFault) → open_fault f ≡ Damaged → f ≡ journal.Damaged
was_damaged journal.Failed is = absurd cc
was_damaged journal.Damaged is = refl
was_damaged journal.Full is = absurd cc
was_damaged journal.Device is = absurd cc
was_damaged journal.Memory is = absurd cc

pub was_bad : (f : ApplyFault) → apply_fault f ≡ Damaged → f ≡ apply.BadRecord
was_bad apply.BadRecord is = refl
was_bad apply.Memory is = absurd cc

pub not_device : (f : ApplyFault) → apply_fault f ≡ Device → ⊥
not_device apply.BadRecord is = cc
not_device apply.Memory is = cc

pub not_full : (f : ApplyFault) → apply_fault f ≡ Full → ⊥
not_full apply.BadRecord is = cc
not_full apply.Memory is = cc

pub was_device : (f : JournalFault) → (f ≡ journal.Damaged) ⊎ (f ≡ journal.Device) → open_fault f ≡ Device → f ≡ journal.Device
was_device f (inl damaged) is = absurd (let other : open_fault f ≡ Damaged = ap open_fault damaged in cc)
was_device f (inr device) is = device

pub was_full : (f : JournalFault) → (f ≡ journal.Damaged) ⊎ (f ≡ journal.Device) → open_fault f ≡ Full → ⊥
was_full f (inl damaged) is = let other : open_fault f ≡ Damaged = ap open_fault damaged in cc
was_full f (inr device) is = let other : open_fault f ≡ Device = ap open_fault device in cc

pub either_same : {P : Type 0} → P ⊎ P → P
either_same (inl p) = p
either_same (inr p) = p

-- a call of the current disk has failed
pub has_risen : {D : Type 0} (failed : D → ℕ) (on_a : Bool) (current other final a b : D) → failed (cond on_a current other) ≡ failed a → failed (cond on_a other current) ≡ failed b
    → HasRisen (failed current) (failed final) → HasRisen (failed a) (failed (cond on_a final other)) ⊎ HasRisen (failed b) (failed (cond on_a other final))
has_risen failed true current other final a b of_a of_b risen = inl (subst (λ (n : ℕ). HasRisen n (failed final)) of_a risen)
has_risen failed false current other final a b of_a of_b risen = inr (subst (λ (n : ℕ). HasRisen n (failed final)) of_b risen)

pub current_tells : {D : Type 0} (tells : D → Type 0) (on_a : Bool) (current other : D) → tells (cond on_a current other) → tells (cond on_a other current) → tells current
current_tells tells true current other a b = a
current_tells tells false current other a b = b

pub both_tell : {D : Type 0} (tells : D → Type 0) (on_a : Bool) (current other : D) → tells current → tells other → tells (cond on_a current other) × tells (cond on_a other current)
both_tell tells true current other a b = (a, b)
both_tell tells false current other a b = (b, a)

one : (bytes : List ℕ) (a b : Record) → IsSpelling bytes a → IsSpelling bytes b → a ≡ b
one = one_value record_format record_lawful

pub fits_too : (set : Setting) (entries : List (List ℕ)) (rs : List Record) (d : Durable) → Spell entries rs → Replays set entries d → AllFit set Blank blank rs
fits_too set entries rs d s r = subst (λ (xs : List Record). AllFit set Blank blank xs) (one_list one entries r.records rs r.spelled s) r.fit

pub gives_too : (set : Setting) (entries : List (List ℕ)) (rs : List Record) (d : Durable) → Spell entries rs → Replays set entries d → d ≡ replayed blank rs
gives_too set entries rs d s r = sym r.gives ∙ ap (replayed blank) (one_list one entries r.records rs r.spelled s)

pub recovered : (set : Setting) (entries : List (List ℕ)) (rs ss : List Record) (d : Durable) → Spell entries rs → ss ≡ rs → AllFit set Blank blank ss → d ≡ replayed blank ss → Replays set entries d
recovered set entries rs ss d s is fit gives = record { records = ss; spelled = subst (Spell entries) (sym is) s; fit = fit; gives = sym gives }

pub one_state : (set : Setting) (a b : List ℕ) (d e : Durable) → Restores set a b d → Restores set a b e → d ≡ e
one_state set a b d e r s =
    let same : r.entries ≡ s.entries = one_opening a b r.entries s.entries r.opens s.opens in
    gives_too set s.entries s.replays.records d s.replays.spelled (subst (λ (es : List (List ℕ)). Replays set es d) same r.replays) ∙ s.replays.gives

pub restarted_ranged : (set : Setting) (n : State) → IsSetting set → IsRanged n → IsRanged (record n { durable = restarted set n.durable })
restarted_ranged set n is r = (starts_ranged set n is r).left_is

-- the record of a start may be written, and may stand after the others
pub start_ranged : (set : Setting) (d : Durable) → IsSetting set → IsRecord (boot_record set d)
start_ranged set d is = cond_both set.forget (Forgets set.node (d.boot + 1)) (Boot (d.boot + 1)) (λ r. IsRecord r) (λ _. (omega (arith, is.few, is.inside), omega arith)) (λ _. omega arith)

pub start_follows : (set : Setting) (n : State) → CanFollow set n.durable (Some (boot_record set n.durable))
start_follows set n = (starts_journaled set n).fits

-- the disks A and B tell on, of which the current one alone is written
pub tell_on : {D : Type 0} (tells : D → Type 0) (on_a : Bool) (current other new a b : D) → TellsOn tells a (cond on_a current other) → TellsOn tells b (cond on_a other current)
    → TellsOn tells current new → TellsOn tells a (cond on_a new other) × TellsOn tells b (cond on_a other new)
tell_on tells true current other new a b of_a of_b more =
    (record { tells_after = λ t. more.tells_after (of_a.tells_after t); told_before = λ t. of_a.told_before (more.told_before t) }, of_b)
tell_on tells false current other new a b of_a of_b more =
    (of_a, record { tells_after = λ t. more.tells_after (of_b.tells_after t); told_before = λ t. of_b.told_before (more.told_before t) })

-- a promise of one state is that of an equal one
pub at_state : (P Q : Setting → Durable → Type 0) (s t : Setting) (x y : Durable) → s ≡ t → x ≡ y → (P s x → Q s x) → P t y → Q t y
at_state P Q s t x y a b f p = subst (λ (z : Setting). Q z y) a (subst (λ (z : Durable). Q s z) b (f (subst (λ (z : Durable). P s z) (sym b) (subst (λ (z : Setting). P z y) (sym a) p))))

-- disk A opens with what it opened with before
pub alike : (set : Setting) (a b x y : List ℕ) (d : Durable) → Restores set a b d → y ≡ b → OpensAlike a b x → Restores set x y d
alike set a b x y d r is o =
    let same : o.0 ≡ r.entries = one_opening a b o.0 r.entries o.1 r.opens in
    record { entries = r.entries; opens = subst (λ (l : List ℕ). Opens x l r.entries) (sym is) (subst (λ (es : List (List ℕ)). Opens x b es) same o.2); replays = r.replays }

module _ {D : Type 0} (tells : D → Type 0) (seen : D → List ℕ) (may_leave : D → List ℕ → Type 0) (moment : D → ℕ) (left_since : D → ℕ → List ℕ → Type 0)
    (counts_now : (disk : D) (t : ℕ) (c : List ℕ) → tells disk → t ≤ moment disk → may_leave disk c → left_since disk t c)
    (set : Setting) (a b new_a new_b : D) (told_a : tells new_a) (told_b : tells new_b) (d : Durable) (r : Restores set (seen a) (seen b) d) where
  pub refused_unstarted : OpensWithoutLoss seen may_leave moment left_since a b new_a new_b → LeavesUnstarted may_leave set a b d new_a new_b
  refused_unstarted w x y left_x left_y =
      let at_x = λ (P : List ℕ → Type 0) (l : LeavesOnly moment left_since a new_a P). l.each x (counts_now new_a (moment a) x told_a l.later left_x) in
      let old_y : may_leave b y = w.of_b.each y (counts_now new_b (moment b) y told_b w.of_b.later left_y) in
      ⊎_elim (λ (only : Only (seen b) (may_leave new_b)).
      ⊎_elim (λ old_x. inl (old_x, old_y)) (λ o. inr (alike set (seen a) (seen b) x y d r (only y left_y) o)) (at_x (λ c. may_leave a c ⊎ OpensAlike (seen a) (seen b) c) w.of_a))
      (λ (still : LeavesOnly moment left_since a new_a (may_leave a)). inl (at_x (may_leave a) still, old_y)) w.apart

  pub refused_left : OpensWithoutLoss seen may_leave moment left_since a b new_a new_b → LeavesStart may_leave set a b d new_a new_b
  refused_left w x y left_x left_y = ⊎_elim (λ old. inl old) (λ gives. inr (inl gives)) (refused_unstarted w x y left_x left_y)
