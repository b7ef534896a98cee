-- The laws of the container function.
use Rattle.std.proofs.Common.{◌≡◌, ℕ, ◌<◌, Bool, true, false, cond, Option, Some, None, List, refl, sym, ap, ◌∙◌, subst, length}
use Rattle.std.specs.Prelude.{IfSome, slice_get, option_and_then, option_map, is_some, ◌&&◌, []}
use Rattle.std.proofs.lemmas.Option.{get_or_from_slice_get, same_Some, slice_get_within}
use Rattle.sv_model.specs.declared.key.Key.{Key}
use Rattle.sv_model.specs.declared.key.Secret.{Secret}
use Rattle.sv_model.specs.declared.request.Request.{Request}
use Rattle.sv_model.specs.declared.session.Session.{Session}
use Rattle.sv_model.specs.declared.outcome.Birth.{Birth}
use Rattle.sv_model.specs.declared.outcome.Birth.TheVariants.{Absent, Alive, Ended as BirthEnded}
use Rattle.sv_model.specs.declared.outcome.Outcome.{Outcome as DeclaredOutcome}
use Rattle.sv_model.specs.declared.response.Response.{Response}
use Rattle.sv_model.specs.declared.outcome.Fate.{Fate}
use Rattle.sv_model.specs.declared.outcome.Fate.TheVariants.{Untouched, Kept, Ended}
use Rattle.sv_model.specs.Engine.{TouchesOnlyHanded}
use Rattle.sv_model.specs.Limits.{KeepsLimits, KeepsWithin, BringsWithin, NamesKeys, IsWithinLimits}
use Rattle.sv_model.specs.Session.{is_expired}
use Rattle.sv_mapping.specs.Context.{chosen_context, context_at, path_in_context}
use Rattle.sv_once.specs.Asked.{is_safe}
use Rattle.sv_once.specs.Room.{session_with}
use Rattle.sv_once.specs.declared.choice.Choice.{Choice}
use Rattle.sv_once.proofs.RoomLemmas.{bare_within, session_within}
use Rattle.sv_session.specs.Edit.{Edit, IsFateOf, IsWithin, KeepsEdit, begun, fate_of, key_of}
use Rattle.sv_session.specs.declared.edit.Edited.{Edited}
use Rattle.sv_session.specs.Expiry.{joined}
use Rattle.sv_session.proofs.EditLemmas.{KeepsEdit-refl, KeepsEdit-trans, begun_within}
use Rattle.sv_servlet.specs.Call.{Asked}
use Rattle.sv_servlet.specs.Reply.{new_reply}
use Rattle.sv_servlet.specs.Servlet.{Lent, lent}
use Rattle.sv_target.specs.SessionCookie.{session_cookie}
use Rattle.sv_target.proofs.NamedLemmas.{IfSome-session_cookie}
use Rattle.sv_mapping.specs.declared.dispatcher.Dispatcher.TheVariants.{Request as ByRequest, Error}
use Rattle.sv_dispatch.specs.Dispatching.{Table, Outcome, ask, dispatched}
use Rattle.sv_dispatch.specs.Keeping.{TableKeeps}
use Rattle.sv_dispatch.specs.Pages.{page_of_error, page_of_fault, paged, path_of, readied}
use Rattle.sv_dispatch.specs.Pages.{servlet_name, settled, shown_by, status_of, served as served_by_table}
use Rattle.sv_dispatch.specs.Sight.{first_sight, errored}
use Rattle.sv_dispatch.specs.declared.mode.Ending.{Ending}
use Rattle.sv_dispatch.specs.declared.mode.Ending.TheVariants.{Finished, Failed, Faulted, Abandoned}
use Rattle.sv_dispatch.proofs.KeepingLemmas.{keeping}
use Rattle.sv_container.specs.declared.admission.Admission.{Admission}
use Rattle.sv_container.specs.declared.admission.Admission.TheVariants.{Without, TurnedAway, Expired, Joined, Returned}
use Rattle.sv_container.specs.declared.recall.Refusal.TheVariants.{Full}
use Rattle.sv_container.specs.Admission.{admission, expired_of, expired_or_joined, held_of, is_away, is_turned_away, secret_of, turned_away}
use Rattle.sv_container.specs.Application.{App, IsSoundApp}
use Rattle.sv_container.specs.Outcome.{fate_for}
use Rattle.sv_container.specs.Recalling.{is_returning, next_memory, old_secret, recalled, refused}
use Rattle.sv_container.specs.Serving.{Answered, Deployed, IsSound, answered_by, asked, bare_held, bared, birth_with, container_meaning, edited_of, edited_with, fate_with, in_service}
use Rattle.sv_container.specs.Serving.{memory_if, named_at, named_in, or_full, outcome_by, place_for, remembering, remembering_with, served_at, served_by, served_in, served_new}
use Rattle.sv_container.specs.Serving.{served_unless, settled_birth, unserved, without_birth}

-- ---- the edit goes on

shown_keeps : (status : ℕ) (o : Outcome) (ended : Ending) (e : Edit) → KeepsEdit e o.lent.edit → KeepsEdit e (shown_by status o ended).lent.edit
shown_keeps status o Finished e keeps = keeps
shown_keeps status o (Failed code text) e keeps = keeps
shown_keeps status o (Faulted name) e keeps = keeps
shown_keeps status o Abandoned e keeps = keeps

paged_keeps : (t : Table) → TableKeeps t → (call : Asked) (status : ℕ) (message : List ℕ) (left : ℕ) (l : Lent) (page : Option (List ℕ))
    → KeepsEdit l.edit (paged t call status message left l page).lent.edit
paged_keeps t keeps call status message left l None = KeepsEdit-refl l.edit
paged_keeps t keeps call status message left l (Some path) =
    let a = ask Error (errored (first_sight call) status message (servlet_name t call)) path in
    let o = dispatched t 16 a left (readied status l) in
    shown_keeps status o o.ended l.edit (keeping t 16 a left (readied status l) keeps refl).edit

settled_keeps : (t : Table) → TableKeeps t → (call : Asked) (o : Outcome) (ended : Ending) (e : Edit) → KeepsEdit e o.lent.edit
    → KeepsEdit e (settled t call o ended).lent.edit
settled_keeps t keeps call o Finished e goes = goes
settled_keeps t keeps call o (Failed code text) e goes =
    KeepsEdit-trans e o.lent.edit _ goes (paged_keeps t keeps call (status_of code) text o.left o.lent (page_of_error t.pages (status_of code)))
settled_keeps t keeps call o (Faulted name) e goes =
    KeepsEdit-trans e o.lent.edit _ goes (paged_keeps t keeps call 500 name o.left o.lent (page_of_fault t.pages name))
settled_keeps t keeps call o Abandoned e goes = goes

ran_keeps : (t : Table) → TableKeeps t → (call : Asked) (e : Edit) → KeepsEdit e (served_by_table t call (lent e new_reply)).lent.edit
ran_keeps t keeps call e =
    let a = ask ByRequest (first_sight call) (path_of call) in
    let o = dispatched t 16 a 64 (lent e new_reply) in
    settled_keeps t keeps call o o.ended e (keeping t 16 a 64 (lent e new_reply) keeps refl).edit

answer_keeps : (a : App) → IsSoundApp a → (r : Request) (path : List ℕ) (e : Edit) → KeepsEdit e (answered_by a r path e).edit
unfolding answered_by
answer_keeps a sound r path e = ran_keeps a.table sound.keeps (asked a r path) e

-- ---- the application of a place

pub sound_there : (d : Deployed) → IsSound d → (place : ℕ) (a : App) → slice_get d.apps place ≡ Some a → IsSoundApp a
sound_there d sound place a is =
    subst IsSoundApp (get_or_from_slice_get d.apps place a a is) (sound place a (slice_get_within d.apps place a is))

-- ---- no session is touched where none is handed in

untouched_of : (fate : Fate) → IsFateOf None fate → fate ≡ Untouched
untouched_of Untouched is = refl
untouched_of (Kept s) is = absurd is
untouched_of Ended is = absurd is

untouched_behind : (old new : Edit) → old.handed ≡ None → IsFateOf old.handed old.fate → KeepsEdit old new → new.fate ≡ Untouched
untouched_behind old new none was keeps =
    untouched_of new.fate (subst (λ (h : Option Key). IsFateOf h new.fate) (keeps.handed ∙ none) (keeps.fate was))

-- what holds of a fate, and of a birth, once sessions have what they remember
both_with : (P : Fate → Type 0) (Q : Birth → Type 0) (e : Edited) (fate : Option Fate) (birth : Option Birth) → IfSome fate P → IfSome birth Q
    → IfSome (edited_with e fate birth) (λ x. P x.fate × Q x.birth)
both_with P Q e None birth fates births = tt
both_with P Q e (Some fate) None fates births = tt
both_with P Q e (Some fate) (Some birth) fates births = (fates, births)

settled_of : (context : ℕ) (key : Key) (e : Edited) (birth : Birth) → (without_birth context key e birth).fate ≡ e.fate
settled_of context key e Absent = refl
settled_of context key e (Alive s) = refl
settled_of context key e BirthEnded = refl

settled_fate : (context : ℕ) (key : Key) (ends : Bool) (e : Edited) → (settled_birth context key ends e).fate ≡ e.fate
settled_fate context key true e = settled_of context key e e.birth
settled_fate context key false e = refl

fate_untouched : (memory : List ℕ) (fate : Fate) → fate ≡ Untouched → IfSome (fate_with memory fate) (λ f. f ≡ Untouched)
fate_untouched memory Untouched is = refl
fate_untouched memory (Kept s) is = absurd cc
fate_untouched memory Ended is = absurd cc

any_birth : (birth : Option Birth) → IfSome birth (λ b. Unit {0})
any_birth None = tt
any_birth (Some birth) = tt

untouched_by_memory : (once : Option Choice) (context : ℕ) (r : Request) (is_away : Bool) (secret : Option Secret) (memory : List ℕ) (key : Key) (response : Response) (e : Edited)
    → e.fate ≡ Untouched → IfSome (remembering_with once context r is_away secret memory key response e) (λ x. (x.fate ≡ Untouched) × Unit {0})
untouched_by_memory None context r is_away secret memory key response e is = (is, tt)
untouched_by_memory (Some c) context r is_away secret memory key response e is =
    let settled : Edited = settled_birth context key (is_away && is_safe r.method) e in
    let old : List ℕ = old_secret settled.id_changed secret in
    both_with (λ f. f ≡ Untouched) (λ b. Unit {0}) settled (fate_with (next_memory c r old response memory) settled.fate)
    (birth_with (next_memory c r old response []) settled.birth)
    (fate_untouched (next_memory c r old response memory) settled.fate (settled_fate context key (is_away && is_safe r.method) e ∙ is))
    (any_birth (birth_with (next_memory c r old response []) settled.birth))

untouched_or : (a : App) (r : Request) (fresh : Key × Secret) (response : Response) (found : Option Edited) → IfSome found (λ x. (x.fate ≡ Untouched) × Unit {0})
    → (or_full a r Without (option_map (outcome_by a Without fresh response) found)).fate ≡ Untouched
untouched_or a r fresh response None is = refl
untouched_or a r fresh response (Some e) is = is.0

none_bared : (is_chosen : Bool) → bared is_chosen None ≡ None
none_bared true = refl
none_bared false = refl

untouched_new : (a : App) → IsSoundApp a → (r : Request) (path : List ℕ) (now : ℕ) (fresh : Key × Secret)
    → (or_full a r Without (served_new a r path Without now fresh)).fate ≡ Untouched
unfolding served_new remembering
untouched_new a sound r path now fresh =
    let held : Option (Key × Session) = bared (is_some a.once) None in
    let e : Edit = begun held a.number a.interval now fresh in
    let w : Answered = answered_by a r path e in
    let first : Edit = begun None a.number a.interval now fresh in
    let same : begun held a.number a.interval now fresh ≡ first = ap (λ (h : Option (Key × Session)). begun h a.number a.interval now fresh) (none_bared (is_some a.once)) in
    let handed : e.handed ≡ None = ap (λ (x : Edit). x.handed) same in
    let fate : IsFateOf e.handed e.fate = subst (λ (x : Edit). IsFateOf x.handed x.fate) (sym same) tt in
    untouched_or a r fresh w.response (remembering_with a.once a.number r false None (memory_if (is_some a.once) None) fresh.0 w.response (edited_of w.edit))
    (untouched_by_memory a.once a.number r false None (memory_if (is_some a.once) None) fresh.0 w.response (edited_of w.edit)
    (untouched_behind e w.edit handed fate (answer_keeps a sound r path e)))

untouched_unless : (a : App) → IsSoundApp a → (r : Request) (path : List ℕ) (now : ℕ) (fresh : Key × Secret) (found : Option Response)
    → (served_unless a r path Without now fresh found).fate ≡ Untouched
untouched_unless a sound r path now fresh None = untouched_new a sound r path now fresh
untouched_unless a sound r path now fresh (Some response) = refl

untouched_in : (a : App) → IsSoundApp a → (r : Request) (path : List ℕ) (now : ℕ) (fresh : Key × Secret)
    → (served_in a r path Without now fresh).fate ≡ Untouched
unfolding served_in
untouched_in a sound r path now fresh = untouched_unless a sound r path now fresh (recalled a.once r None)

untouched_by : (d : Deployed) → IsSound d → (place : ℕ) (found : Option App) → slice_get d.apps place ≡ found
    → (r : Request) (path : List ℕ) (now : ℕ) (fresh : Key × Secret) → (served_by found r path None now fresh).fate ≡ Untouched
untouched_by d sound place None is r path now fresh = refl
untouched_by d sound place (Some a) is r path now fresh = untouched_in a (sound_there d sound place a is) r path now fresh

untouched_at : (d : Deployed) → IsSound d → (r : Request) (now : ℕ) (fresh : Key × Secret) (place : Option ℕ)
    → (served_at d r None now fresh place).fate ≡ Untouched
untouched_at d sound r now fresh None = refl
untouched_at d sound r now fresh (Some place) =
    untouched_by d sound place (slice_get d.apps place) refl r (path_in_context (context_at d.paths place) r.path) now fresh

pub touches_only_handed : (d : Deployed) → IsSound d → TouchesOnlyHanded (container_meaning d)
touches_only_handed d sound r now fresh = untouched_at d sound r now fresh (place_for d r.path)

-- ---- a session that is joined is kept or ended

joined_kept : (k : Key) (s : Option Session) → IfSome (option_map Kept s) (λ f. IsFateOf (Some k) f)
joined_kept k None = tt
joined_kept k (Some s) = tt

fate_stays : (k : Key) (memory : List ℕ) (fate : Fate) → IsFateOf (Some k) fate → IfSome (fate_with memory fate) (λ f. IsFateOf (Some k) f)
fate_stays k memory Untouched is = absurd is
fate_stays k memory (Kept s) is = joined_kept k (session_with memory s)
fate_stays k memory Ended is = tt

stays_by_memory : (k : Key) (once : Option Choice) (context : ℕ) (r : Request) (is_away : Bool) (secret : Option Secret) (memory : List ℕ) (key : Key) (response : Response) (e : Edited)
    → IsFateOf (Some k) e.fate → IfSome (remembering_with once context r is_away secret memory key response e) (λ x. IsFateOf (Some k) x.fate × Unit {0})
stays_by_memory k None context r is_away secret memory key response e is = (is, tt)
stays_by_memory k (Some c) context r is_away secret memory key response e is =
    let settled : Edited = settled_birth context key (is_away && is_safe r.method) e in
    let old : List ℕ = old_secret settled.id_changed secret in
    both_with (λ f. IsFateOf (Some k) f) (λ b. Unit {0}) settled (fate_with (next_memory c r old response memory) settled.fate)
    (birth_with (next_memory c r old response []) settled.birth)
    (fate_stays k (next_memory c r old response memory) settled.fate
    (subst (λ (f : Fate). IsFateOf (Some k) f) (sym (settled_fate context key (is_away && is_safe r.method) e)) is))
    (any_birth (birth_with (next_memory c r old response []) settled.birth))

stays_or : (a : App) (r : Request) (k : Key) (s : Session) (fresh : Key × Secret) (response : Response) (found : Option Edited)
    → IfSome found (λ x. IsFateOf (Some k) x.fate × Unit {0})
    → IsFateOf (Some k) (or_full a r (Joined k s) (option_map (outcome_by a (Joined k s) fresh response) found)).fate
stays_or a r k s fresh response None is = tt
stays_or a r k s fresh response (Some e) is = is.0

bared_key : (is_chosen : Bool) (k : Key) (s : Session) → key_of (bared is_chosen (Some (k, s))) ≡ Some k
bared_key true k s = refl
bared_key false k s = refl

bared_fate : (is_chosen : Bool) (k : Key) (s : Session) → IsFateOf (Some k) (fate_of (bared is_chosen (Some (k, s))))
bared_fate true k s = tt
bared_fate false k s = tt

stays_new : (a : App) → IsSoundApp a → (r : Request) (path : List ℕ) (k : Key) (s : Session) (now : ℕ) (fresh : Key × Secret)
    → IsFateOf (Some k) (or_full a r (Joined k s) (served_new a r path (Joined k s) now fresh)).fate
unfolding served_new remembering
stays_new a sound r path k s now fresh =
    let e : Edit = begun (bared (is_some a.once) (Some (k, s))) a.number a.interval now fresh in
    let w : Answered = answered_by a r path e in
    let keeps : KeepsEdit e w.edit = answer_keeps a sound r path e in
    let handed : e.handed ≡ Some k = bared_key (is_some a.once) k s in
    let was : IsFateOf e.handed e.fate = subst (λ (h : Option Key). IsFateOf h e.fate) (sym handed) (bared_fate (is_some a.once) k s) in
    let is : IsFateOf (Some k) w.edit.fate = subst (λ (h : Option Key). IsFateOf h w.edit.fate) (keeps.handed ∙ handed) (keeps.fate was) in
    stays_or a r k s fresh w.response
    (remembering_with a.once a.number r false (Some s.secret) (memory_if (is_some a.once) (Some (k, s))) fresh.0 w.response (edited_of w.edit))
    (stays_by_memory k a.once a.number r false (Some s.secret) (memory_if (is_some a.once) (Some (k, s))) fresh.0 w.response (edited_of w.edit) is)

stays_unless : (a : App) → IsSoundApp a → (r : Request) (path : List ℕ) (k : Key) (s : Session) (now : ℕ) (fresh : Key × Secret) (found : Option Response)
    → IsFateOf (Some k) (served_unless a r path (Joined k s) now fresh found).fate
stays_unless a sound r path k s now fresh None = stays_new a sound r path k s now fresh
stays_unless a sound r path k s now fresh (Some response) = tt

pub joined_stays : (a : App) → IsSoundApp a → (r : Request) (path : List ℕ) (k : Key) (s : Session) (now : ℕ) (fresh : Key × Secret)
    → IsFateOf (Some k) (served_in a r path (Joined k s) now fresh).fate
unfolding served_in
joined_stays a sound r path k s now fresh = stays_unless a sound r path k s now fresh (recalled a.once r (Some (k, s)))

-- ---- an application that a path has is in service

serving_if : (b : Bool) (place k : ℕ) → cond b (Some place) None ≡ Some k → (k ≡ place) × (b ≡ true)
serving_if true place k h = (sym (same_Some place k h), refl)
serving_if false place k h = absurd cc

abbrev IsServed : List App → ℕ → Type 0
IsServed apps k = (k < length apps) × IfSome (slice_get apps k) (λ a. a.is_in_service ≡ true)

serving_by : (apps : List App) (place k : ℕ) (found : Option App) → slice_get apps place ≡ found → in_service place found ≡ Some k → (k ≡ place)
    × IsServed apps place
serving_by apps place k None is h = absurd cc
serving_by apps place k (Some a) is h =
    let s = serving_if a.is_in_service place k h in
    (s.0, (slice_get_within apps place a is, subst (λ (o : Option App). IfSome o (λ x. x.is_in_service ≡ true)) (sym is) s.1))

serving_of : (apps : List App) (k : ℕ) (chosen : Option ℕ) → option_and_then (λ place. in_service place (slice_get apps place)) chosen ≡ Some k
    → (chosen ≡ Some k) × IsServed apps k
serving_of apps k None h = absurd cc
serving_of apps k (Some place) h =
    let s = serving_by apps place k (slice_get apps place) refl h in
    (ap Some (sym s.0), subst (IsServed apps) (sym s.0) s.1)

-- it is the place of the context that is chosen, and the application there is in service
pub place_is : (d : Deployed) (path : List ℕ) (k : ℕ) → place_for d path ≡ Some k
    → (chosen_context d.paths path ≡ Some k) × ((k < length d.apps) × IfSome (slice_get d.apps k) (λ a. a.is_in_service ≡ true))
unfolding place_for
place_is d path k h = serving_of d.apps k (chosen_context d.paths path) h

-- ---- sessions within their limits

joined_within : (s : Session) (now : ℕ) → IsWithinLimits s → IsWithinLimits (joined s now)
joined_within s now within =
    record { context = within.context; count = within.count; named = within.named; names = within.names; values = within.values; size = within.size }

abbrev OutcomeWithin : DeclaredOutcome → Type 0
OutcomeWithin o = KeepsWithin o.fate × BringsWithin o.birth

abbrev HeldWithin : Admission → Type 0
HeldWithin a = IfSome (held_of a) (λ h. IsWithinLimits h.1)

expired_within : (gone : Bool) (key : Key) (s : Session) (now : ℕ) → IsWithinLimits s → HeldWithin (cond gone (Expired key) (Joined key (joined s now)))
expired_within true key s now within = tt
expired_within false key s now within = joined_within s now within

returned_within : (returns : Bool) (key : Key) (s : Session) (now : ℕ) → IsWithinLimits s → HeldWithin (cond returns (Returned key (joined s now)) TurnedAway)
returned_within true key s now within = joined_within s now within
returned_within false key s now within = tt

away_within : (once : Option Choice) (context : ℕ) (r : Request) (named : Option (Key × Secret)) (key : Key) (s : Session) (now : ℕ) → IsWithinLimits s
    → HeldWithin (turned_away once context r named key s now)
away_within None context r named key s now within = tt
away_within (Some c) context r named key s now within = returned_within (is_returning c context r named s now) key s now within

turned_within : (away : Bool) (turned : Admission) (key : Key) (s : Session) (now : ℕ) → HeldWithin turned → IsWithinLimits s
    → HeldWithin (cond away turned (expired_or_joined key s now))
turned_within true turned key s now first within = first
turned_within false turned key s now first within = expired_within (is_expired s now) key s now within

admitted_within : (once : Option Choice) (context : ℕ) (r : Request) (named : Option (Key × Secret)) (handed : Option (Key × Session)) (now : ℕ)
    → IfSome handed (λ h. IsWithinLimits h.1) → HeldWithin (admission once context r named handed now)
admitted_within once context r named None now within = tt
admitted_within once context r named (Some handed) now within =
    turned_within (is_turned_away context named handed.1) (turned_away once context r named handed.0 handed.1 now) handed.0 handed.1 now
    (away_within once context r named handed.0 handed.1 now within) within

fate_within : (expired : Option Key) (fate : Fate) → KeepsWithin fate → KeepsWithin (fate_for expired fate)
fate_within None fate within = within
fate_within (Some key) fate within = tt

held_kept : (held : Option (Key × Session)) → IfSome held (λ h. IsWithinLimits h.1) → KeepsWithin (fate_of held)
held_kept None within = tt
held_kept (Some h) within = within

-- a request that is answered and not served
unserved_within : (a : App) (j : Admission) (response : Response) → HeldWithin j → OutcomeWithin (unserved a j response)
unserved_within a j response held = (fate_within (expired_of j) (fate_of (held_of j)) (held_kept (held_of j) held), tt)

bare_held_within : (held : Option (Key × Session)) → IfSome held (λ h. IsWithinLimits h.1) → IfSome (bare_held held) (λ h. IsWithinLimits h.1)
bare_held_within None within = tt
bare_held_within (Some h) within = bare_within h.1 within

bared_within : (is_chosen : Bool) (held : Option (Key × Session)) → IfSome held (λ h. IsWithinLimits h.1) → IfSome (bared is_chosen held) (λ h. IsWithinLimits h.1)
bared_within true held within = bare_held_within held within
bared_within false held within = within

kept_some : (found : Option Session) → IfSome found IsWithinLimits → IfSome (option_map Kept found) KeepsWithin
kept_some None within = tt
kept_some (Some s) within = within

alive_some : (found : Option Session) → IfSome found IsWithinLimits → IfSome (option_map Alive found) BringsWithin
alive_some None within = tt
alive_some (Some s) within = within

fate_keeps : (memory : List ℕ) (fate : Fate) → KeepsWithin fate → IfSome (fate_with memory fate) KeepsWithin
fate_keeps memory Untouched within = tt
fate_keeps memory (Kept s) within = kept_some (session_with memory s) (session_within memory s within)
fate_keeps memory Ended within = tt

birth_brings : (memory : List ℕ) (birth : Birth) → BringsWithin birth → IfSome (birth_with memory birth) BringsWithin
birth_brings memory Absent within = tt
birth_brings memory (Alive s) within = alive_some (session_with memory s) (session_within memory s within)
birth_brings memory BirthEnded within = tt

settled_brings : (context : ℕ) (key : Key) (e : Edited) (birth : Birth) → BringsWithin e.birth → BringsWithin (without_birth context key e birth).birth
settled_brings context key e Absent within = within
settled_brings context key e (Alive s) within = tt
settled_brings context key e BirthEnded within = within

settled_within : (context : ℕ) (key : Key) (ends : Bool) (e : Edited) → BringsWithin e.birth → BringsWithin (settled_birth context key ends e).birth
settled_within context key true e within = settled_brings context key e e.birth within
settled_within context key false e within = within

memory_within : (once : Option Choice) (context : ℕ) (r : Request) (is_away : Bool) (secret : Option Secret) (memory : List ℕ) (key : Key) (response : Response) (e : Edited)
    → KeepsWithin e.fate → BringsWithin e.birth
    → IfSome (remembering_with once context r is_away secret memory key response e) (λ x. KeepsWithin x.fate × BringsWithin x.birth)
memory_within None context r is_away secret memory key response e fates births = (fates, births)
memory_within (Some c) context r is_away secret memory key response e fates births =
    let ends : Bool = is_away && is_safe r.method in
    let settled : Edited = settled_birth context key ends e in
    let old : List ℕ = old_secret settled.id_changed secret in
    both_with KeepsWithin BringsWithin settled (fate_with (next_memory c r old response memory) settled.fate) (birth_with (next_memory c r old response []) settled.birth)
    (fate_keeps (next_memory c r old response memory) settled.fate (subst KeepsWithin (sym (settled_fate context key ends e)) fates))
    (birth_brings (next_memory c r old response []) settled.birth (settled_within context key ends e births))

or_within : (a : App) (r : Request) (j : Admission) (fresh : Key × Secret) (response : Response) (found : Option Edited) → HeldWithin j
    → IfSome found (λ x. KeepsWithin x.fate × BringsWithin x.birth) → OutcomeWithin (or_full a r j (option_map (outcome_by a j fresh response) found))
or_within a r j fresh response None held within = unserved_within a j (refused Full r) held
or_within a r j fresh response (Some e) held within = (fate_within (expired_of j) e.fate within.0, within.1)

new_within : (a : App) → IsSoundApp a → a.number < 16 → (r : Request) (path : List ℕ) (j : Admission) (now : ℕ) (fresh : Key × Secret) → HeldWithin j
    → OutcomeWithin (or_full a r j (served_new a r path j now fresh))
unfolding served_new remembering
new_within a sound below r path j now fresh held =
    let first : Option (Key × Session) = bared (is_some a.once) (held_of j) in
    let e : Edit = begun first a.number a.interval now fresh in
    let w : Answered = answered_by a r path e in
    let within : IsWithin w.edit =
    (answer_keeps a sound r path e).within (begun_within first a.number a.interval now fresh below (bared_within (is_some a.once) (held_of j) held)) in
    or_within a r j fresh w.response
    (remembering_with a.once a.number r (is_away j) (secret_of j) (memory_if (is_some a.once) (held_of j)) fresh.0 w.response (edited_of w.edit)) held
    (memory_within a.once a.number r (is_away j) (secret_of j) (memory_if (is_some a.once) (held_of j)) fresh.0 w.response (edited_of w.edit) within.fate within.birth)

unless_within : (a : App) → IsSoundApp a → a.number < 16 → (r : Request) (path : List ℕ) (j : Admission) (now : ℕ) (fresh : Key × Secret) (found : Option Response)
    → HeldWithin j → OutcomeWithin (served_unless a r path j now fresh found)
unless_within a sound below r path j now fresh None held = new_within a sound below r path j now fresh held
unless_within a sound below r path j now fresh (Some response) held = unserved_within a j response held

within_in : (a : App) → IsSoundApp a → a.number < 16 → (r : Request) (path : List ℕ) (j : Admission) (now : ℕ) (fresh : Key × Secret) → HeldWithin j
    → OutcomeWithin (served_in a r path j now fresh)
unfolding served_in
within_in a sound below r path j now fresh held = unless_within a sound below r path j now fresh (recalled a.once r (held_of j)) held

abbrev WithinBy : Option App → Request → List ℕ → Option (Key × Session) → ℕ → Key × Secret → Type 0
WithinBy found r path handed now fresh =
    KeepsWithin (served_by found r path handed now fresh).fate × BringsWithin (served_by found r path handed now fresh).birth

within_by : (d : Deployed) → IsSound d → (place : ℕ) (found : Option App) → slice_get d.apps place ≡ found → IfSome found (λ a. a.is_in_service ≡ true)
    → (r : Request) (path : List ℕ) (handed : Option (Key × Session)) (now : ℕ) (fresh : Key × Secret) → IfSome handed (λ h. IsWithinLimits h.1)
    → WithinBy found r path handed now fresh
within_by d sound place None is serving r path handed now fresh within = (tt, tt)
within_by d sound place (Some a) is serving r path handed now fresh within =
    let s : IsSoundApp a = sound_there d sound place a is in
    let named = session_cookie a.cookie.name r.cookies a.number in
    within_in a s (s.serving serving).number r path (admission a.once a.number r named handed now) now fresh (admitted_within a.once a.number r named handed now within)

abbrev WithinAt : Deployed → Request → Option (Key × Session) → ℕ → Key × Secret → Option ℕ → Type 0
WithinAt d r handed now fresh place = KeepsWithin (served_at d r handed now fresh place).fate × BringsWithin (served_at d r handed now fresh place).birth

within_at : (d : Deployed) → IsSound d → (r : Request) (handed : Option (Key × Session)) (now : ℕ) (fresh : Key × Secret)
    → IfSome handed (λ h. IsWithinLimits h.1)
    → (place : Option ℕ) → place_for d r.path ≡ place → WithinAt d r handed now fresh place
within_at d sound r handed now fresh within None is = (tt, tt)
within_at d sound r handed now fresh within (Some place) is =
    within_by d sound place (slice_get d.apps place) refl (place_is d r.path place is).1.1 r
    (path_in_context (context_at d.paths place) r.path) handed now fresh within

pub keeps_limits : (d : Deployed) → IsSound d → KeepsLimits (container_meaning d)
keeps_limits d sound r handed now fresh within = within_at d sound r handed now fresh within (place_for d r.path) refl

-- ---- keys that are named

named_by_app : (found : Option App) (r : Request) → IfSome (named_in found r) (λ n. (n.0.home < 8) × (0 < n.0.serial))
named_by_app None r = tt
named_by_app (Some a) r = IfSome-session_cookie a.cookie.name r.cookies a.number

named_by_place : (d : Deployed) (r : Request) (place : Option ℕ) → IfSome (named_at d r place) (λ n. (n.0.home < 8) × (0 < n.0.serial))
named_by_place d r None = tt
named_by_place d r (Some place) = named_by_app (slice_get d.apps place) r

pub names_keys : (d : Deployed) → NamesKeys (container_meaning d)
names_keys d r = named_by_place d r (place_for d r.path)
