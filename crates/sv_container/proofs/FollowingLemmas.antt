-- Each response follows its request.
use Rattle.sv_container.proofs.Prelude.{ℕ, Option, Some, None, List, refl, IfSome, is_some, option_map, slice_get, bytes_eq, Key, Secret, Request, Session}
use Rattle.sv_container.proofs.Prelude.{context_at, path_in_context, Response, answer_in, is_key, key_of, mark_of, known, memory_in, Choice, Entry, Edit, begun}
use Rattle.sv_container.proofs.Prelude.{Edited, Admission, held_of, App, recalled, recalled_by, refused, repeated, told_again, Answered, Deployed, answered_by}
use Rattle.sv_container.proofs.Prelude.{bared, or_full, outcome_by, place_for, remembering, served_by, served_in, served_new, served_unless, unserved, BadKey}
use Rattle.sv_container.proofs.Prelude.{Reused, Gone, Full}
use Rattle.std.specs.Prelude.{Bool, true, false, cond}
use Rattle.sv_once.specs.Answer.{Answer}
use Rattle.sv_servlet.specs.Reply.{new_reply}
use Rattle.sv_servlet.specs.ReplyState.{ReplyState}
use Rattle.sv_servlet.specs.Servlet.{lent}
use Rattle.sv_dispatch.specs.Pages.{served as served_by_table}
use Rattle.sv_dispatch.specs.declared.request.Ended.{Ended}
use Rattle.sv_dispatch.specs.declared.request.Ended.TheVariants.{Normal, ErrorPage, Plain}
use Rattle.sv_container.specs.Following.{IsFollowed, answers_follow}
use Rattle.sv_container.specs.Recalling.{held_memory}
use Rattle.sv_container.specs.Serving.{asked, replied, served_at}
use Rattle.sv_container.specs.declared.recall.Refusal.{Refusal}

replied_follows : (r : Request) (ended : Ended) (reply : ReplyState) → IsFollowed r (replied r ended reply)
replied_follows r Normal reply = record { close = refl; head_only = refl }
replied_follows r (ErrorPage status) reply = record { close = refl; head_only = refl }
replied_follows r (Plain status) reply = record { close = refl; head_only = refl }

answered_follows : (a : App) (r : Request) (path : List ℕ) (e : Edit) → IsFollowed r (answered_by a r path e).response
unfolding answered_by
answered_follows a r path e =
    let ran = served_by_table a.table (asked a r path) (lent e new_reply) in
    replied_follows r ran.ended ran.lent.reply

-- ---- requests that are answered and not served

refused_follows : (r : Request) (refusal : Refusal) → IsFollowed r (refused refusal r)
refused_follows r refusal = record { close = refl; head_only = refl }

repeated_follows : (r : Request) (found : Option Answer) → IsFollowed r (repeated r found)
repeated_follows r None = refused_follows r Gone
repeated_follows r (Some a) = record { close = refl; head_only = refl }

either_follows : (r : Request) (same : Bool) (one other : Response) → IsFollowed r one → IsFollowed r other → IsFollowed r (cond same one other)
either_follows r true one other first second = first
either_follows r false one other first second = second

again_follows : (r : Request) (found : Option Entry) → IfSome (told_again r found) (IsFollowed r)
again_follows r None = tt
again_follows r (Some e) =
    either_follows r (bytes_eq e.mark (mark_of r)) (repeated r (answer_in e.answer)) (refused Reused r) (repeated_follows r (answer_in e.answer)) (refused_follows r Reused)

key_follows : (r : Request) (is : Bool) (found : Option Entry) → IfSome (cond is (told_again r found) (Some (refused BadKey r))) (IsFollowed r)
key_follows r true found = again_follows r found
key_follows r false found = refused_follows r BadKey

asked_follows : (r : Request) (memory : List ℕ) (key : Option (List ℕ)) → IfSome (recalled_by r memory key) (IsFollowed r)
asked_follows r memory None = tt
asked_follows r memory (Some key) = key_follows r (is_key key) (known key (memory_in memory))

recalled_follows : (once : Option Choice) (r : Request) (held : Option (Key × Session)) → IfSome (recalled once r held) (IsFollowed r)
unfolding recalled
recalled_follows None r held = tt
recalled_follows (Some c) r held = asked_follows r (held_memory held) (key_of c r)

unserved_follows : (a : App) (r : Request) (joined : Admission) (response : Response) → IsFollowed r response → IsFollowed r (unserved a joined response).response
unserved_follows a r joined response follows = record { close = follows.close; head_only = follows.head_only }

-- ---- and those that are

or_follows : (a : App) (r : Request) (joined : Admission) (fresh : Key × Secret) (response : Response) (found : Option Edited) → IsFollowed r response
    → IsFollowed r (or_full a r joined (option_map (outcome_by a joined fresh response) found)).response
or_follows a r joined fresh response None follows = unserved_follows a r joined (refused Full r) (refused_follows r Full)
or_follows a r joined fresh response (Some e) follows = record { close = follows.close; head_only = follows.head_only }

new_follows : (a : App) (r : Request) (path : List ℕ) (joined : Admission) (now : ℕ) (fresh : Key × Secret)
    → IsFollowed r (or_full a r joined (served_new a r path joined now fresh)).response
unfolding served_new
new_follows a r path joined now fresh =
    let w : Answered = answered_by a r path (begun (bared (is_some a.once) (held_of joined)) a.number a.interval now fresh) in
    or_follows a r joined fresh w.response (remembering a r joined fresh.0 w)
    (answered_follows a r path (begun (bared (is_some a.once) (held_of joined)) a.number a.interval now fresh))

unless_follows : (a : App) (r : Request) (path : List ℕ) (joined : Admission) (now : ℕ) (fresh : Key × Secret) (found : Option Response) → IfSome found (IsFollowed r)
    → IsFollowed r (served_unless a r path joined now fresh found).response
unless_follows a r path joined now fresh None follows = new_follows a r path joined now fresh
unless_follows a r path joined now fresh (Some response) follows = unserved_follows a r joined response follows

in_follows : (a : App) (r : Request) (path : List ℕ) (joined : Admission) (now : ℕ) (fresh : Key × Secret) → IsFollowed r (served_in a r path joined now fresh).response
unfolding served_in
in_follows a r path joined now fresh =
    unless_follows a r path joined now fresh (recalled a.once r (held_of joined)) (recalled_follows a.once r (held_of joined))

by_follows : (found : Option App) (r : Request) (path : List ℕ) (handed : Option (Key × Session)) (now : ℕ) (fresh : Key × Secret)
    → IsFollowed r (served_by found r path handed now fresh).response
by_follows None r path handed now fresh = record { close = refl; head_only = refl }
by_follows (Some a) r path handed now fresh = in_follows a r path _ now fresh

at_follows : (d : Deployed) (r : Request) (handed : Option (Key × Session)) (now : ℕ) (fresh : Key × Secret) (place : Option ℕ)
    → IsFollowed r (served_at d r handed now fresh place).response
at_follows d r handed now fresh None = record { close = refl; head_only = refl }
at_follows d r handed now fresh (Some place) = by_follows (slice_get d.apps place) r (path_in_context (context_at d.paths place) r.path) handed now fresh

pub all_follow : answers_follow
all_follow d r handed now fresh = at_follows d r handed now fresh (place_for d r.path)
