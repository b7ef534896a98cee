-- Requests that a session remembers, and what is answered to one that is sent again (the IETF's draft "The Idempotency-Key HTTP
-- Header Field").
use Rattle.std.specs.Prelude.{ℕ, ◌==◌, ◌&&◌, not, Bool, true, false, List, [], ◌++◌, codes, take, Option, Some, None, if◌then◌else◌}
use Rattle.std.specs.Str.{bytes_eq}
use Rattle.sv_model.specs.Method.{is_head}
use Rattle.sv_model.specs.Page.{plain_page}
use Rattle.sv_model.specs.Session.{is_expired}
use Rattle.sv_model.specs.declared.key.Key.{Key}
use Rattle.sv_model.specs.declared.key.Secret.{Secret}
use Rattle.sv_model.specs.declared.request.Request.{Request}
use Rattle.sv_model.specs.declared.response.Response.{Response}
use Rattle.sv_model.specs.declared.session.Session.{Session}
use Rattle.sv_once.specs.Answer.{Answer, answer_in, kept_answer, response_of}
use Rattle.sv_once.specs.Asked.{is_key, key_of, mark_of}
use Rattle.sv_once.specs.Entries.{entry_of, known, memory_bytes, memory_in, remembered}
use Rattle.sv_once.specs.Room.{memory_of}
use Rattle.sv_once.specs.declared.choice.Choice.{Choice}
use Rattle.sv_once.specs.declared.entry.Entry.{Entry}
use Rattle.sv_container.specs.declared.recall.Refusal.{Refusal}
use Rattle.sv_container.specs.declared.recall.Refusal.TheVariants.{BadKey, Reused, Gone, Full}

-- ---- pages

abbrev pub status_of : Refusal → ℕ
status_of BadKey = 400
status_of Reused = 422
status_of Gone = 409
status_of Full = 500

abbrev pub text_of : Refusal → List ℕ
text_of BadKey = codes "The key of a request has 1 to 64 bytes.\n"
text_of Reused = codes "The key of this request came with another request before.\n"
text_of Gone = codes "This request was done before. Its answer had more than 2048 bytes and was not kept, so it is not shown again.\n"
text_of Full = codes "The session has no room to remember this request, so nothing was done.\n"

abbrev pub with_text : Response → List ℕ → Response
with_text page text = record page { body = page.body ++ text }

-- the plain page of the status, and why
abbrev pub refused : Refusal → Request → Response
refused refusal r = with_text (plain_page (status_of refusal) [] (is_head r.method) r.close) (text_of refusal)

-- ---- what is recalled

-- what the session that is held remembers
abbrev pub held_memory : Option (Key × Session) → List ℕ
held_memory None = []
held_memory (Some held) = memory_of held.1

-- the answer that was kept, or that none was
abbrev pub repeated : Request → Option Answer → Response
repeated r None = refused Gone r
repeated r (Some a) = response_of r a

-- a key that is known is answered from memory: as before where the same is asked
abbrev pub told_again : Request → Option Entry → Option Response
told_again r None = None
told_again r (Some e) = Some (if bytes_eq e.mark (mark_of r) then repeated r (answer_in e.answer) else refused Reused r)

abbrev pub recalled_by : Request → List ℕ → Option (List ℕ) → Option Response
recalled_by r memory None = None
recalled_by r memory (Some key) = if is_key key then told_again r (known key (memory_in memory)) else Some (refused BadKey r)

-- what is answered to a request that is not served, with the session that is held
unfoldable pub recalled : Option Choice → Request → Option (Key × Session) → Option Response
recalled None r held = None
recalled (Some c) r held = recalled_by r (held_memory held) (key_of c r)

-- ---- who returns

-- the entry is that of this request, when it named the session by this secret
abbrev pub is_repeat_of : Request → Secret → Option Entry → Bool
is_repeat_of r secret None = false
is_repeat_of r secret (Some e) = bytes_eq e.old (take 16 secret.0) && bytes_eq e.mark (mark_of r)

abbrev pub is_known_repeat : Request → Secret → List ℕ → Option (List ℕ) → Bool
is_known_repeat r secret memory None = false
is_known_repeat r secret memory (Some key) = is_key key && is_repeat_of r secret (known key (memory_in memory))

-- a request by which the session was given another secret comes again, and names the one from before
unfoldable pub is_returning : Choice → ℕ → Request → Option (Key × Secret) → Session → ℕ → Bool
is_returning c context r None s now = false
is_returning c context r (Some named) s now =
    (s.context == context && not (is_expired s now)) && is_known_repeat r named.1 (memory_of s) (key_of c r)

-- ---- what is remembered

-- the secret by which a request named the session, where it gave it another one
abbrev pub old_secret : Bool → Option Secret → List ℕ
old_secret true (Some secret) = take 16 secret.0
old_secret true None = []
old_secret false secret = []

abbrev pub entry_for : Request → List ℕ → List ℕ → Response → Entry
entry_for r key old response = entry_of key (mark_of r) old (kept_answer response)

-- what is remembered after a request that was served: of one that has a key its answer too
abbrev pub memory_with : Choice → Entry → List ℕ → List ℕ
memory_with c e memory = memory_bytes (remembered c.answers e (memory_in memory))

abbrev pub memory_after : Choice → Request → List ℕ → Response → List ℕ → Option (List ℕ) → List ℕ
memory_after c r old response memory None = memory
memory_after c r old response memory (Some key) =
    if is_key key then memory_with c (entry_for r key old response) memory else memory

unfoldable pub next_memory : Choice → Request → List ℕ → Response → List ℕ → List ℕ
next_memory c r old response memory = memory_after c r old response memory (key_of c r)
