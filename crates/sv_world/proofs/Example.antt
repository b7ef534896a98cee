-- Runs that do something: a node starts and answers a request, hands a session over, and is stopped.
use Rattle.sv_world.proofs.Prelude.{◌≡◌, ◌==◌, true, cond, None, [], ◌∷◌, refl, Moment, Request, Response, Session, Untouched, Absent, Alive, Unchanged}
use Rattle.sv_world.proofs.Prelude.{ChangeAlive, Boot, CommitRecord, SentRecord, empty, len-empty, get-insert, key_cmp, keys_total, KeyState, Active, Meanings}
use Rattle.sv_world.proofs.Prelude.{always, EngineMeaning, replies_of, served_of, rules_for, Ask, Crash, Torn, Silent, Restart, Cluster, World, steady}
use Rattle.sv_world.proofs.Prelude.{nothing_happened, run, items, commits_in, records_at}
use Rattle.sv_model.specs.declared.input.Input.TheVariants as input

-- it makes a session for each request
abbrev pub makes : Response → Session → EngineMeaning
makes response s = record { names = λ r. None; serve = λ r held now fresh. record { response = response; fate = Untouched; birth = Alive s; events = [] }; hear = λ heard t. heard }

abbrev pub two : Cluster
two = steady 2 (rules_for 30)

module _ (response : Response) (s : Session) (r : Request) (moment : Moment) where
  abbrev asked : World
  asked = run (always (makes response s)) two nothing_happened (Restart 0 ∷ Ask 0 moment 7 r ∷ [])

  replies : replies_of (items asked.trace) ≡ (record { number = 7; node = 0; boot = 1 }, response) ∷ []
  replies = rw (len-empty key_cmp KeyState) refl

  records : records_at 0 asked.trace ≡ Boot 1 ∷ CommitRecord Unchanged (ChangeAlive (record { home = 0; serial = 1 }) s) ∷ []
  records = rw (len-empty key_cmp KeyState) refl

  -- the session goes to the other node, cut after its record; then it is sent there again
  abbrev moved : World
  moved = run (always (makes response s)) two nothing_happened (Restart 0 ∷ Restart 1 ∷ Ask 0 moment 7 r ∷ Torn 0 moment (input.Move (record { home = 0; serial = 1 }) 1) true ∷ [])

  sent : records_at 0 moved.trace ≡ Boot 1 ∷ CommitRecord Unchanged (ChangeAlive (record { home = 0; serial = 1 }) s) ∷ SentRecord (record { home = 0; serial = 1 }) 2 1 s ∷ []
  sent = rw (len-empty key_cmp KeyState, get-insert keys_total empty (record { home = 0; serial = 1 }) (Active 1 s) (record { home = 0; serial = 1 })) refl

  -- both steps become durable together, and a stop falls before anything of them has left
  abbrev torn_away : World
  torn_away = run (always (makes response s)) two nothing_happened (Restart 0 ∷ Restart 1 ∷ Silent 0 moment (input.Ask 7 r) ∷ Silent 0 moment (input.Move (record { home = 0; serial = 1 }) 1) ∷ Crash 0 ∷ [])

  same_records : records_at 0 torn_away.trace ≡ records_at 0 moved.trace
  same_records = rw (len-empty key_cmp KeyState, get-insert keys_total empty (record { home = 0; serial = 1 }) (Active 1 s) (record { home = 0; serial = 1 })) refl

  -- who asked has no answer, and stands in the list
  no_replies : replies_of (items torn_away.trace) ≡ []
  no_replies = refl

  served : served_of (commits_in torn_away) ≡ record { number = 7; node = 0; boot = 1 } ∷ []
  served = rw (len-empty key_cmp KeyState, get-insert keys_total empty (record { home = 0; serial = 1 }) (Active 1 s) (record { home = 0; serial = 1 })) refl

  no_packets : torn_away.packets ≡ []
  no_packets = refl

-- it makes no session
abbrev says : Response → EngineMeaning
says response = record { names = λ r. None; serve = λ r held now fresh. record { response = response; fate = Untouched; birth = Absent; events = [] }; hear = λ heard t. heard }

-- a node is started with one application, and then anew with another: each request is answered by that of its start
module _ (first second : Response) (r : Request) (moment : Moment) where
  abbrev plan : Meanings
  plan = λ node boot. cond (boot == 1) (says first) (says second)

  abbrev upgraded : World
  upgraded = run plan two nothing_happened (Restart 0 ∷ Ask 0 moment 7 r ∷ Crash 0 ∷ Restart 0 ∷ Ask 0 moment 7 r ∷ [])

  by_each : replies_of (items upgraded.trace) ≡ (record { number = 7; node = 0; boot = 1 }, first) ∷ (record { number = 7; node = 0; boot = 2 }, second) ∷ []
  by_each = refl
