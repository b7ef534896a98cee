-- Worked examples of the table: three nodes, a session that is made at node 0 and asked for at node 1, and what each
-- step of theirs makes of it, written out.
use Rattle.std.specs.Prelude.{◌≡◌, ℕ, true, false, Some, None, List, [], ◌∷◌, length}
use Rattle.std.specs.FinMap.{empty, insert}
use Rattle.sv_model.specs.declared.key.Key.{Key}
use Rattle.sv_model.specs.declared.key.Secret.{Secret}
use Rattle.sv_model.specs.declared.key.Moment.{Moment}
use Rattle.sv_model.specs.declared.node.Setting.{Setting}
use Rattle.sv_model.specs.declared.node.Stage.TheVariants.{Blank, Past}
use Rattle.sv_model.specs.declared.node.Parked.{Parked}
use Rattle.sv_model.specs.declared.request.Request.{Request}
use Rattle.sv_model.specs.declared.response.Response.{Response}
use Rattle.sv_model.specs.declared.session.Session.{Session}
use Rattle.sv_model.specs.declared.event.Told.{Told}
use Rattle.sv_model.specs.declared.event.Event.TheVariants.{Destroyed, Passivate, Activate}
use Rattle.sv_model.specs.declared.outcome.Fate.TheVariants.{Untouched, Kept}
use Rattle.sv_model.specs.declared.outcome.Birth.TheVariants.{Absent, Alive}
use Rattle.sv_model.specs.declared.state.KeyState.TheVariants.{Active, Sent, Gone, Ended}
use Rattle.sv_model.specs.declared.record.Change.TheVariants.{Absent as Unchanged, Alive as ChangeAlive, Ended as ChangeEnded}
use Rattle.sv_model.specs.declared.record.Record.TheVariants.{Commit as CommitRecord, Expired as ExpiredRecord, Sent as SentRecord, Taken as TakenRecord}
use Rattle.sv_model.specs.declared.record.Record.TheVariants.{Gone as GoneRecord, Boot, Forgets, Counted}
use Rattle.sv_model.specs.declared.commit.Commit.TheVariants.{Served, Expired}
use Rattle.sv_model.specs.declared.packet.Packet.TheVariants.{Want, Grant, Ack, No}
use Rattle.sv_model.specs.declared.input.Input.TheVariants.{Ask, Packet as Incoming, Poke, Tick, Move}
use Rattle.sv_model.specs.declared.output.Output.TheVariants.{Answer, Refuse, Send, Moved, MoveRefused}
use Rattle.sv_model.specs.declared.output.Cause.TheVariants.{TableFull, ParkFull, Deadline}
use Rattle.sv_model.specs.declared.output.MoveRefusal.TheVariants.{UnknownKey, NotActive, BadPeer}
use Rattle.sv_model.specs.Engine.{EngineMeaning}
use Rattle.sv_model.specs.Session.{is_expired}
use Rattle.sv_model.specs.NodeState.{Keys, Durable, Node, setting_for, known}
use Rattle.sv_model.specs.Decision.{idle}
use Rattle.sv_model.specs.Node.{decided}
use Rattle.sv_model.specs.Replay.{blank, replayed}
use Rattle.sv_model.specs.Fitting.{Fits}

-- the nodes of the examples: three, and a request waits for 30 seconds
abbrev pub of_three : ℕ → Setting
of_three n = setting_for n 3 30

-- the first key of a node
abbrev pub first_key : ℕ → Key
first_key home = record { home = home; serial = 1 }

-- the second
abbrev pub second_key : ℕ → Key
second_key home = record { home = home; serial = 2 }

-- a node after its first start, that knows these keys and whose next serial is this
abbrev pub keeps : Keys → ℕ → Durable
keeps keys next = record { keys = keys; boot = 1; next = next; home = None }

-- one that forgets the keys of this home, and has handed out one key where it is its own
abbrev pub forgets : ℕ → Keys → Durable
forgets home keys = record { keys = keys; boot = 1; next = 2; home = Some home }

-- nothing waits there
abbrev pub at_rest : Durable → Node
at_rest d = record { durable = d; parked = []; next_want = 1 }

abbrev pub at_second : ℕ → Secret → Moment
at_second now secret = record { now = now; steady = now; secret = secret }

-- an engine, a request that names no session and makes one, and another that names it, changes it where it is handed in
-- and else makes a new one
pub record IsExample (m : EngineMeaning) (secret : Secret) (first again : Request) (made kept : Session) (one two : Response)
    (events more : List Told) : Type 0 where
  pub none : m.names first ≡ None
  pub names : m.names again ≡ Some (first_key 0, secret)
  pub makes : (k : Key) → m.serve first None 1_000 (k, secret) ≡ record { response = one; fate = Untouched; birth = Alive made; events = events }
  pub keeps_it : (k : Key) → m.serve again (Some (first_key 0, made)) 1_000 (k, secret)
      ≡ record { response = two; fate = Kept kept; birth = Absent; events = more }
  pub without : (k : Key) → m.serve again None 1_000 (k, secret) ≡ record { response = one; fate = Untouched; birth = Alive made; events = events }

module _ (m : EngineMeaning) (secret : Secret) (first again : Request) (made kept : Session) (one two : Response) (events more : List Told) where
  abbrev pub waits_at_1 : Parked
  waits_at_1 = record { token = 1; request = again; key = first_key 0; since = 1_000; want = 1 }

  -- a node that waits for the session, and knows these keys
  abbrev pub waiting : Keys → Node
  waiting keys = record { durable = keeps keys 1; parked = waits_at_1 ∷ []; next_want = 2 }

  -- the session goes from node 0 to node 1, which asks for it, and is served there
  pub record IsHandedOver : Type 0 where
    -- node 0 makes the session
    pub made_here : decided m (of_three 0) (at_rest (keeps empty 1)) (at_second 1_000 secret) (Ask 1 first) ≡ record {
      entry = Some (CommitRecord Unchanged (ChangeAlive (first_key 0) made));
      commit = Some (Served (record { number = 1; node = 0; boot = 1 }) first 1_000 false (first_key 0, secret));
      events = events;
      mark = None;
      outputs = Answer 1 one ∷ [];
      durable = keeps (insert empty (first_key 0) (Active 1 made)) 2;
      parked = [];
      next_want = 1;
    }
    -- node 1 is asked for it: it parks the request and wants the session of both others
    pub parked : decided m (of_three 1) (at_rest (keeps empty 1)) (at_second 1_000 secret) (Ask 1 again)
        ≡ record (idle (waiting empty) (Send (Want 1 0 (first_key 0) 1 1) ∷ Send (Want 1 2 (first_key 0) 1 1) ∷ [])) { next_want = 2 }
    -- node 0 hands it over, by a record
    pub wanted : decided m (of_three 0) (at_rest (keeps (insert empty (first_key 0) (Active 1 made)) 2)) (at_second 1_000 secret)
        (Incoming (Want 1 0 (first_key 0) 1 1)) ≡ record {
          entry = Some (SentRecord (first_key 0) 2 1 made);
          commit = None;
          events = [];
          mark = Some (record { context = made.context; event = Passivate (first_key 0) });
          outputs = Send (Grant 0 1 (first_key 0) 2 made) ∷ [];
          durable = keeps (insert (insert empty (first_key 0) (Active 1 made)) (first_key 0) (Sent 2 made 1)) 2;
          parked = [];
          next_want = 1;
        }
    -- node 1 takes it over, by a record
    pub granted : decided m (of_three 1) (waiting empty) (at_second 1_000 secret) (Incoming (Grant 0 1 (first_key 0) 2 made)) ≡ record {
      entry = Some (TakenRecord (first_key 0) 2 0 made);
      commit = None;
      events = [];
      mark = Some (record { context = made.context; event = Activate (first_key 0) });
      outputs = Send (Ack 1 0 (first_key 0) 2) ∷ [];
      durable = keeps (insert empty (first_key 0) (Active 2 made)) 1;
      parked = waits_at_1 ∷ [];
      next_want = 2;
    }
    -- and serves the request that waits with it
    pub poked : decided m (of_three 1) (waiting (insert empty (first_key 0) (Active 2 made))) (at_second 1_000 secret) Poke ≡ record {
      entry = Some (CommitRecord (ChangeAlive (first_key 0) kept) Unchanged);
      commit = Some (Served (record { number = 1; node = 1; boot = 1 }) again 1_000 true (first_key 1, secret));
      events = more;
      mark = None;
      outputs = Answer 1 two ∷ [];
      durable = keeps (insert (insert empty (first_key 0) (Active 2 made)) (first_key 0) (Active 2 kept)) 1;
      parked = [];
      next_want = 2;
    }
    -- node 0 hears that it was taken, and forgets it, by a record
    pub acknowledged : decided m (of_three 0) (at_rest (keeps (insert empty (first_key 0) (Sent 2 made 1)) 2)) (at_second 1_000 secret)
        (Incoming (Ack 1 0 (first_key 0) 2)) ≡ record {
          entry = Some (GoneRecord (first_key 0) 2);
          commit = None;
          events = [];
          mark = None;
          outputs = [];
          durable = keeps (insert (insert empty (first_key 0) (Sent 2 made 1)) (first_key 0) (Gone 2)) 2;
          parked = [];
          next_want = 1;
        }

  -- packets that come again or late, and orders that can't be met, change nothing
  pub record AreLate : Type 0 where
    -- node 2 has no such session
    pub unknown : decided m (of_three 2) (at_rest (keeps empty 1)) (at_second 1_000 secret) (Incoming (Want 1 2 (first_key 0) 1 1))
        ≡ idle (at_rest (keeps empty 1)) []
    -- a Grant of the epoch that is recorded, and of an older one, is acknowledged and not taken
    pub again_granted : decided m (of_three 1) (at_rest (keeps (insert empty (first_key 0) (Active 2 kept)) 1)) (at_second 1_000 secret)
        (Incoming (Grant 0 1 (first_key 0) 2 made))
        ≡ idle (at_rest (keeps (insert empty (first_key 0) (Active 2 kept)) 1)) (Send (Ack 1 0 (first_key 0) 2) ∷ [])
    pub stale : decided m (of_three 1) (at_rest (keeps (insert empty (first_key 0) (Gone 5)) 1)) (at_second 1_000 secret)
        (Incoming (Grant 0 1 (first_key 0) 2 made))
        ≡ idle (at_rest (keeps (insert empty (first_key 0) (Gone 5)) 1)) (Send (Ack 1 0 (first_key 0) 2) ∷ [])
    -- an Ack of another epoch is no answer to this Grant
    pub other_ack : decided m (of_three 0) (at_rest (keeps (insert empty (first_key 0) (Sent 4 made 1)) 2)) (at_second 1_000 secret)
        (Incoming (Ack 1 0 (first_key 0) 2))
        ≡ idle (at_rest (keeps (insert empty (first_key 0) (Sent 4 made 1)) 2)) []
    -- a No of an older start, or to another want, is none to the request that waits
    pub old_no : decided m (of_three 1) (waiting empty) (at_second 1_000 secret) (Incoming (No 0 1 (first_key 0) 0 1)) ≡ idle (waiting empty) []
    pub other_no : decided m (of_three 1) (waiting empty) (at_second 1_000 secret) (Incoming (No 0 1 (first_key 0) 1 2)) ≡ idle (waiting empty) []
    pub unknown_moved : decided m (of_three 0) (at_rest (keeps empty 1)) (at_second 1_000 secret) (Move (first_key 0) 1)
        ≡ idle (at_rest (keeps empty 1)) (MoveRefused UnknownKey ∷ [])
    pub gone_moved : decided m (of_three 0) (at_rest (keeps (insert empty (first_key 0) (Gone 2)) 2)) (at_second 1_000 secret) (Move (first_key 0) 1)
        ≡ idle (at_rest (keeps (insert empty (first_key 0) (Gone 2)) 2)) (MoveRefused NotActive ∷ [])
    pub moved_to_itself : decided m (of_three 1) (at_rest (keeps (insert empty (first_key 0) (Active 2 made)) 1)) (at_second 1_000 secret)
        (Move (first_key 0) 1)
        ≡ idle (at_rest (keeps (insert empty (first_key 0) (Active 2 made)) 1)) (MoveRefused BadPeer ∷ [])

  -- nobody has made the session that node 1 is asked for
  pub record IsNeverMade : Type 0 where
    -- its home says so
    pub denied : decided m (of_three 0) (at_rest (keeps empty 1)) (at_second 1_000 secret) (Incoming (Want 1 0 (first_key 0) 1 1))
        ≡ idle (at_rest (keeps empty 1)) (Send (No 0 1 (first_key 0) 1 1) ∷ [])
    -- and the request that waits is served without it
    pub served_without : decided m (of_three 1) (waiting empty) (at_second 1_000 secret) (Incoming (No 0 1 (first_key 0) 1 1)) ≡ record {
      entry = Some (CommitRecord Unchanged (ChangeAlive (first_key 1) made));
      commit = Some (Served (record { number = 1; node = 1; boot = 1 }) again 1_000 false (first_key 1, secret));
      events = events;
      mark = None;
      outputs = Answer 1 one ∷ [];
      durable = keeps (insert empty (first_key 1) (Active 1 made)) 2;
      parked = [];
      next_want = 2;
    }

  -- the session is wanted again with each second that the request waits, for as long as requests do
  pub record AreTicks : Type 0 where
    pub second_before : decided m (of_three 1) (waiting empty) (at_second 1_029 secret) Tick
        ≡ idle (waiting empty) (Send (Want 1 0 (first_key 0) 1 1) ∷ Send (Want 1 2 (first_key 0) 1 1) ∷ [])
    pub deadline : decided m (of_three 1) (waiting empty) (at_second 1_030 secret) Tick
        ≡ record (idle (waiting empty) (Refuse 1 Deadline ∷ [])) { parked = [] }
    -- a session that was handed over is handed over again
    pub granted_again : decided m (of_three 0) (at_rest (keeps (insert empty (first_key 0) (Sent 2 made 1)) 2)) (at_second 1_000 secret) Tick
        ≡ idle (at_rest (keeps (insert empty (first_key 0) (Sent 2 made 1)) 2)) (Send (Grant 0 1 (first_key 0) 2 made) ∷ [])

  -- orders that are met, time that has passed, and the limits
  pub record AreOrders : Type 0 where
    -- a session is handed to another node because it was ordered
    pub ordered : decided m (of_three 1) (at_rest (keeps (insert empty (first_key 0) (Active 2 kept)) 1)) (at_second 1_000 secret) (Move (first_key 0) 0)
        ≡ record {
          entry = Some (SentRecord (first_key 0) 3 0 kept);
          commit = None;
          events = [];
          mark = Some (record { context = kept.context; event = Passivate (first_key 0) });
          outputs = Send (Grant 1 0 (first_key 0) 3 kept) ∷ Moved ∷ [];
          durable = keeps (insert (insert empty (first_key 0) (Active 2 kept)) (first_key 0) (Sent 3 kept 0)) 1;
          parked = [];
          next_want = 1;
        }
    -- a session that has expired ends at a tick
    pub expired : is_expired made 1_000 ≡ true → decided m (of_three 0) (at_rest (keeps (insert empty (first_key 0) (Active 1 made)) 2))
        (at_second 1_000 secret) Tick ≡ record {
          entry = Some (ExpiredRecord (first_key 0));
          commit = Some (Expired (first_key 0) 1_000);
          events = record { context = made.context; event = Destroyed (first_key 0) } ∷ [];
          mark = None;
          outputs = [];
          durable = keeps (insert (insert empty (first_key 0) (Active 1 made)) (first_key 0) (Ended 1)) 2;
          parked = [];
          next_want = 1;
        }
    -- after 64 requests that wait another is refused
    pub park_full : (parked : List Parked) → length parked ≡ 64
        → decided m (of_three 1) (record { durable = keeps empty 1; parked = parked; next_want = 65 }) (at_second 1_000 secret) (Ask 1 again)
        ≡ idle (record { durable = keeps empty 1; parked = parked; next_want = 65 }) (Refuse 1 ParkFull ∷ [])

  -- a node that forgets has made a session that has ended: it keeps nothing of the key, and answers as if it had kept all
  pub record AreForgotten : Type 0 where
    -- a request that names it is served without it, and makes the next
    pub asked : decided m (of_three 0) (at_rest (forgets 0 empty)) (at_second 1_000 secret) (Ask 1 again) ≡ record {
      entry = Some (CommitRecord Unchanged (ChangeAlive (second_key 0) made));
      commit = Some (Served (record { number = 1; node = 0; boot = 1 }) again 1_000 false (second_key 0, secret));
      events = events;
      mark = None;
      outputs = Answer 1 one ∷ [];
      durable = record (forgets 0 (insert empty (second_key 0) (Active 1 made))) { next = 3 };
      parked = [];
      next_want = 1;
    }
    -- and so is one that waits for it
    pub poked : decided m (of_three 0) (record { durable = forgets 0 empty; parked = waits_at_1 ∷ []; next_want = 2 }) (at_second 1_000 secret) Poke ≡ record {
      entry = Some (CommitRecord Unchanged (ChangeAlive (second_key 0) made));
      commit = Some (Served (record { number = 1; node = 0; boot = 1 }) again 1_000 false (second_key 0, secret));
      events = events;
      mark = None;
      outputs = Answer 1 one ∷ [];
      durable = record (forgets 0 (insert empty (second_key 0) (Active 1 made))) { next = 3 };
      parked = [];
      next_want = 2;
    }
    -- who asks for it hears that there is no such session
    pub denied : decided m (of_three 0) (at_rest (forgets 0 empty)) (at_second 1_000 secret) (Incoming (Want 1 0 (first_key 0) 1 1))
        ≡ idle (at_rest (forgets 0 empty)) (Send (No 0 1 (first_key 0) 1 1) ∷ [])
    -- a Grant of any epoch is acknowledged and not taken
    pub granted : decided m (of_three 0) (at_rest (forgets 0 empty)) (at_second 1_000 secret) (Incoming (Grant 1 0 (first_key 0) 7 made))
        ≡ idle (at_rest (forgets 0 empty)) (Send (Ack 0 1 (first_key 0) 7) ∷ [])
    pub moved : decided m (of_three 0) (at_rest (forgets 0 empty)) (at_second 1_000 secret) (Move (first_key 0) 1)
        ≡ idle (at_rest (forgets 0 empty)) (MoveRefused NotActive ∷ [])
    -- a key that it has not handed out it has not forgotten, nor one that no session ever has, nor one of another home
    pub unmade : known (forgets 0 empty) (second_key 0) ≡ None
    pub never : known (forgets 0 empty) (record { home = 0; serial = 0 }) ≡ None
    pub foreign : known (forgets 0 empty) (first_key 1) ≡ None
    -- a session of its own that expires leaves nothing
    pub expired : is_expired made 1_000 ≡ true → decided m (of_three 0) (at_rest (forgets 0 (insert empty (first_key 0) (Active 1 made))))
        (at_second 1_000 secret) Tick ≡ record {
          entry = Some (ExpiredRecord (first_key 0));
          commit = Some (Expired (first_key 0) 1_000);
          events = record { context = made.context; event = Destroyed (first_key 0) } ∷ [];
          mark = None;
          outputs = [];
          durable = forgets 0 empty;
          parked = [];
          next_want = 1;
        }
    -- one of another home leaves its epoch
    pub expired_away : is_expired made 1_000 ≡ true → decided m (of_three 1) (at_rest (forgets 1 (insert empty (first_key 0) (Active 2 made))))
        (at_second 1_000 secret) Tick ≡ record {
          entry = Some (ExpiredRecord (first_key 0));
          commit = Some (Expired (first_key 0) 1_000);
          events = record { context = made.context; event = Destroyed (first_key 0) } ∷ [];
          mark = None;
          outputs = [];
          durable = forgets 1 (insert (insert empty (first_key 0) (Active 2 made)) (first_key 0) (Ended 2));
          parked = [];
          next_want = 1;
        }

  -- a node that knows no key more
  pub record AreFull : Type 0 where
    -- where it forgets, it asks for no session that it has no room for
    pub crowded : decided m (record (of_three 1) { keys = 0 }) (at_rest (forgets 1 empty)) (at_second 1_000 secret) (Ask 1 again)
        ≡ idle (at_rest (forgets 1 empty)) (Refuse 1 TableFull ∷ [])
    -- where it forgets none, it asks for it, and leaves the Grant
    pub parked : decided m (record (of_three 1) { keys = 0 }) (at_rest (keeps empty 1)) (at_second 1_000 secret) (Ask 1 again)
        ≡ record (idle (waiting empty) (Send (Want 1 0 (first_key 0) 1 1) ∷ Send (Want 1 2 (first_key 0) 1 1) ∷ [])) { next_want = 2 }
    pub left : decided m (record (of_three 1) { keys = 0 }) (waiting empty) (at_second 1_000 secret) (Incoming (Grant 0 1 (first_key 0) 2 made))
        ≡ idle (waiting empty) []
    -- and it makes no session
    pub refused : decided m (record (of_three 0) { keys = 0 }) (at_rest (keeps empty 1)) (at_second 1_000 secret) (Ask 1 first)
        ≡ idle (at_rest (keeps empty 1)) (Refuse 1 TableFull ∷ [])

-- what records of a node that forgets give, and where they may stand
pub record AreForgetting (s : Session) : Type 0 where
  -- from its first start on an own session that ends leaves nothing
  pub begun : replayed blank (Forgets 0 1 ∷ CommitRecord Unchanged (ChangeAlive (first_key 0) s) ∷ CommitRecord (ChangeEnded (first_key 0)) Unchanged ∷ [])
      ≡ forgets 0 empty
  -- one that was made and has ended at once has spent its serial
  pub spent : replayed blank (Forgets 0 1 ∷ CommitRecord Unchanged (ChangeEnded (first_key 0)) ∷ []) ≡ forgets 0 empty
  -- what ended before that stays
  pub before : replayed blank (Boot 1 ∷ CommitRecord Unchanged (ChangeEnded (first_key 0)) ∷ Forgets 0 2 ∷ [])
      ≡ record (forgets 0 (insert empty (first_key 0) (Ended 1))) { boot = 2 }
  pub counted : replayed blank (Counted 0 1 2 ∷ []) ≡ forgets 0 empty
  -- a later start that says nothing of it changes nothing of it
  pub stays : replayed blank (Counted 0 1 2 ∷ Boot 2 ∷ []) ≡ record (forgets 0 empty) { boot = 2 }
  -- a start may stand where its number is the next, a head where nothing stands before it, and both at their own node alone
  pub starts : Fits (of_three 0) Past (forgets 0 empty) (Forgets 0 2)
  pub starts_once : Fits (of_three 0) Past (forgets 0 empty) (Forgets 0 1) → ⊥
  pub starts_elsewhere : Fits (of_three 1) Past (forgets 0 empty) (Forgets 0 2) → ⊥
  pub heads : Fits (of_three 0) Blank blank (Counted 0 1 2)
  pub heads_late : Fits (of_three 0) Past (forgets 0 empty) (Counted 0 1 2) → ⊥
  pub heads_elsewhere : Fits (of_three 1) Blank blank (Counted 0 1 2) → ⊥
