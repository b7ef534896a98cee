-- The steps of a stream are a history of the node alone, in which each request has a token of its own.
use Rattle.std.proofs.Common.{◌≡◌, ◌⊎◌, ℕ, ◌+◌, ◌<◌, ◌≤◌, Bool, true, false, cond, Option, List, [], ◌∷◌, ◌++◌, Result, Ok, Err, arith, refl, sym, ap, subst, inl, inr}
use Rattle.std.specs.Prelude.{◌==◌, ◌&&◌}
use Rattle.std.specs.Option.{option_to_list}
use Rattle.std.proofs.lemmas.Bool.{and_parts, eqb-true}
use Rattle.std.proofs.lemmas.List.{append-nil}
use Rattle.sv_model.specs.declared.key.Token.{Token}
use Rattle.sv_model.specs.declared.key.Moment.{Moment}
use Rattle.sv_model.specs.declared.node.Setting.{Setting}
use Rattle.sv_model.specs.declared.request.Request.{Request}
use Rattle.sv_model.specs.declared.input.Input.TheVariants.{Ask}
use Rattle.sv_model.specs.declared.output.Output.{Output}
use Rattle.sv_model.specs.declared.site.StepFault.{StepFault}
use Rattle.sv_model.specs.Engine.{EngineMeaning, TouchesOnlyHanded}
use Rattle.sv_model.specs.Limits.{NamesKeys}
use Rattle.sv_model.specs.NodeState.{Node}
use Rattle.sv_model.specs.Serving.{token_of}
use Rattle.sv_model.specs.Step.{View}
use Rattle.sv_model.specs.Alone.{Call, Leads, item_by, node_by, trace_of}
use Rattle.sv_model.specs.Trace.{Item, asked_of, same_token, times, AreDistinct}
use Rattle.sv_message.specs.declared.request.RawRequest.{RawRequest}
use Rattle.sv_solo.specs.declared.served.Served.{Served}
use Rattle.sv_solo.specs.declared.solo.Solo.{Solo}
use Rattle.sv_solo.specs.Table.{alone, node_of}
use Rattle.sv_solo.specs.Solo.{IsNew, IsHistory, solo_steps, view_of}
use Rattle.sv_connection.specs.Request.{request_of}
use Rattle.sv_solo.specs.Serve.{How, Sight, IsDirected, IsServed}
use Rattle.sv_solo.proofs.TraceLemmas.{times-append, all_runs, one_container, acknowledged, served_once}
use Rattle.sv_launch.specs.declared.stream.OnceFault.{OnceFault}
use Rattle.sv_launch.specs.Once.{turn_of, Reaches, AtStart, Behind, EndsWith, IsSpent, IsStream, directed_call, call_in, calls_to, call_at_end, calls_of, IsOneHistory}

-- ---- numbers that rise

-- each is a request, under a number above those before it
abbrev RiseFrom : ℕ → List Call → Type 0
RiseFrom below [] = Unit {0}
RiseFrom below (c ∷ cs) = (number : ℕ) × (r : Request) × (c.input ≡ Ask number r) × (below < number) × RiseFrom number cs

rise_later : (a b : ℕ) (cs : List Call) → a ≤ b → RiseFrom b cs → RiseFrom a cs
rise_later a b [] le rise = tt
rise_later a b (c ∷ cs) le rise = (rise.0, rise.1, rise.2, omega (arith, le, rise.3), rise.4)

-- under numbers that rise a token comes once at most, and not at all where its number isn't above where they begin
pub record ComesOnce (below : ℕ) (t : Token) (tokens : List Token) : Type 0 where
  pub once : times t tokens ≤ 1
  pub later : t.number ≤ below → times t tokens ≡ 0

same_number : (t u : Token) → same_token t u ≡ true → t.number ≡ u.number
same_number t u is = eqb-true t.number u.number (and_parts (t.number == u.number) ((t.node == u.node) && (t.boot == u.boot)) is).0

count_one : (t u : Token) (below : ℕ) (tokens : List Token) (b : Bool) → same_token t u ≡ b → below < u.number → ComesOnce u.number t tokens
    → (cond b 1 0 + 0 + times t tokens ≤ 1) × (t.number ≤ below → cond b 1 0 + 0 + times t tokens ≡ 0)
count_one t u below tokens true is less rest =
    let same = same_number t u is in
    let none : times t tokens ≡ 0 = rest.later (omega (arith, same)) in
    (omega (arith, none), λ low. absurd (omega (arith, same, less, low)))
count_one t u below tokens false is less rest = (omega (arith, rest.once), λ low. let none : times t tokens ≡ 0 = rest.later (omega (arith, low, less)) in omega (arith, none))

comes_now : (t u : Token) (below : ℕ) (tokens : List Token) → below < u.number → ComesOnce u.number t tokens → ComesOnce below t (u ∷ [] ++ tokens)
comes_now t u below tokens less rest =
    let both = count_one t u below tokens (same_token t u) refl less rest in
    let split = times-append t (u ∷ []) tokens in
    record { once = omega (arith, both.0, split); later = λ low. let none = both.1 low in omega (arith, none, split) }

module _ (m : EngineMeaning) (set : Setting) where
  comes_by : (n : Node) (moment : Moment) (number : ℕ) (r : Request) (answer : Result (List Output) StepFault) (below : ℕ) (t : Token) (rest : List Item) → below < number → ComesOnce number t (asked_of rest)
      → ComesOnce below t (asked_of (option_to_list (item_by m set n moment (Ask number r) answer) ++ rest))
  comes_by n moment number r (Ok outputs) below t rest less later = comes_now t (token_of set n.durable number) below (asked_of rest) less later
  comes_by n moment number r (Err fault) below t rest less later = record { once = later.once; later = λ low. later.later (omega (arith, low, less)) }

  comes_once : (n : Node) (calls : List Call) (below : ℕ) (t : Token) → RiseFrom below calls → ComesOnce below t (asked_of (trace_of m set n calls))
  comes_once n [] below t rise = record { once = omega arith; later = λ low. refl }
  comes_once n (c ∷ cs) below t rise =
      subst (λ input. ComesOnce below t (asked_of (option_to_list (item_by m set n c.moment input c.answer) ++ trace_of m set (node_by m set n c.moment input c.answer) cs))) (sym rise.2)
      (comes_by n c.moment rise.0 rise.1 c.answer below t _ rise.3 (comes_once (node_by m set n c.moment (Ask rise.0 rise.1) c.answer) cs rise.0 t rise.4))

-- ---- steps that lead on

module _ {E : Type 0} (meaning : E → EngineMeaning) (heard : E → List (List ℕ)) (now : ℕ) where
  led_directed : (how : How) (raw : RawRequest) (so sn : Solo E) (wo wn : Option (List ℕ)) (closed : Bool) (served : Served) (d : IsDirected (solo_steps meaning heard) how raw so sn wo wn closed served) (behind : List Call) (end : View)
      → Leads alone (view_of meaning heard sn) behind end → Leads alone (view_of meaning heard so) (directed_call (solo_steps meaning heard) how raw so sn wo wn closed served d ++ behind) end
  led_directed how raw so sn wo wn closed served (inl misdirected) behind end led = subst (λ s. Leads alone (view_of meaning heard s) behind end) misdirected.site led
  led_directed how raw so sn wo wn closed served (inr asked) behind end led = (view_of meaning heard sn, asked.answered.step, led)

  led_call : (how : How) (old new : Sight (Solo E)) (served : Served) (call : IsServed (solo_steps meaning heard) how old new served) (behind : List Call) (end : View)
      → Leads alone (view_of meaning heard new.site) behind end → Leads alone (view_of meaning heard old.site) (call_in (solo_steps meaning heard) how old new served call ++ behind) end
  led_call how old new served (inl idle) behind end led = subst (λ s. Leads alone (view_of meaning heard s) behind end) idle.site led
  led_call how old new served (inr taken) behind end led = led_directed how taken.raw old.site new.site old.written new.written new.closed served taken.directed behind end led

  led_to : (start : Sight (Solo E)) (count : ℕ) (at : Sight (Solo E)) (reached : Reaches (solo_steps meaning heard) now start count at) (behind : List Call) (end : View)
      → Leads alone (view_of meaning heard at.site) behind end → Leads alone (view_of meaning heard start.site) (calls_to (solo_steps meaning heard) now start count at reached behind) end
  led_to start count at AtStart behind end led = led
  led_to start count at (Behind before old new served reached more call) behind end led =
      led_to start before old reached (call_in (solo_steps meaning heard) (turn_of now (before + 1)) old new served call ++ behind) end
      (led_call (turn_of now (before + 1)) old new served call behind end led)

  led_end : (count : ℕ) (old new : Sight (Solo E)) (result : Result (Unit {0}) OnceFault) (ends : EndsWith (solo_steps meaning heard) now count old new result ⊎ IsSpent count old new result)
      → Leads alone (view_of meaning heard old.site) (call_at_end (solo_steps meaning heard) now count old new result ends) (view_of meaning heard new.site)
  led_end count old new result (inl ends) =
      subst (λ calls. Leads alone (view_of meaning heard old.site) calls (view_of meaning heard new.site)) (append-nil (call_in (solo_steps meaning heard) (turn_of now (count + 1)) old new ends.served ends.call))
      (led_call (turn_of now (count + 1)) old new ends.served ends.call [] (view_of meaning heard new.site) refl)
  led_end count old new result (inr spent) = ap (λ (s : Sight (Solo E)). view_of meaning heard s.site) spent.stays

  -- ---- and whose numbers rise

  rise_directed : (how : How) (below : ℕ) (raw : RawRequest) (so sn : Solo E) (wo wn : Option (List ℕ)) (closed : Bool) (served : Served) (d : IsDirected (solo_steps meaning heard) how raw so sn wo wn closed served) (behind : List Call)
      → below < how.token → RiseFrom how.token behind → RiseFrom below (directed_call (solo_steps meaning heard) how raw so sn wo wn closed served d ++ behind)
  rise_directed how below raw so sn wo wn closed served (inl misdirected) behind less rise = rise_later below how.token behind (omega (arith, less)) rise
  rise_directed how below raw so sn wo wn closed served (inr asked) behind less rise = (how.token, request_of how.single raw asked.target, refl, less, rise)

  rise_call : (how : How) (below : ℕ) (old new : Sight (Solo E)) (served : Served) (call : IsServed (solo_steps meaning heard) how old new served) (behind : List Call)
      → below < how.token → RiseFrom how.token behind → RiseFrom below (call_in (solo_steps meaning heard) how old new served call ++ behind)
  rise_call how below old new served (inl idle) behind less rise = rise_later below how.token behind (omega (arith, less)) rise
  rise_call how below old new served (inr taken) behind less rise = rise_directed how below taken.raw old.site new.site old.written new.written new.closed served taken.directed behind less rise

  rise_to : (start : Sight (Solo E)) (count : ℕ) (at : Sight (Solo E)) (reached : Reaches (solo_steps meaning heard) now start count at) (behind : List Call)
      → RiseFrom count behind → RiseFrom 0 (calls_to (solo_steps meaning heard) now start count at reached behind)
  rise_to start count at AtStart behind rise = rise
  rise_to start count at (Behind before old new served reached more call) behind rise =
      rise_to start before old reached (call_in (solo_steps meaning heard) (turn_of now (before + 1)) old new served call ++ behind)
      (rise_call (turn_of now (before + 1)) before old new served call behind (omega arith) rise)

  rise_end : (count : ℕ) (old new : Sight (Solo E)) (result : Result (Unit {0}) OnceFault) (ends : EndsWith (solo_steps meaning heard) now count old new result ⊎ IsSpent count old new result)
      → RiseFrom count (call_at_end (solo_steps meaning heard) now count old new result ends)
  rise_end count old new result (inl ends) =
      subst (RiseFrom count) (append-nil (call_in (solo_steps meaning heard) (turn_of now (count + 1)) old new ends.served ends.call))
      (rise_call (turn_of now (count + 1)) count old new ends.served ends.call [] (omega arith) tt)
  rise_end count old new result (inr spent) = tt

  -- ---- all of it

  pub one_history : (engine : E) → TouchesOnlyHanded (meaning engine) → NamesKeys (meaning engine) → (start end : Sight (Solo E)) (result : Result (Unit {0}) OnceFault) (stream : IsStream (solo_steps meaning heard) now start end result)
      → IsNew start.site engine → IsOneHistory meaning heard engine start.site end.site (calls_of (solo_steps meaning heard) now start end result stream)
  one_history engine untouched can start end result stream new =
      let last = call_at_end (solo_steps meaning heard) now stream.count stream.last end result stream.ends in
      let led = led_to start stream.count stream.last stream.reached last (view_of meaning heard end.site) (led_end stream.count stream.last end result stream.ends) in
      let rise = rise_to start stream.count stream.last stream.reached last (rise_end stream.count stream.last end result stream.ends) in
      let calls = calls_of (solo_steps meaning heard) now start end result stream in
      let history : IsHistory (meaning engine) (view_of meaning heard start.site) calls (view_of meaning heard end.site) = record { meaning = ap meaning new.over; node = ap node_of new.none; led = led } in
      let run = all_runs (meaning engine) untouched can (view_of meaning heard start.site) (view_of meaning heard end.site) calls history in
      let answers = acknowledged (meaning engine) (trace_of (meaning engine) alone (node_of []) calls) (view_of meaning heard end.site).node run in
      let distinct : AreDistinct (asked_of (trace_of (meaning engine) alone (node_of []) calls)) = λ t. (comes_once (meaning engine) alone (node_of []) calls 0 t rise).once in
      record {
        history = history;
        distinct = distinct;
        container = one_container (meaning engine) (trace_of (meaning engine) alone (node_of []) calls) (view_of meaning heard end.site).node run;
        acknowledged = answers;
        once = served_once (meaning engine) (trace_of (meaning engine) alone (node_of []) calls) answers distinct;
      }
