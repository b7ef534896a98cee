-- Who waits at a node after a step, and to whom the step tells something: to nobody who goes on waiting.
use Rattle.sv_host.proofs.Prelude.{◌≡◌, ◌≢◌, ℕ, ◌<◌, ◌≤◌, ◌||◌, Bool, true, false, cond, not, Option, Some, None, List, [], ◌∷◌, ◌++◌, map, length, arith, refl}
use Rattle.sv_host.proofs.Prelude.{ap, ⊤, Input, Key, Moment, Parked, Setting, Cause, Output, Refuse, Send, Moved, Packet, Request, EngineMeaning, decided}
use Rattle.sv_host.proofs.Prelude.{is_settled, known, answer_of, answered_unless, no_birth, is_late, first_of, serve_first, Has, HasAsked, KeepsOthers, WaitFor}
use Rattle.sv_host.proofs.Prelude.{IsAbove, number_in, ParkedClient}
use Rattle.std.proofs.Common.{◌==◌, nat_le, filter, filter_map, flat_map}
use Rattle.std.specs.FinMap.{entries}
use Rattle.std.proofs.lemmas.Bool.{cond_both}
use Rattle.sv_model.specs.declared.input.Input.TheVariants as input
use Rattle.sv_model.specs.declared.key.Secret.{Secret}
use Rattle.sv_model.specs.declared.output.Cause.TheVariants.{Deadline, TableFull, ParkFull, WantsSpent}
use Rattle.sv_model.specs.declared.outcome.Outcome.{Outcome}
use Rattle.sv_model.specs.declared.output.MoveRefusal.TheVariants.{UnknownKey, NotActive, BadPeer, EpochsSpent}
use Rattle.sv_model.specs.declared.record.Record.TheVariants.{Gone as GoneRecord}
use Rattle.sv_model.specs.declared.packet.Packet.TheVariants.{Want, Grant, Ack, No}
use Rattle.sv_model.specs.declared.session.Session.{Session}
use Rattle.sv_model.specs.declared.state.KeyState.{KeyState}
use Rattle.sv_model.specs.declared.state.KeyState.TheVariants.{Active, Sent, Gone, Ended}
use Rattle.sv_model.specs.declared.state.TheConstants.{PARK_LIMIT}
use Rattle.sv_model.specs.Decision.{Decision, idle, with_record}
use Rattle.sv_model.specs.Migration.{hands_over, is_ours, is_wanted, move_refused, no_if_unmade, on_ack, on_grant, on_move, on_no, on_ours, on_packet, on_want, takes_over}
use Rattle.sv_model.specs.NodeState.{Durable, Node, epoch_in, is_crowded, is_dead, is_unmade, lacks_room, last_number}
use Rattle.sv_model.specs.Serving.{refused, served}
use Rattle.sv_model.specs.Time.{deadlines, grant_again, is_quiet, on_tick, wants_again}
use Rattle.sv_model.specs.Waiting.{on_ask, others, parks, serve_parked, waits, wants, without}
use Rattle.sv_host.specs.Clients.{AreForOthers, Wait}

-- ---- requests that wait

module _ (P : ℕ → Type 0) where
  highest : (low high : ℕ) (ps : List Parked) → Wait P low high ps → low ≤ high
  highest low high [] w = w
  highest low high (p ∷ ps) w = omega (arith, w.0, highest p.token high ps w.2)

  pub wait_below : (low high higher : ℕ) (ps : List Parked) → high ≤ higher → Wait P low high ps → Wait P low higher ps
  wait_below low high higher [] le w = omega (arith, le, w)
  wait_below low high higher (p ∷ ps) le w = (w.0, w.1, wait_below p.token high higher ps le w.2)

  pub wait_above : (lower low high : ℕ) (ps : List Parked) → lower ≤ low → Wait P low high ps → Wait P lower high ps
  wait_above lower low high [] le w = omega (arith, le, w)
  wait_above lower low high (p ∷ ps) le w = (omega (arith, le, w.0), w.1, w.2)

  pub wait_more : (low high : ℕ) (ps : List Parked) (p : Parked) → high < p.token → P p.token → Wait P low high ps → Wait P low p.token (ps ++ p ∷ [])
  wait_more low high [] p above holds w = (omega (arith, above, w), holds, omega arith)
  wait_more low high (q ∷ ps) p above holds w = (w.0, w.1, wait_more q.token high ps p above holds w.2)

module _ (P Q : ℕ → Type 0) where
  pub wait_map : (low high : ℕ) (ps : List Parked) → ((token : ℕ) → low < token → token ≤ high → P token → Q token) → Wait P low high ps → Wait Q low high ps
  wait_map low high [] to w = w
  wait_map low high (p ∷ ps) to w = (w.0, to p.token w.0 (highest P p.token high ps w.2) w.1, wait_map p.token high ps (λ token above below. to token (omega (arith, above, w.0)) below) w.2)

-- ---- to whom something is told

pub others_append : (token : ℕ) (xs ys : List Output) → AreForOthers token xs → AreForOthers token ys → AreForOthers token (xs ++ ys)
others_append token [] ys h k = k
others_append token (x ∷ xs) ys h k = (h.0, others_append token xs ys h.1 k)

wants_tell : (set : Setting) (d : Durable) (k : Key) (want token : ℕ) (ps : List ℕ) → AreForOthers token (map (λ p. Send (Want set.node p k d.boot want)) ps)
wants_tell set d k want token [] = tt
wants_tell set d k want token (p ∷ ps) = (tt, wants_tell set d k want token ps)

again_tell : (set : Setting) (d : Durable) (token : ℕ) (ps : List Parked) → AreForOthers token (flat_map (λ p. wants set d p.key p.want) ps)
again_tell set d token [] = tt
again_tell set d token (p ∷ ps) = others_append token (wants set d p.key p.want) (flat_map (λ q. wants set d q.key q.want) ps) (wants_tell set d p.key p.want token (others set)) (again_tell set d token ps)

grants_tell : (set : Setting) (token : ℕ) (es : List (Key × KeyState)) → AreForOthers token (filter_map (grant_again set) es)
grants_tell set token [] = tt
grants_tell set token ((k, Active e s) ∷ es) = grants_tell set token es
grants_tell set token ((k, Sent e s to) ∷ es) = (tt, grants_tell set token es)
grants_tell set token ((k, Gone e) ∷ es) = grants_tell set token es
grants_tell set token ((k, Ended e) ∷ es) = grants_tell set token es

-- ---- a decision

-- who waits after a decision is told nothing by it, and nobody who comes later
pub record Spares (P : ℕ → Type 0) (high : ℕ) (d : Decision) : Type 0 where
  pub wait : Wait (λ token. P token × AreForOthers token d.outputs) 0 high d.parked
  pub later : (token : ℕ) → high < token → AreForOthers token d.outputs

module _ (P : ℕ → Type 0) where
  -- nobody is told anything
  untold : (high : ℕ) (d : Decision) → ((token : ℕ) → AreForOthers token d.outputs) → Wait P 0 high d.parked → Spares P high d
  untold high d quiet w = record { wait = wait_map P (λ token. P token × AreForOthers token d.outputs) 0 high d.parked (λ token above below holds. (holds, quiet token)) w; later = λ token _. quiet token }

  -- the requests that wait came before the one that is told something
  one_told : (high number : ℕ) (d : Decision) → high < number → ((token : ℕ) → number ≢ token → AreForOthers token d.outputs) → Wait P 0 high d.parked → Spares P number d
  one_told high number d above told w = record {
    wait = wait_below (λ token. P token × AreForOthers token d.outputs) 0 high number d.parked (omega (arith, above))
        (wait_map P (λ token. P token × AreForOthers token d.outputs) 0 high d.parked (λ token _ below holds. (holds, told token (λ same. omega (arith, same, above, below)))) w);
    later = λ token after. told token (λ same. omega (arith, same, after));
  }

  -- the one that was taken out is told something
  other_told : (high number : ℕ) (d : Decision) → number ≤ high → ((token : ℕ) → number ≢ token → AreForOthers token d.outputs) → Wait (λ token. P token × (number ≢ token)) 0 high d.parked → Spares P high d
  other_told high number d within told w = record {
    wait = wait_map (λ token. P token × (number ≢ token)) (λ token. P token × AreForOthers token d.outputs) 0 high d.parked (λ token above below holds. (holds.0, told token holds.1)) w;
    later = λ token after. told token (λ same. omega (arith, same, after, within));
  }

  either : (high : ℕ) (b : Bool) (x y : Decision) → (b ≡ true → Spares P high x) → (b ≡ false → Spares P high y) → Spares P high (cond b x y)
  either high b x y f g = cond_both b x y (λ d. Spares P high d) f g

  -- ---- one that is served

  answered_tells : (cause : Option Cause) (m : EngineMeaning) (set : Setting) (n : Node) (moment : Moment) (number : ℕ) (r : Request) (out : Outcome) (waiting : List Parked) (token : ℕ) → number ≢ token
      → AreForOthers token (answered_unless cause m set n moment number r out waiting).outputs
  answered_tells None m set n moment number r out waiting token other = (other, tt)
  answered_tells (Some cause) m set n moment number r out waiting token other = (other, tt)

  answered_parked : (cause : Option Cause) (m : EngineMeaning) (set : Setting) (n : Node) (moment : Moment) (number : ℕ) (r : Request) (out : Outcome) (waiting : List Parked)
      → (Q : ℕ → Type 0) (high : ℕ) → Wait Q 0 high waiting → Wait Q 0 high (answered_unless cause m set n moment number r out waiting).parked
  answered_parked None m set n moment number r out waiting Q high w = w
  answered_parked (Some cause) m set n moment number r out waiting Q high w = w

  -- one that has just come
  new_served : (m : EngineMeaning) (set : Setting) (n : Node) (moment : Moment) (number : ℕ) (r : Request) (waiting : List Parked) (high : ℕ) → high < number → Wait P 0 high waiting
      → Spares P number (served m set n moment number r waiting)
  new_served m set n moment number r waiting high above w =
      let out = answer_of m set n.durable moment r in
      let cause = no_birth set n.durable out.birth in
      one_told high number (served m set n moment number r waiting) above (λ token other. answered_tells cause m set n moment number r out waiting token other)
      (answered_parked cause m set n moment number r out waiting P high w)

  -- one that has waited
  old_served : (m : EngineMeaning) (set : Setting) (n : Node) (moment : Moment) (number : ℕ) (r : Request) (waiting : List Parked) (high : ℕ) → number ≤ high → Wait (λ token. P token × (number ≢ token)) 0 high waiting
      → Spares P high (served m set n moment number r waiting)
  old_served m set n moment number r waiting high within w =
      let out = answer_of m set n.durable moment r in
      let cause = no_birth set n.durable out.birth in
      other_told high number (served m set n moment number r waiting) within (λ token other. answered_tells cause m set n moment number r out waiting token other)
      (answered_parked cause m set n moment number r out waiting (λ token. P token × (number ≢ token)) high w)

  -- ---- a request comes

  new_refused : (n : Node) (number : ℕ) (cause : Cause) (waiting : List Parked) (high : ℕ) → high < number → Wait P 0 high waiting → Spares P number (refused n number cause waiting)
  new_refused n number cause waiting high above w = one_told high number (refused n number cause waiting) above (λ token other. (other, tt)) w

  new_parks : (set : Setting) (n : Node) (moment : Moment) (number : ℕ) (r : Request) (k : Key) (high : ℕ) → high < number → P number → Wait P 0 high n.parked
      → Spares P number (parks set n moment number r k)
  new_parks set n moment number r k high above holds w =
      untold number (parks set n moment number r k) (λ token. wants_tell set n.durable k n.next_want token (others set))
      (wait_more P 0 high n.parked (record { token = number; request = r; key = k; since = moment.steady; want = n.next_want }) above holds w)

  new_waits : (set : Setting) (n : Node) (moment : Moment) (number : ℕ) (r : Request) (k : Key) (high : ℕ) → high < number → P number → Wait P 0 high n.parked
      → Spares P number (waits set n moment number r k)
  new_waits set n moment number r k high above holds w =
      either number (is_crowded set n.durable k) _ _ (λ _. new_refused n number TableFull n.parked high above w)
      (λ _. either number (nat_le PARK_LIMIT (length n.parked)) _ _ (λ _. new_refused n number ParkFull n.parked high above w)
      (λ _. either number (n.next_want == last_number) _ _ (λ _. new_refused n number WantsSpent n.parked high above w) (λ _. new_parks set n moment number r k high above holds w)))

  asked_named : (m : EngineMeaning) (set : Setting) (n : Node) (moment : Moment) (number : ℕ) (r : Request) (named : Option (Key × Secret)) (high : ℕ) → high < number → P number → Wait P 0 high n.parked
      → Spares P number (on_ask m set n moment number r named)
  asked_named m set n moment number r None high above holds w = new_served m set n moment number r n.parked high above w
  asked_named m set n moment number r (Some named) high above holds w =
      either number (is_settled (known n.durable named.0) || is_dead set n.durable named.0) _ _ (λ _. new_served m set n moment number r n.parked high above w)
      (λ _. new_waits set n moment number r named.0 high above holds w)

  -- ---- one that has waited is served

  leaves_by : (b : Bool) (test : Parked → Bool) (low high : ℕ) (p : Parked) (ps : List Parked) → low < p.token → P p.token → Wait P p.token high ps → (q : Parked)
      → (first_of test ps ≡ Some q → (p.token < q.token) × (q.token ≤ high) × Wait (λ token. P token × (q.token ≢ token)) p.token high (without test ps))
      → cond b (Some p) (first_of test ps) ≡ Some q
      → (low < q.token) × (q.token ≤ high) × Wait (λ token. P token × (q.token ≢ token)) low high (cond b ps (p ∷ without test ps))
  leaves_by true test low high p ps above holds w q rest is =
      let same : p.token ≡ q.token = ap (λ (x : Parked). x.token) (let one : p ≡ q = cc in one) in (
        omega (arith, same, above),
        omega (arith, same, highest P p.token high ps w),
        wait_above (λ token. P token × (q.token ≢ token)) low p.token high ps (omega (arith, above))
            (wait_map P (λ token. P token × (q.token ≢ token)) p.token high ps (λ token more _ holds. (holds, λ equal. omega (arith, same, equal, more))) w),
      )
  leaves_by false test low high p ps above holds w q rest is =
      let r = rest is in
      (omega (arith, above, r.0), r.1, (above, (holds, λ equal. omega (arith, equal, r.0)), r.2))

  -- the first that passes is another than those that stay
  one_leaves : (test : Parked → Bool) (low high : ℕ) (ps : List Parked) → Wait P low high ps → (q : Parked) → first_of test ps ≡ Some q
      → (low < q.token) × (q.token ≤ high) × Wait (λ token. P token × (q.token ≢ token)) low high (without test ps)
  one_leaves test low high [] w q is = absurd (let h = is in cc)
  one_leaves test low high (p ∷ ps) w q is = leaves_by (test p) test low high p ps w.0 w.1 w.2 q (λ first. one_leaves test p.token high ps w.2 q first) is

  first_served : (m : EngineMeaning) (set : Setting) (n : Node) (moment : Moment) (first : Option Parked) (waiting : List Parked) (high : ℕ) → Wait P 0 high n.parked
      → ((q : Parked) → first ≡ Some q → (q.token ≤ high) × Wait (λ token. P token × (q.token ≢ token)) 0 high waiting) → Spares P high (serve_first m set n moment first waiting)
  first_served m set n moment None waiting high all w = untold high (idle n []) (λ token. tt) all
  first_served m set n moment (Some p) waiting high all w = old_served m set n moment p.token p.request waiting high (w p refl).0 (w p refl).1

  parked_served : (m : EngineMeaning) (set : Setting) (n : Node) (moment : Moment) (test : Parked → Bool) (high : ℕ) → Wait P 0 high n.parked → Spares P high (serve_parked m set n moment test)
  parked_served m set n moment test high w =
      first_served m set n moment (first_of test n.parked) (without test n.parked) high w (λ q is. let one = one_leaves test 0 high n.parked w q is in (one.1, one.2))

  -- ---- packets, and orders

  quiet : (n : Node) (outputs : List Output) (high : ℕ) → ((token : ℕ) → AreForOthers token outputs) → Wait P 0 high n.parked → Spares P high (idle n outputs)
  quiet n outputs high told w = untold high (idle n outputs) told w

  unmade_spares : (set : Setting) (n : Node) (from : ℕ) (k : Key) (boot want : ℕ) (high : ℕ) → Wait P 0 high n.parked → Spares P high (no_if_unmade set n from k boot want)
  unmade_spares set n from k boot want high w =
      either high (is_unmade set n.durable k) _ _ (λ _. quiet n (Send (No set.node from k boot want) ∷ []) high (λ token. (tt, tt)) w) (λ _. quiet n [] high (λ token. tt) w)

  on_want_spares : (set : Setting) (n : Node) (from : ℕ) (k : Key) (boot want : ℕ) (st : Option KeyState) (high : ℕ) → Wait P 0 high n.parked → Spares P high (on_want set n from k boot want st)
  on_want_spares set n from k boot want None high w = unmade_spares set n from k boot want high w
  on_want_spares set n from k boot want (Some (Active e s)) high w =
      either high (e == last_number) _ _ (λ _. quiet n [] high (λ token. tt) w) (λ _. untold high (hands_over set n k e s from []) (λ token. (tt, tt)) w)
  on_want_spares set n from k boot want (Some (Sent e s to)) high w =
      either high (to == from) _ _ (λ _. quiet n (Send (Grant set.node from k e s) ∷ []) high (λ token. (tt, tt)) w) (λ _. unmade_spares set n from k boot want high w)
  on_want_spares set n from k boot want (Some (Gone e)) high w = unmade_spares set n from k boot want high w
  on_want_spares set n from k boot want (Some (Ended e)) high w = quiet n (Send (No set.node from k boot want) ∷ []) high (λ token. (tt, tt)) w

  grant_spares : (set : Setting) (n : Node) (from : ℕ) (k : Key) (e : ℕ) (s : Session) (st : Option KeyState) (high : ℕ) → Wait P 0 high n.parked → Spares P high (on_grant set n from k e s st)
  grant_spares set n from k e s st high w =
      either high (is_unmade set n.durable k) _ _ (λ _. quiet n [] high (λ token. tt) w)
      (λ _. either high (nat_le e (epoch_in st)) _ _ (λ _. quiet n (Send (Ack set.node from k e) ∷ []) high (λ token. (tt, tt)) w)
      (λ _. either high (lacks_room set n.durable k) _ _ (λ _. quiet n [] high (λ token. tt) w) (λ _. untold high (takes_over set n from k e s) (λ token. (tt, tt)) w)))

  ack_spares : (n : Node) (k : Key) (e : ℕ) (st : Option KeyState) (high : ℕ) → Wait P 0 high n.parked → Spares P high (on_ack n k e st)
  ack_spares n k e None high w = quiet n [] high (λ token. tt) w
  ack_spares n k e (Some (Active f s)) high w = quiet n [] high (λ token. tt) w
  ack_spares n k e (Some (Sent f s to)) high w =
      either high (f == e) _ _ (λ _. untold high (with_record n (GoneRecord k e) k (Gone e) None []) (λ token. tt) w) (λ _. quiet n [] high (λ token. tt) w)
  ack_spares n k e (Some (Gone f)) high w = quiet n [] high (λ token. tt) w
  ack_spares n k e (Some (Ended f)) high w = quiet n [] high (λ token. tt) w

  no_spares : (m : EngineMeaning) (set : Setting) (n : Node) (moment : Moment) (k : Key) (boot want : ℕ) (high : ℕ) → Wait P 0 high n.parked → Spares P high (on_no m set n moment k boot want)
  no_spares m set n moment k boot want high w =
      either high (boot == n.durable.boot) _ _ (λ _. parked_served m set n moment (is_wanted k want) high w) (λ _. quiet n [] high (λ token. tt) w)

  ours_spares : (m : EngineMeaning) (set : Setting) (n : Node) (moment : Moment) (p : Packet) (high : ℕ) → Wait P 0 high n.parked → Spares P high (on_ours m set n moment p)
  ours_spares m set n moment (Want from to k boot want) high w = on_want_spares set n from k boot want (known n.durable k) high w
  ours_spares m set n moment (Grant from to k e s) high w = grant_spares set n from k e s (known n.durable k) high w
  ours_spares m set n moment (Ack from to k e) high w = ack_spares n k e (known n.durable k) high w
  ours_spares m set n moment (No from to k boot want) high w = no_spares m set n moment k boot want high w

  packet_spares : (m : EngineMeaning) (set : Setting) (n : Node) (moment : Moment) (p : Packet) (high : ℕ) → Wait P 0 high n.parked → Spares P high (on_packet m set n moment p)
  packet_spares m set n moment p high w = either high (is_ours set p) _ _ (λ _. ours_spares m set n moment p high w) (λ _. quiet n [] high (λ token. tt) w)

  move_spares : (set : Setting) (n : Node) (k : Key) (to : ℕ) (st : Option KeyState) (high : ℕ) → Wait P 0 high n.parked → Spares P high (on_move set n k to st)
  move_spares set n k to None high w = untold high (move_refused n UnknownKey) (λ token. (tt, tt)) w
  move_spares set n k to (Some (Active e s)) high w =
      either high ((to == set.node) || nat_le set.nodes to) _ _ (λ _. untold high (move_refused n BadPeer) (λ token. (tt, tt)) w)
      (λ _. either high (e == last_number) _ _ (λ _. untold high (move_refused n EpochsSpent) (λ token. (tt, tt)) w) (λ _. untold high (hands_over set n k e s to (Moved ∷ [])) (λ token. (tt, (tt, tt))) w))
  move_spares set n k to (Some (Sent e s there)) high w = untold high (move_refused n NotActive) (λ token. (tt, tt)) w
  move_spares set n k to (Some (Gone e)) high w = untold high (move_refused n NotActive) (λ token. (tt, tt)) w
  move_spares set n k to (Some (Ended e)) high w = untold high (move_refused n NotActive) (λ token. (tt, tt)) w

  -- ---- time passes

  module _ (set : Setting) (steady : ℕ) where
    abbrev late : Parked → Output
    late p = Refuse p.token Deadline

    -- nobody is told of those that came before all of them
    late_above_by : (b : Bool) (token : ℕ) (p : Parked) (xs : List Parked) → token < p.token → AreForOthers token (map late xs) → AreForOthers token (map late (cond b (p ∷ xs) xs))
    late_above_by true token p xs above rest = (λ same. omega (arith, same, above), rest)
    late_above_by false token p xs above rest = rest

    late_above : (token low high : ℕ) (ps : List Parked) → token ≤ low → Wait P low high ps → AreForOthers token (deadlines set steady ps)
    late_above token low high [] le w = tt
    late_above token low high (p ∷ ps) le w =
        late_above_by (is_late set steady p) token p (filter (is_late set steady) ps) (omega (arith, le, w.0)) (late_above token p.token high ps (omega (arith, le, w.0)) w.2)

    -- nor are those that come after all of them
    late_below_by : (b : Bool) (token : ℕ) (p : Parked) (xs : List Parked) → p.token < token → AreForOthers token (map late xs) → AreForOthers token (map late (cond b (p ∷ xs) xs))
    late_below_by true token p xs below rest = (λ same. omega (arith, same, below), rest)
    late_below_by false token p xs below rest = rest

    late_below : (token low high : ℕ) (ps : List Parked) → high < token → Wait P low high ps → AreForOthers token (deadlines set steady ps)
    late_below token low high [] above w = tt
    late_below token low high (p ∷ ps) above w =
        late_below_by (is_late set steady p) token p (filter (is_late set steady) ps) (omega (arith, above, highest P p.token high ps w.2)) (late_below token p.token high ps above w.2)

    late_by : (b : Bool) (low high : ℕ) (p : Parked) (xs ys : List Parked) → low < p.token → P p.token → AreForOthers p.token (map late xs)
        → Wait (λ token. P token × AreForOthers token (map late xs)) p.token high ys
        → Wait (λ token. P token × AreForOthers token (map late (cond b (p ∷ xs) xs))) low high (cond (not b) (p ∷ ys) ys)
    late_by true low high p xs ys above holds spared rest =
        wait_above (λ token. P token × AreForOthers token (map late (p ∷ xs))) low p.token high ys (omega (arith, above))
        (wait_map (λ token. P token × AreForOthers token (map late xs)) (λ token. P token × AreForOthers token (map late (p ∷ xs))) p.token high ys
        (λ token more _ holds. (holds.0, ((λ same. omega (arith, same, more)), holds.1))) rest)
    late_by false low high p xs ys above holds spared rest = (above, (holds, spared), rest)

    late_leave : (low high : ℕ) (ps : List Parked) → Wait P low high ps
        → Wait (λ token. P token × AreForOthers token (deadlines set steady ps)) low high (filter (λ p. not (is_late set steady p)) ps)
    late_leave low high [] w = w
    late_leave low high (p ∷ ps) w =
        late_by (is_late set steady p) low high p (filter (is_late set steady) ps) (filter (λ q. not (is_late set steady q)) ps) w.0 w.1 (late_above p.token p.token high ps (omega arith) w.2)
        (late_leave p.token high ps w.2)

  tick_spares : (set : Setting) (n : Node) (now steady high : ℕ) → Wait P 0 high n.parked → Spares P high (on_tick set n now steady)
  tick_spares set n now steady high w =
      let d = on_tick set n now steady in
      let waiting = filter (λ p. not (is_late set steady p)) n.parked in
      let told = λ (token : ℕ) (late : AreForOthers token (deadlines set steady n.parked)).
      others_append token (deadlines set steady n.parked ++ wants_again set n.durable waiting) (filter_map (grant_again set) (entries d.durable.keys))
      (others_append token (deadlines set steady n.parked) (wants_again set n.durable waiting) late (again_tell set n.durable token (filter (λ p. not (is_quiet set n.durable p)) waiting)))
      (grants_tell set token (entries d.durable.keys)) in
      record {
        wait = wait_map (λ token. P token × AreForOthers token (deadlines set steady n.parked)) (λ token. P token × AreForOthers token d.outputs) 0 high waiting
            (λ token _ _ holds. (holds.0, told token holds.1)) (late_leave set steady 0 high n.parked w);
        later = λ token above. told token (late_below set steady token 0 high n.parked above w);
      }

  -- ---- a step

  -- an input comes of which this holds where it is a request
  abbrev pub Comes : Input → Type 0
  Comes (input.Ask number r) = P number
  Comes (input.Packet p) = ⊤
  Comes input.Poke = ⊤
  Comes input.Tick = ⊤
  Comes (input.Move k to) = ⊤

  pub step_spares : (m : EngineMeaning) (set : Setting) (n : Node) (moment : Moment) (i : Input) (high : ℕ) → IsAbove high i → Comes i → Wait P 0 high n.parked
      → Spares P (number_in high i) (decided m set n moment i)
  step_spares m set n moment (input.Ask number r) high above holds w = asked_named m set n moment number r (m.names r) high above holds w
  step_spares m set n moment (input.Packet p) high above holds w = packet_spares m set n moment p high w
  step_spares m set n moment input.Poke high above holds w = parked_served m set n moment (λ p. is_settled (known n.durable p.key)) high w
  step_spares m set n moment input.Tick high above holds w = tick_spares set n moment.now moment.steady high w
  step_spares m set n moment (input.Move k to) high above holds w = move_spares set n k to (known n.durable k) high w

module _ (m : EngineMeaning) (set : Setting) (n : Node) (moment : Moment) (i : Input) (high : ℕ) (old new : List ParkedClient) (above : IsAbove high i) (asked : HasAsked old i) (w : WaitFor 0 high old n.parked)
    (keeps : KeepsOthers (decided m set n moment i).outputs old new) where
  asked_comes : (i : Input) → HasAsked old i → Comes (λ token. Has token old) i
  asked_comes (input.Ask number r) asked = asked
  asked_comes (input.Packet p) asked = tt
  asked_comes input.Poke asked = tt
  asked_comes input.Tick asked = tt
  asked_comes (input.Move k to) asked = tt

  abbrev d : Decision
  d = decided m set n moment i

  spares : Spares (λ token. Has token old) (number_in high i) d
  spares = step_spares (λ token. Has token old) m set n moment i high above (asked_comes i asked) w

  -- after a step whose outputs were handed on each request that waits has its client
  pub step_waits : WaitFor 0 (number_in high i) new d.parked
  step_waits =
      wait_map (λ token. Has token old × AreForOthers token d.outputs) (λ token. Has token new) 0 (number_in high i) d.parked (λ token _ _ holds. keeps token holds.1 holds.0) spares.wait

  -- and whoever comes later is kept
  pub step_keeps : (token : ℕ) → number_in high i < token → Has token old → Has token new
  step_keeps token later has = keeps token (spares.later token later) has
