-- What a tick does.
use Rattle.sv_core.proofs.Prelude.{unwrap_or, is_eq, Ordering, Less, Equal, Greater, insert, remove, entries, find, put, entries_sorted, get-entries}
use Rattle.sv_core.proofs.Prelude.{entries-insert, cond_both, below_all, by_order, Key, Session, KeyState, Active, Sent, Gone, Ended, key_cmp, same_key}
use Rattle.sv_core.proofs.Prelude.{Decision, over_at, ended_at, Entry, Place, Rises, state_at, seen, erase, is_handed_over, sent_among, durable_by, decision_of}
use Rattle.sv_core.proofs.Prelude.{Setting, Parked, Output, Keys, Durable, Node, is_own, wants_of, keys_total, ticked, ◌≡◌, ℕ, ◌+◌, ◌<◌, Bool, true, false}
use Rattle.sv_core.proofs.Prelude.{cond, Option, Some, None, List, [], ◌∷◌, ◌++◌, length, get_or, take, refl, sym, ap, ◌∙◌, subst, not, T, filter, filter_map}
use Rattle.sv_core.proofs.Prelude.{append_assoc, filter-append, is_late, is_over, first_over, expire, deadlines, grant_again, on_tick, get}
use Rattle.std.specs.Cmp.{eq_by_cmp_equiv}
use Rattle.sv_core.proofs.TableLemmas.{entries_without}
use Rattle.sv_core.specs.Plain.{expiring}
use Rattle.sv_core.proofs.PlaceLemmas.{seen_more}
use Rattle.sv_core.proofs.OrderLemmas.{first, second, less, reversed, find_low}
use Rattle.std.specs.List.{flat_map}
use Rattle.std.specs.Option.{option_to_list}
use Rattle.std.proofs.lemmas.List.Concat.{flat_map-append}
use Rattle.std.proofs.lemmas.List.Elements.{filter_map-append}
use Rattle.sv_model.specs.Waiting.{wants}
use Rattle.sv_model.specs.Time.{is_quiet, wants_again}

-- one more request
pub wants_of_more : (set : Setting) (d : Durable) (now : ℕ) (ps : List Parked) (p : Parked) → wants_of set d now (ps ++ p ∷ []) ≡ wants_of set d now ps ++ wants_of set d now (p ∷ [])
wants_of_more set d now ps p =
    ap (λ l. wants_again set d l) (filter-append (λ q. not (is_late set now q)) ps (p ∷ []))
    ∙ ap (flat_map (λ q. wants set d q.key q.want)) (filter-append (λ q. not (is_quiet set d q)) (filter (λ q. not (is_late set now q)) ps) (filter (λ q. not (is_late set now q)) (p ∷ [])))
    ∙ flat_map-append (λ q. wants set d q.key q.want) (filter (λ q. not (is_quiet set d q)) (filter (λ q. not (is_late set now q)) ps)) (filter (λ q. not (is_quiet set d q)) (filter (λ q. not (is_late set now q)) (p ∷ [])))

-- ---- the session that expires

-- what is found among keys above another is above it
over_above_by : (now : ℕ) (x : Key) (e : Entry) (es : List Entry) (k : Key) (st : KeyState) (b : Bool) → key_cmp x e.0 ≡ Less → (first_over now es ≡ Some (k, st) → key_cmp x k ≡ Less)
    → cond b (Some e) (first_over now es) ≡ Some (k, st) → key_cmp x k ≡ Less
over_above_by now x e es k st true low rest found = subst (λ (q : Key). key_cmp x q ≡ Less) (ap (λ (o : Option Entry). (unwrap_or o e).0) found) low
over_above_by now x e es k st false low rest found = rest found

over_above : (now : ℕ) (x : Key) (es : List Entry) (k : Key) (st : KeyState) → T (below_all key_cmp x es) → first_over now es ≡ Some (k, st) → key_cmp x k ≡ Less
over_above now x [] k st above found = absurd (let no : None ≡ Some (k, st) = found in cc)
over_above now x (e ∷ es) k st above found =
    over_above_by now x e es k st (is_over now e.1) (less _ (first _ _ above)) (over_above now x es k st (second _ _ above)) found

found_by : (now : ℕ) (e : Entry) (es : List Entry) (k : Key) (st : KeyState) (b : Bool) → T (below_all key_cmp e.0 es) → (first_over now es ≡ Some (k, st) → find key_cmp k es ≡ Some st)
    → cond b (Some e) (first_over now es) ≡ Some (k, st) → find key_cmp k (e ∷ es) ≡ Some st
found_by now e es k st true above rest found =
    let same : e ≡ (k, st) = ap (λ (o : Option Entry). unwrap_or o e) found in
    ap (λ (d : Entry). find key_cmp k (d ∷ es)) same ∙ ap (λ b. cond b (Some st) (find key_cmp k es)) ((eq_by_cmp_equiv keys_total).refl k)
found_by now e es k st false above rest found =
    ap (λ o. cond (is_eq o) (Some e.1) (find key_cmp k es)) (reversed e.0 k Less (over_above now e.0 es k st above found)) ∙ rest found

-- the node knows the session that expires
pub found_over : (now : ℕ) (es : List Entry) (k : Key) (st : KeyState) → Rises es → first_over now es ≡ Some (k, st) → find key_cmp k es ≡ Some st
found_over now [] k st rises found = absurd (let no : None ≡ Some (k, st) = found in cc)
found_over now (e ∷ es) k st rises found = found_by now e es k st (is_over now e.1) (first _ _ rises) (found_over now es k st (second _ _ rises)) found

-- ---- what is handed over again is the same before and after it

granted_by : (set : Setting) (k : Key) (n : ℕ) (s : Session) (e : Entry) (es : List Entry) (o : Ordering) → key_cmp k e.0 ≡ o → T (below_all key_cmp e.0 es)
    → (find key_cmp k es ≡ Some (Active n s) → filter_map (grant_again set) (put key_cmp k (Ended n) es) ≡ filter_map (grant_again set) es)
    → find key_cmp k (e ∷ es) ≡ Some (Active n s) → filter_map (grant_again set) (put key_cmp k (Ended n) (e ∷ es)) ≡ filter_map (grant_again set) (e ∷ es)
granted_by set k n s e es Less is above rest found =
    let missing : find key_cmp k (e ∷ es) ≡ None = ap (λ o. cond (is_eq o) (Some e.1) (find key_cmp k es)) is ∙ find_low k e.0 es is above in
    absurd (let no : None ≡ Some (Active n s) = sym missing ∙ found in cc)
granted_by set k n s e es Equal is above rest found =
    let there : e.1 ≡ Active n s = ap (λ (o : Option KeyState). unwrap_or o e.1) (sym (ap (λ o. cond (is_eq o) (Some e.1) (find key_cmp k es)) is) ∙ found) in
    ap (λ o. filter_map (grant_again set) (by_order o ((k, Ended n) ∷ e ∷ es) ((e.0, Ended n) ∷ es) (e ∷ put key_cmp k (Ended n) es))) is
    ∙ ap (λ (st : KeyState). filter_map (grant_again set) ((e.0, st) ∷ es)) (sym there)
granted_by set k n s e es Greater is above rest found =
    ap (λ o. filter_map (grant_again set) (by_order o ((k, Ended n) ∷ e ∷ es) ((e.0, Ended n) ∷ es) (e ∷ put key_cmp k (Ended n) es))) is
    ∙ filter_map-append (grant_again set) (e ∷ []) (put key_cmp k (Ended n) es)
    ∙ ap (λ l. filter_map (grant_again set) (e ∷ []) ++ l) (rest (sym (ap (λ o. cond (is_eq o) (Some e.1) (find key_cmp k es)) is) ∙ found))
    ∙ sym (filter_map-append (grant_again set) (e ∷ []) es)

granted_still : (set : Setting) (k : Key) (n : ℕ) (s : Session) (es : List Entry) → Rises es → find key_cmp k es ≡ Some (Active n s)
    → filter_map (grant_again set) (put key_cmp k (Ended n) es) ≡ filter_map (grant_again set) es
granted_still set k n s [] rises found = absurd (let no : None ≡ Some (Active n s) = found in cc)
granted_still set k n s (e ∷ es) rises found = granted_by set k n s e es (key_cmp k e.0) refl (first _ _ rises) (granted_still set k n s es (second _ _ rises)) found

-- the key is forgotten
erased_by : (set : Setting) (k : Key) (n : ℕ) (s : Session) (e : Entry) (es : List Entry) (b : Bool) → cond b (Some e.1) (find key_cmp k es) ≡ Some (Active n s)
    → (find key_cmp k es ≡ Some (Active n s) → filter_map (grant_again set) (erase k es) ≡ filter_map (grant_again set) es)
    → filter_map (grant_again set) (cond b es (e ∷ erase k es)) ≡ filter_map (grant_again set) (e ∷ es)
erased_by set k n s e es true found rest =
    let there : e.1 ≡ Active n s = ap (λ (o : Option KeyState). unwrap_or o e.1) found in
    ap (λ (st : KeyState). filter_map (grant_again set) ((e.0, st) ∷ es)) (sym there)
erased_by set k n s e es false found rest =
    filter_map-append (grant_again set) (e ∷ []) (erase k es)
    ∙ ap (λ l. filter_map (grant_again set) (e ∷ []) ++ l) (rest found)
    ∙ sym (filter_map-append (grant_again set) (e ∷ []) es)

granted_erased : (set : Setting) (k : Key) (n : ℕ) (s : Session) (es : List Entry) → find key_cmp k es ≡ Some (Active n s) → filter_map (grant_again set) (erase k es) ≡ filter_map (grant_again set) es
granted_erased set k n s [] found = absurd (let no : None ≡ Some (Active n s) = found in cc)
granted_erased set k n s (e ∷ es) found = erased_by set k n s e es (same_key k e.0) found (granted_erased set k n s es)

granted_over : (set : Setting) (home : Option ℕ) (keys : Keys) (k : Key) (n : ℕ) (s : Session) → find key_cmp k (entries keys) ≡ Some (Active n s)
    → filter_map (grant_again set) (entries (over_at home k n keys)) ≡ filter_map (grant_again set) (entries keys)
granted_over set home keys k n s found = cond_both (is_own home k) (remove keys k) (insert keys k (Ended n)) (λ m. filter_map (grant_again set) (entries m) ≡ filter_map (grant_again set) (entries keys))
    (λ _. ap (filter_map (grant_again set)) (entries_without keys k) ∙ granted_erased set k n s (entries keys) found)
    (λ _. ap (filter_map (grant_again set)) (entries-insert keys_total keys k (Ended n)) ∙ granted_still set k n s (entries keys) (entries_sorted keys) found)

-- ---- the tick

module _ (set : Setting) (keys : Keys) (boot next : ℕ) (home : Option ℕ) (parked : List Parked) (want now steady : ℕ) where
  abbrev pub there : Node
  there = record { durable = durable_by keys boot next home; parked = parked; next_want = want }

  abbrev pub put_out : List Output
  put_out = deadlines set steady parked ++ wants_of set there.durable steady parked ++ filter_map (grant_again set) (entries keys)

  abbrev pub tick_by : Option Entry → Decision
  tick_by f =
      let waiting = filter (λ p. not (is_late set steady p)) parked in
      record (expire there now f []) {
        outputs = deadlines set steady parked ++ wants_again set there.durable waiting ++ filter_map (grant_again set) (entries (expire there now f []).durable.keys);
        parked = waiting;
      }

  found : (k : Key) (st : KeyState) → first_over now (entries keys) ≡ Some (k, st) → find key_cmp k (entries keys) ≡ Some st
  found k st is = found_over now (entries keys) k st (entries_sorted keys) is

  kept : (k : Key) (st : KeyState) → first_over now (entries keys) ≡ Some (k, st) → get keys k ≡ Some st
  kept k st is = get-entries keys k ∙ found k st is

  tick_ended : (k : Key) (e : ℕ) (s : Session) → first_over now (entries keys) ≡ Some (k, Active e s)
      → decision_of set there (ticked now steady (Some (k, s.context)) put_out) ≡ tick_by (Some (k, Active e s))
  tick_ended k e s is = λ i. record (tick_by (Some (k, Active e s))) {
    durable = durable_by (ended_at home k (kept k (Active e s) is i) keys) boot next home;
    outputs = deadlines set steady parked ++ wants_of set there.durable steady parked ++ sym (granted_over set home keys k e s (found k (Active e s) is)) i;
  }

  by_found : (f : Option Entry) → first_over now (entries keys) ≡ f → decision_of set there (ticked now steady (expiring f) put_out) ≡ tick_by f
  by_found None is = refl
  by_found (Some (k, Active e s)) is = tick_ended k e s is
  by_found (Some (k, Sent e s to)) is = refl
  by_found (Some (k, Gone e)) is = refl
  by_found (Some (k, Ended e)) is = refl

  pub ticks : (outs : List Output) → outs ≡ put_out → decision_of set there (ticked now steady (expiring (first_over now (entries keys))) outs) ≡ on_tick set there now steady
  ticks outs is = ap (λ l. decision_of set there (ticked now steady (expiring (first_over now (entries keys))) l)) is ∙ by_found (first_over now (entries keys)) refl

-- three lists, one after the other
pub put_three : (a b c d x y z : List Output) → a ≡ [] → b ≡ a ++ x → c ≡ b ++ y → d ≡ c ++ z → d ≡ x ++ y ++ z
put_three a b c d x y z one two three four = four ∙ ap (λ l. l ++ z) (three ∙ ap (λ l. l ++ y) (two ∙ ap (λ l. l ++ x) one))

-- ---- a walk over the keys

granted_one : (set : Setting) (e : Entry) → filter_map (grant_again set) (e ∷ []) ≡ option_to_list (grant_again set e)
granted_one set (k, Active e s) = refl
granted_one set (k, Sent e s to) = refl
granted_one set (k, Gone e) = refl
granted_one set (k, Ended e) = refl

-- one session more is handed over again
pub granted_more : (set : Setting) (states : List KeyState) (ps qs : List Place) (i : ℕ) (d : Place) (st : KeyState) (before outs new : List Output) → qs ≡ ps → i < length qs → st ≡ state_at states (get_or qs i d).1
    → outs ≡ before ++ filter_map (grant_again set) (seen states (take i ps)) → new ≡ outs ++ option_to_list (grant_again set ((get_or qs i d).0, st)) → new ≡ before ++ filter_map (grant_again set) (seen states (take (i + 1) ps))
granted_more set states ps qs i d st before outs new same is there so more =
    let e : Entry = ((get_or qs i d).0, st) in
    more ∙ ap (λ l. l ++ option_to_list (grant_again set e)) so ∙ append_assoc before (filter_map (grant_again set) (seen states (take i ps))) (option_to_list (grant_again set e))
    ∙ ap (λ l. before ++ l) (ap (λ l. filter_map (grant_again set) (seen states (take i ps)) ++ l) (sym (granted_one set e))
    ∙ sym (ap (filter_map (grant_again set)) (seen_more states ps qs i d st same is there) ∙ filter_map-append (grant_again set) (seen states (take i ps)) (e ∷ [])))

granted_if : (set : Setting) (states : List KeyState) (p : Place) (l : List Place) (st : KeyState) → state_at states p.1 ≡ st
    → filter_map (grant_again set) (seen states (cond (is_handed_over st) (p ∷ l) l)) ≡ filter_map (grant_again set) ((p.0, st) ∷ seen states l)
granted_if set states p l (Active e s) is = refl
granted_if set states p l (Sent e s to) is = ap (λ (st : KeyState). filter_map (grant_again set) ((p.0, st) ∷ seen states l)) is
granted_if set states p l (Gone e) is = refl
granted_if set states p l (Ended e) is = refl

-- the others are not handed over again
pub granted_sent : (set : Setting) (states : List KeyState) (ps : List Place) → filter_map (grant_again set) (seen states (sent_among states ps)) ≡ filter_map (grant_again set) (seen states ps)
granted_sent set states [] = refl
granted_sent set states (p ∷ ps) =
    let e : Entry = (p.0, state_at states p.1) in
    granted_if set states p (sent_among states ps) (state_at states p.1) refl
    ∙ filter_map-append (grant_again set) (e ∷ []) (seen states (sent_among states ps)) ∙ ap (λ l. filter_map (grant_again set) (e ∷ []) ++ l) (granted_sent set states ps)
    ∙ sym (filter_map-append (grant_again set) (e ∷ []) (seen states ps))
