-- The number of a start that records give is one of 64 bits, so a start stands only after one that isn't the last.
use Rattle.std.proofs.lemmas.Bool.{cond_both}
use Rattle.std.proofs.Common.{◌≡◌, inl, inr, ℕ, ◌+◌, ◌≤◌, List, [], ◌∷◌, arith, refl, subst}
use Rattle.sv_node.proofs.Prelude.{Setting, Record, Durable, last_number, quiet, kept, StopsStart, GivesStart, restarted, Spell, Replays, Restores}
use Rattle.sv_model.specs.declared.record.Record.TheVariants.{Boot, Commit, Expired, Sent, Taken, Gone, State, Counters, Forgets, Counted}
use Rattle.sv_model.specs.Replay.{blank, applied, boot_behind, replayed}
use Rattle.sv_record.specs.declared.version.Version.{Version}
use Rattle.sv_record.specs.Field.{long, counting}
use Rattle.sv_record.specs.Record.{record_format, HasSpellingBy}

boot_fits : (v : Version) (r : Record) (boot : ℕ) → boot ≤ last_number → HasSpellingBy v r → boot_behind r boot ≤ last_number
unfolding record_format counting long
boot_fits v (Boot b) boot le has = omega (arith, has.0)
boot_fits v (Commit named born) boot le has = le
boot_fits v (Expired k) boot le has = le
boot_fits v (Sent k e to s) boot le has = le
boot_fits v (Taken k e from s) boot le has = le
boot_fits v (Gone k e) boot le has = le
boot_fits v (State k s) boot le has = le
boot_fits v (Counters b next) boot le has = omega (arith, has.0)
boot_fits v (Forgets home b) boot le has = omega (arith, has.1.0)
boot_fits v (Counted home b next) boot le has = omega (arith, has.1.0)

replayed_fits : (d : Durable) (entries : List (List ℕ)) (rs : List Record) → d.boot ≤ last_number → Spell entries rs → (replayed d rs).boot ≤ last_number
replayed_fits d [] [] le s = le
replayed_fits d [] (r ∷ rs) le s = absurd s
replayed_fits d (p ∷ ps) [] le s = absurd s
replayed_fits d (p ∷ ps) (r ∷ rs) le s = replayed_fits (applied r d) ps rs (boot_fits s.0.version r d.boot le s.0.has) s.1

replays_fit : (set : Setting) (entries : List (List ℕ)) (d : Durable) → Replays set entries d → d.boot ≤ last_number
replays_fit set entries d r = subst (λ (e : Durable). e.boot ≤ last_number) r.gives (replayed_fits blank entries r.records (omega arith) r.spelled)

-- a start has the next number
next_boot : (set : Setting) (d : Durable) → (restarted set d).boot ≡ d.boot + 1
next_boot set d = cond_both set.forget (Forgets set.node (d.boot + 1)) (Boot (d.boot + 1)) (λ r. boot_behind r d.boot ≡ d.boot + 1) (λ _. refl) (λ _. refl)

-- what the images give is one of the two states that a stop in a start leaves
pub found : (set : Setting) (d : Durable) (a b : List ℕ) → GivesStart set d a b → (e : Durable) × Restores set a b e × StopsStart set d (quiet (kept e))
found set d a b (inl r) = (d, r, inl refl)
found set d a b (inr r) = (restarted set d, r, inr ((λ is. absurd (omega (arith, is, replays_fit set r.entries (restarted set d) r.replays, next_boot set d))), refl))
