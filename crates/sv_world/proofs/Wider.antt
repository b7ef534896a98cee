-- Rules with more room.
use Rattle.sv_world.proofs.Prelude.{◌≡◌, ℕ, ◌<◌, ◌≤◌, ◌==◌, Bool, true, false, arith, ◌||◌, not, nat_lt, nat_le, is_none, get, len, cond_both, ltb-true, lt-ltb}
use Rattle.sv_world.proofs.Prelude.{leb-true, Key, Stage, Blank, Snapshot, Past, Change, Record, Boot, Taken, State, Counters, Forgets, Counted, KEY_LIMIT}
use Rattle.sv_world.proofs.Prelude.{KEY_MOST, Durable, last_number, epoch_in, known, is_unmade, bound, has_space, fits_named, fits_born, is_next, fits_state}
use Rattle.sv_world.proofs.Prelude.{Fits, Cluster, IsWithin, AreWithin, Rules, setting_by}
use Rattle.std.proofs.Common.{◌&&◌}
use Rattle.sv_model.specs.declared.record.Change.TheVariants.{Absent, Alive, Ended}
use Rattle.sv_model.specs.declared.record.Record.TheVariants.{Commit, Expired, Sent, Gone}
use Rattle.sv_world.proofs.Records.{IsWider}

-- ---- what fits under rules fits under those with more room

and_more : (x y z : Bool) → (y ≡ true → z ≡ true) → (x && y) ≡ true → (x && z) ≡ true
and_more true y z f is = f is
and_more false y z f is = is

or_more : (x y z : Bool) → (y ≡ true → z ≡ true) → (x || y) ≡ true → (x || z) ≡ true
or_more true y z f is = is
or_more false y z f is = f is

module _ (nodes : ℕ) (rules wide : Rules) (within : IsWithin wide rules) (n : ℕ) (d : Durable) where
  space_wider : has_space (setting_by rules n nodes) d ≡ true → has_space (setting_by wide n 0) d ≡ true
  space_wider is = lt-ltb (len d.keys) (bound (setting_by wide n 0)) (let below : len d.keys < bound (setting_by rules n nodes) = ltb-true (len d.keys) (bound (setting_by rules n nodes)) is in omega (arith, below, within))

  next_wider : (k : Key) → is_next (setting_by rules n nodes) d k ≡ true → is_next (setting_by wide n 0) d k ≡ true
  next_wider k = and_more (k.home == n) _ _ (and_more (k.serial == d.next) _ _ (and_more (not (d.next == last_number)) _ _ space_wider))

  born_wider : (born : Change) → fits_born (setting_by rules n nodes) d born ≡ true → fits_born (setting_by wide n 0) d born ≡ true
  born_wider Absent is = is
  born_wider (Alive k s) is = next_wider k is
  born_wider (Ended k) is = next_wider k is

  state_wider : (k : Key) (stage : Stage) → fits_state (setting_by rules n nodes) d k stage ≡ true → fits_state (setting_by wide n 0) d k stage ≡ true
  state_wider k Blank is = is
  state_wider k Snapshot is = and_more (is_none (get d.keys k)) _ _ (and_more (not (is_unmade (setting_by rules n nodes) d k)) _ _ space_wider) is
  state_wider k Past is = is

  pub fits_wider : (stage : Stage) (r : Record) → Fits (setting_by rules n nodes) stage d r → Fits (setting_by wide n 0) stage d r
  fits_wider stage (Boot boot) fit = fit
  fits_wider stage (Commit named born) fit = and_more (fits_named d.keys named) _ _ (born_wider born) fit
  fits_wider stage (Expired k) fit = fit
  fits_wider stage (Sent k e to s) fit = fit
  fits_wider stage (Taken k e from s) fit = and_more (nat_lt (epoch_in (known d k)) e) _ _ (and_more (not (is_unmade (setting_by rules n nodes) d k)) _ _ (or_more (not (is_none (get d.keys k))) _ _ space_wider)) fit
  fits_wider stage (Gone k e) fit = fit
  fits_wider stage (State k st) fit = state_wider k stage fit
  fits_wider stage (Counters boot next) fit = fit
  fits_wider stage (Forgets home boot) fit = fit
  fits_wider stage (Counted home boot next) fit = fit

-- ---- rules that have room for all, and rules that are the same throughout

bound_most : (rules : Rules) → bound (setting_by rules 0 0) ≤ KEY_MOST
bound_most rules = cond_both (nat_le rules.keys KEY_LIMIT) KEY_LIMIT KEY_MOST (λ b. b ≤ KEY_MOST) (λ _. omega arith) (λ _. omega arith)

most : (wide : Rules) → KEY_LIMIT < wide.keys → KEY_MOST ≤ bound (setting_by wide 0 0)
most wide many = cond_both (nat_le wide.keys KEY_LIMIT) KEY_LIMIT KEY_MOST (λ b. KEY_MOST ≤ b) (λ t. let few : wide.keys ≤ KEY_LIMIT = leb-true wide.keys KEY_LIMIT t in absurd (omega (arith, few, many))) (λ _. omega arith)

-- the rules of each start have no more room than these
pub all_wider : (c : Cluster) (wide : Rules) → AreWithin wide c → IsWider wide c
all_wider c wide within n boot stage d r fit = fits_wider (c.nodes n boot) (c.rules n boot) wide (within n boot) n d stage r fit

pub widest : (wide : Rules) (rules : Rules) → KEY_LIMIT < wide.keys → IsWithin wide rules
widest wide rules many = omega (arith, bound_most rules, most wide many)
