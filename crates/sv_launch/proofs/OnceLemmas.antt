-- Streams that begin, go on and end.
use Rattle.std.proofs.Common.{◌≡◌, refl, sym, ap, ◌∙◌, subst, inl, inr, ℕ, ◌+◌, ◌^◌, List, [], Bool, false, Option, Some, None, Result, Ok}
use Rattle.std.proofs.KnownBytes.{prepend_known-nil}
use Rattle.std.specs.Io.KnownBytes.{prepend_known}
use Rattle.sv_model.specs.declared.key.Secret.{Secret}
use Rattle.sv_model.specs.Engine.{EngineMeaning}
use Rattle.sv_connection.specs.declared.connection.Connection.{Connection}
use Rattle.sv_connection.specs.declared.outcome.Outcome.{Outcome}
use Rattle.sv_connection.specs.declared.outcome.Outcome.TheVariants.{Answered, Parked, Closed, Refused, ReadFailed, WriteFailed, Failed}
use Rattle.sv_solo.specs.declared.served.Served.{Served}
use Rattle.sv_solo.specs.declared.solo.Solo.{Solo}
use Rattle.sv_connection.specs.Connection.{IsFresh}
use Rattle.sv_solo.specs.Serve.{sight_of, how, is_parked, Sight, sight, IsServed}
use Rattle.sv_solo.specs.Solo.{IsNew, solo_steps}
use Rattle.sv_launch.specs.declared.stream.OnceFault.{OnceFault}
use Rattle.sv_host.specs.Secrets.{secret_of}
use Rattle.sv_launch.specs.Once.{turn_of, ending, Reaches, AtStart, Behind, IsUnderway, HasServed}

-- what the first call sees
pub first_sight : {S : Type 0} (c : Connection) (to_come written : Option (List ℕ)) (site : S) → IsFresh c false → sight_of c to_come written site ≡ sight to_come written site false
first_sight c to_come written site new =
    ap (λ rest. sight (prepend_known rest to_come) written site c.closed) new.empty
    ∙ ap (λ unread. sight unread written site c.closed) (prepend_known-nil to_come)
    ∙ ap (sight to_come written site) new.not_closed

-- where another request is taken, none waits
pub goes_on_unparked : (outcome : Outcome) → ending outcome ≡ None → is_parked outcome ≡ false
goes_on_unparked Answered is = refl
goes_on_unparked (Parked head_only) is = absurd cc
goes_on_unparked Closed is = refl
goes_on_unparked (Refused fault) is = refl
goes_on_unparked ReadFailed is = refl
goes_on_unparked WriteFailed is = refl
goes_on_unparked Failed is = refl

-- a call under its number and secret
pub as_turn : {E : Type 0} (meaning : E → EngineMeaning) (heard : E → List (List ℕ)) (now number : ℕ) (secret : Secret) (single : Bool) (old new : Sight (Solo E)) (served : Served)
    → secret ≡ secret_of number → single ≡ false → IsServed (solo_steps meaning heard) (how (record { now = now; steady = now; secret = secret }) number single) old new served
    → IsServed (solo_steps meaning heard) (turn_of now number) old new served
as_turn meaning heard now number secret single old new served is alone call =
    subst (λ h. IsServed (solo_steps meaning heard) h old new served)
    (ap (λ s. how (record { now = now; steady = now; secret = s }) number single) is ∙ ap (how (record { now = now; steady = now; secret = secret_of number }) number) alone)
    call

module _ {E : Type 0} (meaning : E → EngineMeaning) (heard : E → List (List ℕ)) (engine : E) (now : ℕ) (to_come written : Option (List ℕ)) where
  pub begins : (c : Connection) (site : Solo E) → IsNew site engine → IsFresh c false → IsUnderway meaning heard engine now to_come written 0 (sight_of c to_come written site)
  begins c site over new =
      record {
        first = site;
        new = over;
        reached = subst (Reaches (solo_steps meaning heard) now (sight to_come written site false) 0) (sym (first_sight c to_come written site new)) AtStart;
      }

  pub goes_on : (count : ℕ) (old new : Sight (Solo E)) (served : Served) → IsUnderway meaning heard engine now to_come written count old → ending served.outcome ≡ None
      → IsServed (solo_steps meaning heard) (turn_of now (count + 1)) old new served → IsUnderway meaning heard engine now to_come written (count + 1) new
  goes_on count old new served under more call = record { first = under.first; new = under.new; reached = Behind count old new served under.reached more call }

  pub stops : (count : ℕ) (old : Sight (Solo E)) (c : Connection) (left writes : Option (List ℕ)) (site : Solo E) (served : Served) (result : Result (Unit {0}) OnceFault)
      → IsUnderway meaning heard engine now to_come written count old → ending served.outcome ≡ Some result
      → IsServed (solo_steps meaning heard) (turn_of now (count + 1)) old (sight_of c left writes site) served
      → HasServed meaning heard engine now to_come written left writes result
  stops count old c left writes site served result under end call =
      record {
        first = under.first;
        new = under.new;
        end = sight_of c left writes site;
        held = c.requests.rest;
        unread = refl;
        written_is = refl;
        stream = record { count = count; last = old; reached = under.reached; ends = inl (record { served = served; call = call; stops = end }) };
      }

  pub runs_out : (count : ℕ) (c : Connection) (left writes : Option (List ℕ)) (site : Solo E) → IsUnderway meaning heard engine now to_come written count (sight_of c left writes site)
      → count + 1 ≡ 2 ^ 64 → HasServed meaning heard engine now to_come written left writes (Ok tt)
  runs_out count c left writes site under all =
      record {
        first = under.first;
        new = under.new;
        end = sight_of c left writes site;
        held = c.requests.rest;
        unread = refl;
        written_is = refl;
        stream = record { count = count; last = sight_of c left writes site; reached = under.reached; ends = inr (record { all = all; stays = refl; answer = refl }) };
      }
