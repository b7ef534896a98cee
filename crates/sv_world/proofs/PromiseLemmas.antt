-- All that may be relied on while nodes run, of each world that events lead to.
use Rattle.sv_world.proofs.Prelude.{List, Meanings, AllTouchOnlyHanded, WorldEvent, Cluster, nothing_happened, run, IsProgress}
use Rattle.sv_world.proofs.EpochLemmas.{epochs_rise, stays_at_hand}
use Rattle.sv_world.proofs.ExpiryLemmas.{ticks_end_sessions}
use Rattle.sv_world.proofs.ParkedLemmas.{Both, run_both, first_both}
use Rattle.sv_world.proofs.ProgressLemmas.{nobody_is_forgotten, ticks_end}
use Rattle.sv_world.proofs.RoundLemmas.{arrives_by_tick, arrives_in_a_round, is_done_in_two}
use Rattle.sv_world.proofs.ServedLemmas.{served_in_a_round}
use Rattle.sv_world.proofs.WaitersLemmas.{ticks_ask, wants_are_answered, pokes_serve}
use Rattle.sv_world.proofs.WindowLemmas.{is_served, is_served_in_two, is_served_at_last, is_denied_in_two}

module _ (m : Meanings) (touches : AllTouchOnlyHanded m) (c : Cluster) where
  -- both invariants hold
  pub both : (events : List WorldEvent) → Both m touches c (run m c nothing_happened events)
  both events = run_both m touches c nothing_happened events (first_both m touches c)

  pub progress : (events : List WorldEvent) → IsProgress m c (run m c nothing_happened events)
  progress events =
      let w = run m c nothing_happened events in
      let b = both events in
      record {
        kept = nobody_is_forgotten m c w;
        in_time = ticks_end m c w;
        epochs_rise = epochs_rise m touches c w b.inv;
        stays_at_hand = stays_at_hand m touches c w b.inv;
        arrives_by_tick = arrives_by_tick m touches c w b.inv;
        arrives = arrives_in_a_round m touches c w b.inv;
        served_there = served_in_a_round m touches c w b.inv;
        done = is_done_in_two m touches c w b.inv;
        ask = ticks_ask m c w;
        answered = wants_are_answered m c w;
        poked = pokes_serve m c w;
        served = is_served m touches c w b;
        served_in_two = is_served_in_two m touches c w b;
        served_at_last = is_served_at_last m touches c w b;
        denied = is_denied_in_two m touches c w b;
        expired = ticks_end_sessions m c w;
      }
