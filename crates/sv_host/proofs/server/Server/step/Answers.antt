use Rattle.sv_host.proofs.Prelude.{◌≤◌, ℕ, List, map, vec_items, ap, sym, subst, ◌∙◌, AllByRecursion, Input, Moment, IsInput, HandsOutGroup, clients_of}
use Rattle.sv_host.proofs.Prelude.{seconds_of, Way, with_list, GroupEnds, all_given, RiseIn, numbers_in, engine_of}
use Rattle.sv_node.proofs.MomentLemmas.{group_runs}
use Rattle.sv_host.proofs.HavingLemmas.{have_group}
use Rattle.sv_host.proofs.LifeLemmas.{group_served}
use Rattle.sv_host.proofs.SendLemmas.{of_answers}
use Rattle.sv_host.proofs.StoryLemmas.{carry_continue}
use Rattle.sv_host.proofs.server.Server.step.Goals as goal

pub hand_out-requires : goal.hand_out-requires
hand_out-requires g c =
    let e = g.E.Engine in
    let engine = engine_of c.args.node.now in
    of_answers e.meaning e.heard g.D.Disk.failed c.args.node.now c.step_all-answers.new.self (g.met.E.Engine.within_limits engine c.requires.valid.engine) (g.met.E.Engine.names_keys engine c.requires.valid.engine)
    c.take-inputs.result.0.items c.step_all-answers.result c.requires.valid.setting c.requires.valid.ranged
    (subst (λ (xs : List (Moment × Input)). AllByRecursion (λ i. IsInput i.1) xs) (sym c.take-inputs.ensures.inputs) c.requires.rising.within) c.step_all-answers.ensures.group.ends

pub returns-clause-served : goal.returns-clause-served
returns-clause-served g c =
    let e = g.E.Engine in
    let d = g.D.Disk in
    let t = c.take-inputs.ensures in
    let rising = c.requires.rising in
    let start = record c.end_write.new.self { connections = c.look_at_clock.new.self } in
    record {
      valid = c.step_all-answers.ensures.valid;
      rising = t.rising;
      gone = group_served e.meaning e.heard d.tells d.seen d.may_leave d.moment d.left_since d.failed c.args.group.now.before c.args.node.now c.step_all-answers.new.self c.requires.live c.take-inputs.new.self.before c.take-inputs.result.0.items
          (subst (λ (xs : List (Moment × Input)). RiseIn c.args.group.now.before (all_given xs)) (sym t.inputs) rising.rises)
          (subst (λ (n : ℕ). n ≤ c.take-inputs.new.self.before) (ap (λ (xs : List (Moment × Input)). numbers_in c.args.group.now.before (all_given xs)) (sym t.inputs)) (subst (λ (n : ℕ). numbers_in c.args.group.now.before (all_given c.args.group.now.inputs.items) ≤ n) (sym t.before) rising.number))
          c.step_all-answers.result c.hand_out.result c.step_all-answers.ensures.group c.hand_out.ensures.goes_on;
      runs = group_runs e.meaning e.heard d.tells d.seen d.may_leave d.moment d.left_since d.failed c.args.node.now c.step_all-answers.new.self c.requires.live (c.requires.valid.stored c.requires.live)
          c.take-inputs.result.0.items c.args.group.now.before (subst (λ (xs : List (Moment × Input)). RiseIn c.args.group.now.before (all_given xs)) (sym t.inputs) rising.rises)
          (with_list (λ a. map (with_list vec_items) a.items) c.step_all-answers.result) c.step_all-answers.ensures.group;
      clients = have_group e.meaning e.heard d.failed c.args.node.now c.step_all-answers.new.self c.args.group.now c.take-inputs.new.self rising c.args.self.now start c.hand_out.new.self (seconds_of start.time)
          (ap (λ p. clients_of p) c.end_write.ensures.clients) c.requires.clients t.before t.empty t.nobody c.step_all-answers.result c.hand_out.result
          (subst (λ (xs : List (Moment × Input)). GroupEnds e.meaning e.heard d.failed c.args.node.now xs (with_list (λ a. map (with_list vec_items) a.items) c.step_all-answers.result) c.step_all-answers.new.self)
          t.inputs c.step_all-answers.ensures.group.ends)
          (subst (λ (ways : List Way). HandsOutGroup ways c.step_all-answers.result c.hand_out.result (seconds_of start.time) start c.hand_out.new.self) (c.as_slice.ensures.value ∙ t.ways) c.hand_out.ensures.told)
          c.hand_out.ensures.goes_on;
    }

-- what the node gives is handed out
pub returns-clause-told : goal.returns-clause-told
returns-clause-told g c =
    let e = g.E.Engine in
    let written = c.end_write.new.self in
    let start = record written { connections = c.look_at_clock.new.self } in
    record {
      answers = c.step_all-answers.result;
      ends = subst (λ (xs : List (Moment × Input)). GroupEnds e.meaning e.heard g.D.Disk.failed c.args.node.now xs (with_list (λ a. map (with_list vec_items) a.items) c.step_all-answers.result) c.step_all-answers.new.self)
          c.take-inputs.ensures.inputs c.step_all-answers.ensures.group.ends;
      start = start;
      clients = ap (λ p. clients_of p) c.end_write.ensures.clients;
      told = subst (λ (ways : List Way). HandsOutGroup ways c.step_all-answers.result c.hand_out.result (seconds_of start.time) start c.hand_out.new.self) (c.as_slice.ensures.value ∙ c.take-inputs.ensures.ways) c.hand_out.ensures.told;
      taken = c.hand_out.ensures.taken;
    }

-- what came of it was told
pub returns-clause-carried : goal.returns-clause-carried
returns-clause-carried g c = λ first so_far.
    c.hand_out.ensures.carried first (carry_continue c.end_write.new.self.connections c.look_at_clock.new.self c.look_at_clock.ensures first (c.end_write.ensures.carried first so_far))
