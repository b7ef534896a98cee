use Rattle.std.proofs.Common.{◌+◌, sym, subst, ◌∙◌, arith}
use Rattle.sv_connection.specs.Connection.{is_single}
use Rattle.sv_launch.proofs.OnceLemmas.{begins, as_turn, goes_on, goes_on_unparked, stops, runs_out}
use Rattle.sv_launch.proofs.HistoryLemmas.{one_history}
use Rattle.sv_launch.proofs.stream.once.Goals as goal

pub loop-count-init : goal.loop-count-init
loop-count-init g c = record {
  valid = subst (λ e. g.E.Engine.valid e) (sym c.new-site.ensures.over) c.requires;
  single = c.new-connection.ensures.single_is;
  waiting = c.new-connection.ensures.not_waiting;
  underway = begins g.E.Engine.meaning g.E.Engine.heard c.args.engine c.args.now _ _ c.new-connection.result c.new-site.result c.new-site.ensures c.new-connection.ensures;
}

pub loop-count-preserved : goal.loop-count-preserved
loop-count-preserved g c = record {
  valid = c.serve_next-served.ensures.valid;
  single = c.serve_next-served.ensures.single ∙ c.loop-count.invariant.single;
  waiting = c.serve_next-served.ensures.waiting ∙ goes_on_unparked _ (sym c.ending.ensures ∙ c.in_default.is);
  underway =
      goes_on _ _ c.args.engine c.args.now _ _ c.loop-count.count _ _ c.serve_next-served.result c.loop-count.invariant.underway (sym c.ending.ensures ∙ c.in_default.is)
      (as_turn _ _ c.args.now (c.loop-count.count + 1) c.secret_of.result (is_single c.loop-count.connection) _ _ c.serve_next-served.result c.secret_of.ensures
      c.loop-count.invariant.single c.serve_next-served.ensures.served);
}

pub returns-in-Some-clause-served : goal.returns-in-Some-clause-served
returns-in-Some-clause-served g c =
    stops _ _ c.args.engine c.args.now _ _ c.loop-count.count _ c.serve_next-served.new.connection _ _ c.serve_next-served.new.site c.serve_next-served.result c.in-Some.end
    c.loop-count.invariant.underway (sym c.ending.ensures ∙ c.in-Some.is)
    (as_turn _ _ c.args.now (c.loop-count.count + 1) c.secret_of.result (is_single c.loop-count.connection) _ _ c.serve_next-served.result c.secret_of.ensures
    c.loop-count.invariant.single c.serve_next-served.ensures.served)

pub returns-clause-served : goal.returns-clause-served
returns-clause-served g c =
    runs_out _ _ c.args.engine c.args.now _ _ c.loop-count.count c.loop-count.connection _ _ c.loop-count.site c.loop-count.invariant.underway
    (omega (arith, c.loop-count-test.false, c.loop-count.auto.count-end))

pub returns-in-Some-clause-history : goal.returns-in-Some-clause-history
returns-in-Some-clause-history g c s =
    one_history g.E.Engine.meaning g.E.Engine.heard c.args.now c.args.engine (g.met.E.Engine.untouched c.args.engine c.requires) (g.met.E.Engine.names_keys c.args.engine c.requires) _ s.end _ s.stream s.new

pub returns-clause-history : goal.returns-clause-history
returns-clause-history g c s =
    one_history g.E.Engine.meaning g.E.Engine.heard c.args.now c.args.engine (g.met.E.Engine.untouched c.args.engine c.requires) (g.met.E.Engine.names_keys c.args.engine c.requires) _ s.end _ s.stream s.new
