use Rattle.sv_host.proofs.host.live.Goals as goal

pub returns-clause-lived : goal.returns-clause-lived
returns-clause-lived g c =
    let served = c.serve_all-stop in
    record { last = served.new.node; valid = served.ensures.valid; ended = served.ensures.ended; runs = served.ensures.runs; parts = c.stop-engine.ensures }
