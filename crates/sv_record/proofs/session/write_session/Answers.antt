use Rattle.std.proofs.lemmas.Result.{on_ok_weaker, on_err_weaker}
use Rattle.sv_record.specs.Session.{session}
use Rattle.sv_record.proofs.RangeLemmas.{attributes_fit}
use Rattle.sv_record.proofs.WrittenLemmas.{session_kept, session_text}
use Rattle.sv_record.proofs.session.write_session.Goals as goal

pub returns-clause-ok : goal.returns-clause-ok
returns-clause-ok c =
    on_ok_weaker c.write_attributes.result
    (session_text c.args.held.now c.args.out.now.items _ _ _ _ _ _ _ c.in_ok-write_secret.ensures.ok c.in_ok-write_context.ensures.ok c.in_ok-write_u64.ensures.ok c.in_ok-write_u64-2.ensures.ok c.in_ok-write_i32.ensures.ok c.in_ok-write_flag.ensures.ok)
    c.write_attributes.ensures.ok

pub returns-clause-fits : goal.returns-clause-fits
unfolding session
returns-clause-fits c =
    let limits = c.requires in
    on_ok_weaker c.write_attributes.result
    (λ texts. (
      c.write_secret.ensures.fits,
      (
        c.write_context.ensures.fits,
        (
          c.write_u64.ensures.fits,
          (
            c.write_u64-2.ensures.fits,
            (
              c.write_i32.ensures.fits,
              (
                c.write_flag.ensures.fits,
                attributes_fit c.args.held.now.attributes limits.count limits.named limits.names limits.values limits.size texts c.write_attributes.ensures.rising,
              ),
            ),
          ),
        ),
      ),
    ))
    c.write_attributes.ensures.texts

pub returns-clause-err : goal.returns-clause-err
returns-clause-err c =
    on_err_weaker c.write_attributes.result
    (session_kept c.args.held.now c.args.out.now.items _ _ _ _ _ _ _ c.in_ok-write_secret.ensures.ok c.in_ok-write_context.ensures.ok c.in_ok-write_u64.ensures.ok c.in_ok-write_u64-2.ensures.ok c.in_ok-write_i32.ensures.ok c.in_ok-write_flag.ensures.ok)
    c.write_attributes.ensures.err
