use Rattle.sv_message.proofs.Prelude.{ap, sym, ◌∙◌, map, subst, take, Any, IsUtf8, err_from_is_err_and, IsRefused, kept_field}
use Rattle.sv_message.proofs.HeadLemmas.{fails_map, headers_in_front, if_err, span_in_front}
use Rattle.sv_message.proofs.head.keep_head.Goals as goal

pub share_head-requires-clause-utf8 : goal.share_head-requires-clause-utf8
share_head-requires-clause-utf8 c = subst IsUtf8 (sym (span_in_front c.args.found.len c.args.buf.now c.args.found.path c.requires.within.path)) c.requires.target

pub returns-in_err-target-clause-err : goal.returns-in_err-target-clause-err
returns-in_err-target-clause-err c =
    let p = err_from_is_err_and c.from_residual-in_err-target.result c.from_residual-in_err-target.ensures.1 in
    let same = headers_in_front c.args.found.len c.args.buf.now (take c.args.found.headers c.args.spans.now) c.requires.within.section.headers_fit in
    if_err _ p.0 _ p.1 (rw p.2 (fails_map _ _ _ (λ refused. subst (Any IsRefused) same refused) c.in_err-target.ensures.err))

pub returns-clause-ok : goal.returns-clause-ok
returns-clause-ok c =
    let same = headers_in_front c.args.found.len c.args.buf.now (take c.args.found.headers c.args.spans.now) c.requires.within.section.headers_fit in
    let fields = c.in_ok-target.ensures.fields ∙ ap (map kept_field) same in
    let method = c.in_ok-method.ensures ∙ c.of.ensures in
    let target = c.in_ok-target.ensures.target ∙ span_in_front c.args.found.len c.args.buf.now c.args.found.path c.requires.within.path in
    λ i. record { len = c.args.found.len; method = method i; target = target i; minor = c.args.found.version; fields = fields i }
