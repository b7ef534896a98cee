use Rattle.std.proofs.Common.{◌≡◌, ◌≤◌, ◌+◌, ◌++◌, [], ◌∷◌, List, ℕ, Ok, length, ap, subst, arith, rules}
use Rattle.std.proofs.lemmas.Result.{err_from_is_err_and}
use Rattle.sv_model.specs.Attributes.{Attribute, attributes_size}
use Rattle.sv_model.proofs.AttributesLemmas.{attributes_size-nil, attributes_size-push}
use Rattle.sv_record.proofs.Prelude.{Reading, Fails, reads, session_limit, Before, attribute, behind, at_first}
use Rattle.sv_record.proofs.Loop.{starts, goes_on, ends}
use Rattle.sv_record.proofs.RangeLemmas.{session_limit_small}
use Rattle.sv_record.proofs.Names.{above_all, up_to_next}
use Rattle.sv_record.proofs.attributes.read_each.Goals as goal

abbrev read_as : Attribute → List ℕ → Reading Attribute
read_as a rest = Ok (a, rest)

grown_size : (all : List Attribute) (name value : List ℕ) → attributes_size (all ++ (name, value) ∷ []) ≡ attributes_size all + length name + length value
grown_size all name value = omega (arith, attributes_size-push all (name, value))

pub loop-init : goal.loop-init
loop-init c =
    rw (c.new-attributes.ensures, attributes_size-nil) (record {
      small = omega arith;
      rises = tt;
      read = starts (attribute c.args.version) behind c.args.count at_first c.args.bytes.now;
    })

pub returns-in_err-name : goal.returns-in_err-name
returns-in_err-name c =
    let before : Before = record { last = c.loop.last.now; total = attributes_size c.loop.attributes } in
    let item = attribute c.args.version in
    let p = err_from_is_err_and c.from_residual.result c.from_residual.ensures.1 in
    let read : Fails c.in_err-name.field-0.0 ((item before).read c.loop.rest.now) =
    subst (λ (n : ℕ). Fails c.in_err-name.field-0.0 ((item (record { last = c.loop.last.now; total = n })).read c.loop.rest.now)) c.size.ensures c.in_err-name.ensures.read in
    rw (p.1, p.2) (ends item behind c.in_err-name.field-0.0 c.loop.attributes c.args.count c.loop.counter before c.loop.rest.now (reads item behind c.args.count at_first c.args.bytes.now) c.loop-test.true read c.loop.invariant.read)

pub push-requires-clause-above : goal.push-requires-clause-above
push-requires-clause-above c =
    let same : c.in_ok-from_str.field-0 ≡ c.in_ok-name.name.now = search rules in
    rw same (above_all c.loop.last.now c.in_ok-name.name.now c.loop.attributes c.in_ok-name.ensures.rises c.loop.invariant.rises)

pub loop-preserved : goal.loop-preserved
loop-preserved c =
    let before : Before = record { last = c.loop.last.now; total = attributes_size c.loop.attributes } in
    let item = attribute c.args.version in
    let name = c.in_ok-name.name.now in
    let value = c.in_ok-name.value.now in
    let at_last : c.as_bytes-last.result.now ≡ name = search rules in
    let grown : c.push.new.self ≡ c.loop.attributes ++ (name, value) ∷ [] = search rules in
    let above = above_all c.loop.last.now name c.loop.attributes c.in_ok-name.ensures.rises c.loop.invariant.rises in
    let size : attributes_size (c.loop.attributes ++ (name, value) ∷ []) ≡ attributes_size c.loop.attributes + length name + length value = grown_size c.loop.attributes name value in
    let read : (item before).read c.loop.rest.now ≡ read_as (name, value) c.in_ok-name.next.now =
    subst (λ (n : ℕ). (item (record { last = c.loop.last.now; total = n })).read c.loop.rest.now ≡ read_as (name, value) c.in_ok-name.next.now) c.size.ensures c.in_ok-name.ensures.read in
    rw (at_last, grown, size) (record {
      small = subst (λ (n : ℕ). n + length name + length value ≤ session_limit c.args.version) c.size.ensures c.in_ok-name.ensures.small;
      rises = up_to_next name value c.loop.attributes above;
      read = goes_on item behind c.loop.attributes c.args.count c.loop.counter before c.loop.rest.now (name, value) c.in_ok-name.next.now (reads item behind c.args.count at_first c.args.bytes.now) c.loop-test.true read c.loop.invariant.read;
    })

pub push-requires-clause-fits : goal.push-requires-clause-fits
push-requires-clause-fits c =
    let limit = session_limit_small c.args.version in
    let name : length c.in_ok-from_str.field-0 ≡ length c.in_ok-name.name.now = ap (λ (l : List ℕ). length l) c.in_ok-from_str.ensures in
    let value : length c.from_vec.result ≡ length c.in_ok-name.value.now = search rules in
    omega (arith, limit, c.in_ok-name.ensures.small, c.size.ensures, name, value)
