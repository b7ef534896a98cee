use Rattle.std.proofs.Common.{◌≡◌, ◌∙◌, ◌<◌, ◌++◌, ◌-◌, List, ap, arith, length, sym}
use Rattle.std.proofs.lemmas.Bool.Decides.{nat_tests}
use Rattle.sv_once.specs.Entries.{entries_in}
use Rattle.sv_once.specs.declared.entry.Entry.{Entry}
use Rattle.sv_once.proofs.EntryLemmas.{none_left, none_more, one_more}
use Rattle.sv_once.proofs.memory.read_entries.Goals as goal

pub returns-then-is_empty : goal.returns-then-is_empty
returns-then-is_empty c =
    let none : length c.loop-left.rest.now ≡ 0 = grind (arith, nat_tests, c.is_empty.ensures, c.if-is_empty.true) in
    sym (none_left c.loop-left.entries.items c.loop-left.left c.loop-left.rest.now none) ∙ c.loop-left.invariant

pub loop-left-preserved : goal.loop-left-preserved
loop-left-preserved c =
    let some : 0 < c.loop-left.left = omega arith in
    let bytes : 0 < length c.loop-left.rest.now = grind (arith, nat_tests, c.is_empty.ensures, c.if-is_empty.false) in
    ap (λ (es : List Entry). es ++ entries_in (c.loop-left.left - 1) c.in_ok-entry.more.now) c.in_ok-push.ensures.items
    ∙ one_more c.loop-left.entries.items c.loop-left.left c.loop-left.rest.now c.in_ok-entry.more.now c.in_ok-entry.entry some bytes c.in_ok-entry.ensures.entry c.in_ok-entry.ensures.rest
    ∙ c.loop-left.invariant

pub returns : goal.returns
returns c =
    let none : c.loop-left.left ≡ 0 = omega arith in
    sym (none_more c.loop-left.entries.items c.loop-left.left c.loop-left.rest.now none) ∙ c.loop-left.invariant
