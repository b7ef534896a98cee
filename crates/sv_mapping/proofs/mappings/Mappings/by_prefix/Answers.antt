use Rattle.sv_mapping.proofs.Prelude.{◌≡◌, ◌≢◌, ◌-◌, ◌<◌, ◌++◌, ◌∙◌, length, take, get_or, Some, None, codes, sym, ap, arith, get, false≢true, nat_tests}
use Rattle.sv_mapping.proofs.Prelude.{rfind_char}
use Rattle.std.proofs.lemmas.Str.Pattern.{starts_char}
use Rattle.sv_mapping.proofs.PrefixLemmas.{SearchedDownTo, IsRooted, searched-start, searched-more, searched-all, no_prefix, unrooted_none, longest_prefix}
use Rattle.sv_mapping.proofs.mappings.Mappings.by_prefix.Goals as goal
use Rattle.sv_mapping.proofs.mappings.Mappings.by_prefix.Goals.{else-not-is_empty-via-then-not-is_empty+else-not-starts_with, else-not-is_empty-via-else-not-is_empty}

pub returns-then-not-starts_with : goal.returns-then-not-starts_with
returns-then-not-starts_with c =
    let path = c.args.path.now in
    let some : 0 < length path = grind (arith, nat_tests) in
    let starts = starts_char 47 path c.starts_with.result c.starts_with.ensures.cases (omega arith) (omega arith) in
    let no_slash : get_or path 0 0 ≢ 47 = λ slash. false≢true (sym c.if-not-starts_with.true ∙ starts.1 slash) in
    unrooted_none c.args.self.now path some no_slash

pub loop-servlet-init : goal.loop-servlet-init
loop-servlet-init c =
    let path = c.args.path.now in
    let rooted : IsRooted path = elim c.else-not-is_empty.branch [
      | else-not-is_empty-via-then-not-is_empty+else-not-starts_with w ↦ λ _. (starts_char 47 path w.starts_with.result w.starts_with.ensures.cases (omega arith) (omega arith)).0 w.if-not-starts_with.false
      | else-not-is_empty-via-else-not-is_empty w ↦ λ some. absurd (grind (arith, nat_tests))
    ] in
    record { text = c.utf8.path; rooted = rooted; searched = searched-start c.args.self.now path }

pub returns-in-Some : goal.returns-in-Some
returns-in-Some c =
    let inv = c.loop-servlet.invariant in
    longest_prefix c.args.self.now c.args.path.now c.loop-servlet.front.now inv.rooted inv.searched c.in-Some.servlet (sym c.in-Some.ensures)

pub returns-in_err-slash : goal.returns-in_err-slash
returns-in_err-slash c =
    let table = c.args.self.now in
    let path = c.args.path.now in
    let front = c.loop-servlet.front.now in
    let none : get table (front ++ codes "/*") ≡ None = sym c.servlet_of.ensures ∙ c.in_default.is in
    let no_slash = rfind_char 47 front None c.in_err-slash.ensures.cases (omega arith) in
    rw c.from_residual.ensures (no_prefix table path (searched-all table path front c.loop-servlet.invariant.searched none no_slash))

pub loop-servlet-preserved : goal.loop-servlet-preserved
loop-servlet-preserved c =
    let table = c.args.self.now in
    let path = c.args.path.now in
    let front = c.loop-servlet.front.now in
    let inv = c.loop-servlet.invariant in
    let none : get table (front ++ codes "/*") ≡ None = sym c.servlet_of.ensures ∙ c.in_default.is in
    let slash = c.in_ok-slash.slash in
    let found = rfind_char 47 front (Some slash) c.in_ok-slash.ensures.cases (omega arith) in
    let more : SearchedDownTo table path (take slash front) = searched-more table path front inv.searched none slash found.0 found.1 found.2 in
    let all : slash - 0 ≡ slash = omega arith in
    let cut : c.range-front.result.now ≡ take slash front = c.range-front.ensures.value ∙ ap (λ n. take n front) all in
    record { text = c.range-front.utf8; rooted = inv.rooted; searched = rw cut more }
