use Rattle.sv_mapping.proofs.Prelude.{◌≡◌, ◌≢◌, ◌∙◌, codes, Some, None, sym, ap, append-nil, get, false≢true, bytes_eq-Decides, form_of, Exact}
use Rattle.sv_mapping.proofs.MatchLemmas.{exact_none, exact_missing, exact_found, root_missing, root_found}
use Rattle.sv_mapping.proofs.mappings.Mappings.by_exact.Goals as goal

pub returns-in_err-servlet : goal.returns-in_err-servlet
returns-in_err-servlet c =
    let path = c.args.path.now in
    let root = (bytes_eq-Decides path (codes "/")).0 (sym c.eq.ensures ∙ c.if-eq.true) in
    rw c.from_residual.ensures (root_missing c.args.self.now path root (sym c.in_err-servlet.ensures))

pub returns-then-eq : goal.returns-then-eq
returns-then-eq c =
    let path = c.args.path.now in
    let root = (bytes_eq-Decides path (codes "/")).0 (sym c.eq.ensures ∙ c.if-eq.true) in
    root_found c.args.self.now path c.in_ok-servlet.servlet root (sym c.in_ok-servlet.ensures)

pub returns-in_default : goal.returns-in_default
returns-in_default c =
    let path = c.args.path.now in
    let no_root : path ≢ codes "/" = λ root. false≢true (sym c.if-eq.false ∙ c.eq.ensures ∙ (bytes_eq-Decides path (codes "/")).1 root) in
    exact_none c.args.self.now path (λ exact. c.in_default.not-Exact (c.form_of.ensures ∙ exact)) no_root

pub returns-in_err-servlet-2 : goal.returns-in_err-servlet-2
returns-in_err-servlet-2 c =
    let path = c.args.path.now in
    let no_root : path ≢ codes "/" = λ root. false≢true (sym c.if-eq.false ∙ c.eq.ensures ∙ (bytes_eq-Decides path (codes "/")).1 root) in
    let none : get c.args.self.now path ≡ None = ap (get c.args.self.now) (sym (append-nil path)) ∙ sym c.in_err-servlet-2.ensures in
    rw c.from_residual-in_err-servlet-2.ensures (exact_missing c.args.self.now path no_root none)

pub returns : goal.returns
returns c =
    let path = c.args.path.now in
    let form : form_of path ≡ Exact = sym c.form_of.ensures ∙ c.in-Exact.is in
    let listed : get c.args.self.now path ≡ Some c.in_ok-servlet-2.servlet = ap (get c.args.self.now) (sym (append-nil path)) ∙ sym c.in_ok-servlet-2.ensures in
    rw c.whole.ensures (exact_found c.args.self.now path c.in_ok-servlet-2.servlet form listed)
