-- The pages that a session is shown.
use Rattle.std.specs.Prelude.{ℕ, List, Some, codes, if◌then◌else◌}
use Rattle.sv_session.specs.Edit.{Edit}
use Rattle.sv_session.specs.Fault.{fault_name}
use Rattle.sv_session.specs.declared.fault.SessionFault.{SessionFault}
use Rattle.sv_servlet.specs.declared.servlet.Next.{Next}
use Rattle.sv_web.specs.Attributes.{has_session}
use Rattle.sv_web.specs.Refusal.{fault_page}
use Rattle.sv_web.specs.Steps.{create}
use Rattle.sv_web.specs.Work.{Editing, Ends, Looking, SetValue, Work}
use Rattle.example_cart.specs.declared.visit.Visit.{Visit}
use Rattle.example_cart.specs.Cart.{count}
use Rattle.example_cart.specs.Kept.{cart_in, kept_visit, visit_in}
use Rattle.example_cart.specs.Pages.{Around}
use Rattle.example_cart.specs.Visit.{arrived as visit_arrived}
use Rattle.example_servlets.specs.Kept.{seen, session_number}

-- the visit of a session, as a node sees it
abbrev pub visit_of : ℕ → Edit → Visit
visit_of node e = visit_in node (seen e (codes "visit"))

-- what is kept of one page more, shown by this node
unfoldable pub one_more : ℕ → Edit → List ℕ
one_more node e = kept_visit (visit_arrived node (visit_of node e))

-- a page of the session is counted
abbrev pub counted : {R : Type 0} → ℕ → Work R → (SessionFault → Work R) → Work R
counted node more refused = Looking (λ e. Editing (SetValue (codes "visit") (Some (one_more node e))) more refused)

-- there is a session, which is made and counts its first page where there was none
unfoldable pub begun : ℕ → Work Next → Work Next
begun node more = Looking (λ e. if has_session e then more else create (counted node more (λ fault. Ends (fault_page (fault_name fault)))))

-- what stands round a page of the shop at a path, in a session as it is
unfoldable pub around : List ℕ → ℕ → Edit → Around
around base node e =
    record {
      base = base;
      name = seen e (codes "name");
      count = count (cart_in (seen e (codes "cart")));
      mark = record { visit = session_number e; page = (visit_of node e).page };
      node = node;
      moves = (visit_of node e).moves;
    }
