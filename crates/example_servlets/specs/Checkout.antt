-- Ordering.
use Rattle.std.specs.Prelude.{ℕ, ◌+◌, List, Option, Some, None, codes, if◌then◌else◌}
use Rattle.sv_session.specs.Edit.{Edit}
use Rattle.sv_servlet.specs.Call.{Asked}
use Rattle.sv_servlet.specs.declared.servlet.Next.{Next}
use Rattle.sv_web.specs.Page.{sent}
use Rattle.sv_web.specs.Steps.{set_attribute}
use Rattle.sv_web.specs.Work.{Ends, Looking, Work}
use Rattle.example_cart.specs.declared.article.Article.{Article}
use Rattle.example_cart.specs.declared.order.Order.{Order}
use Rattle.example_cart.specs.Cart.{is_empty, new_cart}
use Rattle.example_cart.specs.Kept.{cart_in}
use Rattle.example_cart.specs.Notice.{kept_notice, not_ordered}
use Rattle.example_cart.specs.Order.{is_ordered, kept_order, order_in}
use Rattle.example_cart.specs.Pages.{order_page}
use Rattle.example_servlets.specs.Basket.{refusal}
use Rattle.example_servlets.specs.Kept.{seen}
use Rattle.example_servlets.specs.Sent.{sent_on}
use Rattle.example_servlets.specs.Told.{order_form}
use Rattle.example_servlets.specs.Visits.{around}

-- the page, for a session as it is
unfoldable pub page_of : List Article → List ℕ → ℕ → Edit → List ℕ
page_of articles base node e = order_page (around base node e) articles (order_in (seen e (codes "order")))

-- the cart is kept as the order after the last one, nothing is left in it, and the browser is sent on to the order
unfoldable pub placed : ℕ → List ℕ → Work Next
placed last cart =
    set_attribute (codes "order") (kept_order (record { number = last + 1; cart = cart })) (set_attribute (codes "cart") new_cart (sent_on (codes "checkout")))

-- a form that orders nothing leads to the last order; where there is something in the cart, to the cart, which says so
unfoldable pub left : List ℕ → Work Next
left cart = if is_empty cart then sent_on (codes "checkout") else set_attribute (codes "notice") (kept_notice not_ordered) (sent_on (codes "cart"))

abbrev pub ordered_by : ℕ → List ℕ → Order → Work Next
ordered_by form cart order = if is_ordered order cart form then placed order.number cart else left cart

-- what is in the cart is ordered by the form of the next order; any other form orders nothing
unfoldable pub ordered : ℕ → Work Next
ordered form = Looking (λ e. ordered_by form (cart_in (seen e (codes "cart"))) (order_in (seen e (codes "order"))))

abbrev pub shown : List Article → ℕ → Asked → Work Next
shown articles node call = Looking (λ e. sent (page_of articles call.context_path node e))

abbrev pub taken_as : Option ℕ → Work Next
taken_as None = Ends refusal
taken_as (Some form) = ordered form

abbrev pub taken : Asked → Work Next
taken call = taken_as (order_form call.params)
