-- The cart, shown and changed.
use Rattle.std.specs.Prelude.{ℕ, not, nat_lt, Bool, false, List, Option, Some, None, codes, if◌then◌else◌}
use Rattle.sv_session.specs.Edit.{Edit}
use Rattle.sv_servlet.specs.Call.{Asked}
use Rattle.sv_servlet.specs.declared.servlet.Next.{Next}
use Rattle.sv_servlet.specs.declared.servlet.Next.TheVariants.{SendError}
use Rattle.sv_web.specs.Attributes.{has_session}
use Rattle.sv_web.specs.Page.{sent}
use Rattle.sv_web.specs.Steps.{editing, set_attribute}
use Rattle.sv_web.specs.Work.{Ends, Looking, SetValue, Work}
use Rattle.example_cart.specs.declared.article.Article.{Article}
use Rattle.example_cart.specs.declared.form.Sent.{Sent}
use Rattle.example_cart.specs.declared.form.Sent.TheVariants.{Asks, Wrong, NotOurs}
use Rattle.example_cart.specs.declared.notice.Notice.{Notice}
use Rattle.example_cart.specs.declared.post.Post.{Post}
use Rattle.example_cart.specs.declared.rows.Listing.{Listing}
use Rattle.example_cart.specs.declared.rows.Listing.TheVariants.{Offers, Lines, Ordered}
use Rattle.example_cart.specs.Cart.{quantity}
use Rattle.example_cart.specs.Forms.{Basket, posted, standing}
use Rattle.example_cart.specs.Kept.{cart_in, forms_in, kept_forms}
use Rattle.example_cart.specs.Notice.{kept_notice, notice_in, noticed}
use Rattle.example_cart.specs.Order.{order_in}
use Rattle.example_cart.specs.Pages.{cart_page, catalogue_page}
use Rattle.example_servlets.specs.Kept.{seen, session_number}
use Rattle.example_servlets.specs.Sent.{sent_back, sent_on}
use Rattle.example_servlets.specs.Told.{sent_of, text}
use Rattle.example_servlets.specs.Visits.{around, begun}

-- ---- a form that is taken

-- the cart of a session, and the forms that have counted
abbrev pub basket_of : Edit → Basket
basket_of e = record { cart = cart_in (seen e (codes "cart")); forms = forms_in (seen e (codes "forms")) }

-- what is said of a form
unfoldable pub notice_of : Post → Bool → Edit → Notice
notice_of post is_new e =
    noticed (standing (session_number e) (basket_of e).forms post) (quantity (basket_of e).cart post.article) post is_new

unfoldable pub basket_after : Post → Edit → Basket
basket_after post e = posted (session_number e) (basket_of e) post

-- a cart, its forms and a notice are kept, and the browser is sent on to the page
unfoldable pub with_basket : Basket → Notice → Work Next
with_basket b notice =
    set_attribute (codes "cart") b.cart (set_attribute (codes "forms") (kept_forms b.forms)
    (set_attribute (codes "notice") (kept_notice notice) (sent_on (codes "cart"))))

abbrev pub taken_in : Post → Bool → Work Next
taken_in post is_new = Looking (λ e. with_basket (basket_after post e) (notice_of post is_new e))

-- the cart changes by a form, in a session that is made where there was none
unfoldable pub changed : ℕ → Post → Work Next
changed node post = Looking (λ e. begun node (taken_in post (not (has_session e))))

-- ---- the pages

-- the page of the cart, for a session as it is, with what was typed that is no quantity
unfoldable pub page_of : List Article → List ℕ → ℕ → Option (ℕ × List ℕ) → Edit → List ℕ
page_of articles base node wrong e =
    cart_page (around base node e) articles (cart_in (seen e (codes "cart"))) (notice_in (seen e (codes "notice"))) wrong
    (order_in (seen e (codes "order"))).number

unfoldable pub offers_of : List Article → List ℕ → ℕ → Option (ℕ × List ℕ) → Edit → List ℕ
offers_of articles base node wrong e = catalogue_page (around base node e) articles (cart_in (seen e (codes "cart"))) wrong

-- an article's form stands in the cart while there is something of it there
abbrev pub is_line : Listing → ℕ → Edit → Bool
is_line Offers article e = false
is_line Lines article e = nat_lt 0 (quantity (cart_in (seen e (codes "cart"))) article)
is_line Ordered article e = false

-- the page of a form again, with what was typed in it
unfoldable pub wrong_page : List Article → List ℕ → ℕ → Listing → ℕ → List ℕ → Edit → List ℕ
wrong_page articles base node listing article typed e =
    if is_line listing article e then page_of articles base node (Some (article, typed)) e else offers_of articles base node (Some (article, typed)) e

unfoldable pub wrong_shown : List Article → List ℕ → ℕ → Listing → ℕ → List ℕ → Work Next
wrong_shown articles base node listing article typed = Looking (λ e. sent_back (wrong_page articles base node listing article typed e))

-- what was typed as a quantity
abbrev pub typed : Asked → List ℕ
typed call = text call.params (codes "quantity")

abbrev pub refusal : Next
refusal = SendError 400 (codes "This form is not one of the shop's, or it has lost a field.")

-- a form is taken, and the browser is sent on to the page; a quantity that is none is shown again; what is no form is refused
abbrev pub taken_as : List Article → ℕ → Sent → Asked → Work Next
taken_as articles node (Asks post) call = changed node post
taken_as articles node (Wrong listing article) call = begun node (wrong_shown articles call.context_path node listing article (typed call))
taken_as articles node NotOurs call = Ends refusal

abbrev pub taken : List Article → ℕ → Asked → Work Next
taken articles node call = taken_as articles node (sent_of call.params) call

-- the notice is forgotten, if there is a session
abbrev pub forgotten : Work Next → Work Next
forgotten more = Looking (λ e. if has_session e then editing (SetValue (codes "notice") None) more else more)

abbrev pub sent_once : List ℕ → Work Next
sent_once page = forgotten (sent page)

-- the page is shown, and the notice that is on it is forgotten
abbrev pub shown : List Article → ℕ → Asked → Work Next
shown articles node call = Looking (λ e. sent_once (page_of articles call.context_path node None e))
