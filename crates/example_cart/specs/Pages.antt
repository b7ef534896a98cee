-- The pages of the shop: the markup of the program, and between it numbers, prices and texts by their references.
use Rattle.std.specs.Prelude.{ℕ, ◌+◌, ◌==◌, Bool, List, [], ◌∷◌, ◌++◌, codes}
use Rattle.std.specs.Prelude.{decimal, Option, Some, None, option_and_then, option_copied, option_map, slice_get, if◌then◌else◌}
use Rattle.std.specs.List.{concat, flat_map}
use Rattle.example_cart.specs.declared.article.Article.{Article}
use Rattle.example_cart.specs.declared.notice.Notice.{Notice}
use Rattle.example_cart.specs.declared.notice.Said.{Said}
use Rattle.example_cart.specs.declared.notice.Said.TheVariants.{Added, Full, Changed, Again, Outdated, NotOrdered}
use Rattle.example_cart.specs.declared.order.Order.{Order}
use Rattle.example_cart.specs.declared.pages.Frame.{Frame}
use Rattle.example_cart.specs.declared.post.Mark.{Mark}
use Rattle.example_cart.specs.declared.rows.Listing.{Listing}
use Rattle.example_cart.specs.declared.rows.Listing.TheVariants.{Offers, Lines, Ordered}
use Rattle.example_cart.specs.declared.rows.Rows.{Rows}
use Rattle.example_cart.specs.declared.rows.Wrong.{Wrong}
use Rattle.example_cart.specs.declared.markup.TheConstants.{ADDED, ADD_FAULT, ADD_FIELD, AGAIN, ANEW, AT_MOST}
use Rattle.example_cart.specs.declared.markup.TheConstants.{BEFORE_ADD, BEFORE_ARTICLE_NAME, BEFORE_BASE, BEFORE_CHANGE, BEFORE_CHECKOUT, BEFORE_CODE}
use Rattle.example_cart.specs.declared.markup.TheConstants.{BEFORE_COST, BEFORE_COUNT, BEFORE_FAULT, BEFORE_FIELD, BEFORE_HEADING, BEFORE_KEY, BEFORE_LABEL}
use Rattle.example_cart.specs.declared.markup.TheConstants.{BEFORE_LABEL_NAME, BEFORE_LOGIN, BEFORE_MESSAGE, BEFORE_MOVES, BEFORE_NAME, BEFORE_NODE, BEFORE_NUMBER}
use Rattle.example_cart.specs.declared.markup.TheConstants.{BEFORE_ORDER, BEFORE_PAGE, BEFORE_PICTURE, BEFORE_PRICE, BEFORE_REMOVE, BEFORE_SAID}
use Rattle.example_cart.specs.declared.markup.TheConstants.{BEFORE_SKIP, BEFORE_TITLE, BEFORE_TOTAL, BEFORE_VISIT, BEHIND_ADD, BEHIND_CHECKOUT}
use Rattle.example_cart.specs.declared.markup.TheConstants.{BEHIND_COUNT, BEHIND_FAULT, BEHIND_NAME, BEHIND_ORDER, BEHIND_ORDERED, BEHIND_ORDER_TOTAL}
use Rattle.example_cart.specs.declared.markup.TheConstants.{BEHIND_REMOVE, BEHIND_SAID, BEHIND_VALUE, CART, CATALOGUE, CHANGED}
use Rattle.example_cart.specs.declared.markup.TheConstants.{CHANGE_FAULT, CHANGE_FIELD, END, GOODBYE, LINES, LINES_END}
use Rattle.example_cart.specs.declared.markup.TheConstants.{LOGIN_FIELDS, NEW_CART, NOTHING, NOT_ORDERED, NO_ORDER, OUTDATED}
use Rattle.example_cart.specs.declared.markup.TheConstants.{STOP, TIMES, WAYS}
use Rattle.example_cart.specs.Cart.{cost, is_empty, total}
use Rattle.sv_web.specs.Html.{escaped}
use Rattle.sv_web.specs.Page.{price}
use Rattle.example_cart.specs.Shape.{shape_html}

-- ---- what stands round every page, and what was typed that is no quantity

pub record Around : Type 0 where
  pub base : List ℕ
  pub name : Option (List ℕ)
  pub count : ℕ
  pub mark : Mark
  pub node : ℕ
  pub moves : ℕ

abbrev pub around_of : Frame → Around
around_of f = record { base = f.base.now; name = option_copied f.name; count = f.count; mark = f.mark; node = f.node; moves = f.moves }

-- the article's number, and the text
abbrev pub wrong_of : Option Wrong → Option (ℕ × List ℕ)
wrong_of wrong = option_map (λ w. (w.article, w.typed.now)) wrong

abbrev pub typed_at : Option (ℕ × List ℕ) → ℕ → Option (List ℕ)
typed_at wrong number = option_and_then (λ w. if w.0 == number then Some w.1 else None) wrong

-- ---- the rows

-- an article's picture and name, up to what is said of its price
unfoldable pub name_html : Article → List ℕ
name_html article =
    concat (BEFORE_PICTURE.now ∷ []) ++ flat_map shape_html article.picture.now
    ++ concat (BEFORE_ARTICLE_NAME.now ∷ escaped article.name.now ∷ BEFORE_PRICE.now ∷ [])

unfoldable pub price_html : Article → List ℕ
price_html article = concat (price article.price ∷ [])

-- how many of an article, and what they cost
unfoldable pub cost_html : Article → ℕ → List ℕ
cost_html article quantity = concat (decimal quantity ∷ BEFORE_COST.now ∷ price (cost (article, quantity)) ∷ [])

-- the hidden fields of an article's form on a page
unfoldable pub fields_html : Mark → ℕ → List ℕ
fields_html mark number =
    concat (BEFORE_NUMBER.now ∷ decimal number ∷ BEFORE_VISIT.now ∷ decimal mark.visit ∷ BEFORE_PAGE.now ∷ decimal mark.page ∷ [])

-- the label of its quantity, up to the field
unfoldable pub label_html : ℕ → Article → List ℕ
label_html number article =
    concat (BEFORE_LABEL.now ∷ decimal number ∷ BEFORE_LABEL_NAME.now ∷ escaped article.name.now ∷ BEFORE_FIELD.now ∷ decimal number ∷ [])

-- a quantity in its field; or what was typed, and what is wrong with it
unfoldable pub value_html : List ℕ → ℕ → Option (List ℕ) → List ℕ → List ℕ
value_html field quantity None fault = concat (field ∷ decimal quantity ∷ BEHIND_VALUE.now ∷ [])
value_html field quantity (Some typed) fault = concat (field ∷ escaped typed ∷ BEFORE_FAULT.now ∷ fault ∷ BEHIND_FAULT.now ∷ [])

-- the button that adds an article
unfoldable pub add_html : Article → List ℕ
add_html article = concat (BEFORE_ADD.now ∷ escaped article.name.now ∷ BEHIND_ADD.now ∷ [])

-- the buttons that change an article's quantity, and remove it
unfoldable pub change_html : Article → List ℕ
change_html article = concat (BEFORE_CHANGE.now ∷ escaped article.name.now ∷ BEFORE_REMOVE.now ∷ escaped article.name.now ∷ BEHIND_REMOVE.now ∷ [])

-- an article of the catalogue
unfoldable pub offer_html : Mark → ℕ → Article → Option (List ℕ) → List ℕ
offer_html mark number article typed =
    name_html article ++ price_html article ++ fields_html mark number ++ label_html number article ++ value_html ADD_FIELD.now 1 typed ADD_FAULT.now
    ++ add_html article

-- a line of the cart
unfoldable pub line_html : Mark → ℕ → Article → ℕ → Option (List ℕ) → List ℕ
line_html mark number article quantity typed =
    name_html article ++ cost_html article quantity ++ fields_html mark number ++ label_html number article
    ++ value_html CHANGE_FIELD.now quantity typed CHANGE_FAULT.now ++ change_html article

-- a line of an order
unfoldable pub ordered_html : Article → ℕ → List ℕ
ordered_html article quantity = name_html article ++ cost_html article quantity ++ concat (BEHIND_ORDERED.now ∷ [])

-- what the rows of a page are, which page it is, and what was typed that is no quantity
pub record Sheet : Type 0 where
  pub listing : Listing
  pub mark : Mark
  pub wrong : Option (ℕ × List ℕ)

abbrev pub sheet_of : Rows → Sheet
sheet_of rows = record { listing = rows.listing; mark = rows.mark; wrong = wrong_of rows.wrong }

-- an article's entry; of nothing there is no line
abbrev pub row_by : Listing → Mark → ℕ → Article → ℕ → Option (List ℕ) → List ℕ
row_by Offers mark number article quantity typed = offer_html mark number article typed
row_by Lines mark number article quantity typed = if quantity == 0 then [] else line_html mark number article quantity typed
row_by Ordered mark number article quantity typed = if quantity == 0 then [] else ordered_html article quantity

abbrev pub row_html : Sheet → ℕ → Article → ℕ → List ℕ
row_html sheet number article quantity = row_by sheet.listing sheet.mark number article quantity (typed_at sheet.wrong number)

-- the entries of the articles and their quantities, from this number on
abbrev pub rows_html : Sheet → ℕ → List Article → List ℕ → List ℕ
rows_html sheet number [] quantities = []
rows_html sheet number (article ∷ articles) [] = []
rows_html sheet number (article ∷ articles) (quantity ∷ quantities) = row_html sheet number article quantity ++ rows_html sheet (number + 1) articles quantities

-- ---- the frame

-- the form to log in with; in a session its key is the number of the page
unfoldable pub login_html : Mark → List ℕ
login_html mark =
    if mark.visit == 0 then concat (BEFORE_LOGIN.now ∷ LOGIN_FIELDS.now ∷ [])
    else concat (BEFORE_LOGIN.now ∷ BEFORE_KEY.now ∷ decimal mark.visit ∷ STOP.now ∷ decimal mark.page ∷ BEHIND_VALUE.now ∷ LOGIN_FIELDS.now ∷ [])

-- a welcome by name, and the form to log out with; or the form to log in with
unfoldable pub greeting : Mark → Option (List ℕ) → List ℕ
greeting mark None = login_html mark
greeting mark (Some name) = concat (BEFORE_NAME.now ∷ escaped name ∷ BEHIND_NAME.now ∷ [])

-- the base of the links, and the title
unfoldable pub title_html : List ℕ → List ℕ → List ℕ
title_html base title = concat (BEFORE_BASE.now ∷ escaped base ∷ BEFORE_TITLE.now ∷ escaped title ∷ [])

-- the page whose content is skipped to, and how many articles are in the cart
unfoldable pub links_html : List ℕ → ℕ → List ℕ
links_html here count = concat (BEFORE_SKIP.now ∷ escaped here ∷ BEFORE_COUNT.now ∷ decimal count ∷ BEHIND_COUNT.now ∷ [])

-- everything before the page's own part
unfoldable pub head : Around → List ℕ → List ℕ → List ℕ
head f title here = title_html f.base title ++ links_html here f.count ++ greeting f.mark f.name

-- everything after it: the node that answered, and how often the session has moved
unfoldable pub foot : Around → List ℕ
foot f = concat (BEFORE_NODE.now ∷ decimal f.node ∷ BEFORE_MOVES.now ∷ decimal f.moves ∷ END.now ∷ [])

-- ---- the pages

-- where the catalogue stands: under its own name, or as the answer to a form of the cart's
abbrev pub catalogue_path : Option (ℕ × List ℕ) → List ℕ
catalogue_path None = codes "catalogue"
catalogue_path (Some wrong) = codes "cart"

-- each article with a form that adds it to the cart
unfoldable pub catalogue_page : Around → List Article → List ℕ → Option (ℕ × List ℕ) → List ℕ
catalogue_page f articles cart wrong =
    head f (codes "Catalogue") (catalogue_path wrong) ++ concat (CATALOGUE.now ∷ [])
    ++ rows_html (record { listing = Offers; mark = f.mark; wrong = wrong }) 0 articles cart ++ concat (LINES_END.now ∷ []) ++ foot f

-- a total in cents, and the form that orders
unfoldable pub checkout_html : ℕ → ℕ → List ℕ
checkout_html cents form = concat (BEFORE_TOTAL.now ∷ price cents ∷ BEFORE_CHECKOUT.now ∷ decimal form ∷ BEHIND_CHECKOUT.now ∷ [])

-- the cart's lines, the total, and the form that orders them
unfoldable pub lines : Mark → List Article → List ℕ → Option (ℕ × List ℕ) → ℕ → List ℕ
lines mark articles cart wrong form =
    concat (LINES.now ∷ []) ++ rows_html (record { listing = Lines; mark = mark; wrong = wrong }) 0 articles cart ++ checkout_html (total articles cart) form

-- or that there are none
abbrev pub cart_html : Mark → List Article → List ℕ → Option (ℕ × List ℕ) → ℕ → List ℕ
cart_html mark articles cart wrong form = if is_empty cart then concat (NOTHING.now ∷ []) else lines mark articles cart wrong form

-- what is said before the article of a notice, and after it
abbrev pub before_said : Said → List ℕ
before_said Added = ADDED.now
before_said Full = ADDED.now
before_said Changed = CHANGED.now
before_said Again = AGAIN.now
before_said Outdated = OUTDATED.now
before_said NotOrdered = NOT_ORDERED.now

abbrev pub behind_said : Said → List ℕ
behind_said Added = STOP.now
behind_said Full = AT_MOST.now
behind_said Changed = STOP.now
behind_said Again = STOP.now
behind_said Outdated = ANEW.now
behind_said NotOrdered = []

abbrev pub new_html : Bool → List ℕ
new_html is_new = if is_new then NEW_CART.now else []

-- so many of an article, and what is said of it
unfoldable pub said_html : Notice → Option Article → List ℕ
said_html n None = concat (BEFORE_SAID.now ∷ new_html n.is_new ∷ before_said n.said ∷ BEHIND_SAID.now ∷ [])
said_html n (Some article) =
    concat (BEFORE_SAID.now ∷ new_html n.is_new ∷ before_said n.said ∷ decimal n.quantity ∷ TIMES.now ∷ escaped article.name.now ∷ behind_said n.said
    ∷ BEHIND_SAID.now ∷ [])

-- what is said of the last form; nothing where there is nothing to say
abbrev pub notice_html : List Article → Option Notice → List ℕ
notice_html articles None = []
notice_html articles (Some n) = said_html n (slice_get articles n.article)

unfoldable pub cart_page : Around → List Article → List ℕ → Option Notice → Option (ℕ × List ℕ) → ℕ → List ℕ
cart_page f articles cart notice wrong form =
    head f (codes "Your cart") (codes "cart") ++ concat (CART.now ∷ []) ++ notice_html articles notice ++ cart_html f.mark articles cart wrong form ++ foot f

-- an order's number
unfoldable pub number_html : ℕ → List ℕ
number_html number = concat (BEFORE_ORDER.now ∷ decimal number ∷ BEHIND_ORDER.now ∷ [])

-- a total in cents
unfoldable pub sum_html : ℕ → List ℕ
sum_html cents = concat (BEFORE_TOTAL.now ∷ price cents ∷ BEHIND_ORDER_TOTAL.now ∷ [])

-- an order's number, its lines and what they cost
unfoldable pub ordered : Mark → List Article → Order → List ℕ
ordered mark articles order =
    number_html order.number ++ rows_html (record { listing = Ordered; mark = mark; wrong = None }) 0 articles order.cart
    ++ sum_html (total articles order.cart)

-- or that there was none
abbrev pub order_html : Mark → List Article → Order → List ℕ
order_html mark articles order = if order.number == 0 then concat (NO_ORDER.now ∷ []) else ordered mark articles order

unfoldable pub order_page : Around → List Article → Order → List ℕ
order_page f articles order = head f (codes "Your order") (codes "checkout") ++ order_html f.mark articles order ++ foot f

-- what went wrong, what is said of it, and the status
unfoldable pub error_html : List ℕ → List ℕ → List ℕ → List ℕ
error_html title message code =
    concat (BEFORE_HEADING.now ∷ escaped title ∷ BEFORE_MESSAGE.now ∷ escaped message ∷ BEFORE_CODE.now ∷ escaped code ∷ WAYS.now ∷ [])

-- its content is skipped to in the catalogue, since the page has no path of its own
unfoldable pub error_page : Around → List ℕ → List ℕ → List ℕ → List ℕ
error_page f title message code = head f title (codes "catalogue") ++ error_html title message code ++ foot f

unfoldable pub goodbye_page : Around → List ℕ
goodbye_page f = head f (codes "Logged out") (codes "logout") ++ concat (GOODBYE.now ∷ []) ++ foot f
