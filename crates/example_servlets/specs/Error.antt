-- The page of an error (Jakarta Servlet 6.0, section 10.9.1).
use Rattle.std.specs.Prelude.{ℕ, ◌==◌, List, bytes_eq, codes, length, unwrap_or, if◌then◌else◌}
use Rattle.sv_model.specs.Attributes.{Attribute, value_of}
use Rattle.sv_session.specs.Edit.{Edit}
use Rattle.sv_servlet.specs.Call.{Asked}
use Rattle.sv_servlet.specs.declared.servlet.Next.{Next}
use Rattle.sv_web.specs.Page.{sent}
use Rattle.sv_web.specs.Work.{Looking, Work}
use Rattle.example_cart.specs.Pages.{error_page}
use Rattle.example_servlets.specs.Visits.{around}

-- what a status means to a shopper
abbrev pub title_of : List ℕ → List ℕ
title_of code =
    if bytes_eq code (codes "400") then codes "The shop can't take that"
    else if bytes_eq code (codes "403") then codes "That form was not sent from here"
    else if bytes_eq code (codes "404") then codes "There is no such page"
    else if bytes_eq code (codes "405") then codes "That page can't be asked so"
    else codes "Something went wrong"

-- what is said of an error; or where to go, where nothing is
abbrev pub message_of : List ℕ → List ℕ
message_of message = if length message == 0 then codes "You may go on from here:" else message

-- the page of a status and a text
unfoldable pub page_of : List ℕ → ℕ → Edit → List ℕ → List ℕ → List ℕ
page_of base node e code message = error_page (around base node e) (title_of code) (message_of message) code

-- the status of the error, and what is said of it
abbrev pub code_of : List Attribute → List ℕ
code_of attributes = unwrap_or (value_of attributes (codes "jakarta.servlet.error.status_code")) (codes "500")

abbrev pub said_of : List Attribute → List ℕ
said_of attributes = unwrap_or (value_of attributes (codes "jakarta.servlet.error.message")) (codes "")

abbrev pub error : ℕ → Asked → Work Next
error node call = Looking (λ e. sent (page_of call.context_path node e (code_of call.attributes) (said_of call.attributes)))
