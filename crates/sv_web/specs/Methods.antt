-- What answers each method of a request (RFC 9110, section 9.3).
use Rattle.std.specs.Prelude.{ℕ, Bool, List, [], ◌++◌, bytes_eq, ◌||◌, codes, Option, Some, None, is_some, if◌then◌else◌}
use Rattle.sv_servlet.specs.Call.{Asked}
use Rattle.sv_servlet.specs.declared.servlet.Next.{Next}
use Rattle.sv_servlet.specs.declared.servlet.Next.TheVariants.{Done, SendError}
use Rattle.sv_web.specs.Steps.{set_header, set_status}
use Rattle.sv_web.specs.Work.{Ends, Work}
use Rattle.sv_web.specs.declared.methods.Verb.{Verb}
use Rattle.sv_web.specs.declared.methods.Verb.TheVariants.{Get, Post, Put, Delete, Options, Other}

-- the work of each method; none of one that isn't written
pub record MethodWork : Type 0 where
  pub get : Option (Asked → Work Next)
  pub post : Option (Asked → Work Next)
  pub put : Option (Asked → Work Next)
  pub delete : Option (Asked → Work Next)

abbrev pub method_work : Option (Asked → Work Next) → Option (Asked → Work Next) → Option (Asked → Work Next) → Option (Asked → Work Next) → MethodWork
method_work get post put delete = record { get = get; post = post; put = put; delete = delete }

-- what a method asks; HEAD is answered as GET is (section 9.3.2)
abbrev pub verb_of : List ℕ → Verb
verb_of method =
    if bytes_eq method (codes "GET") || bytes_eq method (codes "HEAD") then Get else if bytes_eq method (codes "POST") then Post
    else if bytes_eq method (codes "PUT") then Put else if bytes_eq method (codes "DELETE") then Delete
    else if bytes_eq method (codes "OPTIONS") then Options else Other

abbrev pub text_if : Bool → List ℕ → List ℕ
text_if is text = if is then text else []

-- the methods that are answered, as the field `allow` lists them (section 10.2.1)
unfoldable pub allow_of : Bool → Bool → Bool → Bool → List ℕ
allow_of get post put delete =
    text_if get (codes "GET, HEAD, ") ++ text_if post (codes "POST, ") ++ text_if put (codes "PUT, ") ++ text_if delete (codes "DELETE, ") ++ codes "OPTIONS"

abbrev pub allow_text : MethodWork → List ℕ
allow_text m = allow_of (is_some m.get) (is_some m.post) (is_some m.put) (is_some m.delete)

-- the error 405, with the methods that are answered (section 15.5.6)
abbrev pub not_allowed : List ℕ → Work Next
not_allowed allow = set_header (codes "allow") allow (Ends (SendError 405 []))

-- the methods that are answered, and nothing else (section 9.3.7)
abbrev pub options : List ℕ → Work Next
options allow = set_status 204 (set_header (codes "allow") allow (Ends Done))

-- the work that there is, or else that the method isn't allowed
abbrev pub some_or_not_allowed : Option (Asked → Work Next) → List ℕ → Asked → Work Next
some_or_not_allowed None allow call = not_allowed allow
some_or_not_allowed (Some work) allow call = work call

abbrev pub by_verb : MethodWork → Verb → Asked → Work Next
by_verb m Get call = some_or_not_allowed m.get (allow_text m) call
by_verb m Post call = some_or_not_allowed m.post (allow_text m) call
by_verb m Put call = some_or_not_allowed m.put (allow_text m) call
by_verb m Delete call = some_or_not_allowed m.delete (allow_text m) call
by_verb m Options call = options (allow_text m)
by_verb m Other call = not_allowed (allow_text m)

-- the work of a servlet that answers by the method
abbrev pub by_method : MethodWork → Asked → Work Next
by_method m call = by_verb m (verb_of call.method) call
