-- The filter that guards the pages.
use Rattle.std.specs.Prelude.{ℕ, ◌&&◌, ◌||◌, not, Bool, true, false, List, bytes_eq, codes}
use Rattle.std.specs.Prelude.{drop, length, nat_le, take, Option, Some, None, if◌then◌else◌}
use Rattle.sv_model.specs.declared.field.Field.{Field}
use Rattle.sv_session.specs.Fault.{fault_name as session_fault_name}
use Rattle.sv_servlet.specs.Call.{Asked}
use Rattle.sv_servlet.specs.Reply.{fault_name as reply_fault_name}
use Rattle.sv_servlet.specs.declared.filter.Before.{Before}
use Rattle.sv_servlet.specs.declared.filter.Before.TheVariants.{Pass, SendError}
use Rattle.sv_web.specs.Attributes.{has_session}
use Rattle.sv_web.specs.Header.{header}
use Rattle.sv_web.specs.Refusal.{fault_sent}
use Rattle.sv_web.specs.Request.{field, is_post}
use Rattle.sv_web.specs.Work.{Ends, FilterWork, Looking, Replying, SetField, Work}
use Rattle.example_servlets.specs.declared.guard.TheConstants.{POLICY}
use Rattle.example_servlets.specs.Visits.{counted}

unfoldable pub policy : Field
policy = header (codes "content-security-policy") POLICY.now

unfoldable pub no_sniffing : Field
no_sniffing = header (codes "x-content-type-options") (codes "nosniff")

unfoldable pub no_store : Field
no_store = header (codes "cache-control") (codes "no-store")

-- the origin begins with a scheme, and goes on as a host
abbrev pub is_at : List ℕ → List ℕ → List ℕ → Bool
is_at origin scheme host =
    nat_le (length scheme) (length origin) && bytes_eq (take (length scheme) origin) scheme && bytes_eq (drop (length scheme) origin) host

abbrev pub is_elsewhere_than : Option (List ℕ) → List ℕ → Bool
is_elsewhere_than None origin = true
is_elsewhere_than (Some host) origin = not (is_at origin (codes "http://") host || is_at origin (codes "https://") host)

-- the origin is another than the host that is asked
abbrev pub is_elsewhere : List Field → List ℕ → Bool
is_elsewhere fields origin = is_elsewhere_than (field fields (codes "host")) origin

abbrev pub has_foreign_origin : List Field → Option (List ℕ) → Bool
has_foreign_origin fields None = false
has_foreign_origin fields (Some origin) = is_elsewhere fields origin

abbrev pub is_foreign_by : List Field → Option (List ℕ) → Bool
is_foreign_by fields None = has_foreign_origin fields (field fields (codes "origin"))
is_foreign_by fields (Some site) = not (bytes_eq site (codes "same-origin") || bytes_eq site (codes "none"))

-- the request comes from a page of another site, as the browser says by `Sec-Fetch-Site`, or else by `Origin`
abbrev pub is_foreign : List Field → Bool
is_foreign fields = is_foreign_by fields (field fields (codes "sec-fetch-site"))

-- a field is set before a servlet
abbrev pub setting : Field → Work Before → Work Before
setting f more = Replying (SetField f) more (λ fault. Ends (fault_sent (reply_fault_name fault)))

-- a form of another site is refused
abbrev pub admitted : Asked → Before
admitted call =
    if is_post call.method && is_foreign call.fields then SendError 403 (codes "This form was sent by a page of another site.") else Pass

-- every answer has the fields
unfoldable pub guarded : Asked → Work Before
guarded call = setting policy (setting no_sniffing (Ends (admitted call)))

-- each request of a session counts as a page that it is shown, by this node
abbrev pub arrived : ℕ → Work Before → Work Before
arrived node more = Looking (λ e. if has_session e then counted node more (λ fault. Ends (fault_sent (session_fault_name fault))) else more)

-- no cache is to keep the page, where the field fits
unfoldable pub unstored : Work (Unit {0})
unstored = Replying (SetField no_store) (Ends tt) (λ fault. Ends tt)

-- what has a session is kept by no cache
abbrev pub stored : Work (Unit {0})
stored = Looking (λ e. if has_session e then unstored else Ends tt)

abbrev pub guarding : ℕ → FilterWork
guarding node = record { before = λ call. arrived node (guarded call); after = λ call. stored }
