-- Who may see which page.
use Rattle.std.specs.Prelude.{ℕ, List, bytes_eq, codes, if◌then◌else◌}
use Rattle.sv_servlet.specs.Reply.{fault_name}
use Rattle.sv_servlet.specs.declared.filter.Before.{Before}
use Rattle.sv_servlet.specs.declared.filter.Before.TheVariants.{Pass, Stop}
use Rattle.sv_web.specs.Refusal.{fault_sent}
use Rattle.sv_web.specs.Work.{Ends, FilterWork, Looking, Redirect, Replying, Work}
use Rattle.club_site.specs.Kept.{is_member}

-- the login that leads to a page
abbrev pub login_for : List ℕ → List ℕ
login_for path = if bytes_eq path (codes "/upload") then codes "login?next=/upload" else codes "login?next=/courts"

-- the client goes on to an address
abbrev pub redirected : List ℕ → Work Before
redirected to = Replying (Redirect to) (Ends Stop) (λ fault. Ends (fault_sent (fault_name fault)))

abbrev pub guarding : FilterWork
guarding = record {
  before = λ call. Looking (λ e. if is_member e then Ends Pass else redirected (login_for call.servlet_path));
  after = λ call. Ends tt;
}
