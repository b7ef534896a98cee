-- The league.
use Rattle.std.specs.Prelude.{ℕ, List, [], ◌∷◌, ◌++◌, codes}
use Rattle.std.specs.List.{concat}
use Rattle.sv_servlet.specs.Call.{Asked}
use Rattle.sv_servlet.specs.declared.servlet.Next.{Next}
use Rattle.sv_web.specs.Page.{sent}
use Rattle.sv_web.specs.Work.{Work}
use Rattle.club_site.specs.Frame.{begun}
use Rattle.club_site.specs.Language.{say}
use Rattle.club_site.specs.declared.league.TheConstants.{TEAMS}
use Rattle.club_site.specs.declared.language.TheConstants.{LEAGUE, LEAGUE_DE}

abbrev pub page : Asked → List ℕ
page call = begun call (codes "league") (codes "") ++ concat (say call LEAGUE.now LEAGUE_DE.now ∷ TEAMS.now ∷ [])

abbrev pub league : Asked → Work Next
league call = sent (page call)
