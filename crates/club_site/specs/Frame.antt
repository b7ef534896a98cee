-- What stands above each page.
use Rattle.std.specs.Prelude.{ℕ, List, [], ◌∷◌, codes}
use Rattle.std.specs.List.{concat}
use Rattle.sv_servlet.specs.Call.{Asked}
use Rattle.sv_web.specs.Html.{escaped}
use Rattle.club_site.specs.Language.{say}
use Rattle.club_site.specs.declared.language.TheConstants.{LINKS, LINKS_DE}

-- the page of a name, up to the text that it says first
unfoldable pub begun : Asked → List ℕ → List ℕ → List ℕ
begun call here said =
    concat (codes "<!DOCTYPE html><meta charset=utf-8><title>Tennis</title><base href=\"" ∷ escaped call.context_path ∷ say call LINKS.now LINKS_DE.now ∷ here ∷ codes "\">English / Deutsch</a></nav><p role=status>" ∷ escaped said ∷ [])

-- a text that a form has, with the markup before it and after it
unfoldable pub around : List ℕ → List ℕ → List ℕ → List ℕ
around before text behind = concat (before ∷ escaped text ∷ behind ∷ [])
