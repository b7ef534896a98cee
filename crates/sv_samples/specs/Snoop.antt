-- What the servlet does that shows what it is asked.
use Rattle.std.specs.Prelude.{ℕ, List, ◌++◌, codes, Option, unwrap_or}
use Rattle.std.specs.List.{flat_map}
use Rattle.sv_model.specs.declared.request.Param.{Param}
use Rattle.sv_servlet.specs.Call.{Asked}
use Rattle.sv_servlet.specs.declared.servlet.Next.{Next}
use Rattle.sv_servlet.specs.declared.servlet.Next.TheVariants.{Done}
use Rattle.sv_web.specs.Steps.{plain_text, written}
use Rattle.sv_web.specs.Work.{Work}

-- `name=value` on a line of its own
unfoldable pub line : List ℕ → List ℕ → List ℕ
line name value = name ++ codes "=" ++ value ++ codes "\n"

-- a dash where there is none
abbrev pub or_dash : Option (List ℕ) → List ℕ
or_dash value = unwrap_or value (codes "-")

-- the URI and the context path
unfoldable pub address_lines : List ℕ → List ℕ → List ℕ
address_lines uri context_path = line (codes "request_uri") uri ++ line (codes "context_path") context_path

-- the paths within the context, and the query
unfoldable pub path_lines : Asked → List ℕ
path_lines c = line (codes "servlet_path") c.servlet_path ++ line (codes "path_info") (or_dash c.path_info) ++ line (codes "query") (or_dash c.query)

abbrev pub parameter_line : Param → List ℕ
parameter_line p = codes "p " ++ line p.name p.value

abbrev pub attribute_line : List ℕ × List ℕ → List ℕ
attribute_line a = codes "a " ++ line a.0 a.1

-- the method, the paths and the query, then the parameters in order, and the attributes in order of their names
abbrev pub call_text : Asked → List ℕ
call_text c =
    line (codes "method") c.method ++ address_lines c.request_uri c.context_path ++ path_lines c ++ flat_map parameter_line c.params
    ++ flat_map attribute_line c.attributes

abbrev pub snoop : Asked → Work Next
snoop c = plain_text (written (call_text c) Done)
