-- Servlets whose patterns are mapped one after another.
use Rattle.sv_config.proofs.Prelude.{◌≡◌, ℕ, ◌+◌, ◌<◌, List, length, map, drop, get_or, Bor, String, BTreeMap, Global, codes, fold, drop_more, table_view}
use Rattle.sv_config.proofs.Prelude.{Value, texts_at, mapped_from, with_pattern}
use Rattle.sv_mapping.specs.Mappings.{Table}

pub mapped_next : (servlets : List (Bor (BTreeMap (String Global) Value))) (i : ℕ) (d : Bor (BTreeMap (String Global) Value)) (table : Table) → i < length servlets
    → mapped_from i (map (λ t. table_view t.now) (drop i servlets)) table
    ≡ mapped_from (i + 1) (map (λ t. table_view t.now) (drop (i + 1) servlets)) (fold (with_pattern i) table (texts_at (codes "patterns") (table_view (get_or servlets i d).now)))
mapped_next servlets i d table within = rw (drop_more servlets i d within)
