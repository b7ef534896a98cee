use Rattle.sv_config.proofs.Prelude.{◌≡◌, ◌++◌, map, take, string_bytes}
use Rattle.sv_config.proofs.context.add_owned.Given as goal

abbrev pub invariant-loop-text : goal.invariant-loop-text
invariant-loop-text l =
    map string_bytes l.strings.items ≡ map string_bytes l.fn.strings.items ++ map (λ text. text.now) (take l.text-index l.texts)
