use Rattle.sv_mapping.proofs.Prelude.{◌≡◌, ◌+◌, ◌<◌, length, drop, map, string_bytes, option_map, chosen_context}
use Rattle.std.specs.Option.{ForSome}
use Rattle.sv_mapping.proofs.context.choose_context.Given as goal

abbrev pub invariant-loop-place : goal.invariant-loop-place
invariant-loop-place l = record {
  within : ForSome l.chosen (λ k. k < length l.contexts);
  chosen : l.chosen ≡ option_map (λ k. l.place + k) (chosen_context (drop l.place (map string_bytes l.contexts)) l.path);
}
