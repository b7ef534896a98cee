use Rattle.sv_mapping.proofs.Prelude.{length}
use Rattle.std.specs.Str.{IsUtf8}
use Rattle.sv_mapping.proofs.PrefixLemmas.{IsRooted, SearchedDownTo}
use Rattle.sv_mapping.proofs.mappings.Mappings.by_prefix.Given as goal

abbrev pub invariant-loop-servlet : goal.invariant-loop-servlet
invariant-loop-servlet l = record {
  text : IsUtf8 l.front;
  rooted : IsRooted l.path;
  searched : SearchedDownTo l.self l.path l.front;
}

abbrev pub decreases-loop-servlet : goal.decreases-loop-servlet
decreases-loop-servlet l = length l.front
