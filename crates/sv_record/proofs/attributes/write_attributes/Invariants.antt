use Rattle.std.proofs.Common.{◌≡◌, ◌≤◌, ◌++◌, length, take, true}
use Rattle.std.specs.Int.{w16, to_be_bytes}
use Rattle.std.specs.List.{flat_map, AllByRecursion}
use Rattle.std.specs.Str.{is_utf8}
use Rattle.sv_model.specs.declared.session.TheConstants.{NAME_LIMIT, VALUE_LIMIT}
use Rattle.sv_record.proofs.WrittenLemmas.{attribute_text}
use Rattle.sv_record.proofs.attributes.write_attributes.Given as goal

abbrev pub invariant-loop-name : goal.invariant-loop-name
invariant-loop-name l = record {
  written : l.out.items ++ flat_map attribute_text l.name-iterator ≡ l.fn.out.items ++ to_be_bytes w16 (length l.all) ++ flat_map attribute_text l.all;
  kept : take (length l.fn.out.items) l.out.items ≡ l.fn.out.items;
  small : AllByRecursion (λ a. (length a.0 ≤ NAME_LIMIT) × (length a.1 ≤ VALUE_LIMIT)) l.name-iterator;
  texts : AllByRecursion (λ a. is_utf8 a.0 ≡ true) l.name-iterator → AllByRecursion (λ a. is_utf8 a.0 ≡ true) l.all;
}
