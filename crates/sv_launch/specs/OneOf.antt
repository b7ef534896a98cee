-- Objects of one of two types.
use Rattle.sv_launch.specs.declared.one_of.OneOf.{OneOf}
use Rattle.sv_launch.specs.declared.one_of.OneOf.TheVariants.{First, Second}

-- what is said of an object of one of two types: what is said of it in its own type
abbrev pub one_of : {A B M : Type 0} → (A → M) → (B → M) → OneOf A B → M
one_of first second (First object) = first object
one_of first second (Second object) = second object
