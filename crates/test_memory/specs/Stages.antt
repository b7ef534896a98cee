-- The objects of a dispatch that is tried by itself.
use Rattle.std.specs.Prelude.{◌≡◌, ◌∷◌, [], List}
use Rattle.sv_dispatch.specs.declared.hosted.Hosted.{Hosted}

-- this object alone, which is marked as ready
abbrev pub IsOne : {O : Type 0} → O → List (Hosted O) → Type 0
IsOne {O} object all = (h : Hosted O) × (all ≡ h ∷ []) × (h.object ≡ object)
