-- What is active by a snapshot.
use Rattle.std.proofs.Common.{◌≡◌, ◌∙◌, ℕ, Option, Some, None, refl, ap, List, [], ◌∷◌, ◌++◌, map}
use Rattle.std.specs.List.{flat_map}
use Rattle.std.specs.FinMap.{entries}
use Rattle.sv_core.specs.Snapshot.{snapshot_of, head_by, state_record}
use Rattle.sv_model.specs.NodeState.{Durable}
use Rattle.sv_model.specs.declared.key.Key.{Key}
use Rattle.sv_model.specs.declared.state.KeyState.{KeyState}
use Rattle.sv_control.specs.Left.{active_at, active_in, active_of, if_active}

states_active : (es : List (Key × KeyState)) → flat_map active_at (map state_record es) ≡ flat_map (λ (e : Key × KeyState). if_active e.0 e.1) es
states_active [] = refl
states_active (e ∷ es) = ap (λ ks. if_active e.0 e.1 ++ ks) (states_active es)

head_inactive : (home : Option ℕ) (boot next : ℕ) → active_at (head_by home boot next) ≡ []
head_inactive None boot next = refl
head_inactive (Some home) boot next = refl

pub snapshot_active : (d : Durable) → active_in (snapshot_of d) ≡ active_of d
snapshot_active d = ap (λ ks. ks ++ flat_map active_at (map state_record (entries d.keys))) (head_inactive d.home d.boot d.next) ∙ states_active (entries d.keys)
