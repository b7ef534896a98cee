-- What is known of keys.
use Rattle.sv_model.specs.declared.key.Key.{Key}
use Rattle.sv_model.specs.declared.state.KeyState.{KeyState}

-- a key, and what is known of it
abbrev pub Entry : Type 0
Entry = Key × KeyState
