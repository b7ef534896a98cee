mod RequestLemmas
mod ScriptLemmas
