-- The tables of a run. Assumes nothing: these are definitions.
use Rattle.std.specs.Prelude.{◌≡◌, ◌+◌, replicate}
use Rattle.language.specs.Limits.{limits}
use Rattle.input_bytes.specs.declared.tables.Tables.{Tables}

-- "memory starts at zeros"
abbrev pub empty_tables : Tables
empty_tables =
    record {
      actor = replicate (limits.actor + 1) 0;
      bindings = replicate (limits.bindings + 1) 0;
      plan = replicate 16_384 0;
      values = replicate limits.ports 0;
      outputs = replicate limits.ports 0;
      memory = replicate limits.cells 0;
      out = replicate 32_768 0;
    }

-- the texts and the plan are left as they were
pub record SameTexts (old new : Tables) : Type 0 where
  pub actor : new.actor ≡ old.actor
  pub bindings : new.bindings ≡ old.bindings
  pub plan : new.plan ≡ old.plan

-- all is left as it was but the bytes that wait to be written
pub record SameButOut (old new : Tables) : Type 0 where
  pub texts : SameTexts old new
  pub values : new.values ≡ old.values
  pub outputs : new.outputs ≡ old.outputs
  pub memory : new.memory ≡ old.memory
