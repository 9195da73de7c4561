-- What the code's stack of values holds. Assumes nothing: this is a definition.
use Rattle.std.specs.Prelude.{List}
use Rattle.language.specs.declared.Exact.{Exact}
use Rattle.type_value.specs.declared.Waiting.{Waiting}
use Rattle.type_value.specs.Walk.{waiting}

-- the values that wait, the last one first
abbrev pub held : Waiting → List Exact
held w = waiting w.values w.n
