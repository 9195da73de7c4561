-- The room that exact values leave, so that nothing overflows, and a bit position as code has it. Assumes nothing: these are definitions.
use Rattle.std.proofs.Math.Option.{Option, none, some}
use Rattle.std.specs.Prelude.{ℕ, ◌+◌, ◌*◌, ◌^◌, ◌<◌, Option as RtOption, Some, None}
use Rattle.language.specs.declared.Exact.{Exact}

-- a value that floor and ceil take
pub record Space (x : Exact) : Type 0 where
  pub a_some : 0 < x.a
  pub b_some : 0 < x.b
  pub high : x.up + 64 < 2 ^ 64
  pub low : x.down + 64 < 2 ^ 64

-- two values that any node can join
pub record Room (x y : Exact) : Type 0 where
  pub uu : x.up + y.up < 2 ^ 64
  pub dd : x.down + y.down < 2 ^ 64
  pub ud : x.up + y.down < 2 ^ 64
  pub du : x.down + y.up < 2 ^ 64
  pub aa : x.a * y.a < 2 ^ 64
  pub bb : x.b * y.b < 2 ^ 64
  pub ab : x.a * y.b < 2 ^ 64
  pub ba : x.b * y.a < 2 ^ 64

-- a bit position below zero is outside: None in code
abbrev pub positioned : Option ℕ → RtOption ℕ
positioned none = None
positioned (some n) = Some n
