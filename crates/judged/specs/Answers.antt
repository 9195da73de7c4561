-- The numbers of a cycle's answers. Assumes nothing: these are definitions.
use Rattle.std.specs.Prelude.{ℕ}
use Rattle.judged.specs.declared.Refusal.{Refusal}
use Rattle.judged.specs.declared.Refusal.TheVariants.{Unsound, Miscounted, Unfit, Unmatched, Ambiguous, Clash}

-- "20 plan not sound; 21 values or outputs not one per port, or memory not one per cell; 22 a mask bit past the ports, a present input or a cell that doesn't fit; 23 no rule matches,
-- 24 two or more match; 25 two writes to the same existing cell"
abbrev pub number_of : Refusal → ℕ
number_of Unsound = 20
number_of Miscounted = 21
number_of Unfit = 22
number_of Unmatched = 23
number_of Ambiguous = 24
number_of Clash = 25

-- the number where it is accepted
abbrev pub accepted : ℕ
accepted = 0
