-- `value_vectors::within` meets its contract. Assumes nothing.
use mathlib.Core.Path.{◌≡◌, refl, ap, ◌∙◌}
use mathlib.Core.Bool.{Bool, true, false}
use Prim.Native.Nat.{ℕ, ◌%◌, ◌^◌, ◌<◌}
use native.Mathlib.Nat.{mod-lt, mod-eq_of_lt}
use native.Mathlib.Omega.{arith}
use lib.Dec.{eqb, ltb}
use lib.Pow.{pow_pos}
use borrow.Author.Tests.{ltb-true, ltb-false, eq-eqb, ne_eqb}
use Rattle.value_vectors.proofs.within.Goals as goal

-- a number is its low w bits exactly where it has no others
same_low : (w a : ℕ) (t : Bool) → ltb a (2 ^ w) ≡ t → eqb (a % 2 ^ w) a ≡ t
same_low w a true e = eq-eqb (a % 2 ^ w) a (mod-eq_of_lt (ltb-true a (2 ^ w) e))
same_low w a false e =
    let h : a % 2 ^ w < 2 ^ w = mod-lt a (pow_pos w) in
    ne_eqb (a % 2 ^ w) a (λ s. omega (arith, ltb-false a (2 ^ w) e))

pub returns : goal.returns
returns c = ap (λ (x : ℕ). eqb x c.args.a) c.low.ensures ∙ same_low c.args.w c.args.a (ltb c.args.a (2 ^ c.args.w)) refl
