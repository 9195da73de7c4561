-- What the code's arms know of an operator. Assumes nothing.
use mathlib.Core.Path.{◌≡◌}
use mathlib.Core.List.{List, [], ◌∷◌, map}
use Prim.Native.Nat.{ℕ, zero, suc}
use native.Mathlib.Omega.{arith}
use lib.ListN.{get_or}
use Rattle.language.specs.declared.Binary.{Binary}
use Rattle.language.specs.declared.Binary.TheVariants.{Multiply, Divide, Remainder, Add, Subtract, Left, Right, Less, AtMost, Greater, AtLeast, Equal, Unequal, And, NotAnd, Xor, NotXor, Or, NotOr, Both, Either}
use Rattle.plan.specs.declared.Item.TheVariants.{Between, Bad}
use Rattle.plan.specs.Items.{binary_item}

-- ---- operators

abbrev binaries : List Binary
binaries = Multiply ∷ Divide ∷ Remainder ∷ Add ∷ Subtract ∷ Left ∷ Right ∷ Less ∷ AtMost ∷ Greater ∷ AtLeast ∷ Equal ∷ Unequal ∷ And ∷ NotAnd ∷ Xor ∷ NotXor ∷ Or ∷ NotOr ∷ Both ∷ Either ∷ []

-- an operator between its operands keeps their widths
pub same_widths : (a m n : ℕ) (o : Binary) (x y : ℕ) → binary_item a m n ≡ Between o x y → (x ≡ m) × (y ≡ n)
unfolding binary_item
same_widths a m n o x y e = go binaries a e
  where
    go : (l : List Binary) (k : ℕ) → get_or (map (λ b. Between b m n) l) k Bad ≡ Between o x y → (x ≡ m) × (y ≡ n)
    go [] k f = absurd (let z : ◌≡◌ {A = ℕ} 0 1 = cc in omega arith)
    go (b ∷ l) zero f = (cc, cc)
    go (b ∷ l) (suc k) f = go l k f
