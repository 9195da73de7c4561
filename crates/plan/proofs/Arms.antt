-- What an arm of a `match` knows of an item: the last one, that it is none of those named before; one of sound code, that it is not bad. Assumes nothing.
use mathlib.Core.Path.{◌≡◌, refl, sym, ◌∙◌}
use mathlib.Core.Bool.{Bool, true, false}
use Prim.Native.Nat.{ℕ}
use lib.Dec.{eqb}
use Rattle.plan.specs.declared.Item.{Item}
use Rattle.plan.specs.declared.Item.TheVariants.{Const, Port, Let, Cell, Range, Copies, Beside, Before, Between, Choice, Arm, Keep, Assign, Write, Bad}
use Rattle.plan.specs.Items.{unused}
use Rattle.plan.specs.Items.{acts_of}

-- all but Keep, Assign and Write
pub leaves : (i : Item) → ((k w : ℕ) → i ≡ Keep k w → ⊥) → ((p : ℕ) → i ≡ Assign p → ⊥) → ((m f n : ℕ) → i ≡ Write m f n → ⊥) → acts_of i ≡ false
leaves (Const w lo hi) h a w' = refl
leaves (Port i) h a w = refl
leaves (Let k) h a w = refl
leaves (Cell m f n) h a w = refl
leaves (Range i j) h a w = refl
leaves (Copies n v) h a w = refl
leaves (Beside v) h a w = refl
leaves (Before u v) h a w = refl
leaves (Between o m n) h a w = refl
leaves Choice h a w = refl
leaves (Arm n k) h a w = refl
leaves (Keep k v) h a w = absurd (h k v refl)
leaves (Assign p) h a w = absurd (a p refl)
leaves (Write m f n) h a w = absurd (w m f n refl)
leaves Bad h a w = refl

-- ---- an item with an operand that is not used: it is the item, where it is not bad

pub used : (n : ℕ) (i : Item) → (unused n i ≡ Bad → ⊥) → i ≡ unused n i
used n i h = go (eqb n 0) h
  where
    go : (b : Bool) → (elim b [ true ↦ i | false ↦ Bad ] ≡ Bad → ⊥) → i ≡ elim b [ true ↦ i | false ↦ Bad ]
    go true k = refl
    go false k = absurd (k refl)

pub used_2 : (b c : ℕ) (i : Item) → (unused b (unused c i) ≡ Bad → ⊥) → i ≡ unused b (unused c i)
used_2 b c i h = let e = used b (unused c i) h in used c i (λ z. h (sym e ∙ z)) ∙ e

pub used_3 : (a b c : ℕ) (i : Item) → (unused a (unused b (unused c i)) ≡ Bad → ⊥) → i ≡ unused a (unused b (unused c i))
used_3 a b c i h = let e = used a (unused b (unused c i)) h in used_2 b c i (λ z. h (sym e ∙ z)) ∙ e
