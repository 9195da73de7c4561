-- The width that an item leaves, in the shape of the code. Assumes nothing: these are definitions.
use Rattle.std.specs.Prelude.{Bool, true, false, Option, Some, None, ◌&&◌, List, ℕ, ◌+◌, ◌*◌, ◌^◌, ◌≤◌, ◌<◌, max, eqb, leb, ltb, get_or}
use Rattle.language.specs.Limits.{limits}
use Rattle.language.specs.Values.{binary_width, unary_width, range_width}
use Rattle.plan.specs.declared.Item.{Item}
use Rattle.plan.specs.declared.Item.TheVariants.{Const, Port, Let, Cell, Range, Copies, Beside, Before, Between, Choice, Arm, Keep, Assign, Write, Bad}
use Rattle.plan.specs.Layout.{port_at, memory_width_at}
use Rattle.plan.specs.Sound.{Rules, input_ok, memory_ok, slot_width}

-- a width where a test holds, else none
abbrev pub width_if : Bool → ℕ → Option ℕ
width_if true w = Some w
width_if false w = None

-- the width of a `val`'s slot, where it was kept
abbrev pub kept_width : Rules → List ℕ → ℕ → Option ℕ
kept_width t ls k = width_if (ltb k limits.vals && leb (slot_width t ls k) limits.expressionWidth) (slot_width t ls k)

-- the width that an item leaves over x and y, the latest, if it leaves one
module _ (t : Rules) (ls : List ℕ) (x y : ℕ) where
  abbrev pub width_of : Item → Option ℕ
  width_of (Const w lo hi) = width_if (leb w limits.expressionWidth && ltb (lo + hi * 2 ^ 32) (2 ^ w)) w
  width_of (Port i) = width_if (input_ok t i) (port_at t.plan i)
  width_of (Let k) = kept_width t ls k
  width_of (Cell m f n) = width_if (memory_ok t m f n) (memory_width_at t.plan m)
  width_of (Range i j) = width_if (ltb i y && ltb j y) (range_width i j)
  width_of (Copies n w) = width_if (eqb y w && leb n limits.copies) (n * w)
  width_of (Beside w) = width_if (eqb y w) (x + y)
  width_of (Before u w) = width_if (eqb y w) (unary_width u w)
  width_of (Between o m n) = width_if (eqb x m && eqb y n) (binary_width o m n)
  width_of Choice = Some (max x y)
  width_of (Arm n k) = width_if (leb limits.vals k && leb (slot_width t ls k) limits.expressionWidth) (max x y)
  width_of (Keep k w) = None
  width_of (Assign p) = None
  width_of (Write m f n) = None
  width_of Bad = None

-- each of the first n widths is one that an expression may have
abbrev pub Wide : List ℕ → ℕ → Type 0
Wide s n = (k : ℕ) → k < n → get_or s k 0 ≤ limits.expressionWidth
