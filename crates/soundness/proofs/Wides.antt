-- The widths that wait are each at most 64. Assumes nothing.
use Prim.Native.Nat.{ℕ, ◌+◌, ◌≤◌, ◌<◌}
use mathlib.Core.Path.{◌≡◌}
use mathlib.Core.List.{List}
use native.Mathlib.Omega.{arith}
use native.Mathlib.Decide.{dec_lt}
use lib.ListN.{length, get_or, set}
use lib.Seq.{get_or-set_same, get_or-set_other}
use Rattle.item_widths.specs.Widths.{Wide}
use Rattle.soundness.specs.Steps.{Standing}

pub wide_less : (s : List ℕ) (n m : ℕ) → m ≤ n → Wide s n → Wide s m
wide_less s n m h f = λ k j. f k (omega arith)

pub wide_push : (s : List ℕ) (n m w : ℕ) → m ≤ n → m < length s → w ≤ 64 → Wide s n → Wide (set s m w) (m + 1)
wide_push s n m w h q u f = λ k j. go k j (dec_lt k m)
  where
    go : (k : ℕ) → k < m + 1 → Dec (k < m) → get_or (set s m w) k 0 ≤ 64
    go k j (yes r) = rw (get_or-set_other s m k w 0 (omega arith)) (f k (omega arith))
    go k j (no r) = let e : k ≡ m = omega arith in rw (e, get_or-set_same s m w 0 q) u

-- fewer of the widths that wait stand as all of them do
pub stands_less : (s : List ℕ) (n m d : ℕ) → m ≤ n → Standing s n d → Standing s m d
stands_less s n m d h f = record { few = omega (arith, f.few); mask = f.mask; wide = wide_less s n m h f.wide }
