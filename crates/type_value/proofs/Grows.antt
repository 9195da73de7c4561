-- The value of a type grows with the ports' widths. Assumes nothing.
use mathlib.Core.Path.{◌≡◌, refl, ap, ap₂}
use mathlib.Core.Bool.{Bool, true, false}
use mathlib.Core.List.{List}
use Prim.Native.Nat.{ℕ, ◌≤◌}
use native.Mathlib.Nat.{le_refl, le_trans, zero-lt-suc, mul-pos, le-max_left}
use lib.Dec.{lit≤}
use lib.ListN.{get_or}
use Rattle.language.specs.declared.Exact.{Exact}
use Rattle.language.specs.Types.{plus_of, minus_of, log_of, floor_of, ceil_of, greater_of, not_above, width_of}
use Rattle.type_value.specs.Terms.{Term, number, port, log, floor, ceil, plus, minus, greater, value_at, Closed, Fine}
use Rattle.type_value.proofs.Order.{Pos, Below, below_trans, plus_grows, minus_grows, number_grows, log_grows, floor_grows, ceil_grows, width_grows, greater_left, greater_right, greater_least}

pub greater_positive : (x y : Exact) → Pos x → Pos y → Pos (greater_of x y)
unfolding greater_of
greater_positive x y p q = go (not_above x y)
  where
    go : (b : Bool) → Pos (elim b [ true ↦ y | false ↦ x ])
    go true = q
    go false = p

-- every value has its a and b above zero
pub positive : (ws : List ℕ) (t : Term) → Pos (value_at ws t)
unfolding value_at floor_of ceil_of
positive ws (number n) = (zero-lt-suc 0, zero-lt-suc 0)
positive ws (port i) = (zero-lt-suc 0, zero-lt-suc 0)
positive ws (log s) = (le_trans (lit≤ {m = 1} {n = 2} tt) (le-max_left 2 (width_of (value_at ws s))), zero-lt-suc 0)
positive ws (floor s) = (zero-lt-suc 0, zero-lt-suc 0)
positive ws (ceil s) = (zero-lt-suc 0, zero-lt-suc 0)
positive ws (plus s t) = (mul-pos (positive ws s).0 (positive ws t).0, mul-pos (positive ws s).1 (positive ws t).1)
positive ws (minus s t) = (mul-pos (positive ws s).0 (positive ws t).1, mul-pos (positive ws s).1 (positive ws t).0)
positive ws (greater s t) = greater_positive (value_at ws s) (value_at ws t) (positive ws s) (positive ws t)

-- what names no port is the same at all widths
pub fixed : (ws vs : List ℕ) (t : Term) → Closed t → value_at ws t ≡ value_at vs t
unfolding value_at
fixed ws vs (number n) c = refl
fixed ws vs (port i) c = absurd c
fixed ws vs (log s) c = ap (λ (x : Exact). log_of (width_of x)) (fixed ws vs s c)
fixed ws vs (floor s) c = ap floor_of (fixed ws vs s c)
fixed ws vs (ceil s) c = ap ceil_of (fixed ws vs s c)
fixed ws vs (plus s t) c = ap₂ plus_of (fixed ws vs s c.0) (fixed ws vs t c.1)
fixed ws vs (minus s t) c = ap₂ minus_of (fixed ws vs s c.0) (fixed ws vs t c.1)
fixed ws vs (greater s t) c = ap₂ greater_of (fixed ws vs s c.0) (fixed ws vs t c.1)

abbrev pub Under : List ℕ → List ℕ → Type 0
Under ws vs = (i : ℕ) → get_or ws i 0 ≤ get_or vs i 0

pub grows : (n : ℕ) (ws vs : List ℕ) → Under ws vs → (t : Term) → Fine n t → Below (value_at ws t) (value_at vs t)
unfolding value_at
grows n ws vs h (number k) g = le_refl _
grows n ws vs h (port i) g = number_grows (get_or ws i 0) (get_or vs i 0) (h i)
grows n ws vs h (log s) g =
    log_grows (width_of (value_at ws s)) (width_of (value_at vs s)) (width_grows (value_at ws s) (value_at vs s) (positive ws s) (positive vs s) (grows n ws vs h s g.0))
grows n ws vs h (floor s) g = floor_grows (value_at ws s) (value_at vs s) (positive ws s) (positive vs s) (grows n ws vs h s g.0)
grows n ws vs h (ceil s) g = ceil_grows (value_at ws s) (value_at vs s) (positive ws s) (positive vs s) (grows n ws vs h s g.0)
grows n ws vs h (plus s t) g = plus_grows (value_at ws s) (value_at vs s) (value_at ws t) (value_at vs t) (grows n ws vs h s g.0) (grows n ws vs h t g.1)
grows n ws vs h (minus s t) g = rw (fixed ws vs t g.2) (minus_grows (value_at ws s) (value_at vs s) (value_at vs t) (grows n ws vs h s g.0))
grows n ws vs h (greater s t) g =
    let z = greater_of (value_at vs s) (value_at vs t) in
    greater_least (value_at ws s) (value_at ws t) z
    (below_trans (value_at ws s) (value_at vs s) z (positive vs s) (grows n ws vs h s g.0) (greater_left (value_at vs s) (value_at vs t)))
    (below_trans (value_at ws t) (value_at vs t) z (positive vs t) (grows n ws vs h t g.1) (greater_right (value_at vs s) (value_at vs t)))

pub widths_grow : (n : ℕ) (ws vs : List ℕ) → Under ws vs → (t : Term) → Fine n t → width_of (value_at ws t) ≤ width_of (value_at vs t)
widths_grow n ws vs h t g = width_grows (value_at ws t) (value_at vs t) (positive ws t) (positive vs t) (grows n ws vs h t g)
