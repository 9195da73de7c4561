-- 01's sentence on the width of a type, for any type at any widths: it is at least w exactly where the type's value is, and no other number is so. Assumes nothing.
use mathlib.Core.Path.{◌≡◌}
use mathlib.Core.List.{List}
use mathlib.Core.Logic.{◌↔◌}
use Prim.Native.Nat.{ℕ, zero, suc, ◌≤◌, ◌<◌, zero-le, suc-le-suc}
use native.Mathlib.Nat.{le_refl, le_trans, le_antisymm, zero-lt-suc, mul-pos, le-max_left}
use lib.Dec.{lit≤}
use Rattle.language.specs.declared.Exact.{Exact}
use Rattle.language.specs.Tree.{Ty, number, environment, port, plus, minus, log, ceil, floor, most, entry, within, Actor}
use Rattle.language.specs.Bindings.{Bindings}
use Rattle.language.specs.Types.{IsAtLeast, floor_of, ceil_of, width_of, exact_of}
use Rattle.language.specs.Widths.{value_in, port_width, type_width}
use Rattle.type_value.proofs.Order.{Pos, width_meaning}
use Rattle.type_value.proofs.Grows.{greater_positive}

-- the arguments of the added logs, and of the subtracted ones, never multiply to zero
pub exact_positive : (widths values : List ℕ → ℕ) (t : Ty) → Pos (exact_of widths values t)
unfolding exact_of floor_of ceil_of
exact_positive widths values (number n) = (zero-lt-suc 0, zero-lt-suc 0)
exact_positive widths values (environment n) = (zero-lt-suc 0, zero-lt-suc 0)
exact_positive widths values (port n) = (zero-lt-suc 0, zero-lt-suc 0)
exact_positive widths values (plus s t) =
    let p = exact_positive widths values s in
    let q = exact_positive widths values t in
    (mul-pos p.0 q.0, mul-pos p.1 q.1)
exact_positive widths values (minus s t) =
    let p = exact_positive widths values s in
    let q = exact_positive widths values t in
    (mul-pos p.0 q.1, mul-pos p.1 q.0)
exact_positive widths values (log p t) = (le_trans (lit≤ {m = 1} {n = 2} tt) (le-max_left 2 (width_of (exact_of widths values t))), zero-lt-suc 0)
exact_positive widths values (ceil p t) = (zero-lt-suc 0, zero-lt-suc 0)
exact_positive widths values (floor p t) = (zero-lt-suc 0, zero-lt-suc 0)
exact_positive widths values (most p t) = exact_positive widths values t
exact_positive widths values (entry s t) = greater_positive (exact_of widths values s) (exact_of widths values t) (exact_positive widths values s) (exact_positive widths values t)
exact_positive widths values (within p t) = exact_positive widths values t

-- "The value is at least w exactly when 2^k times A is at least 2^w times B": of a type's width, for each w above 0
pub width_sentence : (a : Actor) (b : Bindings) (ws : List ℕ) (t : Ty) (w : ℕ) → 1 ≤ w → IsAtLeast (exact_of (port_width a ws) (value_in b.values) t) w ↔ (w ≤ type_width a b ws t)
unfolding type_width
width_sentence a b ws t w h =
    let x = exact_of (port_width a ws) (value_in b.values) t in
    let p = exact_positive (port_width a ws) (value_in b.values) t in
    width_meaning x w p.0 p.1 h

-- what is no less than any number above 0 that another is no less than
not_less : (u v : ℕ) → ((w : ℕ) → 1 ≤ w → w ≤ u → w ≤ v) → u ≤ v
not_less zero v f = zero-le
not_less (suc u) v f = f (suc u) (suc-le-suc zero-le) (le_refl (suc u))

-- and the sentence leaves the width no choice
pub width_only : (x : Exact) (v : ℕ) → 0 < x.a → 0 < x.b → ((w : ℕ) → 1 ≤ w → IsAtLeast x w ↔ (w ≤ v)) → v ≡ width_of x
width_only x v pa pb f =
    le_antisymm (not_less v (width_of x) (λ w h l. (width_meaning x w pa pb h).0 ((f w h).1 l)))
    (not_less (width_of x) v (λ w h l. (f w h).0 ((width_meaning x w pa pb h).1 l)))
