-- The order of exact values, what each operation does to it, and 01's sentence on widths. Assumes nothing.
use mathlib.Core.Path.{◌≡◌, refl, sym, ap, ap₂, ◌∙◌, subst₂}
use mathlib.Core.Bool.{Bool, true, false}
use mathlib.Core.Logic.{◌↔◌}
use Prim.Native.Nat.{ℕ, suc, ◌+◌, ◌*◌, ◌^◌, ◌≤◌, ◌<◌, zero-le, suc-le-suc}
use native.Mathlib.Nat.{le_refl, le_trans, le_of_lt, le_of_eq, le_of_suc-le-suc, mul-one, one-mul, mul-le-mul, mul-le-mul_left, mul-le-mul_right, le_of_mul-le-mul_right, mul-mul-mul_comm, mul_right_comm, not-le_of_lt, lt_of_not-le, mul-pos, mul-lt-mul_of_pos_right, max-le, le-max_left, le-max_right}
use native.Mathlib.Omega.{arith}
use lib.Pow.{pow_pos, pow_mono, pow-add, pow-lt}
use borrow.Author.Tests.{leb-true, leb-false}
use Rattle.language.specs.declared.Exact.{Exact}
use Rattle.language.specs.Types.{IsAtLeast, IsAtMost, whole_of, log_of, plus_of, minus_of, not_above, greater_of, log_down, log_up, floor_of, ceil_of, width_of}
use Rattle.exact.proofs.Logs.{core}

-- ---- 01's sentence: the value is at least w exactly where its floor is, and at most w exactly where its ceil is

pub at_least : (x : Exact) (w : ℕ) → 0 < x.a → 0 < x.b → IsAtLeast x w ↔ (w + (floor_of x).down ≤ (floor_of x).up)
unfolding floor_of
at_least x w pa pb = (
  λ l. omega (arith, (core (w + x.down) x.up x.a x.b pa pb).0 l),
  λ l. (core (w + x.down) x.up x.a x.b pa pb).1 (omega arith),
)

pub at_most : (x : Exact) (w : ℕ) → 0 < x.a → 0 < x.b → IsAtMost x w ↔ ((ceil_of x).up ≤ w + (ceil_of x).down)
unfolding ceil_of
at_most x w pa pb = (
  λ l. omega (arith, (core x.up (w + x.down) x.b x.a pb pa).0 l),
  λ l. (core x.up (w + x.down) x.b x.a pb pa).1 (omega arith),
)

-- so the width is the floor, or 0: for a w above 0 it is at least w exactly where the value is, and it is at most w where the value is
pub width_meaning : (x : Exact) (w : ℕ) → 0 < x.a → 0 < x.b → 1 ≤ w → IsAtLeast x w ↔ (w ≤ width_of x)
unfolding width_of
width_meaning x w pa pb h = (λ l. omega (arith, (at_least x w pa pb).0 l), λ l. (at_least x w pa pb).1 (omega arith))

pub width_at_most : (x : Exact) (w : ℕ) → 0 < x.a → 0 < x.b → IsAtMost x w → width_of x ≤ w
width_at_most x w pa pb h =
    le_of_suc-le-suc (lt_of_not-le (λ g. not-le_of_lt (pow_down x.down w) (le_trans ((width_meaning x (suc w) pa pb (suc-le-suc zero-le)).1 g) h)))
  where
    pow_down : (d w : ℕ) → 2 ^ (w + d) * x.b < 2 ^ (suc w + d) * x.b
    pow_down d w = let l : w + d < suc w + d = omega arith in mul-lt-mul_of_pos_right (pow-lt l) pb

-- ---- the order

abbrev pub top : Exact → ℕ
top x = 2 ^ x.up * x.a

abbrev pub bottom : Exact → ℕ
bottom x = 2 ^ x.down * x.b

abbrev pub Pos : Exact → Type 0
Pos x = (0 < x.a) × (0 < x.b)

abbrev pub Below : Exact → Exact → Type 0
Below x y = top x * bottom y ≤ top y * bottom x

pub bottom_pos : (x : Exact) → Pos x → 0 < bottom x
bottom_pos x p = mul-pos (pow_pos x.down) p.1

four : (m n a b : ℕ) → 2 ^ (m + n) * (a * b) ≡ 2 ^ m * a * (2 ^ n * b)
four m n a b = ap (λ (x : ℕ). x * (a * b)) (pow-add 2 m n) ∙ mul-mul-mul_comm (2 ^ m) (2 ^ n) a b

pub below_true : (x y : Exact) → not_above x y ≡ true → Below x y
unfolding not_above
below_true x y e =
    subst₂ (λ (m n : ℕ). m ≤ n) (four x.up y.down x.a y.b) (four y.up x.down y.a x.b) (leb-true _ _ e)

pub below_false : (x y : Exact) → not_above x y ≡ false → Below y x
unfolding not_above
below_false x y e =
    le_of_lt (subst₂ (λ (m n : ℕ). m < n) (four y.up x.down y.a x.b) (four x.up y.down x.a y.b) (leb-false _ _ e))

pub below_trans : (x y z : Exact) → Pos y → Below x y → Below y z → Below x z
below_trans x y z p h k =
    le_of_mul-le-mul_right
    (le_trans (le_of_eq (mul_right_comm (top x) (bottom z) (bottom y)))
    (le_trans (mul-le-mul_right (bottom z) h)
    (le_trans (le_of_eq (mul_right_comm (top y) (bottom x) (bottom z)))
    (le_trans (mul-le-mul_right (bottom x) k) (le_of_eq (mul_right_comm (top z) (bottom y) (bottom x)))))))
    (bottom_pos y p)

-- ---- sums and differences

pub plus_grows : (x x' y y' : Exact) → Below x x' → Below y y' → Below (plus_of x y) (plus_of x' y')
plus_grows x x' y y' h k =
    subst₂ (λ (m n : ℕ). m ≤ n) (side x y x' y') (side x' y' x y) (mul-le-mul h k)
  where
    side : (x y x' y' : Exact) → top x * bottom x' * (top y * bottom y') ≡ top (plus_of x y) * bottom (plus_of x' y')
    side x y x' y' = mul-mul-mul_comm (top x) (bottom x') (top y) (bottom y') ∙ sym (ap₂ (λ (m n : ℕ). m * n) (four x.up y.up x.a y.a) (four x'.down y'.down x'.b y'.b))

pub minus_grows : (x x' y : Exact) → Below x x' → Below (minus_of x y) (minus_of x' y)
minus_grows x x' y h =
    subst₂ (λ (m n : ℕ). m ≤ n) (side x x') (side x' x) (mul-le-mul_right (bottom y * top y) h)
  where
    side : (x x' : Exact) → top x * bottom x' * (bottom y * top y) ≡ top (minus_of x y) * bottom (minus_of x' y)
    side x x' = mul-mul-mul_comm (top x) (bottom x') (bottom y) (top y) ∙ sym (ap₂ (λ (m n : ℕ). m * n) (four x.up y.down x.a y.b) (four x'.down y.up x'.b y.a))

pub number_grows : (m n : ℕ) → m ≤ n → Below (whole_of m 0) (whole_of n 0)
number_grows m n h = mul-le-mul_right 1 (mul-le-mul_right 1 (pow_mono h))

pub log_grows : (m n : ℕ) → m ≤ n → Below (log_of m) (log_of n)
log_grows m n h = mul-le-mul_right 1 (mul-le-mul_left 1 (max-le (le-max_left 2 n) (le_trans h (le-max_right 2 n))))

-- ---- whole numbers

whole_left : (u d : ℕ) (x : Exact) → Pos x → Below (whole_of u d) x ↔ (u + x.down + log_up x.b x.a ≤ x.up + d + log_down x.a x.b)
whole_left u d x p =
    let l : 2 ^ (u + x.down) * x.b ≡ top (whole_of u d) * bottom x = ap (λ (n : ℕ). 2 ^ (u + x.down) * n) (sym (one-mul x.b)) ∙ four u x.down 1 x.b in
    let r : 2 ^ (x.up + d) * x.a ≡ top x * bottom (whole_of u d) = ap (λ (n : ℕ). 2 ^ (x.up + d) * n) (sym (mul-one x.a)) ∙ four x.up d x.a 1 in
    let k = core (u + x.down) (x.up + d) x.a x.b p.0 p.1 in
    (λ h. k.0 (subst₂ (λ (m n : ℕ). m ≤ n) (sym l) (sym r) h), λ h. subst₂ (λ (m n : ℕ). m ≤ n) l r (k.1 h))

whole_right : (u d : ℕ) (x : Exact) → Pos x → Below x (whole_of u d) ↔ (x.up + d + log_up x.a x.b ≤ u + x.down + log_down x.b x.a)
whole_right u d x p =
    let l : 2 ^ (u + x.down) * x.b ≡ top (whole_of u d) * bottom x = ap (λ (n : ℕ). 2 ^ (u + x.down) * n) (sym (one-mul x.b)) ∙ four u x.down 1 x.b in
    let r : 2 ^ (x.up + d) * x.a ≡ top x * bottom (whole_of u d) = ap (λ (n : ℕ). 2 ^ (x.up + d) * n) (sym (mul-one x.a)) ∙ four x.up d x.a 1 in
    let k = core (x.up + d) (u + x.down) x.b x.a p.1 p.0 in
    (λ h. k.0 (subst₂ (λ (m n : ℕ). m ≤ n) (sym r) (sym l) h), λ h. subst₂ (λ (m n : ℕ). m ≤ n) r l (k.1 h))

pub wholes : (u d u' d' : ℕ) → u + d' ≤ u' + d → Below (whole_of u d) (whole_of u' d')
wholes u d u' d' h = subst₂ (λ (m n : ℕ). m ≤ n) (four u d' 1 1) (four u' d 1 1) (mul-le-mul_right 1 (pow_mono h))

pub wholes_back : (u d u' d' : ℕ) → Below (whole_of u d) (whole_of u' d') → u + d' ≤ u' + d
wholes_back u d u' d' h =
    le_of_suc-le-suc (lt_of_not-le (λ g.
    not-le_of_lt (subst₂ (λ (m n : ℕ). m < n) (sym (mul-one (2 ^ (u' + d))) ∙ four u' d 1 1) (sym (mul-one (2 ^ (u + d'))) ∙ four u d' 1 1) (pow-lt g)) h))

pub floor_grows : (x y : Exact) → Pos x → Pos y → Below x y → Below (floor_of x) (floor_of y)
unfolding floor_of
floor_grows x y p q h =
    let u = (floor_of x).up in
    let d = (floor_of x).down in
    let a : Below (floor_of x) x = (whole_left u d x p).1 (omega arith) in
    let b : Below (floor_of x) y = below_trans (floor_of x) x y p a h in
    wholes u d (floor_of y).up (floor_of y).down (omega (arith, (whole_left u d y q).0 b))

pub ceil_grows : (x y : Exact) → Pos x → Pos y → Below x y → Below (ceil_of x) (ceil_of y)
unfolding ceil_of
ceil_grows x y p q h =
    let u = (ceil_of y).up in
    let d = (ceil_of y).down in
    let a : Below y (ceil_of y) = (whole_right u d y q).1 (omega arith) in
    let b : Below x (ceil_of y) = below_trans x y (ceil_of y) q h a in
    wholes (ceil_of x).up (ceil_of x).down u d (omega (arith, (whole_right u d x p).0 b))

pub width_grows : (x y : Exact) → Pos x → Pos y → Below x y → width_of x ≤ width_of y
unfolding width_of floor_of
width_grows x y p q h =
    let k = wholes_back (floor_of x).up (floor_of x).down (floor_of y).up (floor_of y).down (floor_grows x y p q h) in
    omega arith

-- ---- the greater of two

pub greater_left : (x y : Exact) → Below x (greater_of x y)
unfolding greater_of
greater_left x y = go (not_above x y) refl
  where
    go : (t : Bool) → not_above x y ≡ t → Below x (elim t [ true ↦ y | false ↦ x ])
    go true e = below_true x y e
    go false e = le_refl _

pub greater_right : (x y : Exact) → Below y (greater_of x y)
unfolding greater_of
greater_right x y = go (not_above x y) refl
  where
    go : (t : Bool) → not_above x y ≡ t → Below y (elim t [ true ↦ y | false ↦ x ])
    go true e = le_refl _
    go false e = below_false x y e

pub greater_least : (x y z : Exact) → Below x z → Below y z → Below (greater_of x y) z
unfolding greater_of
greater_least x y z h k = go (not_above x y)
  where
    go : (t : Bool) → Below (elim t [ true ↦ y | false ↦ x ]) z
    go true = k
    go false = h

-- ---- what floor and ceil mean: a whole number is below x exactly where it is below x's floor, and above x exactly where it is above x's ceil

pub floor_meaning : (u d : ℕ) (x : Exact) → Pos x → Below (whole_of u d) x ↔ Below (whole_of u d) (floor_of x)
unfolding floor_of
floor_meaning u d x p = (
  λ h. wholes u d (floor_of x).up (floor_of x).down (omega (arith, (whole_left u d x p).0 h)),
  λ h. (whole_left u d x p).1 (omega (arith, wholes_back u d (floor_of x).up (floor_of x).down h)),
)

pub ceil_meaning : (u d : ℕ) (x : Exact) → Pos x → Below x (whole_of u d) ↔ Below (ceil_of x) (whole_of u d)
unfolding ceil_of
ceil_meaning u d x p = (
  λ h. wholes (ceil_of x).up (ceil_of x).down u d (omega (arith, (whole_right u d x p).0 h)),
  λ h. (whole_right u d x p).1 (omega (arith, wholes_back (ceil_of x).up (ceil_of x).down u d h)),
)
