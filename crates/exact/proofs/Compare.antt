-- Two products by powers of two compared with nothing multiplied. Assumes nothing.
use mathlib.Core.Path.{◌≡◌, refl, sym, ap, ◌∙◌, subst}
use mathlib.Core.Logic.{◌↔◌}
use Prim.Native.Nat.{ℕ, zero, suc, ◌-◌, ◌*◌, ◌/◌, ◌^◌, ◌≤◌, ◌<◌}
use native.Mathlib.Nat.{lt_of_lt_of_le, mul_assoc, mul_comm, mul-le-mul_left, le_of_mul-le-mul_left, div-lt_iff_lt-mul, le-div_iff_mul-le, div-eq_of_lt, mul-zero}
use native.Mathlib.Decide.{dec_le}
use native.Mathlib.Omega.{arith}
use lib.Dec.{leb, ltb, eqb, leb-suc-zero, eqb-suc-zero}
use lib.Pow.{pow_pos, pow_mono, pow-add}
use borrow.Author.Tests.{le-leb, lt-leb}

-- two tests that say the same are the same
pub same_test : (i j k l : ℕ) → (i ≤ j → k ≤ l) → (k ≤ l → i ≤ j) → leb i j ≡ leb k l
same_test i j k l f g = go (dec_le k l)
  where
    go : Dec (k ≤ l) → leb i j ≡ leb k l
    go (yes h) = le-leb i j (g h) ∙ sym (le-leb k l h)
    go (no n) = lt-leb i j (native.Mathlib.Nat.lt_of_not-le (λ h. n (f h))) ∙ sym (lt-leb k l (native.Mathlib.Nat.lt_of_not-le n))

-- the smaller exponent goes away
factor : (p q b : ℕ) → p ≤ q → 2 ^ q * b ≡ 2 ^ p * (2 ^ (q - p) * b)
factor p q b h =
    ap (λ (n : ℕ). 2 ^ n * b) (sym (native.Mathlib.Nat.add-sub_of_le h)) ∙ ap (λ (n : ℕ). n * b) (pow-add 2 p (q - p)) ∙ mul_assoc (2 ^ p) (2 ^ (q - p)) b

drop_left : (p q a b : ℕ) → p ≤ q → (2 ^ p * a ≤ 2 ^ q * b) ↔ (a ≤ 2 ^ (q - p) * b)
drop_left p q a b h = (
  λ l. le_of_mul-le-mul_left (subst (λ (n : ℕ). 2 ^ p * a ≤ n) (factor p q b h) l) (pow_pos p),
  λ l. subst (λ (n : ℕ). 2 ^ p * a ≤ n) (sym (factor p q b h)) (mul-le-mul_left (2 ^ p) l),
)

drop_right : (p q a b : ℕ) → q ≤ p → (2 ^ p * a ≤ 2 ^ q * b) ↔ (2 ^ (p - q) * a ≤ b)
drop_right p q a b h = (
  λ l. le_of_mul-le-mul_left (subst (λ (n : ℕ). n ≤ 2 ^ q * b) (factor q p a h) l) (pow_pos q),
  λ l. subst (λ (n : ℕ). n ≤ 2 ^ q * b) (sym (factor q p a h)) (mul-le-mul_left (2 ^ q) l),
)

pub cmp_up : (p q a b : ℕ) → p ≤ q → 0 < a → ltb ((a - 1) / 2 ^ (q - p)) b ≡ leb (2 ^ p * a) (2 ^ q * b)
cmp_up p q a b h pos =
    same_test (suc ((a - 1) / 2 ^ (q - p))) b (2 ^ p * a) (2 ^ q * b)
    (λ l. (drop_left p q a b h).1 (flip ((div-lt_iff_lt-mul (pow_pos (q - p))).0 l)))
    (λ l. (div-lt_iff_lt-mul (pow_pos (q - p))).1 (flop ((drop_left p q a b h).0 l)))
  where
    flip : a - 1 < b * 2 ^ (q - p) → a ≤ 2 ^ (q - p) * b
    flip l = omega (arith, mul_comm b (2 ^ (q - p)))

    flop : a ≤ 2 ^ (q - p) * b → a - 1 < b * 2 ^ (q - p)
    flop l = omega (arith, mul_comm b (2 ^ (q - p)))

pub cmp_up_far : (p q a b : ℕ) → p ≤ q → 0 < a → a < 2 ^ 64 → 64 ≤ q - p → ltb 0 b ≡ leb (2 ^ p * a) (2 ^ q * b)
cmp_up_far p q a b h pos l far =
    let z : (a - 1) / 2 ^ (q - p) ≡ 0 = div-eq_of_lt (lt_of_lt_of_le (lt_of_lt_of_le (omega arith) (lib.Dec.lit≤ {m = 2 ^ 64} tt)) (pow_mono far)) in
    ap (λ (n : ℕ). ltb n b) (sym z) ∙ cmp_up p q a b h pos

pub cmp_down : (p q a b : ℕ) → q ≤ p → leb a (b / 2 ^ (p - q)) ≡ leb (2 ^ p * a) (2 ^ q * b)
cmp_down p q a b h =
    same_test a (b / 2 ^ (p - q)) (2 ^ p * a) (2 ^ q * b)
    (λ l. (drop_right p q a b h).1 (subst (λ (n : ℕ). n ≤ b) (mul_comm a (2 ^ (p - q))) ((le-div_iff_mul-le (pow_pos (p - q))).0 l)))
    (λ l. (le-div_iff_mul-le (pow_pos (p - q))).1 (subst (λ (n : ℕ). n ≤ b) (mul_comm (2 ^ (p - q)) a) ((drop_right p q a b h).0 l)))

is_zero_law : (a : ℕ) → eqb a 0 ≡ leb a 0
is_zero_law zero = refl
is_zero_law (suc a) = eqb-suc-zero a ∙ sym (leb-suc-zero a)

pub cmp_down_far : (p q a b : ℕ) → q ≤ p → b < 2 ^ 64 → 64 ≤ p - q → eqb a 0 ≡ leb (2 ^ p * a) (2 ^ q * b)
cmp_down_far p q a b h l far =
    let z : b / 2 ^ (p - q) ≡ 0 = div-eq_of_lt (lt_of_lt_of_le l (pow_mono far)) in
    is_zero_law a ∙ ap (λ (n : ℕ). leb a n) (sym z) ∙ cmp_down p q a b h
