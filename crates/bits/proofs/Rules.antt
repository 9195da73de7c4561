-- A rule's two masks, made port by port: what one port more adds to the test. Assumes nothing.
use mathlib.Core.Path.{◌≡◌, refl, ap, ap₂, ◌∙◌, subst}
use mathlib.Core.Bool.{Bool, true, not, ◌&&◌}
use mathlib.Core.Logic.{◌⊎◌, inl, inr, ⊎_elim}
use Prim.Native.Nat.{ℕ, zero, suc, ◌+◌, ◌-◌, ◌/◌, ◌%◌, ◌^◌, ◌<◌}
use native.Mathlib.Nat.{zero-lt-suc, lt-suc_self, div_self, mul-mod_left, pow-suc}
use native.Mathlib.Omega.{arith}
use lib.Dec.{eqb}
use lib.Pow.{pow_pos, pow-lt, pow-add, shl-shr}
use lib.Bits.{bit_or}
use borrow.Author.Tests.{eqb-true, eq-eqb}
use Rattle.language.specs.Values.{bit_of}
use Rattle.bits.specs.Masks.{matches_in}
use Rattle.bits.proofs.Digits.{bit_lt, bit_past, or_bit}
use Rattle.bits.proofs.Sets.{matches_to, matches_from, same_truth, both_left, both_right, zero_bit}

place : (j k : ℕ) → (j < k) ⊎ (j ≡ k) ⊎ (k < j)
place zero zero = inr (inl refl)
place zero (suc k) = inl (zero-lt-suc k)
place (suc j) zero = inr (inr (zero-lt-suc j))
place (suc j) (suc k) = ⊎_elim (λ l. inl (omega arith)) (λ s. ⊎_elim (λ e. inr (inl (ap suc e))) (λ l. inr (inr (omega arith))) s) (place j k)

-- the mask of the one port k
pub port_bit : (k : ℕ) → bit_of (2 ^ k) k ≡ 1
unfolding bit_of
port_bit k = ap (λ (x : ℕ). x % 2) (div_self (pow_pos k))

lower_bit : (j d : ℕ) → bit_of (2 ^ (suc d + j)) j ≡ 0
unfolding bit_of
lower_bit j d =
    ap (λ (x : ℕ). x / 2 ^ j % 2) (pow-add 2 (suc d) j) ∙ ap (λ (x : ℕ). x % 2) (shl-shr (2 ^ suc d) j) ∙ ap (λ (x : ℕ). x % 2) (pow-suc 2 d)
    ∙ mul-mod_left (2 ^ d) 2

pub port_alone : (j k : ℕ) → bit_of (2 ^ k) j ≡ 1 → j ≡ k
port_alone j k h =
    ⊎_elim
    (λ l.
    let e : suc (k - j - 1) + j ≡ k = omega arith in
    let z : bit_of (2 ^ k) j ≡ 0 = subst (λ (x : ℕ). bit_of (2 ^ x) j ≡ 0) e (lower_bit j (k - j - 1)) in
    omega arith)
    (λ s.
    ⊎_elim (λ e. e)
    (λ l.
    let z : bit_of (2 ^ k) j ≡ 0 = bit_past (suc k) (2 ^ k) j l (pow-lt (lt-suc_self k)) in
    omega arith)
    s)
    (place j k)

-- a port that is in p with k is in p, or is k
one_of : (p j k : ℕ) → bit_of (bit_or p (2 ^ k)) j ≡ 1 → (bit_of p j ≡ 1) ⊎ (j ≡ k)
one_of p j k h = go (bit_of p j) (bit_lt p j) refl
  where
    go : (x : ℕ) → x < 2 → bit_of p j ≡ x → (bit_of p j ≡ 1) ⊎ (j ≡ k)
    go zero l e = inr (port_alone j k (omega (arith, or_bit p (2 ^ k) j)))
    go (suc zero) l e = inl e
    go (suc (suc x)) l e = absurd (omega arith)

kept : (p j k : ℕ) → bit_of p j ≡ 1 → bit_of (bit_or p (2 ^ k)) j ≡ 1
kept p j k h = omega (arith, or_bit p (2 ^ k) j, bit_lt (2 ^ k) j)

added : (p k : ℕ) → bit_of (bit_or p (2 ^ k)) k ≡ 1
added p k = omega (arith, or_bit p (2 ^ k) k, port_bit k, bit_lt p k)

-- a rule that asks for nothing matches
pub matches_none : (w m : ℕ) → matches_in w m 0 0 ≡ true
matches_none w m =
    matches_from w m 0 0 (record { there = λ k l e. absurd (omega (arith, zero_bit k)); away = λ k l e. absurd (omega (arith, zero_bit k)) })

-- one port more that must be present
pub matches_present : (w m p a k : ℕ) → k < w → matches_in w m (bit_or p (2 ^ k)) a ≡ (eqb (bit_of m k) 1 && matches_in w m p a)
matches_present w m p a k h =
    same_truth (matches_in w m (bit_or p (2 ^ k)) a) (eqb (bit_of m k) 1 && matches_in w m p a)
    (λ e.
    let s = matches_to w m (bit_or p (2 ^ k)) a e in
    ap₂ (λ (x y : Bool). x && y) (eq-eqb (bit_of m k) 1 (s.there k h (added p k)))
    (matches_from w m p a (record { there = λ j l b. s.there j l (kept p j k b); away = s.away })))
    (λ e.
    let s = matches_to w m p a (both_right (eqb (bit_of m k) 1) (matches_in w m p a) e) in
    let t = eqb-true (bit_of m k) 1 (both_left (eqb (bit_of m k) 1) (matches_in w m p a) e) in
    matches_from w m (bit_or p (2 ^ k)) a
    (record { there = λ j l b. ⊎_elim (λ c. s.there j l c) (λ c. ap (bit_of m) c ∙ t) (one_of p j k b); away = s.away }))

-- one port more that must be absent
pub matches_absent : (w m p a k : ℕ) → k < w → matches_in w m p (bit_or a (2 ^ k)) ≡ (eqb (bit_of m k) 0 && matches_in w m p a)
matches_absent w m p a k h =
    same_truth (matches_in w m p (bit_or a (2 ^ k))) (eqb (bit_of m k) 0 && matches_in w m p a)
    (λ e.
    let s = matches_to w m p (bit_or a (2 ^ k)) e in
    ap₂ (λ (x y : Bool). x && y) (eq-eqb (bit_of m k) 0 (s.away k h (added a k)))
    (matches_from w m p a (record { there = s.there; away = λ j l b. s.away j l (kept a j k b) })))
    (λ e.
    let s = matches_to w m p a (both_right (eqb (bit_of m k) 0) (matches_in w m p a) e) in
    let t = eqb-true (bit_of m k) 0 (both_left (eqb (bit_of m k) 0) (matches_in w m p a) e) in
    matches_from w m p (bit_or a (2 ^ k))
    (record { there = s.there; away = λ j l b. ⊎_elim (λ c. s.away j l c) (λ c. ap (bit_of m) c ∙ t) (one_of a j k b) }))

-- "absent" is "not present"
pub absent_bit : (m k : ℕ) → eqb (bit_of m k) 0 ≡ not (eqb (bit_of m k) 1)
absent_bit m k = go (bit_of m k) (bit_lt m k)
  where
    go : (x : ℕ) → x < 2 → eqb x 0 ≡ not (eqb x 1)
    go zero l = refl
    go (suc zero) l = refl
    go (suc (suc x)) l = absurd (omega arith)
