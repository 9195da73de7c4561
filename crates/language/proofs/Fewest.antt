-- What `fewest` means, and that the machine's leading zeros tell it. Assumes nothing.
use mathlib.Core.Path.{◌≡◌, refl, ap}
use mathlib.Core.Bool.{Bool, true, false}
use Prim.Native.Nat.{ℕ, zero, suc, ◌-◌, ◌/◌, ◌^◌, ◌≤◌, ◌<◌, zero-le}
use native.Mathlib.Nat.{le_refl, le_trans, lt_of_le_of_lt, le_antisymm, lt_of_not-le, not-le_of_lt, le_of_suc-le-suc, pow-suc, pos_of_ne-zero}
use native.Mathlib.Omega.{arith}
use lib.Dec.{eqb-suc-zero}
use lib.Arith.{half_le}
use lib.Pow.{pow_pos, pow_mono}
use lib.Count.{count_leading_zeros, leading_top}
use Rattle.language.specs.Types.{fewest_in, fewest}

none_in : (f : ℕ) → fewest_in f 0 ≡ 0
unfolding fewest_in
none_in zero = refl
none_in (suc f) = refl

more_in : (f n : ℕ) → fewest_in (suc f) (suc n) ≡ suc (fewest_in f (suc n / 2))
unfolding fewest_in
more_in f n = ap (λ (t : Bool). elim t [ true ↦ 0 | false ↦ suc (fewest_in f (suc n / 2)) ]) (eqb-suc-zero n)

holds_in : (f n : ℕ) → n ≤ f → n < 2 ^ fewest_in f n
holds_in zero zero h = pow_pos (fewest_in 0 0)
holds_in (suc f) zero h = pow_pos (fewest_in (suc f) 0)
holds_in zero (suc n) h = absurd (omega arith)
holds_in (suc f) (suc n) h =
    let l : suc n / 2 < 2 ^ fewest_in f (suc n / 2) = holds_in f (suc n / 2) (half_le h) in
    rw (more_in f n) (omega (arith, pow-suc 2 (fewest_in f (suc n / 2))))

least_in : (f n k : ℕ) → n ≤ f → n < 2 ^ k → fewest_in f n ≤ k
least_in zero zero k h l = rw (none_in 0) zero-le
least_in (suc f) zero k h l = rw (none_in (suc f)) zero-le
least_in zero (suc n) k h l = absurd (omega arith)
least_in (suc f) (suc n) zero h l = absurd (omega arith)
least_in (suc f) (suc n) (suc k) h l =
    let g : fewest_in f (suc n / 2) ≤ k = least_in f (suc n / 2) k (half_le h) (omega (arith, pow-suc 2 k)) in
    rw (more_in f n) (omega arith)

-- "the fewest bits that hold it": they hold it
pub fewest_holds : (n : ℕ) → n < 2 ^ fewest n
unfolding fewest
fewest_holds n = holds_in n n (le_refl n)

-- and no fewer do
pub fewest_least : (n k : ℕ) → n < 2 ^ k → fewest n ≤ k
unfolding fewest
fewest_least n k h = least_in n n k (le_refl n) h

pub fewest_none : fewest 0 ≡ 0
unfolding fewest fewest_in
fewest_none = refl

pub fewest_some : (n : ℕ) → (n ≡ 0 → ⊥) → 1 ≤ fewest n
fewest_some zero h = absurd (h refl)
fewest_some (suc n) h = lt_of_not-le (λ g. not-le_of_lt (fewest_holds (suc n)) (le_trans (pow_mono g) (omega arith)))

pub fewest_below : (n : ℕ) → (n ≡ 0 → ⊥) → 2 ^ (fewest n - 1) ≤ n
fewest_below n h =
    let s : 1 ≤ fewest n = fewest_some n h in
    le_of_suc-le-suc (lt_of_not-le (λ l. omega (arith, fewest_least n (fewest n - 1) l)))

pub fewest_grows : (m n : ℕ) → m ≤ n → fewest m ≤ fewest n
fewest_grows m n h = fewest_least m (fewest n) (lt_of_le_of_lt h (fewest_holds n))

-- what lies between two powers next to one another
pub fewest_is : (n t : ℕ) → 2 ^ t ≤ n → n < 2 ^ suc t → fewest n ≡ suc t
fewest_is n t l h = le_antisymm (fewest_least n (suc t) h) (lt_of_not-le (λ g. not-le_of_lt (fewest_holds n) (le_trans (pow_mono g) l)))

pub leading_fewest : (k n : ℕ) → (n ≡ 0 → ⊥) → n < 2 ^ k → k - count_leading_zeros k n ≡ fewest n
leading_fewest k n s h =
    let t = leading_top k n (pos_of_ne-zero s) h in
    omega (arith, t.1, fewest_is n t.0 t.2 t.3)
