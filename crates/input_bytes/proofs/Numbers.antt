-- Numbers, counts and the ends of their lines, as document 01 reads them. Assumes nothing.
use mathlib.Core.Path.{◌≡◌, refl, sym, ap, ◌∙◌}
use mathlib.Core.Bool.{Bool, true, false, false≢true, ◌&&◌}
use mathlib.Core.List.{List, [], ◌∷◌}
use Prim.Native.Nat.{ℕ, zero, suc, ◌+◌, ◌-◌, ◌*◌, ◌^◌, ◌≤◌, min}
use native.Mathlib.Omega.{arith}
use native.Mathlib.Nat.{pow-suc, mul-le-mul_right, mul-le-mul_left, mul_assoc, mul_comm}
use borrow.Author.Tests.{eq-eqb, ne_eqb, leb-true}
use lib.Dec.{eqb, leb, ltb}
use Rattle.language.specs.Words.{digit}
use Rattle.language.specs.Bindings.{Got, got, lost, after, byte, digits_from, number_up_to}
use lib.ListN.{length, take, drop, length-drop}
use Rattle.language.specs.Worked.{any_number, counted}

-- ---- digits, and a newline

abbrev pub line_end : ℕ → List ℕ → Got ℕ
line_end n r = byte 10 r (λ x. got n x)

pub digit_range : (b : ℕ) → digit b ≡ true → (48 ≤ b) × (b ≤ 57)
unfolding digit
digit_range b e = go (leb 48 b) refl (leb b 57) refl e
  where
    go : (x : Bool) → leb 48 b ≡ x → (y : Bool) → leb b 57 ≡ y → x && y ≡ true → (48 ≤ b) × (b ≤ 57)
    go true p true q r = (leb-true 48 b p, leb-true b 57 q)
    go true p false q r = absurd (false≢true r)
    go false p y q r = absurd (false≢true r)

module _ (most n b : ℕ) (bs : List ℕ) where
  pub stop_other : digit b ≡ false → digits_from most n (b ∷ bs) ≡ got n (b ∷ bs)
  unfolding digits_from
  stop_other e = simp (digits_from, e)

  pub stop_zero : digit b ≡ true → ltb 0 n ≡ false → digits_from most n (b ∷ bs) ≡ got n (b ∷ bs)
  unfolding digits_from
  stop_zero e f = simp (digits_from, e, f)

  pub digit_more : digit b ≡ true → ltb 0 n ≡ true → leb (n * 10 + (b - 48)) most ≡ true → digits_from most n (b ∷ bs) ≡ digits_from most (n * 10 + (b - 48)) bs
  unfolding digits_from
  digit_more e f g = simp (digits_from, e, f, g)

  pub end_here : digits_from most n (b ∷ bs) ≡ got n (b ∷ bs) → b ≡ 10 → after (digits_from most n (b ∷ bs)) line_end ≡ got n bs
  unfolding after byte
  end_here e f = ap (λ (y : Got ℕ). after y line_end) e ∙ simp (byte, eq-eqb 10 b (sym f))

  pub end_lost : digits_from most n (b ∷ bs) ≡ got n (b ∷ bs) → (b ≡ 10 → ⊥) → after (digits_from most n (b ∷ bs)) line_end ≡ lost (b ∷ bs)
  unfolding after byte
  end_lost e f = ap (λ (y : Got ℕ). after y line_end) e ∙ simp (byte, ne_eqb 10 b (λ q. f (sym q)))

pub first_digit : (most b : ℕ) (bs : List ℕ) → digit b ≡ true → number_up_to most (b ∷ bs) ≡ digits_from most (b - 48) bs
unfolding number_up_to
first_digit most b bs e = simp (number_up_to, e)

pub no_digit : (most b : ℕ) (bs : List ℕ) → digit b ≡ false → number_up_to most (b ∷ bs) ≡ lost (b ∷ bs)
unfolding number_up_to
no_digit most b bs e = simp (number_up_to, e)

-- ---- numbers: no count is above what its bytes can spell, and what passes 64 bits stays there

regroup : (x p : ℕ) → (x * 10) * p ≡ x * (p * 10)
regroup x p = mul_assoc x 10 p ∙ ap (λ (y : ℕ). x * y) (mul_comm 10 p)

pub room_next : (n d k most : ℕ) → d ≤ 9 → suc n * 10 ^ suc k ≤ most → suc (n * 10 + d) * 10 ^ k ≤ most
room_next n d k most h q =
    let a : suc (n * 10 + d) ≤ suc n * 10 = omega arith in
    let b = mul-le-mul_right (10 ^ k) a in
    let c = regroup (suc n) (10 ^ k) in
    let e : suc n * 10 ^ suc k ≡ suc n * (10 ^ k * 10) = ap (λ (y : ℕ). suc n * y) (pow-suc 10 k) in
    omega arith

one_le : (k : ℕ) → 1 ≤ 10 ^ k
one_le zero = omega arith
one_le (suc k) = let e = pow-suc 10 k in let h = one_le k in omega arith

pub fits_next : (n k most : ℕ) → suc n * 10 ^ k ≤ most → n ≤ most
fits_next n k most q = let a = mul-le-mul_left (suc n) (one_le k) in omega arith

pub saturated : (n d x : ℕ) → x ≡ min n 18_446_744_073_709_551_615 → min (x * 10 + d) 18_446_744_073_709_551_615 ≡ min (n * 10 + d) 18_446_744_073_709_551_615
saturated n d x e = omega arith

-- ---- what is left after a number

unfoldable pub rest_length : {T : Type 0} → Got T → ℕ
rest_length (got n r) = length r
rest_length (lost r) = length r

digits_length : (bs : List ℕ) (most n : ℕ) → rest_length (digits_from most n bs) ≤ length bs
unfolding digits_from rest_length
digits_length [] most n = omega arith
digits_length (b ∷ bs) most n = go (digit b && ltb 0 n && leb (n * 10 + (b - 48)) most) (digits_length bs most (n * 10 + (b - 48)))
  where
    go : (y : Bool) → rest_length (digits_from most (n * 10 + (b - 48)) bs) ≤ length bs → rest_length {T = ℕ} (elim y [ true ↦ digits_from most (n * 10 + (b - 48)) bs | false ↦ got n (b ∷ bs) ]) ≤ suc (length bs)
    go true h = omega arith
    go false h = omega arith

pub number_length : (bs : List ℕ) (most : ℕ) → rest_length (number_up_to most bs) ≤ length bs
unfolding number_up_to rest_length
number_length [] most = omega arith
number_length (b ∷ bs) most = go (digit b) (digits_length bs most (b - 48))
  where
    go : (y : Bool) → rest_length (digits_from most (b - 48) bs) ≤ length bs → rest_length {T = ℕ} (elim y [ true ↦ digits_from most (b - 48) bs | false ↦ lost (b ∷ bs) ]) ≤ suc (length bs)
    go true h = omega arith
    go false h = omega arith

part_length : (z : Bool) (n : ℕ) (r : List ℕ) → rest_length {T = List ℕ} (elim z [ true ↦ got (take n r) (drop n r) | false ↦ lost r ]) ≤ length r
unfolding rest_length
part_length true n r = let a = length-drop n r in omega arith
part_length false n r = omega arith

here_length : (z : Bool) (n b : ℕ) (r : List ℕ) → rest_length {T = List ℕ} (elim z [ true ↦ elim (leb n (length r)) [ true ↦ got (take n r) (drop n r) | false ↦ lost r ] | false ↦ lost (b ∷ r) ]) ≤ suc (length r)
unfolding rest_length
here_length true n b r = let p = part_length (leb n (length r)) n r in omega arith
here_length false n b r = omega arith

after_length : (y : Got ℕ) → rest_length {T = List ℕ} (after y (λ n r. byte 10 r (λ x. elim (leb n (length x)) [ true ↦ got (take n x) (drop n x) | false ↦ lost x ]))) ≤ rest_length y
unfolding rest_length after byte
after_length (lost r) = omega arith
after_length (got n []) = omega arith
after_length (got n (b ∷ r)) = here_length (eqb 10 b) n b r

pub counted_length : (bs : List ℕ) → rest_length (counted bs) ≤ length bs
unfolding counted any_number
counted_length bs = let a = number_length bs (10 ^ length bs) in let b = after_length (any_number bs) in omega arith
