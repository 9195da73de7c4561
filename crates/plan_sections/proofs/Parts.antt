-- The sections' tests, on lists. Assumes nothing.
use Prim.Native.Nat.{ℕ, zero, suc, ◌+◌, ◌*◌, ◌%◌, ◌^◌, ◌≤◌, ◌<◌, min}
use mathlib.Core.Path.{◌≡◌, refl, sym, ap, ap₂, ◌∙◌}
use mathlib.Core.List.{List}
use mathlib.Core.Bool.{Bool, true, false, ◌&&◌, and_assoc, and-true, and-false}
use native.Mathlib.Numerals.{add-one}
use native.Mathlib.Omega.{arith}
use lib.ListN.{length}
use lib.Dec.{eqb, leb, ltb}
use Rattle.std.specs.Bool.{MatchBool}
use Rattle.std.specs.List.{range_with_len, AllWithin, HoldsAt}
use Rattle.std.proofs.lemmas.List.FromFn.{length-range_with_len, get_or-range_with_len}
use native.Mathlib.Nat.{mod-lt, one-mul, zero-mul}
use lib.Bits.{bit_and}
use lib.Pow.{pow_pos}
use native.Mathlib.Decide.{dec_lt}
use borrow.Author.Tests.{leb-true, eqb-true, ne_eqb}
use Rattle.language.specs.Values.{bit_of, number_of}
use Rattle.bits.proofs.Digits.{bit_lt, bit_low, by_bits, and_bit}
use Rattle.plan.specs.Layout.{form, port_count, memory_count, group_count, group_at, rules_before, rule_count, present_at, absent_at, length_at, code_before, code_from, code_count}
use Rattle.plan.specs.Sound.{all_up_to, apart, port_ok, memory_fits, group_ok, rule_ok, sections_ok}
use Rattle.plan_sections.specs.Parts.{ports_part, memories_part, groups_part, rules_part}
use Rattle.plan.proofs.Tests.{and_left, and_right}

pub all_next : (p : List ℕ) (n : ℕ) (f : ℕ → Bool) {a b : Bool} → a ≡ all_up_to p n f → b ≡ f n → (a && b) ≡ all_up_to p (n + 1) f
unfolding all_up_to
all_next p n f d e = rw (add-one n) (ap₂ ◌&&◌ d e)

-- what `all` over `0..n` answers of a test
pub all_yes : (p : List ℕ) (n : ℕ) (f : ℕ → Bool) → ((k : ℕ) → k < n → f k ≡ true) → all_up_to p n f ≡ true
unfolding all_up_to
all_yes p zero f h = refl
all_yes p (suc n) f h = ap₂ ◌&&◌ (all_yes p n f (λ k l. h k (omega arith))) (h n (omega arith))

pub all_not : (p : List ℕ) (n : ℕ) (f : ℕ → Bool) (k : ℕ) → k < n → f k ≡ false → all_up_to p n f ≡ false
unfolding all_up_to
all_not p zero f k l e = absurd (omega arith)
all_not p (suc n) f k l e =
    elim (dec_lt k n) [
      | yes h ↦ ap (λ (b : Bool). b && f n) (all_not p n f k h e)
      | no h ↦ let i : k ≡ n = omega arith in ap (λ (b : Bool). all_up_to p n f && b) (ap f (sym i) ∙ e) ∙ and-false (all_up_to p n f)
    ]

abbrev pub Told : ℕ → (ℕ → Bool) → Bool → Type 0
Told n f r = MatchBool r (AllWithin (λ k. f k ≡ true) (range_with_len 0 n) 0 (length (range_with_len 0 n))) ((k : ℕ) × (k < length (range_with_len 0 n)) × HoldsAt (λ k. f k ≡ false) (range_with_len 0 n) k)

pub all_told : (p : List ℕ) (n : ℕ) (f : ℕ → Bool) (r : Bool) → Told n f r → r ≡ all_up_to p n f
all_told p n f true t =
    let l = length-range_with_len 0 n in
    sym (all_yes p n f (λ k h. let e : 0 + k ≡ k = omega arith in ap f (sym (get_or-range_with_len 0 n k 0 h ∙ e)) ∙ t k 0 (omega arith) (omega (arith, l))))
all_told p n f false t =
    let l = length-range_with_len 0 n in
    let k = t.0 in
    let h : k < n = let g = t.1 in omega (arith, l, g) in
    let e : 0 + k ≡ k = omega arith in
    sym (all_not p n f k h (ap f (sym (get_or-range_with_len 0 n k 0 h ∙ e)) ∙ t.2 0))

-- no bit below k is in both masks where the number of the bits that both have is 0
nothing : (n m : ℕ) → m ≡ 0 * n + m
nothing n m = let e = zero-mul n in omega arith

both_zero : (x y n m : ℕ) → x < 2 → y < 2 → 0 < n → (eqb m 0 && eqb (x * y) 0) ≡ eqb (min x y * n + m) 0
both_zero zero zero n m hx hy h = and-true (eqb m 0) ∙ ap (λ (k : ℕ). eqb k 0) (nothing n m)
both_zero zero (suc zero) n m hx hy h = and-true (eqb m 0) ∙ ap (λ (k : ℕ). eqb k 0) (nothing n m)
both_zero (suc zero) zero n m hx hy h = and-true (eqb m 0) ∙ ap (λ (k : ℕ). eqb k 0) (nothing n m)
both_zero (suc zero) (suc zero) n m hx hy h = and-false (eqb m 0) ∙ sym (ne_eqb (1 * n + m) 0 (λ (e : 1 * n + m ≡ 0). let f = one-mul n in omega (arith, e, f, h)))
both_zero (suc (suc x)) y n m hx hy h = absurd (omega arith)
both_zero (suc zero) (suc (suc y)) n m hx hy h = absurd (omega arith)
both_zero zero (suc (suc y)) n m hx hy h = absurd (omega arith)

apart_number : (p : List ℕ) (a b k : ℕ) → apart p a b k ≡ eqb (number_of k (λ i. min (bit_of a i) (bit_of b i))) 0
unfolding apart number_of
apart_number p a b zero = refl
apart_number p a b (suc k) =
    ap (λ (c : Bool). c && eqb (bit_of a k * bit_of b k) 0) (apart_number p a b k)
    ∙ both_zero (bit_of a k) (bit_of b k) (2 ^ k) (number_of k (λ i. min (bit_of a i) (bit_of b i))) (bit_lt a k) (bit_lt b k) (pow_pos k)

pub apart_any : (p q : List ℕ) (a b k : ℕ) → apart p a b k ≡ apart q a b k
apart_any p q a b k = apart_number p a b k ∙ sym (apart_number q a b k)

pub apart_low : (p : List ℕ) (a b k : ℕ) → eqb (bit_and a b % 2 ^ k) 0 ≡ apart p a b k
apart_low p a b k =
    ap (λ (n : ℕ). eqb n 0) (by_bits k (bit_and a b % 2 ^ k) (λ i. min (bit_of a i) (bit_of b i)) (mod-lt (bit_and a b) (pow_pos k)) (λ i l. bit_low (bit_and a b) k i l ∙ and_bit a b i))
    ∙ sym (apart_number p a b k)

-- the code of a rule begins where that of the rule before it ends
pub code_next : (p : List ℕ) (r : ℕ) {n : ℕ} → n ≡ length_at p r → code_before p r + n ≡ code_before p (suc r)
unfolding code_before
code_next p r e = ap (λ (n : ℕ). code_before p r + n) e

pub sections_parts : (p : List ℕ) → sections_ok p ≡ (ports_part p && (memories_part p && (groups_part p && rules_part p)))
unfolding sections_ok ports_part memories_part groups_part rules_part
sections_parts p = simp and_assoc

-- ---- what the sections of a sound plan hold

all_at : (p : List ℕ) (n : ℕ) (f : ℕ → Bool) (k : ℕ) → all_up_to p n f ≡ true → k < n → f k ≡ true
unfolding all_up_to
all_at p zero f k h l = absurd (omega arith)
all_at p (suc n) f k h l = go (all_at p n f k (and_left (all_up_to p n f) (f n) h)) (dec_lt k n)
  where
    go : (k < n → f k ≡ true) → Dec (k < n) → f k ≡ true
    go r (yes j) = r j
    go r (no j) = let e : k ≡ n = omega arith in rw e (and_right (all_up_to p n f) (f n) h)

last_two : (a b c d e f : Bool) → (a && b && c && d && e && f) ≡ true → (e ≡ true) × (f ≡ true)
last_two a b c d e f h = (and_right (a && b && c && d) e (and_left (a && b && c && d && e) f h), and_right (a && b && c && d && e) f h)

module _ (p : List ℕ) (h : sections_ok p ≡ true) where
  all_parts : (ports_part p && (memories_part p && (groups_part p && rules_part p))) ≡ true
  all_parts = sym (sections_parts p) ∙ h

  ports_part_law : ports_part p ≡ true
  ports_part_law = and_left (ports_part p) _ all_parts

  memories_part_law : memories_part p ≡ true
  memories_part_law = and_left (memories_part p) _ (and_right (ports_part p) _ all_parts)

  groups_part_law : groups_part p ≡ true
  groups_part_law = and_left (groups_part p) (rules_part p) (and_right (memories_part p) _ (and_right (ports_part p) _ all_parts))

  rules_part_law : rules_part p ≡ true
  rules_part_law = and_right (groups_part p) (rules_part p) (and_right (memories_part p) _ (and_right (ports_part p) _ all_parts))

  pub ports_few : port_count p ≤ 16
  unfolding ports_part
  ports_few = leb-true (port_count p) 16 (and_right (eqb (form p) 1 && leb 1 (port_count p)) _ (and_left (eqb (form p) 1 && leb 1 (port_count p) && leb (port_count p) 16) (all_up_to p (port_count p) (port_ok p)) ports_part_law))

  pub port_fits : (i : ℕ) → i < port_count p → port_ok p i ≡ true
  unfolding ports_part
  port_fits i l = all_at p (port_count p) (port_ok p) i (and_right (eqb (form p) 1 && leb 1 (port_count p) && leb (port_count p) 16) (all_up_to p (port_count p) (port_ok p)) ports_part_law) l

  pub memories_few : memory_count p ≤ 8
  unfolding memories_part
  memories_few = leb-true (memory_count p) 8 (and_left (leb (memory_count p) 8) (all_up_to p (memory_count p) (memory_fits p)) memories_part_law)

  pub memory_fits_law : (m : ℕ) → m < memory_count p → memory_fits p m ≡ true
  unfolding memories_part
  memory_fits_law m l = all_at p (memory_count p) (memory_fits p) m (and_right (leb (memory_count p) 8) (all_up_to p (memory_count p) (memory_fits p)) memories_part_law) l

  abbrev group_counts : Bool
  group_counts = leb 1 (group_count p) && leb (group_count p) 8 && leb (rule_count p) 32

  abbrev group_sums : Bool
  group_sums = all_up_to p (group_count p) (group_ok p) && eqb (rules_before p (group_count p)) (rule_count p)

  pub groups_few : group_count p ≤ 8
  unfolding groups_part
  groups_few = leb-true (group_count p) 8 (and_right (leb 1 (group_count p)) _ (and_left (leb 1 (group_count p) && leb (group_count p) 8) (leb (rule_count p) 32) (and_left group_counts group_sums groups_part_law)))

  pub rules_few : rule_count p ≤ 32
  unfolding groups_part
  rules_few = leb-true (rule_count p) 32 (and_right (leb 1 (group_count p) && leb (group_count p) 8) (leb (rule_count p) 32) (and_left group_counts group_sums groups_part_law))

  pub group_rules : (g : ℕ) → g < group_count p → rules_before p g + group_at p g ≤ rule_count p
  unfolding groups_part group_ok rules_before
  group_rules g l =
      let k = all_at p (group_count p) (group_ok p) g (and_left (all_up_to p (group_count p) (group_ok p)) _ (and_right group_counts group_sums groups_part_law)) l in
      leb-true (rules_before p g + group_at p g) (rule_count p) (and_right (leb 1 (group_at p g)) _ k)

  pub rule_test : (r : ℕ) → r < rule_count p → rule_ok p r ≡ true
  unfolding rules_part
  rule_test r l =
      all_at p (rule_count p) (rule_ok p) r
      (and_left (all_up_to p (rule_count p) (rule_ok p)) (eqb (code_before p (rule_count p)) (code_count p))
      (and_left (all_up_to p (rule_count p) (rule_ok p) && eqb (code_before p (rule_count p)) (code_count p)) (eqb (length p) (code_from p + 1 + code_count p)) rules_part_law)) l

  code_end : length p ≡ code_from p + 1 + code_count p
  unfolding rules_part
  code_end =
      eqb-true (length p) (code_from p + 1 + code_count p)
      (and_right (all_up_to p (rule_count p) (rule_ok p) && eqb (code_before p (rule_count p)) (code_count p)) (eqb (length p) (code_from p + 1 + code_count p)) rules_part_law)

  last_tests : (r : ℕ) → r < rule_count p → (eqb (length_at p r % 4) 0 ≡ true) × (leb (code_before p r + length_at p r) (code_count p) ≡ true)
  unfolding rule_ok code_before
  last_tests r l =
      last_two (ltb (present_at p r) (2 ^ port_count p)) (ltb (absent_at p r) (2 ^ port_count p)) (apart p (present_at p r) (absent_at p r) (port_count p)) (ltb 0 (present_at p r + absent_at p r))
      (eqb (length_at p r % 4) 0) (leb (code_before p r + length_at p r) (code_count p)) (rule_test r l)

  pub rule_whole : (r : ℕ) → r < rule_count p → length_at p r % 4 ≡ 0
  rule_whole r l = eqb-true (length_at p r % 4) 0 (last_tests r l).0

  pub rule_inside : (r : ℕ) → r < rule_count p → code_from p + 1 + code_before p r + length_at p r ≤ length p
  rule_inside r l =
      let k = leb-true (code_before p r + length_at p r) (code_count p) (last_tests r l).1 in
      let e = code_end in omega arith

-- ---- the sections in turn

pub few_rules : (p : List ℕ) → groups_part p ≡ true → rule_count p ≤ 32
unfolding groups_part
few_rules p h =
    leb-true (rule_count p) 32 (and_right (leb 1 (group_count p) && leb (group_count p) 8) (leb (rule_count p) 32)
    (and_left (leb 1 (group_count p) && leb (group_count p) 8 && leb (rule_count p) 32) (all_up_to p (group_count p) (group_ok p) && eqb (rules_before p (group_count p)) (rule_count p)) h))
