-- Laws of plain numbers whose value stops growing past the limit. Assumes nothing.
use mathlib.Core.Path.{◌≡◌, refl, sym, ap, ◌∙◌}
use mathlib.Core.Bool.{Bool, true, false}
use mathlib.Core.List.{List, [], ◌∷◌}
use mathlib.Core.Logic.{◌⊎◌, inl, inr, ⊎_elim}
use Prim.Native.Nat.{ℕ, ◌+◌, ◌-◌, ◌*◌, ◌≤◌, ◌<◌}
use native.Mathlib.Omega.{arith}
use native.Mathlib.Numerals.{add-one}
use lib.Dec.{ltb}
use lib.ListN.{length, take, drop, get_or, drop_of_length-le, length-drop}
use lib.Seq.{drop-cons}
use borrow.Author.Tests.{le-leb, lt-leb, lt-ltb, le-ltb, ltb-true, ltb-false}
use Rattle.language.specs.Words.{span, digit, digit_of, value_in_base, number_next}
use Rattle.signs.specs.Kinds.{numbers_of}
use Rattle.plain_numbers.specs.Plain.{capped_of, number_item}
use Rattle.signs.specs.Tells.{Tells, is_word, is_wrong}
use Rattle.spelling.proofs.Laws.{digit_high}
use Rattle.spans.proofs.Spans.{worth_digit, span_next, rest_std}
use Rattle.signs.specs.declared.Item.{Item}

-- equal, or both past the limit
abbrev pub Alike : ℕ → ℕ → Type 0
Alike x y = (x ≡ y) ⊎ ((4_294_967_295 < x) × (4_294_967_295 < y))

pub value_grows : (n : ℕ) (r : List ℕ) → n ≤ value_in_base 10 n r
unfolding value_in_base
value_grows n [] = omega arith
value_grows n (b ∷ r) = let h = value_grows (n * 10 + digit_of b) r in omega (arith, h)

pub capped_over : (v b : ℕ) → 4_294_967_295 < v → capped_of v b ≡ v
unfolding capped_of
capped_over v b h = simp (capped_of, lt-ltb _ _ h)

pub capped_grows : (v b : ℕ) → v ≤ 4_294_967_295 → capped_of v b ≡ v * 10 + (b - 48)
unfolding capped_of
capped_grows v b h = simp (capped_of, le-ltb _ _ h)

pub capped_small : (v b : ℕ) → b ≤ 57 → v ≤ 42_949_672_959 → capped_of v b ≤ 42_949_672_959
capped_small v b h k = go (ltb 4_294_967_295 v) refl
  where
    go : (t : Bool) → ltb 4_294_967_295 v ≡ t → capped_of v b ≤ 42_949_672_959
    go true e = rw (capped_over v b (ltb-true 4_294_967_295 v e)) k
    go false e = let z = ltb-false 4_294_967_295 v e in rw (capped_grows v b z) (omega (arith, z))

alike_next : (v b w : ℕ) (r : List ℕ) → b ≤ 57 → Alike (value_in_base 10 v (b ∷ r)) w → Alike (value_in_base 10 (capped_of v b) r) w
unfolding value_in_base
alike_next v b w r k a = go (ltb 4_294_967_295 v) refl
  where
    go : (t : Bool) → ltb 4_294_967_295 v ≡ t → Alike (value_in_base 10 (capped_of v b) r) w
    go true e =
        let h = ltb-true 4_294_967_295 v e in
        let p = value_grows v r in
        let q = value_grows (v * 10 + digit_of b) r in
        let z = capped_over v b h in
        inr (rw z (omega (arith, h, p)), ⊎_elim (λ x. omega (arith, x, q, h)) (λ x. x.1) a)
    go false e = let z : capped_of v b ≡ v * 10 + digit_of b = capped_grows v b (ltb-false 4_294_967_295 v e) ∙ ap (λ (d : ℕ). v * 10 + d) (sym (worth_digit b k)) in rw z a

-- after n digits of s the value is v
pub record Counted (s : List ℕ) (n v : ℕ) : Type 0 where
  pub inside : n ≤ length s
  pub long : n + length (span digit (drop n s)) ≡ length (span digit s)
  pub small : v ≤ 42_949_672_959
  pub alike : Alike (value_in_base 10 v (span digit (drop n s))) (value_in_base 10 0 (span digit s))

pub counted_start : (s : List ℕ) → Counted s 0 0
counted_start s = record { inside = omega arith; long = omega arith; small = omega arith; alike = inl refl }

pub counted_more : (s : List ℕ) (n v w : ℕ) → n < length s → digit (get_or s n 0) ≡ true → Counted s n v → w ≡ capped_of v (get_or s n 0) → Counted s (n + 1) w
unfolding span
counted_more s n v w h e c q =
    let z : span digit (drop n s) ≡ get_or s n 0 ∷ span digit (drop (n + 1) s) = rw (add-one, drop-cons s n 0 h) (simp (span, e)) in
    let k = digit_high (get_or s n 0) e in
    rw q (
    record {
      inside = omega arith;
      long = omega (arith, c.long, ap length z);
      small = capped_small v (get_or s n 0) k c.small;
      alike = alike_next v (get_or s n 0) (value_in_base 10 0 (span digit s)) (span digit (drop (n + 1) s)) k (rw z at c.alike);
    })

-- no digit is left
pub record Ended (s : List ℕ) (n v : ℕ) : Type 0 where
  pub inside : n ≤ length s
  pub long : n ≡ length (span digit s)
  pub alike : Alike v (value_in_base 10 0 (span digit s))

ended : (s : List ℕ) (n v : ℕ) → Counted s n v → span digit (drop n s) ≡ [] → Ended s n v
unfolding value_in_base
ended s n v c z = record { inside = c.inside; long = omega (arith, c.long, ap length z); alike = rw z at c.alike }

pub counted_stop : (s : List ℕ) (n v : ℕ) → n < length s → digit (get_or s n 0) ≡ false → Counted s n v → Ended s n v
unfolding span
counted_stop s n v h e c = ended s n v c (rw (drop-cons s n 0 h) (simp (span, e)))

pub counted_all : (s : List ℕ) (n v : ℕ) → length s ≤ n → Counted s n v → Ended s n v
unfolding span
counted_all s n v h c = ended s n v c (rw (drop_of_length-le s h))

pub number_tells : (text : List ℕ) (at n v : ℕ) (run : List ℕ) → 0 < n → at + n ≤ length text → n ≡ length run → Alike v (value_in_base 10 0 run) → Tells text at (number_next run) (number_item n v)
unfolding number_next number_item numbers_of
number_tells text at n v run h k e a = go (ltb 4_294_967_295 v) refl
  where
    go : (t : Bool) → ltb 4_294_967_295 v ≡ t → Tells text at (number_next run) (number_item n v)
    go true q =
        let p = ltb-true 4_294_967_295 v q in
        let o : 4_294_967_295 < value_in_base 10 0 run = ⊎_elim (λ x. omega (arith, x, p)) (λ x. x.1) a in
        simp (number_next, number_item, lt-leb _ _ o, q) is_wrong
    go false q =
        let p = ltb-false 4_294_967_295 v q in
        let x : v ≡ value_in_base 10 0 run = ⊎_elim (λ x. x) (λ x. absurd (omega (arith, x.0, p))) a in
        let o : value_in_base 10 0 run ≤ 4_294_967_295 = omega (arith, x, p) in
        let h' : 0 < length run = omega arith in
        let k' : at + length run ≤ length text = omega arith in
        rw (e, x) (simp (number_next, number_item, le-leb _ _ o, le-ltb _ _ o) (is_word h' k' (λ p. refl)))

pub ended_tells : (text : List ℕ) (at n v : ℕ) (r : Item) → at < length text → digit (get_or text at 0) ≡ true → Ended (take (length text - at) (drop at text)) n v → r ≡ number_item n v → Tells text at (number_next (span digit (drop at text))) r
ended_tells text at n v r h e w q =
    let f = span_next digit text at h e in
    let z = rest_std text at in
    let i = w.inside in
    let l = w.long in
    rw (q, ← z) (number_tells text at n v (span digit (take (length text - at) (drop at text))) (omega (arith, l, f, ap (λ (x : List ℕ). length (span digit x)) z)) (omega (arith, i, ap length z, length-drop at text)) l w.alike)

-- what `number` uses
pub ruleset count_laws = (counted_start, counted_stop, counted_all, ended_tells)
