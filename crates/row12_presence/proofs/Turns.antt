-- One turn of the walk over settled items, by the parts of the code. Assumes nothing.
use mathlib.Core.Path.{◌≡◌, refl, sym, ap, ◌∙◌}
use mathlib.Core.Bool.{Bool}
use mathlib.Core.List.{List, [], ◌∷◌}
use Prim.Native.Nat.{ℕ, suc, ◌+◌, ◌*◌, ◌%◌, ◌^◌, ◌≤◌, ◌<◌}
use native.Mathlib.Omega.{arith}
use lib.Bits.{bit_or}
use lib.ListN.{length, get_or, take, drop, length-drop}
use lib.Seq.{drop-cons, get_or-take, length-take-le}
use borrow.Author.Tests.{lt-ltb, le-ltb}
use Rattle.plan.proofs.Lists.{one_shl}
use Rattle.words.specs.Found.{Place}
use Rattle.row12_presence.specs.declared.Met.{Met}
use Rattle.row12_presence.specs.Walk.{mask_bits, with_port, faulty, next_of, soonest, begin, walk}

-- ---- a port more

pub port_inside : (set k : ℕ) → k < mask_bits → bit_or set ((1 * 2 ^ k) % 2 ^ mask_bits) ≡ with_port set k
unfolding with_port
port_inside set k h = sym (simp (with_port, lt-ltb k mask_bits h, one_shl mask_bits k h))

pub port_past : (set k : ℕ) → mask_bits ≤ k → set ≡ with_port set k
unfolding with_port
port_past set k h = sym (simp (with_port, le-ltb k mask_bits h))

-- ---- before the first item

pub begun : (m : Met) → m.required ≡ 0 → m.assigned ≡ 0 → m.everywhere ≡ 0 → m.earlier ≡ 0 → m ≡ begin
begun m a b c d = let e : ◌≡◌ {A = Met} (record { required = m.required; assigned = m.assigned; everywhere = m.everywhere; earlier = m.earlier }) begin = rw (a, b, c, d) refl in e

-- ---- a turn

next : (l : List ℕ) (k j : ℕ) → suc k ≡ j → k < length l → drop k l ≡ get_or l k 0 ∷ drop j l
next l k j e h = drop-cons l k 0 h ∙ ap (λ (n : ℕ). get_or l k 0 ∷ drop n l) e

module _ (t : List ℕ) (many : ℕ) (there : 6 * many ≤ length t) where
  abbrev these : List ℕ
  these = take (6 * many) t

  -- the number at place k, and those after it
  number : (k j : ℕ) → suc k ≡ j → k < 6 * many → drop k these ≡ get_or t k 0 ∷ drop j these
  number k j e h =
      let n = length-take-le (6 * many) t there in
      next these k j e (omega arith) ∙ ap (λ (x : ℕ). x ∷ drop j these) (get_or-take (6 * many) t k 0 h)

  module _ (i : ℕ) (l : i < many) where
    item : drop (6 * i) these ≡ get_or t (6 * i) 0 ∷ get_or t (6 * i + 1) 0 ∷ get_or t (6 * i + 2) 0 ∷ get_or t (6 * i + 3) 0 ∷ get_or t (6 * i + 4) 0 ∷ get_or t (6 * i + 5) 0 ∷ drop (6 * (i + 1)) these
    item =
        let a = number (6 * i) (6 * i + 1) (omega arith) (omega arith) in
        let b = number (6 * i + 1) (6 * i + 2) (omega arith) (omega arith) in
        let c = number (6 * i + 2) (6 * i + 3) (omega arith) (omega arith) in
        let d = number (6 * i + 3) (6 * i + 4) (omega arith) (omega arith) in
        let e = number (6 * i + 4) (6 * i + 5) (omega arith) (omega arith) in
        let f = number (6 * i + 5) (6 * (i + 1)) (omega arith) (omega arith) in
        cc

    -- what is left of the walk after item i is what was left before it
    pub turn : (m m' : Met) (q q' : Place) {b : Bool} → m' ≡ next_of m (get_or t (6 * i) 0) (get_or t (6 * i + 2) 0) (get_or t (6 * i + 3) 0) → b ≡ faulty m (get_or t (6 * i) 0) (get_or t (6 * i + 2) 0) → q' ≡ soonest b (get_or t (6 * i + 1) 0) q
        → walk m' (drop (6 * (i + 1)) these) q' ≡ walk m (drop (6 * i) these) q
    unfolding walk
    turn m m' q q' e f g = rw (e, g, f, item)

  pub whole : (i : ℕ) → i ≡ many → (m : Met) (q : Place) → walk m (drop (6 * i) these) q ≡ q
  unfolding walk
  whole i e m q = none (drop (6 * i) these) (let a = length-drop (6 * i) these in let b = length-take-le (6 * many) t there in omega arith)
    where
      none : (l : List ℕ) → length l ≤ 0 → walk m l q ≡ q
      none [] h = refl
      none (x ∷ l) h = absurd (omega arith)
