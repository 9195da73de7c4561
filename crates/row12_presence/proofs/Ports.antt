-- Sets of ports as names and as masks: a name of the signature is in the one where its number is in the other. Assumes nothing.
use mathlib.Core.Path.{◌≡◌, refl, sym, ap, ◌∙◌}
use mathlib.Core.Bool.{Bool, true, false, false≢true, true≢false}
use mathlib.Core.List.{List, [], ◌∷◌}
use Prim.Native.Nat.{ℕ, zero, suc, ◌^◌, ◌≤◌, ◌<◌}
use native.Mathlib.Omega.{arith}
use lib.Bits.{bit_or}
use lib.Dec.{eqb, ltb}
use lib.ListN.{length}
use borrow.Author.Tests.{lt-ltb}
use Rattle.language.specs.Text.{same, index, among}
use Rattle.language.specs.Tree.{spelled_of}
use Rattle.language.specs.Values.{bit_of}
use Rattle.language.specs.Sizes.{Setting}
use Rattle.language.specs.Meaning.{port_at}
use Rattle.spelling.proofs.Laws.{same_eq}
use Rattle.placed.proofs.Names.{same_refl, index_below, length_spelled}
use Rattle.bits.proofs.Digits.{bit_lt, or_bit}
use Rattle.bits.proofs.Sets.{zero_bit}
use Rattle.bits.proofs.Rules.{port_bit, port_alone}
use Rattle.row12_presence.specs.Walk.{has, mask_bits, with_port}

-- ---- masks

has_none : (k : ℕ) → has 0 k ≡ false
unfolding has
has_none k = rw (zero_bit k)

has_same : (set k : ℕ) → k < mask_bits → has (with_port set k) k ≡ true
unfolding has with_port
has_same set k h =
    let e : bit_of (bit_or set (2 ^ k)) k ≡ 1 = omega (arith, or_bit set (2 ^ k) k, port_bit k, bit_lt set k) in
    simp (with_port, lt-ltb k mask_bits h, e)

has_other : (set i j : ℕ) → (i ≡ j → ⊥) → has (with_port set i) j ≡ has set j
unfolding has with_port
has_other set i j n = go (ltb i mask_bits)
  where
    none : bit_of (2 ^ i) j ≡ 0
    none = let b = bit_lt (2 ^ i) j in let q : bit_of (2 ^ i) j ≡ 1 → ⊥ = λ e. n (sym (port_alone j i e)) in omega arith

    go : (b : Bool) → eqb (bit_of (elim b as (λ (x : Bool). ℕ) [ true ↦ bit_or set (2 ^ i) | false ↦ set ]) j) 1 ≡ eqb (bit_of set j) 1
    go true = ap (λ (x : ℕ). eqb x 1) (let e : bit_of (bit_or set (2 ^ i)) j ≡ bit_of set j = omega (arith, or_bit set (2 ^ i) j, none) in e)
    go false = refl

-- ---- where a name stands

pub is_same : (a b : List ℕ) → a ≡ b → same a b ≡ true
is_same a b e = ap (same a) (sym e) ∙ same_refl a

-- of a name of the list and any other: they stand at one place where they are the same
index_same : (l : List (List ℕ)) (a n : List ℕ) → among l n ≡ true → index l a ≡ index l n → same a n ≡ true
unfolding among index
index_same [] a n h e = absurd (false≢true h)
index_same (x ∷ l) a n h e = go (same x a) (same x n) refl refl h e (index_same l a n)
  where
    go : (t u : Bool) → same x a ≡ t → same x n ≡ u → (elim u [ true ↦ true | false ↦ among l n ]) ≡ true
        → ◌≡◌ {A = ℕ} (elim t [ true ↦ zero | false ↦ suc (index l a) ]) (elim u [ true ↦ zero | false ↦ suc (index l n) ]) → (among l n ≡ true → index l a ≡ index l n → same a n ≡ true) → same a n ≡ true
    go true true p q h e r = is_same a n (sym (same_eq x a p) ∙ same_eq x n q)
    go true false p q h e r = absurd (omega arith)
    go false true p q h e r = absurd (omega arith)
    go false false p q h e r = r h (omega arith)

-- ---- names as a mask

module _ (s : Setting) where
  unfoldable pub mask_in : List (List ℕ) → ℕ
  mask_in [] = 0
  mask_in (n ∷ l) = with_port (mask_in l) (port_at s n)

  module _ (few : length s.actor.signature ≤ mask_bits) (n : List ℕ) (known : among (spelled_of s.actor.signature) n ≡ true) where
    port_below : port_at s n < mask_bits
    unfolding port_at
    port_below = let a = index_below (spelled_of s.actor.signature) n known in let b = length_spelled s.actor.signature in omega arith

    port_other : (a : List ℕ) → same a n ≡ false → port_at s a ≡ port_at s n → ⊥
    unfolding port_at
    port_other a e q = true≢false (sym (index_same (spelled_of s.actor.signature) a n known q) ∙ e)

    pub in_mask : (l : List (List ℕ)) → has (mask_in l) (port_at s n) ≡ among l n
    unfolding mask_in among
    in_mask [] = has_none (port_at s n)
    in_mask (a ∷ l) = go (same a n) refl (in_mask l)
      where
        go : (t : Bool) → same a n ≡ t → has (mask_in l) (port_at s n) ≡ among l n → has (with_port (mask_in l) (port_at s a)) (port_at s n) ≡ (elim t [ true ↦ true | false ↦ among l n ])
        go true e h = rw (same_eq a n e) (has_same (mask_in l) (port_at s n) port_below)
        go false e h = has_other (mask_in l) (port_at s a) (port_at s n) (port_other a e) ∙ h
