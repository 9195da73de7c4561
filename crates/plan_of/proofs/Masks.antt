-- Masks: a rule's two masks say of a cycle's mask what the rule's list says.
use Prim.Native.Nat.{ℕ, zero, suc, ◌+◌, ◌-◌, ◌*◌, ◌/◌, ◌^◌, ◌≤◌, ◌<◌}
use mathlib.Core.Path.{◌≡◌, refl, sym, ap, ◌∙◌}
use mathlib.Core.List.{List, [], ◌∷◌}
use mathlib.Core.Bool.{Bool, true, false, ◌&&◌, ◌||◌, beq, false≢true, true≢false}
use native.Mathlib.Omega.{arith}
use native.Mathlib.Nat.{add-mul-div_right, add_comm, mod-lt}
use native.Mathlib.Decide.{dec_lt}
use lib.ListN.{length, get_or}
use lib.Dec.{eqb, lit<}
use lib.Pow.{pow_pos, pow-add, shr-shr}
use borrow.Author.Tests.{eqb-true, eqb-false, eq-eqb, ne_eqb}
use Rattle.language.specs.Text.{among}
use Rattle.language.specs.Tree.{Entry, spelled_of}
use Rattle.language.specs.Parts.{each}
use Rattle.language.specs.Names.{entry_names}
use Rattle.language.specs.Values.{bit_of, ones_of, one_bit}
use Rattle.language.specs.Sizes.{Setting}
use Rattle.language.specs.Meaning.{port_at, is_present, agrees}
use Rattle.plan.specs.Layout.{present_at, absent_at}
use Rattle.judged.specs.Groups.{bits_agree, matches_of}
use Rattle.placed.specs.Placed.{Every}
use Rattle.plan_of.specs.PlanOf.{mask_of}
use Rattle.placed.proofs.Names.{bool_iff, both_true, true_both, or_right, Distinct, among_there, among_here, index_below, index_at, length_spelled}

-- ## Bits

pub bit_small : (a k : ℕ) → bit_of a k < 2
unfolding bit_of
bit_small a k = mod-lt (a / 2 ^ k) (lit< tt)

pub bit_zero : (k : ℕ) → bit_of 0 k ≡ 0
unfolding bit_of
bit_zero k = let e : 0 / 2 ^ k ≡ 0 = native.Mathlib.Nat.zero-div (2 ^ k) in rw e

pub bit_past : (a n k : ℕ) → a < 2 ^ n → n ≤ k → bit_of a k ≡ 0
unfolding bit_of
bit_past a n k h j =
    let e : a / 2 ^ k ≡ 0 = native.Mathlib.Nat.div-eq_of_lt (native.Mathlib.Nat.lt_of_lt_of_le h (lib.Pow.pow_mono j)) in rw e

pub bit_same : (i m : ℕ) → bit_of m i ≡ 0 → bit_of (2 ^ i + m) i ≡ 1
unfolding bit_of
bit_same i m h =
    let e : 2 ^ i + m ≡ m + 1 * 2 ^ i = omega arith in
    rw (e, add-mul-div_right m 1 (pow_pos i)) (omega arith)

pub bit_below : (i k m : ℕ) → k < i → bit_of (2 ^ i + m) k ≡ bit_of m k
unfolding bit_of
bit_below i k m h =
    let j : ℕ = i - suc k in
    let e : i ≡ suc j + k = omega arith in
    let p : 2 ^ i ≡ 2 ^ suc j * 2 ^ k = ap (λ (x : ℕ). 2 ^ x) e ∙ pow-add 2 (suc j) k in
    let q : 2 ^ i + m ≡ m + 2 ^ suc j * 2 ^ k = ap (λ (x : ℕ). x + m) p ∙ add_comm (2 ^ suc j * 2 ^ k) m in
    rw (q, add-mul-div_right m (2 ^ suc j) (pow_pos k)) (omega arith)

bit_above : (i k m : ℕ) → i < k → bit_of m i ≡ 0 → bit_of (2 ^ i + m) k ≡ bit_of m k
unfolding bit_of
bit_above i k m h b =
    let j : ℕ = k - suc i in
    let e : k ≡ (i + 1) + j = omega arith in
    let c : 2 ^ i + m ≡ m + 1 * 2 ^ i = omega arith in
    let d : (2 ^ i + m) / 2 ^ i ≡ m / 2 ^ i + 1 = ap (λ (x : ℕ). x / 2 ^ i) c ∙ add-mul-div_right m 1 (pow_pos i) in
    let f : (2 ^ i + m) / 2 ^ i / 2 ^ 1 ≡ m / 2 ^ i / 2 ^ 1 = rw d (omega arith) in
    let g : (2 ^ i + m) / 2 ^ (i + 1) ≡ m / 2 ^ (i + 1) = sym (shr-shr (2 ^ i + m) i 1) ∙ f ∙ shr-shr m i 1 in
    rw (e, ← (shr-shr (2 ^ i + m) (i + 1) j), g, shr-shr m (i + 1) j)

pub bit_other : (i k m : ℕ) → (i ≡ k → ⊥) → bit_of m i ≡ 0 → bit_of (2 ^ i + m) k ≡ bit_of m k
bit_other i k m n b = go (dec_lt k i)
  where
    go : Dec (k < i) → bit_of (2 ^ i + m) k ≡ bit_of m k
    go (yes h) = bit_below i k m h
    go (no h) = bit_above i k m (omega arith) b

-- ones past the ports count for nothing
pub ones_past : (a n j : ℕ) → a < 2 ^ n → ones_of (j + n) a ≡ ones_of n a
unfolding ones_of
ones_past a n zero h = ap (λ (x : ℕ). ones_of x a) (native.Mathlib.Nat.zero-add n)
ones_past a n (suc j) h =
    let e : suc j + n ≡ suc (j + n) = omega arith in
    rw (e, ones_of, bit_past a n (j + n) h (omega arith), ones_past a n j h) (native.Mathlib.Nat.zero-add (ones_of n a))

-- ## The masks of a list

module _ (s : Setting) where
  -- whether a list names port k, as present or as absent
  unfoldable pub listed : Bool → List Entry → ℕ → Bool
  listed b [] k = false
  listed b (e ∷ es) k = (beq e.present b && eqb (port_at s e.called.spelled) k) || listed b es k

  abbrev pub Known : List Entry → Type 0
  Known es = Every (λ e. among (spelled_of s.actor.signature) e.called.spelled ≡ true) es

  pub port_same : (a b : List ℕ) → among (spelled_of s.actor.signature) a ≡ true → among (spelled_of s.actor.signature) b ≡ true → port_at s a ≡ port_at s b → a ≡ b
  unfolding port_at
  port_same a b h k e = sym (index_at _ a h) ∙ ap (λ (i : ℕ). get_or (spelled_of s.actor.signature) i []) e ∙ index_at _ b k

  pub port_below : (n : List ℕ) → among (spelled_of s.actor.signature) n ≡ true → port_at s n < length s.actor.signature
  unfolding port_at
  port_below n h = rw (length_spelled s.actor.signature) at (index_below (spelled_of s.actor.signature) n h)

  pub unlisted : (b : Bool) (seen : List (List ℕ)) (es : List Entry) (n : List ℕ) → Distinct seen (entry_names es) → Known es → among (spelled_of s.actor.signature) n ≡ true → among seen n ≡ true → listed b es (port_at s n) ≡ false
  unfolding listed entry_names each
  unlisted b seen [] n d k h m = refl
  unlisted b seen (e ∷ es) n d k h m =
      go (beq e.present b) (ne_eqb _ _ (λ q. true≢false (sym m ∙ ap (among seen) (sym (port_same _ n k.0 h q)) ∙ d.0)))
      (unlisted b (e.called.spelled ∷ seen) es n d.1 k.1 h (among_there seen e.called.spelled n m))
    where
      go : (t : Bool) → eqb (port_at s e.called.spelled) (port_at s n) ≡ false → listed b es (port_at s n) ≡ false → ((t && eqb (port_at s e.called.spelled) (port_at s n)) || listed b es (port_at s n)) ≡ false
      go true p q = rw (p, q)
      go false p q = q

  pub mask_bits_law : (b : Bool) (seen : List (List ℕ)) (es : List Entry) (k : ℕ) → Distinct seen (entry_names es) → Known es → bit_of (mask_of s b es) k ≡ one_bit (listed b es k)
  unfolding mask_of listed entry_names each one_bit
  mask_bits_law b seen [] k d n = bit_zero k
  mask_bits_law b seen (e ∷ es) k d n =
      go (beq e.present b) (eqb (port_at s e.called.spelled) k) refl (unlisted b (e.called.spelled ∷ seen) es e.called.spelled d.1 n.1 n.0 (among_here seen _))
      (λ j. mask_bits_law b (e.called.spelled ∷ seen) es j d.1 n.1)
    where
      i : ℕ
      i = port_at s e.called.spelled

      go : (t u : Bool) → eqb i k ≡ u → listed b es i ≡ false → ((j : ℕ) → bit_of (mask_of s b es) j ≡ one_bit (listed b es j))
          → bit_of (elim t [ true ↦ 2 ^ i + mask_of s b es | false ↦ mask_of s b es ]) k ≡ one_bit ((t && u) || listed b es k)
      go true true q l r = rw (← (eqb-true i k q)) (bit_same i (mask_of s b es) (r i ∙ ap one_bit l))
      go true false q l r = bit_other i k (mask_of s b es) (eqb-false i k q) (r i ∙ ap one_bit l) ∙ r k
      go false u q l r = r k

  -- the bits of a cycle's mask are as the list says
  abbrev pub Told : ℕ → List Entry → Type 0
  Told mask es = (b : Bool) (k : ℕ) → k < 32 → listed b es k ≡ true → bit_of mask k ≡ one_bit b

  told_agrees : (mask : ℕ) (es : List Entry) → length s.actor.signature ≤ 32 → Known es → Told mask es → agrees s mask es ≡ true
  unfolding agrees listed is_present one_bit
  told_agrees mask [] l n t = refl
  told_agrees mask (e ∷ es) l n t =
      true_both (beq (eqb (bit_of mask (port_at s e.called.spelled)) 1) e.present) _
      (rw (t e.present (port_at s e.called.spelled) (let j = port_below e.called.spelled n.0 in omega arith) (rw (beq_refl e.present, eq-eqb (port_at s e.called.spelled) (port_at s e.called.spelled) refl))) (here e.present))
      (told_agrees mask es l n.1 (λ b k h q. t b k h (or_right (beq e.present b && eqb (port_at s e.called.spelled) k) (listed b es k) q)))
    where
      beq_refl : (b : Bool) → beq b b ≡ true
      beq_refl true = refl
      beq_refl false = refl

      here : (b : Bool) → beq (eqb (one_bit b) 1) b ≡ true
      here true = refl
      here false = refl

  agrees_told : (mask : ℕ) (es : List Entry) → agrees s mask es ≡ true → (b : Bool) (k : ℕ) → listed b es k ≡ true → bit_of mask k ≡ one_bit b
  unfolding agrees listed is_present one_bit
  agrees_told mask [] a b k h = absurd (false≢true h)
  agrees_told mask (e ∷ es) a b k h =
      let c = both_true (beq (eqb (bit_of mask (port_at s e.called.spelled)) 1) e.present) _ a in
      go e.present b (eqb (port_at s e.called.spelled) k) refl h c.0 (λ q. agrees_told mask es c.1 b k q)
    where
      i : ℕ
      i = port_at s e.called.spelled

      bit_is : (b : Bool) → beq (eqb (bit_of mask i) 1) b ≡ true → bit_of mask i ≡ one_bit b
      bit_is b h = go (eqb (bit_of mask i) 1) b refl h
        where
          go : (t b : Bool) → eqb (bit_of mask i) 1 ≡ t → beq t b ≡ true → bit_of mask i ≡ one_bit b
          go true true q h = eqb-true _ _ q
          go true false q h = absurd (false≢true h)
          go false true q h = absurd (false≢true h)
          go false false q h = let z = bit_small mask i in let y = eqb-false (bit_of mask i) 1 q in omega arith

      go : (p b u : Bool) → eqb i k ≡ u → ((beq p b && u) || listed b es k) ≡ true → beq (eqb (bit_of mask i) 1) p ≡ true → (listed b es k ≡ true → bit_of mask k ≡ one_bit b) → bit_of mask k ≡ one_bit b
      go true true true q h c r = rw (← (eqb-true i k q)) (bit_is true c)
      go true true false q h c r = r h
      go true false u q h c r = r h
      go false true u q h c r = r h
      go false false true q h c r = rw (← (eqb-true i k q)) (bit_is false c)
      go false false false q h c r = r h

-- ## A rule matches where its list agrees

-- one test that a machine makes on a bit
or_zero : (b : Bool) (m v : ℕ) → ((eqb (one_bit b) 0 || eqb m v) ≡ true) → b ≡ true → m ≡ v
unfolding one_bit
or_zero true m v h e = eqb-true m v h
or_zero false m v h e = absurd (false≢true e)

zero_or : (b : Bool) (m v : ℕ) → (b ≡ true → m ≡ v) → (eqb (one_bit b) 0 || eqb m v) ≡ true
unfolding one_bit
zero_or true m v f = eq-eqb m v (f refl)
zero_or false m v f = refl

module _ (s : Setting) (p : List ℕ) (mask r : ℕ) (es : List Entry) (n : length s.actor.signature ≤ 32) (d : Distinct [] (entry_names es)) (k : Known s es)
    (hp : present_at p r ≡ mask_of s true es) (ha : absent_at p r ≡ mask_of s false es) where
  bits_told : (m : ℕ) → bits_agree p mask r m ≡ true → (b : Bool) (i : ℕ) → i < m → listed s b es i ≡ true → bit_of mask i ≡ one_bit b
  unfolding bits_agree one_bit
  bits_told zero h b i j l = absurd (omega arith)
  bits_told (suc m) h b i j l =
      let x = both_true (bits_agree p mask r m && (eqb (bit_of (present_at p r) m) 0 || eqb (bit_of mask m) 1)) (eqb (bit_of (absent_at p r) m) 0 || eqb (bit_of mask m) 0) h in
      let y = both_true (bits_agree p mask r m) (eqb (bit_of (present_at p r) m) 0 || eqb (bit_of mask m) 1) x.0 in
      go b (dec_lt i m) (λ q. bits_told m y.0 b i q l) y.1 x.1 l
    where
      go : (b : Bool) → Dec (i < m) → (i < m → bit_of mask i ≡ one_bit b) → (eqb (bit_of (present_at p r) m) 0 || eqb (bit_of mask m) 1) ≡ true → (eqb (bit_of (absent_at p r) m) 0 || eqb (bit_of mask m) 0) ≡ true
          → listed s b es i ≡ true → bit_of mask i ≡ one_bit b
      go b (yes q) f u v l = f q
      go true (no q) f u v l = let e : i ≡ m = omega arith in rw e (or_zero (listed s true es m) _ 1 (rw (hp, mask_bits_law s true [] es m d k) at u) (rw e at l))
      go false (no q) f u v l = let e : i ≡ m = omega arith in rw e (or_zero (listed s false es m) _ 0 (rw (ha, mask_bits_law s false [] es m d k) at v) (rw e at l))

  told_bits : (m : ℕ) → ((b : Bool) (i : ℕ) → i < m → listed s b es i ≡ true → bit_of mask i ≡ one_bit b) → bits_agree p mask r m ≡ true
  unfolding bits_agree one_bit
  told_bits zero f = refl
  told_bits (suc m) f =
      true_both (bits_agree p mask r m && (eqb (bit_of (present_at p r) m) 0 || eqb (bit_of mask m) 1)) _
      (true_both (bits_agree p mask r m) _ (told_bits m (λ b i h l. f b i (omega arith) l))
      (rw (hp, mask_bits_law s true [] es m d k) (zero_or (listed s true es m) _ 1 (λ l. f true m (omega arith) l))))
      (rw (ha, mask_bits_law s false [] es m d k) (zero_or (listed s false es m) _ 0 (λ l. f false m (omega arith) l)))

  pub matches_agrees : matches_of p mask r ≡ agrees s mask es
  unfolding matches_of
  matches_agrees =
      bool_iff _ _ (λ h. told_agrees s mask es n k (λ b i j l. bits_told 32 h b i j l))
      (λ h. told_bits 32 (λ b i j l. agrees_told s mask es h b i l))
