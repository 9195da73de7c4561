-- The items from a place of the numbers on: the one that stands there and those after it; what is counted, picked and summed of them, item by item. Assumes nothing.
use Rattle.std.proofs.Common.{◌≡◌, ℕ, suc, ◌+◌, ◌-◌, ◌*◌, ◌%◌, ◌^◌, ◌<◌, ◌≤◌, Bool, true, false, ◌&&◌, eqb, List, [], ◌∷◌, ◌++◌, length, get_or, take, drop, sym, refl, ap, ◌∙◌, add-zero, one-mul, arith, length-drop, get_or-drop, drop-drop, pow-add, eq-eqb, ne_eqb}
use Rattle.std.proofs.Math.Seq.{take-length}
use native.Mathlib.Nat.{mod-add-mod, add-mod-mod, mul-mod_right}
use Rattle.settled.specs.Form.{PRESENT, RULE, RULED, OR}
use Rattle.section_items.specs.Items.{Item, items_of, counted, picked, rules_up_to, bit_of, mask_up_to}
use Rattle.section_items.specs.Sections.{items_from, item_at}

-- ---- six numbers are an item

whole : (l : List ℕ) → 6 ≤ length l → items_of l ≡ record { op = get_or l 0 0; a = get_or l 2 0; b = get_or l 3 0 } ∷ items_of (drop 6 l)
unfolding items_of
whole [] h = absurd (omega arith)
whole (o ∷ []) h = absurd (omega arith)
whole (o ∷ p ∷ []) h = absurd (omega arith)
whole (o ∷ p ∷ a ∷ []) h = absurd (omega arith)
whole (o ∷ p ∷ a ∷ b ∷ []) h = absurd (omega arith)
whole (o ∷ p ∷ a ∷ b ∷ c ∷ []) h = absurd (omega arith)
whole (o ∷ p ∷ a ∷ b ∷ c ∷ d ∷ l) h = refl

part : (l : List ℕ) → length l < 6 → items_of l ≡ []
unfolding items_of
part [] h = refl
part (o ∷ []) h = refl
part (o ∷ p ∷ []) h = refl
part (o ∷ p ∷ a ∷ []) h = refl
part (o ∷ p ∷ a ∷ b ∷ []) h = refl
part (o ∷ p ∷ a ∷ b ∷ c ∷ []) h = refl
part (o ∷ p ∷ a ∷ b ∷ c ∷ d ∷ l) h = absurd (omega arith)

module _ (t : List ℕ) (i : ℕ) where
  left : length (drop i t) ≡ length t - i
  left = length-drop i t

  pub no_item : length t < i + 6 → items_from t i ≡ []
  no_item h = part (drop i t) (let e = left in omega arith)

  -- j is the place after item i
  module _ (j : ℕ) (e : j ≡ i + 6) (h : j ≤ length t) where
    number : (k : ℕ) → k < 6 → get_or (drop i t) k 0 ≡ get_or t (i + k) 0
    number k q = get_or-drop i t k 0

    pub item : items_from t i ≡ item_at t i ∷ items_from t j
    item =
        let a = number 0 (omega arith) in let b = number 2 (omega arith) in let c = number 3 (omega arith) in let d = drop-drop 6 i t ∙ ap (λ (k : ℕ). drop k t) (sym e) in let z = add-zero i in
        whole (drop i t) (let m = left in omega arith) ∙ cc

    -- ---- what is counted

    pub count_here : {op : ℕ} → get_or t i 0 ≡ op → counted op (items_from t i) ≡ suc (counted op (items_from t j))
    unfolding counted
    count_here q = rw item (simp (counted, eq-eqb _ _ q))

    pub count_past : {op : ℕ} → (get_or t i 0 ≡ op → ⊥) → counted op (items_from t i) ≡ counted op (items_from t j)
    unfolding counted
    count_past q = rw item (simp (counted, ne_eqb _ _ q))

    -- ---- what is picked

    module _ {op : ℕ} (give : ℕ → Item → List Item → List ℕ) (k : ℕ) where
      pub pick_here : get_or t i 0 ≡ op → picked op give k (items_from t i) ≡ give k (item_at t i) (items_from t j) ++ picked op give (suc k) (items_from t j)
      unfolding picked
      pick_here q = rw item (simp (picked, eq-eqb _ _ q))

      pub pick_past : (get_or t i 0 ≡ op → ⊥) → picked op give k (items_from t i) ≡ picked op give k (items_from t j)
      unfolding picked
      pick_past q = rw item (simp (picked, ne_eqb _ _ q))

    -- ---- the rules of a group

    pub rules_group : get_or t i 0 ≡ OR → rules_up_to (items_from t i) ≡ 0
    unfolding rules_up_to
    rules_group q = rw item (simp (rules_up_to, eq-eqb _ _ q))

    pub rules_here : get_or t i 0 ≡ RULE → rules_up_to (items_from t i) ≡ suc (rules_up_to (items_from t j))
    unfolding rules_up_to
    rules_here q = rw (item, q)

    pub rules_past : (get_or t i 0 ≡ OR → ⊥) → (get_or t i 0 ≡ RULE → ⊥) → rules_up_to (items_from t i) ≡ rules_up_to (items_from t j)
    unfolding rules_up_to
    rules_past p q = rw item (simp (rules_up_to, ne_eqb _ _ p, ne_eqb _ _ q))

    -- ---- the mask of a rule

    pub mask_ruled : (b : ℕ) → get_or t i 0 ≡ RULED → mask_up_to b (items_from t i) ≡ 0
    unfolding mask_up_to
    mask_ruled b q = rw item (simp (mask_up_to, eq-eqb _ _ q))

    pub mask_more : (b : ℕ) → (get_or t i 0 ≡ RULED → ⊥) → mask_up_to b (items_from t i) ≡ bit_of b (item_at t i) + mask_up_to b (items_from t j)
    unfolding mask_up_to
    mask_more b q = rw item (simp (mask_up_to, ne_eqb _ _ q))

  module _ (h : length t < i + 6) where
    pub count_end : (op : ℕ) → counted op (items_from t i) ≡ 0
    unfolding counted
    count_end op = rw (no_item h)

    pub pick_end : (op : ℕ) (give : ℕ → Item → List Item → List ℕ) (k : ℕ) → picked op give k (items_from t i) ≡ []
    unfolding picked
    pick_end op give k = rw (no_item h)

    pub rules_end : rules_up_to (items_from t i) ≡ 0
    unfolding rules_up_to
    rules_end = rw (no_item h)

    pub mask_end : (b : ℕ) → mask_up_to b (items_from t i) ≡ 0
    unfolding mask_up_to
    mask_end b = rw (no_item h)

-- ---- the bit of an item, in 32 bits

module _ (i : Item) (b : ℕ) where
  pub bit_other : (i.op ≡ PRESENT → ⊥) → 0 ≡ bit_of b i % 2 ^ 32
  unfolding bit_of
  bit_other e = sym (simp (bit_of, ne_eqb _ _ e))

  pub bit_unwanted : (i.b ≡ b → ⊥) → 0 ≡ bit_of b i % 2 ^ 32
  unfolding bit_of
  bit_unwanted e = go (eqb i.op PRESENT)
    where
      go : (p : Bool) → 0 ≡ elim (p && eqb i.b b) [ true ↦ 2 ^ i.a | false ↦ 0 ] % 2 ^ 32
      go true = sym (rw (ne_eqb _ _ e))
      go false = refl

  module _ (e : i.op ≡ PRESENT) (q : i.b ≡ b) where
    listed : bit_of b i ≡ 2 ^ i.a
    unfolding bit_of
    listed = simp (bit_of, eq-eqb _ _ e, eq-eqb _ _ q)

    pub bit_here : (1 * 2 ^ i.a) % 2 ^ 32 ≡ bit_of b i % 2 ^ 32
    bit_here = ap (λ (x : ℕ). x % 2 ^ 32) (one-mul (2 ^ i.a) ∙ sym listed)

    pub bit_past : 32 ≤ i.a → 0 ≡ bit_of b i % 2 ^ 32
    bit_past h = let e : i.a ≡ 32 + (i.a - 32) = omega arith in sym (ap (λ (x : ℕ). x % 2 ^ 32) (listed ∙ ap (λ (x : ℕ). 2 ^ x) e ∙ pow-add 2 32 (i.a - 32)) ∙ mul-mod_right (2 ^ 32) (2 ^ (i.a - 32)))

-- a sum that wraps, with a part that has wrapped before
pub wrapped : (x b r m : ℕ) {y : ℕ} → y ≡ b % m → ((x + y) % m + r) % m ≡ (x + (b + r)) % m
wrapped x b r m {y} e =
    let p : x + b % m + r ≡ x + r + b % m = omega arith in let q : x + r + b ≡ x + (b + r) = omega arith in
    ap (λ (z : ℕ). ((x + z) % m + r) % m) e ∙ mod-add-mod (x + b % m) m r ∙ ap (λ (z : ℕ). z % m) p ∙ add-mod-mod (x + r) b m ∙ ap (λ (z : ℕ). z % m) q

-- nothing is left to add
pub no_more_law : (m : ℕ) {x r : ℕ} → x ≡ x % m → r ≡ 0 → x ≡ (x + r) % m
no_more_law m {x} e q = e ∙ ap (λ (z : ℕ). z % m) (sym (ap (λ (z : ℕ). x + z) q ∙ add-zero x))

-- the part of a list from a place on
pub rest : (t : List ℕ) (k : ℕ) → take (length t - k) (drop k t) ≡ drop k t
rest t k = ap (λ (n : ℕ). take n (drop k t)) (sym (length-drop k t)) ∙ take-length (drop k t)
