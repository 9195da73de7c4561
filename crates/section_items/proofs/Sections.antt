-- How long the sections are, what an item gives them, and how what is put stands one after the other. Assumes nothing.
use Rattle.std.proofs.Common.{◌≡◌, ℕ, suc, ◌+◌, ◌*◌, ◌%◌, ◌^◌, ◌≤◌, Bool, true, false, eqb, List, [], ◌∷◌, ◌++◌, length, get_or, set, sym, refl, ap, ◌∙◌, subst, add-zero, add-suc, suc-add, mul-zero, mul-suc, add-one, arith, length-append}
use native.Mathlib.Numerals.{add-two}
use lib.Seq.{sets, length-sets}
use Rattle.section_items.specs.Items.{Item, counted, picked, rules_up_to, mask_up_to}
use Rattle.section_items.specs.Sections.{mark_of, width_of, numbers_of, section_of, Put}
use Rattle.section_items.specs.declared.Section.{Section}
use Rattle.section_items.specs.declared.Section.TheVariants.{Ports, Memories, Groups, Rules}

-- ---- how long

pub numbers_long : (s : Section) (lengths : List ℕ) (k : ℕ) (i : Item) (l : List Item) → length (numbers_of s lengths k i l) ≡ width_of s
unfolding numbers_of
numbers_long Ports lengths k i l = refl
numbers_long Memories lengths k i l = refl
numbers_long Groups lengths k i l = refl
numbers_long Rules lengths k i l = refl

picked_long : (op w : ℕ) (give : ℕ → Item → List Item → List ℕ) → ((k : ℕ) (i : Item) (l : List Item) → length (give k i l) ≡ w) → (k : ℕ) (l : List Item) → length (picked op give k l) ≡ w * counted op l
unfolding picked counted
picked_long op w give h k [] = sym (mul-zero w)
picked_long op w give h k (i ∷ l) = go (eqb i.op op) (picked_long op w give h (suc k) l) (picked_long op w give h k l)
  where
    go : (b : Bool) → length (picked op give (suc k) l) ≡ w * counted op l → length (picked op give k l) ≡ w * counted op l → length {A = ℕ} (elim b [ true ↦ give k i l ++ picked op give (suc k) l | false ↦ picked op give k l ]) ≡ w * elim b [ true ↦ suc (counted op l) | false ↦ counted op l ]
    go true e q = length-append (give k i l) (picked op give (suc k) l) ∙ omega (arith, h k i l, mul-suc w (counted op l))
    go false e q = q

pub section_long : (s : Section) (lengths : List ℕ) (l : List Item) → length (section_of s lengths l) ≡ 1 + width_of s * counted (mark_of s) l
unfolding section_of
section_long s lengths l = let e = picked_long (mark_of s) (width_of s) (numbers_of s lengths) (numbers_long s lengths) 0 l in omega arith

-- ---- one after the other

sets_append : (s : List ℕ) (b : ℕ) (l r : List ℕ) → sets s b (l ++ r) ≡ sets (sets s b l) (b + length l) r
sets_append s b [] r = rw add-zero
sets_append s b (a ∷ l) r = sets_append _ (suc b) l r ∙ rw (suc-add, add-suc)

-- what is put after what was put
pub put_more : {s t : List ℕ} {b n : ℕ} {l : List ℕ} (r : List ℕ) → Put s b l n t → sets t n r ≡ sets s b (l ++ r)
put_more {s} {b = b} {l = l} r p = cc (p.ends, p.holds, sets_append s b l r)

pub put_length : {s t : List ℕ} {b n : ℕ} {l : List ℕ} → Put s b l n t → length t ≡ length s
put_length {s} {b = b} {l = l} p = ap length p.holds ∙ length-sets s b l

-- ---- what an item gives, number by number

pub width_as : {s s' : Section} (at m : ℕ) → s ≡ s' → at + width_of s ≤ m → at + width_of s' ≤ m
width_as at m e h = subst (λ (s : Section). at + width_of s ≤ m) e h

module _ (plan : List ℕ) (at : ℕ) (lengths : List ℕ) (k : ℕ) (i : Item) (l : List Item) {s : Section} where
  put_as : {s' : Section} {n : ℕ} {t : List ℕ} → s ≡ s' → Put plan at (numbers_of s' lengths k i l) n t → Put plan at (numbers_of s lengths k i l) n t
  put_as {n = n} {t = t} e p = subst (λ (s : Section). Put plan at (numbers_of s lengths k i l) n t) (sym e) p

  pub put_port : s ≡ Ports → Put plan at (numbers_of s lengths k i l) (at + 1) (set plan at i.a)
  unfolding numbers_of
  put_port e = put_as e (record { ends = refl; holds = refl })

  pub put_memory : s ≡ Memories → Put plan at (numbers_of s lengths k i l) (at + 2) (set (set plan at i.a) (at + 1) i.b)
  unfolding numbers_of
  put_memory e = put_as e (record { ends = refl; holds = rw add-one })

  pub put_group : s ≡ Groups → {r : ℕ} → r ≡ rules_up_to l → Put plan at (numbers_of s lengths k i l) (at + 1) (set plan at r)
  unfolding numbers_of
  put_group e q = put_as e (record { ends = refl; holds = rw q })

  pub put_rule : s ≡ Rules → {p q r : ℕ} → p ≡ mask_up_to 1 l % 2 ^ 32 → q ≡ mask_up_to 0 l % 2 ^ 32 → r ≡ get_or lengths k 0 → Put plan at (numbers_of s lengths k i l) (at + 3) (set (set (set plan at p) (at + 1) q) (at + 2) r)
  unfolding numbers_of
  put_rule e x y z = put_as e (record { ends = refl; holds = rw (x, y, z, add-one, add-two) })
