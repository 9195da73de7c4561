-- The turns of the loops that put numbers: what is left to put, put after what stands, makes the whole. Assumes nothing.
use mathlib.Core.Path.{◌≡◌, refl, sym, ap, subst, ◌∙◌}
use mathlib.Core.List.{List, [], ◌∷◌, ◌++◌}
use Prim.Native.Nat.{ℕ, ◌+◌, ◌≤◌, ◌<◌}
use native.Mathlib.Omega.{arith}
use native.Mathlib.Numerals.{add-one}
use lib.ListN.{length, get_or, set, length-append}
use lib.Seq.{sets}
use Rattle.section_items.specs.Items.{counted, picked}
use Rattle.section_items.specs.Sections.{items_from, item_at, mark_of, width_of, numbers_of, section_of, Put}
use Rattle.section_items.specs.declared.Section.{Section}
use Rattle.section_items.proofs.Items.{pick_here, pick_past, pick_end}
use Rattle.section_items.proofs.Sections.{numbers_long, put_more, put_length}

-- ---- a section

module _ (s : Section) (t : List ℕ) (lengths : List ℕ) (op : ℕ) where
  -- what the items from a place on give, where k came before
  abbrev pub left : ℕ → ℕ → List ℕ
  left k i = picked op (numbers_of s lengths) k (items_from t i)

  -- the table and the place where the loop begins; the turn; the table and the place now
  pub record Turn (plan₀ : List ℕ) (at₀ k i : ℕ) (plan : List ℕ) (at : ℕ) : Type 0 where
    pub long : length plan ≡ length plan₀
    pub ends : at + length (left k i) ≡ at₀ + length (left 0 0)
    pub holds : sets plan at (left k i) ≡ sets plan₀ at₀ (left 0 0)

module _ {s : Section} {t : List ℕ} {lengths : List ℕ} {op : ℕ} where
  pub turn_start : {plan : List ℕ} {at : ℕ} → Turn s t lengths op plan at 0 0 plan at
  turn_start = record { long = refl; ends = refl; holds = refl }

  pub turn_as : {plan₀ plan plan' : List ℕ} {at₀ at at' k k' i i' : ℕ} → plan' ≡ plan → at' ≡ at → k' ≡ k → i' ≡ i → Turn s t lengths op plan₀ at₀ k i plan at → Turn s t lengths op plan₀ at₀ k' i' plan' at'
  turn_as {plan₀} {plan} {plan'} {at₀} {at} {at'} {k} {k'} {i} {i'} p q r e v =
      subst (λ (x : List ℕ). Turn s t lengths op plan₀ at₀ k' i' x at') (sym p)
      (subst (λ (x : ℕ). Turn s t lengths op plan₀ at₀ k' i' plan x) (sym q)
      (subst (λ (x : ℕ). Turn s t lengths op plan₀ at₀ x i' plan at) (sym r) (subst (λ (x : ℕ). Turn s t lengths op plan₀ at₀ k x plan at) (sym e) v)))

  module _ {plan₀ plan : List ℕ} {at₀ at k i : ℕ} (v : Turn s t lengths op plan₀ at₀ k i plan at) where
    module _ (h : i + 6 ≤ length t) where
      pub turn_past : (get_or t i 0 ≡ op → ⊥) → Turn s t lengths op plan₀ at₀ k (i + 6) plan at
      turn_past e =
          let q = sym (pick_past t i (i + 6) refl h (numbers_of s lengths) k e) in
          record { long = v.long; ends = ap (λ (l : List ℕ). at + length l) q ∙ v.ends; holds = ap (sets plan at) q ∙ v.holds }

      module _ (e : get_or t i 0 ≡ op) where
        abbrev here : List ℕ
        here = numbers_of s lengths k (item_at t i) (items_from t (i + 6))

        split : left s t lengths op k i ≡ here ++ left s t lengths op (k + 1) (i + 6)
        split = rw (add-one k) (pick_here t i (i + 6) refl h (numbers_of s lengths) k e)

        split_long : length (left s t lengths op k i) ≡ width_of s + length (left s t lengths op (k + 1) (i + 6))
        split_long = ap length split ∙ length-append here _ ∙ ap (λ (w : ℕ). w + length (left s t lengths op (k + 1) (i + 6))) (numbers_long s lengths k (item_at t i) (items_from t (i + 6)))

        -- the item's numbers have room where the section's have
        pub turn_room : {m : ℕ} → at₀ + length (left s t lengths op 0 0) ≤ m → at + width_of s ≤ m
        turn_room g = omega (arith, split_long, v.ends)

        pub turn_more : {plan' : List ℕ} {at' : ℕ} → Put plan at here at' plan' → Turn s t lengths op plan₀ at₀ (k + 1) (i + 6) plan' at'
        turn_more p =
            record {
              long = put_length p ∙ v.long;
              ends = omega (arith, p.ends, v.ends, split_long, numbers_long s lengths k (item_at t i) (items_from t (i + 6)));
              holds = put_more _ p ∙ ap (sets plan at) (sym split) ∙ v.holds;
            }

    module _ (h : length t < i + 6) where
      none : left s t lengths op k i ≡ []
      none = pick_end t i h op (numbers_of s lengths) k

      turn_ends : at ≡ at₀ + length (left s t lengths op 0 0)
      turn_ends = omega (arith, ap length none, v.ends)

      turn_holds : plan ≡ sets plan₀ at₀ (left s t lengths op 0 0)
      turn_holds = sym (ap (sets plan at) none) ∙ v.holds

-- the section by its operation
module _ (s : Section) (t : List ℕ) (lengths : List ℕ) {op : ℕ} (m : op ≡ mark_of s) where
  section_is : section_of s lengths (items_from t 0) ≡ counted op (items_from t 0) ∷ left s t lengths op 0 0
  unfolding section_of
  section_is = rw m

  pub section_room : (b : ℕ) {p : ℕ} → b + length (section_of s lengths (items_from t 0)) ≤ p → b + 1 + length (left s t lengths op 0 0) ≤ p
  section_room b h = omega (arith, ap length section_is)

  pub section_put : {plan₀ plan : List ℕ} {from c at k i : ℕ} → c ≡ counted op (items_from t 0) → Turn s t lengths op (set plan₀ from c) (from + 1) k i plan at → length t < i + 6 → Put plan₀ from (section_of s lengths (items_from t 0)) at plan
  section_put {plan₀} {from = from} e v h =
      record {
        ends = omega (arith, turn_ends v h, ap length section_is);
        holds = turn_holds v h ∙ rw (section_is, e, add-one from);
      }
