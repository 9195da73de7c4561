-- The width that a plan's items name is the width of the value that they work out.
use Prim.Native.Nat.{ℕ, ◌+◌, ◌*◌, ◌^◌, max, ◌≤◌, ◌<◌}
use mathlib.Core.Path.{◌≡◌, refl, sym, ap, ap₂, ◌∙◌}
use mathlib.Core.List.{List, [], ◌∷◌}
use mathlib.Core.Bool.{Bool, true, false, ◌&&◌}
use mathlib.Core.Option.{Option, none, some}
use native.Mathlib.Omega.{arith}
use lib.ListN.{get_or}
use lib.Dec.{leb, ltb}
use borrow.Author.Tests.{leb-true, ltb-true}
use Rattle.language.specs.Text.{same}
use Rattle.language.specs.Tree.{Expr, plain, sized, copies, read, cell, bit, range, inside, joined, beside, unary, binary, choice, either, select, arm, default}
use Rattle.language.specs.Parts.{start}
use Rattle.language.specs.Values.{range_width, unary_width, binary_width}
use Rattle.language.specs.Sizes.{Setting, Extent, wide, faulty, one_part, two_parts, limited, Let, let_named, used, breadth_of, amount_of, position_at, positions, read_extent, extent, fitted}
use Rattle.language.specs.Meaning.{Bits, Given, position_in, read_value, bits_in}
use Rattle.plan_of.specs.PlanOf.{Slot, extents, width_of}

-- ## Two lists of `let`s with the same names, whose things are related

abbrev pub Paired : {A B : Type 0} → (A → B → Type 0) → List (Let A) → List (Let B) → Type 0
Paired R [] [] = Unit {0}
Paired R [] (m ∷ ms) = ⊥
Paired R (l ∷ ls) [] = ⊥
Paired R (l ∷ ls) (m ∷ ms) = (l.called ≡ m.called) × R l.holds m.holds × Paired R ls ms

abbrev pub Found : {A B : Type 0} → (A → B → Type 0) → Option A → Option B → Type 0
Found R none none = Unit {0}
Found R none (some y) = ⊥
Found R (some x) none = ⊥
Found R (some x) (some y) = R x y

pub paired_map : {A B : Type 0} (R S : A → B → Type 0) → ((x : A) (y : B) → R x y → S x y) → (l : List (Let A)) (m : List (Let B)) → Paired R l m → Paired S l m
paired_map R S f [] [] p = tt
paired_map R S f [] (m ∷ ms) p = absurd p
paired_map R S f (l ∷ ls) [] p = absurd p
paired_map R S f (l ∷ ls) (m ∷ ms) p = (p.0, f l.holds m.holds p.1, paired_map R S f ls ms p.2)

pub found : {A B : Type 0} (R : A → B → Type 0) (l : List (Let A)) (m : List (Let B)) (n : List ℕ) → Paired R l m → Found R (let_named l n) (let_named m n)
unfolding let_named
found R [] [] n p = tt
found R [] (m ∷ ms) n p = absurd p
found R (l ∷ ls) [] n p = absurd p
found {A} {B} R (l ∷ ls) (m ∷ ms) n p = rw p.0 (go (same m.called n) p.1 (found R ls ms n p.2))
  where
    go : (b : Bool) → R l.holds m.holds → Found R (let_named ls n) (let_named ms n)
        → Found {A = A} {B = B} R (elim b [ true ↦ some l.holds | false ↦ let_named ls n ]) (elim b [ true ↦ some m.holds | false ↦ let_named ms n ])
    go true r f = r
    go false r f = f

-- ## An extent that is a width

abbrev pub IsWide : Extent → Type 0
IsWide (wide w) = Unit {0}
IsWide (faulty l) = ⊥

pub wide_at_law : (x : Extent) → IsWide x → x ≡ wide (width_of x)
unfolding width_of
wide_at_law (wide w) h = refl
wide_at_law (faulty l) h = absurd h

pub width_of_law : (x : Extent) (w : ℕ) → x ≡ wide w → width_of x ≡ w
unfolding width_of
width_of_law x w e = rw e

pub one_wide : (x : Extent) (f : ℕ → Extent) → IsWide (one_part x f) → IsWide x × IsWide (f (width_of x)) × (one_part x f ≡ f (width_of x))
unfolding one_part width_of
one_wide (wide w) f h = (tt, h, refl)
one_wide (faulty l) f h = absurd h

pub two_wide : (x y : Extent) (f : ℕ → ℕ → Extent) → IsWide (two_parts x y f) → IsWide x × IsWide y × IsWide (f (width_of x) (width_of y)) × (two_parts x y f ≡ f (width_of x) (width_of y))
unfolding two_parts width_of
two_wide (wide m) (wide n) f h = (tt, tt, h, refl)
two_wide (wide m) (faulty l) f h = absurd h
two_wide (faulty l) (wide n) f h = absurd h
two_wide (faulty k) (faulty l) f h = absurd h

-- a choice: the condition's width does not count
abbrev pub chosen_extent : Extent → Extent → Extent → Extent
chosen_extent c x y = two_parts c (two_parts x y (λ m n. wide (max m n))) (λ k w. wide w)

pub choice_wide : (c x y : Extent) → IsWide (chosen_extent c x y) → IsWide c × IsWide x × IsWide y × (chosen_extent c x y ≡ wide (max (width_of x) (width_of y)))
choice_wide c x y h =
    let a = two_wide c (two_parts x y (λ m n. wide (max m n))) (λ k w. wide w) h in
    let b = two_wide x y (λ m n. wide (max m n)) a.1 in
    (a.0, b.0, b.1, a.3 ∙ sym (wide_at_law _ a.1) ∙ b.3)

pub limited_wide : (p w : ℕ) → IsWide (limited p w) → (w ≤ 64) × (limited p w ≡ wide w)
unfolding limited
limited_wide p w h = go (leb w 64) refl h
  where
    go : (b : Bool) → leb w 64 ≡ b → IsWide (elim b [ true ↦ wide w | false ↦ faulty (p ∷ []) ]) → (w ≤ 64) × ((elim b [ true ↦ wide w | false ↦ faulty (p ∷ []) ]) ≡ wide w)
    go true e k = (leb-true _ _ e, refl)
    go false e k = absurd k

pub sized_wide : (w v p : ℕ) → IsWide (elim (leb w 64) [ true ↦ elim (ltb v (2 ^ w)) [ true ↦ wide w | false ↦ faulty (p ∷ []) ] | false ↦ faulty (p ∷ []) ])
    → (w ≤ 64) × (v < 2 ^ w) × ((elim (leb w 64) [ true ↦ elim (ltb v (2 ^ w)) [ true ↦ wide w | false ↦ faulty (p ∷ []) ] | false ↦ faulty (p ∷ []) ]) ≡ wide w)
sized_wide w v p h = go (leb w 64) (ltb v (2 ^ w)) refl refl h
  where
    go : (b c : Bool) → leb w 64 ≡ b → ltb v (2 ^ w) ≡ c → IsWide (elim b [ true ↦ elim c [ true ↦ wide w | false ↦ faulty (p ∷ []) ] | false ↦ faulty (p ∷ []) ])
        → (w ≤ 64) × (v < 2 ^ w) × ((elim b [ true ↦ elim c [ true ↦ wide w | false ↦ faulty (p ∷ []) ] | false ↦ faulty (p ∷ []) ]) ≡ wide w)
    go true true e d k = (leb-true _ _ e, ltb-true _ _ d, refl)
    go true false e d k = absurd k
    go false true e d k = absurd k
    go false false e d k = absurd k

pub positions_wide : (s : Setting) (p w : ℕ) (i j : Option ℕ) → IsWide (positions s p w i j)
    → (position_in i < w) × (position_in j < w) × (positions s p w i j ≡ wide (range_width (position_in i) (position_in j)))
unfolding positions position_in
positions_wide s p w (some i) (some j) h = go (ltb i w) (ltb j w) refl refl h
  where
    go : (b c : Bool) → ltb i w ≡ b → ltb j w ≡ c → IsWide (elim (b && c) [ true ↦ wide (range_width i j) | false ↦ faulty (p ∷ []) ])
        → (i < w) × (j < w) × ((elim (b && c) [ true ↦ wide (range_width i j) | false ↦ faulty (p ∷ []) ]) ≡ wide (range_width i j))
    go true true e d k = (ltb-true _ _ e, ltb-true _ _ d, refl)
    go true false e d k = absurd k
    go false true e d k = absurd k
    go false false e d k = absurd k
positions_wide s p w (some i) none h = absurd h
positions_wide s p w none (some j) h = absurd h
positions_wide s p w none none h = absurd h

pub fitted_wide : (s : Setting) (lets : List (Let Extent)) (w : ℕ) (e : Expr) → IsWide (fitted s lets w e) → IsWide (extent s lets e) × (width_of (extent s lets e) ≤ w) × (fitted s lets w e ≡ wide w)
unfolding fitted
fitted_wide s lets w e h =
    let a = one_wide (extent s lets e) _ h in
    let b = go (leb (width_of (extent s lets e)) w) refl a.1 in
    (a.0, b.0, a.2 ∙ b.1)
  where
    go : (b : Bool) → leb (width_of (extent s lets e)) w ≡ b → IsWide (elim b [ true ↦ wide w | false ↦ faulty (start e ∷ []) ])
        → (width_of (extent s lets e) ≤ w) × ((elim b [ true ↦ wide w | false ↦ faulty (start e ∷ []) ]) ≡ wide w)
    go true e k = (leb-true _ _ e, refl)
    go false e k = absurd k

-- ## Widths agree

pub range_one : (i : ℕ) → range_width i i ≡ 1
unfolding range_width
range_one i = omega arith

-- the slot's extent is the width of what the `let` holds
abbrev pub SameWidth : Slot → Bits → Type 0
SameWidth x y = x.holds ≡ wide y.wide

pub extents_named : (lets : List (Let Slot)) (bits : List (Let Bits)) → Paired SameWidth lets bits → Paired (λ x y. x ≡ wide y.wide) (extents lets) bits
unfolding extents
extents_named [] [] p = tt
extents_named [] (m ∷ ms) p = absurd p
extents_named (l ∷ ls) [] p = absurd p
extents_named (l ∷ ls) (m ∷ ms) p = (p.0, p.1, extents_named ls ms p.2)

module _ (s : Setting) (g : Given) (lets : List (Let Slot)) (bits : List (Let Bits)) (same_widths : Paired SameWidth lets bits) where
  read_width : (n : List ℕ) → read_extent s (extents lets) n ≡ wide (read_value s g bits n).wide
  unfolding read_extent read_value used
  read_width n = go (let_named (extents lets) n) (let_named bits n) (found (λ x y. x ≡ wide y.wide) (extents lets) bits n (extents_named lets bits same_widths))
    where
      go : (x : Option Extent) (y : Option Bits) → Found (λ x y. x ≡ wide y.wide) x y
          → (elim x [ some x ↦ used x | none ↦ wide (Rattle.language.specs.Widths.port_width s.actor s.widths n) ])
          ≡ wide (elim y as (λ _. Bits) [ some x ↦ x | none ↦ record { wide = Rattle.language.specs.Widths.port_width s.actor s.widths n; value = get_or g.values (Rattle.language.specs.Meaning.port_at s n) 0 } ]).wide
      go none none f = refl
      go none (some y) f = absurd f
      go (some x) none f = absurd f
      go (some x) (some y) f = rw f

  abbrev wide_at : Expr → Extent
  wide_at e = extent s (extents lets) e

  choice_width : {u v : ℕ} (c x y : Extent) → IsWide (chosen_extent c x y) → (IsWide x → x ≡ wide u) → (IsWide y → y ≡ wide v) → chosen_extent c x y ≡ wide (max u v)
  choice_width c x y h f g = let a = choice_wide c x y h in a.3 ∙ ap₂ (λ (m n : ℕ). wide (max m n)) (width_of_law x _ (f a.1)) (width_of_law y _ (g a.2))

  -- an expression without a fault has the width of its value
  pub width_agrees : (k : ℕ) (e : Expr) → IsWide (wide_at e) → wide_at e ≡ wide (bits_in s g bits k e).wide
  unfolding extent bits_in
  width_agrees k (plain n) h = refl
  width_agrees k (sized w a) h = (sized_wide (breadth_of s w) (amount_of s a) _ h).2
  width_agrees k (copies n e) h =
      let a = one_wide (wide_at e) _ h in a.2 ∙ (limited_wide _ _ a.1).1 ∙ ap (λ (w : ℕ). wide (n.value * w)) (width_of_law (wide_at e) _ (width_agrees k e a.0))
  width_agrees k (read n) h = read_width n.spelled
  width_agrees k (cell n a) h = (one_wide (wide_at a) _ h).2
  width_agrees k (bit e p i) h = let a = one_wide (wide_at e) _ h in a.2 ∙ (positions_wide s p _ (position_at s i) (position_at s i) a.1).2 ∙ ap wide (range_one (position_in (position_at s i)))
  width_agrees k (range e p i j) h = let a = one_wide (wide_at e) _ h in a.2 ∙ (positions_wide s p _ (position_at s i) (position_at s j) a.1).2
  width_agrees k (inside p e) h = width_agrees k e h
  width_agrees k (joined p e) h = let a = one_wide (wide_at e) _ h in a.2 ∙ (limited_wide _ _ a.1).1 ∙ ap wide (width_of_law (wide_at e) _ (width_agrees k e a.0))
  width_agrees k (beside x y) h =
      let a = two_wide (wide_at x) (wide_at y) _ h in
      a.3 ∙ ap₂ (λ (m n : ℕ). wide (m + n)) (width_of_law (wide_at x) _ (width_agrees k x a.0)) (width_of_law (wide_at y) _ (width_agrees k y a.1))
  width_agrees k (unary u e) h =
      let a = one_wide (wide_at e) _ h in a.2 ∙ ap (λ (w : ℕ). wide (unary_width u.which w)) (width_of_law (wide_at e) _ (width_agrees k e a.0))
  width_agrees k (binary o x y) h =
      let a = two_wide (wide_at x) (wide_at y) _ h in
      a.3 ∙ (limited_wide _ _ a.2).1
      ∙ ap₂ (λ (m n : ℕ). wide (binary_width o m n)) (width_of_law (wide_at x) _ (width_agrees k x a.0)) (width_of_law (wide_at y) _ (width_agrees k y a.1))
  width_agrees k (choice c x y) h = choice_width (wide_at c) (wide_at x) (wide_at y) h (λ q. width_agrees k x q) (λ q. width_agrees k y q)
  width_agrees k (either p c x y) h = choice_width (wide_at c) (wide_at x) (wide_at y) h (λ q. width_agrees k x q) (λ q. width_agrees k y q)
  width_agrees k (select p e a) h =
      let t = two_wide (wide_at e) (wide_at a) _ h in t.3 ∙ sym (wide_at_law (wide_at a) t.1) ∙ width_agrees (bits_in s g bits k e).value a t.1
  width_agrees k (arm n e r) h =
      let a = two_wide (wide_at e) (wide_at r) _ h in
      a.3 ∙ ap₂ (λ (m n : ℕ). wide (max m n)) (width_of_law (wide_at e) _ (width_agrees k e a.0)) (width_of_law (wide_at r) _ (width_agrees k r a.1))
  width_agrees k (default p e) h = width_agrees k e h
