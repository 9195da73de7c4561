-- The settled items of an expression leave its extent and its code, by induction on it. Assumes nothing.
use mathlib.Core.Path.{◌≡◌, refl, ap, ◌∙◌, subst}
use mathlib.Core.Bool.{Bool, true, false, ◌&&◌, and-false}
use mathlib.Core.List.{List, [], ◌∷◌, ◌++◌}
use mathlib.Core.Option.{Option, none, some}
use Prim.Native.Nat.{ℕ, ◌+◌, ◌*◌, ◌^◌, ◌≤◌, ◌<◌}
use native.Mathlib.Omega.{arith}
use native.Mathlib.Numerals.{add-one}
use lib.Dec.{leb, ltb}
use lib.ListN.{get_or}
use borrow.Author.Tests.{leb-true, ltb-true, le-ltb}
use Rattle.language.specs.Text.{Name, same}
use Rattle.language.specs.Words.{Numeral}
use Rattle.language.specs.Tree.{Ty, Prefix, Breadth, bits, Amount, given, value, Expr, plain, sized, copies, read, cell, bit, range, inside, joined, beside, unary, binary, choice, either, select, arm, default}
use Rattle.language.specs.Parts.{each, start, breadth_start}
use Rattle.language.specs.Values.{unary_width, binary_width, range_width}
use Rattle.language.specs.Widths.{port_width, memory_width}
use Rattle.language.specs.Sizes.{Setting, Extent, wide, faulty, one_part, two_parts, faults_of, limited, Let, let_named, used, breadth_of, amount_of, positions, position_at, read_extent, extent}
use Rattle.language.specs.Meaning.{port_at, position_in}
use Rattle.language.specs.declared.Unary.{Unary}
use Rattle.language.specs.declared.Unary.TheVariants.{Invert, Plus, Not, All, NotAll, Any, NotAny, Odd, NotOdd}
use Rattle.language.specs.declared.Binary.{Binary}
use Rattle.language.specs.declared.Binary.TheVariants.{Multiply, Divide, Remainder, Add, Subtract, Left as LeftShift, Right, Less, AtMost, Greater, AtLeast, Equal, Unequal, And, NotAnd, Xor, NotXor, Or, NotOr, Both, Either}
use Rattle.plan.specs.declared.Item.TheVariants.{Port, Let as Kept, Range, Copies, Before, Between, Arm, Keep}
use Rattle.plan.specs.Items.{unary_number, binary_number, unary_item, binary_item}
use Rattle.plan_of.specs.PlanOf.{Slot, extents, width_of, wide_of, read_item, memory_at, code}
use Rattle.plan_of.specs.Formed.{Kind, whole, parts, arms, IsPart, FormedAt}
use Rattle.plan_of.proofs.Extents.{IsWide}
use Rattle.plan_of.proofs.Checks.{plain_small}
use Rattle.settled.specs.Form.{six}
use Rattle.settled.specs.Settled.{placed, settled_breadth, settled_amount, settled_cell, settled_port, settled_read, settled}
use Rattle.std.specs.Prelude.{Some}
use Rattle.size_walk.specs.Effects.{has, unary_wide, binary_wide, before_width, between_width}
use Rattle.size_walk.specs.Steps.{State, emits_of}
use Rattle.plan_of.proofs.Walks.{after}
use Rattle.plan_of.proofs.Left.{shape, Small, Left, tried, Emitted, left_1, left_2}
use Rattle.plan_of.proofs.Parts.{left_begun, left_part, left_joined, left_beside, three, left_choice, opened, left_select}
use Rattle.plan_of.proofs.Items.{copies_over, cell_over, range_over, unary_over, binary_over, arm_over, choice_over, either_over, left_plain, left_port, left_held, left_sized}

-- ---- the slots of the `let`s in force

unfoldable pub numbers : List (Let Slot) → List (Let ℕ)
numbers [] = []
numbers (l ∷ ls) = record { called = l.called; holds = l.holds.number } ∷ numbers ls

abbrev pub LetsHold : List ℕ → List (Let Slot) → Type 0
LetsHold slots [] = Unit {0}
LetsHold slots (l ∷ ls) = (get_or slots l.holds.number 0 ≡ shape whole l.holds.holds) × Small l.holds.holds × LetsHold slots ls

-- this one or another
abbrev this : {A : Type 0} → Bool → A → Option A → Option A
this b x o = elim b [ true ↦ some x | false ↦ o ]

-- ---- widths of at most 64

abbrev pub SmallAt : Kind → Extent → Type 0
SmallAt whole x = Small x
SmallAt parts x = Unit {0}
SmallAt arms x = Small x

small_one : (x : Extent) (f : ℕ → Extent) → Small x → ((w : ℕ) → w ≤ 64 → Small (f w)) → Small (one_part x f)
unfolding one_part
small_one (wide w) f h g = g w h
small_one (faulty l) f h g = tt

small_two : (x y : Extent) (f : ℕ → ℕ → Extent) → Small x → Small y → ((m n : ℕ) → m ≤ 64 → n ≤ 64 → Small (f m n)) → Small (two_parts x y f)
unfolding two_parts
small_two (wide m) (wide n) f h g i = i m n h g
small_two (wide m) (faulty l) f h g i = tt
small_two (faulty k) (wide n) f h g i = tt
small_two (faulty k) (faulty l) f h g i = tt

small_limited : (p w : ℕ) → Small (limited p w)
unfolding limited
small_limited p w = go (leb w 64) refl
  where
    go : (b : Bool) → leb w 64 ≡ b → Small (elim b [ true ↦ wide w | false ↦ faulty (p ∷ []) ])
    go true e = leb-true w 64 e
    go false e = tt

small_range : (i j w : ℕ) → w ≤ 64 → i < w → j < w → range_width i j ≤ 64
unfolding range_width
small_range i j w h a b = omega arith

small_unary : (u : Unary) (w : ℕ) → w ≤ 64 → unary_width u w ≤ 64
unfolding unary_width
small_unary Invert w h = h
small_unary Plus w h = h
small_unary Not w h = omega arith
small_unary All w h = omega arith
small_unary NotAll w h = omega arith
small_unary Any w h = omega arith
small_unary NotAny w h = omega arith
small_unary Odd w h = omega arith
small_unary NotOdd w h = omega arith

small_used : (x : Extent) → Small x → Small (used x)
unfolding used
small_used (wide w) h = h
small_used (faulty l) h = tt

-- ---- the operators by their numbers

unary_wide_law : (u : Unary) (w : ℕ) → unary_wide (unary_number u) w ≡ unary_width u w
unfolding unary_wide before_width unary_item
unary_wide_law Invert w = refl
unary_wide_law Plus w = refl
unary_wide_law Not w = refl
unary_wide_law All w = refl
unary_wide_law NotAll w = refl
unary_wide_law Any w = refl
unary_wide_law NotAny w = refl
unary_wide_law Odd w = refl
unary_wide_law NotOdd w = refl

binary_wide_law : (o : Binary) (m n : ℕ) → binary_wide (binary_number o) m n ≡ binary_width o m n
unfolding binary_wide between_width binary_item
binary_wide_law Multiply m n = refl
binary_wide_law Divide m n = refl
binary_wide_law Remainder m n = refl
binary_wide_law Add m n = refl
binary_wide_law Subtract m n = refl
binary_wide_law LeftShift m n = refl
binary_wide_law Right m n = refl
binary_wide_law Less m n = refl
binary_wide_law AtMost m n = refl
binary_wide_law Greater m n = refl
binary_wide_law AtLeast m n = refl
binary_wide_law Equal m n = refl
binary_wide_law Unequal m n = refl
binary_wide_law And m n = refl
binary_wide_law NotAnd m n = refl
binary_wide_law Xor m n = refl
binary_wide_law NotXor m n = refl
binary_wide_law Or m n = refl
binary_wide_law NotOr m n = refl
binary_wide_law Both m n = refl
binary_wide_law Either m n = refl

unary_coded : (u : Unary) (w : ℕ) → Emitted (Some (unary_item (unary_number u) w)) (Before u w ∷ [])
unfolding emits_of each unary_item
unary_coded Invert w = refl
unary_coded Plus w = refl
unary_coded Not w = refl
unary_coded All w = refl
unary_coded NotAll w = refl
unary_coded Any w = refl
unary_coded NotAny w = refl
unary_coded Odd w = refl
unary_coded NotOdd w = refl

binary_coded : (o : Binary) (m n : ℕ) → Emitted (Some (binary_item (binary_number o) m n)) (Between o m n ∷ [])
unfolding emits_of each binary_item
binary_coded Multiply m n = refl
binary_coded Divide m n = refl
binary_coded Remainder m n = refl
binary_coded Add m n = refl
binary_coded Subtract m n = refl
binary_coded LeftShift m n = refl
binary_coded Right m n = refl
binary_coded Less m n = refl
binary_coded AtMost m n = refl
binary_coded Greater m n = refl
binary_coded AtLeast m n = refl
binary_coded Equal m n = refl
binary_coded Unequal m n = refl
binary_coded And m n = refl
binary_coded NotAnd m n = refl
binary_coded Xor m n = refl
binary_coded NotXor m n = refl
binary_coded Or m n = refl
binary_coded NotOr m n = refl
binary_coded Both m n = refl
binary_coded Either m n = refl

-- ---- the same extent, told two ways

one_same : (x : Extent) (f g : ℕ → Extent) → Small x → ((w : ℕ) → w ≤ 64 → f w ≡ g w) → one_part x f ≡ one_part x g
unfolding one_part
one_same (wide w) f g h e = e w h
one_same (faulty l) f g h e = refl

two_same : (x y : Extent) (f g : ℕ → ℕ → Extent) → ((m n : ℕ) → f m n ≡ g m n) → two_parts x y f ≡ two_parts x y g
unfolding two_parts
two_same (wide m) (wide n) f g e = e m n
two_same (wide m) (faulty l) f g e = refl
two_same (faulty k) (wide n) f g e = refl
two_same (faulty k) (faulty l) f g e = refl

-- ---- positions

outside : (w : ℕ) → w ≤ 64 → ltb 4_294_967_295 w ≡ false
outside w h = le-ltb 4_294_967_295 w (omega arith)

module _ (s : Setting) where
  same_positions : (p w : ℕ) (i j : Option ℕ) → w ≤ 64 → tried (ltb (placed i) w && ltb (placed j) w) (range_width (placed i) (placed j)) p ≡ positions s p w i j
  unfolding positions placed
  same_positions p w (some i) (some j) h = refl
  same_positions p w (some i) none h = ap (λ (b : Bool). tried (ltb i w && b) (range_width i 4_294_967_295) p) (outside w h) ∙ ap (λ (b : Bool). tried b (range_width i 4_294_967_295) p) (and-false (ltb i w))
  same_positions p w none (some j) h = ap (λ (b : Bool). tried (b && ltb j w) (range_width 4_294_967_295 j) p) (outside w h)
  same_positions p w none none h = ap (λ (b : Bool). tried (b && ltb 4_294_967_295 w) (range_width 4_294_967_295 4_294_967_295) p) (outside w h)

  small_positions : (p w : ℕ) (i j : Option ℕ) → w ≤ 64 → Small (positions s p w i j)
  unfolding positions
  small_positions p w (some i) (some j) h = go (ltb i w) (ltb j w) refl refl
    where
      go : (a b : Bool) → ltb i w ≡ a → ltb j w ≡ b → Small (elim (a && b) [ true ↦ wide (range_width i j) | false ↦ faulty (p ∷ []) ])
      go true true e f = small_range i j w h (ltb-true i w e) (ltb-true j w f)
      go true false e f = tt
      go false b e f = tt
  small_positions p w (some i) none h = tt
  small_positions p w none (some j) h = tt
  small_positions p w none none h = tt

  -- where both are inside, they are the numbers that the plan has
  position_code : (p w : ℕ) (i j : Option ℕ) → IsWide (positions s p w i j) → Emitted (Some (Range (placed i) (placed j))) (Range (position_in i) (position_in j) ∷ [])
  unfolding positions placed position_in emits_of each
  position_code p w (some i) (some j) h = refl
  position_code p w (some i) none h = absurd h
  position_code p w none (some j) h = absurd h
  position_code p w none none h = absurd h

  module _ (ms : List (List ℕ)) (ports : (n : List ℕ) → port_width s.actor s.widths n ≤ 32) (memories : (n : List ℕ) → memory_width s.actor s.widths n ≤ 32) (lets : List (Let Slot)) where
    abbrev X : Expr → Extent
    X e = extent s (extents lets) e

    -- ---- names

    module _ (n : Name) (st : State) where
      reads : (ls : List (Let Slot)) → LetsHold st.slots ls
          → Left whole (elim (let_named (extents ls) n.spelled) [ some x ↦ used x | none ↦ wide (port_width s.actor s.widths n.spelled) ]) n.at
          (elim (let_named (numbers ls) n.spelled) [ some k ↦ six 20 n.at k 0 0 0 | none ↦ settled_port s 18 n ])
          ((elim (let_named ls n.spelled) [ some x ↦ Kept x.number | none ↦ Port (port_at s n.spelled) ]) ∷ []) st
      unfolding let_named extents numbers settled_port
      reads [] h = left_port st n.at (port_at s n.spelled) (port_width s.actor s.widths n.spelled)
      reads (l ∷ ls) h = go (same l.called n.spelled) (reads ls h.2)
        where
          go : (b : Bool)
              → Left whole (elim (let_named (extents ls) n.spelled) [ some x ↦ used x | none ↦ wide (port_width s.actor s.widths n.spelled) ]) n.at
              (elim (let_named (numbers ls) n.spelled) [ some k ↦ six 20 n.at k 0 0 0 | none ↦ settled_port s 18 n ])
              ((elim (let_named ls n.spelled) [ some x ↦ Kept x.number | none ↦ Port (port_at s n.spelled) ]) ∷ []) st
              → Left whole (elim (this b l.holds.holds (let_named (extents ls) n.spelled)) [ some x ↦ used x | none ↦ wide (port_width s.actor s.widths n.spelled) ]) n.at
              (elim (this b l.holds.number (let_named (numbers ls) n.spelled)) [ some k ↦ six 20 n.at k 0 0 0 | none ↦ settled_port s 18 n ])
              ((elim (this b l.holds (let_named ls n.spelled)) [ some x ↦ Kept x.number | none ↦ Port (port_at s n.spelled) ]) ∷ []) st
          go true r = left_held st n.at l.holds.number l.holds.holds h.0
          go false r = r

    small_reads : (n : List ℕ) (slots : List ℕ) (ls : List (Let Slot)) → LetsHold slots ls → Small (elim (let_named (extents ls) n) [ some x ↦ used x | none ↦ wide (port_width s.actor s.widths n) ])
    unfolding let_named extents
    small_reads n slots [] h = let k = ports n in omega arith
    small_reads n slots (l ∷ ls) h = go (same l.called n) (small_reads n slots ls h.2)
      where
        go : (b : Bool) → Small (elim (let_named (extents ls) n) [ some x ↦ used x | none ↦ wide (port_width s.actor s.widths n) ])
            → Small (elim (this b l.holds.holds (let_named (extents ls) n)) [ some x ↦ used x | none ↦ wide (port_width s.actor s.widths n) ])
        go true r = small_used l.holds.holds h.1
        go false r = r

    -- ---- a whole expression is at most 64 wide

    module _ (slots : List ℕ) (held : LetsHold slots lets) where
      pub small : (e : Expr) (k : Kind) → FormedAt ms k e → SmallAt k (X e)
      unfolding extent read_extent one_part
      small (plain n) whole f = let k = plain_small n.value f.1 in omega arith
      small (plain n) parts f = tt
      small (plain n) arms f = absurd f.0
      small (sized w a) whole f = go (leb (breadth_of s w) 64) refl (ltb (amount_of s a) (2 ^ breadth_of s w))
        where
          go : (b : Bool) → leb (breadth_of s w) 64 ≡ b → (c : Bool)
              → Small (elim b [ true ↦ elim c [ true ↦ wide (breadth_of s w) | false ↦ faulty (start (sized w a) ∷ []) ] | false ↦ faulty (start (sized w a) ∷ []) ])
          go true e true = leb-true (breadth_of s w) 64 e
          go true e false = tt
          go false e c = tt
      small (sized w a) parts f = tt
      small (sized w a) arms f = absurd f
      small (copies n e) whole f = small_one (X e) _ (small e whole f.1) (λ w h. small_limited n.at (n.value * w))
      small (copies n e) parts f = tt
      small (copies n e) arms f = absurd f.0
      small (read n) whole f = small_reads n.spelled slots lets held
      small (read n) parts f = tt
      small (read n) arms f = absurd f.0
      small (cell n a) whole f = small_one (X a) _ (small a whole f.2) (λ w h. let k = memories n.spelled in omega arith)
      small (cell n a) parts f = tt
      small (cell n a) arms f = absurd f.0
      small (bit e p i) whole f = small_one (X e) _ (small e whole f.1) (λ w h. small_positions p w (position_at s i) (position_at s i) h)
      small (bit e p i) parts f = tt
      small (bit e p i) arms f = absurd f.0
      small (range e p i j) whole f = small_one (X e) _ (small e whole f.1) (λ w h. small_positions p w (position_at s i) (position_at s j) h)
      small (range e p i j) parts f = tt
      small (range e p i j) arms f = absurd f.0
      small (inside p e) whole f = small e whole f.1
      small (inside p e) parts f = tt
      small (inside p e) arms f = absurd f.0
      small (joined p e) whole f = small_parts p (X e)
        where
          small_parts : (p : ℕ) (x : Extent) → Small (one_part x (λ w. limited p w))
          small_parts p (wide w) = small_limited p w
          small_parts p (faulty l) = tt
      small (joined p e) parts f = tt
      small (joined p e) arms f = absurd f.0
      small (beside a b) whole f = absurd f.0
      small (beside a b) parts f = tt
      small (beside a b) arms f = absurd f.0
      small (unary u e) whole f = small_one (X e) _ (small e whole f.1) (λ w h. small_unary u.which w h)
      small (unary u e) parts f = tt
      small (unary u e) arms f = absurd f.0
      small (binary o a b) whole f = small_two (X a) (X b) _ (small a whole f.1) (small b whole f.2) (λ m n h g. small_limited (start a) (binary_width o m n))
      small (binary o a b) parts f = tt
      small (binary o a b) arms f = absurd f.0
      small (choice c a b) whole f = small_two (X c) _ _ (small c whole f.1) (small_two (X a) (X b) _ (small a whole f.2) (small b whole f.3) (λ m n h g. omega arith)) (λ m n h g. g)
      small (choice c a b) parts f = tt
      small (choice c a b) arms f = absurd f.0
      small (either p c a b) whole f = small_two (X c) _ _ (small c whole f.1) (small_two (X a) (X b) _ (small a whole f.2) (small b whole f.3) (λ m n h g. omega arith)) (λ m n h g. g)
      small (either p c a b) parts f = tt
      small (either p c a b) arms f = absurd f.0
      small (select p e a) whole f = small_two (X e) (X a) _ (small e whole f.1) (small a arms f.2) (λ m n h g. g)
      small (select p e a) parts f = tt
      small (select p e a) arms f = absurd f.0
      small (arm n e r) whole f = absurd f.0
      small (arm n e r) parts f = tt
      small (arm n e r) arms f = small_two (X e) (X r) _ (small e whole f.1) (small r arms f.2) (λ m n h g. omega arith)
      small (default p e) whole f = absurd f.0
      small (default p e) parts f = tt
      small (default p e) arms f = small e whole f.1

    -- ---- what an expression leaves

    abbrev R : Kind → Expr → State → Type 0
    R k e st = Left k (X e) (start e) (settled s (numbers lets) e) (code s lets st.cases e) st

    abbrev seat : Kind → Kind
    seat whole = whole
    seat parts = parts
    seat arms = whole

    -- as it stands: by itself, or as a part
    seated : (k : Kind) → IsPart k → (e : Expr) (st : State) → Small (X e) → R whole e st → R (seat k) e st
    seated whole t e st g r = r
    seated parts t e st g r = left_part st (X e) (start e) (settled s (numbers lets) e) (code s lets st.cases e) g r
    seated arms t e st g r = absurd t

    abbrev items : Expr → List ℕ
    items e = settled s (numbers lets) e

    -- a range of bits, of one position or two
    ranged : (e : Expr) (p : ℕ) (i j : Option ℕ) (st : State) → Small (X e) → R whole e st
        → Left whole (one_part (X e) (λ w. positions s p w i j)) (start e) (items e ++ six 21 p (placed i) (placed j) 0 0) (code s lets st.cases e ++ (Range (position_in i) (position_in j) ∷ [])) st
    unfolding one_part
    ranged e p i j st g r =
        let same : one_part (X e) (λ w. tried (ltb (placed i) w && ltb (placed j) w) (range_width (placed i) (placed j)) p) ≡ one_part (X e) (λ w. positions s p w i j) = one_same (X e) _ _ g (λ w h. same_positions p w i j h) in
        subst (λ (x : Extent). Left whole x (start e) (items e ++ six 21 p (placed i) (placed j) 0 0) (code s lets st.cases e ++ (Range (position_in i) (position_in j) ∷ [])) st) same
        (left_1 st (start e) (range_over st (start e) p (placed i) (placed j)) (items e) (code s lets st.cases e) (Range (position_in i) (position_in j) ∷ []) (X e) g (λ y. inside_code (X e) (subst IsWide same y)) r)
      where
        inside_code : (x : Extent) → IsWide (one_part x (λ w. positions s p w i j)) → Emitted (Some (Range (placed i) (placed j))) (Range (position_in i) (position_in j) ∷ [])
        inside_code (wide w) y = position_code p w i j y
        inside_code (faulty l) y = absurd y

    -- the state in which a second part is met
    abbrev next : (k : Kind) (e : Expr) (st : State) → R k e st → State
    next k e st r = after st (shape k (X e)) (start e) (faults_of (X e)) r.c r.br r.sp

    whole_choice : (c a b : Expr) (st : State) → Small (X c) → Small (X a) → Small (X b) → (r : R whole c st) → (q : R whole a (next whole c st r)) → R whole b (next whole a (next whole c st r) q) → R whole (choice c a b) st
    unfolding extent start settled code
    whole_choice c a b st hc ha hb r q z =
        left_choice st (start c) (start a) (start b) 0 27 (start c) (choice_over st (start c) (start a) (start b)) (items c) (items a) (items b) (code s lets st.cases c) (code s lets st.cases a) (code s lets st.cases b) (X c) (X a) (X b) (three (X c) (X a) (X b)) hc ha hb r q z

    whole_either : (p : ℕ) (c a b : Expr) (st : State) → Small (X c) → Small (X a) → Small (X b) → (r : R whole c st) → (q : R whole a (next whole c st r)) → R whole b (next whole a (next whole c st r) q) → R whole (either p c a b) st
    unfolding extent start settled code
    whole_either p c a b st hc ha hb r q z =
        left_choice st (start c) (start a) (start b) p 28 p (either_over st (start c) (start a) (start b) p) (items c) (items a) (items b) (code s lets st.cases c) (code s lets st.cases a) (code s lets st.cases b) (X c) (X a) (X b) (three (X c) (X a) (X b)) hc ha hb r q z

    whole_select : (p : ℕ) (e a : Expr) (st : State) → Small (X e) → Small (X a) → (r : R whole e st) → R whole a (opened st (start e) p (shape whole (X e)) (faults_of (X e)) r.c r.br r.sp) → R whole (select p e a) st
    unfolding extent start settled code wide_of
    whole_select p e a st he ha r z =
        subst (λ (n : ℕ). Left whole (X (select p e a)) p (items (select p e a)) (code s lets st.cases e ++ (Keep (16 + st.cases) (width_of (X e)) ∷ code s lets n a)) st) (add-one st.cases)
        (left_select st (start e) p (start a) (items e) (items a) (code s lets st.cases e) (code s lets (st.cases + 1) a) (X e) (X a) he ha r z)

    whole_binary : (o : Binary) (a b : Expr) (st : State) → Small (X a) → Small (X b) → (r : R whole a st) → R whole b (next whole a st r) → R whole (binary o a b) st
    unfolding extent start settled code wide_of emits_of each has limited
    whole_binary o a b st ha hb r z =
        subst (λ (x : Extent). Left whole x (start a) (items a ++ (items b ++ six 26 0 (binary_number o) 0 0 0)) (code s lets st.cases a ++ (code s lets st.cases b ++ (Between o (width_of (X a)) (width_of (X b)) ∷ []))) st)
        (two_same (X a) (X b) _ _ (λ m n. ap (λ (w : ℕ). tried (leb w 64) w (start a)) (binary_wide_law o m n)))
        (left_2 st (start a) (start b) (binary_over st (start a) (start b) (binary_number o)) (items a) (items b) (code s lets st.cases a) (code s lets st.cases b) (Between o (width_of (X a)) (width_of (X b)) ∷ []) (X a) (X b) ha hb (λ y z. binary_coded o (width_of (X a)) (width_of (X b))) r z)

    whole_arm : (n : Numeral) (e r : Expr) (st : State) → Small (X e) → Small (X r) → (q : R whole e st) → R whole r (next whole e st q) → R whole (arm n e r) st
    unfolding extent start settled code emits_of each
    whole_arm n e r st he hr q z =
        left_2 st (start e) (start r) (arm_over st (start e) (start r) n.at n.value) (items e) (items r) (code s lets st.cases e) (code s lets st.cases r) (Arm n.value (15 + st.cases) ∷ []) (X e) (X r) he hr (λ y z. refl) q z

    parts_beside : (a b : Expr) (st : State) → Small (X b) → (r : R parts a st) → R whole b (next parts a st r) → R parts (beside a b) st
    unfolding extent start settled code wide_of
    parts_beside a b st hb r z = left_beside st (start a) (start b) (items a) (items b) (code s lets st.cases a) (code s lets st.cases b) (X a) (X b) hb r z

    whole_unary : (u : Prefix) (e : Expr) (st : State) → Small (X e) → R whole e st → R whole (unary u e) st
    unfolding extent start settled code wide_of emits_of each
    whole_unary u e st g r =
        subst (λ (x : Extent). Left whole x u.at (items e ++ six 25 u.at (unary_number u.which) 0 0 0) (code s lets st.cases e ++ (Before u.which (width_of (X e)) ∷ [])) st)
        (one_same (X e) _ _ g (λ w i. ap wide (unary_wide_law u.which w)))
        (left_1 st (start e) (unary_over st (start e) u.at (unary_number u.which)) (items e) (code s lets st.cases e) (Before u.which (width_of (X e)) ∷ []) (X e) g (λ y. unary_coded u.which (width_of (X e))) r)

    whole_copies : (n : Numeral) (e : Expr) (st : State) → Small (X e) → R whole e st → R whole (copies n e) st
    unfolding extent start settled code wide_of emits_of each limited
    whole_copies n e st g r = left_1 st (start e) (copies_over st (start e) n.at n.value) (items e) (code s lets st.cases e) (Copies n.value (width_of (X e)) ∷ []) (X e) g (λ y. refl) r

    whole_cell : (n : Name) (a : Expr) (st : State) → Small (X a) → R whole a st → R whole (cell n a) st
    unfolding extent start settled settled_cell code memory_at emits_of each
    whole_cell n a st g r = left_1 st (start a) (cell_over st (start a) n.at _ _ _ _) (items a) (code s lets st.cases a) _ (X a) g (λ y. refl) r

    whole_sized : (w : Breadth) (a : Amount) (st : State) → R whole (sized w a) st
    unfolding extent start breadth_start settled settled_breadth settled_amount code breadth_of amount_of
    whole_sized (bits w) (given n) st = left_sized st w.at w.value n.value n.at
    whole_sized (bits w) (value n) st = left_sized st w.at w.value _ n.at
    whole_sized (Breadth.typed p t) (given n) st = left_sized st p _ n.value n.at
    whole_sized (Breadth.typed p t) (value n) st = left_sized st p _ _ n.at

    whole_bit : (e : Expr) (p : ℕ) (i : Ty) (st : State) → Small (X e) → R whole e st → R whole (bit e p i) st
    unfolding extent start settled code
    whole_bit e p i st g r = ranged e p (position_at s i) (position_at s i) st g r

    whole_range : (e : Expr) (p : ℕ) (i j : Ty) (st : State) → Small (X e) → R whole e st → R whole (range e p i j) st
    unfolding extent start settled code
    whole_range e p i j st g r = ranged e p (position_at s i) (position_at s j) st g r

    whole_plain : (n : Numeral) (st : State) → n.value ≤ 4_294_967_295 → R whole (plain n) st
    unfolding extent start settled code
    whole_plain n st h = left_plain st n.at n.value h

    whole_read : (n : Name) (st : State) → LetsHold st.slots lets → R whole (read n) st
    unfolding extent read_extent start settled settled_read code read_item
    whole_read n st h = reads n st lets h

    whole_inside : (p : ℕ) (e : Expr) (st : State) → R whole e st → R whole (inside p e) st
    unfolding extent start settled code
    whole_inside p e st r = left_begun st whole (X e) (start e) p (items e) (code s lets st.cases e) r

    whole_default : (p : ℕ) (e : Expr) (st : State) → R whole e st → R whole (default p e) st
    unfolding extent start settled code
    whole_default p e st r = left_begun st whole (X e) (start e) p (items e) (code s lets st.cases e) r

    whole_joined : (p : ℕ) (e : Expr) (st : State) → R parts e st → R whole (joined p e) st
    unfolding extent start settled code
    whole_joined p e st r = left_joined st (start e) p (items e) (code s lets st.cases e) (X e) r

    -- ---- by induction: the parts leave theirs from any state that holds the `let`s

    abbrev Leaves : Kind → Expr → Type 0
    Leaves k e = (st : State) → LetsHold st.slots lets → R (seat k) e st

    at_seat : (k : Kind) → IsPart k → (e : Expr) → FormedAt ms whole e → Leaves whole e → Leaves k e
    at_seat k t e f r st h = seated k t e st (small st.slots h e whole f) (r st h)

    -- one part, after which the expression stands
    part_1 : (e a : Expr) → FormedAt ms whole a → ((st : State) → Small (X a) → R whole a st → R whole e st) → Leaves whole a → Leaves whole e
    part_1 e a f g r st h = g st (small st.slots h a whole f) (r st h)

    parts_of_binary : (o : Binary) (a b : Expr) → FormedAt ms whole a → FormedAt ms whole b → Leaves whole a → Leaves whole b → Leaves whole (binary o a b)
    parts_of_binary o a b f g r q st h = whole_binary o a b st (small st.slots h a whole f) (small st.slots h b whole g) (r st h) (q (next whole a st (r st h)) h)

    parts_of_choice : (c a b : Expr) → FormedAt ms whole c → FormedAt ms whole a → FormedAt ms whole b → Leaves whole c → Leaves whole a → Leaves whole b → Leaves whole (choice c a b)
    parts_of_choice c a b i f g r q z st h =
        let u = next whole c st (r st h) in
        whole_choice c a b st (small st.slots h c whole i) (small st.slots h a whole f) (small st.slots h b whole g) (r st h) (q u h) (z (next whole a u (q u h)) h)

    parts_of_either : (p : ℕ) (c a b : Expr) → FormedAt ms whole c → FormedAt ms whole a → FormedAt ms whole b → Leaves whole c → Leaves whole a → Leaves whole b → Leaves whole (either p c a b)
    parts_of_either p c a b i f g r q z st h =
        let u = next whole c st (r st h) in
        whole_either p c a b st (small st.slots h c whole i) (small st.slots h a whole f) (small st.slots h b whole g) (r st h) (q u h) (z (next whole a u (q u h)) h)

    parts_of_select : (p : ℕ) (e a : Expr) → FormedAt ms whole e → FormedAt ms arms a → Leaves whole e → Leaves arms a → Leaves whole (select p e a)
    parts_of_select p e a f g r q st h =
        let d = r st h in
        whole_select p e a st (small st.slots h e whole f) (small st.slots h a arms g) d (q (opened st (start e) p (shape whole (X e)) (faults_of (X e)) d.c d.br d.sp) h)

    parts_of_beside : (a b : Expr) → FormedAt ms whole b → Leaves parts a → Leaves whole b → Leaves parts (beside a b)
    parts_of_beside a b g r q st h = parts_beside a b st (small st.slots h b whole g) (r st h) (q (next parts a st (r st h)) h)

    parts_of_arm : (n : Numeral) (e r : Expr) → FormedAt ms whole e → FormedAt ms arms r → Leaves whole e → Leaves arms r → Leaves arms (arm n e r)
    parts_of_arm n e r f g q z st h = whole_arm n e r st (small st.slots h e whole f) (small st.slots h r arms g) (q st h) (z (next whole e st (q st h)) h)

    pub expr : (e : Expr) (k : Kind) → FormedAt ms k e → (st : State) → LetsHold st.slots lets → R (seat k) e st
    expr (plain n) k f = at_seat k f.0 (plain n) (tt, f.1) (λ st h. whole_plain n st f.1)
    expr (sized w a) k f = at_seat k f (sized w a) tt (λ st h. whole_sized w a st)
    expr (copies n e) k f = at_seat k f.0 (copies n e) (tt, f.1) (part_1 (copies n e) e f.1 (whole_copies n e) (expr e whole f.1))
    expr (read n) k f = at_seat k f.0 (read n) (tt, f.1) (λ st h. whole_read n st h)
    expr (cell n a) k f = at_seat k f.0 (cell n a) (tt, f.1, f.2) (part_1 (cell n a) a f.2 (whole_cell n a) (expr a whole f.2))
    expr (bit e p i) k f = at_seat k f.0 (bit e p i) (tt, f.1) (part_1 (bit e p i) e f.1 (whole_bit e p i) (expr e whole f.1))
    expr (range e p i j) k f = at_seat k f.0 (range e p i j) (tt, f.1) (part_1 (range e p i j) e f.1 (whole_range e p i j) (expr e whole f.1))
    expr (inside p e) k f = at_seat k f.0 (inside p e) (tt, f.1) (part_1 (inside p e) e f.1 (λ st g r. whole_inside p e st r) (expr e whole f.1))
    expr (joined p e) k f = at_seat k f.0 (joined p e) (tt, f.1) (λ st h. whole_joined p e st (expr e parts f.1 st h))
    expr (beside a b) whole f = absurd f.0
    expr (beside a b) parts f = parts_of_beside a b f.2 (expr a parts f.1) (expr b whole f.2)
    expr (beside a b) arms f = absurd f.0
    expr (unary u e) k f = at_seat k f.0 (unary u e) (tt, f.1) (part_1 (unary u e) e f.1 (whole_unary u e) (expr e whole f.1))
    expr (binary o a b) k f = at_seat k f.0 (binary o a b) (tt, f.1, f.2) (parts_of_binary o a b f.1 f.2 (expr a whole f.1) (expr b whole f.2))
    expr (choice c a b) k f = at_seat k f.0 (choice c a b) (tt, f.1, f.2, f.3) (parts_of_choice c a b f.1 f.2 f.3 (expr c whole f.1) (expr a whole f.2) (expr b whole f.3))
    expr (either p c a b) k f = at_seat k f.0 (either p c a b) (tt, f.1, f.2, f.3) (parts_of_either p c a b f.1 f.2 f.3 (expr c whole f.1) (expr a whole f.2) (expr b whole f.3))
    expr (select p e a) k f = at_seat k f.0 (select p e a) (tt, f.1, f.2) (parts_of_select p e a f.1 f.2 (expr e whole f.1) (expr a arms f.2))
    expr (arm n e r) whole f = absurd f.0
    expr (arm n e r) parts f = absurd f.0
    expr (arm n e r) arms f = parts_of_arm n e r f.1 f.2 (expr e whole f.1) (expr r arms f.2)
    expr (default p e) whole f = absurd f.0
    expr (default p e) parts f = absurd f.0
    expr (default p e) arms f = λ st h. whole_default p e st (expr e whole f.1 st h)
