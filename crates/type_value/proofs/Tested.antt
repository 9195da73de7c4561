-- The tests say what they test, and a code that is safe to walk has the value that its walk leaves. Assumes nothing.
use mathlib.Core.Path.{◌≡◌, refl, sym, ap, ◌∙◌, subst}
use mathlib.Core.Bool.{Bool, true, false, ◌&&◌, ◌||◌}
use mathlib.Core.List.{List, [], ◌∷◌}
use Prim.Native.Nat.{ℕ, zero, suc, ◌+◌, ◌/◌, ◌%◌, ◌≤◌, ◌<◌}
use native.Mathlib.Omega.{arith}
use lib.Dec.{eqb, ltb, lit≤, lit<}
use lib.ListN.{length, get_or}
use borrow.Author.Tests.{lt-ltb, le-ltb, eqb-false, eq-eqb, ne_eqb}
use Rattle.language.specs.declared.Exact.{Exact}
use Rattle.language.specs.Types.{whole_of}
use Rattle.type_value.specs.Terms.{Term, code, value_at, TypeOf, Small}
use Rattle.type_value.specs.Walk.{part, TermStands, unary_kind, binary_kind, leaf_of, unary_of, binary_of, on_last, on_last_two, waiting, Pushed, TurnedLast, TurnedLastTwo, Turned, turn, walk, Ready, leaf, unary, binary, last_has_space, last_two_have_room, is_ready, alone, value_from, value_of}
use Rattle.std.specs.Prelude.{Option, Some, None}
use Rattle.type_value.specs.declared.OnOne.{OnOne}
use Rattle.type_value.specs.declared.OnOne.TheVariants.{Log, Floor, Ceil}
use Rattle.type_value.specs.declared.OnTwo.{OnTwo}
use Rattle.type_value.specs.declared.OnTwo.TheVariants.{Plus, Minus, Greater}
use Rattle.type_value.proofs.Cells.{turn_leaf, turn_one, turn_two}
use Rattle.exact_room.specs.Tests.{has_space, has_room}
use Rattle.exact.specs.Room.{Space}
use Rattle.type_value.proofs.Bounds.{space}
use Rattle.type_value.proofs.Walking.{part_more, part_none, walk_whole, Safe, safe_whole}
use Rattle.exact_room.proofs.Fitting.{and, space_of_test, test_of_space, test_of_room}

-- ---- a node that is ready is tested ready

module _ (ws : List ℕ) (k : ℕ) (st : List Exact) where
  pub test_leaf : k % 8 < 2 → is_ready ws k st ≡ ltb (length st) 64 && (eqb (k % 8) 0 || ltb (k / 8) (length ws))
  unfolding is_ready
  test_leaf h = rw (lt-ltb (k % 8) 2 h, is_ready)

  pub test_unary : 2 ≤ k % 8 → k % 8 < 5 → is_ready ws k st ≡ last_has_space st
  unfolding is_ready
  test_unary g h = rw (le-ltb (k % 8) 2 g, lt-ltb (k % 8) 5 h, is_ready)

  pub test_binary : 5 ≤ k % 8 → is_ready ws k st ≡ last_two_have_room st
  unfolding is_ready
  test_binary g = rw (le-ltb (k % 8) 2 (omega arith), le-ltb (k % 8) 5 g, is_ready)

pub test_of_ready : (ws : List ℕ) (k : ℕ) (st : List Exact) → Ready ws k st → is_ready ws k st ≡ true
unfolding last_has_space last_two_have_room
test_of_ready ws k st (leaf h p s) = test_leaf ws k st h ∙ and _ _ (lt-ltb (length st) 64 s) (go (eqb (k % 8) 0) refl)
  where
    go : (b : Bool) → eqb (k % 8) 0 ≡ b → b || ltb (k / 8) (length ws) ≡ true
    go true e = refl
    go false e = lt-ltb (k / 8) (length ws) (p (omega (arith, h, eqb-false (k % 8) 0 e)))
test_of_ready ws k st (unary x r e g h s) = test_unary ws k st g h ∙ ap last_has_space e ∙ test_of_space x s
test_of_ready ws k st (binary x y r e g m) = test_binary ws k st g ∙ ap last_two_have_room e ∙ test_of_room x y m

-- ---- a node's turn, by what was popped and pushed

and_false : (b : Bool) → b && false ≡ false
and_false true = refl
and_false false = refl

module _ (f : Exact → Exact) (st r r' : List Exact) (x y : Exact) (e : st ≡ x ∷ r) where
  pub one_wide : has_space x ≡ false → last_has_space st ≡ false
  unfolding last_has_space
  one_wide h = rw e h

  pub one_done : has_space x ≡ true → length st ≤ 64 → y ≡ f x → (q : Option (Unit {0})) → Pushed r y r' q → TurnedLast f st r' q
  unfolding last_has_space on_last
  one_done h few g None p = absurd (let z : length st ≡ suc (length r) = ap length e in omega arith)
  one_done h few g (Some u) p = (rw e h, rw e (p.1 ∙ ap (λ (v : Exact). v ∷ r) g))

pub one_none : (st : List Exact) → st ≡ [] → last_has_space st ≡ false
unfolding last_has_space
one_none st e = rw e

pub two_none : (st : List Exact) → st ≡ [] → last_two_have_room st ≡ false
unfolding last_two_have_room
two_none st e = rw e

pub two_one : (st r : List Exact) (y : Exact) → st ≡ y ∷ r → r ≡ [] → last_two_have_room st ≡ false
unfolding last_two_have_room
two_one st r y e g = rw (e, g)

module _ (f : Exact → Exact → Exact) (st s r r' : List Exact) (x y v : Exact) (e : st ≡ y ∷ s) (g : s ≡ x ∷ r) where
  pub two_wide : has_room x y ≡ false → last_two_have_room st ≡ false
  unfolding last_two_have_room
  two_wide h = rw (e, g) h

  pub two_done : has_room x y ≡ true → length st ≤ 64 → v ≡ f x y → (q : Option (Unit {0})) → Pushed r v r' q → TurnedLastTwo f st r' q
  unfolding last_two_have_room on_last_two
  two_done h few j None p = absurd (let z : length st ≡ suc (suc (length r)) = ap length (e ∙ ap (λ (l : List Exact). y ∷ l) g) in omega arith)
  two_done h few j (Some u) p = (rw (e, g) h, rw (e, g) (p.1 ∙ ap (λ (w : Exact). w ∷ r) j))

pub one_kind : (op : OnOne) → (2 ≤ unary_kind op) × (unary_kind op < 5)
one_kind Log = (lit≤ tt, lit< tt)
one_kind Floor = (lit≤ tt, lit< tt)
one_kind Ceil = (lit≤ tt, lit< tt)

pub two_kind : (op : OnTwo) → 5 ≤ binary_kind op
two_kind Plus = lit≤ tt
two_kind Minus = lit≤ tt
two_kind Greater = lit≤ tt

pub number_leaf : (ws : List ℕ) (k : ℕ) → k % 8 ≡ 0 → leaf_of ws k ≡ whole_of (k / 8) 0
unfolding leaf_of
number_leaf ws k e = rw (eq-eqb (k % 8) 0 e, leaf_of)

pub port_leaf : (ws : List ℕ) (k i : ℕ) → k % 8 ≡ 1 → k / 8 ≡ i → leaf_of ws k ≡ whole_of (get_or ws i 0) 0
unfolding leaf_of
port_leaf ws k i e g = rw (ne_eqb (k % 8) 0 (λ z. omega (arith, e, z)), leaf_of, g)

module _ (ws : List ℕ) (k : ℕ) (st r : List Exact) where
  pub leaf_out : k % 8 ≡ 1 → length ws ≤ k / 8 → is_ready ws k st ≡ false
  leaf_out e h = test_leaf ws k st (omega arith) ∙ rw (ne_eqb (k % 8) 0 (λ z. omega (arith, e, z)), le-ltb (k / 8) (length ws) h) (and_false _)

  pub leaf_done : k % 8 < 2 → (k % 8 ≡ 1 → k / 8 < length ws) → (v : Exact) → v ≡ leaf_of ws k → (q : Option (Unit {0})) → Pushed st v r q → Turned ws k st r q
  leaf_done h p v e None o = test_leaf ws k st h ∙ rw (le-ltb (length st) 64 (omega arith))
  leaf_done h p v e (Some u) o = (test_of_ready ws k st (leaf h p o.0), o.1 ∙ ap (λ (x : Exact). x ∷ st) e ∙ sym (turn_leaf ws k st h))

  pub one_turned : (n : ℕ) → k % 8 ≡ n → 2 ≤ n → n < 5 → (q : Option (Unit {0})) → TurnedLast (unary_of n) st r q → Turned ws k st r q
  one_turned n e g h None o = test_unary ws k st (omega arith) (omega arith) ∙ o
  one_turned n e g h (Some u) o =
      (test_unary ws k st (omega arith) (omega arith) ∙ o.0, o.1 ∙ ap (λ (j : ℕ). on_last (unary_of j) st) (sym e) ∙ sym (turn_one ws k st (omega arith) (omega arith)))

  pub two_turned : (n : ℕ) → k % 8 ≡ n → 5 ≤ n → (q : Option (Unit {0})) → TurnedLastTwo (binary_of n) st r q → Turned ws k st r q
  two_turned n e g None o = test_binary ws k st (omega arith) ∙ o
  two_turned n e g (Some u) o =
      (test_binary ws k st (omega arith) ∙ o.0, o.1 ∙ ap (λ (j : ℕ). on_last_two (binary_of j) st) (sym e) ∙ sym (turn_two ws k st (omega arith)))

-- ---- the value of any code

pub zero_space : Space (whole_of 0 0)
zero_space = record { a_some = lit< tt; b_some = lit< tt; high = lit< tt; low = lit< tt }

pub alone_space : (st : List Exact) → Space (alone st)
unfolding alone
alone_space [] = zero_space
alone_space (x ∷ []) = go (has_space x) refl
  where
    go : (b : Bool) → has_space x ≡ b → Space (elim b [ true ↦ x | false ↦ whole_of 0 0 ])
    go true e = space_of_test x e
    go false e = zero_space
alone_space (y ∷ (x ∷ r)) = zero_space

pub alone_is : (x : Exact) → Space x → alone (x ∷ []) ≡ x
unfolding alone
alone_is x s = rw (test_of_space x s, alone)

pub alone_not_one : (l : List Exact) (n : ℕ) → (n ≡ 1 → ⊥) → alone (waiting l n) ≡ whole_of 0 0
unfolding alone waiting
alone_not_one l zero h = refl
alone_not_one l (suc zero) h = absurd (h refl)
alone_not_one l (suc (suc n)) h = refl

module _ (l : List Exact) (n : ℕ) (e : n ≡ 1) where
  pub alone_one : has_space (get_or l 0 (record { up = 0; down = 0; a = 0; b = 0 })) ≡ true → alone (waiting l n) ≡ get_or l 0 (record { up = 0; down = 0; a = 0; b = 0 })
  unfolding alone waiting
  alone_one h = ap (λ (k : ℕ). alone (waiting l k)) e ∙ alone_is (get_or l 0 (record { up = 0; down = 0; a = 0; b = 0 })) (space_of_test (get_or l 0 (record { up = 0; down = 0; a = 0; b = 0 })) h)

  pub alone_wide : has_space (get_or l 0 (record { up = 0; down = 0; a = 0; b = 0 })) ≡ false → alone (waiting l n) ≡ whole_of 0 0
  unfolding alone waiting
  alone_wide h = ap (λ (k : ℕ). alone (waiting l k)) e ∙ rw (h, alone)

module _ (ws : List ℕ) (k : ℕ) (ks : List ℕ) (st : List Exact) where
  pub goes_on_law : is_ready ws k st ≡ true → value_from ws (k ∷ ks) st ≡ value_from ws ks (turn ws k st)
  unfolding value_from
  goes_on_law e = rw (e, value_from)

  pub stops : is_ready ws k st ≡ false → value_from ws (k ∷ ks) st ≡ whole_of 0 0
  unfolding value_from
  stops e = rw (e, value_from)

pub value_of_safe : (ws ks : List ℕ) (st : List Exact) (x : Exact) → Safe ws ks st → walk ws ks st ≡ x ∷ [] → Space x → value_from ws ks st ≡ x
unfolding value_from walk
value_of_safe ws [] st x f e s = ap alone e ∙ alone_is x s
value_of_safe ws (k ∷ ks) st x f e s = goes_on_law ws k ks st (test_of_ready ws k st f.0) ∙ value_of_safe ws ks (turn ws k st) x f.1 e s

-- ---- midway: what is left of the code leads from the values that wait to the value of the whole

pub record Midway (ws l : List ℕ) (from end i : ℕ) (st : List Exact) : Type 0 where
  pub inside : end ≤ length l
  pub leads : value_from ws (part l i end) st ≡ value_of ws (part l from end)

module _ (ws l : List ℕ) (from end : ℕ) where
  pub begins : (cells : List Exact) → end ≤ length l → Midway ws l from end from (waiting cells 0)
  unfolding waiting
  begins cells h = record { inside = h; leads = refl }

  module _ (i : ℕ) (st : List Exact) (m : Midway ws l from end i st) where
    one_more : i < end → value_from ws (get_or l i 0 ∷ part l (i + 1) end) st ≡ value_of ws (part l from end)
    one_more h = ap (λ (ks : List ℕ). value_from ws ks st) (sym (part_more l i end h m.inside)) ∙ m.leads

    pub onward : i < end → is_ready ws (get_or l i 0) st ≡ true → (r : List Exact) → r ≡ turn ws (get_or l i 0) st → Midway ws l from end (i + 1) r
    onward h e r t = record {
      inside = m.inside;
      leads = ap (value_from ws (part l (i + 1) end)) t ∙ sym (goes_on_law ws (get_or l i 0) (part l (i + 1) end) st e) ∙ one_more h;
    }

    pub stopped : i < end → is_ready ws (get_or l i 0) st ≡ false → value_of ws (part l from end) ≡ whole_of 0 0
    stopped h e = sym (one_more h) ∙ stops ws (get_or l i 0) (part l (i + 1) end) st e

    pub ended : end ≤ i → value_of ws (part l from end) ≡ alone st
    unfolding value_from
    ended h = sym m.leads ∙ ap (λ (ks : List ℕ). value_from ws ks st) (part_none l i end h)

  -- the code of a type that keeps the rules has the type's value
  pub typed : Small ws → (t : Term) → TermStands t l from end → TypeOf (length ws) t → value_of ws (part l from end) ≡ value_at ws t
  typed small t s y =
      ap (value_of ws) s.is ∙ value_of_safe ws (code t) [] (value_at ws t) (safe_whole ws small t y) (walk_whole ws t) (space ws (length ws) small t y)

  pub answers : (r : Exact) → (end ≤ length l → r ≡ value_of ws (part l from end)) → Space r
      → ((t : Term) → TermStands t l from end → TypeOf (length ws) t → Small ws → r ≡ value_at ws t) × ((end ≤ length l → r ≡ value_of ws (part l from end)) × Space r)
  answers r f s = (λ t h y small. f h.inside ∙ typed small t h y, (f, s))

  -- an answer of 0 where that is the value
  pub answers_zero : (r : Exact) → r ≡ whole_of 0 0 → (end ≤ length l → value_of ws (part l from end) ≡ whole_of 0 0)
      → ((t : Term) → TermStands t l from end → TypeOf (length ws) t → Small ws → r ≡ value_at ws t) × ((end ≤ length l → r ≡ value_of ws (part l from end)) × Space r)
  answers_zero r e f = answers r (λ h. e ∙ sym (f h)) (subst (λ (x : Exact). Space x) (sym e) zero_space)
