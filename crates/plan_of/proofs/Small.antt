-- Each number of an accepted actor's plan is below 2 ^ 32, so that the plan is a slice of `u32`.
use Prim.Native.Nat.{ℕ, suc, ◌+◌, ◌/◌, ◌%◌, ◌^◌, ◌≤◌, ◌<◌}
use mathlib.Core.Path.{◌≡◌, refl}
use mathlib.Core.List.{List, [], ◌∷◌, ◌++◌}
use mathlib.Core.Bool.{true, ◌&&◌}
use mathlib.Core.Option.{Option, none, some}
use native.Mathlib.Omega.{arith}
use native.Mathlib.Nat.{lt_of_lt_of_le}
use lib.ListN.{length}
use lib.Dec.{leb, ltb, lit<}
use lib.Pow.{pow_mono}
use borrow.Author.Tests.{ltb-true}
use Rattle.language.specs.Text.{among}
use Rattle.language.specs.Tree.{Expr, plain, sized, copies, read, cell, bit, range, inside, joined, beside, unary, binary, choice, either, select, arm, default}
use Rattle.language.specs.Tree.{Val, Assignment, assign, write, Statement, alone, scoped}
use Rattle.language.specs.Parts.{each, items}
use Rattle.language.specs.Values.{plain_width}
use Rattle.language.specs.declared.Unary.{Unary}
use Rattle.language.specs.declared.Unary.TheVariants.{Invert, Plus, Not, All, NotAll, Any, NotAny, Odd, NotOdd}
use Rattle.language.specs.declared.Binary.{Binary}
use Rattle.language.specs.declared.Binary.TheVariants.{Multiply, Divide, Remainder, Add, Subtract, Left, Right, Less, AtMost, Greater, AtLeast, Equal, Unequal, And, NotAnd, Xor, NotXor, Or, NotOr, Both, Either}
use Rattle.language.specs.Widths.{port_width, memory_width}
use Rattle.language.specs.Sizes.{Setting, Extent, wide, faulty, used, Let, let_named, breadth_of, amount_of, position_at, extent, val_extent}
use Rattle.language.specs.Meaning.{position_in, port_at, cells_of, cells_before}
use Rattle.language.specs.Presence.{output_of, outputs_of}
use Rattle.plan.specs.declared.Item.{Item}
use Rattle.plan.specs.declared.Item.TheVariants.{Port, Let as Kept}
use Rattle.plan.specs.Items.{encode, unary_number, binary_number}
use Rattle.plan.specs.Sound.{input_ok}
use Rattle.plan.specs.Layout as Layout
use Rattle.placed.specs.Placed.{Every}
use Rattle.placed.proofs.Every.{every_map, every_append, append_every}
use Rattle.plan_of.specs.PlanOf.{Slot, extents, width_of, wide_of, constant, read_item, memory_at, code, assignment_code, lets_from, vals_code, body_code, plan_of}
use Rattle.plan_of.specs.Formed.{Kind, whole, parts, arms, FormedAt, nest}
use Rattle.placed.proofs.Names.{both_true}
use Rattle.plan_of.proofs.Extents.{IsWide, width_of_law, one_wide, two_wide, choice_wide, limited_wide, sized_wide, positions_wide, fitted_wide}
use Rattle.plan_of.proofs.Rules.{Fine, FineAssignment, FineVals, FineStatement, vals_in, val_inner, lets_extents}
use Rattle.plan_of.proofs.Checks.{SmallLets, Readable, Celled, ItemOk, small_extent, named_holds, NotParts, plain_holds}
use Rattle.plan_of.proofs.SoundRules.{called_of, lets_called, More, MoreAssignment, MoreVals, MoreStatement, expression_small, val_fits, items_ok, more_assignment}

abbrev pub Small : List ℕ → Type 0
Small l = Every (λ x. x < 2 ^ 32) l

-- the numbers of each item
abbrev SmallItems : List Item → Type 0
SmallItems is = Every (λ i. Small (encode i)) is

unary_number_law : (u : Unary) → unary_number u < 2 ^ 32
unary_number_law Invert = lit< tt
unary_number_law Plus = lit< tt
unary_number_law Not = lit< tt
unary_number_law All = lit< tt
unary_number_law NotAll = lit< tt
unary_number_law Any = lit< tt
unary_number_law NotAny = lit< tt
unary_number_law Odd = lit< tt
unary_number_law NotOdd = lit< tt

binary_number_law : (o : Binary) → binary_number o < 2 ^ 32
binary_number_law Multiply = lit< tt
binary_number_law Divide = lit< tt
binary_number_law Remainder = lit< tt
binary_number_law Add = lit< tt
binary_number_law Subtract = lit< tt
binary_number_law Left = lit< tt
binary_number_law Right = lit< tt
binary_number_law Less = lit< tt
binary_number_law AtMost = lit< tt
binary_number_law Greater = lit< tt
binary_number_law AtLeast = lit< tt
binary_number_law Equal = lit< tt
binary_number_law Unequal = lit< tt
binary_number_law And = lit< tt
binary_number_law NotAnd = lit< tt
binary_number_law Xor = lit< tt
binary_number_law NotXor = lit< tt
binary_number_law Or = lit< tt
binary_number_law NotOr = lit< tt
binary_number_law Both = lit< tt
binary_number_law Either = lit< tt

-- an item of any operation
four_small : (o a b c : ℕ) → o < 2 ^ 32 → a < 2 ^ 32 → b < 2 ^ 32 → c < 2 ^ 32 → Small (o ∷ a ∷ b ∷ c ∷ [])
four_small o a b c h i j k = (h, (i, (j, (k, tt))))

const_small : (w v : ℕ) → w ≤ 64 → v < 2 ^ w → SmallItems (constant w v)
unfolding constant
const_small w v h k =
    let q : v < 2 ^ 64 = lt_of_lt_of_le k (pow_mono h) in
    (four_small 0 w (v % 2 ^ 32) (v / 2 ^ 32) (lit< tt) (omega arith) (omega arith) (omega arith), tt)

module _ (s : Setting) (present taken : ℕ) (ms : List (List ℕ)) (few : Layout.port_count (plan_of s) ≤ 16) (ports_small : (n : List ℕ) → port_width s.actor s.widths n ≤ 32) (memories_small : (n : List ℕ) → memory_width s.actor s.widths n ≤ 32)
    (memories_there : (n : List ℕ) → among ms n ≡ true → Celled s present taken 0 ms n)
    (cells_small : (n : List ℕ) → among ms n ≡ true → (memory_at s n < 2 ^ 32) × (cells_before s.actor.memories n < 2 ^ 32) × (cells_of s.actor.memories n < 2 ^ 32)) where
  -- the slots of the `let`s
  abbrev Low : List (Let Slot) → Type 0
  Low lets = Every (λ l. l.holds.number < 16) lets

  module _ (lets : List (Let Slot)) (low : Low lets) (smalls : SmallLets lets) where
    abbrev at : Expr → Extent
    at e = extent s (extents lets) e

    abbrev wd : Expr → ℕ
    wd e = width_of (extent s (extents lets) e)

    read_item_law : (n : List ℕ) → (let_named lets n ≡ none → Readable s present taken 0 ms n) → Small (encode (read_item s lets n))
    unfolding read_item input_ok
    read_item_law n r = go (let_named lets n) refl
      where
        low_slot : (l : List (Let Slot)) (x : Slot) → Low l → let_named l n ≡ some x → x.number < 16
        low_slot l x p e = named_holds (λ y. y.number < 16) l n x p e

        go : (x : Option Slot) → let_named lets n ≡ x → Small (encode (elim x [ some x ↦ Kept x.number | none ↦ Port (port_at s n) ]))
        go none e =
            let q = both_true (ltb (port_at s n) (Layout.port_count (plan_of s)) && leb (Layout.port_at (plan_of s) (port_at s n)) 32) _ (r e).0 in
            let k = ltb-true (port_at s n) (Layout.port_count (plan_of s)) (both_true (ltb (port_at s n) (Layout.port_count (plan_of s))) _ q.0).0 in
            four_small 1 (port_at s n) 0 0 (lit< tt) (omega arith) (lit< tt) (lit< tt)
        go (some x) e = let k = low_slot lets x low e in four_small 2 x.number 0 0 (lit< tt) (omega arith) (lit< tt) (lit< tt)

    small_at : (x : Kind) (e : Expr) → FormedAt ms x e → NotParts s present taken 0 ms lets x → IsWide (at e) → wd e ≤ 64
    small_at x e f k i = small_extent s present taken 0 ms lets ports_small memories_small memories_there x e f k smalls i

    code_small : (x : Kind) (d : ℕ) (e : Expr) → FormedAt ms x e → IsWide (at e) → wd e ≤ 64 → Every (ItemOk s present taken 0 ms lets) (items e) → d + nest e ≤ 32 → SmallItems (code s lets d e)
    unfolding code extent nest items wide_of width_of
    code_small x d (plain n) f h w i b = const_small (plain_width n.value) n.value w (plain_holds n.value)
    code_small x d (sized u a) f h w i b = let q = sized_wide (breadth_of s u) (amount_of s a) _ h in const_small (breadth_of s u) (amount_of s a) q.0 q.1
    code_small x d (copies n e) f h w i b =
        let a = one_wide (at e) _ h in let c = small_at whole e f.1 tt a.0 in let k = i.0 in
        append_every _ (code s lets d e) _ (code_small whole d e f.1 a.0 c i.1 b) (four_small 5 n.value (wd e) 0 (lit< tt) (omega arith) (omega arith) (lit< tt), tt)
    code_small x d (read n) f h w i b = (read_item_law n.spelled i.0, tt)
    code_small x d (cell n e) f h w i b =
        let a = one_wide (at e) _ h in let c = cells_small n.spelled f.1 in
        append_every _ (code s lets d e) _ (code_small whole d e f.2 a.0 (small_at whole e f.2 tt a.0) i b) (four_small 3 _ _ _ (lit< tt) c.0 c.1 c.2, tt)
    code_small x d (bit e p j) f h w i b =
        let a = one_wide (at e) _ h in let c = positions_wide s p _ (position_at s j) (position_at s j) a.1 in
        let y = small_at whole e f.1 tt a.0 in let u = c.0 in
        append_every _ (code s lets d e) _ (code_small whole d e f.1 a.0 y (every_append _ (items e) _ i).0 b) (four_small 4 (position_in (position_at s j)) (position_in (position_at s j)) 0 (lit< tt) (omega arith) (omega arith) (lit< tt), tt)
    code_small x d (range e p j k) f h w i b =
        let a = one_wide (at e) _ h in let c = positions_wide s p _ (position_at s j) (position_at s k) a.1 in
        let y = small_at whole e f.1 tt a.0 in let u = c.0 in let v = c.1 in
        append_every _ (code s lets d e) _ (code_small whole d e f.1 a.0 y (every_append _ (items e) _ i).0 b) (four_small 4 (position_in (position_at s j)) (position_in (position_at s k)) 0 (lit< tt) (omega arith) (omega arith) (lit< tt), tt)
    code_small x d (inside p e) f h w i b = code_small whole d e f.1 h w i b
    code_small x d (joined p e) f h w i b = let a = one_wide (at e) _ h in code_small parts d e f.1 a.0 (limited_wide _ _ a.1).0 i b
    code_small x d (beside a c) f h w i b =
        let q = two_wide (at a) (at c) _ h in
        let v : wd a + wd c ≤ 64 = rw (width_of_law (at (beside a c)) _ q.3) at w in
        let u = every_append _ (items a) (items c) i in
        append_every _ (code s lets d a) _ (code_small parts d a f.1 q.0 (omega arith) u.0 (omega arith))
        (append_every _ (code s lets d c) _ (code_small whole d c f.2 q.1 (omega arith) u.1 (omega arith)) (four_small 6 (wd c) 0 0 (lit< tt) (omega arith) (lit< tt) (lit< tt), tt))
    code_small x d (unary o e) f h w i b =
        let a = one_wide (at e) _ h in let y = small_at whole e f.1 tt a.0 in
        append_every _ (code s lets d e) _ (code_small whole d e f.1 a.0 y i b) (four_small 7 (unary_number o.which) (wd e) 0 (lit< tt) (unary_number_law o.which) (omega arith) (lit< tt), tt)
    code_small x d (binary o a c) f h w i b =
        let q = two_wide (at a) (at c) _ h in let u = every_append _ (items a) (items c) i in
        let y = small_at whole a f.1 tt q.0 in let z = small_at whole c f.2 tt q.1 in
        append_every _ (code s lets d a) _ (code_small whole d a f.1 q.0 y u.0 (omega arith))
        (append_every _ (code s lets d c) _ (code_small whole d c f.2 q.1 z u.1 (omega arith)) (four_small 8 (binary_number o) (wd a) (wd c) (lit< tt) (binary_number_law o) (omega arith) (omega arith), tt))
    code_small x d (choice c a e) f h w i b =
        let q = choice_wide (at c) (at a) (at e) h in let u = every_append _ (items c) (items a ++ items e) i in let v = every_append _ (items a) (items e) u.1 in
        append_every _ (code s lets d c) _ (code_small whole d c f.1 q.0 (small_at whole c f.1 tt q.0) u.0 (omega arith))
        (append_every _ (code s lets d a) _ (code_small whole d a f.2 q.1 (small_at whole a f.2 tt q.1) v.0 (omega arith))
        (append_every _ (code s lets d e) _ (code_small whole d e f.3 q.2 (small_at whole e f.3 tt q.2) v.1 (omega arith)) (four_small 9 0 0 0 (lit< tt) (lit< tt) (lit< tt) (lit< tt), tt)))
    code_small x d (either p c a e) f h w i b =
        let q = choice_wide (at c) (at a) (at e) h in let u = every_append _ (items c) (items a ++ items e) i in let v = every_append _ (items a) (items e) u.1 in
        append_every _ (code s lets d c) _ (code_small whole d c f.1 q.0 (small_at whole c f.1 tt q.0) u.0 (omega arith))
        (append_every _ (code s lets d a) _ (code_small whole d a f.2 q.1 (small_at whole a f.2 tt q.1) v.0 (omega arith))
        (append_every _ (code s lets d e) _ (code_small whole d e f.3 q.2 (small_at whole e f.3 tt q.2) v.1 (omega arith)) (four_small 9 0 0 0 (lit< tt) (lit< tt) (lit< tt) (lit< tt), tt)))
    code_small x d (select p e a) f h w i b =
        let q = two_wide (at e) (at a) _ h in let u = every_append _ (items e) (items a) i in let y = small_at whole e f.1 tt q.0 in
        append_every _ (code s lets d e) _ (code_small whole d e f.1 q.0 y u.0 (omega arith))
        (four_small 11 (16 + d) (wd e) 0 (lit< tt) (omega arith) (omega arith) (lit< tt), code_small arms (suc d) a f.2 q.1 (small_at arms a f.2 tt q.1) u.1 (omega arith))
    code_small x d (arm n e r) f h w i b =
        let q = two_wide (at e) (at r) _ h in let u = every_append _ (items e) (items r) i in let y = f.3 in
        append_every _ (code s lets d e) _ (code_small whole d e f.1 q.0 (small_at whole e f.1 tt q.0) u.0 (omega arith))
        (append_every _ (code s lets d r) _ (code_small arms d r f.2 q.1 (small_at arms r f.2 tt q.1) u.1 (omega arith)) (four_small 10 n.value (15 + d) 0 (lit< tt) (omega arith) (omega arith) (lit< tt), tt))
    code_small x d (default p e) f h w i b = code_small whole d e f.1 h w i b

  -- ## Statements

  expression : (lets : List (Let Slot)) (e : Expr) → Low lets → SmallLets lets → Fine ms e → More s present taken ms (called_of lets) e → IsWide (extent s (extents lets) e) → SmallItems (code s lets 0 e)
  expression lets e o l f x i =
      code_small lets o l whole 0 e f.0 i (expression_small s present taken ms ports_small memories_small memories_there lets e f.0 l i)
      (items_ok s present taken ms ports_small memories_small memories_there lets (items e) x.1) (let k = f.1 in omega arith)

  assignment_small : (lets : List (Let Slot)) (x : Assignment) → Low lets → SmallLets lets → FineAssignment s ms (extents lets) x → MoreAssignment s present taken ms (called_of lets) x → Every (λ n. port_at s n.spelled < 16) (output_of x) → SmallItems (assignment_code s lets x)
  unfolding assignment_code output_of
  assignment_small lets (assign n e) o l f x p =
      let q = fitted_wide s (extents lets) _ e f.1 in let k = p.0 in
      append_every _ (code s lets 0 e) _ (expression lets e o l f.0 x q.0) (four_small 12 (port_at s n.spelled) 0 0 (lit< tt) (omega arith) (lit< tt) (lit< tt), tt)
  assignment_small lets (write n a e) o l f x p =
      let q = fitted_wide s (extents lets) _ e f.3 in let c = cells_small n.spelled x.0 in
      append_every _ (code s lets 0 a) _ (expression lets a o l f.0 x.1 f.1) (append_every _ (code s lets 0 e) _ (expression lets e o l f.2 x.2 q.0) (four_small 13 _ _ _ (lit< tt) c.0 c.1 c.2, tt))

  assignments_small : (lets : List (Let Slot)) (xs : List Assignment) → Low lets → SmallLets lets → Every (FineAssignment s ms (extents lets)) xs → Every (MoreAssignment s present taken ms (called_of lets)) xs
      → Every (λ n. port_at s n.spelled < 16) (each output_of xs) → SmallItems (each (assignment_code s lets) xs)
  unfolding each
  assignments_small lets [] o l f x p = tt
  assignments_small lets (y ∷ xs) o l f x p =
      let q = every_append _ (output_of y) (each output_of xs) p in
      append_every _ (assignment_code s lets y) _ (assignment_small lets y o l f.0 x.0 q.0) (assignments_small lets xs o l f.1 x.1 q.1)

  vals_small : (k : ℕ) (lets : List (Let Slot)) (vs : List Val) → Low lets → SmallLets lets → FineVals s ms (extents lets) vs → MoreVals s present taken ms (called_of lets) vs → k + length vs ≤ 16
      → SmallItems (vals_code s k lets vs) × Low (lets_from s k lets vs) × SmallLets (lets_from s k lets vs)
  unfolding vals_code lets_from extents called_of used width_of
  vals_small k lets [] o l f x n = (tt, o, l)
  vals_small k lets (v ∷ vs) o l f x n =
      let z = val_fits s present taken ms ports_small memories_small memories_there lets v f.0.0 l f.1 in
      let w = z.1 in
      let c : Let Slot = record { called = v.called.spelled; holds = record { number = k; holds = val_extent s (extents lets) v } } in
      let q = vals_small (suc k) (c ∷ lets) vs (omega arith, o) (used_small (val_extent s (extents lets) v) w, l) f.2 x.1 (omega arith) in (
        append_every _ (code s lets 0 v.value) _ (expression lets v.value o l f.0 x.0 (val_inner s (extents lets) v f.1))
            (four_small 11 k (width_of (val_extent s (extents lets) v)) 0 (lit< tt) (omega arith) (omega arith) (lit< tt), q.0),
        q.1,
        q.2,
      )
    where
      used_small : (e : Extent) → width_of e ≤ 64 → width_of (used e) ≤ 64
      used_small (wide w) h = h
      used_small (faulty l) h = omega arith

  pub body_small : (k : ℕ) (l : List Statement) → Every (FineStatement s ms) l → Every (MoreStatement s present taken ms) l → Every (λ n. port_at s n.spelled < 16) (each outputs_of l) → k + vals_in l ≤ 16 → SmallItems (body_code s k l)
  unfolding body_code each outputs_of vals_in extents called_of
  body_small k [] f x p n = tt
  body_small k (alone y ∷ l) f x p n =
      let q = every_append _ (output_of y) (each outputs_of l) p in
      append_every _ (assignment_code s [] y) _ (assignment_small [] y tt tt f.0 x.0 q.0) (body_small k l f.1 x.1 q.1 n)
  body_small k (scoped vs xs ∷ l) f x p n =
      let q = every_append _ (each output_of xs) (each outputs_of l) p in
      let v = vals_small k [] vs tt tt f.0.0 x.0.0 (omega arith) in
      append_every _ (vals_code s k [] vs) _ v.0
      (append_every _ (each (assignment_code s (lets_from s k [] vs)) xs) _
      (assignments_small (lets_from s k [] vs) xs v.1 v.2 (rw (lets_extents s k [] vs) f.0.1)
      (every_map _ _ (λ y h. more_assignment s present taken ms ports_small memories_small memories_there _ _ y (λ b e. (lets_called s k [] vs b e).0) h) xs x.0.1) q.0)
      (body_small (k + length vs) l f.1 x.1 q.1 (omega arith)))
