-- Tables of numbers: their items, the values that wait in them. Assumes nothing.
use Prim.Native.Nat.{ℕ, zero, suc, ◌+◌, ◌*◌, ◌%◌, ◌^◌, ◌≤◌, ◌<◌}
use mathlib.Core.Path.{◌≡◌, refl, sym, ap, ap₂, ◌∙◌}
use mathlib.Core.List.{List, [], ◌∷◌}
use mathlib.Core.Bool.{true}
use native.Mathlib.Numerals.{add-one}
use Rattle.std.specs.Prelude.{slice_get, Some, map}
use Rattle.std.proofs.lemmas.Option.{get_or_from_slice_get, slice_get-map}
use Rattle.std.specs.Option.{option_map}
use native.Mathlib.Nat.{add-zero, lt_of_lt_of_le, one-mul, mod-eq_of_lt, div-eq_of_lt, mul-suc}
use native.Mathlib.Omega.{arith}
use lib.ListN.{length, get_or, drop, take, length-drop, get_or-eq_default}
use lib.Seq.{drop-drop, get_or-drop}
use lib.Dec.{ltb}
use lib.Pow.{pow-lt, pow_mono}
use borrow.Author.Tests.{lt-ltb}
use Rattle.language.specs.Values.{bit_of}
use Rattle.language.specs.declared.Unary.{Unary}
use Rattle.language.specs.declared.Unary.TheVariants.{Invert, Plus, Not, All, NotAll, Any, NotAny, Odd, NotOdd}
use Rattle.language.specs.declared.Binary.{Binary}
use Rattle.language.specs.declared.Binary.TheVariants.{Multiply, Divide, Remainder, Add, Subtract, Left, Right, Less, AtMost, Greater, AtLeast, Equal, Unequal, And, NotAnd, Xor, NotXor, Or, NotOr, Both, Either}
use Rattle.plan.specs.declared.Item.{Item}
use Rattle.plan.specs.declared.Item.TheVariants.{Const, Port, Let, Cell, Range, Copies, Beside, Before, Between, Choice, Arm, Keep, Assign, Write, Bad}
use Rattle.plan.specs.Items.{encode, decode, decode_all, unary_item, unary_items, binary_item, binary_items, items_of}
use Rattle.plan.specs.Layout.{memories_from, memory_size_at, cells_before, groups_from, group_at, rules_before, rules_from, length_at, code_before}
use Rattle.plan.specs.Items.{item_at}
use Rattle.plan.specs.Layout.{sum_of}

-- ---- numbers past the last of a table

pub decode_past : (o a b c : ℕ) → 14 ≤ o → decode o a b c ≡ Bad
unfolding decode
decode_past o a b c h = get_or-eq_default (items_of a b c) Bad h

pub unary_past : (a w : ℕ) → 9 ≤ a → unary_item a w ≡ Bad
unfolding unary_item
unary_past a w h = get_or-eq_default (unary_items w) Bad h

pub binary_past : (a m n : ℕ) → 21 ≤ a → binary_item a m n ≡ Bad
unfolding binary_item
binary_past a m n h = get_or-eq_default (binary_items m n) Bad h

-- what stands at a place of a list is, in a list made of it, what is made of it
named : {A B : Type 0} (f : A → B) (xs : List A) (n : ℕ) (d : B) {x : A} → slice_get xs n ≡ Some x → f x ≡ get_or (map f xs) n d
named f xs n d {x} e = sym (get_or_from_slice_get (map f xs) n (f x) d (slice_get-map f xs n ∙ ap (option_map f) e))

-- the operators in the order of their numbers, as `language`'s conversions name them
abbrev pub unaries : List Unary
unaries = Invert ∷ Plus ∷ Not ∷ All ∷ NotAll ∷ Any ∷ NotAny ∷ Odd ∷ NotOdd ∷ []

abbrev pub binaries : List Binary
binaries = Multiply ∷ Divide ∷ Remainder ∷ Add ∷ Subtract ∷ Left ∷ Right ∷ Less ∷ AtMost ∷ Greater ∷ AtLeast ∷ Equal ∷ Unequal ∷ And ∷ NotAnd ∷ Xor ∷ NotXor ∷ Or ∷ NotOr ∷ Both ∷ Either ∷ []

pub unary_named : (a w : ℕ) {u : Unary} → slice_get unaries a ≡ Some u → Before u w ≡ unary_item a w
unfolding unary_item
unary_named a w e = named (λ (u : Unary). Before u w) unaries a Bad e

pub binary_named : (a m n : ℕ) {o : Binary} → slice_get binaries a ≡ Some o → Between o m n ≡ binary_item a m n
unfolding binary_item
binary_named a m n e = named (λ (o : Binary). Between o m n) binaries a Bad e

-- what the default of a `match` on 0, 1, .., n - 1 knows: x is at least n
abbrev pub Nots : ℕ → ℕ → Type 0
Nots x zero = Unit {0}
Nots x (suc n) = Nots x n × (x ≡ n → ⊥)

pub above : (x n : ℕ) → Nots x n → n ≤ x
above x zero r = omega arith
above x (suc n) r = let h = above x n r.0 in let k = r.1 in omega arith

-- ---- bits

pub bit_past : (a k : ℕ) → a < 2 ^ 32 → 32 ≤ k → 0 ≡ bit_of a k
unfolding bit_of
bit_past a k h l = sym (ap (λ (x : ℕ). x % 2) (div-eq_of_lt (lt_of_lt_of_le h (pow_mono l))))

pub one_shl : (v w : ℕ) → w < v → (1 * 2 ^ w) % 2 ^ v ≡ 2 ^ w
one_shl v w h = rw one-mul (mod-eq_of_lt (pow-lt h))

pub fits_past : (x w : ℕ) → x < 2 ^ 64 → 64 ≤ w → true ≡ ltb x (2 ^ w)
fits_past x w h l = sym (lt-ltb x (2 ^ w) (lt_of_lt_of_le h (pow_mono l)))

-- ---- the items of code

decode_cons : (l : List ℕ) (n : ℕ) → 4 ≤ length l → decode_all (take (4 + n) l) ≡ item_at l 0 ∷ decode_all (take n (drop 4 l))
unfolding decode_all item_at
decode_cons [] n h = absurd (omega arith)
decode_cons (o ∷ []) n h = absurd (omega arith)
decode_cons (o ∷ a ∷ []) n h = absurd (omega arith)
decode_cons (o ∷ a ∷ b ∷ []) n h = absurd (omega arith)
decode_cons (o ∷ a ∷ b ∷ c ∷ r) n h = let e : 4 + n ≡ suc (suc (suc (suc n))) = omega arith in rw e

-- the first of n + 1 items from a place on
pub item_next : (p : List ℕ) (i n : ℕ) → i + 4 ≤ length p → decode_all (take (4 + n) (drop i p)) ≡ item_at p i ∷ decode_all (take n (drop (i + 4) p))
unfolding item_at
item_next p i n h = decode_cons (drop i p) n (rw length-drop (omega arith)) ∙ simp (item_at, get_or-drop, drop-drop, add-zero)

-- ---- sums

pub sum_next : (p : List ℕ) (from step i : ℕ) → sum_of p from step (i + 1) ≡ sum_of p from step i + get_or p (from + step * i) 0
unfolding sum_of
sum_next p from step i = rw (add-one i)

pub place_next : (at from step i : ℕ) → at ≡ from + step * i → at + step ≡ from + step * (i + 1)
place_next at from step i e = rw (add-one i, mul-suc step i) (omega arith)

pub cells_sum : (p : List ℕ) (m : ℕ) → sum_of p (memories_from p + 2) 2 m ≡ cells_before p m
unfolding sum_of cells_before memory_size_at
cells_sum p zero = refl
cells_sum p (suc m) = ap (λ (x : ℕ). x + get_or p (memories_from p + 2 + 2 * m) 0) (cells_sum p m)

pub rules_sum : (p : List ℕ) (g : ℕ) → sum_of p (groups_from p + 1) 1 g ≡ rules_before p g
unfolding sum_of rules_before group_at
rules_sum p zero = refl
rules_sum p (suc g) = let e : 1 * g ≡ g = omega arith in ap₂ (λ (x y : ℕ). x + get_or p (groups_from p + 1 + y) 0) (rules_sum p g) e

pub code_sum : (p : List ℕ) (r : ℕ) → sum_of p (rules_from p + 3) 3 r ≡ code_before p r
unfolding sum_of code_before length_at
code_sum p zero = refl
code_sum p (suc r) = ap (λ (x : ℕ). x + get_or p (rules_from p + 3 + 3 * r) 0) (code_sum p r)

-- inside a list the default does not matter
pub get_d_any_law : (l : List ℕ) (i a b : ℕ) → i < length l → get_or l i a ≡ get_or l i b
get_d_any_law [] i a b h = absurd (omega arith)
get_d_any_law (x ∷ l) zero a b h = refl
get_d_any_law (x ∷ l) (suc i) a b h = get_d_any_law l i a b (omega arith)

-- an item has four numbers
pub four_long : (i : Item) → length (encode i) ≡ 4
four_long (Const w lo hi) = refl
four_long (Port i) = refl
four_long (Let k) = refl
four_long (Cell m f n) = refl
four_long (Range i j) = refl
four_long (Copies n w) = refl
four_long (Beside w) = refl
four_long (Before u w) = refl
four_long (Between o m n) = refl
four_long Choice = refl
four_long (Arm n k) = refl
four_long (Keep k w) = refl
four_long (Assign p) = refl
four_long (Write m f n) = refl
four_long Bad = refl
