-- What the walk looks up, said of a setting: the names by number, the cells of memories, the values of types, and that 32 bits hold each. Assumes nothing.
use mathlib.Core.Path.{◌≡◌, refl, sym, ap, ◌∙◌, subst}
use mathlib.Core.Bool.{Bool, true, false}
use mathlib.Core.List.{List, [], ◌∷◌}
use mathlib.Core.Option.{Option, none, some}
use Prim.Native.Nat.{ℕ, zero, suc, ◌+◌, ◌*◌, ◌^◌, ◌≤◌, ◌<◌}
use native.Mathlib.Nat.{le_trans, lt_of_le_of_lt, le-mul_of_pos_right}
use native.Mathlib.Omega.{arith}
use lib.Dec.{leb, lit<}
use lib.Pow.{pow_mono}
use lib.ListN.{length, get_or, take}
use borrow.Author.Tests.{lt-ltb}
use Rattle.language.specs.declared.Exact.{Exact}
use Rattle.language.specs.Text.{same, index}
use Rattle.language.specs.Tree.{Ty, number, environment, port, plus, minus, log, ceil, floor, most, entry, within, Size, one, cells, Memory, spelled_of, memory_names}
use Rattle.language.specs.Counts.{size_of}
use Rattle.language.specs.Types.{exact_of, floor_of, width_of, position_of}
use Rattle.language.specs.Widths.{value_in, port_width}
use Rattle.language.specs.Sizes.{Setting}
use Rattle.language.specs.Meaning.{cells_before, cells_of}
use Rattle.sized_constants.specs.Constant.{constant_at}
use Rattle.placed.specs.Placed.{name_from, PlacedType}
use Rattle.type_value.specs.Terms.{Term, code, resolve, value_at, Fine, TypeOf}
use Rattle.type_value.specs.Walk.{value_of}
use Rattle.exact.proofs.Logs.{down_le}
use Rattle.type_value.proofs.Grows.{positive}
use Rattle.type_value.proofs.Bounds.{bounded, space}
use Rattle.type_value.proofs.Walking.{walk_whole, safe_whole}
use Rattle.type_value.proofs.Tested.{value_of_safe}
use Rattle.typing.proofs.Rules.{resolved}
use Rattle.settled.specs.Form.{OUTSIDE}
use Rattle.settled.specs.Settled.{placed}
use Rattle.looked_up.specs.Lookup.{operand, sum_of}
use Rattle.item_writes.specs.Walk.{Around}
use Rattle.settle.proofs.Types.{Sound}

-- the names of the ports, and of the memories, by number
abbrev pub ports_of : Setting → List (List ℕ)
ports_of s = spelled_of s.actor.signature

abbrev pub memories_of : Setting → List (List ℕ)
memories_of s = spelled_of (memory_names s.actor.memories)

-- a memory's size; the sizes of memories, the first one first
abbrev pub size_given : Size → ℕ
size_given z = elim z [ one ↦ 1 | cells n ↦ n.value ]

unfoldable pub sizes_of : List Memory → List ℕ
sizes_of [] = []
sizes_of (m ∷ ms) = size_of m ∷ sizes_of ms

-- what the walk looks up, where `ins` are the names of the inputs in any order
abbrev pub around : (text : List ℕ) → Setting → List (List ℕ) → Around
around text s ins =
    record {
      called = name_from text;
      constant = constant_at text;
      value = value_in s.bindings.values;
      ports = ports_of s;
      inputs = ins;
      memories = memories_of s;
      sizes = sizes_of s.actor.memories;
      widths = s.widths;
    }

-- what rows 7 and 10 leave of a setting
pub record Small (s : Setting) : Type 0 where
  pub ports : length (ports_of s) ≤ 16
  pub memories : length (memories_of s) ≤ 8
  pub cells : sum_of (sizes_of s.actor.memories) ≤ 256
  pub unknowns : length s.widths ≤ 24
  pub widths : (i : ℕ) → get_or s.widths i 0 ≤ 32

-- ---- operands

pub operand_is : (n : ℕ) → n < 2 ^ 32 → operand n ≡ n
unfolding operand
operand_is n h = rw (lt-ltb n (2 ^ 32) h, operand)

-- ---- memories

pub cells_before_law : (ms : List Memory) (n : List ℕ) → sum_of (take (index (spelled_of (memory_names ms)) n) (sizes_of ms)) ≡ cells_before ms n
unfolding index spelled_of memory_names sizes_of cells_before sum_of
cells_before_law [] n = refl
cells_before_law (m ∷ ms) n = go (same m.called.spelled n) (cells_before_law ms n)
  where
    go : (b : Bool) → sum_of (take (index (spelled_of (memory_names ms)) n) (sizes_of ms)) ≡ cells_before ms n
        → sum_of (take (elim b as (λ (x : Bool). ℕ) [ true ↦ zero | false ↦ suc (index (spelled_of (memory_names ms)) n) ]) (size_of m ∷ sizes_of ms)) ≡ elim b as (λ (x : Bool). ℕ) [ true ↦ 0 | false ↦ size_of m + cells_before ms n ]
    go true e = refl
    go false e = ap (λ (k : ℕ). size_of m + k) e

pub cells_of_law : (ms : List Memory) (n : List ℕ) → get_or (sizes_of ms) (index (spelled_of (memory_names ms)) n) 0 ≡ cells_of ms n
unfolding index spelled_of memory_names sizes_of cells_of
cells_of_law [] n = refl
cells_of_law (m ∷ ms) n = go (same m.called.spelled n) (cells_of_law ms n)
  where
    go : (b : Bool) → get_or (sizes_of ms) (index (spelled_of (memory_names ms)) n) 0 ≡ cells_of ms n
        → get_or (size_of m ∷ sizes_of ms) (elim b as (λ (x : Bool). ℕ) [ true ↦ zero | false ↦ suc (index (spelled_of (memory_names ms)) n) ]) 0 ≡ elim b as (λ (x : Bool). ℕ) [ true ↦ size_of m | false ↦ cells_of ms n ]
    go true e = refl
    go false e = e

pub sum_within : (k : ℕ) (l : List ℕ) → sum_of (take k l) ≤ sum_of l
unfolding sum_of
sum_within zero l = omega arith
sum_within (suc k) [] = omega arith
sum_within (suc k) (x ∷ l) = let h = sum_within k l in omega arith

-- ---- types

-- a type that keeps rows 6 to 8, with its names looked up
abbrev pub term_in : Setting → Ty → Term
term_in s t = resolve (index (ports_of s)) (value_in s.bindings.values) t

abbrev pub Right : Setting → Ty → Type 0
Right s t = TypeOf (length s.widths) (term_in s t)

abbrev pub exact_in : Setting → Ty → Exact
exact_in s t = exact_of (port_width s.actor s.widths) (value_in s.bindings.values) t

low_leaf : (n : ℕ) → n ≤ 65535 → n * 8 < 2 ^ 32
low_leaf n h = omega arith

low_port : (i n : ℕ) → i < n → n ≤ 24 → i * 8 + 1 < 2 ^ 32
low_port i n h g = omega arith

module _ (text : List ℕ) (s : Setting) (ins : List (List ℕ)) (few : length s.widths ≤ 24) where
  pub sound : (t : Ty) → PlacedType text t → Fine (length s.widths) (term_in s t) → Sound (around text s ins) t
  unfolding resolve
  sound (number n) h f = low_leaf n.value f
  sound (environment n) h f = (sym h, low_leaf (value_in s.bindings.values n.spelled) f)
  sound (port n) h f = (sym h, low_port (index (ports_of s) n.spelled) (length s.widths) f few)
  sound (plus x y) h f = (sound x h.0 f.0, sound y h.1 f.1)
  sound (minus x y) h f = (sound x h.0 f.0, sound y h.1 f.1)
  sound (log p x) h f = sound x h f.0
  sound (ceil p x) h f = sound x h f.0
  sound (floor p x) h f = sound x h f.0
  sound (most p x) h f = sound x h f
  sound (entry x y) h f = (sound x h.0 f.0, sound y h.1 f.1)
  sound (within p x) h f = sound x h f

module _ (ws : List ℕ) (small : (i : ℕ) → get_or ws i 0 ≤ 32) where
  no_more_law : (i : ℕ) → get_or ws i 0 ≤ 65535
  no_more_law i = let h = small i in omega arith

  code_value : (t : Term) → TypeOf (length ws) t → value_of ws (code t) ≡ value_at ws t
  code_value t y = value_of_safe ws (code t) [] (value_at ws t) (safe_whole ws no_more_law t y) (walk_whole ws t) (space ws (length ws) no_more_law t y)

  -- 64 nodes of 65,535 and two logs
  width_low : (t : Term) → TypeOf (length ws) t → width_of (value_at ws t) < 2 ^ 32
  unfolding width_of floor_of
  width_low t y =
      let x = value_at ws t in
      let b = bounded ws (length ws) no_more_law t y.fine y.two y.short in
      let p = positive ws t in
      let a : x.a ≤ 2 ^ 44 = le_trans (le-mul_of_pos_right x.a p.1) (le_trans b.abs (pow_mono {j = 44} (let g = y.two in omega arith))) in
      let d = down_le 45 x.a x.b (lt_of_le_of_lt a (lit< tt)) in
      let u = b.ups in
      let l = y.short in
      omega arith

position_low : (x : Exact) → width_of x < 2 ^ 32 → operand (placed (position_of x)) ≡ placed (position_of x)
unfolding position_of placed
position_low x h = go (leb (floor_of x).down (floor_of x).up)
  where
    go : (b : Bool) → operand (placed (elim b as (λ (y : Bool). Option ℕ) [ true ↦ some (width_of x) | false ↦ none ])) ≡ placed (elim b as (λ (y : Bool). Option ℕ) [ true ↦ some (width_of x) | false ↦ none ])
    go true = operand_is (width_of x) h
    go false = operand_is OUTSIDE (lit< tt)

module _ (s : Setting) (small : (i : ℕ) → get_or s.widths i 0 ≤ 32) (t : Ty) (y : Right s t) where
  exact_is : value_of s.widths (code (term_in s t)) ≡ exact_in s t
  unfolding port_width
  exact_is = code_value s.widths small (term_in s t) y ∙ sym (resolved (port_width s.actor s.widths) (value_in s.bindings.values) (index (ports_of s)) s.widths (λ n. refl) t)

  exact_low : width_of (exact_in s t) < 2 ^ 32
  exact_low = subst (λ (x : Exact). width_of x < 2 ^ 32) (sym (code_value s.widths small (term_in s t) y) ∙ exact_is) (width_low s.widths small (term_in s t) y)

  pub width_is : operand (width_of (value_of s.widths (code (term_in s t)))) ≡ width_of (exact_in s t)
  width_is = ap (λ (x : Exact). operand (width_of x)) exact_is ∙ operand_is _ exact_low

  pub position_is : operand (placed (position_of (value_of s.widths (code (term_in s t))))) ≡ placed (position_of (exact_in s t))
  position_is = ap (λ (x : Exact). operand (placed (position_of x))) exact_is ∙ position_low (exact_in s t) exact_low
