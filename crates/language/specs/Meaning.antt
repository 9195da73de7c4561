-- 01, "Cycle", for an actor that was accepted: its answer, 22 to 25 or 0, the number of present ports, the outputs and the memory; and a run of cycles. Assumes nothing: these are definitions.
use Rattle.std.specs.Prelude.{Bool, true, false, not, ◌&&◌, ◌||◌, List, [], ◌∷◌, ◌++◌, ℕ, zero, suc, ◌+◌, ◌*◌, ◌^◌, max, eqb, leb, ltb}
use Rattle.std.specs.Bool.{beq}
use Rattle.std.proofs.Math.Option.{Option, none, some}
use lib.ListN.{length, get_or, set}
use Rattle.language.specs.Text.{Name, same, index}
use Rattle.language.specs.Words.{Numeral}
use Rattle.language.specs.Tree.{Prefix, Expr, plain, sized, copies, read, cell, bit, range, inside, joined, beside, unary, binary, choice, either, select, arm, default}
use Rattle.language.specs.Tree.{Declared, untyped, Port, Memory, Entry, Val, Assignment, assign, write, Statement, alone, scoped, Rule, Group, Actor, spelled_of, memory_names}
use Rattle.language.specs.Parts.{each}
use Rattle.language.specs.Names.{input_names}
use Rattle.language.specs.Counts.{size_of}
use Rattle.language.specs.Widths.{port_width, memory_width, type_width}
use Rattle.language.specs.Sizes.{Setting, Let, let_named, breadth_of, amount_of, position_at}
use Rattle.language.specs.Values.{plain_width, bit_of, ones_of, binary_width, binary_value, unary_width, unary_value, beside_of, copies_of, range_width, range_of, chosen}

-- a value with its width
pub record Bits : Type 0 where
  pub wide : ℕ
  pub value : ℕ

abbrev bits_of : ℕ → ℕ → Bits
bits_of w v = record { wide = w; value = v }

-- ---- the cells: all memories one after the other, in the order of their declarations

unfoldable pub cells_before : List Memory → List ℕ → ℕ
cells_before [] s = 0
cells_before (m ∷ ms) s = elim (same m.called.spelled s) [ true ↦ 0 | false ↦ size_of m + cells_before ms s ]

unfoldable pub cells_of : List Memory → List ℕ → ℕ
cells_of [] s = 0
cells_of (m ∷ ms) s = elim (same m.called.spelled s) [ true ↦ size_of m | false ↦ cells_of ms s ]

-- n times w
unfoldable pub copies_in : ℕ → ℕ → List ℕ
copies_in zero w = []
copies_in (suc n) w = w ∷ copies_in n w

-- the width of each cell
unfoldable pub cell_widths : Setting → List ℕ
cell_widths s = each (λ m. copies_in (size_of m) (memory_width s.actor s.widths m.called.spelled)) s.actor.memories

-- ---- what a cycle is given: the mask of present ports, a value for each port, all cells

pub record Given : Type 0 where
  pub mask : ℕ
  pub values : List ℕ
  pub memory : List ℕ

unfoldable pub port_at : Setting → List ℕ → ℕ
port_at s n = index (spelled_of s.actor.signature) n

-- "Bit i is port i of the signature."
unfoldable pub is_present : Setting → ℕ → List ℕ → Bool
is_present s mask n = eqb (bit_of mask (port_at s n)) 1

-- the value of a position that is inside
unfoldable pub position_in : Option ℕ → ℕ
position_in none = 0
position_in (some i) = i

-- ---- expressions

module _ (s : Setting) (g : Given) where
  -- "A read at an address past a memory gives 0"
  unfoldable pub cell_value : List ℕ → ℕ → ℕ
  cell_value n x = elim (ltb x (cells_of s.actor.memories n)) [ true ↦ get_or g.memory (cells_before s.actor.memories n + x) 0 | false ↦ 0 ]

  module _ (lets : List (Let Bits)) where
    unfoldable pub read_value : List ℕ → Bits
    read_value n = elim (let_named lets n) [ some x ↦ x | none ↦ bits_of (port_width s.actor s.widths n) (get_or g.values (port_at s n) 0) ]

    -- `k` is what the nearest `case` around selects by: "first equal label wins"
    unfoldable pub bits_in : ℕ → Expr → Bits
    bits_in k (plain n) = bits_of (plain_width n.value) n.value
    bits_in k (sized w a) = bits_of (breadth_of s w) (amount_of s a)
    bits_in k (copies n e) = let x = bits_in k e in bits_of (n.value * x.wide) (copies_of n.value x.wide x.value)
    bits_in k (read n) = read_value n.spelled
    bits_in k (cell n a) = let x = bits_in k a in bits_of (memory_width s.actor s.widths n.spelled) (cell_value n.spelled x.value)
    bits_in k (bit e p i) = let x = bits_in k e in bits_of 1 (range_of x.value (position_in (position_at s i)) (position_in (position_at s i)))
    bits_in k (range e p i j) =
        let x = bits_in k e in
        bits_of (range_width (position_in (position_at s i)) (position_in (position_at s j))) (range_of x.value (position_in (position_at s i)) (position_in (position_at s j)))
    bits_in k (inside p e) = bits_in k e
    bits_in k (joined p e) = bits_in k e
    bits_in k (beside a b) = let x = bits_in k a in let y = bits_in k b in bits_of (x.wide + y.wide) (beside_of y.wide x.value y.value)
    bits_in k (unary u e) = let x = bits_in k e in bits_of (unary_width u.which x.wide) (unary_value u.which x.wide x.value)
    bits_in k (binary o a b) = let x = bits_in k a in let y = bits_in k b in bits_of (binary_width o x.wide y.wide) (binary_value o x.wide y.wide x.value y.value)
    bits_in k (choice c a b) = let x = bits_in k a in let y = bits_in k b in bits_of (max x.wide y.wide) (chosen (bits_in k c).value x.value y.value)
    bits_in k (either p c a b) = let x = bits_in k a in let y = bits_in k b in bits_of (max x.wide y.wide) (chosen (bits_in k c).value x.value y.value)
    bits_in k (select p e a) = bits_in (bits_in k e).value a
    bits_in k (arm n e r) = let x = bits_in k e in let y = bits_in k r in bits_of (max x.wide y.wide) (elim (eqb k n.value) [ true ↦ x.value | false ↦ y.value ])
    bits_in k (default p e) = bits_in k e

    unfoldable pub value_of : Expr → ℕ
    value_of e = (bits_in 0 e).value

  -- ---- statements: what a rule assigns and writes

  -- "A `let`'s type .. is its target", filled with zeros
  unfoldable pub val_bits : List (Let Bits) → Val → Bits
  val_bits lets v = elim v.type [ untyped ↦ bits_in lets 0 v.value | Declared.typed t ↦ bits_of (type_width s.actor s.bindings s.widths t) (value_of lets v.value) ]

  unfoldable pub lets_of : List (Let Bits) → List Val → List (Let Bits)
  lets_of lets [] = lets
  lets_of lets (v ∷ vs) = lets_of (record { called = v.called.spelled; holds = val_bits lets v } ∷ lets) vs

-- an output with its value, and a cell with its new value
pub record Change (A : Type 0) : Type 0 where
  pub target : A
  pub to : ℕ

module _ (s : Setting) (g : Given) where
  unfoldable pub assigns_of : List (Let Bits) → Assignment → List (Change (List ℕ))
  assigns_of lets (assign n e) = record { target = n.spelled; to = value_of s g lets e } ∷ []
  assigns_of lets (write n a e) = []

  -- "a write there does nothing"
  unfoldable pub writes_of : List (Let Bits) → Assignment → List (Change ℕ)
  writes_of lets (assign n e) = []
  writes_of lets (write n a e) =
      elim (ltb (value_of s g lets a) (cells_of s.actor.memories n.spelled)) [
        | true ↦ record { target = cells_before s.actor.memories n.spelled + value_of s g lets a; to = value_of s g lets e } ∷ []
        | false ↦ []
      ]

  -- what f makes of each assignment of a rule, under the `let`s in force there
  unfoldable pub in_statement : {A : Type 0} → (List (Let Bits) → Assignment → List A) → Statement → List A
  in_statement f (alone x) = f [] x
  in_statement f (scoped vs l) = each (f (lets_of s g [] vs)) l

  unfoldable pub in_rules : {A : Type 0} → (List (Let Bits) → Assignment → List A) → List Rule → List A
  in_rules f rs = each (λ r. each (in_statement f) r.body) rs

-- ---- rules: each port that a rule lists is present or absent as the list says

unfoldable pub agrees : Setting → ℕ → List Entry → Bool
agrees s mask [] = true
agrees s mask (e ∷ es) = beq (is_present s mask e.called.spelled) e.present && agrees s mask es

unfoldable pub matching : Setting → ℕ → List Rule → List Rule
matching s mask rs = each (λ r. elim (agrees s mask r.list) [ true ↦ r ∷ [] | false ↦ [] ]) rs

-- the rules that fire, one of each group; or "by group in order 23 no rule matches, 24 two or more match"
pub data Fired : Type 0 where
  fired : List Rule → Fired
  unfired : ℕ → Fired

unfoldable pub firing : Setting → ℕ → List Group → Fired
firing s mask [] = fired []
firing s mask (p ∷ ps) =
    elim (matching s mask p.rules) [
      | [] ↦ unfired 23
      | r ∷ [] ↦ elim (firing s mask ps) [ fired l ↦ fired (r ∷ l) | unfired n ↦ unfired n ]
      | r ∷ q ∷ l ↦ unfired 24
    ]

-- ---- a cycle

-- each value is below 2 to the power of its width
unfoldable pub fits : List ℕ → List ℕ → Bool
fits [] vs = true
fits (w ∷ ws) vs = ltb (get_or vs 0 0) (2 ^ w) && fits ws (lib.ListN.drop 1 vs)

-- "a present input .. that doesn't fit": an absent one is not looked at
unfoldable pub present_fits : Setting → Given → List ℕ → Bool
present_fits s g n = not (is_present s g.mask n) || ltb (get_or g.values (port_at s n) 0) (2 ^ port_width s.actor s.widths n)

unfoldable pub all_fit : Setting → Given → List (List ℕ) → Bool
all_fit s g [] = true
all_fit s g (n ∷ ns) = present_fits s g n && all_fit s g ns

unfoldable pub inputs_fit : Setting → Given → Bool
inputs_fit s g = all_fit s g (input_names s.actor.ports)

-- "22 a mask bit past the ports, a present input or a cell that doesn't fit"
unfoldable pub fitting : Setting → Given → Bool
fitting s g = ltb g.mask (2 ^ length s.actor.signature) && inputs_fit s g && fits (cell_widths s) g.memory

-- "25 two writes to the same existing cell, equal values too"
unfoldable pub touched : ℕ → List (Change ℕ) → Bool
touched i [] = false
touched i (c ∷ l) = eqb i c.target || touched i l

unfoldable pub twice : List (Change ℕ) → Bool
twice [] = false
twice (c ∷ l) = touched c.target l || twice l

unfoldable pub written : List (Change ℕ) → List ℕ → List ℕ
written [] memory = memory
written (c ∷ l) memory = written l (set memory c.target c.to)

-- "Output slots hold the assigned value, else 0; input slots hold 0."
unfoldable pub assigned_to : List (Change (List ℕ)) → List ℕ → ℕ
assigned_to [] n = 0
assigned_to (c ∷ l) n = elim (same c.target n) [ true ↦ c.to | false ↦ assigned_to l n ]

-- what a cycle comes to: "A result carries the number of present ports, 0 when refused."
pub record Outcome : Type 0 where
  pub answer : ℕ
  pub count : ℕ
  pub outputs : List ℕ
  pub memory : List ℕ

-- a refused cycle leaves memory and outputs as they stood
unfoldable pub refused_by : ℕ → List ℕ → Given → Outcome
refused_by n outputs g = record { answer = n; count = 0; outputs = outputs; memory = g.memory }

unfoldable pub acts : Setting → Given → List ℕ → List Rule → Outcome
acts s g outputs rs =
    elim (twice (in_rules s g (writes_of s g) rs)) [
      | true ↦ refused_by 25 outputs g
      | false ↦ record {
        answer = 0;
        count = ones_of (length s.actor.signature) g.mask;
        outputs = each (λ n. assigned_to (in_rules s g (assigns_of s g) rs) n.spelled ∷ []) s.actor.signature;
        memory = written (in_rules s g (writes_of s g) rs) g.memory;
      }
    ]

unfoldable pub cycle : Setting → Given → List ℕ → Outcome
cycle s g outputs =
    elim (fitting s g) [
      | false ↦ refused_by 22 outputs g
      | true ↦ elim (firing s g.mask s.actor.groups) [ unfired n ↦ refused_by n outputs g | fired rs ↦ acts s g outputs rs ]
    ]

-- ---- a run: each cycle has a mask, values and output slots of its own, and the memory that the one before left

-- `outputs`: its output slots as they stood, which a refused cycle leaves so
pub record Turn : Type 0 where
  pub mask : ℕ
  pub values : List ℕ
  pub outputs : List ℕ

unfoldable pub run : Setting → List Turn → List ℕ → List Outcome
run s [] memory = []
run s (t ∷ ts) memory =
    let o = cycle s (record { mask = t.mask; values = t.values; memory = memory }) t.outputs in
    o ∷ run s ts o.memory

-- the memory that a run leaves
unfoldable pub memory_left : List ℕ → List Outcome → List ℕ
memory_left memory [] = memory
memory_left memory (o ∷ os) = memory_left o.memory os
