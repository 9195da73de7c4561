-- The walk over an expression's items writes the expression settled. Assumes nothing.
use mathlib.Core.Path.{◌≡◌, refl, sym, ap, ap₂, ◌∙◌}
use mathlib.Core.Bool.{Bool, true, false}
use mathlib.Core.List.{List, [], ◌∷◌, ◌++◌, append_assoc}
use mathlib.Core.Option.{Option, none, some}
use Prim.Native.Nat.{ℕ, zero, suc, ◌-◌, ◌≤◌}
use native.Mathlib.Omega.{arith}
use lib.Dec.{ltb, leb-suc-suc}
use lib.ListN.{length, get_or, take}
use borrow.Author.Tests.{lt-ltb, le-ltb}
use Rattle.language.specs.Text.{Name, same, index}
use Rattle.language.specs.Tree.{Ty, Breadth, bits, Amount, given, value, Prefix}
use Rattle.language.specs.Tree.{Expr, plain, sized, copies, read, cell, bit, range, inside, joined, beside, unary, binary, choice, either, select, arm, default}
use Rattle.language.specs.Parts.{Item, types, breadth_items, amount_items, items}
use Rattle.language.specs.declared.Binary.{Binary}
use Rattle.language.specs.Widths.{value_in, port_width, memory_width, type_width}
use Rattle.language.specs.Sizes.{Setting, Let, let_named, position_at}
use Rattle.language.specs.Meaning.{port_at, cells_before}
use Rattle.placed.specs.Placed.{Spelled, Every, PlacedType, PlacedBreadth, PlacedAmount, PlacedExpr}
use Rattle.tape.specs.Tape as Tape
use Rattle.tape.specs.Tape.{item, flat_t, flat_b, flat_a, flat}
use Rattle.tape.proofs.Tapes.{goes_both, goes_item}
use Rattle.row09_bindings.proofs.Indices.{index_most}
use Rattle.plan.specs.Items.{unary_number, binary_number}
use Rattle.settled.specs.Form.{BITS, HELD, READ, CELL, RANGE, six}
use Rattle.settled.specs.Settled.{amount, placed, settled_breadth, settled_amount, settled_cell, settled_port, settled_read, settled}
use Rattle.looked_up.specs.Lookup.{operand, sum_of}
use Rattle.item_writes.specs.Walk.{Around, State, step, takes, without, grown, latest, when, width_in, position_in, port_out, memory_width_out, cell_out, read_out, named_out, written}
use Rattle.settle.proofs.Types.{types_go}
use Rattle.settle.proofs.Leaving.{state, goes_wrote, Writes, writes_both, writes_item, writes_three, writes_four}
use Rattle.settle.proofs.Settings.{ports_of, memories_of, sizes_of, around, Small, operand_is, cells_before_law, cells_of_law, sum_within, Right, sound, width_is, position_is}

-- ---- the `let`s in force: their names, and slots that go down from the latest

unfoldable pub let_names : List (Let ℕ) → List (List ℕ)
let_names [] = []
let_names (l ∷ ls) = l.called ∷ let_names ls

abbrev pub Falls : ℕ → List (Let ℕ) → Type 0
Falls k [] = Unit {0}
Falls k (l ∷ ls) = (k ≡ suc l.holds) × Falls l.holds ls

-- what a name's slot, or the want of one, makes
let_found : (f : ℕ → List ℕ) (d n : List ℕ) (ls : List (Let ℕ)) (k : ℕ) → Falls k ls
    → when (ltb (index (let_names ls) n) (length (let_names ls))) (f (k - suc (index (let_names ls) n))) d ≡ elim (let_named ls n) as (λ (x : Option ℕ). List ℕ) [ some h ↦ f h | none ↦ d ]
unfolding let_names index let_named when
let_found f d n [] k h = ap (λ (b : Bool). when b (f (k - 1)) d) (le-ltb 0 0 (omega arith))
let_found f d n (l ∷ ls) k h = go (same l.called n) (let_found f d n ls l.holds h.1)
  where
    i : ℕ
    i = index (let_names ls) n

    go : (b : Bool) → when (ltb i (length (let_names ls))) (f (l.holds - suc i)) d ≡ elim (let_named ls n) as (λ (x : Option ℕ). List ℕ) [ some h ↦ f h | none ↦ d ]
        → when (ltb (elim b as (λ (x : Bool). ℕ) [ true ↦ zero | false ↦ suc i ]) (suc (length (let_names ls)))) (f (k - suc (elim b as (λ (x : Bool). ℕ) [ true ↦ zero | false ↦ suc i ]))) d
        ≡ elim (elim b as (λ (x : Bool). Option ℕ) [ true ↦ some l.holds | false ↦ let_named ls n ]) as (λ (x : Option ℕ). List ℕ) [ some h ↦ f h | none ↦ d ]
    go true e =
        let z : k - 1 ≡ l.holds = omega (arith, h.0) in
        ap₂ (λ (b : Bool) (j : ℕ). when b (f j) d) (lt-ltb 0 (suc (length (let_names ls))) (omega arith)) z
    go false e =
        let z : k - suc (suc i) ≡ l.holds - suc i = omega (arith, h.0) in
        ap₂ (λ (b : Bool) (j : ℕ). when b (f j) d) (leb-suc-suc (suc i) (length (let_names ls))) z ∙ e

-- ---- the types of two lists of items

pub halves : (P : Ty → Type 0) (l m : List Item) → Every P (types (l ++ m)) → Every P (types l) × Every P (types m)
unfolding types
halves P [] m h = (tt, h)
halves P (Item.type t ∷ l) m h = let r = halves P l m h.1 in ((h.0, r.0), r.1)
halves P (Item.number n ∷ l) m h = halves P l m h
halves P (Item.reads n ∷ l) m h = halves P l m h
halves P (Item.value n ∷ l) m h = halves P l m h

module _ (text : List ℕ) (s : Setting) (ins : List (List ℕ)) (small : Small s) where
  abbrev A : Around
  A = around text s ins

  -- ---- what names write

  pub port_number_law : (n : List ℕ) → operand (index (ports_of s) n) ≡ index (ports_of s) n
  port_number_law n = operand_is _ (let h = index_most n (ports_of s) in let g = small.ports in omega arith)

  pub port_out_law : (st : State) (op : ℕ) (n : Name) → Spelled text n → port_out A st op n.at ≡ settled_port s op n
  unfolding port_out settled_port port_at port_width
  port_out_law st op n h =
      ap (λ (m : List ℕ). six op n.at (operand (index (ports_of s) m)) 0 0 (get_or s.widths (index (ports_of s) m) 0)) (sym h)
      ∙ ap (λ (k : ℕ). six op n.at k 0 0 (get_or s.widths (index (ports_of s) n.spelled) 0)) (port_number_law n.spelled)

  memory_number : (n : List ℕ) → operand (index (memories_of s) n) ≡ index (memories_of s) n
  memory_number n = operand_is _ (let h = index_most n (memories_of s) in let g = small.memories in omega arith)

  cells_number : (n : List ℕ) → operand (sum_of (take (index (memories_of s) n) (sizes_of s.actor.memories))) ≡ cells_before s.actor.memories n
  cells_number n =
      operand_is _ (let h = sum_within (index (memories_of s) n) (sizes_of s.actor.memories) in let g = small.cells in omega arith)
      ∙ cells_before_law s.actor.memories n

  -- a cell of the memory of a name
  abbrev cell_named : ℕ → ℕ → List ℕ → List ℕ
  cell_named op p m =
      six op p (operand (index (memories_of s) m)) (operand (sum_of (take (index (memories_of s) m) (sizes_of s.actor.memories))))
      (get_or (sizes_of s.actor.memories) (index (memories_of s) m) 0) (memory_width s.actor s.widths m)

  pub cell_out_law : (st : State) (op : ℕ) (n : Name) → Spelled text n → cell_out A st op n.at ≡ settled_cell s op n
  unfolding cell_out memory_width_out settled_cell memory_width
  cell_out_law st op n h =
      let m = n.spelled in
      let x = memory_number m in
      let y = cells_number m in
      let z = cells_of_law s.actor.memories m in
      ap (cell_named op n.at) (sym h)
      ∙ ap₂ (λ (i j : ℕ). six op n.at i j (get_or (sizes_of s.actor.memories) (index (memories_of s) m) 0) (memory_width s.actor s.widths m)) x y
      ∙ ap (λ (k : ℕ). six op n.at (index (memories_of s) m) (cells_before s.actor.memories m) k (memory_width s.actor s.widths m)) z

  module _ (ls : List (Let ℕ)) (vals size : ℕ) (falls : Falls vals ls) (few : vals ≤ 16) where
    abbrev pub W : List ℕ → List ℕ → Type 0
    W is out = Writes A (let_names ls) vals size is out

    abbrev S : List (List ℕ) → List ℕ → State
    S ts l = state ts l (let_names ls) vals size

    read_out_law : (st : State) (n : Name) → Spelled text n → st.lets ≡ let_names ls → st.vals ≡ vals → read_out A st n.at ≡ settled_read s ls n
    unfolding read_out settled_read
    read_out_law st n h e f =
        ap (λ (m : List ℕ). when (ltb (index st.lets m) (length st.lets)) (six HELD n.at (operand (st.vals - suc (index st.lets m))) 0 0 0) (port_out A st READ n.at)) (sym h)
        ∙ ap₂ (λ (l : List (List ℕ)) (k : ℕ). when (ltb (index l n.spelled) (length l)) (six HELD n.at (operand (k - suc (index l n.spelled))) 0 0 0) (port_out A st READ n.at)) e f
        ∙ ap₂ (λ (k : ℕ) (d : List ℕ). when (ltb (index (let_names ls) n.spelled) (length (let_names ls))) (six HELD n.at k 0 0 0) d) (operand_is _ (omega arith)) (port_out_law st READ n h)
        ∙ let_found (λ k. six HELD n.at k 0 0 0) (settled_port s READ n) n.spelled ls vals falls

    -- ---- constants

    breadth_goes : (w : Breadth) → PlacedBreadth text w → Every (Right s) (types (breadth_items w)) → W (flat_b w) (settled_breadth s w)
    unfolding flat_b settled_breadth breadth_items types type_width step takes without latest grown when named_out written width_in
    breadth_goes (bits n) h r = writes_item Tape.BITS n.at n.value (λ ts l. refl)
    breadth_goes (Breadth.typed p t) h r =
        record {
          on = λ ts l. goes_both (types_go A (S ts l) t (sound text s ins small.unknowns t h r.0.fine))
              (goes_item Tape.TYPED p 0 (ap (λ (k : ℕ). S ts (l ++ six BITS p k 0 0 0)) (width_is s small.widths t r.0)));
        }

    amount_goes : (v : Amount) → PlacedAmount text v → W (flat_a v) (settled_amount s v)
    unfolding flat_a settled_amount step takes without grown when named_out written
    amount_goes (given n) h = writes_item Tape.GIVEN n.at 0 (λ ts l. ap (λ (k : ℕ). S ts (l ++ amount n.at k)) (sym h))
    amount_goes (value n) h = writes_item Tape.VALUE n.at 0 (λ ts l. ap (λ (m : List ℕ). S ts (l ++ amount n.at (value_in s.bindings.values m))) (sym h))

    -- ---- names and bits

    read_goes : (n : Name) → Spelled text n → W (item Tape.READ n.at 0) (settled_read s ls n)
    unfolding step takes without grown when named_out written
    read_goes n h = writes_item Tape.READ n.at 0 (λ ts l. ap (λ (x : List ℕ). S ts (l ++ x)) (read_out_law (S ts l) n h refl refl))

    cell_goes : (n : Name) → Spelled text n → W (item Tape.CELL n.at 0) (settled_cell s CELL n)
    unfolding step takes without grown when named_out written
    cell_goes n h = writes_item Tape.CELL n.at 0 (λ ts l. ap (λ (x : List ℕ). S ts (l ++ x)) (cell_out_law (S ts l) CELL n h))

    bit_goes : (p : ℕ) (i : Ty) {x e : List ℕ} → PlacedType text i → Right s i → W x e → W ((x ++ flat_t i) ++ item Tape.BIT p 0) (e ++ six RANGE p (placed (position_at s i)) (placed (position_at s i)) 0 0)
    unfolding step takes without latest grown when named_out written position_in position_at
    bit_goes p i {e = e} h r d =
        record {
          on = λ ts l. goes_wrote (append_assoc l e _) (goes_both (goes_both (d.on ts l) (types_go A (S ts (l ++ e)) i (sound text s ins small.unknowns i h r.fine)))
              (goes_item Tape.BIT p 0 (ap (λ (k : ℕ). S ts ((l ++ e) ++ six RANGE p k k 0 0)) (position_is s small.widths i r))));
        }

    range_goes : (p : ℕ) (i j : Ty) {x e : List ℕ} → PlacedType text i → PlacedType text j → Right s i → Right s j → W x e → W (((x ++ flat_t i) ++ flat_t j) ++ item Tape.RANGE p 0) (e ++ six RANGE p (placed (position_at s i)) (placed (position_at s j)) 0 0)
    unfolding step takes without latest grown when named_out written position_in position_at
    range_goes p i j {e = e} h g r q d =
        record {
          on = λ ts l. goes_wrote (append_assoc l e _) (goes_both (goes_both (goes_both (d.on ts l) (types_go A (S ts (l ++ e)) i (sound text s ins small.unknowns i h r.fine))) (types_go A _ j (sound text s ins small.unknowns j g q.fine)))
              (goes_item Tape.RANGE p 0 (ap₂ (λ (k m : ℕ). S ts ((l ++ e) ++ six RANGE p k m 0 0)) (position_is s small.widths i r) (position_is s small.widths j q))));
        }

    unary_goes : (u : Prefix) → W (item Tape.UNARY u.at (unary_number u.which)) (six Tape.UNARY u.at (unary_number u.which) 0 0 0)
    unfolding step takes without grown when named_out written
    unary_goes u = writes_item Tape.UNARY u.at _ (λ ts l. refl)

    binary_goes : (o : Binary) → W (item Tape.BINARY 0 (binary_number o)) (six Tape.BINARY 0 (binary_number o) 0 0 0)
    unfolding step takes without grown when named_out written
    binary_goes o = writes_item Tape.BINARY 0 _ (λ ts l. refl)

    -- ---- expressions

    pub expr_goes : (e : Expr) → PlacedExpr text e → Every (Right s) (types (items e)) → W (flat e) (settled s ls e)
    unfolding flat settled items types step takes without grown when named_out written
    expr_goes (plain n) h r = writes_item Tape.PLAIN n.at n.value (λ ts l. refl)
    expr_goes (sized w v) h r = let q = halves (Right s) (breadth_items w) (amount_items v) r in writes_both (breadth_goes w h.0 q.0) (amount_goes v h.1)
    expr_goes (copies n e) h r = writes_both (expr_goes e h r) (writes_item Tape.COPIES n.at n.value (λ ts l. refl))
    expr_goes (read n) h r = read_goes n h
    expr_goes (cell n x) h r = writes_both (expr_goes x h.1 r) (cell_goes n h.0)
    expr_goes (bit e p i) h r = let q = halves (Right s) (items e) (Item.type i ∷ []) r in bit_goes p i h.1 q.1.0 (expr_goes e h.0 q.0)
    expr_goes (range e p i j) h r =
        let q = halves (Right s) (items e) (Item.type i ∷ Item.type j ∷ []) r in
        range_goes p i j h.1 h.2 q.1.0 q.1.1.0 (expr_goes e h.0 q.0)
    expr_goes (inside p e) h r = writes_both (expr_goes e h r) (writes_item Tape.INSIDE p 0 (λ ts l. refl))
    expr_goes (joined p e) h r = writes_both (expr_goes e h r) (writes_item Tape.JOINED p 0 (λ ts l. refl))
    expr_goes (beside x y) h r = let q = halves (Right s) (items x) (items y) r in writes_three (expr_goes x h.0 q.0) (expr_goes y h.1 q.1) (writes_item Tape.BESIDE 0 0 (λ ts l. refl))
    expr_goes (unary u e) h r = writes_both (expr_goes e h r) (unary_goes u)
    expr_goes (binary o x y) h r = let q = halves (Right s) (items x) (items y) r in writes_three (expr_goes x h.0 q.0) (expr_goes y h.1 q.1) (binary_goes o)
    expr_goes (choice c x y) h r =
        let q = halves (Right s) (items c) (items x ++ items y) r in
        let u = halves (Right s) (items x) (items y) q.1 in
        writes_four (expr_goes c h.0 q.0) (expr_goes x h.1 u.0) (expr_goes y h.2 u.1) (writes_item Tape.CHOICE 0 0 (λ ts l. refl))
    expr_goes (either p c x y) h r =
        let q = halves (Right s) (items c) (items x ++ items y) r in
        let u = halves (Right s) (items x) (items y) q.1 in
        writes_four (expr_goes c h.0 q.0) (expr_goes x h.1 u.0) (expr_goes y h.2 u.1) (writes_item Tape.EITHER p 0 (λ ts l. refl))
    expr_goes (select p e x) h r =
        let q = halves (Right s) (items e) (items x) r in
        writes_four (expr_goes e h.0 q.0) (writes_item Tape.SELECT p 0 (λ ts l. refl)) (expr_goes x h.1 q.1) (writes_item Tape.SELECTED p 0 (λ ts l. refl))
    expr_goes (arm n e x) h r = let q = halves (Right s) (items e) (items x) r in writes_three (expr_goes e h.0 q.0) (expr_goes x h.1 q.1) (writes_item Tape.ARM n.at n.value (λ ts l. refl))
    expr_goes (default p e) h r = writes_both (expr_goes e h r) (writes_item Tape.DEFAULT p 0 (λ ts l. refl))
