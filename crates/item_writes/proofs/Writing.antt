-- What an item writes, by its operation, and what it does to the types that wait: a law for each. Assumes nothing.
use mathlib.Core.Path.{◌≡◌, refl, sym, ap, ◌∙◌}
use mathlib.Core.Bool.{Bool, true, false}
use mathlib.Core.List.{List, [], ◌∷◌}
use mathlib.Core.Option.{Option, none, some}
use Prim.Native.Nat.{ℕ, suc, ◌+◌, ◌-◌, ◌*◌, ◌/◌, ◌%◌, ◌^◌, ◌<◌}
use native.Mathlib.Omega.{arith}
use lib.Dec.{ltb}
use lib.ListN.{get_or, take}
use borrow.Author.Tests.{ne_eqb, lt-ltb}
use Rattle.language.specs.Text.{index, among}
use Rattle.language.specs.Types.{width_of, position_of}
use Rattle.row09_bindings.proofs.Indices.{index_among}
use Rattle.std.specs.Prelude.{Option as Optional, Some, None}
use Rattle.sized_constants.specs.Constant.{amount_of}
use Rattle.tape.specs.Tape as Tape
use Rattle.exact.specs.Room.{positioned}
use Rattle.type_value.specs.Walk.{value_of}
use Rattle.settled.specs.Form.{BITS, BIG, AMOUNT, START, RANGE, READ, HELD, CELL, WRITE, ASSIGN, TYPED, six, OUTSIDE}
use Rattle.settled.specs.Settled.{amount, placed}
use Rattle.looked_up.specs.Lookup.{operand, sum_of}
use Rattle.item_writes.specs.Walk.{Around, State, when, latest, without, leaf, ends, joins, grown, width_in, position_in, port_out, memory_width_out, cell_out, read_out, signed_out, named_out, written}
use Rattle.item_writes.specs.Tables.{silent, plain_out, Unnamed}

-- ---- a constant's value

pub exact_amount : (p n m : ℕ) → Some m ≡ amount_of n → six AMOUNT p (m % 2 ^ 32) (m / 2 ^ 32) 0 0 ≡ amount p n
unfolding amount_of amount
exact_amount p n m e = go (ltb n (2 ^ 64)) e
  where
    go : (b : Bool) → Some m ≡ elim b as (λ (x : Bool). Optional ℕ) [ true ↦ Some n | false ↦ None ]
        → six AMOUNT p (m % 2 ^ 32) (m / 2 ^ 32) 0 0 ≡ elim b as (λ (x : Bool). List ℕ) [ true ↦ six AMOUNT p (n % 2 ^ 32) (n / 2 ^ 32) 0 0 | false ↦ six BIG p 0 0 0 0 ]
    go true q = let r : m ≡ n = cc in ap (λ (k : ℕ). six AMOUNT p (k % 2 ^ 32) (k / 2 ^ 32) 0 0) r
    go false q = absurd (let z : ◌≡◌ {A = ℕ} 0 1 = cc in omega arith)

pub big_amount : (p n : ℕ) → None ≡ amount_of n → six BIG p 0 0 0 0 ≡ amount p n
unfolding amount_of amount
big_amount p n e = go (ltb n (2 ^ 64)) e
  where
    go : (b : Bool) → None ≡ elim b as (λ (x : Bool). Optional ℕ) [ true ↦ Some n | false ↦ None ]
        → six BIG p 0 0 0 0 ≡ elim b as (λ (x : Bool). List ℕ) [ true ↦ six AMOUNT p (n % 2 ^ 32) (n / 2 ^ 32) 0 0 | false ↦ six BIG p 0 0 0 0 ]
    go true q = absurd (let z : ◌≡◌ {A = ℕ} 0 1 = cc in omega arith)
    go false q = refl

pub small_amount : (n : ℕ) → n < 2 ^ 64 → Some n ≡ amount_of n
unfolding amount_of
small_amount n h = rw (lt-ltb n (2 ^ 64) h, amount_of)

-- ---- a position

pub position_at_law : (o : Option ℕ) (n : ℕ) → Some n ≡ positioned o → n ≡ placed o
unfolding placed
position_at_law none n e = absurd (let z : ◌≡◌ {A = ℕ} 0 1 = cc in omega arith)
position_at_law (some k) n e = cc

pub position_outside : (o : Option ℕ) → None ≡ positioned o → OUTSIDE ≡ operand (placed o)
unfolding placed operand
position_outside none e = refl
position_outside (some k) e = absurd (let z : ◌≡◌ {A = ℕ} 0 1 = cc in omega arith)

-- ---- a name

module _ (a : Around) (s : State) (p : ℕ) where
  pub read_held : among s.lets (a.called p) ≡ true → read_out a s p ≡ six HELD p (operand (s.vals - suc (index s.lets (a.called p)))) 0 0 0
  unfolding read_out when
  read_held e = rw (sym (index_among (a.called p) s.lets), e, when)

  pub read_port : among s.lets (a.called p) ≡ false → read_out a s p ≡ port_out a s READ p
  unfolding read_out when
  read_port e = rw (sym (index_among (a.called p) s.lets), e, when)

  pub signed_input : among a.inputs (a.called p) ≡ true → signed_out a s p ≡ six Tape.SIGNED p (get_or a.widths (index a.ports (a.called p)) 0) 0 0 0
  unfolding signed_out when
  signed_input e = rw (e, when)

  pub signed_output : among a.inputs (a.called p) ≡ false → signed_out a s p ≡ six Tape.SIGNED p (operand (get_or a.widths (index a.ports (a.called p)) 0 + 256)) 0 0 0
  unfolding signed_out when
  signed_output e = rw (e, when)

-- ---- an item by its operation

module _ (a : Around) (s : State) (o p v : ℕ) where
  pub written_typed : o ≡ Tape.TYPED → written a s o p v ≡ six BITS p (width_in a s (latest s.types)) 0 0 0
  unfolding written named_out when
  written_typed e = ap (λ (x : ℕ). written a s x p v) e

  pub written_given : o ≡ Tape.GIVEN → written a s o p v ≡ amount p (a.constant p)
  unfolding written named_out when
  written_given e = ap (λ (x : ℕ). written a s x p v) e

  pub written_value : o ≡ Tape.VALUE → written a s o p v ≡ amount p (a.value (a.called p))
  unfolding written named_out when
  written_value e = ap (λ (x : ℕ). written a s x p v) e

  pub written_read : o ≡ Tape.READ → written a s o p v ≡ read_out a s p
  unfolding written named_out when
  written_read e = ap (λ (x : ℕ). written a s x p v) e

  pub written_cell : o ≡ Tape.CELL → written a s o p v ≡ cell_out a s CELL p
  unfolding written named_out when
  written_cell e = ap (λ (x : ℕ). written a s x p v) e

  pub written_write : o ≡ Tape.WRITE → written a s o p v ≡ cell_out a s WRITE p
  unfolding written named_out when
  written_write e = ap (λ (x : ℕ). written a s x p v) e

  pub written_bit : o ≡ Tape.BIT → written a s o p v ≡ six RANGE p (position_in a s (latest s.types)) (position_in a s (latest s.types)) 0 0
  unfolding written named_out when
  written_bit e = ap (λ (x : ℕ). written a s x p v) e

  pub written_range : o ≡ Tape.RANGE → written a s o p v ≡ six RANGE p (position_in a s (latest (without 1 s.types))) (position_in a s (latest s.types)) 0 0
  unfolding written named_out when
  written_range e = ap (λ (x : ℕ). written a s x p v) e

  pub written_assign : o ≡ Tape.ASSIGN → written a s o p v ≡ port_out a s ASSIGN p
  unfolding written named_out when
  written_assign e = ap (λ (x : ℕ). written a s x p v) e

  pub written_val : o ≡ Tape.VAL → (v ≡ 1 → ⊥) → written a s o p v ≡ six Tape.VAL p (operand s.vals) 0 0 0
  unfolding written named_out when
  written_val e n = ap (λ (x : ℕ). written a s x p v) e ∙ rw (ne_eqb v 1 n, when)

  pub written_kept : o ≡ Tape.VAL → v ≡ 1 → written a s o p v ≡ six TYPED p (operand s.vals) 0 0 (width_in a s (latest s.types))
  unfolding written named_out when
  written_kept e n = ap (λ (x : ℕ). written a s x p v) e ∙ ap (λ (x : ℕ). written a s Tape.VAL p x) n

  pub written_present : o ≡ Tape.PRESENT → written a s o p v ≡ six Tape.PRESENT p (operand (index a.ports (a.called p))) v 0 0
  unfolding written named_out when
  written_present e = ap (λ (x : ℕ). written a s x p v) e

  pub written_memory : o ≡ Tape.MEMORY → written a s o p v ≡ six Tape.MEMORY p (memory_width_out a s p) s.size 0 0
  unfolding written named_out when
  written_memory e = ap (λ (x : ℕ). written a s x p v) e

  pub written_signed : o ≡ Tape.SIGNED → written a s o p v ≡ signed_out a s p
  unfolding written named_out when
  written_signed e = ap (λ (x : ℕ). written a s x p v) e

  pub written_plain : Unnamed o → (o ≡ Tape.TYPED → ⊥) → (o ≡ Tape.BIT → ⊥) → (o ≡ Tape.RANGE → ⊥) → (o ≡ Tape.VAL → ⊥) → written a s o p v ≡ plain_out o p v
  unfolding written named_out when plain_out silent
  written_plain u t b r k =
      rw (
        ne_eqb o Tape.TYPED t,
        ne_eqb o Tape.GIVEN u.given,
        ne_eqb o Tape.VALUE u.value,
        ne_eqb o Tape.READ u.read,
        ne_eqb o Tape.CELL u.cell,
        ne_eqb o Tape.WRITE u.write,
        ne_eqb o Tape.BIT b,
        ne_eqb o Tape.RANGE r,
        ne_eqb o Tape.ASSIGN u.assign,
        ne_eqb o Tape.VAL k,
        ne_eqb o Tape.PRESENT u.present,
        ne_eqb o Tape.MEMORY u.memory,
        ne_eqb o Tape.SIGNED u.signed,
      )

-- ---- an item that neither names something nor holds a type

module _ (o p v : ℕ) where
  pub plain_silent : silent o ≡ true → [] ≡ plain_out o p v
  unfolding plain_out when
  plain_silent e = rw (e, when)

  pub plain_inside : o ≡ Tape.INSIDE → six START p 0 0 0 0 ≡ plain_out o p v
  unfolding plain_out silent when
  plain_inside e = sym (ap (λ (x : ℕ). plain_out x p v) e)

  pub plain_default : o ≡ Tape.DEFAULT → six START p 0 0 0 0 ≡ plain_out o p v
  unfolding plain_out silent when
  plain_default e = sym (ap (λ (x : ℕ). plain_out x p v) e)

  pub plain_other : silent o ≡ false → (o ≡ Tape.INSIDE → ⊥) → (o ≡ Tape.DEFAULT → ⊥) → six o p v 0 0 0 ≡ plain_out o p v
  unfolding plain_out when
  plain_other e i d = rw (e, ne_eqb o Tape.INSIDE i, ne_eqb o Tape.DEFAULT d, when)

-- ---- what was looked up, as an item writes it

module _ (a : Around) (s : State) (o p : ℕ) where
  pub port_looked : (k n w : ℕ) → k ≡ index a.ports (a.called p) → n ≡ operand k → w ≡ get_or a.widths k 0 → six o p n 0 0 w ≡ port_out a s o p
  unfolding port_out
  port_looked k n w e f g = cc

  pub cell_looked : (k b n f z w : ℕ) → k ≡ index a.memories (a.called p) → b ≡ sum_of (take k a.sizes) → f ≡ operand b → w ≡ memory_width_out a s p → n ≡ operand k → z ≡ get_or a.sizes k 0 → six o p n f z w ≡ cell_out a s o p
  unfolding cell_out
  cell_looked k b n f z w ek eb ef ew en ez = cc

-- ---- a type's value, as an item writes it

module _ (a : Around) (s : State) (o p v : ℕ) (ws : List ℕ) (ew : a.widths ≡ ws) where
  width_in_law : (c d : List ℕ) (w : ℕ) → d ≡ c → w ≡ operand (width_of (value_of ws c)) → w ≡ width_in a s d
  unfolding width_in
  width_in_law c d w e f = cc

  position_in_law : (c d : List ℕ) (q : ℕ) → d ≡ c → q ≡ operand (placed (position_of (value_of ws c))) → q ≡ position_in a s d
  unfolding position_in
  position_in_law c d q e f = cc

  module _ (ts : List (List ℕ)) (et : s.types ≡ ts) where
    pub typed_out : o ≡ Tape.TYPED → (w : ℕ) → w ≡ operand (width_of (value_of ws (latest ts))) → six BITS p w 0 0 0 ≡ written a s o p v
    typed_out e w f = ap (λ (n : ℕ). six BITS p n 0 0 0) (width_in_law (latest ts) (latest s.types) w (ap latest et) f) ∙ sym (written_typed a s o p v e)

    pub bit_out : o ≡ Tape.BIT → (q : ℕ) → q ≡ operand (placed (position_of (value_of ws (latest ts)))) → six RANGE p q q 0 0 ≡ written a s o p v
    bit_out e q f = ap (λ (n : ℕ). six RANGE p n n 0 0) (position_in_law (latest ts) (latest s.types) q (ap latest et) f) ∙ sym (written_bit a s o p v e)

    pub range_out : o ≡ Tape.RANGE → (us : List (List ℕ)) (low high : ℕ) → us ≡ without 1 ts → low ≡ operand (placed (position_of (value_of ws (latest ts)))) → high ≡ operand (placed (position_of (value_of ws (latest us))))
        → six RANGE p high low 0 0 ≡ written a s o p v
    range_out e us low high d f g =
        let x = position_in_law (latest ts) (latest s.types) low (ap latest et) f in
        let y = position_in_law (latest us) (latest (without 1 s.types)) high (ap latest (ap (without 1) et ∙ sym d)) g in
        ap (λ (n : ℕ). six RANGE p n low 0 0) y ∙ ap (λ (n : ℕ). six RANGE p (position_in a s (latest (without 1 s.types))) n 0 0) x ∙ sym (written_range a s o p v e)

    pub kept_out : o ≡ Tape.VAL → v ≡ 1 → (k n w : ℕ) → s.vals ≡ k → n ≡ operand k → w ≡ operand (width_of (value_of ws (latest ts))) → six TYPED p n 0 0 w ≡ written a s o p v
    kept_out e i k n w h f g =
        ap (λ (x : ℕ). six TYPED p x 0 0 w) (f ∙ ap operand (sym h))
        ∙ ap (λ (x : ℕ). six TYPED p (operand s.vals) 0 0 x) (width_in_law (latest ts) (latest s.types) w (ap latest et) g) ∙ sym (written_kept a s o p v e i)

module _ (a : Around) (s : State) (o p v : ℕ) where
  pub val_out : o ≡ Tape.VAL → (v ≡ 1 → ⊥) → (k n : ℕ) → s.vals ≡ k → n ≡ operand k → six Tape.VAL p n 0 0 0 ≡ written a s o p v
  val_out e i k n h f = ap (λ (x : ℕ). six Tape.VAL p x 0 0 0) (f ∙ ap operand (sym h)) ∙ sym (written_val a s o p v e i)

-- ---- what an item does to the types that wait

module _ (a : Around) (o p v : ℕ) (l : List (List ℕ)) where
  pub grown_number : o ≡ Tape.NUMBER → (n k : ℕ) → n ≡ v → k ≡ leaf (n * 8) → (k ∷ []) ∷ l ≡ grown a o p v l
  unfolding grown when
  grown_number e n k f g = ap (λ (x : ℕ). (x ∷ []) ∷ l) (g ∙ ap (λ (x : ℕ). leaf (x * 8)) f) ∙ sym (ap (λ (x : ℕ). grown a x p v l) e)

  pub grown_bound : o ≡ Tape.ENVIRONMENT → (n k : ℕ) → n ≡ a.value (a.called p) → k ≡ leaf (n * 8) → (k ∷ []) ∷ l ≡ grown a o p v l
  unfolding grown when
  grown_bound e n k f g = ap (λ (x : ℕ). (x ∷ []) ∷ l) (g ∙ ap (λ (x : ℕ). leaf (x * 8)) f) ∙ sym (ap (λ (x : ℕ). grown a x p v l) e)

  pub grown_port : o ≡ Tape.PORT → (n k : ℕ) → n ≡ index a.ports (a.called p) → k ≡ leaf (n * 8 + 1) → (k ∷ []) ∷ l ≡ grown a o p v l
  unfolding grown when
  grown_port e n k f g = ap (λ (x : ℕ). (x ∷ []) ∷ l) (g ∙ ap (λ (x : ℕ). leaf (x * 8 + 1)) f) ∙ sym (ap (λ (x : ℕ). grown a x p v l) e)

  pub grown_log : o ≡ Tape.LOG → ends 2 l ≡ grown a o p v l
  unfolding grown when
  grown_log e = sym (ap (λ (x : ℕ). grown a x p v l) e)

  pub grown_floor : o ≡ Tape.FLOOR → ends 3 l ≡ grown a o p v l
  unfolding grown when
  grown_floor e = sym (ap (λ (x : ℕ). grown a x p v l) e)

  pub grown_ceil : o ≡ Tape.CEIL → ends 4 l ≡ grown a o p v l
  unfolding grown when
  grown_ceil e = sym (ap (λ (x : ℕ). grown a x p v l) e)

  pub grown_plus : o ≡ Tape.PLUS → joins 5 l ≡ grown a o p v l
  unfolding grown when
  grown_plus e = sym (ap (λ (x : ℕ). grown a x p v l) e)

  pub grown_minus : o ≡ Tape.MINUS → joins 6 l ≡ grown a o p v l
  unfolding grown when
  grown_minus e = sym (ap (λ (x : ℕ). grown a x p v l) e)

  pub grown_entry : o ≡ Tape.ENTRY → joins 7 l ≡ grown a o p v l
  unfolding grown when
  grown_entry e = sym (ap (λ (x : ℕ). grown a x p v l) e)

  pub grown_none : (o ≡ Tape.NUMBER → ⊥) → (o ≡ Tape.ENVIRONMENT → ⊥) → (o ≡ Tape.PORT → ⊥) → (o ≡ Tape.LOG → ⊥) → (o ≡ Tape.FLOOR → ⊥) → (o ≡ Tape.CEIL → ⊥) → (o ≡ Tape.PLUS → ⊥) → (o ≡ Tape.MINUS → ⊥) → (o ≡ Tape.ENTRY → ⊥) → l ≡ grown a o p v l
  unfolding grown when
  grown_none n1 n2 n3 n4 n5 n6 n7 n8 n9 =
      sym
      (rw (
        ne_eqb o Tape.NUMBER n1,
        ne_eqb o Tape.ENVIRONMENT n2,
        ne_eqb o Tape.PORT n3,
        ne_eqb o Tape.LOG n4,
        ne_eqb o Tape.FLOOR n5,
        ne_eqb o Tape.CEIL n6,
        ne_eqb o Tape.PLUS n7,
        ne_eqb o Tape.MINUS n8,
        ne_eqb o Tape.ENTRY n9,
        grown,
        when,
      ))
