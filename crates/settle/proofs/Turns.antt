-- One turn of the walk: tables that hold a state hold the next one, within the bounds of one item more. Assumes nothing.
use mathlib.Core.Path.{◌≡◌, refl, ap, ◌∙◌}
use mathlib.Core.Bool.{Bool, true, false, ◌||◌}
use mathlib.Core.List.{List, [], ◌∷◌, ◌++◌}
use Prim.Native.Nat.{ℕ, suc, ◌+◌, ◌-◌, ◌≤◌}
use native.Mathlib.Numerals.{add-one}
use native.Mathlib.Omega.{arith}
use lib.Dec.{eqb}
use lib.ListN.{length, take}
use borrow.Author.Tests.{eqb-true, ne_eqb}
use Rattle.placed.specs.Placed.{name_from}
use Rattle.laws.specs.Tables.{Kept}
use Rattle.tape.specs.Tape.{VAL, END, RULED, most_items}
use Rattle.tape.specs.declared.Class.{Class}
use Rattle.tape.specs.Walk.{op_at, place_at, value_at, hit, add, names_on, between}
use Rattle.tape.proofs.Seens.{more}
use Rattle.bindings.specs.declared.bound.Bound.{Bound}
use Rattle.item_writes.specs.declared.Far.{Far}
use Rattle.item_writes.specs.declared.given.Given.{Given}
use Rattle.item_writes.specs.Walk.{Around, State, when, without, takes, grown, written, step, walked, around_of}
use Rattle.item_writes.specs.Tables.{waits_in, lets_after, vals_after, size_after, state_of, Bounded, around_in}

-- ---- bounds

one_of : (b : Bool) (x y z : ℕ) → x ≤ z → y ≤ z → when b x y ≤ z
unfolding when
one_of true x y z h j = h
one_of false x y z h j = j

pub lets_within : (o i lets : ℕ) → lets ≤ i → lets_after o i lets ≤ i + 1
unfolding lets_after
lets_within o i lets h = one_of (eqb o END || eqb o RULED) (i + 1) lets (i + 1) (omega arith) (omega arith)

pub vals_within : (o vals i : ℕ) → vals ≤ i → vals_after o vals ≤ i + 1
unfolding vals_after
vals_within o vals i h = one_of (eqb o VAL) (vals + 1) _ (i + 1) (omega arith) (one_of (eqb o RULED) 0 vals (i + 1) (omega arith) (omega arith))

-- ---- the `let`s in force

-- what ends them is no `val`
ends_no_val : (o : ℕ) → (eqb o END || eqb o RULED) ≡ true → eqb o VAL ≡ false
ends_no_val o e = go (eqb o END) (eqb o RULED) refl refl e
  where
    go : (x y : Bool) → eqb o END ≡ x → eqb o RULED ≡ y → (x || y) ≡ true → eqb o VAL ≡ false
    go true y f g q = let z = eqb-true o END f in ne_eqb o VAL (λ n. omega arith)
    go false true f g q = let z = eqb-true o RULED g in ne_eqb o VAL (λ n. omega arith)
    go false false f g q = absurd (let z : ◌≡◌ {A = ℕ} 0 1 = cc in omega arith)

module _ (text t : List ℕ) (i lets : ℕ) (h : lets ≤ i) where
  one_name : between text t Class.Val lets (i + 1) ≡ add (eqb (op_at t i) VAL) (name_from text (place_at t i)) (between text t Class.Val lets i)
  unfolding hit
  one_name = ap (between text t Class.Val lets) (add-one i) ∙ more text t Class.Val lets i h

  no_name_law : between text t Class.Val (i + 1) (i + 1) ≡ []
  unfolding names_on
  no_name_law = let e : i + 1 - (i + 1) ≡ 0 = omega arith in rw e

  pub lets_are : between text t Class.Val (lets_after (op_at t i) i lets) (i + 1)
      ≡ when (eqb (op_at t i) VAL) (name_from text (place_at t i) ∷ between text t Class.Val lets i) (when (eqb (op_at t i) END || eqb (op_at t i) RULED) [] (between text t Class.Val lets i))
  unfolding lets_after when add
  lets_are = go (eqb (op_at t i) END || eqb (op_at t i) RULED) (eqb (op_at t i) VAL) (ends_no_val (op_at t i)) one_name
    where
      go : (b v : Bool) → (b ≡ true → v ≡ false) → between text t Class.Val lets (i + 1) ≡ add v (name_from text (place_at t i)) (between text t Class.Val lets i)
          → between text t Class.Val (when b (i + 1) lets) (i + 1) ≡ when v (name_from text (place_at t i) ∷ between text t Class.Val lets i) (when b [] (between text t Class.Val lets i))
      go true true f e = absurd (let q = f refl in let z : ◌≡◌ {A = ℕ} 0 1 = cc in omega arith)
      go true false f e = no_name_law
      go false true f e = e
      go false false f e = e

vals_are : (o vals : ℕ) → vals_after o vals ≡ when (eqb o VAL) (suc vals) (when (eqb o RULED) 0 vals)
unfolding vals_after
vals_are o vals = ap (λ (n : ℕ). when (eqb o VAL) n (when (eqb o RULED) 0 vals)) (add-one vals)

-- ---- the state

module _ (text t : List ℕ) (many : ℕ) (bound : Bound) (ws code starts out : List ℕ) (i : ℕ) (far : Far) where
  abbrev AroundIt : Around
  AroundIt = around_of text t many bound.text.now bound.table.now bound.lines ws

  abbrev BeforeIt : State
  BeforeIt = state_of text t code starts out i far

  -- what the parts of a step leave in the tables
  pub record Turned (code' starts' out' : List ℕ) (r : Far) : Type 0 where
    pub types : waits_in code' starts' r.waits ≡ grown AroundIt (op_at t i) (place_at t i) (value_at t i) (without (takes (op_at t i) (value_at t i)) (waits_in code starts far.waits))
    pub wrote : take r.out out' ≡ take far.out out ++ written AroundIt BeforeIt (op_at t i) (place_at t i) (value_at t i)
    pub lets : r.lets ≡ lets_after (op_at t i) i far.lets
    pub vals : r.vals ≡ vals_after (op_at t i) far.vals
    pub size : r.size ≡ size_after (op_at t i) (value_at t i) far.size

  pub turn : (code' starts' out' : List ℕ) (r : Far) → far.lets ≤ i → Turned code' starts' out' r → state_of text t code' starts' out' (i + 1) r ≡ step AroundIt BeforeIt (op_at t i) (place_at t i) (value_at t i)
  unfolding state_of step around_of size_after
  turn code' starts' out' r h q =
      let a = q.types in
      let b = q.wrote in
      let c = ap (λ (n : ℕ). between text t Class.Val n (i + 1)) q.lets ∙ lets_are text t i far.lets h in
      let d = q.vals ∙ vals_are (op_at t i) far.vals in
      let e = q.size in
      cc

-- the state after one item more
pub walked_next : (a : Around) (t : List ℕ) (i : ℕ) (s s' : State) → s ≡ walked a t i → s' ≡ step a s (op_at t i) (place_at t i) (value_at t i) → s' ≡ walked a t (i + 1)
unfolding walked
walked_next a t i s s' e f = rw (add-one i) (f ∙ ap (λ (x : State). step a x (op_at t i) (place_at t i) (value_at t i)) e)

-- ---- the walk's tables after i items

pub record Walked (g : Given) (out₀ code starts out : List ℕ) (far : Far) (i : ℕ) : Type 0 where
  pub many_nodes : length code ≡ most_items
  pub many_types : length starts ≡ most_items
  pub long : length out ≡ length out₀
  pub bounded : Bounded starts i far
  pub kept : Kept 0 far.out out₀ out
  pub holds : state_of g.text.now g.tape.now code starts out i far ≡ walked (around_in g) g.tape.now i
