-- Statements one after the other: their faults, their code, and what the slots hold. Assumes nothing.
use mathlib.Core.Path.{◌≡◌, refl, sym, ap, ◌∙◌, subst}
use mathlib.Core.Bool.{Bool, true, false}
use mathlib.Core.List.{List, [], ◌∷◌, ◌++◌, append_assoc, append-nil}
use Prim.Native.Nat.{ℕ, suc, ◌+◌, ◌≤◌, ◌<◌}
use native.Mathlib.Omega.{arith}
use lib.ListN.{length, set}
use lib.Dec.{leb}
use borrow.Author.Tests.{leb-true}
use lib.Seq.{get_or-set_other, get_or-set_same}
use lib.ListN.{length-set}
use Rattle.language.specs.Tree.{Declared, untyped, Expr, Val, Assignment, assign, write, Statement, alone, scoped}
use Rattle.language.specs.Parts.{each, start}
use Rattle.language.specs.Widths.{port_width, memory_width, type_width}
use Rattle.language.specs.Sizes.{Setting, Extent, wide, faulty, faults_of, one_part, two_parts, limited, Let, extent, fitted, val_extent, val_sizes, assignment_sizes, statement_sizes, val_lets}
use Rattle.language.specs.Meaning.{port_at}
use Rattle.language.specs.Text.{earliest}
use Rattle.words.specs.Found.{place_told}
use Rattle.words.specs.Found.{Place}
use Rattle.plan.specs.declared.Item.{Item}
use Rattle.plan.specs.declared.Item.TheVariants.{Keep}
use Rattle.plan_of.specs.PlanOf.{Slot, extents, width_of, memory_at, code, assignment_code, lets_from, vals_code, body_code}
use Rattle.placed.specs.Placed.{Every}
use Rattle.plan_of.specs.Formed.{whole, FormedAt, FormedAssignment, FormedStatement}
use Rattle.plan_of.proofs.Extents.{IsWide}
use Rattle.plan_of.proofs.Rules.{FineAssignment, FineVals, FineStatement, vals_in}
use Rattle.settled.specs.Form.{six}
use Rattle.settled.specs.Settled.{settled, settled_port, settled_cell, settled_assignment, settled_kept, slots_from, settled_vals, settled_body}
use Rattle.size_walk.specs.Effects.{sooner_of}
use Rattle.size_walk.specs.Steps.{State}
use Rattle.plan_of.proofs.Firsts.{told, told_both, sooner_assoc, sooner_comm}
use Rattle.plan_of.proofs.Walks.{Goes, goes_none, goes_both, after}
use Rattle.plan_of.proofs.Left.{shape, Small, coded, Left, each_both}
use Rattle.plan_of.proofs.Exprs.{numbers, LetsHold, small, expr}
use Rattle.plan_of.proofs.Ends.{fit, done, Ends, end_assign, end_write, end_val, end_typed}

-- nothing at all, and one after the other

pub ends_none : (st : State) → Ends (told []) [] [] (Unit {0}) st.slots st
unfolding sooner_of each earliest place_told
ends_none st = record { c = st.code; br = st.breadth; sp = st.start; goes = goes_none; code = λ y. sym (append-nil st.code) }

pub ends_both : (st : State) (f g : Place) (items others : List ℕ) (is js : List Item) (U W : Type 0) (sl tl : List ℕ) → (r : Ends f items is U sl st) → Ends g others js W tl (done st f r.c sl r.br r.sp) → Ends (sooner_of f g) (items ++ others) (is ++ js) (U × W) tl st
ends_both st f g items others is js U W sl tl r z =
    record {
      c = z.c;
      br = z.br;
      sp = z.sp;
      goes = goes_both r.goes (subst (λ (e : Place). Goes (done st f r.c sl r.br r.sp) others (record { widths = st.widths; starts = st.starts; slots = tl; code = z.c; lengths = st.lengths; first = e; breadth = z.br; start = z.sp; cases = st.cases; rule = st.rule })) firsts z.goes);
      code = λ y. z.code y.1 ∙ ap (λ (l : List ℕ). l ++ coded js) (r.code y.0) ∙ append_assoc st.code (coded is) (coded js) ∙ ap (λ (l : List ℕ). st.code ++ l) (sym (each_both is js));
    }
  where
    firsts : sooner_of g (sooner_of f st.first) ≡ sooner_of (sooner_of f g) st.first
    firsts = sooner_assoc g f st.first ∙ ap (λ (e : Place). sooner_of e st.first) (sooner_comm g f)

-- the same, grouped to the right
regrouped : (st : State) (f g a b c : List ℕ) (is js ks : List Item) (U W : Type 0) (sl : List ℕ) → (W → U) → Ends (sooner_of (told f) (told g)) ((a ++ b) ++ c) ((is ++ js) ++ ks) U sl st → Ends (told (f ++ g)) (a ++ (b ++ c)) (is ++ (js ++ ks)) W sl st
regrouped st f g a b c is js ks U W sl u r =
    record {
      c = r.c;
      br = r.br;
      sp = r.sp;
      goes = subst (λ (l : List ℕ). Goes st l (done st (told (f ++ g)) r.c sl r.br r.sp)) (append_assoc a b c) (subst (λ (e : Place). Goes st ((a ++ b) ++ c) (done st e r.c sl r.br r.sp)) (sym (told_both f g)) r.goes);
      code = λ y. r.code (u y) ∙ ap (λ (l : List Item). st.code ++ coded l) (append_assoc is js ks);
    }

-- two, with their faults in one list
pub ends_told : (st : State) (f g : List ℕ) (a b : List ℕ) (is js : List Item) (U W : Type 0) (sl tl : List ℕ) → (r : Ends (told f) a is U sl st) → Ends (told g) b js W tl (done st (told f) r.c sl r.br r.sp) → Ends (told (f ++ g)) (a ++ b) (is ++ js) (U × W) tl st
ends_told st f g a b is js U W sl tl r z = subst (λ (e : Place). Ends e (a ++ b) (is ++ js) (U × W) tl st) (sym (told_both f g)) (ends_both st (told f) (told g) a b is js U W sl tl r z)

module _ (s : Setting) (ms : List (List ℕ)) (ports : (n : List ℕ) → port_width s.actor s.widths n ≤ 32) (memories : (n : List ℕ) → memory_width s.actor s.widths n ≤ 32) where
  module _ (lets : List (Let Slot)) where
    -- an expression at the top of a statement: no case is around
    top : (e : Expr) → FormedAt ms whole e → (st : State) → LetsHold st.slots lets → st.cases ≡ 0 → Left whole (extent s (extents lets) e) (start e) (settled s (numbers lets) e) (code s lets 0 e) st
    top e f st h z = subst (λ (n : ℕ). Left whole (extent s (extents lets) e) (start e) (settled s (numbers lets) e) (code s lets n e) st) z (expr s ms ports memories lets e whole f st h)

    tiny : (e : Expr) → FormedAt ms whole e → (slots : List ℕ) → LetsHold slots lets → Small (extent s (extents lets) e)
    tiny e f slots h = small s ms ports memories lets slots h e whole f

    pub ends_assignment : (x : Assignment) → FormedAssignment ms x → (st : State) → LetsHold st.slots lets → st.cases ≡ 0
        → Ends (told (assignment_sizes s (extents lets) x)) (settled_assignment s (numbers lets) x) (assignment_code s lets x) (FineAssignment s ms (extents lets) x) st.slots st
    unfolding assignment_sizes settled_assignment settled_port settled_cell assignment_code fitted memory_at
    ends_assignment (assign n e) f st h z =
        let r = end_assign st (start e) n.at (port_at s n.spelled) (port_width s.actor s.widths n.spelled) (settled s (numbers lets) e) (code s lets 0 e) (extent s (extents lets) e) (tiny e f.1 st.slots h) (top e f.1 st h z) in
        record { c = r.c; br = r.br; sp = r.sp; goes = r.goes; code = λ y. r.code y.1 }
    ends_assignment (write n a e) f st h z =
        let q = top a f.1 st h z in
        let r = end_write st (start a) (start e) n.at _ _ _ (memory_width s.actor s.widths n.spelled) (settled s (numbers lets) a) (settled s (numbers lets) e) (code s lets 0 a) (code s lets 0 e) (extent s (extents lets) a) (extent s (extents lets) e) (tiny e f.2 st.slots h) q
        (top e f.2 (after st (shape whole (extent s (extents lets) a)) (start a) (faults_of (extent s (extents lets) a)) q.c q.br q.sp) h z) in
        record { c = r.c; br = r.br; sp = r.sp; goes = r.goes; code = λ y. r.code (y.1, y.3) }

    pub ends_assignments : (xs : List Assignment) → Every (FormedAssignment ms) xs → (st : State) → LetsHold st.slots lets → st.cases ≡ 0
        → Ends (told (each (assignment_sizes s (extents lets)) xs)) (each (settled_assignment s (numbers lets)) xs) (each (assignment_code s lets) xs) (Every (FineAssignment s ms (extents lets)) xs) st.slots st
    unfolding each
    ends_assignments [] f st h z = ends_none st
    ends_assignments (x ∷ xs) f st h z =
        let r = ends_assignment x f.0 st h z in
        subst (λ (e : Place). Ends e (settled_assignment s (numbers lets) x ++ each (settled_assignment s (numbers lets)) xs) (assignment_code s lets x ++ each (assignment_code s lets) xs) (FineAssignment s ms (extents lets) x × Every (FineAssignment s ms (extents lets)) xs) st.slots st) (sym (told_both (assignment_sizes s (extents lets) x) (each (assignment_sizes s (extents lets)) xs)))
        (ends_both st _ _ _ _ _ _ _ _ st.slots st.slots r (ends_assignments xs f.1 (done st (told (assignment_sizes s (extents lets) x)) r.c st.slots r.br r.sp) h z))

  -- ---- `val`s

  -- the slots of the `let`s are below a number
  abbrev Below : ℕ → List (Let Slot) → Type 0
  Below k [] = Unit {0}
  Below k (l ∷ ls) = (l.holds.number < k) × Below k ls

  below_more : (k : ℕ) (ls : List (Let Slot)) → Below k ls → Below (suc k) ls
  below_more k [] h = tt
  below_more k (l ∷ ls) h = (omega (arith, h.0), below_more k ls h.1)

  held_below : (k v : ℕ) (slots : List ℕ) (ls : List (Let Slot)) → Below k ls → LetsHold slots ls → LetsHold (set slots k v) ls
  held_below k v slots [] b h = tt
  held_below k v slots (l ∷ ls) b h = (get_or-set_other slots k l.holds.number v 0 (λ e. omega (arith, e, b.0)) ∙ h.0, h.1, held_below k v slots ls b.1 h.2)

  -- the extent of a `val` and its item, by its type
  abbrev extent_of : List (Let Slot) → Val → Declared → Extent
  extent_of lets v t =
      elim t [
        | untyped ↦ extent s (extents lets) v.value
        | Declared.typed t ↦ two_parts (limited v.called.at (type_width s.actor s.bindings s.widths t)) (fitted s (extents lets) (type_width s.actor s.bindings s.widths t) v.value) (λ k w. wide w)
      ]

  abbrev kept_by : ℕ → Val → Declared → List ℕ
  kept_by k v t = elim t [ untyped ↦ six 37 v.called.at k 0 0 0 | Declared.typed t ↦ six 36 v.called.at k 0 0 (type_width s.actor s.bindings s.widths t) ]

  ends_by : (k : ℕ) (lets : List (Let Slot)) (v : Val) (t : Declared) → FormedAt ms whole v.value → (st : State) → LetsHold st.slots lets → st.cases ≡ 0
      → Ends (told (faults_of (extent_of lets v t))) (settled s (numbers lets) v.value ++ kept_by k v t) (code s lets 0 v.value ++ (Keep k (width_of (extent_of lets v t)) ∷ [])) (IsWide (extent_of lets v t)) (set st.slots k (shape whole (extent_of lets v t))) st
  unfolding fitted
  ends_by k lets v untyped f st h z = end_val st (start v.value) v.called.at k (settled s (numbers lets) v.value) (code s lets 0 v.value) (extent s (extents lets) v.value) (top lets v.value f st h z)
  ends_by k lets v (Declared.typed t) f st h z =
      end_typed st (start v.value) v.called.at k (settled s (numbers lets) v.value) (code s lets 0 v.value) (type_width s.actor s.bindings s.widths t) (extent s (extents lets) v.value) (tiny lets v.value f st.slots h) (top lets v.value f st h z)

  ends_val : (k : ℕ) (lets : List (Let Slot)) (v : Val) → FormedAt ms whole v.value → (st : State) → LetsHold st.slots lets → st.cases ≡ 0
      → Ends (told (faults_of (val_extent s (extents lets) v))) (settled s (numbers lets) v.value ++ settled_kept s k v) (code s lets 0 v.value ++ (Keep k (width_of (val_extent s (extents lets) v)) ∷ [])) (IsWide (val_extent s (extents lets) v)) (set st.slots k (shape whole (val_extent s (extents lets) v))) st
  unfolding val_extent settled_kept
  ends_val k lets v f st h z = ends_by k lets v v.type f st h z

  small_target : (w p q : ℕ) (x : Extent) → Small (two_parts (limited p w) (fit x w q) (λ k w. wide w))
  unfolding limited two_parts one_part
  small_target w p q x = go (leb w 64) refl x
    where
      inner : (b : Bool) → leb w 64 ≡ true → (c : Bool) → Small (two_parts (wide w) (elim c [ true ↦ wide w | false ↦ faulty (q ∷ []) ]) (λ k w. wide w))
      inner b e true = leb-true w 64 e
      inner b e false = tt

      outer : (c : Bool) → Small (two_parts (faulty (p ∷ [])) (elim c [ true ↦ wide w | false ↦ faulty (q ∷ []) ]) (λ k w. wide w))
      outer true = tt
      outer false = tt

      go : (b : Bool) → leb w 64 ≡ b → (x : Extent) → Small (two_parts (elim b [ true ↦ wide w | false ↦ faulty (p ∷ []) ]) (fit x w q) (λ k w. wide w))
      go true e (wide u) = inner true e (leb u w)
      go true e (faulty l) = tt
      go false e (wide u) = outer (leb u w)
      go false e (faulty l) = tt

  small_by : (lets : List (Let Slot)) (v : Val) (t : Declared) → FormedAt ms whole v.value → (slots : List ℕ) → LetsHold slots lets → Small (extent_of lets v t)
  unfolding fitted
  small_by lets v untyped f slots h = tiny lets v.value f slots h
  small_by lets v (Declared.typed t) f slots h = small_target (type_width s.actor s.bindings s.widths t) v.called.at (start v.value) (extent s (extents lets) v.value)

  small_val : (lets : List (Let Slot)) (v : Val) → FormedAt ms whole v.value → (slots : List ℕ) → LetsHold slots lets → Small (val_extent s (extents lets) v)
  unfolding val_extent
  small_val lets v f slots h = small_by lets v v.type f slots h

  -- the `let` of a `val`, the latest in force
  abbrev fresh : ℕ → List (Let Slot) → Val → Let Slot
  fresh k lets v = record { called = v.called.spelled; holds = record { number = k; holds = val_extent s (extents lets) v } }

  -- some `val`s: what the slots hold then
  pub record Vals (k : ℕ) (lets : List (Let Slot)) (vs : List Val) (st : State) : Type 0 where
    pub slots : List ℕ
    pub ends : Ends (told (val_sizes s (extents lets) vs)) (settled_vals s k (numbers lets) vs) (vals_code s k lets vs) (FineVals s ms (extents lets) vs) slots st
    pub held : LetsHold slots (lets_from s k lets vs)
    pub long : length slots ≡ 16

  pub ends_vals : (vs : List Val) (k : ℕ) (lets : List (Let Slot)) → Every (λ v. FormedAt ms whole v.value) vs → k + length vs ≤ 16 → (st : State) → length st.slots ≡ 16 → Below k lets → LetsHold st.slots lets → st.cases ≡ 0 → Vals k lets vs st
  unfolding val_sizes settled_vals vals_code lets_from extents numbers each
  ends_vals [] k lets f few st n b h z = record { slots = st.slots; ends = ends_none st; held = h; long = n }
  ends_vals (v ∷ vs) k lets f few st n b h z =
      let r = ends_val k lets v f.0 st h z in
      let sl : List ℕ = set st.slots k (shape whole (val_extent s (extents lets) v)) in
      let w = ends_vals vs (suc k) (fresh k lets v ∷ lets) f.1 (omega arith) (done st (told (faults_of (val_extent s (extents lets) v))) r.c sl r.br r.sp) (length-set st.slots k _ ∙ n) (omega arith, below_more k lets b)
      (get_or-set_same st.slots k _ 0 (omega arith), small_val lets v f.0 st.slots h, held_below k _ st.slots lets b h) z in
      record {
        slots = w.slots;
        ends =
            regrouped st (faults_of (val_extent s (extents lets) v)) (val_sizes s (extents (fresh k lets v ∷ lets)) vs) (settled s (numbers lets) v.value) (settled_kept s k v) (settled_vals s (suc k) (numbers (fresh k lets v ∷ lets)) vs)
            (code s lets 0 v.value) (Keep k (width_of (val_extent s (extents lets) v)) ∷ []) (vals_code s (suc k) (fresh k lets v ∷ lets) vs) _ _ w.slots (λ y. (y.1, y.2)) (ends_both st _ _ _ _ _ _ _ _ sl w.slots r w.ends);
        held = w.held;
        long = w.long;
      }

  -- ---- statements

  same_numbers : (vs : List Val) (k : ℕ) (lets : List (Let Slot)) → numbers (lets_from s k lets vs) ≡ slots_from s k (numbers lets) vs
  unfolding lets_from slots_from numbers
  same_numbers [] k lets = refl
  same_numbers (v ∷ vs) k lets = same_numbers vs (suc k) (fresh k lets v ∷ lets)

  same_extents : (vs : List Val) (k : ℕ) (lets : List (Let Slot)) → extents (lets_from s k lets vs) ≡ val_lets s (extents lets) vs
  unfolding lets_from val_lets extents
  same_extents [] k lets = refl
  same_extents (v ∷ vs) k lets = same_extents vs (suc k) (fresh k lets v ∷ lets)

  pub record Body (k : ℕ) (l : List Statement) (st : State) : Type 0 where
    pub slots : List ℕ
    pub ends : Ends (told (each (statement_sizes s) l)) (settled_body s k l) (body_code s k l) (Every (FineStatement s ms) l) slots st
    pub long : length slots ≡ 16

  -- the assignments of a `let`, under the names that it gave
  scoped_assignments : (k : ℕ) (vs : List Val) (xs : List Assignment) → Every (FormedAssignment ms) xs → (st : State) → LetsHold st.slots (lets_from s k [] vs) → st.cases ≡ 0
      → Ends (told (each (assignment_sizes s (val_lets s [] vs)) xs)) (each (settled_assignment s (slots_from s k [] vs)) xs) (each (assignment_code s (lets_from s k [] vs)) xs) (Every (FineAssignment s ms (val_lets s [] vs)) xs) st.slots st
  unfolding numbers extents
  scoped_assignments k vs xs f st h z =
      subst (λ (e : List (Let Extent)). Ends (told (each (assignment_sizes s e) xs)) (each (settled_assignment s (slots_from s k [] vs)) xs) (each (assignment_code s (lets_from s k [] vs)) xs) (Every (FineAssignment s ms e) xs) st.slots st) (same_extents vs k [])
      (subst (λ (n : List (Let ℕ)). Ends (told (each (assignment_sizes s (extents (lets_from s k [] vs))) xs)) (each (settled_assignment s n) xs) (each (assignment_code s (lets_from s k [] vs)) xs) (Every (FineAssignment s ms (extents (lets_from s k [] vs))) xs) st.slots st) (same_numbers vs k [])
      (ends_assignments (lets_from s k [] vs) xs f st h z))

  pub ends_body : (l : List Statement) (k : ℕ) → Every (FormedStatement ms) l → k + vals_in l ≤ 16 → (st : State) → length st.slots ≡ 16 → st.cases ≡ 0 → Body k l st
  unfolding each statement_sizes settled_body body_code vals_in extents numbers
  ends_body [] k f few st n z = record { slots = st.slots; ends = ends_none st; long = n }
  ends_body (alone x ∷ l) k f few st n z =
      let r = ends_assignment [] x f.0 st tt z in
      let w = ends_body l k f.1 few (done st (told (assignment_sizes s [] x)) r.c st.slots r.br r.sp) n z in
      record { slots = w.slots; ends = ends_told st (assignment_sizes s [] x) (each (statement_sizes s) l) _ _ _ _ _ _ st.slots w.slots r w.ends; long = w.long }
  ends_body (scoped vs xs ∷ l) k f few st n z =
      let v = ends_vals vs k [] f.0.0 (omega arith) st n tt tt z in
      let a = scoped_assignments k vs xs f.0.1 (done st (told (val_sizes s [] vs)) v.ends.c v.slots v.ends.br v.ends.sp) v.held z in
      let b = ends_told st (val_sizes s [] vs) (each (assignment_sizes s (val_lets s [] vs)) xs) _ _ _ _ _ _ v.slots v.slots v.ends a in
      let w = ends_body l (k + length vs) f.1 (omega arith) (done st (told (val_sizes s [] vs ++ each (assignment_sizes s (val_lets s [] vs)) xs)) b.c v.slots b.br b.sp) v.long z in
      record {
        slots = w.slots;
        ends =
            regrouped st (val_sizes s [] vs ++ each (assignment_sizes s (val_lets s [] vs)) xs) (each (statement_sizes s) l) (settled_vals s k [] vs) (each (settled_assignment s (slots_from s k [] vs)) xs) (settled_body s (k + length vs) l)
            (vals_code s k [] vs) (each (assignment_code s (lets_from s k [] vs)) xs) (body_code s (k + length vs) l) _ _ w.slots (λ y. ((y.0.0, y.0.1), y.1)) (ends_both st _ _ _ _ _ _ _ _ v.slots w.slots b w.ends);
        long = w.long;
      }
