-- From no faults to facts: a statement without faults has widths throughout, and does not nest too deep.
use Prim.Native.Nat.{ℕ, suc, ◌+◌, ◌*◌, ◌^◌, ◌≤◌}
use mathlib.Core.Path.{◌≡◌, refl, ap, ap₂, ◌∙◌}
use mathlib.Core.List.{List, [], ◌∷◌}
use mathlib.Core.Bool.{Bool, true, false, ◌&&◌}
use mathlib.Core.Option.{Option, none, some}
use native.Mathlib.Omega.{arith}
use lib.ListN.{length, drop, length-append, length-drop}
use lib.Dec.{leb, ltb}
use Rattle.language.specs.Text.{Name, same}
use Rattle.language.specs.Tree.{Breadth, bits, Amount, given, value, Expr, plain, sized, copies, read, cell, bit, range, inside, joined, beside, unary, binary, choice, either, select, arm, default}
use Rattle.language.specs.Tree.{Declared, untyped, Val, Assignment, assign, write, Statement, alone, scoped}
use Rattle.language.specs.Parts.{each, start, assigned, wholes}
use Rattle.language.specs.Counts.{breadth_words, amount_words, expr_words, val_names, too_many}
use Rattle.language.specs.Widths.{type_width, port_width}
use Rattle.language.specs.Values.{range_width}
use Rattle.language.specs.Sizes.{Setting, Extent, wide, faulty, one_part, two_parts, faults_of, limited, Let, let_named, used, breadth_of, amount_of, position_at, positions, read_extent, extent, fitted, val_extent, val_lets, val_sizes, assignment_sizes, statement_sizes}
use Rattle.placed.specs.Placed.{Every}
use Rattle.placed.proofs.Every.{append_nils, every_nil, every_append}
use Rattle.plan_of.specs.Formed.{Kind, whole, parts, arms, IsPart, IsParts, IsArms, FormedAt, FormedAssignment, FormedStatement, nest}
use Rattle.plan_of.proofs.Extents.{IsWide}
use Rattle.plan_of.proofs.Rules.{Fine, FineAssignment, FineVals, FineStatement, vals_in}

-- ## A fault tells its place

abbrev Real : Extent → Type 0
Real (wide w) = Unit {0}
Real (faulty []) = ⊥
Real (faulty (p ∷ l)) = Unit {0}

real_wide : (x : Extent) → Real x → faults_of x ≡ [] → IsWide x
unfolding faults_of
real_wide (wide w) r e = tt
real_wide (faulty []) r e = absurd r
real_wide (faulty (p ∷ l)) r e = let z : ◌≡◌ {A = ℕ} 0 1 = cc in absurd (omega arith)

real_one : (x : Extent) (f : ℕ → Extent) → Real x → ((w : ℕ) → Real (f w)) → Real (one_part x f)
unfolding one_part
real_one (wide w) f r h = h w
real_one (faulty l) f r h = r

real_two : (x y : Extent) (f : ℕ → ℕ → Extent) → Real x → Real y → ((m n : ℕ) → Real (f m n)) → Real (two_parts x y f)
unfolding two_parts
real_two (wide m) (wide n) f r q h = h m n
real_two (wide m) (faulty l) f r q h = q
real_two (faulty l) (wide n) f r q h = r
real_two (faulty []) (faulty l) f r q h = absurd r
real_two (faulty (p ∷ k)) (faulty l) f r q h = tt

real_test : (b : Bool) (w p : ℕ) → Real (elim b [ true ↦ wide w | false ↦ faulty (p ∷ []) ])
real_test true w p = tt
real_test false w p = tt

real_limited : (p w : ℕ) → Real (limited p w)
unfolding limited
real_limited p w = real_test (leb w 64) w p

real_sized : (b c : Bool) (w p : ℕ) → Real (elim b [ true ↦ elim c [ true ↦ wide w | false ↦ faulty (p ∷ []) ] | false ↦ faulty (p ∷ []) ])
real_sized true true w p = tt
real_sized true false w p = tt
real_sized false c w p = tt

real_positions : (s : Setting) (p w : ℕ) (i j : Option ℕ) → Real (positions s p w i j)
unfolding positions
real_positions s p w (some i) (some j) = real_test (ltb i w && ltb j w) (range_width i j) p
real_positions s p w (some i) none = tt
real_positions s p w none (some j) = tt
real_positions s p w none none = tt

abbrev AllWide : List (Let Extent) → Type 0
AllWide [] = Unit {0}
AllWide (l ∷ ls) = IsWide l.holds × AllWide ls

wide_used : (x : Extent) → IsWide x → Real (used x)
unfolding used
wide_used (wide w) h = tt
wide_used (faulty l) h = absurd h

module _ (s : Setting) where
  real_read : (lets : List (Let Extent)) (n : List ℕ) → AllWide lets → Real (read_extent s lets n)
  unfolding read_extent let_named
  real_read [] n a = tt
  real_read (l ∷ ls) n a = go (same l.called n) (real_read ls n a.1)
    where
      go : (b : Bool) → Real (elim (let_named ls n) [ some x ↦ used x | none ↦ wide (port_width s.actor s.widths n) ])
          → Real (elim (elim b as (λ _. Option Extent) [ true ↦ some l.holds | false ↦ let_named ls n ]) [ some x ↦ used x | none ↦ wide (port_width s.actor s.widths n) ])
      go true r = wide_used l.holds a.0
      go false r = r

  module _ (lets : List (Let Extent)) (a : AllWide lets) where
    real_extent : (e : Expr) → Real (extent s lets e)
    unfolding extent
    real_extent (plain n) = tt
    real_extent (sized w x) = real_sized (leb (breadth_of s w) 64) (ltb (amount_of s x) (2 ^ breadth_of s w)) (breadth_of s w) (start (sized w x))
    real_extent (copies n e) = real_one (extent s lets e) _ (real_extent e) (λ w. real_limited n.at (n.value * w))
    real_extent (read n) = real_read lets n.spelled a
    real_extent (cell n e) = real_one (extent s lets e) _ (real_extent e) (λ w. tt)
    real_extent (bit e p i) = real_one (extent s lets e) _ (real_extent e) (λ w. real_positions s p w (position_at s i) (position_at s i))
    real_extent (range e p i j) = real_one (extent s lets e) _ (real_extent e) (λ w. real_positions s p w (position_at s i) (position_at s j))
    real_extent (inside p e) = real_extent e
    real_extent (joined p e) = real_one (extent s lets e) _ (real_extent e) (λ w. real_limited p w)
    real_extent (beside x y) = real_two (extent s lets x) (extent s lets y) _ (real_extent x) (real_extent y) (λ m n. tt)
    real_extent (unary u e) = real_one (extent s lets e) _ (real_extent e) (λ w. tt)
    real_extent (binary o x y) = real_two (extent s lets x) (extent s lets y) _ (real_extent x) (real_extent y) (λ m n. real_limited (start x) _)
    real_extent (choice c x y) = real_two (extent s lets c) _ _ (real_extent c) (real_two (extent s lets x) (extent s lets y) _ (real_extent x) (real_extent y) (λ m n. tt)) (λ m n. tt)
    real_extent (either p c x y) = real_two (extent s lets c) _ _ (real_extent c) (real_two (extent s lets x) (extent s lets y) _ (real_extent x) (real_extent y) (λ m n. tt)) (λ m n. tt)
    real_extent (select p e r) = real_two (extent s lets e) (extent s lets r) _ (real_extent e) (real_extent r) (λ m n. tt)
    real_extent (arm n e r) = real_two (extent s lets e) (extent s lets r) _ (real_extent e) (real_extent r) (λ m n. tt)
    real_extent (default p e) = real_extent e

    real_fitted : (w : ℕ) (e : Expr) → Real (fitted s lets w e)
    unfolding fitted
    real_fitted w e = real_one (extent s lets e) _ (real_extent e) (λ v. real_test (leb v w) w (start e))

    real_val : (v : Val) → Real (val_extent s lets v)
    unfolding val_extent
    real_val v = go v.type
      where
        go : (t : Declared)
            → Real (elim t [ untyped ↦ extent s lets v.value | Declared.typed t ↦ two_parts (limited v.called.at (type_width s.actor s.bindings s.widths t)) (fitted s lets (type_width s.actor s.bindings s.widths t) v.value) (λ k w. wide w) ])
        go untyped = real_extent v.value
        go (Declared.typed t) =
            real_two (limited v.called.at (type_width s.actor s.bindings s.widths t)) (fitted s lets (type_width s.actor s.bindings s.widths t) v.value) _
            (real_limited v.called.at (type_width s.actor s.bindings s.widths t)) (real_fitted (type_width s.actor s.bindings s.widths t) v.value) (λ m n. tt)

-- ## Cases in each other's arms: eight words each

abbrev least_words : Kind → ℕ
least_words whole = 1
least_words parts = 1
least_words arms = 4

pub sized_words : (w : Breadth) (a : Amount) → 1 ≤ breadth_words w + amount_words a
unfolding breadth_words amount_words
sized_words (bits n) (given m) = omega arith
sized_words (bits n) (value m) = omega arith
sized_words (Breadth.typed p t) (given m) = omega arith
sized_words (Breadth.typed p t) (value m) = omega arith

part_least : (k : Kind) → IsPart k → least_words k ≡ 1
part_least whole h = refl
part_least parts h = refl
part_least arms h = absurd h

parts_least : (k : Kind) → IsParts k → least_words k ≡ 1
parts_least whole h = refl
parts_least parts h = refl
parts_least arms h = absurd h

arms_least : (k : Kind) → IsArms k → least_words k ≡ 4
arms_least whole h = absurd h
arms_least parts h = absurd h
arms_least arms h = refl

pub nest_words : (ms : List (List ℕ)) (k : Kind) (e : Expr) → FormedAt ms k e → 8 * nest e + least_words k ≤ expr_words e
unfolding nest expr_words
nest_words ms k (plain n) f = let q = part_least k f.0 in omega arith
nest_words ms k (sized w a) f = let q = part_least k f in let r = sized_words w a in omega arith
nest_words ms k (copies n e) f = let q = part_least k f.0 in let r = nest_words ms whole e f.1 in omega arith
nest_words ms k (read n) f = let q = part_least k f.0 in omega arith
nest_words ms k (cell n e) f = let q = part_least k f.0 in let r = nest_words ms whole e f.2 in omega arith
nest_words ms k (bit e p i) f = let q = part_least k f.0 in let r = nest_words ms whole e f.1 in omega arith
nest_words ms k (range e p i j) f = let q = part_least k f.0 in let r = nest_words ms whole e f.1 in omega arith
nest_words ms k (inside p e) f = let q = part_least k f.0 in let r = nest_words ms whole e f.1 in omega arith
nest_words ms k (joined p e) f = let q = part_least k f.0 in let r = nest_words ms parts e f.1 in omega arith
nest_words ms k (beside x y) f = let q = parts_least k f.0 in let r = nest_words ms parts x f.1 in let t = nest_words ms whole y f.2 in omega arith
nest_words ms k (unary u e) f = let q = part_least k f.0 in let r = nest_words ms whole e f.1 in omega arith
nest_words ms k (binary o x y) f = let q = part_least k f.0 in let r = nest_words ms whole x f.1 in let t = nest_words ms whole y f.2 in omega arith
nest_words ms k (choice c x y) f =
    let q = part_least k f.0 in let u = nest_words ms whole c f.1 in let r = nest_words ms whole x f.2 in let t = nest_words ms whole y f.3 in omega arith
nest_words ms k (either p c x y) f =
    let q = part_least k f.0 in let u = nest_words ms whole c f.1 in let r = nest_words ms whole x f.2 in let t = nest_words ms whole y f.3 in omega arith
nest_words ms k (select p e a) f = let q = part_least k f.0 in let r = nest_words ms whole e f.1 in let t = nest_words ms arms a f.2 in omega arith
nest_words ms k (arm n e a) f = let q = arms_least k f.0 in let r = nest_words ms whole e f.1 in let t = nest_words ms arms a f.2 in omega arith
nest_words ms k (default p e) f = let q = arms_least k f.0 in let r = nest_words ms whole e f.1 in omega arith

-- ## Statements

module _ (s : Setting) (ms : List (List ℕ)) where
  fine : (e : Expr) → FormedAt ms whole e → expr_words e ≤ 256 → Fine ms e
  fine e f w = (f, let q = nest_words ms whole e f in omega arith)

  fine_assignment : (lets : List (Let Extent)) (x : Assignment) → AllWide lets → FormedAssignment ms x → assignment_sizes s lets x ≡ [] → Every (λ e. expr_words e ≤ 256) (assigned x) → FineAssignment s ms lets x
  unfolding assignment_sizes assigned
  fine_assignment lets (assign n e) a f z w = (fine e f.1 w.0, real_wide (fitted s lets _ e) (real_fitted s lets a _ e) z)
  fine_assignment lets (write n x e) a f z w =
      let q = append_nils (faults_of (extent s lets x)) _ z in
      (fine x f.1 w.0, real_wide (extent s lets x) (real_extent s lets a x) q.0, fine e f.2 w.1.0, real_wide (fitted s lets _ e) (real_fitted s lets a _ e) q.1)

  fine_assignments : (lets : List (Let Extent)) (l : List Assignment) → AllWide lets → Every (FormedAssignment ms) l → Every (λ x. assignment_sizes s lets x ≡ []) l → Every (λ e. expr_words e ≤ 256) (each assigned l) → Every (FineAssignment s ms lets) l
  unfolding each
  fine_assignments lets [] a f z w = tt
  fine_assignments lets (x ∷ l) a f z w = let q = every_append _ (assigned x) (each assigned l) w in (fine_assignment lets x a f.0 z.0 q.0, fine_assignments lets l a f.1 z.1 q.1)

  fine_vals : (lets : List (Let Extent)) (vs : List Val) → AllWide lets → Every (λ v. FormedAt ms whole v.value) vs → val_sizes s lets vs ≡ [] → Every (λ e. expr_words e ≤ 256) (each (λ v. v.value ∷ []) vs)
      → FineVals s ms lets vs × AllWide (val_lets s lets vs)
  unfolding each val_sizes val_lets
  fine_vals lets [] a f z w = (tt, a)
  fine_vals lets (v ∷ vs) a f z w =
      let q = append_nils (faults_of (val_extent s lets v)) _ z in
      let h = real_wide (val_extent s lets v) (real_val s lets a v) q.0 in
      let r = fine_vals (record { called = v.called.spelled; holds = val_extent s lets v } ∷ lets) vs (h, a) f.1 q.1 w.1 in
      ((fine v.value f.0 w.0, h, r.0), r.1)

  pub fine_statement : (x : Statement) → FormedStatement ms x → statement_sizes s x ≡ [] → Every (λ e. expr_words e ≤ 256) (wholes x) → FineStatement s ms x
  unfolding statement_sizes wholes
  fine_statement (alone x) f z w = fine_assignment [] x tt f z w
  fine_statement (scoped vs l) f z w =
      let q = append_nils (val_sizes s [] vs) _ z in
      let u = every_append _ (each (λ v. v.value ∷ []) vs) (each assigned l) w in
      let r = fine_vals [] vs tt f.0 q.0 u.0 in
      (r.0, fine_assignments (val_lets s [] vs) l r.1 f.1 (every_nil _ l q.1) u.1)

vals_in_law : (l : List Statement) → length (each val_names l) ≡ vals_in l
unfolding each val_names vals_in
vals_in_law [] = refl
vals_in_law (alone x ∷ l) = vals_in_law l
vals_in_law (scoped vs xs ∷ l) = length-append (each (λ v. v.called ∷ []) vs) (each val_names l) ∙ ap₂ ◌+◌ (ones vs) (vals_in_law l)
  where
    ones : (vs : List Val) → length (each (λ v. v.called ∷ []) vs) ≡ length vs
    ones [] = refl
    ones (v ∷ vs) = ap suc (ones vs)

-- not too many of a list
pub few_of : {A : Type 0} (f : A → ℕ) (n : ℕ) (l : List A) → each (λ x. f x ∷ []) (drop n l) ≡ [] → length l ≤ n
unfolding each
few_of {A} f n l e = let q = length-drop n l in let r = none_dropped (drop n l) e in omega arith
  where
    none_dropped : (l : List A) → each (λ x. f x ∷ []) l ≡ [] → length l ≡ 0
    none_dropped [] e = refl
    none_dropped (x ∷ l) e = let z : ◌≡◌ {A = ℕ} 0 1 = cc in absurd (omega arith)

pub few : (n : ℕ) (ns : List Name) → too_many n ns ≡ [] → length ns ≤ n
unfolding too_many
few n ns e = few_of (λ m. m.at) n ns e

pub few_vals : (l : List Statement) → too_many 16 (each val_names l) ≡ [] → vals_in l ≤ 16
few_vals l e = rw (← (vals_in_law l)) (few 16 (each val_names l) e)
