-- Items that the sections of a plan pass over: those of expressions and statements. Assumes nothing.
use mathlib.Core.Path.{◌≡◌, refl, sym, ap, ◌∙◌}
use mathlib.Core.Bool.{Bool, true, false, not, ◌||◌, false≢true}
use mathlib.Core.List.{List, [], ◌∷◌, ◌++◌, append_assoc}
use mathlib.Core.Option.{Option, none, some}
use Prim.Native.Nat.{ℕ, suc, ◌/◌, ◌%◌, ◌^◌}
use lib.Dec.{eqb, ltb}
use borrow.Author.Tests.{eqb-true}
use Rattle.language.specs.Text.{Name}
use Rattle.language.specs.Tree.{Breadth, bits, Amount, given, value, Expr, plain, sized, copies, read, cell, bit, range, inside, joined, beside, unary, binary, choice, either, select, arm, default}
use Rattle.language.specs.Tree.{Declared, untyped, Val, Assignment, assign, write, Statement, alone, scoped}
use Rattle.language.specs.Parts.{each}
use Rattle.language.specs.Sizes.{Setting, Let, let_named}
use Rattle.placed.specs.Placed.{Every}
use Rattle.placed.proofs.Every.{append_every}
use Rattle.section_items.specs.Items.{Item, items_of}
use Rattle.settled.specs.Form.{six}
use Rattle.settled.specs.Settled.{amount, settled_breadth, settled_amount, settled_cell, settled_port, settled_read, settled, settled_assignment, settled_kept, settled_vals, settled_body}

-- an operation that no section asks for
unfoldable pub quiet : ℕ → Bool
quiet o = not (eqb o 38 || eqb o 39 || eqb o 40 || eqb o 41 || eqb o 44 || eqb o 46)

pub record Silent (x : List ℕ) : Type 0 where
  pub items : List Item
  pub splits : (l : List ℕ) → items_of (x ++ l) ≡ items ++ items_of l
  pub still : Every (λ i. quiet i.op ≡ true) items

pub silent_none : Silent []
silent_none = record { items = []; splits = λ l. refl; still = tt }

pub silent_both : {x y : List ℕ} → Silent x → Silent y → Silent (x ++ y)
silent_both {x} {y} r w =
    record {
      items = r.items ++ w.items;
      splits = λ l. ap items_of (append_assoc x y l) ∙ r.splits (y ++ l) ∙ ap (λ (m : List Item). r.items ++ m) (w.splits l) ∙ sym (append_assoc r.items w.items (items_of l));
      still = append_every _ r.items w.items r.still w.still;
    }

pub silent_six : (o p a b c d : ℕ) → quiet o ≡ true → Silent (six o p a b c d)
unfolding items_of
silent_six o p a b c d q = record { items = record { op = o; a = a; b = b } ∷ []; splits = λ l. refl; still = (q, tt) }

pub silent_each : {A : Type 0} (f : A → List ℕ) → ((x : A) → Silent (f x)) → (l : List A) → Silent (each f l)
unfolding each
silent_each f g [] = silent_none
silent_each f g (x ∷ l) = silent_both (g x) (silent_each f g l)

module _ (s : Setting) where
  silent_amount : (p v : ℕ) → Silent (amount p v)
  unfolding amount quiet
  silent_amount p v = go (ltb v (2 ^ 64))
    where
      go : (b : Bool) → Silent (elim b [ true ↦ six 14 p (v % 2 ^ 32) (v / 2 ^ 32) 0 0 | false ↦ six 13 p 0 0 0 0 ])
      go true = silent_six 14 p _ _ 0 0 refl
      go false = silent_six 13 p 0 0 0 0 refl

  silent_breadth : (w : Breadth) → Silent (settled_breadth s w)
  unfolding settled_breadth quiet
  silent_breadth (bits n) = silent_six 12 n.at _ 0 0 0 refl
  silent_breadth (Breadth.typed p t) = silent_six 12 p _ 0 0 0 refl

  silent_value : (a : Amount) → Silent (settled_amount s a)
  unfolding settled_amount
  silent_value (given n) = silent_amount n.at n.value
  silent_value (value n) = silent_amount n.at _

  module _ (lets : List (Let ℕ)) where
    silent_read : (n : Name) → Silent (settled_read s lets n)
    unfolding settled_read settled_port quiet
    silent_read n = go (let_named lets n.spelled)
      where
        go : (o : Option ℕ) → Silent (elim o [ some k ↦ six 20 n.at k 0 0 0 | none ↦ settled_port s 18 n ])
        go (some k) = silent_six 20 n.at k 0 0 0 refl
        go none = silent_six 18 n.at _ 0 0 _ refl

    pub silent_expr : (e : Expr) → Silent (settled s lets e)
    unfolding settled settled_cell quiet
    silent_expr (plain n) = silent_six 16 n.at _ 0 0 0 refl
    silent_expr (sized w a) = silent_both (silent_breadth w) (silent_value a)
    silent_expr (copies n e) = silent_both (silent_expr e) (silent_six 17 _ _ 0 0 0 refl)
    silent_expr (read n) = silent_read n
    silent_expr (cell n a) = silent_both (silent_expr a) (silent_six 19 _ _ _ _ _ refl)
    silent_expr (bit e p i) = silent_both (silent_expr e) (silent_six 21 p _ _ 0 0 refl)
    silent_expr (range e p i j) = silent_both (silent_expr e) (silent_six 21 p _ _ 0 0 refl)
    silent_expr (inside p e) = silent_both (silent_expr e) (silent_six 22 p 0 0 0 0 refl)
    silent_expr (joined p e) = silent_both (silent_expr e) (silent_six 23 p 0 0 0 0 refl)
    silent_expr (beside a b) = silent_both (silent_expr a) (silent_both (silent_expr b) (silent_six 24 0 0 0 0 0 refl))
    silent_expr (unary u e) = silent_both (silent_expr e) (silent_six 25 _ _ 0 0 0 refl)
    silent_expr (binary o a b) = silent_both (silent_expr a) (silent_both (silent_expr b) (silent_six 26 0 _ 0 0 0 refl))
    silent_expr (choice c a b) = silent_both (silent_expr c) (silent_both (silent_expr a) (silent_both (silent_expr b) (silent_six 27 0 0 0 0 0 refl)))
    silent_expr (either p c a b) = silent_both (silent_expr c) (silent_both (silent_expr a) (silent_both (silent_expr b) (silent_six 28 p 0 0 0 0 refl)))
    silent_expr (select p e a) = silent_both (silent_expr e) (silent_both (silent_six 29 p 0 0 0 0 refl) (silent_both (silent_expr a) (silent_six 30 p 0 0 0 0 refl)))
    silent_expr (arm n e r) = silent_both (silent_expr e) (silent_both (silent_expr r) (silent_six 31 _ _ 0 0 0 refl))
    silent_expr (default p e) = silent_both (silent_expr e) (silent_six 22 p 0 0 0 0 refl)

    silent_assignment : (x : Assignment) → Silent (settled_assignment s lets x)
    unfolding settled_assignment settled_port settled_cell quiet
    silent_assignment (assign n e) = silent_both (silent_expr e) (silent_six 33 _ _ 0 0 _ refl)
    silent_assignment (write n a e) = silent_both (silent_expr a) (silent_both (silent_expr e) (silent_six 34 _ _ _ _ _ refl))

  silent_kept : (k : ℕ) (v : Val) → Silent (settled_kept s k v)
  unfolding settled_kept quiet
  silent_kept k v = go v.type
    where
      go : (t : Declared) → Silent (elim t [ untyped ↦ six 37 v.called.at k 0 0 0 | Declared.typed t ↦ six 36 v.called.at k 0 0 (Rattle.language.specs.Widths.type_width s.actor s.bindings s.widths t) ])
      go untyped = silent_six 37 _ k 0 0 0 refl
      go (Declared.typed t) = silent_six 36 _ k 0 0 _ refl

  silent_vals : (vs : List Val) (k : ℕ) (lets : List (Let ℕ)) → Silent (settled_vals s k lets vs)
  unfolding settled_vals
  silent_vals [] k lets = silent_none
  silent_vals (v ∷ vs) k lets = silent_both (silent_expr lets v.value) (silent_both (silent_kept k v) (silent_vals vs (suc k) _))

  pub silent_body : (l : List Statement) (k : ℕ) → Silent (settled_body s k l)
  unfolding settled_body
  silent_body [] k = silent_none
  silent_body (alone x ∷ l) k = silent_both (silent_assignment [] x) (silent_body l k)
  silent_body (scoped vs xs ∷ l) k = silent_both (silent_vals vs k []) (silent_both (silent_each _ (silent_assignment _) xs) (silent_body l _))

-- a section asks for none of them

pub not_it : (o p : ℕ) → quiet o ≡ true → quiet p ≡ false → eqb o p ≡ false
not_it o p h g = go (eqb o p) refl
  where
    go : (b : Bool) → eqb o p ≡ b → eqb o p ≡ false
    go false e = e
    go true e = absurd (false≢true (sym g ∙ ap quiet (sym (eqb-true o p e)) ∙ h))
