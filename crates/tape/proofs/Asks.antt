-- What a walk does on types and expressions, where their items leave its state and it asks of names alone: those read, and environment names. Assumes nothing.
use mathlib.Core.Path.{◌≡◌, refl, sym, ap, ◌∙◌}
use mathlib.Core.Bool.{Bool, true, false, ◌||◌}
use mathlib.Core.List.{List, [], ◌∷◌, ◌++◌, append_assoc, append-nil}
use Prim.Native.Nat.{ℕ}
use lib.Dec.{eqb, ltb}
use Rattle.language.specs.Text.{Name}
use Rattle.language.specs.Parts.{each, Item, reads, items, breadth_items, amount_items, declared_items, type_names}
use Rattle.language.specs.Names.{when}
use Rattle.language.specs.Tree.{Ty, number, environment, port, plus, minus, log, ceil, floor, most, entry, within, Breadth, bits, Amount, given, value, Declared, untyped}
use Rattle.language.specs.Tree.{Expr, plain, sized, copies, read, cell, bit, range, inside, joined, beside, unary, binary, choice, either, select, arm, default}
use Rattle.placed.specs.Placed.{name_from, PlacedType, PlacedBreadth, PlacedAmount, PlacedExpr, PlacedDeclared}
use Rattle.tape.specs.Tape.{item, flat_t, flat_b, flat_a, flat, flat_d, ENVIRONMENT, VALUE, READ, ASSIGN}
use Rattle.tape.proofs.Does.{Does, told, none, both, single, ends}
use Rattle.placed.proofs.Every.{each_append}

-- nothing is asked of a name
abbrev pub never : List ℕ → Bool
never n = false

-- what is asked of the name of an item in an expression
unfoldable pub asked : (environs inputs : List ℕ → Bool) → ℕ → List ℕ → Bool
asked environs inputs o n = elim (eqb o READ) [ true ↦ inputs n | false ↦ elim (eqb o ENVIRONMENT || eqb o VALUE) [ true ↦ environs n | false ↦ false ] ]

-- the place of a name of which the question holds
abbrev pub told_of_law : (List ℕ → Bool) → Name → List ℕ
told_of_law q n = when (q n.spelled) n.at

unfoldable pub item_a : (environs inputs : List ℕ → Bool) → Item → List ℕ
item_a environs inputs (Item.type t) = each (told_of_law environs) (type_names t)
item_a environs inputs (Item.number n) = []
item_a environs inputs (reads n) = told_of_law inputs n
item_a environs inputs (Item.value n) = told_of_law environs n

pub record Asks {S : Type 0} (test : S → ℕ → ℕ → ℕ → Bool) (next : S → ℕ → ℕ → ℕ → S) (text : List ℕ) (s : S) (environs inputs : List ℕ → Bool) : Type 0 where
  pub keeps : (o p v : ℕ) → ltb o ASSIGN ≡ true → next s o p v ≡ s
  pub tests : (o p v : ℕ) → ltb o ASSIGN ≡ true → test s o p v ≡ asked environs inputs o (name_from text p)

module _ {S : Type 0} {test : S → ℕ → ℕ → ℕ → Bool} {next : S → ℕ → ℕ → ℕ → S} {text : List ℕ} {s : S} {environs inputs : List ℕ → Bool} (h : Asks test next text s environs inputs) where
  silent : (o p v : ℕ) → ltb o ASSIGN ≡ true → asked environs inputs o (name_from text p) ≡ false → (test s o p v ≡ false) × (next s o p v ≡ s)
  silent o p v b e = (h.tests o p v b ∙ e, h.keeps o p v b)

  alone : (o p v : ℕ) → ltb o ASSIGN ≡ true → asked environs inputs o (name_from text p) ≡ false → Does test next s (item o p v) [] s
  unfolding when
  alone o p v b e = single o p v (h.tests o p v b ∙ e) (h.keeps o p v b)

  -- an item that names something
  names : (o v : ℕ) (n : Name) (q : List ℕ → Bool) → ltb o ASSIGN ≡ true → n.spelled ≡ name_from text n.at → asked environs inputs o (name_from text n.at) ≡ q (name_from text n.at) → Does test next s (item o n.at v) (told_of_law q n) s
  names o v n q b g e = single o n.at v (h.tests o n.at v b ∙ e ∙ ap q (sym g)) (h.keeps o n.at v b)

  two : {a b : List ℕ} (x y : Ty) → Does test next s a (each (told_of_law environs) (type_names x)) s → Does test next s b (each (told_of_law environs) (type_names y)) s → Does test next s (a ++ b) (each (told_of_law environs) (type_names x ++ type_names y)) s
  two x y d e = told (sym (each_append (told_of_law environs) (type_names x) (type_names y))) (both d e)

  pub type_asks : (t : Ty) → PlacedType text t → Does test next s (flat_t t) (each (told_of_law environs) (type_names t)) s
  unfolding flat_t type_names each asked
  type_asks (number n) g = alone _ _ _ refl refl
  type_asks (environment n) g = told (sym (append-nil _)) (names _ _ n environs refl g refl)
  type_asks (port n) g = alone _ _ _ refl refl
  type_asks (plus a b) g = ends _ _ _ (two a b (type_asks a g.0) (type_asks b g.1)) (silent _ _ _ refl refl)
  type_asks (minus a b) g = ends _ _ _ (two a b (type_asks a g.0) (type_asks b g.1)) (silent _ _ _ refl refl)
  type_asks (log p a) g = ends _ _ _ (type_asks a g) (silent _ _ _ refl refl)
  type_asks (ceil p a) g = ends _ _ _ (type_asks a g) (silent _ _ _ refl refl)
  type_asks (floor p a) g = ends _ _ _ (type_asks a g) (silent _ _ _ refl refl)
  type_asks (most p a) g = ends _ _ _ (type_asks a g) (silent _ _ _ refl refl)
  type_asks (entry a b) g = ends _ _ _ (two a b (type_asks a g.0) (type_asks b g.1)) (silent _ _ _ refl refl)
  type_asks (within p a) g = ends _ _ _ (type_asks a g) (silent _ _ _ refl refl)

  type_item : (t : Ty) → PlacedType text t → Does test next s (flat_t t) (each (item_a environs inputs) (Item.type t ∷ [])) s
  unfolding each item_a
  type_item t g = told (sym (append-nil (each (told_of_law environs) (type_names t)))) (type_asks t g)

  pub decl_asks : (d : Declared) → PlacedDeclared text d → Does test next s (flat_d d) (each (item_a environs inputs) (declared_items d)) s
  unfolding flat_d declared_items each
  decl_asks untyped g = none
  decl_asks (Declared.typed t) g = type_item t g

  join : {a b : List ℕ} (x y : List Item) → Does test next s a (each (item_a environs inputs) x) s → Does test next s b (each (item_a environs inputs) y) s → Does test next s (a ++ b) (each (item_a environs inputs) (x ++ y)) s
  join x y d e = told (sym (each_append (item_a environs inputs) x y)) (both d e)

  join3 : {a b c : List ℕ} (x y z : List Item) → Does test next s a (each (item_a environs inputs) x) s → Does test next s b (each (item_a environs inputs) y) s → Does test next s c (each (item_a environs inputs) z) s → Does test next s ((a ++ b) ++ c) (each (item_a environs inputs) (x ++ (y ++ z))) s
  join3 x y z d e f = told (ap (each (item_a environs inputs)) (append_assoc x y z)) (join (x ++ y) z (join x y d e) f)

  breadth_asks : (w : Breadth) → PlacedBreadth text w → Does test next s (flat_b w) (each (item_a environs inputs) (breadth_items w)) s
  unfolding flat_b breadth_items each asked
  breadth_asks (bits n) g = alone _ _ _ refl refl
  breadth_asks (Breadth.typed p t) g = ends _ _ _ (type_item t g) (silent _ _ _ refl refl)

  amount_asks : (v : Amount) → PlacedAmount text v → Does test next s (flat_a v) (each (item_a environs inputs) (amount_items v)) s
  unfolding flat_a amount_items each item_a asked
  amount_asks (given n) g = alone _ _ _ refl refl
  amount_asks (value n) g = told (sym (append-nil _)) (names _ _ n environs refl g refl)

  pub expr_asks : (e : Expr) → PlacedExpr text e → Does test next s (flat e) (each (item_a environs inputs) (items e)) s
  unfolding flat items each item_a asked
  expr_asks (plain n) g = alone _ _ _ refl refl
  expr_asks (sized w v) g = join (breadth_items w) (amount_items v) (breadth_asks w g.0) (amount_asks v g.1)
  expr_asks (copies n e) g = ends _ _ _ (expr_asks e g) (silent _ _ _ refl refl)
  expr_asks (read n) g = told (sym (append-nil _)) (names _ _ n inputs refl g refl)
  expr_asks (cell n a) g = ends _ _ _ (expr_asks a g.1) (silent _ _ _ refl refl)
  expr_asks (bit e p i) g = ends _ _ _ (join (items e) (Item.type i ∷ []) (expr_asks e g.0) (type_item i g.1)) (silent _ _ _ refl refl)
  expr_asks (range e p i j) g = ends _ _ _ (join3 (items e) (Item.type i ∷ []) (Item.type j ∷ []) (expr_asks e g.0) (type_item i g.1) (type_item j g.2)) (silent _ _ _ refl refl)
  expr_asks (inside p e) g = ends _ _ _ (expr_asks e g) (silent _ _ _ refl refl)
  expr_asks (joined p e) g = ends _ _ _ (expr_asks e g) (silent _ _ _ refl refl)
  expr_asks (beside a b) g = ends _ _ _ (join (items a) (items b) (expr_asks a g.0) (expr_asks b g.1)) (silent _ _ _ refl refl)
  expr_asks (unary u e) g = ends _ _ _ (expr_asks e g) (silent _ _ _ refl refl)
  expr_asks (binary o a b) g = ends _ _ _ (join (items a) (items b) (expr_asks a g.0) (expr_asks b g.1)) (silent _ _ _ refl refl)
  expr_asks (choice c a b) g = ends _ _ _ (join3 (items c) (items a) (items b) (expr_asks c g.0) (expr_asks a g.1) (expr_asks b g.2)) (silent _ _ _ refl refl)
  expr_asks (either p c a b) g = ends _ _ _ (join3 (items c) (items a) (items b) (expr_asks c g.0) (expr_asks a g.1) (expr_asks b g.2)) (silent _ _ _ refl refl)
  expr_asks (select p e a) g = ends _ _ _ (join (items e) (items a) (ends _ _ _ (expr_asks e g.0) (silent _ _ _ refl refl)) (expr_asks a g.1)) (silent _ _ _ refl refl)
  expr_asks (arm n e r) g = ends _ _ _ (join (items e) (items r) (expr_asks e g.0) (expr_asks r g.1)) (silent _ _ _ refl refl)
  expr_asks (default p e) g = ends _ _ _ (expr_asks e g) (silent _ _ _ refl refl)
