-- What the walk does on each part of an actor: its faulty places, in the order of the tape, and the names that it adds. Assumes nothing.
use mathlib.Core.Path.{refl, sym, ap, ◌∙◌}
use mathlib.Core.Bool.{not, ◌||◌}
use mathlib.Core.List.{List, [], ◌∷◌, ◌++◌, append_assoc, append-nil}
use Prim.Native.Nat.{ℕ}
use Rattle.language.specs.Text.{Name, among}
use Rattle.language.specs.Parts.{each, Item, reads, items, breadth_items, amount_items, declared_items}
use Rattle.language.specs.Names.{when}
use Rattle.language.specs.Tree.{Ty, number, environment, port, plus, minus, log, ceil, floor, most, entry, within, Breadth, bits, Amount, given, value}
use Rattle.language.specs.Tree.{Expr, plain, sized, copies, read, cell, bit, range, inside, joined, beside, unary, binary, choice, either, select, arm, default}
use Rattle.language.specs.Tree.{Declared, Port, Memory, Entry, Val, Assignment, assign, write, Statement, alone, scoped, Rule, Group, Actor, port_names}
use Rattle.placed.specs.Placed.{name_from, PlacedType, PlacedBreadth, PlacedAmount, PlacedExpr}
use Rattle.placed.proofs.Every.{each_append}
use Rattle.tape.specs.Tape.{flat_t, flat_b, flat_a, flat}
use Rattle.tape.specs.Walk.{hit, add}
use Rattle.row06_names.specs.Walk.{Seen, test}
use Rattle.tape.proofs.Does.{Does, told, both, single, ends}
use Rattle.tape.proofs.Seens.{reset}
use Rattle.placed.proofs.Same.{pushed}
use Rattle.row06_names.proofs.Seens.{next}

-- ---- the faulty places, in the order of the tape

unfoldable pub val_names : List Val → List Name
val_names [] = []
val_names (v ∷ vs) = v.called ∷ val_names vs

module _ (all : Seen) where
  unfoldable pub ty_f : Ty → List ℕ
  ty_f (number n) = []
  ty_f (environment n) = when (among all.taken n.spelled) n.at
  ty_f (port n) = when (not (among all.declared n.spelled)) n.at
  ty_f (plus a b) = ty_f a ++ ty_f b
  ty_f (minus a b) = ty_f a ++ ty_f b
  ty_f (log p a) = ty_f a
  ty_f (ceil p a) = ty_f a
  ty_f (floor p a) = ty_f a
  ty_f (most p a) = ty_f a
  ty_f (entry a b) = ty_f a ++ ty_f b
  ty_f (within p a) = ty_f a

  -- of types and environment names; of what is read
  unfoldable pub kind_f : Item → List ℕ
  kind_f (Item.type t) = ty_f t
  kind_f (Item.number n) = []
  kind_f (reads n) = []
  kind_f (Item.value n) = when (among all.taken n.spelled) n.at

  unfoldable pub read_f : List (List ℕ) → Item → List ℕ
  read_f lets (Item.type t) = []
  read_f lets (Item.number n) = []
  read_f lets (reads n) = when (not (among all.inputs n.spelled || among lets n.spelled)) n.at
  read_f lets (Item.value n) = []

  unfoldable pub item_f : List (List ℕ) → Item → List ℕ
  item_f lets x = kind_f x ++ read_f lets x

  unfoldable pub expr_f : List (List ℕ) → Expr → List ℕ
  expr_f lets e = each (item_f lets) (items e)

  unfoldable pub decl_f : Declared → List ℕ
  decl_f d = each kind_f (declared_items d)

  unfoldable pub vals_f : List (List ℕ) → List Val → List ℕ
  vals_f lets [] = []
  vals_f lets (v ∷ vs) =
      ((decl_f v.type ++ expr_f lets v.value) ++ when (among lets v.called.spelled || among all.taken v.called.spelled) v.called.at) ++ vals_f (v.called.spelled ∷ lets) vs

  unfoldable pub assign_f : List (List ℕ) → Assignment → List ℕ
  assign_f lets (assign n e) = expr_f lets e ++ when (not (among all.outputs n.spelled)) n.at
  assign_f lets (write n x e) = expr_f lets x ++ expr_f lets e

  unfoldable pub statement_f : Statement → List ℕ
  statement_f (alone x) = assign_f [] x
  statement_f (scoped vs l) = vals_f [] vs ++ each (assign_f (pushed (val_names vs) [])) l

  unfoldable pub entries_f : List (List ℕ) → List Entry → List ℕ
  entries_f ps [] = []
  entries_f ps (e ∷ es) = when (not (among all.declared e.called.spelled) || among ps e.called.spelled) e.called.at ++ entries_f (e.called.spelled ∷ ps) es

  unfoldable pub rule_f : Rule → List ℕ
  rule_f r = entries_f [] r.list ++ each statement_f r.body

  unfoldable pub group_f : Group → List ℕ
  group_f g = each rule_f g.rules

  unfoldable pub sign_f : List (List ℕ) → List Name → List ℕ
  sign_f l [] = []
  sign_f l (n ∷ ns) = when (among l n.spelled || not (among all.declared n.spelled)) n.at ++ sign_f (n.spelled ∷ l) ns

  unfoldable pub ports_f : List (List ℕ) → List Port → List ℕ
  ports_f l [] = []
  ports_f l (p ∷ ps) = (decl_f p.type ++ when (not (among all.signed p.called.spelled) || among l p.called.spelled) p.called.at) ++ ports_f (p.called.spelled ∷ l) ps

  unfoldable pub memories_f : List (List ℕ) → List Memory → List ℕ
  memories_f l [] = []
  memories_f l (m ∷ ms) = (decl_f m.type ++ when (among l m.called.spelled) m.called.at) ++ memories_f (m.called.spelled ∷ l) ms

  unfoldable pub actor_f : Actor → List ℕ
  actor_f a = ((sign_f [] a.signature ++ ports_f [] a.ports) ++ memories_f (pushed (port_names a.ports) []) a.memories) ++ each group_f a.groups

-- ---- what the walk of row 6 does on a list of numbers, whatever stands before and after it

abbrev pub DoesAll : (text : List ℕ) → (all s : Seen) → (a f : List ℕ) → Seen → Type 0
DoesAll text all s a f s' = Does (λ s o p v. test all s o (name_from text p)) (next text) s a f s'

module _ (text : List ℕ) (all : Seen) where
  -- ---- types and expressions

  module _ (s : Seen) where
    pub type_does : (t : Ty) → PlacedType text t → DoesAll text all s (flat_t t) (ty_f all t) s
    unfolding flat_t ty_f test next hit add reset when
    type_does (number n) h = single _ _ _ refl refl
    type_does (environment n) h = single _ _ _ (ap (among all.taken) (sym h)) refl
    type_does (port n) h = single _ _ _ (ap (λ (l : List ℕ). not (among all.declared l)) (sym h)) refl
    type_does (plus a b) h = ends _ _ _ (both (type_does a h.0) (type_does b h.1)) (refl, refl)
    type_does (minus a b) h = ends _ _ _ (both (type_does a h.0) (type_does b h.1)) (refl, refl)
    type_does (log p a) h = ends _ _ _ (type_does a h) (refl, refl)
    type_does (ceil p a) h = ends _ _ _ (type_does a h) (refl, refl)
    type_does (floor p a) h = ends _ _ _ (type_does a h) (refl, refl)
    type_does (most p a) h = ends _ _ _ (type_does a h) (refl, refl)
    type_does (entry a b) h = ends _ _ _ (both (type_does a h.0) (type_does b h.1)) (refl, refl)
    type_does (within p a) h = ends _ _ _ (type_does a h) (refl, refl)

    type_item : (t : Ty) → PlacedType text t → DoesAll text all s (flat_t t) (each (item_f all s.vals) (Item.type t ∷ [])) s
    unfolding each item_f kind_f read_f
    type_item t h = told (sym (append-nil (ty_f all t ++ []) ∙ append-nil (ty_f all t))) (type_does t h)

    join : {a b : List ℕ} (x y : List Item) → DoesAll text all s a (each (item_f all s.vals) x) s → DoesAll text all s b (each (item_f all s.vals) y) s → DoesAll text all s (a ++ b) (each (item_f all s.vals) (x ++ y)) s
    join x y d e = told (sym (each_append (item_f all s.vals) x y)) (both d e)

    join3 : {a b c : List ℕ} (x y z : List Item) → DoesAll text all s a (each (item_f all s.vals) x) s → DoesAll text all s b (each (item_f all s.vals) y) s → DoesAll text all s c (each (item_f all s.vals) z) s → DoesAll text all s ((a ++ b) ++ c) (each (item_f all s.vals) (x ++ (y ++ z))) s
    join3 x y z d e f = told (ap (each (item_f all s.vals)) (append_assoc x y z)) (join (x ++ y) z (join x y d e) f)

    breadth_does : (w : Breadth) → PlacedBreadth text w → DoesAll text all s (flat_b w) (each (item_f all s.vals) (breadth_items w)) s
    unfolding flat_b breadth_items each test next hit add reset when
    breadth_does (bits n) h = single _ _ _ refl refl
    breadth_does (Breadth.typed p t) h = ends _ _ _ (type_item t h) (refl, refl)

    amount_does : (v : Amount) → PlacedAmount text v → DoesAll text all s (flat_a v) (each (item_f all s.vals) (amount_items v)) s
    unfolding flat_a amount_items each item_f kind_f read_f test next hit add reset when
    amount_does (given n) h = single _ _ _ refl refl
    amount_does (value n) h = told (sym (append-nil _ ∙ append-nil _)) (single _ _ _ (ap (among all.taken) (sym h)) refl)

    pub expr_does : (e : Expr) → PlacedExpr text e → DoesAll text all s (flat e) (each (item_f all s.vals) (items e)) s
    unfolding flat items each item_f kind_f read_f test next hit add reset when
    expr_does (plain n) h = single _ _ _ refl refl
    expr_does (sized w v) h = join (breadth_items w) (amount_items v) (breadth_does w h.0) (amount_does v h.1)
    expr_does (copies n e) h = ends _ _ _ (expr_does e h) (refl, refl)
    expr_does (read n) h = told (sym (append-nil _)) (single _ _ _ (ap (λ (l : List ℕ). not (among all.inputs l || among s.vals l)) (sym h)) refl)
    expr_does (cell n a) h = ends _ _ _ (expr_does a h.1) (refl, refl)
    expr_does (bit e p i) h = ends _ _ _ (join (items e) (Item.type i ∷ []) (expr_does e h.0) (type_item i h.1)) (refl, refl)
    expr_does (range e p i j) h = ends _ _ _ (join3 (items e) (Item.type i ∷ []) (Item.type j ∷ []) (expr_does e h.0) (type_item i h.1) (type_item j h.2)) (refl, refl)
    expr_does (inside p e) h = ends _ _ _ (expr_does e h) (refl, refl)
    expr_does (joined p e) h = ends _ _ _ (expr_does e h) (refl, refl)
    expr_does (beside a b) h = ends _ _ _ (join (items a) (items b) (expr_does a h.0) (expr_does b h.1)) (refl, refl)
    expr_does (unary u e) h = ends _ _ _ (expr_does e h) (refl, refl)
    expr_does (binary o a b) h = ends _ _ _ (join (items a) (items b) (expr_does a h.0) (expr_does b h.1)) (refl, refl)
    expr_does (choice c a b) h = ends _ _ _ (join3 (items c) (items a) (items b) (expr_does c h.0) (expr_does a h.1) (expr_does b h.2)) (refl, refl)
    expr_does (either p c a b) h = ends _ _ _ (join3 (items c) (items a) (items b) (expr_does c h.0) (expr_does a h.1) (expr_does b h.2)) (refl, refl)
    expr_does (select p e a) h = ends _ _ _ (join (items e) (items a) (ends _ _ _ (expr_does e h.0) (refl, refl)) (expr_does a h.1)) (refl, refl)
    expr_does (arm n e r) h = ends _ _ _ (join (items e) (items r) (expr_does e h.0) (expr_does r h.1)) (refl, refl)
    expr_does (default p e) h = ends _ _ _ (expr_does e h) (refl, refl)
