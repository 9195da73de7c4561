-- The faulty places in the order of the settled items are the places of the definition. Assumes nothing.
-- Each part's places fall into two: those of the names that it reads, and those of the outputs that it assigns; a rule's then into those of the rule, and those that earlier groups assign.
use mathlib.Core.Path.{◌≡◌, refl, sym, ap, ◌∙◌}
use mathlib.Core.Bool.{Bool, true, false, not, ◌&&◌, ◌||◌}
use mathlib.Core.List.{List, [], ◌∷◌, ◌++◌, append_assoc, append-nil}
use Prim.Native.Nat.{ℕ}
use Rattle.language.specs.Text.{Name, among}
use Rattle.language.specs.Parts.{each, Item, reads, items, assigned, wholes, read_names}
use Rattle.language.specs.Names.{when, clashing, missing, repeated, input_names}
use Rattle.language.specs.Presence.{present_names, output_of, outputs_of, assigned_in, read_in, inputs_in, rule_presence, group_presence, presence_faults}
use Rattle.language.specs.Tree.{Expr, Entry, Val, Assignment, Statement, alone, scoped, Rule, Group, Actor, spelled_of}
use Rattle.placed.proofs.Every.{each_append}
use Rattle.placed.proofs.Same.{pushed, Same, is, equal, then, beside, mix, Split, both, first, of, into, split_each, when_or, each_as, each_each, or_false, among_append, among_pushed, among_some}
use Rattle.row12_presence.proofs.Places.{unready, required_onto, names_f, item_f, expr_f, assign_f, assigns_f, statement_f, body_f, rule_f, groups_f}

-- ---- outputs

names_append : (rq er dn : List (List ℕ)) (x y : List Name) → names_f rq er dn (x ++ y) ≡ names_f rq er dn x ++ names_f rq er (pushed x dn) y
unfolding names_f pushed
names_append rq er dn [] y = refl
names_append rq er dn (n ∷ x) y =
    let here = when ((not (among rq n.spelled) || among dn n.spelled) || among er n.spelled) n.at in
    ap (λ (r : List ℕ). here ++ r) (names_append rq er (n.spelled ∷ dn) x y) ∙ sym (append_assoc here (names_f rq er (n.spelled ∷ dn) x) (names_f rq er (pushed x (n.spelled ∷ dn)) y))

-- a name by its three tests
three : (b c d : Bool) (p : ℕ) → Split (when ((b || c) || d) p) (when b p ++ when c p) (when d p)
three b c d p = record { parts = then (when_or (b || c) d p) (beside (when_or b c p) (equal (when d p))) }

module _ (rq ps er : List (List ℕ)) (h : (s : List ℕ) → among rq s ≡ among ps s) where
  names_same : (dn : List (List ℕ)) (ns : List Name) → Split (names_f rq er dn ns) (missing ps ns ++ repeated dn ns) (clashing er ns)
  unfolding names_f missing repeated clashing each
  names_same dn [] = first []
  names_same dn (n ∷ ns) =
      into (mix (when (not (among ps n.spelled)) n.at) (when (among dn n.spelled) n.at) (missing ps ns) (repeated (n.spelled ∷ dn) ns)) (equal _)
      (both (of (is (ap (λ (b : Bool). when ((not b || among dn n.spelled) || among er n.spelled) n.at) (h n.spelled))) (three (not (among ps n.spelled)) (among dn n.spelled) (among er n.spelled) n.at)) (names_same (n.spelled ∷ dn) ns))

-- the ports that a rule lists with `.p.1`
required : (r : Rule) (s : List ℕ) → among (required_onto r.list []) s ≡ among (present_names r) s
unfolding present_names among
required r s = among_some s (λ (e : Entry). e.present) (λ (e : Entry). e.called.spelled) r.list [] ∙ or_false _

-- ---- names that are read

module _ (all rq er : List (List ℕ)) where
  -- the place of a name that is at fault where it is read
  abbrev read_at : Name → List ℕ
  read_at n = when (unready all rq n.spelled) n.at

  items_read : (l : List Item) → each (item_f all rq) l ≡ each read_at (read_names l)
  unfolding each item_f read_names
  items_read [] = refl
  items_read (Item.type t ∷ l) = items_read l
  items_read (Item.number n ∷ l) = items_read l
  items_read (reads n ∷ l) = ap (λ (r : List ℕ). read_at n ++ r) (items_read l)
  items_read (Item.value n ∷ l) = items_read l

  abbrev read_f : List Name → List ℕ
  read_f ns = each read_at ns

  abbrev in_exprs : List Expr → List Name
  in_exprs l = each (λ (e : Expr). read_names (items e)) l

  exprs_same : (l : List Expr) → each (expr_f all rq) l ≡ read_f (in_exprs l)
  unfolding expr_f
  exprs_same l = each_as _ _ (λ e. items_read (items e)) l ∙ sym (each_each read_at (λ (e : Expr). read_names (items e)) (each_append read_at) l)

  -- two parts, one after the other
  join : {f g : List ℕ} (dn : List (List ℕ)) (x y : List Name) (m n : List Name) → Split f (read_f x) (names_f rq er dn m) → Split g (read_f y) (names_f rq er (pushed m dn) n) → Split (f ++ g) (read_f (x ++ y)) (names_f rq er dn (m ++ n))
  join dn x y m n s t = into (is (sym (each_append read_at x y))) (is (sym (names_append rq er dn m n))) (both s t)

  assign_same : (dn : List (List ℕ)) (x : Assignment) → Split (assign_f all rq er dn x) (read_f (in_exprs (assigned x))) (names_f rq er dn (output_of x))
  unfolding assign_f
  assign_same dn x = record { parts = is (ap (λ (r : List ℕ). r ++ names_f rq er dn (output_of x)) (exprs_same (assigned x))) }

  assigns_same : (dn : List (List ℕ)) (l : List Assignment) → Split (assigns_f all rq er dn l) (read_f (in_exprs (each assigned l))) (names_f rq er dn (each output_of l))
  unfolding assigns_f each names_f
  assigns_same dn [] = first []
  assigns_same dn (x ∷ l) =
      into (is (ap (each read_at) (sym (each_append (λ (e : Expr). read_names (items e)) (assigned x) (each assigned l))))) (equal _)
      (join dn (in_exprs (assigned x)) (in_exprs (each assigned l)) (output_of x) (each output_of l) (assign_same dn x) (assigns_same (pushed (output_of x) dn) l))

  statement_same : (dn : List (List ℕ)) (x : Statement) → Split (statement_f all rq er dn x) (read_f (in_exprs (wholes x))) (names_f rq er dn (outputs_of x))
  unfolding statement_f wholes outputs_of
  statement_same dn (alone x) = assign_same dn x
  statement_same dn (scoped vs l) =
      into (is (ap (each read_at) (sym (each_append (λ (e : Expr). read_names (items e)) values (each assigned l))))) (equal _)
      (into (is (sym (each_append read_at (in_exprs values) (in_exprs (each assigned l))))) (equal _) (both (of (is (exprs_same values)) (first (read_f (in_exprs values)))) (assigns_same dn l)))
    where
      values : List Expr
      values = each (λ (v : Val). v.value ∷ []) vs

  body_same : (dn : List (List ℕ)) (l : List Statement) → Split (body_f all rq er dn l) (read_f (each (λ (s : Statement). in_exprs (wholes s)) l)) (names_f rq er dn (each outputs_of l))
  unfolding body_f each names_f
  body_same dn [] = first []
  body_same dn (x ∷ l) = join dn (in_exprs (wholes x)) (each (λ (s : Statement). in_exprs (wholes s)) l) (outputs_of x) (each outputs_of l) (statement_same dn x) (body_same (pushed (outputs_of x) dn) l)

-- ---- rules and groups

module _ (a : Actor) where
  abbrev all : List (List ℕ)
  all = input_names a.ports

  -- of the names read those that are inputs
  kept : (ps : List (List ℕ)) (n : Name) (b : Bool) → when (b && not (among ps n.spelled)) n.at ≡ missing ps (elim b as (λ (x : Bool). List Name) [ true ↦ n ∷ [] | false ↦ [] ])
  unfolding missing each when
  kept ps n true = sym (append-nil _)
  kept ps n false = refl

  reads_same : (rq ps : List (List ℕ)) → ((s : List ℕ) → among rq s ≡ among ps s) → (ns : List Name) → each (read_at all rq []) ns ≡ missing ps (each (λ (n : Name). elim (among (input_names a.ports) n.spelled) as (λ (x : Bool). List Name) [ true ↦ n ∷ [] | false ↦ [] ]) ns)
  unfolding missing
  reads_same rq ps g ns =
      each_as _ _ (λ n. ap (λ (y : Bool). when (among all n.spelled && not y) n.at) (g n.spelled) ∙ kept ps n (among (input_names a.ports) n.spelled)) ns
      ∙ sym (each_each (λ (n : Name). when (not (among ps n.spelled)) n.at) _ (each_append (λ (n : Name). when (not (among ps n.spelled)) n.at)) ns)

  rule_same : (er : List (List ℕ)) (r : Rule) → Split (rule_f all er r) (rule_presence a r) (clashing er (assigned_in r))
  unfolding rule_f rule_presence inputs_in read_in assigned_in
  rule_same er r =
      record {
        parts = then (body_same all (required_onto r.list []) er [] r.body).parts (then (beside (is (reads_same (required_onto r.list []) (present_names r) (required r) (read_in r))) (names_same (required_onto r.list []) (present_names r) er (required r) [] (assigned_in r)).parts)
            (is (sym (append_assoc (missing (present_names r) (inputs_in a r)) (missing (present_names r) (assigned_in r) ++ repeated [] (assigned_in r)) (clashing er (assigned_in r))))));
      }

  groups_same : (al seen : List (List ℕ)) → ((s : List ℕ) → among al s ≡ among seen s) → (gs : List Group) → Split (groups_f all al gs) (each (λ (g : Group). each (rule_presence a) g.rules) gs) (group_presence seen gs)
  unfolding groups_f group_presence each clashing
  groups_same al seen e [] = first []
  groups_same al seen e (g ∷ gs) =
      both (into (equal _) (is clash) (split_each (rule_f all al) (rule_presence a) (λ (r : Rule). clashing al (assigned_in r)) (rule_same al) g.rules)) (groups_same (pushed names al) (spelled_of names ++ seen) more gs)
    where
      names : List Name
      names = each assigned_in g.rules

      clash : each (λ (r : Rule). clashing al (assigned_in r)) g.rules ≡ clashing seen names
      clash = sym (each_each (λ (n : Name). when (among al n.spelled) n.at) assigned_in (each_append (λ (n : Name). when (among al n.spelled) n.at)) g.rules) ∙ each_as _ _ (λ n. ap (λ (b : Bool). when b n.at) (e n.spelled)) names

      more : (s : List ℕ) → among (pushed names al) s ≡ among (spelled_of names ++ seen) s
      more s = among_pushed s names al ∙ ap (λ (b : Bool). among (spelled_of names) s || b) (e s) ∙ sym (among_append s (spelled_of names) seen)

  pub actor_same : Same (groups_f all [] a.groups) (presence_faults a)
  unfolding presence_faults
  actor_same = (groups_same [] [] (λ s. refl) a.groups).parts
