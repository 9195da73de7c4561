-- The faulty places of an actor in the order of its settled items, by its names. Assumes nothing.
use mathlib.Core.Bool.{Bool, not, ◌&&◌, ◌||◌}
use mathlib.Core.List.{List, [], ◌∷◌, ◌++◌}
use Prim.Native.Nat.{ℕ}
use Rattle.language.specs.Text.{Name, among}
use Rattle.language.specs.Parts.{each, Item, reads, items, assigned}
use Rattle.language.specs.Names.{when}
use Rattle.language.specs.Presence.{output_of, outputs_of, assigned_in}
use Rattle.language.specs.Tree.{Expr, Entry, Assignment, Statement, alone, scoped, Rule, Group}
use Rattle.placed.proofs.Same.{pushed, some_onto}

-- an input that the rule does not list with `.p.1`
abbrev pub unready : (inputs required : List (List ℕ)) → List ℕ → Bool
unready inputs required n = among inputs n && not (among required n)

abbrev pub required_onto : List Entry → List (List ℕ) → List (List ℕ)
required_onto es l = some_onto (λ (e : Entry). e.present) (λ (e : Entry). e.called.spelled) es l

-- of outputs, where `dn` are those assigned before in the rule, `rq` those that it lists with `.p.1`, `er` those of earlier groups
unfoldable pub names_f : (rq er dn : List (List ℕ)) → List Name → List ℕ
names_f rq er dn [] = []
names_f rq er dn (n ∷ ns) = when ((not (among rq n.spelled) || among dn n.spelled) || among er n.spelled) n.at ++ names_f rq er (n.spelled ∷ dn) ns

module _ (inputs : List (List ℕ)) where
  unfoldable pub item_f : List (List ℕ) → Item → List ℕ
  item_f rq (Item.type t) = []
  item_f rq (Item.number n) = []
  item_f rq (reads n) = when (unready inputs rq n.spelled) n.at
  item_f rq (Item.value n) = []

  unfoldable pub expr_f : List (List ℕ) → Expr → List ℕ
  expr_f rq e = each (item_f rq) (items e)

  unfoldable pub assign_f : (rq er dn : List (List ℕ)) → Assignment → List ℕ
  assign_f rq er dn x = each (expr_f rq) (assigned x) ++ names_f rq er dn (output_of x)

  unfoldable pub assigns_f : (rq er dn : List (List ℕ)) → List Assignment → List ℕ
  assigns_f rq er dn [] = []
  assigns_f rq er dn (x ∷ l) = assign_f rq er dn x ++ assigns_f rq er (pushed (output_of x) dn) l

  unfoldable pub statement_f : (rq er dn : List (List ℕ)) → Statement → List ℕ
  statement_f rq er dn (alone x) = assign_f rq er dn x
  statement_f rq er dn (scoped vs l) = each (expr_f rq) (each (λ v. v.value ∷ []) vs) ++ assigns_f rq er dn l

  unfoldable pub body_f : (rq er dn : List (List ℕ)) → List Statement → List ℕ
  body_f rq er dn [] = []
  body_f rq er dn (s ∷ l) = statement_f rq er dn s ++ body_f rq er (pushed (outputs_of s) dn) l

  unfoldable pub rule_f : List (List ℕ) → Rule → List ℕ
  rule_f er r = body_f (required_onto r.list []) er [] r.body

  -- the outputs of a group are those of earlier groups to the next
  unfoldable pub groups_f : List (List ℕ) → List Group → List ℕ
  groups_f al [] = []
  groups_f al (g ∷ gs) = each (rule_f al) g.rules ++ groups_f (pushed (each assigned_in g.rules) al) gs
