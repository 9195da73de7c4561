-- An actor of which rows 6 to 8 and 10 find no fault: its numbers are small, and each of its types keeps the rules where it stands. Assumes nothing.
use mathlib.Core.Path.{◌≡◌, refl, ap, subst}
use mathlib.Core.Bool.{not, ◌&&◌}
use mathlib.Core.List.{List, [], ◌∷◌, ◌++◌}
use mathlib.Core.Option.{some}
use Prim.Native.Nat.{ℕ, suc, ◌+◌, ◌≤◌}
use native.Mathlib.Omega.{arith}
use lib.Dec.{leb}
use lib.ListN.{length, drop}
use borrow.Author.Tests.{leb-true}
use Rattle.language.specs.Limits.{limits}
use Rattle.language.specs.Text.{Name}
use Rattle.language.specs.Words.{Word}
use Rattle.language.specs.Tree.{Ty, Port, Memory, Val, Assignment, Statement, alone, scoped, Rule, Group, Actor, spelled_of, memory_names}
use Rattle.language.specs.Parts.{each, Item, types, items, declared_items, assigned, wholes, val_items, statements, actor_items}
use Rattle.language.specs.Names.{when}
use Rattle.language.specs.Counts.{size_of, size_place, size_faults, val_names, rules_of, too_many, limit_faults, type_words}
use Rattle.language.specs.Bindings.{Bindings}
use Rattle.language.specs.Widths.{value_in, Resolved}
use Rattle.language.specs.Sizes.{Setting}
use Rattle.placed.specs.Placed.{Every, PlacedVal, PlacedAssignment, PlacedStatement, PlacedRule, PlacedGroup, PlacedPort, PlacedMemory, PlacedActor}
use Rattle.placed.proofs.Every.{append_nils, each_append, every_nil, every_map, every_both, every_each}
use Rattle.placed.proofs.Placed.{placed}
use Rattle.placed.proofs.Worded.{parsed_short}
use Rattle.typing.proofs.Rules.{passed, type_right}
use Rattle.typing.proofs.Accepted.{All, RightType, types_right}
use Rattle.tape.proofs.Listed.{in_statement}
use Rattle.bits.proofs.Sets.{both_right}
use Rattle.bindings.specs.declared.bound.Bound.{Bound}
use Rattle.row10_widths.specs.Row.{Asked}
use Rattle.row10_widths.proofs.Whole.{every_all, not_too_many, memory_names_law, low_values, few_ports, few_memories, wants_long}
use Rattle.looked_up.specs.Lookup.{sum_of}
use Rattle.settle.proofs.Settings.{sizes_of, Small, Right}
use Rattle.settle.proofs.Expressions.{halves}
use Rattle.settle.proofs.Statements.{RightExpr, RightVal, RightStatement, RightRule}
use Rattle.settle.proofs.Actors.{RightActor}

-- ---- three facts of each of a list

every_three : {T : Type 0} (P Q R X : T → Type 0) → ((x : T) → P x → Q x → R x → X x) → (l : List T) → Every P l → Every Q l → Every R l → Every X l
every_three P Q R X f [] p q r = tt
every_three P Q R X f (x ∷ l) p q r = (f x p.0 q.0 r.0, every_three P Q R X f l p.1 q.1 r.1)

-- ---- from the types of all items to those of each part

module _ (P : Ty → Type 0) where
  in_each : {T : Type 0} (f : T → List Item) (l : List T) → Every P (types (each f l)) → Every (λ (x : T). Every P (types (f x))) l
  unfolding each
  in_each f [] h = tt
  in_each f (x ∷ l) h = let q = halves P (f x) (each f l) h in (q.0, in_each f l q.1)

  -- the values of `val`s
  in_values : (vs : List Val) → Every P (types (each items (each (λ (v : Val). v.value ∷ []) vs))) → Every (λ (v : Val). Every P (types (items v.value))) vs
  unfolding each
  in_values [] h = tt
  in_values (v ∷ vs) h = let q = halves P (items v.value) _ h in (q.0, in_values vs q.1)

module _ (text : List ℕ) (s : Setting) where
  abbrev Types : List Item → Type 0
  Types l = Every (Right s) (types l)

  statement_right : (x : Statement) → PlacedStatement text x → Types (in_statement x) → RightStatement text s x
  unfolding val_items wholes
  statement_right (alone x) h r = (h, in_each (Right s) items (assigned x) r)
  statement_right (scoped vs xs) h r =
      let values = each (λ (v : Val). v.value ∷ []) vs in
      let q = halves (Right s) (each (λ (v : Val). declared_items v.type) vs) (each items (values ++ each assigned xs)) r in
      let u = halves (Right s) (each items values) (each items (each assigned xs)) (subst (λ (l : List Item). Types l) (each_append items values (each assigned xs)) q.1) in (
        every_three (PlacedVal text) (λ (v : Val). Types (declared_items v.type)) (λ (v : Val). Types (items v.value)) (RightVal text s) (λ v a b c. record { placed = a; type = b; value = c }) vs h.0 (in_each (Right s) (λ (v : Val). declared_items v.type) vs q.0) (in_values (Right s) vs u.0),
        every_both (PlacedAssignment text) (λ (x : Assignment). Every (RightExpr text s) (assigned x)) xs h.1 (every_each (RightExpr text s) assigned xs (in_each (Right s) items (each assigned xs) u.1)),
      )

  abbrev FewVals : Rule → Type 0
  FewVals r = too_many limits.vals (each val_names r.body) ≡ []

  rule_right : (r : Rule) → PlacedRule text r → Every (λ (x : Statement). Types (in_statement x)) r.body → FewVals r → RightRule text s r
  rule_right r h q f =
      record {
        list = h.list;
        body = every_map _ _ (λ x y. statement_right x y.0 y.1) r.body (every_both (PlacedStatement text) (λ (x : Statement). Types (in_statement x)) r.body h.body q);
        few = not_too_many 16 (each val_names r.body) f;
      }

  group_right : (g : Group) → PlacedGroup text g → Every (λ (x : Statement). Types (in_statement x)) (each (λ (r : Rule). r.body) g.rules) → Every FewVals g.rules → Every (RightRule text s) g.rules
  group_right g h q f = every_three (PlacedRule text) (λ (r : Rule). Every (λ (x : Statement). Types (in_statement x)) r.body) FewVals (RightRule text s) rule_right g.rules h (every_each (λ (x : Statement). Types (in_statement x)) (λ (r : Rule). r.body) g.rules q) f

  actor_right : PlacedActor text s.actor → Types (actor_items s.actor) → Every FewVals (rules_of s.actor) → RightActor text s
  unfolding actor_items statements rules_of
  actor_right h r f =
      let a = s.actor in
      let ports = each (λ (p : Port). declared_items p.type) a.ports in
      let memories = each (λ (m : Memory). declared_items m.type) a.memories in
      let q = halves (Right s) ports (memories ++ each in_statement (statements a)) r in
      let u = halves (Right s) memories (each in_statement (statements a)) q.1 in
      record {
        signature = h.signature;
        ports = every_map _ _ (λ p x. (x.0.type, x.1)) a.ports (every_both (PlacedPort text) (λ (p : Port). Types (declared_items p.type)) a.ports h.ports (in_each (Right s) (λ (p : Port). declared_items p.type) a.ports q.0));
        memories = every_map _ _ (λ m x. ((x.0.type, x.1), x.0.called)) a.memories (every_both (PlacedMemory text) (λ (m : Memory). Types (declared_items m.type)) a.memories h.memories (in_each (Right s) (λ (m : Memory). declared_items m.type) a.memories u.0));
        groups = every_three (PlacedGroup text) (λ (g : Group). Every (λ (x : Statement). Types (in_statement x)) (each (λ (r : Rule). r.body) g.rules)) (λ (g : Group). Every FewVals g.rules) (λ (g : Group). Every (RightRule text s) g.rules) group_right a.groups h.groups
            (every_each (λ (x : Statement). Types (in_statement x)) (λ (g : Group). each (λ (r : Rule). r.body) g.rules) a.groups (in_each (Right s) in_statement (statements a) u.1)) (every_each FewVals (λ (g : Group). g.rules) a.groups f);
      }

-- ---- row 7

spelled_long : (ns : List Name) → length (spelled_of ns) ≡ length ns
unfolding spelled_of
spelled_long [] = refl
spelled_long (n ∷ ns) = ap suc (spelled_long ns)

sizes_fit : (sum : ℕ) (ms : List Memory) → sum ≤ 256 → size_faults sum ms ≡ [] → sum + sum_of (sizes_of ms) ≤ 256
unfolding size_faults sum_of sizes_of
sizes_fit sum [] h e = omega arith
sizes_fit sum (m ∷ ms) h e =
    let q = append_nils (when (not (leb 1 (size_of m) && leb (size_of m) 256 && leb (sum + size_of m) 256)) (size_place m)) (size_faults (sum + size_of m) ms) e in
    let f = leb-true (sum + size_of m) 256 (both_right (leb 1 (size_of m) && leb (size_of m) 256) _ (passed _ (size_place m) q.0)) in
    let r = sizes_fit (sum + size_of m) ms f q.1 in
    omega arith

-- what row 7 says of memories' sizes and of `val`s
few_of : (ws : List Word) (a : Actor) → limit_faults ws a ≡ [] → (size_faults 0 a.memories ≡ []) × Every (λ (r : Rule). too_many limits.vals (each val_names r.body) ≡ []) (rules_of a)
unfolding limit_faults
few_of ws a h =
    let b = append_nils (too_many 16 a.signature) _ h in
    let c = append_nils (too_many 8 (memory_names a.memories)) _ b.1 in
    let d = append_nils (size_faults 0 a.memories) _ c.1 in
    let e = append_nils (each (λ g. g.at ∷ []) (drop 8 a.groups)) _ d.1 in
    let f = append_nils (too_many 32 (each (λ r. r.called ∷ []) (rules_of a))) _ e.1 in
    let g = append_nils (each (λ r. too_many 16 (each val_names r.body)) (rules_of a)) _ f.1 in
    (d.0, every_nil (λ (r : Rule). too_many 16 (each val_names r.body)) (rules_of a) g.0)

-- ---- what was asked

module _ (text t : List ℕ) (n : ℕ) (bound : Bound) {ws : List Word} {a : Actor} {b : Bindings} (low : n ≤ length t) (h : Asked text t n bound ws a b) (widths : List ℕ) (r : Resolved a b (some widths)) where
  abbrev S : Setting
  S = record { actor = a; bindings = b; widths = widths }

  pub asked_small : Small S
  asked_small =
      let p = few_ports text t n bound low h in
      let q = few_memories text t n bound low h in
      let l = wants_long text t n bound low h in
      let e = r.satisfies.long in
      record {
        ports = let x = spelled_long a.signature in omega arith;
        memories = let x = spelled_long (memory_names a.memories) in let y = memory_names_law a.memories in omega arith;
        cells = let x = sizes_fit 0 a.memories (omega arith) (few_of ws a h.passed.limited).0 in omega arith;
        unknowns = omega arith;
        widths = r.satisfies.small;
      }

  type_is : (u : Ty) → RightType a b u → Right S u
  type_is u y = type_right (spelled_of a.signature) (length widths) (let l = wants_long text t n bound low h in let e = r.satisfies.long in let x = spelled_long a.signature in omega arith) (value_in b.values) (low_values text t n bound low h) u y.0 y.1 y.2

  types_are : (l : List Ty) → All (RightType a b) l → Every (Right S) l
  types_are [] y = tt
  types_are (u ∷ l) y = (type_is u y.0, types_are l y.1)

  pub asked_right : RightActor text S
  asked_right =
      actor_right text S (placed h.tells.lexed h.tells.parses)
      (types_are (types (actor_items a)) (types_right a b h.passed.names h.passed.typed (every_all {A = Ty} (λ (u : Ty). type_words u ≤ 64) (types (actor_items a)) (parsed_short ws h.tells.parses h.passed.limited).in_types)))
      (few_of ws a h.passed.limited).1
