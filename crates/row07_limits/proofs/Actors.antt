-- What the walk does on statements, rules, declarations and the whole actor: the room that it leaves, and the faults, whatever their order. Assumes nothing.
use mathlib.Core.Path.{◌≡◌, refl, sym, ap, ap₂, ◌∙◌, subst}
use mathlib.Core.Bool.{Bool, true, false}
use mathlib.Core.List.{List, [], ◌∷◌, ◌++◌, append_assoc, append-nil}
use Prim.Native.Nat.{ℕ, zero, suc, ◌-◌}
use native.Mathlib.Omega.{arith}
use lib.Dec.{eqb}
use lib.ListN.{length, drop, length-append}
use borrow.Author.Tests.{ne_eqb}
use Rattle.language.specs.Text.{Name}
use Rattle.language.specs.Limits.{limits}
use Rattle.language.specs.Names.{when}
use Rattle.language.specs.Parts.{each, Item, items, declared_items, assigned, wholes, val_items}
use Rattle.language.specs.Counts.{too_many, val_names}
use Rattle.language.specs.Tree.{Ty, number, environment, port, plus, minus, log, ceil, floor, most, entry, within, Expr}
use Rattle.language.specs.Tree.{Declared, untyped, Entry, Val, Assignment, assign, write, Statement, alone, scoped, Rule, Group}
use Rattle.tape.specs.Tape.{item, LET, END, RULE, RULED, OR, GROUPED, flat_d, is_typed, flat_val, flat_assignment, flats, flat_statement, flat_entry, flat_rule, flat_group}
use Rattle.placed.proofs.Every.{each_append}
use Rattle.placed.proofs.Same.{Same, is, equal, then, split_each, each_each}
use Rattle.row07_limits.specs.declared.Room.{Room}
use Rattle.part_lengths.specs.Parts.{Triple, held_in}
use Rattle.row07_limits.specs.Walk.{in_type, last_limit, other_limit, size_in, size_place_in, full_for, bad_size, left_of, again_of, next_room, item_faults}
use Rattle.row07_limits.proofs.Sums.{nth, ◌⊕◌, nil, same_sum}
use Rattle.row07_limits.proofs.Wholes.{it, onto_t, onto, type_whole, expr_whole}
use Rattle.row07_limits.proofs.Runs.{Does, told, none, both, single, type_f, whole_f, thing_f, things, held_last, held_both, type_does, expr_does}

-- ---- names past a number

pub too_none : (k : ℕ) → too_many k [] ≡ []
unfolding too_many each
too_none zero = refl
too_none (suc k) = refl

pub too_more : (k : ℕ) (n : Name) (ns : List Name) → too_many k (n ∷ ns) ≡ when (eqb k 0) n.at ++ too_many (k - 1) ns
unfolding too_many each when
too_more zero n ns = refl
too_more (suc k) n ns =
    let e : suc k - 1 ≡ k = omega arith in
    sym (ap₂ (λ (b : Bool) (j : ℕ). when b n.at ++ too_many j ns) (ne_eqb (suc k) 0 (λ d. omega arith)) e)

too_append : (k : ℕ) (a b : List Name) → too_many k (a ++ b) ≡ too_many k a ++ too_many (k - length a) b
too_append k [] b = let e : k - 0 ≡ k = omega arith in rw (too_none k, e)
too_append k (n ∷ a) b =
    let e : k - 1 - length a ≡ k - length (n ∷ a) = omega arith in
    too_more k n (a ++ b) ∙ ap (λ (r : List ℕ). when (eqb k 0) n.at ++ r) (too_append (k - 1) a b ∙ ap (λ (j : ℕ). too_many (k - 1) a ++ too_many j b) e)
    ∙ sym (ap (λ (r : List ℕ). r ++ too_many (k - length (n ∷ a)) b) (too_more k n a) ∙ append_assoc (when (eqb k 0) n.at) (too_many (k - 1) a) (too_many (k - length (n ∷ a)) b))

-- groups past a number
abbrev pub late_groups : ℕ → List Group → List ℕ
late_groups k gs = each (λ (g : Group). g.at ∷ []) (drop k gs)

late_more : (k : ℕ) (g : Group) (gs : List Group) → late_groups k (g ∷ gs) ≡ when (eqb k 0) g.at ++ late_groups (k - 1) gs
unfolding each when
late_more zero g gs = refl
late_more (suc k) g gs =
    let e : suc k - 1 ≡ k = omega arith in
    sym (ap₂ (λ (b : Bool) (j : ℕ). when b g.at ++ late_groups j gs) (ne_eqb (suc k) 0 (λ d. omega arith)) e)

-- ---- what the walk does after any items but a size

pub record Plain (l : List Triple) : Type 0 where
  pub size : size_in l ≡ 1
  pub place : (p : ℕ) → size_place_in l p ≡ p

pub plain : (o p w : ℕ) → eqb o 45 ≡ false → (l : List Triple) → Plain (it o p w l)
unfolding size_in size_place_in
plain o p w e l = record { size = ap (λ (b : Bool). elim b as (λ (x : Bool). ℕ) [ true ↦ w | false ↦ 1 ]) e; place = λ q. ap (λ (b : Bool). elim b as (λ (x : Bool). ℕ) [ true ↦ p | false ↦ q ]) e }

pub plain_start : Plain []
unfolding size_in size_place_in
plain_start = record { size = refl; place = λ q. refl }

pub type_plain : (t : Ty) (l : List Triple) → Plain (onto_t t l)
unfolding onto_t
type_plain (number n) l = plain _ _ _ refl _
type_plain (environment n) l = plain _ _ _ refl _
type_plain (port n) l = plain _ _ _ refl _
type_plain (plus a b) l = plain _ _ _ refl _
type_plain (minus a b) l = plain _ _ _ refl _
type_plain (log p a) l = plain _ _ _ refl _
type_plain (ceil p a) l = plain _ _ _ refl _
type_plain (floor p a) l = plain _ _ _ refl _
type_plain (most p a) l = plain _ _ _ refl _
type_plain (entry a b) l = plain _ _ _ refl _
type_plain (within p a) l = plain _ _ _ refl _

pub record Runs (ps : List ℕ) (r : Room) (a f : List ℕ) (r' : Room) : Type 0 where
  pub runs : (l : List Triple) → Plain l → (l' : List Triple) × Plain l' × Does ps r l a f r' l'

module _ {ps : List ℕ} where
  pub nothing : {r : Room} → Runs ps r [] [] r
  nothing = record { runs = λ l h. (l, h, none) }

  pub next : {r r' r'' : Room} {a b f g : List ℕ} → Runs ps r a f r' → Runs ps r' b g r'' → Runs ps r (a ++ b) (f ++ g) r''
  next x y = record { runs = λ l h. let d = x.runs l h in let e = y.runs d.0 d.1 in (e.0, e.1, both d.2 e.2) }

  pub same : {r r' : Room} {a f g : List ℕ} → Same f g → Runs ps r a f r' → Runs ps r a g r'
  same s x = record { runs = λ l h. let d = x.runs l h in (d.0, d.1, told s d.2) }

  pub leaves : {r r' r'' : Room} {a f : List ℕ} → r' ≡ r'' → Runs ps r a f r' → Runs ps r a f r''
  leaves {r} {a = a} {f = f} e x = subst (λ (s : Room). Runs ps r a f s) e x

  -- an item whose faults and room do not go by those before it
  pub alone_item : {r r' : Room} (o p w : ℕ) {f : List ℕ} → eqb o 45 ≡ false → ((l : List Triple) → item_faults ps r l o p w ≡ f) → ((l : List Triple) → next_room r o (size_in l) ≡ r') → Runs ps r (item o p w) f r'
  alone_item o p w e g n = record { runs = λ l h. (it o p w l, plain o p w e l, single o p w (g l) (n l)) }

  many : {T : Type 0} {r : Room} (fl F : T → List ℕ) → ((x : T) → Runs ps r (fl x) (F x) r) → (l : List T) → Runs ps r (flats fl l) (each F l) r
  unfolding flats each
  many fl F d [] = nothing
  many fl F d (x ∷ l) = next (d x) (many fl F d l)

-- ---- the parts of rules and groups, listed

abbrev called : List Val → List Name
called vs = each (λ (v : Val). v.called ∷ []) vs

abbrev values : List Val → List Expr
values vs = each (λ (v : Val). v.value ∷ []) vs

abbrev val_types : List Val → List Item
val_types vs = each (λ (v : Val). declared_items v.type) vs

abbrev pub in_statement : Statement → List Item
in_statement s = val_items s ++ each items (wholes s)

abbrev pub vals_f : Rule → List ℕ
vals_f r = too_many limits.vals (each val_names r.body)

abbrev pub rule_names : List Rule → List Name
rule_names rs = each (λ (r : Rule). r.called ∷ []) rs

abbrev pub all_rules : List Group → List Rule
all_rules gs = each (λ (g : Group). g.rules) gs

-- ---- declared types

unfoldable pub onto_d : Declared → List Triple → List Triple
onto_d untyped l = l
onto_d (Declared.typed t) l = onto_t t l

module _ (ps : List ℕ) where
  pub decl_does : (r : Room) (l : List Triple) (d : Declared) → Does ps r l (flat_d d) [] r (onto_d d l)
  unfolding flat_d onto_d
  decl_does r l untyped = none
  decl_does r l (Declared.typed t) = type_does ps r l t

  -- ---- statements

  -- the faults of the things in an expression list, and of the expressions
  abbrev pub in_wholes : List Expr → List ℕ
  in_wholes l = things ps (each items l) ++ each (whole_f ps) l

  val_faults_law : (r : Room) (l : List Triple) (d : Declared) (e : Expr) (p : ℕ) → item_faults ps r (onto e (onto_d d l)) 37 p (is_typed d) ≡ when (eqb r.vals 0) p ++ (whole_f ps e ++ things ps (declared_items d))
  unfolding onto_d is_typed declared_items each thing_f type_f whole_f item_faults full_for bad_size last_limit other_limit in_type when
  val_faults_law r l untyped e p = ap (λ (x : List ℕ). when (eqb r.vals 0) p ++ x) (held_last ps (expr_whole e) l 256 ∙ sym (append-nil (whole_f ps e)))
  val_faults_law r l (Declared.typed t) e p = ap (λ (x : List ℕ). when (eqb r.vals 0) p ++ x) (held_both ps (type_whole t) l (expr_whole e) 256 64 ∙ ap (λ (x : List ℕ). whole_f ps e ++ x) (sym (append-nil (type_f ps t))))

  assign_run : (r : Room) (x : Assignment) → Runs ps r (flat_assignment x) (in_wholes (assigned x)) r
  unfolding flat_assignment assigned each whole_f item_faults full_for bad_size last_limit other_limit next_room left_of again_of when
  assign_run r (assign n e) =
      record {
        runs = λ l h. (
          _,
          plain _ _ _ refl _,
          told (is (ap₂ (λ (a b : List ℕ). a ++ b) (ap (each (thing_f ps)) (sym (append-nil (items e)))) (sym (append-nil (whole_f ps e)))))
              (both (expr_does ps r l e) (single _ _ _ (held_last ps (expr_whole e) l 256) refl)),
        );
      }
  assign_run r (write n a e) =
      record {
        runs = λ l h. (
          _,
          plain _ _ _ refl _,
          told
              (then (same_sum (things ps (items a) ∷ things ps (items e) ∷ whole_f ps a ∷ whole_f ps e ∷ []) ((nth 0 ⊕ nth 1) ⊕ (nth 3 ⊕ nth 2)) ((nth 0 ⊕ (nth 1 ⊕ nil)) ⊕ (nth 2 ⊕ (nth 3 ⊕ nil))) refl)
              (is (ap (λ (x : List ℕ). x ++ each (whole_f ps) (a ∷ e ∷ [])) (sym (each_append (thing_f ps) (items a) (items e ++ []) ∙ ap (λ (x : List ℕ). things ps (items a) ++ x) (each_append (thing_f ps) (items e) []))))))
              (both (both (expr_does ps r l a) (expr_does ps r _ e)) (single _ _ _ (held_both ps (expr_whole a) l (expr_whole e) 256 256) refl)),
        );
      }

  assigns_run : (r : Room) (l : List Assignment) → Runs ps r (flats flat_assignment l) (in_wholes (each assigned l)) r
  assigns_run r l =
      same (then (split_each (λ (x : Assignment). in_wholes (assigned x)) (λ (x : Assignment). things ps (each items (assigned x))) (λ (x : Assignment). each (whole_f ps) (assigned x)) (λ x. record { parts = equal _ }) l).parts
      (is (ap₂ (λ (a b : List ℕ). a ++ b)
      (sym (ap (each (thing_f ps)) (each_each items assigned (each_append items) l) ∙ each_each (thing_f ps) (λ (x : Assignment). each items (assigned x)) (each_append (thing_f ps)) l))
      (sym (each_each (whole_f ps) assigned (each_append (whole_f ps)) l)))))
      (many flat_assignment (λ (x : Assignment). in_wholes (assigned x)) (assign_run r) l)

  let_run : (r : Room) → Runs ps r (item LET 0 0) [] r
  unfolding item_faults full_for bad_size held_in last_limit other_limit next_room left_of again_of when
  let_run r = alone_item LET 0 0 refl (λ l. refl) (λ l. refl)

  end_run : (r : Room) → Runs ps r (item END 0 0) [] r
  unfolding item_faults full_for bad_size held_in last_limit other_limit next_room left_of again_of when
  end_run r = alone_item END 0 0 refl (λ l. refl) (λ l. refl)

  abbrev pub statement_f : Statement → List ℕ
  statement_f s = things ps (in_statement s) ++ each (whole_f ps) (wholes s)

  abbrev pub body_f : Rule → List ℕ
  body_f r = each statement_f r.body

  module _ (p m c : ℕ) where
    abbrev pub in_rules : (g k w : ℕ) → Room
    in_rules g k w = record { ports = p; memories = m; cells = c; groups = g; rules = k; vals = w }

    module _ (g k : ℕ) where
      val_run : (w : ℕ) (v : Val) → Runs ps (in_rules g k w) (flat_val v) (([] ++ things ps (items v.value)) ++ (when (eqb w 0) v.called.at ++ (whole_f ps v.value ++ things ps (declared_items v.type)))) (in_rules g k (w - 1))
      unfolding flat_val next_room left_of again_of
      val_run w v = record { runs = λ l h. (_, plain _ _ _ refl _, both (both (decl_does _ l v.type) (expr_does ps _ _ v.value)) (single _ _ _ (val_faults_law (in_rules g k w) l v.type v.value v.called.at) refl)) }

      vals_run : (w : ℕ) (vs : List Val) → Runs ps (in_rules g k w) (flats flat_val vs) (too_many w (called vs) ++ (things ps (val_types vs) ++ in_wholes (values vs))) (in_rules g k (w - length (called vs)))
      unfolding flats each
      vals_run w [] = same (is (ap (λ (r : List ℕ). r ++ []) (sym (too_none w)))) (leaves (ap (in_rules g k) (omega arith)) nothing)
      vals_run w (v ∷ vs) =
          same (then
          (same_sum (things ps (items v.value) ∷ when (eqb w 0) v.called.at ∷ whole_f ps v.value ∷ things ps (declared_items v.type) ∷ too_many (w - 1) (called vs) ∷ things ps (val_types vs) ∷ things ps (each items (values vs)) ∷ each (whole_f ps) (values vs) ∷ [])
          (((nil ⊕ nth 0) ⊕ (nth 1 ⊕ (nth 2 ⊕ nth 3))) ⊕ (nth 4 ⊕ (nth 5 ⊕ (nth 6 ⊕ nth 7))))
          ((nth 1 ⊕ nth 4) ⊕ ((nth 3 ⊕ nth 5) ⊕ ((nth 0 ⊕ nth 6) ⊕ (nth 2 ⊕ nth 7)))) refl)
          (is (ap₂ (λ (a b : List ℕ). a ++ b) (sym (too_more w v.called (called vs)))
          (ap₂ (λ (a b : List ℕ). a ++ (b ++ (whole_f ps v.value ++ each (whole_f ps) (values vs)))) (sym (each_append (thing_f ps) (declared_items v.type) (val_types vs))) (sym (each_append (thing_f ps) (items v.value) (each items (values vs))))))))
          (leaves (ap (in_rules g k) (omega arith)) (next (val_run w v) (vals_run (w - 1) vs)))

      statement_run : (w : ℕ) (s : Statement) → Runs ps (in_rules g k w) (flat_statement s) (too_many w (val_names s) ++ statement_f s) (in_rules g k (w - length (val_names s)))
      unfolding flat_statement val_names val_items wholes
      statement_run w (alone x) = same (is (ap (λ (r : List ℕ). r ++ in_wholes (assigned x)) (sym (too_none w)))) (leaves (ap (in_rules g k) (omega arith)) (assign_run _ x))
      statement_run w (scoped vs l) =
          same (then
          (same_sum (too_many w (called vs) ∷ things ps (val_types vs) ∷ things ps (each items (values vs)) ∷ each (whole_f ps) (values vs) ∷ things ps (each items (each assigned l)) ∷ each (whole_f ps) (each assigned l) ∷ [])
          (((nil ⊕ (nth 0 ⊕ (nth 1 ⊕ (nth 2 ⊕ nth 3)))) ⊕ (nth 4 ⊕ nth 5)) ⊕ nil)
          (nth 0 ⊕ ((nth 1 ⊕ (nth 2 ⊕ nth 4)) ⊕ (nth 3 ⊕ nth 5))) refl)
          (is (ap (λ (r : List ℕ). too_many w (called vs) ++ r) (ap₂ (λ (a b : List ℕ). a ++ b)
          (sym (each_append (thing_f ps) (val_types vs) (each items (values vs ++ each assigned l)) ∙ ap (λ (r : List ℕ). things ps (val_types vs) ++ r) (ap (each (thing_f ps)) (each_append items (values vs) (each assigned l)) ∙ each_append (thing_f ps) (each items (values vs)) (each items (each assigned l)))))
          (sym (each_append (whole_f ps) (values vs) (each assigned l)))))))
          (next (next (next (let_run (in_rules g k w)) (vals_run w vs)) (assigns_run (in_rules g k (w - length (called vs))) l)) (end_run (in_rules g k (w - length (called vs)))))

      body_run : (w : ℕ) (ss : List Statement) → Runs ps (in_rules g k w) (flats flat_statement ss) (too_many w (each val_names ss) ++ each statement_f ss) (in_rules g k (w - length (each val_names ss)))
      unfolding flats each
      body_run w [] = same (is (ap (λ (r : List ℕ). r ++ []) (sym (too_none w)))) (leaves (ap (in_rules g k) (omega arith)) nothing)
      body_run w (s ∷ ss) =
          same (then
          (same_sum (too_many w (val_names s) ∷ statement_f s ∷ too_many (w - length (val_names s)) (each val_names ss) ∷ each statement_f ss ∷ []) ((nth 0 ⊕ nth 1) ⊕ (nth 2 ⊕ nth 3)) ((nth 0 ⊕ nth 2) ⊕ (nth 1 ⊕ nth 3)) refl)
          (is (ap (λ (r : List ℕ). r ++ (statement_f s ++ each statement_f ss)) (sym (too_append w (val_names s) (each val_names ss))))))
          (leaves (ap (in_rules g k) (let e = length-append (val_names s) (each val_names ss) in omega arith)) (next (statement_run w s) (body_run (w - length (val_names s)) ss)))

      entries_run : (w : ℕ) (es : List Entry) → Runs ps (in_rules g k w) (flats flat_entry es) [] (in_rules g k w)
      unfolding flats flat_entry item_faults full_for bad_size held_in last_limit other_limit next_room left_of again_of when
      entries_run w [] = nothing
      entries_run w (e ∷ es) = next (alone_item _ _ _ refl (λ l. refl) (λ l. refl)) (entries_run w es)

    -- ---- rules and groups

    rule_run_law : (g k : ℕ) (r : Rule) → Runs ps (in_rules g k 16) (flat_rule r) (((when (eqb k 0) r.called.at ++ []) ++ (vals_f r ++ body_f r)) ++ []) (in_rules g (k - 1) 16)
    unfolding flat_rule item_faults full_for bad_size held_in last_limit other_limit next_room left_of again_of when
    rule_run_law g k r = next (next (next (alone_item RULE r.called.at 0 {f = when (eqb k 0) r.called.at} refl (λ l. append-nil _) (λ l. refl)) (entries_run g (k - 1) 16 r.list)) (body_run g (k - 1) 16 r.body)) (alone_item RULED 0 0 refl (λ l. refl) (λ l. refl))

    rules_run : (g k : ℕ) (rs : List Rule) → Runs ps (in_rules g k 16) (flats flat_rule rs) (too_many k (rule_names rs) ++ (each vals_f rs ++ each body_f rs)) (in_rules g (k - length (rule_names rs)) 16)
    unfolding flats each
    rules_run g k [] = same (is (ap (λ (r : List ℕ). r ++ []) (sym (too_none k)))) (leaves (ap (λ (j : ℕ). in_rules g j 16) (omega arith)) nothing)
    rules_run g k (r ∷ rs) =
        same (then
        (same_sum (when (eqb k 0) r.called.at ∷ vals_f r ∷ body_f r ∷ too_many (k - 1) (rule_names rs) ∷ each vals_f rs ∷ each body_f rs ∷ [])
        ((((nth 0 ⊕ nil) ⊕ (nth 1 ⊕ nth 2)) ⊕ nil) ⊕ (nth 3 ⊕ (nth 4 ⊕ nth 5))) ((nth 0 ⊕ nth 3) ⊕ ((nth 1 ⊕ nth 4) ⊕ (nth 2 ⊕ nth 5))) refl)
        (is (ap (λ (x : List ℕ). x ++ ((vals_f r ++ each vals_f rs) ++ (body_f r ++ each body_f rs))) (sym (too_more k r.called (rule_names rs))))))
        (leaves (ap (λ (j : ℕ). in_rules g j 16) (omega arith)) (next (rule_run_law g k r) (rules_run g (k - 1) rs)))

    group_run : (g k : ℕ) (x : Group) → Runs ps (in_rules g k 16) (flat_group x) ((when (eqb g 0) x.at ++ (too_many k (rule_names x.rules) ++ (each vals_f x.rules ++ each body_f x.rules))) ++ []) (in_rules (g - 1) (k - length (rule_names x.rules)) 16)
    unfolding flat_group item_faults full_for bad_size held_in last_limit other_limit next_room left_of again_of when
    group_run g k x = next (next (alone_item OR x.at 0 {f = when (eqb g 0) x.at} refl (λ l. append-nil _) (λ l. refl)) (rules_run (g - 1) k x.rules)) (alone_item GROUPED 0 0 refl (λ l. refl) (λ l. refl))

    pub groups_run : (g k : ℕ) (gs : List Group) → Runs ps (in_rules g k 16) (flats flat_group gs) (late_groups g gs ++ (too_many k (rule_names (all_rules gs)) ++ (each vals_f (all_rules gs) ++ each body_f (all_rules gs)))) (in_rules (g - length gs) (k - length (rule_names (all_rules gs))) 16)
    unfolding flats each
    groups_run g k [] = same (is (late_none ∙ ap (λ (r : List ℕ). late_groups g [] ++ (r ++ [])) (sym (too_none k)))) (leaves (ap₂ (λ (i j : ℕ). in_rules i j 16) (omega arith) (omega arith)) nothing)
      where
        late : (g : ℕ) → [] ≡ late_groups g []
        late zero = refl
        late (suc g) = refl

        late_none : [] ≡ late_groups g [] ++ []
        late_none = ap (λ (r : List ℕ). r ++ []) (late g)
    groups_run g k (x ∷ gs) =
        same (then
        (same_sum (when (eqb g 0) x.at ∷ too_many k (rule_names x.rules) ∷ each vals_f x.rules ∷ each body_f x.rules ∷ late_groups (g - 1) gs ∷ too_many (k - length (rule_names x.rules)) (rule_names (all_rules gs)) ∷ each vals_f (all_rules gs) ∷ each body_f (all_rules gs) ∷ [])
        (((nth 0 ⊕ (nth 1 ⊕ (nth 2 ⊕ nth 3))) ⊕ nil) ⊕ (nth 4 ⊕ (nth 5 ⊕ (nth 6 ⊕ nth 7)))) ((nth 0 ⊕ nth 4) ⊕ ((nth 1 ⊕ nth 5) ⊕ ((nth 2 ⊕ nth 6) ⊕ (nth 3 ⊕ nth 7)))) refl)
        (is (ap₂ (λ (a b : List ℕ). a ++ b) (sym (late_more g x gs)) (ap₂ (λ (a b : List ℕ). a ++ b) (sym (ap (too_many k) names ∙ too_append k (rule_names x.rules) (rule_names (all_rules gs))))
        (ap₂ (λ (a b : List ℕ). a ++ b) (sym (each_append vals_f x.rules (all_rules gs))) (sym (each_append body_f x.rules (all_rules gs))))))))
        (leaves (ap₂ (λ (i j : ℕ). in_rules i j 16) (omega arith) (let e = ap length names in let d = length-append (rule_names x.rules) (rule_names (all_rules gs)) in omega arith)) (next (group_run g k x) (groups_run (g - 1) (k - length (rule_names x.rules)) gs)))
      where
        names : rule_names (x.rules ++ all_rules gs) ≡ rule_names x.rules ++ rule_names (all_rules gs)
        names = each_append (λ (r : Rule). r.called ∷ []) x.rules (all_rules gs)
