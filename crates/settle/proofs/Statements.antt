-- The walk over statements, rules and groups writes them settled. Assumes nothing.
use mathlib.Core.Path.{◌≡◌, refl, sym, ap, ap₂, ◌∙◌, subst}
use mathlib.Core.Bool.{Bool, true, false}
use mathlib.Core.List.{List, [], ◌∷◌, ◌++◌, append_assoc, append-nil}
use Prim.Native.Nat.{ℕ, suc, ◌+◌, ◌≤◌, ◌<◌}
use native.Mathlib.Omega.{arith}
use lib.ListN.{length, length-append}
use Rattle.language.specs.Text.{Name, index}
use Rattle.language.specs.Tree.{Expr, Declared, untyped, Entry, Val, Assignment, assign, write, Statement, alone, scoped, Rule, Group}
use Rattle.language.specs.Parts.{each, types, items, declared_items, assigned}
use Rattle.language.specs.Counts.{val_names}
use Rattle.language.specs.Widths.{type_width}
use Rattle.language.specs.Sizes.{Setting, Let}
use Rattle.language.specs.Meaning.{port_at}
use Rattle.placed.specs.Placed.{name_from, Spelled, Every, PlacedDeclared, PlacedVal, PlacedAssignment, PlacedEntry}
use Rattle.tape.specs.Tape as Tape
use Rattle.tape.specs.Tape.{item, flat_d, is_typed, flat_val, flat_assignment, flats, flat_statement, flat_entry, flat_rule, flat_group}
use Rattle.tape.proofs.Tapes.{Goes, goes_none, goes_both, goes_item}
use Rattle.settled.specs.Form.{ASSIGN, WRITE, TYPED, VAL, PRESENT, six}
use Rattle.settled.specs.Settled.{one_if, settled, settled_port, settled_cell, settled_assignment, settled_kept, slots_from, settled_vals, settled_body, settled_entry, settled_rule, settled_group}
use Rattle.looked_up.specs.Lookup.{operand}
use Rattle.item_writes.specs.Walk.{Around, step, takes, without, latest, grown, when, width_in, named_out, written}
use Rattle.settle.proofs.Types.{types_go}
use Rattle.settle.proofs.Leaving.{state, goes_wrote, Writes, wrote, writes_both, writes_item, writes_three, writes_many}
use Rattle.settle.proofs.Settings.{ports_of, around, Small, operand_is, Right, sound, width_is}
use Rattle.settle.proofs.Expressions.{let_names, Falls, port_number_law, port_out_law, cell_out_law, expr_goes}

-- what is known of a part: its names are spelled as the text has them, and its types keep the rules
module _ (text : List ℕ) (s : Setting) where
  abbrev pub RightExpr : Expr → Type 0
  RightExpr e = Every (Right s) (types (items e))

  abbrev pub RightAssignment : Assignment → Type 0
  RightAssignment x = PlacedAssignment text x × Every RightExpr (assigned x)

  pub record RightVal (v : Val) : Type 0 where
    pub placed : PlacedVal text v
    pub type : Every (Right s) (types (declared_items v.type))
    pub value : RightExpr v.value

  abbrev pub RightStatement : Statement → Type 0
  RightStatement (alone x) = RightAssignment x
  RightStatement (scoped vs xs) = Every RightVal vs × Every RightAssignment xs

  pub record RightRule (r : Rule) : Type 0 where
    pub list : Every (PlacedEntry text) r.list
    pub body : Every RightStatement r.body
    pub few : length (each val_names r.body) ≤ 16

-- a `val` in its slot
abbrev slot_of : ℕ → Val → Let ℕ
slot_of k v = record { called = v.called.spelled; holds = k }

module _ (text : List ℕ) (s : Setting) (ins : List (List ℕ)) (small : Small s) where
  abbrev A : Around
  A = around text s ins

  module _ (size : ℕ) where
    -- ---- assignments

    module _ (ls : List (Let ℕ)) (vals : ℕ) (falls : Falls vals ls) (few : vals ≤ 16) where
      assign_goes : (n : Name) → Spelled text n → Writes A (let_names ls) vals size (item Tape.ASSIGN n.at 0) (settled_port s ASSIGN n)
      unfolding step takes without grown when named_out written
      assign_goes n h = writes_item Tape.ASSIGN n.at 0 (λ ts l. ap (λ (x : List ℕ). state ts (l ++ x) (let_names ls) vals size) (port_out_law text s ins small (state ts l (let_names ls) vals size) ASSIGN n h))

      write_goes : (n : Name) → Spelled text n → Writes A (let_names ls) vals size (item Tape.WRITE n.at 0) (settled_cell s WRITE n)
      unfolding step takes without grown when named_out written
      write_goes n h = writes_item Tape.WRITE n.at 0 (λ ts l. ap (λ (x : List ℕ). state ts (l ++ x) (let_names ls) vals size) (cell_out_law text s ins small (state ts l (let_names ls) vals size) WRITE n h))

      assignment_goes : (x : Assignment) → RightAssignment text s x → Writes A (let_names ls) vals size (flat_assignment x) (settled_assignment s ls x)
      unfolding flat_assignment settled_assignment assigned
      assignment_goes (assign n e) h = writes_both (expr_goes text s ins small ls vals size falls few e h.0.1 h.1.0) (assign_goes n h.0.0)
      assignment_goes (write n x e) h =
          writes_three (expr_goes text s ins small ls vals size falls few x h.0.1 h.1.0) (expr_goes text s ins small ls vals size falls few e h.0.2 h.1.1.0) (write_goes n h.0.0)

    -- ---- `val`s

    module _ (ls : List (Let ℕ)) (k : ℕ) (falls : Falls k ls) (few : k < 16) where
      slot : operand k ≡ k
      slot = operand_is k (omega arith)

      untyped_ends : (n : Name) → Spelled text n → (ts : List (List ℕ)) (l : List ℕ)
          → step A (state ts l (let_names ls) k size) Tape.VAL n.at 0 ≡ state ts (l ++ six VAL n.at k 0 0 0) (n.spelled ∷ let_names ls) (suc k) size
      unfolding step takes without latest grown when named_out written
      untyped_ends n h ts l = ap₂ (λ (m : List ℕ) (j : ℕ). state ts (l ++ six VAL n.at j 0 0 0) (m ∷ let_names ls) (suc k) size) (sym h) slot

      typed_ends : (n : Name) → Spelled text n → (c : List ℕ) (w : ℕ) → width_in A (state [] [] [] 0 0) c ≡ w → (ts : List (List ℕ)) (l : List ℕ)
          → step A (state (c ∷ ts) l (let_names ls) k size) Tape.VAL n.at 1 ≡ state ts (l ++ six TYPED n.at k 0 0 w) (n.spelled ∷ let_names ls) (suc k) size
      unfolding step takes without latest grown when named_out written width_in
      typed_ends n h c w e ts l =
          ap₂ (λ (m : List ℕ) (j : ℕ). state ts (l ++ six TYPED n.at j 0 0 (width_in A (state [] [] [] 0 0) c)) (m ∷ let_names ls) (suc k) size) (sym h) slot
          ∙ ap (λ (x : ℕ). state ts (l ++ six TYPED n.at k 0 0 x) (n.spelled ∷ let_names ls) (suc k) size) e

      -- a `val` by its type, after its value's items
      abbrev kept_by : Name → Declared → List ℕ
      kept_by n d = elim d [ untyped ↦ six VAL n.at k 0 0 0 | Declared.typed t ↦ six TYPED n.at k 0 0 (type_width s.actor s.bindings s.widths t) ]

      by_type : (n : Name) (d : Declared) {x e : List ℕ} → Spelled text n → PlacedDeclared text d → Every (Right s) (types (declared_items d)) → Writes A (let_names ls) k size x e → (ts : List (List ℕ)) (l : List ℕ)
          → Goes (step A) (state ts l (let_names ls) k size) ((flat_d d ++ x) ++ item Tape.VAL n.at (is_typed d)) (state ts (l ++ (e ++ kept_by n d)) (n.spelled ∷ let_names ls) (suc k) size)
      unfolding flat_d is_typed declared_items types type_width width_in
      by_type n untyped {e = e} h p r d ts l = goes_wrote (append_assoc l e _) (goes_both (d.on ts l) (goes_item Tape.VAL n.at 0 (untyped_ends n h ts (l ++ e))))
      by_type n (Declared.typed t) {e = e} h p r d ts l =
          goes_wrote (append_assoc l e _) (goes_both (goes_both (types_go A (state ts l (let_names ls) k size) t (sound text s ins small.unknowns t p r.0.fine)) (d.on _ l))
          (goes_item Tape.VAL n.at 1 (typed_ends n h _ _ (width_is s small.widths t r.0) ts (l ++ e))))

      val_goes : (v : Val) → RightVal text s v → (ts : List (List ℕ)) (l : List ℕ)
          → Goes (step A) (state ts l (let_names ls) k size) (flat_val v) (state ts (l ++ (settled s ls v.value ++ settled_kept s k v)) (v.called.spelled ∷ let_names ls) (suc k) size)
      unfolding flat_val settled_kept
      val_goes v h ts l = by_type v.called v.type h.placed.called h.placed.type h.type (expr_goes text s ins small ls k size falls (omega arith) v.value h.placed.value h.value) ts l

    vals_goes : (vs : List Val) (ls : List (Let ℕ)) (k : ℕ) → Every (RightVal text s) vs → Falls k ls → k + length vs ≤ 16 → (ts : List (List ℕ)) (l : List ℕ)
        → Goes (step A) (state ts l (let_names ls) k size) (flats flat_val vs) (state ts (l ++ settled_vals s k ls vs) (let_names (slots_from s k ls vs)) (k + length vs) size)
    unfolding flats settled_vals slots_from let_names
    vals_goes [] ls k h f few ts l = goes_wrote (sym (append-nil l)) (let e : k ≡ k + 0 = omega arith in subst (λ (j : ℕ). Goes (step A) (state ts l (let_names ls) k size) [] (state ts l (let_names ls) j size)) e goes_none)
    vals_goes (v ∷ vs) ls k h f few ts l =
        let a = settled s ls v.value in
        let b = settled_kept s k v in
        let ls' = slot_of k v ∷ ls in
        let c = settled_vals s (suc k) ls' vs in
        let e : suc k + length vs ≡ k + suc (length vs) = omega arith in
        let g : (l ++ (a ++ b)) ++ c ≡ l ++ (a ++ (b ++ c)) = append_assoc l (a ++ b) c ∙ ap (λ (x : List ℕ). l ++ x) (append_assoc a b c) in
        goes_wrote g (subst (λ (j : ℕ). Goes (step A) (state ts l (let_names ls) k size) (flat_val v ++ flats flat_val vs) (state ts ((l ++ (a ++ b)) ++ c) (let_names (slots_from s (suc k) ls' vs)) j size)) e
        (goes_both (val_goes ls k f (omega arith) v h.0 ts l) (vals_goes vs ls' (suc k) h.1 (refl, f) (omega arith) ts (l ++ (a ++ b)))))

    -- the slots of a `let` go down from the latest
    slots_fall : (vs : List Val) (ls : List (Let ℕ)) (k : ℕ) → Falls k ls → Falls (k + length vs) (slots_from s k ls vs)
    unfolding slots_from
    slots_fall [] ls k f = let e : k ≡ k + 0 = omega arith in subst (λ (j : ℕ). Falls j ls) e f
    slots_fall (v ∷ vs) ls k f =
        let e : suc k + length vs ≡ k + suc (length vs) = omega arith in
        subst (λ (j : ℕ). Falls j (slots_from s (suc k) (slot_of k v ∷ ls) vs)) e (slots_fall vs (slot_of k v ∷ ls) (suc k) (refl, f))

    -- ---- statements

    let_starts : (k : ℕ) (ts : List (List ℕ)) (l : List ℕ) → step A (state ts l [] k size) Tape.LET 0 0 ≡ state ts l [] k size
    unfolding step takes without grown when named_out written
    let_starts k ts l = ap (λ (x : List ℕ). state ts x [] k size) (append-nil l)

    let_ends : (lets : List (List ℕ)) (k : ℕ) (ts : List (List ℕ)) (l : List ℕ) → step A (state ts l lets k size) Tape.END 0 0 ≡ state ts l [] k size
    unfolding step takes without grown when named_out written
    let_ends lets k ts l = ap (λ (x : List ℕ). state ts x [] k size) (append-nil l)

    scoped_goes : (vs : List Val) (xs : List Assignment) (k : ℕ) → Every (RightVal text s) vs → Every (RightAssignment text s) xs → k + length vs ≤ 16 → (ts : List (List ℕ)) (l : List ℕ)
        → Goes (step A) (state ts l [] k size) (flat_statement (scoped vs xs)) (state ts (l ++ (settled_vals s k [] vs ++ each (settled_assignment s (slots_from s k [] vs)) xs)) [] (k + length vs) size)
    unfolding flat_statement let_names
    scoped_goes vs xs k h g few ts l =
        let ls = slots_from s k [] vs in
        let a = settled_vals s k [] vs in
        let b = each (settled_assignment s ls) xs in
        goes_wrote (append_assoc l a b) (goes_both (goes_both (goes_both (goes_item Tape.LET 0 0 (let_starts k ts l)) (vals_goes vs [] k h tt few ts l))
        ((writes_many flat_assignment (settled_assignment s ls) (assignment_goes ls (k + length vs) (slots_fall vs [] k tt) few) xs g).on ts (l ++ a)))
        (goes_item Tape.END 0 0 (let_ends (let_names ls) (k + length vs) ts ((l ++ a) ++ b))))

    vals_long : (vs : List Val) → length (each (λ (v : Val). v.called ∷ []) vs) ≡ length vs
    unfolding each
    vals_long [] = refl
    vals_long (v ∷ vs) = ap suc (vals_long vs)

    -- how many `val`s a statement has
    unfoldable vals_in : Statement → ℕ
    vals_in (alone x) = 0
    vals_in (scoped vs xs) = length vs

    vals_in_law : (x : Statement) (l : List Statement) → length (each val_names (x ∷ l)) ≡ vals_in x + length (each val_names l)
    unfolding each val_names vals_in
    vals_in_law (alone x) l = let e : length (each val_names l) ≡ 0 + length (each val_names l) = omega arith in e
    vals_in_law (scoped vs xs) l = length-append (each (λ (v : Val). v.called ∷ []) vs) (each val_names l) ∙ ap (λ (j : ℕ). j + length (each val_names l)) (vals_long vs)

    -- what a statement writes
    unfoldable wrote_by : ℕ → Statement → List ℕ
    wrote_by k (alone x) = settled_assignment s [] x
    wrote_by k (scoped vs xs) = settled_vals s k [] vs ++ each (settled_assignment s (slots_from s k [] vs)) xs

    body_more : (k : ℕ) (x : Statement) (l : List Statement) → settled_body s k (x ∷ l) ≡ wrote_by k x ++ settled_body s (k + vals_in x) l
    unfolding settled_body wrote_by vals_in
    body_more k (alone x) l = let e : k ≡ k + 0 = omega arith in ap (λ (j : ℕ). settled_assignment s [] x ++ settled_body s j l) e
    body_more k (scoped vs xs) l = sym (append_assoc (settled_vals s k [] vs) (each (settled_assignment s (slots_from s k [] vs)) xs) (settled_body s (k + length vs) l))

    statement_goes : (x : Statement) (k : ℕ) → RightStatement text s x → k + vals_in x ≤ 16 → (ts : List (List ℕ)) (l : List ℕ)
        → Goes (step A) (state ts l [] k size) (flat_statement x) (state ts (l ++ wrote_by k x) [] (k + vals_in x) size)
    unfolding flat_statement wrote_by vals_in let_names
    statement_goes (alone x) k h few ts l =
        let e : k ≡ k + 0 = omega arith in
        subst (λ (j : ℕ). Goes (step A) (state ts l [] k size) (flat_assignment x) (state ts (l ++ settled_assignment s [] x) [] j size)) e ((assignment_goes [] k tt (omega arith) x h).on ts l)
    statement_goes (scoped vs xs) k h few ts l = scoped_goes vs xs k h.0 h.1 few ts l

    nothing_goes : (k : ℕ) (ts : List (List ℕ)) (l : List ℕ) → Goes (step A) (state ts l [] k size) [] (state ts (l ++ settled_body s k []) [] (k + length (each val_names [])) size)
    unfolding settled_body each
    nothing_goes k ts l = goes_wrote (sym (append-nil l)) (let e : k ≡ k + 0 = omega arith in subst (λ (j : ℕ). Goes (step A) (state ts l [] k size) [] (state ts l [] j size)) e goes_none)

    body_goes : (b : List Statement) (k : ℕ) → Every (RightStatement text s) b → k + length (each val_names b) ≤ 16 → (ts : List (List ℕ)) (l : List ℕ)
        → Goes (step A) (state ts l [] k size) (flats flat_statement b) (state ts (l ++ settled_body s k b) [] (k + length (each val_names b)) size)
    unfolding flats
    body_goes [] k h few ts l = nothing_goes k ts l
    body_goes (x ∷ b) k h few ts l =
        let m = vals_in_law x b in
        let e : k + vals_in x + length (each val_names b) ≡ k + length (each val_names (x ∷ b)) = omega arith in
        goes_wrote (append_assoc l (wrote_by k x) (settled_body s (k + vals_in x) b) ∙ ap (λ (y : List ℕ). l ++ y) (sym (body_more k x b)))
        (subst (λ (j : ℕ). Goes (step A) (state ts l [] k size) (flat_statement x ++ flats flat_statement b) (state ts ((l ++ wrote_by k x) ++ settled_body s (k + vals_in x) b) [] j size)) e
        (goes_both (statement_goes x k h.0 (omega arith) ts l) (body_goes b (k + vals_in x) h.1 (omega arith) ts (l ++ wrote_by k x))))

    -- ---- rules and groups

    present_same : (b : Bool) → Tape.one_if b ≡ one_if b
    unfolding Tape.one_if one_if
    present_same true = refl
    present_same false = refl

    entry_out : (e : Entry) → PlacedEntry text e → six PRESENT e.called.at (operand (index (ports_of s) (name_from text e.called.at))) (Tape.one_if e.present) 0 0 ≡ settled_entry s e
    unfolding settled_entry port_at
    entry_out e h =
        let n = e.called in
        ap₂ (λ (m : List ℕ) (v : ℕ). six PRESENT n.at (operand (index (ports_of s) m)) v 0 0) (sym h) (present_same e.present)
        ∙ ap (λ (k : ℕ). six PRESENT n.at k (one_if e.present) 0 0) (port_number_law text s ins small n.spelled)

    entry_goes : (e : Entry) → PlacedEntry text e → Writes A [] 0 size (flat_entry e) (settled_entry s e)
    unfolding flat_entry step takes without grown when named_out written
    entry_goes e h = writes_item Tape.PRESENT e.called.at _ (λ ts l. ap (λ (x : List ℕ). state ts (l ++ x) [] 0 size) (entry_out e h))

    rule_starts : (p : ℕ) → Writes A [] 0 size (item Tape.RULE p 0) (six Tape.RULE p 0 0 0 0)
    unfolding step takes without grown when named_out written
    rule_starts p = writes_item Tape.RULE p 0 (λ ts l. refl)

    rule_ends : (k : ℕ) (ts : List (List ℕ)) (l : List ℕ) → step A (state ts l [] k size) Tape.RULED 0 0 ≡ state ts (l ++ six Tape.RULED 0 0 0 0 0) [] 0 size
    unfolding step takes without grown when named_out written
    rule_ends k ts l = refl

    rule_goes : (r : Rule) → RightRule text s r → Writes A [] 0 size (flat_rule r) (settled_rule s r)
    unfolding flat_rule settled_rule
    rule_goes r h = record {
      on = λ ts l. goes_wrote (regroup l) (goes_both (goes_both ((writes_both (rule_starts r.called.at) (writes_many flat_entry (settled_entry s) entry_goes r.list h.list)).on ts l)
          (body_goes r.body 0 h.body (let f = h.few in omega arith) ts _)) (goes_item Tape.RULED 0 0 (rule_ends _ ts _)));
    }
      where
        regroup : (l : List ℕ) → ((l ++ (six 39 r.called.at 0 0 0 0 ++ each (settled_entry s) r.list)) ++ settled_body s 0 r.body) ++ six 40 0 0 0 0 0
            ≡ l ++ (six 39 r.called.at 0 0 0 0 ++ (each (settled_entry s) r.list ++ (settled_body s 0 r.body ++ six 40 0 0 0 0 0)))
        regroup l = simp append_assoc

    group_starts : (p : ℕ) → Writes A [] 0 size (item Tape.OR p 0) (six Tape.OR p 0 0 0 0)
    unfolding step takes without grown when named_out written
    group_starts p = writes_item Tape.OR p 0 (λ ts l. refl)

    group_ends : Writes A [] 0 size (item Tape.GROUPED 0 0) []
    unfolding step takes without grown when named_out written
    group_ends = writes_item Tape.GROUPED 0 0 (λ ts l. refl)

    pub group_goes : (g : Group) → Every (RightRule text s) g.rules → Writes A [] 0 size (flat_group g) (settled_group s g)
    unfolding flat_group settled_group
    group_goes g h = wrote (append-nil _) (writes_both (writes_both (group_starts g.at) (writes_many flat_rule (settled_rule s) rule_goes g.rules h)) group_ends)
