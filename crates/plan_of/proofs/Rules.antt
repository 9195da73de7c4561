-- Statements and rules: a rule's code assigns what the rule assigns and writes what it writes.
use Prim.Native.Nat.{ℕ, suc, ◌+◌, ◌≤◌, ◌<◌}
use mathlib.Core.Path.{◌≡◌, refl, sym, ap, ◌∙◌}
use mathlib.Core.List.{List, [], ◌∷◌, ◌++◌, append_assoc}
use mathlib.Core.Bool.{Bool, true, false}
use native.Mathlib.Omega.{arith}
use native.Mathlib.Nat.{lt_of_lt_of_le}
use lib.ListN.{length, get_or, set, length-set, replicate, length-replicate}
use lib.Seq.{get_or-set_same, get_or-set_other}
use lib.Dec.{ltb}
use Rattle.language.specs.Tree.{Expr, Declared, untyped, Val, Assignment, assign, write, Statement, alone, scoped, Rule}
use Rattle.language.specs.Parts.{each}
use Rattle.language.specs.Widths.{port_width, memory_width, type_width}
use Rattle.language.specs.Sizes.{Setting, Extent, wide, two_parts, limited, Let, extent, fitted, val_extent, val_lets}
use Rattle.language.specs.Meaning.{Bits, Given, Change, bits_in, value_of, val_bits, lets_of, assigns_of, writes_of, in_statement, in_rules, cells_of, cells_before, port_at}
use Rattle.plan.specs.declared.Item.{Item}
use Rattle.plan.specs.declared.Item.TheVariants.{Const, Port, Let as Kept, Cell, Range, Copies, Beside, Before, Between, Choice, Arm, Keep, Assign, Write, Bad}
use Rattle.language.specs.declared.Unary.TheVariants.{Invert, Plus, Not, All, NotAll, Any, NotAny, Odd, NotOdd}
use Rattle.language.specs.declared.Binary.TheVariants.{Multiply, Divide, Remainder, Add, Subtract, Left, Right, Less, AtMost, Greater, AtLeast, Equal, Unequal, And, NotAnd, Xor, NotXor, Or, NotOr, Both, Either}
use Rattle.plan.specs.Items.{encode, decode, decode_all, unary_item, binary_item}
use Rattle.plan.specs.Layout.{code_at}
use Rattle.item_steps.specs.Machine.{state, exec_all, exec_rules, write_to}
use Rattle.placed.specs.Placed.{Every}
use Rattle.plan_of.specs.PlanOf.{Slot, extents, width_of, memory_at, code, assignment_code, lets_from, vals_code, body_code, rule_code}
use Rattle.plan_of.specs.Formed.{whole, FormedAt, nest}
use Rattle.plan_of.proofs.Extents.{Paired, paired_map, IsWide, width_of_law, one_wide, two_wide, fitted_wide, SameWidth, width_agrees}
use Rattle.plan_of.proofs.Runs.{KeptBelow, kept_refl, kept_trans, exec_append, Runs, Holds, holds_kept, holds_widths, code_runs}
use Rattle.plan_of.proofs.Effects.{backwards, backwards_append}

-- ## What a rule needs: its expressions are formed, not nested too deep, and without faults

abbrev pub Fine : List (List ℕ) → Expr → Type 0
Fine ms e = FormedAt ms whole e × (nest e ≤ 32)

module _ (s : Setting) (ms : List (List ℕ)) where
  abbrev pub FineAssignment : List (Let Extent) → Assignment → Type 0
  FineAssignment lets (assign n e) = Fine ms e × IsWide (fitted s lets (port_width s.actor s.widths n.spelled) e)
  FineAssignment lets (write n a e) = Fine ms a × IsWide (extent s lets a) × Fine ms e × IsWide (fitted s lets (memory_width s.actor s.widths n.spelled) e)

  abbrev pub FineVals : List (Let Extent) → List Val → Type 0
  FineVals lets [] = Unit {0}
  FineVals lets (v ∷ vs) = Fine ms v.value × IsWide (val_extent s lets v) × FineVals (record { called = v.called.spelled; holds = val_extent s lets v } ∷ lets) vs

  abbrev pub FineStatement : Statement → Type 0
  FineStatement (alone x) = FineAssignment [] x
  FineStatement (scoped vs l) = FineVals [] vs × Every (FineAssignment (val_lets s [] vs)) l

-- how many `val`s a body has
unfoldable pub vals_in : List Statement → ℕ
vals_in [] = 0
vals_in (alone x ∷ l) = vals_in l
vals_in (scoped vs xs ∷ l) = length vs + vals_in l

-- ## Outputs that are set one after the other

unfoldable pub puts : Setting → List (Change (List ℕ)) → List ℕ → List ℕ
puts s [] os = os
puts s (c ∷ l) os = puts s l (set os (port_at s c.target) c.to)

pub puts_append : (s : Setting) (l m : List (Change (List ℕ))) (os : List ℕ) → puts s (l ++ m) os ≡ puts s m (puts s l os)
unfolding puts
puts_append s [] m os = refl
puts_append s (c ∷ l) m os = puts_append s l m (set os (port_at s c.target) c.to)

pub val_inner : (s : Setting) (lets : List (Let Extent)) (v : Val) → IsWide (val_extent s lets v) → IsWide (extent s lets v.value)
unfolding val_extent fitted
val_inner s lets v h = go v.type h
  where
    go : (t : Declared)
        → IsWide (elim t [ untyped ↦ extent s lets v.value | Declared.typed t ↦ two_parts (limited v.called.at (type_width s.actor s.bindings s.widths t)) (fitted s lets (type_width s.actor s.bindings s.widths t) v.value) (λ k w. wide w) ])
        → IsWide (extent s lets v.value)
    go untyped h = h
    go (Declared.typed t) h =
        let a = two_wide (limited v.called.at (type_width s.actor s.bindings s.widths t)) (fitted s lets (type_width s.actor s.bindings s.widths t) v.value) _ h in
        (one_wide (extent s lets v.value) _ a.1).0

-- what the plan and the text say of the extents of a statement's `let`s
pub lets_extents : (s : Setting) (k : ℕ) (lets : List (Let Slot)) (vs : List Val) → extents (lets_from s k lets vs) ≡ val_lets s (extents lets) vs
unfolding lets_from val_lets extents
lets_extents s k lets [] = refl
lets_extents s k lets (v ∷ vs) = lets_extents s (suc k) (record { called = v.called.spelled; holds = record { number = k; holds = val_extent s (extents lets) v } } ∷ lets) vs

write_back : (b : Bool) (c : Change ℕ) (qs : List (Change ℕ)) → (elim b [ true ↦ c ∷ qs | false ↦ qs ]) ≡ backwards (elim b [ true ↦ c ∷ [] | false ↦ [] ]) qs
unfolding backwards
write_back true c qs = refl
write_back false c qs = refl

-- the slots below k hold the `let`s
abbrev HoldsTo : ℕ → List ℕ → Slot → Bits → Type 0
HoldsTo k ls x y = (x.number < k) × (get_or ls x.number 0 ≡ y.value) × SameWidth x y

holds_to : (k : ℕ) (ls : List ℕ) (lets : List (Let Slot)) (bits : List (Let Bits)) → k ≤ 16 → Paired (HoldsTo k ls) lets bits → Paired (Holds ls) lets bits
holds_to k ls lets bits h p = paired_map (HoldsTo k ls) (Holds ls) (λ x y q. (lt_of_lt_of_le q.0 h, q.1, q.2)) lets bits p

holds_next : (k v : ℕ) (new ls : List ℕ) (lets : List (Let Slot)) (bits : List (Let Bits)) → k ≤ 16 → KeptBelow 16 new ls → Paired (HoldsTo k ls) lets bits → Paired (HoldsTo (suc k) (set new k v)) lets bits
holds_next k v new ls lets bits h c p =
    paired_map (HoldsTo k ls) (HoldsTo (suc k) (set new k v))
    (λ x y q. let j = q.0 in (omega arith, get_or-set_other new k x.number v 0 (omega arith) ∙ c.same x.number (omega arith) ∙ q.1, q.2)) lets bits p

module _ (s : Setting) (g : Given) where
  -- items that assign and write, with nothing left waiting, and keep the slots below n
  pub record Does (is : List Item) (n : ℕ) (xs : List (Change (List ℕ))) (ws : List (Change ℕ)) (ls os : List ℕ) (qs : List (Change ℕ)) : Type 0 where
    pub after : List ℕ
    pub does : exec_all g.values g.memory is (state [] ls os qs) ≡ state [] after (puts s xs os) (backwards ws qs)
    pub kept : KeptBelow n after ls

  pub does_nothing : (n : ℕ) (ls os : List ℕ) (qs : List (Change ℕ)) → Does [] n [] [] ls os qs
  unfolding exec_all puts backwards
  does_nothing n ls os qs = record { after = ls; does = refl; kept = kept_refl n ls }

  pub weaker : {is : List Item} {n : ℕ} {xs : List (Change (List ℕ))} {ws : List (Change ℕ)} {ls os : List ℕ} {qs : List (Change ℕ)} → Does is n xs ws ls os qs → Does is 0 xs ws ls os qs
  weaker d = record { after = d.after; does = d.does; kept = record { long = d.kept.long; same = λ k h. absurd (omega arith) } }

  pub does_both : {is js : List Item} {n : ℕ} {xs ys : List (Change (List ℕ))} {us ws : List (Change ℕ)} {ls os : List ℕ} {qs : List (Change ℕ)}
      → Does is n xs us ls os qs → ((new : List ℕ) → KeptBelow n new ls → Does js n ys ws new (puts s xs os) (backwards us qs)) → Does (is ++ js) n (xs ++ ys) (us ++ ws) ls os qs
  does_both {is} {js} {n} {xs} {ys} {us} {ws} {ls} {os} {qs} d f =
      let e = f d.after d.kept in
      record {
        after = e.after;
        does = exec_append g.values g.memory is js (state [] ls os qs) ∙ ap (exec_all g.values g.memory js) d.does ∙ e.does ∙ rw (puts_append s xs ys os, backwards_append us ws qs);
        kept = kept_trans (omega arith) e.kept d.kept;
      }

  module _ (ms : List (List ℕ)) where
    -- an expression with nothing around it
    expression : (lets : List (Let Slot)) (bits : List (Let Bits)) (e : Expr) (vs ls os : List ℕ) (qs : List (Change ℕ)) → Fine ms e → IsWide (extent s (extents lets) e) → length ls ≡ 48 → Paired (Holds ls) lets bits
        → Runs g.values g.memory os qs (code s lets 0 e) 16 (value_of s g bits e ∷ vs) vs ls
    unfolding value_of
    expression lets bits e vs ls os qs f h l p =
        code_runs s g lets bits os qs whole ms 0 0 e vs ls f.0 tt (record { room = let k = f.1 in omega arith; held = p }) h

    assignment_does : (lets : List (Let Slot)) (bits : List (Let Bits)) (x : Assignment) (ls os : List ℕ) (qs : List (Change ℕ)) → FineAssignment s ms (extents lets) x → length ls ≡ 48 → Paired (Holds ls) lets bits
        → Does (assignment_code s lets x) 16 (assigns_of s g bits x) (writes_of s g bits x) ls os qs
    unfolding assignment_code assigns_of writes_of fitted puts backwards exec_all write_to
    assignment_does lets bits (assign n e) ls os qs f l p =
        let r = expression lets bits e [] ls os qs f.0 (one_wide (extent s (extents lets) e) _ f.1).0 l p in
        record {
          after = r.after;
          does = exec_append g.values g.memory (code s lets 0 e) (Assign (port_at s n.spelled) ∷ []) (state [] ls os qs) ∙ rw r.runs;
          kept = r.kept;
        }
    assignment_does lets bits (write n a e) ls os qs f l p =
        let r = expression lets bits a [] ls os qs f.0 f.1 l p in
        let q = expression lets bits e (value_of s g bits a ∷ []) r.after os qs f.2 (one_wide (extent s (extents lets) e) _ f.3).0 (r.kept.long ∙ l) (holds_kept 16 lets bits (omega arith) r.kept p) in
        let i : Item = Write (memory_at s n.spelled) (cells_before s.actor.memories n.spelled) (cells_of s.actor.memories n.spelled) in
        record {
          after = q.after;
          does = exec_append g.values g.memory (code s lets 0 a) (code s lets 0 e ++ (i ∷ [])) (state [] ls os qs)
              ∙ ap (exec_all g.values g.memory (code s lets 0 e ++ (i ∷ []))) r.runs
              ∙ exec_append g.values g.memory (code s lets 0 e) (i ∷ []) (state (value_of s g bits a ∷ []) r.after os qs)
              ∙ ap (exec_all g.values g.memory (i ∷ [])) q.runs
              ∙ ap (state [] q.after os) (write_back (ltb (value_of s g bits a) (cells_of s.actor.memories n.spelled)) (record { target = cells_before s.actor.memories n.spelled + value_of s g bits a; to = value_of s g bits e }) qs);
          kept = kept_trans (omega arith) q.kept r.kept;
        }

    assignments_do : (lets : List (Let Slot)) (bits : List (Let Bits)) (xs : List Assignment) (ls os : List ℕ) (qs : List (Change ℕ)) → Every (FineAssignment s ms (extents lets)) xs → length ls ≡ 48 → Paired (Holds ls) lets bits
        → Does (each (assignment_code s lets) xs) 16 (each (assigns_of s g bits) xs) (each (writes_of s g bits) xs) ls os qs
    unfolding each
    assignments_do lets bits [] ls os qs f l p = does_nothing 16 ls os qs
    assignments_do lets bits (x ∷ xs) ls os qs f l p =
        does_both (assignment_does lets bits x ls os qs f.0 l p) (λ new k. assignments_do lets bits xs new _ _ f.1 (k.long ∙ l) (holds_kept 16 lets bits (omega arith) k p))

    -- the width of a `val`
    val_width : (lets : List (Let Slot)) (bits : List (Let Bits)) (v : Val) → Paired SameWidth lets bits → IsWide (val_extent s (extents lets) v) → val_extent s (extents lets) v ≡ wide (val_bits s g bits v).wide
    unfolding val_extent val_bits fitted
    val_width lets bits v p h = go v.type h
      where
        go : (t : Declared)
            → IsWide (elim t [ untyped ↦ extent s (extents lets) v.value | Declared.typed t ↦ two_parts (limited v.called.at (type_width s.actor s.bindings s.widths t)) (fitted s (extents lets) (type_width s.actor s.bindings s.widths t) v.value) (λ k w. wide w) ])
            → (elim t [ untyped ↦ extent s (extents lets) v.value | Declared.typed t ↦ two_parts (limited v.called.at (type_width s.actor s.bindings s.widths t)) (fitted s (extents lets) (type_width s.actor s.bindings s.widths t) v.value) (λ k w. wide w) ])
            ≡ wide (elim t as (λ _. Bits) [ untyped ↦ bits_in s g bits 0 v.value | Declared.typed t ↦ record { wide = type_width s.actor s.bindings s.widths t; value = value_of s g bits v.value } ]).wide
        go untyped h = width_agrees s g lets bits p 0 v.value h
        go (Declared.typed t) h =
            let a = two_wide (limited v.called.at (type_width s.actor s.bindings s.widths t)) (fitted s (extents lets) (type_width s.actor s.bindings s.widths t) v.value) _ h in
            a.3 ∙ ap wide (width_of_law (fitted s (extents lets) (type_width s.actor s.bindings s.widths t) v.value) _ (fitted_wide s (extents lets) _ v.value a.1).2)

    val_value : (bits : List (Let Bits)) (v : Val) → (val_bits s g bits v).value ≡ value_of s g bits v.value
    unfolding val_bits value_of
    val_value bits v = go v.type
      where
        go : (t : Declared)
            → (elim t as (λ _. Bits) [ untyped ↦ bits_in s g bits 0 v.value | Declared.typed t ↦ record { wide = type_width s.actor s.bindings s.widths t; value = value_of s g bits v.value } ]).value
            ≡ value_of s g bits v.value
        go untyped = refl
        go (Declared.typed t) = refl

    pub record Keeps (is : List Item) (lets : List (Let Slot)) (bits : List (Let Bits)) (ls os : List ℕ) (qs : List (Change ℕ)) : Type 0 where
      pub after : List ℕ
      pub does : exec_all g.values g.memory is (state [] ls os qs) ≡ state [] after os qs
      pub long : length after ≡ length ls
      pub held : Paired (Holds after) lets bits

    vals_keep : (k : ℕ) (lets : List (Let Slot)) (bits : List (Let Bits)) (vs : List Val) (ls os : List ℕ) (qs : List (Change ℕ)) → FineVals s ms (extents lets) vs → k + length vs ≤ 16 → length ls ≡ 48 → Paired (HoldsTo k ls) lets bits
        → Keeps (vals_code s k lets vs) (lets_from s k lets vs) (lets_of s g bits vs) ls os qs
    unfolding vals_code lets_from lets_of exec_all extents
    vals_keep k lets bits [] ls os qs f n l p = record { after = ls; does = refl; long = refl; held = holds_to k ls lets bits (omega arith) p }
    vals_keep k lets bits (v ∷ vs) ls os qs f n l p =
        let h = holds_to k ls lets bits (omega arith) p in
        let r = expression lets bits v.value [] ls os qs f.0 (val_inner s (extents lets) v f.1) l h in
        let x = value_of s g bits v.value in
        let c : Let Slot = record { called = v.called.spelled; holds = record { number = k; holds = val_extent s (extents lets) v } } in
        let b : Let Bits = record { called = v.called.spelled; holds = val_bits s g bits v } in
        let q = vals_keep (suc k) (c ∷ lets) (b ∷ bits) vs (set r.after k x) os qs f.2 (omega arith) (length-set r.after k x ∙ r.kept.long ∙ l)
        (refl, (omega arith, get_or-set_same r.after k x 0 (rw r.kept.long (omega arith)) ∙ sym (val_value bits v), val_width lets bits v (holds_widths ls lets bits h) f.1), holds_next k x r.after ls lets bits (omega arith) r.kept p) in
        record {
          after = q.after;
          does = exec_append g.values g.memory (code s lets 0 v.value) (Keep k (width_of (val_extent s (extents lets) v)) ∷ vals_code s (suc k) (c ∷ lets) vs) (state [] ls os qs)
              ∙ ap (exec_all g.values g.memory (Keep k (width_of (val_extent s (extents lets) v)) ∷ vals_code s (suc k) (c ∷ lets) vs)) r.runs ∙ q.does;
          long = q.long ∙ length-set r.after k x ∙ r.kept.long;
          held = q.held;
        }

    scoped_does : (k : ℕ) (vs : List Val) (xs : List Assignment) (ls os : List ℕ) (qs : List (Change ℕ)) → FineStatement s ms (scoped vs xs) → k + length vs ≤ 16 → length ls ≡ 48
        → Does (vals_code s k [] vs ++ each (assignment_code s (lets_from s k [] vs)) xs) 0 (each (assigns_of s g (lets_of s g [] vs)) xs) (each (writes_of s g (lets_of s g [] vs)) xs) ls os qs
    unfolding extents
    scoped_does k vs xs ls os qs f n l =
        let r = vals_keep k [] [] vs ls os qs f.0 n l tt in
        let q = assignments_do (lets_from s k [] vs) (lets_of s g [] vs) xs r.after os qs (rw (lets_extents s k [] vs) f.1) (r.long ∙ l) r.held in
        record {
          after = q.after;
          does = exec_append g.values g.memory (vals_code s k [] vs) (each (assignment_code s (lets_from s k [] vs)) xs) (state [] ls os qs)
              ∙ ap (exec_all g.values g.memory (each (assignment_code s (lets_from s k [] vs)) xs)) r.does ∙ q.does;
          kept = record { long = q.kept.long ∙ r.long; same = λ k h. absurd (omega arith) };
        }

    -- a statement's items before those of the ones after it
    scoped_both : (is js es : List Item) (xs ys : List (Change (List ℕ))) (us ws : List (Change ℕ)) (ls os : List ℕ) (qs : List (Change ℕ))
        → Does (is ++ js) 0 xs us ls os qs → ((new : List ℕ) → KeptBelow 0 new ls → Does es 0 ys ws new (puts s xs os) (backwards us qs)) → Does (is ++ (js ++ es)) 0 (xs ++ ys) (us ++ ws) ls os qs
    scoped_both is js es xs ys us ws ls os qs d f = rw (← (append_assoc is js es)) (does_both {is = is ++ js} {js = es} {xs = xs} {ys = ys} {us = us} {ws = ws} {ls = ls} {os = os} {qs = qs} d f)

    body_does : (k : ℕ) (l : List Statement) (ls os : List ℕ) (qs : List (Change ℕ)) → Every (FineStatement s ms) l → k + vals_in l ≤ 16 → length ls ≡ 48
        → Does (body_code s k l) 0 (each (in_statement s g (assigns_of s g)) l) (each (in_statement s g (writes_of s g)) l) ls os qs
    unfolding body_code each in_statement vals_in extents
    body_does k [] ls os qs f n l = does_nothing 0 ls os qs
    body_does k (alone x ∷ l) ls os qs f n h =
        does_both {is = assignment_code s [] x} {js = body_code s k l} {xs = assigns_of s g [] x} {ys = each (in_statement s g (assigns_of s g)) l} {us = writes_of s g [] x} {ws = each (in_statement s g (writes_of s g)) l} {ls = ls} {os = os} {qs = qs}
        (weaker (assignment_does [] [] x ls os qs f.0 h tt)) (λ new c. body_does k l new (puts s (assigns_of s g [] x) os) (backwards (writes_of s g [] x) qs) f.1 n (c.long ∙ h))
    body_does k (scoped vs xs ∷ l) ls os qs f n h =
        let b = lets_of s g [] vs in
        scoped_both (vals_code s k [] vs) (each (assignment_code s (lets_from s k [] vs)) xs) (body_code s (k + length vs) l) (each (assigns_of s g b) xs) (each (in_statement s g (assigns_of s g)) l) (each (writes_of s g b) xs) (each (in_statement s g (writes_of s g)) l) ls os qs
        (scoped_does k vs xs ls os qs f.0 (omega arith) h)
        (λ new c. body_does (k + length vs) l new (puts s (each (assigns_of s g b) xs) os) (backwards (each (writes_of s g b) xs) qs) f.1 (omega arith) (c.long ∙ h))

-- ## Numbers and items

decode_encode : (i : Item) (r : List ℕ) → decode_all (encode i ++ r) ≡ i ∷ decode_all r
unfolding decode_all decode unary_item binary_item
decode_encode (Const w lo hi) r = refl
decode_encode (Port i) r = refl
decode_encode (Kept k) r = refl
decode_encode (Cell m f n) r = refl
decode_encode (Range i j) r = refl
decode_encode (Copies n w) r = refl
decode_encode (Beside w) r = refl
decode_encode (Before Invert w) r = refl
decode_encode (Before Plus w) r = refl
decode_encode (Before Not w) r = refl
decode_encode (Before All w) r = refl
decode_encode (Before NotAll w) r = refl
decode_encode (Before Any w) r = refl
decode_encode (Before NotAny w) r = refl
decode_encode (Before Odd w) r = refl
decode_encode (Before NotOdd w) r = refl
decode_encode (Between Multiply m n) r = refl
decode_encode (Between Divide m n) r = refl
decode_encode (Between Remainder m n) r = refl
decode_encode (Between Add m n) r = refl
decode_encode (Between Subtract m n) r = refl
decode_encode (Between Left m n) r = refl
decode_encode (Between Right m n) r = refl
decode_encode (Between Less m n) r = refl
decode_encode (Between AtMost m n) r = refl
decode_encode (Between Greater m n) r = refl
decode_encode (Between AtLeast m n) r = refl
decode_encode (Between Equal m n) r = refl
decode_encode (Between Unequal m n) r = refl
decode_encode (Between And m n) r = refl
decode_encode (Between NotAnd m n) r = refl
decode_encode (Between Xor m n) r = refl
decode_encode (Between NotXor m n) r = refl
decode_encode (Between Or m n) r = refl
decode_encode (Between NotOr m n) r = refl
decode_encode (Between Both m n) r = refl
decode_encode (Between Either m n) r = refl
decode_encode Choice r = refl
decode_encode (Arm n k) r = refl
decode_encode (Keep k w) r = refl
decode_encode (Assign p) r = refl
decode_encode (Write m f n) r = refl
decode_encode Bad r = refl

pub decode_all_law : (is : List Item) → decode_all (each encode is) ≡ is
unfolding decode_all each
decode_all_law [] = refl
decode_all_law (i ∷ is) = decode_encode i (each encode is) ∙ ap (λ (l : List Item). i ∷ l) (decode_all_law is)

-- ## The rules that fire

-- a rule that can run
abbrev pub FineRule : Setting → List (List ℕ) → Rule → Type 0
FineRule s ms r = Every (FineStatement s ms) r.body × (vals_in r.body ≤ 16)

-- the numbers of some rules of a plan, and the rules whose code stands there
abbrev pub Coded : Setting → List (List ℕ) → List ℕ → List ℕ → List Rule → Type 0
Coded s ms p [] [] = Unit {0}
Coded s ms p [] (r ∷ rs) = ⊥
Coded s ms p (i ∷ is) [] = ⊥
Coded s ms p (i ∷ is) (r ∷ rs) = (code_at p i ≡ rule_code s r) × FineRule s ms r × Coded s ms p is rs

pub rules_do : (s : Setting) (g : Given) (ms : List (List ℕ)) (p is : List ℕ) (rs : List Rule) (ls os : List ℕ) (qs : List (Change ℕ)) → Coded s ms p is rs
    → (new : List ℕ) × (exec_rules p g.values g.memory is (state [] ls os qs) ≡ state [] new (puts s (in_rules s g (assigns_of s g) rs) os) (backwards (in_rules s g (writes_of s g) rs) qs))
unfolding exec_rules in_rules each puts backwards rule_code
rules_do s g ms p [] [] ls os qs c = (ls, refl)
rules_do s g ms p [] (r ∷ rs) ls os qs c = absurd c
rules_do s g ms p (i ∷ is) [] ls os qs c = absurd c
rules_do s g ms p (i ∷ is) (r ∷ rs) ls os qs c =
    let d = body_does s g ms 0 r.body (replicate 48 0) os qs c.1.0 (let k = c.1.1 in omega arith) (length-replicate {A = ℕ} 48 0) in
    let xs = each (in_statement s g (assigns_of s g)) r.body in
    let ws = each (in_statement s g (writes_of s g)) r.body in
    let e = rules_do s g ms p is rs d.after (puts s xs os) (backwards ws qs) c.2 in (
      e.0,
      rw (c.0, decode_all_law (body_code s 0 r.body), d.does) (e.1 ∙ rw (puts_append s xs (in_rules s g (assigns_of s g) rs) os, backwards_append ws (in_rules s g (writes_of s g) rs) qs)),
    )
