-- A rule's code is sound: each of its statements checks, and the outputs that it assigns are those of the text.
use Prim.Native.Nat.{ℕ, suc, ◌+◌, ◌-◌, ◌^◌, ◌≤◌, ◌<◌}
use mathlib.Core.Path.{◌≡◌, refl, ap, ◌∙◌}
use mathlib.Core.List.{List, [], ◌∷◌, ◌++◌, append_assoc}
use mathlib.Core.Bool.{Bool, true, false}
use mathlib.Core.Option.{Option, none, some}
use native.Mathlib.Omega.{arith}
use native.Mathlib.Nat.{lt_of_lt_of_le}
use lib.ListN.{length, get_or, set, length-set, replicate, get_or-replicate}
use lib.Seq.{get_or-set_same, get_or-set_other}
use lib.Dec.{leb, ltb, eqb}
use borrow.Author.Tests.{eq-eqb, lt-ltb, le-leb}
use Rattle.language.specs.Text.{Name, same, among}
use Rattle.language.specs.Tree.{Expr, Declared, untyped, Val, Assignment, assign, write, Statement, alone, scoped}
use Rattle.language.specs.Parts.{each, items}
use Rattle.language.specs.Parts as Parts
use Rattle.language.specs.Counts.{expr_words}
use Rattle.language.specs.Widths.{port_width, memory_width, type_width}
use Rattle.language.specs.Values.{bit_of}
use Rattle.language.specs.Sizes.{Setting, wide, two_parts, limited, Let, let_named, extent, fitted, val_extent}
use Rattle.language.specs.Meaning.{port_at, cells_of, cells_before}
use Rattle.language.specs.Presence.{output_of, outputs_of}
use Rattle.plan.specs.declared.Item.{Item}
use Rattle.plan.specs.declared.Item.TheVariants.{Keep, Assign, Write}
use Rattle.plan.specs.Layout as Layout
use Rattle.plan.specs.Sound.{Rules, check, slots, unset, output_ok, test, check1, check_step, check_all}
use Rattle.placed.specs.Placed.{Every}
use Rattle.placed.proofs.Every.{every_map}
use Rattle.plan_of.specs.PlanOf.{Slot, extents, width_of, memory_at, code, assignment_code, lets_from, vals_code, body_code, plan_of}
use Rattle.plan_of.specs.Formed.{whole, FormedAt}
use Rattle.placed.proofs.Names.{among_of}
use Rattle.plan_of.proofs.Extents.{IsWide, wide_at_law, width_of_law, two_wide, limited_wide, fitted_wide}
use Rattle.plan_of.proofs.Runs.{KeptBelow, kept_refl, kept_trans}
use Rattle.plan_of.proofs.Rules.{Fine, FineAssignment, FineVals, FineStatement, vals_in, lets_extents, val_inner}
use Rattle.plan_of.proofs.Outputs.{cons_false}
use Rattle.plan_of.proofs.Checks.{check_append, Checks, val_item, HoldsWidth, HoldWidths, widths_kept, SmallLets, small_lets, Readable, Celled, ItemOk, code_checks, small_extent}

-- what the `let`s in force are called
unfoldable pub called_of : List (Let Slot) → List (List ℕ)
called_of [] = []
called_of (l ∷ ls) = l.called ∷ called_of ls

none_called : (lets : List (Let Slot)) (n : List ℕ) → let_named lets n ≡ none → among (called_of lets) n ≡ false
unfolding let_named called_of among
none_called [] n e = refl
none_called (l ∷ ls) n e = go (same l.called n) e (λ q. none_called ls n q)
  where
    go : (b : Bool) → ◌≡◌ {A = Option Slot} (elim b [ true ↦ some l.holds | false ↦ let_named ls n ]) none → (let_named ls n ≡ none → among (called_of ls) n ≡ false) → (elim b [ true ↦ true | false ↦ among (called_of ls) n ]) ≡ false
    go true e f = let z : ◌≡◌ {A = ℕ} 0 1 = cc in absurd (omega arith)
    go false e f = f e

-- the names of a statement's `let`s are among those that its assignments may read
pub lets_called : (s : Setting) (k : ℕ) (lets : List (Let Slot)) (vs : List Val) (n : List ℕ) → among (called_of (lets_from s k lets vs)) n ≡ false → (among (each (λ v. v.called.spelled ∷ []) vs) n ≡ false) × (among (called_of lets) n ≡ false)
unfolding called_of lets_from each among
lets_called s k lets [] n h = (refl, h)
lets_called s k lets (v ∷ vs) n h =
    let q = lets_called s (suc k) (record { called = v.called.spelled; holds = record { number = k; holds = val_extent s (extents lets) v } } ∷ lets) vs n h in
    let r = among_of (called_of lets) v.called.spelled n q.1 in
    (cons_false v.called.spelled (each (λ v. v.called.spelled ∷ []) vs) n r.0 q.0, r.1)

-- outputs assigned one after the other, as a mask
unfoldable pub mask_after : Setting → ℕ → List Name → ℕ
mask_after s m [] = m
mask_after s m (n ∷ ns) = mask_after s (m + 2 ^ port_at s n.spelled) ns

mask_append : (s : Setting) (m : ℕ) (l r : List Name) → mask_after s m (l ++ r) ≡ mask_after s (mask_after s m l) r
unfolding mask_after
mask_append s m [] r = refl
mask_append s m (n ∷ l) r = mask_append s (m + 2 ^ port_at s n.spelled) l r

-- ## The slots of `val`s to come: those from k on hold nothing

abbrev pub Unkept : ℕ → List ℕ → Type 0
Unkept k ls = (j : ℕ) → k ≤ j → j < 16 → get_or ls j 0 ≡ unset

unkept_kept : {k : ℕ} {new ls : List ℕ} → KeptBelow 16 new ls → Unkept k ls → Unkept k new
unkept_kept c g j a b = c.same j b ∙ g j a b

unkept_next : (k w : ℕ) (ls : List ℕ) → Unkept k ls → Unkept (suc k) (set ls k w)
unkept_next k w ls g j a b = get_or-set_other ls k j w 0 (omega arith) ∙ g j (omega arith) b

-- a rule starts with none kept
pub unkept_start : Unkept 0 (replicate slots unset)
unkept_start j a b = get_or-replicate slots j unset 0 (omega arith)

module _ (s : Setting) (present taken : ℕ) (ms : List (List ℕ)) where
  abbrev t : Rules
  t = record { plan = plan_of s; present = present; taken = taken }

  -- an item of an expression under `let`s of these names
  abbrev pub ReadsOk : List (List ℕ) → Parts.Item → Type 0
  ReadsOk names (Parts.Item.type x) = Unit {0}
  ReadsOk names (Parts.Item.number n) = n.value ≤ 64
  ReadsOk names (Parts.reads n) = among names n.spelled ≡ false → Readable s present taken 0 ms n.spelled
  ReadsOk names (Parts.Item.value n) = Unit {0}

  abbrev pub More : List (List ℕ) → Expr → Type 0
  More names e = (expr_words e ≤ 256) × Every (ReadsOk names) (items e)

  abbrev pub MoreAssignment : List (List ℕ) → Assignment → Type 0
  MoreAssignment names (assign n e) = More names e
  MoreAssignment names (write n a e) = (among ms n.spelled ≡ true) × More names a × More names e

  abbrev pub MoreVals : List (List ℕ) → List Val → Type 0
  MoreVals names [] = Unit {0}
  MoreVals names (v ∷ vs) = More names v.value × MoreVals (v.called.spelled ∷ names) vs

  abbrev pub MoreStatement : Statement → Type 0
  MoreStatement (alone x) = MoreAssignment [] x
  MoreStatement (scoped vs l) = MoreVals [] vs × Every (MoreAssignment (each (λ v. v.called.spelled ∷ []) vs)) l

  -- an output that the rule may assign
  pub record Writable (n : List ℕ) : Type 0 where
    pub there : port_at s n < Layout.port_count (plan_of s)
    pub output : Layout.port_at (plan_of s) (port_at s n) ≡ port_width s.actor s.widths n + 256
    pub bound : bit_of present (port_at s n) ≡ 1
    pub free : bit_of taken (port_at s n) ≡ 0

  -- and that it has not assigned before
  abbrev pub Assignable : ℕ → List Name → Type 0
  Assignable m [] = Unit {0}
  Assignable m (n ∷ ns) = (bit_of m (port_at s n.spelled) ≡ 0) × Writable n.spelled × Assignable (m + 2 ^ port_at s n.spelled) ns

  assignable_append : (m : ℕ) (l r : List Name) → Assignable m (l ++ r) → Assignable m l × Assignable (mask_after s m l) r
  unfolding mask_after
  assignable_append m [] r a = (tt, a)
  assignable_append m (n ∷ l) r a = let q = assignable_append (m + 2 ^ port_at s n.spelled) l r a.2 in ((a.0, a.1, q.0), q.1)

  -- items that leave nothing waiting, turn the mask of assigned outputs from m to k, and keep the slots below n
  pub record Ends (is : List Item) (n k m : ℕ) (ls : List ℕ) : Type 0 where
    pub after : List ℕ
    pub checks : check_all t is (check [] ls m) ≡ check [] after k
    pub kept : KeptBelow n after ls

  ends_nothing : (n m : ℕ) (ls : List ℕ) → Ends [] n m m ls
  unfolding check_all
  ends_nothing n m ls = record { after = ls; checks = refl; kept = kept_refl n ls }

  ends_both : {is js : List Item} {n j k m : ℕ} {ls : List ℕ} (d : Ends is n j m ls) → Ends js n k j d.after → Ends (is ++ js) n k m ls
  ends_both {is} {js} {n} {j} {k} {m} {ls} d e =
      record { after = e.after; checks = check_append t is js (check [] ls m) ∙ ap (check_all t js) d.checks ∙ e.checks; kept = kept_trans (omega arith) e.kept d.kept }

  abbrev ends_weaker : {is : List Item} {n k m : ℕ} {ls : List ℕ} → Ends is n k m ls → Ends is 0 k m ls
  ends_weaker d = record { after = d.after; checks = d.checks; kept = record { long = d.kept.long; same = λ k h. absurd (omega arith) } }

  module _ (ports_small : (n : List ℕ) → port_width s.actor s.widths n ≤ 32) (memories_small : (n : List ℕ) → memory_width s.actor s.widths n ≤ 32) (memories_there : (n : List ℕ) → among ms n ≡ true → Celled s present taken 0 ms n) where
    pub items_ok : (lets : List (Let Slot)) (l : List Parts.Item) → Every (ReadsOk (called_of lets)) l → Every (ItemOk s present taken 0 ms lets) l
    items_ok lets l e = every_map _ _ (λ i h. one i h) l e
      where
        one : (i : Parts.Item) → ReadsOk (called_of lets) i → ItemOk s present taken 0 ms lets i
        one (Parts.Item.type x) h = tt
        one (Parts.Item.number n) h = h
        one (Parts.reads n) h = λ e. h (none_called lets n.spelled e)
        one (Parts.Item.value n) h = tt

    pub expression_small : (lets : List (Let Slot)) (e : Expr) → FormedAt ms whole e → SmallLets lets → IsWide (extent s (extents lets) e) → width_of (extent s (extents lets) e) ≤ 64
    expression_small lets e f h i = small_extent s present taken 0 ms lets ports_small memories_small memories_there whole e f tt h i

    expression_checks : (m : ℕ) (lets : List (Let Slot)) (e : Expr) (ws ls : List ℕ) → Fine ms e → More (called_of lets) e → IsWide (extent s (extents lets) e) → length ls ≡ 48 → HoldWidths ls lets → length ws ≤ 1
        → Checks t m (code s lets 0 e) 16 (width_of (extent s (extents lets) e) ∷ ws) ws ls
    expression_checks m lets e ws ls f x i l h k =
        code_checks s present taken m ms lets ports_small memories_small memories_there whole 0 e ws ls f.0 tt (record { long = l; room = let q = f.1 in omega arith; held = h }) i
        (expression_small lets e f.0 (small_lets ls lets h) i) (items_ok lets (items e) x.1) (let q = x.0 in omega arith)

    assign_item : (m : ℕ) (n : List ℕ) (w : ℕ) (ls : List ℕ) → Writable n → bit_of m (port_at s n) ≡ 0 → w ≤ port_width s.actor s.widths n → check1 t (Assign (port_at s n)) (w ∷ []) ls m ≡ check [] ls (m + 2 ^ port_at s n)
    unfolding output_ok test
    assign_item m n w ls o z h =
        let a : ltb (port_at s n) (Layout.port_count (plan_of s)) ≡ true = lt-ltb _ _ o.there in
        let b : leb 256 (Layout.port_at (plan_of s) (port_at s n)) ≡ true = rw o.output (le-leb 256 (port_width s.actor s.widths n + 256) (omega arith)) in
        let c : eqb (bit_of present (port_at s n)) 1 ≡ true = eq-eqb _ _ o.bound in
        let d : eqb (bit_of m (port_at s n)) 0 ≡ true = eq-eqb _ _ z in
        let e : eqb (bit_of taken (port_at s n)) 0 ≡ true = eq-eqb _ _ o.free in
        let f : leb w (Layout.port_at (plan_of s) (port_at s n) - 256) ≡ true = rw o.output (le-leb w (port_width s.actor s.widths n + 256 - 256) (omega arith)) in
        rw (test, output_ok, a, b, c, d, e, f)

    write_item : (n : List ℕ) (m a x : ℕ) (ls : List ℕ) → Celled s present taken 0 ms n → x ≤ memory_width s.actor s.widths n
        → check1 t (Write (memory_at s n) (cells_before s.actor.memories n) (cells_of s.actor.memories n)) (x ∷ a ∷ []) ls m ≡ check [] ls m
    unfolding test
    write_item n m a x ls c h =
        let f : leb x (Layout.memory_width_at (plan_of s) (memory_at s n)) ≡ true = rw c.1 (le-leb x (memory_width s.actor s.widths n) h) in
        rw (test, c.0, f)

    assignment_ends : (m : ℕ) (lets : List (Let Slot)) (x : Assignment) (ls : List ℕ) → FineAssignment s ms (extents lets) x → MoreAssignment (called_of lets) x → Assignable m (output_of x) → length ls ≡ 48 → HoldWidths ls lets
        → Ends (assignment_code s lets x) 16 (mask_after s m (output_of x)) m ls
    unfolding assignment_code output_of mask_after check_all check_step test
    assignment_ends m lets (assign n e) ls f x a l h =
        let q = fitted_wide s (extents lets) _ e f.1 in
        let r = expression_checks m lets e [] ls f.0 x q.0 l h (omega arith) in
        record {
          after = r.after;
          checks = check_append t (code s lets 0 e) (Assign (port_at s n.spelled) ∷ []) (check [] ls m) ∙ ap (check_all t (Assign (port_at s n.spelled) ∷ [])) r.checks ∙ assign_item m n.spelled _ r.after a.1 a.0 q.1;
          kept = r.kept;
        }
    assignment_ends m lets (write n b e) ls f x a l h =
        let q = fitted_wide s (extents lets) _ e f.3 in
        let c = memories_there n.spelled x.0 in
        let r = expression_checks m lets b [] ls f.0 x.1 f.1 l h (omega arith) in
        let u = expression_checks m lets e (width_of (extent s (extents lets) b) ∷ []) r.after f.2 x.2 q.0 (r.kept.long ∙ l) (widths_kept 16 lets (omega arith) r.kept h) (omega arith) in
        let i : Item = Write (memory_at s n.spelled) (cells_before s.actor.memories n.spelled) (cells_of s.actor.memories n.spelled) in
        record {
          after = u.after;
          checks = check_append t (code s lets 0 b) (code s lets 0 e ++ (i ∷ [])) (check [] ls m)
              ∙ ap (check_all t (code s lets 0 e ++ (i ∷ []))) r.checks
              ∙ check_append t (code s lets 0 e) (i ∷ []) (check (width_of (extent s (extents lets) b) ∷ []) r.after m)
              ∙ ap (check_all t (i ∷ [])) u.checks
              ∙ write_item n.spelled m (width_of (extent s (extents lets) b)) _ u.after c q.1;
          kept = kept_trans (omega arith) u.kept r.kept;
        }

    assignments_end : (m : ℕ) (lets : List (Let Slot)) (xs : List Assignment) (ls : List ℕ) → Every (FineAssignment s ms (extents lets)) xs → Every (MoreAssignment (called_of lets)) xs → Assignable m (each output_of xs) → length ls ≡ 48 → HoldWidths ls lets
        → Ends (each (assignment_code s lets) xs) 16 (mask_after s m (each output_of xs)) m ls
    unfolding each mask_after
    assignments_end m lets [] ls f x a l h = ends_nothing 16 m ls
    assignments_end m lets (y ∷ xs) ls f x a l h =
        let q = assignable_append m (output_of y) (each output_of xs) a in
        let d = assignment_ends m lets y ls f.0 x.0 q.0 l h in
        rw (mask_append s m (output_of y) (each output_of xs))
        (ends_both d (assignments_end (mask_after s m (output_of y)) lets xs d.after f.1 x.1 q.1 (d.kept.long ∙ l) (widths_kept 16 lets (omega arith) d.kept h)))

    -- ## `val`s

    -- a `val` is as wide as its value at least, and 64 bits at most
    pub val_fits : (lets : List (Let Slot)) (v : Val) → FormedAt ms whole v.value → SmallLets lets → IsWide (val_extent s (extents lets) v)
        → (width_of (extent s (extents lets) v.value) ≤ width_of (val_extent s (extents lets) v)) × (width_of (val_extent s (extents lets) v) ≤ 64)
    unfolding val_extent
    val_fits lets v f h i = go v.type i
      where
        go : (t : Declared)
            → IsWide (elim t [ untyped ↦ extent s (extents lets) v.value | Declared.typed t ↦ two_parts (limited v.called.at (type_width s.actor s.bindings s.widths t)) (fitted s (extents lets) (type_width s.actor s.bindings s.widths t) v.value) (λ k w. wide w) ])
            → (width_of (extent s (extents lets) v.value) ≤ width_of (elim t [ untyped ↦ extent s (extents lets) v.value | Declared.typed t ↦ two_parts (limited v.called.at (type_width s.actor s.bindings s.widths t)) (fitted s (extents lets) (type_width s.actor s.bindings s.widths t) v.value) (λ k w. wide w) ]))
            × (width_of (elim t [ untyped ↦ extent s (extents lets) v.value | Declared.typed t ↦ two_parts (limited v.called.at (type_width s.actor s.bindings s.widths t)) (fitted s (extents lets) (type_width s.actor s.bindings s.widths t) v.value) (λ k w. wide w) ]) ≤ 64)
        go untyped i = (omega arith, expression_small lets v.value f h i)
        go (Declared.typed t) i =
            let w = type_width s.actor s.bindings s.widths t in
            let a = two_wide (limited v.called.at w) (fitted s (extents lets) w v.value) (λ k w. wide w) i in
            let b = limited_wide v.called.at w a.0 in
            let c = fitted_wide s (extents lets) w v.value a.1 in
            let e = width_of_law _ _ a.3 ∙ width_of_law (fitted s (extents lets) w v.value) w c.2 in
            rw e (c.1, b.0)

    abbrev HoldsTo : ℕ → List ℕ → Slot → Type 0
    HoldsTo k ls x = (x.number < k) × (x.holds ≡ wide (get_or ls x.number 0)) × (get_or ls x.number 0 ≤ 64)

    abbrev HoldTo : ℕ → List ℕ → List (Let Slot) → Type 0
    HoldTo k ls lets = Every (λ l. HoldsTo k ls l.holds) lets

    hold_to : (k : ℕ) (ls : List ℕ) (lets : List (Let Slot)) → k ≤ 16 → HoldTo k ls lets → HoldWidths ls lets
    hold_to k ls lets h p = every_map (λ l. HoldsTo k ls l.holds) (λ l. HoldsWidth ls l.holds) (λ l q. (lt_of_lt_of_le q.0 h, q.1, q.2)) lets p

    hold_next : (k w : ℕ) (new ls : List ℕ) (lets : List (Let Slot)) → k ≤ 16 → KeptBelow 16 new ls → HoldTo k ls lets → HoldTo (suc k) (set new k w) lets
    hold_next k w new ls lets h c p =
        every_map (λ l. HoldsTo k ls l.holds) (λ l. HoldsTo (suc k) (set new k w) l.holds)
        (λ l q. let j = q.0 in let e : get_or (set new k w) l.holds.number 0 ≡ get_or ls l.holds.number 0 = get_or-set_other new k l.holds.number w 0 (omega arith) ∙ c.same l.holds.number (omega arith) in rw e (omega arith, q.1, q.2)) lets p

    record Keeps (is : List Item) (lets : List (Let Slot)) (n m : ℕ) (ls : List ℕ) : Type 0 where
      after : List ℕ
      checks : check_all t is (check [] ls m) ≡ check [] after m
      long : length after ≡ length ls
      held : HoldWidths after lets
      unkept : Unkept n after

    vals_keep : (m k : ℕ) (lets : List (Let Slot)) (vs : List Val) (ls : List ℕ) → FineVals s ms (extents lets) vs → MoreVals (called_of lets) vs → k + length vs ≤ 16 → length ls ≡ 48 → HoldTo k ls lets → Unkept k ls
        → Keeps (vals_code s k lets vs) (lets_from s k lets vs) (k + length vs) m ls
    unfolding vals_code lets_from check_all check_step extents called_of
    vals_keep m k lets [] ls f x n l p g = record { after = ls; checks = refl; long = refl; held = hold_to k ls lets (omega arith) p; unkept = λ j a b. g j (omega arith) b }
    vals_keep m k lets (v ∷ vs) ls f x n l p g =
        let h = hold_to k ls lets (omega arith) p in
        let i = val_inner s (extents lets) v f.1 in
        let r = expression_checks m lets v.value [] ls f.0 x.0 i l h (omega arith) in
        let w = width_of (val_extent s (extents lets) v) in
        let z = val_fits lets v f.0.0 (small_lets ls lets h) f.1 in
        let c : Let Slot = record { called = v.called.spelled; holds = record { number = k; holds = val_extent s (extents lets) v } } in
        let y : get_or (set r.after k w) k 0 ≡ w = get_or-set_same r.after k w 0 (rw r.kept.long (omega arith)) in
        let q = vals_keep m (suc k) (c ∷ lets) vs (set r.after k w) f.2 x.1 (omega arith) (length-set r.after k w ∙ r.kept.long ∙ l)
        (rw y (omega arith, wide_at_law (val_extent s (extents lets) v) f.1, z.1), hold_next k w r.after ls lets (omega arith) r.kept p) (unkept_next k w r.after (unkept_kept r.kept g)) in
        record {
          after = q.after;
          checks = check_append t (code s lets 0 v.value) (Keep k w ∷ vals_code s (suc k) (c ∷ lets) vs) (check [] ls m)
              ∙ ap (check_all t (Keep k w ∷ vals_code s (suc k) (c ∷ lets) vs)) r.checks
              ∙ ap (check_all t (vals_code s (suc k) (c ∷ lets) vs)) (val_item t m k (width_of (extent s (extents lets) v.value)) w [] r.after (omega arith) (rw r.kept.long (omega arith)) (unkept_kept r.kept g k (omega arith) (omega arith)) z.0 z.1) ∙ q.checks;
          long = q.long ∙ length-set r.after k w ∙ r.kept.long;
          held = q.held;
          unkept = λ j a b. q.unkept j (omega arith) b;
        }

    -- ## A rule's body

    more_names : (names others : List (List ℕ)) (e : Expr) → ((n : List ℕ) → among others n ≡ false → among names n ≡ false) → More names e → More others e
    more_names names others e w h = (h.0, every_map _ _ (λ i k. one i k) (items e) h.1)
      where
        one : (i : Parts.Item) → ReadsOk names i → ReadsOk others i
        one (Parts.Item.type x) h = tt
        one (Parts.Item.number n) h = h
        one (Parts.reads n) h = λ e. h (w n.spelled e)
        one (Parts.Item.value n) h = tt

    pub more_assignment : (names others : List (List ℕ)) (x : Assignment) → ((n : List ℕ) → among others n ≡ false → among names n ≡ false) → MoreAssignment names x → MoreAssignment others x
    more_assignment names others (assign n e) w h = more_names names others e w h
    more_assignment names others (write n a e) w h = (h.0, more_names names others a w h.1, more_names names others e w h.2)

    -- a statement's items, after which the slots of `val`s from n on hold nothing
    record Leaves (is : List Item) (n k m : ℕ) (ls : List ℕ) : Type 0 where
      ends : Ends is 0 k m ls
      unkept : Unkept n ends.after

    scoped_ends : (m k : ℕ) (vs : List Val) (xs : List Assignment) (ls : List ℕ) → FineStatement s ms (scoped vs xs) → MoreStatement (scoped vs xs) → Assignable m (each output_of xs) → k + length vs ≤ 16 → length ls ≡ 48 → Unkept k ls
        → Leaves (vals_code s k [] vs ++ each (assignment_code s (lets_from s k [] vs)) xs) (k + length vs) (mask_after s m (each output_of xs)) m ls
    unfolding extents called_of
    scoped_ends m k vs xs ls f x a n l g =
        let r = vals_keep m k [] vs ls f.0 x.0 n l tt g in
        let q = assignments_end m (lets_from s k [] vs) xs r.after (rw (lets_extents s k [] vs) f.1)
        (every_map _ _ (λ y h. more_assignment _ _ y (λ b e. (lets_called s k [] vs b e).0) h) xs x.1) a (r.long ∙ l) r.held in
        record {
          ends = record {
            after = q.after;
            checks = check_append t (vals_code s k [] vs) (each (assignment_code s (lets_from s k [] vs)) xs) (check [] ls m)
                ∙ ap (check_all t (each (assignment_code s (lets_from s k [] vs)) xs)) r.checks ∙ q.checks;
            kept = record { long = q.kept.long ∙ r.long; same = λ k h. absurd (omega arith) };
          };
          unkept = unkept_kept q.kept r.unkept;
        }

    -- a statement's items before those of the ones after it
    body_both : (is js : List Item) (m : ℕ) (ls : List ℕ) (l r : List Name) (d : Ends is 0 (mask_after s m l) m ls) → Ends js 0 (mask_after s (mask_after s m l) r) (mask_after s m l) d.after → Ends (is ++ js) 0 (mask_after s m (l ++ r)) m ls
    body_both is js m ls l r d e = rw (mask_append s m l r) (ends_both {is = is} {js = js} {n = 0} {j = mask_after s m l} {k = mask_after s (mask_after s m l) r} {m = m} {ls = ls} d e)

    body_scoped : (is js es : List Item) (m : ℕ) (ls : List ℕ) (l r : List Name) (d : Ends (is ++ js) 0 (mask_after s m l) m ls) → Ends es 0 (mask_after s (mask_after s m l) r) (mask_after s m l) d.after
        → Ends (is ++ (js ++ es)) 0 (mask_after s m (l ++ r)) m ls
    body_scoped is js es m ls l r d e = rw (← (append_assoc is js es)) (body_both (is ++ js) es m ls l r d e)

    pub body_ends : (m k : ℕ) (l : List Statement) (ls : List ℕ) → Every (FineStatement s ms) l → Every MoreStatement l → Assignable m (each outputs_of l) → k + vals_in l ≤ 16 → length ls ≡ 48 → Unkept k ls
        → Ends (body_code s k l) 0 (mask_after s m (each outputs_of l)) m ls
    unfolding body_code each outputs_of vals_in mask_after extents called_of
    body_ends m k [] ls f x a n h g = ends_nothing 0 m ls
    body_ends m k (alone y ∷ l) ls f x a n h g =
        let q = assignable_append m (output_of y) (each outputs_of l) a in
        let d = assignment_ends m [] y ls f.0 x.0 q.0 h tt in
        body_both (assignment_code s [] y) (body_code s k l) m ls (output_of y) (each outputs_of l) (ends_weaker d) (body_ends (mask_after s m (output_of y)) k l d.after f.1 x.1 q.1 n (d.kept.long ∙ h) (unkept_kept d.kept g))
    body_ends m k (scoped vs xs ∷ l) ls f x a n h g =
        let q = assignable_append m (each output_of xs) (each outputs_of l) a in
        let d = scoped_ends m k vs xs ls f.0 x.0 q.0 (omega arith) h g in
        body_scoped (vals_code s k [] vs) (each (assignment_code s (lets_from s k [] vs)) xs) (body_code s (k + length vs) l) m ls (each output_of xs) (each outputs_of l) d.ends
        (body_ends (mask_after s m (each output_of xs)) (k + length vs) l d.ends.after f.1 x.1 q.1 (omega arith) (d.ends.kept.long ∙ h) d.unkept)
