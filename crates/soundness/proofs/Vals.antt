-- "`val`s 16 in a rule" holds in a sound plan: a rule's code keeps slots of `val`s 16 times at most. Assumes nothing.
use Prim.Native.Nat.{ℕ, zero, suc, ◌+◌, ◌^◌, ◌≤◌, ◌<◌}
use mathlib.Core.Path.{◌≡◌, refl, sym, ◌∙◌}
use mathlib.Core.List.{List, [], ◌∷◌}
use mathlib.Core.Bool.{Bool, true, false, ◌&&◌}
use native.Mathlib.Omega.{arith}
use lib.ListN.{length, get_or, set, length-set, replicate, length-replicate, drop}
use lib.Seq.{get_or-set_same, get_or-set_other}
use lib.Dec.{eqb, leb, ltb}
use borrow.Author.Tests.{ltb-true, ltb-false, leb-true, eqb-true, eqb-false, ne_eqb}
use Rattle.language.specs.Limits.{limits}
use Rattle.plan.specs.declared.Item.{Item}
use Rattle.plan.specs.declared.Item.TheVariants.{Const, Port, Let, Cell, Range, Copies, Beside, Before, Between, Choice, Arm, Keep, Assign, Write, Bad}
use Rattle.plan.specs.Items.{decode_all}
use Rattle.plan.specs.Layout.{present_at, code_at, memory_width_at}
use Rattle.plan.specs.Sound.{Check, check, broken, Rules, push, test, check1, check_step, check_all, output_ok, memory_ok, slot_width, keepable, slots, unset, end_of, ended, rule_check}
use Rattle.plan.specs.Sound.{rules_of}
use Rattle.soundness.specs.Steps.{push_over}
use Rattle.std.specs.Prelude.{Option, Some, None}
use Rattle.plan.specs.Items.{acts_of}
use Rattle.plan.proofs.Tests.{and_left, and_right}
use Rattle.soundness.proofs.Laws.{pushes}
use Rattle.item_widths.proofs.Laws.{keepable_val}
use Rattle.soundness.proofs.Turns.{check_broken}

abbrev one : Bool → ℕ
one true = 1
one false = 0

-- the `val`s that items keep
abbrev pub keeps_val : Item → ℕ
keeps_val (Const w lo hi) = 0
keeps_val (Port i) = 0
keeps_val (Let k) = 0
keeps_val (Cell m f n) = 0
keeps_val (Range i j) = 0
keeps_val (Copies n w) = 0
keeps_val (Beside w) = 0
keeps_val (Before u w) = 0
keeps_val (Between o m n) = 0
keeps_val Choice = 0
keeps_val (Arm n k) = 0
keeps_val (Keep k w) = one (ltb k limits.vals)
keeps_val (Assign p) = 0
keeps_val (Write m f n) = 0
keeps_val Bad = 0

unfoldable pub vals_kept : List Item → ℕ
vals_kept [] = 0
vals_kept (i ∷ is) = keeps_val i + vals_kept is

-- ---- the slots below n that nothing was kept in

unfoldable free : List ℕ → ℕ → ℕ
free ls zero = 0
free ls (suc n) = one (eqb (get_or ls n unset) unset) + free ls n

free_most : (ls : List ℕ) (n : ℕ) → free ls n ≤ n
unfolding free
free_most ls zero = omega arith
free_most ls (suc n) = go (eqb (get_or ls n unset) unset) (free_most ls n)
  where
    go : (b : Bool) → free ls n ≤ n → one b + free ls n ≤ suc n
    go true h = omega arith
    go false h = omega arith

module _ (ls : List ℕ) (k w : ℕ) where
  -- one that is kept past them leaves them as they are
  free_past : (n : ℕ) → n ≤ k → free (set ls k w) n ≡ free ls n
  unfolding free
  free_past zero h = refl
  free_past (suc n) h = rw (get_or-set_other ls k n w unset (omega arith), free_past n (omega arith))

  -- one of them that is kept is one fewer
  free_kept : (n : ℕ) → k < n → k < length ls → get_or ls k unset ≡ unset → w ≤ 64 → 1 + free (set ls k w) n ≡ free ls n
  unfolding free
  free_kept zero h l e s = absurd (omega arith)
  free_kept (suc n) h l e s = go (eqb n k) refl (λ q. free_kept n q l e s)
    where
      go : (b : Bool) → eqb n k ≡ b → (k < n → 1 + free (set ls k w) n ≡ free ls n)
          → 1 + (one (eqb (get_or (set ls k w) n unset) unset) + free (set ls k w) n) ≡ one (eqb (get_or ls n unset) unset) + free ls n
      go true q f = rw (eqb-true n k q, get_or-set_same ls k w unset l, e, free_past k (omega arith), ne_eqb w unset (λ z. omega arith)) (omega arith)
      go false q f = let z = eqb-false n k q in rw (get_or-set_other ls k n w unset z) (let r = f (omega arith) in omega arith)

-- ---- an item

-- what holds of the slots after a check, unless it is broken
abbrev After : (List ℕ → Type 0) → Check → Type 0
After P (check ws ls d) = P ls
After P broken = Unit {0}

module _ (P : List ℕ → Type 0) where
  after_test : (b : Bool) (c : Check) → (b ≡ true → After P c) → After P (test b c)
  unfolding test
  after_test true c f = f refl
  after_test false c f = tt

  after_push : (w : ℕ) (ws ls : List ℕ) (d : ℕ) → P ls → After P (push w ws ls d)
  unfolding push
  after_push w ws ls d h = go (leb w 64 && ltb (length ws) 256)
    where
      go : (b : Bool) → After P (elim b [ true ↦ check (w ∷ ws) ls d | false ↦ broken ])
      go true = h
      go false = tt

  after_over : (k : ℕ) (v : Option ℕ) (ws ls : List ℕ) (d : ℕ) → P ls → After P (push_over k v ws ls d)
  unfolding push_over
  after_over k None ws ls d h = tt
  after_over k (Some w) ws ls d h = go (ltb (length ws) k)
    where
      go : (b : Bool) → After P (elim b [ true ↦ broken | false ↦ push w (drop k ws) ls d ])
      go true = tt
      go false = after_push w (drop k ws) ls d h

-- the slots that are free, and the `val`s kept since
abbrev Fewer : ℕ → List ℕ → List ℕ → Type 0
Fewer n ls new = (length new ≡ slots) × (n + free new 16 ≤ free ls 16)

module _ (p : List ℕ) (present taken : ℕ) where
  abbrev t : Rules
  t = rules_of p present taken

  leaving : (i : Item) (ws ls : List ℕ) (d : ℕ) → acts_of i ≡ false → length ls ≡ slots → After (Fewer 0 ls) (check1 t i ws ls d)
  leaving i ws ls d h l = rw (pushes p present taken ls d i ws h) (after_over (Fewer 0 ls) _ _ ws ls d (l, omega arith))

  keeping : (k w : ℕ) (ls : List ℕ) → length ls ≡ slots → keepable t ls k ≡ true → w ≤ 64 → Fewer (one (ltb k 16)) ls (set ls k w)
  unfolding slot_width
  keeping k w ls l h s = (length-set ls k w ∙ l, go (ltb k 16) refl)
    where
      go : (b : Bool) → ltb k 16 ≡ b → one b + free (set ls k w) 16 ≤ free ls 16
      go true e =
          let q = ltb-true k 16 e in
          let u = eqb-true (get_or ls k unset) unset (sym (keepable_val t ls k q) ∙ h) in
          let f = free_kept ls k w 16 q (omega arith) u s in omega arith
      go false e = let f = free_past ls k w 16 (ltb-false k 16 e) in omega arith

  step : (i : Item) (ws ls : List ℕ) (d : ℕ) → length ls ≡ slots → After (Fewer (keeps_val i) ls) (check1 t i ws ls d)
  step (Const w lo hi) ws ls d l = leaving (Const w lo hi) ws ls d refl l
  step (Port i) ws ls d l = leaving (Port i) ws ls d refl l
  step (Let k) ws ls d l = leaving (Let k) ws ls d refl l
  step (Cell m f n) ws ls d l = leaving (Cell m f n) ws ls d refl l
  step (Range i j) ws ls d l = leaving (Range i j) ws ls d refl l
  step (Copies n w) ws ls d l = leaving (Copies n w) ws ls d refl l
  step (Beside w) ws ls d l = leaving (Beside w) ws ls d refl l
  step (Before u w) ws ls d l = leaving (Before u w) ws ls d refl l
  step (Between o m n) ws ls d l = leaving (Between o m n) ws ls d refl l
  step Choice ws ls d l = leaving Choice ws ls d refl l
  step (Arm n k) ws ls d l = leaving (Arm n k) ws ls d refl l
  step (Keep k w) [] ls d l = tt
  step (Keep k w) (x ∷ ws) ls d l =
      after_test (Fewer (one (ltb k 16)) ls) (keepable t ls k && leb x w && leb w 64) (check ws (set ls k w) d)
      (λ h. keeping k w ls l (and_left (keepable t ls k) (leb x w) (and_left (keepable t ls k && leb x w) (leb w 64) h)) (leb-true w 64 (and_right (keepable t ls k && leb x w) (leb w 64) h)))
  step (Assign n) [] ls d l = tt
  step (Assign n) (x ∷ ws) ls d l = after_test (Fewer 0 ls) (output_ok t d n x) (check ws ls (d + 2 ^ n)) (λ h. (l, omega arith))
  step (Write m f n) [] ls d l = tt
  step (Write m f n) (x ∷ []) ls d l = tt
  step (Write m f n) (x ∷ a ∷ ws) ls d l = after_test (Fewer 0 ls) (memory_ok t m f n && leb x (memory_width_at p m)) (check ws ls d) (λ h. (l, omega arith))
  step Bad ws ls d l = tt

  -- ---- a rule's code

  few : (is : List Item) (ws ls : List ℕ) (d : ℕ) → length ls ≡ slots → After (Fewer (vals_kept is) ls) (check_all t is (check ws ls d))
  unfolding check_all check_step vals_kept
  few [] ws ls d l = (l, omega arith)
  few (i ∷ is) ws ls d l = go (check1 t i ws ls d) (step i ws ls d l) (λ vs new e h. few is vs new e h)
    where
      go : (c : Check) → After (Fewer (keeps_val i) ls) c → ((vs new : List ℕ) (e : ℕ) → length new ≡ slots → After (Fewer (vals_kept is) new) (check_all t is (check vs new e)))
          → After (Fewer (keeps_val i + vals_kept is) ls) (check_all t is c)
      go broken h f = rw (check_broken t is) tt
      go (check vs new e) h f = more (check_all t is (check vs new e)) (f vs new e h.0)
        where
          more : (c : Check) → After (Fewer (vals_kept is) new) c → After (Fewer (keeps_val i + vals_kept is) ls) c
          more broken g = tt
          more (check us newer e) g = (g.0, let a = h.1 in let b = g.1 in omega arith)

-- THE LIMIT, of a rule that passes the check
pub vals_few : (p : List ℕ) (taken r d : ℕ) → rule_check p taken r ≡ ended d → vals_kept (decode_all (code_at p r)) ≤ limits.vals
unfolding rule_check end_of
vals_few p taken r d h =
    go (check_all (rules_of p (present_at p r) taken) (decode_all (code_at p r)) (check [] start 0)) (few p (present_at p r) taken (decode_all (code_at p r)) [] start 0 (length-replicate slots unset)) h
  where
    start : List ℕ
    start = replicate slots unset

    go : (c : Check) → After (Fewer (vals_kept (decode_all (code_at p r))) start) c → end_of c ≡ ended d → vals_kept (decode_all (code_at p r)) ≤ limits.vals
    go (check ws ls e) g q = let a = g.1 in let b = free_most start 16 in omega arith
    go broken g q = let y : ◌≡◌ {A = ℕ} 0 1 = cc q in absurd (omega arith)
