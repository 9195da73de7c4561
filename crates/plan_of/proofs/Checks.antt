-- One expression: its code is sound, and leaves the width of the expression waiting.
use Prim.Native.Nat.{ℕ, zero, suc, ◌+◌, ◌*◌, ◌/◌, ◌%◌, ◌^◌, max, ◌≤◌, ◌<◌}
use mathlib.Core.Path.{◌≡◌, refl, sym, ap, ◌∙◌, subst}
use mathlib.Core.List.{List, [], ◌∷◌, ◌++◌}
use mathlib.Core.Bool.{Bool, true, false, ◌&&◌}
use mathlib.Core.Option.{Option, none, some}
use native.Mathlib.Omega.{arith}
use native.Mathlib.Nat.{le-max_left, le-max_right, lt_of_lt_of_le}
use lib.ListN.{length, get_or, set, length-set}
use lib.Seq.{get_or-set_same}
use lib.Dec.{leb, ltb, eqb, lit<}
use lib.Pow.{pow_mono}
use borrow.Author.Tests.{eqb-true, eqb-false, eq-eqb, lt-ltb, le-leb}
use Rattle.language.specs.Text.{same, among}
use Rattle.language.specs.Tree.{Expr, plain, sized, copies, read, cell, bit, range, inside, joined, beside, unary, binary, choice, either, select, arm, default}
use Rattle.language.specs.Parts.{items}
use Rattle.language.specs.Parts as Parts
use Rattle.language.specs.Counts.{expr_words}
use Rattle.language.specs.Types.{fewest, fewest_in}
use Rattle.language.specs.Widths.{port_width, memory_width}
use Rattle.language.specs.Values.{plain_width, range_width, unary_width, binary_width}
use Rattle.language.specs.declared.Unary.{Unary}
use Rattle.language.specs.declared.Unary.TheVariants.{Invert, Plus, Not, All, NotAll, Any, NotAny, Odd, NotOdd}
use Rattle.language.specs.declared.Binary.{Binary}
use Rattle.language.specs.Sizes.{Setting, Extent, wide, used, Let, let_named, breadth_of, amount_of, position_at, read_extent, extent}
use Rattle.language.specs.Meaning.{port_at, cells_of, cells_before}
use Rattle.plan.specs.declared.Item.{Item}
use Rattle.plan.specs.declared.Item.TheVariants.{Const, Port, Let as Kept, Cell, Range, Copies, Beside, Before, Between, Choice, Arm, Keep}
use Rattle.plan.specs.Sound.{Rules, Check, check, push, test, input_ok, memory_ok, slot_width, keepable, unset, check1, check_step, check_all}
use Rattle.plan.specs.Layout as Layout
use Rattle.item_widths.proofs.Laws.{keepable_val, keepable_case}
use Rattle.plan.proofs.Lists.{get_d_any_law}
use Rattle.placed.specs.Placed.{Every}
use Rattle.placed.proofs.Every.{every_map, every_append}
use Rattle.plan_of.specs.PlanOf.{Slot, extents, width_of, wide_of, constant, read_item, memory_at, code, plan_of}
use Rattle.plan_of.specs.Formed.{Kind, whole, parts, arms, IsParts, IsArms, FormedAt, nest}
use Rattle.placed.proofs.Names.{true_both}
use Rattle.plan_of.proofs.Extents.{IsWide, width_of_law, one_wide, two_wide, choice_wide, limited_wide, sized_wide, positions_wide}
use Rattle.plan_of.proofs.Runs.{KeptBelow, kept_refl, kept_trans, kept_set, at_fifteen}
use Rattle.plan_of.proofs.Faultless.{sized_words}

-- ## The fewest bits that hold a number

fewest_holds : (f n : ℕ) → n ≤ f → n < 2 ^ fewest_in f n
unfolding fewest_in
fewest_holds zero n h = let e : n ≡ 0 = omega arith in rw e (lit< tt)
fewest_holds (suc f) n h = go (eqb n 0) refl (fewest_holds f (n / 2))
  where
    go : (b : Bool) → eqb n 0 ≡ b → (n / 2 ≤ f → n / 2 < 2 ^ fewest_in f (n / 2)) → n < 2 ^ (elim b [ true ↦ 0 | false ↦ suc (fewest_in f (n / 2)) ])
    go true e r = rw (eqb-true n 0 e) (lit< tt)
    go false e r = let z = eqb-false n 0 e in let q = r (omega arith) in omega arith

fewest_least : (f n k : ℕ) → n < 2 ^ k → fewest_in f n ≤ k
unfolding fewest_in
fewest_least zero n k h = omega arith
fewest_least (suc f) n k h = go (eqb n 0) refl k h (λ j. fewest_least f (n / 2) j)
  where
    go : (b : Bool) → eqb n 0 ≡ b → (k : ℕ) → n < 2 ^ k → ((j : ℕ) → n / 2 < 2 ^ j → fewest_in f (n / 2) ≤ j) → (elim b [ true ↦ 0 | false ↦ suc (fewest_in f (n / 2)) ]) ≤ k
    go true e k h r = omega arith
    go false e zero h r = let z = eqb-false n 0 e in absurd (omega arith)
    go false e (suc k) h r = let q = r k (omega arith) in omega arith

pub plain_holds : (n : ℕ) → n < 2 ^ plain_width n
unfolding plain_width fewest
plain_holds n = lt_of_lt_of_le (fewest_holds n n (omega arith)) (pow_mono (le-max_right 1 (fewest_in n n)))

pub plain_small : (n : ℕ) → n ≤ 4_294_967_295 → plain_width n ≤ 32
unfolding plain_width fewest
plain_small n h = let q = fewest_least n n 32 (omega arith) in omega arith

-- ## Words, and widths of at most 64

pub some_words : (e : Expr) → 1 ≤ expr_words e
unfolding expr_words
some_words (plain n) = omega arith
some_words (sized w a) = sized_words w a
some_words (copies n e) = omega arith
some_words (read n) = omega arith
some_words (cell n a) = omega arith
some_words (bit e p i) = omega arith
some_words (range e p i j) = omega arith
some_words (inside p e) = omega arith
some_words (joined p e) = omega arith
some_words (beside a b) = omega arith
some_words (unary u e) = omega arith
some_words (binary o a b) = omega arith
some_words (choice c a b) = omega arith
some_words (either p c a b) = omega arith
some_words (select p e a) = omega arith
some_words (arm n e r) = omega arith
some_words (default p e) = omega arith

unary_small : (u : Unary) (w : ℕ) → w ≤ 64 → unary_width u w ≤ 64
unfolding unary_width
unary_small Invert w h = h
unary_small Plus w h = h
unary_small Not w h = omega arith
unary_small All w h = omega arith
unary_small NotAll w h = omega arith
unary_small Any w h = omega arith
unary_small NotAny w h = omega arith
unary_small Odd w h = omega arith
unary_small NotOdd w h = omega arith

range_small : (i j w : ℕ) → i < w → j < w → range_width i j ≤ w
unfolding range_width
range_small i j w h k = omega arith

-- ## The checker's steps

push_ok : (w : ℕ) (ws ls : List ℕ) (m : ℕ) → w ≤ 64 → length ws < 256 → push w ws ls m ≡ check (w ∷ ws) ls m
unfolding push
push_ok w ws ls m h k = rw (push, le-leb w 64 h, lt-ltb (length ws) 256 k)

test_ok : (b : Bool) (c : Check) → b ≡ true → test b c ≡ c
unfolding test
test_ok b c h = rw (test, h)

module _ (t : Rules) where
  pub check_append : (xs ys : List Item) (c : Check) → check_all t (xs ++ ys) c ≡ check_all t ys (check_all t xs c)
  unfolding check_all
  check_append [] ys c = refl
  check_append (x ∷ xs) ys c = check_append xs ys (check_step t x c)

  module _ (m : ℕ) where
    -- items that turn the waiting widths `ws` into `out`
    pub record Checks (is : List Item) (n : ℕ) (out ws ls : List ℕ) : Type 0 where
      pub after : List ℕ
      pub checks : check_all t is (check ws ls m) ≡ check out after m
      pub kept : KeptBelow n after ls

    pub both : {xs ys : List Item} {n : ℕ} {out mid ws ls : List ℕ} → Checks xs n mid ws ls → ((new : List ℕ) → KeptBelow n new ls → Checks ys n out mid new) → Checks (xs ++ ys) n out ws ls
    both {xs} {ys} {n} {out} {mid} {ws} {ls} r f =
        let q = f r.after r.kept in
        record {
          after = q.after;
          checks = check_append xs ys (check ws ls m) ∙ ap (check_all t ys) r.checks ∙ q.checks;
          kept = kept_trans (omega arith) q.kept r.kept;
        }

    one : {i : Item} {n : ℕ} {out ws ls : List ℕ} → check1 t i ws ls m ≡ check out ls m → Checks (i ∷ []) n out ws ls
    unfolding check_all check_step
    one {n = n} {ls = ls} e = record { after = ls; checks = e; kept = kept_refl n ls }

    wide_as : {is : List Item} {n v w : ℕ} {us ws ls : List ℕ} → w ≡ v → Checks is n (v ∷ us) ws ls → Checks is n (w ∷ us) ws ls
    wide_as {us = us} e r = record { after = r.after; checks = r.checks ∙ ap (λ (x : ℕ). check (x ∷ us) r.after m) (sym e); kept = r.kept }

    -- ## Items

    module _ (ws ls : List ℕ) (room : length ws < 256) where
      const_item : (w v : ℕ) → w ≤ 64 → v < 2 ^ w → check1 t (Const w (v % 2 ^ 32) (v / 2 ^ 32)) ws ls m ≡ check (w ∷ ws) ls m
      const_item w v h k =
          let e : v % 2 ^ 32 + v / 2 ^ 32 * 2 ^ 32 ≡ v = omega arith in
          test_ok (leb w 64 && ltb (v % 2 ^ 32 + v / 2 ^ 32 * 2 ^ 32) (2 ^ w)) _ (rw e (true_both (leb w 64) (ltb v (2 ^ w)) (le-leb w 64 h) (lt-ltb v (2 ^ w) k))) ∙ push_ok w ws ls m h room

      port_item : (i w : ℕ) → input_ok t i ≡ true → Layout.port_at t.plan i ≡ w → w ≤ 64 → check1 t (Port i) ws ls m ≡ check (w ∷ ws) ls m
      port_item i w h e k = test_ok (input_ok t i) _ h ∙ rw e (push_ok w ws ls m k room)

      let_item : (k w : ℕ) → k < 16 → k < length ls → get_or ls k 0 ≡ w → w ≤ 64 → check1 t (Kept k) ws ls m ≡ check (w ∷ ws) ls m
      unfolding slot_width
      let_item k w j l e h = test_ok (ltb k 16) _ (lt-ltb k 16 j) ∙ rw (slot_width, get_d_any_law ls k 99 0 l, e) (push_ok w ws ls m h room)

      cell_item : (k f n x w : ℕ) → memory_ok t k f n ≡ true → Layout.memory_width_at t.plan k ≡ w → w ≤ 64 → check1 t (Cell k f n) (x ∷ ws) ls m ≡ check (w ∷ ws) ls m
      cell_item k f n x w h e l = test_ok (memory_ok t k f n) _ h ∙ rw e (push_ok w ws ls m l room)

      range_item : (i j x : ℕ) → i < x → j < x → x ≤ 64 → check1 t (Range i j) (x ∷ ws) ls m ≡ check (range_width i j ∷ ws) ls m
      range_item i j x h k l = test_ok (ltb i x && ltb j x) _ (true_both _ _ (lt-ltb i x h) (lt-ltb j x k)) ∙ push_ok (range_width i j) ws ls m (let q = range_small i j x h k in omega arith) room

      copies_item : (n w : ℕ) → n ≤ 64 → n * w ≤ 64 → check1 t (Copies n w) (w ∷ ws) ls m ≡ check (n * w ∷ ws) ls m
      copies_item n w h k = test_ok (eqb w w && leb n 64) _ (true_both _ _ (eq-eqb w w refl) (le-leb n 64 h)) ∙ push_ok (n * w) ws ls m k room

      beside_item : (x y : ℕ) → x + y ≤ 64 → check1 t (Beside y) (y ∷ x ∷ ws) ls m ≡ check ((x + y) ∷ ws) ls m
      beside_item x y h = test_ok (eqb y y) _ (eq-eqb y y refl) ∙ push_ok (x + y) ws ls m h room

      before_item : (u : Unary) (w : ℕ) → unary_width u w ≤ 64 → check1 t (Before u w) (w ∷ ws) ls m ≡ check (unary_width u w ∷ ws) ls m
      before_item u w h = test_ok (eqb w w) _ (eq-eqb w w refl) ∙ push_ok (unary_width u w) ws ls m h room

      between_item : (o : Binary) (x y : ℕ) → binary_width o x y ≤ 64 → check1 t (Between o x y) (y ∷ x ∷ ws) ls m ≡ check (binary_width o x y ∷ ws) ls m
      between_item o x y h = test_ok (eqb x x && eqb y y) _ (true_both _ _ (eq-eqb x x refl) (eq-eqb y y refl)) ∙ push_ok (binary_width o x y) ws ls m h room

      choice_item : (c x y : ℕ) → x ≤ 64 → y ≤ 64 → check1 t Choice (y ∷ x ∷ c ∷ ws) ls m ≡ check (max x y ∷ ws) ls m
      choice_item c x y h k = push_ok (max x y) ws ls m (omega arith) room

      arm_item : (n k x y : ℕ) → 16 ≤ k → k < length ls → get_or ls k 0 ≤ 64 → x ≤ 64 → y ≤ 64 → check1 t (Arm n k) (y ∷ x ∷ ws) ls m ≡ check (max x y ∷ ws) ls m
      unfolding slot_width
      arm_item n k x y c l g h j =
          test_ok (leb 16 k && leb (slot_width t ls k) 64) _ (true_both _ _ (le-leb 16 k c) (rw (slot_width, get_d_any_law ls k 99 0 l) (le-leb _ 64 g))) ∙ push_ok (max x y) ws ls m (omega arith) room

    keep_item : (k x w : ℕ) (ws ls : List ℕ) → keepable t ls k ≡ true → x ≤ w → w ≤ 64 → check1 t (Keep k w) (x ∷ ws) ls m ≡ check ws (set ls k w) m
    keep_item k x w ws ls h j l = test_ok (keepable t ls k && leb x w && leb w 64) _ (true_both _ _ (true_both _ _ h (le-leb x w j)) (le-leb w 64 l))

    -- a `val` goes into a slot that nothing was kept in
    pub val_item : (k x w : ℕ) (ws ls : List ℕ) → k < 16 → k < length ls → get_or ls k 0 ≡ unset → x ≤ w → w ≤ 64 → check1 t (Keep k w) (x ∷ ws) ls m ≡ check ws (set ls k w) m
    unfolding slot_width
    val_item k x w ws ls h l e j = keep_item k x w ws ls (keepable_val t ls k h ∙ eq-eqb (get_or ls k unset) unset (get_d_any_law ls k unset 0 l ∙ e)) j

    case_item : (k x w : ℕ) (ws ls : List ℕ) → 16 ≤ k → k < 48 → x ≤ w → w ≤ 64 → check1 t (Keep k w) (x ∷ ws) ls m ≡ check ws (set ls k w) m
    case_item k x w ws ls h l j = keep_item k x w ws ls (keepable_case t ls k h ∙ lt-ltb k 48 l) j

-- ## What an expression needs

-- a slot holds a width of its `let`
abbrev pub HoldsWidth : List ℕ → Slot → Type 0
HoldsWidth ls x = (x.number < 16) × (x.holds ≡ wide (get_or ls x.number 0)) × (get_or ls x.number 0 ≤ 64)

abbrev pub HoldWidths : List ℕ → List (Let Slot) → Type 0
HoldWidths ls lets = Every (λ l. HoldsWidth ls l.holds) lets

pub widths_kept : {new old : List ℕ} (n : ℕ) (lets : List (Let Slot)) → 16 ≤ n → KeptBelow n new old → HoldWidths old lets → HoldWidths new lets
widths_kept {new} {old} n lets h k p =
    every_map (λ l. HoldsWidth old l.holds) (λ l. HoldsWidth new l.holds)
    (λ l q. let j = q.0 in rw (k.same l.holds.number (omega arith)) q) lets p

pub named_holds : (P : Slot → Type 0) (lets : List (Let Slot)) (n : List ℕ) (x : Slot) → Every (λ l. P l.holds) lets → let_named lets n ≡ some x → P x
unfolding let_named
named_holds P [] n x p e = let z : ◌≡◌ {A = ℕ} 0 1 = cc in absurd (omega arith)
named_holds P (l ∷ ls) n x p e = go (same l.called n) e (λ q. named_holds P ls n x p.1 q)
  where
    go : (b : Bool) → (elim b [ true ↦ some l.holds | false ↦ let_named ls n ]) ≡ some x → (let_named ls n ≡ some x → P x) → P x
    go true e f = let z : l.holds ≡ x = cc in subst P z p.0
    go false e f = f e

named_extents : (lets : List (Let Slot)) (n : List ℕ) → let_named (extents lets) n ≡ (elim (let_named lets n) as (λ _. Option Extent) [ some x ↦ some x.holds | none ↦ none ])
unfolding let_named extents
named_extents [] n = refl
named_extents (l ∷ ls) n = go (same l.called n) (named_extents ls n)
  where
    go : (b : Bool) → let_named (extents ls) n ≡ (elim (let_named ls n) as (λ _. Option Extent) [ some x ↦ some x.holds | none ↦ none ])
        → ◌≡◌ {A = Option Extent} (elim b [ true ↦ some l.holds.holds | false ↦ let_named (extents ls) n ]) (elim (elim b as (λ _. Option Slot) [ true ↦ some l.holds | false ↦ let_named ls n ]) [ some x ↦ some x.holds | none ↦ none ])
    go true e = refl
    go false e = e

-- no `let` is wider than 64 bits
abbrev pub SmallLets : List (Let Slot) → Type 0
SmallLets lets = Every (λ l. width_of (used l.holds.holds) ≤ 64) lets

pub small_lets : (ls : List ℕ) (lets : List (Let Slot)) → HoldWidths ls lets → SmallLets lets
unfolding width_of used
small_lets ls lets h = every_map (λ l. HoldsWidth ls l.holds) (λ l. width_of (used l.holds.holds) ≤ 64) (λ l q. rw q.1 q.2) lets h

module _ (s : Setting) (present taken m : ℕ) (ms : List (List ℕ)) where
  abbrev t : Rules
  t = record { plan = plan_of s; present = present; taken = taken }

  -- a port that a rule's expressions may read
  abbrev pub Readable : List ℕ → Type 0
  Readable n = (input_ok t (port_at s n) ≡ true) × (Layout.port_at (plan_of s) (port_at s n) ≡ port_width s.actor s.widths n)

  -- a memory that they may read
  abbrev pub Celled : List ℕ → Type 0
  Celled n = (memory_ok t (memory_at s n) (cells_before s.actor.memories n) (cells_of s.actor.memories n) ≡ true) × (Layout.memory_width_at (plan_of s) (memory_at s n) ≡ memory_width s.actor s.widths n)

  module _ (lets : List (Let Slot)) where
    abbrev pub ItemOk : Parts.Item → Type 0
    ItemOk (Parts.Item.type x) = Unit {0}
    ItemOk (Parts.Item.number n) = n.value ≤ 64
    ItemOk (Parts.reads n) = let_named lets n.spelled ≡ none → Readable n.spelled
    ItemOk (Parts.Item.value n) = Unit {0}

    pub record SoundAt (d n : ℕ) (ls : List ℕ) : Type 0 where
      pub long : length ls ≡ 48
      pub room : 16 + (d + n) ≤ 48
      pub held : HoldWidths ls lets

    kept_sound : {d n : ℕ} {new ls : List ℕ} → SoundAt d n ls → KeptBelow (16 + d) new ls → SoundAt d n new
    kept_sound {d} {n} {new} {ls} h k = record { long = k.long ∙ h.long; room = h.room; held = widths_kept (16 + d) lets (omega arith) k h.held }

    less_sound : {d k n : ℕ} {ls : List ℕ} → SoundAt d n ls → k ≤ n → SoundAt d k ls
    less_sound h k = record { long = h.long; room = let r = h.room in omega arith; held = h.held }

    abbrev at : Expr → Extent
    at e = extent s (extents lets) e

    abbrev wd : Expr → ℕ
    wd e = width_of (extent s (extents lets) e)

    abbrev pub SelectsWidth : Kind → ℕ → List ℕ → Type 0
    SelectsWidth whole d ls = Unit {0}
    SelectsWidth parts d ls = Unit {0}
    SelectsWidth arms d ls = (1 ≤ d) × (get_or ls (15 + d) 0 ≤ 64)

    abbrev pub NotParts : Kind → Type 0
    NotParts whole = Unit {0}
    NotParts parts = ⊥
    NotParts arms = Unit {0}

    not_parts : (x : Kind) → NotParts x → IsParts x → ⊥
    not_parts whole a b = b
    not_parts parts a b = a
    not_parts arms a b = b

    module _ (ports_small : (n : List ℕ) → port_width s.actor s.widths n ≤ 32) (memories_small : (n : List ℕ) → memory_width s.actor s.widths n ≤ 32) (memories_there : (n : List ℕ) → among ms n ≡ true → Celled n) where
      read_small : (n : List ℕ) → SmallLets lets → width_of (read_extent s (extents lets) n) ≤ 64
      unfolding read_extent used width_of
      read_small n h = rw (read_extent, named_extents lets n) (go (let_named lets n) refl)
        where
          go : (x : Option Slot) → let_named lets n ≡ x → width_of (elim (elim x as (λ _. Option Extent) [ some y ↦ some y.holds | none ↦ none ]) [ some x ↦ used x | none ↦ wide (port_width s.actor s.widths n) ]) ≤ 64
          go none e = let q = ports_small n in omega arith
          go (some x) e = named_holds (λ y. width_of (used y.holds) ≤ 64) lets n x h e

      -- an expression that stands by itself, and the arms of a case, have at most 64 bits
      pub small_extent : (x : Kind) (e : Expr) → FormedAt ms x e → NotParts x → SmallLets lets → IsWide (at e) → wd e ≤ 64
      unfolding extent width_of
      small_extent x (plain n) f k h i = let q = plain_small n.value f.1 in omega arith
      small_extent x (sized w a) f k h i = let q = sized_wide (breadth_of s w) (amount_of s a) _ i in rw (width_of_law (at (sized w a)) _ q.2) q.0
      small_extent x (copies n e) f k h i = let a = one_wide (at e) _ i in let b = limited_wide _ _ a.1 in rw (width_of_law (at (copies n e)) _ (a.2 ∙ b.1)) b.0
      small_extent x (read n) f k h i = read_small n.spelled h
      small_extent x (cell n e) f k h i = let a = one_wide (at e) _ i in rw (width_of_law (at (cell n e)) _ a.2) (let q = memories_small n.spelled in omega arith)
      small_extent x (bit e p j) f k h i =
          let a = one_wide (at e) _ i in let b = positions_wide s p _ (position_at s j) (position_at s j) a.1 in
          rw (width_of_law (at (bit e p j)) _ (a.2 ∙ b.2)) (let q = range_small _ _ (wd e) b.0 b.1 in let r = small_extent whole e f.1 tt h a.0 in omega arith)
      small_extent x (range e p j l) f k h i =
          let a = one_wide (at e) _ i in let b = positions_wide s p _ (position_at s j) (position_at s l) a.1 in
          rw (width_of_law (at (range e p j l)) _ (a.2 ∙ b.2)) (let q = range_small _ _ (wd e) b.0 b.1 in let r = small_extent whole e f.1 tt h a.0 in omega arith)
      small_extent x (inside p e) f k h i = small_extent whole e f.1 tt h i
      small_extent x (joined p e) f k h i = let a = one_wide (at e) _ i in let b = limited_wide _ _ a.1 in rw (width_of_law (at (joined p e)) _ (a.2 ∙ b.1)) b.0
      small_extent x (beside a b) f k h i = absurd (not_parts x k f.0)
      small_extent x (unary u e) f k h i = let a = one_wide (at e) _ i in rw (width_of_law (at (unary u e)) _ a.2) (unary_small u.which (wd e) (small_extent whole e f.1 tt h a.0))
      small_extent x (binary o a b) f k h i = let q = two_wide (at a) (at b) _ i in let r = limited_wide _ _ q.2 in rw (width_of_law (at (binary o a b)) _ (q.3 ∙ r.1)) r.0
      small_extent x (choice c a b) f k h i =
          let q = choice_wide (at c) (at a) (at b) i in
          rw (width_of_law (at (choice c a b)) _ q.3) (let u = small_extent whole a f.2 tt h q.1 in let v = small_extent whole b f.3 tt h q.2 in omega arith)
      small_extent x (either p c a b) f k h i =
          let q = choice_wide (at c) (at a) (at b) i in
          rw (width_of_law (at (either p c a b)) _ q.3) (let u = small_extent whole a f.2 tt h q.1 in let v = small_extent whole b f.3 tt h q.2 in omega arith)
      small_extent x (select p e a) f k h i = let q = two_wide (at e) (at a) _ i in rw (width_of_law (at (select p e a)) _ q.3) (small_extent arms a f.2 tt h q.1)
      small_extent x (arm n e r) f k h i = let q = two_wide (at e) (at r) _ i in rw (width_of_law (at (arm n e r)) _ q.3) (let u = small_extent whole e f.1 tt h q.0 in let v = small_extent arms r f.2 tt h q.1 in omega arith)
      small_extent x (default p e) f k h i = small_extent whole e f.1 tt h i

      abbrev C : List Item → ℕ → List ℕ → List ℕ → List ℕ → Type 0
      C is n out ws ls = Checks t m is n out ws ls

      read_checks : (k : ℕ) (n ws ls : List ℕ) → HoldWidths ls lets → length ls ≡ 48 → (let_named lets n ≡ none → Readable n) → length ws < 256 → C (read_item s lets n ∷ []) k (width_of (read_extent s (extents lets) n) ∷ ws) ws ls
      unfolding read_item read_extent width_of used
      read_checks k n ws ls h l r room = one t m (rw (read_extent, named_extents lets n) (go (let_named lets n) refl))
        where
          go : (x : Option Slot) → let_named lets n ≡ x
              → check1 t (elim x [ some x ↦ Kept x.number | none ↦ Port (port_at s n) ]) ws ls m
              ≡ check (width_of (elim (elim x as (λ _. Option Extent) [ some y ↦ some y.holds | none ↦ none ]) [ some x ↦ used x | none ↦ wide (port_width s.actor s.widths n) ]) ∷ ws) ls m
          go none e = let q = r e in port_item t m ws ls room (port_at s n) _ q.0 q.1 (let z = ports_small n in omega arith)
          go (some x) e = let q = named_holds (HoldsWidth ls) lets n x h e in let j = q.0 in rw q.1 (let_item t m ws ls room x.number _ j (omega arith) refl q.2)

      select_checks : {is : List Item} {out ws ls : List ℕ} (d w n : ℕ) → SoundAt d (suc n) ls → w ≤ 64
          → ((new : List ℕ) → SoundAt (suc d) n new → get_or new (15 + suc d) 0 ≤ 64 → C is (16 + suc d) out ws new) → C (Keep (16 + d) w ∷ is) (16 + d) out (w ∷ ws) ls
      unfolding check_all check_step
      select_checks {is} {out} {ws} {ls} d w n h k f =
          let z = h.room in
          let y = h.long in
          let c = kept_set (16 + d) (16 + d) w ls (omega arith) in
          let e : 15 + suc d ≡ 16 + d = omega arith in
          let r = f (set ls (16 + d) w) (record { long = length-set ls (16 + d) w ∙ y; room = omega arith; held = widths_kept (16 + d) lets (omega arith) c h.held }) (rw (e, get_or-set_same ls (16 + d) w 0 (omega arith)) k) in
          record { after = r.after; checks = ap (check_all t is) (case_item t m (16 + d) w w ws ls (omega arith) (omega arith) (omega arith) k) ∙ r.checks; kept = kept_trans (omega arith) r.kept c }

      arms_selects : (x : Kind) (d : ℕ) (ls : List ℕ) → IsArms x → SelectsWidth x d ls → (1 ≤ d) × (get_or ls (15 + d) 0 ≤ 64)
      arms_selects whole d ls a z = absurd a
      arms_selects parts d ls a z = absurd a
      arms_selects arms d ls a z = z

      slot_there : {n : ℕ} {ls : List ℕ} (d : ℕ) (new : List ℕ) → SoundAt d n ls → length new ≡ length ls → 15 + d < length new
      slot_there d new h e = let r = h.room in let q = h.long in omega arith

      roomy : (e : Expr) (n : ℕ) → 2 * n + expr_words e ≤ 511 → n < 256
      roomy e n h = let q = some_words e in omega arith

      -- a choice, from the checks of its parts
      abbrev ChecksAt : ℕ → Expr → Type 0
      ChecksAt d e = (ws ls : List ℕ) → SoundAt d (nest e) ls → 2 * length ws + expr_words e ≤ 511 → C (code s lets d e) (16 + d) (wd e ∷ ws) ws ls

      choice_checks : (d : ℕ) (a c e : Expr) (ws ls : List ℕ) → SoundAt d (max (nest a) (max (nest c) (nest e))) ls → wd c ≤ 64 → wd e ≤ 64 → 2 * length ws + (expr_words a + 2 + expr_words c + expr_words e) ≤ 511
          → ChecksAt d a → ChecksAt d c → ChecksAt d e → C (code s lets d a ++ (code s lets d c ++ (code s lets d e ++ (Choice ∷ [])))) (16 + d) (max (wd c) (wd e) ∷ ws) ws ls
      choice_checks d a c e ws ls l j k n ra rc re =
          let y = some_words a in let o = some_words c in
          let r = less_sound l (le-max_right (nest a) _) in
          both t m (ra ws ls (less_sound l (le-max_left _ _)) (omega arith))
          (λ new q. both t m (rc _ new (less_sound (kept_sound r q) (le-max_left _ _)) (omega arith))
          (λ newer u. both t m (re _ newer (less_sound (kept_sound (kept_sound r q) u) (le-max_right _ _)) (omega arith))
          (λ newest v. one t m (choice_item t m ws newest (roomy a (length ws) (omega arith)) (wd a) (wd c) (wd e) j k))))

      -- the theorem of one expression
      pub code_checks : (x : Kind) (d : ℕ) (e : Expr) (ws ls : List ℕ) → FormedAt ms x e → SelectsWidth x d ls → SoundAt d (nest e) ls → IsWide (at e) → wd e ≤ 64 → Every ItemOk (items e) → 2 * length ws + expr_words e ≤ 511
          → C (code s lets d e) (16 + d) (wd e ∷ ws) ws ls
      unfolding code extent nest constant wide_of width_of items expr_words
      code_checks x d (plain n) ws ls f z l h w i b = one t m (const_item t m ws ls (roomy (plain n) (length ws) b) (plain_width n.value) n.value w (plain_holds n.value))
      code_checks x d (sized u a) ws ls f z l h w i b =
          let q = sized_wide (breadth_of s u) (amount_of s a) _ h in
          wide_as t m (width_of_law (at (sized u a)) _ q.2) (one t m (const_item t m ws ls (roomy (sized u a) (length ws) b) (breadth_of s u) (amount_of s a) q.0 q.1))
      code_checks x d (copies n e) ws ls f z l h w i b =
          let a = one_wide (at e) _ h in
          let c = limited_wide _ _ a.1 in
          wide_as t m (width_of_law (at (copies n e)) _ (a.2 ∙ c.1))
          (both t m (code_checks whole d e ws ls f.1 tt l a.0 (small_extent whole e f.1 tt (small_lets ls lets l.held) a.0) i.1 (omega arith)) (λ new q. one t m (copies_item t m ws new (roomy (copies n e) (length ws) b) n.value (wd e) i.0 c.0)))
      code_checks x d (read n) ws ls f z l h w i b = read_checks (16 + d) n.spelled ws ls l.held l.long i.0 (roomy (read n) (length ws) b)
      code_checks x d (cell n e) ws ls f z l h w i b =
          let a = one_wide (at e) _ h in
          let c = memories_there n.spelled f.1 in
          wide_as t m (width_of_law (at (cell n e)) _ a.2)
          (both t m (code_checks whole d e ws ls f.2 tt l a.0 (small_extent whole e f.2 tt (small_lets ls lets l.held) a.0) i (omega arith))
          (λ new q. one t m (cell_item t m ws new (roomy (cell n e) (length ws) b) _ _ _ (wd e) _ c.0 c.1 (let y = memories_small n.spelled in omega arith))))
      code_checks x d (bit e p j) ws ls f z l h w i b =
          let a = one_wide (at e) _ h in
          let c = positions_wide s p _ (position_at s j) (position_at s j) a.1 in
          let y = small_extent whole e f.1 tt (small_lets ls lets l.held) a.0 in
          wide_as t m (width_of_law (at (bit e p j)) _ (a.2 ∙ c.2))
          (both t m (code_checks whole d e ws ls f.1 tt l a.0 y (every_append _ (items e) _ i).0 (omega arith)) (λ new q. one t m (range_item t m ws new (roomy (bit e p j) (length ws) b) _ _ (wd e) c.0 c.1 y)))
      code_checks x d (range e p j k) ws ls f z l h w i b =
          let a = one_wide (at e) _ h in
          let c = positions_wide s p _ (position_at s j) (position_at s k) a.1 in
          let y = small_extent whole e f.1 tt (small_lets ls lets l.held) a.0 in
          wide_as t m (width_of_law (at (range e p j k)) _ (a.2 ∙ c.2))
          (both t m (code_checks whole d e ws ls f.1 tt l a.0 y (every_append _ (items e) _ i).0 (omega arith)) (λ new q. one t m (range_item t m ws new (roomy (range e p j k) (length ws) b) _ _ (wd e) c.0 c.1 y)))
      code_checks x d (inside p e) ws ls f z l h w i b = code_checks whole d e ws ls f.1 tt l h w i (omega arith)
      code_checks x d (joined p e) ws ls f z l h w i b =
          let a = one_wide (at e) _ h in
          let c = limited_wide _ _ a.1 in
          wide_as t m (width_of_law (at (joined p e)) _ (a.2 ∙ c.1)) (code_checks parts d e ws ls f.1 tt l a.0 c.0 i (omega arith))
      code_checks x d (beside a c) ws ls f z l h w i b =
          let q = two_wide (at a) (at c) _ h in
          let e = width_of_law (at (beside a c)) _ q.3 in
          let v : wd a + wd c ≤ 64 = rw e at w in
          let u = every_append _ (items a) (items c) i in
          let y = some_words a in
          wide_as t m e
          (both t m (code_checks parts d a ws ls f.1 tt (less_sound l (le-max_left _ _)) q.0 (omega arith) u.0 (omega arith))
          (λ new k. both t m (code_checks whole d c _ new f.2 tt (kept_sound (less_sound l (le-max_right _ _)) k) q.1 (omega arith) u.1 (omega arith))
          (λ newer j. one t m (beside_item t m ws newer (roomy (beside a c) (length ws) b) (wd a) (wd c) v))))
      code_checks x d (unary o e) ws ls f z l h w i b =
          let a = one_wide (at e) _ h in
          let y = small_extent whole e f.1 tt (small_lets ls lets l.held) a.0 in
          wide_as t m (width_of_law (at (unary o e)) _ a.2)
          (both t m (code_checks whole d e ws ls f.1 tt l a.0 y i (omega arith)) (λ new q. one t m (before_item t m ws new (roomy (unary o e) (length ws) b) o.which (wd e) (unary_small o.which (wd e) y))))
      code_checks x d (binary o a c) ws ls f z l h w i b =
          let q = two_wide (at a) (at c) _ h in
          let r = limited_wide _ _ q.2 in
          let u = every_append _ (items a) (items c) i in
          let y = some_words a in
          wide_as t m (width_of_law (at (binary o a c)) _ (q.3 ∙ r.1))
          (both t m (code_checks whole d a ws ls f.1 tt (less_sound l (le-max_left _ _)) q.0 (small_extent whole a f.1 tt (small_lets ls lets l.held) q.0) u.0 (omega arith))
          (λ new k. both t m (code_checks whole d c _ new f.2 tt (kept_sound (less_sound l (le-max_right _ _)) k) q.1 (small_extent whole c f.2 tt (small_lets ls lets l.held) q.1) u.1 (omega arith))
          (λ newer j. one t m (between_item t m ws newer (roomy (binary o a c) (length ws) b) o (wd a) (wd c) r.0))))
      code_checks x d (choice a c e) ws ls f z l h w i b =
          let q = choice_wide (at a) (at c) (at e) h in
          let u = every_append _ (items a) (items c ++ items e) i in
          let v = every_append _ (items c) (items e) u.1 in
          let y = small_lets ls lets l.held in
          let j = small_extent whole c f.2 tt y q.1 in
          let k = small_extent whole e f.3 tt y q.2 in
          wide_as t m (width_of_law (at (choice a c e)) _ q.3)
          (choice_checks d a c e ws ls l j k (omega arith) (λ us new g n. code_checks whole d a us new f.1 tt g q.0 (small_extent whole a f.1 tt y q.0) u.0 n)
          (λ us new g n. code_checks whole d c us new f.2 tt g q.1 j v.0 n) (λ us new g n. code_checks whole d e us new f.3 tt g q.2 k v.1 n))
      code_checks x d (either p a c e) ws ls f z l h w i b =
          let q = choice_wide (at a) (at c) (at e) h in
          let u = every_append _ (items a) (items c ++ items e) i in
          let v = every_append _ (items c) (items e) u.1 in
          let y = small_lets ls lets l.held in
          let j = small_extent whole c f.2 tt y q.1 in
          let k = small_extent whole e f.3 tt y q.2 in
          wide_as t m (width_of_law (at (either p a c e)) _ q.3)
          (choice_checks d a c e ws ls l j k (omega arith) (λ us new g n. code_checks whole d a us new f.1 tt g q.0 (small_extent whole a f.1 tt y q.0) u.0 n)
          (λ us new g n. code_checks whole d c us new f.2 tt g q.1 j v.0 n) (λ us new g n. code_checks whole d e us new f.3 tt g q.2 k v.1 n))
      code_checks x d (select p e a) ws ls f z l h w i b =
          let q = two_wide (at e) (at a) _ h in
          let u = every_append _ (items e) (items a) i in
          let v = small_extent whole e f.1 tt (small_lets ls lets l.held) q.0 in
          wide_as t m (width_of_law (at (select p e a)) _ q.3)
          (both t m (code_checks whole d e ws ls f.1 tt (less_sound l (le-max_left _ _)) q.0 v u.0 (omega arith))
          (λ new k. select_checks d (wd e) (nest a) (kept_sound (less_sound l (le-max_right (nest e) _)) k) v
          (λ newer j y. code_checks arms (suc d) a ws newer f.2 (omega arith, y) j q.1 (small_extent arms a f.2 tt (small_lets ls lets l.held) q.1) u.1 (omega arith))))
      code_checks x d (arm n e r) ws ls f z l h w i b =
          let q = two_wide (at e) (at r) _ h in
          let u = every_append _ (items e) (items r) i in
          let c = arms_selects x d ls f.0 z in
          let v = small_extent whole e f.1 tt (small_lets ls lets l.held) q.0 in
          let y = small_extent arms r f.2 tt (small_lets ls lets l.held) q.1 in
          let o = some_words e in
          wide_as t m (width_of_law (at (arm n e r)) _ q.3)
          (both t m (code_checks whole d e ws ls f.1 tt (less_sound l (le-max_left _ _)) q.0 v u.0 (omega arith))
          (λ new k. both t m (code_checks arms d r _ new f.2 (c.0, rw (k.same (15 + d) (at_fifteen d)) c.1) (kept_sound (less_sound l (le-max_right _ _)) k) q.1 y u.1 (omega arith))
          (λ newer j. one t m (arm_item t m ws newer (roomy (arm n e r) (length ws) b) n.value (15 + d) (wd e) (wd r) (let g = c.0 in omega arith) (slot_there d newer l (j.long ∙ k.long)) (rw (j.same (15 + d) (at_fifteen d), k.same (15 + d) (at_fifteen d)) c.1) v y))))
      code_checks x d (default p e) ws ls f z l h w i b = code_checks whole d e ws ls f.1 tt l h w i (omega arith)
