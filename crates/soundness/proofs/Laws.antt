-- The check of an item as the code does it is the one of Sound.antt. Assumes nothing.
use Prim.Native.Nat.{ℕ, zero, suc, ◌+◌, ◌-◌, ◌*◌, ◌/◌, ◌%◌, ◌^◌, ◌≤◌, ◌<◌, max}
use mathlib.Core.Path.{◌≡◌, refl, sym, ap, ap₂, ◌∙◌}
use mathlib.Core.List.{List, [], ◌∷◌}
use mathlib.Core.Bool.{Bool, true, false, ◌&&◌, and-false, false≢true}
use native.Mathlib.Omega.{arith}
use native.Mathlib.Nat.{mul-le-mul_right, add-mul, mod-lt, pow-suc}
use lib.Pow.{pow-add, pow_pos, shr_lt, split}
use Rattle.language.specs.Values.{bit_of}
use lib.ListN.{length, get_or, set, drop}
use lib.Dec.{eqb, leb, ltb}
use borrow.Author.Tests.{ltb-true, eqb-true, le-ltb, lt-ltb, le-leb, lt-leb}
use Rattle.language.specs.Limits.{limits}
use Rattle.plan.specs.declared.Item.{Item}
use Rattle.plan.specs.declared.Item.TheVariants.{Const, Port, Let, Cell, Range, Copies, Beside, Before, Between, Choice, Arm, Keep, Assign, Write, Bad}
use Rattle.plan.specs.Layout.{port_count, port_at, memory_width_at}
use Rattle.plan.specs.Sound.{Check, check, broken, Rules, push, test, check1, input_ok, output_ok, memory_ok, slot_width, keepable, waiting, take1, take2}
use Rattle.plan.specs.Sound.{rules_of}
use Rattle.item_widths.specs.Widths.{width_if, width_of}
use Rattle.soundness.specs.Steps.{push_over}
use Rattle.std.specs.Prelude.{Option, Some, None}
use Rattle.plan.specs.Items.{takes_of, acts_of}
use Rattle.plan.specs.Waits.{top}
use Rattle.plan.proofs.Tests.{and_left, and_right}
use Rattle.plan.proofs.Waits.{length_top, top_push, top_drop}

-- ---- a width is pushed

test_no : (c : Check) → test false c ≡ broken
unfolding test
test_no c = refl

test_yes : (c : Check) → test true c ≡ c
unfolding test
test_yes c = refl

over_enough : (k w : ℕ) (ws ls : List ℕ) (d : ℕ) → k ≤ length ws → push_over k (Some w) ws ls d ≡ push w (drop k ws) ls d
unfolding push_over
over_enough k w ws ls d h = ap (λ (b : Bool). elim b [ true ↦ broken | false ↦ push w (drop k ws) ls d ]) (le-ltb (length ws) k h)

over_none : (k : ℕ) (ws ls : List ℕ) (d : ℕ) → push_over k None ws ls d ≡ broken
unfolding push_over
over_none k ws ls d = refl

over_few : (k : ℕ) (v : Option ℕ) (ws ls : List ℕ) (d : ℕ) → length ws < k → push_over k v ws ls d ≡ broken
unfolding push_over
over_few k None ws ls d h = refl
over_few k (Some w) ws ls d h = ap (λ (b : Bool). elim b [ true ↦ broken | false ↦ push w (drop k ws) ls d ]) (lt-ltb (length ws) k h)

-- a width that is pushed where a test holds
over_test : (k : ℕ) (b : Bool) (w : ℕ) (ws ls : List ℕ) (d : ℕ) → k ≤ length ws → test b (push w (drop k ws) ls d) ≡ push_over k (width_if b w) ws ls d
unfolding test push_over
over_test k true w ws ls d h = sym (over_enough k w ws ls d h)
over_test k false w ws ls d h = refl

-- a width that is pushed is at most 64
test_small : (b : Bool) (w : ℕ) (ws ls : List ℕ) (d : ℕ) → test b (push w ws ls d) ≡ test (b && leb w limits.expressionWidth) (push w ws ls d)
unfolding test push
test_small false w ws ls d = refl
test_small true w ws ls d = go (leb w limits.expressionWidth)
  where
    kept : Bool → Check → Check
    kept b c = elim b [ true ↦ c | false ↦ broken ]

    go : (b : Bool) → kept (b && ltb (length ws) waiting) (check (w ∷ ws) ls d) ≡ kept b (kept (b && ltb (length ws) waiting) (check (w ∷ ws) ls d))
    go true = refl
    go false = refl

module _ (p : List ℕ) (present taken : ℕ) (ls : List ℕ) (d : ℕ) where
  abbrev t : Rules
  t = rules_of p present taken

  over0 : (b : Bool) (w : ℕ) (ws : List ℕ) → test b (push w ws ls d) ≡ push_over 0 (width_if b w) ws ls d
  over0 b w ws = over_test 0 b w ws ls d (omega arith)

  over1 : (b : Bool) (w x : ℕ) (ws : List ℕ) → test b (push w ws ls d) ≡ push_over 1 (width_if b w) (x ∷ ws) ls d
  over1 b w x ws = over_test 1 b w (x ∷ ws) ls d (omega arith)

  over2 : (b : Bool) (w x y : ℕ) (ws : List ℕ) → test b (push w ws ls d) ≡ push_over 2 (width_if b w) (y ∷ x ∷ ws) ls d
  over2 b w x y ws = over_test 2 b w (y ∷ x ∷ ws) ls d (omega arith)

  -- an item that leaves a width, or is none
  pub pushes : (i : Item) (ws : List ℕ) → acts_of i ≡ false → check1 t i ws ls d ≡ push_over (takes_of i) (width_of (rules_of p present 0) ls (get_or ws 1 0) (get_or ws 0 0) i) ws ls d
  unfolding input_ok memory_ok slot_width
  pushes (Const w lo hi) ws h = over0 _ w ws
  pushes (Port i) ws h = over0 (input_ok t i) (port_at p i) ws
  pushes (Let k) ws h =
      let w = slot_width t ls k in
      test_small (ltb k limits.vals) w ws ls d ∙ over0 (ltb k limits.vals && leb w limits.expressionWidth) w ws
  pushes (Cell m f n) [] h = sym (over_few 1 _ [] ls d (omega arith))
  pushes (Cell m f n) (y ∷ ws) h = over1 (memory_ok t m f n) _ y ws
  pushes (Range i j) [] h = sym (over_few 1 _ [] ls d (omega arith))
  pushes (Range i j) (y ∷ ws) h = over1 (ltb i y && ltb j y) _ y ws
  pushes (Copies n w) [] h = sym (over_few 1 _ [] ls d (omega arith))
  pushes (Copies n w) (y ∷ ws) h = over1 (eqb y w && leb n limits.copies) (n * w) y ws
  pushes (Beside w) [] h = sym (over_few 2 _ [] ls d (omega arith))
  pushes (Beside w) (y ∷ []) h = sym (over_few 2 _ (y ∷ []) ls d (omega arith))
  pushes (Beside w) (y ∷ x ∷ ws) h = over2 (eqb y w) (x + y) x y ws
  pushes (Before u w) [] h = sym (over_few 1 _ [] ls d (omega arith))
  pushes (Before u w) (y ∷ ws) h = over1 (eqb y w) _ y ws
  pushes (Between o m n) [] h = sym (over_few 2 _ [] ls d (omega arith))
  pushes (Between o m n) (y ∷ []) h = sym (over_few 2 _ (y ∷ []) ls d (omega arith))
  pushes (Between o m n) (y ∷ x ∷ ws) h = over2 (eqb x m && eqb y n) _ x y ws
  pushes Choice [] h = sym (over_few 3 _ [] ls d (omega arith))
  pushes Choice (y ∷ []) h = sym (over_few 3 _ (y ∷ []) ls d (omega arith))
  pushes Choice (y ∷ x ∷ []) h = sym (over_few 3 _ (y ∷ x ∷ []) ls d (omega arith))
  pushes Choice (y ∷ x ∷ c ∷ ws) h = sym (over_enough 3 (max x y) (y ∷ x ∷ c ∷ ws) ls d (omega arith))
  pushes (Arm n k) [] h = sym (over_few 2 _ [] ls d (omega arith))
  pushes (Arm n k) (y ∷ []) h = sym (over_few 2 _ (y ∷ []) ls d (omega arith))
  pushes (Arm n k) (y ∷ x ∷ ws) h = over2 (leb limits.vals k && leb (slot_width t ls k) limits.expressionWidth) (max x y) x y ws
  pushes (Keep k w) ws h = absurd (false≢true (sym h))
  pushes (Assign q) ws h = absurd (false≢true (sym h))
  pushes (Write m f n) ws h = absurd (false≢true (sym h))
  pushes Bad ws h = sym (over_none 0 ws ls d)

  -- the same, of the width that the item leaves
  pub left_width : (i : Item) (ws : List ℕ) → acts_of i ≡ false → (v : Option ℕ) → width_of (rules_of p present 0) ls (get_or ws 1 0) (get_or ws 0 0) i ≡ v
      → push_over (takes_of i) v ws ls d ≡ check1 t i ws ls d
  left_width i ws h v e = sym (pushes i ws h ∙ ap (λ (u : Option ℕ). push_over (takes_of i) u ws ls d) e)

-- ---- what `push_over` leaves

push_not : (w : ℕ) (ws ls : List ℕ) (d : ℕ) → (leb w 64 && ltb (length ws) 256) ≡ false → push w ws ls d ≡ broken
unfolding push
push_not w ws ls d h = ap (λ (b : Bool). elim b [ true ↦ check (w ∷ ws) ls d | false ↦ broken ]) h

push_yes : (w : ℕ) (ws ls : List ℕ) (d : ℕ) → w ≤ 64 → length ws < 256 → push w ws ls d ≡ check (w ∷ ws) ls d
unfolding push
push_yes w ws ls d h l =
    ap (λ (b : Bool). elim b [ true ↦ check (w ∷ ws) ls d | false ↦ broken ]) (ap₂ (λ (x y : Bool). x && y) (le-leb w 64 h) (lt-ltb (length ws) 256 l))

module _ (s : List ℕ) (n k w : ℕ) (ls : List ℕ) (d : ℕ) where
  pub over_short : n < k → broken ≡ push_over k (Some w) (top s n) ls d
  over_short h = sym (over_few k (Some w) (top s n) ls d (rw (length_top s n) h))

  over_top : k ≤ n → push_over k (Some w) (top s n) ls d ≡ push w (top s (n - k)) ls d
  over_top h = over_enough k w (top s n) ls d (rw (length_top s n) h) ∙ ap (λ (l : List ℕ). push w l ls d) (top_drop s n k h)

  pub over_wide : k ≤ n → 64 < w → broken ≡ push_over k (Some w) (top s n) ls d
  over_wide h l = sym (over_top h ∙ push_not w (top s (n - k)) ls d (ap (λ (x : Bool). x && ltb (length (top s (n - k))) 256) (lt-leb w 64 l)))

  pub over_full : k ≤ n → 256 ≤ n - k → broken ≡ push_over k (Some w) (top s n) ls d
  over_full h l =
      let full = le-ltb (length (top s (n - k))) 256 (rw (length_top s (n - k)) l) in
      sym (over_top h ∙ push_not w (top s (n - k)) ls d (ap (λ (x : Bool). leb w 64 && x) full ∙ and-false (leb w 64)))

  pub over_pushed : k ≤ n → w ≤ 64 → n - k < 256 → n - k < length s → check (top (set s (n - k) w) (n - k + 1)) ls d ≡ push_over k (Some w) (top s n) ls d
  over_pushed h l q u =
      ap (λ (x : List ℕ). check x ls d) (top_push s (n - k) w u)
      ∙ sym (over_top h ∙ push_yes w (top s (n - k)) ls d l (rw (length_top s (n - k)) q))

-- ---- items that leave no width: too few wait, the test holds, it does not

module _ (s : List ℕ) (n : ℕ) where
  one_few : (f : ℕ → List ℕ → Check) → n < 1 → take1 (top s n) f ≡ broken
  unfolding top
  one_few f h = let e : n ≡ 0 = omega arith in rw e

  one_more : (f : ℕ → List ℕ → Check) → 1 ≤ n → take1 (top s n) f ≡ f (get_or (top s n) 0 0) (top s (n - 1))
  unfolding top
  one_more f h = go n refl
    where
      go : (m : ℕ) → m ≡ n → take1 (top s m) f ≡ f (get_or (top s m) 0 0) (top s (m - 1))
      go zero e = absurd (omega arith)
      go (suc m) e = let q : suc m - 1 ≡ m = omega arith in rw q

  two_few : (f : ℕ → ℕ → List ℕ → Check) → n < 2 → take2 (top s n) f ≡ broken
  unfolding top
  two_few f h = go n refl
    where
      go : (m : ℕ) → m ≡ n → take2 (top s m) f ≡ broken
      go zero e = refl
      go (suc zero) e = refl
      go (suc (suc m)) e = absurd (omega arith)

  two_more : (f : ℕ → ℕ → List ℕ → Check) → 2 ≤ n → take2 (top s n) f ≡ f (get_or (top s n) 1 0) (get_or (top s n) 0 0) (top s (n - 2))
  unfolding top
  two_more f h = go n refl
    where
      go : (m : ℕ) → m ≡ n → take2 (top s m) f ≡ f (get_or (top s m) 1 0) (get_or (top s m) 0 0) (top s (m - 2))
      go zero e = absurd (omega arith)
      go (suc zero) e = absurd (omega arith)
      go (suc (suc m)) e = let q : suc (suc m) - 2 ≡ m = omega arith in rw q

module _ (t : Rules) (s : List ℕ) (n : ℕ) (ls : List ℕ) (d : ℕ) where
  -- the item takes one width, under a test of it
  one_tested : (f : ℕ → Bool) (c : List ℕ → Check) (x : ℕ) (b : Bool) → 1 ≤ n → x ≡ get_or (top s n) 0 0 → f x ≡ b
      → take1 (top s n) (λ y ws. test (f y) (c ws)) ≡ test b (c (top s (n - 1)))
  one_tested f c x b h e q = one_more s n (λ y ws. test (f y) (c ws)) h ∙ ap (λ (a : Bool). test a (c (top s (n - 1)))) (ap f (sym e) ∙ q)

  two_tested : (f : ℕ → Bool) (c : List ℕ → Check) (x : ℕ) (b : Bool) → 2 ≤ n → x ≡ get_or (top s n) 0 0 → f x ≡ b
      → take2 (top s n) (λ a y ws. test (f y) (c ws)) ≡ test b (c (top s (n - 2)))
  two_tested f c x b h e q = two_more s n (λ a y ws. test (f y) (c ws)) h ∙ ap (λ (a : Bool). test a (c (top s (n - 2)))) (ap f (sym e) ∙ q)

  pub keep_few : (k w : ℕ) → n < 1 → broken ≡ check1 t (Keep k w) (top s n) ls d
  keep_few k w h = sym (one_few s n _ h)

  pub keep_yes : (k w x : ℕ) → 1 ≤ n → x ≡ get_or (top s n) 0 0 → (keepable t ls k && leb x w && leb w 64) ≡ true
      → check (top s (n - 1)) (set ls k w) d ≡ check1 t (Keep k w) (top s n) ls d
  keep_yes k w x h e b = sym (one_tested (λ y. keepable t ls k && leb y w && leb w 64) (λ ws. check ws (set ls k w) d) x true h e b ∙ test_yes _)

  pub keep_no : (k w x : ℕ) → 1 ≤ n → x ≡ get_or (top s n) 0 0 → (keepable t ls k && leb x w && leb w 64) ≡ false → broken ≡ check1 t (Keep k w) (top s n) ls d
  keep_no k w x h e b = sym (one_tested (λ y. keepable t ls k && leb y w && leb w 64) (λ ws. check ws (set ls k w) d) x false h e b ∙ test_no _)

  pub assign_few : (p : ℕ) → n < 1 → broken ≡ check1 t (Assign p) (top s n) ls d
  assign_few p h = sym (one_few s n _ h)

  pub assign_yes : (p x : ℕ) → 1 ≤ n → x ≡ get_or (top s n) 0 0 → output_ok t d p x ≡ true → check (top s (n - 1)) ls (d + 2 ^ p) ≡ check1 t (Assign p) (top s n) ls d
  assign_yes p x h e b = sym (one_tested (output_ok t d p) (λ ws. check ws ls (d + 2 ^ p)) x true h e b ∙ test_yes _)

  pub assign_no : (p x : ℕ) → 1 ≤ n → x ≡ get_or (top s n) 0 0 → output_ok t d p x ≡ false → broken ≡ check1 t (Assign p) (top s n) ls d
  assign_no p x h e b = sym (one_tested (output_ok t d p) (λ ws. check ws ls (d + 2 ^ p)) x false h e b ∙ test_no _)

  pub write_few : (m f z : ℕ) → n < 2 → broken ≡ check1 t (Write m f z) (top s n) ls d
  write_few m f z h = sym (two_few s n _ h)

  pub write_yes : (m f z x : ℕ) → 2 ≤ n → x ≡ get_or (top s n) 0 0 → (memory_ok t m f z && leb x (memory_width_at t.plan m)) ≡ true
      → check (top s (n - 2)) ls d ≡ check1 t (Write m f z) (top s n) ls d
  write_yes m f z x h e b = sym (two_tested (λ y. memory_ok t m f z && leb y (memory_width_at t.plan m)) (λ ws. check ws ls d) x true h e b ∙ test_yes _)

  pub write_no : (m f z x : ℕ) → 2 ≤ n → x ≡ get_or (top s n) 0 0 → (memory_ok t m f z && leb x (memory_width_at t.plan m)) ≡ false
      → broken ≡ check1 t (Write m f z) (top s n) ls d
  write_no m f z x h e b = sym (two_tested (λ y. memory_ok t m f z && leb y (memory_width_at t.plan m)) (λ ws. check ws ls d) x false h e b ∙ test_no _)

-- ---- a mask gains a bit

pub mask_more : (d p : ℕ) → d < 65536 → p < 16 → bit_of d p ≡ 0 → d + 2 ^ p < 65536
unfolding bit_of
mask_more d p h l z =
    let e : suc (15 - p) + p ≡ 16 = omega arith in
    let whole : 2 ^ suc (15 - p) * 2 ^ p ≡ 65536 = sym (pow-add 2 (suc (15 - p)) p) ∙ ap (λ (k : ℕ). 2 ^ k) e in
    let q : d / 2 ^ p < 2 ^ suc (15 - p) = shr_lt (suc (15 - p)) p (rw e h) in
    let r : 2 ^ suc (15 - p) ≡ 2 ^ (15 - p) * 2 = pow-suc 2 (15 - p) in
    let u : d / 2 ^ p + 2 ≤ 2 ^ suc (15 - p) = omega (arith, z) in
    let v : (d / 2 ^ p + 2) * 2 ^ p ≤ 2 ^ suc (15 - p) * 2 ^ p = mul-le-mul_right (2 ^ p) u in
    let w : (d / 2 ^ p + 2) * 2 ^ p ≡ d / 2 ^ p * 2 ^ p + 2 * 2 ^ p = add-mul (d / 2 ^ p) 2 (2 ^ p) in
    let a : d / 2 ^ p * 2 ^ p + d % 2 ^ p ≡ d = split d p in
    let b : d % 2 ^ p < 2 ^ p = mod-lt d (pow_pos p) in
    omega arith

-- six tests, of which the first and the fourth are asked for
first_and_fourth : (a b c d e f : Bool) → (a && b && c && d && e && f) ≡ true → (a ≡ true) × (d ≡ true)
first_and_fourth a b c d e f h =
    let g = and_left (a && b && c && d) e (and_left (a && b && c && d && e) f h) in
    (and_left a b (and_left (a && b) c (and_left (a && b && c) d g)), and_right (a && b && c) d g)

pub output_facts : (t : Rules) (d k w : ℕ) → output_ok t d k w ≡ true → (k < port_count t.plan) × (bit_of d k ≡ 0)
unfolding output_ok
output_facts t d k w h =
    let f = first_and_fourth (ltb k (port_count t.plan)) (leb 256 (port_at t.plan k)) (eqb (bit_of t.present k) 1) (eqb (bit_of d k) 0) (eqb (bit_of t.taken k) 0) (leb w (port_at t.plan k - 256)) h in
    (ltb-true k (port_count t.plan) f.0, eqb-true (bit_of d k) 0 f.1)
