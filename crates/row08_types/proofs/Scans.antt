-- The two scans over the items of a whole type: forward it is one type more that waits, back it is one type less to come. Assumes nothing.
use mathlib.Core.Path.{◌≡◌, refl, ap, ap₂, ◌∙◌}
use mathlib.Core.Bool.{Bool, true, false, ◌||◌, ◌&&◌}
use mathlib.Core.List.{List, [], ◌∷◌, ◌++◌, append_assoc}
use Prim.Native.Nat.{ℕ, suc, ◌+◌, ◌-◌}
use native.Mathlib.Omega.{arith}
use native.Mathlib.Numerals.{add-one}
use lib.ListN.{length, length-append}
use Rattle.language.specs.Tree.{Ty, number, environment, port, plus, minus, log, ceil, floor, most, entry, within}
use Rattle.language.specs.Types.{logs}
use Rattle.tape.specs.Tape.{item, flat_t, one_if, PLUS, MINUS, LOG, CEIL, FLOOR, MOST, ENTRY, WITHIN}
use Rattle.tape.specs.Nodes.{node_of}
use Rattle.row08_types.specs.Walk.{is_type, is_zero, place, outer_of, outward_of, waiting_of, seen_from, tally, coming_of, count_in, counted_of, is_done, logs_over}
use Rattle.tape.specs.declared.Node.{Node}
use Rattle.tape.specs.declared.Node.TheVariants.{Number, Name, Port, Join, Minus, Log, Whole, Most, Within, Other}
use Rattle.row08_types.specs.declared.Around.{Around}

one_less : (n : ℕ) → suc n - 1 ≡ n
one_less n = omega arith

-- ---- forward

-- items that leave what is known as it is
pub record Passes (n : ℕ) (a : List ℕ) (m : ℕ) : Type 0 where
  pub on : (s : Around) (r : List ℕ) → seen_from n s (a ++ r) ≡ seen_from m s r

pass_both : {n m k : ℕ} {a b : List ℕ} → Passes n a m → Passes m b k → Passes n (a ++ b) k
pass_both {n} {a = a} {b = b} d e = record { on = λ s r. ap (seen_from n s) (append_assoc a b r) ∙ d.on s (b ++ r) ∙ e.on s r }

pass_item : (o p v n m : ℕ) → ((s : Around) (r : List ℕ) → seen_from n s (item o p v ++ r) ≡ seen_from m s r) → Passes n (item o p v) m
pass_item o p v n m e = record { on = e }

leaf_keeps : (n : ℕ) (s : Around) (k : Node) → outer_of s k ≡ s → outward_of n s k ≡ s
unfolding outward_of is_zero
leaf_keeps n s k e = go (is_zero n)
  where
    go : (b : Bool) → elim b as (λ (x : Bool). Around) [ true ↦ outer_of s k | false ↦ s ] ≡ s
    go true = e
    go false = refl

pub type_passes : (t : Ty) (n : ℕ) → Passes n (flat_t t) (suc n)
unfolding flat_t seen_from node_of is_type waiting_of outward_of outer_of is_zero
type_passes (number x) n = record { on = λ s r. rw (leaf_keeps n s Number refl, add-one n) }
type_passes (environment x) n = record { on = λ s r. rw (leaf_keeps n s Name refl, add-one n) }
type_passes (port x) n = record { on = λ s r. rw (leaf_keeps n s Port refl, add-one n) }
type_passes (plus a b) n = pass_both (pass_both (type_passes a n) (type_passes b (suc n))) (pass_item PLUS 0 0 (suc (suc n)) (suc n) (λ s r. ap (λ (k : ℕ). seen_from k s r) (one_less (suc n))))
type_passes (minus a b) n = pass_both (pass_both (type_passes a n) (type_passes b (suc n))) (pass_item MINUS 0 0 (suc (suc n)) (suc n) (λ s r. ap (λ (k : ℕ). seen_from k s r) (one_less (suc n))))
type_passes (log p a) n = pass_both (type_passes a n) (pass_item LOG p 0 (suc n) (suc n) (λ s r. refl))
type_passes (ceil p a) n = pass_both (type_passes a n) (pass_item CEIL p 0 (suc n) (suc n) (λ s r. refl))
type_passes (floor p a) n = pass_both (type_passes a n) (pass_item FLOOR p 0 (suc n) (suc n) (λ s r. refl))
type_passes (most p a) n = pass_both (type_passes a n) (pass_item MOST p 0 (suc n) (suc n) (λ s r. refl))
type_passes (entry a b) n = pass_both (pass_both (type_passes a n) (type_passes b (suc n))) (pass_item ENTRY 0 0 (suc (suc n)) (suc n) (λ s r. ap (λ (k : ℕ). seen_from k s r) (one_less (suc n))))
type_passes (within p a) n = pass_both (type_passes a n) (pass_item WITHIN p 0 (suc n) (suc n) (λ s r. refl))

-- an item of a node
seen_at_law : (n : ℕ) (s : Around) (o p v : ℕ) (r : List ℕ) {k : Node} → node_of o ≡ k → seen_from n s (item o p v ++ r) ≡ elim (is_type k) as (λ (x : Bool). Around) [ true ↦ seen_from (waiting_of n k) (outward_of n s k) r | false ↦ s ]
unfolding seen_from
seen_at_law n s o p v r e = ap (λ (k : Node). elim (is_type k) as (λ (x : Bool). Around) [ true ↦ seen_from (waiting_of n k) (outward_of n s k) r | false ↦ s ]) e

-- what follows says nothing of a type before it
pub record Apart (r : List ℕ) : Type 0 where
  pub on : (n : ℕ) (s : Around) → seen_from n s r ≡ s

pub apart_item : (o p v : ℕ) (r : List ℕ) → node_of o ≡ Other → Apart (item o p v ++ r)
unfolding seen_from is_type
apart_item o p v r e = record { on = λ n s. seen_at_law n s o p v r e }

pub apart_type : (t : Ty) {r : List ℕ} → Apart r → Apart (flat_t t ++ r)
apart_type t {r} d = record { on = λ n s. (type_passes t n).on s r ∙ d.on (suc n) s }

-- ---- what follows a type says of its place, whatever was known

abbrev pub picked : Bool → ℕ → ℕ
picked true m = m
picked false m = 0

pub record ScanStands (r : List ℕ) (low after nested : Bool) (m : ℕ) (near : Bool) : Type 0 where
  pub on : (l a i : Bool) (n : ℕ) (w : Bool) → seen_from 0 (place l a i n w) r ≡ place (l || low) (a || after) (i || (w && nested)) (n + picked w m) (w && near)

or_false : (b : Bool) → b ≡ (b || false)
or_false true = refl
or_false false = refl

or_true : (b : Bool) → true ≡ (b || true)
or_true true = refl
or_true false = refl

and_true : (b : Bool) → b ≡ (b && true)
and_true true = refl
and_true false = refl

and_false : (b : Bool) → false ≡ (b && false)
and_false true = refl
and_false false = refl

picked_none : (w : Bool) → picked w 0 ≡ 0
picked_none true = refl
picked_none false = refl

pub stands_apart : {r : List ℕ} → Apart r → ScanStands r false false false 0 true
stands_apart d =
    record {
      on = λ l a i n w. d.on 0 (place l a i n w) ∙ (let p = or_false l in let q = or_false a in let x = or_false i in let y = and_false w in let z = and_true w in let k : n ≡ n + picked w 0 = let e = picked_none w in omega arith in cc);
    }

module _ {r : List ℕ} {low after nested : Bool} {m : ℕ} {near : Bool} (h : ScanStands r low after nested m near) where
  -- the first of two
  pub stands_left : (t : Ty) (o : ℕ) → (node_of o ≡ Join) → ScanStands (flat_t t ++ (item o 0 0 ++ r)) low after nested m near
  unfolding seen_from is_type waiting_of outward_of is_zero
  stands_left t o e = record { on = λ l a i n w. (type_passes t 0).on _ _ ∙ seen_at_law 1 (place l a i n w) o 0 0 r e ∙ h.on l a i n w }

  pub stands_before_minus : (t : Ty) → ScanStands (flat_t t ++ (item MINUS 0 0 ++ r)) low after nested m near
  unfolding seen_from is_type waiting_of outward_of node_of is_zero
  stands_before_minus t = record { on = λ l a i n w. (type_passes t 0).on _ _ ∙ h.on l a i n w }

  one_more : (n : ℕ) (w : Bool) → (n + one_if w) + picked w m ≡ n + picked w (suc m)
  unfolding one_if
  one_more n true = omega arith
  one_more n false = omega arith

  -- the second
  pub stands_right : (o : ℕ) → (node_of o ≡ Join) → ScanStands (item o 0 0 ++ r) low after nested (suc m) near
  unfolding seen_from is_type waiting_of outward_of outer_of is_zero
  stands_right o e = record { on = λ l a i n w. seen_at_law 0 (place l a i n w) o 0 0 r e ∙ h.on l a i (n + one_if w) w ∙ (let k = one_more n w in cc) }

  pub stands_after_minus : ScanStands (item MINUS 0 0 ++ r) true true nested (suc m) near
  unfolding seen_from is_type waiting_of outward_of outer_of node_of is_zero
  stands_after_minus = record { on = λ l a i n w. h.on true true i (n + one_if w) w ∙ (let k = one_more n w in let p = or_true l in let q = or_true a in cc) }

  in_log : (i w : Bool) → ((i || w) || (w && nested)) ≡ (i || (w && true))
  in_log true w = refl
  in_log false true = refl
  in_log false false = refl

  pub stands_log : (p : ℕ) → ScanStands (item LOG p 0 ++ r) true after true m near
  unfolding seen_from is_type waiting_of outward_of outer_of node_of is_zero
  stands_log p = record { on = λ l a i n w. h.on true a (i || w) n w ∙ (let q = or_true l in let x = in_log i w in cc) }

  pub stands_whole : (o p : ℕ) → node_of o ≡ Whole → ScanStands (item o p 0 ++ r) true after false 0 false
  unfolding seen_from is_type waiting_of outward_of outer_of is_zero
  stands_whole o p e = record { on = λ l a i n w. seen_at_law 0 (place l a i n w) o p 0 r e ∙ h.on true a i n false ∙ (let q = or_true l in let x = and_false w in let y = picked_none w in cc) }

  pub stands_most : (p : ℕ) → ScanStands (item MOST p 0 ++ r) true after nested m near
  unfolding seen_from is_type waiting_of outward_of outer_of node_of is_zero
  stands_most p = record { on = λ l a i n w. h.on true a i n w ∙ (let q = or_true l in cc) }

  pub stands_within : (p : ℕ) → ScanStands (item WITHIN p 0 ++ r) low after nested m near
  unfolding seen_from is_type waiting_of outward_of outer_of node_of is_zero
  stands_within p = record { on = λ l a i n w. h.on l a i n w }

-- ---- back

-- the kinds of a type's items put before others, the last one first
unfoldable pub nodes_onto : Ty → List Node → List Node
nodes_onto (number n) l = Number ∷ l
nodes_onto (environment n) l = Name ∷ l
nodes_onto (port n) l = Port ∷ l
nodes_onto (plus a b) l = Join ∷ nodes_onto b (nodes_onto a l)
nodes_onto (minus a b) l = Minus ∷ nodes_onto b (nodes_onto a l)
nodes_onto (log p a) l = Log ∷ nodes_onto a l
nodes_onto (ceil p a) l = Whole ∷ nodes_onto a l
nodes_onto (floor p a) l = Whole ∷ nodes_onto a l
nodes_onto (most p a) l = Most ∷ nodes_onto a l
nodes_onto (entry a b) l = Join ∷ nodes_onto b (nodes_onto a l)
nodes_onto (within p a) l = Within ∷ nodes_onto a l

pub passed_over : (t : Ty) (l : List Node) (a n c : ℕ) → logs_over (tally (suc a) n c) (nodes_onto t l) ≡ logs_over (tally a n c) l
unfolding nodes_onto logs_over is_done counted_of coming_of is_zero
passed_over (number x) l a n c = ap (λ (k : ℕ). logs_over (tally k n c) l) (one_less a)
passed_over (environment x) l a n c = ap (λ (k : ℕ). logs_over (tally k n c) l) (one_less a)
passed_over (port x) l a n c = ap (λ (k : ℕ). logs_over (tally k n c) l) (one_less a)
passed_over (plus x y) l a n c = rw (add-one (suc a)) (passed_over y (nodes_onto x l) (suc a) n c) ∙ passed_over x l a n c
passed_over (minus x y) l a n c = rw (add-one (suc a)) (passed_over y (nodes_onto x l) (suc a) n c) ∙ passed_over x l a n c
passed_over (log p x) l a n c = passed_over x l a n c
passed_over (ceil p x) l a n c = passed_over x l a n c
passed_over (floor p x) l a n c = passed_over x l a n c
passed_over (most p x) l a n c = passed_over x l a n c
passed_over (entry x y) l a n c = rw (add-one (suc a)) (passed_over y (nodes_onto x l) (suc a) n c) ∙ passed_over x l a n c
passed_over (within p x) l a n c = passed_over x l a n c

two_in : (x y : Ty) (l : List Node) (n c : ℕ)
    → ((l : List Node) (n c : ℕ) → logs_over (tally 0 (suc n) c) (nodes_onto x l) ≡ logs_over (tally 0 n (c + length (logs x))) l)
    → ((l : List Node) (n c : ℕ) → logs_over (tally 0 (suc n) c) (nodes_onto y l) ≡ logs_over (tally 0 n (c + length (logs y))) l)
    → logs_over (tally 0 (suc n + 1) c) (nodes_onto y (nodes_onto x l)) ≡ logs_over (tally 0 n (c + length (logs x ++ logs y))) l
two_in x y l n c f g = rw (add-one (suc n)) (g (nodes_onto x l) (suc n) c ∙ f l n (c + length (logs y)) ∙ ap (λ (k : ℕ). logs_over (tally 0 n k) l) (let e = length-append (logs x) (logs y) in omega arith))

pub counted_in : (t : Ty) (l : List Node) (n c : ℕ) → logs_over (tally 0 (suc n) c) (nodes_onto t l) ≡ logs_over (tally 0 n (c + length (logs t))) l
unfolding nodes_onto logs_over is_done counted_of count_in coming_of logs is_zero
counted_in (number x) l n c = ap₂ (λ (m k : ℕ). logs_over (tally 0 m k) l) (one_less n) (omega arith)
counted_in (environment x) l n c = ap₂ (λ (m k : ℕ). logs_over (tally 0 m k) l) (one_less n) (omega arith)
counted_in (port x) l n c = ap₂ (λ (m k : ℕ). logs_over (tally 0 m k) l) (one_less n) (omega arith)
counted_in (plus x y) l n c = two_in x y l n c (counted_in x) (counted_in y)
counted_in (minus x y) l n c = two_in x y l n c (counted_in x) (counted_in y)
counted_in (log p x) l n c = counted_in x l n (c + 1) ∙ ap (λ (k : ℕ). logs_over (tally 0 n k) l) (omega arith)
counted_in (ceil p x) l n c = passed_over x l 0 (suc n - 1) c ∙ ap₂ (λ (m k : ℕ). logs_over (tally 0 m k) l) (one_less n) (omega arith)
counted_in (floor p x) l n c = passed_over x l 0 (suc n - 1) c ∙ ap₂ (λ (m k : ℕ). logs_over (tally 0 m k) l) (one_less n) (omega arith)
counted_in (most p x) l n c = counted_in x l n c
counted_in (entry x y) l n c = two_in x y l n c (counted_in x) (counted_in y)
counted_in (within p x) l n c = counted_in x l n c

-- so many logs stand in the types before
pub record Before (l : List Node) (m k : ℕ) : Type 0 where
  pub on : (c : ℕ) → logs_over (tally 0 m c) l ≡ c + k

pub before_none : (l : List Node) → Before l 0 0
unfolding logs_over is_done is_zero
before_none l = record { on = λ c. go l c }
  where
    go : (l : List Node) (c : ℕ) → logs_over (tally 0 0 c) l ≡ c + 0
    go [] c = omega arith
    go (k ∷ l) c = omega arith

pub before_more : (t : Ty) {l : List Node} {m k : ℕ} → Before l m k → Before (nodes_onto t l) (suc m) (k + length (logs t))
before_more t {l} {m} {k} h = record { on = λ c. counted_in t l m c ∙ h.on (c + length (logs t)) ∙ omega arith }
