-- What the last arm of a `match` knows of a node, how far the counts grow with an item, and the turns of the two scans. Assumes nothing.
use mathlib.Core.Path.{◌≡◌, refl, sym, ap, ap₂, ◌∙◌}
use mathlib.Core.Bool.{Bool, true, false, not, ◌||◌}
use mathlib.Core.List.{List, [], ◌∷◌}
use Prim.Native.Nat.{ℕ, zero, suc, ◌+◌, ◌-◌, ◌*◌, ◌/◌, ◌≤◌, ◌<◌}
use native.Mathlib.Omega.{arith}
use native.Mathlib.Numerals.{add-one}
use lib.Dec.{eqb, leb, ltb, eqb-suc-zero}
use borrow.Author.Tests.{leb-true, leb-false, le-ltb, lt-ltb}
use lib.ListN.{length, take, drop, length-take, length-drop}
use Rattle.language.specs.Limits.{limits}
use Rattle.language.specs.Types.{together}
use Rattle.tape.specs.Tape.{one_if}
use Rattle.tape.specs.Walk.{op_at, value_at}
use Rattle.tape.proofs.Tapes.{item_at_law}
use Rattle.tape.specs.Nodes.{node_of}
use Rattle.row08_types.specs.Walk.{is_type, is_zero, outer_of, outward_of, waiting_of, seen_from, tally, coming_of, count_in, counted_of, is_done, logs_over, nodes_before, bare, passing, log_faulty, test, faulty}
use Rattle.tape.specs.declared.Node.{Node}
use Rattle.tape.specs.declared.Node.TheVariants.{Number, Name, Port, Join, Minus, Log, Whole, Most, Within, Other}
use Rattle.row08_types.specs.declared.Around.{Around}
use Rattle.row08_types.specs.declared.Count.{Count}

-- ---- the last arm

pub in_types_law : (k : Node) → (k ≡ Other → ⊥) → true ≡ is_type k
unfolding is_type
in_types_law Number _ = refl
in_types_law Name _ = refl
in_types_law Port _ = refl
in_types_law Join _ = refl
in_types_law Minus _ = refl
in_types_law Log _ = refl
in_types_law Whole _ = refl
in_types_law Most _ = refl
in_types_law Within _ = refl
in_types_law Other h0 = absurd (h0 refl)

not_counted_law : (s : Count) (k : Node) → (k ≡ Log → ⊥) → (k ≡ Whole → ⊥) → tally 0 (coming_of s.need k) s.logs ≡ count_in s k
unfolding coming_of count_in
not_counted_law s Number _ _ = refl
not_counted_law s Name _ _ = refl
not_counted_law s Port _ _ = refl
not_counted_law s Join _ _ = refl
not_counted_law s Minus _ _ = refl
not_counted_law s Log h0 _ = absurd (h0 refl)
not_counted_law s Whole _ h1 = absurd (h1 refl)
not_counted_law s Most _ _ = refl
not_counted_law s Within _ _ = refl
not_counted_law s Other _ _ = refl

not_tested_law : (ks : List Node) (k : Node) (v : ℕ) (s : Around) → (k ≡ Number → ⊥) → (k ≡ Port → ⊥) → (k ≡ Most → ⊥) → (k ≡ Log → ⊥) → false ≡ test ks k v s
unfolding test
not_tested_law ks Number v s h0 _ _ _ = absurd (h0 refl)
not_tested_law ks Name v s _ _ _ _ = refl
not_tested_law ks Port v s _ h1 _ _ = absurd (h1 refl)
not_tested_law ks Join v s _ _ _ _ = refl
not_tested_law ks Minus v s _ _ _ _ = refl
not_tested_law ks Log v s _ _ _ h3 = absurd (h3 refl)
not_tested_law ks Whole v s _ _ _ _ = refl
not_tested_law ks Most v s _ _ h2 _ = absurd (h2 refl)
not_tested_law ks Within v s _ _ _ _ = refl
not_tested_law ks Other v s _ _ _ _ = refl

-- ---- none

pub zero_is : {n : ℕ} → n ≡ 0 → is_zero n ≡ true
unfolding is_zero
zero_is e = rw e

pub zero_not : (n : ℕ) → (n ≡ 0 → ⊥) → is_zero n ≡ false
unfolding is_zero
zero_not zero h = absurd (h refl)
zero_not (suc n) h = refl

pub zero_eqb : (n : ℕ) → eqb n 0 ≡ is_zero n
unfolding is_zero
zero_eqb zero = refl
zero_eqb (suc n) = eqb-suc-zero n

-- ---- how far the counts grow

pub waiting_most : (n : ℕ) (k : Node) → waiting_of n k ≤ n + 1
unfolding waiting_of
waiting_most n Number = omega arith
waiting_most n Name = omega arith
waiting_most n Port = omega arith
waiting_most n Join = omega arith
waiting_most n Minus = omega arith
waiting_most n Log = omega arith
waiting_most n Whole = omega arith
waiting_most n Most = omega arith
waiting_most n Within = omega arith
waiting_most n Other = omega arith

pub coming_most : (n : ℕ) (k : Node) → coming_of n k ≤ n + 1
unfolding coming_of
coming_most n Number = omega arith
coming_most n Name = omega arith
coming_most n Port = omega arith
coming_most n Join = omega arith
coming_most n Minus = omega arith
coming_most n Log = omega arith
coming_most n Whole = omega arith
coming_most n Most = omega arith
coming_most n Within = omega arith
coming_most n Other = omega arith

one_most : (b : Bool) → one_if b ≤ 1
unfolding one_if
one_most true = omega arith
one_most false = omega arith

lefts_outer : (s : Around) (k : Node) → (outer_of s k).lefts ≤ s.lefts + 1
unfolding outer_of
lefts_outer s Number = omega arith
lefts_outer s Name = omega arith
lefts_outer s Port = omega arith
lefts_outer s Join = let h = one_most s.near in omega arith
lefts_outer s Minus = let h = one_most s.near in omega arith
lefts_outer s Log = omega arith
lefts_outer s Whole = omega arith
lefts_outer s Most = omega arith
lefts_outer s Within = omega arith
lefts_outer s Other = omega arith

pub lefts_most : (n : ℕ) (s : Around) (k : Node) → (outward_of n s k).lefts ≤ s.lefts + 1
unfolding outward_of is_zero
lefts_most zero s k = lefts_outer s k
lefts_most (suc n) s k = omega arith

abbrev sum : Count → ℕ
sum s = s.aside + s.need + s.logs

module _ (s : Count) (k : Node) where
  pub counted_aside : 0 < s.aside → {a : ℕ} → a ≡ coming_of s.aside k → (tally a s.need s.logs ≡ counted_of s k) × (a + s.need + s.logs ≤ sum s + 1)
  unfolding counted_of
  counted_aside h {a} e = (ap (λ (n : ℕ). tally n s.need s.logs) e ∙ sym (ap (λ (b : Bool). elim b as (λ (x : Bool). Count) [ true ↦ count_in s k | false ↦ tally (coming_of s.aside k) s.need s.logs ]) (zero_not s.aside (λ z. omega arith))), let m = coming_most s.aside k in omega arith)

  module _ (h : s.aside ≤ 0) where
    here_none : s.aside ≡ 0
    here_none = omega arith

    counted_in : count_in s k ≡ counted_of s k
    unfolding counted_of
    counted_in = sym (ap (λ (b : Bool). elim b as (λ (x : Bool). Count) [ true ↦ count_in s k | false ↦ tally (coming_of s.aside k) s.need s.logs ]) (zero_is here_none))

    pub counted_log : k ≡ Log → tally s.aside s.need (s.logs + 1) ≡ counted_of s k
    unfolding count_in
    counted_log e = ap (λ (a : ℕ). tally a s.need (s.logs + 1)) here_none ∙ sym (ap (count_in s) e) ∙ counted_in

    pub counted_whole : k ≡ Whole → {n : ℕ} → n ≡ s.need - 1 → tally 1 n s.logs ≡ counted_of s k
    unfolding count_in
    counted_whole e f = ap (λ (n : ℕ). tally 1 n s.logs) f ∙ sym (ap (count_in s) e) ∙ counted_in

    pub counted_other : (k ≡ Log → ⊥) → (k ≡ Whole → ⊥) → {n : ℕ} → n ≡ coming_of s.need k → tally s.aside n s.logs ≡ counted_of s k
    counted_other l w f = ap₂ (λ (a n : ℕ). tally a n s.logs) here_none f ∙ not_counted_law s k l w ∙ counted_in

-- ---- the turns of the scans

module _ (t : List ℕ) (n i w : ℕ) (s : Around) (k : n ≤ length t) where
  here : i < n / 3 → seen_from w s (drop (3 * i) (take n t)) ≡ elim (is_type (node_of (op_at t i))) as (λ (x : Bool). Around) [ true ↦ seen_from (waiting_of w (node_of (op_at t i))) (outward_of w s (node_of (op_at t i))) (drop (3 * suc i) (take n t)) | false ↦ s ]
  unfolding seen_from
  here h = ap (seen_from w s) (item_at_law t n i (omega arith) k)

  pub seen_more : i < n / 3 → {q : Node} → q ≡ node_of (op_at t i) → is_type q ≡ true → {v : ℕ} {r : Around} → v ≡ waiting_of w q → r ≡ outward_of w s q → seen_from v r (drop (3 * (i + 1)) (take n t)) ≡ seen_from w s (drop (3 * i) (take n t))
  seen_more h {q} e f g j = rw (add-one i, g, j, e) (sym (here h ∙ ap (λ (b : Bool). elim b as (λ (x : Bool). Around) [ true ↦ seen_from (waiting_of w (node_of (op_at t i))) (outward_of w s (node_of (op_at t i))) (drop (3 * suc i) (take n t)) | false ↦ s ]) (ap is_type (sym e) ∙ f)))

  pub seen_stop : i < n / 3 → {q : Node} → q ≡ node_of (op_at t i) → is_type q ≡ false → s ≡ seen_from w s (drop (3 * i) (take n t))
  seen_stop h {q} e f = sym (here h ∙ ap (λ (b : Bool). elim b as (λ (x : Bool). Around) [ true ↦ seen_from (waiting_of w (node_of (op_at t i))) (outward_of w s (node_of (op_at t i))) (drop (3 * suc i) (take n t)) | false ↦ s ]) (ap is_type (sym e) ∙ f))

  few : (r : List ℕ) → length r ≤ 2 → s ≡ seen_from w s r
  unfolding seen_from
  few [] h = refl
  few (a ∷ []) h = refl
  few (a ∷ b ∷ []) h = refl
  few (a ∷ b ∷ c ∷ r) h = absurd (omega arith)

  pub seen_end : n / 3 ≤ i → s ≡ seen_from w s (drop (3 * i) (take n t))
  seen_end h = few (drop (3 * i) (take n t)) (let a = length-drop (3 * i) (take n t) in let b = length-take n t in omega arith)

pub logs_stop : (s : Count) (ks : List Node) → is_done s ≡ true → s.logs ≡ logs_over s ks
unfolding logs_over
logs_stop s [] e = refl
logs_stop s (k ∷ ks) e = sym (ap (λ (b : Bool). elim b as (λ (x : Bool). ℕ) [ true ↦ s.logs | false ↦ logs_over (counted_of s k) ks ]) e)

pub logs_end : (s : Count) (t : List ℕ) {i : ℕ} → i ≡ 0 → s.logs ≡ logs_over s (nodes_before t i)
unfolding logs_over nodes_before
logs_end s t e = rw e

pub logs_more : (s : Count) (t : List ℕ) (i : ℕ) → 0 < i → is_done s ≡ false → {q : Node} → q ≡ node_of (op_at t (i - 1)) → {r : Count} → r ≡ counted_of s q → logs_over r (nodes_before t (i - 1)) ≡ logs_over s (nodes_before t i)
unfolding logs_over nodes_before
logs_more s t i h d {q} e {r} g = ap (λ (c : Count). logs_over c (nodes_before t (i - 1))) (g ∙ ap (counted_of s) e) ∙ sym (ap (λ (j : ℕ). logs_over s (nodes_before t j)) z ∙ ap (λ (b : Bool). elim b as (λ (x : Bool). ℕ) [ true ↦ s.logs | false ↦ logs_over (counted_of s (node_of (op_at t (i - 1)))) (nodes_before t (i - 1)) ]) d)
  where
    z : i ≡ suc (i - 1)
    z = omega arith

-- ---- the tests

module _ (ks : List Node) {s r : Around} (e : s ≡ r) where
  pub log_in : s.in_log ≡ true → true ≡ log_faulty ks r
  unfolding log_faulty
  log_in h = sym (ap (λ (b : Bool). b || leb together (logs_over (passing s.lefts) ks)) h) ∙ ap (log_faulty ks) e

  pub log_third : s.in_log ≡ false → {n : ℕ} → n ≡ logs_over (passing s.lefts) ks → leb together n ≡ log_faulty ks r
  unfolding log_faulty
  log_third h f = ap (leb together) f ∙ sym (ap (λ (b : Bool). b || leb together (logs_over (passing s.lefts) ks)) h) ∙ ap (log_faulty ks) e

over : (v m : ℕ) → ltb m v ≡ not (leb v m)
over v m = go (leb v m) refl
  where
    go : (b : Bool) → leb v m ≡ b → ltb m v ≡ not b
    go true e = le-ltb m v (leb-true v m e)
    go false e = lt-ltb m v (leb-false v m e)

module _ (t : List ℕ) (n i : ℕ) {q : Node} (e : q ≡ node_of (op_at t i)) where
  as_node : {k : Node} → q ≡ k → test (nodes_before t i) k (value_at t i) (seen_from 0 bare (drop (3 * (i + 1)) (take n t))) ≡ faulty t n i
  as_node f = ap (λ (k : Node). test (nodes_before t i) k (value_at t i) (seen_from 0 bare (drop (3 * (i + 1)) (take n t)))) (sym f ∙ e)

  pub number_test : q ≡ Number → ltb limits.typeNumber (value_at t i) ≡ faulty t n i
  unfolding test
  number_test f = over (value_at t i) limits.typeNumber ∙ as_node f

  pub port_test : q ≡ Port → {s : Around} → s ≡ seen_from 0 bare (drop (3 * (i + 1)) (take n t)) → s.after ≡ faulty t n i
  unfolding test
  port_test f g = ap (λ (a : Around). a.after) g ∙ as_node f

  pub most_test : q ≡ Most → {s : Around} → s ≡ seen_from 0 bare (drop (3 * (i + 1)) (take n t)) → s.low ≡ faulty t n i
  unfolding test
  most_test f g = ap (λ (a : Around). a.low) g ∙ as_node f

  pub log_test : q ≡ Log → {b : Bool} → b ≡ log_faulty (nodes_before t i) (seen_from 0 bare (drop (3 * (i + 1)) (take n t))) → b ≡ faulty t n i
  unfolding test
  log_test f g = g ∙ as_node f

  pub no_test : (q ≡ Number → ⊥) → (q ≡ Port → ⊥) → (q ≡ Most → ⊥) → (q ≡ Log → ⊥) → false ≡ faulty t n i
  no_test a b c d = not_tested_law (nodes_before t i) q (value_at t i) _ a b c d ∙ as_node refl
