-- The searches for a name: what is left of the items, or of the lines, answers as all of them. Assumes nothing.
use mathlib.Core.Path.{◌≡◌, refl, sym, ap, ◌∙◌}
use mathlib.Core.Bool.{Bool, true, false}
use mathlib.Core.List.{List, [], ◌∷◌, ◌++◌}
use Prim.Native.Nat.{ℕ, zero, suc, ◌+◌, ◌*◌, ◌-◌, ◌≤◌, ◌<◌}
use native.Mathlib.Omega.{arith}
use native.Mathlib.Numerals.{add-one}
use lib.Dec.{eqb}
use lib.ListN.{length, get_or, take}
use borrow.Author.Tests.{eq-eqb, ne_eqb, le-ltb}
use Rattle.language.specs.Text.{same, index, among}
use Rattle.language.specs.Tree.{spelled_of}
use Rattle.language.specs.Parts.{each}
use Rattle.language.specs.Bindings.{Binding}
use Rattle.language.specs.Widths.{bound_names, value_in}
use Rattle.placed.specs.Placed.{name_from}
use Rattle.tape.specs.Tape.{SIZE, MEMORY}
use Rattle.tape.specs.declared.Class.{Class}
use Rattle.tape.specs.Walk.{op_at, place_at, value_at, hit, add, pick, names_on as latest_on, between}
use Rattle.row09_bindings.specs.Lines.{names_on, lines_on}
use Rattle.row09_bindings.proofs.Indices.{found_among, found_value}
use Rattle.looked_up.specs.Lookup.{named, size_before, sizes_on, sum_of}

-- ---- the first one first

module _ (text t : List ℕ) (o to : ℕ) (s : List ℕ) where
  -- where the name stands among those from item i on
  abbrev pub From : ℕ → ℕ
  From i = index (named text t o i (to - i)) s

  module _ (i : ℕ) (h : i < to) where
    first : named text t o i (to - i) ≡ add (eqb (op_at t i) o) (name_from text (place_at t i)) (named text t o (i + 1) (to - (i + 1)))
    unfolding named
    first = let e : to - i ≡ suc (to - (i + 1)) = omega arith in rw (e, add-one i)

    pub from_other : (op_at t i ≡ o → ⊥) → From i ≡ From (i + 1)
    unfolding add
    from_other n = ap (λ (l : List (List ℕ)). index l s) first ∙ simp (add, ne_eqb (op_at t i) o n)

    module _ (e : op_at t i ≡ o) where
      pub from_here : same (name_from text (place_at t i)) s ≡ true → From i ≡ 0
      unfolding add index
      from_here q = ap (λ (l : List (List ℕ)). index l s) first ∙ simp (add, index, eq-eqb (op_at t i) o e, q)

      pub from_next : same (name_from text (place_at t i)) s ≡ false → From i ≡ suc (From (i + 1))
      unfolding add index
      from_next q = ap (λ (l : List (List ℕ)). index l s) first ∙ simp (add, index, eq-eqb (op_at t i) o e, q)

  pub from_none : (i : ℕ) → to ≤ i → From i ≡ 0
  unfolding named index
  from_none i h = let e : to - i ≡ 0 = omega arith in rw e

  pub from_all : From 0 ≡ index (named text t o 0 to) s
  from_all = let e : to - 0 ≡ to = omega arith in ap (λ (n : ℕ). index (named text t o 0 n) s) e

-- ---- how many they are

module _ (text t : List ℕ) (o to : ℕ) where
  -- how many items from item i on have the operation
  abbrev pub Many : ℕ → ℕ
  Many i = length (named text t o i (to - i))

  pub many_other : (i : ℕ) → i < to → (op_at t i ≡ o → ⊥) → Many i ≡ Many (i + 1)
  unfolding add
  many_other i h n = ap length (first text t o to [] i h) ∙ simp (add, ne_eqb (op_at t i) o n)

  pub many_next : (i : ℕ) → i < to → op_at t i ≡ o → Many i ≡ suc (Many (i + 1))
  unfolding add
  many_next i h e = ap length (first text t o to [] i h) ∙ simp (add, eq-eqb (op_at t i) o e)

  pub many_none : (i : ℕ) → to ≤ i → Many i ≡ 0
  unfolding named
  many_none i h = let e : to - i ≡ 0 = omega arith in rw e

  pub many_all : Many 0 ≡ length (named text t o 0 to)
  many_all = let e : to - 0 ≡ to = omega arith in ap (λ (n : ℕ). length (named text t o 0 n)) e

pub named_within : (text t : List ℕ) (o from n : ℕ) → length (named text t o from n) ≤ n
unfolding named add
named_within text t o from zero = omega arith
named_within text t o from (suc n) = go (eqb (op_at t from) o) (named_within text t o (suc from) n)
  where
    go : (b : Bool) → length (named text t o (suc from) n) ≤ n → length (add b (name_from text (place_at t from)) (named text t o (suc from) n)) ≤ suc n
    go true h = let k : suc (length (named text t o (suc from) n)) ≤ suc n = omega arith in k
    go false h = omega arith

-- a name among those of two lists
module _ (b : List (List ℕ)) (s : List ℕ) where
  pub index_first : (a : List (List ℕ)) → index a s < length a → index (a ++ b) s ≡ index a s
  unfolding index
  index_first [] h = absurd (omega arith)
  index_first (n ∷ a) h = go (same n s) (index_first a) h
    where
      go : (t : Bool) → (index a s < length a → index (a ++ b) s ≡ index a s) → elim t as (λ (x : Bool). ℕ) [ true ↦ zero | false ↦ suc (index a s) ] < suc (length a)
          → ◌≡◌ {A = ℕ} (elim t as (λ (x : Bool). ℕ) [ true ↦ zero | false ↦ suc (index (a ++ b) s) ]) (elim t as (λ (x : Bool). ℕ) [ true ↦ zero | false ↦ suc (index a s) ])
      go true f q = refl
      go false f q = ap suc (f (let k : suc (index a s) < suc (length a) = q in omega arith))

  pub index_second : (a : List (List ℕ)) → length a ≤ index a s → index (a ++ b) s ≡ length a + index b s
  unfolding index
  index_second [] h = omega arith
  index_second (n ∷ a) h = go (same n s) (index_second a) h
    where
      go : (t : Bool) → (length a ≤ index a s → index (a ++ b) s ≡ length a + index b s) → suc (length a) ≤ elim t as (λ (x : Bool). ℕ) [ true ↦ zero | false ↦ suc (index a s) ]
          → ◌≡◌ {A = ℕ} (elim t as (λ (x : Bool). ℕ) [ true ↦ zero | false ↦ suc (index (a ++ b) s) ]) (suc (length a) + index b s)
      go true f q = absurd (let k : suc (length a) ≤ 0 = q in omega arith)
      go false f q = let e = f (let k : suc (length a) ≤ suc (index a s) = q in omega arith) in let k : suc (index (a ++ b) s) ≡ suc (length a) + index b s = omega arith in k

-- ---- the latest one first

module _ (text t : List ℕ) (from : ℕ) (s : List ℕ) where
  -- where the name stands among those of the `val`s before item i
  abbrev pub Before : ℕ → ℕ
  Before i = index (between text t Class.Val from i) s

  module _ (i : ℕ) (h : from < i) where
    last : latest_on text t Class.Val from (i - from) ≡ add (eqb (op_at t (i - 1)) 37) (name_from text (place_at t (i - 1))) (latest_on text t Class.Val from (i - 1 - from))
    unfolding latest_on hit
    last = let e : i - from ≡ suc (i - 1 - from) = omega arith in let f : from + (i - 1 - from) ≡ i - 1 = omega arith in rw (e, f)

    pub before_other : (op_at t (i - 1) ≡ 37 → ⊥) → Before i ≡ Before (i - 1)
    unfolding add
    before_other n = ap (λ (l : List (List ℕ)). index l s) last ∙ simp (add, ne_eqb (op_at t (i - 1)) 37 n)

    module _ (e : op_at t (i - 1) ≡ 37) where
      pub before_here : same (name_from text (place_at t (i - 1))) s ≡ true → Before i ≡ 0
      unfolding add index
      before_here q = ap (λ (l : List (List ℕ)). index l s) last ∙ simp (add, index, eq-eqb (op_at t (i - 1)) 37 e, q)

      pub before_next : same (name_from text (place_at t (i - 1))) s ≡ false → Before i ≡ suc (Before (i - 1))
      unfolding add index
      before_next q = ap (λ (l : List (List ℕ)). index l s) last ∙ simp (add, index, eq-eqb (op_at t (i - 1)) 37 e, q)

  pub before_none : (i : ℕ) → i ≤ from → Before i ≡ 0
  unfolding latest_on index
  before_none i h = let e : i - from ≡ 0 = omega arith in rw e

-- ---- the lines of the bindings

value_none : (l : List Binding) (s : List ℕ) → among (spelled_of (bound_names l)) s ≡ false → value_in l s ≡ 0
unfolding value_in among bound_names spelled_of each
value_none [] s e = refl
value_none (b ∷ l) s e = go (same b.called.spelled s) (value_none l s) e
  where
    go : (t : Bool) → (among (spelled_of (bound_names l)) s ≡ false → value_in l s ≡ 0) → elim t as (λ (x : Bool). Bool) [ true ↦ true | false ↦ among (spelled_of (bound_names l)) s ] ≡ false
        → ◌≡◌ {A = ℕ} (elim t as (λ (x : Bool). ℕ) [ true ↦ b.value | false ↦ value_in l s ]) 0
    go true f q = absurd (let z : ◌≡◌ {A = ℕ} 0 1 = cc in omega arith)
    go false f q = f q

module _ (btext t : List ℕ) (k m : ℕ) (s : List ℕ) (r to : ℕ) (f : r ≡ k + index (names_on btext t k (to - k)) s) (q : to ≡ k + m) where
  same_lines : lines_on btext t k (to - k) ≡ lines_on btext t k m
  same_lines = let e : to - k ≡ m = omega arith in ap (lines_on btext t k) e

  pub value_found : r < to → get_or t (3 * r + 2) 0 ≡ value_in (lines_on btext t k m) s
  value_found h = sym (found_value btext t k to (omega arith) same_lines s f h)

  pub value_missing : to ≤ r → 0 ≡ value_in (lines_on btext t k m) s
  value_missing h = sym (value_none (lines_on btext t k m) s (found_among btext t k to (omega arith) same_lines s f ∙ le-ltb r to h))

-- ---- past the end of a table

pub past_end : (l : List ℕ) (i : ℕ) → length l ≤ i → get_or l i 0 ≡ 0
past_end [] i h = refl
past_end (x ∷ l) zero h = absurd (omega arith)
past_end (x ∷ l) (suc i) h = past_end l i (omega arith)

-- ---- the size before a memory

module _ (t : List ℕ) (i : ℕ) (h : i ≡ 0 → ⊥) where
  pub size_given_law : op_at t (i - 1) ≡ SIZE → size_before t i ≡ value_at t (i - 1)
  unfolding size_before pick
  size_given_law e = go i h e
    where
      go : (i : ℕ) → (i ≡ 0 → ⊥) → op_at t (i - 1) ≡ SIZE → size_before t i ≡ value_at t (i - 1)
      go zero n q = absurd (n refl)
      go (suc j) n q = let f : suc j - 1 ≡ j = omega arith in rw f (rw (eq-eqb (op_at t j) SIZE (ap (op_at t) (sym f) ∙ q), pick))

  pub size_one : (op_at t (i - 1) ≡ SIZE → ⊥) → size_before t i ≡ 1
  unfolding size_before pick
  size_one e = go i h e
    where
      go : (i : ℕ) → (i ≡ 0 → ⊥) → (op_at t (i - 1) ≡ SIZE → ⊥) → size_before t i ≡ 1
      go zero n q = absurd (n refl)
      go (suc j) n q = let f : suc j - 1 ≡ j = omega arith in rw (ne_eqb (op_at t j) SIZE (λ z. q (ap (op_at t) f ∙ z)), pick)

-- ---- the cells of some memories

module _ (t : List ℕ) (to : ℕ) where
  -- the cells of the first k memories from item i on
  abbrev pub Cells : ℕ → ℕ → ℕ
  Cells i k = sum_of (take k (sizes_on t i (to - i)))

  pub cells_all : (k : ℕ) → Cells 0 k ≡ sum_of (take k (sizes_on t 0 to))
  cells_all k = let e : to - 0 ≡ to = omega arith in ap (λ (n : ℕ). sum_of (take k (sizes_on t 0 n))) e

  pub cells_enough : (i k : ℕ) → k ≡ 0 → Cells i k ≡ 0
  unfolding sum_of
  cells_enough i k e = ap (Cells i) e

  pub cells_end : (i k : ℕ) → to ≤ i → Cells i k ≡ 0
  unfolding sizes_on sum_of
  cells_end i zero h = refl
  cells_end i (suc k) h = let e : to - i ≡ 0 = omega arith in ap (λ (n : ℕ). sum_of (take (suc k) (sizes_on t i n))) e

  module _ (i : ℕ) (h : i < to) where
    one_off : sizes_on t i (to - i) ≡ elim (eqb (op_at t i) MEMORY) [ true ↦ size_before t i ∷ sizes_on t (i + 1) (to - (i + 1)) | false ↦ sizes_on t (i + 1) (to - (i + 1)) ]
    unfolding sizes_on
    one_off =
        let e : to - i ≡ suc (to - (i + 1)) = omega arith in
        ap (sizes_on t i) e
        ∙ ap (λ (j : ℕ). elim (eqb (op_at t i) MEMORY) as (λ (b : Bool). List ℕ) [ true ↦ size_before t i ∷ sizes_on t j (to - (i + 1)) | false ↦ sizes_on t j (to - (i + 1)) ]) (sym (add-one i))

    pub cells_other : (k : ℕ) → (op_at t i ≡ MEMORY → ⊥) → Cells i k ≡ Cells (i + 1) k
    cells_other k n = ap (λ (l : List ℕ). sum_of (take k l)) (one_off ∙ rw (ne_eqb (op_at t i) MEMORY n))

    pub cells_more : (k : ℕ) → op_at t i ≡ MEMORY → (k ≡ 0 → ⊥) → Cells i k ≡ size_before t i + Cells (i + 1) (k - 1)
    unfolding sum_of
    cells_more zero e n = absurd (n refl)
    cells_more (suc k) e n =
        let f : suc k - 1 ≡ k = omega arith in
        let g : sizes_on t i (to - i) ≡ size_before t i ∷ sizes_on t (i + 1) (to - (i + 1)) = one_off ∙ rw (eq-eqb (op_at t i) MEMORY e) in
        ap (λ (l : List ℕ). sum_of (take (suc k) l)) g ∙ ap (λ (j : ℕ). size_before t i + Cells (i + 1) j) (sym f)

  -- ---- the size of one

  -- the size of the k-th memory from item i on
  abbrev pub Size : ℕ → ℕ → ℕ
  Size i k = get_or (sizes_on t i (to - i)) k 0

  pub size_all : (k : ℕ) → Size 0 k ≡ get_or (sizes_on t 0 to) k 0
  size_all k = let e : to - 0 ≡ to = omega arith in ap (λ (n : ℕ). get_or (sizes_on t 0 n) k 0) e

  pub size_end : (i k : ℕ) → to ≤ i → Size i k ≡ 0
  unfolding sizes_on
  size_end i k h = let e : to - i ≡ 0 = omega arith in ap (λ (n : ℕ). get_or (sizes_on t i n) k 0) e

  module _ (i : ℕ) (h : i < to) where
    pub size_other : (k : ℕ) → (op_at t i ≡ MEMORY → ⊥) → Size i k ≡ Size (i + 1) k
    size_other k n =
        let g : sizes_on t i (to - i) ≡ sizes_on t (i + 1) (to - (i + 1)) = one_off i h ∙ rw (ne_eqb (op_at t i) MEMORY n) in
        ap (λ (l : List ℕ). get_or l k 0) g

    one_more : op_at t i ≡ MEMORY → sizes_on t i (to - i) ≡ size_before t i ∷ sizes_on t (i + 1) (to - (i + 1))
    one_more e = one_off i h ∙ rw (eq-eqb (op_at t i) MEMORY e)

    pub size_here : (k : ℕ) → op_at t i ≡ MEMORY → k ≡ 0 → Size i k ≡ size_before t i
    size_here k e z = ap (λ (l : List ℕ). get_or l k 0) (one_more e) ∙ ap (λ (n : ℕ). get_or (size_before t i ∷ sizes_on t (i + 1) (to - (i + 1))) n 0) z

    pub size_next : (k : ℕ) → op_at t i ≡ MEMORY → (k ≡ 0 → ⊥) → Size i k ≡ Size (i + 1) (k - 1)
    size_next zero e n = absurd (n refl)
    size_next (suc k) e n = let f : suc k - 1 ≡ k = omega arith in ap (λ (l : List ℕ). get_or l (suc k) 0) (one_more e) ∙ ap (Size (i + 1)) (sym f)
