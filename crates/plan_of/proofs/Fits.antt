-- What fits: the plan's tests of a cycle's mask, inputs and cells are the text's.
use Prim.Native.Nat.{ℕ, zero, suc, ◌+◌, ◌^◌, ◌≤◌, ◌<◌}
use mathlib.Core.Path.{◌≡◌, refl, sym, ap, ap₂, ◌∙◌}
use mathlib.Core.List.{List, [], ◌∷◌, ◌++◌}
use mathlib.Core.Bool.{Bool, true, false, not, ◌&&◌, ◌||◌}
use native.Mathlib.Omega.{arith}
use native.Mathlib.Nat.{zero-add, add-zero}
use native.Mathlib.Decide.{dec_lt}
use lib.ListN.{length, get_or, drop}
use lib.Seq.{get_or-drop, drop-drop}
use lib.Dec.{leb, ltb, eqb}
use borrow.Author.Tests.{eqb-true, eqb-false, le-leb, lt-leb}
use Rattle.language.specs.Text.{Name, among}
use Rattle.language.specs.Tree.{Memory, spelled_of}
use Rattle.language.specs.Parts.{each}
use Rattle.language.specs.Names.{input_names}
use Rattle.language.specs.Counts.{size_of}
use Rattle.language.specs.Widths.{port_width, memory_width}
use Rattle.language.specs.Values.{bit_of}
use Rattle.language.specs.Sizes.{Setting}
use Rattle.language.specs.Meaning.{Given, port_at, is_present, copies_in, cell_widths, fits, present_fits, all_fit, inputs_fit}
use Rattle.plan.specs.Layout.{port_count, memory_count, memory_width_at, memory_size_at, cells_before}
use Rattle.plan.specs.Layout as Layout
use Rattle.judged.specs.Tests.{all_below, input_fits, memory_fits}
use Rattle.placed.specs.Placed.{Every}
use Rattle.plan_of.specs.PlanOf.{port_number, plan_of}
use Rattle.placed.proofs.Names.{bool_iff, both_true, true_both, every_among, among_every, Distinct, index_at, index_distinct}
use Rattle.plan_of.proofs.Masks.{port_below, bit_small}
use Rattle.plan_of.proofs.Sections.{no_name, no_memory, port_count_law, port_at_law, memory_count_law, memory_width_law, memory_size}

-- ## Every number below n

module _ (p : List ℕ) (f : ℕ → Bool) where
  pub all_true : (n : ℕ) → all_below p n f ≡ true → (i : ℕ) → i < n → f i ≡ true
  unfolding all_below
  all_true zero h i j = absurd (omega arith)
  all_true (suc n) h i j = go (both_true (all_below p n f) (f n) h) (dec_lt i n) (λ a k. all_true n a i k)
    where
      go : (all_below p n f ≡ true) × (f n ≡ true) → Dec (i < n) → (all_below p n f ≡ true → i < n → f i ≡ true) → f i ≡ true
      go a (yes k) r = r a.0 k
      go a (no k) r = let e : i ≡ n = omega arith in rw e a.1

  pub true_all : (n : ℕ) → ((i : ℕ) → i < n → f i ≡ true) → all_below p n f ≡ true
  unfolding all_below
  true_all zero h = refl
  true_all (suc n) h = true_both (all_below p n f) (f n) (true_all n (λ i j. h i (omega arith))) (h n (omega arith))

-- ## Inputs

module _ (s : Setting) (g : Given) where
  all_fit_law : (l : List (List ℕ)) → all_fit s g l ≡ true → Every (λ n. present_fits s g n ≡ true) l
  unfolding all_fit
  all_fit_law [] h = tt
  all_fit_law (n ∷ l) h = let q = both_true (present_fits s g n) (all_fit s g l) h in (q.0, all_fit_law l q.1)

  fit_all : (l : List (List ℕ)) → Every (λ n. present_fits s g n ≡ true) l → all_fit s g l ≡ true
  unfolding all_fit
  fit_all [] e = refl
  fit_all (n ∷ l) e = true_both (present_fits s g n) (all_fit s g l) e.0 (fit_all l e.1)

  present_fits_law : inputs_fit s g ≡ true → (n : List ℕ) → among (input_names s.actor.ports) n ≡ true → present_fits s g n ≡ true
  unfolding inputs_fit
  present_fits_law h n a = every_among (λ m. present_fits s g m ≡ true) (input_names s.actor.ports) n (all_fit_law (input_names s.actor.ports) h) a

  fits_present : ((n : List ℕ) → among (input_names s.actor.ports) n ≡ true → present_fits s g n ≡ true) → inputs_fit s g ≡ true
  unfolding inputs_fit
  fits_present f = fit_all (input_names s.actor.ports) (among_every (λ n. present_fits s g n ≡ true) (input_names s.actor.ports) f)

spelled_at_law : (l : List Name) (i : ℕ) → i < length l → (get_or l i no_name).spelled ≡ get_or (spelled_of l) i []
unfolding spelled_of
spelled_at_law [] i h = absurd (omega arith)
spelled_at_law (n ∷ l) zero h = refl
spelled_at_law (n ∷ l) (suc i) h = spelled_at_law l i (omega arith)

-- the plan's test of an input, and of an output
input_test : (bit v w : ℕ) → bit < 2 → w ≤ 32 → ((eqb bit 0 || leb 256 w) || ltb v (2 ^ w)) ≡ (not (eqb bit 1) || ltb v (2 ^ w))
input_test bit v w h k = rw (lt-leb 256 w (omega arith)) (go (eqb bit 0) (eqb bit 1) (ltb v (2 ^ w)) refl refl)
  where
    go : (a b c : Bool) → eqb bit 0 ≡ a → eqb bit 1 ≡ b → ((a || false) || c) ≡ (not b || c)
    go true true c e f = let x = eqb-true bit 0 e in let y = eqb-true bit 1 f in absurd (omega arith)
    go true false c e f = refl
    go false true c e f = refl
    go false false c e f = let x = eqb-false bit 0 e in let y = eqb-false bit 1 f in absurd (omega arith)

output_test : (a c : Bool) (w : ℕ) → ((a || leb 256 (w + 256)) || c) ≡ true
output_test a c w = rw (le-leb 256 (w + 256) (omega arith)) (go a)
  where
    go : (a : Bool) → ((a || true) || c) ≡ true
    go true = refl
    go false = refl

module _ (s : Setting) where
  abbrev p : List ℕ
  p = plan_of s

  abbrev named : ℕ → List ℕ
  named i = get_or (spelled_of s.actor.signature) i []

  pub input_number : (i : ℕ) → i < length s.actor.signature → among (input_names s.actor.ports) (named i) ≡ true → Layout.port_at p i ≡ port_width s.actor s.widths (named i)
  unfolding port_number
  input_number i h a = let e = spelled_at_law s.actor.signature i h in port_at_law s i h ∙ rw (port_number, e, a, e)

  pub output_number : (i : ℕ) → i < length s.actor.signature → among (input_names s.actor.ports) (named i) ≡ false → Layout.port_at p i ≡ port_width s.actor s.widths (named i) + 256
  unfolding port_number
  output_number i h a = let e = spelled_at_law s.actor.signature i h in port_at_law s i h ∙ rw (port_number, e, a, e)

  module _ (g : Given) (d : Distinct [] s.actor.signature) (known : (n : List ℕ) → among (input_names s.actor.ports) n ≡ true → among (spelled_of s.actor.signature) n ≡ true)
      (small : (n : List ℕ) → port_width s.actor s.widths n ≤ 32) where
    input_fits_law : (i : ℕ) → i < length s.actor.signature → among (input_names s.actor.ports) (named i) ≡ true → input_fits p g.mask g.values i ≡ present_fits s g (named i)
    unfolding input_fits present_fits is_present port_at
    input_fits_law i h a =
        let e = index_distinct [] s.actor.signature i d h in
        rw (input_number i h a, e) (input_test (bit_of g.mask i) (get_or g.values i 0) (port_width s.actor s.widths (named i)) (bit_small g.mask i) (small (named i)))

    output_fits : (i : ℕ) → i < length s.actor.signature → among (input_names s.actor.ports) (named i) ≡ false → input_fits p g.mask g.values i ≡ true
    unfolding input_fits
    output_fits i h a = rw (output_number i h a) (output_test (eqb (bit_of g.mask i) 0) (ltb (get_or g.values i 0) (2 ^ (port_width s.actor s.widths (named i) + 256))) (port_width s.actor s.widths (named i)))

    pub inputs_agree : all_below p (port_count p) (input_fits p g.mask g.values) ≡ inputs_fit s g
    unfolding port_at
    inputs_agree =
        rw (port_count_law s)
        (bool_iff _ _
        (λ h. fits_present s g (λ n a.
        let k = known n a in
        let e = index_at (spelled_of s.actor.signature) n k in
        let b = port_below s n k in
        let f = input_fits_law (port_at s n) b (rw e a) in
        rw e at (sym f ∙ all_true p (input_fits p g.mask g.values) (length s.actor.signature) h (port_at s n) b)))
        (λ h. true_all p (input_fits p g.mask g.values) (length s.actor.signature) (λ i j. go h i j (among (input_names s.actor.ports) (named i)) refl)))
      where
        go : inputs_fit s g ≡ true → (i : ℕ) → i < length s.actor.signature → (b : Bool) → among (input_names s.actor.ports) (named i) ≡ b → input_fits p g.mask g.values i ≡ true
        go h i j true a = input_fits_law i j a ∙ present_fits_law s g h (named i) a
        go h i j false a = output_fits i j a

-- ## Cells

and_assoc : (a b c : Bool) → ((a && b) && c) ≡ (a && (b && c))
and_assoc true b c = refl
and_assoc false b c = refl

and_true : (a : Bool) → (a && true) ≡ a
and_true true = refl
and_true false = refl

fits_append : (xs ys vs : List ℕ) → fits (xs ++ ys) vs ≡ (fits xs vs && fits ys (drop (length xs) vs))
unfolding fits
fits_append [] ys vs = refl
fits_append (w ∷ xs) ys vs =
    let e : 1 + length xs ≡ suc (length xs) = omega arith in
    rw (fits_append xs ys (drop 1 vs), drop-drop (length xs) 1 vs, e) (sym (and_assoc (ltb (get_or vs 0 0) (2 ^ w)) (fits xs (drop 1 vs)) _))

all_same : (p : List ℕ) (n : ℕ) (f g : ℕ → Bool) → ((i : ℕ) → f i ≡ g i) → all_below p n f ≡ all_below p n g
unfolding all_below
all_same p zero f g h = refl
all_same p (suc n) f g h = ap₂ ◌&&◌ (all_same p n f g h) (h n)

all_first : (p : List ℕ) (n : ℕ) (f : ℕ → Bool) → all_below p (suc n) f ≡ (f 0 && all_below p n (λ i. f (suc i)))
unfolding all_below
all_first p zero f = sym (and_true (f 0))
all_first p (suc n) f = ap (λ (b : Bool). b && f (suc n)) (all_first p n f) ∙ and_assoc (f 0) (all_below p n (λ i. f (suc i))) (f (suc n))

copies_fit : (p memory : List ℕ) (n w o : ℕ) → fits (copies_in n w) (drop o memory) ≡ all_below p n (λ i. ltb (get_or memory (o + i) 0) (2 ^ w))
unfolding fits copies_in all_below
copies_fit p memory zero w o = refl
copies_fit p memory (suc n) w o =
    rw (get_or-drop o memory 0 0, drop-drop 1 o memory, copies_fit p memory n w (o + 1))
    (ap (λ (b : Bool). ltb (get_or memory (o + 0) 0) (2 ^ w) && b) (all_same p n _ _ (λ i. let e : o + 1 + i ≡ o + suc i = omega arith in rw e))
    ∙ sym (all_first p n (λ i. ltb (get_or memory (o + i) 0) (2 ^ w))))

all_from : (ℕ → Bool) → ℕ → ℕ → Bool
all_from f k zero = true
all_from f k (suc n) = f k && all_from f (suc k) n

all_from_law : (p : List ℕ) (f : ℕ → Bool) (k n : ℕ) → all_below p n (λ i. f (k + i)) ≡ all_from f k n
unfolding all_from all_below
all_from_law p f k zero = refl
all_from_law p f k (suc n) =
    all_first p n (λ i. f (k + i))
    ∙ rw (add-zero k) (ap (λ (b : Bool). f k && b) (all_same p n (λ i. f (k + suc i)) (λ i. f (suc k + i)) (λ i. let e : k + suc i ≡ suc k + i = omega arith in rw e) ∙ all_from_law p f (suc k) n))

pub length_copies : (n w : ℕ) → length (copies_in n w) ≡ n
unfolding copies_in
length_copies zero w = refl
length_copies (suc n) w = ap suc (length_copies n w)

module _ (s : Setting) (memory : List ℕ) where
  abbrev cells_for : Memory → List ℕ
  cells_for m = copies_in (size_of m) (memory_width s.actor s.widths m.called.spelled)

  cells_walk : (k : ℕ) (ms : List Memory)
      → ((j : ℕ) → j < length ms → (memory_width_at (plan_of s) (k + j) ≡ memory_width s.actor s.widths (get_or ms j no_memory).called.spelled) × (memory_size_at (plan_of s) (k + j) ≡ size_of (get_or ms j no_memory)))
      → fits (each cells_for ms) (drop (cells_before (plan_of s) k) memory) ≡ all_from (memory_fits (plan_of s) memory) k (length ms)
  unfolding each fits all_from memory_fits cells_before
  cells_walk k [] f = refl
  cells_walk k (m ∷ ms) f =
      let a = f 0 (omega arith) in
      let w : memory_width_at (plan_of s) k ≡ memory_width s.actor s.widths m.called.spelled = rw (add-zero k) at a.0 in
      let z : memory_size_at (plan_of s) k ≡ size_of m = rw (add-zero k) at a.1 in
      let r = cells_walk (suc k) ms (λ j h. let e : k + suc j ≡ suc k + j = omega arith in rw e at (f (suc j) (omega arith))) in
      let x : fits (cells_for m) (drop (cells_before (plan_of s) k) memory) ≡ memory_fits (plan_of s) memory k =
      copies_fit (plan_of s) memory (size_of m) (memory_width s.actor s.widths m.called.spelled) (cells_before (plan_of s) k) ∙ rw (memory_fits, w, z) in
      let y : fits (each cells_for ms) (drop (length (cells_for m)) (drop (cells_before (plan_of s) k) memory)) ≡ all_from (memory_fits (plan_of s) memory) (suc k) (length ms) =
      rw (length_copies (size_of m) (memory_width s.actor s.widths m.called.spelled), drop-drop (size_of m) (cells_before (plan_of s) k) memory, ← z) r in
      fits_append (cells_for m) (each cells_for ms) (drop (cells_before (plan_of s) k) memory) ∙ ap₂ ◌&&◌ x y

  pub cells_agree : all_below (plan_of s) (memory_count (plan_of s)) (memory_fits (plan_of s) memory) ≡ fits (cell_widths s) memory
  unfolding cell_widths cells_before
  cells_agree =
      rw (memory_count_law s)
      (all_same (plan_of s) (length s.actor.memories) _ _ (λ i. rw (zero-add i))
      ∙ all_from_law (plan_of s) (memory_fits (plan_of s) memory) 0 (length s.actor.memories)
      ∙ sym (cells_walk 0 s.actor.memories (λ j h. rw (zero-add j) (memory_width_law s j h, memory_size s j h))))
