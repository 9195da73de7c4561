-- The run of an item as the code does it is the one of Machine.antt. Assumes nothing.
use Prim.Native.Nat.{ℕ, zero, suc, ◌+◌, ◌-◌, ◌≤◌, ◌<◌}
use mathlib.Core.Path.{◌≡◌, refl, sym, ap, ◌∙◌, subst}
use mathlib.Core.List.{List, [], ◌∷◌}
use mathlib.Core.Bool.{Bool, true, false, false≢true}
use native.Mathlib.Omega.{arith}
use lib.ListN.{length, get_or, set, drop}
use borrow.Author.Tests.{lt-ltb, le-ltb}
use Rattle.language.specs.Meaning.{Change}
use Rattle.plan.specs.declared.Item.{Item}
use Rattle.plan.specs.declared.Item.TheVariants.{Const, Port, Let, Cell, Range, Copies, Beside, Before, Between, Choice, Arm, Keep, Assign, Write, Bad}
use Rattle.plan.specs.Waits.{top}
use Rattle.plan.specs.Items.{takes_of, acts_of}
use Rattle.item_steps.specs.Machine.{State, state, cell_of, pick, write_to, exec1}
use Rattle.item_steps.specs.Ready.{value_of, Asks, Ready, Writes, Left}
use Rattle.item_steps.specs.declared.Tables.{Tables}
use Rattle.plan.proofs.Waits.{length_top}

pub cell_in : (memory : List ℕ) (f n a : ℕ) → a < n → get_or memory (f + a) 0 ≡ cell_of memory f n a
unfolding cell_of
cell_in memory f n a h = sym (ap (λ (b : Bool). elim b [ true ↦ get_or memory (f + a) 0 | false ↦ 0 ]) (lt-ltb a n h))

pub cell_past : (memory : List ℕ) (f n a : ℕ) → n ≤ a → 0 ≡ cell_of memory f n a
unfolding cell_of
cell_past memory f n a h = sym (ap (λ (b : Bool). elim b [ true ↦ get_or memory (f + a) 0 | false ↦ 0 ]) (le-ltb a n h))

pub pick_first : {b : Bool} (x y : ℕ) → b ≡ true → pick b x y ≡ x
unfolding pick
pick_first {b} x y h = rw h

pub pick_second : {b : Bool} (x y : ℕ) → b ≡ false → pick b x y ≡ y
unfolding pick
pick_second {b} x y h = rw h

module _ (values memory : List ℕ) where
  abbrev Leaves : Item → List ℕ → List ℕ → List ℕ → List (Change ℕ) → Type 0
  Leaves i vs ls os qs =
      exec1 values memory i (state vs ls os qs) ≡ state (value_of values memory ls (get_or vs 2 0) (get_or vs 1 0) (get_or vs 0 0) i ∷ drop (takes_of i) vs) ls os qs

  -- an item that leaves a value, where as many wait as it takes
  pub leave : (i : Item) (vs ls os : List ℕ) (qs : List (Change ℕ)) (x y : ℕ) → acts_of i ≡ false → takes_of i ≤ length vs → Asks values memory ls os x y i → Leaves i vs ls os qs
  leave (Const w lo hi) vs ls os qs x y h l a = refl
  leave (Port i) vs ls os qs x y h l a = refl
  leave (Let k) vs ls os qs x y h l a = refl
  leave (Cell m f n) [] ls os qs x y h l a = absurd (omega arith)
  leave (Cell m f n) (v ∷ vs) ls os qs x y h l a = refl
  leave (Range i j) [] ls os qs x y h l a = absurd (omega arith)
  leave (Range i j) (v ∷ vs) ls os qs x y h l a = refl
  leave (Copies n w) [] ls os qs x y h l a = absurd (omega arith)
  leave (Copies n w) (v ∷ vs) ls os qs x y h l a = refl
  leave (Beside w) [] ls os qs x y h l a = absurd (omega arith)
  leave (Beside w) (v ∷ []) ls os qs x y h l a = absurd (omega arith)
  leave (Beside w) (v ∷ u ∷ vs) ls os qs x y h l a = refl
  leave (Before u w) [] ls os qs x y h l a = absurd (omega arith)
  leave (Before u w) (v ∷ vs) ls os qs x y h l a = refl
  leave (Between o m n) [] ls os qs x y h l a = absurd (omega arith)
  leave (Between o m n) (v ∷ []) ls os qs x y h l a = absurd (omega arith)
  leave (Between o m n) (v ∷ u ∷ vs) ls os qs x y h l a = refl
  leave Choice [] ls os qs x y h l a = absurd (omega arith)
  leave Choice (v ∷ []) ls os qs x y h l a = absurd (omega arith)
  leave Choice (v ∷ u ∷ []) ls os qs x y h l a = absurd (omega arith)
  leave Choice (v ∷ u ∷ c ∷ vs) ls os qs x y h l a = refl
  leave (Arm n k) [] ls os qs x y h l a = absurd (omega arith)
  leave (Arm n k) (v ∷ []) ls os qs x y h l a = absurd (omega arith)
  leave (Arm n k) (v ∷ u ∷ vs) ls os qs x y h l a = refl
  leave (Keep k w) vs ls os qs x y h l a = absurd (false≢true (sym h))
  leave (Assign p) vs ls os qs x y h l a = absurd (false≢true (sym h))
  leave (Write m f n) vs ls os qs x y h l a = absurd (false≢true (sym h))
  leave Bad vs ls os qs x y h l a = absurd a

top_1 : (s : List ℕ) (n : ℕ) → 1 ≤ n → top s n ≡ get_or (top s n) 0 0 ∷ top s (n - 1)
unfolding top
top_1 s zero h = absurd (omega arith)
top_1 s (suc n) h = let e : suc n - 1 ≡ n = omega arith in rw e

top_2 : (s : List ℕ) (n : ℕ) → 2 ≤ n → top s n ≡ get_or (top s n) 0 0 ∷ get_or (top s n) 1 0 ∷ top s (n - 2)
unfolding top
top_2 s zero h = absurd (omega arith)
top_2 s (suc zero) h = absurd (omega arith)
top_2 s (suc (suc n)) h = let e : suc (suc n) - 2 ≡ n = omega arith in rw e

module _ (values memory s : List ℕ) (n : ℕ) (ls os : List ℕ) (qs : List (Change ℕ)) where
  pub keeps : {i : Item} {k w : ℕ} (q y : ℕ) → i ≡ Keep k w → q ≡ k → 1 ≤ n → y ≡ get_or (top s n) 0 0 → state (top s (n - 1)) (set ls q y) os qs ≡ exec1 values memory i (state (top s n) ls os qs)
  keeps {i} {k} {w} q y d j h e = rw (d, j, e) (sym (ap (λ (vs : List ℕ). exec1 values memory (Keep k w) (state vs ls os qs)) (top_1 s n h)))

  pub assigns : {i : Item} {p : ℕ} (q y : ℕ) → i ≡ Assign p → q ≡ p → 1 ≤ n → y ≡ get_or (top s n) 0 0 → state (top s (n - 1)) ls (set os q y) qs ≡ exec1 values memory i (state (top s n) ls os qs)
  assigns {i} {p} q y d j h e = rw (d, j, e) (sym (ap (λ (vs : List ℕ). exec1 values memory (Assign p) (state vs ls os qs)) (top_1 s n h)))

  pub writes : {i : Item} {m f size : ℕ} (x y : ℕ) → i ≡ Write m f size → 2 ≤ n → x ≡ get_or (top s n) 1 0 → y ≡ get_or (top s n) 0 0
      → state (top s (n - 2)) ls os (write_to f size x y qs) ≡ exec1 values memory i (state (top s n) ls os qs)
  writes {i} {m} {f} {size} x y j h d e = rw (j, d, e) (sym (ap (λ (vs : List ℕ). exec1 values memory (Write m f size) (state vs ls os qs)) (top_2 s n h)))

-- ---- what a step leaves

pub left_as : (memory : List ℕ) (n : ℕ) (slots outputs : List ℕ) {cells : ℕ} (t : Tables cells) (qs : List (Change ℕ)) {s : State}
    → state (top t.stack n) slots outputs qs ≡ s → Writes memory t qs → Left memory n slots outputs t s
left_as memory n slots outputs {cells} t qs e b =
    subst (λ (s : State). Left memory n slots outputs t s) e (record { waits = refl; slot = refl; output = refl; write = b })

-- a value in place of those that an item takes
pub value_left : (values memory s t : List ℕ) (n r : ℕ) (ls os : List ℕ) (qs : List (Change ℕ)) (i : Item) → acts_of i ≡ false → Ready values memory s n ls os i
    → top t r ≡ value_of values memory ls (get_or (top s n) 2 0) (get_or (top s n) 1 0) (get_or (top s n) 0 0) i ∷ drop (takes_of i) (top s n)
    → state (top t r) ls os qs ≡ exec1 values memory i (state (top s n) ls os qs)
value_left values memory s t n r ls os qs i h q e =
    let k : takes_of i ≤ length (top s n) = rw (length_top s n) q.there in
    ap (λ (vs : List ℕ). state vs ls os qs) e ∙ sym (leave values memory i (top s n) ls os qs (get_or (top s n) 1 0) (get_or (top s n) 0 0) h k q.asks)
