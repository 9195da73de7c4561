-- Tests of numbers as the code makes them, and as the definitions have them. Assumes nothing.
use mathlib.Core.Path.{◌≡◌, sym, ap, ◌∙◌, subst}
use mathlib.Core.Bool.{true, false}
use Rattle.std.specs.Prelude.{Some, None}
use mathlib.Core.List.{List}
use Prim.Native.Nat.{ℕ, suc, ◌+◌, ◌-◌, ◌%◌, ◌≤◌, ◌<◌}
use native.Mathlib.Omega.{arith}
use borrow.Author.Tests.{lt-ltb, le-ltb, eq-eqb, ne_eqb}
use lib.ListN.{length, set}
use lib.Seq.{set_out}
use Rattle.plan.specs.Layout.{port_at}
use Rattle.figures.specs.declared.Stage.{Stage}
use Rattle.figures.specs.declared.State.{State}
use Rattle.figures.specs.States.{start_of, wrong_of, takes_of, longer_of}
use Rattle.input_bytes.specs.Texts.{count_byte, kept_of}
use Rattle.input_bytes.specs.Lines.{input_from, next_input, mask_after, values_after}
use Rattle.cycle_line.specs.Shown.{ports_of}

-- ---- counts

module _ (s : State) (b : ℕ) (g : Stage) where
  pub count_takes : takes_of s b ≡ true → longer_of s b ≡ count_byte g s b
  unfolding count_byte
  count_takes e = sym (simp (count_byte, e))

  pub count_unbegun : takes_of s b ≡ false → s.number ≡ None → wrong_of s ≡ count_byte g s b
  unfolding count_byte
  count_unbegun e f = sym (simp (count_byte, e, f))

  pub count_wrong : (n : ℕ) → takes_of s b ≡ false → s.number ≡ Some n → (b ≡ 10 → ⊥) → wrong_of s ≡ count_byte g s b
  unfolding count_byte
  count_wrong n e f h = sym (simp (count_byte, e, f, ne_eqb b 10 h))

  pub count_ends : (n : ℕ) → takes_of s b ≡ false → s.number ≡ Some n → b ≡ 10 → start_of s g n ≡ count_byte g s b
  unfolding count_byte
  count_ends n e f h = sym (simp (count_byte, e, f, eq-eqb b 10 h))

-- ---- bytes that are kept

pub kept_in_law : (k n : ℕ) → k < n → k + 1 ≡ kept_of k n
unfolding kept_of
kept_in_law k n h = sym (simp (kept_of, lt-ltb k n h))

pub kept_out : (k n : ℕ) → n ≤ k → k ≡ kept_of k n
unfolding kept_of
kept_out k n h = sym (simp (kept_of, le-ltb k n h))

-- ---- ports

module _ (p : List ℕ) where
  pub input_first : (n i : ℕ) → n ≡ ports_of p → input_from p (n - i) i ≡ next_input p i
  unfolding next_input
  input_first n i e = ap (λ (k : ℕ). input_from p (k - i) i) e

  here : (k i : ℕ) → port_at p i < 256 → input_from p (suc k) i ≡ Some i
  unfolding input_from
  here k i h = simp (input_from, lt-ltb (port_at p i) 256 h)

  past : (k i : ℕ) → 256 ≤ port_at p i → input_from p (suc k) i ≡ input_from p k (i + 1)
  unfolding input_from
  past k i h = simp (input_from, le-ltb (port_at p i) 256 h)

  pub input_here : (n i q : ℕ) → i < n → q ≡ port_at p i → q < 256 → input_from p (n - i) i ≡ Some i
  input_here n i q h e f = subst (λ (k : ℕ). input_from p k i ≡ Some i) (omega arith) (here (n - i - 1) i (subst (λ (x : ℕ). x < 256) e f))

  pub input_past : (n i q : ℕ) → i < n → q ≡ port_at p i → 256 ≤ q → input_from p (n - i) i ≡ input_from p (n - (i + 1)) (i + 1)
  input_past n i q h e f =
      let a : n - i ≡ suc (n - (i + 1)) = omega arith in
      ap (λ (k : ℕ). input_from p k i) a ∙ past (n - (i + 1)) i (subst (λ (x : ℕ). 256 ≤ x) e f)

  pub input_none : (n i : ℕ) → n ≤ i → input_from p (n - i) i ≡ None
  unfolding input_from
  input_none n i h = let e : n - i ≡ 0 = omega arith in ap (λ (k : ℕ). input_from p k i) e

-- ---- what a number of a line is kept as

module _ (s : State) (n : ℕ) where
  pub mask_new : s.port ≡ 0 → n % 4_294_967_296 ≡ mask_after s n
  unfolding mask_after
  mask_new e = sym (simp (mask_after, eq-eqb s.port 0 e))

  pub mask_old : (s.port ≡ 0 → ⊥) → s.mask ≡ mask_after s n
  unfolding mask_after
  mask_old h = sym (simp (mask_after, ne_eqb s.port 0 h))

  pub values_old : (v : List ℕ) → s.port ≡ 0 → v ≡ values_after s n v
  unfolding values_after
  values_old v e = sym (simp (values_after, eq-eqb s.port 0 e))

  pub values_new : (v : List ℕ) (i : ℕ) → (s.port ≡ 0 → ⊥) → i ≡ s.port - 1 → set v i n ≡ values_after s n v
  unfolding values_after
  values_new v i h e = ap (λ (k : ℕ). set v k n) e ∙ sym (simp (values_after, ne_eqb s.port 0 h))

  pub values_out : (v : List ℕ) (i : ℕ) → (s.port ≡ 0 → ⊥) → i ≡ s.port - 1 → length v ≤ i → v ≡ values_after s n v
  values_out v i h e out = sym (set_out v i n out) ∙ values_new v i h e
