-- A cycle's line as it is written. Assumes nothing.
use mathlib.Core.Path.{◌≡◌, refl, sym, ap, ap₂, ◌∙◌}
use mathlib.Core.Bool.{Bool, true, false}
use mathlib.Core.List.{List, [], ◌∷◌, ◌++◌}
use Prim.Native.Nat.{ℕ, suc, ◌+◌, ◌-◌, ◌*◌, ◌≤◌, ◌<◌}
use native.Mathlib.Omega.{arith}
use borrow.Author.Tests.{lt-ltb, le-ltb, eq-eqb, ne_eqb}
use lib.Dec.{ltb}
use lib.ListN.{length, get_or, set, length-append}
use lib.Seq.{sets}
use Rattle.language.specs.Worked.{decimal, line}
use Rattle.plan.specs.Layout.{port_at}
use Rattle.figures.specs.Written.{Wrote, blanked}
use Rattle.cycle_line.specs.Shown.{ports_of, output_of, outputs_from, shown_of}
use Rattle.figures.proofs.Bytes.{line_is, named, nothing, sets_append, Rest}

-- ---- outputs

pub output_none : (l : List ℕ) (at kind v : ℕ) → kind < 256 → Wrote l at (output_of kind v) 21 at l
unfolding output_of
output_none l at kind v h = named {m = 0} (sym (simp (output_of, lt-ltb kind 256 h))) (omega arith) (nothing l at)

pub output_some : (kind v : ℕ) → 256 ≤ kind → 32 ∷ decimal v ≡ output_of kind v
unfolding output_of
output_some kind v h = sym (simp (output_of, le-ltb kind 256 h))

module _ (p o : List ℕ) where
  step : (k i : ℕ) → blanked (outputs_from p o (suc k) i) ≡ output_of (port_at p i) (get_or o i 0) ++ blanked (outputs_from p o k (i + 1))
  unfolding outputs_from output_of blanked
  step k i = go (ltb (port_at p i) 256)
    where
      go : (x : Bool) → blanked (elim x [ true ↦ outputs_from p o k (i + 1) | false ↦ get_or o i 0 ∷ outputs_from p o k (i + 1) ]) ≡ elim x [ true ↦ [] | false ↦ 32 ∷ decimal (get_or o i 0) ] ++ blanked (outputs_from p o k (i + 1))
      go true = refl
      go false = refl

  -- a turn of the loop, for the port's number q and its value v
  pub outputs_next : (n i q v : ℕ) → i < n → q ≡ port_at p i → v ≡ get_or o i 0 → blanked (outputs_from p o (n - i) i) ≡ output_of q v ++ blanked (outputs_from p o (n - (i + 1)) (i + 1))
  outputs_next n i q v h e f =
      let a : n - i ≡ suc (n - (i + 1)) = omega arith in
      ap (λ (k : ℕ). blanked (outputs_from p o k i)) a ∙ step (n - (i + 1)) i ∙ ap₂ (λ (x y : ℕ). output_of x y ++ blanked (outputs_from p o (n - (i + 1)) (i + 1))) (sym e) (sym f)

  pub outputs_over : (n i : ℕ) → n ≤ i → blanked (outputs_from p o (n - i) i) ≡ []
  unfolding outputs_from blanked
  outputs_over n i h = let a : n - i ≡ 0 = omega arith in ap (λ (k : ℕ). blanked (outputs_from p o k i)) a

  pub outputs_first : (n : ℕ) → n ≡ ports_of p → blanked (outputs_from p o (n - 0) 0) ≡ blanked (outputs_from p o (ports_of p) 0)
  outputs_first n e = ap (λ (k : ℕ). blanked (outputs_from p o k 0)) (let a : n - 0 ≡ n = omega arith in a ∙ e)

  pub outputs_start : (old : List ℕ) (at n : ℕ) → n ≡ ports_of p → n ≤ 16 → at + 336 ≤ length old → Rest old at (blanked (outputs_from p o (ports_of p) 0)) 336 old at (blanked (outputs_from p o (n - 0) 0)) (21 * (n - 0))
  outputs_start old at n e h q = record { done = λ next new x. named (outputs_first n e) (omega arith) x; room = omega arith; long = refl }

  pub shown_refused : (a c x : ℕ) → x ≡ a → (a ≡ 0 → ⊥) → decimal x ++ (10 ∷ []) ≡ shown_of p a c o
  unfolding shown_of line
  shown_refused a c x e h = ap (λ (n : ℕ). decimal n ++ (10 ∷ [])) e ∙ sym (simp (shown_of, ne_eqb a 0 h))

  whole_line : (a c : ℕ) → a ≡ 0 → decimal a ++ (32 ∷ line (c ∷ outputs_from p o (ports_of p) 0)) ≡ shown_of p a c o
  unfolding shown_of line
  whole_line a c h = sym (simp (shown_of, eq-eqb a 0 h))

  pub shown_whole : (a c x y : ℕ) → x ≡ a → y ≡ c → a ≡ 0 → decimal x ++ ((32 ∷ decimal y) ++ (blanked (outputs_from p o (ports_of p) 0) ++ (10 ∷ []))) ≡ shown_of p a c o
  shown_whole a c x y e f h =
      ap₂ (λ (n m : ℕ). decimal n ++ ((32 ∷ decimal m) ++ (blanked (outputs_from p o (ports_of p) 0) ++ (10 ∷ [])))) e f
      ∙ ap (λ (r : List ℕ). decimal a ++ (32 ∷ r)) (sym (line_is c (outputs_from p o (ports_of p) 0)))
      ∙ whole_line a c h

  -- a refused cycle's line, by its length and as it is written: a tactic takes what a reader of numbers promises apart
  pub refused_long : (a c : ℕ) → (a ≡ 0 → ⊥) → length (shown_of p a c o) ≡ length (decimal a) + 1
  refused_long a c h = ap length (sym (shown_refused a c a refl h)) ∙ length-append (decimal a) (10 ∷ [])

  pub refused_sets : (l : List ℕ) (at a c : ℕ) → (a ≡ 0 → ⊥) → sets l at (shown_of p a c o) ≡ set (sets l at (decimal a)) (at + length (decimal a)) 10
  refused_sets l at a c h = ap (sets l at) (sym (shown_refused a c a refl h)) ∙ sets_append l at (at + length (decimal a)) (decimal a) (10 ∷ []) refl
