-- Lists with commas between, read by a loop (`commas_p`). Assumes nothing.
use mathlib.Core.Path.{◌≡◌, refl, ap}
use mathlib.Core.List.{List, [], ◌∷◌, ◌++◌}
use Prim.Native.Nat.{ℕ, ◌+◌, ◌*◌, ◌-◌, ◌<◌}
use native.Mathlib.Omega.{arith}
use lib.ListN.{drop}
use Rattle.language.specs.Words.{Word}
use Rattle.language.specs.Reader.{Res, commas_p}
use Rattle.tape.specs.Tape.{flats}
use Rattle.readers.specs.Marks.{count, kind_at, Marked}
use Rattle.readers.specs.Meets.{Out, Went, Agrees, read, Met}
use Rattle.readers.proofs.Laws.{suc_of, on_as, bind_ok, bind_err}
use Rattle.readers.proofs.Spells.{on_is, off_is, kind_inside}
use Rattle.readers.proofs.Fixed.{s_comma}
use Rattle.readers.proofs.Lists.{on_first}
use Rattle.std.specs.Prelude.{Ok, Err}
use Rattle.readers.specs.declared.Misfit.{Misfit}

append_none : (l : List ℕ) → l ≡ l ++ []
append_none [] = refl
append_none (a ∷ l) = ap (λ (l : List ℕ). a ∷ l) (append_none l)

module _ {T : Type 0} (fl : T → List ℕ) (item : ℕ → List Word → Res T) (w : List ℕ) where
  -- r and t' answer the list that starts at the word x, with the tape t up to m
  abbrev Listed : List Word → Out → List ℕ → ℕ → ℕ → List ℕ → Type 0
  Listed ws r t' x m t = (f : ℕ) → 8 * count w + 1 < f + 8 * x → Agrees (flats fl) ws m t (commas_p item f (drop x ws)) r t'

  -- from the word x₀ on the loop has read to x, past a comma: whatever answers the rest answers the whole
  pub record Commas (x₀ m₀ : ℕ) (t₀ : List ℕ) (x m : ℕ) (t : List ℕ) : Type 0 where
    pub went : Went (count w) x₀ m₀ x m
    pub goes : {text : List ℕ} {ms : List (List ℕ)} {ws : List Word} → Marked text ms w ws → (r : Out) (t' : List ℕ) → Listed ws r t' x m t → Listed ws r t' x₀ m₀ t₀

module _ {T : Type 0} {fl : T → List ℕ} {item : ℕ → List Word → Res T} {w : List ℕ} {x₀ m₀ : ℕ} {t₀ : List ℕ} {x m : ℕ} {t : List ℕ}
    (C : Commas fl item w x₀ m₀ t₀ x m t) where
  abbrev IsItem : Out → List ℕ → Type 0
  IsItem o t₁ = Met fl 0 (λ text ms ws f. item f (drop x ws)) w x m t o t₁

  pub commas_turn : {y n : ℕ} {t₁ : List ℕ} → IsItem (Ok (y, n)) t₁ → kind_at w y ≡ 42 → Commas fl item w x₀ m₀ t₀ (y + 1) n t₁
  unfolding commas_p
  commas_turn {y} {n} I k = record {
    went = omega (arith, C.went, I.moved.to, kind_inside w y 42 (omega arith) k);
    goes = λ M r t' a. C.goes M r t' (λ f h. rw (suc_of f (omega (arith, C.went)))
        (bind_ok _ _ (I.agrees M (f - 1) (omega arith)) (λ e on. rw (on_is M "," 42 y s_comma _ _ k) (on_first fl e on (a (f - 1) (omega (arith, I.moved.to)))))));
  }

  pub commas_end : {y n : ℕ} {t₁ : List ℕ} → IsItem (Ok (y, n)) t₁ → (kind_at w y ≡ 42 → ⊥) → Met (flats fl) 1 (λ text ms ws f. commas_p item f (drop x₀ ws)) w x₀ m₀ t₀ (Ok (y, n)) t₁
  unfolding commas_p flats
  commas_end {y} {n} I k = record {
    moved = omega (arith, C.went, I.moved.to);
    agrees = λ M f h. C.goes M _ _ (λ f h. rw (suc_of f (omega (arith, C.went)))
        (bind_ok _ _ (I.agrees M (f - 1) (omega arith)) (λ e on. rw (off_is M "," 42 y s_comma _ _ k) (read (on_as (append_none (fl e)) on))))) f h;
  }

  pub commas_bad : {e : Misfit} {t₁ t' : List ℕ} → IsItem (Err e) t₁ → Met (flats fl) 1 (λ text ms ws f. commas_p item f (drop x₀ ws)) w x₀ m₀ t₀ (Err e) t'
  unfolding commas_p
  commas_bad I = record {
    moved = record { to = I.moved.to };
    agrees = λ M f h. C.goes M _ _ (λ f h. rw (suc_of f (omega (arith, C.went))) (bind_err _ _ (I.agrees M (f - 1) (omega arith)))) f h;
  }
