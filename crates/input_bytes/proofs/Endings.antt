-- The end of the input, as the code has it and as the definitions do. Assumes nothing.
use mathlib.Core.Path.{◌≡◌, refl, sym, ap, ◌∙◌}
use mathlib.Core.Bool.{Bool, true, false}
use mathlib.Core.Logic.{◌⊎◌, inl, inr}
use mathlib.Core.List.{List, [], ◌∷◌}
use Prim.Native.Nat.{ℕ, min}
use native.Mathlib.Omega.{arith}
use borrow.Author.Tests.{leb-true, leb-false}
use lib.Dec.{leb}
use lib.ListN.{length, take}
use lib.Seq.{take_all}
use Rattle.language.specs.Worked.{line, is_bad}
use Rattle.figures.specs.declared.Stage.{Stage}
use Rattle.figures.specs.declared.Stage.TheVariants.{ActorCount, Actor, BindingsCount, Bindings, CycleCount, Line, Through, Wrong, Stopped}
use Rattle.figures.specs.declared.State.{State}
use Rattle.input_bytes.specs.Lines.{cells_of}
use Rattle.input_bytes.specs.Bytes.{Machine, machine, ended_at, ended_of}

-- the part of a table that a number says, or all of it
pub take_least : (k n : ℕ) (l : List ℕ) → n ≡ min k (length l) → take n l ≡ take k l
take_least k n l e = go (leb k (length l)) refl
  where
    go : (x : Bool) → leb k (length l) ≡ x → take n l ≡ take k l
    go true q = let h = leb-true k (length l) q in let a : n ≡ k = omega arith in ap (λ (i : ℕ). take i l) a
    go false q = let h = leb-false k (length l) q in take_all n l (omega arith) ∙ sym (take_all k l (omega arith))

-- ---- the end

pub ended_through : (m : Machine) (c : ℕ) → m.state.stage ≡ Through → c ≡ cells_of (take m.state.plan m.plan) → line (take c m.memory) ≡ ended_of m
unfolding ended_of
ended_through m c e f = ap (λ (k : ℕ). line (take k m.memory)) f ∙ ap (λ (y : Stage). ended_at y m) (sym e)

pub ended_refused : (m : Machine) (n p : ℕ) → m.state.stage ≡ Stopped n p → line (n ∷ p ∷ []) ≡ ended_of m
unfolding ended_of
ended_refused m n p e = ap (λ (y : Stage). ended_at y m) (sym e)

pub ended_bad : (m : Machine) (g : Stage) → m.state.stage ≡ g → ended_at g m ≡ is_bad → is_bad ≡ ended_of m
unfolding ended_of
ended_bad m g e f = sym f ∙ ap (λ (y : Stage). ended_at y m) (sym e)

pub any_bad : (m : Machine) → (m.state.stage ≡ ActorCount) ⊎ ((m.state.stage ≡ Actor) ⊎ ((m.state.stage ≡ BindingsCount) ⊎ ((m.state.stage ≡ Bindings) ⊎ ((m.state.stage ≡ CycleCount) ⊎ ((m.state.stage ≡ Line) ⊎ (m.state.stage ≡ Wrong)))))) → is_bad ≡ ended_of m
any_bad m (inl e) = ended_bad m ActorCount e refl
any_bad m (inr (inl e)) = ended_bad m Actor e refl
any_bad m (inr (inr (inl e))) = ended_bad m BindingsCount e refl
any_bad m (inr (inr (inr (inl e)))) = ended_bad m Bindings e refl
any_bad m (inr (inr (inr (inr (inl e))))) = ended_bad m CycleCount e refl
any_bad m (inr (inr (inr (inr (inr (inl e)))))) = ended_bad m Line e refl
any_bad m (inr (inr (inr (inr (inr (inr e)))))) = ended_bad m Wrong e refl

-- the end asks of the tables only the plan and the cells
pub ended_alone : (s : State) (a b p v o m : List ℕ) → ended_of (machine s [] [] p [] [] m []) ≡ ended_of (machine s a b p v o m [])
unfolding ended_of
ended_alone s a b p v o m = go s.stage
  where
    go : (g : Stage) → ended_at g (machine s [] [] p [] [] m []) ≡ ended_at g (machine s a b p v o m [])
    go ActorCount = refl
    go Actor = refl
    go BindingsCount = refl
    go Bindings = refl
    go CycleCount = refl
    go Line = refl
    go Through = refl
    go Wrong = refl
    go (Stopped n r) = refl
