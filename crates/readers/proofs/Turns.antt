-- The loops: what a turn hands on. Assumes nothing.
use mathlib.Core.List.{List}
use Prim.Native.Nat.{ℕ, ◌+◌, ◌*◌, ◌<◌}
use lib.ListN.{drop}
use Rattle.language.specs.Words.{Word}
use Rattle.language.specs.Reader.{Res}
use Rattle.readers.specs.Marks.{count, Marked}
use Rattle.readers.specs.Meets.{Out, On, Went, Agrees}

module _ {A : Type 0} (fl : A → List ℕ) (p : List (List ℕ) → ℕ → A → List Word → Res A) (w : List ℕ) where
  -- r and t' answer what follows any tree that is on the tape up to m, from the word x on
  abbrev pub Answers : List (List ℕ) → List Word → List ℕ → ℕ → Out → List ℕ → ℕ → ℕ → List ℕ → Type 0
  Answers ms ws s b r t' x m t = (a : A) → On s b (fl a) m t → (f : ℕ) → 8 * count w < f + 8 * x → Agrees fl ws b s (p ms f a (drop x ws)) r t'

  -- from the word x₀ on the loop has read to x: whatever answers the rest answers the whole
  pub record Turned (x₀ m₀ : ℕ) (t₀ : List ℕ) (x m : ℕ) (t : List ℕ) : Type 0 where
    pub went : Went (count w) x₀ m₀ x m
    pub goes : {text : List ℕ} {ms : List (List ℕ)} {ws : List Word} → Marked text ms w ws → (s : List ℕ) (b : ℕ) (r : Out) (t' : List ℕ) → Answers ms ws s b r t' x m t → Answers ms ws s b r t' x₀ m₀ t₀
