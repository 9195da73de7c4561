-- What holds of each of the things that a list's words derive, where it follows from a fact of its own words. Assumes nothing.
use mathlib.Core.List.{List, ◌∷◌, ◌++◌}
use Rattle.language.specs.Words.{Word}
use Rattle.language.specs.Grammar.{Many, m_none, m_more, Some, s_some, Commas, c_one, c_more}
use Rattle.placed.specs.Placed.{Every}

-- a fact of words that holds of the first part and of the rest
module _ (Good : List Word → Type 0) (first : (a b : List Word) → Good (a ++ b) → Good a) (later : (a b : List Word) → Good (a ++ b) → Good b) (rest : (w : Word) (a : List Word) → Good (w ∷ a) → Good a)
    {T : Type 0} (D : List Word → T → Type 0) (P : T → Type 0) (one : (a : List Word) (x : T) → D a x → Good a → P x) where
  pub many_each : {a : List Word} {l : List T} → Many D a l → Good a → Every P l
  many_each m_none n = tt
  many_each (m_more {a = a} {b = b} {x = x} d r) n = (one a x d (first a b n), many_each r (later a b n))

  pub some_each : {a : List Word} {l : List T} → Some D a l → Good a → Every P l
  some_each (s_some {a = a} {b = b} {x = x} d r) n = (one a x d (first a b n), many_each r (later a b n))

  pub commas_each : {a : List Word} {l : List T} → Commas D a l → Good a → Every P l
  commas_each (c_one {a = a} {x = x} d) n = (one a x d n, tt)
  commas_each (c_more {a = a} {x = x} p d r) n = (one a x d (first a _ n), commas_each r (rest _ _ (later a _ n)))
