-- What is proved of a reader of words, `read`, against what the grammar D derives. Assumes nothing: these are definitions.
-- proofs/Main.antt proves `grammar_correct : Correct Actors parse`.
use Rattle.std.specs.Prelude.{◌≡◌, List, [], ◌∷◌, ◌++◌, ℕ, ◌≤◌, length, take, drop}
use Rattle.language.specs.Words.{Word}
use Rattle.language.specs.Reader.{Verdict, tree, fault, tired}

-- i is the index of the first word that does not fit, or the number of words where the text ends too early:
-- some words finish the first i words to a text; with the next word no words do; and where there is no next word, the first i words are no text
pub record FirstFault {T : Type 0} (D : List Word → T → Type 0) (ws : List Word) (i : ℕ) : Type 0 where
  pub bounded : i ≤ length ws
  pub rest : List Word
  pub read : T
  pub finished : D (take i ws ++ rest) read
  pub none : (w : Word) (r c : List Word) (t : T) → drop i ws ≡ w ∷ r → ¬ D (take i ws ++ (w ∷ c)) t
  pub early : (t : T) → drop i ws ≡ [] → ¬ D (take i ws) t

-- What is read is derived; what is derived is read; a fault is the first; there is always one of the two; and no words say two things.
pub record Correct {T : Type 0} (D : List Word → T → Type 0) (read : List Word → Verdict T) : Type 0 where
  pub sound : (ws : List Word) (t : T) → read ws ≡ tree t → D ws t
  pub complete : (ws : List Word) (t : T) → D ws t → read ws ≡ tree t
  pub first_fault : (ws : List Word) (i : ℕ) → read ws ≡ fault i → FirstFault D ws i
  pub answers : (ws : List Word) → ¬ (read ws ≡ tired)
  pub unambiguous : (ws : List Word) (t u : T) → D ws t → D ws u → t ≡ u
