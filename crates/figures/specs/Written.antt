-- What a function leaves in the table of bytes that wait to be written. Assumes nothing: these are definitions.
use Rattle.std.specs.Prelude.{◌≡◌, List, [], ◌∷◌, ◌++◌, ℕ, ◌+◌, ◌≤◌, length}
use Rattle.std.proofs.lemmas.List.Edits.{sets}
use Rattle.language.specs.Worked.{decimal}

-- the bytes w, at most so many, stand from `at` on, and `next` is the place after them
pub record Wrote (old : List ℕ) (at : ℕ) (w : List ℕ) (most next : ℕ) (new : List ℕ) : Type 0 where
  pub place : next ≡ at + length w
  pub bytes : new ≡ sets old at w
  pub short : length w ≤ most

-- some numbers, each after a blank
unfoldable pub blanked : List ℕ → List ℕ
blanked [] = []
blanked (n ∷ l) = (32 ∷ decimal n) ++ blanked l

-- the most bytes of a number of 64 bits, which has 20 digits, with the blank or the line end beside it
abbrev pub number_bytes : ℕ
number_bytes = 21
