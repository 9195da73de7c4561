-- What the reader of a word promises. Assumes nothing: these are definitions.
use Rattle.std.specs.Prelude.{◌≡◌, List, [], ◌∷◌, ℕ, ◌+◌, ◌≤◌, ◌<◌, length}
use Rattle.language.specs.Words.{Word, Next, over, apart, word, wrong}
use Rattle.signs.specs.Kinds.{numbers_of}
use Rattle.signs.specs.declared.Item.{Item}
use Rattle.signs.specs.declared.Item.TheVariants.{Over, Apart, Word as IsWord, Wrong}

-- the answer of a part and the definition's: of a word the four numbers, whatever its place
pub data Tells (text : List ℕ) (at : ℕ) : Next → Item → Type 0 where
  is_over : Tells text at over Over
  is_wrong : Tells text at wrong Wrong
  is_apart : {n : ℕ} → 0 < n → at + n ≤ length text → Tells text at (apart n) (Apart n)
  is_word : {n k v : ℕ} {w : ℕ → Word} → 0 < n → at + n ≤ length text → ((p : ℕ) → numbers_of (w p) ≡ k ∷ p ∷ n ∷ v ∷ []) → Tells text at (word n w) (IsWord k n v)
