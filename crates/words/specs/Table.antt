-- The words of a text as the program holds them: the four numbers of each (`signs`, specs/Kinds.antt), and the words back from them. Assumes nothing: these are definitions.
use Rattle.std.specs.Prelude.{List, [], ◌∷◌, ◌++◌, ℕ, zero, suc, ◌+◌, ◌-◌, ◌*◌, get_or, take, drop}
use Rattle.signs.specs.Kinds.{numbers_of, spelled_words}
use Rattle.language.specs.Words.{Word, num, name, digits, fixed, value_in_base, base_of}

unfoldable pub table_of : List Word → List ℕ
table_of [] = []
table_of (w ∷ ws) = numbers_of w ++ table_of ws

-- and back: a name and a sized constant's value are read off the text
unfoldable pub word_of : List ℕ → ℕ → ℕ → ℕ → ℕ → Word
word_of text zero p n v = fixed "" p
word_of text (suc zero) p n v = num (record { at = p; value = v; long = n })
word_of text (suc (suc zero)) p n v = name (record { at = p; spelled = take n (drop p text) })
word_of text (suc (suc (suc zero))) p n v = digits (record { at = p; value = value_in_base (base_of (get_or text (p + 1) 0)) 0 (take (n - 2) (drop (p + 2) text)); long = n })
word_of text (suc (suc (suc (suc k)))) p n v = fixed (get_or spelled_words k "") p

unfoldable pub word_at : List ℕ → List ℕ → ℕ → Word
word_at text t i = word_of text (get_or t (4 * i) 0) (get_or t (4 * i + 1) 0) (get_or t (4 * i + 2) 0) (get_or t (4 * i + 3) 0)
