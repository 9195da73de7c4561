-- How names are marked: the words before it, what a pass over them changes, and the memories as they stand on the tape. Assumes nothing: these are definitions.
use Rattle.std.specs.Prelude.{◌≡◌, true, false, List, [], ◌∷◌, ℕ, ◌+◌, ◌*◌, ◌≤◌, ◌<◌, eqb, length, get_or, take, drop}
use Rattle.language.specs.Text.{same, among}
use Rattle.language.specs.Words.{Word, bytes, span, name_byte, words_of, words}
use Rattle.words.specs.Table.{word_at}
use Rattle.tape.specs.Tape.{longest, most_items, MEMORY, one_if}
use Rattle.readers.specs.Marks.{count_at, count, place_at, long_at, value_at, spelled_at}

-- the table w holds the words ws of a text, whatever the marks of its names
pub record WordsHeld (text w : List ℕ) (ws : List Word) : Type 0 where
  pub lexed : words_of text ≡ words ws
  pub many : length ws ≡ count w
  pub word : (i : ℕ) → i < count w → drop i ws ≡ word_at text w i ∷ drop (i + 1) ws

-- room for words and the number behind them; so many numbers on a tape
pub record Tabled (w : List ℕ) : Type 0 where
  pub few : count w ≤ most_items
  pub long : length w ≡ count_at + 1

pub record Taped (t : List ℕ) (n : ℕ) : Type 0 where
  pub few : n ≤ longest
  pub long : length t ≡ longest

-- the mark of a name by its spelling: 1 for `p`, 2 for `type`, and 4 more where it is among the memories
unfoldable pub spelled_mark : List ℕ → ℕ
spelled_mark s = elim (same (bytes "p") s) [ true ↦ 1 | false ↦ elim (same (bytes "type") s) [ true ↦ 2 | false ↦ 0 ] ]

unfoldable pub name_mark : List (List ℕ) → List ℕ → ℕ
name_mark ms s = spelled_mark s + 4 * one_if (among ms s)

pub record IsSpelled (s : List ℕ) (r : ℕ) : Type 0 where
  pub is : r ≡ spelled_mark s
  pub small : r ≤ 2

-- the table w' is w, but each of the first n words that is a name has its mark, where ms are the memories
pub record Remarked (text : List ℕ) (ms : List (List ℕ)) (n : ℕ) (w w' : List ℕ) : Type 0 where
  pub size : length w' ≡ length w
  pub kind : (j : ℕ) → get_or w' (4 * j) 0 ≡ get_or w (4 * j) 0
  pub place : (j : ℕ) → place_at w' j ≡ place_at w j
  pub long : (j : ℕ) → long_at w' j ≡ long_at w j
  pub named : (j : ℕ) → j < n → get_or w (4 * j) 0 ≡ 2 → value_at w' j ≡ name_mark ms (spelled_at text w j)
  pub other : (j : ℕ) → (get_or w (4 * j) 0 ≡ 2 → ⊥) → value_at w' j ≡ value_at w j
  pub later : (j : ℕ) → n ≤ j → value_at w' j ≡ value_at w j

-- the places of the memories among the items of a tape
unfoldable pub places_on : List ℕ → List ℕ
places_on (op ∷ p ∷ v ∷ l) = elim (eqb op MEMORY) [ true ↦ p ∷ places_on l | false ↦ places_on l ]
places_on (op ∷ p ∷ []) = []
places_on (op ∷ []) = []
places_on [] = []

-- the names that stand at places
unfoldable pub runs_at : List ℕ → List ℕ → List (List ℕ)
runs_at text [] = []
runs_at text (p ∷ l) = span name_byte (drop p text) ∷ runs_at text l

-- the memories of a text by the first n numbers of a tape
abbrev pub memories_on : List ℕ → List ℕ → ℕ → List (List ℕ)
memories_on text t n = runs_at text (places_on (take n t))
