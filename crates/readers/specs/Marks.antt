-- The words as the readers hold them: the table of `words` with the number of words behind it, and each name marked with what the readers ask of it. Assumes nothing: these are definitions.
use Rattle.std.specs.Prelude.{◌≡◌, refl, Bool, true, false, ◌&&◌, ◌||◌, List, ◌∷◌, ℕ, zero, suc, ◌+◌, ◌*◌, ◌-◌, ◌<◌, eqb, leb, ltb, length, get_or, take, drop}
use Rattle.std.proofs.Math.Option.{Option, none, some}
use Prim.Native.String.{String}
use Rattle.language.specs.Limits.{limits}
use Rattle.language.specs.Text.{Name, same, among}
use Rattle.language.specs.Words.{Word, Numeral, bytes}
use Rattle.language.specs.Grammar.{Operator, operators, operator_in, prefixes, prefix_in}
use Rattle.language.specs.declared.Unary.{Unary}
use Rattle.tape.specs.Tape.{unary_number, binary_number}
use Rattle.signs.specs.Kinds.{spelled_words}
use Rattle.words.specs.Table.{word_at}

-- the number of words stands behind them: four numbers a word, and at most a word for each byte
abbrev pub count_at : ℕ
count_at = 32_768

pub sizes : count_at ≡ 4 * limits.actor
sizes = refl

unfoldable pub count : List ℕ → ℕ
count w = get_or w count_at 0

-- the kind of a word, 0 past the end; its place, length and value
unfoldable pub kind_at : List ℕ → ℕ → ℕ
kind_at w i = elim (ltb i (count w)) [ true ↦ get_or w (4 * i) 0 | false ↦ 0 ]

abbrev pub place_at : List ℕ → ℕ → ℕ
place_at w i = get_or w (4 * i + 1) 0

abbrev pub long_at : List ℕ → ℕ → ℕ
long_at w i = get_or w (4 * i + 2) 0

abbrev pub value_at : List ℕ → ℕ → ℕ
value_at w i = get_or w (4 * i + 3) 0

abbrev pub numeral_at : List ℕ → ℕ → Numeral
numeral_at w i = record { at = place_at w i; value = value_at w i; long = long_at w i }

abbrev pub spelled_at : List ℕ → List ℕ → ℕ → List ℕ
spelled_at text w i = take (long_at w i) (drop (place_at w i) text)

abbrev pub name_at : List ℕ → List ℕ → ℕ → Name
name_at text w i = record { at = place_at w i; spelled = spelled_at text w i }

-- a name's value: 1 where it is spelled `p`, 2 where `type`, and 4 more where it is among the memories
unfoldable pub is_p : ℕ → Bool
is_p v = eqb v 1 || eqb v 5

unfoldable pub is_type : ℕ → Bool
is_type v = eqb v 2 || eqb v 6

unfoldable pub is_memory : ℕ → Bool
is_memory v = leb 4 v

-- the table w, whose names are marked, holds the words ws of a text, where ms are the memories
pub record Marked (text : List ℕ) (ms : List (List ℕ)) (w : List ℕ) (ws : List Word) : Type 0 where
  pub many : length ws ≡ count w
  pub word : (i : ℕ) → i < count w → drop i ws ≡ word_at text w i ∷ drop (i + 1) ws
  pub the_p_law : (i : ℕ) → i < count w → get_or w (4 * i) 0 ≡ 2 → same (bytes "p") (spelled_at text w i) ≡ is_p (value_at w i)
  pub the_type_law : (i : ℕ) → i < count w → get_or w (4 * i) 0 ≡ 2 → same (bytes "type") (spelled_at text w i) ≡ is_type (value_at w i)
  pub memory : (i : ℕ) → i < count w → get_or w (4 * i) 0 ≡ 2 → among ms (spelled_at text w i) ≡ is_memory (value_at w i)

-- the fixed word of a kind, and the operators by their kinds
unfoldable pub fixed_of : ℕ → String
fixed_of (suc (suc (suc (suc k)))) = get_or spelled_words k ""
fixed_of (suc (suc (suc zero))) = ""
fixed_of (suc (suc zero)) = ""
fixed_of (suc zero) = ""
fixed_of zero = ""

unfoldable pub level_in : Option Operator → ℕ
level_in none = 9
level_in (some o) = o.level

unfoldable pub level_of : ℕ → ℕ
level_of k = level_in (operator_in operators (fixed_of k))

-- whether an operator stands before its operand
unfoldable pub is_some : {A : Type 0} → Option A → Bool
is_some none = false
is_some (some a) = true

unfoldable pub is_mark : ℕ → Bool
is_mark k = is_some (prefix_in prefixes (fixed_of k))

-- the number of the operator of a kind, before its operand and between two; 0 where the kind is none's
unfoldable pub unary_in : Option Unary → ℕ
unary_in none = 0
unary_in (some u) = unary_number u

unfoldable pub unary_of : ℕ → ℕ
unary_of k = unary_in (prefix_in prefixes (fixed_of k))

unfoldable pub binary_in : Option Operator → ℕ
binary_in none = 0
binary_in (some o) = binary_number o.which

unfoldable pub binary_of : ℕ → ℕ
binary_of k = binary_in (operator_in operators (fixed_of k))

-- a name with a mark, among the memories or not
unfoldable pub marked : ℕ → List ℕ → ℕ → Bool
marked m w i = eqb (kind_at w i) 2 && (eqb (value_at w i) m || eqb (value_at w i) (m + 4))

-- the name `type` at an index, and `p`
unfoldable pub the_type : List ℕ → ℕ → Bool
the_type w i = eqb (kind_at w i) 2 && is_type (value_at w i)

unfoldable pub the_p : List ℕ → ℕ → Bool
the_p w i = eqb (kind_at w i) 2 && is_p (value_at w i)

-- what a table has for a kind
abbrev pub figure_of : List ℕ → ℕ → ℕ → ℕ → ℕ
figure_of table base past k = elim (ltb k 65) [ true ↦ get_or table k 0 - base | false ↦ past ]
