-- The lines of a table and their names, and what the reader of a name promises. Assumes nothing: these are definitions.
use Rattle.std.specs.Prelude.{Bool, ◌&&◌, List, [], ◌∷◌, ℕ, zero, suc, ◌+◌, ◌*◌, ◌≤◌, ◌<◌, length, get_or, take, drop, Ok, Err}
use Rattle.language.specs.Limits.{limits}
use Rattle.language.specs.Words.{name_byte}
use Rattle.language.specs.Bindings.{Binding, Got, got, lost, may_go_on, fresh_name}
use Rattle.binding_numbers.specs.Steps.{Step, Reads, value}

-- line i of a table, and its first i lines, the last one first
unfoldable pub line_in : List ℕ → List ℕ → ℕ → Binding
line_in text t i = record { called = record { at = get_or t (3 * i) 0; spelled = take (get_or t (3 * i + 1) 0) (drop (get_or t (3 * i) 0) text) }; value = get_or t (3 * i + 2) 0 }

unfoldable pub lines_in : List ℕ → List ℕ → ℕ → List Binding
lines_in text t zero = []
lines_in text t (suc i) = line_in text t i ∷ lines_in text t i

unfoldable pub names_of : List Binding → List (List ℕ)
names_of [] = []
names_of (b ∷ l) = b.called.spelled ∷ names_of l

-- the names of the first i lines of a table
abbrev pub names_before : List ℕ → List ℕ → ℕ → List (List ℕ)
names_before text t i = names_of (lines_in text t i)

-- a name of n bytes may have the next byte too
abbrev pub goes_on : List ℕ → List (List ℕ) → ℕ → ℕ → Bool
goes_on text seen from n = name_byte (get_or text (from + n) 0) && may_go_on seen (take (n + 1) (drop from text))

-- each name of the first i lines lies in the text
pub record Named (text t : List ℕ) (i : ℕ) : Type 0 where
  pub lies : (j : ℕ) → j < i → get_or t (3 * j) 0 + get_or t (3 * j + 1) 0 ≤ length text

unfoldable pub name_told : List ℕ → ℕ → Step → Got (List ℕ)
name_told text from (Ok r) = got (take r.number (drop from text)) (drop r.next text)
name_told text from (Err l) = lost (drop l.at text)

pub record ReadsName (text : List ℕ) (seen : List (List ℕ)) (from : ℕ) (r : Step) : Type 0 where
  pub reads : Reads text limits.name (fresh_name seen (drop from text)) (name_told text from) r
  pub fits : from + value r ≤ length text

-- ---- what a reader of a name is lent: a text, a table of the lines before, and a place

pub record Lent (text t : List ℕ) (i from : ℕ) : Type 0 where
  pub few : i ≤ limits.lines
  pub inside : from ≤ length text
  pub short : length text ≤ limits.bindings
  pub wide : 3 * limits.lines ≤ length t
  pub named : Named text t i
