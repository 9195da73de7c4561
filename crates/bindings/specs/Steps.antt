-- What the readers of lines promise: that the definition's answer at their place is the one that their own answer tells. Assumes nothing: these are definitions.
use Rattle.std.specs.Prelude.{◌≡◌, List, [], ℕ, ◌+◌, ◌-◌, ◌*◌, ◌≤◌, length, drop, Ok, Err}
use Rattle.language.specs.Bindings.{Got, got, lost, after, fresh_name, section, Binding}
use Rattle.binding_numbers.specs.Steps.{Step, valued, value, Reads}
use Rattle.binding_names.specs.Names.{line_in, lines_in, names_of, Named}
use Rattle.bindings.specs.Table.{onto}
use Rattle.language.specs.Limits.{limits}

-- a whole line
unfoldable pub line_of : ℕ → ℕ → List (List ℕ) → List ℕ → Got Binding
line_of long most seen bs = after (fresh_name seen bs) (λ s r. after (valued most r) (λ v z. got (record { called = record { at = long - length bs; spelled = s }; value = v }) z))

-- ---- what an answer tells

-- the lines that an answer counts
abbrev pub count : Step → ℕ
count (Ok r) = 1
count (Err l) = 0

unfoldable pub line_told : List ℕ → List ℕ → ℕ → Step → Got Binding
line_told text t i (Ok r) = got (line_in text t i) (drop r.next text)
line_told text t i (Err l) = lost (drop l.at text)

unfoldable pub lines_told : List ℕ → List ℕ → Step → Got (List Binding)
lines_told text t (Ok r) = got (onto (lines_in text t r.number) []) (drop r.next text)
lines_told text t (Err l) = lost (drop l.at text)

-- the lines before stand as they did, and the names of the lines read lie in the text
pub record ReadsLine (text : List ℕ) (most i from : ℕ) (t : List ℕ) (r : Step) (t' : List ℕ) : Type 0 where
  pub reads : Reads text most (line_of (length text) most (names_of (lines_in text t i)) (drop from text)) (line_told text t' i) r
  pub kept : lines_in text t' i ≡ lines_in text t i
  pub named : Named text t' (i + count r)

pub record ReadsLines (text : List ℕ) (what : Got (List Binding)) (r : Step) (t' : List ℕ) : Type 0 where
  pub reads : Reads text limits.lines what (lines_told text t') r
  pub named : Named text t' (value r)

-- the section of widths is read: w lines, up to the place at
pub record WidthsRead (text ws : List ℕ) (w at : ℕ) : Type 0 where
  pub is : section (length text) limits.width text ≡ got (onto (lines_in text ws w) []) (drop at text)
  pub named : Named text ws w
  pub few : w ≤ limits.lines
  pub wide : 3 * limits.lines ≤ length ws
  pub inside : at ≤ length text
