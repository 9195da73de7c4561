-- 01, "Bindings text", and row 2: "bindings not in form or range", at the "first byte at which no right text continues". Assumes nothing: these are definitions.
use Rattle.std.specs.Prelude.{Bool, true, false, not, ◌&&◌, ◌||◌, List, [], ◌∷◌, ◌++◌, ℕ, zero, suc, ◌+◌, ◌-◌, ◌*◌, eqb, leb, ltb, length}
use Rattle.language.specs.Text.{Name, among}
use Rattle.language.specs.Limits.{limits}
use Rattle.language.specs.Words.{digit, name_byte, good_name}

-- a line: a name at its place, and its width or value
pub record Binding : Type 0 where
  pub called : Name
  pub value : ℕ

pub record Bindings : Type 0 where
  pub widths : List Binding
  pub values : List Binding

-- what was read and the bytes after it; or the bytes from the first on at which no right text continues
pub data Got (T : Type 0) : Type 0 where
  got : T → List ℕ → Got T
  lost : List ℕ → Got T

unfoldable pub after : {S T : Type 0} → Got S → (S → List ℕ → Got T) → Got T
after (got s r) g = g s r
after (lost r) g = lost r

-- this byte, and then what g reads
unfoldable pub byte : {T : Type 0} → ℕ → List ℕ → (List ℕ → Got T) → Got T
byte b [] g = lost []
byte b (c ∷ r) g = elim (eqb b c) [ true ↦ g r | false ↦ lost (c ∷ r) ]

-- ---- "no leading zeros": a digit goes on where the number is not 0 and stays in range

unfoldable pub digits_from : ℕ → ℕ → List ℕ → Got ℕ
digits_from most n [] = got n []
digits_from most n (b ∷ r) = elim (digit b && ltb 0 n && leb (n * 10 + (b - 48)) most) [ true ↦ digits_from most (n * 10 + (b - 48)) r | false ↦ got n (b ∷ r) ]

unfoldable pub number_up_to : ℕ → List ℕ → Got ℕ
number_up_to most [] = lost []
number_up_to most (b ∷ r) = elim (digit b) [ true ↦ digits_from most (b - 48) r | false ↦ lost (b ∷ r) ]

-- ---- names, "no name twice in a section": those seen so far

unfoldable pub may_end : List (List ℕ) → List ℕ → Bool
may_end seen s = good_name s && not (among seen s)

-- a shorter name can always go on to a right one; one of the greatest length must be right as it stands
unfoldable pub may_go_on : List (List ℕ) → List ℕ → Bool
may_go_on seen s = ltb (length s) limits.name || (eqb (length s) limits.name && may_end seen s)

unfoldable pub name_from : List (List ℕ) → List ℕ → List ℕ → Got (List ℕ)
name_from seen s [] = lost []
name_from seen s (b ∷ r) =
    elim (name_byte b && may_go_on seen (s ++ (b ∷ []))) [
      | true ↦ name_from seen (s ++ (b ∷ [])) r
      | false ↦ elim (may_end seen s) [ true ↦ got s (b ∷ r) | false ↦ lost (b ∷ r) ]
    ]

unfoldable pub fresh_name : List (List ℕ) → List ℕ → Got (List ℕ)
fresh_name seen [] = lost []
fresh_name seen (b ∷ r) = elim (digit b) [ true ↦ lost (b ∷ r) | false ↦ name_from seen [] (b ∷ r) ]

-- ---- "that many lines", "One blank between, a newline after each line"; `long` is the length of the whole text, which gives the places

unfoldable pub lines : ℕ → ℕ → ℕ → List (List ℕ) → List ℕ → Got (List Binding)
lines long most zero seen bs = got [] bs
lines long most (suc k) seen bs =
    after (fresh_name seen bs) (λ s r. byte 32 r (λ x. after (number_up_to most x) (λ v y. byte 10 y
    (λ z. after (lines long most k (s ∷ seen) z) (λ l w. got (record { called = record { at = long - length bs; spelled = s }; value = v } ∷ l) w)))))

-- "a count (0 to 16), that many lines"
unfoldable pub section : ℕ → ℕ → List ℕ → Got (List Binding)
section long most bs = after (number_up_to limits.lines bs) (λ k r. byte 10 r (λ x. lines long most k [] x))

-- "`port width` (0 to 32) .. `name value` (0 to 65,535) .. nothing after"
unfoldable pub sections : List ℕ → Got Bindings
sections bs =
    after (section (length bs) limits.width bs) (λ ws r. after (section (length bs) limits.typeNumber r)
    (λ vs x. elim x [ [] ↦ got (record { widths = ws; values = vs }) [] | b ∷ y ↦ lost (b ∷ y) ]))

pub data Bound : Type 0 where
  bound : Bindings → Bound
  wrong_at : ℕ → Bound

unfoldable pub bindings_of : List ℕ → Bound
bindings_of bs = elim (sections bs) [ got b r ↦ bound b | lost r ↦ wrong_at (length bs - length r) ]
