-- 01, "Words and grammar", its first four points: the words of an actor's bytes, or the place of row 3's first fault. Assumes nothing: these are definitions.
use Rattle.std.specs.Prelude.{Bool, true, false, not, ◌&&◌, ◌||◌, List, [], ◌∷◌, ◌++◌, ℕ, zero, suc, ◌+◌, ◌-◌, ◌*◌, eqb, leb, ltb, length, drop}
use Rattle.std.proofs.Math.Option.{Option, none, some}
use Prim.Native.Char.{Char, code}
use Prim.Native.String.{String}
use Rattle.language.specs.Text.{Name, same, among}
use Rattle.language.specs.Limits.{limits}

-- a number as it stands at a place: its value, and how many bytes long it is
pub record Numeral : Type 0 where
  pub at : ℕ
  pub value : ℕ
  pub long : ℕ

-- A word: a plain number; a name; the `'` word of a sized constant, with its value; or any other, by its spelling and its place.
pub data Word : Type 0 where
  num : Numeral → Word
  name : Name → Word
  digits : Numeral → Word
  fixed : String → ℕ → Word

unfoldable pub place_of : Word → ℕ
place_of (num n) = n.at
place_of (name n) = n.at
place_of (digits n) = n.at
place_of (fixed s p) = p

-- ---- bytes

unfoldable pub bytes : String → List ℕ
bytes String.[] = []
bytes (String.◌∷◌ c s) = code c ∷ bytes s

unfoldable pub spellings : List String → List (List ℕ)
spellings [] = []
spellings (s ∷ l) = bytes s ∷ spellings l

unfoldable pub begins : List ℕ → List ℕ → Bool
begins [] bs = true
begins (a ∷ s) [] = false
begins (a ∷ s) (b ∷ bs) = eqb a b && begins s bs

-- the longest beginning all of whose bytes pass a test
unfoldable pub span : (ℕ → Bool) → List ℕ → List ℕ
span t [] = []
span t (b ∷ r) = elim (t b) [ true ↦ b ∷ span t r | false ↦ [] ]

unfoldable pub some_of : (ℕ → Bool) → List ℕ → Bool
some_of t [] = false
some_of t (b ∷ r) = t b || some_of t r

unfoldable pub digit : ℕ → Bool
digit b = leb 48 b && leb b 57

unfoldable pub letter : ℕ → Bool
letter b = (leb 65 b && leb b 90) || (leb 97 b && leb b 122)

unfoldable pub plain_byte : ℕ → Bool
plain_byte b = letter b || digit b

unfoldable pub name_byte : ℕ → Bool
name_byte b = plain_byte b || eqb b 95

-- ---- "Blanks, tabs, bytes 13, line ends (byte 10) and both comment kinds separate words."

unfoldable pub blank : ℕ → Bool
blank b = eqb b 32 || eqb b 9 || eqb b 13 || eqb b 10

-- how many bytes there are up to the end of the first `*/`; 0 where there is none
unfoldable pub close : List ℕ → ℕ
close [] = 0
close (b ∷ r) = elim (begins (bytes "*/") (b ∷ r)) [ true ↦ 2 | false ↦ elim (close r) [ zero ↦ 0 | suc n ↦ suc (suc n) ] ]

-- how many bytes long the separator is that stands first; 0 where none does
unfoldable pub gap : List ℕ → ℕ
gap [] = 0
gap (b ∷ r) =
    elim (blank b) [
      | true ↦ 1
      | false ↦ elim (begins (bytes "//") (b ∷ r)) [
        | true ↦ length (span (λ c. not (eqb c 10)) (b ∷ r))
        | false ↦ elim (begins (bytes "/*") (b ∷ r)) [ true ↦ elim (close (drop 1 r)) [ zero ↦ 0 | suc n ↦ 2 + suc n ] | false ↦ 0 ]
      ]
    ]

unfoldable pub after_gaps : ℕ → List ℕ → List ℕ
after_gaps zero bs = bs
after_gaps (suc f) bs = elim (gap bs) [ zero ↦ bs | suc n ↦ after_gaps f (drop (suc n) bs) ]

-- ---- "The longest word wins": what stands first in a text

-- nothing more; a separator of so many bytes; a word of so many bytes, at whatever place; or no word at all
pub data Next : Type 0 where
  over : Next
  apart : ℕ → Next
  word : ℕ → (ℕ → Word) → Next
  wrong : Next

-- "Keywords (..) are no names."
unfoldable pub keywords : List String
keywords =
    "input" ∷ "output" ∷ "reg" ∷ "ff" ∷ "and" ∷ "or" ∷ "let" ∷ "val" ∷ "in" ∷ "end" ∷ "case" ∷ "if" ∷ "then" ∷ "else" ∷ "max" ∷ "log" ∷ "ceil" ∷ "floor" ∷ []

-- row 4's words: `foreach`, `instruction`, `@`, `$`, `#`
unfoldable pub left_out_law : List String
left_out_law = "foreach" ∷ "instruction" ∷ "@" ∷ "$" ∷ "#" ∷ []

-- operators and punctuation, the longer ones first
unfoldable pub signs : List String
signs =
    "=>" ∷ "==" ∷ "!=" ∷ "<<" ∷ "<=" ∷ ">>" ∷ ">=" ∷ "&&" ∷ "||" ∷ "~&" ∷ "~|" ∷ "~^" ∷ "^~" ∷
    "(" ∷ ")" ∷ "{" ∷ "}" ∷ "[" ∷ "]" ∷ "," ∷ ";" ∷ ":" ∷ "?" ∷ "." ∷ "=" ∷ "<" ∷ ">" ∷ "!" ∷ "~" ∷ "&" ∷ "|" ∷ "^" ∷ "+" ∷ "-" ∷ "*" ∷ "/" ∷ "%" ∷ "@" ∷ "$" ∷ "#" ∷ []

unfoldable pub first_of_law : List String → (List ℕ → Bool) → Option String
first_of_law [] t = none
first_of_law (s ∷ l) t = elim (t (bytes s)) [ true ↦ some s | false ↦ first_of_law l t ]

-- "A name starts with a letter, or with underscores and later has a letter or digit; `_` alone is the default mark. Names have at most 31 bytes."
-- `run` is the longest run of letters, digits and underscores, and does not begin with a digit
unfoldable pub good_name : List ℕ → Bool
good_name run = some_of plain_byte run && leb (length run) limits.name && not (among (spellings keywords) run)

unfoldable pub own_name : List ℕ → Bool
own_name run = good_name run && not (among (spellings left_out_law) run)

unfoldable pub name_next : List ℕ → Next
name_next run =
    elim (own_name run) [
      | true ↦ word (length run) (λ p. name (record { at = p; spelled = run }))
      | false ↦ elim (first_of_law ("_" ∷ (left_out_law ++ keywords)) (same run)) [ some s ↦ word (length run) (fixed s) | none ↦ wrong ]
    ]

-- the value of digits in a base; a digit past 9 is a letter in either case
unfoldable pub digit_of : ℕ → ℕ
digit_of b = elim (leb b 57) [ true ↦ b - 48 | false ↦ elim (leb b 90) [ true ↦ b - 55 | false ↦ b - 87 ] ]

unfoldable pub value_in_base : ℕ → ℕ → List ℕ → ℕ
value_in_base base n [] = n
value_in_base base n (b ∷ r) = value_in_base base (n * base + digit_of b) r

unfoldable pub digit_in : ℕ → ℕ → Bool
digit_in base b = plain_byte b && ltb (digit_of b) base

-- "Plain numbers are decimal, at most 4,294,967,295."
unfoldable pub number_next : List ℕ → Next
number_next run =
    elim (leb (value_in_base 10 0 run) limits.number) [
      | true ↦ word (length run) (λ p. num (record { at = p; value = value_in_base 10 0 run; long = length run }))
      | false ↦ wrong
    ]

-- "then one word: `'` and d, o, h or b in either case and digits of that base"
unfoldable pub one_of : String → ℕ → Bool
one_of s b = some_of (λ c. eqb c b) (bytes s)

unfoldable pub base_of : ℕ → ℕ
base_of b = elim (one_of "dD" b) [ true ↦ 10 | false ↦ elim (one_of "oO" b) [ true ↦ 8 | false ↦ elim (one_of "hH" b) [ true ↦ 16 | false ↦ elim (one_of "bB" b) [ true ↦ 2 | false ↦ 0 ] ] ] ]

-- a separator stands first, and after it and any others a name
unfoldable pub named_next : List ℕ → Bool
named_next r = ltb 0 (gap r) && starts_name (after_gaps (length r) r)
  where
    starts_name : List ℕ → Bool
    starts_name [] = false
    starts_name (b ∷ bs) = not (digit b) && own_name (span name_byte (b ∷ bs))

-- "After a bare `'d` and a separator an environment name may stand instead; any other `'` is 3." Here are the bytes after the `'`.
unfoldable pub quote_next : List ℕ → Next
quote_next [] = wrong
quote_next (b ∷ r) =
    elim (span (digit_in (base_of b)) r) [
      | d ∷ ds ↦ word (3 + length ds) (λ p. digits (record { at = p; value = value_in_base (base_of b) 0 (d ∷ ds); long = 3 + length ds }))
      | [] ↦ elim (eqb (base_of b) 10 && named_next r) [ true ↦ word 2 (fixed "'d") | false ↦ wrong ]
    ]

-- "`^~` as `~^`"
unfoldable pub sign_next : List ℕ → Next
sign_next bs = elim (first_of_law signs (λ s. begins s bs)) [ none ↦ wrong | some s ↦ word (length (bytes s)) (fixed (elim (same (bytes s) (bytes "^~")) [ true ↦ "~^" | false ↦ s ])) ]

unfoldable pub next : List ℕ → Next
next [] = over
next (b ∷ r) =
    elim (gap (b ∷ r)) [
      | suc n ↦ apart (suc n)
      | zero ↦ elim (digit b) [
        | true ↦ number_next (span digit (b ∷ r))
        | false ↦ elim (name_byte b) [
          | true ↦ name_next (span name_byte (b ∷ r))
          | false ↦ elim (eqb b 39) [ true ↦ quote_next r | false ↦ elim (begins (bytes "/*") (b ∷ r)) [ true ↦ wrong | false ↦ sign_next (b ∷ r) ] ]
        ]
      ]
    ]

-- ---- the words of a text; or, of row 3, "bad byte, name, number or unclosed comment", the place of the first

pub data Lexed : Type 0 where
  words : List Word → Lexed
  bad_at : ℕ → Lexed

unfoldable pub push : Word → Lexed → Lexed
push w (words ws) = words (w ∷ ws)
push w (bad_at p) = bad_at p

-- each word and each separator has a byte at least, so that one step more than there are bytes is enough
unfoldable pub words_from : ℕ → ℕ → List ℕ → Lexed
words_from zero p bs = words []
words_from (suc f) p bs =
    elim (next bs) [
      | over ↦ words []
      | apart n ↦ words_from f (p + n) (drop n bs)
      | word n w ↦ push (w p) (words_from f (p + n) (drop n bs))
      | wrong ↦ bad_at p
    ]

unfoldable pub words_of : List ℕ → Lexed
words_of bs = words_from (suc (length bs)) 0 bs

-- row 4: the places of the words that are left out
unfoldable pub left_out : List Word → List ℕ
left_out [] = []
left_out (num n ∷ ws) = left_out ws
left_out (name n ∷ ws) = left_out ws
left_out (digits n ∷ ws) = left_out ws
left_out (fixed s p ∷ ws) = elim (among (spellings left_out_law) (bytes s)) [ true ↦ p ∷ left_out ws | false ↦ left_out ws ]
