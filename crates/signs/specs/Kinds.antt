-- The kinds of words, and the four numbers of a word: its kind, its place, its length in bytes, and a plain number's value. Assumes nothing: these are definitions.
use Rattle.std.specs.Prelude.{◌≡◌, refl, true, false, List, [], ◌∷◌, ℕ, zero, suc, ◌+◌, length}
use Prim.Native.String.{String}
use lib.Text.{eqt}
use Rattle.language.specs.Words.{Word, num, name, digits, fixed, bytes}

-- the kinds: 1 a plain number, 2 a name, 3 the `'` word of a sized constant; from 4 on the fixed words, in this order
unfoldable pub spelled_words : List String
spelled_words =
    "input" ∷ "output" ∷ "reg" ∷ "ff" ∷ "and" ∷ "or" ∷ "let" ∷ "val" ∷ "in" ∷ "end" ∷ "case" ∷ "if" ∷ "then" ∷ "else" ∷ "max" ∷ "log" ∷ "ceil" ∷ "floor"
    ∷ "_" ∷ "'d" ∷ "=>" ∷ "==" ∷ "!=" ∷ "<<" ∷ "<=" ∷ ">>" ∷ ">=" ∷ "&&" ∷ "||" ∷ "~&" ∷ "~|" ∷ "~^"
    ∷ "(" ∷ ")" ∷ "{" ∷ "}" ∷ "[" ∷ "]" ∷ "," ∷ ";" ∷ ":" ∷ "?" ∷ "." ∷ "=" ∷ "<" ∷ ">" ∷ "!" ∷ "~" ∷ "&" ∷ "|" ∷ "^" ∷ "+" ∷ "-" ∷ "*" ∷ "/" ∷ "%"
    ∷ "foreach" ∷ "instruction" ∷ "@" ∷ "$" ∷ "#" ∷ []

unfoldable pub kind_in : List String → String → ℕ
kind_in [] s = zero
kind_in (v ∷ l) s = elim (eqt v s) [ true ↦ zero | false ↦ suc (kind_in l s) ]

unfoldable pub kinds_of : List String → List ℕ
kinds_of [] = []
kinds_of (s ∷ l) = (4 + kind_in spelled_words s) ∷ kinds_of l

-- every kind in this order: those of the code are proved to be these (`signs::kinds::all`)
unfoldable pub kinds : List ℕ
kinds = 1 ∷ 2 ∷ 3 ∷ kinds_of spelled_words

-- the kinds that promises name; those of fixed words are the list's (`named`, below)
abbrev pub number_kind : ℕ
number_kind = 1

abbrev pub name_kind : ℕ
name_kind = 2

abbrev pub and_kind : ℕ
and_kind = 8

abbrev pub or_kind : ℕ
or_kind = 9

abbrev pub let_kind : ℕ
let_kind = 10

abbrev pub case_kind : ℕ
case_kind = 14

abbrev pub if_kind : ℕ
if_kind = 15

abbrev pub max_kind : ℕ
max_kind = 18

abbrev pub log_kind : ℕ
log_kind = 19

abbrev pub rest_kind : ℕ
rest_kind = 22

abbrev pub open_kind : ℕ
open_kind = 36

abbrev pub brace_kind : ℕ
brace_kind = 38

abbrev pub less_kind : ℕ
less_kind = 48

named : kinds_of ("and" ∷ "or" ∷ "let" ∷ "case" ∷ "if" ∷ "max" ∷ "log" ∷ "_" ∷ "(" ∷ "{" ∷ "<" ∷ []) ≡ and_kind ∷ or_kind ∷ let_kind ∷ case_kind ∷ if_kind ∷ max_kind ∷ log_kind ∷ rest_kind ∷ open_kind ∷ brace_kind ∷ less_kind ∷ []
unfolding kinds_of kind_in spelled_words
named = refl

-- the first number that is no kind
abbrev pub kinds_end : ℕ
kinds_end = 65

ended : length kinds + 1 ≡ kinds_end
unfolding kinds kinds_of kind_in spelled_words
ended = refl

-- the four numbers of a word
unfoldable pub numbers_of : Word → List ℕ
numbers_of (num n) = 1 ∷ n.at ∷ n.long ∷ n.value ∷ []
numbers_of (name n) = 2 ∷ n.at ∷ length n.spelled ∷ 0 ∷ []
numbers_of (digits n) = 3 ∷ n.at ∷ n.long ∷ 0 ∷ []
numbers_of (fixed s p) = (4 + kind_in spelled_words s) ∷ p ∷ length (bytes s) ∷ 0 ∷ []
