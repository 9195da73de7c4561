-- The kind of each fixed word that a reader tests. Assumes nothing.
use mathlib.Core.Path.{refl}
use native.Mathlib.Omega.{arith}
use Rattle.signs.specs.Kinds.{spelled_words}
use Rattle.readers.specs.Marks.{fixed_of}
use Rattle.readers.proofs.Spells.{Spells, spells, check, agree}

pub s_input : Spells "input" 4
unfolding check agree fixed_of spelled_words
s_input = spells "input" 4 (omega arith) (omega arith) refl refl

pub s_output : Spells "output" 5
unfolding check agree fixed_of spelled_words
s_output = spells "output" 5 (omega arith) (omega arith) refl refl

pub s_reg : Spells "reg" 6
unfolding check agree fixed_of spelled_words
s_reg = spells "reg" 6 (omega arith) (omega arith) refl refl

pub s_ff : Spells "ff" 7
unfolding check agree fixed_of spelled_words
s_ff = spells "ff" 7 (omega arith) (omega arith) refl refl

pub s_and : Spells "and" 8
unfolding check agree fixed_of spelled_words
s_and = spells "and" 8 (omega arith) (omega arith) refl refl

pub s_or : Spells "or" 9
unfolding check agree fixed_of spelled_words
s_or = spells "or" 9 (omega arith) (omega arith) refl refl

pub s_let : Spells "let" 10
unfolding check agree fixed_of spelled_words
s_let = spells "let" 10 (omega arith) (omega arith) refl refl

pub s_val : Spells "val" 11
unfolding check agree fixed_of spelled_words
s_val = spells "val" 11 (omega arith) (omega arith) refl refl

pub s_in : Spells "in" 12
unfolding check agree fixed_of spelled_words
s_in = spells "in" 12 (omega arith) (omega arith) refl refl

pub s_end : Spells "end" 13
unfolding check agree fixed_of spelled_words
s_end = spells "end" 13 (omega arith) (omega arith) refl refl

pub s_case : Spells "case" 14
unfolding check agree fixed_of spelled_words
s_case = spells "case" 14 (omega arith) (omega arith) refl refl

pub s_if : Spells "if" 15
unfolding check agree fixed_of spelled_words
s_if = spells "if" 15 (omega arith) (omega arith) refl refl

pub s_then : Spells "then" 16
unfolding check agree fixed_of spelled_words
s_then = spells "then" 16 (omega arith) (omega arith) refl refl

pub s_else : Spells "else" 17
unfolding check agree fixed_of spelled_words
s_else = spells "else" 17 (omega arith) (omega arith) refl refl

pub s_max : Spells "max" 18
unfolding check agree fixed_of spelled_words
s_max = spells "max" 18 (omega arith) (omega arith) refl refl

pub s_log : Spells "log" 19
unfolding check agree fixed_of spelled_words
s_log = spells "log" 19 (omega arith) (omega arith) refl refl

pub s_ceil : Spells "ceil" 20
unfolding check agree fixed_of spelled_words
s_ceil = spells "ceil" 20 (omega arith) (omega arith) refl refl

pub s_floor : Spells "floor" 21
unfolding check agree fixed_of spelled_words
s_floor = spells "floor" 21 (omega arith) (omega arith) refl refl

pub s_default : Spells "_" 22
unfolding check agree fixed_of spelled_words
s_default = spells "_" 22 (omega arith) (omega arith) refl refl

pub s_value : Spells "'d" 23
unfolding check agree fixed_of spelled_words
s_value = spells "'d" 23 (omega arith) (omega arith) refl refl

pub s_arrow : Spells "=>" 24
unfolding check agree fixed_of spelled_words
s_arrow = spells "=>" 24 (omega arith) (omega arith) refl refl

pub s_open : Spells "(" 36
unfolding check agree fixed_of spelled_words
s_open = spells "(" 36 (omega arith) (omega arith) refl refl

pub s_close : Spells ")" 37
unfolding check agree fixed_of spelled_words
s_close = spells ")" 37 (omega arith) (omega arith) refl refl

pub s_brace : Spells "{" 38
unfolding check agree fixed_of spelled_words
s_brace = spells "{" 38 (omega arith) (omega arith) refl refl

pub s_unbrace : Spells "}" 39
unfolding check agree fixed_of spelled_words
s_unbrace = spells "}" 39 (omega arith) (omega arith) refl refl

pub s_bracket : Spells "[" 40
unfolding check agree fixed_of spelled_words
s_bracket = spells "[" 40 (omega arith) (omega arith) refl refl

pub s_unbracket : Spells "]" 41
unfolding check agree fixed_of spelled_words
s_unbracket = spells "]" 41 (omega arith) (omega arith) refl refl

pub s_comma : Spells "," 42
unfolding check agree fixed_of spelled_words
s_comma = spells "," 42 (omega arith) (omega arith) refl refl

pub s_semicolon : Spells ";" 43
unfolding check agree fixed_of spelled_words
s_semicolon = spells ";" 43 (omega arith) (omega arith) refl refl

pub s_colon : Spells ":" 44
unfolding check agree fixed_of spelled_words
s_colon = spells ":" 44 (omega arith) (omega arith) refl refl

pub s_ask : Spells "?" 45
unfolding check agree fixed_of spelled_words
s_ask = spells "?" 45 (omega arith) (omega arith) refl refl

pub s_dot : Spells "." 46
unfolding check agree fixed_of spelled_words
s_dot = spells "." 46 (omega arith) (omega arith) refl refl

pub s_equals : Spells "=" 47
unfolding check agree fixed_of spelled_words
s_equals = spells "=" 47 (omega arith) (omega arith) refl refl

pub s_less : Spells "<" 48
unfolding check agree fixed_of spelled_words
s_less = spells "<" 48 (omega arith) (omega arith) refl refl

pub s_greater : Spells ">" 49
unfolding check agree fixed_of spelled_words
s_greater = spells ">" 49 (omega arith) (omega arith) refl refl

pub s_bar : Spells "|" 53
unfolding check agree fixed_of spelled_words
s_bar = spells "|" 53 (omega arith) (omega arith) refl refl

pub s_plus : Spells "+" 55
unfolding check agree fixed_of spelled_words
s_plus = spells "+" 55 (omega arith) (omega arith) refl refl

pub s_minus : Spells "-" 56
unfolding check agree fixed_of spelled_words
s_minus = spells "-" 56 (omega arith) (omega arith) refl refl
