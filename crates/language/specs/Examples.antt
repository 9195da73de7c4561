-- 01's fourteen proved examples, read from their texts: one list, and one statement about it.
use Rattle.std.specs.Prelude.{◌≡◌, refl, Bool, true, false, List, [], ◌∷◌, ℕ, ◌*◌, length}
use Rattle.std.proofs.Math.Option.{Option, none, some}
use Prim.Native.String.{String}
use Rattle.language.specs.Text as Text
use Rattle.language.specs.Words as Words
use Rattle.language.specs.Words.{words, bad_at, bytes, words_of}
use Rattle.language.specs.Tree.{Ty, Expr}
use Rattle.language.specs.Parts as Parts
use Rattle.language.specs.Names as Names
use Rattle.language.specs.Grammar as Grammar
use Rattle.language.specs.Reader as Reader
use Rattle.language.specs.Reader.{Res, ok, bad, dry}
use Rattle.language.specs.Parser as Parser
use Rattle.language.specs.Parser.{type_p, expr_p}
use Rattle.language.specs.Types as Types
use Rattle.language.specs.Types.{type_faults}
use Rattle.language.specs.Bindings.{Bindings}
use Rattle.language.specs.Widths as Widths
use Rattle.language.specs.Widths.{type_width}
use Rattle.language.specs.Sizes as Sizes
use Rattle.language.specs.Sizes.{Setting, extent, wide, faulty}
use Rattle.language.specs.Values as Values
use Rattle.language.specs.Meaning as Meaning
use Rattle.language.specs.Meaning.{value_of}

-- an actor with no port and no memory
unfoldable nothing : Setting
nothing = record {
  actor = record { called = record { at = 0; spelled = [] }; signature = []; ports = []; memories = []; groups = [] };
  bindings = record { widths = []; values = [] };
  widths = [];
}

-- the width that a type's text declares, and the value of an expression's text: read to its end, and with no fault of rows 8 and 11
unfoldable type_in : Res Ty → Option ℕ
type_in (ok t []) = elim (type_faults t) [ [] ↦ some (type_width nothing.actor nothing.bindings [] t) | p ∷ l ↦ none ]
type_in (ok t (w ∷ r)) = none
type_in (bad r) = none
type_in dry = none

unfoldable value_in : Res Expr → Option ℕ
value_in (ok e []) = elim (extent nothing [] e) [ wide w ↦ some (value_of nothing (record { mask = 0; values = []; memory = [] }) [] e) | faulty l ↦ none ]
value_in (ok e (w ∷ r)) = none
value_in (bad r) = none
value_in dry = none

unfoldable width_of : String → Option ℕ
width_of s =
    elim (words_of (bytes s)) [
      | bad_at p ↦ none
      | words ws ↦ type_in (type_p (16 * length ws) ws)
    ]

unfoldable result_of : String → Option ℕ
result_of s =
    elim (words_of (bytes s)) [
      | bad_at p ↦ none
      | words ws ↦ value_in (expr_p [] (16 * length ws) false ws)
    ]

pub record Example : Type 0 where
  pub found : Option ℕ
  pub wanted : ℕ

type : String → ℕ → Example
type s n = record { found = width_of s; wanted = n }

value : String → ℕ → Example
value s n = record { found = result_of s; wanted = n }

pub examples : List Example
examples =
    type "floor(log(3)+log(3))" 3 ∷ type "floor(log(5+1))" 2 ∷ type "floor(log(5)+1)" 3 ∷ type "floor(log(1)+1)" 2 ∷ type "ceil(log(10))" 4 ∷ type "log(7)-log(3)" 1 ∷ type "1-3" 0
    ∷ value "8'd200+8'd100" 44 ∷ value "4'd3-4'd5" 14 ∷ value "4'd9/4'd0" 15 ∷ value "(4'b0011)[0:3]" 12 ∷ value "{2'd2, 3'd5}" 21 ∷ value "2{3'd5}" 45 ∷ value "1?0:1?2:3" 3 ∷ []

unfoldable pub founds : List Example → List (Option ℕ)
founds [] = []
founds (e ∷ l) = e.found ∷ founds l

unfoldable pub wanteds : List Example → List (Option ℕ)
wanteds [] = []
wanteds (e ∷ l) = some e.wanted ∷ wanteds l

pub examples_hold : founds examples ≡ wanteds examples
unfolding founds wanteds examples type value width_of result_of type_in value_in nothing
    Names.when
    Parts.start Parts.breadth_start
    Types.rules_broken Types.type_faults Types.logs Types.not_above Types.greater_of Types.fewest_in Types.fewest Types.log_down Types.log_up Types.floor_of Types.ceil_of
    Types.width_of Types.position_of Types.exact_of
    Sizes.one_part Sizes.two_parts Sizes.limited Sizes.positions Sizes.extent Sizes.breadth_of Sizes.amount_of Sizes.position_at
    Text.same Text.index Text.among
    Words.bytes Words.spellings Words.begins Words.span Words.some_of Words.digit Words.letter Words.plain_byte Words.name_byte Words.blank Words.close Words.gap
    Words.after_gaps Words.keywords Words.left_out_law Words.signs Words.first_of_law Words.good_name Words.own_name Words.name_next Words.digit_of Words.value_in_base Words.digit_in
    Words.number_next Words.one_of Words.base_of Words.named_next Words.quote_next Words.sign_next Words.next Words.push Words.words_from Words.words_of
    Reader.bind Reader.on Reader.is_num Reader.is_name Reader.is_digits Reader.is Reader.expect Reader.until
    Parser.type_p Parser.is_word Parser.ahead Parser.arm_ends Parser.below Parser.is_operator Parser.prefix_at Parser.is_prefix Parser.amount_p Parser.part_p Parser.expr_p
    Grammar.operators Grammar.operator_in Grammar.prefixes Grammar.prefix_in
    Widths.value_in Widths.type_width
    Values.bit_of Values.number_of Values.ones_of Values.one_bit Values.truth Values.complement Values.plain_width Values.binary_width Values.add_of Values.subtract_of
    Values.divide_of Values.remainder_of Values.left_of Values.right_of Values.and_of Values.or_of Values.xor_of Values.binary_value Values.unary_width Values.unary_value
    Values.beside_of Values.copies_of Values.range_width Values.range_of Values.chosen
    Meaning.position_in Meaning.bits_in Meaning.value_of
examples_hold = refl
