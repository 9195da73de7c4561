-- 01, "Refusal numbers, in the order tested": "Each row covers its whole text before the next; within one the earliest place decides." Assumes nothing: these are definitions.
use Rattle.std.specs.Prelude.{◌≡◌, Bool, true, false, List, [], ◌∷◌, ℕ, zero, suc, leb, length}
use Rattle.std.proofs.Math.Option.{Option, none, some}
use Rattle.language.specs.Text.{earliest}
use Rattle.language.specs.Limits.{limits}
use Rattle.language.specs.Words.{Word, place_of, words_of, words, bad_at, left_out}
use Rattle.language.specs.Tree.{Actor}
use Rattle.language.specs.Reader.{tree, fault, tired}
use Rattle.language.specs.Parser.{parse}
use Rattle.language.specs.Parts.{each, actor_items, types}
use Rattle.language.specs.Names.{name_faults}
use Rattle.language.specs.Counts.{limit_faults}
use Rattle.language.specs.Types.{type_faults}
use Rattle.language.specs.Bindings.{Bindings, bindings_of, bound, wrong_at}
use Rattle.language.specs.Widths.{strangers, unsettled, Resolved}
use Rattle.language.specs.Sizes.{Setting, size_faults}
use Rattle.language.specs.Presence.{presence_faults}
use Rattle.language.specs.declared.Text.{Text}
use Rattle.language.specs.declared.Text.TheVariants.{Actor as InActor, Bindings as InBindings}

-- what reading comes to: a refusal with its number, text and place, or an actor with its bindings and widths
pub data Answer : Type 0 where
  refused : ℕ → Text → ℕ → Answer
  accepted : Setting → Answer

-- rows 1 to 9: a refusal, or the actor and the bindings
pub data Early : Type 0 where
  stopped : ℕ → Text → ℕ → Early
  through : Actor → Bindings → Early

-- a row by its number, its text and its faults, before what follows
unfoldable pub row : ℕ → Text → List ℕ → Early → Early
row n t l next = elim (earliest l) [ some p ↦ stopped n t p | none ↦ next ]

-- the place of a word by its index, or the text's length where the text ends too early
unfoldable pub word_place : ℕ → List Word → ℕ → ℕ
word_place end [] i = end
word_place end (w ∷ ws) zero = place_of w
word_place end (w ∷ ws) (suc i) = word_place end ws i

-- rows 6 to 9
unfoldable pub judged : List Word → Actor → Bindings → Early
judged ws a b =
    row 6 InActor (name_faults a)
    (row 7 InActor (limit_faults ws a)
    (row 8 InActor (each type_faults (types (actor_items a)))
    (row 9 InBindings (strangers a b)
    (row 9 InActor (unsettled a b)
    (through a b)))))

-- row 5. The reader is never `tired` (`Statement`, `answers`)
unfoldable pub parsed : ℕ → List Word → Bindings → Early
parsed end ws b = elim (parse ws) [ tree a ↦ judged ws a b | fault i ↦ stopped 5 InActor (word_place end ws i) | tired ↦ stopped 5 InActor 0 ]

-- rows 3 and 4
unfoldable pub worded : List ℕ → Bindings → Early
worded text b = elim (words_of text) [ bad_at p ↦ stopped 3 InActor p | words ws ↦ row 4 InActor (left_out ws) (parsed (length text) ws b) ]

-- rows 1 and 2
unfoldable pub early : List ℕ → List ℕ → Early
early text bindings =
    elim (leb (length text) limits.actor) [
      | false ↦ stopped 1 InActor limits.actor
      | true ↦ elim (leb (length bindings) limits.bindings) [
        | false ↦ stopped 1 InBindings limits.bindings
        | true ↦ elim (bindings_of bindings) [ wrong_at p ↦ stopped 2 InBindings p | bound b ↦ worded text b ]
      ]
    ]

-- rows 10 to 12, where the widths are known or known not to be: "10 no widths", at 0
unfoldable pub late : Actor → Bindings → Option (List ℕ) → Answer
late a b none = refused 10 InActor 0
late a b (some ws) =
    elim (earliest (size_faults (record { actor = a; bindings = b; widths = ws }))) [
      | some p ↦ refused 11 InActor p
      | none ↦ elim (earliest (presence_faults a)) [ some p ↦ refused 12 InActor p | none ↦ accepted (record { actor = a; bindings = b; widths = ws }) ]
    ]

-- An actor text with a bindings text is read as this answer. Row 13 is not here: it goes by what is made of the text, and by the room lent for it.
pub data Reads (text bindings : List ℕ) : Answer → Type 0 where
  reads_early : {n p : ℕ} {t : Text} → early text bindings ≡ stopped n t p → Reads text bindings (refused n t p)
  reads_late : {a : Actor} {b : Bindings} (ws : Option (List ℕ)) → early text bindings ≡ through a b → Resolved a b ws → Reads text bindings (late a b ws)
