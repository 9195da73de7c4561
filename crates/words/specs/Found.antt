-- What is answered of the whole text. Assumes nothing: these are definitions.
use Rattle.std.specs.Prelude.{Bool, true, false, ◌&&◌, List, [], ◌∷◌, ℕ, zero, suc, ◌+◌, ◌*◌, min, leb, length, get_or, drop}
use Rattle.std.proofs.Math.Option.{Option, none, some}
use Rattle.std.proofs.lemmas.List.Edits.{sets}
use Rattle.language.specs.Limits.{limits}
use Rattle.language.specs.Words.{Word, over, apart, word, wrong, next, words_of, words, bad_at}
use Rattle.words.specs.Table.{table_of}
use Rattle.words.specs.declared.Fault.{Fault}
use Rattle.words.specs.declared.Fault.TheVariants.{Bad, NoRoom}
use Rattle.std.specs.Prelude.{Option as Optional, Some, None, Result, Ok, Err}

-- what reading a whole text comes to: how many words, or the fault; and a place, where there is one
abbrev pub Found : Type 0
Found = Result ℕ Fault

abbrev pub Place : Type 0
Place = Optional ℕ

-- the words before the first bad one
unfoldable pub until_from : ℕ → ℕ → List ℕ → List Word
until_from zero p bs = []
until_from (suc f) p bs =
    elim (next bs) [
      | over ↦ []
      | apart n ↦ until_from f (p + n) (drop n bs)
      | word n w ↦ w p ∷ until_from f (p + n) (drop n bs)
      | wrong ↦ []
    ]

unfoldable pub words_until : List ℕ → List Word
words_until bs = until_from (suc (length bs)) 0 bs

-- the text is short enough (row 1 has tested that) and the table has four numbers for each byte
unfoldable pub roomy : List ℕ → List ℕ → Bool
roomy text t = leb (length text) limits.actor && leb (4 * length text) (length t)

unfoldable pub found_of : List ℕ → List ℕ → Found
found_of text t = elim (roomy text t) [ false ↦ Err NoRoom | true ↦ elim (words_of text) [ words ws ↦ Ok (length ws) | bad_at p ↦ Err (Bad p) ] ]

unfoldable pub table_after : List ℕ → List ℕ → List ℕ
table_after text t = elim (roomy text t) [ false ↦ t | true ↦ sets t 0 (table_of (words_until text)) ]

-- ---- row 4: the kinds of the words that are left out, and the places of these among n words from word i on

unfoldable pub left_kind : ℕ → Bool
left_kind k = leb 60 k && leb k 64

unfoldable pub left_in : List ℕ → ℕ → ℕ → List ℕ
left_in t i zero = []
left_in t i (suc m) = elim (left_kind (get_or t (4 * i) 0)) [ true ↦ get_or t (4 * i + 1) 0 ∷ left_in t (suc i) m | false ↦ left_in t (suc i) m ]

unfoldable pub place_told : Option ℕ → Place
place_told none = None
place_told (some p) = Some p

unfoldable pub earlier_of : ℕ → Place → Place
earlier_of p None = Some p
earlier_of p (Some q) = Some (min p q)
