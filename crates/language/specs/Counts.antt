-- Row 7: "over a limit that no other row names", at the first word too many. Assumes nothing: these are definitions.
use Rattle.std.specs.Prelude.{Bool, true, false, not, ◌&&◌, List, [], ◌∷◌, ◌++◌, ℕ, zero, suc, ◌+◌, eqb, leb, length, drop}
use Rattle.std.proofs.Math.Option.{Option, none, some}
use Rattle.language.specs.Text.{Name}
use Rattle.language.specs.Words.{Word, Numeral, place_of}
use Rattle.language.specs.Tree.{Ty, number, environment, port, plus, minus, log, ceil, floor, most, entry, within, Breadth, bits, Amount, given, value}
use Rattle.language.specs.Tree.{Expr, plain, sized, copies, read, cell, bit, range, inside, joined, beside, unary, binary, choice, either, select, arm, default}
use Rattle.language.specs.Tree.{Size, one, cells, Memory, Val, Statement, alone, scoped, Rule, Group, Actor, memory_names}
use Rattle.language.specs.Parts.{each, type_start, start, wholes, statements, actor_items, types, numbers}
use Rattle.language.specs.Names.{when}
use Rattle.language.specs.Limits.{limits}

-- ---- how many words a type and an expression have

unfoldable pub type_words : Ty → ℕ
type_words (number n) = 1
type_words (environment n) = 1
type_words (port n) = 3
type_words (plus a b) = type_words a + 1 + type_words b
type_words (minus a b) = type_words a + 1 + type_words b
type_words (log p a) = 3 + type_words a
type_words (ceil p a) = 3 + type_words a
type_words (floor p a) = 3 + type_words a
type_words (most p a) = 3 + type_words a
type_words (entry a b) = type_words a + 1 + type_words b
type_words (within p a) = 2 + type_words a

unfoldable pub breadth_words : Breadth → ℕ
breadth_words (bits n) = 1
breadth_words (Breadth.typed p t) = 2 + type_words t

unfoldable pub amount_words : Amount → ℕ
amount_words (given n) = 1
amount_words (value n) = 2

unfoldable pub expr_words : Expr → ℕ
expr_words (plain n) = 1
expr_words (sized w a) = breadth_words w + amount_words a
expr_words (copies n e) = 3 + expr_words e
expr_words (read n) = 1
expr_words (cell n a) = 3 + expr_words a
expr_words (bit e p i) = expr_words e + 2 + type_words i
expr_words (range e p i j) = expr_words e + 3 + type_words i + type_words j
expr_words (inside p e) = 2 + expr_words e
expr_words (joined p e) = 2 + expr_words e
expr_words (beside a b) = expr_words a + 1 + expr_words b
expr_words (unary u e) = 1 + expr_words e
expr_words (binary o a b) = expr_words a + 1 + expr_words b
expr_words (choice c a b) = expr_words c + 2 + expr_words a + expr_words b
expr_words (either p c a b) = 3 + expr_words c + expr_words a + expr_words b
expr_words (select p e a) = 4 + expr_words e + expr_words a
expr_words (arm n e r) = 3 + expr_words e + expr_words r
expr_words (default p e) = 3 + expr_words e

-- ---- the faults

-- the place of the word that comes n words after the one at place p
unfoldable pub word_after : List Word → ℕ → ℕ → List ℕ
word_after [] p n = []
word_after (w ∷ ws) p n = elim (eqb (place_of w) p) [ true ↦ each (λ v. place_of v ∷ []) (first_of (drop n (w ∷ ws))) | false ↦ word_after ws p n ]
  where
    first_of : List Word → List Word
    first_of [] = []
    first_of (v ∷ vs) = v ∷ []

unfoldable pub too_many : ℕ → List Name → List ℕ
too_many n ns = each (λ m. m.at ∷ []) (drop n ns)

unfoldable pub size_of : Memory → ℕ
size_of m = elim m.size [ one ↦ 1 | cells n ↦ n.value ]

-- the size number of a memory, or its name where it has none: "a bad size .. number .., else a name"
unfoldable pub size_place : Memory → ℕ
size_place m = elim m.size [ one ↦ m.called.at | cells n ↦ n.at ]

-- each memory of a size that is not 1 to 256, and each that passes 256 cells in all, where there are `sum` before it
unfoldable pub size_faults : ℕ → List Memory → List ℕ
size_faults sum [] = []
size_faults sum (m ∷ ms) = when (not (leb 1 (size_of m) && leb (size_of m) limits.size && leb (sum + size_of m) limits.cells)) (size_place m) ++ size_faults (sum + size_of m) ms

unfoldable pub val_names : Statement → List Name
val_names (alone a) = []
val_names (scoped vs l) = each (λ v. v.called ∷ []) vs

unfoldable pub rules_of : Actor → List Rule
rules_of a = each (λ g. g.rules) a.groups

unfoldable pub limit_faults : List Word → Actor → List ℕ
limit_faults ws a =
    too_many limits.ports a.signature
    ++ (too_many limits.memories (memory_names a.memories)
    ++ (size_faults 0 a.memories
    ++ (each (λ g. g.at ∷ []) (drop limits.groups a.groups)
    ++ (too_many limits.rules (each (λ r. r.called ∷ []) (rules_of a))
    ++ (each (λ r. too_many limits.vals (each val_names r.body)) (rules_of a)
    ++ (each (λ n. when (not (leb n.value limits.copies)) n.at) (numbers (actor_items a))
    ++ (each (λ t. elim (leb (type_words t) limits.typeWords) [ true ↦ [] | false ↦ word_after ws (type_start t) limits.typeWords ]) (types (actor_items a))
    ++ each (λ e. elim (leb (expr_words e) limits.expressionWords) [ true ↦ [] | false ↦ word_after ws (start e) limits.expressionWords ]) (each wholes (statements a)))))))))
