-- How many words an actor has at least, counted from its tree (an `and (` .. `)` around one group is not in the tree). Assumes nothing: these are definitions.
use Rattle.std.specs.Prelude.{List, [], ◌∷◌, ℕ, ◌+◌, ◌-◌, ◌*◌, length}
use Rattle.language.specs.Tree.{Declared, untyped, Port, Size, one, cells, Memory, Val, Assignment, assign, write, Statement, alone, scoped, Rule, Group, Actor}
use Rattle.language.specs.Counts.{type_words, expr_words}

unfoldable pub total : {A : Type 0} → (A → ℕ) → List A → ℕ
total f [] = 0
total f (x ∷ l) = f x + total f l

unfoldable pub declared_words : Declared → ℕ
declared_words untyped = 0
declared_words (Declared.typed t) = 2 + type_words t

unfoldable pub size_words : Size → ℕ
size_words one = 0
size_words (cells n) = 1

unfoldable pub port_words : Port → ℕ
port_words p = 3 + declared_words p.type

unfoldable pub memory_words : Memory → ℕ
memory_words m = 3 + declared_words m.type + size_words m.size

unfoldable pub val_words : Val → ℕ
val_words v = 4 + declared_words v.type + expr_words v.value

unfoldable pub assignment_words : Assignment → ℕ
assignment_words (assign n e) = 3 + expr_words e
assignment_words (write n a e) = 5 + expr_words a + expr_words e

unfoldable pub statement_words : Statement → ℕ
statement_words (alone x) = assignment_words x
statement_words (scoped vs l) = 3 + total val_words vs + total assignment_words l

-- five words an entry, and a comma between two
unfoldable pub rule_words : Rule → ℕ
rule_words r = 5 + (6 * length r.list - 1) + total statement_words r.body

unfoldable pub group_words : Group → ℕ
group_words g = 3 + total rule_words g.rules

unfoldable pub actor_words : Actor → ℕ
actor_words a = 5 + (2 * length a.signature - 1) + total port_words a.ports + total memory_words a.memories + total group_words a.groups
