-- What reading an actor's text comes to: rows 1, 3, 4 and 5 of the actor's text, in this order, or the tape. Assumes nothing: these are definitions.
use Rattle.std.specs.Prelude.{◌≡◌, Result, Ok, Err, true, false, List, [], ℕ, ◌+◌, ◌*◌, ◌≤◌, ◌<◌, leb, ltb, length, drop}
use Rattle.std.proofs.Math.Option.{none, some}
use Rattle.std.proofs.lemmas.List.Edits.{sets}
use Rattle.language.specs.Text.{earliest}
use Rattle.language.specs.Limits.{limits}
use Rattle.language.specs.Words.{Word, words_of, words, bad_at, left_out}
use Rattle.language.specs.Tree.{Actor, spelled_of, memory_names}
use Rattle.language.specs.Reader.{Res, ok, until, Verdict, tree, fault, tired, whole}
use Rattle.language.specs.Parser.{constraint_p, parse}
use Rattle.language.specs.Reading.{word_place}
use Rattle.words.specs.Table.{table_of}
use Rattle.tape.specs.Tape.{longest, most_items, flat_actor}
use Rattle.readers.specs.Marks.{count_at, count, place_at, Marked}
use Rattle.readers.specs.Meets.{Out, On, Moved}
use Rattle.head_reader.specs.Heads.{Head, flat_head, actor_of}
use Rattle.name_marks.specs.Marking.{WordsHeld, Tabled}
use Rattle.readers.specs.declared.Misfit.{Misfit}
use Rattle.language.specs.declared.Refusal.{Refusal}
use Rattle.language.specs.declared.Text.TheVariants.{Actor as InActor}

-- what reading a text comes to: the tape holds the actor in so many numbers, or a row refuses it at a place
abbrev pub Said : Type 0
Said = Result ℕ Refusal

abbrev pub refusal : ℕ → ℕ → Said
refusal n p = Err (record { row = n; text = InActor; place = p })

-- row 5. The reader is never `tired` (`Statement`, `answers`)
unfoldable pub tree_said : ℕ → List Word → Verdict Actor → Said
tree_said end ws (tree a) = Ok (length (flat_actor a))
tree_said end ws (fault i) = refusal 5 (word_place end ws i)
tree_said end ws tired = refusal 5 0

-- rows 3 and 4
unfoldable pub words_said : List ℕ → Said
words_said text =
    elim (words_of text) [ bad_at p ↦ refusal 3 p | words ws ↦ elim (earliest (left_out ws)) [ some p ↦ refusal 4 p | none ↦ tree_said (length text) ws (parse ws) ] ]

-- row 1
unfoldable pub said_of : List ℕ → Said
said_of text = elim (leb (length text) limits.actor) [ false ↦ refusal 1 limits.actor | true ↦ words_said text ]

-- the tape t after it: it holds the actor where the text is accepted, and is as it stood where not
unfoldable pub tree_after : Verdict Actor → List ℕ → List ℕ
tree_after (tree a) t = sets t 0 (flat_actor a)
tree_after (fault i) t = t
tree_after tired t = t

unfoldable pub words_after : List ℕ → List ℕ → List ℕ
words_after text t = elim (words_of text) [ bad_at p ↦ t | words ws ↦ elim (earliest (left_out ws)) [ some p ↦ t | none ↦ tree_after (parse ws) t ] ]

unfoldable pub tape_after : List ℕ → List ℕ → List ℕ
tape_after text t = elim (leb (length text) limits.actor) [ false ↦ t | true ↦ words_after text t ]

-- what is answered has room on the tape
abbrev pub Roomy : Said → Type 0
Roomy (Ok n) = n ≤ longest
Roomy (Err e) = Unit {0}

-- ---- the contracts of the parts

-- the words of a text in the table, with room for more; and their names marked, but for memories
pub record Filed (text w : List ℕ) : Type 0 where
  pub ws : List Word
  pub held : WordsHeld text w ws
  pub table : Tabled w
  pub short : length text ≤ most_items

pub record Ready (text w : List ℕ) : Type 0 where
  pub ws : List Word
  pub held : WordsHeld text w ws
  pub table : Tabled w
  pub marked : Marked text [] w ws

-- the table as `words` leaves it: n words
pub record Listed (text w : List ℕ) (n : ℕ) : Type 0 where
  pub ws : List Word
  pub lexed : words_of text ≡ words ws
  pub many : n ≡ length ws
  pub before : List ℕ
  pub long : length before ≡ count_at + 1
  pub holds : w ≡ sets before 0 (table_of ws)
  pub short : length text ≤ most_items

-- the groups after a head, up to the brace
unfoldable pub groups_p : ℕ → Head → List Word → Res Actor
groups_p f h ws = until (constraint_p (spelled_of (memory_names h.memories)) f ws) "}" (λ gs t j. ok (actor_of h gs) j)

-- a reader's answer and its tape are the verdict on the whole text
pub data Judged (t : List ℕ) : Verdict Actor → Out → List ℕ → Type 0 where
  accepted : {a : Actor} {x m : ℕ} {t' : List ℕ} → On t 0 (flat_actor a) m t' → Judged t (tree a) (Ok (x, m)) t'
  refused : {e : Misfit} {t' : List ℕ} → Judged t (fault e.at) (Err e) t'

-- what follows a head that is on the tape, to the end of the words
pub record IsEnding (w : List ℕ) (at n : ℕ) (t : List ℕ) (r : Out) (t' : List ℕ) : Type 0 where
  pub moved : Moved (count w) at n r
  pub judged : {text : List ℕ} {ms : List (List ℕ)} {ws : List Word} → Marked text ms w ws → (f : ℕ) → 8 * count w < f + 8 * at
      → (h : Head) {s : List ℕ} → spelled_of (memory_names h.memories) ≡ ms → On s 0 (flat_head h) n t → Judged s (whole (length ws) (groups_p f h (drop at ws))) r t'

pub record IsTree (text w t : List ℕ) (r : Out) (w' t' : List ℕ) : Type 0 where
  pub moved : Moved (count w) 0 0 r
  pub counted : count w' ≡ count w
  pub held : {ws : List Word} → WordsHeld text w ws → WordsHeld text w' ws
  pub judged : {ws : List Word} → WordsHeld text w ws → Marked text [] w ws → Judged t (parse ws) r t'

-- the place of a word, or the end of the text where there is none
abbrev pub place_or : ℕ → List ℕ → ℕ → ℕ
place_or end w i = elim (ltb i (count w)) [ true ↦ place_at w i | false ↦ end ]

-- the answer and the tape, whatever words the table holds
pub record IsParsed (text w t : List ℕ) (r : Said) (t' : List ℕ) : Type 0 where
  pub answer : {ws : List Word} → WordsHeld text w ws → r ≡ tree_said (length text) ws (parse ws)
  pub tape : {ws : List Word} → WordsHeld text w ws → t' ≡ tree_after (parse ws) t
  pub room : Roomy r
