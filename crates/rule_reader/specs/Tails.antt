-- What the contracts of the readers say that end a `let` and a rule, whose beginning is on the tape. Assumes nothing: these are definitions.
use Rattle.std.specs.Prelude.{List, ◌++◌, ℕ, ◌+◌, ◌*◌, ◌<◌, drop}
use Rattle.language.specs.Text.{Name}
use Rattle.language.specs.Words.{Word}
use Rattle.language.specs.Tree.{Val, Entry, Statement, scoped, Rule}
use Rattle.language.specs.Reader.{Res, ok, is_name, until, many_p, some_p}
use Rattle.language.specs.Parser.{is_start, assignment_p, statement_p}
use Rattle.tape.specs.Tape.{item, LET, RULE, flats, flat_val, flat_entry, flat_statement, flat_rule}
use Rattle.readers.specs.Marks.{count, Marked}
use Rattle.readers.specs.Meets.{Out, On, Moved, Agrees}

-- what follows the `in` of a `let`, as `statement_p` has it
unfoldable pub written_p : List (List ℕ) → ℕ → List Val → List Word → Res Statement
written_p ms f vs x = until (some_p is_name (λ f n r. assignment_p ms f n r) f x) "end" (λ l s y. ok (scoped vs l) y)

pub record IsWritten (w : List ℕ) (at n : ℕ) (t : List ℕ) (r : Out) (t' : List ℕ) : Type 0 where
  pub moved : Moved (count w) at n r
  pub agrees : {text : List ℕ} {ms : List (List ℕ)} {ws : List Word} → Marked text ms w ws → (f : ℕ) → 8 * count w < f + 8 * at
      → (vs : List Val) {s : List ℕ} {b : ℕ} → On s b (item LET 0 0 ++ flats flat_val vs) n t → Agrees flat_statement ws b s (written_p ms f vs (drop at ws)) r t'

-- what follows the `{` of a rule, as `rule_p` has it
unfoldable pub body_p : List (List ℕ) → ℕ → Name → List Entry → List Word → Res Rule
body_p ms f n es y = until (many_p is_start (λ f a r. statement_p ms f a r) f y) "}" (λ l t z. ok (record { called = n; list = es; body = l }) z)

pub record IsBody (w : List ℕ) (at n : ℕ) (t : List ℕ) (r : Out) (t' : List ℕ) : Type 0 where
  pub moved : Moved (count w) at n r
  pub agrees : {text : List ℕ} {ms : List (List ℕ)} {ws : List Word} → Marked text ms w ws → (f : ℕ) → 8 * count w + 1 < f + 8 * at
      → (called : Name) (es : List Entry) {s : List ℕ} {b : ℕ} → On s b (item RULE called.at 0 ++ flats flat_entry es) n t → Agrees flat_rule ws b s (body_p ms f called es (drop at ws)) r t'
