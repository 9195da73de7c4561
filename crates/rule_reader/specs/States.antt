-- What the contracts of the statements' readers say. Assumes nothing: these are definitions.
use Rattle.std.specs.Prelude.{◌≡◌, false, List, ℕ, ◌+◌, ◌*◌, ◌<◌, drop}
use Rattle.language.specs.Words.{Word}
use Rattle.language.specs.Tree.{Declared, Val}
use Rattle.language.specs.Reader.{Res, ok, bad, on, is_name, expect, until}
use Rattle.language.specs.Parser.{expr_p, assignment_p, val_p}
use Rattle.tape.specs.Tape.{flat_assignment, flat_val, flat_d, is_typed}
use Rattle.readers.specs.Marks.{count, name_at, Marked}
use Rattle.readers.specs.Meets.{Out, On, Moved, Agrees, Met}

-- the name stands at `at`, and the answer lies past it
abbrev pub IsAssignment : List ℕ → ℕ → ℕ → List ℕ → Out → List ℕ → Type 0
IsAssignment w at n t r t' = Met flat_assignment 0 (λ text ms ws f. assignment_p ms f (name_at text w at) (drop (at + 1) ws)) w (at + 1) n t r t'

-- the place of `val` is not on the tape
abbrev pub IsVal : List ℕ → ℕ → ℕ → List ℕ → Out → List ℕ → Type 0
IsVal w at n t r t' = Met flat_val 0 (λ text ms ws f. val_p ms f 0 (drop at ws)) w at n t r t'

-- what follows the type of a `val`, as `val_p` has it
unfoldable pub binding_p : List (List ℕ) → ℕ → Declared → List Word → Res Val
binding_p ms f t x = on is_name x (λ n y. expect "=" y (λ q z. until (expr_p ms f false z) ";" (λ e s l. ok (record { type = t; called = n; value = e }) l))) (λ x. bad x)

pub record IsBinding (w : List ℕ) (at n : ℕ) (t : List ℕ) (r : Out) (t' : List ℕ) (typed : ℕ) : Type 0 where
  pub moved : Moved (count w) at n r
  pub agrees : {text : List ℕ} {ms : List (List ℕ)} {ws : List Word} → Marked text ms w ws → (f : ℕ) → 8 * count w < f + 8 * at
      → (d : Declared) {s : List ℕ} {b : ℕ} → is_typed d ≡ typed → On s b (flat_d d) n t → Agrees flat_val ws b s (binding_p ms f d (drop at ws)) r t'
