-- What the contracts of the readers of types, constants and bit positions say. Assumes nothing: these are definitions.
use Rattle.std.specs.Prelude.{◌≡◌, Result, Ok, Err, Bool, List, ◌++◌, ℕ, ◌+◌, ◌*◌, ◌-◌, ◌≤◌, ◌<◌, drop}
use Rattle.language.specs.Words.{Word}
use Rattle.language.specs.Tree.{Ty, Declared, Breadth, Expr, bit, range}
use Rattle.language.specs.Reader.{Res, ok, bad, on, is, expect, until}
use Rattle.language.specs.Parser.{type_p, type_l, term_p, entry_l, declared_p, part_p, amount_p, operand_p}
use Rattle.tape.specs.Tape.{one_if, is_typed, flat_t, flat_d, flat_b, flat}
use Rattle.readers.specs.Marks.{count, kind_at, place_at, Marked}
use Rattle.readers.specs.Meets.{Out, On, Moved, Agrees, Met, MetOn}
use Rattle.readers.specs.declared.Misfit.{Misfit}

-- digits, or `'d`
pub data Valued (w : List ℕ) (x : ℕ) : Type 0 where
  digits : kind_at w x ≡ 3 → Valued w x
  named : kind_at w x ≡ 23 → Valued w x

-- after a `[` at `from`: a word is left for the item
pub record Shuts (w : List ℕ) (from at n : ℕ) : Type 0 where
  pub few : count w ≤ 8192
  pub within : from < at
  pub inside : at ≤ count w
  pub room : n + 3 * count w + 3 ≤ 24576 + 3 * at

-- what follows the first bit position, as `part_p` has it
unfoldable pub positions_p : ℕ → ℕ → Expr → Ty → List Word → Res Expr
positions_p f p e i ws = on (is ":") ws (λ q y. until (type_p f y) "]" (λ j s z. ok (range e p i j) z)) (λ ws. expect "]" ws (λ q y. ok (bit e p i) y))

-- each reader's contract: its reader of lists and its rank
module _ (w : List ℕ) (at n : ℕ) (t : List ℕ) (r : Out) (t' : List ℕ) where
  abbrev pub IsType : Type 0
  IsType = Met flat_t 1 (λ text ms ws f. type_p f (drop at ws)) w at n t r t'

  abbrev pub IsTerm : Type 0
  IsTerm = Met flat_t 0 (λ text ms ws f. term_p f (drop at ws)) w at n t r t'

  abbrev pub IsSums : Type 0
  IsSums = MetOn flat_t (λ ms f a ws. type_l f a ws) w at n t r t'

  abbrev pub IsEntries : Type 0
  IsEntries = MetOn flat_t (λ ms f a ws. entry_l f a ws) w at n t r t'

  abbrev pub IsPart : Type 0
  IsPart = MetOn flat (λ ms f e ws. part_p f e ws) w at n t r t'

  abbrev pub IsOperand : Type 0
  IsOperand = Met flat 1 (λ text ms ws f. operand_p ms f (drop at ws)) w at n t r t'

-- the value of a sized constant, after its width, which is on the tape
pub record IsAmount (w : List ℕ) (at n : ℕ) (t : List ℕ) (r : Out) (t' : List ℕ) : Type 0 where
  pub moved : Moved (count w) at n r
  pub agrees : {text : List ℕ} {ms : List (List ℕ)} {ws : List Word} → Marked text ms w ws → (e : Breadth) {s : List ℕ} {b : ℕ} → On s b (flat_b e) n t → Agrees flat ws b s (amount_p e (drop at ws)) r t'

-- the bit positions of e, of which the first is read, from the `[` at `from` on
pub record IsPositions (w : List ℕ) (from at n : ℕ) (t : List ℕ) (r : Out) (t' : List ℕ) : Type 0 where
  pub moved : Moved (count w) (at - 1) n r
  pub agrees : {text : List ℕ} {ms : List (List ℕ)} {ws : List Word} → Marked text ms w ws → (f : ℕ) → 8 * count w + 1 < f + 8 * at
      → (e : Expr) (i : Ty) {s : List ℕ} {b : ℕ} → On s b (flat e ++ flat_t i) n t → Agrees flat ws b s (positions_p f (place_at w from) e i (drop at ws)) r t'

-- where the reader of a declared type came to, which also tells whether there is one
abbrev pub led : Result (ℕ × Bool) Misfit → ℕ → Out
led (Ok (x, b)) n = Ok (x, n)
led (Err e) n = Err e

-- as `Agrees`, and it is told whether there is a type
pub data Tells (ws : List Word) (n : ℕ) (t : List ℕ) : Res Declared → Result (ℕ × Bool) Misfit → ℕ → List ℕ → Type 0 where
  there : {d : Declared} {x m : ℕ} {b : Bool} {t' : List ℕ} → is_typed d ≡ one_if b → On t n (flat_d d) m t' → Tells ws n t (ok d (drop x ws)) (Ok (x, b)) m t'
  amiss : {e : Misfit} {m : ℕ} {t' : List ℕ} → Tells ws n t (bad (drop e.at ws)) (Err e) m t'

-- a type in `< >` or none, the n' numbers on the tape t' then
pub record IsDeclared (w : List ℕ) (at n : ℕ) (t : List ℕ) (r : Result (ℕ × Bool) Misfit) (n' : ℕ) (t' : List ℕ) : Type 0 where
  pub moved : Moved (count w) at n (led r n')
  pub agrees : {text : List ℕ} {ms : List (List ℕ)} {ws : List Word} → Marked text ms w ws → (f : ℕ) → 8 * count w < f + 8 * at → Tells ws n t (declared_p f (drop at ws)) r n' t'
