-- What the contracts of the readers of expressions say. Assumes nothing: these are definitions.
use Rattle.std.specs.Prelude.{◌≡◌, Bool, true, List, ℕ, ◌+◌, ◌*◌, ◌≤◌, ◌<◌, drop}
use Rattle.language.specs.Parser.{expr_p, cond_l, bin_p, bin_l, part_l, arms_p}
use Rattle.tape.specs.Tape.{flat}
use Rattle.readers.specs.Marks.{count, kind_at, is_mark}
use Rattle.readers.specs.Meets.{Out, Met, MetOn}

-- room, at an operator that stands before its operand
pub record StartsMark (w : List ℕ) (at n k : ℕ) : Type 0 where
  pub few : count w ≤ 8192
  pub within : at < count w
  pub room : n + 3 * count w ≤ 24576 + 3 * at
  pub kind : kind_at w at ≡ k
  pub mark : is_mark k ≡ true

-- each reader's contract: its reader of lists and its rank
module _ (w : List ℕ) (at n : ℕ) (t : List ℕ) (r : Out) (t' : List ℕ) where
  abbrev pub IsExpr : Bool → Type 0
  IsExpr b = Met flat 3 (λ text ms ws f. expr_p ms f b (drop at ws)) w at n t r t'

  abbrev pub IsChoices : Bool → Type 0
  IsChoices b = MetOn flat (λ ms f a ws. cond_l ms f b a ws) w at n t r t'

  abbrev pub IsBinary : ℕ → Bool → Type 0
  IsBinary below b = Met flat 2 (λ text ms ws f. bin_p ms f b below (drop at ws)) w at n t r t'

  abbrev pub IsOperators : ℕ → Bool → Type 0
  IsOperators below b = MetOn flat (λ ms f a ws. bin_l ms f b below a ws) w at n t r t'

  abbrev pub IsParts : Type 0
  IsParts = MetOn flat (λ ms f a ws. part_l ms f a ws) w at n t r t'

  abbrev pub IsArms : Type 0
  IsArms = Met flat 0 (λ text ms ws f. arms_p ms f (drop at ws)) w at n t r t'
