-- What stands between words: a separator at a place, and the place after all of them. Assumes nothing: these are definitions.
use Rattle.std.specs.Prelude.{◌≡◌, List, ℕ, ◌+◌, ◌≤◌, length, drop}
use Rattle.language.specs.Words.{gap, after_gaps}

pub record GapAt (text : List ℕ) (at r : ℕ) : Type 0 where
  pub is : r ≡ gap (drop at text)
  pub inside : at + r ≤ length text

pub record AfterGaps (text : List ℕ) (at r : ℕ) : Type 0 where
  pub is : after_gaps (length (drop at text)) (drop at text) ≡ drop r text
  pub inside : r ≤ length text
