-- Tables that are written from their start on. Assumes nothing: these are definitions.
use Rattle.std.specs.Prelude.{◌≡◌, List, ℕ, ◌≤◌, drop}

-- what was written ended at m and ends at n: past n the table is as it was
pub record Kept (m n : ℕ) (before after : List ℕ) : Type 0 where
  pub more : m ≤ n
  pub past : drop n after ≡ drop n before
