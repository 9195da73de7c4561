-- The tests of a cycle before anything of it is worked out, on lists. Assumes nothing: these are definitions.
use Rattle.std.specs.Prelude.{Bool, true, ◌&&◌, ◌||◌, List, ℕ, zero, suc, ◌+◌, ◌^◌, eqb, leb, ltb, length, get_or}
use Rattle.language.specs.Values.{bit_of}
use Rattle.plan.specs.Layout.{port_count, port_at, memory_count, memory_width_at, memory_size_at, cells_before}

module _ (p : List ℕ) where
  -- a test holds of each number below n
  unfoldable pub all_below : ℕ → (ℕ → Bool) → Bool
  all_below zero f = true
  all_below (suc n) f = all_below n f && f n

  -- a present input fits its width; an absent one is not looked at, nor is an output's slot
  unfoldable pub input_fits : ℕ → List ℕ → ℕ → Bool
  input_fits mask values i = eqb (bit_of mask i) 0 || leb 256 (port_at p i) || ltb (get_or values i 0) (2 ^ port_at p i)

  -- the cells of memory m fit its width
  unfoldable pub memory_fits : List ℕ → ℕ → Bool
  memory_fits memory m = all_below (memory_size_at p m) (λ i. ltb (get_or memory (cells_before p m + i) 0) (2 ^ memory_width_at p m))

  -- no mask bit past the ports, and what is present and what the cells hold fits
  unfoldable pub fitting : ℕ → List ℕ → List ℕ → Bool
  fitting mask values memory = ltb mask (2 ^ port_count p) && all_below (port_count p) (input_fits mask values) && all_below (memory_count p) (memory_fits memory)

  -- a value and an output slot for each port, a cell for each cell
  unfoldable pub counts : List ℕ → List ℕ → List ℕ → Bool
  counts values memory outputs = eqb (length values) (port_count p) && eqb (length outputs) (port_count p) && eqb (length memory) (cells_before p (memory_count p))
