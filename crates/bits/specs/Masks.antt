-- A mask by its bits: bit i is port i of the signature. Assumes nothing: these are definitions.
use Rattle.std.specs.Prelude.{Bool, true, not, ◌&&◌, ◌||◌, ℕ, zero, suc, eqb}
use Rattle.language.specs.Values.{bit_of}

-- "mask of ports required present, mask required absent": where the port must be present it is, and where it must be absent it is not
unfoldable pub bit_matches : ℕ → ℕ → ℕ → Bool
bit_matches m p a = (not (eqb p 1) || eqb m 1) && (not (eqb a 1) || eqb m 0)

-- the same at each of the w low bits
unfoldable pub matches_in : ℕ → ℕ → ℕ → ℕ → Bool
matches_in zero mask present absent = true
matches_in (suc k) mask present absent = bit_matches (bit_of mask k) (bit_of present k) (bit_of absent k) && matches_in k mask present absent

unfoldable pub matches_of : ℕ → ℕ → ℕ → Bool
matches_of mask present absent = matches_in 32 mask present absent
