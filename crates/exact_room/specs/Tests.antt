-- Whether exact values have room to be reckoned with in 64 bits, as tests. Assumes nothing: these are definitions.
use Rattle.std.specs.Prelude.{Bool, ◌&&◌, ℕ, ◌+◌, ◌*◌, ◌^◌, ltb}
use Rattle.language.specs.declared.Exact.{Exact}

-- a number of 64 bits
unfoldable pub fits : ℕ → Bool
fits n = ltb n (2 ^ 64)

-- `Space` as a test
unfoldable pub has_space : Exact → Bool
has_space x = ltb 0 x.a && ltb 0 x.b && fits (x.up + 64) && fits (x.down + 64)

-- the sums of `Room`
unfoldable pub sums_fit : Exact → Exact → Bool
sums_fit x y = fits (x.up + y.up) && fits (x.down + y.down) && fits (x.up + y.down) && fits (x.down + y.up)

-- the products of `Room`
unfoldable pub products_fit : Exact → Exact → Bool
products_fit x y = fits (x.a * y.a) && fits (x.b * y.b) && fits (x.a * y.b) && fits (x.b * y.a)

-- `Room` as a test
unfoldable pub has_room : Exact → Exact → Bool
has_room x y = sums_fit x y && products_fit x y
