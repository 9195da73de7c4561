-- `signs::kinds::all` meets its contract: antt computes each kind. Assumes nothing.
use mathlib.Core.Path.{refl}
use Rattle.signs.specs.Kinds.{kinds, kinds_of, kind_in, spelled_words}
use Rattle.signs.proofs.kinds.all.Goals as goal

pub returns : goal.returns
unfolding kinds kinds_of kind_in spelled_words
returns c = refl
