-- `signs::sign` meets its contract: what is found in the table is what the definition finds. Assumes nothing.
use native.Mathlib.Omega.{arith}
use mathlib.Core.Path.{◌≡◌, refl, ap}
use mathlib.Core.List.{map}
use lib.ListN.{drop}
use denote.Bor.{Bor}
use Rattle.std.proofs.Common.{rules, tests}
use Rattle.std.proofs.lemmas.Iterator.{YieldsList-from_slice}
use Rattle.std.proofs.lemmas.Iterator.Search.{find_from_yields_List}
use Rattle.std.specs.Prelude.{Option}
use Rattle.std.specs.Option.{option_map}
use Rattle.language.specs.Words.{signs, bytes, sign_next}
use Rattle.language.specs.Text.{same}
use Rattle.signs.specs.Kinds.{kind_in, spelled_words}
use Rattle.signs.specs.Signs.{sign_bytes}
use Rattle.signs.proofs.Signs.{Row, reads, row_of, kind_of, shown, stands, Told, sign_found}
use Rattle.signs.proofs.sign.Goals.{After-find}
use Rattle.signs.proofs.sign.Goals as goal

found : (c : After-find) (o : Option (Bor Row)) → c.find.result ≡ o → Told c.args.text.now c.args.at (sign_next (drop c.args.at c.args.text.now)) (option_map (λ x. x.now) o)
unfolding signs bytes same kind_in spelled_words row_of kind_of shown sign_bytes
found c o e =
    let text = c.args.text.now in
    let at = c.args.at in
    let table = c.iter.result.rest.now in
    sign_found text at table c.find.result o (omega arith) (ap (map reads) c.iter.ensures.rest)
    (find_from_yields_List (stands text at) _ _ c.find.result c.find.ensures.ran (YieldsList-from_slice table refl) (λ x b q k. search (rules, tests)))
    e

pub returns-in-Some-default-Some-default : goal.returns-in-Some-default-Some-default
unfolding sign_bytes
returns-in-Some-default-Some-default c = let w = found (goal.at.returns-in-Some-default-Some-default c).After-find _ c.in-Some-default-Some-default.is in grind (arith, w.0, w.1)

pub returns-in-Some-default-None-default : goal.returns-in-Some-default-None-default
unfolding sign_bytes
returns-in-Some-default-None-default c = let w = found (goal.at.returns-in-Some-default-None-default c).After-find _ c.in-Some-default-None-default.is in grind (arith, w.0, w.1)

pub returns-in-None : goal.returns-in-None
returns-in-None c = found (goal.at.returns-in-None c).After-find _ c.in-None.is
