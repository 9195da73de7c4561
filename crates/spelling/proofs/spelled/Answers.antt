-- `spelling::spelled` meets its contract. Assumes nothing.
use mathlib.Core.Path.{refl, ap}
use mathlib.Core.List.{List, map}
use Prim.Native.Nat.{ℕ}
use denote.Bor.{Bor}
use lib.ListN.{length}
use Rattle.std.proofs.Common.{rules, tests}
use Rattle.std.proofs.lemmas.Iterator.{YieldsList-from_slice}
use Rattle.std.proofs.lemmas.Iterator.Search.{position_from_yields_List}
use Rattle.language.specs.Text.{same}
use Rattle.language.specs.Words.{spellings, keywords, bytes}
use Rattle.spelling.specs.Fixed.{fixed_names}
use Rattle.spelling.proofs.Laws.{spelled_std}
use Rattle.spelling.proofs.spelled.Goals as goal

pub returns : goal.returns
unfolding fixed_names spellings keywords bytes
returns c =
    let run = c.args.run.now in
    let words = c.iter.result.rest.now in
    let found = position_from_yields_List (λ w. same w.now run) _ _ c.position.result c.position.ensures.ran (YieldsList-from_slice words refl) (λ x b q k. search (rules, tests)) in
    spelled_std words run c.position.result _ (ap (map (λ (w : Bor (List ℕ)). w.now)) c.iter.ensures.rest) (ap length c.iter.ensures.rest) found c.unwrap_or.ensures
