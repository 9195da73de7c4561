-- `row09_bindings::strangers` meets its contract: the two searches are the first half of row 9. Assumes nothing.
use native.Mathlib.Omega.{arith}
use mathlib.Core.Path.{◌≡◌, refl, ◌∙◌}
use mathlib.Core.List.{[]}
use Prim.Native.Nat.{◌/◌}
use Rattle.language.specs.Text.{earliest}
use Rattle.words.specs.Found.{place_told}
use Rattle.std.specs.Prelude.{None}
use Rattle.row09_bindings.proofs.Whole.{strange_lines}
use Rattle.row09_bindings.proofs.strangers.Goals as goal

nowhere : None ≡ place_told (earliest [])
unfolding earliest place_told
nowhere = refl

pub returns : goal.returns
returns c =
    let args = c.args in
    let pre = c.requires in
    λ ws a b h g. let e = strange_lines args.text.now args.tape.now args.n (args.n / 3) pre (omega arith) (omega arith) h args.bound g _ c.end-end.ensures in
    c.strange.ensures _ (c.strange-values.ensures [] nowhere) ∙ e
