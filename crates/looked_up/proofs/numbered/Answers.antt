-- `looked_up::numbered` meets its contract. Assumes nothing.
use mathlib.Core.Path.{◌≡◌, ap, ◌∙◌}
use native.Mathlib.Omega.{arith}
use Rattle.language.specs.Text.{index}
use Rattle.placed.specs.Placed.{name_from}
use Rattle.row09_bindings.proofs.Indices.{index_most}
use Rattle.looked_up.specs.Lookup.{named}
use Rattle.looked_up.proofs.Numbers.{named_within}
use Rattle.looked_up.proofs.numbered.Goals as goal

pub returns : goal.returns
returns c =
    let s = c in
    let l = named s.args.text.now s.args.tape.now s.args.op 0 s.args.many in
    let e : c.number.result ≡ index l (name_from s.args.text.now s.args.place) = c.number.ensures ∙ ap (index l) c.name.ensures in
    (e, omega (arith, e, index_most (name_from s.args.text.now s.args.place) l, named_within s.args.text.now s.args.tape.now s.args.op 0 s.args.many))
