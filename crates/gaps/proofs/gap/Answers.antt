-- `gaps::gap` meets its contract. Assumes nothing.
use native.Mathlib.Omega.{arith}
use mathlib.Core.Path.{sym, ◌∙◌}
use Rattle.spans.proofs.Spans.{pair_room}
use Rattle.gaps.proofs.gap.Goals as goal

pub close-requires : goal.close-requires
close-requires c = pair_room c.args.text.now c.args.at 47 42 (omega arith) (sym c.pair-else-pair.ensures ∙ c.if-pair-2.true)
