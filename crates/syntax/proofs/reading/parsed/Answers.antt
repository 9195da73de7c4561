-- `syntax::reading::parsed` meets its contract. Assumes nothing.
use native.Mathlib.Omega.{arith}
use mathlib.Core.Path.{refl}
use Rattle.name_marks.specs.Marking.{runs_at, places_on}
use Rattle.syntax.proofs.Whole.{filed_ready, few_read, tree_taped, parsed_tree, parsed_fault, copied}
use borrow.Author.Rules.{rules}
use Rattle.syntax.proofs.reading.parsed.Goals as goal

pub tree-requires : goal.tree-requires
unfolding runs_at places_on
tree-requires c = record { ready = filed_ready c.requires c.mark.ensures; none = refl; taped = search rules }

pub returns-in-Ok : goal.returns-in-Ok
unfolding runs_at places_on
returns-in-Ok c = parsed_tree c.requires c.mark.ensures (search rules) c.in-Ok.ensures (copied _ _ _ _ c.copy_from_slice.ensures.after (let h = tree_taped c.requires c.mark.ensures (search rules) c.in-Ok.ensures in omega arith) (let h = tree_taped c.requires c.mark.ensures (search rules) c.in-Ok.ensures in omega arith))

pub returns-in-Err : goal.returns-in-Err
unfolding runs_at places_on
returns-in-Err c = rw c.refused.ensures (parsed_fault c.requires c.mark.ensures (search rules) c.in-Err.ensures c.place_or-place.ensures)

pub slice_bounds-copy_from_slice-end : goal.slice_bounds-copy_from_slice-end
unfolding runs_at places_on
slice_bounds-copy_from_slice-end c = let h = tree_taped c.requires c.mark.ensures (search rules) c.in-Ok.ensures in omega arith

pub place_or-place-requires : goal.place_or-place-requires
unfolding runs_at places_on
place_or-place-requires c = few_read c.requires c.mark.ensures (search rules) c.in-Err.ensures
