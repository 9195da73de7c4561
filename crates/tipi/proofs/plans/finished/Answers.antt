-- `finished` meets its contract. Assumes nothing.
use Rattle.tipi.proofs.Finishing.{sizes_refused, presence_refused, sum_fits, made_told}
use borrow.Author.Rules.{rules}
use Rattle.tipi.proofs.plans.finished.Goals as goal

pub made-requires : goal.made-requires
made-requires c =
    let a = c in
    let h = a.requires.settled.2 in
    let f = c.fault.ensures in
    let g = sum_fits h f.first c.fault-in-None.ensures c.in-None.is c.in-None-fault.is _ _ _ f.code f.lengths in
    (a.requires.many_le_most_items.0, a.requires.many_le_most_items.1, search rules, g, search rules)

pub returns-in-Some : goal.returns-in-Some
returns-in-Some c = λ ws s h. rw c.refused.ensures (sizes_refused h c.fault.ensures.first _ c.in-Some.is)

pub returns-in-Some-fault : goal.returns-in-Some-fault
returns-in-Some-fault c = λ ws s h. rw c.refused-in-Some-fault.ensures (presence_refused h c.fault.ensures.first c.fault-in-None.ensures c.in-None.is _ c.in-Some-fault.is)

pub returns-in-None-fault : goal.returns-in-None-fault
returns-in-None-fault c =
    let f = c.fault.ensures in
    let m = c.made.ensures in
    let n = c.in-None.is in
    let o = c.in-None-fault.is in
    λ ws s h. made_told h f.first c.fault-in-None.ensures n o _ _ _ f.code f.lengths m.answer m.table
