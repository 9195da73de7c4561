-- `item_writes::nodes::grow` meets its contract: a node at the end does what it does to the types that wait. Assumes nothing.
use mathlib.Core.Path.{refl}
use native.Mathlib.Omega.{arith}
use Rattle.item_writes.specs.Tables.{grown_by}
use Rattle.item_writes.proofs.Waiting.{leaf_waits, leaf_ordered, end_none, end_waits, join_none, join_waits, join_ordered, ordered_more}
use Rattle.item_writes.proofs.nodes.grow.Goals as goal

pub returns-then-types-lt1 : goal.returns-then-types-lt1
unfolding grown_by
returns-then-types-lt1 c =
    let s = c in
    rw c.in-End.is (record { is = end_none s.args.code.now s.args.starts.now s.args.w.nodes c.in-End.k s.args.w.types c.if-types-lt1.true; types = omega arith; nodes = omega arith; ordered = s.requires.2 })

pub returns-then-types-lt2 : goal.returns-then-types-lt2
unfolding grown_by
returns-then-types-lt2 c =
    let s = c in
    rw c.in-Join.is (record { is = join_none s.args.code.now s.args.starts.now s.args.w.nodes c.in-Join.k s.args.w.types c.if-types-lt2.true; types = omega arith; nodes = omega arith; ordered = s.requires.2 })

pub returns-in-Nothing : goal.returns-in-Nothing
unfolding grown_by
returns-in-Nothing c =
    let s = c in
    rw c.in-Nothing.is (record { is = refl; types = omega arith; nodes = omega arith; ordered = s.requires.2 })

pub returns-in-Leaf : goal.returns-in-Leaf
unfolding grown_by
returns-in-Leaf c =
    let s = c in
    rw c.in-Leaf.is (record {
      is = leaf_waits s.args.code.now s.args.starts.now s.args.w.types s.args.w.nodes c.in-Leaf.k s.requires.0 s.requires.1 s.requires.2;
      types = omega arith;
      nodes = omega arith;
      ordered = leaf_ordered s.args.code.now s.args.starts.now s.args.w.types s.args.w.nodes c.in-Leaf.k s.requires.0 s.requires.1 s.requires.2;
    })

pub returns-else-types-lt1 : goal.returns-else-types-lt1
unfolding grown_by
returns-else-types-lt1 c =
    let s = c in
    rw c.in-End.is (record {
      is = end_waits s.args.code.now s.args.starts.now s.args.w.nodes c.in-End.k s.requires.1 s.args.w.types s.requires.2 c.if-types-lt1.false;
      types = omega arith;
      nodes = omega arith;
      ordered = ordered_more s.args.starts.now s.args.w.types s.args.w.nodes _ (omega arith) s.requires.2;
    })

pub returns-else-types-lt2 : goal.returns-else-types-lt2
unfolding grown_by
returns-else-types-lt2 c =
    let s = c in
    rw c.in-Join.is (record {
      is = join_waits s.args.code.now s.args.starts.now s.args.w.nodes c.in-Join.k s.requires.1 s.args.w.types s.requires.2 c.if-types-lt2.false;
      types = omega arith;
      nodes = omega arith;
      ordered = join_ordered s.args.starts.now s.args.w.types s.args.w.nodes s.requires.2 c.if-types-lt2.false;
    })
