-- `main` ends, and reads and writes inside its tables. Assumes nothing.
use mathlib.Core.Path.{◌≡◌, ap, ◌∙◌}
use mathlib.Core.List.{List}
use Prim.Native.Nat.{ℕ, ◌+◌, ◌*◌, ◌≤◌}
use native.Mathlib.Omega.{arith}
use lib.ListN.{length, take, length-take, length-replicate}
use lib.Seq.{length-sets}
use Rattle.figures.specs.declared.State.{State}
use Rattle.input_bytes.specs.declared.tables.Tables.{Tables}
use Rattle.input_bytes.specs.Bytes.{Machine}
use Rattle.tipirun.specs.Machine.{Feeds}
use Rattle.tipirun.proofs.main.Goals as goal

-- what a part of the input can make the program write has room
roomy : (s : State) (t : Tables) (n : ℕ) (l : List ℕ) → s.at ≡ 0 → length t.out ≡ 32_768 → length l ≡ 64 → s.at + 378 * length (take n l) ≤ length t.out
roomy s t n l e f g = let q = length-take n l in omega arith

long : {m r : Machine} {bytes old out : List ℕ} → Feeds m bytes old r out → length out ≡ length old
long {m} {r} {bytes} {old} {out} x = ap length x.stands.bytes ∙ length-sets old m.state.at x.to.wrote

pub loop-turn-init : goal.loop-turn-init
loop-turn-init c = (ap (λ (s : State). s.at) c.begin-s.ensures, ap (λ (t : Tables). length t.out) c.new-tables.ensures ∙ length-replicate {A = ℕ} 32_768 0)

pub feed-s-requires : goal.feed-s-requires
feed-s-requires c = roomy c.loop-turn.s c.loop-turn.tables _ _ c.loop-turn.invariant.0 c.loop-turn.invariant.1 (omega arith)

pub loop-turn-preserved : goal.loop-turn-preserved
loop-turn-preserved c = (ap (λ (s : State). s.at) c.emptied-s.ensures, long c.feed-s.ensures ∙ c.loop-turn.invariant.1)

pub ended-end-requires : goal.ended-end-requires
ended-end-requires c = omega (arith, c.loop-turn.invariant.0, c.loop-turn.invariant.1)
