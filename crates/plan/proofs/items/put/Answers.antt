-- `plan::items::put` meets its contract: the four numbers are stored at the place. Assumes nothing.
use Prim.Native.Nat.{ℕ, ◌+◌, ◌-◌, ◌≤◌}
use native.Mathlib.Omega.{arith}
use mathlib.Core.Path.{◌≡◌, sym, ap, ◌∙◌}
use mathlib.Core.List.{List, ◌++◌, append_assoc}
use borrow.Rule.Slice.PartMut.{put_mid}
use lib.ListN.{length, take, drop}
use lib.Seq.{sets, sets-eq, drop-drop}
use Rattle.plan.specs.Items.{encode}
use Rattle.plan.proofs.Lists.{four_long}
use Rattle.plan.proofs.items.put.Goals as goal

stored : (l vs : List ℕ) (i k : ℕ) → k ≡ length vs → i + length vs ≤ length l → put_mid i k l vs ≡ sets l i vs
stored l vs i k e h =
    sym (sets-eq vs l i h ∙ append_assoc (take i l) vs (drop (i + length vs) l)
    ∙ ap (λ (r : List ℕ). take i l ++ (vs ++ r)) (sym (drop-drop (length vs) i l) ∙ ap (λ (n : ℕ). drop n (drop i l)) (sym e)))

pub returns : goal.returns
returns c =
    let args = c.args in
    let e : c.copy_from_slice.new.self ≡ encode args.item = c.copy_from_slice.ensures.after ∙ c.encoded.ensures in
    let f = four_long args.item in
    ap (put_mid args.at (args.at + 4 - args.at) args.code.now) e ∙ stored args.code.now (encode args.item) args.at (args.at + 4 - args.at) (omega (arith, f)) (omega (arith, f))
