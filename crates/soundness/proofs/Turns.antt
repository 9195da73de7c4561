-- The turns of the loops over code, on lists. Assumes nothing.
use Prim.Native.Nat.{ℕ, zero, suc, ◌+◌, ◌-◌, ◌*◌, ◌≤◌, ◌<◌}
use mathlib.Core.Path.{◌≡◌, refl, sym, ap, subst, ◌∙◌}
use mathlib.Core.List.{List, [], ◌∷◌}
use native.Mathlib.Omega.{arith}
use lib.ListN.{length, take, drop}
use Rattle.plan.specs.declared.Item.{Item}
use Rattle.plan.specs.Items.{decode_all}
use Rattle.plan.specs.Sound.{Check, check, broken, Rules, check1, check_step, check_all, unended, end_of}
use Rattle.plan.specs.Items.{item_at}
use Rattle.plan.specs.Waits.{top}
use Rattle.soundness.specs.Steps.{masks, end_at, Masked}
use Rattle.plan.proofs.Lists.{item_next}
use Rattle.std.specs.Bool.{then_some}
use lib.Dec.{eqb}
use mathlib.Core.Bool.{Bool}
use borrow.Author.Tests.{ne_eqb}

pub check_broken : (t : Rules) (is : List Item) → check_all t is broken ≡ broken
unfolding check_all check_step
check_broken t [] = refl
check_broken t (i ∷ is) = check_broken t is

-- the items from the i-th on
abbrev pub rest : List ℕ → ℕ → ℕ → ℕ → List Item
rest p at items i = decode_all (take (4 * (items - i)) (drop at p))

pub rest_next : (p : List ℕ) (at items i : ℕ) → i < items → at + 4 * (items - i) ≤ length p → rest p at items i ≡ item_at p at ∷ rest p (at + 4) items (i + 1)
rest_next p at items i h l =
    let e : 4 * (items - i) ≡ 4 + 4 * (items - (i + 1)) = omega arith in
    rw e (item_next p at (4 * (items - (i + 1))) (omega arith))

pub rest_none : (p : List ℕ) (at items i : ℕ) → items ≤ i → rest p at items i ≡ []
unfolding decode_all
rest_none p at items i h = let e : 4 * (items - i) ≡ 0 = omega arith in rw e

pub check_turn : (t : Rules) (p : List ℕ) (at items i : ℕ) (ws ls : List ℕ) (d : ℕ) (k : Check) → i < items → at + 4 * (items - i) ≤ length p
    → k ≡ check1 t (item_at p at) ws ls d → check_all t (rest p at items i) (check ws ls d) ≡ check_all t (rest p (at + 4) items (i + 1)) k
unfolding check_all check_step
check_turn t p at items i ws ls d k h l e = rw (rest_next p at items i h l, e)

pub check_stop : (t : Rules) (p : List ℕ) (at items i : ℕ) (ws ls : List ℕ) (d : ℕ) → i < items → at + 4 * (items - i) ≤ length p
    → broken ≡ check1 t (item_at p at) ws ls d → check_all t (rest p at items i) (check ws ls d) ≡ broken
check_stop t p at items i ws ls d h l e = check_turn t p at items i ws ls d broken h l e ∙ check_broken t (rest p (at + 4) items (i + 1))

pub check_done : (t : Rules) (p : List ℕ) (at items i : ℕ) (k : Check) → items ≤ i → check_all t (rest p at items i) k ≡ k
unfolding check_all
check_done t p at items i k h = rw (rest_none p at items i h)

-- at the end none may wait
pub end_told : (s : List ℕ) (n : ℕ) (ls : List ℕ) (d : ℕ) → end_at (then_some (eqb n 0) d) ≡ end_of (check (top s n) ls d)
unfolding end_of top
end_told s zero ls d = refl
end_told s (suc n) ls d = ap (λ (b : Bool). end_at (then_some b d)) (ne_eqb (suc n) 0 (λ e. omega arith))

pub masked_told : (n d : ℕ) → d < masks → Masked (then_some (eqb n 0) d)
masked_told zero d h = h
masked_told (suc n) d h = subst (λ (b : Bool). Masked (then_some b d)) (sym (ne_eqb (suc n) 0 (λ e. omega arith))) tt

pub end_broken : unended ≡ end_of broken
unfolding end_of
end_broken = refl
