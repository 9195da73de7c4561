-- A walk over the numbers of a tape, three by three: it is the walk by index, and it goes on over what stands one after the other. Assumes nothing.
use mathlib.Core.Path.{◌≡◌, refl, sym, ap, ◌∙◌}
use mathlib.Core.List.{List, [], ◌∷◌, ◌++◌, append_assoc, append-nil}
use Prim.Native.Nat.{ℕ, zero, suc, ◌+◌, ◌*◌, ◌≤◌, ◌<◌}
use native.Mathlib.Omega.{arith}
use lib.ListN.{length, take, drop, get_or, length-take, length-drop}
use lib.Seq.{drop-cons, get_or-take}
use Rattle.tape.specs.Tape.{item}
use Rattle.tape.specs.Walk.{op_at, place_at, value_at}

three : (l : List ℕ) (k : ℕ) → k + 2 < length l → drop k l ≡ get_or l k 0 ∷ get_or l (k + 1) 0 ∷ get_or l (k + 2) 0 ∷ drop (k + 3) l
three l k h = go (k + 1) (k + 2) (k + 3) refl refl refl
  where
    go : (x y z : ℕ) → k + 1 ≡ x → k + 2 ≡ y → k + 3 ≡ z → drop k l ≡ get_or l k 0 ∷ get_or l x 0 ∷ get_or l y 0 ∷ drop z l
    go x y z e f g = drop-cons l k 0 (omega arith) ∙ ap (λ (r : List ℕ). get_or l k 0 ∷ r)
        (ap (λ (n : ℕ). drop n l) (suc_is k x e) ∙ drop-cons l x 0 (omega arith) ∙ ap (λ (r : List ℕ). get_or l x 0 ∷ r)
        (ap (λ (n : ℕ). drop n l) (suc_is x y (omega arith)) ∙ drop-cons l y 0 (omega arith) ∙ ap (λ (n : ℕ). get_or l y 0 ∷ drop n l) (suc_is y z (omega arith))))
      where
        suc_is : (a b : ℕ) → a + 1 ≡ b → suc a ≡ b
        suc_is a b q = omega arith

module _ (t : List ℕ) (n i : ℕ) (h : 3 * i + 2 < n) (k : n ≤ length t) where
  pub item_at_law : drop (3 * i) (take n t) ≡ op_at t i ∷ place_at t i ∷ value_at t i ∷ drop (3 * suc i) (take n t)
  item_at_law = three (take n t) (3 * i) (let e = length-take n t in omega arith) ∙ parts
    where
      parts : get_or (take n t) (3 * i) 0 ∷ get_or (take n t) (3 * i + 1) 0 ∷ get_or (take n t) (3 * i + 2) 0 ∷ drop (3 * i + 3) (take n t) ≡ op_at t i ∷ place_at t i ∷ value_at t i ∷ drop (3 * suc i) (take n t)
      parts = let a = get_or-take n t (3 * i) 0 (omega arith) in let b = get_or-take n t (3 * i + 1) 0 (omega arith) in let c = get_or-take n t (3 * i + 2) 0 (omega arith) in let d : 3 * i + 3 ≡ 3 * suc i = omega arith in cc

module _ {S : Type 0} (step : S → ℕ → ℕ → ℕ → S) where
  -- the state after the items of a list, and after the first i items of a tape
  unfoldable pub fold : S → List ℕ → S
  fold s [] = s
  fold s (o ∷ []) = s
  fold s (o ∷ p ∷ []) = s
  fold s (o ∷ p ∷ v ∷ l) = fold (step s o p v) l

  unfoldable pub up_to : S → List ℕ → ℕ → S
  up_to s t zero = s
  up_to s t (suc i) = step (up_to s t i) (op_at t i) (place_at t i) (value_at t i)

  few : (s : S) (l : List ℕ) → length l ≤ 2 → fold s l ≡ s
  unfolding fold
  few s [] h = refl
  few s (a ∷ []) h = refl
  few s (a ∷ b ∷ []) h = refl
  few s (a ∷ b ∷ c ∷ l) h = absurd (omega arith)

  module _ (s : S) (t : List ℕ) (n many : ℕ) (k : n ≤ length t) (low : 3 * many ≤ n) where
    left : (i : ℕ) → i ≤ many → fold (up_to s t i) (drop (3 * i) (take n t)) ≡ fold s (take n t)
    unfolding fold up_to
    left zero q = refl
    left (suc i) q = sym (ap (fold (up_to s t i)) (item_at_law t n i (omega arith) k)) ∙ left i (omega arith)

    pub by_index : n < 3 * many + 3 → fold s (take n t) ≡ up_to s t many
    by_index high = sym (left many (omega arith)) ∙ few _ (drop (3 * many) (take n t)) (let a = length-drop (3 * many) (take n t) in let b = length-take n t in omega arith)

  -- ---- what the walk makes of a state on some items, whatever stands after them

  pub record Goes (s : S) (a : List ℕ) (s' : S) : Type 0 where
    pub on : (l : List ℕ) → fold s (a ++ l) ≡ fold s' l

module _ {S : Type 0} {step : S → ℕ → ℕ → ℕ → S} where
  pub goes_none : {s : S} → Goes step s [] s
  goes_none = record { on = λ l. refl }

  pub goes_both : {s s' s'' : S} {a b : List ℕ} → Goes step s a s' → Goes step s' b s'' → Goes step s (a ++ b) s''
  goes_both {s} {a = a} {b = b} d e = record { on = λ l. ap (fold step s) (append_assoc a b l) ∙ d.on (b ++ l) ∙ e.on l }

  pub goes_item : {s s' : S} (o p v : ℕ) → step s o p v ≡ s' → Goes step s (item o p v) s'
  unfolding fold
  goes_item o p v e = record { on = λ l. ap (λ (s : S). fold step s l) e }

  pub goes_whole : {s s' : S} {a : List ℕ} → Goes step s a s' → fold step s a ≡ s'
  unfolding fold
  goes_whole {s} {a = a} d = ap (fold step s) (sym (append-nil a)) ∙ d.on []
