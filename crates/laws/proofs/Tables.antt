-- Tables whose starts hold lists: what is stored at their ends, and what stands past it. Assumes nothing.
use mathlib.Core.Path.{◌≡◌, refl, sym, ap, ap₂, ◌∙◌}
use mathlib.Core.List.{List, [], ◌∷◌, ◌++◌, append_assoc}
use Prim.Native.Nat.{ℕ, ◌+◌, ◌-◌, ◌≤◌, ◌<◌}
use native.Mathlib.Numerals.{add-one}
use native.Mathlib.Omega.{arith}
use lib.ListN.{length, set, take, drop, length-append, take-append-drop}
use lib.Seq.{sets, sets-eq, take_at, drop_at, length-take-le, drop-drop, take-suc-set, drop-set-lt}
use borrow.Rule.Slice.PartMut.{put_mid}
use Rattle.laws.specs.Tables.{Kept}

-- ---- what is stored

module _ (l vs : List ℕ) (n : ℕ) (h : n + length vs ≤ length l) where
  until : length (take n l ++ vs) ≡ n + length vs
  until = let a = length-append (take n l) vs in let b = length-take-le n l (omega arith) in omega arith

  pub stored : take (n + length vs) (sets l n vs) ≡ take n l ++ vs
  stored = ap (take (n + length vs)) (sets-eq vs l n h) ∙ take_at (take n l ++ vs) (drop (n + length vs) l) (n + length vs) until

  pub unstored : drop (n + length vs) (sets l n vs) ≡ drop (n + length vs) l
  unstored = ap (drop (n + length vs)) (sets-eq vs l n h) ∙ drop_at (take n l ++ vs) (drop (n + length vs) l) (n + length vs) until

-- a part of a table that is written over, as `l[n..n + k]` by a list of that length
pub part_stored : (l y vs : List ℕ) (n k : ℕ) → y ≡ vs → k ≡ length vs → n + length vs ≤ length l → put_mid n k l y ≡ sets l n vs
part_stored l y vs n k e f h =
    ap₂ (λ (x : List ℕ) (m : ℕ). put_mid n m l x) e f ∙ ap (λ (d : List ℕ). take n l ++ (vs ++ d)) (drop-drop (length vs) n l)
    ∙ sym (append_assoc (take n l) vs (drop (n + length vs) l)) ∙ sym (sets-eq vs l n h)

-- one number at the end
pub stored_one : (l : List ℕ) (n v : ℕ) → n < length l → take (n + 1) (set l n v) ≡ take n l ++ (v ∷ [])
stored_one l n v h = rw (add-one n) (take-suc-set l n v h)

pub kept_one : (l : List ℕ) (n v : ℕ) → Kept n (n + 1) l (set l n v)
kept_one l n v = record { more = omega arith; past = drop-set-lt (n + 1) l n v (omega arith) }

-- ---- what stands past it

pub kept_same : (n : ℕ) (l : List ℕ) → Kept n n l l
kept_same n l = record { more = omega arith; past = refl }

drop_later : (x y : List ℕ) (n k : ℕ) → n ≤ k → drop n x ≡ drop n y → drop k x ≡ drop k y
drop_later x y n k h e =
    let q : n + (k - n) ≡ k = omega arith in
    ap (λ (j : ℕ). drop j x) (sym q) ∙ sym (drop-drop (k - n) n x) ∙ ap (drop (k - n)) e ∙ drop-drop (k - n) n y ∙ ap (λ (j : ℕ). drop j y) q

pub kept_on : {m n k : ℕ} {a b c : List ℕ} → Kept m n a b → Kept n k b c → Kept m k a c
kept_on {m} {n} {k} {a} {b} {c} h j = record { more = let x = h.more in let y = j.more in omega arith; past = j.past ∙ drop_later b a n k j.more h.past }

pub whole_table : (l l₀ v : List ℕ) (n : ℕ) → take n l ≡ v → n ≡ length v → drop n l ≡ drop n l₀ → l ≡ v ++ drop (length v) l₀
whole_table l l₀ v n e q d = sym (take-append-drop n l) ∙ ap₂ ◌++◌ e d ∙ ap (λ (k : ℕ). v ++ drop k l₀) q
