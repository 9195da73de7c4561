-- Lists of places put one after the other have the same places in any order: one test that antt computes. Assumes nothing.
use mathlib.Core.Path.{◌≡◌, subst}
use mathlib.Core.Logic.{⊎_elim}
use mathlib.Core.Bool.{Bool, true, false, ◌&&◌, ◌||◌}
use mathlib.Core.List.{List, [], ◌++◌}
use Prim.Native.Nat.{ℕ}
use native.Mathlib.Omega.{arith}
use lib.Dec.{eqb}
use lib.ListN.{get_or}
use borrow.Author.Tests.{eqb-true}
use Rattle.spelling.proofs.Laws.{both_left, both_right}
use Rattle.placed.specs.Members.{Member}
use Rattle.placed.proofs.Members.{member_none, member_left, member_right, member_append}
use Rattle.placed.proofs.Same.{Same}

infixr 20 ◌⊕◌
-- lists by their number, one after the other
pub data Sum : Type 0 where
  nth : ℕ → Sum
  ◌⊕◌ : Sum → Sum → Sum
  nil : Sum

abbrev pub eval : List (List ℕ) → Sum → List ℕ
eval ls (nth i) = get_or ls i []
eval ls (a ⊕ b) = eval ls a ++ eval ls b
eval ls nil = []

abbrev pub has : ℕ → Sum → Bool
has i (nth j) = eqb i j
has i (a ⊕ b) = has i a || has i b
has i nil = false

abbrev pub inside : Sum → Sum → Bool
inside (nth i) b = has i b
inside (a ⊕ c) b = inside a b && inside c b
inside nil b = true

module _ (ls : List (List ℕ)) (q : ℕ) where
  has_member : (i : ℕ) (b : Sum) → has i b ≡ true → Member q (get_or ls i []) → Member q (eval ls b)
  has_member i (nth j) h m = subst (λ (k : ℕ). Member q (get_or ls k [])) (eqb-true i j h) m
  has_member i (a ⊕ b) h m = go (has i a) h (λ e. member_left (eval ls b) (has_member i a e m)) (λ e. member_right (eval ls a) (has_member i b e m))
    where
      go : (c : Bool) → (c || has i b) ≡ true → (c ≡ true → Member q (eval ls a ++ eval ls b)) → (has i b ≡ true → Member q (eval ls a ++ eval ls b)) → Member q (eval ls a ++ eval ls b)
      go true h f g = f h
      go false h f g = g h
  has_member i nil h m = absurd (let z : ◌≡◌ {A = ℕ} 0 1 = cc in omega arith)

  inside_member : (a b : Sum) → inside a b ≡ true → Member q (eval ls a) → Member q (eval ls b)
  inside_member (nth i) b h m = has_member i b h m
  inside_member (a ⊕ c) b h m = ⊎_elim (λ n. inside_member a b (both_left (inside a b) (inside c b) h) n) (λ n. inside_member c b (both_right (inside a b) (inside c b) h) n) (member_append (eval ls a) m)
  inside_member nil b h m = absurd (member_none m)

pub same_sum : (ls : List (List ℕ)) (a b : Sum) → (inside a b && inside b a) ≡ true → Same (eval ls a) (eval ls b)
same_sum ls a b h = record { to = λ q m. inside_member ls q a b (both_left (inside a b) (inside b a) h) m; from = λ q m. inside_member ls q b a (both_right (inside a b) (inside b a) h) m }
