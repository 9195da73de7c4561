-- The tables by operation: each byte is a figure, and the figures are small. Assumes nothing.
use Rattle.std.proofs.Common.{◌≡◌, ◌≢◌, refl, sym, ◌∙◌, Bool, true, false, ◌&&◌, List, [], ◌∷◌, ℕ, zero, suc, ◌-◌, ◌≤◌, ◌<◌, ◌⊎◌, inl, inr, arith, length, get_or, eqb, leb, leb-true, eq-eqb, ne_eqb}
use Rattle.std.proofs.lemmas.Bool.Decides.{eqb_tells}
use Rattle.language.specs.Words.{bytes}
use Rattle.spelling.proofs.Laws.{both_left, both_right}
use Rattle.part_lengths.specs.Parts.{holds_table, own_table, leads_table, holds_of, own_of, leads_of}

-- figures from 0 to 3
abbrev figures : List ℕ → Bool
figures [] = true
figures (x ∷ l) = (leb 48 x && leb x 51) && figures l

figure_at : (l : List ℕ) → figures l ≡ true → (i : ℕ) → i < length l → (48 ≤ get_or l i 0) × (get_or l i 0 ≤ 51)
figure_at [] h i k = absurd (omega arith)
figure_at (x ∷ l) h zero k = let e = both_left (leb 48 x && leb x 51) (figures l) h in (leb-true 48 x (both_left (leb 48 x) (leb x 51) e), leb-true x 51 (both_right (leb 48 x) (leb x 51) e))
figure_at (x ∷ l) h (suc i) k = figure_at l (both_right (leb 48 x && leb x 51) (figures l) h) i (omega arith)

small_at : (l : List ℕ) → figures l ≡ true → (i : ℕ) → get_or l i 0 - 48 ≤ 3
small_at [] h i = omega arith
small_at (x ∷ l) h zero = let e = (figure_at (x ∷ l) h 0 (omega arith)).1 in omega arith
small_at (x ∷ l) h (suc i) = small_at l (both_right (leb 48 x && leb x 51) (figures l) h) i

pub holds_small : (o : ℕ) → holds_of o ≤ 3
unfolding holds_of holds_table bytes
holds_small o = small_at holds_table refl o

pub own_small : (o : ℕ) → own_of o ≤ 3
unfolding own_of own_table bytes
own_small o = small_at own_table refl o

-- the figure 1
pub leads_one : (o : ℕ) → eqb (get_or leads_table o 0 - 48) 1 ≡ leads_of o
unfolding leads_of
leads_one o = go (get_or leads_table o 0) (eqb_tells _ 49)
  where
    go : (x : ℕ) → ((eqb x 49 ≡ true) × (x ≡ 49)) ⊎ ((eqb x 49 ≡ false) × (x ≢ 49)) → eqb (x - 48) 1 ≡ eqb x 49
    go x (inl e) = eq-eqb _ _ (let k = e.1 in omega arith) ∙ sym e.0
    go x (inr e) = ne_eqb _ _ (λ k. e.1 (omega arith)) ∙ sym e.0
