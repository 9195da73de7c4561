-- What `line` gives, said of the text alone: the line around a place, or the empty part at the text's end. Assumes nothing.
use mathlib.Core.Path.{◌≡◌, refl, sym, ap, ◌∙◌}
use mathlib.Core.Bool.{Bool, true, false}
use mathlib.Core.List.{List, [], ◌∷◌}
use Prim.Native.Nat.{ℕ, zero, suc, ◌+◌, ◌-◌, ◌≤◌, ◌<◌}
use native.Mathlib.Omega.{arith}
use native.Mathlib.Decide.{dec_lt}
use lib.Dec.{eqb}
use lib.ListN.{length, drop, get_or, length-drop}
use lib.Seq.{get_or-drop}
use borrow.Author.Tests.{eqb-true, eqb-false}
use Rattle.language.specs.Text.{Line, up_to_end, line_from, line_at}
use Rattle.language.specs.declared.Text.{Text}
use Rattle.language.specs.declared.Text.TheVariants.{Actor as InActor, Bindings as InBindings}
use Rattle.lines.specs.Bounds.{start_of, of_text, LineStands, IsLine, IsLineAt}
use Rattle.lines.proofs.Laws.{found, line_inside, line_outside}

-- ---- the start of a line

start_at_most : (text : List ℕ) (p : ℕ) → start_of text p ≤ p
unfolding start_of
start_at_most text zero = omega arith
start_at_most text (suc p) = go (eqb (get_or text p 0) 10) (start_at_most text p)
  where
    go : (b : Bool) → start_of text p ≤ p → (elim b [ true ↦ suc p | false ↦ start_of text p ]) ≤ suc p
    go true h = omega arith
    go false h = omega arith

start_after_end : (text : List ℕ) (p i : ℕ) → start_of text p ≡ suc i → get_or text i 0 ≡ 10
unfolding start_of
start_after_end text zero i e = absurd (omega arith)
start_after_end text (suc p) i e = go (eqb (get_or text p 0) 10) refl e (λ f. start_after_end text p i f)
  where
    go : (b : Bool) → eqb (get_or text p 0) 10 ≡ b → (elim b [ true ↦ suc p | false ↦ start_of text p ]) ≡ suc i → (start_of text p ≡ suc i → get_or text i 0 ≡ 10) → get_or text i 0 ≡ 10
    go true q f r = let z : p ≡ i = omega arith in rw (← z) (eqb-true _ _ q)
    go false q f r = r f

-- no line end from there to the place
start_unbroken : (text : List ℕ) (p j : ℕ) → start_of text p ≤ j → j < p → get_or text j 0 ≡ 10 → ⊥
unfolding start_of
start_unbroken text zero j h k e = omega arith
start_unbroken text (suc p) j h k e = go (eqb (get_or text p 0) 10) refl h (λ f l. start_unbroken text p j f l e)
  where
    go : (b : Bool) → eqb (get_or text p 0) 10 ≡ b → (elim b [ true ↦ suc p | false ↦ start_of text p ]) ≤ j → (start_of text p ≤ j → j < p → ⊥) → ⊥
    go true q f r = omega arith
    go false q f r = last (dec_lt j p)
      where
        last : Dec (j < p) → ⊥
        last (yes l) = r f l
        last (no l) = let z : j ≡ p = omega arith in eqb-false (get_or text p 0) 10 q (rw z at e)

-- ---- its end

up_unbroken : (l : List ℕ) (i : ℕ) → i < length (up_to_end l) → get_or (up_to_end l) i 0 ≡ 10 → ⊥
unfolding up_to_end
up_unbroken [] i h e = omega arith
up_unbroken (b ∷ r) i h e = go (eqb b 10) refl i h e (λ j k f. up_unbroken r j k f)
  where
    go : (t : Bool) → eqb b 10 ≡ t → (i : ℕ) → i < length {A = ℕ} (elim t [ true ↦ [] | false ↦ b ∷ up_to_end r ]) → get_or {A = ℕ} (elim t [ true ↦ [] | false ↦ b ∷ up_to_end r ]) i 0 ≡ 10
        → ((j : ℕ) → j < length (up_to_end r) → get_or (up_to_end r) j 0 ≡ 10 → ⊥) → ⊥
    go true q i h e f = omega arith
    go false q zero h e f = eqb-false b 10 q e
    go false q (suc i) h e f = f i (omega arith) e

up_ends : (l : List ℕ) → length (up_to_end l) < length l → get_or l (length (up_to_end l)) 0 ≡ 10
unfolding up_to_end
up_ends [] h = absurd (omega arith)
up_ends (b ∷ r) h = go (eqb b 10) refl h (λ k. up_ends r k)
  where
    go : (t : Bool) → eqb b 10 ≡ t → length {A = ℕ} (elim t [ true ↦ [] | false ↦ b ∷ up_to_end r ]) < suc (length r) → (length (up_to_end r) < length r → get_or r (length (up_to_end r)) 0 ≡ 10)
        → get_or (b ∷ r) (length {A = ℕ} (elim t [ true ↦ [] | false ↦ b ∷ up_to_end r ])) 0 ≡ 10
    go true q h f = eqb-true b 10 q
    go false q h f = f (omega arith)

-- k bytes with no line end among them are of the line
up_at_least : (l : List ℕ) (k : ℕ) → k ≤ length l → ((j : ℕ) → j < k → get_or l j 0 ≡ 10 → ⊥) → k ≤ length (up_to_end l)
unfolding up_to_end
up_at_least [] k h f = h
up_at_least (b ∷ r) zero h f = omega arith
up_at_least (b ∷ r) (suc k) h f = go (eqb b 10) refl (up_at_least r k (omega arith) (λ j l e. f (suc j) (omega arith) e))
  where
    go : (t : Bool) → eqb b 10 ≡ t → k ≤ length (up_to_end r) → suc k ≤ length {A = ℕ} (elim t [ true ↦ [] | false ↦ b ∷ up_to_end r ])
    go true q i = absurd (f 0 (omega arith) (eqb-true b 10 q))
    go false q i = omega arith

-- ---- the line around a place

module _ (text : List ℕ) (place : ℕ) where
  abbrev from : ℕ
  from = start_of text place

  abbrev rest : List ℕ
  rest = up_to_end (drop from text)

  ends_so : from + length rest < length text → get_or text (from + length rest) 0 ≡ 10
  ends_so h = sym (get_or-drop from text (length rest) 0) ∙ up_ends (drop from text) (rw (length-drop from text) (omega arith))

  reaches : place < length text → place ≤ from + length rest
  reaches h =
      let l = start_at_most text place in
      let q = up_at_least (drop from text) (place - from) (rw (length-drop from text) (omega arith)) (λ j k e. start_unbroken text place (from + j) (omega arith) (omega arith) (sym (get_or-drop from text j 0) ∙ e)) in
      omega arith

  -- of a part that is `line_from`'s line and begins where that does
  module _ (lies at : ℕ × ℕ) (r : List ℕ) (s : LineStands text lies (line_from 0 [] text place) r at) where
    is_inside : place < length text → IsLine text (line_from 0 [] text place).from r × ((line_from 0 [] text place).from ≤ place) × (place ≤ (line_from 0 [] text place).from + length r)
    unfolding found
    is_inside h =
        let e = line_inside text place h in
        let a : (line_from 0 [] text place).from ≡ from = ap (λ (l : Line). l.from) e in
        let b : r ≡ rest = s.bytes ∙ ap (λ (l : Line). l.bytes) e in
        rw (a, b) (
          record {
            stands = rw (a, b) at s.part;
            unbroken = up_unbroken (drop from text);
            starts = start_after_end text place;
            ends = ends_so;
          },
          start_at_most text place,
          reaches h,
        )

    is_outside : length text ≤ place → ((line_from 0 [] text place).from ≡ length text) × (r ≡ [])
    is_outside h = let e = line_outside text place h in (ap (λ (l : Line). l.from) e, s.bytes ∙ ap (λ (l : Line). l.bytes) e)

    is_line_at : IsLineAt text lies place r at
    is_line_at = record { from = (line_from 0 [] text place).from; block = s.block; begins = s.begins; inside = is_inside; outside = is_outside }

-- what `line` promises is the line around the place, of the text that the place names
pub line_around : (actor bindings : List ℕ) (a b : ℕ × ℕ) (which : Text) (place : ℕ) (r : List ℕ) (at : ℕ × ℕ)
    → LineStands (of_text actor bindings which) (of_text a b which) (line_at actor bindings which place) r at → IsLineAt (of_text actor bindings which) (of_text a b which) place r at
unfolding line_at of_text
line_around actor bindings a b InActor place r at s = is_line_at actor place a at r s
line_around actor bindings a b InBindings place r at s = is_line_at bindings place b at r s
