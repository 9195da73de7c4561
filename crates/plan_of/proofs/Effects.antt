-- What the assignments of a rule do to the outputs and to the writes that wait, and that the order of the writes does not matter.
use Prim.Native.Nat.{ℕ}
use mathlib.Core.Path.{◌≡◌, refl, sym, ap, ◌∙◌}
use mathlib.Core.List.{List, [], ◌∷◌, ◌++◌}
use mathlib.Core.Bool.{Bool, true, false, ◌||◌, true≢false}
use lib.ListN.{set}
use lib.Seq.{set_comm}
use lib.Dec.{eqb}
use borrow.Author.Tests.{eqb-true, eqb-false, eq-eqb, ne_eqb}
use Rattle.language.specs.Meaning.{Change, touched, twice, written}

-- ## Writes: the latest first, or the earliest

unfoldable pub backwards : {A : Type 0} → List A → List A → List A
backwards [] m = m
backwards (x ∷ l) m = backwards l (x ∷ m)

pub backwards_append : {A : Type 0} (l m r : List A) → backwards (l ++ m) r ≡ backwards m (backwards l r)
unfolding backwards
backwards_append [] m r = refl
backwards_append (x ∷ l) m r = backwards_append l m (x ∷ r)

eqb_sym : (a b : ℕ) → eqb a b ≡ eqb b a
eqb_sym a b = go (eqb a b) refl
  where
    go : (t : Bool) → eqb a b ≡ t → t ≡ eqb b a
    go true e = sym (eq-eqb b a (sym (eqb-true a b e)))
    go false e = sym (ne_eqb b a (λ q. eqb-false a b e (sym q)))

-- one of the first is to a cell of one of the second
meets : List (Change ℕ) → List (Change ℕ) → Bool
meets [] m = false
meets (c ∷ l) m = touched c.target m || meets l m

meets_nil : (l : List (Change ℕ)) → meets l [] ≡ false
unfolding meets touched
meets_nil [] = refl
meets_nil (c ∷ l) = meets_nil l

or_move : (a b c d : Bool) → (a || b) || (c || d) ≡ (a || c) || (b || d)
or_move true b c d = refl
or_move false true true d = refl
or_move false true false d = refl
or_move false false true d = refl
or_move false false false d = refl

meets_cons : (l : List (Change ℕ)) (c : Change ℕ) (m : List (Change ℕ)) → meets l (c ∷ m) ≡ touched c.target l || meets l m
unfolding meets touched
meets_cons [] c m = refl
meets_cons (x ∷ l) c m =
    rw (meets_cons l c m, eqb_sym x.target c.target) (or_move (eqb c.target x.target) (touched x.target m) (touched c.target l) (meets l m))

or_six : (a b c d e : Bool) → a || (b || c) || (d || e) ≡ (b || a) || (d || c) || e
or_six true true c d e = refl
or_six true false c d e = refl
or_six false true c d e = refl
or_six false false true true e = refl
or_six false false true false e = refl
or_six false false false true e = refl
or_six false false false false e = refl

twice_backwards_onto : (l m : List (Change ℕ)) → twice (backwards l m) ≡ twice l || meets l m || twice m
unfolding twice backwards meets
twice_backwards_onto [] m = refl
twice_backwards_onto (c ∷ l) m =
    twice_backwards_onto l (c ∷ m) ∙ rw (meets_cons l c m) (or_six (twice l) (touched c.target l) (meets l m) (touched c.target m) (twice m))

or_false : (a : Bool) → a || false ≡ a
or_false true = refl
or_false false = refl

pub twice_backwards : (l : List (Change ℕ)) → twice (backwards l []) ≡ twice l
unfolding twice
twice_backwards l = twice_backwards_onto l [] ∙ rw (meets_nil l, or_false (twice l), or_false (twice l))

pub or_both : (a b : Bool) → a || b ≡ false → (a ≡ false) × (b ≡ false)
or_both true b e = absurd (true≢false e)
or_both false b e = (refl, e)

pub written_set : (l : List (Change ℕ)) (m : List ℕ) (t v : ℕ) → touched t l ≡ false → written l (set m t v) ≡ set (written l m) t v
unfolding touched written
written_set [] m t v h = refl
written_set (c ∷ l) m t v h =
    let a = or_both (eqb t c.target) (touched t l) h in
    ap (written l) (set_comm m t c.target v c.to (eqb-false t c.target a.0)) ∙ written_set l (set m c.target c.to) t v a.1

written_backwards_onto : (l r : List (Change ℕ)) (m : List ℕ) → twice l ≡ false → written (backwards l r) m ≡ written r (written l m)
unfolding twice written backwards
written_backwards_onto [] r m h = refl
written_backwards_onto (c ∷ l) r m h =
    let a = or_both (touched c.target l) (twice l) h in
    written_backwards_onto l (c ∷ r) m a.1 ∙ ap (written r) (sym (written_set l m c.target c.to a.0))

pub written_backwards : (l : List (Change ℕ)) (m : List ℕ) → twice l ≡ false → written (backwards l []) m ≡ written l m
unfolding written
written_backwards l m h = written_backwards_onto l [] m h
