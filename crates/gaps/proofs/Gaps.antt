-- Laws of blanks, comments and separators, each at a place of a text. Assumes nothing.
use mathlib.Core.Path.{◌≡◌, refl, sym, ap, ◌∙◌}
use mathlib.Core.Bool.{true, false}
use mathlib.Core.List.{List, [], ◌∷◌}
use Prim.Native.Nat.{ℕ, zero, suc, ◌+◌, ◌-◌, ◌≤◌, ◌<◌}
use native.Mathlib.Omega.{arith}
use native.Mathlib.Numerals.{add-one}
use lib.ListN.{length, drop, get_or, drop_of_length-le, length-drop}
use lib.Seq.{drop-cons, drop-drop}
use Rattle.language.specs.Words.{bytes, begins, span, blank, close, gap, after_gaps}
use Rattle.spans.specs.Spans.{test_of}
use Rattle.spans.specs.declared.Class.TheVariants.{Line}

-- ---- the end of a comment

unfoldable pub raised : ℕ → ℕ → ℕ
raised k zero = zero
raised k (suc n) = k + suc n

pub raised_none : (n : ℕ) → raised 0 n ≡ n
unfolding raised
raised_none zero = refl
raised_none (suc n) = omega arith

raised_more : (k n : ℕ) → raised k (raised 1 n) ≡ raised (k + 1) n
unfolding raised
raised_more k zero = refl
raised_more k (suc n) = rw one_more (omega arith)
  where
    one_more : 1 + suc n ≡ suc (suc n)
    one_more = omega arith

pub raised_zero : (k : ℕ) → raised k 0 ≡ 0
unfolding raised
raised_zero k = refl

pub raised_some : (k n : ℕ) → 0 < n → raised k n ≡ k + n
unfolding raised
raised_some k zero h = absurd (let z : ◌≡◌ {A = ℕ} 0 1 = omega arith in omega arith)
raised_some k (suc n) h = refl

raised_is : (n : ℕ) → elim n as (λ (x : ℕ). ℕ) [ zero ↦ 0 | suc m ↦ suc (suc m) ] ≡ raised 1 n
unfolding raised
raised_is zero = refl
raised_is (suc n) = omega arith

raised_two : (n : ℕ) → elim n as (λ (x : ℕ). ℕ) [ zero ↦ 0 | suc m ↦ 2 + suc m ] ≡ raised 2 n
unfolding raised
raised_two zero = refl
raised_two (suc n) = refl

module _ (text : List ℕ) (i : ℕ) where
  pub close_over : length text ≤ i → close (drop i text) ≡ 0
  unfolding close
  close_over h = rw (drop_of_length-le text h)

  module _ (h : i < length text) where
    pub close_here : begins (42 ∷ 47 ∷ []) (drop i text) ≡ true → close (drop i text) ≡ 2
    unfolding close bytes
    close_here e = rw (drop-cons text i 0 h) (simp (close, rw (drop-cons text i 0 h) at e))

    close_later : begins (42 ∷ 47 ∷ []) (drop i text) ≡ false → close (drop i text) ≡ raised 1 (close (drop (suc i) text))
    unfolding close bytes
    close_later e = rw (drop-cons text i 0 h) (simp (close, rw (drop-cons text i 0 h) at e) (raised_is (close (drop (suc i) text))))

    pub close_next : (k w : ℕ) → begins (42 ∷ 47 ∷ []) (drop i text) ≡ false → w ≡ raised k (close (drop i text)) → w ≡ raised (k + 1) (close (drop (i + 1) text))
    close_next k w e f = f ∙ ap (raised k) (close_later e) ∙ raised_more k (close (drop (suc i) text)) ∙ rw (add-one i)

-- ---- separators

module _ (text : List ℕ) (at : ℕ) where
  pub gap_over : length text ≤ at → gap (drop at text) ≡ 0
  unfolding gap
  gap_over h = rw (drop_of_length-le text h)

  module _ (h : at < length text) where
    pub gap_blank : blank (get_or text at 0) ≡ true → gap (drop at text) ≡ 1
    unfolding gap
    gap_blank e = rw (drop-cons text at 0 h) (simp (gap, e))

    module _ (e : blank (get_or text at 0) ≡ false) where
      pub gap_line : begins (47 ∷ 47 ∷ []) (drop at text) ≡ true → gap (drop at text) ≡ length (span (test_of Line) (drop at text))
      unfolding gap bytes test_of
      gap_line f = rw (drop-cons text at 0 h) (simp (gap, e, rw (drop-cons text at 0 h) at f))

      module _ (f : begins (47 ∷ 47 ∷ []) (drop at text) ≡ false) where
        pub gap_none : begins (47 ∷ 42 ∷ []) (drop at text) ≡ false → gap (drop at text) ≡ 0
        unfolding gap bytes
        gap_none g = rw (drop-cons text at 0 h) (simp (gap, e, rw (drop-cons text at 0 h) at f, rw (drop-cons text at 0 h) at g))

        pub gap_comment : begins (47 ∷ 42 ∷ []) (drop at text) ≡ true → gap (drop at text) ≡ raised 2 (close (drop (at + 2) text))
        unfolding gap bytes
        gap_comment g = rw (drop-cons text at 0 h) (simp (gap, e, rw (drop-cons text at 0 h) at f, rw (drop-cons text at 0 h) at g, drop-drop) (let q : suc at + 1 ≡ at + 2 = omega arith in rw q (raised_two (close (drop (at + 2) text)))))

-- ---- separators one after the other

-- i is a place on the way: what comes after all separators is the same from there
pub record Passing (text : List ℕ) (at i : ℕ) : Type 0 where
  pub fuel : ℕ
  pub enough : length text ≤ fuel + i
  pub goes : after_gaps (length (drop at text)) (drop at text) ≡ after_gaps fuel (drop i text)

pub passing_start : (text : List ℕ) (at : ℕ) → Passing text at at
passing_start text at = record { fuel = length (drop at text); enough = omega (arith, length-drop at text); goes = refl }

after_zero : (f : ℕ) (bs : List ℕ) → gap bs ≡ 0 → after_gaps f bs ≡ bs
unfolding after_gaps
after_zero zero bs e = refl
after_zero (suc f) bs e = simp (after_gaps, e)

after_some : (f n : ℕ) (bs : List ℕ) → gap bs ≡ suc n → after_gaps (suc f) bs ≡ after_gaps f (drop (suc n) bs)
unfolding after_gaps
after_some f n bs e = simp (after_gaps, e)

pub passing_done : (text : List ℕ) (at i : ℕ) → Passing text at i → gap (drop i text) ≡ 0 → after_gaps (length (drop at text)) (drop at text) ≡ drop i text
passing_done text at i w e = w.goes ∙ after_zero w.fuel (drop i text) e

pub passing_next : (text : List ℕ) (at i n : ℕ) → Passing text at i → n ≡ gap (drop i text) → 0 < n → i + n ≤ length text → Passing text at (i + n)
passing_next text at i n w e h k =
    let f : w.fuel ≡ suc (w.fuel - 1) = omega (arith, w.enough) in
    let m : n ≡ suc (n - 1) = omega arith in
    record {
      fuel = w.fuel - 1;
      enough = omega (arith, w.enough);
      goes = w.goes ∙ ap (λ (x : ℕ). after_gaps x (drop i text)) f ∙ after_some (w.fuel - 1) (n - 1) (drop i text) (sym e ∙ m) ∙ ap (after_gaps (w.fuel - 1)) (ap (λ (x : ℕ). drop x (drop i text)) (sym m) ∙ drop-drop n i text);
    }

-- ---- what the functions use

pub ruleset close_laws = (close_over, close_here, raised_zero, raised_some)

pub ruleset gap_laws = (gap_over, gap_blank, gap_line, gap_none, gap_comment, raised_zero, raised_some)

pub ruleset passing_laws = (passing_start, passing_next, passing_done)
