-- From the four inductions to the theorem: no grammar here. Assumes nothing.
use mathlib.Core.Path.{◌≡◌, refl, sym, ap, ◌∙◌}
use mathlib.Core.List.{List, [], ◌∷◌, ◌++◌, append-nil}
use Prim.Native.Nat.{ℕ, ◌-◌}
use native.Mathlib.Omega.{arith}
use lib.ListN.{length, take, drop, length-append}
use lib.Seq.{take_at, drop_at}
use Rattle.language.specs.Words.{Word}
use Rattle.language.specs.Reader.{Res, ok, bad, dry, Verdict, tree, fault, tired, whole}
use Rattle.language.specs.Statement.{FirstFault, Correct}
use Rattle.language.proofs.Tests.{never}
use Rattle.language.proofs.Laws.{Good, g_ok, g_bad, g_dry, Agrees, a_ok, a_dry, agrees_bad, Settled, s_ok, s_bad, h_ok, h_bad, h_dry, Swap, here, there, Like, l_ok, l_bad, l_past, l_stop, Pair}

swap_cons : {w : Word} {r c s s' : List Word} → Swap w r c s s' → (x : Word) × (l : List Word) × (s' ≡ x ∷ l)
swap_cons {w} {c = c} here = (w, c, refl)
swap_cons (there x {s' = s'} i) = (x, s', refl)

swap_of : (w : Word) (r c p : List Word) → Swap w r c (p ++ (w ∷ r)) (p ++ (w ∷ c))
swap_of w r c [] = here
swap_of w r c (x ∷ p) = there x (swap_of w r c p)

cut : (p rest : List Word) (i : ℕ) → i ≡ length p → (take i (p ++ rest) ≡ p) × (drop i (p ++ rest) ≡ rest)
cut p rest i h = (take_at p rest i (sym h), drop_at p rest i (sym h))

module _ {T : Type 0} where
  left : Res T → List Word
  left (ok t s) = s
  left (bad s) = s
  left dry = []

  sound_of_law : {D : List Word → T → Type 0} (ws : List Word) (n : ℕ) (t : T) {r : Res T} → Good D ws r → whole n r ≡ tree t → D ws t
  unfolding whole
  sound_of_law ws n t (g_ok p {t = u} {rest = []} e d) h = let q : u ≡ t = cc in rw (e, append-nil p, ← q) d
  sound_of_law ws n t (g_ok p {t = u} {rest = x ∷ r} e d) h = absurd (never (cc))
  sound_of_law ws n t (g_bad p c u e d) h = absurd (never (cc))
  sound_of_law ws n t g_dry h = absurd (never (cc))

  complete_of : (n : ℕ) (t : T) {r : Res T} {m : ℕ} → Agrees t [] r → Settled m r → whole n r ≡ tree t
  unfolding whole
  complete_of n t a_ok s = refl
  complete_of n t {m = m} a_dry s = elim s [ ]

  settled_of_law : (n : ℕ) {r : Res T} {m : ℕ} → Settled m r → ¬ (whole n r ≡ tired)
  unfolding whole
  settled_of_law n (s_ok [] h) e = never (cc)
  settled_of_law n (s_ok (x ∷ r) h) e = never (cc)
  settled_of_law n s_bad e = never (cc)

  agrees_ok : {t u : T} {x s : List Word} {r : Res T} → Agrees t x r → r ≡ ok u s → s ≡ x
  agrees_ok a_ok e = cc
  agrees_ok a_dry e = absurd (never (cc))

  clash : {M : List Word → Type 0} {w : Word} {r c : List Word} {x y : Res T} {t : T} → ((s : List Word) → M s → ⊥) → Like M w r c x y → left x ≡ w ∷ r → Agrees t [] y → ⊥
  unfolding left
  clash no' (l_ok i) e a = let (z, l, q) = swap_cons i in let o = agrees_ok a refl in never (cc)
  clash no' (l_bad i) e a = agrees_bad a refl
  clash no' (l_past (h_ok s h)) e a = omega (arith, ap length e)
  clash no' (l_past (h_bad s h)) e a = omega (arith, ap length e)
  clash no' (l_past h_dry) e a = never (cc)
  clash no' (l_stop s i) e a = no' s i

  same_index : (i n : ℕ) → ◌≡◌ {A = Verdict T} (fault n) (fault i) → i ≡ n
  same_index i n e = cc

-- D the grammar, run the parser with its fuel, M the rests at which it may stop for what lies past a word
module _ {T : Type 0} (D : List Word → T → Type 0) (run : ℕ → List Word → Res T) (fuel : List Word → ℕ) (M : List Word → List Word → Type 0)
    (good : (f : ℕ) (ws : List Word) → Good D ws (run f ws))
    (agrees : (ws : List Word) (t : T) → D ws t → (f : ℕ) → Agrees t [] (run f (ws ++ [])))
    (bound : List Word → ℕ) (settled : (ws : List Word) → Settled (bound ws) (run (fuel ws) ws))
    (alike : (w : Word) (r c : List Word) (f : ℕ) (ws ws' : List Word) → Pair (M r) w r c ws ws' (run f ws) (run f ws')) (none : (r s : List Word) → M r s → ⊥)
    (read : List Word → Verdict T) (reads : (ws : List Word) → whole (length ws) (run (fuel ws) ws) ≡ read ws) where
  complete_read : (ws : List Word) (t : T) → D ws t → read ws ≡ tree t
  complete_read ws t d = sym (reads ws) ∙ complete_of (length ws) t (rw append-nil at (agrees ws t d (fuel ws))) (settled ws)

  module _ (p rest : List Word) (f : ℕ) (at : left (run f (p ++ rest)) ≡ rest) where
    dead : (w : Word) (r c : List Word) (t : T) → rest ≡ w ∷ r → ¬ D (p ++ (w ∷ c)) t
    dead w r c t e d = clash (none r) ((alike w r c f (p ++ (w ∷ r)) (p ++ (w ∷ c))).like (swap_of w r c p)) (rw e at at) (rw append-nil at (agrees _ t d f))

    first : (c : List Word) (u : T) (i : ℕ) → D (p ++ c) u → i ≡ length (p ++ rest) - length rest → read (p ++ rest) ≡ fault i → FirstFault D (p ++ rest) i
    first c u i d h q = let k = cut p rest i (omega (arith, length-append p rest)) in
        record {
          bounded = omega (arith, length-append p rest);
          rest = c;
          read = u;
          finished = rw k.0 d;
          none = λ w r c t e d. dead w r c t (sym k.1 ∙ e) (rw k.0 at d);
          early = λ t e d. never (let j = complete_read (p ++ rest) t (rw (sym k.1 ∙ e, append-nil p) (rw k.0 at d)) in cc);
        }

  fault_of : (ws : List Word) (i f : ℕ) {x : Res T} → x ≡ run f ws → whole (length ws) x ≡ read ws → Good D ws x → read ws ≡ fault i → FirstFault D ws i
  unfolding whole left
  fault_of ws i f q h (g_ok p {t = u} {rest = []} e d) k = absurd (never (cc))
  fault_of ws i f q h (g_ok p {t = u} {rest = x ∷ r} e d) k = rw e (first p (x ∷ r) f (ap left (rw e at (sym q))) [] u i (rw append-nil d) (same_index _ _ (rw e at (h ∙ k))) (rw e at k))
  fault_of ws i f q h (g_bad p c t {rest = r} e d) k = rw e (first p r f (ap left (rw e at (sym q))) c t i d (same_index _ _ (rw e at (h ∙ k))) (rw e at k))
  fault_of ws i f q h g_dry k = absurd (never (cc))

  pub correct_of : Correct D read
  correct_of = record {
    sound = λ ws t e. sound_of_law ws (length ws) t (good (fuel ws) ws) (reads ws ∙ e);
    complete = complete_read;
    first_fault = λ ws i e. fault_of ws i (fuel ws) refl (reads ws) (good (fuel ws) ws) e;
    answers = λ ws e. settled_of_law (length ws) (settled ws) (reads ws ∙ e);
    unambiguous = λ ws t u d d'. let a = complete_read ws t d in let b = complete_read ws u d' in cc;
  }
