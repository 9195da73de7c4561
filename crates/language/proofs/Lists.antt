-- The three lists `many_p some_p commas_p`, in each of the four inductions, whatever they are lists of. Assumes nothing.
use mathlib.Core.Path.{◌≡◌, refl, ap, ◌∙◌}
use mathlib.Core.List.{List, [], ◌∷◌, ◌++◌, append_assoc, append-nil}
use mathlib.Core.Option.{Option, some}
use Prim.Native.Nat.{ℕ, zero, suc, ◌+◌, ◌*◌, ◌<◌}
use native.Mathlib.Omega.{arith}
use lib.ListN.{length}
use Rattle.language.specs.Words.{Word, fixed}
use Rattle.language.specs.Grammar.{Many, m_none, m_more, Some, s_some, Commas, c_one, c_more}
use Rattle.language.specs.Reader.{Res, ok, bind, on, is, many_p, some_p, commas_p}
use Rattle.language.proofs.Tests.{is_tells, is_passes}
use Rattle.language.proofs.Laws.{Misses, on_hit, on_miss, Good, g_ok, g_bad, g_dry, on_good, at_good, bind_good, last_good, done}
use Rattle.language.proofs.Laws.{Settled, s_ok, s_bad, on_settled, bind_settled, Agrees, a_ok, a_dry, bind_agrees, Never, nowhere, Pair, ok_pair, bad_pair, dry_pair, bind_pair, on_pair}

-- ---- lists whose items are known by their first word

module _ {A T : Type 0} (t : Word → Option A) (item : ℕ → A → List Word → Res T) where
  -- an item, and then what many-good has for the rest
  step_good : {D : List Word → T → Type 0} {E : List Word → List T → Type 0} → ((p q : List Word) (x : T) (l : List T) → D p x → Many D q l → E (p ++ q) (x ∷ l)) → {all : List Word} (f : ℕ) {r : Res T} → Good D all r
      → ((y : List Word) → Good (Many D) y (many_p t item f y)) → Good E all (bind r (λ x y. bind (many_p t item f y) (λ l z. ok (x ∷ l) z)))
  step_good make f h rest = bind_good (λ l. l) _ (λ l m. refl) refl h (λ p x d. ([], _, make p [] x [] d m_none))
      (λ p x y d e. last_good (λ l. p ++ l) (λ l. x ∷ l) ok (λ l m. simp append_assoc) e (rest y) (λ q l ds. make p q x l d ds) done)

  pub many_good : {D : List Word → T → Type 0} → ((f : ℕ) (x : Word) (a : A) (r : List Word) → t x ≡ some a → Good D (x ∷ r) (item f a r)) → (f : ℕ) (ws : List Word) → Good (Many D) ws (many_p t item f ws)
  unfolding many_p
  many_good good zero ws = g_dry
  many_good good (suc f) ws = on_good t ws _ _ (λ x a r i e. rw e (step_good (λ p q x l d ds. m_more d ds) f (good f x a r i) (λ y. many_good good f y))) (g_ok [] refl m_none)

  -- where there is none, `c` would be one
  pub some_good : {D : List Word → T → Type 0} → ((f : ℕ) (x : Word) (a : A) (r : List Word) → t x ≡ some a → Good D (x ∷ r) (item f a r)) → (c : List Word) (l : List T) → Some D c l
      → (f : ℕ) (ws : List Word) → Good (Some D) ws (some_p t item f ws)
  unfolding some_p
  some_good good c l d f ws = on_good t ws _ _ (λ x a r i e. rw e (step_good (λ p q x l d ds. s_some d ds) f (good f x a r i) (λ y. many_good good f y))) (g_bad [] c l refl d)

  pub many_settled : ((f : ℕ) (a : A) (r : List Word) → 16 * length r + 6 < f → Settled (suc (length r)) (item f a r)) → (f : ℕ) (ws : List Word) → 16 * length ws + 5 < f → Settled (suc (length ws)) (many_p t item f ws)
  unfolding many_p
  many_settled settled zero ws h = absurd (omega arith)
  many_settled settled (suc f) ws h = on_settled t ws _ _
      (λ a r e. bind_settled _ (settled f a r (omega arith)) (λ x y i. bind_settled _ (many_settled settled f y (omega arith)) (λ l z j. s_ok z (omega arith)))) (s_ok ws (omega arith))

  pub some_settled : ((f : ℕ) (a : A) (r : List Word) → 16 * length r + 6 < f → Settled (suc (length r)) (item f a r)) → (f : ℕ) (ws : List Word) → 16 * length ws < f → Settled (length ws) (some_p t item f ws)
  unfolding some_p
  some_settled settled f ws h = on_settled t ws _ _
      (λ a r e. bind_settled _ (settled f a r (omega arith)) (λ x y i. bind_settled _ (many_settled settled f y (omega arith)) (λ l z j. s_ok z (omega arith)))) s_bad

  -- words that begin with one that passes the test, and are read as x from there
  pub record Opens (ws : List Word) (x : T) : Type 0 where
    pub first : Word
    pub next : List Word
    pub seen : A
    pub begins : ws ≡ first ∷ next
    pub passes : t first ≡ some seen
    pub reads : (f : ℕ) (rest : List Word) → Agrees x rest (item f seen (next ++ rest))

  step_agrees : (a b : List Word) (x : T) (l : List T) (f : ℕ) (rest : List Word) (d : List Word → Res (List T)) → Opens a x → Agrees l rest (many_p t item f (b ++ rest))
      → Agrees (x ∷ l) rest (on t ((a ++ b) ++ rest) (λ a r. bind (item f a r) (λ x y. bind (many_p t item f y) (λ l z. ok (x ∷ l) z))) d)
  step_agrees a b x l f rest d o h = rw (append_assoc a b rest, o.begins, on_hit t _ _ o.first (o.next ++ (b ++ rest)) o.seen o.passes)
      (bind_agrees _ (o.reads f (b ++ rest)) (bind_agrees _ h a_ok))

  pub many_complete : {D : List Word → T → Type 0} → ((ws : List Word) (x : T) → D ws x → Opens ws x) → {ws : List Word} {l : List T} → Many D ws l → (f : ℕ) (rest : List Word) → Misses t rest → Agrees l rest (many_p t item f (ws ++ rest))
  unfolding many_p
  many_complete opens m_none zero rest e = a_dry
  many_complete opens m_none (suc f) rest e = rw (on_miss t _ _ rest e) a_ok
  many_complete opens (m_more d ds) zero rest e = a_dry
  many_complete opens (m_more {a = a} {b = b} {x = x} {l = l} d ds) (suc f) rest e = step_agrees a b x l f rest _ (opens a x d) (many_complete opens ds f rest e)

  pub some_complete : {D : List Word → T → Type 0} → ((ws : List Word) (x : T) → D ws x → Opens ws x) → {ws : List Word} {l : List T} → Some D ws l → (f : ℕ) (rest : List Word) → Misses t rest → Agrees l rest (some_p t item f (ws ++ rest))
  unfolding some_p
  some_complete opens (s_some {a = a} {b = b} {x = x} {l = l} d ds) f rest e = step_agrees a b x l f rest _ (opens a x d) (many_complete opens ds f rest e)

  module _ {w : Word} {r c : List Word} (pair : (f : ℕ) (a : A) (s s' : List Word) → Pair Never w r c s s' (item f a s) (item f a s')) where
    pub many_pair : (f : ℕ) (ws ws' : List Word) → Pair Never w r c ws ws' (many_p t item f ws) (many_p t item f ws')
    unfolding many_p
    many_pair zero ws ws' = dry_pair
    many_pair (suc f) ws ws' = on_pair t _ _ ws ws' (λ a s s'. bind_pair _ nowhere (pair f a s s') (λ x s s'. bind_pair _ nowhere (many_pair f s s') (λ l s s'. ok_pair _))) (ok_pair [])

    pub some_pair : (f : ℕ) (ws ws' : List Word) → Pair Never w r c ws ws' (some_p t item f ws) (some_p t item f ws')
    unfolding some_p
    some_pair f ws ws' = on_pair t _ _ ws ws' (λ a s s'. bind_pair _ nowhere (pair f a s s') (λ x s s'. bind_pair _ nowhere (many_pair f s s') (λ l s s'. ok_pair _))) bad_pair

-- ---- lists with commas

module _ {T : Type 0} (item : ℕ → List Word → Res T) where
  pub commas_good : {D : List Word → T → Type 0} → ((f : ℕ) (ws : List Word) → Good D ws (item f ws)) → (f : ℕ) (ws : List Word) → Good (Commas D) ws (commas_p item f ws)
  unfolding commas_p
  commas_good good zero ws = g_dry
  commas_good good (suc f) ws = bind_good (λ l. l) _ (λ l m. refl) refl (good f ws) (λ p x d. ([], x ∷ [], c_one (rw append-nil d)))
      (λ p x y d e. at_good (is_tells ",") y _ _
      (λ q r i. last_good (λ l. p ++ (fixed "," q ∷ l)) (λ l. x ∷ l) ok (λ l m. simp append_assoc) (e ∙ ap (λ (l : List Word). p ++ l) i) (commas_good good f r) (λ k l ds. c_more q d ds) done)
      (g_ok p e (c_one d)))

  pub commas_settled : ((f : ℕ) (ws : List Word) → 16 * length ws + 5 < f → Settled (length ws) (item f ws)) → (f : ℕ) (ws : List Word) → 16 * length ws + 6 < f → Settled (length ws) (commas_p item f ws)
  unfolding commas_p
  commas_settled settled zero ws h = absurd (omega arith)
  commas_settled settled (suc f) ws h = bind_settled _ (settled f ws (omega arith)) (λ x y i. on_settled (is ",") y _ _
      (λ p r e. bind_settled _ (commas_settled settled f r (omega arith)) (λ l z j. s_ok z (omega arith))) (s_ok y (omega arith)))

  pub commas_complete : {D : List Word → T → Type 0} → ((ws : List Word) (x : T) → D ws x → (f : ℕ) (rest : List Word) → Agrees x rest (item f (ws ++ rest))) → {ws : List Word} {l : List T} → Commas D ws l
      → (f : ℕ) (rest : List Word) → Misses (is ",") rest → Agrees l rest (commas_p item f (ws ++ rest))
  unfolding commas_p
  commas_complete reads (c_one d) zero rest e = a_dry
  commas_complete reads (c_one d) (suc f) rest e = bind_agrees _ (reads _ _ d f rest) (rw (on_miss (is ",") _ _ rest e) a_ok)
  commas_complete reads (c_more p d ds) zero rest e = a_dry
  commas_complete reads (c_more {a = a} {b = b} p d ds) (suc f) rest e = simp append_assoc
      (bind_agrees _ (reads _ _ d f _) (rw (on_hit (is ",") _ _ (fixed "," p) (b ++ rest) p (is_passes "," p)) (bind_agrees _ (commas_complete reads ds f rest e) a_ok)))

  pub commas_pair : {w : Word} {r c : List Word} → ((f : ℕ) (s s' : List Word) → Pair Never w r c s s' (item f s) (item f s')) → (f : ℕ) (ws ws' : List Word) → Pair Never w r c ws ws' (commas_p item f ws) (commas_p item f ws')
  unfolding commas_p
  commas_pair pair zero ws ws' = dry_pair
  commas_pair pair (suc f) ws ws' = bind_pair _ nowhere (pair f ws ws') (λ x s s'. on_pair (is ",") _ _ s s' (λ p s s'. bind_pair _ nowhere (commas_pair pair f s s') (λ l s s'. ok_pair _)) (ok_pair _))
