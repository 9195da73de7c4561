-- The words of the marked table as the readers of lists see them: what a test of a word says by the word's kind. Assumes nothing.
use mathlib.Core.Path.{◌≡◌, refl, sym, ap, subst, ◌∙◌}
use mathlib.Core.Bool.{Bool, true, false, not, ◌&&◌, ◌||◌}
use mathlib.Core.List.{List, [], ◌∷◌}
use mathlib.Core.Option.{Option, none, some}
use Prim.Native.Nat.{ℕ, zero, suc, ◌+◌, ◌*◌, ◌≤◌, ◌<◌}
use Prim.Native.String.{String}
use native.Mathlib.Omega.{arith}
use lib.Dec.{eqb, ltb, T}
use lib.ListN.{length, get_or, drop, get_or-eq_default, drop_of_length-le}
use lib.Text.{eqt}
use borrow.Author.Tests.{eq-eqb, ne_eqb, eqb-true, eqb-false, lt-ltb, le-ltb, ltb-true, ltb-false}
use Rattle.language.specs.Text.{Name, same}
use Rattle.language.specs.Words.{Word, name, bytes}
use Rattle.language.specs.Reader.{Res, bad, on, is, is_num, is_name, is_digits, is_the, expect, until}
use Rattle.signs.specs.Kinds.{spelled_words}
use Rattle.words.specs.Table.{word_of, word_at}
use Rattle.readers.specs.Marks.{count, kind_at, place_at, long_at, value_at, name_at, spelled_at, Marked, fixed_of, the_type, is_type, the_p, is_p}
use Rattle.std.specs.Prelude.{Ok, Err}
use Rattle.readers.specs.Meets.{Out, On, Agrees, fault, Finds, Lacks}
use Rattle.readers.proofs.Laws.{bind_ok, bind_err}
use Rattle.readers.specs.declared.Misfit.{Misfit}

-- ---- a test of every kind that antt computes

unfoldable pub check : ℕ → (ℕ → Bool) → Bool
check zero t = true
check (suc n) t = t n && check n t

and_left : (a b : Bool) → (a && b) ≡ true → a ≡ true
and_left true b e = refl
and_left false b e = e

and_right : (a b : Bool) → (a && b) ≡ true → b ≡ true
and_right true b e = e
and_right false b e = absurd (no e)
  where
    no : false ≡ true → ⊥
    no e = subst T (sym e) tt

pub checked : (n : ℕ) (t : ℕ → Bool) → check n t ≡ true → (k : ℕ) → k < n → t k ≡ true
unfolding check
checked zero t e k h = absurd (omega arith)
checked (suc n) t e k h = go (eqb k n) refl (checked n t (and_right (t n) _ e) k)
  where
    below : (k ≡ n → ⊥) → k < n
    below q = omega arith

    go : (b : Bool) → eqb k n ≡ b → (k < n → t k ≡ true) → t k ≡ true
    go true q r = ap t (eqb-true k n q) ∙ and_left (t n) _ e
    go false q r = r (below (eqb-false k n q))

-- ---- a fixed word by its kind

unfoldable pub agree : Bool → Bool → Bool
agree true b = b
agree false b = not b

pub agree_eq : (a b : Bool) → agree a b ≡ true → a ≡ b
unfolding agree
agree_eq true true e = refl
agree_eq true false e = sym e
agree_eq false true e = e
agree_eq false false e = refl

pub fixed_past : (k : ℕ) → 65 ≤ k → fixed_of k ≡ ""
unfolding fixed_of spelled_words
fixed_past zero h = refl
fixed_past (suc zero) h = refl
fixed_past (suc (suc zero)) h = refl
fixed_past (suc (suc (suc zero))) h = refl
fixed_past (suc (suc (suc (suc k)))) h = get_or-eq_default spelled_words "" (past k h)
  where
    past : (k : ℕ) → 65 ≤ suc (suc (suc (suc k))) → 61 ≤ k
    past k h = omega arith

-- the fixed word s has the kind j, and no other has
pub record Spells (s : String) (j : ℕ) : Type 0 where
  pub some : eqt s "" ≡ false
  pub is : (k : ℕ) → eqt s (fixed_of k) ≡ eqb k j
  pub kind : 1 ≤ j

pub spells : (s : String) (j : ℕ) → 1 ≤ j → j < 65 → eqt s "" ≡ false → check 65 (λ (k : ℕ). agree (eqt s (fixed_of k)) (eqb k j)) ≡ true → Spells s j
spells s j h₁ h e c = record { some = e; kind = h₁; is = λ k. go k (ltb k 65) refl }
  where
    go : (k : ℕ) (b : Bool) → ltb k 65 ≡ b → eqt s (fixed_of k) ≡ eqb k j
    go k true q = agree_eq _ _ (checked 65 _ c k (ltb-true k 65 q))
    go k false q = ap (eqt s) (fixed_past k (ltb-false k 65 q)) ∙ e ∙ sym (ne_eqb k j (other k (ltb-false k 65 q)))
      where
        other : (k : ℕ) → 65 ≤ k → k ≡ j → ⊥
        other k g q = omega arith

abbrev pub one_or : {A : Type 0} → Bool → A → Option A
one_or true a = some a
one_or false a = none

module _ (text : List ℕ) (p l v : ℕ) where
  pick : (a b : Bool) → a ≡ b → elim a [ true ↦ some p | false ↦ none ] ≡ one_or b p
  pick true true e = refl
  pick false false e = refl
  pick true false e = ap (λ (b : Bool). one_or b p) e
  pick false true e = ap (λ (b : Bool). one_or b p) e

  pub is_as : (s : String) (j k : ℕ) → Spells s j → is s (word_of text k p l v) ≡ one_or (eqb k j) p
  unfolding is word_of fixed_of
  is_as s j zero h = pick (eqt s "") _ (h.is 0)
  is_as s j (suc zero) h = rw (sym (h.is 1) ∙ h.some) refl
  is_as s j (suc (suc zero)) h = rw (sym (h.is 2) ∙ h.some) refl
  is_as s j (suc (suc (suc zero))) h = rw (sym (h.is 3) ∙ h.some) refl
  is_as s j (suc (suc (suc (suc k)))) h = pick (eqt s (get_or spelled_words k "")) _ (h.is (suc (suc (suc (suc k)))))

  pub is_miss : (s : String) (j k : ℕ) → Spells s j → (k ≡ j → ⊥) → is s (word_of text k p l v) ≡ none
  is_miss s j k h q = is_as s j k h ∙ ap (λ (b : Bool). one_or b p) (ne_eqb k j q)

  pub num_miss : (k : ℕ) → (k ≡ 1 → ⊥) → is_num (word_of text k p l v) ≡ none
  unfolding is_num word_of
  num_miss zero h = refl
  num_miss (suc zero) h = absurd (h refl)
  num_miss (suc (suc zero)) h = refl
  num_miss (suc (suc (suc zero))) h = refl
  num_miss (suc (suc (suc (suc k)))) h = refl

  pub name_miss : (k : ℕ) → (k ≡ 2 → ⊥) → is_name (word_of text k p l v) ≡ none
  unfolding is_name word_of
  name_miss zero h = refl
  name_miss (suc zero) h = refl
  name_miss (suc (suc zero)) h = absurd (h refl)
  name_miss (suc (suc (suc zero))) h = refl
  name_miss (suc (suc (suc (suc k)))) h = refl

  pub digits_miss : (k : ℕ) → (k ≡ 3 → ⊥) → is_digits (word_of text k p l v) ≡ none
  unfolding is_digits word_of
  digits_miss zero h = refl
  digits_miss (suc zero) h = refl
  digits_miss (suc (suc zero)) h = refl
  digits_miss (suc (suc (suc zero))) h = absurd (h refl)
  digits_miss (suc (suc (suc (suc k)))) h = refl

-- ---- the words at an index

pub kind_inside : (w : List ℕ) (x k : ℕ) → 1 ≤ k → kind_at w x ≡ k → x < count w
unfolding kind_at
kind_inside w x k h e = go (ltb x (count w)) refl
  where
    go : (b : Bool) → ltb x (count w) ≡ b → x < count w
    go true q = ltb-true _ _ q
    go false q = absurd (none_there (sym e ∙ simp (kind_at, q)))
      where
        none_there : k ≡ 0 → ⊥
        none_there z = omega arith

pub kind_is : (w : List ℕ) (x : ℕ) → x < count w → kind_at w x ≡ get_or w (4 * x) 0
unfolding kind_at
kind_is w x h = simp (kind_at, lt-ltb _ _ h)

pub kind_past : (w : List ℕ) (x : ℕ) → count w ≤ x → kind_at w x ≡ 0
unfolding kind_at
kind_past w x h = simp (kind_at, le-ltb _ _ h)

module _ {text : List ℕ} {ms : List (List ℕ)} {w : List ℕ} {ws : List Word} (M : Marked text ms w ws) where
  -- the word of a kind that is known
  pub word : (x k : ℕ) → 1 ≤ k → kind_at w x ≡ k → drop x ws ≡ word_of text k (place_at w x) (long_at w x) (value_at w x) ∷ drop (x + 1) ws
  unfolding word_at
  word x k h e = let i = kind_inside w x k h e in
      M.word x i ∙ ap (λ (k : ℕ). word_of text k (place_at w x) (long_at w x) (value_at w x) ∷ drop (x + 1) ws) (sym (kind_is w x i) ∙ e)

  pub past : (x : ℕ) → count w ≤ x → drop x ws ≡ []
  past x h = drop_of_length-le ws (short M.many)
    where
      short : length ws ≡ count w → length ws ≤ x
      short q = omega arith

  -- a test that fails at the word, or at the end
  pub on_miss : {A S : Type 0} (test : Word → Option A) (g : A → List Word → Res S) (d : List Word → Res S) (x : ℕ)
      → ((p l v : ℕ) → test (word_of text (kind_at w x) p l v) ≡ none) → on test (drop x ws) g d ≡ d (drop x ws)
  unfolding on word_at
  on_miss test g d x h = go (ltb x (count w)) refl
    where
      at_word : {y : Word} {r : List Word} → test y ≡ none → on test (y ∷ r) g d ≡ d (y ∷ r)
      at_word q = simp (on, q)

      go : (b : Bool) → ltb x (count w) ≡ b → on test (drop x ws) g d ≡ d (drop x ws)
      go true q = let i = ltb-true _ _ q in
          rw (M.word x i) (at_word (ap (λ (k : ℕ). test (word_of text k (place_at w x) (long_at w x) (value_at w x))) (sym (kind_is w x i)) ∙ h _ _ _))
      go false q = rw (past x (ltb-false _ _ q)) refl

  module _ {S : Type 0} (s : String) (j : ℕ) (x : ℕ) (sp : Spells s j) where
    pub on_is : (g : ℕ → List Word → Res S) (d : List Word → Res S) → kind_at w x ≡ j → on (is s) (drop x ws) g d ≡ g (place_at w x) (drop (x + 1) ws)
    unfolding on
    on_is g d e = ap (λ (l : List Word). on (is s) l g d) (word x j sp.kind e) ∙ hit
      where
        hit : on (is s) (word_of text j (place_at w x) (long_at w x) (value_at w x) ∷ drop (x + 1) ws) g d ≡ g (place_at w x) (drop (x + 1) ws)
        hit = simp (on, is_as text (place_at w x) (long_at w x) (value_at w x) s j j sp, eq-eqb j j refl)

    pub off_is : (g : ℕ → List Word → Res S) (d : List Word → Res S) → (kind_at w x ≡ j → ⊥) → on (is s) (drop x ws) g d ≡ d (drop x ws)
    off_is g d e = on_miss (is s) g d x (λ p l v. is_miss text p l v s j _ sp e)

    pub expect_at : (y : ℕ) (g : ℕ → List Word → Res S) → kind_at w x ≡ j → y ≡ x + 1 → expect s (drop x ws) g ≡ g (place_at w x) (drop y ws)
    unfolding expect
    expect_at y g e q = on_is g (λ ws. bad ws) e ∙ ap (λ (y : ℕ). g (place_at w x) (drop y ws)) (sym q)

    pub expect_bad : (g : ℕ → List Word → Res S) → (kind_at w x ≡ j → ⊥) → expect s (drop x ws) g ≡ bad (drop x ws)
    unfolding expect
    expect_bad g e = off_is g (λ ws. bad ws) e

-- ---- the names `type` and `p`: a name that is spelled so has the value a or b

abbrev spelled_as : ℕ → ℕ → List ℕ → ℕ → Bool
spelled_as a b w x = eqb (kind_at w x) 2 && (eqb (value_at w x) a || eqb (value_at w x) b)

module _ (a b : ℕ) (w : List ℕ) (x : ℕ) where
  mark_two : kind_at w x ≡ 2 → spelled_as a b w x ≡ (eqb (value_at w x) a || eqb (value_at w x) b)
  mark_two e = simp (eq-eqb _ _ e)

  pub mark_none : (kind_at w x ≡ 2 → ⊥) → false ≡ spelled_as a b w x
  mark_none e = simp (ne_eqb _ _ e)

  pub mark_yes : (v : ℕ) → kind_at w x ≡ 2 → v ≡ value_at w x → v ≡ a → eqb v a ≡ spelled_as a b w x
  mark_yes v k e q = eq-eqb v a q ∙ sym (mark_two k ∙ simp (eq-eqb (value_at w x) a (sym e ∙ q)))

  pub mark_no : (v : ℕ) → kind_at w x ≡ 2 → v ≡ value_at w x → (v ≡ a → ⊥) → eqb v b ≡ spelled_as a b w x
  mark_no v k e q = ap (λ (v : ℕ). eqb v b) e ∙ sym (mark_two k ∙ simp (ne_eqb (value_at w x) a (λ z. q (e ∙ z))))

  mark_kind : spelled_as a b w x ≡ true → kind_at w x ≡ 2
  mark_kind e = eqb-true _ _ (and_left _ _ e)

  mark_inside : spelled_as a b w x ≡ true → x < count w
  mark_inside e = kind_inside w x 2 (omega arith) (mark_kind e)

the_miss : (s : String) (text : List ℕ) (p l v k : ℕ) → (k ≡ 2 → ⊥) → is_the s (word_of text k p l v) ≡ none
unfolding is_the word_of
the_miss s text p l v zero h = refl
the_miss s text p l v (suc zero) h = refl
the_miss s text p l v (suc (suc zero)) h = absurd (h refl)
the_miss s text p l v (suc (suc (suc zero))) h = refl
the_miss s text p l v (suc (suc (suc (suc k)))) h = refl

module _ {S : Type 0} (v : String) (n : Name) (r : List Word) (g : ℕ → List Word → Res S) (d : List Word → Res S) where
  the_hit : same (bytes v) n.spelled ≡ true → on (is_the v) (name n ∷ r) g d ≡ g n.at r
  unfolding on is_the
  the_hit q = simp (on, is_the, q)

  the_not : same (bytes v) n.spelled ≡ false → on (is_the v) (name n ∷ r) g d ≡ d (name n ∷ r)
  unfolding on is_the
  the_not q = simp (on, is_the, q)

module _ {text : List ℕ} {ms : List (List ℕ)} {w : List ℕ} {ws : List Word} (M : Marked text ms w ws) (v : String) (a b : ℕ)
    (spelled : (i : ℕ) → i < count w → get_or w (4 * i) 0 ≡ 2 → same (bytes v) (spelled_at text w i) ≡ (eqb (value_at w i) a || eqb (value_at w i) b))
    {S : Type 0} (x : ℕ) (g : ℕ → List Word → Res S) (d : List Word → Res S) where
  mark_same : kind_at w x ≡ 2 → same (bytes v) (spelled_at text w x) ≡ spelled_as a b w x
  mark_same k = let i = kind_inside w x 2 (omega arith) k in spelled x i (sym (kind_is w x i) ∙ k) ∙ sym (mark_two a b w x k)

  on_the : spelled_as a b w x ≡ true → on (is_the v) (drop x ws) g d ≡ g (place_at w x) (drop (x + 1) ws)
  unfolding word_of
  on_the e = let k = mark_kind a b w x e in
      ap (λ (l : List Word). on (is_the v) l g d) (word M x 2 (omega arith) k) ∙ the_hit v (name_at text w x) _ g d (mark_same k ∙ e)

  off_the : spelled_as a b w x ≡ false → on (is_the v) (drop x ws) g d ≡ d (drop x ws)
  unfolding word_of
  off_the e = go (eqb (kind_at w x) 2) refl
    where
      named : kind_at w x ≡ 2 → on (is_the v) (drop x ws) g d ≡ d (drop x ws)
      named k = ap (λ (l : List Word). on (is_the v) l g d) (word M x 2 (omega arith) k)
          ∙ the_not v (name_at text w x) _ g d (mark_same k ∙ e) ∙ sym (ap d (word M x 2 (omega arith) k))

      go : (b : Bool) → eqb (kind_at w x) 2 ≡ b → on (is_the v) (drop x ws) g d ≡ d (drop x ws)
      go true q = named (eqb-true _ _ q)
      go false q = on_miss M (is_the v) g d x (λ p l y. the_miss v text p l y (kind_at w x) (eqb-false (kind_at w x) 2 q))

pub type_inside : (w : List ℕ) (x : ℕ) → the_type w x ≡ true → x < count w
unfolding the_type is_type
type_inside w x e = mark_inside 2 6 w x e

pub p_inside : (w : List ℕ) (x : ℕ) → the_p w x ≡ true → x < count w
unfolding the_p is_p
p_inside w x e = mark_inside 1 5 w x e

module _ {text : List ℕ} {ms : List (List ℕ)} {w : List ℕ} {ws : List Word} (M : Marked text ms w ws) {S : Type 0} (x : ℕ) (g : ℕ → List Word → Res S) (d : List Word → Res S) where
  pub on_type : the_type w x ≡ true → on (is_the "type") (drop x ws) g d ≡ g (place_at w x) (drop (x + 1) ws)
  unfolding the_type is_type
  on_type e = on_the M "type" 2 6 M.the_type_law x g d e

  pub off_type : the_type w x ≡ false → on (is_the "type") (drop x ws) g d ≡ d (drop x ws)
  unfolding the_type is_type
  off_type e = off_the M "type" 2 6 M.the_type_law x g d e

  pub on_p : the_p w x ≡ true → on (is_the "p") (drop x ws) g d ≡ g (place_at w x) (drop (x + 1) ws)
  unfolding the_p is_p
  on_p e = on_the M "p" 1 5 M.the_p_law x g d e

  pub off_p : the_p w x ≡ false → on (is_the "p") (drop x ws) g d ≡ d (drop x ws)
  unfolding the_p is_p
  off_p e = off_the M "p" 1 5 M.the_p_law x g d e

-- ---- a fixed word that `expect` looks for

-- where it lies
pub found_at : {w : List ℕ} {at kw x : ℕ} → 1 ≤ kw → Finds w at kw x → x ≤ count w
found_at {w} {at} {kw} h f = put f (kind_inside w at kw h f.kind)
  where
    put : {x : ℕ} → Finds w at kw x → at < count w → x ≤ count w
    put f i = omega arith

module _ {text : List ℕ} {ms : List (List ℕ)} {w : List ℕ} {ws : List Word} (M : Marked text ms w ws) where
  pub word_found : (x k : ℕ) {y : ℕ} → 1 ≤ k → Finds w x k y → drop x ws ≡ word_of text k (place_at w x) (long_at w x) (value_at w x) ∷ drop y ws
  word_found x k h f = word M x k h f.kind ∙ ap (λ (y : ℕ). word_of text k (place_at w x) (long_at w x) (value_at w x) ∷ drop y ws) (sym f.next)

module _ {text : List ℕ} {ms : List (List ℕ)} {w : List ℕ} {ws : List Word} (M : Marked text ms w ws) {s : String} {j : ℕ} (sp : Spells s j) where
  pub on_found : {S : Type 0} {x y : ℕ} (g : ℕ → List Word → Res S) (d : List Word → Res S) → Finds w x j y → on (is s) (drop x ws) g d ≡ g (place_at w x) (drop y ws)
  on_found {x = x} g d f = on_is M s j x sp g d f.kind ∙ ap (λ (y : ℕ). g (place_at w x) (drop y ws)) (sym f.next)

  pub expect_found : {S : Type 0} {x y : ℕ} (g : ℕ → List Word → Res S) → Finds w x j y → expect s (drop x ws) g ≡ g (place_at w x) (drop y ws)
  expect_found {x = x} {y = y} g f = expect_at M s j x sp y g f.kind f.next

  pub expect_lacks : {S : Type 0} {x i : ℕ} (g : ℕ → List Word → Res S) → Lacks w x j i → expect s (drop x ws) g ≡ bad (drop i ws)
  expect_lacks {x = x} g f = expect_bad M s j x sp g f.kind ∙ ap (λ (y : ℕ). bad (drop y ws)) (sym f.stays)

  pub expect_missed : {B : Type 0} {fl : B → List ℕ} {x n : ℕ} {e : Misfit} {t t' : List ℕ} (g : ℕ → List Word → Res B) → Lacks w x j e.at → Agrees fl ws n t (expect s (drop x ws) g) (Err e) t'
  expect_missed g f = rw (expect_lacks g f) fault

  -- what a reader reads, and then the word
  module _ {A B : Type 0} {fl : A → List ℕ} {fl' : B → List ℕ} (u : Res A) (g : A → ℕ → List Word → Res B) {n b : ℕ} {t t₁ s₀ t' : List ℕ} where
    pub until_ok : {x y m : ℕ} {r : Out} → Agrees fl ws n t u (Ok (x, m)) t₁ → Finds w x j y → ((e : A) (p : ℕ) → On t n (fl e) m t₁ → Agrees fl' ws b s₀ (g e p (drop y ws)) r t') → Agrees fl' ws b s₀ (until u s g) r t'
    unfolding until
    until_ok a f k = bind_ok u _ a (λ v on. rw (expect_found (λ p y. g v p y) f) (k v _ on))

    pub until_missed : {x m : ℕ} {e : Misfit} → Agrees fl ws n t u (Ok (x, m)) t₁ → Lacks w x j e.at → Agrees fl' ws b s₀ (until u s g) (Err e) t'
    unfolding until
    until_missed a f = bind_ok u _ a (λ v on. expect_missed (λ p y. g v p y) f)

    pub until_err : {e : Misfit} → Agrees fl ws n t u (Err e) t₁ → Agrees fl' ws b s₀ (until u s g) (Err e) t'
    unfolding until
    until_err a = bind_err u _ a
