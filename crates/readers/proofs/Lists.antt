-- Lists with nothing between their items, which a loop reads: none or more (`many_p`), one or more (`some_p`). Assumes nothing.
use mathlib.Core.Path.{◌≡◌, refl, sym, ap, ◌∙◌}
use mathlib.Core.List.{List, [], ◌∷◌}
use mathlib.Core.Option.{Option, none, some}
use Prim.Native.Nat.{ℕ, suc, ◌+◌, ◌*◌, ◌-◌, ◌≤◌, ◌<◌}
use native.Mathlib.Omega.{arith}
use lib.ListN.{drop}
use Rattle.language.specs.Words.{Word}
use Rattle.language.specs.Reader.{Res, ok, bad, bind, on, many_p, some_p}
use Rattle.words.specs.Table.{word_of}
use Rattle.tape.specs.Tape.{flats}
use Rattle.readers.specs.Marks.{count, kind_at, place_at, long_at, value_at, Marked}
use Rattle.readers.specs.Meets.{Out, On, Went, Agrees, read, fault, Met}
use Rattle.std.specs.Prelude.{Ok, Err}
use Rattle.readers.specs.declared.Misfit.{Misfit}
use Rattle.readers.proofs.Laws.{suc_of, on_more, bind_ok, bind_err}
use Rattle.readers.proofs.Spells.{word, on_miss}

-- ---- the tape

-- no items
pub on_none : {t : List ℕ} {n : ℕ} → On t n [] n t
on_none = record { ends = omega arith; holds = refl }

-- the items of a thing, then those of the list after it
pub on_first : {T : Type 0} (fl : T → List ℕ) (e : T) {ws : List Word} {n m : ℕ} {t t₁ t' : List ℕ} {u : Res (List T)} {r : Out}
    → On t n (fl e) m t₁ → Agrees (flats fl) ws m t₁ u r t' → Agrees (flats fl) ws n t (bind u (λ l z. ok (e ∷ l) z)) r t'
unfolding flats bind
on_first fl e on (read on₁) = read (on_more on on₁)
on_first fl e on fault = fault

-- ---- the first word of an item

module _ {A : Type 0} (test : Word → Option A) (w : List ℕ) (x : ℕ) where
  -- the word at x begins an item, and holds a
  pub record Begins (a : List ℕ → A) : Type 0 where
    pub kind : ℕ
    pub there : 1 ≤ kind
    pub is : kind_at w x ≡ kind
    pub passes : (text : List ℕ) → test (word_of text kind (place_at w x) (long_at w x) (value_at w x)) ≡ some (a text)

  -- the word at x begins none, or there is no word
  pub record Misses : Type 0 where
    pub fails : (text : List ℕ) (p l v : ℕ) → test (word_of text (kind_at w x) p l v) ≡ none

module _ {A : Type 0} {test : Word → Option A} {text : List ℕ} {ms : List (List ℕ)} {w : List ℕ} {ws : List Word} {x : ℕ} (M : Marked text ms w ws) where
  on_begins : {S : Type 0} (g : A → List Word → Res S) (d : List Word → Res S) {a : List ℕ → A} → Begins test w x a → on test (drop x ws) g d ≡ g (a text) (drop (x + 1) ws)
  unfolding on
  on_begins g d {a} b = ap (λ (l : List Word). on test l g d) (word M x b.kind b.there b.is) ∙ hit
    where
      hit : on test (word_of text b.kind (place_at w x) (long_at w x) (value_at w x) ∷ drop (x + 1) ws) g d ≡ g (a text) (drop (x + 1) ws)
      hit = simp (on, b.passes text)

  module _ {T : Type 0} (item : ℕ → A → List Word → Res T) (f : ℕ) where
    many_begins : {a : List ℕ → A} → Begins test w x a → many_p test item (suc f) (drop x ws) ≡ bind (item f (a text) (drop (x + 1) ws)) (λ e y. bind (many_p test item f y) (λ l z. ok (e ∷ l) z))
    unfolding many_p
    many_begins b = on_begins _ _ b

    many_misses : Misses test w x → many_p test item (suc f) (drop x ws) ≡ ok [] (drop x ws)
    unfolding many_p
    many_misses b = on_miss M test _ _ x (b.fails text)

    -- one or more: the test of the first word, then none or more
    pub some_begins : {a : List ℕ → A} → Begins test w x a → some_p test item f (drop x ws) ≡ many_p test item (suc f) (drop x ws)
    unfolding many_p some_p
    some_begins b = on_begins _ _ b ∙ sym (many_begins b)

    pub some_misses : Misses test w x → some_p test item f (drop x ws) ≡ bad (drop x ws)
    unfolding many_p some_p
    some_misses b = on_miss M test _ _ x (b.fails text)

-- ---- the loop

module _ {A T : Type 0} (fl : T → List ℕ) (test : Word → Option A) (item : List (List ℕ) → ℕ → A → List Word → Res T) (w : List ℕ) where
  -- r and t' answer the list from the word x on, whose first item is put at m
  abbrev pub Answers : List (List ℕ) → List Word → Out → List ℕ → ℕ → ℕ → List ℕ → Type 0
  Answers ms ws r t' x m t = (f : ℕ) → 8 * count w + 1 < f + 8 * x → Agrees (flats fl) ws m t (many_p test (item ms) f (drop x ws)) r t'

  -- from the word x₀ on the loop has read to x: whatever answers the rest answers the whole
  pub record Listed (x₀ m₀ : ℕ) (t₀ : List ℕ) (x m : ℕ) (t : List ℕ) : Type 0 where
    pub went : Went (count w) x₀ m₀ x m
    pub goes : {text : List ℕ} {ms : List (List ℕ)} {ws : List Word} → Marked text ms w ws → (r : Out) (t' : List ℕ) → Answers ms ws r t' x m t → Answers ms ws r t' x₀ m₀ t₀

  -- an item whose first word stands at x and holds a: the answer lies past that word
  abbrev pub IsItem : (List ℕ → A) → ℕ → ℕ → List ℕ → Out → List ℕ → Type 0
  IsItem a x m t o t' = Met fl 0 (λ text ms ws f. item ms f (a text) (drop (x + 1) ws)) w (x + 1) m t o t'

  abbrev pub IsList : ℕ → ℕ → List ℕ → Out → List ℕ → Type 0
  IsList x m t o t' = Met (flats fl) 1 (λ text ms ws f. many_p test (item ms) f (drop x ws)) w x m t o t'

module _ {A T : Type 0} {fl : T → List ℕ} {test : Word → Option A} {item : List (List ℕ) → ℕ → A → List Word → Res T} {w : List ℕ} {x₀ m₀ x m : ℕ} {t₀ t : List ℕ} (v : Listed fl test item w x₀ m₀ t₀ x m t) where
  -- a turn
  pub list_more : {a : List ℕ → A} {y n : ℕ} {t₁ : List ℕ} → Begins test w x a → IsItem fl test item w a x m t (Ok (y, n)) t₁ → Listed fl test item w x₀ m₀ t₀ y n t₁
  list_more b i = let u = i.moved.to in record {
    went = omega (arith, v.went, u);
    goes = λ M r t' k. v.goes M r t' (λ f h. rw (suc_of f (omega (arith, v.went))) (rw (many_begins M (item _) (f - 1) b)
        (bind_ok _ _ (i.agrees M (f - 1) (omega (arith, v.went))) (λ a on. on_first fl a on (k (f - 1) (omega (arith, u)))))));
  }

  -- an item that does not fit
  pub list_fault : {a : List ℕ → A} {e : Misfit} {t₁ : List ℕ} → Begins test w x a → IsItem fl test item w a x m t (Err e) t₁ → IsList fl test item w x₀ m₀ t₀ (Err e) t₁
  list_fault b i = record {
    moved = record { to = i.moved.to };
    agrees = λ M f h. v.goes M _ _ (λ f h. rw (suc_of f (omega (arith, v.went))) (rw (many_begins M (item _) (f - 1) b)
        (bind_err _ _ (i.agrees M (f - 1) (omega (arith, v.went)))))) f h;
  }

  -- no item is left
  pub list_ends : Misses test w x → IsList fl test item w x₀ m₀ t₀ (Ok (x, m)) t
  unfolding flats
  list_ends b = record {
    moved = record { to = v.went };
    agrees = λ M f h. v.goes M _ _ (λ f h. rw (suc_of f (omega (arith, v.went))) (rw (many_misses M (item _) (f - 1) b) (read on_none))) f h;
  }
