-- The laws of the declarations and of an actor's head. Assumes nothing.
use mathlib.Core.Path.{◌≡◌, refl, sym, ap, ◌∙◌}
use mathlib.Core.Bool.{Bool, true, false}
use mathlib.Core.List.{List, [], ◌∷◌, ◌++◌}
use mathlib.Core.Option.{Option, none, some}
use Prim.Native.Nat.{ℕ, zero, suc, ◌+◌}
use native.Mathlib.Omega.{arith}
use lib.Dec.{eqb}
use lib.ListN.{drop}
use borrow.Author.Tests.{eq-eqb, ne_eqb}
use Rattle.language.specs.Text.{Name}
use Rattle.language.specs.Words.{Word, Numeral}
use Rattle.language.specs.Tree.{Declared, Size, one, cells, Memory}
use Rattle.language.specs.Reader.{Res, ok, bad, bind, on, is_num, is_name, expect, until, many_p, commas_p}
use Rattle.language.specs.Parser.{is_way, is_store, port_p, memory_p, name_p}
use Rattle.signs.specs.Kinds.{spelled_words}
use Rattle.words.specs.Table.{word_of}
use Rattle.readers.specs.Marks.{kind_at, numeral_at, name_at, Marked, fixed_of}
use Rattle.readers.specs.Meets.{Out, Finds, Lacks, On, Agrees, read, fault}
use Rattle.head_reader.specs.Heads.{head_p}
use Rattle.head_reader.specs.Declares.{port_name_p, memory_name_p, size_p, declarations_p}
use Rattle.readers.proofs.Laws.{on_more, on_as}
use Rattle.readers.proofs.Spells.{word, word_found, on_miss, num_miss, name_miss}
use Rattle.readers.proofs.Lists.{Begins, Misses, some_begins, some_misses}
use Rattle.readers.proofs.Fixed.{s_input, s_output, s_reg, s_ff}

-- ---- the first word of a port and of a memory: one of two

neither : (a b : Bool) → a ≡ false → b ≡ false → ◌≡◌ {A = Option Bool} (elim a [ true ↦ some true | false ↦ elim b [ true ↦ some false | false ↦ none ] ]) none
neither a b p q = simp (p, q)

way_miss : (text : List ℕ) (p l v k : ℕ) → (k ≡ 4 → ⊥) → (k ≡ 5 → ⊥) → is_way (word_of text k p l v) ≡ none
unfolding is_way word_of fixed_of
way_miss text p l v zero h₁ h₂ = refl
way_miss text p l v (suc zero) h₁ h₂ = refl
way_miss text p l v (suc (suc zero)) h₁ h₂ = refl
way_miss text p l v (suc (suc (suc zero))) h₁ h₂ = refl
way_miss text p l v (suc (suc (suc (suc k)))) h₁ h₂ = neither _ _ (s_input.is (suc (suc (suc (suc k)))) ∙ ne_eqb _ _ h₁) (s_output.is (suc (suc (suc (suc k)))) ∙ ne_eqb _ _ h₂)

store_miss : (text : List ℕ) (p l v k : ℕ) → (k ≡ 6 → ⊥) → (k ≡ 7 → ⊥) → is_store (word_of text k p l v) ≡ none
unfolding is_store word_of fixed_of
store_miss text p l v zero h₁ h₂ = refl
store_miss text p l v (suc zero) h₁ h₂ = refl
store_miss text p l v (suc (suc zero)) h₁ h₂ = refl
store_miss text p l v (suc (suc (suc zero))) h₁ h₂ = refl
store_miss text p l v (suc (suc (suc (suc k)))) h₁ h₂ = neither _ _ (s_reg.is (suc (suc (suc (suc k)))) ∙ ne_eqb _ _ h₁) (s_ff.is (suc (suc (suc (suc k)))) ∙ ne_eqb _ _ h₂)

other : {k i j : ℕ} → k ≡ i → (i ≡ j → ⊥) → k ≡ j → ⊥
other e h q = h (sym e ∙ q)

module _ {w : List ℕ} {x k : ℕ} (e : k ≡ kind_at w x) where
  pub begins_input : k ≡ 4 → Begins is_way w x (λ text. eqb k 4)
  unfolding is_way word_of spelled_words
  begins_input q = record { kind = 4; there = omega arith; is = sym e ∙ q; passes = λ text. ap (λ (b : Bool). some b) (sym (eq-eqb k 4 q)) }

  pub begins_output : k ≡ 5 → Begins is_way w x (λ text. eqb k 4)
  unfolding is_way word_of spelled_words
  begins_output q = record { kind = 5; there = omega arith; is = sym e ∙ q; passes = λ text. ap (λ (b : Bool). some b) (sym (ne_eqb k 4 (other q (omega arith)))) }

  pub misses_way : (k ≡ 4 → ⊥) → (k ≡ 5 → ⊥) → Misses is_way w x
  misses_way h₁ h₂ = record { fails = λ text p l v. way_miss text p l v _ (λ q. h₁ (e ∙ q)) (λ q. h₂ (e ∙ q)) }

  pub begins_reg : k ≡ 6 → Begins is_store w x (λ text. eqb k 6)
  unfolding is_store word_of spelled_words
  begins_reg q = record { kind = 6; there = omega arith; is = sym e ∙ q; passes = λ text. ap (λ (b : Bool). some b) (sym (eq-eqb k 6 q)) }

  pub begins_ff : k ≡ 7 → Begins is_store w x (λ text. eqb k 6)
  unfolding is_store word_of spelled_words
  begins_ff q = record { kind = 7; there = omega arith; is = sym e ∙ q; passes = λ text. ap (λ (b : Bool). some b) (sym (ne_eqb k 6 (other q (omega arith)))) }

  pub misses_store : (k ≡ 6 → ⊥) → (k ≡ 7 → ⊥) → Misses is_store w x
  misses_store h₁ h₂ = record { fails = λ text p l v. store_miss text p l v _ (λ q. h₁ (e ∙ q)) (λ q. h₂ (e ∙ q)) }

-- ---- the readers

-- a size, and then the `;`
size_until : (g : Size → Memory) (y : List Word) → on is_num y (λ m z. expect ";" z (λ q l. ok (g (cells m)) l)) (λ y. expect ";" y (λ q z. ok (g one) z)) ≡ until (size_p y) ";" (λ s q z. ok (g s) z)
unfolding on until bind size_p
size_until g [] = refl
size_until g (x ∷ r) = go (is_num x)
  where
    go : (o : Option Numeral) → ◌≡◌ {A = Res Memory} (elim o [ some m ↦ expect ";" r (λ q l. ok (g (cells m)) l) | none ↦ expect ";" (x ∷ r) (λ q z. ok (g one) z) ])
        (bind (elim o [ some m ↦ ok (cells m) r | none ↦ ok one (x ∷ r) ]) (λ s y. expect ";" y (λ p z. ok (g s) z)))
    go none = refl
    go (some m) = refl

module _ {text : List ℕ} {ms : List (List ℕ)} {w : List ℕ} {ws : List Word} (M : Marked text ms w ws) (at : ℕ) where
  module _ {S : Type 0} (g : Name → List Word → Res S) (d : List Word → Res S) where
    on_name : {y : ℕ} → Finds w at 2 y → on is_name (drop at ws) g d ≡ g (name_at text w at) (drop y ws)
    unfolding on is_name word_of
    on_name f = ap (λ (l : List Word). on is_name l g d) (word_found M at 2 (omega arith) f)

    off_name : {j : ℕ} → Lacks w at 2 j → on is_name (drop at ws) g d ≡ d (drop j ws)
    off_name h = on_miss M is_name g d at (λ p l v. name_miss text p l v _ h.kind) ∙ ap (λ (y : ℕ). d (drop y ws)) (sym h.stays)

  module _ (f : ℕ) where
    pub signed_name : {y : ℕ} → Finds w at 2 y → name_p f (drop at ws) ≡ ok (name_at text w at) (drop y ws)
    unfolding name_p
    signed_name e = on_name _ _ e

    pub signed_none : {j : ℕ} → Lacks w at 2 j → name_p f (drop at ws) ≡ bad (drop j ws)
    unfolding name_p
    signed_none h = off_name _ _ h

    pub head_name : {y : ℕ} → Finds w at 2 y → head_p f (drop at ws)
        ≡ expect "(" (drop y ws) (λ p x. until (commas_p (λ f l. name_p f l) f x) ")" (λ ns q y. expect "{" y (λ s z. declarations_p f (name_at text w at) ns z)))
    unfolding head_p declarations_p
    head_name e = on_name _ _ e

    pub head_none : {j : ℕ} → Lacks w at 2 j → head_p f (drop at ws) ≡ bad (drop j ws)
    unfolding head_p
    head_none h = off_name _ _ h

    module _ (n : Name) (ns : List Name) where
      pub declarations_ports : {a : List ℕ → Bool} → Begins is_way w at a → declarations_p f n ns (drop at ws)
          ≡ bind (many_p is_way (λ f i r. port_p f i r) (suc f) (drop at ws)) (λ ps l. bind (many_p is_store (λ f i r. memory_p f i r) f l) (λ ms k. ok (record { called = n; signature = ns; ports = ps; memories = ms }) k))
      unfolding declarations_p
      declarations_ports b = rw (some_begins M (λ f i r. port_p f i r) f b) refl

      pub declarations_none : Misses is_way w at → declarations_p f n ns (drop at ws) ≡ bad (drop at ws)
      unfolding declarations_p bind
      declarations_none b = rw (some_misses M (λ f i r. port_p f i r) f b) refl

  module _ (d : Declared) where
    pub port_name : (i : Bool) {y : ℕ} → Finds w at 2 y → port_name_p i d (drop at ws) ≡ expect ";" (drop y ws) (λ q z. ok (record { input = i; type = d; called = name_at text w at }) z)
    unfolding port_name_p
    port_name i e = on_name _ _ e

    pub port_none : (i : Bool) {j : ℕ} → Lacks w at 2 j → port_name_p i d (drop at ws) ≡ bad (drop j ws)
    unfolding port_name_p
    port_none i h = off_name _ _ h

    pub memory_name : {y : ℕ} → Finds w at 2 y → memory_name_p d (drop at ws) ≡ until (size_p (drop y ws)) ";" (λ s q z. ok (record { type = d; called = name_at text w at; size = s }) z)
    unfolding memory_name_p
    memory_name {y = y} e = on_name _ _ e ∙ size_until (λ s. record { type = d; called = name_at text w at; size = s }) (drop y ws)

    pub memory_none : {j : ℕ} → Lacks w at 2 j → memory_name_p d (drop at ws) ≡ bad (drop j ws)
    unfolding memory_name_p
    memory_none h = off_name _ _ h

  pub size_number : kind_at w at ≡ 1 → size_p (drop at ws) ≡ ok (cells (numeral_at w at)) (drop (at + 1) ws)
  unfolding size_p on is_num word_of
  size_number e = ap size_p (word M at 1 (omega arith) e)

  pub size_none : (kind_at w at ≡ 1 → ⊥) → size_p (drop at ws) ≡ ok one (drop at ws)
  unfolding size_p
  size_none h = on_miss M is_num _ _ at (λ p l v. num_miss text p l v _ h)

-- ---- the answers

-- the last part of a whole, whose other parts are on the tape
pub last_part : {A B : Type 0} (fl : A → List ℕ) (fl' : B → List ℕ) (make : A → B) {l : List ℕ} {ws : List Word} {u : Res A} {b n : ℕ} {s t t' : List ℕ} {r : Out}
    → ((a : A) → l ++ fl a ≡ fl' (make a)) → On s b l n t → Agrees fl ws n t u r t' → Agrees fl' ws b s (bind u (λ a k. ok (make a) k)) r t'
unfolding bind
last_part fl fl' make e on (read {e = a} on₁) = read (on_as (e a) (on_more on on₁))
last_part fl fl' make e on fault = fault
