-- The grammar's laws: what each function of the reader of lists is at a word of each kind. Assumes nothing.
use mathlib.Core.Path.{◌≡◌, refl, ap, ◌∙◌}
use mathlib.Core.Bool.{Bool, true, false}
use mir.Val.{bool_byte}
use mathlib.Core.List.{List, ◌++◌}
use Prim.Native.Nat.{ℕ, zero, suc, ◌+◌, ◌≤◌}
use native.Mathlib.Omega.{arith}
use lib.ListN.{drop}
use Rattle.language.specs.Words.{Word}
use Rattle.language.specs.Tree.{Ty, number, environment, port, plus, minus, log, ceil, floor, most, entry, within, Declared, untyped}
use Rattle.language.specs.Reader.{Res, ok, bad, bind, on, is, is_num, is_name, is_the, expect, until}
use Rattle.language.specs.Parser.{type_p, type_l, term_p, entry_l, declared_p}
use Rattle.signs.specs.Kinds.{spelled_words}
use Rattle.words.specs.Table.{word_of}
use Rattle.tape.specs.Tape.{one_if, is_typed, flat_t, flat_d, item}
use Rattle.std.specs.Prelude.{Ok, Err}
use Rattle.readers.specs.Marks.{kind_at, place_at, numeral_at, name_at, Marked, the_type}
use Rattle.readers.specs.Meets.{Out, Finds, Lacks, On, Agrees, read, fault}
use Rattle.readers.specs.declared.Misfit.{Misfit}
use Rattle.type_reader.specs.Types.{Tells, there, amiss}
use Rattle.readers.proofs.Spells.{word, on_miss, on_is, off_is, num_miss, name_miss, on_type, off_type, expect_found, expect_lacks}
use Rattle.readers.proofs.Fixed.{s_max, s_log, s_ceil, s_floor, s_open, s_comma, s_dot, s_less, s_greater, s_plus, s_minus}

module _ {text : List ℕ} {ms : List (List ℕ)} {w : List ℕ} {ws : List Word} (M : Marked text ms w ws) (f at : ℕ) where
  -- ---- types

  pub type_law : type_p (suc f) (drop at ws) ≡ bind (term_p f (drop at ws)) (λ a x. type_l f a x)
  unfolding type_p
  type_law = refl

  module _ (a : Ty) where
    pub sum_plus : kind_at w at ≡ 55 → type_l (suc f) a (drop at ws) ≡ bind (term_p f (drop (at + 1) ws)) (λ c x. type_l f (plus a c) x)
    unfolding type_p
    sum_plus e = on_is M "+" 55 at s_plus _ _ e

    pub sum_minus : kind_at w at ≡ 56 → type_l (suc f) a (drop at ws) ≡ bind (term_p f (drop (at + 1) ws)) (λ c x. type_l f (minus a c) x)
    unfolding type_p
    sum_minus e = off_is M "+" 55 at s_plus _ _ (λ q. other q e) ∙ on_is M "-" 56 at s_minus _ _ e
      where
        other : {k : ℕ} → k ≡ 55 → k ≡ 56 → ⊥
        other p q = omega arith

    pub sum_stop : (kind_at w at ≡ 55 → ⊥) → (kind_at w at ≡ 56 → ⊥) → type_l (suc f) a (drop at ws) ≡ ok a (drop at ws)
    unfolding type_p
    sum_stop h₁ h₂ = off_is M "+" 55 at s_plus _ _ h₁ ∙ off_is M "-" 56 at s_minus _ _ h₂

    pub entry_more : kind_at w at ≡ 42 → entry_l (suc f) a (drop at ws) ≡ bind (type_p f (drop (at + 1) ws)) (λ c x. entry_l f (entry a c) x)
    unfolding type_p
    entry_more e = on_is M "," 42 at s_comma _ _ e

    pub entry_stop : (kind_at w at ≡ 42 → ⊥) → entry_l (suc f) a (drop at ws) ≡ ok a (drop at ws)
    unfolding type_p
    entry_stop h = off_is M "," 42 at s_comma _ _ h

  pub term_number : kind_at w at ≡ 1 → term_p (suc f) (drop at ws) ≡ ok (number (numeral_at w at)) (drop (at + 1) ws)
  unfolding type_p on is_num word_of
  term_number e = ap (term_p (suc f)) (word M at 1 (omega arith) e)

  pub term_name : kind_at w at ≡ 2 → term_p (suc f) (drop at ws)
      ≡ on (is ".") (drop (at + 1) ws) (λ p x. on (is_the "type") x (λ q y. ok (port (name_at text w at)) y) (λ x. bad x)) (λ r. ok (environment (name_at text w at)) r)
  unfolding type_p on is_num is_name word_of
  term_name e = ap (term_p (suc f)) (word M at 2 (omega arith) e)

  pub term_port : kind_at w at ≡ 2 → kind_at w (at + 1) ≡ 46 → the_type w (at + 2) ≡ true → term_p (suc f) (drop at ws) ≡ ok (port (name_at text w at)) (drop (at + 3) ws)
  term_port e d q = term_name e ∙ on_is M "." 46 (at + 1) s_dot _ _ d ∙ ap (λ (y : ℕ). on (is_the "type") (drop y ws) (λ q y. ok (port (name_at text w at)) y) (λ x. bad x)) two
      ∙ on_type M (at + 2) _ _ q ∙ ap (λ (y : ℕ). ok (port (name_at text w at)) (drop y ws)) three
    where
      two : at + 1 + 1 ≡ at + 2
      two = omega arith

      three : at + 2 + 1 ≡ at + 3
      three = omega arith

  pub term_no_port : kind_at w at ≡ 2 → kind_at w (at + 1) ≡ 46 → the_type w (at + 2) ≡ false → term_p (suc f) (drop at ws) ≡ bad (drop (at + 2) ws)
  term_no_port e d q = term_name e ∙ on_is M "." 46 (at + 1) s_dot _ _ d ∙ ap (λ (y : ℕ). on (is_the "type") (drop y ws) (λ q y. ok (port (name_at text w at)) y) (λ x. bad x)) two
      ∙ off_type M (at + 2) _ _ q
    where
      two : at + 1 + 1 ≡ at + 2
      two = omega arith

  pub term_log : kind_at w at ≡ 19 → term_p (suc f) (drop at ws) ≡ expect "(" (drop (at + 1) ws) (λ q x. until (type_p f x) ")" (λ a s y. ok (log (place_at w at) a) y))
  unfolding type_p on is_num is_name is word_of spelled_words
  term_log e = ap (term_p (suc f)) (word M at 19 (omega arith) e)

  pub term_ceil : kind_at w at ≡ 20 → term_p (suc f) (drop at ws) ≡ expect "(" (drop (at + 1) ws) (λ q x. until (type_p f x) ")" (λ a s y. ok (ceil (place_at w at) a) y))
  unfolding type_p on is_num is_name is word_of spelled_words
  term_ceil e = ap (term_p (suc f)) (word M at 20 (omega arith) e)

  pub term_floor : kind_at w at ≡ 21 → term_p (suc f) (drop at ws) ≡ expect "(" (drop (at + 1) ws) (λ q x. until (type_p f x) ")" (λ a s y. ok (floor (place_at w at) a) y))
  unfolding type_p on is_num is_name is word_of spelled_words
  term_floor e = ap (term_p (suc f)) (word M at 21 (omega arith) e)

  pub term_max : kind_at w at ≡ 18 → term_p (suc f) (drop at ws)
      ≡ expect "(" (drop (at + 1) ws) (λ q x. bind (type_p f x) (λ a y. until (entry_l f a y) ")" (λ e s z. ok (most (place_at w at) e) z)))
  unfolding type_p on is_num is_name is word_of spelled_words
  term_max e = ap (term_p (suc f)) (word M at 18 (omega arith) e)

  pub term_within : kind_at w at ≡ 36 → term_p (suc f) (drop at ws) ≡ until (type_p f (drop (at + 1) ws)) ")" (λ a q x. ok (within (place_at w at) a) x)
  unfolding type_p on is_num is_name is word_of spelled_words
  term_within e = ap (term_p (suc f)) (word M at 36 (omega arith) e)

  pub term_none : (kind_at w at ≡ 1 → ⊥) → (kind_at w at ≡ 2 → ⊥) → (kind_at w at ≡ 18 → ⊥) → (kind_at w at ≡ 19 → ⊥) → (kind_at w at ≡ 20 → ⊥) → (kind_at w at ≡ 21 → ⊥) → (kind_at w at ≡ 36 → ⊥)
      → term_p (suc f) (drop at ws) ≡ bad (drop at ws)
  unfolding type_p
  term_none h₁ h₂ h₃ h₄ h₅ h₆ h₇ =
      on_miss M is_num _ _ at (λ p l v. num_miss text p l v _ h₁) ∙ on_miss M is_name _ _ at (λ p l v. name_miss text p l v _ h₂) ∙ off_is M "log" 19 at s_log _ _ h₄ ∙ off_is M "ceil" 20 at s_ceil _ _ h₅
      ∙ off_is M "floor" 21 at s_floor _ _ h₆ ∙ off_is M "max" 18 at s_max _ _ h₃ ∙ off_is M "(" 36 at s_open _ _ h₇

-- `+` and `-` by their operations
pub record Summed (text : List ℕ) (ms : List (List ℕ)) (w : List ℕ) (ws : List Word) (f at op : ℕ) (a : Ty) : Type 0 where
  pub makes : Ty → Ty
  pub items : (c : Ty) → flat_t (makes c) ≡ (flat_t a ++ flat_t c) ++ item op 0 0
  pub reads : type_l (suc f) a (drop at ws) ≡ bind (term_p f (drop (at + 1) ws)) (λ c x. type_l f (makes c) x)

pub sum_law : {text : List ℕ} {ms : List (List ℕ)} {w : List ℕ} {ws : List Word} → Marked text ms w ws → (f at op : ℕ) (a : Ty) → (kind_at w at ≡ op + 51) × (4 ≤ op) × (op ≤ 5) → Summed text ms w ws f at op a
unfolding flat_t
sum_law M f at (suc (suc (suc (suc zero)))) a h = record { makes = λ c. plus a c; items = λ c. refl; reads = sum_plus M f at a h.0 }
sum_law M f at (suc (suc (suc (suc (suc zero))))) a h = record { makes = λ c. minus a c; items = λ c. refl; reads = sum_minus M f at a h.0 }
sum_law M f at (suc (suc (suc (suc (suc (suc op)))))) a h = absurd (omega (arith, h.1))
sum_law M f at (suc (suc (suc zero))) a h = absurd (omega (arith, h.1))
sum_law M f at (suc (suc zero)) a h = absurd (omega (arith, h.1))
sum_law M f at (suc zero) a h = absurd (omega (arith, h.1))
sum_law M f at zero a h = absurd (omega (arith, h.1))

-- `log`, `ceil` and `floor` by their operations
pub record Function (text : List ℕ) (ms : List (List ℕ)) (w : List ℕ) (ws : List Word) (f at op : ℕ) : Type 0 where
  pub makes : Ty → Ty
  pub items : (a : Ty) → flat_t (makes a) ≡ flat_t a ++ item op (place_at w at) 0
  pub reads : term_p (suc f) (drop at ws) ≡ expect "(" (drop (at + 1) ws) (λ q x. until (type_p f x) ")" (λ a s y. ok (makes a) y))

pub function_law : {text : List ℕ} {ms : List (List ℕ)} {w : List ℕ} {ws : List Word} → Marked text ms w ws → (f at op : ℕ) → 6 ≤ op → op ≤ 8 → kind_at w at ≡ op + 13 → Function text ms w ws f at op
unfolding flat_t
function_law {w} M f at (suc (suc (suc (suc (suc (suc zero)))))) h g e = record { makes = λ a. log (place_at w at) a; items = λ a. refl; reads = term_log M f at e }
function_law {w} M f at (suc (suc (suc (suc (suc (suc (suc zero))))))) h g e = record { makes = λ a. ceil (place_at w at) a; items = λ a. refl; reads = term_ceil M f at e }
function_law {w} M f at (suc (suc (suc (suc (suc (suc (suc (suc zero)))))))) h g e = record { makes = λ a. floor (place_at w at) a; items = λ a. refl; reads = term_floor M f at e }
function_law M f at (suc (suc (suc (suc (suc (suc (suc (suc (suc op))))))))) h g e = absurd (omega arith)
function_law M f at (suc (suc (suc (suc (suc zero))))) h g e = absurd (omega arith)
function_law M f at (suc (suc (suc (suc zero)))) h g e = absurd (omega arith)
function_law M f at (suc (suc (suc zero))) h g e = absurd (omega arith)
function_law M f at (suc (suc zero)) h g e = absurd (omega arith)
function_law M f at (suc zero) h g e = absurd (omega arith)
function_law M f at zero h g e = absurd (omega arith)

-- ---- declared types

pub one_byte : (b : Bool) → one_if b ≡ bool_byte b
unfolding one_if
one_byte true = refl
one_byte false = refl

-- a declared type, or none
module _ {text : List ℕ} {ms : List (List ℕ)} {w : List ℕ} {ws : List Word} (M : Marked text ms w ws) where
  module _ (f at : ℕ) where
    pub declared_none : (kind_at w at ≡ 48 → ⊥) → declared_p f (drop at ws) ≡ ok untyped (drop at ws)
    unfolding declared_p
    declared_none h = off_is M "<" 48 at s_less _ _ h

    pub declared_some : kind_at w at ≡ 48 → declared_p f (drop at ws) ≡ until (type_p f (drop (at + 1) ws)) ">" (λ t q x. ok (Declared.typed t) x)
    unfolding declared_p
    declared_some e = on_is M "<" 48 at s_less _ _ e

  pub typed_ok : (u : Res Ty) {n x y m : ℕ} {t t₁ : List ℕ} → Agrees flat_t ws n t u (Ok (x, m)) t₁ → Finds w x 49 y → Tells ws n t (until u ">" (λ t q x. ok (Declared.typed t) x)) (Ok (y, true)) m t₁
  unfolding until bind flat_d is_typed one_if
  typed_ok u (read {e = a} o) g = rw (expect_found M s_greater (λ q y. ok (Declared.typed a) y) g) (there refl o)

  pub typed_missed : (u : Res Ty) {n x m : ℕ} {t t₁ : List ℕ} {e : Misfit} → Agrees flat_t ws n t u (Ok (x, m)) t₁ → Lacks w x 49 e.at → Tells ws n t (until u ">" (λ t q x. ok (Declared.typed t) x)) (Err e) m t₁
  unfolding until bind
  typed_missed u (read {e = a} o) g = rw (expect_lacks M s_greater (λ q y. ok (Declared.typed a) y) g) amiss

  pub typed_err : (u : Res Ty) {n m : ℕ} {t t₁ : List ℕ} {e : Misfit} → Agrees flat_t ws n t u (Err e) t₁ → Tells ws n t (until u ">" (λ t q x. ok (Declared.typed t) x)) (Err e) m t₁
  unfolding until bind
  typed_err u fault = amiss

-- what is made of it
pub tells_ok : {B : Type 0} {fl : B → List ℕ} {ws : List Word} (u : Res Declared) (g : Declared → List Word → Res B) {n b m x : ℕ} {t t₁ s t' : List ℕ} {k : Bool} {r : Out}
    → Tells ws n t u (Ok (x, k)) m t₁ → ((d : Declared) → is_typed d ≡ one_if k → On t n (flat_d d) m t₁ → Agrees fl ws b s (g d (drop x ws)) r t') → Agrees fl ws b s (bind u g) r t'
unfolding bind
tells_ok u g (there {d = d} e o) h = h d e o

pub tells_err : {B : Type 0} {fl : B → List ℕ} {ws : List Word} (u : Res Declared) (g : Declared → List Word → Res B) {n b m : ℕ} {t t₁ s t' : List ℕ} {e : Misfit}
    → Tells ws n t u (Err e) m t₁ → Agrees fl ws b s (bind u g) (Err e) t'
unfolding bind
tells_err u g amiss = fault
