-- What a reader of words answers, and how readers are put together: no grammar here. Assumes nothing: these are definitions.
use Rattle.std.specs.Prelude.{Bool, true, false, List, [], ◌∷◌, ℕ, zero, suc, ◌-◌, eqb, length}
use Rattle.std.proofs.Math.Option.{Option, none, some}
use Prim.Native.String.{String}
use lib.Text.{eqt}
use Rattle.language.specs.Text.{Name, same}
use Rattle.language.specs.Words.{Word, num, name, digits, fixed, Numeral, bytes}

-- what was read and the words after it; the words from the first one that does not fit on; or no fuel
pub data Res (T : Type 0) : Type 0 where
  ok : T → List Word → Res T
  bad : List Word → Res T
  dry : Res T

unfoldable pub bind : {S T : Type 0} → Res S → (S → List Word → Res T) → Res T
bind (ok t ws) g = g t ws
bind (bad ws) g = bad ws
bind dry g = dry

-- if the first word passes the test then g of what it holds and the rest, else d of all
unfoldable pub on : {A T : Type 0} → (Word → Option A) → List Word → (A → List Word → Res T) → (List Word → Res T) → Res T
on t [] g d = d []
on t (x ∷ r) g d = elim (t x) [ some a ↦ g a r | none ↦ d (x ∷ r) ]

-- ---- tests of a word

unfoldable pub is_num : Word → Option Numeral
is_num (num n) = some n
is_num (name n) = none
is_num (digits n) = none
is_num (fixed s p) = none

unfoldable pub is_name : Word → Option Name
is_name (num n) = none
is_name (name n) = some n
is_name (digits n) = none
is_name (fixed s p) = none

unfoldable pub is_digits : Word → Option Numeral
is_digits (num n) = none
is_digits (name n) = none
is_digits (digits n) = some n
is_digits (fixed s p) = none

-- this fixed word, at its place
unfoldable pub is : String → Word → Option ℕ
is v (num n) = none
is v (name n) = none
is v (digits n) = none
is v (fixed s p) = elim (eqt v s) [ true ↦ some p | false ↦ none ]

-- a name that is spelled so, and a number that is one figure
unfoldable pub is_the : String → Word → Option ℕ
is_the v (num n) = none
is_the v (name n) = elim (same (bytes v) n.spelled) [ true ↦ some n.at | false ↦ none ]
is_the v (digits n) = none
is_the v (fixed s p) = none

unfoldable pub is_figure : ℕ → Word → Option ℕ
is_figure v (num n) = elim (eqb v n.value) [ true ↦ elim (eqb 1 n.long) [ true ↦ some n.at | false ↦ none ] | false ↦ none ]
is_figure v (name n) = none
is_figure v (digits n) = none
is_figure v (fixed s p) = none

-- ---- sequences

-- the words after a fixed word, which must stand here
unfoldable pub expect : {T : Type 0} → String → List Word → (ℕ → List Word → Res T) → Res T
expect v ws g = on (is v) ws g (λ ws. bad ws)

-- what r reads, then a fixed word
unfoldable pub until : {S T : Type 0} → Res S → String → (S → ℕ → List Word → Res T) → Res T
until r v g = bind r (λ a x. expect v x (λ p y. g a p y))

-- none or more of a kind whose first word passes the test; `item` reads on from there
module _ {A T : Type 0} (t : Word → Option A) (item : ℕ → A → List Word → Res T) where
  unfoldable pub many_p : ℕ → List Word → Res (List T)
  many_p zero ws = dry
  many_p (suc f) ws = on t ws (λ a r. bind (item f a r) (λ x y. bind (many_p f y) (λ l z. ok (x ∷ l) z))) (λ ws. ok [] ws)

  -- one or more
  unfoldable pub some_p : ℕ → List Word → Res (List T)
  some_p f ws = on t ws (λ a r. bind (item f a r) (λ x y. bind (many_p f y) (λ l z. ok (x ∷ l) z))) (λ ws. bad ws)

-- one or more with commas between
module _ {T : Type 0} (item : ℕ → List Word → Res T) where
  unfoldable pub commas_p : ℕ → List Word → Res (List T)
  commas_p zero ws = dry
  commas_p (suc f) ws = bind (item f ws) (λ x y. on (is ",") y (λ p r. bind (commas_p f r) (λ l z. ok (x ∷ l) z)) (λ y. ok (x ∷ []) y))

-- ---- a whole text: what it says, or the index of the first word that does not fit (their number, where the text ends too early)

pub data Verdict (T : Type 0) : Type 0 where
  tree : T → Verdict T
  fault : ℕ → Verdict T
  tired : Verdict T

unfoldable pub whole : {T : Type 0} → ℕ → Res T → Verdict T
whole n (ok t []) = tree t
whole n (ok t (x ∷ r)) = fault (n - length (x ∷ r))
whole n (bad ws) = fault (n - length ws)
whole n dry = tired
