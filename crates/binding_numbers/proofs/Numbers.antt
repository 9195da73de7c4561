-- Laws of the numbers of the bindings text, each at a place of the text, and of what an answer tells. Assumes nothing.
use mathlib.Core.Path.{◌≡◌, refl, sym, ◌∙◌}
use mathlib.Core.Bool.{Bool, true, false, ◌&&◌}
use mathlib.Core.List.{List, ◌∷◌}
use Prim.Native.Nat.{ℕ, ◌+◌, ◌-◌, ◌*◌, ◌≤◌, ◌<◌}
use native.Mathlib.Omega.{arith}
use native.Mathlib.Numerals.{add-one}
use lib.Dec.{leb, ltb, eqb}
use lib.ListN.{length, drop, get_or, drop_of_length-le}
use lib.Seq.{drop-cons}
use borrow.Author.Tests.{lt-ltb, le-ltb, eq-eqb, ne_eqb, leb-true, ltb-true, ltb-false, eqb-true, eqb-false}
use Rattle.language.specs.Words.{digit}
use Rattle.language.specs.Bindings.{Got, got, lost, after, byte, digits_from, number_up_to}
use Rattle.std.specs.Prelude.{Some, None, Result, Ok, Err, MatchOption, MatchResult, IsErrAnd}
use Rattle.std.specs.Bool.{then_some}
use Rattle.std.proofs.lemmas.Result.{err_from_is_err_and}
use Rattle.binding_numbers.specs.Steps.{Step, grown_of, passed, ended, number_told, Reads}
use Rattle.binding_numbers.specs.declared.Went.{Went}
use Rattle.binding_numbers.specs.declared.Lost.{Lost}
use Rattle.spelling.proofs.Laws.{both_right}

pub and_false : (t : Bool) → (t && false) ≡ false
and_false true = refl
and_false false = refl

-- ---- numbers

module _ (most n b : ℕ) where
  pub grown_letter : digit b ≡ false → grown_of most n b ≡ None
  unfolding grown_of
  grown_letter e = simp (grown_of, e)

  pub grown_zero : n ≡ 0 → grown_of most n b ≡ None
  unfolding grown_of
  grown_zero e = simp (grown_of, le-ltb 0 n (omega arith), and_false)

  pub grown_digit : digit b ≡ true → 0 < n → then_some (leb (n * 10 + (b - 48)) most) (n * 10 + (b - 48)) ≡ grown_of most n b
  unfolding grown_of
  grown_digit e h = go (leb (n * 10 + (b - 48)) most) refl
    where
      go : (t : Bool) → leb (n * 10 + (b - 48)) most ≡ t → then_some t (n * 10 + (b - 48)) ≡ grown_of most n b
      go true k = sym (simp (grown_of, e, lt-ltb _ _ h, k))
      go false k = sym (simp (grown_of, e, lt-ltb _ _ h, k))

  -- a digit follows or it does not
  pub record Follows (m : ℕ) : Type 0 where
    pub small : m ≤ most
    pub goes : (r : List ℕ) → digits_from most n (b ∷ r) ≡ digits_from most m r

  pub record Ends : Type 0 where
    pub stops : (r : List ℕ) → digits_from most n (b ∷ r) ≡ got n (b ∷ r)

  digit_or_end : MatchOption (grown_of most n b) Ends Follows
  unfolding grown_of digits_from
  digit_or_end = go (digit b && ltb 0 n && leb (n * 10 + (b - 48)) most) refl
    where
      go : (t : Bool) → (digit b && ltb 0 n && leb (n * 10 + (b - 48)) most) ≡ t → MatchOption (grown_of most n b) Ends Follows
      go true e = rw (grown_of, e) (record { small = leb-true _ most (both_right (digit b && ltb 0 n) _ e); goes = λ r. simp (digits_from, e) })
      go false e = rw (grown_of, e) (record { stops = λ r. simp (digits_from, e) })

  pub follows : {m : ℕ} → grown_of most n b ≡ Some m → Follows m
  follows e = rw e at digit_or_end

  pub ends : grown_of most n b ≡ None → Ends
  ends e = rw e at digit_or_end

-- ---- what stands at a place of a text

module _ (text : List ℕ) (x : ℕ) where
  pub digits_over : (most n : ℕ) → length text ≤ x → digits_from most n (drop x text) ≡ got n (drop x text)
  unfolding digits_from
  digits_over most n h = rw (drop_of_length-le text h)

  pub number_over : (most : ℕ) → length text ≤ x → number_up_to most (drop x text) ≡ lost (drop x text)
  unfolding number_up_to
  number_over most h = rw (drop_of_length-le text h)

  pub byte_over : {T : Type 0} (b : ℕ) (g : List ℕ → Got T) → length text ≤ x → byte b (drop x text) g ≡ lost (drop x text)
  unfolding byte
  byte_over b g h = rw (drop_of_length-le text h)

  module _ (h : x < length text) where
    pub digits_stop : (most n : ℕ) → grown_of most n (get_or text x 0) ≡ None → digits_from most n (drop x text) ≡ got n (drop x text)
    digits_stop most n e = rw (drop-cons text x 0 h) ((ends most n (get_or text x 0) e).stops _)

    pub digits_more : (most n : ℕ) {m : ℕ} → grown_of most n (get_or text x 0) ≡ Some m → digits_from most n (drop x text) ≡ digits_from most m (drop (x + 1) text)
    digits_more most n e = rw (drop-cons text x 0 h, add-one) ((follows most n (get_or text x 0) e).goes _)

    pub number_letter : (most : ℕ) → digit (get_or text x 0) ≡ false → number_up_to most (drop x text) ≡ lost (drop x text)
    unfolding number_up_to
    number_letter most e = rw (drop-cons text x 0 h) (simp (number_up_to, e))

    pub number_digit : (most : ℕ) → digit (get_or text x 0) ≡ true → number_up_to most (drop x text) ≡ digits_from most (get_or text x 0 - 48) (drop (x + 1) text)
    unfolding number_up_to
    number_digit most e = rw (drop-cons text x 0 h, add-one) (simp (number_up_to, e))

    pub byte_other : {T : Type 0} (b : ℕ) (g : List ℕ → Got T) → (get_or text x 0 ≡ b → ⊥) → byte b (drop x text) g ≡ lost (drop x text)
    unfolding byte
    byte_other b g e = rw (drop-cons text x 0 h) (simp (byte, ne_eqb b (get_or text x 0) (λ q. e (sym q))))

    pub byte_this : {T : Type 0} (b : ℕ) (g : List ℕ → Got T) → get_or text x 0 ≡ b → byte b (drop x text) g ≡ g (drop (x + 1) text)
    unfolding byte
    byte_this b g e = rw (drop-cons text x 0 h, add-one) (simp (byte, eq-eqb b (get_or text x 0) (sym e)))

-- ---- a byte that has to stand at a place

module _ (text : List ℕ) (b x : ℕ) where
  pub passed_here : x < length text → get_or text x 0 ≡ b → passed text b x ≡ Ok (x + 1)
  unfolding passed
  passed_here h e = simp (passed, lt-ltb _ _ h, eq-eqb _ _ e)

  pub passed_over : length text ≤ x → passed text b x ≡ Err (record { at = x })
  unfolding passed
  passed_over h = simp (passed, le-ltb _ _ h)

  pub passed_other : (get_or text x 0 ≡ b → ⊥) → passed text b x ≡ Err (record { at = x })
  unfolding passed
  passed_other e = simp (passed, ne_eqb _ _ e, and_false)

  module _ {T : Type 0} (g : List ℕ → Got T) where
    passed_or_not : MatchResult (passed text b x) (λ y. (y ≤ length text) × (byte b (drop x text) g ≡ g (drop y text))) (λ l. (l.at ≡ x) × (byte b (drop x text) g ≡ lost (drop l.at text)))
    passed_or_not = go (ltb x (length text)) refl (eqb (get_or text x 0) b) refl
      where
        go : (s : Bool) → ltb x (length text) ≡ s → (t : Bool) → eqb (get_or text x 0) b ≡ t → MatchResult (passed text b x) (λ y. (y ≤ length text) × (byte b (drop x text) g ≡ g (drop y text))) (λ l. (l.at ≡ x) × (byte b (drop x text) g ≡ lost (drop l.at text)))
        go true p true q = let h = ltb-true _ _ p in let e = eqb-true _ _ q in rw (passed_here h e) (omega arith, byte_this text x h b g e)
        go true p false q = let e = eqb-false _ _ q in rw (passed_other e) (refl, byte_other text x (ltb-true _ _ p) b g e)
        go false p t q = let h = ltb-false _ _ p in rw (passed_over h) (refl, byte_over text x b g h)

    pub passed_ok : {y : ℕ} → passed text b x ≡ Ok y → (y ≤ length text) × (byte b (drop x text) g ≡ g (drop y text))
    passed_ok e = rw e at passed_or_not

    pub passed_err : {l : Lost} → passed text b x ≡ Err l → (l.at ≡ x) × (byte b (drop x text) g ≡ lost (drop l.at text))
    passed_err e = rw e at passed_or_not

-- ---- what an answer tells

module _ {T : Type 0} {text : List ℕ} {most : ℕ} {what : Got T} {told : Step → Got T} {r : Step} (w : Reads text most what told r) where
  pub went_in : {a : Went} → r ≡ Ok a → a.next ≤ length text
  went_in e = rw e at w.inside

  pub went_small : {a : Went} → r ≡ Ok a → a.number ≤ most
  went_small e = rw e at w.small

  pub lost_in : {l : Lost} → r ≡ Err l → l.at ≤ length text
  lost_in e = rw e at w.inside

module _ {text : List ℕ} {most : ℕ} {what : Got ℕ} {r : Step} (w : Reads text most what (number_told text) r) where
  pub number_went : {a : Went} → r ≡ Ok a → what ≡ got a.number (drop a.next text)
  unfolding number_told
  number_went e = w.tells ∙ rw e

  pub number_lost : {l : Lost} → r ≡ Err l → what ≡ lost (drop l.at text)
  unfolding number_told
  number_lost e = w.tells ∙ rw e

-- what the exit of a `?` answers
pub exit : {T E : Type 0} {r : Result T E} {l : E} → IsErrAnd r (λ e. e ≡ l) → r ≡ Err l
exit {r = r} h = let p = err_from_is_err_and r h in p.1 ∙ rw p.2

pub after_got : {S T : Type 0} {what : Got S} {s : S} {x : List ℕ} (g : S → List ℕ → Got T) → what ≡ got s x → after what g ≡ g s x
unfolding after
after_got g e = rw e

pub after_lost : {S T : Type 0} {what : Got S} {x : List ℕ} (g : S → List ℕ → Got T) → what ≡ lost x → after what g ≡ lost x
unfolding after
after_lost g e = rw e

module _ (most : ℕ) (bs : List ℕ) where
  pub ended_lost : {x : List ℕ} → number_up_to most bs ≡ lost x → ended most bs ≡ lost x
  unfolding ended
  ended_lost e = after_lost _ e

  pub ended_went : {v : ℕ} {x : List ℕ} → number_up_to most bs ≡ got v x → ended most bs ≡ byte 10 x (λ z. got v z)
  unfolding ended
  ended_went e = after_got _ e
