-- A walk that keeps a state and the places of the items that a test marks: what it does on a list of numbers, whatever stands before and after it. Assumes nothing.
use mathlib.Core.Path.{◌≡◌, refl, sym, ap, ap₂, ◌∙◌, subst}
use mathlib.Core.Bool.{Bool, true, false}
use mathlib.Core.List.{List, [], ◌∷◌, ◌++◌, append_assoc, append-nil}
use Prim.Native.Nat.{ℕ, zero, suc, ◌+◌, ◌*◌, ◌≤◌, ◌<◌}
use lib.ListN.{length, take}
use Rattle.language.specs.Parts.{each}
use Rattle.language.specs.Names.{when}
use Rattle.placed.specs.Placed.{Every}
use Rattle.tape.specs.Tape.{item, flats}
use Rattle.tape.specs.Walk.{op_at, place_at, value_at, put, marked}
use Rattle.tape.proofs.Tapes.{fold, up_to, by_index, Goes, goes_none, goes_both, goes_item, goes_whole}

-- the faulty places and the state
pub record Ran (S : Type 0) : Type 0 where
  pub faults : List ℕ
  pub seen : S

abbrev pub ran : {S : Type 0} → List ℕ → S → Ran S
ran fs s = record { faults = fs; seen = s }

module _ {S : Type 0} (test : S → ℕ → ℕ → ℕ → Bool) (next : S → ℕ → ℕ → ℕ → S) where
  -- one more item
  unfoldable pub meet : Ran S → ℕ → ℕ → ℕ → Ran S
  meet r o p v = ran (put (test r.seen o p v) p r.faults) (next r.seen o p v)

  pub record Does (s : S) (a f : List ℕ) (s' : S) : Type 0 where
    pub goes : (fs : List ℕ) → Goes meet (ran fs s) a (ran (fs ++ f) s')

  -- by index, where `state` is the state before each item
  module _ (t : List ℕ) (state : ℕ → S) (step : (i : ℕ) → next (state i) (op_at t i) (place_at t i) (value_at t i) ≡ state (suc i)) where
    abbrev pub tested : ℕ → Bool
    tested i = test (state i) (op_at t i) (place_at t i) (value_at t i)

    met : (i : ℕ) → up_to meet (ran [] (state 0)) t i ≡ ran (marked tested t i) (state i)
    unfolding up_to meet marked
    met zero = refl
    met (suc i) = ap (λ (r : Ran S). meet r (op_at t i) (place_at t i) (value_at t i)) (met i) ∙ ap (ran (marked tested t (suc i))) (step i)

    -- a tape that holds a list of numbers, of which this is known
    pub walked : {n many : ℕ} {a f : List ℕ} {s' : S} → n ≤ length t → 3 * many ≤ n → n < 3 * many + 3 → take n t ≡ a → Does (state 0) a f s' → ran (marked tested t many) (state many) ≡ ran f s'
    walked {n} {many} k low high e d = sym (by_index meet (ran [] (state 0)) t n many k low high ∙ met many) ∙ ap (fold meet (ran [] (state 0))) e ∙ goes_whole (d.goes [])

put_when : (b : Bool) (p : ℕ) (fs : List ℕ) → put b p fs ≡ fs ++ when b p
unfolding put when
put_when true p fs = refl
put_when false p fs = sym (append-nil fs)

module _ {S : Type 0} where
  more : {step : Ran S → ℕ → ℕ → ℕ → Ran S} {r : Ran S} {s : S} {a f g : List ℕ} → f ≡ g → Goes step r a (ran f s) → Goes step r a (ran g s)
  more {step} {r} {s} {a} e d = subst (λ (f : List ℕ). Goes step r a (ran f s)) e d

module _ {S : Type 0} {test : S → ℕ → ℕ → ℕ → Bool} {next : S → ℕ → ℕ → ℕ → S} where
  pub told : {s s' : S} {a f g : List ℕ} → f ≡ g → Does test next s a f s' → Does test next s a g s'
  told {s} {s'} {a} e d = subst (λ (f : List ℕ). Does test next s a f s') e d

  pub none : {s : S} → Does test next s [] [] s
  none = record { goes = λ fs. more (sym (append-nil fs)) goes_none }

  pub both : {s s' s'' : S} {a b f g : List ℕ} → Does test next s a f s' → Does test next s' b g s'' → Does test next s (a ++ b) (f ++ g) s''
  both {f = f} {g = g} d e = record { goes = λ fs. more (append_assoc fs f g) (goes_both (d.goes fs) (e.goes (fs ++ f))) }

  pub single : {s s' : S} (o p v : ℕ) {b : Bool} → test s o p v ≡ b → next s o p v ≡ s' → Does test next s (item o p v) (when b p) s'
  unfolding meet
  single {s} {s'} o p v {b} e n = record { goes = λ fs. more (put_when b p fs) (goes_item o p v (ap₂ (λ (b : Bool) (s : S). ran (put b p fs) s) e n)) }

  -- an item that is not at fault, after others
  pub ends : {s s' : S} {a f : List ℕ} (o p v : ℕ) → Does test next s a f s' → (test s' o p v ≡ false) × (next s' o p v ≡ s') → Does test next s (a ++ item o p v) f s'
  unfolding when
  ends {f = f} o p v d q = told (append-nil f) (both d (single o p v q.0 q.1))

  pub many : {T : Type 0} {s : S} {P : T → Type 0} (fl F : T → List ℕ) → ((x : T) → P x → Does test next s (fl x) (F x) s) → (l : List T) → Every P l → Does test next s (flats fl l) (each F l) s
  unfolding flats each
  many fl F d [] h = none
  many fl F d (x ∷ l) h = both (d x h.0) (many fl F d l h.1)
