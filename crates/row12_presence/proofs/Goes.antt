-- What the walk does on items that stand one after the other: the faulty places that it meets, and the sets that it leaves. Assumes nothing.
use mathlib.Core.Path.{◌≡◌, refl, sym, ap, ap₂, ◌∙◌, subst}
use mathlib.Core.Bool.{Bool, true, false}
use mathlib.Core.List.{List, [], ◌∷◌, ◌++◌, append_assoc, append-nil}
use mathlib.Core.Option.{Option, none, some}
use Prim.Native.Nat.{ℕ, min}
use Rattle.language.specs.Text.{earliest}
use Rattle.language.specs.Names.{when}
use Rattle.placed.proofs.Earliest.{earliest_same}
use Rattle.words.specs.Found.{Place}
use Rattle.std.specs.Prelude.{None}
use Rattle.words.specs.Found.{earlier_of, place_told}
use Rattle.settled.specs.Form.{six}
use Rattle.placed.proofs.Same.{swap}
use Rattle.row12_presence.specs.declared.Met.{Met}
use Rattle.row12_presence.specs.Walk.{faulty, next_of, soonest, walk}

-- the earliest of some places
abbrev pub told : List ℕ → Place
told l = place_told (earliest l)

told_next : (p : ℕ) (l : List ℕ) → earlier_of p (told l) ≡ told (p ∷ l)
unfolding earliest place_told earlier_of
told_next p l = go (earliest l)
  where
    go : (o : Option ℕ) → earlier_of p (place_told o) ≡ place_told (elim o [ none ↦ some p | some q ↦ some (min p q) ])
    go none = refl
    go (some q) = refl

told_when : (b : Bool) (p : ℕ) (l : List ℕ) → soonest b p (told l) ≡ told (l ++ when b p)
unfolding soonest when
told_when true p l = told_next p l ∙ ap place_told (earliest_same (swap (p ∷ []) l).to (swap (p ∷ []) l).from)
told_when false p l = ap told (sym (append-nil l))

-- from the sets m over the items a: the faulty places are f, and the sets are then m'
pub record Goes (m : Met) (a f : List ℕ) (m' : Met) : Type 0 where
  pub on : (fs r : List ℕ) → walk m (a ++ r) (told fs) ≡ walk m' r (told (fs ++ f))

pub goes_none : {m : Met} → Goes m [] [] m
goes_none {m} = record { on = λ fs r. ap (λ (l : List ℕ). walk m r (told l)) (sym (append-nil fs)) }

pub goes_both : {m m' m'' : Met} {a b f g : List ℕ} → Goes m a f m' → Goes m' b g m'' → Goes m (a ++ b) (f ++ g) m''
goes_both {m} {m''} {a} {b} {f} {g} d e =
    record { on = λ fs r. ap (λ (l : List ℕ). walk m l (told fs)) (append_assoc a b r) ∙ d.on fs (b ++ r) ∙ e.on (fs ++ f) r ∙ ap (λ (l : List ℕ). walk m'' r (told l)) (append_assoc fs f g) }

pub goes_told : {m m' : Met} {a f g : List ℕ} → f ≡ g → Goes m a f m' → Goes m a g m'
goes_told {m} {m'} {a} e d = subst (λ (f : List ℕ). Goes m a f m') e d

pub goes_led : {m m' m'' : Met} {a f : List ℕ} → m' ≡ m'' → Goes m a f m' → Goes m a f m''
goes_led {m} {a = a} {f = f} e d = subst (λ (x : Met). Goes m a f x) e d

-- one item
pub goes_six : {m m' : Met} (o p a b c d : ℕ) {t : Bool} → faulty m o a ≡ t → next_of m o a b ≡ m' → Goes m (six o p a b c d) (when t p) m'
unfolding walk
goes_six {m} {m'} o p a b c d {t} e n =
    record { on = λ fs r. ap₂ (λ (x : Met) (y : Bool). walk x r (soonest y p (told fs))) n e ∙ ap (walk m' r) (told_when t p fs) }

-- an item that is not at fault, alone and after others
pub quiet : {m m' : Met} (o p a b c d : ℕ) → (faulty m o a ≡ false) × (next_of m o a b ≡ m') → Goes m (six o p a b c d) [] m'
unfolding when
quiet o p a b c d q = goes_six o p a b c d q.0 q.1

pub ends : {m m' m'' : Met} {l f : List ℕ} (o p a b c d : ℕ) → Goes m l f m' → (faulty m' o a ≡ false) × (next_of m' o a b ≡ m'') → Goes m (l ++ six o p a b c d) f m''
ends {f = f} o p a b c d g q = goes_told (append-nil f) (goes_both g (quiet o p a b c d q))

pub goes_whole : {m m' : Met} {a f : List ℕ} → Goes m a f m' → walk m a None ≡ told f
unfolding walk earliest place_told
goes_whole {m} {a = a} d = ap (λ (l : List ℕ). walk m l None) (sym (append-nil a)) ∙ d.on [] []
