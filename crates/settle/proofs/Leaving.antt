-- What the walk writes on some items, whatever types wait and whatever was written before. Assumes nothing.
use mathlib.Core.Path.{◌≡◌, sym, subst}
use mathlib.Core.List.{List, [], ◌∷◌, ◌++◌, append_assoc, append-nil}
use Prim.Native.Nat.{ℕ}
use Rattle.language.specs.Parts.{each}
use Rattle.placed.specs.Placed.{Every}
use Rattle.tape.specs.Tape.{item, flats}
use Rattle.tape.proofs.Tapes.{Goes, goes_none, goes_both, goes_item}
use Rattle.item_writes.specs.Walk.{Around, State, step}

abbrev pub state : (types : List (List ℕ)) → (out : List ℕ) → (lets : List (List ℕ)) → (vals size : ℕ) → State
state types out lets vals size = record { types = types; out = out; lets = lets; vals = vals; size = size }

-- the same, said of equal numbers written
pub goes_wrote : {f : State → ℕ → ℕ → ℕ → State} {s : State} {items : List ℕ} {ts lets : List (List ℕ)} {vals size : ℕ} {l m : List ℕ} → l ≡ m → Goes f s items (state ts l lets vals size) → Goes f s items (state ts m lets vals size)
goes_wrote {f} {s} {items} {ts} {lets} {vals} {size} e g = subst (λ (l : List ℕ). Goes f s items (state ts l lets vals size)) e g

-- items that leave all but the numbers written as it was
pub record Writes (a : Around) (lets : List (List ℕ)) (vals size : ℕ) (items out : List ℕ) : Type 0 where
  pub on : (ts : List (List ℕ)) (l : List ℕ) → Goes (step a) (state ts l lets vals size) items (state ts (l ++ out) lets vals size)

module _ {a : Around} {lets : List (List ℕ)} {vals size : ℕ} where
  pub wrote : {items p q : List ℕ} → p ≡ q → Writes a lets vals size items p → Writes a lets vals size items q
  wrote {items} e d = subst (λ (p : List ℕ). Writes a lets vals size items p) e d

  pub writes_none : Writes a lets vals size [] []
  writes_none = record { on = λ ts l. goes_wrote (sym (append-nil l)) goes_none }

  pub writes_both : {x y p q : List ℕ} → Writes a lets vals size x p → Writes a lets vals size y q → Writes a lets vals size (x ++ y) (p ++ q)
  writes_both {p = p} {q = q} d e = record { on = λ ts l. goes_wrote (append_assoc l p q) (goes_both (d.on ts l) (e.on ts (l ++ p))) }

  pub writes_item : (o p v : ℕ) {out : List ℕ} → ((ts : List (List ℕ)) (l : List ℕ) → step a (state ts l lets vals size) o p v ≡ state ts (l ++ out) lets vals size) → Writes a lets vals size (item o p v) out
  writes_item o p v e = record { on = λ ts l. goes_item o p v (e ts l) }

  pub writes_three : {x y z p q r : List ℕ} → Writes a lets vals size x p → Writes a lets vals size y q → Writes a lets vals size z r → Writes a lets vals size ((x ++ y) ++ z) (p ++ (q ++ r))
  writes_three {p = p} {q = q} {r = r} d e f = wrote (append_assoc p q r) (writes_both (writes_both d e) f)

  pub writes_four : {x y z w p q r u : List ℕ} → Writes a lets vals size x p → Writes a lets vals size y q → Writes a lets vals size z r → Writes a lets vals size w u → Writes a lets vals size (((x ++ y) ++ z) ++ w) (p ++ (q ++ (r ++ u)))
  writes_four {p = p} {q = q} {r = r} {u = u} d e f g = wrote (append_assoc p q (r ++ u)) (writes_three (writes_both d e) f g)

  pub writes_many : {T : Type 0} {P : T → Type 0} (fl F : T → List ℕ) → ((x : T) → P x → Writes a lets vals size (fl x) (F x)) → (l : List T) → Every P l → Writes a lets vals size (flats fl l) (each F l)
  unfolding flats each
  writes_many fl F d [] h = writes_none
  writes_many fl F d (x ∷ l) h = writes_both (d x h.0) (writes_many fl F d l h.1)
