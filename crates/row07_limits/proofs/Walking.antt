-- The size before an item, its faults, and the walk over all, each as a loop comes by it. Assumes nothing.
use mathlib.Core.Path.{◌≡◌, refl, sym, ap, ap₂, ◌∙◌}
use mathlib.Core.Bool.{Bool, true, false}
use mathlib.Core.List.{List, ◌∷◌}
use Prim.Native.Nat.{ℕ, suc, ◌+◌}
use native.Mathlib.Numerals.{add-one}
use lib.Dec.{eqb}
use Rattle.language.specs.Text.{earliest}
use Rattle.language.specs.Names.{when}
use Rattle.words.specs.Found.{place_told}
use Rattle.words.specs.Found.{Place}
use Rattle.std.specs.Prelude.{Option as Optional, None}
use Rattle.std.specs.Bool.{then_some}
use Rattle.std.specs.Option.{unwrap_or}
use Rattle.tape.specs.Walk.{op_at, place_at, value_at}
use Rattle.row07_limits.specs.declared.Room.{Room}
use Rattle.part_lengths.specs.Parts.{Triple, before, held_in, both_of}
use Rattle.row07_limits.specs.Walk.{size_in, size_place_in, full_for, bad_size, last_limit, other_limit, next_room, item_faults, faults_of, room_at, faults_at}
use Rattle.part_lengths.proofs.Backs.{both_told}

-- ---- the size before an item

abbrev Sized : (t : List ℕ) (i p : ℕ) → ℕ × ℕ → Type 0
Sized t i p s = s ≡ (size_place_in (before t i) p, size_in (before t i))

pub sized_none : (t : List ℕ) (i p : ℕ) → i ≡ 0 → Sized t i p (p, 1)
unfolding before size_in size_place_in
sized_none t i p e = rw e refl

module _ (t : List ℕ) (i j p : ℕ) (h : i ≡ suc j) where
  opens : before t i ≡ record { op = op_at t j; place = place_at t j; value = value_at t j } ∷ before t j
  unfolding before
  opens = rw h refl

  pub sized_here : (b : Bool) → eqb (op_at t j) 45 ≡ b → Sized t i p (unwrap_or (then_some b (place_at t j, value_at t j)) (p, 1))
  unfolding size_in size_place_in
  sized_here true e = sym (ap (λ (l : List Triple). (size_place_in l p, size_in l)) opens ∙ simp (size_in, size_place_in, e))
  sized_here false e = sym (ap (λ (l : List Triple). (size_place_in l p, size_in l)) opens ∙ simp (size_in, size_place_in, e))

-- ---- an item's faults

told_when : (b : Bool) (p : ℕ) → then_some b p ≡ place_told (earliest (when b p))
unfolding when earliest place_told
told_when true p = refl
told_when false p = refl

module _ (ps : List ℕ) (r : Room) (t : List ℕ) (i : ℕ) where
  pub item_told : {b c : Bool} {o p : Place} {s : ℕ × ℕ} → b ≡ full_for r (op_at t i) (value_at t i) → o ≡ then_some b (place_at t i)
      → Sized t i (place_at t i) s → c ≡ bad_size r.cells (op_at t i) s.1 → p ≡ then_some c s.0
      → {l m : Optional ℕ} → l ≡ last_limit (op_at t i) (value_at t i) → m ≡ other_limit (op_at t i) (value_at t i) → {h : Place} → h ≡ place_told (earliest (held_in ps (before t i) l m))
      → {x y : Place} → x ≡ both_of p h → y ≡ both_of o x → y ≡ place_told (earliest (faults_of ps r t i))
  unfolding item_faults
  item_told {b} {c} {s = s} e1 e2 e3 e4 e5 e6 e7 e8 e9 e10 =
      e10 ∙ ap₂ both_of (e2 ∙ told_when b _ ∙ ap (λ (b : Bool). place_told (earliest (when b (place_at t i)))) e1)
      (e9 ∙ ap₂ both_of (e5 ∙ told_when c _ ∙ ap₂ (λ (c : Bool) (q : ℕ). place_told (earliest (when c q))) (e4 ∙ ap (λ (s : ℕ × ℕ). bad_size r.cells (op_at t i) s.1) e3) (ap (λ (s : ℕ × ℕ). s.0) e3)) (e8 ∙ ap₂ (λ (l m : Optional ℕ). place_told (earliest (held_in ps (before t i) l m))) e6 e7) ∙ both_told _ _)
      ∙ both_told _ _

-- ---- the walk

module _ (ps t : List ℕ) (i : ℕ) where
  pub faults_more : {room : Room} {here first r : Place} → room ≡ room_at t i → first ≡ place_told (earliest (faults_at ps t i))
      → here ≡ place_told (earliest (faults_of ps room t i)) → r ≡ both_of here first → r ≡ place_told (earliest (faults_at ps t (i + 1)))
  unfolding faults_at
  faults_more {room} m f h q = rw (add-one i) (q ∙ ap₂ both_of (h ∙ ap (λ (r : Room). place_told (earliest (faults_of ps r t i))) m) f ∙ both_told _ _)

module _ (t : List ℕ) (i : ℕ) where
  pub room_more : {room r : Room} {z : ℕ} → room ≡ room_at t i → z ≡ size_in (before t i) → r ≡ next_room room (op_at t i) z → r ≡ room_at t (i + 1)
  unfolding room_at
  room_more m s e = rw (add-one i) (e ∙ ap₂ (λ (r : Room) (z : ℕ). next_room r (op_at t i) z) m s)

pub no_fault : (ps t : List ℕ) → None ≡ place_told (earliest (faults_at ps t 0))
unfolding faults_at earliest place_told
no_fault ps t = refl
