-- What the walk does on types and expressions: the items that it leaves, and the faults, whatever their order. Assumes nothing.
use mathlib.Core.Path.{◌≡◌, refl, sym, ap, ap₂, ◌∙◌}
use mathlib.Core.List.{List, [], ◌∷◌, ◌++◌, append_assoc, append-nil}
use Prim.Native.Nat.{ℕ, zero, suc, ◌+◌, ◌*◌, ◌≤◌, ◌<◌}
use lib.Dec.{ltb}
use lib.ListN.{length, take}
use Rattle.language.specs.Limits.{limits}
use Rattle.language.specs.Names.{when}
use Rattle.language.specs.Words.{Numeral}
use Rattle.language.specs.Parts.{each, Item, reads, items, breadth_items, amount_items, type_start, start}
use Rattle.language.specs.Counts.{type_words, expr_words}
use Rattle.language.specs.Tree.{Ty, number, environment, port, plus, minus, log, ceil, floor, most, entry, within, Breadth, bits, Amount, given, value}
use Rattle.language.specs.Tree.{Expr, plain, sized, copies, read, cell, bit, range, inside, joined, beside, unary, binary, choice, either, select, arm, default}
use Rattle.tape.specs.Tape.{SELECT, item, flat_t, flat_b, flat_a, flat}
use Rattle.tape.specs.Walk.{op_at, place_at, value_at}
use Rattle.tape.proofs.Tapes.{fold, up_to, by_index, Goes, goes_none, goes_both, goes_item}
use Rattle.placed.proofs.Every.{each_append}
use Rattle.placed.proofs.Same as Same
use Rattle.placed.proofs.Same.{Same, is, equal, then, swap}
use Rattle.row07_limits.specs.declared.Room.{Room}
use Rattle.std.specs.Prelude.{Some, None}
use Rattle.std.specs.Option.{unwrap_or}
use Rattle.part_lengths.specs.Parts.{Triple, before, back, one, long_in, held_in}
use Rattle.row07_limits.specs.Walk.{last_limit, other_limit, size_in, full_for, bad_size, left_of, again_of, all_room, next_room, item_faults, room_at, faults_at}
use Rattle.row07_limits.proofs.Sums.{nth, ◌⊕◌, nil, same_sum}
use Rattle.row07_limits.proofs.Wholes.{it, onto_t, onto_b, onto_a, onto, Whole, type_whole, whole_words, whole_start, whole_rest}

-- ---- the walk as a fold: the faults, the room and the items so far

pub record Ran : Type 0 where
  pub faults : List ℕ
  pub room : Room
  pub items : List Triple

abbrev pub ran : List ℕ → Room → List Triple → Ran
ran fs r l = record { faults = fs; room = r; items = l }

unfoldable pub meet : List ℕ → Ran → ℕ → ℕ → ℕ → Ran
meet ps r o p v = ran (item_faults ps r.room r.items o p v ++ r.faults) (next_room r.room o (size_in r.items)) (it o p v r.items)

module _ (ps t : List ℕ) where
  met : (i : ℕ) → up_to (meet ps) (ran [] all_room []) t i ≡ ran (faults_at ps t i) (room_at t i) (before t i)
  unfolding up_to meet faults_at room_at before
  met zero = refl
  met (suc i) = ap (λ (r : Ran). meet ps r (op_at t i) (place_at t i) (value_at t i)) (met i)

  pub walked : (n many : ℕ) → n ≤ length t → 3 * many ≤ n → n < 3 * many + 3 → fold (meet ps) (ran [] all_room []) (take n t) ≡ ran (faults_at ps t many) (room_at t many) (before t many)
  walked n many k low high = by_index (meet ps) (ran [] all_room []) t n many k low high ∙ met many

-- ---- what it does on a list of numbers, whatever stands before and after it

pub record Does (ps : List ℕ) (r : Room) (l : List Triple) (a f : List ℕ) (r' : Room) (l' : List Triple) : Type 0 where
  pub goes : (fs : List ℕ) → (gs : List ℕ) × Same gs (f ++ fs) × Goes (meet ps) (ran fs r l) a (ran gs r' l')

module _ {ps : List ℕ} where
  pub told : {r r' : Room} {l l' : List Triple} {a f g : List ℕ} → Same f g → Does ps r l a f r' l' → Does ps r l a g r' l'
  told s d = record { goes = λ fs. let x = d.goes fs in (x.0, then x.1 (Same.beside s (equal fs)), x.2) }

  pub none : {r : Room} {l : List Triple} → Does ps r l [] [] r l
  none = record { goes = λ fs. (fs, equal fs, goes_none) }

  pub both : {r r' r'' : Room} {l l' l'' : List Triple} {a b f g : List ℕ} → Does ps r l a f r' l' → Does ps r' l' b g r'' l'' → Does ps r l (a ++ b) (f ++ g) r'' l''
  both {f = f} {g = g} d e =
      record {
        goes = λ fs. let x = d.goes fs in let y = e.goes x.0 in
            (y.0, then y.1 (then (Same.beside (equal g) x.1) (same_sum (f ∷ g ∷ fs ∷ []) (nth 1 ⊕ (nth 0 ⊕ nth 2)) ((nth 0 ⊕ nth 1) ⊕ nth 2) refl)), goes_both x.2 y.2);
      }

  pub single : {r r' : Room} {l : List Triple} (o p w : ℕ) {f : List ℕ} → item_faults ps r l o p w ≡ f → next_room r o (size_in l) ≡ r' → Does ps r l (item o p w) f r' (it o p w l)
  unfolding meet
  single {l = l} o p w {f} e n = record { goes = λ fs. (f ++ fs, equal (f ++ fs), goes_item o p w (ap₂ (λ (f : List ℕ) (r : Room). ran (f ++ fs) r (it o p w l)) e n)) }

  -- an item with no faults that takes no room, after others
  pub ends : {r r' : Room} {l l' : List Triple} {a f : List ℕ} (o p w : ℕ) → Does ps r l a f r' l' → (item_faults ps r' l' o p w ≡ []) × (next_room r' o (size_in l') ≡ r') → Does ps r l (a ++ item o p w) f r' (it o p w l')
  ends {f = f} o p w d q = told (is (append-nil f)) (both d (single o p w q.0 q.1))

-- ---- the faults of types, whole expressions, and what stands in an expression

module _ (ps : List ℕ) where
  unfoldable pub type_f : Ty → List ℕ
  type_f t = long_in ps limits.typeWords (type_words t) (type_start t)

  unfoldable pub whole_f : Expr → List ℕ
  whole_f e = long_in ps limits.expressionWords (expr_words e) (start e)

  unfoldable pub number_f : Numeral → List ℕ
  number_f n = when (ltb limits.copies n.value) n.at

  unfoldable pub thing_f : Item → List ℕ
  thing_f (Item.type t) = type_f t
  thing_f (Item.number n) = number_f n
  thing_f (reads n) = []
  thing_f (Item.value n) = []

  abbrev pub things : List Item → List ℕ
  things l = each thing_f l

  -- the parts that an item holds
  module _ {on : List Triple → List Triple} {p n : ℕ} (x : Whole on p n) (l : List Triple) where
    pub held_last : (k : ℕ) → held_in ps (on l) (Some k) None ≡ long_in ps k n p
    unfolding held_in
    held_last k = ap₂ (long_in ps k) (whole_words x l) (whole_start x l)

    pub held_both : {on' : List Triple → List Triple} {p' n' : ℕ} → Whole on' p' n' → (k j : ℕ) → held_in ps (on' (on l)) (Some k) (Some j) ≡ long_in ps k n' p' ++ long_in ps j n p
    unfolding held_in
    held_both y k j =
        ap₂ (λ (a b : List ℕ). a ++ b) (ap₂ (long_in ps k) (whole_words y (on l)) (whole_start y (on l)))
        (ap (λ (m : List Triple). long_in ps j (back one m).words (unwrap_or (back one m).start 0)) (whole_rest y (on l)) ∙ ap₂ (long_in ps j) (whole_words x l) (whole_start x l))

  -- ---- types and expressions

  pub type_does : (r : Room) (l : List Triple) (t : Ty) → Does ps r l (flat_t t) [] r (onto_t t l)
  unfolding flat_t onto_t item_faults full_for bad_size held_in last_limit other_limit next_room left_of again_of when
  type_does r l (number n) = single _ _ _ refl refl
  type_does r l (environment n) = single _ _ _ refl refl
  type_does r l (port n) = single _ _ _ refl refl
  type_does r l (plus a b) = ends _ _ _ (both (type_does r l a) (type_does r (onto_t a l) b)) (refl, refl)
  type_does r l (minus a b) = ends _ _ _ (both (type_does r l a) (type_does r (onto_t a l) b)) (refl, refl)
  type_does r l (log p a) = ends _ _ _ (type_does r l a) (refl, refl)
  type_does r l (ceil p a) = ends _ _ _ (type_does r l a) (refl, refl)
  type_does r l (floor p a) = ends _ _ _ (type_does r l a) (refl, refl)
  type_does r l (most p a) = ends _ _ _ (type_does r l a) (refl, refl)
  type_does r l (entry a b) = ends _ _ _ (both (type_does r l a) (type_does r (onto_t a l) b)) (refl, refl)
  type_does r l (within p a) = ends _ _ _ (type_does r l a) (refl, refl)

  breadth_does : (r : Room) (l : List Triple) (w : Breadth) → Does ps r l (flat_b w) (things (breadth_items w)) r (onto_b w l)
  unfolding flat_b onto_b breadth_items each thing_f type_f item_faults full_for bad_size held_in last_limit other_limit next_room left_of again_of when
  breadth_does r l (bits n) = single _ _ _ refl refl
  breadth_does r l (Breadth.typed p t) = told (is (sym (append-nil _))) (both (type_does r l t) (single _ _ _ (held_last (type_whole t) l 64) refl))

  amount_does : (r : Room) (l : List Triple) (a : Amount) → Does ps r l (flat_a a) (things (amount_items a)) r (onto_a a l)
  unfolding flat_a onto_a amount_items each thing_f item_faults full_for bad_size held_in last_limit other_limit next_room left_of again_of when
  amount_does r l (given n) = single _ _ _ refl refl
  amount_does r l (value n) = single _ _ _ refl refl

  -- things beside things
  join : {r r' r'' : Room} {l l' l'' : List Triple} {a b : List ℕ} (x y : List Item) → Does ps r l a (things x) r' l' → Does ps r' l' b (things y) r'' l'' → Does ps r l (a ++ b) (things (x ++ y)) r'' l''
  join x y d e = told (is (sym (each_append thing_f x y))) (both d e)

  join3 : {r : Room} {l l' l'' l''' : List Triple} {a b c : List ℕ} (x y z : List Item) → Does ps r l a (things x) r l' → Does ps r l' b (things y) r l'' → Does ps r l'' c (things z) r l''' → Does ps r l ((a ++ b) ++ c) (things (x ++ (y ++ z))) r l'''
  join3 x y z d e f = told (is (ap (each thing_f) (append_assoc x y z))) (join (x ++ y) z (join x y d e) f)

  -- a type after an expression, and two
  one_type : (x : List Item) (t : Ty) → (things x ++ []) ++ type_f t ≡ things (x ++ (Item.type t ∷ []))
  unfolding each thing_f
  one_type x t = ap₂ (λ (a b : List ℕ). a ++ b) (append-nil (things x)) (sym (append-nil (type_f t))) ∙ sym (each_append thing_f x (Item.type t ∷ []))

  two_types : (x : List Item) (t u : Ty) → Same (((things x ++ []) ++ []) ++ (type_f u ++ type_f t)) (things (x ++ (Item.type t ∷ Item.type u ∷ [])))
  unfolding each thing_f
  two_types x t u = then (same_sum (things x ∷ type_f t ∷ type_f u ∷ []) (((nth 0 ⊕ nil) ⊕ nil) ⊕ (nth 2 ⊕ nth 1)) (nth 0 ⊕ (nth 1 ⊕ (nth 2 ⊕ nil))) refl) (is (sym (each_append thing_f x (Item.type t ∷ Item.type u ∷ []))))

  pub expr_does : (r : Room) (l : List Triple) (e : Expr) → Does ps r l (flat e) (things (items e)) r (onto e l)
  unfolding flat onto items each thing_f type_f number_f item_faults full_for bad_size held_in last_limit other_limit next_room left_of again_of when
  expr_does r l (plain n) = single _ _ _ refl refl
  expr_does r l (sized w a) = join (breadth_items w) (amount_items a) (breadth_does r l w) (amount_does r _ a)
  expr_does r l (copies n e) = told (swap (things (items e)) (number_f n)) (both (expr_does r l e) (single _ _ _ (append-nil _) refl))
  expr_does r l (read n) = single _ _ _ refl refl
  expr_does r l (cell n a) = ends _ _ _ (expr_does r l a) (refl, refl)
  expr_does r l (bit e p i) = told (is (one_type (items e) i)) (both (both (expr_does r l e) (type_does r _ i)) (single _ _ _ (held_last (type_whole i) (onto e l) 64) refl))
  expr_does r l (range e p i j) =
      told (two_types (items e) i j) (both (both (both (expr_does r l e) (type_does r _ i)) (type_does r _ j)) (single _ _ _ (held_both (type_whole i) (onto e l) (type_whole j) 64 64) refl))
  expr_does r l (inside p e) = ends _ _ _ (expr_does r l e) (refl, refl)
  expr_does r l (joined p e) = ends _ _ _ (expr_does r l e) (refl, refl)
  expr_does r l (beside a b) = ends _ _ _ (join (items a) (items b) (expr_does r l a) (expr_does r (onto a l) b)) (refl, refl)
  expr_does r l (unary u e) = ends _ _ _ (expr_does r l e) (refl, refl)
  expr_does r l (binary o a b) = ends _ _ _ (join (items a) (items b) (expr_does r l a) (expr_does r (onto a l) b)) (refl, refl)
  expr_does r l (choice c a b) = ends _ _ _ (join3 (items c) (items a) (items b) (expr_does r l c) (expr_does r (onto c l) a) (expr_does r (onto a (onto c l)) b)) (refl, refl)
  expr_does r l (either p c a b) = ends _ _ _ (join3 (items c) (items a) (items b) (expr_does r l c) (expr_does r (onto c l) a) (expr_does r (onto a (onto c l)) b)) (refl, refl)
  expr_does r l (select p e a) = ends _ _ _ (join (items e) (items a) (ends _ _ _ (expr_does r l e) (refl, refl)) (expr_does r (it SELECT p 0 (onto e l)) a)) (refl, refl)
  expr_does r l (arm n e a) = ends _ _ _ (join (items e) (items a) (expr_does r l e) (expr_does r (onto e l) a)) (refl, refl)
  expr_does r l (default p e) = ends _ _ _ (expr_does r l e) (refl, refl)
