-- What the walk does on the declarations and on the whole actor. Assumes nothing.
use mathlib.Core.Path.{◌≡◌, refl, sym, ap, ap₂, ◌∙◌}
use mathlib.Core.Bool.{Bool, true, false, not, ◌&&◌}
use mathlib.Core.List.{List, [], ◌∷◌, ◌++◌, append-nil}
use Prim.Native.Nat.{ℕ, ◌+◌, ◌*◌, ◌-◌, ◌%◌}
use native.Mathlib.Omega.{arith}
use lib.Dec.{eqb, leb, ltb}
use lib.ListN.{length}
use borrow.Author.Tests.{eqb-true, eqb-false, ltb-true, ltb-false, le-leb, lt-leb}
use Rattle.language.specs.Text.{Name}
use Rattle.language.specs.Limits.{limits}
use Rattle.language.specs.Names.{when}
use Rattle.language.specs.Parts.{each, Item, declared_items}
use Rattle.language.specs.Counts.{too_many, size_of, size_place, size_faults}
use Rattle.language.specs.Tree.{Declared, untyped, Port, Size, one, cells, Memory, Actor, memory_names}
use Rattle.tape.specs.Tape.{item, SIZE, ACTOR, SIGNED, DECLARED, MEMORY, is_typed, one_if, flats, flat_port, flat_size, flat_memory, flat_signed, flat_actor}
use Rattle.placed.proofs.Every.{each_append}
use Rattle.placed.proofs.Same.{is, then}
use Rattle.row07_limits.specs.declared.Room.{Room}
use Rattle.std.specs.Prelude.{None}
use Rattle.part_lengths.specs.Parts.{Triple, held_in}
use Rattle.row07_limits.specs.Walk.{in_type, last_limit, other_limit, size_in, size_place_in, full_for, bad_size, left_of, again_of, all_room, next_room, item_faults}
use Rattle.row07_limits.proofs.Sums.{nth, ◌⊕◌, nil, same_sum}
use Rattle.row07_limits.proofs.Wholes.{it, type_whole, size_whole}
use Rattle.row07_limits.proofs.Runs.{Does, none, both, single, type_f, thing_f, things, held_last}
use Rattle.row07_limits.proofs.Actors.{too_none, too_more, Plain, plain, type_plain, Runs, nothing, next, same, leaves, alone_item, onto_d, decl_does, late_groups, rule_names, all_rules, vals_f, body_f, groups_run}

-- ---- a memory's size

abbrev tests : Bool → Bool → Bool → Bool
tests a b c = not (a && b && c)

-- the test by the cells that are left is the test by those before
size_same : (s z : ℕ) → bad_size (256 - s) 44 z ≡ tests (leb 1 z) (leb z 256) (leb (s + z) 256)
unfolding bad_size
size_same s z = go (eqb z 0) refl (ltb 256 z) refl (ltb (256 - s) z) refl
  where
    known : {a b c : Bool} → leb 1 z ≡ a → leb z 256 ≡ b → leb (s + z) 256 ≡ c → tests a b c ≡ tests (leb 1 z) (leb z 256) (leb (s + z) 256)
    known {a} {b} {c} d e f = sym (ap (λ (x : Bool). tests x (leb z 256) (leb (s + z) 256)) d ∙ ap₂ (tests a) e f)

    go : (a : Bool) → eqb z 0 ≡ a → (b : Bool) → ltb 256 z ≡ b → (c : Bool) → ltb (256 - s) z ≡ c → elim a as (λ (x : Bool). Bool) [ true ↦ true | false ↦ elim b as (λ (x : Bool). Bool) [ true ↦ true | false ↦ c ] ] ≡ tests (leb 1 z) (leb z 256) (leb (s + z) 256)
    go true d b e c f = let h = eqb-true z 0 d in known (lt-leb 1 z (omega arith)) refl refl
    go false d true e c f = let h = eqb-false z 0 d in let k = ltb-true 256 z e in known (le-leb 1 z (omega arith)) (lt-leb z 256 k) refl
    go false d false e true f = let h = eqb-false z 0 d in let k = ltb-false 256 z e in let j = ltb-true (256 - s) z f in known (le-leb 1 z (omega arith)) (le-leb z 256 k) (lt-leb (s + z) 256 (omega arith))
    go false d false e false f = let h = eqb-false z 0 d in let k = ltb-false 256 z e in let j = ltb-false (256 - s) z f in known (le-leb 1 z (omega arith)) (le-leb z 256 k) (le-leb (s + z) 256 (omega arith))

unfoldable onto_s : Size → List Triple → List Triple
onto_s one l = l
onto_s (cells n) l = it SIZE n.at n.value l

decl_plain : (d : Declared) (l : List Triple) → Plain l → Plain (onto_d d l)
unfolding onto_d
decl_plain untyped l h = h
decl_plain (Declared.typed t) l h = type_plain t l

size_is : (m : Memory) (l : List Triple) → Plain l → size_in (onto_s m.size l) ≡ size_of m
unfolding size_of onto_s size_in
size_is m l h = go m.size
  where
    go : (z : Size) → size_in (onto_s z l) ≡ elim z as (λ (x : Size). ℕ) [ one ↦ 1 | cells n ↦ n.value ]
    go one = h.size
    go (cells n) = refl

place_is : (m : Memory) (l : List Triple) → Plain l → size_place_in (onto_s m.size l) m.called.at ≡ size_place m
unfolding size_place onto_s size_place_in
place_is m l h = go m.size
  where
    go : (z : Size) → size_place_in (onto_s z l) m.called.at ≡ elim z as (λ (x : Size). ℕ) [ one ↦ m.called.at | cells n ↦ n.at ]
    go one = h.place m.called.at
    go (cells n) = refl

-- the cells taken by memories and those before them
unfoldable sum_of : ℕ → List Memory → ℕ
sum_of s [] = s
sum_of s (m ∷ ms) = sum_of (s + size_of m) ms

module _ (ps : List ℕ) where
  -- ---- what a declaration holds

  type_held : (l : List Triple) (d : Declared) → held_in ps (onto_d d l) (in_type (eqb (is_typed d) 1)) None ≡ things ps (declared_items d)
  unfolding onto_d is_typed declared_items each thing_f type_f in_type held_in
  type_held l untyped = refl
  type_held l (Declared.typed t) = held_last ps (type_whole t) l 64 ∙ sym (append-nil (type_f ps t))

  odd : (b : Bool) (d : Declared) → eqb ((2 * one_if b + is_typed d) % 2) 1 ≡ eqb (is_typed d) 1
  unfolding one_if is_typed
  odd true untyped = refl
  odd true (Declared.typed t) = refl
  odd false untyped = refl
  odd false (Declared.typed t) = refl

  port_run : (r : Room) (p : Port) → Runs ps r (flat_port p) (things ps (declared_items p.type)) r
  unfolding flat_port item_faults full_for bad_size last_limit other_limit next_room left_of again_of when
  port_run r p =
      record {
        runs = λ l h. (
          _,
          plain _ _ _ refl _,
          both (decl_does ps r l p.type)
              (single DECLARED p.called.at (2 * one_if p.input + is_typed p.type) (ap (λ (b : Bool). held_in ps (onto_d p.type l) (in_type b) None) (odd p.input p.type) ∙ type_held l p.type) refl),
        );
      }

  ports_run : (r : Room) (l : List Port) → Runs ps r (flats flat_port l) (things ps (each (λ (p : Port). declared_items p.type) l)) r
  unfolding flats each
  ports_run r [] = nothing
  ports_run r (p ∷ l) = same (is (sym (each_append (thing_f ps) (declared_items p.type) (each (λ (p : Port). declared_items p.type) l)))) (next (port_run r p) (ports_run r l))

  size_does : (r : Room) (l : List Triple) (z : Size) → Does ps r l (flat_size z) [] r (onto_s z l)
  unfolding flat_size onto_s item_faults full_for bad_size held_in last_limit other_limit next_room left_of again_of when
  size_does r l one = none
  size_does r l (cells n) = single _ _ _ refl refl

  memory_held : (l : List Triple) (d : Declared) (z : Size) → held_in ps (onto_s z (onto_d d l)) (in_type (eqb (is_typed d) 1)) None ≡ things ps (declared_items d)
  unfolding onto_s onto_d is_typed declared_items each thing_f type_f in_type held_in
  memory_held l d one = type_held l d
  memory_held l untyped (cells n) = refl
  memory_held l (Declared.typed t) (cells n) = held_last ps (size_whole n.at n.value (type_whole t)) l 64 ∙ sym (append-nil (type_f ps t))

  -- ---- the declarations

  abbrev heads : (p m c : ℕ) → Room
  heads p m c = record { ports = p; memories = m; cells = c; groups = limits.groups; rules = limits.rules; vals = limits.vals }

  signed_run : (m c k : ℕ) (ns : List Name) → Runs ps (heads k m c) (flats flat_signed ns) (too_many k ns) (heads (k - length ns) m c)
  unfolding flats flat_signed item_faults full_for bad_size held_in last_limit other_limit next_room left_of again_of when
  signed_run m c k [] = same (is (sym (too_none k))) (leaves (ap (λ (j : ℕ). heads j m c) (omega arith)) nothing)
  signed_run m c k (n ∷ ns) =
      same (is (sym (too_more k n ns))) (leaves (ap (λ (j : ℕ). heads j m c) (omega arith)) (next (alone_item SIGNED n.at 0 {f = when (eqb k 0) n.at} refl (λ l. append-nil _) (λ l. refl)) (signed_run m c (k - 1) ns)))

  module _ (p : ℕ) where
    abbrev size_f : ℕ → Memory → List ℕ
    size_f s m = when (not (leb 1 (size_of m) && leb (size_of m) limits.size && leb (s + size_of m) limits.cells)) (size_place m)

    memory_faults_law : (k s : ℕ) (m : Memory) (l : List Triple) → Plain l → item_faults ps (heads p k (256 - s)) (onto_s m.size (onto_d m.type l)) 44 m.called.at (is_typed m.type) ≡ when (eqb k 0) m.called.at ++ (size_f s m ++ things ps (declared_items m.type))
    unfolding item_faults full_for last_limit other_limit
    memory_faults_law k s m l h =
        let g = decl_plain m.type l h in
        ap (λ (x : List ℕ). when (eqb k 0) m.called.at ++ x)
        (ap₂ (λ (x y : List ℕ). x ++ y) (ap₂ (λ (b : Bool) (q : ℕ). when b q) (ap (bad_size (256 - s) 44) (size_is m _ g) ∙ size_same s (size_of m)) (place_is m _ g)) (memory_held l m.type m.size))

    memory_room : (k s : ℕ) (m : Memory) (l : List Triple) → Plain l → next_room (heads p k (256 - s)) 44 (size_in (onto_s m.size (onto_d m.type l))) ≡ heads p (k - 1) (256 - (s + size_of m))
    unfolding next_room left_of again_of
    memory_room k s m l h = ap (heads p (k - 1)) (let e = size_is m _ (decl_plain m.type l h) in omega arith)

    memory_run : (k s : ℕ) (m : Memory) → Runs ps (heads p k (256 - s)) (flat_memory m) (([] ++ []) ++ (when (eqb k 0) m.called.at ++ (size_f s m ++ things ps (declared_items m.type)))) (heads p (k - 1) (256 - (s + size_of m)))
    unfolding flat_memory
    memory_run k s m = record { runs = λ l h. (_, plain _ _ _ refl _, both (both (decl_does ps _ l m.type) (size_does _ _ m.size)) (single MEMORY m.called.at (is_typed m.type) (memory_faults_law k s m l h) (memory_room k s m l h))) }

    abbrev memory_types : List Memory → List Item
    memory_types ms = each (λ (m : Memory). declared_items m.type) ms

    memories_run : (k s : ℕ) (ms : List Memory) → Runs ps (heads p k (256 - s)) (flats flat_memory ms) (too_many k (memory_names ms) ++ (size_faults s ms ++ things ps (memory_types ms))) (heads p (k - length (memory_names ms)) (256 - sum_of s ms))
    unfolding flats memory_names size_faults each sum_of
    memories_run k s [] = same (is (ap (λ (r : List ℕ). r ++ []) (sym (too_none k)))) (leaves (ap (λ (j : ℕ). heads p j (256 - s)) (omega arith)) nothing)
    memories_run k s (m ∷ ms) =
        same (then
        (same_sum (when (eqb k 0) m.called.at ∷ size_f s m ∷ things ps (declared_items m.type) ∷ too_many (k - 1) (memory_names ms) ∷ size_faults (s + size_of m) ms ∷ things ps (memory_types ms) ∷ [])
        (((nil ⊕ nil) ⊕ (nth 0 ⊕ (nth 1 ⊕ nth 2))) ⊕ (nth 3 ⊕ (nth 4 ⊕ nth 5))) ((nth 0 ⊕ nth 3) ⊕ ((nth 1 ⊕ nth 4) ⊕ (nth 2 ⊕ nth 5))) refl)
        (is (ap₂ (λ (x y : List ℕ). x ++ ((size_f s m ++ size_faults (s + size_of m) ms) ++ y)) (sym (too_more k m.called (memory_names ms))) (sym (each_append (thing_f ps) (declared_items m.type) (memory_types ms))))))
        (leaves (ap (λ (j : ℕ). heads p j (256 - sum_of (s + size_of m) ms)) (omega arith)) (next (memory_run k s m) (memories_run (k - 1) (s + size_of m) ms)))

  -- ---- the actor

  -- its faults, in the order of the tape
  abbrev pub actor_f : Actor → List ℕ
  actor_f a =
      ((([] ++ too_many limits.ports a.signature) ++ things ps (each (λ (p : Port). declared_items p.type) a.ports))
      ++ (too_many limits.memories (memory_names a.memories) ++ (size_faults 0 a.memories ++ things ps (each (λ (m : Memory). declared_items m.type) a.memories))))
      ++ (late_groups limits.groups a.groups ++ (too_many limits.rules (rule_names (all_rules a.groups)) ++ (each vals_f (all_rules a.groups) ++ each (body_f ps) (all_rules a.groups))))

  starts : (p : ℕ) → Runs ps all_room (item ACTOR p 0) [] all_room
  unfolding item_faults full_for bad_size held_in last_limit other_limit next_room left_of again_of when
  starts p = alone_item ACTOR p 0 refl (λ l. refl) (λ l. refl)

  pub actor_run : (a : Actor) → (r : Room) × Runs ps all_room (flat_actor a) (actor_f a) r
  unfolding flat_actor
  actor_run a = (_, next (next (next (next (starts a.called.at) (signed_run 8 256 16 a.signature)) (ports_run _ a.ports)) (memories_run _ 8 0 a.memories)) (groups_run ps _ _ _ 8 32 a.groups))
