-- Names off the tape and the bindings' lines: the signature's, by index; a line's value under its name; and how many ports and memories there are. Assumes nothing.
use mathlib.Core.Path.{◌≡◌, refl, sym, ap, ap₂, ◌∙◌}
use mathlib.Core.Bool.{Bool, true, false}
use mathlib.Core.List.{List, [], ◌∷◌, ◌++◌, append_assoc}
use Prim.Native.Nat.{ℕ, zero, suc, ◌+◌, ◌*◌, ◌≤◌, ◌<◌}
use native.Mathlib.Omega.{arith}
use lib.Dec.{ltb, leb-suc-suc}
use borrow.Author.Tests.{lt-ltb, le-ltb}
use lib.ListN.{length, get_or, take, drop, length-append}
use Rattle.language.specs.Text.{Name, same, index, among}
use Rattle.language.specs.Tree.{Ty, number, environment, port, plus, minus, log, ceil, floor, most, entry, within, Declared, untyped, Port, Size, one, cells, Memory, Group, Actor, spelled_of}
use Rattle.language.specs.Widths.{value_in}
use Rattle.binding_names.specs.Names.{line_in}
use Rattle.placed.specs.Placed.{name_from, Spelled, Every}
use Rattle.tape.specs.Tape.{item, flat_t, flat_d, flats, flat_port, flat_size, flat_memory, flat_signed, flat_group, flat_actor, PLUS, MINUS, LOG, CEIL, FLOOR, MOST, ENTRY, WITHIN, DECLARED, MEMORY}
use Rattle.tape.specs.Walk.{place_at}
use Rattle.tape.proofs.Tapes.{item_at_law}
use Rattle.row09_bindings.specs.Lines.{name_on, names_on, lines_on}
use Rattle.tape.specs.Nodes.{node_of as tape_node_of}
use Rattle.type_nodes.specs.Codes.{outside_of, role_in, is_over, tally, counted_of, counts_over, signed_names, value_or}
use Rattle.type_nodes.specs.declared.Counts.{Counts}

-- ---- the signature

unfoldable raw_names : List ℕ → ℕ → List ℕ → List (List ℕ)
raw_names text zero l = []
raw_names text (suc m) [] = []
raw_names text (suc m) (o ∷ []) = []
raw_names text (suc m) (o ∷ p ∷ []) = []
raw_names text (suc m) (o ∷ p ∷ v ∷ l) = name_from text p ∷ raw_names text m l

module _ (text t : List ℕ) (n : ℕ) (k : n ≤ length t) where
  by_index : (m from : ℕ) → 3 * (from + m) ≤ n → signed_names text t from m ≡ raw_names text m (drop (3 * from) (take n t))
  unfolding signed_names raw_names
  by_index zero from h = refl
  by_index (suc m) from h = ap (λ (l : List (List ℕ)). name_from text (place_at t from) ∷ l) (by_index m (suc from) (omega arith)) ∙ sym (ap (raw_names text (suc m)) (item_at_law t n from (omega arith) k))

raw_signed : (text : List ℕ) (ns : List Name) (r : List ℕ) → Every (Spelled text) ns → raw_names text (length ns) (flats flat_signed ns ++ r) ≡ spelled_of ns
unfolding raw_names flats flat_signed spelled_of
raw_signed text [] r h = refl
raw_signed text (n ∷ ns) r h = ap₂ (λ (s : List ℕ) (l : List (List ℕ)). s ∷ l) (sym h.0) (raw_signed text ns r h.1)

signed_long : (ns : List Name) → length (flats flat_signed ns) ≡ 3 * length ns
unfolding flats flat_signed
signed_long [] = refl
signed_long (n ∷ ns) = let e = signed_long ns in omega arith

module _ (text t : List ℕ) (n : ℕ) (k : n ≤ length t) (a : Actor) (h : take n t ≡ flat_actor a) (l : n ≡ length (flat_actor a)) where
  abbrev rest : List ℕ
  rest = flats flat_port a.ports ++ (flats flat_memory a.memories ++ flats flat_group a.groups)

  parts : flat_actor a ≡ item 47 a.called.at 0 ++ (flats flat_signed a.signature ++ rest)
  unfolding flat_actor
  parts = simp append_assoc

  pub signed_fits : 3 * (1 + length a.signature) ≤ n
  signed_fits = let e = ap length parts in let f = length-append (flats flat_signed a.signature) rest in let g = signed_long a.signature in omega arith

  pub signed_names_law : Every (Spelled text) a.signature → signed_names text t 1 (length a.signature) ≡ spelled_of a.signature
  signed_names_law p = by_index text t n k (length a.signature) 1 signed_fits ∙ ap (λ (r : List ℕ). raw_names text (length a.signature) (drop 3 r)) (h ∙ parts) ∙ raw_signed text a.signature rest p

pub name_at_law : (text t : List ℕ) (m from i : ℕ) → i < m → get_or (signed_names text t from m) i [] ≡ name_from text (place_at t (from + i))
unfolding signed_names
name_at_law text t zero from i h = absurd (omega arith)
name_at_law text t (suc m) from zero h = let e : from ≡ from + 0 = omega arith in ap (λ (j : ℕ). name_from text (place_at t j)) e
name_at_law text t (suc m) from (suc i) h = let e : suc from + i ≡ from + suc i = omega arith in name_at_law text t m (suc from) i (omega arith) ∙ ap (λ (j : ℕ). name_from text (place_at t j)) e

-- ---- lines

module _ (btext table : List ℕ) where
  -- a name stands among the lines where its index is below their number, and then its value is that line's
  module _ (s : List ℕ) where
    pub found_among : (m from : ℕ) → among (names_on btext table from m) s ≡ ltb (index (names_on btext table from m) s) m
    unfolding names_on among index
    found_among zero from = sym (le-ltb 0 0 (omega arith))
    found_among (suc m) from = go (same (name_on btext table from) s) (found_among m (suc from))
      where
        go : (b : Bool) → among (names_on btext table (suc from) m) s ≡ ltb (index (names_on btext table (suc from) m) s) m → elim b as (λ (x : Bool). Bool) [ true ↦ true | false ↦ among (names_on btext table (suc from) m) s ] ≡ ltb (elim b as (λ (x : Bool). ℕ) [ true ↦ zero | false ↦ suc (index (names_on btext table (suc from) m) s) ]) (suc m)
        go true e = sym (lt-ltb 0 (suc m) (omega arith))
        go false e = e ∙ sym (leb-suc-suc (suc (index (names_on btext table (suc from) m) s)) m)

    pub found_value : (m from : ℕ) → value_in (lines_on btext table from m) s ≡ value_or table (from + index (names_on btext table from m) s) (from + m)
    unfolding names_on lines_on value_in index value_or line_in
    found_value zero from = sym (ap (λ (b : Bool). elim b as (λ (x : Bool). ℕ) [ true ↦ get_or table (3 * (from + 0) + 2) 0 | false ↦ 0 ]) (le-ltb (from + 0) (from + 0) (omega arith)))
    found_value (suc m) from = go (same (name_on btext table from) s) (found_value m (suc from))
      where
        go : (b : Bool) → value_in (lines_on btext table (suc from) m) s ≡ value_or table (suc from + index (names_on btext table (suc from) m) s) (suc from + m)
            → elim b as (λ (x : Bool). ℕ) [ true ↦ get_or table (3 * from + 2) 0 | false ↦ value_in (lines_on btext table (suc from) m) s ] ≡ value_or table (from + elim b as (λ (x : Bool). ℕ) [ true ↦ zero | false ↦ suc (index (names_on btext table (suc from) m) s) ]) (from + suc m)
        go true e = let z : from ≡ from + 0 = omega arith in ap (λ (j : ℕ). get_or table (3 * j + 2) 0) z ∙ sym (ap (λ (b : Bool). elim b as (λ (x : Bool). ℕ) [ true ↦ get_or table (3 * (from + 0) + 2) 0 | false ↦ 0 ]) (lt-ltb (from + 0) (from + suc m) (omega arith)))
        go false e = let i = index (names_on btext table (suc from) m) s in let x : suc from + i ≡ from + suc i = omega arith in let y : suc from + m ≡ from + suc m = omega arith in e ∙ ap₂ (λ (u v : ℕ). value_or table u v) x y

-- ---- how many

record Same (a : List ℕ) : Type 0 where
  pub on : (c : Counts) (r : List ℕ) → counts_over c (a ++ r) ≡ counts_over c r

same_both : {a b : List ℕ} → Same a → Same b → Same (a ++ b)
same_both {a} {b} d e = record { on = λ c r. ap (counts_over c) (append_assoc a b r) ∙ d.on c (b ++ r) ∙ e.on c r }

same_item : (o p v : ℕ) → ((c : Counts) (r : List ℕ) → counts_over c (item o p v ++ r) ≡ counts_over c r) → Same (item o p v)
same_item o p v h = record { on = h }

type_same : (t : Ty) → Same (flat_t t)
unfolding flat_t counts_over role_in outside_of tape_node_of is_over counted_of
type_same (number n) = same_item 1 n.at n.value (λ c r. refl)
type_same (environment n) = same_item 2 n.at 0 (λ c r. refl)
type_same (port n) = same_item 3 n.at 0 (λ c r. refl)
type_same (plus s t) = same_both (same_both (type_same s) (type_same t)) (same_item PLUS 0 0 (λ c r. refl))
type_same (minus s t) = same_both (same_both (type_same s) (type_same t)) (same_item MINUS 0 0 (λ c r. refl))
type_same (log p t) = same_both (type_same t) (same_item LOG p 0 (λ c r. refl))
type_same (ceil p t) = same_both (type_same t) (same_item CEIL p 0 (λ c r. refl))
type_same (floor p t) = same_both (type_same t) (same_item FLOOR p 0 (λ c r. refl))
type_same (most p t) = same_both (type_same t) (same_item MOST p 0 (λ c r. refl))
type_same (entry s t) = same_both (same_both (type_same s) (type_same t)) (same_item ENTRY 0 0 (λ c r. refl))
type_same (within p t) = same_both (type_same t) (same_item WITHIN p 0 (λ c r. refl))

decl_same : (d : Declared) → Same (flat_d d)
unfolding flat_d
decl_same untyped = record { on = λ c r. refl }
decl_same (Declared.typed t) = type_same t

port_same : (p : Port) → Same (flat_port p)
unfolding flat_port counts_over role_in outside_of tape_node_of is_over counted_of
port_same p = same_both (decl_same p.type) (same_item DECLARED _ _ (λ c r. refl))

size_same : (z : Size) → Same (flat_size z)
unfolding flat_size counts_over role_in outside_of tape_node_of is_over counted_of
size_same one = record { on = λ c r. refl }
size_same (cells n) = same_item _ _ _ (λ c r. refl)

ports_same : (ps : List Port) → Same (flats flat_port ps)
unfolding flats
ports_same [] = record { on = λ c r. refl }
ports_same (p ∷ ps) = same_both (port_same p) (ports_same ps)

signed_count : (ns : List Name) (x y : ℕ) (r : List ℕ) → counts_over (tally x y) (flats flat_signed ns ++ r) ≡ counts_over (tally (x + length ns) y) r
unfolding flats flat_signed counts_over role_in outside_of tape_node_of is_over counted_of
signed_count [] x y r = let e : x ≡ x + 0 = omega arith in ap (λ (j : ℕ). counts_over (tally j y) r) e
signed_count (n ∷ ns) x y r = let e : x + 1 + length ns ≡ x + suc (length ns) = omega arith in signed_count ns (x + 1) y r ∙ ap (λ (j : ℕ). counts_over (tally j y) r) e

memory_count_law : (m : Memory) (x y : ℕ) (r : List ℕ) → counts_over (tally x y) (flat_memory m ++ r) ≡ counts_over (tally x (y + 1)) r
unfolding flat_memory counts_over role_in outside_of tape_node_of is_over counted_of
memory_count_law m x y r = ap (counts_over (tally x y)) (append_assoc (flat_d m.type ++ flat_size m.size) (item MEMORY m.called.at _) r) ∙ (same_both (decl_same m.type) (size_same m.size)).on (tally x y) _

memories_count : (ms : List Memory) (x y : ℕ) (r : List ℕ) → counts_over (tally x y) (flats flat_memory ms ++ r) ≡ counts_over (tally x (y + length ms)) r
unfolding flats
memories_count [] x y r = let e : y ≡ y + 0 = omega arith in ap (λ (j : ℕ). counts_over (tally x j) r) e
memories_count (m ∷ ms) x y r = let e : y + 1 + length ms ≡ y + suc (length ms) = omega arith in ap (counts_over (tally x y)) (append_assoc (flat_memory m) (flats flat_memory ms) r) ∙ memory_count_law m x y (flats flat_memory ms ++ r) ∙ memories_count ms x (y + 1) r ∙ ap (λ (j : ℕ). counts_over (tally x j) r) e

groups_count : (gs : List Group) (c : Counts) → counts_over c (flats flat_group gs) ≡ c
unfolding flats flat_group counts_over role_in outside_of tape_node_of is_over
groups_count [] c = refl
groups_count (g ∷ gs) c = refl

pub actor_count : (a : Actor) → counts_over (tally 0 0) (flat_actor a) ≡ tally (length a.signature) (length a.memories)
unfolding counts_over role_in outside_of tape_node_of is_over counted_of flat_actor
actor_count a =
    let p : flat_actor a ≡ item 47 a.called.at 0 ++ (flats flat_signed a.signature ++ (flats flat_port a.ports ++ (flats flat_memory a.memories ++ flats flat_group a.groups))) = simp append_assoc in
    let x : 0 + length a.signature ≡ length a.signature = omega arith in
    let y : 0 + length a.memories ≡ length a.memories = omega arith in
    ap (counts_over (tally 0 0)) p ∙ signed_count a.signature 0 0 _ ∙ (ports_same a.ports).on _ _ ∙ memories_count a.memories _ 0 _ ∙ groups_count a.groups _ ∙ ap₂ tally x y
