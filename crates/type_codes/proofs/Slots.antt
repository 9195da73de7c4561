-- A slot of the code after a store, and what is put into it. Assumes nothing.
use mathlib.Core.Path.{◌≡◌, refl, sym, ap, ◌∙◌, subst}
use mathlib.Core.Bool.{Bool, true, false}
use mathlib.Core.List.{List, [], ◌∷◌, ◌++◌}
use Prim.Native.Nat.{ℕ, zero, suc, ◌+◌, ◌-◌, ◌*◌, ◌≤◌, ◌<◌}
use native.Mathlib.Omega.{arith}
use native.Mathlib.Numerals.{add-one}
use lib.Dec.{ltb}
use borrow.Author.Tests.{lt-ltb, le-ltb, ltb-true, ltb-false}
use lib.ListN.{length, get_or, take, drop, set, length-set, length-take, length-drop, length-append}
use lib.Seq.{take_all, take-append-le, take-set-le, drop-set-add, take-suc-set, take-take, get_or-set_same, get_or-set_other}
use Rattle.language.specs.Text.{index}
use Rattle.placed.specs.Placed.{name_from}
use Rattle.tape.specs.Walk.{place_at}
use Rattle.row09_bindings.specs.Lines.{names_on}
use Rattle.type_nodes.specs.Codes.{Env, capped, number_node, grown_of, kept_of, sought_in, some_nodes, port_nodes, want_nodes, Filled, Slotted}
use Rattle.type_nodes.specs.declared.Goal.TheVariants.{Port as PortAt, Memory as MemoryAt}
use Rattle.type_nodes.specs.declared.Role.{Role}
use Rattle.type_nodes.specs.declared.Role.TheVariants.{Node, Keep, Signed, Declared, Memory, Over, Clear}

module _ (code : List ℕ) (at : ℕ) where
  pub one_more : (len x : ℕ) → len < 64 → at + 64 ≤ length code → Filled code (set code (at + len) x) at (len + 1) (capped (take len (drop at code) ++ (x ∷ [])))
  one_more len x h k =
      record {
        few = let z : len + 1 ≤ 64 = omega arith in z;
        is = ap (take (len + 1)) (drop-set-add at code len x) ∙ ap (λ (j : ℕ). take j (set (drop at code) len x)) (add-one len) ∙ take-suc-set (drop at code) len x (let e = length-drop at code in omega arith) ∙ sym (take_all 64 (take len (drop at code) ++ (x ∷ [])) (let e = length-append (take len (drop at code)) (x ∷ []) in let f = length-take len (drop at code) in omega arith));
        before = take-set-le at code (at + len) x (omega arith);
        long = length-set code (at + len) x;
      }

  pub no_more_law : (len x : ℕ) → len ≤ 64 → 64 ≤ len → at + 64 ≤ length code → Filled code code at len (capped (take len (drop at code) ++ (x ∷ [])))
  no_more_law len x h g k =
      record {
        few = h;
        is = let z : len ≡ 64 = omega arith in
            let e = length-drop at code in
            let f = length-take len (drop at code) in
            sym (take-append-le 64 (take len (drop at code)) (x ∷ []) (omega arith) ∙ take-take 64 len (drop at code) g ∙ ap (λ (j : ℕ). take j (drop at code)) (sym z));
        before = refl;
        long = refl;
      }

  pub as_it_was : (len : ℕ) → len ≤ 64 → Filled code code at len (take len (drop at code))
  as_it_was len h = record { few = h; is = refl; before = refl; long = refl }

  pub nothing_in : {l : List ℕ} → [] ≡ l → Filled code code at 0 l
  nothing_in e = record { few = omega arith; is = e; before = refl; long = refl }

-- the same in other words
pub filled_as : {code code' : List ℕ} {at r : ℕ} {l l' : List ℕ} → l ≡ l' → Filled code code' at r l → Filled code code' at r l'
filled_as e f = record { few = f.few; is = f.is ∙ e; before = f.before; long = f.long }

-- one after the other, in the same slot
pub filled_then : {c c' c'' : List ℕ} {at r r' : ℕ} {l l' : List ℕ} → Filled c c' at r l → Filled c' c'' at r' l' → Filled c c'' at r' l'
filled_then f g = record { few = g.few; is = g.is; before = g.before ∙ f.before; long = g.long ∙ f.long }

pub some_of : (l : List ℕ) → 0 < length l → l ≡ some_nodes l
unfolding some_nodes
some_of [] h = absurd (omega arith)
some_of (x ∷ l) h = refl

pub some_none : {n : ℕ} (l : List ℕ) → n ≡ 0 → number_node 0 ∷ [] ≡ some_nodes (take n l)
unfolding some_nodes
some_none l e = rw e

module _ (code : List ℕ) (at : ℕ) where
  pub some_kept : (len : ℕ) → len ≤ 64 → (len ≡ 0 → ⊥) → at + 64 ≤ length code → Filled code code at len (some_nodes (take len (drop at code)))
  some_kept len h z k = filled_as (some_of (take len (drop at code)) (let e = length-drop at code in let f = length-take len (drop at code) in let n : (len ≡ 0 → ⊥) = z in omega arith)) (as_it_was code at len h)

  pub grown_keep : {k : Role} → k ≡ Keep → (len y : ℕ) → len ≤ 64 → Filled code code at len (grown_of k (take len (drop at code)) y)
  unfolding grown_of
  grown_keep e len y h = filled_as (rw e) (as_it_was code at len h)

pub grown_node : {c c' : List ℕ} {at r : ℕ} {k : Role} (l : List ℕ) → k ≡ Node → {x y : ℕ} → x ≡ y → Filled c c' at r (capped (l ++ (x ∷ []))) → Filled c c' at r (grown_of k l y)
unfolding grown_of
grown_node l e q f = filled_as (rw (e, q)) f

-- what is kept at the end
pub kept_take : (k : Role) (n : ℕ) (l : List ℕ) → take (kept_of k 0 n) l ≡ kept_of k [] (take n l)
unfolding kept_of
kept_take Node n l = refl
kept_take Keep n l = refl
kept_take Signed n l = refl
kept_take Declared n l = refl
kept_take Memory n l = refl
kept_take Over n l = refl
kept_take Clear n l = refl

pub kept_most : (k : Role) (n : ℕ) → kept_of k 0 n ≤ n
unfolding kept_of
kept_most Node n = omega arith
kept_most Keep n = omega arith
kept_most Signed n = omega arith
kept_most Declared n = omega arith
kept_most Memory n = omega arith
kept_most Over n = omega arith
kept_most Clear n = omega arith

-- ---- the wanted widths

module _ (e : Env) (n : ℕ) where
  pub bound_nodes : (p j : ℕ) → j ≡ 0 + index (names_on e.btext e.table 0 (e.lines.widths - 0)) (name_from e.text p) → j < e.lines.widths → number_node (get_or e.table (3 * j + 2) 0) ∷ [] ≡ port_nodes e n p
  unfolding port_nodes
  bound_nodes p j q h =
      let i = index (names_on e.btext e.table 0 e.lines.widths) (name_from e.text p) in
      let k : e.lines.widths - 0 ≡ e.lines.widths = omega arith in
      let w = ap (λ (m : ℕ). index (names_on e.btext e.table 0 m) (name_from e.text p)) k in
      let z : j ≡ i = omega arith in
      ap (λ (m : ℕ). number_node (get_or e.table (3 * m + 2) 0) ∷ []) z ∙ sym (ap (λ (b : Bool). elim b as (λ (x : Bool). List ℕ) [ true ↦ number_node (get_or e.table (3 * i + 2) 0) ∷ [] | false ↦ some_nodes (sought_in e (PortAt p) [] (take n e.tape)) ]) (lt-ltb i e.lines.widths (omega arith)))

  pub typed_nodes : (p j : ℕ) → j ≡ 0 + index (names_on e.btext e.table 0 (e.lines.widths - 0)) (name_from e.text p) → e.lines.widths ≤ j → some_nodes (sought_in e (PortAt p) [] (take n e.tape)) ≡ port_nodes e n p
  unfolding port_nodes
  typed_nodes p j q h =
      let i = index (names_on e.btext e.table 0 e.lines.widths) (name_from e.text p) in
      let k : e.lines.widths - 0 ≡ e.lines.widths = omega arith in
      let w = ap (λ (m : ℕ). index (names_on e.btext e.table 0 m) (name_from e.text p)) k in
      sym (ap (λ (b : Bool). elim b as (λ (x : Bool). List ℕ) [ true ↦ number_node (get_or e.table (3 * i + 2) 0) ∷ [] | false ↦ some_nodes (sought_in e (PortAt p) [] (take n e.tape)) ]) (le-ltb i e.lines.widths (omega arith)))

  pub port_nodes_law : (i : ℕ) → i < e.ports → {p : ℕ} → p ≡ place_at e.tape (i + 1) → port_nodes e n p ≡ want_nodes e n i
  unfolding want_nodes
  port_nodes_law i h q = ap (port_nodes e n) q ∙ sym (ap (λ (b : Bool). elim b as (λ (x : Bool). List ℕ) [ true ↦ port_nodes e n (place_at e.tape (i + 1)) | false ↦ some_nodes (sought_in e (MemoryAt (i - e.ports)) [] (take n e.tape)) ]) (lt-ltb i e.ports h))

  pub memory_nodes : (i : ℕ) → e.ports ≤ i → some_nodes (sought_in e (MemoryAt (i - e.ports)) [] (take n e.tape)) ≡ want_nodes e n i
  unfolding want_nodes
  memory_nodes i h = sym (ap (λ (b : Bool). elim b as (λ (x : Bool). List ℕ) [ true ↦ port_nodes e n (place_at e.tape (i + 1)) | false ↦ some_nodes (sought_in e (MemoryAt (i - e.ports)) [] (take n e.tape)) ]) (le-ltb i e.ports h))

-- a slot is filled, and then made not empty
pub filled_some : {c c' c'' : List ℕ} {at r r' : ℕ} {l l' : List ℕ} → Filled c c' at r l → Filled c' c'' at r' (some_nodes (take r (drop at c'))) → some_nodes l ≡ l' → Filled c c'' at r' l'
filled_some f g e = filled_as (ap some_nodes f.is ∙ e) (filled_then f g)

-- ---- the slots so far

part_kept : (a r b : ℕ) (c : List ℕ) → a + r ≤ b → take r (drop a (take b c)) ≡ take r (drop a c)
part_kept zero r b c h = take-take r b c (omega arith)
part_kept (suc a) r zero c h = absurd (omega arith)
part_kept (suc a) r (suc b) [] h = refl
part_kept (suc a) r (suc b) (x ∷ c) h = part_kept a r b c (omega arith)

pub no_slots : (e : Env) (n : ℕ) (code starts ends : List ℕ) → Slotted e n code starts ends 0
no_slots e n code starts ends = record { start = λ j h. absurd (omega arith); end = λ j h. absurd (omega arith); is = λ j h. absurd (omega arith) }

module _ {e : Env} {n : ℕ} {code code' starts ends : List ℕ} {i r : ℕ} (s : Slotted e n code starts ends i) (x : i < length starts) (y : i < length ends) (f : Filled code code' (64 * i) r (want_nodes e n i)) where
  last : (P : ℕ → Type 0) → ((j : ℕ) → j < i → P j) → P i → (j : ℕ) → j < i + 1 → P j
  last P h q j k = go (ltb j i) refl
    where
      go : (b : Bool) → ltb j i ≡ b → P j
      go true z = h j (ltb-true j i z)
      go false z = let w = ltb-false j i z in let u : i ≡ j = omega arith in subst P u q

  other : (l : List ℕ) (j v : ℕ) → j < i → get_or (set l i v) j 0 ≡ get_or l j 0
  other l j v h = get_or-set_other l i j v 0 (λ z. omega arith)

  pub one_slot : Slotted e n code' (set starts i (64 * i)) (set ends i (64 * i + r)) (i + 1)
  one_slot =
      record {
        start = last (λ (j : ℕ). get_or (set starts i (64 * i)) j 0 ≡ 64 * j) (λ j h. other starts j (64 * i) h ∙ s.start j h) (get_or-set_same starts i (64 * i) 0 x);
        end = last (λ (j : ℕ). (64 * j ≤ get_or (set ends i (64 * i + r)) j 0) × (get_or (set ends i (64 * i + r)) j 0 ≤ 64 * j + 64))
            (λ j h. let z = other ends j (64 * i + r) h in let u = s.end j h in (omega (arith, u.0), omega (arith, u.1)))
            (let z = get_or-set_same ends i (64 * i + r) 0 y in let u = f.few in (omega arith, omega arith));
        is = last (λ (j : ℕ). take (get_or (set ends i (64 * i + r)) j 0 - 64 * j) (drop (64 * j) code') ≡ want_nodes e n j)
            (λ j h. let u = s.end j h in let d = get_or ends j 0 - 64 * j in
            ap (λ (m : ℕ). take (m - 64 * j) (drop (64 * j) code')) (other ends j (64 * i + r) h)
            ∙ sym (part_kept (64 * j) d (64 * i) code' (omega (arith, u.0, u.1))) ∙ ap (λ (c : List ℕ). take d (drop (64 * j) c)) f.before ∙ part_kept (64 * j) d (64 * i) code (omega (arith, u.0, u.1)) ∙ s.is j h)
            (let z : 64 * i + r - 64 * i ≡ r = omega arith in ap (λ (m : ℕ). take (m - 64 * i) (drop (64 * i) code')) (get_or-set_same ends i (64 * i + r) 0 y) ∙ ap (λ (m : ℕ). take m (drop (64 * i) code')) z ∙ f.is);
      }
