-- What the last arm of a `match` knows of a role, and the turns of the loops over the tape and the lines. Assumes nothing.
use mathlib.Core.Path.{◌≡◌, refl, sym, ap, ap₂, ◌∙◌}
use mathlib.Core.Bool.{Bool, true, false}
use mathlib.Core.List.{List, [], ◌∷◌}
use mathlib.Core.Logic.{◌⊎◌, inl, inr}
use Prim.Native.Nat.{ℕ, zero, suc, ◌+◌, ◌-◌, ◌*◌, ◌/◌, ◌≤◌, ◌<◌}
use native.Mathlib.Omega.{arith}
use native.Mathlib.Numerals.{add-one}
use lib.Dec.{eqb, eqb-suc-zero}
use lib.ListN.{length, take, drop, length-take, length-drop}
use Rattle.language.specs.Text.{same, index}
use Rattle.placed.specs.Placed.{name_from}
use Rattle.tape.specs.Walk.{op_at, place_at, value_at}
use Rattle.tape.proofs.Tapes.{item_at_law}
use Rattle.row09_bindings.specs.Lines.{names_on}
use Rattle.type_nodes.specs.Codes.{role_in, role_of, is_over, counted_of, counts_over, Env, signed_names, port_of, value_or, value_of, number_node, node_of, grown_of, stops_at, left_of, kept_of, sought_in}
use Rattle.tape.specs.Nodes.{node_of as tape_node_of}
use Rattle.tape.specs.declared.Node.{Node as Tape-as-Node}
use Rattle.tape.specs.declared.Node.TheVariants.{Number, Name, Port, Join, Minus, Log, Whole, Most, Within, Other}
use Rattle.type_nodes.specs.declared.Role.{Role}
use Rattle.type_nodes.specs.declared.Role.TheVariants.{Node, Keep, Signed, Declared, Memory, Over, Clear}
use Rattle.type_nodes.specs.declared.Goal.{Goal}
use Rattle.type_nodes.specs.declared.Goal.TheVariants.{Port as PortAt, Memory as MemoryAt}
use Rattle.type_nodes.specs.declared.Counts.{Counts}

-- ---- the last arm

pub not_over_law : (k : Role) → (k ≡ Over → ⊥) → false ≡ is_over k
unfolding is_over
not_over_law Node _ = refl
not_over_law Keep _ = refl
not_over_law Signed _ = refl
not_over_law Declared _ = refl
not_over_law Memory _ = refl
not_over_law Over h0 = absurd (h0 refl)
not_over_law Clear _ = refl

pub kept_over : (k : Role) (n : ℕ) → is_over k ≡ true → 0 ≡ kept_of k 0 n
unfolding is_over kept_of
kept_over Node n e = cc
kept_over Keep n e = cc
kept_over Signed n e = cc
kept_over Declared n e = cc
kept_over Memory n e = cc
kept_over Over n e = refl
kept_over Clear n e = cc

pub kept_before : (k : Role) (n : ℕ) → is_over k ≡ false → n ≡ kept_of k 0 n
unfolding is_over kept_of
kept_before Node n e = refl
kept_before Keep n e = refl
kept_before Signed n e = refl
kept_before Declared n e = refl
kept_before Memory n e = refl
kept_before Over n e = cc
kept_before Clear n e = refl

-- what an item is to the declared types, by what it is in a type
pub kept_node : (o : ℕ) {n : Tape-as-Node} → n ≡ tape_node_of o → (n ≡ Most) ⊎ (n ≡ Within) → Keep ≡ role_of o
unfolding role_in
kept_node o e (inl h) = ap (λ (k : Tape-as-Node). role_in k o) (sym h ∙ e)
kept_node o e (inr h) = ap (λ (k : Tape-as-Node). role_in k o) (sym h ∙ e)

a_node_in : (n : Tape-as-Node) (o : ℕ) → (n ≡ Most → ⊥) → (n ≡ Within → ⊥) → (n ≡ Other → ⊥) → Node ≡ role_in n o
unfolding role_in
a_node_in Number o _ _ _ = refl
a_node_in Name o _ _ _ = refl
a_node_in Port o _ _ _ = refl
a_node_in Join o _ _ _ = refl
a_node_in Minus o _ _ _ = refl
a_node_in Log o _ _ _ = refl
a_node_in Whole o _ _ _ = refl
a_node_in Most o h _ _ = absurd (h refl)
a_node_in Within o _ h _ = absurd (h refl)
a_node_in Other o _ _ h = absurd (h refl)

pub a_node : (o : ℕ) {n : Tape-as-Node} → n ≡ tape_node_of o → (n ≡ Most → ⊥) → (n ≡ Within → ⊥) → (n ≡ Other → ⊥) → Node ≡ role_of o
a_node o {n} e h k l = a_node_in n o h k l ∙ ap (λ (m : Tape-as-Node). role_in m o) e

pub not_counted_law : (c : Counts) (k : Role) → (k ≡ Signed → ⊥) → (k ≡ Memory → ⊥) → c ≡ counted_of c k
unfolding counted_of
not_counted_law c Node _ _ = refl
not_counted_law c Keep _ _ = refl
not_counted_law c Signed h0 _ = absurd (h0 refl)
not_counted_law c Declared _ _ = refl
not_counted_law c Memory _ h1 = absurd (h1 refl)
not_counted_law c Over _ _ = refl
not_counted_law c Clear _ _ = refl

pub not_memory_law : (g : Goal) (k : Role) → (k ≡ Memory → ⊥) → g ≡ left_of g k
unfolding left_of
not_memory_law g Node _ = refl
not_memory_law g Keep _ = refl
not_memory_law g Signed _ = refl
not_memory_law g Declared _ = refl
not_memory_law g Memory h0 = absurd (h0 refl)
not_memory_law g Over _ = refl
not_memory_law g Clear _ = refl

pub not_holding_law : (text : List ℕ) (g : Goal) (k : Role) (p : ℕ) → (k ≡ Over → ⊥) → (k ≡ Declared → ⊥) → (k ≡ Memory → ⊥) → false ≡ stops_at text g k p
unfolding stops_at
not_holding_law text g Node p _ _ _ = refl
not_holding_law text g Keep p _ _ _ = refl
not_holding_law text g Signed p _ _ _ = refl
not_holding_law text g Declared p _ h1 _ = absurd (h1 refl)
not_holding_law text g Memory p _ _ h2 = absurd (h2 refl)
not_holding_law text g Over p h0 _ _ = absurd (h0 refl)
not_holding_law text g Clear p _ _ _ = refl

pub not_in_type_law : (k : Role) (l : List ℕ) (x : ℕ) → (k ≡ Node → ⊥) → (k ≡ Keep → ⊥) → [] ≡ grown_of k l x
unfolding grown_of
not_in_type_law Node l x h0 _ = absurd (h0 refl)
not_in_type_law Keep l x _ h1 = absurd (h1 refl)
not_in_type_law Signed l x _ _ = refl
not_in_type_law Declared l x _ _ = refl
not_in_type_law Memory l x _ _ = refl
not_in_type_law Over l x _ _ = refl
not_in_type_law Clear l x _ _ = refl

-- ---- whose type is sought

module _ (text : List ℕ) (g : Goal) {k : Role} (p : ℕ) where
  pub stops_over : k ≡ Over → true ≡ stops_at text g k p
  unfolding stops_at
  stops_over e = rw e

  pub stops_port : k ≡ Declared → {q : ℕ} → g ≡ PortAt q → same (name_from text p) (name_from text q) ≡ stops_at text g k p
  unfolding stops_at
  stops_port e f = rw (e, f)

  pub stops_not_port : k ≡ Declared → {i : ℕ} → g ≡ MemoryAt i → false ≡ stops_at text g k p
  unfolding stops_at
  stops_not_port e f = rw (e, f)

  pub stops_not_memory : k ≡ Memory → {q : ℕ} → g ≡ PortAt q → false ≡ stops_at text g k p
  unfolding stops_at
  stops_not_memory e f = rw (e, f)

  pub stops_memory : k ≡ Memory → (i : ℕ) → g ≡ MemoryAt i → eqb i 0 ≡ stops_at text g k p
  unfolding stops_at
  stops_memory e zero f = rw (e, f)
  stops_memory e (suc i) f = rw (e, f) (eqb-suc-zero i)

pub left_port : {g : Goal} {k : Role} → k ≡ Memory → {q : ℕ} → g ≡ PortAt q → PortAt q ≡ left_of g k
unfolding left_of
left_port e f = rw (e, f)

pub left_memory : {g : Goal} {k : Role} → k ≡ Memory → {i : ℕ} → g ≡ MemoryAt i → {j : ℕ} → j ≡ i - 1 → MemoryAt j ≡ left_of g k
unfolding left_of
left_memory e f h = rw (e, f, h)

-- ---- how far the counts grow

pub counts_most : (c : Counts) (k : Role) → ((counted_of c k).ports ≤ c.ports + 1) × ((counted_of c k).memories ≤ c.memories + 1)
unfolding counted_of
counts_most c Node = (omega arith, omega arith)
counts_most c Keep = (omega arith, omega arith)
counts_most c Signed = (omega arith, omega arith)
counts_most c Declared = (omega arith, omega arith)
counts_most c Memory = (omega arith, omega arith)
counts_most c Over = (omega arith, omega arith)
counts_most c Clear = (omega arith, omega arith)

-- ---- the turns of the loops

module _ (t : List ℕ) (n i : ℕ) (low : n ≤ length t) where
  module _ (c : Counts) where
    at_count : i < n / 3 → counts_over c (drop (3 * i) (take n t)) ≡ elim (is_over (role_of (op_at t i))) as (λ (x : Bool). Counts) [ true ↦ c | false ↦ counts_over (counted_of c (role_of (op_at t i))) (drop (3 * suc i) (take n t)) ]
    unfolding counts_over
    at_count h = ap (counts_over c) (item_at_law t n i (omega arith) low)

    pub count_stop : i < n / 3 → {k : Role} → k ≡ role_of (op_at t i) → is_over k ≡ true → c ≡ counts_over c (drop (3 * i) (take n t))
    count_stop h e f = sym (at_count h ∙ ap (λ (b : Bool). elim b as (λ (x : Bool). Counts) [ true ↦ c | false ↦ counts_over (counted_of c (role_of (op_at t i))) (drop (3 * suc i) (take n t)) ]) (ap is_over (sym e) ∙ f))

    pub count_more : i < n / 3 → {k : Role} → k ≡ role_of (op_at t i) → is_over k ≡ false → {d : Counts} → d ≡ counted_of c k → counts_over d (drop (3 * (i + 1)) (take n t)) ≡ counts_over c (drop (3 * i) (take n t))
    count_more h e f g = rw (add-one i, g, e) (sym (at_count h ∙ ap (λ (b : Bool). elim b as (λ (x : Bool). Counts) [ true ↦ c | false ↦ counts_over (counted_of c (role_of (op_at t i))) (drop (3 * suc i) (take n t)) ]) (ap is_over (sym e) ∙ f)))

    count_few : (r : List ℕ) → length r ≤ 2 → c ≡ counts_over c r
    unfolding counts_over
    count_few [] h = refl
    count_few (a ∷ []) h = refl
    count_few (a ∷ b ∷ []) h = refl
    count_few (a ∷ b ∷ d ∷ r) h = absurd (omega arith)

    pub count_end : n / 3 ≤ i → c ≡ counts_over c (drop (3 * i) (take n t))
    count_end h = count_few (drop (3 * i) (take n t)) (let x = length-drop (3 * i) (take n t) in let y = length-take n t in omega arith)

  module _ (e : Env) (g : Goal) (l : List ℕ) where
    at_search : i < n / 3 → sought_in e g l (drop (3 * i) (take n t)) ≡ elim (stops_at e.text g (role_of (op_at t i)) (place_at t i)) as (λ (x : Bool). List ℕ) [ true ↦ kept_of (role_of (op_at t i)) [] l | false ↦ sought_in e (left_of g (role_of (op_at t i))) (grown_of (role_of (op_at t i)) l (node_of e (op_at t i) (place_at t i) (value_at t i))) (drop (3 * suc i) (take n t)) ]
    unfolding sought_in
    at_search h = ap (sought_in e g l) (item_at_law t n i (omega arith) low)

    pub search_stop : i < n / 3 → {k : Role} → k ≡ role_of (op_at t i) → {p : ℕ} → p ≡ place_at t i → stops_at e.text g k p ≡ true → kept_of k [] l ≡ sought_in e g l (drop (3 * i) (take n t))
    search_stop h {k} q {p} v f =
        ap (λ (x : Role). kept_of x [] l) q ∙ sym (at_search h
        ∙ ap (λ (b : Bool). elim b as (λ (x : Bool). List ℕ) [
          | true ↦ kept_of (role_of (op_at t i)) [] l
          | false ↦ sought_in e (left_of g (role_of (op_at t i))) (grown_of (role_of (op_at t i)) l (node_of e (op_at t i) (place_at t i) (value_at t i))) (drop (3 * suc i) (take n t))
        ])
        (ap₂ (λ (x : Role) (y : ℕ). stops_at e.text g x y) (sym q) (sym v) ∙ f))

    pub search_more : i < n / 3 → {k : Role} → k ≡ role_of (op_at t i) → {p : ℕ} → p ≡ place_at t i → stops_at e.text g k p ≡ false → {g' : Goal} {l' : List ℕ} → g' ≡ left_of g k → l' ≡ grown_of k l (node_of e (op_at t i) (place_at t i) (value_at t i)) → sought_in e g' l' (drop (3 * (i + 1)) (take n t)) ≡ sought_in e g l (drop (3 * i) (take n t))
    search_more h {k} q {p} v f x y =
        rw (add-one i, x, y, q) (sym (at_search h
        ∙ ap (λ (b : Bool). elim b as (λ (x : Bool). List ℕ) [
          | true ↦ kept_of (role_of (op_at t i)) [] l
          | false ↦ sought_in e (left_of g (role_of (op_at t i))) (grown_of (role_of (op_at t i)) l (node_of e (op_at t i) (place_at t i) (value_at t i))) (drop (3 * suc i) (take n t))
        ])
        (ap₂ (λ (x : Role) (y : ℕ). stops_at e.text g x y) (sym q) (sym v) ∙ f)))

    search_few : (r : List ℕ) → length r ≤ 2 → [] ≡ sought_in e g l r
    unfolding sought_in
    search_few [] h = refl
    search_few (a ∷ []) h = refl
    search_few (a ∷ b ∷ []) h = refl
    search_few (a ∷ b ∷ d ∷ r) h = absurd (omega arith)

    pub search_end : n / 3 ≤ i → [] ≡ sought_in e g l (drop (3 * i) (take n t))
    search_end h = search_few (drop (3 * i) (take n t)) (let x = length-drop (3 * i) (take n t) in let y = length-take n t in omega arith)

-- ---- an index is found where the names before are others

module _ (text t s : List ℕ) where
  pub port_here : (from m : ℕ) → 0 < m → {p : ℕ} → p ≡ place_at t from → same (name_from text p) s ≡ true → 0 ≡ index (signed_names text t from m) s
  unfolding signed_names index
  port_here from zero h e f = absurd (omega arith)
  port_here from (suc m) h e f = sym (ap (λ (b : Bool). elim b as (λ (x : Bool). ℕ) [ true ↦ zero | false ↦ suc (index (signed_names text t (suc from) m) s) ]) (ap (λ (p : ℕ). same (name_from text p) s) (sym e) ∙ f))

  pub port_next : (from m : ℕ) → 0 < m → {p : ℕ} → p ≡ place_at t from → same (name_from text p) s ≡ false → suc (index (signed_names text t (suc from) (m - 1)) s) ≡ index (signed_names text t from m) s
  unfolding signed_names index
  port_next from zero h e f = absurd (omega arith)
  port_next from (suc m) h e f = let z : suc m - 1 ≡ m = omega arith in ap (λ (j : ℕ). suc (index (signed_names text t (suc from) j) s)) z ∙ sym (ap (λ (b : Bool). elim b as (λ (x : Bool). ℕ) [ true ↦ zero | false ↦ suc (index (signed_names text t (suc from) m) s) ]) (ap (λ (p : ℕ). same (name_from text p) s) (sym e) ∙ f))

  pub port_none : (from : ℕ) {m : ℕ} → m ≡ 0 → 0 ≡ index (signed_names text t from m) s
  unfolding signed_names index
  port_none from e = rw e

  module _ (i m : ℕ) (h : i < m) {p : ℕ} (e : p ≡ place_at t (i + 1)) where
    pub port_at_law : same (name_from text p) s ≡ true → i ≡ i + index (signed_names text t (i + 1) (m - i)) s
    port_at_law f = let z = port_here (i + 1) (m - i) (omega arith) e f in omega arith

    pub port_on : same (name_from text p) s ≡ false → i + 1 + index (signed_names text t (i + 1 + 1) (m - (i + 1))) s ≡ i + index (signed_names text t (i + 1) (m - i)) s
    port_on f =
        let x : i + 1 + 1 ≡ suc (i + 1) = omega arith in
        let y : m - (i + 1) ≡ m - i - 1 = omega arith in
        let z = port_next (i + 1) (m - i) (omega arith) e f in
        let w = ap₂ (λ (u v : ℕ). index (signed_names text t u v) s) x y in
        omega arith

-- ---- nodes

module _ (e : Env) (o p v : ℕ) where
  pub node_number : o ≡ 1 → {r : ℕ} → r ≡ number_node v → r ≡ node_of e o p v
  unfolding node_of
  node_number h q = q ∙ rw h

  pub node_value : o ≡ 2 → {r x f c end : ℕ} → end ≡ e.lines.widths + e.lines.values → c ≡ p → r ≡ number_node x → x ≡ value_or e.table f end → f ≡ e.lines.widths + index (names_on e.btext e.table e.lines.widths (end - e.lines.widths)) (name_from e.text c) → r ≡ node_of e o p v
  unfolding node_of value_of
  node_value h {f = f} {end = end} g y q u w =
      let z : end - e.lines.widths ≡ e.lines.values = omega arith in
      q ∙ ap number_node (u ∙ ap (value_or e.table f) g ∙ ap (λ (j : ℕ). value_or e.table j (e.lines.widths + e.lines.values)) (w ∙ ap₂ (λ (n d : ℕ). e.lines.widths + index (names_on e.btext e.table e.lines.widths n) (name_from e.text d)) z y)) ∙ rw h

  pub node_port : o ≡ 3 → {i c : ℕ} → c ≡ p → i ≡ index (signed_names e.text e.tape 1 e.ports) (name_from e.text c) → i * 8 + 1 ≡ node_of e o p v
  unfolding node_of port_of
  node_port h y q = ap (λ (j : ℕ). j * 8 + 1) (q ∙ ap (λ (d : ℕ). index (signed_names e.text e.tape 1 e.ports) (name_from e.text d)) y) ∙ rw h
