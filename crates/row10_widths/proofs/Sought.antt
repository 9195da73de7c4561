-- What the search finds on the tape of an actor: the nodes of a port's declared type, or of a memory's. Assumes nothing.
use mathlib.Core.Path.{◌≡◌, refl, sym, ap, ◌∙◌}
use mathlib.Core.Bool.{Bool, true, false}
use mathlib.Core.List.{List, [], ◌∷◌, ◌++◌, append_assoc}
use Prim.Native.Nat.{ℕ, zero, suc, ◌-◌}
use native.Mathlib.Omega.{arith}
use Rattle.language.specs.Text.{Name, same}
use Rattle.language.specs.Tree.{Declared, untyped, Port, Size, one, cells, Memory, Group, Actor}
use Rattle.language.specs.Widths.{declared_type}
use Rattle.placed.specs.Placed.{name_from, Every, PlacedDeclared, PlacedPort, PlacedMemory, PlacedActor}
use Rattle.tape.specs.Tape.{item, flat_d, flats, flat_port, flat_size, flat_memory, flat_signed, flat_group, flat_actor, ACTOR, DECLARED, MEMORY}
use Rattle.tape.specs.Nodes.{node_of as tape_node_of}
use Rattle.type_nodes.specs.Codes.{outside_of, role_in, Env, capped, grown_of, stops_at, left_of, kept_of, sought_in}
use Rattle.type_nodes.specs.declared.Role.TheVariants.{Declared as IsDeclared, Memory as IsMemory}
use Rattle.type_nodes.specs.declared.Goal.{Goal}
use Rattle.type_nodes.specs.declared.Goal.TheVariants.{Port as PortAt, Memory as MemoryAt}
use Rattle.row10_widths.proofs.Nodes.{nodes_t, type_takes}

unfoldable pub nodes_d : Env → Declared → List ℕ
nodes_d e untyped = []
nodes_d e (Declared.typed t) = capped (nodes_t e t)

-- the declared type of a memory by its index
unfoldable pub type_at : List Memory → ℕ → Declared
type_at [] i = untyped
type_at (m ∷ ms) zero = m.type
type_at (m ∷ ms) (suc i) = type_at ms i

module _ (e : Env) where
  -- a declared type, before what holds it
  decl_sought : (d : Declared) → PlacedDeclared e.text d → (g : Goal) (r : List ℕ) → sought_in e g [] (flat_d d ++ r) ≡ sought_in e g (nodes_d e d) r
  unfolding flat_d nodes_d
  decl_sought untyped h g r = refl
  decl_sought (Declared.typed t) h g r = (type_takes e t h).on g [] r

  port_sought : (p : Port) → PlacedPort e.text p → (g : Goal) (r : List ℕ)
      → sought_in e g [] (flat_port p ++ r) ≡ elim (stops_at e.text g IsDeclared p.called.at) as (λ (x : Bool). List ℕ) [ true ↦ nodes_d e p.type | false ↦ sought_in e g [] r ]
  unfolding flat_port sought_in role_in outside_of tape_node_of kept_of left_of grown_of
  port_sought p h g r = ap (sought_in e g []) (append_assoc (flat_d p.type) (item DECLARED p.called.at _) r) ∙ decl_sought p.type h.type g _

  size_sought : (z : Size) (g : Goal) (l r : List ℕ) → sought_in e g l (flat_size z ++ r) ≡ sought_in e g l r
  unfolding flat_size sought_in role_in outside_of tape_node_of stops_at left_of grown_of
  size_sought one g l r = refl
  size_sought (cells n) g l r = refl

  memory_sought : (m : Memory) → PlacedMemory e.text m → (g : Goal) (r : List ℕ)
      → sought_in e g [] (flat_memory m ++ r) ≡ elim (stops_at e.text g IsMemory m.called.at) as (λ (x : Bool). List ℕ) [ true ↦ nodes_d e m.type | false ↦ sought_in e (left_of g IsMemory) [] r ]
  unfolding flat_memory sought_in role_in outside_of tape_node_of kept_of grown_of
  memory_sought m h g r = ap (sought_in e g []) (append_assoc (flat_d m.type ++ flat_size m.size) (item MEMORY m.called.at _) r ∙ append_assoc (flat_d m.type) (flat_size m.size) _) ∙ decl_sought m.type h.type g _ ∙ size_sought m.size g (nodes_d e m.type) _

  signed_sought : (ns : List Name) (g : Goal) (r : List ℕ) → sought_in e g [] (flats flat_signed ns ++ r) ≡ sought_in e g [] r
  unfolding flats flat_signed sought_in role_in outside_of tape_node_of stops_at left_of grown_of
  signed_sought [] g r = refl
  signed_sought (n ∷ ns) g r = signed_sought ns g r

  groups_sought : (gs : List Group) (g : Goal) → sought_in e g [] (flats flat_group gs) ≡ []
  unfolding flats flat_group sought_in role_in outside_of tape_node_of stops_at kept_of
  groups_sought [] g = refl
  groups_sought (x ∷ gs) g = refl

  -- ---- a port's type

  module _ (q : ℕ) where
    ports_found : (ps : List Port) → Every (PlacedPort e.text) ps → (r : List ℕ) → sought_in e (PortAt q) [] r ≡ [] → sought_in e (PortAt q) [] (flats flat_port ps ++ r) ≡ nodes_d e (declared_type ps (name_from e.text q))
    unfolding flats declared_type nodes_d stops_at
    ports_found [] h r k = k
    ports_found (p ∷ ps) h r k =
        ap (sought_in e (PortAt q) []) (append_assoc (flat_port p) (flats flat_port ps) r) ∙ port_sought p h.0 (PortAt q) (flats flat_port ps ++ r)
        ∙ ap (λ (s : List ℕ). elim (same s (name_from e.text q)) as (λ (x : Bool). List ℕ) [ true ↦ nodes_d e p.type | false ↦ sought_in e (PortAt q) [] (flats flat_port ps ++ r) ]) (sym h.0.called)
        ∙ go (same p.called.spelled (name_from e.text q)) (ports_found ps h.1 r k)
      where
        go : (b : Bool) → sought_in e (PortAt q) [] (flats flat_port ps ++ r) ≡ nodes_d e (declared_type ps (name_from e.text q)) → elim b as (λ (x : Bool). List ℕ) [ true ↦ nodes_d e p.type | false ↦ sought_in e (PortAt q) [] (flats flat_port ps ++ r) ] ≡ nodes_d e (elim b as (λ (x : Bool). Declared) [ true ↦ p.type | false ↦ declared_type ps (name_from e.text q) ])
        go true i = refl
        go false i = i

    no_memories : (ms : List Memory) → Every (PlacedMemory e.text) ms → (r : List ℕ) → sought_in e (PortAt q) [] (flats flat_memory ms ++ r) ≡ sought_in e (PortAt q) [] r
    unfolding flats stops_at left_of
    no_memories [] h r = refl
    no_memories (m ∷ ms) h r = ap (sought_in e (PortAt q) []) (append_assoc (flat_memory m) (flats flat_memory ms) r) ∙ memory_sought m h.0 (PortAt q) (flats flat_memory ms ++ r) ∙ no_memories ms h.1 r

  -- ---- a memory's

  no_ports : (i : ℕ) (ps : List Port) → Every (PlacedPort e.text) ps → (r : List ℕ) → sought_in e (MemoryAt i) [] (flats flat_port ps ++ r) ≡ sought_in e (MemoryAt i) [] r
  unfolding flats stops_at
  no_ports i [] h r = refl
  no_ports i (p ∷ ps) h r = ap (sought_in e (MemoryAt i) []) (append_assoc (flat_port p) (flats flat_port ps) r) ∙ port_sought p h.0 (MemoryAt i) (flats flat_port ps ++ r) ∙ no_ports i ps h.1 r

  memories_found : (i : ℕ) (ms : List Memory) → Every (PlacedMemory e.text) ms → (r : List ℕ) → ((j : ℕ) → sought_in e (MemoryAt j) [] r ≡ []) → sought_in e (MemoryAt i) [] (flats flat_memory ms ++ r) ≡ nodes_d e (type_at ms i)
  unfolding flats type_at nodes_d stops_at left_of
  memories_found i [] h r k = k i
  memories_found zero (m ∷ ms) h r k = ap (sought_in e (MemoryAt 0) []) (append_assoc (flat_memory m) (flats flat_memory ms) r) ∙ memory_sought m h.0 (MemoryAt 0) (flats flat_memory ms ++ r)
  memories_found (suc i) (m ∷ ms) h r k =
      let z : suc i - 1 ≡ i = omega arith in
      ap (sought_in e (MemoryAt (suc i)) []) (append_assoc (flat_memory m) (flats flat_memory ms) r) ∙ memory_sought m h.0 (MemoryAt (suc i)) (flats flat_memory ms ++ r) ∙ ap (λ (j : ℕ). sought_in e (MemoryAt j) [] (flats flat_memory ms ++ r)) z ∙ memories_found i ms h.1 r k

  -- ---- the actor

  parts : (a : Actor) → flat_actor a ≡ item ACTOR a.called.at 0 ++ (flats flat_signed a.signature ++ (flats flat_port a.ports ++ (flats flat_memory a.memories ++ flats flat_group a.groups)))
  unfolding flat_actor
  parts a = simp append_assoc

  started : (a : Actor) (g : Goal) → sought_in e g [] (flat_actor a) ≡ sought_in e g [] (flats flat_port a.ports ++ (flats flat_memory a.memories ++ flats flat_group a.groups))
  unfolding sought_in role_in outside_of tape_node_of stops_at left_of grown_of
  started a g = ap (sought_in e g []) (parts a) ∙ signed_sought a.signature g _

  pub port_found : (a : Actor) → PlacedActor e.text a → (q : ℕ) → sought_in e (PortAt q) [] (flat_actor a) ≡ nodes_d e (declared_type a.ports (name_from e.text q))
  port_found a h q = started a (PortAt q) ∙ ports_found q a.ports h.ports _ (no_memories q a.memories h.memories (flats flat_group a.groups) ∙ groups_sought a.groups (PortAt q))

  pub memory_found : (a : Actor) → PlacedActor e.text a → (i : ℕ) → sought_in e (MemoryAt i) [] (flat_actor a) ≡ nodes_d e (type_at a.memories i)
  memory_found a h i = started a (MemoryAt i) ∙ no_ports i a.ports h.ports _ ∙ memories_found i a.memories h.memories (flats flat_group a.groups) (λ j. groups_sought a.groups (MemoryAt j))
