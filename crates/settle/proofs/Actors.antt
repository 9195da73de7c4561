-- The walk over an actor's items writes the actor settled. Assumes nothing.
use mathlib.Core.Path.{◌≡◌, refl, sym, ap, ap₂, ◌∙◌}
use mathlib.Core.Bool.{Bool, true, false}
use mathlib.Core.List.{List, [], ◌∷◌, ◌++◌, append_assoc, append-nil}
use Prim.Native.Nat.{ℕ, ◌+◌, ◌*◌}
use native.Mathlib.Omega.{arith}
use lib.ListN.{get_or}
use Rattle.language.specs.Text.{Name, index, among}
use Rattle.language.specs.Tree.{Declared, untyped, Port, Size, one, cells, Memory, Group}
use Rattle.language.specs.Parts.{each, types, declared_items}
use Rattle.language.specs.Names.{input_names}
use Rattle.language.specs.Counts.{size_of}
use Rattle.language.specs.Widths.{port_width, memory_width}
use Rattle.language.specs.Sizes.{Setting}
use Rattle.placed.specs.Placed.{Spelled, Every, PlacedDeclared}
use Rattle.tape.specs.Tape as Tape
use Rattle.tape.specs.Tape.{item, flat_d, is_typed, flats, flat_port, flat_size, flat_memory, flat_signed, flat_group, flat_actor}
use Rattle.tape.proofs.Tapes.{Goes, goes_none, goes_both, goes_item}
use Rattle.type_value.specs.Terms.{code}
use Rattle.settled.specs.Form.{SIGNED, MEMORY, six}
use Rattle.settled.specs.Settled.{settled_signed, settled_memory, settled_group, settled_of}
use Rattle.looked_up.specs.Lookup.{operand}
use Rattle.item_writes.specs.Walk.{Around, State, start, step, takes, without, grown, when, memory_width_out, signed_out, named_out, written}
use Rattle.settle.proofs.Types.{types_go}
use Rattle.settle.proofs.Leaving.{state, Writes, wrote, writes_none, writes_both, writes_item, writes_many}
use Rattle.settle.proofs.Settings.{ports_of, memories_of, size_given, around, Small, operand_is, term_in, Right, sound}
use Rattle.settle.proofs.Statements.{RightRule, group_goes}

module _ (text : List ℕ) (s : Setting) where
  abbrev pub RightDeclared : Declared → Type 0
  RightDeclared d = PlacedDeclared text d × Every (Right s) (types (declared_items d))

  -- a port or a memory: its type, and its name
  abbrev pub RightPort : Port → Type 0
  RightPort p = RightDeclared p.type

  abbrev pub RightMemory : Memory → Type 0
  RightMemory m = RightDeclared m.type × Spelled text m.called

  pub record RightActor : Type 0 where
    pub signature : Every (Spelled text) s.actor.signature
    pub ports : Every RightPort s.actor.ports
    pub memories : Every RightMemory s.actor.memories
    pub groups : Every (λ (g : Group). Every (RightRule text s) g.rules) s.actor.groups

module _ (text : List ℕ) (s : Setting) (ins : List (List ℕ)) (small : Small s) where
  abbrev A : Around
  A = around text s ins

  -- the walk before groups: no `let` is in force
  abbrev S : List (List ℕ) → List ℕ → ℕ → State
  S ts l size = state ts l [] 0 size

  -- ---- the signature

  module _ (inputs : (n : List ℕ) → among ins n ≡ among (input_names s.actor.ports) n) where
    -- a port by its width, and whether it is an input
    by_side : (p w : ℕ) (b : Bool) → six SIGNED p (when b w (w + 256)) 0 0 0 ≡ elim b as (λ (x : Bool). List ℕ) [ true ↦ six SIGNED p w 0 0 0 | false ↦ six SIGNED p (w + 256) 0 0 0 ]
    unfolding when
    by_side p w true = refl
    by_side p w false = refl

    signed_out_law : (st : State) (n : Name) → Spelled text n → signed_out A st n.at ≡ settled_signed s n
    unfolding signed_out settled_signed port_width
    signed_out_law st n h =
        let w = get_or s.widths (index (ports_of s) n.spelled) 0 in
        let few = small.widths (index (ports_of s) n.spelled) in
        ap (λ (m : List ℕ). six SIGNED n.at (when (among ins m) (get_or s.widths (index (ports_of s) m) 0) (operand (get_or s.widths (index (ports_of s) m) 0 + 256))) 0 0 0) (sym h)
        ∙ ap₂ (λ (b : Bool) (k : ℕ). six SIGNED n.at (when b w k) 0 0 0) (inputs n.spelled) (operand_is (w + 256) (omega arith))
        ∙ by_side n.at w (among (input_names s.actor.ports) n.spelled)

    signed_goes : (n : Name) → Spelled text n → Writes A [] 0 1 (flat_signed n) (settled_signed s n)
    unfolding flat_signed step takes without grown when named_out written
    signed_goes n h = writes_item Tape.SIGNED n.at 0 (λ ts l. ap (λ (x : List ℕ). S ts (l ++ x) 1) (signed_out_law (S ts l 1) n h))

  -- ---- declared types: the code waits for what is declared

  unfoldable codes : Declared → List (List ℕ) → List (List ℕ)
  codes untyped ts = ts
  codes (Declared.typed t) ts = code (term_in s t) ∷ ts

  declared_goes : (d : Declared) → RightDeclared text s d → (ts : List (List ℕ)) (l : List ℕ) → Goes (step A) (S ts l 1) (flat_d d) (S (codes d ts) l 1)
  unfolding flat_d codes declared_items types
  declared_goes untyped h ts l = goes_none
  declared_goes (Declared.typed t) h ts l = types_go A (S ts l 1) t (sound text s ins small.unknowns t h.0 h.1.0.fine)

  -- ---- ports

  port_ends : (d : Declared) (input : Bool) (p : ℕ) (ts : List (List ℕ)) (l : List ℕ) → step A (S (codes d ts) l 1) Tape.DECLARED p (2 * Tape.one_if input + is_typed d) ≡ S ts (l ++ []) 1
  unfolding codes is_typed Tape.one_if step takes without grown when named_out written
  port_ends untyped true p ts l = refl
  port_ends untyped false p ts l = refl
  port_ends (Declared.typed t) true p ts l = refl
  port_ends (Declared.typed t) false p ts l = refl

  port_goes : (p : Port) → RightPort text s p → Writes A [] 0 1 (flat_port p) []
  unfolding flat_port
  port_goes p h = record { on = λ ts l. goes_both (declared_goes p.type h ts l) (goes_item Tape.DECLARED p.called.at _ (port_ends p.type p.input p.called.at ts l)) }

  ports_go : (ps : List Port) → Every (RightPort text s) ps → Writes A [] 0 1 (flats flat_port ps) []
  unfolding flats
  ports_go [] h = writes_none
  ports_go (p ∷ ps) h = writes_both (port_goes p h.0) (ports_go ps h.1)

  -- ---- memories

  size_goes : (z : Size) (ts : List (List ℕ)) (l : List ℕ) → Goes (step A) (S ts l 1) (flat_size z) (S ts l (size_given z))
  unfolding flat_size step takes without grown when named_out written
  size_goes one ts l = goes_none
  size_goes (cells n) ts l = goes_item Tape.SIZE n.at n.value (ap (λ (x : List ℕ). S ts x n.value) (append-nil l))

  memory_out : (st : State) (n : Name) → Spelled text n → memory_width_out A st n.at ≡ memory_width s.actor s.widths n.spelled
  unfolding memory_width_out memory_width
  memory_out st n h = ap (λ (m : List ℕ). get_or s.widths (index (ports_of s ++ memories_of s) m) 0) (sym h)

  memory_ends : (d : Declared) (n : Name) → Spelled text n → (k : ℕ) (ts : List (List ℕ)) (l : List ℕ)
      → step A (S (codes d ts) l k) Tape.MEMORY n.at (is_typed d) ≡ S ts (l ++ six MEMORY n.at (memory_width s.actor s.widths n.spelled) k 0 0) 1
  unfolding codes is_typed step takes without grown when named_out written
  memory_ends untyped n h k ts l = ap (λ (w : ℕ). S ts (l ++ six MEMORY n.at w k 0 0) 1) (memory_out (S ts l k) n h)
  memory_ends (Declared.typed t) n h k ts l = ap (λ (w : ℕ). S ts (l ++ six MEMORY n.at w k 0 0) 1) (memory_out (S (code (term_in s t) ∷ ts) l k) n h)

  memory_goes : (m : Memory) → RightMemory text s m → Writes A [] 0 1 (flat_memory m) (settled_memory s m)
  unfolding flat_memory settled_memory size_of
  memory_goes m h = record { on = λ ts l. goes_both (goes_both (declared_goes m.type h.0 ts l) (size_goes m.size (codes m.type ts) l)) (goes_item Tape.MEMORY m.called.at _ (memory_ends m.type m.called h.1 (size_given m.size) ts l)) }

  -- ---- the actor

  actor_starts : (p : ℕ) → Writes A [] 0 1 (item Tape.ACTOR p 0) []
  unfolding step takes without grown when named_out written
  actor_starts p = writes_item Tape.ACTOR p 0 (λ ts l. refl)

  joined : (x y z : List ℕ) → ((x ++ []) ++ y) ++ z ≡ x ++ (y ++ z)
  joined x y z = ap (λ (w : List ℕ). (w ++ y) ++ z) (append-nil x) ∙ append_assoc x y z

  actor_writes : ((n : List ℕ) → among ins n ≡ among (input_names s.actor.ports) n) → RightActor text s → Writes A [] 0 1 (flat_actor s.actor) (settled_of s)
  unfolding flat_actor settled_of
  actor_writes inputs h =
      wrote (joined (each (settled_signed s) s.actor.signature) (each (settled_memory s) s.actor.memories) (each (settled_group s) s.actor.groups))
      (writes_both (writes_both (writes_both (writes_both (actor_starts s.actor.called.at) (writes_many flat_signed (settled_signed s) (signed_goes inputs) s.actor.signature h.signature)) (ports_go s.actor.ports h.ports))
      (writes_many flat_memory (settled_memory s) memory_goes s.actor.memories h.memories)) (writes_many flat_group (settled_group s) (group_goes text s ins small 1) s.actor.groups h.groups))

  pub actor_goes : ((n : List ℕ) → among ins n ≡ among (input_names s.actor.ports) n) → RightActor text s → Goes (step A) start (flat_actor s.actor) (S [] (settled_of s) 1)
  unfolding start
  actor_goes inputs h = (actor_writes inputs h).on [] []
