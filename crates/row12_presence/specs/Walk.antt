-- Row 12 as a walk over settled items (crate `settled`, specs/Form.antt), one computed test an item. Assumes nothing: these are definitions.
use Rattle.std.specs.Prelude.{Bool, true, false, not, ◌||◌, List, [], ◌∷◌, ℕ, ◌^◌, eqb, ltb}
use Rattle.std.specs.Int.Bits.{bit_or}
use Rattle.language.specs.Values.{bit_of}
use Rattle.words.specs.Found.{Place}
use Rattle.words.specs.Found.{earlier_of}
use Rattle.settled.specs.Form.{READ, ASSIGN, PRESENT, RULED, OR}
use Rattle.row12_presence.specs.declared.Met.{Met}

-- a set of ports is a mask: port k is in it where its bit k is 1
unfoldable pub has : ℕ → ℕ → Bool
has set k = eqb (bit_of set k) 1

-- a mask has so many bits: a port of a greater number, which no text has, is in no set
abbrev pub mask_bits : ℕ
mask_bits = 32

-- a set with port k more
unfoldable pub with_port : ℕ → ℕ → ℕ
with_port set k = elim (ltb k mask_bits) [ true ↦ bit_or set (2 ^ k) | false ↦ set ]

-- "input read or output assigned without `.p.1` in the rule; output assigned twice in a rule or in two groups"
unfoldable pub faulty : Met → (op port : ℕ) → Bool
faulty m op k =
    elim (eqb op READ) [
      | true ↦ not (has m.required k)
      | false ↦ elim (eqb op ASSIGN) [ true ↦ (not (has m.required k) || has m.assigned k) || has m.earlier k | false ↦ false ]
    ]

-- an entry of a rule's list: 1 for `.p.1`
unfoldable pub listing : Met → (port listed : ℕ) → Met
listing m k b =
    elim (eqb b 1) [
      | true ↦ record { required = with_port m.required k; assigned = m.assigned; everywhere = m.everywhere; earlier = m.earlier }
      | false ↦ m
    ]

-- an assignment, in its rule and in all groups so far
unfoldable pub assigning : Met → ℕ → Met
assigning m k = record { required = m.required; assigned = with_port m.assigned k; everywhere = with_port m.everywhere k; earlier = m.earlier }

-- a rule ends, with what it listed and assigned
unfoldable pub ending : Met → Met
ending m = record { required = 0; assigned = 0; everywhere = m.everywhere; earlier = m.earlier }

-- a group begins: all that was assigned so far was so in an earlier one
unfoldable pub grouping : Met → Met
grouping m = record { required = m.required; assigned = m.assigned; everywhere = m.everywhere; earlier = m.everywhere }

-- the sets after an item
unfoldable pub next_of : Met → (op port listed : ℕ) → Met
next_of m op k b =
    elim (eqb op PRESENT) [
      | true ↦ listing m k b
      | false ↦ elim (eqb op ASSIGN) [ true ↦ assigning m k | false ↦ elim (eqb op RULED) [ true ↦ ending m | false ↦ elim (eqb op OR) [ true ↦ grouping m | false ↦ m ] ] ]
    ]

-- before the first item
abbrev pub begin : Met
begin = record { required = 0; assigned = 0; everywhere = 0; earlier = 0 }

-- "within one the earliest place decides": a place more, where a test passes
unfoldable pub soonest : Bool → ℕ → Place → Place
soonest true p q = earlier_of p q
soonest false p q = q

-- the earliest place of a faulty item and of what was found before
unfoldable pub walk : Met → List ℕ → Place → Place
walk m [] q = q
walk m (o ∷ []) q = q
walk m (o ∷ p ∷ []) q = q
walk m (o ∷ p ∷ a ∷ []) q = q
walk m (o ∷ p ∷ a ∷ b ∷ []) q = q
walk m (o ∷ p ∷ a ∷ b ∷ c ∷ []) q = q
walk m (o ∷ p ∷ a ∷ b ∷ c ∷ d ∷ l) q = walk (next_of m o a b) l (soonest (faulty m o a) p q)
