-- The widths of a plan's ports and memories are the setting's, in their order.
use Prim.Native.Nat.{ℕ, zero, suc, ◌+◌, ◌<◌}
use mathlib.Core.Path.{◌≡◌, refl, sym, ap, ◌∙◌, subst}
use mathlib.Core.List.{List, [], ◌∷◌, ◌++◌}
use mathlib.Core.Bool.{Bool, true, false, true≢false}
use native.Mathlib.Omega.{arith}
use lib.ListN.{length, get_or}
use lib.Seq.{get_or-append-add}
use Rattle.language.specs.Text.{Name, among, index}
use Rattle.language.specs.Words.{Word}
use Rattle.language.specs.Tree.{Memory, spelled_of, port_names, memory_names}
use Rattle.language.specs.Names.{input_names, ports}
use Rattle.language.specs.Widths.{port_width, memory_width}
use Rattle.language.specs.Sizes.{Setting}
use Rattle.plan.specs.Layout.{port_at, memory_width_at}
use Rattle.plan_of.specs.PlanOf.{plan_of}
use Rattle.plan_of.specs.Accepted.{Accepted, Grammatical}
use Rattle.placed.proofs.Names.{Distinct, distinct_later, index_distinct, among_of, every_among, every_spelled, missing_none, repeated_distinct, length_spelled}
use Rattle.plan_of.proofs.Sections.{no_memory, memory_width_law}
use Rattle.plan_of.proofs.Fits.{input_number, output_number}
use Rattle.plan_of.proofs.Outputs.{spelled_append, cons_false}
use Rattle.plan_of.proofs.SoundNames.{memory_names_long}
use Rattle.plan_of.proofs.Facts.{name_facts, signature_distinct}

index_append : (l m : List (List ℕ)) (n : List ℕ) → among l n ≡ false → index (l ++ m) n ≡ length l + index m n
unfolding index
index_append [] m n h = sym (native.Mathlib.Nat.zero-add (index m n))
index_append (a ∷ l) m n h = let q = among_of l a n h in rw (index, q.0, index_append l m n q.1) (omega arith)

-- of names that come once, those after
module _ (m : List Name) where
  distinct_second : (seen : List (List ℕ)) (l : List Name) → Distinct seen (l ++ m) → (more : List (List ℕ)) × Distinct more m
  distinct_second seen [] d = (seen, d)
  distinct_second seen (n ∷ l) d = distinct_second (n.spelled ∷ seen) l d.1

  second_not : (seen : List (List ℕ)) (l : List Name) (j : ℕ) → Distinct seen (l ++ m) → j < length m → among (spelled_of l) (get_or (spelled_of m) j []) ≡ false
  unfolding spelled_of among
  second_not seen [] j d h = refl
  second_not seen (n ∷ l) j d h =
      let k : length l + j < length (l ++ m) = rw (lib.ListN.length-append l m) (omega arith) in
      let e : get_or (spelled_of (l ++ m)) (length l + j) [] ≡ get_or (spelled_of m) j [] =
      ap (λ (x : List (List ℕ)). get_or x (length l + j) []) (spelled_append l m) ∙ rw (← (length_spelled l)) (get_or-append-add (spelled_of l) (spelled_of m) j []) in
      let q = among_of seen n.spelled _ (subst (λ (x : List ℕ). among (n.spelled ∷ seen) x ≡ false) e (distinct_later (n.spelled ∷ seen) (l ++ m) (length l + j) d.1 k)) in
      cons_false n.spelled (spelled_of l) (get_or (spelled_of m) j []) q.0 (second_not (n.spelled ∷ seen) l j d.1 h)

memory_named : (l : List Memory) (i : ℕ) → i < length l → (get_or l i no_memory).called.spelled ≡ get_or (spelled_of (memory_names l)) i []
unfolding spelled_of memory_names
memory_named [] i h = absurd (omega arith)
memory_named (x ∷ l) zero h = refl
memory_named (x ∷ l) (suc i) h = memory_named l i (omega arith)

module _ (ws : List Word) (s : Setting) (ok : Accepted ws s) (gr : Grammatical ws s.actor) where
  -- ports in the order of the signature
  pub inputs_resolved : (i : ℕ) → i < length s.actor.signature → among (input_names s.actor.ports) (get_or (spelled_of s.actor.signature) i []) ≡ true → port_at (plan_of s) i ≡ get_or s.widths i 0
  unfolding port_width
  inputs_resolved i h a = input_number s i h a ∙ rw (port_width, index_distinct [] s.actor.signature i (signature_distinct ws s ok gr) h)

  pub outputs_resolved : (i : ℕ) → i < length s.actor.signature → among (input_names s.actor.ports) (get_or (spelled_of s.actor.signature) i []) ≡ false → port_at (plan_of s) i ≡ get_or s.widths i 0 + 256
  unfolding port_width
  outputs_resolved i h a = output_number s i h a ∙ rw (port_width, index_distinct [] s.actor.signature i (signature_distinct ws s ok gr) h)

  -- and then the memories
  pub memories_resolved : (i : ℕ) → i < length s.actor.memories → memory_width_at (plan_of s) i ≡ get_or s.widths (length s.actor.signature + i) 0
  unfolding memory_width ports
  memories_resolved i h =
      let q = name_facts s.actor ok.names in
      let n = get_or (spelled_of (memory_names s.actor.memories)) i [] in
      let l = memory_names_long s.actor.memories in
      let d = repeated_distinct [] (port_names s.actor.ports ++ memory_names s.actor.memories) q.3 in
      let a = second_not (memory_names s.actor.memories) [] (port_names s.actor.ports) i d (omega arith) in
      let b = distinct_second (memory_names s.actor.memories) [] (port_names s.actor.ports) d in
      let e = index_distinct b.0 (memory_names s.actor.memories) i b.1 (omega arith) in
      memory_width_law s i h
      ∙ rw (memory_width, memory_named s.actor.memories i h, index_append (spelled_of s.actor.signature) (spelled_of (memory_names s.actor.memories)) n (not_port n a (among (spelled_of s.actor.signature) n) refl), e, length_spelled s.actor.signature)
    where
      not_port : (n : List ℕ) → among (spelled_of (port_names s.actor.ports)) n ≡ false → (t : Bool) → among (spelled_of s.actor.signature) n ≡ t → among (spelled_of s.actor.signature) n ≡ false
      not_port n a true e =
          absurd (true≢false (sym (every_among (λ m. among (spelled_of (port_names s.actor.ports)) m ≡ true) (spelled_of s.actor.signature) n (every_spelled _ s.actor.signature (missing_none _ _ (name_facts s.actor ok.names).1)) e) ∙ a))
      not_port n a false e = e
