-- The plan of an accepted text has the ports, inputs and outputs, and the cells of the text. Assumes nothing.
use mathlib.Core.Path.{◌≡◌, refl, sym, ap, ◌∙◌}
use mathlib.Core.Bool.{Bool, true, false}
use mathlib.Core.List.{List, [], ◌∷◌}
use Prim.Native.Nat.{ℕ, suc, ◌+◌, ◌^◌, ◌≤◌, ◌<◌}
use native.Mathlib.Omega.{arith}
use borrow.Author.Tests.{lt-ltb, le-ltb, eqb-true, eqb-false}
use lib.Dec.{eqb, ltb}
use lib.ListN.{length, get_or, replicate, length-replicate}
use Rattle.language.specs.Text.{Name, among}
use Rattle.language.specs.Tree.{spelled_of}
use Rattle.language.specs.Words.{Word}
use Rattle.language.specs.Names.{input_names}
use Rattle.language.specs.Sizes.{Setting}
use Rattle.language.specs.Meaning.{Outcome, cell_widths}
use Rattle.language.specs.Reading.{accepted, Reads}
use Rattle.plan.specs.Layout.{port_count, port_at, memory_count, cells_before}
use Rattle.plan.specs.Sound.{sound_of}
use Rattle.plan_sections.proofs.Parts.{ports_few}
use Rattle.judged.specs.Tests.{fitting, counts}
use Rattle.turn.specs.Cycle.{refused_by, cycle_of}
use Rattle.judged.proofs.Fired.{sound_sections}
use Rattle.turn.proofs.Outcomes.{counted, cycle_sound, cycle_22, cells_few}
use Rattle.plan_of.specs.PlanOf.{plan_of}
use Rattle.plan_of.specs.Theorems.{Planned}
use Rattle.plan_of.proofs.Read.{reads_accepted}
use Rattle.plan_of.proofs.Theorems.{reads_planned}
use Rattle.input_bytes.specs.Lines.{cells_of}
use Rattle.cycle_line.specs.Shown.{ports_of}
use Rattle.input_bytes.proofs.Signatures.{Kinds, no_port, a_port}

-- the ports of a plan are those of the signature, inputs and outputs, and its cells those of the memories
pub record Laid (s : Setting) : Type 0 where
  pub ports : ports_of (plan_of s) ≡ length s.actor.signature
  pub cells : cells_of (plan_of s) ≡ length (cell_widths s)
  pub kinds : Kinds (plan_of s) (input_names s.actor.ports) 0 s.actor.signature

-- ---- the ports

plan_ports : (s : Setting) → port_count (plan_of s) ≡ length s.actor.signature
unfolding plan_of
plan_ports s = refl

ports_laid : (s : Setting) → sound_of (plan_of s) ≡ true → ports_of (plan_of s) ≡ length s.actor.signature
unfolding ports_of
ports_laid s h = let a = ports_few (plan_of s) (sound_sections (plan_of s) h).0 in let b = plan_ports s in omega arith

-- ---- the cells: were they others than the text has, a cycle with as many as the plan has would be refused by 21, and it is not

past_the_mask : (p : List ℕ) (mask : ℕ) (values memory : List ℕ) → 2 ^ port_count p ≤ mask → fitting p mask values memory ≡ false
unfolding fitting
past_the_mask p mask values memory h = simp (fitting, le-ltb mask (2 ^ port_count p) h)

refused_22 : (p : List ℕ) (mask : ℕ) (values memory outputs : List ℕ) → sound_of p ≡ true → counts p values memory outputs ≡ true → 2 ^ port_count p ≤ mask → (cycle_of p mask values memory outputs).answer ≡ 22
unfolding refused_by
refused_22 p mask values memory outputs h c l =
    ap (λ (o : Outcome). o.answer) (cycle_sound p mask values memory outputs h ∙ cycle_22 p mask values memory outputs c (past_the_mask p mask values memory l))

plan_cells : (ws : List Word) (s : Setting) → Planned ws s → cells_before (plan_of s) (memory_count (plan_of s)) ≡ length (cell_widths s)
plan_cells ws s x = go (eqb n (length (cell_widths s))) refl
  where
    n : ℕ
    n = cells_before (plan_of s) (memory_count (plan_of s))

    zeros : List ℕ
    zeros = replicate (port_count (plan_of s)) 0

    go : (b : Bool) → eqb n (length (cell_widths s)) ≡ b → n ≡ length (cell_widths s)
    go true e = eqb-true n (length (cell_widths s)) e
    go false e =
        let other : n ≡ length (cell_widths s) → ⊥ = eqb-false n (length (cell_widths s)) e in
        let a = ap (λ (o : Outcome). o.answer) (x.uncounted (2 ^ port_count (plan_of s)) zeros (replicate n 0) zeros (λ l. other (sym (length-replicate n 0) ∙ l.2))) in
        let k = counted (plan_of s) zeros (replicate n 0) zeros (length-replicate (port_count (plan_of s)) 0) (length-replicate (port_count (plan_of s)) 0) (length-replicate n 0) in
        let b = refused_22 (plan_of s) (2 ^ port_count (plan_of s)) zeros (replicate n 0) zeros x.sound k (omega arith) in
        let c : ◌≡◌ {A = ℕ} 21 22 = sym a ∙ b in
        absurd (omega (arith, c))

cells_laid : (ws : List Word) (s : Setting) → Planned ws s → cells_of (plan_of s) ≡ length (cell_widths s)
unfolding cells_of
cells_laid ws s x = let a = cells_few (plan_of s) (sound_sections (plan_of s) x.sound).0 in let b = plan_cells ws s x in omega arith

-- ---- inputs and outputs

kinds_from : (ns : List Name) (p : List ℕ) (ins : List (List ℕ)) (i : ℕ) → ((j : ℕ) → j < length ns → ltb (port_at p (i + j)) 256 ≡ among ins (get_or (spelled_of ns) j [])) → Kinds p ins i ns
unfolding spelled_of
kinds_from [] p ins i h = no_port
kinds_from (n ∷ ns) p ins i h =
    a_port (ap (λ (k : ℕ). ltb (port_at p k) 256) (let e : i ≡ i + 0 = omega arith in e) ∙ h 0 (omega arith))
    (kinds_from ns p ins (i + 1) (λ j q. ap (λ (k : ℕ). ltb (port_at p k) 256) (let e : i + 1 + j ≡ i + suc j = omega arith in e) ∙ h (suc j) (omega arith)))

-- a width is at most 32, so that 256 more tells an output
kind_at_law : (ws : List Word) (s : Setting) → Planned ws s → ((i : ℕ) → get_or s.widths i 0 ≤ 32) → (i : ℕ) → i < length s.actor.signature
    → ltb (port_at (plan_of s) i) 256 ≡ among (input_names s.actor.ports) (get_or (spelled_of s.actor.signature) i [])
kind_at_law ws s x small i h = go (among (input_names s.actor.ports) (get_or (spelled_of s.actor.signature) i [])) refl
  where
    go : (b : Bool) → among (input_names s.actor.ports) (get_or (spelled_of s.actor.signature) i []) ≡ b → ltb (port_at (plan_of s) i) 256 ≡ among (input_names s.actor.ports) (get_or (spelled_of s.actor.signature) i [])
    go true e = lt-ltb (port_at (plan_of s) i) 256 (let a = x.inputs i h e in let b = small i in omega arith) ∙ sym e
    go false e = le-ltb (port_at (plan_of s) i) 256 (let a = x.outputs i h e in omega arith) ∙ sym e

pub reads_laid : (text bindings : List ℕ) (s : Setting) → Reads text bindings (accepted s) → Laid s
reads_laid text bindings s r =
    let ok = (reads_accepted text bindings (accepted s) s r refl).is in
    let x = reads_planned text bindings s r in
    record {
      ports = ports_laid s x.2.sound;
      cells = cells_laid x.0 s x.2;
      kinds = kinds_from s.actor.signature (plan_of s) (input_names s.actor.ports) 0 (λ j h. ap (λ (k : ℕ). ltb (port_at (plan_of s) k) 256) (let e : 0 + j ≡ j = omega arith in e) ∙ kind_at_law x.0 s x.2 ok.least.satisfies.small j h);
    }
