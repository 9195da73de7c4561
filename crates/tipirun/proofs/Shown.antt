-- THE THEOREM, up to the cycles: for every input shorter than 2^64 - 1 bytes what the program writes is what document 01 says, but where row 13 refuses the plan;
-- where cycles are to come, their count is the one that the definitions read, and the machine stands before the first with the plan of the text. Assumes nothing.
use mathlib.Core.Path.{◌≡◌, refl, sym, ◌∙◌, subst}
use mathlib.Core.List.{List, [], ◌∷◌}
use Prim.Native.Nat.{ℕ, ◌<◌, ◌≤◌, min}
use native.Mathlib.Omega.{arith}
use lib.ListN.{length, replicate}
use Rattle.language.specs.Bindings.{Got, got, lost, after}
use Rattle.language.specs.Reading.{refused, accepted, Reads}
use Rattle.language.specs.Sizes.{Setting}
use Rattle.language.specs.declared.Text.{Text}
use Rattle.language.specs.Meaning.{cell_widths}
use Rattle.language.specs.Worked.{is_bad, line, any_number, cycles, Input, input_of, answered, Writes, writes_bad, writes}
use Rattle.plan_of.specs.PlanOf.{plan_of}
use Rattle.tipi.proofs.Theorems.{reads_once}
use Rattle.figures.specs.declared.Stage.TheVariants.{Line}
use Rattle.figures.specs.States.{start_of}
use Rattle.input_bytes.specs.Bytes.{Machine, stated}
use Rattle.tipirun.specs.Machine.{room, Prints}
use Rattle.tipirun.specs.Statement.{HasRoom}
use Rattle.tipirun.proofs.CountLines.{Enters, Counted, cycle_count, count_run}
use Rattle.input_bytes.proofs.Numbers.{line_end}
use Rattle.tipirun.proofs.Opening.{Ready, Opens, refuses, no_room, runs_on, Opening, bad, texts, opening}

pub data Shown (input out : List ℕ) : Type 0 where
  as_told : HasRoom input → Writes input out → Shown input out
  thirteen : {i : Input} {r : List ℕ} (s : Setting) → input_of input ≡ got i r → Reads i.actor i.bindings (accepted s) → 16_384 < length (plan_of s) → out ≡ line (13 ∷ 0 ∷ []) → Shown input out
  -- k cycles are to come, out of the bytes x
  cycles_come : {i : Input} {r : List ℕ} (s : Setting) (m : Machine) (k : ℕ) (x : List ℕ) → input_of input ≡ got i r → Reads i.actor i.bindings (accepted s) → length (plan_of s) ≤ 16_384 → Ready s m
      → after (any_number r) line_end ≡ got k x → answered (accepted s) r ≡ cycles s k (replicate (length (cell_widths s)) 0) (replicate (length s.actor.signature) 0) x
      → Enters (stated m (start_of m.state Line (min k 18_446_744_073_709_551_615))) x out → Shown input out

-- where the plan has room: there is no actor; it is refused; or it is this one
no_actor : {input y : List ℕ} → input_of input ≡ lost y → HasRoom input
no_actor {input} {y} e = record { fits = λ s f x. absurd (let g = sym f ∙ e in let z : ◌≡◌ {A = ℕ} 0 1 = cc in omega arith) }

not_accepted : {input : List ℕ} {i : Input} {r : List ℕ} {n p : ℕ} {t : Text} → input_of input ≡ got i r → Reads i.actor i.bindings (refused n t p) → HasRoom input
not_accepted {i = i} {n = n} {p} {t} e a = record {
  fits = λ {i = j} s f x.
      let g = sym e ∙ f in
      let u : i ≡ j = cc in
      absurd (let q = reads_once i.actor i.bindings (refused n t p) (accepted s) a (subst (λ (k : Input). Reads k.actor k.bindings (accepted s)) (sym u) x) in let z : ◌≡◌ {A = ℕ} 0 1 = cc in omega arith);
}

pub this_one : {input : List ℕ} {i : Input} {r : List ℕ} (s : Setting) → input_of input ≡ got i r → Reads i.actor i.bindings (accepted s) → length (plan_of s) ≤ room → HasRoom input
this_one {i = i} s e a h = record {
  fits = λ {i = j} t f x.
      let g = sym e ∙ f in
      let u : i ≡ j = cc in
      let q = reads_once i.actor i.bindings (accepted s) (accepted t) a (subst (λ (k : Input). Reads k.actor k.bindings (accepted t)) (sym u) x) in
      let v : s ≡ t = cc in
      subst (λ (k : Setting). length (plan_of k) ≤ room) v h;
}

same : (input : List ℕ) {a b : List ℕ} → a ≡ b → Writes input a → Writes input b
same input e w = subst (Writes input) e w

answer_lost : (s : Setting) (r y : List ℕ) → after (any_number r) line_end ≡ lost y → answered (accepted s) r ≡ is_bad
unfolding answered
answer_lost s r y e = simp (answered, e)

answer_got : (s : Setting) (r x : List ℕ) (k : ℕ) → after (any_number r) line_end ≡ got k x → answered (accepted s) r ≡ cycles s k (replicate (length (cell_widths s)) 0) (replicate (length s.actor.signature) 0) x
unfolding answered
answer_got s r x k e = simp (answered, e)

counts : (input out : List ℕ) (i : Input) (r : List ℕ) (s : Setting) (m : Machine) → input_of input ≡ got i r → Reads i.actor i.bindings (accepted s) → length (plan_of s) ≤ 16_384 → Ready s m → (y : Got ℕ) → after (any_number r) line_end ≡ y → Counted m Line out y
    → Shown input out
unfolding Counted
counts input out i r s m e a h q (lost z) f x = as_told (this_one s e a h) (same input (answer_lost s r z f ∙ sym x) (writes (accepted s) e a))
counts input out i r s m e a h q (got k z) f x = cycles_come s m k z e a h q f (answer_got s r z k f) x

opens : (input out : List ℕ) (i : Input) (r : List ℕ) → input_of input ≡ got i r → Opens i.actor i.bindings r out → Shown input out
unfolding answered
opens input out i r e (refuses n p t a g) = as_told (not_accepted e a) (same input (sym g) (writes (refused n t p) e a))
opens input out i r e (no_room s a h f) = thirteen s e a h f
opens input out i r e (runs_on s m a h q x) = counts input out i r s m e a h q (after (any_number r) line_end) refl (count_run cycle_count r m out q.stage q.number x)

pub shown : (input out : List ℕ) → length input < 18_446_744_073_709_551_615 → Prints input out → Shown input out
shown input out h x = go (opening input out h x)
  where
    go : Opening input out → Shown input out
    go (bad e f) = as_told (no_actor e) (same input (sym f) (writes_bad e))
    go (texts {i = i} {r = r} e y) = opens input out i r e y
