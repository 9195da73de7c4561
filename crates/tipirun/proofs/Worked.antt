-- THE THEOREM of specs/Statement.antt: for every input shorter than 2^64 - 1 bytes what the machine writes (`Prints`) is what document 01 says where the plan has room, and `13 0` where it has none;
-- and that is one output, for every such input. Assumes nothing.
-- Each byte's step and the end are in the contracts of `feed` and `ended`; that `main`, which moves the bytes, writes no more and no less is read, not stated.
use mathlib.Core.Path.{◌≡◌, refl, sym, ap, ap₂, ◌∙◌, subst}
use mathlib.Core.Bool.{Bool, true, false}
use mathlib.Core.List.{List, ◌∷◌}
use Prim.Native.Nat.{ℕ, zero, suc, ◌+◌, ◌≤◌, ◌<◌, min}
use native.Mathlib.Omega.{arith}
use borrow.Author.Tests.{le-leb, leb-true, leb-false}
use lib.Dec.{leb}
use lib.ListN.{length, take, drop, replicate, length-replicate, get_or-replicate}
use lib.Seq.{sets-eq, take_at}
use Rattle.language.specs.Bindings.{got, after}
use Rattle.language.specs.Reading.{Answer, accepted, Reads}
use Rattle.language.specs.Sizes.{Setting}
use Rattle.language.specs.Meaning.{cell_widths}
use Rattle.language.specs.Worked.{any_number, cycles, Input, input_of, answered, Writes, writes_bad, writes}
use Rattle.row13_plan.specs.Made.{table_after as table_with}
use Rattle.plan_of.specs.PlanOf.{plan_of}
use Rattle.plan_of.proofs.Theorems.{reads_planned}
use Rattle.tipi.specs.Told.{table_after}
use Rattle.tipi.proofs.Theorems.{reads_once}
use Rattle.figures.specs.declared.Stage.TheVariants.{Line}
use Rattle.figures.specs.States.{start_of}
use Rattle.input_bytes.specs.Lines.{cells_of}
use Rattle.cycle_line.specs.Shown.{ports_of}
use Rattle.input_bytes.specs.Bytes.{Machine}
use Rattle.tipirun.specs.Machine.{Prints}
use Rattle.tipirun.specs.Statement.{Worked, as_01, row_13}
use Rattle.input_bytes.proofs.Numbers.{line_end}
use Rattle.tipirun.proofs.Opening.{Ready}
use Rattle.tipirun.proofs.LineValues.{Slots}
use Rattle.tipirun.proofs.CycleRuns.{Agrees, AtLine, cycles_run}
use Rattle.input_bytes.proofs.Signatures.{turns_agree, lines_agree}
use Rattle.tipirun.proofs.Laying.{reads_laid}
use Rattle.input_bytes.proofs.Spent.{leaves_got, same_cycles, input_leaves, count_leaves}
use Rattle.tipirun.proofs.Decided.{prints_some}
use Rattle.tipirun.proofs.Shown.{Shown, as_told, thirteen, cycles_come, this_one, shown}

take_zeros : (n m : ℕ) → n ≤ m → take {A = ℕ} n (replicate m 0) ≡ replicate n 0
take_zeros zero m h = refl
take_zeros (suc n) zero h = absurd (omega arith)
take_zeros (suc n) (suc m) h = ap (λ (l : List ℕ). 0 ∷ l) (take_zeros n m (omega arith))

-- the plan stands at the start of its table
plan_stands : (s : Setting) (before : List ℕ) → length (plan_of s) ≤ length before → take (length (plan_of s)) (table_after (accepted s) before) ≡ plan_of s
unfolding table_after table_with
plan_stands s before h =
    simp (table_after, table_with, le-leb (length (plan_of s)) (length before) h)
    (ap (take (length (plan_of s))) (sets-eq (plan_of s) before 0 (omega arith)) ∙ take_at (plan_of s) (drop (0 + length (plan_of s)) before) (length (plan_of s)) refl)

few_ports : (p : List ℕ) → ports_of p ≤ 16
unfolding ports_of
few_ports p = omega arith

few_cells : (p : List ℕ) → cells_of p ≤ 256
unfolding cells_of
few_cells p = omega arith

zero_slots : (p : List ℕ) → Slots p (replicate 16 0)
zero_slots p =
    let q = few_ports p in
    record { long = (let a = length-replicate {A = ℕ} 16 0 in omega arith); zeros = λ j h f. get_or-replicate 16 j 0 0 (omega arith) }

first_stands : (s : Setting) (a : Agrees s) (m : Machine) (n : ℕ) → length (plan_of s) ≤ 16_384 → Ready s m → AtLine s a m (start_of m.state Line n) (replicate (length (cell_widths s)) 0) (replicate (length s.actor.signature) 0)
first_stands s a m n h r =
    record {
      stage = refl;
      number = refl;
      port = refl;
      plan = ap₂ take r.long r.plan ∙ plan_stands s r.before (let q = r.room in omega arith);
      values = subst (Slots (plan_of s)) (sym r.values) (zero_slots (plan_of s));
      cells = ap (take (cells_of (plan_of s))) r.memory ∙ take_zeros (cells_of (plan_of s)) 256 (few_cells (plan_of s)) ∙ ap (λ (k : ℕ). replicate k 0) a.cells;
      slots = ap (take (ports_of (plan_of s))) r.outputs ∙ take_zeros (ports_of (plan_of s)) 16 (few_ports (plan_of s)) ∙ ap (λ (k : ℕ). replicate k 0) a.ports;
      size = length-replicate (length (cell_widths s)) 0;
      count = length-replicate (length s.actor.signature) 0;
    }

agrees_so : (text bindings : List ℕ) (s : Setting) → Reads text bindings (accepted s) → Agrees s
agrees_so text bindings s r =
    let l = reads_laid text bindings s r in
    record {
      ports = l.ports;
      cells = l.cells;
      turns = turns_agree s.actor (plan_of s) l.ports l.kinds;
      lines = lines_agree s.actor (plan_of s) l.ports l.kinds;
      means = (reads_planned text bindings s r).2.means;
    }

-- a count above `most` does as `most` does: the bytes end before either
least_cycles : (s : Setting) (k most : ℕ) (memory outputs bs : List ℕ) → length bs < most → cycles s (min k most) memory outputs bs ≡ cycles s k memory outputs bs
least_cycles s k most memory outputs bs h = go (leb k most) refl
  where
    go : (b : Bool) → leb k most ≡ b → cycles s (min k most) memory outputs bs ≡ cycles s k memory outputs bs
    go true e = ap (λ (n : ℕ). cycles s n memory outputs bs) (let l = leb-true k most e in let q : min k most ≡ k = omega arith in q)
    go false e = let l = leb-false k most e in same_cycles (min k most) k s memory outputs bs (omega arith) (omega arith)

-- the bytes of the cycles are fewer than those of the input
few_bytes : (input : List ℕ) (n : ℕ) (i : Input) (r : List ℕ) (k : ℕ) (x : List ℕ) → length input < n → input_of input ≡ got i r → after (any_number r) line_end ≡ got k x → length x < n
few_bytes input n i r k x h e f = leaves_got n (after (any_number r) line_end) k x f (count_leaves r n (leaves_got n (input_of input) i r e (input_leaves input n h)))

pub worked : (input out : List ℕ) → length input < 18_446_744_073_709_551_615 → Prints input out → Worked input out
worked input out h x = go (shown input out h x)
  where
    go : Shown input out → Worked input out
    go (as_told h w) = as_01 h w
    go (thirteen s e r l f) = row_13 s e r l f
    go (cycles_come {i = i} {r = r} s m k y e a l q f g z) =
        let t = agrees_so i.actor i.bindings s a in
        let n = min k 18_446_744_073_709_551_615 in
        let cells : List ℕ = replicate (length (cell_widths s)) 0 in
        let slots : List ℕ = replicate (length s.actor.signature) 0 in
        as_01 (this_one s e a l)
        (subst (Writes input)
        (g ∙ sym (cycles_run s t n m (start_of m.state Line n) cells slots y out (first_stands s t m n l q) refl z
        ∙ least_cycles s k 18_446_744_073_709_551_615 cells slots y (few_bytes input 18_446_744_073_709_551_615 i r k y h e f)))
        (writes (accepted s) e a))

-- ---- one output

same_texts : {i j : Input} (x y : Answer) → i ≡ j → Reads i.actor i.bindings x → Reads j.actor j.bindings y → x ≡ y
same_texts {i} x y e a b = reads_once i.actor i.bindings x y a (subst (λ (k : Input). Reads k.actor k.bindings y) (sym e) b)

writes_once : (input o q : List ℕ) → Writes input o → Writes input q → o ≡ q
writes_once input o q (writes_bad e) (writes_bad f) = refl
writes_once input o q (writes_bad e) (writes y f b) = absurd (let g = sym e ∙ f in let z : ◌≡◌ {A = ℕ} 0 1 = cc in omega arith)
writes_once input o q (writes x e a) (writes_bad f) = absurd (let g = sym e ∙ f in let z : ◌≡◌ {A = ℕ} 0 1 = cc in omega arith)
writes_once input o q (writes {i = i} {r = r} x e a) (writes {i = j} {r = s} y f b) =
    let g = sym e ∙ f in
    let u : i ≡ j = cc in
    let v : r ≡ s = cc in
    ap₂ answered (same_texts x y u a b) v

pub worked_once : (input o q : List ℕ) → Worked input o → Worked input q → o ≡ q
worked_once input o q (as_01 h w) (as_01 k x) = writes_once input o q w x
worked_once input o q (as_01 h w) (row_13 s e a l f) = absurd (let n = h.fits s e a in omega arith)
worked_once input o q (row_13 s e a l f) (as_01 h w) = absurd (let n = h.fits s e a in omega arith)
worked_once input o q (row_13 s e a l f) (row_13 t g b m k) = f ∙ sym k

-- every input has an output
pub worked_some : (input : List ℕ) → length input < 18_446_744_073_709_551_615 → (out : List ℕ) × Worked input out
worked_some input h = let p = prints_some input in (p.0, worked input p.0 h p.1)
