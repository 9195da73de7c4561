-- Each cycle's line takes a byte at least, so that any two counts of cycles above the number of bytes give the same output. Assumes nothing.
use mathlib.Core.Path.{◌≡◌, refl, ap, subst}
use mathlib.Core.Bool.{Bool, true, false}
use mathlib.Core.List.{List, [], ◌∷◌, ◌++◌}
use Prim.Native.Nat.{ℕ, zero, suc, ◌^◌, ◌≤◌, ◌<◌}
use native.Mathlib.Omega.{arith}
use lib.Dec.{eqb}
use lib.ListN.{length}
use Rattle.language.specs.Text.{Name, among}
use Rattle.language.specs.Tree.{Actor}
use Rattle.language.specs.Names.{input_names}
use Rattle.language.specs.Bindings.{Got, got, lost, after, byte, number_up_to}
use Rattle.language.specs.Sizes.{Setting}
use Rattle.language.specs.Meaning.{Given, cycle}
use Rattle.language.specs.Worked.{CycleRead, is_bad, cycle_line, any_number, counted, port_values, turn, cycles, input_of}
use Rattle.input_bytes.proofs.Numbers.{line_end, rest_length, number_length, counted_length}

abbrev pub given_of : CycleRead → List ℕ → Given
given_of t memory = record { mask = t.mask; values = t.values; memory = memory }

-- fewer than n bytes are left, if something was read
unfoldable pub Leaves : {T : Type 0} → ℕ → Got T → Type 0
Leaves n (got t r) = length r < n
Leaves n (lost r) = Unit {0}

pub leaves_got : {T : Type 0} (n : ℕ) (y : Got T) (t : T) (r : List ℕ) → y ≡ got t r → Leaves n y → length r < n
unfolding Leaves
leaves_got n y t r e w = subst (Leaves n) e w

leaves_rest : {T : Type 0} (n : ℕ) (y : Got T) → rest_length y < n → Leaves n y
unfolding Leaves rest_length
leaves_rest n (got t r) h = h
leaves_rest n (lost r) h = tt

after_leaves : {S T : Type 0} (n m : ℕ) (y : Got S) (g : S → List ℕ → Got T) → Leaves m y → ((s : S) (r : List ℕ) → length r < m → Leaves n (g s r)) → Leaves n (after y g)
unfolding Leaves after
after_leaves n m (got s r) g w f = f s r w
after_leaves n m (lost r) g w f = tt

byte_leaves : {T : Type 0} (n b : ℕ) (bs : List ℕ) (g : List ℕ → Got T) → ((r : List ℕ) → length r < length bs → Leaves n (g r)) → Leaves n (byte b bs g)
unfolding Leaves byte
byte_leaves n b [] g f = tt
byte_leaves {T} n b (c ∷ r) g f = go (eqb b c)
  where
    go : (y : Bool) → Leaves {T = T} n (elim y [ true ↦ g r | false ↦ lost (c ∷ r) ])
    go true = f r (omega arith)
    go false = tt

number_leaves : (n most : ℕ) (bs : List ℕ) → length bs < n → Leaves n (number_up_to most bs)
number_leaves n most bs h = leaves_rest n (number_up_to most bs) (let a = number_length bs most in omega arith)

-- ---- a cycle's line

got_leaves : {T : Type 0} (n : ℕ) (t : T) (r : List ℕ) → length r < n → Leaves n (got t r)
unfolding Leaves
got_leaves n t r h = h

values_leave : (ns : List Name) (ins : List (List ℕ)) (n : ℕ) (bs : List ℕ) → length bs < n → Leaves n (port_values ins ns bs)
unfolding port_values
values_leave [] ins n bs h = got_leaves n [] bs h
values_leave (x ∷ ns) ins n bs h = go (among ins x.spelled) (λ r l. values_leave ns ins n r l)
  where
    one : ((r : List ℕ) → length r < n → Leaves n (port_values ins ns r)) → (r : List ℕ) → length r < n → (v : ℕ) → Leaves n (after (port_values ins ns r) (λ l y. got (v ∷ l) y))
    one ih r q v = after_leaves n n (port_values ins ns r) (λ l y. got (v ∷ l) y) (ih r q) (λ l y p. got_leaves n (v ∷ l) y p)

    go : (b : Bool) → ((r : List ℕ) → length r < n → Leaves n (port_values ins ns r))
        → Leaves {T = List ℕ} n (elim b [ true ↦ byte 32 bs (λ r. after (number_up_to 18_446_744_073_709_551_615 r) (λ v x. after (port_values ins ns x) (λ l y. got (v ∷ l) y))) | false ↦ after (port_values ins ns bs) (λ l y. got (0 ∷ l) y) ])
    go true ih =
        byte_leaves n 32 bs (λ r. after (number_up_to 18_446_744_073_709_551_615 r) (λ v x. after (port_values ins ns x) (λ l y. got (v ∷ l) y)))
        (λ r q. after_leaves n n (number_up_to 18_446_744_073_709_551_615 r) (λ v x. after (port_values ins ns x) (λ l y. got (v ∷ l) y)) (number_leaves n 18_446_744_073_709_551_615 r (omega arith)) (λ v x p. one ih x p v))
    go false ih = one ih bs h 0

turn_leaves : (a : Actor) (bs : List ℕ) → Leaves (length bs) (turn a bs)
unfolding turn
turn_leaves a bs =
    let n = suc (length bs) in
    after_leaves (length bs) n (number_up_to 4_294_967_295 bs) (λ m r. after (port_values (input_names a.ports) a.signature r) (λ l x. byte 10 x (λ y. got (record { mask = m; values = l }) y))) (number_leaves n 4_294_967_295 bs (omega arith))
    (λ m r h. after_leaves (length bs) n (port_values (input_names a.ports) a.signature r) (λ l x. byte 10 x (λ y. got (record { mask = m; values = l }) y)) (values_leave a.signature (input_names a.ports) n r h)
    (λ l x q. byte_leaves (length bs) 10 x (λ y. got (record { mask = m; values = l }) y) (λ y p. got_leaves (length bs) (record { mask = m; values = l }) y (omega arith))))

-- ---- the cycles

abbrev Same : Setting → ℕ → ℕ → Type 0
Same s j k = (memory outputs bs : List ℕ) → length bs < j → length bs < k → cycles s j memory outputs bs ≡ cycles s k memory outputs bs

one_cycle : (s : Setting) (j k n : ℕ) → Same s j k → (memory outputs : List ℕ) → n ≤ j → n ≤ k → (z : Got CycleRead) → Leaves n z
    → ◌≡◌ {A = List ℕ} (elim z as (λ (y : Got CycleRead). List ℕ) [ lost r ↦ is_bad | got t r ↦ cycle_line s.actor (cycle s (given_of t memory) outputs) ++ cycles s j (cycle s (given_of t memory) outputs).memory (cycle s (given_of t memory) outputs).outputs r ])
    (elim z as (λ (y : Got CycleRead). List ℕ) [ lost r ↦ is_bad | got t r ↦ cycle_line s.actor (cycle s (given_of t memory) outputs) ++ cycles s k (cycle s (given_of t memory) outputs).memory (cycle s (given_of t memory) outputs).outputs r ])
unfolding Leaves
one_cycle s j k n ih memory outputs h l (lost r) w = refl
one_cycle s j k n ih memory outputs h l (got t r) w =
    ap (λ (x : List ℕ). cycle_line s.actor (cycle s (given_of t memory) outputs) ++ x) (ih (cycle s (given_of t memory) outputs).memory (cycle s (given_of t memory) outputs).outputs r (omega arith) (omega arith))

pub same_cycles : (j k : ℕ) (s : Setting) → Same s j k
unfolding cycles
same_cycles zero k s = λ memory outputs bs h l. absurd (omega arith)
same_cycles (suc j) zero s = λ memory outputs bs h l. absurd (omega arith)
same_cycles (suc j) (suc k) s = λ memory outputs bs h l. one_cycle s j k (length bs) (same_cycles j k s) memory outputs (omega arith) (omega arith) (turn s.actor bs) (turn_leaves s.actor bs)

-- ---- what is left for the cycles

pub input_leaves : (input : List ℕ) (n : ℕ) → length input < n → Leaves n (input_of input)
unfolding input_of
input_leaves input n h =
    after_leaves n n (counted input) (λ a r. after (counted r) (λ b x. got (record { actor = a; bindings = b }) x)) (leaves_rest n (counted input) (let a = counted_length input in omega arith))
    (λ a r q. after_leaves n n (counted r) (λ b x. got (record { actor = a; bindings = b }) x) (leaves_rest n (counted r) (let c = counted_length r in omega arith)) (λ b x p. got_leaves n (record { actor = a; bindings = b }) x p))

pub count_leaves : (bs : List ℕ) (n : ℕ) → length bs < n → Leaves n (after (any_number bs) line_end)
unfolding any_number
count_leaves bs n h =
    after_leaves n n (number_up_to (10 ^ length bs) bs) line_end (number_leaves n (10 ^ length bs) bs h) (λ k r q. byte_leaves n 10 r (λ x. got k x) (λ x p. got_leaves n k x (omega arith)))
