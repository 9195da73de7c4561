-- 01, "A worked run": what the program `tipirun` writes for what it reads. Assumes nothing: these are definitions.
use Rattle.std.specs.Prelude.{◌≡◌, Bool, true, false, List, [], ◌∷◌, ◌++◌, ℕ, zero, suc, ◌+◌, ◌-◌, ◌/◌, ◌%◌, ◌^◌, eqb, leb, ltb, length, take, drop, get_or, replicate}
use Rattle.std.proofs.Math.Option.{Option, none, some}
use Rattle.language.specs.Text.{Name, among}
use Rattle.language.specs.Words.{bytes}
use Rattle.language.specs.Tree.{Actor}
use Rattle.language.specs.Parts.{each}
use Rattle.language.specs.Names.{input_names}
use Rattle.language.specs.Bindings.{Got, got, lost, after, byte, number_up_to}
use Rattle.language.specs.Sizes.{Setting}
use Rattle.language.specs.Reading.{Answer, refused, accepted, Reads}
use Rattle.language.specs.Meaning.{Outcome, cycle, cell_widths}

-- ---- what is written: numbers in decimal, one blank between, a newline after each line

unfoldable pub figures : ℕ → ℕ → List ℕ
figures zero n = []
figures (suc f) n = elim (ltb n 10) [ true ↦ (48 + n) ∷ [] | false ↦ figures f (n / 10) ++ ((48 + n % 10) ∷ []) ]

unfoldable pub decimal : ℕ → List ℕ
decimal n = figures (suc n) n

unfoldable pub line : List ℕ → List ℕ
line [] = 10 ∷ []
line (n ∷ l) = decimal n ++ rest l
  where
    rest : List ℕ → List ℕ
    rest [] = 10 ∷ []
    rest (m ∷ k) = 32 ∷ (decimal m ++ rest k)

unfoldable pub is_bad : List ℕ
is_bad = bytes "bad\n"

-- the slots of the outputs, in the order of the signature
unfoldable pub output_slots : List (List ℕ) → List Name → List ℕ → List ℕ
output_slots ins [] l = []
output_slots ins (n ∷ ns) l = elim (among ins n.spelled) [ true ↦ output_slots ins ns (drop 1 l) | false ↦ get_or l 0 0 ∷ output_slots ins ns (drop 1 l) ]

-- "It prints answer, present ports and outputs for each cycle, the answer alone if refused"
unfoldable pub cycle_line : Actor → Outcome → List ℕ
cycle_line a o = elim (eqb o.answer 0) [ true ↦ line (0 ∷ o.count ∷ output_slots (input_names a.ports) a.signature o.outputs) | false ↦ line (o.answer ∷ []) ]

-- ---- what is read: "byte count and actor, byte count and bindings (the last line end counted in each), cycle count and cycles"

-- any number: none that these bytes spell is above this
unfoldable pub any_number : List ℕ → Got ℕ
any_number bs = number_up_to (10 ^ length bs) bs

unfoldable pub counted : List ℕ → Got (List ℕ)
counted bs = after (any_number bs) (λ n r. byte 10 r (λ x. elim (leb n (length x)) [ true ↦ got (take n x) (drop n x) | false ↦ lost x ]))

-- "a value under 2^64 for each input port": a slot for each port, 0 for an output
unfoldable pub port_values : List (List ℕ) → List Name → List ℕ → Got (List ℕ)
port_values ins [] bs = got [] bs
port_values ins (n ∷ ns) bs =
    elim (among ins n.spelled) [
      | true ↦ byte 32 bs (λ r. after (number_up_to (2 ^ 64 - 1) r) (λ v x. after (port_values ins ns x) (λ l y. got (v ∷ l) y)))
      | false ↦ after (port_values ins ns bs) (λ l y. got (0 ∷ l) y)
    ]

-- "A cycle is a line: a mask under 2^32, a value .. for each input port."
pub record CycleRead : Type 0 where
  pub mask : ℕ
  pub values : List ℕ

unfoldable pub turn : Actor → List ℕ → Got CycleRead
turn a bs = after (number_up_to (2 ^ 32 - 1) bs) (λ m r. after (port_values (input_names a.ports) a.signature r) (λ l x. byte 10 x (λ y. got (record { mask = m; values = l }) y)))

-- ---- the run: "input not in this form `bad` where it is met", "then all cells on one line", "a tail isn't read"

unfoldable pub cycles : Setting → ℕ → List ℕ → List ℕ → List ℕ → List ℕ
cycles s zero memory outputs bs = line memory
cycles s (suc k) memory outputs bs =
    elim (turn s.actor bs) [
      | lost r ↦ is_bad
      | got t r ↦
          let o : Outcome = cycle s (record { mask = t.mask; values = t.values; memory = memory }) outputs in
          cycle_line s.actor o ++ cycles s k o.memory o.outputs r
    ]

-- "memory starts at zeros"
unfoldable pub answered : Answer → List ℕ → List ℕ
answered (refused n t p) bs = line (n ∷ p ∷ [])
answered (accepted s) bs =
    elim (after (any_number bs) (λ k r. byte 10 r (λ x. got k x))) [
      | lost r ↦ is_bad
      | got k r ↦ cycles s k (replicate (length (cell_widths s)) 0) (replicate (length s.actor.signature) 0) r
    ]

-- the two texts, and what follows them
pub record Input : Type 0 where
  pub actor : List ℕ
  pub bindings : List ℕ

unfoldable pub input_of : List ℕ → Got Input
input_of bs = after (counted bs) (λ a r. after (counted r) (λ b x. got (record { actor = a; bindings = b }) x))

-- for this input the program writes this; 13 is left out, since it goes by the length of what is made of the text
pub data Writes (input : List ℕ) : List ℕ → Type 0 where
  writes_bad : {r : List ℕ} → input_of input ≡ lost r → Writes input is_bad
  writes : {i : Input} {r : List ℕ} (x : Answer) → input_of input ≡ got i r → Reads i.actor i.bindings x → Writes input (answered x r)
