-- What the check of a rule's code says of its run: the values that wait fit the widths, and the rest of the check succeeds. Assumes nothing: these are definitions.
use Rattle.std.specs.Prelude.{◌≡◌, true, List, [], ◌∷◌, ℕ, ◌+◌, ◌*◌, ◌^◌, ◌≤◌, ◌<◌, length, get_or, take, drop}
use Rattle.language.specs.Meaning.{Change}
use Rattle.plan.specs.declared.Item.{Item}
use Rattle.plan.specs.Layout.{port_count, port_at, memory_width_at}
use Rattle.plan.specs.Sound.{Check, check, Rules, check_all, end_of, ended, input_ok, memory_ok, unset}
use Rattle.plan.specs.Items.{decode_all}
use Rattle.plan.specs.Sound.{rules_of}
use Rattle.item_steps.specs.Machine.{State, state, exec_all}
use Rattle.item_steps.specs.Ready.{Writes}
use Rattle.item_steps.specs.declared.Tables.{Tables}

-- the rest of the check succeeds
abbrev pub Good : Rules → List Item → Check → Type 0
Good t is c = (d : ℕ) × (end_of (check_all t is c) ≡ ended d)

-- the values fit the widths
abbrev pub Fit : List ℕ → List ℕ → Type 0
Fit [] [] = Unit {0}
Fit [] (v ∷ vs) = ⊥
Fit (w ∷ ws) [] = ⊥
Fit (w ∷ ws) (v ∷ vs) = (w ≤ 64) × (v < 2 ^ w) × Fit ws vs

-- of slots too, where one was kept
pub record SlotsFit (lw lv : List ℕ) : Type 0 where
  pub long : length lw ≡ length lv
  pub fits : (k : ℕ) → get_or lw k unset ≤ 64 → get_or lv k 0 < 2 ^ get_or lw k unset

-- what a rule's code may count on: its inputs and its memories' cells fit their widths
pub record CodeGiven (p : List ℕ) (present : ℕ) (values memory : List ℕ) : Type 0 where
  pub ports : length values ≡ port_count p
  pub inputs : (i : ℕ) → input_ok (rules_of p present 0) i ≡ true → (i < length values) × (get_or values i 0 < 2 ^ port_at p i)
  pub cells : (m f n : ℕ) → memory_ok (rules_of p present 0) m f n ≡ true → (f + n ≤ length memory) × ((a : ℕ) → a < n → get_or memory (f + a) 0 < 2 ^ memory_width_at p m)

-- a state fits what the check knows of it
pub record StateHeld (p ws lw : List ℕ) (s : State) : Type 0 where
  pub fit : Fit ws s.waits
  pub slot : SlotsFit lw s.slots
  pub outs : length s.outputs ≡ port_count p

abbrev pub Safe : List ℕ → ℕ → ℕ → List Item → State → Type 0
Safe p present taken is s = (ws : List ℕ) × (lw : List ℕ) × (d : ℕ) × Good (rules_of p present taken) is (check ws lw d) × (length lw ≡ 48) × StateHeld p ws lw s

-- what a rule's run leaves: outputs and writes
pub record Ran (memory outputs : List ℕ) {cells : ℕ} (t : Tables cells) (s : State) : Type 0 where
  pub output : outputs ≡ s.outputs
  pub write : Writes memory t s.writes

-- the tables hold some writes, whatever they are
abbrev pub Held : (memory : List ℕ) {cells : ℕ} → Tables cells → Type 0
Held memory {cells} t = (qs : List (Change ℕ)) × Writes memory t qs

-- some items from a place of the plan on
abbrev pub items_from : (p : List ℕ) (from items : ℕ) → List Item
items_from p from items = decode_all (take (4 * items) (drop from p))

-- they are in the plan, and find what they ask where nothing waits
abbrev pub SafeItems : (p values memory slots outputs : List ℕ) (from items : ℕ) → Type 0
SafeItems p values memory slots outputs from items =
    (from + 4 * items ≤ length p) × (present : ℕ) × (taken : ℕ) × CodeGiven p present values memory × Safe p present taken (items_from p from items) (state [] slots outputs [])

-- what they make of some writes, where nothing waits
abbrev pub items_run : (p values memory slots outputs : List ℕ) (from items : ℕ) → List (Change ℕ) → State
items_run p values memory slots outputs from items qs = exec_all values memory (items_from p from items) (state [] slots outputs qs)
