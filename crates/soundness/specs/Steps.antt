-- The check of an item in the shape of the code: how many widths it takes, and which width it leaves. Laws.antt proves it equal to Sound.antt's. Assumes nothing: these are definitions.
use Rattle.std.specs.Prelude.{true, false, Option, Some, None, ◌≡◌, List, [], ℕ, ◌*◌, ◌≤◌, ◌<◌, ltb, length, get_or, take, drop}
use Rattle.plan.specs.declared.Item.{Item}
use Rattle.plan.specs.Items.{decode_all}
use Rattle.plan.specs.Waits.{top}
use Rattle.plan.specs.Sound.{Rules, Check, check, broken, check1, check_all, end_of, push, waiting, Ended, ended, unended}
use Rattle.item_widths.specs.Widths.{Wide}
use Rattle.soundness.specs.declared.steps.State.{State}

-- a mask of the 16 ports is below this
abbrev pub masks : ℕ
masks = 65536

-- a width, if there is one, in place of the latest k
unfoldable pub push_over : ℕ → Option ℕ → List ℕ → List ℕ → ℕ → Check
push_over k None ws ls d = broken
push_over k (Some w) ws ls d = elim (ltb (length ws) k) [ true ↦ broken | false ↦ push w (drop k ws) ls d ]

-- what the code's answer says: the first n widths of the table wait, or the check is broken
abbrev pub check_at : List ℕ → Option State → List ℕ → Check
check_at s None ls = broken
check_at s (Some a) ls = check (top s a.waits) ls a.assigned

-- n widths wait in the table, each at most 64, and the outputs assigned are a mask of ports
pub record Standing (s : List ℕ) (n d : ℕ) : Type 0 where
  pub few : n ≤ waiting
  pub mask : d < masks
  pub wide : Wide s n

-- the same of an answer, where the check is not broken
abbrev pub Midway : List ℕ → Option State → Type 0
Midway s None = Unit {0}
Midway s (Some a) = Standing s a.waits a.assigned

-- a width in place of the latest k, in the code: the table after it holds what waits
pub record Pushed (k : ℕ) (v : Option ℕ) (n d : ℕ) (ws after : List ℕ) (r : Option State) : Type 0 where
  pub stands : Midway after r
  pub same : (ls : List ℕ) → check_at after r ls ≡ push_over k v (top ws n) ls d

-- an item that takes widths and leaves none, in the code: it asks of the table only that x is the latest width
pub record Acted (t : Rules) (i : Item) (n x : ℕ) (ls : List ℕ) (d : ℕ) (r : Option State) (after : List ℕ) : Type 0 where
  pub stands : (s : List ℕ) → Standing s n d → Midway s r
  pub same : (s : List ℕ) → x ≡ get_or (top s n) 0 0 → check_at s r after ≡ check1 t i (top s n) ls d

-- one item, in the code: both tables before it and after it
pub record Checked (t : Rules) (i : Item) (n d : ℕ) (ws ls : List ℕ) (r : Option State) (ws_after ls_after : List ℕ) : Type 0 where
  pub stands : Midway ws_after r
  pub same : check_at ws_after r ls_after ≡ check1 t i (top ws n) ls d

-- the outputs that code assigns, where it is sound
abbrev pub end_at : Option ℕ → Ended
end_at None = unended
end_at (Some d) = ended d

-- the outputs that some items from a place of the plan on assign, with the widths of the slots before them
abbrev pub items_end : Rules → List ℕ → ℕ → ℕ → List ℕ → Ended
items_end t p from items ls = end_of (check_all t (decode_all (take (4 * items) (drop from p))) (check [] ls 0))

-- they are a mask of ports
abbrev pub Masked : Option ℕ → Type 0
Masked None = Unit {0}
Masked (Some d) = d < masks
