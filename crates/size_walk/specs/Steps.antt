-- The walk over the settled items, on lists: what waits, the latest first, and what was written. Assumes nothing: these are definitions.
use Rattle.std.specs.Prelude.{◌≡◌, Bool, true, false, ◌&&◌, ◌||◌, List, [], ◌∷◌, ◌++◌, ℕ, ◌+◌, ◌-◌, ◌*◌, eqb, ltb, length, get_or, set, take, drop, replicate}
use Rattle.words.specs.Found.{Place}
use Rattle.std.specs.Prelude.{Option as Optional, Some, None}
use Rattle.plan.specs.Waits.{top}
use Rattle.plan.specs.declared.Item.{Item}
use Rattle.plan.specs.declared.Item.TheVariants.{Const, Port, Let, Cell, Range, Copies, Beside, Before, Between, Choice, Arm, Keep, Assign, Write, Bad}
use Rattle.plan.specs.Items.{encode}
use Rattle.size_walk.specs.declared.Effect.{Effect}
use Rattle.size_walk.specs.declared.Seen.{Seen}
use Rattle.size_walk.specs.declared.Far.{Far}
use Rattle.size_walk.specs.declared.Waiting.{Waiting}
use Rattle.settled.specs.Form.{BITS, SELECT, SELECTED, TYPED, VAL, RULED}
use Rattle.size_walk.specs.Effects.{Emits, sooner_of, effect_of}

pub record State : Type 0 where
  pub widths : List ℕ
  pub starts : List ℕ
  pub slots : List ℕ
  pub code : List ℕ
  pub lengths : List ℕ
  pub first : Place
  pub breadth : ℕ
  pub start : ℕ
  pub cases : ℕ
  -- how long the code was where this rule began
  pub rule : ℕ

unfoldable pub seen_of : State → ℕ → Seen
seen_of s k =
    record {
      x = get_or s.widths 0 0;
      y = get_or s.widths 1 0;
      z = get_or s.widths 2 0;
      s = get_or s.starts 0 0;
      t = get_or s.starts 1 0;
      u = get_or s.starts 2 0;
      breadth = s.breadth;
      start = s.start;
      cases = s.cases;
      held = get_or s.slots k 0;
    }

-- what an item leaves, if it leaves one, on what waits: its width, and its first byte
unfoldable pub width_on : Optional Waiting → List ℕ → List ℕ
width_on (Some e) l = e.width ∷ l
width_on None l = l

unfoldable pub start_on : Optional Waiting → List ℕ → List ℕ
start_on (Some e) l = e.start ∷ l
start_on None l = l

unfoldable pub emits_of : Emits → List ℕ
emits_of None = []
emits_of (Some i) = encode i

-- the width that an item keeps: `val`s are kept by KEEP alone
unfoldable pub kept_in : Item → ℕ
kept_in (Const w lo hi) = 0
kept_in (Port i) = 0
kept_in (Let k) = 0
kept_in (Cell m f n) = 0
kept_in (Range i j) = 0
kept_in (Copies n w) = 0
kept_in (Beside w) = 0
kept_in (Before u w) = 0
kept_in (Between o m n) = 0
kept_in Choice = 0
kept_in (Arm n k) = 0
kept_in (Keep k w) = w
kept_in (Assign p) = 0
kept_in (Write m f n) = 0
kept_in Bad = 0

-- the width that a `val` keeps
unfoldable pub held_of : Bool → ℕ → Emits → List ℕ → List ℕ
held_of true k None l = l
held_of true k (Some i) l = set l k (kept_in i)
held_of false k e l = l

unfoldable pub around_of : ℕ → ℕ → ℕ
around_of op n = elim (eqb op SELECT) [ true ↦ n + 1 | false ↦ elim (eqb op SELECTED) [ true ↦ n - 1 | false ↦ n ] ]

unfoldable pub pick : Bool → ℕ → ℕ → ℕ
pick true x y = x
pick false x y = y

-- a rule more, where there is room for its length
unfoldable pub ended_of : Bool → ℕ → List ℕ → List ℕ
ended_of true n l = l ++ (n ∷ [])
ended_of false n l = l

abbrev pub room : ℕ
room = 32

unfoldable pub step_of : State → (op p a b c d : ℕ) → State
step_of s op p a b c d =
    let e : Effect = effect_of op p a b c d (seen_of s a) in
    record {
      widths = width_on e.leaves (drop e.takes s.widths);
      starts = start_on e.leaves (drop e.takes s.starts);
      slots = held_of (eqb op VAL || eqb op TYPED) a e.emits s.slots;
      code = s.code ++ emits_of e.emits;
      lengths = ended_of (eqb op RULED && ltb (length s.lengths) room) (length (s.code ++ emits_of e.emits) - s.rule) s.lengths;
      first = sooner_of e.fault s.first;
      breadth = pick (eqb op BITS) a s.breadth;
      start = pick (eqb op BITS) p s.start;
      cases = around_of op s.cases;
      rule = pick (eqb op RULED) (length (s.code ++ emits_of e.emits)) s.rule;
    }

-- how far the walk is after an item, by what waits then, the length of the code and the rules ended
unfoldable pub onward_of : (op p a : ℕ) → Place → (waits out rules : ℕ) → Far → Far
onward_of op p a fault waits out rules far =
    record {
      waits = waits;
      out = out;
      first = sooner_of fault far.first;
      breadth = pick (eqb op BITS) a far.breadth;
      start = pick (eqb op BITS) p far.start;
      cases = around_of op far.cases;
      rules = rules;
      rule = pick (eqb op RULED) out far.rule;
    }

-- the state after some items, and before the first
unfoldable pub walk : State → List ℕ → State
walk s [] = s
walk s (o ∷ []) = s
walk s (o ∷ p ∷ []) = s
walk s (o ∷ p ∷ a ∷ []) = s
walk s (o ∷ p ∷ a ∷ b ∷ []) = s
walk s (o ∷ p ∷ a ∷ b ∷ c ∷ []) = s
walk s (o ∷ p ∷ a ∷ b ∷ c ∷ d ∷ l) = walk (step_of s o p a b c d) l

unfoldable pub begin : State
begin =
    record {
      widths = [];
      starts = [];
      slots = replicate 16 0;
      code = [];
      lengths = [];
      first = None;
      breadth = 0;
      start = 0;
      cases = 0;
      rule = 0;
    }

-- the state after so many items of a table; a table with a list at its start
abbrev pub walked : List ℕ → ℕ → State
walked items many = walk begin (take (6 * many) items)

abbrev pub laid : List ℕ → List ℕ → List ℕ
laid l table = l ++ drop (length l) table

-- ---- the same in tables

pub record Holds (widths starts slots code lengths : List ℕ) (far : Far) (s : State) : Type 0 where
  pub wide : top widths far.waits ≡ s.widths
  pub begun : top starts far.waits ≡ s.starts
  pub kept : slots ≡ s.slots
  pub coded : take far.out code ≡ s.code
  pub long : far.out ≡ length s.code
  pub ended : take far.rules lengths ≡ s.lengths
  pub rules : far.rules ≡ length s.lengths
  pub first : far.first ≡ s.first
  pub breadth : far.breadth ≡ s.breadth
  pub start : far.start ≡ s.start
  pub cases : far.cases ≡ s.cases
  pub rule : far.rule ≡ s.rule
