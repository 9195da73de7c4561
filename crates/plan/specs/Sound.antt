-- When a list of numbers is a sound plan. Assumes nothing: these are definitions.
use Rattle.std.specs.Prelude.{Bool, true, false, ◌&&◌, List, [], ◌∷◌, ℕ, zero, suc, ◌+◌, ◌-◌, ◌*◌, ◌%◌, ◌^◌, max, eqb, leb, ltb, length, get_or, set, replicate}
use Rattle.language.specs.Limits.{limits}
use Rattle.language.specs.Values.{bit_of, binary_width, unary_width, range_width}
use Rattle.plan.specs.declared.Item.{Item}
use Rattle.plan.specs.declared.Item.TheVariants.{Const, Port, Let, Cell, Range, Copies, Beside, Before, Between, Choice, Arm, Keep, Assign, Write, Bad}
use Rattle.plan.specs.Items.{decode_all}
use Rattle.plan.specs.Layout.{form, port_count, port_at, memory_count, memory_width_at, memory_size_at, cells_before, group_count, group_at, rules_before, rule_count, present_at, absent_at, length_at, code_before, code_from, code_count, code_at}

-- ---- one rule's code: the widths of the values that wait, the latest first; the widths of the slots, `unset` where nothing was kept; the outputs assigned, as a mask

-- "at most 256 wait"
abbrev pub waiting : ℕ
waiting = 256

-- a slot for each of a rule's 16 `val`s, and 32 for `case`s within one another, each of eight words of an expression's 256
abbrev pub slots : ℕ
slots = 48

-- those of the `case`s come after those of the `val`s: the one that a `case` inside d others keeps what it selects by in, and the one by which an arm inside d goes
abbrev pub case_slot : ℕ → ℕ
case_slot d = limits.vals + d

abbrev pub arm_slot : ℕ → ℕ
arm_slot d = limits.vals - 1 + d

-- the width of a slot that was not kept: no width, 64 at most, is as large
abbrev pub unset : ℕ
unset = 99

-- the widths that wait, those of the slots, and the outputs assigned; or an item was not sound
pub data Check : Type 0 where
  check : List ℕ → List ℕ → ℕ → Check
  broken : Check

-- what a rule's code goes by: the plan, the rule's present mask, and the outputs that earlier groups assign
pub record Rules : Type 0 where
  pub plan : List ℕ
  pub present : ℕ
  pub taken : ℕ

-- the same of a plan and two masks
abbrev pub rules_of : List ℕ → ℕ → ℕ → Rules
rules_of p present taken = record { plan = p; present = present; taken = taken }

-- one value more waits: its width is at most 64, and there is room
unfoldable pub push : ℕ → List ℕ → List ℕ → ℕ → Check
push w ws ls d = elim (leb w limits.expressionWidth && ltb (length ws) waiting) [ true ↦ check (w ∷ ws) ls d | false ↦ broken ]

-- the check goes on where a test holds
unfoldable pub test : Bool → Check → Check
test b c = elim b [ true ↦ c | false ↦ broken ]

-- the latest width is taken
abbrev pub take1 : List ℕ → (ℕ → List ℕ → Check) → Check
take1 [] f = broken
take1 (x ∷ ws) f = f x ws

-- the latest two are taken, the earlier first
abbrev pub take2 : List ℕ → (ℕ → ℕ → List ℕ → Check) → Check
take2 [] f = broken
take2 (y ∷ []) f = broken
take2 (y ∷ x ∷ ws) f = f x y ws

-- the latest three are taken, the earliest first
abbrev pub take3 : List ℕ → (ℕ → ℕ → ℕ → List ℕ → Check) → Check
take3 [] f = broken
take3 (y ∷ []) f = broken
take3 (y ∷ x ∷ []) f = broken
take3 (y ∷ x ∷ c ∷ ws) f = f c x y ws

module _ (t : Rules) where
  -- an input port that the rule requires present
  unfoldable pub input_ok : ℕ → Bool
  input_ok i = ltb i (port_count t.plan) && leb (port_at t.plan i) limits.width && eqb (bit_of t.present i) 1

  -- bit `k` of a mask is 0
  unfoldable pub output_ok : ℕ → ℕ → ℕ → Bool
  output_ok d k w =
      ltb k (port_count t.plan) && leb 256 (port_at t.plan k) && eqb (bit_of t.present k) 1 && eqb (bit_of d k) 0 && eqb (bit_of t.taken k) 0 && leb w (port_at t.plan k - 256)

  -- a memory, with its first cell and its size
  unfoldable pub memory_ok : ℕ → ℕ → ℕ → Bool
  memory_ok m f n = ltb m (memory_count t.plan) && eqb f (cells_before t.plan m) && eqb n (memory_size_at t.plan m)

  -- the width of a slot, or that it was not kept
  unfoldable pub slot_width : List ℕ → ℕ → ℕ
  slot_width ls k = get_or ls k unset

  -- "`val`s 16 in a rule": a slot of a `val` is kept once, one that a `case` selects by as often as cases come
  unfoldable pub keepable : List ℕ → ℕ → Bool
  keepable ls k = elim (ltb k limits.vals) [ true ↦ eqb (slot_width ls k) unset | false ↦ ltb k slots ]

  -- one item over the widths that wait, those of the slots and the outputs assigned
  abbrev pub check1 : Item → List ℕ → List ℕ → ℕ → Check
  check1 (Const w lo hi) ws ls d = test (leb w limits.expressionWidth && ltb (lo + hi * 2 ^ 32) (2 ^ w)) (push w ws ls d)
  check1 (Port i) ws ls d = test (input_ok i) (push (port_at t.plan i) ws ls d)
  check1 (Let k) ws ls d = test (ltb k limits.vals) (push (slot_width ls k) ws ls d)
  check1 (Cell m f n) ws ls d = take1 ws (λ x ws. test (memory_ok m f n) (push (memory_width_at t.plan m) ws ls d))
  check1 (Range i j) ws ls d = take1 ws (λ x ws. test (ltb i x && ltb j x) (push (range_width i j) ws ls d))
  check1 (Copies n w) ws ls d = take1 ws (λ x ws. test (eqb x w && leb n limits.copies) (push (n * w) ws ls d))
  check1 (Beside w) ws ls d = take2 ws (λ x y ws. test (eqb y w) (push (x + y) ws ls d))
  check1 (Before u w) ws ls d = take1 ws (λ x ws. test (eqb x w) (push (unary_width u w) ws ls d))
  check1 (Between o m n) ws ls d = take2 ws (λ x y ws. test (eqb x m && eqb y n) (push (binary_width o m n) ws ls d))
  check1 Choice ws ls d = take3 ws (λ c x y ws. push (max x y) ws ls d)
  check1 (Arm n k) ws ls d = take2 ws (λ x y ws. test (leb limits.vals k && leb (slot_width ls k) limits.expressionWidth) (push (max x y) ws ls d))
  check1 (Keep k w) ws ls d = take1 ws (λ x ws. test (keepable ls k && leb x w && leb w limits.expressionWidth) (check ws (set ls k w) d))
  check1 (Assign p) ws ls d = take1 ws (λ x ws. test (output_ok d p x) (check ws ls (d + 2 ^ p)))
  check1 (Write m f n) ws ls d = take2 ws (λ a x ws. test (memory_ok m f n && leb x (memory_width_at t.plan m)) (check ws ls d))
  check1 Bad ws ls d = broken

  -- the same after a check
  unfoldable pub check_step : Item → Check → Check
  check_step i (check ws ls d) = check1 i ws ls d
  check_step i broken = broken

  -- all items in turn
  unfoldable pub check_all : List Item → Check → Check
  check_all [] c = c
  check_all (i ∷ is) c = check_all is (check_step i c)

-- none is left at a rule's end; the outputs that the rule assigns
pub data Ended : Type 0 where
  ended : ℕ → Ended
  unended : Ended

-- how a check ends
unfoldable pub end_of : Check → Ended
end_of (check [] ls d) = ended d
end_of (check (w ∷ ws) ls d) = unended
end_of broken = unended

-- ---- the sections

module _ (p : List ℕ) where
  -- width 0 to 32, plus 256 for an output
  unfoldable pub port_ok : ℕ → Bool
  port_ok i = leb (port_at p i % 256) limits.width && ltb (port_at p i) 512

  -- a width of 0 to 32, a size of 1 to 256, and with the memories before it 256 cells at most
  unfoldable pub memory_fits : ℕ → Bool
  memory_fits m = leb (memory_width_at p m) limits.width && leb 1 (memory_size_at p m) && leb (memory_size_at p m) limits.size && leb (cells_before p (suc m)) limits.cells

  -- at least one rule, and with those before no more than there are
  unfoldable pub group_ok : ℕ → Bool
  group_ok g = leb 1 (group_at p g) && leb (rules_before p (suc g)) (rule_count p)

  -- every number up to n, not with it
  unfoldable pub all_up_to : ℕ → (ℕ → Bool) → Bool
  all_up_to zero f = true
  all_up_to (suc n) f = all_up_to n f && f n

  -- no bit past the ports, none in both masks, one at least; whole items
  unfoldable pub apart : ℕ → ℕ → ℕ → Bool
  apart a b zero = true
  apart a b (suc k) = apart a b k && eqb (bit_of a k * bit_of b k) 0

  -- a rule's masks and the length of its code
  unfoldable pub rule_ok : ℕ → Bool
  rule_ok r =
      ltb (present_at p r) (2 ^ port_count p) && ltb (absent_at p r) (2 ^ port_count p) && apart (present_at p r) (absent_at p r) (port_count p) && ltb 0 (present_at p r + absent_at p r)
      && eqb (length_at p r % 4) 0 && leb (code_before p (suc r)) (code_count p)

  -- each count within its limit, what each section holds, and nothing follows
  unfoldable pub sections_ok : Bool
  sections_ok =
      eqb (form p) 1 && leb 1 (port_count p) && leb (port_count p) limits.ports && all_up_to (port_count p) port_ok
      && leb (memory_count p) limits.memories && all_up_to (memory_count p) memory_fits
      && leb 1 (group_count p) && leb (group_count p) limits.groups && leb (rule_count p) limits.rules && all_up_to (group_count p) group_ok && eqb (rules_before p (group_count p)) (rule_count p)
      && all_up_to (rule_count p) rule_ok && eqb (code_before p (rule_count p)) (code_count p) && eqb (length p) (code_from p + 1 + code_count p)

  -- ---- the rules: in turn the outputs of the earlier groups, and of this group with them; `r` is the next rule, `n` are the rules left of its group

  -- a rule's code, from no width that waits and no slot kept
  unfoldable pub rule_check : ℕ → ℕ → Ended
  rule_check taken r = end_of (check_all (record { plan = p; present = present_at p r; taken = taken }) (decode_all (code_at p r)) (check [] (replicate slots unset) 0))

  -- two masks together
  unfoldable pub joined : ℕ → ℕ → ℕ
  joined a b = Rattle.language.specs.Values.or_of 16 a b

  -- the rules that are left of a group: one after the other, with the outputs of earlier groups taken
  unfoldable pub group_check : ℕ → ℕ → ℕ → ℕ → Ended
  group_check taken mine r zero = ended mine
  group_check taken mine r (suc n) = elim (rule_check taken r) [ ended d ↦ group_check taken (joined mine d) (suc r) n | unended ↦ unended ]

  -- the groups that are left: what one assigns is taken for the next
  unfoldable pub groups_check : ℕ → ℕ → ℕ → Bool
  groups_check taken g zero = true
  groups_check taken g (suc n) = elim (group_check taken taken (rules_before p g) (group_at p g)) [ ended d ↦ groups_check d (suc g) n | unended ↦ false ]

-- "A plan is sound if all limits, masks, kinds, widths and checks of 11 and 12 hold in it .."
unfoldable pub sound_of : List ℕ → Bool
sound_of p = elim (sections_ok p) [ true ↦ groups_check p 0 0 (group_count p) | false ↦ false ]
