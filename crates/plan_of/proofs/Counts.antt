-- What each section of a plan makes of an actor's items. Assumes nothing.
use mathlib.Core.Path.{◌≡◌, refl, sym, ap, ap₂, ◌∙◌}
use mathlib.Core.Bool.{Bool, true, false, ◌&&◌, beq}
use mathlib.Core.List.{List, [], ◌∷◌, ◌++◌, append_assoc}
use Prim.Native.Nat.{ℕ, suc, ◌+◌, ◌%◌, ◌^◌}
use native.Mathlib.Omega.{arith}
use native.Mathlib.Nat.{zero-add, add-zero, add_assoc}
use lib.Dec.{eqb}
use lib.ListN.{length, get_or, length-append}
use Rattle.language.specs.Text.{Name, among}
use Rattle.language.specs.Tree.{Entry, Rule, Group, Memory}
use Rattle.language.specs.Parts.{each}
use Rattle.language.specs.Names.{input_names}
use Rattle.language.specs.Widths.{port_width}
use Rattle.language.specs.Sizes.{Setting}
use Rattle.language.specs.Meaning.{port_at}
use Rattle.placed.specs.Placed.{Every}
use Rattle.placed.proofs.Every.{every_map, append_every, every_flat}
use Rattle.section_items.specs.Items.{Item, counted, picked, rules_up_to, mask_up_to, bit_of, port_numbers, memory_numbers, group_numbers}
use Rattle.section_items.specs.Items.{rule_numbers as numbers_of_rule}
use Rattle.plan_of.specs.PlanOf.{mask_of, port_number}
use Rattle.plan_of.specs.PlanOf.{memory_numbers as numbers_of_memory}
use Rattle.settled.specs.Settled.{one_if}
use Rattle.plan_of.proofs.Silent.{quiet, silent_body, not_it}
use Rattle.plan_of.proofs.PlanSections.{port_of, signed_items, memory_items, entry_items, body_items, rule_items, group_items}

-- ---- items without an operation

abbrev pub Lacks : ℕ → List Item → Type 0
Lacks op is = Every (λ i. eqb i.op op ≡ false) is

pub counted_lacks : (op : ℕ) (is l : List Item) → Lacks op is → counted op (is ++ l) ≡ counted op l
unfolding counted
counted_lacks op [] l h = refl
counted_lacks op (i ∷ is) l h = ap (λ (b : Bool). elim b [ true ↦ suc (counted op (is ++ l)) | false ↦ counted op (is ++ l) ]) h.0 ∙ counted_lacks op is l h.1

pub picked_lacks : (op : ℕ) (give : ℕ → Item → List Item → List ℕ) (k : ℕ) (is l : List Item) → Lacks op is → picked op give k (is ++ l) ≡ picked op give k l
unfolding picked
picked_lacks op give k [] l h = refl
picked_lacks op give k (i ∷ is) l h = ap (λ (b : Bool). elim b [ true ↦ give k i (is ++ l) ++ picked op give (suc k) (is ++ l) | false ↦ picked op give k (is ++ l) ]) h.0 ∙ picked_lacks op give k is l h.1

none_counted : (op : ℕ) (is : List Item) → Lacks op is → counted op is ≡ 0
unfolding counted
none_counted op [] h = refl
none_counted op (i ∷ is) h = ap (λ (b : Bool). elim b [ true ↦ suc (counted op is) | false ↦ counted op is ]) h.0 ∙ none_counted op is h.1

none_picked : (op : ℕ) (give : ℕ → Item → List Item → List ℕ) (k : ℕ) (is : List Item) → Lacks op is → picked op give k is ≡ []
unfolding picked
none_picked op give k [] h = refl
none_picked op give k (i ∷ is) h = ap (λ (b : Bool). elim b [ true ↦ give k i is ++ picked op give (suc k) is | false ↦ picked op give k is ]) h.0 ∙ none_picked op give k is h.1

rules_lack : (is l : List Item) → Lacks 41 is → Lacks 39 is → rules_up_to (is ++ l) ≡ rules_up_to l
unfolding rules_up_to
rules_lack [] l h g = refl
rules_lack (i ∷ is) l h g = ap₂ (λ (a b : Bool). elim a [ true ↦ 0 | false ↦ elim b [ true ↦ suc (rules_up_to (is ++ l)) | false ↦ rules_up_to (is ++ l) ] ]) h.0 g.0 ∙ rules_lack is l h.1 g.1

module _ (s : Setting) where
  -- ---- which operations stand where

  body_lacks : (op : ℕ) → quiet op ≡ false → (r : Rule) → Lacks op (body_items s r)
  body_lacks op g r = every_map _ _ (λ i h. not_it i.op op h g) (body_items s r) (silent_body s r.body 0).still

  entries_lack : (op : ℕ) → eqb 38 op ≡ false → (es : List Entry) → Lacks op (each (entry_items s) es)
  entries_lack op h es = every_flat _ (entry_items s) es (all es)
    where
      all : (es : List Entry) → Every (λ e. Lacks op (entry_items s e)) es
      all [] = tt
      all (e ∷ es) = ((h, tt), all es)

  -- a rule's items after the first
  tail_lacks : (op : ℕ) → quiet op ≡ false → eqb 38 op ≡ false → eqb 40 op ≡ false → (r : Rule) → Lacks op (each (entry_items s) r.list ++ (body_items s r ++ (record { op = 40; a = 0; b = 0 } ∷ [])))
  tail_lacks op q h g r = append_every _ (each (entry_items s) r.list) _ (entries_lack op h r.list) (append_every _ (body_items s r) _ (body_lacks op q r) (g, tt))

  rule_lacks : (op : ℕ) → quiet op ≡ false → eqb 38 op ≡ false → eqb 39 op ≡ false → eqb 40 op ≡ false → (r : Rule) → Lacks op (rule_items s r)
  rule_lacks op q h i g r = (i, tail_lacks op q h g r)

  rules_lack_all : (op : ℕ) → quiet op ≡ false → eqb 38 op ≡ false → eqb 39 op ≡ false → eqb 40 op ≡ false → (rs : List Rule) → Lacks op (each (rule_items s) rs)
  rules_lack_all op q h i g rs = every_flat _ (rule_items s) rs (all rs)
    where
      all : (rs : List Rule) → Every (λ r. Lacks op (rule_items s r)) rs
      all [] = tt
      all (r ∷ rs) = (rule_lacks op q h i g r, all rs)

  pub groups_lack : (op : ℕ) → quiet op ≡ false → eqb 38 op ≡ false → eqb 39 op ≡ false → eqb 40 op ≡ false → eqb 41 op ≡ false → (gs : List Group) → Lacks op (each (group_items s) gs)
  groups_lack op q h i g o gs = every_flat _ (group_items s) gs (all gs)
    where
      all : (gs : List Group) → Every (λ x. Lacks op (group_items s x)) gs
      all [] = tt
      all (x ∷ gs) = ((o, rules_lack_all op q h i g x.rules), all gs)

  pub memories_lack : (op : ℕ) → eqb 44 op ≡ false → (ms : List Memory) → Lacks op (each (memory_items s) ms)
  memories_lack op h ms = every_flat _ (memory_items s) ms (all ms)
    where
      all : (ms : List Memory) → Every (λ m. Lacks op (memory_items s m)) ms
      all [] = tt
      all (m ∷ ms) = ((h, tt), all ms)

  pub ports_lack : (op : ℕ) → eqb 46 op ≡ false → (ns : List Name) → Lacks op (each (signed_items s) ns)
  ports_lack op h ns = every_flat _ (signed_items s) ns (all ns)
    where
      all : (ns : List Name) → Every (λ n. Lacks op (signed_items s n)) ns
      all [] = tt
      all (n ∷ ns) = ((h, tt), all ns)

  -- ---- ports and memories

  pub ports_counted : (ns : List Name) (l : List Item) → Lacks 46 l → counted 46 (each (signed_items s) ns ++ l) ≡ length ns
  unfolding counted each
  ports_counted [] l h = none_counted 46 l h
  ports_counted (n ∷ ns) l h = ap suc (ports_counted ns l h)

  port_number_law : (n : Name) → port_of s n ∷ [] ≡ port_number s n
  unfolding port_of port_number
  port_number_law n = go (among (input_names s.actor.ports) n.spelled)
    where
      go : (b : Bool) → ◌≡◌ {A = List ℕ} ((elim b [ true ↦ port_width s.actor s.widths n.spelled | false ↦ port_width s.actor s.widths n.spelled + 256 ]) ∷ []) (elim b [ true ↦ port_width s.actor s.widths n.spelled ∷ [] | false ↦ (port_width s.actor s.widths n.spelled + 256) ∷ [] ])
      go true = refl
      go false = refl

  pub ports_picked : (ns : List Name) (k : ℕ) (l : List Item) → Lacks 46 l → picked 46 port_numbers k (each (signed_items s) ns ++ l) ≡ each (port_number s) ns
  unfolding picked each
  ports_picked [] k l h = none_picked 46 port_numbers k l h
  ports_picked (n ∷ ns) k l h = ap₂ ◌++◌ (port_number_law n) (ports_picked ns (suc k) l h)

  pub memories_counted : (ms : List Memory) (l : List Item) → Lacks 44 l → counted 44 (each (memory_items s) ms ++ l) ≡ length ms
  unfolding counted each
  memories_counted [] l h = none_counted 44 l h
  memories_counted (m ∷ ms) l h = ap suc (memories_counted ms l h)

  pub memories_picked : (ms : List Memory) (k : ℕ) (l : List Item) → Lacks 44 l → picked 44 memory_numbers k (each (memory_items s) ms ++ l) ≡ each (numbers_of_memory s) ms
  unfolding picked each numbers_of_memory
  memories_picked [] k l h = none_picked 44 memory_numbers k l h
  memories_picked (m ∷ ms) k l h = ap (λ (r : List ℕ). numbers_of_memory s m ++ r) (memories_picked ms (suc k) l h)

  -- ---- groups

  rules_counted : (r : Rule) (l : List Item) → rules_up_to (rule_items s r ++ l) ≡ suc (rules_up_to l)
  unfolding rules_up_to quiet
  rules_counted r l = ap suc (rules_lack (each (entry_items s) r.list ++ (body_items s r ++ (record { op = 40; a = 0; b = 0 } ∷ []))) l (tail_lacks 41 refl refl refl r) (tail_lacks 39 refl refl refl r))

  all_counted : (rs : List Rule) (l : List Item) → rules_up_to l ≡ 0 → rules_up_to (each (rule_items s) rs ++ l) ≡ length rs
  unfolding each
  all_counted [] l h = h
  all_counted (r ∷ rs) l h = ap rules_up_to (append_assoc (rule_items s r) (each (rule_items s) rs) l) ∙ rules_counted r (each (rule_items s) rs ++ l) ∙ ap suc (all_counted rs l h)

  next_group : (gs : List Group) → rules_up_to (each (group_items s) gs) ≡ 0
  unfolding each rules_up_to
  next_group [] = refl
  next_group (g ∷ gs) = refl

  pub groups_counted : (gs : List Group) → counted 41 (each (group_items s) gs) ≡ length gs
  unfolding counted each quiet
  groups_counted [] = refl
  groups_counted (g ∷ gs) = ap suc (counted_lacks 41 (each (rule_items s) g.rules) (each (group_items s) gs) (rules_lack_all 41 refl refl refl refl g.rules) ∙ groups_counted gs)

  pub groups_picked : (gs : List Group) (k : ℕ) → picked 41 group_numbers k (each (group_items s) gs) ≡ each (λ g. length g.rules ∷ []) gs
  unfolding picked each quiet
  groups_picked [] k = refl
  groups_picked (g ∷ gs) k =
      ap₂ (λ (n : ℕ) (r : List ℕ). n ∷ r) (all_counted g.rules (each (group_items s) gs) (next_group gs))
      (picked_lacks 41 group_numbers (suc k) (each (rule_items s) g.rules) (each (group_items s) gs) (rules_lack_all 41 refl refl refl refl g.rules) ∙ groups_picked gs (suc k))

  -- ---- a rule's masks

  same_flag : (p b : Bool) → eqb (one_if p) (one_if b) ≡ beq p b
  unfolding one_if
  same_flag true true = refl
  same_flag true false = refl
  same_flag false true = refl
  same_flag false false = refl

  entry_mask : (b : Bool) (es : List Entry) (l : List Item) → mask_up_to (one_if b) (each (entry_items s) es ++ l) ≡ mask_of s b es + mask_up_to (one_if b) l
  unfolding mask_up_to bit_of mask_of each
  entry_mask b [] l = sym (zero-add (mask_up_to (one_if b) l))
  entry_mask b (e ∷ es) l = ap₂ (λ (t : Bool) (n : ℕ). elim t [ true ↦ 2 ^ port_at s e.called.spelled | false ↦ 0 ] + n) (same_flag e.present b) (entry_mask b es l) ∙ go (beq e.present b)
    where
      go : (t : Bool) → elim t [ true ↦ 2 ^ port_at s e.called.spelled | false ↦ 0 ] + (mask_of s b es + mask_up_to (one_if b) l) ≡ elim t [ true ↦ 2 ^ port_at s e.called.spelled + mask_of s b es | false ↦ mask_of s b es ] + mask_up_to (one_if b) l
      go true = sym (add_assoc (2 ^ port_at s e.called.spelled) (mask_of s b es) (mask_up_to (one_if b) l))
      go false = zero-add (mask_of s b es + mask_up_to (one_if b) l)

  mask_past : (b : ℕ) (is l : List Item) → Lacks 40 is → Lacks 38 is → mask_up_to b (is ++ l) ≡ mask_up_to b l
  unfolding mask_up_to bit_of
  mask_past b [] l h g = refl
  mask_past b (i ∷ is) l h g =
      ap₂ (λ (x y : Bool). elim x [ true ↦ 0 | false ↦ elim (y && eqb i.b b) [ true ↦ 2 ^ i.a | false ↦ 0 ] + mask_up_to b (is ++ l) ]) h.0 g.0 ∙ zero-add (mask_up_to b (is ++ l)) ∙ mask_past b is l h.1 g.1

  -- what stands after a rule's first item
  abbrev rest : Rule → List Item → List Item
  rest r l = (each (entry_items s) r.list ++ (body_items s r ++ (record { op = 40; a = 0; b = 0 } ∷ []))) ++ l

  rule_mask : (b : Bool) (r : Rule) (l : List Item) → mask_up_to (one_if b) (rest r l) ≡ mask_of s b r.list
  unfolding quiet mask_up_to
  rule_mask b r l =
      ap (mask_up_to (one_if b)) (append_assoc (each (entry_items s) r.list) (body_items s r ++ (record { op = 40; a = 0; b = 0 } ∷ [])) l) ∙ entry_mask b r.list _
      ∙ ap (λ (n : ℕ). mask_of s b r.list + n) (ap (mask_up_to (one_if b)) (append_assoc (body_items s r) (record { op = 40; a = 0; b = 0 } ∷ []) l) ∙ mask_past (one_if b) (body_items s r) _ (body_lacks 40 refl r) (body_lacks 38 refl r) ∙ at_end)
      ∙ add-zero (mask_of s b r.list)
    where
      at_end : mask_up_to (one_if b) (record { op = 40; a = 0; b = 0 } ∷ l) ≡ 0
      at_end = refl

  -- ---- rules

  module _ (lengths : List ℕ) where
    -- the numbers of some rules, of which k came before
    unfoldable pub numbers_from : ℕ → List Rule → List ℕ
    numbers_from k [] = []
    numbers_from k (r ∷ rs) = (mask_of s true r.list % 2 ^ 32) ∷ (mask_of s false r.list % 2 ^ 32) ∷ get_or lengths k 0 ∷ numbers_from (suc k) rs

    numbers_both : (rs qs : List Rule) (k : ℕ) → numbers_from k (rs ++ qs) ≡ numbers_from k rs ++ numbers_from (length rs + k) qs
    unfolding numbers_from
    numbers_both [] qs k = ap (λ (n : ℕ). numbers_from n qs) (sym (zero-add k))
    numbers_both (r ∷ rs) qs k =
        ap (λ (l : List ℕ). (mask_of s true r.list % 2 ^ 32) ∷ (mask_of s false r.list % 2 ^ 32) ∷ get_or lengths k 0 ∷ l)
        (numbers_both rs qs (suc k) ∙ ap (λ (n : ℕ). numbers_from (suc k) rs ++ numbers_from n qs) (let e : length rs + suc k ≡ suc (length rs) + k = omega arith in e))

    rules_picked : (rs : List Rule) (k : ℕ) (l : List Item) → picked 39 (numbers_of_rule lengths) k (each (rule_items s) rs ++ l) ≡ numbers_from k rs ++ picked 39 (numbers_of_rule lengths) (length rs + k) l
    unfolding picked each numbers_from quiet one_if
    rules_picked [] k l = ap (λ (n : ℕ). picked 39 (numbers_of_rule lengths) n l) (sym (zero-add k))
    rules_picked (r ∷ rs) k l =
        ap (numbers_of_law k) (append_assoc (each (entry_items s) r.list ++ (body_items s r ++ (record { op = 40; a = 0; b = 0 } ∷ []))) (each (rule_items s) rs) l)
        ∙ ap₂ (λ (m n : ℕ). (m % 2 ^ 32) ∷ (n % 2 ^ 32) ∷ get_or lengths k 0 ∷ picked 39 (numbers_of_rule lengths) (suc k) (rest r (each (rule_items s) rs ++ l))) (rule_mask true r (each (rule_items s) rs ++ l)) (rule_mask false r (each (rule_items s) rs ++ l))
        ∙ ap (λ (x : List ℕ). (mask_of s true r.list % 2 ^ 32) ∷ (mask_of s false r.list % 2 ^ 32) ∷ get_or lengths k 0 ∷ x)
        (picked_lacks 39 (numbers_of_rule lengths) (suc k) (each (entry_items s) r.list ++ (body_items s r ++ (record { op = 40; a = 0; b = 0 } ∷ []))) (each (rule_items s) rs ++ l) (tail_lacks 39 refl refl refl r)
        ∙ rules_picked rs (suc k) l ∙ ap (λ (n : ℕ). numbers_from (suc k) rs ++ picked 39 (numbers_of_rule lengths) n l) (let e : length rs + suc k ≡ suc (length rs) + k = omega arith in e))
      where
        numbers_of_law : ℕ → List Item → List ℕ
        numbers_of_law k x = (mask_up_to 1 x % 2 ^ 32) ∷ (mask_up_to 0 x % 2 ^ 32) ∷ get_or lengths k 0 ∷ picked 39 (numbers_of_rule lengths) (suc k) x

    pub groups_rules : (gs : List Group) (k : ℕ) → picked 39 (numbers_of_rule lengths) k (each (group_items s) gs) ≡ numbers_from k (each (λ g. g.rules) gs)
    unfolding picked each numbers_from
    groups_rules [] k = refl
    groups_rules (g ∷ gs) k = rules_picked g.rules k (each (group_items s) gs) ∙ ap (λ (l : List ℕ). numbers_from k g.rules ++ l) (groups_rules gs (length g.rules + k)) ∙ sym (numbers_both g.rules (each (λ g. g.rules) gs) k)

  counted_rule : (r : Rule) (l : List Item) → counted 39 (rule_items s r ++ l) ≡ suc (counted 39 l)
  unfolding counted quiet
  counted_rule r l = ap suc (counted_lacks 39 (each (entry_items s) r.list ++ (body_items s r ++ (record { op = 40; a = 0; b = 0 } ∷ []))) l (tail_lacks 39 refl refl refl r))

  counted_rules : (rs : List Rule) (l : List Item) → counted 39 (each (rule_items s) rs ++ l) ≡ length rs + counted 39 l
  unfolding each
  counted_rules [] l = sym (zero-add (counted 39 l))
  counted_rules (r ∷ rs) l = ap (counted 39) (append_assoc (rule_items s r) (each (rule_items s) rs) l) ∙ counted_rule r (each (rule_items s) rs ++ l) ∙ ap suc (counted_rules rs l) ∙ (let e : suc (length rs + counted 39 l) ≡ suc (length rs) + counted 39 l = omega arith in e)

  pub groups_with_rules : (gs : List Group) → counted 39 (each (group_items s) gs) ≡ length (each (λ g. g.rules) gs)
  unfolding counted each
  groups_with_rules [] = refl
  groups_with_rules (g ∷ gs) = counted_rules g.rules (each (group_items s) gs) ∙ ap (λ (n : ℕ). length g.rules + n) (groups_with_rules gs) ∙ sym (length-append g.rules (each (λ g. g.rules) gs))
