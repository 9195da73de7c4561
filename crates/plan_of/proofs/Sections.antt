-- Where the numbers of an actor's plan stand: each section read back from the list.
use Prim.Native.Nat.{ℕ, zero, suc, ◌+◌, ◌*◌, ◌≤◌, ◌<◌}
use mathlib.Core.Path.{◌≡◌, refl, sym, ap, ◌∙◌}
use mathlib.Core.List.{List, [], ◌∷◌, ◌++◌, append_assoc, append-nil}
use mathlib.Core.Bool.{Bool, true, false}
use native.Mathlib.Omega.{arith}
use native.Mathlib.Nat.{mul-suc, mul-zero, zero-add}
use lib.ListN.{length, get_or, take, drop, length-append, get_or-append}
use lib.Seq.{get_or_at, get_or-append-add, take-append_seam, drop-append_seam, drop-append-add, take-suc, split_at}
use Rattle.language.specs.Text.{Name, among}
use Rattle.language.specs.Tree.{untyped, one, Memory, Rule, Group}
use Rattle.language.specs.Parts.{each}
use Rattle.language.specs.Names.{input_names}
use Rattle.language.specs.Counts.{size_of, rules_of}
use Rattle.language.specs.Widths.{port_width, memory_width}
use Rattle.language.specs.Sizes.{Setting}
use Rattle.plan.specs.Layout.{port_count, port_at, memories_from, memory_count, memory_width_at, memory_size_at, cells_before, groups_from, group_count, group_at, rules_before, rules_from, rule_count, present_at, absent_at, length_at, code_before, code_from, code_count, code_at}
use Rattle.plan_of.specs.PlanOf.{port_number, memory_numbers, rule_numbers, rule_code, mask_of, plan_of}
use Rattle.placed.proofs.Every.{each_append}

-- ## A section: a count, what is counted, and what follows

pub record Section (p : List ℕ) (from count : ℕ) (body rest : List ℕ) : Type 0 where
  pub before : List ℕ
  pub stands : p ≡ before ++ (count ∷ (body ++ rest))
  pub long : length before ≡ from

module _ {p : List ℕ} {from count : ℕ} {body rest : List ℕ} (x : Section p from count body rest) where
  pub section_count : get_or p from 0 ≡ count
  section_count = rw x.stands (get_or_at x.before count (body ++ rest) 0 from x.long)

  section_past : (j : ℕ) → get_or p (from + 1 + j) 0 ≡ get_or (body ++ rest) j 0
  section_past j =
      let e : from + 1 + j ≡ length x.before + suc j = let l = x.long in omega arith in
      rw (e, x.stands) (get_or-append-add x.before (count ∷ (body ++ rest)) (suc j) 0)

  pub section_at : (i j : ℕ) → i ≡ from + 1 + j → j < length body → get_or p i 0 ≡ get_or body j 0
  section_at i j e h = rw e (section_past j ∙ get_or-append body rest 0 j h)

  pub section_drop : (j : ℕ) → drop (from + 1 + j) p ≡ drop j (body ++ rest)
  section_drop j =
      let e : from + 1 + j ≡ length x.before + suc j = let l = x.long in omega arith in
      rw (e, x.stands) (drop-append-add x.before (count ∷ (body ++ rest)) (suc j))

pub next_section : {p : List ℕ} {from count next : ℕ} {body more rest : List ℕ} (to : ℕ) → Section p from count body (next ∷ (more ++ rest)) → to ≡ from + 1 + length body → Section p to next more rest
next_section {p} {from} {count} {next} {body} {more} {rest} to x e = record {
  before = x.before ++ (count ∷ body);
  stands = x.stands ∙ sym (append_assoc x.before (count ∷ body) (next ∷ (more ++ rest)));
  long = length-append x.before (count ∷ body) ∙ (let l = x.long in omega arith);
}

-- ## Lists of entries of one size

module _ {A : Type 0} (f : A → List ℕ) (c : ℕ) (fixed : (x : A) → length (f x) ≡ c) where
  pub length_fixed : (l : List A) → length (each f l) ≡ c * length l
  unfolding each
  length_fixed [] = sym (mul-zero c)
  length_fixed (x ∷ l) = length-append (f x) (each f l) ∙ rw (fixed x, length_fixed l, mul-suc c (length l)) (omega arith)

  pub fixed_at : (d : A) (l : List A) (i j : ℕ) → i < length l → j < c → get_or (each f l) (c * i + j) 0 ≡ get_or (f (get_or l i d)) j 0
  unfolding each
  fixed_at d [] i j h k = absurd (omega arith)
  fixed_at d (x ∷ l) zero j h k = rw (mul-zero c, zero-add j) (get_or-append (f x) (each f l) 0 j (rw (fixed x) k))
  fixed_at d (x ∷ l) (suc i) j h k =
      let e : c * suc i + j ≡ length (f x) + (c * i + j) = rw (fixed x, mul-suc c i) (omega arith) in
      rw e (get_or-append-add (f x) (each f l) (c * i + j) 0 ∙ fixed_at d l i j (omega arith) k)

abbrev pub no_name : Name
no_name = record { at = 0; spelled = [] }

abbrev pub no_memory : Memory
no_memory = record { type = untyped; called = no_name; size = one }

abbrev pub no_rule : Rule
no_rule = record { called = no_name; list = []; body = [] }

abbrev pub no_group : Group
no_group = record { at = 0; rules = [] }

-- ## The sections of a plan

-- the cells of some memories
unfoldable pub cells_in : List Memory → ℕ
cells_in [] = 0
cells_in (m ∷ ms) = size_of m + cells_in ms

cells_append : (l m : List Memory) → cells_in (l ++ m) ≡ cells_in l + cells_in m
unfolding cells_in
cells_append [] m = sym (zero-add (cells_in m))
cells_append (x ∷ l) m = rw (cells_append l m) (omega arith)

module _ (s : Setting) where
  abbrev port_list : List ℕ
  port_list = each (port_number s) s.actor.signature

  abbrev memory_list : List ℕ
  memory_list = each (memory_numbers s) s.actor.memories

  abbrev group_list : List ℕ
  group_list = each (λ g. length g.rules ∷ []) s.actor.groups

  abbrev rule_list : List ℕ
  rule_list = each (rule_numbers s) (rules_of s.actor)

  abbrev code_list : List ℕ
  code_list = each (rule_code s) (rules_of s.actor)

  pub port_one : (n : Name) → length (port_number s n) ≡ 1
  unfolding port_number
  port_one n = go (among (input_names s.actor.ports) n.spelled)
    where
      go : (b : Bool) → length {A = ℕ} (elim b [ true ↦ port_width s.actor s.widths n.spelled ∷ [] | false ↦ (port_width s.actor s.widths n.spelled + 256) ∷ [] ]) ≡ 1
      go true = refl
      go false = refl

  pub memory_two : (m : Memory) → length (memory_numbers s m) ≡ 2
  unfolding memory_numbers
  memory_two m = refl

  pub rule_three : (r : Rule) → length (rule_numbers s r) ≡ 3
  unfolding rule_numbers
  rule_three r = refl

  pub ports_section : Section (plan_of s) 1 (length s.actor.signature) port_list
      (length s.actor.memories ∷ (memory_list ++ (length s.actor.groups ∷ (group_list ++ (length (rules_of s.actor) ∷ (rule_list ++ (length code_list ∷ code_list)))))))
  unfolding plan_of
  ports_section = record { before = 1 ∷ []; stands = refl; long = refl }

  pub port_count_law : port_count (plan_of s) ≡ length s.actor.signature
  port_count_law = section_count ports_section

  pub memories_section : Section (plan_of s) (memories_from (plan_of s)) (length s.actor.memories) memory_list (length s.actor.groups ∷ (group_list ++ (length (rules_of s.actor) ∷ (rule_list ++ (length code_list ∷ code_list)))))
  unfolding memories_from
  memories_section = next_section _ ports_section (rw (port_count_law, length_fixed (port_number s) 1 port_one s.actor.signature) (omega arith))

  pub memory_count_law : memory_count (plan_of s) ≡ length s.actor.memories
  unfolding memory_count
  memory_count_law = section_count memories_section

  pub groups_section : Section (plan_of s) (groups_from (plan_of s)) (length s.actor.groups) group_list (length (rules_of s.actor) ∷ (rule_list ++ (length code_list ∷ code_list)))
  unfolding groups_from
  groups_section = next_section _ memories_section (rw (memory_count_law, length_fixed (memory_numbers s) 2 memory_two s.actor.memories))

  pub group_count_law : group_count (plan_of s) ≡ length s.actor.groups
  unfolding group_count
  group_count_law = section_count groups_section

  pub rules_section : Section (plan_of s) (rules_from (plan_of s)) (length (rules_of s.actor)) rule_list (length code_list ∷ code_list)
  unfolding rules_from
  rules_section = next_section _ groups_section (rw (group_count_law, length_fixed (λ g. length g.rules ∷ []) 1 (λ g. refl) s.actor.groups) (omega arith))

  pub rule_count_law : rule_count (plan_of s) ≡ length (rules_of s.actor)
  unfolding rule_count
  rule_count_law = section_count rules_section

  pub code_section : Section (plan_of s) (code_from (plan_of s)) (length code_list) code_list []
  unfolding code_from
  code_section =
      let x : Section (plan_of s) (rules_from (plan_of s)) (length (rules_of s.actor)) rule_list (length code_list ∷ (code_list ++ [])) = rw (append-nil code_list) rules_section in
      next_section _ x (rw (rule_count_law, length_fixed (rule_numbers s) 3 rule_three (rules_of s.actor)))

  pub code_count_law : code_count (plan_of s) ≡ length code_list
  unfolding code_count
  code_count_law = section_count code_section

  -- ## One entry of each

  pub port_at_law : (i : ℕ) → i < length s.actor.signature → port_at (plan_of s) i ≡ get_or (port_number s (get_or s.actor.signature i no_name)) 0 0
  port_at_law i h =
      section_at ports_section (2 + i) (1 * i + 0) (omega arith) (rw (length_fixed (port_number s) 1 port_one s.actor.signature) (omega arith))
      ∙ fixed_at (port_number s) 1 port_one no_name s.actor.signature i 0 h (omega arith)

  module _ (i : ℕ) (h : i < length s.actor.memories) where
    pub memory_width_law : memory_width_at (plan_of s) i ≡ memory_width s.actor s.widths (get_or s.actor.memories i no_memory).called.spelled
    unfolding memory_width_at memory_numbers
    memory_width_law =
        section_at memories_section _ (2 * i + 0) (omega arith) (rw (length_fixed (memory_numbers s) 2 memory_two s.actor.memories) (omega arith))
        ∙ fixed_at (memory_numbers s) 2 memory_two no_memory s.actor.memories i 0 h (omega arith)

    pub memory_size : memory_size_at (plan_of s) i ≡ size_of (get_or s.actor.memories i no_memory)
    unfolding memory_size_at memory_numbers
    memory_size =
        section_at memories_section _ (2 * i + 1) (omega arith) (rw (length_fixed (memory_numbers s) 2 memory_two s.actor.memories) (omega arith))
        ∙ fixed_at (memory_numbers s) 2 memory_two no_memory s.actor.memories i 1 h (omega arith)

  pub group_at_law : (i : ℕ) → i < length s.actor.groups → group_at (plan_of s) i ≡ length (get_or s.actor.groups i no_group).rules
  unfolding group_at
  group_at_law i h =
      section_at groups_section _ (1 * i + 0) (omega arith) (rw (length_fixed (λ g. length g.rules ∷ []) 1 (λ g. refl) s.actor.groups) (omega arith))
      ∙ fixed_at (λ g. length g.rules ∷ []) 1 (λ g. refl) no_group s.actor.groups i 0 h (omega arith)

  module _ (i : ℕ) (h : i < length (rules_of s.actor)) where
    abbrev r : Rule
    r = get_or (rules_of s.actor) i no_rule

    pub rule_present : present_at (plan_of s) i ≡ mask_of s true r.list
    unfolding present_at rule_numbers
    rule_present =
        section_at rules_section _ (3 * i + 0) (omega arith) (rw (length_fixed (rule_numbers s) 3 rule_three (rules_of s.actor)) (omega arith))
        ∙ fixed_at (rule_numbers s) 3 rule_three no_rule (rules_of s.actor) i 0 h (omega arith)

    pub rule_absent : absent_at (plan_of s) i ≡ mask_of s false r.list
    unfolding absent_at rule_numbers
    rule_absent =
        section_at rules_section _ (3 * i + 1) (omega arith) (rw (length_fixed (rule_numbers s) 3 rule_three (rules_of s.actor)) (omega arith))
        ∙ fixed_at (rule_numbers s) 3 rule_three no_rule (rules_of s.actor) i 1 h (omega arith)

    pub rule_length : length_at (plan_of s) i ≡ length (rule_code s r)
    unfolding length_at rule_numbers
    rule_length =
        section_at rules_section _ (3 * i + 2) (omega arith) (rw (length_fixed (rule_numbers s) 3 rule_three (rules_of s.actor)) (omega arith))
        ∙ fixed_at (rule_numbers s) 3 rule_three no_rule (rules_of s.actor) i 2 h (omega arith)

  -- ## Sums over the first of them

  pub code_before_law : (i : ℕ) → i ≤ length (rules_of s.actor) → code_before (plan_of s) i ≡ length (each (rule_code s) (take i (rules_of s.actor)))
  unfolding code_before each
  code_before_law zero h = refl
  code_before_law (suc i) h =
      rw (code_before_law i (omega arith), rule_length i h, take-suc (rules_of s.actor) i no_rule h, each_append (rule_code s) (take i (rules_of s.actor)) (get_or (rules_of s.actor) i no_rule ∷ []))
      (sym (length-append (each (rule_code s) (take i (rules_of s.actor))) _ ∙ ap (λ (l : List ℕ). length (each (rule_code s) (take i (rules_of s.actor))) + length l) (append-nil (rule_code s (get_or (rules_of s.actor) i no_rule)))))

  pub code_at_law : (i : ℕ) → i < length (rules_of s.actor) → code_at (plan_of s) i ≡ rule_code s (get_or (rules_of s.actor) i no_rule)
  unfolding code_at each
  code_at_law i h =
      rw (rule_length i h, code_before_law i (omega arith), section_drop code_section (length (each (rule_code s) (take i (rules_of s.actor)))), append-nil code_list)
      (ap (λ (l : List ℕ). take (length (rule_code s (get_or (rules_of s.actor) i no_rule))) (drop (length (each (rule_code s) (take i (rules_of s.actor)))) l)) whole
      ∙ rw (drop-append_seam (each (rule_code s) (take i (rules_of s.actor))) (rule_code s (get_or (rules_of s.actor) i no_rule) ++ each (rule_code s) (drop (suc i) (rules_of s.actor))))
      (take-append_seam (rule_code s (get_or (rules_of s.actor) i no_rule)) (each (rule_code s) (drop (suc i) (rules_of s.actor)))))
    where
      whole : code_list ≡ each (rule_code s) (take i (rules_of s.actor)) ++ (rule_code s (get_or (rules_of s.actor) i no_rule) ++ each (rule_code s) (drop (suc i) (rules_of s.actor)))
      whole = ap (each (rule_code s)) (split_at (rules_of s.actor) i no_rule h) ∙ each_append (rule_code s) (take i (rules_of s.actor)) (get_or (rules_of s.actor) i no_rule ∷ drop (suc i) (rules_of s.actor))

  pub cells_before_law : (i : ℕ) → i ≤ length s.actor.memories → cells_before (plan_of s) i ≡ cells_in (take i s.actor.memories)
  unfolding cells_before cells_in
  cells_before_law zero h = refl
  cells_before_law (suc i) h =
      rw (cells_before_law i (omega arith), memory_size i h, take-suc s.actor.memories i no_memory h, cells_append (take i s.actor.memories) (get_or s.actor.memories i no_memory ∷ [])) (omega arith)

  pub rules_before_law : (i : ℕ) → i ≤ length s.actor.groups → rules_before (plan_of s) i ≡ length (each (λ g. g.rules) (take i s.actor.groups))
  unfolding rules_before each
  rules_before_law zero h = refl
  rules_before_law (suc i) h =
      rw (rules_before_law i (omega arith), group_at_law i h, take-suc s.actor.groups i no_group h, each_append (λ g. g.rules) (take i s.actor.groups) (get_or s.actor.groups i no_group ∷ []))
      (sym (length-append (each (λ g. g.rules) (take i s.actor.groups)) _ ∙ ap (λ (l : List Rule). length (each (λ g. g.rules) (take i s.actor.groups)) + length l) (append-nil (get_or s.actor.groups i no_group).rules)))
