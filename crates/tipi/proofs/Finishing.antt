-- Rows 11 to 13 as `read` meets them. Assumes nothing.
use mathlib.Core.Path.{◌≡◌, refl, sym, ap, ap₂, subst, ◌∙◌}
use mathlib.Core.Bool.{Bool, true, false}
use mathlib.Core.List.{List, [], ◌∷◌, ◌++◌}
use mathlib.Core.Option.{Option, none, some}
use Prim.Native.Nat.{ℕ, zero, suc, ◌+◌, ◌-◌, ◌*◌, ◌/◌, ◌%◌, ◌^◌, ◌≤◌}
use native.Mathlib.Omega.{arith}
use lib.Dec.{eqb}
use lib.ListN.{length, take, drop, get_or, replicate, length-append, length-take}
use lib.Seq.{take_at}
use Rattle.language.specs.Text.{earliest}
use Rattle.language.specs.Words.{Word}
use Rattle.language.specs.Tree.{Actor}
use Rattle.language.specs.Bindings.{Bindings}
use Rattle.language.specs.Widths.{Least, Resolved}
use Rattle.language.specs.Parts.{each}
use Rattle.language.specs.Counts.{rules_of}
use Rattle.language.specs.Sizes.{Setting, size_faults}
use Rattle.language.specs.Presence.{presence_faults}
use Rattle.language.specs.Reading as Reading
use Rattle.language.specs.Reading.{refused, accepted, through, late}
use Rattle.language.specs.declared.Text.TheVariants.{Actor as InActor}
use Rattle.language.proofs.Main.{grammar_correct}
use Rattle.words.specs.Found.{place_told}
use Rattle.words.specs.Found.{Place}
use Rattle.std.specs.Prelude.{Some, None}
use Rattle.plan_of.specs.PlanOf.{plan_of, rule_code}
use Rattle.plan_of.specs.Accepted.{Accepted}
use Rattle.plan_of.proofs.Grammar.{actor_grammatical}
use Rattle.plan_of.proofs.Read.{words_of_text}
use Rattle.settled.specs.Settled.{settled_of}
use Rattle.size_walk.specs.Steps.{State, walk, begin}
use Rattle.plan_of.specs.Row11.{Measured}
use Rattle.plan_of.proofs.Row11.{sized}
use Rattle.plan_of.proofs.Facts.{limit_facts}
use Rattle.plan_of.proofs.Faultless.{few}
use Rattle.row12_presence.specs.Walk as Presence
use Rattle.row12_presence.proofs.Whole.{earliest_fault}
use Rattle.settled.specs.Form.{RULE}
use Rattle.row13_plan.specs.Made.{plan_in}
use Rattle.section_items.specs.Items.{Item, items_of, picked, mask_up_to, rule_numbers}
use Rattle.row13_plan.specs.Made.{table_after as table_with}
use Rattle.plan_of.proofs.Row13.{made}
use Rattle.item_writes.specs.Walk.{around_of, settled_on}
use Rattle.settle.proofs.Whole.{walked_few, settled_is}
use Rattle.bindings.specs.declared.bound.Bound.{Bound}
use Rattle.row10_widths.specs.Row.{Answer as Solved, Settles, Fits, told}
use Rattle.tipi.specs.Told.{answer_of, table_after, Told, goes, After, Heard, Settled, late_of}
use Rattle.plan_answer.specs.Answered.{made_of, sums}
use Rattle.plan_answer.specs.Answered.{Answer}
use Rattle.plan_answer.specs.Answered.{Refused}
use Rattle.early_rows.proofs.Rows.{no_fault}

-- ---- lengths in a table of zeros

dropped : (n k : ℕ) → ◌≡◌ {A = List ℕ} (drop n (replicate k 0)) (replicate (k - n) 0)
dropped zero k = ap (λ (j : ℕ). replicate {A = ℕ} j 0) (let e : k ≡ k - 0 = omega arith in e)
dropped (suc n) zero = ap (λ (j : ℕ). replicate {A = ℕ} j 0) (let e : 0 ≡ 0 - suc n = omega arith in e)
dropped (suc n) (suc k) = dropped n k ∙ ap (λ (j : ℕ). replicate {A = ℕ} j 0) (let e : k - n ≡ suc k - suc n = omega arith in e)

no_sum : (k : ℕ) → sums (replicate k 0) ≡ 0
unfolding sums
no_sum zero = refl
no_sum (suc k) = let e = no_sum k in omega arith

none_there : (k i : ℕ) → ◌≡◌ {A = ℕ} (get_or (replicate k 0) i 0) 0
none_there zero i = refl
none_there (suc k) zero = refl
none_there (suc k) (suc i) = none_there k i

sums_append : (l m : List ℕ) → sums (l ++ m) ≡ sums l + sums m
unfolding sums
sums_append [] m = omega arith
sums_append (x ∷ l) m = let e = sums_append l m in omega arith

padded_get : (l : List ℕ) (k i : ℕ) → get_or (l ++ replicate k 0) i 0 ≡ get_or l i 0
padded_get [] k i = none_there k i
padded_get (x ∷ l) k zero = refl
padded_get (x ∷ l) k (suc i) = padded_get l k i

-- the sum of the lengths of some lists
sums_lengths : {A : Type 0} (f : A → List ℕ) (l : List A) → sums (each (λ x. length (f x) ∷ []) l) ≡ length (each f l)
unfolding sums each
sums_lengths f [] = refl
sums_lengths f (x ∷ l) = let e = sums_lengths f l in let g = length-append (f x) (each f l) in omega arith

-- ---- the plan goes by the lengths alone

picked_as : (op : ℕ) (f g : ℕ → Item → List Item → List ℕ) → ((k : ℕ) (i : Item) (l : List Item) → f k i l ≡ g k i l) → (k : ℕ) (l : List Item) → picked op f k l ≡ picked op g k l
unfolding picked
picked_as op f g h k [] = refl
picked_as op f g h k (i ∷ l) = go (picked_as op f g h (suc k) l) (picked_as op f g h k l) (eqb i.op op)
  where
    go : picked op f (suc k) l ≡ picked op g (suc k) l → picked op f k l ≡ picked op g k l → (b : Bool) → ◌≡◌ {A = List ℕ} (elim b [ true ↦ f k i l ++ picked op f (suc k) l | false ↦ picked op f k l ]) (elim b [ true ↦ g k i l ++ picked op g (suc k) l | false ↦ picked op g k l ])
    go x y true = ap₂ (λ (u v : List ℕ). u ++ v) (h k i l) x
    go x y false = y

padded_plan : (items : List Item) (code lengths : List ℕ) (k : ℕ) → plan_in items code (lengths ++ replicate k 0) ≡ plan_in items code lengths
unfolding plan_in
padded_plan items code lengths k =
    rw (picked_as RULE (rule_numbers (lengths ++ replicate k 0)) (rule_numbers lengths) (λ j i l. ap (λ (n : ℕ). mask_up_to 1 l % 2 ^ 32 ∷ mask_up_to 0 l % 2 ^ 32 ∷ n ∷ []) (padded_get lengths k j)) 0 items)

-- ---- rows 11 and 12 by their places

abbrev late_by : Setting → Place → Place → Reading.Answer
late_by s (Some p) q = refused 11 InActor p
late_by s None (Some p) = refused 12 InActor p
late_by s None None = accepted s

late_told : (s : Setting) → late_of s ≡ late_by s (place_told (earliest (size_faults s))) (place_told (earliest (presence_faults s.actor)))
unfolding late place_told
late_told s = go (earliest (size_faults s)) (earliest (presence_faults s.actor))
  where
    go : (x y : Option ℕ) → ◌≡◌ {A = Reading.Answer} (elim x [ some p ↦ refused 11 InActor p | none ↦ elim y [ some p ↦ refused 12 InActor p | none ↦ accepted s ] ]) (late_by s (place_told x) (place_told y))
    go (some p) y = refl
    go none (some p) = refl
    go none none = refl

told_refused : (x : Reading.Answer) {n p : ℕ} (before : List ℕ) → x ≡ refused n InActor p → Told x (Refused n InActor p) before before
unfolding answer_of table_after
told_refused x {n} {p} before e = subst (λ (y : Reading.Answer). Told y (Refused n InActor p) before before) (sym e) (record { answer = refl; table = refl })

-- row 11's walk over the first items of a table
abbrev pub walked_over : List ℕ → ℕ → State
walked_over items many = walk begin (take (6 * many) items)

module _ {items : List ℕ} {many : ℕ} {ws : List Word} {s : Setting} (h : Settled items many ws s) where
  measured : Measured ws s
  measured = record { grammatical = h.grammatical; limited = h.passed.limited; least = h.least }

  -- the walk over the items is the walk over the setting's
  same : walked_over items many ≡ walk begin (settled_of s)
  same = ap (walk begin) h.holds

  sizes_told : {r : Place} → r ≡ (walked_over items many).first → r ≡ place_told (earliest (size_faults s))
  sizes_told e = e ∙ ap (λ (w : State). w.first) same ∙ (sized ws s measured).first

  few_ports : length s.actor.signature ≤ 32
  few_ports = let e = few 16 s.actor.signature (limit_facts ws s.actor h.passed.limited).0 in omega arith

  presence_told : {r : Place} → r ≡ Presence.walk Presence.begin (take (6 * many) items) None → r ≡ place_told (earliest (presence_faults s.actor))
  presence_told e = e ∙ ap (λ (l : List ℕ). Presence.walk Presence.begin l None) h.holds ∙ earliest_fault s few_ports h.passed.names

  module _ {x : Place} (e : x ≡ (walked_over items many).first) where
    pub sizes_refused : {p : ℕ} (before : List ℕ) → x ≡ Some p → Told (late_of s) (Refused 11 InActor p) before before
    sizes_refused before f = told_refused (late_of s) before (late_told s ∙ ap (λ (q : Place). late_by s q (place_told (earliest (presence_faults s.actor)))) (sym (sizes_told e) ∙ f))

    module _ {y : Place} (g : y ≡ Presence.walk Presence.begin (take (6 * many) items) None) (f : x ≡ None) where
      told_late : late_of s ≡ late_by s None y
      told_late = late_told s ∙ ap₂ (late_by s) (sym (sizes_told e) ∙ f) (sym (presence_told g))

      pub presence_refused : {p : ℕ} (before : List ℕ) → y ≡ Some p → Told (late_of s) (Refused 12 InActor p) before before
      presence_refused before k = told_refused (late_of s) before (told_late ∙ ap (late_by s None) k)

      module _ (k : y ≡ None) where
        is_accepted : Accepted ws s
        is_accepted = record {
          names = h.passed.names;
          limited = h.passed.limited;
          typed = h.passed.typed;
          known = h.known;
          settled = h.settled;
          least = h.least;
          sized = no_fault (size_faults s) (sizes_told e) f;
          present = no_fault (presence_faults s.actor) (presence_told g) k;
        }

        told_accepted : late_of s ≡ accepted s
        told_accepted = told_late ∙ ap (late_by s None) k

        code_is : (walked_over items many).code ≡ each (rule_code s) (rules_of s.actor)
        code_is = ap (λ (w : State). w.code) same ∙ (sized ws s measured).code is_accepted.sized

        lengths_are : (walked_over items many).lengths ≡ each (λ r. length (rule_code s r) ∷ []) (rules_of s.actor)
        lengths_are = ap (λ (w : State). w.lengths) same ∙ (sized ws s measured).lengths is_accepted.sized

        module _ (code lengths c : List ℕ) (u : code ≡ (walked_over items many).code ++ c) (v : lengths ≡ (walked_over items many).lengths ++ drop (length (walked_over items many).lengths) (replicate 32 0)) where
          padded : lengths ≡ (walked_over items many).lengths ++ replicate (32 - length (walked_over items many).lengths) 0
          padded = v ∙ ap (λ (z : List ℕ). (walked_over items many).lengths ++ z) (dropped (length (walked_over items many).lengths) 32)

          pub whole_sum : sums lengths ≡ length (walked_over items many).code
          whole_sum = ap sums padded ∙ sums_append (walked_over items many).lengths _ ∙ ap (λ (z : ℕ). sums (walked_over items many).lengths + z) (no_sum (32 - length (walked_over items many).lengths)) ∙ plus_zero _ ∙ ap sums lengths_are ∙ sums_lengths (rule_code s) (rules_of s.actor) ∙ sym (ap length code_is)
            where
              plus_zero : (z : ℕ) → z + 0 ≡ z
              plus_zero z = omega arith

          pub sum_fits : sums lengths ≤ length code
          sum_fits = let x = whole_sum in let y = ap length u in let z = length-append (walked_over items many).code c in omega arith

          plan_is : plan_in (items_of (take (6 * many) items)) (take (sums lengths) code) lengths ≡ plan_of s
          plan_is =
              ap₂ (λ (m l : List ℕ). plan_in (items_of (take (6 * many) items)) m l) (ap (take (sums lengths)) u ∙ take_at (walked_over items many).code c (sums lengths) (sym whole_sum)) padded
              ∙ padded_plan (items_of (take (6 * many) items)) (walked_over items many).code (walked_over items many).lengths (32 - length (walked_over items many).lengths)
              ∙ ap (λ (l : List ℕ). plan_in (items_of l) (walk begin l).code (walk begin l).lengths) h.holds
              ∙ made ws s is_accepted h.grammatical

          pub made_told : {r : Answer} {before after : List ℕ} → r ≡ made_of (plan_in (items_of (take (6 * many) items)) (take (sums lengths) code) lengths) before
              → after ≡ table_with (plan_in (items_of (take (6 * many) items)) (take (sums lengths) code) lengths) before → Told (late_of s) r before after
          unfolding answer_of table_after
          made_told {r} {before} {after} p q = subst (λ (z : Reading.Answer). Told z r before after) (sym told_accepted)
              (record { answer = p ∙ ap (λ (l : List ℕ). made_of l before) plan_is; table = q ∙ ap (λ (l : List ℕ). table_with l before) plan_is })

-- ---- the items that `settling` makes

module _ (text t : List ℕ) (n : ℕ) (bound : Bound) (widths : List ℕ) {r : ℕ} (long : r ≡ length (settled_on text t (n / 3) bound widths)) where
  pub settled_count : (6 * (r / 6) ≡ r) × (r ≤ 2 * n)
  settled_count = let w = walked_few (around_of text t (n / 3) bound.text.now bound.table.now bound.lines widths) t (n / 3) in (omega (arith, w.1), omega (arith, w.0))

  pub settled_held : {items : List ℕ} {ws : List Word} {a : Actor} {b : Bindings} → take r items ≡ settled_on text t (n / 3) bound widths → n ≤ length t → Heard text t n bound ws a b → Least a b widths
      → Settled items (r / 6) ws (record { actor = a; bindings = b; widths = widths })
  settled_held {items} {ws} {a} is low h least =
      record {
        grammatical = actor_grammatical (grammar_correct.sound ws a h.asked.tells.parses) (words_of_text text ws h.asked.tells.lexed).1;
        passed = h.asked.passed;
        known = h.known;
        settled = h.settled;
        least = least;
        holds = ap (λ (c : ℕ). take c items) settled_count.0 ∙ is ∙ settled_is h.asked least low;
      }

-- ---- parts of tables

pub part_long : (w : ℕ) (l : List ℕ) → w ≤ length l → w ≡ length (take w l)
part_long w l h = let e = length-take w l in omega arith

pub whole_there : (items : List ℕ) {r : ℕ} {s : List ℕ} → r ≡ length s → take r items ≡ s → r ≤ length items
whole_there items {r} e f = let g = ap length f in let h = length-take r items in omega arith

-- ---- row 10

module _ {a : Actor} {b : Bindings} {r : Solved} {before cells : List ℕ} (h : Settles a b r before cells) where
  pub few_widths : {w : ℕ} → r ≡ Some w → w ≤ length cells
  few_widths e = subst (λ (x : Solved). Fits x cells) e h.fits

  pub least_widths : {w : ℕ} → r ≡ Some w → Least a b (take w cells)
  least_widths e = subst (λ (x : Solved). Resolved a b (told x cells)) e h.resolved

  pub no_widths : r ≡ None → (before : List ℕ) → After (through a b) (Refused 10 InActor 0) before before
  unfolding late answer_of table_after
  no_widths e before = record { what = late a b none; follows = goes none (subst (λ (x : Solved). Resolved a b (told x cells)) e h.resolved); told = record { answer = refl; table = refl } }

pub late_after : {a : Actor} {b : Bindings} {ws : List ℕ} {r : Answer} {before after : List ℕ} → Least a b ws → Told (late a b (some ws)) r before after → After (through a b) r before after
late_after {a} {b} {ws} least t = record { what = late a b (some ws); follows = goes (some ws) least; told = t }
