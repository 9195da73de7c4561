-- The whole plan: its sections one after the other, its length, and the table that has room for it. Assumes nothing.
use mathlib.Core.Path.{◌≡◌, refl, sym, ap, ◌∙◌}
use mathlib.Core.List.{List, ◌∷◌, ◌++◌}
use Prim.Native.Nat.{ℕ, ◌+◌, ◌*◌, ◌≤◌, ◌<◌}
use native.Mathlib.Omega.{arith}
use borrow.Author.Tests.{le-leb, lt-leb}
use lib.ListN.{length, set, length-append, length-set}
use lib.Seq.{sets, length-sets}
use Rattle.settled.specs.Form.{RULE, OR, MEMORY, SIGNED}
use Rattle.row13_plan.specs.Made.{plan_in, answer_of, table_after}
use Rattle.section_items.specs.Items.{Item, counted}
use Rattle.section_items.specs.Sections.{numbers_of, section_of, Put}
use Rattle.std.specs.Prelude.{Some, None}
use Rattle.section_items.specs.declared.Section.{Section}
use Rattle.section_items.specs.declared.Section.TheVariants.{Ports, Memories, Groups, Rules}
use Rattle.section_items.proofs.Sections.{section_long, put_more, put_length}

module _ (items : List Item) (code lengths : List ℕ) where
  abbrev the_plan : List ℕ
  the_plan = plan_in items code lengths

  abbrev the_section : Section → List ℕ
  the_section s = section_of s lengths items

  sections : the_plan ≡ 1 ∷ (the_section Ports ++ (the_section Memories ++ (the_section Groups ++ (the_section Rules ++ (length code ∷ code)))))
  unfolding plan_in section_of numbers_of
  sections = refl

  sections_long : length the_plan ≡ 2 + length (the_section Ports) + length (the_section Memories) + length (the_section Groups) + length (the_section Rules) + length code
  sections_long = ap length sections ∙ simp length-append (omega arith)

  -- its length by how many items of each operation there are
  pub plan_long : {ports memories groups rules : ℕ} → ports ≡ counted SIGNED items → memories ≡ counted MEMORY items → groups ≡ counted OR items → rules ≡ counted RULE items
      → length the_plan ≡ 6 + ports + 2 * memories + groups + 3 * rules + length code
  plan_long p q r u = omega (arith, sections_long, section_long Ports lengths items, section_long Memories lengths items, section_long Groups lengths items, section_long Rules lengths items)

  -- a table is asked for the m numbers of the plan
  pub record Asked (t : List ℕ) (m : ℕ) : Type 0 where
    pub size : length the_plan ≡ m

module _ {items : List Item} {code lengths : List ℕ} {t : List ℕ} {m : ℕ} (w : Asked items code lengths t m) where
  abbrev plan : List ℕ
  plan = the_plan items code lengths

  abbrev section : Section → List ℕ
  section = the_section items code lengths

  all : length plan ≡ 2 + length (section Ports) + length (section Memories) + length (section Groups) + length (section Rules) + length code
  all = sections_long items code lengths

  -- it is too short
  module _ (e : length t < m) where
    short : length t < length plan
    short = omega (arith, w.size)

    pub short_answer : None ≡ answer_of plan t
    unfolding answer_of
    short_answer = sym (simp (answer_of, lt-leb _ _ short))

    pub short_table : t ≡ table_after plan t
    unfolding table_after
    short_table = sym (simp (table_after, lt-leb _ _ short))

  -- it has room, for each section and for the code
  module _ (e : m ≤ length t) where
    roomy : length plan ≤ length t
    roomy = omega (arith, w.size)

    pub whole_answer : Some m ≡ answer_of plan t
    unfolding answer_of
    whole_answer = sym (simp (answer_of, le-leb _ _ roomy) (ap Some w.size))

    pub room_ports : 1 + length (section Ports) ≤ length (set t 0 1)
    room_ports = omega (arith, roomy, all, length-set t 0 1)

    module _ {a : ℕ} {t₁ : List ℕ} (p : Put (set t 0 1) 1 (section Ports) a t₁) where
      pub room_memories : a + length (section Memories) ≤ length t₁
      room_memories = omega (arith, roomy, all, length-set t 0 1, put_length p, p.ends)

      module _ {b : ℕ} {t₂ : List ℕ} (q : Put t₁ a (section Memories) b t₂) where
        pub room_groups : b + length (section Groups) ≤ length t₂
        room_groups = omega (arith, roomy, all, length-set t 0 1, put_length p, p.ends, put_length q, q.ends)

        module _ {c : ℕ} {t₃ : List ℕ} (r : Put t₂ b (section Groups) c t₃) where
          pub room_rules : c + length (section Rules) ≤ length t₃
          room_rules = omega (arith, roomy, all, length-set t 0 1, put_length p, p.ends, put_length q, q.ends, put_length r, r.ends)

          module _ {d : ℕ} {t₄ : List ℕ} (u : Put t₃ c (section Rules) d t₄) where
            pub room_code : d + 1 + length code ≤ length t₄
            room_code = omega (arith, roomy, all, length-set t 0 1, put_length p, p.ends, put_length q, q.ends, put_length r, r.ends, put_length u, u.ends)

            module _ {t₅ : List ℕ} (v : t₅ ≡ sets t₄ d (length code ∷ code)) where
              whole : t₅ ≡ sets t 0 plan
              whole = v ∙ put_more _ u ∙ put_more _ r ∙ put_more _ q ∙ put_more _ p ∙ ap (sets t 0) (sym (sections items code lengths))

              pub whole_long : length t₅ ≡ length t
              whole_long = ap length whole ∙ length-sets t 0 plan

              pub whole_table : t₅ ≡ table_after plan t
              unfolding table_after
              whole_table = whole ∙ sym (simp (table_after, le-leb _ _ roomy))
