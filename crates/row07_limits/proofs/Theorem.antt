-- THE THEOREM: the earliest fault of the items of the tape that holds an actor is the earliest fault of row 7. Assumes nothing.
use mathlib.Core.Path.{◌≡◌, refl, sym, ap, ap₂, ◌∙◌}
use mathlib.Core.Bool.{Bool, true, false, not}
use mathlib.Core.List.{List, [], ◌∷◌, ◌++◌, append_assoc, append-nil}
use Prim.Native.Nat.{ℕ, zero, suc, ◌+◌, ◌*◌, ◌/◌, ◌≤◌, ◌<◌}
use native.Mathlib.Omega.{arith}
use lib.Dec.{eqb, leb, ltb}
use lib.ListN.{length, get_or, drop, get_or-append}
use lib.Seq.{sets, length-sets, sets-eq}
use borrow.Author.Tests.{leb-true, leb-false, lt-ltb, le-ltb}
use Rattle.language.specs.Text.{earliest}
use Rattle.language.specs.Limits.{limits}
use Rattle.language.specs.Names.{when}
use Rattle.language.specs.Words.{Word, num, name, digits, fixed, Numeral, place_of, words_of, words}
use Rattle.language.specs.Parts.{each, Item, reads, wholes, statements, actor_items, types, numbers, declared_items, type_start, start}
use Rattle.language.specs.Counts.{type_words, expr_words, word_after, too_many, size_faults, rules_of, limit_faults}
use Rattle.language.specs.Tree.{Ty, Expr, Port, Memory, Statement, Rule, Group, Actor, memory_names}
use Rattle.placed.proofs.Earliest.{earliest_same}
use Rattle.words.specs.Found.{place_told, found_of, table_after}
use Rattle.signs.specs.Kinds.{numbers_of}
use Rattle.words.specs.Table.{table_of}
use Rattle.words.specs.Found.{Place}
use Rattle.words.specs.Found.{Found}
use Rattle.std.specs.Prelude.{Ok}
use Rattle.words.proofs.Whole.{room, length_table}
use Rattle.words.proofs.Back.{until_all}
use Rattle.words.proofs.Runs.{few_words}
use Rattle.tape.specs.Row.{Tells}
use Rattle.tape.proofs.Tapes.{fold, goes_whole}
use Rattle.placed.proofs.Every.{each_append}
use Rattle.placed.proofs.Same.{Same, is, equal, then, beside, split_each, each_as, each_each}
use Rattle.part_lengths.specs.Parts.{places_in, first_of, after_in, long_in}
use Rattle.row07_limits.specs.Walk.{all_room, faults_at}
use Rattle.row07_limits.proofs.Sums.{nth, ◌⊕◌, nil, same_sum}
use Rattle.row07_limits.proofs.Runs.{Ran, ran, meet, walked, type_f, whole_f, number_f, thing_f, things}
use Rattle.row07_limits.proofs.Actors.{plain_start, in_statement, statement_f, body_f, vals_f, rule_names, all_rules, late_groups}
use Rattle.row07_limits.proofs.Heads.{actor_f, actor_run}

-- ---- the places of the words

unfoldable pub places : List Word → List ℕ
places [] = []
places (w ∷ ws) = place_of w ∷ places ws

drop_places : (n : ℕ) (ws : List Word) → drop n (places ws) ≡ places (drop n ws)
unfolding places
drop_places zero ws = refl
drop_places (suc n) [] = refl
drop_places (suc n) (w ∷ ws) = drop_places n ws

after_pick : (q p n : ℕ) (l : List ℕ) {b : Bool} → eqb q p ≡ b → after_in (q ∷ l) p n ≡ elim b as (λ (x : Bool). List ℕ) [ true ↦ first_of (drop n (q ∷ l)) | false ↦ after_in l p n ]
unfolding after_in
after_pick q p n l e = ap (λ (b : Bool). elim b as (λ (x : Bool). List ℕ) [ true ↦ first_of (drop n (q ∷ l)) | false ↦ after_in l p n ]) e

after_places : (ws : List Word) (p n : ℕ) → word_after ws p n ≡ after_in (places ws) p n
unfolding word_after after_in places first_of each
after_places [] p n = refl
after_places (w ∷ ws) p n = go (eqb (place_of w) p) refl (after_places ws p n)
  where
    first : (l : List Word) → drop n (w ∷ ws) ≡ l → eqb (place_of w) p ≡ true → word_after (w ∷ ws) p n ≡ first_of (places l)
    first [] d e = rw (word_after, e, d)
    first (x ∷ l) d e = rw (word_after, e, d)

    go : (b : Bool) → eqb (place_of w) p ≡ b → word_after ws p n ≡ after_in (places ws) p n → word_after (w ∷ ws) p n ≡ after_in (places (w ∷ ws)) p n
    go true e h = first (drop n (w ∷ ws)) refl e ∙ sym (after_pick (place_of w) p n (places ws) e ∙ ap first_of (drop_places n (w ∷ ws)))
    go false e h = let x : word_after (w ∷ ws) p n ≡ word_after ws p n = rw (word_after, e) in x ∙ h ∙ sym (after_pick (place_of w) p n (places ws) e)

-- ---- the table of the words has them

places_shift : (a b c d : ℕ) (t : List ℕ) (i m : ℕ) → places_in (a ∷ b ∷ c ∷ d ∷ t) (suc i) m ≡ places_in t i m
unfolding places_in
places_shift a b c d t i zero = refl
places_shift a b c d t i (suc m) = let e : 4 * suc i + 1 ≡ suc (suc (suc (suc (4 * i + 1)))) = omega arith in ap₂ (λ (p : ℕ) (l : List ℕ). p ∷ l) (ap (λ (k : ℕ). get_or (a ∷ b ∷ c ∷ d ∷ t) k 0) e) (places_shift a b c d t (suc i) m)

in_table : (ws : List Word) → places_in (table_of ws) 0 (length ws) ≡ places ws
unfolding places_in places table_of numbers_of place_of
in_table [] = refl
in_table (num n ∷ ws) = ap (λ (l : List ℕ). n.at ∷ l) (places_shift _ _ _ _ (table_of ws) 0 (length ws) ∙ in_table ws)
in_table (name n ∷ ws) = ap (λ (l : List ℕ). n.at ∷ l) (places_shift _ _ _ _ (table_of ws) 0 (length ws) ∙ in_table ws)
in_table (digits n ∷ ws) = ap (λ (l : List ℕ). n.at ∷ l) (places_shift _ _ _ _ (table_of ws) 0 (length ws) ∙ in_table ws)
in_table (fixed s p ∷ ws) = ap (λ (l : List ℕ). p ∷ l) (places_shift _ _ _ _ (table_of ws) 0 (length ws) ∙ in_table ws)

-- the words of a text that is short enough, in a table with room for them
module _ (text t₀ : List ℕ) (short : length text ≤ 8192) (wide : 4 * length text ≤ length t₀) {ws : List Word} (lexed : words_of text ≡ words ws) where
  pub found_words : found_of text t₀ ≡ Ok (length ws)
  unfolding found_of
  found_words = simp (found_of, room text t₀ short wide, lexed)

  module _ {t : List ℕ} (e : t ≡ table_after text t₀) where
    filed : t ≡ sets t₀ 0 (table_of ws)
    unfolding table_after
    filed = e ∙ simp (table_after, room text t₀ short wide) (ap (λ (l : List Word). sets t₀ 0 (table_of l)) (until_all text ws lexed))

    pub table_room : 4 * length ws ≤ length t
    table_room = let a = ap length filed ∙ length-sets t₀ 0 (table_of ws) in let b = few_words text ws lexed in omega arith

    cell : (k : ℕ) → k < 4 * length ws → get_or t k 0 ≡ get_or (table_of ws) k 0
    cell k h =
        let a = length_table ws in let b = few_words text ws lexed in
        ap (λ (l : List ℕ). get_or l k 0) (filed ∙ sets-eq (table_of ws) t₀ 0 (omega arith)) ∙ get_or-append (table_of ws) (drop (0 + length (table_of ws)) t₀) 0 k (omega arith)

    cells_same : (i m : ℕ) → i + m ≤ length ws → places_in t i m ≡ places_in (table_of ws) i m
    unfolding places_in
    cells_same i zero h = refl
    cells_same i (suc m) h = ap₂ (λ (p : ℕ) (l : List ℕ). p ∷ l) (cell (4 * i + 1) (omega arith)) (cells_same (suc i) m (omega arith))

    pub table_places : places_in t 0 (length ws) ≡ places ws
    table_places = cells_same 0 (length ws) (omega arith) ∙ in_table ws

-- ---- the faults by the words' places are those of the definition

over_not : (a b : ℕ) → ltb b a ≡ not (leb a b)
over_not a b = go (leb a b) refl
  where
    go : (x : Bool) → leb a b ≡ x → ltb b a ≡ not x
    go true e = let h = leb-true a b e in le-ltb b a h
    go false e = let h = leb-false a b e in lt-ltb b a h

module _ (ws : List Word) where
  abbrev long_at : (limit long start : ℕ) → List ℕ
  long_at limit long start = elim (leb long limit) as (λ (b : Bool). List ℕ) [ true ↦ [] | false ↦ word_after ws start limit ]

  long_same : (limit long start : ℕ) → long_in (places ws) limit long start ≡ long_at limit long start
  unfolding long_in
  long_same limit long start = ap (λ (l : List ℕ). elim (leb long limit) as (λ (b : Bool). List ℕ) [ true ↦ [] | false ↦ l ]) (sym (after_places ws start limit))

  abbrev ps : List ℕ
  ps = places ws

  things_split : (l : List Item) → Same (things ps l) (each (number_f ps) (numbers l) ++ each (type_f ps) (types l))
  unfolding each thing_f numbers types
  things_split [] = equal []
  things_split (Item.type t ∷ l) = then (beside (equal (type_f ps t)) (things_split l)) (same_sum (type_f ps t ∷ each (number_f ps) (numbers l) ∷ each (type_f ps) (types l) ∷ []) (nth 0 ⊕ (nth 1 ⊕ nth 2)) (nth 1 ⊕ (nth 0 ⊕ nth 2)) refl)
  things_split (Item.number n ∷ l) = then (beside (equal (number_f ps n)) (things_split l)) (same_sum (number_f ps n ∷ each (number_f ps) (numbers l) ∷ each (type_f ps) (types l) ∷ []) (nth 0 ⊕ (nth 1 ⊕ nth 2)) ((nth 0 ⊕ nth 1) ⊕ nth 2) refl)
  things_split (reads n ∷ l) = things_split l
  things_split (Item.value n ∷ l) = things_split l

  statements_split : (ss : List Statement) → Same (each (statement_f ps) ss) (things ps (each in_statement ss) ++ each (whole_f ps) (each wholes ss))
  statements_split ss =
      then (split_each (statement_f ps) (λ (s : Statement). things ps (in_statement s)) (λ (s : Statement). each (whole_f ps) (wholes s)) (λ s. record { parts = equal _ }) ss).parts
      (is (ap₂ (λ (a b : List ℕ). a ++ b) (sym (each_each (thing_f ps) in_statement (each_append (thing_f ps)) ss)) (sym (each_each (whole_f ps) wholes (each_append (whole_f ps)) ss))))

  module _ (a : Actor) where
    bodies : each (body_f ps) (all_rules a.groups) ≡ each (statement_f ps) (statements a)
    unfolding statements
    bodies =
        each_each (body_f ps) (λ (g : Group). g.rules) (each_append (body_f ps)) a.groups
        ∙ sym (each_each (statement_f ps) (λ (g : Group). each (λ (r : Rule). r.body) g.rules) (each_append (statement_f ps)) a.groups
        ∙ each_as _ _ (λ g. each_each (statement_f ps) (λ (r : Rule). r.body) (each_append (statement_f ps)) g.rules) a.groups)

    abbrev port_types : List Item
    port_types = each (λ (p : Port). declared_items p.type) a.ports

    abbrev memory_types : List Item
    memory_types = each (λ (m : Memory). declared_items m.type) a.memories

    all_things : things ps port_types ++ (things ps memory_types ++ things ps (each in_statement (statements a))) ≡ things ps (actor_items a)
    unfolding actor_items
    all_things = sym (each_append (thing_f ps) port_types (memory_types ++ each in_statement (statements a)) ∙ ap (λ (r : List ℕ). things ps port_types ++ r) (each_append (thing_f ps) memory_types (each in_statement (statements a))))

    pub actor_same : Same (actor_f ps a) (limit_faults ws a)
    unfolding limit_faults rules_of number_f type_f whole_f
    actor_same =
        then (beside (equal ((([] ++ signed_f) ++ in_ports) ++ (memories_f ++ (sizes_f ++ in_memories)))) (beside (equal groups_f) (beside (equal rules_f) (beside (equal many_vals_f) (then (is bodies) (statements_split (statements a)))))))
        (then (same_sum (signed_f ∷ memories_f ∷ sizes_f ∷ groups_f ∷ rules_f ∷ many_vals_f ∷ in_ports ∷ in_memories ∷ in_statements ∷ wholes_f ∷ [])
        (((((nil ⊕ nth 0) ⊕ nth 6) ⊕ (nth 1 ⊕ (nth 2 ⊕ nth 7))) ⊕ (nth 3 ⊕ (nth 4 ⊕ (nth 5 ⊕ (nth 8 ⊕ nth 9))))))
        (nth 0 ⊕ (nth 1 ⊕ (nth 2 ⊕ (nth 3 ⊕ (nth 4 ⊕ (nth 5 ⊕ ((nth 6 ⊕ (nth 7 ⊕ nth 8)) ⊕ nth 9))))))) refl)
        (beside (equal signed_f) (beside (equal memories_f) (beside (equal sizes_f) (beside (equal groups_f) (beside (equal rules_f) (beside (equal many_vals_f) things_last)))))))
      where
        signed_f : List ℕ
        signed_f = too_many limits.ports a.signature

        memories_f : List ℕ
        memories_f = too_many limits.memories (memory_names a.memories)

        sizes_f : List ℕ
        sizes_f = size_faults 0 a.memories

        groups_f : List ℕ
        groups_f = late_groups limits.groups a.groups

        rules_f : List ℕ
        rules_f = too_many limits.rules (rule_names (all_rules a.groups))

        many_vals_f : List ℕ
        many_vals_f = each vals_f (all_rules a.groups)

        in_ports : List ℕ
        in_ports = things ps port_types

        in_memories : List ℕ
        in_memories = things ps memory_types

        in_statements : List ℕ
        in_statements = things ps (each in_statement (statements a))

        wholes_f : List ℕ
        wholes_f = each (whole_f ps) (each wholes (statements a))

        things_last : Same ((in_ports ++ (in_memories ++ in_statements)) ++ wholes_f) (each (λ (n : Numeral). when (not (leb n.value limits.copies)) n.at) (numbers (actor_items a)) ++ (each (λ (t : Ty). long_at limits.typeWords (type_words t) (type_start t)) (types (actor_items a)) ++ each (λ (e : Expr). long_at limits.expressionWords (expr_words e) (start e)) (each wholes (statements a))))
        things_last =
            then (beside (then (is all_things) (things_split (actor_items a))) (equal wholes_f))
            (is (append_assoc (each (number_f ps) (numbers (actor_items a))) (each (type_f ps) (types (actor_items a))) wholes_f
            ∙ ap₂ (λ (x y : List ℕ). x ++ y) (each_as _ _ number_same (numbers (actor_items a))) (ap₂ (λ (x y : List ℕ). x ++ y) (each_as _ _ type_same (types (actor_items a))) (each_as _ _ whole_same (each wholes (statements a))))))
          where
            number_same : (n : Numeral) → number_f ps n ≡ when (not (leb n.value limits.copies)) n.at
            number_same n = ap (λ (b : Bool). when b n.at) (over_not n.value 64)

            type_same : (t : Ty) → type_f ps t ≡ long_at limits.typeWords (type_words t) (type_start t)
            type_same t = long_same 64 (type_words t) (type_start t)

            whole_same : (e : Expr) → whole_f ps e ≡ long_at limits.expressionWords (expr_words e) (start e)
            whole_same e = long_same 256 (expr_words e) (start e)

module _ (text t : List ℕ) (n many : ℕ) (k : n ≤ length t) (low : 3 * many ≤ n) (high : n < 3 * many + 3) {ws : List Word} {a : Actor} (h : Tells text t n ws a) where
  pub earliest_fault : place_told (earliest (faults_at (places ws) t many)) ≡ place_told (earliest (limit_faults ws a))
  earliest_fault =
      let run = actor_run (places ws) a in
      let did = run.1.runs [] plain_start in
      let went = did.2.goes [] in
      let ends = sym (walked (places ws) t n many k low high) ∙ ap (fold (meet (places ws)) (ran [] all_room [])) h.holds ∙ goes_whole went.2 in
      let all : Same went.0 (limit_faults ws a) = then went.1 (then (is (append-nil _)) (actor_same ws a)) in
      ap place_told (ap (λ (r : Ran). earliest r.faults) ends ∙ earliest_same all.to all.from)

-- what the function answers, by the table that the words were put in
module _ (text tape t₀ t : List ℕ) (n : ℕ) (k : n ≤ length tape) (wide : 4 * 8192 ≤ length t₀) (e : t ≡ table_after text t₀) {ws : List Word} {a : Actor} (short : length text ≤ 8192) (h : Tells text tape n ws a) where
  pub row_answer : (many : ℕ) → Ok many ≡ found_of text t₀ → {r : Place} → (4 * many ≤ length t → r ≡ place_told (earliest (faults_at (places_in t 0 many) tape (n / 3)))) → r ≡ place_told (earliest (limit_faults ws a))
  row_answer many f {r} g =
      let same : Ok many ≡ Ok (length ws) = f ∙ found_words text t₀ short (omega arith) h.lexed in
      let all : many ≡ length ws = cc in
      let fits = table_room text t₀ short (omega arith) h.lexed e in
      g (omega arith) ∙ ap (λ (m : ℕ). place_told (earliest (faults_at (places_in t 0 m) tape (n / 3)))) all ∙ ap (λ (l : List ℕ). place_told (earliest (faults_at l tape (n / 3)))) (table_places text t₀ short (omega arith) h.lexed e)
      ∙ earliest_fault text tape n (n / 3) k (omega arith) (omega arith) h

  -- every word is good, and there is room for them
  pub row_never : {x : Found} → ((m : ℕ) → x ≡ Ok m → ⊥) → x ≡ found_of text t₀ → ⊥
  row_never f g = f (length ws) (g ∙ found_words text t₀ short (omega arith) h.lexed)
