-- THE THEOREM: the nodes that are found for port or memory i are the code of the width that is wanted of it. Assumes nothing.
use mathlib.Core.Path.{◌≡◌, refl, sym, ap, ap₂, ◌∙◌, subst}
use mathlib.Core.Bool.{Bool, true, false}
use mathlib.Core.List.{List, [], ◌∷◌, ◌++◌}
use Prim.Native.Nat.{ℕ, zero, suc, ◌+◌, ◌-◌, ◌*◌, ◌≤◌, ◌<◌}
use native.Mathlib.Omega.{arith}
use lib.Dec.{ltb}
use borrow.Author.Tests.{ltb-true, ltb-false}
use lib.ListN.{length, get_or, take, drop, replicate, length-append, length-take, length-replicate, get_or-map}
use lib.Seq.{take_all, take_at, drop_at, get_or-take}
use Rattle.language.specs.Limits.{limits}
use Rattle.language.specs.Text.{Name, index, among}
use Rattle.language.specs.Words.{Word}
use Rattle.language.specs.Tree.{Ty, Declared, untyped, Memory, Actor, spelled_of, memory_names}
use Rattle.language.specs.Parts.{each, actor_items, types}
use Rattle.language.specs.Counts.{type_words, too_many, limit_faults}
use Rattle.language.specs.Bindings.{Binding, Bindings}
use Rattle.language.specs.Widths.{Want, exactly, type_want, declared_type, port_want, wants, bound_names, value_in, Least}
use Rattle.bindings.proofs.Ranges.{ranged}
use Rattle.bindings.specs.declared.bound.Bound.{Bound}
use Rattle.row09_bindings.proofs.Tables.{names_are, widths_on, values_on}
use Rattle.placed.specs.Placed.{name_from, Every, PlacedActor}
use Rattle.placed.proofs.Placed.{placed}
use Rattle.placed.proofs.Worded.{parsed_short}
use Rattle.tape.specs.Walk.{place_at}
use Rattle.type_value.specs.Terms.{Term, number, port, log, floor, ceil, plus, minus, greater, code, TypeOf}
use Rattle.type_value.specs.Walk.{TermStands}
use Rattle.typing.specs.Solved.{Coded, Answer, term_of, terms_of}
use Rattle.typing.proofs.Rules.{none_left, none_right}
use Rattle.typing.proofs.Bridge.{as_many, found, not_found}
use Rattle.typing.proofs.Accepted.{All, terms_right, coded}
use Rattle.row09_bindings.specs.Lines.{names_on}
use Rattle.type_nodes.specs.Codes.{Env, env_in, port_of, value_or, value_of, number_node, capped, sought_in, some_nodes, port_nodes, want_nodes, signed_names, tally, counts_over, Slotted}
use Rattle.row10_widths.specs.Row.{Asked, Settles}
use Rattle.std.specs.Prelude.{Some, None}
use Rattle.std.specs.Bool.{then_some}
use Rattle.type_nodes.specs.declared.Counts.{Counts}
use Rattle.type_nodes.specs.declared.Goal.TheVariants.{Port as PortAt, Memory as MemoryAt}
use Rattle.row10_widths.proofs.Nodes.{nodes_code, number_node_law}
use Rattle.row10_widths.proofs.Sought.{nodes_d, type_at, port_found, memory_found}
use Rattle.row10_widths.proofs.Named.{signed_fits, signed_names_law, actor_count, name_at_law, found_among, found_value}

-- ---- code is never empty

some_append : (x y : List ℕ) → some_nodes y ≡ y → some_nodes (x ++ y) ≡ x ++ y
unfolding some_nodes
some_append [] y e = e
some_append (z ∷ x) y e = refl

some_code : (u : Term) → some_nodes (code u) ≡ code u
unfolding some_nodes code
some_code (number n) = refl
some_code (port i) = refl
some_code (log t) = some_append (code t) _ refl
some_code (floor t) = some_append (code t) _ refl
some_code (ceil t) = some_append (code t) _ refl
some_code (plus s t) = some_append (code s) _ (some_append (code t) _ refl)
some_code (minus s t) = some_append (code s) _ (some_append (code t) _ refl)
some_code (greater s t) = some_append (code s) _ (some_append (code t) _ refl)

none_code : some_nodes [] ≡ code (number 0)
unfolding some_nodes code
none_code = ap (λ (y : ℕ). y ∷ []) (number_node_law 0 (omega arith))

pub every_all : {A : Type 0} (P : A → Type 0) (l : List A) → Every P l → All P l
every_all P [] h = tt
every_all P (x ∷ l) h = (h.0, every_all P l h.1)

-- ---- row 7 leaves no more names than its limit

pub not_too_many : (n : ℕ) (ns : List Name) → too_many n ns ≡ [] → length ns ≤ n
unfolding too_many each
not_too_many n [] e = omega arith
not_too_many zero (x ∷ ns) e = absurd (let z : ◌≡◌ {A = ℕ} 0 1 = cc in omega arith)
not_too_many (suc n) (x ∷ ns) e = let h = not_too_many n ns e in omega arith

pub memory_names_law : (ms : List Memory) → length (memory_names ms) ≡ length ms
unfolding memory_names
memory_names_law [] = refl
memory_names_law (m ∷ ms) = ap suc (memory_names_law ms)

-- ---- the wants by index

module _ (a : Actor) (b : Bindings) where
  ports_long : (ns : List Name) → length (each (λ (n : Name). port_want a b n.spelled ∷ []) ns) ≡ length ns
  unfolding each
  ports_long [] = refl
  ports_long (n ∷ ns) = ap suc (ports_long ns)

  port_want_law : (ns : List Name) (y : List Want) (i : ℕ) → i < length ns → get_or (each (λ (n : Name). port_want a b n.spelled ∷ []) ns ++ y) i (exactly 0) ≡ port_want a b (get_or (spelled_of ns) i [])
  unfolding each spelled_of
  port_want_law [] y i h = absurd (omega arith)
  port_want_law (n ∷ ns) y zero h = refl
  port_want_law (n ∷ ns) y (suc i) h = port_want_law ns y i (omega arith)

  past_ports : (ns : List Name) (y : List Want) (i : ℕ) → length ns ≤ i → get_or (each (λ (n : Name). port_want a b n.spelled ∷ []) ns ++ y) i (exactly 0) ≡ get_or y (i - length ns) (exactly 0)
  unfolding each
  past_ports [] y i h = let e : i ≡ i - 0 = omega arith in ap (λ (j : ℕ). get_or y j (exactly 0)) e
  past_ports (n ∷ ns) y zero h = absurd (omega arith)
  past_ports (n ∷ ns) y (suc i) h = let e : i - length ns ≡ suc i - suc (length ns) = omega arith in past_ports ns y i (omega arith) ∙ ap (λ (j : ℕ). get_or y j (exactly 0)) e

  memory_want : (ms : List Memory) (i : ℕ) → get_or (each (λ (m : Memory). type_want m.type ∷ []) ms) i (exactly 0) ≡ type_want (type_at ms i)
  unfolding each type_at type_want
  memory_want [] i = refl
  memory_want (m ∷ ms) zero = refl
  memory_want (m ∷ ms) (suc i) = memory_want ms i

-- the code of all wanted widths, and what the answer to it settles
pub record Laid (a : Actor) (b : Bindings) (cells starts ends : List ℕ) (all : ℕ) : Type 0 where
  pub coded : Coded (terms_of a b) cells (take all starts) (take all ends)
  pub yes : (xs before : List ℕ) {g : Bool} → g ≡ true → Answer g (terms_of a b) xs → Settles a b (Some all) before (xs ++ drop all before)
  pub no : (xs before : List ℕ) {g : Bool} → g ≡ false → Answer g (terms_of a b) xs → Settles a b None before (xs ++ drop all before)

pub settles : {a : Actor} {b : Bindings} {cells starts ends : List ℕ} {all : ℕ} → Laid a b cells starts ends all → (xs before : List ℕ) (g : Bool) → Answer g (terms_of a b) xs → Settles a b (then_some g all) before (xs ++ drop all before)
settles r xs before true y = r.yes xs before refl y
settles r xs before false y = r.no xs before refl y

module _ (text t : List ℕ) (n : ℕ) (bound : Bound) {ws : List Word} {a : Actor} {b : Bindings} (low : n ≤ length t) (h : Asked text t n bound ws a b) where
  abbrev e : Env
  e = env_in text t bound (length a.signature)

  stands : PlacedActor text a
  stands = placed h.tells.lexed h.tells.parses

  signature : signed_names text t 1 (length a.signature) ≡ spelled_of a.signature
  signature = signed_names_law text t n low a h.tells.holds h.tells.long stands.signature

  places : (s : List ℕ) → port_of e s ≡ index (spelled_of a.signature) s
  unfolding port_of
  places s = ap (λ (l : List (List ℕ)). index l s) signature

  values : (s : List ℕ) → value_of e s ≡ value_in b.values s
  unfolding value_of
  values s = sym (found_value bound.text.now bound.table.now s bound.lines.values bound.lines.widths) ∙ ap (λ (l : List Binding). value_in l s) (values_on h.binds)

  low_widths : (s : List ℕ) → value_in b.widths s ≤ 65535
  low_widths s = let z = (ranged bound.text.now h.binds.reads).widths s in omega arith

  pub low_values : (s : List ℕ) → value_in b.values s ≤ 65535
  low_values s = (ranged bound.text.now h.binds.reads).values s

  right : (i : ℕ) → TypeOf (length (terms_of a b)) (term_of a b (get_or (wants a b) i (exactly 0)))
  unfolding terms_of term_of
  right i = subst (λ (u : Term). TypeOf (length (terms_of a b)) u) (get_or-map (term_of a b) (wants a b) i (exactly 0)) (terms_right a b h.passed.names h.passed.typed (every_all {A = Ty} (λ (u : Ty). type_words u ≤ 64) (types (actor_items a)) (parsed_short ws h.tells.parses h.passed.limited).in_types) low_widths low_values i)

  -- a declared type's nodes, or those of the number 0
  declared_code : (d : Declared) {c : ℕ} → TypeOf c (term_of a b (type_want d)) → some_nodes (nodes_d e d) ≡ code (term_of a b (type_want d))
  unfolding type_want term_of nodes_d
  declared_code untyped r = none_code
  declared_code (Declared.typed u) {c} r = ap some_nodes (ap capped (nodes_code e (index (spelled_of a.signature)) (value_in b.values) places values c u r.fine) ∙ take_all limits.typeWords _ r.short) ∙ some_code _

  -- the name of port i
  name_of : (i : ℕ) → i < length a.signature → get_or (spelled_of a.signature) i [] ≡ name_from text (place_at t (i + 1))
  name_of i q = let z : 1 + i ≡ i + 1 = omega arith in sym (ap (λ (l : List (List ℕ)). get_or l i []) signature) ∙ name_at_law text t (length a.signature) 1 i q ∙ ap (λ (j : ℕ). name_from text (place_at t j)) z

  bound_names_law : names_on bound.text.now bound.table.now 0 bound.lines.widths ≡ spelled_of (bound_names b.widths)
  bound_names_law = names_are bound.text.now bound.table.now 0 bound.lines.widths ∙ ap (λ (l : List Binding). spelled_of (bound_names l)) (widths_on h.binds)

  module _ (s : List ℕ) where
    abbrev line : ℕ
    line = index (names_on bound.text.now bound.table.now 0 bound.lines.widths) s

    is_bound : ltb line bound.lines.widths ≡ among (spelled_of (bound_names b.widths)) s
    is_bound = sym (found_among bound.text.now bound.table.now s bound.lines.widths 0) ∙ ap (λ (l : List (List ℕ)). among l s) bound_names_law

    bound_value : ltb line bound.lines.widths ≡ true → get_or bound.table.now (3 * line + 2) 0 ≡ value_in b.widths s
    unfolding value_or
    bound_value f =
        let x : 0 + line ≡ line = omega arith in
        let y : 0 + bound.lines.widths ≡ bound.lines.widths = omega arith in
        sym (sym (ap (λ (l : List Binding). value_in l s) (widths_on h.binds)) ∙ found_value bound.text.now bound.table.now s bound.lines.widths 0 ∙ ap₂ (λ (u v : ℕ). value_or bound.table.now u v) x y ∙ ap (λ (q : Bool). elim q as (λ (z : Bool). ℕ) [ true ↦ get_or bound.table.now (3 * line + 2) 0 | false ↦ 0 ]) f)

    -- a bound width, or the declared type
    abbrev want : Bool → Want
    want x = elim x as (λ (y : Bool). Want) [ true ↦ exactly (value_in b.widths s) | false ↦ type_want (declared_type a.ports s) ]

    want_code : (c : ℕ) (l : List ℕ) → l ≡ nodes_d e (declared_type a.ports s) → (x : Bool) → ltb line bound.lines.widths ≡ x → TypeOf c (term_of a b (want x)) → elim x as (λ (y : Bool). List ℕ) [ true ↦ number_node (get_or bound.table.now (3 * line + 2) 0) ∷ [] | false ↦ some_nodes l ] ≡ code (term_of a b (want x))
    unfolding term_of code
    want_code c l f true g r = ap (λ (y : ℕ). y ∷ []) (ap number_node (bound_value g) ∙ number_node_law (value_in b.widths s) (low_widths s))
    want_code c l f false g r = ap some_nodes f ∙ declared_code (declared_type a.ports s) r

  port_code : (p c : ℕ) → TypeOf c (term_of a b (port_want a b (name_from text p))) → port_nodes e n p ≡ code (term_of a b (port_want a b (name_from text p)))
  unfolding port_nodes port_want
  port_code p c r =
      let s = name_from text p in
      want_code s c (sought_in e (PortAt p) [] (take n t)) (ap (sought_in e (PortAt p) []) h.tells.holds ∙ port_found e a stands p) (ltb (line s) bound.lines.widths) refl (subst (λ (x : Bool). TypeOf c (term_of a b (want s x))) (sym (is_bound s)) r) ∙ ap (λ (x : Bool). code (term_of a b (want s x))) (is_bound s)

  pub want_nodes_law : (i : ℕ) → i < length (wants a b) → want_nodes e n i ≡ code (term_of a b (get_or (wants a b) i (exactly 0)))
  unfolding want_nodes wants
  want_nodes_law i q = go (ltb i (length a.signature)) refl
    where
      go : (x : Bool) → ltb i (length a.signature) ≡ x → elim x as (λ (y : Bool). List ℕ) [ true ↦ port_nodes e n (place_at t (i + 1)) | false ↦ some_nodes (sought_in e (MemoryAt (i - length a.signature)) [] (take n t)) ] ≡ code (term_of a b (get_or (wants a b) i (exactly 0)))
      go true f =
          let w = port_want_law a b a.signature (each (λ (m : Memory). type_want m.type ∷ []) a.memories) i (ltb-true _ _ f) ∙ ap (port_want a b) (name_of i (ltb-true _ _ f)) in
          port_code (place_at t (i + 1)) _ (subst (λ (v : Want). TypeOf (length (terms_of a b)) (term_of a b v)) w (right i)) ∙ sym (ap (λ (v : Want). code (term_of a b v)) w)
      go false f =
          let w = past_ports a b a.signature (each (λ (m : Memory). type_want m.type ∷ []) a.memories) i (ltb-false _ _ f) ∙ memory_want a b a.memories (i - length a.signature) in
          ap some_nodes (ap (sought_in e (MemoryAt (i - length a.signature)) []) h.tells.holds ∙ memory_found e a stands (i - length a.signature)) ∙ declared_code (type_at a.memories (i - length a.signature)) (subst (λ (v : Want). TypeOf (length (terms_of a b)) (term_of a b v)) w (right i)) ∙ sym (ap (λ (v : Want). code (term_of a b v)) w)

  -- ---- the code as a whole

  counted : {c : Counts} → c ≡ counts_over (tally 0 0) (take n t) → (c.ports ≡ length a.signature) × (c.memories ≡ length a.memories)
  counted q = let z = q ∙ ap (counts_over (tally 0 0)) h.tells.holds ∙ actor_count a in (ap (λ (x : Counts). x.ports) z, ap (λ (x : Counts). x.memories) z)

  roomy : 3 * length a.signature + 3 ≤ length t
  roomy = let z = signed_fits text t n low a h.tells.holds h.tells.long in omega arith

  pub few_ports : length a.signature ≤ 16
  unfolding limit_faults
  few_ports = not_too_many 16 a.signature (none_left (too_many 16 a.signature) _ h.passed.limited)

  pub few_memories : length a.memories ≤ 8
  unfolding limit_faults
  few_memories = let z = memory_names_law a.memories in let f = not_too_many 8 (memory_names a.memories) (none_left (too_many 8 (memory_names a.memories)) _ (none_right (too_many 16 a.signature) _ h.passed.limited)) in omega arith

  pub few_declared : {c : Counts} → c ≡ counts_over (tally 0 0) (take n t) → (c.ports ≤ 16) × (c.memories ≤ 8) × (3 * c.ports + 3 ≤ length t)
  few_declared q = let z = counted q in let w = roomy in (omega (arith, z.0, few_ports), omega (arith, z.1, few_memories), omega (arith, z.0))

  memories_long : (ms : List Memory) → length (each (λ (m : Memory). type_want m.type ∷ []) ms) ≡ length ms
  unfolding each
  memories_long [] = refl
  memories_long (x ∷ ms) = ap suc (memories_long ms)

  pub wants_long : length (wants a b) ≡ length a.signature + length a.memories
  unfolding wants
  wants_long = length-append (each (λ (n : Name). port_want a b n.spelled ∷ []) a.signature) (each (λ (m : Memory). type_want m.type ∷ []) a.memories) ∙ ap₂ (λ (x y : ℕ). x + y) (ports_long a b a.signature) (memories_long a.memories)

  module _ (cells starts ends : List ℕ) (ports all : ℕ) (p : ports ≡ length a.signature) (q : all ≡ length a.signature + length a.memories) (s : Slotted (env_in text t bound ports) n cells starts ends all) (r : 64 * all ≤ length cells) (x : all ≤ length starts) (y : all ≤ length ends) where
    slotted : Slotted e n cells starts ends all
    slotted = subst (λ (j : ℕ). Slotted (env_in text t bound j) n cells starts ends all) p s

    stand : (i : ℕ) → i < length (wants a b) → TermStands (term_of a b (get_or (wants a b) i (exactly 0))) cells (get_or (take all starts) i 0) (get_or (take all ends) i 0)
    stand i f =
        let w = wants_long in
        let g : i < all = omega arith in
        let u = get_or-take all starts i 0 g in
        let v = get_or-take all ends i 0 g in
        let d = slotted.end i g in
        record {
          inside = omega (arith, d.1);
          is = ap₂ (λ (j l : ℕ). take (l - j) (drop j cells)) (u ∙ slotted.start i g) v ∙ slotted.is i g ∙ want_nodes_law i f;
        }

    all_coded : Coded (terms_of a b) cells (take all starts) (take all ends)
    all_coded =
        let w = wants_long in
        coded a b h.passed.names h.passed.typed (every_all {A = Ty} (λ (u : Ty). type_words u ≤ 64) (types (actor_items a)) (parsed_short ws h.tells.parses h.passed.limited).in_types) low_widths low_values cells (take all starts) (take all ends)
        (let z = length-take all starts in omega arith) (let z = length-take all ends in omega arith) stand

    -- the answer of `solve`, in the first cells
    abbrev cells_of : List ℕ → List ℕ → List ℕ
    cells_of xs before = xs ++ drop all before

    first : (xs before : List ℕ) → length xs ≡ length (terms_of a b) → take all (cells_of xs before) ≡ xs
    first xs before f = let w = wants_long in let z = as_many a b in take_at xs (drop all before) all (omega arith)

    as_all : length (wants a b) ≡ all
    as_all = let w = wants_long in omega arith

    past : (xs before : List ℕ) → length xs ≡ length (terms_of a b) → drop (length (wants a b)) (cells_of xs before) ≡ drop (length (wants a b)) before
    past xs before f = let w = wants_long in let z = as_many a b in drop_at xs (drop all before) (length (wants a b)) (omega arith) ∙ ap (λ (j : ℕ). drop j before) (sym as_all)

    found_widths : (xs before : List ℕ) {g : Bool} → g ≡ true → Answer g (terms_of a b) xs → Settles a b (Some all) before (cells_of xs before)
    found_widths xs before f u =
        let l = subst (λ (g : Bool). Answer g (terms_of a b) xs) f u in
        let v = l.solves.long in
        record {
          resolved = subst (λ (c : List ℕ). Least a b c) (sym (first xs before v)) (found a b xs l);
          zeros = λ z. absurd (let y : ◌≡◌ {A = ℕ} 0 1 = cc in omega arith);
          rest = past xs before v;
          fits = let n = length-append xs (drop all before) in let w = wants_long in let z = as_many a b in let y = v in omega arith;
        }

    no_widths : (xs before : List ℕ) {g : Bool} → g ≡ false → Answer g (terms_of a b) xs → Settles a b None before (cells_of xs before)
    no_widths xs before f u =
        let l = subst (λ (g : Bool). Answer g (terms_of a b) xs) f u in
        let v = ap length l.1 ∙ length-replicate (length (terms_of a b)) 0 in
        record {
          resolved = not_found a b xs l;
          zeros = λ z. ap (λ (j : ℕ). take j (cells_of xs before)) as_all ∙ first xs before v ∙ l.1 ∙ ap (λ (j : ℕ). replicate j 0) (as_many a b);
          rest = past xs before v;
          fits = tt;
        }

  pub laid : {c : Counts} → c ≡ counts_over (tally 0 0) (take n t) → (cells starts ends : List ℕ) (i : ℕ) → i ≡ c.ports + c.memories → Slotted (env_in text t bound c.ports) n cells starts ends i → length cells ≡ 1536 → length starts ≡ 24 → length ends ≡ 24 → Laid a b cells starts ends (c.ports + c.memories)
  laid {c} q cells starts ends i z s x y w =
      let p = counted q in
      let f = few_declared q in
      let all = c.ports + c.memories in
      let s' = subst (λ (j : ℕ). Slotted (env_in text t bound c.ports) n cells starts ends j) z s in
      let e1 : all ≡ length a.signature + length a.memories = omega (arith, p.0, p.1) in
      let e2 : 64 * all ≤ length cells = omega (arith, f.0, f.1) in
      let e3 : all ≤ length starts = omega (arith, f.0, f.1) in
      let e4 : all ≤ length ends = omega (arith, f.0, f.1) in
      record {
        coded = all_coded cells starts ends c.ports all p.0 e1 s' e2 e3 e4;
        yes = found_widths cells starts ends c.ports all p.0 e1 s' e2 e3 e4;
        no = no_widths cells starts ends c.ports all p.0 e1 s' e2 e3 e4;
      }
