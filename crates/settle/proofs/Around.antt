-- What is looked up around the items of an actor's tape is what its setting says: ports, memories and sizes in the order of their declarations. Assumes nothing.
use mathlib.Core.Path.{◌≡◌, refl, sym, ap, ap₂, ◌∙◌, subst}
use mathlib.Core.Bool.{Bool, true, false, ◌||◌}
use mathlib.Core.List.{List, [], ◌∷◌, ◌++◌, append_assoc, append-nil}
use Prim.Native.Nat.{ℕ, zero, suc, ◌+◌, ◌*◌, ◌≤◌, ◌<◌}
use native.Mathlib.Omega.{arith}
use lib.Dec.{eqb, ltb}
use lib.ListN.{length, take}
use borrow.Author.Tests.{ltb-true, ne_eqb}
use Rattle.language.specs.Text.{Name}
use Rattle.language.specs.Tree.{Expr, Declared, Port, Size, one, cells, Memory, Entry, Val, Assignment, assign, write, Statement, alone, scoped, Rule, Group, Actor, spelled_of, memory_names}
use Rattle.language.specs.Counts.{size_of}
use Rattle.placed.specs.Placed.{name_from, Spelled, Every, PlacedDeclared, PlacedExpr, PlacedVal, PlacedAssignment, PlacedStatement, PlacedEntry, PlacedRule, PlacedGroup, PlacedPort, PlacedMemory, PlacedActor}
use Rattle.tape.specs.Tape as Tape
use Rattle.tape.specs.Tape.{item, flat, flat_d, flat_val, flat_assignment, flats, flat_statement, flat_entry, flat_rule, flat_group, flat_port, flat_size, flat_memory, flat_signed, flat_actor}
use Rattle.tape.specs.Walk.{op_at, place_at, value_at, add, pick}
use Rattle.tape.proofs.Does.{Ran, Does, none, both, single, walked}
use Rattle.tape.proofs.Asks.{never, asked, Asks, decl_asks, expr_asks}
use Rattle.looked_up.specs.Lookup.{named, size_before, sizes_on}
use Rattle.settle.proofs.Settings.{size_given, sizes_of}

-- ---- the declarations met so far, and the size for the next memory

record Heads : Type 0 where
  pub ports : List (List ℕ)
  pub memories : List (List ℕ)
  pub sizes : List ℕ
  pub size : ℕ

abbrev heads : (ports memories : List (List ℕ)) → (sizes : List ℕ) → ℕ → Heads
heads ports memories sizes size = record { ports = ports; memories = memories; sizes = sizes; size = size }

unfoldable onto : {T : Type 0} → Bool → T → List T → List T
onto true x l = l ++ (x ∷ [])
onto false x l = l

unfoldable next : List ℕ → Heads → ℕ → ℕ → ℕ → Heads
next text s o p v = heads (onto (eqb o Tape.SIGNED) (name_from text p) s.ports) (onto (eqb o Tape.MEMORY) (name_from text p) s.memories) (onto (eqb o Tape.MEMORY) s.size s.sizes) (pick (eqb o Tape.SIZE) v 1)

-- ---- by index

module _ (text t : List ℕ) where
  add_onto : (b c : Bool) (x y : List ℕ) (l : List (List ℕ)) → add b x (onto c y l) ≡ onto c y (add b x l)
  unfolding add onto
  add_onto true true x y l = refl
  add_onto true false x y l = refl
  add_onto false true x y l = refl
  add_onto false false x y l = refl

  add_one_onto : (b : Bool) (x : List ℕ) → add b x [] ≡ onto b x []
  unfolding add onto
  add_one_onto true x = refl
  add_one_onto false x = refl

  named_more : (o n from : ℕ) → named text t o from (suc n) ≡ onto (eqb (op_at t (from + n)) o) (name_from text (place_at t (from + n))) (named text t o from n)
  unfolding named
  named_more o zero from = let e : from ≡ from + 0 = omega arith in add_one_onto _ _ ∙ ap (λ (i : ℕ). onto (eqb (op_at t i) o) (name_from text (place_at t i)) []) e
  named_more o (suc n) from =
      let e : suc from + n ≡ from + suc n = omega arith in
      ap (add (eqb (op_at t from) o) (name_from text (place_at t from))) (named_more o n (suc from) ∙ ap (λ (i : ℕ). onto (eqb (op_at t i) o) (name_from text (place_at t i)) (named text t o (suc from) n)) e)
      ∙ add_onto (eqb (op_at t from) o) _ _ _ _

  abbrev size_on : Bool → ℕ → List ℕ → List ℕ
  size_on b k l = elim b as (λ (x : Bool). List ℕ) [ true ↦ k ∷ l | false ↦ l ]

  size_onto : (b c : Bool) (x y : ℕ) (l : List ℕ) → size_on b x (onto c y l) ≡ onto c y (size_on b x l)
  unfolding onto
  size_onto true true x y l = refl
  size_onto true false x y l = refl
  size_onto false true x y l = refl
  size_onto false false x y l = refl

  size_one_onto : (b : Bool) (x : ℕ) → size_on b x [] ≡ onto b x []
  unfolding onto
  size_one_onto true x = refl
  size_one_onto false x = refl

  sizes_more : (n from : ℕ) → sizes_on t from (suc n) ≡ onto (eqb (op_at t (from + n)) Tape.MEMORY) (size_before t (from + n)) (sizes_on t from n)
  unfolding sizes_on
  sizes_more zero from = let e : from ≡ from + 0 = omega arith in size_one_onto (eqb (op_at t from) Tape.MEMORY) (size_before t from) ∙ ap (λ (i : ℕ). onto (eqb (op_at t i) Tape.MEMORY) (size_before t i) []) e
  sizes_more (suc n) from =
      let e : suc from + n ≡ from + suc n = omega arith in
      ap (size_on (eqb (op_at t from) Tape.MEMORY) (size_before t from)) (sizes_more n (suc from) ∙ ap (λ (i : ℕ). onto (eqb (op_at t i) Tape.MEMORY) (size_before t i) (sizes_on t (suc from) n)) e)
      ∙ size_onto (eqb (op_at t from) Tape.MEMORY) _ (size_before t from) _ _

  abbrev heads_at : ℕ → Heads
  heads_at i = heads (named text t Tape.SIGNED 0 i) (named text t Tape.MEMORY 0 i) (sizes_on t 0 i) (size_before t i)

  from_none : (i : ℕ) → 0 + i ≡ i
  from_none i = omega arith

  heads_more : (i : ℕ) → next text (heads_at i) (op_at t i) (place_at t i) (value_at t i) ≡ heads_at (suc i)
  unfolding next size_before
  heads_more i =
      let e = from_none i in
      let a = named_more Tape.SIGNED i 0 in
      let b = named_more Tape.MEMORY i 0 in
      let c = sizes_more i 0 in
      cc

-- ---- by part

abbrev quiet : Heads → ℕ → ℕ → ℕ → Bool
quiet s o p v = false

module _ (text : List ℕ) where
  -- items that lead from one state to another, whatever they mark
  record Leads (s : Heads) (l : List ℕ) (s' : Heads) : Type 0 where
    pub marks : List ℕ
    pub does : Does quiet (next text) s l marks s'

  leads_none : {s : Heads} → Leads s [] s
  leads_none = record { marks = []; does = none }

  leads_both : {s s' s'' : Heads} {a b : List ℕ} → Leads s a s' → Leads s' b s'' → Leads s (a ++ b) s''
  leads_both d e = record { marks = d.marks ++ e.marks; does = both d.does e.does }

  leads_item : {s s' : Heads} (o p v : ℕ) → next text s o p v ≡ s' → Leads s (item o p v) s'
  leads_item o p v e = record { marks = _; does = single o p v refl e }

  -- items among which nothing is declared
  record Stays (l : List ℕ) : Type 0 where
    pub on : (ps ms : List (List ℕ)) (zs : List ℕ) → Leads (heads ps ms zs 1) l (heads ps ms zs 1)

  stays_both : {a b : List ℕ} → Stays a → Stays b → Stays (a ++ b)
  stays_both d e = record { on = λ ps ms zs. leads_both (d.on ps ms zs) (e.on ps ms zs) }

  stays_item : (o p v : ℕ) → ((ps ms : List (List ℕ)) (zs : List ℕ) → next text (heads ps ms zs 1) o p v ≡ heads ps ms zs 1) → Stays (item o p v)
  stays_item o p v e = record { on = λ ps ms zs. leads_item o p v (e ps ms zs) }

  stays_many : {T : Type 0} {P : T → Type 0} (fl : T → List ℕ) → ((x : T) → P x → Stays (fl x)) → (l : List T) → Every P l → Stays (flats fl l)
  unfolding flats
  stays_many fl d [] h = record { on = λ ps ms zs. leads_none }
  stays_many fl d (x ∷ l) h = stays_both (d x h.0) (stays_many fl d l h.1)

  -- ---- types and expressions

  asked_never : (o : ℕ) (n : List ℕ) → false ≡ asked never never o n
  unfolding asked
  asked_never o n = go (eqb o Tape.READ) (eqb o Tape.ENVIRONMENT || eqb o Tape.VALUE)
    where
      go : (b c : Bool) → false ≡ elim b as (λ (x : Bool). Bool) [ true ↦ false | false ↦ elim c as (λ (x : Bool). Bool) [ true ↦ false | false ↦ false ] ]
      go true c = refl
      go false true = refl
      go false false = refl

  low_stays : (ps ms : List (List ℕ)) (zs : List ℕ) (o p v : ℕ) → ltb o Tape.ASSIGN ≡ true → next text (heads ps ms zs 1) o p v ≡ heads ps ms zs 1
  unfolding next onto pick
  low_stays ps ms zs o p v h =
      let l = ltb-true o 33 h in
      rw (ne_eqb o 46 (λ e. omega arith), ne_eqb o 44 (λ e. omega arith), ne_eqb o 45 (λ e. omega arith), onto, pick)

  asks : (ps ms : List (List ℕ)) (zs : List ℕ) → Asks quiet (next text) text (heads ps ms zs 1) never never
  asks ps ms zs = record { keeps = low_stays ps ms zs; tests = λ o p v h. asked_never o (name_from text p) }

  declared_stays : (d : Declared) → PlacedDeclared text d → Stays (flat_d d)
  declared_stays d h = record { on = λ ps ms zs. record { marks = _; does = decl_asks (asks ps ms zs) d h } }

  expr_stays : (e : Expr) → PlacedExpr text e → Stays (flat e)
  expr_stays e h = record { on = λ ps ms zs. record { marks = _; does = expr_asks (asks ps ms zs) e h } }

  -- ---- statements, rules and groups

  val_stays : (v : Val) → PlacedVal text v → Stays (flat_val v)
  unfolding flat_val next onto pick
  val_stays v h = stays_both (stays_both (declared_stays v.type h.type) (expr_stays v.value h.value)) (stays_item Tape.VAL _ _ (λ ps ms zs. refl))

  assignment_stays : (x : Assignment) → PlacedAssignment text x → Stays (flat_assignment x)
  unfolding flat_assignment next onto pick
  assignment_stays (assign n e) h = stays_both (expr_stays e h.1) (stays_item Tape.ASSIGN _ _ (λ ps ms zs. refl))
  assignment_stays (write n x e) h = stays_both (stays_both (expr_stays x h.1) (expr_stays e h.2)) (stays_item Tape.WRITE _ _ (λ ps ms zs. refl))

  statement_stays : (x : Statement) → PlacedStatement text x → Stays (flat_statement x)
  unfolding flat_statement next onto pick
  statement_stays (alone x) h = assignment_stays x h
  statement_stays (scoped vs xs) h =
      stays_both (stays_both (stays_both (stays_item Tape.LET 0 0 (λ ps ms zs. refl)) (stays_many flat_val val_stays vs h.0)) (stays_many flat_assignment assignment_stays xs h.1)) (stays_item Tape.END 0 0 (λ ps ms zs. refl))

  entry_stays : (e : Entry) → PlacedEntry text e → Stays (flat_entry e)
  unfolding flat_entry next onto pick
  entry_stays e h = stays_item Tape.PRESENT _ _ (λ ps ms zs. refl)

  rule_stays : (r : Rule) → PlacedRule text r → Stays (flat_rule r)
  unfolding flat_rule next onto pick
  rule_stays r h =
      stays_both (stays_both (stays_both (stays_item Tape.RULE _ 0 (λ ps ms zs. refl)) (stays_many flat_entry entry_stays r.list h.list)) (stays_many flat_statement statement_stays r.body h.body)) (stays_item Tape.RULED 0 0 (λ ps ms zs. refl))

  group_stays : (g : Group) → PlacedGroup text g → Stays (flat_group g)
  unfolding flat_group next onto pick
  group_stays g h = stays_both (stays_both (stays_item Tape.OR _ 0 (λ ps ms zs. refl)) (stays_many flat_rule rule_stays g.rules h)) (stays_item Tape.GROUPED 0 0 (λ ps ms zs. refl))

  port_stays : (p : Port) → PlacedPort text p → Stays (flat_port p)
  unfolding flat_port next onto pick
  port_stays p h = stays_both (declared_stays p.type h.type) (stays_item Tape.DECLARED _ _ (λ ps ms zs. refl))

  -- ---- the signature and the memories

  signed_leads : (ns : List Name) → Every (Spelled text) ns → (ps ms : List (List ℕ)) (zs : List ℕ) → Leads (heads ps ms zs 1) (flats flat_signed ns) (heads (ps ++ spelled_of ns) ms zs 1)
  unfolding flats flat_signed spelled_of next onto pick
  signed_leads [] h ps ms zs = subst (λ (l : List (List ℕ)). Leads (heads ps ms zs 1) [] (heads l ms zs 1)) (sym (append-nil ps)) leads_none
  signed_leads (n ∷ ns) h ps ms zs =
      subst (λ (l : List (List ℕ)). Leads (heads ps ms zs 1) (item Tape.SIGNED n.at 0 ++ flats flat_signed ns) (heads l ms zs 1)) (append_assoc ps (n.spelled ∷ []) (spelled_of ns))
      (leads_both (leads_item Tape.SIGNED n.at 0 (ap (λ (x : List ℕ). heads (ps ++ (x ∷ [])) ms zs 1) (sym h.0))) (signed_leads ns h.1 (ps ++ (n.spelled ∷ [])) ms zs))

  size_leads : (z : Size) (ps ms : List (List ℕ)) (zs : List ℕ) → Leads (heads ps ms zs 1) (flat_size z) (heads ps ms zs (size_given z))
  unfolding flat_size next onto pick
  size_leads one ps ms zs = leads_none
  size_leads (cells n) ps ms zs = leads_item Tape.SIZE n.at n.value refl

  memory_leads : (m : Memory) → PlacedMemory text m → (ps ms : List (List ℕ)) (zs : List ℕ) → Leads (heads ps ms zs 1) (flat_memory m) (heads ps (ms ++ (m.called.spelled ∷ [])) (zs ++ (size_of m ∷ [])) 1)
  unfolding flat_memory size_of next onto pick
  memory_leads m h ps ms zs =
      leads_both (leads_both ((declared_stays m.type h.type).on ps ms zs) (size_leads m.size ps ms zs))
      (leads_item Tape.MEMORY m.called.at _ (ap (λ (x : List ℕ). heads ps (ms ++ (x ∷ [])) (zs ++ (size_given m.size ∷ [])) 1) (sym h.called)))

  memories_lead : (l : List Memory) → Every (PlacedMemory text) l → (ps ms : List (List ℕ)) (zs : List ℕ) → Leads (heads ps ms zs 1) (flats flat_memory l) (heads ps (ms ++ spelled_of (memory_names l)) (zs ++ sizes_of l) 1)
  unfolding flats spelled_of memory_names sizes_of
  memories_lead [] h ps ms zs =
      let x = append-nil ms in
      let y = append-nil zs in
      subst (λ (q : Heads). Leads (heads ps ms zs 1) [] q) (ap₂ (λ (u : List (List ℕ)) (w : List ℕ). heads ps u w 1) (sym x) (sym y)) leads_none
  memories_lead (m ∷ l) h ps ms zs =
      let x = append_assoc ms (m.called.spelled ∷ []) (spelled_of (memory_names l)) in
      let y = append_assoc zs (size_of m ∷ []) (sizes_of l) in
      subst (λ (q : Heads). Leads (heads ps ms zs 1) (flat_memory m ++ flats flat_memory l) q) (ap₂ (λ (u : List (List ℕ)) (w : List ℕ). heads ps u w 1) x y)
      (leads_both (memory_leads m h.0 ps ms zs) (memories_lead l h.1 ps (ms ++ (m.called.spelled ∷ [])) (zs ++ (size_of m ∷ []))))

  abbrev final : Actor → Heads
  final a = heads (spelled_of a.signature) (spelled_of (memory_names a.memories)) (sizes_of a.memories) 1

  actor_leads : (a : Actor) → PlacedActor text a → Leads (heads [] [] [] 1) (flat_actor a) (final a)
  unfolding flat_actor next onto pick
  actor_leads a h =
      leads_both (leads_both (leads_both (leads_both (leads_item Tape.ACTOR a.called.at 0 refl) (signed_leads a.signature h.signature [] [] [])) ((stays_many flat_port port_stays a.ports h.ports).on _ _ _)) (memories_lead a.memories h.memories _ [] []))
      ((stays_many flat_group group_stays a.groups h.groups).on _ _ _)

-- ---- the tape that holds an actor

module _ (text t : List ℕ) (n many : ℕ) (k : n ≤ length t) (low : 3 * many ≤ n) (high : n < 3 * many + 3) (a : Actor) (h : PlacedActor text a) (holds : take n t ≡ flat_actor a) where
  ends : heads_at text t many ≡ final text a
  unfolding named sizes_on size_before
  ends = ap (λ (r : Ran Heads). r.seen) (walked quiet (next text) t (heads_at text t) (heads_more text t) k low high holds (actor_leads text a h).does)

  pub ports_are : named text t Tape.SIGNED 0 many ≡ spelled_of a.signature
  ports_are = ap (λ (s : Heads). s.ports) ends

  pub memories_are : named text t Tape.MEMORY 0 many ≡ spelled_of (memory_names a.memories)
  memories_are = ap (λ (s : Heads). s.memories) ends

  pub sizes_are : sizes_on t 0 many ≡ sizes_of a.memories
  sizes_are = ap (λ (s : Heads). s.sizes) ends
