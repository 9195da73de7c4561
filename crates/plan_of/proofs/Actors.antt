-- Rules and groups one after the other, and the whole actor. Assumes nothing.
use mathlib.Core.Path.{◌≡◌, refl, sym, ap, ap₂, ◌∙◌}
use mathlib.Core.Bool.{Bool, true, false}
use mathlib.Core.List.{List, [], ◌∷◌, ◌++◌, append_assoc, append-nil}
use Prim.Native.Nat.{ℕ, suc, ◌+◌, ◌-◌, ◌≤◌}
use native.Mathlib.Omega.{arith}
use lib.Dec.{ltb}
use lib.ListN.{length, length-append, length-replicate}
use borrow.Author.Tests.{lt-ltb}
use Rattle.language.specs.Text.{Name, earliest}
use Rattle.language.specs.Tree.{Entry, Rule, Group, Memory, Statement}
use Rattle.language.specs.Parts.{each}
use Rattle.language.specs.Widths.{port_width, memory_width}
use Rattle.language.specs.Sizes.{Setting, statement_sizes}
use Rattle.words.specs.Found.{place_told}
use Rattle.plan_of.specs.PlanOf.{body_code, rule_code}
use Rattle.placed.specs.Placed.{Every}
use Rattle.placed.proofs.Every.{each_append}
use Rattle.plan_of.specs.Formed.{FormedRule, FormedGroup}
use Rattle.plan_of.proofs.Rules.{FineStatement, vals_in}
use Rattle.settled.specs.Form.{six, RULED}
use Rattle.settled.specs.Settled.{settled_entry, settled_rule, settled_group, settled_signed, settled_memory, settled_of}
use Rattle.size_walk.specs.Effects.{sooner_of, ends_of, effect_of}
use Rattle.size_walk.specs.Steps.{State, seen_of, width_on, start_on, emits_of, held_of, around_of, pick, ended_of, step_of, begin}
use Rattle.plan_of.proofs.Firsts.{told, told_after}
use Rattle.plan_of.proofs.Walks.{Goes, goes_both, goes_six}
use Rattle.plan_of.proofs.Left.{coded}
use Rattle.plan_of.proofs.Ends.{done, Ends}
use Rattle.plan_of.proofs.Bodies.{ends_none, ends_told, ends_body}

-- ---- items that do nothing

-- an item after which only the code has nothing more
abbrev Idle : (o p a b c d : ℕ) → Type 0
Idle o p a b c d = (st : State) → step_of st o p a b c d ≡ done st (told []) (st.code ++ []) st.slots st.breadth st.start

module _ (p a b c d : ℕ) where
  idle_present : Idle 38 p a b c d
  unfolding step_of effect_of seen_of ends_of width_on start_on emits_of held_of around_of pick ended_of sooner_of earliest place_told
  idle_present st = refl

  idle_rule : Idle 39 p a b c d
  unfolding step_of effect_of seen_of ends_of width_on start_on emits_of held_of around_of pick ended_of sooner_of earliest place_told
  idle_rule st = refl

  idle_or : Idle 41 p a b c d
  unfolding step_of effect_of seen_of ends_of width_on start_on emits_of held_of around_of pick ended_of sooner_of earliest place_told
  idle_or st = refl

  idle_memory : Idle 44 p a b c d
  unfolding step_of effect_of seen_of ends_of width_on start_on emits_of held_of around_of pick ended_of sooner_of earliest place_told
  idle_memory st = refl

  idle_signed : Idle 46 p a b c d
  unfolding step_of effect_of seen_of ends_of width_on start_on emits_of held_of around_of pick ended_of sooner_of earliest place_told
  idle_signed st = refl

-- nothing is done by some items
abbrev Still : List ℕ → Type 0
Still items = (st : State) → Ends (told []) items [] (Unit {0}) st.slots st

still_item : (o p a b c d : ℕ) → Idle o p a b c d → Still (six o p a b c d)
unfolding each
still_item o p a b c d i st = record { c = st.code ++ []; br = st.breadth; sp = st.start; goes = goes_six o p a b c d (i st); code = λ y. refl }

still_both : (a b : List ℕ) → Still a → Still b → Still (a ++ b)
still_both a b f g st =
    let r = f st in
    let w = ends_told st [] [] a b [] [] (Unit {0}) (Unit {0}) st.slots st.slots r (g (done st (told []) r.c st.slots r.br r.sp)) in
    record { c = w.c; br = w.br; sp = w.sp; goes = w.goes; code = λ y. w.code (tt, tt) }

still_each : {A : Type 0} (f : A → List ℕ) → ((x : A) → Still (f x)) → (l : List A) → Still (each f l)
unfolding each
still_each f g [] st = ends_none st
still_each f g (x ∷ l) st = still_both (f x) (each f l) (g x) (still_each f g l) st

-- ---- a rule

module _ (s : Setting) (ms : List (List ℕ)) (ports : (n : List ℕ) → port_width s.actor s.widths n ≤ 32) (memories : (n : List ℕ) → memory_width s.actor s.widths n ≤ 32) where
  still_entry : (e : Entry) → Still (settled_entry s e)
  unfolding settled_entry
  still_entry e = still_item 38 _ _ _ 0 0 (idle_present _ _ _ 0 0)

  -- what rules leave: they go on, with their faults, their code and its lengths
  pub record Rules (f items : List ℕ) (codes : List (List ℕ)) (W : Type 0) (st : State) : Type 0 where
    pub next : State
    pub goes : Goes st items next
    pub first : next.first ≡ sooner_of (told f) st.first
    pub slots : length next.slots ≡ 16
    pub cases : next.cases ≡ st.cases
    pub rule : next.rule ≡ length next.code
    pub code : W → next.code ≡ st.code ++ each (λ c. c) codes
    pub lengths : W → length st.lengths + length codes ≤ 32 → next.lengths ≡ st.lengths ++ each (λ c. length c ∷ []) codes

  -- a rule's body is known to be fine
  abbrev pub FineBody : List Statement → Type 0
  FineBody l = Every (FineStatement s ms) l

  unfoldable ruled : State → (f c sl : List ℕ) → (br sp : ℕ) → State
  ruled st f c sl br sp =
      record {
        widths = st.widths;
        starts = st.starts;
        slots = sl;
        code = c ++ [];
        lengths = ended_of (ltb (length st.lengths) 32) (length (c ++ []) - st.rule) st.lengths;
        first = sooner_of (told f) st.first;
        breadth = br;
        start = sp;
        cases = st.cases;
        rule = length (c ++ []);
      }

  ruled_does : (st : State) (f c sl : List ℕ) (br sp : ℕ) → step_of (done st (told f) c sl br sp) RULED 0 0 0 0 0 ≡ ruled st f c sl br sp
  unfolding ruled step_of effect_of seen_of ends_of width_on start_on emits_of held_of around_of pick sooner_of
  ruled_does st f c sl br sp = refl

  ended_one : (l : List ℕ) (n : ℕ) → length l + 1 ≤ 32 → ended_of (ltb (length l) 32) n l ≡ l ++ (n ∷ [])
  unfolding ended_of
  ended_one l n h = ap (λ (b : Bool). ended_of b n l) (lt-ltb (length l) 32 (omega arith))

  -- the code's length tells the rule's
  rule_length : (c k d : List ℕ) (n : ℕ) → c ≡ k ++ d → n ≡ length k → length c - n ≡ length d
  rule_length c k d n e h = ap (λ (l : List ℕ). length l - n) e ∙ (let g = length-append k d in omega arith)

  pub rule_leaves : (r : Rule) → FormedRule ms r → vals_in r.body ≤ 16 → (st : State) → length st.slots ≡ 16 → st.cases ≡ 0 → st.rule ≡ length st.code
      → Rules (each (statement_sizes s) r.body) (settled_rule s r) (rule_code s r ∷ []) (FineBody r.body) st
  unfolding settled_rule rule_code ruled each sooner_of earliest place_told
  rule_leaves r f few st n z k =
      let a = still_item 39 r.called.at 0 0 0 0 (idle_rule r.called.at 0 0 0 0) st in
      let st1 : State = done st (told []) a.c st.slots a.br a.sp in
      let b = still_each (settled_entry s) still_entry r.list st1 in
      let st2 : State = done st1 (told []) b.c st.slots b.br b.sp in
      let w = ends_body s ms ports memories r.body 0 f.1 (omega (arith, few)) st2 n z in
      let e : w.ends.c ++ [] ≡ w.ends.c = append-nil w.ends.c in
      let before : b.c ≡ st.code = b.code tt ∙ append-nil a.c ∙ a.code tt ∙ append-nil st.code in
      record {
        next = ruled st2 (each (statement_sizes s) r.body) w.ends.c w.slots w.ends.br w.ends.sp;
        goes = goes_both a.goes (goes_both b.goes (goes_both w.ends.goes (goes_six RULED 0 0 0 0 0 (ruled_does st2 (each (statement_sizes s) r.body) w.ends.c w.slots w.ends.br w.ends.sp))));
        first = refl;
        slots = w.long;
        cases = refl;
        rule = refl;
        code = λ y. e ∙ w.ends.code y ∙ ap₂ ◌++◌ before (sym (append-nil _));
        lengths = λ y h. ended_one st.lengths _ h ∙ ap (λ (m : ℕ). st.lengths ++ (m ∷ [])) (rule_length (w.ends.c ++ []) st.code (coded (body_code s 0 r.body)) st.rule (e ∙ w.ends.code y ∙ ap (λ (l : List ℕ). l ++ coded (body_code s 0 r.body)) before) k);
      }

  -- ---- rules one after the other

  as_many : (codes : List (List ℕ)) → length (each (λ (c : List ℕ). length c ∷ []) codes) ≡ length codes
  unfolding each
  as_many [] = refl
  as_many (c ∷ l) = ap suc (as_many l)

  rules_both : (f g items others : List ℕ) (cs ds : List (List ℕ)) (U W : Type 0) (st : State) → (r : Rules f items cs U st) → Rules g others ds W r.next → Rules (f ++ g) (items ++ others) (cs ++ ds) (U × W) st
  rules_both f g items others cs ds U W st r w =
      record {
        next = w.next;
        goes = goes_both r.goes w.goes;
        first = w.first ∙ ap (sooner_of (told g)) r.first ∙ told_after f g st.first;
        slots = w.slots;
        cases = w.cases ∙ r.cases;
        rule = w.rule;
        code = λ y. w.code y.1 ∙ ap (λ (l : List ℕ). l ++ each (λ c. c) ds) (r.code y.0) ∙ append_assoc st.code (each (λ c. c) cs) (each (λ c. c) ds) ∙ ap (λ (l : List ℕ). st.code ++ l) (sym (each_append (λ c. c) cs ds));
        lengths = λ y h.
            let n = length-append cs ds in
            let e = r.lengths y.0 (omega arith) in
            let m = ap length e ∙ length-append st.lengths (each (λ (c : List ℕ). length c ∷ []) cs) in
            let a = as_many cs in
            w.lengths y.1 (omega arith) ∙ ap (λ (l : List ℕ). l ++ each (λ (c : List ℕ). length c ∷ []) ds) e ∙ append_assoc st.lengths (each (λ (c : List ℕ). length c ∷ []) cs) (each (λ (c : List ℕ). length c ∷ []) ds)
            ∙ ap (λ (l : List ℕ). st.lengths ++ l) (sym (each_append (λ (c : List ℕ). length c ∷ []) cs ds));
      }

  rules_still : (items : List ℕ) → Still items → (st : State) → length st.slots ≡ 16 → st.rule ≡ length st.code → Rules [] items [] (Unit {0}) st
  unfolding each
  rules_still items f st n k =
      let r = f st in
      let e : r.c ≡ st.code = r.code tt ∙ append-nil st.code in
      record {
        next = done st (told []) r.c st.slots r.br r.sp;
        goes = r.goes;
        first = refl;
        slots = n;
        cases = refl;
        rule = k ∙ ap length (sym e);
        code = λ y. e ∙ sym (append-nil st.code);
        lengths = λ y h. sym (append-nil st.lengths);
      }

  rules_leave : (rs : List Rule) → Every (FormedRule ms) rs → Every (λ r. vals_in r.body ≤ 16) rs → (st : State) → length st.slots ≡ 16 → st.cases ≡ 0 → st.rule ≡ length st.code
      → Rules (each (λ r. each (statement_sizes s) r.body) rs) (each (settled_rule s) rs) (each (λ r. rule_code s r ∷ []) rs) (Every (λ r. FineBody r.body) rs) st
  unfolding each
  rules_leave [] f few st n z k = rules_still [] (λ st. ends_none st) st n k
  rules_leave (r ∷ rs) f few st n z k =
      let a = rule_leaves r f.0 few.0 st n z k in
      rules_both _ _ _ _ (rule_code s r ∷ []) _ _ _ st a (rules_leave rs f.1 few.1 a.next a.slots (a.cases ∙ z) a.rule)

  -- ---- groups, and the actor

  still_or : (p : ℕ) → Still (six 41 p 0 0 0 0)
  still_or p = still_item 41 p 0 0 0 0 (idle_or p 0 0 0 0)

  abbrev Few : Rule → Type 0
  Few r = vals_in r.body ≤ 16

  groups_leave : (gs : List Group) → Every (FormedGroup ms) gs → Every (λ g. Every Few g.rules) gs → (st : State) → length st.slots ≡ 16 → st.cases ≡ 0 → st.rule ≡ length st.code
      → Rules (each (λ g. each (λ r. each (statement_sizes s) r.body) g.rules) gs) (each (settled_group s) gs) (each (λ g. each (λ r. rule_code s r ∷ []) g.rules) gs) (Every (λ g. Every (λ r. FineBody r.body) g.rules) gs) st
  unfolding each settled_group
  groups_leave [] f few st n z k = rules_still [] (λ st. ends_none st) st n k
  groups_leave (g ∷ gs) f few st n z k =
      let o = rules_still (six 41 g.at 0 0 0 0) (still_or g.at) st n k in
      let a = rules_leave g.rules f.0.1 few.0 o.next o.slots (o.cases ∙ z) o.rule in
      let b = rules_both [] _ _ _ [] _ _ _ st o a in
      let w = rules_both _ _ _ _ _ _ _ _ st b (groups_leave gs f.1 few.1 b.next b.slots (b.cases ∙ z) b.rule) in
      record { next = w.next; goes = w.goes; first = w.first; slots = w.slots; cases = w.cases; rule = w.rule; code = λ y. w.code ((tt, y.0), y.1); lengths = λ y. w.lengths ((tt, y.0), y.1) }

  still_signed : (n : Name) → Still (settled_signed s n)
  unfolding settled_signed
  still_signed n = go (Rattle.language.specs.Text.among (Rattle.language.specs.Names.input_names s.actor.ports) n.spelled)
    where
      go : (b : Bool) → Still (elim b [ true ↦ six 46 n.at (port_width s.actor s.widths n.spelled) 0 0 0 | false ↦ six 46 n.at (port_width s.actor s.widths n.spelled + 256) 0 0 0 ])
      go true = still_item 46 n.at (port_width s.actor s.widths n.spelled) 0 0 0 (idle_signed n.at _ 0 0 0)
      go false = still_item 46 n.at (port_width s.actor s.widths n.spelled + 256) 0 0 0 (idle_signed n.at _ 0 0 0)

  still_memory : (m : Memory) → Still (settled_memory s m)
  unfolding settled_memory
  still_memory m = still_item 44 _ _ _ 0 0 (idle_memory _ _ _ 0 0)

  pub actor_leaves : Every (FormedGroup ms) s.actor.groups → Every (λ g. Every Few g.rules) s.actor.groups
      → Rules (each (λ g. each (λ r. each (statement_sizes s) r.body) g.rules) s.actor.groups) (settled_of s) (each (λ g. each (λ r. rule_code s r ∷ []) g.rules) s.actor.groups) (Every (λ g. Every (λ r. FineBody r.body) g.rules) s.actor.groups) begin
  unfolding settled_of begin
  actor_leaves f few =
      let a = rules_still (each (settled_signed s) s.actor.signature) (still_each (settled_signed s) still_signed s.actor.signature) begin (length-replicate {A = ℕ} 16 0) refl in
      let b = rules_still (each (settled_memory s) s.actor.memories) (still_each (settled_memory s) still_memory s.actor.memories) a.next a.slots a.rule in
      let c = groups_leave s.actor.groups f few b.next b.slots (b.cases ∙ a.cases) b.rule in
      let d = rules_both [] _ _ _ [] _ _ _ a.next b c in
      let w = rules_both [] _ _ _ [] _ _ _ begin a d in
      record { next = w.next; goes = w.goes; first = w.first; slots = w.slots; cases = w.cases; rule = w.rule; code = λ y. w.code (tt, (tt, y)); lengths = λ y. w.lengths (tt, (tt, y)) }
