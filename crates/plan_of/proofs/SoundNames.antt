-- What a rule reads and assigns is as a plan wants it: memories that are there, inputs that are present, outputs that are free.
use Prim.Native.Nat.{ℕ, zero, suc, ◌+◌, ◌^◌, ◌≤◌, ◌<◌}
use mathlib.Core.Path.{◌≡◌, refl, sym, ap, ◌∙◌, subst}
use mathlib.Core.List.{List, [], ◌∷◌, ◌++◌}
use mathlib.Core.Bool.{Bool, true, false, not, ◌&&◌, ◌||◌, beq, false≢true, true≢false}
use native.Mathlib.Omega.{arith}
use native.Mathlib.Nat.{add_comm}
use lib.ListN.{length, get_or, take}
use lib.Dec.{leb, ltb, eqb}
use borrow.Author.Tests.{eq-eqb, lt-ltb, le-leb, leb-true}
use Rattle.language.specs.Text.{Name, same, among, index}
use Rattle.language.specs.Tree.{Port, Memory, Entry, Expr, Val, Assignment, assign, write, Statement, alone, scoped, Rule, spelled_of, port_names, memory_names}
use Rattle.language.specs.Parts.{each, items, assigned, wholes, numbers, read_names}
use Rattle.language.specs.Parts as Parts
use Rattle.language.specs.Names.{when, input_names, output_names, entry_names, read_faults, assignment_faults, val_faults, statement_faults}
use Rattle.language.specs.Counts.{expr_words, size_of}
use Rattle.language.specs.Widths.{port_width}
use Rattle.language.specs.Values.{bit_of, one_bit}
use Rattle.language.specs.Sizes.{Setting}
use Rattle.language.specs.Meaning.{port_at, cells_of, cells_before}
use Rattle.language.specs.Presence.{present_names}
use Rattle.plan.specs.Layout as Layout
use Rattle.plan.specs.Sound.{input_ok, memory_ok}
use Rattle.placed.specs.Placed.{Every}
use Rattle.placed.proofs.Every.{append_nils, every_nil, every_append, every_each}
use Rattle.plan_of.specs.PlanOf.{memory_at, mask_of, plan_of}
use Rattle.plan_of.specs.Formed.{FormedStatement, FormedAssignment}
use Rattle.placed.proofs.Names.{when_not, or_right, same_refl, same_eq, among_of, among_append, among_here, every_among, index_at, Distinct, missing_none}
use Rattle.plan_of.proofs.Masks.{bit_other, listed, Known, mask_bits_law, port_same, port_below}
use Rattle.plan_of.proofs.Sections.{no_memory, cells_in, port_count_law, memory_count_law, memory_width_law, memory_size, cells_before_law}
use Rattle.plan_of.proofs.Fits.{input_number, output_number}
use Rattle.plan_of.proofs.Outputs.{Once, once_not, AllKnown}
use Rattle.plan_of.proofs.Facts.{input_ports, output_ports}
use Rattle.plan_of.proofs.Checks.{Readable, Celled}
use Rattle.plan_of.proofs.SoundRules.{mask_after, ReadsOk, More, MoreAssignment, MoreVals, MoreStatement, Writable, Assignable}

-- ## Memories

-- what the text says of a memory by its name, and the plan by its number
pub memory_at_law : (l : List Memory) (n : List ℕ) → among (spelled_of (memory_names l)) n ≡ true
    → (index (spelled_of (memory_names l)) n < length l) × (cells_before l n ≡ cells_in (take (index (spelled_of (memory_names l)) n) l)) × (cells_of l n ≡ size_of (get_or l (index (spelled_of (memory_names l)) n) no_memory))
    × ((get_or l (index (spelled_of (memory_names l)) n) no_memory).called.spelled ≡ n)
unfolding memory_names spelled_of among index cells_before cells_of cells_in
memory_at_law [] n h = absurd (false≢true h)
memory_at_law (x ∷ l) n h = go (same x.called.spelled n) refl h (λ k. memory_at_law l n k)
  where
    i : ℕ
    i = index (spelled_of (memory_names l)) n

    go : (b : Bool) → same x.called.spelled n ≡ b → (elim b [ true ↦ true | false ↦ among (spelled_of (memory_names l)) n ]) ≡ true
        → (among (spelled_of (memory_names l)) n ≡ true → (i < length l) × (cells_before l n ≡ cells_in (take i l)) × (cells_of l n ≡ size_of (get_or l i no_memory)) × ((get_or l i no_memory).called.spelled ≡ n))
        → ((elim b [ true ↦ zero | false ↦ suc i ]) < suc (length l)) × ((elim b [ true ↦ 0 | false ↦ size_of x + cells_before l n ]) ≡ cells_in (take (elim b [ true ↦ zero | false ↦ suc i ]) (x ∷ l)))
        × ((elim b [ true ↦ size_of x | false ↦ cells_of l n ]) ≡ size_of (get_or (x ∷ l) (elim b [ true ↦ zero | false ↦ suc i ]) no_memory))
        × ((get_or (x ∷ l) (elim b [ true ↦ zero | false ↦ suc i ]) no_memory).called.spelled ≡ n)
    go true e h r = (omega arith, refl, refl, same_eq _ _ e)
    go false e h r = let q = r h in let j = q.0 in (omega arith, ap (λ (k : ℕ). size_of x + k) q.1, q.2, q.3)

pub memory_names_long : (l : List Memory) → length (memory_names l) ≡ length l
unfolding memory_names
memory_names_long [] = refl
memory_names_long (x ∷ l) = ap suc (memory_names_long l)

pub memory_there : (s : Setting) (present taken m : ℕ) (ms : List (List ℕ)) (n : List ℕ) → among (spelled_of (memory_names s.actor.memories)) n ≡ true → Celled s present taken m ms n
unfolding memory_at memory_ok
memory_there s present taken m ms n h =
    let q = memory_at_law s.actor.memories n h in
    let i = index (spelled_of (memory_names s.actor.memories)) n in
    let j = q.0 in
    let a : ltb i (Layout.memory_count (plan_of s)) ≡ true = rw (memory_count_law s) (lt-ltb _ _ j) in
    let b : eqb (cells_before s.actor.memories n) (Layout.cells_before (plan_of s) i) ≡ true = rw (cells_before_law s i (omega arith)) (eq-eqb _ _ q.1) in
    let c : eqb (cells_of s.actor.memories n) (Layout.memory_size_at (plan_of s) i) ≡ true = rw (memory_size s i j) (eq-eqb _ _ q.2) in
    (rw (memory_ok, a, b, c), memory_width_law s i j ∙ rw q.3)

-- ## Inputs and outputs

-- a port that a list names as present
present_listed : (s : Setting) (es : List Entry) (n : List ℕ) → among (each (λ e. elim e.present as (λ _. List (List ℕ)) [ true ↦ e.called.spelled ∷ [] | false ↦ [] ]) es) n ≡ true → listed s true es (port_at s n) ≡ true
unfolding each listed among
present_listed s [] n h = h
present_listed s (e ∷ es) n h = go e.present h (λ k. present_listed s es n k)
  where
    rest : List (List ℕ)
    rest = each (λ e. elim e.present as (λ _. List (List ℕ)) [ true ↦ e.called.spelled ∷ [] | false ↦ [] ]) es

    here : (b : Bool) → same e.called.spelled n ≡ b → (elim b [ true ↦ true | false ↦ among rest n ]) ≡ true → (among rest n ≡ true → listed s true es (port_at s n) ≡ true)
        → (eqb (port_at s e.called.spelled) (port_at s n) || listed s true es (port_at s n)) ≡ true
    here true q h r = rw (eq-eqb (port_at s e.called.spelled) (port_at s n) (ap (port_at s) (same_eq _ _ q)))
    here false q h r = or_right (eqb (port_at s e.called.spelled) (port_at s n)) (listed s true es (port_at s n)) (r h)

    go : (b : Bool) → among ((elim b as (λ _. List (List ℕ)) [ true ↦ e.called.spelled ∷ [] | false ↦ [] ]) ++ rest) n ≡ true → (among rest n ≡ true → listed s true es (port_at s n) ≡ true)
        → ((beq b true && eqb (port_at s e.called.spelled) (port_at s n)) || listed s true es (port_at s n)) ≡ true
    go true h r = here (same e.called.spelled n) refl h r
    go false h r = r h

pub present_bit : (s : Setting) (r : Rule) (n : List ℕ) → Distinct [] (entry_names r.list) → Known s r.list → among (present_names r) n ≡ true → bit_of (mask_of s true r.list) (port_at s n) ≡ 1
unfolding present_names one_bit
present_bit s r n d k h = mask_bits_law s true [] r.list (port_at s n) d k ∙ ap one_bit (present_listed s r.list n h)

-- no port is both
apart_ports : (seen : List (List ℕ)) (ps : List Port) (n : List ℕ) → Once seen (spelled_of (port_names ps)) → among (output_names ps) n ≡ true → among (input_names ps) n ≡ false
unfolding port_names spelled_of input_names output_names each among
apart_ports seen [] n o h = absurd (false≢true h)
apart_ports seen (p ∷ ps) n o h = go p.input h (λ k. apart_ports (p.called.spelled ∷ seen) ps n o.1 k)
  where
    twice_not : among (spelled_of (port_names ps)) n ≡ true → p.called.spelled ≡ n → ⊥
    twice_not a e = true≢false (sym a ∙ once_not (p.called.spelled ∷ seen) (spelled_of (port_names ps)) n o.1 (subst (λ (m : List ℕ). among (p.called.spelled ∷ seen) m ≡ true) e (among_here seen p.called.spelled)))

    none : (b : Bool) → among (input_names ps) n ≡ b → p.called.spelled ≡ n → b ≡ false
    none true e q = absurd (twice_not (every_among _ (input_names ps) n (input_ports ps) e) q)
    none false e q = refl

    input : (b : Bool) → same p.called.spelled n ≡ b → among (output_names ps) n ≡ true → among (input_names ps) n ≡ false → (elim b [ true ↦ true | false ↦ among (input_names ps) n ]) ≡ false
    input true q h r = absurd (twice_not (every_among _ (output_names ps) n (output_ports ps) h) (same_eq _ _ q))
    input false q h r = r

    output : (b : Bool) → same p.called.spelled n ≡ b → (elim b [ true ↦ true | false ↦ among (output_names ps) n ]) ≡ true → (among (output_names ps) n ≡ true → among (input_names ps) n ≡ false) → among (input_names ps) n ≡ false
    output true q h r = none (among (input_names ps) n) refl (same_eq _ _ q)
    output false q h r = r h

    go : (b : Bool) → among ((elim b as (λ _. List (List ℕ)) [ true ↦ [] | false ↦ p.called.spelled ∷ [] ]) ++ output_names ps) n ≡ true → (among (output_names ps) n ≡ true → among (input_names ps) n ≡ false)
        → among ((elim b as (λ _. List (List ℕ)) [ true ↦ p.called.spelled ∷ [] | false ↦ [] ]) ++ input_names ps) n ≡ false
    go true h r = input (same p.called.spelled n) refl h (r h)
    go false h r = output (same p.called.spelled n) refl h r

module _ (s : Setting) (r : Rule) (taken m : ℕ) (ms : List (List ℕ)) (known : (n : List ℕ) → among (spelled_of (port_names s.actor.ports)) n ≡ true → among (spelled_of s.actor.signature) n ≡ true)
    (small : (n : List ℕ) → port_width s.actor s.widths n ≤ 32) (d : Distinct [] (entry_names r.list)) (k : Known s r.list) where
  pub readable : (n : List ℕ) → among (input_names s.actor.ports) n ≡ true → among (present_names r) n ≡ true → Readable s (mask_of s true r.list) taken m ms n
  unfolding input_ok port_at
  readable n h p =
      let a = known n (every_among _ (input_names s.actor.ports) n (input_ports s.actor.ports) h) in
      let b = port_below s n a in
      let e = index_at (spelled_of s.actor.signature) n a in
      let w : Layout.port_at (plan_of s) (port_at s n) ≡ port_width s.actor s.widths n = input_number s (port_at s n) b (rw e h) ∙ rw e in
      let x : ltb (port_at s n) (Layout.port_count (plan_of s)) ≡ true = rw (port_count_law s) (lt-ltb _ _ b) in
      let y : leb (Layout.port_at (plan_of s) (port_at s n)) 32 ≡ true = rw w (le-leb (port_width s.actor s.widths n) 32 (small n)) in
      let z : eqb (bit_of (mask_of s true r.list) (port_at s n)) 1 ≡ true = eq-eqb _ _ (present_bit s r n d k p) in
      (rw (input_ok, x, y, z), w)

  pub writable : (n : List ℕ) → Once [] (spelled_of (port_names s.actor.ports)) → among (output_names s.actor.ports) n ≡ true → among (present_names r) n ≡ true → bit_of taken (port_at s n) ≡ 0 → Writable s (mask_of s true r.list) taken ms n
  unfolding port_at
  writable n o h p f =
      let a = known n (every_among _ (output_names s.actor.ports) n (output_ports s.actor.ports) h) in
      let b = port_below s n a in
      let e = index_at (spelled_of s.actor.signature) n a in
      record {
        there = rw (port_count_law s) b;
        output = output_number s (port_at s n) b (rw e (apart_ports [] s.actor.ports n o h)) ∙ rw e;
        bound = present_bit s r n d k p;
        free = f;
      }

-- ## Outputs as a mask

module _ (s : Setting) (present taken : ℕ) (ms : List (List ℕ)) where
  -- a port that was not among the names seen has no bit
  abbrev pub Free : List (List ℕ) → ℕ → Type 0
  Free seen m = (n : List ℕ) → among (spelled_of s.actor.signature) n ≡ true → among seen n ≡ false → bit_of m (port_at s n) ≡ 0

  bit_next : (m : ℕ) (a n : List ℕ) → among (spelled_of s.actor.signature) a ≡ true → among (spelled_of s.actor.signature) n ≡ true → same a n ≡ false → bit_of m (port_at s a) ≡ 0 → bit_of m (port_at s n) ≡ 0 → bit_of (m + 2 ^ port_at s a) (port_at s n) ≡ 0
  bit_next m a n h k e z y =
      rw (add_comm m (2 ^ port_at s a))
      (bit_other (port_at s a) (port_at s n) m (λ q. true≢false (sym (same_refl n) ∙ ap (λ (x : List ℕ). same x n) (sym (port_same s a n h k q)) ∙ e)) z ∙ y)

  pub assignable : (seen : List (List ℕ)) (m : ℕ) (ns : List Name) → Free seen m → Distinct seen ns → AllKnown s (spelled_of ns) → Every (λ n. Writable s present taken ms n.spelled) ns → Assignable s present taken ms m ns
  unfolding spelled_of
  assignable seen m [] f d k w = tt
  assignable seen m (n ∷ ns) f d k w =
      let z = f n.spelled k.0 d.0 in (
        z,
        w.0,
        assignable (n.spelled ∷ seen) (m + 2 ^ port_at s n.spelled) ns
            (λ a h e. let q = among_of seen n.spelled a e in bit_next m n.spelled a k.0 h q.0 z (f a h q.1)) d.1 k.1 w.1,
      )

  pub mask_free : (m : ℕ) (ns : List Name) (a : List ℕ) → Assignable s present taken ms m ns → AllKnown s (spelled_of ns) → among (spelled_of s.actor.signature) a ≡ true → among (spelled_of ns) a ≡ false → bit_of m (port_at s a) ≡ 0 → bit_of (mask_after s m ns) (port_at s a) ≡ 0
  unfolding spelled_of mask_after
  mask_free m [] a x k h e z = z
  mask_free m (n ∷ ns) a x k h e z =
      let q = among_of (spelled_of ns) n.spelled a e in
      mask_free (m + 2 ^ port_at s n.spelled) ns a x.2 k.1 h q.1 (bit_next m n.spelled a k.0 h q.0 x.0 z)

-- ## What the expressions of a rule read

abbrev pub NumberOk : Parts.Item → Type 0
NumberOk (Parts.Item.type x) = Unit {0}
NumberOk (Parts.Item.number n) = n.value ≤ 64
NumberOk (Parts.reads n) = Unit {0}
NumberOk (Parts.Item.value n) = Unit {0}

pub numbers_ok : (l : List Parts.Item) → Every (λ n. when (not (leb n.value 64)) n.at ≡ []) (numbers l) → Every NumberOk l
unfolding numbers
numbers_ok [] h = tt
numbers_ok (Parts.Item.type x ∷ l) h = (tt, numbers_ok l h)
numbers_ok (Parts.Item.number n ∷ l) h = (leb-true _ _ (when_not _ _ h.0), numbers_ok l h.1)
numbers_ok (Parts.reads n ∷ l) h = (tt, numbers_ok l h)
numbers_ok (Parts.Item.value n ∷ l) h = (tt, numbers_ok l h)

-- an input that is read is among those that are present
abbrev pub Present : Setting → List (List ℕ) → Name → Type 0
Present s here n = among (input_names s.actor.ports) n.spelled ≡ true → among here n.spelled ≡ true

-- what is known of a whole expression
abbrev pub Sure : Setting → List (List ℕ) → Expr → Type 0
Sure s here e = (expr_words e ≤ 256) × Every NumberOk (items e) × Every (Present s here) (read_names (items e))

module _ (s : Setting) (present taken : ℕ) (ms : List (List ℕ)) (here : List (List ℕ)) (readable : (n : List ℕ) → among (input_names s.actor.ports) n ≡ true → among here n ≡ true → Readable s present taken 0 ms n) where
  reads_ok : (names : List (List ℕ)) (l : List Parts.Item) → Every NumberOk l → Every (Present s here) (read_names l) → Every (λ n. among (input_names s.actor.ports ++ names) n.spelled ≡ true) (read_names l) → Every (ReadsOk s present taken ms names) l
  unfolding read_names
  reads_ok names [] u p q = tt
  reads_ok names (Parts.Item.type x ∷ l) u p q = (tt, reads_ok names l u.1 p q)
  reads_ok names (Parts.Item.number n ∷ l) u p q = (u.0, reads_ok names l u.1 p q)
  reads_ok names (Parts.reads n ∷ l) u p q = ((λ e. let i = input e in readable n.spelled i (p.0 i)), reads_ok names l u.1 p.1 q.1)
    where
      or_left : (a b : Bool) → b ≡ false → (a || b) ≡ true → a ≡ true
      or_left true b h k = refl
      or_left false b h k = absurd (false≢true (sym h ∙ k))

      input : among names n.spelled ≡ false → among (input_names s.actor.ports) n.spelled ≡ true
      input e = or_left (among (input_names s.actor.ports) n.spelled) (among names n.spelled) e (sym (among_append (input_names s.actor.ports) names n.spelled) ∙ q.0)
  reads_ok names (Parts.Item.value n ∷ l) u p q = (tt, reads_ok names l u.1 p q)

  more : (names : List (List ℕ)) (e : Expr) → Sure s here e → read_faults s.actor names e ≡ [] → More s present taken ms names e
  unfolding read_faults
  more names e x h = (x.0, reads_ok names (items e) x.1 x.2 (missing_none _ _ h))

  more_assigned : (names : List (List ℕ)) (x : Assignment) → FormedAssignment ms x → Every (Sure s here) (assigned x) → assignment_faults s.actor names x ≡ [] → MoreAssignment s present taken ms names x
  unfolding assigned assignment_faults
  more_assigned names (assign n e) f u h = more names e u.0 (append_nils (when (not (among (output_names s.actor.ports) n.spelled)) n.at) _ h).1
  more_assigned names (write n a e) f u h = let q = append_nils (read_faults s.actor names a) _ h in (f.0, more names a u.0 q.0, more names e u.1.0 q.1)

  more_vals : (names : List (List ℕ)) (vs : List Val) → Every (Sure s here) (each (λ v. v.value ∷ []) vs) → val_faults s.actor names vs ≡ [] → MoreVals s present taken ms names vs
  unfolding each val_faults
  more_vals names [] u h = tt
  more_vals names (v ∷ vs) u h =
      let q = append_nils (when (among (names ++ (Rattle.language.specs.Names.ports s.actor ++ Rattle.language.specs.Names.memories s.actor)) v.called.spelled) v.called.at) _ h in
      let p = append_nils (read_faults s.actor names v.value) _ q.1 in
      (more names v.value u.0 p.0, more_vals (v.called.spelled ∷ names) vs u.1 p.1)

  pub more_statement : (x : Statement) → FormedStatement ms x → Every (Sure s here) (wholes x) → statement_faults s.actor x ≡ [] → MoreStatement s present taken ms x
  unfolding wholes statement_faults
  more_statement (alone x) f u h = more_assigned [] x f u h
  more_statement (scoped vs l) f u h =
      let q = append_nils (val_faults s.actor [] vs) _ h in
      let p = every_append (Sure s here) (each (λ v. v.value ∷ []) vs) (each assigned l) u in
      (more_vals [] vs p.0 q.0, go l f.1 (every_each (Sure s here) assigned l p.1) (every_nil _ l q.1))
    where
      names : List (List ℕ)
      names = each (λ v. v.called.spelled ∷ []) vs

      go : (l : List Assignment) → Every (FormedAssignment ms) l → Every (λ x. Every (Sure s here) (assigned x)) l → Every (λ x. assignment_faults s.actor names x ≡ []) l → Every (MoreAssignment s present taken ms names) l
      go [] f u h = tt
      go (x ∷ l) f u h = (more_assigned names x f.0 u.0 h.0, go l f.1 u.1 h.1)
