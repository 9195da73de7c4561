-- Outputs: no output is assigned by two of the rules that fire, so the slots hold what the text assigns.
use Prim.Native.Nat.{ℕ, zero, suc, ◌<◌}
use mathlib.Core.Path.{◌≡◌, refl, sym, ap, ap₂, ◌∙◌, subst}
use mathlib.Core.List.{List, [], ◌∷◌, ◌++◌}
use mathlib.Core.Bool.{Bool, true, false, ◌||◌, false≢true, true≢false}
use native.Mathlib.Omega.{arith}
use lib.ListN.{length, get_or, set, length-set, replicate, length-replicate, get_or-replicate}
use lib.Seq.{get_or-set_same, get_or-set_other, ext_get_or}
use Rattle.language.specs.Text.{Name, same, among}
use Rattle.language.specs.Tree.{Assignment, assign, write, Statement, alone, scoped, Rule, Group, spelled_of}
use Rattle.language.specs.Parts.{each}
use Rattle.language.specs.Presence.{output_of, outputs_of, assigned_in}
use Rattle.language.specs.Sizes.{Setting, Let}
use Rattle.language.specs.Meaning.{Bits, Given, Change, port_at, agrees, matching, firing, fired, unfired, Fired, assigns_of, in_statement, in_rules, assigned_to, lets_of}
use Rattle.placed.specs.Placed.{Every}
use Rattle.plan_of.proofs.Effects.{or_both}
use Rattle.placed.proofs.Names.{same_refl, same_eq, among_of, among_append, among_here, among_there, Distinct, length_spelled, index_distinct}
use Rattle.plan_of.proofs.Masks.{port_same}
use Rattle.plan_of.proofs.Rules.{puts}

-- ## Names that are assigned once

abbrev pub Once : List (List ℕ) → List (List ℕ) → Type 0
Once seen [] = Unit {0}
Once seen (n ∷ ns) = (among seen n ≡ false) × Once (n ∷ seen) ns

pub distinct_once : (seen : List (List ℕ)) (ns : List Name) → Distinct seen ns → Once seen (spelled_of ns)
unfolding spelled_of
distinct_once seen [] d = tt
distinct_once seen (n ∷ ns) d = (d.0, distinct_once (n.spelled ∷ seen) ns d.1)

-- whatever is not among the one list is not among the other
abbrev pub Wider : List (List ℕ) → List (List ℕ) → Type 0
Wider more seen = (n : List ℕ) → among more n ≡ false → among seen n ≡ false

wider_cons : (a : List ℕ) (more seen : List (List ℕ)) → Wider more seen → Wider (a ∷ more) (a ∷ seen)
unfolding among
wider_cons a more seen w n h = go (same a n) (w n) h
  where
    go : (t : Bool) → (among more n ≡ false → among seen n ≡ false) → (elim t [ true ↦ true | false ↦ among more n ]) ≡ false → (elim t [ true ↦ true | false ↦ among seen n ]) ≡ false
    go true f h = h
    go false f h = f h

once_less : (more seen ns : List (List ℕ)) → Wider more seen → Once more ns → Once seen ns
once_less more seen [] w o = tt
once_less more seen (n ∷ ns) w o = (w n o.0, once_less (n ∷ more) (n ∷ seen) ns (wider_cons n more seen w) o.1)

seen_after : List (List ℕ) → List (List ℕ) → List (List ℕ)
seen_after seen [] = seen
seen_after seen (n ∷ ns) = seen_after (n ∷ seen) ns

once_append : (seen l m : List (List ℕ)) → Once seen l → Once (seen_after seen l) m → Once seen (l ++ m)
unfolding seen_after
once_append seen [] m o p = p
once_append seen (n ∷ l) m o p = (o.0, once_append (n ∷ seen) l m o.1 p)

or_false_false : (a b : Bool) → a ≡ false → b ≡ false → (a || b) ≡ false
or_false_false a b h k = rw (h, k)

pub cons_false : (a : List ℕ) (l : List (List ℕ)) (n : List ℕ) → same a n ≡ false → among l n ≡ false → among (a ∷ l) n ≡ false
unfolding among
cons_false a l n h k = rw (among, h, k)

seen_wider : (seen l : List (List ℕ)) (n : List ℕ) → among l n ≡ false → among seen n ≡ false → among (seen_after seen l) n ≡ false
unfolding seen_after
seen_wider seen [] n h k = k
seen_wider seen (a ∷ l) n h k = let q = among_of l a n h in seen_wider (a ∷ seen) l n q.1 (cons_false a seen n q.0 k)

once_fresh : (seen a l : List (List ℕ)) → Once seen l → Every (λ n. among a n ≡ false) l → Once (seen ++ a) l
once_fresh seen a [] o e = tt
once_fresh seen a (n ∷ l) o e = (among_append seen a n ∙ or_false_false _ _ o.0 e.0, once_fresh (n ∷ seen) a l o.1 e.1)

-- a name seen does not come
pub once_not : (seen l : List (List ℕ)) (n : List ℕ) → Once seen l → among seen n ≡ true → among l n ≡ false
unfolding among
once_not seen [] n o h = refl
once_not seen (a ∷ l) n o h = go (same a n) refl (once_not (a ∷ seen) l n o.1 (among_there seen a n h))
  where
    go : (t : Bool) → same a n ≡ t → among l n ≡ false → (elim t [ true ↦ true | false ↦ among l n ]) ≡ false
    go true q r = absurd (false≢true (sym o.0 ∙ ap (among seen) (same_eq a n q) ∙ h))
    go false q r = r

-- ## The rules that fire, one of each group

pub spelled_append : (l m : List Name) → spelled_of (l ++ m) ≡ spelled_of l ++ spelled_of m
unfolding spelled_of
spelled_append [] m = refl
spelled_append (n ∷ l) m = ap (λ (r : List (List ℕ)). n.spelled ∷ r) (spelled_append l m)

-- what a rule of a group is known by: its own outputs come once, none was seen, and all are among those that the group has
abbrev pub Apart : List (List ℕ) → List (List ℕ) → Rule → Type 0
Apart seen group r = Once [] (spelled_of (assigned_in r)) × Every (λ n. among seen n ≡ false) (spelled_of (assigned_in r)) × Wider group (spelled_of (assigned_in r))

every_matching : (s : Setting) (mask : ℕ) (P : Rule → Type 0) (rs : List Rule) → Every P rs → Every P (matching s mask rs)
unfolding matching each
every_matching s mask P [] e = tt
every_matching s mask P (r ∷ rs) e = go (agrees s mask r.list) (every_matching s mask P rs e.1)
  where
    go : (b : Bool) → Every P (matching s mask rs) → Every P ((elim b as (λ _. List Rule) [ true ↦ r ∷ [] | false ↦ [] ]) ++ matching s mask rs)
    go true f = (e.0, f)
    go false f = f

-- what holds of every rule holds of those that fire
abbrev pub FiredAll : (Rule → Type 0) → Fired → Type 0
FiredAll P (fired rs) = Every P rs
FiredAll P (unfired n) = Unit {0}

pub every_fired : (s : Setting) (mask : ℕ) (P : Rule → Type 0) (gs : List Group) → Every (λ g. Every P g.rules) gs → FiredAll P (firing s mask gs)
unfolding firing
every_fired s mask P [] e = tt
every_fired s mask P (g ∷ gs) e = go (matching s mask g.rules) (firing s mask gs) (every_matching s mask P g.rules e.0) (every_fired s mask P gs e.1)
  where
    join : (r : Rule) (f : Fired) → P r → FiredAll P f → FiredAll P (elim f [ fired l ↦ fired (r ∷ l) | unfired n ↦ unfired n ])
    join r (fired rs) p q = (p, q)
    join r (unfired n) p q = tt

    go : (rs : List Rule) (f : Fired) → Every P rs → FiredAll P f → FiredAll P (elim rs [ [] ↦ unfired 23 | r ∷ [] ↦ elim f [ fired l ↦ fired (r ∷ l) | unfired n ↦ unfired n ] | r ∷ q ∷ l ↦ unfired 24 ])
    go [] f e q = tt
    go (r ∷ []) f e q = join r f e.0 q
    go (r ∷ t ∷ l) f e q = tt

-- the groups' outputs are apart
abbrev pub GroupsApart : List (List ℕ) → List Group → Type 0
GroupsApart seen [] = Unit {0}
GroupsApart seen (g ∷ gs) = Every (Apart seen (spelled_of (each assigned_in g.rules))) g.rules × GroupsApart (spelled_of (each assigned_in g.rules) ++ seen) gs

abbrev pub FiredOnce : List (List ℕ) → Fired → Type 0
FiredOnce seen (fired rs) = Once seen (spelled_of (each assigned_in rs))
FiredOnce seen (unfired n) = Unit {0}

pub fired_once : (s : Setting) (mask : ℕ) (seen : List (List ℕ)) (gs : List Group) → GroupsApart seen gs → FiredOnce seen (firing s mask gs)
unfolding firing each spelled_of
fired_once s mask seen [] a = tt
fired_once s mask seen (g ∷ gs) a =
    go (matching s mask g.rules) (firing s mask gs) (every_matching s mask (Apart seen group) g.rules a.0) (fired_once s mask (group ++ seen) gs a.1)
  where
    group : List (List ℕ)
    group = spelled_of (each assigned_in g.rules)

    after : (r : Rule) → Apart seen group r → Wider (group ++ seen) (seen_after seen (spelled_of (assigned_in r)))
    after r p n h = let q = or_both (among group n) (among seen n) (sym (among_append group seen n) ∙ h) in seen_wider seen (spelled_of (assigned_in r)) n (p.2 n q.0) q.1

    join : (r : Rule) (f : Fired) → Apart seen group r → FiredOnce (group ++ seen) f → FiredOnce seen (elim f [ fired l ↦ fired (r ∷ l) | unfired n ↦ unfired n ])
    join r (fired rs) p q =
        rw (spelled_append (assigned_in r) (each assigned_in rs))
        (once_append seen (spelled_of (assigned_in r)) (spelled_of (each assigned_in rs)) (once_fresh [] seen (spelled_of (assigned_in r)) p.0 p.1) (once_less (group ++ seen) _ (spelled_of (each assigned_in rs)) (after r p) q))
    join r (unfired n) p q = tt

    go : (rs : List Rule) (f : Fired) → Every (Apart seen group) rs → FiredOnce (group ++ seen) f
        → FiredOnce seen (elim rs [ [] ↦ unfired 23 | r ∷ [] ↦ elim f [ fired l ↦ fired (r ∷ l) | unfired n ↦ unfired n ] | r ∷ q ∷ l ↦ unfired 24 ])
    go [] f e q = tt
    go (r ∷ []) f e q = join r f e.0 q
    go (r ∷ t ∷ l) f e q = tt

-- ## The outputs that are set

unfoldable pub targets_of : List (Change (List ℕ)) → List (List ℕ)
targets_of [] = []
targets_of (c ∷ l) = c.target ∷ targets_of l

targets_append : (l m : List (Change (List ℕ))) → targets_of (l ++ m) ≡ targets_of l ++ targets_of m
unfolding targets_of
targets_append [] m = refl
targets_append (c ∷ l) m = ap (λ (r : List (List ℕ)). c.target ∷ r) (targets_append l m)

module _ (s : Setting) (g : Given) where
  assign_targets : (lets : List (Let Bits)) (x : Assignment) → targets_of (assigns_of s g lets x) ≡ spelled_of (output_of x)
  unfolding targets_of assigns_of output_of spelled_of
  assign_targets lets (assign n e) = refl
  assign_targets lets (write n a e) = refl

  targets_each : {A : Type 0} (f : A → List (Change (List ℕ))) (h : A → List Name) → ((x : A) → targets_of (f x) ≡ spelled_of (h x)) → (l : List A) → targets_of (each f l) ≡ spelled_of (each h l)
  unfolding each targets_of spelled_of
  targets_each f h e [] = refl
  targets_each f h e (x ∷ l) = targets_append (f x) (each f l) ∙ ap₂ ◌++◌ (e x) (targets_each f h e l) ∙ sym (spelled_append (h x) (each h l))

  statement_targets : (x : Statement) → targets_of (in_statement s g (assigns_of s g) x) ≡ spelled_of (outputs_of x)
  unfolding in_statement outputs_of
  statement_targets (alone x) = assign_targets [] x
  statement_targets (scoped vs l) = targets_each (assigns_of s g (lets_of s g [] vs)) output_of (assign_targets (lets_of s g [] vs)) l

  pub rules_targets : (rs : List Rule) → targets_of (in_rules s g (assigns_of s g) rs) ≡ spelled_of (each assigned_in rs)
  unfolding in_rules assigned_in
  rules_targets rs = targets_each (λ r. each (in_statement s g (assigns_of s g)) r.body) (λ r. each outputs_of r.body) (λ r. targets_each (in_statement s g (assigns_of s g)) outputs_of statement_targets r.body) rs

module _ (s : Setting) where
  abbrev sig : List (List ℕ)
  sig = spelled_of s.actor.signature

  abbrev pub AllKnown : List (List ℕ) → Type 0
  AllKnown ns = Every (λ n. among sig n ≡ true) ns

  put_none : (cs : List (Change (List ℕ))) (n os : List ℕ) → AllKnown (targets_of cs) → among sig n ≡ true → among (targets_of cs) n ≡ false → get_or (puts s cs os) (port_at s n) 0 ≡ get_or os (port_at s n) 0
  unfolding targets_of puts
  put_none [] n os k h a = refl
  put_none (c ∷ cs) n os k h a =
      let q = among_of (targets_of cs) c.target n a in
      put_none cs n (set os (port_at s c.target) c.to) k.1 h q.1
      ∙ get_or-set_other os (port_at s c.target) (port_at s n) c.to 0 (λ e. true≢false (sym (same_refl n) ∙ ap (λ (m : List ℕ). same m n) (port_same s n c.target h k.0 e) ∙ q.0))

  put_some : (seen : List (List ℕ)) (cs : List (Change (List ℕ))) (n os : List ℕ) → AllKnown (targets_of cs) → Once seen (targets_of cs) → among sig n ≡ true → port_at s n < length os → get_or os (port_at s n) 0 ≡ 0
      → get_or (puts s cs os) (port_at s n) 0 ≡ assigned_to cs n
  unfolding targets_of puts assigned_to
  put_some seen [] n os k o h l z = z
  put_some seen (c ∷ cs) n os k o h l z =
      go (same c.target n) refl (λ z. put_some (c.target ∷ seen) cs n (set os (port_at s c.target) c.to) k.1 o.1 h (rw length-set l) z)
    where
      new : List ℕ
      new = set os (port_at s c.target) c.to

      go : (t : Bool) → same c.target n ≡ t → (get_or new (port_at s n) 0 ≡ 0 → get_or (puts s cs new) (port_at s n) 0 ≡ assigned_to cs n) → get_or (puts s cs new) (port_at s n) 0 ≡ (elim t [ true ↦ c.to | false ↦ assigned_to cs n ])
      go true q r =
          let e = same_eq c.target n q in
          put_none cs n new k.1 h (once_not (c.target ∷ seen) (targets_of cs) n o.1 (subst (λ (m : List ℕ). among (c.target ∷ seen) m ≡ true) e (among_here seen c.target)))
          ∙ rw e (get_or-set_same os (port_at s n) c.to 0 l)
      go false q r = r (get_or-set_other os (port_at s c.target) (port_at s n) c.to 0 (λ e. true≢false (sym (same_refl n) ∙ ap (λ (m : List ℕ). same m n) (port_same s n c.target h k.0 e) ∙ q)) ∙ z)

  length_puts : (cs : List (Change (List ℕ))) (os : List ℕ) → length (puts s cs os) ≡ length os
  unfolding puts
  length_puts [] os = refl
  length_puts (c ∷ cs) os = length_puts cs (set os (port_at s c.target) c.to) ∙ length-set os (port_at s c.target) c.to

pub each_one_length : {A B : Type 0} (f : A → B) (l : List A) → length (each (λ x. f x ∷ []) l) ≡ length l
unfolding each
each_one_length f [] = refl
each_one_length f (x ∷ l) = ap suc (each_one_length f l)

each_spelled_at : (f : List ℕ → ℕ) (l : List Name) (i : ℕ) → i < length l → get_or (each (λ n. f n.spelled ∷ []) l) i 0 ≡ f (get_or (spelled_of l) i [])
unfolding each spelled_of
each_spelled_at f [] i h = absurd (omega arith)
each_spelled_at f (n ∷ l) zero h = refl
each_spelled_at f (n ∷ l) (suc i) h = each_spelled_at f l i (omega arith)

pub among_at : (l : List (List ℕ)) (i : ℕ) → i < length l → among l (get_or l i []) ≡ true
among_at [] i h = absurd (omega arith)
among_at (a ∷ l) zero h = among_here l a
among_at (a ∷ l) (suc i) h = among_there l a _ (among_at l i (omega arith))

pub outputs_agree : (s : Setting) (cs : List (Change (List ℕ))) → Distinct [] s.actor.signature → AllKnown s (targets_of cs) → Once [] (targets_of cs)
    → puts s cs (replicate (length s.actor.signature) 0) ≡ each (λ n. assigned_to cs n.spelled ∷ []) s.actor.signature
unfolding port_at
outputs_agree s cs d k o =
    ext_get_or 0 _ _ (lengths ∙ sym (each_one_length (λ n. assigned_to cs n.spelled) s.actor.signature)) (λ i h. at i (rw lengths at h))
  where
    zeros : List ℕ
    zeros = replicate (length s.actor.signature) 0

    lengths : length (puts s cs zeros) ≡ length s.actor.signature
    lengths = length_puts s cs zeros ∙ length-replicate (length s.actor.signature) 0

    at : (i : ℕ) → i < length s.actor.signature → get_or (puts s cs zeros) i 0 ≡ get_or (each (λ n. assigned_to cs n.spelled ∷ []) s.actor.signature) i 0
    at i h =
        let n : List ℕ = get_or (spelled_of s.actor.signature) i [] in
        let e : port_at s n ≡ i = index_distinct [] s.actor.signature i d h in
        let a : among (spelled_of s.actor.signature) n ≡ true = among_at (spelled_of s.actor.signature) i (rw (length_spelled s.actor.signature) h) in
        let z : get_or zeros (port_at s n) 0 ≡ 0 = rw e (get_or-replicate (length s.actor.signature) i 0 0 h) in
        subst (λ (j : ℕ). get_or (puts s cs zeros) j 0 ≡ assigned_to cs n) e (put_some s [] cs n zeros k o a (rw (e, length-replicate {A = ℕ} (length s.actor.signature) 0) h) z)
        ∙ sym (each_spelled_at (assigned_to cs) s.actor.signature i h)
