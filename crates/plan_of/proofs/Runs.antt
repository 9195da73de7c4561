-- One expression: its code leaves its value waiting, and changes no slot below 16 + d.
use Prim.Native.Nat.{ℕ, suc, ◌+◌, ◌*◌, ◌/◌, ◌%◌, ◌^◌, ◌≤◌, ◌<◌, max}
use mathlib.Core.Path.{◌≡◌, refl, ap, ◌∙◌}
use mathlib.Core.List.{List, [], ◌∷◌, ◌++◌}
use mathlib.Core.Bool.{Bool, true, false}
use mathlib.Core.Option.{Option, none, some}
use native.Mathlib.Omega.{arith}
use native.Mathlib.Nat.{le-max_left, le-max_right}
use lib.ListN.{length, get_or, set, length-set}
use lib.Seq.{get_or-set_same, get_or-set_other}
use lib.Dec.{eqb}
use Rattle.language.specs.Tree.{Expr, plain, sized, copies, read, cell, bit, range, inside, joined, beside, unary, binary, choice, either, select, arm, default}
use Rattle.language.specs.Values.{copies_of, chosen}
use Rattle.language.specs.Sizes.{Setting, Extent, Let, let_named, amount_of, extent}
use Rattle.language.specs.Meaning.{Bits, Given, Change, read_value, bits_in, cell_value}
use Rattle.plan.specs.declared.Item.{Item}
use Rattle.plan.specs.declared.Item.TheVariants.{Port, Let as Kept, Copies, Arm, Keep, Choice}
use Rattle.item_steps.specs.Machine.{State, state, exec1, exec_all, cell_of, pick}
use Rattle.plan_of.specs.PlanOf.{Slot, extents, wide_of, constant, read_item, code}
use Rattle.plan_of.specs.Formed.{Kind, whole, parts, arms, IsArms, FormedAt, nest}
use Rattle.plan_of.proofs.Extents.{Paired, Found, paired_map, found, IsWide, width_of_law, one_wide, two_wide, SameWidth, width_agrees, choice_wide}

-- the slots below n are the same
pub record KeptBelow (n : ℕ) (new old : List ℕ) : Type 0 where
  pub long : length new ≡ length old
  pub same : (k : ℕ) → k < n → get_or new k 0 ≡ get_or old k 0

pub kept_refl : (n : ℕ) (ls : List ℕ) → KeptBelow n ls ls
kept_refl n ls = record { long = refl; same = λ k h. refl }

pub kept_trans : {m n : ℕ} {a b c : List ℕ} → m ≤ n → KeptBelow n a b → KeptBelow m b c → KeptBelow m a c
kept_trans h x y = record { long = x.long ∙ y.long; same = λ k j. x.same k (omega arith) ∙ y.same k j }

pub kept_set : (n k v : ℕ) (ls : List ℕ) → n ≤ k → KeptBelow n (set ls k v) ls
kept_set n k v ls h = record { long = length-set ls k v; same = λ j i. get_or-set_other ls k j v 0 (omega arith) }

module _ (values memory : List ℕ) where
  pub exec_append : (xs ys : List Item) (s : State) → exec_all values memory (xs ++ ys) s ≡ exec_all values memory ys (exec_all values memory xs s)
  unfolding exec_all
  exec_append [] ys s = refl
  exec_append (x ∷ xs) ys s = exec_append xs ys (exec1 values memory x s)

  module _ (os : List ℕ) (qs : List (Change ℕ)) where
    -- items that turn the waiting values `vs` into `out`
    pub record Runs (is : List Item) (n : ℕ) (out vs ls : List ℕ) : Type 0 where
      pub after : List ℕ
      pub runs : exec_all values memory is (state vs ls os qs) ≡ state out after os qs
      pub kept : KeptBelow n after ls

    pub and_then : {xs ys : List Item} {n : ℕ} {out mid vs ls : List ℕ} (r : Runs xs n mid vs ls) → Runs ys n out mid r.after → Runs (xs ++ ys) n out vs ls
    and_then {xs} {ys} {n} {out} {mid} {vs} {ls} r q = record {
      after = q.after;
      runs = exec_append xs ys (state vs ls os qs) ∙ ap (exec_all values memory ys) r.runs ∙ q.runs;
      kept = kept_trans (omega arith) q.kept r.kept;
    }

    pub item : {i : Item} {n : ℕ} {out vs ls : List ℕ} → exec1 values memory i (state vs ls os qs) ≡ state out ls os qs → Runs (i ∷ []) n out vs ls
    unfolding exec_all
    item {n = n} {ls = ls} e = record { after = ls; runs = e; kept = kept_refl n ls }

-- ## What the slots hold of the `let`s

abbrev pub Holds : List ℕ → Slot → Bits → Type 0
Holds ls x y = (x.number < 16) × (get_or ls x.number 0 ≡ y.value) × SameWidth x y

pub holds_kept : {new old : List ℕ} (n : ℕ) (lets : List (Let Slot)) (bits : List (Let Bits)) → 16 ≤ n → KeptBelow n new old → Paired (Holds old) lets bits → Paired (Holds new) lets bits
holds_kept {new} {old} n lets bits h k p = paired_map (Holds old) (Holds new) (λ x y q. (q.0, k.same x.number (omega (arith, q.0)) ∙ q.1, q.2)) lets bits p

pub holds_widths : (ls : List ℕ) (lets : List (Let Slot)) (bits : List (Let Bits)) → Paired (Holds ls) lets bits → Paired SameWidth lets bits
holds_widths ls lets bits p = paired_map (Holds ls) SameWidth (λ x y q. q.2) lets bits p

-- an arm finds in its slot what its case selects by
abbrev pub Selects : Kind → ℕ → ℕ → List ℕ → Type 0
Selects whole d x ls = Unit {0}
Selects parts d x ls = Unit {0}
Selects arms d x ls = get_or ls (15 + d) 0 ≡ x

arms_select : (x : Kind) (d k : ℕ) (ls : List ℕ) → IsArms x → Selects x d k ls → get_or ls (15 + d) 0 ≡ k
arms_select whole d k ls a z = absurd a
arms_select parts d k ls a z = absurd a
arms_select arms d k ls a z = z

pub at_fifteen : (d : ℕ) → 15 + d < 16 + d
at_fifteen d = omega arith

selected : (d v : ℕ) (ls : List ℕ) → 16 + d < length ls → get_or (set ls (16 + d) v) (15 + suc d) 0 ≡ v
selected d v ls h = let e : 15 + suc d ≡ 16 + d = omega arith in rw e (get_or-set_same ls (16 + d) v 0 h)

const_back : (v : ℕ) → v % 2 ^ 32 + v / 2 ^ 32 * 2 ^ 32 ≡ v
const_back v = omega arith

pick_elim : (b : Bool) (x y : ℕ) → pick b x y ≡ (elim b [ true ↦ x | false ↦ y ])
unfolding pick
pick_elim true x y = refl
pick_elim false x y = refl

module _ (lets : List (Let Slot)) (bits : List (Let Bits)) where
  -- the slots hold the `let`s, and there is room for cases n deep
  pub record Good (d n : ℕ) (ls : List ℕ) : Type 0 where
    pub room : 16 + (d + n) ≤ length ls
    pub held : Paired (Holds ls) lets bits

  pub kept_good : {d n : ℕ} {new ls : List ℕ} → Good d n ls → KeptBelow (16 + d) new ls → Good d n new
  kept_good {d} {n} {new} {ls} h k = record { room = rw k.long h.room; held = holds_kept (16 + d) lets bits (omega arith) k h.held }

  pub less_good : {d m n : ℕ} {ls : List ℕ} → Good d n ls → m ≤ n → Good d m ls
  less_good h k = record { room = let r = h.room in omega arith; held = h.held }

module _ (s : Setting) (g : Given) (lets : List (Let Slot)) (bits : List (Let Bits)) (os : List ℕ) (qs : List (Change ℕ)) where
  abbrev R : List Item → ℕ → List ℕ → List ℕ → List ℕ → Type 0
  R is n out vs ls = Runs g.values g.memory os qs is n out vs ls

  two : {xs ys : List Item} {n : ℕ} {out mid vs ls : List ℕ} → R xs n mid vs ls → ((new : List ℕ) → KeptBelow n new ls → R ys n out mid new) → R (xs ++ ys) n out vs ls
  two r f = and_then g.values g.memory os qs r (f r.after r.kept)

  one : {i : Item} {n : ℕ} {out vs ls : List ℕ} → exec1 g.values g.memory i (state vs ls os qs) ≡ state out ls os qs → R (i ∷ []) n out vs ls
  one e = item g.values g.memory os qs e

  read_runs : (n : ℕ) (a vs ls : List ℕ) → Paired (Holds ls) lets bits → R (read_item s lets a ∷ []) n ((read_value s g bits a).value ∷ vs) vs ls
  unfolding read_item read_value
  read_runs n a vs ls p = item g.values g.memory os qs (go (let_named lets a) (let_named bits a) (found (Holds ls) lets bits a p))
    where
      go : (x : Option Slot) (y : Option Bits) → Found (Holds ls) x y
          → exec1 g.values g.memory (elim x [ some x ↦ Kept x.number | none ↦ Port (Rattle.language.specs.Meaning.port_at s a) ]) (state vs ls os qs)
          ≡ state ((elim y as (λ _. Bits) [ some x ↦ x | none ↦ record { wide = Rattle.language.specs.Widths.port_width s.actor s.widths a; value = get_or g.values (Rattle.language.specs.Meaning.port_at s a) 0 } ]).value ∷ vs) ls os qs
      go none none f = refl
      go none (some y) f = absurd f
      go (some x) none f = absurd f
      go (some x) (some y) f = rw f.1

  abbrev at : Expr → Extent
  at e = extent s (extents lets) e

  abbrev val : ℕ → Expr → ℕ
  val k e = (bits_in s g bits k e).value

  -- the width that an item names
  names : (k : ℕ) (e : Expr) (ls : List ℕ) → Paired (Holds ls) lets bits → IsWide (at e) → wide_of s lets e ≡ (bits_in s g bits k e).wide
  unfolding wide_of
  names k e ls p h = width_of_law (at e) _ (width_agrees s g lets bits (holds_widths ls lets bits p) k e h)

  select_runs : {is : List Item} {out vs ls : List ℕ} (d v w n : ℕ) → Good lets bits d (suc n) ls
      → ((new : List ℕ) → Good lets bits (suc d) n new → get_or new (15 + suc d) 0 ≡ v → R is (16 + suc d) out vs new) → R (Keep (16 + d) w ∷ is) (16 + d) out (v ∷ vs) ls
  unfolding exec_all
  select_runs {ls = ls} d v w n h f =
      let k = kept_set (16 + d) (16 + d) v ls (omega arith) in
      let l = h.room in
      let j : 16 + (suc d + n) ≤ length ls = omega arith in
      let r = f (set ls (16 + d) v) (record { room = rw (length-set ls (16 + d) v) j; held = holds_kept (16 + d) lets bits (omega arith) k h.held }) (selected d v ls (omega arith)) in
      record { after = r.after; runs = r.runs; kept = kept_trans (omega arith) r.kept k }

  copies_one : (k : ℕ) (n : ℕ) (e : Expr) (m : ℕ) (vs ls : List ℕ) → wide_of s lets e ≡ (bits_in s g bits k e).wide
      → R (Copies n (wide_of s lets e) ∷ []) m (copies_of n (bits_in s g bits k e).wide (val k e) ∷ vs) (val k e ∷ vs) ls
  copies_one k n e m vs ls q = one (rw q)

  arm_one : (k n d x y : ℕ) (m : ℕ) (vs ls : List ℕ) → get_or ls (15 + d) 0 ≡ k → R (Arm n (15 + d) ∷ []) m ((elim (eqb k n) [ true ↦ x | false ↦ y ]) ∷ vs) (y ∷ x ∷ vs) ls
  arm_one k n d x y m vs ls c = one (rw (c, pick_elim))

  -- a choice, from the runs of its parts
  abbrev RunsAt : ℕ → ℕ → Expr → Type 0
  RunsAt d k e = (vs ls : List ℕ) → Good lets bits d (nest e) ls → R (code s lets d e) (16 + d) (val k e ∷ vs) vs ls

  choice_runs : (d k : ℕ) (c a b : Expr) (vs ls : List ℕ) → Good lets bits d (max (nest c) (max (nest a) (nest b))) ls → RunsAt d k c → RunsAt d k a → RunsAt d k b
      → R (code s lets d c ++ (code s lets d a ++ (code s lets d b ++ (Choice ∷ [])))) (16 + d) (chosen (val k c) (val k a) (val k b) ∷ vs) vs ls
  choice_runs d k c a b vs ls l rc ra rb =
      let r = less_good lets bits l (le-max_right (nest c) _) in
      two (rc vs ls (less_good lets bits l (le-max_left _ _)))
      (λ new q. two (ra _ new (less_good lets bits (kept_good lets bits r q) (le-max_left _ _)))
      (λ newer u. two (rb _ newer (less_good lets bits (kept_good lets bits (kept_good lets bits r q) u) (le-max_right _ _))) (λ newest v. one refl)))

  -- the theorem of one expression
  pub code_runs : (x : Kind) (ms : List (List ℕ)) (d k : ℕ) (e : Expr) (vs ls : List ℕ) → FormedAt ms x e → Selects x d k ls → Good lets bits d (nest e) ls → IsWide (at e)
      → R (code s lets d e) (16 + d) (val k e ∷ vs) vs ls
  unfolding code bits_in extent nest constant cell_value cell_of
  code_runs x ms d k (plain n) vs ls f z l h = one (rw (const_back n.value))
  code_runs x ms d k (sized w a) vs ls f z l h = one (rw (const_back (amount_of s a)))
  code_runs x ms d k (copies n e) vs ls f z l h =
      let a = one_wide (at e) _ h in two (code_runs whole ms d k e vs ls f.1 tt l a.0) (λ new q. copies_one k n.value e _ _ _ (names k e ls l.held a.0))
  code_runs x ms d k (read n) vs ls f z l h = read_runs (16 + d) n.spelled vs ls l.held
  code_runs x ms d k (cell n e) vs ls f z l h = two (code_runs whole ms d k e vs ls f.2 tt l (one_wide (at e) _ h).0) (λ new q. one refl)
  code_runs x ms d k (bit e q i) vs ls f z l h = two (code_runs whole ms d k e vs ls f.1 tt l (one_wide (at e) _ h).0) (λ new q. one refl)
  code_runs x ms d k (range e q i j) vs ls f z l h = two (code_runs whole ms d k e vs ls f.1 tt l (one_wide (at e) _ h).0) (λ new q. one refl)
  code_runs x ms d k (inside q e) vs ls f z l h = code_runs whole ms d k e vs ls f.1 tt l h
  code_runs x ms d k (joined q e) vs ls f z l h = code_runs parts ms d k e vs ls f.1 tt l (one_wide (at e) _ h).0
  code_runs x ms d k (beside a b) vs ls f z l h =
      let t = two_wide (at a) (at b) _ h in
      two (code_runs parts ms d k a vs ls f.1 tt (less_good lets bits l (le-max_left _ _)) t.0)
      (λ new q. two (code_runs whole ms d k b _ new f.2 tt (kept_good lets bits (less_good lets bits l (le-max_right _ _)) q) t.1) (λ newer r. one (rw (names k b ls l.held t.1))))
  code_runs x ms d k (unary u e) vs ls f z l h =
      let a = one_wide (at e) _ h in two (code_runs whole ms d k e vs ls f.1 tt l a.0) (λ new q. one (rw (names k e ls l.held a.0)))
  code_runs x ms d k (binary o a b) vs ls f z l h =
      let t = two_wide (at a) (at b) _ h in
      two (code_runs whole ms d k a vs ls f.1 tt (less_good lets bits l (le-max_left _ _)) t.0)
      (λ new q. two (code_runs whole ms d k b _ new f.2 tt (kept_good lets bits (less_good lets bits l (le-max_right _ _)) q) t.1)
      (λ newer r. one (rw (names k a ls l.held t.0, names k b ls l.held t.1))))
  code_runs x ms d k (choice c a b) vs ls f z l h =
      let t = choice_wide (at c) (at a) (at b) h in
      choice_runs d k c a b vs ls l (λ us new g. code_runs whole ms d k c us new f.1 tt g t.0) (λ us new g. code_runs whole ms d k a us new f.2 tt g t.1) (λ us new g. code_runs whole ms d k b us new f.3 tt g t.2)
  code_runs x ms d k (either y c a b) vs ls f z l h =
      let t = choice_wide (at c) (at a) (at b) h in
      choice_runs d k c a b vs ls l (λ us new g. code_runs whole ms d k c us new f.1 tt g t.0) (λ us new g. code_runs whole ms d k a us new f.2 tt g t.1) (λ us new g. code_runs whole ms d k b us new f.3 tt g t.2)
  code_runs x ms d k (select y e a) vs ls f z l h =
      let t = two_wide (at e) (at a) _ h in
      two (code_runs whole ms d k e vs ls f.1 tt (less_good lets bits l (le-max_left _ _)) t.0)
      (λ new q. select_runs d (val k e) (wide_of s lets e) (nest a) (kept_good lets bits (less_good lets bits l (le-max_right (nest e) _)) q)
      (λ newer m c. code_runs arms ms (suc d) (val k e) a vs newer f.2 c m t.1))
  code_runs x ms d k (arm n e r) vs ls f z l h =
      let t = two_wide (at e) (at r) _ h in
      let c = arms_select x d k ls f.0 z in
      two (code_runs whole ms d k e vs ls f.1 tt (less_good lets bits l (le-max_left _ _)) t.0)
      (λ new q. two (code_runs arms ms d k r _ new f.2 (q.same (15 + d) (at_fifteen d) ∙ c) (kept_good lets bits (less_good lets bits l (le-max_right _ _)) q) t.1)
      (λ newer u. arm_one k n.value d (val k e) (val k r) _ _ newer (u.same (15 + d) (at_fifteen d) ∙ (q.same (15 + d) (at_fifteen d) ∙ c))))
  code_runs x ms d k (default q e) vs ls f z l h = code_runs whole ms d k e vs ls f.1 tt l h
