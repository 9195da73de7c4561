-- The walk by index, and one turn of it: tables that hold a state hold the next one. Assumes nothing.
use mathlib.Core.Path.{◌≡◌, refl, sym, ap, ap₂, subst, ◌∙◌}
use mathlib.Core.Bool.{Bool, ◌&&◌, ◌||◌}
use mathlib.Core.List.{List, [], ◌∷◌, ◌++◌}
use Prim.Native.Nat.{ℕ, zero, suc, ◌+◌, ◌-◌, ◌*◌, ◌≤◌, ◌<◌}
use native.Mathlib.Omega.{arith}
use lib.Dec.{eqb, ltb}
use lib.ListN.{length, get_or, take, drop, length-append, length-drop}
use lib.Seq.{sets, drop-cons, get_or-take, length-take-le}
use Rattle.plan.specs.Waits.{top}
use Rattle.size_walk.specs.declared.Effect.{Effect}
use Rattle.size_walk.specs.declared.Far.{Far}
use Rattle.size_walk.specs.declared.Seen.{Seen}
use Rattle.settled.specs.Form.{BITS, TYPED, VAL, RULED}
use Rattle.size_walk.specs.Effects.{sooner_of, effect_of}
use Rattle.size_walk.specs.Steps.{State, seen_of, width_on, start_on, emits_of, held_of, around_of, pick, ended_of, room, step_of, onward_of, walk, begin, Holds}
use Rattle.size_walk.specs.Bounds.{effect_at, step_at, up_to, Bounded}
use Rattle.laws.specs.Tables.{Kept}
use Rattle.row11_sizes.specs.declared.Tables.{Tables}
use Rattle.laws.proofs.Tables.{stored}
use Rattle.item_effects.proofs.Tables.{pick_within}
use Rattle.words.specs.Found.{Place}

-- ---- by index

next : (l : List ℕ) (k j : ℕ) → suc k ≡ j → k < length l → drop k l ≡ get_or l k 0 ∷ drop j l
next l k j e h = drop-cons l k 0 h ∙ ap (λ (n : ℕ). get_or l k 0 ∷ drop n l) e

six : (l : List ℕ) (k : ℕ) → k + 5 < length l
    → drop k l ≡ get_or l k 0 ∷ get_or l (k + 1) 0 ∷ get_or l (k + 2) 0 ∷ get_or l (k + 3) 0 ∷ get_or l (k + 4) 0 ∷ get_or l (k + 5) 0 ∷ drop (k + 6) l
six l k h =
    next l k (k + 1) (omega arith) (omega arith) ∙ ap (λ (r : List ℕ). get_or l k 0 ∷ r)
    (next l (k + 1) (k + 2) (omega arith) (omega arith) ∙ ap (λ (r : List ℕ). get_or l (k + 1) 0 ∷ r)
    (next l (k + 2) (k + 3) (omega arith) (omega arith) ∙ ap (λ (r : List ℕ). get_or l (k + 2) 0 ∷ r)
    (next l (k + 3) (k + 4) (omega arith) (omega arith) ∙ ap (λ (r : List ℕ). get_or l (k + 3) 0 ∷ r)
    (next l (k + 4) (k + 5) (omega arith) (omega arith) ∙ ap (λ (r : List ℕ). get_or l (k + 4) 0 ∷ r)
    (next l (k + 5) (k + 6) (omega arith) (omega arith))))))

module _ (t : List ℕ) (many : ℕ) (h : 6 * many ≤ length t) where
  item_at_law : (i : ℕ) → i < many
      → drop (6 * i) (take (6 * many) t) ≡ get_or t (6 * i) 0 ∷ get_or t (6 * i + 1) 0 ∷ get_or t (6 * i + 2) 0 ∷ get_or t (6 * i + 3) 0 ∷ get_or t (6 * i + 4) 0 ∷ get_or t (6 * i + 5) 0 ∷ drop (6 * suc i) (take (6 * many) t)
  item_at_law i l =
      let n = length-take-le (6 * many) t h in
      let o = get_or-take (6 * many) t (6 * i) 0 (omega arith) in
      let p = get_or-take (6 * many) t (6 * i + 1) 0 (omega arith) in
      let a = get_or-take (6 * many) t (6 * i + 2) 0 (omega arith) in
      let b = get_or-take (6 * many) t (6 * i + 3) 0 (omega arith) in
      let c = get_or-take (6 * many) t (6 * i + 4) 0 (omega arith) in
      let d = get_or-take (6 * many) t (6 * i + 5) 0 (omega arith) in
      let s : 6 * i + 6 ≡ 6 * suc i = omega arith in
      let e = six (take (6 * many) t) (6 * i) (omega arith) in cc

  left : (i : ℕ) → i ≤ many → walk (up_to t i) (drop (6 * i) (take (6 * many) t)) ≡ walk begin (take (6 * many) t)
  unfolding walk up_to step_at
  left zero q = refl
  left (suc i) q = sym (ap (walk (up_to t i)) (item_at_law i (omega arith))) ∙ left i (omega arith)

  few : (s : State) (l : List ℕ) → length l ≤ 0 → walk s l ≡ s
  unfolding walk
  few s [] z = refl
  few s (x ∷ l) z = absurd (omega arith)

  pub by_index : up_to t many ≡ walk begin (take (6 * many) t)
  by_index =
      let a = length-drop (6 * many) (take (6 * many) t) in let b = length-take-le (6 * many) t h in
      sym (few (up_to t many) (drop (6 * many) (take (6 * many) t)) (omega arith)) ∙ left many (omega arith)

pub up_next : (t : List ℕ) (i : ℕ) → up_to t (i + 1) ≡ step_at (up_to t i) t i
unfolding up_to
up_next t i = let e : i + 1 ≡ suc i = omega arith in rw e

-- ---- one turn

-- what the parts of a step leave in the tables, over what an item does: so many wait, the code is so long, so many rules have ended
pub record Turned (widths starts slots code lengths : List ℕ) (far : Far) (e : Effect) (op a : ℕ) (widths' starts' slots' code' lengths' : List ℕ) (waits out rules : ℕ) : Type 0 where
  pub wide : top widths' waits ≡ width_on e.leaves (drop e.takes (top widths far.waits))
  pub begun : top starts' waits ≡ start_on e.leaves (drop e.takes (top starts far.waits))
  pub kept : slots' ≡ held_of (eqb op VAL || eqb op TYPED) a e.emits slots
  pub fits : far.out + length (emits_of e.emits) ≤ length code
  pub long : out ≡ far.out + length (emits_of e.emits)
  pub coded : code' ≡ sets code far.out (emits_of e.emits)
  pub few : rules ≤ length lengths'
  pub ended : take rules lengths' ≡ ended_of (eqb op RULED && ltb far.rules room) (out - far.rule) (take far.rules lengths)

-- `step_of`, over what the item does
unfoldable step_by : State → Effect → (op p a : ℕ) → State
step_by s e op p a =
    record {
      widths = width_on e.leaves (drop e.takes s.widths);
      starts = start_on e.leaves (drop e.takes s.starts);
      slots = held_of (eqb op VAL || eqb op TYPED) a e.emits s.slots;
      code = s.code ++ emits_of e.emits;
      lengths = ended_of (eqb op RULED && ltb (length s.lengths) room) (length (s.code ++ emits_of e.emits) - s.rule) s.lengths;
      first = sooner_of e.fault s.first;
      breadth = pick (eqb op BITS) a s.breadth;
      start = pick (eqb op BITS) p s.start;
      cases = around_of op s.cases;
      rule = pick (eqb op RULED) (length (s.code ++ emits_of e.emits)) s.rule;
    }

module _ (widths starts slots code lengths : List ℕ) (far : Far) (op p a : ℕ) (widths' starts' slots' code' lengths' : List ℕ) (w o n : ℕ) (s : State) (h : Holds widths starts slots code lengths far s) where
  by_effect : (e : Effect) → Turned widths starts slots code lengths far e op a widths' starts' slots' code' lengths' w o n
      → Holds widths' starts' slots' code' lengths' (onward_of op p a e.fault w o n far) (step_by s e op p a)
  unfolding step_by onward_of
  by_effect e t =
      record {
        wide = t.wide ∙ ap (λ (l : List ℕ). width_on e.leaves (drop e.takes l)) h.wide;
        begun = t.begun ∙ ap (λ (l : List ℕ). start_on e.leaves (drop e.takes l)) h.begun;
        kept = t.kept ∙ ap (held_of (eqb op VAL || eqb op TYPED) a e.emits) h.kept;
        coded = ap₂ take t.long t.coded ∙ stored code (emits_of e.emits) far.out t.fits ∙ ap (λ (l : List ℕ). l ++ emits_of e.emits) h.coded;
        long = long;
        ended = ended;
        rules = sym (length-take-le n lengths' t.few) ∙ ap length ended;
        first = ap (sooner_of e.fault) h.first;
        breadth = ap (pick (eqb op BITS) a) h.breadth;
        start = ap (pick (eqb op BITS) p) h.start;
        cases = ap (around_of op) h.cases;
        rule = ap₂ (pick (eqb op RULED)) long h.rule;
      }
    where
      long : o ≡ length (s.code ++ emits_of e.emits)
      long = t.long ∙ ap (λ (k : ℕ). k + length (emits_of e.emits)) h.long ∙ sym (length-append s.code (emits_of e.emits))

      ended : take n lengths' ≡ ended_of (eqb op RULED && ltb (length s.lengths) room) (length (s.code ++ emits_of e.emits) - s.rule) s.lengths
      ended = t.ended ∙ ap₂ (λ (b : Bool) (l : List ℕ). ended_of b (o - far.rule) l) (ap (λ (k : ℕ). eqb op RULED && ltb k room) h.rules) h.ended
          ∙ ap (λ (k : ℕ). ended_of (eqb op RULED && ltb (length s.lengths) room) k s.lengths) (ap₂ ◌-◌ long h.rule)

  turn : (b c d : ℕ) (e : Effect) → e ≡ effect_of op p a b c d (seen_of s a) → Turned widths starts slots code lengths far e op a widths' starts' slots' code' lengths' w o n
      → (r : Far) → r ≡ onward_of op p a e.fault w o n far → Holds widths' starts' slots' code' lengths' r (step_of s op p a b c d)
  unfolding step_by step_of
  turn b c d e is t r q =
      subst (λ (y : Far). Holds widths' starts' slots' code' lengths' y (step_by s (effect_of op p a b c d (seen_of s a)) op p a)) (sym q)
      (subst (λ (x : Effect). Holds widths' starts' slots' code' lengths' (onward_of op p a e.fault w o n far) (step_by s x op p a)) is (by_effect e t))

  -- the same by the numbers of item i
  pub turn_at : (t : List ℕ) (i : ℕ) → op ≡ get_or t (6 * i + 0) 0 → p ≡ get_or t (6 * i + 1) 0 → a ≡ get_or t (6 * i + 2) 0 → (e : Effect) (v : Seen) → e ≡ effect_at t i v → v ≡ seen_of s a
      → Turned widths starts slots code lengths far e op a widths' starts' slots' code' lengths' w o n → (r : Far) → r ≡ onward_of op p a e.fault w o n far
      → Holds widths' starts' slots' code' lengths' r (step_at s t i)
  unfolding step_at effect_at
  turn_at t i ho hp ha e v he hv h' r q =
      let z : 6 * i + 0 ≡ 6 * i = omega arith in
      let ho' : op ≡ get_or t (6 * i) 0 = ho ∙ ap (λ (k : ℕ). get_or t k 0) z in
      rw (← ho', ← hp, ← ha) (turn (get_or t (6 * i + 3) 0) (get_or t (6 * i + 4) 0) (get_or t (6 * i + 5) 0) e (rw (← ho', ← hp, ← ha, hv) at he) h' r q)

-- how far it is then: the bounds of one item more, and what is past what was written
module _ (op p a : ℕ) (f : Place) (w o n : ℕ) (far r : Far) (is : r ≡ onward_of op p a f w o n far) where
  pub onward_bounded : (i : ℕ) → Bounded far i → w ≤ far.waits + 1 → far.out ≤ o → o ≤ far.out + 4 → n ≤ room → r.cases ≤ far.cases + 1 → Bounded r (i + 1)
  unfolding onward_of
  onward_bounded i b hw more ho hn hc =
      let x : r.waits ≡ w = ap (λ (y : Far). y.waits) is in
      let z : r.out ≡ o = ap (λ (y : Far). y.out) is in
      record {
        waits = omega (arith, b.waits);
        out = omega (arith, b.out);
        cases = omega (arith, b.cases);
        rule = subst (λ (k : ℕ). r.rule ≤ k) (sym z) (pick_within (eqb op RULED) o far.rule r.rule (ap (λ (y : Far). y.rule) is) (omega (arith, b.rule)));
        rules = subst (λ (k : ℕ). k ≤ room) (sym (ap (λ (y : Far). y.rules) is)) hn;
      }

  pub code_kept : {m : ℕ} {l l' : List ℕ} → Kept m o l l' → Kept m r.out l l'
  unfolding onward_of
  code_kept {m = m} {l = l} {l' = l'} k = subst (λ (y : ℕ). Kept m y l l') (sym (ap (λ (y : Far). y.out) is)) k

  pub lengths_kept : {m : ℕ} {l l' : List ℕ} → Kept m n l l' → Kept m r.rules l l'
  unfolding onward_of
  lengths_kept {m = m} {l = l} {l' = l'} k = subst (λ (y : ℕ). Kept m y l l') (sym (ap (λ (y : Far). y.rules) is)) k

-- ---- the walk's tables after i items

pub record Walked (items code₀ lengths₀ : List ℕ) (tables : Tables) (code lengths : List ℕ) (far : Far) (i : ℕ) : Type 0 where
  pub long : length code ≡ length code₀
  pub ends : length lengths ≡ length lengths₀
  pub bounded : Bounded far i
  pub coded : Kept 0 far.out code₀ code
  pub ended : Kept 0 far.rules lengths₀ lengths
  pub holds : Holds tables.widths tables.starts tables.slots code lengths far (up_to items i)
