-- The turns of the loop over a rule's items, on lists. Assumes nothing.
use Prim.Native.Nat.{ℕ, ◌+◌, ◌-◌, ◌*◌, ◌≤◌, ◌<◌}
use mathlib.Core.Path.{◌≡◌, sym, ap, ◌∙◌, subst}
use mathlib.Core.List.{List}
use lib.ListN.{length}
use Rattle.language.specs.Meaning.{Change}
use Rattle.plan.specs.declared.Item.{Item}
use Rattle.plan.specs.declared.Item.TheVariants.{Bad}
use Rattle.plan.specs.Sound.{Rules, check, check1, check_step, check_all}
use Rattle.plan.specs.Sound.{rules_of}
use Rattle.plan.specs.Items.{item_at}
use Rattle.plan.specs.Waits.{top}
use Rattle.soundness.proofs.Turns.{rest, rest_next, rest_none}
use Rattle.plan.proofs.Waits.{length_top}
use Rattle.item_steps.specs.Machine.{State, state, exec1, exec_all}
use Rattle.item_steps.specs.Ready.{Ready, Left}
use Rattle.item_steps.specs.declared.Tables.{Tables}
use Rattle.machine.specs.Safety.{Good, CodeGiven, Safe, Ran}
use Rattle.machine.proofs.Safe.{Found, found}

-- a state is safe whatever was written
pub safe_any : (p : List ℕ) (present taken : ℕ) (is : List Item) (vs ls os : List ℕ) (qs rs : List (Change ℕ))
    → Safe p present taken is (state vs ls os qs) → Safe p present taken is (state vs ls os rs)
safe_any p present taken is vs ls os qs rs f =
    (f.0, f.1, f.2, f.3, f.4, record { fit = f.5.fit; slot = f.5.slot; outs = f.5.outs })

pub exec_turn : (values memory p : List ℕ) (at items i : ℕ) (s : State) → i < items → at + 4 * (items - i) ≤ length p
    → exec_all values memory (rest p at items i) s ≡ exec_all values memory (rest p (at + 4) items (i + 1)) (exec1 values memory (item_at p at) s)
unfolding exec_all
exec_turn values memory p at items i s h l = rw (rest_next p at items i h l)

pub exec_done : (values memory p : List ℕ) (at items i : ℕ) (s : State) → items ≤ i → exec_all values memory (rest p at items i) s ≡ s
unfolding exec_all
exec_done values memory p at items i s h = rw (rest_none p at items i h)

good_next : (t : Rules) (p : List ℕ) (at items i : ℕ) (ws ls : List ℕ) (d : ℕ) → i < items → at + 4 * (items - i) ≤ length p
    → Good t (rest p at items i) (check ws ls d) → Good t (rest p (at + 4) items (i + 1)) (check1 t (item_at p at) ws ls d)
unfolding check_all check_step
good_next t p at items i ws ls d h l g = rw (rest_next p at items i h l) at g

module _ (p : List ℕ) (present taken : ℕ) (values memory : List ℕ) (g : CodeGiven p present values memory) (at items i : ℕ) (h : i < items) (l : at + 4 * (items - i) ≤ length p) where
  pub turn_found : (s : State) → Safe p present taken (rest p at items i) s → Found p present taken values memory (rest p (at + 4) items (i + 1)) (item_at p at) s
  turn_found s f =
      found p present taken values memory g (rest p (at + 4) items (i + 1)) (item_at p at) f.0 f.1 s.waits s.slots s.outputs f.2 s.writes
      (good_next (rules_of p present taken) p at items i f.0 f.1 f.2 h l f.3) f.4 (record { fit = f.5.fit; slot = f.5.slot; outs = f.5.outs })

-- the tables are the state
pub left_state : {memory : List ℕ} {n : ℕ} {slots outputs : List ℕ} {cells : ℕ} {t : Tables cells} {s : State} → Left memory n slots outputs t s → state (top t.stack n) slots outputs s.writes ≡ s
left_state l = rw (l.waits, l.slot, l.output)

pub ready_of : (p : List ℕ) (present taken : ℕ) (values memory : List ℕ) (is : List Item) (i : Item) (n : ℕ) (slots outputs : List ℕ) {cells : ℕ} {t : Tables cells} {s : State}
    → n ≤ 256 → Left memory n slots outputs t s → Found p present taken values memory is i s → Ready values memory t.stack n slots outputs i
ready_of p present taken values memory is i n slots outputs {cells} {t} {s} h l f =
    let e : length s.waits ≡ n = sym (ap length l.waits) ∙ length_top t.stack n in
    record {
      there = rw e at f.there;
      room = rw e at (f.room (rw e h));
      asks = rw (l.waits, l.slot, l.output) f.asks;
    }

-- an item that finds what it asks is not bad
pub not_bad : {values memory stack : List ℕ} {n : ℕ} {slots outputs : List ℕ} {i : Item} → Ready values memory stack n slots outputs i → i ≡ Bad → ⊥
not_bad r e = rw e at r.asks

-- the i-th item finds what it asks
pub turn_ready : (p : List ℕ) (present taken : ℕ) (values memory : List ℕ) → CodeGiven p present values memory → (at items i n : ℕ) (slots outputs : List ℕ) {cells : ℕ} {t : Tables cells} {s : State}
    → n ≤ 256 → i < items → at + 4 * (items - i) ≤ length p → Left memory n slots outputs t s → Safe p present taken (rest p at items i) s → Ready values memory t.stack n slots outputs (item_at p at)
turn_ready p present taken values memory g at items i n slots outputs {cells} {t} {s} h k z l f =
    ready_of p present taken values memory (rest p (at + 4) items (i + 1)) (item_at p at) n slots outputs h l (turn_found p present taken values memory g at items i k z s f)

pub left_turn : {memory : List ℕ} {n : ℕ} {slots outputs : List ℕ} {cells : ℕ} {t : Tables cells} (values : List ℕ) {j k : Item} {r s : State}
    → j ≡ k → r ≡ s → Left memory n slots outputs t (exec1 values memory j r) → Left memory n slots outputs t (exec1 values memory k s)
left_turn values d e l = rw (← d, ← e) l

pub ran_of : {memory : List ℕ} {n : ℕ} {slots outputs : List ℕ} {cells : ℕ} {t : Tables cells} {r s : State} → Left memory n slots outputs t r → r ≡ s → Ran memory outputs t s
ran_of {memory} {n} {slots} {outputs} {cells} {t} l e =
    subst (λ (x : State). Ran memory outputs t x) e (record { output = l.output; write = l.write })
