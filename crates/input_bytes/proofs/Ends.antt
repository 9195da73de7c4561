-- What the end of a number in a cycle's line does, case by case. Assumes nothing.
use mathlib.Core.Path.{◌≡◌, refl, sym, ap, ap₂, ◌∙◌, subst}
use mathlib.Core.Bool.{true, false}
use Rattle.std.specs.Prelude.{Some, None}
use mathlib.Core.List.{List, ◌++◌}
use Prim.Native.Nat.{ℕ, ◌+◌, ◌-◌, ◌≤◌}
use native.Mathlib.Omega.{arith}
use borrow.Author.Tests.{eq-eqb, ne_eqb}
use lib.ListN.{length, take, drop}
use lib.Seq.{sets}
use Rattle.language.specs.Meaning.{Outcome}
use Rattle.turn.specs.Cycle.{cycle_of}
use Rattle.turn.specs.Turn.{outcome}
use Rattle.turn.specs.declared.Done.{Done}
use Rattle.figures.specs.declared.Stage.TheVariants.{Line}
use Rattle.figures.specs.declared.State.{State}
use Rattle.figures.specs.States.{wrong_of, port_of, line_takes, longer_of}
use Rattle.figures.specs.Written.{Wrote}
use Rattle.input_bytes.specs.Lines.{cells_of, next_input, Lined, Left, mask_after, values_after, done_of, outputs_after, memory_after, Ran, turned_of, standing, number_ends, line_byte}
use Rattle.cycle_line.specs.Shown.{ports_of, shown_of}

-- ---- what is left where nothing is run

pub left_standing : (x : Lined) (r : State) (at : ℕ) (v o m out : List ℕ) → standing r v o m ≡ x → r.at ≡ at → Left x out at (standing r v o m) out
left_standing x r at v o m out e h =
    record {
      stands = ap (λ (y : Lined). y.state) e;
      held = ap (λ (y : Lined). y.values) e;
      slots = ap (λ (y : Lined). y.outputs) e;
      cells = ap (λ (y : Lined). y.memory) e;
      bytes = ap (λ (y : Lined). sets out at y.wrote) e;
      place = (let l : 0 ≡ length x.wrote = ap (λ (y : Lined). length y.wrote) e in omega arith);
      short = (let l : 0 ≡ length x.wrote = ap (λ (y : Lined). length y.wrote) e in omega arith);
    }

pub left_as : {x y after : Lined} {old out : List ℕ} {at : ℕ} → Left x old at after out → x ≡ y → Left y old at after out
left_as {x} {y} {after} {old} {out} {at} l e = subst (λ (z : Lined). Left z old at after out) e l

-- ---- the cycle

module _ (mask : ℕ) (p values outputs memory : List ℕ) where
  pub ran_as : (n m : ℕ) (r : Done) (os ms : List ℕ) → n ≡ ports_of p → m ≡ cells_of p → outcome r.answer r.present os ms ≡ cycle_of p mask (take n values) (take m memory) (take n outputs)
      → Ran p (done_of p mask values outputs memory) outputs memory r (os ++ drop n outputs) (ms ++ drop m memory)
  unfolding done_of outputs_after memory_after
  ran_as n m r os ms en em e =
      record {
        answer = ap (λ (y : Outcome). y.answer) d;
        count = ap (λ (y : Outcome). y.count) d;
        slots = ap₂ (λ (y : Outcome) (k : ℕ). y.outputs ++ drop k outputs) d en;
        cells = ap₂ (λ (y : Outcome) (k : ℕ). y.memory ++ drop k memory) d em;
      }
    where
      d : outcome r.answer r.present os ms ≡ done_of p mask values outputs memory
      d = e ∙ ap₂ (λ (i j : ℕ). cycle_of p mask (take i values) (take j memory) (take i outputs)) en em

  pub turned_as : (s : State) (r : Done) (os ms out new : List ℕ) (next left : ℕ) → Ran p (done_of p mask values outputs memory) outputs memory r os ms
      → Wrote out s.at (shown_of p r.answer r.present os) 378 next new → left ≡ s.left - 1
      → Left (turned_of s mask p values outputs memory) out s.at (standing (record { stage = Line; number = None; left = left; port = 0; mask = mask; actor = s.actor; bindings = s.bindings; plan = s.plan; at = next }) values os ms) new
  unfolding turned_of
  turned_as s r os ms out new next left x w e =
      record {
        stands = ap₂ (λ (l k : ℕ). record { stage = Line; number = None; left = l; port = 0; mask = mask; actor = s.actor; bindings = s.bindings; plan = s.plan; at = k }) e q;
        held = refl;
        slots = x.slots;
        cells = x.cells;
        bytes = w.bytes ∙ ap (sets out s.at) shown_is;
        place = q;
        short = subst (λ (l : List ℕ). length l ≤ 378) shown_is w.short;
      }
    where
      shown_is : shown_of p r.answer r.present os ≡ shown_of p (done_of p mask values outputs memory).answer (done_of p mask values outputs memory).count (outputs_after p (done_of p mask values outputs memory) outputs)
      shown_is = ap₂ (λ (a k : ℕ). shown_of p a k os) x.answer x.count ∙ ap (shown_of p (done_of p mask values outputs memory).answer (done_of p mask values outputs memory).count) x.slots

      q : next ≡ s.at + length (shown_of p (done_of p mask values outputs memory).answer (done_of p mask values outputs memory).count (outputs_after p (done_of p mask values outputs memory) outputs))
      q = w.place ∙ ap (λ (l : List ℕ). s.at + length l) shown_is

-- ---- the byte after a number, which has ended as n

module _ (s : State) (n b : ℕ) (p v o m : List ℕ) where
  -- the value of another input is to come
  module _ (i : ℕ) (e : next_input p s.port ≡ Some i) where
    pub blank_wrong : (b ≡ 32 → ⊥) → standing (wrong_of s) v o m ≡ number_ends s n b p v o m
    unfolding number_ends
    blank_wrong q = sym (simp (number_ends, e, ne_eqb b 32 q))

    pub blank_next : b ≡ 32 → standing (port_of s (mask_after s n) (i + 1)) (values_after s n v) o m ≡ number_ends s n b p v o m
    unfolding number_ends
    blank_next q = sym (simp (number_ends, e, eq-eqb b 32 q))

  -- no input is to come
  module _ (e : next_input p s.port ≡ None) where
    pub end_wrong : (b ≡ 10 → ⊥) → standing (wrong_of s) v o m ≡ number_ends s n b p v o m
    unfolding number_ends
    end_wrong q = sym (simp (number_ends, e, ne_eqb b 10 q))

    pub end_turn : b ≡ 10 → turned_of s (mask_after s n) p (values_after s n v) o m ≡ number_ends s n b p v o m
    unfolding number_ends
    end_turn q = sym (simp (number_ends, e, eq-eqb b 10 q))

  -- as the code has them: r is the state, k the mask and w the values that it keeps
  pub left_blank_wrong : (i : ℕ) (r : State) (out : List ℕ) → next_input p s.port ≡ Some i → (b ≡ 32 → ⊥) → r ≡ wrong_of s → Left (number_ends s n b p v o m) out s.at (standing r v o m) out
  left_blank_wrong i r out h q e = left_standing (number_ends s n b p v o m) r s.at v o m out (ap (λ (t : State). standing t v o m) e ∙ blank_wrong i h q) (ap (λ (t : State). t.at) e)

  pub left_end_wrong : (r : State) (out : List ℕ) → next_input p s.port ≡ None → (b ≡ 10 → ⊥) → r ≡ wrong_of s → Left (number_ends s n b p v o m) out s.at (standing r v o m) out
  left_end_wrong r out h q e = left_standing (number_ends s n b p v o m) r s.at v o m out (ap (λ (t : State). standing t v o m) e ∙ end_wrong h q) (ap (λ (t : State). t.at) e)

  pub left_blank : (i : ℕ) (r : State) (k : ℕ) (w out : List ℕ) → next_input p s.port ≡ Some i → b ≡ 32 → r ≡ port_of s k (i + 1) → k ≡ mask_after s n → w ≡ values_after s n v → Left (number_ends s n b p v o m) out s.at (standing r w o m) out
  left_blank i r k w out h q e f g =
      left_standing (number_ends s n b p v o m) r s.at w o m out
      (ap₂ (λ (t : State) (l : List ℕ). standing t l o m) (e ∙ ap (λ (j : ℕ). port_of s j (i + 1)) f) g ∙ blank_next i h q)
      (ap (λ (t : State). t.at) e)

  pub left_turn : (after : Lined) (k : ℕ) (w out new : List ℕ) → next_input p s.port ≡ None → b ≡ 10 → k ≡ mask_after s n → w ≡ values_after s n v → Left (turned_of s k p w o m) out s.at after new → Left (number_ends s n b p v o m) out s.at after new
  left_turn after k w out new h q f g l = left_as l (ap₂ (λ (j : ℕ) (x : List ℕ). turned_of s j p x o m) f g ∙ end_turn h q)

-- ---- a byte of a line

module _ (s : State) (b : ℕ) (plan v o m : List ℕ) where
  pub line_takes_law : line_takes s b ≡ true → standing (longer_of s b) v o m ≡ line_byte s b plan v o m
  unfolding line_byte
  line_takes_law e = sym (simp (line_byte, e))

  pub line_unbegun : line_takes s b ≡ false → s.number ≡ None → standing (wrong_of s) v o m ≡ line_byte s b plan v o m
  unfolding line_byte
  line_unbegun e f = sym (simp (line_byte, e, f))

  pub line_ends : (n : ℕ) → line_takes s b ≡ false → s.number ≡ Some n → number_ends s n b (take s.plan plan) v o m ≡ line_byte s b plan v o m
  unfolding line_byte
  line_ends n e f = sym (simp (line_byte, e, f))

  pub left_takes : (r : State) (out : List ℕ) → line_takes s b ≡ true → r ≡ longer_of s b → Left (line_byte s b plan v o m) out s.at (standing r v o m) out
  unfolding longer_of
  left_takes r out e f = left_standing (line_byte s b plan v o m) r s.at v o m out (ap (λ (t : State). standing t v o m) f ∙ line_takes_law e) (ap (λ (t : State). t.at) f)

  pub left_unbegun : (r : State) (out : List ℕ) → line_takes s b ≡ false → s.number ≡ None → r ≡ wrong_of s → Left (line_byte s b plan v o m) out s.at (standing r v o m) out
  left_unbegun r out e g f = left_standing (line_byte s b plan v o m) r s.at v o m out (ap (λ (t : State). standing t v o m) f ∙ line_unbegun e g) (ap (λ (t : State). t.at) f)
