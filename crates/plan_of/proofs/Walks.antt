-- The walk over items that stand one after the other, and the state after an expression. Assumes nothing.
use mathlib.Core.Path.{◌≡◌, refl, sym, ap, ◌∙◌}
use mathlib.Core.List.{List, [], ◌∷◌, ◌++◌, append_assoc, append-nil}
use Prim.Native.Nat.{ℕ}
use Rattle.settled.specs.Form.{six}
use Rattle.size_walk.specs.Effects.{sooner_of}
use Rattle.size_walk.specs.Steps.{State, step_of, walk}
use Rattle.plan_of.proofs.Firsts.{told}

pub record Goes (st : State) (a : List ℕ) (st' : State) : Type 0 where
  pub on : (l : List ℕ) → walk st (a ++ l) ≡ walk st' l

pub goes_none : {st : State} → Goes st [] st
goes_none = record { on = λ l. refl }

pub goes_both : {st st' st'' : State} {a b : List ℕ} → Goes st a st' → Goes st' b st'' → Goes st (a ++ b) st''
goes_both {st} {a = a} {b = b} d e = record { on = λ l. ap (walk st) (append_assoc a b l) ∙ d.on (b ++ l) ∙ e.on l }

pub goes_six : {st st' : State} (o p a b c d : ℕ) → step_of st o p a b c d ≡ st' → Goes st (six o p a b c d) st'
unfolding walk
goes_six o p a b c d e = record { on = λ l. ap (λ (s : State). walk s l) e }

pub goes_whole : {st st' : State} {a : List ℕ} → Goes st a st' → walk st a ≡ st'
unfolding walk
goes_whole {st} {a = a} d = ap (walk st) (sym (append-nil a)) ∙ d.on []

-- an expression more waits: its width and first byte; some faults, and the code so far
abbrev pub after : State → (w p : ℕ) → (faults code : List ℕ) → (breadth start : ℕ) → State
after st w p l c br sp =
    record {
      widths = w ∷ st.widths;
      starts = p ∷ st.starts;
      slots = st.slots;
      code = c;
      lengths = st.lengths;
      first = sooner_of (told l) st.first;
      breadth = br;
      start = sp;
      cases = st.cases;
      rule = st.rule;
    }
