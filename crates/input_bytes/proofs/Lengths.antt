-- A cycle of an accepted text keeps the number of outputs and of cells. Assumes nothing.
use mathlib.Core.Path.{◌≡◌, refl, ap, ◌∙◌}
use mathlib.Core.Bool.{Bool, true, false}
use mathlib.Core.List.{List, [], ◌∷◌}
use Prim.Native.Nat.{ℕ, suc}
use lib.ListN.{length, set, length-set}
use Rattle.language.specs.Text.{Name}
use Rattle.language.specs.Tree.{Rule}
use Rattle.language.specs.Parts.{each}
use Rattle.language.specs.Sizes.{Setting}
use Rattle.language.specs.Meaning.{Given, Change, Fired, fired, unfired, firing, fitting, twice, written, in_rules, writes_of, assigns_of, assigned_to, refused_by, acts, cycle}

each_length : (f : Name → ℕ) (l : List Name) → length (each (λ n. f n ∷ []) l) ≡ length l
unfolding each
each_length f [] = refl
each_length f (n ∷ l) = ap suc (each_length f l)

written_length : (c : List (Change ℕ)) (memory : List ℕ) → length (written c memory) ≡ length memory
unfolding written
written_length [] memory = refl
written_length (c ∷ l) memory = written_length l (set memory c.target c.to) ∙ length-set memory c.target c.to

module _ (s : Setting) (g : Given) (outputs : List ℕ) where
  acts_cells : (rs : List Rule) → length (acts s g outputs rs).memory ≡ length g.memory
  unfolding acts refused_by
  acts_cells rs = go (twice (in_rules s g (writes_of s g) rs)) refl
    where
      go : (b : Bool) → twice (in_rules s g (writes_of s g) rs) ≡ b → length (acts s g outputs rs).memory ≡ length g.memory
      go true e = simp (acts, e)
      go false e = simp (acts, e) (written_length (in_rules s g (writes_of s g) rs) g.memory)

  fired_cells : (x : Fired) → firing s g.mask s.actor.groups ≡ x → fitting s g ≡ true → length (cycle s g outputs).memory ≡ length g.memory
  unfolding cycle refused_by
  fired_cells (unfired n) e f = simp (cycle, f, e)
  fired_cells (fired rs) e f = simp (cycle, f, e) (acts_cells rs)

  pub cycle_cells : length (cycle s g outputs).memory ≡ length g.memory
  unfolding cycle refused_by
  cycle_cells = go (fitting s g) refl
    where
      go : (b : Bool) → fitting s g ≡ b → length (cycle s g outputs).memory ≡ length g.memory
      go false e = simp (cycle, e)
      go true e = fired_cells (firing s g.mask s.actor.groups) refl e

  acts_slots : (rs : List Rule) → length outputs ≡ length s.actor.signature → length (acts s g outputs rs).outputs ≡ length s.actor.signature
  unfolding acts refused_by
  acts_slots rs h = go (twice (in_rules s g (writes_of s g) rs)) refl
    where
      go : (b : Bool) → twice (in_rules s g (writes_of s g) rs) ≡ b → length (acts s g outputs rs).outputs ≡ length s.actor.signature
      go true e = simp (acts, e) h
      go false e = simp (acts, e) (each_length (λ n. assigned_to (in_rules s g (assigns_of s g) rs) n.spelled) s.actor.signature)

  fired_slots : (x : Fired) → firing s g.mask s.actor.groups ≡ x → fitting s g ≡ true → length outputs ≡ length s.actor.signature → length (cycle s g outputs).outputs ≡ length s.actor.signature
  unfolding cycle refused_by
  fired_slots (unfired n) e f h = simp (cycle, f, e) h
  fired_slots (fired rs) e f h = simp (cycle, f, e) (acts_slots rs h)

  pub cycle_slots : length outputs ≡ length s.actor.signature → length (cycle s g outputs).outputs ≡ length s.actor.signature
  unfolding cycle refused_by
  cycle_slots h = go (fitting s g) refl
    where
      go : (b : Bool) → fitting s g ≡ b → length (cycle s g outputs).outputs ≡ length s.actor.signature
      go false e = simp (cycle, e) h
      go true e = fired_slots (firing s g.mask s.actor.groups) refl e h
