-- What `solve` answers for an actor's wants is what the rules say: row 10, or the least widths. Assumes nothing.
use mathlib.Core.Path.{◌≡◌, refl, sym, ap, ◌∙◌, subst}
use mathlib.Core.Bool.{Bool, true, false}
use mathlib.Core.List.{List}
use mathlib.Core.Option.{Option, none, some}
use Prim.Native.Nat.{ℕ, ◌<◌}
use native.Mathlib.Nat.{le_refl, le_antisymm}
use native.Mathlib.Omega.{arith}
use lib.Dec.{lit≤, lit<}
use lib.ListN.{length, get_or, length-map, get_or-map}
use lib.Seq.{ext_get_or}
use Rattle.language.specs.Text.{index}
use Rattle.language.specs.Tree.{Ty, Actor, spelled_of}
use Rattle.language.specs.Bindings.{Bindings}
use Rattle.language.specs.Types.{whole_of, floor_of, width_of, exact_of}
use Rattle.language.specs.Widths.{Want, exactly, valued, wants, value_in, port_width, type_width, wanted_width, Satisfies, Least, Resolved}
use Rattle.type_value.specs.Terms.{Term, value_at}
use Rattle.typing.specs.Solved.{wanted, Solves, Answer, term_of, terms_of}
use Rattle.exact.proofs.Logs.{down_is, up_zero}
use Rattle.typing.proofs.Rules.{resolved}

-- a number's width is itself
pub number_width : (n : ℕ) → width_of (whole_of n 0) ≡ n
unfolding width_of floor_of
number_width n = omega (arith, down_is 1 1 0 (lit< tt) (lit≤ tt) (lit< tt), up_zero 1 1 (lit< tt) (le_refl 1))

module _ (a : Actor) (b : Bindings) where
  -- a type of the text, at the widths of the ports and the values of the environment
  pub type_same : (ws : List ℕ) (t : Ty) → value_at ws (term_of a b (valued t)) ≡ exact_of (port_width a ws) (value_in b.values) t
  unfolding term_of port_width
  type_same ws t = sym (resolved (port_width a ws) (value_in b.values) (index (spelled_of a.signature)) ws (λ s. refl) t)

  pub want_same : (ws : List ℕ) (w : Want) → width_of (value_at ws (term_of a b w)) ≡ wanted_width a b ws w
  unfolding term_of wanted_width type_width value_at
  want_same ws (exactly w) = number_width w
  want_same ws (valued t) = ap width_of (type_same ws t)

  pub as_many : length (terms_of a b) ≡ length (wants a b)
  unfolding terms_of
  as_many = length-map (wants a b) (term_of a b)

  pub wanted_same : (ws : List ℕ) (i : ℕ) → wanted (terms_of a b) ws i ≡ wanted_width a b ws (get_or (wants a b) i (exactly 0))
  unfolding wanted terms_of term_of
  wanted_same ws i = ap (λ (t : Term). width_of (value_at ws t)) (get_or-map (term_of a b) (wants a b) i (exactly 0)) ∙ want_same ws (get_or (wants a b) i (exactly 0))

  pub to_satisfies : (ws : List ℕ) → Solves (terms_of a b) ws → Satisfies a b ws
  to_satisfies ws s = record { long = s.long ∙ as_many; small = s.small; equal = λ i h. s.holds i (subst (λ (n : ℕ). i < n) (sym as_many) h) ∙ wanted_same ws i }

  pub to_solves : (ws : List ℕ) → Satisfies a b ws → Solves (terms_of a b) ws
  to_solves ws s = record { long = s.long ∙ sym as_many; small = s.small; holds = λ i h. s.equal i (subst (λ (n : ℕ). i < n) as_many h) ∙ sym (wanted_same ws i) }

  -- true: the least widths; false: "no widths from 0 to 32 satisfy every type"
  pub found : (ws : List ℕ) → Answer true (terms_of a b) ws → Least a b ws
  found ws l = record { satisfies = to_satisfies ws l.solves; least = λ vs s. l.least vs (to_solves vs s) }

  pub not_found : (ws : List ℕ) → Answer false (terms_of a b) ws → (vs : List ℕ) → Satisfies a b vs → ⊥
  not_found ws n vs s = n.0 vs (to_solves vs s)

  pub answered : (r : Bool) (ws : List ℕ) → Answer r (terms_of a b) ws → Resolved a b (elim r [ true ↦ some ws | false ↦ none ])
  answered true ws l = found ws l
  answered false ws n = not_found ws n

  -- there is one answer
  pub one_resolved : (x y : Option (List ℕ)) → Resolved a b x → Resolved a b y → x ≡ y
  one_resolved none none p q = refl
  one_resolved none (some ws) p q = absurd (p ws q.satisfies)
  one_resolved (some ws) none p q = absurd (q ws p.satisfies)
  one_resolved (some ws) (some vs) p q =
      ap some (ext_get_or 0 ws vs (p.satisfies.long ∙ sym q.satisfies.long) (λ i h. le_antisymm (p.least vs q.satisfies i) (q.least ws p.satisfies i)))
