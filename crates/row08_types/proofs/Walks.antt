-- The places that the walk finds in a type, by where the type stands. Assumes nothing.
use mathlib.Core.Path.{◌≡◌, refl, sym, ap, ◌∙◌}
use mathlib.Core.Bool.{Bool, true, false, not, ◌||◌}
use mathlib.Core.List.{List, [], ◌∷◌, ◌++◌, append_assoc}
use Prim.Native.Nat.{ℕ, ◌+◌}
use native.Mathlib.Omega.{arith}
use lib.Dec.{leb}
use lib.ListN.{length}
use Rattle.language.specs.Limits.{limits}
use Rattle.language.specs.Names.{when}
use Rattle.language.specs.Tree.{Ty, number, environment, port, plus, minus, log, ceil, floor, most, entry, within}
use Rattle.language.specs.Types.{together, logs}
use Rattle.tape.specs.Tape.{item, flat_t, PLUS, MINUS, LOG, CEIL, FLOOR, MOST, ENTRY, WITHIN}
use Rattle.tape.specs.Nodes.{node_of}
use Rattle.row08_types.specs.Walk.{bare, seen_from, passing, logs_over, log_faulty, test}
use Rattle.tape.specs.declared.Node.{Node}
use Rattle.row08_types.specs.declared.Around.{Around}
use Rattle.row08_types.proofs.Scans.{Apart, ScanStands, stands_apart, stands_left, stands_before_minus, stands_right, stands_after_minus, stands_log, stands_whole, stands_most, stands_within, nodes_onto, passed_over, Before, before_none, before_more}

-- the places of the faulty items of a list, where these kinds stand before them
unfoldable pub walked : List Node → List ℕ → List ℕ
walked l [] = []
walked l (o ∷ []) = []
walked l (o ∷ p ∷ []) = []
walked l (o ∷ p ∷ v ∷ r) = when (test l (node_of o) v (seen_from 0 bare r)) p ++ walked (node_of o ∷ l) r

-- those of a type: whether no `max` may stand there, whether it is after a `-`, whether it is in a log, how many logs stand before it
unfoldable pub places_f : (low after nested : Bool) → ℕ → Ty → List ℕ
places_f low after nested k (number n) = when (not (leb n.value limits.typeNumber)) n.at
places_f low after nested k (environment n) = []
places_f low after nested k (port n) = when after n.at
places_f low after nested k (plus s t) = places_f low after nested k s ++ places_f low after nested (k + length (logs s)) t
places_f low after nested k (minus s t) = places_f low after nested k s ++ places_f true true nested (k + length (logs s)) t
places_f low after nested k (log p t) = places_f true after true k t ++ when (nested || leb together k) p
places_f low after nested k (ceil p t) = places_f true after false 0 t
places_f low after nested k (floor p t) = places_f true after false 0 t
places_f low after nested k (most p t) = places_f true after nested k t ++ when low p
places_f low after nested k (entry s t) = places_f low after nested k s ++ places_f low after nested (k + length (logs s)) t
places_f low after nested k (within p t) = places_f low after nested k t

module _ {r : List ℕ} {low after nested : Bool} {m : ℕ} {near : Bool} (h : ScanStands r low after nested m near) where
  seen : (seen_from 0 bare r).low ≡ low
  seen = ap (λ (s : Around). s.low) (h.on false false false 0 true)

  seen_after : (seen_from 0 bare r).after ≡ after
  seen_after = ap (λ (s : Around). s.after) (h.on false false false 0 true)

  seen_log : (t : Ty) (l : List Node) {k : ℕ} → Before l m k → log_faulty (nodes_onto t l) (seen_from 0 bare r) ≡ (nested || leb together k)
  unfolding log_faulty
  seen_log t l {k} b = ap (log_faulty (nodes_onto t l)) (h.on false false false 0 true)
      ∙ ap (λ (n : ℕ). nested || leb together n) (ap (λ (n : ℕ). logs_over (passing n) (nodes_onto t l)) z ∙ passed_over t l 0 m 0 ∙ b.on 0 ∙ zk)
    where
      z : 0 + m ≡ m
      z = omega arith

      zk : 0 + k ≡ k
      zk = omega arith

two_walk : (l : List Node) (a b c r f g : List ℕ) {x : List ℕ} (y : List ℕ) → walked l (a ++ (b ++ (c ++ r))) ≡ f ++ x → x ≡ g ++ y → walked l (((a ++ b) ++ c) ++ r) ≡ (f ++ g) ++ y
two_walk l a b c r f g y d e = ap (walked l) (append_assoc (a ++ b) c r ∙ append_assoc a b (c ++ r)) ∙ d ∙ ap (λ (z : List ℕ). f ++ z) e ∙ sym (append_assoc f g y)

pub type_walk : (t : Ty) (l : List Node) {r : List ℕ} {low after nested : Bool} {m : ℕ} {near : Bool} {k : ℕ} → ScanStands r low after nested m near → Before l m k → walked l (flat_t t ++ r) ≡ places_f low after nested k t ++ walked (nodes_onto t l) r
unfolding flat_t walked places_f nodes_onto node_of test when
type_walk (number n) l h b = refl
type_walk (environment n) l h b = refl
type_walk (port n) l {r} h b = ap (λ (x : Bool). when x n.at ++ walked (nodes_onto (port n) l) r) (seen_after h)
type_walk (plus s t) l {r} {low} {after} {nested} {m} {near} {k} h b =
    two_walk l (flat_t s) (flat_t t) (item PLUS 0 0) r (places_f low after nested k s) (places_f low after nested (k + length (logs s)) t) (walked (nodes_onto (plus s t) l) r) (type_walk s l (stands_left h t PLUS refl) b) (type_walk t (nodes_onto s l) (stands_right h PLUS refl) (before_more s b))
type_walk (minus s t) l {r} {low} {after} {nested} {m} {near} {k} h b =
    two_walk l (flat_t s) (flat_t t) (item MINUS 0 0) r (places_f low after nested k s) (places_f true true nested (k + length (logs s)) t) (walked (nodes_onto (minus s t) l) r) (type_walk s l (stands_before_minus h t) b) (type_walk t (nodes_onto s l) (stands_after_minus h) (before_more s b))
type_walk (log p t) l {r} {low} {after} {nested} {m} {near} {k} h b =
    ap (walked l) (append_assoc (flat_t t) (item LOG p 0) r) ∙ type_walk t l (stands_log h p) b ∙ ap (λ (x : Bool). places_f true after true k t ++ (when x p ++ walked (nodes_onto (log p t) l) r)) (seen_log h t l b) ∙ sym (append_assoc (places_f true after true k t) (when (nested || leb together k) p) _)
type_walk (ceil p t) l {r} h b = ap (walked l) (append_assoc (flat_t t) (item CEIL p 0) r) ∙ type_walk t l (stands_whole h CEIL p refl) (before_none l)
type_walk (floor p t) l {r} h b = ap (walked l) (append_assoc (flat_t t) (item FLOOR p 0) r) ∙ type_walk t l (stands_whole h FLOOR p refl) (before_none l)
type_walk (most p t) l {r} {low} {after} {nested} {m} {near} {k} h b =
    ap (walked l) (append_assoc (flat_t t) (item MOST p 0) r) ∙ type_walk t l (stands_most h p) b ∙ ap (λ (x : Bool). places_f true after nested k t ++ (when x p ++ walked (nodes_onto (most p t) l) r)) (seen h) ∙ sym (append_assoc (places_f true after nested k t) (when low p) _)
type_walk (entry s t) l {r} {low} {after} {nested} {m} {near} {k} h b =
    two_walk l (flat_t s) (flat_t t) (item ENTRY 0 0) r (places_f low after nested k s) (places_f low after nested (k + length (logs s)) t) (walked (nodes_onto (entry s t) l) r) (type_walk s l (stands_left h t ENTRY refl) b) (type_walk t (nodes_onto s l) (stands_right h ENTRY refl) (before_more s b))
type_walk (within p t) l {r} h b = ap (walked l) (append_assoc (flat_t t) (item WITHIN p 0) r) ∙ type_walk t l (stands_within h p) b

-- a whole type
abbrev pub places_t : Ty → List ℕ
places_t t = places_f false false false 0 t

pub whole_walk : (t : Ty) (l : List Node) {r : List ℕ} → Apart r → walked l (flat_t t ++ r) ≡ places_t t ++ walked (nodes_onto t l) r
whole_walk t l d = type_walk t l (stands_apart d) (before_none l)
