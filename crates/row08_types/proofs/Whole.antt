-- THE THEOREM: the earliest faulty item of the tape that holds an actor is the earliest fault of row 8. Assumes nothing.
use mathlib.Core.Path.{◌≡◌, refl, sym, ap, ◌∙◌}
use mathlib.Core.Bool.{Bool, true, false}
use mathlib.Core.List.{List, [], ◌∷◌, ◌++◌, append_assoc, append-nil}
use Prim.Native.Nat.{ℕ, zero, suc, ◌+◌, ◌*◌, ◌≤◌, ◌<◌}
use native.Mathlib.Omega.{arith}
use native.Mathlib.Numerals.{add-one}
use lib.ListN.{length, take, drop, length-take, length-drop}
use Rattle.language.specs.Text.{earliest}
use Rattle.language.specs.Words.{Word}
use Rattle.language.specs.Names.{when}
use Rattle.language.specs.Parts.{each, actor_items, types}
use Rattle.language.specs.Types.{type_faults}
use Rattle.language.specs.Tree.{Actor}
use Rattle.words.specs.Found.{place_told}
use Rattle.placed.proofs.Earliest.{earliest_same}
use Rattle.tape.specs.Row.{Tells}
use Rattle.tape.specs.Walk.{op_at, place_at, value_at, put, marked}
use Rattle.tape.proofs.Tapes.{item_at_law}
use Rattle.placed.proofs.Same.{Same, is, then}
use Rattle.tape.specs.Nodes.{node_of}
use Rattle.row08_types.specs.Walk.{bare, seen_from, nodes_before, test, faulty, faults_at}
use Rattle.tape.specs.declared.Node.{Node}
use Rattle.row08_types.proofs.Walks.{walked}
use Rattle.row08_types.proofs.Rules.{types_same}
use Rattle.row08_types.proofs.Actors.{actor_finds}

few : (l : List Node) (r : List ℕ) → length r ≤ 2 → walked l r ≡ []
unfolding walked
few l [] h = refl
few l (a ∷ []) h = refl
few l (a ∷ b ∷ []) h = refl
few l (a ∷ b ∷ c ∷ r) h = absurd (omega arith)

-- what `marked` puts last is the first of what is left
put_here : (b : Bool) (p : ℕ) (ps r : List ℕ) → put b p ps ++ r ≡ ps ++ (when b p ++ r)
unfolding put when
put_here true p ps r = append_assoc ps (p ∷ []) r
put_here false p ps r = refl

module _ (t : List ℕ) (n many : ℕ) (k : n ≤ length t) (low : 3 * many ≤ n) where
  -- the item at an index is the first of what is left
  one_item : (i : ℕ) → i < many → walked (nodes_before t i) (drop (3 * i) (take n t)) ≡ when (faulty t n i) (place_at t i) ++ walked (nodes_before t (suc i)) (drop (3 * suc i) (take n t))
  unfolding walked nodes_before
  one_item i h = ap (walked (nodes_before t i)) (item_at_law t n i (omega arith) k) ∙ ap (λ (j : ℕ). when (test (nodes_before t i) (node_of (op_at t i)) (value_at t i) (seen_from 0 bare (drop (3 * j) (take n t)))) (place_at t i) ++ walked (nodes_before t (suc i)) (drop (3 * suc i) (take n t))) (sym (add-one i))

  so_far : (i : ℕ) → i ≤ many → faults_at t n i ++ walked (nodes_before t i) (drop (3 * i) (take n t)) ≡ walked [] (take n t)
  unfolding marked nodes_before
  so_far zero h = refl
  so_far (suc i) h =
      put_here (faulty t n i) (place_at t i) (faults_at t n i) _ ∙ ap (λ (r : List ℕ). faults_at t n i ++ r) (sym (one_item i (omega arith))) ∙ so_far i (omega arith)

  all : n < 3 * many + 3 → faults_at t n many ≡ walked [] (take n t)
  all high =
      let a = length-drop (3 * many) (take n t) in
      let b = length-take n t in
      let none = few (nodes_before t many) (drop (3 * many) (take n t)) (omega arith) in
      sym (append-nil (faults_at t n many)) ∙ ap (λ (r : List ℕ). faults_at t n many ++ r) (sym none) ∙ so_far many (omega arith)

  pub earliest_fault : n < 3 * many + 3 → {text : List ℕ} {ws : List Word} {a : Actor} → Tells text t n ws a → place_told (earliest (faults_at t n many)) ≡ place_told (earliest (each type_faults (types (actor_items a))))
  unfolding walked
  earliest_fault high {a = a} h = ap place_told (earliest_same same.to same.from)
    where
      found : Same (walked [] (take n t)) (actor_finds a).found
      found = is (ap (walked []) (h.holds ∙ sym (append-nil _)) ∙ (actor_finds a).goes [] [] ∙ append-nil _)

      same : Same (faults_at t n many) (each type_faults (types (actor_items a)))
      same = then (is (all high)) (then found (then (actor_finds a).same (types_same (types (actor_items a)))))
