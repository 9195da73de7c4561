-- THE THEOREM: the earliest faulty item of the tape that holds an actor is the earliest fault of row 6. Assumes nothing.
use mathlib.Core.Path.{◌≡◌, refl, sym, ap, ◌∙◌}
use mathlib.Core.Bool.{Bool, true, false, ◌||◌}
use mathlib.Core.List.{List, []}
use Prim.Native.Nat.{ℕ, ◌+◌, ◌*◌, ◌≤◌, ◌<◌}
use lib.ListN.{length}
use Rattle.language.specs.Text.{among, earliest}
use Rattle.language.specs.Words.{Word}
use Rattle.language.specs.Tree.{Actor, spelled_of, port_names, memory_names}
use Rattle.language.specs.Names.{ports, memories, name_faults}
use Rattle.placed.proofs.Placed.{placed}
use Rattle.placed.proofs.Earliest.{earliest_same}
use Rattle.tape.specs.Tape.{END, RULED}
use Rattle.words.specs.Found.{place_told}
use Rattle.tape.specs.Row.{Tells}
use Rattle.tape.specs.Walk.{names_on, after}
use Rattle.row06_names.specs.Walk.{Seen, seen_at, faults_at}
use Rattle.tape.proofs.Does.{Ran, ran, walked}
use Rattle.row06_names.proofs.Seens.{next, seen_more}
use Rattle.placed.proofs.Same.{pushed, or_false, among_append, among_pushed, among_inputs, among_outputs}
use Rattle.row06_names.proofs.Parts.{actor_f}
use Rattle.row06_names.proofs.Actors.{final, actor_does}
use Rattle.row06_names.proofs.Faults.{Agree, actor_same}

or_swap : (x y : Bool) → (x || y) ≡ (y || x)
or_swap true true = refl
or_swap true false = refl
or_swap false true = refl
or_swap false false = refl

-- names met that are the actor's are the actor's names
agrees : (all : Seen) (a : Actor) → all.signed ≡ (final a).signed → all.declared ≡ (final a).declared → all.inputs ≡ (final a).inputs → all.outputs ≡ (final a).outputs → all.taken ≡ (final a).taken → Agree all a
unfolding ports memories among
agrees all a sg dc ip op tk =
    record {
      signed = λ s. ap (λ (l : List (List ℕ)). among l s) sg ∙ among_pushed s a.signature [] ∙ or_false _;
      declared = λ s. ap (λ (l : List (List ℕ)). among l s) dc ∙ among_pushed s (port_names a.ports) [] ∙ or_false _;
      inputs = λ s. ap (λ (l : List (List ℕ)). among l s) ip ∙ among_inputs s a.ports [] ∙ or_false _;
      outputs = λ s. ap (λ (l : List (List ℕ)). among l s) op ∙ among_outputs s a.ports [] ∙ or_false _;
      taken = λ s. ap (λ (l : List (List ℕ)). among l s) tk ∙ among_pushed s (memory_names a.memories) (pushed (port_names a.ports) [])
          ∙ ap (λ (b : Bool). among (spelled_of (memory_names a.memories)) s || b) (among_pushed s (port_names a.ports) [] ∙ or_false (among (spelled_of (port_names a.ports)) s)) ∙ or_swap (among (spelled_of (memory_names a.memories)) s) (among (spelled_of (port_names a.ports)) s) ∙ sym (among_append s (spelled_of (port_names a.ports)) (spelled_of (memory_names a.memories)));
    }

module _ (text t : List ℕ) (n many : ℕ) (k : n ≤ length t) (low : 3 * many ≤ n) (high : n < 3 * many + 3) {ws : List Word} {a : Actor} (h : Tells text t n ws a) where
  -- the walk by index, and what it does on the actor's items
  ends : ran (faults_at text t many many) (seen_at text t (after RULED t many) (after END t many) many) ≡ ran (actor_f (seen_at text t 0 0 many) a) (final a)
  unfolding after names_on
  ends = walked _ (next text) t (λ i. seen_at text t (after RULED t i) (after END t i) i) (seen_more text t) k low high h.holds (actor_does text _ a (placed h.lexed h.parses))

  pub agreed : Agree (seen_at text t 0 0 many) a
  agreed = agrees _ a (ap (λ (r : Ran Seen). r.seen.signed) ends) (ap (λ (r : Ran Seen). r.seen.declared) ends) (ap (λ (r : Ran Seen). r.seen.inputs) ends) (ap (λ (r : Ran Seen). r.seen.outputs) ends) (ap (λ (r : Ran Seen). r.seen.taken) ends)

  pub earliest_fault : place_told (earliest (faults_at text t many many)) ≡ place_told (earliest (name_faults a))
  earliest_fault = ap place_told (ap (λ (r : Ran Seen). earliest r.faults) ends ∙ earliest_same (actor_same _ a agreed).to (actor_same _ a agreed).from)
