-- The nodes that the search takes off the items of a type are the type's code. Assumes nothing.
use mathlib.Core.Path.{◌≡◌, refl, sym, ap, ap₂, ◌∙◌}
use mathlib.Core.List.{List, [], ◌∷◌, ◌++◌, append_assoc}
use Prim.Native.Nat.{ℕ, zero, suc, ◌+◌, ◌*◌, ◌%◌, ◌≤◌}
use native.Mathlib.Omega.{arith}
use lib.ListN.{take}
use Rattle.language.specs.Limits.{limits}
use Rattle.language.specs.Tree.{Ty, number, environment, port, plus, minus, log, ceil, floor, most, entry, within}
use Rattle.placed.specs.Placed.{PlacedType}
use Rattle.tape.specs.Tape.{item, flat_t, NUMBER, ENVIRONMENT, PORT, PLUS, MINUS, LOG, CEIL, FLOOR, MOST, ENTRY, WITHIN}
use Rattle.type_value.specs.Terms.{code, resolve, Fine}
use Rattle.tape.specs.Nodes.{node_of as tape_node_of}
use Rattle.type_nodes.specs.Codes.{outside_of, role_in, Env, port_of, value_of, number_node, node_of, capped, grown_of, stops_at, left_of, sought_in}
use Rattle.type_nodes.specs.declared.Goal.{Goal}

cap_both : (n : ℕ) (l y : List ℕ) → take n (take n l ++ y) ≡ take n (l ++ y)
cap_both zero l y = refl
cap_both (suc n) [] y = refl
cap_both (suc n) (x ∷ l) y = ap (λ (r : List ℕ). x ∷ r) (cap_both n l y)

unfoldable pub nodes_t : Env → Ty → List ℕ
nodes_t e (number n) = number_node n.value ∷ []
nodes_t e (environment n) = number_node (value_of e n.spelled) ∷ []
nodes_t e (port n) = (port_of e n.spelled * 8 + 1) ∷ []
nodes_t e (plus s t) = nodes_t e s ++ (nodes_t e t ++ (5 ∷ []))
nodes_t e (minus s t) = nodes_t e s ++ (nodes_t e t ++ (6 ∷ []))
nodes_t e (log p t) = nodes_t e t ++ (2 ∷ [])
nodes_t e (ceil p t) = nodes_t e t ++ (4 ∷ [])
nodes_t e (floor p t) = nodes_t e t ++ (3 ∷ [])
nodes_t e (most p t) = nodes_t e t
nodes_t e (entry s t) = nodes_t e s ++ (nodes_t e t ++ (7 ∷ []))
nodes_t e (within p t) = nodes_t e t

-- ---- the code of the type, where its names are resolved alike

pub number_node_law : (x : ℕ) → x ≤ limits.typeNumber → number_node x ≡ x * 8
unfolding number_node
number_node_law x h = let e : x % 65536 ≡ x = omega arith in ap (λ (y : ℕ). y * 8) e

module _ (e : Env) (place values : List ℕ → ℕ) (f : (s : List ℕ) → port_of e s ≡ place s) (g : (s : List ℕ) → value_of e s ≡ values s) (n : ℕ) where
  pub nodes_code : (t : Ty) → Fine n (resolve place values t) → nodes_t e t ≡ code (resolve place values t)
  unfolding nodes_t code resolve
  nodes_code (number x) h = ap (λ (y : ℕ). y ∷ []) (number_node_law x.value h)
  nodes_code (environment x) h = ap (λ (y : ℕ). y ∷ []) (ap number_node (g x.spelled) ∙ number_node_law (values x.spelled) h)
  nodes_code (port x) h = ap (λ (y : ℕ). (y * 8 + 1) ∷ []) (f x.spelled)
  nodes_code (plus s t) h = ap₂ (λ (x y : List ℕ). x ++ (y ++ (5 ∷ []))) (nodes_code s h.0) (nodes_code t h.1)
  nodes_code (minus s t) h = ap₂ (λ (x y : List ℕ). x ++ (y ++ (6 ∷ []))) (nodes_code s h.0) (nodes_code t h.1)
  nodes_code (log p t) h = ap (λ (x : List ℕ). x ++ (2 ∷ [])) (nodes_code t h.0)
  nodes_code (ceil p t) h = ap (λ (x : List ℕ). x ++ (4 ∷ [])) (nodes_code t h.0)
  nodes_code (floor p t) h = ap (λ (x : List ℕ). x ++ (3 ∷ [])) (nodes_code t h.0)
  nodes_code (most p t) h = nodes_code t h
  nodes_code (entry s t) h = ap₂ (λ (x y : List ℕ). x ++ (y ++ (7 ∷ []))) (nodes_code s h.0) (nodes_code t h.1)
  nodes_code (within p t) h = nodes_code t h

-- ---- the search over the items of a type

module _ (e : Env) where
  pub record Takes (a x : List ℕ) : Type 0 where
    pub on : (g : Goal) (l r : List ℕ) → sought_in e g l (a ++ r) ≡ sought_in e g (capped (l ++ x)) r

  takes_both : {a b : List ℕ} (x y : List ℕ) → Takes a x → Takes b y → Takes (a ++ b) (x ++ y)
  takes_both {a} {b} x y c d =
      record {
        on = λ g l r. ap (sought_in e g l) (append_assoc a b r) ∙ c.on g l (b ++ r) ∙ d.on g (capped (l ++ x)) r ∙ ap (λ (z : List ℕ). sought_in e g z r) (cap_both limits.typeWords (l ++ x) y ∙ ap capped (append_assoc l x y));
      }

  takes_item : (o p v x : ℕ) → ((g : Goal) (l r : List ℕ) → sought_in e g l (item o p v ++ r) ≡ sought_in e g (capped (l ++ (x ∷ []))) r) → Takes (item o p v) (x ∷ [])
  takes_item o p v x h = record { on = h }

  -- an item that is no node
  takes_more : {a x : List ℕ} (o p v : ℕ) → Takes a x → ((g : Goal) (l r : List ℕ) → sought_in e g l (item o p v ++ r) ≡ sought_in e g l r) → Takes (a ++ item o p v) x
  takes_more {a} {x} o p v c h = record { on = λ g l r. ap (sought_in e g l) (append_assoc a (item o p v) r) ∙ c.on g l (item o p v ++ r) ∙ h g (capped (l ++ x)) r }

  takes_two : {a b : List ℕ} (x y : List ℕ) (o z : ℕ) → Takes a x → Takes b y → Takes (item o 0 0) (z ∷ []) → Takes ((a ++ b) ++ item o 0 0) (x ++ (y ++ (z ∷ [])))
  takes_two {a} {b} x y o z c d i = record { on = λ g l r. (takes_both (x ++ y) (z ∷ []) (takes_both x y c d) i).on g l r ∙ ap (λ (w : List ℕ). sought_in e g (capped (l ++ w)) r) (append_assoc x y (z ∷ [])) }

  pub type_takes : (t : Ty) → PlacedType e.text t → Takes (flat_t t) (nodes_t e t)
  unfolding flat_t nodes_t sought_in role_in outside_of tape_node_of stops_at left_of grown_of node_of
  type_takes (number n) h = takes_item NUMBER n.at n.value (number_node n.value) (λ g l r. refl)
  type_takes (environment n) h = takes_item ENVIRONMENT n.at 0 (number_node (value_of e n.spelled)) (λ g l r. ap (λ (s : List ℕ). sought_in e g (capped (l ++ (number_node (value_of e s) ∷ []))) r) (sym h))
  type_takes (port n) h = takes_item PORT n.at 0 (port_of e n.spelled * 8 + 1) (λ g l r. ap (λ (s : List ℕ). sought_in e g (capped (l ++ ((port_of e s * 8 + 1) ∷ []))) r) (sym h))
  type_takes (plus s t) h = takes_two (nodes_t e s) (nodes_t e t) PLUS 5 (type_takes s h.0) (type_takes t h.1) (takes_item PLUS 0 0 5 (λ g l r. refl))
  type_takes (minus s t) h = takes_two (nodes_t e s) (nodes_t e t) MINUS 6 (type_takes s h.0) (type_takes t h.1) (takes_item MINUS 0 0 6 (λ g l r. refl))
  type_takes (log p t) h = takes_both (nodes_t e t) (2 ∷ []) (type_takes t h) (takes_item LOG p 0 2 (λ g l r. refl))
  type_takes (ceil p t) h = takes_both (nodes_t e t) (4 ∷ []) (type_takes t h) (takes_item CEIL p 0 4 (λ g l r. refl))
  type_takes (floor p t) h = takes_both (nodes_t e t) (3 ∷ []) (type_takes t h) (takes_item FLOOR p 0 3 (λ g l r. refl))
  type_takes (most p t) h = takes_more MOST p 0 (type_takes t h) (λ g l r. refl)
  type_takes (entry s t) h = takes_two (nodes_t e s) (nodes_t e t) ENTRY 7 (type_takes s h.0) (type_takes t h.1) (takes_item ENTRY 0 0 7 (λ g l r. refl))
  type_takes (within p t) h = takes_more WITHIN p 0 (type_takes t h) (λ g l r. refl)
