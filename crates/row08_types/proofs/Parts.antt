-- What the walk finds in each part of an actor: the places of its types, whatever stands before and after it. Assumes nothing.
use mathlib.Core.Path.{◌≡◌, refl, sym, ap, ◌∙◌, subst}
use mathlib.Core.List.{List, [], ◌∷◌, ◌++◌, append_assoc, append-nil}
use Prim.Native.Nat.{ℕ}
use Rattle.language.specs.Names.{when}
use Rattle.language.specs.Parts.{each, Item, reads, items, breadth_items, amount_items, types}
use Rattle.language.specs.Tree.{Ty, Breadth, bits, Amount, given, value}
use Rattle.language.specs.Tree.{Expr, plain, sized, copies, read, cell, bit, range, inside, joined, beside, unary, binary, choice, either, select, arm, default}
use Rattle.tape.specs.Tape.{item, flat_t, flat_b, flat_a, flat, flats}
use Rattle.placed.proofs.Every.{each_append}
use Rattle.placed.proofs.Same as same
use Rattle.placed.proofs.Same.{Same, is, equal, then}
use Rattle.tape.specs.Nodes.{node_of}
use Rattle.row08_types.specs.Walk.{bare, seen_from, test}
use Rattle.tape.specs.declared.Node.{Node}
use Rattle.tape.specs.declared.Node.TheVariants.{Other}
use Rattle.row08_types.proofs.Scans.{Apart, apart_item, apart_type, nodes_onto}
use Rattle.row08_types.proofs.Walks.{walked, places_t, whole_walk}

-- the places that the walk finds in the types among some items
abbrev pub places_i : List Item → List ℕ
places_i x = each places_t (types x)

types_append : (x y : List Item) → types (x ++ y) ≡ types x ++ types y
unfolding types
types_append [] y = refl
types_append (Item.type t ∷ x) y = ap (λ (r : List Ty). t ∷ r) (types_append x y)
types_append (Item.number n ∷ x) y = types_append x y
types_append (reads n ∷ x) y = types_append x y
types_append (Item.value n ∷ x) y = types_append x y

pub places_append : (x y : List Item) → places_i (x ++ y) ≡ places_i x ++ places_i y
places_append x y = ap (each places_t) (types_append x y) ∙ each_append places_t (types x) (types y)

-- ---- the walk over some numbers finds the places of these items

pub record Finds (a : List ℕ) (x : List Item) : Type 0 where
  pub after : List Node → List Node
  pub found : List ℕ
  pub goes : (l : List Node) (r : List ℕ) → walked l (a ++ r) ≡ found ++ walked (after l) r
  pub same : Same found (places_i x)

pub told : {a : List ℕ} {x y : List Item} → Same (places_i x) (places_i y) → Finds a x → Finds a y
told s d = record { after = d.after; found = d.found; goes = d.goes; same = then d.same s }

pub listed : {a : List ℕ} {x y : List Item} → x ≡ y → Finds a x → Finds a y
listed {a} e d = subst (λ (x : List Item). Finds a x) e d

pub spread : {a b : List ℕ} {x : List Item} → a ≡ b → Finds a x → Finds b x
spread {x = x} e d = subst (λ (a : List ℕ). Finds a x) e d

pub none : Finds [] []
unfolding each types
none = record { after = λ l. l; found = []; goes = λ l r. refl; same = equal [] }

pub both : {a b : List ℕ} {x y : List Item} → Finds a x → Finds b y → Finds (a ++ b) (x ++ y)
both {a} {b} {x} {y} d e =
    record {
      after = λ l. e.after (d.after l);
      found = d.found ++ e.found;
      goes = λ l r. ap (walked l) (append_assoc a b r) ∙ d.goes l (b ++ r) ∙ ap (λ (z : List ℕ). d.found ++ z) (e.goes (d.after l) r) ∙ sym (append_assoc d.found e.found (walked (e.after (d.after l)) r));
      same = then (same.beside d.same e.same) (is (sym (places_append x y)));
    }

-- an item of no type
pub quiet : (o p v : ℕ) → node_of o ≡ Other → Finds (item o p v) []
unfolding walked each types test when
quiet o p v e =
    record {
      after = λ l. Other ∷ l;
      found = [];
      goes = λ l r. ap (λ (k : Node). when (test l k v (seen_from 0 bare r)) p ++ walked (k ∷ l) r) e;
      same = equal [];
    }

pub ends : {a : List ℕ} {x : List Item} (o p v : ℕ) → Finds a x → node_of o ≡ Other → Finds (a ++ item o p v) x
ends {x = x} o p v d e = listed (append-nil x) (both d (quiet o p v e))

pub many : {T : Type 0} (fl : T → List ℕ) (its : T → List Item) → ((x : T) → Finds (fl x) (its x)) → (l : List T) → Finds (flats fl l) (each its l)
unfolding flats each
many fl its d [] = none
many fl its d (x ∷ l) = both (d x) (many fl its d l)

pub many_quiet : {T : Type 0} (fl : T → List ℕ) → ((x : T) → Finds (fl x) []) → (l : List T) → Finds (flats fl l) []
unfolding flats
many_quiet fl d [] = none
many_quiet fl d (x ∷ l) = both (d x) (many_quiet fl d l)

-- ---- types, before what says nothing of them

pub record Starts (a : List ℕ) : Type 0 where
  pub on : (r : List ℕ) → Apart (a ++ r)

pub starts_item : (o p v : ℕ) → node_of o ≡ Other → Starts (item o p v)
starts_item o p v e = record { on = λ r. apart_item o p v r e }

pub starts_more : {a : List ℕ} (b : List ℕ) → Starts a → Starts (a ++ b)
starts_more {a} b d = record { on = λ r. subst (λ (z : List ℕ). Apart z) (sym (append_assoc a b r)) (d.on (b ++ r)) }

pub starts_type : (t : Ty) {b : List ℕ} → Starts b → Starts (flat_t t ++ b)
starts_type t {b} d = record { on = λ r. subst (λ (z : List ℕ). Apart z) (sym (append_assoc (flat_t t) b r)) (apart_type t (d.on r)) }

pub typed : (t : Ty) {b : List ℕ} {y : List Item} → Starts b → Finds b y → Finds (flat_t t ++ b) (Item.type t ∷ y)
unfolding each types
typed t {b} s d =
    record {
      after = λ l. d.after (nodes_onto t l);
      found = places_t t ++ d.found;
      goes = λ l r. ap (walked l) (append_assoc (flat_t t) b r) ∙ whole_walk t l (s.on r) ∙ ap (λ (z : List ℕ). places_t t ++ z) (d.goes (nodes_onto t l) r) ∙ sym (append_assoc (places_t t) d.found (walked (d.after (nodes_onto t l)) r));
      same = same.beside (equal (places_t t)) d.same;
    }

-- ---- expressions

pub expr_starts : (e : Expr) → Starts (flat e)
unfolding flat flat_b node_of
expr_starts (plain n) = starts_item _ _ _ refl
expr_starts (sized (bits n) v) = starts_more _ (starts_item _ _ _ refl)
expr_starts (sized (Breadth.typed p t) v) = starts_more _ (starts_type t (starts_item _ _ _ refl))
expr_starts (copies n e) = starts_more _ (expr_starts e)
expr_starts (read n) = starts_item _ _ _ refl
expr_starts (cell n e) = starts_more _ (expr_starts e)
expr_starts (bit e p i) = starts_more _ (starts_more _ (expr_starts e))
expr_starts (range e p i j) = starts_more _ (starts_more _ (starts_more _ (expr_starts e)))
expr_starts (inside p e) = starts_more _ (expr_starts e)
expr_starts (joined p e) = starts_more _ (expr_starts e)
expr_starts (beside a b) = starts_more _ (starts_more _ (expr_starts a))
expr_starts (unary u e) = starts_more _ (expr_starts e)
expr_starts (binary o a b) = starts_more _ (starts_more _ (expr_starts a))
expr_starts (choice c a b) = starts_more _ (starts_more _ (starts_more _ (expr_starts c)))
expr_starts (either p c a b) = starts_more _ (starts_more _ (starts_more _ (expr_starts c)))
expr_starts (select p e a) = starts_more _ (starts_more _ (starts_more _ (expr_starts e)))
expr_starts (arm n e r) = starts_more _ (starts_more _ (expr_starts e))
expr_starts (default p e) = starts_more _ (expr_starts e)

-- a type at the end of an expression; two of them
one_type : {a : List ℕ} {x : List Item} (t : Ty) (o p v : ℕ) → Finds a x → node_of o ≡ Other → Finds ((a ++ flat_t t) ++ item o p v) (x ++ (Item.type t ∷ []))
one_type {a} t o p v d e = spread (sym (append_assoc a (flat_t t) (item o p v))) (both d (typed t (starts_item o p v e) (quiet o p v e)))

two_types : {a : List ℕ} {x : List Item} (s t : Ty) (o p v : ℕ) → Finds a x → node_of o ≡ Other → Finds (((a ++ flat_t s) ++ flat_t t) ++ item o p v) (x ++ (Item.type s ∷ Item.type t ∷ []))
two_types {a} s t o p v d e =
    spread (sym (append_assoc (a ++ flat_t s) (flat_t t) (item o p v) ∙ append_assoc a (flat_t s) (flat_t t ++ item o p v)))
    (both d (typed s (starts_type t (starts_item o p v e)) (typed t (starts_item o p v e) (quiet o p v e))))

three : {a b c : List ℕ} (x y z : List Item) → Finds a x → Finds b y → Finds c z → Finds ((a ++ b) ++ c) (x ++ (y ++ z))
three x y z d e f = listed (append_assoc x y z) (both (both d e) f)

breadth_finds : (w : Breadth) → Finds (flat_b w) (breadth_items w)
unfolding flat_b breadth_items node_of
breadth_finds (bits n) = quiet _ _ _ refl
breadth_finds (Breadth.typed p t) = typed t (starts_item _ _ _ refl) (quiet _ _ _ refl)

amount_finds : (v : Amount) → Finds (flat_a v) (amount_items v)
unfolding flat_a amount_items node_of each types
amount_finds (given n) = quiet _ _ _ refl
amount_finds (value n) = told (equal []) (quiet _ _ _ refl)

pub expr_finds : (e : Expr) → Finds (flat e) (items e)
unfolding flat items node_of each types
expr_finds (plain n) = quiet _ _ _ refl
expr_finds (sized w v) = both (breadth_finds w) (amount_finds v)
expr_finds (copies n e) = told (equal (places_i (items e))) (ends _ _ _ (expr_finds e) refl)
expr_finds (read n) = told (equal []) (quiet _ _ _ refl)
expr_finds (cell n e) = ends _ _ _ (expr_finds e) refl
expr_finds (bit e p i) = one_type i _ _ _ (expr_finds e) refl
expr_finds (range e p i j) = two_types i j _ _ _ (expr_finds e) refl
expr_finds (inside p e) = ends _ _ _ (expr_finds e) refl
expr_finds (joined p e) = ends _ _ _ (expr_finds e) refl
expr_finds (beside a b) = ends _ _ _ (both (expr_finds a) (expr_finds b)) refl
expr_finds (unary u e) = ends _ _ _ (expr_finds e) refl
expr_finds (binary o a b) = ends _ _ _ (both (expr_finds a) (expr_finds b)) refl
expr_finds (choice c a b) = ends _ _ _ (three (items c) (items a) (items b) (expr_finds c) (expr_finds a) (expr_finds b)) refl
expr_finds (either p c a b) = ends _ _ _ (three (items c) (items a) (items b) (expr_finds c) (expr_finds a) (expr_finds b)) refl
expr_finds (select p e a) = ends _ _ _ (both (ends _ _ _ (expr_finds e) refl) (expr_finds a)) refl
expr_finds (arm n e r) = ends _ _ _ (both (expr_finds e) (expr_finds r)) refl
expr_finds (default p e) = ends _ _ _ (expr_finds e) refl
