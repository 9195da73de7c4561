-- The wants of an actor that passes rows 2 and 6 to 8 resolve to types that keep this crate's rules. Assumes nothing.
use mathlib.Core.Path.{◌≡◌, refl, sym, ap, ap₂, ◌∙◌, subst}
use mathlib.Core.Bool.{Bool, true, false, not, ◌&&◌}
use mathlib.Core.List.{List, [], ◌∷◌, ◌++◌}
use Prim.Native.Nat.{ℕ, zero, suc, ◌≤◌, ◌<◌, zero-le}
use native.Mathlib.Omega.{arith}
use lib.Dec.{eqb, lit≤}
use lib.ListN.{length, get_or, length-append, get_or-map}
use borrow.Author.Tests.{eqb-true}
use Rattle.language.specs.Text.{Name, same, among}
use Rattle.language.specs.Tree.{Ty, Declared, untyped, typed, Port, Memory, Actor, spelled_of, port_names, memory_names}
use Rattle.language.specs.Parts.{Item, each, types, type_ports, declared_items, val_items, items, wholes, statements, actor_items, environment_names}
use Rattle.language.specs.Names.{when, missing, clashing, repeated, ports, memories, declaration_faults, type_name_faults, name_faults}
use Rattle.language.specs.Counts.{type_words}
use Rattle.language.specs.Types.{type_faults}
use Rattle.language.specs.Bindings.{Bindings}
use Rattle.language.specs.Widths.{Want, exactly, valued, type_want, declared_type, port_want, wants, bound_names, value_in}
use Rattle.type_value.specs.Terms.{Term, number, code, logs_in, TypeOf}
use Rattle.type_value.specs.Walk.{TermStands}
use Rattle.typing.specs.Solved.{Coded, term_of, terms_of}
use Rattle.typing.proofs.Rules.{none_left, none_right, passed, type_right}
use Rattle.typing.proofs.Bridge.{as_many}

-- ---- what holds of every entry of a list

abbrev pub All : {A : Type 0} → (A → Type 0) → List A → Type 0
All P [] = Unit {0}
All P (x ∷ l) = P x × All P l

all_left : {A : Type 0} (P : A → Type 0) (l m : List A) → All P (l ++ m) → All P l
all_left P [] m h = tt
all_left P (x ∷ l) m h = (h.0, all_left P l m h.1)

all_right : {A : Type 0} (P : A → Type 0) (l m : List A) → All P (l ++ m) → All P m
all_right P [] m h = h
all_right P (x ∷ l) m h = all_right P l m h.1

all_both : {A : Type 0} (P : A → Type 0) (l m : List A) → All P l → All P m → All P (l ++ m)
all_both P [] m h g = g
all_both P (x ∷ l) m h g = (h.0, all_both P l m h.1 g)

all_each : {A B : Type 0} (f : A → List B) (l : List A) → each f l ≡ [] → All (λ (x : A). f x ≡ []) l
unfolding each
all_each f [] e = tt
all_each f (x ∷ l) e = (none_left (f x) (each f l) e, all_each f l (none_right (f x) (each f l) e))

all_three : {A : Type 0} (P Q R : A → Type 0) (l : List A) → All P l → All Q l → All R l → All (λ (x : A). P x × Q x × R x) l
all_three P Q R [] p q r = tt
all_three P Q R (x ∷ l) p q r = ((p.0, q.0, r.0), all_three P Q R l p.1 q.1 r.1)

all_map : {A : Type 0} (P Q : A → Type 0) → ((x : A) → P x → Q x) → (l : List A) → All P l → All Q l
all_map P Q f [] h = tt
all_map P Q f (x ∷ l) h = (f x h.0, all_map P Q f l h.1)

all_at : {A : Type 0} (P : A → Type 0) (d : A) → P d → (l : List A) → All P l → (i : ℕ) → P (get_or l i d)
all_at P d p [] h i = p
all_at P d p (x ∷ l) h zero = h.0
all_at P d p (x ∷ l) h (suc i) = all_at P d p l h.1 i

types_append : (l m : List Item) → types (l ++ m) ≡ types l ++ types m
unfolding types
types_append [] m = refl
types_append (Item.type t ∷ l) m = ap (λ (r : List Ty). t ∷ r) (types_append l m)
types_append (Item.number n ∷ l) m = types_append l m
types_append (Item.reads n ∷ l) m = types_append l m
types_append (Item.value n ∷ l) m = types_append l m

-- ---- names

same_is : (s t : List ℕ) → same s t ≡ true → s ≡ t
unfolding same
same_is [] [] e = refl
same_is [] (b ∷ t) e = absurd (let z : ◌≡◌ {A = ℕ} 0 1 = cc in omega arith)
same_is (a ∷ s) [] e = absurd (let z : ◌≡◌ {A = ℕ} 0 1 = cc in omega arith)
same_is (a ∷ s) (b ∷ t) e = go (eqb a b) refl e (same_is s t)
  where
    go : (x : Bool) → eqb a b ≡ x → (x && same s t) ≡ true → (same s t ≡ true → s ≡ t) → a ∷ s ≡ b ∷ t
    go true p q ih = ap₂ (λ (n : ℕ) (l : List ℕ). n ∷ l) (eqb-true a b p) (ih q)
    go false p q ih = absurd (let z : ◌≡◌ {A = ℕ} 0 1 = cc in omega arith)

-- names that are among others, none of which is missing in a third list, are in that one
among_on : (others : List (List ℕ)) (ns : List Name) (s : List ℕ) → missing others ns ≡ [] → among (spelled_of ns) s ≡ true → among others s ≡ true
unfolding missing each among spelled_of
among_on others [] s m e = absurd (let z : ◌≡◌ {A = ℕ} 0 1 = cc in omega arith)
among_on others (n ∷ ns) s m e = go (same n.spelled s) refl (among_on others ns s (none_right (when (not (among others n.spelled)) n.at) _ m)) e
  where
    go : (b : Bool) → same n.spelled s ≡ b → (among (spelled_of ns) s ≡ true → among others s ≡ true) → elim b [ true ↦ true | false ↦ among (spelled_of ns) s ] ≡ true → among others s ≡ true
    go true p ih q = subst (λ (x : List ℕ). among others x ≡ true) (same_is n.spelled s p) (passed (among others n.spelled) n.at (none_left _ _ m))
    go false p ih q = ih q

off : (b : Bool) (p : ℕ) → b ≡ true → when (not b) p ≡ []
unfolding when
off true p e = refl
off false p e = absurd (let z : ◌≡◌ {A = ℕ} 0 1 = cc in omega arith)

missing_on : (others : List (List ℕ)) (ns ms : List Name) → missing others ns ≡ [] → missing (spelled_of ns) ms ≡ [] → missing others ms ≡ []
unfolding missing each
missing_on others ns [] e f = refl
missing_on others ns (m ∷ ms) e f =
    ap₂ (λ (x y : List ℕ). x ++ y) (off (among others m.spelled) m.at (among_on others ns m.spelled e (passed (among (spelled_of ns) m.spelled) m.at (none_left _ _ f))))
    (missing_on others ns ms e (none_right (when (not (among (spelled_of ns) m.spelled)) m.at) _ f))

-- ---- the wants

module _ (a : Actor) (b : Bindings) where
  abbrev pub RightType : Ty → Type 0
  RightType t = (type_faults t ≡ []) × (type_words t ≤ 64) × (missing (spelled_of a.signature) (type_ports t) ≡ [])

  abbrev pub RightWant : Want → Type 0
  RightWant (exactly w) = w ≤ 65535
  RightWant (valued t) = RightType t

  abbrev RightDeclared : Declared → Type 0
  RightDeclared untyped = Unit {0}
  RightDeclared (typed t) = RightType t

  declared_right : (d : Declared) → RightDeclared d → RightWant (type_want d)
  unfolding type_want
  declared_right untyped h = zero-le
  declared_right (typed t) h = h

  of_items : (d : Declared) (l : List Item) → All RightType (types (declared_items d ++ l)) → RightDeclared d × All RightType (types l)
  unfolding types declared_items
  of_items untyped l h = (tt, h)
  of_items (typed t) l h = (h.0, h.1)

  ports_right : (ps : List Port) (s : List ℕ) → All RightType (types (each (λ p. declared_items p.type) ps)) → RightDeclared (declared_type ps s)
  unfolding declared_type each
  ports_right [] s h = tt
  ports_right (p ∷ ps) s h =
      let g = of_items p.type (each (λ q. declared_items q.type) ps) h in
      go (same p.called.spelled s) g.0 (ports_right ps s g.1)
    where
      go : (x : Bool) → RightDeclared p.type → RightDeclared (declared_type ps s) → RightDeclared (elim x [ true ↦ p.type | false ↦ declared_type ps s ])
      go true y z = y
      go false y z = z

  memories_right : (ms : List Memory) → All RightType (types (each (λ m. declared_items m.type) ms)) → All RightWant (each (λ m. type_want m.type ∷ []) ms)
  unfolding each
  memories_right [] h = tt
  memories_right (m ∷ ms) h =
      let g = of_items m.type (each (λ q. declared_items q.type) ms) h in
      (declared_right m.type g.0, memories_right ms g.1)

  names_right : (ns : List Name) → ((s : List ℕ) → RightWant (port_want a b s)) → All RightWant (each (λ n. port_want a b n.spelled ∷ []) ns)
  unfolding each
  names_right [] f = tt
  names_right (n ∷ ns) f = (f n.spelled, names_right ns f)

  wants_right : ((s : List ℕ) → value_in b.widths s ≤ 65535) → All RightType (types (actor_items a)) → All RightWant (wants a b)
  unfolding wants port_want actor_items
  wants_right v h =
      let ps = each (λ (p : Port). declared_items p.type) a.ports in
      let ms = each (λ (m : Memory). declared_items m.type) a.memories in
      let st = each (λ s. val_items s ++ each items (wholes s)) (statements a) in
      let split = subst (λ (l : List Ty). All RightType l) (types_append ps (ms ++ st)) h in
      let rest = subst (λ (l : List Ty). All RightType l) (types_append ms st) (all_right RightType (types ps) (types (ms ++ st)) split) in
      all_both RightWant (each (λ n. port_want a b n.spelled ∷ []) a.signature) (each (λ m. type_want m.type ∷ []) a.memories)
      (names_right a.signature (λ s. go s (among (spelled_of (bound_names b.widths)) s) (declared_right (declared_type a.ports s) (ports_right a.ports s (all_left RightType (types ps) (types (ms ++ st)) split)))))
      (memories_right a.memories (all_left RightType (types ms) (types st) rest))
    where
      go : (s : List ℕ) (x : Bool) → RightWant (type_want (declared_type a.ports s)) → RightWant (elim x [ true ↦ exactly (value_in b.widths s) | false ↦ type_want (declared_type a.ports s) ])
      go s true h = v s
      go s false h = h

  -- row 6 gives that the ports in types stand in the signature, row 8 that the types keep its rules; row 7 that they are short is a premise of its own
  pub types_right : name_faults a ≡ [] → each type_faults (types (actor_items a)) ≡ [] → All (λ (t : Ty). type_words t ≤ 64) (types (actor_items a)) → All RightType (types (actor_items a))
  unfolding name_faults declaration_faults type_name_faults ports memories
  types_right e f w =
      let d = none_left (declaration_faults a) _ e in
      let r = none_right (declaration_faults a) _ e in
      let n = none_left (type_name_faults a) _ r in
      let known = all_each (λ (t : Ty). missing (ports a) (type_ports t)) (types (actor_items a)) (none_right (clashing (ports a ++ memories a) (environment_names a)) _ n) in
      let d2 = none_right (repeated [] a.signature) _ d in
      let d3 = none_right (missing (ports a) a.signature) _ d2 in
      let in_signature = none_left (missing (spelled_of a.signature) (port_names a.ports)) (repeated [] (port_names a.ports ++ memory_names a.memories)) d3 in
      all_three (λ (t : Ty). type_faults t ≡ []) (λ (t : Ty). type_words t ≤ 64) (λ (t : Ty). missing (spelled_of a.signature) (type_ports t) ≡ []) (types (actor_items a)) (all_each type_faults (types (actor_items a)) f) w
      (all_map (λ (t : Ty). missing (ports a) (type_ports t) ≡ []) (λ (t : Ty). missing (spelled_of a.signature) (type_ports t) ≡ []) (λ t k. missing_on (spelled_of a.signature) (port_names a.ports) (type_ports t) in_signature k) (types (actor_items a)) known)

  as_long : (ns : List Name) → length (spelled_of ns) ≡ length ns
  unfolding spelled_of
  as_long [] = refl
  as_long (n ∷ ns) = ap suc (as_long ns)

  one_each : {A B : Type 0} (f : A → B) (l : List A) → length (each (λ x. f x ∷ []) l) ≡ length l
  unfolding each
  one_each f [] = refl
  one_each f (x ∷ l) = ap suc (one_each f l)

  signature_fits : length (spelled_of a.signature) ≤ length (terms_of a b)
  unfolding wants
  signature_fits =
      let x = each (λ n. port_want a b n.spelled ∷ []) a.signature in
      omega (arith, as_long a.signature, as_many a b, one_each (λ (n : Name). port_want a b n.spelled) a.signature, length-append x (each (λ m. type_want m.type ∷ []) a.memories))

  want_right : ((s : List ℕ) → value_in b.values s ≤ 65535) → (w : Want) → RightWant w → TypeOf (length (terms_of a b)) (term_of a b w)
  unfolding term_of logs_in code
  want_right v (exactly w) h = record { fine = h; two = zero-le; short = lit≤ tt }
  want_right v (valued t) h = type_right (spelled_of a.signature) (length (terms_of a b)) signature_fits (value_in b.values) v t h.0 h.1 h.2

  -- what `Coded` asks of each type
  pub terms_right : name_faults a ≡ [] → each type_faults (types (actor_items a)) ≡ [] → All (λ (t : Ty). type_words t ≤ 64) (types (actor_items a))
      → ((s : List ℕ) → value_in b.widths s ≤ 65535) → ((s : List ℕ) → value_in b.values s ≤ 65535) → (i : ℕ) → TypeOf (length (terms_of a b)) (get_or (terms_of a b) i (number 0))
  unfolding terms_of term_of
  terms_right e f w u v i =
      subst (λ (t : Term). TypeOf (length (terms_of a b)) t) (sym (get_or-map (term_of a b) (wants a b) i (exactly 0)))
      (want_right v (get_or (wants a b) i (exactly 0)) (all_at RightWant (exactly 0) zero-le (wants a b) (wants_right u (types_right e f w)) i))

  -- and the whole of it, where the code of each want stands from its start to its end
  pub coded : name_faults a ≡ [] → each type_faults (types (actor_items a)) ≡ [] → All (λ (t : Ty). type_words t ≤ 64) (types (actor_items a))
      → ((s : List ℕ) → value_in b.widths s ≤ 65535) → ((s : List ℕ) → value_in b.values s ≤ 65535) → (code starts ends : List ℕ)
      → length starts ≡ length (wants a b) → length ends ≡ length (wants a b)
      → ((i : ℕ) → i < length (wants a b) → TermStands (term_of a b (get_or (wants a b) i (exactly 0))) code (get_or starts i 0) (get_or ends i 0)) → Coded (terms_of a b) code starts ends
  unfolding terms_of term_of
  coded e f w u v code starts ends p q g = record {
    count = p ∙ sym (as_many a b);
    counted = q ∙ sym (as_many a b);
    each = λ i h. subst (λ (t : Term). TermStands t code (get_or starts i 0) (get_or ends i 0)) (sym (get_or-map (term_of a b) (wants a b) i (exactly 0))) (g i (subst (λ (n : ℕ). i < n) (as_many a b) h));
    right = λ i h. terms_right e f w u v i;
  }
