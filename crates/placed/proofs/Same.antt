-- Lists that have the same places, whatever their order; names among others. Assumes nothing.
use mathlib.Core.Path.{◌≡◌, refl, sym, ap, ◌∙◌, subst}
use mathlib.Core.Logic.{⊎_elim}
use mathlib.Core.Bool.{Bool, true, false, not, ◌||◌}
use mathlib.Core.List.{List, [], ◌∷◌, ◌++◌, append_assoc, append-nil}
use Prim.Native.Nat.{ℕ}
use Rattle.language.specs.Text.{Name, same, among}
use Rattle.language.specs.Tree.{Port, spelled_of}
use Rattle.language.specs.Parts.{each}
use Rattle.language.specs.Names.{when, repeated, input_names, output_names}
use Rattle.placed.specs.Members.{Member}
use Rattle.placed.proofs.Members.{member_left, member_right, member_append}
use Rattle.placed.specs.Members.{add}

pub record Same (xs ys : List ℕ) : Type 0 where
  pub to : (q : ℕ) → Member q xs → Member q ys
  pub from : (q : ℕ) → Member q ys → Member q xs

pub is : {xs ys : List ℕ} → xs ≡ ys → Same xs ys
is e = record { to = λ q m. subst (λ (l : List ℕ). Member q l) e m; from = λ q m. subst (λ (l : List ℕ). Member q l) (sym e) m }

pub equal : (xs : List ℕ) → Same xs xs
equal xs = record { to = λ q m. m; from = λ q m. m }

pub then : {xs ys zs : List ℕ} → Same xs ys → Same ys zs → Same xs zs
then s t = record { to = λ q m. t.to q (s.to q m); from = λ q m. s.from q (t.from q m) }

pub beside : {a b c d : List ℕ} → Same a b → Same c d → Same (a ++ c) (b ++ d)
beside {a} {b} {c} {d} s t =
    record {
      to = λ q m. ⊎_elim (λ n. member_left d (s.to q n)) (λ n. member_right b (t.to q n)) (member_append a m);
      from = λ q m. ⊎_elim (λ n. member_left c (s.from q n)) (λ n. member_right a (t.from q n)) (member_append b m);
    }

pub swap : (a b : List ℕ) → Same (a ++ b) (b ++ a)
swap a b =
    record {
      to = λ q m. ⊎_elim (λ n. member_right b n) (λ n. member_left a n) (member_append a m);
      from = λ q m. ⊎_elim (λ n. member_right a n) (λ n. member_left b n) (member_append b m);
    }

pub mix : (a b c d : List ℕ) → Same ((a ++ b) ++ (c ++ d)) ((a ++ c) ++ (b ++ d))
mix a b c d = then (is out) (then (beside (equal a) (beside (swap b c) (equal d))) (is back))
  where
    out : (a ++ b) ++ (c ++ d) ≡ a ++ ((b ++ c) ++ d)
    out = simp append_assoc

    back : a ++ ((c ++ b) ++ d) ≡ (a ++ c) ++ (b ++ d)
    back = simp append_assoc

-- the places of a list, in two parts
pub record Split (f a e : List ℕ) : Type 0 where
  pub parts : Same f (a ++ e)

pub both : {f a e g b d : List ℕ} → Split f a e → Split g b d → Split (f ++ g) (a ++ b) (e ++ d)
both {a = a} {e = e} {b = b} {d = d} s t = record { parts = then (beside s.parts t.parts) (mix a e b d) }

-- all in the first part; all in the second
pub first : (f : List ℕ) → Split f f []
first f = record { parts = is (sym (append-nil f)) }

pub second : (e : List ℕ) → Split e [] e
second e = record { parts = equal e }

-- the same in other words
pub of : {f g a e : List ℕ} → Same f g → Split g a e → Split f a e
of s t = record { parts = then s t.parts }

pub into : {f a b e d : List ℕ} → Same a b → Same e d → Split f a e → Split f b d
into s t r = record { parts = then r.parts (beside s t) }

pub split_each : {T : Type 0} (f a e : T → List ℕ) → ((x : T) → Split (f x) (a x) (e x)) → (l : List T) → Split (each f l) (each a l) (each e l)
unfolding each
split_each f a e s [] = first []
split_each f a e s (x ∷ l) = both (s x) (split_each f a e s l)

pub same_each : {T : Type 0} (f g : T → List ℕ) → ((x : T) → Same (f x) (g x)) → (l : List T) → Same (each f l) (each g l)
unfolding each
same_each f g h [] = equal []
same_each f g h (x ∷ l) = beside (h x) (same_each f g h l)

-- a place where one of two tests passes
pub when_or : (b c : Bool) (p : ℕ) → Same (when (b || c) p) (when b p ++ when c p)
unfolding when
when_or true true p = record { to = λ q m. member_left (p ∷ []) m; from = λ q m. ⊎_elim (λ n. n) (λ n. n) (member_append (p ∷ []) m) }
when_or true false p = equal (p ∷ [])
when_or false c p = equal (when c p)

pub split_or : (b c : Bool) (p : ℕ) → Split (when (b || c) p) (when b p) (when c p)
split_or b c p = record { parts = when_or b c p }

-- ---- lists made of each

pub each_as : {A B : Type 0} (f g : A → List B) → ((x : A) → f x ≡ g x) → (l : List A) → each f l ≡ each g l
unfolding each
each_as f g e [] = refl
each_as f g e (x ∷ l) = rw (e x, each_as f g e l)

pub each_each : {A B C : Type 0} (f : B → List C) (g : A → List B) → ((a b : List B) → each f (a ++ b) ≡ each f a ++ each f b) → (l : List A) → each f (each g l) ≡ each (λ x. each f (g x)) l
unfolding each
each_each f g h [] = refl
each_each f g h (x ∷ l) = h (g x) (each g l) ∙ ap (λ (r : List _). each f (g x) ++ r) (each_each f g h l)

-- ---- names among others

-- names put before others, the latest first
unfoldable pub pushed : List Name → List (List ℕ) → List (List ℕ)
pushed [] l = l
pushed (n ∷ ns) l = pushed ns (n.spelled ∷ l)

-- the same of those that a test keeps
unfoldable pub some_onto : {T : Type 0} → (T → Bool) → (T → List ℕ) → List T → List (List ℕ) → List (List ℕ)
some_onto keep called [] l = l
some_onto keep called (x ∷ xs) l = some_onto keep called xs (add (keep x) (called x) l)

abbrev pub inputs_onto : List Port → List (List ℕ) → List (List ℕ)
inputs_onto ps l = some_onto (λ (p : Port). p.input) (λ (p : Port). p.called.spelled) ps l

abbrev pub outputs_onto : List Port → List (List ℕ) → List (List ℕ)
outputs_onto ps l = some_onto (λ (p : Port). not p.input) (λ (p : Port). p.called.spelled) ps l

or_true : (b : Bool) → (b || true) ≡ true
or_true true = refl
or_true false = refl

pub or_false : (b : Bool) → (b || false) ≡ b
or_false true = refl
or_false false = refl

module _ (s : List ℕ) where
  among_cons : (n : List ℕ) (l : List (List ℕ)) → among (n ∷ l) s ≡ (same n s || among l s)
  unfolding among
  among_cons n l = go (same n s)
    where
      go : (b : Bool) → elim b as (λ (x : Bool). Bool) [ true ↦ true | false ↦ among l s ] ≡ (b || among l s)
      go true = refl
      go false = refl

  pub among_append : (a b : List (List ℕ)) → among (a ++ b) s ≡ (among a s || among b s)
  unfolding among
  among_append [] b = refl
  among_append (n ∷ a) b = among_cons n (a ++ b) ∙ rw (among_append a b, among_cons n a) (assoc (same n s) (among a s) (among b s))
    where
      assoc : (x y z : Bool) → (x || (y || z)) ≡ ((x || y) || z)
      assoc true y z = refl
      assoc false y z = refl

  -- a name that goes from the first list to the second
  moved : (x y z : Bool) → (y || (x || z)) ≡ ((x || y) || z)
  moved true y z = or_true y
  moved false y z = refl

  pub among_pushed : (ns : List Name) (l : List (List ℕ)) → among (pushed ns l) s ≡ (among (spelled_of ns) s || among l s)
  unfolding pushed spelled_of among
  among_pushed [] l = refl
  among_pushed (n ∷ ns) l = among_pushed ns (n.spelled ∷ l) ∙ rw (among_cons n.spelled l, among_cons n.spelled (spelled_of ns)) (moved (same n.spelled s) (among (spelled_of ns) s) (among l s))

  pub among_some : {T : Type 0} (keep : T → Bool) (called : T → List ℕ) (xs : List T) (l : List (List ℕ)) → among (some_onto keep called xs l) s ≡ (among (each (λ x. elim (keep x) [ true ↦ called x ∷ [] | false ↦ [] ]) xs) s || among l s)
  unfolding some_onto each among add
  among_some keep called [] l = refl
  among_some keep called (x ∷ xs) l = go (keep x) (λ l. among_some keep called xs l)
    where
      those : List (List ℕ)
      those = each (λ x. elim (keep x) [ true ↦ called x ∷ [] | false ↦ [] ]) xs

      go : (b : Bool) → ((l : List (List ℕ)) → among (some_onto keep called xs l) s ≡ (among those s || among l s)) → among (some_onto keep called xs (add b (called x) l)) s ≡ (among (elim b as (λ (y : Bool). List (List ℕ)) [ true ↦ called x ∷ [] | false ↦ [] ] ++ those) s || among l s)
      go true h = h (called x ∷ l) ∙ rw (among_cons (called x) l, among_cons (called x) those) (moved (same (called x) s) (among those s) (among l s))
      go false h = h l

  pub among_inputs : (ps : List Port) (l : List (List ℕ)) → among (inputs_onto ps l) s ≡ (among (input_names ps) s || among l s)
  unfolding input_names
  among_inputs ps l = among_some (λ (p : Port). p.input) (λ (p : Port). p.called.spelled) ps l

  pub among_outputs : (ps : List Port) (l : List (List ℕ)) → among (outputs_onto ps l) s ≡ (among (output_names ps) s || among l s)
  unfolding output_names
  among_outputs ps l = among_some (λ (p : Port). not p.input) (λ (p : Port). p.called.spelled) ps l ∙ ap (λ (r : List (List ℕ)). among r s || among l s) (each_as _ _ (λ p. go p p.input) ps)
    where
      go : (p : Port) (b : Bool) → ◌≡◌ {A = List (List ℕ)} (elim (not b) [ true ↦ p.called.spelled ∷ [] | false ↦ [] ]) (elim b [ true ↦ [] | false ↦ p.called.spelled ∷ [] ])
      go p true = refl
      go p false = refl

-- names that repeat others, in two parts
pub repeated_append : (l : List (List ℕ)) (a b : List Name) → repeated l (a ++ b) ≡ repeated l a ++ repeated (pushed a l) b
unfolding repeated pushed
repeated_append l [] b = refl
repeated_append l (n ∷ a) b = ap (λ (r : List ℕ). when (among l n.spelled) n.at ++ r) (repeated_append (n.spelled ∷ l) a b) ∙ sym (append_assoc (when (among l n.spelled) n.at) _ _)
