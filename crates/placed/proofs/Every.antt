-- What holds of every one of a list: in parts of it, of others, and where lists made of each have no fault. Assumes nothing.
use mathlib.Core.Path.{◌≡◌, refl, sym, ap, ◌∙◌}
use mathlib.Core.List.{List, [], ◌∷◌, ◌++◌, append_assoc}
use Prim.Native.Nat.{ℕ, zero, suc, ◌<◌}
use native.Mathlib.Omega.{arith}
use lib.ListN.{length, get_or}
use Rattle.language.specs.Parts.{each}
use Rattle.placed.specs.Members.{Member, here, there}
use Rattle.placed.specs.Placed.{Every}

pub append_nils : {A : Type 0} (l m : List A) → l ++ m ≡ [] → (l ≡ []) × (m ≡ [])
append_nils [] m e = (refl, e)
append_nils (x ∷ l) m e = let z : ◌≡◌ {A = ℕ} 0 1 = cc in absurd (omega arith)

-- lists made of each
pub each_append : {A B : Type 0} (f : A → List B) (a b : List A) → each f (a ++ b) ≡ each f a ++ each f b
unfolding each
each_append f [] b = refl
each_append f (x ∷ a) b = ap (λ (r : List _). f x ++ r) (each_append f a b) ∙ sym (append_assoc (f x) (each f a) (each f b))

-- no fault in a list of lists
pub every_nil : {A B : Type 0} (f : A → List B) (l : List A) → each f l ≡ [] → Every (λ x. f x ≡ []) l
unfolding each
every_nil f [] e = tt
every_nil f (x ∷ l) e = let a = append_nils (f x) (each f l) e in (a.0, every_nil f l a.1)

pub nil_every : {A B : Type 0} (f : A → List B) (l : List A) → Every (λ x. f x ≡ []) l → each f l ≡ []
unfolding each
nil_every f [] e = refl
nil_every f (x ∷ l) e = rw (e.0, nil_every f l e.1)

pub every_map : {A : Type 0} (P Q : A → Type 0) → ((x : A) → P x → Q x) → (l : List A) → Every P l → Every Q l
every_map P Q f [] e = tt
every_map P Q f (x ∷ l) e = (f x e.0, every_map P Q f l e.1)

pub every_both : {A : Type 0} (P Q : A → Type 0) (l : List A) → Every P l → Every Q l → Every (λ x. P x × Q x) l
every_both P Q [] p q = tt
every_both P Q (x ∷ l) p q = ((p.0, q.0), every_both P Q l p.1 q.1)

pub every_append : {B : Type 0} (P : B → Type 0) (l m : List B) → Every P (l ++ m) → Every P l × Every P m
every_append P [] m e = (tt, e)
every_append P (x ∷ l) m e = let a = every_append P l m e.1 in ((e.0, a.0), a.1)

pub append_every : {B : Type 0} (P : B → Type 0) (l m : List B) → Every P l → Every P m → Every P (l ++ m)
append_every P [] m e f = f
append_every P (x ∷ l) m e f = (e.0, append_every P l m e.1 f)

pub every_flat : {A B : Type 0} (P : B → Type 0) (f : A → List B) (l : List A) → Every (λ x. Every P (f x)) l → Every P (each f l)
unfolding each
every_flat P f [] e = tt
every_flat P f (x ∷ l) e = append_every P (f x) (each f l) e.0 (every_flat P f l e.1)

pub every_each : {A B : Type 0} (P : B → Type 0) (f : A → List B) (l : List A) → Every P (each f l) → Every (λ x. Every P (f x)) l
unfolding each
every_each P f [] e = tt
every_each P f (x ∷ l) e = let a = every_append P (f x) (each f l) e in (a.0, every_each P f l a.1)

pub every_at : {A : Type 0} (P : A → Type 0) (d : A) (l : List A) (i : ℕ) → Every P l → i < length l → P (get_or l i d)
every_at P d [] i e h = absurd (omega arith)
every_at P d (x ∷ l) zero e h = e.0
every_at P d (x ∷ l) (suc i) e h = every_at P d l i e.1 (omega arith)

-- by members
pub member_every : {A : Type 0} (P : A → Type 0) (l : List A) → ((x : A) → Member x l → P x) → Every P l
member_every P [] f = tt
member_every P (x ∷ l) f = (f x (here refl), member_every P l (λ y m. f y (there m)))
