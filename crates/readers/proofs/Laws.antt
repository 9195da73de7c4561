-- How answers and tapes go together, whatever the grammar. Assumes nothing.
use mathlib.Core.Path.{◌≡◌, ap, subst, ◌∙◌}
use mathlib.Core.List.{List, [], ◌∷◌, ◌++◌}
use Prim.Native.Nat.{ℕ, suc, ◌+◌, ◌-◌, ◌<◌}
use native.Mathlib.Omega.{arith}
use native.Mathlib.Nat.{add-zero, add-suc, suc-add}
use lib.ListN.{length, drop, length-append}
use lib.Seq.{sets}
use Rattle.language.specs.Words.{Word}
use Rattle.language.specs.Reader.{Res, bind}
use Rattle.std.specs.Prelude.{Result, Ok, Err, IsErrAnd}
use Rattle.std.proofs.lemmas.Result.{err_from_is_err_and}
use Rattle.readers.specs.Meets.{Out, On, Went, MovedTo, Moved, Agrees, read, fault}
use Rattle.readers.specs.declared.Misfit.{Misfit}

-- ---- fuel

pub suc_of : (f : ℕ) → 0 < f → f ≡ suc (f - 1)
suc_of f h = omega arith

pub suc_of2 : (f : ℕ) → 1 < f → f ≡ suc (suc (f - 2))
suc_of2 f h = omega arith

-- ---- the tape

sets_append : (s : List ℕ) (b : ℕ) (l l' : List ℕ) → sets s b (l ++ l') ≡ sets (sets s b l) (b + length l) l'
sets_append s b [] l' = rw add-zero
sets_append s b (a ∷ l) l' = sets_append _ (suc b) l l' ∙ rw (suc-add, add-suc)

-- what is put after what is there
pub on_more : {s t t' : List ℕ} {b n m : ℕ} {l l' : List ℕ} → On s b l n t → On t n l' m t' → On s b (l ++ l') m t'
on_more {s} {b} {l} {l'} p q = record {
  ends = q.ends ∙ omega (arith, p.ends, length-append l l');
  holds = q.holds ∙ cc (p.holds, p.ends, sets_append s b l l');
}

pub on_as : {s t : List ℕ} {b n : ℕ} {l l' : List ℕ} → l ≡ l' → On s b l n t → On s b l' n t
on_as {s} {t} {b} {n} e p = subst (λ (l : List ℕ). On s b l n t) e p

pub on_value : {s t : List ℕ} {b n op p v v' : ℕ} → v ≡ v' → On s b (op ∷ p ∷ v ∷ []) n t → On s b (op ∷ p ∷ v' ∷ []) n t
on_value {op} {p} e o = on_as (ap (λ (v : ℕ). op ∷ p ∷ v ∷ []) e) o

-- ---- where answers lie

-- a reader that starts where another came to, or past a word
pub moved_more : {len at n x m : ℕ} {o : Out} → Went len at n x m → Moved len x m o → Moved len at n o
moved_more {len} {at} {n} {x} {m} {o} w v = go o w v.to
  where
    go : (o : Out) → Went len at n x m → MovedTo len x m o → Moved len at n o
    go (Ok (y, p)) w v = record { to = omega arith }
    go (Err e) w v = record { to = v }

-- ---- the readers' answers

pub bind_ok : {A B : Type 0} {fl : A → List ℕ} {fl' : B → List ℕ} {ws : List Word} (u : Res A) (v : A → List Word → Res B) {n b x m : ℕ} {t t₁ s t' : List ℕ} {r : Out}
    → Agrees fl ws n t u (Ok (x, m)) t₁ → ((e : A) → On t n (fl e) m t₁ → Agrees fl' ws b s (v e (drop x ws)) r t') → Agrees fl' ws b s (bind u v) r t'
unfolding bind
bind_ok u v (read {e = e} p) k = k e p

pub bind_err : {A B : Type 0} {fl : A → List ℕ} {fl' : B → List ℕ} {ws : List Word} (u : Res A) (v : A → List Word → Res B) {n b : ℕ} {t t₁ s t' : List ℕ} {e : Misfit}
    → Agrees fl ws n t u (Err e) t₁ → Agrees fl' ws b s (bind u v) (Err e) t'
unfolding bind
bind_err u v fault = fault

-- what a `?` hands on
pub same_err : {A : Type 0} {r : Result A Misfit} {e : Misfit} → IsErrAnd r (λ i. i ≡ e) → r ≡ Err e
same_err {r = r} h = let p = err_from_is_err_and r h in p.1 ∙ ap (λ (e : Misfit). Err e) p.2
