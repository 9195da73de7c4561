-- What a node makes of the marks of its operands is the mark of its own type. Assumes nothing.
use mathlib.Core.Path.{◌≡◌, refl, sym, ap, ap₂, ◌∙◌}
use mathlib.Core.List.{List, [], ◌∷◌, ◌++◌}
use Prim.Native.Nat.{ℕ, zero, suc, ◌+◌, ◌-◌, ◌*◌, ◌/◌, ◌%◌, ◌≤◌, ◌<◌, zero-le, max}
use native.Mathlib.Nat.{le_refl, max-le}
use native.Mathlib.Decide.{ℕ_discrete}
use native.Mathlib.Omega.{arith}
use lib.Arith.{lt_of_le-ne}
use Rattle.type_value.specs.Terms.{Term, number, port, log, floor, ceil, plus, minus, greater, code, logs_in, Closed, Fine}
use Rattle.typing_vectors.specs.Judged.{has_port, Judged}

port_le : (t : Term) → has_port t ≤ 1
unfolding has_port
port_le (number k) = zero-le
port_le (port i) = le_refl 1
port_le (log t) = port_le t
port_le (floor t) = port_le t
port_le (ceil t) = port_le t
port_le (plus s t) = max-le (port_le s) (port_le t)
port_le (minus s t) = port_le s
port_le (greater s t) = max-le (port_le s) (port_le t)

closed_of : (n : ℕ) (t : Term) → Fine n t → has_port t ≡ 0 → Closed t
unfolding has_port
closed_of n (number k) f e = tt
closed_of n (port i) f e = absurd (omega arith)
closed_of n (log t) f e = closed_of n t f.0 e
closed_of n (floor t) f e = closed_of n t f.0 e
closed_of n (ceil t) f e = closed_of n t f.0 e
closed_of n (plus s t) f e = (closed_of n s f.0 (omega arith), closed_of n t f.1 (omega arith))
closed_of n (minus s t) f e = (closed_of n s f.0 e, f.2)
closed_of n (greater s t) f e = (closed_of n s f.0 (omega arith), closed_of n t f.1 (omega arith))

pub number_judged : (n k : ℕ) → k % 8 ≡ 0 → k / 8 ≤ 65535 → (t : Term) × Judged n t 0 (k ∷ [])
unfolding logs_in has_port code
number_judged n k e h =
    let c : k / 8 * 8 ≡ k = omega arith in
    (number (k / 8), record { fine = h; is = refl; coded = ap (λ (j : ℕ). j ∷ []) c })

pub port_judged : (n k : ℕ) → k % 8 ≡ 1 → k / 8 < n → (t : Term) × Judged n t 1 (k ∷ [])
unfolding logs_in has_port code
port_judged n k e h =
    let c : k / 8 * 8 + 1 ≡ k = omega arith in
    (port (k / 8), record { fine = h; is = refl; coded = ap (λ (j : ℕ). j ∷ []) c })

module _ (n : ℕ) (t : Term) (m : ℕ) (ks : List ℕ) (j : Judged n t m ks) where
  pub log_judged : m ≤ 1 → Judged n (log t) (m + 2) (ks ++ (2 ∷ []))
  unfolding logs_in has_port code
  log_judged h = record { fine = (j.fine, omega (arith, j.is)); is = omega (arith, j.is); coded = ap (λ (l : List ℕ). l ++ (2 ∷ [])) j.coded }

  pub floor_judged : m ≤ 5 → Judged n (floor t) (m % 2) (ks ++ (3 ∷ []))
  unfolding logs_in has_port code
  floor_judged h = record { fine = (j.fine, omega (arith, j.is)); is = omega (arith, j.is, port_le t); coded = ap (λ (l : List ℕ). l ++ (3 ∷ [])) j.coded }

  pub ceil_judged : m ≤ 5 → Judged n (ceil t) (m % 2) (ks ++ (4 ∷ []))
  unfolding logs_in has_port code
  ceil_judged h = record { fine = (j.fine, omega (arith, j.is)); is = omega (arith, j.is, port_le t); coded = ap (λ (l : List ℕ). l ++ (4 ∷ [])) j.coded }

-- the logs add up, and a port stands in one where it stands in either
half : (p q : ℕ) → p ≤ 1 → q ≤ 1 → p + q ≡ (p + q) / 2 + max p q
half zero zero h g = refl
half zero (suc zero) h g = refl
half (suc zero) zero h g = refl
half (suc zero) (suc zero) h g = refl
half zero (suc (suc q)) h g = absurd (omega arith)
half (suc zero) (suc (suc q)) h g = absurd (omega arith)
half (suc (suc p)) q h g = absurd (omega arith)

parity : (a p m : ℕ) → p ≤ 1 → a * 2 + p ≡ m → m % 2 ≡ p
parity a p m h e = omega arith

sums : (a b p q m k s x : ℕ) → a * 2 + p ≡ m → b * 2 + q ≡ k → p + q ≡ s + x → (a + b) * 2 + x ≡ m + k - s
sums a b p q m k s x e f g = omega arith

join : (a b p q m k : ℕ) → p ≤ 1 → q ≤ 1 → a * 2 + p ≡ m → b * 2 + q ≡ k → (a + b) * 2 + max p q ≡ m + k - (m % 2 + k % 2) / 2
join a b p q m k h g e f =
    sums a b p q m k ((m % 2 + k % 2) / 2) (max p q) e f (half p q h g ∙ ap₂ (λ (i j : ℕ). (i + j) / 2 + max p q) (sym (parity a p m h e)) (sym (parity b q k g f)))

module _ (n : ℕ) (s t : Term) (m k : ℕ) (js ks : List ℕ) (x : Judged n s m js) (y : Judged n t k ks) where
  pub plus_judged : Judged n (plus s t) (m + k - (m % 2 + k % 2) / 2) (js ++ (ks ++ (5 ∷ [])))
  unfolding logs_in has_port code
  plus_judged = record {
    fine = (x.fine, y.fine);
    is = join (logs_in s) (logs_in t) (has_port s) (has_port t) m k (port_le s) (port_le t) x.is y.is;
    coded = ap₂ (λ (a b : List ℕ). a ++ (b ++ (5 ∷ []))) x.coded y.coded;
  }

  pub greater_judged : Judged n (greater s t) (m + k - (m % 2 + k % 2) / 2) (js ++ (ks ++ (7 ∷ [])))
  unfolding logs_in has_port code
  greater_judged = record {
    fine = (x.fine, y.fine);
    is = join (logs_in s) (logs_in t) (has_port s) (has_port t) m k (port_le s) (port_le t) x.is y.is;
    coded = ap₂ (λ (a b : List ℕ). a ++ (b ++ (7 ∷ []))) x.coded y.coded;
  }

  pub minus_judged : (k % 2 ≡ 1 → ⊥) → Judged n (minus s t) (m + k) (js ++ (ks ++ (6 ∷ [])))
  unfolding logs_in has_port code
  minus_judged h =
      let z : has_port t ≡ 0 = go (has_port t) (port_le t) y.is in
      record {
        fine = (x.fine, y.fine, closed_of n t y.fine z);
        is = omega (arith, x.is, y.is);
        coded = ap₂ (λ (a b : List ℕ). a ++ (b ++ (6 ∷ []))) x.coded y.coded;
      }
    where
      go : (p : ℕ) → p ≤ 1 → logs_in t * 2 + p ≡ k → p ≡ 0
      go zero l e = refl
      go (suc p) l e = absurd (h (omega arith))

-- ---- by the kind

module _ (n : ℕ) (t : Term) (m op : ℕ) (ks : List ℕ) (j : Judged n t m ks) where
  pub floor_or_ceil : 2 ≤ op → op < 5 → (op ≡ 2 → ⊥) → m ≤ 5 → (s : Term) × Judged n s (m % 2) (ks ++ (op ∷ []))
  floor_or_ceil lo hi d h = go (ℕ_discrete op 3)
    where
      go : Dec (op ≡ 3) → (s : Term) × Judged n s (m % 2) (ks ++ (op ∷ []))
      go (yes e) = (floor t, rw e (floor_judged n t m ks j h))
      go (no x) =
          let a : 2 < op = lt_of_le-ne lo (λ q. d (sym q)) in
          let b : 3 < op = lt_of_le-ne a (λ q. x (sym q)) in
          let e : op ≡ 4 = omega arith in
          (ceil t, rw e (ceil_judged n t m ks j h))

module _ (n : ℕ) (s t : Term) (m k op : ℕ) (js ks : List ℕ) (x : Judged n s m js) (y : Judged n t k ks) where
  pub plus_or_greater : 5 ≤ op → op < 8 → (op ≡ 6 → ⊥) → (u : Term) × Judged n u (m + k - (m % 2 + k % 2) / 2) (js ++ (ks ++ (op ∷ [])))
  plus_or_greater lo hi d = go (ℕ_discrete op 5)
    where
      go : Dec (op ≡ 5) → (u : Term) × Judged n u (m + k - (m % 2 + k % 2) / 2) (js ++ (ks ++ (op ∷ [])))
      go (yes e) = (plus s t, rw e (plus_judged n s t m k js ks x y))
      go (no z) =
          let a : 5 < op = lt_of_le-ne lo (λ q. z (sym q)) in
          let b : 6 < op = lt_of_le-ne a (λ q. d (sym q)) in
          let e : op ≡ 7 = omega arith in
          (greater s t, rw e (greater_judged n s t m k js ks x y))
