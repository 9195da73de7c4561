-- The types that wait, with their marks in cells and their code before them. Assumes nothing.
use mathlib.Core.Path.{◌≡◌, refl, sym, ap, ap₂, ◌∙◌, subst}
use mathlib.Core.List.{List, [], ◌∷◌, ◌++◌, append_assoc}
use Prim.Native.Nat.{ℕ, zero, suc, ◌+◌, ◌-◌, ◌≤◌, ◌<◌}
use native.Mathlib.Nat.{lt_irrefl}
use native.Mathlib.Numerals.{add-one}
use native.Mathlib.Omega.{arith}
use lib.ListN.{length, get_or, set, take, drop, length-take, length-drop}
use lib.Seq.{get_or-set_same, get_or-set_other, get_or-drop, take-suc}
use Rattle.type_value.specs.Terms.{Term, code, TypeOf}
use Rattle.type_value.specs.Walk.{part, TermStands}
use Rattle.typing_vectors.specs.Judged.{Judged, codes, Marked, Held}

-- a store at or past them leaves them
kept : (n : ℕ) (l : List ℕ) (k : ℕ) (ts : List Term) (i m : ℕ) → k ≤ i → Marked n l k ts → Marked n (set l i m) k ts
kept n l zero [] i m h w = tt
kept n l zero (t ∷ ts) i m h w = w
kept n l (suc k) [] i m h w = w
kept n l (suc k) (t ∷ ts) i m h w =
    (subst (λ (x : ℕ). Judged n t x (code t)) (sym (get_or-set_other l i k m 0 (λ e. absurd (omega arith)))) w.0, kept n l k ts i m (omega arith) w.1)

-- a type put on
pub put_on : (n : ℕ) (l : List ℕ) (k : ℕ) (js : List ℕ) (t : Term) (m : ℕ) (c : List ℕ) → k < length l → Held n l k js → Judged n t m c → Held n (set l k m) (k + 1) (js ++ c)
unfolding codes
put_on n l k js t m c h (ts, w, e) j = (
  t ∷ ts,
  subst (λ (i : ℕ). Marked n (set l k m) i (t ∷ ts)) (sym (add-one k))
      (subst (λ (x : ℕ). Judged n t x (code t)) (sym (get_or-set_same l k m 0 h)) (record { fine = j.fine; is = j.is; coded = refl }), kept n l k ts k m (omega arith) w),
  ap₂ (λ (a b : List ℕ). a ++ b) e j.coded,
)

-- the last one
pub record Last (n : ℕ) (l : List ℕ) (k : ℕ) (ks : List ℕ) : Type 0 where
  pub type : Term
  pub before : List ℕ
  pub judged : Judged n type (get_or l (k - 1) 0) (code type)
  pub held : Held n l (k - 1) before
  pub is : ks ≡ before ++ code type

pub last : (n : ℕ) (l : List ℕ) (k : ℕ) (ks : List ℕ) → 0 < k → Held n l k ks → Last n l k ks
unfolding codes
last n l zero ks h w = absurd (lt_irrefl 0 h)
last n l (suc k) ks h ([], w, e) = absurd w
last n l (suc k) ks h (t ∷ ts, w, e) =
    let z : suc k - 1 ≡ k = omega arith in
    record {
      type = t;
      before = codes ts;
      judged = subst (λ (i : ℕ). Judged n t (get_or l i 0) (code t)) (sym z) w.0;
      held = subst (λ (i : ℕ). Held n l i (codes ts)) (sym z) (ts, w.1, refl);
      is = sym e;
    }

-- none
pub no_code : (n : ℕ) (l ks : List ℕ) → Held n l 0 ks → ks ≡ []
unfolding codes
no_code n l ks ([], w, e) = sym e
no_code n l ks (t ∷ ts, w, e) = absurd w

-- ---- what a node leaves, from what its call of `push` tells

abbrev pub Pushed : List ℕ → List ℕ → ℕ → ℕ → ℕ → Type 0
Pushed l x k m r = (r ≡ k + 1) × (k < 64) × (x ≡ set l k m)

module _ (n : ℕ) (l x : List ℕ) (r : ℕ) (long : length l ≡ 64) where
  pushed : (k m : ℕ) (js : List ℕ) (t : Term) (c : List ℕ) → Pushed l x k m r → Held n l k js → Judged n t m c → Held n x r (js ++ c)
  pushed k m js t c p h j = rw (p.2, p.0) (put_on n l k js t m c (omega arith) h j)

  pub leaf_held : (k m node : ℕ) (ks : List ℕ) → Pushed l x k m r → Held n l k ks → ((t : Term) × Judged n t m (node ∷ [])) → Held n x r (ks ++ (node ∷ []))
  leaf_held k m node ks p h j = pushed k m ks j.0 (node ∷ []) p h j.1

  pub unary_held : (k m op : ℕ) (ks : List ℕ) → 0 < k → Pushed l x (k - 1) m r → Held n l k ks
      → ((i : ℕ) (t : Term) (js : List ℕ) → Judged i t (get_or l (k - 1) 0) js → (s : Term) × Judged i s m (js ++ (op ∷ []))) → Held n x r (ks ++ (op ∷ []))
  unary_held k m op ks z p h f =
      let a = last n l k ks z h in
      let j = f n a.type (code a.type) a.judged in
      rw (a.is, append_assoc a.before (code a.type) (op ∷ [])) (pushed (k - 1) m a.before j.0 (code a.type ++ (op ∷ [])) p a.held j.1)

  pub binary_held : (k m op : ℕ) (ks : List ℕ) → 1 < k → Pushed l x (k - 2) m r → Held n l k ks
      → ((i : ℕ) (s t : Term) (is js : List ℕ) → Judged i s (get_or l (k - 2) 0) is → Judged i t (get_or l (k - 1) 0) js → (u : Term) × Judged i u m (is ++ (js ++ (op ∷ []))))
      → Held n x r (ks ++ (op ∷ []))
  binary_held k m op ks z p h f =
      let a = last n l k ks (omega arith) h in
      let b = last n l (k - 1) a.before (omega arith) a.held in
      let e : k - 1 - 1 ≡ k - 2 = omega arith in
      let v : Judged n b.type (get_or l (k - 2) 0) (code b.type) = subst (λ (i : ℕ). Judged n b.type (get_or l i 0) (code b.type)) e b.judged in
      let w : Held n l (k - 2) b.before = subst (λ (i : ℕ). Held n l i b.before) e b.held in
      let j = f n b.type a.type (code b.type) (code a.type) v a.judged in
      let g : ks ++ (op ∷ []) ≡ b.before ++ (code b.type ++ (code a.type ++ (op ∷ []))) =
      ap (λ (q : List ℕ). q ++ (op ∷ [])) (a.is ∙ ap (λ (q : List ℕ). q ++ code a.type) b.is) ∙ append_assoc (b.before ++ code b.type) (code a.type) (op ∷ [])
      ∙ append_assoc b.before (code b.type) (code a.type ++ (op ∷ [])) in
      subst (λ (q : List ℕ). Held n x r q) (sym g) (pushed (k - 2) m b.before j.0 (code b.type ++ (code a.type ++ (op ∷ []))) p w j.1)

-- ---- a part of the code, one node longer

pub part_longer : (l : List ℕ) (from i : ℕ) → from ≤ i → i < length l → part l from (i + 1) ≡ part l from i ++ (get_or l i 0 ∷ [])
part_longer l from i h g =
    let e : i + 1 - from ≡ suc (i - from) = omega arith in
    let z : from + (i - from) ≡ i = omega arith in
    ap (λ (n : ℕ). take n (drop from l)) e ∙ take-suc (drop from l) (i - from) 0 (simp length-drop (omega arith))
    ∙ ap (λ (x : ℕ). part l from i ++ (x ∷ [])) (get_or-drop from l (i - from) 0 ∙ ap (λ (n : ℕ). get_or l n 0) z)

pub part_empty : (l : List ℕ) (from : ℕ) → part l from from ≡ []
part_empty l from = let e : from - from ≡ 0 = omega arith in ap (λ (n : ℕ). take n (drop from l)) e

-- one type with at most two logs together is a whole type
pub whole : (n : ℕ) (l marks : List ℕ) (from end k : ℕ) → k ≡ 1 → end ≤ length l → end - from ≤ 64 → get_or marks 0 0 < 6 → Held n marks k (part l from end) → (t : Term) × TermStands t l from end × TypeOf n t
whole n l marks from end k o inside short two h =
    let a = last n marks k (part l from end) (omega arith) h in
    let z : k - 1 ≡ 0 = omega arith in
    let w : a.before ≡ [] = no_code n marks a.before (subst (λ (i : ℕ). Held n marks i a.before) z a.held) in
    let c : part l from end ≡ code a.type = a.is ∙ ap (λ (q : List ℕ). q ++ code a.type) w in
    let v : get_or marks (k - 1) 0 < 6 = rw z two in
    let d : length (part l from end) ≤ end - from = simp length-take (omega arith) in (
      a.type,
      record { inside = inside; is = c },
      record { fine = a.judged.fine; two = omega (arith, a.judged.is); short = omega (arith, ap length c) },
    )
