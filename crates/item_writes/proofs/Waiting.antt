-- The types that wait, as parts of one code: what taking some leaves, and what a node at the end does. Assumes nothing.
use mathlib.Core.Path.{◌≡◌, refl, sym, ap, ap₂, ◌∙◌}
use mathlib.Core.List.{List, [], ◌∷◌, ◌++◌, append_assoc}
use Prim.Native.Nat.{ℕ, zero, suc, ◌+◌, ◌-◌, ◌≤◌, ◌<◌}
use native.Mathlib.Numerals.{add-one}
use native.Mathlib.Omega.{arith}
use native.Mathlib.Decide.{dec_lt}
use lib.Dec.{ltb}
use lib.ListN.{length, get_or, set, take, drop, length-drop}
use lib.Seq.{drop-set-add, take-set-le, take-suc-set, take-add, drop-drop, get_or-set_same, get_or-set_other}
use borrow.Author.Tests.{lt-ltb, le-ltb}
use Rattle.type_value.specs.Walk.{part}
use Rattle.item_writes.specs.Walk.{when, without, latest, ends, joins}
use Rattle.item_writes.specs.Tables.{waiting, Ordered}

-- ---- parts

module _ (l : List ℕ) (a : ℕ) where
  pub part_none : part l a a ≡ []
  part_none = let e : a - a ≡ 0 = omega arith in rw e

  set_past : (e k : ℕ) → a ≤ e → drop a (set l e k) ≡ set (drop a l) (e - a) k
  set_past e k h = let q : a + (e - a) ≡ e = omega arith in ap (λ (n : ℕ). drop a (set l n k)) (sym q) ∙ drop-set-add a l (e - a) k

  part_set : (b e k : ℕ) → a ≤ b → b ≤ e → part (set l e k) a b ≡ part l a b
  part_set b e k h j = ap (take (b - a)) (set_past e k (omega arith)) ∙ take-set-le (b - a) (drop a l) (e - a) k (omega arith)

  part_more : (e k : ℕ) → a ≤ e → e < length l → part (set l e k) a (e + 1) ≡ part l a e ++ (k ∷ [])
  part_more e k h j =
      let q : e + 1 - a ≡ suc (e - a) = omega arith in
      ap₂ (λ (n : ℕ) (m : List ℕ). take n m) q (set_past e k h) ∙ take-suc-set (drop a l) (e - a) k (let d = length-drop a l in omega arith)

  part_both : (b c : ℕ) → a ≤ b → b ≤ c → part l a c ≡ part l a b ++ part l b c
  part_both b c h j =
      let q : c - a ≡ b - a + (c - b) = omega arith in
      let p : a + (b - a) ≡ b = omega arith in
      ap (λ (n : ℕ). take n (drop a l)) q ∙ take-add (b - a) (c - b) (drop a l) ∙ ap (λ (m : List ℕ). part l a b ++ take (c - b) m) (drop-drop (b - a) a l ∙ ap (λ (n : ℕ). drop n l) p)

-- ---- what is stored past the types that wait

module _ (code starts : List ℕ) where
  waiting_node : (n e : ℕ) → Ordered starts n e → (i k : ℕ) → e ≤ i → waiting (set code i k) starts n e ≡ waiting code starts n e
  unfolding waiting Ordered
  waiting_node zero e o i k h = refl
  waiting_node (suc n) e o i k h =
      ap₂ ◌∷◌ (part_set code (get_or starts n 0) e i k o.0 h) (waiting_node n (get_or starts n 0) o.1 i k (let g = o.0 in omega arith))

  waiting_start : (n e i v : ℕ) → n ≤ i → waiting code (set starts i v) n e ≡ waiting code starts n e
  unfolding waiting
  waiting_start zero e i v h = refl
  waiting_start (suc n) e i v h =
      let q = get_or-set_other starts i n v 0 (omega arith) in
      ap₂ (λ (b : ℕ) (l : List (List ℕ)). part code b e ∷ l) q (ap (waiting code (set starts i v) n) q ∙ waiting_start n (get_or starts n 0) i v (omega arith))

module _ (starts : List ℕ) where
  ordered_start : (n e i v : ℕ) → n ≤ i → Ordered starts n e → Ordered (set starts i v) n e
  unfolding Ordered
  ordered_start zero e i v h o = o
  ordered_start (suc n) e i v h o = rw (get_or-set_other starts i n v 0 (omega arith)) (o.0, ordered_start n (get_or starts n 0) i v (omega arith) o.1)

  pub ordered_more : (n e i : ℕ) → e ≤ i → Ordered starts n e → Ordered starts n i
  unfolding Ordered
  ordered_more zero e i h o = omega arith
  ordered_more (suc n) e i h o = (let g = o.0 in omega arith, o.1)

-- ---- a node at the end

module _ (code starts : List ℕ) (n e k : ℕ) (h : n < length starts) (j : e < length code) (o : Ordered starts n e) where
  pub leaf_waits : waiting (set code e k) (set starts n e) (n + 1) (e + 1) ≡ (k ∷ []) ∷ waiting code starts n e
  unfolding waiting
  leaf_waits =
      let q = get_or-set_same starts n e 0 h in
      rw (add-one n)
      (ap₂ (λ (b : ℕ) (l : List (List ℕ)). part (set code e k) b (e + 1) ∷ l) q
      (ap (waiting (set code e k) (set starts n e) n) q ∙ waiting_start (set code e k) starts n e n e (omega arith) ∙ waiting_node code starts n e o e k (omega arith))
      ∙ ap (λ (p : List ℕ). p ∷ waiting code starts n e) (part_more code e e k (omega arith) j ∙ ap (λ (p : List ℕ). p ++ (k ∷ [])) (part_none code e)))

  pub leaf_ordered : Ordered (set starts n e) (n + 1) (e + 1)
  unfolding Ordered
  leaf_ordered = rw (add-one n, get_or-set_same starts n e 0 h) (omega arith, ordered_start starts n e n e (omega arith) o)

module _ (code starts : List ℕ) (e k : ℕ) where
  pub end_none : (n : ℕ) → n < 1 → waiting code starts n e ≡ ends k (waiting code starts n e)
  unfolding waiting ends
  end_none zero h = refl
  end_none (suc n) h = absurd (omega arith)

  pub join_none : (n : ℕ) → n < 2 → waiting code starts n e ≡ joins k (waiting code starts n e)
  unfolding waiting joins
  join_none zero h = refl
  join_none (suc zero) h = refl
  join_none (suc (suc n)) h = absurd (omega arith)

  module _ (j : e < length code) where
    pub end_waits : (n : ℕ) → Ordered starts n e → 1 ≤ n → waiting (set code e k) starts n (e + 1) ≡ ends k (waiting code starts n e)
    unfolding waiting Ordered ends
    end_waits zero o h = absurd (omega arith)
    end_waits (suc n) o h =
        let g = o.0 in
        ap₂ ◌∷◌ (part_more code (get_or starts n 0) e k g j) (waiting_node code starts n (get_or starts n 0) o.1 e k g)

    pub join_waits : (n : ℕ) → Ordered starts n e → 2 ≤ n → waiting (set code e k) starts (n - 1) (e + 1) ≡ joins k (waiting code starts n e)
    unfolding waiting Ordered joins
    join_waits zero o h = absurd (omega arith)
    join_waits (suc zero) o h = absurd (omega arith)
    join_waits (suc (suc n)) o h =
        let a = get_or starts n 0 in
        let b = get_or starts (suc n) 0 in
        let f : b ≤ e = o.0 in
        let g : a ≤ b = o.1.0 in
        let q : suc (suc n) - 1 ≡ suc n = omega arith in
        ap (λ (i : ℕ). waiting (set code e k) starts i (e + 1)) q
        ∙ ap₂ ◌∷◌
        (part_more code a e k (omega arith) j ∙ ap (λ (p : List ℕ). p ++ (k ∷ [])) (part_both code a b e g f) ∙ append_assoc (part code a b) (part code b e) (k ∷ []))
        (waiting_node code starts n a o.1.1 e k (omega arith))

pub join_ordered : (starts : List ℕ) (n e : ℕ) → Ordered starts n e → 2 ≤ n → Ordered starts (n - 1) (e + 1)
unfolding Ordered
join_ordered starts zero e o h = absurd (omega arith)
join_ordered starts (suc zero) e o h = absurd (omega arith)
join_ordered starts (suc (suc n)) e o h =
    let q : suc (suc n) - 1 ≡ suc n = omega arith in
    let f : get_or starts (suc n) 0 ≤ e = o.0 in
    let g : get_or starts n 0 ≤ get_or starts (suc n) 0 = o.1.0 in
    rw q (omega arith, o.1.1)

-- ---- some taken

module _ (starts : List ℕ) where
  -- where the i-th of n types starts, the end where it is none of them
  abbrev pub Begins : (n e i : ℕ) → ℕ
  Begins n e i = when (ltb i n) (get_or starts i 0) e

  begins_end : (n e : ℕ) → Begins n e n ≡ e
  unfolding when
  begins_end n e = rw (le-ltb n n (omega arith), when)

  begins_one : (n e i : ℕ) → i < n → Begins n e i ≡ get_or starts i 0
  unfolding when
  begins_one n e i h = rw (lt-ltb i n h, when)

  begins_less : (n e i : ℕ) → i ≤ n → Begins (suc n) e i ≡ Begins n (get_or starts n 0) i
  begins_less n e i h = begins_one (suc n) e i (omega arith) ∙ go (dec_lt i n)
    where
      go : Dec (i < n) → get_or starts i 0 ≡ Begins n (get_or starts n 0) i
      go (yes j) = sym (begins_one n (get_or starts n 0) i j)
      go (no j) = let q : i ≡ n = omega arith in ap (λ (m : ℕ). get_or starts m 0) q ∙ sym (begins_end n (get_or starts n 0)) ∙ ap (Begins n (get_or starts n 0)) (sym q)

  -- of n types, whose nodes end at e, k are taken: m are left, whose nodes end at f
  pub record Fewer (n e k m f : ℕ) : Type 0 where
    pub within : f ≤ e
    pub ordered : Ordered starts m f
    pub is : (code : List ℕ) → waiting code starts m f ≡ without k (waiting code starts n e)

  pub fewer : (k n e : ℕ) → Ordered starts n e → Fewer n e k (n - k) (Begins n e (n - k))
  unfolding without waiting Ordered
  fewer zero n e o = let q : n - 0 ≡ n = omega arith in rw (q, begins_end n e) (record { within = omega arith; ordered = o; is = λ code. refl })
  fewer (suc k) zero e o = let q : 0 - suc k ≡ 0 = omega arith in rw (q, begins_end 0 e) (record { within = omega arith; ordered = o; is = λ code. refl })
  fewer (suc k) (suc n) e o =
      let q : suc n - suc k ≡ n - k = omega arith in
      let r = fewer k n (get_or starts n 0) o.1 in
      let g : get_or starts n 0 ≤ e = o.0 in
      rw (q, begins_less n e (n - k) (omega arith)) (record { within = let w = r.within in omega arith; ordered = r.ordered; is = r.is })

  pub latest_is : (code : List ℕ) (n e : ℕ) → part code (Begins n e (n - 1)) e ≡ latest (waiting code starts n e)
  unfolding waiting latest
  latest_is code zero e = let q : 0 - 1 ≡ 0 = omega arith in rw (q, begins_end 0 e) (part_none code e)
  latest_is code (suc n) e = let q : suc n - 1 ≡ n = omega arith in rw (q, begins_one (suc n) e n (omega arith))
