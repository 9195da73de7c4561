-- The groups in turn, on lists. Assumes nothing.
use Prim.Native.Nat.{ℕ, zero, suc, ◌+◌, ◌-◌, ◌^◌, ◌≤◌, ◌<◌}
use mathlib.Core.Path.{◌≡◌, refl, sym, ap, ap₂, ◌∙◌}
use mathlib.Core.List.{List, [], ◌∷◌, ◌++◌, append_assoc, append-nil}
use mathlib.Core.Bool.{Bool, true, false, not, ◌&&◌, ◌||◌, false≢true, and_comm, and_assoc}
use native.Mathlib.Numerals.{add-one}
use native.Mathlib.Omega.{arith}
use lib.Dec.{eqb, ltb}
use lib.ListN.{length, get_or, set, take, drop, length-drop}
use lib.Pow.{pow_pos}
use Rattle.std.specs.List.{fold}
use Rattle.std.proofs.lemmas.List.Sums.{fold-append}
use lib.Bits.{bit_or, or_lt, or_add_and, and_le_l, and_le_r}
use lib.Seq.{take-suc, take-suc-set, get_or-drop}
use borrow.Author.Tests.{eqb-true, eqb-false, lt-ltb, le-ltb, ltb-true, ltb-false}
use Rattle.language.specs.Values.{bit_of}
use Rattle.bits.specs.Masks.{bit_matches, matches_in}
use Rattle.bits.specs.Masks.{matches_of as masks_matches_of}
use Rattle.bits.proofs.Digits.{bit_lt}
use Rattle.plan.specs.Layout.{memory_size_at, cells_before, present_at, absent_at, rules_before, group_at}
use Rattle.judged.specs.Groups.{bits_agree, matches_of, matching, Fired, fired, unfired, firing}
use Rattle.judged.specs.Tests.{all_below}
use Rattle.judged.specs.declared.Refusal.{Refusal}
use Rattle.judged.specs.declared.Refusal.TheVariants.{Unmatched, Ambiguous}
use Rattle.std.specs.Prelude.{Option, Some, None, Ok, Err, is_some}
use Rattle.std.specs.Option.{ok_or}
use Rattle.judged.specs.Answers.{number_of}
use Rattle.judged.specs.Judged.{only_of}

pub below_next : (p : List ℕ) (n : ℕ) (f : ℕ → Bool) {a b : Bool} → a ≡ all_below p n f → b ≡ f n → (a && b) ≡ all_below p (n + 1) f
unfolding all_below
below_next p n f d e = rw (add-one n) (ap₂ ◌&&◌ d e)

-- the bits of two numbers together fit a width where both numbers do
pub or_within : (a b w : ℕ) → ltb (bit_or a b) (2 ^ w) ≡ (ltb a (2 ^ w) && ltb b (2 ^ w))
or_within a b w = go (ltb a (2 ^ w)) (ltb b (2 ^ w)) refl refl
  where
    go : (x y : Bool) → ltb a (2 ^ w) ≡ x → ltb b (2 ^ w) ≡ y → ltb (bit_or a b) (2 ^ w) ≡ (x && y)
    go true true d e = lt-ltb (bit_or a b) (2 ^ w) (or_lt w a b (ltb-true a (2 ^ w) d) (ltb-true b (2 ^ w) e))
    go true false d e = let h : 2 ^ w ≤ b = ltb-false b (2 ^ w) e in le-ltb (bit_or a b) (2 ^ w) (omega (arith, h, or_add_and a b, and_le_l a b))
    go false y d e = let h : 2 ^ w ≤ a = ltb-false a (2 ^ w) d in le-ltb (bit_or a b) (2 ^ w) (omega (arith, h, or_add_and a b, and_le_r a b))

-- the bits of k cells together fit a width where each of them does
pub bits_fit : (p memory : List ℕ) (first w k : ℕ) → first + k ≤ length memory → ltb (fold bit_or 0 (take k (drop first memory))) (2 ^ w) ≡ all_below p k (λ i. ltb (get_or memory (first + i) 0) (2 ^ w))
unfolding all_below
bits_fit p memory first w zero h = lt-ltb 0 (2 ^ w) (pow_pos w)
bits_fit p memory first w (suc k) h =
    let e : get_or (drop first memory) k 0 ≡ get_or memory (first + k) 0 = get_or-drop first memory k 0 in
    let j : k < length (drop first memory) = rw (length-drop first memory) (omega arith) in
    rw (take-suc (drop first memory) k 0 j, fold-append bit_or 0 (take k (drop first memory)) (get_or (drop first memory) k 0 ∷ []), e)
    (or_within (fold bit_or 0 (take k (drop first memory))) (get_or memory (first + k) 0) w ∙ ap (λ (b : Bool). b && ltb (get_or memory (first + k) 0) (2 ^ w)) (bits_fit p memory first w k (omega arith)))

-- the cells of a memory are among those of the memories up to n
pub cells_within : (p : List ℕ) (m n : ℕ) → m < n → cells_before p m + memory_size_at p m ≤ cells_before p n
unfolding cells_before
cells_within p m zero h = absurd (omega arith)
cells_within p m (suc n) h = go (eqb m n) refl (cells_within p m n)
  where
    go : (b : Bool) → eqb m n ≡ b → (m < n → cells_before p m + memory_size_at p m ≤ cells_before p n) → cells_before p m + memory_size_at p m ≤ cells_before p n + memory_size_at p n
    go true e r = rw (eqb-true m n e) (omega arith)
    go false e r = let q = eqb-false m n e in let k = r (omega (arith, q)) in omega arith

-- ---- a rule matches

zero_or_one : (x : ℕ) → x < 2 → eqb x 0 ≡ not (eqb x 1)
zero_or_one zero h = refl
zero_or_one (suc zero) h = refl
zero_or_one (suc (suc x)) h = absurd (omega arith)

same_match : (m p a : ℕ) → p < 2 → a < 2 → ((eqb p 0 || eqb m 1) && (eqb a 0 || eqb m 0)) ≡ bit_matches m p a
unfolding bit_matches
same_match m p a h l = rw (zero_or_one p h, zero_or_one a l)

agree : (p : List ℕ) (mask r k : ℕ) → matches_in k mask (present_at p r) (absent_at p r) ≡ bits_agree p mask r k
unfolding matches_in bits_agree
agree p mask r zero = refl
agree p mask r (suc k) =
    ap₂ ◌&&◌ (sym (same_match (bit_of mask k) (bit_of (present_at p r) k) (bit_of (absent_at p r) k) (bit_lt (present_at p r) k) (bit_lt (absent_at p r) k))) (agree p mask r k)
    ∙ and_comm (((eqb (bit_of (present_at p r) k) 0 || eqb (bit_of mask k) 1) && (eqb (bit_of (absent_at p r) k) 0 || eqb (bit_of mask k) 0))) (bits_agree p mask r k)
    ∙ sym (and_assoc (bits_agree p mask r k) (eqb (bit_of (present_at p r) k) 0 || eqb (bit_of mask k) 1) (eqb (bit_of (absent_at p r) k) 0 || eqb (bit_of mask k) 0))

pub matches_agree : (p : List ℕ) (mask r : ℕ) → masks_matches_of mask (present_at p r) (absent_at p r) ≡ matches_of p mask r
unfolding masks_matches_of matches_of
matches_agree p mask r = agree p mask r 32

-- ---- the rules of a group that match, before and after those looked at

abbrev pub seen : Option ℕ → List ℕ → List ℕ
seen None l = l
seen (Some r) l = r ∷ l

module _ (p : List ℕ) (mask r end : ℕ) (h : r < end) where
  left_over : suc (end - (r + 1)) ≡ end - r
  left_over = omega arith

  by_match : Bool → List ℕ
  by_match b = elim b [ true ↦ r ∷ matching p mask (suc r) (end - (r + 1)) | false ↦ matching p mask (suc r) (end - (r + 1)) ]

  pub match_yes : matches_of p mask r ≡ true → matching p mask r (end - r) ≡ r ∷ matching p mask (r + 1) (end - (r + 1))
  unfolding matching by_match
  match_yes e = rw (← left_over) (ap by_match e ∙ rw (add-one r))

  pub match_no : matches_of p mask r ≡ false → matching p mask r (end - r) ≡ matching p mask (r + 1) (end - (r + 1))
  unfolding matching by_match
  match_no e = rw (← left_over) (ap by_match e ∙ rw (add-one r))

  -- a first match, a second, none
  pub seen_first : (found : Option ℕ) {l : List ℕ} → is_some found ≡ false → matches_of p mask r ≡ true → l ≡ seen found (matching p mask r (end - r))
      → l ≡ seen (Some r) (matching p mask (r + 1) (end - (r + 1)))
  seen_first None z m e = e ∙ match_yes m
  seen_first (Some q) z m e = absurd (false≢true (sym z))

  pub seen_second : (found : Option ℕ) {l : List ℕ} → is_some found ≡ true → matches_of p mask r ≡ true → l ≡ seen found (matching p mask r (end - r)) → Err Ambiguous ≡ only_of l
  seen_second None z m e = absurd (false≢true z)
  seen_second (Some q) z m e = rw (e, match_yes m)

  pub seen_none : (found : Option ℕ) {l : List ℕ} → matches_of p mask r ≡ false → l ≡ seen found (matching p mask r (end - r)) → l ≡ seen found (matching p mask (r + 1) (end - (r + 1)))
  seen_none found m e = e ∙ ap (seen found) (match_no m)

-- the end of a group
pub match_end : (p : List ℕ) (mask r end : ℕ) → end ≤ r → matching p mask r (end - r) ≡ []
unfolding matching
match_end p mask r end h = let z : end - r ≡ 0 = omega arith in rw z

pub seen_end : (found : Option ℕ) {l m : List ℕ} → l ≡ seen found m → m ≡ [] → ok_or found Unmatched ≡ only_of l
seen_end None e z = rw (e, z)
seen_end (Some r) e z = rw (e, z)

-- what it says of those that match that there is one, or none or two
only_one : (l : List ℕ) (r : ℕ) → only_of l ≡ Ok r → l ≡ r ∷ []
only_one [] r h = let z : ◌≡◌ {A = ℕ} 0 1 = cc h in absurd (omega arith)
only_one (q ∷ []) r h = let z : q ≡ r = cc h in ap (λ (x : ℕ). x ∷ []) z
only_one (q ∷ x ∷ l) r h = let z : ◌≡◌ {A = ℕ} 0 1 = cc h in absurd (omega arith)

-- ---- the groups

unfoldable pub after : (p : List ℕ) → List ℕ → Fired p → Fired p
after p l (fired k) = fired (l ++ k)
after p l (unfired n) = unfired n

after_more : (p l : List ℕ) (r : ℕ) (f : Fired p) → after p l (after p (r ∷ []) f) ≡ after p (l ++ (r ∷ [])) f
unfolding after
after_more p l r (fired k) = ap fired (sym (append_assoc l (r ∷ []) k))
after_more p l r (unfired n) = refl

after_none : (p : List ℕ) (f : Fired p) → after p [] f ≡ f
unfolding after
after_none p (fired k) = refl
after_none p (unfired n) = refl

abbrev one_of : (p l : List ℕ) (f : Fired p) → Fired p
one_of p l f = elim l [ [] ↦ unfired (number_of Unmatched) | r ∷ [] ↦ elim f [ fired k ↦ fired (r ∷ k) | unfired k ↦ unfired k ] | r ∷ q ∷ k ↦ unfired (number_of Ambiguous) ]

module _ (p : List ℕ) (mask g n : ℕ) (h : g < n) where
  groups_over : suc (n - (g + 1)) ≡ n - g
  groups_over = omega arith

  group_next : firing p mask g (n - g) ≡ one_of p (matching p mask (rules_before p g) (group_at p g)) (firing p mask (g + 1) (n - (g + 1)))
  unfolding firing
  group_next = rw (← groups_over, add-one g)

  one_after : (r : ℕ) (f : Fired p) → one_of p (r ∷ []) f ≡ after p (r ∷ []) f
  unfolding after
  one_after r (fired k) = refl
  one_after r (unfired k) = refl

  -- one rule of the group matches
  pub fire_next : (l : List ℕ) (r : ℕ) {x : Fired p} → g < length l → x ≡ after p (take g l) (firing p mask g (n - g)) → only_of (matching p mask (rules_before p g) (group_at p g)) ≡ Ok r
      → x ≡ after p (take (g + 1) (set l g r)) (firing p mask (g + 1) (n - (g + 1)))
  fire_next l r k e m =
      let rest = firing p mask (g + 1) (n - (g + 1)) in
      let one = only_one (matching p mask (rules_before p g) (group_at p g)) r m in
      e ∙ ap (after p (take g l)) (group_next ∙ ap (λ (y : List ℕ). one_of p y rest) one ∙ one_after r rest)
      ∙ after_more p (take g l) r rest ∙ rw (add-one g, take-suc-set l g r k)

  one_not : (l : List ℕ) (f : Fired p) (a : Refusal) → only_of l ≡ Err a → one_of p l f ≡ unfired (number_of a)
  one_not [] f a h = let z : Unmatched ≡ a = cc h in ap (λ (x : Refusal). unfired (number_of x)) z
  one_not (r ∷ []) f a h = let z : ◌≡◌ {A = ℕ} 0 1 = cc h in absurd (omega arith)
  one_not (r ∷ q ∷ l) f a h = let z : Ambiguous ≡ a = cc h in ap (λ (x : Refusal). unfired (number_of x)) z

  -- none, or more than one
  pub fire_stop : (l : List ℕ) (a : Refusal) {x : Fired p} → x ≡ after p (take g l) (firing p mask g (n - g)) → only_of (matching p mask (rules_before p g) (group_at p g)) ≡ Err a
      → unfired (number_of a) ≡ x
  unfolding after
  fire_stop l a e m =
      let rest = firing p mask (g + 1) (n - (g + 1)) in
      sym (e ∙ ap (after p (take g l)) (group_next ∙ one_not (matching p mask (rules_before p g) (group_at p g)) rest a m))

pub fire_end : (p : List ℕ) (mask g n : ℕ) (l : List ℕ) {x : Fired p} → n ≤ g → g ≤ n → x ≡ after p (take g l) (firing p mask g (n - g)) → fired (take n l) ≡ x
unfolding firing after
fire_end p mask g n l h j e = let z : n - g ≡ 0 = omega arith in let y : g ≡ n = omega arith in sym (rw (z, y) at e ∙ ap fired (append-nil (take n l)))

pub fire_start : (p : List ℕ) (mask n : ℕ) (l : List ℕ) → firing p mask 0 n ≡ after p (take 0 l) (firing p mask 0 (n - 0))
fire_start p mask n l = let e : n - 0 ≡ n = omega arith in rw e (sym (after_none p (firing p mask 0 n)))
