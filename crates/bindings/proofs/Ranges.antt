-- Bindings that were read give no width over 32 and no value over 65,535. Assumes nothing.
use mathlib.Core.Path.{◌≡◌, refl, subst}
use mathlib.Core.Bool.{Bool, true, false, ◌&&◌}
use mathlib.Core.List.{List, [], ◌∷◌}
use Prim.Native.Nat.{ℕ, zero, suc, ◌+◌, ◌-◌, ◌*◌, ◌≤◌, zero-le}
use native.Mathlib.Omega.{arith}
use lib.Dec.{eqb, leb, ltb}
use borrow.Author.Tests.{leb-true}
use lib.ListN.{length}
use Rattle.language.specs.Limits.{limits}
use Rattle.language.specs.Text.{Name, same}
use Rattle.language.specs.Words.{digit}
use Rattle.language.specs.Bindings.{Binding, Bindings, Got, got, lost, after, byte, digits_from, number_up_to, fresh_name, lines, section, sections, Bound, bound, wrong_at, bindings_of}
use Rattle.language.specs.Widths.{value_in}

-- what was read is in a range; nothing is asked of a text that is lost
abbrev Holds : {T : Type 0} → (T → Type 0) → Got T → Type 0
Holds P (got t r) = P t
Holds P (lost r) = Unit {0}

holds_after : {S T : Type 0} (P : S → Type 0) (Q : T → Type 0) (x : Got S) (g : S → List ℕ → Got T) → Holds P x → ((s : S) (r : List ℕ) → P s → Holds Q (g s r)) → Holds Q (after x g)
unfolding after
holds_after P Q (got s r) g h f = f s r h
holds_after P Q (lost r) g h f = tt

holds_byte : {T : Type 0} (Q : T → Type 0) (c : ℕ) (x : List ℕ) (g : List ℕ → Got T) → ((r : List ℕ) → Holds Q (g r)) → Holds Q (byte c x g)
unfolding byte
holds_byte Q c [] g f = tt
holds_byte {T = T} Q c (b ∷ x) g f = go (eqb c b)
  where
    go : (y : Bool) → Holds Q (elim y as (λ (z : Bool). Got T) [ true ↦ g x | false ↦ lost (b ∷ x) ])
    go true = f x
    go false = tt

both_true : (x y : Bool) → (x && y) ≡ true → (x ≡ true) × (y ≡ true)
both_true true true e = (refl, refl)
both_true true false e = absurd (let z : ◌≡◌ {A = ℕ} 0 1 = cc in omega arith)
both_true false y e = absurd (let z : ◌≡◌ {A = ℕ} 0 1 = cc in omega arith)

module _ (most : ℕ) where
  abbrev Small : ℕ → Type 0
  Small v = v ≤ most

  digits_small : (bs : List ℕ) (n : ℕ) → n ≤ most → Holds Small (digits_from most n bs)
  unfolding digits_from
  digits_small [] n h = h
  digits_small (b ∷ r) n h = go (digit b && ltb 0 n && leb (n * 10 + (b - 48)) most) refl (λ k. digits_small r (n * 10 + (b - 48)) k)
    where
      go : (x : Bool) → (digit b && ltb 0 n && leb (n * 10 + (b - 48)) most) ≡ x → (n * 10 + (b - 48) ≤ most → Holds Small (digits_from most (n * 10 + (b - 48)) r)) → Holds Small (elim x as (λ (z : Bool). Got ℕ) [ true ↦ digits_from most (n * 10 + (b - 48)) r | false ↦ got n (b ∷ r) ])
      go true e f = f (leb-true _ _ (both_true (digit b && ltb 0 n) (leb (n * 10 + (b - 48)) most) e).1)
      go false e f = h

  module _ (nine : 9 ≤ most) where
    number_small : (bs : List ℕ) → Holds Small (number_up_to most bs)
    unfolding number_up_to digit
    number_small [] = tt
    number_small (b ∷ r) = go (digit b) refl
      where
        go : (x : Bool) → digit b ≡ x → Holds Small (elim x as (λ (z : Bool). Got ℕ) [ true ↦ digits_from most (b - 48) r | false ↦ lost (b ∷ r) ])
        go true e = digits_small r (b - 48) (let k = leb-true b 57 (both_true (leb 48 b) (leb b 57) e).1 in omega arith)
        go false e = tt

    abbrev Low : List Binding → Type 0
    Low l = (s : List ℕ) → value_in l s ≤ most

    none_low : Low []
    unfolding value_in
    none_low s = zero-le

    one_low : (n : Name) (v : ℕ) (l : List Binding) → v ≤ most → Low l → Low (record { called = n; value = v } ∷ l)
    unfolding value_in
    one_low n v l h f s = go (same n.spelled s)
      where
        go : (x : Bool) → elim x as (λ (z : Bool). ℕ) [ true ↦ v | false ↦ value_in l s ] ≤ most
        go true = h
        go false = f s

    lines_low : (long k : ℕ) (seen : List (List ℕ)) (bs : List ℕ) → Holds Low (lines long most k seen bs)
    unfolding lines
    lines_low long zero seen bs = none_low
    lines_low long (suc k) seen bs =
        holds_after (λ (s : List ℕ). Unit {0}) Low (fresh_name seen bs) _ (any (fresh_name seen bs))
        (λ s r u. holds_byte Low 32 r _ (λ x. holds_after Small Low (number_up_to most x) _ (number_small x)
        (λ v y h. holds_byte Low 10 y _ (λ z. holds_after Low Low (lines long most k (s ∷ seen) z) _ (lines_low long k (s ∷ seen) z)
        (λ l w f. one_low _ v l h f)))))
      where
        any : (x : Got (List ℕ)) → Holds (λ (s : List ℕ). Unit {0}) x
        any (got s r) = tt
        any (lost r) = tt

    section_low : (long : ℕ) (bs : List ℕ) → Holds Low (section long most bs)
    unfolding section
    section_low long bs =
        holds_after (λ (s : ℕ). Unit {0}) Low (number_up_to limits.lines bs) _ (any (number_up_to limits.lines bs)) (λ k r u. holds_byte Low 10 r _ (λ x. lines_low long k [] x))
      where
        any : (x : Got ℕ) → Holds (λ (s : ℕ). Unit {0}) x
        any (got s r) = tt
        any (lost r) = tt

pub record Ranged (b : Bindings) : Type 0 where
  pub widths : (s : List ℕ) → value_in b.widths s ≤ limits.width
  pub values : (s : List ℕ) → value_in b.values s ≤ limits.typeNumber

sections_ranged : (bs : List ℕ) → Holds Ranged (sections bs)
unfolding sections
sections_ranged bs =
    holds_after (λ (l : List Binding). (s : List ℕ) → value_in l s ≤ limits.width) Ranged (section (length bs) limits.width bs) _ (section_low limits.width (omega arith) (length bs) bs)
    (λ ws r h. holds_after (λ (l : List Binding). (s : List ℕ) → value_in l s ≤ limits.typeNumber) Ranged (section (length bs) limits.typeNumber r) _ (section_low limits.typeNumber (omega arith) (length bs) r) (λ vs x k. ending ws vs h k x))
  where
    ending : (ws vs : List Binding) → ((s : List ℕ) → value_in ws s ≤ limits.width) → ((s : List ℕ) → value_in vs s ≤ limits.typeNumber) → (x : List ℕ) → Holds Ranged (elim x as (λ (z : List ℕ). Got Bindings) [ [] ↦ got (record { widths = ws; values = vs }) [] | b ∷ y ↦ lost (b ∷ y) ])
    ending ws vs h k [] = record { widths = h; values = k }
    ending ws vs h k (b ∷ y) = tt

pub ranged : (text : List ℕ) {b : Bindings} → bindings_of text ≡ bound b → Ranged b
unfolding bindings_of
ranged text {b} e = go (sections text) (sections_ranged text) e
  where
    go : (x : Got Bindings) → Holds Ranged x → elim x as (λ (z : Got Bindings). Bound) [ got c r ↦ bound c | lost r ↦ wrong_at (length text - length r) ] ≡ bound b → Ranged b
    go (got c r) h f = let z : c ≡ b = cc in subst (λ (d : Bindings). Ranged d) z h
    go (lost r) h f = absurd (let z : ◌≡◌ {A = ℕ} 0 1 = cc in omega arith)
