-- The entries of a rule's list: what a reader of lists answers at a word of each kind. Assumes nothing.
use mathlib.Core.Path.{◌≡◌, refl, sym, ap, ◌∙◌}
use mathlib.Core.Bool.{Bool, true, false}
use mathlib.Core.List.{List}
use mathlib.Core.Option.{Option, none, some}
use Prim.Native.Nat.{ℕ, zero, suc, ◌+◌, ◌≤◌, ◌<◌}
use native.Mathlib.Omega.{arith}
use lib.Dec.{eqb}
use lib.ListN.{drop}
use borrow.Author.Tests.{eq-eqb, ne_eqb}
use Rattle.language.specs.Words.{Word, num, Numeral}
use Rattle.language.specs.Text.{Name}
use Rattle.language.specs.Reader.{Res, ok, bad, on, is_name, is_the, is_figure, expect}
use Rattle.language.specs.Parser.{entry_p}
use Rattle.words.specs.Table.{word_of}
use Rattle.tape.specs.Tape.{one_if}
use Rattle.readers.specs.Marks.{kind_at, place_at, long_at, value_at, numeral_at, name_at, Marked, the_p}
use Rattle.rule_reader.specs.Rules.{figure_p}
use Rattle.readers.proofs.Spells.{word, word_found, on_miss, name_miss, on_p, off_p, expect_found, expect_lacks}
use Rattle.readers.specs.Meets.{Finds, Lacks}
use Rattle.readers.proofs.Fixed.{s_dot}

figure_miss : (text : List ℕ) (p l v figure k : ℕ) → (k ≡ 1 → ⊥) → is_figure figure (word_of text k p l v) ≡ none
unfolding is_figure word_of
figure_miss text p l v figure zero h = refl
figure_miss text p l v figure (suc zero) h = absurd (h refl)
figure_miss text p l v figure (suc (suc zero)) h = refl
figure_miss text p l v figure (suc (suc (suc zero))) h = refl
figure_miss text p l v figure (suc (suc (suc (suc k)))) h = refl

figure_hit : (v : ℕ) (n : Numeral) → n.long ≡ 1 → n.value ≡ v → is_figure v (num n) ≡ some n.at
unfolding is_figure
figure_hit v n l e = simp (is_figure, eq-eqb v n.value (sym e), eq-eqb 1 n.long (sym l))

figure_other : (v : ℕ) (n : Numeral) → (n.value ≡ v → ⊥) → is_figure v (num n) ≡ none
unfolding is_figure
figure_other v n h = simp (is_figure, ne_eqb v n.value (λ q. h (sym q)))

figure_longer : (v : ℕ) (n : Numeral) → (n.long ≡ 1 → ⊥) → is_figure v (num n) ≡ none
unfolding is_figure
figure_longer v n h = go (eqb v n.value) (ne_eqb 1 n.long (λ q. h (sym q)))
  where
    go : (b : Bool) → eqb 1 n.long ≡ false → ◌≡◌ {A = Option ℕ} (elim b [ true ↦ elim (eqb 1 n.long) [ true ↦ some n.at | false ↦ none ] | false ↦ none ]) none
    go true q = simp q
    go false q = refl

pub value_if : (v : ℕ) → v ≤ 1 → v ≡ one_if (eqb v 1)
unfolding one_if
value_if zero h = refl
value_if (suc zero) h = refl
value_if (suc (suc v)) h = absurd (omega arith)

module _ {text : List ℕ} {ms : List (List ℕ)} {w : List ℕ} {ws : List Word} (M : Marked text ms w ws) (x : ℕ) where
  module _ {S : Type 0} (v : ℕ) (g : ℕ → List Word → Res S) (d : List Word → Res S) (k : kind_at w x ≡ 1) where
    on_figure : long_at w x ≡ 1 → value_at w x ≡ v → on (is_figure v) (drop x ws) g d ≡ g (place_at w x) (drop (x + 1) ws)
    unfolding on word_of
    on_figure l e = rw (word M x 1 (omega arith) k) (simp (on, figure_hit v (numeral_at w x) l e))

    off_figure : is_figure v (num (numeral_at w x)) ≡ none → on (is_figure v) (drop x ws) g d ≡ d (drop x ws)
    unfolding on word_of
    off_figure q = rw (word M x 1 (omega arith) k) (simp (on, q))

  module _ (n : Name) where
    pub figure_read : (y : ℕ) → kind_at w x ≡ 1 → long_at w x ≡ 1 → value_at w x ≤ 1 → y ≡ x + 1 → figure_p n (drop x ws) ≡ ok (record { called = n; present = eqb (value_at w x) 1 }) (drop y ws)
    unfolding figure_p
    figure_read y k l h q = go (value_at w x) refl h ∙ ap (λ (y : ℕ). ok (record { called = n; present = eqb (value_at w x) 1 }) (drop y ws)) (sym q)
      where
        go : (v : ℕ) → value_at w x ≡ v → v ≤ 1 → figure_p n (drop x ws) ≡ ok (record { called = n; present = eqb v 1 }) (drop (x + 1) ws)
        go zero q h = off_figure 1 _ _ k (figure_other 1 _ (λ e. zero_one (sym q ∙ e))) ∙ on_figure 0 _ _ k l q
          where
            zero_one : ◌≡◌ {A = ℕ} 0 1 → ⊥
            zero_one e = omega arith
        go (suc zero) q h = on_figure 1 _ _ k l q
        go (suc (suc v)) q h = absurd (omega arith)

    -- no figure is there
    figure_off : ((v : ℕ) → v ≤ 1 → is_figure v (num (numeral_at w x)) ≡ none) → kind_at w x ≡ 1 → figure_p n (drop x ws) ≡ bad (drop x ws)
    unfolding figure_p
    figure_off h k = off_figure 1 _ _ k (h 1 (omega arith)) ∙ off_figure 0 _ _ k (h 0 (omega arith))

    pub figure_kind : {i : ℕ} → Lacks w x 1 i → figure_p n (drop x ws) ≡ bad (drop i ws)
    unfolding figure_p
    figure_kind k = on_miss M (is_figure 1) _ _ x (λ p l v. figure_miss text p l v 1 _ k.kind) ∙ on_miss M (is_figure 0) _ _ x (λ p l v. figure_miss text p l v 0 _ k.kind) ∙ ap (λ (y : ℕ). bad (drop y ws)) (sym k.stays)

    pub figure_long : kind_at w x ≡ 1 → (long_at w x ≡ 1 → ⊥) → figure_p n (drop x ws) ≡ bad (drop x ws)
    figure_long k l = figure_off (λ v h. figure_longer v _ l) k

    pub figure_value : kind_at w x ≡ 1 → 1 < value_at w x → figure_p n (drop x ws) ≡ bad (drop x ws)
    figure_value k l = figure_off (λ v h. figure_other v _ (other v h)) k
      where
        other : (v : ℕ) → v ≤ 1 → value_at w x ≡ v → ⊥
        other v h q = omega arith

-- an entry up to its figure
module _ {text : List ℕ} {ms : List (List ℕ)} {w : List ℕ} {ws : List Word} (M : Marked text ms w ws) (f at : ℕ) where
  pub entry_none : {i : ℕ} → Lacks w at 2 i → entry_p f (drop at ws) ≡ bad (drop i ws)
  unfolding entry_p
  entry_none h = on_miss M is_name _ _ at (λ p l v. name_miss text p l v _ h.kind) ∙ ap (λ (y : ℕ). bad (drop y ws)) (sym h.stays)

  module _ {x : ℕ} (k : Finds w at 2 x) where
    entry_name : entry_p f (drop at ws)
        ≡ expect "." (drop x ws) (λ p x. on (is_the "p") x (λ q y. expect "." y (λ s z. figure_p (name_at text w at) z)) (λ x. bad x))
    unfolding entry_p figure_p on is_name word_of
    entry_name = ap (entry_p f) (word_found M at 2 (omega arith) k)

    pub entry_dot : {i : ℕ} → Lacks w x 46 i → entry_p f (drop at ws) ≡ bad (drop i ws)
    entry_dot d = entry_name ∙ expect_lacks M s_dot _ d

    module _ {y : ℕ} (d : Finds w x 46 y) where
      entry_pointed : entry_p f (drop at ws) ≡ on (is_the "p") (drop y ws) (λ q y. expect "." y (λ s z. figure_p (name_at text w at) z)) (λ x. bad x)
      entry_pointed = entry_name ∙ expect_found M s_dot _ d

      pub entry_p_law : the_p w y ≡ false → entry_p f (drop at ws) ≡ bad (drop y ws)
      entry_p_law e = entry_pointed ∙ off_p M y _ _ e

      module _ (e : the_p w y ≡ true) where
        entry_second_dot : entry_p f (drop at ws) ≡ expect "." (drop (y + 1) ws) (λ s z. figure_p (name_at text w at) z)
        entry_second_dot = entry_pointed ∙ on_p M y _ _ e

        pub entry_second : {i : ℕ} → Lacks w (y + 1) 46 i → entry_p f (drop at ws) ≡ bad (drop i ws)
        entry_second d₂ = entry_second_dot ∙ expect_lacks M s_dot _ d₂

        pub entry_figure : {z : ℕ} → Finds w (y + 1) 46 z → entry_p f (drop at ws) ≡ figure_p (name_at text w at) (drop (at + 4) ws)
        entry_figure {z} d₂ = entry_second_dot ∙ expect_found M s_dot _ d₂ ∙ ap (λ (z : ℕ). figure_p (name_at text w at) (drop z ws)) four
          where
            four : z ≡ at + 4
            four = omega (arith, k, d, d₂)
