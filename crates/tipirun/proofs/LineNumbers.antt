-- A number of a cycle's line, as document 01 has it and as the machine meets it: a mask under 2^32, a value under 2^64. Assumes nothing.
use mathlib.Core.Path.{◌≡◌, refl, sym, ap, ◌∙◌, subst}
use mathlib.Core.Bool.{Bool, true, false}
use Rattle.std.specs.Prelude.{None}
use mathlib.Core.List.{List, [], ◌∷◌}
use Prim.Native.Nat.{ℕ, ◌+◌, ◌-◌, ◌*◌, ◌≤◌, ◌<◌, min}
use native.Mathlib.Omega.{arith}
use borrow.Author.Tests.{le-leb, leb-true, eqb-true, eqb-false}
use lib.Dec.{eqb, leb, ltb}
use Rattle.language.specs.Words.{digit}
use Rattle.language.specs.Bindings.{Got, got, lost, digits_from, number_up_to}
use Rattle.language.specs.Worked.{is_bad}
use Rattle.figures.specs.declared.Stage.{Stage}
use Rattle.figures.specs.declared.Stage.TheVariants.{Line, Wrong}
use Rattle.figures.specs.declared.State.{State}
use Rattle.figures.specs.States.{wrong_of, grown_of, so_far, most_of, stays_of, line_takes, longer_of}
use Rattle.input_bytes.specs.Lines.{standing, line_byte}
use Rattle.input_bytes.specs.Bytes.{Machine, stated, lined, moved_at, moved_of}
use Rattle.figures.proofs.Counting.{takes_none, takes_first, takes_next, most_mask, most_value}
use Rattle.figures.proofs.Counting.{line_first, line_none}
use Rattle.input_bytes.proofs.Ends.{line_takes_law, line_unbegun}
use Rattle.input_bytes.proofs.Endings.{ended_bad}
use Rattle.tipirun.proofs.Onward.{From, none, on_to, closed, wrong_closed}
use Rattle.input_bytes.proofs.Numbers.{digit_range, stop_other, stop_zero, digit_more, first_digit, no_digit}
use Rattle.tipirun.proofs.TextRuns.{enters_by, still_comes}

-- no bound is below 9 or above 64 bits
bounds : (p : ℕ) → (9 ≤ most_of p) × (most_of p ≤ 18_446_744_073_709_551_615)
bounds p = go (eqb p 0) refl
  where
    go : (x : Bool) → eqb p 0 ≡ x → (9 ≤ most_of p) × (most_of p ≤ 18_446_744_073_709_551_615)
    go true e = let q = most_mask p (eqb-true p 0 e) in (omega arith, omega arith)
    go false e = let q = most_value p (eqb-false p 0 e) in (omega arith, omega arith)

-- ---- bytes that leave the line as it is, but for the state

line_moved : (m : Machine) (b : ℕ) (t : State) → m.state.stage ≡ Line → standing t m.values m.outputs m.memory ≡ line_byte m.state b m.plan m.values m.outputs m.memory → moved_of m b ≡ stated m t
unfolding moved_of moved_at
line_moved m b t e f = ap (λ (g : Stage). moved_at g m b) e ∙ sym (ap (lined m) f)

line_on : (m : Machine) (b : ℕ) (t : State) (bs out : List ℕ) → m.state.stage ≡ Line → 0 < t.left → standing t m.values m.outputs m.memory ≡ line_byte m.state b m.plan m.values m.outputs m.memory → From m (b ∷ bs) out → From (stated m t) bs out
line_on m b t bs out e h f x = still_comes (stated m t) bs out h (enters_by m (stated m t) b bs out (line_moved m b t e f) refl x)

pub line_wrong : (m : Machine) (b : ℕ) (bs out : List ℕ) → m.state.stage ≡ Line → standing (wrong_of m.state) m.values m.outputs m.memory ≡ line_byte m.state b m.plan m.values m.outputs m.memory → From m (b ∷ bs) out → out ≡ is_bad
line_wrong m b bs out e f x =
    closed bs (stated m (wrong_of m.state)) out Wrong refl wrong_closed (on_to (wrong_of m.state) Wrong (line_moved m b (wrong_of m.state) e f) refl wrong_closed.quiet x)
    ∙ sym (ended_bad (stated m (wrong_of m.state)) Wrong refl refl)

pub line_cut : (m : Machine) (out : List ℕ) → m.state.stage ≡ Line → From m [] out → out ≡ is_bad
line_cut m out e x = none x ∙ sym (ended_bad m Line e refl)

-- ---- a number

module _ (m : Machine) (s : State) (out : List ℕ) where
  -- it is v, and the bytes r, of which the first is no digit of it, are to come
  pub record Ended (v : ℕ) (r : List ℕ) : Type 0 where
    pub rest : From (stated m (grown_of s v)) r out
    pub stops : (b : ℕ) (x : List ℕ) → r ≡ b ∷ x → line_takes (grown_of s v) b ≡ false
    pub small : v ≤ most_of s.port

  -- what is written where a number is read so
  unfoldable pub Numbered : Got ℕ → Type 0
  Numbered (lost r) = out ≡ is_bad
  Numbered (got v r) = Ended v r

  stop : (b n : ℕ) (bs : List ℕ) → n ≤ most_of s.port → line_takes (grown_of s n) b ≡ false → digits_from (most_of s.port) n (b ∷ bs) ≡ got n (b ∷ bs) → From (stated m (grown_of s n)) (b ∷ bs) out → Numbered (digits_from (most_of s.port) n (b ∷ bs))
  unfolding Numbered
  stop b n bs h t e x =
      subst Numbered (sym e)
      record { rest = x; stops = λ c y f. subst (λ (i : ℕ). line_takes (grown_of s n) i ≡ false) (let q : b ≡ c = cc in q) t; small = h }

  too_big : (b n : ℕ) (bs : List ℕ) → digit b ≡ true → ltb 0 n ≡ true → leb (n * 10 + (b - 48)) (most_of s.port) ≡ false → digits_from (most_of s.port) n (b ∷ bs) ≡ got n (b ∷ bs)
  unfolding digits_from
  too_big b n bs e f g = simp (digits_from, e, f, g)

  fits_is : (b n : ℕ) → digit b ≡ true → ltb 0 n ≡ true → leb (n * 10 + (b - 48)) (most_of s.port) ≡ line_takes (grown_of s n) b
  unfolding stays_of
  fits_is b n p q = line_first (grown_of s n) b (sym (takes_next (grown_of s n) b n p refl) ∙ q)

  grows : (b n : ℕ) (bs : List ℕ) → s.stage ≡ Line → 0 < s.left → n * 10 + (b - 48) ≤ most_of s.port → line_takes (grown_of s n) b ≡ true → From (stated m (grown_of s n)) (b ∷ bs) out → From (stated m (grown_of s (n * 10 + (b - 48)))) bs out
  unfolding longer_of
  grows b n bs e h k t x =
      let w = bounds s.port in
      let q : min (n * 10 + (b - 48)) 18_446_744_073_709_551_615 ≡ n * 10 + (b - 48) = omega (arith, w.1) in
      subst (λ (i : ℕ). From (stated m (grown_of s i)) bs out) q
      (line_on (stated m (grown_of s n)) b (longer_of (grown_of s n) b) bs out e h (line_takes_law (grown_of s n) b m.plan m.values m.outputs m.memory t) x)

  digit_next : (b : ℕ) (bs : List ℕ) (n : ℕ) → s.stage ≡ Line → 0 < s.left → n ≤ most_of s.port → ((i : ℕ) → i ≤ most_of s.port → From (stated m (grown_of s i)) bs out → Numbered (digits_from (most_of s.port) i bs))
      → From (stated m (grown_of s n)) (b ∷ bs) out → Numbered (digits_from (most_of s.port) n (b ∷ bs))
  digit_next b bs n e h k ih x = go (digit b) refl (ltb 0 n) refl (leb (n * 10 + (b - 48)) (most_of s.port)) refl
    where
      go : (d : Bool) → digit b ≡ d → (z : Bool) → ltb 0 n ≡ z → (y : Bool) → leb (n * 10 + (b - 48)) (most_of s.port) ≡ y → Numbered (digits_from (most_of s.port) n (b ∷ bs))
      go false p z q y f = stop b n bs k (sym (line_none (grown_of s n) b (sym (takes_none (grown_of s n) b p)))) (stop_other (most_of s.port) n b bs p) x
      go true p false q y f = stop b n bs k (sym (line_none (grown_of s n) b (sym (takes_next (grown_of s n) b n p refl) ∙ q))) (stop_zero (most_of s.port) n b bs p q) x
      go true p true q false f = stop b n bs k (sym (fits_is b n p q) ∙ f) (too_big b n bs p q f) x
      go true p true q true f =
          let l = leb-true (n * 10 + (b - 48)) (most_of s.port) f in
          subst Numbered (sym (digit_more (most_of s.port) n b bs p q f)) (ih (n * 10 + (b - 48)) l (grows b n bs e h l (sym (fits_is b n p q) ∙ f) x))

  pub line_digits : (bs : List ℕ) (n : ℕ) → s.stage ≡ Line → 0 < s.left → n ≤ most_of s.port → From (stated m (grown_of s n)) bs out → Numbered (digits_from (most_of s.port) n bs)
  unfolding Numbered digits_from
  line_digits [] n e h k x = record { rest = x; stops = λ b y f. (let z : ◌≡◌ {A = ℕ} 0 1 = cc in absurd (omega arith)); small = k }
  line_digits (b ∷ bs) n e h k x = digit_next b bs n e h k (λ i l y. line_digits bs i e h l y) x

  first_of_law : (b : ℕ) (bs : List ℕ) → s.stage ≡ Line → 0 < s.left → s.number ≡ None → From (stated m s) (b ∷ bs) out → Numbered (number_up_to (most_of s.port) (b ∷ bs))
  unfolding Numbered longer_of stays_of
  first_of_law b bs e h f x = go (digit b) refl
    where
      go : (d : Bool) → digit b ≡ d → Numbered (number_up_to (most_of s.port) (b ∷ bs))
      go false p =
          subst Numbered (sym (no_digit (most_of s.port) b bs p))
          (line_wrong (stated m s) b bs out e (line_unbegun s b m.plan m.values m.outputs m.memory (sym (line_none s b (sym (takes_none s b p)))) f) x)
      go true p =
          let r = digit_range b p in
          let w = bounds s.port in
          let z : so_far s.number ≡ 0 = ap so_far f in
          let l : so_far s.number * 10 + (b - 48) ≤ most_of s.port = omega (arith, r, w.0) in
          let t : line_takes s b ≡ true = sym (line_first s b (sym (takes_first s b p f))) ∙ le-leb (so_far s.number * 10 + (b - 48)) (most_of s.port) l in
          let q : min (so_far s.number * 10 + (b - 48)) 18_446_744_073_709_551_615 ≡ b - 48 = omega (arith, r) in
          subst Numbered (sym (first_digit (most_of s.port) b bs p))
          (line_digits bs (b - 48) e h (omega (arith, r, w.0))
          (subst (λ (i : ℕ). From (stated m (grown_of s i)) bs out) q (line_on (stated m s) b (longer_of s b) bs out e h (line_takes_law s b m.plan m.values m.outputs m.memory t) x)))

  -- a number from its first byte on
  pub line_number : (bs : List ℕ) → s.stage ≡ Line → 0 < s.left → s.number ≡ None → From (stated m s) bs out → Numbered (number_up_to (most_of s.port) bs)
  unfolding Numbered number_up_to
  line_number [] e h f x = line_cut (stated m s) out e x
  line_number (b ∷ bs) e h f x = first_of_law b bs e h f x
