-- A count with the end of its line, as document 01 has it and as the machine meets it. Assumes nothing.
use mathlib.Core.Path.{◌≡◌, refl, sym, ap, ◌∙◌, subst}
use mathlib.Core.Bool.{Bool, true, false}
use Rattle.std.specs.Prelude.{Some, None}
use mathlib.Core.List.{List, [], ◌∷◌, ◌++◌}
use Prim.Native.Nat.{ℕ, suc, ◌+◌, ◌-◌, ◌*◌, ◌^◌, ◌≤◌, min}
use native.Mathlib.Omega.{arith}
use native.Mathlib.Nat.{pow-suc, mul-le-mul_right}
use borrow.Author.Tests.{lt-ltb, le-ltb, le-leb, ltb-true, ltb-false, eqb-true, eqb-false}
use lib.Dec.{eqb, ltb}
use lib.ListN.{length}
use Rattle.language.specs.Words.{digit}
use Rattle.language.specs.Bindings.{Got, got, lost, after, byte, digits_from, number_up_to}
use Rattle.language.specs.Worked.{is_bad, any_number}
use Rattle.language.specs.Reading.{Answer}
use Rattle.figures.specs.declared.Stage.{Stage}
use Rattle.figures.specs.declared.Stage.TheVariants.{ActorCount, Actor, BindingsCount, Bindings, CycleCount, Line, Wrong}
use Rattle.figures.specs.States.{start_of, wrong_of, so_far, takes_of, longer_of}
use Rattle.input_bytes.specs.Texts.{count_byte}
use Rattle.input_bytes.specs.Bytes.{Machine, stated, moved_at, moved_of, ended_at}
use Rattle.tipirun.specs.Machine.{passed_at, passed_by, Judges, unwritten}
use Rattle.figures.proofs.Counting.{takes_none, takes_first, takes_next}
use Rattle.input_bytes.proofs.Counting.{count_takes, count_unbegun, count_wrong, count_ends}
use Rattle.input_bytes.proofs.Endings.{ended_bad}
use Rattle.tipirun.proofs.Onward.{From, more, none, Quiet, on_to, closed, wrong_closed}
use Rattle.input_bytes.proofs.Numbers.{line_end, digit_range, stop_other, stop_zero, digit_more, end_here, end_lost, first_digit, no_digit, room_next, fits_next, saturated}

-- ---- the machine's way

-- g₀ is the stage of a count, after which g starts
pub record Kind (g₀ g : Stage) : Type 0 where
  pub moves : (m : Machine) (b : ℕ) → moved_at g₀ m b ≡ stated m (count_byte g m.state b)
  pub quiet : Quiet g₀
  pub bad : (m : Machine) → ended_at g₀ m ≡ is_bad

pub actor_count : Kind ActorCount Actor
unfolding moved_at passed_at
actor_count = record { moves = λ m b. refl; quiet = record { keeps = λ x s l. refl; unread = refl }; bad = λ m. refl }

pub bindings_count : Kind BindingsCount Bindings
unfolding moved_at passed_at
bindings_count = record { moves = λ m b. refl; quiet = record { keeps = λ x s l. refl; unread = refl }; bad = λ m. refl }

pub cycle_count : Kind CycleCount Line
unfolding moved_at passed_at
cycle_count = record { moves = λ m b. refl; quiet = record { keeps = λ x s l. refl; unread = refl }; bad = λ m. refl }

-- the state of a machine has just come; a stage of which nothing is to come is over at once
pub record Enters (m : Machine) (bs out : List ℕ) : Type 0 where
  pub what : Answer
  pub judges : Judges what m.state m.actor m.bindings
  pub rest : From (unwritten (passed_by what m)) bs out

-- what is written where a count is read so
unfoldable pub Counted : Machine → Stage → List ℕ → Got ℕ → Type 0
Counted m g out (lost r) = out ≡ is_bad
Counted m g out (got n x) = Enters (stated m (start_of m.state g (min n 18_446_744_073_709_551_615))) x out

same_counted : (m : Machine) (b : ℕ) (g : Stage) (out : List ℕ) (y : Got ℕ) → Counted (stated m (longer_of m.state b)) g out y → Counted m g out y
unfolding Counted longer_of
same_counted m b g out (lost r) x = x
same_counted m b g out (got n r) x = x

module _ {g₀ g : Stage} (k : Kind g₀ g) where
  moved_is : (m : Machine) (b : ℕ) → m.state.stage ≡ g₀ → moved_of m b ≡ stated m (count_byte g m.state b)
  unfolding moved_of
  moved_is m b e = ap (λ (h : Stage). moved_at h m b) e ∙ k.moves m b

  ends_bad : (m : Machine) (out : List ℕ) → m.state.stage ≡ g₀ → From m [] out → out ≡ is_bad
  ends_bad m out e x = none x ∙ sym (ended_bad m g₀ e (k.bad m))

  goes_wrong : (m : Machine) (b : ℕ) (bs out : List ℕ) → m.state.stage ≡ g₀ → wrong_of m.state ≡ count_byte g m.state b → From m (b ∷ bs) out → out ≡ is_bad
  goes_wrong m b bs out e f x =
      closed bs (stated m (wrong_of m.state)) out Wrong refl wrong_closed (on_to (wrong_of m.state) Wrong (moved_is m b e ∙ ap (stated m) (sym f)) refl wrong_closed.quiet x)
      ∙ sym (ended_bad (stated m (wrong_of m.state)) Wrong refl refl)

  goes_longer : (m : Machine) (b : ℕ) (bs out : List ℕ) → m.state.stage ≡ g₀ → takes_of m.state b ≡ true → From m (b ∷ bs) out → From (stated m (longer_of m.state b)) bs out
  unfolding longer_of
  goes_longer m b bs out e t x = on_to (longer_of m.state b) g₀ (moved_is m b e ∙ ap (stated m) (sym (count_takes m.state b g t))) e k.quiet x

  enters : (m : Machine) (b n : ℕ) (bs out : List ℕ) → m.state.stage ≡ g₀ → start_of m.state g n ≡ count_byte g m.state b → From m (b ∷ bs) out → Enters (stated m (start_of m.state g n)) bs out
  unfolding passed_by
  enters m b n bs out e f x =
      let y = more x in
      let q : moved_of m b ≡ stated m (start_of m.state g n) = moved_is m b e ∙ ap (stated m) (sym f) in
      let t : y.to ≡ passed_by y.stepped.what (stated m (start_of m.state g n)) = sym y.stepped.makes ∙ ap (passed_by y.stepped.what) q in
      record {
        what = y.stepped.what;
        judges = subst (λ (z : Machine). Judges y.stepped.what z.state z.actor z.bindings) q y.stepped.judges;
        rest =
            subst (λ (l : List ℕ). From (unwritten (passed_by y.stepped.what (stated m (start_of m.state g n)))) bs l) (sym (y.both ∙ ap (λ (z : Machine). z.wrote ++ y.after) t))
            (subst (λ (z : Machine). From (unwritten z) bs y.after) t y.rest);
      }

  -- the number has ended
  stops : (m : Machine) (b n most : ℕ) (bs out : List ℕ) → m.state.stage ≡ g₀ → m.state.number ≡ Some (min n 18_446_744_073_709_551_615) → takes_of m.state b ≡ false
      → digits_from most n (b ∷ bs) ≡ got n (b ∷ bs) → From m (b ∷ bs) out → Counted m g out (after (digits_from most n (b ∷ bs)) line_end)
  unfolding Counted
  stops m b n most bs out e h t d x = go (eqb b 10) refl
    where
      go : (z : Bool) → eqb b 10 ≡ z → Counted m g out (after (digits_from most n (b ∷ bs)) line_end)
      go true q =
          subst (Counted m g out) (sym (end_here most n b bs d (eqb-true b 10 q)))
          (enters m b (min n 18_446_744_073_709_551_615) bs out e (count_ends m.state b g (min n 18_446_744_073_709_551_615) t h (eqb-true b 10 q)) x)
      go false q =
          subst (Counted m g out) (sym (end_lost most n b bs d (eqb-false b 10 q)))
          (goes_wrong m b bs out e (count_wrong m.state b g (min n 18_446_744_073_709_551_615) t h (eqb-false b 10 q)) x)

  -- one more byte of a number that has begun, if the others go as they should
  digit_run : (b : ℕ) (bs : List ℕ) (n : ℕ) (m : Machine) (out : List ℕ) (most : ℕ) → m.state.stage ≡ g₀ → m.state.number ≡ Some (min n 18_446_744_073_709_551_615) → suc n * 10 ^ suc (length bs) ≤ most
      → ((i : ℕ) (t : Machine) → t.state.stage ≡ g₀ → t.state.number ≡ Some (min i 18_446_744_073_709_551_615) → suc i * 10 ^ length bs ≤ most → From t bs out → Counted t g out (after (digits_from most i bs) line_end))
      → From m (b ∷ bs) out → Counted m g out (after (digits_from most n (b ∷ bs)) line_end)
  unfolding longer_of
  digit_run b bs n m out most e h r ih x = go (digit b) refl (ltb 0 n) refl
    where
      positive : ltb 0 (min n 18_446_744_073_709_551_615) ≡ ltb 0 n
      positive = pos (ltb 0 n) refl
        where
          pos : (z : Bool) → ltb 0 n ≡ z → ltb 0 (min n 18_446_744_073_709_551_615) ≡ z
          pos true q = let p = ltb-true 0 n q in lt-ltb 0 (min n 18_446_744_073_709_551_615) (omega arith)
          pos false q = let p = ltb-false 0 n q in le-ltb 0 (min n 18_446_744_073_709_551_615) (omega arith)

      go : (y : Bool) → digit b ≡ y → (z : Bool) → ltb 0 n ≡ z → Counted m g out (after (digits_from most n (b ∷ bs)) line_end)
      go false p z q = stops m b n most bs out e h (sym (takes_none m.state b p)) (stop_other most n b bs p) x
      go true p false q = stops m b n most bs out e h (sym (takes_next m.state b (min n 18_446_744_073_709_551_615) p h) ∙ positive ∙ q) (stop_zero most n b bs p q) x
      go true p true q =
          let w = digit_range b p in
          let s : suc (n * 10 + (b - 48)) * 10 ^ length bs ≤ most = room_next n (b - 48) (length bs) most (omega (arith, w)) r in
          subst (λ (y : Got ℕ). Counted m g out (after y line_end)) (sym (digit_more most n b bs p q (le-leb (n * 10 + (b - 48)) most (fits_next (n * 10 + (b - 48)) (length bs) most s))))
          (same_counted m b g out (after (digits_from most (n * 10 + (b - 48)) bs) line_end)
          (ih (n * 10 + (b - 48)) (stated m (longer_of m.state b)) e (ap Some (saturated n (b - 48) (so_far m.state.number) (ap so_far h))) s (goes_longer m b bs out e (sym (takes_next m.state b (min n 18_446_744_073_709_551_615) p h) ∙ positive ∙ q) x)))

  digits_run : (bs : List ℕ) (n : ℕ) (m : Machine) (out : List ℕ) (most : ℕ) → m.state.stage ≡ g₀ → m.state.number ≡ Some (min n 18_446_744_073_709_551_615) → suc n * 10 ^ length bs ≤ most
      → From m bs out → Counted m g out (after (digits_from most n bs) line_end)
  unfolding Counted digits_from after byte
  digits_run [] n m out most e h r x = ends_bad m out e x
  digits_run (b ∷ bs) n m out most e h r x = digit_run b bs n m out most e h r (λ i t a d s y. digits_run bs i t out most a d s y) x

  first_byte : (b : ℕ) (bs : List ℕ) (m : Machine) (out : List ℕ) → m.state.stage ≡ g₀ → m.state.number ≡ None → From m (b ∷ bs) out → Counted m g out (after (number_up_to (10 ^ suc (length bs)) (b ∷ bs)) line_end)
  unfolding Counted after longer_of
  first_byte b bs m out e h x = go (digit b) refl
    where
      go : (y : Bool) → digit b ≡ y → Counted m g out (after (number_up_to (10 ^ suc (length bs)) (b ∷ bs)) line_end)
      go false p =
          subst (λ (y : Got ℕ). Counted m g out (after y line_end)) (sym (no_digit (10 ^ suc (length bs)) b bs p))
          (goes_wrong m b bs out e (count_unbegun m.state b g (sym (takes_none m.state b p)) h) x)
      go true p =
          let w = digit_range b p in
          let s : suc (b - 48) * 10 ^ length bs ≤ 10 ^ suc (length bs) = (let a : suc (b - 48) ≤ 10 = omega (arith, w) in let c = mul-le-mul_right (10 ^ length bs) a in let d = pow-suc 10 (length bs) in omega arith) in
          subst (λ (y : Got ℕ). Counted m g out (after y line_end)) (sym (first_digit (10 ^ suc (length bs)) b bs p))
          (same_counted m b g out (after (digits_from (10 ^ suc (length bs)) (b - 48) bs) line_end)
          (digits_run bs (b - 48) (stated m (longer_of m.state b)) out (10 ^ suc (length bs)) e (ap Some (let z : so_far m.state.number ≡ 0 = ap so_far h in omega arith)) s (goes_longer m b bs out e (sym (takes_first m.state b p h)) x)))

  -- a count from its first byte on
  pub count_run : (bs : List ℕ) (m : Machine) (out : List ℕ) → m.state.stage ≡ g₀ → m.state.number ≡ None → From m bs out → Counted m g out (after (any_number bs) line_end)
  unfolding Counted any_number number_up_to after
  count_run [] m out e h x = ends_bad m out e x
  count_run (b ∷ bs) m out e h x = first_byte b bs m out e h x
