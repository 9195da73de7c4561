-- The answers of a cycle, test by test. Assumes nothing.
use Prim.Native.Nat.{ℕ, zero, suc, ◌+◌, ◌≤◌}
use mathlib.Core.Path.{◌≡◌, refl, sym, ap, ap₂, ◌∙◌}
use mathlib.Core.List.{List, []}
use mathlib.Core.Bool.{Bool, true, false, ◌&&◌}
use native.Mathlib.Omega.{arith}
use lib.Dec.{eqb, leb}
use lib.ListN.{length, take, replicate}
use borrow.Author.Tests.{eq-eqb, eqb-true, leb-true}
use Rattle.language.specs.Values.{ones_of}
use Rattle.language.specs.Meaning.{Outcome, written}
use Rattle.plan.specs.Layout.{port_count, memory_count, memory_width_at, memory_size_at, cells_before, group_count}
use Rattle.plan.specs.Sound.{sound_of, sections_ok, memory_fits}
use Rattle.plan.proofs.Tests.{and_left, and_right}
use Rattle.plan_sections.proofs.Parts.{memory_fits_law}
use Rattle.item_steps.specs.Machine.{State, state, exec_rules}
use Rattle.judged.specs.Groups.{Fired, fired, unfired, firing}
use Rattle.judged.specs.Tests.{fitting, counts}
use Rattle.turn.specs.Cycle.{refused_by, ends, sound_cycle, cycle_of}
use Rattle.machine.specs.Safety.{Ran}
use Rattle.item_steps.specs.declared.Tables.{Tables}
use Rattle.judged.specs.declared.Refusal.{Refusal}
use Rattle.judged.specs.declared.Refusal.TheVariants.{Unsound, Miscounted, Unfit, Clash}
use Rattle.judged.specs.Answers.{number_of, accepted}
use Rattle.judged.specs.Judged.{judged}
use Rattle.turn.specs.Turn.{outcome}

pub counted : (p values memory outs : List ℕ) → length values ≡ port_count p → length outs ≡ port_count p → length memory ≡ cells_before p (memory_count p) → counts p values memory outs ≡ true
unfolding counts
counted p values memory outs a b c =
    ap₂ ◌&&◌ (ap₂ ◌&&◌ (eq-eqb (length values) (port_count p) a) (eq-eqb (length outs) (port_count p) b)) (eq-eqb (length memory) (cells_before p (memory_count p)) c)

-- ---- test by test

module _ (p : List ℕ) (mask : ℕ) (values memory outs : List ℕ) where
  by_sound : Bool → Outcome
  by_sound b = elim b [ true ↦ sound_cycle p mask values memory outs | false ↦ refused_by p (number_of Unsound) memory outs ]

  pub cycle_20 : sound_of p ≡ false → cycle_of p mask values memory outs ≡ refused_by p (number_of Unsound) memory outs
  unfolding cycle_of by_sound
  cycle_20 h = ap by_sound h

  pub cycle_sound : sound_of p ≡ true → cycle_of p mask values memory outs ≡ sound_cycle p mask values memory outs
  unfolding cycle_of by_sound
  cycle_sound h = ap by_sound h

module _ (p : List ℕ) (mask : ℕ) (values memory outs : List ℕ) where
  abbrev start : State
  start = state [] [] (replicate (port_count p) 0) []

  abbrev by_groups : Fired p → Outcome
  by_groups f = elim f [ unfired n ↦ refused_by p n memory outs | fired rs ↦ ends p mask memory outs (exec_rules p values memory rs start) ]

  abbrev by_fit : Bool → Outcome
  by_fit b = elim b [ false ↦ refused_by p (number_of Unfit) memory outs | true ↦ by_groups (firing p mask 0 (group_count p)) ]

  abbrev by_counts : Bool → Outcome
  by_counts b = elim b [ false ↦ refused_by p (number_of Miscounted) memory outs | true ↦ by_fit (fitting p mask values memory) ]

  pub cycle_21 : counts p values memory outs ≡ false → sound_cycle p mask values memory outs ≡ refused_by p (number_of Miscounted) memory outs
  unfolding sound_cycle
  cycle_21 h = ap by_counts h

  by_clash : State → Bool → Outcome
  by_clash s b =
      elim b [
        | true ↦ refused_by p (number_of Clash) memory outs
        | false ↦ record { answer = accepted; count = ones_of 32 mask; outputs = s.outputs; memory = written s.writes memory }
      ]

  ends_25 : {held : List ℕ} {cells : ℕ} {t : Tables cells} {s : State} → Ran memory held t s → t.clash ≡ true → ends p mask memory outs s ≡ refused_by p (number_of Clash) memory outs
  unfolding ends by_clash
  ends_25 {held} {cells} {t} {s} r e = ap (by_clash s) (sym r.write.clashes ∙ e)

  ends_0 : {held : List ℕ} {cells : ℕ} {t : Tables cells} {s : State} → Ran memory held t s → t.clash ≡ false
      → ends p mask memory outs s ≡ outcome accepted (ones_of 32 mask) held (take (length memory) t.next)
  unfolding ends by_clash
  ends_0 {held} {cells} {t} {s} r e =
      ap (by_clash s) (sym r.write.clashes ∙ e)
      ∙ ap₂ (λ (o m : List ℕ). outcome accepted (ones_of 32 mask) o m) (sym r.output) (sym (r.write.holds e))

  module _ (hc : counts p values memory outs ≡ true) where
    counted_on : sound_cycle p mask values memory outs ≡ by_fit (fitting p mask values memory)
    unfolding sound_cycle
    counted_on = ap by_counts hc

    pub cycle_22 : fitting p mask values memory ≡ false → sound_cycle p mask values memory outs ≡ refused_by p (number_of Unfit) memory outs
    cycle_22 h = counted_on ∙ ap by_fit h

    -- ---- a cycle as it is judged

    module _ (hs : sound_of p ≡ true) where
      as_judged : cycle_of p mask values memory outs ≡ by_groups (judged p mask values memory)
      unfolding judged
      as_judged = cycle_sound p mask values memory outs hs ∙ counted_on ∙ go (fitting p mask values memory)
        where
          go : (b : Bool) → by_fit b ≡ by_groups (elim b [ true ↦ firing p mask 0 (group_count p) | false ↦ unfired (number_of Unfit) ])
          go true = refl
          go false = refl

      pub turn_refused : (a : Refusal) → unfired (number_of a) ≡ judged p mask values memory → outcome (number_of a) 0 outs memory ≡ cycle_of p mask values memory outs
      unfolding refused_by
      turn_refused a e = sym (as_judged ∙ ap by_groups (sym e))

      module _ (l : List ℕ) (e : fired l ≡ judged p mask values memory) {held : List ℕ} {cells : ℕ} {t : Tables cells} (r : Ran memory held t (exec_rules p values memory l start)) where
        pub turn_clash : t.clash ≡ true → outcome (number_of Clash) 0 outs memory ≡ cycle_of p mask values memory outs
        unfolding refused_by
        turn_clash z = sym (as_judged ∙ ap by_groups (sym e) ∙ ends_25 r z)

        pub turn_ran : {count : ℕ} {o m : List ℕ} → t.clash ≡ false → count ≡ ones_of 32 mask → o ≡ held → m ≡ take (length memory) t.next
            → outcome accepted count o m ≡ cycle_of p mask values memory outs
        turn_ran z c d k = rw (c, d, k) (sym (as_judged ∙ ap by_groups (sym e) ∙ ends_0 r z))

-- ---- a cycle that is refused before it is judged

pub not_sound : (p : List ℕ) (mask : ℕ) (values memory outs : List ℕ) → sound_of p ≡ false → outcome (number_of Unsound) 0 outs memory ≡ cycle_of p mask values memory outs
unfolding refused_by
not_sound p mask values memory outs h = sym (cycle_20 p mask values memory outs h)

pub not_counted_law : (p : List ℕ) (mask : ℕ) (values memory outs : List ℕ) → sound_of p ≡ true → counts p values memory outs ≡ false → outcome (number_of Miscounted) 0 outs memory ≡ cycle_of p mask values memory outs
unfolding refused_by
not_counted_law p mask values memory outs h k = sym (cycle_sound p mask values memory outs h ∙ cycle_21 p mask values memory outs k)

-- ---- the tests

cells_bound : (p : List ℕ) (h : sections_ok p ≡ true) (n : ℕ) → n ≤ memory_count p → cells_before p n ≤ 256
unfolding cells_before memory_fits
cells_bound p h zero l = omega arith
cells_bound p h (suc n) l =
    leb-true (cells_before p n + memory_size_at p n) 256
    (and_right (leb (memory_width_at p n) 32 && leb 1 (memory_size_at p n) && leb (memory_size_at p n) 256) (leb (cells_before p n + memory_size_at p n) 256) (memory_fits_law p h n l))

pub cells_few : (p : List ℕ) → sections_ok p ≡ true → cells_before p (memory_count p) ≤ 256
cells_few p h = cells_bound p h (memory_count p) (omega arith)

pub counts_told : (p values memory outs : List ℕ) → counts p values memory outs ≡ true → (length values ≡ port_count p) × (length outs ≡ port_count p) × (length memory ≡ cells_before p (memory_count p))
unfolding counts
counts_told p values memory outs h =
    let a = and_left (eqb (length values) (port_count p) && eqb (length outs) (port_count p)) (eqb (length memory) (cells_before p (memory_count p))) h in (
      eqb-true (length values) (port_count p) (and_left (eqb (length values) (port_count p)) (eqb (length outs) (port_count p)) a),
      eqb-true (length outs) (port_count p) (and_right (eqb (length values) (port_count p)) (eqb (length outs) (port_count p)) a),
      eqb-true (length memory) (cells_before p (memory_count p)) (and_right (eqb (length values) (port_count p) && eqb (length outs) (port_count p)) (eqb (length memory) (cells_before p (memory_count p))) h),
    )
