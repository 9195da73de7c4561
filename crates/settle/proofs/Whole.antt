-- THE THEOREM: the walk over the tape of an actor that has passed rows 6 to 8 and has widths gives its settled items. Assumes nothing.
use mathlib.Core.Path.{◌≡◌, refl, sym, ap, ◌∙◌}
use mathlib.Core.Bool.{Bool, true, false}
use mathlib.Core.List.{List, []}
use mathlib.Core.Option.{some}
use Prim.Native.Nat.{ℕ, zero, suc, ◌+◌, ◌*◌, ◌/◌, ◌%◌, ◌^◌, ◌≤◌, ◌<◌}
use native.Mathlib.Omega.{arith}
use lib.Dec.{ltb, lit≤}
use lib.ListN.{length, length-append}
use Rattle.language.specs.Text.{among}
use Rattle.language.specs.Words.{Word}
use Rattle.language.specs.Tree.{Actor}
use Rattle.language.specs.Names.{input_names}
use Rattle.language.specs.Bindings.{Bindings}
use Rattle.language.specs.Widths.{value_in, Resolved}
use Rattle.language.specs.Sizes.{Setting}
use Rattle.placed.proofs.Placed.{placed}
use Rattle.tape.specs.declared.Class.{Class}
use Rattle.tape.specs.Walk.{op_at, place_at, value_at, between}
use Rattle.tape.proofs.Tapes.{fold, up_to, by_index, goes_whole}
use Rattle.row06_names.proofs.Whole.{agreed}
use Rattle.row09_bindings.proofs.Tables.{values_on}
use Rattle.row10_widths.specs.Row.{Asked}
use Rattle.settled.specs.Form.{BIG, AMOUNT, six}
use Rattle.settled.specs.Settled.{amount, settled_of}
use Rattle.bindings.specs.declared.bound.Bound.{Bound}
use Rattle.item_writes.specs.Walk.{Around, State, start, step, walked, when, around_of, settled_on, port_out, cell_out, read_out, signed_out, named_out, written}
use Rattle.settle.proofs.Settings.{around}
use Rattle.settle.proofs.Actors.{actor_goes}
use Rattle.settle.proofs.Around.{ports_are, memories_are, sizes_are}
use Rattle.settle.proofs.Rights.{asked_small, asked_right}

-- ---- the walk by index, and how much it writes

walked_up : (a : Around) (t : List ℕ) (i : ℕ) → walked a t i ≡ up_to (step a) start t i
unfolding walked up_to
walked_up a t zero = refl
walked_up a t (suc i) = ap (λ (s : State). step a s (op_at t i) (place_at t i) (value_at t i)) (walked_up a t i)

-- no number, or six
pub record NoneOrSix (l : List ℕ) : Type 0 where
  pub few : length l ≤ 6
  pub whole : length l % 6 ≡ 0

when_six : (b : Bool) (x y : List ℕ) → NoneOrSix x → NoneOrSix y → NoneOrSix (when b x y)
unfolding when
when_six true x y h g = h
when_six false x y h g = g

six_is : {op p a b c d : ℕ} → NoneOrSix (six op p a b c d)
six_is = record { few = lit≤ tt; whole = refl }

none_is : NoneOrSix []
none_is = record { few = lit≤ tt; whole = refl }

amount_six : (p v : ℕ) → NoneOrSix (amount p v)
unfolding amount
amount_six p v = go (ltb v (2 ^ 64))
  where
    go : (b : Bool) → NoneOrSix (elim b as (λ (x : Bool). List ℕ) [ true ↦ six AMOUNT p (v % 2 ^ 32) (v / 2 ^ 32) 0 0 | false ↦ six BIG p 0 0 0 0 ])
    go true = record { few = lit≤ tt; whole = refl }
    go false = record { few = lit≤ tt; whole = refl }

module _ (a : Around) (s : State) where
  named_six : (o p v : ℕ) (other : List ℕ) → NoneOrSix other → NoneOrSix (named_out a s o p v other)
  unfolding named_out read_out port_out cell_out signed_out
  named_six o p v other h =
      when_six _ _ _ six_is (when_six _ _ _ (amount_six p _) (when_six _ _ _ (amount_six p _) (when_six _ _ _ (when_six _ _ _ six_is six_is) (when_six _ _ _ six_is (when_six _ _ _ six_is
      (when_six _ _ _ six_is (when_six _ _ _ six_is (when_six _ _ _ six_is (when_six _ _ _ (when_six _ _ _ six_is six_is) (when_six _ _ _ six_is (when_six _ _ _ six_is (when_six _ _ _ six_is h))))))))))))

  written_six : (o p v : ℕ) → NoneOrSix (written a s o p v)
  unfolding written
  written_six o p v = named_six o p v _ (when_six _ _ _ none_is (when_six _ _ _ six_is six_is))

-- each item writes six numbers or none
pub walked_few : (a : Around) (t : List ℕ) (i : ℕ) → (length (walked a t i).out ≤ 6 * i) × (length (walked a t i).out % 6 ≡ 0)
unfolding walked start step
walked_few a t zero = (omega arith, refl)
walked_few a t (suc i) =
    let s = walked a t i in
    let x = written a s (op_at t i) (place_at t i) (value_at t i) in
    let l = length-append s.out x in
    let w = written_six a s (op_at t i) (place_at t i) (value_at t i) in
    let h = walked_few a t i in
    (omega (arith, l, w.few, h.0), omega (arith, l, w.whole, h.1))

-- ---- the theorem

thirds : (n : ℕ) → (3 * (n / 3) ≤ n) × (n < 3 * (n / 3) + 3)
thirds n = (omega arith, omega arith)

-- the names of the inputs, as the walk has them
abbrev inputs_on : (text t : List ℕ) → ℕ → List (List ℕ)
inputs_on text t n = between text t Class.Input 0 (n / 3)

module _ {text t : List ℕ} {n : ℕ} {bound : Bound} {ws : List Word} {a : Actor} {b : Bindings} {widths : List ℕ} (h : Asked text t n bound ws a b) (r : Resolved a b (some widths)) (low : n ≤ length t) where
  around_is : around_of text t (n / 3) bound.text.now bound.table.now bound.lines widths ≡ around text (record { actor = a; bindings = b; widths = widths }) (inputs_on text t n)
  unfolding around_of
  around_is =
      let q = placed h.tells.lexed h.tells.parses in
      let e = thirds n in
      let x = ports_are text t n (n / 3) low e.0 e.1 a q h.tells.holds in
      let y = memories_are text t n (n / 3) low e.0 e.1 a q h.tells.holds in
      let z = sizes_are text t n (n / 3) low e.0 e.1 a q h.tells.holds in
      let v = ap value_in (values_on h.binds) in
      cc

  inputs_are : (s : List ℕ) → among (inputs_on text t n) s ≡ among (input_names a.ports) s
  inputs_are s = let e = thirds n in (agreed text t n (n / 3) low e.0 e.1 h.tells).inputs s

  pub settled_is : settled_on text t (n / 3) bound widths ≡ settled_of (record { actor = a; bindings = b; widths = widths })
  settled_is =
      let e = thirds n in
      let s : Setting = record { actor = a; bindings = b; widths = widths } in
      let A = around text s (inputs_on text t n) in
      ap (λ (c : Around). (walked c t (n / 3)).out) around_is
      ∙ ap (λ (x : State). x.out)
      (walked_up A t (n / 3) ∙ sym (by_index (step A) start t n (n / 3) low e.0 e.1) ∙ ap (fold (step A) start) h.tells.holds
      ∙ goes_whole (actor_goes text s (inputs_on text t n) (asked_small text t n bound low h widths r) inputs_are (asked_right text t n bound low h widths r)))

  pub settled_many : length (settled_of (record { actor = a; bindings = b; widths = widths })) ≤ 2 * n
  settled_many =
      let e = thirds n in
      let x = ap length settled_is in
      let w = walked_few (around_of text t (n / 3) bound.text.now bound.table.now bound.lines widths) t (n / 3) in
      omega (arith, e.0, w.0)
