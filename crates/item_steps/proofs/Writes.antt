-- The writes of a cycle in a table of cells. Assumes nothing.
use Prim.Native.Nat.{ℕ, ◌+◌, ◌≤◌, ◌<◌}
use mathlib.Core.Path.{◌≡◌, refl, sym, ap, ◌∙◌}
use mathlib.Core.List.{List, [], ◌∷◌, ◌++◌}
use mathlib.Core.Bool.{Bool, true, false, ◌||◌, false≢true}
use native.Mathlib.Omega.{arith}
use lib.Dec.{eqb}
use lib.ListN.{length, get_or, set, length-set, replicate, length-replicate, get_or-replicate, get_or-append}
use lib.Seq.{set_comm, take-set-lt, take_at, get_or-set_same, get_or-set_other}
use borrow.Author.Tests.{lt-ltb, le-ltb, eqb-true, eqb-false}
use Rattle.language.specs.Meaning.{Change, touched, twice, written}
use Rattle.item_steps.specs.Machine.{write_to}
use Rattle.item_steps.specs.Ready.{Buffered}

or_false : (a b : Bool) → (a || b) ≡ false → (a ≡ false) × (b ≡ false)
or_false true b h = absurd (false≢true (sym h))
or_false false b h = (refl, h)

-- a cell that no write names may be set before or after them
written_set : (qs : List (Change ℕ)) (memory : List ℕ) (t v : ℕ) → touched t qs ≡ false → set (written qs memory) t v ≡ written qs (set memory t v)
unfolding touched written
written_set [] memory t v h = refl
written_set (c ∷ l) memory t v h =
    let a = or_false (eqb t c.target) (touched t l) h in
    written_set l (set memory c.target c.to) t v a.1
    ∙ ap (written l) (set_comm memory c.target t c.to v (λ e. eqb-false t c.target a.0 (sym e)))

pub length_written : (qs : List (Change ℕ)) (memory : List ℕ) → length (written qs memory) ≡ length memory
unfolding written
length_written [] memory = refl
length_written (c ∷ l) memory = length_written l (set memory c.target c.to) ∙ length-set memory c.target c.to

pub write_past : (f size a v : ℕ) (qs : List (Change ℕ)) → size ≤ a → write_to f size a v qs ≡ qs
unfolding write_to
write_past f size a v qs h = ap (λ (b : Bool). elim b [ true ↦ record { target = f + a; to = v } ∷ qs | false ↦ qs ]) (le-ltb a size h)

pub write_in : (f size a v : ℕ) (qs : List (Change ℕ)) → a < size → write_to f size a v qs ≡ record { target = f + a; to = v } ∷ qs
unfolding write_to
write_in f size a v qs h = ap (λ (b : Bool). elim b [ true ↦ record { target = f + a; to = v } ∷ qs | false ↦ qs ]) (lt-ltb a size h)

module _ (memory next : List ℕ) (changed : List Bool) (clash : Bool) (qs : List (Change ℕ)) (t v : ℕ) (h : t < length memory) (b : Buffered memory next changed clash qs) where
  abbrev more : List (Change ℕ)
  more = record { target = t; to = v } ∷ qs

  -- a second write to a cell
  pub buffered_clash : get_or changed t false ≡ true → Buffered memory next changed true more
  unfolding touched twice
  buffered_clash e =
      record {
        changes = λ a l. go a l (eqb a t) refl;
        clashes = sym (ap (λ (x : Bool). x || twice qs) (b.changes t h ∙ e));
        holds = λ z. absurd (false≢true (sym z));
      }
    where
      go : (a : ℕ) → a < length memory → (c : Bool) → eqb a t ≡ c → touched a more ≡ get_or changed a false
      go a l true q = ap (λ (x : Bool). x || touched a qs) q ∙ sym (ap (λ (x : ℕ). get_or changed x false) (eqb-true a t q) ∙ e)
      go a l false q = ap (λ (x : Bool). x || touched a qs) q ∙ b.changes a l

  -- a first write
  pub buffered_first : get_or changed t false ≡ false → t < length next → t < length changed → Buffered memory (set next t v) (set changed t true) clash more
  unfolding touched twice written
  buffered_first n j k =
      record {
        changes = λ a l. go a l (eqb a t) refl;
        clashes = b.clashes ∙ sym (ap (λ (x : Bool). x || twice qs) free);
        holds = λ z. take-set-lt (length memory) next t v h ∙ ap (λ (l : List ℕ). set l t v) (b.holds z) ∙ written_set qs memory t v free;
      }
    where
      free : touched t qs ≡ false
      free = b.changes t h ∙ n

      go : (a : ℕ) → a < length memory → (c : Bool) → eqb a t ≡ c → touched a more ≡ get_or (set changed t true) a false
      go a l true q =
          ap (λ (x : Bool). x || touched a qs) q
          ∙ sym (ap (λ (x : ℕ). get_or (set changed t true) x false) (eqb-true a t q) ∙ get_or-set_same changed t true false k)
      go a l false q = ap (λ (x : Bool). x || touched a qs) q ∙ b.changes a l ∙ sym (get_or-set_other changed t a true false (eqb-false a t q))

-- before the first write
pub prepared : (memory rest : List ℕ) (changed others : List Bool) → changed ≡ replicate (length memory) false → Buffered memory (memory ++ rest) (changed ++ others) false []
unfolding touched twice written
prepared memory rest changed others e =
    record {
      changes = λ a l. let n : length (replicate (length memory) false) ≡ length memory = length-replicate (length memory) false in
          rw (e, get_or-append (replicate (length memory) false) others false a (omega arith)) (sym (get_or-replicate (length memory) a false false l));
      clashes = refl;
      holds = λ z. take_at memory rest (length memory) refl;
    }
