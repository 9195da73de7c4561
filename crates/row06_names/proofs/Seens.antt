-- The names met, item after item, and that they are those by index. Assumes nothing.
use mathlib.Core.Path.{◌≡◌}
use mathlib.Core.List.{List, []}
use Prim.Native.Nat.{ℕ, suc}
use native.Mathlib.Omega.{arith}
use lib.Dec.{eqb}
use Rattle.placed.specs.Placed.{name_from}
use Rattle.tape.specs.Tape.{END, RULED}
use Rattle.tape.specs.Walk.{op_at, place_at, value_at, hit, add, after}
use Rattle.tape.specs.declared.Class.TheVariants.{Signed, Declared, Input, Output, Taken, Present, Val}
use Rattle.tape.proofs.Seens.{reset, more, more_since}
use Rattle.row06_names.specs.Walk.{Seen, seen_at}

-- after one more item
unfoldable pub next : (text : List ℕ) → Seen → ℕ → ℕ → ℕ → Seen
next text s o p v =
    record {
      signed = add (hit Signed o v) (name_from text p) s.signed;
      declared = add (hit Declared o v) (name_from text p) s.declared;
      inputs = add (hit Input o v) (name_from text p) s.inputs;
      outputs = add (hit Output o v) (name_from text p) s.outputs;
      taken = add (hit Taken o v) (name_from text p) s.taken;
      present = reset (eqb o RULED) (add (hit Present o v) (name_from text p) s.present);
      vals = reset (eqb o END) (add (hit Val o v) (name_from text p) s.vals);
    }

abbrev pub nothing : Seen
nothing = record { signed = []; declared = []; inputs = []; outputs = []; taken = []; present = []; vals = [] }

pub seen_more : (text t : List ℕ) (i : ℕ) → next text (seen_at text t (after RULED t i) (after END t i) i) (op_at t i) (place_at t i) (value_at t i) ≡ seen_at text t (after RULED t (suc i)) (after END t (suc i)) (suc i)
unfolding next
seen_more text t i =
    let a = more text t Signed 0 i (omega arith) in
    let b = more text t Declared 0 i (omega arith) in
    let c = more text t Input 0 i (omega arith) in
    let d = more text t Output 0 i (omega arith) in
    let e = more text t Taken 0 i (omega arith) in
    let f = more_since text t Present RULED i in
    let g = more_since text t Val END i in
    cc
