-- Bytes that are written one after the other are written together; and a line is its numbers, each but the first after a blank. Assumes nothing.
use mathlib.Core.Path.{◌≡◌, refl, sym, ap, ap₂, ◌∙◌}
use mathlib.Core.List.{List, [], ◌∷◌, ◌++◌, append_assoc}
use Prim.Native.Nat.{ℕ, suc, ◌+◌, ◌*◌, ◌≤◌, ◌<◌}
use native.Mathlib.Omega.{arith}
use native.Mathlib.Numerals.{add-one}
use lib.ListN.{length, get_or, take, drop, set, length-append, length-drop, drop_of_length-le}
use lib.Seq.{sets, drop-cons, drop-drop, length-sets}
use borrow.Rule.Slice.PartMut.{put_mid}
use Rattle.std.proofs.lemmas.List.Edits.{sets-eq}
use Rattle.language.specs.Words.{bytes}
use Rattle.language.specs.Worked.{decimal, line, is_bad}
use Rattle.figures.specs.Written.{Wrote, blanked}

pub sets_append : (l : List ℕ) (i j : ℕ) (a b : List ℕ) → j ≡ i + length a → sets l i (a ++ b) ≡ sets (sets l i a) j b
sets_append l i j [] b e = ap (λ (k : ℕ). sets l k b) (omega arith)
sets_append l i j (x ∷ a) b e = sets_append (set l i x) (suc i) j a b (omega arith)

-- a part of the table that is overwritten by bytes of its length
pub written : (l t y : List ℕ) (at k : ℕ) → y ≡ t → k ≡ length t → at + length t ≤ length l → put_mid at k l y ≡ sets l at t
written l t y at k e f h =
    ap₂ (λ (x : List ℕ) (n : ℕ). put_mid at n l x) e f ∙ ap (λ (d : List ℕ). take at l ++ (t ++ d)) (drop-drop (length t) at l)
    ∙ sym (append_assoc (take at l) t (drop (at + length t) l)) ∙ sym (sets-eq t l at h)

-- what is written after what was written
pub both : {old mid new : List ℕ} {at next end m n : ℕ} {a b : List ℕ} → Wrote old at a m next mid → Wrote mid next b n end new → Wrote old at (a ++ b) (m + n) end new
both {old} {mid} {new} {at} {next} {end} {m} {n} {a} {b} x y =
    record {
      place = let l = length-append a b in let p = x.place in let q = y.place in omega arith;
      bytes = y.bytes ∙ ap (λ (l : List ℕ). sets l next b) x.bytes ∙ sym (sets_append old at next a b x.place);
      short = let l = length-append a b in let p = x.short in let q = y.short in omega arith;
    }

-- the same bytes, by another name, and a greater limit
pub named : {old new : List ℕ} {at next m n : ℕ} {a b : List ℕ} → a ≡ b → m ≤ n → Wrote old at a m next new → Wrote old at b n next new
named {old} {new} {at} {next} {m} {n} {a} {b} e h x =
    record {
      place = x.place ∙ ap (λ (l : List ℕ). at + length l) e;
      bytes = x.bytes ∙ ap (sets old at) e;
      short = let l = ap length e in let s = x.short in omega arith;
    }

-- the same, what was written first
pub renamed : {old new : List ℕ} {at next m n : ℕ} {a b : List ℕ} → Wrote old at a m next new → a ≡ b → m ≤ n → Wrote old at b n next new
renamed x e h = named e h x

pub nothing : (l : List ℕ) (at : ℕ) → Wrote l at [] 0 at l
nothing l at = record { place = omega arith; bytes = refl; short = omega arith }

-- the room that is left
pub room_left : {old mid : List ℕ} {at next m : ℕ} {a : List ℕ} (n : ℕ) → Wrote old at a m next mid → at + (m + n) ≤ length old → next + n ≤ length mid
room_left {old} {mid} {at} {next} {m} {a} n x h =
    let e : length mid ≡ length old = ap length x.bytes ∙ length-sets old at a in
    let p = x.place in
    let s = x.short in
    omega arith

pub line_is : (n : ℕ) (l : List ℕ) → line (n ∷ l) ≡ decimal n ++ (blanked l ++ (10 ∷ []))
unfolding line blanked
line_is n [] = refl
line_is n (m ∷ l) = ap (λ (r : List ℕ). decimal n ++ (32 ∷ r)) (line_is m l ∙ sym (append_assoc (decimal m) (blanked l) (10 ∷ [])))

pub bad_is : 98 ∷ 97 ∷ 100 ∷ 10 ∷ [] ≡ is_bad
unfolding is_bad bytes
bad_is = refl

-- ---- a loop that writes: once the rest is written too, all is

pub record Rest (old : List ℕ) (at : ℕ) (w : List ℕ) (most : ℕ) (out : List ℕ) (k : ℕ) (rest : List ℕ) (left : ℕ) : Type 0 where
  pub done : (next : ℕ) (new : List ℕ) → Wrote out k rest left next new → Wrote old at w most next new
  pub room : k + left ≤ length out
  pub long : length out ≡ length old

pub rest_start : (old : List ℕ) (at : ℕ) (w : List ℕ) (most left : ℕ) → at + most ≤ length old → left ≤ most → Rest old at w most old at w left
rest_start old at w most left h q = record { done = λ next new x. named refl q x; room = omega arith; long = refl }

pub rest_more : {old out mid w a rest more : List ℕ} {at k next most n r m : ℕ} → Rest old at w most out k rest r → Wrote out k a n next mid → rest ≡ a ++ more → n + m ≤ r → Rest old at w most mid next more m
rest_more {old} {out} {mid} {w} {a} {rest} {more} {at} {k} {next} {most} {n} {r} {m} x y e h =
    record {
      done = λ end new z. x.done end new (named (sym e) h (both y z));
      room = room_left m y (let q = x.room in omega arith);
      long = ap length y.bytes ∙ length-sets out k a ∙ x.long;
    }

pub rest_end : {old out w rest : List ℕ} {at k most r : ℕ} → Rest old at w most out k rest r → rest ≡ [] → Wrote old at w most k out
rest_end {old} {out} {w} {rest} {at} {k} {most} {r} x e = x.done k out (named (sym e) (omega arith) (nothing out k))

-- ---- numbers of a list

pub blanked_next : (l : List ℕ) (i : ℕ) → i < length l → blanked (drop i l) ≡ (32 ∷ decimal (get_or l i 0)) ++ blanked (drop (i + 1) l)
unfolding blanked
blanked_next l i h = ap blanked (drop-cons l i 0 h) ∙ ap (λ (k : ℕ). (32 ∷ decimal (get_or l i 0)) ++ blanked (drop k l)) (sym (add-one i))

pub blanked_over : (l : List ℕ) (i : ℕ) → length l ≤ i → blanked (drop i l) ≡ []
unfolding blanked
blanked_over l i h = ap blanked (drop_of_length-le l h)

pub fewer : (l : List ℕ) (i : ℕ) → i < length l → 21 + 21 * length (drop (i + 1) l) ≤ 21 * length (drop i l)
fewer l i h = let a = length-drop i l in let b = length-drop (i + 1) l in omega arith

pub some_left : (l : List ℕ) (i k n : ℕ) → i < length l → k + 21 * length (drop i l) ≤ n → k + 21 ≤ n
some_left l i k n h q = let a = length-drop i l in omega arith

-- ---- lines

pub line_none : (l : List ℕ) → length l ≡ 0 → 10 ∷ [] ≡ line l
unfolding line
line_none [] e = refl
line_none (x ∷ l) e = absurd (omega arith)

pub line_some : (l : List ℕ) → 0 < length l → decimal (get_or l 0 0) ++ (blanked (drop 1 l) ++ (10 ∷ [])) ≡ line l
line_some [] h = absurd (omega arith)
line_some (x ∷ l) h = sym (line_is x l)

pub line_two : (n m x y : ℕ) → x ≡ n → y ≡ m → decimal x ++ ((32 ∷ decimal y) ++ (10 ∷ [])) ≡ line (n ∷ m ∷ [])
unfolding line
line_two n m x y e f = ap₂ (λ (a b : ℕ). decimal a ++ ((32 ∷ decimal b) ++ (10 ∷ []))) e f
