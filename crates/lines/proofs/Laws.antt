-- Laws of the start and the end of a line, and that what stands between them is the line at a place. Assumes nothing.
use mathlib.Core.Path.{◌≡◌, refl, sym, ap, ◌∙◌}
use mathlib.Core.Bool.{Bool, true, false}
use mathlib.Core.List.{reverse-append, List, [], ◌∷◌, ◌++◌, append_assoc}
use Prim.Native.Nat.{ℕ, zero, suc, ◌+◌, ◌-◌, ◌≤◌, ◌<◌}
use native.Mathlib.Omega.{arith}
use native.Mathlib.Numerals.{add-one}
use native.Mathlib.Nat.{not-suc-le-zero}
use lib.Dec.{eqb, ltb}
use lib.ListN.{length-reverse, length-take, length-drop, length, take, drop, get_or, length-append}
use lib.Seq.{take-suc, take_all, drop-drop, drop-append-add, get_or-drop, get_or-append_seam}
use borrow.Author.Tests.{eq-eqb, ne_eqb, eqb-true, eqb-false, ltb-true, ltb-false}
use Rattle.std.specs.Prelude.{Some, None, cond, position, reverse}
use Rattle.std.specs.List.{position_or_len, prefix_len}
use Rattle.std.proofs.lemmas.List.Recursion.{is_position_or_len}
use Rattle.language.specs.Text.{Line, up_to_end, line_from}
use Rattle.lines.specs.Bounds.{start_of, end_of, LineStands}

-- ---- the first of a list that passes

found_first : (t : ℕ → Bool) (l : List ℕ) (n : ℕ) → position t l ≡ Some n → (n < length l) × (position_or_len t l ≡ n)
found_first t l n e = go (ltb (position_or_len t l) (length l)) refl e
  where
    go : (b : Bool) → ltb (position_or_len t l) (length l) ≡ b → cond b (Some (position_or_len t l)) None ≡ Some n → (n < length l) × (position_or_len t l ≡ n)
    go true q f = let z : position_or_len t l ≡ n = cc in (rw (← z) (ltb-true _ _ q), z)
    go false q f = absurd cc

found_none : (t : ℕ → Bool) (l : List ℕ) → position t l ≡ None → length l ≤ position_or_len t l
found_none t l e = go (ltb (position_or_len t l) (length l)) refl e
  where
    go : (b : Bool) → ltb (position_or_len t l) (length l) ≡ b → cond b (Some (position_or_len t l)) None ≡ None → length l ≤ position_or_len t l
    go true q f = absurd cc
    go false q f = ltb-false _ _ q

-- ---- the start, by the last line end before the place

-- the byte before the place is a line end, or it is none
module _ (text : List ℕ) (p q : ℕ) (next : p ≡ q + 1) where
  start_here : get_or text q 0 ≡ 10 → start_of text p ≡ p
  unfolding start_of
  start_here e = rw (next, add-one) (simp (start_of, eq-eqb (get_or text q 0) 10 e))

  start_before : (get_or text q 0 ≡ 10 → ⊥) → start_of text p ≡ start_of text q
  unfolding start_of
  start_before e = rw (next, add-one) (simp (start_of, ne_eqb (get_or text q 0) 10 e))

abbrev back : List ℕ → ℕ → ℕ
back text p = position_or_len (λ b. eqb b 10) (reverse (take p text))

start_is : (text : List ℕ) (p : ℕ) → p ≤ length text → start_of text p ≡ p - back text p
unfolding start_of
start_is text zero h = omega arith
start_is text (suc p) h = go (eqb (get_or text p 0) 10) refl (start_is text p (omega arith))
  where
    last : reverse (take (suc p) text) ≡ get_or text p 0 ∷ reverse (take p text)
    last = ap reverse (take-suc text p 0 h) ∙ reverse-append (take p text) (get_or text p 0 ∷ [])

    go : (t : Bool) → eqb (get_or text p 0) 10 ≡ t → start_of text p ≡ p - back text p → elim t [ true ↦ suc p | false ↦ start_of text p ] ≡ suc p - back text (suc p)
    go true e i = simp (last, position_or_len, prefix_len, e) (omega arith)
    go false e i = simp (last, position_or_len, prefix_len, e) (omega arith)

pub start_past : (text : List ℕ) (p n : ℕ) → p ≤ length text → position (λ b. eqb b 10) (reverse (take p text)) ≡ Some n → (n ≤ p) × (p - n ≡ start_of text p)
start_past text p n h e =
    let q = start_is text p h in
    let (a, b) = found_first (λ b. eqb b 10) (reverse (take p text)) n e in
    let l = length-reverse (take p text) in
    let m = length-take p text in
    (omega arith, omega arith)

pub start_first : (text : List ℕ) (p : ℕ) → p ≤ length text → position (λ b. eqb b 10) (reverse (take p text)) ≡ None → 0 ≡ start_of text p
start_first text p h e =
    let q = start_is text p h in
    let a = found_none (λ b. eqb b 10) (reverse (take p text)) e in
    let l = length-reverse (take p text) in
    let m = length-take p text in
    omega arith

-- ---- the end, by the first line end from the start on

up_is : (l : List ℕ) → length (up_to_end l) ≡ position_or_len (λ b. eqb b 10) l
unfolding up_to_end
up_is = is_position_or_len (λ (l : List ℕ). length (up_to_end l)) (λ b. eqb b 10) refl turn
  where
    turn : (x : ℕ) (l : List ℕ) → length (up_to_end (x ∷ l)) ≡ cond (eqb x 10) 0 (1 + length (up_to_end l))
    turn x l = go (eqb x 10)
      where
        go : (t : Bool) → length {A = ℕ} (elim t [ true ↦ [] | false ↦ x ∷ up_to_end l ]) ≡ cond t 0 (1 + length (up_to_end l))
        go true = refl
        go false = omega arith

up_at_most : (l : List ℕ) → length (up_to_end l) ≤ length l
unfolding up_to_end
up_at_most [] = omega arith
up_at_most (x ∷ l) = go (eqb x 10) (up_at_most l)
  where
    go : (t : Bool) → length (up_to_end l) ≤ length l → length {A = ℕ} (elim t [ true ↦ [] | false ↦ x ∷ up_to_end l ]) ≤ suc (length l)
    go true h = omega arith
    go false h = omega arith

-- what stands from the start on
rest : (text : List ℕ) (from : ℕ) → take (length text - from) (drop from text) ≡ drop from text
rest text from = take_all _ _ (omega (arith, length-drop from text))

pub end_at : (text : List ℕ) (from n : ℕ) → from ≤ length text → position (λ b. eqb b 10) (take (length text - from) (drop from text)) ≡ Some n → (from + n ≤ length text) × (from + n ≡ end_of text from)
unfolding end_of
end_at text from n h e =
    let (a, b) = found_first (λ b. eqb b 10) (drop from text) n (ap (position (λ b. eqb b 10)) (sym (rest text from)) ∙ e) in
    let u = up_is (drop from text) in
    let l = length-drop from text in
    (omega arith, omega arith)

pub end_over : (text : List ℕ) (from : ℕ) → from ≤ length text → position (λ b. eqb b 10) (take (length text - from) (drop from text)) ≡ None → length text ≡ end_of text from
unfolding end_of
end_over text from h e =
    let a = found_none (λ b. eqb b 10) (drop from text) (ap (position (λ b. eqb b 10)) (sym (rest text from)) ∙ e) in
    let u = up_is (drop from text) in
    let l = length-drop from text in
    let few = up_at_most (drop from text) in
    omega arith

-- what comes before the first line end is a front of the list
front : (l : List ℕ) → take (length (up_to_end l)) l ≡ up_to_end l
unfolding up_to_end
front [] = refl
front (b ∷ r) =
    elim (eqb b 10) as (λ (t : Bool). take (length {A = ℕ} (elim t [ true ↦ [] | false ↦ b ∷ up_to_end r ])) (b ∷ r) ≡ elim t [ true ↦ [] | false ↦ b ∷ up_to_end r ]) [
      | true ↦ refl
      | false ↦ ap (λ (l : List ℕ). b ∷ l) (front r)
    ]

-- ---- the line at a place

-- the line that starts where the place's line does, up to its line end
unfoldable pub found : List ℕ → ℕ → Line
found text p = record { from = start_of text p; bytes = up_to_end (drop (start_of text p) text) }

-- as `line_from` goes: the line starts at `from`, and `before`, its bytes so far, hold no line end
record Going (text : List ℕ) (from : ℕ) (before rest : List ℕ) : Type 0 where
  stands : drop from text ≡ before ++ rest
  starts : start_of text (from + length before) ≡ from
  endless : (l : List ℕ) → up_to_end (before ++ l) ≡ before ++ up_to_end l

module _ (text : List ℕ) (from : ℕ) (before : List ℕ) (b : ℕ) (r : List ℕ) (g : Going text from before (b ∷ r)) where
  byte_here : get_or text (from + length before) 0 ≡ b
  byte_here = sym (get_or-drop from text (length before) 0) ∙ ap (λ (l : List ℕ). get_or l (length before) 0) g.stands ∙ get_or-append_seam before b r 0

  -- a line end: a line starts past it
  past_end : eqb b 10 ≡ true → Going text (from + length before + 1) [] r
  past_end e = record { stands = rest; starts = starts; endless = λ l. refl }
    where
      far : from + length before + 1 ≡ from + (length before + 1)
      far = omega arith

      rest : drop (from + length before + 1) text ≡ r
      rest = rw (far, ← drop-drop (length before + 1) from text) (ap (drop (length before + 1)) g.stands ∙ drop-append-add before (b ∷ r) 1)

      starts : start_of text (from + length before + 1 + 0) ≡ from + length before + 1
      starts = start_here text _ (from + length before) (omega arith) (byte_here ∙ eqb-true b 10 e) ∙ omega arith

  -- any other byte is the line's
  past_byte : eqb b 10 ≡ false → Going text from (before ++ (b ∷ [])) r
  unfolding up_to_end
  past_byte e = record { stands = g.stands ∙ sym (append_assoc before (b ∷ []) r); starts = starts; endless = endless }
    where
      starts : start_of text (from + length (before ++ (b ∷ []))) ≡ from
      starts = start_before text _ (from + length before) (omega (arith, length-append before (b ∷ []))) (λ h. eqb-false b 10 e (sym byte_here ∙ h)) ∙ g.starts

      on : (l : List ℕ) → up_to_end (b ∷ l) ≡ b ∷ up_to_end l
      on l = simp (up_to_end, e)

      endless : (l : List ℕ) → up_to_end ((before ++ (b ∷ [])) ++ l) ≡ (before ++ (b ∷ [])) ++ up_to_end l
      endless l = rw (append_assoc before (b ∷ []) l, append_assoc before (b ∷ []) (up_to_end l)) (g.endless (b ∷ l) ∙ ap (λ (m : List ℕ). before ++ m) (on l))

  reached : record { from = from; bytes = before ++ up_to_end (b ∷ r) } ≡ found text (from + length before)
  unfolding found
  reached = rw (g.starts, g.stands, g.endless)

  onward : (p : ℕ) →
      (Going text (from + length before + 1) [] r → line_from (from + length before + 1) [] r p ≡ found text (from + length before + 1 + 0 + p)) →
      (Going text from (before ++ (b ∷ [])) r → line_from from (before ++ (b ∷ [])) r p ≡ found text (from + length (before ++ (b ∷ [])) + p)) →
      line_from from before (b ∷ r) (suc p) ≡ found text (from + length before + suc p)
  unfolding line_from
  onward p new same = go (eqb b 10) refl
    where
      after_end : from + length before + 1 + 0 + p ≡ from + length before + suc p
      after_end = omega arith

      after_byte : from + length (before ++ (b ∷ [])) + p ≡ from + length before + suc p
      after_byte = omega (arith, length-append before (b ∷ []))

      go : (t : Bool) → eqb b 10 ≡ t → line_from from before (b ∷ r) (suc p) ≡ found text (from + length before + suc p)
      go true e = rw (line_from, e) (new (past_end e) ∙ ap (found text) after_end)
      go false e = rw (line_from, e) (same (past_byte e) ∙ ap (found text) after_byte)

-- `line_from` finds the line of a place inside the text
inside : (rest : List ℕ) (p : ℕ) (text : List ℕ) (from : ℕ) (before : List ℕ) → Going text from before rest → p < length rest → line_from from before rest p ≡ found text (from + length before + p)
unfolding line_from
inside [] p text from before g h = absurd (not-suc-le-zero h)
inside (b ∷ r) zero text from before g h =
    let same : from + length before ≡ from + length before + 0 = omega arith in
    reached text from before b r g ∙ ap (found text) same
inside (b ∷ r) (suc p) text from before g h =
    let ahead : p < length r = omega arith in
    onward text from before b r g p (λ n. inside r p text _ _ n ahead) (λ n. inside r p text _ _ n ahead)

-- and the empty part at its end for a place outside it
ended : ℕ → Line
ended n = record { from = n; bytes = [] }

outside : (rest : List ℕ) (p : ℕ) (from : ℕ) (before : List ℕ) → length rest ≤ p → line_from from before rest p ≡ ended (from + length before + length rest)
unfolding line_from ended
outside [] p from before h = let same : from + length before ≡ from + length before + 0 = omega arith in ap ended same
outside (b ∷ r) zero from before h = absurd (not-suc-le-zero h)
outside (b ∷ r) (suc p) from before h =
    let over : length r ≤ p = omega arith in
    let after_end : from + length before + 1 + 0 + length r ≡ from + length before + suc (length r) = omega arith in
    let after_byte : from + length (before ++ (b ∷ [])) + length r ≡ from + length before + suc (length r) = omega (arith, length-append before (b ∷ [])) in
    elim (eqb b 10) as (λ (t : Bool). elim t [ true ↦ line_from (from + length before + 1) [] r p | false ↦ line_from from (before ++ (b ∷ [])) r p ] ≡ ended (from + length before + suc (length r))) [
      | true ↦ outside r p (from + length before + 1) [] over ∙ ap ended after_end
      | false ↦ outside r p from (before ++ (b ∷ [])) over ∙ ap ended after_byte
    ]

-- ---- what `of` hands out

module _ (text : List ℕ) (place : ℕ) where
  pub line_inside : place < length text → line_from 0 [] text place ≡ found text place
  unfolding start_of
  line_inside h =
      let there : 0 + length {A = ℕ} [] + place ≡ place = omega arith in
      inside text place text 0 [] (record { stands = refl; starts = refl; endless = λ l. refl }) h ∙ ap (found text) there

  pub line_outside : length text ≤ place → line_from 0 [] text place ≡ record { from = length text; bytes = [] }
  unfolding ended
  line_outside h = let there : 0 + length {A = ℕ} [] + length text ≡ length text = omega arith in outside text place 0 [] h ∙ ap ended there

  -- the part that begins `from` bytes into the text, which lies there
  module _ (lies : ℕ × ℕ) where
    pub part_inside : (from to : ℕ) → from ≡ start_of text place → to ≡ end_of text from → place < length text
        → LineStands text lies (line_from 0 [] text place) (take (to - from) (drop from text)) (lies.0, from + lies.1)
    unfolding end_of found
    part_inside from to s e h =
        rw (line_inside h, ← s, whole) (record { bytes = refl; part = front (drop from text); block = refl; begins = omega arith })
      where
        long : to - from ≡ length (up_to_end (drop from text))
        long = omega arith

        whole : take (to - from) (drop from text) ≡ up_to_end (drop from text)
        whole = ap (λ (n : ℕ). take n (drop from text)) long ∙ front (drop from text)

    pub part_outside : length text ≤ place → LineStands text lies (line_from 0 [] text place) (take (length text - length text) (drop (length text) text)) (lies.0, length text + lies.1)
    unfolding ended
    part_outside h = rw (outside text place 0 [] h, empty) (record { bytes = refl; part = refl; block = refl; begins = omega arith })
      where
        none : length text - length text ≡ 0
        none = omega arith

        empty : take (length text - length text) (drop (length text) text) ≡ []
        empty = ap (λ (n : ℕ). take n (drop (length text) text)) none
