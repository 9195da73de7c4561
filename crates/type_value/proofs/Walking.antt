-- Walking the code of a type leaves its value on those that wait, and finds what it needs at every node. Assumes nothing.
use mathlib.Core.Path.{◌≡◌, refl, sym, ap, ap₂, ◌∙◌, subst}
use mathlib.Core.List.{List, [], ◌∷◌, ◌++◌, append_assoc, append-nil}
use Prim.Native.Nat.{ℕ, suc, ◌+◌, ◌-◌, ◌*◌, ◌/◌, ◌%◌, ◌≤◌, ◌<◌}
use native.Mathlib.Nat.{mul-mod_left, mul-div_cancel, zero-lt-suc}
use native.Mathlib.Numerals.{add-one}
use native.Mathlib.Omega.{arith}
use lib.Dec.{lit≤, lit<}
use lib.ListN.{length, get_or, take, drop}
use lib.Seq.{drop-cons}
use Rattle.language.specs.declared.Exact.{Exact}
use Rattle.language.specs.Types.{whole_of}
use Rattle.type_value.specs.Terms.{Term, number, port, log, floor, ceil, plus, minus, greater, code, value_at, logs_in, TypeOf}
use Rattle.type_value.specs.Walk.{part, leaf_of, unary_of, binary_of, on_last, on_last_two, turn, walk, Ready}
use Rattle.type_value.proofs.Cells.{turn_leaf}
use Rattle.type_value.proofs.Bounds.{one_long, two_long, space, room}

-- ---- one node of a part

pub part_more : (l : List ℕ) (i end : ℕ) → i < end → end ≤ length l → part l i end ≡ get_or l i 0 ∷ part l (i + 1) end
part_more l i end h g =
    let e : end - i ≡ suc (end - (i + 1)) = omega arith in
    ap₂ (λ (n : ℕ) (r : List ℕ). take n r) e (drop-cons l i 0 (omega arith)) ∙ ap (λ (n : ℕ). get_or l i 0 ∷ take (end - (i + 1)) (drop n l)) (sym (add-one i))

pub part_none : (l : List ℕ) (i end : ℕ) → end ≤ i → part l i end ≡ []
part_none l i end h = let e : end - i ≡ 0 = omega arith in ap (λ (n : ℕ). take n (drop i l)) e

-- ---- the code of a node after those of its operands

one_after : (s : List ℕ) (k : ℕ) (rest : List ℕ) → (s ++ (k ∷ [])) ++ rest ≡ s ++ (k ∷ rest)
one_after s k rest = append_assoc s (k ∷ []) rest

two_after : (s u : List ℕ) (k : ℕ) (rest : List ℕ) → (s ++ (u ++ (k ∷ []))) ++ rest ≡ s ++ (u ++ (k ∷ rest))
two_after s u k rest = append_assoc s (u ++ (k ∷ [])) rest ∙ ap (λ (r : List ℕ). s ++ r) (one_after u k rest)

number_leaf : (ws : List ℕ) (n : ℕ) → leaf_of ws (n * 8) ≡ whole_of n 0
unfolding leaf_of
number_leaf ws n = rw (mul-mod_left n 8, mul-div_cancel n (zero-lt-suc 7), leaf_of)

port_kind : (i : ℕ) → (i * 8 + 1) % 8 ≡ 1
port_kind i = omega arith

port_index : (i : ℕ) → (i * 8 + 1) / 8 ≡ i
port_index i = omega arith

port_leaf : (ws : List ℕ) (i : ℕ) → leaf_of ws (i * 8 + 1) ≡ whole_of (get_or ws i 0) 0
unfolding leaf_of
port_leaf ws i = rw (port_kind i, port_index i, leaf_of)

-- ---- what is left after the code of t is its value

pub walk_code : (ws : List ℕ) (t : Term) (rest : List ℕ) (st : List Exact) → walk ws (code t ++ rest) st ≡ walk ws rest (value_at ws t ∷ st)
unfolding walk code value_at turn unary_of binary_of on_last on_last_two
walk_code ws (number n) rest st = ap (walk ws rest) (turn_leaf ws (n * 8) st (omega arith) ∙ ap (λ (x : Exact). x ∷ st) (number_leaf ws n))
walk_code ws (port i) rest st = ap (walk ws rest) (turn_leaf ws (i * 8 + 1) st (omega arith) ∙ ap (λ (x : Exact). x ∷ st) (port_leaf ws i))
walk_code ws (log s) rest st = ap (λ (l : List ℕ). walk ws l st) (one_after (code s) 2 rest) ∙ walk_code ws s (2 ∷ rest) st
walk_code ws (floor s) rest st = ap (λ (l : List ℕ). walk ws l st) (one_after (code s) 3 rest) ∙ walk_code ws s (3 ∷ rest) st
walk_code ws (ceil s) rest st = ap (λ (l : List ℕ). walk ws l st) (one_after (code s) 4 rest) ∙ walk_code ws s (4 ∷ rest) st
walk_code ws (plus s u) rest st =
    ap (λ (l : List ℕ). walk ws l st) (two_after (code s) (code u) 5 rest) ∙ walk_code ws s (code u ++ (5 ∷ rest)) st ∙ walk_code ws u (5 ∷ rest) (value_at ws s ∷ st)
walk_code ws (minus s u) rest st =
    ap (λ (l : List ℕ). walk ws l st) (two_after (code s) (code u) 6 rest) ∙ walk_code ws s (code u ++ (6 ∷ rest)) st ∙ walk_code ws u (6 ∷ rest) (value_at ws s ∷ st)
walk_code ws (greater s u) rest st =
    ap (λ (l : List ℕ). walk ws l st) (two_after (code s) (code u) 7 rest) ∙ walk_code ws s (code u ++ (7 ∷ rest)) st ∙ walk_code ws u (7 ∷ rest) (value_at ws s ∷ st)

pub walk_whole : (ws : List ℕ) (t : Term) → walk ws (code t) [] ≡ value_at ws t ∷ []
unfolding walk
walk_whole ws t = ap (λ (l : List ℕ). walk ws l []) (sym (append-nil (code t))) ∙ walk_code ws t [] []

-- ---- every node is ready

abbrev pub Safe : List ℕ → List ℕ → List Exact → Type 0
Safe ws [] st = Unit {0}
Safe ws (k ∷ ks) st = Ready ws k st × Safe ws ks (turn ws k st)

module _ (ws : List ℕ) (small : (i : ℕ) → get_or ws i 0 ≤ 65535) where
  -- the nodes 2 to 4 after the code of t, and 5 to 7 after those of t and u, where what comes before them is safe if they are
  one_safe : (t : Term) (k : ℕ) (rest : List ℕ) (st : List Exact) → TypeOf (length ws) t → 2 ≤ k % 8 → k % 8 < 5 → (Safe ws (k ∷ rest) (value_at ws t ∷ st) → Safe ws (code t ++ (k ∷ rest)) st)
      → Safe ws rest (turn ws k (value_at ws t ∷ st)) → Safe ws ((code t ++ (k ∷ [])) ++ rest) st
  one_safe t k rest st y lo hi f s = subst (λ (r : List ℕ). Safe ws r st) (sym (one_after (code t) k rest)) (f (Ready.unary (value_at ws t) st refl lo hi (space ws (length ws) small t y), s))

  two_safe : (t u : Term) (k : ℕ) (rest : List ℕ) (st : List Exact) → TypeOf (length ws) t → TypeOf (length ws) u → logs_in t + logs_in u ≤ 2 → 5 ≤ k % 8
      → (Safe ws (k ∷ rest) (value_at ws u ∷ (value_at ws t ∷ st)) → Safe ws (code t ++ (code u ++ (k ∷ rest))) st) → Safe ws rest (turn ws k (value_at ws u ∷ (value_at ws t ∷ st)))
      → Safe ws ((code t ++ (code u ++ (k ∷ []))) ++ rest) st
  two_safe t u k rest st y z l lo f s =
      subst (λ (r : List ℕ). Safe ws r st) (sym (two_after (code t) (code u) k rest)) (f (Ready.binary (value_at ws t) (value_at ws u) st refl lo (room ws (length ws) small t u y z l), s))

  leaf_safe : (k : ℕ) (x : Exact) (rest : List ℕ) (st : List Exact) → k % 8 < 2 → (k % 8 ≡ 1 → k / 8 < length ws) → length st < 64 → leaf_of ws k ≡ x → Safe ws rest (x ∷ st) → Safe ws (k ∷ rest) st
  leaf_safe k x rest st o p l e s = (Ready.leaf o p l, subst (λ (r : List Exact). Safe ws rest r) (sym (turn_leaf ws k st o ∙ ap (λ (y : Exact). y ∷ st) e)) s)

  safe_code : (t : Term) → TypeOf (length ws) t → (rest : List ℕ) (st : List Exact) → length st + length (code t) ≤ 64 → Safe ws rest (value_at ws t ∷ st) → Safe ws (code t ++ rest) st
  unfolding code value_at turn unary_of binary_of on_last on_last_two logs_in
  safe_code (number n) y rest st l s = leaf_safe (n * 8) (whole_of n 0) rest st (omega arith) (λ o. absurd (omega (arith, o))) (omega arith) (number_leaf ws n) s
  safe_code (port i) y rest st l s = leaf_safe (i * 8 + 1) (whole_of (get_or ws i 0) 0) rest st (omega arith) (λ o. omega (arith, y.fine)) (omega arith) (port_leaf ws i) s
  safe_code (log t) y rest st l s =
      let ln = one_long (code t) 2 in
      let z : TypeOf (length ws) t = record { fine = y.fine.0; two = omega (arith, y.fine.1); short = omega (arith, y.short) } in
      one_safe t 2 rest st z (lit≤ tt) (lit< tt) (safe_code t z (2 ∷ rest) st (omega arith)) s
  safe_code (floor t) y rest st l s =
      let ln = one_long (code t) 3 in
      let z : TypeOf (length ws) t = record { fine = y.fine.0; two = y.fine.1; short = omega (arith, y.short) } in
      one_safe t 3 rest st z (lit≤ tt) (lit< tt) (safe_code t z (3 ∷ rest) st (omega arith)) s
  safe_code (ceil t) y rest st l s =
      let ln = one_long (code t) 4 in
      let z : TypeOf (length ws) t = record { fine = y.fine.0; two = y.fine.1; short = omega (arith, y.short) } in
      one_safe t 4 rest st z (lit≤ tt) (lit< tt) (safe_code t z (4 ∷ rest) st (omega arith)) s
  safe_code (plus t u) y rest st l s =
      let ln = two_long (code t) (code u) 5 in
      let z : TypeOf (length ws) t = record { fine = y.fine.0; two = omega (arith, y.two); short = omega (arith, y.short) } in
      let v : TypeOf (length ws) u = record { fine = y.fine.1; two = omega (arith, y.two); short = omega (arith, y.short) } in
      two_safe t u 5 rest st z v y.two (lit≤ tt) (λ r. safe_code t z (code u ++ (5 ∷ rest)) st (omega arith) (safe_code u v (5 ∷ rest) (value_at ws t ∷ st) (omega arith) r)) s
  safe_code (minus t u) y rest st l s =
      let ln = two_long (code t) (code u) 6 in
      let z : TypeOf (length ws) t = record { fine = y.fine.0; two = omega (arith, y.two); short = omega (arith, y.short) } in
      let v : TypeOf (length ws) u = record { fine = y.fine.1; two = omega (arith, y.two); short = omega (arith, y.short) } in
      two_safe t u 6 rest st z v y.two (lit≤ tt) (λ r. safe_code t z (code u ++ (6 ∷ rest)) st (omega arith) (safe_code u v (6 ∷ rest) (value_at ws t ∷ st) (omega arith) r)) s
  safe_code (greater t u) y rest st l s =
      let ln = two_long (code t) (code u) 7 in
      let z : TypeOf (length ws) t = record { fine = y.fine.0; two = omega (arith, y.two); short = omega (arith, y.short) } in
      let v : TypeOf (length ws) u = record { fine = y.fine.1; two = omega (arith, y.two); short = omega (arith, y.short) } in
      two_safe t u 7 rest st z v y.two (lit≤ tt) (λ r. safe_code t z (code u ++ (7 ∷ rest)) st (omega arith) (safe_code u v (7 ∷ rest) (value_at ws t ∷ st) (omega arith) r)) s

  pub safe_whole : (t : Term) → TypeOf (length ws) t → Safe ws (code t) []
  safe_whole t y = subst (λ (l : List ℕ). Safe ws l []) (append-nil (code t)) (safe_code t y [] [] (omega (arith, y.short)) tt)
