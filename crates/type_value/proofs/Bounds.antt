-- How large the value of a type that keeps the rules gets: nothing overflows. Assumes nothing.
use mathlib.Core.Path.{◌≡◌, sym, ap, ◌∙◌, subst}
use mathlib.Core.Bool.{Bool, true, false}
use mathlib.Core.List.{List, [], ◌∷◌, ◌++◌}
use Prim.Native.Nat.{ℕ, ◌+◌, ◌*◌, ◌^◌, ◌≤◌, ◌<◌, zero-le, max}
use native.Mathlib.Nat.{le_refl, le_trans, le_of_eq, lt_of_le_of_lt, mul-le-mul, mul-le-mul_left, mul-mul-mul_comm, mul_comm, mul-one, le-mul_of_pos_right, max-le, mul-add}
use native.Mathlib.Omega.{arith}
use lib.Dec.{lit≤, lit<}
use lib.ListN.{length, get_or, length-append}
use lib.Pow.{pow_mono, pow-add}
use Rattle.language.specs.declared.Exact.{Exact}
use Rattle.language.specs.Types.{floor_of, ceil_of, greater_of, not_above, width_of}
use Rattle.type_value.specs.Terms.{Term, number, port, log, floor, ceil, plus, minus, greater, code, value_at, logs_in, Fine, TypeOf}
use Rattle.exact.specs.Room.{Room, Space}
use Rattle.exact.proofs.Logs.{down_le, up_le}
use Rattle.type_value.proofs.Order.{Pos}
use Rattle.type_value.proofs.Grows.{positive}

-- up and down by the number k of nodes, a and b together by the number l of logs
pub record Bound (k l : ℕ) (x : Exact) : Type 0 where
  pub ups : x.up ≤ 65535 * k
  pub downs : x.down ≤ 65535 * k
  pub abs : x.a * x.b ≤ 2 ^ (22 * l)

left_le : (a b n : ℕ) → 0 < b → a * b ≤ n → a ≤ n
left_le a b n p h = le_trans (le-mul_of_pos_right a p) h

right_le : (a b n : ℕ) → 0 < a → a * b ≤ n → b ≤ n
right_le a b n p h = le_trans (le-mul_of_pos_right b p) (le_trans (le_of_eq (mul_comm b a)) h)

two_logs : (l n : ℕ) → l ≤ 2 → n ≤ 2 ^ (22 * l) → n ≤ 2 ^ 44
two_logs l n h g = le_trans g (pow_mono {j = 44} (mul-le-mul_left 22 h))

both_le : (p q l k : ℕ) → p ≤ 2 ^ (22 * l) → q ≤ 2 ^ (22 * k) → p * q ≤ 2 ^ (22 * (l + k))
both_le p q l k h g = subst (λ (x : ℕ). p * q ≤ x) (sym (pow-add 2 (22 * l) (22 * k)) ∙ ap (λ (x : ℕ). 2 ^ x) (sym (mul-add 22 l k))) (mul-le-mul h g)

a_lt : (k l : ℕ) (x : Exact) → Pos x → l ≤ 2 → Bound k l x → x.a < 2 ^ 45
a_lt k l x p h b = lt_of_le_of_lt (left_le x.a x.b (2 ^ 44) p.1 (two_logs l (x.a * x.b) h b.abs)) (lit< tt)

b_lt : (k l : ℕ) (x : Exact) → Pos x → l ≤ 2 → Bound k l x → x.b < 2 ^ 45
b_lt k l x p h b = lt_of_le_of_lt (right_le x.a x.b (2 ^ 44) p.0 (two_logs l (x.a * x.b) h b.abs)) (lit< tt)

floored : (k l : ℕ) (x : Exact) → Pos x → l ≤ 2 → Bound k l x → Bound (k + 1) 0 (floor_of x)
unfolding floor_of
floored k l x p h b = record {
  ups = omega (arith, b.ups, down_le 45 x.a x.b (a_lt k l x p h b));
  downs = omega (arith, b.downs, up_le 45 x.b x.a (b_lt k l x p h b));
  abs = le_refl 1;
}

ceiled : (k l : ℕ) (x : Exact) → Pos x → l ≤ 2 → Bound k l x → Bound (k + 1) 0 (ceil_of x)
unfolding ceil_of
ceiled k l x p h b = record {
  ups = omega (arith, b.ups, up_le 45 x.a x.b (a_lt k l x p h b));
  downs = omega (arith, b.downs, down_le 45 x.b x.a (b_lt k l x p h b));
  abs = le_refl 1;
}

wider : (k l k' l' : ℕ) (x : Exact) → k ≤ k' → l ≤ l' → Bound k l x → Bound k' l' x
wider k l k' l' x h g b = record { ups = omega (arith, b.ups); downs = omega (arith, b.downs); abs = le_trans b.abs (pow_mono (mul-le-mul_left 22 g)) }

-- a log's argument stays below 2 ^ 22
argument : (k : ℕ) (x : Exact) → Pos x → k ≤ 63 → Bound k 0 x → width_of x ≤ 2 ^ 22
unfolding width_of floor_of
argument k x p h b = omega (arith, b.ups, down_le 45 x.a x.b (a_lt k 0 x p zero-le b))

-- the lengths of a node's code, by those of its operands
pub one_long : (s : List ℕ) (k : ℕ) → length (s ++ (k ∷ [])) ≡ length s + 1
one_long s k = length-append s (k ∷ [])

pub two_long : (s u : List ℕ) (k : ℕ) → length (s ++ (u ++ (k ∷ []))) ≡ length s + length u + 1
two_long s u k = omega (arith, length-append s (u ++ (k ∷ [])), one_long u k)

pub bounded : (ws : List ℕ) (n : ℕ) → ((i : ℕ) → get_or ws i 0 ≤ 65535) → (t : Term) → Fine n t → logs_in t ≤ 2 → length (code t) ≤ 64
    → Bound (length (code t)) (logs_in t) (value_at ws t)
unfolding value_at code logs_in greater_of
bounded ws n h (number k) f l m = record { ups = omega arith; downs = zero-le; abs = le_refl 1 }
bounded ws n h (port i) f l m = record { ups = omega (arith, h i); downs = zero-le; abs = le_refl 1 }
bounded ws n h (log s) f l m =
    let ln = one_long (code s) 2 in
    let b = bounded ws n h s f.0 (omega (arith, f.1)) (omega arith) in
    let g : width_of (value_at ws s) ≤ 2 ^ 22 =
    argument (length (code s)) (value_at ws s) (positive ws s) (omega arith) (subst (λ (z : ℕ). Bound (length (code s)) z (value_at ws s)) f.1 b) in
    record {
      ups = zero-le;
      downs = zero-le;
      abs = subst (λ (z : ℕ). max 2 (width_of (value_at ws s)) * 1 ≤ 2 ^ (22 * (1 + z))) (sym f.1) (le_trans (le_of_eq (mul-one (max 2 (width_of (value_at ws s))))) (max-le (lit≤ tt) g));
    }
bounded ws n h (floor s) f l m =
    let ln = one_long (code s) 3 in
    subst (λ (z : ℕ). Bound z 0 (floor_of (value_at ws s))) (sym ln)
    (floored (length (code s)) (logs_in s) (value_at ws s) (positive ws s) f.1 (bounded ws n h s f.0 f.1 (omega arith)))
bounded ws n h (ceil s) f l m =
    let ln = one_long (code s) 4 in
    subst (λ (z : ℕ). Bound z 0 (ceil_of (value_at ws s))) (sym ln)
    (ceiled (length (code s)) (logs_in s) (value_at ws s) (positive ws s) f.1 (bounded ws n h s f.0 f.1 (omega arith)))
bounded ws n h (plus s u) f l m =
    let ln = two_long (code s) (code u) 5 in
    let b = bounded ws n h s f.0 (omega arith) (omega arith) in
    let d = bounded ws n h u f.1 (omega arith) (omega arith) in
    let x = value_at ws s in
    let y = value_at ws u in
    record {
      ups = omega (arith, b.ups, d.ups);
      downs = omega (arith, b.downs, d.downs);
      abs = subst (λ (z : ℕ). z ≤ 2 ^ (22 * (logs_in s + logs_in u))) (mul-mul-mul_comm x.a x.b y.a y.b) (both_le (x.a * x.b) (y.a * y.b) (logs_in s) (logs_in u) b.abs d.abs);
    }
bounded ws n h (minus s u) f l m =
    let ln = two_long (code s) (code u) 6 in
    let b = bounded ws n h s f.0 (omega arith) (omega arith) in
    let d = bounded ws n h u f.1 (omega arith) (omega arith) in
    let x = value_at ws s in
    let y = value_at ws u in
    record {
      ups = omega (arith, b.ups, d.downs);
      downs = omega (arith, b.downs, d.ups);
      abs = subst (λ (z : ℕ). z ≤ 2 ^ (22 * (logs_in s + logs_in u))) (ap (λ (z : ℕ). x.a * x.b * z) (mul_comm y.a y.b) ∙ mul-mul-mul_comm x.a x.b y.b y.a)
          (both_le (x.a * x.b) (y.a * y.b) (logs_in s) (logs_in u) b.abs d.abs);
    }
bounded ws n h (greater s u) f l m =
    let ln = two_long (code s) (code u) 7 in
    go (not_above (value_at ws s) (value_at ws u))
    (wider (length (code s)) (logs_in s) (length (code s ++ (code u ++ (7 ∷ [])))) (logs_in s + logs_in u) (value_at ws s) (omega arith) (omega arith) (bounded ws n h s f.0 (omega arith) (omega arith)))
    (wider (length (code u)) (logs_in u) (length (code s ++ (code u ++ (7 ∷ [])))) (logs_in s + logs_in u) (value_at ws u) (omega arith) (omega arith) (bounded ws n h u f.1 (omega arith) (omega arith)))
  where
    go : (t : Bool) → Bound (length (code s ++ (code u ++ (7 ∷ [])))) (logs_in s + logs_in u) (value_at ws s) → Bound (length (code s ++ (code u ++ (7 ∷ [])))) (logs_in s + logs_in u) (value_at ws u)
        → Bound (length (code s ++ (code u ++ (7 ∷ [])))) (logs_in s + logs_in u) (elim t [ true ↦ value_at ws u | false ↦ value_at ws s ])
    go true b d = d
    go false b d = b

space_of : (k l : ℕ) (x : Exact) → k ≤ 64 → Pos x → Bound k l x → Space x
space_of k l x h p b = record { a_some = p.0; b_some = p.1; high = omega (arith, b.ups); low = omega (arith, b.downs) }

within_both : (m n p q l k : ℕ) → m ≤ p → n ≤ q → l + k ≤ 2 → p ≤ 2 ^ (22 * l) → q ≤ 2 ^ (22 * k) → m * n < 2 ^ 64
within_both m n p q l k hm hn h hp hq = lt_of_le_of_lt (le_trans (mul-le-mul hm hn) (two_logs (l + k) (p * q) h (both_le p q l k hp hq))) (lit< tt)

room_of : (k j l m : ℕ) (x y : Exact) → k ≤ 64 → j ≤ 64 → l + m ≤ 2 → Pos x → Pos y → Bound k l x → Bound j m y → Room x y
room_of k j l m x y hk hj h p q b d =
    let xa : x.a ≤ x.a * x.b = left_le x.a x.b (x.a * x.b) p.1 (le_refl (x.a * x.b)) in
    let xb : x.b ≤ x.a * x.b = right_le x.a x.b (x.a * x.b) p.0 (le_refl (x.a * x.b)) in
    let ya : y.a ≤ y.a * y.b = left_le y.a y.b (y.a * y.b) q.1 (le_refl (y.a * y.b)) in
    let yb : y.b ≤ y.a * y.b = right_le y.a y.b (y.a * y.b) q.0 (le_refl (y.a * y.b)) in
    record {
      uu = omega (arith, b.ups, d.ups);
      dd = omega (arith, b.downs, d.downs);
      ud = omega (arith, b.ups, d.downs);
      du = omega (arith, b.downs, d.ups);
      aa = within_both x.a y.a (x.a * x.b) (y.a * y.b) l m xa ya h b.abs d.abs;
      bb = within_both x.b y.b (x.a * x.b) (y.a * y.b) l m xb yb h b.abs d.abs;
      ab = within_both x.a y.b (x.a * x.b) (y.a * y.b) l m xa yb h b.abs d.abs;
      ba = within_both x.b y.a (x.a * x.b) (y.a * y.b) l m xb ya h b.abs d.abs;
    }

-- ---- the value of a type that keeps the rules has space, and two such values that stand together have room

module _ (ws : List ℕ) (n : ℕ) (small : (i : ℕ) → get_or ws i 0 ≤ 65535) where
  pub space : (t : Term) → TypeOf n t → Space (value_at ws t)
  space t y = space_of (length (code t)) (logs_in t) (value_at ws t) y.short (positive ws t) (bounded ws n small t y.fine y.two y.short)

  pub room : (s t : Term) → TypeOf n s → TypeOf n t → logs_in s + logs_in t ≤ 2 → Room (value_at ws s) (value_at ws t)
  room s t y z l =
      room_of (length (code s)) (length (code t)) (logs_in s) (logs_in t) (value_at ws s) (value_at ws t) y.short z.short l (positive ws s) (positive ws t)
      (bounded ws n small s y.fine y.two y.short) (bounded ws n small t z.fine z.two z.short)
