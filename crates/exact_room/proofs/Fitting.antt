-- The tests say what they test. Assumes nothing.
use mathlib.Core.Path.{◌≡◌, refl, sym, ◌∙◌}
use mathlib.Core.Bool.{Bool, true, false, ◌&&◌}
use Prim.Native.Nat.{ℕ, ◌+◌, ◌*◌, ◌^◌, ◌≤◌, ◌<◌}
use borrow.Author.Tests.{lt-ltb, le-ltb, ltb-true}
use native.Mathlib.Nat.{le_of_suc-le-suc, lt_of_not-le}
use Rattle.std.specs.Prelude.{Option, Some, None, is_some, SomeIff}
use Rattle.language.specs.declared.Exact.{Exact}
use Rattle.exact_room.specs.Tests.{fits, has_space, sums_fit, products_fit, has_room}
use Rattle.exact.specs.Room.{Space, Room}

-- ---- tests joined

pub both : (a b : Bool) → a && b ≡ true → (a ≡ true) × (b ≡ true)
both true b e = (refl, e)
both false b e = (e, cc)

pub and : (a b : Bool) → a ≡ true → b ≡ true → a && b ≡ true
and true b p q = q
and false b p q = p

pub fit : (n : ℕ) → n < 2 ^ 64 → fits n ≡ true
unfolding fits
fit n h = lt-ltb n (2 ^ 64) h

pub fitted : (n : ℕ) → fits n ≡ true → n < 2 ^ 64
unfolding fits
fitted n e = ltb-true n (2 ^ 64) e

pub unfit : (n : ℕ) → 2 ^ 64 ≤ n → fits n ≡ false
unfolding fits
unfit n h = le-ltb n (2 ^ 64) h

pub space_of_test : (x : Exact) → has_space x ≡ true → Space x
unfolding has_space
space_of_test x e =
    let t = both _ _ e in
    let u = both _ _ t.0 in
    let v = both _ _ u.0 in
    record { a_some = ltb-true 0 x.a v.0; b_some = ltb-true 0 x.b v.1; high = fitted (x.up + 64) u.1; low = fitted (x.down + 64) t.1 }

pub test_of_space : (x : Exact) → Space x → has_space x ≡ true
unfolding has_space
test_of_space x s = and _ _ (and _ _ (and _ _ (lt-ltb 0 x.a s.a_some) (lt-ltb 0 x.b s.b_some)) (fit (x.up + 64) s.high)) (fit (x.down + 64) s.low)

pub room_of_test : (x y : Exact) → has_room x y ≡ true → Room x y
unfolding has_room sums_fit products_fit
room_of_test x y e =
    let t = both _ _ e in
    let p = both _ _ t.0 in
    let q = both _ _ p.0 in
    let r = both _ _ q.0 in
    let u = both _ _ t.1 in
    let v = both _ _ u.0 in
    let w = both _ _ v.0 in
    record {
      uu = fitted (x.up + y.up) r.0;
      dd = fitted (x.down + y.down) r.1;
      ud = fitted (x.up + y.down) q.1;
      du = fitted (x.down + y.up) p.1;
      aa = fitted (x.a * y.a) w.0;
      bb = fitted (x.b * y.b) w.1;
      ab = fitted (x.a * y.b) v.1;
      ba = fitted (x.b * y.a) u.1;
    }

pub test_of_room : (x y : Exact) → Room x y → has_room x y ≡ true
unfolding has_room sums_fit products_fit
test_of_room x y m =
    and _ _ (and _ _ (and _ _ (and _ _ (fit (x.up + y.up) m.uu) (fit (x.down + y.down) m.dd)) (fit (x.up + y.down) m.ud)) (fit (x.down + y.up) m.du))
    (and _ _ (and _ _ (and _ _ (fit (x.a * y.a) m.aa) (fit (x.b * y.b) m.bb)) (fit (x.a * y.b) m.ab)) (fit (x.b * y.a) m.ba))

-- ---- the test of the code

pub fitting : (r : Option ℕ) (b : Bool) (n : ℕ) → SomeIff r (n < 2 ^ 64) n → b ≡ is_some r → b ≡ fits n
fitting (Some x) b n h e = e ∙ sym (fit n h.0)
fitting None b n h e = e ∙ sym (unfit n (le_of_suc-le-suc (lt_of_not-le h)))
