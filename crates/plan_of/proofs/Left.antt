-- What the items of an expression leave: a width, a first byte, faults and code; and what each item makes of what its parts left. Assumes nothing.
use mathlib.Core.Path.{◌≡◌, refl, sym, ap, ap₂, ◌∙◌}
use mathlib.Core.Bool.{Bool, true, false, ◌&&◌, and-false}
use mathlib.Core.List.{List, [], ◌∷◌, ◌++◌, append_assoc, append-nil}
use Prim.Native.Nat.{ℕ, ◌≤◌, min}
use lib.Dec.{leb}
use lib.ListN.{drop}
use borrow.Author.Tests.{le-leb}
use Rattle.language.specs.Text.{earliest}
use Rattle.language.specs.Parts.{each}
use Rattle.language.specs.Sizes.{Extent, wide, faulty, one_part, two_parts, faults_of}
use Rattle.placed.proofs.Every.{each_append}
use Rattle.words.specs.Found.{Place}
use Rattle.words.specs.Found.{place_told}
use Rattle.plan.specs.declared.Item.{Item}
use Rattle.plan.specs.Items.{encode}
use Rattle.plan_of.specs.PlanOf.{width_of}
use Rattle.plan_of.specs.Formed.{Kind, whole, parts, arms}
use Rattle.plan_of.proofs.Extents.{IsWide}
use Rattle.settled.specs.Form.{six}
use Rattle.size_walk.specs.declared.Effect.{Effect}
use Rattle.size_walk.specs.Effects.{Emits}
use Rattle.size_walk.specs.Effects.{sooner_of, has, gives_of, faulty_of, tested_of, through_of}
use Rattle.size_walk.specs.Steps.{State, width_on, start_on, emits_of, step_of}
use Rattle.plan_of.proofs.Firsts.{told_after}
use Rattle.plan_of.proofs.Walks.{Goes, goes_both, goes_six, after}

-- an expression as it waits: by its width, or 99; the parts of a concatenation by at most 65
unfoldable pub shape : Kind → Extent → ℕ
shape k (faulty l) = 99
shape whole (wide w) = w
shape arms (wide w) = w
shape parts (wide w) = min w 65

-- the width of a whole expression is at most 64
abbrev pub Small : Extent → Type 0
Small (wide w) = w ≤ 64
Small (faulty l) = Unit {0}

-- the code of some items
abbrev pub coded : List Item → List ℕ
coded is = each encode is

pub each_both : (a b : List Item) → coded (a ++ b) ≡ coded a ++ coded b
each_both a b = each_append encode a b

pub record Left (k : Kind) (x : Extent) (p : ℕ) (items : List ℕ) (is : List Item) (st : State) : Type 0 where
  pub c : List ℕ
  pub br : ℕ
  pub sp : ℕ
  pub goes : Goes st items (after st (shape k x) p (faults_of x) c br sp)
  pub code : IsWide x → c ≡ st.code ++ coded is

-- a width where a test holds, else a fault
abbrev pub tried : Bool → ℕ → ℕ → Extent
tried b w p = elim b [ true ↦ wide w | false ↦ faulty (p ∷ []) ]

-- what an item does that ends nothing
unfoldable pub applied : State → Effect → State
applied s e =
    record {
      widths = width_on e.leaves (drop e.takes s.widths);
      starts = start_on e.leaves (drop e.takes s.starts);
      slots = s.slots;
      code = s.code ++ emits_of e.emits;
      lengths = s.lengths;
      first = sooner_of e.fault s.first;
      breadth = s.breadth;
      start = s.start;
      cases = s.cases;
      rule = s.rule;
    }

-- code of an effect, where it is an item's
abbrev pub Emitted : Emits → List Item → Type 0
Emitted e is = emits_of e ≡ coded is

-- code and what an item adds to it
pub more : (c k : List ℕ) (is new : List Item) (e : Emits) → c ≡ k ++ coded is → Emitted e new → c ++ emits_of e ≡ k ++ coded (is ++ new)
more c k is new e h g = ap₂ ◌++◌ h g ∙ append_assoc k (coded is) (coded new) ∙ ap (λ (l : List ℕ). k ++ l) (sym (each_both is new))

-- ---- an item over one expression

module _ (st : State) (q : ℕ) where
  unfoldable pub through_1 : (b t : Bool) (x w p at : ℕ) (e : Emits) (l c : List ℕ) (br sp : ℕ) → State
  through_1 b t x w p at e l c br sp = applied (after st x q l c br sp) (through_of b 1 p e (tested_of t 1 w p at e))

  some_1 : (t : Bool) (x w p at : ℕ) (e : Emits) (c : List ℕ) (br sp : ℕ) → through_1 true t x w p at e [] c br sp ≡ after st (shape whole (tried t w at)) p (faults_of (tried t w at)) (c ++ emits_of e) br sp
  unfolding through_1 applied through_of tested_of gives_of width_on start_on sooner_of shape faults_of earliest place_told
  some_1 true x w p at e c br sp = refl
  some_1 false x w p at e c br sp = refl

  none_1 : (t : Bool) (x w p at : ℕ) (e : Emits) (l c : List ℕ) (br sp : ℕ) → through_1 false t x w p at e l c br sp ≡ after st 99 p l (c ++ emits_of e) br sp
  unfolding through_1 applied through_of faulty_of gives_of width_on start_on sooner_of
  none_1 t x w p at e l c br sp = refl

  -- an item of an operation: what it does goes by the width alone
  pub record Over1 (o p a b c d at from : ℕ) (t : ℕ → Bool) (f : ℕ → ℕ) (e : ℕ → Emits) : Type 0 where
    pub does : (x : ℕ) (l k : List ℕ) (br sp : ℕ) → step_of (after st x q l k br sp) o p a b c d ≡ through_1 (has x) (t x) x (f x) from at (e x) l k br sp

  module _ {o p a b c d at from : ℕ} {t : ℕ → Bool} {f : ℕ → ℕ} {e : ℕ → Emits} (v : Over1 o p a b c d at from t f e) (items : List ℕ) (is new : List Item) where
    pub left_1 : (x : Extent) → Small x → (IsWide (one_part x (λ w. tried (t w) (f w) at)) → Emitted (e (width_of x)) new) → Left whole x q items is st
        → Left whole (one_part x (λ w. tried (t w) (f w) at)) from (items ++ six o p a b c d) (is ++ new) st
    unfolding has one_part shape faults_of width_of
    left_1 (wide w) h g r =
        record {
          c = r.c ++ emits_of (e w);
          br = r.br;
          sp = r.sp;
          goes = goes_both r.goes (goes_six o p a b c d (v.does w [] r.c r.br r.sp ∙ ap (λ (y : Bool). through_1 y (t w) w (f w) from at (e w) [] r.c r.br r.sp) (le-leb w 64 h) ∙ some_1 (t w) w (f w) from at (e w) r.c r.br r.sp));
          code = λ y. more r.c st.code is new (e w) (r.code tt) (g y);
        }
    left_1 (faulty l) h g r =
        record {
          c = r.c ++ emits_of (e 99);
          br = r.br;
          sp = r.sp;
          goes = goes_both r.goes (goes_six o p a b c d (v.does 99 l r.c r.br r.sp ∙ none_1 (t 99) 99 (f 99) from at (e 99) l r.c r.br r.sp));
          code = λ y. absurd y;
        }

-- ---- an item over two

-- the code of both, and of the item
pub both_code : (st : State) (is js new : List Item) (e : Emits) (c d : List ℕ) → c ≡ st.code ++ coded is → d ≡ c ++ coded js → Emitted e new → d ++ emits_of e ≡ st.code ++ coded (is ++ (js ++ new))
both_code st is js new e c d h g i =
    more d st.code (is ++ js) new e (g ∙ ap (λ (l : List ℕ). l ++ coded js) h ∙ append_assoc st.code (coded is) (coded js) ∙ ap (λ (l : List ℕ). st.code ++ l) (sym (each_both is js))) i
    ∙ ap (λ (l : List Item). st.code ++ coded l) (append_assoc is js new)

module _ (st : State) (q s : ℕ) where
  -- both wait, the second the latest
  abbrev pub two : (x : ℕ) (k : List ℕ) (c0 : List ℕ) (br0 sp0 y : ℕ) (l c : List ℕ) (br sp : ℕ) → State
  two x k c0 br0 sp0 y l c br sp = after (after st x q k c0 br0 sp0) y s l c br sp

  unfoldable pub through_2 : (b t : Bool) (w p at : ℕ) (e : Emits) → State → State
  through_2 b t w p at e z = applied z (through_of b 2 p e (tested_of t 2 w p at e))

  module _ (c0 : List ℕ) (br0 sp0 : ℕ) where
    pub some_2 : (t : Bool) (x y w p at : ℕ) (e : Emits) (c : List ℕ) (br sp : ℕ)
        → through_2 true t w p at e (two x [] c0 br0 sp0 y [] c br sp) ≡ after st (shape whole (tried t w at)) p (faults_of (tried t w at)) (c ++ emits_of e) br sp
    unfolding through_2 applied through_of tested_of gives_of width_on start_on sooner_of shape faults_of earliest place_told
    some_2 true x y w p at e c br sp = refl
    some_2 false x y w p at e c br sp = refl

    pub none_2 : (t : Bool) (x y w p at : ℕ) (e : Emits) (k l c : List ℕ) (br sp : ℕ)
        → through_2 false t w p at e (two x k c0 br0 sp0 y l c br sp) ≡ after st 99 p (k ++ l) (c ++ emits_of e) br sp
    unfolding through_2 applied through_of faulty_of gives_of width_on start_on sooner_of
    none_2 t x y w p at e k l c br sp = ap (λ (f : Place). record { widths = 99 ∷ st.widths; starts = p ∷ st.starts; slots = st.slots; code = c ++ emits_of e; lengths = st.lengths; first = f; breadth = br; start = sp; cases = st.cases; rule = st.rule }) (told_after k l st.first)

  pub record Over2 (o p a b c d at from : ℕ) (t : ℕ → ℕ → Bool) (f : ℕ → ℕ → ℕ) (e : ℕ → ℕ → Emits) : Type 0 where
    pub does : (x y : ℕ) (k c0 : List ℕ) (br0 sp0 : ℕ) (l h : List ℕ) (br sp : ℕ)
        → step_of (two x k c0 br0 sp0 y l h br sp) o p a b c d ≡ through_2 (has y && has x) (t x y) (f x y) from at (e x y) (two x k c0 br0 sp0 y l h br sp)

  module _ {o p a b c d at from : ℕ} {t : ℕ → ℕ → Bool} {f : ℕ → ℕ → ℕ} {e : ℕ → ℕ → Emits} (v : Over2 o p a b c d at from t f e) (items more_items : List ℕ) (is js new : List Item) where
    pub left_2 : (x y : Extent) → Small x → Small y → (IsWide x → IsWide y → Emitted (e (width_of x) (width_of y)) new)
        → (r : Left whole x q items is st) → Left whole y s more_items js (after st (shape whole x) q (faults_of x) r.c r.br r.sp)
        → Left whole (two_parts x y (λ m n. tried (t m n) (f m n) at)) from (items ++ (more_items ++ six o p a b c d)) (is ++ (js ++ new)) st
    unfolding has two_parts shape faults_of width_of
    left_2 (wide m) (wide n) h g i r z =
        record {
          c = z.c ++ emits_of (e m n);
          br = z.br;
          sp = z.sp;
          goes = goes_both r.goes (goes_both z.goes (goes_six o p a b c d (v.does m n [] r.c r.br r.sp [] z.c z.br z.sp
              ∙ ap₂ (λ (x y : Bool). through_2 (x && y) (t m n) (f m n) from at (e m n) (two m [] r.c r.br r.sp n [] z.c z.br z.sp)) (le-leb n 64 g) (le-leb m 64 h)
              ∙ some_2 r.c r.br r.sp (t m n) m n (f m n) from at (e m n) z.c z.br z.sp)));
          code = λ y. both_code st is js new (e m n) r.c z.c (r.code tt) (z.code tt) (i tt tt);
        }
    left_2 (wide m) (faulty l) h g i r z =
        record {
          c = z.c ++ emits_of (e m 99);
          br = z.br;
          sp = z.sp;
          goes = goes_both r.goes (goes_both z.goes (goes_six o p a b c d (v.does m 99 [] r.c r.br r.sp l z.c z.br z.sp ∙ none_2 r.c r.br r.sp (t m 99) m 99 (f m 99) from at (e m 99) [] l z.c z.br z.sp)));
          code = λ y. absurd y;
        }
    left_2 (faulty k) (wide n) h g i r z =
        record {
          c = z.c ++ emits_of (e 99 n);
          br = z.br;
          sp = z.sp;
          goes = goes_both r.goes (goes_both z.goes (goes_six o p a b c d (v.does 99 n k r.c r.br r.sp [] z.c z.br z.sp
              ∙ ap (λ (x : Bool). through_2 x (t 99 n) (f 99 n) from at (e 99 n) (two 99 k r.c r.br r.sp n [] z.c z.br z.sp)) (and-false (leb n 64))
              ∙ none_2 r.c r.br r.sp (t 99 n) 99 n (f 99 n) from at (e 99 n) k [] z.c z.br z.sp
              ∙ ap (λ (l : List ℕ). after st 99 from l (z.c ++ emits_of (e 99 n)) z.br z.sp) (append-nil k))));
          code = λ y. absurd y;
        }
    left_2 (faulty k) (faulty l) h g i r z =
        record {
          c = z.c ++ emits_of (e 99 99);
          br = z.br;
          sp = z.sp;
          goes = goes_both r.goes (goes_both z.goes (goes_six o p a b c d (v.does 99 99 k r.c r.br r.sp l z.c z.br z.sp ∙ none_2 r.c r.br r.sp (t 99 99) 99 99 (f 99 99) from at (e 99 99) k l z.c z.br z.sp)));
          code = λ y. absurd y;
        }
