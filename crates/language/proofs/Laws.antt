-- The rules of the combinators `bind on expect until`, one for each of the four inductions: no grammar here. Assumes nothing.
use mathlib.Core.Path.{◌≡◌, refl, sym, ap, ◌∙◌}
use mathlib.Core.Bool.{Bool, true, false}
use mathlib.Core.List.{List, [], ◌∷◌, ◌++◌, append_assoc, append-nil}
use mathlib.Core.Option.{Option, none, some}
use Prim.Native.Nat.{ℕ, zero, suc, ◌+◌, ◌≤◌, ◌<◌}
use Prim.Native.String.{String}
use native.Mathlib.Omega.{arith}
use lib.ListN.{length, length-append}
use Rattle.language.specs.Words.{Word, fixed}
use Rattle.language.specs.Reader.{Res, ok, bad, dry, bind, on, is, expect, until}
use Rattle.language.proofs.Tests.{never, differ, Tells, is_tells, is_passes}

-- ---- `on`, where it is known how the test goes

abbrev pub Misses : {A : Type 0} → (Word → Option A) → List Word → Type 0
Misses t [] = Unit {0}
Misses t (x ∷ r) = t x ≡ none

module _ {A T : Type 0} (t : Word → Option A) (g : A → List Word → Res T) (d : List Word → Res T) where
  pub on_hit : (x : Word) (r : List Word) (a : A) → t x ≡ some a → on t (x ∷ r) g d ≡ g a r
  unfolding on
  on_hit x r a e = go (t x) e
    where
      go : (v : Option A) → v ≡ some a → elim v as (λ (z : Option A). Res T) [ some a ↦ g a r | none ↦ d (x ∷ r) ] ≡ g a r
      go (some b) h = let q : b ≡ a = cc in rw q refl
      go none h = never (cc)

  pub on_miss : (ws : List Word) → Misses t ws → on t ws g d ≡ d ws
  unfolding on
  on_miss [] e = refl
  on_miss (x ∷ r) e = go (t x) e
    where
      go : (v : Option A) → v ≡ none → elim v as (λ (z : Option A). Res T) [ some a ↦ g a r | none ↦ d (x ∷ r) ] ≡ d (x ∷ r)
      go (some b) h = never (cc)
      go none h = refl

-- ---- Leaves: the rest of a tree is a rest of E

pub data Leaves {T : Type 0} (E : List Word → Type 0) : Res T → Type 0 where
  v_ok : {t : T} {rest : List Word} → E rest → Leaves E (ok t rest)
  v_bad : {rest : List Word} → Leaves E (bad rest)
  v_dry : Leaves E dry

module _ {T : Type 0} {E : List Word → Type 0} where
  pub bind_leaves : {S : Type 0} (r : Res S) (k : S → List Word → Res T) → ((t : S) (x : List Word) → Leaves E (k t x)) → Leaves E (bind r k)
  unfolding bind
  bind_leaves (ok t x) k h = h t x
  bind_leaves (bad x) k h = v_bad
  bind_leaves dry k h = v_dry

  pub on_leaves : {A : Type 0} (t : Word → Option A) (ws : List Word) (g : A → List Word → Res T) (d : List Word → Res T)
      → ((a : A) (r : List Word) → Leaves E (g a r)) → (Misses t ws → Leaves E (d ws)) → Leaves E (on t ws g d)
  unfolding on
  on_leaves t [] g d y n = n tt
  on_leaves {A} t (x ∷ r) g d y n = go (t x) n
    where
      go : (v : Option A) → (v ≡ none → Leaves E (d (x ∷ r))) → Leaves {T = T} E (elim v [ some a ↦ g a r | none ↦ d (x ∷ r) ])
      go (some a) n = y a r
      go none n = n refl

  pub if_leaves : (b : Bool) {x y : Res T} → (b ≡ true → Leaves E x) → (b ≡ false → Leaves E y) → Leaves {T = T} E (elim b [ true ↦ x | false ↦ y ])
  if_leaves true p q = p refl
  if_leaves false p q = q refl

anywhere : {T : Type 0} (r : Res T) → Leaves (λ (s : List Word). Unit {0}) r
anywhere (ok t x) = v_ok tt
anywhere (bad x) = v_bad
anywhere dry = v_dry

-- ---- Good: `all` begins with a text that D derives, the answer's tree and rest; or it begins with words that some words finish

pub data Good {T : Type 0} (D : List Word → T → Type 0) (all : List Word) : Res T → Type 0 where
  g_ok : (p : List Word) {t : T} {rest : List Word} → all ≡ p ++ rest → D p t → Good D all (ok t rest)
  g_bad : (p c : List Word) (t : T) {rest : List Word} → all ≡ p ++ rest → D (p ++ c) t → Good D all (bad rest)
  g_dry : Good D all dry

-- `acc l` is what has been read of the text, then l
abbrev pub Acc : (List Word → List Word) → Type 0
Acc acc = (l m : List Word) → acc (l ++ m) ≡ acc l ++ m

module _ {T : Type 0} {D : List Word → T → Type 0} {all : List Word} where
  pub on_good : {A : Type 0} (t : Word → Option A) (ws : List Word) (g : A → List Word → Res T) (d : List Word → Res T)
      → ((x : Word) (a : A) (r : List Word) → t x ≡ some a → ws ≡ x ∷ r → Good D all (g a r)) → Good D all (d ws) → Good D all (on t ws g d)
  unfolding on
  on_good t [] g d y n = n
  on_good {A} t (x ∷ r) g d y n = go (t x) refl
    where
      go : (v : Option A) → t x ≡ v → Good {T = T} D all (elim v [ some a ↦ g a r | none ↦ d (x ∷ r) ])
      go (some a) e = y x a r e refl
      go none e = n

  -- a test that tells its word
  pub at_good : {A : Type 0} {t : Word → Option A} {w : A → Word} → Tells t w → (ws : List Word) (g : A → List Word → Res T) (d : List Word → Res T)
      → ((a : A) (r : List Word) → ws ≡ w a ∷ r → Good D all (g a r)) → Good D all (d ws) → Good D all (on t ws g d)
  at_good tells ws g d y n = on_good _ ws g d (λ x a r i e. y a r (rw (← tells x a i) e)) n

  pub if_good : (b : Bool) {x y : Res T} → (b ≡ true → Good D all x) → (b ≡ false → Good D all y) → Good {T = T} D all (elim b [ true ↦ x | false ↦ y ])
  if_good true p q = p refl
  if_good false p q = q refl

  pub expect_good : (acc : List Word → List Word) (v : String) (ws : List Word) (g : ℕ → List Word → Res T) → Acc acc → all ≡ acc ws
      → (q : List Word) (u : T) → D (acc q) u
      → ((p : ℕ) (r : List Word) → all ≡ acc (fixed v p ∷ r) → Good D all (g p r)) → Good D all (expect v ws g)
  unfolding expect
  expect_good acc v ws g law e q u d next = at_good (is_tells v) ws _ _ (λ p r h. next p r (e ∙ ap acc h))
      (g_bad (acc []) q u (e ∙ law [] ws) (rw (law [] q) at d))

  -- a part of a production, which some words finish (`fin`), then k, which may know that the part's rest is one of E
  pub rest_good : {S : Type 0} {D' : List Word → S → Type 0} {E : List Word → Type 0} {ws : List Word} {r : Res S} (acc : List Word → List Word) (k : S → List Word → Res T)
      → Acc acc → all ≡ acc ws → Leaves E r → Good D' ws r
      → ((p : List Word) (t : S) → D' p t → (q : List Word) × (u : T) × D (acc (p ++ q)) u)
      → ((p : List Word) (t : S) (x : List Word) → E x → D' p t → all ≡ acc (p ++ x) → Good D all (k t x))
      → Good D all (bind r k)
  unfolding bind
  rest_good acc k law e (v_ok j) (g_ok p {t} {rest} h d) fin next = next p t rest j d (e ∙ ap acc h)
  rest_good acc k law e v_bad (g_bad p c t {rest} h d) fin next = let (q, u, d') = fin (p ++ c) t d in
      g_bad (acc p) (c ++ q) u (e ∙ ap acc h ∙ law p rest) (rw (append_assoc p c q, law p (c ++ q)) at d')
  rest_good acc k law e v_dry g_dry fin next = g_dry

  pub bind_good : {S : Type 0} {D' : List Word → S → Type 0} {ws : List Word} {r : Res S} (acc : List Word → List Word) (k : S → List Word → Res T) → Acc acc → all ≡ acc ws → Good D' ws r
      → ((p : List Word) (t : S) → D' p t → (q : List Word) × (u : T) × D (acc (p ++ q)) u)
      → ((p : List Word) (t : S) (x : List Word) → D' p t → all ≡ acc (p ++ x) → Good D all (k t x))
      → Good D all (bind r k)
  bind_good {r = r} acc k law e h fin next = rest_good acc k law e (anywhere r) h fin (λ p t x j. next p t x)

  pub until_good : {S : Type 0} {D' : List Word → S → Type 0} {ws : List Word} {r : Res S} (acc : List Word → List Word) (v : String) (g : S → ℕ → List Word → Res T) → Acc acc → all ≡ acc ws → Good D' ws r
      → ((p : List Word) (t : S) → D' p t → (q : List Word) × (u : T) × D (acc (p ++ q)) u)
      → ((p : List Word) (t : S) (s : ℕ) (x : List Word) → D' p t → all ≡ acc (p ++ (fixed v s ∷ x)) → Good D all (g t s x))
      → Good D all (until r v g)
  unfolding until
  until_good acc v g law e h fin next = bind_good acc _ law e h fin (λ p t rest d i. let (q, u, d') = fin p t d in
      expect_good (λ l. acc (p ++ l)) v rest (λ s y. g t s y) (λ l m. ap acc (sym (append_assoc p l m)) ∙ law (p ++ l) m) i q u d' (λ s x. next p t s x d))

  -- the last part of a production, and then a loop L (or ok)
  pub last_good : {S : Type 0} {D' : List Word → S → Type 0} {ws : List Word} {r : Res S} (acc : List Word → List Word) (h : S → T) (L : T → List Word → Res T) → Acc acc → all ≡ acc ws → Good D' ws r
      → ((p : List Word) (t : S) → D' p t → D (acc p) (h t))
      → ((q : List Word) (u : T) (x : List Word) → D q u → all ≡ q ++ x → Good D all (L u x))
      → Good D all (bind r (λ t x. L (h t) x))
  last_good acc h L law e i make next = bind_good acc _ law e i (λ p t d. ([], h t, make (p ++ []) t (rw append-nil d))) (λ p t x d j. next (acc p) (h t) x (make p t d) (j ∙ law p x))

  pub lift_good : {D' : List Word → T → Type 0} {r : Res T} → ((p : List Word) (t : T) → D' p t → D p t) → Good D' all r → Good D all r
  lift_good make (g_ok p e d) = g_ok p e (make p _ d)
  lift_good make (g_bad p c t e d) = g_bad p c t e (make (p ++ c) t d)
  lift_good make g_dry = g_dry

  pub done : (q : List Word) (u : T) (x : List Word) → D q u → all ≡ q ++ x → Good D all (ok u x)
  done q u x d e = g_ok q e d

-- ---- Settled: the fuel was enough, and a tree has taken a word at least

pub data Settled {T : Type 0} (n : ℕ) : Res T → Type 0 where
  s_ok : {t : T} (rest : List Word) → length rest < n → Settled n (ok t rest)
  s_bad : {rest : List Word} → Settled n (bad rest)

module _ {T : Type 0} where
  pub more : {m n : ℕ} {r : Res T} → m ≤ n → Settled m r → Settled n r
  more h (s_ok rest i) = s_ok rest (omega arith)
  more h s_bad = s_bad

  pub on_settled : {n : ℕ} {A : Type 0} (t : Word → Option A) (ws : List Word) (g : A → List Word → Res T) (d : List Word → Res T)
      → ((a : A) (r : List Word) → length ws ≡ suc (length r) → Settled n (g a r)) → Settled n (d ws) → Settled n (on t ws g d)
  unfolding on
  on_settled t [] g d y n = n
  on_settled {n = l} {A} t (x ∷ r) g d y n = go (t x)
    where
      go : (v : Option A) → Settled {T = T} l (elim v [ some a ↦ g a r | none ↦ d (x ∷ r) ])
      go (some a) = y a r refl
      go none = n

  pub if_settled : {n : ℕ} (b : Bool) {x y : Res T} → Settled n x → Settled n y → Settled {T = T} n (elim b [ true ↦ x | false ↦ y ])
  if_settled true p q = p
  if_settled false p q = q

  pub bind_settled : {S : Type 0} {m n : ℕ} {r : Res S} (k : S → List Word → Res T) → Settled m r → ((t : S) (x : List Word) → length x < m → Settled n (k t x)) → Settled n (bind r k)
  unfolding bind
  bind_settled k (s_ok rest h) y = y _ rest h
  bind_settled k s_bad y = s_bad

  pub expect_settled : {n : ℕ} (v : String) (ws : List Word) (g : ℕ → List Word → Res T) → ((p : ℕ) (r : List Word) → length ws ≡ suc (length r) → Settled n (g p r)) → Settled n (expect v ws g)
  unfolding expect
  expect_settled v ws g y = on_settled (is v) ws _ _ y s_bad

  pub until_settled : {S : Type 0} {m n : ℕ} {r : Res S} (v : String) (g : S → ℕ → List Word → Res T) → Settled m r → ((t : S) (p : ℕ) (x : List Word) → length x + 1 < m → Settled n (g t p x)) → Settled n (until r v g)
  unfolding until
  until_settled v g s y = bind_settled _ s (λ t x h. expect_settled v x _ (λ p r e. y t p r (omega arith)))

-- ---- Agrees: an answer is this tree and these words after it, if the fuel was enough. Reaches: it comes to a loop, with some fuel

pub data Agrees {T : Type 0} (t : T) (rest : List Word) : Res T → Type 0 where
  a_ok : Agrees t rest (ok t rest)
  a_dry : Agrees t rest dry

pub data Reaches {T : Type 0} (L : ℕ → Res T) : Res T → Type 0 where
  r_at : (f : ℕ) {r : Res T} → r ≡ L f → Reaches L r
  r_dry : Reaches L dry

expect_at : {T : Type 0} (v : String) (p : ℕ) (r : List Word) (g : ℕ → List Word → Res T) → expect v (fixed v p ∷ r) g ≡ g p r
unfolding expect
expect_at v p r g = on_hit (is v) g _ (fixed v p) r p (is_passes v p)

module _ {S T : Type 0} where
  pub bind_agrees : {t : T} {a : S} {rest x : List Word} {r : Res S} (k : S → List Word → Res T) → Agrees a x r → Agrees t rest (k a x) → Agrees t rest (bind r k)
  unfolding bind
  bind_agrees k a_ok h = h
  bind_agrees k a_dry h = a_dry

  pub until_agrees : {t : T} {a : S} {p : ℕ} {rest x : List Word} {r : Res S} (v : String) (g : S → ℕ → List Word → Res T) → Agrees a (fixed v p ∷ x) r → Agrees t rest (g a p x) → Agrees t rest (until r v g)
  unfolding until bind
  until_agrees {p = p} {x = x} v g a_ok h = rw (expect_at v p x _) h
  until_agrees v g a_dry h = a_dry

  pub bind_reaches : {L : ℕ → Res T} {a : S} {x : List Word} {r : Res S} (k : S → List Word → Res T) → Agrees a x r → Reaches L (k a x) → Reaches L (bind r k)
  unfolding bind
  bind_reaches k a_ok h = h
  bind_reaches k a_dry h = r_dry

  pub until_reaches : {L : ℕ → Res T} {a : S} {p : ℕ} {x : List Word} {r : Res S} (v : String) (g : S → ℕ → List Word → Res T) → Agrees a (fixed v p ∷ x) r → Reaches L (g a p x) → Reaches L (until r v g)
  unfolding until bind
  until_reaches {p = p} {x = x} v g a_ok h = rw (expect_at v p x _) h
  until_reaches v g a_dry h = r_dry

pub agrees_bad : {T : Type 0} {t : T} {x s : List Word} {r : Res T} → Agrees t x r → r ≡ bad s → ⊥
agrees_bad a_ok e = never (cc)
agrees_bad a_dry e = never (cc)

-- a reader and a loop k after it, read up to a fixed word
pub chain_agrees : {R S T : Type 0} {t : T} {a : S} {p : ℕ} {rest x : List Word} (r : Res R) (k : R → List Word → Res S) (v : String) (g : S → ℕ → List Word → Res T)
    → Agrees a (fixed v p ∷ x) (bind r k) → Agrees t rest (g a p x) → Agrees t rest (bind r (λ b y. until (k b y) v g))
unfolding bind
chain_agrees (ok b y) k v g i h = until_agrees v g i h
chain_agrees (bad y) k v g i h = absurd (agrees_bad i refl)
chain_agrees dry k v g i h = a_dry

module _ {T : Type 0} where
  -- an answer that comes to L agrees where L does
  pub through : {t : T} {rest : List Word} {r : Res T} (L : ℕ → Res T) → ((f : ℕ) → Agrees t rest (L f)) → Reaches L r → Agrees t rest r
  through L h (r_at f e) = rw e (h f)
  through L h r_dry = a_dry

  -- a loop that stops has read what came to it; one that goes on comes to where it goes
  pub stops : {t : T} {rest : List Word} {r : Res T} (L : ℕ → Res T) → L 0 ≡ dry → ((f : ℕ) → L (suc f) ≡ ok t rest) → Reaches L r → Agrees t rest r
  stops L z h (r_at zero e) = rw (e, z) a_dry
  stops L z h (r_at (suc f) e) = rw (e, h f) a_ok
  stops L z h r_dry = a_dry

  pub goes : {r : Res T} (L M : ℕ → Res T) → L 0 ≡ dry → ((f : ℕ) → Reaches M (L (suc f))) → Reaches L r → Reaches M r
  goes L M z h (r_at zero e) = rw (e, z) r_dry
  goes L M z h (r_at (suc f) e) = rw e (h f)
  goes L M z h r_dry = r_dry

  pub either_way : (c : Bool) {x y : Res T} → y ≡ x → elim c as (λ (z : Bool). Res T) [ true ↦ x | false ↦ y ] ≡ x
  either_way true e = refl
  either_way false e = e

  pub if_reaches : (L : ℕ → Res T) (c : Bool) (x y : Res T) → c ≡ false → Reaches L y → Reaches {T = T} L (elim c [ true ↦ x | false ↦ y ])
  if_reaches L true x y e h = differ (sym e)
  if_reaches L false x y e h = h

  pub if_agrees : {t : T} {rest : List Word} (c : Bool) (x y : Res T) → c ≡ true → Agrees t rest x → Agrees {T = T} t rest (elim c [ true ↦ x | false ↦ y ])
  if_agrees true x y e h = h
  if_agrees false x y e h = differ e

  pub else_agrees : {t : T} {rest : List Word} (c : Bool) (x y : Res T) → c ≡ false → Agrees t rest y → Agrees {T = T} t rest (elim c [ true ↦ x | false ↦ y ])
  else_agrees true x y e h = differ (sym e)
  else_agrees false x y e h = h

  pub when_true : (c : Bool) (x y : Res T) → c ≡ true → elim c as (λ (z : Bool). Res T) [ true ↦ x | false ↦ y ] ≡ x
  when_true true x y e = refl
  when_true false x y e = differ e

-- ---- Shrinks: what an answer leaves is no longer than what it was given

pub data Shrinks {T : Type 0} (n : ℕ) : Res T → Type 0 where
  h_ok : {t : T} (rest : List Word) → length rest ≤ n → Shrinks n (ok t rest)
  h_bad : (rest : List Word) → length rest ≤ n → Shrinks n (bad rest)
  h_dry : Shrinks n dry

module _ {T : Type 0} where
  shorter : {m n : ℕ} {r : Res T} → m ≤ n → Shrinks m r → Shrinks n r
  shorter h (h_ok rest i) = h_ok rest (omega arith)
  shorter h (h_bad rest i) = h_bad rest (omega arith)
  shorter h h_dry = h_dry

  pub good_shrinks : {D : List Word → T → Type 0} {all : List Word} {r : Res T} → Good D all r → Shrinks (length all) r
  good_shrinks (g_ok p {rest = rest} e d) = h_ok rest (omega (arith, ap length e, length-append p rest))
  good_shrinks (g_bad p c t {rest = rest} e d) = h_bad rest (omega (arith, ap length e, length-append p rest))
  good_shrinks g_dry = h_dry

  pub bind_shrinks : {S : Type 0} {n : ℕ} {x : Res S} (k : S → List Word → Res T) → Shrinks n x → ((t : S) (s : List Word) → Shrinks (length s) (k t s)) → Shrinks n (bind x k)
  unfolding bind
  bind_shrinks k (h_ok rest h) n = shorter h (n _ rest)
  bind_shrinks k (h_bad rest h) n = h_bad rest h
  bind_shrinks k h_dry n = h_dry

  pub on_shrinks : {A : Type 0} (t : Word → Option A) (g : A → List Word → Res T) (d : List Word → Res T) (ws : List Word)
      → ((a : A) (s : List Word) → Shrinks (length s) (g a s)) → Shrinks (length ws) (d ws) → Shrinks (length ws) (on t ws g d)
  unfolding on
  on_shrinks t g d [] y n = n
  on_shrinks {A} t g d (x ∷ s) y n = go (t x)
    where
      go : (v : Option A) → Shrinks {T = T} (suc (length s)) (elim v [ some a ↦ g a s | none ↦ d (x ∷ s) ])
      go (some a) = shorter (omega arith) (y a s)
      go none = n

  pub if_shrinks : {n : ℕ} (b : Bool) {x y : Res T} → Shrinks n x → Shrinks n y → Shrinks {T = T} n (elim b [ true ↦ x | false ↦ y ])
  if_shrinks true p q = p
  if_shrinks false p q = q

  pub expect_shrinks : (v : String) (ws : List Word) (g : ℕ → List Word → Res T) → ((p : ℕ) (s : List Word) → Shrinks (length s) (g p s)) → Shrinks (length ws) (expect v ws g)
  unfolding expect
  expect_shrinks v ws g y = on_shrinks (is v) _ _ ws y (h_bad ws (omega arith))

  pub until_shrinks : {S : Type 0} {n : ℕ} {x : Res S} (v : String) (g : S → ℕ → List Word → Res T) → Shrinks n x → ((t : S) (p : ℕ) (s : List Word) → Shrinks (length s) (g t p s)) → Shrinks n (until x v g)
  unfolding until
  until_shrinks v g h n = bind_shrinks _ h (λ t s. expect_shrinks v s _ (n t))

-- ---- Like: two runs on lists that are the same up to a word w and with it, and then r in the one and c in the other

pub data Swap (w : Word) (r c : List Word) : List Word → List Word → Type 0 where
  here : Swap w r c (w ∷ r) (w ∷ c)
  there : (x : Word) {s s' : List Word} → Swap w r c s s' → Swap w r c (x ∷ s) (x ∷ s')

-- the two answers are alike; or the first is past w; or it stops at a rest of M, where what lies past w has made it stop
pub data Like {T : Type 0} (M : List Word → Type 0) (w : Word) (r c : List Word) : Res T → Res T → Type 0 where
  l_ok : {t : T} {s s' : List Word} → Swap w r c s s' → Like M w r c (ok t s) (ok t s')
  l_bad : {s s' : List Word} → Swap w r c s s' → Like M w r c (bad s) (bad s')
  l_past : {x y : Res T} → Shrinks (length r) x → Like M w r c x y
  l_stop : {t : T} {y : Res T} (s : List Word) → M s → Like M w r c (ok t s) y

-- a run that stops for nothing past w
abbrev pub Never : List Word → Type 0
Never s = ⊥

pub nowhere : (s : List Word) → Never s → ⊥
nowhere s i = i

pub record Pair {T : Type 0} (M : List Word → Type 0) (w : Word) (r c ws ws' : List Word) (x y : Res T) : Type 0 where
  pub shrinks : Shrinks (length ws) x
  pub like : Swap w r c ws ws' → Like M w r c x y

module _ {T : Type 0} {M : List Word → Type 0} {w : Word} {r c : List Word} where
  pub ok_pair : {ws ws' : List Word} (t : T) → Pair M w r c ws ws' (ok t ws) (ok t ws')
  ok_pair {ws} t = record { shrinks = h_ok ws (omega arith); like = λ s. l_ok s }

  pub bad_pair : {ws ws' : List Word} → Pair {T = T} M w r c ws ws' (bad ws) (bad ws')
  bad_pair {ws} = record { shrinks = h_bad ws (omega arith); like = λ s. l_bad s }

  pub dry_pair : {ws ws' : List Word} {y : Res T} → Pair M w r c ws ws' dry y
  dry_pair = record { shrinks = h_dry; like = λ s. l_past h_dry }

  -- k after an answer that may stop at a rest of N, and what k does there
  bind_like : {S : Type 0} {N : List Word → Type 0} {x y : Res S} (k : S → List Word → Res T) → Like N w r c x y → ((t : S) (s s' : List Word) → Pair M w r c s s' (k t s) (k t s'))
      → ((t : S) (s : List Word) (y : Res T) → N s → Like M w r c (k t s) y) → Like M w r c (bind x k) (bind y k)
  unfolding bind
  bind_like k (l_ok {t} {s} {s'} i) n m = (n t s s').like i
  bind_like k (l_bad i) n m = l_bad i
  bind_like k (l_past i) n m = l_past (bind_shrinks k i (λ t s. (n t s s).shrinks))
  bind_like k (l_stop {t} {y} s i) n m = m t s (bind y k) i

  pub stop_pair : {S : Type 0} {N : List Word → Type 0} {ws ws' : List Word} {x y : Res S} (k : S → List Word → Res T) → Pair N w r c ws ws' x y → ((t : S) (s s' : List Word) → Pair M w r c s s' (k t s) (k t s'))
      → ((t : S) (s : List Word) (y : Res T) → N s → Like M w r c (k t s) y) → Pair M w r c ws ws' (bind x k) (bind y k)
  stop_pair k p n m = record { shrinks = bind_shrinks k p.shrinks (λ t s. (n t s s).shrinks); like = λ i. bind_like k (p.like i) n m }

  pub bind_pair : {S : Type 0} {N : List Word → Type 0} {ws ws' : List Word} {x y : Res S} (k : S → List Word → Res T) → ((s : List Word) → N s → ⊥) → Pair N w r c ws ws' x y → ((t : S) (s s' : List Word) → Pair M w r c s s' (k t s) (k t s'))
      → Pair M w r c ws ws' (bind x k) (bind y k)
  bind_pair k no' p n = stop_pair k p n (λ t s y i. absurd (no' s i))

  module _ {A : Type 0} (t : Word → Option A) (g : A → List Word → Res T) (d : List Word → Res T) where
    on_like : {ws ws' : List Word} → Swap w r c ws ws' → ((a : A) (s s' : List Word) → Pair M w r c s s' (g a s) (g a s')) → Like M w r c (d ws) (d ws') → Like M w r c (on t ws g d) (on t ws' g d)
    unfolding on
    on_like here y n = go (t w)
      where
        go : (v : Option A) → Like {T = T} M w r c (elim v [ some a ↦ g a r | none ↦ d (w ∷ r) ]) (elim v [ some a ↦ g a c | none ↦ d (w ∷ c) ])
        go (some a) = l_past (y a r r).shrinks
        go none = n
    on_like (there x {s} {s'} i) y n = go (t x)
      where
        go : (v : Option A) → Like {T = T} M w r c (elim v [ some a ↦ g a s | none ↦ d (x ∷ s) ]) (elim v [ some a ↦ g a s' | none ↦ d (x ∷ s') ])
        go (some a) = (y a s s').like i
        go none = n

    pub on_pair : (ws ws' : List Word) → ((a : A) (s s' : List Word) → Pair M w r c s s' (g a s) (g a s')) → Pair M w r c ws ws' (d ws) (d ws') → Pair M w r c ws ws' (on t ws g d) (on t ws' g d)
    on_pair ws ws' y n = record { shrinks = on_shrinks t g d ws (λ a s. (y a s s).shrinks) n.shrinks; like = λ i. on_like i y (n.like i) }

  pub expect_pair : (v : String) (g : ℕ → List Word → Res T) (ws ws' : List Word) → ((p : ℕ) (s s' : List Word) → Pair M w r c s s' (g p s) (g p s')) → Pair M w r c ws ws' (expect v ws g) (expect v ws' g)
  unfolding expect
  expect_pair v g ws ws' n = on_pair (is v) _ _ ws ws' n bad_pair

  pub until_pair : {S : Type 0} {N : List Word → Type 0} {ws ws' : List Word} {x y : Res S} (v : String) (g : S → ℕ → List Word → Res T) → ((s : List Word) → N s → ⊥) → Pair N w r c ws ws' x y
      → ((t : S) (p : ℕ) (s s' : List Word) → Pair M w r c s s' (g t p s) (g t p s')) → Pair M w r c ws ws' (until x v g) (until y v g)
  unfolding until
  until_pair v g no' p n = bind_pair _ no' p (λ t s s'. expect_pair v _ s s' (n t))

  pub if_like : (e e' : Bool) (x x' y y' : Res T) → e ≡ e' → Like M w r c x y → Like M w r c x' y' → Like {T = T} M w r c (elim e [ true ↦ x | false ↦ x' ]) (elim e' [ true ↦ y | false ↦ y' ])
  if_like true true x x' y y' q p p' = p
  if_like true false x x' y y' q p p' = differ (sym q)
  if_like false true x x' y y' q p p' = differ q
  if_like false false x x' y y' q p p' = p'

  pub if_pair : (e : Bool) {ws ws' : List Word} {x x' y y' : Res T} → Pair M w r c ws ws' x y → Pair M w r c ws ws' x' y' → Pair {T = T} M w r c ws ws' (elim e [ true ↦ x | false ↦ x' ]) (elim e [ true ↦ y | false ↦ y' ])
  if_pair true p q = p
  if_pair false p q = q

  pub if_first : (e : Bool) (x x' y : Res T) → (e ≡ true → Like M w r c x y) → (e ≡ false → Like M w r c x' y) → Like {T = T} M w r c (elim e [ true ↦ x | false ↦ x' ]) y
  if_first true x x' y p q = p refl
  if_first false x x' y p q = q refl

  pub if_both : (e : Bool) {x y : Res T} → Like M w r c x y → Like {T = T} M w r c x (elim e [ true ↦ y | false ↦ y ])
  if_both true p = p
  if_both false p = p
