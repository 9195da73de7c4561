-- The names of bindings that were read stand in their text, each at its place, and a section has few lines. Assumes nothing.
use mathlib.Core.Path.{◌≡◌, refl, sym, ap, ap₂, ◌∙◌, subst}
use mathlib.Core.Bool.{Bool, true, false, ◌&&◌}
use mathlib.Core.List.{List, [], ◌∷◌, ◌++◌, append_assoc}
use Prim.Native.Nat.{ℕ, zero, suc, ◌+◌, ◌-◌, ◌*◌, ◌≤◌}
use borrow.Author.Tests.{leb-true}
use native.Mathlib.Omega.{arith}
use lib.Dec.{eqb, leb, ltb}
use lib.ListN.{length, take, drop, length-append}
use lib.Seq.{take-append_seam, drop-append_seam}
use Rattle.language.specs.Words.{digit, name_byte}
use Rattle.language.specs.Limits.{limits}
use Rattle.language.specs.Bindings.{Binding, Bindings, Got, got, lost, after, byte, digits_from, number_up_to, may_end, may_go_on, name_from, fresh_name, lines, section, sections, Bound, bound, wrong_at, bindings_of}
use Rattle.placed.specs.Placed.{Every}

-- a line's name is as many bytes at its place
abbrev pub NameStands : List ℕ → Binding → Type 0
NameStands text l = l.called.spelled ≡ take (length l.called.spelled) (drop l.called.at text)

-- the bytes from some place of a text on
record Tail (x y : List ℕ) : Type 0 where
  front : List ℕ
  is : x ≡ front ++ y

tail_here : {x y : List ℕ} → x ≡ y → Tail x y
tail_here e = record { front = []; is = e }

tail_more : {x y z : List ℕ} → Tail x y → Tail y z → Tail x z
tail_more {z = z} s t = record { front = s.front ++ t.front; is = s.is ∙ ap (λ (r : List ℕ). s.front ++ r) t.is ∙ sym (append_assoc s.front t.front z) }

tail_cons : (b : ℕ) {x y : List ℕ} → Tail x y → Tail (b ∷ x) y
tail_cons b t = record { front = b ∷ t.front; is = ap (λ (r : List ℕ). b ∷ r) t.is }

tail_drop : {x y : List ℕ} → Tail x y → drop (length x - length y) x ≡ y
tail_drop {x} {y} t = ap (λ (n : ℕ). drop n x) long ∙ ap (drop (length t.front)) t.is ∙ drop-append_seam t.front y
  where
    long : length x - length y ≡ length t.front
    long = let e = ap length t.is ∙ length-append t.front y in omega arith

-- ---- what was read of a part

record After {S T : Type 0} (x : Got S) (g : S → List ℕ → Got T) (t : T) (w : List ℕ) : Type 0 where
  what : S
  rest : List ℕ
  is : x ≡ got what rest
  goes : g what rest ≡ got t w

after_got : {S T : Type 0} (x : Got S) (g : S → List ℕ → Got T) {t : T} {w : List ℕ} → after x g ≡ got t w → After x g t w
unfolding after
after_got (got s r) g e = record { what = s; rest = r; is = refl; goes = e }
after_got (lost r) g e = absurd (let z : ◌≡◌ {A = ℕ} 0 1 = cc in omega arith)

record Byte {T : Type 0} (x : List ℕ) (g : List ℕ → Got T) (t : T) (w : List ℕ) : Type 0 where
  rest : List ℕ
  tail : Tail x rest
  goes : g rest ≡ got t w

byte_got : {T : Type 0} (c : ℕ) (x : List ℕ) (g : List ℕ → Got T) {t : T} {w : List ℕ} → byte c x g ≡ got t w → Byte x g t w
unfolding byte
byte_got c [] g e = absurd (let z : ◌≡◌ {A = ℕ} 0 1 = cc in omega arith)
byte_got {T} c (b ∷ x) g {t} {w} e = go (eqb c b) e
  where
    go : (q : Bool) → ◌≡◌ {A = Got T} (elim q [ true ↦ g x | false ↦ lost (b ∷ x) ]) (got t w) → Byte (b ∷ x) g t w
    go true e = record { rest = x; tail = tail_cons b (tail_here refl); goes = e }
    go false e = absurd (let z : ◌≡◌ {A = ℕ} 0 1 = cc in omega arith)

name_got : (seen : List (List ℕ)) (s bs : List ℕ) {s' r : List ℕ} → name_from seen s bs ≡ got s' r → s ++ bs ≡ s' ++ r
unfolding name_from
name_got seen s [] e = absurd (let z : ◌≡◌ {A = ℕ} 0 1 = cc in omega arith)
name_got seen s (b ∷ bs) {s'} {r} e = go (name_byte b && may_go_on seen (s ++ (b ∷ []))) (may_end seen s) e (λ q. name_got seen (s ++ (b ∷ [])) bs q)
  where
    go : (x y : Bool) → ◌≡◌ {A = Got (List ℕ)} (elim x [ true ↦ name_from seen (s ++ (b ∷ [])) bs | false ↦ elim y [ true ↦ got s (b ∷ bs) | false ↦ lost (b ∷ bs) ] ]) (got s' r)
        → (name_from seen (s ++ (b ∷ [])) bs ≡ got s' r → (s ++ (b ∷ [])) ++ bs ≡ s' ++ r) → s ++ (b ∷ bs) ≡ s' ++ r
    go true y q h = sym (append_assoc s (b ∷ []) bs) ∙ h q
    go false true q h = let m : s ≡ s' = cc in let n : b ∷ bs ≡ r = cc in ap₂ (λ (x y : List ℕ). x ++ y) m n
    go false false q h = absurd (let z : ◌≡◌ {A = ℕ} 0 1 = cc in omega arith)

fresh_got : (seen : List (List ℕ)) (bs : List ℕ) {s r : List ℕ} → fresh_name seen bs ≡ got s r → bs ≡ s ++ r
unfolding fresh_name
fresh_got seen [] e = absurd (let z : ◌≡◌ {A = ℕ} 0 1 = cc in omega arith)
fresh_got seen (b ∷ bs) {s} {r} e = go (digit b) e
  where
    go : (x : Bool) → ◌≡◌ {A = Got (List ℕ)} (elim x [ true ↦ lost (b ∷ bs) | false ↦ name_from seen [] (b ∷ bs) ]) (got s r) → b ∷ bs ≡ s ++ r
    go true q = absurd (let z : ◌≡◌ {A = ℕ} 0 1 = cc in omega arith)
    go false q = name_got seen [] (b ∷ bs) q

digits_got : (most n : ℕ) (x : List ℕ) {v : ℕ} {y : List ℕ} → digits_from most n x ≡ got v y → Tail x y
unfolding digits_from
digits_got most n [] {v} {y} e = tail_here (let q : ◌≡◌ {A = List ℕ} [] y = cc in q)
digits_got most n (b ∷ x) {v} {y} e = go (digit b && ltb 0 n && leb (n * 10 + (b - 48)) most) e (λ q. digits_got most (n * 10 + (b - 48)) x q)
  where
    go : (q : Bool) → ◌≡◌ {A = Got ℕ} (elim q [ true ↦ digits_from most (n * 10 + (b - 48)) x | false ↦ got n (b ∷ x) ]) (got v y) → (digits_from most (n * 10 + (b - 48)) x ≡ got v y → Tail x y) → Tail (b ∷ x) y
    go true q h = tail_cons b (h q)
    go false q h = tail_here (let m : b ∷ x ≡ y = cc in m)

number_got : (most : ℕ) (x : List ℕ) {v : ℕ} {y : List ℕ} → number_up_to most x ≡ got v y → Tail x y
unfolding number_up_to
number_got most [] e = absurd (let z : ◌≡◌ {A = ℕ} 0 1 = cc in omega arith)
number_got most (b ∷ x) {v} {y} e = go (digit b) e
  where
    go : (q : Bool) → ◌≡◌ {A = Got ℕ} (elim q [ true ↦ digits_from most (b - 48) x | false ↦ lost (b ∷ x) ]) (got v y) → Tail (b ∷ x) y
    go true q = tail_cons b (digits_got most (b - 48) x q)
    go false q = absurd (let z : ◌≡◌ {A = ℕ} 0 1 = cc in omega arith)

digits_small : (most n : ℕ) (x : List ℕ) {v : ℕ} {y : List ℕ} → n ≤ most → digits_from most n x ≡ got v y → v ≤ most
unfolding digits_from
digits_small most n [] {v} {y} h e = let q : n ≡ v = cc in omega arith
digits_small most n (b ∷ x) {v} {y} h e = go (digit b && ltb 0 n && leb (n * 10 + (b - 48)) most) refl e (λ k q. digits_small most (n * 10 + (b - 48)) x k q)
  where
    go : (q : Bool) → (digit b && ltb 0 n && leb (n * 10 + (b - 48)) most) ≡ q → ◌≡◌ {A = Got ℕ} (elim q [ true ↦ digits_from most (n * 10 + (b - 48)) x | false ↦ got n (b ∷ x) ]) (got v y)
        → (n * 10 + (b - 48) ≤ most → digits_from most (n * 10 + (b - 48)) x ≡ got v y → v ≤ most) → v ≤ most
    go true f q k = k (leb-true (n * 10 + (b - 48)) most (last (digit b) (ltb 0 n) (leb (n * 10 + (b - 48)) most) f)) q
      where
        last : (x y z : Bool) → (x && y && z) ≡ true → z ≡ true
        last true true z e = e
        last true false z e = absurd (let z : ◌≡◌ {A = ℕ} 0 1 = cc in omega arith)
        last false y z e = absurd (let z : ◌≡◌ {A = ℕ} 0 1 = cc in omega arith)
    go false f q k = let m : n ≡ v = cc in omega arith

number_small : (most : ℕ) (x : List ℕ) {v : ℕ} {y : List ℕ} → 9 ≤ most → number_up_to most x ≡ got v y → v ≤ most
unfolding number_up_to digit
number_small most [] h e = absurd (let z : ◌≡◌ {A = ℕ} 0 1 = cc in omega arith)
number_small most (b ∷ x) {v} {y} h e = go (leb 48 b) (leb b 57) refl e
  where
    go : (p q : Bool) → leb b 57 ≡ q → ◌≡◌ {A = Got ℕ} (elim (p && q) [ true ↦ digits_from most (b - 48) x | false ↦ lost (b ∷ x) ]) (got v y) → v ≤ most
    go true true f q = digits_small most (b - 48) x (let k = leb-true b 57 f in omega arith) q
    go true false f q = absurd (let z : ◌≡◌ {A = ℕ} 0 1 = cc in omega arith)
    go false r f q = absurd (let z : ◌≡◌ {A = ℕ} 0 1 = cc in omega arith)

-- ---- lines, sections, the whole text

module _ (text : List ℕ) where
  record Lines (k : ℕ) (l : List Binding) (w : List ℕ) : Type 0 where
    stand : Every (NameStands text) l
    tail : Tail text w
    long : length l ≡ k

  stands_here : (bs s r : List ℕ) → Tail text bs → bs ≡ s ++ r → s ≡ take (length s) (drop (length text - length bs) text)
  stands_here bs s r t e = sym (ap (take (length s)) (tail_drop t ∙ e) ∙ take-append_seam s r)

  -- a line before others
  one_more : (bs s r : List ℕ) (v k : ℕ) {l l' : List Binding} {w w' : List ℕ} → Tail text bs → bs ≡ s ++ r → Lines k l w → got (record { called = record { at = length text - length bs; spelled = s }; value = v } ∷ l) w ≡ got l' w' → Lines (suc k) l' w'
  one_more bs s r v k {l} {l'} {w} {w'} t e i q =
      record {
        stand = subst (λ (l : List Binding). Every (NameStands text) l) lines (stands_here bs s r t e, i.stand);
        tail = subst (λ (w : List ℕ). Tail text w) (let f : w ≡ w' = cc in f) i.tail;
        long = sym (ap length lines) ∙ ap suc i.long;
      }
    where
      lines : record { called = record { at = length text - length bs; spelled = s }; value = v } ∷ l ≡ l'
      lines = cc

  lines_got : (most k : ℕ) (seen : List (List ℕ)) (bs : List ℕ) {l : List Binding} {w : List ℕ} → Tail text bs → lines (length text) most k seen bs ≡ got l w → Lines k l w
  unfolding lines
  lines_got most zero seen bs {l} {w} t e = subst (λ (l : List Binding). Lines zero l w) (let q : [] ≡ l = cc in q) (record { stand = tt; tail = subst (λ (w : List ℕ). Tail text w) (let q : bs ≡ w = cc in q) t; long = refl })
  lines_got most (suc k) seen bs t e =
      let a = after_got (fresh_name seen bs) _ e in
      let b = byte_got 32 a.rest _ a.goes in
      let c = after_got (number_up_to most b.rest) _ b.goes in
      let d = byte_got 10 c.rest _ c.goes in
      let f = after_got (lines (length text) most k (a.what ∷ seen) d.rest) _ d.goes in
      let s = fresh_got seen bs a.is in
      one_more bs a.what a.rest c.what k {l = f.what} {w = f.rest} t s (lines_got most k (a.what ∷ seen) d.rest (tail_more t (tail_more (record { front = a.what; is = s }) (tail_more b.tail (tail_more (number_got most b.rest c.is) d.tail)))) f.is) f.goes

  record Section (l : List Binding) (w : List ℕ) : Type 0 where
    stand : Every (NameStands text) l
    tail : Tail text w
    few : length l ≤ limits.lines

  section_got : (most : ℕ) (bs : List ℕ) {l : List Binding} {w : List ℕ} → Tail text bs → section (length text) most bs ≡ got l w → Section l w
  unfolding section
  section_got most bs t e =
      let a = after_got (number_up_to limits.lines bs) _ e in
      let b = byte_got 10 a.rest _ a.goes in
      let i = lines_got most a.what [] b.rest (tail_more t (tail_more (number_got limits.lines bs a.is) b.tail)) b.goes in
      record { stand = i.stand; tail = i.tail; few = let k = number_small limits.lines bs (omega arith) a.is in let j = i.long in omega arith }

  pub record Both (b : Bindings) : Type 0 where
    pub widths : Every (NameStands text) b.widths
    pub values : Every (NameStands text) b.values
    pub few_widths : length b.widths ≤ limits.lines
    pub few_values : length b.values ≤ limits.lines

  sections_got : {b : Bindings} {w : List ℕ} → sections text ≡ got b w → Both b
  unfolding sections
  sections_got {b} {w} e =
      let x = after_got (section (length text) limits.width text) _ e in
      let i = section_got limits.width text (tail_here refl) x.is in
      let y = after_got (section (length text) limits.typeNumber x.rest) _ x.goes in
      let j = section_got limits.typeNumber x.rest i.tail y.is in
      subst (λ (b : Bindings). Both b) (same_as x.what y.what y.rest y.goes) (record { widths = i.stand; values = j.stand; few_widths = i.few; few_values = j.few })
    where
      same_as : (ws vs : List Binding) (r : List ℕ) → ◌≡◌ {A = Got Bindings} (elim r [ [] ↦ got (record { widths = ws; values = vs }) [] | c ∷ y ↦ lost (c ∷ y) ]) (got b w) → record { widths = ws; values = vs } ≡ b
      same_as ws vs [] q = cc
      same_as ws vs (c ∷ y) q = absurd (let z : ◌≡◌ {A = ℕ} 0 1 = cc in omega arith)

  pub bound_names_law : {b : Bindings} → bindings_of text ≡ bound b → Both b
  unfolding bindings_of
  bound_names_law {b} e = go (sections text) refl e
    where
      go : (g : Got Bindings) → sections text ≡ g → ◌≡◌ {A = Bound} (elim g [ got b r ↦ bound b | lost r ↦ wrong_at (length text - length r) ]) (bound b) → Both b
      go (got c r) q f = sections_got (q ∙ ap (λ (b : Bindings). got b r) (let z : c ≡ b = cc in z))
      go (lost r) q f = absurd (let z : ◌≡◌ {A = ℕ} 0 1 = cc in omega arith)
