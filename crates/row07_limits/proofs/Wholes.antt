-- Going back over the items of a type or an expression finds its words and the place of the first one. Assumes nothing.
use mathlib.Core.Path.{◌≡◌, refl, ap, ap₂, ◌∙◌}
use mathlib.Core.Bool.{Bool, true, false}
use mathlib.Core.List.{List, [], ◌∷◌}
use Prim.Native.Nat.{ℕ, suc, ◌+◌, ◌-◌}
use native.Mathlib.Omega.{arith}
use borrow.Author.Tests.{ne_eqb}
use Rattle.language.specs.Tree.{Ty, number, environment, port, plus, minus, log, ceil, floor, most, entry, within, Breadth, bits, Amount, given, value}
use Rattle.language.specs.Tree.{Expr, plain, sized, copies, read, cell, bit, range, inside, joined, beside, unary, binary, choice, either, select, arm, default}
use Rattle.language.specs.Words.{bytes}
use Rattle.language.specs.Parts.{type_start, breadth_start, start}
use Rattle.language.specs.Counts.{type_words, breadth_words, amount_words, expr_words}
use Rattle.tape.specs.Tape.{NUMBER, ENVIRONMENT, PORT, PLUS, MINUS, LOG, CEIL, FLOOR, MOST, ENTRY, WITHIN, BITS, TYPED, GIVEN, VALUE, PLAIN, COPIES, READ, CELL, BIT, RANGE, INSIDE, JOINED, BESIDE, UNARY, BINARY, CHOICE, EITHER, SELECT, SELECTED, ARM, DEFAULT, SIZE, unary_number, binary_number}
use Rattle.std.specs.Prelude.{Some, None}
use Rattle.std.specs.Option.{unwrap_or}
use Rattle.std.proofs.Math.Bool.{false-and, and-false}
use Rattle.words.specs.Found.{Place}
use Rattle.part_lengths.specs.declared.Part.{Part}
use Rattle.part_lengths.specs.Parts.{Triple, holds_table, own_table, leads_table, holds_of, own_of, leads_of, lead_in, over_of, one, back, rest}

-- ---- the items of a part, before others

abbrev pub it : ℕ → ℕ → ℕ → List Triple → List Triple
it o p v l = record { op = o; place = p; value = v } ∷ l

unfoldable pub onto_t : Ty → List Triple → List Triple
onto_t (number n) l = it NUMBER n.at n.value l
onto_t (environment n) l = it ENVIRONMENT n.at 0 l
onto_t (port n) l = it PORT n.at 0 l
onto_t (plus a b) l = it PLUS 0 0 (onto_t b (onto_t a l))
onto_t (minus a b) l = it MINUS 0 0 (onto_t b (onto_t a l))
onto_t (log p a) l = it LOG p 0 (onto_t a l)
onto_t (ceil p a) l = it CEIL p 0 (onto_t a l)
onto_t (floor p a) l = it FLOOR p 0 (onto_t a l)
onto_t (most p a) l = it MOST p 0 (onto_t a l)
onto_t (entry a b) l = it ENTRY 0 0 (onto_t b (onto_t a l))
onto_t (within p a) l = it WITHIN p 0 (onto_t a l)

unfoldable pub onto_b : Breadth → List Triple → List Triple
onto_b (bits n) l = it BITS n.at n.value l
onto_b (Breadth.typed p t) l = it TYPED p 0 (onto_t t l)

unfoldable pub onto_a : Amount → List Triple → List Triple
onto_a (given n) l = it GIVEN n.at 0 l
onto_a (value n) l = it VALUE n.at 0 l

unfoldable pub onto : Expr → List Triple → List Triple
onto (plain n) l = it PLAIN n.at n.value l
onto (sized w v) l = onto_a v (onto_b w l)
onto (copies n e) l = it COPIES n.at n.value (onto e l)
onto (read n) l = it READ n.at 0 l
onto (cell n a) l = it CELL n.at 0 (onto a l)
onto (bit e p i) l = it BIT p 0 (onto_t i (onto e l))
onto (range e p i j) l = it RANGE p 0 (onto_t j (onto_t i (onto e l)))
onto (inside p e) l = it INSIDE p 0 (onto e l)
onto (joined p e) l = it JOINED p 0 (onto e l)
onto (beside a b) l = it BESIDE 0 0 (onto b (onto a l))
onto (unary u e) l = it UNARY u.at (unary_number u.which) (onto e l)
onto (binary o a b) l = it BINARY 0 (binary_number o) (onto b (onto a l))
onto (choice a b c) l = it CHOICE 0 0 (onto c (onto b (onto a l)))
onto (either p a b c) l = it EITHER p 0 (onto c (onto b (onto a l)))
onto (select p e c) l = it SELECTED p 0 (onto c (it SELECT p 0 (onto e l)))
onto (arm n a c) l = it ARM n.at n.value (onto c (onto a l))
onto (default p a) l = it DEFAULT p 0 (onto a l)

-- ---- back over some items

abbrev pub st : (wanted words : ℕ) → Place → Part
st k w q = record { wanted = k; words = w; start = q }

pub record Passes (s : Part) (l : List Triple) (s' : Part) (l' : List Triple) : Type 0 where
  pub on : back s l ≡ back s' l'
  pub off : rest s l ≡ rest s' l'

goes : {s s' s'' : Part} {l l' l'' : List Triple} → Passes s l s' l' → Passes s' l' s'' l'' → Passes s l s'' l''
goes p q = record { on = p.on ∙ q.on; off = p.off ∙ q.off }

-- the same in other numbers
counted : {s : Part} {l l' : List Triple} {k k' w w' : ℕ} {q : Place} → k ≡ k' → w ≡ w' → Passes s l (st k w q) l' → Passes s l (st k' w' q) l'
counted {l' = l'} {q = q} d e r = record { on = r.on ∙ ap₂ (λ (k w : ℕ). back (st k w q) l') d e; off = r.off ∙ ap₂ (λ (k w : ℕ). rest (st k w q) l') d e }

-- no first word is met: it is found, or more than one part is wanted
pub data Quiet : ℕ → Place → Type 0 where
  found : {k p : ℕ} → Quiet k (Some p)
  deep : {k : ℕ} {q : Place} → Quiet (suc k) q

lead_deep : (p : Part) (o : ℕ) → (p.wanted ≡ 1 → ⊥) → lead_in p o ≡ false
unfolding lead_in
lead_deep p o n = simp (lead_in, ne_eqb p.wanted 1 n, false-and, and-false)

quiet : {k : ℕ} {q : Place} → Quiet k q → (w o : ℕ) → lead_in (st (suc k) w q) o ≡ false
unfolding lead_in
quiet found w o = refl
quiet (deep {k = k} {q = q}) w o = lead_deep (st (suc (suc k)) w q) o (λ e. omega arith)

module _ (p : Part) (n : p.wanted ≡ 0 → ⊥) (x : Triple) (l : List Triple) where
  back_more : back p (x ∷ l) ≡ back (over_of p x.op x.place) l
  unfolding back
  back_more = simp (back, ne_eqb _ _ n)

  rest_more : rest p (x ∷ l) ≡ rest (over_of p x.op x.place) l
  unfolding rest
  rest_more = simp (rest, ne_eqb _ _ n)

module _ (o r v : ℕ) where
  abbrev over_by : ℕ → ℕ → Place → Bool → Part
  over_by k w q b = st (k + holds_of o) (w + own_of o) (elim b as (λ (x : Bool). Place) [ true ↦ Some r | false ↦ q ])

  item_step : (k w : ℕ) (q : Place) (b : Bool) (l : List Triple) → lead_in (st (suc k) w q) o ≡ b → Passes (st (suc k) w q) (it o r v l) (over_by (suc k - 1) w q b) l
  unfolding over_of
  item_step k w q b l e = record { on = back_more (st (suc k) w q) (λ d. omega arith) _ l ∙ ap (λ (s : Part). back s l) over; off = rest_more (st (suc k) w q) (λ d. omega arith) _ l ∙ ap (λ (s : Part). rest s l) over }
    where
      over : over_of (st (suc k) w q) o r ≡ over_by (suc k - 1) w q b
      over = ap (over_by (suc k - 1) w q) e

  module _ {h m : ℕ} (e : holds_of o ≡ h) (g : own_of o ≡ m) where
    item_quiet : {k : ℕ} {q : Place} (n w : ℕ) (l : List Triple) → Quiet k q → k + h ≡ n → Passes (st (suc k) w q) (it o r v l) (st n (w + m) q) l
    item_quiet {k} {q} n w l z d = counted (omega arith) (omega arith) (item_step k w q false l (quiet z w o))

    item_leads : leads_of o ≡ true → (w : ℕ) (l : List Triple) → Passes (st 1 w None) (it o r v l) (st h (w + m) (Some r)) l
    unfolding lead_in
    item_leads b w l = counted (omega arith) (omega arith) (item_step 0 w None true l b)

    item_follows : leads_of o ≡ false → (w : ℕ) (l : List Triple) → Passes (st 1 w None) (it o r v l) (st h (w + m) None) l
    unfolding lead_in
    item_follows b w l = counted (omega arith) (omega arith) (item_step 0 w None false l b)

-- going back over a part of n words whose first word is at p
pub record Whole (on : List Triple → List Triple) (p n : ℕ) : Type 0 where
  pub later : {k : ℕ} {q : Place} (w : ℕ) (l : List Triple) → Quiet k q → Passes (st (suc k) w q) (on l) (st k (w + n) q) l
  pub near : (w : ℕ) (l : List Triple) → Passes (st 1 w None) (on l) (st 0 (w + n) (Some p)) l

-- ---- an item over the parts that it holds

module _ (o r v : ℕ) {m : ℕ} (g : own_of o ≡ m) where
  none : holds_of o ≡ 0 → leads_of o ≡ true → {n : ℕ} → m ≡ n → Whole (it o r v) r n
  none e b d = record { later = λ w l z. counted (omega arith) (omega arith) (item_quiet o r v e g _ w l z refl); near = λ w l. counted refl (omega arith) (item_leads o r v e g b w l) }

  module _ (e : holds_of o ≡ 1) {on : List Triple → List Triple} {p a : ℕ} (x : Whole on p a) {n : ℕ} (d : m + a ≡ n) where
    one_later : {k : ℕ} {q : Place} (w : ℕ) (l : List Triple) → Quiet k q → Passes (st (suc k) w q) (it o r v (on l)) (st k (w + n) q) l
    one_later {k} w l z = goes (item_quiet o r v e g (suc k) w (on l) z (omega arith)) (counted refl (omega arith) (x.later (w + m) l z))

    leads_one : leads_of o ≡ true → Whole (λ l. it o r v (on l)) r n
    leads_one b = record { later = one_later; near = λ w l. goes (item_leads o r v e g b w (on l)) (counted refl (omega arith) (x.later (w + m) l found)) }

    follows_one : leads_of o ≡ false → Whole (λ l. it o r v (on l)) p n
    follows_one b = record { later = one_later; near = λ w l. goes (item_follows o r v e g b w (on l)) (counted refl (omega arith) (x.near (w + m) l)) }

  module _ (e : holds_of o ≡ 2) {on on' : List Triple → List Triple} {p a p' a' : ℕ} (x : Whole on p a) (y : Whole on' p' a') {n : ℕ} (d : m + a' + a ≡ n) where
    two_later : {k : ℕ} {q : Place} (w : ℕ) (l : List Triple) → Quiet k q → Passes (st (suc k) w q) (it o r v (on' (on l))) (st k (w + n) q) l
    two_later {k} w l z = goes (item_quiet o r v e g (suc (suc k)) w _ z (omega arith)) (goes (y.later (w + m) (on l) deep) (counted refl (omega arith) (x.later (w + m + a') l z)))

    leads_two : leads_of o ≡ true → Whole (λ l. it o r v (on' (on l))) r n
    leads_two b = record { later = two_later; near = λ w l. goes (item_leads o r v e g b w _) (goes (y.later (w + m) (on l) found) (counted refl (omega arith) (x.later (w + m + a') l found))) }

    follows_two : leads_of o ≡ false → Whole (λ l. it o r v (on' (on l))) p n
    follows_two b = record { later = two_later; near = λ w l. goes (item_follows o r v e g b w _) (goes (y.later (w + m) (on l) deep) (counted refl (omega arith) (x.near (w + m + a') l))) }

  module _ (e : holds_of o ≡ 3) {on on' on'' : List Triple → List Triple} {p a p' a' p'' a'' : ℕ} (x : Whole on p a) (y : Whole on' p' a') (z : Whole on'' p'' a'') {n : ℕ} (d : m + a'' + a' + a ≡ n) where
    three_later : {k : ℕ} {q : Place} (w : ℕ) (l : List Triple) → Quiet k q → Passes (st (suc k) w q) (it o r v (on'' (on' (on l)))) (st k (w + n) q) l
    three_later {k} w l u =
        goes (item_quiet o r v e g (suc (suc (suc k))) w _ u (omega arith)) (goes (z.later (w + m) _ deep) (goes (y.later (w + m + a'') (on l) deep) (counted refl (omega arith) (x.later (w + m + a'' + a') l u))))

    leads_three : leads_of o ≡ true → Whole (λ l. it o r v (on'' (on' (on l)))) r n
    leads_three b =
        record { later = three_later; near = λ w l. goes (item_leads o r v e g b w _) (goes (z.later (w + m) _ found) (goes (y.later (w + m + a'') (on l) found) (counted refl (omega arith) (x.later (w + m + a'' + a') l found)))) }

    follows_three : leads_of o ≡ false → Whole (λ l. it o r v (on'' (on' (on l)))) p n
    follows_three b =
        record { later = three_later; near = λ w l. goes (item_follows o r v e g b w _) (goes (z.later (w + m) _ deep) (goes (y.later (w + m + a'') (on l) deep) (counted refl (omega arith) (x.near (w + m + a'' + a') l)))) }

-- ---- types and expressions

pub type_whole : (t : Ty) → Whole (onto_t t) (type_start t) (type_words t)
unfolding onto_t type_start type_words holds_of own_of leads_of holds_table own_table leads_table bytes
type_whole (number n) = none NUMBER _ _ refl refl refl refl
type_whole (environment n) = none ENVIRONMENT _ _ refl refl refl refl
type_whole (port n) = none PORT _ _ refl refl refl refl
type_whole (plus a b) = follows_two PLUS _ _ refl refl (type_whole a) (type_whole b) (omega arith) refl
type_whole (minus a b) = follows_two MINUS _ _ refl refl (type_whole a) (type_whole b) (omega arith) refl
type_whole (log p a) = leads_one LOG _ _ refl refl (type_whole a) refl refl
type_whole (ceil p a) = leads_one CEIL _ _ refl refl (type_whole a) refl refl
type_whole (floor p a) = leads_one FLOOR _ _ refl refl (type_whole a) refl refl
type_whole (most p a) = leads_one MOST _ _ refl refl (type_whole a) refl refl
type_whole (entry a b) = follows_two ENTRY _ _ refl refl (type_whole a) (type_whole b) (omega arith) refl
type_whole (within p a) = leads_one WITHIN _ _ refl refl (type_whole a) refl refl

breadth_whole : (w : Breadth) → Whole (onto_b w) (breadth_start w) (breadth_words w)
unfolding onto_b breadth_start breadth_words holds_of own_of leads_of holds_table own_table leads_table bytes
breadth_whole (bits n) = none BITS _ _ refl refl refl refl
breadth_whole (Breadth.typed p t) = leads_one TYPED _ _ refl refl (type_whole t) refl refl

sized_whole : (w : Breadth) (v : Amount) → Whole (λ l. onto_a v (onto_b w l)) (breadth_start w) (breadth_words w + amount_words v)
unfolding onto_a amount_words holds_of own_of leads_of holds_table own_table leads_table bytes
sized_whole w (given n) = follows_one GIVEN _ _ refl refl (breadth_whole w) (omega arith) refl
sized_whole w (value n) = follows_one VALUE _ _ refl refl (breadth_whole w) (omega arith) refl

pub expr_whole : (e : Expr) → Whole (onto e) (start e) (expr_words e)
unfolding onto start expr_words holds_of own_of leads_of holds_table own_table leads_table bytes
expr_whole (plain n) = none PLAIN _ _ refl refl refl refl
expr_whole (sized w v) = sized_whole w v
expr_whole (copies n e) = leads_one COPIES _ _ refl refl (expr_whole e) refl refl
expr_whole (read n) = none READ _ _ refl refl refl refl
expr_whole (cell n a) = leads_one CELL _ _ refl refl (expr_whole a) refl refl
expr_whole (bit e p i) = follows_two BIT _ _ refl refl (expr_whole e) (type_whole i) (omega arith) refl
expr_whole (range e p i j) = follows_three RANGE _ _ refl refl (expr_whole e) (type_whole i) (type_whole j) (omega arith) refl
expr_whole (inside p e) = leads_one INSIDE _ _ refl refl (expr_whole e) refl refl
expr_whole (joined p e) = leads_one JOINED _ _ refl refl (expr_whole e) refl refl
expr_whole (beside a b) = follows_two BESIDE _ _ refl refl (expr_whole a) (expr_whole b) (omega arith) refl
expr_whole (unary u e) = leads_one UNARY _ _ refl refl (expr_whole e) refl refl
expr_whole (binary o a b) = follows_two BINARY _ _ refl refl (expr_whole a) (expr_whole b) (omega arith) refl
expr_whole (choice a b c) = follows_three CHOICE _ _ refl refl (expr_whole a) (expr_whole b) (expr_whole c) (omega arith) refl
expr_whole (either p a b c) = leads_three EITHER _ _ refl refl (expr_whole a) (expr_whole b) (expr_whole c) (omega arith) refl
expr_whole (select p e c) = leads_two SELECTED _ _ refl refl (leads_one SELECT _ _ refl refl (expr_whole e) {n = 2 + expr_words e} refl refl) (expr_whole c) (omega arith) refl
expr_whole (arm n a c) = leads_two ARM _ _ refl refl (expr_whole a) (expr_whole c) (omega arith) refl
expr_whole (default p a) = leads_one DEFAULT _ _ refl refl (expr_whole a) refl refl

-- a size stands over a memory's type
pub size_whole : (p v : ℕ) {on : List Triple → List Triple} {q n : ℕ} → Whole on q n → Whole (λ l. it SIZE p v (on l)) q n
unfolding holds_of own_of leads_of holds_table own_table leads_table bytes
size_whole p v x = follows_one SIZE _ _ refl refl x (omega arith) refl

-- ---- the part before an item, and what stands before it

back_ends : (w p : ℕ) (l : List Triple) → back (st 0 w (Some p)) l ≡ st 0 w (Some p)
unfolding back
back_ends w p [] = refl
back_ends w p (x ∷ l) = refl

rest_ends : (w p : ℕ) (l : List Triple) → rest (st 0 w (Some p)) l ≡ l
unfolding rest
rest_ends w p [] = refl
rest_ends w p (x ∷ l) = refl

module _ {on : List Triple → List Triple} {p n : ℕ} (x : Whole on p n) (l : List Triple) where
  whole_back : back one (on l) ≡ st 0 (0 + n) (Some p)
  whole_back = (x.near 0 l).on ∙ back_ends (0 + n) p l

  pub whole_words : (back one (on l)).words ≡ n
  whole_words = ap (λ (s : Part). s.words) whole_back ∙ omega arith

  pub whole_start : unwrap_or (back one (on l)).start 0 ≡ p
  whole_start = ap (λ (s : Part). unwrap_or s.start 0) whole_back

  pub whole_rest : rest one (on l) ≡ l
  whole_rest = (x.near 0 l).off ∙ rest_ends (0 + n) p l
