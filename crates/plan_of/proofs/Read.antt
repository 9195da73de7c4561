-- What reading gives: an actor that is read as accepted is accepted, its words are few and its numbers small.
use Prim.Native.Nat.{ℕ, zero, suc, ◌+◌, ◌≤◌, min}
use mathlib.Core.Path.{◌≡◌, refl, subst}
use mathlib.Core.List.{List, [], ◌∷◌}
use mathlib.Core.Bool.{Bool, true, false, ◌&&◌}
use mathlib.Core.Option.{Option, none, some}
use native.Mathlib.Omega.{arith}
use lib.ListN.{length, drop}
use lib.Dec.{leb, eqb}
use borrow.Author.Tests.{leb-true}
use Rattle.language.specs.Text.{earliest}
use Rattle.language.specs.Limits.{limits}
use Rattle.language.specs.Words.{Word, num, digits, fixed, Next, over, apart, word, wrong, Lexed, words, bad_at, words_from, words_of, push, next, number_next, name_next, quote_next, sign_next, left_out, span, digit, gap, name_byte, begins, bytes, own_name, first_of_law, digit_in, base_of, named_next, value_in_base, signs}
use Rattle.language.specs.Tree.{Actor}
use Rattle.language.specs.Reader.{tree, fault, tired}
use Rattle.language.specs.Parser.{parse}
use Rattle.language.specs.Parts.{each, actor_items, types}
use Rattle.language.specs.Names.{name_faults}
use Rattle.language.specs.Counts.{limit_faults}
use Rattle.language.specs.Types.{type_faults}
use Rattle.language.specs.Bindings.{Bindings, bindings_of, bound, wrong_at}
use Rattle.language.specs.Widths.{strangers, unsettled}
use Rattle.language.specs.Sizes.{Setting, size_faults}
use Rattle.language.specs.Presence.{presence_faults}
use Rattle.language.specs.Reading.{Answer, refused, accepted, Early, stopped, through, row, judged, parsed, worded, early, late, Reads, reads_early, reads_late}
use Rattle.language.specs.declared.Text.{Text}
use Rattle.language.specs.declared.Text.TheVariants.{Actor as InActor, Bindings as InBindings}
use Rattle.placed.specs.Placed.{Every}
use Rattle.plan_of.specs.Accepted.{Accepted, NumberWord}

-- ## Rows

earliest_none : (l : List ℕ) → earliest l ≡ none → l ≡ []
unfolding earliest
earliest_none [] e = refl
earliest_none (p ∷ l) e = go (earliest l) e
  where
    go : (x : Option ℕ) → ◌≡◌ {A = Option ℕ} (elim x [ none ↦ some p | some q ↦ some (min p q) ]) none → p ∷ l ≡ []
    go none e = let z : ◌≡◌ {A = ℕ} 0 1 = cc in absurd (omega arith)
    go (some q) e = let z : ◌≡◌ {A = ℕ} 0 1 = cc in absurd (omega arith)

row_through : (n : ℕ) (t : Text) (l : List ℕ) (next : Early) (a : Actor) (b : Bindings) → row n t l next ≡ through a b → (l ≡ []) × (next ≡ through a b)
unfolding row
row_through n t l next a b e = go (earliest l) refl e
  where
    go : (x : Option ℕ) → earliest l ≡ x → ◌≡◌ {A = Early} (elim x [ some p ↦ stopped n t p | none ↦ next ]) (through a b) → (l ≡ []) × (next ≡ through a b)
    go none q e = (earliest_none l q, e)
    go (some p) q e = let z : ◌≡◌ {A = ℕ} 0 1 = cc in absurd (omega arith)

-- rows 1 to 9 passed: the text's words, its tree, and no faults
pub record EarlyPassed (text : List ℕ) (a : Actor) (b : Bindings) : Type 0 where
  pub words_of_law : List Word
  pub lexed : words_of text ≡ words words_of_law
  pub parses : parse words_of_law ≡ tree a
  pub brief : length text ≤ limits.actor
  pub names : name_faults a ≡ []
  pub limited : limit_faults words_of_law a ≡ []
  pub typed : each type_faults (types (actor_items a)) ≡ []
  pub known : strangers a b ≡ []
  pub settled : unsettled a b ≡ []

judged_through : (text : List ℕ) (ws : List Word) (x : Actor) (y : Bindings) (a : Actor) (b : Bindings) → words_of text ≡ words ws → parse ws ≡ tree x → length text ≤ limits.actor → judged ws x y ≡ through a b → EarlyPassed text a b
unfolding judged
judged_through text ws x y a b l t n e =
    let c = row_through 6 InActor (name_faults x) _ a b e in
    let d = row_through 7 InActor (limit_faults ws x) _ a b c.1 in
    let f = row_through 8 InActor (each type_faults (types (actor_items x))) _ a b d.1 in
    let g = row_through 9 InBindings (strangers x y) _ a b f.1 in
    let h = row_through 9 InActor (unsettled x y) _ a b g.1 in
    let k = h.1 in
    let p : x ≡ a = cc in
    let q : y ≡ b = cc in
    record {
      words_of_law = ws;
      lexed = l;
      parses = rw p at t;
      brief = n;
      names = rw p at c.0;
      limited = rw p at d.0;
      typed = rw p at f.0;
      known = rw (p, q) at g.0;
      settled = rw (p, q) at h.0;
    }

never : {A : Type 0} {n p : ℕ} {t : Text} {a : Actor} {b : Bindings} → stopped n t p ≡ through a b → A
never e = let z : ◌≡◌ {A = ℕ} 0 1 = cc in absurd (omega arith)

pub passed : (text bindings : List ℕ) (a : Actor) (b : Bindings) → early text bindings ≡ through a b → EarlyPassed text a b
unfolding early worded parsed
passed text bindings a b e = long (leb (length text) limits.actor) (leb (length bindings) limits.bindings) refl e
  where
    trees : (ws : List Word) (y : Bindings) (r : Rattle.language.specs.Reader.Verdict Actor) → words_of text ≡ words ws → length text ≤ limits.actor → parse ws ≡ r → ◌≡◌ {A = Early} (elim r [ tree x ↦ judged ws x y | fault i ↦ stopped 5 InActor (Rattle.language.specs.Reading.word_place (length text) ws i) | tired ↦ stopped 5 InActor 0 ]) (through a b) → EarlyPassed text a b
    trees ws y (tree x) l n q e = judged_through text ws x y a b l q n e
    trees ws y (fault i) l n q e = never e
    trees ws y tired l n q e = never e

    lex : (y : Bindings) (r : Lexed) → length text ≤ limits.actor → words_of text ≡ r → ◌≡◌ {A = Early} (elim r [ bad_at p ↦ stopped 3 InActor p | words ws ↦ row 4 InActor (left_out ws) (parsed (length text) ws y) ]) (through a b) → EarlyPassed text a b
    lex y (bad_at p) n q e = never e
    lex y (words ws) n q e = trees ws y (parse ws) q n refl (row_through 4 InActor (left_out ws) (parsed (length text) ws y) a b e).1

    bind : (r : Rattle.language.specs.Bindings.Bound) → length text ≤ limits.actor → ◌≡◌ {A = Early} (elim r [ wrong_at p ↦ stopped 2 InBindings p | bound y ↦ worded text y ]) (through a b) → EarlyPassed text a b
    bind (wrong_at p) n e = never e
    bind (bound y) n e = lex y (words_of text) n refl e

    long : (u v : Bool) → leb (length text) limits.actor ≡ u
        → ◌≡◌ {A = Early} (elim u [ false ↦ stopped 1 InActor limits.actor | true ↦ elim v [ false ↦ stopped 1 InBindings limits.bindings | true ↦ elim (bindings_of bindings) [ wrong_at p ↦ stopped 2 InBindings p | bound y ↦ worded text y ] ] ]) (through a b) → EarlyPassed text a b
    long false v q e = never e
    long true false q e = never e
    long true true q e = bind (bindings_of bindings) (leb-true (length text) limits.actor q) e

-- ## Rows 10 to 12

-- the texts were read so, with these words
pub record Read (text : List ℕ) (s : Setting) : Type 0 where
  pub passes : EarlyPassed text s.actor s.bindings
  pub is : Accepted passes.words_of_law s

pub reads_accepted : (text bindings : List ℕ) (x : Answer) (s : Setting) → Reads text bindings x → x ≡ accepted s → Read text s
unfolding late
reads_accepted text bindings x s (reads_early e) q = let z : ◌≡◌ {A = ℕ} 0 1 = cc in absurd (omega arith)
reads_accepted text bindings x s (reads_late {a = a} {b = b} none e r) q = let z : ◌≡◌ {A = ℕ} 0 1 = cc in absurd (omega arith)
reads_accepted text bindings x s (reads_late {a = a} {b = b} (some ws) e r) q = sizes (earliest (size_faults t)) refl q
  where
    t : Setting
    t = record { actor = a; bindings = b; widths = ws }

    done : t ≡ s → size_faults t ≡ [] → presence_faults a ≡ [] → Read text s
    done z u v = subst (Read text) z (let c = passed text bindings a b e in record {
      passes = c;
      is = record { names = c.names; limited = c.limited; typed = c.typed; known = c.known; settled = c.settled; least = r; sized = u; present = v };
    })

    presence : (x : Option ℕ) → size_faults t ≡ [] → earliest (presence_faults a) ≡ x → ◌≡◌ {A = Answer} (elim x [ some p ↦ refused 12 InActor p | none ↦ accepted t ]) (accepted s) → Read text s
    presence none u v q = done (cc) u (earliest_none (presence_faults a) v)
    presence (some p) u v q = let z : ◌≡◌ {A = ℕ} 0 1 = cc in absurd (omega arith)

    sizes : (x : Option ℕ) → earliest (size_faults t) ≡ x → ◌≡◌ {A = Answer} (elim x [ some p ↦ refused 11 InActor p | none ↦ elim (earliest (presence_faults a)) [ some p ↦ refused 12 InActor p | none ↦ accepted t ] ]) (accepted s) → Read text s
    sizes none u q = presence (earliest (presence_faults a)) (earliest_none (size_faults t) u) refl q
    sizes (some p) u q = let z : ◌≡◌ {A = ℕ} 0 1 = cc in absurd (omega arith)

-- ## Words

abbrev NextSmall : Next → Type 0
NextSmall over = Unit {0}
NextSmall (apart n) = Unit {0}
NextSmall (word n w) = (p : ℕ) → NumberWord (w p)
NextSmall wrong = Unit {0}

number_small : (run : List ℕ) → NextSmall (number_next run)
unfolding number_next
number_small run = go (leb (value_in_base 10 0 run) limits.number) refl
  where
    go : (b : Bool) → leb (value_in_base 10 0 run) limits.number ≡ b
        → NextSmall (elim b [ true ↦ word (length run) (λ p. num (record { at = p; value = value_in_base 10 0 run; long = length run })) | false ↦ wrong ])
    go true e = λ p. leb-true (value_in_base 10 0 run) limits.number e
    go false e = tt

first_small : (l : List Prim.Native.String.String) (f : List ℕ → Bool) (n : ℕ) → NextSmall (elim (first_of_law l f) [ some s ↦ word n (fixed s) | none ↦ wrong ])
first_small l f n = go (first_of_law l f)
  where
    go : (x : Option Prim.Native.String.String) → NextSmall (elim x [ some s ↦ word n (fixed s) | none ↦ wrong ])
    go (some s) = λ p. tt
    go none = tt

name_small : (run : List ℕ) → NextSmall (name_next run)
unfolding name_next
name_small run = go (own_name run) refl
  where
    go : (b : Bool) → own_name run ≡ b → NextSmall (name_next run)
    go true e = rw (name_next, e) (λ p. tt)
    go false e = rw (name_next, e) (first_small _ _ (length run))

quote_small : (bs : List ℕ) → NextSmall (quote_next bs)
unfolding quote_next
quote_small [] = tt
quote_small (b ∷ r) = go (span (digit_in (base_of b)) r) (eqb (base_of b) 10 && named_next r)
  where
    go : (l : List ℕ) (t : Bool)
        → NextSmall (elim l [ d ∷ ds ↦ word (3 + length ds) (λ p. digits (record { at = p; value = value_in_base (base_of b) 0 (d ∷ ds); long = 3 + length ds })) | [] ↦ elim t [ true ↦ word 2 (fixed "'d") | false ↦ wrong ] ])
    go (d ∷ ds) t = λ p. tt
    go [] true = λ p. tt
    go [] false = tt

sign_small : (bs : List ℕ) → NextSmall (sign_next bs)
unfolding sign_next
sign_small bs = go (first_of_law signs (λ s. begins s bs))
  where
    go : (x : Option Prim.Native.String.String) → NextSmall (elim x [ none ↦ wrong | some s ↦ word (length (bytes s)) (fixed (elim (Rattle.language.specs.Text.same (bytes s) (bytes "^~")) [ true ↦ "~^" | false ↦ s ])) ])
    go none = tt
    go (some s) = λ p. tt

next_small : (bs : List ℕ) → NextSmall (next bs)
unfolding next
next_small [] = tt
next_small (b ∷ r) = go (gap (b ∷ r)) (digit b) (name_byte b) (eqb b 39) (begins (bytes "/*") (b ∷ r))
  where
    go : (n : ℕ) (c d e f : Bool)
        → NextSmall (elim n [ suc n ↦ apart (suc n) | zero ↦ elim c [ true ↦ number_next (span digit (b ∷ r)) | false ↦ elim d [ true ↦ name_next (span name_byte (b ∷ r)) | false ↦ elim e [ true ↦ quote_next r | false ↦ elim f [ true ↦ wrong | false ↦ sign_next (b ∷ r) ] ] ] ] ])
    go (suc n) c d e f = tt
    go zero true d e f = number_small (span digit (b ∷ r))
    go zero false true e f = name_small (span name_byte (b ∷ r))
    go zero false false true f = quote_small r
    go zero false false false true = tt
    go zero false false false false = sign_small (b ∷ r)

pub words_known : (f p : ℕ) (bs : List ℕ) (ws : List Word) → words_from f p bs ≡ words ws → (length ws ≤ f) × Every NumberWord ws
unfolding words_from push
words_known zero p bs ws e = let z : ws ≡ [] = cc in rw z (omega arith, tt)
words_known (suc f) p bs ws e = go (next bs) (next_small bs) e (λ n vs q. words_known f (p + n) (drop n bs) vs q)
  where
    pushed : (w : Word) (r : Lexed) → NumberWord w → ◌≡◌ {A = Lexed} (push w r) (words ws) → ((vs : List Word) → r ≡ words vs → (length vs ≤ f) × Every NumberWord vs) → (length ws ≤ suc f) × Every NumberWord ws
    pushed w (words vs) h e k = let z : ws ≡ w ∷ vs = cc in let q = k vs refl in let l = q.0 in rw z (omega arith, (h, q.1))
    pushed w (bad_at x) h e k = let z : ◌≡◌ {A = ℕ} 0 1 = cc in absurd (omega arith)

    go : (x : Next) → NextSmall x
        → ◌≡◌ {A = Lexed} (elim x [ over ↦ words [] | apart n ↦ words_from f (p + n) (drop n bs) | word n w ↦ push (w p) (words_from f (p + n) (drop n bs)) | wrong ↦ bad_at p ]) (words ws)
        → ((n : ℕ) (vs : List Word) → words_from f (p + n) (drop n bs) ≡ words vs → (length vs ≤ f) × Every NumberWord vs) → (length ws ≤ suc f) × Every NumberWord ws
    go over s e k = let z : ws ≡ [] = cc in rw z (omega arith, tt)
    go (apart n) s e k = let q = k n ws e in let l = q.0 in (omega arith, q.1)
    go (word n w) s e k = pushed (w p) (words_from f (p + n) (drop n bs)) (s p) e (λ vs q. k n vs q)
    go wrong s e k = let z : ◌≡◌ {A = ℕ} 0 1 = cc in absurd (omega arith)

pub words_of_text : (text : List ℕ) (ws : List Word) → words_of text ≡ words ws → (length ws ≤ suc (length text)) × Every NumberWord ws
unfolding words_of
words_of_text text ws e = words_known (suc (length text)) 0 text ws e
