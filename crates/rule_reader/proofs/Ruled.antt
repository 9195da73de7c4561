-- The laws of rules and groups: how their lists begin, and what each function of the reader of lists is at a word of each kind. Assumes nothing.
use mathlib.Core.Path.{◌≡◌, refl, sym, ap, ◌∙◌}
use mathlib.Core.Bool.{Bool, true, false}
use mathlib.Core.List.{List, [], ◌∷◌}
use mathlib.Core.Option.{Option, none, some}
use Prim.Native.Nat.{ℕ, zero, suc, ◌+◌, ◌≤◌}
use Prim.Native.String.{String}
use native.Mathlib.Omega.{arith}
use lib.ListN.{drop}
use borrow.Author.Tests.{eq-eqb, ne_eqb}
use Rattle.language.specs.Text.{Name}
use Rattle.language.specs.Words.{Word}
use Rattle.language.specs.Tree.{Val, Assignment, alone, scoped, Group}
use Rattle.language.specs.Reader.{Res, ok, bad, bind, on, is, is_name, expect, until, many_p, some_p, commas_p}
use Rattle.language.specs.Parser.{Start, opens, names, is_start, val_p, assignment_p, statement_p, entry_p, rule_p, group_p, constraint_p}
use Rattle.signs.specs.Kinds.{spelled_words}
use Rattle.words.specs.Table.{word_of}
use Rattle.tape.specs.Tape.{flats, flat_val, flat_assignment, flat_statement, flat_group}
use Rattle.readers.specs.Marks.{count, kind_at, place_at, name_at, Marked, fixed_of}
use Rattle.std.specs.Prelude.{Result, Ok, Err}
use Rattle.readers.specs.declared.Misfit.{Misfit}
use Rattle.readers.specs.Meets.{On, Went, Moved, Agrees, read, fault, Met, Out, came, Finds, Lacks, Expects}
use Rattle.rule_reader.specs.States.{IsAssignment, IsVal}
use Rattle.rule_reader.specs.Rules.{IsScoped}
use Rattle.rule_reader.specs.Tails.{written_p, body_p}
use Rattle.readers.proofs.Laws.{on_more}
use Rattle.readers.proofs.Spells.{Spells, one_or, is_as, is_miss, name_miss, on_is, off_is, expect_at, expect_bad, expect_found, expect_lacks, until_ok, until_missed, found_at}
use Rattle.readers.proofs.Fixed.{s_open, s_and, s_or, s_let, s_val}
use Rattle.readers.proofs.Lists.{on_none, Begins, Misses, IsItem, some_begins, some_misses}

-- ---- how items begin

abbrev one_let : ℕ → Bool → Option Start
one_let p b = elim b [ true ↦ some (opens p) | false ↦ none ]

start_miss : (text : List ℕ) (p l v k : ℕ) → (k ≡ 2 → ⊥) → (k ≡ 10 → ⊥) → is_start (word_of text k p l v) ≡ none
unfolding is_start word_of fixed_of
start_miss text p l v zero h g = refl
start_miss text p l v (suc zero) h g = refl
start_miss text p l v (suc (suc zero)) h g = absurd (h refl)
start_miss text p l v (suc (suc (suc zero))) h g = refl
start_miss text p l v (suc (suc (suc (suc k)))) h g = ap (one_let p) (s_let.is (suc (suc (suc (suc k)))) ∙ ne_eqb _ _ g)

module _ {w : List ℕ} {x : ℕ} where
  -- with a fixed word
  pub is_begins : {s : String} {j : ℕ} → Spells s j → kind_at w x ≡ j → Begins (is s) w x (λ text. place_at w x)
  is_begins {s} {j} sp e = record { kind = j; there = sp.kind; is = e; passes = λ text. is_as text _ _ _ s j j sp ∙ ap (λ (b : Bool). one_or b (place_at w x)) (eq-eqb j j refl) }

  pub is_misses : {s : String} {j : ℕ} → Spells s j → (kind_at w x ≡ j → ⊥) → Misses (is s) w x
  is_misses {s} {j} sp h = record { fails = λ text p l v. is_miss text p l v s j _ sp h }

  -- with a name
  pub name_begins : kind_at w x ≡ 2 → Begins is_name w x (λ text. name_at text w x)
  unfolding is_name word_of
  name_begins e = record { kind = 2; there = omega arith; is = e; passes = λ text. refl }

  pub name_misses : (kind_at w x ≡ 2 → ⊥) → Misses is_name w x
  name_misses h = record { fails = λ text p l v. name_miss text p l v _ h }

  -- a statement, with a name or `let`
  start_name : kind_at w x ≡ 2 → Begins is_start w x (λ text. names (name_at text w x))
  unfolding is_start word_of
  start_name e = record { kind = 2; there = omega arith; is = e; passes = λ text. refl }

  start_let : kind_at w x ≡ 10 → Begins is_start w x (λ text. opens (place_at w x))
  unfolding is_start word_of spelled_words
  start_let e = record { kind = 10; there = omega arith; is = e; passes = λ text. refl }

  pub start_misses : (kind_at w x ≡ 2 → ⊥) → (kind_at w x ≡ 10 → ⊥) → Misses is_start w x
  start_misses h g = record { fails = λ text p l v. start_miss text p l v _ h g }

-- ---- items of lists by their readers

-- the place of `val` is not on the tape
pub val_item : {w : List ℕ} (x : ℕ) {n : ℕ} {t t' : List ℕ} {o : Out} → IsVal w (x + 1) n t o t' → Met flat_val 0 (λ text ms ws f. val_p ms f (place_at w x) (drop (x + 1) ws)) w (x + 1) n t o t'
unfolding val_p
val_item x i = i

-- an assignment is a statement
alone_item : {w : List ℕ} (x : ℕ) {n : ℕ} {t t' : List ℕ} {o : Out} → IsAssignment w x n t o t'
    → Met flat_statement 0 (λ text ms ws f. statement_p ms f (names (name_at text w x)) (drop (x + 1) ws)) w (x + 1) n t o t'
unfolding statement_p flat_statement bind
alone_item x i = record { moved = i.moved; agrees = λ M f h. stated (i.agrees M f h) }
  where
    stated : {ws : List Word} {n : ℕ} {t t' : List ℕ} {u : Res Assignment} {o : Out} → Agrees flat_assignment ws n t u o t' → Agrees flat_statement ws n t (bind u (λ a x. ok (alone a) x)) o t'
    stated (read on) = read on
    stated fault = fault

-- a statement by its first word
pub record IsStatement (w : List ℕ) (x n : ℕ) (t : List ℕ) (o : Out) (t' : List ℕ) : Type 0 where
  pub start : List ℕ → Start
  pub begins : Begins is_start w x start
  pub item : IsItem flat_statement is_start (λ ms f a r. statement_p ms f a r) w start x n t o t'

module _ {w : List ℕ} {x n : ℕ} {t t' : List ℕ} {o : Out} where
  pub name_statement : kind_at w x ≡ 2 → IsAssignment w x n t o t' → IsStatement w x n t o t'
  name_statement e i = record { start = λ text. names (name_at text w x); begins = start_name e; item = alone_item x i }

  pub let_statement : kind_at w x ≡ 10 → IsScoped w x n t o t' → IsStatement w x n t o t'
  let_statement e i = record { start = λ text. opens (place_at w x); begins = start_let e; item = i }

-- a group is a list
pub one_group : {ws : List Word} {n : ℕ} {t t' : List ℕ} {u : Res Group} {o : Out} → Agrees flat_group ws n t u o t' → Agrees (flats flat_group) ws n t (bind u (λ g x. ok (g ∷ []) x)) o t'
unfolding bind flats
one_group (read on) = read (on_more on on_none)
one_group fault = fault

-- a list of one or more, and then a fixed word
module _ {A T B : Type 0} {test : Word → Option A} {text : List ℕ} {ms : List (List ℕ)} {w : List ℕ} {ws : List Word} {x : ℕ} (M : Marked text ms w ws)
    (item : ℕ → A → List Word → Res T) (f : ℕ) (s : String) (g : List T → ℕ → List Word → Res B) where
  until_some : {a : List ℕ → A} → Begins test w x a → until (some_p test item f (drop x ws)) s g ≡ until (many_p test item (suc f) (drop x ws)) s g
  until_some b = ap (λ (u : Res (List T)). until u s g) (some_begins M item f b)

  until_none : {i : ℕ} → Misses test w x → i ≡ x → until (some_p test item f (drop x ws)) s g ≡ bad (drop i ws)
  unfolding until bind
  until_none b e = ap (λ (u : Res (List T)). until u s g) (some_misses M item f b) ∙ ap (λ (y : ℕ). bad (drop y ws)) (sym e)

-- ---- the grammar

pub rule_law : (ms : List (List ℕ)) (f : ℕ) (n : Name) (ws : List Word)
    → rule_p ms f n ws ≡ expect "(" ws (λ p r. until (commas_p (λ f l. entry_p f l) f r) ")" (λ es q x. expect "{" x (λ s y. body_p ms f n es y)))
unfolding rule_p body_p
rule_law ms f n ws = refl

module _ {text : List ℕ} {ms : List (List ℕ)} {w : List ℕ} {ws : List Word} (M : Marked text ms w ws) (f at : ℕ) where
  -- ---- `let`, the words after it from `at` on
  module _ (p : ℕ) where
    pub scoped_some : kind_at w at ≡ 11 → statement_p ms f (opens p) (drop at ws) ≡ until (many_p (is "val") (λ f p r. val_p ms f p r) (suc f) (drop at ws)) "in" (λ vs q x. written_p ms f vs x)
    unfolding statement_p written_p
    scoped_some e = until_some M _ f "in" _ (is_begins s_val e)

    pub scoped_none : {i : ℕ} → Lacks w at 11 i → statement_p ms f (opens p) (drop at ws) ≡ bad (drop i ws)
    unfolding statement_p
    scoped_none h = until_none M _ f "in" _ (is_misses s_val h.kind) h.stays

  module _ (vs : List Val) where
    pub written_some : kind_at w at ≡ 2 → written_p ms f vs (drop at ws) ≡ until (many_p is_name (λ f n r. assignment_p ms f n r) (suc f) (drop at ws)) "end" (λ l s y. ok (scoped vs l) y)
    unfolding written_p
    written_some e = until_some M _ f "end" _ (name_begins e)

    pub written_none : {i : ℕ} → Lacks w at 2 i → written_p ms f vs (drop at ws) ≡ bad (drop i ws)
    unfolding written_p
    written_none h = until_none M _ f "end" _ (name_misses h.kind) h.stays

  -- ---- a group, whose `or` stands at `at`
  module _ (p : ℕ) where
    pub group_open : {i : ℕ} → Lacks w (at + 1) 36 i → group_p ms f p (drop (at + 1) ws) ≡ bad (drop i ws)
    unfolding group_p
    group_open h = expect_lacks M s_open _ h

    module _ {x : ℕ} (e : Finds w (at + 1) 36 x) where
      pub group_some : kind_at w x ≡ 2 → group_p ms f p (drop (at + 1) ws) ≡ until (many_p is_name (λ f n r. rule_p ms f n r) (suc f) (drop x ws)) ")" (λ l s x. ok (record { at = p; rules = l }) x)
      unfolding group_p
      group_some q = expect_found M s_open _ e ∙ until_some M _ f ")" _ (name_begins q)

      pub group_none : {i : ℕ} → Lacks w x 2 i → group_p ms f p (drop (at + 1) ws) ≡ bad (drop i ws)
      unfolding group_p
      group_none h = expect_found M s_open _ e ∙ until_none M _ f ")" _ (name_misses h.kind) h.stays

  -- ---- the constraint
  pub constraint_or : kind_at w at ≡ 9 → constraint_p ms f (drop at ws) ≡ bind (group_p ms f (place_at w at) (drop (at + 1) ws)) (λ g x. ok (g ∷ []) x)
  unfolding constraint_p
  constraint_or e = on_is M "or" 9 at s_or _ _ e

  pub constraint_none : (kind_at w at ≡ 8 → ⊥) → (kind_at w at ≡ 9 → ⊥) → constraint_p ms f (drop at ws) ≡ bad (drop at ws)
  unfolding constraint_p
  constraint_none h g = off_is M "or" 9 at s_or _ _ g ∙ expect_bad M "and" 8 at s_and _ h

  -- after `and`
  module _ (e : kind_at w at ≡ 8) where
    constraint_and : constraint_p ms f (drop at ws) ≡ expect "(" (drop (at + 1) ws) (λ q x. until (some_p (is "or") (λ f p r. group_p ms f p r) f x) ")" (λ l s y. ok l y))
    unfolding constraint_p
    constraint_and = off_is M "or" 9 at s_or _ _ (other e) ∙ expect_at M "and" 8 at s_and (at + 1) _ e refl
      where
        other : {k : ℕ} → k ≡ 8 → k ≡ 9 → ⊥
        other p q = omega arith

    pub and_open : {i : ℕ} → Lacks w (at + 1) 36 i → constraint_p ms f (drop at ws) ≡ bad (drop i ws)
    and_open h = constraint_and ∙ expect_lacks M s_open _ h

    module _ {x : ℕ} (q : Finds w (at + 1) 36 x) where
      pub and_some : kind_at w x ≡ 9 → constraint_p ms f (drop at ws) ≡ until (many_p (is "or") (λ f p r. group_p ms f p r) (suc f) (drop x ws)) ")" (λ l s y. ok l y)
      and_some h = constraint_and ∙ expect_found M s_open _ q ∙ until_some M _ f ")" _ (is_begins s_or h)

      pub and_none : {i : ℕ} → Lacks w x 9 i → constraint_p ms f (drop at ws) ≡ bad (drop i ws)
      and_none h = constraint_and ∙ expect_found M s_open _ q ∙ until_none M _ f ")" _ (is_misses s_or h.kind) h.stays

-- ---- a reader that ends with `expect`, and answers what it answers

pub moved_shut : (w : List ℕ) {at n x m kw : ℕ} (r : Result ℕ Misfit) → 1 ≤ kw → Went (count w) at n x m → Expects w x kw r → Moved (count w) at n (came r m)
moved_shut w (Ok y) h v f = omega (arith, v, f, found_at h f)
moved_shut w (Err e) h v f = omega (arith, v, f)

module _ {text : List ℕ} {ms : List (List ℕ)} {w : List ℕ} {ws : List Word} (M : Marked text ms w ws) {s : String} {j : ℕ} (sp : Spells s j) {A B : Type 0} {fl : A → List ℕ} {fl' : B → List ℕ}
    (u : Res A) (g : A → ℕ → List Word → Res B) {n b : ℕ} {t t₁ s₀ t' : List ℕ} where
  pub until_shut : {x m q : ℕ} (r : Result ℕ Misfit) → Agrees fl ws n t u (Ok (x, m)) t₁ → Expects w x j r
      → ((y : ℕ) (e : A) (p : ℕ) → On t n (fl e) m t₁ → Agrees fl' ws b s₀ (g e p (drop y ws)) (Ok (y, q)) t') → Agrees fl' ws b s₀ (until u s g) (came r q) t'
  until_shut (Ok y) a f k = until_ok M sp u g a f (k y)
  until_shut (Err e) a f k = until_missed M sp u g a f
