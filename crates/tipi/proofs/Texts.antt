-- Rows 1 to 5 as `read` meets them: what `bindings` and `syntax` answer is what document 01 says. Assumes nothing.
use mathlib.Core.Path.{◌≡◌, refl, sym, ap, ap₂, subst, ◌∙◌}
use mathlib.Core.Bool.{Bool, true, false, ◌&&◌}
use mathlib.Core.List.{List}
use mathlib.Core.Option.{Option, none, some}
use Prim.Native.Nat.{ℕ, ◌≤◌, ◌<◌}
use native.Mathlib.Omega.{arith}
use lib.Dec.{leb}
use borrow.Author.Tests.{le-leb, lt-leb}
use lib.ListN.{length, take}
use lib.Seq.{sets, sets-eq, length-sets, take_at}
use Rattle.language.specs.Text.{earliest}
use Rattle.language.specs.Limits.{limits}
use Rattle.language.specs.Words.{Word, Lexed, words_of, words, bad_at, left_out}
use Rattle.language.specs.Tree.{Actor}
use Rattle.language.specs.Reader.{Verdict, tree, fault, tired}
use Rattle.language.specs.Parser.{parse}
use Rattle.language.specs.Bindings.{Bindings, Bound, bindings_of, bound, wrong_at}
use Rattle.language.specs.Reading as Reading
use Rattle.language.specs.Reading.{Early, stopped, through, refused, Reads, reads_early, reads_late, row, word_place, judged, parsed, worded, early}
use Rattle.language.specs.declared.Text.{Text}
use Rattle.language.specs.declared.Text.TheVariants.{Actor as InActor, Bindings as InBindings}
use Rattle.tape.specs.Tape.{flat_actor}
use Rattle.syntax.specs.Read.{tree_said, words_said, said_of, tree_after, words_after, tape_after, Roomy}
use Rattle.language.specs.declared.Refusal.{Refusal}
use Rattle.syntax.specs.Read.{Said}
use Rattle.syntax.specs.Read.{refusal as said_refused}
use Rattle.bindings.specs.Table as Table
use Rattle.bindings.specs.declared.Fault.TheVariants.{Wrong, NoRoom}
use Rattle.std.specs.Prelude.{Ok, Err}
use Rattle.bindings.specs.declared.Lines.{Lines}
use Rattle.bindings.specs.declared.bound.Bound.{Bound as Given}
use Rattle.tape.specs.Row.{Tells}
use Rattle.row09_bindings.specs.Lines.{Binds}
use Rattle.row09_bindings.proofs.Tables.{Filled, read_fills}
use Rattle.tipi.specs.Told.{answer_of, table_after, Follows, stops, goes, After, Read}
use Rattle.early_rows.specs.Verdicts.{TextsHeld}
use Rattle.plan_answer.specs.Answered.{Answer}
use Rattle.plan_answer.specs.Answered.{Refused}

-- a refusal is met as it stands
pub refusal : (n : ℕ) (t : Text) (p : ℕ) {e : Early} (before : List ℕ) → e ≡ stopped n t p → After e (Refused n t p) before before
unfolding answer_of table_after
refusal n t p before q = subst (λ (x : Early). After x (Refused n t p) before before) (sym q) (record { what = refused n t p; follows = stops; told = record { answer = refl; table = refl } })

-- ---- rows 3 to 5

-- an actor's tape, where it stands on t'
pub record Taped (text t t' : List ℕ) (b : Bindings) (n : ℕ) (e : Early) : Type 0 where
  pub ws : List Word
  pub actor : Actor
  pub lexed : words_of text ≡ words ws
  pub parses : parse ws ≡ tree actor
  pub long : n ≡ length (flat_actor actor)
  pub holds : t' ≡ sets t 0 (flat_actor actor)
  pub whole : e ≡ judged ws actor b

-- what is said of a text, as rows 3 to 9
abbrev SaidAs : (text t t' : List ℕ) → Bindings → Said → Early → Type 0
SaidAs text t t' b (Err why) e = e ≡ stopped why.row why.text why.place
SaidAs text t t' b (Ok n) e = Taped text t t' b n e

module _ (text t : List ℕ) (b : Bindings) where
  tree_case : (ws : List Word) (v : Verdict Actor) → words_of text ≡ words ws → parse ws ≡ v
      → SaidAs text t (tree_after v t) b (tree_said (length text) ws v) (elim v [ tree a ↦ judged ws a b | fault i ↦ stopped 5 InActor (word_place (length text) ws i) | tired ↦ stopped 5 InActor 0 ])
  unfolding tree_said tree_after
  tree_case ws (tree a) l q = record { ws = ws; actor = a; lexed = l; parses = q; long = refl; holds = refl; whole = refl }
  tree_case ws (fault i) l q = refl
  tree_case ws tired l q = refl

  left_case : (ws : List Word) (o : Option ℕ) → words_of text ≡ words ws
      → SaidAs text t (elim o [ some p ↦ t | none ↦ tree_after (parse ws) t ]) b (elim o [ some p ↦ said_refused 4 p | none ↦ tree_said (length text) ws (parse ws) ]) (elim o [ some p ↦ stopped 4 InActor p | none ↦ parsed (length text) ws b ])
  unfolding parsed
  left_case ws (some p) l = refl
  left_case ws none l = tree_case ws (parse ws) l refl

  words_case : (x : Lexed) → words_of text ≡ x
      → SaidAs text t (elim x [ bad_at p ↦ t | words ws ↦ elim (earliest (left_out ws)) [ some p ↦ t | none ↦ tree_after (parse ws) t ] ]) b
      (elim x [ bad_at p ↦ said_refused 3 p | words ws ↦ elim (earliest (left_out ws)) [ some p ↦ said_refused 4 p | none ↦ tree_said (length text) ws (parse ws) ] ])
      (elim x [ bad_at p ↦ stopped 3 InActor p | words ws ↦ row 4 InActor (left_out ws) (parsed (length text) ws b) ])
  unfolding row
  words_case (bad_at p) l = refl
  words_case (words ws) l = left_case ws (earliest (left_out ws)) l

  worded_said : length text ≤ limits.actor → SaidAs text t (tape_after text t) b (said_of text) (worded text b)
  unfolding said_of tape_after words_said words_after worded
  worded_said h =
      subst (λ (x : Bool). SaidAs text t (elim x [ false ↦ t | true ↦ words_after text t ]) b (elim x [ false ↦ said_refused 1 limits.actor | true ↦ words_said text ]) (worded text b))
      (sym (le-leb (length text) limits.actor h)) (words_case (words_of text) refl)

  pub worded_refused : (why : Refusal) {r : Said} (before : List ℕ) → length text ≤ limits.actor → r ≡ said_of text → r ≡ Err why → After (worded text b) (Err why) before before
  worded_refused why before h e f = refusal why.row why.text why.place before (subst (λ (x : Said). SaidAs text t (tape_after text t) b x (worded text b)) (sym e ∙ f) (worded_said h))

  pub worded_taped : {n : ℕ} {r : Said} → length text ≤ limits.actor → r ≡ said_of text → r ≡ Ok n → Taped text t (tape_after text t) b n (worded text b)
  worded_taped h e f = subst (λ (x : Said). SaidAs text t (tape_after text t) b x (worded text b)) (sym e ∙ f) (worded_said h)

pub taped_tells : {text t t' : List ℕ} {b : Bindings} {n : ℕ} {e : Early} (p : Taped text t t' b n e) → n ≤ length t → Tells text t' n p.ws p.actor
taped_tells {t = t} {n = n} p h =
    record {
      lexed = p.lexed;
      parses = p.parses;
      long = p.long;
      holds = ap (take n) (p.holds ∙ sets-eq (flat_actor p.actor) t 0 (let l = p.long in omega arith)) ∙ take_at (flat_actor p.actor) _ n (sym p.long);
    }

-- the tape is as long as it was
tape_long : (text t : List ℕ) → length (tape_after text t) ≡ length t
unfolding tape_after words_after tree_after
tape_long text t = go (leb (length text) limits.actor)
  where
    tree_long : (v : Verdict Actor) → length (tree_after v t) ≡ length t
    tree_long (tree a) = length-sets t 0 (flat_actor a)
    tree_long (fault i) = refl
    tree_long tired = refl

    left_long : (ws : List Word) (o : Option ℕ) → length {A = ℕ} (elim o [ some p ↦ t | none ↦ tree_after (parse ws) t ]) ≡ length t
    left_long ws (some p) = refl
    left_long ws none = tree_long (parse ws)

    words_long : (x : Lexed) → length {A = ℕ} (elim x [ bad_at p ↦ t | words ws ↦ elim (earliest (left_out ws)) [ some p ↦ t | none ↦ tree_after (parse ws) t ] ]) ≡ length t
    words_long (bad_at p) = refl
    words_long (words ws) = left_long ws (earliest (left_out ws))

    go : (x : Bool) → length {A = ℕ} (elim x [ false ↦ t | true ↦ words_after text t ]) ≡ length t
    go false = refl
    go true = words_long (words_of text)

pub tape_size : (text t : List ℕ) {t' : List ℕ} {n : ℕ} → length t ≡ n → t' ≡ tape_after text t → length t' ≡ n
tape_size text t h e = ap length e ∙ tape_long text t ∙ h

-- an actor that is on the tape, with its bindings
pub record Met (text t : List ℕ) (n : ℕ) (given : Given) (b : Bindings) : Type 0 where
  pub ws : List Word
  pub actor : Actor
  pub held : TextsHeld text t n given ws actor b
  pub whole : worded text b ≡ judged ws actor b

pub few_numbers : {r : Said} {n : ℕ} → Roomy r → r ≡ Ok n → n ≤ 24576
few_numbers h e = subst Roomy e h

pub met : (text t : List ℕ) (given : Given) {t' : List ℕ} {n : ℕ} {b : Bindings} {r : Said} → length text ≤ limits.actor → length t ≡ 24576 → r ≡ said_of text → t' ≡ tape_after text t → Roomy r → r ≡ Ok n → Binds given.text.now given.table.now given.lines b → Met text t' n given b
met text t given {t'} {n} {b} h long e f room g binds =
    let p = worded_taped text t b h e g in
    record {
      ws = p.ws;
      actor = p.actor;
      held = record { short = h; tells = subst (λ (l : List ℕ). Tells text l n p.ws p.actor) (sym f) (taped_tells p (let q = few_numbers room g in omega arith)); binds = binds };
      whole = p.whole;
    }

-- ---- rows 1 and 2

module _ (text btext : List ℕ) where
  pub long_actor : (before : List ℕ) → limits.actor < length text → After (early text btext) (Refused 1 InActor limits.actor) before before
  unfolding early
  long_actor before h = refusal 1 InActor limits.actor before (ap (λ (x : Bool). first x) (lt-leb (length text) limits.actor h))
    where
      first : Bool → Early
      first x = elim x [
        | false ↦ stopped 1 InActor limits.actor
        | true ↦ elim (leb (length btext) limits.bindings) [
          | false ↦ stopped 1 InBindings limits.bindings
          | true ↦ elim (bindings_of btext) [ wrong_at p ↦ stopped 2 InBindings p | bound b ↦ worded text b ]
        ]
      ]

  -- the actor's text is short enough
  short : length text ≤ limits.actor → early text btext ≡ elim (leb (length btext) limits.bindings) [ false ↦ stopped 1 InBindings limits.bindings | true ↦ elim (bindings_of btext) [ wrong_at p ↦ stopped 2 InBindings p | bound b ↦ worded text b ] ]
  unfolding early
  short h = rw (le-leb (length text) limits.actor h, early)

  pub long_bindings : (before : List ℕ) → length text ≤ limits.actor → limits.bindings < length btext → After (early text btext) (Refused 1 InBindings limits.bindings) before before
  long_bindings before h k = refusal 1 InBindings limits.bindings before (short h ∙ rw (lt-leb (length btext) limits.bindings k))

  -- and the bindings' too
  both_short : length text ≤ limits.actor → length btext ≤ limits.bindings → early text btext ≡ elim (bindings_of btext) [ wrong_at p ↦ stopped 2 InBindings p | bound b ↦ worded text b ]
  both_short h k = short h ∙ rw (le-leb (length btext) limits.bindings k)

  module _ (t : List ℕ) (h : length text ≤ limits.actor) (k : length btext ≤ limits.bindings) (room : 96 ≤ length t) where
    answer_is : Table.answer_of btext t ≡ elim (bindings_of btext) [ bound b ↦ Ok (Table.so_many (length b.widths) (length b.values)) | wrong_at p ↦ Err (Wrong p) ]
    unfolding Table.answer_of Table.roomy
    answer_is =
        ap (λ (x : Bool). elim x as (λ (y : Bool). Table.Answer) [
          | false ↦ Err NoRoom
          | true ↦ elim (bindings_of btext) [ bound b ↦ Ok (Table.so_many (length b.widths) (length b.values)) | wrong_at p ↦ Err (Wrong p) ]
        ])
        (ap₂ (λ (x y : Bool). x && y) (le-leb (length btext) limits.bindings k) (le-leb 96 (length t) room))

    pub bindings_wrong : {p : ℕ} {r : Table.Answer} (before : List ℕ) → r ≡ Table.answer_of btext t → r ≡ Err (Wrong p) → After (early text btext) (Refused 2 InBindings p) before before
    bindings_wrong {p} before e f = refusal 2 InBindings p before (both_short h k ∙ go (bindings_of btext) (sym f ∙ e ∙ answer_is))
      where
        go : (x : Bound) → ◌≡◌ {A = Table.Answer} (Err (Wrong p)) (elim x [ bound b ↦ Ok (Table.so_many (length b.widths) (length b.values)) | wrong_at q ↦ Err (Wrong q) ]) → ◌≡◌ {A = Early} (elim x [ wrong_at q ↦ stopped 2 InBindings q | bound b ↦ worded text b ]) (stopped 2 InBindings p)
        go (bound b) z = cc
        go (wrong_at q) z = cc

    pub never_no_room : {r : Table.Answer} → r ≡ Table.answer_of btext t → r ≡ Err NoRoom → ⊥
    never_no_room e f = go (bindings_of btext) (sym f ∙ e ∙ answer_is)
      where
        go : (x : Bound) → ◌≡◌ {A = Table.Answer} (Err NoRoom) (elim x [ bound b ↦ Ok (Table.so_many (length b.widths) (length b.values)) | wrong_at q ↦ Err (Wrong q) ]) → ⊥
        go (bound b) z = cc
        go (wrong_at q) z = cc

  pub bindings_filled : (t : List ℕ) {table : List ℕ} {lines : Lines} {r : Table.Answer} → r ≡ Table.answer_of btext t → table ≡ Table.table_after btext t → r ≡ Ok lines → Filled btext table lines
  bindings_filled t {lines = lines} e f g = subst (λ (l : List ℕ). Filled btext l lines) (sym f) (read_fills btext t (sym e ∙ g))

  pub bindings_bound : (b : Bindings) → length text ≤ limits.actor → length btext ≤ limits.bindings → bindings_of btext ≡ bound b → early text btext ≡ worded text b
  bindings_bound b h k e = both_short h k ∙ rw e

  -- ---- what follows is what is read

  follows_reads : (e : Early) (x : Reading.Answer) → early text btext ≡ e → Follows e x → Reads text btext x
  follows_reads e x q stops = reads_early q
  follows_reads e x q (goes ws f) = reads_late ws q f

  pub after_read : {r : Answer} {before after : List ℕ} → After (early text btext) r before after → Read text btext r before after
  after_read h = record { what = h.what; reads = follows_reads (early text btext) h.what refl h.follows; told = h.told }
