-- The actor's head: the places of its memories on the tape, their names as runs of the text, and the actor as its head and its groups. Assumes nothing.
use mathlib.Core.Path.{◌≡◌, refl, ap, subst, ◌∙◌}
use mathlib.Core.Bool.{Bool}
use mathlib.Core.List.{List, [], ◌∷◌, ◌++◌, append_assoc}
use mathlib.Core.Option.{Option, none, some}
use Prim.Native.Nat.{ℕ, zero, suc}
use Prim.Native.String.{String}
use native.Mathlib.Omega.{arith}
use lib.ListN.{drop}
use Rattle.language.specs.Text.{Name}
use Rattle.language.specs.Words.{Word, span, name_byte}
use Rattle.language.specs.Tree.{Ty, number, environment, port, plus, minus, log, ceil, floor, most, entry, within, Declared, untyped, Port, Size, one, cells, Memory, spelled_of, memory_names}
use Rattle.language.specs.Reader.{Res, ok, bad, dry, bind, on, is, is_num, is_name, expect, until, many_p, some_p, commas_p}
use Rattle.language.specs.Parser.{is_way, port_p, is_store, memory_p, name_p, actor_p}
use Rattle.language.proofs.Laws.{Good, g_ok, g_bad, g_dry}
use Rattle.language.proofs.Tests.{name_tells}
use Rattle.language.proofs.Statements.{declared_good}
use Rattle.words.proofs.Runs.{IsRun, AllRuns, no_more, more}
use Rattle.tape.specs.Tape.{item, MEMORY, flat_t, flat_d, flats, flat_port, flat_size, flat_memory, flat_signed, is_typed}
use Rattle.head_reader.specs.Heads.{Head, head_p, flat_head}
use Rattle.name_marks.specs.Marking.{places_on, runs_at}
use Rattle.syntax.specs.Read.{groups_p}
use Rattle.name_marks.proofs.Marked.{places_memory, places_other}

-- ---- the places of the memories on the tape

-- items among which there is no memory
record Quiet (l : List ℕ) : Type 0 where
  hides : (r : List ℕ) → places_on (l ++ r) ≡ places_on r

quiet_none : Quiet []
quiet_none = record { hides = λ r. refl }

quiet_item : (op p v : ℕ) → (op ≡ MEMORY → ⊥) → Quiet (item op p v)
quiet_item op p v h = record { hides = λ r. places_other op p v r h }

quiet_more : {a b : List ℕ} → Quiet a → Quiet b → Quiet (a ++ b)
quiet_more {a} {b} h k = record { hides = λ r. ap places_on (append_assoc a b r) ∙ h.hides (b ++ r) ∙ k.hides r }

quiet_type : (t : Ty) → Quiet (flat_t t)
unfolding flat_t
quiet_type (number n) = quiet_item 1 n.at n.value (λ e. omega arith)
quiet_type (environment n) = quiet_item 2 n.at 0 (λ e. omega arith)
quiet_type (port n) = quiet_item 3 n.at 0 (λ e. omega arith)
quiet_type (plus a b) = quiet_more (quiet_more (quiet_type a) (quiet_type b)) (quiet_item 4 0 0 (λ e. omega arith))
quiet_type (minus a b) = quiet_more (quiet_more (quiet_type a) (quiet_type b)) (quiet_item 5 0 0 (λ e. omega arith))
quiet_type (log p a) = quiet_more (quiet_type a) (quiet_item 6 p 0 (λ e. omega arith))
quiet_type (ceil p a) = quiet_more (quiet_type a) (quiet_item 7 p 0 (λ e. omega arith))
quiet_type (floor p a) = quiet_more (quiet_type a) (quiet_item 8 p 0 (λ e. omega arith))
quiet_type (most p a) = quiet_more (quiet_type a) (quiet_item 9 p 0 (λ e. omega arith))
quiet_type (entry a b) = quiet_more (quiet_more (quiet_type a) (quiet_type b)) (quiet_item 10 0 0 (λ e. omega arith))
quiet_type (within p a) = quiet_more (quiet_type a) (quiet_item 11 p 0 (λ e. omega arith))

quiet_declared : (d : Declared) → Quiet (flat_d d)
unfolding flat_d
quiet_declared untyped = quiet_none
quiet_declared (Declared.typed t) = quiet_type t

quiet_list : {T : Type 0} (fl : T → List ℕ) → ((x : T) → Quiet (fl x)) → (l : List T) → Quiet (flats fl l)
unfolding flats
quiet_list fl h [] = quiet_none
quiet_list fl h (x ∷ l) = quiet_more (h x) (quiet_list fl h l)

quiet_port : (p : Port) → Quiet (flat_port p)
unfolding flat_port
quiet_port p = quiet_more (quiet_declared p.type) (quiet_item 43 _ _ (λ e. omega arith))

quiet_size : (s : Size) → Quiet (flat_size s)
unfolding flat_size
quiet_size one = quiet_none
quiet_size (cells n) = quiet_item 45 _ _ (λ e. omega arith)

quiet_signed : (n : Name) → Quiet (flat_signed n)
unfolding flat_signed
quiet_signed n = quiet_item 46 _ _ (λ e. omega arith)

unfoldable places_of : List Memory → List ℕ
places_of [] = []
places_of (m ∷ ms) = m.called.at ∷ places_of ms

places_list : (ms : List Memory) → places_on (flats flat_memory ms) ≡ places_of ms
unfolding flats flat_memory places_of places_on
places_list [] = refl
places_list (m ∷ ms) =
    ap places_on (append_assoc (flat_d m.type ++ flat_size m.size) _ (flats flat_memory ms))
    ∙ (quiet_more (quiet_declared m.type) (quiet_size m.size)).hides _
    ∙ places_memory MEMORY m.called.at (is_typed m.type) (flats flat_memory ms) refl ∙ ap (λ (l : List ℕ). m.called.at ∷ l) (places_list ms)

places_head : (h : Head) → places_on (flat_head h) ≡ places_of h.memories
unfolding flat_head
places_head h =
    (quiet_more (quiet_more (quiet_item 47 h.called.at 0 (λ e. omega arith)) (quiet_list flat_signed quiet_signed h.signature)) (quiet_list flat_port quiet_port h.ports)).hides (flats flat_memory h.memories)
    ∙ places_list h.memories

-- ---- the names that the head reads are words of the text

data All {T : Type 0} (Q : T → Type 0) : List T → Type 0 where
  all_none : All Q []
  all_more : {x : T} {l : List T} → Q x → All Q l → All Q (x ∷ l)

module _ (text : List ℕ) where
  -- what is read is of Q, and the names of the rest are runs
  data Keeps {T : Type 0} (Q : T → Type 0) : Res T → Type 0 where
    k_ok : {t : T} {r : List Word} → Q t → AllRuns text r → Keeps Q (ok t r)
    k_bad : {r : List Word} → Keeps Q (bad r)
    k_dry : Keeps Q dry

  module _ {T : Type 0} {Q : T → Type 0} where
    keeps_bind : {S : Type 0} {P : S → Type 0} {u : Res S} (k : S → List Word → Res T) → Keeps P u → ((s : S) (x : List Word) → P s → AllRuns text x → Keeps Q (k s x)) → Keeps Q (bind u k)
    unfolding bind
    keeps_bind k (k_ok p e) h = h _ _ p e
    keeps_bind k k_bad h = k_bad
    keeps_bind k k_dry h = k_dry

    keeps_on : {A : Type 0} (t : Word → Option A) {ws : List Word} (g : A → List Word → Res T) (d : List Word → Res T) → AllRuns text ws
        → ((a : A) (x : Word) (r : List Word) → t x ≡ some a → IsRun text x → AllRuns text r → Keeps Q (g a r)) → ((l : List Word) → AllRuns text l → Keeps Q (d l)) → Keeps Q (on t ws g d)
    unfolding on
    keeps_on t g d no_more h k = k [] no_more
    keeps_on {A} t g d (more {w = x} {ws = r} b m) h k = go (t x) refl
      where
        go : (o : Option A) → t x ≡ o → Keeps {T = T} Q (elim o [ some a ↦ g a r | none ↦ d (x ∷ r) ])
        go (some a) e = h a x r e b m
        go none e = k (x ∷ r) (more b m)

    keeps_expect : (v : String) {ws : List Word} (g : ℕ → List Word → Res T) → AllRuns text ws → ((p : ℕ) (r : List Word) → AllRuns text r → Keeps Q (g p r)) → Keeps Q (expect v ws g)
    unfolding expect
    keeps_expect v g m h = keeps_on (is v) g (λ ws. bad ws) m (λ a x r e b m. h a r m) (λ l m. k_bad)

    keeps_until : {S : Type 0} {P : S → Type 0} {u : Res S} (v : String) (g : S → ℕ → List Word → Res T) → Keeps P u → ((s : S) (p : ℕ) (r : List Word) → P s → AllRuns text r → Keeps Q (g s p r)) → Keeps Q (until u v g)
    unfolding until
    keeps_until v g a h = keeps_bind _ a (λ s x p m. keeps_expect v _ m (λ q r m. h s q r p m))

  module _ {T : Type 0} {Q : T → Type 0} {A : Type 0} (t : Word → Option A) (read : ℕ → A → List Word → Res T) (each : (f : ℕ) (a : A) (r : List Word) → AllRuns text r → Keeps Q (read f a r)) where
    keeps_many : (f : ℕ) (ws : List Word) → AllRuns text ws → Keeps (All Q) (many_p t read f ws)
    unfolding many_p
    keeps_many zero ws m = k_dry
    keeps_many (suc f) ws m = keeps_on t _ _ m (λ a x r e b m. keeps_bind _ (each f a r m) (λ s y p m. keeps_bind _ (keeps_many f y m) (λ l z q m. k_ok (all_more p q) m))) (λ l m. k_ok all_none m)

    keeps_some : (f : ℕ) (ws : List Word) → AllRuns text ws → Keeps (All Q) (some_p t read f ws)
    unfolding some_p
    keeps_some f ws m = keeps_on t _ _ m (λ a x r e b m. keeps_bind _ (each f a r m) (λ s y p m. keeps_bind _ (keeps_many f y m) (λ l z q m. k_ok (all_more p q) m))) (λ l m. k_bad)

  keeps_commas : {T : Type 0} {Q : T → Type 0} (read : ℕ → List Word → Res T) → ((f : ℕ) (r : List Word) → AllRuns text r → Keeps Q (read f r)) → (f : ℕ) (ws : List Word) → AllRuns text ws → Keeps (All Q) (commas_p read f ws)
  unfolding commas_p
  keeps_commas read each zero ws m = k_dry
  keeps_commas read each (suc f) ws m = keeps_bind _ (each f ws m) (λ s y p m. keeps_on (is ",") _ _ m (λ a x r e b m. keeps_bind _ (keeps_commas read each f r m) (λ l z q m. k_ok (all_more p q) m)) (λ l m. k_ok (all_more p all_none) m))

  rest_runs : (p : List Word) {r : List Word} → AllRuns text (p ++ r) → AllRuns text r
  rest_runs [] m = m
  rest_runs (x ∷ p) (more b m) = rest_runs p m

  abbrev Any : {T : Type 0} → T → Type 0
  Any t = Unit {0}

  keeps_good : {T : Type 0} {D : List Word → T → Type 0} {ws : List Word} {u : Res T} → Good D ws u → AllRuns text ws → Keeps Any u
  keeps_good (g_ok p e d) m = k_ok tt (rest_runs p (subst (AllRuns text) e m))
  keeps_good (g_bad p c t e d) m = k_bad
  keeps_good g_dry m = k_dry

  -- a memory whose name is a run
  abbrev RunMemory : Memory → Type 0
  RunMemory m = m.called.spelled ≡ span name_byte (drop m.called.at text)

  name_run : (x : Word) (n : Name) → is_name x ≡ some n → IsRun text x → n.spelled ≡ span name_byte (drop n.at text)
  unfolding IsRun
  name_run x n e b = let q = name_tells x n e in subst (IsRun text) q b

  memory_keeps : (f : ℕ) (i : Bool) (ws : List Word) → AllRuns text ws → Keeps RunMemory (memory_p f i ws)
  unfolding memory_p
  memory_keeps f i ws m = keeps_bind _ (keeps_good (declared_good f ws) m) (λ t x p m. keeps_on is_name _ _ m
      (λ n w y e b m. keeps_on is_num _ _ m (λ k v z e₁ b₁ m. keeps_expect ";" _ m (λ q l m. k_ok (name_run w n e b) m)) (λ y m. keeps_expect ";" _ m (λ q z m. k_ok (name_run w n e b) m)))
      (λ l m. k_bad))

  port_keeps : (f : ℕ) (i : Bool) (ws : List Word) → AllRuns text ws → Keeps Any (port_p f i ws)
  unfolding port_p
  port_keeps f i ws m = keeps_bind _ (keeps_good (declared_good f ws) m) (λ t x p m. keeps_on is_name _ _ m (λ n x y e b m. keeps_expect ";" _ m (λ q z m. k_ok tt m)) (λ l m. k_bad))

  name_keeps : (f : ℕ) (ws : List Word) → AllRuns text ws → Keeps Any (name_p f ws)
  unfolding name_p
  name_keeps f ws m = keeps_on is_name _ _ m (λ n x r e b m. k_ok tt m) (λ l m. k_bad)

  head_keeps : (f : ℕ) (ws : List Word) → AllRuns text ws → Keeps (λ (h : Head). All RunMemory h.memories) (head_p f ws)
  unfolding head_p
  head_keeps f ws m = keeps_on is_name _ _ m
      (λ n x r e b m. keeps_expect "(" _ m (λ p x m. keeps_until ")" _ (keeps_commas _ name_keeps f x m) (λ ns q y g m. keeps_expect "{" _ m
      (λ s z m. keeps_bind _ (keeps_some is_way _ port_keeps f z m) (λ ps l g m. keeps_bind _ (keeps_many is_store _ memory_keeps f l m) (λ ms k a m. k_ok a m))))))
      (λ l m. k_bad)

  runs_list : (ms : List Memory) → All RunMemory ms → runs_at text (places_of ms) ≡ spelled_of (memory_names ms)
  unfolding runs_at places_of spelled_of memory_names
  runs_list ms all_none = refl
  runs_list ms (all_more {x = m} {l = l} e a) = let q = runs_list l a in cc

  kept_tree : {T : Type 0} {Q : T → Type 0} {u : Res T} {t : T} {r : List Word} → u ≡ ok t r → Keeps Q u → Q t
  kept_tree {T} {Q} {t = t} {r = r} e k = go (subst (Keeps Q) e k)
    where
      go : Keeps Q (ok t r) → Q t
      go (k_ok q m) = q

  -- the memories on the tape of a head are those of the head
  pub head_memories : (f : ℕ) (ws r : List Word) (h : Head) → AllRuns text ws → head_p f ws ≡ ok h r → runs_at text (places_on (flat_head h)) ≡ spelled_of (memory_names h.memories)
  head_memories f ws r h m e = ap (runs_at text) (places_head h) ∙ runs_list h.memories (kept_tree e (head_keeps f ws m))

-- ---- the actor is its head, then its groups

module _ {T U : Type 0} (k : T → List Word → Res U) where
  on_then : {A : Type 0} (t : Word → Option A) (ws : List Word) (g : A → List Word → Res T) (g' : A → List Word → Res U) (d : List Word → Res T) (d' : List Word → Res U)
      → ((a : A) (r : List Word) → bind (g a r) k ≡ g' a r) → ((l : List Word) → bind (d l) k ≡ d' l) → bind (on t ws g d) k ≡ on t ws g' d'
  unfolding on
  on_then t [] g g' d d' p q = q []
  on_then {A} t (x ∷ r) g g' d d' p q = go (t x)
    where
      go : (o : Option A) → bind (elim o as (λ (z : Option A). Res T) [ some a ↦ g a r | none ↦ d (x ∷ r) ]) k ≡ elim o as (λ (z : Option A). Res U) [ some a ↦ g' a r | none ↦ d' (x ∷ r) ]
      go (some a) = p a r
      go none = q (x ∷ r)

  bind_then : {S : Type 0} (u : Res S) (g : S → List Word → Res T) (g' : S → List Word → Res U) → ((s : S) (x : List Word) → bind (g s x) k ≡ g' s x) → bind (bind u g) k ≡ bind u g'
  unfolding bind
  bind_then (ok s x) g g' p = p s x
  bind_then (bad ws) g g' p = refl
  bind_then dry g g' p = refl

  expect_then : (v : String) (ws : List Word) (g : ℕ → List Word → Res T) (g' : ℕ → List Word → Res U) → ((p : ℕ) (r : List Word) → bind (g p r) k ≡ g' p r) → bind (expect v ws g) k ≡ expect v ws g'
  unfolding expect bind
  expect_then v ws g g' p = on_then (is v) ws g g' _ _ p (λ l. refl)

  until_then : {S : Type 0} (u : Res S) (v : String) (g : S → ℕ → List Word → Res T) (g' : S → ℕ → List Word → Res U) → ((s : S) (p : ℕ) (r : List Word) → bind (g s p r) k ≡ g' s p r) → bind (until u v g) k ≡ until u v g'
  unfolding until
  until_then u v g g' p = bind_then u _ _ (λ s x. expect_then v x _ _ (λ q y. p s q y))

pub actor_parts : (f : ℕ) (ws : List Word) → bind (head_p f ws) (λ h k. groups_p f h k) ≡ actor_p f ws
unfolding head_p actor_p groups_p bind
actor_parts f ws = on_then _ is_name ws _ _ _ _ (λ n r. expect_then _ "(" r _ _ (λ p x. until_then _ (commas_p (λ f l. name_p f l) f x) ")" _ _ (λ ns q y. expect_then _ "{" y _ _
    (λ s z. bind_then _ (some_p is_way (λ f i r. port_p f i r) f z) _ _ (λ ps l. bind_then _ (many_p is_store (λ f i r. memory_p f i r) f l) _ _ (λ ms k. refl))))))
    (λ l. refl)
