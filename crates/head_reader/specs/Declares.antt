-- What the contracts of the readers of a part of a head say: what follows a declared type, what follows the `{` of an actor. Assumes nothing: these are definitions.
use Rattle.std.specs.Prelude.{◌≡◌, Bool, List, ◌++◌, ℕ, ◌+◌, ◌*◌, ◌<◌, drop}
use Rattle.language.specs.Text.{Name}
use Rattle.language.specs.Words.{Word}
use Rattle.language.specs.Tree.{Declared, Port, Size, one, cells, Memory}
use Rattle.language.specs.Reader.{Res, ok, bad, bind, on, is_num, is_name, expect, many_p, some_p}
use Rattle.language.specs.Parser.{is_way, is_store, port_p, memory_p, name_p}
use Rattle.tape.specs.Tape.{item, ACTOR, one_if, is_typed, flats, flat_d, flat_port, flat_size, flat_memory, flat_signed}
use Rattle.readers.specs.Marks.{count, Marked}
use Rattle.readers.specs.Meets.{Out, On, Moved, Agrees, Met}
use Rattle.head_reader.specs.Heads.{Head, flat_head}

-- what follows a port's type, as `port_p` has it
unfoldable pub port_name_p : Bool → Declared → List Word → Res Port
port_name_p i t x = on is_name x (λ n y. expect ";" y (λ q z. ok (record { input = i; type = t; called = n }) z)) (λ x. bad x)

-- what follows a memory's type, as `memory_p` has it, and the size in it
unfoldable pub memory_name_p : Declared → List Word → Res Memory
memory_name_p t x =
    on is_name x
    (λ n y. on is_num y (λ m z. expect ";" z (λ q l. ok (record { type = t; called = n; size = cells m }) l))
    (λ y. expect ";" y (λ q z. ok (record { type = t; called = n; size = one }) z)))
    (λ x. bad x)

unfoldable pub size_p : List Word → Res Size
size_p y = on is_num y (λ m z. ok (cells m) z) (λ y. ok one y)

-- what follows the `{` of an actor, as `head_p` has it
unfoldable pub declarations_p : ℕ → Name → List Name → List Word → Res Head
declarations_p f n ns z =
    bind (some_p is_way (λ f i r. port_p f i r) f z) (λ ps l. bind (many_p is_store (λ f i r. memory_p f i r) f l)
    (λ ms k. ok (record { called = n; signature = ns; ports = ps; memories = ms }) k))

module _ (w : List ℕ) (at n : ℕ) (t : List ℕ) (r : Out) (t' : List ℕ) where
  abbrev pub IsSigned : Type 0
  IsSigned = Met flat_signed 0 (λ text ms ws f. name_p f (drop at ws)) w at n t r t'

  abbrev pub IsSize : Type 0
  IsSize = Met flat_size 0 (λ text ms ws f. size_p (drop at ws)) w at n t r t'

  -- mark is 2 for an input, and 1 more where a type is on the tape
  pub record IsPortName (mark : ℕ) : Type 0 where
    pub moved : Moved (count w) at n r
    pub agrees : {text : List ℕ} {ms : List (List ℕ)} {ws : List Word} → Marked text ms w ws
        → (i : Bool) (d : Declared) {s : List ℕ} {b : ℕ} → 2 * one_if i + is_typed d ≡ mark → On s b (flat_d d) n t → Agrees flat_port ws b s (port_name_p i d (drop at ws)) r t'

  pub record IsMemoryName (typed : ℕ) : Type 0 where
    pub moved : Moved (count w) at n r
    pub agrees : {text : List ℕ} {ms : List (List ℕ)} {ws : List Word} → Marked text ms w ws
        → (d : Declared) {s : List ℕ} {b : ℕ} → is_typed d ≡ typed → On s b (flat_d d) n t → Agrees flat_memory ws b s (memory_name_p d (drop at ws)) r t'

  -- the actor's name and its signature are on the tape
  pub record IsDeclarations : Type 0 where
    pub moved : Moved (count w) at n r
    pub agrees : {text : List ℕ} {ms : List (List ℕ)} {ws : List Word} → Marked text ms w ws → (f : ℕ) → 8 * count w + 1 < f + 8 * at
        → (c : Name) (l : List Name) {s : List ℕ} {b : ℕ} → On s b (item ACTOR c.at 0 ++ flats flat_signed l) n t → Agrees flat_head ws b s (declarations_p f c l (drop at ws)) r t'
