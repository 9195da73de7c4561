-- What the contracts of the readers of declarations say: the actor's head is all that stands before its groups. Assumes nothing: these are definitions.
use Rattle.std.specs.Prelude.{Bool, List, ◌++◌, ℕ, ◌+◌, drop}
use Rattle.language.specs.Text.{Name}
use Rattle.language.specs.Words.{Word}
use Rattle.language.specs.Tree.{Port, Memory, Group, Actor}
use Rattle.language.specs.Reader.{Res, ok, bad, bind, on, is_name, expect, until, many_p, some_p, commas_p}
use Rattle.language.specs.Parser.{is_way, is_store, port_p, memory_p, name_p}
use Rattle.tape.specs.Tape.{item, ACTOR, flats, flat_signed, flat_port, flat_memory}
use Rattle.readers.specs.Meets.{Out, Met}

pub record Head : Type 0 where
  pub called : Name
  pub signature : List Name
  pub ports : List Port
  pub memories : List Memory

-- the head is what `actor_p` reads before the groups
unfoldable pub head_p : ℕ → List Word → Res Head
head_p f ws =
    on is_name ws
    (λ n r. expect "(" r (λ p x. until (commas_p (λ f l. name_p f l) f x) ")" (λ ns q y. expect "{" y
    (λ s z. bind (some_p is_way (λ f i r. port_p f i r) f z) (λ ps l. bind (many_p is_store (λ f i r. memory_p f i r) f l)
    (λ ms k. ok (record { called = n; signature = ns; ports = ps; memories = ms }) k))))))
    (λ ws. bad ws)

unfoldable pub flat_head : Head → List ℕ
flat_head h = ((item ACTOR h.called.at 0 ++ flats flat_signed h.signature) ++ flats flat_port h.ports) ++ flats flat_memory h.memories

abbrev pub actor_of : Head → List Group → Actor
actor_of h gs = record { called = h.called; signature = h.signature; ports = h.ports; memories = h.memories; groups = gs }

module _ (w : List ℕ) (at n : ℕ) (t : List ℕ) (r : Out) (t' : List ℕ) where
  abbrev pub IsSignature : Type 0
  IsSignature = Met (flats flat_signed) 1 (λ text ms ws f. commas_p (λ f l. name_p f l) f (drop at ws)) w at n t r t'

  -- `input` (i is true) or `output` stands at `at`: the answer lies past it
  abbrev pub IsPort : Bool → Type 0
  IsPort i = Met flat_port 0 (λ text ms ws f. port_p f i (drop (at + 1) ws)) w (at + 1) n t r t'

  abbrev pub IsPorts : Type 0
  IsPorts = Met (flats flat_port) 1 (λ text ms ws f. many_p is_way (λ f i r. port_p f i r) f (drop at ws)) w at n t r t'

  -- `reg` (i is true) or `ff` stands at `at`: the answer lies past it, and what is read is the same
  abbrev pub IsMemory : Bool → Type 0
  IsMemory i = Met flat_memory 0 (λ text ms ws f. memory_p f i (drop (at + 1) ws)) w (at + 1) n t r t'

  abbrev pub IsMemories : Type 0
  IsMemories = Met (flats flat_memory) 1 (λ text ms ws f. many_p is_store (λ f i r. memory_p f i r) f (drop at ws)) w at n t r t'

  abbrev pub IsHead : Type 0
  IsHead = Met flat_head 0 (λ text ms ws f. head_p f (drop at ws)) w at n t r t'
