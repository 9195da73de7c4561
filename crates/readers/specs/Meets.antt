-- What the contracts say of an answer and of the tape. Assumes nothing: these are definitions.
use Rattle.std.specs.Prelude.{◌≡◌, Result, Ok, Err, Bool, List, ℕ, ◌+◌, ◌*◌, ◌-◌, ◌≤◌, ◌<◌, length, drop}
use Rattle.std.proofs.lemmas.List.Edits.{sets}
use Rattle.tape.specs.Tape.{longest, most_items}
use Rattle.language.specs.Words.{Word}
use Rattle.language.specs.Reader.{Res, ok, bad}
use Rattle.language.specs.Parser.{arm_ends}
use Rattle.readers.specs.Marks.{count, kind_at, Marked, level_of}
use Rattle.readers.specs.declared.Misfit.{Misfit}

-- where a reader came to: the next word and the length of the tape, or the first word that does not fit
abbrev pub Out : Type 0
Out = Result (ℕ × ℕ) Misfit

-- the same of a reader that answers the next word, where the items on the tape are n numbers then
abbrev pub came : Result ℕ Misfit → ℕ → Out
came (Ok x) n = Ok (x, n)
came (Err e) n = Err e

-- a word to look at, or the end
pub record Inside (w : List ℕ) (at : ℕ) : Type 0 where
  pub few : count w ≤ most_items
  pub inside : at ≤ count w

-- a word that is there
pub record Within (w : List ℕ) (at : ℕ) : Type 0 where
  pub few : count w ≤ most_items
  pub within : at < count w

-- the kind of the word at an index; it is 0 past the end, said so that omega reads it
pub record Kind (w : List ℕ) (at r : ℕ) : Type 0 where
  pub is : r ≡ kind_at w at
  pub word : at < count w + (1 - r)

pub record Level (k r : ℕ) : Type 0 where
  pub is : r ≡ level_of k
  pub word : 9 ≤ k + r

-- the operation of `+` or `-`, and 0 for any other word
pub record Sum (k r : ℕ) : Type 0 where
  pub word : r ≤ k
  pub more : 1 ≤ r → (k ≡ r + 51) × (4 ≤ r) × (r ≤ 5)
  pub none : r ≡ 0 → (k ≡ 55 → ⊥) × (k ≡ 56 → ⊥)

-- room for an item of each word that is left
pub record Room (w : List ℕ) (at n : ℕ) : Type 0 where
  pub few : count w ≤ most_items
  pub inside : at ≤ count w
  pub room : n + 3 * count w ≤ longest + 3 * at

-- the same at a word whose kind is known
pub record Starts (w : List ℕ) (at n k : ℕ) : Type 0 where
  pub few : count w ≤ most_items
  pub within : at < count w
  pub room : n + 3 * count w ≤ longest + 3 * at
  pub kind : kind_at w at ≡ k

-- the tape t is s with l from b on, which ends at n
pub record On (s : List ℕ) (b : ℕ) (l : List ℕ) (n : ℕ) (t : List ℕ) : Type 0 where
  pub ends : n ≡ b + length l
  pub holds : t ≡ sets s b l

-- where the answer lies, for the next index and the room of the next call
pub record Went (len at n x m : ℕ) : Type 0 where
  pub on : at ≤ x
  pub inside : x ≤ len
  pub longer : n ≤ m
  pub room : m + 3 * at ≤ n + 3 * x

pub record Stopped (len i : ℕ) : Type 0 where
  pub inside : i ≤ len

abbrev pub MovedTo : ℕ → ℕ → ℕ → Out → Type 0
MovedTo len at n (Ok (x, m)) = Went len at n x m
MovedTo len at n (Err e) = Stopped len e.at

pub record Moved (len at n : ℕ) (o : Out) : Type 0 where
  pub to : MovedTo len at n o

-- the answer and the tape t' are those of the reader of lists, with what it read from n on; of a fault's tape nothing is said
pub data Agrees {A : Type 0} (fl : A → List ℕ) (ws : List Word) (n : ℕ) (t : List ℕ) : Res A → Out → List ℕ → Type 0 where
  read : {e : A} {x m : ℕ} {t' : List ℕ} → On t n (fl e) m t' → Agrees fl ws n t (ok e (drop x ws)) (Ok (x, m)) t'
  fault : {e : Misfit} {t' : List ℕ} → Agrees fl ws n t (bad (drop e.at ws)) (Err e) t'

-- a word of the kind kw at an index, and the index after it
pub record Finds (w : List ℕ) (at kw x : ℕ) : Type 0 where
  pub kind : kind_at w at ≡ kw
  pub next : x ≡ at + 1

-- a word of another kind, or none
pub record Lacks (w : List ℕ) (at kw i : ℕ) : Type 0 where
  pub kind : kind_at w at ≡ kw → ⊥
  pub stays : i ≡ at

abbrev pub Expects : List ℕ → ℕ → ℕ → Result ℕ Misfit → Type 0
Expects w at kw (Ok x) = Finds w at kw x
Expects w at kw (Err e) = Lacks w at kw e.at

-- a reader p of lists, given enough fuel: more than its measure, 8 for each word that is left and its rank
pub record Met {A : Type 0} (fl : A → List ℕ) (rank : ℕ) (p : List ℕ → List (List ℕ) → List Word → ℕ → Res A) (w : List ℕ) (at n : ℕ) (t : List ℕ) (r : Out) (t' : List ℕ) : Type 0 where
  pub moved : Moved (count w) at n r
  pub agrees : {text : List ℕ} {ms : List (List ℕ)} {ws : List Word} → Marked text ms w ws → (f : ℕ) → 8 * count w + rank < f + 8 * at → Agrees fl ws n t (p text ms ws f) r t'

-- the same of a reader that goes on after a tree e, which is on the tape from b on
pub record MetOn {A : Type 0} (fl : A → List ℕ) (p : List (List ℕ) → ℕ → A → List Word → Res A) (w : List ℕ) (at n : ℕ) (t : List ℕ) (r : Out) (t' : List ℕ) : Type 0 where
  pub moved : Moved (count w) at n r
  pub agrees : {text : List ℕ} {ms : List (List ℕ)} {ws : List Word} → Marked text ms w ws → (f : ℕ) → 8 * count w < f + 8 * at
      → (e : A) {s : List ℕ} {b : ℕ} → On s b (fl e) n t → Agrees fl ws b s (p ms f e (drop at ws)) r t'

-- whether an arm's expression ends at a word
pub record Ends (w : List ℕ) (at : ℕ) (b r : Bool) : Type 0 where
  pub is : {text : List ℕ} {ms : List (List ℕ)} {ws : List Word} → Marked text ms w ws → r ≡ arm_ends b (drop at ws)
