-- The types and whole expressions of a tape: how many words they have, and the place of the first word too many. Assumes nothing: these are definitions.
use Rattle.std.specs.Prelude.{◌≡◌, Bool, true, false, not, ◌&&◌, List, [], ◌∷◌, ◌++◌, ℕ, zero, suc, ◌+◌, ◌*◌, ◌-◌, ◌≤◌, eqb, leb, get_or, drop}
use Rattle.language.specs.Words.{bytes}
use Rattle.std.specs.Prelude.{Option as Optional, Some, None}
use Rattle.std.specs.Option.{is_some, unwrap_or}
use Rattle.words.specs.Found.{Place, earlier_of}
use Rattle.tape.specs.Walk.{op_at, place_at, value_at}
use Rattle.part_lengths.specs.declared.Part.{Part}
use Rattle.part_lengths.specs.declared.Length.{Length}

-- an item: its three numbers; and those before one of a tape, the last first
pub record Triple : Type 0 where
  pub op : ℕ
  pub place : ℕ
  pub value : ℕ

unfoldable pub before : List ℕ → ℕ → List Triple
before t zero = []
before t (suc i) = record { op = op_at t i; place = place_at t i; value = value_at t i } ∷ before t i

-- ---- the parts of a tape

-- by operation, a figure each: how many parts before it an item holds; how many words are its own; 1 where the first word of the part is its own.
-- A memory's size stands over its type, and has none of its words.
unfoldable pub holds_table : List ℕ
holds_table = bytes "000022111121011101012311212331221000000000000100"

unfoldable pub holds_of : ℕ → ℕ
holds_of o = get_or holds_table o 0 - 48

unfoldable pub own_table : List ℕ
own_table = bytes "011311333312121213132322111232233000000000000000"

unfoldable pub own_of : ℕ → ℕ
own_of o = get_or own_table o 0 - 48

unfoldable pub leads_table : List ℕ
leads_table = bytes "011100111101110011110011010011111000000000000000"

unfoldable pub leads_of : ℕ → Bool
leads_of o = eqb (get_or leads_table o 0) 49

-- whether an item has the first word of the part: the first that has one where a single part is still wanted
unfoldable pub lead_in : Part → ℕ → Bool
lead_in p o = not (is_some p.start) && (eqb p.wanted 1 && leads_of o)

-- one item further back
unfoldable pub over_of : Part → ℕ → ℕ → Part
over_of p o q = record { wanted = p.wanted - 1 + holds_of o; words = p.words + own_of o; start = elim (lead_in p o) [ true ↦ Some q | false ↦ p.start ] }

-- a part to come
abbrev pub one : Part
one = record { wanted = 1; words = 0; start = None }

-- back over the items of a part: its words and the place of the first; and the items before it
unfoldable pub back : Part → List Triple → Part
back p [] = p
back p (x ∷ l) = elim (eqb p.wanted 0) [ true ↦ p | false ↦ back (over_of p x.op x.place) l ]

unfoldable pub rest : Part → List Triple → List Triple
rest p [] = []
rest p (x ∷ l) = elim (eqb p.wanted 0) [ true ↦ x ∷ l | false ↦ rest (over_of p x.op x.place) l ]

-- a part that starts at an item; at place 0 where it has no word of its own
abbrev pub length_of : Part → ℕ → Length
length_of p i = record { at = i; words = p.words; start = unwrap_or p.start 0 }

pub record IsWhole (t : List ℕ) (end : ℕ) (r : Length) : Type 0 where
  pub inside : r.at ≤ end
  pub words : r.words ≡ (back one (before t end)).words
  pub start : r.start ≡ unwrap_or (back one (before t end)).start 0
  pub rest : before t r.at ≡ rest one (before t end)

-- ---- the words' places

-- those of m words of a table, from word i on
unfoldable pub places_in : List ℕ → ℕ → ℕ → List ℕ
places_in t i zero = []
places_in t i (suc m) = get_or t (4 * i + 1) 0 ∷ places_in t (suc i) m

unfoldable pub first_of : List ℕ → List ℕ
first_of [] = []
first_of (p ∷ ps) = p ∷ []

-- the place n places after p
unfoldable pub after_in : List ℕ → ℕ → ℕ → List ℕ
after_in [] p n = []
after_in (q ∷ ps) p n = elim (eqb q p) [ true ↦ first_of (drop n (q ∷ ps)) | false ↦ after_in ps p n ]

-- the first word too many of a part of so many words
unfoldable pub long_in : List ℕ → (limit words start : ℕ) → List ℕ
long_in ps limit words start = elim (leb words limit) [ true ↦ [] | false ↦ after_in ps start limit ]

-- those of the part before an item by a limit, and of the one before it by another. No limit: no part.
unfoldable pub held_in : List ℕ → List Triple → (last other : Optional ℕ) → List ℕ
held_in ps l None other = []
held_in ps l (Some a) None = long_in ps a (back one l).words (unwrap_or (back one l).start 0)
held_in ps l (Some a) (Some b) =
    long_in ps a (back one l).words (unwrap_or (back one l).start 0) ++ long_in ps b (back one (rest one l)).words (unwrap_or (back one (rest one l)).start 0)

unfoldable pub both_of : Place → Place → Place
both_of (Some p) b = earlier_of p b
both_of None b = b
