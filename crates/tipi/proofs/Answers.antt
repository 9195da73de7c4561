-- For any two texts there is an answer: rows 1 to 9 refuse, or rows 10 to 12 follow. Assumes nothing.
use mathlib.Core.Path.{◌≡◌, refl}
use mathlib.Core.Bool.{Bool, true, false}
use mathlib.Core.List.{List, [], ◌∷◌}
use mathlib.Core.Option.{Option, none, some}
use Prim.Native.Nat.{ℕ, ◌≤◌, min}
use native.Mathlib.Omega.{arith}
use lib.Dec.{leb}
use lib.ListN.{length}
use Rattle.language.specs.Text.{earliest}
use Rattle.language.specs.Limits.{limits}
use Rattle.language.specs.Words.{Word, Lexed, words_of, words, bad_at, left_out}
use Rattle.language.specs.Tree.{Ty, Actor}
use Rattle.language.specs.Reader.{Verdict, tree, fault, tired}
use Rattle.language.specs.Parser.{parse}
use Rattle.language.specs.Parts.{each, actor_items, types}
use Rattle.language.specs.Names.{name_faults}
use Rattle.language.specs.Counts.{type_words, limit_faults}
use Rattle.language.specs.Types.{type_faults}
use Rattle.language.specs.Bindings.{Bindings, Bound, bindings_of, bound, wrong_at}
use Rattle.language.specs.Widths.{strangers, unsettled, Resolved}
use Rattle.language.specs.Reading.{Answer, refused, Early, stopped, through, row, word_place, judged, parsed, worded, early, late, Reads, reads_early, reads_late}
use Rattle.language.specs.declared.Text.{Text}
use Rattle.language.specs.declared.Text.TheVariants.{Actor as InActor, Bindings as InBindings}
use Rattle.bindings.proofs.Ranges.{Ranged, ranged}
use Rattle.placed.proofs.Worded.{parsed_short}
use Rattle.typing.proofs.Exists.{resolves}
use Rattle.row10_widths.proofs.Whole.{every_all}

-- what rows 1 to 9 let through has widths, or has none
abbrev Goes : Early → Type 0
Goes (stopped n t p) = Unit {0}
Goes (through a b) = (ws : Option (List ℕ)) × Resolved a b ws

row_goes : (n : ℕ) (t : Text) (l : List ℕ) (next : Early) → (l ≡ [] → Goes next) → Goes (row n t l next)
unfolding row earliest
row_goes n t [] next f = f refl
row_goes n t (p ∷ l) next f = go (earliest l)
  where
    go : (o : Option ℕ) → Goes (elim (elim o as (λ (x : Option ℕ). Option ℕ) [ none ↦ some p | some q ↦ some (min p q) ]) as (λ (x : Option ℕ). Early) [ some q ↦ stopped n t q | none ↦ next ])
    go none = tt
    go (some q) = tt

-- rows 6 to 9
judged_goes : (ws : List Word) (a : Actor) (b : Bindings) → parse ws ≡ tree a → Ranged b → Goes (judged ws a b)
unfolding judged
judged_goes ws a b parses low =
    row_goes 6 InActor (name_faults a) _ (λ names.
    row_goes 7 InActor (limit_faults ws a) _ (λ limited.
    row_goes 8 InActor (each type_faults (types (actor_items a))) _ (λ typed.
    row_goes 9 InBindings (strangers a b) _ (λ known.
    row_goes 9 InActor (unsettled a b) (through a b) (λ settled.
    resolves a b names typed (every_all {A = Ty} (λ (t : Ty). type_words t ≤ 64) (types (actor_items a)) (parsed_short ws parses limited).in_types)
    (λ s. let w = low.widths s in omega arith) low.values)))))

-- row 5
parsed_goes : (end : ℕ) (ws : List Word) (b : Bindings) → Ranged b → Goes (parsed end ws b)
unfolding parsed
parsed_goes end ws b low = go (parse ws) refl
  where
    go : (x : Verdict Actor) → parse ws ≡ x → Goes (elim x as (λ (y : Verdict Actor). Early) [ tree a ↦ judged ws a b | fault i ↦ stopped 5 InActor (word_place end ws i) | tired ↦ stopped 5 InActor 0 ])
    go (tree a) e = judged_goes ws a b e low
    go (fault i) e = tt
    go tired e = tt

-- rows 3 and 4
worded_goes : (text : List ℕ) (b : Bindings) → Ranged b → Goes (worded text b)
unfolding worded
worded_goes text b low = go (words_of text)
  where
    go : (x : Lexed) → Goes (elim x as (λ (y : Lexed). Early) [ bad_at p ↦ stopped 3 InActor p | words ws ↦ row 4 InActor (left_out ws) (parsed (length text) ws b) ])
    go (bad_at p) = tt
    go (words ws) = row_goes 4 InActor (left_out ws) (parsed (length text) ws b) (λ whole. parsed_goes (length text) ws b low)

-- rows 1 and 2
early_goes : (text bindings : List ℕ) → Goes (early text bindings)
unfolding early
early_goes text bindings = go (leb (length text) limits.actor) (leb (length bindings) limits.bindings) (bindings_of bindings) refl
  where
    go : (u v : Bool) (x : Bound) → bindings_of bindings ≡ x
        → Goes (elim u [ false ↦ stopped 1 InActor limits.actor | true ↦ elim v [ false ↦ stopped 1 InBindings limits.bindings | true ↦ elim x [ wrong_at p ↦ stopped 2 InBindings p | bound b ↦ worded text b ] ] ])
    go false v x e = tt
    go true false x e = tt
    go true true (wrong_at p) e = tt
    go true true (bound b) e = worded_goes text b (ranged bindings e)

-- THE THEOREM: every actor text with every bindings text is read as some answer
pub answers : (text bindings : List ℕ) → (x : Answer) × Reads text bindings x
answers text bindings = go (early text bindings) refl (early_goes text bindings)
  where
    go : (e : Early) → early text bindings ≡ e → Goes e → (x : Answer) × Reads text bindings x
    go (stopped n t p) e h = (refused n t p, reads_early e)
    go (through a b) e h = (late a b h.0, reads_late h.0 e h.1)
