-- The laws of the statements. Assumes nothing.
use mathlib.Core.Path.{◌≡◌, sym, ap, ◌∙◌}
use mathlib.Core.Bool.{true, false}
use mathlib.Core.List.{List}
use Prim.Native.Nat.{ℕ, ◌+◌}
use native.Mathlib.Omega.{arith}
use lib.ListN.{drop}
use Rattle.language.specs.Text.{among}
use Rattle.language.specs.Words.{Word}
use Rattle.language.specs.Tree.{Declared, assign, write}
use Rattle.language.specs.Reader.{ok, bad, on, is_name, expect, until}
use Rattle.language.specs.Parser.{expr_p, assignment_p}
use Rattle.words.specs.Table.{word_of}
use Rattle.readers.specs.Marks.{kind_at, value_at, name_at, spelled_at, Marked, is_memory}
use Rattle.rule_reader.specs.States.{binding_p}
use Rattle.readers.proofs.Spells.{kind_inside, kind_is, word_found, on_miss, name_miss}
use Rattle.readers.specs.Meets.{Finds, Lacks}

module _ {text : List ℕ} {ms : List (List ℕ)} {w : List ℕ} {ws : List Word} (M : Marked text ms w ws) (f at : ℕ) where
  among_at : kind_at w at ≡ 2 → among ms (spelled_at text w at) ≡ is_memory (value_at w at)
  among_at e = let i = kind_inside w at 2 (omega arith) e in M.memory at i (sym (kind_is w at i) ∙ e)

  pub assignment_plain : kind_at w at ≡ 2 → is_memory (value_at w at) ≡ false → assignment_p ms f (name_at text w at) (drop (at + 1) ws)
      ≡ expect "=" (drop (at + 1) ws) (λ p r. until (expr_p ms f false r) ";" (λ e q x. ok (assign (name_at text w at) e) x))
  unfolding assignment_p
  assignment_plain e q = simp (assignment_p, among_at e ∙ q)

  pub assignment_memory : kind_at w at ≡ 2 → is_memory (value_at w at) ≡ true → assignment_p ms f (name_at text w at) (drop (at + 1) ws)
      ≡ expect "[" (drop (at + 1) ws) (λ p r. until (expr_p ms f false r) "]" (λ a q x. expect "=" x (λ s y. until (expr_p ms f false y) ";" (λ e t z. ok (write (name_at text w at) a e) z))))
  unfolding assignment_p
  assignment_memory e q = simp (assignment_p, among_at e ∙ q)

  pub binding_name : (d : Declared) {y : ℕ} → Finds w at 2 y → binding_p ms f d (drop at ws)
      ≡ expect "=" (drop y ws) (λ q z. until (expr_p ms f false z) ";" (λ e s l. ok (record { type = d; called = name_at text w at; value = e }) l))
  unfolding binding_p on is_name word_of
  binding_name d e = ap (binding_p ms f d) (word_found M at 2 (omega arith) e)

  pub binding_none : (d : Declared) {i : ℕ} → Lacks w at 2 i → binding_p ms f d (drop at ws) ≡ bad (drop i ws)
  unfolding binding_p
  binding_none d h = on_miss M is_name _ _ at (λ p l v. name_miss text p l v _ h.kind) ∙ ap (λ (y : ℕ). bad (drop y ws)) (sym h.stays)
