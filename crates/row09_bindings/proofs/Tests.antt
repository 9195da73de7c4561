-- What a search of a section of the bindings' lines says of a name. Assumes nothing.
use Rattle.std.proofs.Common.{◌≡◌, ap, ◌∙◌, not, List, ℕ, ◌+◌, ◌-◌, arith, eqb}
use Rattle.language.specs.Text.{index, among}
use Rattle.bindings.specs.declared.Lines.{Lines}
use Rattle.row09_bindings.specs.Lines.{names_on}
use Rattle.row09_bindings.proofs.Indices.{found_lacks}

-- the answer is the section's end where no line has the name
module _ (btext table : List ℕ) (lines : Lines) (n : List ℕ) {r : ℕ} where
  pub lacks_value : {end : ℕ} → end ≡ lines.widths + lines.values → r ≡ lines.widths + index (names_on btext table lines.widths (end - lines.widths)) n → eqb r end ≡ not (among (names_on btext table lines.widths lines.values) n)
  lacks_value {end} q f = found_lacks btext table lines.widths end (omega arith) n f ∙ ap (λ (m : ℕ). not (among (names_on btext table lines.widths m) n)) (let e : end - lines.widths ≡ lines.values = omega arith in e)

  pub lacks_width : r ≡ 0 + index (names_on btext table 0 (lines.widths - 0)) n → eqb r lines.widths ≡ not (among (names_on btext table 0 lines.widths) n)
  lacks_width f = found_lacks btext table 0 lines.widths (omega arith) n f ∙ ap (λ (m : ℕ). not (among (names_on btext table 0 m) n)) (let e : lines.widths - 0 ≡ lines.widths = omega arith in e)
