-- The lines of a table are the bindings that it holds. Assumes nothing.
use mathlib.Core.Path.{◌≡◌, refl, sym, ap, ◌∙◌, subst}
use mathlib.Core.Bool.{Bool, true, false, ◌&&◌}
use lib.Dec.{leb}
use borrow.Author.Tests.{leb-true}
use mathlib.Core.List.{List, [], ◌∷◌, ◌++◌, append_assoc}
use Prim.Native.Nat.{ℕ, zero, suc, ◌+◌, ◌*◌, ◌≤◌}
use native.Mathlib.Omega.{arith}
use lib.ListN.{length, get_or, take, drop, take-append-drop, length-append}
use lib.Seq.{sets, sets-eq, length-sets, get_or-drop, drop-drop, take_at, drop_at}
use Rattle.language.specs.Limits.{limits}
use Rattle.language.specs.Parts.{each}
use Rattle.language.specs.Tree.{spelled_of}
use Rattle.language.specs.Bindings.{Binding, Bindings, Bound, bound, wrong_at, bindings_of}
use Rattle.language.specs.Widths.{bound_names}
use Rattle.bindings.specs.Table.{cells, table_of, so_many, Lined, roomy, Answer, answer_of, table_after}
use Rattle.binding_names.specs.Names.{line_in}
use Rattle.bindings.specs.declared.Lines.{Lines}
use Rattle.bindings.specs.declared.Fault.TheVariants.{Wrong, NoRoom}
use Rattle.std.specs.Prelude.{Ok, Err}
use Rattle.placed.specs.Placed.{Every}
use Rattle.row09_bindings.specs.Lines.{name_on, names_on, lines_on, Binds}
use Rattle.row09_bindings.proofs.Spelled.{NameStands, bound_names_law}

module _ (btext t : List ℕ) where
  line_is : (i : ℕ) (x : Binding) (l : List ℕ) → NameStands btext x → drop (3 * i) t ≡ x.called.at ∷ length x.called.spelled ∷ x.value ∷ l → line_in btext t i ≡ x
  unfolding line_in
  line_is i x l h e =
      let p : get_or t (3 * i) 0 ≡ x.called.at = ap (λ (n : ℕ). get_or t n 0) (omega arith) ∙ sym (get_or-drop (3 * i) t 0 0) ∙ ap (λ (l : List ℕ). get_or l 0 0) e in
      let q : get_or t (3 * i + 1) 0 ≡ length x.called.spelled = sym (get_or-drop (3 * i) t 1 0) ∙ ap (λ (l : List ℕ). get_or l 1 0) e in
      let r : get_or t (3 * i + 2) 0 ≡ x.value = sym (get_or-drop (3 * i) t 2 0) ∙ ap (λ (l : List ℕ). get_or l 2 0) e in
      rw (p, q, r) (ap (λ (s : List ℕ). record { called = record { at = x.called.at; spelled = s }; value = x.value }) (sym h))

  lines_are : (l : List Binding) (from : ℕ) (rest : List ℕ) → Every (NameStands btext) l → drop (3 * from) t ≡ cells l ++ rest → lines_on btext t from (length l) ≡ l
  unfolding lines_on cells
  lines_are [] from rest h e = refl
  lines_are (x ∷ l) from rest h e =
      let n : 3 * suc from ≡ 3 * from + 3 = omega arith in
      let i = line_is from x (cells l ++ rest) h.0 e in
      let j = lines_are l (suc from) rest h.1 (ap (λ (n : ℕ). drop n t) n ∙ sym (drop-drop 3 (3 * from) t) ∙ ap (drop 3) e) in
      cc

  pub names_are : (from n : ℕ) → names_on btext t from n ≡ spelled_of (bound_names (lines_on btext t from n))
  unfolding names_on lines_on bound_names each spelled_of line_in
  names_are from zero = refl
  names_are from (suc n) = ap (λ (r : List (List ℕ)). name_on btext t from ∷ r) (names_are (suc from) n)

cells_long : (l : List Binding) → length (cells l) ≡ 3 * length l
unfolding cells
cells_long [] = refl
cells_long (x ∷ l) = let e = cells_long l in omega arith

-- the lines of both sections
module _ {btext t : List ℕ} {lines : Lines} {b : Bindings} (h : Binds btext t lines b) where
  holds_all : t ≡ cells b.widths ++ (cells b.values ++ drop (3 * (lines.widths + lines.values)) t)
  unfolding table_of
  holds_all = sym (take-append-drop (3 * (lines.widths + lines.values)) t) ∙ ap (λ (l : List ℕ). l ++ drop (3 * (lines.widths + lines.values)) t) h.holds ∙ append_assoc (cells b.widths) (cells b.values) (drop (3 * (lines.widths + lines.values)) t)

  pub widths_on : lines_on btext t 0 lines.widths ≡ b.widths
  widths_on = ap (lines_on btext t 0) h.widths ∙ lines_are btext t b.widths 0 _ (bound_names_law btext h.reads).widths holds_all

  pub values_on : lines_on btext t lines.widths lines.values ≡ b.values
  values_on = ap (lines_on btext t lines.widths) h.values ∙ lines_are btext t b.values lines.widths _ (bound_names_law btext h.reads).values (ap (drop (3 * lines.widths)) holds_all ∙ drop_at (cells b.widths) _ (3 * lines.widths) (let e = cells_long b.widths in let f = h.widths in omega arith))

-- ---- the table that `bindings::read` fills

pub record Filled (btext table : List ℕ) (lines : Lines) : Type 0 where
  pub bindings : Bindings
  pub binds : Binds btext table lines bindings
  pub room : Lined lines table

module _ (btext t : List ℕ) where
  filled : (b : Bindings) → bindings_of btext ≡ bound b → 96 ≤ length t → Filled btext (sets t 0 (table_of b)) (so_many (length b.widths) (length b.values))
  unfolding table_of
  filled b e h =
      record {
        bindings = b;
        binds = record { reads = e; widths = refl; values = refl; holds = ap (take (3 * (length b.widths + length b.values))) (sets-eq (table_of b) t 0 (let f = few in omega arith)) ∙ take_at (table_of b) _ _ long };
        room = let l = length-sets t 0 (table_of b) in let f = few in let g = long in omega arith;
      }
    where
      long : length (cells b.widths ++ cells b.values) ≡ 3 * (length b.widths + length b.values)
      long = let x = length-append (cells b.widths) (cells b.values) in let y = cells_long b.widths in let z = cells_long b.values in omega arith

      few : length (cells b.widths ++ cells b.values) ≤ 96
      few = let l = long in let x = (bound_names_law btext e).few_widths in let y = (bound_names_law btext e).few_values in omega arith

  pub read_fills : {lines : Lines} → answer_of btext t ≡ Ok lines → Filled btext (table_after btext t) lines
  unfolding answer_of table_after roomy
  read_fills {lines} e = go (roomy btext t) refl (bindings_of btext) refl e
    where
      wide : roomy btext t ≡ true → 96 ≤ length t
      wide r = leb-true 96 (length t) (last (leb (length btext) limits.bindings) (leb 96 (length t)) r)
        where
          last : (x y : Bool) → (x && y) ≡ true → y ≡ true
          last true y e = e
          last false y e = absurd (let z : ◌≡◌ {A = ℕ} 0 1 = cc in omega arith)

      go : (r : Bool) → roomy btext t ≡ r → (g : Bound) → bindings_of btext ≡ g → ◌≡◌ {A = Answer} (elim r [ false ↦ Err NoRoom | true ↦ elim g [ bound b ↦ Ok (so_many (length b.widths) (length b.values)) | wrong_at p ↦ Err (Wrong p) ] ]) (Ok lines)
          → Filled btext (elim r [ false ↦ t | true ↦ elim g [ bound b ↦ sets t 0 (table_of b) | wrong_at p ↦ t ] ]) lines
      go false q g f e = absurd (let z : ◌≡◌ {A = ℕ} 0 1 = cc in omega arith)
      go true q (wrong_at p) f e = absurd (let z : ◌≡◌ {A = ℕ} 0 1 = cc in omega arith)
      go true q (bound b) f e =
          let x : so_many (length b.widths) (length b.values) ≡ lines = cc in
          subst (λ (x : Lines). Filled btext (sets t 0 (table_of b)) x) x (filled b f (wide q))
