-- Expressions: the fuel is enough, 16 for each word and 6. Assumes nothing.
use mathlib.Core.Bool.{Bool, true, false}
use mathlib.Core.List.{List, []}
use Prim.Native.Nat.{ℕ, zero, suc, ◌+◌, ◌*◌, ◌<◌}
use native.Mathlib.Omega.{arith}
use lib.ListN.{length}
use Rattle.language.specs.Text.{Name, among}
use Rattle.language.specs.Words.{Word, Numeral}
use Rattle.language.specs.Tree.{Expr, Breadth, beside, binary, choice}
use Rattle.language.specs.Reader.{is_num, is_name, is_digits, is}
use Rattle.language.specs.Parser.{arm_ends, is_operator, is_prefix, amount_p, part_p, expr_p, cond_l, bin_p, bin_l, operand_p, number_p, named_p, part_l, arms_p}
use Rattle.language.proofs.Laws.{Settled, s_ok, s_bad, more, on_settled, if_settled, bind_settled, expect_settled, until_settled}
use Rattle.language.proofs.Types.{type_settled}

amount_settled : (w : Breadth) (ws : List Word) → Settled (suc (length ws)) (amount_p w ws)
unfolding amount_p
amount_settled w ws = on_settled is_digits ws _ _ (λ n r e. s_ok r (omega arith)) (expect_settled "'d" ws _ (λ p r e. on_settled is_name r _ _ (λ n x i. s_ok x (omega arith)) s_bad))

part_settled : (f : ℕ) (a : Expr) (ws : List Word) → 16 * length ws < f → Settled (suc (length ws)) (part_p f a ws)
unfolding part_p
part_settled f a ws h = on_settled (is "[") ws _ _
    (λ p r e. bind_settled _ (type_settled f r (omega arith)) (λ i x j. on_settled (is ":") x _ _
    (λ q y k. until_settled "]" _ (type_settled f y (omega arith)) (λ t s z l. s_ok z (omega arith)))
    (expect_settled "]" x _ (λ q y k. s_ok y (omega arith)))))
    (s_ok ws (omega arith))

module _ (ms : List (List ℕ)) where
  mutual
    unfolding expr_p

    pub expr_settled : (f : ℕ) (b : Bool) (ws : List Word) → 16 * length ws + 5 < f → Settled (length ws) (expr_p ms f b ws)
    expr_settled zero b ws h = absurd (omega arith)
    expr_settled (suc f) b ws h = on_settled (is "if") ws _ _
        (λ p r e. until_settled "then" _ (expr_settled f false r (omega arith)) (λ a q x i. until_settled "else" _ (expr_settled f false x (omega arith)) (λ c s y j. bind_settled _ (expr_settled f b y (omega arith)) (λ d z k. s_ok z (omega arith)))))
        (bind_settled _ (bin_settled f b 9 ws (omega arith)) (λ a x i. more (omega arith) (cond_l_settled_law f b a x (omega arith))))

    cond_l_settled_law : (f : ℕ) (b : Bool) (a : Expr) (ws : List Word) → 16 * length ws < f → Settled (suc (length ws)) (cond_l ms f b a ws)
    cond_l_settled_law zero b a ws h = absurd (omega arith)
    cond_l_settled_law (suc f) b a ws h = on_settled (is "?") ws _ _
        (λ p r e. until_settled ":" _ (expr_settled f false r (omega arith)) (λ c q x i. bind_settled _ (bin_settled f b 9 x (omega arith)) (λ d y j. more (omega arith) (cond_l_settled_law f b (choice a c d) y (omega arith)))))
        (s_ok ws (omega arith))

    bin_settled : (f : ℕ) (b : Bool) (n : ℕ) (ws : List Word) → 16 * length ws + 4 < f → Settled (length ws) (bin_p ms f b n ws)
    bin_settled zero b n ws h = absurd (omega arith)
    bin_settled (suc f) b n ws h = bind_settled _ (operand_settled f ws (omega arith)) (λ a x i. more (omega arith) (bin_l_settled_law f b n a x (omega arith)))

    bin_l_settled_law : (f : ℕ) (b : Bool) (n : ℕ) (a : Expr) (ws : List Word) → 16 * length ws < f → Settled (suc (length ws)) (bin_l ms f b n a ws)
    bin_l_settled_law zero b n a ws h = absurd (omega arith)
    bin_l_settled_law (suc f) b n a ws h = if_settled (arm_ends b ws) (s_ok ws (omega arith)) (on_settled (is_operator n) ws _ _
        (λ o r e. bind_settled _ (bin_settled f b o.level r (omega arith)) (λ c x i. more (omega arith) (bin_l_settled_law f b n (binary o.which a c) x (omega arith))))
        (s_ok ws (omega arith)))

    operand_settled : (f : ℕ) (ws : List Word) → 16 * length ws + 3 < f → Settled (length ws) (operand_p ms f ws)
    operand_settled zero ws h = absurd (omega arith)
    operand_settled (suc f) ws h = on_settled is_num ws _ _ (λ n r e. more (omega arith) (number_settled f n r (omega arith)))
        (on_settled (is "<") ws _ _ (λ p r e. until_settled ">" _ (type_settled f r (omega arith)) (λ t q x i. more (omega arith) (amount_settled _ x)))
        (on_settled is_name ws _ _ (λ n r e. more (omega arith) (named_settled f n r (omega arith)))
        (on_settled (is "(") ws _ _ (λ p r e. until_settled ")" _ (expr_settled f false r (omega arith)) (λ a q x i. more (omega arith) (part_settled f _ x (omega arith))))
        (on_settled (is "{") ws _ _ (λ p r e. bind_settled _ (expr_settled f false r (omega arith)) (λ a x i. until_settled "}" _ (part_l_settled_law f a x (omega arith)) (λ c q y j. s_ok y (omega arith))))
        (on_settled is_prefix ws _ _ (λ u r e. bind_settled _ (operand_settled f r (omega arith)) (λ a x i. s_ok x (omega arith)))
        (on_settled (is "case") ws _ _
        (λ p r e. expect_settled "(" r _ (λ q x i. until_settled ")" _ (expr_settled f false x (omega arith)) (λ a s y j. expect_settled "{" y _ (λ t z k.
        bind_settled _ (arms_settled f z (omega arith)) (λ c l n. s_ok l (omega arith))))))
        s_bad))))))

    number_settled : (f : ℕ) (n : Numeral) (ws : List Word) → 16 * length ws < f → Settled (suc (length ws)) (number_p ms f n ws)
    number_settled zero n ws h = absurd (omega arith)
    number_settled (suc f) n ws h = on_settled is_digits ws _ _ (λ m r e. s_ok r (omega arith))
        (on_settled (is "'d") ws _ _ (λ p r e. on_settled is_name r _ _ (λ m x i. s_ok x (omega arith)) s_bad)
        (on_settled (is "{") ws _ _ (λ p r e. until_settled "}" _ (expr_settled f false r (omega arith)) (λ a q x i. s_ok x (omega arith)))
        (s_ok ws (omega arith))))

    named_settled : (f : ℕ) (n : Name) (ws : List Word) → 16 * length ws + 1 < f → Settled (suc (length ws)) (named_p ms f n ws)
    named_settled zero n ws h = absurd (omega arith)
    named_settled (suc f) n ws h = if_settled (among ms n.spelled)
        (expect_settled "[" ws _ (λ p r e. until_settled "]" _ (expr_settled f false r (omega arith)) (λ a q x i. s_ok x (omega arith))))
        (part_settled f _ ws (omega arith))

    part_l_settled_law : (f : ℕ) (a : Expr) (ws : List Word) → 16 * length ws < f → Settled (suc (length ws)) (part_l ms f a ws)
    part_l_settled_law zero a ws h = absurd (omega arith)
    part_l_settled_law (suc f) a ws h = on_settled (is ",") ws _ _ (λ p r e. bind_settled _ (expr_settled f false r (omega arith)) (λ c x i. more (omega arith) (part_l_settled_law f (beside a c) x (omega arith)))) (s_ok ws (omega arith))

    arms_settled : (f : ℕ) (ws : List Word) → 16 * length ws < f → Settled (length ws) (arms_p ms f ws)
    arms_settled zero ws h = absurd (omega arith)
    arms_settled (suc f) ws h = on_settled is_num ws _ _
        (λ n r e. expect_settled "=>" r _ (λ p x i. until_settled "|" _ (expr_settled f true x (omega arith)) (λ a q y j. bind_settled _ (arms_settled f y (omega arith)) (λ c z k. s_ok z (omega arith)))))
        (on_settled (is "_") ws _ _ (λ p r e. expect_settled "=>" r _ (λ q x i. until_settled "}" _ (expr_settled f false x (omega arith)) (λ a s y j. s_ok y (omega arith)))) s_bad)
