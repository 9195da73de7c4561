-- Expressions: no word past a fault is looked at. Two runs, on words that are the same up to a word w and with it, go alike until one is past w.
-- Only the `|` that ends an arm is known by the words after it. Assumes nothing.
use mathlib.Core.Path.{◌≡◌, refl, sym, ◌∙◌}
use mathlib.Core.Bool.{Bool, true, false}
use mathlib.Core.List.{List, [], ◌∷◌}
use mathlib.Core.Option.{Option, none, some}
use Prim.Native.Nat.{ℕ, zero, suc}
use native.Mathlib.Omega.{arith}
use lib.ListN.{length}
use Rattle.language.specs.Text.{Name, among}
use Rattle.language.specs.Words.{Word, num, name, digits, fixed, Numeral}
use Rattle.language.specs.Tree.{Breadth, Expr, beside, binary, choice, arm}
use Rattle.language.specs.Grammar.{Operator}
use Rattle.language.specs.Reader.{Res, ok, bind, on, is_num, is_name, is_digits, is, expect, until}
use Rattle.language.specs.Parser.{is_word, ahead, arm_ends, is_operator, is_prefix, amount_p, part_p, expr_p, cond_l, bin_p, bin_l, operand_p, number_p, named_p, part_l, arms_p}
use Rattle.language.proofs.Tests.{never, differ, is_tells}
use Rattle.language.proofs.Laws.{Shrinks, h_ok, h_bad, h_dry, good_shrinks, bind_shrinks, on_shrinks, if_shrinks, expect_shrinks, until_shrinks, Swap, here, there, Like, l_ok, l_past, l_stop, nowhere, Pair}
use Rattle.language.proofs.Laws.{ok_pair, bad_pair, dry_pair, stop_pair, bind_pair, on_pair, expect_pair, until_pair, if_like, if_pair, if_first, if_both}
use Rattle.language.proofs.Types.{type_pair}
use Rattle.language.proofs.Good.{expr_good, arms_good}

-- ---- the rests at which a run may stop for what lies past w: a `|` that ends an arm; whoever reads on from there is past w

pub record Stop (ms : List (List ℕ)) (b : Bool) (r s : List Word) : Type 0 where
  pub flag : b ≡ true
  pub place : ℕ
  pub after : List Word
  pub begins : s ≡ fixed "|" place ∷ after
  pub ends : ahead after ≡ true
  pub past : (f : ℕ) → Shrinks (length r) (arms_p ms f after)

pub off : {ms : List (List ℕ)} {r : List Word} (s : List Word) → Stop ms false r s → ⊥
off s i = differ i.flag

-- ---- the words after a `|` are the same in both lists, or w is among them

data Cross (r : List Word) : Bool → List Word → List Word → Type 0 where
  x_same : {b : Bool} {ws ws' : List Word} → arm_ends b ws ≡ arm_ends b ws' → Cross r b ws ws'
  x_bar : (p : ℕ) {ws' : List Word} → Cross r true (fixed "|" p ∷ r) ws'
  x_num : (p : ℕ) (n : Numeral) {ws' : List Word} → Cross r true (fixed "|" p ∷ num n ∷ r) ws'

arrow_same : {w : Word} {r c s s' : List Word} → Swap w r c s s' → is_word "=>" s ≡ is_word "=>" s'
unfolding is_word
arrow_same here = refl
arrow_same (there x i) = refl

cross_next : (p : ℕ) {w : Word} {r c s s' : List Word} → Swap w r c s s' → Cross r true (fixed "|" p ∷ s) (fixed "|" p ∷ s')
unfolding arm_ends ahead is_word is is_num
cross_next p {w = num n} here = x_num p n
cross_next p {w = name n} here = x_same refl
cross_next p {w = digits n} here = x_same refl
cross_next p {w = fixed s q} here = x_same refl
cross_next p (there (num n) i) = x_same (arrow_same i)
cross_next p (there (name n) i) = x_same refl
cross_next p (there (digits n) i) = x_same refl
cross_next p (there (fixed s q) i) = x_same refl

no_bar : (x : Word) (s : List Word) → is "|" x ≡ none → arm_ends true (x ∷ s) ≡ false
unfolding arm_ends
no_bar x s e = go (is "|" x) e
  where
    go : (v : Option ℕ) → v ≡ none → elim v as (λ (z : Option ℕ). Bool) [ some p ↦ ahead s | none ↦ false ] ≡ false
    go (some p) h = never (cc)
    go none h = refl

cross : (b : Bool) {w : Word} {r c ws ws' : List Word} → Swap w r c ws ws' → Cross r b ws ws'
unfolding arm_ends
cross false i = x_same refl
cross true {w} {r} {c} here = go (is "|" w) refl
  where
    go : (v : Option ℕ) → is "|" w ≡ v → Cross r true (w ∷ r) (w ∷ c)
    go (some p) e = rw (is_tells "|" w p e) (x_bar p)
    go none e = x_same (no_bar w r e ∙ sym (no_bar w c e))
cross true {r = r} (there x {s} {s'} i) = go (is "|" x) refl (λ p. cross_next p i)
  where
    go : (v : Option ℕ) → is "|" x ≡ v → ((p : ℕ) → Cross r true (fixed "|" p ∷ s) (fixed "|" p ∷ s')) → Cross r true (x ∷ s) (x ∷ s')
    go (some p) e n = rw (is_tells "|" x p e) (n p)
    go none e n = x_same (no_bar x s e ∙ sym (no_bar x s' e))

module _ {M : List Word → Type 0} {w : Word} {r c : List Word} where
  -- the first run goes on and the second may stop: the first reads an operator, and is past w then, or both stop
  over : (n : ℕ) (a : Expr) (g : Operator → List Word → Res Expr) (e : Bool) {ws ws' : List Word} → Swap w r c ws ws' → ((o : Operator) (x : Word) (s : List Word) → ws ≡ x ∷ s → Shrinks (length r) (g o s))
      → Like {T = Expr} M w r c (on (is_operator n) ws g (λ ws. ok a ws)) (elim e [ true ↦ ok a ws' | false ↦ on (is_operator n) ws' g (λ ws. ok a ws) ])
  unfolding on
  over n a g e here h = go (is_operator n w)
    where
      go : (v : Option Operator) → Like {T = Expr} M w r c (elim v [ some o ↦ g o r | none ↦ ok a (w ∷ r) ]) (elim e [ true ↦ ok a (w ∷ c) | false ↦ elim v [ some o ↦ g o c | none ↦ ok a (w ∷ c) ] ])
      go (some o) = l_past (h o w r refl)
      go none = if_both e (l_ok here)
  over n a g e (there x {s} {s'} i) h = go (is_operator n x)
    where
      go : (v : Option Operator) → Like {T = Expr} M w r c (elim v [ some o ↦ g o s | none ↦ ok a (x ∷ s) ]) (elim e [ true ↦ ok a (x ∷ s') | false ↦ elim v [ some o ↦ g o s' | none ↦ ok a (x ∷ s') ] ])
      go (some o) = l_past (h o x s refl)
      go none = if_both e (l_ok (there x i))

tail_eq : (x y : Word) (s l : List Word) → x ∷ s ≡ y ∷ l → s ≡ l
tail_eq x y s l e = cc

module _ (ms : List (List ℕ)) where
  arms_past : (f : ℕ) (n : Numeral) (r : List Word) → Shrinks (length r) (arms_p ms f (num n ∷ r))
  unfolding expr_p on is_num
  arms_past zero n r = h_dry
  arms_past (suc f) n r = expect_shrinks "=>" r _ (λ p x. until_shrinks "|" _ (good_shrinks (expr_good ms f true x)) (λ a q y. bind_shrinks _ (good_shrinks (arms_good ms f y)) (λ d z. h_ok z (omega arith))))

  number_past : (f : ℕ) (n : Numeral) (s : List Word) → Shrinks (length s) (number_p ms f n s)
  unfolding expr_p
  number_past zero n s = h_dry
  number_past (suc f) n s = on_shrinks is_digits _ _ s (λ m x. h_ok x (omega arith))
      (on_shrinks (is "'d") _ _ s (λ p x. on_shrinks is_name _ _ x (λ m y. h_ok y (omega arith)) (h_bad x (omega arith)))
      (on_shrinks (is "{") _ _ s (λ p x. until_shrinks "}" _ (good_shrinks (expr_good ms f false x)) (λ a q y. h_ok y (omega arith))) (h_ok s (omega arith))))

  operand_past : (f : ℕ) (n : Numeral) (s : List Word) → Shrinks (length s) (operand_p ms f (num n ∷ s))
  unfolding expr_p on is_num
  operand_past zero n s = h_dry
  operand_past (suc f) n s = number_past f n s

  look : {b : Bool} {w : Word} {r c ws ws' : List Word} (n : ℕ) (a : Expr) (g : Operator → List Word → Res Expr) → Cross r b ws ws' → Swap w r c ws ws'
      → Like (Stop ms b r) w r c (on (is_operator n) ws g (λ ws. ok a ws)) (on (is_operator n) ws' g (λ ws. ok a ws))
      → ((o : Operator) (s : List Word) → Shrinks (length s) (g o s)) → ((o : Operator) (v : Numeral) → Shrinks (length r) (g o (num v ∷ r)))
      → Like {T = Expr} (Stop ms b r) w r c (elim (arm_ends b ws) [ true ↦ ok a ws | false ↦ on (is_operator n) ws g (λ ws. ok a ws) ]) (elim (arm_ends b ws') [ true ↦ ok a ws' | false ↦ on (is_operator n) ws' g (λ ws. ok a ws) ])
  unfolding arm_ends is
  look n a g (x_same e) i p h q = if_like _ _ _ _ _ _ e (l_ok i) p
  look {r = r} n a g (x_bar j {ws'}) i p h q = if_first (ahead r) _ _ _
      (λ e. l_stop (fixed "|" j ∷ r) (record { flag = refl; place = j; after = r; begins = refl; ends = e; past = λ f. good_shrinks (arms_good ms f r) }))
      (λ e. over n a g (arm_ends true ws') i (λ o x s k. rw (← tail_eq _ _ _ _ k) (h o r)))
  look {r = r} n a g (x_num j v {ws'}) i p h q = if_first (ahead (num v ∷ r)) _ _ _
      (λ e. l_stop (fixed "|" j ∷ num v ∷ r) (record { flag = refl; place = j; after = num v ∷ r; begins = refl; ends = e; past = λ f. arms_past f v r }))
      (λ e. over n a g (arm_ends true ws') i (λ o x s k. rw (← tail_eq _ _ _ _ k) (q o v)))

-- ---- the parser

module _ (w : Word) (r c : List Word) where
  amount_pair : {M : List Word → Type 0} (b : Breadth) (ws ws' : List Word) → Pair M w r c ws ws' (amount_p b ws) (amount_p b ws')
  unfolding amount_p
  amount_pair b ws ws' = on_pair is_digits _ _ ws ws' (λ n s s'. ok_pair _) (expect_pair "'d" _ ws ws' (λ p s s'. on_pair is_name _ _ s s' (λ n s s'. ok_pair _) bad_pair))

  part_pair : {M : List Word → Type 0} (f : ℕ) (a : Expr) (ws ws' : List Word) → Pair M w r c ws ws' (part_p f a ws) (part_p f a ws')
  unfolding part_p
  part_pair f a ws ws' = on_pair (is "[") _ _ ws ws'
      (λ p s s'. bind_pair _ nowhere (type_pair w r c f s s') (λ i s s'. on_pair (is ":") _ _ s s'
      (λ q s s'. until_pair "]" _ nowhere (type_pair w r c f s s') (λ j q s s'. ok_pair _)) (expect_pair "]" _ s s' (λ q s s'. ok_pair _))))
      (ok_pair a)

module _ (ms : List (List ℕ)) (w : Word) (r c : List Word) where
  cond_l_stop_law : (f : ℕ) (b : Bool) (t : Expr) (s : List Word) (y : Res Expr) → Stop ms b r s → Like (Stop ms b r) w r c (cond_l ms f b t s) y
  unfolding expr_p on is
  cond_l_stop_law zero b t s y i = l_past h_dry
  cond_l_stop_law (suc f) b t s y i = rw i.begins (l_stop _ (rw i.begins at i))

  bin_l_stop_law : (f : ℕ) (b : Bool) (n : ℕ) (t : Expr) (s : List Word) (y : Res Expr) → Stop ms b r s → Like (Stop ms b r) w r c (bin_l ms f b n t s) y
  unfolding expr_p arm_ends is
  bin_l_stop_law zero b n t s y i = l_past h_dry
  bin_l_stop_law (suc f) b n t s y i = if_first (arm_ends b s) _ _ _ (λ j. l_stop s i) (λ j. differ (sym j ∙ (rw (i.flag, i.begins) i.ends)))

  arms_p_stop_law : (f : ℕ) (M : List Word → Type 0) (k : Expr → Expr) (s : List Word) (y : Res Expr) → Stop ms true r s → Like M w r c (expect "|" s (λ q y. bind (arms_p ms f y) (λ d z. ok (k d) z))) y
  unfolding expect on is
  arms_p_stop_law f M k s y i = rw i.begins (l_past (bind_shrinks _ (i.past f) (λ d z. h_ok z (omega arith))))

  mutual
    unfolding expr_p until

    pub expr_pair : (f : ℕ) (b : Bool) (ws ws' : List Word) → Pair (Stop ms b r) w r c ws ws' (expr_p ms f b ws) (expr_p ms f b ws')
    expr_pair zero b ws ws' = dry_pair
    expr_pair (suc f) b ws ws' = on_pair (is "if") _ _ ws ws'
        (λ p s s'. until_pair "then" _ off (expr_pair f false s s') (λ a q s s'. until_pair "else" _ off (expr_pair f false s s') (λ d q s s'. stop_pair _ (expr_pair f b s s') (λ e s s'. ok_pair _) (λ t s y i. l_stop s i))))
        (stop_pair _ (bin_pair f b 9 ws ws') (λ a s s'. cond_l_pair_law f b a s s') (λ t s y i. cond_l_stop_law f b t s y i))

    cond_l_pair_law : (f : ℕ) (b : Bool) (a : Expr) (ws ws' : List Word) → Pair (Stop ms b r) w r c ws ws' (cond_l ms f b a ws) (cond_l ms f b a ws')
    cond_l_pair_law zero b a ws ws' = dry_pair
    cond_l_pair_law (suc f) b a ws ws' = on_pair (is "?") _ _ ws ws'
        (λ p s s'. until_pair ":" _ off (expr_pair f false s s') (λ d q s s'. stop_pair _ (bin_pair f b 9 s s') (λ e s s'. cond_l_pair_law f b (choice a d e) s s') (λ t s y i. cond_l_stop_law f b _ s y i))) (ok_pair a)

    bin_pair : (f : ℕ) (b : Bool) (n : ℕ) (ws ws' : List Word) → Pair (Stop ms b r) w r c ws ws' (bin_p ms f b n ws) (bin_p ms f b n ws')
    bin_pair zero b n ws ws' = dry_pair
    bin_pair (suc f) b n ws ws' = bind_pair _ off (operand_pair f false ws ws') (λ a s s'. bin_l_pair_law f b n a s s')

    bin_l_pair_law : (f : ℕ) (b : Bool) (n : ℕ) (a : Expr) (ws ws' : List Word) → Pair (Stop ms b r) w r c ws ws' (bin_l ms f b n a ws) (bin_l ms f b n a ws')
    bin_l_pair_law zero b n a ws ws' = dry_pair
    bin_l_pair_law (suc f) b n a ws ws' =
        let go : (o : Operator) (s s' : List Word) → Pair (Stop ms b r) w r c s s' (bind (bin_p ms f b o.level s) (λ d x. bin_l ms f b n (binary o.which a d) x)) (bind (bin_p ms f b o.level s') (λ d x. bin_l ms f b n (binary o.which a d) x))
        = λ o s s'. stop_pair _ (bin_pair f b o.level s s') (λ d s s'. bin_l_pair_law f b n (binary o.which a d) s s') (λ t s y i. bin_l_stop_law f b n (binary o.which a t) s y i) in
        let p : Pair (Stop ms b r) w r c ws ws' (on (is_operator n) ws (λ o r. bind (bin_p ms f b o.level r) (λ d x. bin_l ms f b n (binary o.which a d) x)) (λ ws. ok a ws))
        (on (is_operator n) ws' (λ o r. bind (bin_p ms f b o.level r) (λ d x. bin_l ms f b n (binary o.which a d) x)) (λ ws. ok a ws))
        = on_pair (is_operator n) _ _ ws ws' go (ok_pair a) in
        record {
          shrinks = if_shrinks (arm_ends b ws) (h_ok ws (omega arith)) p.shrinks;
          like = λ i. look ms n a _ (cross b i) i (p.like i) (λ o s. (go o s s).shrinks) (λ o v. bind_shrinks _ (num_past f b o.level v r) (λ t s. (bin_l_pair_law f b n (binary o.which a t) s s).shrinks));
        }

    num_past : (f : ℕ) (b : Bool) (n : ℕ) (v : Numeral) (s : List Word) → Shrinks (length s) (bin_p ms f b n (num v ∷ s))
    num_past zero b n v s = h_dry
    num_past (suc f) b n v s = bind_shrinks _ (operand_past ms f v s) (λ t s. (bin_l_pair_law f b n t s s).shrinks)

    operand_pair : (f : ℕ) (b : Bool) (ws ws' : List Word) → Pair (Stop ms b r) w r c ws ws' (operand_p ms f ws) (operand_p ms f ws')
    operand_pair zero b ws ws' = dry_pair
    operand_pair (suc f) b ws ws' = on_pair is_num _ _ ws ws' (λ n s s'. number_pair f b n s s')
        (on_pair (is "<") _ _ ws ws' (λ p s s'. until_pair ">" _ nowhere (type_pair w r c f s s') (λ t q s s'. amount_pair w r c _ s s'))
        (on_pair is_name _ _ ws ws' (λ n s s'. named_pair f b n s s')
        (on_pair (is "(") _ _ ws ws' (λ p s s'. until_pair ")" _ off (expr_pair f false s s') (λ a q s s'. part_pair w r c f _ s s'))
        (on_pair (is "{") _ _ ws ws' (λ p s s'. bind_pair _ off (expr_pair f false s s') (λ a s s'. until_pair "}" _ off (part_l_pair_law f a s s') (λ e q s s'. ok_pair _)))
        (on_pair is_prefix _ _ ws ws' (λ u s s'. bind_pair _ off (operand_pair f false s s') (λ a s s'. ok_pair _))
        (on_pair (is "case") _ _ ws ws'
        (λ p s s'. expect_pair "(" _ s s' (λ q s s'. until_pair ")" _ off (expr_pair f false s s') (λ a q s s'. expect_pair "{" _ s s' (λ q s s'. bind_pair _ off (arms_pair f s s') (λ d s s'. ok_pair _)))))
        bad_pair))))))

    number_pair : (f : ℕ) (b : Bool) (n : Numeral) (ws ws' : List Word) → Pair (Stop ms b r) w r c ws ws' (number_p ms f n ws) (number_p ms f n ws')
    number_pair zero b n ws ws' = dry_pair
    number_pair (suc f) b n ws ws' = on_pair is_digits _ _ ws ws' (λ m s s'. ok_pair _)
        (on_pair (is "'d") _ _ ws ws' (λ p s s'. on_pair is_name _ _ s s' (λ m s s'. ok_pair _) bad_pair)
        (on_pair (is "{") _ _ ws ws' (λ p s s'. until_pair "}" _ off (expr_pair f false s s') (λ a q s s'. ok_pair _))
        (ok_pair _)))

    named_pair : (f : ℕ) (b : Bool) (n : Name) (ws ws' : List Word) → Pair (Stop ms b r) w r c ws ws' (named_p ms f n ws) (named_p ms f n ws')
    named_pair zero b n ws ws' = dry_pair
    named_pair (suc f) b n ws ws' = if_pair (among ms n.spelled) (expect_pair "[" _ ws ws' (λ p s s'. until_pair "]" _ off (expr_pair f false s s') (λ a q s s'. ok_pair _))) (part_pair w r c f _ ws ws')

    part_l_pair_law : (f : ℕ) (a : Expr) (ws ws' : List Word) → Pair (Stop ms false r) w r c ws ws' (part_l ms f a ws) (part_l ms f a ws')
    part_l_pair_law zero a ws ws' = dry_pair
    part_l_pair_law (suc f) a ws ws' = on_pair (is ",") _ _ ws ws' (λ p s s'. bind_pair _ off (expr_pair f false s s') (λ d s s'. part_l_pair_law f (beside a d) s s')) (ok_pair a)

    arms_pair : (f : ℕ) (ws ws' : List Word) → Pair (Stop ms false r) w r c ws ws' (arms_p ms f ws) (arms_p ms f ws')
    arms_pair zero ws ws' = dry_pair
    arms_pair (suc f) ws ws' = on_pair is_num _ _ ws ws'
        (λ n s s'. expect_pair "=>" _ s s' (λ p s s'. stop_pair _ (expr_pair f true s s') (λ a s s'. expect_pair "|" _ s s' (λ q s s'. bind_pair _ off (arms_pair f s s') (λ d s s'. ok_pair _)))
        (λ t s y i. arms_p_stop_law f _ (arm n t) s y i)))
        (on_pair (is "_") _ _ ws ws' (λ p s s'. expect_pair "=>" _ s s' (λ q s s'. until_pair "}" _ off (expr_pair f false s s') (λ a q s s'. ok_pair _))) bad_pair)
