-- The sections of an accepted actor's plan are sound: counts, widths, sizes, masks and lengths.
use Prim.Native.Nat.{ℕ, zero, suc, ◌+◌, ◌-◌, ◌*◌, ◌/◌, ◌%◌, ◌^◌, ◌≤◌, ◌<◌}
use mathlib.Core.Path.{◌≡◌, refl, sym, ap, ◌∙◌, subst}
use mathlib.Core.List.{List, [], ◌∷◌, ◌++◌, append-nil}
use mathlib.Core.Bool.{Bool, true, false, not, ◌&&◌, ◌||◌, beq, false≢true, true≢false}
use native.Mathlib.Omega.{arith}
use native.Mathlib.Nat.{add-mul-div_right, zero-mul, div-lt_iff_lt-mul}
use lib.ListN.{length, get_or, take, drop, length-append, take-append-drop}
use lib.Seq.{take-length}
use lib.Dec.{leb, ltb, eqb}
use lib.Pow.{pow_pos, pow-add, shr_lt}
use borrow.Author.Tests.{eq-eqb, eqb-true, lt-ltb, le-leb, leb-true}
use Rattle.language.specs.Text.{among}
use Rattle.language.specs.Words.{Word}
use Rattle.language.specs.Tree.{Memory, Entry, spelled_of, memory_names}
use Rattle.language.specs.Parts.{each}
use Rattle.language.specs.Names.{when, input_names, entry_names}
use Rattle.language.specs.Counts.{size_of, rules_of, size_place}
use Rattle.language.specs.Counts as Counts
use Rattle.language.specs.Values.{bit_of, one_bit}
use Rattle.language.specs.Widths.{port_width}
use Rattle.language.specs.Sizes.{Setting}
use Rattle.language.specs.Meaning.{port_at}
use Rattle.plan.proofs.Lists.{four_long}
use Rattle.plan.specs.Layout as Layout
use Rattle.plan.specs.Items.{encode}
use Rattle.plan.specs.Sound.{port_ok, memory_fits, group_ok, all_up_to, apart, rule_ok, sections_ok}
use Rattle.placed.proofs.Every.{append_nils, every_at, each_append}
use Rattle.plan_of.specs.PlanOf.{mask_of, rule_code, body_code, plan_of}
use Rattle.plan_of.specs.Formed.{NotEmpty, FormedGroup}
use Rattle.plan_of.specs.Accepted.{Accepted, Grammatical}
use Rattle.placed.proofs.Names.{both_true, true_both, when_not, among_here, Distinct}
use Rattle.plan_of.proofs.Masks.{listed, Known, unlisted, mask_bits_law, port_below}
use Rattle.plan_of.proofs.Sections.{no_memory, no_rule, no_group, length_fixed, cells_in, port_count_law, memory_count_law, group_count_law, rule_count_law, code_section, code_count_law, memory_width_law, memory_size, group_at_law, rule_present, rule_absent, rule_length, code_before_law, cells_before_law, rules_before_law}
use Rattle.plan_of.proofs.Fits.{input_number, output_number}
use Rattle.plan_of.proofs.Faultless.{few, few_of}
use Rattle.plan_of.proofs.Outputs.{each_one_length}
use Rattle.plan_of.proofs.SoundNames.{memory_names_long}
use Rattle.plan_of.proofs.Facts.{RuleFacts, limit_facts, signature_short, port_small, memory_small, rule_facts, rule_formed}

-- ## Masks

-- a sum of different powers stays below
mask_step : (n i m : ℕ) → i < n → m < 2 ^ n → bit_of m i ≡ 0 → 2 ^ i + m < 2 ^ n
unfolding bit_of
mask_step n i m h k z =
    let j : ℕ = n - suc i in
    let e : n ≡ suc j + i = omega arith in
    let a : m < 2 ^ (suc j + i) = rw e at k in
    let b : m / 2 ^ i < 2 ^ suc j = shr_lt (suc j) i a in
    let c : 2 ^ i + m ≡ m + 1 * 2 ^ i = omega arith in
    let d : (2 ^ i + m) / 2 ^ i ≡ m / 2 ^ i + 1 = ap (λ (x : ℕ). x / 2 ^ i) c ∙ add-mul-div_right m 1 (pow_pos i) in
    let f : (2 ^ i + m) / 2 ^ i < 2 ^ suc j = rw d (omega arith) in
    let g : 2 ^ i + m < 2 ^ suc j * 2 ^ i = (div-lt_iff_lt-mul (pow_pos i)).0 f in
    rw (e, pow-add 2 (suc j) i) g

module _ (s : Setting) where
  pub mask_below : (b : Bool) (seen : List (List ℕ)) (es : List Entry) → Distinct seen (entry_names es) → Known s es → mask_of s b es < 2 ^ length s.actor.signature
  unfolding mask_of entry_names each one_bit
  mask_below b seen [] d k = pow_pos (length s.actor.signature)
  mask_below b seen (e ∷ es) d k =
      go (beq e.present b) (mask_below b (e.called.spelled ∷ seen) es d.1 k.1)
      (mask_bits_law s b (e.called.spelled ∷ seen) es i d.1 k.1 ∙ ap one_bit (unlisted s b (e.called.spelled ∷ seen) es e.called.spelled d.1 k.1 k.0 (among_here seen e.called.spelled)))
    where
      i : ℕ
      i = port_at s e.called.spelled

      go : (t : Bool) → mask_of s b es < 2 ^ length s.actor.signature → bit_of (mask_of s b es) i ≡ 0 → (elim t [ true ↦ 2 ^ i + mask_of s b es | false ↦ mask_of s b es ]) < 2 ^ length s.actor.signature
      go true h z = mask_step (length s.actor.signature) i (mask_of s b es) (port_below s e.called.spelled k.0) h z
      go false h z = h

  -- no port is listed both ways
  listed_once : (seen : List (List ℕ)) (es : List Entry) (k : ℕ) → Distinct seen (entry_names es) → Known s es → listed s true es k ≡ true → listed s false es k ≡ true → ⊥
  unfolding listed entry_names each
  listed_once seen [] k d n a b = absurd (false≢true a)
  listed_once seen (e ∷ es) k d n a b =
      go e.present (eqb i k) refl a b (λ x y. listed_once (e.called.spelled ∷ seen) es k d.1 n.1 x y)
    where
      i : ℕ
      i = port_at s e.called.spelled

      later : (b : Bool) → eqb i k ≡ true → listed s b es k ≡ false
      later b q = subst (λ (j : ℕ). listed s b es j ≡ false) (eqb-true i k q) (unlisted s b (e.called.spelled ∷ seen) es e.called.spelled d.1 n.1 n.0 (among_here seen e.called.spelled))

      go : (p u : Bool) → eqb i k ≡ u → ((beq p true && u) || listed s true es k) ≡ true → ((beq p false && u) || listed s false es k) ≡ true → (listed s true es k ≡ true → listed s false es k ≡ true → ⊥) → ⊥
      go true true q a b r = true≢false (sym b ∙ later false q)
      go true false q a b r = r a b
      go false true q a b r = true≢false (sym a ∙ later true q)
      go false false q a b r = r a b

  masks_apart : (p : List ℕ) (es : List Entry) (k : ℕ) → Distinct [] (entry_names es) → Known s es → apart p (mask_of s true es) (mask_of s false es) k ≡ true
  unfolding apart one_bit
  masks_apart p es zero d n = refl
  masks_apart p es (suc k) d n =
      true_both (apart p (mask_of s true es) (mask_of s false es) k) _ (masks_apart p es k d n)
      (eq-eqb (bit_of (mask_of s true es) k * bit_of (mask_of s false es) k) 0 (rw (mask_bits_law s true [] es k d n, mask_bits_law s false [] es k d n) (go (listed s true es k) (listed s false es k) refl refl)))
    where
      go : (a b : Bool) → listed s true es k ≡ a → listed s false es k ≡ b → one_bit a * one_bit b ≡ 0
      go true true x y = absurd (listed_once [] es k d n x y)
      go true false x y = refl
      go false b x y = zero-mul (one_bit b)

  masks_some : (es : List Entry) → NotEmpty es → 0 < mask_of s true es + mask_of s false es
  unfolding mask_of
  masks_some [] n = absurd n
  masks_some (e ∷ es) n = go e.present
    where
      i : ℕ
      i = port_at s e.called.spelled

      go : (b : Bool) → 0 < (elim (beq b true) [ true ↦ 2 ^ i + mask_of s true es | false ↦ mask_of s true es ]) + (elim (beq b false) [ true ↦ 2 ^ i + mask_of s false es | false ↦ mask_of s false es ])
      go true = let q = pow_pos i in omega arith
      go false = let q = pow_pos i in omega arith

-- ## Lists

all_up : (p : List ℕ) (n : ℕ) (f : ℕ → Bool) → ((i : ℕ) → i < n → f i ≡ true) → all_up_to p n f ≡ true
unfolding all_up_to
all_up p zero f h = refl
all_up p (suc n) f h = true_both (all_up_to p n f) (f n) (all_up p n f (λ i j. h i (omega arith))) (h n (omega arith))

first_short : {A B : Type 0} (f : A → List B) (n : ℕ) (l : List A) → length (each f (take n l)) ≤ length (each f l)
first_short f n l =
    let e : each f l ≡ each f (take n l) ++ each f (drop n l) = ap (each f) (sym (take-append-drop n l)) ∙ each_append f (take n l) (drop n l) in
    rw (e, length-append (each f (take n l)) (each f (drop n l))) (omega arith)

not_empty_long : {A : Type 0} (l : List A) → NotEmpty l → 1 ≤ length l
not_empty_long [] n = absurd n
not_empty_long (x ∷ l) n = omega arith

pub size_facts : (sum : ℕ) (l : List Memory) (i : ℕ) → Counts.size_faults sum l ≡ [] → i < length l → (1 ≤ size_of (get_or l i no_memory)) × (size_of (get_or l i no_memory) ≤ 256) × (sum + cells_in (take (suc i) l) ≤ 256)
unfolding Counts.size_faults cells_in
size_facts sum [] i h k = absurd (omega arith)
size_facts sum (m ∷ l) i h k =
    let q = append_nils (when (not (leb 1 (size_of m) && leb (size_of m) 256 && leb (sum + size_of m) 256)) (size_place m)) _ h in
    let a = both_true (leb 1 (size_of m) && leb (size_of m) 256) (leb (sum + size_of m) 256) (when_not _ _ q.0) in
    let b = both_true (leb 1 (size_of m)) (leb (size_of m) 256) a.0 in
    go i k (leb-true _ _ b.0) (leb-true _ _ b.1) (leb-true _ _ a.1) (λ j h. size_facts (sum + size_of m) l j q.1 h)
  where
    go : (i : ℕ) → i < length (m ∷ l) → 1 ≤ size_of m → size_of m ≤ 256 → sum + size_of m ≤ 256
        → ((j : ℕ) → j < length l → (1 ≤ size_of (get_or l j no_memory)) × (size_of (get_or l j no_memory) ≤ 256) × (sum + size_of m + cells_in (take (suc j) l) ≤ 256))
        → (1 ≤ size_of (get_or (m ∷ l) i no_memory)) × (size_of (get_or (m ∷ l) i no_memory) ≤ 256) × (sum + cells_in (take (suc i) (m ∷ l)) ≤ 256)
    go zero k a b c r = (a, b, omega arith)
    go (suc i) k a b c r = let q = r i (omega arith) in let z = q.2 in (q.0, q.1, omega arith)

-- ## The sections

module _ (ws : List Word) (s : Setting) (ok : Accepted ws s) (gr : Grammatical ws s.actor) where
  abbrev p : List ℕ
  p = plan_of s

  port_sound : (i : ℕ) → i < length s.actor.signature → port_ok p i ≡ true
  unfolding port_ok
  port_sound i h = go (among (input_names s.actor.ports) n) refl
    where
      n : List ℕ
      n = get_or (spelled_of s.actor.signature) i []

      w : ℕ
      w = port_width s.actor s.widths n

      go : (b : Bool) → among (input_names s.actor.ports) n ≡ b → (leb (Layout.port_at p i % 256) 32 && ltb (Layout.port_at p i) 512) ≡ true
      go true a = let q = port_small ws s ok gr n in rw (input_number s i h a) (true_both (leb (w % 256) 32) (ltb w 512) (le-leb (w % 256) 32 (omega arith)) (lt-ltb w 512 (omega arith)))
      go false a =
          let q = port_small ws s ok gr n in
          rw (output_number s i h a) (true_both (leb ((w + 256) % 256) 32) (ltb (w + 256) 512) (le-leb ((w + 256) % 256) 32 (omega arith)) (lt-ltb (w + 256) 512 (omega arith)))

  memory_sound : (i : ℕ) → i < length s.actor.memories → memory_fits p i ≡ true
  unfolding memory_fits
  memory_sound i h =
      let q = size_facts 0 s.actor.memories i (limit_facts ws s.actor ok.limited).2 h in
      let w = memory_small ws s ok gr (get_or s.actor.memories i no_memory).called.spelled in
      let z = q.2 in
      let a : leb (Layout.memory_width_at p i) 32 ≡ true = rw (memory_width_law s i h) (le-leb _ 32 w) in
      let b : leb 1 (Layout.memory_size_at p i) ≡ true = rw (memory_size s i h) (le-leb 1 _ q.0) in
      let c : leb (Layout.memory_size_at p i) 256 ≡ true = rw (memory_size s i h) (le-leb _ 256 q.1) in
      let d : leb (Layout.cells_before p (suc i)) 256 ≡ true = rw (cells_before_law s (suc i) h) (le-leb (cells_in (take (suc i) s.actor.memories)) 256 (omega arith)) in
      rw (memory_fits, a, b, c, d)

  group_sound : (i : ℕ) → i < length s.actor.groups → group_ok p i ≡ true
  unfolding group_ok rules_of
  group_sound i h =
      let f = every_at (FormedGroup (spelled_of (memory_names s.actor.memories))) no_group s.actor.groups i gr.formed.2 h in
      let a : leb 1 (Layout.group_at p i) ≡ true = rw (group_at_law s i h) (le-leb 1 _ (not_empty_long (get_or s.actor.groups i no_group).rules f.0)) in
      let b : leb (Layout.rules_before p (suc i)) (Layout.rule_count p) ≡ true = rw (rules_before_law s (suc i) h, rule_count_law s) (le-leb _ _ (first_short (λ g. g.rules) (suc i) s.actor.groups)) in
      rw (group_ok, a, b)

  rule_sound : (i : ℕ) → i < length (rules_of s.actor) → rule_ok p i ≡ true
  unfolding rule_ok rule_code
  rule_sound i h =
      let r = get_or (rules_of s.actor) i no_rule in
      let f = every_at (RuleFacts s) no_rule (rules_of s.actor) i (rule_facts ws s ok gr) h in
      let g = every_at _ no_rule (rules_of s.actor) i (rule_formed ws s ok gr) h in
      let a : ltb (Layout.present_at p i) (2 ^ Layout.port_count p) ≡ true = rw (rule_present s i h, port_count_law s) (lt-ltb _ _ (mask_below s true [] r.list f.distinct f.known)) in
      let b : ltb (Layout.absent_at p i) (2 ^ Layout.port_count p) ≡ true = rw (rule_absent s i h, port_count_law s) (lt-ltb _ _ (mask_below s false [] r.list f.distinct f.known)) in
      let c : apart p (Layout.present_at p i) (Layout.absent_at p i) (Layout.port_count p) ≡ true = rw (rule_present s i h, rule_absent s i h) (masks_apart s p r.list (Layout.port_count p) f.distinct f.known) in
      let d : ltb 0 (Layout.present_at p i + Layout.absent_at p i) ≡ true = rw (rule_present s i h, rule_absent s i h) (lt-ltb 0 _ (masks_some s r.list g.0)) in
      let l = length_fixed encode 4 four_long (body_code s 0 r.body) in
      let e : eqb (Layout.length_at p i % 4) 0 ≡ true = rw (rule_length s i h) (eq-eqb (length (each encode (body_code s 0 r.body)) % 4) 0 (omega arith)) in
      let k : leb (Layout.code_before p (suc i)) (Layout.code_count p) ≡ true = rw (code_before_law s (suc i) h, code_count_law s) (le-leb _ _ (first_short (rule_code s) (suc i) (rules_of s.actor))) in
      rw (rule_ok, a, b, c, d, e, k)

  form_one : eqb (Layout.form p) 1 ≡ true
  unfolding plan_of
  form_one = refl

  pub memories_few : length s.actor.memories ≤ 8
  memories_few = rw (memory_names_long s.actor.memories) at (few 8 (memory_names s.actor.memories) (limit_facts ws s.actor ok.limited).1)

  pub rules_few : length (rules_of s.actor) ≤ 32
  rules_few = rw (each_one_length (λ r. r.called) (rules_of s.actor)) at (few 32 (each (λ r. r.called ∷ []) (rules_of s.actor)) (limit_facts ws s.actor ok.limited).4)

  rules_all : Layout.rules_before p (Layout.group_count p) ≡ Layout.rule_count p
  unfolding rules_of
  rules_all = rw (group_count_law s, rule_count_law s) (rules_before_law s (length s.actor.groups) (omega arith) ∙ rw (take-length s.actor.groups))

  code_all : Layout.code_before p (Layout.rule_count p) ≡ Layout.code_count p
  code_all = rw (rule_count_law s, code_count_law s) (code_before_law s (length (rules_of s.actor)) (omega arith) ∙ rw (take-length (rules_of s.actor)))

  pub plan_long : length p ≡ Layout.code_from p + 1 + Layout.code_count p
  plan_long =
      let x = code_section s in
      let c = each (rule_code s) (rules_of s.actor) in
      rw (code_count_law s) (ap length x.stands ∙ length-append x.before (length c ∷ (c ++ [])) ∙ (let y = x.long in let z : length (c ++ []) ≡ length c = ap length (append-nil c) in omega arith))

  pub sections_sound : sections_ok p ≡ true
  unfolding sections_ok
  sections_sound =
      let q = limit_facts ws s.actor ok.limited in
      let a : leb 1 (Layout.port_count p) ≡ true = rw (port_count_law s) (le-leb 1 _ (not_empty_long s.actor.signature gr.formed.0)) in
      let b : leb (Layout.port_count p) 16 ≡ true = rw (port_count_law s) (le-leb _ 16 (signature_short ws s ok gr)) in
      let c : all_up_to p (Layout.port_count p) (port_ok p) ≡ true = rw (port_count_law s) (all_up p _ (port_ok p) port_sound) in
      let d : leb (Layout.memory_count p) 8 ≡ true = rw (memory_count_law s) (le-leb _ 8 memories_few) in
      let e : all_up_to p (Layout.memory_count p) (memory_fits p) ≡ true = rw (memory_count_law s) (all_up p _ (memory_fits p) memory_sound) in
      let f : leb 1 (Layout.group_count p) ≡ true = rw (group_count_law s) (le-leb 1 _ (not_empty_long s.actor.groups gr.formed.1)) in
      let g : leb (Layout.group_count p) 8 ≡ true = rw (group_count_law s) (le-leb _ 8 (few_of (λ g. g.at) 8 s.actor.groups q.3)) in
      let h : leb (Layout.rule_count p) 32 ≡ true = rw (rule_count_law s) (le-leb _ 32 rules_few) in
      let i : all_up_to p (Layout.group_count p) (group_ok p) ≡ true = rw (group_count_law s) (all_up p _ (group_ok p) group_sound) in
      let j : eqb (Layout.rules_before p (Layout.group_count p)) (Layout.rule_count p) ≡ true = eq-eqb _ _ rules_all in
      let k : all_up_to p (Layout.rule_count p) (rule_ok p) ≡ true = rw (rule_count_law s) (all_up p _ (rule_ok p) rule_sound) in
      let l : eqb (Layout.code_before p (Layout.rule_count p)) (Layout.code_count p) ≡ true = eq-eqb _ _ code_all in
      let m : eqb (length p) (Layout.code_from p + 1 + Layout.code_count p) ≡ true = eq-eqb _ _ plan_long in
      rw (sections_ok, form_one, a, b, c, d, e, f, g, h, i, j, k, l, m)
