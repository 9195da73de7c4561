-- The whole text: the table that holds its words, the verdict on them, and what is said of it. Assumes nothing.
use mathlib.Core.Path.{◌≡◌, refl, sym, ap, subst, ◌∙◌}
use mathlib.Core.Bool.{Bool, true, false}
use mathlib.Core.List.{List, [], ◌∷◌, ◌++◌}
use mathlib.Core.Option.{Option, none, some}
use Prim.Native.Nat.{ℕ, zero, suc, ◌+◌, ◌*◌, ◌-◌, ◌≤◌, ◌<◌}
use native.Mathlib.Omega.{arith}
use native.Mathlib.Numerals.{add-one}
use lib.Dec.{ltb}
use lib.ListN.{length, get_or, set, take, drop, length-set, length-drop, drop_of_length-le, get_or-append}
use Rattle.std.proofs.lemmas.List.{length-take-le}
use lib.Seq.{sets, sets-eq, length-sets, take_at, drop-cons, get_or-set_same, get_or-set_other}
use borrow.Author.Tests.{lt-ltb, le-ltb, le-leb, lt-leb, ltb-true, ltb-false}
use Rattle.language.specs.Text.{earliest}
use Rattle.language.specs.Words.{Word, fixed, place_of, Lexed, words, bad_at, words_of, left_out}
use Rattle.language.specs.Tree.{Actor, spelled_of, memory_names}
use Rattle.language.specs.Reader.{Res, ok, bad, bind, until, Verdict, fault, whole}
use Rattle.language.specs.Parser.{constraint_p, actor_p, parse}
use Rattle.language.specs.Reading.{word_place}
use Rattle.words.specs.Table.{table_of, word_of, word_at}
use Rattle.words.specs.Found.{roomy, found_of, table_after, words_until, left_in, left_kind, place_told}
use Rattle.words.specs.Found.{Found}
use Rattle.words.specs.declared.Fault.TheVariants.{Bad as BadWord, NoRoom}
use Rattle.std.specs.Prelude.{Ok, Err}
use Rattle.words.specs.Found.{Place}
use Rattle.std.specs.Prelude.{Some as AtPlace, None as Nowhere}
use Rattle.words.proofs.Back.{word_at_law, until_all, left_is}
use Rattle.words.proofs.Whole.{clash, length_table, room}
use Rattle.words.proofs.Runs.{all_runs, few_words}
use Rattle.tape.specs.Tape.{flats, flat_group, flat_actor}
use Rattle.readers.specs.Marks.{count, place_at, Marked}
use Rattle.readers.specs.Meets.{On, Moved, Agrees, read, fault as faulty, Out, Finds, Lacks}
use Rattle.head_reader.specs.Heads.{Head, head_p, flat_head, actor_of, IsHead}
use Rattle.name_marks.specs.Marking.{WordsHeld, Taped, Remarked, places_on, runs_at, memories_on}
use Rattle.syntax.specs.Read.{Said, refusal, tree_said, words_said, said_of, tree_after, words_after, tape_after, Filed, Ready, Listed, groups_p, Judged, accepted, refused, IsEnding, IsTree, IsParsed, place_or}
use Rattle.std.specs.Prelude.{Ok, Err}
use Rattle.readers.specs.declared.Misfit.{Misfit}
use Rattle.readers.proofs.Laws.{on_more}
use Rattle.readers.proofs.Spells.{until_ok, until_missed, until_err}
use Rattle.readers.proofs.Fixed.{s_unbrace}
use Rattle.name_marks.proofs.Marked.{held_again, marked_of, same_count}
use Rattle.syntax.proofs.Heading.{head_memories, actor_parts}

-- ---- the words in the table

-- what is stored from the start on is read there
sets_here : (t l : List ℕ) (k : ℕ) → length l ≤ length t → k < length l → get_or (sets t 0 l) k 0 ≡ get_or l k 0
sets_here t l k h i = ap (λ (l : List ℕ). get_or l k 0) (sets-eq l t 0 (omega arith)) ∙ get_or-append l (drop (0 + length l) t) 0 k i

-- a place that is left out or not, before others
unfoldable opened : ℕ → ℕ → List ℕ → List ℕ
opened k p r = elim (left_kind k) [ true ↦ p ∷ r | false ↦ r ]

left_opens : (t : List ℕ) (i m : ℕ) → left_in t i (suc m) ≡ opened (get_or t (4 * i) 0) (get_or t (4 * i + 1) 0) (left_in t (suc i) m)
unfolding left_in opened
left_opens t i m = refl

module _ {text w : List ℕ} {n : ℕ} (L : Listed text w n) where
  few : length L.ws ≤ 8192
  few = let a = few_words text L.ws L.lexed in let b = L.short in omega arith

  cell : (k : ℕ) → k < 4 * length L.ws → get_or w k 0 ≡ get_or (table_of L.ws) k 0
  cell k h = ap (λ (l : List ℕ). get_or l k 0) L.holds ∙ (let a = length_table L.ws in let b = few in let c = L.long in sets_here L.before (table_of L.ws) k (omega arith) (omega arith))

  long : length w ≡ 32769
  long = ap length L.holds ∙ length-sets L.before 0 (table_of L.ws) ∙ L.long

  pub listed_room : 4 * n ≤ length w
  listed_room = let a = few in let b = long in let c = L.many in omega arith

  -- the number of words is put behind them
  module _ where
    filed : List ℕ
    filed = set w 32768 n

    counted : count filed ≡ length L.ws
    unfolding count filed
    counted = get_or-set_same w 32768 n 0 (let b = long in omega arith) ∙ L.many

    beside : (k : ℕ) → k < 4 * length L.ws → get_or filed k 0 ≡ get_or (table_of L.ws) k 0
    unfolding filed
    beside k h = get_or-set_other w 32768 k n 0 (λ q. let a = few in omega arith) ∙ cell k h

    word_there : (i : ℕ) → i < length L.ws → drop i L.ws ≡ word_at text filed i ∷ drop (i + 1) L.ws
    unfolding word_at
    word_there i h = drop-cons L.ws i (fixed "" 0) h ∙ ap (λ (x : Word). x ∷ drop (suc i) L.ws) (sym (word_at_law text L.ws L.lexed i h) ∙ numbers) ∙ ap (λ (m : ℕ). word_at text filed i ∷ drop m L.ws) (sym (add-one i))
      where
        numbers : word_at text (table_of L.ws) i ≡ word_at text filed i
        numbers =
            let a = beside (4 * i) (omega arith) in let b = beside (4 * i + 1) (omega arith) in let c = beside (4 * i + 2) (omega arith) in let d = beside (4 * i + 3) (omega arith) in cc

  pub listed_held : WordsHeld text (set w 32768 n) L.ws
  unfolding filed
  listed_held = record { lexed = L.lexed; many = sym counted; word = λ i h. word_there i (let e = counted in omega arith) }

  pub listed_filed : Filed text (set w 32768 n)
  unfolding filed
  listed_filed = record {
    ws = L.ws;
    held = listed_held;
    table = record { few = let e = counted in let a = few in omega arith; long = length-set w 32768 n ∙ long };
    short = L.short;
  }

  -- row 4
  left_same : (i m : ℕ) → i + m ≤ length L.ws → left_in w i m ≡ left_in (table_of L.ws) i m
  unfolding left_in
  left_same i zero h = refl
  left_same i (suc m) h = left_opens w i m ∙ (let a = cell (4 * i) (omega arith) in let b = cell (4 * i + 1) (omega arith) in let c = left_same (suc i) m (omega arith) in cc) ∙ sym (left_opens (table_of L.ws) i m)

  left_places : left_in w 0 n ≡ left_out L.ws
  left_places = ap (left_in w 0) L.many ∙ left_same 0 (length L.ws) (omega arith) ∙ left_is text L.ws L.lexed

  module _ {o : Place} (e : o ≡ place_told (earliest (left_in w 0 n))) where
    told : o ≡ place_told (earliest (left_out L.ws))
    told = e ∙ ap (λ (l : List ℕ). place_told (earliest l)) left_places

    first_left : {p : ℕ} → o ≡ AtPlace p → earliest (left_out L.ws) ≡ some p
    unfolding place_told
    first_left {p} q = go (earliest (left_out L.ws)) refl
      where
        go : (x : Option ℕ) → earliest (left_out L.ws) ≡ x → earliest (left_out L.ws) ≡ some p
        go none z = clash (let y = ap place_told z in let v = told in cc)
        go (some r) z = let y = ap place_told z in let v = told in cc

    none_left : o ≡ Nowhere → earliest (left_out L.ws) ≡ none
    unfolding place_told
    none_left q = go (earliest (left_out L.ws)) refl
      where
        go : (x : Option ℕ) → earliest (left_out L.ws) ≡ x → earliest (left_out L.ws) ≡ none
        go none z = z
        go (some r) z = clash (let y = ap place_told z in let v = told in cc)

    pub left_said : {p : ℕ} → o ≡ AtPlace p → refusal 4 p ≡ words_said text
    unfolding words_said
    left_said q = sym (simp (words_said, L.lexed, first_left q))

    pub left_after : {p : ℕ} (t : List ℕ) → o ≡ AtPlace p → t ≡ words_after text t
    unfolding words_after
    left_after t q = sym (simp (words_after, L.lexed, first_left q))

    pub kept_said : o ≡ Nowhere → tree_said (length text) L.ws (parse L.ws) ≡ words_said text
    unfolding words_said
    kept_said q = sym (simp (words_said, L.lexed, none_left q))

    pub kept_after : (t : List ℕ) → o ≡ Nowhere → tree_after (parse L.ws) t ≡ words_after text t
    unfolding words_after
    kept_after t q = sym (simp (words_after, L.lexed, none_left q))

-- ---- rows 1 and 3

module _ (text t : List ℕ) (h : length text ≤ 8192) (i : length t ≡ 32769) where
  roomy_here : roomy text t ≡ true
  roomy_here = room text t h (omega arith)

  found : found_of text t ≡ elim (words_of text) as (λ (x : Lexed). Found) [ words ws ↦ Ok (length ws) | bad_at p ↦ Err (BadWord p) ]
  unfolding found_of
  found = simp (found_of, roomy_here)

  pub found_words : {n : ℕ} {t' : List ℕ} → t' ≡ table_after text t → Ok n ≡ found_of text t → Listed text t' n
  unfolding table_after
  found_words {n} {t'} d e = subst (λ (l : List ℕ). Listed text l n) (sym d) (go (words_of text) refl (e ∙ found))
    where
      after : (ws : List Word) → words_of text ≡ words ws → table_after text t ≡ sets t 0 (table_of ws)
      after ws q = table ∙ ap (λ (l : List Word). sets t 0 (table_of l)) (until_all text ws q)
        where
          table : table_after text t ≡ sets t 0 (table_of (words_until text))
          table = simp (table_after, roomy_here)

      go : (x : Lexed) → words_of text ≡ x → Ok n ≡ elim x as (λ (x : Lexed). Found) [ words ws ↦ Ok (length ws) | bad_at p ↦ Err (BadWord p) ] → Listed text (table_after text t) n
      go (words ws) q f = record { ws = ws; lexed = q; many = cc; before = t; long = i; holds = after ws q; short = h }
      go (bad_at p) q f = clash (cc)

  bad_word : {p : ℕ} → Err (BadWord p) ≡ found_of text t → words_of text ≡ bad_at p
  bad_word {p} e = go (words_of text) refl (e ∙ found)
    where
      go : (x : Lexed) → words_of text ≡ x → Err (BadWord p) ≡ elim x as (λ (x : Lexed). Found) [ words ws ↦ Ok (length ws) | bad_at p ↦ Err (BadWord p) ] → words_of text ≡ bad_at p
      go (words ws) q f = clash (cc)
      go (bad_at r) q f = let z : r ≡ p = cc in q ∙ ap bad_at z

  pub found_some : Err NoRoom ≡ found_of text t → ⊥
  found_some e = go (words_of text) (e ∙ found)
    where
      go : (x : Lexed) → Err NoRoom ≡ elim x as (λ (x : Lexed). Found) [ words ws ↦ Ok (length ws) | bad_at p ↦ Err (BadWord p) ] → ⊥
      go (words ws) f = clash (cc)
      go (bad_at r) f = clash (cc)

  pub bad_said : {p : ℕ} → Err (BadWord p) ≡ found_of text t → refusal 3 p ≡ words_said text
  unfolding words_said
  bad_said e = sym (simp (words_said, bad_word e))

  pub bad_after : {p : ℕ} (s : List ℕ) → Err (BadWord p) ≡ found_of text t → s ≡ words_after text s
  unfolding words_after
  bad_after s e = sym (simp (words_after, bad_word e))

module _ (text : List ℕ) where
  pub short_said : length text ≤ 8192 → words_said text ≡ said_of text
  unfolding said_of
  short_said h = sym (simp (said_of, le-leb _ _ h))

  pub long_said : 8192 < length text → refusal 1 8192 ≡ said_of text
  unfolding said_of
  long_said h = sym (simp (said_of, lt-leb _ _ h))

  pub short_after : (t : List ℕ) → length text ≤ 8192 → words_after text t ≡ tape_after text t
  unfolding tape_after
  short_after t h = sym (simp (tape_after, le-leb _ _ h))

  pub long_after : (t : List ℕ) → 8192 < length text → t ≡ tape_after text t
  unfolding tape_after
  long_after t h = sym (simp (tape_after, lt-leb _ _ h))

-- ---- the place of a word

module _ (end : ℕ) (w : List ℕ) (i : ℕ) where
  pub place_here : i < count w → place_at w i ≡ place_or end w i
  place_here h = ap (λ (b : Bool). elim b as (λ (x : Bool). ℕ) [ true ↦ place_at w i | false ↦ end ]) (sym (lt-ltb i (count w) h))

  pub place_end : count w ≤ i → end ≡ place_or end w i
  place_end h = ap (λ (b : Bool). elim b as (λ (x : Bool). ℕ) [ true ↦ place_at w i | false ↦ end ]) (sym (le-ltb i (count w) h))

abbrev first_place : ℕ → List Word → ℕ
first_place end [] = end
first_place end (x ∷ r) = place_of x

place_dropped : (end : ℕ) (ws : List Word) (i : ℕ) → word_place end ws i ≡ first_place end (drop i ws)
unfolding word_place
place_dropped end [] zero = refl
place_dropped end [] (suc i) = refl
place_dropped end (w ∷ ws) zero = refl
place_dropped end (w ∷ ws) (suc i) = place_dropped end ws i

place_of_law : (text : List ℕ) (k p n v : ℕ) → place_of (word_of text k p n v) ≡ p
unfolding word_of place_of
place_of_law text zero p n v = refl
place_of_law text (suc zero) p n v = refl
place_of_law text (suc (suc zero)) p n v = refl
place_of_law text (suc (suc (suc zero))) p n v = refl
place_of_law text (suc (suc (suc (suc k)))) p n v = refl

pub word_place_law : {text w : List ℕ} {ws : List Word} → WordsHeld text w ws → (end i : ℕ) → place_or end w i ≡ word_place end ws i
unfolding word_at
word_place_law {text} {w} {ws} H end i = go (ltb i (count w)) refl
  where
    go : (b : Bool) → ltb i (count w) ≡ b → place_or end w i ≡ word_place end ws i
    go true e = let h = ltb-true _ _ e in sym (place_dropped end ws i ∙ ap (first_place end) (H.word i h) ∙ place_of_law text _ _ _ _ ∙ place_here end w i h)
    go false e = let h = ltb-false _ _ e in sym (place_dropped end ws i ∙ ap (first_place end) (drop_of_length-le ws {i = i} (let m = H.many in omega arith)) ∙ place_end end w i h)

-- ---- the verdict

whole_fault : (ws : List Word) (x : ℕ) → x ≤ length ws → length ws - length (drop x ws) ≡ x
whole_fault ws x h = let a = length-drop x ws in omega arith

-- no word is left; one is; and a fault
module _ {ws : List Word} {s : List ℕ} where
  pub judged_end : {t' : List ℕ} {u : Res Actor} {x m : ℕ} → Agrees flat_actor ws 0 s u (Ok (x, m)) t' → length ws ≤ x → Judged s (whole (length ws) u) (Ok (x, m)) t'
  unfolding whole
  judged_end (read on) h = rw (drop_of_length-le ws h) (accepted on)

  pub judged_more : {t' : List ℕ} {u : Res Actor} {x m : ℕ} → Agrees flat_actor ws 0 s u (Ok (x, m)) t' → x < length ws → Judged s (whole (length ws) u) (Err (record { at = x })) t'
  unfolding whole
  judged_more {t'} (read {e = e} {x = x} on) h = go (drop x ws) refl (whole_fault ws x (omega arith))
    where
      go : (l : List Word) → drop x ws ≡ l → length ws - length (drop x ws) ≡ x → Judged s (whole (length ws) (ok e (drop x ws))) (Err (record { at = x })) t'
      go [] q z = absurd (let a = length-drop x ws in let b = ap length q in omega arith)
      go (y ∷ r) q z = rw q (subst (λ (i : ℕ). Judged s (fault i) (Err (record { at = x })) t') (sym (ap (λ (l : List Word). length ws - length l) (sym q) ∙ z)) refused)

  pub judged_bad : {t' : List ℕ} {u : Res Actor} {e : Misfit} → Agrees flat_actor ws 0 s u (Err e) t' → e.at ≤ length ws → Judged s (whole (length ws) u) (Err e) t'
  unfolding whole
  judged_bad {t'} (faulty {e = e}) h = subst (λ (j : ℕ). Judged s (fault j) (Err e) t') (sym (whole_fault ws e.at h)) refused

-- ---- what is on the tape

pub on_length : {t t' l : List ℕ} {n m : ℕ} → On t n l m t' → length t' ≡ length t
on_length {t} {l = l} {n = n} o = ap length o.holds ∙ length-sets t n l

on_taken : {t t' l : List ℕ} {m : ℕ} → On t 0 l m t' → m ≤ length t → take m t' ≡ l
on_taken {t} {t'} {l} {m} o h = ap (take m) (o.holds ∙ sets-eq l t 0 (let e = o.ends in omega arith)) ∙ take_at l (drop (0 + length l) t) m (let e = o.ends in omega arith)

-- a list in the place of the first numbers
pub copied : (t l l' : List ℕ) (m : ℕ) → l' ≡ take m l → m ≤ length l → m ≤ length t → l' ++ drop m t ≡ sets t 0 (take m l)
copied t l l' m e h g = let n = length-take-le m l h in ap (λ (l : List ℕ). l ++ drop m t) e ∙ sym (sets-eq (take m l) t 0 (omega arith) ∙ ap (λ (n : ℕ). take m l ++ drop n t) (zero (length (take m l)) n))
  where
    zero : (k : ℕ) → k ≡ m → 0 + k ≡ m
    zero k q = omega arith

-- ---- the head, then what follows it

-- what was read, where the answer says so
record ReadAs {A : Type 0} (fl : A → List ℕ) (ws : List Word) (n : ℕ) (t : List ℕ) (u : Res A) (x m : ℕ) (t' : List ℕ) : Type 0 where
  thing : A
  is : u ≡ ok thing (drop x ws)
  on : On t n (fl thing) m t'

read_as : {A : Type 0} {fl : A → List ℕ} {ws : List Word} {n : ℕ} {t t' : List ℕ} {u : Res A} {x m : ℕ} → Agrees fl ws n t u (Ok (x, m)) t' → ReadAs fl ws n t u x m t'
read_as (read {e = e} on) = record { thing = e; is = refl; on = on }

bad_as : {A : Type 0} {fl : A → List ℕ} {ws : List Word} {n : ℕ} {t t' : List ℕ} {u : Res A} {e : Misfit} → Agrees fl ws n t u (Err e) t' → u ≡ bad (drop e.at ws)
bad_as faulty = refl

fuel : {text w : List ℕ} {ws : List Word} → WordsHeld text w ws → 8 * count w + 0 < 16 * length ws + 16 + 8 * 0
fuel H = let m = H.many in omega arith

module _ {text w t t₁ : List ℕ} {ws : List Word} (H : WordsHeld text w ws) (M : Marked text [] w ws) (few : count w ≤ 8192) (long : length t ≡ 24576) where
  module _ {x m : ℕ} (hd : IsHead w 0 0 t (Ok (x, m)) t₁) where
    head : ReadAs flat_head ws 0 t (head_p (16 * length ws + 16) ws) x m t₁
    head = read_as (hd.agrees M (16 * length ws + 16) (fuel H))

    fits : m ≤ 24576
    fits = let v = hd.moved.to in omega arith

    pub head_taped : Taped t₁ m
    head_taped = record { few = fits; long = on_length head.on ∙ long }

    module _ {w' t' : List ℕ} {r : Out} (R : Remarked text (memories_on text t₁ m) (count w) w w') (E : IsEnding w' x m t₁ r t') where
      memories : spelled_of (memory_names head.thing.memories) ≡ memories_on text t₁ m
      memories = sym (ap (λ (l : List ℕ). runs_at text (places_on l)) (on_taken head.on (let f = fits in omega arith)) ∙ head_memories text (16 * length ws + 16) ws (drop x ws) head.thing (all_runs text ws H.lexed) head.is)

      goes : groups_p (16 * length ws + 16) head.thing (drop x ws) ≡ actor_p (16 * length ws + 16) ws
      unfolding bind
      goes = sym (ap (λ (u : Res Head). bind u (λ h k. groups_p (16 * length ws + 16) h k)) head.is) ∙ actor_parts (16 * length ws + 16) ws

      -- the memories of the head are marked, and the rest is read by them
      pub judged_tree : Judged t (parse ws) r t'
      unfolding parse
      judged_tree = subst (λ (u : Res Actor). Judged t (whole (length ws) u) r t') goes
          (E.judged (marked_of R H) (16 * length ws + 16) (let e = same_count R in let f = fuel H in omega arith) head.thing memories head.on)

  pub judged_head : {e : Misfit} (t' : List ℕ) → IsHead w 0 0 t (Err e) t₁ → Judged t (parse ws) (Err e) t'
  unfolding parse bind
  judged_head {e} t' hd = judged_bad (subst (λ (u : Res Actor). Agrees flat_actor ws 0 t u (Err e) t') stops faulty) (let v = hd.moved.to in let m = H.many in omega arith)
    where
      stops : bad (drop e.at ws) ≡ actor_p (16 * length ws + 16) ws
      stops = sym (ap (λ (u : Res Head). bind u (λ h k. groups_p (16 * length ws + 16) h k)) (bad_as (hd.agrees M (16 * length ws + 16) (fuel H)))) ∙ actor_parts (16 * length ws + 16) ws

pub moved_same : {len len' at n : ℕ} {o : Out} → len' ≡ len → Moved len' at n o → Moved len at n o
moved_same {at = at} {n = n} {o = o} e v = subst (λ (len : ℕ). Moved len at n o) e v

-- the groups after a head that is on the tape
module _ {text : List ℕ} {ms : List (List ℕ)} {w : List ℕ} {ws : List Word} (M : Marked text ms w ws) (f at : ℕ) (h : Head) (e : spelled_of (memory_names h.memories) ≡ ms) where
  -- what is read of the groups and the brace, by what an answer is to be
  ending_as : {s t' : List ℕ} {r : Out} → Agrees flat_actor ws 0 s (until (constraint_p ms f (drop at ws)) "}" (λ gs t j. ok (actor_of h gs) j)) r t' → Agrees flat_actor ws 0 s (groups_p f h (drop at ws)) r t'
  unfolding groups_p
  ending_as {s} {t'} {r} a = subst (λ (ms : List (List ℕ)). Agrees flat_actor ws 0 s (until (constraint_p ms f (drop at ws)) "}" (λ gs t j. ok (actor_of h gs) j)) r t') (sym e) a

  module _ {s t t₁ : List ℕ} {n : ℕ} where
    pub ending_at : {x y m : ℕ} → On s 0 (flat_head h) n t → Finds w x 39 y → Agrees (flats flat_group) ws n t (constraint_p ms f (drop at ws)) (Ok (x, m)) t₁ → Agrees flat_actor ws 0 s (groups_p f h (drop at ws)) (Ok (y, m)) t₁
    unfolding flat_actor flat_head
    ending_at on z a = ending_as (until_ok M s_unbrace _ _ a z (λ gs p on₁. read (on_more on on₁)))

    pub ending_missed : {x m : ℕ} {i : Misfit} → Lacks w x 39 i.at → Agrees (flats flat_group) ws n t (constraint_p ms f (drop at ws)) (Ok (x, m)) t₁ → Agrees flat_actor ws 0 s (groups_p f h (drop at ws)) (Err i) t₁
    ending_missed z a = ending_as (until_missed M s_unbrace _ _ a z)

    pub ending_bad : {i : Misfit} → Agrees (flats flat_group) ws n t (constraint_p ms f (drop at ws)) (Err i) t₁ → Agrees flat_actor ws 0 s (groups_p f h (drop at ws)) (Err i) t₁
    ending_bad a = ending_as (until_err M s_unbrace _ _ a)

-- ---- row 5

module _ {s : List ℕ} where
  pub tree_said_law : (end : ℕ) (ws : List Word) {s' : List ℕ} {v : Verdict Actor} {x m : ℕ} → Judged s v (Ok (x, m)) s' → ◌≡◌ {A = Said} (Ok m) (tree_said end ws v)
  unfolding tree_said
  tree_said_law end ws (accepted on) = ap (λ (m : ℕ). Ok m) (let e = on.ends in omega arith)

  pub tree_after_law : {s' : List ℕ} {v : Verdict Actor} {x m : ℕ} (t : List ℕ) → Judged s v (Ok (x, m)) s' → m ≤ length s → sets t 0 (take m s') ≡ tree_after v t
  unfolding tree_after
  tree_after_law t (accepted on) h = ap (sets t 0) (on_taken on h)

  pub fault_said : (end : ℕ) (ws : List Word) {s' : List ℕ} {v : Verdict Actor} {e : Misfit} {p : ℕ} → Judged s v (Err e) s' → p ≡ word_place end ws e.at → refusal 5 p ≡ tree_said end ws v
  unfolding tree_said
  fault_said end ws refused e = ap (refusal 5) e

  pub fault_after : {s' : List ℕ} {v : Verdict Actor} {e : Misfit} (t : List ℕ) → Judged s v (Err e) s' → t ≡ tree_after v t
  unfolding tree_after
  fault_after t refused = refl

  pub judged_length : {s' : List ℕ} {v : Verdict Actor} {x m : ℕ} → Judged s v (Ok (x, m)) s' → length s' ≡ length s
  judged_length (accepted on) = on_length on

-- ---- the words of a table, marked and read on a tape of one's own

module _ {text w w₁ : List ℕ} (F : Filed text w) (R : Remarked text [] (count w) w w₁) where
  filed_marked : {ws : List Word} → WordsHeld text w ws → Marked text [] w₁ ws
  filed_marked H = marked_of R H

  few_marked : count w₁ ≤ 8192
  few_marked = let e = same_count R in let f = F.table.few in omega arith

  pub filed_ready : Ready text w₁
  filed_ready = record { ws = F.ws; held = held_again R F.held; table = record { few = few_marked; long = R.size ∙ F.table.long }; marked = filed_marked F.held }

  module _ {s w₂ s' : List ℕ} (long : length s ≡ 24576) where
    module _ {r : Out} (T : IsTree text w₁ s r w₂ s') where
      pub few_read : count w₂ ≤ 8192
      few_read = let e = T.counted in let f = few_marked in omega arith

      verdict : {ws : List Word} → WordsHeld text w ws → Judged s (parse ws) r s'
      verdict H = T.judged (held_again R H) (filed_marked H)

    module _ {x m : ℕ} (T : IsTree text w₁ s (Ok (x, m)) w₂ s') where
      fits_tape : m ≤ 24576
      fits_tape = let v = T.moved.to in let f = few_marked in omega arith

      pub tree_taped : Taped s' m
      tree_taped = record { few = fits_tape; long = judged_length (verdict T F.held) ∙ long }

      pub parsed_tree : {t t' : List ℕ} → t' ≡ sets t 0 (take m s') → IsParsed text w t (Ok m) t'
      parsed_tree {t} e = record {
        answer = λ {ws} H. tree_said_law (length text) ws (verdict T H);
        tape = λ H. e ∙ tree_after_law t (verdict T H) (let f = fits_tape in omega arith);
        room = fits_tape;
      }

    pub parsed_fault : {e : Misfit} {p : ℕ} {t : List ℕ} → IsTree text w₁ s (Err e) w₂ s' → p ≡ place_or (length text) w₂ e.at → IsParsed text w t (refusal 5 p) t
    parsed_fault {e} {t = t} T q = record {
      answer = λ {ws} H. fault_said (length text) ws (verdict T H) (q ∙ word_place_law (T.held (held_again R H)) (length text) e.at);
      tape = λ H. fault_after t (verdict T H);
      room = tt;
    }
