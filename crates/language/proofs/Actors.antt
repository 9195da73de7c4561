-- Declarations and the actor, in each of the four inductions. Assumes nothing.
use mathlib.Core.Path.{◌≡◌, refl, sym, ap, ◌∙◌}
use mathlib.Core.Bool.{Bool, true, false}
use mathlib.Core.List.{List, [], ◌∷◌, ◌++◌, append_assoc}
use mathlib.Core.Option.{Option, none, some}
use Prim.Native.Nat.{ℕ, suc, ◌+◌, ◌*◌, ◌<◌}
use Prim.Native.String.{String}
use native.Mathlib.Omega.{arith}
use lib.ListN.{length}
use lib.Text.{eqt, eqt→eq}
use Rattle.language.specs.Text.{Name}
use Rattle.language.specs.Words.{Word, num, name, digits, fixed}
use Rattle.language.specs.Tree.{Declared, Port, Size, Memory, Group, Actor, spelled_of, memory_names}
use Rattle.language.specs.Grammar.{Many, m_none, m_more, Some, s_some, c_one, Declares, y_untyped, g_or, Constraints, k_or, k_and}
use Rattle.language.specs.Grammar.{Ports, o_input, o_output, Sizes, z_one, z_cells, Memories, h_reg, h_ff, Names, n_name, Actors, actor}
use Rattle.language.specs.Reader.{on, is_num, is_name, is, expect, many_p, some_p}
use Rattle.language.specs.Parser.{is_way, port_p, is_store, memory_p, name_p, actor_p}
use Rattle.language.proofs.Tests.{never, is_true, some_eq, num_tells, name_tells}
use Rattle.language.proofs.Laws.{Misses, Good, g_ok, g_bad, at_good, expect_good, bind_good, until_good, Settled, s_ok, s_bad, on_settled, bind_settled, expect_settled, until_settled}
use Rattle.language.proofs.Laws.{Agrees, a_ok, bind_agrees, until_agrees, Never, nowhere, Pair, ok_pair, bad_pair, bind_pair, on_pair, expect_pair, until_pair}
use Rattle.language.proofs.Lists.{many_good, some_good, many_settled, some_settled, Opens, many_complete, some_complete, many_pair, some_pair, commas_good, commas_settled, commas_complete, commas_pair}
use Rattle.language.proofs.Good.{any_name}
use Rattle.language.proofs.Statements.{declared_good, declared_settled, declared_complete, declared_pair, any_constraint, constraint_good, constraint_settled, constraint_complete, constraint_pair}

-- ---- the two words of ports and the two of memories; their places are not kept

two_tell : (u v s : String) (p : ℕ) (a : Bool) → elim (eqt u s) as (λ (z : Bool). Option Bool) [ true ↦ some true | false ↦ elim (eqt v s) as (λ (z : Bool). Option Bool) [ true ↦ some false | false ↦ none ] ] ≡ some a
    → fixed s p ≡ fixed (elim a as (λ (z : Bool). String) [ true ↦ u | false ↦ v ]) p
two_tell u v s p a e = go (eqt u s) (eqt v s) refl refl a e
  where
    go : (b c : Bool) → eqt u s ≡ b → eqt v s ≡ c → (a : Bool)
        → elim b as (λ (z : Bool). Option Bool) [ true ↦ some true | false ↦ elim c as (λ (z : Bool). Option Bool) [ true ↦ some false | false ↦ none ] ] ≡ some a
        → fixed s p ≡ fixed (elim a as (λ (z : Bool). String) [ true ↦ u | false ↦ v ]) p
    go true c h i true k = ap (λ (z : String). fixed z p) (sym (eqt→eq u s (is_true h)))
    go true c h i false k = never (let q = some_eq k in cc)
    go false true h i true k = never (let q = some_eq k in cc)
    go false true h i false k = ap (λ (z : String). fixed z p) (sym (eqt→eq v s (is_true i)))
    go false false h i a k = never (cc)

unfoldable way_word : Bool → String
way_word i = elim i [ true ↦ "input" | false ↦ "output" ]

unfoldable store_word : Bool → String
store_word i = elim i [ true ↦ "reg" | false ↦ "ff" ]

way_tells : (x : Word) (i : Bool) → is_way x ≡ some i → (p : ℕ) × (x ≡ fixed (way_word i) p)
unfolding is_way way_word
way_tells (num n) i e = never (cc)
way_tells (name n) i e = never (cc)
way_tells (digits n) i e = never (cc)
way_tells (fixed s p) i e = (p, two_tell "input" "output" s p i e)

store_tells : (x : Word) (i : Bool) → is_store x ≡ some i → (p : ℕ) × (x ≡ fixed (store_word i) p)
unfolding is_store store_word
store_tells (num n) i e = never (cc)
store_tells (name n) i e = never (cc)
store_tells (digits n) i e = never (cc)
store_tells (fixed s p) i e = (p, two_tell "reg" "ff" s p i e)

port_of_law : (i : Bool) {a : List Word} {t : Declared} {n : Name} (p q : ℕ) → Declares a t → Ports (fixed (way_word i) p ∷ (a ++ (name n ∷ fixed ";" q ∷ []))) (record { input = i; type = t; called = n })
unfolding way_word
port_of_law true p q d = o_input p q d
port_of_law false p q d = o_output p q d

memory_of : (i : Bool) {a b : List Word} {t : Declared} {n : Name} {z : Size} (p q : ℕ) → Declares a t → Sizes b z
    → Memories (fixed (store_word i) p ∷ (a ++ (name n ∷ (b ++ (fixed ";" q ∷ []))))) (record { type = t; called = n; size = z })
unfolding store_word
memory_of true p q d d' = h_reg p q d d'
memory_of false p q d d' = h_ff p q d d'

-- ---- what is read is derived, and a fault can be finished

port_good : (f : ℕ) (i : Bool) (p : ℕ) (ws : List Word) → Good Ports (fixed (way_word i) p ∷ ws) (port_p f i ws)
unfolding port_p
port_good f i p ws = bind_good (λ l. fixed (way_word i) p ∷ l) _ (λ l m. refl) refl (declared_good f ws) (λ k t d. (name any_name ∷ fixed ";" 0 ∷ [], _, port_of_law i p 0 d))
    (λ k t x d e. at_good name_tells x _ _
    (λ n y j. expect_good (λ l. fixed (way_word i) p ∷ (k ++ (name n ∷ l))) ";" y _ (λ l m. simp append_assoc) (e ∙ ap (λ (l : List Word). fixed (way_word i) p ∷ (k ++ l)) j) (fixed ";" 0 ∷ []) _ (port_of_law i p 0 d)
    (λ q z e₁. g_ok (fixed (way_word i) p ∷ (k ++ (name n ∷ fixed ";" q ∷ []))) (e₁ ∙ simp append_assoc) (port_of_law i p q d)))
    (g_bad (fixed (way_word i) p ∷ k) (name any_name ∷ fixed ";" 0 ∷ []) _ e (port_of_law i p 0 d)))

memory_good : (f : ℕ) (i : Bool) (p : ℕ) (ws : List Word) → Good Memories (fixed (store_word i) p ∷ ws) (memory_p f i ws)
unfolding memory_p
memory_good f i p ws = bind_good (λ l. fixed (store_word i) p ∷ l) _ (λ l m. refl) refl (declared_good f ws) (λ k t d. (name any_name ∷ fixed ";" 0 ∷ [], _, memory_of i p 0 d z_one))
    (λ k t x d e. at_good name_tells x _ _
    (λ n y j. at_good num_tells y _ _
    (λ m z h. expect_good (λ l. fixed (store_word i) p ∷ (k ++ (name n ∷ num m ∷ l))) ";" z _ (λ l m. simp append_assoc) (e ∙ ap (λ (l : List Word). fixed (store_word i) p ∷ (k ++ l)) (j ∙ ap (λ (l : List Word). name n ∷ l) h))
    (fixed ";" 0 ∷ []) _ (memory_of i p 0 d z_cells)
    (λ q l e₁. g_ok (fixed (store_word i) p ∷ (k ++ (name n ∷ num m ∷ fixed ";" q ∷ []))) (e₁ ∙ simp append_assoc) (memory_of i p q d z_cells)))
    (expect_good (λ l. fixed (store_word i) p ∷ (k ++ (name n ∷ l))) ";" y _ (λ l m. simp append_assoc) (e ∙ ap (λ (l : List Word). fixed (store_word i) p ∷ (k ++ l)) j) (fixed ";" 0 ∷ []) _ (memory_of i p 0 d z_one)
    (λ q z e₁. g_ok (fixed (store_word i) p ∷ (k ++ (name n ∷ fixed ";" q ∷ []))) (e₁ ∙ simp append_assoc) (memory_of i p q d z_one))))
    (g_bad (fixed (store_word i) p ∷ k) (name any_name ∷ fixed ";" 0 ∷ []) _ e (memory_of i p 0 d z_one)))

name_good : (f : ℕ) (ws : List Word) → Good Names ws (name_p f ws)
unfolding name_p
name_good f ws = at_good name_tells ws _ _ (λ n r e. g_ok (name n ∷ []) e n_name) (g_bad [] (name any_name ∷ []) _ refl n_name)

any_ports : (c : List Word) × (l : List Port) × Some Ports c l
any_ports = (_, _, s_some (o_input {n = any_name} 0 0 y_untyped) m_none)

ports_good : (f : ℕ) (ws : List Word) → Good (Some Ports) ws (some_p is_way (λ f i r. port_p f i r) f ws)
ports_good f ws = some_good is_way _ (λ f x i r h. rw (way_tells x i h).1 (port_good f i (way_tells x i h).0 r)) any_ports.0 any_ports.1 any_ports.2 f ws

memories_good : (f : ℕ) (ws : List Word) → Good (Many Memories) ws (many_p is_store (λ f i r. memory_p f i r) f ws)
memories_good f ws = many_good is_store _ (λ f x i r h. rw (store_tells x i h).1 (memory_good f i (store_tells x i h).0 r)) f ws

-- the end of an actor from the rules on, and from the ports on
ending : List Memory → List Word
ending ms = (any_constraint (spelled_of (memory_names ms))).0 ++ (fixed "}" 0 ∷ [])

body : List Word
body = any_ports.0 ++ ending []

pub actor_good : (f : ℕ) (ws : List Word) → Good Actors ws (actor_p f ws)
unfolding actor_p ending body
actor_good f ws = at_good name_tells ws _ _
    (λ n r e. expect_good (λ l. name n ∷ l) "(" r _ (λ l m. refl) e (fixed "(" 0 ∷ name any_name ∷ fixed ")" 0 ∷ fixed "{" 0 ∷ body) _ (actor 0 0 0 0 (c_one n_name) any_ports.2 m_none (any_constraint _).2)
    (λ p x e₁. until_good (λ l. name n ∷ fixed "(" p ∷ l) ")" _ (λ l m. refl) e₁ (commas_good _ (λ f ws. name_good f ws) f x)
    (λ k t d. (fixed ")" 0 ∷ fixed "{" 0 ∷ body, _, actor p 0 0 0 d any_ports.2 m_none (any_constraint _).2))
    (λ k ns q y d e₂. expect_good (λ l. name n ∷ fixed "(" p ∷ (k ++ (fixed ")" q ∷ l))) "{" y _ (λ l m. simp append_assoc) e₂ (fixed "{" 0 ∷ body) _ (actor p q 0 0 d any_ports.2 m_none (any_constraint _).2)
    (λ s z e₃. bind_good (λ l. name n ∷ fixed "(" p ∷ (k ++ (fixed ")" q ∷ fixed "{" s ∷ l))) _ (λ l m. simp append_assoc) e₃ (ports_good f z)
    (λ k₂ ps d₂. (ending [], _, actor p q s 0 d d₂ m_none (any_constraint _).2))
    (λ k₂ ps l d₂ e₄. bind_good (λ l. name n ∷ fixed "(" p ∷ (k ++ (fixed ")" q ∷ fixed "{" s ∷ (k₂ ++ l)))) _ (λ l m. simp append_assoc) e₄ (memories_good f l)
    (λ k₃ ms d₃. (ending ms, _, actor p q s 0 d d₂ d₃ (any_constraint _).2))
    (λ k₃ ms l d₃ e₅. until_good (λ l. name n ∷ fixed "(" p ∷ (k ++ (fixed ")" q ∷ fixed "{" s ∷ (k₂ ++ (k₃ ++ l))))) "}" _ (λ l m. simp append_assoc) e₅ (constraint_good (spelled_of (memory_names ms)) f l)
    (λ k₄ gs d₄. (fixed "}" 0 ∷ [], _, actor p q s 0 d d₂ d₃ d₄))
    (λ k₄ gs t j d₄ e₆. g_ok (name n ∷ fixed "(" p ∷ (k ++ (fixed ")" q ∷ fixed "{" s ∷ (k₂ ++ (k₃ ++ (k₄ ++ (fixed "}" t ∷ []))))))) (e₆ ∙ simp append_assoc) (actor p q s t d d₂ d₃ d₄))))))))
    (g_bad [] (name any_name ∷ fixed "(" 0 ∷ name any_name ∷ fixed ")" 0 ∷ fixed "{" 0 ∷ body) _ refl (actor 0 0 0 0 (c_one n_name) any_ports.2 m_none (any_constraint _).2))

-- ---- the fuel is enough

port_settled : (f : ℕ) (i : Bool) (ws : List Word) → 16 * length ws + 6 < f → Settled (suc (length ws)) (port_p f i ws)
unfolding port_p
port_settled f i ws h = bind_settled _ (declared_settled f ws (omega arith)) (λ t x e. on_settled is_name x _ _ (λ n y j. expect_settled ";" y _ (λ q z k. s_ok z (omega arith))) s_bad)

memory_settled : (f : ℕ) (i : Bool) (ws : List Word) → 16 * length ws + 6 < f → Settled (suc (length ws)) (memory_p f i ws)
unfolding memory_p
memory_settled f i ws h = bind_settled _ (declared_settled f ws (omega arith)) (λ t x e. on_settled is_name x _ _
    (λ n y j. on_settled is_num y _ _ (λ m z k. expect_settled ";" z _ (λ q l u. s_ok l (omega arith))) (expect_settled ";" y _ (λ q z k. s_ok z (omega arith)))) s_bad)

name_settled : (f : ℕ) (ws : List Word) → Settled (length ws) (name_p f ws)
unfolding name_p
name_settled f ws = on_settled is_name ws _ _ (λ n r e. s_ok r (omega arith)) s_bad

pub actor_settled : (f : ℕ) (ws : List Word) → 16 * length ws < f → Settled (length ws) (actor_p f ws)
unfolding actor_p
actor_settled f ws h = on_settled is_name ws _ _
    (λ n r e. expect_settled "(" r _ (λ p x e₁. until_settled ")" _ (commas_settled _ (λ f ws i. name_settled f ws) f x (omega arith)) (λ ns q y e₂. expect_settled "{" y _
    (λ s z e₃. bind_settled _ (some_settled is_way _ port_settled f z (omega arith)) (λ ps l e₄. bind_settled _ (many_settled is_store _ memory_settled f l (omega arith))
    (λ ms k e₅. until_settled "}" _ (constraint_settled (spelled_of (memory_names ms)) f k (omega arith)) (λ gs t j e₆. s_ok j (omega arith))))))))
    s_bad

-- ---- what is derived is read

port_reads : (i : Bool) (a : List Word) (t : Declared) (n : Name) (q : ℕ) → Declares a t → (f : ℕ) (rest : List Word) → Agrees (record { input = i; type = t; called = n }) rest (port_p f i ((a ++ (name n ∷ fixed ";" q ∷ [])) ++ rest))
unfolding port_p on is_name is expect
port_reads i a t n q d f rest = simp append_assoc (bind_agrees _ (declared_complete d f _ refl) a_ok)

port_opens : (ws : List Word) (x : Port) → Ports ws x → Opens is_way (λ f i r. port_p f i r) ws x
unfolding is_way
port_opens ws x (o_input {a = a} {t = t} {n = n} p q d) = record { first = fixed "input" p; next = a ++ (name n ∷ fixed ";" q ∷ []); seen = true; begins = refl; passes = refl; reads = port_reads true a t n q d }
port_opens ws x (o_output {a = a} {t = t} {n = n} p q d) = record { first = fixed "output" p; next = a ++ (name n ∷ fixed ";" q ∷ []); seen = false; begins = refl; passes = refl; reads = port_reads false a t n q d }

memory_reads : (i : Bool) (a b : List Word) (t : Declared) (n : Name) (z : Size) (q : ℕ) → Declares a t → Sizes b z
    → (f : ℕ) (rest : List Word) → Agrees (record { type = t; called = n; size = z }) rest (memory_p f i ((a ++ (name n ∷ (b ++ (fixed ";" q ∷ [])))) ++ rest))
unfolding memory_p on is_name is_num is expect
memory_reads i a b t n z q d z_one f rest = simp append_assoc (bind_agrees _ (declared_complete d f _ refl) a_ok)
memory_reads i a b t n z q d z_cells f rest = simp append_assoc (bind_agrees _ (declared_complete d f _ refl) a_ok)

memory_opens : (ws : List Word) (x : Memory) → Memories ws x → Opens is_store (λ f i r. memory_p f i r) ws x
unfolding is_store
memory_opens ws x (h_reg {a = a} {b = b} {t = t} {n = n} {z = z} p q d d') = record { first = fixed "reg" p; next = a ++ (name n ∷ (b ++ (fixed ";" q ∷ []))); seen = true; begins = refl; passes = refl; reads = memory_reads true a b t n z q d d' }
memory_opens ws x (h_ff {a = a} {b = b} {t = t} {n = n} {z = z} p q d d') = record { first = fixed "ff" p; next = a ++ (name n ∷ (b ++ (fixed ";" q ∷ []))); seen = false; begins = refl; passes = refl; reads = memory_reads false a b t n z q d d' }

name_complete : (ws : List Word) (x : Name) → Names ws x → (f : ℕ) (rest : List Word) → Agrees x rest (name_p f (ws ++ rest))
unfolding name_p on is_name
name_complete ws x n_name f rest = a_ok

-- rules begin with no word of a memory, and neither they nor memories with one of a port
rules_start : {ms : List (List ℕ)} {ws : List Word} {l : List Group} → Constraints ms ws l → (rest : List Word) → Misses is_way (ws ++ rest) × Misses is_store (ws ++ rest)
unfolding is_way is_store
rules_start (k_or (g_or p q r d)) rest = (refl, refl)
rules_start (k_and p q r d) rest = (refl, refl)

memories_start : {ws : List Word} {l : List Memory} → Many Memories ws l → (rest : List Word) → Misses is_way rest → Misses is_way (ws ++ rest)
unfolding is_way
memories_start m_none rest e = e
memories_start (m_more (h_reg p q d d') ds) rest e = refl
memories_start (m_more (h_ff p q d d') ds) rest e = refl

pub actor_complete : {ws : List Word} {t : Actor} → Actors ws t → (f : ℕ) (rest : List Word) → Agrees t rest (actor_p f (ws ++ rest))
unfolding actor_p on is_name is expect
actor_complete (actor p q r s d d₂ d₃ d₄) f rest = simp append_assoc
    (until_agrees ")" _ (commas_complete _ name_complete d f _ refl)
    (bind_agrees _ (some_complete is_way _ port_opens d₂ f _ (memories_start d₃ _ (rules_start d₄ _).0))
    (bind_agrees _ (many_complete is_store _ memory_opens d₃ f _ (rules_start d₄ _).1)
    (until_agrees "}" _ (constraint_complete _ d₄ f _) a_ok))))

-- ---- no word past a fault is looked at

module _ (w : Word) (r c : List Word) where
  port_pair : (f : ℕ) (i : Bool) (ws ws' : List Word) → Pair Never w r c ws ws' (port_p f i ws) (port_p f i ws')
  unfolding port_p
  port_pair f i ws ws' = bind_pair _ nowhere (declared_pair w r c f ws ws') (λ t s s'. on_pair is_name _ _ s s' (λ n s s'. expect_pair ";" _ s s' (λ q s s'. ok_pair _)) bad_pair)

  memory_pair : (f : ℕ) (i : Bool) (ws ws' : List Word) → Pair Never w r c ws ws' (memory_p f i ws) (memory_p f i ws')
  unfolding memory_p
  memory_pair f i ws ws' = bind_pair _ nowhere (declared_pair w r c f ws ws') (λ t s s'. on_pair is_name _ _ s s'
      (λ n s s'. on_pair is_num _ _ s s' (λ m s s'. expect_pair ";" _ s s' (λ q s s'. ok_pair _)) (expect_pair ";" _ s s' (λ q s s'. ok_pair _))) bad_pair)

  name_pair : (f : ℕ) (ws ws' : List Word) → Pair Never w r c ws ws' (name_p f ws) (name_p f ws')
  unfolding name_p
  name_pair f ws ws' = on_pair is_name _ _ ws ws' (λ n s s'. ok_pair _) bad_pair

  pub actor_pair : (f : ℕ) (ws ws' : List Word) → Pair Never w r c ws ws' (actor_p f ws) (actor_p f ws')
  unfolding actor_p
  actor_pair f ws ws' = on_pair is_name _ _ ws ws'
      (λ n s s'. expect_pair "(" _ s s' (λ p s s'. until_pair ")" _ nowhere (commas_pair _ name_pair f s s') (λ ns q s s'. expect_pair "{" _ s s'
      (λ q s s'. bind_pair _ nowhere (some_pair is_way _ port_pair f s s') (λ ps s s'. bind_pair _ nowhere (many_pair is_store _ memory_pair f s s')
      (λ ms s s'. until_pair "}" _ nowhere (constraint_pair w r c (spelled_of (memory_names ms)) f s s') (λ gs t s s'. ok_pair _)))))))
      bad_pair
