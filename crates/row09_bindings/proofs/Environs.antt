-- The environment names on the tape are those of the actor: a name is one where the walk that asks for it marks an item. Assumes nothing.
use mathlib.Core.Path.{◌≡◌, refl, sym, ap, ◌∙◌}
use mathlib.Core.Bool.{Bool, true, false, ◌&&◌, ◌||◌}
use mathlib.Core.List.{List, [], ◌∷◌, ◌++◌}
use Prim.Native.Nat.{ℕ, zero, suc, ◌+◌, ◌*◌, ◌≤◌, ◌<◌}
use native.Mathlib.Omega.{arith}
use lib.Dec.{eqb}
use lib.ListN.{length}
use Rattle.language.specs.Text.{Name, same, among}
use Rattle.language.specs.Words.{Word}
use Rattle.language.specs.Parts.{each, environment_names}
use Rattle.language.specs.Names.{when}
use Rattle.language.specs.Widths.{typeless}
use Rattle.language.specs.Tree.{Port, Memory, Actor, spelled_of}
use Rattle.placed.specs.Members.{here}
use Rattle.placed.proofs.Members.{member_none}
use Rattle.placed.specs.Placed.{name_from}
use Rattle.tape.specs.Row.{Tells}
use Rattle.tape.specs.Walk.{op_at, place_at, value_at, hit, add, names_on, between, put, marked}
use Rattle.tape.specs.declared.Class.TheVariants.{Environment}
use Rattle.tape.proofs.Asks.{never, told_of_law}
use Rattle.tape.proofs.Seens.{more}
use Rattle.placed.proofs.Same.{Same}
use Rattle.row09_bindings.specs.Walk.{no_type, ask}
use Rattle.row09_bindings.proofs.Opens.{opened, opens, port_f, memory_f}

-- whether there is a place
unfoldable any : List ℕ → Bool
any [] = false
any (p ∷ ps) = true

any_last : (ps : List ℕ) (p : ℕ) → any (ps ++ (p ∷ [])) ≡ true
unfolding any
any_last [] p = refl
any_last (q ∷ ps) p = refl

any_same : {x y : List ℕ} → Same x y → any x ≡ any y
unfolding any
any_same {x} {y} s = go x y s
  where
    go : (x y : List ℕ) → Same x y → any x ≡ any y
    go [] [] s = refl
    go (p ∷ x) (q ∷ y) s = refl
    go (p ∷ x) [] s = absurd (member_none (s.to p (here refl)))
    go [] (q ∷ y) s = absurd (member_none (s.from q (here refl)))

and_never : (b : Bool) → (b && false) ≡ false
and_never true = refl
and_never false = refl

module _ (s : List ℕ) where
  -- an environment name that is spelled so
  abbrev called : List ℕ → Bool
  called n = same n s

  any_called : (ns : List Name) → any (each (told_of_law called) ns) ≡ among (spelled_of ns) s
  unfolding each spelled_of among any when
  any_called [] = refl
  any_called (n ∷ ns) = go (same n.spelled s) (any_called ns)
    where
      go : (b : Bool) → any (each (told_of_law called) ns) ≡ among (spelled_of ns) s → any (when b n.at ++ each (told_of_law called) ns) ≡ elim b as (λ (x : Bool). Bool) [ true ↦ true | false ↦ among (spelled_of ns) s ]
      go true h = refl
      go false h = h

  no_ports : (ps : List Port) → each (port_f called never false) ps ≡ []
  unfolding each when
  no_ports [] = refl
  no_ports (p ∷ ps) = rw (and_never (typeless p.type)) (no_ports ps)

  no_memories : (ms : List Memory) → each (memory_f called never false) ms ≡ []
  unfolding each when
  no_memories [] = refl
  no_memories (m ∷ ms) = rw (and_never (typeless m.type)) (no_memories ms)

  module _ (text t : List ℕ) where
    abbrev asked : ℕ → Bool
    asked i = ask called never false (op_at t i) (value_at t i) (name_from text (place_at t i))

    any_marked : (i : ℕ) → among (between text t Environment 0 i) s ≡ any (marked asked t i)
    unfolding marked names_on among any hit ask add put
    any_marked zero = refl
    any_marked (suc i) = ap (λ (l : List (List ℕ)). among l s) (more text t Environment 0 i (omega arith)) ∙ go (eqb (op_at t i) 2 || eqb (op_at t i) 15) (any_marked i)
      where
        before : List (List ℕ)
        before = between text t Environment 0 i

        name : List ℕ
        name = name_from text (place_at t i)

        -- what is asked of any other item
        other : Bool
        other = elim (eqb (op_at t i) 43) [ true ↦ no_type (value_at t i) && false | false ↦ elim (eqb (op_at t i) 44) [ true ↦ no_type (value_at t i) && false | false ↦ false ] ]

        no_other : other ≡ false
        no_other = cases (eqb (op_at t i) 43) (eqb (op_at t i) 44)
          where
            cases : (x y : Bool) → ◌≡◌ {A = Bool} (elim x [ true ↦ no_type (value_at t i) && false | false ↦ elim y [ true ↦ no_type (value_at t i) && false | false ↦ false ] ]) false
            cases true y = and_never (no_type (value_at t i))
            cases false true = and_never (no_type (value_at t i))
            cases false false = refl

        this : (b : Bool) → among before s ≡ any (marked asked t i) → elim b as (λ (x : Bool). Bool) [ true ↦ true | false ↦ among before s ] ≡ any (put b (place_at t i) (marked asked t i))
        this true h = sym (any_last (marked asked t i) (place_at t i))
        this false h = h

        go : (b : Bool) → among before s ≡ any (marked asked t i) → among (add b name before) s ≡ any (put (elim b as (λ (x : Bool). Bool) [ true ↦ same name s | false ↦ other ]) (place_at t i) (marked asked t i))
        go true h = this (same name s) h
        go false h = h ∙ sym (ap (λ (b : Bool). any (put b (place_at t i) (marked asked t i))) no_other)

    pub environs : (n many : ℕ) → n ≤ length t → 3 * many ≤ n → n < 3 * many + 3 → {ws : List Word} {a : Actor} → Tells text t n ws a → among (between text t Environment 0 many) s ≡ among (spelled_of (environment_names a)) s
    unfolding opened
    environs n many k low high {a = a} h =
        any_marked many ∙ any_same (opens called never false text t n many k low high h)
        ∙ ap any (ap (λ (l : List ℕ). l ++ (each (memory_f called never false) a.memories ++ each (told_of_law called) (environment_names a))) (no_ports a.ports) ∙ ap (λ (l : List ℕ). l ++ each (told_of_law called) (environment_names a)) (no_memories a.memories))
        ∙ any_called (environment_names a)
