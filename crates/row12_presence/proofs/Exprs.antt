-- What the walk does on an expression: it meets the inputs that are read and not listed with `.p.1`, and leaves its sets. Assumes nothing.
use mathlib.Core.Path.{◌≡◌, refl, sym, ap, ◌∙◌}
use mathlib.Core.Bool.{Bool, true, false, not, ◌||◌, false≢true}
use mathlib.Core.List.{List, [], ◌∷◌, ◌++◌, append-nil}
use mathlib.Core.Option.{Option, none, some}
use Prim.Native.Nat.{ℕ, ◌/◌, ◌%◌, ◌^◌, ◌≤◌}
use lib.Dec.{ltb}
use lib.ListN.{length}
use Rattle.language.specs.Text.{Name, among}
use Rattle.language.specs.Parts.{each, Item, reads, items, breadth_items, amount_items, read_names}
use Rattle.language.specs.Names.{when, input_names, read_faults}
use Rattle.language.specs.Tree.{Breadth, bits, Amount, given, value, spelled_of}
use Rattle.language.specs.Tree.{Expr, plain, sized, copies, read, cell, bit, range, inside, joined, beside, unary, binary, choice, either, select, arm, default}
use Rattle.language.specs.Widths.{port_width, value_in}
use Rattle.language.specs.Sizes.{Setting, Let, let_named}
use Rattle.language.specs.Meaning.{port_at}
use Rattle.placed.specs.Placed.{Every}
use Rattle.placed.proofs.Every.{every_append, each_append}
use Rattle.settled.specs.Form.{HELD, READ, AMOUNT, BIG, six}
use Rattle.settled.specs.Settled.{amount, settled_breadth, settled_amount, settled_cell, settled_port, settled_read, settled}
use Rattle.placed.proofs.Names.{missing_none}
use Rattle.placed.proofs.Same.{among_append}
use Rattle.row12_presence.specs.declared.Met.{Met}
use Rattle.row12_presence.specs.Walk.{has, mask_bits, faulty, next_of}
use Rattle.row12_presence.proofs.Ports.{mask_in, in_mask}
use Rattle.row12_presence.proofs.Scopes.{Apart, Covers}
use Rattle.row12_presence.proofs.Places.{unready, item_f, expr_f}
use Rattle.row12_presence.proofs.Goes.{Goes, goes_both, goes_told, goes_six, quiet, ends}

-- what row 6 says of a name that is read, item by item
abbrev Named : List (List ℕ) → Item → Type 0
Named known (Item.type t) = Unit {0}
Named known (Item.number n) = Unit {0}
Named known (reads n) = among known n.spelled ≡ true
Named known (Item.value n) = Unit {0}

named : (known : List (List ℕ)) (l : List Item) → Every (λ n. among known n.spelled ≡ true) (read_names l) → Every (Named known) l
unfolding read_names
named known [] h = tt
named known (Item.type t ∷ l) h = (tt, named known l h)
named known (Item.number n ∷ l) h = (tt, named known l h)
named known (reads n ∷ l) h = (h.0, named known l h.1)
named known (Item.value n ∷ l) h = (tt, named known l h)

or_left : (a b : Bool) → b ≡ false → (a || b) ≡ true → a ≡ true
or_left true b h k = refl
or_left false b h k = absurd (false≢true (sym h ∙ k))

module _ (s : Setting) where
  -- the sets of these names
  abbrev pub met : (rq dn al er : List (List ℕ)) → Met
  met rq dn al er = record { required = mask_in s rq; assigned = mask_in s dn; everywhere = mask_in s al; earlier = mask_in s er }

  abbrev pub inputs : List (List ℕ)
  inputs = input_names s.actor.ports

  module _ (few : length s.actor.signature ≤ mask_bits) (known : (n : List ℕ) → among inputs n ≡ true → among (spelled_of s.actor.signature) n ≡ true) (rq dn al er : List (List ℕ)) where
    abbrev m : Met
    m = met rq dn al er

    abbrev Reads : List ℕ → List Item → Type 0
    Reads l is = Goes m l (each (item_f inputs rq) is) m

    reads_both : {a b : List ℕ} (x y : List Item) → Reads a x → Reads b y → Reads (a ++ b) (x ++ y)
    reads_both x y d e = goes_told (sym (each_append (item_f inputs rq) x y)) (goes_both d e)

    breadth_does : (w : Breadth) → Reads (settled_breadth s w) (breadth_items w)
    unfolding settled_breadth breadth_items each item_f faulty next_of
    breadth_does (bits n) = quiet _ _ _ _ _ _ (refl, refl)
    breadth_does (Breadth.typed p t) = quiet _ _ _ _ _ _ (refl, refl)

    value_does : (p v : ℕ) → Goes m (amount p v) [] m
    unfolding amount faulty next_of
    value_does p v = go (ltb v (2 ^ 64))
      where
        go : (b : Bool) → Goes m (elim b as (λ (x : Bool). List ℕ) [ true ↦ six AMOUNT p (v % 2 ^ 32) (v / 2 ^ 32) 0 0 | false ↦ six BIG p 0 0 0 0 ]) [] m
        go true = quiet _ _ _ _ _ _ (refl, refl)
        go false = quiet _ _ _ _ _ _ (refl, refl)

    amount_does : (a : Amount) → Reads (settled_amount s a) (amount_items a)
    unfolding settled_amount amount_items each item_f
    amount_does (given n) = value_does n.at n.value
    amount_does (value n) = value_does n.at (value_in s.bindings.values n.spelled)

    module _ (names : List (List ℕ)) (lets : List (Let ℕ)) (apart : Apart inputs lets) (covers : Covers names lets) where
      read_does : (n : Name) → among (inputs ++ names) n.spelled ≡ true → Goes m (settled_read s lets n) (when (unready inputs rq n.spelled) n.at) m
      unfolding settled_read settled_port faulty next_of when
      read_does n h = go (let_named lets n.spelled) refl
        where
          held : among inputs n.spelled ≡ false → [] ≡ when (unready inputs rq n.spelled) n.at
          held e = rw e

          input : let_named lets n.spelled ≡ none → among inputs n.spelled ≡ true
          input e = or_left (among inputs n.spelled) (among names n.spelled) (covers.none n.spelled e) (sym (among_append n.spelled inputs names) ∙ h)

          test : among inputs n.spelled ≡ true → not (has (mask_in s rq) (port_at s n.spelled)) ≡ unready inputs rq n.spelled
          test i = rw i (ap not (in_mask s few n.spelled (known n.spelled i) rq))

          go : (o : Option ℕ) → let_named lets n.spelled ≡ o
              → Goes m (elim o as (λ (x : Option ℕ). List ℕ) [ some k ↦ six HELD n.at k 0 0 0 | none ↦ six READ n.at (port_at s n.spelled) 0 0 (port_width s.actor s.widths n.spelled) ]) (when (unready inputs rq n.spelled) n.at) m
          go (some k) e = goes_told (held (apart.none n.spelled k e)) (quiet _ _ _ _ _ _ (refl, refl))
          go none e = goes_six _ _ _ _ _ _ (test (input e)) refl

      reads_does : (e : Expr) → Every (Named (inputs ++ names)) (items e) → Reads (settled s lets e) (items e)
      unfolding settled settled_cell items each item_f faulty next_of
      reads_does (plain n) h = quiet _ _ _ _ _ _ (refl, refl)
      reads_does (sized w a) h = reads_both (breadth_items w) (amount_items a) (breadth_does w) (amount_does a)
      reads_does (copies n e) h = ends _ _ _ _ _ _ (reads_does e h.1) (refl, refl)
      reads_does (read n) h = goes_told (sym (append-nil _)) (read_does n h.0)
      reads_does (cell n a) h = ends _ _ _ _ _ _ (reads_does a h) (refl, refl)
      reads_does (bit e p i) h = reads_both (items e) (Item.type i ∷ []) (reads_does e (every_append _ (items e) _ h).0) (quiet _ _ _ _ _ _ (refl, refl))
      reads_does (range e p i j) h = reads_both (items e) (Item.type i ∷ Item.type j ∷ []) (reads_does e (every_append _ (items e) _ h).0) (quiet _ _ _ _ _ _ (refl, refl))
      reads_does (inside p e) h = ends _ _ _ _ _ _ (reads_does e h) (refl, refl)
      reads_does (joined p e) h = ends _ _ _ _ _ _ (reads_does e h) (refl, refl)
      reads_does (beside a b) h = let q = every_append _ (items a) (items b) h in reads_both (items a) (items b) (reads_does a q.0) (ends _ _ _ _ _ _ (reads_does b q.1) (refl, refl))
      reads_does (unary u e) h = ends _ _ _ _ _ _ (reads_does e h) (refl, refl)
      reads_does (binary o a b) h = let q = every_append _ (items a) (items b) h in reads_both (items a) (items b) (reads_does a q.0) (ends _ _ _ _ _ _ (reads_does b q.1) (refl, refl))
      reads_does (choice c a b) h =
          let p = every_append _ (items c) (items a ++ items b) h in let q = every_append _ (items a) (items b) p.1 in
          reads_both (items c) (items a ++ items b) (reads_does c p.0) (reads_both (items a) (items b) (reads_does a q.0) (ends _ _ _ _ _ _ (reads_does b q.1) (refl, refl)))
      reads_does (either p c a b) h =
          let o = every_append _ (items c) (items a ++ items b) h in let q = every_append _ (items a) (items b) o.1 in
          reads_both (items c) (items a ++ items b) (reads_does c o.0) (reads_both (items a) (items b) (reads_does a q.0) (ends _ _ _ _ _ _ (reads_does b q.1) (refl, refl)))
      reads_does (select p e a) h =
          let q = every_append _ (items e) (items a) h in
          reads_both (items e) (items a) (reads_does e q.0) (goes_both (quiet _ _ _ _ _ _ (refl, refl)) (ends _ _ _ _ _ _ (reads_does a q.1) (refl, refl)))
      reads_does (arm n e r) h = let q = every_append _ (items e) (items r) h in reads_both (items e) (items r) (reads_does e q.0) (ends _ _ _ _ _ _ (reads_does r q.1) (refl, refl))
      reads_does (default p e) h = ends _ _ _ _ _ _ (reads_does e h) (refl, refl)

      pub expr_does : (e : Expr) → read_faults s.actor names e ≡ [] → Goes m (settled s lets e) (expr_f inputs rq e) m
      unfolding read_faults expr_f
      expr_does e h = reads_does e (named (inputs ++ names) (items e) (missing_none _ _ h))
