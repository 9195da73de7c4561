-- What the grammar gives of a tree, by recursion on it: what stands where, and which names are memories. Assumes nothing: these are definitions.
use Rattle.std.specs.Prelude.{◌≡◌, true, false, List, [], ◌∷◌, ℕ, suc, max, ◌≤◌}
use Rattle.language.specs.Text.{among}
use Rattle.language.specs.Limits.{limits}
use Rattle.language.specs.Tree.{Expr, plain, sized, copies, read, cell, bit, range, inside, joined, beside, unary, binary, choice, either, select, arm, default}
use Rattle.language.specs.Tree.{Assignment, assign, write, Statement, alone, scoped, Rule, Group, Actor, spelled_of, memory_names}
use Rattle.placed.specs.Placed.{Every}

-- where an expression stands: by itself, among the parts of a concatenation, among the arms of a case
pub data Kind : Type 0 where
  whole parts arms : Kind

abbrev pub IsPart : Kind → Type 0
IsPart whole = Unit {0}
IsPart parts = Unit {0}
IsPart arms = ⊥

abbrev pub IsParts : Kind → Type 0
IsParts whole = ⊥
IsParts parts = Unit {0}
IsParts arms = ⊥

abbrev pub IsArms : Kind → Type 0
IsArms whole = ⊥
IsArms parts = ⊥
IsArms arms = Unit {0}

-- `ms` are the names of the memories; "Plain numbers are decimal, at most 4,294,967,295."
abbrev pub FormedAt : List (List ℕ) → Kind → Expr → Type 0
FormedAt ms k (plain n) = IsPart k × (n.value ≤ limits.number)
FormedAt ms k (sized w a) = IsPart k
FormedAt ms k (copies n e) = IsPart k × FormedAt ms whole e
FormedAt ms k (read n) = IsPart k × (among ms n.spelled ≡ false)
FormedAt ms k (cell n a) = IsPart k × (among ms n.spelled ≡ true) × FormedAt ms whole a
FormedAt ms k (bit e p i) = IsPart k × FormedAt ms whole e
FormedAt ms k (range e p i j) = IsPart k × FormedAt ms whole e
FormedAt ms k (inside p e) = IsPart k × FormedAt ms whole e
FormedAt ms k (joined p e) = IsPart k × FormedAt ms parts e
FormedAt ms k (beside a b) = IsParts k × FormedAt ms parts a × FormedAt ms whole b
FormedAt ms k (unary u e) = IsPart k × FormedAt ms whole e
FormedAt ms k (binary o a b) = IsPart k × FormedAt ms whole a × FormedAt ms whole b
FormedAt ms k (choice c a b) = IsPart k × FormedAt ms whole c × FormedAt ms whole a × FormedAt ms whole b
FormedAt ms k (either p c a b) = IsPart k × FormedAt ms whole c × FormedAt ms whole a × FormedAt ms whole b
FormedAt ms k (select p e a) = IsPart k × FormedAt ms whole e × FormedAt ms arms a
FormedAt ms k (arm n e r) = IsArms k × FormedAt ms whole e × FormedAt ms arms r × (n.value ≤ limits.number)
FormedAt ms k (default p e) = IsArms k × FormedAt ms whole e

-- how many cases stand in each other's arms
unfoldable pub nest : Expr → ℕ
nest (plain n) = 0
nest (sized w a) = 0
nest (copies n e) = nest e
nest (read n) = 0
nest (cell n a) = nest a
nest (bit e p i) = nest e
nest (range e p i j) = nest e
nest (inside p e) = nest e
nest (joined p e) = nest e
nest (beside a b) = max (nest a) (nest b)
nest (unary u e) = nest e
nest (binary o a b) = max (nest a) (nest b)
nest (choice c a b) = max (nest c) (max (nest a) (nest b))
nest (either p c a b) = max (nest c) (max (nest a) (nest b))
nest (select p e a) = max (nest e) (suc (nest a))
nest (arm n e r) = max (nest e) (nest r)
nest (default p e) = nest e

abbrev pub NotEmpty : {A : Type 0} → List A → Type 0
NotEmpty [] = ⊥
NotEmpty (x ∷ l) = Unit {0}

abbrev pub FormedAssignment : List (List ℕ) → Assignment → Type 0
FormedAssignment ms (assign n e) = (among ms n.spelled ≡ false) × FormedAt ms whole e
FormedAssignment ms (write n a e) = (among ms n.spelled ≡ true) × FormedAt ms whole a × FormedAt ms whole e

abbrev pub FormedStatement : List (List ℕ) → Statement → Type 0
FormedStatement ms (alone x) = FormedAssignment ms x
FormedStatement ms (scoped vs l) = Every (λ v. FormedAt ms whole v.value) vs × Every (FormedAssignment ms) l

abbrev pub FormedRule : List (List ℕ) → Rule → Type 0
FormedRule ms r = NotEmpty r.list × Every (FormedStatement ms) r.body

abbrev pub FormedGroup : List (List ℕ) → Group → Type 0
FormedGroup ms g = NotEmpty g.rules × Every (FormedRule ms) g.rules

abbrev pub Formed : Actor → Type 0
Formed a = NotEmpty a.signature × NotEmpty a.groups × Every (FormedGroup (spelled_of (memory_names a.memories))) a.groups
