-- What stands somewhere in a list. Assumes nothing: these are definitions.
use Rattle.std.specs.Prelude.{◌≡◌, Bool, true, false, List, ◌∷◌, ℕ}

pub data Member {A : Type 0} (x : A) : List A → Type 0 where
  here : {y : A} {l : List A} → x ≡ y → Member x (y ∷ l)
  there : {y : A} {l : List A} → Member x l → Member x (y ∷ l)

-- one name more, where a test passes
unfoldable pub add : Bool → List ℕ → List (List ℕ) → List (List ℕ)
add true n ns = n ∷ ns
add false n ns = ns
