-- What each settled item does to the expressions that wait, to the first fault and to the code (row 11). Assumes nothing: these are definitions.
use Rattle.std.specs.Prelude.{Bool, true, false, not, ◌&&◌, ◌||◌, ℕ, ◌+◌, ◌*◌, ◌^◌, min, max, eqb, leb, ltb}
use Rattle.language.specs.Limits.{limits}
use Rattle.language.specs.Values.{plain_width, unary_width, binary_width, range_width}
use Rattle.std.specs.Prelude.{Option as Optional, Some, None}
use Rattle.words.specs.Found.{Place}
use Rattle.words.specs.Found.{earlier_of}
use Rattle.plan.specs.declared.Item.{Item}
use Rattle.plan.specs.declared.Item.TheVariants.{Const, Port, Let, Cell, Range, Copies, Beside, Before, Between, Choice, Arm, Keep, Assign, Write, Bad}
use Rattle.plan.specs.Items.{unary_item, binary_item}
use Rattle.plan.specs.Sound.{case_slot, arm_slot}
use Rattle.settled.specs.Form.{BIG, AMOUNT, PLAIN, COPIES, READ, CELL, HELD, RANGE, START, JOINED, BESIDE, UNARY, BINARY, CHOICE, EITHER, SELECT, SELECTED, ARM, ASSIGN, WRITE, TYPED, VAL}
use Rattle.size_walk.specs.declared.Effect.{Effect}
use Rattle.size_walk.specs.declared.Seen.{Seen}

-- what an item adds to the code: nothing, or an item of the plan's
abbrev pub Emits : Type 0
Emits = Optional Item

-- what has no width: a fault is inside it
abbrev pub FAULTY : ℕ
FAULTY = 99

-- a width, where there is one: parts of a concatenation may also have 65, which is over 64
unfoldable pub has : ℕ → Bool
has w = leb w limits.expressionWidth

-- ---- effects put together

unfoldable pub gives_of : ℕ → ℕ → ℕ → Place → Emits → Effect
gives_of k w s f e = record { takes = k; leaves = Some (record { width = w; start = s }); fault = f; emits = e }

unfoldable pub ends_of : ℕ → Place → Emits → Effect
ends_of k f e = record { takes = k; leaves = None; fault = f; emits = e }

-- "An expression with a fault inside has no width and no further fault"
unfoldable pub faulty_of : ℕ → ℕ → Emits → Effect
faulty_of k s e = gives_of k FAULTY s None e

unfoldable pub tested_of : Bool → ℕ → ℕ → ℕ → ℕ → Emits → Effect
tested_of true k w s p e = gives_of k w s None e
tested_of false k w s p e = gives_of k FAULTY s (Some p) e

unfoldable pub through_of : Bool → ℕ → ℕ → Emits → Effect → Effect
through_of true k s e x = x
through_of false k s e x = faulty_of k s e

unfoldable pub sooner_of : Place → Place → Place
sooner_of None q = q
sooner_of (Some p) q = earlier_of p q

unfoldable pub unless_at : Bool → ℕ → Place
unless_at true p = None
unless_at false p = Some p

-- the widths of an operator by its number
unfoldable pub before_width : Item → ℕ
before_width (Const w lo hi) = 0
before_width (Port i) = 0
before_width (Let k) = 0
before_width (Cell m f n) = 0
before_width (Range i j) = 0
before_width (Copies n w) = 0
before_width (Beside w) = 0
before_width (Before u w) = unary_width u w
before_width (Between o m n) = 0
before_width Choice = 0
before_width (Arm n k) = 0
before_width (Keep k w) = 0
before_width (Assign p) = 0
before_width (Write m f n) = 0
before_width Bad = 0

unfoldable pub between_width : Item → ℕ
between_width (Const w lo hi) = 0
between_width (Port i) = 0
between_width (Let k) = 0
between_width (Cell m f n) = 0
between_width (Range i j) = 0
between_width (Copies n w) = 0
between_width (Beside w) = 0
between_width (Before u w) = 0
between_width (Between o m n) = binary_width o m n
between_width Choice = 0
between_width (Arm n k) = 0
between_width (Keep k w) = 0
between_width (Assign p) = 0
between_width (Write m f n) = 0
between_width Bad = 0

unfoldable pub unary_wide : ℕ → ℕ → ℕ
unary_wide o w = before_width (unary_item o w)

unfoldable pub binary_wide : ℕ → ℕ → ℕ → ℕ
binary_wide o m n = between_width (binary_item o m n)

-- ---- the items that take no expression

unfoldable pub plain_effect : ℕ → ℕ → Effect
plain_effect p v = gives_of 0 (plain_width v) p None (Some (Const (plain_width v) v 0))

unfoldable pub read_effect : ℕ → ℕ → ℕ → Effect
read_effect p k w = gives_of 0 w p None (Some (Port k))

module _ (v : Seen) where
  unfoldable pub big_effect : Effect
  big_effect = tested_of false 0 0 v.start v.start None

  -- "constant too big for its width": of at most 64 bits
  unfoldable pub sized_effect : ℕ → ℕ → Effect
  sized_effect lo hi = tested_of (has v.breadth && ltb (lo + hi * 2 ^ 32) (2 ^ v.breadth)) 0 v.breadth v.start v.start (Some (Const v.breadth lo hi))

  unfoldable pub used_effect : ℕ → ℕ → Effect
  used_effect p k = gives_of 0 v.held p None (Some (Let k))

  -- ---- the items over expressions

  unfoldable pub copies_effect : ℕ → ℕ → Effect
  copies_effect p n = through_of (has v.x) 1 p (Some (Copies n v.x)) (tested_of (leb (n * v.x) limits.expressionWidth) 1 (n * v.x) p p (Some (Copies n v.x)))

  unfoldable pub cell_effect : ℕ → ℕ → ℕ → ℕ → ℕ → Effect
  cell_effect p m f n w = through_of (has v.x) 1 p (Some (Cell m f n)) (gives_of 1 w p None (Some (Cell m f n)))

  unfoldable pub range_effect : ℕ → ℕ → ℕ → Effect
  range_effect p i j = through_of (has v.x) 1 v.s (Some (Range i j)) (tested_of (ltb i v.x && ltb j v.x) 1 (range_width i j) v.s p (Some (Range i j)))

  unfoldable pub begun_effect : ℕ → Effect
  begun_effect p = gives_of 1 v.x p None None

  unfoldable pub joined_effect : ℕ → Effect
  joined_effect p = through_of (not (eqb v.x FAULTY)) 1 p None (tested_of (has v.x) 1 v.x p p None)

  -- a sum over 64 is kept as 65
  unfoldable pub beside_effect : Effect
  beside_effect = through_of (not (eqb v.x FAULTY || eqb v.y FAULTY)) 2 v.t (Some (Beside v.x)) (gives_of 2 (min (v.y + v.x) 65) v.t None (Some (Beside v.x)))

  unfoldable pub unary_effect : ℕ → ℕ → Effect
  unary_effect p o = through_of (has v.x) 1 p (Some (unary_item o v.x)) (gives_of 1 (unary_wide o v.x) p None (Some (unary_item o v.x)))

  unfoldable pub binary_effect : ℕ → Effect
  binary_effect o =
      through_of (has v.x && has v.y) 2 v.t (Some (binary_item o v.y v.x))
      (tested_of (has (binary_wide o v.y v.x)) 2 (binary_wide o v.y v.x) v.t v.t (Some (binary_item o v.y v.x)))

  unfoldable pub choice_effect : ℕ → Effect
  choice_effect p = through_of (has v.x && has v.y && has v.z) 3 p (Some Choice) (gives_of 3 (max v.y v.x) p None (Some Choice))

  unfoldable pub selected_effect : ℕ → Effect
  selected_effect p = through_of (has v.x && has v.y) 2 p None (gives_of 2 v.x p None None)

  unfoldable pub arm_effect : ℕ → ℕ → Effect
  arm_effect p n = through_of (has v.x && has v.y) 2 p (Some (Arm n (arm_slot v.cases))) (gives_of 2 (max v.y v.x) p None (Some (Arm n (arm_slot v.cases))))

  unfoldable pub select_effect : Effect
  select_effect = ends_of 0 None (Some (Keep (case_slot v.cases) v.x))

  -- ---- what ends a statement: "a wider one is refused"

  unfoldable pub fitted_at : ℕ → Place
  fitted_at w = unless_at (not (has v.x) || leb v.x w) v.s

  unfoldable pub assign_effect : ℕ → ℕ → Effect
  assign_effect k w = ends_of 1 (fitted_at w) (Some (Assign k))

  unfoldable pub write_effect : ℕ → ℕ → ℕ → ℕ → Effect
  write_effect m f n w = ends_of 2 (fitted_at w) (Some (Write m f n))

  unfoldable pub val_effect : ℕ → Effect
  val_effect k = ends_of 1 None (Some (Keep k v.x))

  unfoldable pub kept_of : Bool → ℕ → ℕ
  kept_of true w = w
  kept_of false w = FAULTY

  -- "A `let`'s type, 64 at most (else 11 at its name), is its target."
  unfoldable pub typed_effect : ℕ → ℕ → ℕ → Effect
  typed_effect p k w = ends_of 1 (sooner_of (unless_at (has w) p) (fitted_at w)) (Some (Keep k (kept_of (has w && leb v.x w) w)))

-- ---- a settled item: its operation, its place and four operands

unfoldable pub effect_of : (op p a b c d : ℕ) → Seen → Effect
effect_of op p a b c d v =
    elim (eqb op BIG) [
      | true ↦ big_effect v
      | false ↦
          elim (eqb op AMOUNT) [
            | true ↦ sized_effect v a b
            | false ↦
                elim (eqb op PLAIN) [
                  | true ↦ plain_effect p a
                  | false ↦
                      elim (eqb op COPIES) [
                        | true ↦ copies_effect v p a
                        | false ↦
                            elim (eqb op READ) [
                              | true ↦ read_effect p a d
                              | false ↦
                                  elim (eqb op CELL) [
                                    | true ↦ cell_effect v p a b c d
                                    | false ↦
                                        elim (eqb op HELD) [
                                          | true ↦ used_effect v p a
                                          | false ↦
                                              elim (eqb op RANGE) [
                                                | true ↦ range_effect v p a b
                                                | false ↦
                                                    elim (eqb op START) [
                                                      | true ↦ begun_effect v p
                                                      | false ↦
                                                          elim (eqb op JOINED) [
                                                            | true ↦ joined_effect v p
                                                            | false ↦
                                                                elim (eqb op BESIDE) [
                                                                  | true ↦ beside_effect v
                                                                  | false ↦
                                                                      elim (eqb op UNARY) [
                                                                        | true ↦ unary_effect v p a
                                                                        | false ↦
                                                                            elim (eqb op BINARY) [
                                                                              | true ↦ binary_effect v a
                                                                              | false ↦
                                                                                  elim (eqb op CHOICE) [
                                                                                    | true ↦ choice_effect v v.u
                                                                                    | false ↦
                                                                                        elim (eqb op EITHER) [
                                                                                          | true ↦ choice_effect v p
                                                                                          | false ↦
                                                                                              elim (eqb op SELECT) [
                                                                                                | true ↦ select_effect v
                                                                                                | false ↦
                                                                                                    elim (eqb op SELECTED) [
                                                                                                      | true ↦ selected_effect v p
                                                                                                      | false ↦
                                                                                                          elim (eqb op ARM) [
                                                                                                            | true ↦ arm_effect v p a
                                                                                                            | false ↦
                                                                                                                elim (eqb op ASSIGN) [
                                                                                                                  | true ↦ assign_effect v a d
                                                                                                                  | false ↦
                                                                                                                      elim (eqb op WRITE) [
                                                                                                                        | true ↦ write_effect v a b c d
                                                                                                                        | false ↦
                                                                                                                            elim (eqb op TYPED) [
                                                                                                                              | true ↦ typed_effect v p a d
                                                                                                                              | false ↦
                                                                                                                                  elim (eqb op VAL) [ true ↦ val_effect v a | false ↦ ends_of 0 None None ]
                                                                                                                            ]
                                                                                                                      ]
                                                                                                                ]
                                                                                                          ]
                                                                                                    ]
                                                                                              ]
                                                                                        ]
                                                                                  ]
                                                                            ]
                                                                      ]
                                                                ]
                                                          ]
                                                    ]
                                              ]
                                        ]
                                  ]
                            ]
                      ]
                ]
          ]
    ]
