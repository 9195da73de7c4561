-- `run_rule` meets its contract. Assumes nothing.
use native.Mathlib.Omega.{arith}
use Prim.Native.Nat.{ℕ, ◌*◌, ◌/◌}
use mathlib.Core.Path.{◌≡◌, sym, ap, ◌∙◌, subst}
use mathlib.Core.List.{List, []}
use lib.ListN.{take, drop}
use lib.ListN.{replicate}
use Rattle.plan.specs.Items.{decode_all}
use Rattle.plan.specs.Layout.{present_at, code_at}
use Rattle.item_steps.specs.Machine.{state, exec_all}
use Rattle.machine.specs.Safety.{Safe}
use Rattle.machine.specs.Fires.{rule_run}
use Rattle.machine.proofs.Rules.{code_found, fires_safe, ran_as}
use borrow.Author.Rules.{rules}
use Rattle.machine.proofs.code.run_rule.Goals as goal

pub code_at-code-requires : goal.code_at-code-requires
code_at-code-requires g c = let h = c.requires.fires.0.inside in search rules

-- first that memory has room for a value of the type of the tables, then each clause
pub run_items-requires : goal.run_items-requires
run_items-requires g c =
    let args = c.args in
    let e : take (4 * (c.place-items.result / 4)) (drop c.code_at-code.result.from args.plan.now) ≡ code_at args.plan.now args.r = code_found args.plan.now args.r
    c.code_at-code.result.from (c.place-items.result / 4) c.requires.fires.0.whole c.code_at-code.ensures.0 (ap (λ (a : ℕ). a / 4) (c.place-items.ensures.0 ∙ c.code_at-code.ensures.1)) in (
      search rules,
      (
        (
          omega (arith, c.requires.fires.0.inside, c.place-items.ensures.0, c.code_at-code.ensures.1, c.code_at-code.ensures.0),
          present_at args.plan.now args.r,
          c.requires.fires.0.taken,
          c.requires.fires.0.given,
          subst (λ (l : List ℕ). Safe args.plan.now (present_at args.plan.now args.r) c.requires.fires.0.taken (decode_all l) (state [] (replicate 48 0) args.outputs.now []))
              (sym e) (fires_safe args.plan.now args.values.now args.memory.now args.r args.outputs.now c.requires.fires.0 c.requires.fires.1),
        ),
        c.requires.tables,
      ),
    )

pub returns : goal.returns
unfolding rule_run
returns g c =
    let args = c.args in
    let e : take (4 * (c.place-items.result / 4)) (drop c.code_at-code.result.from args.plan.now) ≡ code_at args.plan.now args.r = code_found args.plan.now args.r
    c.code_at-code.result.from (c.place-items.result / 4) c.requires.fires.0.whole c.code_at-code.ensures.0 (ap (λ (a : ℕ). a / 4) (c.place-items.ensures.0 ∙ c.code_at-code.ensures.1)) in
    λ qs b. ran_as (c.run_items.ensures qs b) (ap (λ (l : List ℕ). exec_all args.values.now args.memory.now (decode_all l) (state [] (replicate 48 0) args.outputs.now qs))
    e)
