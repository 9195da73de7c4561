-- `typing_vectors::judge::step` meets its contract. Assumes nothing.
use native.Mathlib.Omega.{arith}
use native.Mathlib.Nat.{pos_of_ne-zero}
use Rattle.std.proofs.lemmas.Option.{IfSome_then}
use Rattle.typing_vectors.proofs.Holding.{leaf_held, unary_held, binary_held}
use Rattle.typing_vectors.proofs.judge.step.Goals as goal

pub returns-in_ok-mark-in-2-clause-held : goal.returns-in_ok-mark-in-2-clause-held
returns-in_ok-mark-in-2-clause-held c =
    IfSome_then c.push.result c.push.ensures.value (λ r p. (
      omega (arith, p.0),
      λ ks w.
          unary_held c.args.unknowns c.args.marks.now c.push.new.marks r c.requires.1 c.args.n c.in_ok-mark-in-2.mark c.args.node ks (pos_of_ne-zero c.if-n-eq0.false) p w c.in_ok-mark-in-2.ensures,
    ))

pub returns-in_ok-mark-in-5-clause-held : goal.returns-in_ok-mark-in-5-clause-held
returns-in_ok-mark-in-5-clause-held c =
    IfSome_then c.push-in-5.result c.push-in-5.ensures.value (λ r p. (
      omega (arith, p.0),
      λ ks w.
          binary_held c.args.unknowns c.args.marks.now c.push-in-5.new.marks r c.requires.1 c.args.n c.in_ok-mark-in-5.mark c.args.node ks c.if-n-lt2.false p w c.in_ok-mark-in-5.ensures,
    ))

pub returns-in_ok-mark-in_default-clause-held : goal.returns-in_ok-mark-in_default-clause-held
returns-in_ok-mark-in_default-clause-held c =
    IfSome_then c.push-in_default.result c.push-in_default.ensures.value (λ r p. (
      omega (arith, p.0),
      λ ks w.
          leaf_held c.args.unknowns c.args.marks.now c.push-in_default.new.marks r c.requires.1 c.args.n c.in_ok-mark-in_default.mark c.args.node ks p w c.in_ok-mark-in_default.ensures,
    ))
