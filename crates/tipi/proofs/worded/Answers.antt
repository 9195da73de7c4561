-- `worded` meets its contract. Assumes nothing.
use native.Mathlib.Omega.{arith}
use mathlib.Core.Path.{sym}
use Prim.Native.Nat.{ℕ}
use lib.ListN.{replicate, length-replicate}
use Rattle.tipi.proofs.Judging.{passed_up, after_as}
use Rattle.tipi.proofs.Texts.{worded_refused, few_numbers, met, tape_size}
use Rattle.tipi.proofs.worded.Goals as goal

pub slice_bounds-judged-end : goal.slice_bounds-judged-end
slice_bounds-judged-end c = sym (tape_size c.args.text.now (replicate 24576 0) (length-replicate {A = ℕ} 24576 0) c.read.ensures.tape)

pub judged-requires : goal.judged-requires
judged-requires c =
    let args = c.args in
    let pre = c.requires in
    let read = c.read in
    let q = few_numbers read.ensures.room c.in_ok-n.was in
    let l = tape_size args.text.now (replicate 24576 0) (length-replicate {A = ℕ} 24576 0) read.ensures.tape in
    let M = met args.text.now (replicate 24576 0) args.bound pre.text_len_bound (length-replicate {A = ℕ} 24576 0) read.ensures.answer read.ensures.tape
    read.ensures.room c.in_ok-n.was pre.binds.1 in
    record { n_in_bounds = (omega (arith, q, l), q); texts_held = (M.ws, M.actor, pre.binds.0, M.held) }

pub returns : goal.returns
returns c =
    let args = c.args in
    let pre = c.requires in
    let read = c.read in
    λ b h. let M = met args.text.now (replicate 24576 0) args.bound pre.text_len_bound (length-replicate {A = ℕ} 24576 0) read.ensures.answer read.ensures.tape
    read.ensures.room c.in_ok-n.was h in after_as M.whole (c.judged.ensures M.ws M.actor b M.held)

pub returns-in_err-n : goal.returns-in_err-n
returns-in_err-n c = λ b h. passed_up _ c.from_residual.ensures.1 (worded_refused c.args.text.now (replicate 24576 0) b _ _ c.requires.text_len_bound c.read.ensures.answer c.in_err-n.was)
