-- The theorems: an actor that is read as accepted has a plan that is sound, short and small, and that means what the text means.
use Prim.Native.Nat.{ℕ, suc, ◌≤◌}
use mathlib.Core.Path.{◌≡◌, refl}
use mathlib.Core.List.{List}
use native.Mathlib.Omega.{arith}
use lib.ListN.{length}
use Rattle.language.specs.Limits.{limits}
use Rattle.language.specs.Words.{Word, words, words_of}
use Rattle.language.specs.Grammar.{Actors}
use Rattle.language.specs.Sizes.{Setting}
use Rattle.language.specs.Reading.{accepted, Reads}
use Rattle.language.proofs.Main.{grammar_correct}
use Rattle.placed.specs.Placed.{Every}
use Rattle.plan_of.specs.Accepted.{Accepted, NumberWord}
use Rattle.plan_of.specs.Theorems.{Planned}
use Rattle.plan_of.proofs.Means.{plan_means, plan_uncounted, plan_calls, plan_runs, plan_unfit}
use Rattle.plan_of.proofs.SoundPlan.{plan_sound}
use Rattle.plan_of.proofs.Short.{plan_short}
use Rattle.plan_of.proofs.PlanSmall.{plan_small}
use Rattle.plan_of.proofs.Resolved.{inputs_resolved, outputs_resolved, memories_resolved}
use Rattle.plan_of.proofs.Grammar.{actor_grammatical, actor_words_law}
use Rattle.plan_of.proofs.Read.{reads_accepted, words_of_text}

-- an accepted actor that its words derive, with small numbers and no more words than a text has
pub accepted_planned : (ws : List Word) (s : Setting) → Accepted ws s → Actors ws s.actor → Every NumberWord ws → length ws ≤ suc limits.actor → Planned ws s
accepted_planned ws s ok d n l =
    let gr = actor_grammatical d n in
    let w = actor_words_law d in
    let sound = plan_sound ws s ok gr in
    record {
      sound = sound;
      short = let q = plan_short s in omega arith;
      small = plan_small ws s ok gr (omega arith);
      inputs = inputs_resolved ws s ok gr;
      outputs = outputs_resolved ws s ok gr;
      memories = memories_resolved ws s ok gr;
      means = λ mask values memory outputs v o m. plan_means ws s ok gr mask values memory outputs sound v o m;
      uncounted = λ mask values memory outputs n. plan_uncounted ws s ok gr mask values memory outputs sound n;
      calls = λ ts memory v m. plan_calls ws s ok gr sound ts memory v m;
      runs = λ masks values memory outputs answers t. plan_runs ws s ok gr sound masks values memory outputs answers t;
      unfit = λ masks values memory outputs answers n. plan_unfit ws s ok gr sound masks values memory outputs answers n;
    }

-- THE THEOREM: two texts that are read as accepted have a plan as it should be
pub reads_planned : (text bindings : List ℕ) (s : Setting) → Reads text bindings (accepted s) → (ws : List Word) × (words_of text ≡ words ws) × Planned ws s
reads_planned text bindings s r =
    let a = reads_accepted text bindings (accepted s) s r refl in
    let p = a.passes in
    let k = words_of_text text p.words_of_law p.lexed in
    let b = p.brief in
    let l = k.0 in
    (p.words_of_law, p.lexed, accepted_planned p.words_of_law s a.is (grammar_correct.sound p.words_of_law s.actor p.parses) k.1 (omega arith))
