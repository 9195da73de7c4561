-- What a cycle leaves. Assumes nothing: these are definitions.
use Rattle.std.specs.Prelude.{List, ℕ, Result, Ok, Err}
use Rattle.language.specs.Meaning.{Outcome}
use Rattle.judged.specs.declared.Refusal.{Refusal}
use Rattle.judged.specs.Answers.{number_of, accepted}

-- its answer, the number of present ports, the outputs and the memory
abbrev pub outcome : ℕ → ℕ → List ℕ → List ℕ → Outcome
outcome answer count outputs memory = record { answer = answer; count = count; outputs = outputs; memory = memory }

-- the two numbers of a cycle's end: how many ports were present where it is accepted, or why it is refused
abbrev pub answer_of : Result ℕ Refusal → ℕ
answer_of (Ok count) = accepted
answer_of (Err why) = number_of why

abbrev pub present_of : Result ℕ Refusal → ℕ
present_of (Ok count) = count
present_of (Err why) = 0

-- its end, the outputs and the memory
abbrev pub ended : Result ℕ Refusal → List ℕ → List ℕ → Outcome
ended r outputs memory = outcome (answer_of r) (present_of r) outputs memory
