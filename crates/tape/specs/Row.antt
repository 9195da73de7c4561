-- What rows 6 to 10 are asked of: a text that was read, and the tape that holds its actor. Assumes nothing: these are definitions.
use Rattle.std.specs.Prelude.{◌≡◌, List, ℕ, length, take}
use Rattle.language.specs.Words.{Word, words, words_of}
use Rattle.language.specs.Reader.{tree}
use Rattle.language.specs.Parser.{parse}
use Rattle.language.specs.Tree.{Actor}
use Rattle.tape.specs.Tape.{flat_actor}

pub record Tells (text t : List ℕ) (n : ℕ) (ws : List Word) (a : Actor) : Type 0 where
  pub lexed : words_of text ≡ words ws
  pub parses : parse ws ≡ tree a
  pub long : n ≡ length (flat_actor a)
  pub holds : take n t ≡ flat_actor a
