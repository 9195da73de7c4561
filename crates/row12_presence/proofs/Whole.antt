-- THE THEOREM: the earliest faulty item among the settled items of an actor is the earliest fault of row 12. Assumes nothing.
-- What comes before: row 6 found no fault, and a mask has a bit for each port (row 7 has passed at most 16 ports).
use mathlib.Core.Path.{◌≡◌, ap, ◌∙◌}
use mathlib.Core.List.{[]}
use Prim.Native.Nat.{◌≤◌}
use lib.ListN.{length}
use Rattle.language.specs.Text.{earliest}
use Rattle.language.specs.Names.{name_faults}
use Rattle.language.specs.Presence.{presence_faults}
use Rattle.language.specs.Sizes.{Setting}
use Rattle.placed.proofs.Earliest.{earliest_same}
use Rattle.words.specs.Found.{place_told}
use Rattle.std.specs.Prelude.{None}
use Rattle.settled.specs.Settled.{settled_of}
use Rattle.row12_presence.specs.Walk.{mask_bits, walk, begin}
use Rattle.row12_presence.proofs.Goes.{goes_whole}
use Rattle.row12_presence.proofs.Actors.{actor_does}
use Rattle.row12_presence.proofs.Faults.{actor_same}

pub earliest_fault : (s : Setting) → length s.actor.signature ≤ mask_bits → name_faults s.actor ≡ [] → walk begin (settled_of s) None ≡ place_told (earliest (presence_faults s.actor))
earliest_fault s few passed = goes_whole (actor_does s few passed) ∙ ap place_told (earliest_same (actor_same s.actor).to (actor_same s.actor).from)
