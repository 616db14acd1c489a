-- A concordance that is made: the parts of the text are dealt out, and one clerk has what all noted.
use Rattle.std.specs.Prelude.{◌≡◌, ◌<◌, ◌≤◌, List, length}
use Rattle.std.specs.List.{AllByRecursion}
use Rattle.space_map.specs.declared.spaces.TheConstants.{MOST_MUTATORS}
use Rattle.ael_threads.specs.Seats.{Seated, plain_after_seen}
use Rattle.concordance_text.specs.declared.part.Part.{Part}
use Rattle.concordance_text.specs.Parts.{AreInLineOrder, IsNumbered}
use Rattle.concordance.specs.Gathering.{AllAreNoted, HasAll}
use Rattle.concordance.specs.Working.{AreReady, IsShort, SharedHeap}

-- Parts of a text in a row, none of which has too long a word, and for each of them a clerk that has noted nothing: all of the heap.
pub record AreDealt (w : SharedHeap) (parts : List Part) (clerks : List Seated) : Type 0 where
  pub some : 0 < length clerks
  pub few : length clerks ≤ MOST_MUTATORS
  pub all : length clerks ≡ w.plan.mutators
  pub each : length parts ≡ length clerks
  pub numbered : AllByRecursion IsNumbered parts
  pub short : AllByRecursion IsShort parts
  pub in_order : AreInLineOrder parts
  pub ready : AreReady w 0 clerks

-- the clerk has taken in all others, has no end, and each clerk has noted the words of its part
pub record HasAllNotes (parts : List Part) (s : Seated) : Type 0 where
  pub has : HasAll s
  pub noted : AllAreNoted (plain_after_seen s.knows).heap parts
