-- What is proved of the grammar itself, and of listings.
use Rattle.std.specs.Prelude.{◌≡◌, ℕ, ◌<◌, ◌⊎◌, List, Some, IsTrue}
use Rattle.plain_state.specs.declared.sizes.TheConstants.{MOST_INSTRS}
use Rattle.mutator_asm.specs.declared.instr.Instr.{Instr}
use Rattle.mutator_asm.specs.declared.item.Item.{Item}
use Rattle.mutator_asm.specs.Listing.{listing}
use Rattle.mutator_asm.specs.Program.{IsWellFormed, instr_at, is_valid}
use Rattle.mutator_asm.specs.Text.{IsText, IsFault}

-- a text means at most one program
abbrev pub MeansOneProgram : Type 0
MeansOneProgram = (bytes : List ℕ) (code other : List (List Instr)) (schedule another : List Item) → IsText bytes code schedule → IsText bytes other another → (code ≡ other) × (schedule ≡ another)

-- a text has at most one fault
abbrev pub HasOneFault : Type 0
HasOneFault = (bytes : List ℕ) (number line other another : ℕ) → IsFault bytes number line → IsFault bytes other another → (number ≡ other) × (line ≡ another)

-- a text that means a program has no fault
abbrev pub HasNoFault : Type 0
HasNoFault = (bytes : List ℕ) (code : List (List Instr)) (schedule : List Item) (number line : ℕ) → IsText bytes code schedule → IsFault bytes number line → ⊥

-- a text means this program
pub record Means (bytes : List ℕ) : Type 0 where
  pub code : List (List Instr)
  pub schedule : List Item
  pub text : IsText bytes code schedule

-- a text has this fault
pub record TextHasFault (bytes : List ℕ) : Type 0 where
  pub number : ℕ
  pub line : ℕ
  pub fault : IsFault bytes number line

-- each text means a program or has a fault
abbrev pub EachTextIsRead : Type 0
EachTextIsRead = (bytes : List ℕ) → Means bytes ⊎ TextHasFault bytes

-- each instruction of a well-formed program has operands that their places allow
abbrev pub FetchesInstrs : Type 0
FetchesInstrs = (code : List (List Instr)) (schedule : List Item) (mutator counter : ℕ) (instr : Instr) → IsWellFormed code schedule → instr_at code mutator counter ≡ Some instr → IsTrue (is_valid instr)

-- a well-formed program has no instruction whose number is the most instructions of a text, or more
abbrev pub FetchesEarly : Type 0
FetchesEarly = (code : List (List Instr)) (schedule : List Item) (mutator counter : ℕ) (instr : Instr) → IsWellFormed code schedule → instr_at code mutator counter ≡ Some instr → counter < MOST_INSTRS

-- the program of a text is well formed
abbrev pub MeansWellFormed : Type 0
MeansWellFormed = (bytes : List ℕ) (code : List (List Instr)) (schedule : List Item) → IsText bytes code schedule → IsWellFormed code schedule

-- the listing of a well-formed program is a text of it
abbrev pub ListsText : Type 0
ListsText = (code : List (List Instr)) (schedule : List Item) → IsWellFormed code schedule → IsText (listing code schedule) code schedule

-- the listing of a well-formed program means that program and no other
abbrev pub ReadsBack : Type 0
ReadsBack = (code other : List (List Instr)) (schedule another : List Item) → IsWellFormed code schedule → IsText (listing code schedule) other another → (other ≡ code) × (another ≡ schedule)

-- the listing of a well-formed program has no fault
abbrev pub ListsNoFault : Type 0
ListsNoFault = (code : List (List Instr)) (schedule : List Item) (number line : ℕ) → IsWellFormed code schedule → IsFault (listing code schedule) number line → ⊥
