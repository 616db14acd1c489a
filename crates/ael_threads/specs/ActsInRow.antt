-- Acts in a row, and rounds in a row.
use Rattle.std.specs.Prelude.{◌≡◌, ◌+◌, ◌<◌, ◌||◌, Bool, true, false, Option, Some, is_some, List, [], ◌∷◌, length}
use Rattle.gc_worker.specs.declared.steps.stepped.Stepped.{Stepped}
use Rattle.gc_worker.specs.declared.steps.stepped.Stepped.TheVariants.{Idle, Effect, Ended}
use Rattle.gc_worker.specs.Steps.AtRest.{is_at_rest}
use Rattle.gc_worker.specs.Steps.Wanted.{wanted}
use Rattle.ael_threads.specs.declared.calls.TheConstants.{ACTS}
use Rattle.ael_threads.specs.declared.rounds.Round.{Round}
use Rattle.ael_threads.specs.declared.rounds.Round.TheVariants.{Worked, Nothing, Gone}
use Rattle.ael_threads.specs.Readers.{SeatedScanner, steps_after}
use Rattle.ael_threads.specs.Rounds.{is_write}
use Rattle.ael_threads.specs.Seats.{Acts, Seated}

-- ---- a series, whatever is made

-- from a state to one after it, with what it tells; and what stops a series, by what was told last and the state then
module _ {S T : Type 0} where
  -- One is made after another, from one state to another, and none of them stops the series. These are the states before each of them, the
  -- latest first.
  abbrev pub Series : (Makes : S → T → S → Type 0) → (stops : T → S → Bool) → S → List S → S → Type 0
  Series Makes stops a [] b = b ≡ a
  Series Makes stops a (c ∷ before) b = (told : T) × Makes c told b × (stops told b ≡ false) × Series Makes stops a before c

  -- a series, and one more: this one may stop it
  pub record SeriesUntil (Makes : S → T → S → Type 0) (stops : T → S → Bool) (is_done : Bool) (a b : S) : Type 0 where
    pub before : List S
    pub last : S
    pub series : Series Makes stops a before last
    pub told : T
    pub made : Makes last told b
    pub done : is_done ≡ stops told b

  -- some are made: one at least, as many as ACTS if none of them stops the series, and else up to the first that does
  pub record MakesSome (Makes : S → T → S → Type 0) (stops : T → S → Bool) (is_done : Bool) (a b : S) : Type 0 where
    pub until : SeriesUntil Makes stops is_done a b
    pub open until use *
    pub most : length before < ACTS
    pub all : is_done ≡ false → length before + 1 ≡ ACTS

-- ---- which act stops a series of acts

-- one that answers a call: its effect, or the end of the mutator
abbrev pub is_answer : Stepped → Seated → Bool
is_answer (Effect m) b = true
is_answer (Ended m end) b = true
is_answer told b = false

-- one after which the worker rests
abbrev pub is_rest : Stepped → Seated → Bool
is_rest told b = is_at_rest b.worker

-- one that finds that the worker is gone
abbrev pub is_idle : Stepped → Seated → Bool
is_idle Idle b = true
is_idle told b = false

-- ---- a round of a scanner

-- an act of a scanner, which counts it
pub record ScannerActs (a : SeatedScanner) (told : Stepped) (b : SeatedScanner) : Type 0 where
  pub act : Acts a.seated told b.seated
  pub steps : b.steps ≡ steps_after a.steps told

-- it ends the round: the scanner is about to begin the next one, or is gone
abbrev pub ends_round : Stepped → SeatedScanner → Bool
ends_round told b = is_at_rest b.seated.worker

-- in one of these states the scanner was about to write a word
abbrev pub has_written : List SeatedScanner → Bool
has_written [] = false
has_written (c ∷ before) = is_write (wanted c.seated.worker) || has_written before

-- what a round came to, by what its last act told
abbrev pub round_told : Stepped → (written : Bool) → Round
round_told Idle written = Gone
round_told told true = Worked
round_told told false = Nothing

-- THE CLAUSE OF ROUND: acts up to the first that ends the round. It comes to Gone exactly if the last of them was idle, so that the scanner
-- was gone before; else to Worked exactly if one of them was to write a word.
pub record MakesRound (round : Round) (a b : SeatedScanner) : Type 0 where
  pub until : SeriesUntil ScannerActs ends_round true a b
  pub open until use *
  pub came : round ≡ round_told told (has_written (last ∷ before))

-- some acts of a round, up to its end if that is among them; whether one of its acts was to write a word, by these and those before them; and
-- what it came to
pub record GoesRound (was now : Bool) (result : Option Round) (a b : SeatedScanner) : Type 0 where
  pub some : MakesSome ScannerActs ends_round (is_some result) a b
  pub written : now ≡ (has_written (some.until.last ∷ some.until.before) || was)
  pub came : (round : Round) → result ≡ Some round → round ≡ round_told some.until.told now

-- ---- rounds in a row

-- a round, and the question whether to stop, which a scanner that is gone is not asked
abbrev pub IsAsked : {F : Type 0} → (Asks : F → Bool → F → Type 0) → Round → F → Bool → F → Type 0
IsAsked Asks Gone f stop g = (stop ≡ true) × (g ≡ f)
IsAsked Asks round f stop g = Asks f stop g

pub record RoundAsked {F : Type 0} (Asks : F → Bool → F → Type 0) (a : SeatedScanner × F) (told : Round × Bool) (b : SeatedScanner × F) : Type 0 where
  pub round : MakesRound told.0 a.0 b.0
  pub asked : IsAsked Asks told.0 a.1 told.1 b.1

abbrev pub is_stopped : {S : Type 0} → Round × Bool → S → Bool
is_stopped told b = told.1

-- THE CLAUSE OF SCANS: rounds, after each of which it was asked whether to stop, up to the first at which it was told so, or after which the
-- scanner is gone; and what the last one came to
pub record MakesRounds {F : Type 0} (Asks : F → Bool → F → Type 0) (f : F) (round : Round) (a b : SeatedScanner) : Type 0 where
  pub after : F
  pub until : SeriesUntil (RoundAsked Asks) is_stopped true (a, f) (b, after)
  pub is : round ≡ until.told.0
