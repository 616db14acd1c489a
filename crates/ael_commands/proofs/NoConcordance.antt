-- Why there is no concordance.
use Rattle.std.proofs.Common.{◌≡◌, ◌≢◌, ℕ, List, refl}
use Rattle.std.specs.Prelude.{◌↔◌, Result, Err, IsErrOf}
use Rattle.concordance.specs.declared.error.ConcordError.{ConcordError}
use Rattle.concordance.specs.declared.error.ConcordError.TheVariants as concord
use Rattle.concordance_text.specs.MayBeFull.{MayBeFull}
use Rattle.concordance_text.specs.Words.{HasShortWords, IsFirstTooLong}
use Rattle.ael_jobs.specs.Tasks.Concord.{HasNoConcordance, HasLongWord, HasNoMemory, HasNoRoom}
use Rattle.ael_jobs.proofs.Concordances.{short_words}
use Rattle.ael_commands.specs.Status.{concord_status}

-- a text whose long word isn't told has short ones
pub short_unless_told : {T : Type 0} (text : List ℕ) (r : Result T ConcordError) → ((line : ℕ) → IsErrOf r (concord.WordTooLong line) ↔ IsFirstTooLong text line)
    → ((line : ℕ) → r ≢ Err (concord.WordTooLong line)) → HasShortWords text
short_unless_told text r long other = short_words text (λ line first. other line ((long line).1 first))

-- a failure is told as what it is
pub no_concordance : {T : Type 0} (pages : ℕ) (text : List ℕ) (r : Result T ConcordError) (e : ConcordError) → r ≡ Err e
    → ((line : ℕ) → IsErrOf r (concord.WordTooLong line) ↔ IsFirstTooLong text line)
    → ((asked room : ℕ) → IsErrOf r (concord.HeapFull asked room) → MayBeFull pages text asked room) → HasNoConcordance pages text (concord_status e)
no_concordance pages text r (concord.WordTooLong line) is long full = HasLongWord (record { line = line; first = (long line).0 is; told = refl })
no_concordance pages text r (concord.HeapFull asked room) is long full =
    HasNoRoom asked room (short_unless_told text r long (λ line other. cc)) (full asked room is) refl
no_concordance pages text r concord.NoMemory is long full = HasNoMemory refl
