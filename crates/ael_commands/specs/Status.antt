-- How it is told that there is no concordance.
use Rattle.concordance.specs.declared.error.ConcordError.{ConcordError}
use Rattle.concordance.specs.declared.error.ConcordError.TheVariants as concord
use Rattle.ael_jobs.specs.declared.status.Status.{Status}
use Rattle.ael_jobs.specs.declared.status.Status.TheVariants.{LongWord, HeapFull, NoMemory}

abbrev pub concord_status : ConcordError → Status
concord_status (concord.WordTooLong line) = LongWord line
concord_status (concord.HeapFull asked room) = HeapFull asked room
concord_status concord.NoMemory = NoMemory
