-- The calls of a mutator that leaves the board alone, beside the same calls made alone.
use Rattle.std.proofs.Common.{ℕ, replicate}
use Rattle.std.proofs.lemmas.List.Elements.{All-replicate}
use Rattle.plain_state.specs.declared.sizes.TheConstants.{BOARD_WORDS, REGISTERS}
use Rattle.plain_state.specs.declared.value.Value.TheVariants.{Number}
use Rattle.plain_heap.proofs.Alone.Owned.{LeadsToOwn}
use Rattle.heap_laws.specs.Opening.{opening_mutator, opening_plain}
use Rattle.ael_threads.specs.Alone.{LoneCallsComeToTheSame}
use Rattle.gc_worker.specs.History.Legal.{calls_of}
use Rattle.ael_threads.proofs.Alone.Matching.{Matches, begins}
use Rattle.ael_threads.proofs.Alone.Sparing.{IsElse}
use Rattle.ael_threads.proofs.Alone.LoneHistories.{goes_alone}
use Rattle.ael_threads.proofs.Alone.Replying.{calls_by, ends_last, replies_so}

opens : (m n : ℕ) → Matches m (opening_plain n) (opening_plain n)
opens m n = begins m n (replicate BOARD_WORDS (Number 0)) opening_mutator
    (All-replicate (LeadsToOwn m) REGISTERS (Number 0) tt) (All-replicate (IsElse m) REGISTERS (Number 0) tt) (All-replicate (IsElse m) BOARD_WORDS (Number 0) tt)

pub lone_calls_come_to_the_same : LoneCallsComeToTheSame
lone_calls_come_to_the_same mutators log m legal leaves =
    let opened = opening_plain mutators in
    let goes = goes_alone m log opened opened (opens m mutators) legal leaves in
    let by = calls_by m log in
    record {
      legal = goes.legal;
      replies = replies_so m opened (calls_of m log) by goes.legal;
      last = ends_last m opened (calls_of m log) by goes.legal;
      mutator = goes.same.mutator;
      records = goes.same.records;
    }
