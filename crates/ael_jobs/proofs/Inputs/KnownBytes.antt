-- What is known of the bytes that a reader has left and a writer holds, over tries of which the last one counts.
use Rattle.std.proofs.Common.{◌≡◌, ◌<◌, ◌≤◌, ◌++◌, ℕ, List, length, take, append-nil, subst, sym, ap, ◌∙◌, arith}
use Rattle.std.specs.Prelude.{Option, Some, None, Result, Ok}
use Rattle.std.specs.Io.KnownBytes.{Appends, Consumes, IsAtEnd, Keeps, ReadConsumes, WriteAppends}
use Rattle.std.proofs.lemmas.Grind.{common_steps}
use Rattle.std.proofs.lemmas.Result.{MatchResult-at_ok}
use Rattle.ael_jobs.specs.Streams.Stream.{ReadsKnown, WritesKnown}
use Rattle.ael_jobs.specs.declared.streams.sink.Put.TheVariants as put
use Rattle.ael_jobs.specs.declared.streams.source.Got.TheVariants as got

-- what stays over two tries
pub stays : (old mid new : Option (List ℕ)) → Keeps old mid → Keeps mid new → Keeps old new
stays None mid new kept more = tt
stays (Some xs) None new kept more = absurd kept
stays (Some xs) (Some ys) None kept more = absurd more
stays (Some xs) (Some ys) (Some zs) kept more = more ∙ kept

at_end : (old mid new : Option (List ℕ)) (buf : List ℕ) → Keeps old mid → Consumes mid new (take 0 buf) → IsAtEnd new → ReadsKnown old got.End buf new
at_end None mid new buf kept consumed ended = tt
at_end (Some xs) None new buf kept consumed ended = absurd kept
at_end (Some xs) (Some ys) None buf kept consumed ended = absurd consumed
at_end (Some xs) (Some ys) (Some zs) buf kept consumed ended =
    let same : zs ≡ xs = sym consumed ∙ kept in
    (ap (λ s. Some s) same, sym same ∙ ended)

-- a read that gave nothing is at the end
pub read_end : {E : Type 0} (old mid new : Option (List ℕ)) (r : Result ℕ E) (n : ℕ) (buf : List ℕ) → Keeps old mid → ReadConsumes mid new r buf → r ≡ Ok n → n ≡ 0 → 0 < length buf
    → ReadsKnown old got.End buf new
read_end old mid new r n buf kept read is none room =
    let gave = MatchResult-at_ok (λ k. Consumes mid new (take k buf) × (k ≡ 0 → 0 < length buf → IsAtEnd new)) (λ _. Keeps mid new) n is read in
    at_end old mid new buf kept (subst (λ k. Consumes mid new (take k buf)) none gave.0) (gave.1 none room)

-- what a read gave came first
pub read_bytes : (old mid new : Option (List ℕ)) (n : ℕ) (buf : List ℕ) → 0 < n → n ≤ length buf → Keeps old mid → Consumes mid new (take n buf)
    → ReadsKnown old (got.Bytes n) buf new
read_bytes None mid new n buf some within kept consumed = tt
read_bytes (Some xs) None new n buf some within kept consumed = absurd kept
read_bytes (Some xs) (Some ys) None n buf some within kept consumed = absurd consumed
read_bytes (Some xs) (Some ys) (Some zs) n buf some within kept consumed = grind (arith, common_steps)

-- a write that failed adds nothing
pub write_failed : (old new : Option (List ℕ)) (piece : List ℕ) → Keeps old new → WritesKnown old put.Failed piece new
write_failed None new piece kept = tt
write_failed (Some xs) None piece kept = absurd kept
write_failed (Some xs) (Some ys) piece kept = ap (λ zs. Some zs) kept

-- what a write took comes last
pub write_took : (old mid new : Option (List ℕ)) (n : ℕ) (piece : List ℕ) → 0 < n → n ≤ length piece → Keeps old mid → Appends mid new (take n piece)
    → WritesKnown old (put.Took n) piece new
write_took None mid new n piece some within kept appended = tt
write_took (Some xs) None new n piece some within kept appended = absurd kept
write_took (Some xs) (Some ys) None n piece some within kept appended = absurd appended
write_took (Some xs) (Some ys) (Some zs) n piece some within kept appended = (some, within, ap (λ s. Some s) (appended ∙ ap (λ (s : List ℕ). s ++ take n piece) kept))

-- and one that took nothing adds nothing
pub write_none : {E : Type 0} (old mid new : Option (List ℕ)) (r : Result ℕ E) (n : ℕ) (piece : List ℕ) → Keeps old mid → WriteAppends mid new r piece → r ≡ Ok n → n ≡ 0
    → WritesKnown old put.Failed piece new
write_none old mid new r n piece kept wrote is none =
    let took = MatchResult-at_ok (λ k. Appends mid new (take k piece)) (λ _. Keeps mid new) n is wrote in
    added_none old mid new piece kept (subst (λ k. Appends mid new (take k piece)) none took)
  where
    added_none : (old mid new : Option (List ℕ)) (piece : List ℕ) → Keeps old mid → Appends mid new (take 0 piece) → WritesKnown old put.Failed piece new
    added_none None mid new piece kept appended = tt
    added_none (Some xs) None new piece kept appended = absurd kept
    added_none (Some xs) (Some ys) None piece kept appended = absurd appended
    added_none (Some xs) (Some ys) (Some zs) piece kept appended = ap (λ s. Some s) (appended ∙ append-nil ys ∙ kept)
