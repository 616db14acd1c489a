-- Where a walk breaks, and what it comes to next.
use Rattle.std.proofs.Common.{◌≡◌, ℕ, zero, suc, ◌+◌, ◌-◌, ◌<◌, ◌≤◌, Bool, Option, Some, None, refl, sym, ap, ◌∙◌, arith, ⊎_elim}
use Rattle.std.proofs.lemmas.Bool.{cases_lt, le-leb, lt-leb}
use Rattle.heap_state.specs.Memory.Walk.{Met, AtEnd, Nothing, Reserved, Record, Broken, IsRead, ReadsAll, meets, next_place}
use Rattle.heap_state.proofs.Walks.Walking.{reads_end}
use Rattle.crossing_map.specs.declared.walked.Walked.{Walked as Next}
use Rattle.crossing_map.specs.declared.walked.Walked.TheVariants as next
use Rattle.crossing_map.specs.Walking.{next_at, next_in}
use Rattle.crossing_map.proofs.WalkedParts.{at_end, later}
use Rattle.heap_audit.specs.Breaks.{break_at, break_in}

module _ (passes : ℕ → Bool) (reserved heap : ℕ → ℕ) (end : ℕ) where
  abbrev met : ℕ → Met
  met at = meets passes reserved heap end at

  abbrev after : ℕ → ℕ
  after at = next_place end at (met at)

  abbrev breaks : ℕ → ℕ → Option ℕ
  breaks turns at = break_in turns passes reserved heap end at

  -- ---- a walk that breaks nowhere reads all

  reads_by : (n at : ℕ) (m : Met) → break_at end at m (breaks n (next_place end at m)) ≡ None
      → (breaks n (next_place end at m) ≡ None → ReadsAll n passes reserved heap end (next_place end at m))
      → IsRead end at m × ReadsAll n passes reserved heap end (next_place end at m)
  reads_by n at AtEnd none rest = (tt, reads_end passes reserved heap end n end (omega arith))
  reads_by n at Nothing none rest = (tt, rest none)
  reads_by n at (Reserved size) none rest = (tt, rest none)
  reads_by n at (Record size) none rest = ⊎_elim
      (λ (over : end < at + size). absurd (let e : Some at ≡ None = rw (lt-leb (at + size) end over) at none in cc))
      (λ (within : at + size ≤ end). (within, rest (rw (le-leb (at + size) end within) at none)))
      (cases_lt end (at + size))
  reads_by n at Broken none rest = absurd (cc)

  pub unbroken_reads : (turns at : ℕ) → breaks turns at ≡ None → ReadsAll turns passes reserved heap end at
  unfolding break_in ReadsAll
  unbroken_reads zero at none = tt
  unbroken_reads (suc n) at none = reads_by n at (met at) none (unbroken_reads n (after at))

  breaks_not_by : (n at : ℕ) (m : Met) → IsRead end at m × ReadsAll n passes reserved heap end (next_place end at m)
      → (ReadsAll n passes reserved heap end (next_place end at m) → breaks n (next_place end at m) ≡ None)
      → break_at end at m (breaks n (next_place end at m)) ≡ None
  breaks_not_by n at AtEnd reads rest = refl
  breaks_not_by n at Nothing reads rest = rest reads.1
  breaks_not_by n at (Reserved size) reads rest = rest reads.1
  breaks_not_by n at (Record size) reads rest = rw (le-leb (at + size) end reads.0) (rest reads.1)
  breaks_not_by n at Broken reads rest = absurd reads.0

  pub read_unbroken : (turns at : ℕ) → ReadsAll turns passes reserved heap end at → breaks turns at ≡ None
  unfolding break_in ReadsAll
  read_unbroken zero at reads = refl
  read_unbroken (suc n) at reads = breaks_not_by n at (met at) reads (read_unbroken n (after at))

  -- ---- the number of turns doesn't matter where it is enough

  pub unbroken_end : (n at : ℕ) → end ≤ at → breaks n at ≡ None
  unfolding break_in
  unbroken_end zero at behind = refl
  unbroken_end (suc n) at behind = rw (at_end passes reserved heap end at behind) refl

  break_in-turns : (m n at : ℕ) → end ≤ at + m → end ≤ at + n → breaks m at ≡ breaks n at
  unfolding break_in
  break_in-turns zero n at p q = sym (unbroken_end n at (omega arith))
  break_in-turns (suc m) zero at p q = unbroken_end (suc m) at (omega arith)
  break_in-turns (suc m) (suc n) at p q = ⊎_elim
      (λ (before : at < end). let on = later passes reserved heap end at before in ap (break_at end at (met at)) (break_in-turns m n (after at) (omega arith) (omega arith)))
      (λ (behind : end ≤ at). unbroken_end (suc m) at behind ∙ sym (unbroken_end (suc n) at behind))
      (cases_lt at end)

  -- ---- by what the walk comes to next

  -- where the walk breaks that comes to this next
  abbrev pub break_by : Next → Option ℕ
  break_by next.Ended = None
  break_by (next.Record a size) = breaks (end - (a + size)) (a + size)
  break_by (next.Broken a) = Some a

  breaks_by : (n at : ℕ) (m : Met) → end ≤ at + suc n → at < next_place end at m
      → ((there : ℕ) → end ≤ there + n → breaks n there ≡ break_by (next_in n passes reserved heap end there))
      → break_at end at m (breaks n (next_place end at m)) ≡ break_by (next_at end at m (next_in n passes reserved heap end (next_place end at m)))
  breaks_by n at AtEnd enough on rest = refl
  breaks_by n at Nothing enough on rest = rest (next_place end at Nothing) (omega arith)
  breaks_by n at (Reserved size) enough on rest = rest (at + size) (omega arith)
  breaks_by n at (Record size) enough on rest = ⊎_elim
      (λ (over : end < at + size). rw (lt-leb (at + size) end over) refl)
      (λ (within : at + size ≤ end). rw (le-leb (at + size) end within) (break_in-turns n (end - (at + size)) (at + size) (omega arith) (omega arith)))
      (cases_lt end (at + size))
  breaks_by n at Broken enough on rest = refl

  break_next : (turns at : ℕ) → end ≤ at + turns → breaks turns at ≡ break_by (next_in turns passes reserved heap end at)
  unfolding break_in next_in
  break_next zero at enough = refl
  break_next (suc n) at enough = ⊎_elim
      (λ (before : at < end). breaks_by n at (met at) enough (later passes reserved heap end at before) (break_next n))
      (λ (behind : end ≤ at). rw (at_end passes reserved heap end at behind) refl)
      (cases_lt at end)

  pub breaks_next : (at : ℕ) (n : Next) → next_in (end - at) passes reserved heap end at ≡ n → breaks (end - at) at ≡ break_by n
  breaks_next at n is = break_next (end - at) at (omega arith) ∙ ap break_by is
