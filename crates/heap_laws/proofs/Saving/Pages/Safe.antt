-- If each page that is safe to save stays so, what rests on that stays: which pages may be saved, a save whose exchange comes next,
-- a scanner's first reads, and a round.
use Rattle.std.proofs.Common.{◌≡◌, ℕ, ◌+◌, ◌≤◌, ◌⊎◌, inr, ⊎_elim, true, false, arith}
use Rattle.space_map.specs.declared.save_word.SaveWord.TheVariants.{Saved}
use Rattle.heap_state.specs.Memory.Table.{Table}
use Rattle.heap_state.specs.Saving.Words.{Saves, IsInProgress}
use Rattle.heap_state.specs.Saving.Frozen.{Frozen, IsSafe, MayBeSaved}
use Rattle.heap_state.specs.Saving.Savers.{SaveStep, SaveRound, HasPassed, FirstReads, NoReads, GateRead, SnapRead, DoneRead}
use Rattle.heap_state.specs.Saving.Parts.{BeginsSave, ReadsTell, SavesRound}

module _ (t : Table) (s s' : Saves) (z z' : Frozen) (rises : s.snap ≤ s'.snap) (safe : (page c : ℕ) → IsSafe s z page c → IsSafe s' z' page c) where
  pub may_still : (c epoch : ℕ) → MayBeSaved t s z c epoch → MayBeSaved t s' z' c epoch
  unfolding MayBeSaved
  may_still c epoch may = λ page is opened. safe page c (may page is opened)

  pub begins_still : (v : SaveStep) → BeginsSave s z v → BeginsSave s' z' v
  begins_still v begins = record { earlier = begins.earlier; safe = safe v.page v.number begins.safe }

  -- if SNAP as it was read, which still was SNAP, tells what it should
  pub reads_still : (r : FirstReads)
      → ((c epoch : ℕ) → s.snap ≡ c → t.gate.epoch ≡ epoch → (s'.snap ≡ c) ⊎ ((t.traced ≡ epoch + 1) × MayBeSaved t s' z' (c + 1) epoch))
      → ReadsTell t s z r → ReadsTell t s' z' r
  reads_still NoReads same tell = tt
  reads_still (GateRead epoch) same tell = tell
  reads_still (SnapRead epoch c) same tell = let begun = tell.1 in (
    tell.0,
    omega (arith, begun, rises),
    λ now. ⊎_elim
        (λ (is : s.snap ≡ c). same c epoch is now)
        (λ (rest : (t.traced ≡ epoch + 1) × MayBeSaved t s z (c + 1) epoch). inr (rest.0, may_still (c + 1) epoch rest.1))
        (tell.2 now),
  )
  reads_still (DoneRead epoch c) same tell = let begun = tell.1 in (
    tell.0,
    omega (arith, begun, rises),
    λ now. let rest = tell.2 now in (rest.0, may_still c epoch rest.1),
  )

  -- if its checkpoint is in progress in its epoch alone, and the pages that it has passed are saved then
  pub round_still : (r : SaveRound) → (IsInProgress s' r.number → t.gate.epoch ≡ r.epoch)
      → (r.busy ≡ false → IsInProgress s' r.number → (page : ℕ) → z'.held page ≡ true → HasPassed t.pages r page → s'.save page ≡ Saved r.number)
      → SavesRound t s z r → SavesRound t s' z' r
  round_still r runs passed saves = let begun = saves.begun.0 in record {
    begun = (omega (arith, begun, rises), saves.begun.1);
    traced = saves.traced;
    runs = runs;
    pages = may_still r.number r.epoch saves.pages;
    opened = λ page is. safe page r.number (saves.opened page is);
    passed = passed;
  }
