-- What a law says of a step is so of each configuration that stands.
use Rattle.std.proofs.Common.{◌≡◌, ℕ, ◌+◌, ◌*◌, Option, refl, ap, arith, subst, Some, ◌≤◌, ◌∙◌}
use Rattle.space_map.specs.declared.gate_word.GateWord.{GateWord}
use Rattle.space_map.specs.Spaces.{to_space, space_start}
use Rattle.space_map.specs.GateWord.{GateFits}
use Rattle.space_map.specs.Table.{Size}
use Rattle.heap_state.specs.Configuration.{Configuration, table, era, memory, team}
use Rattle.heap_state.specs.Memory.Entries.{Entry, GateIs, SizeIs, SnapIs, LastSavedIs, SaveIs, ImageIs}
use Rattle.heap_state.specs.Memory.Era.{Memory, IsLaidOut, era_of, era_at, memory_of, from_space}
use Rattle.heap_state.specs.Memory.Table.{Table, word_in}
use Rattle.heap_state.proofs.Table.LaidOut.{laid_out, table_in_use}
use Rattle.heap_state.proofs.Table.Seen.{follows}
use Rattle.heap_laws.specs.Lifting.{table_after, RowFits, StepsAreLifted, PlainStepsAreLifted, words_after_row, SizesAreLifted, Flipped, FlipsAreLifted}
use Rattle.heap_laws.specs.Steps.{WritesRow, InGate, InArea, InOldArea, InWeak, InPage, InCross, InWord, InAnnounce, Beside, IsBeside}
use Rattle.heap_laws.proofs.Lifting.Configurations.{board_at, seen, stand, ready}
use Rattle.heap_laws.specs.Flipping.Flip.{FlipKeeps, flipped_gate, after_flip, next_ghost, next_era, next_memory}
use Rattle.heap_laws.specs.Flipping.Sizes.{sized_era, after_size}
use Rattle.heap_laws.proofs.Flipping.Flipped.{flip_keeps, table_flips}
use Rattle.heap_laws.proofs.Flipping.StoredSizes.{sizes_are_stored}
use Rattle.heap_laws.proofs.Gate.GateCounts.{fits}

-- ---- the row

-- the table has the row, its era stays, and the epoch sees this memory
pub record RowSeen (c : Configuration) (e : Option Entry) (later : Memory) : Type 0 where
  pub fits : RowFits c.pages e
  pub era_stays : era_of (table_after (table c) e) ≡ era c
  pub memory_is : memory_of (table_after (table c) e) ≡ later

-- the table as another gate of the same epoch has it
abbrev memory_at : Table → GateWord → ℕ → Memory
memory_at t gate epoch = record {
  gate = gate;
  traced = t.traced;
  front = space_start t.pages (to_space epoch) + (t.area (to_space epoch)).front;
  low = space_start t.pages (to_space epoch) + (t.area (to_space epoch)).low;
  owed = (t.area (to_space epoch)).owed;
  old_front = space_start t.pages (from_space epoch) + (t.area (from_space epoch)).front;
  old_low = space_start t.pages (from_space epoch) + (t.area (from_space epoch)).low;
  old_owed = (t.area (from_space epoch)).owed;
  weak = t.weak;
  weak_turn = t.weak_turn;
  page = t.page;
  cross = t.cross;
  heap = t.heap;
  announced = t.announced;
}

-- of checkpoints it sees nothing
seen_beside : (c : Configuration) (e : Entry) → IsBeside (era c) e → RowSeen c (Some e) (memory c)
seen_beside c (SnapIs number) beside = record { fits = tt; era_stays = refl; memory_is = refl }
seen_beside c (LastSavedIs number) beside = record { fits = tt; era_stays = refl; memory_is = refl }
seen_beside c (SaveIs page word) beside = record { fits = (let b = board_at c in omega (arith, b, beside.0), beside.1); era_stays = refl; memory_is = refl }
seen_beside c (ImageIs addr word) beside = record { fits = let b = board_at c in omega (arith, b, beside); era_stays = refl; memory_is = refl }
seen_beside c _ beside = absurd beside

pub row_seen : (c : Configuration) (e : Option Entry) (later : Memory) → WritesRow (era c) (memory c) e later → RowSeen c e later
row_seen c _ _ (InGate gate fits same) = record {
  fits = fits;
  era_stays = ap (era_at (table c).pages (table c).in_use) same;
  memory_is = ap (memory_at (table c) gate) same;
}
row_seen c _ _ (InArea area fits) = record { fits = (omega arith, fits); era_stays = refl; memory_is = (follows.area (table c) area).now }
row_seen c _ _ (InOldArea area fits) = record { fits = (omega arith, fits); era_stays = refl; memory_is = (follows.area (table c) area).old }
row_seen c _ _ (InWeak word small) = record { fits = small; era_stays = refl; memory_is = refl }
row_seen c _ _ (InPage page word below fits) = record { fits = (let b = board_at c in omega (arith, b, below), fits); era_stays = refl; memory_is = refl }
row_seen c _ _ (InCross page place below) = record { fits = let b = board_at c in omega (arith, b, below); era_stays = refl; memory_is = refl }
row_seen c _ _ (InWord addr word below) = record { fits = let b = board_at c in omega (arith, b, below); era_stays = refl; memory_is = refl }
row_seen c _ _ (InAnnounce worker place below) = record { fits = omega (arith, below); era_stays = refl; memory_is = refl }
row_seen c _ _ (Beside e beside) = seen_beside c e beside
row_seen c _ _ _ = record { fits = tt; era_stays = refl; memory_is = refl }

-- ---- the step

pub plain_steps_are_lifted : PlainStepsAreLifted
plain_steps_are_lifted c p q s e k w h l step =
    let row = row_seen c e step.later step.writes in
    let y = seen c e k w s.formed l row.fits in
    record {
      fits = row.fits;
      standing = stand c p q e k w h s l row.fits (rw (row.era_stays, row.memory_is) step.makes.invariant) (rw (row.era_stays, row.memory_is) step.makes.shown);
      cycle = λ o cy. rw (y.table_said, y.team_said, row.era_stays, row.memory_is) (step.makes.cycle o cy);
      ages = λ page. rw (y.table_said, ap (λ (m : Memory). m.page page) row.memory_is) (step.makes.ages page);
      epoch = rw (y.table_said, row.era_stays) refl;
    }

pub steps_are_lifted : StepsAreLifted
steps_are_lifted c p s e k w h l step = plain_steps_are_lifted c p p s e k w h l (record {
  later = step.later;
  writes = step.writes;
  makes = record { invariant = step.keeps.invariant; shown = step.keeps.shown p s.shown; cycle = step.keeps.cycle; ages = step.keeps.ages };
})

-- ---- the size

pub sizes_are_lifted : SizesAreLifted
sizes_are_lifted c p s k r q l has loose grown most =
    let to : ℕ = from_space (era c).epoch in
    let me = s.invariant.workers k l in
    let span : (era c).span ≤ 64 * q = (me.reset r has).grown q grown in
    let least = (s.formed.sizes (to_space (era c).epoch) (omega arith)).0 in
    let some : 4 ≤ q = (let e : (era c).span ≡ 64 * word_in c.pages c.words (Size (to_space (era c).epoch)) = rw (table_in_use c.pages c.words) refl in omega (arith, span, least, e)) in
    let fits : RowFits c.pages (Some (SizeIs to q)) = (omega arith, some, most) in
    let t = follows.size (table c) q in
    let y = seen c (Some (SizeIs to q)) k (after_size ((team c).worker k) r) s.formed l fits in
    let out : IsLaidOut (sized_era (era c) q) =
    subst IsLaidOut (ap era_of y.table_said ∙ t.era) (laid_out c.pages (words_after_row c.pages c.words (Some (SizeIs to q))) y.formed) in
    let law = sizes_are_stored (era c) (memory c) (team c) s.ghost k r q (ready c p s k l) has loose grown out in
    record {
      fits = fits;
      standing = stand c p p (Some (SizeIs to q)) k (after_size ((team c).worker k) r) s.ghost s l fits (rw (t.era, t.memory) law.invariant) (rw (t.era, t.memory) (law.shown p s.shown));
      cycle = λ o cy. rw (y.table_said, y.team_said, t.era, t.memory) (law.cycle o cy);
      ages = λ page. rw y.table_said (omega arith);
      epoch = rw y.table_said refl;
    }

-- ---- the flip

pub flips_are_lifted : FlipsAreLifted
flips_are_lifted c p s k r l flips =
    let law : FlipKeeps (era c) (memory c) (team c) s.ghost k r = flip_keeps (era c) (memory c) (team c) s.ghost k r (ready c p s k l) flips in
    subst (λ (gate : GateWord). Flipped c (flipped_gate gate) k (after_flip ((team c).worker k)) p (next_ghost (era c) s.ghost)) law.won (flips_now law)
  where
    flips_now : FlipKeeps (era c) (memory c) (team c) s.ghost k r → Flipped c (flipped_gate (table c).gate) k (after_flip ((team c).worker k)) p (next_ghost (era c) s.ghost)
    flips_now law =
        let t = table_flips (table c) in
        let gate : GateFits (flipped_gate (table c).gate) = fits (next_era (era c)) (next_memory (memory c)) _ (next_ghost (era c) s.ghost) law.invariant in
        let y = seen c (Some (GateIs (flipped_gate (table c).gate))) k (after_flip ((team c).worker k)) s.formed l gate in
        record {
          fits = gate;
          standing = stand c p p (Some (GateIs (flipped_gate (table c).gate))) k (after_flip ((team c).worker k)) (next_ghost (era c) s.ghost) s l gate (rw (t.era, t.memory) law.invariant) (rw (t.era, t.memory) (law.shown p s.shown));
          begins = rw (y.table_said, y.team_said, t.era, t.memory) (law.begins p s.shown);
          pages = rw y.table_said refl;
          epoch = rw y.table_said refl;
        }
