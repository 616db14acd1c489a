-- What the beginning of a checkpoint keeps of itself, what is left of it, and what its step does to the words, by what it then tells.
use Rattle.std.proofs.Common.{◌≡◌, ◌≢◌, ℕ, ◌+◌, ◌<◌, Bool, true, false, cond, nat_eq, List, slice_index, Option, Some, None, arith, refl, sym, ap, subst, ◌∙◌}
use Rattle.std.specs.Prelude.{is_some}
use Rattle.std.proofs.lemmas.Bool.Decides.{nat_tests}
use Rattle.atom_store.specs.declared.reply.Reply.{Reply}
use Rattle.atom_store.specs.declared.reply.Reply.TheVariants as reply
use Rattle.atom_store.specs.declared.step.Step.TheVariants.{Exchange}
use Rattle.atom_store.specs.declared.turn.Turn.{Turn}
use Rattle.atom_store.specs.declared.turn.Turn.TheVariants.{Finished}
use Rattle.atom_store.specs.Acts.{MakesStep}
use Rattle.atom_store.specs.Runs.{after_step}
use Rattle.atom_store.specs.Step.{reply_of, words_after}
use Rattle.atom_store.proofs.Acting.{no_step}
use Rattle.atom_store.proofs.StepWords.{slice_index-words_after, slice_index-won, won_exactly}
use Rattle.space_map.specs.declared.gate_word.GateWord.{GateWord}
use Rattle.space_map.specs.GateWord.{decode_gate}
use Rattle.space_map.specs.Table as row
use Rattle.space_map.specs.Table.{place_of}
use Rattle.space_map.specs.TableWords.{row_word, HoldsTable}
use Rattle.space_map.proofs.Rows.{place_of-apart, place_of-lt}
use Rattle.gate_core.specs.declared.snap.snapped.Snapped.{Snapped}
use Rattle.gate_core.specs.declared.snap.snapped.Snapped.TheVariants.{Begun, NotYet}
use Rattle.gate_core.specs.declared.snap.snap_stage.SnapStage.{SnapStage}
use Rattle.gate_core.specs.declared.snap.snap_stage.SnapStage.TheVariants.{LoadsGate, ExchangesSnap, Ended}
use Rattle.gate_core.specs.Checkpoints.{GateStandsAt, BeginsCheckpoint, ForbidsCheckpoint}
use Rattle.gate_core.specs.Snap.{Snapping, snap_machine, wanted, told_at, next_stage, looked, left_at, advances_at}
use Rattle.gate_core.specs.Soundness.{IsSoundSnapping}

abbrev at : Snapping → SnapStage → Snapping
at s stage = record s { stage = stage }

-- the gate's word
abbrev gate_of : Snapping → List ℕ → ℕ
gate_of s words = row_word s.layout.pages row.Gate words

abbrev snap_place : Snapping → ℕ
snap_place s = place_of s.layout.pages row.SnapNumber

gate_apart : (n : ℕ) → place_of n row.Gate ≢ place_of n row.SnapNumber
gate_apart n = place_of-apart n row.Gate row.SnapNumber tt tt (λ same. cc)

-- the exchange leaves the words of other rows
others_stay : (s : Snapping) (before after : List ℕ) → after ≡ words_after (Exchange (snap_place s) s.number (s.number + 1)) before
    → (place : ℕ) → place ≢ snap_place s → slice_index after place ≡ slice_index before place
others_stay s before after makes place apart =
    ap (λ (ws : List ℕ). slice_index ws place) makes ∙ slice_index-words_after (Exchange (snap_place s) s.number (s.number + 1)) before place apart

gate_stays : (s : Snapping) (before after : List ℕ) (gate : GateWord) → after ≡ words_after (Exchange (snap_place s) s.number (s.number + 1)) before
    → decode_gate (gate_of s before) ≡ Some gate → decode_gate (gate_of s after) ≡ Some gate
gate_stays s before after gate makes stood =
    ap decode_gate (others_stay s before after makes (place_of s.layout.pages row.Gate) (gate_apart s.layout.pages)) ∙ stood

-- ---- what is left

by_gate : (word : ℕ) (o : Option GateWord) → is_some o ≡ true → left_at (looked word o) < 2
by_gate word (Some g) is = by_test (nat_eq g.running 0)
  where
    by_test : (b : Bool) → left_at (cond b (ExchangesSnap g) (Ended (NotYet word))) < 2
    by_test true = omega arith
    by_test false = omega arith
by_gate word None is = absurd (cc)

pub snaps_lower : (stage : SnapStage) (answer : Reply) → advances_at stage answer ≡ true → left_at (next_stage stage answer) < left_at stage
snaps_lower LoadsGate (reply.Value word) on = by_gate word (decode_gate word) on
snaps_lower (ExchangesSnap g) reply.Won on = omega arith
snaps_lower _ _ on = absurd (cc)

-- ---- what is read

gate_stands : (s : Snapping) (words : List ℕ) (loaded : ℕ) (o : Option GateWord) → decode_gate (gate_of s words) ≡ o → GateStandsAt s (looked loaded o) words
gate_stands s words loaded (Some g) is = by_test (nat_eq g.running 0)
  where
    by_test : (b : Bool) → GateStandsAt s (cond b (ExchangesSnap g) (Ended (NotYet loaded))) words
    by_test true = is
    by_test false = tt
gate_stands s words loaded None is = tt

-- whether the exchange is won or lost
still_stands : (s : Snapping) (words : List ℕ) (g : GateWord) (b : Bool) (found : ℕ) → decode_gate (gate_of s words) ≡ Some g
    → GateStandsAt s (next_stage (ExchangesSnap g) (cond b reply.Won (reply.Lost found))) words
still_stands s words g true found is = is
still_stands s words g false found is = is

pub keeps : (s : Snapping) (stage : SnapStage) (before after : List ℕ) (turn : Turn Snapped) → GateStandsAt s stage before
    → MakesStep snap_machine (at s stage) before after turn → GateStandsAt s (after_step snap_machine (at s stage) (wanted (at s stage)) before).stage after
keeps s LoadsGate before after turn stands acts =
    subst (λ ws. GateStandsAt s (looked (gate_of s before) (decode_gate (gate_of s before))) ws) (sym acts.makes) (gate_stands s before (gate_of s before) (decode_gate (gate_of s before)) refl)
keeps s (ExchangesSnap g) before after turn stands acts = still_stands s after g _ _ (gate_stays s before after g acts.makes stands)
keeps s (Ended result) before after turn stands acts = absurd (no_step acts.has_step)

-- ---- what is told

never_begun_at_gate : (word : ℕ) (gate : GateWord) (o : Option GateWord) → told_at (looked word o) ≡ Finished (Begun gate) → ⊥
never_begun_at_gate word gate (Some g) tells = by_test (nat_eq g.running 0) tells
  where
    by_test : (b : Bool) → told_at (cond b (ExchangesSnap g) (Ended (NotYet word))) ≡ Finished (Begun gate) → ⊥
    by_test true e = cc
    by_test false e = cc
never_begun_at_gate word gate None tells = cc

exchange_begins : (g gate : GateWord) (r : Reply) → told_at (next_stage (ExchangesSnap g) r) ≡ Finished (Begun gate) → (r ≡ reply.Won) × (g ≡ gate)
exchange_begins g gate reply.Won tells = (refl, cc)
exchange_begins g gate _ tells = cc

exchange_never_hindered : (g : GateWord) (r : Reply) (word : ℕ) → told_at (next_stage (ExchangesSnap g) r) ≡ Finished (NotYet word) → ⊥
exchange_never_hindered g reply.Won word tells = cc
exchange_never_hindered g _ word tells = cc

pub begins : (s : Snapping) (stage : SnapStage) (before after : List ℕ) (gate : GateWord) → IsSoundSnapping (at s stage) → HoldsTable s.layout.pages before
    → GateStandsAt s stage before → MakesStep snap_machine (at s stage) before after (Finished (Begun gate)) → BeginsCheckpoint s before after gate
begins s LoadsGate before after gate sound whole stands acts = absurd (never_begun_at_gate (gate_of s before) gate (decode_gate (gate_of s before)) acts.tells)
begins s (ExchangesSnap g) before after gate sound whole stands acts =
    let there : ℕ = snap_place s in
    let told = exchange_begins g gate (reply_of (Exchange there s.number (s.number + 1)) before) acts.tells in
    let inside = place_of-lt s.layout.pages row.SnapNumber tt in
    let stood = stands ∙ ap Some told.1 in
    record {
      none_runs = sym (ap (λ (x : GateWord). x.running) told.1) ∙ sound.stage.none_runs;
      stood = stood;
      stands = gate_stays s before after gate acts.makes stood;
      was = (won_exactly there s.number (s.number + 1) before).0 told.0;
      is = ap (λ (ws : List ℕ). slice_index ws there) acts.makes ∙ slice_index-won there s.number (s.number + 1) before (omega (arith, inside, whole)) told.0;
      others = others_stay s before after acts.makes;
    }
begins s (Ended result) before after gate sound whole stands acts = absurd (no_step acts.has_step)

-- the gate forbids the beginning
record Forbids (loaded word : ℕ) (o : Option GateWord) : Type 0 where
  gate : GateWord
  is : o ≡ Some gate
  runs : gate.running ≢ 0
  same : word ≡ loaded

hinders : (loaded word : ℕ) (o : Option GateWord) → told_at (looked loaded o) ≡ Finished (NotYet word) → Forbids loaded word o
hinders loaded word (Some g) tells = by_test (nat_eq g.running 0) refl tells
  where
    by_test : (b : Bool) → nat_eq g.running 0 ≡ b → told_at (cond b (ExchangesSnap g) (Ended (NotYet loaded))) ≡ Finished (NotYet word) → Forbids loaded word (Some g)
    by_test true test e = cc
    by_test false test e = record { gate = g; is = refl; runs = grind (arith, nat_tests); same = cc }
hinders loaded word None tells = cc

pub hindered : (s : Snapping) (stage : SnapStage) (before after : List ℕ) (word : ℕ)
    → MakesStep snap_machine (at s stage) before after (Finished (NotYet word)) → ForbidsCheckpoint s before after word
hindered s LoadsGate before after word acts =
    let found = hinders (gate_of s before) word (decode_gate (gate_of s before)) acts.tells in
    record {
      gate = found.gate;
      says = ap decode_gate found.same ∙ found.is;
      forbidden = found.runs;
      tells = found.same;
      stays = acts.makes;
    }
hindered s (ExchangesSnap g) before after word acts = absurd (exchange_never_hindered g _ word acts.tells)
hindered s (Ended result) before after word acts = absurd (no_step acts.has_step)
