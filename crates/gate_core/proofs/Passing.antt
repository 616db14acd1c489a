-- What a passage's step does to the words, by what it then tells.
use Rattle.std.proofs.Common.{◌≡◌, ◌≢◌, ℕ, Bool, true, false, cond, ◌&&◌, nat_eq, ◌⊎◌, inl, inr, List, slice_index, Option, Some, None, arith, refl, sym, ap, ◌∙◌}
use Rattle.std.specs.Prelude.{not}
use Rattle.std.proofs.lemmas.Bool.Decides.{nat_tests}
use Rattle.std.proofs.lemmas.Bool.{not-true}
use Rattle.atom_store.specs.declared.reply.Reply.{Reply}
use Rattle.atom_store.specs.declared.reply.Reply.TheVariants as reply
use Rattle.atom_store.specs.declared.step.Step.TheVariants.{Exchange}
use Rattle.atom_store.specs.declared.turn.Turn.TheVariants.{Finished}
use Rattle.atom_store.specs.Acts.{MakesStep}
use Rattle.atom_store.specs.Step.{reply_of}
use Rattle.atom_store.proofs.Acting.{no_step}
use Rattle.atom_store.proofs.StepWords.{slice_index-words_after, slice_index-won, won_exactly}
use Rattle.space_map.specs.declared.gate_word.GateWord.{GateWord}
use Rattle.space_map.specs.GateWord.{GateFits, decode_gate, encode_gate}
use Rattle.space_map.specs.Table as row
use Rattle.space_map.specs.Table.{place_of}
use Rattle.space_map.specs.TableWords.{row_word, HoldsTable}
use Rattle.space_map.proofs.GateWords.{decode_gate-encode_gate}
use Rattle.space_map.proofs.Rows.{place_of-lt}
use Rattle.gate_core.specs.declared.passage.Passage.{Passage}
use Rattle.gate_core.specs.declared.passage.Passage.TheVariants.{Look, Attach, Park, Request, Resume, Forwarded, Leave, Clear}
use Rattle.gate_core.specs.declared.passed.Passed.TheVariants.{Went, NotYet}
use Rattle.gate_core.specs.declared.gate_stage.GateStage.{GateStage}
use Rattle.gate_core.specs.declared.gate_stage.GateStage.TheVariants.{Loads, Exchanges, Ended}
use Rattle.gate_core.specs.Gate.{Passing, gate_machine, told_at, next_stage, looked, allowed, allows, gate_after, is_clear}
use Rattle.gate_core.specs.Soundness.{IsSoundPassing, MayPass}
use Rattle.gate_core.specs.Theorems.{IsAllowed, IsForbidden, PassesGate, ForbidsPassage}

abbrev at : Passing → GateStage → Passing
at p stage = record p { stage = stage }

-- ---- the tests

clear_says : (g : GateWord) → is_clear g ≡ true → (g.request ≡ false) × (g.behind ≡ 0)
clear_says g is = by_request g.request refl is
  where
    by_request : (request : Bool) → g.request ≡ request → not request && nat_eq g.behind 0 ≡ true → (g.request ≡ false) × (g.behind ≡ 0)
    by_request true same e = cc
    by_request false same e = (same, grind (arith, nat_tests))

not_clear_says : (g : GateWord) → is_clear g ≡ false → (g.request ≡ true) ⊎ (g.behind ≢ 0)
not_clear_says g is = by_request g.request refl is
  where
    by_request : (request : Bool) → g.request ≡ request → not request && nat_eq g.behind 0 ≡ false → (g.request ≡ true) ⊎ (g.behind ≢ 0)
    by_request true same e = inl same
    by_request false same e = inr (let other : g.behind ≢ 0 = grind (arith, nat_tests) in other)

not_false : (b : Bool) → not b ≡ false → b ≡ true
not_false true is = refl
not_false false is = cc

both : (a b : Bool) → a && b ≡ true → (a ≡ true) × (b ≡ true)
both true b is = (refl, is)
both false b is = cc

-- a test that fails for one of two reasons
fails : (a b : Bool) → a && b ≡ false → (a ≡ false) ⊎ (b ≡ false)
fails true b is = inr is
fails false b is = inl refl

pub is_allowed : (passage : Passage) (g : GateWord) → allows passage g ≡ true → IsAllowed passage g
is_allowed Look g is = not-true g.request is
is_allowed Attach g is = clear_says g is
is_allowed Park g is = is
is_allowed Request g is = not-true g.request is
is_allowed (Resume epoch) g is =
    let parts = both (is_clear g) (nat_eq g.epoch epoch) is in
    let clear = clear_says g parts.0 in
    let same = parts.1 in
    (clear.0, clear.1, same_epoch g.epoch epoch same)
  where
    same_epoch : (m n : ℕ) → nat_eq m n ≡ true → m ≡ n
    same_epoch m n e = grind (arith, nat_tests)
is_allowed _ g is = tt

pub is_forbidden : (passage : Passage) (g : GateWord) → allows passage g ≡ false → IsForbidden passage g
is_forbidden Look g is = not_false g.request is
is_forbidden Attach g is = not_clear_says g is
is_forbidden Park g is = is
is_forbidden Request g is = not_false g.request is
is_forbidden (Resume epoch) g is =
    elim (fails (is_clear g) (nat_eq g.epoch epoch) is) [
      | inl clear ↦ elim (not_clear_says g clear) [ inl requested ↦ inl requested | inr behind ↦ inr (inl behind) ]
      | inr other ↦ inr (inr (other_epoch g.epoch epoch other))
    ]
  where
    other_epoch : (m n : ℕ) → nat_eq m n ≡ false → m ≢ n
    other_epoch m n e = grind (arith, nat_tests)
is_forbidden _ g is = cc

-- the gate after an allowed passage fits its word
pub fits_after : (passage : Passage) (g : GateWord) → MayPass passage g → GateFits (gate_after passage g)
fits_after Look g may = may.fits
fits_after Attach g may = record { epoch_fits = may.fits.epoch_fits; live_fits = may.counts.0; running_fits = may.counts.1; behind_fits = may.fits.behind_fits; left_fits = may.fits.left_fits }
fits_after Park g may = record { epoch_fits = may.fits.epoch_fits; live_fits = may.fits.live_fits; running_fits = (let f = may.fits.running_fits in omega arith); behind_fits = may.fits.behind_fits; left_fits = may.fits.left_fits }
fits_after Request g may = record { epoch_fits = may.fits.epoch_fits; live_fits = may.fits.live_fits; running_fits = (let f = may.fits.running_fits in omega arith); behind_fits = may.fits.behind_fits; left_fits = may.fits.left_fits }
fits_after (Resume epoch) g may = record { epoch_fits = may.fits.epoch_fits; live_fits = may.fits.live_fits; running_fits = may.counts; behind_fits = may.fits.behind_fits; left_fits = may.fits.left_fits }
fits_after Forwarded g may = record { epoch_fits = may.fits.epoch_fits; live_fits = may.fits.live_fits; running_fits = may.fits.running_fits; behind_fits = (let f = may.fits.behind_fits in omega arith); left_fits = may.fits.left_fits }
fits_after Leave g may = record { epoch_fits = may.fits.epoch_fits; live_fits = (let f = may.fits.live_fits in omega arith); running_fits = (let f = may.fits.running_fits in omega arith); behind_fits = may.fits.behind_fits; left_fits = may.counts.2 }
fits_after Clear g may = record { epoch_fits = may.fits.epoch_fits; live_fits = may.fits.live_fits; running_fits = may.fits.running_fits; behind_fits = may.fits.behind_fits; left_fits = may.fits.left_fits }

-- ---- the load

-- a passage that is made at once is a look, from a gate that allows it
record Looks (passage : Passage) (loaded word : ℕ) (o : Option GateWord) : Type 0 where
  gate : GateWord
  is : o ≡ Some gate
  test : allows passage gate ≡ true
  alone : passage ≡ Look
  same : word ≡ loaded

goes_at_once : (passage : Passage) (loaded word : ℕ) (g : GateWord) → told_at (allowed passage loaded g) ≡ Finished (Went word) → (passage ≡ Look) × (word ≡ loaded)
goes_at_once Look loaded word g tells = (refl, cc)
goes_at_once _ loaded word g tells = cc

looks : (passage : Passage) (loaded word : ℕ) (o : Option GateWord) → told_at (looked passage loaded o) ≡ Finished (Went word) → Looks passage loaded word o
looks passage loaded word (Some g) tells = by_test (allows passage g) refl tells
  where
    by_test : (b : Bool) → allows passage g ≡ b → told_at (cond b (allowed passage loaded g) (Ended (NotYet loaded))) ≡ Finished (Went word) → Looks passage loaded word (Some g)
    by_test true test e = let once = goes_at_once passage loaded word g e in record { gate = g; is = refl; test = test; alone = once.0; same = once.1 }
    by_test false test e = cc
looks passage loaded word None tells = cc

-- the gate forbids the passage
record Forbids (passage : Passage) (loaded word : ℕ) (o : Option GateWord) : Type 0 where
  gate : GateWord
  is : o ≡ Some gate
  test : allows passage gate ≡ false
  same : word ≡ loaded

never_hindered : (passage : Passage) (loaded word : ℕ) (g : GateWord) → told_at (allowed passage loaded g) ≡ Finished (NotYet word) → ⊥
never_hindered Look loaded word g tells = cc
never_hindered _ loaded word g tells = cc

hinders : (passage : Passage) (loaded word : ℕ) (o : Option GateWord) → told_at (looked passage loaded o) ≡ Finished (NotYet word) → Forbids passage loaded word o
hinders passage loaded word (Some g) tells = by_test (allows passage g) refl tells
  where
    by_test : (b : Bool) → allows passage g ≡ b → told_at (cond b (allowed passage loaded g) (Ended (NotYet loaded))) ≡ Finished (NotYet word) → Forbids passage loaded word (Some g)
    by_test true test e = absurd (never_hindered passage loaded word g e)
    by_test false test e = record { gate = g; is = refl; test = test; same = cc }
hinders passage loaded word None tells = cc

-- ---- the exchange

pub exchange_goes : (passage : Passage) (g : GateWord) (r : Reply) (word : ℕ) → told_at (next_stage passage (Exchanges g) r) ≡ Finished (Went word)
    → (r ≡ reply.Won) × (word ≡ encode_gate (gate_after passage g))
exchange_goes passage g reply.Won word tells = (refl, cc)
exchange_goes passage g _ word tells = cc

exchange_never_hindered : (passage : Passage) (g : GateWord) (r : Reply) (word : ℕ) → told_at (next_stage passage (Exchanges g) r) ≡ Finished (NotYet word) → ⊥
exchange_never_hindered passage g reply.Won word tells = cc
exchange_never_hindered passage g _ word tells = cc

-- ---- all

pub passes : (p : Passing) (stage : GateStage) (before after : List ℕ) (word : ℕ) → IsSoundPassing (at p stage) → HoldsTable p.layout.pages before
    → MakesStep gate_machine (at p stage) before after (Finished (Went word)) → PassesGate p before after word
passes p Loads before after word sound whole acts =
    let loaded : ℕ = row_word p.layout.pages row.Gate before in
    let found = looks p.passage loaded word (decode_gate loaded) acts.tells in
    record {
      gate = found.gate;
      was = found.is;
      allowed = is_allowed p.passage found.gate found.test;
      is = ap (λ ws. decode_gate (row_word p.layout.pages row.Gate ws)) acts.makes ∙ found.is ∙ ap Some (sym (ap (λ z. gate_after z found.gate) found.alone));
      tells = found.same ∙ sym (ap (row_word p.layout.pages row.Gate) acts.makes);
      others = λ place apart. ap (λ ws. slice_index ws place) acts.makes;
    }
passes p (Exchanges g) before after word sound whole acts =
    let place : ℕ = place_of p.layout.pages row.Gate in
    let new : ℕ = encode_gate (gate_after p.passage g) in
    let may = sound.stage in
    let goes = exchange_goes p.passage g (reply_of (Exchange place (encode_gate g) new) before) word acts.tells in
    let was = (won_exactly place (encode_gate g) new before).0 goes.0 in
    let inside = place_of-lt p.layout.pages row.Gate tt in
    let now = slice_index-won place (encode_gate g) new before (omega (arith, inside, whole)) goes.0 in
    record {
      gate = g;
      was = ap decode_gate was ∙ decode_gate-encode_gate g may.fits;
      allowed = is_allowed p.passage g may.allowed;
      is = ap (λ ws. decode_gate (slice_index ws place)) acts.makes ∙ ap decode_gate now ∙ decode_gate-encode_gate (gate_after p.passage g) (fits_after p.passage g may);
      tells = goes.1 ∙ sym (ap (λ ws. slice_index ws place) acts.makes ∙ now);
      others = λ other apart. ap (λ ws. slice_index ws other) acts.makes ∙ slice_index-words_after (Exchange place (encode_gate g) new) before other apart;
    }
passes p (Ended result) before after word sound whole acts = absurd (no_step acts.has_step)

pub hindered : (p : Passing) (stage : GateStage) (before after : List ℕ) (word : ℕ)
    → MakesStep gate_machine (at p stage) before after (Finished (NotYet word)) → ForbidsPassage p before after word
hindered p Loads before after word acts =
    let loaded : ℕ = row_word p.layout.pages row.Gate before in
    let found = hinders p.passage loaded word (decode_gate loaded) acts.tells in
    record {
      gate = found.gate;
      says = ap decode_gate found.same ∙ found.is;
      forbidden = is_forbidden p.passage found.gate found.test;
      tells = found.same;
      stays = acts.makes;
    }
hindered p (Exchanges g) before after word acts = absurd (exchange_never_hindered p.passage g _ word acts.tells)
hindered p (Ended result) before after word acts = absurd (no_step acts.has_step)
