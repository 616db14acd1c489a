-- What a claim's step does to the words, by what it then tells.
use Rattle.std.proofs.Common.{◌≡◌, ◌≢◌, ℕ, ◌+◌, ◌*◌, ◌<◌, ◌≤◌, Bool, true, false, cond, nat_eq, List, slice_index, Option, Some, None, arith, refl, ap, ◌∙◌}
use Rattle.std.proofs.lemmas.Bool.Decides.{nat_tests}
use Rattle.atom_store.specs.declared.reply.Reply.{Reply}
use Rattle.atom_store.specs.declared.reply.Reply.TheVariants as reply
use Rattle.atom_store.specs.declared.step.Step.TheVariants.{Exchange}
use Rattle.atom_store.specs.declared.turn.Turn.TheVariants.{Finished}
use Rattle.atom_store.specs.Acts.{MakesStep}
use Rattle.atom_store.specs.Step.{reply_of}
use Rattle.atom_store.proofs.Acting.{no_step}
use Rattle.atom_store.proofs.StepWords.{slice_index-words_after, slice_index-won, won_exactly, lost_tells_another, words_after-lost}
use Rattle.space_map.specs.declared.spaces.TheConstants.{LAST_WORKER}
use Rattle.space_map.specs.declared.gate_word.GateWord.{GateWord}
use Rattle.space_map.specs.declared.page_word.PageWord.TheVariants.{Scanning}
use Rattle.space_map.specs.GateWord.{decode_gate}
use Rattle.space_map.specs.PageWord.{decode_page, encode_page}
use Rattle.space_map.specs.Table.{Gate, Page, Announce, place_of}
use Rattle.space_map.specs.TableWords.{row_word, HoldsTable}
use Rattle.space_map.proofs.PageWords.{decode_page-encode_page}
use Rattle.space_map.proofs.Rows.{place_of-lt}
use Rattle.page_slots.specs.declared.claimed.Claimed.TheVariants.{Won, Taken}
use Rattle.page_slots.specs.declared.claim_stage.ClaimStage.{ClaimStage}
use Rattle.page_slots.specs.declared.claim_stage.ClaimStage.TheVariants.{LooksAtPlace, LooksAtGate, Exchanges, Ended}
use Rattle.page_slots.specs.Claim.{Claiming, claim_machine, told_at, next_stage, looked_at_gate, names_below_end}
use Rattle.page_slots.specs.Soundness.{IsSoundClaim}
use Rattle.page_slots.specs.Theorems.{WinsPage, ShowsTaken, Announced, OtherEpoch, OtherWord}

abbrev at : Claiming → ClaimStage → Claiming
at c stage = record c { stage = stage }

-- ---- the exchange

exchange_wins : (c : Claiming) (r : Reply) → told_at (next_stage c Exchanges r) ≡ Finished Won → r ≡ reply.Won
exchange_wins c reply.Won tells = refl
exchange_wins c _ tells = cc

exchange_loses : (c : Claiming) (r : Reply) (word : ℕ) → told_at (next_stage c Exchanges r) ≡ Finished (Taken word) → r ≡ reply.Lost word
exchange_loses c (reply.Lost lost) word tells = let same : lost ≡ word = cc in ap reply.Lost same
exchange_loses c _ word tells = cc

-- ---- the looks

place_never_won : (page k announced : ℕ) (below last : Bool)
    → told_at (cond below (Ended (Taken announced)) (cond last LooksAtGate (LooksAtPlace (k + 1)))) ≡ Finished Won → ⊥
place_never_won page k announced true last tells = cc
place_never_won page k announced false true tells = cc
place_never_won page k announced false false tells = cc

gate_never_won : (epoch word : ℕ) (o : Option GateWord) → told_at (looked_at_gate epoch word o) ≡ Finished Won → ⊥
gate_never_won epoch word (Some gate) tells = by_test (nat_eq gate.epoch epoch) tells
  where
    by_test : (same : Bool) → told_at (cond same Exchanges (Ended (Taken word))) ≡ Finished Won → ⊥
    by_test true e = cc
    by_test false e = cc
gate_never_won epoch word None tells = cc

place_shows : (k announced word : ℕ) (below last : Bool)
    → told_at (cond below (Ended (Taken announced)) (cond last LooksAtGate (LooksAtPlace (k + 1)))) ≡ Finished (Taken word)
    → (below ≡ true) × (word ≡ announced)
place_shows k announced word true last tells = (refl, cc)
place_shows k announced word false true tells = cc
place_shows k announced word false false tells = cc

-- the gate's word is told, and says another epoch
record GateShows (epoch loaded word : ℕ) (o : Option GateWord) : Type 0 where
  gate : GateWord
  is : o ≡ Some gate
  other : gate.epoch ≢ epoch
  same : word ≡ loaded

gate_shows : (epoch loaded word : ℕ) (o : Option GateWord) → told_at (looked_at_gate epoch loaded o) ≡ Finished (Taken word) → GateShows epoch loaded word o
gate_shows epoch loaded word (Some gate) tells = by_test (nat_eq gate.epoch epoch) refl tells
  where
    by_test : (same : Bool) → nat_eq gate.epoch epoch ≡ same → told_at (cond same Exchanges (Ended (Taken loaded))) ≡ Finished (Taken word)
        → GateShows epoch loaded word (Some gate)
    by_test true test e = cc
    by_test false test e = record { gate = gate; is = refl; other = grind (arith, nat_tests); same = cc }
gate_shows epoch loaded word None tells = cc

-- ---- all

pub wins : (c : Claiming) (stage : ClaimStage) (before after : List ℕ) → IsSoundClaim c → HoldsTable c.layout.pages before
    → MakesStep claim_machine (at c stage) before after (Finished Won) → WinsPage c before after
wins c (LooksAtPlace k) before after sound whole acts = absurd (place_never_won c.page k (row_word c.layout.pages (Announce k) before) _ _ acts.tells)
wins c LooksAtGate before after sound whole acts =
    absurd (gate_never_won c.epoch (row_word c.layout.pages Gate before) (decode_gate (row_word c.layout.pages Gate before)) acts.tells)
wins c Exchanges before after sound whole acts =
    let place : ℕ = place_of c.layout.pages (Page c.page) in
    let new : ℕ = encode_page (Scanning c.epoch c.worker) in
    let won = exchange_wins c (reply_of (Exchange place (encode_page c.found) new) before) acts.tells in
    let was = (won_exactly place (encode_page c.found) new before).0 won in
    let inside = place_of-lt c.layout.pages (Page c.page) sound.page in
    record {
      found = c.found;
      was = ap decode_page was ∙ decode_page-encode_page c.found sound.found;
      earlier = sound.earlier;
      is = ap (λ ws. decode_page (slice_index ws place)) acts.makes
          ∙ ap decode_page (slice_index-won place (encode_page c.found) new before (omega (arith, inside, whole)) won)
          ∙ decode_page-encode_page (Scanning c.epoch c.worker) (sound.epoch, (let few = sound.worker in omega arith));
      others = λ other apart. ap (λ ws. slice_index ws other) acts.makes ∙ slice_index-words_after (Exchange place (encode_page c.found) new) before other apart;
    }
wins c (Ended result) before after sound whole acts = absurd (no_step acts.has_step)

pub takes : (c : Claiming) (stage : ClaimStage) (before after : List ℕ) (word : ℕ) → IsSoundClaim (at c stage)
    → MakesStep claim_machine (at c stage) before after (Finished (Taken word)) → ShowsTaken c before word × (after ≡ before)
takes c (LooksAtPlace k) before after word sound acts =
    let announced : ℕ = row_word c.layout.pages (Announce k) before in
    let shows = place_shows k announced word (names_below_end c.page announced) (nat_eq k LAST_WORKER) acts.tells in
    let below = names_below c.page announced shows.0 in
    (Announced k sound.stage.0 shows.1 (rw shows.1 below.0) (rw shows.1 below.1), acts.makes)
  where
    names_below : (page announced : ℕ) → names_below_end page announced ≡ true → (0 < announced) × (announced ≤ 64 * (page + 1))
    names_below page announced is = grind (arith, nat_tests)
takes c LooksAtGate before after word sound acts =
    let loaded : ℕ = row_word c.layout.pages Gate before in
    let shows = gate_shows c.epoch loaded word (decode_gate loaded) acts.tells in
    (OtherEpoch shows.gate shows.same (ap decode_gate shows.same ∙ shows.is) shows.other, acts.makes)
takes c Exchanges before after word sound acts =
    let place : ℕ = place_of c.layout.pages (Page c.page) in
    let new : ℕ = encode_page (Scanning c.epoch c.worker) in
    let lost = exchange_loses c (reply_of (Exchange place (encode_page c.found) new) before) word acts.tells in
    let another = lost_tells_another place (encode_page c.found) new word before lost in
    (OtherWord another.0 another.1, acts.makes ∙ words_after-lost place (encode_page c.found) new word before lost)
takes c (Ended result) before after word sound acts = absurd (no_step acts.has_step)
