-- What a round's step does to the words, by what it then tells.
use Rattle.std.proofs.Common.{◌≡◌, ◌≢◌, ℕ, ◌+◌, ◌<◌, Bool, true, false, cond, nat_eq, ◌⊎◌, inl, inr, List, slice_index, Option, Some, None, arith, refl, sym, ap, subst, ◌∙◌}
use Rattle.atom_store.specs.declared.reply.Reply.{Reply}
use Rattle.atom_store.specs.declared.reply.Reply.TheVariants as reply
use Rattle.atom_store.specs.declared.step.Step.{Step}
use Rattle.atom_store.specs.declared.step.Step.TheVariants.{Exchange}
use Rattle.atom_store.specs.declared.turn.Turn.TheVariants.{Finished}
use Rattle.atom_store.specs.Acts.{MakesStep, after_next_step}
use Rattle.atom_store.specs.Runs.{after_step}
use Rattle.atom_store.specs.Step.{reply_of, words_after}
use Rattle.atom_store.proofs.Acting.{no_step}
use Rattle.atom_store.proofs.StepWords.{slice_index-words_after, slice_index-won, won_exactly, lost_tells_another, words_after-lost}
use Rattle.space_map.specs.declared.area_word.AreaWord.{AreaWord}
use Rattle.space_map.specs.declared.gate_word.GateWord.{GateWord}
use Rattle.space_map.specs.declared.page_word.PageWord.{PageWord}
use Rattle.space_map.specs.AreaWord.{decode_area}
use Rattle.space_map.specs.GateWord.{decode_gate}
use Rattle.space_map.specs.PageWord.{encode_page, decode_page}
use Rattle.space_map.specs.Spaces.{to_space, page_of, first_word}
use Rattle.space_map.specs.Table.{Row, Gate, Traced, Area, Page, IsRow, place_of}
use Rattle.space_map.specs.TableWords.{row_word, HoldsTable, ChangesOnly}
use Rattle.space_map.proofs.PageWords.{encode_page-decode_page}
use Rattle.space_map.proofs.Rows.{place_of-lt}
use Rattle.page_slots.specs.Claim.{Claiming, claim_machine}
use Rattle.page_slots.specs.Claim as claim
use Rattle.page_slots.proofs.Claiming as claims
use Rattle.cell_walk.specs.declared.walk_end.WalkEnd.TheVariants.{Another}
use Rattle.cell_walk.specs.Taken.{walk_machine}
use Rattle.cell_walk.specs.Taken as walk_replies
use Rattle.cell_walk.specs.Walking.{Walking}
use Rattle.cell_walk.specs.Walking as walk
use Rattle.cell_walk.proofs.Turns.{others_show_it}
use Rattle.fault_duty.specs.declared.caller.Caller.{Caller}
use Rattle.fault_duty.specs.declared.caller.Caller.TheVariants.{Faulted, Allocates, Scans}
use Rattle.fault_duty.specs.declared.choice.Choice.{Choice}
use Rattle.fault_duty.specs.declared.end_look.EndLook.{EndLook}
use Rattle.fault_duty.specs.declared.round_end.RoundEnd.{RoundEnd}
use Rattle.fault_duty.specs.declared.round_end.RoundEnd.TheVariants as round_end
use Rattle.fault_duty.specs.declared.round_end.RoundEnd.TheVariants.{Marked, AllLeft, NothingNow}
use Rattle.fault_duty.specs.declared.duty_stage.DutyStage.{DutyStage}
use Rattle.fault_duty.specs.declared.duty_stage.DutyStage.TheVariants.{LoadsGate, LoadsTraced, LoadsWanted, LoadsFrontFor, LoadsFront, LoadsPage, Claims, EndGate, EndArea, EndPage, EndFilling, EndAreaAgain, Walks, Traces, Ended}
use Rattle.fault_duty.specs.Duty
use Rattle.fault_duty.specs.Duty.{Round, at_stage, duty_machine, told, told_at, taken_at}
use Rattle.fault_duty.specs.Soundness.{Forbids, PageInScan, IsHindrance, IsSoundRound}
use Rattle.fault_duty.specs.Theorems.{word_of_row, IsPastPage, ShowsNothing, SeesTraced, SeesAllLeft, MarksEpoch, ClaimsPage}
use Rattle.fault_duty.proofs.RoundEnds.{gate_ends, left_ends, traced_ends, wanted_ends, front_for_ends, front_never, ChoiceEnds, ByHindrance, ByScan, ByPast, page_ends, claim_nothing, claimed_page, claim_scans, claim_never, end_gate_ends, end_area_never, end_page_ends, filling_ends, AreaAgainEnds, ByFront, ByFilling, area_again_ends, walk_ends}

told_word : (word other : ℕ) → NothingNow word ≡ NothingNow other → word ≡ other
told_word word other same = cc

-- ---- an exchange on a row of the table

-- it changed the row's word from this to that, and no other word
pub record Exchanged (n : ℕ) (row : Row) (old new : ℕ) (before after : List ℕ) : Type 0 where
  pub was : row_word n row before ≡ old
  pub is : row_word n row after ≡ new
  pub others : ChangesOnly n row before after

pub won_on : (n : ℕ) (row : Row) (old new : ℕ) (before after : List ℕ) → IsRow n row → HoldsTable n before
    → after ≡ words_after (Exchange (place_of n row) old new) before → reply_of (Exchange (place_of n row) old new) before ≡ reply.Won
    → Exchanged n row old new before after
won_on n row old new before after is_row whole makes won =
    let place : ℕ = place_of n row in
    let inside = place_of-lt n row is_row in
    record {
      was = (won_exactly place old new before).0 won;
      is = ap (λ ws. slice_index ws place) makes ∙ slice_index-won place old new before (omega (arith, inside, whole)) won;
      others = λ other apart. ap (λ ws. slice_index ws other) makes ∙ slice_index-words_after (Exchange place old new) before other apart;
    }

-- one that is lost tells another word that stands there, and changes none
lost_on : (n : ℕ) (row : Row) (old new word : ℕ) (before after : List ℕ) → after ≡ words_after (Exchange (place_of n row) old new) before
    → reply_of (Exchange (place_of n row) old new) before ≡ reply.Lost word → ((word ≡ row_word n row before) × (word ≢ old)) × (after ≡ before)
lost_on n row old new word before after makes lost =
    (lost_tells_another (place_of n row) old new word before lost, makes ∙ words_after-lost (place_of n row) old new word before lost)

-- ---- the exchange of TRACED

trace_loses : (d : Round) (traced : ℕ) (r : Reply) (word : ℕ) → told (taken_at (at_stage d (Traces traced)) (Traces traced) r) ≡ Finished (NothingNow word) → r ≡ reply.Lost word
trace_loses d traced (reply.Lost lost) word e = let same : lost ≡ word = cc in ap reply.Lost same
trace_loses d traced _ word e = cc

trace_wins : (d : Round) (traced : ℕ) (r : Reply) → told (taken_at (at_stage d (Traces traced)) (Traces traced) r) ≡ Finished Marked → r ≡ reply.Won
trace_wins d traced reply.Won e = refl
trace_wins d traced _ e = cc

-- ---- the claim's step is the round's

claim_tells : (d : Round) (c : Claiming) (o : Option Step) (before : List ℕ) (result : RoundEnd) → told (after_step duty_machine (at_stage d (Claims c)) o before) ≡ Finished result
    → told_at (Duty.claim_went (after_step claim_machine c o before) (claim.told (after_step claim_machine c o before))) ≡ Finished result
claim_tells d c None before result e = cc
claim_tells d c (Some step) before result e = e

same_page : (c : Claiming) (o : Option Step) (before : List ℕ) → (after_step claim_machine c o before).page ≡ c.page
same_page c None before = refl
same_page c (Some step) before = refl

same_place : (c : Claiming) (o : Option Step) (before : List ℕ) → (after_step claim_machine c o before).in_place ≡ c.in_place
same_place c None before = refl
same_place c (Some step) before = refl

-- ---- the walk's step is the round's too

walk_tells : (d : Round) (traced : ℕ) (v : Walking) (o : Option Step) (before : List ℕ) (result : RoundEnd)
    → told (after_step duty_machine (at_stage d (Walks traced v)) o before) ≡ Finished result
    → told_at (Duty.walk_went traced (after_step walk_machine v o before) (walk_replies.told (after_step walk_machine v o before).stage)) ≡ Finished result
walk_tells d traced v None before result e = cc
walk_tells d traced v (Some step) before result e = e

-- the walk tells a word of the turn, and so does the round
walk_nothing : (d : Round) (traced : ℕ) (v : Walking) (before : List ℕ) (result : RoundEnd)
    → told (after_next_step duty_machine (at_stage d (Walks traced v)) before) ≡ Finished result
    → (word : ℕ) × (walk_replies.told (after_next_step walk_machine v before).stage ≡ Finished (Another word)) × (result ≡ NothingNow word)
walk_nothing d traced v before result tells =
    let next : Walking = after_next_step walk_machine v before in
    walk_ends traced next (walk_replies.told next.stage) result (walk_tells d traced v (walk.wanted v) before result tells)

-- ---- nothing to do now

choice_shows : (d : Round) (choice : Choice) (page : ℕ) (before : List ℕ) (word : ℕ) → IsHindrance d.epoch choice.seen.hindrance
    → ChoiceEnds d choice page (word_of_row d (Page page) before) (NothingNow word) (decode_page (word_of_row d (Page page) before))
    → IsPastPage d page before word ⊎ ((choice.front < first_word (Duty.page_after d page + 1)) × Forbids d.epoch word)
choice_shows d choice page before word holds (ByHindrance other is same last) =
    inr (last, subst (Forbids d.epoch) (sym (told_word word other same)) (let h : IsHindrance d.epoch (Some other) = subst (IsHindrance d.epoch) is holds in h))
choice_shows d choice page before word holds (ByScan worker is same last) =
    let read = told_word word (word_of_row d (Page page) before) same in inr (last, PageInScan worker (ap decode_page read ∙ is))
choice_shows d choice page before word holds (ByPast says is later same) =
    let read = told_word word (word_of_row d (Page page) before) same in inl (record { found = says; read = read; says = ap decode_page read ∙ is; later = later })

again_shows : (d : Round) (look : EndLook) (filling : PageWord) (before : List ℕ) (word : ℕ)
    → AreaAgainEnds d look filling (word_of_row d (Area (to_space d.epoch)) before) (NothingNow word) (decode_area (word_of_row d (Area (to_space d.epoch)) before))
    → ShowsNothing d (EndAreaAgain look filling) before word
again_shows d look filling before word (ByFront area is moved same) =
    let read = told_word word (word_of_row d (Area (to_space d.epoch)) before) same in inl (record { area = area; read = read; says = ap decode_area read ∙ is; moved = moved })
again_shows d look filling before word (ByFilling late same) = inr (told_word word (encode_page filling) same, late)

-- the wanted page's word is what was loaded, however it is told
wanted_read : (loaded word : ℕ) (says : PageWord) → decode_page loaded ≡ Some says
    → (NothingNow word ≡ NothingNow loaded) ⊎ (NothingNow word ≡ NothingNow (encode_page says)) → word ≡ loaded
wanted_read loaded word says is (inl same) = told_word word loaded same
wanted_read loaded word says is (inr same) = told_word word (encode_page says) same ∙ encode_page-decode_page loaded says is

pub nothing : (d : Round) (stage : DutyStage) (before after : List ℕ) (word : ℕ) → IsSoundRound (at_stage d stage)
    → MakesStep duty_machine (at_stage d stage) before after (Finished (NothingNow word)) → ShowsNothing (at_stage d stage) stage before word × (after ≡ before)
nothing d LoadsGate before after word sound acts =
    let loaded : ℕ = word_of_row d Gate before in
    let ends = gate_ends (at_stage d LoadsGate) loaded word (decode_gate loaded) acts.tells in
    (record { gate = ends.gate; read = ends.same; says = ap decode_gate ends.same ∙ ends.is; other = ends.other }, acts.makes)
nothing d (LoadsTraced hindrance) before after word sound acts =
    let ends = traced_ends (at_stage d (LoadsTraced hindrance)) hindrance (word_of_row d Traced before) (NothingNow word) acts.tells in
    absurd (let e = ends.1 in cc)
nothing d (LoadsWanted found page) before after word sound acts =
    let loaded : ℕ = word_of_row d (Page page) before in
    let ends = wanted_ends (at_stage d (LoadsWanted found page)) found page loaded (NothingNow word) (decode_page loaded) acts.tells in
    let read = wanted_read loaded word ends.says ends.is ends.told_word in
    (record { found = ends.says; read = read; says = ap decode_page read ∙ ends.is; served = ends.served }, acts.makes)
nothing d (LoadsFrontFor found w) before after word sound acts =
    let loaded : ℕ = word_of_row d (Area (to_space d.epoch)) before in
    let ends = front_for_ends (at_stage d (LoadsFrontFor found w)) found w (NothingNow word) (decode_area loaded) acts.tells in
    ((told_word word (encode_page w.says) ends.0, ends.1), acts.makes)
nothing d (LoadsFront found) before after word sound acts =
    absurd (front_never (at_stage d (LoadsFront found)) found (NothingNow word) (decode_area (word_of_row d (Area (to_space d.epoch)) before)) acts.tells)
nothing d (LoadsPage choice page) before after word sound acts =
    let loaded : ℕ = word_of_row d (Page page) before in
    let ends = page_ends (at_stage d (LoadsPage choice page)) choice page loaded (NothingNow word) (decode_page loaded) acts.tells in
    (choice_shows (at_stage d (LoadsPage choice page)) choice page before word sound.stage.0.hindrance ends, acts.makes)
nothing d (Claims c) before after word sound acts =
    let tells = claim_tells d c (claim.wanted c) before (NothingNow word) acts.tells in
    let takes = claim_nothing (after_next_step claim_machine c before) (claim.told (after_next_step claim_machine c before)) word tells in
    claims.takes c c.stage before after word sound.stage.sound (record { has_step = acts.has_step; makes = acts.makes; tells = takes })
nothing d (EndGate traced) before after word sound acts =
    let loaded : ℕ = word_of_row d Gate before in
    let ends = end_gate_ends (at_stage d (EndGate traced)) traced loaded (NothingNow word) (decode_gate loaded) acts.tells in
    let read = told_word word loaded ends.told_is in
    (record { gate = ends.gate; read = read; says = ap decode_gate read ∙ ends.is; unfit = ends.unfit }, acts.makes)
nothing d (EndArea traced) before after word sound acts =
    absurd (end_area_never (at_stage d (EndArea traced)) traced (NothingNow word) (decode_area (word_of_row d (Area (to_space d.epoch)) before)) acts.tells)
nothing d (EndPage look page) before after word sound acts =
    let loaded : ℕ = word_of_row d (Page page) before in
    let ends = end_page_ends (at_stage d (EndPage look page)) look page loaded (NothingNow word) acts.tells in
    let read = told_word word loaded ends.1 in
    ((read, λ same. ends.0 (sym read ∙ same)), acts.makes)
nothing d (EndFilling look) before after word sound acts =
    let loaded : ℕ = word_of_row d (Page (page_of look.front)) before in
    let ends = filling_ends (at_stage d (EndFilling look)) look loaded (NothingNow word) (decode_page loaded) acts.tells in
    let read = told_word word loaded ends.told_is in
    ((read, (ends.worker, ap decode_page read ∙ ends.is)), acts.makes)
nothing d (EndAreaAgain look filling) before after word sound acts =
    let loaded : ℕ = word_of_row d (Area (to_space d.epoch)) before in
    let ends = area_again_ends (at_stage d (EndAreaAgain look filling)) look filling loaded (NothingNow word) (decode_area loaded) acts.tells in
    (again_shows (at_stage d (EndAreaAgain look filling)) look filling before word ends, acts.makes)
nothing d (Walks traced v) before after word sound acts =
    let ends = walk_nothing d traced v before (NothingNow word) acts.tells in
    let same = told_word word ends.0 ends.2 in
    others_show_it v before after word (record { has_step = acts.has_step; makes = acts.makes; tells = ends.1 ∙ ap (λ w. Finished (Another w)) (sym same) })
nothing d (Traces traced) before after word sound acts =
    let lost = trace_loses d traced (reply_of (Exchange (place_of d.layout.pages Traced) traced (d.epoch + 1)) before) word acts.tells in
    lost_on d.layout.pages Traced traced (d.epoch + 1) word before after acts.makes lost
nothing d (Ended result) before after word sound acts = absurd (no_step acts.has_step)

-- ---- the other results come at the gate, at a claim, and where TRACED is loaded or exchanged

abbrev IsNothing : RoundEnd → Type 0
IsNothing result = (word : ℕ) × (result ≡ NothingNow word)

abbrev IsAllLeft : RoundEnd → Type 0
IsAllLeft result = (word : ℕ) × (result ≡ AllLeft word)

gate_results : (d : Round) (caller : Caller) (loaded : ℕ) (g : GateWord) (result : RoundEnd) → told (Duty.looked_by_gate d caller loaded g) ≡ Finished result
    → IsNothing result ⊎ IsAllLeft result
gate_results d (Faulted page) loaded g result tells = by_test (nat_eq g.epoch d.epoch) tells
  where
    by_test : (b : Bool) → told_at (cond b (LoadsTraced (Duty.hindrance_in loaded g)) (Ended (NothingNow loaded))) ≡ Finished result → IsNothing result ⊎ IsAllLeft result
    by_test true e = cc
    by_test false e = inl (loaded, cc)
gate_results d Allocates loaded g result tells = by_test (nat_eq g.epoch d.epoch) tells
  where
    by_test : (b : Bool) → told_at (cond b (LoadsTraced (Duty.hindrance_in loaded g)) (Ended (NothingNow loaded))) ≡ Finished result → IsNothing result ⊎ IsAllLeft result
    by_test true e = cc
    by_test false e = inl (loaded, cc)
gate_results d (Scans mutators) loaded g result tells = by_test (nat_eq g.left mutators) tells
  where
    by_test : (b : Bool) → told (cond b (at_stage d (Ended (AllLeft loaded))) (record d { epoch = g.epoch; stage = LoadsTraced (Duty.hindrance_in loaded g) })) ≡ Finished result
        → IsNothing result ⊎ IsAllLeft result
    by_test true e = inr (loaded, cc)
    by_test false e = cc

pub at_gate : (d : Round) (loaded : ℕ) (o : Option GateWord) (result : RoundEnd) → told (Duty.looked_at_gate d loaded o) ≡ Finished result → IsNothing result ⊎ IsAllLeft result
at_gate d loaded (Some g) result tells = gate_results d d.caller loaded g result tells
at_gate d loaded None result tells = cc

-- what can be told at a stage, but for a claim and the exchange of TRACED
abbrev Elsewhere : DutyStage → RoundEnd → Type 0
Elsewhere LoadsGate result = IsNothing result ⊎ IsAllLeft result
Elsewhere (LoadsTraced hindrance) result = result ≡ round_end.Traced
Elsewhere (Claims c) result = Unit {0}
Elsewhere (Traces traced) result = Unit {0}
Elsewhere stage result = IsNothing result

wanted_told : (loaded : ℕ) (says : PageWord) (result : RoundEnd) → (result ≡ NothingNow loaded) ⊎ (result ≡ NothingNow (encode_page says)) → IsNothing result
wanted_told loaded says result (inl same) = (loaded, same)
wanted_told loaded says result (inr same) = (encode_page says, same)

choice_told : (d : Round) (choice : Choice) (page loaded : ℕ) (result : RoundEnd) (o : Option PageWord) → ChoiceEnds d choice page loaded result o → IsNothing result
choice_told d choice page loaded result o (ByHindrance word is same last) = (word, same)
choice_told d choice page loaded result o (ByScan worker is same last) = (loaded, same)
choice_told d choice page loaded result o (ByPast says is later same) = (loaded, same)

again_told : (d : Round) (look : EndLook) (filling : PageWord) (loaded : ℕ) (result : RoundEnd) (o : Option AreaWord) → AreaAgainEnds d look filling loaded result o → IsNothing result
again_told d look filling loaded result o (ByFront area is moved same) = (loaded, same)
again_told d look filling loaded result o (ByFilling late same) = (encode_page filling, same)

elsewhere : (d : Round) (stage : DutyStage) (before after : List ℕ) (result : RoundEnd) → MakesStep duty_machine (at_stage d stage) before after (Finished result)
    → Elsewhere stage result
elsewhere d LoadsGate before after result acts = at_gate (at_stage d LoadsGate) (word_of_row d Gate before) (decode_gate (word_of_row d Gate before)) result acts.tells
elsewhere d (LoadsTraced hindrance) before after result acts =
    let ends = traced_ends (at_stage d (LoadsTraced hindrance)) hindrance (word_of_row d Traced before) result acts.tells in ends.1
elsewhere d (LoadsWanted found page) before after result acts =
    let loaded : ℕ = word_of_row d (Page page) before in
    let ends = wanted_ends (at_stage d (LoadsWanted found page)) found page loaded result (decode_page loaded) acts.tells in wanted_told loaded ends.says result ends.told_word
elsewhere d (LoadsFrontFor found w) before after result acts =
    let ends = front_for_ends (at_stage d (LoadsFrontFor found w)) found w result (decode_area (word_of_row d (Area (to_space d.epoch)) before)) acts.tells in (encode_page w.says, ends.0)
elsewhere d (LoadsFront found) before after result acts =
    absurd (front_never (at_stage d (LoadsFront found)) found result (decode_area (word_of_row d (Area (to_space d.epoch)) before)) acts.tells)
elsewhere d (LoadsPage choice page) before after result acts =
    let loaded : ℕ = word_of_row d (Page page) before in
    choice_told (at_stage d (LoadsPage choice page)) choice page loaded result (decode_page loaded)
    (page_ends (at_stage d (LoadsPage choice page)) choice page loaded result (decode_page loaded) acts.tells)
elsewhere d (Claims c) before after result acts = tt
elsewhere d (EndGate traced) before after result acts =
    let loaded : ℕ = word_of_row d Gate before in
    let ends = end_gate_ends (at_stage d (EndGate traced)) traced loaded result (decode_gate loaded) acts.tells in (loaded, ends.told_is)
elsewhere d (EndArea traced) before after result acts =
    absurd (end_area_never (at_stage d (EndArea traced)) traced result (decode_area (word_of_row d (Area (to_space d.epoch)) before)) acts.tells)
elsewhere d (EndPage look page) before after result acts =
    let loaded : ℕ = word_of_row d (Page page) before in
    let ends = end_page_ends (at_stage d (EndPage look page)) look page loaded result acts.tells in (loaded, ends.1)
elsewhere d (EndFilling look) before after result acts =
    let loaded : ℕ = word_of_row d (Page (page_of look.front)) before in
    let ends = filling_ends (at_stage d (EndFilling look)) look loaded result (decode_page loaded) acts.tells in (loaded, ends.told_is)
elsewhere d (EndAreaAgain look filling) before after result acts =
    let loaded : ℕ = word_of_row d (Area (to_space d.epoch)) before in
    again_told (at_stage d (EndAreaAgain look filling)) look filling loaded result (decode_area loaded)
    (area_again_ends (at_stage d (EndAreaAgain look filling)) look filling loaded result (decode_area loaded) acts.tells)
elsewhere d (Walks traced v) before after result acts = let ends = walk_nothing d traced v before result acts.tells in (ends.0, ends.2)
elsewhere d (Traces traced) before after result acts = tt
elsewhere d (Ended result') before after result acts = absurd (no_step acts.has_step)

-- the result is none of these
record IsOther (result : RoundEnd) : Type 0 where
  not_nothing : (word : ℕ) → result ≡ NothingNow word → ⊥
  not_traced : result ≡ round_end.Traced → ⊥
  not_left : (word : ℕ) → result ≡ AllLeft word → ⊥

neither : (result : RoundEnd) → IsOther result → IsNothing result ⊎ IsAllLeft result → ⊥
neither result other (inl is) = other.not_nothing is.0 is.1
neither result other (inr is) = other.not_left is.0 is.1

-- it comes from a claim or from TRACED
abbrev IsLast : DutyStage → Type 0
IsLast (Claims c) = Unit {0}
IsLast (Traces traced) = Unit {0}
IsLast stage = ⊥

last_alone : (stage : DutyStage) (result : RoundEnd) → IsOther result → Elsewhere stage result → IsLast stage
last_alone LoadsGate result other is = neither result other is
last_alone (Claims c) result other is = tt
last_alone (Traces traced) result other is = tt
last_alone (LoadsTraced hindrance) result other is = other.not_traced is
last_alone _ result other is = other.not_nothing is.0 is.1

marked_other : IsOther Marked
marked_other = record { not_nothing = λ word e. cc; not_traced = λ e. cc; not_left = λ word e. cc }

claimed_other : (in_place : Bool) (page : ℕ) → IsOther (claimed_page in_place page)
claimed_other true page = record { not_nothing = λ word e. cc; not_traced = λ e. cc; not_left = λ word e. cc }
claimed_other false page = record { not_nothing = λ word e. cc; not_traced = λ e. cc; not_left = λ word e. cc }

-- ---- marked

marks_by : (d : Round) (stage : DutyStage) (before after : List ℕ) → IsLast stage → IsSoundRound (at_stage d stage) → HoldsTable d.layout.pages before
    → MakesStep duty_machine (at_stage d stage) before after (Finished Marked) → MarksEpoch (at_stage d stage) before after
marks_by d (Claims c) before after last sound whole acts =
    let tells = claim_tells d c (claim.wanted c) before Marked acts.tells in
    absurd ((claim_never (after_next_step claim_machine c before) (claim.told (after_next_step claim_machine c before)) Marked tells).0 refl)
marks_by d (Traces traced) before after last sound whole acts =
    let won = trace_wins d traced (reply_of (Exchange (place_of d.layout.pages Traced) traced (d.epoch + 1)) before) acts.tells in
    let it = won_on d.layout.pages Traced traced (d.epoch + 1) before after tt whole acts.makes won in
    record { traced = traced; exchanges = refl; was = λ same. sound.stage.1 (sym it.was ∙ same); is = it.is; others = it.others }
marks_by d _ before after last sound whole acts = elim last [ ]

pub marks : (d : Round) (stage : DutyStage) (before after : List ℕ) → IsSoundRound (at_stage d stage) → HoldsTable d.layout.pages before
    → MakesStep duty_machine (at_stage d stage) before after (Finished Marked) → MarksEpoch (at_stage d stage) before after
marks d stage before after sound whole acts =
    marks_by d stage before after (last_alone stage Marked marked_other (elsewhere d stage before after Marked acts)) sound whole acts

-- ---- claimed

trace_never_claims : (d : Round) (traced : ℕ) (r : Reply) (in_place : Bool) (page : ℕ) → told (taken_at (at_stage d (Traces traced)) (Traces traced) r) ≡ Finished (claimed_page in_place page) → ⊥
trace_never_claims d traced (reply.Lost _) true page e = cc
trace_never_claims d traced reply.Won true page e = cc
trace_never_claims d traced _ _ page e = cc

claims_by : (d : Round) (stage : DutyStage) (before after : List ℕ) (in_place : Bool) (page : ℕ) → IsLast stage → IsSoundRound (at_stage d stage) → HoldsTable d.layout.pages before
    → MakesStep duty_machine (at_stage d stage) before after (Finished (claimed_page in_place page)) → ClaimsPage (at_stage d stage) page in_place before after
claims_by d (Claims c) before after in_place page last sound whole acts =
    let tells = claim_tells d c (claim.wanted c) before (claimed_page in_place page) acts.tells in
    let scans = claim_scans (after_next_step claim_machine c before) (claim.told (after_next_step claim_machine c before)) in_place page tells in
    let own = sound.stage in
    record {
      claim = c;
      own = own;
      of_page = sym (same_page c (claim.wanted c) before) ∙ scans.1;
      placed = sym (same_place c (claim.wanted c) before) ∙ scans.2;
      wins = claims.wins c c.stage before after own.sound (subst (λ l. HoldsTable l.pages before) (sym own.layout) whole)
          (record { has_step = acts.has_step; makes = acts.makes; tells = scans.0 });
    }
claims_by d (Traces traced) before after in_place page last sound whole acts = absurd (trace_never_claims d traced _ in_place page acts.tells)
claims_by d _ before after in_place page last sound whole acts = elim last [ ]

pub claims_page : (d : Round) (stage : DutyStage) (before after : List ℕ) (in_place : Bool) (page : ℕ) → IsSoundRound (at_stage d stage) → HoldsTable d.layout.pages before
    → MakesStep duty_machine (at_stage d stage) before after (Finished (claimed_page in_place page)) → ClaimsPage (at_stage d stage) page in_place before after
claims_page d stage before after in_place page sound whole acts =
    claims_by d stage before after in_place page (last_alone stage (claimed_page in_place page) (claimed_other in_place page) (elsewhere d stage before after (claimed_page in_place page) acts)) sound whole acts

-- ---- traced

no_traced : IsNothing round_end.Traced → ⊥
no_traced is = let e = is.1 in cc

gate_never_traced : IsNothing round_end.Traced ⊎ IsAllLeft round_end.Traced → ⊥
gate_never_traced (inl is) = no_traced is
gate_never_traced (inr is) = let e = is.1 in cc

trace_never_traced : (d : Round) (traced : ℕ) (r : Reply) → told (taken_at (at_stage d (Traces traced)) (Traces traced) r) ≡ Finished round_end.Traced → ⊥
trace_never_traced d traced reply.Won e = cc
trace_never_traced d traced _ e = cc

pub sees_traced : (d : Round) (stage : DutyStage) (before after : List ℕ) → MakesStep duty_machine (at_stage d stage) before after (Finished round_end.Traced)
    → SeesTraced (at_stage d stage) before after
sees_traced d (LoadsTraced hindrance) before after acts =
    let ends = traced_ends (at_stage d (LoadsTraced hindrance)) hindrance (word_of_row d Traced before) round_end.Traced acts.tells in
    record { hindrance = hindrance; loads = refl; says = ends.0; stays = acts.makes }
sees_traced d LoadsGate before after acts = absurd (gate_never_traced (elsewhere d LoadsGate before after round_end.Traced acts))
sees_traced d (Claims c) before after acts =
    let tells = claim_tells d c (claim.wanted c) before round_end.Traced acts.tells in
    absurd ((claim_never (after_next_step claim_machine c before) (claim.told (after_next_step claim_machine c before)) round_end.Traced tells).1 refl)
sees_traced d (Traces traced) before after acts = absurd (trace_never_traced d traced _ acts.tells)
sees_traced d (LoadsWanted found page) before after acts = absurd (no_traced (elsewhere d (LoadsWanted found page) before after round_end.Traced acts))
sees_traced d (LoadsFrontFor found w) before after acts = absurd (no_traced (elsewhere d (LoadsFrontFor found w) before after round_end.Traced acts))
sees_traced d (LoadsFront found) before after acts = absurd (no_traced (elsewhere d (LoadsFront found) before after round_end.Traced acts))
sees_traced d (LoadsPage choice page) before after acts = absurd (no_traced (elsewhere d (LoadsPage choice page) before after round_end.Traced acts))
sees_traced d (EndGate traced) before after acts = absurd (no_traced (elsewhere d (EndGate traced) before after round_end.Traced acts))
sees_traced d (EndArea traced) before after acts = absurd (no_traced (elsewhere d (EndArea traced) before after round_end.Traced acts))
sees_traced d (EndPage look page) before after acts = absurd (no_traced (elsewhere d (EndPage look page) before after round_end.Traced acts))
sees_traced d (EndFilling look) before after acts = absurd (no_traced (elsewhere d (EndFilling look) before after round_end.Traced acts))
sees_traced d (EndAreaAgain look filling) before after acts = absurd (no_traced (elsewhere d (EndAreaAgain look filling) before after round_end.Traced acts))
sees_traced d (Walks traced v) before after acts = absurd (no_traced (elsewhere d (Walks traced v) before after round_end.Traced acts))
sees_traced d (Ended result) before after acts = absurd (no_step acts.has_step)

-- ---- all have left

no_left : (word : ℕ) → IsNothing (AllLeft word) → ⊥
no_left word is = let e = is.1 in cc

trace_never_left : (d : Round) (traced : ℕ) (r : Reply) (word : ℕ) → told (taken_at (at_stage d (Traces traced)) (Traces traced) r) ≡ Finished (AllLeft word) → ⊥
trace_never_left d traced reply.Won word e = cc
trace_never_left d traced _ word e = cc

pub sees_left : (d : Round) (stage : DutyStage) (before after : List ℕ) (word : ℕ) → MakesStep duty_machine (at_stage d stage) before after (Finished (AllLeft word))
    → SeesAllLeft (at_stage d stage) before after word
sees_left d LoadsGate before after word acts =
    let loaded : ℕ = word_of_row d Gate before in
    let ends = left_ends (at_stage d LoadsGate) loaded word (decode_gate loaded) acts.tells in
    record {
      first = refl;
      mutators = ends.mutators;
      scanner = ends.caller;
      gate = ends.gate;
      read = ends.same;
      says = ap decode_gate ends.same ∙ ends.is;
      left = ends.left;
      stays = acts.makes;
    }
sees_left d (Claims c) before after word acts =
    let tells = claim_tells d c (claim.wanted c) before (AllLeft word) acts.tells in
    absurd ((claim_never (after_next_step claim_machine c before) (claim.told (after_next_step claim_machine c before)) (AllLeft word) tells).2 word refl)
sees_left d (Traces traced) before after word acts = absurd (trace_never_left d traced _ word acts.tells)
sees_left d (LoadsTraced hindrance) before after word acts = absurd (let e = elsewhere d (LoadsTraced hindrance) before after (AllLeft word) acts in cc)
sees_left d (LoadsWanted found page) before after word acts = absurd (no_left word (elsewhere d (LoadsWanted found page) before after (AllLeft word) acts))
sees_left d (LoadsFrontFor found w) before after word acts = absurd (no_left word (elsewhere d (LoadsFrontFor found w) before after (AllLeft word) acts))
sees_left d (LoadsFront found) before after word acts = absurd (no_left word (elsewhere d (LoadsFront found) before after (AllLeft word) acts))
sees_left d (LoadsPage choice page) before after word acts = absurd (no_left word (elsewhere d (LoadsPage choice page) before after (AllLeft word) acts))
sees_left d (EndGate traced) before after word acts = absurd (no_left word (elsewhere d (EndGate traced) before after (AllLeft word) acts))
sees_left d (EndArea traced) before after word acts = absurd (no_left word (elsewhere d (EndArea traced) before after (AllLeft word) acts))
sees_left d (EndPage look page) before after word acts = absurd (no_left word (elsewhere d (EndPage look page) before after (AllLeft word) acts))
sees_left d (EndFilling look) before after word acts = absurd (no_left word (elsewhere d (EndFilling look) before after (AllLeft word) acts))
sees_left d (EndAreaAgain look filling) before after word acts = absurd (no_left word (elsewhere d (EndAreaAgain look filling) before after (AllLeft word) acts))
sees_left d (Walks traced v) before after word acts = absurd (no_left word (elsewhere d (Walks traced v) before after (AllLeft word) acts))
sees_left d (Ended result) before after word acts = absurd (no_step acts.has_step)
