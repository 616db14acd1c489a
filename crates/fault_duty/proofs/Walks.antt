-- A round comes to the exchange of TRACED only from a walk that has passed all cells, and has the turn only from the won exchange
-- of WEAKTURN on.
use Rattle.std.proofs.Common.{◌≡◌, ℕ, ◌+◌, ◌%◌, ◌<◌, ◌⊎◌, inl, inr, Bool, true, false, cond, ◌&&◌, nat_eq, List, Option, Some, None, refl, sym, ap, subst, ◌∙◌, ⊎_elim}
use Rattle.std.proofs.lemmas.Option.{same_Some}
use Rattle.atom_store.specs.declared.reply.Reply.{Reply}
use Rattle.atom_store.specs.declared.reply.Reply.TheVariants as reply
use Rattle.atom_store.specs.declared.step.Step.{Step}
use Rattle.atom_store.specs.declared.step.Step.TheVariants.{Exchange}
use Rattle.atom_store.specs.declared.turn.Turn.{Turn}
use Rattle.atom_store.specs.declared.turn.Turn.TheVariants.{More, Finished}
use Rattle.atom_store.specs.Acts.{MakesStep, after_next_step}
use Rattle.atom_store.specs.Runs.{after_step, words_then}
use Rattle.atom_store.specs.Step.{reply_of, words_after}
use Rattle.atom_store.proofs.Acting.{no_step}
use Rattle.space_map.specs.declared.area_word.AreaWord.{AreaWord}
use Rattle.space_map.specs.declared.gate_word.GateWord.{GateWord}
use Rattle.space_map.specs.declared.page_word.PageWord.{PageWord}
use Rattle.space_map.specs.declared.page_word.PageWord.TheVariants as page_word
use Rattle.space_map.specs.AreaWord.{decode_area}
use Rattle.space_map.specs.GateWord.{decode_gate}
use Rattle.space_map.specs.PageWord.{encode_page, decode_page}
use Rattle.space_map.specs.Spaces.{Layout, to_space, page_of, board_page}
use Rattle.space_map.specs.Table.{Gate, Traced, Area, WeakTurn, Page, place_of}
use Rattle.space_map.specs.TableWords.{HoldsTable}
use Rattle.page_slots.specs.declared.claimed.Claimed.{Claimed}
use Rattle.page_slots.specs.Claim.{Claiming, claim_machine}
use Rattle.page_slots.specs.Claim as claim
use Rattle.cell_walk.specs.declared.walk_end.WalkEnd.{WalkEnd}
use Rattle.cell_walk.specs.declared.walk_end.WalkEnd.TheVariants.{Passed, Another}
use Rattle.cell_walk.specs.declared.walk_stage.WalkStage.{WalkStage}
use Rattle.cell_walk.specs.declared.walk_stage.WalkStage.TheVariants as walk_stage
use Rattle.cell_walk.specs.Soundness.{IsSound}
use Rattle.cell_walk.specs.Taken.{walk_machine}
use Rattle.cell_walk.specs.Taken as walk_replies
use Rattle.cell_walk.specs.Theorems.{HasTurn}
use Rattle.cell_walk.specs.Theorems.{WinsTurn as WalkWins}
use Rattle.cell_walk.specs.Walking.{Walking}
use Rattle.cell_walk.specs.Walking as walk
use Rattle.cell_walk.proofs.Turns.{turns_are_won}
use Rattle.fault_duty.specs.declared.caller.Caller.{Caller}
use Rattle.fault_duty.specs.declared.caller.Caller.TheVariants.{Faulted, Allocates, Scans}
use Rattle.fault_duty.specs.declared.findings.Findings.{Findings}
use Rattle.fault_duty.specs.declared.choice.Choice.{Choice}
use Rattle.fault_duty.specs.declared.end_look.EndLook.{EndLook}
use Rattle.fault_duty.specs.declared.wanted_page.WantedPage.{WantedPage}
use Rattle.fault_duty.specs.declared.page_state.PageState.{PageState}
use Rattle.fault_duty.specs.declared.page_state.PageState.TheVariants.{Opened, Scanned, Waits, Past}
use Rattle.fault_duty.specs.declared.duty_stage.DutyStage.{DutyStage}
use Rattle.fault_duty.specs.declared.duty_stage.DutyStage.TheVariants.{LoadsGate, LoadsTraced, LoadsWanted, LoadsFrontFor, LoadsFront, LoadsPage, Claims, EndGate, EndArea, EndPage, EndFilling, EndAreaAgain, Walks, Traces, Ended}
use Rattle.fault_duty.specs.Duty
use Rattle.fault_duty.specs.Duty.{Round, at_stage, duty_machine, taken_at}
use Rattle.fault_duty.specs.Soundness.{IsOwnWalk, IsSoundRound}
use Rattle.fault_duty.specs.Theorems.{word_of_row, HasRoundTurn, PassesCells, WinsTurn}
use Rattle.fault_duty.proofs.RoundMeasure.{by_test}
use Rattle.fault_duty.proofs.RoundEffects.{Exchanged, won_on}

-- the round hasn't the turn
abbrev IsTurnless : DutyStage → Type 0
IsTurnless (Walks traced v) = HasTurn v.stage → ⊥
IsTurnless (Traces traced) = ⊥
IsTurnless stage = Unit {0}

no_turn : (stage : DutyStage) → IsTurnless stage → HasRoundTurn stage → ⊥
no_turn (Walks traced v) none has = none has
no_turn (Traces traced) none has = none
no_turn stage none has = has

no_mark : (stage : DutyStage) (traced : ℕ) → IsTurnless stage → stage ≡ Traces traced → ⊥
no_mark stage traced none is = subst IsTurnless is none

-- ---- the choice of a page

by_caller : (d : Round) (caller : Caller) (word : ℕ) (gate : GateWord) → IsTurnless (Duty.looked_by_gate d caller word gate).stage
by_caller d (Faulted page) word gate = by_test IsTurnless (nat_eq gate.epoch d.epoch) (LoadsTraced (Duty.hindrance_in word gate)) (Ended _) (λ _. tt) (λ _. tt)
by_caller d Allocates word gate = by_test IsTurnless (nat_eq gate.epoch d.epoch) (LoadsTraced (Duty.hindrance_in word gate)) (Ended _) (λ _. tt) (λ _. tt)
by_caller d (Scans mutators) word gate = by_test (λ (e : Round). IsTurnless e.stage) (nat_eq gate.left mutators) _ _ (λ _. tt) (λ _. tt)

by_gate : (d : Round) (word : ℕ) (o : Option GateWord) → IsTurnless (Duty.looked_at_gate d word o).stage
by_gate d word (Some gate) = by_caller d d.caller word gate
by_gate d word None = tt

first_look : (caller : Caller) (seen : Findings) → IsTurnless (Duty.first_look caller seen)
first_look (Faulted _) seen = tt
first_look _ seen = tt

by_traced : (d : Round) (hindrance : Option ℕ) (word : ℕ) → IsTurnless (Duty.looked_at_traced d hindrance word)
by_traced d hindrance word =
    by_test IsTurnless (nat_eq word (d.epoch + 1)) (Ended _) (Duty.first_look d.caller _) (λ _. tt) (λ _. first_look d.caller (record { traced = word; hindrance = hindrance }))

claimed : (d : Round) (page : ℕ) (says : PageWord) (in_place : Bool) (state : PageState) → IsTurnless (Duty.claim_by_state d page says in_place state)
claimed d page says in_place Waits = tt
claimed d page says in_place _ = tt

wanted_one : (d : Round) (seen : Findings) (w : WantedPage) → IsTurnless (Duty.wanted_one d seen w)
wanted_one d seen w =
    by_test IsTurnless (nat_eq w.page (board_page d.layout.pages)) (Duty.claim_by_state d w.page w.says false _) (LoadsFrontFor seen w)
    (λ _. claimed d w.page w.says false (Duty.state_of w.says d.epoch)) (λ _. tt)

by_wanted_state : (d : Round) (seen : Findings) (page word : ℕ) (says : PageWord) (state : PageState) → IsTurnless (Duty.wanted_by d seen page word says state)
by_wanted_state d seen page word says Opened = tt
by_wanted_state d seen page word says Scanned = tt
by_wanted_state d seen page word says Waits = wanted_one d seen (record { page = page; says = says })
by_wanted_state d seen page word says Past = wanted_one d seen (record { page = page; says = says })

by_wanted : (d : Round) (seen : Findings) (page word : ℕ) (o : Option PageWord) → IsTurnless (Duty.looked_at_wanted d seen page word o)
by_wanted d seen page word (Some says) = by_wanted_state d seen page word says (Duty.state_of says d.epoch)
by_wanted d seen page word None = tt

by_front_for : (d : Round) (seen : Findings) (w : WantedPage) (o : Option AreaWord) → IsTurnless (Duty.found_front_for d seen w o)
by_front_for d seen w (Some area) =
    by_test IsTurnless (Duty.is_full (Duty.front_of d area) w.page) (Duty.claim_by_state d w.page w.says false _) (LoadsFront seen)
    (λ _. claimed d w.page w.says false (Duty.state_of w.says d.epoch)) (λ _. tt)
by_front_for d seen w None = tt

by_front : (d : Round) (seen : Findings) (o : Option AreaWord) → IsTurnless (Duty.found_front d seen o)
by_front d seen (Some area) = tt
by_front d seen None = tt

after_choice : (seen : Findings) (hindrance : Option ℕ) → IsTurnless (Duty.after_choice seen hindrance)
after_choice seen (Some word) = tt
after_choice seen None = tt

passed : (d : Round) (choice : Choice) (page : ℕ) → IsTurnless (Duty.passed_page d choice page)
passed d choice page =
    by_test IsTurnless (Duty.is_full choice.front (Duty.page_after d page)) (LoadsPage choice (Duty.page_after d page)) (Duty.after_choice choice.seen choice.seen.hindrance)
    (λ _. tt) (λ _. after_choice choice.seen choice.seen.hindrance)

by_page_state : (d : Round) (choice : Choice) (page word : ℕ) (says : PageWord) (state : PageState) → IsTurnless (Duty.chosen_by d choice page word says state)
by_page_state d choice page word says Opened = passed d choice page
by_page_state d choice page word says Scanned = passed d (Duty.hindered choice word) page
by_page_state d choice page word says Waits = tt
by_page_state d choice page word says Past = tt

by_page : (d : Round) (choice : Choice) (page word : ℕ) (o : Option PageWord) → IsTurnless (Duty.looked_at_page d choice page word o)
by_page d choice page word (Some says) = by_page_state d choice page word says (Duty.state_of says d.epoch)
by_page d choice page word None = tt

-- ---- the claim

claim_went : (c : Claiming) (turn : Turn Claimed) → IsTurnless (Duty.claim_went c turn)
claim_went c More = tt
claim_went c (Finished result) = tt

by_claim : (d : Round) (c : Claiming) (o : Option Step) (before : List ℕ) → IsTurnless (after_step duty_machine (at_stage d (Claims c)) o before).stage
by_claim d c None before = tt
by_claim d c (Some step) before = claim_went (after_step claim_machine c (Some step) before) (claim.told (after_step claim_machine c (Some step) before))

-- ---- the end of the area

by_end_gate : (d : Round) (traced word : ℕ) (o : Option GateWord) → IsTurnless (Duty.ended_gate d traced word o)
by_end_gate d traced word (Some gate) = by_test IsTurnless (nat_eq gate.epoch d.epoch && nat_eq gate.behind 0) (EndArea traced) (Ended _) (λ _. tt) (λ _. tt)
by_end_gate d traced word None = tt

by_end_area : (d : Round) (traced : ℕ) (o : Option AreaWord) → IsTurnless (Duty.ended_area d traced o)
by_end_area d traced (Some area) = tt
by_end_area d traced None = tt

after_pages : (d : Round) (look : EndLook) → IsTurnless (Duty.after_pages d look)
after_pages d look = by_test IsTurnless (nat_eq (look.front % 64) 0) (EndAreaAgain look (page_word.Open d.epoch)) (EndFilling look) (λ _. tt) (λ _. tt)

by_end_page : (d : Round) (look : EndLook) (page word : ℕ) → IsTurnless (Duty.ended_page d look page word)
by_end_page d look page word =
    by_test IsTurnless (nat_eq word (encode_page (page_word.Open d.epoch))) _ (Ended _)
    (λ _. by_test IsTurnless (Duty.is_full look.front (Duty.page_after d page)) (EndPage look (Duty.page_after d page)) (Duty.after_pages d look)
    (λ _. tt) (λ _. after_pages d look))
    (λ _. tt)

by_filling_state : (look : EndLook) (word : ℕ) (says : PageWord) (state : PageState) → IsTurnless (Duty.filling_by look word says state)
by_filling_state look word says Scanned = tt
by_filling_state look word says _ = tt

by_filling : (d : Round) (look : EndLook) (word : ℕ) (o : Option PageWord) → IsTurnless (Duty.looked_at_filling d look word o)
by_filling d look word (Some says) = by_filling_state look word says (Duty.state_of says d.epoch)
by_filling d look word None = tt

by_end_state : (d : Round) (look : EndLook) (filling : PageWord) (state : PageState) → IsTurnless (Duty.ends_by d look filling state)
by_end_state d look filling Opened = λ has. has
by_end_state d look filling _ = tt

by_end_area_again : (d : Round) (look : EndLook) (filling : PageWord) (word : ℕ) (o : Option AreaWord) → IsTurnless (Duty.ended_area_again d look filling word o)
by_end_area_again d look filling word (Some area) =
    by_test IsTurnless (nat_eq (Duty.front_of d area) look.front) (Duty.ends_by d look filling _) (Ended _)
    (λ _. by_end_state d look filling (Duty.state_of filling d.epoch)) (λ _. tt)
by_end_area_again d look filling word None = tt

-- ---- the mark

by_mark : (d : Round) (traced : ℕ) (won : Bool) (word : ℕ) → IsTurnless (taken_at (at_stage d (Traces traced)) (Traces traced) (cond won reply.Won (reply.Lost word))).stage
by_mark d traced true word = tt
by_mark d traced false word = tt

-- ---- the walk

went_passed : (traced : ℕ) (v : Walking) (turn : Turn WalkEnd) (next : ℕ) → Duty.walk_went traced v turn ≡ Traces next → (turn ≡ Finished Passed) × (traced ≡ next)
went_passed traced v (Finished Passed) next is = (refl, cc)
went_passed traced v (Finished (Another word)) next is = cc
went_passed traced v More next is = cc

-- the walk has passed all cells with its step
walk_passed : (d : Round) (traced : ℕ) (v : Walking) (o : Option Step) (before : List ℕ) (next : ℕ)
    → (after_step duty_machine (at_stage d (Walks traced v)) o before).stage ≡ Traces next
    → (walk_replies.told (after_step walk_machine v o before).stage ≡ Finished Passed) × (traced ≡ next)
walk_passed d traced v None before next is = cc
walk_passed d traced v (Some step) before next is =
    let later : Walking = after_step walk_machine v (Some step) before in went_passed traced later (walk_replies.told later.stage) next is

-- a walk that passes all cells has the turn
passed_turn : (x : WalkStage) → walk_replies.told x ≡ Finished Passed → HasTurn x
passed_turn (walk_stage.Ended Passed) is = tt
passed_turn (walk_stage.Ended (Another word)) is = cc
passed_turn x is = cc

-- the walk has the turn where the round has it
went_turn : (traced : ℕ) (v : Walking) (x : WalkStage) → HasRoundTurn (Duty.walk_went traced (record v { stage = x }) (walk_replies.told x)) → HasTurn x
went_turn traced v (walk_stage.Ended Passed) has = tt
went_turn traced v (walk_stage.Ended (Another word)) has = has
went_turn traced v x has = has

-- a step with which it has the turn wins it, if it hadn't it before
turn_from : (d : Round) (traced : ℕ) (v : Walking) (o : Option Step) (before after : List ℕ) → walk.wanted v ≡ o → IsOwnWalk (at_stage d (Walks traced v)) v
    → HoldsTable d.layout.pages before → after ≡ words_then o before → HasTurn (after_step walk_machine v o before).stage
    → HasTurn v.stage ⊎ WinsTurn (at_stage d (Walks traced v)) before after
turn_from d traced v None before after wants own whole makes has = inl has
turn_from d traced v (Some step) before after wants own whole makes has = by_won (turns_are_won v (reply_of step before) own.sound has)
  where
    by_won : HasTurn v.stage ⊎ WalkWins v (reply_of step before) → HasTurn v.stage ⊎ WinsTurn (at_stage d (Walks traced v)) before after
    by_won (inl had) = inl had
    by_won (inr won) =
        let exchange : Step = Exchange (place_of v.layout.pages WeakTurn) won.found (v.epoch + 1) in
        let same : step ≡ exchange = same_Some step exchange (sym wants ∙ won.exchanges) in
        let it = won_on v.layout.pages WeakTurn won.found (v.epoch + 1) before after tt (subst (λ (l : Layout). HoldsTable l.pages before) (sym own.layout) whole)
        (subst (λ s. after ≡ words_after s before) same makes) (subst (λ s. reply_of s before ≡ reply.Won) same won.won) in
        let in_layout : Exchanged d.layout.pages WeakTurn won.found (v.epoch + 1) before after =
        subst (λ (l : Layout). Exchanged l.pages WeakTurn won.found (v.epoch + 1) before after) own.layout it in
        let in_epoch : Exchanged d.layout.pages WeakTurn won.found (d.epoch + 1) before after =
        subst (λ e. Exchanged d.layout.pages WeakTurn won.found (e + 1) before after) own.epoch in_layout in
        inr (record {
          traced = traced;
          walk = v;
          walks = refl;
          turn = won.found;
          takes = won.takes;
          earlier = subst (λ e. won.found < e + 1) own.epoch won.earlier;
          was = in_epoch.was;
          is = in_epoch.is;
          others = in_epoch.others;
        })

has_turn : (d : Round) (traced : ℕ) (v : Walking) (o : Option Step) (before : List ℕ) → HasRoundTurn (after_step duty_machine (at_stage d (Walks traced v)) o before).stage
    → HasTurn (after_step walk_machine v o before).stage
has_turn d traced v None before has = has
has_turn d traced v (Some step) before has = let later : Walking = after_step walk_machine v (Some step) before in went_turn traced later later.stage has

-- a walk that passes all cells with a step had the turn before
not_passed : (v : Walking) (r : Reply) → WalkWins v r → walk_replies.told (walk_replies.taken v r).stage ≡ Finished Passed → ⊥
not_passed v r won is =
    let taking : walk_replies.told (walk_replies.stage_after v.layout v.epoch (walk_stage.TakesTurn won.found) r) ≡ Finished Passed =
    subst (λ x. walk_replies.told (walk_replies.stage_after v.layout v.epoch x r) ≡ Finished Passed) won.takes is in
    let e : walk_replies.told walk_stage.LoadsWeak ≡ Finished Passed =
    subst (λ s. walk_replies.told (walk_replies.stage_after v.layout v.epoch (walk_stage.TakesTurn won.found) s) ≡ Finished Passed) won.won taking in
    cc

had_turn : (v : Walking) (o : Option Step) (before : List ℕ) → IsSound v → walk_replies.told (after_step walk_machine v o before).stage ≡ Finished Passed → HasTurn v.stage
had_turn v None before sound is = passed_turn v.stage is
had_turn v (Some step) before sound is =
    ⊎_elim (λ (had : HasTurn v.stage). had) (λ (won : WalkWins v (reply_of step before)). absurd (not_passed v (reply_of step before) won is))
    (turns_are_won v (reply_of step before) sound (passed_turn (walk_replies.taken v (reply_of step before)).stage is))

-- ---- all

-- the stages whose next step leads to no turn
abbrev IsBefore : DutyStage → Type 0
IsBefore (Walks traced v) = ⊥
IsBefore (Ended result) = ⊥
IsBefore stage = Unit {0}

none : (d : Round) (stage : DutyStage) (before : List ℕ) → IsBefore stage → IsTurnless (after_next_step duty_machine (at_stage d stage) before).stage
none d LoadsGate before is = by_gate (at_stage d LoadsGate) (word_of_row d Gate before) (decode_gate (word_of_row d Gate before))
none d (LoadsTraced hindrance) before is = by_traced (at_stage d (LoadsTraced hindrance)) hindrance (word_of_row d Traced before)
none d (LoadsWanted seen page) before is =
    let loaded : ℕ = word_of_row d (Page page) before in by_wanted (at_stage d (LoadsWanted seen page)) seen page loaded (decode_page loaded)
none d (LoadsFrontFor seen w) before is = by_front_for (at_stage d (LoadsFrontFor seen w)) seen w (decode_area (word_of_row d (Area (to_space d.epoch)) before))
none d (LoadsFront seen) before is = by_front (at_stage d (LoadsFront seen)) seen (decode_area (word_of_row d (Area (to_space d.epoch)) before))
none d (LoadsPage choice page) before is =
    let loaded : ℕ = word_of_row d (Page page) before in by_page (at_stage d (LoadsPage choice page)) choice page loaded (decode_page loaded)
none d (Claims c) before is = by_claim d c (claim.wanted c) before
none d (EndGate traced) before is = let loaded : ℕ = word_of_row d Gate before in by_end_gate (at_stage d (EndGate traced)) traced loaded (decode_gate loaded)
none d (EndArea traced) before is = by_end_area (at_stage d (EndArea traced)) traced (decode_area (word_of_row d (Area (to_space d.epoch)) before))
none d (EndPage look page) before is = by_end_page (at_stage d (EndPage look page)) look page (word_of_row d (Page page) before)
none d (EndFilling look) before is =
    let loaded : ℕ = word_of_row d (Page (page_of look.front)) before in by_filling (at_stage d (EndFilling look)) look loaded (decode_page loaded)
none d (EndAreaAgain look filling) before is =
    let loaded : ℕ = word_of_row d (Area (to_space d.epoch)) before in by_end_area_again (at_stage d (EndAreaAgain look filling)) look filling loaded (decode_area loaded)
none d (Traces traced) before is = by_mark d traced _ (word_of_row d Traced before)
none d (Walks traced v) before is = absurd is
none d (Ended result) before is = absurd is

pub passes_cells : (d : Round) (stage : DutyStage) (before after : List ℕ) (traced : ℕ) → IsSoundRound (at_stage d stage)
    → MakesStep duty_machine (at_stage d stage) before after More → (after_next_step duty_machine (at_stage d stage) before).stage ≡ Traces traced
    → PassesCells (at_stage d stage) traced before after
passes_cells d (Walks kept v) before after traced sound acts is =
    let own = sound.stage.1 in
    let passed = walk_passed d kept v (walk.wanted v) before traced is in
    record {
      walk = v;
      walks = ap (λ t. Walks t v) passed.1;
      own = own;
      turn = had_turn v (walk.wanted v) before own.sound passed.0;
      passes = record { has_step = acts.has_step; makes = acts.makes; tells = passed.0 };
    }
passes_cells d (Ended result) before after traced sound acts is = absurd (no_step acts.has_step)
passes_cells d stage before after traced sound acts is = absurd (no_mark _ traced (none d stage before tt) is)

pub turn_is_won : (d : Round) (stage : DutyStage) (before after : List ℕ) → IsSoundRound (at_stage d stage) → HoldsTable d.layout.pages before
    → MakesStep duty_machine (at_stage d stage) before after More → HasRoundTurn (after_next_step duty_machine (at_stage d stage) before).stage
    → HasRoundTurn stage ⊎ WinsTurn (at_stage d stage) before after
turn_is_won d (Walks traced v) before after sound whole acts has =
    turn_from d traced v (walk.wanted v) before after refl sound.stage.1 whole acts.makes (has_turn d traced v (walk.wanted v) before has)
turn_is_won d (Traces traced) before after sound whole acts has = inl tt
turn_is_won d (Ended result) before after sound whole acts has = absurd (no_step acts.has_step)
turn_is_won d stage before after sound whole acts has = absurd (no_turn _ (none d stage before tt) has)
