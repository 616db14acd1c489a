-- Which page a round claims, by what it was about to do.
use Rattle.std.proofs.Common.{◌≡◌, ℕ, ◌+◌, ◌%◌, ◌≤◌, Bool, true, false, cond, ◌&&◌, nat_eq, List, Option, Some, None, arith, refl}
use Rattle.std.proofs.lemmas.Bool.Decides.{nat_tests}
use Rattle.atom_store.specs.declared.reply.Reply.TheVariants as reply
use Rattle.atom_store.specs.declared.step.Step.{Step}
use Rattle.atom_store.specs.declared.turn.Turn.{Turn}
use Rattle.atom_store.specs.declared.turn.Turn.TheVariants.{More, Finished}
use Rattle.atom_store.specs.Acts.{MakesStep, after_next_step}
use Rattle.atom_store.specs.Runs.{after_step}
use Rattle.space_map.specs.declared.area_word.AreaWord.{AreaWord}
use Rattle.space_map.specs.declared.gate_word.GateWord.{GateWord}
use Rattle.space_map.specs.declared.page_word.PageWord.{PageWord}
use Rattle.space_map.specs.declared.page_word.PageWord.TheVariants as page_word
use Rattle.space_map.specs.AreaWord.{decode_area}
use Rattle.space_map.specs.GateWord.{decode_gate}
use Rattle.space_map.specs.PageWord.{encode_page, decode_page}
use Rattle.space_map.specs.Spaces.{to_space, page_of, board_page, first_word}
use Rattle.space_map.specs.Table.{Gate, Traced, Area, Page}
use Rattle.page_slots.specs.declared.claimed.Claimed.{Claimed}
use Rattle.page_slots.specs.Claim.{Claiming, begun, claim_machine}
use Rattle.page_slots.specs.Claim as claim
use Rattle.cell_walk.specs.declared.walk_end.WalkEnd.{WalkEnd}
use Rattle.cell_walk.specs.declared.walk_end.WalkEnd.TheVariants.{Passed, Another}
use Rattle.cell_walk.specs.Taken.{walk_machine}
use Rattle.cell_walk.specs.Taken as walk_replies
use Rattle.cell_walk.specs.Walking.{Walking}
use Rattle.cell_walk.specs.Walking as walk
use Rattle.fault_duty.specs.declared.caller.Caller.{Caller}
use Rattle.fault_duty.specs.declared.caller.Caller.TheVariants.{Faulted, Allocates, Scans}
use Rattle.fault_duty.specs.declared.findings.Findings.{Findings}
use Rattle.fault_duty.specs.declared.choice.Choice.{Choice}
use Rattle.fault_duty.specs.declared.end_look.EndLook.{EndLook}
use Rattle.fault_duty.specs.declared.wanted_page.WantedPage.{WantedPage}
use Rattle.fault_duty.specs.declared.page_state.PageState.{PageState}
use Rattle.fault_duty.specs.declared.page_state.PageState.TheVariants.{Opened, Scanned, Waits, Past}
use Rattle.fault_duty.specs.declared.round_end.RoundEnd.TheVariants as round_end
use Rattle.fault_duty.specs.declared.round_end.RoundEnd.TheVariants.{AllLeft, NothingNow}
use Rattle.fault_duty.specs.declared.duty_stage.DutyStage.{DutyStage}
use Rattle.fault_duty.specs.declared.duty_stage.DutyStage.TheVariants.{LoadsGate, LoadsTraced, LoadsWanted, LoadsFrontFor, LoadsFront, LoadsPage, Claims, EndGate, EndArea, EndPage, EndFilling, EndAreaAgain, Walks, Traces, Ended}
use Rattle.fault_duty.specs.Duty
use Rattle.fault_duty.specs.Duty.{Round, at_stage, duty_machine, taken_at}
use Rattle.fault_duty.specs.Soundness.{IsSoundRound}
use Rattle.fault_duty.specs.Theorems.{word_of_row, ClaimsBoard, ClaimsWanted, ClaimsFilling, ClaimsFor}

-- ---- stages that lead to no claim

gate_never : (d : Round) (caller : Caller) (loaded : ℕ) (g : GateWord) (c : Claiming) → (Duty.looked_by_gate d caller loaded g).stage ≡ Claims c → ⊥
gate_never d (Faulted page) loaded g c is = by_test (nat_eq g.epoch d.epoch) is
  where
    by_test : (b : Bool) → cond b (LoadsTraced (Duty.hindrance_in loaded g)) (Ended (NothingNow loaded)) ≡ Claims c → ⊥
    by_test true e = cc
    by_test false e = cc
gate_never d Allocates loaded g c is = by_test (nat_eq g.epoch d.epoch) is
  where
    by_test : (b : Bool) → cond b (LoadsTraced (Duty.hindrance_in loaded g)) (Ended (NothingNow loaded)) ≡ Claims c → ⊥
    by_test true e = cc
    by_test false e = cc
gate_never d (Scans mutators) loaded g c is = by_test (nat_eq g.left mutators) is
  where
    by_test : (b : Bool) → (cond b (at_stage d (Ended (AllLeft loaded))) (record d { epoch = g.epoch; stage = LoadsTraced (Duty.hindrance_in loaded g) })).stage ≡ Claims c → ⊥
    by_test true e = cc
    by_test false e = cc

at_gate_never : (d : Round) (loaded : ℕ) (o : Option GateWord) (c : Claiming) → (Duty.looked_at_gate d loaded o).stage ≡ Claims c → ⊥
at_gate_never d loaded (Some g) c is = gate_never d d.caller loaded g c is
at_gate_never d loaded None c is = cc

first_never : (caller : Caller) (found : Findings) (c : Claiming) → Duty.first_look caller found ≡ Claims c → ⊥
first_never (Faulted _) found c is = cc
first_never _ found c is = cc

traced_never : (d : Round) (hindrance : Option ℕ) (loaded : ℕ) (c : Claiming) → Duty.looked_at_traced d hindrance loaded ≡ Claims c → ⊥
traced_never d hindrance loaded c is = by_test (nat_eq loaded (d.epoch + 1)) is
  where
    by_test : (b : Bool) → cond b (Ended round_end.Traced) (Duty.first_look d.caller (record { traced = loaded; hindrance = hindrance })) ≡ Claims c → ⊥
    by_test true e = cc
    by_test false e = first_never d.caller (record { traced = loaded; hindrance = hindrance }) c e

front_never : (d : Round) (found : Findings) (o : Option AreaWord) (c : Claiming) → Duty.found_front d found o ≡ Claims c → ⊥
front_never d found (Some area) c is = cc
front_never d found None c is = cc

after_choice_never : (found : Findings) (hindrance : Option ℕ) (c : Claiming) → Duty.after_choice found hindrance ≡ Claims c → ⊥
after_choice_never found (Some word) c is = cc
after_choice_never found None c is = cc

passed_never : (d : Round) (choice : Choice) (page : ℕ) (c : Claiming) → Duty.passed_page d choice page ≡ Claims c → ⊥
passed_never d choice page c is = by_test (Duty.is_full choice.front (Duty.page_after d page)) is
  where
    by_test : (b : Bool) → cond b (LoadsPage choice (Duty.page_after d page)) (Duty.after_choice choice.seen choice.seen.hindrance) ≡ Claims c → ⊥
    by_test true e = cc
    by_test false e = after_choice_never choice.seen choice.seen.hindrance c e

end_gate_never : (d : Round) (traced loaded : ℕ) (o : Option GateWord) (c : Claiming) → Duty.ended_gate d traced loaded o ≡ Claims c → ⊥
end_gate_never d traced loaded (Some g) c is = by_test (nat_eq g.epoch d.epoch && nat_eq g.behind 0) is
  where
    by_test : (b : Bool) → cond b (EndArea traced) (Ended (NothingNow loaded)) ≡ Claims c → ⊥
    by_test true e = cc
    by_test false e = cc
end_gate_never d traced loaded None c is = cc

end_area_never : (d : Round) (traced : ℕ) (o : Option AreaWord) (c : Claiming) → Duty.ended_area d traced o ≡ Claims c → ⊥
end_area_never d traced (Some area) c is = cc
end_area_never d traced None c is = cc

after_pages_never : (d : Round) (look : EndLook) (c : Claiming) → Duty.after_pages d look ≡ Claims c → ⊥
after_pages_never d look c is = by_test (nat_eq (look.front % 64) 0) is
  where
    by_test : (b : Bool) → cond b (EndAreaAgain look (page_word.Open d.epoch)) (EndFilling look) ≡ Claims c → ⊥
    by_test true e = cc
    by_test false e = cc

end_page_never : (d : Round) (look : EndLook) (page loaded : ℕ) (c : Claiming) → Duty.ended_page d look page loaded ≡ Claims c → ⊥
end_page_never d look page loaded c is = by_test (nat_eq loaded (encode_page (page_word.Open d.epoch))) is
  where
    by_full : (b : Bool) → cond b (EndPage look (Duty.page_after d page)) (Duty.after_pages d look) ≡ Claims c → ⊥
    by_full true e = cc
    by_full false e = after_pages_never d look c e

    by_test : (b : Bool) → cond b (cond (Duty.is_full look.front (Duty.page_after d page)) (EndPage look (Duty.page_after d page)) (Duty.after_pages d look)) (Ended (NothingNow loaded)) ≡ Claims c → ⊥
    by_test true e = by_full (Duty.is_full look.front (Duty.page_after d page)) e
    by_test false e = cc

filling_by_never : (look : EndLook) (loaded : ℕ) (says : PageWord) (state : PageState) (c : Claiming) → Duty.filling_by look loaded says state ≡ Claims c → ⊥
filling_by_never look loaded says Scanned c is = cc
filling_by_never look loaded says _ c is = cc

filling_never : (d : Round) (look : EndLook) (loaded : ℕ) (o : Option PageWord) (c : Claiming) → Duty.looked_at_filling d look loaded o ≡ Claims c → ⊥
filling_never d look loaded (Some says) c is = filling_by_never look loaded says (Duty.state_of says d.epoch) c is
filling_never d look loaded None c is = cc

walk_went_never : (traced : ℕ) (v : Walking) (turn : Turn WalkEnd) (c : Claiming) → Duty.walk_went traced v turn ≡ Claims c → ⊥
walk_went_never traced v More c is = cc
walk_went_never traced v (Finished Passed) c is = cc
walk_went_never traced v (Finished (Another word)) c is = cc

walk_never : (d : Round) (traced : ℕ) (v : Walking) (o : Option Step) (before : List ℕ) (c : Claiming)
    → (after_step duty_machine (at_stage d (Walks traced v)) o before).stage ≡ Claims c → ⊥
walk_never d traced v None before c is = cc
walk_never d traced v (Some step) before c is =
    let next : Walking = after_step walk_machine v (Some step) before in walk_went_never traced next (walk_replies.told next.stage) c is

trace_never : (d : Round) (traced : ℕ) (b : Bool) (found : ℕ) (c : Claiming)
    → (taken_at (at_stage d (Traces traced)) (Traces traced) (cond b reply.Won (reply.Lost found))).stage ≡ Claims c → ⊥
trace_never d traced true found c is = cc
trace_never d traced false found c is = cc

-- ---- stages that do

same_claim : (a b : Claiming) → Claims a ≡ Claims b → b ≡ a
same_claim a b same = cc

claimed_is : (d : Round) (page : ℕ) (says : PageWord) (in_place : Bool) (state : PageState) (c : Claiming) → Duty.claim_by_state d page says in_place state ≡ Claims c
    → c ≡ begun d.layout page d.epoch d.worker says in_place
claimed_is d page says in_place Waits c is = same_claim (begun d.layout page d.epoch d.worker says in_place) c is
claimed_is d page says in_place _ c is = cc

one_is : (d : Round) (found : Findings) (w : WantedPage) (c : Claiming) → Duty.wanted_one d found w ≡ Claims c
    → (w.page ≡ board_page d.layout.pages) × (c ≡ begun d.layout w.page d.epoch d.worker w.says false)
one_is d found w c is = by_test (nat_eq w.page (board_page d.layout.pages)) refl is
  where
    by_test : (b : Bool) → nat_eq w.page (board_page d.layout.pages) ≡ b
        → cond b (Duty.claim_by_state d w.page w.says false (Duty.state_of w.says d.epoch)) (LoadsFrontFor found w) ≡ Claims c
        → (w.page ≡ board_page d.layout.pages) × (c ≡ begun d.layout w.page d.epoch d.worker w.says false)
    by_test true test e = (grind (arith, nat_tests), claimed_is d w.page w.says false (Duty.state_of w.says d.epoch) c e)
    by_test false test e = cc

wanted_is : (d : Round) (found : Findings) (page loaded : ℕ) (says : PageWord) (state : PageState) (c : Claiming) → Duty.wanted_by d found page loaded says state ≡ Claims c
    → (page ≡ board_page d.layout.pages) × (c ≡ begun d.layout page d.epoch d.worker says false)
wanted_is d found page loaded says Opened c is = cc
wanted_is d found page loaded says Scanned c is = cc
wanted_is d found page loaded says Waits c is = one_is d found (record { page = page; says = says }) c is
wanted_is d found page loaded says Past c is = one_is d found (record { page = page; says = says }) c is

claims_board : (d : Round) (found : Findings) (page : ℕ) (words : List ℕ) (o : Option PageWord) (c : Claiming) → decode_page (word_of_row d (Page page) words) ≡ o
    → Duty.looked_at_wanted d found page (word_of_row d (Page page) words) o ≡ Claims c → ClaimsBoard d page words c
claims_board d found page words (Some says) c read is =
    let it = wanted_is d found page (word_of_row d (Page page) words) says (Duty.state_of says d.epoch) c is in
    record { found = says; says = read; board = it.0; is = it.1 }
claims_board d found page words None c read is = cc

full_le : (front page : ℕ) → Duty.is_full front page ≡ true → first_word (page + 1) ≤ front
full_le front page full = grind (arith, nat_tests)

claims_wanted : (d : Round) (found : Findings) (w : WantedPage) (words : List ℕ) (o : Option AreaWord) (c : Claiming)
    → decode_area (word_of_row d (Area (to_space d.epoch)) words) ≡ o → Duty.found_front_for d found w o ≡ Claims c → ClaimsWanted d w words c
claims_wanted d found w words (Some area) c read is = by_test (Duty.is_full (Duty.front_of d area) w.page) refl is
  where
    by_test : (b : Bool) → Duty.is_full (Duty.front_of d area) w.page ≡ b
        → cond b (Duty.claim_by_state d w.page w.says false (Duty.state_of w.says d.epoch)) (LoadsFront found) ≡ Claims c → ClaimsWanted d w words c
    by_test true test e = record {
      area = area;
      says = read;
      full = full_le (Duty.front_of d area) w.page test;
      is = claimed_is d w.page w.says false (Duty.state_of w.says d.epoch) c e;
    }
    by_test false test e = cc
claims_wanted d found w words None c read is = cc

chosen_is : (d : Round) (choice : Choice) (page loaded : ℕ) (says : PageWord) (state : PageState) (c : Claiming) → Duty.chosen_by d choice page loaded says state ≡ Claims c
    → c ≡ begun d.layout page d.epoch d.worker says false
chosen_is d choice page loaded says Opened c is = absurd (passed_never d choice page c is)
chosen_is d choice page loaded says Scanned c is = absurd (passed_never d (Duty.hindered choice loaded) page c is)
chosen_is d choice page loaded says Waits c is = same_claim (begun d.layout page d.epoch d.worker says false) c is
chosen_is d choice page loaded says Past c is = cc

-- what the choice reads and claims
record Chosen (d : Round) (page : ℕ) (o : Option PageWord) (c : Claiming) : Type 0 where
  found : PageWord
  says : o ≡ Some found
  is : c ≡ begun d.layout page d.epoch d.worker found false

chosen : (d : Round) (choice : Choice) (page loaded : ℕ) (o : Option PageWord) (c : Claiming) → Duty.looked_at_page d choice page loaded o ≡ Claims c → Chosen d page o c
chosen d choice page loaded (Some says) c is = record { found = says; says = refl; is = chosen_is d choice page loaded says (Duty.state_of says d.epoch) c is }
chosen d choice page loaded None c is = cc

ends_is : (d : Round) (look : EndLook) (filling : PageWord) (state : PageState) (c : Claiming) → Duty.ends_by d look filling state ≡ Claims c
    → c ≡ begun d.layout (page_of look.front) d.epoch d.worker filling true
ends_is d look filling Waits c is = same_claim (begun d.layout (page_of look.front) d.epoch d.worker filling true) c is
ends_is d look filling _ c is = cc

claims_filling : (d : Round) (look : EndLook) (filling : PageWord) (words : List ℕ) (o : Option AreaWord) (c : Claiming)
    → decode_area (word_of_row d (Area (to_space d.epoch)) words) ≡ o
    → Duty.ended_area_again d look filling (word_of_row d (Area (to_space d.epoch)) words) o ≡ Claims c → ClaimsFilling d look filling words c
claims_filling d look filling words (Some area) c read is = by_test (nat_eq (Duty.front_of d area) look.front) refl is
  where
    by_test : (b : Bool) → nat_eq (Duty.front_of d area) look.front ≡ b
        → cond b (Duty.ends_by d look filling (Duty.state_of filling d.epoch)) (Ended (NothingNow (word_of_row d (Area (to_space d.epoch)) words))) ≡ Claims c
        → ClaimsFilling d look filling words c
    by_test true test e = record { area = area; says = read; stands = grind (arith, nat_tests); is = ends_is d look filling (Duty.state_of filling d.epoch) c e }
    by_test false test e = cc
claims_filling d look filling words None c read is = cc

went_on : (c next : Claiming) (turn : Turn Claimed) → Duty.claim_went c turn ≡ Claims next → next ≡ c
went_on c next More is = same_claim c next is
went_on c next (Finished result) is = cc

goes_on : (d : Round) (c next : Claiming) (o : Option Step) (before : List ℕ) → (after_step duty_machine (at_stage d (Claims c)) o before).stage ≡ Claims next
    → next ≡ after_step claim_machine c o before
goes_on d c next None before is = same_claim c next is
goes_on d c next (Some step) before is = went_on (after_step claim_machine c (Some step) before) next (claim.told (after_step claim_machine c (Some step) before)) is

-- ---- all

pub claims_for : (d : Round) (stage : DutyStage) (before : List ℕ) (c : Claiming) → IsSoundRound (at_stage d stage)
    → (after_next_step duty_machine (at_stage d stage) before).stage ≡ Claims c → ClaimsFor (at_stage d stage) stage before c
claims_for d LoadsGate before c sound is = at_gate_never (at_stage d LoadsGate) (word_of_row d Gate before) (decode_gate (word_of_row d Gate before)) c is
claims_for d (LoadsTraced hindrance) before c sound is = traced_never (at_stage d (LoadsTraced hindrance)) hindrance (word_of_row d Traced before) c is
claims_for d (LoadsWanted found page) before c sound is =
    claims_board (at_stage d (LoadsWanted found page)) found page before (decode_page (word_of_row d (Page page) before)) c refl is
claims_for d (LoadsFrontFor found w) before c sound is =
    claims_wanted (at_stage d (LoadsFrontFor found w)) found w before (decode_area (word_of_row d (Area (to_space d.epoch)) before)) c refl is
claims_for d (LoadsFront found) before c sound is =
    front_never (at_stage d (LoadsFront found)) found (decode_area (word_of_row d (Area (to_space d.epoch)) before)) c is
claims_for d (LoadsPage choice page) before c sound is =
    let loaded : ℕ = word_of_row d (Page page) before in
    let it = chosen (at_stage d (LoadsPage choice page)) choice page loaded (decode_page loaded) c is in
    record { found = it.found; says = it.says; chosen = sound.stage.1; is = it.is }
claims_for d (Claims last) before c sound is = goes_on d last c (claim.wanted last) before is
claims_for d (EndGate traced) before c sound is = end_gate_never (at_stage d (EndGate traced)) traced (word_of_row d Gate before) (decode_gate (word_of_row d Gate before)) c is
claims_for d (EndArea traced) before c sound is = end_area_never (at_stage d (EndArea traced)) traced (decode_area (word_of_row d (Area (to_space d.epoch)) before)) c is
claims_for d (EndPage look page) before c sound is = end_page_never (at_stage d (EndPage look page)) look page (word_of_row d (Page page) before) c is
claims_for d (EndFilling look) before c sound is =
    let loaded : ℕ = word_of_row d (Page (page_of look.front)) before in filling_never (at_stage d (EndFilling look)) look loaded (decode_page loaded) c is
claims_for d (EndAreaAgain look filling) before c sound is =
    claims_filling (at_stage d (EndAreaAgain look filling)) look filling before (decode_area (word_of_row d (Area (to_space d.epoch)) before)) c refl is
claims_for d (Walks traced v) before c sound is = walk_never d traced v (walk.wanted v) before c is
claims_for d (Traces traced) before c sound is = trace_never d traced _ (word_of_row d Traced before) c is
claims_for d (Ended result) before c sound is = cc

-- ---- TRACED

pub traced_told : (d : Round) (hindrance : Option ℕ) (words : List ℕ) → word_of_row d Traced words ≡ d.epoch + 1
    → MakesStep duty_machine (at_stage d (LoadsTraced hindrance)) words words (Finished round_end.Traced)
traced_told d hindrance words same =
    let test = same_test (word_of_row d Traced words) (d.epoch + 1) same in record { has_step = refl; makes = refl; tells = rw test refl }
  where
    same_test : (m n : ℕ) → m ≡ n → nat_eq m n ≡ true
    same_test m n e = grind (arith, nat_tests)
