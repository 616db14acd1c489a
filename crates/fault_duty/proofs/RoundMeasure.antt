-- What a round has left goes down with each reply that takes it on.
use Rattle.std.proofs.Common.{◌≡◌, ◌≢◌, ℕ, ◌+◌, ◌-◌, ◌*◌, ◌%◌, ◌<◌, ◌≤◌, Bool, true, false, cond, IsTrue, ◌&&◌, Option, Some, None, arith, refl, nat_eq}
use Rattle.std.specs.Prelude.{is_some}
use Rattle.std.proofs.Math.Nat.{mul-le-mul_left}
use Rattle.std.proofs.lemmas.Bool.Decides.{nat_tests}
use Rattle.std.proofs.lemmas.Bool.{ne_eqb}
use Rattle.atom_store.specs.declared.reply.Reply.{Reply}
use Rattle.atom_store.specs.declared.reply.Reply.TheVariants.{Value, Won, Lost}
use Rattle.atom_store.specs.declared.turn.Turn.{Turn}
use Rattle.atom_store.specs.declared.turn.Turn.TheVariants.{More, Finished}
use Rattle.space_map.specs.declared.area_word.AreaWord.{AreaWord}
use Rattle.space_map.specs.declared.gate_word.GateWord.{GateWord}
use Rattle.space_map.specs.declared.page_word.PageWord.{PageWord}
use Rattle.space_map.specs.AreaWord.{decode_area}
use Rattle.space_map.specs.GateWord.{decode_gate}
use Rattle.space_map.specs.PageWord.{decode_page}
use Rattle.space_map.specs.Spaces.{IsPageCount, board_page}
use Rattle.page_slots.specs.Claim.{Claiming}
use Rattle.page_slots.specs.Claim as claim
use Rattle.page_slots.specs.declared.claimed.Claimed.{Claimed}
use Rattle.page_slots.proofs.ClaimsLeft as claims_left
use Rattle.cell_walk.specs.declared.walk_end.WalkEnd.{WalkEnd}
use Rattle.cell_walk.specs.declared.walk_end.WalkEnd.TheVariants.{Passed, Another}
use Rattle.cell_walk.specs.Left as walk_steps
use Rattle.cell_walk.specs.Taken as walk_replies
use Rattle.cell_walk.specs.Walking.{Walking}
use Rattle.cell_walk.proofs.WalkGoesOn as walk_falls
use Rattle.fault_duty.specs.declared.caller.Caller.{Caller}
use Rattle.fault_duty.specs.declared.caller.Caller.TheVariants.{Faulted, Allocates, Scans}
use Rattle.fault_duty.specs.declared.findings.Findings.{Findings}
use Rattle.fault_duty.specs.declared.choice.Choice.{Choice}
use Rattle.fault_duty.specs.declared.end_look.EndLook.{EndLook}
use Rattle.fault_duty.specs.declared.wanted_page.WantedPage.{WantedPage}
use Rattle.fault_duty.specs.declared.page_state.PageState.{PageState}
use Rattle.fault_duty.specs.declared.page_state.PageState.TheVariants.{Opened, Scanned, Waits, Past}
use Rattle.fault_duty.specs.declared.duty_stage.DutyStage.{DutyStage}
use Rattle.fault_duty.specs.declared.duty_stage.DutyStage.TheVariants.{LoadsGate, LoadsTraced, LoadsWanted, LoadsFrontFor, LoadsFront, LoadsPage, Claims, EndGate, EndArea, EndPage, EndFilling, EndAreaAgain, Walks, Traces, Ended}
use Rattle.fault_duty.specs.Duty
use Rattle.fault_duty.specs.Duty.{Round, left, left_at, taken, taken_at, advances, advances_at}
use Rattle.fault_duty.specs.Soundness.{IsChoice, IsOwnClaim, IsOwnWalk, FitsDutyStage, IsSoundRound}

-- what a test chooses has a property if either choice has it where it is made
pub by_test : {A : Type 0} (P : A → Type 0) (b : Bool) (x y : A) → (b ≡ true → P x) → (b ≡ false → P y) → P (cond b x y)
by_test P true x y then otherwise = then refl
by_test P false x y then otherwise = otherwise refl

-- ---- by the word that was loaded

by_mutator : (d : Round) (word : ℕ) (gate : GateWord) → left (Duty.mutator_at_gate d word gate) < 2 * d.layout.pages + (claim.longest + 6) + Duty.walk_left d
by_mutator d word gate =
    by_test (λ (s : DutyStage). left_at d s < 2 * d.layout.pages + (claim.longest + 6) + Duty.walk_left d) (nat_eq gate.epoch d.epoch) (LoadsTraced (Duty.hindrance_in word gate)) (Ended _)
    (λ _. omega arith) (λ _. omega arith)

by_scanner : (d : Round) (mutators word : ℕ) (gate : GateWord) → left (Duty.scanner_at_gate d mutators word gate) < 2 * d.layout.pages + (claim.longest + 6) + Duty.walk_left d
by_scanner d mutators word gate =
    by_test (λ (e : Round). left e < 2 * d.layout.pages + (claim.longest + 6) + Duty.walk_left d) (nat_eq gate.left mutators) _ _ (λ _. omega arith) (λ _. omega arith)

by_caller : (d : Round) (caller : Caller) (word : ℕ) (gate : GateWord) → left (Duty.looked_by_gate d caller word gate) < 2 * d.layout.pages + (claim.longest + 6) + Duty.walk_left d
by_caller d (Faulted page) word gate = by_mutator d word gate
by_caller d Allocates word gate = by_mutator d word gate
by_caller d (Scans mutators) word gate = by_scanner d mutators word gate

by_gate : (d : Round) (word : ℕ) (o : Option GateWord) → IsTrue (is_some o) → left (Duty.looked_at_gate d word o) < 2 * d.layout.pages + (claim.longest + 6) + Duty.walk_left d
by_gate d word (Some gate) t = by_caller d d.caller word gate
by_gate d word None t = cc

first_look-le : (d : Round) (caller : Caller) (seen : Findings) → left_at d (Duty.first_look caller seen) ≤ 2 * d.layout.pages + (claim.longest + 4) + Duty.walk_left d
first_look-le d (Faulted _) seen = omega arith
first_look-le d _ seen = omega arith

by_traced : (d : Round) (hindrance : Option ℕ) (word : ℕ) → left_at d (Duty.looked_at_traced d hindrance word) < 2 * d.layout.pages + (claim.longest + 5) + Duty.walk_left d
by_traced d hindrance word =
    by_test (λ (s : DutyStage). left_at d s < 2 * d.layout.pages + (claim.longest + 5) + Duty.walk_left d) (nat_eq word (d.epoch + 1)) (Ended _) (Duty.first_look d.caller _) (λ _. omega arith)
    (λ _. let first = first_look-le d d.caller (record { traced = word; hindrance = hindrance }) in omega (arith, first))

-- a claim has no more steps than the longest
pub first_stage-le : (n page : ℕ) (in_place : Bool) → claim.left_at (claim.first_stage n page in_place) ≤ claim.longest
first_stage-le n page true = omega arith
first_stage-le n page false = by_test (λ s. claim.left_at s ≤ claim.longest) (nat_eq page (board_page n)) _ _ (λ _. omega arith) (λ _. omega arith)

claimed_by-le : (d : Round) (page : ℕ) (says : PageWord) (in_place : Bool) (state : PageState) → left_at d (Duty.claim_by_state d page says in_place state) ≤ claim.longest
claimed_by-le d page says in_place Waits = first_stage-le d.layout.pages page in_place
claimed_by-le d page says in_place _ = omega arith

wanted_one-le : (d : Round) (seen : Findings) (w : WantedPage) → left_at d (Duty.wanted_one d seen w) ≤ 2 * d.layout.pages + (claim.longest + 3) + Duty.walk_left d
wanted_one-le d seen w =
    by_test (λ (s : DutyStage). left_at d s ≤ 2 * d.layout.pages + (claim.longest + 3) + Duty.walk_left d) (nat_eq w.page (board_page d.layout.pages)) (Duty.claim_by_state d w.page w.says false _) (LoadsFrontFor seen w)
    (λ _. let claim = claimed_by-le d w.page w.says false (Duty.state_of w.says d.epoch) in omega (arith, claim)) (λ _. omega arith)

by_wanted_state : (d : Round) (seen : Findings) (page word : ℕ) (says : PageWord) (state : PageState)
    → left_at d (Duty.wanted_by d seen page word says state) < 2 * d.layout.pages + (claim.longest + 4) + Duty.walk_left d
by_wanted_state d seen page word says Opened = omega arith
by_wanted_state d seen page word says Scanned = omega arith
by_wanted_state d seen page word says Waits = let one = wanted_one-le d seen (record { page = page; says = says }) in omega (arith, one)
by_wanted_state d seen page word says Past = let one = wanted_one-le d seen (record { page = page; says = says }) in omega (arith, one)

by_wanted : (d : Round) (seen : Findings) (page word : ℕ) (o : Option PageWord) → IsTrue (is_some o)
    → left_at d (Duty.looked_at_wanted d seen page word o) < 2 * d.layout.pages + (claim.longest + 4) + Duty.walk_left d
by_wanted d seen page word (Some says) t = by_wanted_state d seen page word says (Duty.state_of says d.epoch)
by_wanted d seen page word None t = cc

by_front_for : (d : Round) (seen : Findings) (w : WantedPage) (o : Option AreaWord) → IsTrue (is_some o)
    → left_at d (Duty.found_front_for d seen w o) < 2 * d.layout.pages + (claim.longest + 3) + Duty.walk_left d
by_front_for d seen w (Some area) t =
    by_test (λ (s : DutyStage). left_at d s < 2 * d.layout.pages + (claim.longest + 3) + Duty.walk_left d) (Duty.is_full (Duty.front_of d area) w.page) (Duty.claim_by_state d w.page w.says false _) (LoadsFront seen)
    (λ _. let claim = claimed_by-le d w.page w.says false (Duty.state_of w.says d.epoch) in omega (arith, claim)) (λ _. omega arith)
by_front_for d seen w None t = cc

board_tested : (n : ℕ) → nat_eq (board_page n) (board_page n) ≡ true
board_tested n = grind (arith, nat_tests)

by_front : (d : Round) (seen : Findings) (o : Option AreaWord) → IsTrue (is_some o) → left_at d (Duty.found_front d seen o) < 2 * d.layout.pages + (claim.longest + 2) + Duty.walk_left d
by_front d seen (Some area) t = rw (board_tested d.layout.pages) (omega arith)
by_front d seen None t = cc

-- ---- from page to page

-- the space begins at the first word of a page, and lies below the board
pub to_start-le : (d : Round) → Duty.to_start d ≤ 64 * d.layout.pages
to_start-le d =
    let below : d.layout.pages * (d.epoch % 2) ≤ d.layout.pages * 1 = mul-le-mul_left d.layout.pages (let rest : d.epoch % 2 < 2 = omega arith in omega arith) in
    omega (arith, below)

pub to_start-to_page : (d : Round) → Duty.to_start d ≡ 64 * Duty.to_page d
to_start-to_page d = omega arith

pages_left-other : (d : Round) (page : ℕ) → page ≢ board_page d.layout.pages → Duty.pages_left d page ≡ Duty.to_page d + d.layout.pages - page
pages_left-other d page apart = rw (ne_eqb page (board_page d.layout.pages) apart) refl

full_le : (front page : ℕ) → Duty.is_full front page ≡ true → 64 * (page + 1) ≤ front
full_le front page full = grind (arith, nat_tests)

-- a page of the choice is one of those that are left
pages_left-gt : (d : Round) (front page : ℕ) → IsChoice d front page → 0 < Duty.pages_left d page
pages_left-gt d front page choice =
    by_test (λ (left : ℕ). 0 < left) (nat_eq page (board_page d.layout.pages)) _ _ (λ _. omega arith)
    (λ test. let apart : page ≢ board_page d.layout.pages = grind (arith, nat_tests) in
    let full = choice.full apart in let high = choice.at.high in let start = to_start-to_page d in omega arith)

further_by : (d : Round) (front page : ℕ) (b : Bool) → nat_eq page (board_page d.layout.pages) ≡ b → IsPageCount d.layout.pages → IsChoice d front page
    → Duty.is_full front (Duty.page_after d page) ≡ true → Duty.pages_left d (Duty.page_after d page) < Duty.pages_left d page
further_by d front page true test few choice full =
    let low = to_start-le d in
    let start = to_start-to_page d in
    let next : Duty.page_after d page ≡ Duty.to_page d = rw test refl in
    let apart : Duty.to_page d ≢ board_page d.layout.pages = omega arith in
    let there = pages_left-other d (Duty.to_page d) apart in
    let here : Duty.pages_left d page ≡ d.layout.pages + 1 = rw test refl in
    rw (next, there, here) (omega arith)
further_by d front page false test few choice full =
    let low = to_start-le d in
    let start = to_start-to_page d in
    let high = choice.at.high in
    let other : page ≢ board_page d.layout.pages = grind (arith, nat_tests) in
    let this_full = choice.full other in
    let next : Duty.page_after d page ≡ page + 1 = rw test refl in
    let fits : 64 * (page + 1 + 1) ≤ front = full_le front (page + 1) (rw next at full) in
    let apart : page + 1 ≢ board_page d.layout.pages = omega arith in
    let there = pages_left-other d (page + 1) apart in
    let here = pages_left-other d page other in
    rw (next, there, here) (omega arith)

-- after it fewer are left, if the next is full
further : (d : Round) (front page : ℕ) → IsPageCount d.layout.pages → IsChoice d front page → Duty.is_full front (Duty.page_after d page) ≡ true
    → Duty.pages_left d (Duty.page_after d page) < Duty.pages_left d page
further d front page few choice full = further_by d front page (nat_eq page (board_page d.layout.pages)) refl few choice full

after_choice-le : (d : Round) (seen : Findings) (hindrance : Option ℕ) → left_at d (Duty.after_choice seen hindrance) ≤ d.layout.pages + 6 + Duty.walk_left d
after_choice-le d seen (Some word) = omega arith
after_choice-le d seen None = omega arith

passed_by-lt : (d : Round) (choice : Choice) (page : ℕ) → IsPageCount d.layout.pages → IsChoice d choice.front page
    → left_at d (Duty.passed_page d choice page) < Duty.pages_left d page + d.layout.pages + claim.longest + Duty.walk_left d
passed_by-lt d choice page few fits =
    by_test (λ (s : DutyStage). left_at d s < Duty.pages_left d page + d.layout.pages + claim.longest + Duty.walk_left d) (Duty.is_full choice.front (Duty.page_after d page))
    (LoadsPage choice (Duty.page_after d page)) (Duty.after_choice choice.seen choice.seen.hindrance)
    (λ full. let fewer = further d choice.front page few fits full in omega (arith, fewer))
    (λ _. let after = after_choice-le d choice.seen choice.seen.hindrance in omega (arith, after))

by_page_state : (d : Round) (choice : Choice) (page word : ℕ) (says : PageWord) (state : PageState) → IsPageCount d.layout.pages
    → IsChoice d choice.front page → left_at d (Duty.chosen_by d choice page word says state) < Duty.pages_left d page + d.layout.pages + claim.longest + Duty.walk_left d
by_page_state d choice page word says Opened few fits = passed_by-lt d choice page few fits
by_page_state d choice page word says Scanned few fits = passed_by-lt d (Duty.hindered choice word) page few fits
by_page_state d choice page word says Waits few fits =
    let claim = first_stage-le d.layout.pages page false in let some = pages_left-gt d choice.front page fits in omega (arith, claim, some)
by_page_state d choice page word says Past few fits = omega arith

by_page : (d : Round) (choice : Choice) (page word : ℕ) (o : Option PageWord) → IsPageCount d.layout.pages → IsChoice d choice.front page
    → IsTrue (is_some o) → left_at d (Duty.looked_at_page d choice page word o) < Duty.pages_left d page + d.layout.pages + claim.longest + Duty.walk_left d
by_page d choice page word (Some says) few fits t = by_page_state d choice page word says (Duty.state_of says d.epoch) few fits
by_page d choice page word None few fits t = cc

-- ---- the claim

claim_went-le : (d : Round) (c : Claiming) (turn : Turn Claimed) → left_at d (Duty.claim_went c turn) ≤ claim.left c
claim_went-le d c More = omega arith
claim_went-le d c (Finished result) = omega arith

by_claim : (d : Round) (c : Claiming) (r : Reply) → IsOwnClaim d c → IsTrue (claim.advances c r)
    → left_at d (Duty.claim_went (claim.taken c r) (claim.told (claim.taken c r))) < claim.left c
by_claim d c r own t =
    let fewer = claims_left.lowers c c.stage r own.sound.stage t in
    let went = claim_went-le d (claim.taken c r) (claim.told (claim.taken c r)) in
    omega (arith, fewer, went)

-- ---- the end of the area

by_end_gate : (d : Round) (traced word : ℕ) (o : Option GateWord) → IsTrue (is_some o) → left_at d (Duty.ended_gate d traced word o) < d.layout.pages + 6 + Duty.walk_left d
by_end_gate d traced word (Some gate) t =
    by_test (λ (s : DutyStage). left_at d s < d.layout.pages + 6 + Duty.walk_left d) (nat_eq gate.epoch d.epoch && nat_eq gate.behind 0) (EndArea traced) (Ended _) (λ _. omega arith)
    (λ _. omega arith)
by_end_gate d traced word None t = cc

by_end_area : (d : Round) (traced : ℕ) (o : Option AreaWord) → IsTrue (is_some o) → left_at d (Duty.ended_area d traced o) < d.layout.pages + 5 + Duty.walk_left d
by_end_area d traced (Some area) t = rw (board_tested d.layout.pages) (omega arith)
by_end_area d traced None t = cc

after_pages-le : (d : Round) (look : EndLook) → left_at d (Duty.after_pages d look) ≤ 3 + Duty.walk_left d
after_pages-le d look =
    by_test (λ (s : DutyStage). left_at d s ≤ 3 + Duty.walk_left d) (nat_eq (look.front % 64) 0) (EndAreaAgain look _) (EndFilling look) (λ _. omega arith) (λ _. omega arith)

by_end_page : (d : Round) (look : EndLook) (page word : ℕ) → IsPageCount d.layout.pages → IsChoice d look.front page
    → left_at d (Duty.ended_page d look page word) < Duty.pages_left d page + 3 + Duty.walk_left d
by_end_page d look page word few fits =
    let some = pages_left-gt d look.front page fits in
    let P : DutyStage → Type 0 = λ s. left_at d s < Duty.pages_left d page + 3 + Duty.walk_left d in
    by_test P (nat_eq word _) _ (Ended _)
    (λ _. by_test P (Duty.is_full look.front (Duty.page_after d page)) (EndPage look (Duty.page_after d page)) (Duty.after_pages d look)
    (λ full. let fewer = further d look.front page few fits full in omega (arith, fewer))
    (λ _. let after = after_pages-le d look in omega (arith, after, some)))
    (λ _. omega (arith, some))

by_filling_state : (d : Round) (look : EndLook) (word : ℕ) (says : PageWord) (state : PageState) → left_at d (Duty.filling_by look word says state) < 3 + Duty.walk_left d
by_filling_state d look word says Scanned = omega arith
by_filling_state d look word says _ = omega arith

by_filling : (d : Round) (look : EndLook) (word : ℕ) (o : Option PageWord) → IsTrue (is_some o) → left_at d (Duty.looked_at_filling d look word o) < 3 + Duty.walk_left d
by_filling d look word (Some says) t = by_filling_state d look word says (Duty.state_of says d.epoch)
by_filling d look word None t = cc

by_end_state : (d : Round) (look : EndLook) (filling : PageWord) (state : PageState) → left_at d (Duty.ends_by d look filling state) < 2 + Duty.walk_left d
by_end_state d look filling Opened = omega arith
by_end_state d look filling _ = omega arith

by_end_area_again : (d : Round) (look : EndLook) (filling : PageWord) (word : ℕ) (o : Option AreaWord) → IsTrue (is_some o)
    → left_at d (Duty.ended_area_again d look filling word o) < 2 + Duty.walk_left d
by_end_area_again d look filling word (Some area) t =
    by_test (λ (s : DutyStage). left_at d s < 2 + Duty.walk_left d) (nat_eq (Duty.front_of d area) look.front) (Duty.ends_by d look filling _) (Ended _)
    (λ _. by_end_state d look filling (Duty.state_of filling d.epoch)) (λ _. omega arith)
by_end_area_again d look filling word None t = cc

-- ---- the walk

walk_went-le : (d : Round) (traced : ℕ) (v : Walking) (turn : Turn WalkEnd) → left_at d (Duty.walk_went traced v turn) ≤ walk_steps.left v + 1
walk_went-le d traced v More = omega arith
walk_went-le d traced v (Finished Passed) = omega arith
walk_went-le d traced v (Finished (Another word)) = omega arith

by_walk : (d : Round) (traced : ℕ) (v : Walking) (r : Reply) → IsOwnWalk d v → IsTrue (walk_steps.advances v.stage r)
    → left_at d (Duty.walk_went traced (walk_replies.taken v r) (walk_replies.told (walk_replies.taken v r).stage)) < walk_steps.left v + 1
by_walk d traced v r own t =
    let fewer = (walk_falls.falls v.layout v.epoch v.stage r (walk_falls.counted v.layout v.epoch v.stage own.sound.fits) t).0 in
    let went = walk_went-le d traced (walk_replies.taken v r) (walk_replies.told (walk_replies.taken v r).stage) in
    omega (arith, fewer, went)

-- ---- all

pub lowers : (d : Round) (stage : DutyStage) (r : Reply) → IsPageCount d.layout.pages → FitsDutyStage d stage
    → IsTrue (advances_at stage r) → left (taken_at d stage r) < left_at d stage
lowers d LoadsGate (Value word) few fits t = by_gate d word (decode_gate word) t
lowers d (LoadsTraced hindrance) (Value word) few fits t = by_traced d hindrance word
lowers d (LoadsWanted seen page) (Value word) few fits t = by_wanted d seen page word (decode_page word) t
lowers d (LoadsFrontFor seen w) (Value word) few fits t = by_front_for d seen w (decode_area word) t
lowers d (LoadsFront seen) (Value word) few fits t = by_front d seen (decode_area word) t
lowers d (LoadsPage choice page) (Value word) few fits t = by_page d choice page word (decode_page word) few fits.1 t
lowers d (Claims c) r few fits t = by_claim d c r fits t
lowers d (EndGate traced) (Value word) few fits t = by_end_gate d traced word (decode_gate word) t
lowers d (EndArea traced) (Value word) few fits t = by_end_area d traced (decode_area word) t
lowers d (EndPage look page) (Value word) few fits t = by_end_page d look page word few fits.1
lowers d (EndFilling look) (Value word) few fits t = by_filling d look word (decode_page word) t
lowers d (EndAreaAgain look filling) (Value word) few fits t = by_end_area_again d look filling word (decode_area word) t
lowers d (Walks traced v) r few fits t = by_walk d traced v r fits.1 t
lowers d (Traces traced) Won few fits t = omega arith
lowers d (Traces traced) (Lost word) few fits t = omega arith
lowers d stage r few fits t = cc

pub left-taken : (d after : Round) (r : Reply) → IsSoundRound d → after ≡ taken d r → IsTrue (advances d r) → left after < left d
left-taken d after r sound is t = rw is (lowers d d.stage r sound.pages sound.stage t)
