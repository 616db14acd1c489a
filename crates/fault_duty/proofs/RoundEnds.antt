-- What a round tells, by the stage at which it tells it: which results can come there, and what they show.
use Rattle.std.proofs.Common.{◌≡◌, ◌≢◌, ℕ, ◌+◌, ◌%◌, ◌<◌, Bool, true, false, cond, ◌&&◌, nat_eq, nat_lt, ◌⊎◌, inl, inr, Option, Some, None, arith, refl, sym, ap, ◌∙◌}
use Rattle.std.proofs.lemmas.Bool.Decides.{nat_tests}
use Rattle.atom_store.specs.declared.turn.Turn.{Turn}
use Rattle.atom_store.specs.declared.turn.Turn.TheVariants.{More, Finished}
use Rattle.space_map.specs.declared.area_word.AreaWord.{AreaWord}
use Rattle.space_map.specs.declared.gate_word.GateWord.{GateWord}
use Rattle.space_map.specs.declared.page_word.PageWord.{PageWord}
use Rattle.space_map.specs.declared.page_word.PageWord.TheVariants as page_word
use Rattle.space_map.specs.PageWord.{age_of, encode_page}
use Rattle.space_map.specs.Spaces.{board_page, first_word}
use Rattle.page_slots.specs.declared.claimed.Claimed.{Claimed}
use Rattle.page_slots.specs.declared.claimed.Claimed.TheVariants as claimed
use Rattle.page_slots.specs.Claim.{Claiming}
use Rattle.cell_walk.specs.declared.walk_end.WalkEnd.{WalkEnd}
use Rattle.cell_walk.specs.declared.walk_end.WalkEnd.TheVariants as walk_end
use Rattle.cell_walk.specs.Walking.{Walking}
use Rattle.fault_duty.specs.declared.caller.Caller.{Caller}
use Rattle.fault_duty.specs.declared.caller.Caller.TheVariants.{Faulted, Allocates, Scans}
use Rattle.fault_duty.specs.declared.findings.Findings.{Findings}
use Rattle.fault_duty.specs.declared.choice.Choice.{Choice}
use Rattle.fault_duty.specs.declared.end_look.EndLook.{EndLook}
use Rattle.fault_duty.specs.declared.wanted_page.WantedPage.{WantedPage}
use Rattle.fault_duty.specs.declared.page_state.PageState.{PageState}
use Rattle.fault_duty.specs.declared.page_state.PageState.TheVariants.{Opened, Scanned, Waits, Past}
use Rattle.fault_duty.specs.declared.round_end.RoundEnd.{RoundEnd}
use Rattle.fault_duty.specs.declared.round_end.RoundEnd.TheVariants.{ScanPage, ScanInPlace, Marked, Traced, AllLeft, NothingNow}
use Rattle.fault_duty.specs.declared.duty_stage.DutyStage.TheVariants.{LoadsTraced, LoadsFrontFor, LoadsFront, LoadsPage, EndArea, EndPage, EndFilling, EndAreaAgain, Ended}
use Rattle.fault_duty.specs.Duty
use Rattle.fault_duty.specs.Duty.{Round, told, told_at}
use Rattle.fault_duty.specs.Theorems.{IsLater}

-- ---- what a page's word says

pub record SaysState (says : PageWord) (epoch : ℕ) (state : PageState) : Type 0 where
  pub now : state ≡ Opened → age_of says ≡ epoch + 1
  pub scanned : state ≡ Scanned → (worker : ℕ) × (says ≡ page_word.Scanning epoch worker)
  pub past : state ≡ Past → IsLater says epoch
  pub not_early : state ≢ Waits → epoch < age_of says

never : {A : Type 0} (a b : PageState) → (a ≡ b → ⊥) → a ≡ b → A
never a b apart same = absurd (apart same)

by_open : (found epoch : ℕ) (same later : Bool) → nat_eq found epoch ≡ same → nat_lt epoch found ≡ later
    → SaysState (page_word.Open found) epoch (cond same Opened (cond later Past Waits))
by_open found epoch true later is more =
    let e : found ≡ epoch = grind (arith, nat_tests) in
    record { now = λ _. omega arith; scanned = never Opened Scanned (λ x. cc); past = never Opened Past (λ x. cc); not_early = λ _. omega arith }
by_open found epoch false true is more =
    let l : epoch < found = grind (arith, nat_tests) in
    record { now = never Past Opened (λ x. cc); scanned = never Past Scanned (λ x. cc); past = λ _. omega arith; not_early = λ _. omega arith }
by_open found epoch false false is more =
    record { now = never Waits Opened (λ x. cc); scanned = never Waits Scanned (λ x. cc); past = never Waits Past (λ x. cc); not_early = λ other. absurd (other refl) }

by_scanning : (found worker epoch : ℕ) (same later : Bool) → nat_eq found epoch ≡ same → nat_lt epoch found ≡ later
    → SaysState (page_word.Scanning found worker) epoch (cond same Scanned (cond later Past Waits))
by_scanning found worker epoch true later is more =
    let e : found ≡ epoch = grind (arith, nat_tests) in
    record {
      now = never Scanned Opened (λ x. cc);
      scanned = λ _. (worker, ap (λ z. page_word.Scanning z worker) e);
      past = never Scanned Past (λ x. cc);
      not_early = λ _. omega arith;
    }
by_scanning found worker epoch false true is more =
    let l : epoch < found = grind (arith, nat_tests) in
    record { now = never Past Opened (λ x. cc); scanned = never Past Scanned (λ x. cc); past = λ _. omega arith; not_early = λ _. omega arith }
by_scanning found worker epoch false false is more =
    record { now = never Waits Opened (λ x. cc); scanned = never Waits Scanned (λ x. cc); past = never Waits Past (λ x. cc); not_early = λ other. absurd (other refl) }

pub says_state : (says : PageWord) (epoch : ℕ) → SaysState says epoch (Duty.state_of says epoch)
says_state page_word.Unset epoch =
    record { now = never Waits Opened (λ x. cc); scanned = never Waits Scanned (λ x. cc); past = never Waits Past (λ x. cc); not_early = λ other. absurd (other refl) }
says_state (page_word.Open found) epoch = by_open found epoch (nat_eq found epoch) (nat_lt epoch found) refl refl
says_state (page_word.Scanning found worker) epoch = by_scanning found worker epoch (nat_eq found epoch) (nat_lt epoch found) refl refl

-- ---- the gate

-- the gate's word was told, for another epoch
pub record GateEnds (d : Round) (loaded word : ℕ) (o : Option GateWord) : Type 0 where
  pub gate : GateWord
  pub is : o ≡ Some gate
  pub other : gate.epoch ≢ d.epoch
  pub same : word ≡ loaded

mutator_ends : (d : Round) (loaded word : ℕ) (g : GateWord) → told (Duty.mutator_at_gate d loaded g) ≡ Finished (NothingNow word) → GateEnds d loaded word (Some g)
mutator_ends d loaded word g tells = by_test (nat_eq g.epoch d.epoch) refl tells
  where
    by_test : (b : Bool) → nat_eq g.epoch d.epoch ≡ b
        → told_at (cond b (LoadsTraced (Duty.hindrance_in loaded g)) (Ended (NothingNow loaded))) ≡ Finished (NothingNow word) → GateEnds d loaded word (Some g)
    by_test true test e = cc
    by_test false test e = record { gate = g; is = refl; other = grind (arith, nat_tests); same = cc }

scanner_never : (d : Round) (mutators loaded word : ℕ) (g : GateWord) → told (Duty.scanner_at_gate d mutators loaded g) ≡ Finished (NothingNow word) → ⊥
scanner_never d mutators loaded word g tells = by_test (nat_eq g.left mutators) tells
  where
    by_test : (b : Bool) → told (cond b (Duty.at_stage d (Ended (AllLeft loaded))) (record d { epoch = g.epoch; stage = LoadsTraced (Duty.hindrance_in loaded g) }))
        ≡ Finished (NothingNow word) → ⊥
    by_test true e = cc
    by_test false e = cc

caller_ends : (d : Round) (caller : Caller) (loaded word : ℕ) (g : GateWord) → told (Duty.looked_by_gate d caller loaded g) ≡ Finished (NothingNow word)
    → GateEnds d loaded word (Some g)
caller_ends d (Faulted page) loaded word g tells = mutator_ends d loaded word g tells
caller_ends d Allocates loaded word g tells = mutator_ends d loaded word g tells
caller_ends d (Scans mutators) loaded word g tells = absurd (scanner_never d mutators loaded word g tells)

pub gate_ends : (d : Round) (loaded word : ℕ) (o : Option GateWord) → told (Duty.looked_at_gate d loaded o) ≡ Finished (NothingNow word) → GateEnds d loaded word o
gate_ends d loaded word (Some g) tells = caller_ends d d.caller loaded word g tells
gate_ends d loaded word None tells = cc

-- a scanner saw that all have left
pub record LeftEnds (d : Round) (loaded word : ℕ) (o : Option GateWord) : Type 0 where
  pub mutators : ℕ
  pub caller : d.caller ≡ Scans mutators
  pub gate : GateWord
  pub is : o ≡ Some gate
  pub left : gate.left ≡ mutators
  pub same : word ≡ loaded

mutator_never_left : (d : Round) (loaded word : ℕ) (g : GateWord) → told (Duty.mutator_at_gate d loaded g) ≡ Finished (AllLeft word) → ⊥
mutator_never_left d loaded word g tells = by_test (nat_eq g.epoch d.epoch) tells
  where
    by_test : (b : Bool) → told_at (cond b (LoadsTraced (Duty.hindrance_in loaded g)) (Ended (NothingNow loaded))) ≡ Finished (AllLeft word) → ⊥
    by_test true e = cc
    by_test false e = cc

scanner_left : (d : Round) (mutators loaded word : ℕ) (g : GateWord) → d.caller ≡ Scans mutators
    → told (Duty.scanner_at_gate d mutators loaded g) ≡ Finished (AllLeft word) → LeftEnds d loaded word (Some g)
scanner_left d mutators loaded word g scans tells = by_test (nat_eq g.left mutators) refl tells
  where
    by_test : (b : Bool) → nat_eq g.left mutators ≡ b
        → told (cond b (Duty.at_stage d (Ended (AllLeft loaded))) (record d { epoch = g.epoch; stage = LoadsTraced (Duty.hindrance_in loaded g) })) ≡ Finished (AllLeft word)
        → LeftEnds d loaded word (Some g)
    by_test true test e = record { mutators = mutators; caller = scans; gate = g; is = refl; left = grind (arith, nat_tests); same = cc }
    by_test false test e = cc

caller_left : (d : Round) (caller : Caller) (loaded word : ℕ) (g : GateWord) → d.caller ≡ caller → told (Duty.looked_by_gate d caller loaded g) ≡ Finished (AllLeft word)
    → LeftEnds d loaded word (Some g)
caller_left d (Faulted page) loaded word g is tells = absurd (mutator_never_left d loaded word g tells)
caller_left d Allocates loaded word g is tells = absurd (mutator_never_left d loaded word g tells)
caller_left d (Scans mutators) loaded word g is tells = scanner_left d mutators loaded word g is tells

pub left_ends : (d : Round) (loaded word : ℕ) (o : Option GateWord) → told (Duty.looked_at_gate d loaded o) ≡ Finished (AllLeft word) → LeftEnds d loaded word o
left_ends d loaded word (Some g) tells = caller_left d d.caller loaded word g refl tells
left_ends d loaded word None tells = cc

pub left_told : (d : Round) (mutators loaded : ℕ) (g : GateWord) (caller : Caller) → caller ≡ Scans mutators → g.left ≡ mutators
    → told (Duty.looked_by_gate d caller loaded g) ≡ Finished (AllLeft loaded)
left_told d mutators loaded g caller is left =
    let test : nat_eq g.left mutators ≡ true = grind (arith, nat_tests) in
    rw is (rw test refl)

-- ---- TRACED

first_never : (caller : Caller) (found : Findings) (result : RoundEnd) → told_at (Duty.first_look caller found) ≡ Finished result → ⊥
first_never (Faulted _) found result e = cc
first_never _ found result e = cc

pub traced_ends : (d : Round) (hindrance : Option ℕ) (loaded : ℕ) (result : RoundEnd) → told_at (Duty.looked_at_traced d hindrance loaded) ≡ Finished result
    → (loaded ≡ d.epoch + 1) × (result ≡ Traced)
traced_ends d hindrance loaded result tells = by_test (nat_eq loaded (d.epoch + 1)) refl tells
  where
    by_test : (b : Bool) → nat_eq loaded (d.epoch + 1) ≡ b
        → told_at (cond b (Ended Traced) (Duty.first_look d.caller (record { traced = loaded; hindrance = hindrance }))) ≡ Finished result
        → (loaded ≡ d.epoch + 1) × (result ≡ Traced)
    by_test true test e = (grind (arith, nat_tests), cc)
    by_test false test e = absurd (first_never d.caller (record { traced = loaded; hindrance = hindrance }) result e)

-- ---- pages

-- a page that could not be claimed
pub claimed_ends : (d : Round) (page : ℕ) (says : PageWord) (in_place : Bool) (state : PageState) (result : RoundEnd)
    → told_at (Duty.claim_by_state d page says in_place state) ≡ Finished result → (result ≡ NothingNow (encode_page says)) × (state ≢ Waits)
claimed_ends d page says in_place Waits result e = cc
claimed_ends d page says in_place _ result e = (cc, λ x. cc)

-- the wanted page is served
pub record WantedEnds (d : Round) (page loaded : ℕ) (result : RoundEnd) (o : Option PageWord) : Type 0 where
  pub says : PageWord
  pub is : o ≡ Some says
  pub told_word : (result ≡ NothingNow loaded) ⊎ (result ≡ NothingNow (encode_page says))
  pub served : (age_of says ≡ d.epoch + 1) ⊎ ((page ≡ board_page d.layout.pages) × IsLater says d.epoch)

one_ends : (d : Round) (found : Findings) (w : WantedPage) (result : RoundEnd) → told_at (Duty.wanted_one d found w) ≡ Finished result
    → (w.page ≡ board_page d.layout.pages) × (result ≡ NothingNow (encode_page w.says)) × (Duty.state_of w.says d.epoch ≢ Waits)
one_ends d found w result tells = by_test (nat_eq w.page (board_page d.layout.pages)) refl tells
  where
    by_test : (b : Bool) → nat_eq w.page (board_page d.layout.pages) ≡ b
        → told_at (cond b (Duty.claim_by_state d w.page w.says false (Duty.state_of w.says d.epoch)) (LoadsFrontFor found w)) ≡ Finished result
        → (w.page ≡ board_page d.layout.pages) × (result ≡ NothingNow (encode_page w.says)) × (Duty.state_of w.says d.epoch ≢ Waits)
    by_test true test e =
        let ends = claimed_ends d w.page w.says false (Duty.state_of w.says d.epoch) result e in (grind (arith, nat_tests), ends.0, ends.1)
    by_test false test e = cc

wanted_state_ends : (d : Round) (found : Findings) (page loaded : ℕ) (says : PageWord) (state : PageState) (result : RoundEnd) → Duty.state_of says d.epoch ≡ state
    → told_at (Duty.wanted_by d found page loaded says state) ≡ Finished result → WantedEnds d page loaded result (Some says)
wanted_state_ends d found page loaded says Opened result is e =
    record { says = says; is = refl; told_word = inl (cc); served = inl ((says_state says d.epoch).now is) }
wanted_state_ends d found page loaded says Scanned result is e =
    let scans = (says_state says d.epoch).scanned is in
    record { says = says; is = refl; told_word = inl (cc); served = inl (ap age_of scans.1) }
wanted_state_ends d found page loaded says Waits result is e =
    let ends = one_ends d found (record { page = page; says = says }) result e in absurd (ends.2 is)
wanted_state_ends d found page loaded says Past result is e =
    let ends = one_ends d found (record { page = page; says = says }) result e in
    record { says = says; is = refl; told_word = inr ends.1; served = inr (ends.0, (says_state says d.epoch).past is) }

pub wanted_ends : (d : Round) (found : Findings) (page loaded : ℕ) (result : RoundEnd) (o : Option PageWord)
    → told_at (Duty.looked_at_wanted d found page loaded o) ≡ Finished result → WantedEnds d page loaded result o
wanted_ends d found page loaded result (Some says) tells = wanted_state_ends d found page loaded says (Duty.state_of says d.epoch) result refl tells
wanted_ends d found page loaded result None tells = cc

pub front_for_ends : (d : Round) (found : Findings) (w : WantedPage) (result : RoundEnd) (o : Option AreaWord)
    → told_at (Duty.found_front_for d found w o) ≡ Finished result → (result ≡ NothingNow (encode_page w.says)) × (d.epoch < age_of w.says)
front_for_ends d found w result (Some area) tells = by_test (Duty.is_full (Duty.front_of d area) w.page) tells
  where
    by_test : (b : Bool) → told_at (cond b (Duty.claim_by_state d w.page w.says false (Duty.state_of w.says d.epoch)) (LoadsFront found)) ≡ Finished result
        → (result ≡ NothingNow (encode_page w.says)) × (d.epoch < age_of w.says)
    by_test true e = let ends = claimed_ends d w.page w.says false (Duty.state_of w.says d.epoch) result e in (ends.0, (says_state w.says d.epoch).not_early ends.1)
    by_test false e = cc
front_for_ends d found w result None tells = cc

pub front_never : (d : Round) (found : Findings) (result : RoundEnd) (o : Option AreaWord) → told_at (Duty.found_front d found o) ≡ Finished result → ⊥
front_never d found result (Some area) tells = cc
front_never d found result None tells = cc

after_choice_ends : (found : Findings) (hindrance : Option ℕ) (result : RoundEnd) → told_at (Duty.after_choice found hindrance) ≡ Finished result
    → (word : ℕ) × (hindrance ≡ Some word) × (result ≡ NothingNow word)
after_choice_ends found (Some word) result tells = (word, refl, cc)
after_choice_ends found None result tells = cc

not_full : (front page : ℕ) → Duty.is_full front page ≡ false → front < first_word (page + 1)
not_full front page test = grind (arith, nat_tests)

passed_ends : (d : Round) (choice : Choice) (page : ℕ) (result : RoundEnd) → told_at (Duty.passed_page d choice page) ≡ Finished result
    → (word : ℕ) × (choice.seen.hindrance ≡ Some word) × (result ≡ NothingNow word) × (choice.front < first_word (Duty.page_after d page + 1))
passed_ends d choice page result tells = by_test (Duty.is_full choice.front (Duty.page_after d page)) refl tells
  where
    by_test : (b : Bool) → Duty.is_full choice.front (Duty.page_after d page) ≡ b → told_at (cond b (LoadsPage choice (Duty.page_after d page)) (Duty.after_choice choice.seen choice.seen.hindrance)) ≡ Finished result
        → (word : ℕ) × (choice.seen.hindrance ≡ Some word) × (result ≡ NothingNow word) × (choice.front < first_word (Duty.page_after d page + 1))
    by_test true test e = cc
    by_test false test e =
        let ends = after_choice_ends choice.seen choice.seen.hindrance result e in
        (ends.0, ends.1, ends.2, not_full choice.front (Duty.page_after d page) test)

-- why the choice ended
pub data ChoiceEnds (d : Round) (choice : Choice) (page loaded : ℕ) (result : RoundEnd) (o : Option PageWord) : Type 0 where
  ByHindrance : (word : ℕ) → choice.seen.hindrance ≡ Some word → result ≡ NothingNow word → choice.front < first_word (Duty.page_after d page + 1) → ChoiceEnds d choice page loaded result o
  ByScan : (worker : ℕ) → o ≡ Some (page_word.Scanning d.epoch worker) → result ≡ NothingNow loaded → choice.front < first_word (Duty.page_after d page + 1) → ChoiceEnds d choice page loaded result o
  ByPast : (says : PageWord) → o ≡ Some says → IsLater says d.epoch → result ≡ NothingNow loaded → ChoiceEnds d choice page loaded result o

page_state_ends : (d : Round) (choice : Choice) (page loaded : ℕ) (says : PageWord) (state : PageState) (result : RoundEnd) → Duty.state_of says d.epoch ≡ state
    → told_at (Duty.chosen_by d choice page loaded says state) ≡ Finished result → ChoiceEnds d choice page loaded result (Some says)
page_state_ends d choice page loaded says Opened result is e = let ends = passed_ends d choice page result e in ByHindrance ends.0 ends.1 ends.2 ends.3
page_state_ends d choice page loaded says Scanned result is e =
    let ends = passed_ends d (Duty.hindered choice loaded) page result e in
    let word = ends.1 in
    let told_is = ends.2 in
    let scans = (says_state says d.epoch).scanned is in
    let same : loaded ≡ ends.0 = cc in
    ByScan scans.0 (ap Some scans.1) (told_is ∙ ap NothingNow (sym same)) ends.3
page_state_ends d choice page loaded says Waits result is e = cc
page_state_ends d choice page loaded says Past result is e = ByPast says refl ((says_state says d.epoch).past is) (cc)

pub page_ends : (d : Round) (choice : Choice) (page loaded : ℕ) (result : RoundEnd) (o : Option PageWord)
    → told_at (Duty.looked_at_page d choice page loaded o) ≡ Finished result → ChoiceEnds d choice page loaded result o
page_ends d choice page loaded result (Some says) tells = page_state_ends d choice page loaded says (Duty.state_of says d.epoch) result refl tells
page_ends d choice page loaded result None tells = cc

-- ---- the claim

pub claim_nothing : (c : Claiming) (turn : Turn Claimed) (word : ℕ) → told_at (Duty.claim_went c turn) ≡ Finished (NothingNow word) → turn ≡ Finished (claimed.Taken word)
claim_nothing c More word e = cc
claim_nothing c (Finished (claimed.Taken taken)) word e = let same : taken ≡ word = cc in ap (λ z. Finished (claimed.Taken z)) same
claim_nothing c (Finished claimed.Won) word e = by_place c.in_place e
  where
    by_place : (b : Bool) → Finished (cond b (ScanInPlace c.page) (ScanPage c.page)) ≡ Finished (NothingNow word) → Finished claimed.Won ≡ Finished (claimed.Taken word)
    by_place true x = cc
    by_place false x = cc

-- what a claim that was won comes to: the page is scanned, in place or not
abbrev pub claimed_page : (in_place : Bool) (page : ℕ) → RoundEnd
claimed_page in_place page = cond in_place (ScanInPlace page) (ScanPage page)

pub claim_scans : (c : Claiming) (turn : Turn Claimed) (in_place : Bool) (page : ℕ) → told_at (Duty.claim_went c turn) ≡ Finished (claimed_page in_place page)
    → (turn ≡ Finished claimed.Won) × (c.page ≡ page) × (c.in_place ≡ in_place)
claim_scans c More in_place page e = cc
claim_scans c (Finished (claimed.Taken taken)) true page e = cc
claim_scans c (Finished (claimed.Taken taken)) false page e = cc
claim_scans c (Finished claimed.Won) in_place page e = by_place c.in_place in_place refl e
  where
    by_place : (b i : Bool) → c.in_place ≡ b → Finished (claimed_page b c.page) ≡ Finished (claimed_page i page)
        → (Finished claimed.Won ≡ Finished claimed.Won) × (c.page ≡ page) × (c.in_place ≡ i)
    by_place true true is x = (refl, (cc), is)
    by_place false false is x = (refl, (cc), is)
    by_place true false is x = cc
    by_place false true is x = cc

pub claim_never : (c : Claiming) (turn : Turn Claimed) (result : RoundEnd) → told_at (Duty.claim_went c turn) ≡ Finished result
    → (result ≡ Marked → ⊥) × (result ≡ Traced → ⊥) × ((word : ℕ) → result ≡ AllLeft word → ⊥)
claim_never c More result e = cc
claim_never c (Finished (claimed.Taken taken)) result e = (λ x. cc, λ x. cc, λ word x. cc)
claim_never c (Finished claimed.Won) result e = by_place c.in_place e
  where
    by_place : (b : Bool) → Finished (cond b (ScanInPlace c.page) (ScanPage c.page)) ≡ Finished result
        → (result ≡ Marked → ⊥) × (result ≡ Traced → ⊥) × ((word : ℕ) → result ≡ AllLeft word → ⊥)
    by_place true x = (λ y. cc, λ y. cc, λ word y. cc)
    by_place false x = (λ y. cc, λ y. cc, λ word y. cc)

-- ---- the end of the area

pub record EndGateEnds (d : Round) (loaded : ℕ) (result : RoundEnd) (o : Option GateWord) : Type 0 where
  pub gate : GateWord
  pub is : o ≡ Some gate
  pub unfit : (gate.epoch ≢ d.epoch) ⊎ (gate.behind ≢ 0)
  pub told_is : result ≡ NothingNow loaded

pub end_gate_ends : (d : Round) (traced loaded : ℕ) (result : RoundEnd) (o : Option GateWord) → told_at (Duty.ended_gate d traced loaded o) ≡ Finished result
    → EndGateEnds d loaded result o
end_gate_ends d traced loaded result (Some g) tells = by_tests (nat_eq g.epoch d.epoch) (nat_eq g.behind 0) refl refl tells
  where
    by_tests : (a b : Bool) → nat_eq g.epoch d.epoch ≡ a → nat_eq g.behind 0 ≡ b
        → told_at (cond (a && b) (EndArea traced) (Ended (NothingNow loaded))) ≡ Finished result → EndGateEnds d loaded result (Some g)
    by_tests true true x y e = cc
    by_tests true false x y e = record { gate = g; is = refl; unfit = inr (let other : g.behind ≢ 0 = grind (arith, nat_tests) in other); told_is = cc }
    by_tests false b x y e = record { gate = g; is = refl; unfit = inl (let other : g.epoch ≢ d.epoch = grind (arith, nat_tests) in other); told_is = cc }
end_gate_ends d traced loaded result None tells = cc

pub end_area_never : (d : Round) (traced : ℕ) (result : RoundEnd) (o : Option AreaWord) → told_at (Duty.ended_area d traced o) ≡ Finished result → ⊥
end_area_never d traced result (Some area) tells = cc
end_area_never d traced result None tells = cc

after_pages_never : (d : Round) (look : EndLook) (result : RoundEnd) → told_at (Duty.after_pages d look) ≡ Finished result → ⊥
after_pages_never d look result tells = by_test (nat_eq (look.front % 64) 0) tells
  where
    by_test : (b : Bool) → told_at (cond b (EndAreaAgain look (page_word.Open d.epoch)) (EndFilling look)) ≡ Finished result → ⊥
    by_test true e = cc
    by_test false e = cc

pub end_page_ends : (d : Round) (look : EndLook) (page loaded : ℕ) (result : RoundEnd) → told_at (Duty.ended_page d look page loaded) ≡ Finished result
    → (loaded ≢ encode_page (page_word.Open d.epoch)) × (result ≡ NothingNow loaded)
end_page_ends d look page loaded result tells = by_test (nat_eq loaded (encode_page (page_word.Open d.epoch))) refl tells
  where
    by_full : (b : Bool) → told_at (cond b (EndPage look (Duty.page_after d page)) (Duty.after_pages d look)) ≡ Finished result → ⊥
    by_full true e = cc
    by_full false e = after_pages_never d look result e

    by_test : (b : Bool) → nat_eq loaded (encode_page (page_word.Open d.epoch)) ≡ b
        → told_at (cond b (cond (Duty.is_full look.front (Duty.page_after d page)) (EndPage look (Duty.page_after d page)) (Duty.after_pages d look)) (Ended (NothingNow loaded)))
        ≡ Finished result → (loaded ≢ encode_page (page_word.Open d.epoch)) × (result ≡ NothingNow loaded)
    by_test true test e = absurd (by_full (Duty.is_full look.front (Duty.page_after d page)) e)
    by_test false test e = (grind (arith, nat_tests), cc)

pub record FillingEnds (d : Round) (loaded : ℕ) (result : RoundEnd) (o : Option PageWord) : Type 0 where
  pub worker : ℕ
  pub is : o ≡ Some (page_word.Scanning d.epoch worker)
  pub told_is : result ≡ NothingNow loaded

filling_state_ends : (d : Round) (look : EndLook) (loaded : ℕ) (says : PageWord) (state : PageState) (result : RoundEnd) → Duty.state_of says d.epoch ≡ state
    → told_at (Duty.filling_by look loaded says state) ≡ Finished result → FillingEnds d loaded result (Some says)
filling_state_ends d look loaded says Scanned result is e =
    let scans = (says_state says d.epoch).scanned is in record { worker = scans.0; is = ap Some scans.1; told_is = cc }
filling_state_ends d look loaded says _ result is e = cc

pub filling_ends : (d : Round) (look : EndLook) (loaded : ℕ) (result : RoundEnd) (o : Option PageWord)
    → told_at (Duty.looked_at_filling d look loaded o) ≡ Finished result → FillingEnds d loaded result o
filling_ends d look loaded result (Some says) tells = filling_state_ends d look loaded says (Duty.state_of says d.epoch) result refl tells
filling_ends d look loaded result None tells = cc

-- why the last look ended
pub data AreaAgainEnds (d : Round) (look : EndLook) (filling : PageWord) (loaded : ℕ) (result : RoundEnd) (o : Option AreaWord) : Type 0 where
  ByFront : (area : AreaWord) → o ≡ Some area → Duty.front_of d area ≢ look.front → result ≡ NothingNow loaded → AreaAgainEnds d look filling loaded result o
  ByFilling : d.epoch < age_of filling → result ≡ NothingNow (encode_page filling) → AreaAgainEnds d look filling loaded result o

ends_state : (d : Round) (look : EndLook) (filling : PageWord) (state : PageState) (result : RoundEnd) → Duty.state_of filling d.epoch ≡ state
    → told_at (Duty.ends_by d look filling state) ≡ Finished result → (d.epoch < age_of filling) × (result ≡ NothingNow (encode_page filling))
ends_state d look filling Opened result is e = cc
ends_state d look filling Waits result is e = cc
ends_state d look filling Past result is e = ((says_state filling d.epoch).not_early (λ x. let z : Past ≡ Waits = sym is ∙ x in cc), cc)
ends_state d look filling Scanned result is e = ((says_state filling d.epoch).not_early (λ x. let z : Scanned ≡ Waits = sym is ∙ x in cc), cc)

pub area_again_ends : (d : Round) (look : EndLook) (filling : PageWord) (loaded : ℕ) (result : RoundEnd) (o : Option AreaWord)
    → told_at (Duty.ended_area_again d look filling loaded o) ≡ Finished result → AreaAgainEnds d look filling loaded result o
area_again_ends d look filling loaded result (Some area) tells = by_test (nat_eq (Duty.front_of d area) look.front) refl tells
  where
    by_test : (b : Bool) → nat_eq (Duty.front_of d area) look.front ≡ b
        → told_at (cond b (Duty.ends_by d look filling (Duty.state_of filling d.epoch)) (Ended (NothingNow loaded))) ≡ Finished result
        → AreaAgainEnds d look filling loaded result (Some area)
    by_test true test e = let ends = ends_state d look filling (Duty.state_of filling d.epoch) result refl e in ByFilling ends.0 ends.1
    by_test false test e = ByFront area refl (let other : Duty.front_of d area ≢ look.front = grind (arith, nat_tests) in other) (cc)
area_again_ends d look filling loaded result None tells = cc

-- ---- the walk

-- it ends the round only where another worker has the turn, or had it
pub walk_ends : (traced : ℕ) (v : Walking) (turn : Turn WalkEnd) (result : RoundEnd) → told_at (Duty.walk_went traced v turn) ≡ Finished result
    → (word : ℕ) × (turn ≡ Finished (walk_end.Another word)) × (result ≡ NothingNow word)
walk_ends traced v (Finished (walk_end.Another word)) result e = (word, refl, cc)
walk_ends traced v (Finished walk_end.Passed) result e = cc
walk_ends traced v More result e = cc
