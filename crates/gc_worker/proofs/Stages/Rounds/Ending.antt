-- The end of the area: the gate, AREA, and the exchange of TRACED.
use Rattle.std.proofs.Common.{◌≡◌, ℕ, ◌+◌, ◌*◌, ◌≤◌, ◌==◌, ◌&&◌, Bool, true, false, cond, Some, None, nat_eq, nat_lt, refl, sym, ap, subst, ◌∙◌, arith, if◌then◌else◌}
use Rattle.std.proofs.lemmas.Bool.{eq-eqb, eqb-true}
use Rattle.plain_state.specs.State.{Plain}
use Rattle.atom_store.specs.declared.step.Step.TheVariants.{Exchange}
use Rattle.atom_store.specs.declared.reply.Reply.TheVariants.{Value, Won}
use Rattle.space_map.specs.declared.gate_word.GateWord.{GateWord}
use Rattle.space_map.specs.Spaces.{board_page, to_space, page_of}
use Rattle.space_map.specs.Table.{Gate, Traced, Area, Page, place_of}
use Rattle.fault_duty.specs.declared.duty_stage.DutyStage.{DutyStage}
use Rattle.fault_duty.specs.declared.duty_stage.DutyStage.TheVariants.{EndGate, EndArea, EndPage, EndFilling, EndAreaAgain, Traces, Ended}
use Rattle.fault_duty.specs.declared.round_end.RoundEnd.TheVariants.{NothingNow}
use Rattle.fault_duty.specs.declared.end_look.EndLook.{EndLook}
use Rattle.fault_duty.specs.declared.page_state.PageState.{PageState}
use Rattle.fault_duty.specs.declared.page_state.PageState.TheVariants.{Opened, Scanned, Waits, Past}
use Rattle.fault_duty.specs.Soundness.{FitsDutyStage}
use Rattle.space_map.specs.declared.page_word.PageWord.{PageWord}
use Rattle.space_map.specs.declared.page_word.PageWord.TheVariants.{Unset, Open, Scanning}
use Rattle.space_map.specs.PageWord.{decode_page}
use Rattle.space_map.proofs.PageWords.{PageFits-decode_page}
use Rattle.fault_duty.specs.Duty as duty
use Rattle.fault_duty.specs.Duty.{Round}
use Rattle.heap_state.specs.Configuration.{Configuration, Stands, table, era, memory, team}
use Rattle.heap_state.specs.Memory.Entries.{Entry, TracedIs}
use Rattle.heap_state.specs.Cells.{Passing}
use Rattle.heap_state.specs.Known.{Known, Look, LastLook, Done}
use Rattle.heap_state.proofs.Puts.{some_same}
use Rattle.heap_state.specs.Known as workers
use Rattle.heap_state.proofs.Table.LaidOut.{table_pages}
use Rattle.heap_laws.specs.Tracing.{FollowsTargets, WinsTraced, look_begun, looking, has_traced}
use Rattle.heap_laws.proofs.Lifting.Laws.{plain_steps_are_lifted}
use Rattle.heap_laws.proofs.Steps.Composing.{steps_forget}
use Rattle.heap_laws.proofs.Steps.Forgotten.{of_round}
use Rattle.heap_laws.proofs.Tracing.TracingLoads.{begins_look, looks_at_front, looks_at_filling}
use Rattle.heap_laws.proofs.Tracing.Lost.{lost_targets_are_zero}
use Rattle.heap_laws.proofs.Tracing.TracedExchange as tracing
use Rattle.gc_worker.specs.declared.stage.back.Back.{Back}
use Rattle.gc_worker.specs.Steps.Goes.{Is, Goes, StepsSo, TracesEpoch}
use Rattle.gc_worker.specs.Workers.Held.{Held}
use Rattle.gc_worker.specs.Workers.Knows.{knows, look_with, upto_all, is_open_state}
use Rattle.gc_worker.specs.Steps.Turned.{back_from}
use Rattle.gc_worker.proofs.Words.Areas.{area_now, area_says, is_space}
use Rattle.gc_worker.proofs.Stages.Gate.GateWords.{wants, gate_now, gate_says}
use Rattle.fault_duty.proofs.RoundMeasure.{to_start-le}
use Rattle.gc_worker.proofs.Stages.Rounds.Choosing.{front_for, first_choice}
use Rattle.gc_worker.proofs.Stages.Rounds.NextRoundStage.{rests, round, at, done, goes_on, ends, ends_marked, ended_known, own_stock_same, loads_it, same_pages}
use Rattle.gc_worker.proofs.Stages.Rounds.SecondLook.{looked_in}
use Rattle.gc_worker.proofs.Stages.Rounds.RoundWords.{traced_now, traced_word, page_now, page_says}
use Rattle.gc_worker.proofs.Plain.AnswerSteps.{LawTo}
use Rattle.gc_worker.proofs.Plain.CellTargets.EmptyCells.{same_empty, traced_after}
use Rattle.gc_worker.proofs.Words.RowSteps.{Law, exchanges, nothing, prepared}

-- a page that is found open is open in the round's epoch
open_by : (found e : ℕ) (a b : Bool) → nat_eq found e ≡ a → cond a Opened (cond b Past Waits) ≡ Opened → Open found ≡ Open e
open_by found e true b same state = ap Open (eqb-true found e same)
open_by found e false true same state = absurd (cc)
open_by found e false false same state = absurd (cc)

scan_by : (a b : Bool) → cond a Scanned (cond b Past Waits) ≡ Opened → ⊥
scan_by true b state = cc
scan_by false true state = cc
scan_by false false state = cc

open_said : (says : PageWord) (e : ℕ) → duty.state_of says e ≡ Opened → says ≡ Open e
open_said Unset e state = absurd (cc)
open_said (Open found) e state = open_by found e (nat_eq found e) (nat_lt e found) refl state
open_said (Scanning found worker) e state = absurd (scan_by (nat_eq found e) (nat_lt e found) state)

module _ (c : Configuration) (p : Plain) (s : Stands c p) (k : ℕ) (y : Held) (d : Round) (back : Back) where
  -- ---- TRACED is exchanged

  module _ (traced : ℕ) (is : Is c k (at c p s k y d back (Traces traced))) where
    abbrev x : Held
    x = at c p s k y d back (Traces traced)

    abbrev entry : Entry
    entry = TracedIs (d.epoch + 1)

    walked : ((team c).worker k).pass ≡ Some Done
    walked = ap (λ (w : Known). w.pass) is.as_known

    -- who has walked over the chain has the turn, and nobody else changes TRACED
    turn : Passing (era c) (memory c) (memory c).weak_turn s.ghost s.invariant.cells.ranks ((team c).worker k) Done
    turn = s.invariant.cells.chain.pass k Done is.below walked

    stays : traced_now c ≡ traced
    stays =
        let same : turn.look.0 ≡ record { traced = traced } = some_same (sym turn.look.1 ∙ looked_in is refl) in
        sym (traced_word c) ∙ (sym turn.look.2 ∙ ap (λ (l : LastLook). l.traced) same)

    wins : WinsTraced (memory c) (team c) k (record { traced = traced })
    wins = record { looks = looked_in is refl; unchanged = traced_word c ∙ stays; walked = walked }

    abbrev y' : Held
    y' = back_from (done c p s k y d back) back

    known : knows y' ≡ rests (knows x)
    known = ended_known c p s k y d back (Traces traced) is refl (own_stock_same c p s k y d back (Traces traced) is)

    now : d.epoch ≡ (era c).epoch
    now = ap (λ (w : Known). w.epoch) (sym is.as_known) ∙ turn.now.0

    -- each state that follows the targets is stood for
    follows : (q : Plain) → FollowsTargets (era c) (memory c) s.ghost p q → LawTo c p s k x (Some entry) (knows y') s.ghost q
    follows q of_targets =
        let t : LawTo c p s k x (Some (TracedIs (((team c).worker k).epoch + 1))) (has_traced ((team c).worker k)) s.ghost q =
        (tracing.traces (era c) (memory c) (team c) s.ghost k (record { traced = traced }) (prepared c p s k x is) wins).steps p q s.shown of_targets in
        let u : LawTo c p s k x (Some entry) (rests (knows x)) s.ghost q =
        subst (λ (w : Known). LawTo c p s k x (Some (TracedIs (w.epoch + 1))) (has_traced w) s.ghost q) is.as_known t in
        subst (λ (w : Known). LawTo c p s k x (Some entry) w s.ghost q) (sym known) u

    traces : TracesEpoch c p s.ghost k (Some entry) y' s.ghost
    traces = record {
      settles = λ o cycle keeps. lost_targets_are_zero (era c) (memory c) (team c) s.ghost k (record { traced = traced }) p o (prepared c p s k x is) wins s.shown cycle keeps;
      before = turn.now.1;
      traced = traced_after c k (knows y') (d.epoch + 1) s.formed is.below ∙ ap (λ (e : ℕ). e + 1) now;
      empty = same_empty c k (knows y') (d.epoch + 1) s.formed is.below (ap (λ (w : Known). w.copy) (known ∙ ap rests (sym is.as_known)));
      leaves = λ q of_targets. plain_steps_are_lifted c p q s (Some entry) k (knows y') s.ghost is.below (follows q of_targets);
    }

    pub exchanges_traced : StepsSo c p s k x
    exchanges_traced =
        wants c p s k x (Exchange (place_of c.pages Traced) traced (d.epoch + 1)) (ap (λ n. Some (Exchange (place_of n Traced) traced (d.epoch + 1))) (same_pages c p s k y d back (Traces traced) is))
        (exchanges c p s k x entry traced tt
        (λ same. ends_marked c p s k y d back (Traces traced) is (Some entry) Won s.ghost refl refl traces)
        (λ other. absurd (other stays)))

  -- ---- AREA

  module _ (traced : ℕ) (is : Is c k (at c p s k y d back (EndArea traced))) where
    abbrev x2 : Held
    x2 = at c p s k y d back (EndArea traced)

    abbrev front : ℕ
    front = duty.front_of d ((table c).area (to_space d.epoch))

    abbrev first_page : DutyStage
    first_page = EndPage (record { traced = traced; front = front }) (board_page d.layout.pages)

    learnt : Law c p s k x2 None (knows (at c p s k y d back first_page)) s.ghost
    learnt =
        let l : Look = look_with d traced (duty.to_start d) false 0 false in
        let t : Law c p s k x2 None (looking (knows x2) (record l { front = front })) s.ghost =
        subst (λ (w : Known). Law c p s k x2 None (looking w (record l { front = front })) s.ghost) is.as_known
        (looks_at_front (era c) (memory c) (team c) s.ghost k l front (prepared c p s k x2 is) (record { looks = ap (λ (w : Known). w.look) is.as_known }) refl refl
        (front_for c p s k y d back (EndArea traced) is refl)) in
        rw (eq-eqb (board_page d.layout.pages) (board_page d.layout.pages) refl) t

    pub loads_area : StepsSo c p s k x2
    loads_area = loads_it c p s k y d back (EndArea traced) is (Area (to_space d.epoch)) (is_space d.epoch) refl
        (goes_on c p s k y d back (EndArea traced) is None (Value (area_now c (to_space d.epoch))) first_page s.ghost
        (ap (λ o. round c p s k y d back (duty.ended_area (round c p s k y d back (EndArea traced)) traced o)) (area_says c p s (to_space d.epoch) (is_space d.epoch)))
        refl refl (is.fits.stage.0.sound.stage, first_choice c p s k y d back (EndArea traced) is refl first_page) learnt)

  -- ---- the gate

  module _ (traced : ℕ) (is : Is c k (at c p s k y d back (EndGate traced))) where
    abbrev x3 : Held
    x3 = at c p s k y d back (EndGate traced)

    abbrev gate : GateWord
    gate = (table c).gate

    both_by : (a b : Bool) → (a && b) ≡ true → (a ≡ true) × (b ≡ true)
    both_by true b e = (refl, e)
    both_by false b e = absurd (cc)

    -- the look begins, and the round is forgotten
    begins : gate.epoch ≡ d.epoch → gate.behind ≡ 0 → Law c p s k x3 None (knows (at c p s k y d back (EndArea traced))) s.ghost
    begins of_now none =
        let r : workers.Round = record { traced = traced; front = None } in
        let start : duty.to_start d ≡ (era c).start =
        let n : (table c).pages ≡ c.pages = table_pages c.pages c.words in rw (← of_now, n, same_pages c p s k y d back (EndGate traced) is) refl in
        let t : Law c p s k x3 None (looking (knows x3) (look_begun (era c) r)) s.ghost =
        subst (λ (w : Known). Law c p s k x3 None (looking w (look_begun (era c) r)) s.ghost) is.as_known
        (begins_look (era c) (memory c) (team c) s.ghost k r (prepared c p s k x3 is)
        (record { round = ap (λ (w : Known). w.round) is.as_known; same = of_now ∙ ap (λ (w : Known). w.epoch) (sym is.as_known); none = none })) in
        steps_forget (era c) (memory c) (team c) s.ghost k None (looking (knows x3) (look_begun (era c) r)) (knows (at c p s k y d back (EndArea traced))) s.ghost t
        (of_round (looking (knows x3) (look_begun (era c) r)) None (knows (at c p s k y d back (EndArea traced))).look refl (λ _ e. absurd (cc)) (λ l e. (rw (← start) refl) ∙ e))

    gate_by : (b : Bool) → ((gate.epoch == d.epoch) && (gate.behind == 0)) ≡ b
        → duty.taken_at (round c p s k y d back (EndGate traced)) (EndGate traced) (Value (gate_now c)) ≡ round c p s k y d back (if b then EndArea traced else Ended (NothingNow (gate_now c)))
        → Goes c p s k None x3 (Value (gate_now c))
    gate_by true test taken =
        let q = both_by (gate.epoch == d.epoch) (gate.behind == 0) test in
        goes_on c p s k y d back (EndGate traced) is None (Value (gate_now c)) (EndArea traced) s.ghost taken refl refl is.fits.stage.0.sound.stage
        (begins (eqb-true gate.epoch d.epoch q.0) (eqb-true gate.behind 0 q.1))
    gate_by false test taken = ends c p s k y d back (EndGate traced) is (Value (gate_now c)) (gate_now c) taken refl refl refl

    pub loads_gate_again : StepsSo c p s k x3
    loads_gate_again = loads_it c p s k y d back (EndGate traced) is Gate tt refl
        (gate_by ((gate.epoch == d.epoch) && (gate.behind == 0)) refl
        (ap (λ o. round c p s k y d back (duty.ended_gate (round c p s k y d back (EndGate traced)) traced (gate_now c) o)) (gate_says c p s)))

  -- ---- the filling page

  module _ (look : EndLook) (is : Is c k (at c p s k y d back (EndFilling look))) where
    abbrev x4 : Held
    x4 = at c p s k y d back (EndFilling look)

    abbrev page : ℕ
    page = page_of look.front

    abbrev says : PageWord
    says = (table c).page page

    in_table : page ≤ 2 * c.pages
    in_table =
        let n = same_pages c p s k y d back (EndFilling look) is in
        let f = is.fits.stage.0.sound.stage.1.high in
        let l = to_start-le (round c p s k y d back (EndFilling look)) in
        omega (arith, n, f, l)

    reads : decode_page (page_now c page) ≡ Some says
    reads = page_says c p s page in_table

    abbrev next : DutyStage
    next = EndAreaAgain look says

    next_fits : FitsDutyStage (round c p s k y d back next) next
    next_fits = let f = is.fits.stage.0.sound.stage in (f.0, record { low = f.1.low; high = f.1.high }, PageFits-decode_page (page_now c page) says reads, (λ whole. absurd (f.2 whole)))

    -- it is found open
    opened : duty.state_of says d.epoch ≡ Opened → Law c p s k x4 None (knows (at c p s k y d back next)) s.ghost
    opened state =
        let l : Look = look_with d look.traced look.front true (upto_all d look.front) false in
        let open_now : says ≡ Open d.epoch = open_said says d.epoch state in
        let t : Law c p s k x4 None (looking (knows x4) (record l { filled = true })) s.ghost =
        subst (λ (w : Known). Law c p s k x4 None (looking w (record l { filled = true })) s.ghost) is.as_known
        (looks_at_filling (era c) (memory c) (team c) s.ghost k l (prepared c p s k x4 is) (record { looks = ap (λ (w : Known). w.look) is.as_known })
        (λ q low high. let e : q ≡ page = omega (arith, low, high) in
        ap (λ z. (table c).page z) e ∙ open_now ∙ ap (λ (w : Known). Open w.epoch) (sym is.as_known))) in
        rw state t

    other : (state : PageState) → duty.state_of says d.epoch ≡ state → is_open_state state ≡ false → knows x4 ≡ knows (at c p s k y d back next)
    other state e shut = rw (e, shut) refl

    filling_by : (state : PageState) → duty.state_of says d.epoch ≡ state
        → duty.taken_at (round c p s k y d back (EndFilling look)) (EndFilling look) (Value (page_now c page)) ≡ round c p s k y d back (duty.filling_by look (page_now c page) says state)
        → Goes c p s k None x4 (Value (page_now c page))
    filling_by Scanned state taken = ends c p s k y d back (EndFilling look) is (Value (page_now c page)) (page_now c page) taken refl refl refl
    filling_by Opened state taken = goes_on c p s k y d back (EndFilling look) is None (Value (page_now c page)) next s.ghost taken refl refl next_fits (opened state)
    filling_by Waits state taken = goes_on c p s k y d back (EndFilling look) is None (Value (page_now c page)) next s.ghost taken refl refl next_fits
        (nothing c p s k x4 is (knows (at c p s k y d back next)) (other Waits state refl))
    filling_by Past state taken = goes_on c p s k y d back (EndFilling look) is None (Value (page_now c page)) next s.ghost taken refl refl next_fits
        (nothing c p s k x4 is (knows (at c p s k y d back next)) (other Past state refl))

    pub loads_filling : StepsSo c p s k x4
    loads_filling = loads_it c p s k y d back (EndFilling look) is (Page page) in_table refl
        (filling_by (duty.state_of says d.epoch) refl
        (ap (λ o. round c p s k y d back (duty.looked_at_filling (round c p s k y d back (EndFilling look)) look (page_now c page) o)) reads))
