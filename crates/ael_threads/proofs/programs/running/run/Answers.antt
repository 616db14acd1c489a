use Rattle.std.proofs.Common.{◌≡◌, ℕ, List, ◌++◌, drop, length, take, sym, ◌∙◌, ap, subst, arith}
use Rattle.atomic_table.specs.Seated.{TableId}
use Rattle.ael_threads.specs.declared.view.Plan.{Plan}
use Rattle.ael_threads.specs.Histories.{Each}
use Rattle.ael_threads.specs.Opened.{new_scanners, plan_of}
use Rattle.ael_threads.specs.Runs.Outputs.{HasEnd, IsToldOnClose, Runs}
use Rattle.ael_threads.specs.Readers.{SeatedScanner}
use Rattle.ael_threads.specs.Runs.Running.{AreReady, AreScanning}
use Rattle.ael_threads.specs.Seats.{Seated, new_callers}
use Rattle.ael_threads.proofs.ProgramRuns.StartAndEnd.{all_back, all_ended, all_ready, all_scanning, callers_length, mutators_of, of_ok, scanners_length, scanners_of, were_scanning}
use Rattle.ael_threads.proofs.ProgramRuns.Outputs.{runs_told}
use Rattle.ael_threads.proofs.programs.running.run.Goals as goal

-- the seats by the plan that was made
mutators_by : (t : TableId) (made plan : Plan) (ms : List Seated) → made ≡ plan → ms ≡ new_callers t made 0 made.mutators → ms ≡ new_callers t plan 0 plan.mutators
mutators_by t made plan ms is = subst (λ (p : Plan). ms ≡ new_callers t p 0 p.mutators) is

scanners_by : (t : TableId) (made plan : Plan) (ss : List SeatedScanner) → made ≡ plan → ss ≡ new_scanners t made made.mutators made.scanners → ss ≡ new_scanners t plan plan.mutators plan.scanners
scanners_by t made plan ss is = subst (λ (p : Plan). ss ≡ new_scanners t p p.mutators p.scanners) is

pub run_workers-requires-clause-few : goal.run_workers-requires-clause-few
run_workers-requires-clause-few g c κs within =
    let many = callers_length c.in_ok-heap.heap.table.shared.table_id (plan_of c.len.result c.args.config.now) 0 c.len.result in
    let is = ap length (c.as_mut_slice-mutators.ensures.value ∙ (mutators_by _ _ _ _ c.in-Ok.ensures.plan c.in_ok-heap.ensures.mutators)) in
    let few = c.args.program.now.well_formed.few_sections in
    let sections = c.len.ensures in
    omega (arith, many, is, few, sections)

pub run_workers-requires-clause-mutators : goal.run_workers-requires-clause-mutators
run_workers-requires-clause-mutators g c κs within =
    let code = c.args.program.now.code in
    let turns = c.args.turns in
    let t = c.in_ok-heap.heap.table.shared.table_id in
    let plan : Plan = plan_of c.len.result c.args.config.now in
    let is = c.as_mut_slice-mutators.ensures.value ∙ (mutators_by _ _ _ _ c.in-Ok.ensures.plan c.in_ok-heap.ensures.mutators) in
    subst (λ (z : Plan × List Seated). AreReady (record { code = code; turns = turns; table = t; plan = z.0 }) 0 z.1) (λ i. (sym (c.in_ok-heap.ensures.key ∙ c.in-Ok.ensures.plan) i, sym is i)) (all_ready code turns t plan c.len.result (omega arith))

pub run_workers-requires-clause-scanners : goal.run_workers-requires-clause-scanners
run_workers-requires-clause-scanners g c κs within =
    let code = c.args.program.now.code in
    let turns = c.args.turns in
    let t = c.in_ok-heap.heap.table.shared.table_id in
    let plan : Plan = plan_of c.len.result c.args.config.now in
    let is = c.as_mut_slice-scanners.ensures.value ∙ (scanners_by _ _ _ _ c.in-Ok.ensures.plan c.in_ok-heap.ensures.scanners) in
    subst (λ (z : Plan × List SeatedScanner). AreScanning (record { code = code; turns = turns; table = t; plan = z.0 }) z.0.mutators z.1) (λ i. (sym (c.in_ok-heap.ensures.key ∙ c.in-Ok.ensures.plan) i, sym is i))
    (all_scanning code turns t plan c.len.result c.args.config.now.scanners)

pub tell-requires-clause-some : goal.tell-requires-clause-some
tell-requires-clause-some g c =
    let plan : Plan = plan_of c.len.result c.args.config.now in
    let many = callers_length c.in_ok-heap.heap.table.shared.table_id plan 0 c.len.result in
    let is = ap length (mutators_by _ _ _ _ c.in-Ok.ensures.plan c.in_ok-heap.ensures.mutators) in
    let some = c.args.program.now.well_formed.a_section in
    let sections = c.len.ensures in
    let len = c.in_ok-heap.seats.mutators.ok in
    omega (arith, many, is, some, sections, len)

pub tell-requires-clause-mutators : goal.tell-requires-clause-mutators
tell-requires-clause-mutators g c =
    let t = c.in_ok-heap.heap.table.shared.table_id in
    let back = all_back c.in_ok-heap.seats.mutators.len c.in_ok-heap.seats.mutators.items c.run_workers.new.mutators (sym c.in_ok-heap.seats.mutators.ok.0)
    (c.run_workers.ensures.as_many.0 ∙ ap length c.as_mut_slice-mutators.ensures.value) in
    subst (Each (λ (m : Seated). m.table ≡ t)) (sym back) (mutators_of _ 0 c.run_workers.new.mutators c.run_workers.ensures.mutators)

pub tell-requires-clause-scanners : goal.tell-requires-clause-scanners
tell-requires-clause-scanners g c =
    let t = c.in_ok-heap.heap.table.shared.table_id in
    let back = all_back c.in_ok-heap.seats.scanners.len c.in_ok-heap.seats.scanners.items c.run_workers.new.scanners (sym c.in_ok-heap.seats.scanners.ok.0)
    (c.run_workers.ensures.as_many.1 ∙ ap length c.as_mut_slice-scanners.ensures.value) in
    subst (Each (λ (s : SeatedScanner). s.seated.table ≡ t)) (sym back)
    (scanners_of _ _ c.run_workers.new.scanners (were_scanning _ _ c.run_workers.new.scanners c.run_workers.ensures.scanners))

pub tell-requires-clause-ended : goal.tell-requires-clause-ended
tell-requires-clause-ended g c =
    let back = all_back c.in_ok-heap.seats.mutators.len c.in_ok-heap.seats.mutators.items c.run_workers.new.mutators (sym c.in_ok-heap.seats.mutators.ok.0)
    (c.run_workers.ensures.as_many.0 ∙ ap length c.as_mut_slice-mutators.ensures.value) in
    subst (Each HasEnd) (sym back) (all_ended _ 0 c.run_workers.new.mutators c.run_workers.ensures.mutators)

pub returns-clause-runs : goal.returns-clause-runs
returns-clause-runs g c =
    let code = c.args.program.now.code in
    let config = c.args.config.now in
    let t = c.in_ok-heap.heap.table.shared.table_id in
    let plan = c.in_ok-heap.heap.table.shared.key in
    let ms : List Seated = c.run_workers.new.mutators in
    let ss : List SeatedScanner = c.run_workers.new.scanners in
    let mutators = c.run_workers.ensures.as_many.0 ∙ ap length c.as_mut_slice-mutators.ensures.value in
    let scanners = c.run_workers.ensures.as_many.1 ∙ ap length c.as_mut_slice-scanners.ensures.value in
    let opened : Plan = plan_of c.len.result config in
    let many : length ms ≡ length code = mutators ∙ (ap length (mutators_by _ _ _ _ c.in-Ok.ensures.plan c.in_ok-heap.ensures.mutators) ∙ (callers_length t opened 0 c.len.result ∙ c.len.ensures)) in
    let few : length ss ≡ config.scanners = scanners ∙ (ap length (scanners_by _ _ _ _ c.in-Ok.ensures.plan c.in_ok-heap.ensures.scanners) ∙ scanners_length t opened c.len.result config.scanners) in
    let is : plan ≡ plan_of (length code) config = c.in_ok-heap.ensures.key ∙ (c.in-Ok.ensures.plan ∙ ap (λ (n : ℕ). plan_of n config) c.len.ensures) in
    let all_ms = all_back c.in_ok-heap.seats.mutators.len c.in_ok-heap.seats.mutators.items ms (sym c.in_ok-heap.seats.mutators.ok.0) mutators in
    let all_ss = all_back c.in_ok-heap.seats.scanners.len c.in_ok-heap.seats.scanners.items ss (sym c.in_ok-heap.seats.scanners.ok.0) scanners in
    of_ok (IsToldOnClose plan (take c.in_ok-heap.seats.mutators.len (ms ++ drop (length ms) c.in_ok-heap.seats.mutators.items)) (take c.in_ok-heap.seats.scanners.len (ss ++ drop (length ss) c.in_ok-heap.seats.scanners.items)))
    (Runs code c.args.turns config)
    (λ told h. runs_told code c.args.turns config t plan ms ss is many few c.run_workers.ensures.mutators c.run_workers.ensures.scanners told
    (subst (λ (z : List Seated × List SeatedScanner). IsToldOnClose plan z.0 z.1 told) (λ i. (all_ms i, all_ss i)) h))
    c.tell.result c.tell.ensures.told
