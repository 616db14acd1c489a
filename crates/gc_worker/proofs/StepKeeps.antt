-- The law of a step, from the laws of the kinds.
use Rattle.std.proofs.Common.{◌≡◌, ◌≢◌, ℕ, ◌+◌, ◌<◌, ◌≤◌, List, [], length, set, get_or, Option, Some, None, refl, sym, ap, subst, ◌∙◌, arith, ⊎_elim, get_or-set_same, get_or-set_other, length-set}
use Rattle.std.proofs.lemmas.Bool.{cases_eq}
use Rattle.std.proofs.lemmas.List.{map-set}
use Rattle.plain_state.specs.declared.value.Identity.{Identity}
use Rattle.plain_state.specs.State.{Plain}
use Rattle.atom_store.specs.declared.reply.Reply.{Reply}
use Rattle.atom_store.specs.declared.step.Step.{Step}
use Rattle.atom_store.specs.Step.{words_after, reply_of}
use Rattle.atom_store.proofs.StepWords.{length-words_after}
use Rattle.gate_core.specs.declared.flip_stage.FlipStage.{FlipStage}
use Rattle.gate_core.specs.declared.flip_stage.FlipStage.TheVariants as flip_stage
use Rattle.gate_core.specs.declared.gate_stage.GateStage.{GateStage}
use Rattle.gate_core.specs.declared.gate_stage.GateStage.TheVariants as gate_stage
use Rattle.gate_core.specs.Flip.{Flipping}
use Rattle.gate_core.specs.Gate.{Passing}
use Rattle.heap_state.specs.Configuration.{Configuration, Stands, table, era, memory, team}
use Rattle.heap_state.specs.Cycles.Cycle.{Cycle}
use Rattle.heap_state.specs.Memory.Entries.{Entry, GateIs}
use Rattle.heap_state.specs.Memory.Table.{word_in}
use Rattle.space_map.specs.PageWord.{age_of}
use Rattle.space_map.specs.Spaces.{Layout}
use Rattle.space_map.specs.Table.{Traced, whole_length}
use Rattle.heap_state.specs.Invariant.Ghost.{Ghost}
use Rattle.heap_laws.specs.Lifting.{StandsWith, configuration_after, LeavesConfiguration, Flipped}
use Rattle.heap_laws.specs.Tracing.{FollowsTargets}
use Rattle.gc_worker.specs.declared.stage.after.After.{After}
use Rattle.gc_worker.specs.declared.stage.Stage.{Stage}
use Rattle.gc_worker.specs.declared.stage.Stage.TheVariants.{Looks, Passes, Flips, Forwards, Accesses, Places, Serves, Scans, Evacuates, Opens, Recalls, Guards, Checkpoints, BeginsCheckpoint, Gone}
use Rattle.gc_worker.specs.Laws.Represented.{HasKept}
use Rattle.gc_worker.specs.Plain.Answer.{after_told, with_emptied}
use Rattle.gc_worker.specs.Plain.Empty.{empty_cells}
use Rattle.gc_worker.specs.Workers.Fits.{Fits}
use Rattle.gc_worker.specs.Steps.Goes.{Is, LeavesToPlain, Settles, StepsInTable, StepsSo, TracesEpoch, Wins, FlipIsOwn}
use Rattle.gc_worker.specs.Workers.Held.{Held, at_stage, has_seen_flip}
use Rattle.gc_worker.specs.Workers.Knows.{knows}
use Rattle.gc_worker.specs.Laws.Step.{Heap, read, nobody, held_at, layout_of, StandIf, WorkersStand, moved, at_flip, epoch_of, age, WinsOne, EpochStays, EpochIsTraced, FlipsOnce, FlipsWhereTold, StepKeeps, StepsKeep}
use Rattle.gc_worker.specs.Steps.Turned.{Told, Silent, Empties, Answers, Marks, PageWon, epoch_in_gate, turned, told, won}
use Rattle.gc_worker.specs.Steps.Wanted.{wanted}
use Rattle.gc_worker.proofs.Stages.Gate.Exchanging.{exchanges_gate}
use Rattle.gc_worker.proofs.Stages.Look.LookAtGate.{looks}
use Rattle.gc_worker.proofs.Stages.Access.AccessStages.{accesses}
use Rattle.gc_worker.proofs.Stages.Gate.GateWords.{gate_says}
use Rattle.gc_worker.proofs.Stages.Gate.Passing.{loads_gate}
use Rattle.gc_worker.proofs.Stages.Flip.Resetting as resetting
use Rattle.gc_worker.proofs.Stages.Flip.Flipping.{flips_gate}
use Rattle.gc_worker.proofs.Plain.CellTargets.Followed.{follows_empty}
use Rattle.gc_worker.proofs.Plain.Represented.{kept_by}
use Rattle.gc_worker.proofs.Saving.Keeping.{saving_kept}
use Rattle.gc_worker.proofs.Words.TracedWord.{traced_goes}
use Rattle.gc_worker.proofs.Workers.Members.{member}
use Rattle.gc_worker.proofs.Stages.OpenedPage.{opens}
use Rattle.gc_worker.proofs.Stages.Rounds.WholeRounds.{serves}
use Rattle.gc_worker.proofs.Stages.Rounds.RoundWords.{page_age, traced_word}
use Rattle.gc_worker.proofs.Stages.Copies.WholeCopies.{evacuates, forwards}
use Rattle.gc_worker.proofs.Stages.Place.AllocationStages.{places}
use Rattle.gc_worker.proofs.Stages.Scan.ScanStages.{scans}
use Rattle.gc_worker.proofs.Stages.Recall.Recalling.{recalls}
use Rattle.gc_worker.proofs.Stages.Guard.GuardLooks.{guards}
use Rattle.gc_worker.proofs.Stages.Checkpoints.SaveRounds.{checkpoints}
use Rattle.gc_worker.proofs.Stages.Snaps.Beginning.{snaps}
use Rattle.gc_worker.proofs.Between.KeptTasks.{workers_go_on}
use Rattle.page_scan.specs.Scanning.{Scanning}
use Rattle.page_slots.specs.declared.open_stage.OpenStage.{OpenStage}
use Rattle.page_slots.specs.declared.open_stage.OpenStage.TheVariants as open_stage
use Rattle.page_slots.specs.Open.{Opening}
use Rattle.gc_worker.specs.declared.stage.back.Back.{Back}

-- ---- each stage

-- a worker that wants nothing owes nothing
rests : (c : Configuration) (p : Plain) (s : Stands c p) (k : ℕ) (x : Held) → wanted x ≡ None → StepsSo c p s k x
rests c p s k x none q asked = absurd (let e = sym none ∙ asked in cc)

module _ (c : Configuration) (p : Plain) (s : Stands c p) (k : ℕ) (x : Held) where
  -- the worker at this stage
  abbrev Kind : Stage → Type 0
  Kind stage = Is c k (at_stage x stage) → StepsSo c p s k (at_stage x stage)

  passes : (g : Passing) (after : After) → (stage : GateStage) → g.stage ≡ stage → Kind (Passes (record g { stage = stage }) after)
  passes g after gate_stage.Loads e is = loads_gate c p s k x g.layout after g.passage is
  passes g after (gate_stage.Exchanges gate) e is = exchanges_gate c p s k x g.layout gate after g.passage is
  passes g after (gate_stage.Ended result) e is = rests c p s k (at_stage x (Passes (record g { stage = gate_stage.Ended result }) after)) refl

  flips_own : (asked : ℕ) (stage : FlipStage) → Kind (Flips (record { layout = x.layout; epoch = x.epoch; asked = asked; seen = has_seen_flip x; stage = stage }))
  flips_own asked flip_stage.LoadsGate is = resetting.loads_gate c p s k x asked is
  flips_own asked (flip_stage.LoadsSize gate) is = resetting.loads_size c p s k x asked gate is
  flips_own asked (flip_stage.LoadsArea gate size) is = resetting.loads_area c p s k x asked gate size is
  flips_own asked (flip_stage.StoresSize r) is = resetting.stores_size c p s k x asked r is
  flips_own asked (flip_stage.StoresArea r) is = resetting.stores_area c p s k x asked r is
  flips_own asked (flip_stage.ResetsWeak r) is = resetting.resets_weak c p s k x asked r is
  flips_own asked (flip_stage.Exchanges r) is = flips_gate c p s k x asked r is
  flips_own asked (flip_stage.Ended result) is =
      rests c p s k (at_stage x (Flips (record { layout = x.layout; epoch = x.epoch; asked = asked; seen = has_seen_flip x; stage = flip_stage.Ended result }))) refl

  flips : (f : Flipping) → Kind (Flips f)
  flips f is =
      let same : f ≡ record { layout = x.layout; epoch = x.epoch; asked = f.asked; seen = has_seen_flip x; stage = f.stage } =
      (λ i. record { layout = is.fits.stage.layout i; epoch = is.fits.stage.epoch i; asked = f.asked; seen = is.fits.stage.seen i; stage = f.stage }) in
      subst (λ (g : Flipping). StepsSo c p s k (at_stage x (Flips g))) (sym same)
      (flips_own f.asked f.stage (subst (λ (g : Flipping). Is c k (at_stage x (Flips g))) same is))

  opens_page : (o : Opening) (z : Scanning) (back : Back) (stage : OpenStage) → Kind (Opens (record o { stage = stage }) z back)
  opens_page o z back open_stage.StoresOpen is = opens c p s k x o z back is
  opens_page o z back (open_stage.Ended result) is = rests c p s k (at_stage x (Opens (record o { stage = open_stage.Ended result }) z back)) refl

  by_stage : (stage : Stage) → Kind stage
  by_stage Looks is = looks c p s k x is
  by_stage (Passes g after) is = passes g after g.stage refl is
  by_stage (Flips f) is = flips f is
  by_stage (Forwards w) is = forwards c p s k x w is
  by_stage (Accesses a) is = accesses c p s k x a is
  by_stage (Places z) is = places c p s k x z is
  by_stage (Serves d back) is = serves c p s k x d back is
  by_stage (Scans z back) is = scans c p s k x z back is
  by_stage (Evacuates v z back) is = evacuates c p s k x v z back is
  by_stage (Opens o z back) is = opens_page o z back o.stage is
  by_stage (Recalls r after) is = recalls c p s k x after r is
  by_stage (Guards g write) is = guards c p s k x write g is
  by_stage (Checkpoints r goal) is = checkpoints c p s k x r goal is
  by_stage (BeginsCheckpoint z) is = snaps c p s k x z is
  by_stage Gone is = rests c p s k (at_stage x Gone) refl

  pub kinds : Is c k x → StepsSo c p s k x
  kinds is = by_stage x.stage is

-- ---- the heap

-- The step is the one after which the epoch is traced. The heap then stands for each plain state that follows the targets of cells, in the
-- same cycle, if what that one has kept of checkpoints is the same.
pub record TracesHeap (h : Heap) (p o : Plain) (k : ℕ) (x : Held) (q : Step) (st : WorkersStand h p o) : Type 0 where
  pub settles : Settles (read h) p st.stands.ghost
  pub stands : (p' : Plain) → FollowsTargets (era (read h)) (memory (read h)) st.stands.ghost p p' → HasKept h.checkpoints p p' → WorkersStand (moved h k x q) p' o

module _ (h : Heap) (p o : Plain) (k : ℕ) (x : Held) (q : Step) (st : WorkersStand h p o) (l : k < length h.workers) (holds : held_at h k ≡ x) where
  abbrev r : Reply
  r = reply_of q h.words

  abbrev y : Held
  y = turned x r

  -- what is so of each worker, and of this one as it becomes, is so of each then
  each_then : (P : ℕ → Held → Type 0) → P k y → ((j : ℕ) → j < length h.workers → P j (held_at h j))
      → (j : ℕ) → j < length (set h.workers k y) → P j (get_or (set h.workers k y) j nobody)
  each_then P now was j below = ⊎_elim
      (λ (e : j ≡ k). subst (P j) (sym (ap (λ (i : ℕ). get_or (set h.workers k y) i nobody) e ∙ get_or-set_same h.workers k y nobody l)) (subst (λ (i : ℕ). P i y) (sym e) now))
      (λ (d : j ≢ k). subst (P j) (sym (get_or-set_other h.workers k j y nobody d)) (was j (let n = length-set h.workers k y in omega (arith, n, below))))
      (cases_eq j k)

  all_fit : Fits h.pages h.mutators k y → (j : ℕ) → j < length (set h.workers k y) → Fits h.pages h.mutators j (get_or (set h.workers k y) j nobody)
  all_fit fits = each_then (Fits h.pages h.mutators) fits st.fit

  -- no layout changes
  all_laid_out : (j : ℕ) → j < length (set h.workers k y) → (get_or (set h.workers k y) j nobody).layout.checkpoints ≡ h.checkpoints
  all_laid_out = each_then (λ (j : ℕ) (z : Held). z.layout.checkpoints ≡ h.checkpoints)
      (ap (λ (n : Layout). n.checkpoints) (workers_go_on h.pages h.mutators k x r (subst (Fits h.pages h.mutators k) holds (st.fit k l))).layout
      ∙ (ap (λ (z : Held). z.layout.checkpoints) (sym holds) ∙ st.laid_out k l)) st.laid_out

  -- nor the length of the words
  still_whole : whole_length (layout_of h) ≤ length (words_after q h.words)
  still_whole = rw (length-words_after q h.words) st.whole

  -- the plain state after it, by what it is to the plain machine
  abbrev then : Told → Plain
  then t = after_told (empty_cells (read (moved h k x q))) p k t

  -- what is kept of checkpoints stands, where they can be begun
  abbrev Saved : Plain → Type 0
  Saved p' = StandIf h.checkpoints (moved h k x q) p'

  module _ (steps : StepsInTable (read h) p st.stands k x q) where
    -- the configuration after the step, as the heap then is
    after : configuration_after (read h) steps.entry k (knows y) ≡ read (moved h k x q)
    after = let w = sym steps.writes in λ i. record { pages = h.pages; words = w i; mutators = h.mutators; workers = sym (map-set knows h.workers k y) i }

    abbrev later : Configuration
    later = configuration_after (read h) steps.entry k (knows y)

    -- a configuration that stands, and its cycle, are the heap's
    comes : (h' : Ghost) (p' o' : Plain) (w : StandsWith later p' h') → Cycle (era later) (memory later) (team later) h' o' → Saved p' → WorkersStand (moved h k x q) p' o'
    comes h' p' o' w cycle saved =
        let both : (d : Configuration) → later ≡ d → (s : Stands d p') × Cycle (era d) (memory d) (team d) s.ghost o' =
        λ d e. subst (λ (d : Configuration). (s : Stands d p') × Cycle (era d) (memory d) (team d) s.ghost o') e
        (w.stands, subst (λ (g : Ghost). Cycle (era later) (memory later) (team later) g o') (sym w.with_ghost) cycle) in
        let now = both (read (moved h k x q)) after in
        record { stands = now.0; cycle = now.1; fit = all_fit steps.goes.fits; laid_out = all_laid_out; whole = still_whole; saving = saved }

    -- a step that is no flip leaves it so for this plain state
    stays : (p' : Plain) (e : Option Entry) → steps.entry ≡ e → (g : Ghost) → LeavesConfiguration (read h) e k (knows y) p' st.stands.ghost g → Saved p' → WorkersStand (moved h k x q) p' o
    stays p' e same g leads saved =
        let ours : LeavesConfiguration (read h) steps.entry k (knows y) p' st.stands.ghost g = subst (λ (f : Option Entry). LeavesConfiguration (read h) f k (knows y) p' st.stands.ghost g) (sym same) leads in
        comes g p' o ours.standing (ours.cycle o st.cycle) saved

    -- where the epoch is traced it stands for each plain state that follows the targets of cells
    abbrev Follows : Plain → Type 0
    Follows p' = FollowsTargets (era (read h)) (memory (read h)) st.stands.ghost p p'

    traced : (e : Option Entry) → steps.entry ≡ e → (g : Ghost) → TracesEpoch (read h) p st.stands.ghost k e y g → (p' : Plain) → Follows p' → Saved p' → WorkersStand (moved h k x q) p' o
    traced e same g traces p' follows saved = stays p' e same g (traces.leaves p' follows) saved

    -- so does the one in which the cells are empty that the words then say are
    empties : (e : Option Entry) → steps.entry ≡ e → (g : Ghost) → TracesEpoch (read h) p st.stands.ghost k e y g → Follows (then Empties)
    empties e same g traces =
        let as_before : empty_cells (read h) ≡ empty_cells (read (moved h k x q)) =
        sym (sym (ap empty_cells after) ∙ (ap (λ (f : Option Entry). empty_cells (configuration_after (read h) f k (knows y))) same ∙ traces.empty)) in
        subst (λ (cells : List Identity). Follows (with_emptied p cells)) as_before (follows_empty (read h) p st.stands)

    -- by what it is to the plain machine
    stands_by : (t : Told) (e : Option Entry) → steps.entry ≡ e → (g : Ghost) → LeavesToPlain (read h) p st.stands.ghost k e y g t
        → Saved (then t) → WorkersStand (moved h k x q) (then t) (at_flip p o t)
    stands_by Silent e same g leads saved = stays p e same g leads saved
    stands_by Empties e same g leads saved = traced e same g leads (then Empties) (empties e same g leads) saved
    stands_by (Answers task outcome) e same g leads saved = stays (then (Answers task outcome)) e same g leads saved
    stands_by (Marks asked) (Some (GateIs gate)) same g leads saved =
        let ours : Flipped (read h) gate k (knows y) p g = leads in
        let cfg = ap (λ (f : Option Entry). configuration_after (read h) f k (knows y)) (sym same) in
        comes g p p (subst (λ (d : Configuration). StandsWith d p g) cfg ours.standing) (subst (λ (d : Configuration). Cycle (era d) (memory d) (team d) g p) cfg ours.begins) saved
    stands_by (Marks asked) _ same g leads saved = absurd leads

    -- no page word's epoch falls
    ages_by : (t : Told) (e : Option Entry) → steps.entry ≡ e → (g : Ghost) → LeavesToPlain (read h) p st.stands.ghost k e y g t
        → (page : ℕ) → age_of ((table (read h)).page page) ≤ age_of ((table later).page page)
    ages_by Silent e same g leads page =
        (subst (λ (f : Option Entry). LeavesConfiguration (read h) f k (knows y) p st.stands.ghost g) (sym same) leads).ages page
    ages_by Empties e same g leads page =
        (subst (λ (f : Option Entry). LeavesConfiguration (read h) f k (knows y) (then Empties) st.stands.ghost g) (sym same) (leads.leaves (then Empties) (empties e same g leads))).ages page
    ages_by (Marks asked) (Some (GateIs gate)) same g leads page =
        let ours : Flipped (read h) gate k (knows y) p g = leads in
        let kept : (table later).page ≡ (table (read h)).page = ap (λ (f : Option Entry). (table (configuration_after (read h) f k (knows y))).page) same ∙ ours.pages in
        rw kept (omega arith)
    ages_by (Marks asked) _ same g leads page = absurd leads
    ages_by (Answers task outcome) e same g leads page =
        (subst (λ (f : Option Entry). LeavesConfiguration (read h) f k (knows y) (then (Answers task outcome)) st.stands.ghost g) (sym same) leads).ages page

    aged : (page : ℕ) → age_of ((table later).page page) ≡ age h.pages (words_after q h.words) page
    aged page = ap (λ (d : Configuration). age_of ((table d).page page)) after ∙ page_age (read (moved h k x q)) page

    ages : (page : ℕ) → age h.pages h.words page ≤ age h.pages (words_after q h.words) page
    ages page =
        let a = ages_by (told x r) steps.entry refl steps.goes.ghost_after steps.goes.leads page in
        let b = page_age (read h) page in
        let d = aged page in
        omega (arith, a, b, d)

    -- the gate's epoch, which a flip alone raises
    abbrev now : ℕ
    now = (table (read h)).gate.epoch

    epoch_is : epoch_of h.pages h.words ≡ now
    epoch_is = ap (epoch_in_gate 0) (gate_says (read h) p st.stands)

    epoch_after : (p' o' : Plain) → WorkersStand (moved h k x q) p' o' → epoch_of h.pages (words_after q h.words) ≡ (table later).gate.epoch
    epoch_after p' o' w = ap (epoch_in_gate 0) (gate_says (read (moved h k x q)) p' w.stands) ∙ ap (λ (d : Configuration). (table d).gate.epoch) (sym after)

    same_epoch : (p' o' : Plain) → WorkersStand (moved h k x q) p' o' → (e : Option Entry) → steps.entry ≡ e → (g : Ghost) → LeavesConfiguration (read h) e k (knows y) p' st.stands.ghost g
        → epoch_of h.pages (words_after q h.words) ≡ epoch_of h.pages h.words
    same_epoch p' o' w e same g leads =
        epoch_after p' o' w ∙ ((subst (λ (f : Option Entry). LeavesConfiguration (read h) f k (knows y) p' st.stands.ghost g) (sym same) leads).epoch ∙ sym epoch_is)

    -- ---- TRACED

    -- it is what it was
    abbrev Unwritten : Type 0
    Unwritten = word_in h.pages (words_after q h.words) Traced ≡ word_in h.pages h.words Traced

    -- so an epoch that stays is traced as it was
    epoch_stays : Unwritten → epoch_of h.pages (words_after q h.words) ≡ epoch_of h.pages h.words → EpochStays h.pages h.words (words_after q h.words)
    epoch_stays word same = record { epoch = same; traced = (λ is. omega (arith, same, is, word), λ is. omega (arith, same, is, word)) }

    -- and the one that begins at a flip isn't
    next_epoch : (asked : ℕ) (p' o' : Plain) → Unwritten → FlipIsOwn (read h) x (Marks asked) → WorkersStand (moved h k x q) p' o' → (e : Option Entry) → steps.entry ≡ e → (g : Ghost)
        → LeavesToPlain (read h) p st.stands.ghost k e y g (Marks asked) → FlipsOnce h.pages h.words (words_after q h.words) x asked
    next_epoch asked p' o' word own w (Some (GateIs gate)) same g leads =
        let ours : Flipped (read h) gate k (knows y) p g = leads in
        let cfg = ap (λ (f : Option Entry). (table (configuration_after (read h) f k (knows y))).gate.epoch) same in
        let next = epoch_after p' o' w ∙ (cfg ∙ (ours.epoch ∙ ap (λ (e : ℕ). e + 1) own.1)) in
        record {
          asked_is = own.0;
          epoch = epoch_is ∙ own.1;
          next = next;
          untraced = λ is. let top = st.stands.invariant.tracing.top in let before = traced_word (read h) in let epoch = own.1 in omega (arith, is, word, top, before, epoch, next);
        }
    next_epoch asked p' o' word own w _ same g leads = absurd leads

    -- where it is told
    epoch_is_traced : WorkersStand (moved h k x q) (then Empties) o → TracesEpoch (read h) p st.stands.ghost k steps.entry y steps.goes.ghost_after
        → EpochIsTraced h.pages h.words (words_after q h.words)
    epoch_is_traced w leads =
        let epoch = same_epoch (then Empties) o w steps.entry refl steps.goes.ghost_after (leads.leaves (then Empties) (empties steps.entry refl steps.goes.ghost_after leads)) in
        let was = epoch_is in
        let word = traced_word (read h) in
        let untraced = leads.before in
        let later_word = traced_word (read (moved h k x q)) in
        let same = ap (λ (d : Configuration). (table d).traced) after in
        let is_traced = leads.traced in
        record { epoch = epoch; before = λ is. omega (arith, is, was, word, untraced); traced = omega (arith, epoch, later_word, same, is_traced, was) }

    -- ---- the epoch

    flips_by : (t : Told) → told x r ≡ t → (¬ (told x r ≡ Empties) → Unwritten) → FlipIsOwn (read h) x t → WorkersStand (moved h k x q) (then t) (at_flip p o t)
        → LeavesToPlain (read h) p st.stands.ghost k steps.entry y steps.goes.ghost_after t → FlipsWhereTold h.pages h.words (words_after q h.words) x t
    flips_by Silent tells stays own w leads = epoch_stays (stays (λ e. let f = sym tells ∙ e in cc)) (same_epoch p o w steps.entry refl steps.goes.ghost_after leads)
    flips_by Empties tells stays own w leads = epoch_is_traced w leads
    flips_by (Answers task outcome) tells stays own w leads =
        epoch_stays (stays (λ e. let f = sym tells ∙ e in cc)) (same_epoch (then (Answers task outcome)) o w steps.entry refl steps.goes.ghost_after leads)
    flips_by (Marks asked) tells stays own w leads = next_epoch asked p p (stays (λ e. let f = sym tells ∙ e in cc)) own w steps.entry refl steps.goes.ghost_after leads

    wins_by : (w : Option PageWon) → Wins (read h) steps.entry k y w → WinsOne h.pages h.words (words_after q h.words) w
    wins_by None wins = tt
    wins_by (Some w) wins =
        let b = page_age (read h) w.page in
        let d = aged w.page in
        ((λ out. omega (arith, out.epoch, wins.before, b)), record { page = wins.page; epoch = omega (arith, wins.after, d) })

    standing : Saved (then (told x r)) → WorkersStand (moved h k x q) (then (told x r)) (at_flip p o (told x r))
    standing = stands_by (told x r) steps.entry refl steps.goes.ghost_after steps.goes.leads

    keeps : (¬ (told x r ≡ Empties) → Unwritten) → Saved (then (told x r)) → StepKeeps h p o k x q
    keeps stays saved = record {
      place = steps.place;
      takes = steps.goes.takes;
      fits = steps.goes.fits;
      answered = steps.goes.answered;
      stands = standing saved;
      kept = λ w out. record { page = out.page; epoch = (let a = ages w.page in omega (arith, out.epoch, a)) };
      wins = wins_by (won x r) steps.goes.wins;
      full = steps.goes.full;
      flips = flips_by (told x r) refl stays steps.goes.flip (standing saved) steps.goes.leads;
    }

    -- ---- where the epoch is traced

    pub traces : TracesEpoch (read h) p st.stands.ghost k steps.entry y steps.goes.ghost_after → Saved p → TracesHeap h p o k x q st
    traces leads saved = record {
      settles = leads.settles;
      stands = λ p' follows kept. traced steps.entry refl steps.goes.ghost_after leads p' follows (kept_by (moved h k x q) p p' h.checkpoints saved kept);
    }

module _ (h : Heap) (p o : Plain) (k : ℕ) (x : Held) (q : Step) (st : WorkersStand h p o) (l : k < length h.workers) (holds : held_at h k ≡ x) (asked : wanted x ≡ Some q) where
  goes : StepsInTable (read h) p st.stands k x q
  goes = kinds (read h) p st.stands k x (member h p o k x st l holds) q asked

  -- no step but one that tells so writes TRACED
  unwritten : ¬ (told x (reply_of q h.words) ≡ Empties) → word_in h.pages (words_after q h.words) Traced ≡ word_in h.pages h.words Traced
  unwritten other = ⊎_elim
      (λ (stays : word_in h.pages (words_after q h.words) Traced ≡ word_in h.pages h.words Traced). stays)
      (λ (tells : told x (reply_of q h.words) ≡ Empties). absurd (other tells))
      (traced_goes h.pages h.words (read h) k x q (member h p o k x st l holds) asked)

  -- a step that tells so
  pub traces_heap : told x (reply_of q h.words) ≡ Empties → TracesHeap h p o k x q st
  traces_heap tells = traces h p o k x q st l holds goes
      (subst (LeavesToPlain (read h) p st.stands.ghost k goes.entry (turned x (reply_of q h.words)) goes.goes.ghost_after) tells goes.goes.leads)
      (subst (λ (t : Told). StandIf h.checkpoints (moved h k x q) (after_told [] p k t)) tells (saving_kept [] h p o k x q st l holds asked))

pub steps_keep : StepsKeep
steps_keep h p o k x q st l holds asked =
    keeps h p o k x q st l holds (goes h p o k x q st l holds asked) (unwritten h p o k x q st l holds asked) (saving_kept (empty_cells (read (moved h k x q))) h p o k x q st l holds asked)
