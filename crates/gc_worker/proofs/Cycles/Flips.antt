-- Who asks for a flip has seen none since it began its instruction, or the space may still grow.
use Rattle.std.proofs.Common.{◌≡◌, ◌≢◌, ℕ, ◌<◌, ◌≤◌, List, length, Some, refl, ap, sym, subst, ◌∙◌, arith, ⊎_elim, get_or-set_same, get_or-set_other, length-set}
use Rattle.std.specs.Prelude.{⊤}
use Rattle.std.proofs.lemmas.Bool.{cases_eq}
use Rattle.plain_state.specs.State.{Plain}
use Rattle.atom_store.specs.declared.step.Step.{Step}
use Rattle.atom_store.specs.Step.{words_after, reply_of}
use Rattle.space_map.specs.Spaces.{to_space}
use Rattle.heap_state.specs.Configuration.{Configuration, Stands, era}
use Rattle.heap_state.specs.Known.{Known, is_running}
use Rattle.atom_store.specs.declared.reply.Reply.{Reply}
use Rattle.atom_store.specs.declared.turn.Turn.{Turn}
use Rattle.atom_store.specs.declared.turn.Turn.TheVariants.{More, Finished}
use Rattle.gate_core.specs.declared.flipped.Flipped.{Flipped}
use Rattle.gate_core.specs.declared.flipped.Flipped.TheVariants as flipped
use Rattle.gate_core.specs.declared.passage.Passage.{Passage}
use Rattle.gate_core.specs.declared.passage.Passage.TheVariants.{Request}
use Rattle.gate_core.specs.Flip as flip
use Rattle.gate_core.specs.Gate as gate
use Rattle.page_saves.specs.SaveRound as save_round
use Rattle.gc_worker.specs.Laws.Cycles.{IsFirst, IsFirstAt, IsFirstBy, FlipsStayFirst, FlipsAreFirst, SizeGoes, size_of}
use Rattle.gc_worker.specs.Laws.Step.{FlipsWhereTold, Heap, StepKeeps, WorkersStand, at_flip, held_at, moved, nobody, read}
use Rattle.gc_worker.specs.Plain.Answer.{after_told}
use Rattle.gc_worker.specs.Plain.Empty.{empty_cells}
use Rattle.gc_worker.specs.Steps.Goes.{Is}
use Rattle.gc_worker.specs.Steps.Wanted.{wanted}
use Rattle.gc_worker.specs.Workers.Fits.{FitsPlace}
use Rattle.gc_worker.specs.Workers.Knows.{post_before, size_at}
use Rattle.gc_worker.specs.declared.stage.after.After.{After}
use Rattle.gc_worker.specs.declared.stage.goal.Goal.{Goal}
use Rattle.gc_worker.specs.declared.stage.goal.Goal.TheVariants.{ForFlip, ForSnap, ForScanner}
use Rattle.gc_worker.specs.declared.stage.Stage.{Stage}
use Rattle.gc_worker.specs.declared.stage.Stage.TheVariants.{Passes, Flips, Places, Checkpoints}
use Rattle.gc_worker.specs.Workers.Held.{Held, at_stage}
use Rattle.gc_worker.specs.Steps.Turned.{Told, Marks, told, told_at, told_flip, turned, turned_at, turned_flip}
use Rattle.gc_worker.proofs.Between.Pages.Claims.{flips_at}
use Rattle.gc_worker.proofs.Cycles.Lows.{of_now}
use Rattle.gc_worker.proofs.Cycles.SizesOfSpaces.{sizes_are_within, sizes_stay}
use Rattle.gc_worker.proofs.StepKeeps.{steps_keep}
use Rattle.gc_worker.proofs.Words.Eras.{span_is}
use Rattle.gc_worker.proofs.Words.GrownSizes.{size_now}
use Rattle.gc_worker.proofs.Workers.Members.{member}
use Rattle.gc_worker.proofs.Cycles.SizesRead.{sized}
use Rattle.gc_worker.proofs.Cycles.FirstSteps.{IsRead, by_stage}

-- ---- the other workers

-- at this stage a mutator asks for a flip, or makes it
abbrev Asks : Passage → Type 0
Asks Request = ⊤
Asks passage = ⊥

-- or makes rounds for it first
abbrev AsksFor : Goal → Type 0
AsksFor ForFlip = ⊤
AsksFor goal = ⊥

abbrev AsksAt : Stage → Type 0
AsksAt (Passes g after) = Asks g.passage
AsksAt (Flips f) = ⊤
AsksAt (Checkpoints r goal) = AsksFor goal
AsksAt stage = ⊥

passage_beside : (n size later : ℕ) (x : Held) (passage : Passage) (after : After) → ¬ (Asks passage) → IsFirstBy n size x passage after → IsFirstBy n later x passage after
passage_beside n size later x Request after none first = absurd (none tt)
passage_beside n size later x passage after none first = tt

round_beside : (n size later : ℕ) (x : Held) (r : save_round.SavingRound) (goal : Goal) → ¬ (AsksFor goal) → IsFirstAt n later x (Checkpoints r goal)
round_beside n size later x r ForFlip none = absurd (none tt)
round_beside n size later x r ForSnap none = tt
round_beside n size later x r ForScanner none = tt

-- of one that asks for none nothing is said
first_beside : (n size later : ℕ) (x : Held) (stage : Stage) → ¬ (AsksAt stage) → IsFirstAt n size x stage → IsFirstAt n later x stage
first_beside n size later x (Passes g after) none first = passage_beside n size later x g.passage after none first
first_beside n size later x (Flips f) none first = absurd (none tt)
first_beside n size later x (Checkpoints r goal) none first = round_beside n size later x r goal none
first_beside n size later x stage none first = tt

-- one that asks is of the gate's epoch
module _ (c : Configuration) (p : Plain) (s : Stands c p) (j : ℕ) (y : Held) where
  by_passage : (g : gate.Passing) (after : After) (passage : Passage) → g.passage ≡ passage → Is c j (at_stage y (Passes g after)) → Asks passage → y.epoch ≡ (era c).epoch
  by_passage g after Request e is asks =
      let t = (s.invariant.workers j is.below).timely in
      sym (ap (λ (w : Known). w.epoch) is.as_known) ∙ t.running (ap (λ (w : Known). is_running w.post) is.as_known ∙ ap (λ (q : Passage). is_running (post_before q)) e)
  by_passage g after _ e is asks = absurd asks

  by_goal : (r : save_round.SavingRound) (goal : Goal) → Is c j (at_stage y (Checkpoints r goal)) → AsksFor goal → y.epoch ≡ (era c).epoch
  by_goal r ForFlip is asks =
      let t = (s.invariant.workers j is.below).timely in
      sym (ap (λ (w : Known). w.epoch) is.as_known) ∙ t.running (ap (λ (w : Known). is_running w.post) is.as_known)
  by_goal r ForSnap is asks = absurd asks
  by_goal r ForScanner is asks = absurd asks

  asks_now : (stage : Stage) → Is c j (at_stage y stage) → AsksAt stage → y.epoch ≡ (era c).epoch
  asks_now (Passes g after) is asks = by_passage g after g.passage refl is asks
  asks_now (Flips f) is asks =
      let t = (s.invariant.workers j is.below).timely in
      sym (ap (λ (w : Known). w.epoch) is.as_known) ∙ t.asking (rw is.as_known refl)
  asks_now (Checkpoints r goal) is asks = by_goal r goal is asks
  asks_now _ is asks = absurd asks

-- ---- a step

module _ (h : Heap) (p o : Plain) (k : ℕ) (x : Held) (q : Step) (st : WorkersStand h p o) (l : k < length h.workers) (holds : held_at h k ≡ x) (asked : wanted x ≡ Some q)
    (all : (j : ℕ) → j < length h.workers → IsFirst h.pages h.words (held_at h j)) where
  abbrev n : ℕ
  n = h.pages

  abbrev later : List ℕ
  later = words_after q h.words

  abbrev reply : Reply
  reply = reply_of q h.words

  abbrev u : Told
  u = told x reply

  abbrev size : ℕ
  size = size_of n h.words

  abbrev next : Heap
  next = moved h k x q

  law : StepKeeps h p o k x q
  law = steps_keep h p o k x q st l holds asked

  goes : SizeGoes n h.words later u
  goes = sizes_stay h p o k x q st l holds asked

  there : Is (read h) k x
  there = member h p o k x st l holds

  few : size ≤ n
  few = (sizes_are_within h p o st).1

  -- an allocation has read the size of the gate's epoch's space
  read_by : (stage : Stage) → x.stage ≡ stage → IsRead n size stage reply
  read_by (Places z) e = sized size z z.stage reply fits.going (λ found is. seen found is)
    where
      is_there : Is (read h) k (at_stage x (Places z))
      is_there = subst (Is (read h) k) (ap (at_stage x) e) there

      fits : FitsPlace (at_stage x (Places z)) z
      fits = is_there.fits.stage

      seen : (found : ℕ) → size_at z.stage ≡ Some found → found ≡ size
      seen found is =
          let knows_it = ((st.stands.invariant.workers k is_there.below).size_seen found (ap (λ (w : Known). w.size_seen) is_there.as_known ∙ is)).1 in
          let span = span_is (read h) in
          let here : size_now (read h) (to_space (era (read h)).epoch) ≡ size = ap (λ (e : ℕ). size_now (read h) (to_space e)) (of_now h p o k x st) in
          omega (arith, knows_it, span, here)
  read_by _ e = tt

  own : IsFirstAt n size x x.stage
  own = subst (IsFirst n h.words) holds (all k l)

  -- by the size before the step
  turned_first : IsFirstAt n size (turned x reply) (turned x reply).stage
  turned_first = by_stage n size x reply x.stage refl there.fits.pages few (read_by x.stage refl) there.fits.stage own own

  -- after its flip it resumes
  resumes : (f : flip.Flipping) (turn : Turn Flipped) (pages : ℕ) → told_flip turn ≡ Marks pages → IsFirst n later (turned_flip x f turn)
  resumes f More pages e = absurd (cc)
  resumes f (Finished (flipped.Went asked)) pages e = tt
  resumes f (Finished (flipped.NotYet word)) pages e = absurd (cc)

  flipper_first : (pages : ℕ) → u ≡ Marks pages → IsFirst n later (turned x reply)
  flipper_first pages e =
      let f = flips_at x reply pages x.stage e in
      subst (λ (s : Stage). IsFirst n later (turned_at x s reply)) (sym f.1)
      (resumes (flip.taken f.0 reply) (flip.told (flip.taken f.0 reply)) pages (sym (ap (λ (s : Stage). told_at x s reply) f.1) ∙ e))

  own_first : (t : Told) → u ≡ t → SizeGoes n h.words later t → IsFirst n later (turned x reply)
  own_first (Marks pages) e grows = flipper_first pages e
  own_first _ e same = subst (λ (s : ℕ). IsFirstAt n s (turned x reply) (turned x reply).stage) (sym same) turned_first

  -- another worker
  module _ (j : ℕ) (inside : j < length h.workers) (other : j ≢ k) where
    abbrev y : Held
    y = held_at h j

    keeps : held_at next j ≡ y
    keeps = get_or-set_other h.workers k j (turned x reply) nobody other

    many : length next.workers ≡ length h.workers
    many = length-set h.workers k (turned x reply)

    -- at a flip nobody asks for another one
    none_asks : (pages : ℕ) → u ≡ Marks pages → ¬ (AsksAt y.stage)
    none_asks pages e asks =
        let then : Plain = after_told (empty_cells (read next)) p k u in
        let once = subst (FlipsWhereTold n h.words later x) e law.flips in
        let was = asks_now (read h) p st.stands j y y.stage (member h p o j y st inside refl) asks in
        let after = law.stands in
        let now = asks_now (read next) then after.stands j y y.stage (member next then (at_flip p o u) j y after (subst (λ (m : ℕ). j < m) (sym many) inside) keeps) asks in
        let before = of_now h p o k x st in
        let behind = of_now next then (at_flip p o u) k x after in
        omega (arith, once.epoch, once.next, was, now, before, behind)

    other_first : (t : Told) → u ≡ t → SizeGoes n h.words later t → IsFirst n later y
    other_first (Marks pages) e grows = first_beside n size (size_of n later) y y.stage (none_asks pages e) (all j inside)
    other_first _ e same = subst (λ (s : ℕ). IsFirstAt n s y y.stage) (sym same) (all j inside)

  pub stays_first : (j : ℕ) → j < length h.workers → IsFirst n later (held_at next j)
  stays_first j inside = ⊎_elim
      (λ (same : j ≡ k). subst (λ (i : ℕ). IsFirst n later (held_at next i)) (sym same) (subst (IsFirst n later) (sym (get_or-set_same h.workers k (turned x reply) nobody l)) (own_first u refl goes)))
      (λ (other : j ≢ k). subst (IsFirst n later) (sym (keeps j inside other)) (other_first j inside other u refl goes))
      (cases_eq j k)

pub flips_stay_first : FlipsStayFirst
flips_stay_first h p o k x q st l holds asked all = stays_first h p o k x q st l holds asked all

pub flips_are_first : FlipsAreFirst
flips_are_first n words x reply asked first tells = let f = flips_at x reply asked x.stage tells in subst (IsFirstAt n (size_of n words) x) f.1 first
