-- A mutator comes to ask for a flip only if it has seen none since it began its instruction, or the space may still grow.
use Rattle.std.proofs.Common.{◌≡◌, ◌≢◌, ℕ, ◌-◌, ◌^◌, ◌<◌, ◌≤◌, ◌==◌, ◌&&◌, Bool, true, false, cond, nat_lt, Option, Some, None, refl, sym, ◌∙◌, arith, inl, inr, ⊎_elim}
use Rattle.std.specs.Prelude.{⊤}
use Rattle.std.specs.Cmp.Derive.{both_true}
use Rattle.std.proofs.lemmas.Bool.{cases_eq, cases_lt, eq-eqb, lt-ltb, or_left}
use Rattle.atom_store.specs.declared.reply.Reply.{Reply}
use Rattle.atom_store.specs.declared.turn.Turn.{Turn}
use Rattle.atom_store.specs.declared.turn.Turn.TheVariants.{More, Finished}
use Rattle.alloc_end.specs.declared.allocated.Allocated.{Allocated}
use Rattle.alloc_end.specs.declared.allocated.Allocated.TheVariants.{Placed, Full}
use Rattle.alloc_end.specs.declared.run.Run.{Run}
use Rattle.alloc_end.specs.declared.shortage.Shortage.{Shortage}
use Rattle.alloc_end.specs.Place as place
use Rattle.fault_duty.specs.declared.round_end.RoundEnd.{RoundEnd}
use Rattle.fault_duty.specs.declared.round_end.RoundEnd.TheVariants.{Marked, Traced, NothingNow}
use Rattle.fault_duty.specs.Duty as duty
use Rattle.gate_core.specs.declared.flipped.Flipped.{Flipped}
use Rattle.gate_core.specs.declared.flipped.Flipped.TheVariants as flipped
use Rattle.gate_core.specs.declared.passage.Passage.{Passage}
use Rattle.gate_core.specs.declared.passage.Passage.TheVariants.{Look, Attach, Park, Request, Resume, Forwarded, Leave, Clear}
use Rattle.gate_core.specs.declared.passed.Passed.{Passed}
use Rattle.gate_core.specs.declared.passed.Passed.TheVariants as passed
use Rattle.gate_core.specs.Flip as flip
use Rattle.gate_core.specs.Gate as gate
use Rattle.page_saves.specs.declared.save_round_end.SaveRoundEnd.{SaveRoundEnd}
use Rattle.page_saves.specs.declared.save_round_end.SaveRoundEnd.TheVariants as save_round_end
use Rattle.page_saves.specs.SaveRound as save_round
use Rattle.gc_worker.specs.Laws.Cycles.{IsFirstAt, IsFirstBy, MayAsk}
use Rattle.gc_worker.specs.Laws.Step.{read}
use Rattle.gc_worker.specs.Workers.Fits.{FitsStage, IsOwnPassage, MayRequest}
use Rattle.gc_worker.specs.declared.stage.after.After.{After}
use Rattle.gc_worker.specs.declared.stage.after.After.TheVariants as afters
use Rattle.gc_worker.specs.declared.stage.back.Back.{Back}
use Rattle.gc_worker.specs.declared.stage.goal.Goal.{Goal}
use Rattle.gc_worker.specs.declared.stage.goal.Goal.TheVariants.{ForFlip, ForSnap, ForScanner}
use Rattle.gc_worker.specs.declared.stage.Stage.{Stage}
use Rattle.gc_worker.specs.declared.stage.Stage.TheVariants.{Passes, Flips, Places, Serves, Checkpoints, Gone}
use Rattle.gc_worker.specs.Workers.Held.{Held, at_stage, has_seen_flip, making_for}
use Rattle.gc_worker.specs.Plain.Seen.{Making}
use Rattle.gc_worker.specs.Steps.Turned.{after_request, asks_flip, attached, checkpoints, end_by_shortage, ended, epoch_said, first_pointer, forwards_from, full_by, goes_back, goes_on, guards_place, in_epoch, is_full, of_round, passed_by, passes, rounded, runs_on, served_by, turned_at, turned_flip, turned_gate, turned_place, turned_round, turned_save_round, with_record}
use Rattle.gc_worker.proofs.Between.NextStages.{AsksNothing, IsNoRequest, asks_nothing, forwarding, going_back, going_on, placing_on, running_on, tracing}
use Rattle.gc_worker.proofs.Cycles.SizesRead.{IsSized}
use Rattle.gc_worker.proofs.MachineEnds.Each.{either_so}

-- in a heap with n pages a space, of which so many are in use
module _ (n size : ℕ) where
  abbrev FirstAt : Held → Stage → Type 0
  FirstAt x stage = IsFirstAt n size x stage

  abbrev First : Held → Type 0
  First x = FirstAt x x.stage

  -- ---- stages at which nobody asks for a flip

  first_by : (x : Held) (passage : Passage) (after : After) → IsNoRequest passage → IsFirstBy n size x passage after
  first_by x Request after other = absurd other
  first_by x _ after other = tt

  first_so : (x : Held) (stage : Stage) → AsksNothing stage → FirstAt x stage
  first_so x (Passes g after) nothing = first_by x g.passage after nothing
  first_so x (Flips f) nothing = absurd nothing
  first_so x (Checkpoints r ForFlip) nothing = absurd nothing
  first_so x stage nothing = tt

  module _ (x : Held) where
    -- ---- at the gate

    -- the request is its own
    asking : (after : After) → MayRequest x after → FirstAt x (passes x Request after) → First (at_stage x (after_request x after))
    asking afters.Looks may asks = absurd may
    asking afters.Places may asks = asks
    asking afters.Snaps may asks = tt

    passed_first : (after : After) (passage : Passage) (result : Passed) → IsOwnPassage x after passage → First x → FirstAt x (passes x passage after) → First (passed_by x after passage result)
    passed_first after Attach (passed.Went word) may own asks = let y = in_epoch x (epoch_said x.epoch word) in first_so (attached x word) (runs_on y afters.Looks) (running_on y afters.Looks)
    passed_first after Park (passed.NotYet word) may own asks = first_so (passed_by x after Park (passed.NotYet word)) (goes_on x after) (going_on x after)
    passed_first after Request (passed.Went word) may own asks = asking after may asks
    passed_first after (Resume epoch) (passed.Went word) may own asks = first_so (passed_by x after (Resume epoch) (passed.Went word)) (runs_on x after) (running_on x after)
    passed_first after (Resume epoch) (passed.NotYet word) may own asks =
        let y = passed_by x after (Resume epoch) (passed.NotYet word) in
        either_so (FirstAt y) (nat_lt x.epoch (epoch_said x.epoch word)) (forwards_from x after 0) (passes x (Resume x.epoch) after)
        (first_so y (forwards_from x after 0) (forwarding x after (first_pointer x.registers 8 0))) tt
    passed_first after Forwarded (passed.NotYet word) may own asks = own
    passed_first after Leave (passed.NotYet word) may own asks = own
    passed_first after Look result may own asks = own
    passed_first after Clear (passed.NotYet word) may own asks = own
    passed_first after _ _ may own asks = tt

    passing : (g : gate.Passing) (after : After) (turn : Turn Passed) → IsOwnPassage x after g.passage → First x → FirstAt x (Passes g after) → First (turned_gate x g after turn)
    passing g after More may own asks = asks
    passing g after (Finished result) may own asks = passed_first after g.passage result may own asks

    flipping : (f : flip.Flipping) (turn : Turn Flipped) → MayAsk n size x → First (turned_flip x f turn)
    flipping f More first = first
    flipping f (Finished (flipped.Went asked)) first = tt
    flipping f (Finished (flipped.NotYet word)) first = first

    -- ---- an allocation

    -- who asks for a flip has found that none came, or that the space may still grow
    full_first : (s : Shortage) (b : Bool) → s.size ≡ size → x.layout.pages ≡ n → size ≤ n → is_full x s ≡ b → First (cond b (ended x (end_by_shortage s)) (at_stage x (asks_flip x)))
    full_first s true read pages few e = tt
    full_first s false read pages few e = asks_first x.layout.checkpoints (⊎_elim
        (λ (later : x.begun < x.epoch). inr (⊎_elim
        (λ (all : s.size ≡ x.layout.pages). absurd (
        let flipped = both_true (lt-ltb x.begun x.epoch later) (eq-eqb s.size x.layout.pages all) in
        let full = or_left (has_seen_flip x && (s.size == x.layout.pages)) (x.epoch == 2 ^ 32 - 1) flipped in let no = sym full ∙ e in cc))
        (λ (fewer : s.size ≢ x.layout.pages). omega (arith, few, read, pages, fewer))
        (cases_eq s.size x.layout.pages)))
        (λ (same : x.epoch ≤ x.begun). inl same)
        (cases_lt x.begun x.epoch))
      where
        asks_first : (b : Bool) → MayAsk n size x → First (at_stage x (cond b (checkpoints x ForFlip) (passes x Request afters.Places)))
        asks_first true may = may
        asks_first false may = may

    shortage_first : (s : Shortage) (traced : Bool) → s.size ≡ size → x.layout.pages ≡ n → size ≤ n → First (full_by x s traced)
    shortage_first s false read pages few = tt
    shortage_first s true read pages few = full_first s (is_full x s) read pages few refl

    placed_first : (run : Run) (at : ℕ) (made : Option Making) → First x → First (with_record x run at made)
    placed_first run at (Some m) own = tt
    placed_first run at None own = own

    allocating : (p : place.Placing) (turn : Turn Allocated) → First x → IsSized size turn → x.layout.pages ≡ n → size ≤ n → First (turned_place x p turn)
    allocating p More own sized pages few = first_so (turned_place x p More) (guards_place x p) (placing_on x p)
    allocating p (Finished (Placed at)) own sized pages few = placed_first p.run at (making_for x x.task) own
    allocating p (Finished (Full s)) own sized pages few = shortage_first s s.traced sized pages few

    -- ---- rounds

    back_first : (z y : Held) (back : Back) → FirstAt z (goes_back y back)
    back_first z y back = first_so z (goes_back y back) (going_back y back)

    served_first : (d : duty.Round) (back : Back) (result : RoundEnd) → First (served_by x d back result)
    served_first d back Marked = back_first (served_by x d back Marked) (of_round x d) back
    served_first d back Traced = let y = served_by x d back Traced in first_so y y.stage (tracing (of_round x d) back)
    served_first d back (NothingNow word) = back_first (served_by x d back (NothingNow word)) (of_round x d) back
    served_first d back _ = tt

    serving : (d : duty.Round) (back : Back) (turn : Turn RoundEnd) → First (turned_round x d back turn)
    serving d back More = tt
    serving d back (Finished result) = served_first d back result

    -- ---- rounds for a checkpoint

    rounded_first : (goal : Goal) (result : SaveRoundEnd) → ((r : save_round.SavingRound) → FirstAt x (Checkpoints r goal)) → First (at_stage x (rounded x goal result))
    rounded_first ForFlip (save_round_end.NoneRuns _) first = first (save_round.begun_by_mutator x.layout x.epoch x.number)
    rounded_first ForFlip _ first = first (save_round.begun_by_mutator x.layout x.epoch x.number)
    rounded_first ForSnap (save_round_end.NoneRuns _) first = tt
    rounded_first _ _ first = tt

    -- whatever round it makes for this
    for_goal : (r z : save_round.SavingRound) (goal : Goal) → FirstAt x (Checkpoints r goal) → FirstAt x (Checkpoints z goal)
    for_goal r z ForFlip first = first
    for_goal r z ForSnap first = tt
    for_goal r z ForScanner first = tt

    round_first : (r : save_round.SavingRound) (goal : Goal) → FirstAt x (Checkpoints r goal) → First (at_stage x (Checkpoints r goal))
    round_first r ForFlip first = first
    round_first r ForSnap first = tt
    round_first r ForScanner first = tt

    saving : (r z : save_round.SavingRound) (goal : Goal) (turn : Turn SaveRoundEnd) → FirstAt x (Checkpoints r goal) → First (turned_save_round x z goal turn)
    saving r z goal More first = round_first z goal (for_goal r z goal first)
    saving r z goal (Finished result) first = rounded_first goal result (λ s. for_goal r s goal first)

  -- ---- each stage

  -- what an allocation that ends so far has read
  abbrev pub IsRead : Stage → Reply → Type 0
  IsRead (Places p) reply = IsSized size (place.told (place.taken p reply))
  IsRead stage reply = ⊤

  pub by_stage : (x : Held) (reply : Reply) (stage : Stage) → x.stage ≡ stage → x.layout.pages ≡ n → size ≤ n → IsRead stage reply → FitsStage x stage → First x → FirstAt x stage → First (turned_at x stage reply)
  by_stage x reply (Passes g after) e pages few read fits own first = passing x (gate.taken g reply) after (gate.told (gate.taken g reply)) fits.passage own first
  by_stage x reply (Flips f) e pages few read fits own first = flipping x (flip.taken f reply) (flip.told (flip.taken f reply)) first
  by_stage x reply (Places p) e pages few read fits own first = allocating x (place.taken p reply) (place.told (place.taken p reply)) own read pages few
  by_stage x reply (Serves d back) e pages few read fits own first = serving x (duty.taken d reply) back (duty.told (duty.taken d reply))
  by_stage x reply (Checkpoints r goal) e pages few read fits own first = saving x r (save_round.taken r reply) goal (save_round.told (save_round.taken r reply)) first
  by_stage x reply Gone e pages few read fits own first = own
  by_stage x reply stage e pages few read fits own first = let y = turned_at x stage reply in first_so y y.stage (asks_nothing x reply stage tt e)
