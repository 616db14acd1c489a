-- The epochs of workers and of the gate, and the flips of a history that its epoch counts.
use Rattle.std.proofs.Common.{◌≡◌, ℕ, ◌<◌, ◌≤◌, ◌-◌, ◌^◌, ◌⊎◌, inl, inr, ⊎_elim, true, List, [], ◌∷◌, ◌++◌, length, Some, None, refl, sym, ◌∙◌, ap, subst, arith}
use mathlib.Core.List.{IsPrefix}
use Rattle.plain_state.specs.State.{Plain}
use Rattle.heap_state.specs.Configuration.{era, team}
use Rattle.heap_state.specs.Known.{Known}
use Rattle.gc_worker.specs.declared.stage.back.Back.TheVariants.{ToScanner}
use Rattle.gc_worker.specs.declared.calls.entry.Entry.{Entry}
use Rattle.gc_worker.specs.declared.calls.entry.Entry.TheVariants.{Exchanged, Made, Emptied}
use Rattle.gc_worker.specs.declared.stage.Stage.{Stage}
use Rattle.gc_worker.specs.declared.stage.Stage.TheVariants.{Serves}
use Rattle.gc_worker.specs.declared.task.Task.{Task}
use Rattle.gc_worker.specs.Laws.Between.{IsSo, is_present}
use Rattle.gc_worker.specs.Workers.Fits.{Fits, FitsTask}
use Rattle.gc_worker.specs.Workers.Held.{Held}
use Rattle.gc_worker.specs.History.Tally.{Tally, after_entry, tally}
use Rattle.gc_worker.specs.Workers.Knows.{epoch_in, post_in}
use Rattle.gc_worker.specs.Laws.Step.{Heap, WorkersStand, epoch_of, held_at, read}
use Rattle.gc_worker.specs.Steps.Turned.{epoch_in_gate}
use Rattle.gc_worker.proofs.Between.StandingHeaps.{what_stands_is_so}
use Rattle.gc_worker.proofs.Stages.Gate.GateWords.{gate_says}
use Rattle.gc_worker.proofs.History.Counted.Tallies.{tally_append}
use Rattle.gc_worker.proofs.Workers.Members.{member}
use Rattle.ael_threads.specs.declared.view.Plan.{Plan}
use Rattle.ael_threads.specs.Began.{HasFlipped, flips_of}
use Rattle.ael_threads.specs.Histories.{opening_tally}
use Rattle.ael_threads.proofs.WorkerSeats.Shown.{mutator_at, present_aside}

-- ---- a worker's epoch

module _ (h : Heap) (p o : Plain) (st : WorkersStand h p o) (k : ℕ) (below : k < length h.workers) where
  abbrev x : Held
  x = held_at h k

  fits : Fits h.pages h.mutators k x
  fits = st.fit k below

  so : IsSo h p
  so = what_stands_is_so h p o st

  -- that of a mutator that is present is the gate's
  pub present_now : is_present (post_in x x.stage) ≡ true → epoch_of h.pages h.words ≡ x.epoch
  present_now present =
      let side = present_aside h.pages h.mutators k x fits present in
      let many = so.as_many in
      let w = mutator_at p.mutators k (omega (arith, side, many)) in
      (so.mutators k w.0 w.1).epoch present

  timely : epoch_in x.epoch x.stage ≤ epoch_of h.pages h.words
  timely =
      let there = member h p o k x st below refl in
      let past = (st.stands.invariant.workers k there.below).timely.past in
      let own : ((team (read h)).worker k).epoch ≡ epoch_in x.epoch x.stage = ap (λ (v : Known). v.epoch) there.as_known in
      let gate : epoch_of h.pages h.words ≡ (era (read h)).epoch = ap (epoch_in_gate 0) (gate_says (read h) p st.stands) in
      omega (arith, past, own, gate)

  -- that of one that has a task is not past the gate's
  pub no_later : (task : Task) → x.task ≡ Some task → x.epoch ≤ epoch_of h.pages h.words
  no_later task is = by_stage x.stage refl fits.task
    where
      present_at : (stage : Stage) → x.stage ≡ stage → is_present (post_in x stage) ≡ true → x.epoch ≤ epoch_of h.pages h.words
      present_at stage at present = let same = present_now (subst (λ (s : Stage). is_present (post_in x s) ≡ true) (sym at) present) in omega (arith, same)

      rests_at : (stage : Stage) → x.stage ≡ stage → epoch_in x.epoch stage ≡ x.epoch → x.epoch ≤ epoch_of h.pages h.words
      rests_at stage at same =
          let t = timely in
          let e : epoch_in x.epoch x.stage ≡ x.epoch = ap (epoch_in x.epoch) at ∙ same in
          omega (arith, t, e)

      by_stage : (stage : Stage) → x.stage ≡ stage → FitsTask x stage → x.epoch ≤ epoch_of h.pages h.words
      by_stage (Serves d ToScanner) at f = absurd (let none : None ≡ Some task = sym f ∙ is in cc)
      by_stage (Serves d back) at f = present_at (Serves d back) at refl
      by_stage stage at f = rests_at stage at refl

-- ---- flips

more_flips : (t : Tally) (more : List Entry) → t.flips ≤ (tally t more).flips
more_flips t [] = omega arith
more_flips t (Made c ∷ es) = more_flips (after_entry t (Made c)) es
more_flips t (Exchanged by asked ∷ es) = let more = more_flips (after_entry t (Exchanged by asked)) es in omega (arith, more)
more_flips t (Emptied cells ∷ es) = more_flips (after_entry t (Emptied cells)) es

pub flips_rise : (plan : Plan) (early late : List Entry) → IsPrefix early late → flips_of plan early ≤ flips_of plan late
flips_rise plan early late h =
    let all : flips_of plan late ≡ (tally (tally (opening_tally plan) early) h.0).flips =
    ap (λ (log : List Entry). flips_of plan log) (sym h.1) ∙ ap (λ (t : Tally). t.flips) (tally_append (opening_tally plan) early h.0) in
    let more = more_flips (tally (opening_tally plan) early) h.0 in
    omega (arith, all, more)

-- where there are more flips one stands in what came since
is_more : (t : Tally) (more : List Entry) → t.flips < (tally t more).flips → HasFlipped [] more
is_more t [] h = absurd (omega (arith, h))
is_more t (Made c ∷ es) h = let f = is_more (after_entry t (Made c)) es h in record { between = Made c ∷ f.between; by = f.by; asked = f.asked; rest = f.rest; is = ap (λ (z : List Entry). Made c ∷ z) f.is }
is_more t (Exchanged by asked ∷ es) h = record { between = []; by = by; asked = asked; rest = es; is = refl }
is_more t (Emptied cells ∷ es) h =
    let f = is_more (after_entry t (Emptied cells)) es h in
    record { between = Emptied cells ∷ f.between; by = f.by; asked = f.asked; rest = f.rest; is = ap (λ (z : List Entry). Emptied cells ∷ z) f.is }

has_flipped : (plan : Plan) (early late : List Entry) → IsPrefix early late → flips_of plan early < flips_of plan late → HasFlipped early late
has_flipped plan early late h fewer =
    let all : flips_of plan late ≡ (tally (tally (opening_tally plan) early) h.0).flips =
    ap (λ (log : List Entry). flips_of plan log) (sym h.1) ∙ ap (λ (t : Tally). t.flips) (tally_append (opening_tally plan) early h.0) in
    let f = is_more (tally (opening_tally plan) early) h.0 (omega (arith, all, fewer)) in
    record { between = f.between; by = f.by; asked = f.asked; rest = f.rest; is = sym h.1 ∙ ap (λ (z : List Entry). early ++ z) f.is }

-- so one does for a worker that has come into a later epoch since it began
pub flipped_since : (plan : Plan) (early late : List Entry) (x : Held) → IsPrefix early late → flips_of plan early ≡ x.begun → flips_of plan late ≡ x.epoch → (x.begun < x.epoch) ⊎ (x.epoch ≡ 2 ^ 32 - 1)
    → HasFlipped early late ⊎ (flips_of plan late ≡ 2 ^ 32 - 1)
flipped_since plan early late x h then now no_flip = ⊎_elim (λ (fewer : x.begun < x.epoch). inl (has_flipped plan early late h (omega (arith, fewer, now, then)))) (λ last. inr (now ∙ last)) no_flip
