-- A caller that goes on after `snap`, and what `exec` says of each instruction.
use Rattle.std.proofs.Common.{◌≡◌, ℕ, None, Some, true, ◌∷◌, ◌++◌, drop, refl, sym, ◌∙◌, ap, subst, slice_get, length, arith}
use Rattle.std.proofs.lemmas.Option.{slice_get-get_or, slice_get_within}
use Rattle.std.specs.Prelude.{slice_index_or}
use Rattle.atom_store.specs.declared.reply.Reply.{Reply}
use Rattle.plain_state.specs.State.{Mutator, Plain}
use Rattle.plain_heap.specs.Order.{fresh}
use Rattle.mutator_asm.specs.declared.instr.Instr.{Instr}
use Rattle.mutator_asm.specs.declared.instr.Instr.TheVariants.{Snap}
use Rattle.heap_state.specs.Known.{is_running}
use Rattle.gc_worker.specs.declared.calls.did.Did.{Did}
use Rattle.gc_worker.specs.declared.calls.did.Did.TheVariants.{Done, Trap}
use Rattle.gc_worker.specs.declared.stage.Stage.{Stage}
use Rattle.gc_worker.specs.declared.stage.Stage.TheVariants.{Looks}
use Rattle.gc_worker.specs.declared.steps.stepped.Stepped.{Stepped}
use Rattle.gc_worker.specs.declared.steps.stepped.Stepped.TheVariants as stepped
use Rattle.gc_worker.specs.declared.task.Task.{Task}
use Rattle.gc_worker.specs.declared.task.Task.TheVariants.{Calls}
use Rattle.gc_worker.specs.History.Legal.{after_all}
use Rattle.gc_worker.specs.Laws.Between.{AreAlike, RegistersLand}
use Rattle.gc_worker.specs.Steps.Stepped.{awaits, uncounted}
use Rattle.gc_worker.specs.Steps.Turned.{turned}
use Rattle.gc_worker.specs.Workers.Held.{Held}
use Rattle.gc_worker.specs.Workers.Knows.{post_in}
use Rattle.gc_worker.proofs.History.Extensions.{as_many}
use Rattle.ael_threads.specs.declared.view.Plan.{Plan}
use Rattle.ael_threads.specs.Calls.{Called, CalledBy, CalledSnap, GoesOn, KnowsWorker, RegistersStand}
use Rattle.ael_threads.specs.Histories.{first_plain, hand}
use Rattle.ael_threads.specs.Seats.{Acts, ActsBy, IsPresent, IsRunning, Seated, ShowsSeen, StandWith, first_number, first_own, plain_after_seen}
use Rattle.ael_threads.proofs.WholeCalls.FromActs.{lands_uncounted, quiet_by, quiet_first}
use Rattle.ael_threads.proofs.WorkerSeats.Shown.{awaits_look, present_with_count}

-- ---- an act

module _ (b c : Seated) (r : Reply) (s : Stepped) (h : ActsBy b r s c) where
  -- the registers of who is present after it stand
  pub stand_by : IsPresent c.worker → RegistersStand c
  stand_by present =
      let k = h.knows in
      let z : Held = turned b.worker r in
      let there_too : IsPresent z = present_with_count z (subst IsPresent h.worker present) in
      let number : first_number c.knows.hands ≡ first_number b.knows.hands = ap first_number k.hands in
      let there = k.stands in
      let stands : StandWith b.knows.plan (first_number b.knows.hands) (uncounted z) c.knows.seen k.after = record { history = there.history; begins = there.begins; here = there.here; tallied = there.tallied } in
      record {
        words = k.after;
        stands = subst (λ (y : Plan × ℕ × Held). StandWith y.0 y.1 y.2 c.knows.seen k.after) (λ i. (sym k.plan i, sym number i, sym h.worker i)) stands;
        lands = subst (λ (y : Plan × Held). RegistersLand y.0.spaces.pages k.after y.1) (λ i. (sym k.plan i, sym h.worker i))
            (lands_uncounted b.knows.plan.spaces.pages k.after z (k.lands there_too));
        alike = λ q its. subst (λ (x : Held). AreAlike x.registers q) (sym h.worker)
            (k.alike there_too q (subst (λ (j : ℕ). slice_get (plain_after_seen c.knows).mutators j ≡ Some q) number its));
      }

goes_by : (a b c : Seated) (r : Reply) (s : Stepped) → GoesOn a b → ActsBy b r s c → GoesOn a c
goes_by a b c r s g h = record {
  quiet = quiet_by a b c r s g.quiet h;
  shows = subst (λ (x : Held). ShowsSeen x c.knows) (sym h.worker) h.knows.shows;
  registers = stand_by b c r s h;
}

pub goes_more : (a b c : Seated) (s : Stepped) → GoesOn a b → Acts b s c → GoesOn a c
goes_more a b c stepped.Idle g h = subst (GoesOn a) (sym h.0) g
goes_more a b c stepped.Moved g h = goes_by a b c h.0 stepped.Moved g h.1
goes_more a b c stepped.Traced g h = goes_by a b c h.0 stepped.Traced g h.1
goes_more a b c (stepped.Effect m) g h = goes_by a b c h.0 (stepped.Effect m) g h.1
goes_more a b c (stepped.Flipped n) g h = goes_by a b c h.0 (stepped.Flipped n) g h.1
goes_more a b c (stepped.Ended m end) g h = goes_by a b c h.0 (stepped.Ended m end) g h.1

-- ---- a call

module _ (a b : Seated) (task : Task) (did : Did) (h : Called a task did b) where
  pub goes_first : GoesOn b b
  goes_first = record { quiet = quiet_first b h.rests; shows = h.shows; registers = stand_by h.last b h.reply h.stepped h.acts }

  -- its seat knows what its code holds
  knows_called : KnowsWorker b
  knows_called = h.hands ∙ (λ i. hand (sym (ap first_number h.hands) i) b.worker (sym (ap first_own h.hands) i) ∷ sym (ap (drop 1) h.hands) i)

  -- it is a mutator of the plain state
  mutator_there : (q : Mutator) × (slice_get (plain_after_seen b.knows).mutators (first_number a.knows.hands) ≡ Some q)
  mutator_there =
      let n = first_number a.knows.hands in
      let p = first_plain a.knows.plan in
      let before : Plain = after_all p (a.knows.seen ++ h.history.between) in
      let within = slice_get_within before.mutators n h.comes.mutator h.comes.is in
      let many = as_many p (a.knows.seen ++ h.history.between) in
      let then = as_many (first_plain b.knows.plan) b.knows.seen in
      let same : length (first_plain b.knows.plan).mutators ≡ length p.mutators = ap (λ (plan : Plan). length (first_plain plan).mutators) h.plan in (
        slice_index_or (plain_after_seen b.knows).mutators n fresh,
        slice_get-get_or (plain_after_seen b.knows).mutators n fresh (omega (arith, within, many, then, same)),
      )

  -- and has the same end as long as nothing is heard of it
  pub same_end : (c : Seated) → GoesOn b c → c.worker.account.end ≡ b.worker.account.end
  same_end c g =
      let there = mutator_there in
      let q = g.quiet in
      let number : first_number b.knows.hands ≡ first_number a.knows.hands = ap first_number h.hands in
      let seen : plain_after_seen c.knows ≡ plain_after_seen b.knows = (λ i. after_all (first_plain (q.rests.plan i)) (q.rests.seen i)) in
      let here = ap (slice_get (plain_after_seen b.knows).mutators) number ∙ there.1 in
      let later = (λ i. slice_get (seen i).mutators (q.rests.number i)) ∙ here in
      (g.shows there.0 later).end ∙ sym (h.shows there.0 here).end

-- ---- `snap`

-- who looks and has no end runs
runs_looking : (x : Held) → x.account.end ≡ None → x.stage ≡ Looks → IsRunning x
runs_looking x end looks = (end, ap (λ (stage : Stage). is_running (post_in x stage)) looks)

pub settled : (a b c : Seated) → Called a (Calls Snap) Done b → GoesOn b c → awaits c.worker ≡ true → CalledSnap a Done c
settled a b c h g awaited =
    let looks : c.worker.stage ≡ Looks = awaits_look c.worker awaited in
    let ends : c.worker.account.end ≡ None = same_end a b (Calls Snap) Done h c g ∙ h.ends in record {
      then = b;
      called = h;
      goes = g;
      known = g.quiet.known (knows_called a b (Calls Snap) Done h);
      ends = ends;
      looks = λ yes. looks;
      runs = λ yes. runs_looking c.worker ends looks;
    }

-- who got an end goes on with nothing
pub snap_ended : (a b : Seated) (did : Did) → (did ≡ Done → ⊥) → Called a (Calls Snap) did b → CalledSnap a did b
snap_ended a b Done ended h = absurd (ended refl)
snap_ended a b (Trap end) ended h = record {
  then = b;
  called = h;
  goes = goes_first a b (Calls Snap) (Trap end) h;
  known = knows_called a b (Calls Snap) (Trap end) h;
  ends = h.ends;
  looks = λ yes. absurd yes;
  runs = λ yes. absurd yes;
}

-- ---- each instruction

-- as the code has it, which goes on after an effect
pub settled_by : (a b c : Seated) (instr : Instr) (did : Did) → instr ≡ Snap → did ≡ Done → Called a (Calls instr) did b → (GoesOn b b → GoesOn b c) → awaits c.worker ≡ true → CalledBy a instr did c
settled_by a b c instr did snap done h goes awaited =
    let called : Called a (Calls Snap) Done b = subst (λ (z : Instr × Did). Called a (Calls z.0) z.1 b) (λ i. (snap i, done i)) h in
    subst (λ (z : Instr × Did). CalledBy a z.0 z.1 c) (λ i. (sym snap i, sym done i)) (settled a b c called (goes (goes_first a b (Calls Snap) Done called)) awaited)

pub ended_by : (a b : Seated) (instr : Instr) (did : Did) → instr ≡ Snap → (did ≡ Done → ⊥) → Called a (Calls instr) did b → CalledBy a instr did b
ended_by a b instr did snap ended h = subst (λ (i : Instr). CalledBy a i did b) (sym snap) (snap_ended a b did ended (subst (λ (i : Instr). Called a (Calls i) did b) snap h))

pub other_called : (a b : Seated) (instr : Instr) (did : Did) → (instr ≡ Snap → ⊥) → Called a (Calls instr) did b → CalledBy a instr did b
other_called a b Snap did other h = absurd (other refl)
other_called a b _ did other h = h

-- whichever it was, then there is no task
pub called_rests : (a b : Seated) (instr : Instr) (did : Did) → CalledBy a instr did b → b.worker.task ≡ None
called_rests a b Snap did h = h.goes.quiet.none
called_rests a b _ did h = h.rests
