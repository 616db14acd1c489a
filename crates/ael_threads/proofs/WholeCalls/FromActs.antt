-- From acts to a call.
use Rattle.std.proofs.Common.{◌≡◌, ◌⊎◌, ⊎_elim, ℕ, inl, inr, Bool, true, false, not, Option, List, [], ◌∷◌, ◌++◌, drop, Some, None, refl, sym, ◌∙◌, ap, subst, slice_get, append_assoc}
use Rattle.std.proofs.lemmas.List.{append_cancel_right}
use Rattle.std.proofs.lemmas.Option.{same_Some}
use mathlib.Core.List.{IsPrefix}
use Rattle.gc_worker.specs.Laws.Cycles.{IsInCall}
use Rattle.ael_threads.proofs.Lists.Elements.{prefix_self, prefix_trans}
use Rattle.ael_threads.proofs.WholeCalls.Underway.{begun_by, flipped_by, heard_more, heard_past}
use Rattle.atom_store.specs.declared.reply.Reply.{Reply}
use Rattle.std.specs.Option.{is_some}
use Rattle.ael_threads.proofs.TableRule.Flips.{answers_in_epoch}
use Rattle.gc_worker.proofs.History.Extensions.{legal_last}
use Rattle.ael_threads.proofs.WorkerSeats.Shown.{present_uncounted, runs_uncounted}
use Rattle.gc_worker.proofs.History.Counted.Tallies.{entry_at}
use Rattle.plain_state.specs.declared.end.End.{End}
use Rattle.heap_state.specs.Known.{Account}
use Rattle.mutator_asm.specs.declared.instr.Instr.TheVariants.{Halt, Snap}
use Rattle.gc_worker.specs.declared.steps.stepped.Stepped.{Stepped}
use Rattle.gc_worker.specs.declared.steps.stepped.Stepped.TheVariants as stepped
use Rattle.gc_worker.specs.declared.task.Task.{Task}
use Rattle.gc_worker.specs.declared.task.Task.TheVariants.{Calls}
use Rattle.gc_worker.specs.Workers.Fits.{FitsCall}
use Rattle.plain_heap.specs.Action as plain_action
use Rattle.gc_worker.specs.Plain.Answer.{ComesTo}
use Rattle.gc_worker.specs.Laws.Between.{AreAlike, IsNoAnswer, RegistersLand, with_task, ShowsRegisters}
use Rattle.gc_worker.specs.Plain.Full.{FullWhereTold}
use Rattle.gc_worker.specs.Workers.Held.{Held}
use Rattle.gc_worker.specs.Steps.Stepped.{stepped_by, uncounted}
use Rattle.gc_worker.specs.Steps.Turned.{Told, Answers, told, turned, PageWon, won}
use Rattle.gc_worker.specs.declared.calls.call.Call.{Call}
use Rattle.ael_threads.specs.declared.view.WonClaim.{WonClaim}
use Rattle.gc_worker.specs.declared.calls.did.Did.{Did}
use Rattle.gc_worker.specs.declared.calls.did.Did.TheVariants.{Done, Trap}
use Rattle.gc_worker.specs.declared.calls.entry.Entry.{Entry}
use Rattle.gc_worker.specs.declared.calls.entry.Entry.TheVariants.{Made}
use Rattle.ael_threads.specs.declared.view.Hand.{Hand}
use Rattle.ael_threads.specs.declared.view.Plan.{Plan}
use Rattle.ael_threads.specs.declared.view.View.{View}
use Rattle.ael_threads.specs.Calls.{Called, Departs, end_by_did, FlippedByOutcome, RunsAfter, WasExecuted, StaysSilent, IsUnderWay, KnowsWorker, Rests, Waits, WinsMore, call_by}
use Rattle.gc_worker.specs.History.Tally.{EachEntry, EntryIs, IsFilledBy, Sizes, Tasks, tally, tasks_held}
use Rattle.ael_threads.specs.Histories.{opening_tally, hand, first_plain}
use Rattle.gc_worker.specs.History.Legal.{IsLegal, after_all, worker_call, extra, own_after, last_flip}
use Rattle.ael_threads.specs.Seats.{Acts, ActsBy, BeginsBySnap, Extends, IsPresent, IsRunning, Seated, Sees, ShowsSeen, first_number, first_own, plain_after_seen, seen_after, LiveWhereTold, claim_by_win, with_claim}

-- ---- pages won

wins_more : (a b c : Seated) → WinsMore a b → WinsMore b c → WinsMore a c
wins_more a b c r s = (s.0 ++ r.0, s.1 ∙ (ap (λ (cs : List WonClaim). s.0 ++ cs) r.1 ∙ sym (append_assoc s.0 r.0 a.knows.claims)))

with_claims : (cs : List WonClaim) (o : Option PageWon) → (more : List WonClaim) × (with_claim cs o ≡ more ++ cs)
with_claims cs None = ([], refl)
with_claims cs (Some w) = (claim_by_win w ∷ [], refl)

wins_by : (b c : Seated) (r : Reply) (s : Stepped) → ActsBy b r s c → WinsMore b c
wins_by b c r s h = let more = with_claims b.knows.claims (won b.worker r) in (more.0, h.knows.claims ∙ more.1)

-- ---- what rests

pub rests_same : (a b : Seated) → b.knows ≡ a.knows → Rests a b
rests_same a b same = record {
  plan = ap (λ (v : View). v.plan) same;
  number = ap (λ (v : View). first_number v.hands) same;
  own = ap (λ (v : View). first_own v.hands) same;
  others = ap (λ (v : View). drop 1 v.hands) same;
  seen = ap (λ (v : View). v.seen) same;
  heard = subst (λ (v : View). IsPrefix a.knows.heard v.heard) (sym same) (prefix_self a.knows.heard);
  claims = ([], ap (λ (v : View). v.claims) same);
}

pub rests_more : (a b c : Seated) → Rests a b → Rests b c → Rests a c
rests_more a b c r s = record {
  plan = s.plan ∙ r.plan;
  number = s.number ∙ r.number;
  own = s.own ∙ r.own;
  others = s.others ∙ r.others;
  seen = s.seen ∙ r.seen;
  heard = prefix_trans a.knows.heard b.knows.heard c.knows.heard r.heard s.heard;
  claims = wins_more a b c r.claims s.claims;
}

-- a caller that was given a task, and is in no call yet
pub under_way : (a b : Seated) (task : Task) → b.worker ≡ with_task a.worker task → b.knows ≡ a.knows → (IsInCall b.worker.stage → ⊥) → IsUnderWay a task b
under_way a b task begins same first = record {
  waits = record { asks = ap (λ (x : Held). x.task) begins; rests = rests_same a b same };
  epoch = inl (ap (λ (x : Held). x.epoch) begins);
  begun = λ call. absurd (first call);
}

-- ---- a step that answers nothing

own_kept : (m : ℕ) (own : List Call) (t : Told) → IsNoAnswer t → own_after m own t ≡ own
own_kept m own (Answers task outcome) n = absurd n
own_kept m own _ n = refl

seen_kept : (v w : View) (m : ℕ) (t : Told) → IsNoAnswer t → Sees v m t w → w.seen ≡ v.seen
seen_kept v w m (Answers task outcome) n s = absurd n
seen_kept v w m _ n s = s

pub rests_by : (b c : Seated) (r : Reply) (s : Stepped) → ActsBy b r s c → IsNoAnswer (told b.worker r) → Rests b c
rests_by b c r s h none = let k = h.knows in record {
  plan = k.plan;
  number = ap first_number k.hands;
  own = ap first_own k.hands ∙ own_kept (first_number b.knows.hands) (first_own b.knows.hands) (told b.worker r) none;
  others = ap (drop 1) k.hands;
  seen = seen_kept b.knows c.knows (first_number b.knows.hands) (told b.worker r) none k.seen;
  heard = heard_more b c r s h;
  claims = wins_by b c r s h;
}

-- neither an effect nor an end
abbrev IsNeither : Stepped → Type 0
IsNeither s = ((m : ℕ) → s ≡ stepped.Effect m → ⊥) × ((m : ℕ) (end : End) → s ≡ stepped.Ended m end → ⊥)

no_answer : (k : ℕ) (t : Told) (s : Stepped) → s ≡ stepped_by k t → IsNeither s → IsNoAnswer t
no_answer k (Answers task Done) s is n = absurd (n.0 k is)
no_answer k (Answers task (Trap end)) s is n = absurd (n.1 k end is)
no_answer k _ s is n = tt

waits_by : (a b c : Seated) (task : Task) (r : Reply) (s : Stepped) → Waits a task b → ActsBy b r s c → IsNeither s → Waits a task c
waits_by a b c task r s w h neither =
    let none = no_answer b.worker.number (told b.worker r) s h.stepped neither in record {
      asks = ap (λ (x : Held). x.task) h.worker ∙ (h.goes_on.kept none ∙ w.asks);
      rests = rests_more a b c w.rests (rests_by b c r s h none);
    }

way_by : (a b c : Seated) (task : Task) (r : Reply) (s : Stepped) → IsUnderWay a task b → ActsBy b r s c → IsNeither s → IsUnderWay a task c
way_by a b c task r s u h neither = record {
  waits = waits_by a b c task r s u.waits h neither;
  epoch = inr (heard_past a b c task r s u h);
  begun = begun_by a b c task r s u h;
}

pub way_more : (a b c : Seated) (task : Task) (s : Stepped) → IsUnderWay a task b → Acts b s c → ((m : ℕ) → s ≡ stepped.Effect m → ⊥) → ((m : ℕ) (end : End) → s ≡ stepped.Ended m end → ⊥)
    → IsUnderWay a task c
way_more a b c task stepped.Idle u h no_effect no_end = subst (IsUnderWay a task) (sym h.0) u
way_more a b c task stepped.Moved u h no_effect no_end = way_by a b c task h.0 stepped.Moved u h.1 (no_effect, no_end)
way_more a b c task stepped.Traced u h no_effect no_end = way_by a b c task h.0 stepped.Traced u h.1 (no_effect, no_end)
way_more a b c task (stepped.Effect m) u h no_effect no_end = absurd (no_effect m refl)
way_more a b c task (stepped.Flipped n) u h no_effect no_end = way_by a b c task h.0 (stepped.Flipped n) u h.1 (no_effect, no_end)
way_more a b c task (stepped.Ended m end) u h no_effect no_end = absurd (no_end m end refl)

-- ---- the step that answers

module _ (b c : Seated) (task : Task) (r : Reply) (s : Stepped) (h : ActsBy b r s c) where
  -- who executed its task runs, or it was `snap`
  done_runs : (did : Did) → told b.worker r ≡ Answers task did → WasExecuted did → (task ≡ Calls Snap) ⊎ IsRunning c.worker
  done_runs Done is done = ⊎_elim (λ (begins : BeginsBySnap b.worker.stage task). inl begins.1) (λ (runs : IsRunning (turned b.worker r)). inr (subst IsRunning (sym h.worker) (runs_uncounted (turned b.worker r) runs)))
      (h.knows.runs task is)
  done_runs (Trap end) is done = absurd done

  -- and is present
  done_present : (did : Did) → told b.worker r ≡ Answers task did → WasExecuted did → IsPresent (turned b.worker r)
  done_present Done is done = h.knows.present task is
  done_present (Trap end) is done = absurd done

  ends_by : (did : Did) → told b.worker r ≡ Answers task did → (turned b.worker r).account.end ≡ end_by_did did
  ends_by Done is = (h.knows.present task is).0
  ends_by (Trap end) is = ap (λ (a : Account). a.end) (h.goes_on.answers task (Trap end) is).after.0

runs_after : (task : Task) (x : Held) → IsPresent x → (task ≡ Calls Snap) ⊎ IsRunning x → RunsAfter task x
runs_after (Calls Snap) x present runs = present
runs_after _ x present runs = ⊎_elim (λ is. absurd (cc)) (λ (running : IsRunning x). running) runs

-- the last call of a history comes to what it may at that point
comes_last : (a : Seated) (task : Task) (did : Did) (hands : List Hand) (later : List Entry) (h : Extends a.knows.plan hands a.knows.seen (call_by a task did) later)
    → ComesTo (after_all (first_plain a.knows.plan) (a.knows.seen ++ h.between)) (first_number a.knows.hands) task did
comes_last a task did hands later h = legal_last (first_plain a.knows.plan) (a.knows.seen ++ h.between) (call_by a task did) (subst (IsLegal (first_plain a.knows.plan)) h.is h.legal)

-- and where it tells the heap to be full it is filled
filled_last : (a : Seated) (task : Task) (did : Did) (z : Sizes) (tasks : Tasks) (before : List Entry)
    → EachEntry (EntryIs z tasks) (opening_tally a.knows.plan) (before ++ Made (call_by a task did) ∷ [])
    → IsFilledBy z tasks (tally (opening_tally a.knows.plan) before) (first_number a.knows.hands) task did []
filled_last a task did z tasks before h = entry_at (EntryIs z tasks) (opening_tally a.knows.plan) before (Made (call_by a task did)) [] h

pub lands_uncounted : (n : ℕ) (words : List ℕ) (z : Held) → RegistersLand n words z → RegistersLand n words (uncounted z)
lands_uncounted n words z l = record { in_space = l.in_space; header = l.header }

-- the history that the last act found is the one before the call
found_at : (a b c : Seated) (task : Task) (did : Did) (r : Reply) (s : Stepped) (h : ActsBy b r s c) → first_number b.knows.hands ≡ first_number a.knows.hands → told b.worker r ≡ Answers task did
    → (e : Extends a.knows.plan c.knows.hands a.knows.seen (call_by a task did) c.knows.seen) → h.knows.found.log ≡ a.knows.seen ++ e.between
found_at a b c task did r s h number answers e =
    let k = h.knows in
    append_cancel_right k.found.log (a.knows.seen ++ e.between) (Made (call_by a task did) ∷ [])
    ((λ i. k.found.log ++ extra (last_flip (first_plain b.knows.plan) k.found.log) (sym number i) (sym answers i)) ∙ (sym k.grows ∙ (sym (k.sees ∙ (λ i. seen_after b.knows.seen k.stands.log (answers i))) ∙ e.is)))

calls : (a b c : Seated) (task : Task) (r : Reply) (s : Stepped) (did : Did) → IsUnderWay a task b → ActsBy b r s c → (other : Task) → told b.worker r ≡ Answers other did → Called a task did c
calls a b c task r s did u h other is =
    let w = u.waits in
    let m = first_number b.knows.hands in
    let k = h.knows in
    let answer = h.goes_on.answers other did is in
    let same : other ≡ task = same_Some other task (sym answer.asked ∙ w.asks) in
    let runs : WasExecuted did → (task ≡ Calls Snap) ⊎ IsRunning c.worker = λ yes. ⊎_elim (λ (snap : other ≡ Calls Snap). inl (sym same ∙ snap)) (λ (running : IsRunning c.worker). inr running) (done_runs b c other r s h did is yes) in
    let present : WasExecuted did → IsPresent (turned b.worker r) = done_present b c other r s h did is in
    let answers : told b.worker r ≡ Answers task did = is ∙ (λ j. Answers (same j) did) in
    let call_is : worker_call m other did ≡ call_by a task did = (λ i. worker_call (w.rests.number i) (same i) did) in
    let pages : b.knows.plan.spaces.pages ≡ a.knows.plan.spaces.pages = ap (λ (p : Plan). p.spaces.pages) w.rests.plan in
    let history : Extends a.knows.plan c.knows.hands a.knows.seen (call_by a task did) c.knows.seen =
    subst (λ (z : Plan × (List Entry × Call)). Extends z.0 c.knows.hands z.1.0 z.1.1 c.knows.seen) (λ i. (w.rests.plan i, (w.rests.seen i, call_is i)))
    (subst (λ (t : Told). Sees b.knows m t c.knows) is k.seen) in
    let ends : k.stands.log ≡ (a.knows.seen ++ history.between) ++ Made (call_by a task did) ∷ [] = sym (k.sees ∙ ap (seen_after b.knows.seen k.stands.log) is) ∙ history.is in
    let front : k.found.log ≡ a.knows.seen ++ history.between = found_at a b c task did r s h w.rests.number answers history in
    record {
      rests = ap (λ (x : Held). x.task) h.worker ∙ answer.rests;
      ends = ap (λ (x : Held). x.account.end) h.worker ∙ ends_by b c other r s h did is;
      plan = k.plan ∙ w.rests.plan;
      claims = wins_more a b c w.rests.claims (wins_by b c r s h);
      hands = k.hands ∙ ((λ i. hand m (sym h.worker i) (own_after m (first_own b.knows.hands) (is i)) ∷ drop 1 b.knows.hands) ∙ (λ i. hand (w.rests.number i) c.worker (w.rests.own i ++ call_is i ∷ []) ∷ w.rests.others i));
      history = history;
      shows = subst (λ (x : Held). ShowsSeen x c.knows) (sym h.worker) k.shows;
      last = b;
      waits = w;
      reply = r;
      stepped = s;
      acts = h;
      answers = answers;
      heard = prefix_trans a.knows.heard b.knows.heard c.knows.heard w.rests.heard (heard_more b c r s h);
      flipped = subst (λ (log : List Entry). FlippedByOutcome a task log b c did) front (flipped_by a b c task r s u h other did is);
      epoch = ap (λ (x : Held). x.epoch) h.worker ∙ answers_in_epoch b.worker r other did is;
      comes = comes_last a task did c.knows.hands c.knows.seen history;
      full = subst (λ (z : ℕ × Told). FullWhereTold z.0 k.before b.worker z.1) (λ i. (pages i, is i)) k.full;
      live = subst (λ (z : Plan × Told). LiveWhereTold (last_flip (first_plain z.0) c.knows.seen) z.1) (λ i. (w.rests.plan i, answers i)) k.live;
      filled = filled_last a task did k.stands.tallied.sizes (tasks_held k.stands.workers) (a.knows.seen ++ history.between)
          (subst (λ (z : Plan × List Entry). EachEntry (EntryIs k.stands.tallied.sizes (tasks_held k.stands.workers)) (opening_tally z.0) z.1) (λ i. (w.rests.plan i, ends i)) k.stands.tallied.entries);
      runs = λ yes. runs_after task c.worker (subst IsPresent (sym h.worker) (present_uncounted (turned b.worker r) (present yes))) (runs yes);
      lands = λ yes. subst (λ (z : ℕ × Held). RegistersLand z.0 k.after z.1) (λ i. (pages i, sym h.worker i))
          (lands_uncounted b.knows.plan.spaces.pages k.after (turned b.worker r) (k.lands (present yes)));
      alike = λ yes q its. subst (λ (x : Held). AreAlike x.registers q) (sym h.worker)
          (k.alike (present yes) q (ap (λ (j : ℕ). slice_get (plain_after_seen c.knows).mutators j) w.rests.number ∙ its));
    }

by_effect : (a b c : Seated) (task : Task) (r : Reply) (m : ℕ) → IsUnderWay a task b → ActsBy b r (stepped.Effect m) c → (t : Told) → told b.worker r ≡ t → stepped.Effect m ≡ stepped_by b.worker.number t → Called a task Done c
by_effect a b c task r m w h (Answers other Done) is e = calls a b c task r (stepped.Effect m) Done w h other is
by_effect a b c task r m w h _ is e = absurd (cc)

by_end : (a b c : Seated) (task : Task) (r : Reply) (m : ℕ) (end : End) → IsUnderWay a task b → ActsBy b r (stepped.Ended m end) c → (t : Told) → told b.worker r ≡ t → stepped.Ended m end ≡ stepped_by b.worker.number t → Called a task (Trap end) c
by_end a b c task r m end w h (Answers other (Trap why)) is e = let same : why ≡ end = cc in calls a b c task r (stepped.Ended m end) (Trap end) w h other (is ∙ ap (λ (z : End). Answers other (Trap z)) same)
by_end a b c task r m end w h _ is e = absurd (cc)

pub found_is : (a b : Seated) (task : Task) (did : Did) (c : Called a task did b) → a.knows.seen ++ c.history.between ≡ c.acts.knows.found.log
found_is a b task did c = sym (found_at a c.last b task did c.reply c.stepped c.acts c.waits.rests.number c.answers c.history)

pub executed : (a b c : Seated) (task : Task) (m : ℕ) → IsUnderWay a task b → Acts b (stepped.Effect m) c → Called a task Done c
executed a b c task m w h = by_effect a b c task h.0 m w h.1 (told b.worker h.0) refl h.1.stepped

pub ended : (a b c : Seated) (task : Task) (m : ℕ) (end : End) → IsUnderWay a task b → Acts b (stepped.Ended m end) c → Called a task (Trap end) c
ended a b c task m end w h = by_end a b c task h.0 m end w h.1 (told b.worker h.0) refl h.1.stepped

-- ---- a caller without a task

-- after an act the seat knows what the code holds
knows_by : (b c : Seated) (r : Reply) (s : Stepped) → ActsBy b r s c → KnowsWorker c
knows_by b c r s h = let k = h.knows in
    k.hands ∙ (λ i. hand (sym (ap first_number k.hands) i) (sym h.worker i) (sym (ap first_own k.hands) i) ∷ sym (ap (drop 1) k.hands) i)

pub quiet_by : (a b c : Seated) (r : Reply) (s : Stepped) → StaysSilent a b → ActsBy b r s c → StaysSilent a c
quiet_by a b c r s q h = by_told (told b.worker r) refl
  where
    by_none : IsNoAnswer (told b.worker r) → StaysSilent a c
    by_none none = record {
      none = ap (λ (x : Held). x.task) h.worker ∙ (h.goes_on.kept none ∙ q.none);
      rests = rests_more a b c q.rests (rests_by b c r s h none);
      ended = λ end is. let still = q.ended end is in ap (λ (x : Held). x.account.end) h.worker ∙ (ap (λ (k : Account). k.end) (h.goes_on.ended end still).0 ∙ still);
      shown = λ end is records m p was.
          let g = h.goes_on.ended end (q.ended end is) in
          let old = q.shown end is records m p was in record {
            counter = ap (λ (x : Held). x.account.counter) h.worker ∙ (ap (λ (k : Account). k.counter) g.0 ∙ old.counter);
            printed = ap (λ (x : Held). x.account.printed) h.worker ∙ (ap (λ (k : Account). k.printed) g.0 ∙ old.printed);
            end = ap (λ (x : Held). x.account.end) h.worker ∙ (ap (λ (k : Account). k.end) g.0 ∙ old.end);
            serial = ap (λ (x : Held). x.account.serial) h.worker ∙ (ap (λ (k : Account). k.serial) g.0 ∙ old.serial);
            registers = subst (λ (registers : List ℕ). ShowsRegisters registers p) (sym (ap (λ (x : Held). x.registers) h.worker ∙ g.1)) old.registers;
          };
      known = λ was. knows_by b c r s h;
    }

    by_told : (t : Told) → told b.worker r ≡ t → StaysSilent a c
    by_told (Answers task outcome) is = absurd (let some = (h.goes_on.answers task outcome is).asked in let none = q.none in cc)
    by_told _ is = by_none (subst IsNoAnswer (sym is) tt)

pub quiet_first : (a : Seated) → a.worker.task ≡ None → StaysSilent a a
quiet_first a none = record { none = none; rests = rests_same a a refl; ended = λ end is. is; shown = λ end is records m p was. was; known = λ was. was }

pub quiet_more : (a b c : Seated) (s : Stepped) → StaysSilent a b → Acts b s c → StaysSilent a c
quiet_more a b c stepped.Idle q h = subst (StaysSilent a) (sym h.0) q
quiet_more a b c stepped.Moved q h = quiet_by a b c h.0 stepped.Moved q h.1
quiet_more a b c stepped.Traced q h = quiet_by a b c h.0 stepped.Traced q h.1
quiet_more a b c (stepped.Effect m) q h = quiet_by a b c h.0 (stepped.Effect m) q h.1
quiet_more a b c (stepped.Flipped n) q h = quiet_by a b c h.0 (stepped.Flipped n) q h.1
quiet_more a b c (stepped.Ended m end) q h = quiet_by a b c h.0 (stepped.Ended m end) q h.1

pub quiet_all : (a b c : Seated) → StaysSilent a b → StaysSilent b c → StaysSilent a c
quiet_all a b c q r = record {
  none = r.none;
  rests = rests_more a b c q.rests r.rests;
  ended = λ end is. r.ended end (q.ended end is);
  shown = λ end is records m p was. r.shown end (q.ended end is) records m p (q.shown end is records m p was);
  known = λ was. r.known (q.known was);
}

pub departs_more : (a b c : Seated) → Departs a b → StaysSilent b c → Departs a c
departs_more a b c d q = record {
  none = q.none;
  ended = λ end is. quiet_all a b c (d.ended end is) q;
  halts = λ no_end. let h = d.halts no_end in record { did = h.did; then = h.then; called = h.called; quiet = quiet_all h.then b c h.quiet q };
}

-- with an end it is on its way out
pub departs_ended : (a : Seated) → (a.worker.account.end ≡ None → ⊥) → a.worker.task ≡ None → Departs a a
departs_ended a end none = record { none = none; ended = λ e is. quiet_first a none; halts = λ no_end. absurd (end no_end) }

-- as the code tests it
pub no_end_by : (o : Option End) (none : Bool) → is_some o ≡ not none → none ≡ true → o ≡ None
no_end_by None none is tested = refl
no_end_by (Some end) none is tested = absurd (cc)

pub departs_with : (a : Seated) (o : Option End) (none : Bool) → is_some o ≡ not none → none ≡ false → o ≡ a.worker.account.end → ((end : End) → o ≡ Some end → a.worker.task ≡ None) → Departs a a
departs_with a None none is tested same task = absurd (cc)
departs_with a (Some end) none is tested same task = departs_ended a (λ no_end. let never = same ∙ no_end in cc) (task end refl)

pub departs_halted : (a b : Seated) (did : Did) → a.worker.account.end ≡ None → Called a (Calls Halt) did b → Departs a b
departs_halted a b did no_end called = record {
  none = called.rests;
  ended = λ end is. absurd (cc);
  halts = λ none. record { did = did; then = b; called = called; quiet = quiet_first b called.rests };
}

pub halt_may_begin : (account : Account) (registers : List ℕ) → FitsCall account registers Halt
unfolding plain_action.action
halt_may_begin account registers = record { valid = refl; serial = λ m e. absurd (let no : None ≡ Some m = e in cc) }
