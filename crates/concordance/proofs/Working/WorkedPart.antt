-- A clerk that has read its part, has put what it noted on the board, and stands by or has left.
use Rattle.std.proofs.Common.{◌≡◌, ◌≢◌, ℕ, List, [], ◌∷◌, ◌++◌, None, refl, sym, ◌∙◌, ap, subst, append_assoc}
use Rattle.mutator_asm.specs.declared.instr.Instr.TheVariants.{Halt, Put}
use Rattle.mutator_asm.specs.declared.operand.Operand.TheVariants as operands
use Rattle.gc_worker.specs.declared.calls.call.Call.{Call}
use Rattle.gc_worker.specs.declared.calls.entry.Entry.{Entry}
use Rattle.gc_worker.specs.declared.calls.did.Did.TheVariants.{Done}
use Rattle.gc_worker.specs.declared.task.Task.{Task}
use Rattle.gc_worker.specs.declared.task.Task.TheVariants.{Calls}
use Rattle.gc_worker.specs.History.Legal.{IsLegal, worker_call}
use Rattle.ael_threads.specs.declared.view.Plan.{Plan}
use Rattle.ael_threads.specs.Calls.{Called, Halts, StaysSilent, call_by}
use Rattle.ael_threads.specs.Histories.{Each, first_plain, hand}
use Rattle.ael_threads.specs.Seats.{IsMine, Seated, ShowsSeen, first_number, first_own}
use Rattle.ael_threads.proofs.WholeCalls.Seen.{mine_more}
use Rattle.concordance_text.specs.declared.part.Part.{Part}
use Rattle.concordance_text.specs.Parts.{mentions_of_part}
use Rattle.concordance.specs.declared.registers.TheConstants.{LATEST}
use Rattle.concordance.specs.Lone.{IsLone, KeepsSeat, desk_of}
use Rattle.concordance.specs.Notes.Desks.{HasNotedJust}
use Rattle.concordance.specs.Working.{HasWorked, IsHalt, IsReady, SharedHeap}
use Rattle.concordance.proofs.Working.Silence.{HasMade, made_more, made_silent, mine_silent, stays_without_end}

-- it has read its part
pub record HasReadPart (w : SharedHeap) (k : ℕ) (part : Part) (a : Seated) : Type 0 where
  pub lone : IsLone a
  pub plan : a.knows.plan ≡ w.plan
  pub number : first_number a.knows.hands ≡ k
  pub noted : HasNotedJust (desk_of a) (mentions_of_part part)

pub has_read : (w : SharedHeap) (k : ℕ) (part : Part) (s a : Seated) → IsReady w k s → KeepsSeat s a → IsLone a → HasNotedJust (desk_of a) (mentions_of_part part) → HasReadPart w k part a
has_read w k part s a ready same lone noted = record { lone = lone; plan = same.plan ∙ ready.plan; number = same.number ∙ ready.number; noted = noted }

-- of what it puts what it noted
abbrev put_task : ℕ → Task
put_task k = Calls (Put (operands.Number k) LATEST)

module _ (w : SharedHeap) (k : ℕ) (part : Part) (a b : Seated) (read : HasReadPart w k part a) (h : Called a (put_task k) Done b) where
  abbrev n : ℕ
  n = first_number a.knows.hands

  abbrev own : List Call
  own = first_own a.knows.hands

  abbrev put : Call
  put = call_by a (put_task k) Done

  has_put : HasMade n (own ++ put ∷ []) b
  has_put = made_more n own a b (put_task k) Done read.lone.one h

  plan_then : b.knows.plan ≡ w.plan
  plan_then = h.plan ∙ read.plan

  -- it has made only `halt` since
  worked_by : (s : Seated) (rest : List Call) → HasMade n (own ++ put ∷ rest) s → Each IsHalt rest → IsMine s.knows → s.knows.plan ≡ w.plan → IsLegal (first_plain w.plan) s.knows.seen
      → (k ≡ 0 → s.worker.account.end ≡ None) → HasWorked w k part s
  worked_by s rest made halts mine plan legal stays = record {
    plan = plan;
    hands = made ∙ (λ i. hand (read.number i) s.worker (sym (ap first_own made) i) ∷ []);
    mine = mine;
    read = a;
    lone = read.lone;
    plan_read = read.plan;
    number_read = read.number;
    noted = read.noted;
    rest = rest;
    own = ap first_own made;
    halts = halts;
    legal = legal;
    stays = stays;
  }

  -- the first clerk stands by
  pub worked_first : (s : Seated) → StaysSilent b s → ShowsSeen s.worker s.knows → HasWorked w k part s
  worked_first s q shows =
      let made = made_silent n (own ++ put ∷ []) b s has_put q in
      let mine = mine_silent b s (mine_more a b (put_task k) Done h) q in
      let legal = subst (λ (z : Plan × List Entry). IsLegal (first_plain z.0) z.1) (λ i. (read.plan i, sym q.rests.seen i)) h.history.legal in
      worked_by s [] made tt mine (q.rests.plan ∙ plan_then) legal (λ first. stays_without_end a b s (put_task k) h q shows)

  -- another has left
  pub worked_other : (s : Seated) → Halts b s → k ≢ 0 → HasWorked w k part s
  worked_other s left other =
      let c = left.then in
      let q = left.quiet in
      let halt = worker_call n (Calls Halt) left.did in
      let halted : HasMade n (own ++ put ∷ halt ∷ []) c =
      made_more n (own ++ put ∷ []) b c (Calls Halt) left.did has_put left.called ∙ ap (λ (cs : List Call). hand n c.worker cs ∷ []) (append_assoc own (put ∷ []) (halt ∷ [])) in
      let made = made_silent n (own ++ put ∷ halt ∷ []) c s halted q in
      let mine = mine_silent c s (mine_more b c (Calls Halt) left.did left.called) q in
      let legal = subst (λ (z : Plan × List Entry). IsLegal (first_plain z.0) z.1) (λ i. (plan_then i, sym q.rests.seen i)) left.called.history.legal in
      worked_by s (halt ∷ []) made (refl, tt) mine (q.rests.plan ∙ (left.called.plan ∙ plan_then)) legal (λ first. absurd (other first))
