-- A step that answers a mutator's task, by the laws of the heap; and what a running mutator is to the plain one.
use Rattle.std.proofs.Common.{◌≡◌, ℕ, ◌+◌, ◌<◌, true, false, List, length, slice_index, slice_get, Option, None, Some, ap, sym, subst, ◌∙◌}
use Rattle.plain_state.specs.declared.value.Value.{Value}
use Rattle.plain_state.specs.State.{Mutator, Plain}
use Rattle.atom_store.specs.declared.reply.Reply.{Reply}
use Rattle.heap_state.specs.Configuration.{Configuration, Stands, era, memory, team}
use Rattle.heap_state.specs.Memory.Entries.{IsWholeRow, Entry, row_of}
use Rattle.heap_state.specs.Invariant.Ghost.{Ghost}
use Rattle.heap_state.specs.Known.{Account, Known, is_mutator, is_running}
use Rattle.heap_laws.specs.Fields.Effects.{IsLikePlain, RegisterHolds}
use Rattle.heap_laws.specs.Fields.Held.{MutatorGoesOn, MayHold, going_on}
use Rattle.heap_laws.specs.Fields.Stores.{IsAs}
use Rattle.heap_laws.specs.Steps as law
use Rattle.heap_laws.proofs.Fields.Effects.{mutators_are_shown, registers_hold}
use Rattle.heap_laws.proofs.Fields.RunningMutators.{runs, timely}
use Rattle.heap_laws.proofs.Fields.Laws.{goes_on_so}
use Rattle.heap_laws.proofs.Lifting.Laws.{plain_steps_are_lifted}
use Rattle.gc_worker.specs.declared.task.Task.{Task}
use Rattle.gc_worker.specs.Plain.Answer.{MayCome, after_outcome, after_answer}
use Rattle.gc_worker.specs.Workers.Fits.{Fits, Takes}
use Rattle.gc_worker.specs.Plain.Full.{FullByOutcome}
use Rattle.gc_worker.specs.Steps.Goes.{Is, Goes, Wins}
use Rattle.gc_worker.specs.Workers.Held.{Held}
use Rattle.gc_worker.specs.Workers.Knows.{knows, post_in}
use Rattle.gc_worker.specs.declared.calls.did.Did.{Did}
use Rattle.gc_worker.specs.Steps.Turned.{Answers, PageWon, turned, told, won}
use Rattle.gc_worker.proofs.Words.RowSteps.{prepared}
use Rattle.heap_state.proofs.Table.Stores.{entry_has_row}

module _ (c : Configuration) (p : Plain) (s : Stands c p) (k : ℕ) (x : Held) where
  -- what a law of the heap says of a step of worker k that is one of the plain machine
  abbrev pub LawTo : (e : Option Entry) (w : Known) (h : Ghost) (q : Plain) → Type 0
  LawTo e w h q = law.StepsTo (era c) (memory c) (team c) s.ghost k e w h q

  -- the row that it says is written is one of the table, or one of those behind it
  pub row_fits_to : (e : Entry) (w : Known) (h : Ghost) (q : Plain) → k < length c.workers → LawTo (Some e) w h q → IsWholeRow c.pages (row_of e)
  row_fits_to e w h q below l = entry_has_row c.pages e (plain_steps_are_lifted c p q s (Some e) k w h below l).fits

  -- a step that answers the task, after which the worker is this
  pub answers : (e : Option Entry) (reply : Reply) (y : Held) (h : Ghost) (q : Mutator) (task : Task) (outcome : Did) → turned x reply ≡ y → told x reply ≡ Answers task outcome
      → won x reply ≡ None → k < length c.workers → slice_get p.mutators k ≡ Some q → q.end ≡ None → MayCome k p.heap q task outcome
      → LawTo e (knows y) h (after_outcome p k q task outcome) → FullByOutcome c.pages c.words x outcome → Takes x reply → Fits c.pages c.mutators k y → Goes c p s k e x reply
  answers e reply y h q task outcome same answer none below at no_end may l full takes fits =
      let as_told : LawTo e (knows (turned x reply)) h (after_answer p k task outcome (slice_get p.mutators k)) =
      subst (λ (z : Held). LawTo e (knows z) h (after_answer p k task outcome (slice_get p.mutators k))) (sym same)
      (subst (λ (o : Option Mutator). LawTo e (knows y) h (after_answer p k task outcome o)) (sym at) l) in
      record {
        takes = takes;
        fits = subst (Fits c.pages c.mutators k) (sym same) fits;
        ghost_after = h;
        leads = rw answer (plain_steps_are_lifted c p (after_answer p k task outcome (slice_get p.mutators k)) s e k (knows (turned x reply)) h below as_told);
        wins = subst (λ (w : Option PageWon). Wins c e k (turned x reply) w) (sym none) tt;
        answered = rw answer (record { mutator = q; is = at; no_end = no_end; may = may });
        full = rw answer full;
        flip = rw answer tt;
      }

  -- ---- the plain mutator

  -- a mutator of the plain state that has no end, and what the worker has
  pub record IsIts (q : Mutator) : Type 0 where
    pub is : slice_get p.mutators k ≡ Some q
    pub no_end : q.end ≡ None
    pub same : IsAs s.ghost p.heap k (knows x) q

  abbrev w : Known
  w = (team c).worker k

  its : Is c k x → x.account.end ≡ None → (q : Mutator) → IsLikePlain (era c) (memory c) (team c) s.ghost p k q → IsIts q
  its is unended q m = record {
    is = m.is;
    no_end = sym m.same.account.end ∙ (ap (λ (v : Known). v.account.end) is.as_known ∙ unended);
    same = subst (λ (v : Known). IsAs s.ghost p.heap k v q) is.as_known m.same;
  }

  -- a mutator has one, whether it runs or not
  pub own_mutator : Is c k x → x.account.end ≡ None → is_mutator (post_in x x.stage) ≡ true → (q : Mutator) × IsIts q
  own_mutator is unended mutator =
      let m = mutators_are_shown (era c) (memory c) (team c) s.ghost p k (prepared c p s k x is) s.shown (ap (λ (v : Known). is_mutator v.post) is.as_known ∙ mutator) in
      (m.0, its is unended m.0 m.1)

  module _ (is : Is c k x) (running : is_running (post_in x x.stage) ≡ true) (unended : x.account.end ≡ None) where
    as_running : is_running w.post ≡ true
    as_running = ap (λ (v : Known). is_running v.post) is.as_known ∙ running

    pub its_mutator : (q : Mutator) × IsIts q
    its_mutator = own_mutator is unended (runs (post_in x x.stage) running).mutator

    -- its registers hold what those of the plain mutator have
    pub holds : (q : Mutator) → IsIts q → (j : ℕ) → j < 8
        → (y : Value) × (slice_get q.registers j ≡ Some y) × RegisterHolds (era c) s.ghost (slice_index x.registers j) y
    holds q m j small =
        let late = timely (era c) w as_running ((s.invariant.workers k is.below).timely.running) in
        let own : IsLikePlain (era c) (memory c) (team c) s.ghost p k q = record { is = m.is; same = subst (λ (v : Known). IsAs s.ghost p.heap k v q) (sym is.as_known) m.same } in
        subst (λ (v : Known). (y : Value) × (slice_get q.registers j ≡ Some y) × RegisterHolds (era c) s.ghost (v.registers j) y) is.as_known
        (registers_hold (era c) (memory c) (team c) s.ghost p k q j (prepared c p s k x is) own (runs w.post as_running).mutator late
        (ap (λ (v : Known). v.account.end) is.as_known ∙ unended) small)

    pub may_hold : (j : ℕ) → j < 8 → MayHold (era c) s.ghost.size s.ghost.writer (slice_index x.registers j)
    may_hold j small = (holds its_mutator.0 its_mutator.1 j small).2.holds.held

    -- it goes on with another account and other registers, and accesses nothing
    pub going : (account : Account) (registers : ℕ → ℕ) → account.serial ≡ x.account.serial
        → ((j : ℕ) → j < 8 → MayHold (era c) s.ghost.size s.ghost.writer (registers j))
        → MutatorGoesOn (era c) (memory c) s.ghost w (going_on (knows x) account registers None None false)
    going account registers serial held =
        subst (λ (v : Known). MutatorGoesOn (era c) (memory c) s.ghost w (going_on v account registers None None false)) is.as_known
        (goes_on_so (era c) (memory c) (team c) s.ghost k account registers None None false (prepared c p s k x is)
        (serial ∙ sym (ap (λ (v : Known). v.account.serial) is.as_known)) (λ f e. absurd (let e = e in cc)) (λ page e. absurd (let e = e in cc)) (λ none j small. held j small) (λ e. absurd (let e = e in cc)))

  -- it has what the plain mutator has that goes on so
  pub next_as : (q : Mutator) → IsIts q → (n m : ℕ) (l o : List ℕ) → n ≡ m → l ≡ o
      → IsAs s.ghost p.heap k (going_on (knows x) (record x.account { counter = n; printed = l; executed = x.account.executed + 1 }) (λ (j : ℕ). slice_index x.registers j) None None false)
      (record q { counter = m; printed = o; executed = q.executed + 1 })
  next_as q its n m l o counter printed =
      let a = its.same.account in let r = its.same.registers in
      record {
        account = record { counter = counter; printed = printed; executed = ap (λ (n : ℕ). n + 1) a.executed; end = a.end; serial = a.serial };
        registers = record { eight = r.eight; registers_show = r.registers_show };
      }
