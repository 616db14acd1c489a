-- A clerk of which nothing is heard: it stands by, or has left.
use Rattle.std.proofs.Common.{◌≡◌, ℕ, List, [], ◌∷◌, ◌++◌, drop, None, Some, length, slice_get, slice_index_or, refl, sym, ◌∙◌, ap, subst, arith}
use Rattle.std.proofs.lemmas.Option.{slice_get-get_or, slice_get_within}
use Rattle.plain_state.specs.State.{Mutator, Plain}
use Rattle.plain_heap.specs.Order.{fresh}
use Rattle.gc_worker.specs.declared.calls.call.Call.{Call}
use Rattle.gc_worker.specs.declared.calls.did.Did.{Did}
use Rattle.gc_worker.specs.declared.calls.did.Did.TheVariants.{Done}
use Rattle.gc_worker.specs.declared.steps.stepped.Stepped.{Stepped}
use Rattle.gc_worker.specs.declared.steps.stepped.Stepped.TheVariants as stepped
use Rattle.gc_worker.specs.declared.task.Task.{Task}
use Rattle.gc_worker.specs.History.Legal.{after_all, calls_of, worker_call}
use Rattle.gc_worker.specs.Workers.Held.{Held}
use Rattle.gc_worker.proofs.History.Extensions.{as_many}
use Rattle.ael_threads.specs.declared.view.Hand.{Hand}
use Rattle.ael_threads.specs.declared.view.Plan.{Plan}
use Rattle.ael_threads.specs.Calls.{Called, KnowsWorker, StaysSilent}
use Rattle.ael_threads.specs.Histories.{first_plain, hand}
use Rattle.ael_threads.specs.Seats.{Acts, ActsBy, IsMine, Seated, ShowsSeen, first_number, first_own, plain_after_seen}
use Rattle.ael_threads.proofs.WholeCalls.FromActs.{quiet_first, quiet_more}

-- ---- acts with no call begun

-- nothing more is heard of it, and it shows what it showed
pub record KeepsSilent (a b : Seated) : Type 0 where
  pub table : b.table ≡ a.table
  pub silent : (s : Seated) → StaysSilent s a → StaysSilent s b
  pub shows : ShowsSeen a.worker a.knows → ShowsSeen b.worker b.knows

pub silent_first : (a : Seated) → KeepsSilent a a
silent_first a = record { table = refl; silent = λ s q. q; shows = λ shows. shows }

shows_by : (b c : Seated) (s : Stepped) → (r : _) × ActsBy b r s c → ShowsSeen c.worker c.knows
shows_by b c s h = subst (λ (x : Held). ShowsSeen x c.knows) (sym h.1.worker) h.1.knows.shows

shows_more : (b c : Seated) (s : Stepped) → Acts b s c → ShowsSeen b.worker b.knows → ShowsSeen c.worker c.knows
shows_more b c stepped.Idle h shows = subst (λ (s : Seated). ShowsSeen s.worker s.knows) (sym h.0) shows
shows_more b c stepped.Moved h shows = shows_by b c stepped.Moved h
shows_more b c stepped.Traced h shows = shows_by b c stepped.Traced h
shows_more b c (stepped.Effect m) h shows = shows_by b c (stepped.Effect m) h
shows_more b c (stepped.Flipped n) h shows = shows_by b c (stepped.Flipped n) h
shows_more b c (stepped.Ended m end) h shows = shows_by b c (stepped.Ended m end) h

-- one act more
pub silent_more : (a b c : Seated) (s : Stepped) → KeepsSilent a b → Acts b s c → c.table ≡ b.table → KeepsSilent a c
silent_more a b c s q h table = record {
  table = table ∙ q.table;
  silent = λ d was. quiet_more d b c s (q.silent d was) h;
  shows = λ was. shows_more b c s h (q.shows was);
}

pub silent_then : (a b c : Seated) → KeepsSilent a b → KeepsSilent b c → KeepsSilent a c
silent_then a b c q r = record { table = r.table ∙ q.table; silent = λ d was. r.silent d (q.silent d was); shows = λ was. r.shows (q.shows was) }

pub stays_silent : (a b : Seated) → KeepsSilent a b → a.worker.task ≡ None → StaysSilent a b
stays_silent a b q none = q.silent a (quiet_first a none)

-- ---- a clerk that has taken in nobody

-- and has made these calls
abbrev pub HasMade : ℕ → List Call → Seated → Type 0
HasMade n own s = s.knows.hands ≡ hand n s.worker own ∷ []

-- one call more
pub made_more : (n : ℕ) (own : List Call) (a b : Seated) (task : Task) (did : Did) → HasMade n own a → Called a task did b → HasMade n (own ++ worker_call n task did ∷ []) b
made_more n own a b task did made h = h.hands ∙ ap (λ (hs : List Hand). hand (first_number hs) b.worker (first_own hs ++ worker_call (first_number hs) task did ∷ []) ∷ drop 1 hs) made

pub made_silent : (n : ℕ) (own : List Call) (a b : Seated) → HasMade n own a → StaysSilent a b → HasMade n own b
made_silent n own a b made q =
    let knows : KnowsWorker b = q.known (subst (λ (hs : List Hand). hs ≡ hand (first_number hs) a.worker (first_own hs) ∷ drop 1 hs) (sym made) refl) in
    let number : first_number b.knows.hands ≡ n = q.rests.number ∙ ap first_number made in
    let calls : first_own b.knows.hands ≡ own = q.rests.own ∙ ap first_own made in
    let others : drop 1 b.knows.hands ≡ [] = q.rests.others ∙ ap (drop 1) made in
    knows ∙ (λ i. hand (number i) b.worker (calls i) ∷ others i)

pub mine_silent : (a b : Seated) → IsMine a.knows → StaysSilent a b → IsMine b.knows
mine_silent a b mine q = (λ i. calls_of (q.rests.number i) (q.rests.seen i)) ∙ (mine ∙ sym q.rests.own)

-- ---- a clerk that has no end, and stands by

-- its mutator is there after a call
mutator_there : (a b : Seated) (task : Task) (did : Did) → Called a task did b → (q : Mutator) × (slice_get (plain_after_seen b.knows).mutators (first_number a.knows.hands) ≡ Some q)
mutator_there a b task did h =
    let n = first_number a.knows.hands in
    let p = first_plain a.knows.plan in
    let before : Plain = after_all p (a.knows.seen ++ h.history.between) in
    let within = slice_get_within before.mutators n h.comes.mutator h.comes.is in
    let many = as_many p (a.knows.seen ++ h.history.between) in
    let then = as_many (first_plain b.knows.plan) b.knows.seen in
    let same : length (first_plain b.knows.plan).mutators ≡ length p.mutators = ap (λ (plan : Plan). length (first_plain plan).mutators) h.plan in (
      slice_index_or (plain_after_seen b.knows).mutators n fresh,
      slice_get-get_or (plain_after_seen b.knows).mutators n fresh (omega (arith, within, many, then, same)),
    )

pub stays_without_end : (a b c : Seated) (task : Task) → Called a task Done b → StaysSilent b c → ShowsSeen c.worker c.knows → c.worker.account.end ≡ None
stays_without_end a b c task h q shows =
    let there = mutator_there a b task Done h in
    let number : first_number b.knows.hands ≡ first_number a.knows.hands = ap first_number h.hands in
    let seen : plain_after_seen c.knows ≡ plain_after_seen b.knows = (λ i. after_all (first_plain (q.rests.plan i)) (q.rests.seen i)) in
    let here = ap (slice_get (plain_after_seen b.knows).mutators) number ∙ there.1 in
    let later = (λ i. slice_get (seen i).mutators (q.rests.number i)) ∙ here in
    (shows there.0 later).end ∙ (sym (h.shows there.0 here).end ∙ h.ends)
