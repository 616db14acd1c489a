-- Histories: which are legal, and whose calls they have.
use Rattle.std.specs.Prelude.{◌≡◌, ℕ, ◌==◌, ⊤, cond, List, [], ◌∷◌, ◌++◌, slice_get}
use Rattle.plain_state.specs.State.{Plain}
use Rattle.plain_heap.specs.Emptied.{cells_to_empty}
use Rattle.gc_worker.specs.declared.calls.did.Did.{Did}
use Rattle.gc_worker.specs.declared.calls.call.Call.{Call}
use Rattle.gc_worker.specs.declared.calls.entry.Entry.{Entry}
use Rattle.gc_worker.specs.declared.calls.entry.Entry.TheVariants.{Made, Exchanged, Emptied}
use Rattle.gc_worker.specs.declared.task.Task.{Task}
use Rattle.gc_worker.specs.Plain.Answer.{ComesTo, after_answer, with_emptied}
use Rattle.gc_worker.specs.Steps.Turned.{Told, Silent, Empties, Answers, Marks}

-- ---- calls

abbrev pub worker_call : ℕ → Task → Did → Call
worker_call m task did = record { by = m; task = task; did = did }

-- the plain state after a call
abbrev pub after_call : Plain → Call → Plain
after_call p c = after_answer p c.by c.task c.did (slice_get p.mutators c.by)

-- ---- histories

-- each call comes to what the plain machine's may at that point
abbrev pub IsLegal : Plain → List Entry → Type 0
IsLegal p [] = ⊤
IsLegal p (Made c ∷ es) = ComesTo p c.by c.task c.did × IsLegal (after_call p c) es
IsLegal p (Exchanged by asked ∷ es) = IsLegal p es
IsLegal p (Emptied cells ∷ es) = IsLegal (with_emptied p cells) es

abbrev pub after_all : Plain → List Entry → Plain
after_all p [] = p
after_all p (Made c ∷ es) = after_all (after_call p c) es
after_all p (Exchanged by asked ∷ es) = after_all p es
after_all p (Emptied cells ∷ es) = after_all (with_emptied p cells) es

-- the plain state at the last flip, or at the beginning
abbrev pub flip_from : (p o : Plain) → List Entry → Plain
flip_from p o [] = o
flip_from p o (Made c ∷ es) = flip_from (after_call p c) o es
flip_from p o (Exchanged by asked ∷ es) = flip_from p p es
flip_from p o (Emptied cells ∷ es) = flip_from (with_emptied p cells) o es

abbrev pub last_flip : Plain → List Entry → Plain
last_flip p log = flip_from p p log

-- where the history tells that cells lost their targets, these are just those whose targets weren't reachable at the flip before
abbrev pub EmptiesLost : (p o : Plain) → List Entry → Type 0
EmptiesLost p o [] = ⊤
EmptiesLost p o (Made c ∷ es) = EmptiesLost (after_call p c) o es
EmptiesLost p o (Exchanged by asked ∷ es) = EmptiesLost p p es
EmptiesLost p o (Emptied cells ∷ es) = (cells ≡ cells_to_empty o) × EmptiesLost (with_emptied p cells) o es

-- the calls of one worker
abbrev pub calls_of : ℕ → List Entry → List Call
calls_of n [] = []
calls_of n (Made c ∷ es) = cond (c.by == n) (c ∷ calls_of n es) (calls_of n es)
calls_of n (Exchanged by asked ∷ es) = calls_of n es
calls_of n (Emptied cells ∷ es) = calls_of n es

-- what a step of worker m adds to the history, where o is the plain state at the last flip
abbrev pub extra : (o : Plain) → ℕ → Told → List Entry
extra o m Silent = []
extra o m Empties = Emptied (cells_to_empty o) ∷ []
extra o m (Answers task did) = Made (worker_call m task did) ∷ []
extra o m (Marks asked) = Exchanged m asked ∷ []

-- what worker m has made after it
abbrev pub own_after : ℕ → List Call → Told → List Call
own_after m own Silent = own
own_after m own Empties = own
own_after m own (Answers task did) = own ++ worker_call m task did ∷ []
own_after m own (Marks asked) = own
