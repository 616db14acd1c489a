-- Histories that go on: after one step more, and in two parts.
use Rattle.std.proofs.Common.{◌≡◌, ◌≢◌, ℕ, Bool, true, false, cond, ◌==◌, List, [], ◌∷◌, ◌++◌, refl, sym, ◌∙◌, ap, append-nil, ne_eqb, eq-eqb, slice_get, length, ◌≤◌, arith}
use Rattle.std.proofs.lemmas.List.{append_cancel_left}
use Rattle.std.proofs.lemmas.Option.{slice_get_within}
use mathlib.Core.List.{IsPrefix}
use Rattle.plain_state.specs.State.{Plain, serial_of}
use Rattle.plain_heap.specs.Emptied.{cells_to_empty}
use Rattle.gc_worker.specs.Plain.Answer.{ComesTo, IsAnswered, with_emptied}
use Rattle.gc_worker.specs.Plain.Stories.{story_told}
use Rattle.gc_worker.specs.Laws.Step.{at_flip}
use Rattle.gc_worker.specs.declared.calls.did.Did.TheVariants.{Done, Trap}
use Rattle.gc_worker.specs.Steps.Turned.{Told, Silent, Empties, Answers, Marks}
use Rattle.gc_worker.specs.Laws.Between.{LeavesTheOthers}
use Rattle.gc_worker.proofs.Between.Others.{answers_leave_the_others}
use Rattle.gc_worker.specs.declared.calls.call.Call.{Call}
use Rattle.gc_worker.specs.declared.calls.entry.Entry.{Entry}
use Rattle.gc_worker.specs.declared.calls.entry.Entry.TheVariants.{Made, Exchanged, Emptied}
use Rattle.gc_worker.specs.History.Legal.{IsLegal, after_all, after_call, worker_call, calls_of, extra, flip_from, own_after}
use Rattle.gc_worker.proofs.Plain.CellTargets.Emptied.{same_serial}

pub legal_more : (p o : Plain) (log : List Entry) (m : ℕ) (t : Told) → IsLegal p log → IsAnswered (after_all p log) m t → IsLegal p (log ++ extra o m t)
legal_more p o [] m (Answers task Done) h e = (e, tt)
legal_more p o [] m (Answers task (Trap end)) h e = (e, tt)
legal_more p o (Made c ∷ es) m t h e = (h.0, legal_more (after_call p c) o es m t h.1 e)
legal_more p o (Exchanged by asked ∷ es) m t h e = legal_more p o es m t h e
legal_more p o (Emptied cells ∷ es) m t h e = legal_more (with_emptied p cells) o es m t h e
legal_more p o [] m _ h e = tt

pub legal_last : (p : Plain) (log : List Entry) (c : Call) → IsLegal p (log ++ Made c ∷ []) → ComesTo (after_all p log) c.by c.task c.did
legal_last p [] c h = h.0
legal_last p (Made d ∷ es) c h = legal_last (after_call p d) es c h.1
legal_last p (Exchanged by asked ∷ es) c h = legal_last p es c h
legal_last p (Emptied cells ∷ es) c h = legal_last (with_emptied p cells) es c h

pub after_more : (p o : Plain) (log : List Entry) (m : ℕ) (t : Told) → after_all p (log ++ extra o m t) ≡ story_told (after_all p log) o m t
after_more p o (Made c ∷ es) m t = after_more (after_call p c) o es m t
after_more p o (Exchanged by asked ∷ es) m t = after_more p o es m t
after_more p o (Emptied cells ∷ es) m t = after_more (with_emptied p cells) o es m t
after_more p o [] m (Answers _ Done) = refl
after_more p o [] m _ = refl

pub flip_more : (p o at : Plain) (log : List Entry) (m : ℕ) (t : Told) → flip_from p o (log ++ extra at m t) ≡ at_flip (after_all p log) (flip_from p o log) t
flip_more p o at (Made c ∷ es) m t = flip_more (after_call p c) o at es m t
flip_more p o at (Exchanged by asked ∷ es) m t = flip_more p p at es m t
flip_more p o at (Emptied cells ∷ es) m t = flip_more (with_emptied p cells) o at es m t
flip_more p o at [] m Silent = refl
flip_more p o at [] m _ = refl

-- ---- the calls of one worker

cond_append : (b : Bool) (c : Call) (xs ys zs : List Call) → zs ≡ xs ++ ys → cond b (c ∷ zs) zs ≡ cond b (c ∷ xs) xs ++ ys
cond_append true c xs ys zs e = ap (λ (z : List Call). c ∷ z) e
cond_append false c xs ys zs e = e

pub calls_append : (n : ℕ) (xs ys : List Entry) → calls_of n (xs ++ ys) ≡ calls_of n xs ++ calls_of n ys
calls_append n [] ys = refl
calls_append n (Made c ∷ es) ys = cond_append (c.by == n) c (calls_of n es) (calls_of n ys) (calls_of n (es ++ ys)) (calls_append n es ys)
calls_append n (Exchanged by asked ∷ es) ys = calls_append n es ys
calls_append n (Emptied cells ∷ es) ys = calls_append n es ys

-- what has no more calls of a worker than its beginning has none behind it
pub no_more : (xs ys : List Entry) (m : ℕ) → calls_of m xs ++ calls_of m ys ≡ calls_of m xs → calls_of m ys ≡ []
no_more xs ys m e = append_cancel_left (calls_of m xs) (calls_of m ys) [] (e ∙ sym (append-nil (calls_of m xs)))

pub calls_other : (o : Plain) (n : ℕ) (log : List Entry) (m : ℕ) (t : Told) → n ≢ m → calls_of n (log ++ extra o m t) ≡ calls_of n log
calls_other o n log m Silent other = ap (calls_of n) (append-nil log)
calls_other o n log m Empties other = calls_append n log (Emptied (cells_to_empty o) ∷ []) ∙ append-nil (calls_of n log)
calls_other o n log m (Answers task outcome) other = calls_append n log (Made (worker_call m task outcome) ∷ [])
    ∙ (ap (λ (b : Bool). calls_of n log ++ cond b (worker_call m task outcome ∷ []) []) (ne_eqb m n (λ e. other (sym e))) ∙ append-nil (calls_of n log))
calls_other o n log m (Marks asked) other = calls_append n log (Exchanged m asked ∷ []) ∙ append-nil (calls_of n log)

pub calls_more : (o : Plain) (log : List Entry) (m : ℕ) (t : Told) (own : List Call) → calls_of m log ≡ own → calls_of m (log ++ extra o m t) ≡ own_after m own t
calls_more o log m Silent own is = ap (calls_of m) (append-nil log) ∙ is
calls_more o log m Empties own is = calls_append m log (Emptied (cells_to_empty o) ∷ []) ∙ (append-nil (calls_of m log) ∙ is)
calls_more o log m (Answers task outcome) own is = calls_append m log (Made (worker_call m task outcome) ∷ [])
    ∙ (ap (λ (b : Bool). calls_of m log ++ cond b (worker_call m task outcome ∷ []) []) (eq-eqb m m refl) ∙ ap (λ (z : List Call). z ++ worker_call m task outcome ∷ []) is)
calls_more o log m (Marks asked) own is = calls_append m log (Exchanged m asked ∷ []) ∙ (append-nil (calls_of m log) ∙ is)

-- ---- what is not of worker m leaves its plain mutator

no_call : (b : Bool) (c : Call) (xs : List Call) → cond b (c ∷ xs) xs ≡ [] → (b ≡ false) × (xs ≡ [])
no_call true c xs e = absurd (cc)
no_call false c xs e = (refl, e)

-- neither is the first call of worker m, nor any other
pub none_first : (m : ℕ) (c : Call) (es : List Entry) → calls_of m (Made c ∷ es) ≡ [] → (m ≢ c.by) × (calls_of m es ≡ [])
none_first m c es none = let h = no_call (c.by == m) c (calls_of m es) none in ((λ e. let y : (c.by == m) ≡ true = eq-eqb c.by m (sym e) in let z = h.0 in cc), h.1)

-- mutator m and the number of its records are the same in both
pub record Agrees (m : ℕ) (p q : Plain) : Type 0 where
  pub mutator : slice_get q.mutators m ≡ slice_get p.mutators m
  pub serial : serial_of q.heap m ≡ serial_of p.heap m

pub others_keep : (p : Plain) (log : List Entry) (m : ℕ) → calls_of m log ≡ [] → Agrees m p (after_all p log)
others_keep p [] m none = record { mutator = refl; serial = refl }
others_keep p (Made c ∷ es) m none =
    let h = none_first m c es none in
    let step : LeavesTheOthers p (after_call p c) c.by = answers_leave_the_others [] p c.by (Answers c.task c.did) in
    let rest = others_keep (after_call p c) es m h.1 in
    record { mutator = rest.mutator ∙ step.mutator m h.0; serial = rest.serial ∙ step.serial m h.0 }
others_keep p (Exchanged by asked ∷ es) m none = others_keep p es m none
others_keep p (Emptied cells ∷ es) m none =
    let rest = others_keep (with_emptied p cells) es m none in
    record { mutator = rest.mutator; serial = rest.serial ∙ same_serial p cells m }

pub after_append : (p : Plain) (xs ys : List Entry) → after_all p (xs ++ ys) ≡ after_all (after_all p xs) ys
after_append p [] ys = refl
after_append p (Made c ∷ es) ys = after_append (after_call p c) es ys
after_append p (Exchanged by asked ∷ es) ys = after_append p es ys
after_append p (Emptied cells ∷ es) ys = after_append (with_emptied p cells) es ys

-- no call makes or ends a plain mutator
pub as_many : (p : Plain) (log : List Entry) → length (after_all p log).mutators ≡ length p.mutators
as_many p [] = refl
as_many p (Made c ∷ es) = as_many (after_call p c) es ∙ (answers_leave_the_others [] p c.by (Answers c.task c.did)).as_many
as_many p (Exchanged by asked ∷ es) = as_many p es
as_many p (Emptied cells ∷ es) = as_many (with_emptied p cells) es

-- a call is of a mutator that there is
pub none_past : (p : Plain) (log : List Entry) (m : ℕ) → IsLegal p log → length p.mutators ≤ m → calls_of m log ≡ []
none_past p [] m legal past = refl
none_past p (Made c ∷ es) m legal past =
    let h : ComesTo p c.by c.task c.did = legal.0 in
    let within = slice_get_within p.mutators c.by h.mutator h.is in
    let many = as_many p (Made c ∷ []) in
    rw (ne_eqb c.by m (λ e. omega (arith, within, past, e))) (none_past (after_call p c) es m legal.1 (omega (arith, many, past)))
none_past p (Exchanged by asked ∷ es) m legal past = none_past p es m legal past
none_past p (Emptied cells ∷ es) m legal past = none_past (with_emptied p cells) es m legal past

-- a beginning of a history with all calls of worker m leaves its mutator as the whole does
pub seen_keeps : (p : Plain) (seen log : List Entry) (m : ℕ) (own : List Call) → IsPrefix seen log → calls_of m seen ≡ own → calls_of m log ≡ own
    → Agrees m (after_all p seen) (after_all p log)
seen_keeps p seen log m own pre e f =
    let all : calls_of m seen ++ calls_of m pre.0 ≡ calls_of m seen = sym (calls_append m seen pre.0) ∙ (ap (calls_of m) pre.1 ∙ (f ∙ sym e)) in
    let keeps = others_keep (after_all p seen) pre.0 m (no_more seen pre.0 m all) in
    let same : after_all p log ≡ after_all (after_all p seen) pre.0 = ap (after_all p) (sym pre.1) ∙ after_append p seen pre.0 in
    record {
      mutator = ap (λ (z : Plain). slice_get z.mutators m) same ∙ keeps.mutator;
      serial = ap (λ (z : Plain). serial_of z.heap m) same ∙ keeps.serial;
    }
