-- A clerk that has taken in all others: nobody else makes calls.
use Rattle.std.proofs.Common.{◌≡◌, ℕ, ◌<◌, ◌≤◌, ◌⊎◌, inl, inr, Bool, false, cond, List, [], ◌∷◌, ◌++◌, drop, length, refl, ap, sym, ◌∙◌, subst, append_assoc, append-nil, eq-eqb}
use Rattle.std.proofs.lemmas.Bool.{cases_lt}
use Rattle.std.proofs.lemmas.List.{append_cancel_left, append_cancel_right}
use Rattle.plain_state.specs.State.{Plain}
use Rattle.gc_worker.specs.declared.calls.call.Call.{Call}
use Rattle.gc_worker.specs.declared.calls.did.Did.{Did}
use Rattle.gc_worker.specs.declared.calls.entry.Entry.{Entry}
use Rattle.gc_worker.specs.declared.calls.entry.Entry.TheVariants.{Made, Exchanged, Emptied}
use Rattle.gc_worker.specs.declared.task.Task.{Task}
use Rattle.gc_worker.specs.History.Legal.{IsLegal, after_all, after_call, calls_of}
use Rattle.gc_worker.specs.Plain.Answer.{ComesTo}
use Rattle.gc_worker.proofs.History.Extensions.{after_append, calls_append, no_more, none_first, none_past}
use Rattle.ael_threads.specs.declared.view.Hand.{Hand}
use Rattle.ael_threads.specs.declared.view.Plan.{Plan}
use Rattle.ael_threads.specs.Calls.{Called, KnowsWorker, call_by}
use Rattle.ael_threads.specs.Histories.{HasOwnCalls, first_plain, hand}
use Rattle.ael_threads.specs.Seats.{Seated, first_number, first_own, plain_after_seen}
use Rattle.concordance.specs.NoCells.{HasNoCells, task_makes_cell}
use Rattle.concordance.specs.Whole.{CallsWhole, HasNumber, IsWhole, WholeCalls}
use Rattle.concordance.proofs.NoCells.{call_none, emptied_same}

none_left : {A : Type 0} (xs ys : List A) → xs ++ ys ≡ [] → xs ≡ []
none_left [] ys e = refl
none_left (x ∷ xs) ys e = absurd (cc)

-- where nobody has a cell a history without calls changes nothing
unchanged : (p : Plain) (log : List Entry) → HasNoCells p → ((j : ℕ) → calls_of j log ≡ []) → after_all p log ≡ p
unchanged p [] cells none = refl
unchanged p (Made c ∷ es) cells none = absurd ((none_first c.by c es (none c.by)).0 refl)
unchanged p (Exchanged by asked ∷ es) cells none = unchanged p es cells none
unchanged p (Emptied lost ∷ es) cells none = ap (λ (z : Plain). after_all z es) (emptied_same p cells lost) ∙ unchanged p es cells none

module _ (seen between : List Entry) (c : Call) where
  abbrev later : List Entry
  later = (seen ++ between) ++ Made c ∷ []

  parts : (j : ℕ) → calls_of j later ≡ calls_of j seen ++ (calls_of j between ++ calls_of j (Made c ∷ []))
  parts j = calls_append j (seen ++ between) (Made c ∷ []) ∙ (ap (λ (z : List Call). z ++ calls_of j (Made c ∷ [])) (calls_append j seen between)
      ∙ append_assoc (calls_of j seen) (calls_of j between) (calls_of j (Made c ∷ [])))

  -- mutator j has no more calls than it had
  none_of : (j : ℕ) (own : List Call) → calls_of j seen ≡ own → calls_of j later ≡ own → calls_of j between ≡ []
  none_of j own was now =
      let rest = calls_of j between ++ calls_of j (Made c ∷ []) in
      none_left (calls_of j between) (calls_of j (Made c ∷ [])) (append_cancel_left (calls_of j seen) rest [] (sym (parts j) ∙ (now ∙ (sym was ∙ sym (append-nil (calls_of j seen))))))

  of_hands : (j : ℕ) (hands : List Hand) → HasOwnCalls seen hands → HasOwnCalls later hands → HasNumber j hands → calls_of j between ≡ []
  of_hands j [] was now has = absurd has
  of_hands j (h ∷ hs) was now (inl e) = subst (λ (n : ℕ). calls_of n between ≡ []) (sym e) (none_of h.number h.own was.0 now.0)
  of_hands j (h ∷ hs) was now (inr has) = of_hands j hs was.1 now.1 has

module _ (a b : Seated) (task : Task) (did : Did) (whole : IsWhole a) (makes : task_makes_cell task ≡ false) (h : Called a task did b) where
  abbrev c : Call
  c = call_by a task did

  abbrev n : ℕ
  n = first_number a.knows.hands

  abbrev own : List Call
  own = first_own a.knows.hands

  abbrev rest : List Hand
  rest = drop 1 a.knows.hands

  was : HasOwnCalls a.knows.seen (hand n a.worker own ∷ rest)
  was = subst (HasOwnCalls a.knows.seen) whole.knows whole.own

  now : HasOwnCalls b.knows.seen (hand n b.worker (own ++ c ∷ []) ∷ rest)
  now = subst (HasOwnCalls b.knows.seen) h.hands h.history.own

  abbrev between : List Entry
  between = h.history.between

  -- the clerk has made no other
  none_own : calls_of n between ≡ []
  none_own =
      let last : calls_of n (Made c ∷ []) ≡ c ∷ [] = ap (λ (z : Bool). cond z (c ∷ []) []) (eq-eqb n n refl) in
      let all : (calls_of n a.knows.seen ++ calls_of n between) ++ c ∷ [] ≡ own ++ c ∷ [] =
      ap (λ (z : List Call). (calls_of n a.knows.seen ++ calls_of n between) ++ z) (sym last) ∙ (sym (ap (λ (z : List Call). z ++ calls_of n (Made c ∷ [])) (calls_append n a.knows.seen between))
      ∙ (sym (calls_append n (a.knows.seen ++ between) (Made c ∷ [])) ∙ (ap (calls_of n) (sym h.history.is) ∙ now.0))) in
      no_more a.knows.seen between n (append_cancel_right (calls_of n a.knows.seen ++ calls_of n between) own (c ∷ []) all ∙ sym was.0)

  none_by : (j : ℕ) → (j < length (first_plain a.knows.plan).mutators) ⊎ (length (first_plain a.knows.plan).mutators ≤ j) → calls_of j between ≡ []
  none_by j (inl below) = by_hand (subst (HasNumber j) whole.knows (whole.all j below))
    where
      by_hand : HasNumber j (hand n a.worker own ∷ rest) → calls_of j between ≡ []
      by_hand (inl e) = subst (λ (k : ℕ). calls_of k between ≡ []) (sym e) none_own
      by_hand (inr has) = of_hands a.knows.seen between c j rest was.1 (subst (λ (z : List Entry). HasOwnCalls z rest) h.history.is now.1) has
  none_by j (inr past) = none_of a.knows.seen between c j []
      (none_past (first_plain a.knows.plan) a.knows.seen j whole.legal past)
      (ap (calls_of j) (sym h.history.is) ∙ none_past (first_plain a.knows.plan) b.knows.seen j h.history.legal past)

  nothing : after_all (plain_after_seen a.knows) between ≡ plain_after_seen a.knows
  nothing = unchanged (plain_after_seen a.knows) between whole.none (λ j. none_by j (cases_lt j (length (first_plain a.knows.plan).mutators)))

  before : after_all (first_plain a.knows.plan) (a.knows.seen ++ between) ≡ plain_after_seen a.knows
  before = after_append (first_plain a.knows.plan) a.knows.seen between ∙ nothing

  after : plain_after_seen b.knows ≡ after_call (plain_after_seen a.knows) c
  after = ap (λ (p : Plan). after_all (first_plain p) b.knows.seen) h.plan ∙ (ap (after_all (first_plain a.knows.plan)) h.history.is
      ∙ (after_append (first_plain a.knows.plan) (a.knows.seen ++ between) (Made c ∷ []) ∙ ap (λ (p : Plain). after_call p c) before))

  numbers : (j : ℕ) → HasNumber j (hand n a.worker own ∷ rest) → HasNumber j (hand n b.worker (own ++ c ∷ []) ∷ rest)
  numbers j (inl e) = inl e
  numbers j (inr has) = inr has

  whole_then : IsWhole b
  whole_then = record {
    knows = knows_then;
    all = λ j below. subst (HasNumber j) (sym h.hands) (numbers j (subst (HasNumber j) whole.knows (whole.all j (subst (λ (p : Plan). j < length (first_plain p).mutators) h.plan below))));
    own = h.history.own;
    legal = subst (λ (p : Plan). IsLegal (first_plain p) b.knows.seen) (sym h.plan) h.history.legal;
    none = subst HasNoCells (sym after) (call_none (plain_after_seen a.knows) c makes whole.none);
  }
    where
      knows_then : KnowsWorker b
      knows_then = rw (h.hands) refl

  pub calls_whole : CallsWhole a task did b
  calls_whole = record { whole = whole_then; comes = subst (λ (p : Plain). ComesTo p n task did) before h.comes; after = after }

pub whole_calls : WholeCalls
whole_calls a b task did whole makes h = calls_whole a b task did whole makes h
