-- The calls of each mutator in a history of several.
use Rattle.std.proofs.Common.{◌≡◌, ℕ, Bool, true, false, cond, ◌==◌, List, [], ◌∷◌, ◌++◌, map, refl, ap, sym, ◌∙◌, subst, append_assoc, eq-eqb}
use Rattle.plain_state.specs.declared.value.Identity.{Identity}
use Rattle.plain_state.specs.State.{Plain}
use Rattle.gc_worker.specs.declared.calls.call.Call.{Call}
use Rattle.gc_worker.specs.declared.calls.entry.Entry.{Entry}
use Rattle.gc_worker.specs.declared.calls.entry.Entry.TheVariants.{Made, Exchanged, Emptied}
use Rattle.gc_worker.specs.History.Legal.{IsLegal, after_all, calls_of}
use Rattle.gc_worker.specs.Plain.Answer.{ComesTo}
use Rattle.gc_worker.proofs.History.Extensions.{calls_append, legal_last}
use Rattle.ael_threads.specs.Alone.{LeavesBoard}
use Rattle.ael_threads.specs.Histories.{Each}
use Rattle.ael_threads.specs.Unread.{EachCall, as_move}
use Rattle.ael_threads.proofs.Lists.Elements.{each_apart, not_empty}
use Rattle.ael_threads.proofs.Unread.OneCall.{same_as_move}
use Rattle.concordance.proofs.LoneHeaps.FullHeaps.{legal_front}

-- ---- where a call stands

-- A call stands in the history, and the mutator made these calls before it and those after it.
pub record StandsAt (j : ℕ) (log : List Entry) (cs : List Call) (c : Call) (ds : List Call) : Type 0 where
  pub front : List Entry
  pub rest : List Entry
  pub is : log ≡ front ++ Made c ∷ rest
  pub before : calls_of j front ≡ cs
  pub after : calls_of j rest ≡ ds

module _ (j : ℕ) (cs : List Call) (c : Call) (ds : List Call) where
  -- behind a call of another
  behind_other : (d : Call) (es : List Entry) → (d.by == j) ≡ false → StandsAt j es cs c ds → StandsAt j (Made d ∷ es) cs c ds
  behind_other d es other at = record {
    front = Made d ∷ at.front;
    rest = at.rest;
    is = ap (λ (xs : List Entry). Made d ∷ xs) at.is;
    before = ap (λ (b : Bool). cond b (d ∷ calls_of j at.front) (calls_of j at.front)) other ∙ at.before;
    after = at.after;
  }

  behind_flip : (by asked : ℕ) (es : List Entry) → StandsAt j es cs c ds → StandsAt j (Exchanged by asked ∷ es) cs c ds
  behind_flip by asked es at = record {
    front = Exchanged by asked ∷ at.front;
    rest = at.rest;
    is = ap (λ (xs : List Entry). Exchanged by asked ∷ xs) at.is;
    before = at.before;
    after = at.after;
  }

  behind_tracing : (cells : List Identity) (es : List Entry) → StandsAt j es cs c ds → StandsAt j (Emptied cells ∷ es) cs c ds
  behind_tracing cells es at = record {
    front = Emptied cells ∷ at.front;
    rest = at.rest;
    is = ap (λ (xs : List Entry). Emptied cells ∷ xs) at.is;
    before = at.before;
    after = at.after;
  }

-- behind another call of its own
behind_own : (j : ℕ) (d e : Call) (es : List Entry) (cs : List Call) (c : Call) (ds : List Call) → (d.by == j) ≡ true → d ≡ e → StandsAt j es cs c ds → StandsAt j (Made d ∷ es) (e ∷ cs) c ds
behind_own j d e es cs c ds own same at = record {
  front = Made d ∷ at.front;
  rest = at.rest;
  is = ap (λ (xs : List Entry). Made d ∷ xs) at.is;
  before = ap (λ (b : Bool). cond b (d ∷ calls_of j at.front) (calls_of j at.front)) own ∙ (λ i. same i ∷ at.before i);
  after = at.after;
}

pub stands_at : (j : ℕ) (log : List Entry) (cs : List Call) (c : Call) (ds : List Call) → calls_of j log ≡ cs ++ c ∷ ds → StandsAt j log cs c ds
stands_at j [] cs c ds e = absurd (not_empty cs ds c (sym e))
stands_at j (Exchanged by asked ∷ es) cs c ds e = behind_flip j cs c ds by asked es (stands_at j es cs c ds e)
stands_at j (Emptied cells ∷ es) cs c ds e = behind_tracing j cs c ds cells es (stands_at j es cs c ds e)
stands_at j (Made d ∷ es) cs c ds e = by_owner (λ ds' is. stands_at j es ds' c ds is) (d.by == j) refl e
  where
    by_first : ((before : List Call) → calls_of j es ≡ before ++ c ∷ ds → StandsAt j es before c ds) → (cs : List Call) → (d.by == j) ≡ true → d ∷ calls_of j es ≡ cs ++ c ∷ ds → StandsAt j (Made d ∷ es) cs c ds
    by_first later [] own is =
        let here : d ≡ c = cc in
        let after : calls_of j es ≡ ds = cc in
        record { front = []; rest = es; is = ap (λ (x : Call). Made x ∷ es) here; before = refl; after = after }
    by_first later (x ∷ xs) own is =
        let here : d ≡ x = cc in
        let after : calls_of j es ≡ xs ++ c ∷ ds = cc in
        behind_own j d x es xs c ds own here (later xs after)

    by_owner : ((before : List Call) → calls_of j es ≡ before ++ c ∷ ds → StandsAt j es before c ds)
        → (b : Bool) → (d.by == j) ≡ b → cond b (d ∷ calls_of j es) (calls_of j es) ≡ cs ++ c ∷ ds → StandsAt j (Made d ∷ es) cs c ds
    by_owner later true own is = by_first later cs own is
    by_owner later false other is = behind_other j cs c ds d es other (later cs is)

-- in a legal history it comes to what it may there
pub comes_there : (p : Plain) (front rest : List Entry) (c : Call) → IsLegal p (front ++ Made c ∷ rest) → ComesTo (after_all p front) c.by c.task c.did
comes_there p front rest c legal =
    legal_last p front c (legal_front p (front ++ Made c ∷ []) rest (subst (IsLegal p) (sym (append_assoc front (Made c ∷ []) rest)) legal))

-- ---- facts of each call

one_owner : (P : Call → Type 0) (c : Call) (cs : List Call) (b : Bool) → Each P (cond b (c ∷ cs) cs) → Each P cs
one_owner P c cs true h = h.1
one_owner P c cs false h = h

-- a fact of the calls of each mutator is one of each call
pub each_of_all : (P : Call → Type 0) (log : List Entry) → ((j : ℕ) → Each P (calls_of j log)) → EachCall P log
each_of_all P [] all = tt
each_of_all P (Made c ∷ es) all =
    let first : Each P (c ∷ calls_of c.by es) = subst (λ (b : Bool). Each P (cond b (c ∷ calls_of c.by es) (calls_of c.by es))) (eq-eqb c.by c.by refl) (all c.by) in
    (first.0, each_of_all P es (λ j. one_owner P c (calls_of j es) (c.by == j) (all j)))
each_of_all P (Exchanged by asked ∷ es) all = each_of_all P es all
each_of_all P (Emptied cells ∷ es) all = each_of_all P es all

-- and one of those behind a call
pub each_behind : (P : Call → Type 0) (j : ℕ) (front rest : List Entry) (c : Call) → Each P (calls_of j (front ++ Made c ∷ rest)) → Each P (calls_of j rest)
each_behind P j front rest c h =
    one_owner P c (calls_of j rest) (c.by == j) (each_apart P (calls_of j front) (calls_of j (Made c ∷ rest)) (subst (Each P) (calls_append j front (Made c ∷ rest)) h)).1

-- calls that leave the board alone stay what they are with moves in place of puts
pub same_as_moves : (cs : List Call) → Each LeavesBoard cs → map as_move cs ≡ cs
same_as_moves [] leave = refl
same_as_moves (c ∷ cs) leave = λ i. same_as_move c leave.0 i ∷ same_as_moves cs leave.1 i
