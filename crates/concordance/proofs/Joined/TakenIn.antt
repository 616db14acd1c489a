-- A clerk that takes in others, one after the other.
use Rattle.std.proofs.Common.{◌≡◌, ℕ, zero, suc, ◌+◌, ◌<◌, inl, inr, List, [], ◌∷◌, ◌++◌, length, Some, slice_get, get_or, take, drop, refl, ap, sym, ◌∙◌, subst, arith, append_assoc, append-nil}
use Rattle.std.proofs.lemmas.List.{length-replicate}
use Rattle.std.proofs.lemmas.Option.{slice_get_within}
use Rattle.heap_laws.specs.Opening.{opening_mutator}
use Rattle.gc_worker.specs.declared.calls.entry.Entry.{Entry}
use Rattle.gc_worker.specs.declared.stage.Stage.TheVariants.{Gone}
use Rattle.gc_worker.specs.History.Legal.{IsLegal, after_all, calls_of}
use Rattle.gc_worker.specs.Workers.Held.{Held}
use Rattle.ael_threads.specs.declared.view.Hand.{Hand}
use Rattle.ael_threads.specs.declared.view.Plan.{Plan}
use Rattle.ael_threads.specs.Histories.{HasOwnCalls, first_plain, hand}
use Rattle.ael_threads.specs.Runs.Running.{EachFrom}
use Rattle.ael_threads.specs.Seats.{Absorbs, Seated, all_hands, first_number, first_own, plain_after_seen}
use Rattle.ael_threads.proofs.Lists.Elements.{each_apart}
use Rattle.concordance_text.specs.declared.part.Part.{Part}
use Rattle.concordance.specs.Gathering.{AllAreNoted}
use Rattle.concordance.specs.Making.{HasAllNotes}
use Rattle.concordance.specs.NoCells.{HasNoCells}
use Rattle.concordance.specs.Whole.{HasNumber, IsWhole}
use Rattle.concordance.specs.Working.{HasWorked, HaveWorked, MayAllBeTakenIn, MayBeTakenIn, SharedHeap}
use Rattle.concordance.proofs.Lists.Numbered.{from_last}
use Rattle.concordance.proofs.Joined.NotedParts.{HasItsCalls, all_are_noted, no_cells}

-- ---- what it then knows

-- The clerk `one` was `first`, and has taken in these. What it has seen has just the calls that they made, and is legal, if that was so of
-- what it had seen first.
pub record HasTakenIn (first : Seated) (done : List Seated) (one : Seated) : Type 0 where
  pub table : one.table ≡ first.table
  pub worker : one.worker ≡ first.worker
  pub plan : one.knows.plan ≡ first.knows.plan
  pub hands : one.knows.hands ≡ first.knows.hands ++ all_hands done
  pub own : HasOwnCalls first.knows.seen first.knows.hands → HasOwnCalls one.knows.seen one.knows.hands
  pub legal : IsLegal (first_plain first.knows.plan) first.knows.seen → IsLegal (first_plain one.knows.plan) one.knows.seen

takes_none : (first : Seated) → HasTakenIn first [] first
takes_none first = record { table = refl; worker = refl; plan = refl; hands = sym (append-nil first.knows.hands); own = λ h. h; legal = λ h. h }

takes_one : (first one other then : Seated) (done : List Seated) → HasTakenIn first done one → then.table ≡ one.table → then.worker ≡ one.worker → Absorbs one.knows other.knows then.knows → HasTakenIn first (other ∷ done) then
takes_one first one other then done h table worker both = record {
  table = table ∙ h.table;
  worker = worker ∙ h.worker;
  plan = both.plan ∙ h.plan;
  hands = both.hands ∙ (ap (λ (hs : List Hand). hs ++ other.knows.hands) h.hands ∙ append_assoc first.knows.hands (all_hands done) other.knows.hands);
  own = λ was. both.own;
  legal = λ was. both.legal;
}

-- ---- the loop

-- of all clerks these are left; each of them can be taken in
pub record TakesIn (w : SharedHeap) (first : Seated) (all left : List Seated) (one : Seated) : Type 0 where
  pub done : List Seated
  pub all_is : all ≡ first ∷ (left ++ done)
  pub table : one.table ≡ w.table
  pub may : EachFrom (MayBeTakenIn w) 1 left
  pub taken : HasTakenIn first done one

first_of_all : {A : Type 0} (all rest : List A) (first : A) → 0 < length all → first ≡ get_or all 0 first → rest ≡ take 0 all ++ drop 1 all → all ≡ first ∷ rest
first_of_all [] rest first some is rest_is = absurd (omega (arith, some))
first_of_all (x ∷ xs) rest first some is rest_is = λ i. sym is i ∷ sym rest_is i

pub takes_first : (w : SharedHeap) (all rest : List Seated) (first : Seated) → 0 < length all → first ≡ get_or all 0 first → rest ≡ take 0 all ++ drop 1 all → MayAllBeTakenIn w 0 all → TakesIn w first all rest first
takes_first w all rest first some is rest_is may =
    let all_is = first_of_all all rest first some is rest_is in
    let both : MayAllBeTakenIn w 0 (first ∷ rest) = subst (MayAllBeTakenIn w 0) all_is may in record {
      done = [];
      all_is = all_is ∙ ap (λ (ss : List Seated). first ∷ ss) (sym (append-nil rest));
      table = both.0.table;
      may = both.1;
      taken = takes_none first;
    }

module _ (w : SharedHeap) (first : Seated) (all old new : List Seated) (one other : Seated) (e : old ≡ new ++ other ∷ []) (h : TakesIn w first all old one) where
  next : EachFrom (MayBeTakenIn w) 1 new × MayBeTakenIn w (1 + length new) other
  next = from_last (MayBeTakenIn w) 1 new other (subst (EachFrom (MayBeTakenIn w) 1) e h.may)

  pub other_of_heap : other.table ≡ one.table
  other_of_heap = next.1.table ∙ sym h.table

  pub other_left : other.worker.stage ≡ Gone
  other_left = next.1.left (λ e. absurd (omega (arith, e)))

  pub takes_more : (then : Seated) → then.table ≡ one.table → then.worker ≡ one.worker → Absorbs one.knows other.knows then.knows → TakesIn w first all new then
  takes_more then table worker both = record {
    done = other ∷ h.done;
    all_is = h.all_is ∙ ap (λ (ss : List Seated). first ∷ ss) (ap (λ (ss : List Seated). ss ++ h.done) e ∙ append_assoc new (other ∷ []) h.done);
    table = table ∙ h.table;
    may = next.0;
    taken = takes_one first one other then h.done h.taken table worker both;
  }

-- ---- all of them

has_front : (j : ℕ) (hs ks : List Hand) → HasNumber j hs → HasNumber j (hs ++ ks)
has_front j [] ks h = absurd h
has_front j (x ∷ hs) ks (inl e) = inl e
has_front j (x ∷ hs) ks (inr h) = inr (has_front j hs ks h)

has_back : (j : ℕ) (hs ks : List Hand) → HasNumber j ks → HasNumber j (hs ++ ks)
has_back j [] ks h = h
has_back j (x ∷ hs) ks h = inr (has_back j hs ks h)

module _ (w : SharedHeap) where
  has_its : (k : ℕ) (part : Part) (s : Seated) → HasWorked w k part s → HasNumber k s.knows.hands
  has_its k part s h = subst (HasNumber k) (sym h.hands) (inl refl)

  -- the number of each that has worked
  numbers : (from : ℕ) (parts : List Part) (clerks : List Seated) → HaveWorked w from parts clerks → (i : ℕ) → i < length clerks → HasNumber (from + i) (all_hands clerks)
  numbers from [] [] h i below = absurd (omega (arith, below))
  numbers from [] (s ∷ ss) h i below = absurd h
  numbers from (p ∷ ps) [] h i below = absurd h
  numbers from (p ∷ ps) (s ∷ ss) h zero below =
      subst (λ (j : ℕ). HasNumber j (all_hands ss ++ s.knows.hands)) (omega arith) (has_back from (all_hands ss) s.knows.hands (has_its from p s h.0))
  numbers from (p ∷ ps) (s ∷ ss) h (suc i) below =
      subst (λ (j : ℕ). HasNumber j (all_hands ss ++ s.knows.hands)) (omega arith) (has_front (from + 1 + i) (all_hands ss) s.knows.hands (numbers (from + 1) ps ss h.1 i (omega (arith, below))))

  -- and its part
  itself : (log : List Entry) (k : ℕ) (part : Part) (s : Seated) → HasWorked w k part s → HasOwnCalls log s.knows.hands → HasItsCalls w log k part
  itself log k part s h own = record { clerk = s; worked = h; own = (subst (HasOwnCalls log) h.hands own).0 }

  parts_of : (log : List Entry) (from : ℕ) (parts : List Part) (clerks : List Seated) → HaveWorked w from parts clerks → HasOwnCalls log (all_hands clerks)
      → (i : ℕ) (part : Part) → slice_get parts i ≡ Some part → HasItsCalls w log (from + i) part
  parts_of log from [] clerks h own i part is = absurd (let within = slice_get_within [] i part is in omega (arith, within))
  parts_of log from (p ∷ ps) [] h own i part is = absurd h
  parts_of log from (p ∷ ps) (s ∷ ss) h own zero part is =
      let both = each_apart (λ (h : Hand). calls_of h.number log ≡ h.own) (all_hands ss) s.knows.hands own in
      subst (λ (z : ℕ × Part). HasItsCalls w log z.0 z.1) (λ i. (here i, same i)) (itself log from p s h.0 both.1)
    where
      here : from ≡ from + 0
      here = omega arith

      same : p ≡ part
      same = cc
  parts_of log from (p ∷ ps) (s ∷ ss) h own (suc i) part is =
      let both = each_apart (λ (h : Hand). calls_of h.number log ≡ h.own) (all_hands ss) s.knows.hands own in
      subst (λ (j : ℕ). HasItsCalls w log j part) (omega arith) (parts_of log (from + 1) ps ss h.1 both.0 i part is)

  as_many : (from : ℕ) (parts : List Part) (clerks : List Seated) → HaveWorked w from parts clerks → length parts ≡ length clerks
  as_many from [] [] h = refl
  as_many from [] (s ∷ ss) h = absurd h
  as_many from (p ∷ ps) [] h = absurd h
  as_many from (p ∷ ps) (s ∷ ss) h = let more = as_many (from + 1) ps ss h.1 in omega (arith, more)

  -- The first clerk has taken in all others, each of which has worked on its part.
  module _ (part : Part) (parts : List Part) (first one : Seated) (done : List Seated) (many : length (first ∷ done) ≡ w.plan.mutators) (worked : HasWorked w 0 part first) (others : HaveWorked w 1 parts done)
      (taken : HasTakenIn first done one) where
    hands_are : one.knows.hands ≡ hand 0 one.worker (first_own first.knows.hands) ∷ all_hands done
    hands_are =
        taken.hands ∙ (ap (λ (hs : List Hand). hs ++ all_hands done) worked.hands ∙ ap (λ (x : Held). hand 0 x (first_own first.knows.hands) ∷ all_hands done) (sym taken.worker))

    plan_is : one.knows.plan ≡ w.plan
    plan_is = taken.plan ∙ worked.plan

    own : HasOwnCalls one.knows.seen one.knows.hands
    own = taken.own (subst (HasOwnCalls first.knows.seen) (sym worked.hands) (ap (λ (n : ℕ). calls_of n first.knows.seen) (sym (ap first_number worked.hands)) ∙ worked.mine, tt))

    legal : IsLegal (first_plain one.knows.plan) one.knows.seen
    legal = taken.legal (subst (λ (plan : Plan). IsLegal (first_plain plan) first.knows.seen) (sym worked.plan) worked.legal)

    all_numbers : (j : ℕ) → j < w.plan.mutators → HasNumber j one.knows.hands
    all_numbers zero below = subst (HasNumber 0) (sym hands_are) (inl refl)
    all_numbers (suc j) below =
        subst (HasNumber (suc j)) (sym hands_are) (inr (subst (λ (n : ℕ). HasNumber n (all_hands done)) (omega arith) (numbers 1 parts done others j (omega (arith, below, many)))))

    -- what was seen has the calls of each
    abbrev log : List Entry
    log = one.knows.seen

    own_calls : HasOwnCalls log (hand 0 one.worker (first_own first.knows.hands) ∷ all_hands done)
    own_calls = subst (HasOwnCalls log) hands_are own

    all_parts : (k : ℕ) (p : Part) → slice_get (part ∷ parts) k ≡ Some p → HasItsCalls w log k p
    all_parts zero p is = let same : part ≡ p = cc in subst (HasItsCalls w log 0) same (record { clerk = first; worked = worked; own = own_calls.0 })
    all_parts (suc k) p is = subst (λ (j : ℕ). HasItsCalls w log j p) (omega arith) (parts_of log 1 parts done others own_calls.1 k p is)

    as_plan : length (part ∷ parts) ≡ w.plan.mutators
    as_plan = let more = as_many 1 parts done others in omega (arith, more, many)

    legal_here : IsLegal (first_plain w.plan) log
    legal_here = subst (λ (plan : Plan). IsLegal (first_plain plan) log) plan_is legal

    none : HasNoCells (plain_after_seen one.knows)
    none = subst (λ (plan : Plan). HasNoCells (after_all (first_plain plan) log)) (sym plan_is) (no_cells w log (part ∷ parts) as_plan legal_here all_parts)

    whole : IsWhole one
    whole = record {
      knows = subst (λ (hs : List Hand). hs ≡ hand (first_number hs) one.worker (first_own hs) ∷ drop 1 hs) (sym hands_are) refl;
      all = λ j below. all_numbers j (let count = length-replicate one.knows.plan.mutators opening_mutator in let same = ap (λ (plan : Plan). plan.mutators) plan_is in omega (arith, below, count, same));
      own = own;
      legal = legal;
      none = none;
    }

    noted : AllAreNoted (plain_after_seen one.knows).heap (part ∷ parts)
    noted = subst (λ (plan : Plan). AllAreNoted (after_all (first_plain plan) log).heap (part ∷ parts)) (sym plan_is)
        (all_are_noted w log (part ∷ parts) as_plan legal_here all_parts)

    has_all_notes : HasAllNotes (part ∷ parts) one
    has_all_notes = record { has = record { whole = whole; no_end = ap (λ (x : Held). x.account.end) taken.worker ∙ worked.stays refl }; noted = noted }

  -- whatever parts they are
  all_of_parts : (parts : List Part) (first one : Seated) (done : List Seated) → length (first ∷ done) ≡ w.plan.mutators → HaveWorked w 0 parts (first ∷ done) → HasTakenIn first done one → HasAllNotes parts one
  all_of_parts [] first one done many h taken = absurd h
  all_of_parts (p ∷ ps) first one done many h taken = has_all_notes p ps first one done many h.0 h.1 taken

none_left : {A : Type 0} (xs : List A) → length xs ≡ 0 → xs ≡ []
none_left [] none = refl
none_left (x ∷ xs) none = absurd (omega (arith, none))

pub takes_all : (v : SharedHeap) (first : Seated) (all left : List Seated) (one : Seated) → TakesIn v first all left one → length left ≡ 0
    → (w : SharedHeap) (parts : List Part) → length all ≡ w.plan.mutators → HaveWorked w 0 parts all → HasAllNotes parts one
takes_all v first all left one h none w parts many worked =
    let is : all ≡ first ∷ h.done = h.all_is ∙ ap (λ (ss : List Seated). first ∷ (ss ++ h.done)) (none_left left none) in
    all_of_parts w parts first one h.done (ap length (sym is) ∙ many) (subst (HaveWorked w 0 parts) is worked) h.taken
