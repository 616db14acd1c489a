-- What is found when references are followed.
use Rattle.std.proofs.Common.{◌≡◌, ◌⊎◌, inl, inr, ◌+◌, Bool, true, false, cond, List, [], ◌∷◌, ◌++◌, length, Option, Some, None, fold, refl, ap, sym, subst, ◌∙◌, arith, ⊎_elim, length-append}
use Rattle.plain_state.specs.declared.value.Identity.{Identity}
use Rattle.plain_state.specs.declared.value.Value.{Value}
use Rattle.plain_state.specs.declared.value.Value.TheVariants.{Number, Reference}
use Rattle.plain_machine.specs.Search.{Search, followed, is_unset, mark_of, unset, with_mark}
use Rattle.plain_machine.proofs.Found.SetMarks.{one_set, set_apart, set_there}
use Rattle.plain_heap.proofs.Reaching.Emptying.{IsApart, cases_same}
use Rattle.plain_heap.proofs.Reaching.Members.{In, In-append_cases, In-append_left, In-append_right}

-- the record is found, or it has no mark
abbrev pub IsCovered : Search → Identity → Type 0
IsCovered s i = is_unset (mark_of s.marks i) ≡ false

abbrev pub IsFound : Search → Identity → Type 0
IsFound s i = mark_of s.marks i ≡ Some true

pub found-covered : (s : Search) (i : Identity) → IsFound s i → IsCovered s i
found-covered s i is = ap is_unset is

-- The second search is the first one after these values were followed: it has found what it had, and to what they refer, which is to be
-- followed from there on.
pub record Follows (before after : Search) (values : List Value) : Type 0 where
  pub keeps : (j : Identity) → IsFound before j → IsFound after j
  pub covers : (j : Identity) → IsCovered before j → IsCovered after j
  pub places : (j : Identity) (b : Bool) → mark_of before.marks j ≡ Some b → (c : Bool) × (mark_of after.marks j ≡ Some c)
  pub all : (j : Identity) → In (Reference j) values → IsCovered after j
  pub only : (j : Identity) → IsFound after j → IsFound before j ⊎ (In (Reference j) values × In j after.work)
  pub work : (j : Identity) → In j before.work → In j after.work
  pub found_work : (j : Identity) → In j after.work → In j before.work ⊎ IsFound after j
  pub left : unset after.marks + length after.work ≡ unset before.marks + length before.work

follows-none : (s : Search) → Follows s s []
follows-none s = record {
  keeps = λ j is. is;
  covers = λ j is. is;
  places = λ j b is. (b, is);
  all = λ j is. absurd is;
  only = λ j is. inl is;
  work = λ j is. is;
  found_work = λ j is. inl is;
  left = refl;
}

-- ---- one value

module _ (s : Search) (i : Identity) (is : mark_of s.marks i ≡ Some false) where
  abbrev after : Search
  after = record { marks = with_mark s.marks i; work = s.work ++ i ∷ [] }

  at : (P : Identity → Type 0) (j : Identity) → P i → ((apart : IsApart i j) → P j) → P j
  at P j there elsewhere = ⊎_elim (λ (e : i ≡ j). subst P e there) (λ (apart : IsApart i j). elsewhere apart) (cases_same i j)

  newest : In i after.work
  newest = In-append_right i s.work (i ∷ []) (inl refl)

  follows-found : Follows s after (Reference i ∷ [])
  follows-found = record {
    keeps = λ j before. at (IsFound after) j (set_there s.marks i is) (λ apart. set_apart s.marks i is j apart ∙ before);
    covers = λ j before. at (IsCovered after) j (found-covered after i (set_there s.marks i is)) (λ apart. ap is_unset (set_apart s.marks i is j apart) ∙ before);
    places = λ j b before. at (λ k. (c : Bool) × (mark_of after.marks k ≡ Some c)) j (true, set_there s.marks i is) (λ apart. (b, set_apart s.marks i is j apart ∙ before));
    all = λ j there. by_value j there;
    only = λ j now. by_now j now;
    work = λ j there. In-append_left j s.work (i ∷ []) there;
    found_work = λ j there. by_work j (In-append_cases j s.work (i ∷ []) there);
    left = let one = one_set s.marks i is in let more = length-append s.work (i ∷ []) in omega (arith, one, more);
  }
    where
      by_value : (j : Identity) → In (Reference j) (Reference i ∷ []) → IsCovered after j
      by_value j (inl e) = subst (IsCovered after) (same_reference e) (found-covered after i (set_there s.marks i is))
        where
          same_reference : (Reference i ≡ Reference j) → i ≡ j
          same_reference e = cc
      by_value j (inr none) = absurd none

      by_now : (j : Identity) → IsFound after j → IsFound s j ⊎ (In (Reference j) (Reference i ∷ []) × In j after.work)
      by_now j now = ⊎_elim
          (λ (e : i ≡ j). inr (inl (ap Reference e), subst (λ k. In k after.work) e newest))
          (λ (apart : IsApart i j). inl (sym (set_apart s.marks i is j apart) ∙ now))
          (cases_same i j)

      by_work : (j : Identity) → In j s.work ⊎ In j (i ∷ []) → In j s.work ⊎ IsFound after j
      by_work j (inl before) = inl before
      by_work j (inr (inl e)) = inr (subst (IsFound after) e (set_there s.marks i is))
      by_work j (inr (inr none)) = absurd none

-- a value that leads to nothing new
follows-nothing : (s : Search) (v : Value) → ((j : Identity) → v ≡ Reference j → IsCovered s j) → Follows s s (v ∷ [])
follows-nothing s v covered = record {
  keeps = λ j is. is;
  covers = λ j is. is;
  places = λ j b is. (b, is);
  all = λ j there. by_value j there;
  only = λ j is. inl is;
  work = λ j is. is;
  found_work = λ j is. inl is;
  left = refl;
}
  where
    by_value : (j : Identity) → In (Reference j) (v ∷ []) → IsCovered s j
    by_value j (inl e) = covered j e
    by_value j (inr none) = absurd none

follows-one : (s : Search) (v : Value) → Follows s (followed s v) (v ∷ [])
follows-one s (Number n) = follows-nothing s (Number n) (λ j e. absurd (cc))
follows-one s (Reference i) = by_mark (mark_of s.marks i) refl
  where
    same_reference : (j : Identity) → (Reference i ≡ Reference j) → i ≡ j
    same_reference j e = cc

    by_mark : (o : Option Bool) → mark_of s.marks i ≡ o → Follows s (cond (is_unset o) (record { marks = with_mark s.marks i; work = s.work ++ i ∷ [] }) s) (Reference i ∷ [])
    by_mark None is = follows-nothing s (Reference i) (λ j e. subst (IsCovered s) (same_reference j e) (ap is_unset is))
    by_mark (Some true) is = follows-nothing s (Reference i) (λ j e. subst (IsCovered s) (same_reference j e) (ap is_unset is))
    by_mark (Some false) is = follows-found s i is

-- ---- many

follows-then : (before between after : Search) (v : Value) (values : List Value) → Follows before between (v ∷ []) → Follows between after values → Follows before after (v ∷ values)
follows-then before between after v values first rest = record {
  keeps = λ j is. rest.keeps j (first.keeps j is);
  covers = λ j is. rest.covers j (first.covers j is);
  places = λ j b is. let c = first.places j b is in rest.places j c.0 c.1;
  all = λ j there. by_value j there;
  only = λ j is. by_last j (rest.only j is);
  work = λ j is. rest.work j (first.work j is);
  found_work = λ j is. by_work j (rest.found_work j is);
  left = let a = first.left in let b = rest.left in omega (arith, a, b);
}
  where
    by_value : (j : Identity) → In (Reference j) (v ∷ values) → IsCovered after j
    by_value j (inl e) = rest.covers j (first.all j (inl e))
    by_value j (inr there) = rest.all j there

    by_first : (j : Identity) → IsFound before j ⊎ (In (Reference j) (v ∷ []) × In j between.work) → IsFound before j ⊎ (In (Reference j) (v ∷ values) × In j after.work)
    by_first j (inl is) = inl is
    by_first j (inr (inl e, there)) = inr (inl e, rest.work j there)
    by_first j (inr (inr none, there)) = absurd none

    by_last : (j : Identity) → IsFound between j ⊎ (In (Reference j) values × In j after.work) → IsFound before j ⊎ (In (Reference j) (v ∷ values) × In j after.work)
    by_last j (inl is) = by_first j (first.only j is)
    by_last j (inr is) = inr (inr is.0, is.1)

    by_work_first : (j : Identity) → In j before.work ⊎ IsFound between j → In j before.work ⊎ IsFound after j
    by_work_first j (inl is) = inl is
    by_work_first j (inr is) = inr (rest.keeps j is)

    by_work : (j : Identity) → In j between.work ⊎ IsFound after j → In j before.work ⊎ IsFound after j
    by_work j (inl is) = by_work_first j (first.found_work j is)
    by_work j (inr is) = inr is

pub follows-all : (values : List Value) (s : Search) → Follows s (fold followed s values) values
follows-all [] s = follows-none s
follows-all (v ∷ values) s = follows-then s (followed s v) (fold followed s (v ∷ values)) v values (follows-one s v) (follows-all values (followed s v))
