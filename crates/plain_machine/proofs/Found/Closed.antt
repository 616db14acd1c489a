-- A search from the roots finds what is reachable.
use Rattle.std.proofs.Common.{◌≡◌, ◌⊎◌, inl, inr, ◌+◌, ◌<◌, Bool, true, false, List, [], ◌∷◌, ◌++◌, length, Some, fold, refl, ap, sym, subst, ◌∙◌, arith, length-append}
use Rattle.plain_state.specs.declared.value.Identity.{Identity}
use Rattle.plain_state.specs.declared.value.Value.TheVariants.{Reference}
use Rattle.plain_state.specs.Reachable.{Reachable, FromRegister, FromBoard, FromRecord}
use Rattle.plain_state.specs.State.{Plain, Record, record_of}
use Rattle.plain_heap.specs.Reaching.{fields_at, reaches, roots}
use Rattle.plain_machine.specs.Search.{AreOfReachable, Search, followed, is_unset, mark_of, no_marks, unset}
use Rattle.plain_machine.proofs.Found.Following.{Follows, IsCovered, IsFound, follows-all}
use Rattle.plain_machine.proofs.Found.SetMarks.{no_mark_set, none_set}
use Rattle.plain_heap.proofs.Reaching.Closure.{In-fields_at, board-root, field-reachable, reachable-reaches, reaches-reachable, register-root, root-reachable}
use Rattle.plain_heap.proofs.Reaching.Members.{In, In-append_cases, In-append_left}

module _ (p : Plain) where
  -- what the fields of a record refer to is found
  abbrev FieldsAreCovered : Search → Identity → Type 0
  FieldsAreCovered s i = (j : Identity) → In (Reference j) (fields_at p.heap i) → IsCovered s j

  -- What is found is reachable. To what the roots refer is found, and so is to what those refer that were found, but for those whose fields
  -- are still to be followed. Each record has a mark.
  pub record IsSearch (s : Search) : Type 0 where
    pub sound : (i : Identity) → IsFound s i → Reachable p i
    pub roots_covered : (i : Identity) → In (Reference i) (roots p) → IsCovered s i
    pub closed : (i : Identity) → IsFound s i → In i s.work ⊎ FieldsAreCovered s i
    pub work_found : (i : Identity) → In i s.work → IsFound s i
    pub marked : (i : Identity) (r : Record) → record_of p.heap i ≡ Some r → (b : Bool) × (mark_of s.marks i ≡ Some b)

  -- ---- the roots

  abbrev first : Search
  first = record { marks = no_marks p.heap.records; work = [] }

  first-found : (i : Identity) → ¬ (IsFound first i)
  first-found i is = let none = no_mark_set p.heap.records i true is in let both : true ≡ false = none in cc

  pub search-begins : (s : Search) → s ≡ fold followed first (roots p) → IsSearch s
  search-begins s is = subst IsSearch (sym is) (begins (follows-all (roots p) first))
    where
      begins : Follows first (fold followed first (roots p)) (roots p) → IsSearch (fold followed first (roots p))
      begins f = record {
        sound = λ i now. by_only i (f.only i now);
        roots_covered = λ i root. f.all i root;
        closed = λ i now. by_work i (f.only i now);
        work_found = λ i there. by_found i (f.found_work i there);
        marked = λ i r found. f.places i false (none_set p.heap i r found);
      }
        where
          by_only : (i : Identity) → IsFound first i ⊎ (In (Reference i) (roots p) × In i (fold followed first (roots p)).work) → Reachable p i
          by_only i (inl before) = absurd (first-found i before)
          by_only i (inr new) = root-reachable p i new.0

          by_work : (i : Identity) → IsFound first i ⊎ (In (Reference i) (roots p) × In i (fold followed first (roots p)).work)
              → In i (fold followed first (roots p)).work ⊎ FieldsAreCovered (fold followed first (roots p)) i
          by_work i (inl before) = absurd (first-found i before)
          by_work i (inr new) = inl new.1

          by_found : (i : Identity) → In i [] ⊎ IsFound (fold followed first (roots p)) i → IsFound (fold followed first (roots p)) i
          by_found i (inl none) = absurd none
          by_found i (inr is) = is

  -- ---- one record more

  module _ (before : Search) (i : Identity) (rest : Search) (is : IsSearch before) (work : before.work ≡ rest.work ++ i ∷ []) (marks : rest.marks ≡ before.marks) where
    abbrev after : Search
    after = fold followed rest (fields_at p.heap i)

    f : Follows rest after (fields_at p.heap i)
    f = follows-all (fields_at p.heap i) rest

    was : (j : Identity) → IsFound rest j → IsFound before j
    was j found = sym (ap (λ m. mark_of m j) marks) ∙ found

    still : (j : Identity) → IsCovered before j → IsCovered rest j
    still j covered = ap (λ m. is_unset (mark_of m j)) marks ∙ covered

    own : IsFound before i
    own = is.work_found i (subst (In i) (sym work) (newest rest.work))
      where
        newest : (xs : List Identity) → In i (xs ++ i ∷ [])
        newest [] = inl refl
        newest (x ∷ xs) = inr (newest xs)

    search_goes_on : IsSearch after
    search_goes_on = record {
      sound = λ j now. by_only j (f.only j now);
      roots_covered = λ j root. f.covers j (still j (is.roots_covered j root));
      closed = λ j now. by_new j (f.only j now);
      work_found = λ j there. by_work j (f.found_work j there);
      marked = λ j r found. let b = is.marked j r found in f.places j b.0 (ap (λ m. mark_of m j) marks ∙ b.1);
    }
      where
        by_only : (j : Identity) → IsFound rest j ⊎ (In (Reference j) (fields_at p.heap i) × In j after.work) → Reachable p j
        by_only j (inl found) = is.sound j (was j found)
        by_only j (inr new) = field-reachable p i j (is.sound i own) new.0

        by_place : (j : Identity) → In j rest.work ⊎ In j (i ∷ []) → In j after.work ⊎ FieldsAreCovered after j
        by_place j (inl there) = inl (f.work j there)
        by_place j (inr (inl e)) = inr (subst (FieldsAreCovered after) e f.all)
        by_place j (inr (inr none)) = absurd none

        by_closed : (j : Identity) → In j before.work ⊎ FieldsAreCovered before j → In j after.work ⊎ FieldsAreCovered after j
        by_closed j (inl there) = by_place j (In-append_cases j rest.work (i ∷ []) (subst (In j) work there))
        by_closed j (inr covered) = inr (λ k field. f.covers k (still k (covered k field)))

        by_new : (j : Identity) → IsFound rest j ⊎ (In (Reference j) (fields_at p.heap i) × In j after.work) → In j after.work ⊎ FieldsAreCovered after j
        by_new j (inl found) = by_closed j (is.closed j (was j found))
        by_new j (inr new) = inl new.1

        by_work : (j : Identity) → In j rest.work ⊎ IsFound after j → IsFound after j
        by_work j (inl there) = f.keeps j (ap (λ m. mark_of m j) marks ∙ is.work_found j (subst (In j) (sym work) (In-append_left j rest.work (i ∷ []) there)))
        by_work j (inr found) = found

    -- less is left
    search_falls : unset after.marks + length after.work < unset before.marks + length before.work
    search_falls =
        let left = f.left in
        let same : unset rest.marks ≡ unset before.marks = ap unset marks in
        let more : length before.work ≡ length (rest.work ++ i ∷ []) = ap length work in
        let one = length-append rest.work (i ∷ []) in
        omega (arith, left, same, more, one)

  pub search-goes_on : (before : Search) (i : Identity) (rest now : Search) → IsSearch before → before.work ≡ rest.work ++ i ∷ [] → rest.marks ≡ before.marks → now ≡ fold followed rest (fields_at p.heap i) → IsSearch now
  search-goes_on before i rest now is work marks e = subst IsSearch (sym e) (search_goes_on before i rest is work marks)

  pub search-falls : (before : Search) (i : Identity) (rest now : Search) → IsSearch before → before.work ≡ rest.work ++ i ∷ [] → rest.marks ≡ before.marks → now ≡ fold followed rest (fields_at p.heap i)
      → unset now.marks + length now.work < unset before.marks + length before.work
  search-falls before i rest now is work marks e = rw e (search_falls before i rest is work marks)

  -- ---- the end

  module _ (s : Search) (is : IsSearch s) (done : s.work ≡ []) where
    reachable-covered : (i : Identity) → Reachable p i → IsCovered s i
    reachable-covered _ (FromRegister m k x i found no_end at) = is.roots_covered i (register-root p m k x i found no_end at)
    reachable-covered _ (FromBoard x i at) = is.roots_covered i (board-root p x i at)
    reachable-covered _ (FromRecord i r n j reach found field at) = by_mark (is.marked i r found) (reachable-covered i reach)
      where
        by_place : In i s.work ⊎ FieldsAreCovered s i → IsCovered s j
        by_place (inl there) = absurd (subst (In i) done there)
        by_place (inr covered) = covered j (In-fields_at p.heap i r n (Reference j) found field at)

        by_value : (b : Bool) → mark_of s.marks i ≡ Some b → IsCovered s i → IsCovered s j
        by_value true set covered = by_place (is.closed i set)
        by_value false unset covered = let both : true ≡ false = sym (ap is_unset unset) ∙ covered in absurd (cc)

        by_mark : (b : Bool) × (mark_of s.marks i ≡ Some b) → IsCovered s i → IsCovered s j
        by_mark m covered = by_value m.0 m.1 covered

    search_is_done : AreOfReachable p s.marks
    search_is_done i r found = by_value (is.marked i r found).0 (is.marked i r found).1
      where
        by_reach : (b : Bool) → reaches p i ≡ b → mark_of s.marks i ≡ Some false → mark_of s.marks i ≡ Some b
        by_reach false reach unset = unset
        by_reach true reach unset = let both : true ≡ false = sym (ap is_unset unset) ∙ reachable-covered i (reaches-reachable p i reach) in absurd (cc)

        by_value : (b : Bool) → mark_of s.marks i ≡ Some b → mark_of s.marks i ≡ Some (reaches p i)
        by_value true set = set ∙ ap Some (sym (reachable-reaches p i (is.sound i set)))
        by_value false unset = by_reach (reaches p i) refl unset

  pub search-is_done : (s : Search) (marks : List (List Bool)) → IsSearch s → s.work ≡ [] → marks ≡ s.marks → AreOfReachable p marks
  search-is_done s marks is done same = subst (AreOfReachable p) (sym same) (search_is_done s is done)
