-- Programs without `weak`, which never have a cell.
use Rattle.std.proofs.Common.{◌≡◌, ℕ, zero, suc, ◌<◌, ◌≤◌, Bool, true, false, cond, nat_le, List, [], ◌∷◌, length, replicate, Option, Some, None, Result, Ok, Err, slice_get, get_or, refl, ap, sym, subst, ◌∙◌, ⊎_elim}
use Rattle.std.specs.List.{list_any}
use Rattle.std.specs.Option.{ok_or, option_map_or}
use Rattle.std.proofs.lemmas.Bool.{cases_lt}
use Rattle.std.proofs.lemmas.List.{get_or-replicate, get_or_past, length-replicate}
use Rattle.std.proofs.lemmas.Option.{slice_get-get_or}
use Rattle.plain_state.specs.declared.end.End.{End}
use Rattle.plain_state.specs.declared.end.End.TheVariants.{HeapFull, JumpOut, TurnsOut}
use Rattle.plain_state.specs.State.{Mutator, Plain, Record, at_serial, record_of}
use Rattle.mutator_asm.specs.declared.instr.Instr.{Instr}
use Rattle.mutator_asm.specs.Program.{instr_at}
use Rattle.plain_heap.specs.declared.mark.Mark.{Mark}
use Rattle.plain_heap.specs.declared.mark.Mark.TheVariants.{Step, Flip, Full, Traced}
use Rattle.plain_heap.specs.Action.{◌>>=◌}
use Rattle.plain_heap.specs.Call.{After, call}
use Rattle.plain_heap.specs.Order.{Story, ended_for_want, first_story, is_asked, opening, story_after, story_marked}
use Rattle.plain_heap.specs.Step.{asked_by, ended, mutator_in, settled, stepped, stepped_as, stepped_if}
use Rattle.plain_heap.specs.Tracing.{TracingNeedsCells, has_weak, is_weak, untraced}
use Rattle.plain_heap.proofs.Calls.MadeCells.{no_cells_come}
use Rattle.plain_heap.proofs.Reaching.Emptying.{NoCells, emptied-none}
use Rattle.plain_heap.proofs.Reaching.Members.{In, In-from_slice_get, list_any-In}
use Rattle.plain_heap.proofs.States.OpeningState.{opening-replicate}

-- ---- the opening

-- a heap without a record
abbrev no_records : List Record
no_records = []

pub no_record : (mutators m serial : ℕ) → at_serial (get_or (replicate mutators no_records) m no_records) serial ≡ None
no_record mutators m serial = ap (λ (records : List Record). at_serial records serial) none ∙ by_serial serial
  where
    none : get_or (replicate mutators no_records) m no_records ≡ no_records
    none = ⊎_elim
        (λ (l : m < mutators). get_or-replicate mutators m no_records no_records l)
        (λ (l : mutators ≤ m). get_or_past (replicate mutators no_records) m no_records (rw (length-replicate mutators no_records) l))
        (cases_lt m mutators)

    by_serial : (serial : ℕ) → at_serial no_records serial ≡ None
    by_serial zero = refl
    by_serial (suc n) = refl

pub opening-none : (code : List (List Instr)) → NoCells (opening code).heap
opening-none code i r found =
    let same : record_of (opening code).heap i ≡ None = ap (λ (s : Plain). record_of s.heap i) (opening-replicate code) ∙ no_record (length code) i.mutator i.serial in
    let both : None ≡ Some r = sym same ∙ found in
    absurd (cc)

-- ---- what is executed

module _ (code : List (List Instr)) (turns : ℕ) (without : has_weak code ≡ false) where
  no_weak_in : (xs : List Instr) → list_any is_weak xs ≡ false → (i : Instr) → In i xs → is_weak i ≡ false
  no_weak_in xs none i there = by_test (is_weak i) refl
    where
      by_test : (b : Bool) → is_weak i ≡ b → is_weak i ≡ false
      by_test true is = let both : true ≡ false = sym (list_any-In is_weak i xs there is) ∙ none in absurd (cc)
      by_test false is = is

  no_weak_section : (section : List Instr) → In section code → list_any is_weak section ≡ false
  no_weak_section section there = by_test (list_any is_weak section) refl
    where
      by_test : (b : Bool) → list_any is_weak section ≡ b → list_any is_weak section ≡ false
      by_test true is = let both : true ≡ false = sym (list_any-In (list_any is_weak) section code there is) ∙ without in absurd (cc)
      by_test false is = is

  no_weak_at : (m counter : ℕ) (i : Instr) → instr_at code m counter ≡ Some i → is_weak i ≡ false
  no_weak_at m counter i is = ⊎_elim
      (λ (within : m < length code).
      let there : In (get_or code m []) code = In-from_slice_get (get_or code m []) code m (slice_get-get_or code m [] within) in
      no_weak_in (get_or code m []) (no_weak_section (get_or code m []) there) i (In-from_slice_get i (get_or code m []) counter is))
      (λ (past : length code ≤ m). let none : None ≡ Some i = sym (ap (λ (section : List Instr). slice_get section counter) (get_or_past code m [] past)) ∙ is in absurd (cc))
      (cases_lt m (length code))

  module _ (s : Plain) (none : NoCells s.heap) (m : ℕ) where
    by_call : (k : Mutator) (i : Instr) → is_weak i ≡ false → (o : Result After End) → call m s.heap k i ≡ o → NoCells (settled s m k o).heap
    by_call k i other (Ok after) is = no_cells_come m s.heap k i after other none is
    by_call k i other (Err why) is = none

    by_instr : (k : Mutator) (o : Option Instr) → instr_at code m k.counter ≡ o → NoCells (settled s m k (ok_or o JumpOut >>= call m s.heap k)).heap
    by_instr k None is = none
    by_instr k (Some i) is = by_call k i (no_weak_at m k.counter i is) (call m s.heap k i) refl

    by_turns : (k : Mutator) (out : Bool) → NoCells (settled s m k (cond out (Err TurnsOut) (ok_or (instr_at code m k.counter) JumpOut) >>= call m s.heap k)).heap
    by_turns k true = none
    by_turns k false = by_instr k (instr_at code m k.counter) refl

    by_end : (k : Mutator) (end : Option End) → NoCells (stepped_if code turns s m k end).heap
    by_end k (Some why) = none
    by_end k None = by_turns k (nat_le turns k.executed)

    by_mutator : (o : Option Mutator) → NoCells (stepped_as code turns s m o).heap
    by_mutator None = none
    by_mutator (Some k) = by_end k k.end

    stepped-none : NoCells (stepped code turns s m).heap
    unfolding stepped
    stepped-none = by_mutator (mutator_in code s m)

    by_full : (asked room live : ℕ) (is : Bool) (o : Option Mutator) → NoCells (cond is (option_map_or (λ k. ended s m k (HeapFull asked room live)) o s) s).heap
    by_full asked room live true None = none
    by_full asked room live true (Some k) = none
    by_full asked room live false o = none

    ended-none : (asked room live : ℕ) → NoCells (ended_for_want code turns s m asked room live).heap
    unfolding ended_for_want
    ended-none asked room live = by_full asked room live (is_asked asked (asked_by code turns s m)) (slice_get s.mutators m)

  -- ---- stories

  -- neither state has a cell
  pub record HasNone (s : Story) : Type 0 where
    pub flip : NoCells s.flip.heap
    pub now : NoCells s.now.heap

  pub first-none : HasNone (first_story code)
  first-none = record { flip = opening-none code; now = opening-none code }

  -- so tracing changes nothing
  pub traced-same : (s : Story) → HasNone s → story_marked code turns s Traced ≡ s
  traced-same s none = λ t. record { flip = s.flip; now = emptied-none s.flip s.now none.flip t }

  pub marked-none : (s : Story) (mark : Mark) → HasNone s → HasNone (story_marked code turns s mark)
  marked-none s (Step m) none = record { flip = none.flip; now = stepped-none s.now none.now m }
  marked-none s (Flip asked) none = record { flip = none.now; now = none.now }
  marked-none s (Full m asked room live) none = record { flip = none.flip; now = ended-none s.now none.now m asked room live }
  marked-none s Traced none = subst HasNone (sym (traced-same s none)) none

  pub story_after-none : (s : Story) (order : List Mark) → HasNone s → HasNone (story_after code turns s order)
  story_after-none s [] none = none
  story_after-none s (mark ∷ marks) none = story_after-none (story_marked code turns s mark) marks (marked-none s mark none)

  untraced-same : (s : Story) (order : List Mark) → HasNone s → story_after code turns s (untraced order) ≡ story_after code turns s order
  untraced-same s [] none = refl
  untraced-same s (Step m ∷ marks) none = untraced-same (story_marked code turns s (Step m)) marks (marked-none s (Step m) none)
  untraced-same s (Flip asked ∷ marks) none = untraced-same (story_marked code turns s (Flip asked)) marks (marked-none s (Flip asked) none)
  untraced-same s (Full m asked room live ∷ marks) none = untraced-same (story_marked code turns s (Full m asked room live)) marks (marked-none s (Full m asked room live) none)
  untraced-same s (Traced ∷ marks) none = untraced-same s marks none ∙ ap (λ (t : Story). story_after code turns t marks) (sym (traced-same s none))

pub tracing_needs_cells : TracingNeedsCells
tracing_needs_cells code turns order without = untraced-same code turns without (first_story code) order (first-none code turns without)
