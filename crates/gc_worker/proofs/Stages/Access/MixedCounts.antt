-- The load of a mixed record's count: it says which role the value has, and so where the access goes on, or that it fails.
use Rattle.std.proofs.Common.{◌≡◌, ℕ, ◌+◌, inl, inr, Bool, true, false, nat_lt, length, Option, None, Some, Err, refl, sym, ap, subst, ◌∙◌, arith, le-leb, lt-ltb, ltb-false}
use Rattle.std.specs.Bool.{⊤}
use Rattle.std.proofs.lemmas.Bool.{ltb-true}
use Rattle.plain_state.specs.declared.kind.Kind.TheVariants as kind
use Rattle.plain_state.specs.declared.value.Identity.{Identity}
use Rattle.plain_state.specs.declared.value.Value.{Value}
use Rattle.plain_state.specs.declared.value.Value.TheVariants.{Reference}
use Rattle.plain_state.specs.State.{Plain}
use Rattle.plain_heap.specs.declared.action.Action.{Action}
use Rattle.plain_heap.specs.declared.action.Action.TheVariants.{Measures, Loads, Stores, Compares}
use Rattle.plain_heap.specs.Call.{may_hold}
use Rattle.atom_store.specs.declared.step.Step.TheVariants.{Load}
use Rattle.atom_store.specs.declared.reply.Reply.TheVariants as replies
use Rattle.heap_words.specs.Decoded.{decode, number_in}
use Rattle.space_map.specs.Table.{HeapWord, place_of}
use Rattle.heap_state.specs.Configuration.{Configuration, Stands, era, memory, team}
use Rattle.heap_state.specs.Invariant.Parts.Knowledge as parts
use Rattle.heap_state.specs.Memory.Table.{word_in}
use Rattle.heap_state.specs.Known.{Known}
use Rattle.heap_laws.specs.Fields.Effects.{CountSays}
use Rattle.heap_laws.proofs.Fields.Effects.{counts_are_read}
use Rattle.record_access.specs.declared.access_stage.AccessStage.{AccessStage}
use Rattle.record_access.specs.declared.access_stage.AccessStage.TheVariants.{LooksAtRecord, LoadsCount}
use Rattle.record_access.specs.declared.field_access.FieldAccess.{FieldAccess}
use Rattle.record_access.specs.declared.field_access.FieldUse.{FieldUse}
use Rattle.record_access.specs.declared.field_access.FieldUse.TheVariants as field_uses
use Rattle.record_access.specs.declared.field_access.Role.{Role}
use Rattle.record_access.specs.declared.mixed_access.MixedAccess.{MixedAccess}
use Rattle.record_access.specs.declared.record_access.RecordAccess.{RecordAccess}
use Rattle.record_access.specs.declared.record_access.RecordUse.TheVariants as record_uses
use Rattle.record_access.specs.Access.{answered, count_at, field_of, kind_of, read_count, role_by_count, role_of, to_field, valued, word_as, FitsFieldUse, storing}
use Rattle.gc_worker.specs.Steps.Access.{before_header, begun, record_use, IsFieldOfAction}
use Rattle.gc_worker.specs.Workers.Fits.{ExecutesAction}
use Rattle.gc_worker.specs.Steps.Goes.{Is, Goes, StepsSo}
use Rattle.gc_worker.specs.Workers.Held.{Held}
use Rattle.gc_worker.specs.Workers.Knows.{uncounted_access}
use Rattle.record_access.specs.Seen.{value_seen, word_for}
use Rattle.gc_worker.specs.Plain.Seen.{seen}
use Rattle.gc_worker.proofs.Plain.Actions.{plain_value}
use Rattle.gc_worker.proofs.Stages.Gate.GateWords.{wants}
use Rattle.gc_worker.proofs.Stages.Scan.ScannedHeaders.{heap_word}
use Rattle.gc_worker.proofs.Words.RowSteps.{loads}
use Rattle.gc_worker.proofs.Stages.Access.Acting.{calls, names, is_small, q, Held_value}
use Rattle.gc_worker.proofs.Stages.Access.Fields.{held_by_role}
use Rattle.gc_worker.proofs.Stages.Access.NextAccessStage.{own, at, ready, goes_on_to_field}
use Rattle.gc_worker.proofs.Stages.Access.AccessedHeaders.{again, same_access, seen_again, Decided, decided, may_refuse, not_full, refusal}
use Rattle.gc_worker.proofs.Stages.Access.AccessOutcomes.{goes_ending}
use Rattle.gc_worker.proofs.Stages.Access.Storing.{Condition, fits_field, holds_it_not, is_field, mixed_value, names_both, renewed, storing_action, storing_use, valued_so}

-- a value of a mixed record has the role that the count says
has_by_count : (count x : ℕ) → parts.HasRole (kind.Mixed count) (x + 2) (role_of (role_by_count count x))
has_by_count count x = by_test (nat_lt x count) refl
  where
    by_test : (b : Bool) → nat_lt x count ≡ b → parts.HasRole (kind.Mixed count) (x + 2) (role_of (role_by_count count x))
    by_test true test = let l = ltb-true x count test in rw (test, le-leb 2 (x + 2) (omega arith), lt-ltb (x + 2) (count + 2) (omega (arith, l))) refl
    by_test false test = let l = ltb-false x count test in rw (test, le-leb (count + 2) (x + 2) (omega (arith, l))) refl

-- ---- the action that makes it

-- an access to a mixed record is that before its header was read
same_use : (u v : FieldUse) → record_use u ≡ record_use v → u ≡ v
same_use (field_uses.Loads a) (field_uses.Loads b) e = cc
same_use (field_uses.Stores a) (field_uses.Stores b) e = cc
same_use (field_uses.Compares a) (field_uses.Compares b) e = cc
same_use _ _ e = absurd (cc)

same_mixed : (m n : MixedAccess) → Some (LooksAtRecord (before_header m)) ≡ Some (LooksAtRecord (before_header n)) → m ≡ n
same_mixed m n e =
    let same = same_access (before_header m) (before_header n) e in
    let usage = same_use m.usage n.usage (ap (λ (r : RecordAccess). r.usage) same) in
    λ i. record { at = (same i).at; value = (same i).value; usage = usage i }

-- and none tells a length
no_length : (d : ℕ) (u : FieldUse) → record_uses.TellsLength d ≡ record_use u → ⊥
no_length d (field_uses.Loads _) e = absurd (cc)
no_length d _ e = absurd (cc)

module _ (c : Configuration) (p : Plain) (s : Stands c p) (k : ℕ) (y : Held) where
  abbrev Answers : MixedAccess → Type 0
  Answers m = Goes c p s k None (at c p s k y (LoadsCount m)) (replies.Value (word_in c.pages c.words (HeapWord (count_at m))))

  module _ (m : MixedAccess) (is : Is c k (at c p s k y (LoadsCount m))) where
    abbrev stage : AccessStage
    stage = LoadsCount m

    abbrev word : ℕ
    word = word_in c.pages c.words (HeapWord (count_at m))

    pub says : CountSays (era c) (memory c) s.ghost p (uncounted_access m)
    says = counts_are_read (era c) (memory c) (team c) s.ghost p k (uncounted_access m) (ready c p s k y stage is) s.shown (ap (λ (w : Known). w.access) is.as_known) refl

    abbrev pub role : Role
    role = role_by_count says.count m.value

    pub reads : answered (own c p s k y stage) (replies.Value word) ≡ valued m role m.usage
    reads = ap (λ (o : Option ℕ). read_count m o) (ap number_in (ap decode (sym (heap_word c (count_at m))) ∙ says.says))

    has : parts.HasRole (kind.Mixed says.count) (m.value + 2) (role_of role)
    has = has_by_count says.count m.value

    abbrev f : FieldAccess
    f = field_of m.at 2 role m.value

    -- what may be stored there in the plain machine
    holding : (v : Value) → may_hold says.record_there.kind m.value v ≡ may_hold (kind_of role) m.value v
    holding v = ap (λ of. may_hold of m.value v) says.kind ∙ held_by_role (kind.Mixed says.count) role m.value v has

    within : nat_lt m.value (length says.record_there.values) ≡ true
    within = let l = says.within in lt-ltb m.value (length says.record_there.values) (omega (arith, l))

    goes : (act : Action) → ExecutesAction y.account y.registers y.task act → (usage : FieldUse) → IsFieldOfAction act f usage → FitsFieldUse usage
        → answered (own c p s k y stage) (replies.Value word) ≡ to_field usage f → Answers m
    goes act executes = goes_on_to_field c p s k y stage is act executes f (replies.Value word) (says.access (role_of role) has) is.fits.stage.sound.stage.0 refl tt

  -- ---- a load

  module _ (d : ℕ) (j : Identity) (at_value : ℕ) where
    abbrev of_value : MixedAccess
    of_value = record { at = j.serial; value = at_value; usage = field_uses.Loads d }

    loads_it : (is : Is c k (at c p s k y (LoadsCount of_value))) → ExecutesAction y.account y.registers y.task (Loads d j at_value) → Answers of_value
    loads_it is executes = goes of_value is (Loads d j at_value) executes (field_uses.Loads d) (refl, refl) is.fits.stage.sound.stage.1 (reads of_value is)

  -- ---- a store, or an exchange

  module _ (o : Condition) (j : Identity) (at_value : ℕ) (v : Value) where
    abbrev act_new : Action
    act_new = storing_action o j at_value v

    abbrev of_new : MixedAccess
    of_new = record { at = j.serial; value = at_value; usage = storing_use o (word_for v) }

    module _ (is : Is c k (at c p s k y (LoadsCount of_new))) (executes : ExecutesAction y.account y.registers y.task act_new) where
      holds_both : Held_value c p s k y (LoadsCount of_new) is (Reference j) × Held_value c p s k y (LoadsCount of_new) is v
      holds_both = names_both o j at_value v (Held_value c p s k y (LoadsCount of_new) is) ⊤ (seen y.account y.registers) (names c p s k y (LoadsCount of_new) is act_new executes)

      seen_so : value_seen (word_for v) ≡ again v
      seen_so = seen_again v (is_small c p s k y (LoadsCount of_new) is v holds_both.1) (mixed_value o (word_for v) is.fits.stage.sound.stage.1)

      comes_new : answered (own c p s k y (LoadsCount of_new)) (replies.Value (word of_new is))
          ≡ storing (field_of j.serial 2 (role of_new is) at_value) (storing_use o (word_for v)) (may_hold (kind_of (role of_new is)) at_value (value_seen (word_for v)))
      comes_new = reads of_new is ∙ valued_so o of_new (role of_new is) (word_for v)

      by_holding : Decided s.ghost.identity (role of_new is) at_value v → Answers of_new
      by_holding (inl t) =
          goes of_new is act_new executes (storing_use o (word_as (role of_new is) v)) (is_field o j at_value v 2 (role of_new is) t.0)
          (fits_field o (word_for v) (word_as (role of_new is) v) is.fits.stage.sound.stage.1) (comes_new ∙ rw (seen_so, t.1, t.2, renewed o (word_for v) (word_as (role of_new is) v)) refl)
      by_holding (inr t) =
          goes_ending c p s k y (LoadsCount of_new) is act_new executes (replies.Value (word of_new is)) (refusal (role of_new is)) (comes_new ∙ rw (seen_so, t.0) refl) refl
          (may_refuse k p.heap (q c p s k y (LoadsCount of_new) is) executes.instr (role of_new is)
          (calls c p s k y (LoadsCount of_new) is act_new executes (Err (refusal (role of_new is)))
          (holds_it_not o j at_value v s.ghost.identity k p.heap (q c p s k y (LoadsCount of_new) is) (refusal (role of_new is)) (says of_new is).record_there
          (rw (says of_new is).is (within of_new is)) (says of_new is).is (rw (holding of_new is (plain_value s.ghost.identity v)) t.1))))
          (not_full c.pages c.words (at c p s k y (LoadsCount of_new)) (role of_new is)) tt

      stores_it : Answers of_new
      stores_it = by_holding (decided s.ghost.identity (role of_new is) at_value v)

  -- ---- the stage

  steps : (m : MixedAccess) (is : Is c k (at c p s k y (LoadsCount m))) → Answers m → StepsSo c p s k (at c p s k y (LoadsCount m))
  steps m is goes =
      let inside = is.fits.stage.sound.stage.0 in
      let n = is.fits.pages in
      wants c p s k (at c p s k y (LoadsCount m)) (Load (place_of c.pages (HeapWord (count_at m)))) (ap (λ n. Some (Load (place_of n (HeapWord (count_at m))))) is.fits.pages)
      (loads c p s k (at c p s k y (LoadsCount m)) (HeapWord (count_at m)) (omega (arith, inside, n)) goes)

  -- the stage of an access that an action begins with
  begun_with : (m n : MixedAccess) → Some (LooksAtRecord (before_header m)) ≡ Some (LooksAtRecord (before_header n)) → (Is c k (at c p s k y (LoadsCount m)) → Answers m)
      → Is c k (at c p s k y (LoadsCount n)) → StepsSo c p s k (at c p s k y (LoadsCount n))
  begun_with m n e goes is =
      subst (λ (z : MixedAccess). Is c k (at c p s k y (LoadsCount z)) → StepsSo c p s k (at c p s k y (LoadsCount z))) (same_mixed m n e) (λ its. steps m its (goes its)) is

  by_action : (m : MixedAccess) (act : Action) → ExecutesAction y.account y.registers y.task act → begun act ≡ Some (LooksAtRecord (before_header m)) → Is c k (at c p s k y (LoadsCount m))
      → StepsSo c p s k (at c p s k y (LoadsCount m))
  by_action m (Loads d j x) executes e is = begun_with (of_value d j x) m e (λ its. loads_it d j x its executes) is
  by_action m (Stores j x v) executes e is = begun_with (of_new None j x v) m e (λ its. stores_it None j x v its executes) is
  by_action m (Compares d j x u v) executes e is =
      let o : Condition = Some (d, u) in
      begun_with (of_new o j x v) m e (λ its. stores_it o j x v its executes) is
  by_action m (Measures d j) executes e is = absurd (no_length d m.usage (ap (λ (r : RecordAccess). r.usage) (same_access (record { at = j.serial; value = 0; usage = record_uses.TellsLength d }) (before_header m) e)))
  by_action m _ executes e is = absurd (cc)

  pub loads_count : (m : MixedAccess) → Is c k (at c p s k y (LoadsCount m)) → StepsSo c p s k (at c p s k y (LoadsCount m))
  loads_count m is = by_action m is.fits.task.act is.fits.task.executes is.fits.task.is is
