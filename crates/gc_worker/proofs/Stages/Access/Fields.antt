-- The load and the store of a value of a record, whose page was found open: the instruction's effect.
use Rattle.std.proofs.Common.{◌≡◌, ℕ, ◌+◌, ◌*◌, ◌<◌, ◌≤◌, true, [], length, Option, None, Some, Ok, slice_get, refl, ap, sym, subst, ◌∙◌, arith, le-ltb, false}
use Rattle.std.specs.Prelude.{Result, nat_le, nat_lt, slice_set}
use Rattle.std.specs.Option.{option_map_or}
use Rattle.std.proofs.lemmas.Bool.{and_parts, leb-true, lt-ltb, ltb-true}
use Rattle.std.proofs.lemmas.Option.{slice_get_within, get_or_from_slice_get}
use Rattle.plain_state.specs.declared.end.End.{End}
use Rattle.plain_state.specs.declared.kind.Kind as kinds
use Rattle.plain_state.specs.declared.kind.Kind.TheVariants as kind
use Rattle.plain_state.specs.declared.sizes.TheConstants.{NUMBERS}
use Rattle.plain_state.specs.declared.value.Identity.{Identity}
use Rattle.plain_state.specs.declared.value.Value.{Value}
use Rattle.plain_state.specs.declared.value.Value.TheVariants.{Number, Reference}
use Rattle.plain_state.specs.Layout.{is_raw, values_at, word_of_value}
use Rattle.plain_state.specs.State.{Heap, Mutator, Plain, Record, record_of}
use Rattle.plain_state.specs.Writing.{stored}
use Rattle.plain_heap.specs.declared.action.Action.{Action}
use Rattle.plain_heap.specs.declared.action.Action.TheVariants.{Loads, Stores, Compares}
use Rattle.plain_heap.specs.Action.{◌>>=◌}
use Rattle.plain_heap.specs.Call as plain
use Rattle.plain_heap.specs.Call.{After, is_cell, performed, values_of, value_in, store_in, may_hold, went_on}
use Rattle.atom_store.specs.declared.step.Step.TheVariants.{Load, Store}
use Rattle.atom_store.specs.declared.reply.Reply.TheVariants as replies
use Rattle.heap_words.specs.Decoded.{number_in}
use Rattle.space_map.specs.Spaces.{page_of}
use Rattle.space_map.specs.Table.{HeapWord, place_of}
use Rattle.heap_state.specs.Configuration.{Configuration, Stands, era, memory, team}
use Rattle.heap_state.specs.Memory.Entries.{WordIs}
use Rattle.heap_state.specs.Invariant.Parts.Knowledge as parts
use Rattle.heap_state.specs.Memory.Table.{word_in}
use Rattle.heap_state.specs.Known.{Known}
use Rattle.heap_state.proofs.Records.Layouts.{raw_is_no_field}
use Rattle.heap_laws.specs.Fields.Effects.{IsFieldOrNumber, IsTargetOf, IsValueOf, FitsRole, word_held, word_stored}
use Rattle.heap_laws.specs.Fields.Held.{HoldsValue, MutatorGoesOn}
use Rattle.heap_laws.specs.Fields.Stores.{IsAs}
use Rattle.heap_laws.specs.Fields.Words.{MayStore, StandsFor}
use Rattle.heap_laws.proofs.Fields.Effects.{accesses_are_values, targets_are_values}
use Rattle.heap_laws.proofs.Fields.Laws.{mutators_store}
use Rattle.heap_laws.proofs.Fields.Stored.{words_are_loaded}
use Rattle.record_access.specs.declared.access_stage.AccessStage.{AccessStage}
use Rattle.record_access.specs.declared.access_stage.AccessStage.TheVariants.{LoadsField, StoresField}
use Rattle.record_access.specs.declared.accessed.Accessed.TheVariants.{Brings}
use Rattle.record_access.specs.declared.field_access.FieldAccess.{FieldAccess}
use Rattle.record_access.specs.declared.field_access.FieldUse.TheVariants as field_uses
use Rattle.record_access.specs.declared.field_access.Role.{Role}
use Rattle.record_access.specs.declared.field_access.Role.TheVariants as roles
use Rattle.record_access.specs.Access.{Comes, IsHeapAddress, field_at, field_of, is_target, kind_of, role_of, word_as}
use Rattle.gc_worker.specs.Steps.Access.{IsFieldOfAction}
use Rattle.gc_worker.specs.Workers.Fits.{ExecutesAction}
use Rattle.gc_worker.specs.Steps.Goes.{Is, Goes, StepsSo}
use Rattle.gc_worker.specs.Workers.Held.{Held}
use Rattle.gc_worker.specs.Workers.Knows.{known_access, access_at, opened_at}
use Rattle.record_access.specs.Seen.{word_for}
use Rattle.gc_worker.proofs.Plain.Actions.{plain_value}
use Rattle.gc_worker.proofs.Plain.AnswerSteps.{LawTo}
use Rattle.gc_worker.proofs.Plain.Effects.{moved, moved_goes, moved_as}
use Rattle.gc_worker.proofs.Stages.Gate.GateWords.{wants}
use Rattle.gc_worker.proofs.Stages.Scan.ScannedHeaders.{heap_word}
use Rattle.gc_worker.proofs.Words.RowSteps.{loads, stores}
use Rattle.gc_worker.proofs.Stages.Access.Acting.{q, its, names, is_small, value_word, Held_value, IsSmall, decode_number}
use Rattle.gc_worker.proofs.Stages.Access.NextAccessStage.{at, ready, running, no_end, knew_access}
use Rattle.gc_worker.proofs.Stages.Access.AccessOutcomes.{goes_loading, goes_storing}

-- ---- words and roles

-- the role of a value says what may be stored there, whatever kind of record it is of
pub held_by_role : (of : kinds.Kind) (o : Role) (x : ℕ) (v : Value) → parts.HasRole of (word_of_value of x) (role_of o) → may_hold of x v ≡ may_hold (kind_of o) x v
held_by_role kind.Fields roles.Field x v has = refl
held_by_role kind.Raw roles.Number x v has = refl
held_by_role (kind.Mixed count) roles.Field x v has =
    let within = ltb-true (x + 2) (count + 2) (and_parts (nat_le 2 (x + 2)) (nat_lt (x + 2) (count + 2)) has).1 in
    rw (lt-ltb x count (omega (arith, within))) refl
held_by_role (kind.Mixed count) roles.Number x v has =
    let behind = leb-true (count + 2) (x + 2) has in
    rw (le-ltb x count (omega (arith, behind))) refl
held_by_role kind.Weak roles.Target x v has = refl
held_by_role _ roles.Target x v has = absurd (let weak = has.0 in cc)
held_by_role _ _ x v has = absurd (cc)

-- a record with such a value is no cell, if it is no target
no_cell : (of : kinds.Kind) (o : Role) (word : ℕ) → is_target o ≡ false → parts.HasRole of word (role_of o) → is_cell of ≡ false
no_cell kind.Weak roles.Field word other has = absurd (cc)
no_cell kind.Weak _ word other has = absurd (cc)
no_cell _ o word other has = refl

field_or_number : (o : Role) → is_target o ≡ false → IsFieldOrNumber (role_of o)
field_or_number roles.Field other = tt
field_or_number roles.Number other = tt
field_or_number roles.Target other = absurd (cc)

-- what may be stored is stored in no cell
pub no_target : (o : Role) (x : ℕ) (v : Value) → may_hold (kind_of o) x v ≡ Ok v → is_target o ≡ false
no_target roles.Field x v may = refl
no_target roles.Number x v may = refl
no_target roles.Target x v may = absurd (cc)

-- what is stored for a value that may be held
stored_as : (o : Role) (x : ℕ) (v : Value) → IsSmall v → may_hold (kind_of o) x v ≡ Ok v → word_stored (role_of o) (word_for v) ≡ Some (word_as o v)
stored_as roles.Field x v small may = refl
stored_as roles.Number x (Number n) small may = ap number_in (decode_number n small)
stored_as roles.Number x (Reference i) small may = absurd (cc)
stored_as roles.Target x v small may = absurd (cc)

may_plain : (identity : ℕ → Identity) (o : Role) (x : ℕ) (v : Value) → may_hold (kind_of o) x v ≡ Ok v → may_hold (kind_of o) x (plain_value identity v) ≡ Ok (plain_value identity v)
may_plain identity roles.Field x v may = refl
may_plain identity roles.Number x (Number n) may = refl
may_plain identity roles.Number x (Reference i) may = absurd (cc)
may_plain identity roles.Target x v may = absurd (cc)

fits_as : (o : Role) (x : ℕ) (v : Value) → IsSmall v → may_hold (kind_of o) x v ≡ Ok v → FitsRole (role_of o) (word_as o v)
fits_as roles.Field x v small may = tt
fits_as roles.Number x (Number n) small may = small
fits_as roles.Number x (Reference i) small may = absurd (cc)
fits_as roles.Target x v small may = tt

-- ---- the plain heap

module _ (heap : Heap) (i : Identity) (r : Record) (x : ℕ) (v : Value) (there : record_of heap i ≡ Some r) (is : slice_get r.values x ≡ Some v) where
  value_there : value_in heap i x ≡ Ok v
  value_there =
      let values : values_of heap i ≡ r.values = ap (λ (o : Option Record). option_map_or (λ (r : Record). r.values) o []) there in
      let within : nat_lt x (length r.values) ≡ true = lt-ltb x (length r.values) (slice_get_within r.values x v is) in
      rw (values, within) (ap Ok (get_or_from_slice_get r.values x v (Number 0) is))

module _ (c : Configuration) (p : Plain) (s : Stands c p) (k : ℕ) (y : Held) where
  -- a field of the record that an action names
  module _ (j : Identity) (first : ℕ) (role : Role) (x : ℕ) where
    abbrev f : FieldAccess
    f = field_of j.serial first role x

    abbrev word : ℕ
    word = word_in c.pages c.words (HeapWord (field_at f))

    module _ (stage : AccessStage) (is : Is c k (at c p s k y stage)) (knows_it : access_at stage ≡ Some (known_access f)) (found : opened_at y.layout stage ≡ Some (page_of (field_at f)))
        (other : is_target role ≡ false) where
      pub value_is : IsValueOf (era c) (memory c) s.ghost p (known_access f) x
      value_is =
          accesses_are_values (era c) (memory c) (team c) s.ghost p k (known_access f) x (ready c p s k y stage is) s.shown (ap (λ (w : Known). w.access) is.as_known ∙ knows_it) (field_or_number role other)
          (ap (λ (w : Known). w.opened) is.as_known ∙ found) (ap (λ (n : ℕ). x + n) (knew_access c p s k y stage is (known_access f) knows_it).first)

      held_is : (v : Value) → may_hold value_is.record_there.kind x v ≡ may_hold (kind_of role) x v
      held_is v = held_by_role value_is.record_there.kind role x v value_is.role

      pub there_in_plain : value_in p.heap (s.ghost.identity j.serial) x ≡ Ok value_is.value
      there_in_plain =
          value_there p.heap (s.ghost.identity j.serial) value_is.record_there x value_is.value value_is.is value_is.there

      -- ---- the load

      pub holds : HoldsValue (era c) s.ghost (word_held (role_of role) word) value_is.value
      holds = subst (λ (w : ℕ). HoldsValue (era c) s.ghost (word_held (role_of role) w) value_is.value) (heap_word c (field_at f)) value_is.loaded

      -- it is of no cell
      is_no_cell : ¬ (s.ghost.kind j.serial ≡ kind.Weak)
      is_no_cell e =
          let none = no_cell value_is.record_there.kind role (word_of_value value_is.record_there.kind x) other value_is.role in
          let cell : is_cell value_is.record_there.kind ≡ true = ap is_cell (value_is.kind ∙ e) in
          absurd (let z = sym none ∙ cell in cc)

      -- it stands at the value's word
      there_is : j.serial + word_of_value (s.ghost.kind j.serial) x ≡ field_at f
      there_is = let b = (knew_access c p s k y stage is (known_access f) knows_it).first in omega (arith, b)

      may : MayStore (era c) s.ghost.size s.ghost.writer (s.ghost.kind j.serial) x ((memory c).heap (field_at f))
      may = rw there_is at (words_are_loaded (era c) (memory c) (team c) s.ghost k j.serial x (ready c p s k y stage is) value_is.word (rw there_is value_is.opens))

      pub fits_role : (o : Role) → role ≡ o → FitsRole (role_of o) word
      fits_role roles.Field same = tt
      fits_role roles.Target same = tt
      fits_role roles.Number same =
          let raw : is_raw (s.ghost.kind j.serial) (word_of_value (s.ghost.kind j.serial) x) ≡ true =
          subst (λ (k : kinds.Kind). is_raw k (word_of_value k x) ≡ true) value_is.kind
          (subst (λ (o : Role). parts.HasRole value_is.record_there.kind (word_of_value value_is.record_there.kind x) (role_of o)) same value_is.role) in
          subst (λ (w : ℕ). w < NUMBERS) (heap_word c (field_at f)) (may.number (raw_is_no_field (s.ghost.kind j.serial) (word_of_value (s.ghost.kind j.serial) x) raw))

      -- ---- a value that is stored there

      module _ (v : Value) (holds_new : Held_value c p s k y stage is v) (holding : may_hold (kind_of role) x v ≡ Ok v) where
        abbrev new : Value
        new = plain_value s.ghost.identity v

        small : IsSmall v
        small = is_small c p s k y stage is v holds_new

        may_store : MayStore (era c) s.ghost.size s.ghost.writer (s.ghost.kind j.serial) x (word_as role v) × StandsFor s.ghost (s.ghost.kind j.serial) x (word_as role v) new
        may_store = value_is.stored (word_for v) (word_as role v) new holds_new (stored_as role x v small holding) (fits_as role x v small holding)

        abbrev pub heap_after : Heap
        heap_after = stored p.heap (s.ghost.identity j.serial) value_is.record_there x new

        store_there : store_in p.heap (s.ghost.identity j.serial) (record_of p.heap (s.ghost.identity j.serial)) x new ≡ Ok heap_after
        store_there = rw (value_is.is, held_is new, may_plain s.ghost.identity role x v holding) refl

        -- the plain machine finds the value there, and may store this one
        pub stores_in_plain : (leave : (found : Value) → Heap → After)
            → (value_in p.heap (s.ghost.identity j.serial) x >>= (λ (found : Value). store_in p.heap (s.ghost.identity j.serial) (record_of p.heap (s.ghost.identity j.serial)) x new >>= (λ (heap : Heap). Ok (leave found heap)))) ≡ Ok (leave value_is.value heap_after)
        stores_in_plain leave =
            ap (λ (o : Result Value End). o >>= (λ (found : Value). store_in p.heap (s.ghost.identity j.serial) (record_of p.heap (s.ghost.identity j.serial)) x new >>= (λ (heap : Heap). Ok (leave found heap)))) there_in_plain
            ∙ ap (λ (o : Result Heap End). o >>= (λ (heap : Heap). Ok (leave value_is.value heap))) store_there

        -- the store, after which the mutator goes on so
        pub stored_law : (next : Known) (now : Mutator) → MutatorGoesOn (era c) (memory c) s.ghost ((team c).worker k) next → IsAs s.ghost p.heap k next now
            → LawTo c p s k (at c p s k y stage) (Some (WordIs (field_at f) (word_as role v))) next s.ghost (record { heap = heap_after; mutators = slice_set p.mutators k now })
        stored_law next now goes as_it =
            let here = there_is in
            rw here at (mutators_store (era c) (memory c) (team c) s.ghost p k next now j.serial x (word_as role v) value_is.record_there new
            (ready c p s k y stage is) (running c p s k y stage is) s.shown is_no_cell value_is.word (rw here value_is.opens) may_store.0 value_is.is may_store.1 goes as_it)

    module _ (d : ℕ) (is : Is c k (at c p s k y (LoadsField f d))) (executes : ExecutesAction y.account y.registers y.task (Loads d j x)) where
      abbrev loading : AccessStage
      loading = LoadsField f d

      -- the register gets a word that holds the plain value
      brings : (w : ℕ) (v : Value) → HoldsValue (era c) s.ghost w v → value_in p.heap (s.ghost.identity j.serial) x ≡ Ok v → word_held (role_of role) word ≡ w → FitsRole (role_of role) word
          → Goes c p s k None (at c p s k y loading) (replies.Value word)
      brings w v holds there same fits =
          goes_loading c p s k y loading is (Loads d j x) executes (replies.Value word) d w v (ap (λ (z : ℕ). Comes (Brings d z)) same) is.fits.stage.sound.stage.1
          (value_word s.ghost.identity w v holds.denotes) holds (ap (λ (o : Result Value End). o >>= (λ (v : Value). Ok (plain.loads p.heap (q c p s k y loading is) d v))) there) fits

      other_value : is_target role ≡ false → Goes c p s k None (at c p s k y loading) (replies.Value word)
      other_value other =
          brings (word_held (role_of role) word) (value_is loading is refl refl other).value (holds loading is refl refl other) (there_in_plain loading is refl refl other) refl
          (fits_role loading is refl refl other role refl)

      -- the target of a cell, whose epoch is traced
      module _ (is_role : role ≡ roles.Target) where
        target_is : IsTargetOf (era c) (memory c) s.ghost p (known_access f)
        target_is =
            targets_are_values (era c) (memory c) (team c) s.ghost p k (known_access f) (ready c p s k y loading is) s.shown (ap (λ (w : Known). w.access) is.as_known) (ap role_of is_role)
            (ap (λ (w : Known). w.traced_seen) is.as_known ∙ ap is_target is_role)

        first_value : 0 ≡ x
        first_value =
            let a = knew_access c p s k y loading is (known_access f) refl in
            let has = subst (λ (o : Role). parts.HasRole (s.ghost.kind j.serial) (x + first) (role_of o)) is_role a.role in
            let b = a.first ∙ ap values_at has.0 in
            let w = has.1 in
            omega (arith, b, w)

        target_value : Goes c p s k None (at c p s k y loading) (replies.Value word)
        target_value =
            brings word target_is.value (subst (λ (w : ℕ). HoldsValue (era c) s.ghost w target_is.value) (heap_word c (field_at f)) target_is.loaded)
            (value_there p.heap (s.ghost.identity j.serial) target_is.record_there x target_is.value target_is.is (subst (λ (n : ℕ). slice_get target_is.record_there.values n ≡ Some target_is.value) first_value target_is.there))
            (ap (λ (o : Role). word_held (role_of o) word) is_role) (subst (λ (o : Role). FitsRole (role_of o) word) (sym is_role) tt)

      loads_by_role : (o : Role) → role ≡ o → Goes c p s k None (at c p s k y loading) (replies.Value word)
      loads_by_role roles.Field is_role = other_value (ap is_target is_role)
      loads_by_role roles.Number is_role = other_value (ap is_target is_role)
      loads_by_role roles.Target is_role = target_value is_role

      loads_it : Goes c p s k None (at c p s k y loading) (replies.Value word)
      loads_it = loads_by_role role refl

    -- ---- the store

    module _ (v : Value) (is : Is c k (at c p s k y (StoresField f (word_as role v)))) (executes : ExecutesAction y.account y.registers y.task (Stores j x v)) (holding : may_hold (kind_of role) x v ≡ Ok v) where
      abbrev stage : AccessStage
      stage = StoresField f (word_as role v)

      other : is_target role ≡ false
      other = no_target role x v holding

      abbrev own_x : Held
      own_x = at c p s k y stage

      abbrev now : Mutator
      now = went_on (q c p s k y stage is)

      holds_new : Held_value c p s k y stage is v
      holds_new = (names c p s k y stage is (Stores j x v) executes).1

      abbrev later : Heap
      later = heap_after stage is refl refl other v holds_new holding

      acts : performed k p.heap (q c p s k y stage is) (Stores (s.ghost.identity j.serial) x (plain_value s.ghost.identity v)) ≡ Ok (record { heap = later; mutator = now })
      acts = stores_in_plain stage is refl refl other v holds_new holding (λ old heap. record { heap = heap; mutator = now })

      stores_it : Goes c p s k (Some (WordIs (field_at f) (word_as role v))) own_x replies.Done
      stores_it =
          goes_storing c p s k y stage is (Stores j x v) executes (Some (WordIs (field_at f) (word_as role v))) replies.Done (record { heap = later; mutator = now }) refl acts
          (stored_law stage is refl refl other v holds_new holding (moved c p s k own_x is refl (no_end c p s k y stage is) y.registers) now
          (moved_goes c p s k own_x is refl (no_end c p s k y stage is) (q c p s k y stage is) (its c p s k y stage is)) (moved_as c p s k own_x is refl (no_end c p s k y stage is) (q c p s k y stage is) (its c p s k y stage is))) tt

  -- ---- the stages

  module _ (f : FieldAccess) where
    pub in_table : IsHeapAddress y.layout.pages (field_at f) → y.layout.pages ≡ c.pages → field_at f ≤ 128 * c.pages + 63
    in_table inside n = omega (arith, inside, n)

    loads_by : (into : ℕ) (act : Action) → ExecutesAction y.account y.registers y.task act → IsFieldOfAction act f (field_uses.Loads into) → Is c k (at c p s k y (LoadsField f into))
        → Goes c p s k None (at c p s k y (LoadsField f into)) (replies.Value (word_in c.pages c.words (HeapWord (field_at f))))
    loads_by into (Loads d j x) executes of is =
        let same : into ≡ d = let e = of.1 in cc in
        subst (λ (g : FieldAccess). Is c k (at c p s k y (LoadsField g into)) → Goes c p s k None (at c p s k y (LoadsField g into)) (replies.Value (word_in c.pages c.words (HeapWord (field_at g))))) (sym of.0)
        (subst (λ (n : ℕ). Is c k (at c p s k y (LoadsField (field_of j.serial f.first f.role x) n)) → Goes c p s k None (at c p s k y (LoadsField (field_of j.serial f.first f.role x) n)) (replies.Value (word_in c.pages c.words (HeapWord (field_at (field_of j.serial f.first f.role x)))))) (sym same)
        (λ its. loads_it j f.first f.role x d its executes)) is
    loads_by into (Stores j x v) executes of is = absurd (let e = of.2 in cc)
    loads_by into (Compares d j x u v) executes of is = absurd (let e = of.2 in cc)
    loads_by into _ executes of is = absurd of

    pub loads_field : (into : ℕ) → Is c k (at c p s k y (LoadsField f into)) → StepsSo c p s k (at c p s k y (LoadsField f into))
    loads_field into is =
        wants c p s k (at c p s k y (LoadsField f into)) (Load (place_of c.pages (HeapWord (field_at f)))) (ap (λ n. Some (Load (place_of n (HeapWord (field_at f))))) is.fits.pages)
        (loads c p s k (at c p s k y (LoadsField f into)) (HeapWord (field_at f)) (in_table is.fits.stage.sound.stage.0 is.fits.pages) (loads_by into is.fits.task.act is.fits.task.executes is.fits.task.is is))

    stores_by : (new : ℕ) (act : Action) → ExecutesAction y.account y.registers y.task act → IsFieldOfAction act f (field_uses.Stores new) → Is c k (at c p s k y (StoresField f new))
        → Goes c p s k (Some (WordIs (field_at f) new)) (at c p s k y (StoresField f new)) replies.Done
    stores_by new (Stores j x v) executes of is =
        let same : new ≡ word_as f.role v = let e = of.2 in cc in
        subst (λ (g : FieldAccess). Is c k (at c p s k y (StoresField g new)) → Goes c p s k (Some (WordIs (field_at g) new)) (at c p s k y (StoresField g new)) replies.Done) (sym of.0)
        (subst (λ (n : ℕ). Is c k (at c p s k y (StoresField (field_of j.serial f.first f.role x) n)) → Goes c p s k (Some (WordIs (field_at (field_of j.serial f.first f.role x)) n)) (at c p s k y (StoresField (field_of j.serial f.first f.role x) n)) replies.Done) (sym same)
        (λ its. stores_it j f.first f.role x v its executes of.1)) is
    stores_by new (Loads d j x) executes of is = absurd (let e = of.1 in cc)
    stores_by new (Compares d j x u v) executes of is = absurd (let e = of.2 in cc)
    stores_by new _ executes of is = absurd of

    pub stores_field : (new : ℕ) → Is c k (at c p s k y (StoresField f new)) → StepsSo c p s k (at c p s k y (StoresField f new))
    stores_field new is =
        wants c p s k (at c p s k y (StoresField f new)) (Store (place_of c.pages (HeapWord (field_at f))) new) (ap (λ n. Some (Store (place_of n (HeapWord (field_at f))) new)) is.fits.pages)
        (stores c p s k (at c p s k y (StoresField f new)) (WordIs (field_at f) new) (in_table is.fits.stage.sound.stage is.fits.pages) (stores_by new is.fits.task.act is.fits.task.executes is.fits.task.is is))
