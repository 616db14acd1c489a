-- The load of a record's header: its kind and its length decide what the access comes to, or where it goes on.
use Rattle.std.proofs.Common.{◌≡◌, ℕ, ◌+◌, ◌-◌, ◌*◌, ◌^◌, ◌<◌, ◌≤◌, ◌==◌, ◌⊎◌, inl, inr, Bool, true, false, cond, List, [], length, nat_lt, Option, None, Some, Ok, Err, refl, ap, sym, subst, ◌∙◌, arith}
use Rattle.std.specs.Bool.{⊤}
use Rattle.std.specs.Option.{option_map_or}
use Rattle.std.proofs.lemmas.Bool.{ltb-true}
use Rattle.std.proofs.lemmas.Option.{same_Some}
use Rattle.plain_state.specs.declared.end.End.{End}
use Rattle.plain_state.specs.declared.end.End.TheVariants.{OutOfRange, WeakCell, IntoRaw}
use Rattle.plain_state.specs.declared.kind.Kind as kinds
use Rattle.plain_state.specs.declared.kind.Kind.TheVariants as kind
use Rattle.plain_state.specs.declared.sizes.TheConstants.{NUMBERS}
use Rattle.plain_state.specs.declared.value.Identity.{Identity}
use Rattle.plain_state.specs.declared.value.Value.{Value}
use Rattle.plain_state.specs.declared.value.Value.TheVariants.{Number, Reference}
use Rattle.plain_state.specs.Layout.{values_at, words_behind, word_of_value}
use Rattle.plain_state.specs.State.{Heap, Mutator, Plain, Record}
use Rattle.plain_heap.specs.declared.action.Action.{Action}
use Rattle.plain_heap.specs.declared.action.Action.TheVariants.{Measures, Loads, Stores, Compares}
use Rattle.plain_heap.specs.Action.{in_record}
use Rattle.plain_heap.specs.Call.{call, values_of, may_hold}
use Rattle.mutator_asm.specs.declared.instr.Instr.{Instr}
use Rattle.atom_store.specs.declared.step.Step.TheVariants.{Load}
use Rattle.atom_store.specs.declared.reply.Reply.TheVariants as replies
use Rattle.heap_words.specs.declared.kind.Kind.{Kind as HeaderKind}
use Rattle.heap_words.specs.Decoded.{decode}
use Rattle.heap_words.specs.Word.{number_word, pointer_word}
use Rattle.heap_words.proofs.Tags.{tag_of-pointer_word}
use Rattle.heap_words.proofs.Decoding.{decode-pointer_word}
use Rattle.heap_words.proofs.Ranges.{header_bounds}
use Rattle.space_map.specs.Spaces.{page_of}
use Rattle.space_map.specs.Table.{HeapWord, place_of}
use Rattle.heap_state.specs.Configuration.{Configuration, Stands, era, memory, team}
use Rattle.heap_state.specs.Invariant.Ghost.{count_said, header_kind, said_kind}
use Rattle.heap_state.specs.Invariant.Parts.Knowledge as parts
use Rattle.heap_state.specs.Memory.Table.{word_in}
use Rattle.heap_state.specs.Known as workers
use Rattle.heap_laws.specs.Fields.Effects.{HeaderSays}
use Rattle.heap_laws.specs.Fields.Held.{HoldsValue}
use Rattle.heap_laws.specs.Fields.Words.{IsLedTo}
use Rattle.heap_laws.proofs.Fields.Effects.{headers_say}
use Rattle.heap_laws.proofs.Lifting.Configurations.{below_board}
use Rattle.record_access.specs.declared.access_stage.AccessStage.{AccessStage}
use Rattle.record_access.specs.declared.access_stage.AccessStage.TheVariants.{LooksAtRecord, LoadsHeader, LooksAtCount, LoadsCount}
use Rattle.record_access.specs.declared.accessed.Accessed.TheVariants.{Brings, Fails}
use Rattle.record_access.specs.declared.field_access.FieldAccess.{FieldAccess}
use Rattle.record_access.specs.declared.field_access.FieldUse.{FieldUse}
use Rattle.record_access.specs.declared.field_access.FieldUse.TheVariants as field_uses
use Rattle.record_access.specs.declared.field_access.Role.{Role}
use Rattle.record_access.specs.declared.field_access.Role.TheVariants as roles
use Rattle.record_access.specs.declared.mixed_access.MixedAccess.{MixedAccess}
use Rattle.record_access.specs.declared.record_access.RecordAccess.{RecordAccess}
use Rattle.record_access.specs.declared.record_access.RecordUse.TheVariants as record_uses
use Rattle.record_access.specs.Access.{GoesTo, Comes, IsHeapAddress, by_kind, counted_by, counting, FitsFieldUse, FitsMixedUse, answered, field_of, kind_of, role_of, read_header, used_by, to_field, storing, may_store, word_as}
use Rattle.gc_worker.specs.Steps.Access.{before_header, begun, IsFieldOfAction, record_use}
use Rattle.gc_worker.specs.Workers.Fits.{ExecutesAction}
use Rattle.gc_worker.specs.Steps.Goes.{Is, Goes, StepsSo}
use Rattle.gc_worker.specs.Workers.Held.{Held}
use Rattle.gc_worker.specs.Workers.Knows.{known_access, uncounted_access}
use Rattle.gc_worker.specs.Plain.Answer.{MayEnd}
use Rattle.gc_worker.specs.Plain.Full.{FullByEnd}
use Rattle.record_access.specs.Seen.{IsValueWord, by_address, seen_as, word_for, value_seen}
use Rattle.gc_worker.specs.Plain.Seen.{seen}
use Rattle.gc_worker.proofs.Plain.Actions.{plain_value}
use Rattle.gc_worker.proofs.Stages.Gate.GateWords.{wants}
use Rattle.gc_worker.proofs.Stages.Scan.ScannedHeaders.{heap_word}
use Rattle.gc_worker.proofs.Words.RowSteps.{loads}
use Rattle.gc_worker.proofs.Stages.Access.Acting.{q, calls, led, names, is_small, Held_value, IsSmall, decode_number, number_held}
use Rattle.gc_worker.proofs.Stages.Access.NextAccessStage.{own, at, ready, knew_opened, it_only, same_page, learns, goes_to, goes_on_to_field}
use Rattle.gc_worker.proofs.Stages.Access.AccessOutcomes.{goes_loading, goes_ending}
use Rattle.gc_worker.proofs.Stages.Access.Storing.{Condition, begins, counted_so, fits_field, fits_mixed, holds_it_not, is_field, is_value, names_both, out_of_range, renewed, storing_action, storing_use, used_so}

-- ---- kinds and roles

-- all values of a record have one role, or it is mixed
abbrev Sorted : kinds.Kind → Type 0
Sorted of = ((role : Role) × (of ≡ kind_of role)) ⊎ ((count : ℕ) × (of ≡ kind.Mixed count))

kinds_are : (of : kinds.Kind) → Sorted of
kinds_are kind.Fields = inl (roles.Field, refl)
kinds_are kind.Raw = inl (roles.Number, refl)
kinds_are (kind.Mixed count) = inr (count, refl)
kinds_are kind.Weak = inl (roles.Target, refl)

said_by : (role : Role) (next : ℕ) → said_kind (header_kind (kind_of role)) next ≡ kind_of role
said_by roles.Field next = refl
said_by _ next = refl

-- its values begin behind the header
first_by : (role : Role) → values_at (kind_of role) ≡ 1
first_by roles.Field = refl
first_by _ = refl

-- how many it has by its length: behind that of a cell stands a link
abbrev many : Role → (len : ℕ) → ℕ
many roles.Field len = len
many roles.Number len = len
many roles.Target len = len - 1

counts_by : (role : Role) (n len : ℕ) → n + (values_at (kind_of role) + words_behind (kind_of role)) ≡ len + 1 → n ≡ many role len
counts_by roles.Field n len long = omega (arith, long)
counts_by _ n len long = omega (arith, long)

many_within : (role : Role) (len : ℕ) → many role len ≤ len
many_within roles.Field len = omega arith
many_within _ len = omega arith

read_by : (r : RecordAccess) (role : Role) (len : ℕ) → by_kind r (header_kind (kind_of role)) len ≡ used_by r role (many role len) r.usage
read_by r roles.Field len = refl
read_by r _ len = refl

-- a cell has one value, its target
has_role : (role : Role) (x len : ℕ) → (kind_of role ≡ kind.Weak → len ≡ 2) → x < many role len → parts.HasRole (kind_of role) (word_of_value (kind_of role) x) (role_of role)
has_role roles.Field x len two within = refl
has_role roles.Number x len two within = refl
has_role roles.Target x len two within = let is = two refl in (refl, omega (arith, within, is))

module _ (c : Configuration) (p : Plain) (s : Stands c p) (k : ℕ) (y : Held) (r : RecordAccess) (is : Is c k (at c p s k y (LoadsHeader r))) (act : Action) (executes : ExecutesAction y.account y.registers y.task act)
    (holds : Held_value c p s k y (LoadsHeader r) is (Reference (record { mutator = 0; serial = r.at }))) where
  abbrev stage : AccessStage
  stage = LoadsHeader r

  abbrev x : Held
  x = at c p s k y stage

  abbrev a : ℕ
  a = r.at

  inside : IsHeapAddress y.layout.pages a
  inside = is.fits.stage.sound.stage.0

  there : IsLedTo (era c) (memory c) s.ghost p a
  there = led c p s k y stage is a inside holds

  abbrev word : ℕ
  word = word_in c.pages c.words (HeapWord a)

  abbrev head : HeaderKind
  head = header_kind (s.ghost.kind a)

  abbrev len : ℕ
  len = s.ghost.size a - 1

  says : HeaderSays (era c) (memory c) s.ghost p a head len
  says =
      headers_say (era c) (memory c) (team c) s.ghost p k a len (s.ghost.identity a).serial (s.ghost.identity a).mutator (pointer_word a) head (ready c p s k y stage is) s.shown holds.held
      (decode-pointer_word a (let n = is.fits.stage.sound.pages in omega (arith, n.1, inside))) there.header

  short : len < NUMBERS
  short = let b = header_bounds ((memory c).heap a) head len (s.ghost.identity a).serial (s.ghost.identity a).mutator there.header in omega (arith, b.0)

  abbrev i : Identity
  i = s.ghost.identity a

  values_are : values_of p.heap i ≡ says.record_there.values
  values_are = ap (λ (o : Option Record). option_map_or (λ (r : Record). r.values) o []) says.is

  kind_said : (of : kinds.Kind) → s.ghost.kind a ≡ of → says.record_there.kind ≡ said_kind (header_kind of) ((memory c).heap (a + 1))
  kind_said of is = says.kind ∙ ap (λ (k : kinds.Kind). said_kind (header_kind k) ((memory c).heap (a + 1))) is

  reads : (of : kinds.Kind) → s.ghost.kind a ≡ of → answered (own c p s k y stage) (replies.Value word) ≡ by_kind r (header_kind of) len
  reads of is = ap (read_header r) (ap decode (sym (heap_word c a)) ∙ there.header) ∙ ap (λ (k : kinds.Kind). by_kind r (header_kind k) len) is

  below : (word_at : ℕ) → word_at < s.ghost.size a → IsHeapAddress y.layout.pages (a + word_at)
  below word_at within = let b = below_board c p s a there.stands.0 in let n = is.fits.pages in omega (arith, b, n, within)

  -- ---- a record whose values have one role

  module _ (role : Role) (of : s.ghost.kind a ≡ kind_of role) where
    kind_is : says.record_there.kind ≡ kind_of role
    kind_is = kind_said (kind_of role) of ∙ said_by role ((memory c).heap (a + 1))

    first_is : values_at says.record_there.kind ≡ 1
    first_is = ap values_at kind_is ∙ first_by role

    reads_it : answered (own c p s k y stage) (replies.Value word) ≡ used_by r role (many role len) r.usage
    reads_it = reads (kind_of role) of ∙ read_by r role len

    count_is : length says.record_there.values ≡ many role len
    count_is =
        counts_by role (length says.record_there.values) len
        (subst (λ (of : kinds.Kind). length says.record_there.values + (values_at of + words_behind of) ≡ len + 1) kind_is says.long)

    long : length (values_of p.heap i) ≡ many role len
    long = ap length values_are ∙ count_is

    -- a cell takes three words
    two_behind : kind_of role ≡ kind.Weak → len ≡ 2
    two_behind weak = let three = s.invariant.cells.chain.three a there.stands.0 (of ∙ weak) in omega (arith, three)

    module _ (x_at : ℕ) (within : x_at < many role len) where
      abbrev f : FieldAccess
      f = field_of a 1 role x_at

      allowed : parts.Accesses (era c) s.ghost.size s.ghost.writer s.ghost.kind (known_access f)
      allowed =
          subst (λ (n : ℕ). parts.Accesses (era c) s.ghost.size s.ghost.writer s.ghost.kind (record { at = a; first = n; word = x_at + n; role = role_of role })) first_is
          (says.access x_at (role_of role) (omega (arith, within, count_is)) (rw kind_is (has_role role x_at len two_behind within)))

      goes_to_it : (usage : FieldUse) → IsFieldOfAction act f usage → FitsFieldUse usage → answered (own c p s k y stage) (replies.Value word) ≡ to_field usage f → Goes c p s k None x (replies.Value word)
      goes_to_it =
          let least = many_within role len in
          goes_on_to_field c p s k y stage is act executes f (replies.Value word) allowed (below (x_at + 1) (omega (arith, within, least))) (ap (λ (n : ℕ). Some (page_of n)) (let z : a ≡ a + 0 = omega arith in z)) tt

  -- ---- a mixed record

  module _ (count : ℕ) (of : s.ghost.kind a ≡ kind.Mixed count) where
    abbrev said : ℕ
    said = count_said (decode ((memory c).heap (a + 1)))

    kind_mixed : says.record_there.kind ≡ kind.Mixed said
    kind_mixed = kind_said (kind.Mixed count) of

    reads_mixed : answered (own c p s k y stage) (replies.Value word) ≡ counted_by r (len - 1) r.usage
    reads_mixed = reads (kind.Mixed count) of

    count_mixed : length says.record_there.values ≡ len - 1
    count_mixed = let n = says.long in let b = ap values_at kind_mixed in let e = ap words_behind kind_mixed in omega (arith, n, b, e)

    long_mixed : length (values_of p.heap i) ≡ len - 1
    long_mixed = ap length values_are ∙ count_mixed

    module _ (x_at : ℕ) (usage : FieldUse) (within : x_at < len - 1) where
      abbrev m : MixedAccess
      m = record { at = a; value = x_at; usage = usage }

      allowed_mixed : parts.Accesses (era c) s.ghost.size s.ghost.writer s.ghost.kind (uncounted_access m)
      allowed_mixed =
          subst (λ (n : ℕ). parts.Accesses (era c) s.ghost.size s.ghost.writer s.ghost.kind (record { at = a; first = n; word = x_at + n; role = workers.UnknownRole })) (ap values_at kind_mixed)
          (says.access x_at workers.UnknownRole (omega (arith, within, count_mixed)) (said, kind_mixed))

      count_by : (b : Bool) → (page_of a == page_of (a + 1)) ≡ b → begun act ≡ Some (LooksAtRecord (before_header m)) → FitsMixedUse usage
          → answered (own c p s k y stage) (replies.Value word) ≡ GoesTo (cond b (LoadsCount m) (LooksAtCount m)) → Goes c p s k None x (replies.Value word)
      count_by true same of fits comes =
          goes_to c p s k y stage is (LoadsCount m) (replies.Value word) comes
          (learns c p s k y stage is (LoadsCount m) (λ e. absurd (cc)) (λ g e. it_only c p s k y stage is (uncounted_access m) g allowed_mixed e) (same_page c p s k y stage is a (a + 1) refl same))
          (record { act = act; executes = executes; is = of }) (below (x_at + 2) (omega (arith, within)), fits) tt
      count_by false other of fits comes =
          goes_to c p s k y stage is (LooksAtCount m) (replies.Value word) comes
          (learns c p s k y stage is (LooksAtCount m) (λ e. absurd (cc)) (λ g e. it_only c p s k y stage is (uncounted_access m) g allowed_mixed e) (knew_opened c p s k y stage is))
          (record { act = act; executes = executes; is = of }) (below (x_at + 2) (omega (arith, within)), fits) tt

      goes_to_count : begun act ≡ Some (LooksAtRecord (before_header m)) → FitsMixedUse usage → answered (own c p s k y stage) (replies.Value word) ≡ counting a usage (Ok x_at)
          → Goes c p s k None x (replies.Value word)
      goes_to_count of fits comes = count_by (page_of a == page_of (a + 1)) refl of fits comes

-- ---- what may be stored

-- the value that a word for this one is to a worker
abbrev pub again : Value → Value
again (Number n) = Number n
again (Reference i) = Reference (by_address i.serial)

-- the pointer's address fits a word
address_short : (a : ℕ) (b : Bool) → nat_lt (1 + 4 * a) (2 ^ 34) ≡ b → IsValueWord (pointer_word a) → a < 2 ^ 32
unfolding decode pointer_word
address_short a true short is = let l = ltb-true (1 + 4 * a) (2 ^ 34) short in omega (arith, l)
address_short a false long is = absurd (rw (tag_of-pointer_word a, long) at is)

pub seen_again : (v : Value) → IsSmall v → IsValueWord (word_for v) → value_seen (word_for v) ≡ again v
seen_again (Number n) small is = ap seen_as (decode_number n small)
seen_again (Reference i) small is = ap seen_as (decode-pointer_word i.serial (address_short i.serial (nat_lt (1 + 4 * i.serial) (2 ^ 34)) refl is))

-- the end of a mutator that stores what a record whose words have this role may not hold
abbrev pub refusal : Role → End
refusal roles.Field = IntoRaw
refusal roles.Number = IntoRaw
refusal roles.Target = WeakCell

pub may_refuse : (m : ℕ) (heap : Heap) (k : Mutator) (instr : Instr) (role : Role) → call m heap k instr ≡ Err (refusal role) → MayEnd m heap k instr (refusal role)
may_refuse m heap k instr roles.Field calls = calls
may_refuse m heap k instr _ calls = calls

pub not_full : (n : ℕ) (words : List ℕ) (x : Held) (role : Role) → FullByEnd n words x (refusal role)
not_full n words x roles.Field = tt
not_full n words x _ = tt

module _ (identity : ℕ → Identity) where
  -- a record whose words have this role may hold the value, or not, for the mutator and in the plain machine
  abbrev pub Decided : Role → (x : ℕ) → Value → Type 0
  Decided o x v = ((may_hold (kind_of o) x v ≡ Ok v) × (may_hold (kind_of o) x (again v) ≡ Ok (again v)) × (word_as o (again v) ≡ word_as o v))
      ⊎ ((may_hold (kind_of o) x (again v) ≡ Err (refusal o)) × (may_hold (kind_of o) x (plain_value identity v) ≡ Err (refusal o)))

  pub decided : (o : Role) (x : ℕ) (v : Value) → Decided o x v
  decided roles.Field x (Number n) = inl (refl, refl, refl)
  decided roles.Field x (Reference i) = inl (refl, refl, refl)
  decided roles.Number x (Number n) = inl (refl, refl, refl)
  decided roles.Number x (Reference i) = inr (refl, refl)
  decided roles.Target x v = inr (refl, refl)

-- ---- by the action

pub same_access : (r u : RecordAccess) → Some (LooksAtRecord r) ≡ Some (LooksAtRecord u) → r ≡ u
same_access r u e = let d : LooksAtRecord r ≡ LooksAtRecord u = same_Some (LooksAtRecord r) (LooksAtRecord u) e in cc

module _ (c : Configuration) (p : Plain) (s : Stands c p) (k : ℕ) (y : Held) where
  abbrev Answers : (r : RecordAccess) → Type 0
  Answers r = Goes c p s k None (at c p s k y (LoadsHeader r)) (replies.Value (word_in c.pages c.words (HeapWord r.at)))

  -- the record's length
  module _ (d : ℕ) (j : Identity) where
    abbrev of_length : RecordAccess
    of_length = record { at = j.serial; value = 0; usage = record_uses.TellsLength d }

    module _ (is : Is c k (at c p s k y (LoadsHeader of_length))) (executes : ExecutesAction y.account y.registers y.task (Measures d j)) where
      holds_measured : Held_value c p s k y (LoadsHeader of_length) is (Reference j)
      holds_measured = names c p s k y (LoadsHeader of_length) is (Measures d j) executes

      tells : (n : ℕ) → n < NUMBERS → length (values_of p.heap (s.ghost.identity j.serial)) ≡ n
          → answered (own c p s k y (LoadsHeader of_length)) (replies.Value (word_in c.pages c.words (HeapWord j.serial))) ≡ Comes (Brings d (number_word n)) → Answers of_length
      tells n small long comes =
          goes_loading c p s k y (LoadsHeader of_length) is (Measures d j) executes (replies.Value (word_in c.pages c.words (HeapWord j.serial))) d (number_word n)
          (Number (length (values_of p.heap (s.ghost.identity j.serial)))) comes is.fits.stage.sound.stage.1 (rw (decode_number n small) tt)
          (subst (λ (m : ℕ). HoldsValue (era c) s.ghost (number_word n) (Number m)) (sym long) (number_held (era c) s.ghost n small)) refl tt

      measures : Answers of_length
      measures = by_kinds (kinds_are (s.ghost.kind j.serial))
        where
          fits : len c p s k y of_length is (Measures d j) executes holds_measured < NUMBERS
          fits = short c p s k y of_length is (Measures d j) executes holds_measured

          by_kinds : Sorted (s.ghost.kind j.serial) → Answers of_length
          by_kinds (inl t) = tells _ (let l = many_within t.0 (len c p s k y of_length is (Measures d j) executes holds_measured) in omega (arith, fits, l)) (long c p s k y of_length is (Measures d j) executes holds_measured t.0 t.1) (reads_it c p s k y of_length is (Measures d j) executes holds_measured t.0 t.1)
          by_kinds (inr t) = tells _ (omega (arith, fits)) (long_mixed c p s k y of_length is (Measures d j) executes holds_measured t.0 t.1) (reads_mixed c p s k y of_length is (Measures d j) executes holds_measured t.0 t.1)

  -- a value of it
  module _ (d : ℕ) (j : Identity) (at_value : ℕ) where
    abbrev of_value : RecordAccess
    of_value = record { at = j.serial; value = at_value; usage = record_uses.Loads d }

    module _ (is : Is c k (at c p s k y (LoadsHeader of_value))) (executes : ExecutesAction y.account y.registers y.task (Loads d j at_value)) where
      holds_it : Held_value c p s k y (LoadsHeader of_value) is (Reference j)
      holds_it = names c p s k y (LoadsHeader of_value) is (Loads d j at_value) executes

      abbrev so_long : ℕ
      so_long = len c p s k y of_value is (Loads d j at_value) executes holds_it

      -- the record has no such value
      no_value : (n : ℕ) → length (values_of p.heap (s.ghost.identity j.serial)) ≡ n → nat_lt at_value n ≡ false
          → answered (own c p s k y (LoadsHeader of_value)) (replies.Value (word_in c.pages c.words (HeapWord j.serial))) ≡ Comes (Fails OutOfRange) → Answers of_value
      no_value n long test comes =
          goes_ending c p s k y (LoadsHeader of_value) is (Loads d j at_value) executes (replies.Value (word_in c.pages c.words (HeapWord j.serial))) OutOfRange comes refl
          (calls c p s k y (LoadsHeader of_value) is (Loads d j at_value) executes (Err OutOfRange) (rw (long, test) refl)) tt tt

      loads_by : (role : Role) (of : s.ghost.kind j.serial ≡ kind_of role) (b : Bool) → nat_lt at_value (many role so_long) ≡ b → Answers of_value
      loads_by role of true test =
          goes_to_it c p s k y of_value is (Loads d j at_value) executes holds_it role of at_value (ltb-true at_value (many role so_long) test) (field_uses.Loads d) (refl, refl) is.fits.stage.sound.stage.1
          (reads_it c p s k y of_value is (Loads d j at_value) executes holds_it role of ∙ rw test refl)
      loads_by role of false test =
          no_value (many role so_long) (long c p s k y of_value is (Loads d j at_value) executes holds_it role of) test (reads_it c p s k y of_value is (Loads d j at_value) executes holds_it role of ∙ rw test refl)

      loads_mixed : (count : ℕ) (of : s.ghost.kind j.serial ≡ kind.Mixed count) (b : Bool) → nat_lt at_value (so_long - 1) ≡ b → Answers of_value
      loads_mixed count of true test =
          goes_to_count c p s k y of_value is (Loads d j at_value) executes holds_it count of at_value (field_uses.Loads d) (ltb-true at_value (so_long - 1) test) refl is.fits.stage.sound.stage.1
          (reads_mixed c p s k y of_value is (Loads d j at_value) executes holds_it count of ∙ rw test refl)
      loads_mixed count of false test =
          no_value (so_long - 1) (long_mixed c p s k y of_value is (Loads d j at_value) executes holds_it count of) test
          (reads_mixed c p s k y of_value is (Loads d j at_value) executes holds_it count of ∙ rw test refl)

      loads_it : Sorted (s.ghost.kind j.serial) → Answers of_value
      loads_it (inl t) = loads_by t.0 t.1 (nat_lt at_value (many t.0 so_long)) refl
      loads_it (inr t) = loads_mixed t.0 t.1 (nat_lt at_value (so_long - 1)) refl

  -- a value of it becomes another
  module _ (o : Condition) (j : Identity) (at_value : ℕ) (v : Value) where
    abbrev act_new : Action
    act_new = storing_action o j at_value v

    abbrev of_new : RecordAccess
    of_new = record { at = j.serial; value = at_value; usage = record_use (storing_use o (word_for v)) }

    module _ (is : Is c k (at c p s k y (LoadsHeader of_new))) (executes : ExecutesAction y.account y.registers y.task act_new) where
      holds_both : Held_value c p s k y (LoadsHeader of_new) is (Reference j) × Held_value c p s k y (LoadsHeader of_new) is v
      holds_both = names_both o j at_value v (Held_value c p s k y (LoadsHeader of_new) is) ⊤ (seen y.account y.registers) (names c p s k y (LoadsHeader of_new) is act_new executes)

      fits_new : FitsMixedUse (storing_use o (word_for v))
      fits_new = fits_mixed o (word_for v) is.fits.stage.sound.stage.1

      abbrev length_there : ℕ
      length_there = len c p s k y of_new is act_new executes holds_both.0

      seen_so : value_seen (word_for v) ≡ again v
      seen_so = seen_again v (is_small c p s k y (LoadsHeader of_new) is v holds_both.1) (is_value o (word_for v) is.fits.stage.sound.stage.1)

      ends_new : (why : End) → answered (own c p s k y (LoadsHeader of_new)) (replies.Value (word_in c.pages c.words (HeapWord j.serial))) ≡ Comes (Fails why)
          → MayEnd k p.heap (q c p s k y (LoadsHeader of_new) is) executes.instr why → FullByEnd c.pages c.words (at c p s k y (LoadsHeader of_new)) why → Answers of_new
      ends_new why comes may full =
          goes_ending c p s k y (LoadsHeader of_new) is act_new executes (replies.Value (word_in c.pages c.words (HeapWord j.serial))) why comes refl may full tt

      -- the record has no such value
      no_new_value : (n : ℕ) → length (values_of p.heap (s.ghost.identity j.serial)) ≡ n → nat_lt at_value n ≡ false
          → answered (own c p s k y (LoadsHeader of_new)) (replies.Value (word_in c.pages c.words (HeapWord j.serial))) ≡ Comes (Fails OutOfRange) → Answers of_new
      no_new_value n long test comes =
          ends_new OutOfRange comes (calls c p s k y (LoadsHeader of_new) is act_new executes (Err OutOfRange)
          (out_of_range o j at_value v s.ghost.identity k p.heap (q c p s k y (LoadsHeader of_new) is) (rw long test))) tt

      module _ (role : Role) (of : s.ghost.kind j.serial ≡ kind_of role) where
        comes_new : answered (own c p s k y (LoadsHeader of_new)) (replies.Value (word_in c.pages c.words (HeapWord j.serial)))
            ≡ storing (field_of j.serial 1 role at_value) (storing_use o (word_for v)) (may_store role (word_for v) (in_record (many role length_there) at_value))
        comes_new = reads_it c p s k y of_new is act_new executes holds_both.0 role of ∙ used_so o of_new role (many role length_there) (word_for v)

        by_holding : nat_lt at_value (many role length_there) ≡ true → Decided s.ghost.identity role at_value v → Answers of_new
        by_holding test (inl t) =
            goes_to_it c p s k y of_new is act_new executes holds_both.0 role of at_value (ltb-true at_value (many role length_there) test) (storing_use o (word_as role v)) (is_field o j at_value v 1 role t.0)
            (fits_field o (word_for v) (word_as role v) fits_new) (comes_new ∙ rw (test, seen_so, t.1, t.2, renewed o (word_for v) (word_as role v)) refl)
        by_holding test (inr t) = ends_new (refusal role) (comes_new ∙ rw (test, seen_so, t.0) refl)
            (may_refuse k p.heap (q c p s k y (LoadsHeader of_new) is) executes.instr role
            (calls c p s k y (LoadsHeader of_new) is act_new executes (Err (refusal role))
            (holds_it_not o j at_value v s.ghost.identity k p.heap (q c p s k y (LoadsHeader of_new) is) (refusal role) (says c p s k y of_new is act_new executes holds_both.0).record_there
            (rw (long c p s k y of_new is act_new executes holds_both.0 role of) test) (says c p s k y of_new is act_new executes holds_both.0).is
            (rw (kind_is c p s k y of_new is act_new executes holds_both.0 role of) t.1)))) (not_full c.pages c.words (at c p s k y (LoadsHeader of_new)) role)

        stores_by : (b : Bool) → nat_lt at_value (many role length_there) ≡ b → Answers of_new
        stores_by true test = by_holding test (decided s.ghost.identity role at_value v)
        stores_by false test = no_new_value (many role length_there) (long c p s k y of_new is act_new executes holds_both.0 role of) test (comes_new ∙ rw test refl)

      stores_mixed : (count : ℕ) (of : s.ghost.kind j.serial ≡ kind.Mixed count) (b : Bool) → nat_lt at_value (length_there - 1) ≡ b → Answers of_new
      stores_mixed count of true test =
          goes_to_count c p s k y of_new is act_new executes holds_both.0 count of at_value (storing_use o (word_for v)) (ltb-true at_value (length_there - 1) test) (begins o j at_value v) fits_new
          (reads_mixed c p s k y of_new is act_new executes holds_both.0 count of ∙ counted_so o of_new (length_there - 1) (word_for v) ∙ rw test refl)
      stores_mixed count of false test =
          no_new_value (length_there - 1) (long_mixed c p s k y of_new is act_new executes holds_both.0 count of) test
          (reads_mixed c p s k y of_new is act_new executes holds_both.0 count of ∙ counted_so o of_new (length_there - 1) (word_for v) ∙ rw test refl)

      stores_it : Sorted (s.ghost.kind j.serial) → Answers of_new
      stores_it (inl t) = stores_by t.0 t.1 (nat_lt at_value (many t.0 length_there)) refl
      stores_it (inr t) = stores_mixed t.0 t.1 (nat_lt at_value (length_there - 1)) refl

  -- ---- the stage

  module _ (r : RecordAccess) (is : Is c k (at c p s k y (LoadsHeader r))) where
    steps : Answers r → StepsSo c p s k (at c p s k y (LoadsHeader r))
    steps goes =
        let inside = is.fits.stage.sound.stage.0 in
        let n = is.fits.pages in
        wants c p s k (at c p s k y (LoadsHeader r)) (Load (place_of c.pages (HeapWord r.at))) (ap (λ n. Some (Load (place_of n (HeapWord r.at)))) is.fits.pages)
        (loads c p s k (at c p s k y (LoadsHeader r)) (HeapWord r.at) (omega (arith, inside, n)) goes)

  -- the stage of an access that an action begins with
  begun_with : (r u : RecordAccess) → Some (LooksAtRecord r) ≡ Some (LooksAtRecord u) → (Is c k (at c p s k y (LoadsHeader r)) → Answers r)
      → Is c k (at c p s k y (LoadsHeader u)) → StepsSo c p s k (at c p s k y (LoadsHeader u))
  begun_with r u e goes is =
      subst (λ (z : RecordAccess). Is c k (at c p s k y (LoadsHeader z)) → StepsSo c p s k (at c p s k y (LoadsHeader z))) (same_access r u e) (λ its. steps r its (goes its)) is

  by_action : (r : RecordAccess) (act : Action) → ExecutesAction y.account y.registers y.task act → begun act ≡ Some (LooksAtRecord r) → Is c k (at c p s k y (LoadsHeader r))
      → StepsSo c p s k (at c p s k y (LoadsHeader r))
  by_action r (Measures d j) executes e is = begun_with (of_length d j) r e (λ its. measures d j its executes) is
  by_action r (Loads d j x) executes e is =
      begun_with (of_value d j x) r e (λ its. loads_it d j x its executes (kinds_are (s.ghost.kind j.serial))) is
  by_action r (Stores j x v) executes e is =
      begun_with (of_new None j x v) r e (λ its. stores_it None j x v its executes (kinds_are (s.ghost.kind j.serial))) is
  by_action r (Compares d j x u v) executes e is =
      let o : Condition = Some (d, u) in
      begun_with (of_new o j x v) r e (λ its. stores_it o j x v its executes (kinds_are (s.ghost.kind j.serial))) is
  by_action r _ executes e is = absurd (cc)

  pub loads_header : (r : RecordAccess) → Is c k (at c p s k y (LoadsHeader r)) → StepsSo c p s k (at c p s k y (LoadsHeader r))
  loads_header r is = by_action r is.fits.task.act is.fits.task.executes is.fits.task.is is
