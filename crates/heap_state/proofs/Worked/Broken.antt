-- Three configurations that break a rule are told from the one that keeps them all.
use Rattle.std.proofs.Common.{suc, ◌≡◌, ◌+◌, ◌/◌, ◌≤◌, [], ◌∷◌, Some, None, refl, sym, ◌∙◌, arith, inl, inr, subst}
use Rattle.std.specs.Prelude.{ℕ, List, length, slice_get}
use Rattle.std.specs.List.{Contains}
use Rattle.plain_state.specs.declared.kind.Kind.TheVariants.{Fields}
use Rattle.heap_words.specs.Decoded.{decode}
use Rattle.heap_words.specs.Word.{header_word, pointer_word, forward_word, busy_word, number_word, tag_of}
use Rattle.heap_words.proofs.Decoding.{decode-pointer_word, decode-header_word}
use Rattle.space_map.specs.declared.page_word.PageWord.TheVariants.{Open}
use Rattle.heap_state.specs.Configuration.{table, era, memory}
use Rattle.heap_state.specs.Meaning.Denotes.{denoted, denoted_in}
use Rattle.heap_state.specs.Meaning.Dump.{dump_of}
use Rattle.heap_state.specs.Memory.Entries.{Entry, HasSizes, SizeIs, PageIs, AreaIs, WordIs}
use Rattle.heap_state.specs.Memory.Era.{memory_of}
use Rattle.heap_state.specs.Functions.{put}
use Rattle.heap_state.specs.Invariant.Ghost.{Leads, header_kind}
use Rattle.heap_state.specs.Invariant.Holds.{AccessHolds, RoomHolds, IsWalkedField}
use Rattle.heap_state.specs.Meaning.Represents.{IsCopying, IsOwn, Represents}
use Rattle.heap_state.specs.Memory.Table.{Table}
use Rattle.heap_state.specs.Theorems.Rows.{Written}
use Rattle.heap_state.specs.Memory.Walk.{walk, walk_of, old_walk_of}
use Rattle.plain_state.specs.declared.kind.Kind.TheVariants as plain_kind
use Rattle.plain_state.specs.declared.value.Value.{Value}
use Rattle.plain_state.specs.declared.value.Value.TheVariants.{Reference}
use Rattle.plain_state.specs.State as plain
use Rattle.heap_state.proofs.Puts.{none≢some}
use Rattle.heap_state.specs.Examples.Worked.{worked_entries, forwarded_wrong, opened_early, short_of_room, made}
use Rattle.heap_state.proofs.Worked.WorkedStands.{entries_fit, has_sizes}
use Rattle.heap_state.proofs.Represents.ShownPlaces.{whole_record}
use Rattle.heap_state.proofs.Table.Writing.{writes_tables}

-- the sizes are also among these entries with one more before them
further : {e : Entry} {space : ℕ} → (pages : ℕ) × Contains worked_entries (SizeIs space pages) → (pages : ℕ) × Contains (e ∷ worked_entries) (SizeIs space pages)
further (pages, (k, below, same)) = (pages, (suc k, omega (arith, below), same))

further_sizes : {e : Entry} → HasSizes worked_entries → HasSizes (e ∷ worked_entries)
further_sizes sizes = record { first = further sizes.first; second = further sizes.second }

-- ---- a reserve that is a word too small

area_60 : Written 4 (AreaIs 1 (record { front = 5; low = 64; owed = 60 }) ∷ worked_entries)
area_60 = writes_tables 4 (AreaIs 1 (record { front = 5; low = 64; owed = 60 }) ∷ worked_entries) ((omega arith, record { front_fits = omega arith; low_fits = omega arith; owed_fits = omega arith }), entries_fit) (further_sizes has_sizes)

pub short : ¬ (RoomHolds short_of_room)
unfolding put
short room =
    let fits = subst (λ (t : Table). IsCopying t → (memory_of t).front + (memory_of t).owed ≤ (memory_of t).low) area_60.says room.fits in
    let broken : 321 ≤ 320 = fits (λ e. omega (arith, e)) in
    omega arith

-- ---- an open page with a field that leads to an old record

page_open : Written 4 (PageIs 4 (Open 1) ∷ worked_entries)
page_open = writes_tables 4 (PageIs 4 (Open 1) ∷ worked_entries) ((omega arith, omega arith), entries_fit) (further_sizes has_sizes)

the_copy : Contains (walk_of opened_early) (record { at = 256; size = 3 })
unfolding put walk decode tag_of header_word
the_copy = rw page_open.says (0, omega arith, refl)

own_copy : IsOwn (dump_of opened_early) (record { at = 256; size = 3 }) Fields 2 1 0
unfolding put
own_copy = record {
  walked = inl the_copy;
  head = header_kind Fields;
  said = refl;
  header = rw page_open.says (rw (decode-header_word (header_kind Fields) 2 1 0 (omega arith) (omega arith)) refl);
}

the_field : IsWalkedField opened_early 258
the_field = record { of = record { at = 256; size = 3 }; kind = Fields; len = 2; serial = 1; mutator = 0; i = 2; walked = the_copy; own = own_copy; field = record { inside = (omega arith, omega arith); field = refl }; at = refl }

leads_back : Leads (era opened_early) ((memory opened_early).heap 258)
unfolding put Leads
leads_back = rw page_open.says (195, decode-pointer_word 195 (omega arith), omega arith, omega arith)

is_open : (memory opened_early).page (258 / 64) ≡ Open (era opened_early).epoch
unfolding put
is_open = rw page_open.says refl

pub early : ¬ (AccessHolds opened_early)
early access = access.opened 258 (inl the_field) is_open leads_back

-- ---- a forward to a word that is no record's

forward_257 : Written 4 (WordIs 192 (forward_word 2 257) ∷ worked_entries)
forward_257 = writes_tables 4 (WordIs 192 (forward_word 2 257) ∷ worked_entries) (omega arith, entries_fit) (further_sizes has_sizes)

the_second : Contains (old_walk_of forwarded_wrong) (record { at = 195; size = 2 })
unfolding put walk decode tag_of header_word forward_word busy_word
the_second = rw forward_257.says (1, omega arith, refl)

in_old : IsCopying (table forwarded_wrong)
in_old = rw forward_257.says (λ e. omega (arith, e))

own_second : IsOwn (dump_of forwarded_wrong) (record { at = 195; size = 2 }) Fields 1 2 0
unfolding put decode tag_of busy_word header_word
own_second = record {
  walked = inr (in_old, the_second);
  head = header_kind Fields;
  said = refl;
  header = rw forward_257.says refl;
}

-- the field that leads to the old place denotes nothing
denotes_nothing : denoted forwarded_wrong ((table forwarded_wrong).heap 196) ≡ None
unfolding put denoted_in decode tag_of pointer_word forward_word number_word
denotes_nothing = rw forward_257.says refl

abbrev pub second : plain.Record
second = record { kind = plain_kind.Fields; values = Reference (made 1) ∷ [] }

-- a record of one word has a value there
one_value : (values : List Value) → length values + 1 ≡ 2 → (v : Value) × (slice_get values 0 ≡ Some v)
one_value [] e = absurd (omega (arith, e))
one_value (v ∷ values) e = (v, refl)

pub wrong : (p : plain.Plain) → ¬ (Represents forwarded_wrong p)
wrong p represents =
    let r = (whole_record (dump_of forwarded_wrong) p (record { at = 195; size = 2 }) (represents.dump.records (record { at = 195; size = 2 }) own_second.walked) Fields 1 2 0 own_second).1 in
    let size : length r.0.values + 1 ≡ 2 = rw r.2.kind at r.2.size in
    let v = one_value r.0.values size in
    let shown : denoted forwarded_wrong ((table forwarded_wrong).heap 196) ≡ slice_get r.0.values 0 = r.2.fields 0 (omega (arith, size)) refl in
    none≢some (sym denotes_nothing ∙ (shown ∙ v.1))
