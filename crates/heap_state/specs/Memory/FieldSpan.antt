-- Where the fields of a record lie, and how a scan passes over the rest.
use Rattle.std.specs.Prelude.{ℕ, ◌+◌, max, nat_lt, if◌then◌else◌, Option, Some, None}
use Rattle.plain_state.specs.declared.kind.Kind.{Kind}
use Rattle.plain_state.specs.declared.kind.Kind.TheVariants.{Fields, Raw, Mixed, Weak}
use Rattle.heap_state.specs.Known.{SeenRecord}

-- The fields of a record are its words from the first field up to the fields' end, counted from its header.
abbrev pub first_field : Kind → ℕ
first_field Fields = 1
first_field Raw = 1
first_field (Mixed count) = 2
first_field Weak = 1

abbrev pub fields_end : Kind → (size : ℕ) → ℕ
fields_end Fields size = size
fields_end Raw size = 1
fields_end (Mixed count) size = count + 2
fields_end Weak size = 1

-- a record of this kind and size as a scan sees it
abbrev pub seen_at : (at : ℕ) → Kind → (size : ℕ) → SeenRecord
seen_at at k size = record { at = at; fields_end = at + fields_end k size; next = at + size }

-- where a scan goes on that has come to y in a record: there as long as it is a field, else at the next record
abbrev pub next_scanned : SeenRecord → ℕ → ℕ
next_scanned r y = if nat_lt y r.fields_end then y else r.next

-- where it goes on from y on, in a record whose header was read or on the board
abbrev pub next_from : Option SeenRecord → ℕ → ℕ
next_from None y = y
next_from (Some r) y = next_scanned r y

-- where it goes on in a record that it enters at y: not before the first field
abbrev pub entry_of : SeenRecord → Kind → ℕ → ℕ
entry_of r k y = next_scanned r (max y (r.at + first_field k))
