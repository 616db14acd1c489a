-- Which records are reachable, as a function.
use Rattle.std.specs.Prelude.{◌≡◌, ◌↔◌, ℕ, zero, suc, Bool, true, not, List, [], ◌++◌, length, map, if◌then◌else◌}
use Rattle.std.specs.List.{enumerate_from, filter, flat_map, list_any, range_with_len}
use Rattle.std.specs.Option.{is_none, option_map_or}
use Rattle.plain_state.specs.declared.value.Identity.{Identity}
use Rattle.plain_state.specs.declared.value.Value.{Value}
use Rattle.plain_state.specs.declared.value.Value.TheVariants.{Reference}
use Rattle.plain_state.specs.Layout.{is_field, word_of_value}
use Rattle.plain_state.specs.Reachable.{Reachable}
use Rattle.plain_state.specs.State.{Record, Heap, Mutator, Plain, record_of, serial_of}
use Rattle.plain_heap.specs.Action.{are_same}

-- ---- what refers to a record

-- one of these values refers to it
abbrev pub refer_to : List Value → Identity → Bool
refer_to values i = list_any (λ v. are_same v (Reference i)) values

-- the values in the fields of a record
abbrev pub fields_of : Record → List Value
fields_of r = map (λ f. f.1) (filter (λ f. is_field r.kind (word_of_value r.kind f.0)) (enumerate_from 0 r.values))

-- and of the one with this identity, if it is there
abbrev pub fields_at : Heap → Identity → List Value
fields_at heap i = option_map_or fields_of (record_of heap i) []

-- the registers of a mutator, if it has no end
abbrev pub held_by : Mutator → List Value
held_by k = if is_none k.end then k.registers else []

-- the words of the board, and what mutators hold
abbrev pub roots : Plain → List Value
roots p = p.heap.board ++ flat_map held_by p.mutators

-- a root refers to it, or a field of one of these records
abbrev pub is_led_to : Plain → (reached : List Identity) → Identity → Bool
is_led_to p reached i = refer_to (roots p ++ flat_map (fields_at p.heap) reached) i

-- ---- what is reached

-- the identities of mutator m's records
abbrev pub identities_by : Heap → (m : ℕ) → List Identity
identities_by heap m = map (λ serial. record { mutator = m; serial = serial }) (range_with_len 1 (serial_of heap m))

-- and of all records
abbrev pub identities : Heap → List Identity
identities heap = flat_map (identities_by heap) (range_with_len 0 (length heap.records))

-- The records that are reached after so many rounds, if these are reached and the others not yet: in each round those of the others are
-- added to which a root or a reached record leads.
abbrev pub closure : Plain → (rounds : ℕ) → (reached others : List Identity) → List Identity
closure p zero reached others = reached
closure p (suc n) reached others = closure p n (reached ++ filter (is_led_to p reached) others) (filter (λ i. not (is_led_to p reached i)) others)

-- the records that are ever reached, for which as many rounds are enough as there are records
abbrev pub reached_records : Plain → List Identity
reached_records p = closure p (length (identities p.heap)) [] (identities p.heap)

-- a root leads to it, or one of these
unfoldable pub reaches : Plain → Identity → Bool
reaches p i = is_led_to p (reached_records p) i

-- this function tells what is reachable
abbrev pub ReachesIsReachable : Type 0
ReachesIsReachable = (p : Plain) (i : Identity) → (reaches p i ≡ true) ↔ Reachable p i
