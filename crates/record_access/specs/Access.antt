-- The access to a record or to the board, step by step: what it wants, what a reply makes of it, and what it comes to.
use Rattle.std.specs.Prelude.{ℕ, ◌+◌, ◌-◌, ◌*◌, ◌<◌, ◌==◌, ⊤, Bool, true, false, nat_lt, Option, Some, None, is_some, Result, Ok, Err, if◌then◌else◌}
use Rattle.atom_store.specs.declared.reply.Reply.{Reply}
use Rattle.atom_store.specs.declared.reply.Reply.TheVariants as replies
use Rattle.atom_store.specs.declared.step.Step.{Step}
use Rattle.atom_store.specs.declared.turn.Turn.{Turn}
use Rattle.atom_store.specs.declared.turn.Turn.TheVariants.{More, Finished}
use Rattle.atom_store.specs.StepOn.{StepOn, Load, Store, Exchange, step_at}
use Rattle.heap_words.specs.declared.kind.Kind.{Kind}
use Rattle.heap_words.specs.declared.kind.Kind.TheVariants as headers
use Rattle.heap_words.specs.Decoded.{Decoded, NumberWord, PointerWord, HeaderWord, ForwardWord, BusyWord, Malformed, decode, number_in}
use Rattle.heap_words.specs.Word.{number_word}
use Rattle.plain_state.specs.declared.end.End.{End}
use Rattle.plain_state.specs.declared.kind.Kind as kinds
use Rattle.plain_state.specs.declared.kind.Kind.TheVariants as kind
use Rattle.plain_state.specs.declared.value.Value.{Value}
use Rattle.plain_state.specs.declared.value.Value.TheVariants.{Number, Reference}
use Rattle.plain_state.specs.declared.sizes.TheConstants.{BOARD_WORDS}
use Rattle.plain_state.specs.Holding.{in_record, may_hold}
use Rattle.space_map.specs.declared.spaces.TheConstants.{PAGE_WORDS}
use Rattle.space_map.specs.Spaces.{Layout, IsPageCount, board_page, first_word, page_of}
use Rattle.space_map.specs.PageWord.{decode_page}
use Rattle.space_map.specs.Table.{Row, Page, HeapWord, place_of}
use Rattle.mmu_model.specs.declared.protection.Protection.{Protection}
use Rattle.mmu_model.specs.declared.protection.Protection.TheVariants.{Allowed, Fault}
use Rattle.mmu_model.specs.Protection.{protection_of}
use Rattle.heap_state.specs.Known as workers
use Rattle.heap_state.specs.Meaning.Loaded.{word_held, FitsRole}
use Rattle.record_access.specs.declared.access.Access.{Access}
use Rattle.record_access.specs.declared.access_stage.AccessStage.{AccessStage}
use Rattle.record_access.specs.declared.access_stage.AccessStage.TheVariants.{LooksAtRecord, LoadsHeader, LooksAtCount, LoadsCount, LooksAtField, LoadsField, StoresField, LoadsForCas, ExchangesField, LooksAtBoard, LoadsBoard, StoresBoard, LoadsForSwap, SwapsBoard}
use Rattle.record_access.specs.declared.accessed.Accessed.{Accessed}
use Rattle.record_access.specs.declared.accessed.Accessed.TheVariants.{Faults, Awaits, Brings, Stored, Fails}
use Rattle.record_access.specs.declared.board_access.BoardUse.{BoardUse}
use Rattle.record_access.specs.declared.board_access.BoardUse.TheVariants as board_uses
use Rattle.record_access.specs.declared.field_access.FieldAccess.{FieldAccess}
use Rattle.record_access.specs.declared.field_access.FieldExchange.{FieldExchange}
use Rattle.record_access.specs.declared.field_access.FieldUse.{FieldUse}
use Rattle.record_access.specs.declared.field_access.FieldUse.TheVariants as field_uses
use Rattle.record_access.specs.declared.field_access.Role.{Role}
use Rattle.record_access.specs.declared.field_access.Role.TheVariants as roles
use Rattle.record_access.specs.declared.mixed_access.MixedAccess.{MixedAccess}
use Rattle.record_access.specs.declared.record_access.RecordAccess.{RecordAccess}
use Rattle.record_access.specs.declared.record_access.RecordUse.{RecordUse}
use Rattle.record_access.specs.declared.record_access.RecordUse.TheVariants as record_uses
use Rattle.record_access.specs.Seen.{IsValueWord, value_seen, word_for}

-- ---- where it lies

abbrev pub role_of : Role → workers.Role
role_of roles.Field = workers.FieldRole
role_of roles.Number = workers.NumberRole
role_of roles.Target = workers.TargetRole

-- the kind of a record all of whose values have this role
abbrev pub kind_of : Role → kinds.Kind
kind_of roles.Field = kind.Fields
kind_of roles.Number = kind.Raw
kind_of roles.Target = kind.Weak

-- it is the target of a cell
abbrev pub is_target : Role → Bool
is_target roles.Field = false
is_target roles.Number = false
is_target roles.Target = true

-- the role of value x of a mixed record with so many fields
abbrev pub role_by_count : (count x : ℕ) → Role
role_by_count count x = if nat_lt x count then roles.Field else roles.Number

abbrev pub field_at : FieldAccess → ℕ
field_at f = f.at + f.word

-- the word that is read before it, behind which the values begin: the header, or a mixed record's count
abbrev pub read_before : FieldAccess → ℕ
read_before f = f.at + (f.first - 1)

-- the count of a mixed record
abbrev pub count_at : MixedAccess → ℕ
count_at m = m.at + 1

-- the address of a word of the board
abbrev pub board_at : Layout → (word : ℕ) → ℕ
board_at l word = first_word (board_page l.pages) + word

-- ---- the next step

-- by the row that it is on
abbrev pub wants_at : Layout → AccessStage → StepOn Row
wants_at l (LooksAtRecord r) = Load (Page (page_of r.at))
wants_at l (LoadsHeader r) = Load (HeapWord r.at)
wants_at l (LooksAtCount m) = Load (Page (page_of (count_at m)))
wants_at l (LoadsCount m) = Load (HeapWord (count_at m))
wants_at l (LooksAtField f usage) = Load (Page (page_of (field_at f)))
wants_at l (LoadsField f into) = Load (HeapWord (field_at f))
wants_at l (StoresField f new) = Store (HeapWord (field_at f)) new
wants_at l (LoadsForCas f e) = Load (HeapWord (field_at f))
wants_at l (ExchangesField f e old) = Exchange (HeapWord (field_at f)) old e.new
wants_at l (LooksAtBoard b) = Load (Page (board_page l.pages))
wants_at l (LoadsBoard word into) = Load (HeapWord (board_at l word))
wants_at l (StoresBoard word new) = Store (HeapWord (board_at l word)) new
wants_at l (LoadsForSwap s) = Load (HeapWord (board_at l s.word))
wants_at l (SwapsBoard s old) = Exchange (HeapWord (board_at l s.word)) old s.new

abbrev pub wanted_at : Layout → AccessStage → Step
wanted_at l stage = step_at (place_of l.pages) (wants_at l stage)

-- the look at a page's word
abbrev pub page_step : Layout → (page : ℕ) → Step
page_step l page = step_at (place_of l.pages) (Load (Page page))

abbrev pub wanted : Access → Step
wanted a = wanted_at a.spaces a.stage

-- the page on which it writes a word next
abbrev pub writes_on : Layout → AccessStage → Option ℕ
writes_on l (StoresField f new) = Some (page_of (field_at f))
writes_on l (ExchangesField f e old) = Some (page_of (field_at f))
writes_on l (StoresBoard word new) = Some (board_page l.pages)
writes_on l (SwapsBoard s old) = Some (board_page l.pages)
writes_on l stage = None

-- the access is to load the target of a cell
abbrev pub is_at_target : AccessStage → Bool
is_at_target (LooksAtField f usage) = is_target f.role
is_at_target (LoadsField f into) = is_target f.role
is_at_target stage = false

-- ---- what a reply makes of it

-- it goes on at a stage, or does so once the epoch is traced, or comes to this
pub data Answered : Type 0 where
  GoesTo : AccessStage → Answered
  WaitsAt : AccessStage → Answered
  Comes : Accessed → Answered

-- by what the protection says of the page
abbrev pub let_through : Protection → AccessStage → Answered
let_through Allowed next = GoesTo next
let_through (Fault page) next = Comes (Faults page)

-- a page whose word was read
abbrev pub looked : (page epoch word : ℕ) → AccessStage → Answered
looked page epoch word next = let_through (protection_of page (decode_page word) epoch) next

abbrev pub uses_field : FieldAccess → FieldUse → AccessStage
uses_field f (field_uses.Loads into) = LoadsField f into
uses_field f (field_uses.Stores new) = StoresField f new
uses_field f (field_uses.Compares e) = LoadsForCas f e

-- a field on the page of the word that was read last needs no other look
abbrev pub goes_to_field : FieldAccess → FieldUse → AccessStage
goes_to_field f usage = if page_of (read_before f) == page_of (field_at f) then uses_field f usage else LooksAtField f usage

-- nor does a count on the header's own page
abbrev pub goes_to_count : MixedAccess → AccessStage
goes_to_count m = if page_of m.at == page_of (count_at m) then LoadsCount m else LooksAtCount m

abbrev pub uses_board : (word : ℕ) → BoardUse → AccessStage
uses_board word (board_uses.Loads into) = LoadsBoard word into
uses_board word (board_uses.Stores new) = StoresBoard word new
uses_board word (board_uses.Swaps into new) = LoadsForSwap (record { word = word; into = into; new = new })

-- value x of the record at an address whose values begin at this word, where what stands there has this role
abbrev pub field_of : (at first : ℕ) → Role → (x : ℕ) → FieldAccess
field_of at first role x = record { at = at; first = first; word = x + first; role = role }

-- the number itself; a reference has none
abbrev pub number_in_value : Value → ℕ
number_in_value (Number n) = n
number_in_value (Reference i) = 0

-- what stands at a word with this role for a value
abbrev pub word_as : Role → Value → ℕ
word_as roles.Field v = word_for v
word_as roles.Number v = number_in_value v
word_as roles.Target v = word_for v

-- ---- by the header's kind and length: the ends are the plain machine's

-- the target of a cell waits until the epoch is traced
abbrev pub goes_at : Role → AccessStage → Answered
goes_at roles.Field stage = GoesTo stage
goes_at roles.Number stage = GoesTo stage
goes_at roles.Target stage = WaitsAt stage

abbrev pub to_field : FieldUse → FieldAccess → Answered
to_field usage f = goes_at f.role (goes_to_field f usage)

-- the use where this is to be stored
abbrev pub with_new : FieldUse → (new : ℕ) → FieldUse
with_new (field_uses.Loads into) new = field_uses.Loads into
with_new (field_uses.Stores register) new = field_uses.Stores new
with_new (field_uses.Compares e) new = field_uses.Compares (record e { new = new })

-- a register's word is to be stored, for which something else may stand there
abbrev pub storing : FieldAccess → FieldUse → Result Value End → Answered
storing f usage (Ok v) = to_field (with_new usage (word_as f.role v)) f
storing f usage (Err why) = Comes (Fails why)

abbrev pub loading : FieldAccess → (into : ℕ) → Result ℕ End → Answered
loading f into (Ok x) = to_field (field_uses.Loads into) f
loading f into (Err why) = Comes (Fails why)

-- a value is stored where the record has that value, and may hold this one
abbrev pub may_store : Role → (new : ℕ) → Result ℕ End → Result Value End
may_store role new (Ok x) = may_hold (kind_of role) x (value_seen new)
may_store role new (Err why) = Err why

-- a record whose values begin behind its header, and all have this role
abbrev pub used_by : RecordAccess → Role → (len : ℕ) → RecordUse → Answered
used_by r role len (record_uses.TellsLength into) = Comes (Brings into (number_word len))
used_by r role len (record_uses.Loads into) = loading (field_of r.at 1 role r.value) into (in_record len r.value)
used_by r role len (record_uses.Stores new) = storing (field_of r.at 1 role r.value) (field_uses.Stores new) (may_store role new (in_record len r.value))
used_by r role len (record_uses.Compares e) = storing (field_of r.at 1 role r.value) (field_uses.Compares e) (may_store role e.new (in_record len r.value))

-- a mixed record: which role the value has, the count says
abbrev pub counting : (at : ℕ) → FieldUse → Result ℕ End → Answered
counting at usage (Ok x) = GoesTo (goes_to_count (record { at = at; value = x; usage = usage }))
counting at usage (Err why) = Comes (Fails why)

abbrev pub counted_by : RecordAccess → (len : ℕ) → RecordUse → Answered
counted_by r len (record_uses.TellsLength into) = Comes (Brings into (number_word len))
counted_by r len (record_uses.Loads into) = counting r.at (field_uses.Loads into) (in_record len r.value)
counted_by r len (record_uses.Stores new) = counting r.at (field_uses.Stores new) (in_record len r.value)
counted_by r len (record_uses.Compares e) = counting r.at (field_uses.Compares e) (in_record len r.value)

-- by the header: a mixed record's count and a cell's link are no values
abbrev pub by_kind : RecordAccess → Kind → (len : ℕ) → Answered
by_kind r headers.Fields len = used_by r roles.Field len r.usage
by_kind r headers.Raw len = used_by r roles.Number len r.usage
by_kind r headers.Mixed len = counted_by r (len - 1) r.usage
by_kind r headers.Weak len = used_by r roles.Target (len - 1) r.usage

-- what is no header can't be there, and leaves it where it is
abbrev pub read_header : RecordAccess → Decoded → Answered
read_header r (HeaderWord head len serial mutator) = by_kind r head len
read_header r (NumberWord n) = GoesTo (LoadsHeader r)
read_header r (PointerWord address) = GoesTo (LoadsHeader r)
read_header r (ForwardWord len address) = GoesTo (LoadsHeader r)
read_header r (BusyWord len worker) = GoesTo (LoadsHeader r)
read_header r Malformed = GoesTo (LoadsHeader r)

abbrev pub is_header : Decoded → Bool
is_header (HeaderWord head len serial mutator) = true
is_header decoded = false

-- ---- by the count of a mixed record: its values begin behind that

abbrev pub valued : MixedAccess → Role → FieldUse → Answered
valued m role (field_uses.Loads into) = to_field (field_uses.Loads into) (field_of m.at 2 role m.value)
valued m role (field_uses.Stores new) = storing (field_of m.at 2 role m.value) (field_uses.Stores new) (may_hold (kind_of role) m.value (value_seen new))
valued m role (field_uses.Compares e) = storing (field_of m.at 2 role m.value) (field_uses.Compares e) (may_hold (kind_of role) m.value (value_seen e.new))

-- what is no number can't be there, and leaves it where it is
abbrev pub read_count : MixedAccess → Option ℕ → Answered
read_count m (Some count) = valued m (role_by_count count m.value) m.usage
read_count m None = GoesTo (LoadsCount m)

-- ---- by the word of a field that is to be exchanged

-- if that is what is expected, it is exchanged from there; else the register gets 0
abbrev pub compared : FieldAccess → FieldExchange → (word : ℕ) → Answered
compared f e word = if word_held (role_of f.role) word == e.expected then GoesTo (ExchangesField f e word) else Comes (Brings e.into (number_word 0))

-- ---- the table

abbrev pub answered_at : Layout → (epoch : ℕ) → AccessStage → Reply → Answered
answered_at l e (LooksAtRecord r) (replies.Value word) = looked (page_of r.at) e word (LoadsHeader r)
answered_at l e (LoadsHeader r) (replies.Value word) = read_header r (decode word)
answered_at l e (LooksAtCount m) (replies.Value word) = looked (page_of (count_at m)) e word (LoadsCount m)
answered_at l e (LoadsCount m) (replies.Value word) = read_count m (number_in (decode word))
answered_at l e (LooksAtField f usage) (replies.Value word) = looked (page_of (field_at f)) e word (uses_field f usage)
answered_at l e (LoadsField f into) (replies.Value word) = Comes (Brings into (word_held (role_of f.role) word))
answered_at l e (StoresField f new) replies.Done = Comes Stored
answered_at l e (LoadsForCas f exchange) (replies.Value word) = compared f exchange word
answered_at l e (ExchangesField f exchange old) replies.Won = Comes (Brings exchange.into (number_word 1))
answered_at l e (ExchangesField f exchange old) (replies.Lost word) = GoesTo (LoadsForCas f exchange)
answered_at l e (LooksAtBoard b) (replies.Value word) = looked (board_page l.pages) e word (uses_board b.word b.usage)
answered_at l e (LoadsBoard x into) (replies.Value word) = Comes (Brings into word)
answered_at l e (StoresBoard x new) replies.Done = Comes Stored
answered_at l e (LoadsForSwap s) (replies.Value word) = GoesTo (SwapsBoard s word)
answered_at l e (SwapsBoard s old) replies.Won = Comes (Brings s.into old)
answered_at l e (SwapsBoard s old) (replies.Lost word) = GoesTo (LoadsForSwap s)
answered_at l e stage reply = GoesTo stage

abbrev pub answered : Access → Reply → Answered
answered a reply = answered_at a.spaces a.epoch a.stage reply

abbrev pub at_stage : Access → AccessStage → Access
at_stage a stage = record a { stage = stage }

-- where it comes to something it stays as it is
abbrev pub goes_by : Access → Answered → Access
goes_by a (GoesTo stage) = at_stage a stage
goes_by a (WaitsAt stage) = at_stage a stage
goes_by a (Comes result) = a

abbrev pub turn_by : Answered → Turn Accessed
turn_by (GoesTo stage) = More
turn_by (WaitsAt stage) = Finished Awaits
turn_by (Comes result) = Finished result

abbrev pub taken : Access → Reply → Access
taken a reply = goes_by a (answered a reply)

abbrev pub told : Access → Reply → Turn Accessed
told a reply = turn_by (answered a reply)

-- ---- the steps left

-- but for those after a fault or a lost exchange
abbrev pub left_at : AccessStage → ℕ
left_at (LooksAtRecord r) = 7
left_at (LoadsHeader r) = 6
left_at (LooksAtCount m) = 5
left_at (LoadsCount m) = 4
left_at (LooksAtField f usage) = 3
left_at (LoadsField f into) = 1
left_at (StoresField f new) = 1
left_at (LoadsForCas f e) = 2
left_at (ExchangesField f e old) = 1
left_at (LooksAtBoard b) = 3
left_at (LoadsBoard x into) = 1
left_at (StoresBoard x new) = 1
left_at (LoadsForSwap s) = 2
left_at (SwapsBoard s old) = 1

abbrev pub left : Access → ℕ
left a = left_at a.stage

-- the reply takes it on to a later stage, if it comes to nothing yet
abbrev pub advances_at : AccessStage → Reply → Bool
advances_at (LooksAtRecord r) (replies.Value word) = true
advances_at (LoadsHeader r) (replies.Value word) = is_header (decode word)
advances_at (LooksAtCount m) (replies.Value word) = true
advances_at (LoadsCount m) (replies.Value word) = is_some (number_in (decode word))
advances_at (LooksAtField f usage) (replies.Value word) = true
advances_at (LoadsForCas f e) (replies.Value word) = true
advances_at (LooksAtBoard b) (replies.Value word) = true
advances_at (LoadsForSwap s) (replies.Value word) = true
advances_at stage reply = false

-- ---- what it keeps of itself

abbrev pub IsRegister : ℕ → Type 0
IsRegister r = r < 8

abbrev pub FitsRecordUse : RecordUse → Type 0
FitsRecordUse (record_uses.TellsLength into) = IsRegister into
FitsRecordUse (record_uses.Loads into) = IsRegister into
FitsRecordUse (record_uses.Stores new) = IsValueWord new
FitsRecordUse (record_uses.Compares e) = IsRegister e.into × IsValueWord e.new

-- of a mixed record's value, for which a register's word is still to be stored
abbrev pub FitsMixedUse : FieldUse → Type 0
FitsMixedUse (field_uses.Loads into) = IsRegister into
FitsMixedUse (field_uses.Stores new) = IsValueWord new
FitsMixedUse (field_uses.Compares e) = IsRegister e.into × IsValueWord e.new

abbrev pub FitsFieldUse : FieldUse → Type 0
FitsFieldUse (field_uses.Loads into) = IsRegister into
FitsFieldUse (field_uses.Stores new) = ⊤
FitsFieldUse (field_uses.Compares e) = IsRegister e.into

abbrev pub FitsBoardUse : BoardUse → Type 0
FitsBoardUse (board_uses.Loads into) = IsRegister into
FitsBoardUse (board_uses.Stores new) = ⊤
FitsBoardUse (board_uses.Swaps into new) = IsRegister into

abbrev pub IsHeapAddress : (pages addr : ℕ) → Type 0
IsHeapAddress n addr = addr < 2 * (PAGE_WORDS * n)

abbrev pub FitsStage : (pages : ℕ) → AccessStage → Type 0
FitsStage n (LooksAtRecord r) = IsHeapAddress n r.at × FitsRecordUse r.usage
FitsStage n (LoadsHeader r) = IsHeapAddress n r.at × FitsRecordUse r.usage
FitsStage n (LooksAtCount m) = IsHeapAddress n (m.at + (m.value + 2)) × FitsMixedUse m.usage
FitsStage n (LoadsCount m) = IsHeapAddress n (m.at + (m.value + 2)) × FitsMixedUse m.usage
FitsStage n (LooksAtField f usage) = IsHeapAddress n (field_at f) × FitsFieldUse usage
FitsStage n (LoadsField f into) = IsHeapAddress n (field_at f) × IsRegister into
FitsStage n (StoresField f new) = IsHeapAddress n (field_at f)
FitsStage n (LoadsForCas f e) = IsHeapAddress n (field_at f) × IsRegister e.into
FitsStage n (ExchangesField f e old) = IsHeapAddress n (field_at f) × IsRegister e.into
FitsStage n (LooksAtBoard b) = (b.word < BOARD_WORDS) × FitsBoardUse b.usage
FitsStage n (LoadsBoard x into) = (x < BOARD_WORDS) × IsRegister into
FitsStage n (StoresBoard x new) = x < BOARD_WORDS
FitsStage n (LoadsForSwap s) = (s.word < BOARD_WORDS) × IsRegister s.into
FitsStage n (SwapsBoard s old) = (s.word < BOARD_WORDS) × IsRegister s.into

pub record IsSoundAccess (a : Access) : Type 0 where
  pub pages : IsPageCount a.spaces.pages
  pub stage : FitsStage a.spaces.pages a.stage

-- a plain number that is loaded fits a word
abbrev pub AccessTakes : AccessStage → Reply → Type 0
AccessTakes (LoadsField f into) (replies.Value word) = FitsRole (role_of f.role) word
AccessTakes (LoadsForCas f e) (replies.Value word) = FitsRole (role_of f.role) word
AccessTakes stage reply = ⊤
