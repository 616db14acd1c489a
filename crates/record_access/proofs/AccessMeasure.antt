-- A reply that takes an access on leaves it less to do.
use Rattle.std.proofs.Common.{◌≡◌, ℕ, ◌+◌, ◌-◌, ◌<◌, ◌==◌, Bool, true, false, cond, Option, Some, None, is_some, Result, Ok, Err, arith}
use Rattle.atom_store.specs.declared.reply.Reply.{Reply}
use Rattle.atom_store.specs.declared.reply.Reply.TheVariants.{Value}
use Rattle.atom_store.specs.declared.turn.Turn.TheVariants.{More}
use Rattle.heap_words.specs.Decoded.{Decoded, HeaderWord, decode, number_in}
use Rattle.heap_words.specs.declared.kind.Kind.{Kind}
use Rattle.heap_words.specs.declared.kind.Kind.TheVariants as headers
use Rattle.heap_words.specs.Word.{number_word}
use Rattle.heap_state.specs.Meaning.Loaded.{word_held}
use Rattle.mmu_model.specs.Protection.{protection_of}
use Rattle.mmu_model.specs.declared.protection.Protection.{Protection}
use Rattle.mmu_model.specs.declared.protection.Protection.TheVariants.{Allowed, Fault}
use Rattle.plain_state.specs.Holding.{in_record, may_hold}
use Rattle.plain_state.specs.declared.end.End.{End}
use Rattle.plain_state.specs.declared.value.Value.{Value as PlainValue}
use Rattle.space_map.specs.PageWord.{decode_page}
use Rattle.space_map.specs.Spaces.{board_page, page_of}
use Rattle.record_access.specs.declared.access.Access.{Access}
use Rattle.record_access.specs.declared.access_stage.AccessStage.{AccessStage}
use Rattle.record_access.specs.declared.access_stage.AccessStage.TheVariants.{LooksAtRecord, LoadsHeader, LooksAtCount, LoadsCount, LooksAtField, LoadsForCas, ExchangesField, LooksAtBoard, LoadsForSwap}
use Rattle.record_access.specs.declared.board_access.BoardUse.{BoardUse}
use Rattle.record_access.specs.declared.board_access.BoardUse.TheVariants as board_uses
use Rattle.record_access.specs.declared.field_access.FieldAccess.{FieldAccess}
use Rattle.record_access.specs.declared.accessed.Accessed.TheVariants.{Brings}
use Rattle.record_access.specs.declared.field_access.FieldExchange.{FieldExchange}
use Rattle.record_access.specs.declared.field_access.FieldUse.{FieldUse}
use Rattle.record_access.specs.declared.field_access.FieldUse.TheVariants as field_uses
use Rattle.record_access.specs.declared.field_access.Role.{Role}
use Rattle.record_access.specs.declared.field_access.Role.TheVariants as roles
use Rattle.record_access.specs.declared.mixed_access.MixedAccess.{MixedAccess}
use Rattle.record_access.specs.declared.record_access.RecordAccess.{RecordAccess}
use Rattle.record_access.specs.declared.record_access.RecordUse.{RecordUse}
use Rattle.record_access.specs.declared.record_access.RecordUse.TheVariants as record_uses
use Rattle.record_access.specs.Seen.{value_seen}
use Rattle.record_access.specs.Access.{Answered, advances_at, at_stage, by_kind, count_at, counted_by, counting, field_at, field_of, goes_at, goes_by, goes_to_field, is_header, kind_of, left, left_at, let_through, loading, looked, may_store, read_before, read_count, read_header, role_by_count, storing, taken, told, turn_by, used_by, uses_board, uses_field, valued, Comes, GoesTo, compared, role_of, with_new, word_as}

by_use : (f : FieldAccess) (usage : FieldUse) → left_at (uses_field f usage) < 3
by_use f (field_uses.Loads _) = omega arith
by_use f _ = omega arith

by_board_use : (word : ℕ) (usage : BoardUse) → left_at (uses_board word usage) < 3
by_board_use word (board_uses.Loads _) = omega arith
by_board_use word _ = omega arith

by_field : (f : FieldAccess) (usage : FieldUse) → left_at (goes_to_field f usage) < 4
by_field f usage = by_test (page_of (read_before f) == page_of (field_at f))
  where
    by_test : (b : Bool) → left_at (cond b (uses_field f usage) (LooksAtField f usage)) < 4
    by_test true = let u = by_use f usage in omega (arith, u)
    by_test false = omega arith

module _ (a : Access) where
  -- it goes on, and then less is left
  abbrev Lowers : Answered → ℕ → Type 0
  Lowers answer most = turn_by answer ≡ More → left (goes_by a answer) < most

  by_protection : (o : Protection) (next : AccessStage) (most : ℕ) → left_at next < most → Lowers (let_through o next) most
  by_protection Allowed next most fewer more = fewer
  by_protection (Fault page) next most fewer more = absurd (cc)

  by_page : (page word : ℕ) (next : AccessStage) (most : ℕ) → left_at next < most → Lowers (looked page a.epoch word next) most
  by_page page word next most fewer = by_protection (protection_of page (decode_page word) a.epoch) next most fewer

  -- whatever role the word has
  by_role : (role : Role) (stage : AccessStage) (most : ℕ) → left_at stage < most → Lowers (goes_at role stage) most
  by_role roles.Field stage most fewer more = fewer
  by_role roles.Number stage most fewer more = fewer
  by_role roles.Target stage most fewer more = absurd (cc)

  by_loading : (f : FieldAccess) (into : ℕ) (o : Result ℕ End) → Lowers (loading f into o) 4
  by_loading f into (Ok x) more = by_role f.role (goes_to_field f (field_uses.Loads into)) 4 (by_field f (field_uses.Loads into)) more
  by_loading f into (Err why) more = absurd (cc)

  by_storing : (f : FieldAccess) (usage : FieldUse) (o : Result PlainValue End) → Lowers (storing f usage o) 4
  by_storing f usage (Ok v) more = by_role f.role (goes_to_field f (with_new usage (word_as f.role v))) 4 (by_field f (with_new usage (word_as f.role v))) more
  by_storing f usage (Err why) more = absurd (cc)

  by_usage : (r : RecordAccess) (role : Role) (len : ℕ) (usage : RecordUse) → Lowers (used_by r role len usage) 6
  by_usage r role len (record_uses.TellsLength into) more = absurd (cc)
  by_usage r role len (record_uses.Loads into) more = let l = by_loading (field_of r.at 1 role r.value) into (in_record len r.value) more in omega (arith, l)
  by_usage r role len (record_uses.Stores new) more = let l = by_storing (field_of r.at 1 role r.value) (field_uses.Stores new) (may_store role new (in_record len r.value)) more in omega (arith, l)
  by_usage r role len (record_uses.Compares e) more = let l = by_storing (field_of r.at 1 role r.value) (field_uses.Compares e) (may_store role e.new (in_record len r.value)) more in omega (arith, l)

  by_counting : (at : ℕ) (usage : FieldUse) (o : Result ℕ End) → Lowers (counting at usage o) 6
  by_counting at usage (Ok x) more = by_test (page_of at == page_of (at + 1))
    where
      by_test : (b : Bool) → left_at (cond b (LoadsCount (record { at = at; value = x; usage = usage })) (LooksAtCount (record { at = at; value = x; usage = usage }))) < 6
      by_test true = omega arith
      by_test false = omega arith
  by_counting at usage (Err why) more = absurd (cc)

  by_mixed : (r : RecordAccess) (len : ℕ) (usage : RecordUse) → Lowers (counted_by r len usage) 6
  by_mixed r len (record_uses.TellsLength into) more = absurd (cc)
  by_mixed r len (record_uses.Loads into) more = by_counting r.at (field_uses.Loads into) (in_record len r.value) more
  by_mixed r len (record_uses.Stores new) more = by_counting r.at (field_uses.Stores new) (in_record len r.value) more
  by_mixed r len (record_uses.Compares e) more = by_counting r.at (field_uses.Compares e) (in_record len r.value) more

  by_head : (r : RecordAccess) (head : Kind) (len : ℕ) → Lowers (by_kind r head len) 6
  by_head r headers.Fields len = by_usage r roles.Field len r.usage
  by_head r headers.Raw len = by_usage r roles.Number len r.usage
  by_head r headers.Mixed len = by_mixed r (len - 1) r.usage
  by_head r headers.Weak len = by_usage r roles.Target (len - 1) r.usage

  by_header : (r : RecordAccess) (d : Decoded) → is_header d ≡ true → Lowers (read_header r d) 6
  by_header r (HeaderWord head len serial mutator) t = by_head r head len
  by_header r _ t = absurd (cc)

  by_value : (m : MixedAccess) (role : Role) (usage : FieldUse) → Lowers (valued m role usage) 4
  by_value m role (field_uses.Loads into) more =
      let f = field_of m.at 2 role m.value in by_role role (goes_to_field f (field_uses.Loads into)) 4 (by_field f (field_uses.Loads into)) more
  by_value m role (field_uses.Stores new) more = by_storing (field_of m.at 2 role m.value) (field_uses.Stores new) (may_hold (kind_of role) m.value (value_seen new)) more
  by_value m role (field_uses.Compares e) more = by_storing (field_of m.at 2 role m.value) (field_uses.Compares e) (may_hold (kind_of role) m.value (value_seen e.new)) more

  by_count : (m : MixedAccess) (o : Option ℕ) → is_some o ≡ true → Lowers (read_count m o) 4
  by_count m (Some count) t = by_value m (role_by_count count m.value) m.usage
  by_count m None t = absurd (cc)

  by_comparison : (f : FieldAccess) (e : FieldExchange) (word : ℕ) → Lowers (compared f e word) 2
  by_comparison f e word more = by_test (word_held (role_of f.role) word == e.expected) more
    where
      by_test : (b : Bool) → Lowers (cond b (GoesTo (ExchangesField f e word)) (Comes (Brings e.into (number_word 0)))) 2
      by_test true more = omega arith
      by_test false more = absurd (cc)

pub accesses_lower : (a : Access) (stage : AccessStage) (r : Reply) → told (at_stage a stage) r ≡ More → advances_at stage r ≡ true → left (taken (at_stage a stage) r) < left_at stage
accesses_lower a (LooksAtRecord r) (Value word) more t = by_page (at_stage a (LooksAtRecord r)) (page_of r.at) word (LoadsHeader r) 7 (omega arith) more
accesses_lower a (LoadsHeader r) (Value word) more t = by_header (at_stage a (LoadsHeader r)) r (decode word) t more
accesses_lower a (LooksAtCount m) (Value word) more t = by_page (at_stage a (LooksAtCount m)) (page_of (count_at m)) word (LoadsCount m) 5 (omega arith) more
accesses_lower a (LoadsCount m) (Value word) more t = by_count (at_stage a (LoadsCount m)) m (number_in (decode word)) t more
accesses_lower a (LooksAtField f usage) (Value word) more t = by_page (at_stage a (LooksAtField f usage)) (page_of (field_at f)) word (uses_field f usage) 3 (by_use f usage) more
accesses_lower a (LoadsForCas f e) (Value word) more t = by_comparison (at_stage a (LoadsForCas f e)) f e word more
accesses_lower a (LooksAtBoard b) (Value word) more t = by_page (at_stage a (LooksAtBoard b)) (board_page a.spaces.pages) word (uses_board b.word b.usage) 3 (by_board_use b.word b.usage) more
accesses_lower a (LoadsForSwap s) (Value word) more t = omega arith
accesses_lower a stage r more t = cc
