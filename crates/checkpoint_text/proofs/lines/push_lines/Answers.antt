use Rattle.std.proofs.Common.{◌≡◌, List, ◌++◌, string_bytes, take, sym, ap, ◌∙◌, arith, refl}
use Rattle.std.specs.List.{flat_map}
use Rattle.std.proofs.lemmas.List.{take_all}
use Rattle.space_map.specs.Spaces.{board_page, first_word}
use Rattle.plain_heap.specs.Checkpoints.Checkpoint.{board_line, number_line, record_line}
use Rattle.checkpoint_text.specs.declared.saved_record.SavedRecord.{SavedRecord}
use Rattle.checkpoint_text.specs.Records.{content_of, values_read}
use Rattle.checkpoint_text.specs.Words.{saved_heap}
use Rattle.checkpoint_text.proofs.CheckpointLines.{none_told, some_told}
use Rattle.checkpoint_text.proofs.Pieces.{onto}
use Rattle.checkpoint_text.proofs.lines.push_lines.Goals as goal

pub returns-then-number-eq0 : goal.returns-then-number-eq0
returns-then-number-eq0 c =
    let saved = c.args.words.now in
    let number = c.number.result in
    let none = sym c.number-2.ensures ∙ c.if-number-eq0.true in (
      number_line number,
      none_told saved.spaces.pages saved.words.now saved.counted saved.whole (number_line number) none (ap number_line (c.number.ensures ∙ none)),
      c.in_ok-push_first_line.ensures,
    )

pub returns : goal.returns
returns c =
    let saved = c.args.words.now in
    let before = string_bytes c.args.out.now in
    let records = c.in_ok-records.records.items in
    let number = c.number.result in
    let board = board_line (values_read (saved_heap saved) (first_word (board_page saved.spaces.pages)) 16 16) in
    let line = λ (r : SavedRecord). record_line (content_of (saved_heap saved) r) in
    let all : take c.loop-record.record-index c.deref-record-items.result.now ≡ records = take_all c.loop-record.record-index c.deref-record-items.result.now (omega arith) ∙ c.deref-record-items.ensures.value in
    let two : string_bytes c.push_board.new.out ≡ before ++ (number_line number ++ board) = onto before _ _ (number_line number) board c.in_ok-push_first_line.ensures c.in_ok-push_board.ensures in
    let three : string_bytes c.loop-record.out ≡ before ++ ((number_line number ++ board) ++ flat_map line records) =
    onto before _ _ (number_line number ++ board) (flat_map line records) two (c.loop-record.invariant ∙ ap (λ (rs : List SavedRecord). string_bytes c.push_board.new.out ++ flat_map line rs) all) in (
      (number_line number ++ board) ++ flat_map line records,
      some_told saved.spaces.pages saved.words.now saved.counted saved.whole saved.fit number ((number_line number ++ board) ++ flat_map line records) records c.number.ensures (λ none. c.if-number-eq0.false (c.number-2.ensures ∙ sym c.number.ensures ∙ none)) c.in_ok-records.ensures refl,
      three,
    )
