use Rattle.std.proofs.Common.{◌≡◌, List, map, sym, subst}
use Rattle.std.specs.Prelude.{nat_eq, option_map}
use Rattle.std.specs.HashMap.{get}
use Rattle.heap_audit.specs.Firsts.{TellsFirst}
use Rattle.heap_audit.specs.Places.{TellsFirstUnseen}
use Rattle.heap_audit.specs.Records.{NoneOwned, key_of}
use Rattle.heap_audit.specs.Told.{dump_told}
use Rattle.heap_audit.specs.Walks.{walked}
use Rattle.heap_audit.specs.declared.places.place.Place.TheVariants.{Word}
use Rattle.heap_audit.specs.declared.walks.RecordAt.{RecordAt}
use Rattle.heap_audit.proofs.WrongPlaces.FirstPlaces.{board_unseen}
use Rattle.heap_audit.proofs.ShownRecords.FoundWords.{mapped, met_in_heap, owned_in_heap, word_told}
use Rattle.heap_audit.proofs.places.first_place.first_place.Goals as goal

pub returns-in-Some-wrong_board_word-clause-first :
    goal.returns-in-Some-wrong_board_word-clause-first
returns-in-Some-wrong_board_word-clause-first c =
    let d = dump_told c.args.heap.now in
    board_unseen d c.args.plain.now c.in_default.ensures c.in_default-wrong_register.ensures c.in-Some-wrong_board_word.x c.in-Some-wrong_board_word.ensures.few c.in-Some-wrong_board_word.ensures.first

pub wrong_heap_word-requires-clause-owners : goal.wrong_heap_word-requires-clause-owners
wrong_heap_word-requires-clause-owners c =
    let d = dump_told c.args.heap.now in
    let rs = c.in_ok-walks.walks.records.items in
    λ i short.
    owned_in_heap d (map walked rs) i (get nat_eq c.in_ok-owners.owners.first (key_of i)) (met_in_heap d c.in_default.ensures c.in_ok-walks.walks c.in_ok-walks.ensures)
    (subst (λ (xs : List RecordAt). TellsFirst (NoneOwned d (map walked xs) i) (get nat_eq c.in_ok-owners.owners.first (key_of i))) c.as_slice.ensures.value (c.in_ok-owners.ensures i short))

pub returns-clause-first : goal.returns-clause-first
returns-clause-first c =
    let d = dump_told c.args.heap.now in
    let made : c.map.result ≡ option_map Word c.wrong_heap_word.result = mapped c.wrong_heap_word.result c.map.result _ (λ x r e. e) c.map.ensures.cases in
    subst (TellsFirstUnseen d c.args.plain.now) (sym made)
    (word_told d c.args.plain.now c.in_default.ensures c.in_default-wrong_register.ensures c.in_default-wrong_board_word.ensures.first c.wrong_heap_word.result c.wrong_heap_word.ensures.first)
