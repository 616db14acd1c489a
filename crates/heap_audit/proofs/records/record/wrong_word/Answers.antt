use Rattle.std.proofs.Common.{◌≡◌, ◌+◌, ◌∙◌, ℕ, true, false, Some, None, sym, ap, subst, arith}
use Rattle.heap_words.specs.Decoded.{decode}
use Rattle.plain_state.specs.declared.kind.Kind.{Kind}
use Rattle.plain_state.specs.Layout.{values_at}
use Rattle.record_layout.specs.Layout.{header_in}
use Rattle.heap_state.specs.Meaning.Denotes.{own_header_in}
use Rattle.heap_state.specs.Meaning.Represents.{own_header}
use Rattle.heap_state.specs.Meaning.Values.{CountShows}
use Rattle.heap_audit.specs.Firsts.{TellsFirst}
use Rattle.heap_audit.specs.Records.{IsCount, WordOfRecordShows}
use Rattle.heap_audit.specs.Told.{dump_told}
use Rattle.heap_audit.specs.Walks.{walked}
use Rattle.heap_audit.proofs.ShownRecords.OwnHeaders.{header_in-says}
use Rattle.heap_audit.proofs.ShownRecords.ShownHeads.{shown_kind, shown_record}
use Rattle.heap_audit.proofs.ShownRecords.RecordWords.{all_show, count_wrong, headless_shows, headless_wrong, target_wrong, value_wrong}
use Rattle.heap_audit.proofs.records.record.wrong_word.Goals as goal

count_as : (k j : Kind) (x y : ℕ) → k ≡ j → x ≡ y → CountShows k (λ a. x) 0 → CountShows j (λ a. y) 0
count_as k j x y kinds words shows = subst (λ (z : Kind). CountShows z (λ a. y) 0) kinds (subst (λ (z : ℕ). CountShows k (λ a. z) 0) words shows)

pub returns-then-must_own-clause-first : goal.returns-then-must_own-clause-first
returns-then-must_own-clause-first c =
    let d = dump_told c.args.heap.now in
    let none : None ≡ header_in (own_header d c.args.found.at) =
    sym c.in_default.is ∙ (c.own_header.ensures ∙ ap (λ w. header_in (own_header_in d.kept (decode w))) c.word.ensures) in
    let wrong = headless_wrong d c.args.plain.now (walked c.args.found) none (c.must_own.ensures.0 c.if-must_own.true) in
    (λ shows. wrong (shows.head (λ i. 0)), λ a l. absurd (omega arith))

pub returns-else-must_own-clause-first : goal.returns-else-must_own-clause-first
returns-else-must_own-clause-first c =
    let d = dump_told c.args.heap.now in
    let none : None ≡ header_in (own_header d c.args.found.at) =
    sym c.in_default.is ∙ (c.own_header.ensures ∙ ap (λ w. header_in (own_header_in d.kept (decode w))) c.word.ensures) in
    headless_shows d c.args.plain.now (walked c.args.found) none (λ must. let q : true ≡ false = sym (c.must_own.ensures.1 must) ∙ c.if-must_own.false in cc)

pub shown_by_head-requires-clause-owned : goal.shown_by_head-requires-clause-owned
shown_by_head-requires-clause-owned c =
    let d = dump_told c.args.heap.now in
    header_in-says (own_header d c.args.found.at) c.in-Some.header (sym (c.own_header.ensures ∙ ap (λ w. header_in (own_header_in d.kept (decode w))) c.word.ensures) ∙ c.in-Some.is)

pub returns-then-not-count_shows-clause-first : goal.returns-then-not-count_shows-clause-first
returns-then-not-count_shows-clause-first c =
    let d = dump_told c.args.heap.now in
    let p = c.args.plain.now in
    let w = walked c.args.found in
    let h = c.in-Some.header in
    let owned = header_in-says (own_header d c.args.found.at) h (sym (c.own_header.ensures ∙ ap (λ x. header_in (own_header_in d.kept (decode x))) c.word.ensures) ∙ c.in-Some.is) in
    let r = c.in-Some-shown_by_head.wanted.now in
    let s = c.in-Some-shown_by_head.ensures.shows in
    count_wrong d p w h c.requires.walked owned r (shown_record d p w h owned r s.0) (shown_kind d p w h owned r s.0) s.0.size s.1
    (λ shows. let q : true ≡ false = sym (c.count_shows.ensures.shows.1 (count_as r.kind c.kind.result (d.table.heap (c.args.found.at + 1)) c.word-2.result (sym c.kind.ensures) (sym c.word-2.ensures) shows)) ∙ c.if-not-count_shows.true in cc)

pub returns-then-not-target_shows-clause-first : goal.returns-then-not-target_shows-clause-first
returns-then-not-target_shows-clause-first c =
    let d = dump_told c.args.heap.now in
    let p = c.args.plain.now in
    let w = walked c.args.found in
    let h = c.in-Some.header in
    let owned = header_in-says (own_header d c.args.found.at) h (sym (c.own_header.ensures ∙ ap (λ x. header_in (own_header_in d.kept (decode x))) c.word.ensures) ∙ c.in-Some.is) in
    let r = c.in-Some-shown_by_head.wanted.now in
    let s = c.in-Some-shown_by_head.ensures.shows in
    let counted = count_as c.kind.result r.kind c.word-2.result (d.table.heap (c.args.found.at + 1)) c.kind.ensures c.word-2.ensures (c.count_shows.ensures.shows.0 c.if-not-count_shows.false) in
    target_wrong d p w h c.requires.walked owned r (shown_record d p w h owned r s.0) (shown_kind d p w h owned r s.0) s.0.size s.1 counted (subst IsCount c.kind.ensures c.count_shows.ensures.fits)
    (λ shows. let q : true ≡ false = sym (c.target_shows.ensures.1 shows) ∙ c.if-not-target_shows.true in cc)

pub returns-in_err-x-clause-first : goal.returns-in_err-x-clause-first
returns-in_err-x-clause-first c =
    let d = dump_told c.args.heap.now in
    let p = c.args.plain.now in
    let w = walked c.args.found in
    let h = c.in-Some.header in
    let owned = header_in-says (own_header d c.args.found.at) h (sym (c.own_header.ensures ∙ ap (λ x. header_in (own_header_in d.kept (decode x))) c.word.ensures) ∙ c.in-Some.is) in
    let r = c.in-Some-shown_by_head.wanted.now in
    let s = c.in-Some-shown_by_head.ensures.shows in
    let counted = count_as c.kind.result r.kind c.word-2.result (d.table.heap (c.args.found.at + 1)) c.kind.ensures c.word-2.ensures (c.count_shows.ensures.shows.0 c.if-not-count_shows.false) in
    let all = all_show d p w h c.requires.walked owned r (shown_record d p w h owned r s.0) (shown_kind d p w h owned r s.0) s.0.size s.1 counted (subst IsCount c.kind.ensures c.count_shows.ensures.fits)
    (c.target_shows.ensures.0 c.if-not-target_shows.false) c.in_err-x.ensures.first in
    subst (TellsFirst (WordOfRecordShows d p w)) (sym c.from_residual.ensures) all

pub returns-clause-first : goal.returns-clause-first
returns-clause-first c =
    let d = dump_told c.args.heap.now in
    let p = c.args.plain.now in
    let w = walked c.args.found in
    let h = c.in-Some.header in
    let owned = header_in-says (own_header d c.args.found.at) h (sym (c.own_header.ensures ∙ ap (λ x. header_in (own_header_in d.kept (decode x))) c.word.ensures) ∙ c.in-Some.is) in
    let r = c.in-Some-shown_by_head.wanted.now in
    let s = c.in-Some-shown_by_head.ensures.shows in
    let counted = count_as c.kind.result r.kind c.word-2.result (d.table.heap (c.args.found.at + 1)) c.kind.ensures c.word-2.ensures (c.count_shows.ensures.shows.0 c.if-not-count_shows.false) in
    let wrong = value_wrong d p w h c.requires.walked owned r (shown_record d p w h owned r s.0) (shown_kind d p w h owned r s.0) s.0.size s.1 counted (subst IsCount c.kind.ensures c.count_shows.ensures.fits)
    (c.target_shows.ensures.0 c.if-not-target_shows.false) c.in_ok-x.x c.in_ok-x.ensures.there c.in_ok-x.ensures.first.0 c.in_ok-x.ensures.first.1 in
    subst (λ (k : ℕ). TellsFirst (WordOfRecordShows d p w) (Some (c.in_ok-x.x + k))) (sym (c.values_at.ensures ∙ ap values_at c.kind-2.ensures)) wrong
