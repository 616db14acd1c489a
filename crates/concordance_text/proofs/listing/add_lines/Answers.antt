use Rattle.std.proofs.Common.{◌≡◌, ◌∙◌, None, Some, Vec, BTreeMap, Global, ℕ, ap, sym}
use Rattle.std.specs.BTreeMap.{insert_entry}
use Rattle.std.specs.Map.{lookup, set_value}
use Rattle.concordance_text.specs.Rows.{rows_of_entries}
use Rattle.concordance_text.proofs.Additions.{appended, inserted, is_word, key_cmp}
use Rattle.concordance_text.proofs.listing.add_lines.Goals as goal

pub returns-in_ok-append-in-Some : goal.returns-in_ok-append-in-Some
returns-in_ok-append-in-Some c =
    let es = c.args.words.now.entries in
    let found : lookup (is_word c.args.word.items) es ≡ Some c.in-Some.before.now =
    ap (λ bs. lookup (is_word bs) es) (sym c.as_slice.ensures.value) ∙ sym c.in-Some.ensures.value in
    ap rows_of_entries ((c.get_mut.follows.holds c.append.new.self).0)
    ∙ ap (λ bs. rows_of_entries (set_value (is_word bs) es c.append.new.self)) c.as_slice.ensures.value
    ∙ appended c.args.word.items c.args.lines.items c.in-Some.before.now c.append.new.self es c.get_mut.ensures.ordered c.in_ok-append-in-Some.ensures.items found

pub returns-in_ok-insert-in-None : goal.returns-in_ok-insert-in-None
returns-in_ok-insert-in-None c =
    let es = c.args.words.now.entries in
    let none : lookup (is_word c.args.word.items) es ≡ None =
    ap (λ bs. lookup (is_word bs) es) (sym c.as_slice.ensures.value) ∙ sym c.in-None.ensures.value in
    ap rows_of_entries c.in_ok-insert-in-None.ensures.entries
    ∙ ap (λ (m : BTreeMap (Vec ℕ Global) (Vec ℕ Global)). rows_of_entries (insert_entry key_cmp m.entries c.args.word c.args.lines)) c.get_mut.follows.holds-at-none
    ∙ inserted c.args.word c.args.lines es none
