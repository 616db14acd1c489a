use Rattle.std.proofs.Common.{◌∙◌, ap, sym, subst, ℕ, List, ◌<◌, ◌^◌, length}
use Rattle.std.specs.Global.{Vec}
use Rattle.mutator_asm.specs.Text.{IsText}
use Rattle.mutator_asm.proofs.Listings.TextOfProgram.{listing_short}
use Rattle.program_text.proofs.Listings.Written.{listing_text, section_few, section_closed, section_more}
use Rattle.program_text.proofs.listing.list.Goals as goal

pub push_section-requires-clause-few : goal.push_section-requires-clause-few
push_section-requires-clause-few c =
    section_few c.sections-section-items.result.now c.loop-section.section-index _ _ (c.as_slice-in-loop-section.ensures ∙ c.section-item.is) c.loop-section-test.true (rw c.sections-section-items.ensures c.args.program.now.well_formed.few_instrs)

pub push_section-requires-clause-closed : goal.push_section-requires-clause-closed
push_section-requires-clause-closed c =
    section_closed c.sections-section-items.result.now c.loop-section.section-index _ _ (c.as_slice-in-loop-section.ensures ∙ c.section-item.is) c.loop-section-test.true (rw c.sections-section-items.ensures c.args.program.now.well_formed.targets)

pub loop-section-preserved : goal.loop-section-preserved
loop-section-preserved c =
    section_more c.sections-section-items.result.now c.loop-section.section-index _ _ _ _ _ (c.as_slice-in-loop-section.ensures ∙ c.section-item.is) c.loop-section-test.true c.in_ok-push_section.ensures c.loop-section.invariant

pub returns-clause-exact : goal.returns-clause-exact
returns-clause-exact c =
    let text = listing_text c.sections-section-items.result.now c.as_slice.result.now c.loop-section.section-index _ _ c.loop-section-test.false (rw c.new-out.ensures.bytes at c.in_ok-push_schedule.ensures) c.loop-section.invariant in
    ap (λ (v : Vec ℕ). v.items) c.into_bytes.ensures.value ∙ rw (c.sections-section-items.ensures, c.as_slice.ensures) at text

pub returns-clause-text : goal.returns-clause-text
returns-clause-text c =
    let program = c.args.program.now in
    subst (λ (bytes : List ℕ). IsText bytes program.code program.schedule) (sym (returns-clause-exact c)) program.listed

pub returns-clause-short : goal.returns-clause-short
returns-clause-short c =
    let program = c.args.program.now in
    subst (λ (bytes : List ℕ). length bytes < 2 ^ 31) (sym (returns-clause-exact c)) (listing_short program.code program.schedule program.well_formed)
