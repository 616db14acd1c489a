use Rattle.std.proofs.Common.{sym, ap, ◌∙◌, subst, arith}
use Rattle.std.proofs.lemmas.Result.{IfErr-weaker}
use Rattle.mutator_asm.specs.declared.instr.Instr.TheVariants.{St}
use Rattle.mutator_asm.specs.declared.operand.Operand.{Operand}
use Rattle.concordance.specs.Desk.{CanDo, desk_after}
use Rattle.concordance.specs.Lone.{desk_of}
use Rattle.concordance.specs.declared.registers.TheConstants.{ENTRY, HERE}
use Rattle.concordance.proofs.Desks.NotedWord.{noted_aside, noted_first, takes_entry, three_more}
use Rattle.concordance.proofs.FoundFull.{full_at_entry, full_at_new, passed_on}
use Rattle.concordance.proofs.clerk.Clerk.note.Goals as goal

pub does-requires-clause-can : goal.does-requires-clause-can
does-requires-clause-can g c =
    let n = c.requires.notes in
    let f = c.in-Side.ensures in
    let w = c.in_ok-note_word-in-Side.ensures in
    let place = f.place n.is.notes n.noted n.is.holds in
    subst (λ (x : Operand). CanDo (desk_of c.note_word.new.self) (St HERE x ENTRY)) (sym c.side.ensures)
    (takes_entry c.args.self.now c.find.new.self c.note_word.new.self c.args.word.now c.args.line c.requires.short f.records f.others w.records w.entry w.latest w.others n.is.notes n.noted n.is.holds place.0 c.in-Side.right place.1)

pub returns-in_ok-note_word-in-Side-clause-noted : goal.returns-in_ok-note_word-in-Side-clause-noted
returns-in_ok-note_word-in-Side-clause-noted g c noted is none_later =
    let f = c.in-Side.ensures in
    let w = c.in_ok-note_word-in-Side.ensures in
    let place = f.place is.notes noted is.holds in
    noted_aside c.args.self.now c.find.new.self c.note_word.new.self c.args.word.now c.args.line c.requires.short f.records f.others w.records w.entry w.latest w.others is.notes noted is.holds place.0 c.in-Side.right place.1 c.does.new.self
    (c.does.ensures.desk ∙ ap (λ (x : Operand). desk_after (desk_of c.note_word.new.self) (St HERE x ENTRY)) c.side.ensures)

pub returns-in_ok-note_word-in-Side-clause-made : goal.returns-in_ok-note_word-in-Side-clause-made
returns-in_ok-note_word-in-Side-clause-made g c =
    let n = c.requires.notes in
    let f = c.in-Side.ensures in
    let w = c.in_ok-note_word-in-Side.ensures in
    let place = f.place n.is.notes n.noted n.is.holds in
    let more = three_more c.args.self.now c.find.new.self c.note_word.new.self c.args.word.now c.args.line c.requires.short f.records f.others w.records w.entry w.latest w.others n.is.notes n.noted n.is.holds place.0 c.in-Side.right place.1 c.does.new.self
    (c.does.ensures.desk ∙ ap (λ (x : Operand). desk_after (desk_of c.note_word.new.self) (St HERE x ENTRY)) c.side.ensures) in
    omega (arith, more)

pub returns-in_ok-note_word-in-Nowhere-clause-noted : goal.returns-in_ok-note_word-in-Nowhere-clause-noted
returns-in_ok-note_word-in-Nowhere-clause-noted g c noted is none_later =
    let f = c.in-Nowhere.ensures in
    let w = c.in_ok-note_word-in-Nowhere.ensures in
    let place = f.place is.notes noted is.holds in
    noted_first c.args.self.now c.find.new.self c.note_word-in-Nowhere.new.self c.args.word.now c.args.line c.requires.short f.records f.others w.records w.entry w.latest w.others is.notes noted is.holds place.0 c.does-in-Nowhere.new.self place.1
    c.does-in-Nowhere.ensures.desk

-- ---- if the heap is full

pub returns-in-Here-clause-full : goal.returns-in-Here-clause-full
returns-in-Here-clause-full g c =
    let f = c.in-Here.ensures in
    IfErr-weaker c.note_line.result _ _ (λ full within noted more is. full_at_entry c.args.self.now c.find.new.self f.same f.records c.args.word.now c.args.line full.asked full.room is.notes noted is.holds more within) c.note_line.ensures.full

pub returns-in_err-note_word-in-Side-clause-full : goal.returns-in_err-note_word-in-Side-clause-full
returns-in_err-note_word-in-Side-clause-full g c =
    let f = c.in-Side.ensures in
    passed_on _ _ _ c.from_residual.ensures.1 (λ noted more is.
    full_at_new c.args.self.now c.find.new.self f.same f.records c.args.word.now c.args.line _ _ is.notes noted is.holds more c.requires.short (f.place is.notes noted is.holds).0 c.in_err-note_word-in-Side.ensures.full)

pub returns-in_err-note_word-in-Nowhere-clause-full : goal.returns-in_err-note_word-in-Nowhere-clause-full
returns-in_err-note_word-in-Nowhere-clause-full g c =
    let f = c.in-Nowhere.ensures in
    passed_on _ _ _ c.from_residual-in_err-note_word-in-Nowhere.ensures.1 (λ noted more is.
    full_at_new c.args.self.now c.find.new.self f.same f.records c.args.word.now c.args.line _ _ is.notes noted is.holds more c.requires.short (f.place is.notes noted is.holds).0 c.in_err-note_word-in-Nowhere.ensures.full)
