use Rattle.std.proofs.lemmas.Result.{IfErr-weaker}
use Rattle.concordance.proofs.FoundFull.{full_for_entry, full_for_letters, full_for_line, passed_on}
use Rattle.concordance.proofs.clerk.Clerk.note_word.Goals as goal

pub returns-in_err-make_letters-clause-full : goal.returns-in_err-make_letters-clause-full
returns-in_err-make_letters-clause-full g c = passed_on _ _ _ c.from_residual.ensures.1 (full_for_letters c.args.self.now c.args.word.now _ _ c.in_err-make_letters.ensures.full)

pub returns-in_err-make_line-clause-full : goal.returns-in_err-make_line-clause-full
returns-in_err-make_line-clause-full g c =
    let letters = c.in_ok-make_letters.ensures in
    passed_on _ _ _ c.from_residual-in_err-make_line.ensures.1 (full_for_line c.args.self.now c.args.word.now _ _ c.make_letters.new.self letters.same letters.records c.in_err-make_line.ensures.full)

pub returns-clause-full : goal.returns-clause-full
returns-clause-full g c =
    let letters = c.in_ok-make_letters.ensures in
    let lines = c.in_ok-make_line.ensures in
    IfErr-weaker c.make_entry.result _ _ (λ full. full_for_entry c.args.self.now c.args.word.now full.asked full.room c.make_letters.new.self letters.same letters.records c.make_line.new.self c.args.line lines.same lines.records) c.make_entry.ensures.full
