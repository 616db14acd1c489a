use Rattle.std.proofs.Common.{string_bytes}
use Rattle.std.proofs.lemmas.Result.{IfOk-weaker}
use Rattle.ael_picture.specs.declared.style.TheConstants.{STYLE}
use Rattle.ael_picture.proofs.Clean.{is_markup}
use Rattle.ael_picture.proofs.svg.svg.Goals as goal

pub returns-clause-well_formed : goal.returns-clause-well_formed
returns-clause-well_formed c = IfOk-weaker c.written.result _ _ (λ text e. is_markup c.args.width c.args.height STYLE.now c.args.shapes.now (string_bytes text) e) c.written.ensures
