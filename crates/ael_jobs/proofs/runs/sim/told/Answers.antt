use Rattle.std.proofs.Common.{◌∙◌, ap, ℕ}
use Rattle.std.specs.Global.{Vec}
use Rattle.std.proofs.lemmas.Result.{IfOk-weaker}
use Rattle.ael_jobs.proofs.runs.sim.told.Goals as goal

pub returns : goal.returns
returns c =
    let heap = c.in_ok-push_heap.ensures.text in
    IfOk-weaker c.new.result _ _ (λ answer new. (
      new.1 ∙ c.verdict.ensures,
      c.in_ok-push_heap.ensures.words,
      c.in_ok-push_mutators.ensures.ends,
      heap.0,
      heap.1,
      new.0 ∙ ap (λ (v : Vec ℕ). v.items) c.into_bytes.ensures.value
          ∙ rw (heap.2, c.in_ok-push_order_if.ensures, c.in_ok-push_mutators.ensures.lines, c.new-output.ensures.bytes),
    )) c.new.ensures.whole
