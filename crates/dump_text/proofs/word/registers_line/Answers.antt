use Rattle.std.proofs.Common.{List, ℕ, Some, sym, ap, take, ◌∙◌, arith}
use Rattle.std.proofs.lemmas.List.{take_more_set, take_all, length-set}
use Rattle.plain_state.specs.declared.sizes.TheConstants.{REGISTERS}
use Rattle.dump_text.specs.Pieces.{registers_at}
use Rattle.dump_text.proofs.Row.{word_goes_on, words_done}
use Rattle.dump_text.proofs.word.registers_line.Goals as goal

pub loop-i-preserved : goal.loop-i-preserved
loop-i-preserved c =
    let before = c.loop-i.invariant in
    record {
      long = length-set c.loop-i.registers c.loop-i.i c.in_ok-word.word ∙ before.long;
      so_far = rw (take_more_set c.loop-i.registers c.loop-i.i c.in_ok-word.word (omega (arith, before.long)))
          (word_goes_on (take c.loop-i.i c.loop-i.registers) REGISTERS c.loop-i.i c.loop-i.rest.now _ c.in_ok-word.word c.in_ok-word.after.now c.loop-i-test.true (sym (rw c.behind.ensures at c.in_ok-word.ensures)) before.so_far);
    }

pub returns : goal.returns
unfolding registers_at
returns c =
    let before = c.loop-i.invariant in
    ap (λ (words : List ℕ). Some (words, c.loop-i.rest.now)) (sym (take_all c.loop-i.i c.loop-i.registers (omega (arith, before.long))))
    ∙ sym (words_done (take c.loop-i.i c.loop-i.registers) REGISTERS c.loop-i.i c.loop-i.rest.now _ c.loop-i-test.false before.so_far)
